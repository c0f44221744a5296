-- A target that is read and then written: source and result arrive at the same reference, with the same value.
use Rattle.std.proofs.Common.{◌≡◌, refl, List, [], ◌∷◌, ◌++◌, ap, ◌∙◌, sym}
use Rattle.std.specs.Prelude.{Bool, true, false, bytes_eq, ◌||◌, not}
use Rattle.es_tree.specs.Words.{Text}
use Rattle.es_tree.specs.Names.{first_text}
use Rattle.es_tree.specs.Tree.{Tree, node, kind_of, Label, done, trees}
use Rattle.es_tree.specs.declared.ast_type.AstType.TheVariants.{BigIntLiteral, BooleanLiteral, Identifier, NullLiteral, NumericLiteral, StringLiteral, Super}
use Rattle.es_runs.specs.Machine.{Value, M, ◌>>=◌, onward, return, ask, State, Result, Cell}
use Rattle.es_runs.specs.Machine.Value.{undefined, null, boolean, number, bigint, text}
use Rattle.es_runs.specs.Machine.State.{state}
use Rattle.es_runs.specs.Machine.Cell.{unset, holds}
use Rattle.es_runs.specs.Machine.Question.{get}
use Rattle.es_runs.specs.Machine.Result.{gives, stops}
use Rattle.es_runs.specs.Runs.{cells, identifier, only}
use Rattle.es_runs.specs.Rules.{assign_node}
use Rattle.es_runs.specs.Core.{World, Reference, Meaning, Form, value, get_value, put_value, key, member, name, literal, number_form, second, last_value, meaning, meanings, is_free, is_pattern, flag, flag_after, is_spread_kind}
use Rattle.es_runs.specs.Core.Binding.{changeable}
use Rattle.es_runs.specs.Core.Reference.{named, property}
use Rattle.es_runs.specs.Core.Form.{other, null_form}
use Rattle.es_runs.specs.Alike.{Frame, set_cells, kept_cells, Agree, Same, Alike, Equal, SameTarget, SameWorld, Level, the_value, object_need, value_and_form, touches, bad_names}
use Rattle.es_runs.specs.Alike.Agree.{agree}
use Rattle.es_runs.specs.Alike.Equal.{equal}
use Rattle.es_runs.specs.Alike.Level.{a_target}
use Rattle.es_runs.specs.Alike.Same.{both_give, both_stop}
use Rattle.es_runs.specs.Alike.SameReference.{same_name}
use Rattle.es_runs.specs.Alike.SameTarget.{target_name, target_property}
use Rattle.es_runs.specs.Exponentiation.{TargetTwice, Holds, is_literal_key, is_classless, is_super_kind}
use Rattle.es_runs.specs.Exponentiation.Holds.{where_it_is, in_temporary}
use Rattle.es_runs.specs.Exponentiation.TargetTwice.{bound_name, other_name, static_member, private_member, literal_key, other_key}
use Rattle.es_runs.proofs.Basic.{onward_same, ask_alike, get_alike}
use Rattle.es_runs.proofs.Duplicated.{AllSet, Gives, Twice, kept_agree, kept_like, kept_same, now_kept, now_set, onward_twice, stored_twice}
use Rattle.es_runs.proofs.Fresh.{or_left, or_right}
use Rattle.es_runs.proofs.AgreeingCells.{agree_fits}
use Rattle.es_runs.proofs.Named.{and_left}
use Rattle.es_runs.proofs.SameOthers.{SameOthers}
use Rattle.es_runs.proofs.NullishCoalescingValues.{cell_gives}
use Rattle.es_runs.proofs.Temporary.{bytes_eq-equal, bytes_eq-self, onward_onward, plain_again}
use Rattle.es_runs.proofs.OptionalChainingNeeds.{object_free}
use Rattle.es_runs.proofs.Written.{one_of}

-- ARRIVING

-- a reference, and the value that it had
pub data Arrived : Type 0 where
  arrived : Reference → Value → Arrived

pub data SameArrived (F : Frame) : Arrived → Arrived → Type 0 where
  same_arrived : {r q : Reference} {x : Value} → SameTarget F r q → SameArrived F (arrived r x) (arrived q x)

-- a target is evaluated once, and read
abbrev pub reaches : World → Meaning → M Arrived
reaches w t = t.reference >>= λ r. get_value w r >>= λ x. return (arrived r x)

-- a target is evaluated, and then what is read for it
abbrev pub reaches_by : World → Meaning → Meaning → M Arrived
reaches_by v t read = t.reference >>= λ r. value v read >>= λ x. return (arrived r x)

-- what goes in front
abbrev pub in_front : World → List Tree → M Value
in_front v fs = last_value v undefined (meanings v (trees fs))

-- the get of a member
abbrev got : Value → Value → M Arrived
got u k = ask (get u k) >>= λ x. return (arrived (property u k) x)

-- STEPS OF THE MACHINE

pub onward_return : {A : Type 0} (r : Result A) → onward r return ≡ r
onward_return (gives a s) = refl
onward_return (stops m s) = refl

pub onward_equal : {A B : Type 0} (r : Result A) {k l : A → M B} → ((a : A) (t : State) → k a t ≡ l a t) → onward r k ≡ onward r l
onward_equal (gives a s) h = h a s
onward_equal (stops m s) h = refl

-- the last of these nodes, after the others
pub last_after : (v : World) (u : Value) (fs : List Tree) (g : Tree) (s : State) → last_value v u (meanings v (trees (fs ++ g ∷ []))) s ≡ onward (last_value v u (meanings v (trees fs)) s) (λ _. value v (meaning v g))
last_after v u [] g s = onward_return (value v (meaning v g) s)
last_after v u (f ∷ fs) g s = onward_equal (value v (meaning v f) s) (λ z t. last_after v z fs g t) ∙ sym (onward_onward (value v (meaning v f) s) (λ z. last_value v z (meanings v (trees fs))) (λ _. value v (meaning v g)))

-- an assignment in front
stores : (v : World) (x : Text) (o : Tree) (t : State) → value v (meaning v (assign_node (identifier x) o)) t ≡ onward (value v (meaning v o) t) (put_value v (named x))
stores v x o t = plain_again v (onward (value v (meaning v o) t) (put_value v (named x)))

-- a member of an object is read
member_reaches : (w : World) (computed : Bool) (o p : Meaning) (s : State) → reaches w (member w computed false o p) s ≡ onward (value w o s) (λ u. key w computed p >>= got u)
member_reaches w computed o p s = at (value w o s)
  where
    with_key : (u : Value) (r : Result Value) → onward (onward r (λ k. return (property u k))) (λ q. get_value w q >>= λ x. return (arrived q x)) ≡ onward r (got u)
    with_key u (gives k t) = refl
    with_key u (stops m t) = refl

    at : (r : Result Value) → onward (onward r (λ u. key w computed p >>= λ k. return (property u k))) (λ q. get_value w q >>= λ x. return (arrived q x)) ≡ onward r (λ u. key w computed p >>= got u)
    at (gives u t) = with_key u (key w computed p t)
    at (stops m t) = refl

-- an object and a key that are at hand, evaluated twice
twice : (v : World) (o p : Meaning) (u k : Value) (t : State) → value v o t ≡ gives u t → value v p t ≡ gives k t → reaches_by v (member v true false o p) (member v true false o p) t ≡ got u k t
twice v o p u k t e d = rw (e, d) (rw (e, d) refl)

-- a literal as a key
pub record LiteralMeaning (k : Tree) : Type 0 where
  pub value : Value
  pub form : Form
  pub means : (w : World) → meaning w k ≡ literal value form

literal_means : (k : Tree) → is_literal_key k ≡ true → LiteralMeaning k
literal_means (node NullLiteral l fs) h = record { value = null; form = null_form; means = λ w. refl }
literal_means (node BooleanLiteral l fs) h = record { value = boolean (flag l.flags); form = other; means = λ w. refl }
literal_means (node NumericLiteral l fs) h = record { value = number (second l.texts); form = number_form (second l.texts); means = λ w. refl }
literal_means (node BigIntLiteral l fs) h = record { value = bigint (second l.texts); form = other; means = λ w. refl }
literal_means (node StringLiteral l fs) h = record { value = text (first_text l.texts); form = other; means = λ w. refl }
literal_means (node _ l fs) h = absurd (cc h)

-- NAMES

not_true : (b : Bool) → not b ≡ true → b ≡ false
not_true true h = absurd (cc h)
not_true false h = refl

first_one : (x : Text) (xs : List Text) → one_of (x ∷ xs) x ≡ true
first_one x xs = rw (bytes_eq-self x) refl

second_one : (x y : Text) → one_of (x ∷ y ∷ []) y ≡ true
second_one x y = rw (bytes_eq-self y) (or_true (bytes_eq y x))
  where
    or_true : (b : Bool) → b || true ≡ true
    or_true true = refl
    or_true false = refl

-- FRAMES

module _ (hidden steady : Text → Bool) (w v : World) (same : SameWorld hidden w v) (others : SameOthers hidden steady w v) where
  abbrev F : Frame
  F = set_cells hidden

  abbrev bad : Level → Text → Bool
  bad = bad_names hidden steady

  -- the hidden cells, and those of the steady names, are these
  abbrev K : (Text → Cell) → Frame
  K d = kept_cells hidden steady d

  -- what stands in the source, from here on
  from_here : (form : Bool) (a : Tree) → touches bad (value_and_form form) a ≡ false → (s t : State) → Agree F s t → Same (K (cells t)) Equal (value w (meaning w a) s) (value v (meaning v a) t)
  from_here form a h s t g = (kept_like hidden steady w v same others (cells t) (value_and_form form) a h).evaluation s t (now_kept hidden steady s t g)

  pub value_like : (a : Tree) → touches bad the_value a ≡ false → Alike F Equal (value w (meaning w a)) (value v (meaning v a))
  value_like a h s t g = kept_same hidden steady (cells t) (now_set hidden steady s t g) (from_here false a h s t g)

  -- both read the same member
  got_alike : (u k : Value) → Alike F (SameArrived F) (got u k) (got u k)
  got_alike u k s t g = onward_same F (ask_alike F (get u k) s t g) read
    where
      read : (x y : Value) → Equal x y → Alike F (SameArrived F) (return (arrived (property u k) x)) (return (arrived (property u k) y))
      read x _ equal s t g = both_give (same_arrived target_property) g

  -- A temporary takes what the source has, and what follows finds it there.
  module _ (x : Text) (x_hidden : hidden x ≡ true) (x_var : v.scope x ≡ changeable) where
    stored : (d0 : Text → Cell) → AllSet hidden d0 → {p q : Result Value} → Same (K d0) Equal p q → Twice hidden steady v (only x) d0 (name x) (only x) p (onward q (put_value v (named x)))
    stored = stored_twice hidden steady v x x_hidden x_var (only x) (λ y e. e)

    found : (u : Value) (d later : Text → Cell) → Gives v (name x) (only x) u d → later x ≡ d x → (s t : State) → Agree (K later) s t → value v (name x) t ≡ gives u t
    found u d later reads e s t g = reads t (λ z h. rw (bytes_eq-equal z x h) (agree_fits (K later) g x x_hidden ∙ e))

  one_stored : (x : Text) (o : Tree) (t : State) → in_front v (assign_node (identifier x) o ∷ []) t ≡ onward (value v (meaning v o) t) (put_value v (named x))
  one_stored x o t = onward_return (value v (meaning v (assign_node (identifier x) o)) t) ∙ stores v x o t

  named_alike : (n : Text) → hidden n ≡ false → (x y : Value) → Equal x y → Alike F (SameArrived F) (return (arrived (named n) x)) (return (arrived (named n) y))
  named_alike n e x _ equal s t g = both_give (same_arrived (target_name e refl)) g

  -- a name, read as it is
  name_arrives : (n : Text) → hidden n ≡ false → Alike F (SameArrived F) (reaches w (name n)) (reaches_by v (name n) (name n))
  name_arrives n e s t g = onward_same F (get_alike F w v same (same_name e) s t g) (named_alike n e)

  -- a name, read into a temporary
  module _ (x : Text) (x_hidden : hidden x ≡ true) (x_var : v.scope x ≡ changeable) where
    stored_name_arrives : (l : Label) → hidden (first_text l.texts) ≡ false →
        Alike F (SameArrived F) (reaches w (name (first_text l.texts))) (in_front v (assign_node (identifier x) (node Identifier l done) ∷ []) >>= λ _. reaches_by v (name (first_text l.texts)) (name x))
    stored_name_arrives l e s t g =
        rw (one_stored x (node Identifier l done) t)
        (onward_twice hidden steady (stored x x_hidden x_var (cells t) (now_set hidden steady s t g) (get_alike (K (cells t)) w v same (same_name e) s t (now_kept hidden steady s t g)))
        (λ u d set rest reads s t g. rw (found x x_hidden x_var u d d reads refl s t g) (named_alike (first_text l.texts) e u u equal s t (kept_agree hidden steady d set s t g))))

  -- an object and a key, each in a temporary
  module _ (x y : Text) (x_hidden : hidden x ≡ true) (x_var : v.scope x ≡ changeable) (y_hidden : hidden y ≡ true) (y_var : v.scope y ≡ changeable) (differ : bytes_eq x y ≡ false) where
    abbrev both_read : M Arrived
    both_read = reaches_by v (member v true false (name x) (name y)) (member v true false (name x) (name y))

    key_stored : (u : Value) (d : Text → Cell) → Gives v (name x) (only x) u d → (i : Value) (later : Text → Cell) → AllSet hidden later → later x ≡ d x → Gives v (name y) (only y) i later → (s t : State) → Agree (K later) s t → Same F (SameArrived F) (got u i s) (both_read t)
    key_stored u d object i later set e key s t g = rw (twice v (name x) (name y) u i t (found x x_hidden x_var u d later object e s t g) (found y y_hidden y_var i later later key refl s t g)) (got_alike u i s t (kept_agree hidden steady later set s t g))

    object_stored : (k : Tree) → touches bad the_value k ≡ false → (u : Value) (d : Text → Cell) → AllSet hidden d → Gives v (name x) (only x) u d → (s t : State) → Agree (K d) s t →
        Same F (SameArrived F) (onward (value w (meaning w k) s) (got u)) (onward (value v (meaning v (assign_node (identifier y) k)) t) (λ _. both_read))
    object_stored k h u d set object s t g =
        rw (stores v y k t)
        (onward_twice hidden steady (stored y y_hidden y_var d set ((kept_like hidden steady w v same others d the_value k h).evaluation s t g)) (λ i later set rest key s t g. key_stored u d object i later set (rest x differ) key s t g))

    stored_member_arrives : (form : Bool) (o k : Tree) → touches bad (value_and_form form) o ≡ false → touches bad the_value k ≡ false →
        Alike F (SameArrived F) (reaches w (member w true false (meaning w o) (meaning w k))) (in_front v ((assign_node (identifier x) o ∷ []) ++ assign_node (identifier y) k ∷ []) >>= λ _. both_read)
    stored_member_arrives form o k ho hk s t g =
        rw (member_reaches w true (meaning w o) (meaning w k) s, last_after v undefined (assign_node (identifier x) o ∷ []) (assign_node (identifier y) k) t, one_stored x o t)
        (rw (onward_onward (onward (value v (meaning v o) t) (put_value v (named x))) (λ _. value v (meaning v (assign_node (identifier y) k))) (λ _. both_read))
        (onward_twice hidden steady (stored x x_hidden x_var (cells t) (now_set hidden steady s t g) (from_here form o ho s t g)) (λ u d set rest object s t g. object_stored k hk u d set object s t g)))

  module _ (bound in_use : Text → Bool) (binds : (y : Text) → bound y ≡ true → is_free (w.scope y) ≡ false) where
    abbrev Temporaries : List Text → Type 0
    Temporaries xs = (x : Text) → one_of xs x ≡ true → (hidden x ≡ true) × (v.scope x ≡ changeable)

    is_bound : (y : Text) → bound y ≡ true → is_free (w.scope y) ≡ false
    is_bound y e = binds y e

    -- a key that asks nothing
    module _ (computed : Bool) (p p' : Meaning) (k : Value) (key_w : (s : State) → key w computed p s ≡ gives k s) (key_v : (t : State) → value v p' t ≡ gives k t) where
      -- a bound name is the same at both readings, since nothing lies between
      name_member_arrives : (y : Text) → hidden y ≡ false → bound y ≡ true → Alike F (SameArrived F) (reaches w (member w computed false (name y) p)) (reaches_by v (member v true false (name y) p') (member v true false (name y) p'))
      name_member_arrives y seen e _ _ (agree {c = c} {d = d} {ms = ms} {qs = qs} h g f) = at (c y) refl
        where
          at : (z : Cell) → c y ≡ z → Same F (SameArrived F) (reaches w (member w computed false (name y) p) (state c ms qs)) (reaches_by v (member v true false (name y) p') (member v true false (name y) p') (state d ms qs))
          at unset i = rw (member_reaches w computed (name y) p (state c ms qs), cell_gives hidden w v same y w (w.scope y) (is_bound y e) refl c ms qs unset i, cell_gives hidden w v same y v (w.scope y) (is_bound y e) (same.scope y seen) d ms qs unset (h y seen ∙ i)) (both_stop (agree h g f))
          at (holds u) i = rw (
            member_reaches w computed (name y) p (state c ms qs),
            cell_gives hidden w v same y w (w.scope y) (is_bound y e) refl c ms qs (holds u) i,
            key_w (state c ms qs),
            twice v (name y) p' u k (state d ms qs) (cell_gives hidden w v same y v (w.scope y) (is_bound y e) (same.scope y seen) d ms qs (holds u) (h y seen ∙ i)) (key_v (state d ms qs)),
          )
              (got_alike u k (state c ms qs) (state d ms qs) (agree h g f))

      object_arrives : {xs : List Text} {fs : List Tree} {o o' : Tree} → Holds bound in_use xs fs o o' → Temporaries xs → (form : Bool) → touches bad (value_and_form form) o ≡ false → is_super_kind (kind_of o) ≡ false →
          Alike F (SameArrived F) (reaches w (member w computed false (meaning w o) p)) (in_front v fs >>= λ _. reaches_by v (member v true false (meaning v o') p') (member v true false (meaning v o') p'))
      object_arrives (where_it_is {o = node Identifier l gs} e) temporary form h c = name_member_arrives (first_text l.texts) (or_left (hidden (first_text l.texts)) _ h) (and_left (bound (first_text l.texts)) _ e)
      object_arrives (where_it_is {o = node Super l gs} e) temporary form h c = absurd (cc c)
      object_arrives (where_it_is {o = node _ l gs} e) temporary form h c = absurd (cc e)
      object_arrives (in_temporary {o = o} {x = x} goes fresh) temporary form h c =
          let hid = (temporary x (first_one x [])).0 in
          let var = (temporary x (first_one x [])).1 in
          λ s t g. rw (member_reaches w computed (meaning w o) p s, one_stored x o t)
          (onward_twice hidden steady (stored x hid var (cells t) (now_set hidden steady s t g) (from_here form o h s t g)) (λ u d set rest object s t g. rw (key_w s, twice v (name x) p' u k t (found x hid var u d d object refl s t g) (key_v t)) (got_alike u k s t (kept_agree hidden steady d set s t g))))

    -- TARGETS

    -- neither the target nor what is written is a pattern, and what is read is no spread
    pub twice_pattern : {xs : List Text} {fs : List Tree} {t target read : Tree} → TargetTwice bound in_use xs fs t target read → (is_pattern (kind_of t) ≡ false) × (is_pattern (kind_of target) ≡ false) × (is_spread_kind (kind_of read) ≡ false)
    twice_pattern (bound_name e) = (refl, refl, refl)
    twice_pattern (other_name e f) = (refl, refl, refl)
    twice_pattern (static_member e h) = (refl, refl, refl)
    twice_pattern (private_member e h) = (refl, refl, refl)
    twice_pattern (literal_key e k h) = (refl, refl, refl)
    twice_pattern (other_key e k h f) = (refl, refl, refl)

    pub target_arrives : {xs : List Text} {fs : List Tree} {t target read : Tree} → TargetTwice bound in_use xs fs t target read → Temporaries xs → (form : Bool) → touches bad (record { level = a_target; form = form }) t ≡ false → is_classless t ≡ true →
        Alike F (SameArrived F) (reaches w (meaning w t)) (in_front v fs >>= λ _. reaches_by v (meaning v target) (meaning v read))
    target_arrives (bound_name {l = l} e) temporary form h c = name_arrives (first_text l.texts) (or_left (hidden (first_text l.texts)) _ (or_left (hidden (first_text l.texts) || steady (first_text l.texts)) false h))
    target_arrives (other_name {l = l} {x = x} unbound fresh) temporary form h c = stored_name_arrives x (temporary x (first_one x [])).0 (temporary x (first_one x [])).1 l (or_left (hidden (first_text l.texts)) _ (or_left (hidden (first_text l.texts) || steady (first_text l.texts)) false h))
    target_arrives (static_member {l = l} {k = k} {o = o} flags holds_object) temporary form h c =
        rw (ap flag flags, ap flag_after flags)
        (object_arrives false (name (first_text k.texts)) (literal (text (first_text k.texts)) other) (text (first_text k.texts)) (λ s. refl) (λ t. refl) holds_object temporary form (object_free hidden steady form (flag_after l.flags) o (or_left (touches bad (object_need form (flag_after l.flags)) o) _ h)) (or_left (is_super_kind (kind_of o)) _ (not_true _ c)))
    target_arrives (private_member {l = l} {k = k} {o = o} flags holds_object) temporary form h c = absurd (cc (or_right (is_super_kind (kind_of o)) true (not_true _ c)))
    target_arrives (literal_key {l = l} {o = o} {k = k} flags is_literal holds_object) temporary form h c =
        let m = literal_means k is_literal in
        rw (ap flag flags, ap flag_after flags, m.means w, m.means v)
        (object_arrives true (literal m.value m.form) (literal m.value m.form) m.value (λ s. refl) (λ t. refl) holds_object temporary form (object_free hidden steady form (flag_after l.flags) o (or_left (touches bad (object_need form (flag_after l.flags)) o) _ h)) (or_left (is_super_kind (kind_of o)) _ (not_true _ c)))
    target_arrives (other_key {l = l} {o = o} {k = k} {y = y} flags no_literal (in_temporary {x = x} goes fresh_object) fresh) temporary form h c =
        let below = or_right (touches bad (object_need form (flag_after l.flags)) o) (touches bad the_value k || false) (rw (ap flag flags) at h) in
        rw (ap flag flags, ap flag_after flags)
        (stored_member_arrives x y (temporary x (first_one x (y ∷ []))).0 (temporary x (first_one x (y ∷ []))).1 (temporary y (second_one x y)).0 (temporary y (second_one x y)).1 (or_right (in_use y) (bytes_eq x y) fresh.free)
        form o k (object_free hidden steady form (flag_after l.flags) o (or_left (touches bad (object_need form (flag_after l.flags)) o) _ h)) (or_left (touches bad the_value k) false below))
    target_arrives (other_key {l = l} {k = k} flags no_literal (where_it_is {o = node Super m gs} e) fresh) temporary form h c = absurd (cc c)
    target_arrives (other_key {l = l} {k = k} flags no_literal (where_it_is {o = node _ m gs} e) fresh) temporary form h c = absurd (cc e)
