-- Exponentiation where a program gets no helper but that of object spread: a target that is read and then written, whatever its operands are. Source and
-- result arrive at the same reference, with the same value.
use Rattle.std.proofs.Common.{◌≡◌, refl, sym, ap, List, [], ◌∷◌, ◌++◌, ◌∙◌}
use Rattle.std.proofs.lemmas.Bool.{not-true}
use Rattle.es_statement_runs.specs.Calls.{is_spread}
use Rattle.std.specs.Prelude.{Bool, true, false, ◌||◌, not, bytes_eq}
use Rattle.es_tree.specs.Names.{first_text}
use Rattle.es_tree.specs.Scopes.{Declared}
use Rattle.es_tree.specs.Tree.{Tree, node, Label, done, kind_of, trees}
use Rattle.es_tree.specs.Words.{Text}
use Rattle.es_tree.specs.declared.ast_type.AstType.TheVariants.{BigIntLiteral, BooleanLiteral, Identifier, NullLiteral, NumericLiteral, StringLiteral, Super}
use Rattle.es_runs.specs.Alike.{Agree, Alike, Equal, Frame, Level, Same, SameWorld, bad_names, kept_cells, key_need, object_level, object_need, set_cells}
use Rattle.es_runs.specs.Alike.Agree.{agree}
use Rattle.es_runs.specs.Alike.Equal.{equal}
use Rattle.es_runs.specs.Alike.Level.{value_alone}
use Rattle.es_runs.specs.Alike.Same.{both_give, both_stop}
use Rattle.es_runs.specs.Alike.SameReference.{same_name}
use Rattle.es_runs.specs.Alike.SameTarget.{target_name, target_property}
use Rattle.es_runs.specs.Core.{Form, Meaning, World, flag, flag_after, get_value, is_free, key, last_value, literal, member, name, number_form, put_value, second, value}
use Rattle.es_runs.specs.Core.Form.{null_form, other}
use Rattle.es_runs.specs.Core.Reference.{named, property}
use Rattle.es_runs.specs.Exponentiation.{Holds, TargetTwice, is_classless, is_literal_key, is_super_kind}
use Rattle.es_runs.specs.Exponentiation.Holds.{in_temporary, where_it_is}
use Rattle.es_runs.specs.Exponentiation.TargetTwice.{bound_name, literal_key, other_key, other_name, private_member, static_member}
use Rattle.es_runs.specs.Machine.{Cell, M, Result, State, Value, ◌>>=◌, ask, onward, return}
use Rattle.es_runs.specs.Machine.Cell.{holds, unset}
use Rattle.es_runs.specs.Machine.Question.{get}
use Rattle.es_runs.specs.Machine.Result.{gives, stops}
use Rattle.es_runs.specs.Machine.State.{state}
use Rattle.es_runs.specs.Machine.Value.{bigint, boolean, null, number, text, undefined}
use Rattle.es_runs.specs.Rules.{assign_node}
use Rattle.es_runs.specs.Runs.{cells, identifier, only}
use Rattle.es_runs.proofs.AgreeingCells.{agree_fits}
use Rattle.es_runs.proofs.Basic.{ask_alike, get_alike, onward_same}
use Rattle.es_runs.proofs.Duplicated.{AllSet, Gives, Twice, kept_agree, now_kept, now_set, onward_twice, stored_twice}
use Rattle.es_runs.proofs.ExponentiationTargets.{Arrived, SameArrived, onward_equal, onward_return, reaches, reaches_by}
use Rattle.es_runs.proofs.ExponentiationTargets.Arrived.{arrived}
use Rattle.es_runs.proofs.ExponentiationTargets.SameArrived.{same_arrived}
use Rattle.es_runs.proofs.Fresh.{or_left, or_right}
use Rattle.es_runs.proofs.Named.{and_left}
use Rattle.es_runs.proofs.NullishCoalescingValues.{cell_gives}
use Rattle.es_runs.proofs.Temporary.{bytes_eq-equal, bytes_eq-self, onward_onward}
use Rattle.es_runs.proofs.Written.{one_of}
use Rattle.es_statement_runs.specs.Alike.{Quiet, StackSeen}
use Rattle.es_statement_runs.specs.Helpers.{Supply}
use Rattle.es_statement_runs.specs.Kinds.{sense, senses}
use Rattle.es_statement_runs.specs.Laws.{among_names}
use Rattle.es_statement_runs.specs.Places.{SupplySeen, Take, avoids, placed_at, take, value_taken}
use Rattle.es_statement_runs.specs.Scopes.{is_own_cell}
use Rattle.es_statement_runs.specs.Senses.{cores}
use Rattle.es_statement_runs.proofs.Everywhere.{both_left, both_right, not_so}
use Rattle.es_statement_steps.proofs.KeptParts.{value-kept}
use Rattle.es_statement_steps.proofs.PlainSupplies.{core, is_core_supply, member-core, said-target, stores, is_core_target, said-unspread}
use Rattle.es_statement_steps.proofs.RowRuns.{WorldsKnown, temporaries_frame}
use Rattle.es_statement_steps.proofs.WrittenAgain.{aimed_at}

-- the get of a member
abbrev got : Value → Value → M Arrived
got u k = ask (get u k) >>= λ x. return (arrived (property u k) x)

-- a member of an object is read
member-reaches : (w : World) (computed : Bool) (o p : Meaning) (s : State) → reaches w (member w computed false o p) s ≡ onward (value w o s) (λ u. key w computed p >>= got u)
member-reaches w computed o p s = at (value w o s)
  where
    with-key : (u : Value) (r : Result Value) → onward (onward r (λ k. return (property u k))) (λ q. get_value w q >>= λ x. return (arrived q x)) ≡ onward r (got u)
    with-key u (gives k t) = refl
    with-key u (stops m t) = refl

    at : (r : Result Value) → onward (onward r (λ u. key w computed p >>= λ k. return (property u k))) (λ q. get_value w q >>= λ x. return (arrived q x)) ≡ onward r (λ u. key w computed p >>= got u)
    at (gives u t) = with-key u (key w computed p t)
    at (stops m t) = refl

-- an object and a key that are at hand, evaluated twice
twice : (v : World) (o p : Meaning) (u k : Value) (t : State) → value v o t ≡ gives u t → value v p t ≡ gives k t → reaches_by v (member v true false o p) (member v true false o p) t ≡ got u k t
twice v o p u k t e d = rw (e, d) (rw (e, d) refl)

-- a literal as a key
record LiteralKey (u : Supply) (k : Tree) : Type 0 where
  gives_it : Value
  form : Form
  means : (w : World) → core u w k ≡ literal gives_it form

literal-key : (u : Supply) (k : Tree) → is_literal_key k ≡ true → LiteralKey u k
literal-key u (node NullLiteral l fs) h = record { gives_it = null; form = null_form; means = λ w. refl }
literal-key u (node BooleanLiteral l fs) h = record { gives_it = boolean (flag l.flags); form = other; means = λ w. refl }
literal-key u (node NumericLiteral l fs) h = record { gives_it = number (second l.texts); form = number_form (second l.texts); means = λ w. refl }
literal-key u (node BigIntLiteral l fs) h = record { gives_it = bigint (second l.texts); form = other; means = λ w. refl }
literal-key u (node StringLiteral l fs) h = record { gives_it = text (first_text l.texts); form = other; means = λ w. refl }
literal-key u (node _ l fs) h = absurd (cc h)

first-one : (x : Text) (ys : List Text) → one_of (x ∷ ys) x ≡ true
first-one x ys = rw (bytes_eq-self x) refl

second-one : (x y : Text) → one_of (x ∷ y ∷ []) y ≡ true
second-one x y = rw (bytes_eq-self y) (or-true (bytes_eq y x))
  where
    or-true : (b : Bool) → (b || true) ≡ true
    or-true true = refl
    or-true false = refl

-- what goes in front
abbrev pub in_front : Supply → World → List Tree → M Value
in_front u v fs = last_value v undefined (cores (senses (placed_at u v [] []) (trees fs)))

-- the last of these nodes, after the others
pub last-after : (u : Supply) (v : World) (z : Value) (fs : List Tree) (g : Tree) (s : State) →
    last_value v z (cores (senses (placed_at u v [] []) (trees (fs ++ g ∷ [])))) s ≡ onward (last_value v z (cores (senses (placed_at u v [] []) (trees fs))) s) (λ _. value v (core u v g))
last-after u v z [] g s = onward_return (value v (core u v g) s)
last-after u v z (f ∷ fs) g s = onward_equal (value v (core u v f) s) (λ y t. last-after u v y fs g t) ∙ sym (onward_onward (value v (core u v f) s) (λ y. last_value v y (cores (senses (placed_at u v [] []) (trees fs)))) (λ _. value v (core u v g)))

module _ (no_all : Bool) (u : Supply) (plain : is_core_supply u ≡ true) (xs : List Text) (steady : Text → Bool) (own : (y : Text) → steady y ≡ true → is_own_cell y ≡ false) (quiet : Quiet (temporaries_frame true xs)) (stack : StackSeen (temporaries_frame true xs)) (seen : SupplySeen (temporaries_frame true xs) u)
    (w v : World) (same : SameWorld (among_names xs) w v) (ds : List Declared) (known : WorldsKnown no_all true xs ds w v) where
  abbrev hidden : Text → Bool
  hidden = among_names xs

  abbrev bad : Level → Text → Bool
  bad = bad_names hidden steady

  abbrev H : Frame
  H = set_cells hidden

  abbrev K : (Text → Cell) → Frame
  K d = kept_cells hidden steady d

  kept : (d : Text → Cell) (t : Take) → t.need.level ≡ value_alone → (a : Tree) → avoids bad t a ≡ true → Alike (K d) Equal (value w (core u w a)) (value v (core u v a))
  kept = value-kept no_all u plain xs steady own quiet stack seen w v same ds known

  -- both read the same member
  got-alike : (z k : Value) → Alike H (SameArrived H) (got z k) (got z k)
  got-alike z k s t g = onward_same H (ask_alike H (get z k) s t g) read
    where
      read : (x y : Value) → Equal x y → Alike H (SameArrived H) (return (arrived (property z k) x)) (return (arrived (property z k) y))
      read x _ equal s t g = both_give (same_arrived target_property) g

  named-alike : (n : Text) → hidden n ≡ false → (x y : Value) → Equal x y → Alike H (SameArrived H) (return (arrived (named n) x)) (return (arrived (named n) y))
  named-alike n e x _ equal s t g = both_give (same_arrived (target_name e refl)) g

  -- a name, read as it is
  name-arrives : (n : Text) → hidden n ≡ false → Alike H (SameArrived H) (reaches w (name n)) (reaches_by v (name n) (name n))
  name-arrives n e s t g = onward_same H (get_alike H w v same (same_name e) s t g) (named-alike n e)

  one-stored : (x : Text) (o : Tree) (t : State) → in_front u v (assign_node (identifier x) o ∷ []) t ≡ onward (value v (core u v o) t) (put_value v (named x))
  one-stored x o t = onward_return (value v (core u v (assign_node (identifier x) o)) t) ∙ stores u plain v x o t

  -- A temporary takes what the source has, and what follows finds it there.
  module _ (x : Text) (x_hidden : hidden x ≡ true) where
    stored : (d0 : Text → Cell) → AllSet hidden d0 → {p q : Result Value} → Same (K d0) Equal p q → Twice hidden steady v (only x) d0 (name x) (only x) p (onward q (put_value v (named x)))
    stored = stored_twice hidden steady v x x_hidden (known.temporaries refl x x_hidden) (only x) (λ y e. e)

    found : (z : Value) (d later : Text → Cell) → Gives v (name x) (only x) z d → later x ≡ d x → (s t : State) → Agree (K later) s t → value v (name x) t ≡ gives z t
    found z d later reads e s t g = reads t (λ y h. rw (bytes_eq-equal y x h) (agree_fits (K later) g x x_hidden ∙ e))

    -- a name, read into it
    stored-name-arrives : (l : Label) → hidden (first_text l.texts) ≡ false →
        Alike H (SameArrived H) (reaches w (name (first_text l.texts))) (in_front u v (assign_node (identifier x) (node Identifier l done) ∷ []) >>= λ _. reaches_by v (name (first_text l.texts)) (name x))
    stored-name-arrives l e s t g =
        rw (one-stored x (node Identifier l done) t)
        (onward_twice hidden steady (stored (cells t) (now_set hidden steady s t g) (get_alike (K (cells t)) w v same (same_name e) s t (now_kept hidden steady s t g)))
        (λ z d set rest reads s t g. rw (found z d d reads refl s t g) (named-alike (first_text l.texts) e z z equal s t (kept_agree hidden steady d set s t g))))

  -- an object and a key, each in a temporary
  module _ (x y : Text) (x_hidden : hidden x ≡ true) (y_hidden : hidden y ≡ true) (differ : bytes_eq x y ≡ false) where
    abbrev both_read : M Arrived
    both_read = reaches_by v (member v true false (name x) (name y)) (member v true false (name x) (name y))

    key-stored : (z : Value) (d : Text → Cell) → Gives v (name x) (only x) z d → (i : Value) (later : Text → Cell) → AllSet hidden later → later x ≡ d x → Gives v (name y) (only y) i later → (s t : State) → Agree (K later) s t → Same H (SameArrived H) (got z i s) (both_read t)
    key-stored z d object i later set e key s t g = rw (twice v (name x) (name y) z i t (found x x_hidden z d later object e s t g) (found y y_hidden i later later key refl s t g)) (got-alike z i s t (kept_agree hidden steady later set s t g))

    object-stored : (k : Tree) → avoids bad value_taken k ≡ true → (z : Value) (d : Text → Cell) → AllSet hidden d → Gives v (name x) (only x) z d → (s t : State) → Agree (K d) s t →
        Same H (SameArrived H) (onward (value w (core u w k) s) (got z)) (onward (value v (core u v (assign_node (identifier y) k)) t) (λ _. both_read))
    object-stored k h z d set object s t g =
        rw (stores u plain v y k t)
        (onward_twice hidden steady (stored y y_hidden d set (kept d value_taken refl k h s t g)) (λ i later set rest key s t g. key-stored z d object i later set (rest x differ) key s t g))

    stored-member-arrives : (n : Take) → n.need.level ≡ value_alone → (o k : Tree) → avoids bad n o ≡ true → avoids bad value_taken k ≡ true →
        Alike H (SameArrived H) (reaches w (member w true false (core u w o) (core u w k))) (in_front u v ((assign_node (identifier x) o ∷ []) ++ assign_node (identifier y) k ∷ []) >>= λ _. both_read)
    stored-member-arrives n level o k ho hk s t g =
        rw (member-reaches w true (core u w o) (core u w k) s, last-after u v undefined (assign_node (identifier x) o ∷ []) (assign_node (identifier y) k) t, one-stored x o t)
        (rw (onward_onward (onward (value v (core u v o) t) (put_value v (named x))) (λ _. value v (core u v (assign_node (identifier y) k))) (λ _. both_read))
        (onward_twice hidden steady (stored x x_hidden (cells t) (now_set hidden steady s t g) (kept (cells t) n level o ho s t (now_kept hidden steady s t g))) (λ z d set rest object s t g. object-stored k hk z d set object s t g)))

  module _ (bound in_use : Text → Bool) (binds : (y : Text) → bound y ≡ true → is_free (w.scope y) ≡ false) where
    -- a key that asks nothing
    module _ (computed : Bool) (p p' : Meaning) (k : Value) (key_w : (s : State) → key w computed p s ≡ gives k s) (key_v : (t : State) → value v p' t ≡ gives k t) where
      -- a bound name is the same at both readings, since nothing lies between
      name-member-arrives : (y : Text) → hidden y ≡ false → bound y ≡ true → Alike H (SameArrived H) (reaches w (member w computed false (name y) p)) (reaches_by v (member v true false (name y) p') (member v true false (name y) p'))
      name-member-arrives y here e _ _ (agree {c = c} {d = d} {ms = ms} {qs = qs} h g f) = at (c y) refl
        where
          at : (z : Cell) → c y ≡ z → Same H (SameArrived H) (reaches w (member w computed false (name y) p) (state c ms qs)) (reaches_by v (member v true false (name y) p') (member v true false (name y) p') (state d ms qs))
          at unset i = rw (member-reaches w computed (name y) p (state c ms qs), cell_gives hidden w v same y w (w.scope y) (binds y e) refl c ms qs unset i, cell_gives hidden w v same y v (w.scope y) (binds y e) (same.scope y here) d ms qs unset (h y here ∙ i)) (both_stop (agree h g f))
          at (holds z) i = rw (
            member-reaches w computed (name y) p (state c ms qs),
            cell_gives hidden w v same y w (w.scope y) (binds y e) refl c ms qs (holds z) i,
            key_w (state c ms qs),
            twice v (name y) p' z k (state d ms qs) (cell_gives hidden w v same y v (w.scope y) (binds y e) (same.scope y here) d ms qs (holds z) (h y here ∙ i)) (key_v (state d ms qs)),
          )
              (got-alike z k (state c ms qs) (state d ms qs) (agree h g f))

      object-arrives : {ys : List Text} {fs : List Tree} {o o' : Tree} → Holds bound in_use ys fs o o' → ((x : Text) → one_of ys x ≡ true → hidden x ≡ true) → (n : Take) → n.need.level ≡ value_alone → avoids bad n o ≡ true → is_super_kind (kind_of o) ≡ false →
          Alike H (SameArrived H) (reaches w (member w computed false (core u w o) p)) (in_front u v fs >>= λ _. reaches_by v (member v true false (core u v o') p') (member v true false (core u v o') p'))
      object-arrives (where_it_is {o = node Identifier l gs} e) cover n level h c =
          let y : Text = first_text l.texts in
          let good : bad value_alone y ≡ false = sym (ap (λ (i : Level). bad i y) level) ∙ not_so (bad n.need.level y) (both_left (not (bad n.need.level y)) _ h) in
          name-member-arrives y good (and_left (bound y) _ e)
      object-arrives (where_it_is {o = node Super l gs} e) cover n level h c = absurd (cc c)
      object-arrives (where_it_is {o = node _ l gs} e) cover n level h c = absurd (cc e)
      object-arrives (in_temporary {o = o} {x = x} goes fresh) cover n level h c =
          let hid = cover x (first-one x []) in
          λ s t g. rw (member-reaches w computed (core u w o) p s, one-stored x o t)
          (onward_twice hidden steady (stored x hid (cells t) (now_set hidden steady s t g) (kept (cells t) n level o h s t (now_kept hidden steady s t g))) (λ z d set rest object s t g. rw (key_w s, twice v (name x) p' z k t (found x hid z d d object refl s t g) (key_v t)) (got-alike z k s t (kept_agree hidden steady d set s t g))))

    -- TARGETS

    object_taken : Label → Take
    object_taken l = take (object_need true (flag_after l.flags)) true

    pub target-arrives : {ys : List Text} {fs : List Tree} {t target read : Tree} → TargetTwice bound in_use ys fs t target read → ((x : Text) → one_of ys x ≡ true → hidden x ≡ true) → (form more : Bool) → avoids bad (aimed_at form more) t ≡ true → is_classless t ≡ true →
        Alike H (SameArrived H) (reaches w (core u w t)) (in_front u v fs >>= λ _. reaches_by v (core u v target) (core u v read))
    target-arrives (bound_name {l = l} e) cover form more h c = name-arrives (first_text l.texts) (or_left (hidden (first_text l.texts)) _ (not_so (hidden (first_text l.texts) || steady (first_text l.texts)) (both_left (not (hidden (first_text l.texts) || steady (first_text l.texts))) _ h)))
    target-arrives (other_name {l = l} {x = x} unbound fresh) cover form more h c = stored-name-arrives x (cover x (first-one x [])) l (or_left (hidden (first_text l.texts)) _ (not_so (hidden (first_text l.texts) || steady (first_text l.texts)) (both_left (not (hidden (first_text l.texts) || steady (first_text l.texts))) _ h)))
    target-arrives (static_member {l = l} {k = k} {o = o} flags holds_object) cover form more h c =
        rw (member-core u plain w l o (node Identifier k done), ap flag flags, ap flag_after flags)
        (object-arrives false (name (first_text k.texts)) (literal (text (first_text k.texts)) other) (text (first_text k.texts)) (λ s. refl) (λ t. refl) holds_object cover (take (object_need true (flag_after l.flags)) true) (ap (λ fs. object_level (flag_after fs)) flags)
        (both_left (avoids bad (take (object_need true (flag_after l.flags)) true) o) _ h) (or_left (is_super_kind (kind_of o)) _ (not-true _ c)))
    target-arrives (private_member {l = l} {k = k} {o = o} flags holds_object) cover form more h c = absurd (cc (or_right (is_super_kind (kind_of o)) true (not-true _ c)))
    target-arrives (literal_key {l = l} {o = o} {k = k} flags is_literal holds_object) cover form more h c =
        let m = literal-key u k is_literal in
        rw (member-core u plain w l o k, ap flag flags, ap flag_after flags, m.means w, m.means v)
        (object-arrives true (literal m.gives_it m.form) (literal m.gives_it m.form) m.gives_it (λ s. refl) (λ t. refl) holds_object cover (take (object_need true (flag_after l.flags)) true) (ap (λ fs. object_level (flag_after fs)) flags)
        (both_left (avoids bad (take (object_need true (flag_after l.flags)) true) o) _ h) (or_left (is_super_kind (kind_of o)) _ (not-true _ c)))
    target-arrives (other_key {l = l} {o = o} {k = k} {y = y} flags no_literal (in_temporary {x = x} goes fresh_object) fresh) cover form more h c =
        let key_good : avoids bad (take (key_need (flag l.flags)) false) k ≡ true = both_left (avoids bad (take (key_need (flag l.flags)) false) k) true (both_right (avoids bad (take (object_need true (flag_after l.flags)) true) o) _ h) in
        rw (member-core u plain w l o k, ap flag flags, ap flag_after flags)
        (stored-member-arrives x y (cover x (first-one x (y ∷ []))) (cover y (second-one x y)) (or_right (in_use y) (bytes_eq x y) fresh.free)
        (take (object_need true (flag_after l.flags)) true) (ap (λ fs. object_level (flag_after fs)) flags) o k (both_left (avoids bad (take (object_need true (flag_after l.flags)) true) o) _ h) (rw (ap flag flags) at key_good))
    target-arrives (other_key {l = l} {k = k} flags no_literal (where_it_is {o = node Super m gs} e) fresh) cover form more h c = absurd (cc c)
    target-arrives (other_key {l = l} {k = k} flags no_literal (where_it_is {o = node _ m gs} e) fresh) cover form more h c = absurd (cc e)

    -- what is written is no pattern
    pub target-plain : {ys : List Text} {fs : List Tree} {t target read : Tree} → TargetTwice bound in_use ys fs t target read → is_classless t ≡ true → is_core_target (sense (placed_at u v [] []) target).more ≡ true
    target-plain (bound_name {l = l} e) c = said-target u plain (v.scope (first_text l.texts))
    target-plain (other_name {l = l} e f) c = said-target u plain (v.scope (first_text l.texts))
    target-plain (static_member e h) c = refl
    target-plain (private_member {l = l} {k = k} {o = o} e h) c = absurd (cc (or_right (is_super_kind (kind_of o)) true (not-true _ c)))
    target-plain (literal_key e k h) c = refl
    target-plain (other_key e k h f) c = refl

    -- and what is read spreads nothing
    pub read-unspread : {ys : List Text} {fs : List Tree} {t target read : Tree} → TargetTwice bound in_use ys fs t target read → is_classless t ≡ true → is_spread (sense (placed_at u v [] []) read).more ≡ false
    read-unspread (bound_name {l = l} e) c = said-unspread u plain (v.scope (first_text l.texts))
    read-unspread (other_name {x = x} e f) c = said-unspread u plain (v.scope x)
    read-unspread (static_member e h) c = refl
    read-unspread (private_member {l = l} {k = k} {o = o} e h) c = absurd (cc (or_right (is_super_kind (kind_of o)) true (not-true _ c)))
    read-unspread (literal_key e k h) c = refl
    read-unspread (other_key e k h f) c = refl
