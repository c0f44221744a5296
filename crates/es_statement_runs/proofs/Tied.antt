-- What the row of `using` makes of the list of a scope is alike to it, where the scope's stack in the source is what a name holds in the
-- target.
use Rattle.std.proofs.Common.{ap, ◌≡◌, refl, sym, subst, List, [], ◌∷◌}
use Rattle.std.specs.Prelude.{ℕ, zero, suc, Bool, true, false, not, ◌&&◌, ◌||◌, codes, bytes_eq, if◌then◌else◌}
use Rattle.es_tree.specs.Words.{Text}
use Rattle.es_tree.specs.Names.{first_text}
use Rattle.es_tree.specs.Scopes.{Declared}
use Rattle.es_tree.specs.Tree.{Tree, node, Label, Fields, done, ◌then◌, Field, missing, one, many, statements, Trees, empty, ◌before◌}
use Rattle.es_tree.specs.declared.ast_type.AstType.{AstType}
use Rattle.es_tree.specs.declared.ast_type.AstType.TheVariants.{BlockStatement, ForStatement, ForInStatement, ForOfStatement, CatchClause, SwitchStatement, LabeledStatement, VariableDeclaration}
use Rattle.es_runs.specs.Core.{member, Reference, Binding, World, Meaning, value, gives_value, name, declarator, in_order, declared}
use Rattle.es_runs.specs.Core.Form.{word}
use Rattle.es_runs.specs.Core.Silent.{helper_name, keys_name}
use Rattle.es_runs.specs.Core.Binding.{silent, free, changeable, constant}
use Rattle.es_runs.specs.Machine.{Value, Cell, M, ◌>>=◌, Move, Question}
use Rattle.es_runs.specs.Machine.Value.{undefined, own}
use Rattle.es_runs.specs.Machine.OwnValue.{stack}
use Rattle.es_runs.specs.Machine.Cell.{holds}
use Rattle.es_runs.specs.Machine.State.{state}
use Rattle.es_runs.specs.Alike.{Need, Like, Frame, Alike, Equal, SameWorld, Level, is_bad, bad_names}
use Rattle.es_runs.specs.Alike.Level.{a_target}
use Rattle.es_runs.specs.Alike.Agree.{agree}
use Rattle.es_runs.proofs.Congruence.{plain_like}
use Rattle.es_runs.proofs.Basic.{set_alike, then_alike, return_alike}
use Rattle.es_runs.proofs.Lists.{AllLike, declared_alike}
use Rattle.es_runs.proofs.Lists.AllLike.{no_more, one_more}
use Rattle.es_runs.specs.Runs.{only}
use Rattle.es_runs.proofs.Temporary.{bytes_eq-self, plain_again}
use Rattle.es_statement_runs.specs.Calls.{member_by, call_sense, stack_call, is_spread}
use Rattle.es_statement_runs.specs.Senses.{said_of, ends, Place, cores, Sense}
use Rattle.es_statement_runs.proofs.Combinators.{taken_use_alike}
use Rattle.es_statement_runs.specs.Laws.{Unspread, own_or_stack, bad_using, apart_from, is_using, unused, unused_fields, unused_field, unused_trees, TakenUp, Wrapped, context_call_node}
use Rattle.es_statement_runs.specs.Laws.TakenUp.{none_taken, one_taken}
use Rattle.es_statement_runs.specs.Laws.Wrapped.{none_wrapped, use_wrapped, rest_wrapped}
use Rattle.es_statement_runs.specs.Stacks.{taken_into_use, used}
use Rattle.es_statement_runs.proofs.OwnCells.{own_apart}
use Rattle.es_statement_runs.specs.Scopes.{is_own_cell, stack_cell}
use Rattle.es_statement_runs.specs.Alike.{Told, Quiet, SenseLike, SensesLike, PortionLike, PortionsLike}
use Rattle.es_statement_runs.specs.Alike.SensesLike.{no_sense, sense_and}
use Rattle.es_statement_runs.specs.Alike.PortionLike.{gap_like, alone_like, rows_like}
use Rattle.es_statement_runs.specs.Alike.PortionsLike.{no_portion, one_portion}
use Rattle.es_statement_runs.specs.Names.{own_names, own_use, names_of_all, is_word}
use Rattle.es_statement_runs.specs.Helpers.Supply.{by_global}
use Rattle.es_statement_runs.specs.StatementParts.{declarator_by}
use Rattle.es_statement_runs.specs.Kinds.{sense, senses, portion, portions, inside, label_in}
use Rattle.es_statement_runs.specs.Places.{HelpersSeen, placed_at, all_good, Take, value_taken, takes_of, avoids, avoids_fields, avoids_field, avoids_trees}
use Rattle.es_statement_runs.proofs.Everywhere.{visible_good}
use Rattle.es_statement_runs.proofs.KindsAlike.{kind_close, inner_same}

both_left : (a b : Bool) → a && b ≡ true → a ≡ true
both_left true b h = refl
both_left false b h = absurd (cc h)

both_right : (a b : Bool) → a && b ≡ true → b ≡ true
both_right true b h = h
both_right false b h = absurd (cc h)

not_so : (a : Bool) → not a ≡ true → a ≡ false
not_so true h = absurd (cc h)
not_so false h = refl

or_left_false : (a b : Bool) → (a || b) ≡ false → a ≡ false
or_left_false true b h = absurd (cc h)
or_left_false false b h = refl

or_right_false : (a b : Bool) → (a || b) ≡ false → b ≡ false
or_right_false true b h = absurd (cc h)
or_right_false false b h = h

or_right_true : (a : Bool) → (a || true) ≡ true
or_right_true true = refl
or_right_true false = refl

-- THE FRAME: c's cell in the target and the innermost stack in the source hold the same stack, and the target's own stays

abbrev pub TiedBy : Bool → ℕ → Cell → Cell → Cell → Type 0
TiedBy true n k inner d = (inner ≡ holds (own (stack n))) × (d ≡ holds (own (stack n)))
TiedBy false n k inner d = d ≡ k

pub stack_hidden : (c : Text) → own_or_stack c stack_cell ≡ true
stack_hidden c = or_right_true (only c stack_cell)

abbrev pub tied : Text → ℕ → Cell → Frame
tied c n k = record {
  hidden = own_or_stack c;
  fits = λ cs x d. TiedBy (bytes_eq x c) n k (cs stack_cell) d;
  frozen = λ x. false;
  keeps = λ x d. Unit {0};
  faults_outside = false;
  loose = λ x. false;
  steady = λ cs es h x i d g. subst (λ (s : Cell). TiedBy (bytes_eq x c) n k s d) (sym (h stack_cell (stack_hidden c))) g;
}

-- WHAT IS KNOWN OF NAMES

own_seen : (c : Text) (n : Level) (x : Text) → bad_using c n x ≡ false → own_or_stack c x ≡ false
own_seen c Level.no_evaluation x h = h
own_seen c a_target x h = or_left_false (own_or_stack c x) (only (codes "babelHelpers") x) h
own_seen c _ x h = h

pub using_told : (c : Text) (F : Frame) → ((x : Text) → own_or_stack c x ≡ false → F.hidden x ≡ false) → HelpersSeen F → Told F (bad_using c) by_global
using_told c F seen h = record { helpers = h; names = λ n x e. seen x (own_seen c n x e) }

module _ (c : Text) (n : ℕ) (k : Cell) (no_own : is_own_cell c ≡ false) (math : bytes_eq (codes "Math") c ≡ false) (helpers : HelpersSeen (apart_from c)) where
  abbrev T : Frame
  T = tied c n k

  abbrev B : Level → Text → Bool
  B = bad_using c

  abbrev both_hidden : (x : Text) → only c x ≡ false → bytes_eq x stack_cell ≡ false → own_or_stack c x ≡ false
  both_hidden x h g = rw (h, g) refl

  tied_quiet : Quiet T
  tied_quiet = record { own_seen = λ y e i. record { hidden = rw (own_apart c y no_own e, i) refl; frozen = refl; loose = refl }; math = rw math refl }

  tied_helpers : HelpersSeen T
  tied_helpers = record { global = rw helpers.global refl; require = rw helpers.require refl }

  tied_told : Told T B by_global
  tied_told = using_told c T (λ x h. h) tied_helpers

  none_frozen : (a : Bool) → a ≡ false → (a || false) ≡ false
  none_frozen a h = rw h refl

  below_tied : (n : Level) (x : Text) → B n x ≡ false → bad_names (own_or_stack c) (λ y. false) n x ≡ false
  below_tied Level.no_evaluation x h = refl
  below_tied a_target x h = none_frozen (own_or_stack c x) (own_seen c a_target x h)
  below_tied _ x h = h

  -- WHERE NO `using` STANDS

  pub data Places : Place → Place → Type 0 where
    places : {w v : World} {ls : List Text} {x : Text} → SameWorld (own_or_stack c) w v → is_word (codes "using") x ≡ false → Places (placed_at by_global w ls x) (placed_at by_global v ls x)

  inside_places : (w v : World) (ls : List Text) (x : Text) → SameWorld (own_or_stack c) w v → (j : AstType) (l : Label) (ds : List Declared) (vs : List Text) (i : ℕ) → is_using j l ≡ false → is_word (codes "using") x ≡ false → Places (inside (placed_at by_global w ls x) j l.texts ds vs i) (inside (placed_at by_global v ls x) j l.texts ds vs i)
  inside_places w v ls x same BlockStatement l ds vs i u y = places (inner_same T tied_quiet ds w v same) refl
  inside_places w v ls x same ForStatement l ds vs i u y = places (inner_same T tied_quiet ds w v same) refl
  inside_places w v ls x same ForInStatement l ds vs i u y = places (inner_same T tied_quiet ds w v same) refl
  inside_places w v ls x same ForOfStatement l ds vs i u y = places (inner_same T tied_quiet ds w v same) refl
  inside_places w v ls x same CatchClause l ds vs i u y = places (inner_same T tied_quiet ds w v same) refl
  inside_places w v ls x same SwitchStatement l ds vs (suc i) u y = places (inner_same T tied_quiet ds w v same) refl
  inside_places w v ls x same SwitchStatement l ds vs zero u y = places same refl
  inside_places w v ls x same LabeledStatement l ds vs i u y = places same refl
  inside_places w v ls x same VariableDeclaration l ds vs i u y = places same u
  inside_places w v ls x same _ l ds vs i u y = places same refl

  absurd_true : {A : Type 0} (a : Bool) → a ≡ false → a ≡ true → A
  absurd_true a h g = absurd (cc)

  mutual
    pub tied_tree : (a : Tree) (t : Take) → avoids B t a ≡ true → unused a ≡ true → {p q : Place} → Places p q → SenseLike T p.world q.world t (sense p a) (sense q a)
    tied_tree (node j l fs) t h g (places {w = w} {v = v} {ls = ls} {x = x} same y) =
        let b1 : Bool = not (is_bad B t.need.level j l.texts) in
        let b3 : Bool = all_good B (names_of_all (own_names j fs)) in
        let b4 : Bool = avoids_fields B (takes_of t j l.texts l.flags) fs in
        let r : (b3 && b4) ≡ true = both_right b1 (b3 && b4) h in
        let no_use : own_use j fs ≡ false = not_so (own_use j fs) (both_left (not (own_use j fs)) (not (is_using j l) && unused_fields fs) g) in
        let rest : (not (is_using j l) && unused_fields fs) ≡ true = both_right (not (own_use j fs)) (not (is_using j l) && unused_fields fs) g in
        let no_word : is_using j l ≡ false = not_so (is_using j l) (both_left (not (is_using j l)) (unused_fields fs) rest) in
        kind_close T tied_quiet B below_tied by_global tied_told t w v same ls x j l.texts l.flags (own_names j fs) (own_use j fs) (label_in j fs) (λ e. absurd_true (own_use j fs) no_use e) (λ e. absurd_true (is_word (codes "using") x) y e)
        (not_so (is_bad B t.need.level j l.texts) (both_left b1 (b3 && b4) h)) (visible_good T B below_tied (names_of_all (own_names j fs)) (both_left b3 b4 r))
        (tied_fields fs (takes_of t j l.texts l.flags) (both_right b3 b4 r) (both_right (not (is_using j l)) (unused_fields fs) rest) (inside (placed_at by_global w ls x) j l.texts (own_names j fs) (label_in j fs)) (inside (placed_at by_global v ls x) j l.texts (own_names j fs) (label_in j fs)) (λ i. inside_places w v ls x same j l (own_names j fs) (label_in j fs) i no_word y))

    tied_fields : (fs : Fields) (t : ℕ → Take) → avoids_fields B t fs ≡ true → unused_fields fs ≡ true → (at bt : ℕ → Place) → ((i : ℕ) → Places (at i) (bt i)) → PortionsLike T (λ i. (at i).world) (λ i. (bt i).world) t (portions at fs) (portions bt fs)
    tied_fields done t h g at bt k = no_portion
    tied_fields (f then fs) t h g at bt k = one_portion (tied_field f (t zero) (both_left (avoids_field B (t zero) f) (avoids_fields B (λ i. t (suc i)) fs) h) (both_left (unused_field f) (unused_fields fs) g) (k zero))
        (tied_fields fs (λ i. t (suc i)) (both_right (avoids_field B (t zero) f) (avoids_fields B (λ i. t (suc i)) fs) h) (both_right (unused_field f) (unused_fields fs) g) (λ i. at (suc i)) (λ i. bt (suc i)) (λ i. k (suc i)))

    tied_field : (f : Field) (t : Take) → avoids_field B t f ≡ true → unused_field f ≡ true → {p q : Place} → Places p q → PortionLike T p.world q.world t (portion p f) (portion q f)
    tied_field missing t h g k = gap_like
    tied_field (one a) t h g k = alone_like (tied_tree a t h g k)
    tied_field (many ts) t h g k = rows_like (tied_trees ts t h g k)
    tied_field (statements ts) t h g k = rows_like (tied_trees ts t h g k)

    tied_trees : (ts : Trees) (t : Take) → avoids_trees B t ts ≡ true → unused_trees ts ≡ true → {p q : Place} → Places p q → SensesLike T p.world q.world t (senses p ts) (senses q ts)
    tied_trees empty t h g k = no_sense
    tied_trees (a before ts) t h g k = sense_and (tied_tree a t (both_left (avoids B t a) (avoids_trees B t ts) h) (both_left (unused a) (unused_trees ts) g) k)
        (tied_trees ts t (both_right (avoids B t a) (avoids_trees B t ts) h) (both_right (unused a) (unused_trees ts) g) k)

  -- WHAT IS TAKEN INTO USE

  tie_of : (cs ds : Text → Cell) → ((x : Text) → own_or_stack c x ≡ true → TiedBy (bytes_eq x c) n k (cs stack_cell) (ds x)) → TiedBy true n k (cs stack_cell) (ds c)
  tie_of cs ds g = subst (λ (b : Bool). TiedBy b n k (cs stack_cell) (ds c)) (bytes_eq-self c) (g c (or_first_true (bytes_eq c c) (only stack_cell c) (bytes_eq-self c)))
    where
      or_first_true : (a b : Bool) → a ≡ true → (a || b) ≡ true
      or_first_true true b h = refl
      or_first_true false b h = absurd (cc h)

  used_tied : (u : Value) → Alike T Equal (used u) (taken_into_use n u)
  used_tied u _ _ (agree {c = cs} {d = ds} {ms = ms} {qs = qs} f g i) = let z : TiedBy true n k (cs stack_cell) (ds c) = tie_of cs ds g in rw z.0 (taken_use_alike T tied_quiet n u _ _ (agree f g i))

  module _ (w v : World) (same : SameWorld (own_or_stack c) w v) (bound : v.scope c ≡ changeable) where
    abbrev source_place : Text → Place
    source_place x = placed_at by_global w [] x

    abbrev target_place : Text → Place
    target_place x = placed_at by_global v [] x

    abbrev a_declarator : Need
    a_declarator = record { level = a_target; form = false }

    declarator_cases : (y : Text) → own_or_stack c y ≡ false → (b : Binding) (id id' e e' : Sense) (m m' : Meaning) → id.core ≡ name y → id'.core ≡ name y → Alike T Equal (value w e.core >>= used) (value v e'.core) → m' ≡ declarator v id'.core e'.core →
        Like T w v a_declarator (declarator_by (source_place (codes "using")) (said_of b) id e m).core (declarator_by (target_place (codes "const")) (said_of b) id' e' m').core
    declarator_cases y visible (silent (keys_name us)) id id' e e' m m' i i' z d = plain_like T w v same a_declarator _ _ (return_alike T undefined)
    declarator_cases y visible (silent (helper_name h)) id id' e e' m m' i i' z d = rw (d, i, i') (plain_like T w v same a_declarator _ _ (then_alike T z (λ u. set_alike T y visible refl u)))
    declarator_cases y visible free id id' e e' m m' i i' z d = rw (d, i, i') (plain_like T w v same a_declarator _ _ (then_alike T z (λ u. set_alike T y visible refl u)))
    declarator_cases y visible changeable id id' e e' m m' i i' z d = rw (d, i, i') (plain_like T w v same a_declarator _ _ (then_alike T z (λ u. set_alike T y visible refl u)))
    declarator_cases y visible constant id id' e e' m m' i i' z d = rw (d, i, i') (plain_like T w v same a_declarator _ _ (then_alike T z (λ u. set_alike T y visible refl u)))

    -- what `c.u` says
    abbrev reference : M Reference
    reference = (member v false false (name c) (name (codes "u"))).reference

    means_stack : (e : Tree) → sense (target_place []) (context_call_node c (codes "u") (e before empty)) ≡ ends (stack_call v (codes "u") (sense (target_place []) e ∷ []) reference)
    means_stack e = ap (λ (b : Binding). call_sense (target_place []) false (member_by (target_place []) (said_of b) (word c) (word (codes "u")) (member v false false (name c) (name (codes "u")))) (sense (target_place []) e ∷ [])) bound

    -- the value of `c.u(e)`
    reads_stack : (e : Sense) → is_spread e.more ≡ false → (ds : Text → Cell) (ms : List Move) (qs : List Question) → ds c ≡ holds (own (stack n)) →
        stack_call v (codes "u") (e ∷ []) reference (state ds ms qs) ≡ (value v e.core >>= taken_into_use n) (state ds ms qs)
    reads_stack e plain ds ms qs h = rw (bound, h, plain) refl

    taken_value : (e e' : Sense) → is_spread e'.more ≡ false → Alike T Equal (value w e.core) (value v e'.core) → Alike T Equal (value w e.core >>= used) (stack_call v (codes "u") (e' ∷ []) reference)
    taken_value e e' plain h _ _ (agree {c = cs} {d = ds} {ms = ms} {qs = qs} f g i) = rw (reads_stack e' plain ds ms qs (tie_of cs ds g).1) (then_alike T h used_tied _ _ (agree f g i))

    used_value : (e : Tree) → Unspread by_global e → avoids B value_taken e ≡ true → unused e ≡ true → Alike T Equal (value w (sense (source_place []) e).core >>= used) (value v (sense (target_place []) (context_call_node c (codes "u") (e before empty))).core)
    used_value e plain h g s t a = rw (means_stack e, plain_again v) (taken_value (sense (source_place []) e) (sense (target_place []) e) (plain v) (tied_tree e value_taken h g (places same refl)).core.evaluation s t a)

    taken_like : {ds es : Trees} → TakenUp c ds es → AllLike T w v a_declarator (cores (senses (source_place (codes "using")) ds)) (cores (senses (target_place (codes "const")) es))
    taken_like none_taken = no_more
    taken_like (one_taken {m = m} {l = l} {e = e} plain h g good rest) =
        let y : Text = first_text l.texts in
        let visible : own_or_stack c y ≡ false = own_seen c a_target y good in
        one_more (rw (same.scope y visible) (declarator_cases y visible (w.scope y) _ _ (sense (source_place []) e) (sense (target_place []) (context_call_node c (codes "u") (e before empty))) _ _ refl refl (used_value e plain h g) refl)) (taken_like rest)

    declares_alike : {ds es : Trees} → TakenUp c ds es → Alike T Equal (value w (gives_value (declared false (cores (senses (source_place (codes "using")) ds))))) (value v (gives_value (declared false (cores (senses (target_place (codes "const")) es)))))
    declares_alike h s t a = rw (plain_again w, plain_again v) (declared_alike T w v same false (taken_like h) s t a)

    -- A LIST
    pub wrapped_list : {ts us : Trees} → Wrapped c ts us → Alike T Equal (in_order w (cores (senses (source_place []) ts))) (in_order v (cores (senses (target_place []) us)))
    wrapped_list none_wrapped = return_alike T undefined
    wrapped_list (use_wrapped {m = m} {n = n} first second taken rest) = rw (first, second) (then_alike T (declares_alike taken) (λ u. wrapped_list rest))
    wrapped_list (rest_wrapped {a = a} h g rest) = then_alike T (tied_tree a value_taken h g (places same refl)).core.evaluation (λ u. wrapped_list rest)
