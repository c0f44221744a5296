-- The rows of core programs leave no optional mark outside a chain, where none was, and so does a step at one place.
use Rattle.std.proofs.Common.{◌≡◌, ℕ, refl, List, [], ◌∷◌, inl, inr}
use Rattle.std.specs.Prelude.{Bool, true, false, ◌&&◌, ◌||◌, not}
use Rattle.es_tree.specs.Words.{Text}
use Rattle.es_tree.specs.Tree.{Tree, node, Label, Fields, done, ◌then◌, Field, missing, one, many, statements, Trees, empty, ◌before◌, trees, kind_of}
use Rattle.es_tree.specs.declared.ast_type.AstType.{AstType}
use Rattle.es_tree.specs.declared.ast_type.AstType.TheVariants.{AssignmentExpression, BinaryExpression, CallExpression, ChainExpression, LogicalExpression, MemberExpression, PrivateIdentifier, UnaryExpression}
use Rattle.es_runs.specs.Alike.{Need}
use Rattle.es_runs.specs.Core.{flag, flag_after}
use Rattle.es_runs.specs.OpenRules.{is_bound_in}
use Rattle.es_runs.specs.OpenRules.exponentiation_rule.{raises}
use Rattle.es_runs.specs.OpenSteps.{Whole}
use Rattle.es_runs.specs.Rules.{OnePlace, OneField, InField, OneNode, is_marked, on_spine, strays, strays_fields, strays_field, strays_nodes}
use Rattle.es_runs.specs.Rules.OnePlace.{this_place, below}
use Rattle.es_runs.specs.Rules.OneField.{first_field, later_field}
use Rattle.es_runs.specs.Rules.InField.{in_one, in_many, in_statements}
use Rattle.es_runs.specs.Rules.OneNode.{first_node, later_node}
use Rattle.es_runs.proofs.OptionalChainingTidy.{optional_chaining_tidy}
use Rattle.es_runs.proofs.CoreRows.{core_rule}
use Rattle.es_runs.proofs.Named.{or_both, or_first, or_second}
use Rattle.es_runs.proofs.RowFacts.{is_operator_kind, is_row_kind, Each, PassesOn, none_asked, assignment_good, nullish_coalescing_good, exponentiation_good}
use Rattle.es_runs.proofs.RowKinds.{row_kind}

-- ON A SPINE

none_marked : (b : Bool) → (b && false) ≡ false
none_marked true = refl
none_marked false = refl

mutual
  -- what strays nowhere strays on no spine
  spine_tidy : (t : Tree) → strays false t ≡ false → strays true t ≡ false
  spine_tidy (node MemberExpression l fs) h = or_both (flag_after l.flags && false) (strays_fields true fs) (none_marked (flag_after l.flags)) (spine_tidy_fields fs (or_second (flag_after l.flags && true) (strays_fields false fs) h))
  spine_tidy (node CallExpression l fs) h = or_both (flag l.flags && false) (strays_fields true fs) (none_marked (flag l.flags)) (spine_tidy_fields fs (or_second (flag l.flags && true) (strays_fields false fs) h))
  spine_tidy (node _ l fs) h = h

  spine_tidy_fields : (fs : Fields) → strays_fields false fs ≡ false → strays_fields true fs ≡ false
  spine_tidy_fields done h = refl
  spine_tidy_fields (f then fs) h = or_both (strays_field true f) (strays_fields false fs) (spine_tidy_field f (or_first (strays_field false f) (strays_fields false fs) h)) (or_second (strays_field false f) (strays_fields false fs) h)

  spine_tidy_field : (f : Field) → strays_field false f ≡ false → strays_field true f ≡ false
  spine_tidy_field missing h = refl
  spine_tidy_field (one t) h = spine_tidy t h
  spine_tidy_field (many ts) h = spine_tidy_trees ts h
  spine_tidy_field (statements ts) h = spine_tidy_trees ts h

  spine_tidy_trees : (ts : Trees) → strays_nodes false ts ≡ false → strays_nodes true ts ≡ false
  spine_tidy_trees empty h = refl
  spine_tidy_trees (t before ts) h = or_both (strays true t) (strays_nodes true ts) (spine_tidy t (or_first (strays false t) (strays_nodes false ts) h)) (spine_tidy_trees ts (or_second (strays false t) (strays_nodes false ts) h))

anywhere_tidy : (on : Bool) (t : Tree) → strays false t ≡ false → strays on t ≡ false
anywhere_tidy true t h = spine_tidy t h
anywhere_tidy false t h = h

-- what a row acts on is no step of a spine
acted_tidy : (on : Bool) (a : Tree) → is_row_kind (kind_of a) ≡ true → strays on a ≡ false → strays false a ≡ false
acted_tidy on (node LogicalExpression l fs) e h = h
acted_tidy on (node BinaryExpression l fs) e h = h
acted_tidy on (node AssignmentExpression l fs) e h = h
acted_tidy on (node ChainExpression l fs) e h = h
acted_tidy on (node UnaryExpression l fs) e h = h
acted_tidy on (node _ l fs) e h = absurd (cc e)

-- ROWS

abbrev Tidy : Tree → Type 0
Tidy t = strays false t ≡ false

-- the fields of a node that is no step of a spine and no chain
abbrev tidy_each : List Tree → Bool
tidy_each [] = false
tidy_each (t ∷ ts) = strays false t || tidy_each ts

each_tidy : (ts : List Tree) → Each Tidy ts → tidy_each ts ≡ false
each_tidy [] h = refl
each_tidy (t ∷ ts) h = or_both (strays false t) (tidy_each ts) h.0 (each_tidy ts h.1)

trees_tidy : (ts : List Tree) → Each Tidy ts → strays_nodes false (trees ts) ≡ false
trees_tidy [] h = refl
trees_tidy (t ∷ ts) h = or_both (strays false t) (strays_nodes false (trees ts)) h.0 (trees_tidy ts h.1)

sides_tidy : (k : AstType) (m : Label) (l r : Tree) → is_operator_kind k ≡ true → Tidy (node k m (one l then (one r then done))) → tidy_each (l ∷ r ∷ []) ≡ false
sides_tidy LogicalExpression m l r e h = h
sides_tidy BinaryExpression m l r e h = h
sides_tidy AssignmentExpression m l r e h = h
sides_tidy _ m l r e h = absurd (cc e)

member_parts : (l : Label) (o k : Tree) → Tidy (node MemberExpression l (one o then (one k then done))) → tidy_each (o ∷ k ∷ []) ≡ false
member_parts l o k h = or_second (flag_after l.flags && true) (tidy_each (o ∷ k ∷ [])) h

first_tidy : (t u : Tree) → tidy_each (t ∷ u ∷ []) ≡ false → Tidy t
first_tidy t u h = or_first (strays false t) (tidy_each (u ∷ [])) h

second_tidy : (t u : Tree) → tidy_each (t ∷ u ∷ []) ≡ false → Tidy u
second_tidy t u h = or_first (strays false u) false (or_second (strays false t) (tidy_each (u ∷ [])) h)

tidy_passes_on : PassesOn Tidy (λ x. Unit {0})
tidy_passes_on = record {
  inside = λ l t fs h. or_first (strays false t) (strays_fields false fs) h;
  left = λ k m l r e h. first_tidy l r (sides_tidy k m l r e h);
  right = λ k m l r e h. second_tidy l r (sides_tidy k m l r e h);
  object = λ l o k h. first_tidy o k (member_parts l o k h);
  key = λ l o k e h. second_tidy o k (member_parts l o k h);
  logical = λ m l r g h. each_tidy (l ∷ r ∷ []) (g, (h, tt));
  tests = λ m begin again r b a h. rw (b, a, h) refl;
  name = λ x fine. refl;
  takes = λ x e fine h. rw h refl;
  to_name = λ m n l t r q h e g. rw g refl;
  to_member = λ n l o k q h g. each_tidy (node MemberExpression l (one o then (one k then done)) ∷ q ∷ []) (h, (g, tt));
  static_member = λ k o h. rw h refl;
  private_member = λ l k o q h g. each_tidy (q ∷ node PrivateIdentifier k done ∷ []) (g, (refl, tt));
  computed_member = λ o k h g. each_tidy (o ∷ k ∷ []) (h, (g, tt));
  string = λ x. refl;
  power = λ m l r h g. or_both (strays_nodes false (trees (l ∷ r ∷ []))) false (trees_tidy (l ∷ r ∷ []) (h, (g, tt))) refl;
  sequence = λ m fs h. or_both (strays_nodes false (trees fs)) false (trees_tidy fs h) refl;
}

off_spine : (no_all : Bool) (w : Whole) {xs : List Text} {n : Need} {a b : Tree} → core_rule no_all w xs n a b → Tidy a → Tidy b
off_spine no_all w {xs} (inl r) h = assignment_good Tidy (λ x. Unit {0}) tidy_passes_on w.steady w.in_use r (none_asked xs) h
off_spine no_all w {xs} (inr (inl (inl r))) h = nullish_coalescing_good Tidy (λ x. Unit {0}) tidy_passes_on w.steady w.in_use r (none_asked xs) h
off_spine no_all w {xs} (inr (inl (inr r))) h = optional_chaining_tidy no_all (is_bound_in w) w.steady w.in_use r h
off_spine no_all w {xs} (inr (inr (raises math r))) h = exponentiation_good Tidy (λ x. Unit {0}) tidy_passes_on (is_bound_in w) w.in_use r (none_asked xs) h

-- where the node stands on a chain's spine or not
pub row_tidy : (no_all : Bool) (w : Whole) {xs : List Text} {n : Need} {a b : Tree} → core_rule no_all w xs n a b → (on : Bool) → strays on a ≡ false → strays on b ≡ false
row_tidy no_all w {xs} {n} {a} {b} r on h = anywhere_tidy on b (off_spine no_all w r (acted_tidy on a (row_kind no_all w r).acted h))

-- STEPS

module _ (no_all : Bool) (w : Whole) (xs : List Text) where
  mutual
    pub step_tidy : {n : Need} {t u : Tree} → OnePlace (core_rule no_all w xs) n t u → (on : Bool) → strays on t ≡ false → strays on u ≡ false
    step_tidy (this_place r) on h = row_tidy no_all w r on h
    step_tidy (below {k = k} {l = l} {fs = fs} {gs = gs} r) on h =
        or_both (is_marked k l.flags && not on) (strays_fields (on_spine k on) gs) (or_first (is_marked k l.flags && not on) (strays_fields (on_spine k on) fs) h)
        (step_tidy_fields r (on_spine k on) (or_second (is_marked k l.flags && not on) (strays_fields (on_spine k on) fs) h))

    step_tidy_fields : {c : ℕ → Need} {fs gs : Fields} → OneField (core_rule no_all w xs) c fs gs → (on : Bool) → strays_fields on fs ≡ false → strays_fields on gs ≡ false
    step_tidy_fields (first_field {f = f} {g = g} {fs = fs} r) on h =
        or_both (strays_field on g) (strays_fields false fs) (step_tidy_field r on (or_first (strays_field on f) (strays_fields false fs) h)) (or_second (strays_field on f) (strays_fields false fs) h)
    step_tidy_fields (later_field {f = f} {fs = fs} {gs = gs} r) on h =
        or_both (strays_field on f) (strays_fields false gs) (or_first (strays_field on f) (strays_fields false fs) h) (step_tidy_fields r false (or_second (strays_field on f) (strays_fields false fs) h))

    step_tidy_field : {n : Need} {f g : Field} → InField (core_rule no_all w xs) n f g → (on : Bool) → strays_field on f ≡ false → strays_field on g ≡ false
    step_tidy_field (in_one r) on h = step_tidy r on h
    step_tidy_field (in_many r) on h = step_tidy_trees r on h
    step_tidy_field (in_statements r) on h = step_tidy_trees r on h

    step_tidy_trees : {n : Need} {ts us : Trees} → OneNode (core_rule no_all w xs) n ts us → (on : Bool) → strays_nodes on ts ≡ false → strays_nodes on us ≡ false
    step_tidy_trees (first_node {a = a} {b = b} {xs = ts} r) on h =
        or_both (strays on b) (strays_nodes on ts) (step_tidy r on (or_first (strays on a) (strays_nodes on ts) h)) (or_second (strays on a) (strays_nodes on ts) h)
    step_tidy_trees (later_node {a = a} {xs = ts} {ys = us} r) on h =
        or_both (strays on a) (strays_nodes on us) (or_first (strays on a) (strays_nodes on ts) h) (step_tidy_trees r on (or_second (strays on a) (strays_nodes on ts) h))
