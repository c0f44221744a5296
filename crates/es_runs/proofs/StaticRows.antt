-- The rows of core programs keep the static rules at each place.
use Rattle.std.proofs.Common.{◌≡◌, refl, List, [], ◌∷◌, inl, inr}
use Rattle.std.specs.Prelude.{Bool, true, false, ◌||◌, not, bytes_eq, codes, if◌then◌else◌}
use Rattle.std.specs.List.{list_any}
use Rattle.es_tree.specs.CoreStaticRules.{first_place, is_bad_target, is_empty_chain, is_stray_optional, is_bad_delete, is_missing_init, is_optional, is_simple_target, target_place}
use Rattle.es_tree.specs.HasForm.{same_type}
use Rattle.es_tree.specs.Names.{first_text}
use Rattle.es_tree.specs.Parens.{without_parens}
use Rattle.es_tree.specs.Table.{own_kinds}
use Rattle.es_tree.specs.Tree.{Tree, node, Label, Fields, done, ◌then◌, one, trees, kind_of}
use Rattle.es_tree.specs.Words.{Text}
use Rattle.es_tree.specs.declared.ast_type.AstType.{AstType}
use Rattle.es_tree.specs.declared.ast_type.AstType.TheVariants.{AssignmentExpression, BinaryExpression, CallExpression, ChainExpression, ConditionalExpression, Identifier, LogicalExpression, MemberExpression, SequenceExpression, VariableDeclaration, VariableDeclarator, UnaryExpression}
use Rattle.es_tree.specs.declared.table.Sort.{Sort}
use Rattle.es_tree.specs.declared.table.Sort.TheVariants.{Expression as s-Expression, AssignmentTarget as s-AssignmentTarget}
use Rattle.es_tree.specs.declared.place.Place.{Place}
use Rattle.es_tree.specs.declared.place.Place.TheVariants.{Other, ProgramBody, Spine, Target, Declarator, Declared}
use Rattle.es_runs.specs.Alike.{Need}
use Rattle.es_runs.specs.OpenRules.{is_bound_in}
use Rattle.es_runs.specs.OpenRules.exponentiation_rule.{raises}
use Rattle.es_runs.specs.OpenSteps.{Whole}
use Rattle.es_runs.specs.Rules.{binary_node, null_node, void_zero_node}
use Rattle.es_runs.specs.Runs.{identifier}
use Rattle.es_runs.specs.Standing.{is_declaration}
use Rattle.es_runs.proofs.OptionalChainingStatics.{optional_chaining_keeps}
use Rattle.es_runs.proofs.CoreRows.{core_rule}
use Rattle.es_runs.proofs.RowFacts.{is_operator_kind, is_row_kind, Each, PassesOn, assignment_good, nullish_coalescing_good, exponentiation_good}
use Rattle.es_runs.proofs.RowKinds.{is_left_kind, RowKinds, row_kind}
use Rattle.es_runs.proofs.StaticKeeps.{Own, Keeps, KeepsTrees, assigns, free_own, member_keeps, moved_fields, name_keeps, name_target, null_keeps, quiet_value, to_spine, zero_keeps}

-- TARGETS

-- what an assignment writes is no declaration
no_declaration : (plain : Bool) (t : Tree) → is_bad_target (Target (if plain then s-AssignmentTarget else s-Expression)) t ≡ false → is_declaration (kind_of t) ≡ false
no_declaration true (node VariableDeclaration l fs) h = absurd (cc h)
no_declaration false (node VariableDeclaration l fs) h = absurd (cc h)
no_declaration plain (node _ l fs) h = refl

first_of_target : (s : Sort) (k : AstType) (l : Label) → is_declaration k ≡ false → first_place (Target s) k l ≡ first_place Other k l
first_of_target s VariableDeclaration l h = absurd (cc h)
first_of_target s VariableDeclarator l h = refl
first_of_target s MemberExpression l h = refl
first_of_target s CallExpression l h = refl
first_of_target s _ l h = refl

from_target : (s : Sort) (t : Tree) → is_declaration (kind_of t) ≡ false → Keeps (Target s) t → Keeps Other t
from_target s (node k l fs) e h = (
  record { target = refl; chain = h.0.chain; mark = h.0.mark; deleted = h.0.deleted; value = quiet_value Other (node k l fs) refl },
  moved_fields (Target s) Other k l fs (first_of_target s k l e) h.1,
)

written_there : (op : Text) (t : Tree) → Keeps (target_place op) t → Keeps Other t
written_there op t h = from_target _ t (no_declaration (bytes_eq op (codes "=")) t (own_target op t h)) h
  where
    own_target : (op : Text) (t : Tree) → Keeps (target_place op) t → is_bad_target (target_place op) t ≡ false
    own_target op (node k l fs) h = h.0.target

-- a member may be written
member_target : (s : Sort) (l : Label) (fs : Fields) → Keeps Other (node MemberExpression l fs) → Keeps (Target s) (node MemberExpression l fs)
member_target s l fs h = (
  record { target = simple (list_any (same_type MemberExpression) (own_kinds s)); chain = refl; mark = h.0.mark; deleted = refl; value = refl },
  moved_fields Other (Target s) MemberExpression l fs refl h.1,
)
  where
    simple : (b : Bool) → not (b || true) ≡ false
    simple true = refl
    simple false = refl

-- WHAT ROWS MAKE

sides : (k : AstType) (m : Label) (l r : Tree) → is_operator_kind k ≡ true → Keeps Other (node k m (one l then (one r then done))) → Keeps Other l × Keeps Other r
sides LogicalExpression m l r e h = (h.1.0, h.1.1.0)
sides BinaryExpression m l r e h = (h.1.0, h.1.1.0)
sides AssignmentExpression m l r e h = (written_there (first_text m.texts) l h.1.0, h.1.1.0)
sides _ m l r e h = absurd (cc e)

sequence_keeps : (fs : List Tree) → Each (Keeps Other) fs → KeepsTrees Other (trees fs)
sequence_keeps [] h = tt
sequence_keeps (f ∷ fs) h = (h.0, sequence_keeps fs h.1)

keeps_passes_on : PassesOn (Keeps Other) (λ x. Unit {0})
keeps_passes_on = record {
  inside = λ l t fs h. h.1.0;
  left = λ k m l r e h. (sides k m l r e h).0;
  right = λ k m l r e h. (sides k m l r e h).1;
  object = λ l o k h. h.1.0;
  key = λ l o k e h. h.1.1.0;
  logical = λ m l r g h. (free_own LogicalExpression m _ refl, (g, (h, tt)));
  tests = λ m begin again r b a h.
      let first : Keeps Other (binary_node (codes "!==") begin null_node) = (free_own BinaryExpression _ _ refl, (b, (null_keeps, tt))) in
      let second : Keeps Other (binary_node (codes "!==") again void_zero_node) = (free_own BinaryExpression _ _ refl, (a, (zero_keeps, tt))) in
      (free_own ConditionalExpression _ _ refl, ((free_own LogicalExpression _ _ refl, (first, (second, tt))), (a, (h, tt))));
  name = λ x fine. name_keeps _;
  takes = λ x e fine h. assigns _ (identifier x) e (λ s. name_target s _) h;
  to_name = λ m n l t r q h e g. assigns n (node Identifier l done) q (λ s. name_target s l) g;
  to_member = λ n l o k q h g. assigns n (node MemberExpression l (one o then (one k then done))) q (λ s. member_target s l _ h) g;
  static_member = λ k o h. member_keeps false o _ h (name_keeps k);
  private_member = λ l k o q h g. member_keeps false q _ g h.1.1.0;
  computed_member = λ o k h g. member_keeps true o k h g;
  string = λ x. (free_own _ _ _ refl, tt);
  power = λ m l r g h. (record { target = refl; chain = refl; mark = refl; deleted = refl; value = refl }, (member_keeps false _ _ (name_keeps _) (name_keeps _), ((g, (h, tt)), tt)));
  sequence = λ m fs h. (free_own SequenceExpression m _ refl, (sequence_keeps fs h, tt));
}

-- AT EACH PLACE

-- no sort of targets has kinds on which rows act
not_own : (s : Sort) (k : AstType) → is_row_kind k ≡ true → list_any (same_type k) (own_kinds s) ≡ false
not_own s LogicalExpression h = at s
  where
    at : (s : Sort) → list_any (same_type LogicalExpression) (own_kinds s) ≡ false
    at s-Expression = refl
    at _ = refl
not_own s BinaryExpression h = at s
  where
    at : (s : Sort) → list_any (same_type BinaryExpression) (own_kinds s) ≡ false
    at s-Expression = refl
    at _ = refl
not_own s AssignmentExpression h = at s
  where
    at : (s : Sort) → list_any (same_type AssignmentExpression) (own_kinds s) ≡ false
    at s-Expression = refl
    at _ = refl
not_own s ChainExpression h = at s
  where
    at : (s : Sort) → list_any (same_type ChainExpression) (own_kinds s) ≡ false
    at s-Expression = refl
    at _ = refl
not_own s UnaryExpression h = at s
  where
    at : (s : Sort) → list_any (same_type UnaryExpression) (own_kinds s) ≡ false
    at s-Expression = refl
    at _ = refl
not_own s _ h = absurd (cc h)

not_simple : (k : AstType) (l : Label) (fs : Fields) → is_row_kind k ≡ true → is_simple_target (kind_of (without_parens (node k l fs))) ≡ false
not_simple LogicalExpression l fs h = refl
not_simple BinaryExpression l fs h = refl
not_simple AssignmentExpression l fs h = refl
not_simple ChainExpression l fs h = refl
not_simple UnaryExpression l fs h = refl
not_simple _ l fs h = absurd (cc h)

not_target : (s : Sort) (k : AstType) (l : Label) (fs : Fields) → is_row_kind k ≡ true → is_bad_target (Target s) (node k l fs) ≡ true
not_target s k l fs h = rw (not_own s k h, not_simple k l fs h) refl

-- the kinds of the nodes that rows leave, but for calls
abbrev is_plain_kind : AstType → Bool
is_plain_kind AssignmentExpression = true
is_plain_kind ConditionalExpression = true
is_plain_kind LogicalExpression = true
is_plain_kind SequenceExpression = true
is_plain_kind _ = false

abbrev is_target : Place → Bool
is_target (Target s) = true
is_target _ = false

-- a node that is no target keeps the rules of its own wherever it stands
own_anywhere : (p : Place) (k : AstType) (l : Label) (fs : Fields) → is_target p ≡ false → is_plain_kind k ≡ true → Own p (node k l fs)
own_anywhere p k l fs e h = record { target = target p e; chain = chain k h; mark = mark p k h; deleted = deleted k h; value = value p k h }
  where
    target : (p : Place) → is_target p ≡ false → is_bad_target p (node k l fs) ≡ false
    target (Target s) e = absurd (cc e)
    target _ e = refl

    chain : (k : AstType) → is_plain_kind k ≡ true → is_empty_chain (node k l fs) ≡ false
    chain ChainExpression h = absurd (cc h)
    chain _ h = refl

    no_mark : (k : AstType) → is_plain_kind k ≡ true → is_optional k l ≡ false
    no_mark MemberExpression h = absurd (cc h)
    no_mark CallExpression h = absurd (cc h)
    no_mark _ h = refl

    mark : (p : Place) (k : AstType) → is_plain_kind k ≡ true → is_stray_optional p (node k l fs) ≡ false
    mark Spine k h = refl
    mark _ k h = no_mark k h

    deleted : (k : AstType) → is_plain_kind k ≡ true → is_bad_delete (node k l fs) ≡ false
    deleted UnaryExpression h = absurd (cc h)
    deleted _ h = refl

    value : (p : Place) (k : AstType) → is_plain_kind k ≡ true → is_missing_init p (node k l fs) ≡ false
    value p VariableDeclarator h = absurd (cc h)
    value p _ h = refl

-- where a node on which a row acts keeps the rules, it keeps them anywhere else
row_elsewhere : (p : Place) (a : Tree) → is_row_kind (kind_of a) ≡ true → Keeps p a → Keeps Other a
row_elsewhere p (node k l fs) e h = (
  record { target = refl; chain = h.0.chain; mark = mark k e; deleted = h.0.deleted; value = quiet_value Other (node k l fs) refl },
  moved_fields p Other k l fs (first k e) h.1,
)
  where
    mark : (k : AstType) → is_row_kind k ≡ true → is_optional k l ≡ false
    mark MemberExpression e = absurd (cc e)
    mark CallExpression e = absurd (cc e)
    mark _ e = refl

    first : (k : AstType) → is_row_kind k ≡ true → first_place p k l ≡ first_place Other k l
    first LogicalExpression e = refl
    first BinaryExpression e = refl
    first AssignmentExpression e = refl
    first ChainExpression e = refl
    first UnaryExpression e = refl
    first _ e = absurd (cc e)

no_row_target : (s : Sort) (a : Tree) → is_row_kind (kind_of a) ≡ true → Keeps (Target s) a → ⊥
no_row_target s (node k l fs) e h = absurd (cc (not_target s k l fs e, h.0.target))

-- what a row leaves may stand at each place that isn't a target's
left_anywhere : (p : Place) (b : Tree) → is_target p ≡ false → is_left_kind (kind_of b) ≡ true → Keeps Other b → Keeps p b
left_anywhere Spine b e h g = to_spine b g
left_anywhere p (node CallExpression l fs) e h g = call p e
  where
    call : (p : Place) → is_target p ≡ false → Keeps p (node CallExpression l fs)
    call (Target s) e = absurd (cc e)
    call Spine e = to_spine (node CallExpression l fs) g
    call Other e = g
    call ProgramBody e = (record { target = refl; chain = refl; mark = g.0.mark; deleted = refl; value = refl }, moved_fields Other ProgramBody CallExpression l fs refl g.1)
    call (Declarator top lexical constant) e = (record { target = refl; chain = refl; mark = g.0.mark; deleted = refl; value = refl }, moved_fields Other (Declarator top lexical constant) CallExpression l fs refl g.1)
    call (Declared lexical) e = (record { target = refl; chain = refl; mark = g.0.mark; deleted = refl; value = refl }, moved_fields Other (Declared lexical) CallExpression l fs refl g.1)
left_anywhere p (node AssignmentExpression l fs) e h g = (own_anywhere p AssignmentExpression l fs e refl, moved_fields Other p AssignmentExpression l fs refl g.1)
left_anywhere p (node ConditionalExpression l fs) e h g = (own_anywhere p ConditionalExpression l fs e refl, moved_fields Other p ConditionalExpression l fs refl g.1)
left_anywhere p (node LogicalExpression l fs) e h g = (own_anywhere p LogicalExpression l fs e refl, moved_fields Other p LogicalExpression l fs refl g.1)
left_anywhere p (node SequenceExpression l fs) e h g = (own_anywhere p SequenceExpression l fs e refl, moved_fields Other p SequenceExpression l fs refl g.1)
left_anywhere p (node _ l fs) e h g = absurd (cc h)

none_asked : (xs : List Text) → Each (λ x. Unit {0}) xs
none_asked [] = tt
none_asked (x ∷ xs) = (tt, none_asked xs)

-- a row keeps the rules anywhere else
kept_elsewhere : (no_all : Bool) (w : Whole) {xs : List Text} {n : Need} {a b : Tree} → core_rule no_all w xs n a b → Keeps Other a → Keeps Other b
kept_elsewhere no_all w {xs} (inl r) h = assignment_good (Keeps Other) (λ x. Unit {0}) keeps_passes_on w.steady w.in_use r (none_asked xs) h
kept_elsewhere no_all w {xs} (inr (inl (inl r))) h = nullish_coalescing_good (Keeps Other) (λ x. Unit {0}) keeps_passes_on w.steady w.in_use r (none_asked xs) h
kept_elsewhere no_all w (inr (inl (inr r))) h = optional_chaining_keeps no_all (is_bound_in w) w.steady w.in_use r h
kept_elsewhere no_all w {xs} (inr (inr (raises math r))) h = exponentiation_good (Keeps Other) (λ x. Unit {0}) keeps_passes_on (is_bound_in w) w.in_use r (none_asked xs) h

-- a row keeps the rules at each place
pub row_keeps : (no_all : Bool) (w : Whole) {xs : List Text} {n : Need} {a b : Tree} → core_rule no_all w xs n a b → (p : Place) → Keeps p a → Keeps p b
row_keeps no_all w {a = a} {b = b} r p h = at p (is_target p) refl h
  where
    kinds : RowKinds a b
    kinds = row_kind no_all w r

    at : (p : Place) (target : Bool) → is_target p ≡ target → Keeps p a → Keeps p b
    at (Target s) _ e h = absurd (no_row_target s a kinds.acted h)
    at p false e h = left_anywhere p b e kinds.left (kept_elsewhere no_all w r (row_elsewhere p a kinds.acted h))
    at Other true e h = absurd (cc e)
    at ProgramBody true e h = absurd (cc e)
    at Spine true e h = absurd (cc e)
    at (Declarator top lexical constant) true e h = absurd (cc e)
    at (Declared lexical) true e h = absurd (cc e)
