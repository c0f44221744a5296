-- The rows of core programs are alike, at any place where they act and no optional mark stands outside a chain.
use Rattle.std.proofs.Common.{◌≡◌, refl, inl, inr, List}
use Rattle.std.specs.Prelude.{Bool, true, false, codes, not, ◌&&◌}
use Rattle.es_runs.specs.Exponentiation.{is_classless, is_private_kind, is_super_kind, is_raisable}
use Rattle.es_tree.specs.Words.{Text}
use Rattle.es_tree.specs.Core.{is_core_node}
use Rattle.es_tree.specs.Parens.{without_parens}
use Rattle.es_tree.specs.Tree.{Tree, node, kind_of, Label, done, ◌then◌, one}
use Rattle.es_tree.specs.Walks.{all_nodes, all_in_fields}
use Rattle.es_tree.specs.declared.ast_type.AstType.TheVariants.{AssignmentExpression, MemberExpression, ParenthesizedExpression, PrivateIdentifier, Super, BinaryExpression, SpreadElement}
use Rattle.es_runs.specs.Alike.{Like, Need, set_cells}
use Rattle.es_runs.specs.Core.{World, is_free, meaning, is_spread_kind}
use Rattle.es_runs.specs.OpenRules.{is_bound_in}
use Rattle.es_runs.specs.OpenRules.exponentiation_rule.{raises}
use Rattle.es_runs.specs.OpenSteps.{Whole}
use Rattle.es_runs.proofs.LogicalAssignment.{logical_assignment_like}
use Rattle.es_runs.proofs.NullishCoalescing.{nullish_coalescing_like}
use Rattle.es_runs.proofs.CoreRows.{core_rule}
use Rattle.es_runs.proofs.Exponentiation.{exponentiation_like}
use Rattle.es_runs.proofs.Named.{and_left, and_right}
use Rattle.es_runs.proofs.RowPlaces.{RowPlace}
use Rattle.es_runs.proofs.Written.{one_of}
use Rattle.es_runs.proofs.OptionalChaining.{WhereTidy, optional_chaining_like}

-- where `Math` is no bound name, it isn't bound in the source's world
abbrev MathFree : Whole → World → Type 0
MathFree whole w = is_bound_in whole (codes "Math") ≡ false → is_free (w.scope (codes "Math")) ≡ true

no_super : (t : Tree) → all_nodes is_core_node t ≡ true → is_super_kind (kind_of t) ≡ false
no_super (node Super l fs) h = absurd (cc h)
no_super (node _ l fs) h = refl

no_private : (t : Tree) → all_nodes is_core_node t ≡ true → is_private_kind (kind_of t) ≡ false
no_private (node PrivateIdentifier l fs) h = absurd (cc h)
no_private (node _ l fs) h = refl

core_parts : (l : Label) (o k : Tree) → all_nodes is_core_node (node MemberExpression l (one o then (one k then done))) ≡ true → is_classless (node MemberExpression l (one o then (one k then done))) ≡ true
core_parts l o k h = rw (no_super o (and_left (all_nodes is_core_node o) (all_nodes is_core_node k && true) h), no_private k (and_left (all_nodes is_core_node k) true (and_right (all_nodes is_core_node o) (all_nodes is_core_node k && true) h))) refl

core_classless : (t : Tree) → all_nodes is_core_node t ≡ true → is_classless (without_parens t) ≡ true
core_classless (node ParenthesizedExpression l (one t then fs)) h = core_classless t (and_left (all_nodes is_core_node t) (all_in_fields is_core_node fs) h)
core_classless (node ParenthesizedExpression l _) h = refl
core_classless (node MemberExpression l (one o then (one k then done))) h = core_parts l o k h
core_classless (node _ l fs) h = refl

no_spread : (t : Tree) → all_nodes is_core_node t ≡ true → is_spread_kind (kind_of t) ≡ false
no_spread (node SpreadElement l fs) h = absurd (cc h)
no_spread (node _ l fs) h = refl

core_raisable : (a : Tree) → all_nodes is_core_node a ≡ true → is_raisable a ≡ true
core_raisable (node AssignmentExpression l (one t then (one r then fs))) h =
    let rest = and_right (all_nodes is_core_node t) (all_nodes is_core_node r && all_in_fields is_core_node fs) h in
    rw (core_classless t (and_left (all_nodes is_core_node t) (all_nodes is_core_node r && all_in_fields is_core_node fs) h), no_spread r (and_left (all_nodes is_core_node r) (all_in_fields is_core_node fs) rest)) refl
core_raisable (node BinaryExpression m (one l then (one r then fs))) h =
    let rest = and_right (all_nodes is_core_node l) (all_nodes is_core_node r && all_in_fields is_core_node fs) h in
    rw (no_spread l (and_left (all_nodes is_core_node l) (all_nodes is_core_node r && all_in_fields is_core_node fs) h), no_spread r (and_left (all_nodes is_core_node r) (all_in_fields is_core_node fs) rest)) refl
core_raisable (node _ l fs) h = refl

pub core_alike : (no_all : Bool) (whole : Whole) (xs : List Text) (w v : World) → MathFree whole w → (n : Need) (a b : Tree) → w.counts_all ≡ not no_all → RowPlace (is_bound_in whole) whole.steady w v xs n a → all_nodes is_core_node a ≡ true → WhereTidy (core_rule no_all whole xs) n a b →
    Like (set_cells (one_of xs)) w v n (meaning w a) (meaning v b)
core_alike no_all whole xs w v free n a b counts place core (inl r, tidy) = logical_assignment_like (is_bound_in whole) whole.steady whole.in_use xs w v n a b place r
core_alike no_all whole xs w v free n a b counts place core (inr (inl (inl r)), tidy) = nullish_coalescing_like (is_bound_in whole) whole.steady whole.in_use xs w v n a b place r
core_alike no_all whole xs w v free n a b counts place core (inr (inl (inr r)), tidy) = optional_chaining_like no_all (is_bound_in whole) whole.steady whole.in_use xs w v n a b counts place (r, tidy)
core_alike no_all whole xs w v free n a b counts place core (inr (inr (raises math r)), tidy) = exponentiation_like whole.in_use w v (free math) n a b place (core_raisable a core) r
