-- The two sides of a `??`: what has form has them, and they are seen as they are.
use Rattle.std.proofs.Common.{◌≡◌, ◌&&◌, refl, ap, true≢false, sym}
use Rattle.std.proofs.lemmas.Bool.{and_from}
use Rattle.std.specs.Prelude.{ℕ, true, Option}
use Rattle.es_tree.specs.Constructs.{is_nullish_coalescing}
use Rattle.es_tree.specs.HasForm.{has_form}
use Rattle.es_tree.specs.Tree.{Tree, node, Label, Fields}
use Rattle.es_tree.specs.Words.{Text}
use Rattle.es_tree.specs.declared.ast_type.AstType.TheVariants.{LogicalExpression}
use Rattle.es_tree.specs.declared.table.Sort.{Sort}
use Rattle.es_tree.specs.declared.table.Sort.TheVariants.{Expression as s-Expression}
use Rattle.es_tree.proofs.NodeForm.{node_form}
use Rattle.es_resolution.specs.Seen.{seen}
use Rattle.es_traverse.specs.Laws.{is_construct}
use Rattle.lower_temporaries.specs.Shapes.{is_pair}
use Rattle.lower_temporaries.proofs.TwoFields.{two-children, two-seen}
use Rattle.lower_nullish_coalescing.specs.Coalescings.{is_lowerable_coalescing}

sides-form : (s : Sort) (l : Label) (fs : Fields) → has_form s (node LogicalExpression l fs) ≡ true → is_pair fs ≡ true
sides-form s l fs h = ap is_pair (two-children LogicalExpression l s-Expression s-Expression _ _ refl refl fs (node_form s LogicalExpression l fs h).children).fields_are

-- a `??` that has form has its sides, so that it is lowered
pub formed-coalescing : (s : Sort) (t : Tree) → has_form s t ≡ true → is_construct is_nullish_coalescing t ≡ true → is_construct is_lowerable_coalescing t ≡ true
formed-coalescing s (node LogicalExpression l fs) h e = and_from (is_nullish_coalescing LogicalExpression l fs) (is_pair fs) e (sides-form s l fs h)
formed-coalescing s (node _ l fs) h e = absurd (true≢false (sym e))

pub lowerable-seen : (names : ℕ → Text → Option ℕ) (t : Tree) → is_construct is_lowerable_coalescing (seen names t) ≡ is_construct is_lowerable_coalescing t
lowerable-seen names (node LogicalExpression l fs) = ap (λ b. is_nullish_coalescing LogicalExpression l fs && b) (two-seen names (λ a b. true) (λ a b. refl) fs)
lowerable-seen names (node _ l fs) = refl
