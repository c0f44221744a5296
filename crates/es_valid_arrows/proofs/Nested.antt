-- What may stand in which field of a program that has form: the body of a function in that of a function or an arrow, no program, and
-- nothing beyond the key and the value of a class field.
use Rattle.std.proofs.Common.{◌≡◌, ◌==◌, ℕ, suc, refl}
use Rattle.std.specs.Prelude.{◌&&◌, ◌||◌, not, Bool, true, false, Some}
use Rattle.es_tree.specs.Ancestors.{is_function}
use Rattle.es_tree.specs.Attributes.{child_entries}
use Rattle.es_tree.specs.HasForm.{ElementsPlace, elements_of, has_form, same_type}
use Rattle.es_tree.specs.Tree.{node, Label, Fields}
use Rattle.es_tree.specs.declared.ast_type.AstType.{AstType}
use Rattle.es_tree.specs.declared.ast_type.AstType.TheVariants.{ArrayExpression, ArrayPattern, ArrayTarget, ArrowFunctionExpression, FunctionBody, Program, PropertyDefinition}
use Rattle.es_tree.specs.declared.table.Sort.{Sort}
use Rattle.es_semantic.proofs.FormEdges.{EdgesIn, ElementsFit, edges-inside, elements-are, entries_fit}

abbrev pub is_body_place : AstType → ℕ → Bool
is_body_place k i = (is_function k && i == 2) || (same_type k ArrowFunctionExpression && i == 1)

abbrev is_beyond : ℕ → Bool
is_beyond (suc (suc i)) = true
is_beyond _ = false

abbrev pub nested : AstType → ℕ → Bool → AstType → Bool
nested k i last j = (not (same_type j FunctionBody) || is_body_place k i) && not (same_type j Program) && not (same_type k PropertyDefinition && is_beyond i)

entries-fit : (k : AstType) → entries_fit nested k 0 (child_entries k) ≡ true
entries-fit Program = refl
entries-fit _ = refl

elements-fit : (k : AstType) (p : ElementsPlace) → elements_of (child_entries k) ≡ Some p → ElementsFit nested k p
elements-fit ArrayExpression p e = elements-are nested ArrayExpression _ p e (record { sort = λ i b. refl; last = λ i b. refl })
elements-fit ArrayPattern p e = elements-are nested ArrayPattern _ p e (record { sort = λ i b. refl; last = λ i b. refl })
elements-fit ArrayTarget p e = elements-are nested ArrayTarget _ p e (record { sort = λ i b. refl; last = λ i b. refl })
elements-fit _ p e = absurd (cc e)

pub edges-nested : (s : Sort) (k : AstType) (l : Label) (fs : Fields) → has_form s (node k l fs) ≡ true → EdgesIn nested k 0 fs
edges-nested = edges-inside nested (record { entries = entries-fit; elements = elements-fit })
