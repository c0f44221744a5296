-- What stands in parentheses, by form: it stands there alone.
use Rattle.std.proofs.Common.{◌≡◌, refl}
use Rattle.std.proofs.lemmas.Bool.{and_from}
use Rattle.std.specs.Prelude.{true, false}
use Rattle.es_tree.proofs.NodeForm.{node_form}
use Rattle.es_tree.specs.HasForm.{has_form}
use Rattle.es_tree.specs.Tree.{Tree, node, Label, Fields, done, ◌then◌, missing, one, many, statements}
use Rattle.es_tree.specs.declared.ast_type.AstType.TheVariants.{AssignmentExpression, ParenthesizedExpression}
use Rattle.es_tree.specs.declared.table.Sort.{Sort}
use Rattle.es_tree.specs.declared.table.Sort.TheVariants.{AssignmentTarget as s-AssignmentTarget, Expression as s-Expression}
use Rattle.es_runs.proofs.Named.{and_left, and_right}
use Rattle.es_runs.specs.Duplication.{has_no_fields}
use Rattle.es_steps.specs.Duplication.{is_alone}

pub inside-form : (l : Label) (t : Tree) (fs : Fields) (s : Sort) → has_form s (node ParenthesizedExpression l (one t then fs)) ≡ true → (has_form s-Expression t ≡ true) × (has_no_fields fs ≡ true)
inside-form l t done s h = (and_left (has_form s-Expression t) true (node_form s ParenthesizedExpression l (one t then done) h).children, refl)
inside-form l t (f then fs) s h = absurd (let no = and_right (has_form s-Expression t) false (node_form s ParenthesizedExpression l (one t then (f then fs)) h).children in cc no)

pub alone-form : (s : Sort) (t : Tree) → has_form s t ≡ true → is_alone t ≡ true
alone-form s (node ParenthesizedExpression l (one t then fs)) h = let p = inside-form l t fs s h in and_from (has_no_fields fs) (is_alone t) p.1 (alone-form s-Expression t p.0)
alone-form s (node ParenthesizedExpression l done) h = refl
alone-form s (node ParenthesizedExpression l (missing then fs)) h = refl
alone-form s (node ParenthesizedExpression l (many ts then fs)) h = refl
alone-form s (node ParenthesizedExpression l (statements ts then fs)) h = refl
alone-form s (node _ l fs) h = refl

-- the target of an assignment with its two sides
pub sides-alone : (s : Sort) (m : Label) (t r : Tree) → has_form s (node AssignmentExpression m (one t then (one r then done))) ≡ true → is_alone t ≡ true
sides-alone s m t r h = alone-form s-AssignmentTarget t (and_left (has_form s-AssignmentTarget t) _ (node_form s AssignmentExpression m (one t then (one r then done)) h).children)
