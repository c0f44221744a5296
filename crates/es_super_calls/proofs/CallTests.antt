-- Of how many fields calls of `super` are told.
use Rattle.std.proofs.Common.{◌≡◌, ◌<◌, List, [], ◌∷◌, arith, false, length, refl}
use Rattle.es_tree.specs.Tree.{Label, Fields, done, ◌then◌, Field, missing, one, many, statements, label_of, node}
use Rattle.es_tree.specs.Views.{plain, plain_field, plain_fields}
use Rattle.es_tree.specs.declared.ast_type.AstType.TheVariants.{ExpressionStatement}
use Rattle.es_tree.specs.declared.ids.NodeId.{NodeId}
use Rattle.es_tree.specs.declared.ids.Span.{Span}
use Rattle.es_tree.specs.declared.kind.Kind.TheVariants.{ExpressionStatement as k-ExpressionStatement}
use Rattle.es_tree.specs.declared.node.Field.{Field as NodeField}
use Rattle.es_super_calls.specs.SuperCalls.{calls_super_before, is_super_statement}

-- STATEMENTS have one

two-fields : (l : Label) (f g : Field) (fs : Fields) → is_super_statement (node ExpressionStatement l (f then g then fs)) ≡ false
two-fields l missing g fs = refl
two-fields l (one t) g fs = refl
two-fields l (many ts) g fs = refl
two-fields l (statements ts) g fs = refl

pub statement-more : (id : NodeId) (span : Span) (fs : List NodeField) → 1 < length fs → is_super_statement (plain id span k-ExpressionStatement (plain_fields fs)) ≡ false
statement-more id span [] h = absurd (omega (arith, h))
statement-more id span (f ∷ []) h = absurd (omega (arith, h))
statement-more id span (f ∷ g ∷ fs) h = two-fields (label_of (plain id span k-ExpressionStatement done)) (plain_field f) (plain_field g) (plain_fields fs)

-- and FUNCTIONS two or more

pub function-fewer : (fs : List NodeField) → length fs < 2 → calls_super_before (plain_fields fs) ≡ false
function-fewer [] h = refl
function-fewer (n ∷ []) h = refl
function-fewer (n ∷ ps ∷ fs) h = absurd (omega (arith, h))
