-- What stands at the places of a kind for texts and truth values, and a default where nothing does that may.
use Rattle.std.specs.Prelude.{ℕ, suc, List, [], ◌∷◌, Bool, false, Option, Some, None, unwrap_or, slice_index_or}
use Rattle.es_tree.specs.Words.{
  Text,
  source_type_text,
  source_type_of,
  variable_declaration_kind_text,
  variable_declaration_kind_of,
  method_definition_kind_text,
  method_definition_kind_of,
  property_kind_text,
  property_kind_of,
  unary_operator_text,
  unary_operator_of,
  update_operator_text,
  update_operator_of,
  binary_operator_text,
  binary_operator_of,
  logical_operator_text,
  logical_operator_of,
  assignment_operator_text,
  assignment_operator_of,
}
use Rattle.es_tree.specs.Heads.{Head, head}
use Rattle.es_tree.specs.Attributes.{text_entries, flag_entries, no_marks}
use Rattle.es_tree.specs.declared.ast_type.AstType.{AstType}
use Rattle.es_tree.specs.declared.operators.SourceType.TheVariants.{Script}
use Rattle.es_tree.specs.declared.operators.VariableDeclarationKind.TheVariants.{Var}
use Rattle.es_tree.specs.declared.operators.MethodDefinitionKind.TheVariants.{Method}
use Rattle.es_tree.specs.declared.operators.PropertyKind.TheVariants.{Init}
use Rattle.es_tree.specs.declared.operators.UnaryOperator.TheVariants.{LogicalNot}
use Rattle.es_tree.specs.declared.operators.UpdateOperator.TheVariants.{Increment}
use Rattle.es_tree.specs.declared.operators.BinaryOperator.TheVariants.{Addition}
use Rattle.es_tree.specs.declared.operators.LogicalOperator.TheVariants.{Or}
use Rattle.es_tree.specs.declared.operators.AssignmentOperator.TheVariants.{Assign}
use Rattle.es_tree.specs.declared.table.Entry.{Entry}
use Rattle.es_tree.specs.declared.table.Content.{Content}
use Rattle.es_tree.specs.declared.table.Content.TheVariants.{Text as c-Text}
use Rattle.es_tree.specs.declared.table.TextRule.{TextRule}
use Rattle.es_tree.specs.declared.table.TextRule.TheVariants.{
  SourceType as r-SourceType,
  VariableDeclarationKind as r-VariableDeclarationKind,
  MethodDefinitionKind as r-MethodDefinitionKind,
  PropertyKind as r-PropertyKind,
  UnaryOperator as r-UnaryOperator,
  UpdateOperator as r-UpdateOperator,
  BinaryOperator as r-BinaryOperator,
  LogicalOperator as r-LogicalOperator,
  AssignmentOperator as r-AssignmentOperator,
}

abbrev pub or_empty : Option Text → Text
or_empty None = []
or_empty (Some t) = t

-- The text of the word that a text names, or of a default.
abbrev pub read_word : TextRule → Text → Text
read_word r-SourceType t = source_type_text (unwrap_or (source_type_of t) Script)
read_word r-VariableDeclarationKind t = variable_declaration_kind_text (unwrap_or (variable_declaration_kind_of t) Var)
read_word r-MethodDefinitionKind t = method_definition_kind_text (unwrap_or (method_definition_kind_of t) Method)
read_word r-PropertyKind t = property_kind_text (unwrap_or (property_kind_of t) Init)
read_word r-UnaryOperator t = unary_operator_text (unwrap_or (unary_operator_of t) LogicalNot)
read_word r-UpdateOperator t = update_operator_text (unwrap_or (update_operator_of t) Increment)
read_word r-BinaryOperator t = binary_operator_text (unwrap_or (binary_operator_of t) Addition)
read_word r-LogicalOperator t = logical_operator_text (unwrap_or (logical_operator_of t) Or)
read_word r-AssignmentOperator t = assignment_operator_text (unwrap_or (assignment_operator_of t) Assign)
read_word _ t = t

abbrev pub read_text : Content → Option Text → Option Text
read_text (c-Text r) t = Some (read_word r (or_empty t))
read_text _ t = t

abbrev pub read_texts : List Entry → (ℕ → Option Text) → List (Option Text)
read_texts [] at = []
read_texts (e ∷ es) at = read_text e.content (at 0) ∷ read_texts es (λ i. at (suc i))

abbrev pub read_flags : List Entry → (ℕ → Bool) → List Bool
read_flags [] at = []
read_flags (e ∷ es) at = at 0 ∷ read_flags es (λ i. at (suc i))

abbrev pub read_head : AstType → List (Option Text) → List Bool → Head
read_head k ts fs = head k (read_texts (text_entries k) (λ i. slice_index_or ts i None)) (read_flags (flag_entries k) (λ i. slice_index_or fs i false)) (no_marks k)
