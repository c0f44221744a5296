-- Duplication: an expression that is read more than once. Some are written down again, and the others take a temporary.
use Rattle.std.specs.Prelude.{◌≡◌, List, [], ◌∷◌, ◌&&◌, Bool, true, false, is_some, Option}
use Rattle.es_tree.specs.Words.{Text}
use Rattle.es_tree.specs.Names.{first_text}
use Rattle.es_tree.specs.Fresh.{IsFreshName, node_base, text_base}
use Rattle.es_tree.specs.Tree.{Tree, node, Fields, done, ◌then◌, many, empty, ◌before◌}
use Rattle.es_tree.specs.declared.ast_type.AstType.TheVariants.{Identifier, ThisExpression, Super, NullLiteral, BooleanLiteral, NumericLiteral, BigIntLiteral, StringLiteral, TemplateLiteral, TemplateElement}
use Rattle.es_runs.specs.Runs.{identifier}
use Rattle.es_runs.specs.Rules.{assign_node}

abbrev pub has_no_fields : Fields → Bool
has_no_fields done = true
has_no_fields _ = false

-- the text that a part of a template gives, if it gives one
abbrev pub is_cooked : List (Option Text) → Bool
is_cooked (raw ∷ cooked ∷ []) = is_some cooked
is_cooked _ = false

-- a template without expressions, whose one part gives a text (ECMA-262, 13.2.8)
abbrev pub is_plain_template : Fields → Bool
is_plain_template (many (node TemplateElement l done before empty) then (many empty then done)) = is_cooked l.texts
is_plain_template _ = false

-- whether an expression gives the same each time and asks nothing: `this`, `super`, literals but for regular expressions,
-- templates without expressions, and the names that are read again
abbrev pub is_read_again : (Text → Bool) → Tree → Bool
is_read_again again (node Identifier l fs) = again (first_text l.texts) && has_no_fields fs
is_read_again again (node ThisExpression l fs) = has_no_fields fs
is_read_again again (node Super l fs) = has_no_fields fs
is_read_again again (node NullLiteral l fs) = has_no_fields fs
is_read_again again (node BooleanLiteral l fs) = has_no_fields fs
is_read_again again (node NumericLiteral l fs) = has_no_fields fs
is_read_again again (node BigIntLiteral l fs) = has_no_fields fs
is_read_again again (node StringLiteral l fs) = has_no_fields fs
is_read_again again (node TemplateLiteral l fs) = is_plain_template fs
is_read_again again _ = false

-- the base of the temporary: a name gives its own text, whatever its length
abbrev pub duplicate_base : Tree → Text
duplicate_base (node Identifier l fs) = text_base (first_text l.texts)
duplicate_base t = node_base t

-- the names that it takes, the expression, what is written at its first reading, and what at each further one
pub data IsDuplicated (again in_use : Text → Bool) : List Text → Tree → Tree → Tree → Type 0 where
  read_again : {e : Tree} → is_read_again again e ≡ true → IsDuplicated again in_use [] e e e
  by_temporary : {e : Tree} {x : Text} → is_read_again again e ≡ false → IsFreshName in_use (duplicate_base e) x → IsDuplicated again in_use (x ∷ []) e (assign_node (identifier x) e) (identifier x)
