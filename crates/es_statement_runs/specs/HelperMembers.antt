-- Members of the object of all helpers, told by what stands before the dot: the word `babelHelpers` as a key says nothing.
use Rattle.std.specs.Prelude.{Bool, true, false, not, bytes_eq, codes}
use Rattle.es_tree.specs.Names.{first_text}
use Rattle.es_tree.specs.Tree.{Tree, node, Label, Fields, ◌then◌, one}
use Rattle.es_tree.specs.declared.ast_type.AstType.{AstType}
use Rattle.es_tree.specs.declared.ast_type.AstType.TheVariants.{ChainExpression, Identifier, MemberExpression, ParenthesizedExpression, VariableDeclarator}

-- the object of all helpers by its name: alone, in parentheses, as a whole chain, or as what a declarator declares
abbrev mutual
  pub is_helpers_object : Tree → Bool
  is_helpers_object (node Identifier l fs) = bytes_eq (first_text l.texts) (codes "babelHelpers")
  is_helpers_object (node ParenthesizedExpression l fs) = first_is_helpers fs
  is_helpers_object (node ChainExpression l fs) = first_is_helpers fs
  is_helpers_object (node VariableDeclarator l fs) = first_is_helpers fs
  is_helpers_object t = false

  pub first_is_helpers : Fields → Bool
  first_is_helpers (one t then fs) = is_helpers_object t
  first_is_helpers fs = false

-- no member is one of that object
abbrev pub no_helper_member : AstType → Label → Fields → Bool
no_helper_member MemberExpression l fs = not (first_is_helpers fs)
no_helper_member k l fs = true
