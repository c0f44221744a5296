-- Trees with form and trees without.
use Rattle.std.proofs.Common.{◌≡◌, List, [], ◌∷◌, Bool, true, false, Option, Some, codes, refl}
use Rattle.es_tree.specs.Words.{Text}
use Rattle.es_tree.specs.Tree.{Tree, node, Label, done, ◌then◌, missing, one, many, statements, empty, ◌before◌}
use Rattle.es_tree.specs.HasForm.{has_form}
use Rattle.es_tree.specs.declared.ast_type.AstType.TheVariants.{
  Program as t-Program,
  ExpressionStatement,
  Identifier,
  PrivateIdentifier,
  BinaryExpression,
  MemberExpression,
  ArrayPattern,
  RestElement,
  NullLiteral,
}
use Rattle.es_tree.specs.declared.table.Sort.TheVariants.{Program, Expression, Pattern}

abbrev said : List (Option Text) → List Bool → Label
said texts flags = record { id = 0; start = 0; stop = 0; texts = texts; flags = flags; marks = [] }

abbrev name : Text → Tree
name s = node Identifier (said (Some s ∷ []) []) done

abbrev private_name : Tree
private_name = node PrivateIdentifier (said (Some (codes "a") ∷ []) []) done

abbrev binary : Text → Tree → Tree
binary operator left = node BinaryExpression (said (Some operator ∷ []) []) (one left then (one (name (codes "b")) then done))

abbrev member : Bool → Tree → Tree
member computed property = node MemberExpression (said [] (computed ∷ false ∷ [])) (one (name (codes "a")) then (one property then done))

abbrev statement : Tree
statement = node ExpressionStatement (said [] []) (one (name (codes "a")) then done)

abbrev rest : Tree
rest = node RestElement (said [] []) (one (name (codes "a")) then done)

program : has_form Program (node t-Program (said (Some (codes "module") ∷ []) []) (many empty then (statements (statement before empty) then done))) ≡ true
program = refl

-- the list of statements is no plain list
no_plain_list : has_form Program (node t-Program (said (Some (codes "module") ∷ []) []) (many empty then (many (statement before empty) then done))) ≡ false
no_plain_list = refl

no_empty_name : has_form Expression (name []) ≡ false
no_empty_name = refl

private_in : has_form Expression (binary (codes "in") private_name) ≡ true
private_in = refl

no_private_sum : has_form Expression (binary (codes "+") private_name) ≡ false
no_private_sum = refl

computed_null : has_form Expression (member true (node NullLiteral (said [] []) done)) ≡ true
computed_null = refl

no_null_behind_dot : has_form Expression (member false (node NullLiteral (said [] []) done)) ≡ false
no_null_behind_dot = refl

rest_last : has_form Pattern (node ArrayPattern (said [] []) (missing then (one rest then done))) ≡ true
rest_last = refl

no_rest_before : has_form Pattern (node ArrayPattern (said [] []) (one rest then (missing then done))) ≡ false
no_rest_before = refl
