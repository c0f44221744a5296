-- The exponentiations that are lowered (ECMA-262, 13.6 and 13.15), the parts that their tests ask for one by one, and what takes their place.
use Rattle.std.specs.Prelude.{◌≡◌, ◌&&◌, ◌||◌, not, Bool, true, false, List, [], ◌∷◌, Some, bytes_eq, codes}
use Rattle.es_tree.specs.Constructs.{field_at, is_big_int, is_private_name}
use Rattle.es_tree.specs.Names.{first_text}
use Rattle.es_tree.specs.Parens.{without_parens}
use Rattle.es_tree.specs.RestTargets.{is_rest_target}
use Rattle.es_tree.specs.Tree.{Tree, node, Label, Fields, kind_of}
use Rattle.es_tree.specs.declared.ast_type.AstType.{AstType}
use Rattle.es_tree.specs.declared.ast_type.AstType.TheVariants.{AssignmentExpression, BinaryExpression, CallExpression, Identifier, MemberExpression, PrivateIdentifier, SequenceExpression}
use Rattle.es_runs.specs.Duplication.{has_no_fields}
use Rattle.es_runs.specs.Exponentiation.{is_literal_key}
use Rattle.lower_temporaries.specs.Shapes.{on_two}

-- SHAPES, which each has that has form

-- the key of a member without an optional mark: any expression where it is computed, and else a name or a private name
abbrev pub has_exponentiation_key : List Bool → Tree → Bool
has_exponentiation_key (true ∷ false ∷ []) k = true
has_exponentiation_key (false ∷ false ∷ []) (node Identifier l fs) = has_no_fields fs
has_exponentiation_key (false ∷ false ∷ []) (node PrivateIdentifier l fs) = has_no_fields fs
has_exponentiation_key _ k = false

-- an object and such a key
abbrev pub has_exponentiation_member : List Bool → Fields → Bool
has_exponentiation_member flags fs = on_two (λ o k. has_exponentiation_key flags k) fs

-- a name, or such a member
abbrev pub is_exponentiation_target : Tree → Bool
is_exponentiation_target (node Identifier l fs) = has_no_fields fs
is_exponentiation_target (node MemberExpression l fs) = has_exponentiation_member l.flags fs
is_exponentiation_target _ = false

-- two operands, none of them a BigInt literal
abbrev pub has_operands : Fields → Bool
has_operands fs = on_two (λ a b. not (is_big_int (kind_of a)) && not (is_big_int (kind_of b))) fs

-- such a target, maybe in parentheses, and a right side that is no BigInt literal
abbrev pub has_sides : Fields → Bool
has_sides fs = on_two (λ t r. not (is_big_int (kind_of r)) && is_exponentiation_target (without_parens t)) fs

abbrev pub is_lowerable_operation : Label → Fields → Bool
is_lowerable_operation l fs = bytes_eq (first_text l.texts) (codes "**") && has_operands fs

abbrev pub is_lowerable_assignment : Label → Fields → Bool
is_lowerable_assignment l fs = bytes_eq (first_text l.texts) (codes "**=") && has_sides fs

abbrev pub is_lowerable_exponentiation : AstType → Label → Fields → Bool
is_lowerable_exponentiation BinaryExpression l fs = is_lowerable_operation l fs
is_lowerable_exponentiation AssignmentExpression l fs = is_lowerable_assignment l fs
is_lowerable_exponentiation _ l fs = false

-- KEYS

-- whether a key is evaluated: one between brackets that is no literal
abbrev pub is_evaluated_key : Bool → Tree → Bool
is_evaluated_key computed k = computed && not (is_literal_key k)

-- whether a key is written between brackets afterwards: each but a private name
abbrev pub is_expression_key : Bool → Tree → Bool
is_expression_key computed k = computed || not (is_private_name (kind_of k))

-- WHAT IS MADE

-- what takes the place of an exponentiation: a call, a sequence, or an assignment by `=`, but to no pattern with a rest
abbrev pub IsCallOrAssignment : Tree → Type 0
IsCallOrAssignment (node CallExpression l fs) = Unit {0}
IsCallOrAssignment (node SequenceExpression l fs) = Unit {0}
IsCallOrAssignment (node AssignmentExpression l fs) = (l.texts ≡ Some (codes "=") ∷ []) × (is_rest_target (field_at 0 fs) ≡ false)
IsCallOrAssignment _ = ⊥
