-- What parts of a program become, as the code has them: each of what stands in a node's fields.
use Rattle.std.specs.Prelude.{◌&&◌, [], ◌∷◌, Bool, false, Option, Some, None, bytes_eq, if◌then◌else◌, ℕ, zero, suc}
use Rattle.es_tree.specs.Names.{first_text}
use Rattle.es_tree.specs.Tree.{Tree, node, Fields, done, ◌then◌, Field, missing, one, many, Trees, empty, ◌before◌, label_of}
use Rattle.es_tree.specs.Words.{Text}
use Rattle.es_tree.specs.declared.ast_type.AstType.TheVariants.{Identifier, VariableDeclarator}
use Rattle.es_steps.specs.Nodes.{assign_node, placed, sequence_node, this_expression}
use Rattle.es_set_this.specs.ConstructorThis.{after_super_in, is_made_name, is_this, names_among, set_here, settled, this_name}
use Rattle.es_super_calls.specs.declared.standing.ClassStanding.{ClassStanding}
use Rattle.es_super_calls.specs.declared.standing.ClassStanding.TheVariants.{Elsewhere}
use Rattle.lower_constructor_this.specs.declared.places.Standings.{Standings}

-- how what stands in this field stands
abbrev pub standing_at : Standings → ℕ → ClassStanding
standing_at s zero = Elsewhere
standing_at s (suc zero) = s.at_1
standing_at s (suc (suc zero)) = s.at_2
standing_at s (suc (suc (suc i))) = Elsewhere

-- a node that stands so, the parts of which were walked
abbrev pub set_at : (Text → Bool) → ClassStanding → Tree → Tree
set_at made s (node k l fs) = node k l (set_here made s k fs)

-- THE NAME, of `x = this`
abbrev pub text_of : Tree → Option Text
text_of (node Identifier l fs) = Some (first_text l.texts)
text_of _ = None

abbrev pub name_for : (Text → Bool) → Tree → Tree → Option Text
name_for made x e = if is_made_name made x && is_this e then text_of x else None

abbrev pub name_by : (Text → Bool) → Field → Field → Option Text
name_by made (one x) (one e) = name_for made x e
name_by made _ _ = None

abbrev pub in_parts : (Text → Bool) → Fields → Option Text
in_parts made (f then (g then done)) = name_by made f g
in_parts made _ = None

abbrev pub in_declarator : (Text → Bool) → Tree → Option Text
in_declarator made (node VariableDeclarator l fs) = in_parts made fs
in_declarator made _ = None

abbrev pub in_declarators : (Text → Bool) → Trees → Option Text
in_declarators made (t before empty) = in_declarator made t
in_declarators made _ = None

abbrev pub in_declarations : (Text → Bool) → Fields → Option Text
in_declarations made (many ts then done) = in_declarators made ts
in_declarations made _ = None

-- that of the first of these statements, where it stands nowhere else
abbrev pub unless_named : Option Text → Trees → Option Text
unless_named None ts = None
unless_named (Some y) ts = if names_among y ts then None else Some y

abbrev pub name_to_set : (Text → Bool) → Trees → Option Text
name_to_set made empty = None
name_to_set made (d before ts) = unless_named (this_name made d) ts

-- WITHOUT THE VALUE of the first declarator: `var x;`
abbrev pub parts_without : Fields → Fields
parts_without (f then (g then fs)) = f then (missing then fs)
parts_without fs = fs

abbrev pub declarator_without : Tree → Tree
declarator_without (node k l fs) = node k l (parts_without fs)

abbrev pub declarators_without : Trees → Trees
declarators_without empty = empty
declarators_without (t before ts) = declarator_without t before ts

abbrev pub declarations_without : Fields → Fields
declarations_without (many ts then fs) = many (declarators_without ts) then fs
declarations_without fs = fs

abbrev pub declaration_without : Tree → Tree
declaration_without (node k l fs) = node k l (declarations_without fs)

-- IN THE PLACE OF A CALL: `(super(a), x = this)`
abbrev pub sequence_of : Tree → Tree → Tree
sequence_of x t = placed (label_of t) (sequence_node (t ∷ assign_node x this_expression ∷ []))

-- a node of which the fields are gone through, and a field with a call
abbrev pub parts_passed : Tree → Bool → Tree → Tree
parts_passed x lists (node k l fs) = node k l (after_super_in x lists fs)

abbrev pub arguments_by : Tree → Field → Field
arguments_by x (one t) = one (parts_passed x false t)
arguments_by x f = f

-- of a node whose fields were gone through
abbrev pub set_in_place : Tree → Tree → Tree
set_in_place x (node k l fs) = settled x k l fs

-- whether it is an identifier of this name
abbrev pub is_called : Text → Tree → Bool
is_called y (node Identifier l fs) = bytes_eq (first_text l.texts) y
is_called y _ = false
