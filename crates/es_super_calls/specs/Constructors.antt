-- Where the constructors of classes stand that extend others (ECMA-262, 15.7.14).
use Rattle.std.specs.Prelude.{◌&&◌, ◌==◌, Bool, true, false, bytes_eq, codes, if◌then◌else◌, ℕ}
use Rattle.es_tree.specs.Ancestors.{is_class}
use Rattle.es_tree.specs.HasForm.{same_type}
use Rattle.es_tree.specs.Names.{first_text}
use Rattle.es_tree.specs.Tree.{Label, Fields}
use Rattle.es_tree.specs.declared.ast_type.AstType.{AstType}
use Rattle.es_tree.specs.declared.ast_type.AstType.TheVariants.{FunctionExpression, MethodDefinition}
use Rattle.es_semantic.specs.RolesOf.{extends}
use Rattle.es_super_calls.specs.declared.standing.ClassStanding.{ClassStanding}
use Rattle.es_super_calls.specs.declared.standing.ClassStanding.TheVariants.{Body, Constructor, Elsewhere, Member}

-- a class that extends another
abbrev pub is_derived_class : AstType → Label → Fields → Bool
is_derived_class k l fs = is_class k && extends fs

abbrev pub is_member : ClassStanding → Bool
is_member Member = true
is_member _ = false

abbrev pub is_constructor : ClassStanding → Bool
is_constructor Constructor = true
is_constructor _ = false

abbrev pub is_body : ClassStanding → Bool
is_body Body = true
is_body _ = false

-- how what stands in this field of a node stands, where the node stands so
abbrev pub standing_in : ClassStanding → AstType → Label → Fields → ℕ → ClassStanding
standing_in s k l fs i =
    if is_class k && i == 2 && extends fs then Member
    else if is_member s && same_type k MethodDefinition && i == 1 && bytes_eq (first_text l.texts) (codes "constructor") then Constructor
    else if is_constructor s && same_type k FunctionExpression && i == 2 then Body
    else Elsewhere
