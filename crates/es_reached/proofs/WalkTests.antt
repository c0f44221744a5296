-- What the tests of constructs ask of a node: nothing that a name in the place of a `this`, or a function in that of an arrow, changes.
use Rattle.std.proofs.Common.{◌≡◌, ℕ, refl, sym, ◌∙◌}
use Rattle.std.specs.Prelude.{Bool, true, false, ◌&&◌, ◌||◌, bytes_eq, codes, is_some, not}
use Rattle.es_tree.specs.Constructs.{field_at, has_member, is_big_int, is_chain, is_child, is_enabled_statement, is_exponentiation, is_logical_assignment, is_namespace_export, is_nullish_coalescing, is_object_spread, is_optional_catch, is_private_member, is_private_name, is_private_target, is_rest, is_spread, is_using, stands}
use Rattle.es_tree.specs.HasForm.{same_type}
use Rattle.es_tree.specs.Names.{first_text}
use Rattle.es_tree.specs.Parens.{without_parens}
use Rattle.es_tree.specs.RestTargets.{is_rest_assignment, is_rest_target}
use Rattle.es_tree.specs.Tree.{Tree, node, Label, Fields, done, ◌then◌, Field, missing, one, many, statements, kind_of, fields_of}
use Rattle.es_tree.specs.declared.ast_type.AstType.{AstType}
use Rattle.es_tree.specs.declared.ast_type.AstType.TheVariants.{ArrowFunctionExpression, AssignmentExpression, BinaryExpression, CatchClause, ChainExpression, ExportAllDeclaration, FunctionExpression, Identifier, LogicalExpression, MemberExpression, ObjectExpression, ObjectTarget, ParenthesizedExpression, ThisExpression, VariableDeclaration}
use Rattle.es_tree.specs.declared.options.EnvOptions.{EnvOptions}
use Rattle.es_reached.specs.Walks.{is_other_construct, is_other_expression}
use Rattle.es_reached.proofs.FreeTrees.{PassesNoMade}

-- KINDS

-- a test of kinds that doesn't tell these apart
pub record IsBlind (q : AstType → Bool) : Type 0 where
  pub name : q ThisExpression ≡ q Identifier
  pub function : q ArrowFunctionExpression ≡ q FunctionExpression

blind-big : IsBlind is_big_int
blind-big = record { name = refl; function = refl }

blind-private : IsBlind is_private_name
blind-private = record { name = refl; function = refl }

blind-spread : IsBlind is_spread
blind-spread = record { name = refl; function = refl }

blind-rest : IsBlind is_rest
blind-rest = record { name = refl; function = refl }

-- ALIKE

-- whether the tree is a private member, maybe in parentheses
abbrev is_private_inside : Tree → Bool
is_private_inside t = is_private_member (kind_of (without_parens t)) (fields_of (without_parens t))

-- of two trees the tests say the same, where they stand in a field
pub record Alike (t u : Tree) : Type 0 where
  pub kind : (q : AstType → Bool) → IsBlind q → q (kind_of t) ≡ q (kind_of u)
  pub member : is_private_inside t ≡ is_private_inside u
  pub rest : is_rest_target (one t) ≡ is_rest_target (one u)

-- and so of two fields
pub record AlikeBy (f g : Field) : Type 0 where
  pub child : (q : AstType → Bool) → IsBlind q → is_child q f ≡ is_child q g
  pub target : is_private_target f ≡ is_private_target g
  pub rest : is_rest_target f ≡ is_rest_target g
  pub members : (q : AstType → Bool) → IsBlind q → has_member q f ≡ has_member q g
  pub there : stands f ≡ stands g

abbrev pub AlikeIn : Fields → Fields → Type 0
AlikeIn fs gs = (n : ℕ) → AlikeBy (field_at n fs) (field_at n gs)

pub by-same : (f : Field) → AlikeBy f f
by-same f = record { child = λ q b. refl; target = refl; rest = refl; members = λ q b. refl; there = refl }

pub by-one : {t u : Tree} → Alike t u → AlikeBy (one t) (one u)
by-one h = record { child = h.kind; target = h.member; rest = h.rest; members = λ q b. refl; there = refl }

-- a node is a private member by its fields
abbrev is_member_by : AstType → Fields → Bool
is_member_by ParenthesizedExpression fs = is_private_target (field_at 0 fs)
is_member_by MemberExpression fs = is_child is_private_name (field_at 1 fs)
is_member_by _ fs = false

member-by : (k : AstType) (l : Label) (fs : Fields) → is_private_inside (node k l fs) ≡ is_member_by k fs
member-by ParenthesizedExpression l done = refl
member-by ParenthesizedExpression l (missing then fs) = refl
member-by ParenthesizedExpression l (one t then fs) = refl
member-by ParenthesizedExpression l (many ts then fs) = refl
member-by ParenthesizedExpression l (statements ts then fs) = refl
member-by MemberExpression l fs = refl
member-by _ l fs = refl

by-alike : (k : AstType) (fs gs : Fields) → AlikeIn fs gs → is_member_by k fs ≡ is_member_by k gs
by-alike ParenthesizedExpression fs gs h = (h 0).target
by-alike MemberExpression fs gs h = (h 1).child is_private_name blind-private
by-alike _ fs gs h = refl

pub alike-node : (k : AstType) (l : Label) (fs gs : Fields) → AlikeIn fs gs → Alike (node k l fs) (node k l gs)
alike-node k l fs gs h = record { kind = λ q b. refl; member = member-by k l fs ∙ by-alike k fs gs h ∙ sym (member-by k l gs); rest = λ i. same_type k ObjectTarget && (h 0).members is_rest blind-rest i }

-- TESTS that ask for no more of fields, and that no made node passes

pub record IsSteady (T : AstType → Label → Fields → Bool) : Type 0 where
  pub made : PassesNoMade T
  pub same : (k : AstType) (l : Label) (fs gs : Fields) → AlikeIn fs gs → T k l fs ≡ T k l gs

where-steady : (b : Bool) (T : AstType → Label → Fields → Bool) → IsSteady T → IsSteady (λ k l fs. b && T k l fs)
where-steady true T h = h
where-steady false T h = record { made = λ k l fs m. refl; same = λ k l fs gs a. refl }

either-steady : (T U : AstType → Label → Fields → Bool) → IsSteady T → IsSteady U → IsSteady (λ k l fs. T k l fs || U k l fs)
either-steady T U h g = record {
  made = λ k l fs m. (λ i. h.made k l fs m i || g.made k l fs m i);
  same = λ k l fs gs a. (λ i. h.same k l fs gs a i || g.same k l fs gs a i);
}

powers-steady : IsSteady is_exponentiation
powers-steady = record { made = made; same = same }
  where
    made : PassesNoMade is_exponentiation
    made BinaryExpression l fs h = absurd (cc h)
    made AssignmentExpression l fs h = absurd (cc h)
    made _ l fs h = refl

    same : (k : AstType) (l : Label) (fs gs : Fields) → AlikeIn fs gs → is_exponentiation k l fs ≡ is_exponentiation k l gs
    same BinaryExpression l fs gs a = λ i. bytes_eq (first_text l.texts) (codes "**") && not ((a 0).child is_big_int blind-big i) && not ((a 1).child is_big_int blind-big i)
    same AssignmentExpression l fs gs a = λ i. bytes_eq (first_text l.texts) (codes "**=") && not ((a 1).child is_big_int blind-big i)
    same _ l fs gs a = refl

coalescing-steady : IsSteady is_nullish_coalescing
coalescing-steady = record { made = made; same = same }
  where
    made : PassesNoMade is_nullish_coalescing
    made LogicalExpression l fs h = absurd (cc h)
    made _ l fs h = refl

    same : (k : AstType) (l : Label) (fs gs : Fields) → AlikeIn fs gs → is_nullish_coalescing k l fs ≡ is_nullish_coalescing k l gs
    same LogicalExpression l fs gs a = refl
    same _ l fs gs a = refl

chains-steady : IsSteady is_chain
chains-steady = record { made = made; same = same }
  where
    made : PassesNoMade is_chain
    made ChainExpression l fs h = absurd (cc h)
    made _ l fs h = refl

    same : (k : AstType) (l : Label) (fs gs : Fields) → AlikeIn fs gs → is_chain k l fs ≡ is_chain k l gs
    same ChainExpression l fs gs a = refl
    same _ l fs gs a = refl

assignments-steady : IsSteady is_logical_assignment
assignments-steady = record { made = made; same = same }
  where
    made : PassesNoMade is_logical_assignment
    made AssignmentExpression l fs h = absurd (cc h)
    made _ l fs h = refl

    same : (k : AstType) (l : Label) (fs gs : Fields) → AlikeIn fs gs → is_logical_assignment k l fs ≡ is_logical_assignment k l gs
    same AssignmentExpression l fs gs a = λ i. (bytes_eq (first_text l.texts) (codes "||=") || bytes_eq (first_text l.texts) (codes "&&=") || bytes_eq (first_text l.texts) (codes "??=")) && not ((a 0).target i)
    same _ l fs gs a = refl

spreads-steady : IsSteady is_object_spread
spreads-steady = record { made = made; same = same }
  where
    made : PassesNoMade is_object_spread
    made ObjectExpression l fs h = absurd (cc h)
    made _ l fs h = refl

    same : (k : AstType) (l : Label) (fs gs : Fields) → AlikeIn fs gs → is_object_spread k l fs ≡ is_object_spread k l gs
    same ObjectExpression l fs gs a = (a 0).members is_spread blind-spread
    same _ l fs gs a = refl

rest-assignments-steady : IsSteady is_rest_assignment
rest-assignments-steady = record { made = made; same = same }
  where
    made : PassesNoMade is_rest_assignment
    made AssignmentExpression l fs h = absurd (cc h)
    made _ l fs h = refl

    same : (k : AstType) (l : Label) (fs gs : Fields) → AlikeIn fs gs → is_rest_assignment k l fs ≡ is_rest_assignment k l gs
    same AssignmentExpression l fs gs a = λ i. bytes_eq (first_text l.texts) (codes "=") && (a 0).rest i
    same _ l fs gs a = refl

catches-steady : IsSteady is_optional_catch
catches-steady = record { made = made; same = same }
  where
    made : PassesNoMade is_optional_catch
    made CatchClause l fs h = absurd (cc h)
    made _ l fs h = refl

    same : (k : AstType) (l : Label) (fs gs : Fields) → AlikeIn fs gs → is_optional_catch k l fs ≡ is_optional_catch k l gs
    same CatchClause l fs gs a = λ i. not ((a 0).there i)
    same _ l fs gs a = refl

exports-steady : IsSteady is_namespace_export
exports-steady = record { made = made; same = same }
  where
    made : PassesNoMade is_namespace_export
    made ExportAllDeclaration l fs h = absurd (cc h)
    made _ l fs h = refl

    same : (k : AstType) (l : Label) (fs gs : Fields) → AlikeIn fs gs → is_namespace_export k l fs ≡ is_namespace_export k l gs
    same ExportAllDeclaration l fs gs a = (a 0).there
    same _ l fs gs a = refl

using-steady : IsSteady is_using
using-steady = record { made = made; same = same }
  where
    not-so : (b : Bool) → not b ≡ true → b ≡ false
    not-so true h = absurd (cc h)
    not-so false h = refl

    made : PassesNoMade is_using
    made VariableDeclaration l fs h = not-so (bytes_eq (first_text l.texts) (codes "using")) h
    made _ l fs h = refl

    same : (k : AstType) (l : Label) (fs gs : Fields) → AlikeIn fs gs → is_using k l fs ≡ is_using k l gs
    same VariableDeclaration l fs gs a = refl
    same _ l fs gs a = refl

-- ALL OF THEM

expressions-steady : (o : EnvOptions) → IsSteady (is_other_expression o)
expressions-steady o =
    either-steady _ _
    (either-steady _ _
    (either-steady _ _
    (either-steady _ _
    (either-steady _ _ (where-steady o.es2016.exponentiation_operator is_exponentiation powers-steady) (where-steady o.es2020.nullish_coalescing_operator is_nullish_coalescing coalescing-steady))
    (where-steady o.es2020.optional_chaining is_chain chains-steady))
    (where-steady o.es2021.logical_assignment_operators is_logical_assignment assignments-steady))
    (where-steady (is_some o.es2018.object_rest_spread) is_object_spread spreads-steady))
    (where-steady (is_some o.es2018.object_rest_spread) is_rest_assignment rest-assignments-steady)

statements-steady : (o : EnvOptions) → IsSteady (is_enabled_statement o)
statements-steady o =
    either-steady _ _
    (either-steady _ _ (where-steady o.es2019.optional_catch_binding is_optional_catch catches-steady) (where-steady o.es2020.export_namespace_from is_namespace_export exports-steady))
    (where-steady o.es2026.explicit_resource_management is_using using-steady)

pub others-steady : (o : EnvOptions) → IsSteady (is_other_construct o)
others-steady o = either-steady (is_other_expression o) (is_enabled_statement o) (expressions-steady o) (statements-steady o)
