-- What no node of a core program is stands in none: no pattern with a rest, no spread in an object literal, no `using`, and no class. Nor does a class
-- stand in a program of statements.
use Rattle.std.proofs.Common.{◌≡◌, refl}
use Rattle.std.proofs.lemmas.Bool.{and_parts, not-true}
use Rattle.std.specs.Prelude.{Bool, true, false, bytes_eq, codes}
use Rattle.es_tree.specs.Constructs.{is_object_rest, is_object_spread, is_using}
use Rattle.es_tree.specs.Core.{is_core_node}
use Rattle.es_tree.specs.Names.{first_text}
use Rattle.es_tree.specs.Tree.{Tree, node, Label, Fields, done, ◌then◌, Field, missing, one, many, statements, Trees, empty, ◌before◌}
use Rattle.es_tree.specs.Walks.{all_in_field, all_in_fields, all_in_trees, all_nodes, any_in_field, any_in_fields, any_in_trees, any_node}
use Rattle.es_tree.specs.declared.ast_type.AstType.{AstType}
use Rattle.es_tree.specs.declared.ast_type.AstType.TheVariants.{ClassDeclaration, ClassExpression, ObjectExpression, ObjectPattern, ObjectTarget, VariableDeclaration}
use Rattle.es_runs.proofs.Named.{or_both}
use Rattle.es_statement_runs.specs.Programs.{is_statement_node, is_without_functions}
use Rattle.es_super_calls.specs.Constructors.{is_derived_class}

module _ (each test : AstType → Label → Fields → Bool) (own : (k : AstType) (l : Label) (fs : Fields) → each k l fs ≡ true → test k l fs ≡ false) where
  mutual
    none-in : (t : Tree) → all_nodes each t ≡ true → any_node test t ≡ false
    none-in (node k l fs) h = let p = and_parts (each k l fs) (all_in_fields each fs) h in or_both (test k l fs) (any_in_fields test fs) (own k l fs p.0) (none-in-fields fs p.1)

    none-in-fields : (fs : Fields) → all_in_fields each fs ≡ true → any_in_fields test fs ≡ false
    none-in-fields done h = refl
    none-in-fields (f then fs) h = let p = and_parts (all_in_field each f) (all_in_fields each fs) h in or_both (any_in_field test f) (any_in_fields test fs) (none-in-field f p.0) (none-in-fields fs p.1)

    none-in-field : (f : Field) → all_in_field each f ≡ true → any_in_field test f ≡ false
    none-in-field missing h = refl
    none-in-field (one t) h = none-in t h
    none-in-field (many ts) h = none-among ts h
    none-in-field (statements ts) h = none-among ts h

    none-among : (ts : Trees) → all_in_trees each ts ≡ true → any_in_trees test ts ≡ false
    none-among empty h = refl
    none-among (t before ts) h = let p = and_parts (all_nodes each t) (all_in_trees each ts) h in or_both (any_node test t) (any_in_trees test ts) (none-in t p.0) (none-among ts p.1)

own-rest : (k : AstType) (l : Label) (fs : Fields) → is_core_node k l fs ≡ true → is_object_rest k l fs ≡ false
own-rest ObjectPattern l fs h = absurd (cc h)
own-rest ObjectTarget l fs h = absurd (cc h)
own-rest k l fs h = refl

own-spread : (k : AstType) (l : Label) (fs : Fields) → is_core_node k l fs ≡ true → is_object_spread k l fs ≡ false
own-spread ObjectExpression l fs h = absurd (cc h)
own-spread k l fs h = refl

own-using : (k : AstType) (l : Label) (fs : Fields) → is_core_node k l fs ≡ true → is_using k l fs ≡ false
own-using VariableDeclaration l fs h = not-true (bytes_eq (first_text l.texts) (codes "using")) h
own-using k l fs h = refl

pub no-rest : (t : Tree) → all_nodes is_core_node t ≡ true → any_node is_object_rest t ≡ false
no-rest = none-in is_core_node is_object_rest own-rest

pub no-spread : (t : Tree) → all_nodes is_core_node t ≡ true → any_node is_object_spread t ≡ false
no-spread = none-in is_core_node is_object_spread own-spread

pub no-using : (t : Tree) → all_nodes is_core_node t ≡ true → any_node is_using t ≡ false
no-using = none-in is_core_node is_using own-using

own-class : (k : AstType) (l : Label) (fs : Fields) → is_core_node k l fs ≡ true → is_derived_class k l fs ≡ false
own-class ClassDeclaration l fs h = absurd (cc h)
own-class ClassExpression l fs h = absurd (cc h)
own-class k l fs h = refl

pub no-class : (t : Tree) → all_nodes is_core_node t ≡ true → any_node is_derived_class t ≡ false
no-class = none-in is_core_node is_derived_class own-class

statement-class : (k : AstType) (l : Label) (fs : Fields) → is_statement_node k l fs ≡ true → is_derived_class k l fs ≡ false
statement-class ClassDeclaration l fs h = absurd (cc h)
statement-class ClassExpression l fs h = absurd (cc h)
statement-class k l fs h = refl

pub no-class-among-statements : (t : Tree) → is_without_functions t ≡ true → any_node is_derived_class t ≡ false
no-class-among-statements = none-in is_statement_node is_derived_class statement-class
