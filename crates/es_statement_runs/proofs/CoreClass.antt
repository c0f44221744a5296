-- Core nodes are none of functions, arrows and classes.
use Rattle.std.proofs.Common.{◌≡◌, refl}
use Rattle.std.specs.Prelude.{Bool, true, false, ◌&&◌}
use Rattle.es_tree.specs.Core.{is_core_node}
use Rattle.es_tree.specs.Walks.{all_nodes, all_in_fields, all_in_field, all_in_trees}
use Rattle.es_tree.specs.Tree.{Tree, node, Label, Fields, done, ◌then◌, Field, missing, one, many, statements, Trees, empty, ◌before◌}
use Rattle.es_tree.specs.declared.ast_type.AstType.{AstType}
use Rattle.es_tree.specs.declared.ast_type.AstType.TheVariants.{StaticBlock, FunctionDeclaration, FunctionExpression, FunctionBody, ArrowFunctionExpression, ClassDeclaration, ClassExpression, MethodDefinition, PropertyDefinition, ReturnStatement, PrivateIdentifier, Super, ObjectProperty, MetaProperty}
use Rattle.es_statement_runs.specs.Programs.{is_statement_node}
use Rattle.es_statement_runs.specs.Laws.{LawCoreClass}

core_node : (k : AstType) (l : Label) (fs : Fields) → is_core_node k l fs ≡ true → is_statement_node k l fs ≡ true
core_node StaticBlock l fs h = absurd (cc h)
core_node FunctionDeclaration l fs h = absurd (cc h)
core_node FunctionExpression l fs h = absurd (cc h)
core_node FunctionBody l fs h = absurd (cc h)
core_node ArrowFunctionExpression l fs h = absurd (cc h)
core_node ClassDeclaration l fs h = absurd (cc h)
core_node ClassExpression l fs h = absurd (cc h)
core_node MethodDefinition l fs h = absurd (cc h)
core_node PropertyDefinition l fs h = absurd (cc h)
core_node ReturnStatement l fs h = absurd (cc h)
core_node PrivateIdentifier l fs h = absurd (cc h)
core_node Super l fs h = absurd (cc h)
core_node ObjectProperty l fs h = absurd (cc h)
core_node MetaProperty l fs h = absurd (cc h)
core_node _ l fs h = refl

both : (a b c d : Bool) → (a ≡ true → c ≡ true) → (b ≡ true → d ≡ true) → (a && b) ≡ true → (c && d) ≡ true
both true b c d f g h = rw (f refl, g h) refl
both false b c d f g h = absurd (cc h)

mutual
  core_class : (t : Tree) → all_nodes is_core_node t ≡ true → all_nodes is_statement_node t ≡ true
  core_class (node k l fs) = both (is_core_node k l fs) (all_in_fields is_core_node fs) (is_statement_node k l fs) (all_in_fields is_statement_node fs) (core_node k l fs) (core_fields fs)

  core_fields : (fs : Fields) → all_in_fields is_core_node fs ≡ true → all_in_fields is_statement_node fs ≡ true
  core_fields done h = refl
  core_fields (f then fs) h = both (all_in_field is_core_node f) (all_in_fields is_core_node fs) (all_in_field is_statement_node f) (all_in_fields is_statement_node fs) (core_field f) (core_fields fs) h

  core_field : (f : Field) → all_in_field is_core_node f ≡ true → all_in_field is_statement_node f ≡ true
  core_field missing h = refl
  core_field (one t) h = core_class t h
  core_field (many ts) h = core_trees ts h
  core_field (statements ts) h = core_trees ts h

  core_trees : (ts : Trees) → all_in_trees is_core_node ts ≡ true → all_in_trees is_statement_node ts ≡ true
  core_trees empty h = refl
  core_trees (t before ts) h = both (all_nodes is_core_node t) (all_in_trees is_core_node ts) (all_nodes is_statement_node t) (all_in_trees is_statement_node ts) (core_class t) (core_trees ts) h

pub law_core_class_proof : LawCoreClass
law_core_class_proof = core_class
