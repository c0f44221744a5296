-- In a program that uses no helper itself no name stands for one.
use Rattle.std.proofs.Common.{◌≡◌, refl, List, []}
use Rattle.std.specs.Prelude.{Bool, true, false, not, ◌&&◌, Option, Some, None, is_some, codes}
use Rattle.es_tree.specs.Words.{Text}
use Rattle.es_tree.specs.Fresh.{is_among}
use Rattle.es_tree.specs.Names.{first_text}
use Rattle.es_tree.specs.Scopes.{own_text}
use Rattle.es_tree.specs.Walks.{all_nodes, all_in_fields, all_in_field, all_in_trees}
use Rattle.es_tree.specs.Tree.{Tree, node, Label, Fields, done, ◌then◌, one, many, statements, Trees, empty, ◌before◌}
use Rattle.es_tree.specs.declared.ast_type.AstType.{AstType}
use Rattle.es_tree.specs.declared.ast_type.AstType.TheVariants.{VariableDeclaration, VariableDeclarator, ImportDeclaration, ImportDefaultSpecifier, Identifier, StringLiteral, CallExpression}
use Rattle.es_runs.specs.Core.{Silent}
use Rattle.es_statement_runs.specs.Names.{is_word, names_of_all, declared_at_top}
use Rattle.es_statement_runs.specs.Helpers.{helper_in, named_helper, imported_helper, imported_helpers, if_settled, is_settled, required_helper, declarators_helpers, required_helpers, list_of_program, program_list}
use Rattle.es_statement_runs.specs.Helpers.Supply.{no_helpers, by_global, by_import, by_require, spread_by_global}
use Rattle.es_statement_runs.specs.Programs.{no_import_node, no_require_node}
use Rattle.es_statement_runs.specs.Laws.{LawNoHelper}

left_so : (a b : Bool) → (a && b) ≡ true → a ≡ true
left_so true b h = refl
left_so false b h = absurd (cc h)

right_so : (a b : Bool) → (a && b) ≡ true → b ≡ true
right_so true b h = h
right_so false b h = absurd (cc h)

none_so : (o : Option Text) → not (is_some o) ≡ true → o ≡ None
none_so None h = refl
none_so (Some t) h = absurd (cc h)

-- the nodes of a program's list
list_holds : (p : AstType → Label → Fields → Bool) (fs : Fields) → all_in_fields p fs ≡ true → all_in_trees p (list_of_program fs) ≡ true
list_holds p (f then (statements ts then fs)) h = left_so (all_in_trees p ts) (all_in_fields p fs) (right_so (all_in_field p f) (all_in_trees p ts && all_in_fields p fs) h)
list_holds p _ h = refl

program_holds : (p : AstType → Label → Fields → Bool) (t : Tree) → all_nodes p t ≡ true → all_in_trees p (program_list t) ≡ true
program_holds p (node k l fs) h = list_holds p fs (right_so (p k l fs) (all_in_fields p fs) h)

-- IMPORTS

module _ (m : Text) where
  import_none : (t : Tree) → all_nodes (no_import_node m) t ≡ true → imported_helper m t ≡ []
  import_none (node ImportDeclaration l (many (node ImportDefaultSpecifier k (one x then done) before empty) then (one source then fs))) h =
      rw (none_so (helper_in m (own_text source)) (left_so (not (is_some (helper_in m (own_text source)))) _ h)) refl
  import_none _ h = refl

  imports_none : (ts : Trees) → all_in_trees (no_import_node m) ts ≡ true → imported_helpers m ts ≡ []
  imports_none empty h = refl
  imports_none (t before ts) h = rw (import_none t (left_so (all_nodes (no_import_node m) t) (all_in_trees (no_import_node m) ts) h), imports_none ts (right_so (all_nodes (no_import_node m) t) (all_in_trees (no_import_node m) ts) h)) refl

  -- CALLS OF `require`

  settled_none : (a b : Bool) (x : Text) (o : Option Text) → not (a && is_some o) ≡ true → if_settled (a && b) (named_helper x o) ≡ []
  settled_none false b x o h = refl
  settled_none true true x None h = refl
  settled_none true false x None h = refl
  settled_none true b x (Some t) h = absurd (cc h)

  module _ (p : Tree) where
    declarator_none : (t : Tree) → all_nodes (no_require_node m) t ≡ true → required_helper m p t ≡ []
    declarator_none (node VariableDeclarator l (one x then (one (node CallExpression c (one (node Identifier j gs) then (many (node StringLiteral i hs before empty) then done))) then done))) h =
        let call : Tree = node CallExpression c (one (node Identifier j gs) then (many (node StringLiteral i hs before empty) then done)) in
        let calls : (all_nodes (no_require_node m) call && true) ≡ true = right_so (all_nodes (no_require_node m) x) (all_nodes (no_require_node m) call && true) h in
        settled_none (is_word (codes "require") (first_text j.texts)) (is_settled (own_text x) p) (own_text x) (helper_in m (first_text i.texts))
        (left_so (not (is_word (codes "require") (first_text j.texts) && is_some (helper_in m (first_text i.texts)))) _ (left_so (all_nodes (no_require_node m) call) true calls))
    declarator_none _ h = refl

    declarators_none : (ds : Trees) → all_in_trees (no_require_node m) ds ≡ true → declarators_helpers m p ds ≡ []
    declarators_none empty h = refl
    declarators_none (d before ds) h = rw (declarator_none d (left_so (all_nodes (no_require_node m) d) (all_in_trees (no_require_node m) ds) h), declarators_none ds (right_so (all_nodes (no_require_node m) d) (all_in_trees (no_require_node m) ds) h)) refl

    requires_none : (ts : Trees) → all_in_trees (no_require_node m) ts ≡ true → required_helpers m p ts ≡ []
    requires_none empty h = refl
    requires_none (node VariableDeclaration l (many ds then fs) before ts) h =
        rw (declarators_none ds (left_so (all_in_trees (no_require_node m) ds) (all_in_fields (no_require_node m) fs) (left_so (all_in_trees (no_require_node m) ds && all_in_fields (no_require_node m) fs) (all_in_trees (no_require_node m) ts) h)), requires_none ts (right_so (all_in_trees (no_require_node m) ds && all_in_fields (no_require_node m) fs) (all_in_trees (no_require_node m) ts) h)) refl
    requires_none (t before ts) h = requires_none ts (right_so (all_nodes (no_require_node m) t) (all_in_trees (no_require_node m) ts) h)

either_none : (b : Bool) (es : List (Text × Silent)) → es ≡ [] → (Rattle.std.specs.Prelude.if◌then◌else◌ b [] es) ≡ []
either_none true es h = refl
either_none false es h = h

pub law_no_helper_proof : LawNoHelper
law_no_helper_proof no_helpers p h = refl
law_no_helper_proof spread_by_global p h = refl
law_no_helper_proof by_global p h = refl
law_no_helper_proof (by_import m) p h = imports_none m (program_list p) (program_holds (no_import_node m) p h)
law_no_helper_proof (by_require m) p h = either_none (is_among (names_of_all (declared_at_top p)) (codes "require")) (required_helpers m p (program_list p)) (requires_none m p (program_list p) (program_holds (no_require_node m) p h))
