-- The warnings of a tree as a walk finds them that holds of the ancestors only whether they make what stands there a name.
use Rattle.std.specs.Prelude.{ℕ, suc, List, [], ◌++◌, Bool}
use Rattle.std.specs.Option.{option_to_list}
use Rattle.es_tree.specs.Tree.{Tree, node, Fields, done, ◌then◌, Field, missing, one, many, statements, Trees, empty, ◌before◌}
use Rattle.es_tree.specs.declared.ast_type.AstType.{AstType}
use Rattle.es_tree.specs.declared.options.ES2020Options.{ES2020Options}
use Rattle.lower_temporaries.specs.declared.warning.Warning.{Warning}
use Rattle.lower_editions.specs.Warnings.{holds_module_name, warning_at}

abbrev mutual
  -- those of a tree that stands as a name or not
  pub walked : ES2020Options → Bool → Tree → List Warning
  walked o named (node k l fs) = option_to_list (warning_at o named k l) ++ walked_fields o k 0 fs

  -- those of the fields of a node of this kind, from the i-th on
  pub walked_fields : ES2020Options → AstType → ℕ → Fields → List Warning
  walked_fields o k i done = []
  walked_fields o k i (f then fs) = walked_field o (holds_module_name k i) f ++ walked_fields o k (suc i) fs

  pub walked_field : ES2020Options → Bool → Field → List Warning
  walked_field o named missing = []
  walked_field o named (one t) = walked o named t
  walked_field o named (many ts) = walked_trees o named ts
  walked_field o named (statements ts) = walked_trees o named ts

  pub walked_trees : ES2020Options → Bool → Trees → List Warning
  walked_trees o named empty = []
  walked_trees o named (t before ts) = walked o named t ++ walked_trees o named ts
