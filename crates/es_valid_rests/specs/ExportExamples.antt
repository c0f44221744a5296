-- Where a declaration with an object rest is exported, a declarator that splits exports its temporary: other modules see a name more, and
-- where the program exports that name already, a rule is broken.
use Rattle.std.specs.Prelude.{◌≡◌, List, [], ◌∷◌, true, Some, codes}
use Rattle.es_tree.specs.Fresh.{IsFreshName, node_base}
use Rattle.es_tree.specs.HasForm.{has_form}
use Rattle.es_tree.specs.StaticRules.{breaks}
use Rattle.es_tree.specs.Tree.{Tree, node, done, ◌then◌, many, statements, empty, trees}
use Rattle.es_tree.specs.declared.ast_type.AstType.TheVariants.{Program}
use Rattle.es_tree.specs.declared.error.Rule.TheVariants.{BadExport}
use Rattle.es_tree.specs.declared.table.Sort.TheVariants.{Program as s-Program}
use Rattle.es_resolution.specs.Declarations.{Bound}
use Rattle.es_steps.specs.Laws.{nothing_beside}
use Rattle.es_steps.specs.Nodes.{declaration_node, declarator_with, export_node, identifier, made, object_node, specifier_node, string_node, word}
use Rattle.es_steps.specs.ObjectRest.{SplitRule}
use Rattle.es_steps.specs.Open.{opened}
use Rattle.es_steps.specs.Rules.{next_name}
use Rattle.es_steps.specs.Steps.{Whole, the_program, Step, Steps}
use Rattle.es_module_names.specs.Examples.{exports_declaration}
use Rattle.es_module_names.specs.Modules.{exported_of}
use Rattle.es_valid_rests.specs.Examples.{rest_pattern}

-- `const c = {}; export const ..; export { a as "_c" };`
abbrev pub module_with : List Tree → Tree
module_with ds =
    node Program (made (Some (codes "module") ∷ []) [])
    (many empty then statements (trees (
    declaration_node (codes "const") (declarator_with (word (codes "c")) (object_node []) ∷ []) ∷
    exports_declaration (declaration_node (codes "const") ds) ∷
    export_node (specifier_node (word (codes "a")) (string_node (codes "_c")) ∷ []) ∷
    [])) then done)

-- `{ a, ...b } = c`
abbrev pub exported_rest : Tree
exported_rest = module_with (declarator_with rest_pattern (word (codes "c")) ∷ [])

abbrev pub temporary : Whole → Bound
temporary w = next_name w (codes "_c")

-- `_c = c, { a, ...b } = _c`
abbrev pub exported_split : Whole → Tree
exported_split w = module_with (declarator_with (identifier (temporary w)) (word (codes "c")) ∷ declarator_with rest_pattern (identifier (temporary w)) ∷ [])

pub record SplitBreaks (w : Whole) : Type 0 where
  pub left : Whole
  pub step : Steps (Step SplitRule the_program) (nothing_beside w) (opened exported_rest) (nothing_beside left) (opened (exported_split w))
  pub formed : has_form s-Program (exported_split w) ≡ true
  pub exports : exported_of (exported_split w) ≡ codes "_c" ∷ exported_of exported_rest
  pub broken : breaks (exported_split w) ≡ (BadExport, 0) ∷ []

-- the program breaks no rule; it splits so wherever the temporary's name isn't in use, as the string of an export isn't
pub record LawExportedRest : Type 0 where
  pub formed : has_form s-Program exported_rest ≡ true
  pub kept : breaks exported_rest ≡ []
  pub splits : (w : Whole) → IsFreshName w.in_use (node_base (word (codes "c"))) (codes "_c") → SplitBreaks w
