-- An export of another module's namespace (ECMA-262, 16.2.3) becomes an import and an export: `export * as n from "m";` becomes
-- `import * as _n from "m"; export { _n as n };`.
use Rattle.std.specs.Prelude.{◌≡◌, Bool, true, ◌∷◌, Option, []}
use Rattle.es_resolution.specs.Declarations.{Bound, declared_among}
use Rattle.es_semantic.specs.RolesOf.{reads}
use Rattle.es_semantic.specs.declared.place.Role.TheVariants.{Nothing}
use Rattle.es_steps.specs.Nodes.{made, placed, identifier, import_node, export_node, specifier_node}
use Rattle.es_steps.specs.Open.{Pending, Additions}
use Rattle.es_steps.specs.Patterns.{IsSilent}
use Rattle.es_steps.specs.Rules.{with_made, next_name}
use Rattle.es_steps.specs.Steps.{Whole, Ledger, ledger, Site, Spot, at_node, at_beside, is_program_list}
use Rattle.es_tree.specs.Fresh.{IsFreshName, node_base}
use Rattle.es_tree.specs.Tree.{Tree, node, Label, done, ◌then◌, one, many, Trees}
use Rattle.es_tree.specs.Words.{Text}
use Rattle.es_tree.specs.declared.ast_type.AstType.TheVariants.{ExportAllDeclaration, ImportNamespaceSpecifier}

abbrev pub namespace_import : Bound → Tree → Trees → Tree
namespace_import x source attributes = import_node (node ImportNamespaceSpecifier (made [] []) (one (identifier x) then done)) source attributes

pub data NamespaceRule : Site → Ledger → Spot → Ledger → Spot → Type 0 where
  exports : {n : Site} {w : Whole} {p : Pending} {y : Option Bound} {a : Additions} {m : Label} {e s : Tree} {attributes : Trees} {x : Text} → is_program_list n.above ≡ true → IsFreshName w.in_use (node_base e) x →
      IsSilent Nothing e → IsSilent reads s → ((v : Bool) → declared_among v reads attributes ≡ []) →
      NamespaceRule n (ledger w p y a) (at_node (node ExportAllDeclaration m (one e then one s then many attributes then done))) (ledger (with_made (next_name w x ∷ []) w) p y a)
      (at_beside (placed m (namespace_import (next_name w x) s attributes) ∷ []) (export_node (specifier_node (identifier (next_name w x)) e ∷ [])) [])
