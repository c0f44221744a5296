-- What the lowering of exports of a namespace states of itself.
use Rattle.std.specs.Prelude.{◌≡◌, ◌&&◌, Bool, true, false}
use Rattle.es_tree.specs.Constructs.{is_namespace_export}
use Rattle.es_tree.specs.Tree.{Tree, kind_of}
use Rattle.es_tree.specs.declared.ast_type.AstType.{AstType}
use Rattle.es_tree.specs.declared.ast_type.AstType.TheVariants.{ExportNamedDeclaration, ExportSpecifier, Identifier, ImportDeclaration, ImportNamespaceSpecifier}
use Rattle.es_tree.specs.declared.options.EnvOptions.{EnvOptions}
use Rattle.es_conditions.specs.CoreConditions.{core_conditions, is_free}
use Rattle.es_steps.specs.CoreRules.{where_on}
use Rattle.es_steps.specs.NamespaceExports.{NamespaceRule}
use Rattle.es_steps.specs.Rules.{Writing, either_rule}
use Rattle.es_steps.specs.Steps.{Ledger, Site, Spot}
use Rattle.es_traverse.specs.Laws.{Ending, Profile, no_construct, whatever_it_is}

-- the kinds of what it writes: an import with a name, and an export of a name
abbrev pub is_module_node : AstType → Bool
is_module_node ImportDeclaration = true
is_module_node ImportNamespaceSpecifier = true
is_module_node Identifier = true
is_module_node ExportNamedDeclaration = true
is_module_node ExportSpecifier = true
is_module_node _ = false

abbrev pub IsModuleNode : Tree → Type 0
IsModuleNode t = is_module_node (kind_of t) ≡ true

-- the rule that never acts
abbrev pub NoRule : Site → Ledger → Spot → Ledger → Spot → Type 0
NoRule n s x s' y = ⊥

-- While the statements are visited it does nothing. It counts on chains being lowered there.
abbrev pub namespace_profile : EnvOptions → Profile
namespace_profile o = record {
  rule = NoRule;
  conditions = core_conditions o;
  counts = is_free o;
  leaves = is_free o;
  constructs = λ h k l fs. false;
  late_constructs = no_construct;
  counts_after = whatever_it_is;
  makes = λ t. ⊥;
  writes = IsModuleNode;
}

-- After the program it takes each export of a namespace away, where it is on: the import is put beside the export, and written there.
abbrev pub namespace_ending : EnvOptions → Ending
namespace_ending o = record {
  rule = either_rule (where_on o.es2020.export_namespace_from NamespaceRule) Writing;
  constructs = λ k l fs. o.es2020.export_namespace_from && is_namespace_export k l fs;
}
