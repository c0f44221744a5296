-- What a program tells of the helpers that it imports.
use Rattle.std.specs.Prelude.{◌≡◌, ℕ, Bool, ◌&&◌, ◌||◌, Option, None, option_map, if◌then◌else◌}
use Rattle.es_tree.specs.Options.{is_external}
use Rattle.es_tree.specs.Tree.{Tree, Label, Fields}
use Rattle.es_tree.specs.Walks.{first_node}
use Rattle.es_tree.specs.declared.ast_type.AstType.{AstType}
use Rattle.es_tree.specs.declared.ids.NodeId.{NodeId}
use Rattle.es_tree.specs.declared.options.EnvOptions.{EnvOptions}
use Rattle.es_helper_calls.specs.Importing.{asks_helper, uses_helper, is_module, needs_helper}
use Rattle.lower_helper_imports.specs.declared.finding.HelperImports.{HelperImports}
use Rattle.lower_helper_imports.specs.declared.finding.Sought.{Sought}

abbrev pub number_of : NodeId → ℕ
number_of id = id.0

abbrev pub sought_test : Sought → AstType → Label → Fields → Bool
sought_test s k l fs = s.copies && needs_helper k l fs || s.calls && uses_helper k l fs

-- the first node that asks for a helper, where helpers are imported
abbrev pub first_asking : EnvOptions → Bool → Tree → Option ℕ
first_asking o made p = if is_external o.helper_loader.mode then None else first_node (asks_helper o made) p

-- of a program whose source makes this use itself
pub record Tells (o : EnvOptions) (made : Bool) (own : Option ℕ) (p : Tree) (u : HelperImports) : Type 0 where
  pub sort : u.is_module ≡ is_module p
  pub asking : option_map number_of u.asking ≡ first_asking o made p
  pub calling : option_map number_of u.calling ≡ own
