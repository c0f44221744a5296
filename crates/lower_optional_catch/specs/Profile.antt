-- What the lowering of optional catch bindings states of itself.
use Rattle.std.specs.Prelude.{◌≡◌, ◌&&◌, Bool, false}
use Rattle.es_tree.specs.Constructs.{is_optional_catch}
use Rattle.es_tree.specs.Tree.{Tree, Label, Fields, kind_of}
use Rattle.es_tree.specs.declared.ast_type.AstType.{AstType}
use Rattle.es_tree.specs.declared.ast_type.AstType.TheVariants.{CatchClause as k-CatchClause}
use Rattle.es_tree.specs.declared.options.EnvOptions.{EnvOptions}
use Rattle.es_visit.specs.declared.hook.Hook.{Hook}
use Rattle.es_visit.specs.declared.hook.Hook.TheVariants.{CatchClause}
use Rattle.es_conditions.specs.CoreConditions.{core_conditions, is_free}
use Rattle.es_traverse.specs.Laws.{Profile, is_construct, no_construct, whatever_it_is}
use Rattle.es_row_laws.specs.Laws.{optional_catch_under}

-- each `catch` without a parameter, where it is on
abbrev pub optional_catch_constructs : Bool → Hook → AstType → Label → Fields → Bool
optional_catch_constructs on CatchClause k l fs = on && is_optional_catch k l fs
optional_catch_constructs on _ k l fs = false

-- a `catch` with a parameter
pub record IsWholeCatch (t : Tree) : Type 0 where
  pub kind : kind_of t ≡ k-CatchClause
  pub whole : is_construct is_optional_catch t ≡ false

-- It does nothing before expressions, and counts on chains being lowered there.
abbrev pub optional_catch_profile : EnvOptions → Profile
optional_catch_profile o = record {
  rule = optional_catch_under o;
  conditions = core_conditions o;
  counts = is_free o;
  leaves = is_free o;
  constructs = optional_catch_constructs o.es2019.optional_catch_binding;
  late_constructs = no_construct;
  counts_after = whatever_it_is;
  makes = λ t. ⊥;
  writes = IsWholeCatch;
}
