-- What a run answers.
use Rattle.std.specs.Prelude.{◌≡◌, [], None, map, string_bytes}
use Rattle.serde_json.specs.Data.{Data}
use Rattle.serde_json.specs.View.{view}
use Rattle.es_tree.specs.StaticRules.{breaks}
use Rattle.es_tree.specs.Tree.{Tree}
use Rattle.es_tree.specs.declared.options.EnvOptions.{EnvOptions}
use Rattle.es_json.specs.Canonical.{canonical}
use Rattle.lower_editions.specs.Warnings.{warnings_of}
use Rattle.lower_driver.specs.Lowers.{Lowers}
use Rattle.lower_driver.specs.Sources.{IsSource}
use Rattle.lower_driver.specs.UnsupportedPrograms.{Finds}
use Rattle.lower_driver.specs.declared.driver.Lowered.{Lowered}
use Rattle.lower_driver.specs.declared.driver.LoweredTree.{LoweredTree}

-- what a program becomes: the program that is written, and the warnings of the source that the options ask for
pub record IsLoweredTree (o : EnvOptions) (source : Tree) (t : LoweredTree) : Type 0 where
  pub lowers : Lowers o source t.program (map string_bytes t.temporaries.items)
  pub warnings : t.warnings.items ≡ warnings_of o.es2020 source
  -- no shape stands in the source that the lowerings don't take
  pub taken : Finds o source None

-- A run's answer for this value: what the program becomes of which it is the form, and the canonical form of that.
pub record IsLoweredValue (o : EnvOptions) (v : Data) (l : Lowered) : Type 0 where
  pub source : Tree
  pub is_source : IsSource v source
  pub kept : breaks source ≡ []
  pub lowered : IsLoweredTree o source l.tree
  pub value : view l.value ≡ canonical l.tree.program
