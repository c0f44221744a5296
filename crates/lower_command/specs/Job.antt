-- What the job does: from the bytes of an input, or from a made script, to the texts that go out.
use Rattle.std.specs.Prelude.{◌≡◌, ◌∷◌, ◌++◌, [], None, ℕ, List, length}
use Rattle.serde_json.specs.Written.{compact_text}
use Rattle.es_tree.specs.Options.{first_fault}
use Rattle.es_tree.specs.StaticRules.{breaks}
use Rattle.es_tree.specs.Tree.{Tree, tree_size}
use Rattle.es_tree.specs.Words.{Text}
use Rattle.es_tree.specs.declared.options.EnvOptions.{EnvOptions}
use Rattle.es_json.specs.Canonical.{canonical}
use Rattle.lower_driver.specs.Lowers.{Lowers}
use Rattle.lower_driver.specs.Sources.{Reads}
use Rattle.lower_driver.specs.UnsupportedPrograms.{Finds}
use Rattle.lower_editions.specs.Warnings.{warnings_of}
use Rattle.lower_command.specs.Answer.{generated_line, warning_lines}
use Rattle.lower_command.specs.Generated.{generated}

-- The options ask for nothing that isn't done, and the bytes read as a program that keeps the static rules, with no shape that the lowerings
-- of these options don't take.
pub record IsTakenSource (o : EnvOptions) (bytes : List ℕ) : Type 0 where
  pub carried : first_fault o ≡ None
  pub program : Tree
  pub reads : Reads bytes program
  pub kept : breaks program ≡ []
  pub taken : Finds o program None

-- For an input of these bytes this text goes out: that of the canonical form of the written program, and a newline; and beside
-- it these lines of warnings.
pub record IsLoweredText (o : EnvOptions) (bytes text warnings : List ℕ) : Type 0 where
  pub source : Tree
  pub written : Tree
  pub reads : Reads bytes source
  -- the written program is what the source becomes, with these fresh names
  pub names : List Text
  pub lowers : Lowers o source written names
  pub text_is : text ≡ compact_text (canonical written) ++ 10 ∷ []
  -- a line for each warning of the source that the options ask for, in node order
  pub warned : warnings ≡ warning_lines (warnings_of o.es2020 source)

-- For the made script of so many statements this line of counts goes out.
pub record IsGeneratedLine (o : EnvOptions) (n : ℕ) (line : List ℕ) : Type 0 where
  pub written : Tree
  -- the written program is what the script becomes, with these fresh names
  pub names : List Text
  pub lowers : Lowers o (generated n) written names
  pub line_is : line ≡ generated_line n (tree_size (generated n)) (tree_size written) (length names) (length (warnings_of o.es2020 (generated n)))
