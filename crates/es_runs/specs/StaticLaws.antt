-- The rules of core programs keep the static rules.
use Rattle.std.specs.Prelude.{◌≡◌, Bool, List, []}
use Rattle.es_tree.specs.Words.{Text}
use Rattle.es_tree.specs.Bare.{bare}
use Rattle.es_tree.specs.Core.{IsCoreProgram}
use Rattle.es_tree.specs.StaticRules.{breaks}
use Rattle.es_tree.specs.Tree.{Tree, node, Fields, done, ◌then◌, Field, missing, one, many, statements, Trees, empty, ◌before◌}
use Rattle.es_runs.specs.Alike.{all_of_it}
use Rattle.es_runs.specs.Open.{nothing_pending, Open, open_node, OpenFields, ends, ◌and◌, OpenField, gap, child, children, list, OpenTrees, nil, ◌next◌, opened, written}
use Rattle.es_runs.specs.OpenRules.{CoreRule}
use Rattle.es_runs.specs.OpenSteps.{Ledger, ledger, Reached, Step, Steps, whole_of}

-- the tree with everything that is pending for its lists written at their tops
abbrev mutual
  pub written_out : Open → Tree
  written_out (open_node k l fs) = node k l (written_out_fields fs)

  pub written_out_fields : OpenFields → Fields
  written_out_fields ends = done
  written_out_fields (f and fs) = written_out_field f then written_out_fields fs

  pub written_out_field : OpenField → Field
  written_out_field gap = missing
  written_out_field (child t) = one (written_out t)
  written_out_field (children ts) = many (written_out_trees ts)
  written_out_field (list p ts) = statements (written p (written_out_trees ts))

  pub written_out_trees : OpenTrees → Trees
  written_out_trees nil = empty
  written_out_trees (t next ts) = written_out t before written_out_trees ts

-- Whatever steps are taken from a core program that keeps the static rules: with everything pending written, the program
-- keeps them.
abbrev pub LawStaticRules : Type 0
LawStaticRules = (no_all : Bool) (p : Tree) (s : Ledger) (o : Open) → IsCoreProgram p → breaks p ≡ [] → Steps (Step (CoreRule no_all) all_of_it) (ledger (whole_of p) nothing_pending) (opened (bare p)) s o → breaks (written_out o) ≡ []

-- What is reached from such a program keeps them.
abbrev pub LawReachedRules : Type 0
LawReachedRules = (no_all : Bool) (p q : Tree) (names : List Text) → IsCoreProgram p → breaks p ≡ [] → Reached (CoreRule no_all) p names q → breaks q ≡ []
