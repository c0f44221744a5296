-- What the lowering of arrows does to a program (ECMA-262, 15.3).
use Rattle.es_tree.specs.Tree.{Tree}
use Rattle.es_arrow_steps.specs.ArrowWalks.{ArrowWalkRule}
use Rattle.es_changes.specs.Moments.{Moment, ledger_with}
use Rattle.es_steps.specs.Open.{nothing_pending, opened}
use Rattle.es_steps.specs.Rules.{Writing, either_rule}
use Rattle.es_steps.specs.Steps.{Ledger, Site, Spot, Step, Steps, the_program}

-- its rule: that of a walk over arrows, and writing what is pending
abbrev pub walk_rule : Site → Ledger → Spot → Ledger → Spot → Type 0
walk_rule = either_rule Writing ArrowWalkRule

-- the program by steps of the rule, with nothing pending before and after
abbrev pub ArrowsLowered : Moment → Tree → Moment → Tree → Type 0
ArrowsLowered a t b u = Steps (Step walk_rule the_program) (ledger_with nothing_pending a) (opened t) (ledger_with nothing_pending b) (opened u)
