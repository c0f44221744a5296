use Rattle.std.proofs.Common.{◌∙◌, ap, ap₂, sym, fold, List, Bor, ℕ, arith}
use Rattle.std.proofs.lemmas.List.{take_all}
use Rattle.std.proofs.lemmas.List.Sums.{fold_more}
use Rattle.clap.specs.Simple.{App, app_of, with_rule}
use Rattle.clap.specs.declared.builder.action.ArgAction.{ArgAction}
use Rattle.lower_command.specs.Words.{argument_rule}
use Rattle.lower_command.proofs.command_line.add_arguments.Goals as goal

-- one name more
abbrev more : ArgAction → App → Bor (List ℕ) → App
more action app name = with_rule app (argument_rule action name.now)

pub loop-name-preserved : goal.loop-name-preserved
loop-name-preserved c =
    c.in_ok-command_line.ensures.shape c.new_argument.ensures.local ∙ ap₂ with_rule c.loop-name.invariant c.new_argument.ensures.rule
    ∙ sym (fold_more (more c.args.action) (app_of c.args.command_line) c.args.names.now c.loop-name.name-index _ (omega arith))

pub returns : goal.returns
returns c =
    c.loop-name.invariant
    ∙ ap (fold (more c.args.action) (app_of c.args.command_line)) (take_all c.loop-name.name-index c.args.names.now (omega arith))
