use Rattle.std.proofs.Common.{◌≡◌, take, fold}
use Rattle.clap.specs.Simple.{app_of, with_rule}
use Rattle.lower_command.specs.Words.{argument_rule}
use Rattle.lower_command.proofs.command_line.add_arguments.Given as goal

abbrev pub invariant-loop-name : goal.invariant-loop-name
invariant-loop-name l = app_of l.command_line ≡ fold (λ app name. with_rule app (argument_rule l.action name.now)) (app_of l.fn.command_line) (take l.name-index l.names)
