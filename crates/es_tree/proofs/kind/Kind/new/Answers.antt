-- What was read is what was given, by the two `requires`.
use Rattle.std.proofs.Common.{◌∙◌}
use Rattle.es_tree.specs.Texts.{plain_texts}
use Rattle.es_tree.proofs.Fitting.{read_head_fit}
use Rattle.es_tree.proofs.kind.Kind.new.Goals as goal

pub returns : goal.returns
returns c =
    c.in_ok-kind.ensures ∙ read_head_fit c.args.ast_type (plain_texts c.args.texts.now) c.args.flags.now c.requires.texts c.requires.flags
