use Rattle.std.proofs.Common.{ap, ◌∙◌}
use Rattle.serde_json.specs.Written.{compact_text, has_float}
use Rattle.es_json.proofs.NoFloat.{no_float-canonical}
use Rattle.es_json.proofs.writer.program_text.Goals as goal

pub returns : goal.returns
returns c =
    let written = c.in_ok-value.ensures in
    c.in_ok-text.ensures.text (ap has_float written ∙ no_float-canonical c.args.program.now) ∙ ap compact_text written
