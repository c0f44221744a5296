use Rattle.std.proofs.Common.{ℕ, List, [], ◌∷◌, ◌++◌, map, ap, ◌∙◌}
use Rattle.std.specs.Prelude.{string_bytes}
use Rattle.serde_json.specs.Written.{compact_text, has_float}
use Rattle.es_json.proofs.NoFloat.{no_float-canonical}
use Rattle.lower_temporaries.specs.declared.warning.Warning.{Warning}
use Rattle.lower_command.specs.Answer.{warning_lines}
use Rattle.lower_command.proofs.job.lower_text.Goals as goal

pub returns-clause-taken : goal.returns-clause-taken
returns-clause-taken c =
    let found = c.in_ok-lowered.ensures.lowered in
    record {
      carried = c.in_ok-lowered.ensures.options;
      program = found.holds.source;
      reads = record { value = found.value; reading = found.reading; holds = found.holds.is_source };
      kept = found.holds.kept;
      taken = found.holds.lowered.taken;
    }

-- The written program is what the source becomes, as `lower_bytes` has it.
pub returns-clause-text : goal.returns-clause-text
returns-clause-text c =
    let t = c.in_ok-lowered.lowered.tree in
    let found = c.in_ok-lowered.ensures.lowered in
    let value = found.holds.value in
    record {
      source = found.holds.source;
      written = t.program;
      reads = record { value = found.value; reading = found.reading; holds = found.holds.is_source };
      names = map string_bytes t.temporaries.items;
      lowers = found.holds.lowered.lowers;
      warned = c.in_ok-warnings.ensures ∙ ap (λ (ws : List Warning). warning_lines ws) (c.deref.ensures.value ∙ found.holds.lowered.warnings);
      text_is = c.in_ok-push_str.ensures.bytes ∙ ap (λ (b : List ℕ). b ++ 10 ∷ []) (c.in_ok-text.ensures.text (ap has_float value ∙ no_float-canonical t.program) ∙ ap compact_text value);
    }
