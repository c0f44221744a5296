use Rattle.std.proofs.Common.{rules}
use Rattle.std.proofs.lemmas.List.Sorted.{answers_always}
use Rattle.es_scope.proofs.Trims.{without_last_digits-trim}
use Rattle.es_scope.proofs.base.without_last_digits.Goals as goal

pub returns : goal.returns
returns c = without_last_digits-trim _ (search (rules, answers_always)) c.args.text.now c.trim_end_matches.result.now c.trim_end_matches.ensures.matches
