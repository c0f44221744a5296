use Rattle.std.proofs.Common.{◌∙◌, ap, bytes_eq, string_bytes}
use Rattle.std.specs.List.{list_any}
use Rattle.es_scope.proofs.Candidates.{among-made}
use Rattle.es_scope.proofs.uids.UidGenerator.has_made.Goals as goal

pub returns-then-is_underscored : goal.returns-then-is_underscored
returns-then-is_underscored c =
    c.is_one_of.ensures ∙ (ap (λ names. list_any (λ made. bytes_eq (string_bytes made) c.args.name.now) names) c.as_slice.ensures.value ∙ among-made c.args.self.now.made.items c.args.name.now)
