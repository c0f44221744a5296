use Rattle.std.proofs.Common.{◌∙◌, ap, sym, length}
use Rattle.std.specs.Prelude.{◌==◌}
use Rattle.lower_temporaries.proofs.StoreLemmas.{length-pendings_in}
use Rattle.lower_temporaries.proofs.declarations.VarDeclarationsStore.is_empty.Goals as goal

pub returns : goal.returns
returns c =
    c.is_empty.ensures ∙ ap (λ n. n == 0) (c.self.inside.pairs.ok.0 ∙ sym (length-pendings_in c.self.inside.pairs.items) ∙ ap length c.self.view_is)
