use Rattle.std.proofs.Common.{◌∙◌, ◌++◌, ◌∷◌, [], ap, append_assoc, sym}
use Rattle.lower_namespace_exports.specs.Lowered.LowersOne.{splits, stays}
use Rattle.lower_namespace_exports.proofs.statements.lower_statement.Goals as goal

pub returns-then-not-is_lowerable : goal.returns-then-not-is_lowerable
returns-then-not-is_lowerable c = record { put = record { further = c.args.statement ∷ []; lowers = stays (sym c.is_lowerable.ensures ∙ c.if-not-is_lowerable.true); put = c.in_ok-push.ensures.items } }

pub returns : goal.returns
returns c = record {
  put = record {
    further = c.in_ok-import.import ∷ c.in_ok-import.export ∷ [];
    lowers = splits c.in_ok-import.ensures.split;
    put = c.in_ok-push-3.ensures.items ∙ ap (λ ts. ts ++ c.in_ok-import.export ∷ []) c.in_ok-push-2.ensures.items ∙ append_assoc c.args.lowered.now.items (c.in_ok-import.import ∷ []) (c.in_ok-import.export ∷ []);
  };
}
