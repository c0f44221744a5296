use Rattle.std.proofs.Common.{◌∙◌, [], ◌∷◌, ap, subst, Option, Some}
use Rattle.es_scope.specs.declared.context_names.BoundIdentifier.{BoundIdentifier}
use Rattle.es_steps.specs.Nodes.{identifier}
use Rattle.es_tree.specs.Words.{Text}
use Rattle.lower_temporaries.proofs.Takings.{takes-none}
use Rattle.lower_temporaries.specs.SeenTrees.{named}
use Rattle.lower_temporaries.specs.Temporaries.{bound_of}
use Rattle.lower_chains.proofs.Held.{held-read}
use Rattle.lower_chains.specs.WayParts.TargetBy.{by_held, by_fresh}
use Rattle.lower_chains.specs.Ways.{IsHeld, held}
use Rattle.lower_chains.proofs.null_checks.choose_target.Goals as goal

pub returns-in_ok-target-in-Some-clause-chosen :
    goal.returns-in_ok-target-in-Some-clause-chosen
returns-in_ok-target-in-Some-clause-chosen c = record { taken = []; ids = 1; by = by_held (ap held c.in-Some.is); takes = takes-none c.in_ok-target-in-Some.ensures.reads }

pub returns-in_ok-target-in-Some-clause-own : goal.returns-in_ok-target-in-Some-clause-own
returns-in_ok-target-in-Some-clause-own c =
    let x = c.in-Some.field-0 in record {
      target = λ names. c.in_ok-target-in-Some.ensures.made names ∙ ap (λ (y : Text). identifier (named y (Some x.symbol_id.0))) c.as_str.ensures.value;
      unsteady = held-read c.args.ctx.now c.write_name.new.ctx (Some x) c.in_ok-target-in-Some.ensures.reads (subst (λ (h : Option BoundIdentifier). IsHeld c.args.ctx.now h) c.in-Some.is c.requires.held);
    }

pub returns-in_ok-temporary-in-None-clause-chosen :
    goal.returns-in_ok-temporary-in-None-clause-chosen
returns-in_ok-temporary-in-None-clause-chosen c =
    let made = c.in_ok-temporary-in-None.ensures.taken in record { taken = bound_of c.in_ok-temporary-in-None.temporary ∷ []; ids = 3; by = by_fresh (ap held c.in-None.is) made.next; takes = made.takes }
