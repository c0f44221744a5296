-- A program that stays as it is, whatever the rules are.
use Rattle.std.proofs.Common.{◌≡◌, [], refl}
use Rattle.std.specs.Prelude.{true}
use Rattle.es_tree.specs.HasForm.{has_form}
use Rattle.es_tree.specs.StaticRules.{breaks}
use Rattle.es_tree.specs.Tree.{Tree}
use Rattle.es_tree.specs.declared.table.Sort.TheVariants.{Program as s-Program}
use Rattle.es_resolution.specs.Laws.{source}
use Rattle.es_steps.specs.CoreBridge.{first_whole}
use Rattle.es_steps.specs.Steps.{Ledger, Site, Spot}
use Rattle.es_steps.specs.Steps.Steps.{stays}
use Rattle.es_arrow_bodies.proofs.BodyPrograms.{law_body_bindings_proof}
use Rattle.es_module_names.proofs.BareNames.{law_outside_bare_proof}
use Rattle.es_reached.specs.Reached.{IsResultOf}
use Rattle.es_reached.proofs.Results.{program-kind, source-form, source-well-bound}
use Rattle.es_reached.proofs.Sources.{law_bare_source_proof}

-- No step is taken, so its names are bound as any rules that keep bindings leave them.
pub stays-as : (R : Site → Ledger → Spot → Ledger → Spot → Type 0) (p : Tree) → has_form s-Program p ≡ true → breaks p ≡ [] → IsResultOf R p p []
stays-as R p form right =
    let first = first_whole p in
    record {
      resolved = source p;
      written = law_bare_source_proof p;
      reached = record { whole = first; steps = stays; made = refl };
      bindings = law_body_bindings_proof (source p) (source p) first first (program-kind (source p) (source-form p form)) (source-well-bound p form right) stays;
      form = form;
      kept = right;
      outside = law_outside_bare_proof p p refl;
    }
