-- What a program becomes where names for `this` are set behind `super(..)` is reached by steps of the rows.
use Rattle.std.proofs.Common.{refl, sym, []}
use Rattle.std.specs.Prelude.{None}
use Rattle.es_tree.specs.declared.table.Sort.TheVariants.{Program as s-Program}
use Rattle.es_resolution.specs.Laws.{source}
use Rattle.es_steps.specs.CoreBridge.{first_whole}
use Rattle.es_steps.specs.Open.{no_additions, nothing_pending}
use Rattle.es_steps.specs.Steps.{the_program}
use Rattle.es_pattern_moves.proofs.Settled.{all-sound}
use Rattle.es_reached.proofs.Results.{rules-bare, source-form, source-well-bound}
use Rattle.es_reached.proofs.Sources.{law_bare_source_proof}
use Rattle.es_super_calls.specs.declared.standing.ClassStanding.TheVariants.{Elsewhere}
use Rattle.es_valid_steps.proofs.Visits.{law_among_proof, law_places_proof}
use Rattle.es_constructor_this.specs.Laws.{LawSetSteps}
use Rattle.es_constructor_this.specs.SetRows.{SetRow}
use Rattle.es_constructor_this.proofs.LinkedSteps.{steps-of}
use Rattle.es_constructor_this.proofs.SetBare.{bare-same}
use Rattle.es_constructor_this.proofs.SetSources.{functions-apart}
use Rattle.es_constructor_this.proofs.SetSteps.{Any, tree-links}
use Rattle.es_constructor_this.proofs.Written.{as_declared, write_this}

pub law_set_steps_proof : LawSetSteps
law_set_steps_proof made p form right =
    let there = source-form p form in
    let rules = rules-bare p (source p) (sym (law_bare_source_proof p)) right in
    let keeps = (law_places_proof (source p)).to_places (law_among_proof (source p) rules) in
    let bound = source-well-bound p form right in
    let links = tree-links made (first_whole p) the_program Elsewhere (source p) refl (record {
      above = [];
      fits = record { sort = s-Program; formed = there; slot = λ e. absurd (cc e); arrow = λ e. absurd (cc e) };
      sound = all-sound s-Program (source p) there keeps;
      keeps = keeps;
      resolved = bound.resolved;
      named = bound.named;
      called = bound.called;
      functions = functions-apart (source p) there rules;
    }) (λ e. absurd (cc e)) in
    (write_this as_declared made Elsewhere (source p), first_whole p, steps-of SetRow (first_whole p) Any links nothing_pending None no_additions tt, refl, bare-same made Elsewhere (source p) p (law_bare_source_proof p))
