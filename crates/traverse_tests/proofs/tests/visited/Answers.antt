use Rattle.std.proofs.Common.{◌≡◌, ◌∙◌, ◌∷◌, [], ap, replicate}
use Rattle.serde_json.specs.View.{view}
use Rattle.es_json.proofs.FormHasForm.{form_has_form}
use Rattle.es_tree.specs.declared.table.Sort.TheVariants.{Program as s-Program}
use Rattle.es_statements.specs.ProgramPlain.{plain_program}
use Rattle.es_steps.specs.Open.{nothing_pending}
use Rattle.es_changes.specs.Moments.{Moment}
use Rattle.es_traverse.specs.ContextMoments.{moment}
use Rattle.traverse_tests.proofs.Read.{can, opens, room, some_pair}
use Rattle.traverse_tests.proofs.tests.visited.Goals as goal

pub open-program-requires : goal.open-program-requires
open-program-requires c = opens c.in_ok-program.field-0.program (form_has_form s-Program (view c.in_ok-value.value) c.in_ok-program.field-0.program c.in_ok-program.ensures.form.form)

pub visit_by-requires-clause-can : goal.visit_by-requires-clause-can
visit_by-requires-clause-can c = can _

pub visit_by-requires-clause-ready : goal.visit_by-requires-clause-ready
visit_by-requires-clause-ready c =
    let ctx = c.in_ok-ctx.ctx in
    let a : Moment = moment (λ s. replicate s.pairs nothing_pending) ctx in
    let lists : a.lists ≡ nothing_pending ∷ [] = ap (λ k. replicate k nothing_pending) c.in_ok-ctx.ensures.pairs in
    let p = c.in_ok-program.field-0.program in
    record {
      suited = tt;
      room = room p (plain_program c.open-program.result) a c.open-program.ensures lists (ap (λ x. x.next) c.in_ok-ctx.ensures.ids ∙ c.in_ok-program.ensures.next) c.in_ok-program.ensures.size;
      pair = some_pair a lists;
    }
