use Rattle.std.proofs.Common.{◌∙◌, ap, rules, sym}
use Rattle.std.specs.Prelude.{None, Some}
use Rattle.std.specs.Option.{option_copied_mut}
use Rattle.lower_stores.specs.BareInsertions.{bare_lists}
use Rattle.lower_stores.specs.declared.statement_injector.Lists.{Lists}
use Rattle.lower_stores.proofs.InsertionLemmas.{changed_at, empty_lists, get_at, shown}
use Rattle.std.specs.FinMap.{insert}
use Rattle.lower_stores.proofs.statement_injector.StatementInjectorStore.take.Goals as goal

pub returns-in_default-clause-absent : goal.returns-in_default-clause-absent
returns-in_default-clause-absent c = (
  ap shown c.get_mut.follows.holds-at-none ∙ c.self.view_is,
  get_at c.args.self.now c.self.inside.insertions.entries c.args.target.0 None c.self.view_is (ap option_copied_mut (sym c.in_default.is) ∙ c.get_mut.ensures.value),
)

pub returns-clause-there : goal.returns-clause-there
returns-clause-there c =
    get_at c.args.self.now c.self.inside.insertions.entries c.args.target.0 (Some c.in-Some.there.now) c.self.view_is c.in-Some.ensures.value
    ∙ ap (λ (l : Lists). Some (bare_lists l)) (sym c.replace.ensures.value)

pub returns-clause-emptied : goal.returns-clause-emptied
returns-clause-emptied c =
    let empty : Lists = record { befores = c.new.result; afters = c.new-2.result } in
    changed_at c.args.self.now c.self.inside.insertions.entries (c.get_mut.follows.lender c.replace.new.dest).entries c.args.target.0 c.replace.new.dest c.self.view_is ((c.get_mut.follows.holds c.replace.new.dest).3 (search rules)).0
    ∙ ap (insert c.args.self.now c.args.target.0) (empty_lists c.replace.new.dest empty c.replace.ensures.after c.new.ensures.items c.new-2.ensures.items)
