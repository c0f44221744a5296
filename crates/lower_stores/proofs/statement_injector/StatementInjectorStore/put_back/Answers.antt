use Rattle.std.proofs.Common.{◌∙◌, ap, is_some, rules, sym, true≢false}
use Rattle.std.specs.Prelude.{None}
use Rattle.std.specs.Option.{option_copied_mut}
use Rattle.lower_stores.proofs.InsertionLemmas.{changed_at, get_at}
use Rattle.lower_stores.proofs.statement_injector.StatementInjectorStore.put_back.Goals as goal

pub unreachable-requires : goal.unreachable-requires
unreachable-requires c =
    true≢false (sym c.requires ∙ ap is_some (get_at c.args.self.now c.self.inside.insertions.entries c.args.target.0 None c.self.view_is (ap option_copied_mut (sym c.in_default.is) ∙ c.get_mut.ensures.value)))

pub returns : goal.returns
returns c =
    changed_at c.args.self.now c.self.inside.insertions.entries (c.get_mut.follows.lender c.args.lists).entries c.args.target.0 c.args.lists c.self.view_is ((c.get_mut.follows.holds c.args.lists).3 (search rules)).0
