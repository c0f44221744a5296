use Rattle.std.proofs.Common.{◌-◌, ◌∙◌, ap, refl}
use Rattle.std.proofs.lemmas.Result.{err_from_is_err_and}
use Rattle.lower_temporaries.specs.SeenTrees.{seen_alone}
use Rattle.lower_temporaries.specs.Stacks.{with_let, with_top}
use Rattle.lower_temporaries.specs.declared.declarations.Pair.{Pair}
use Rattle.lower_temporaries.proofs.StoreLemmas.{changed_top, kept_top, last-below, last_place, more-lets, no_more, one_let, pair-changed}
use Rattle.lower_temporaries.proofs.declarations.VarDeclarationsStore.push_let.Goals as goal

pub returns-clause-inserted : goal.returns-clause-inserted
returns-clause-inserted c =
    let z : Pair = record { vars = c.index_mut.result.now.vars; lets = c.push.new.self } in
    changed_top c.self.inside.pairs.items (c.len-last.result - 1) c.index_mut.result.now z (with_let (seen_alone c.args.declarator))
    (last_place _ _ _ c.self.view_is c.requires.there (c.len-last.ensures ∙ c.self.inside.pairs.ok.0)) c.index_mut.ensures.value (one_let c.index_mut.result.now z c.args.declarator refl c.in_ok-push.ensures.items)
    ∙ ap (with_top (with_let (seen_alone c.args.declarator))) c.self.view_is

pub returns-in_err-push-clause-kept : goal.returns-in_err-push-clause-kept
returns-in_err-push-clause-kept c =
    let z : Pair = record { vars = c.index_mut.result.now.vars; lets = c.push.new.self } in
    let p = err_from_is_err_and c.from_residual.result c.from_residual.ensures.1 in
    rw p.1
    (kept_top c.self.inside.pairs.items (c.len-last.result - 1) c.index_mut.result.now z (last_place _ _ _ c.self.view_is c.requires.there (c.len-last.ensures ∙ c.self.inside.pairs.ok.0)) c.index_mut.ensures.value (no_more c.index_mut.result.now z refl c.in_err-push.ensures.items) ∙ c.self.view_is)

pub invariant_of-self-inside : goal.invariant_of-self-inside
invariant_of-self-inside c =
    let z : Pair = record { vars = c.index_mut.result.now.vars; lets = c.push.new.self } in (
      pair-changed c.self.inside.pairs.items (c.len-last.result - 1) c.index_mut.result.now z c.self.inside.inert
          (last-below _ _ _ c.self.view_is c.requires.there (c.len-last.ensures ∙ c.self.inside.pairs.ok.0)) c.index_mut.ensures.value (more-lets c.index_mut.result.now z c.args.declarator _ refl c.push.ensures.items c.requires.inert),
      tt,
    )
