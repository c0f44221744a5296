use Rattle.std.proofs.Common.{◌-◌, ◌∙◌, ap, refl}
use Rattle.std.proofs.lemmas.Result.{err_from_is_err_and}
use Rattle.lower_temporaries.specs.SeenTrees.{seen_alone}
use Rattle.lower_temporaries.specs.Stacks.{with_var, with_top}
use Rattle.lower_temporaries.specs.declared.declarations.Pair.{Pair}
use Rattle.lower_temporaries.proofs.StoreLemmas.{changed_top, kept_top, last-below, last_place, more-vars, no_more, one_var, pair-changed}
use Rattle.lower_temporaries.proofs.declarations.VarDeclarationsStore.push_var.Goals as goal

pub returns-clause-inserted : goal.returns-clause-inserted
returns-clause-inserted c =
    let z : Pair = record { vars = c.push.new.self; lets = c.index_mut.result.now.lets } in
    changed_top c.self.inside.pairs.items (c.len-last.result - 1) c.index_mut.result.now z (with_var (seen_alone c.args.declarator))
    (last_place _ _ _ c.self.view_is c.requires.there (c.len-last.ensures ∙ c.self.inside.pairs.ok.0)) c.index_mut.ensures.value (one_var c.index_mut.result.now z c.args.declarator c.in_ok-push.ensures.items refl)
    ∙ ap (with_top (with_var (seen_alone c.args.declarator))) c.self.view_is

pub returns-in_err-push-clause-kept : goal.returns-in_err-push-clause-kept
returns-in_err-push-clause-kept c =
    let z : Pair = record { vars = c.push.new.self; lets = c.index_mut.result.now.lets } in
    let p = err_from_is_err_and c.from_residual.result c.from_residual.ensures.1 in
    rw p.1
    (kept_top c.self.inside.pairs.items (c.len-last.result - 1) c.index_mut.result.now z (last_place _ _ _ c.self.view_is c.requires.there (c.len-last.ensures ∙ c.self.inside.pairs.ok.0)) c.index_mut.ensures.value (no_more c.index_mut.result.now z c.in_err-push.ensures.items refl) ∙ c.self.view_is)

pub invariant_of-self-inside : goal.invariant_of-self-inside
invariant_of-self-inside c =
    let z : Pair = record { vars = c.push.new.self; lets = c.index_mut.result.now.lets } in (
      pair-changed c.self.inside.pairs.items (c.len-last.result - 1) c.index_mut.result.now z c.self.inside.inert
          (last-below _ _ _ c.self.view_is c.requires.there (c.len-last.ensures ∙ c.self.inside.pairs.ok.0)) c.index_mut.ensures.value (more-vars c.index_mut.result.now z c.args.declarator _ c.push.ensures.items refl c.requires.inert),
      tt,
    )
