use Rattle.std.proofs.Common.{sym, ap, ◌∙◌}
use Rattle.es_tree.specs.Heads.{scope}
use Rattle.es_semantic.proofs.SymbolPlaces.{found-bound, hoist_scope-free, hoist_scope-parameter}
use Rattle.es_semantic.proofs.scopes_for.hoist_scope.Goals as goal

pub get_binding-requires : goal.get_binding-requires
get_binding-requires c = c.requires.known.parameters_known c.in-Some.parameters.0 (ap scope c.in-Some.is)

pub returns-then-is_none-clause-scope : goal.returns-then-is_none-clause-scope
returns-then-is_none-clause-scope c = λ p ds stands binds.
    let s = c.in-Some.parameters.0 in let x = c.args.name.now in
    let bound = found-bound ds s x c.get_binding.result (c.get_binding.ensures.binding ∙ binds s x) in
    stands.hoist ∙ sym (hoist_scope-free ds p x s (sym stands.parameters ∙ ap scope c.in-Some.is) (sym bound ∙ c.if-is_none.ensures))

pub returns-clause-scope : goal.returns-clause-scope
returns-clause-scope c = λ p ds stands binds.
    let s = c.in-Some.parameters.0 in let x = c.args.name.now in
    let bound = found-bound ds s x c.get_binding.result (c.get_binding.ensures.binding ∙ binds s x) in
    sym (hoist_scope-parameter ds p x s (sym stands.parameters ∙ ap scope c.in-Some.is) (sym bound ∙ c.if-is_none.ensures))
