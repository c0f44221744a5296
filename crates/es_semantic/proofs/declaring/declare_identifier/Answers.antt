use Rattle.std.proofs.Common.{◌≡◌, sym, ap, ◌∙◌}
use Rattle.es_semantic.specs.SymbolsOf.{with_identifier, with_symbol}
use Rattle.es_semantic.specs.declared.place.Role.TheVariants.{Binds}
use Rattle.es_semantic.proofs.AddedVisits.{Holds-same}
use Rattle.es_semantic.proofs.declaring.declare_identifier.Goals as goal

pub returns-in_ok-declare_name-clause-declared : goal.returns-in_ok-declare_name-clause-declared
returns-in_ok-declare_name-clause-declared c = λ p rows ds stands holds.
    let x = c.args.name.now in
    let role : p.role ≡ Binds c.in-Binds.binding = sym stands.role ∙ c.in-Binds.is in
    Holds-same rows (with_symbol ds c.scope_for-scope.result.0 x c.in-Binds.binding) (with_identifier ds p p.role x) c.declare_name.new.scoping
    (ap (λ s. with_symbol ds s x c.in-Binds.binding) (c.scope_for-scope.ensures.scope p ds stands holds.bindings) ∙ ap (λ r. with_identifier ds p r x) (sym role))
    (c.in_ok-declare_name.ensures.declared rows ds holds)
