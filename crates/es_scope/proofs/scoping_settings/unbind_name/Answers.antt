use Rattle.std.proofs.Common.{None, bytes_eq, if◌then◌else◌, sym, ap, ◌∙◌}
use Rattle.es_scope.specs.Numbers.{numbers}
use Rattle.es_scope.proofs.ChangedItems.{bound_changed, shape_changed}
use Rattle.es_scope.proofs.scoping_settings.unbind_name.Goals as goal

pub returns-clause-shape : goal.returns-clause-shape
returns-clause-shape c = shape_changed c.args.scopes.now c.args.scope.0 _ c.index-scopes-scope.result c.requires c.index-scopes-scope.is (ap (λ k. k.parent) (sym c.index-scopes-scope.is)) (ap (λ k. k.flags) (sym c.index-scopes-scope.is))

pub returns-clause-unbound : goal.returns-clause-unbound
returns-clause-unbound c =
    bound_changed c.args.scopes.now c.args.scope.0 _ c.index-scopes-scope.result c.args.name.now None c.requires c.index-scopes-scope.is (λ x. c.unbind.ensures x ∙ ap (λ k. if bytes_eq c.args.name.now x then None else numbers k.bindings x) (sym c.index-scopes-scope.is))
