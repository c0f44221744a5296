use Rattle.std.proofs.Common.{◌==◌, ◌&&◌, None, Some, bytes_eq, if◌then◌else◌, string_bytes, ap, ◌∙◌}
use Rattle.es_scope.specs.Bindings.{bound_in}
use Rattle.es_scope.proofs.MovedBindings.{as_moved, shape_then}
use Rattle.es_scope.proofs.scoping_settings.move_name.Goals as goal

pub returns-clause-shape : goal.returns-clause-shape
returns-clause-shape c = shape_then c.args.scopes.now c.bind_name.new.scopes c.unbind_name.new.scopes c.bind_name.ensures.shape c.unbind_name.ensures.shape

pub returns-clause-moved : goal.returns-clause-moved
returns-clause-moved c = λ n x.
    let key = c.in_ok-clone.ensures.cases in
    c.unbind_name.ensures.unbound n x ∙
    (ap (λ y. if n == c.args.from.0 && bytes_eq y x then None else bound_in c.bind_name.new.scopes n x) c.as_str.ensures.value ∙
    (ap (λ o. if n == c.args.from.0 && bytes_eq (string_bytes c.args.name.now) x then None else o) (c.in_ok-bind_name.ensures.bound n x ∙ ap (λ y. if n == c.args.to.0 && bytes_eq y x then Some c.args.symbol.0 else bound_in c.args.scopes.now n x) key) ∙
    as_moved (n == c.args.from.0) (n == c.args.to.0) (bytes_eq (string_bytes c.args.name.now) x) (Some c.args.symbol.0) (bound_in c.args.scopes.now n x)))
