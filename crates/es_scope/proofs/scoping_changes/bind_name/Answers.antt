use Rattle.std.proofs.Common.{Some, Result, Ok, Err, OnErr, bytes_eq, if◌then◌else◌, option_and_then, string_bytes, sym, ap, ◌∙◌}
use Rattle.es_scope.specs.Numbers.{numbers}
use Rattle.es_scope.proofs.ChangedItems.{shape_changed, bound_changed, said_same}
use Rattle.es_scope.proofs.scoping_changes.bind_name.Goals as goal

on_err : {A E : Type 0} (r : Result A E) (P : Type 0) → P → OnErr r P
on_err (Ok a) P h = tt
on_err (Err e) P h = h

pub returns-in_err-bind-clause-shape : goal.returns-in_err-bind-clause-shape
returns-in_err-bind-clause-shape c = shape_changed c.args.scopes.now c.args.scope.0 _ c.index-scopes-scope.result c.requires c.index-scopes-scope.is (ap (λ k. k.parent) (sym c.index-scopes-scope.is)) (ap (λ k. k.flags) (sym c.index-scopes-scope.is))

pub returns-in_err-bind-clause-err : goal.returns-in_err-bind-clause-err
returns-in_err-bind-clause-err c =
    on_err c.from_residual.result _ (λ n x. said_same (λ o. option_and_then (λ k. numbers k.bindings x) o) c.args.scopes.now c.args.scope.0 _ c.index-scopes-scope.result n c.requires c.index-scopes-scope.is (c.in_err-bind.ensures.err x ∙ ap (λ k. numbers k.bindings x) (sym c.index-scopes-scope.is)))

pub returns-clause-shape : goal.returns-clause-shape
returns-clause-shape c = shape_changed c.args.scopes.now c.args.scope.0 _ c.index-scopes-scope.result c.requires c.index-scopes-scope.is (ap (λ k. k.parent) (sym c.index-scopes-scope.is)) (ap (λ k. k.flags) (sym c.index-scopes-scope.is))

pub returns-clause-bound : goal.returns-clause-bound
returns-clause-bound c =
    bound_changed c.args.scopes.now c.args.scope.0 _ c.index-scopes-scope.result (string_bytes c.args.name) (Some c.args.symbol.0) c.requires c.index-scopes-scope.is (λ x. c.in_ok-bind.ensures.bound x ∙ ap (λ k. if bytes_eq (string_bytes c.args.name) x then Some c.args.symbol.0 else numbers k.bindings x) (sym c.index-scopes-scope.is))
