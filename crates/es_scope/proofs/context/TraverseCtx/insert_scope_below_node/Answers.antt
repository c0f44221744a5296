use Rattle.std.proofs.Common.{◌≡◌, map, ap, sym, ◌∙◌}
use Rattle.es_scope.specs.OuterScopes.{outer_scopes}
use Rattle.es_scope.specs.TableSettings.{has_number}
use Rattle.es_scope.proofs.OuterScopes.{by_number, inserted_alike, outer-children}
use Rattle.es_scope.proofs.context.TraverseCtx.insert_scope_below_node.Goals as goal

pub insert_scope-requires-clause-children : goal.insert_scope-requires-clause-children
insert_scope-requires-clause-children g c = λ n e.
    let numbers : map (λ s. s.0) c.deref.result.now ≡ outer_scopes c.args.self.now.scoping c.args.parent.0 c.args.node.now = ap (map (λ s. s.0)) c.deref.ensures.value ∙ c.in_ok-moved.ensures in
    outer-children c.args.self.now.scoping c.args.parent.0 c.args.node.now n (sym (by_number c.deref.result.now n ∙ ap (λ ms. has_number ms n) numbers) ∙ e)

pub returns-clause-table : goal.returns-clause-table
returns-clause-table g c =
    let numbers : map (λ s. s.0) c.deref.result.now ≡ outer_scopes c.args.self.now.scoping c.args.parent.0 c.args.node.now = ap (map (λ s. s.0)) c.deref.ensures.value ∙ c.in_ok-moved.ensures in
    inserted_alike c.args.self.now.scoping c.insert_scope.new.self c.args.parent.0 c.args.flags c.deref.result.now (outer_scopes c.args.self.now.scoping c.args.parent.0 c.args.node.now) numbers c.in_ok-made.ensures.inserted
