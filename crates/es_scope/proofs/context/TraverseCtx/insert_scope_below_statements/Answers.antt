use Rattle.std.proofs.Common.{◌≡◌, ℕ, map, subst, ap, sym, ◌∙◌}
use Rattle.es_tree.specs.Tree.{trees}
use Rattle.es_scope.specs.OuterScopes.{outer_in_trees}
use Rattle.es_scope.specs.TableSettings.{InsertsScope, has_number}
use Rattle.es_scope.proofs.OuterScopes.{by_number, inserted_alike, outer_in_trees-children}
use Rattle.es_scope.proofs.context.TraverseCtx.insert_scope_below_statements.Goals as goal

pub insert_scope-requires-clause-children : goal.insert_scope-requires-clause-children
insert_scope-requires-clause-children g c = λ n e.
    let numbers : map (λ s. s.0) c.deref.result.now ≡ outer_in_trees c.args.self.now.scoping c.current_scope_id-parent.result.0 (trees c.args.statements.now) = ap (map (λ s. s.0)) c.deref.ensures.value ∙ c.in_ok-moved.ensures in
    outer_in_trees-children c.args.self.now.scoping c.current_scope_id-parent.result.0 (trees c.args.statements.now) n (sym (by_number c.deref.result.now n ∙ ap (λ ms. has_number ms n) numbers) ∙ e)

pub returns-clause-table : goal.returns-clause-table
returns-clause-table g c =
    let numbers : map (λ s. s.0) c.deref.result.now ≡ outer_in_trees c.args.self.now.scoping c.current_scope_id-parent.result.0 (trees c.args.statements.now) = ap (map (λ s. s.0)) c.deref.ensures.value ∙ c.in_ok-moved.ensures in
    let P : ℕ → Type 0 = λ u. InsertsScope c.args.self.now.scoping c.insert_scope.new.self u c.args.flags (has_number (outer_in_trees c.args.self.now.scoping u (trees c.args.statements.now))) in
    subst P c.current_scope_id-parent.ensures.scope (inserted_alike c.args.self.now.scoping c.insert_scope.new.self c.current_scope_id-parent.result.0 c.args.flags c.deref.result.now (outer_in_trees c.args.self.now.scoping c.current_scope_id-parent.result.0 (trees c.args.statements.now)) numbers c.in_ok-made.ensures.inserted)
