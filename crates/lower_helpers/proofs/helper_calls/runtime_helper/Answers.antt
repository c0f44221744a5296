use Rattle.std.proofs.Common.{◌≡◌, ◌∙◌, Some, ap, refl, subst, sym}
use Rattle.es_scope.proofs.SteadyContexts.{bound-known}
use Rattle.es_scope.specs.Contexts.{table_of}
use Rattle.es_scope.specs.Tables.{reference_count}
use Rattle.lower_stores.specs.PlainHelpers.{plain_name}
use Rattle.lower_helpers.proofs.LoadingLemmas.{bound_local}
use Rattle.lower_helpers.specs.HelperNodes.{name_node}
use Rattle.lower_helpers.specs.Loading.{LoadsHelper, loaded_before}
use Rattle.lower_helpers.proofs.helper_calls.runtime_helper.Goals as goal

pub create_bound_ident_expr-requires-clause-symbol :
    goal.create_bound_ident_expr-requires-clause-symbol
create_bound_ident_expr-requires-clause-symbol g c =
    let s = table_of c.args.ctx.now in
    let local = plain_name c.in-Some.local.now in
    let there = c.in-Some.ensures.there in
    bound-known s 0 local.name local.symbol (bound_local s c.args.stores.now.helper_loader.loaded there.0 (c.args.helper, local) there.1 there.2 c.requires.bound)

pub returns-clause-loaded : goal.returns-clause-loaded
returns-clause-loaded g c =
    let old = c.args.ctx.now in
    let stores = c.args.stores.now in
    let local = plain_name c.in-Some.local.now in
    let node = c.in_ok-node-2.ensures in
    let kept = node.refers.kept in
    let whole : c.in_ok-node-2.node ≡ name_node old.ast.next local.name (Some (reference_count (table_of old))) (Some local.symbol) =
    node.node ∙ ap (λ x. name_node old.ast.next x (Some (reference_count (table_of old))) (Some local.symbol)) c.as_str-name.ensures.value in
    subst (LoadsHelper c.args.helper 0 stores stores old c.create_bound_ident_expr.new.self) (sym whole)
    (loaded_before c.requires.runtime refl c.in-Some.ensures.there node.refers.names
    (record { refers = node.refers.table; next = ap (λ a. a.next) node.refers.ast; kept = kept }))
