use Rattle.std.proofs.Common.{◌≡◌, ◌+◌, ◌∙◌, Some, ap, subst, string_bytes, sym}
use Rattle.es_scope.specs.Contexts.{reference_to, table_of, uses_of}
use Rattle.es_scope.specs.TableChanges.{HasBindingMore, HasReferenceMore}
use Rattle.es_scope.specs.Tables.{reference_count, symbol_count}
use Rattle.es_scope.specs.declared.flags.SymbolFlags.{SymbolFlags}
use Rattle.es_tree.specs.Fresh.{IsFreshName, text_base}
use Rattle.lower_stores.specs.LoadedHelpers.{with_helper_import, with_loaded}
use Rattle.lower_stores.specs.PlainHelpers.{plain_name}
use Rattle.lower_helpers.specs.HelperNodes.{name_node}
use Rattle.lower_helpers.specs.Loading.{LoadsHelper, loaded_now, reading}
use Rattle.lower_helpers.proofs.helper_calls.load_now.Goals as goal

pub returns-clause-loaded : goal.returns-clause-loaded
returns-clause-loaded g c =
    let old = c.args.ctx.now in
    let mid = c.generate_uid_in_root_scope.new.self in
    let new = c.create_bound_ident_expr.new.self in
    let stores = c.args.stores.now in
    let x = string_bytes c.in_ok-local.local.name in
    let made = c.in_ok-local.ensures in
    let node = c.in_ok-node.ensures in
    let count = symbol_count (table_of old) in
    let local : plain_name c.in_ok-local.local ≡ record { name = x; symbol = count } = λ i. record { name = x; symbol = made.symbol i } in
    let next : mid.ast.next ≡ old.ast.next = ap (λ a. a.next) made.bound.ast in
    let whole : c.in_ok-node.node ≡ name_node old.ast.next x (Some (reference_count (table_of old))) (Some count) =
    node.node ∙ (λ i. name_node (next i) (c.as_str-name.ensures.value i) (Some (made.bound.table.references.count i)) (Some (made.symbol i))) in
    let table = node.refers.table in
    let kept = node.refers.kept in
    let beside = made.bound.kept in
    let names = node.refers.names in
    let loaded = c.in_ok-load.ensures in
    subst (LoadsHelper c.args.helper 0 stores (record { source_type = stores.source_type; helper_loader = c.load.new.self; module_imports = c.load.new.imports }) old new) (sym whole)
    (loaded_now {table = table_of mid} c.requires.runtime c.requires.absent
    (λ i. record {
      source_type = stores.source_type;
      helper_loader = (loaded.noted ∙ ap (λ l. with_loaded c.args.helper l stores.helper_loader) local) i;
      module_imports = (loaded.imported ∙ ap (λ l. with_helper_import stores.helper_loader.module_name c.args.helper l stores.module_imports) local) i;
    })
    (record {
      fresh = subst (λ t. IsFreshName (uses_of old) (text_base t) x) c.name.ensures made.fresh;
      makes = record { used = λ y. names.used y ∙ made.made.used y; made_is = names.made_is ∙ made.made.made_is };
      binds = subst (λ (f : SymbolFlags). HasBindingMore (table_of old) (table_of mid) 0 x f) c.helper_flags-flags.ensures made.bound.table;
    })
    (record {
      refers = subst (λ n. HasReferenceMore (table_of mid) (table_of new) (reference_to n (Some count) reading)) next
          (subst (λ m. HasReferenceMore (table_of mid) (table_of new) (reference_to mid.ast.next (Some m) reading)) made.symbol table);
      next = ap (λ a. a.next) node.refers.ast ∙ ap (λ n. n + 1) next;
      kept = record { state = kept.state ∙ beside.state; options = kept.options ∙ beside.options; around = kept.around ∙ beside.around; scopes = kept.scopes ∙ beside.scopes; place = kept.place ∙ beside.place };
    }))
