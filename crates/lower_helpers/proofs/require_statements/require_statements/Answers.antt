use Rattle.std.proofs.Common.{◌≡◌, ◌++◌, ◌∷◌, [], ◌∙◌, ap, append_assoc, map, rules, string_bytes, suc, sym}
use Rattle.es_scope.specs.Contexts.{table_of}
use Rattle.es_scope.specs.Tables.{reference_count}
use Rattle.es_tree.specs.Heads.{symbol as symbol_number}
use Rattle.lower_stores.specs.PlainImports.{plain_import, plain_sources}
use Rattle.lower_helpers.specs.RequireNodes.{first_import, never, once_more, require_node, require_statements}
use Rattle.lower_helpers.proofs.require_statements.require_statements.Goals as goal

pub loop-source-init : goal.loop-source-init
loop-source-init g c = record {
  made = search rules;
  alone = search rules;
  room = search rules;
  known = search rules;
  times = 0;
  reads = never;
  counted = search rules;
}

pub loop-source-preserved : goal.loop-source-preserved
loop-source-preserved g c =
    let inv = c.loop-source.invariant in
    let old = c.loop-source.ctx in
    let n = old.ast.next in
    let count = reference_count (table_of old) in
    let symbol = symbol_number c.find_binding-symbol.result in
    let written = c.loop-source.statements.items in
    let rest = plain_sources c.next.new.self in
    let reads = c.in_ok-statement.ensures.reads in
    let node : c.in_ok-statement.statement ≡ require_node n count symbol (string_bytes c.in-Some.source.now) (first_import (map plain_import c.in-Some.imports.now.items)) =
    c.in_ok-statement.ensures.made
    ∙ (λ i. require_node n count symbol (c.as_str.ensures.value i) ((c.default_import-local.ensures ∙ ap (λ is. first_import (map plain_import is)) c.deref.ensures.value) i)) in
    record {
      made = ap (λ ss. ss ++ require_statements c.require_statement.new.ctx.ast.next (reference_count (table_of c.require_statement.new.ctx)) symbol rest) c.in_ok-push.ensures.items
          ∙ append_assoc written (c.in_ok-statement.statement ∷ []) (require_statements c.require_statement.new.ctx.ast.next (reference_count (table_of c.require_statement.new.ctx)) symbol rest)
          ∙ (λ i. written ++ node i ∷ require_statements (reads.next i) (reads.refers.count i) symbol rest)
          ∙ ap (λ es. written ++ require_statements n count symbol (plain_sources es)) (sym c.in-Some.ensures.steps)
          ∙ inv.made;
      alone = search rules;
      room = search rules;
      known = search rules;
      times = suc inv.times;
      reads = once_more inv.reads c.in_ok-statement.ensures.names reads;
      counted = search rules;
    }
