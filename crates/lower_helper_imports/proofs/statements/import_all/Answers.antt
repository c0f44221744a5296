use Rattle.std.proofs.Common.{◌≡◌, ◌∙◌, ap, inl, inr, refl}
use Rattle.std.proofs.lemmas.Result.{IfOk-weaker}
use Rattle.es_tree.specs.Tree.{trees}
use Rattle.es_helper_calls.specs.Importing.{is_module}
use Rattle.es_statements.specs.ProgramPlain.{plain_program}
use Rattle.es_statements.specs.declared.program.Program.{Program}
use Rattle.es_top_imports.specs.TopImports.{with_top}
use Rattle.lower_helper_imports.specs.Parts.{imports_before, source_type}
use Rattle.lower_helper_imports.proofs.PutStatements.{closed-program, put-all, put-next, put-none, statements_of}
use Rattle.lower_helper_imports.proofs.statements.import_all.Goals as goal

pub loop-helper-init : goal.loop-helper-init
loop-helper-init c =
    let made = c.into_iter-helper-iterator.ensures.into_iter_gives in (
      (tt, tt),
      tt,
      refl,
      put-none c.imports_before-index.result c.open-program.result.body.items c.open-program.result.source_type c.args.module_name.now c.args.helpers.now c.into_iter-helper-iterator.result.a.rest.now c.args.names.now c.into_iter-helper-iterator.result.b.rest.now
          (c.imports_before-index.ensures ∙ ap imports_before c.as_slice.ensures.value) (ap (λ z. z.a.rest.now) made ∙ ap (λ i. i.rest.now) c.zip-helper-items.ensures.first ∙ c.iter.ensures.rest) (ap (λ z. z.b.rest.now) made ∙ c.zip-helper-items.ensures.second.0),
    )

pub loop-helper-preserved : goal.loop-helper-preserved
loop-helper-preserved c =
    let now = c.in-Some.ensures.steps in
    let q = c.loop-helper.program in (
      (tt, tt),
      tt,
      ap (λ (e : Program). record e { body = c.insert.new.self }) c.loop-helper.invariant.2,
      put-next c.imports_before-index.result c.open-program.result.body.items (statements_of q.source_type c.args.module_name.now c.args.helpers.now c.args.names.now) c.loop-helper.index q.body.items c.insert.new.self.items q.source_type c.args.module_name.now c.as_str.result.now c.in-Some.helper.now c.next.new.self.a.rest.now c.loop-helper.helper-iterator.a.rest.now c.in-Some.name.now c.next.new.self.b.rest.now c.loop-helper.helper-iterator.b.rest.now c.in_ok-statement.statement
          now.0 now.1 c.in_ok-statement.ensures c.as_str.ensures.value c.in_ok-insert.ensures.items c.loop-helper.invariant.3,
    )

pub returns : goal.returns
returns c =
    let p = c.args.program in let e = c.open-program.result in let q = c.loop-helper.program in
    let m = c.args.module_name.now in let hs = c.args.helpers.now in let xs = c.args.names.now in
    let left = c.loop-helper.helper-iterator in
    let all = put-all c.imports_before-index.result e.body.items (statements_of q.source_type m hs xs) c.loop-helper.index q.body.items q.source_type m left.a.rest.now left.b.rest.now (c.imports_before-index.ensures ∙ ap imports_before c.as_slice.ensures.value)
    (elim c.in-None.ensures.steps [
      | inl d ↦ inl d.1.0
      | inr d ↦ inr d.1.0
    ]) c.loop-helper.invariant.3 in
    IfOk-weaker c.close.result (λ node. node ≡ plain_program q) (λ node. node ≡ with_top (trees (statements_of (source_type (is_module p)) m hs xs)) p) (λ node is. is ∙ closed-program e q p m hs xs c.loop-helper.invariant.2 c.open-program.ensures all) c.close.ensures
