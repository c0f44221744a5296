use Rattle.std.proofs.Common.{◌∙◌, ap, sym}
use Rattle.std.specs.Prelude.{◌==◌}
use Rattle.std.proofs.lemmas.Result.{on_ok_weaker}
use Rattle.es_tree.specs.Tree.{empty, ◌before◌}
use Rattle.es_statements.specs.ProgramPlain.{plain_program}
use Rattle.es_top_imports.specs.TopImports.{with_top}
use Rattle.lower_excluded_keys.proofs.Programs.{declared-none, declared-some}
use Rattle.lower_excluded_keys.proofs.constants.declare.Goals as goal

pub returns-then-is_empty : goal.returns-then-is_empty
returns-then-is_empty c =
    let ds = c.args.declarators in
    declared-none ds.items (plain_program c.args.program.now) (sym (c.is_empty.ensures ∙ ap (λ n. n == 0) ds.ok.0) ∙ c.if-is_empty.true)

pub returns : goal.returns
returns c =
    let ds = c.args.declarators in
    let p = plain_program c.args.program.now in
    on_ok_weaker c.put_behind_imports.result
    (λ h. declared-some ds.items p (plain_program c.put_behind_imports.new.program) (sym (c.is_empty.ensures ∙ ap (λ n. n == 0) ds.ok.0) ∙ c.if-is_empty.false) (h ∙ ap (λ t. with_top (t before empty) p) c.in_ok-close.ensures))
    c.put_behind_imports.ensures
