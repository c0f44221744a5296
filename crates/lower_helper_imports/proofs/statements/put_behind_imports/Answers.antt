use Rattle.std.proofs.Common.{◌≡◌, ◌∙◌, ap, arith}
use Rattle.lower_helper_imports.specs.Parts.{imports_before}
use Rattle.lower_helper_imports.proofs.ImportPlaces.{imports-within}
use Rattle.lower_helper_imports.proofs.PutStatements.{put-behind}
use Rattle.lower_helper_imports.proofs.statements.put_behind_imports.Goals as goal

pub insert-requires : goal.insert-requires
insert-requires c =
    let body = c.args.program.now.body in
    let first : c.imports_before-index.result ≡ imports_before body.items = c.imports_before-index.ensures ∙ ap imports_before c.as_slice.ensures.value in
    omega (arith, first, imports-within body.items, body.ok.0)

pub returns : goal.returns
returns c =
    put-behind c.args.program.now c.insert.new.self c.args.statement c.imports_before-index.result (c.imports_before-index.ensures ∙ ap imports_before c.as_slice.ensures.value) c.in_ok-insert.ensures.items
