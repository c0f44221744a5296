use Rattle.std.proofs.Common.{◌∙◌, ap, map, subst, sym}
use Rattle.es_tree.specs.Bare.{bare}
use Rattle.lower_stores.specs.Insertions.{StandsAmong}
use Rattle.lower_stores.specs.TopLevel.{behind_imports}
use Rattle.lower_stores.proofs.TopLevelLemmas.{among-behind_imports, bare-behind_imports}
use Rattle.lower_stores.proofs.top_level_statements.TopLevelStatementsStore.insert_into_program.Goals as goal

pub returns-clause-written : goal.returns-clause-written
returns-clause-written c =
    let ss = c.args.program.now.body.items in
    let ts = c.self.inside.stmts.items in
    ap (map bare) c.in_ok-put_behind_imports.ensures.written ∙ bare-behind_imports ts ss ∙ ap (λ ts. behind_imports ts (map bare ss)) c.self.view_is

pub returns-clause-among : goal.returns-clause-among
returns-clause-among c =
    let ss = c.args.program.now.body.items in
    subst (StandsAmong ss) (sym c.in_ok-put_behind_imports.ensures.written) (among-behind_imports c.self.inside.stmts.items ss)
