use Rattle.std.proofs.Common.{[]}
use Rattle.es_tree.specs.Ancestors.{visits}
use Rattle.es_tree.specs.StaticRules.{all_names, breaks}
use Rattle.es_static_rules.proofs.Programs.{Knows-none, memory_alone, passed_by}
use Rattle.es_static_rules.proofs.static_rules.check_static.Goals as goal

pub returns-in_err-all-clause-err : goal.returns-in_err-all-clause-err
returns-in_err-all-clause-err c =
    let program = c.args.program.now in
    let e = c.in_err-all.field-0.0 in
    passed_by c.from_residual.result e (breaks program) c.from_residual.ensures.1
    (memory_alone [] [] (visits [] 0 program) (breaks program) e (c.in_err-all.ensures [] (Knows-none c.new-nothing.result c.new-nothing.ensures.empty)))

pub returns-in_err-_names-clause-err : goal.returns-in_err-_names-clause-err
returns-in_err-_names-clause-err c =
    let program = c.args.program.now in
    let gathered = c.in_ok-all.ensures [] (Knows-none c.new-nothing.result c.new-nothing.ensures.empty) in
    passed_by c.from_residual-in_err-_names.result c.in_err-_names.field-0.0 (breaks program) c.from_residual-in_err-_names.ensures.1 (c.in_err-_names.ensures (all_names program) gathered.1)

pub returns-clause-ok : goal.returns-clause-ok
returns-clause-ok c =
    let gathered = c.in_ok-all.ensures [] (Knows-none c.new-nothing.result c.new-nothing.ensures.empty) in
    (c.in_ok-_names.ensures (all_names c.args.program.now) gathered.1).0
