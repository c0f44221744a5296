use Rattle.std.proofs.Common.{[], Ok, Err, sym, ap}
use Rattle.es_tree.specs.Ancestors.{place_of, visits}
use Rattle.es_tree.specs.StaticRules.{breaks_after}
use Rattle.es_static_rules.proofs.Programs.{Checks-whole, Knows-none, outward-empty, passed_on}
use Rattle.es_static_rules.proofs.static_rules.check_program.Goals as goal

pub check_node-requires : goal.check_node-requires
check_node-requires c = sym (ap place_of (outward-empty c.new.result.items c.new.ensures.items))

pub returns-in_err-check_node : goal.returns-in_err-check_node
returns-in_err-check_node c = λ all knows_all.
    let program = c.args.program.now in
    let checks = Checks-whole {A = Unit {0}} c.args.pass.rules.now c.args.pass.all.now c.new-2.result c.check_node.new.walk.names c.new.result.items (Err c.in_err-check_node.field-0.0) program c.new.ensures.items c.in_err-check_node.ensures.checks in
    passed_on _ c.from_residual.result c.in_err-check_node.field-0.0 (breaks_after c.args.pass.rules.now all [] (visits [] 0 program)) c.from_residual.ensures.1 (checks all [] knows_all (Knows-none c.new-2.result c.new-2.ensures.empty)).0

pub returns : goal.returns
returns c = λ all knows_all.
    let checks = Checks-whole {A = Unit {0}} c.args.pass.rules.now c.args.pass.all.now c.new-2.result c.check_node.new.walk.names c.new.result.items (Ok c.in_ok-check_node.field-0) c.args.program.now c.new.ensures.items c.in_ok-check_node.ensures.checks in
    checks all [] knows_all (Knows-none c.new-2.result c.new-2.ensures.empty)
