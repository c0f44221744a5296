use Rattle.es_tree.specs.Tree.{label_of, trees}
use Rattle.es_resolution.specs.Seen.{seen, seen_among}
use Rattle.es_statements.specs.ProgramPlain.{plain_program}
use Rattle.lower_temporaries.specs.Takings.{moment_of}
use Rattle.lower_nodes.proofs.Alike.{alike-seen-among}
use Rattle.lower_node_walk.proofs.Programs.{program-paid, program-walked}
use Rattle.lower_node_walk.proofs.walk_nodes.Goals as goal

pub returns-clause-paid : goal.returns-clause-paid
returns-clause-paid g c =
    let p = c.args.program.now in
    program-paid (g.T.NodeLowering.profile c.args.ctx.now.options) (g.met.T.NodeLowering.lawful c.args.lowering.now c.args.ctx.now.options) (label_of (plain_program p)) (trees p.directives.items) (trees p.body.items) (trees c.walk_list.new.nodes.items) (moment_of c.args.ctx.now) (moment_of c.walk_list.new.ctx)
    c.in_ok-walk_list.ensures.alike c.in_ok-walk_list.ensures.paid

pub returns-clause-walked : goal.returns-clause-walked
returns-clause-walked g c names =
    let p = c.args.program.now in
    let profile = g.T.NodeLowering.profile c.args.ctx.now.options in
    let law = g.met.T.NodeLowering.lawful c.args.lowering.now c.args.ctx.now.options in
    program-walked profile law (label_of (seen names (plain_program p))) (seen_among names (trees p.directives.items)) (seen_among names (trees p.body.items)) (seen_among names (trees c.walk_list.new.nodes.items)) (moment_of c.args.ctx.now) (moment_of c.walk_list.new.ctx)
    (c.in_ok-walk_list.ensures.walked names) (alike-seen-among profile.changes names law.classes.0 law.classes.1 c.in_ok-walk_list.ensures.alike)
