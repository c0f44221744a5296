use Rattle.std.proofs.Common.{◌∙◌, false, sym, true}
use Rattle.es_tree.specs.Tree.{label_of, many, trees}
use Rattle.es_tree.specs.declared.table.Sort.TheVariants.{Program as s-Program}
use Rattle.es_resolution.specs.Seen.{seen, seen_among}
use Rattle.es_semantic.specs.RolesOf.{reads}
use Rattle.es_statements.specs.ProgramPlain.{plain_program}
use Rattle.lower_temporaries.specs.SeenTrees.{no_bindings}
use Rattle.lower_temporaries.specs.Takings.{moment_of}
use Rattle.lower_arrows.proofs.Programs.{none-left, program-lowered}
use Rattle.lower_arrows.proofs.SeenFits.{any-seen-among, form-seen, this-seen}
use Rattle.lower_arrows.proofs.lower_arrows.Goals as goal

pub returns-clause-lowered : goal.returns-clause-lowered
returns-clause-lowered c names =
    let p = c.args.program.now in
    program-lowered (moment_of c.args.ctx.now) (moment_of c.lower_list.new.ctx) (label_of (seen names (plain_program p))) (many (seen_among names (trees p.directives.items))) (seen_among names (trees p.body.items)) (seen_among names (trees c.lower_list.new.statements.items))
    (form-seen names s-Program (plain_program p) ∙ c.requires.formed) (this-seen names reads false true (plain_program p) ∙ c.requires.fits) (c.in_ok-lower_list.ensures.walked names)

pub returns-clause-none : goal.returns-clause-none
returns-clause-none c =
    let p = c.args.program.now in
    none-left (label_of (plain_program p)) (trees p.directives.items) (trees p.body.items) (trees c.lower_list.new.statements.items) c.requires.formed
    (sym (any-seen-among no_bindings (trees c.lower_list.new.statements.items)) ∙ (c.in_ok-lower_list.ensures.walked no_bindings).arrows)
