use Rattle.std.proofs.Common.{◌∙◌, map, subst}
use Rattle.std.specs.Prelude.{false, string_bytes}
use Rattle.es_tree.specs.Bare.{bare}
use Rattle.es_statements.specs.ProgramPlain.{plain_program}
use Rattle.es_steps.specs.CoreBridge.{first_whole}
use Rattle.es_excluded_keys.specs.ExcludedKeys.{Shares}
use Rattle.lower_helper_imports.proofs.OpenedProgram.{program_opens}
use Rattle.lower_excluded_keys.specs.Sharing.{Becomes}
use Rattle.lower_excluded_keys.proofs.Programs.{program-shared, shares-to}
use Rattle.lower_excluded_keys.proofs.share_keys.Goals as goal

pub open-program-requires : goal.open-program-requires
open-program-requires c = program_opens c.args.program c.requires.form

pub returns : goal.returns
returns c =
    let e = c.open-program.result in
    let a = c.in_ok-constants.constants in
    let b = c.share_in_list.new.constants in
    let d = c.share_in_list-2.new.constants in
    let ds = c.share_in_list.new.nodes in
    let bs = c.share_in_list-2.new.nodes in
    let u = plain_program (record e { directives = ds; body = bs }) in
    record {
      shares = shares-to (first_whole c.args.program).in_use a d c.args.program u c.in_ok-program.program (map string_bytes c.into_made.result.items) c.in_ok-constants.ensures.in_use c.in_ok-constants.ensures.none_made c.in_ok-constants.ensures.none_declared
          (subst (λ v. Becomes (Shares false v) bare a d u) c.open-program.ensures (program-shared e ds bs a b d c.in_ok-share_in_list.ensures c.in_ok-share_in_list-2.ensures)) (c.in_ok-program.ensures ∙ c.in_ok-declare.ensures) c.into_made.ensures;
    }
