use Rattle.std.proofs.Common.{◌≡◌, ◌∙◌, false, List, None, String, map, sym, subst}
use Rattle.std.specs.Prelude.{string_bytes}
use Rattle.es_tree.specs.Constructs.{has_enabled_construct}
use Rattle.std.specs.declared.alloc.Global.{Global}
use Rattle.es_helper_calls.specs.Importing.{own_call}
use Rattle.lower_driver.specs.Lowers.{Lowers}
use Rattle.lower_driver.specs.Uses.{lowers_using}
use Rattle.lower_driver.proofs.Becomes.{stays-in-place}
use Rattle.lower_driver.proofs.Imported.{none-refused, none-unimporting}
use Rattle.lower_driver.proofs.Stages.{becomes-itself, finds-itself}
use Rattle.lower_driver.proofs.Used.{unasked-off}
use Rattle.lower_driver.proofs.NoneUnsupported.{none-unsupported, rests-none, spreads-none, using-none}
use Rattle.lower_driver.proofs.driver.lower_program.Goals as goal

pub returns-then-not-has_enabled_construct-clause-lowered : goal.returns-then-not-has_enabled_construct-clause-lowered
returns-then-not-has_enabled_construct-clause-lowered c =
    let o = c.args.options.now in
    let p = c.args.read.program in
    let none : has_enabled_construct o p ≡ false = sym c.has_enabled_construct.ensures ∙ c.if-not-has_enabled_construct.true in
    let unused = using-none o p none in
    let rests = rests-none o p none in
    let off = none-unimporting o (lowers_using o p) p (unasked-off o p unused) (spreads-none o p none) rests in
    let refused = none-refused o (lowers_using o p) (own_call o p) p (none-unsupported o p none) off in
    record {
      lowers = subst (λ (names : List (String Global)). Lowers o p p (map string_bytes names)) (sym c.new.ensures.items) (becomes-itself o p c.requires.form c.requires.kept unused rests off refused (stays-in-place o p c.requires.form c.requires.kept none));
      warnings = c.in_ok-warnings.ensures;
      taken = finds-itself o p None unused rests refused;
    }
