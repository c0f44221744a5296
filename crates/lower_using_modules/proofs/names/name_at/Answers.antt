use Rattle.std.proofs.Common.{◌∙◌, sym}
use Rattle.std.proofs.lemmas.Bool.{ltb-false, ltb-true}
use Rattle.lower_using_modules.proofs.ModuleNames.{name-found, name-missing}
use Rattle.lower_using_modules.proofs.names.name_at.Goals as goal

pub returns-in-Some : goal.returns-in-Some
returns-in-Some c =
    c.as_str.ensures.value ∙ sym (name-found c.args.names.now c.args.index c.in-Some.name.now (ltb-true _ _ (sym c.in-Some.ensures.lookup.0)) c.in-Some.ensures.lookup.1)

pub returns-in-None : goal.returns-in-None
returns-in-None c = sym (name-missing c.args.names.now c.args.index (ltb-false _ _ (sym c.in-None.ensures.lookup.0)))
