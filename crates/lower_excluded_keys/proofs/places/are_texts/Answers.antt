use Rattle.std.proofs.Common.{◌∙◌, rules, tests}
use Rattle.std.proofs.lemmas.Iterator.{YieldsList-from_slice}
use Rattle.std.proofs.lemmas.Iterator.Search.{all_from_yields_List}
use Rattle.es_tree.specs.Views.{plain_field}
use Rattle.lower_excluded_keys.specs.Parts.{is_text}
use Rattle.lower_excluded_keys.proofs.Calls.{all-texts}
use Rattle.lower_excluded_keys.proofs.places.are_texts.Goals as goal

pub returns : goal.returns
returns c =
    all_from_yields_List (λ f. is_text (plain_field f)) _ _ _ c.all.ensures.ran (YieldsList-from_slice c.args.fields.now cc) (λ x b q k. search (rules, tests)) ∙ all-texts c.args.fields.now
