use Rattle.std.proofs.Common.{◌∙◌, ◌++◌, ◌∷◌, [], ap}
use Rattle.std.specs.Prelude.{string_bytes}
use Rattle.lower_fresh_names.specs.Names.{name_with}
use Rattle.lower_excluded_keys.specs.Parts.{declarator_with_name}
use Rattle.lower_excluded_keys.proofs.Making.{becomes-named}
use Rattle.lower_excluded_keys.proofs.constants.MadeConstants.share.Goals as goal

pub returns : goal.returns
returns c =
    let name = c.in_ok-name in
    becomes-named c.args.self.now (record { alloc = c.args.self.now.alloc; uids = c.generate.new.self; declarators = c.push.new.self }) c.args.list.now c.replace-keys.new.dest (string_bytes name.name) name.ensures.fresh name.ensures.taken name.ensures.made
    (c.in_ok-push.ensures.items ∙ ap (λ t. c.args.self.now.declarators.items ++ t ∷ []) (c.in_ok-declarator.ensures ∙ (λ i. declarator_with_name (c.as_str-2.ensures.value i) (c.replace-keys.ensures.value i))))
    (c.replace-keys.ensures.after ∙ c.in_ok-place.ensures ∙ ap (λ x. name_with 0 x) c.as_str.ensures.value)
