use Rattle.std.proofs.Common.{◌∙◌, ap, bytes_eq}
use Rattle.std.specs.Prelude.{◌||◌, codes}
use Rattle.es_tree.specs.Fresh.{is_among}
use Rattle.es_tree.specs.Names.{names_of}
use Rattle.lower_fresh_names.proofs.WrittenNames.{names-used}
use Rattle.lower_fresh_names.proofs.new_generator.Goals as goal

pub returns-clause-in_use : goal.returns-clause-in_use
returns-clause-in_use c x =
    let first = c.in_ok-use_name.ensures.taken x ∙ ap (λ b. b || bytes_eq (codes "Math") x) (c.in_ok-uids.ensures.in_use x) in
    let second = c.in_ok-use_name-2.ensures.taken x ∙ ap (λ b. b || bytes_eq (codes "babelHelpers") x) first in
    let third = c.in_ok-use_name-3.ensures.taken x ∙ ap (λ b. b || bytes_eq (codes "require") x) second in
    third ∙ names-used (is_among (names_of c.args.program.now) x) (bytes_eq (codes "Math") x) (bytes_eq (codes "babelHelpers") x) (bytes_eq (codes "require") x)
