use Rattle.std.proofs.Common.{◌≡◌, map, refl, ap, ◌∙◌}
use Rattle.es_tree.specs.Fresh.{parts, joined, first_characters, longest_base, without_last_digits, without_underscores}
use Rattle.es_scope.proofs.Joined.{join_by-joined}
use Rattle.es_scope.proofs.base.base_of_node.Goals as goal

pub returns : goal.returns
returns c =
    let names : map (λ t. t.now) c.deref.result.now ≡ parts c.args.node.now = rw (c.deref.ensures.value, c.in_ok-push_parts.ensures, c.new-names.ensures.items) refl in
    let text = c.as_str.ensures.value ∙ (c.in_ok-joined.ensures.ok ∙ (join_by-joined c.deref.result.now ∙ ap joined names)) in
    let kept = c.first_characters-kept.ensures ∙ ap (first_characters longest_base) (c.without_underscores.ensures ∙ ap without_underscores text) in
    rw (← c.without_last_digits.ensures ∙ ap without_last_digits kept) c.or_ref.ensures
