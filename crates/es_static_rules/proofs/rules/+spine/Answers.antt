use Rattle.std.proofs.Common.{◌≡◌, ◌<◌, arith, option_copied, refl, sym, ap, ◌∙◌}
use Rattle.es_tree.specs.CoreStaticRules.{has_optional_in}
use Rattle.es_tree.specs.Tree.{tree_size, fields_of}
use Rattle.es_static_rules.specs.Parts.{has_optional_within}
use Rattle.es_static_rules.proofs.Spines.{optional_size, optional_smaller, has_optional_in-child}
use Rattle.es_static_rules.proofs.rules.+spine.Goals as goal

pub has_optional-has_optional_within-requires : goal.has_optional-has_optional_within-requires
has_optional-has_optional_within-requires t c =
    let smaller : optional_size (option_copied c.child_at.result) < tree_size c.args.node.now = rw c.child_at.ensures (optional_smaller 0 c.args.node.now) in
    (omega arith, tt)

pub has_optional-has_optional_within-requires-else-optional-2 :
    goal.has_optional-has_optional_within-requires-else-optional-2
has_optional-has_optional_within-requires-else-optional-2 t c =
    let smaller : optional_size (option_copied c.child_at-else-optional-2.result) < tree_size c.args.node.now =
    rw c.child_at-else-optional-2.ensures (optional_smaller 0 c.args.node.now) in
    (omega arith, tt)

pub has_optional-returns-else-optional : goal.has_optional-returns-else-optional
has_optional-returns-else-optional t c =
    let child : c.has_optional_within.result ≡ has_optional_in (fields_of c.args.node.now) =
    c.has_optional_within.ensures ∙ (ap has_optional_within c.child_at.ensures ∙ sym (has_optional_in-child (fields_of c.args.node.now))) in
    child ∙ rw (← c.node.view_is, c.in-MemberExpression.is, c.if-optional.false) refl

pub has_optional-returns-else-optional-2 : goal.has_optional-returns-else-optional-2
has_optional-returns-else-optional-2 t c =
    let child : c.has_optional_within-else-optional-2.result ≡ has_optional_in (fields_of c.args.node.now) =
    c.has_optional_within-else-optional-2.ensures ∙ (ap has_optional_within c.child_at-else-optional-2.ensures ∙ sym (has_optional_in-child (fields_of c.args.node.now))) in
    child ∙ rw (← c.node.view_is, c.in-CallExpression.is, c.if-optional-2.false) refl
