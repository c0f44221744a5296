use Rattle.std.proofs.Common.{not, ap}
use Rattle.es_static_rules.proofs.classes.is_bad_class.Goals as goal

pub returns-else-is_plain_key : goal.returns-else-is_plain_key
returns-else-is_plain_key c = λ earlier knows.
    rw (← c.node.view_is, c.in-PrivateIdentifier.is, ← c.if-not-is_class_key.ensures, ← c.if-is_plain_key.ensures, ← c.as_str.ensures.value)
    (ap not (c.is_declared_around.ensures earlier knows))
