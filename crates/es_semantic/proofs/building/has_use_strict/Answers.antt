use Rattle.es_semantic.proofs.Directives.{first_directives}
use Rattle.es_semantic.proofs.building.has_use_strict.Goals as goal

pub returns-in-Some-Many : goal.returns-in-Some-Many
returns-in-Some-Many c =
    rw (← c.program.view_is, ← c.deref.ensures.value, c.some_use_strict.ensures, c.deref-in-Some-Many.ensures.value)
    (first_directives c.deref.result.now c.in-Some-Many.field-0.now c.in-Some-Many.directives c.in-Some-Many.ensures.value c.in-Some-Many.field-0-is)
