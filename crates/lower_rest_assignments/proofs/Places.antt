-- What the ancestors of a context say of the value of an expression is so at each site to which they lead.
use Rattle.std.proofs.Common.{◌≡◌, List, refl}
use Rattle.std.specs.Prelude.{◌&&◌, ◌||◌}
use Rattle.es_scope.specs.declared.ancestor.Ancestor.{Ancestor}
use Rattle.es_steps.specs.RestAssignments.{is_unused}
use Rattle.es_steps.specs.Steps.{Site}
use Rattle.es_changes.specs.Fits.{LeadTo}
use Rattle.es_changes.specs.Fits.LeadTo.{to_body, to_field, to_program}
use Rattle.lower_rest_assignments.specs.Unused.{is_parenthesis, is_statement, is_unused as is_unused_at}

pub alike-unused : {xs : List Ancestor} {n : Site} → LeadTo xs n → is_unused n.above ≡ is_unused_at xs
alike-unused to_program = refl
alike-unused (to_field a l fs d) = λ i. is_statement a || (is_parenthesis a && alike-unused d i)
alike-unused (to_body p e d) = alike-unused d
