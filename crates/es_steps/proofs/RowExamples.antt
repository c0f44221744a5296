-- The example rows hold.
use Rattle.std.proofs.Common.{arith, ◌≡◌, refl, List, [], ◌∷◌}
use Rattle.std.specs.Prelude.{false, codes}
use Rattle.es_tree.specs.Tree.{Tree, label_of}
use Rattle.es_resolution.specs.Declarations.{Bound}
use Rattle.es_steps.specs.Duplication.IsDuplicated.{read_again, by_temporary as by_temporary_twice}
use Rattle.es_steps.specs.Exponentiation.Holds.{where_it_is, in_temporary as in_temporary_held}
use Rattle.es_steps.specs.Exponentiation.TargetTwice.{bound_name, static_member, private_member}
use Rattle.es_steps.specs.Exponentiation.ExponentiationRule.{power_assignment}
use Rattle.es_steps.specs.LogicalAssignment.LogicalAssignmentRule.{to_name, to_static_member, to_computed_member}
use Rattle.es_steps.specs.NullishCoalescing.NullishCoalescingRule.{with_temporary, reading_again}
use Rattle.es_steps.specs.OptionalChaining.Receives.{by_this, by_name, by_temporary}
use Rattle.es_steps.specs.OptionalChaining.Tested.{as_name, in_temporary}
use Rattle.es_steps.specs.OptionalChaining.Called.{by_first_member}
use Rattle.es_steps.specs.OptionalChaining.Walked.{base, plain_member, marked_member, marked_call}
use Rattle.es_steps.specs.OptionalChaining.Continued.{same_spine}
use Rattle.es_steps.specs.OptionalChaining.BoundCallee.{to_object}
use Rattle.es_steps.specs.OptionalChaining.OptionalChainingRule.{by_tests, as_callee, in_delete}
use Rattle.es_steps.specs.RowExamples.{assigned, member, o, y, private_name, Assigns, LawRowExamples}

-- no assignment to a private member is a place
no-private : (bs : List Bound) (u : Tree) → Assigns bs (assigned (codes "||=") (member false o (private_name (codes "p"))) y) u → ⊥
no-private bs u (to_name texts known alone d) = absurd (cc d)
no-private bs u (to_static_member texts known alone d flags twice) = absurd (cc d)
no-private bs u (to_computed_member {l = l} texts known alone d flags twice key_twice) = let e : false ∷ false ∷ [] ≡ l.flags = (λ i. (label_of (d i)).flags) in absurd (cc (e, flags))

pub law_row_examples_proof : LawRowExamples
law_row_examples_proof = record {
  steady_name = reading_again refl refl;
  written_name = with_temporary refl refl (record { fresh = record { number = 0; name = refl; free = refl; first = λ m h. absurd (omega arith) }; symbol = refl });
  unbound_object = by_tests refl (marked_member refl (same_spine refl (base refl refl)) (in_temporary (λ e. refl) refl (record { fresh = record { number = 0; name = refl; free = refl; first = λ m h. absurd (omega arith) }; symbol = refl }))) refl;
  private_chain = by_tests refl (marked_member refl (same_spine refl (base refl refl)) (as_name refl refl)) refl;
  marked_method = by_tests refl (marked_call refl (same_spine refl (plain_member refl (base refl refl))) (by_first_member refl refl refl (record { fresh = record { number = 0; name = refl; free = refl; first = λ m h. absurd (omega arith) }; symbol = refl }) (by_temporary refl refl (record { fresh = record { number = 0; name = refl; free = refl; first = λ m h. absurd (omega arith) }; symbol = refl })))) refl;
  super_method = by_tests refl (marked_call refl (same_spine refl (plain_member refl (base refl refl))) (by_first_member refl refl refl (record { fresh = record { number = 0; name = refl; free = refl; first = λ m h. absurd (omega arith) }; symbol = refl }) (by_this refl))) refl;
  deleted = in_delete refl refl refl (marked_member refl (same_spine refl (base refl refl)) (in_temporary (λ e. refl) refl (record { fresh = record { number = 0; name = refl; free = refl; first = λ m h. absurd (omega arith) }; symbol = refl }))) refl;
  bound_callee = as_callee refl (marked_member refl (same_spine refl (base refl refl)) (in_temporary (λ e. refl) refl (record { fresh = record { number = 0; name = refl; free = refl; first = λ m h. absurd (omega arith) }; symbol = refl }))) refl (to_object refl (by_name refl refl));
  to_a_name = to_name refl refl refl refl;
  to_super = to_static_member refl refl refl refl refl (read_again refl);
  to_member = to_static_member refl refl refl refl refl (by_temporary_twice refl (record { fresh = record { number = 0; name = refl; free = refl; first = λ m h. absurd (omega arith) }; symbol = refl }));
  to_private = no-private;
  private_power = power_assignment (record { unbound = refl; in_use = refl }) refl refl refl (private_member refl (in_temporary_held refl (record { fresh = record { number = 0; name = refl; free = refl; first = λ m h. absurd (omega arith) }; symbol = refl })));
  super_power = power_assignment (record { unbound = refl; in_use = refl }) refl refl refl (static_member refl (where_it_is refl));
  name_power = power_assignment (record { unbound = refl; in_use = refl }) refl refl refl (bound_name refl);
}
