-- The steps of the derived programs.
use Rattle.std.proofs.Common.{arith, ◌≡◌, ℕ, inl, inr, refl, List, [], ◌∷◌}
use Rattle.std.specs.Prelude.{Bool, true, false, Some, codes}
use Rattle.es_tree.specs.Tree.{Tree, trees}
use Rattle.es_tree.specs.declared.options.EnvOptions.{EnvOptions}
use Rattle.es_semantic.specs.RolesOf.{reads}
use Rattle.es_resolution.specs.Declarations.{Bound, declared}
use Rattle.es_runs.specs.Rules.{binary_node}
use Rattle.es_steps.specs.DerivedPrograms.{arrow_source, arrow_first, arrow_second, arrow_reached, arrow_result, called, name, number, member, coalesce, checked, stored, with_vars_of, first_whole, nothing_written, outer_written, parameter_source, math_source, catch_source, class_source, slot_source, slot_temporary, slot_reached, Derives, LawDerivedPrograms}
use Rattle.es_steps.specs.Exponentiation.{power_at, ExponentiationRule}
use Rattle.es_steps.specs.Exponentiation.ExponentiationRule.{power, power_assignment}
use Rattle.es_steps.specs.Nodes.{made, word, body_node, return_node}
use Rattle.es_steps.specs.NullishCoalescing.NullishCoalescingRule.{with_temporary, reading_again}
use Rattle.es_steps.specs.Slots.{holds}
use Rattle.es_steps.specs.Steps.Step.{acts, inside}
use Rattle.es_steps.specs.Steps.FieldsStep.{in_first, in_later}
use Rattle.es_steps.specs.Steps.FieldStep.{in_child, in_children, in_body, in_program, in_target, in_list, acts_on_body}
use Rattle.es_steps.specs.Steps.TreesStep.{in_head, in_tail}
use Rattle.es_steps.specs.Steps.Steps.{stays, goes}
use Rattle.es_steps.specs.Steps.{Whole, Site}
use Rattle.es_steps.specs.Rules.Replacing.{replaces}
use Rattle.es_steps.specs.Rules.Writing.{body_declarators}
use Rattle.es_steps.specs.WrapRule.{called_arrow, is_wrapped_for}
use Rattle.es_steps.specs.WrapRule.WrapRule.{wraps}
use Rattle.es_steps.proofs.Checked.{is_resolved-sound}

parameter : (o : EnvOptions) → let e = coalesce (name (codes "x") 1) (number (codes "1")) in Derives o (parameter_source e) (first_whole (parameter_source e) 2 nothing_written) [] (parameter_source (checked (name (codes "x") 1) (name (codes "x") 1) (number (codes "1"))))
parameter o =
    let e = coalesce (name (codes "x") 1) (number (codes "1")) in
    let u = checked (name (codes "x") 1) (name (codes "x") 1) (number (codes "1")) in
    record {
      resolved = is_resolved-sound (parameter_source e) refl;
      steps = goes (inside (in_later (in_first (in_program refl (in_head (inside (in_later (in_later (in_first (in_child (inside (in_later (in_first (in_target refl (in_head (inside (in_first (in_child (acts e u (inr (inr (inr (inl (inl (replaces [] (record { rule = reading_again refl refl; outside = refl })))))))))))))))))))))))))) stays;
    }

math : (o : EnvOptions) → let e = binary_node (codes "**") (number (codes "2")) (number (codes "3")) in Derives o (math_source e) (first_whole (math_source e) 3 nothing_written) [] (math_source (power_at (made [] []) (number (codes "2")) (number (codes "3"))))
math o =
    let e = binary_node (codes "**") (number (codes "2")) (number (codes "3")) in
    let u = power_at (made [] []) (number (codes "2")) (number (codes "3")) in
    record {
      resolved = is_resolved-sound (math_source e) refl;
      steps = goes (inside (in_later (in_first (in_program refl (in_tail (in_head (inside (in_later (in_later (in_first (in_child (inside (in_later (in_first (in_target refl (in_head (inside (in_first (in_child (acts e u (inr (inr (inr (inr (replaces [] (record { rule = power (record { unbound = refl; in_use = refl }) refl refl refl; outside = refl })))))))))))))))))))))))))) stays;
    }

catching : (o : EnvOptions) → let e = coalesce (name (codes "e") 0) (number (codes "1")) in Derives o (catch_source e) (first_whole (catch_source e) 1 nothing_written) [] (catch_source (checked (name (codes "e") 0) (name (codes "e") 0) (number (codes "1"))))
catching o =
    let e = coalesce (name (codes "e") 0) (number (codes "1")) in
    let u = checked (name (codes "e") 0) (name (codes "e") 0) (number (codes "1")) in
    record {
      resolved = is_resolved-sound (catch_source e) refl;
      steps = goes (inside (in_later (in_first (in_program refl (in_head (inside (in_later (in_first (in_child (inside (in_later (in_first (in_child (inside (in_first (in_list refl refl (in_head (inside (in_first (in_child (acts e u (inr (inr (inr (inl (inl (replaces [] (record { rule = reading_again refl refl; outside = refl })))))))))))))))))))))))))))) stays;
    }

class_name : (o : EnvOptions) → let e = coalesce (name (codes "C") 1) (number (codes "1")) in Derives o (class_source e) (first_whole (class_source e) 2 outer_written) [] (class_source (checked (name (codes "C") 1) (name (codes "C") 1) (number (codes "1"))))
class_name o =
    let e = coalesce (name (codes "C") 1) (number (codes "1")) in
    let u = checked (name (codes "C") 1) (name (codes "C") 1) (number (codes "1")) in
    record {
      resolved = is_resolved-sound (class_source e) refl;
      steps = goes (inside (in_later (in_first (in_program refl (in_head (inside (in_later (in_later (in_first (in_children (in_head (inside (in_later (in_first (in_child (inside (in_later (in_later (in_first (in_child (inside (in_later (in_first (in_target refl (in_head (inside (in_first (in_child (acts e u (inr (inr (inr (inl (inl (replaces [] (record { rule = reading_again refl refl; outside = refl })))))))))))))))))))))))))))))))))))) stays;
    }

-- what stands in the body declares nothing
silent_first : (v : Bool) → declared v reads (coalesce (coalesce (called (word (codes "f"))) (called (word (codes "g")))) (number (codes "1"))) ≡ []
silent_first true = refl
silent_first false = refl

silent_second : (v : Bool) → declared v reads (stored arrow_first (coalesce (called (word (codes "f"))) (called (word (codes "g")))) (number (codes "1"))) ≡ []
silent_second true = refl
silent_second false = refl

silent_third : (v : Bool) → declared v reads arrow_result ≡ []
silent_third true = refl
silent_third false = refl

arrow : (o : EnvOptions) → Derives o arrow_source (first_whole arrow_source 0 nothing_written) (arrow_first ∷ arrow_second ∷ []) arrow_reached
arrow o = record {
  resolved = is_resolved-sound arrow_source refl;
  steps = goes (inside (in_later (in_first (in_program refl (in_head (inside (in_first (in_child (inside (in_later (in_first (in_body refl (record { no_body = refl; no_import = refl; declares_nothing = silent_first }) (record { no_body = refl; no_import = refl; declares_nothing = silent_second }) (acts (coalesce (coalesce (called (word (codes "f"))) (called (word (codes "g")))) (number (codes "1"))) (stored arrow_first (coalesce (called (word (codes "f"))) (called (word (codes "g")))) (number (codes "1"))) (inr (inr (inr (inl (inl (replaces (arrow_first ∷ []) (record { rule = with_temporary refl refl (record { fresh = record { number = 0; name = refl; free = refl; first = λ m h. absurd (omega arith) }; symbol = refl }); outside = refl })))))))))))))))))))) (goes (inside (in_later (in_first (in_program refl (in_head (inside (in_first (in_child (inside (in_later (in_first (in_body refl (record { no_body = refl; no_import = refl; declares_nothing = silent_second }) (record { no_body = refl; no_import = refl; declares_nothing = silent_third }) (inside (in_first (in_child (inside (in_first (in_child (inside (in_first (in_child (inside (in_later (in_first (in_child (acts (coalesce (called (word (codes "f"))) (called (word (codes "g")))) (stored arrow_second (called (word (codes "f"))) (called (word (codes "g")))) (inr (inr (inr (inl (inl (replaces (arrow_second ∷ []) (record { rule = with_temporary refl refl (record { fresh = record { number = 0; name = refl; free = refl; first = λ m h. absurd (omega arith) }; symbol = refl }); outside = refl }))))))))))))))))))))))))))))))))) (goes (inside (in_later (in_first (in_program refl (in_head (inside (in_first (in_child (inside (in_later (in_first (acts_on_body arrow_result (body_node (trees (with_vars_of (arrow_first ∷ arrow_second ∷ []) (return_node arrow_result ∷ [])))) (inl body_declarators))))))))))))) stays));
}

silent_slot : (v : Bool) → declared v reads (coalesce (member (word (codes "b")) (codes "c")) (number (codes "1"))) ≡ []
silent_slot true = refl
silent_slot false = refl

silent_stored : (v : Bool) → declared v reads (stored slot_temporary (member (word (codes "b")) (codes "c")) (number (codes "1"))) ≡ []
silent_stored true = refl
silent_stored false = refl

wrapped : (o : EnvOptions) → o.es2020.nullish_coalescing_operator ≡ true → holds (is_wrapped_for o) (coalesce (member (word (codes "b")) (codes "c")) (number (codes "1"))) ≡ true
wrapped o on = rw on

slot : (o : EnvOptions) → o.es2020.nullish_coalescing_operator ≡ true → let e = coalesce (member (word (codes "b")) (codes "c")) (number (codes "1")) in Derives o (slot_source e) (first_whole (slot_source e) 2 nothing_written) (slot_temporary ∷ []) (slot_source slot_reached)
slot o on = record {
  resolved = is_resolved-sound (slot_source (coalesce (member (word (codes "b")) (codes "c")) (number (codes "1")))) refl;
  steps = goes (inside (in_later (in_first (in_program refl (in_head (inside (in_later (in_first (in_children (in_head (inside (in_later (in_first (in_child (acts (coalesce (member (word (codes "b")) (codes "c")) (number (codes "1"))) (called_arrow (coalesce (member (word (codes "b")) (codes "c")) (number (codes "1")))) (inr (inl (wraps refl (record { no_body = refl; no_import = refl; declares_nothing = silent_slot }) refl (wrapped o on))))))))))))))))))) (goes (inside (in_later (in_first (in_program refl (in_head (inside (in_later (in_first (in_children (in_head (inside (in_later (in_first (in_child (inside (in_first (in_child (inside (in_later (in_first (in_body refl (record { no_body = refl; no_import = refl; declares_nothing = silent_slot }) (record { no_body = refl; no_import = refl; declares_nothing = silent_stored }) (acts (coalesce (member (word (codes "b")) (codes "c")) (number (codes "1"))) (stored slot_temporary (member (word (codes "b")) (codes "c")) (number (codes "1"))) (inr (inr (inr (inl (inl (replaces (slot_temporary ∷ []) (record { rule = with_temporary refl refl (record { fresh = record { number = 0; name = refl; free = refl; first = λ m h. absurd (omega arith) }; symbol = refl }); outside = refl }))))))))))))))))))))))))))))) (goes (inside (in_later (in_first (in_program refl (in_head (inside (in_later (in_first (in_children (in_head (inside (in_later (in_first (in_child (inside (in_first (in_child (inside (in_later (in_first (acts_on_body (stored slot_temporary (member (word (codes "b")) (codes "c")) (number (codes "1"))) (body_node (trees (with_vars_of (slot_temporary ∷ []) (return_node (stored slot_temporary (member (word (codes "b")) (codes "c")) (number (codes "1"))) ∷ [])))) (inl body_declarators)))))))))))))))))))))) stays));
}

math-bound : (n : Site) (s : ℕ) (w : Whole) (bs : List Bound) (t u : Tree) → n.names.scope (codes "Math") ≡ Some s → ExponentiationRule n w bs t u → ⊥
math-bound n s w bs t u e (power math texts left right) = absurd (cc (e, math.unbound))
math-bound n s w bs t u e (power_assignment math texts right alone h) = absurd (cc (e, math.unbound))

pub law_derived_programs_proof : LawDerivedPrograms
law_derived_programs_proof o = record { arrow = arrow o; parameter = parameter o; math = math o; math_bound = λ w bs t u h. math-bound _ 2 w bs t u refl h; catching = catching o; class_name = class_name o; slot = slot o }
