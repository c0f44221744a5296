-- Rows whose operands are whatever they are: logical assignment to a name, and exponentiation.
use Rattle.std.proofs.Common.{◌≡◌, refl, subst, List, [], ◌∷◌, ap, ◌∙◌}
use Rattle.std.specs.Prelude.{Bool, true, false, not, ◌&&◌, Option, Some, None, codes, bytes_eq, if◌then◌else◌}
use Rattle.es_tree.specs.Words.{Text}
use Rattle.es_tree.specs.Names.{first_text as first}
use Rattle.es_tree.specs.Scopes.{Declared}
use Rattle.es_tree.specs.Tree.{Tree, ◌then◌}
use Rattle.es_runs.specs.Core.{Binding, World, Meaning, value, get_value, put_value, name, assignment, goes_right, without_last, is_free}
use Rattle.es_runs.specs.Core.Silent.{keys_name, helper_name}
use Rattle.es_runs.specs.Core.Binding.{silent, free, changeable, constant}
use Rattle.es_runs.specs.Core.Reference.{named}
use Rattle.es_runs.specs.Machine.{Value, M, ◌>>=◌, return}
use Rattle.es_runs.specs.Machine.Values.{none, ◌and◌}
use Rattle.es_runs.specs.Machine.Question.{operator}
use Rattle.es_runs.specs.Machine.State.{state}
use Rattle.es_runs.specs.Alike.{Alike, Equal, SameWorld, Level, bad_names}
use Rattle.es_runs.specs.Alike.SameTarget.{target_name}
use Rattle.es_runs.specs.Alike.SameReference.{same_name}
use Rattle.es_runs.specs.Runs.{program, none_hidden, only, is_declared, scope_of}
use Rattle.es_runs.proofs.LogicalAssignment.{is_logically}
use Rattle.es_runs.proofs.Basic.{then_alike, return_alike, ask_alike, get_alike, put_alike}
use Rattle.es_runs.proofs.Congruence.{plain_like}
use Rattle.es_runs.proofs.Temporary.{plain_again, bytes_eq-flip}
use Rattle.es_statement_runs.specs.Helpers.{Supply}
use Rattle.es_statement_runs.specs.Helpers.Supply.{by_require, no_helpers, by_global, by_import, spread_by_global}
use Rattle.es_statement_runs.specs.Senses.{said_in, said_of, Sense, plain_sense}
use Rattle.es_statement_runs.proofs.Programs.{top_world, rows_run}
use Rattle.es_statement_runs.specs.Alike.{Told, SenseLike}
use Rattle.es_statement_runs.specs.Alike.MoreLike.{same_nothing}
use Rattle.es_statement_runs.specs.Names.{top_in, names_of_all}
use Rattle.es_statement_runs.specs.Kinds.{sense, kind_in, found}
use Rattle.es_statement_runs.specs.Calls.{assignment_by}
use Rattle.es_statement_runs.specs.Places.{placed_at, quiet_at, all_good, Take}
use Rattle.es_statement_runs.specs.Runs.{start_cells}
use Rattle.es_statement_runs.specs.Laws.{no_frame, nothing_bad, AssignRow, LawAssign, PowerRow, LawPower}
use Rattle.es_statement_runs.specs.Laws.AssignRow.{assign_row}
use Rattle.es_statement_runs.specs.Laws.PowerRow.{power_row}
use Rattle.es_statement_runs.proofs.Combinators.{choice_alike}
use Rattle.es_statement_runs.proofs.KindsAlike.{inner}
use Rattle.es_statement_runs.proofs.RunLaws.{nothing_quiet, nothing_stack, values_agree, agree_self, worlds_equal, SameRest}

-- WITH NOTHING HIDDEN

-- the helpers' names are seen
pub told_self : (bad : Level → Text → Bool) (u : Supply) → Told no_frame bad u
told_self bad no_helpers = tt
told_self bad spread_by_global = record { helpers = record { global = refl; require = refl }; names = λ n x h. refl }
told_self bad by_global = record { helpers = record { global = refl; require = refl }; names = λ n x h. refl }
told_self bad (by_import m) = record { helpers = record { global = refl; require = refl }; names = λ n x h. refl }
told_self bad (by_require m) = record { helpers = record { global = refl; require = refl }; names = λ n x h. refl }

-- what doesn't change is alike
pub alike_self : (m : M Value) → Alike no_frame Equal m m
alike_self m = values_agree m m (λ s. refl)

module _ (w v : World) (same : SameWorld none_hidden w v) where
  -- `x op= r`
  assign_alike : (y op : Text) (e e' : Meaning) → Alike no_frame Equal (value w e) (value v e') →
      Alike no_frame Equal (get_value w (named y) >>= λ g. if goes_right op g then (value w e >>= put_value w (named y)) else return g) (value v (name y) >>= λ g. if goes_right op g then value v (assignment v (codes "=") (name y) e') else return g)
  assign_alike y op e e' h = then_alike no_frame (get_alike no_frame w v same (same_name refl)) (λ g. choice_alike no_frame (goes_right op g) (λ s t a. rw (plain_again v) (then_alike no_frame h (λ u. put_alike no_frame w v same u (target_name refl refl)) s t a)) (return_alike no_frame g))

-- a name is no pattern, and no member of a stack
said_assignment : (w : World) (op : Text) (b : Binding) (e : Sense) (m : Meaning) → assignment_by w op (said_of b) e m ≡ plain_sense m
said_assignment w op free e m = refl
said_assignment w op changeable e m = refl
said_assignment w op constant e m = refl
said_assignment w op (silent (helper_name h)) e m = refl
said_assignment w op (silent (keys_name us)) e m = refl

plain_assignment : (u : Supply) (w : World) (op : Text) (b : Binding) (e : Sense) (m : Meaning) → assignment_by w op (said_in u b) e m ≡ plain_sense m
plain_assignment no_helpers w op b e m = refl
plain_assignment spread_by_global w op b e m = refl
plain_assignment by_global w op b e m = said_assignment w op b e m
plain_assignment (by_import t) w op b e m = said_assignment w op b e m
plain_assignment (by_require t) w op b e m = said_assignment w op b e m

module _ (o : Supply) where
  both : (r : Tree) (w v : World) → SameRest w v → SameWorld none_hidden w v → Alike no_frame Equal (value w (sense (placed_at o w [] []) r).core) (value v (sense (placed_at o v [] []) r).core)
  both r w v rest same = subst (λ (z : World). Alike no_frame Equal (value w (sense (placed_at o w [] []) r).core) (value z (sense (placed_at o z [] []) r).core)) (worlds_equal w v rest same) (alike_self (value w (sense (placed_at o w [] []) r).core))

  assign_like : (t : Take) (a b : Tree) → AssignRow t a b → (w v : World) → SameWorld none_hidden w v → SameRest w v → (ls : List Text) (x : Text) → SenseLike no_frame w v t (sense (placed_at o w ls x) a) (sense (placed_at o v ls x) b)
  assign_like t _ _ (assign_row {m = m} {l = l} {r = r} {op = op} texts assigns) w v same k ls x = rw (ap first texts, is_logically op assigns)
      (rw (plain_assignment o w op (w.scope (first l.texts)) _ _, plain_assignment o v (codes "=") (v.scope (first l.texts)) _ _) (record {
        core = plain_like no_frame w v same t.need _ _ (assign_alike w v same (first l.texts) (without_last op) (sense (placed_at o w [] []) r).core (sense (placed_at o v [] []) r).core (both r w v k same));
        more = λ _. same_nothing;
      }))

-- `l ** r`
power_like : (t : Take) (a b : Tree) → PowerRow t a b → (w v : World) → SameWorld none_hidden w v → (is_free (v.scope (codes "Math")) ≡ true) × SameRest w v → (ls : List Text) (x : Text) → SenseLike no_frame w v t (sense (quiet_at w ls x) a) (sense (quiet_at v ls x) b)
power_like t _ _ (power_row {m = m} {l = l} {r = r} texts first_plain second_plain) w v same k ls x = rw (ap first texts, k.0, first_plain v, second_plain v) (record {
  core = plain_like no_frame w v same t.need _ _ (then_alike no_frame (both no_helpers l w v k.1 same) (λ a. then_alike no_frame (both no_helpers r w v k.1 same) (λ b. ask_alike no_frame (operator (codes "**") (a and b and none)))));
  more = λ _. same_nothing;
})

abbrev math_bad : Level → Text → Bool
math_bad = bad_names none_hidden (only (codes "Math"))

below_math : (n : Level) (x : Text) → math_bad n x ≡ false → nothing_bad n x ≡ false
below_math n x h = none_bad n
  where
    none_bad : (n : Level) → nothing_bad n x ≡ false
    none_bad Level.no_evaluation = refl
    none_bad _ = refl

other_name : (b c : Bool) (k : Text) (rest : Option Text) → (not b && c) ≡ true → (c ≡ true → rest ≡ None) → (if b then Some k else rest) ≡ None
other_name true c k rest h g = absurd (cc h)
other_name false c k rest h g = g h

math_unseen : (ds : List Declared) → all_good math_bad (names_of_all ds) ≡ true → kind_in ds (codes "Math") ≡ None
math_unseen [] h = refl
math_unseen (d ∷ ds) h = rw (bytes_eq-flip (codes "Math") d.name) (other_name (bytes_eq d.name (codes "Math")) (all_good math_bad (names_of_all ds)) d.kind (kind_in ds (codes "Math")) h (math_unseen ds))

math_kept : (ds : List Declared) → all_good math_bad (names_of_all ds) ≡ true → (w v : World) → is_free (v.scope (codes "Math")) ≡ true → is_free ((inner v ds).scope (codes "Math")) ≡ true
math_kept ds h w v k = ap (λ (c : Option Text). is_free (found c (codes "Math") v.scope (codes "Math"))) (math_unseen ds h) ∙ k

not_not : (a : Bool) → not a ≡ false → a ≡ true
not_not true h = refl
not_not false h = absurd (cc h)

undeclared_free : (ds : List Declared) (x : Text) → is_declared ds x ≡ false → is_free (scope_of ds x) ≡ true
undeclared_free ds x h = not_not (is_free (scope_of ds x)) h

pub law_power_proof : LawPower
law_power_proof l ds body after rows tops uses undeclared =
    rows_run no_frame nothing_quiet nothing_stack math_bad below_math no_helpers l ds body after [] tt (λ w v. (is_free (v.scope (codes "Math")) ≡ true) × SameRest w v) (λ ds h w v k. (math_kept ds h w v k.0, record { other = k.1.other; spreads = k.1.spreads })) PowerRow power_like rows uses
    (top_world no_helpers none_hidden (program l ds body) (program l ds after) tops refl) (λ this. (rw tops (undeclared_free (top_in body) (codes "Math") undeclared), record { other = refl; spreads = refl })) (λ n moves. rw tops (agree_self (state (start_cells n (top_in body)) moves []))) (λ x e. refl)

pub law_assign_proof : LawAssign
law_assign_proof u l ds body after rows tops uses silents =
    rows_run no_frame nothing_quiet nothing_stack nothing_bad (λ n x h. h) u l ds body after [] (told_self nothing_bad u) SameRest (λ es vis w v k. record { other = k.other; spreads = k.spreads }) AssignRow (assign_like u) rows uses
    (top_world u none_hidden (program l ds body) (program l ds after) tops silents) (λ this. record { other = refl; spreads = refl }) (λ n moves. rw tops (agree_self (state (start_cells n (top_in body)) moves []))) (λ x e. refl)
