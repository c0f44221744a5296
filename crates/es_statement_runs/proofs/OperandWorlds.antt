-- What operands mean meets the premise of the core's rows on what isn't core.
use Rattle.std.proofs.Common.{◌≡◌, refl, List, [], ◌∷◌}
use Rattle.std.specs.Prelude.{Bool, true, false, Option, Some, None, codes, if◌then◌else◌}
use Rattle.es_tree.specs.Words.{Text}
use Rattle.es_tree.specs.Tree.{Tree, node, Label, Fields, done, ◌then◌, many, empty, ◌before◌, kind_of}
use Rattle.es_tree.specs.declared.ast_type.AstType.TheVariants.{TemplateElement, TemplateLiteral}
use Rattle.es_runs.specs.Alike.{Alike, Equal, Frame, Level, SameWorld, bad_names, kept_cells}
use Rattle.es_runs.specs.Core.{World, value}
use Rattle.es_runs.specs.Duplication.{is_cooked, is_plain_template}
use Rattle.es_runs.specs.Machine.{Value, Cell, Result, return, stop}
use Rattle.es_runs.specs.Machine.Value.{text}
use Rattle.es_runs.specs.Machine.Stop.{throws, faults, waits, uncallable, cut, unknown, breaks, continues, out_of_turns}
use Rattle.es_runs.proofs.Basic.{stop_alike}
use Rattle.es_runs.proofs.SameOthers.{AlwaysAlike, SameOthers}
use Rattle.es_runs.proofs.SameOthers.AlwaysAlike.{always_give, always_stop}
use Rattle.es_runs.proofs.Uncut.{Goes, NeverCut}
use Rattle.es_statement_runs.specs.Alike.{Quiet, StackSeen}
use Rattle.es_statement_runs.specs.Helpers.Supply.{no_helpers}
use Rattle.es_statement_runs.specs.Kinds.{sense}
use Rattle.es_statement_runs.specs.Meant.{as_role, is_meant_at, no_exits}
use Rattle.es_statement_runs.specs.Meant.Role.{a_value}
use Rattle.es_statement_runs.specs.Operands.{is_further_kind, is_settled}
use Rattle.es_statement_runs.specs.Places.{avoids, quiet_at, value_taken}
use Rattle.es_statement_runs.specs.Scopes.{is_own_cell, stack_cell}
use Rattle.es_statement_runs.proofs.Everywhere.{both_left, both_right, close_like, close_self}
use Rattle.es_statement_runs.proofs.Everywhere.PlaceLike.{place_like}
use Rattle.es_statement_runs.proofs.Fine.{Fine, Any, value_fine}
use Rattle.es_statement_runs.proofs.Fine.Fine.{fine_gives, fine_stops}
use Rattle.es_statement_runs.proofs.MeantProof.{tree_sound}
use Rattle.es_statement_runs.proofs.MeantProof.Spotted.{spotted}
use Rattle.es_statement_runs.proofs.MeantSenses.{HelperFree}
use Rattle.es_statement_runs.proofs.OperandMeanings.{told}

-- what means something, and nothing leaves, isn't cut short
fine_goes : {r : Result Value} → Fine false (no_exits false) Any r → Goes r
fine_goes (fine_gives q h) = tt
fine_goes (fine_stops {w = throws v} e h) = tt
fine_goes (fine_stops {w = faults v} e h) = tt
fine_goes (fine_stops {w = waits} e h) = tt
fine_goes (fine_stops {w = uncallable} e h) = tt
fine_goes (fine_stops {w = unknown} e h) = tt
fine_goes (fine_stops {w = breaks l} e h) = tt
fine_goes (fine_stops {w = continues l} e h) = tt
fine_goes (fine_stops {w = out_of_turns} e h) = tt
fine_goes (fine_stops {w = cut} e h) = absurd (cc e)

-- a template without expressions gives its text
record TemplateText (l : Label) (fs : Fields) : Type 0 where
  cooked : Text
  gives_it : (w : World) → value w (sense (quiet_at w [] []) (node TemplateLiteral l fs)).core ≡ return (text cooked)

template_text : (l : Label) (fs : Fields) → is_plain_template fs ≡ true → TemplateText l fs
template_text l (many (node TemplateElement m done before empty) then (many empty then done)) h = at m.texts refl h
  where
    at : (ts : List (Option Text)) → m.texts ≡ ts → is_cooked ts ≡ true → TemplateText l (many (node TemplateElement m done before empty) then (many empty then done))
    at (raw ∷ Some t ∷ []) e k = record { cooked = t; gives_it = λ w. rw e refl }
    at (raw ∷ None ∷ []) e k = absurd (cc k)
    at [] e k = absurd (cc k)
    at (raw ∷ []) e k = absurd (cc k)
    at (raw ∷ (u ∷ (v ∷ ts))) e k = absurd (cc k)
template_text l _ h = absurd (cc h)

module _ (hidden frozen : Text → Bool) (math : hidden (codes "Math") ≡ false) (apart : (y : Text) → is_own_cell y ≡ true → (hidden y ≡ false) × (frozen y ≡ false)) (w v : World) (same : SameWorld hidden w v) (free_v : HelperFree v) where
  abbrev bad : Level → Text → Bool
  bad = bad_names hidden frozen

  abbrev K : (Text → Cell) → Frame
  K d = kept_cells hidden frozen d

  quiet_here : (d : Text → Cell) → Quiet (K d)
  quiet_here d = record { own_seen = λ y e i. record { hidden = (apart y e).0; frozen = (apart y e).1; loose = refl }; math = math }

  stack_here : (d : Text → Cell) → StackSeen (K d)
  stack_here d = record { hidden = (apart stack_cell refl).0; frozen = (apart stack_cell refl).1; loose = refl }

  operand_alike : (d : Text → Cell) (t : Tree) → avoids bad value_taken t ≡ true → Alike (K d) Equal (value w (sense (quiet_at w [] []) t).core) (value v (sense (quiet_at v [] []) t).core)
  operand_alike d t h =
      (close_like (K d) (quiet_here d) (stack_here d) bad (λ n x k. k) no_helpers tt (λ u z. Unit {0}) (λ ds g u z k. tt) (λ n a b. ⊥) (λ n a b e. absurd e) (close_self bad (λ n a b. ⊥) t value_taken h) (place_like {ls = []} {x = []} same tt)).core.evaluation

  told_alike : (d : Text → Cell) (t : Tree) → Alike (K d) Equal ((told bad w).other t) ((told bad v).other t)
  told_alike d t = at (is_settled bad t) refl
    where
      at : (b : Bool) → is_settled bad t ≡ b → Alike (K d) Equal (if b then value w (sense (quiet_at w [] []) t).core else stop unknown) (if b then value v (sense (quiet_at v [] []) t).core else stop unknown)
      at true e = operand_alike d t (both_left (avoids bad value_taken t) _ (both_right (is_further_kind (kind_of t)) _ e))
      at false e = stop_alike (K d) unknown

  told_again : (l : Label) (fs : Fields) → is_plain_template fs ≡ true → AlwaysAlike ((told bad w).other (node TemplateLiteral l fs)) ((told bad v).other (node TemplateLiteral l fs))
  told_again l fs h = at (is_settled bad (node TemplateLiteral l fs)) (template_text l fs h)
    where
      at : (b : Bool) → TemplateText l fs → AlwaysAlike (if b then value w (sense (quiet_at w [] []) (node TemplateLiteral l fs)).core else stop unknown) (if b then value v (sense (quiet_at v [] []) (node TemplateLiteral l fs)).core else stop unknown)
      at true t = always_give (t.gives_it w) (t.gives_it v)
      at false t = always_stop refl refl

  told_uncut : (t : Tree) → NeverCut ((told bad v).other t)
  told_uncut t = at (is_settled bad t) refl
    where
      at : (b : Bool) → is_settled bad t ≡ b → NeverCut (if b then value v (sense (quiet_at v [] []) t).core else stop unknown)
      at true e s =
          let meant : is_meant_at no_helpers (as_role a_value false) [] [] t ≡ true = both_right (avoids bad value_taken t) _ (both_right (is_further_kind (kind_of t)) _ e) in
          fine_goes (value_fine v (sense (quiet_at v [] []) t).core (tree_sound no_helpers t (as_role a_value false) [] [] meant (spotted {w = v} free_v)).reference s tt)
      at false e s = tt

  pub told_others : SameOthers hidden frozen (told bad w) (told bad v)
  told_others = record { alike = λ d n t h. told_alike d t; again = told_again; uncut = λ t h. told_uncut t; spreads = refl }
