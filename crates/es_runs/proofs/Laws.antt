-- The laws of place and of fresh names.
use Rattle.std.proofs.Common.{◌≡◌, refl, List, [], ◌∷◌, ◌++◌, ap, subst, sym, ◌∙◌, rules}
use Rattle.std.specs.Prelude.{Bool, true, false, bytes_eq, codes, if◌then◌else◌, not, ◌||◌}
use Rattle.es_tree.specs.Words.{Text}
use Rattle.es_tree.specs.Tree.{Tree, Trees, Label, trees}
use Rattle.es_runs.specs.Machine.{Value, M, is_set, ◌>>=◌, Cell, State, Stop, Result, Move}
use Rattle.es_runs.specs.Machine.State.{state}
use Rattle.es_runs.specs.Machine.Stop.{throws, waits, uncallable, cut, unknown, breaks, continues, out_of_turns, faults}
use Rattle.es_runs.specs.Machine.Result.{gives, stops}
use Rattle.es_runs.specs.Core.{World, Reference, is_free, value, typeof_value, meaning, meanings, in_order}
use Rattle.es_runs.specs.Core.Binding.{changeable, constant}
use Rattle.es_runs.specs.Core.Reference.{named, property, plain}
use Rattle.es_runs.specs.Alike.{Frame, set_cells, CellSeen, is_loose, Agree, Same, Alike, Equal, SameReference, SameWorld, Level, Need, Like, LikeAt, the_value, SameTarget, touches_nodes, bad_names}
use Rattle.es_runs.specs.Alike.Level.{no_evaluation, value_alone, an_operand_of_typeof, whole_reference, a_callee, a_target}
use Rattle.es_runs.specs.Alike.LikeCallee.{by_reference}
use Rattle.es_runs.specs.Alike.SameTarget.{target_name, target_property, target_plain}
use Rattle.es_runs.specs.Alike.Agree.{agree}
use Rattle.es_runs.specs.Alike.Same.{both_give, both_stop, outside, at_fault}
use Rattle.es_runs.specs.Alike.Equal.{equal}
use Rattle.es_runs.specs.Alike.SameReference.{same_name, same_property, same_plain}
use Rattle.es_tree.specs.Scopes.{Declared, declared_by, declared_in_body, declared_of}
use Rattle.es_runs.specs.Runs.{binding_of, first_cell, scope_of, cells_of, world_of, outcome, SameRun, is_declared, stands, only, var_statement, program, LawFresh, IsWorldOf, EvaluateAlike, Swaps, none_hidden, Swapped, LawPlace}
use Rattle.es_runs.specs.Runs.Outcome.{called_uncallable}
use Rattle.es_runs.specs.Runs.Swaps.{swaps}
use Rattle.es_runs.proofs.CoreWorlds.{core_world}
use Rattle.es_runs.proofs.WithoutAll.{run_assumed}
use Rattle.es_runs.proofs.Basic.{value_alike}
use Rattle.es_runs.proofs.Everywhere.{near_like, near_meanings}
use Rattle.es_runs.proofs.Lists.{in_order_alike}
use Rattle.es_runs.proofs.Congruence.{plain_like}
use Rattle.es_runs.proofs.MathWords.{unhidden_word}
use Rattle.es_runs.proofs.Fresh.{or_left, or_right, near_all}
use Rattle.std.proofs.lemmas.List.{append_assoc}
use Rattle.std.proofs.lemmas.Slice.Eq.{bytes_eq-Decides}

abbrev pub no_frame : Frame
no_frame = set_cells none_hidden

-- FROM STATES TO RUNS

stop_outcome : (w : Stop) (s t : State) → outcome (stops w t) ≡ outcome (stops w s)
stop_outcome (throws u) s t = refl
stop_outcome waits s t = refl
stop_outcome uncallable s t = refl
stop_outcome cut s t = refl
stop_outcome unknown s t = refl
stop_outcome (breaks l) s t = refl
stop_outcome (continues l) s t = refl
stop_outcome out_of_turns s t = refl
stop_outcome (faults z) s t = refl

strict_cell : (F : Frame) (x : Text) → F.faults_outside ≡ false → (c d : Cell) → CellSeen (is_loose F x) c d → d ≡ c
strict_cell F x k c d = rw k (λ h. h)

pub same_run : (F : Frame) → F.faults_outside ≡ false → (counts : Text → Bool) → ((x : Text) → counts x ≡ true → F.hidden x ≡ false) → {r q : Result Value} → (outcome r ≡ called_uncallable → ⊥) → Same F Equal r q → SameRun counts r q
same_run F strict counts ok callable (both_give equal (agree {c = c} {d = d} h g f)) = record { outcomes = refl; questions = refl; final_cells = λ x e. strict_cell F x strict (c x) (d x) (h x (ok x e)) }
same_run F strict counts ok callable (both_stop {w = w} {s = s} {t = t} (agree {c = c} {d = d} h g f)) = record { outcomes = stop_outcome w _ _; questions = refl; final_cells = λ x e. strict_cell F x strict (c x) (d x) (h x (ok x e)) }
same_run F strict counts ok callable outside = absurd (callable refl)
same_run F strict counts ok callable (at_fault h) = absurd (let no : F.faults_outside ≡ false = strict in cc (no, h))

-- PLACES

same_self : {A : Type 0} (r : Result A) → Same no_frame Equal r r
same_self (gives a (state c ms qs)) = both_give equal (agree (λ x e. refl) (λ x e. cc) (λ x e. cc))
same_self (stops w (state c ms qs)) = both_stop (agree (λ x e. refl) (λ x e. cc) (λ x e. cc))

same_reference_self : (r : Result Reference) → Same no_frame (SameReference no_frame) r r
same_reference_self (gives (named x) (state c ms qs)) = both_give (same_name refl) (agree (λ x e. refl) (λ x e. cc) (λ x e. cc))
same_reference_self (gives (property o k) (state c ms qs)) = both_give same_property (agree (λ x e. refl) (λ x e. cc) (λ x e. cc))
same_reference_self (gives (plain u) (state c ms qs)) = both_give same_plain (agree (λ x e. refl) (λ x e. cc) (λ x e. cc))
same_reference_self (stops w (state c ms qs)) = both_stop (agree (λ x e. refl) (λ x e. cc) (λ x e. cc))

same_target_self : (r : Result Reference) → Same no_frame (SameTarget no_frame) r r
same_target_self (gives (named x) (state c ms qs)) = both_give (target_name refl refl) (agree (λ x e. refl) (λ x e. cc) (λ x e. cc))
same_target_self (gives (property o k) (state c ms qs)) = both_give target_property (agree (λ x e. refl) (λ x e. cc) (λ x e. cc))
same_target_self (gives (plain u) (state c ms qs)) = both_give target_plain (agree (λ x e. refl) (λ x e. cc) (λ x e. cc))
same_target_self (stops w (state c ms qs)) = both_stop (agree (λ x e. refl) (λ x e. cc) (λ x e. cc))

same_states : {s t : State} → Agree no_frame s t → t ≡ s
same_states (agree {ms = ms} {qs = qs} h g f) = ap (λ c. state c ms qs) (λ i x. h x refl i)

values_agree : (m k : M Value) → ((s : State) → k s ≡ m s) → Alike no_frame Equal m k
values_agree m k h s t g = rw (same_states g, h s) (same_self (m s))

references_agree : (m k : M Reference) → ((s : State) → k s ≡ m s) → Alike no_frame (SameReference no_frame) m k
references_agree m k h s t g = rw (same_states g, h s) (same_reference_self (m s))

targets_agree : (m k : M Reference) → ((s : State) → k s ≡ m s) → Alike no_frame (SameTarget no_frame) m k
targets_agree m k h s t g = rw (same_states g, h s) (same_target_self (m s))

evaluation_agrees : (no_all : Bool) (ds : List Declared) (level : Level) (e d : Tree) → EvaluateAlike no_all ds level e d → (w : World) → IsWorldOf no_all ds w → LikeAt no_frame w w level (meaning w e) (meaning w d)
evaluation_agrees no_all ds no_evaluation e d h w is = tt
evaluation_agrees no_all ds value_alone e d h w is = values_agree (value w (meaning w e)) (value w (meaning w d)) (h w is)
evaluation_agrees no_all ds an_operand_of_typeof e d h w is = values_agree ((meaning w e).reference >>= typeof_value w) ((meaning w d).reference >>= typeof_value w) (h w is)
evaluation_agrees no_all ds whole_reference e d h w is = references_agree (meaning w e).reference (meaning w d).reference (h w is)
evaluation_agrees no_all ds a_callee e d h w is = by_reference (references_agree (meaning w e).reference (meaning w d).reference (h w is))
evaluation_agrees no_all ds a_target e d h w is = targets_agree (meaning w e).reference (meaning w d).reference (h w is)

same_world : (w : World) → SameWorld none_hidden w w
same_world w = record { scope = λ x e. refl; this = refl; counts = refl }

module _ (no_all : Bool) (ds : List Declared) (need : Need) (e d : Tree) (alike : EvaluateAlike no_all ds need.level e d) (form : (w : World) → IsWorldOf no_all ds w → need.form ≡ true → (meaning w d).form ≡ (meaning w e).form) where
  swaps_like : (w : World) → IsWorldOf no_all ds w → (n : Need) (a b : Tree) → Swaps need e d n a b → Like no_frame w w n (meaning w a) (meaning w b)
  swaps_like w is n a b swaps = record { evaluation = evaluation_agrees no_all ds need.level e d alike w is; form = form w is }

  swapped_alike : (w : World) → IsWorldOf no_all ds w → (p q : Tree) → Swapped need e d p q → Alike no_frame Equal (value w (meaning w p)) (value w (meaning w q))
  swapped_alike w is p q h = value_alike no_frame w w (same_world w) (meaning w p) (meaning w q) (near_like no_frame w w (same_world w) (record { other = is.other; spreads = is.spreads }) (record { other = is.other; spreads = is.spreads }) (Swaps need e d) (swaps_like w is) (λ n a b k. unhidden_word none_hidden (meaning w a).form refl) h).evaluation

agree_self : (s : State) → Agree no_frame s s
agree_self (state c ms qs) = agree (λ x e. refl) (λ x e. cc) (λ x e. cc)

pub law_place_proof : LawPlace
law_place_proof no_all need e d p q h alike form names this moves assumed callable =
    let ds : List Declared = declared_of p in
    let source = run_assumed no_all ds p this moves assumed in
    let target = run_assumed no_all ds q this moves assumed in
    rw (names, source, target) (same_run no_frame refl (is_declared ds) (λ x k. refl) (λ k. callable (ap outcome source ∙ k)) (swapped_alike no_all ds need e d alike form (world_of (not no_all) this ds) (record { scope = λ x. refl; counts = refl; other = λ t. refl; spreads = refl }) p q h _ _ (agree_self (state (cells_of ds) moves []))))

-- FRESH NAMES

bytes_eq-equal : (a b : Text) → bytes_eq a b ≡ true → a ≡ b
bytes_eq-equal a b h = search (rules, bytes_eq-Decides)

-- one `var` more among declared names
abbrev var_of : Text → Declared
var_of x = record { name = x; kind = codes "var" }

declared_between : (x : Text) (front back : List Tree) → declared_in_body (trees (front ++ var_statement x ∷ back)) ≡ declared_in_body (trees front) ++ var_of x ∷ declared_in_body (trees back)
declared_between x [] back = refl
declared_between x (t ∷ front) back = ap (λ ns. declared_by t ++ ns) (declared_between x front back) ∙ sym (append_assoc (declared_by t) (declared_in_body (trees front)) (var_of x ∷ declared_in_body (trees back)))

declared_both : (front back : List Tree) → declared_in_body (trees (front ++ back)) ≡ declared_in_body (trees front) ++ declared_in_body (trees back)
declared_both [] back = refl
declared_both (t ∷ front) back = ap (λ ns. declared_by t ++ ns) (declared_both front back) ∙ sym (append_assoc (declared_by t) (declared_in_body (trees front)) (declared_in_body (trees back)))

-- the other names are bound as before
other_scope : (x y : Text) → bytes_eq y x ≡ false → (ns ms : List Declared) → scope_of (ns ++ var_of x ∷ ms) y ≡ scope_of (ns ++ ms) y
other_scope x y e [] ms = rw e refl
other_scope x y e (d ∷ ns) ms = ap (λ b. if bytes_eq y d.name then binding_of d.kind else b) (other_scope x y e ns ms)

other_cells : (x y : Text) → bytes_eq y x ≡ false → (ns ms : List Declared) → cells_of (ns ++ var_of x ∷ ms) y ≡ cells_of (ns ++ ms) y
other_cells x y e [] ms = rw e refl
other_cells x y e (d ∷ ns) ms = ap (λ c. if bytes_eq y d.name then first_cell d.kind else c) (other_cells x y e ns ms)

-- and this one has a cell that is set, where it wasn't declared
own_cell : (x y : Text) → bytes_eq y x ≡ true → (ns ms : List Declared) → is_declared (ns ++ ms) y ≡ false → is_set (cells_of (ns ++ var_of x ∷ ms) y) ≡ true
own_cell x y e [] ms h = rw e refl
own_cell x y e (d ∷ ns) ms h = at (bytes_eq y d.name) refl (own_cell x y e ns ms)
  where
    bound_somehow : (b : Bool) → not (is_free (if b then constant else changeable)) ≡ false → ⊥
    bound_somehow true k = cc k
    bound_somehow false k = cc k

    at : (b : Bool) → bytes_eq y d.name ≡ b → (is_declared (ns ++ ms) y ≡ false → is_set (cells_of (ns ++ var_of x ∷ ms) y) ≡ true) → is_set (if bytes_eq y d.name then first_cell d.kind else cells_of (ns ++ var_of x ∷ ms) y) ≡ true
    at true i rest = absurd (bound_somehow (bytes_eq d.kind (codes "const")) (rw i at h))
    at false i rest = rw i (rest (rw i at h))

-- the statement itself asks nothing and changes nothing
silent_between : (w : World) (x : Text) (front back : List Tree) → in_order w (meanings w (trees (front ++ var_statement x ∷ back))) ≡ in_order w (meanings w (trees (front ++ back)))
silent_between w x [] back = refl
silent_between w x (t ∷ front) back = ap (λ m. value w (meaning w t) >>= λ u. m) (silent_between w x front back)

module _ (x : Text) (l : Label) (ds : Trees) (front back : List Tree) (nowhere : stands x (program l ds (trees (front ++ back))) ≡ false) (undeclared : is_declared (declared_of (program l ds (trees (front ++ back)))) x ≡ false) (this : Value) where
  abbrev body : Trees
  body = trees (front ++ back)

  abbrev more : Trees
  more = trees (front ++ var_statement x ∷ back)

  abbrev old_names : List Declared
  old_names = declared_of (program l ds body)

  abbrev new_names : List Declared
  new_names = declared_of (program l ds more)

  abbrev old_world : World
  old_world = world_of true this old_names

  abbrev new_world : World
  new_world = world_of true this new_names

  fresh_world : SameWorld (only x) old_world new_world
  fresh_world = record {
    scope = λ y e. rw (declared_between x front back, declared_both front back) (other_scope x y e (declared_in_body (trees front)) (declared_in_body (trees back)));
    this = refl;
    counts = refl;
  }

  abbrev bad_here : Level → Text → Bool
  bad_here = bad_names (only x) none_hidden

  not_in_body : touches_nodes bad_here the_value body ≡ false
  not_in_body = or_left (touches_nodes bad_here the_value body) false (or_right (touches_nodes bad_here the_value ds) (touches_nodes bad_here the_value body || false) nowhere)

  body_alike : Alike (set_cells (only x)) Equal (in_order old_world (meanings old_world body)) (in_order new_world (meanings new_world body))
  body_alike =
      in_order_alike (set_cells (only x)) old_world new_world fresh_world
      (near_meanings (set_cells (only x)) old_world new_world fresh_world (core_world _ _ _) (core_world _ _ _) (λ n a b. ⊥) (λ n a b e. absurd e) (λ n a b e. absurd e) (near_all bad_here (λ n a b. ⊥) body the_value not_in_body))

  more_alike : Alike (set_cells (only x)) Equal (in_order old_world (meanings old_world body)) (in_order new_world (meanings new_world more))
  more_alike = subst (Alike (set_cells (only x)) Equal (in_order old_world (meanings old_world body))) (sym (silent_between new_world x front back)) body_alike

  program_alike : Alike (set_cells (only x)) Equal (value old_world (meaning old_world (program l ds body))) (value new_world (meaning new_world (program l ds more)))
  program_alike = (plain_like (set_cells (only x)) old_world new_world fresh_world the_value (in_order old_world (meanings old_world body)) (in_order new_world (meanings new_world more)) more_alike).evaluation

  undeclared_here : (y : Text) → only x y ≡ true → is_declared (declared_in_body (trees front) ++ declared_in_body (trees back)) y ≡ false
  undeclared_here y e = let same : y ≡ x = bytes_eq-equal y x e in rw same (rw (declared_both front back) at undeclared)

  first_cells : (moves : List Move) → Agree (set_cells (only x)) (state (cells_of old_names) moves []) (state (cells_of new_names) moves [])
  first_cells moves = agree
      (λ y e. rw (declared_between x front back, declared_both front back) (other_cells x y e (declared_in_body (trees front)) (declared_in_body (trees back))))
      (λ y e. rw (declared_between x front back) (own_cell x y e (declared_in_body (trees front)) (declared_in_body (trees back)) (undeclared_here y e)))
      (λ y e. cc)

  counted_hides : (y : Text) → is_declared old_names y ≡ true → only x y ≡ false
  counted_hides y e = not_same (bytes_eq y x) refl
    where
      not_same : (b : Bool) → bytes_eq y x ≡ b → b ≡ false
      not_same false h = refl
      not_same true h = let k : y ≡ x = bytes_eq-equal y x h in absurd (let no : is_declared old_names y ≡ false = rw k undeclared in cc (no, e))

pub law_fresh_proof : LawFresh
law_fresh_proof x l ds front back nowhere undeclared this moves assumed callable =
    same_run (set_cells (only x)) refl (is_declared (declared_of (program l ds (trees (front ++ back))))) (counted_hides x l ds front back nowhere undeclared this) callable (program_alike x l ds front back nowhere undeclared this _ _ (first_cells x l ds front back nowhere undeclared this moves))
