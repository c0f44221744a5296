-- A step of a row that declares its temporaries by `var`: the program runs as before, where the two sides of the row are alike.
use Rattle.std.proofs.Common.{◌≡◌, inl, inr, ℕ, refl, sym, ap, subst, ◌∙◌, List, [], ◌∷◌, ◌++◌}
use Rattle.std.proofs.lemmas.List.{append-nil}
use Rattle.std.proofs.lemmas.Slice.Eq.{bytes_eq-Decides}
use Rattle.std.specs.Prelude.{◌⊎◌, Bool, true, false, not, ◌&&◌, ◌||◌, Option, Some, None, is_some, bytes_eq, codes, if◌then◌else◌}
use Rattle.es_tree.specs.Scopes.{Declared, declares}
use Rattle.es_tree.specs.Tree.{Tree, Label, Trees, ◌then◌, done, many, statements}
use Rattle.es_tree.specs.Words.{Text}
use Rattle.es_runs.specs.Alike.{Agree, Frame, Level, SameWorld, bad_names, the_value}
use Rattle.es_runs.specs.Alike.Level.{a_target}
use Rattle.es_runs.specs.Alike.Agree.{agree}
use Rattle.es_runs.specs.Core.{Binding, World, is_free}
use Rattle.es_runs.specs.Core.Binding.{changeable, free}
use Rattle.es_runs.specs.Machine.{Cell, Move, Value, is_set}
use Rattle.es_runs.specs.Machine.Cell.{holds}
use Rattle.es_runs.specs.Machine.OwnValue.{count}
use Rattle.es_runs.specs.Machine.Value.{own}
use Rattle.es_runs.specs.Machine.State.{state}
use Rattle.es_runs.specs.Runs.{cells_of, is_declared, none_hidden, program, scope_of}
use Rattle.es_semantic.specs.RolesOf.{reads}
use Rattle.es_resolution.specs.Declarations.{Bound}
use Rattle.es_resolution.specs.Named.{Named}
use Rattle.es_resolution.specs.Resolved.{Resolved}
use Rattle.es_steps.specs.CoreBridge.{names_among}
use Rattle.es_steps.specs.Steps.{Ledger, Site, Spot, Whole}
use Rattle.es_statement_runs.specs.Alike.{Quiet, SenseLike, StackSeen}
use Rattle.es_statement_runs.specs.Helpers.{Supply, entry, helper_names, silent_names}
use Rattle.es_statement_runs.specs.Helpers.Supply.{no_helpers, by_global, by_import, by_require, spread_by_global}
use Rattle.es_statement_runs.specs.Kinds.{found, kind_in, sense}
use Rattle.es_statement_runs.specs.Laws.{among_names, is_silent}
use Rattle.es_statement_runs.specs.Names.{declared_at_top, names_of_all, top_in, var_names_all}
use Rattle.es_statement_runs.specs.Places.{SupplySeen, Take, all_good, avoids, avoids_trees, placed_at, take, value_taken}
use Rattle.es_statement_runs.specs.Runs.{RunAlike, program_scope, world_where, silent_or, start_cells}
use Rattle.es_statement_runs.specs.Scopes.{stack_cell, turns_cell}
use Rattle.es_statement_runs.proofs.RunLaws.{SameRest}
use Rattle.es_statement_runs.proofs.WithoutAll.{under_assumption}
use Rattle.es_statement_runs.proofs.BareVars.{MoreDeclared, Unsaid, beside_like, beside_run_where, cell_by, kinds_kept, kinds_made, said_alike_from, self_beside, top_bound, top_cell, top_worlds, unsaid_inside, unsaid_programs}
use Rattle.es_statement_runs.proofs.BareVars.Places.{both_at}
use Rattle.es_statement_runs.proofs.TopVars.{temporaries_apart}
use Rattle.es_statement_runs.proofs.Everywhere.{both_left, both_right, not_so}
use Rattle.es_statement_runs.proofs.KindsAlike.{inner}
use Rattle.es_statement_runs.proofs.MeantProof.{entered_free as no_helper_inside, top_free}
use Rattle.es_statement_runs.proofs.MeantSenses.{HelperFree}
use Rattle.es_statement_runs.proofs.Moved.{BothMute, list_beside, tops_more, using_list}
use Rattle.es_statement_steps.proofs.FoundNames.{Bounds, Finds, bounds_top, bytes_turned, entered_free}
use Rattle.es_statement_steps.proofs.FreshNames.{top_used, unused_avoids}
use Rattle.es_statement_steps.proofs.TopNames.{hoisted_top}
use Rattle.es_statement_steps.proofs.MadeNames.{all_made, made_math, made_program_names, made_supply}
use Rattle.es_statement_steps.proofs.ProgramMoves.{MovedProgram, ProgramWent}
use Rattle.es_statement_steps.proofs.StepMoves.{Acted, AllDeclared, AreNew, Fine, NodeRule, both-mute, sent, taken_at}

-- THE TWO WORLDS of a place where the scopes around declare ds: the made names are changeable names of the second, where they are declared by `var`; the
-- names ds alone are bound in the first; made names stand for no helper; both count `document.all` where a value may be it; and no
-- name stands for a helper

pub record WorldsKnown (no_all hoisted : Bool) (xs : List Text) (ds : List Declared) (w v : World) : Type 0 where
  pub temporaries : hoisted ≡ true → (x : Text) → among_names xs x ≡ true → v.scope x ≡ changeable
  pub bound : Bounds ds w
  pub unsaid : Unsaid (among_names xs) w v
  pub rest : SameRest w v
  pub counts : w.counts_all ≡ not no_all
  pub free : HelperFree w
  pub free_after : HelperFree v

-- the cells of names that are declared by `var` are set, and of others nothing is known
abbrev pub fits_where : Bool → Cell → Type 0
fits_where true d = is_set d ≡ true
fits_where false d = Unit {0}

abbrev pub temporaries_frame : Bool → List Text → Frame
temporaries_frame hoisted xs = record { hidden = among_names xs; fits = λ c x d. fits_where hoisted d; frozen = λ x. false; keeps = λ x d. Unit {0}; faults_outside = false; loose = λ x. false; steady = λ c e h x k d g. g }

abbrev pub bad_temporaries : List Text → Level → Text → Bool
bad_temporaries xs = bad_names (among_names xs) none_hidden

-- what scopes of other names keep
unseen : (xs : List Text) (es : List Declared) → all_good (bad_temporaries xs) (names_of_all es) ≡ true → (x : Text) → among_names xs x ≡ true → kind_in es x ≡ None
unseen xs [] h x e = refl
unseen xs (d ∷ es) h x e = at (bytes_eq x d.name) refl (unseen xs es (both_right (not (bad_temporaries xs a_target d.name)) (all_good (bad_temporaries xs) (names_of_all es)) h) x e)
  where
    at : (b : Bool) → bytes_eq x d.name ≡ b → kind_in es x ≡ None → (if b then Some d.kind else kind_in es x) ≡ None
    at false g k = k
    at true g k =
        let same : x ≡ d.name = (bytes_eq-Decides x d.name).0 g in
        let bad : (among_names xs d.name || false) ≡ false = not_so (bad_temporaries xs a_target d.name) (both_left (not (bad_temporaries xs a_target d.name)) (all_good (bad_temporaries xs) (names_of_all es)) h) in
        let good : among_names xs d.name ≡ true = ap (among_names xs) (sym same) ∙ e in
        absurd (let no : true ≡ false = sym (ap (λ b. b || false) good) ∙ bad in cc no)

pub known-inside : (no_all hoisted : Bool) (xs : List Text) (ds es : List Declared) → all_good (bad_temporaries xs) (names_of_all es) ≡ true → (w v : World) → WorldsKnown no_all hoisted xs ds w v → WorldsKnown no_all hoisted xs (es ++ ds) (inner w es) (inner v es)
known-inside no_all hoisted xs ds es good w v k = record {
  temporaries = λ b x e. ap (λ (c : Option Text). found c x v.scope x) (unseen xs es good x e) ∙ k.temporaries b x e;
  bound = λ x. entered_free es ds w.scope x (k.bound x);
  unsaid = unsaid_inside (among_names xs) es w v k.unsaid;
  rest = record { other = k.rest.other; spreads = k.rest.spreads };
  counts = k.counts;
  free = no_helper_inside no_helpers es w [] [] k.free;
  free_after = no_helper_inside no_helpers es v [] [] k.free_after;
}

-- WHAT A ROW OWES: wherever it acts, its two sides are alike

pub record KeepsRuns (no_all : Bool) (u : Supply) (hoisted : Bool) (A : List Bound → Site → Whole → Tree → Tree → Type 0) : Type 0 where
  pub alike : (new : List Bound) (n : Site) (whole : Whole) (a b : Tree) → A new n whole a b → (t : Take) → t ≡ taken_at n.above → (ds : List Declared) → Resolved n.role n.names a → Finds ds n.names → Fine a → avoids (bad_temporaries (names_among new)) t a ≡ true →
      Quiet (temporaries_frame hoisted (names_among new)) → StackSeen (temporaries_frame hoisted (names_among new)) → SupplySeen (temporaries_frame hoisted (names_among new)) u →
      (w v : World) → SameWorld (among_names (names_among new)) w v → WorldsKnown no_all hoisted (names_among new) ds w v → (ls : List Text) (x : Text) →
      SenseLike (temporaries_frame hoisted (names_among new)) w v t (sense (placed_at u w ls x) a) (sense (placed_at u v ls x) b)

-- a part that stays is alike
pub part-like : (no_all : Bool) (u : Supply) (hoisted : Bool) (xs : List Text) → Quiet (temporaries_frame hoisted xs) → StackSeen (temporaries_frame hoisted xs) → SupplySeen (temporaries_frame hoisted xs) u → (w v : World) → SameWorld (among_names xs) w v → (ds : List Declared) → WorldsKnown no_all hoisted xs ds w v →
    (t : Take) (a : Tree) → avoids (bad_temporaries xs) t a ≡ true → (ls : List Text) (x : Text) → SenseLike (temporaries_frame hoisted xs) w v t (sense (placed_at u w ls x) a) (sense (placed_at u v ls x) a)
part-like no_all u hoisted xs quiet stack seen w v same ds known t a h ls x =
    beside_like (temporaries_frame hoisted xs) quiet stack (bad_temporaries xs) (λ n x h. h) u seen (WorldsKnown no_all hoisted xs) (λ ds w v same k. said_alike_from (temporaries_frame hoisted xs) u w v same k.unsaid) (λ ds es good w v k. known-inside no_all hoisted xs ds es good w v k)
    (λ ds t a b. ⊥) (λ ds t a b e. absurd e) (self_beside (bad_temporaries xs) (λ ds t a b. ⊥) a ds t h) (both_at same known)

-- THE RUN

pub not-new : (w : Whole) (new : List Bound) → AreNew w new → (x : Text) → w.in_use x ≡ true → among_names (names_among new) x ≡ false
not-new w new h x e = at (among_names (names_among new) x) refl
  where
    at : (b : Bool) → among_names (names_among new) x ≡ b → b ≡ false
    at false g = refl
    at true g = absurd (let no : false ≡ true = sym (h.free x g) ∙ e in cc no)

-- the names by which a program gets its helpers are seen in frames that hide the same names
pub supply-seen : (u : Supply) (hoisted : Bool) (xs : List Text) → all_made xs ≡ true → SupplySeen (temporaries_frame hoisted xs) u
supply-seen no_helpers hoisted xs h = tt
supply-seen spread_by_global hoisted xs h = let s = made_supply by_global xs h in record { global = s.global; require = s.require }
supply-seen by_global hoisted xs h = let s = made_supply by_global xs h in record { global = s.global; require = s.require }
supply-seen (by_import m) hoisted xs h = let s = made_supply by_global xs h in record { global = s.global; require = s.require }
supply-seen (by_require m) hoisted xs h = let s = made_supply by_global xs h in record { global = s.global; require = s.require }

declared-is : (ds : List Declared) (x : Text) → is_free (scope_of ds x) ≡ not (declares ds x)
declared-is ds x = ap is_free (top_bound ds x) ∙ entered-top ds x
  where
    entered-top : (ds : List Declared) (x : Text) → is_free (found (kind_in ds x) x (λ z. free) x) ≡ not (declares ds x)
    entered-top ds x = entered_free ds [] (λ z. free) x refl ∙ ap (λ es. not (declares es x)) (append-nil ds)

-- WHAT A STEP LEAVES: the program runs as before, and what its top declared is declared

pub record StepAlike (no_all : Bool) (u : Supply) (x y : Tree) : Type 0 where
  pub runs : RunAlike u no_all x y
  pub declared : (z : Text) → is_declared (declared_at_top x) z ≡ true → is_declared (declared_at_top y) z ≡ true

run-self : (no_all : Bool) (u : Supply) (x : Tree) → RunAlike u no_all x x
run-self no_all u x n this moves assumed t ms inside = record { outcomes = refl; questions = refl; final_cells = λ y e i. refl }

pub unchanged : (no_all : Bool) (u : Supply) (x y : Tree) → x ≡ y → StepAlike no_all u x y
unchanged no_all u x y e = subst (λ (z : Tree). StepAlike no_all u x z) e (record { runs = run-self no_all u x; declared = λ z h. h })

-- a step that leaves this without the assumption leaves it under it
pub alike-under : (no_all : Bool) (u : Supply) (x y : Tree) → StepAlike false u x y → StepAlike no_all u x y
alike-under no_all u x y h = record { runs = under_assumption no_all u x y h.runs; declared = h.declared }

pub undeclared-kind : (ds : List Declared) (x : Text) → declares ds x ≡ false → kind_in ds x ≡ None
undeclared-kind [] x h = refl
undeclared-kind (d ∷ ds) x h = at (bytes_eq x d.name) (bytes_eq d.name x) (bytes_turned x d.name) h (undeclared-kind ds x)
  where
    at : (b c : Bool) → b ≡ c → (c || declares ds x) ≡ false → (declares ds x ≡ false → kind_in ds x ≡ None) → (if b then Some d.kind else kind_in ds x) ≡ None
    at true true e h k = absurd (cc h)
    at false false e h k = k h
    at true false e h k = absurd (cc e)
    at false true e h k = absurd (cc e)

declared-kind : (ds : List Declared) (x : Text) → declares ds x ≡ true → kind_in ds x ≡ None → ⊥
declared-kind [] x h e = absurd (cc h)
declared-kind (d ∷ ds) x h e = at (bytes_eq x d.name) (bytes_eq d.name x) (bytes_turned x d.name) h e (declared-kind ds x)
  where
    at : (b c : Bool) → b ≡ c → (c || declares ds x) ≡ true → (if b then Some d.kind else kind_in ds x) ≡ None → (declares ds x ≡ true → kind_in ds x ≡ None → ⊥) → ⊥
    at true c g h e k = absurd (cc e)
    at false false g h e k = k h e
    at false true g h e k = absurd (cc g)

pub false-where : (b : Bool) → (b ≡ true → ⊥) → b ≡ false
false-where true h = absurd (h refl)
false-where false h = refl

-- a cell of a `var` at the start
var-cell : (ds : List Declared) (x : Text) → kind_in ds x ≡ Some (codes "var") → is_set (cells_of ds x) ≡ true
var-cell ds x h = ap is_set (top_cell ds x) ∙ ap (λ c. is_set (cell_by c)) h

-- where no name is silent none stands for a helper
first-none : {X : Type 0} (xs ys : List X) → xs ++ ys ≡ [] → xs ≡ []
first-none [] ys h = refl
first-none (x ∷ xs) ys h = absurd (cc h)

none-named : (counts : Bool) (u : Supply) (p : Tree) → silent_names u p ≡ [] → (this : Value) → HelperFree (world_where counts u this p)
none-named counts no_helpers p h this = top_free counts no_helpers p this refl
none-named counts spread_by_global p h this = top_free counts spread_by_global p this refl
none-named counts by_global p h this = top_free counts by_global p this refl
none-named counts (by_import m) p h this = top_free counts (by_import m) p this (first-none (helper_names (by_import m) p) _ h)
none-named counts (by_require m) p h this = top_free counts (by_require m) p this (first-none (helper_names (by_require m) p) _ h)

module _ (no_all : Bool) (u : Supply) (Q : Site → Ledger → Spot → Ledger → Spot → Type 0) (A : List Bound → Site → Whole → Tree → Tree → Type 0) (law : NodeRule Q A) (keeps : KeepsRuns no_all u law.hoisted A)
    (whole : Whole) (l : Label) (ds body after : Trees) (new : List Bound) (are_new : AreNew whole new) (moved : MovedProgram Q A law new body after) (declared : AllDeclared (sent law.hoisted new) (var_names_all after))
    (named : Named whole.in_use whole.free_symbol reads (program l ds body)) (fine : Fine (program l ds body)) (fine_after : Fine (program l ds after)) (silent : silent_names u (program l ds body) ≡ []) (silent_after : silent_names u (program l ds after) ≡ []) where
  abbrev xs : List Text
  xs = names_among new

  abbrev hoisted : Bool
  hoisted = law.hoisted

  abbrev F : Frame
  F = temporaries_frame hoisted xs

  mute : (es : List Declared) (t : Take) (a b : Tree) → Acted A new es t a b → BothMute xs a b
  mute = both-mute Q A law new

  away : (x : Text) → whole.in_use x ≡ true → among_names xs x ≡ false
  away x e = not-new whole new are_new x e

  quiet : Quiet F
  quiet = record { own_seen = λ y e i. record { hidden = temporaries_apart xs (made_program_names xs are_new.names) y e; frozen = refl; loose = refl }; math = made_math xs are_new.names }

  stack : StackSeen F
  stack = record { hidden = temporaries_apart xs (made_program_names xs are_new.names) stack_cell refl; frozen = refl; loose = refl }

  seen : SupplySeen F u
  seen = supply-seen u hoisted xs are_new.names

  avoid : avoids_trees (bad_temporaries xs) (take the_value true) body ≡ true
  avoid =
      let whole_so : (avoids_trees (bad_temporaries xs) (take the_value true) ds && (avoids_trees (bad_temporaries xs) (take the_value true) body && true)) ≡ true =
      unused_avoids whole.in_use whole.free_symbol (among_names xs) away reads value_taken (program l ds body) (λ e. absurd (cc e)) named fine in
      both_left (avoids_trees (bad_temporaries xs) (take the_value true) body) true (both_right (avoids_trees (bad_temporaries xs) (take the_value true) ds) (avoids_trees (bad_temporaries xs) (take the_value true) body && true) whole_so)

  -- where a row acted, in a node that avoids the new names
  abbrev ActedAway : List Declared → Take → Tree → Tree → Type 0
  ActedAway es t a b = Acted A new es t a b × (avoids (bad_temporaries xs) t a ≡ true)

  row-like : (es : List Declared) (t : Take) (a b : Tree) → ActedAway es t a b → (w v : World) → SameWorld (among_names xs) w v → WorldsKnown no_all hoisted xs es w v → (ls : List Text) (x : Text) → SenseLike F w v t (sense (placed_at u w ls x) a) (sense (placed_at u v ls x) b)
  row-like es t a b h w v same known ls x = keeps.alike new h.0.site h.0.whole a b h.0.rule t h.0.taken es h.0.resolved h.0.found h.0.stood h.1 quiet stack seen w v same known ls x

  tops-more : MoreDeclared (codes "var") xs (top_in body) (top_in after)
  tops-more = tops_more xs (Acted A new) mute moved

  undeclared : (x : Text) → among_names xs x ≡ true → declares (top_in body) x ≡ false
  undeclared x e = false-where (declares (top_in body) x) (λ d. absurd (let yes : whole.in_use x ≡ true = top_used whole.in_use whole.free_symbol l (many ds then (statements body then done)) fine named x d in let no : false ≡ true = sym (are_new.free x e) ∙ yes in cc no))

  declared-after : hoisted ≡ true → (x : Text) → among_names xs x ≡ true → declares (top_in after) x ≡ true
  declared-after hoists x e = hoisted_top x l ds after fine_after (subst (λ (b : Bool). AllDeclared (sent b new) (var_names_all after)) hoists declared x e)

  by-var : hoisted ≡ true → (x : Text) → among_names xs x ≡ true → kind_in (top_in after) x ≡ Some (codes "var")
  by-var hoists x e = at (kinds_made (codes "var") xs tops-more x (undeclared-kind (top_in body) x (undeclared x e)))
    where
      at : (kind_in (top_in after) x ≡ None) ⊎ (kind_in (top_in after) x ≡ Some (codes "var")) → kind_in (top_in after) x ≡ Some (codes "var")
      at (inl n) = absurd (declared-kind (top_in after) x (declared-after hoists x e) n)
      at (inr k) = k

  scope-after : hoisted ≡ true → (x : Text) → among_names xs x ≡ true → program_scope u (program l ds after) x ≡ changeable
  scope-after hoists x e = ap (λ es. silent_or (entry es x) (scope_of (top_in after) x)) silent_after ∙ top_bound (top_in after) x ∙ ap (λ c. found c x (λ z. free) x) (by-var hoists x e)

  silents : silent_names u (program l ds after) ≡ silent_names u (program l ds body)
  silents = silent_after ∙ sym silent

  known : (this : Value) → WorldsKnown no_all hoisted xs (top_in body) (world_where (not no_all) u this (program l ds body)) (world_where (not no_all) u this (program l ds after))
  known this = record {
    temporaries = scope-after;
    bound = bounds_top u this (program l ds body) (λ x e. absurd (let no : false ≡ true = sym (ap (λ es. is_some (entry es x)) silent) ∙ e in cc no));
    unsaid = unsaid_programs u xs (program l ds body) (program l ds after) silents (λ y e. ap (λ es. is_silent es y) silent) this;
    rest = record { other = refl; spreads = refl };
    counts = refl;
    free = none-named (not no_all) u (program l ds body) silent this;
    free_after = none-named (not no_all) u (program l ds after) silent_after this;
  }

  apart : (x : Text) → is_declared (top_in body) x ≡ true → among_names xs x ≡ false
  apart x e = false-where (among_names xs x) (λ m. absurd (let d : is_declared (top_in body) x ≡ false = ap not (declared-is (top_in body) x) ∙ (λ i. not (not (undeclared x m i))) in cc (d, e)))

  start : (n : ℕ) (moves : List Move) → Agree F (state (start_cells n (top_in body)) moves []) (state (start_cells n (top_in after)) moves [])
  start n moves = agree (λ y h. ap (λ (c : Cell). if bytes_eq y turns_cell then holds (own (count n)) else c) (same_cells y h)) (λ y h. fits_either hoisted refl y h) (λ y h. tt)
    where
      same_cells : (y : Text) → among_names xs y ≡ false → cells_of (top_in after) y ≡ cells_of (top_in body) y
      same_cells y h = top_cell (top_in after) y ∙ ap cell_by (kinds_kept (codes "var") xs tops-more y h) ∙ sym (top_cell (top_in body) y)

      set_either : (b : Bool) (n : ℕ) (c : Cell) → is_set c ≡ true → is_set (if b then holds (own (count n)) else c) ≡ true
      set_either true n c e = refl
      set_either false n c e = e

      fits_either : (b : Bool) → hoisted ≡ b → (y : Text) → among_names xs y ≡ true → fits_where b (start_cells n (top_in after) y)
      fits_either true e y h = set_either (bytes_eq y turns_cell) n (cells_of (top_in after) y) (var-cell (top_in after) y (by-var e y h))
      fits_either false e y h = tt

  still-declared : (z : Text) → is_declared (top_in body) z ≡ true → is_declared (top_in after) z ≡ true
  still-declared z e = ap (λ (b : Binding). not (is_free b)) (top_bound (top_in after) z ∙ ap (λ (c : Option Text). found c z (λ y. free) z) (kinds_kept (codes "var") xs tops-more z (apart z e)) ∙ sym (top_bound (top_in body) z)) ∙ e

  list-runs : RunAlike u no_all (program l ds body) (program l ds after)
  list-runs = beside_run_where F quiet stack (bad_temporaries xs) (λ n x h. h) u seen (WorldsKnown no_all hoisted xs) (λ es w v same k. said_alike_from F u w v same k.unsaid) (λ es fs good w v k. known-inside no_all hoisted xs es fs good w v k) ActedAway row-like
      no_all l ds body after (list_beside xs (Acted A new) mute (bad_temporaries xs) ActedAway (λ es t a b h g. (h, g)) true moved avoid) (using_list xs (Acted A new) mute moved)
      (λ this. top_worlds (among_names xs) (not no_all) u l ds body after (kinds_kept (codes "var") xs tops-more) silents this) known start apart

  pub list-alike : StepAlike no_all u (program l ds body) (program l ds after)
  list-alike = record { runs = list-runs; declared = still-declared }

-- a step of such a row
pub row-alike : (no_all : Bool) (u : Supply) (Q : Site → Ledger → Spot → Ledger → Spot → Type 0) (A : List Bound → Site → Whole → Tree → Tree → Type 0) (law : NodeRule Q A) → KeepsRuns no_all u law.hoisted A →
    (whole : Whole) (x y : Tree) → ProgramWent law.hoisted (MovedProgram Q A law) whole x y → Named whole.in_use whole.free_symbol reads x → Fine x → Fine y → silent_names u x ≡ [] → silent_names u y ≡ [] → StepAlike no_all u x y
row-alike no_all u Q A law keeps whole x y h named fine fine_after silent silent_after =
    subst (λ (p : Tree). StepAlike no_all u p y) (sym h.first) (subst (λ (q : Tree). StepAlike no_all u (program h.label h.directives h.body) q) (sym h.second)
    (list-alike no_all u Q A law keeps whole h.label h.directives h.body h.after h.new h.are_new h.moved h.declared (subst (λ (p : Tree). Named whole.in_use whole.free_symbol reads p) h.first named) (subst (λ (p : Tree). Fine p) h.first fine) (subst (λ (q : Tree). Fine q) h.second fine_after)
    (sym (ap (silent_names u) h.first) ∙ silent) (sym (ap (silent_names u) h.second) ∙ silent_after)))
