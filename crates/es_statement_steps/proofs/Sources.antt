-- Ids and marks say nothing to the machine: a program runs as one that is the same but for these.
use Rattle.std.proofs.Common.{◌≡◌, ℕ, zero, suc, refl, sym, ap, subst, ◌∙◌, List, [], ◌∷◌}
use Rattle.std.specs.Prelude.{Bool, true, false, not, Option, codes}
use Rattle.es_tree.specs.Bare.{bare, bare_field, bare_fields, bare_trees}
use Rattle.es_tree.specs.Names.{first_text}
use Rattle.es_tree.specs.Scopes.{Declared}
use Rattle.es_tree.specs.Tree.{Tree, node, Label, Fields, done, ◌then◌, Field, missing, one, many, statements, Trees, empty, ◌before◌}
use Rattle.es_tree.specs.Words.{Text}
use Rattle.es_tree.specs.declared.ast_type.AstType.{AstType}
use Rattle.es_tree.specs.declared.ast_type.AstType.TheVariants.{Identifier}
use Rattle.es_runs.specs.Alike.{Level, bad_names, is_bad, the_value}
use Rattle.es_runs.specs.Machine.{Move, Result, Value}
use Rattle.es_runs.specs.Runs.{is_declared, none_hidden, program, scope_of}
use Rattle.es_runs.specs.Core.{Binding, Silent, World, is_free, value}
use Rattle.es_runs.specs.Core.Binding.{free}
use Rattle.es_runs.specs.Machine.State.{state}
use Rattle.es_statement_runs.specs.Helpers.{Supply, entry, silent_names}
use Rattle.es_statement_runs.specs.Helpers.Supply.{no_helpers, by_global, by_import, by_require, spread_by_global}
use Rattle.es_statement_runs.specs.Kinds.{found, sense}
use Rattle.es_statement_runs.specs.Laws.{among_names, any_cells, no_row}
use Rattle.es_statement_runs.specs.Names.{declared_at_top, names_of_all, own_names, top_in}
use Rattle.es_statement_runs.specs.Places.{SupplySeen, Take, all_good, avoids, avoids_field, avoids_fields, avoids_trees, placed_at, take, takes_of}
use Rattle.es_statement_runs.specs.Runs.{SameRun, program_world, run, silent_or, start_cells}
use Rattle.es_statement_runs.proofs.WithoutAll.{under_assumption}
use Rattle.es_statement_runs.proofs.BareVars.{kinds_kept, law_vars_proof, top_bound}
use Rattle.es_statement_runs.proofs.Composing.{law_then_proof}
use Rattle.es_statement_runs.proofs.Moved.{BothMute, Moved, MovedField, MovedFields, MovedList, MovedTrees, Room, list_beside, tops_more}
use Rattle.es_statement_runs.proofs.Moved.Moved.{moved_node}
use Rattle.es_statement_runs.proofs.Moved.MovedField.{moved_many, moved_missing, moved_one, moved_statements}
use Rattle.es_statement_runs.proofs.Moved.MovedFields.{moved_done, moved_then}
use Rattle.es_statement_runs.proofs.Moved.MovedList.{moved_end, moved_statement}
use Rattle.es_statement_runs.proofs.Moved.MovedTrees.{moved_before, moved_empty}
use Rattle.es_statement_runs.proofs.Moved.Room.{open_room}
use Rattle.es_statement_steps.proofs.RowRuns.{StepAlike}

abbrev no_rows : List Declared → Take → Tree → Tree → Type 0
no_rows ds = no_row

-- without ids and marks, and with them again
module _ (fresh : Text → Bool) where
  mutual
    made-bare : {r : Room} {ds : List Declared} {t : Take} (a : Tree) → Moved fresh no_rows r ds t a (bare a)
    made-bare (node k l fs) = moved_node refl refl (fields-bare fs)

    fields-bare : {r : ℕ → Room} {d : ℕ → List Declared} {c : ℕ → Take} (fs : Fields) → MovedFields fresh no_rows r d c fs (bare_fields fs)
    fields-bare done = moved_done
    fields-bare (f then fs) = moved_then (field-bare f) (fields-bare fs)

    field-bare : {r : Room} {ds : List Declared} {t : Take} (f : Field) → MovedField fresh no_rows r ds t f (bare_field f)
    field-bare missing = moved_missing
    field-bare (one a) = moved_one (made-bare a)
    field-bare (many ts) = moved_many (trees-bare ts)
    field-bare (statements ts) = moved_statements (trees-bare ts)

    trees-bare : {r : Room} {ds : List Declared} {t : Take} (ts : Trees) → MovedTrees fresh no_rows r ds t ts (bare_trees ts)
    trees-bare empty = moved_empty
    trees-bare (a before ts) = moved_before (made-bare a) (trees-bare ts)

  mutual
    from-bare : {r : Room} {ds : List Declared} {t : Take} (a : Tree) → Moved fresh no_rows r ds t (bare a) a
    from-bare (node k l fs) = moved_node refl refl (fields-from fs)

    fields-from : {r : ℕ → Room} {d : ℕ → List Declared} {c : ℕ → Take} (fs : Fields) → MovedFields fresh no_rows r d c (bare_fields fs) fs
    fields-from done = moved_done
    fields-from (f then fs) = moved_then (field-from f) (fields-from fs)

    field-from : {r : Room} {ds : List Declared} {t : Take} (f : Field) → MovedField fresh no_rows r ds t (bare_field f) f
    field-from missing = moved_missing
    field-from (one a) = moved_one (from-bare a)
    field-from (many ts) = moved_many (trees-from ts)
    field-from (statements ts) = moved_statements (trees-from ts)

    trees-from : {r : Room} {ds : List Declared} {t : Take} (ts : Trees) → MovedTrees fresh no_rows r ds t (bare_trees ts) ts
    trees-from empty = moved_empty
    trees-from (a before ts) = moved_before (from-bare a) (trees-from ts)

  list-bare : {r : Room} {ds : List Declared} {more : Bool} (ts : Trees) → MovedList fresh no_rows r ds more ts (bare_trees ts)
  list-bare empty = moved_end
  list-bare (a before ts) = moved_statement (made-bare a) (list-bare ts)

  list-from : {r : Room} {ds : List Declared} {more : Bool} (ts : Trees) → MovedList fresh no_rows r ds more (bare_trees ts) ts
  list-from empty = moved_end
  list-from (a before ts) = moved_statement (from-bare a) (list-from ts)

-- nothing is avoided by each tree
abbrev pub nothing : Level → Text → Bool
nothing = bad_names (among_names []) none_hidden

nothing-here : (n : Level) (x : Text) → nothing n x ≡ false
nothing-here Level.no_evaluation x = refl
nothing-here _ x = refl

pub nothing-bad : (n : Level) (k : AstType) (ts : List (Option Text)) → is_bad nothing n k ts ≡ false
nothing-bad n Identifier ts = nothing-here n (first_text ts)
nothing-bad n _ ts = refl

pub good-all : (xs : List Text) → all_good nothing xs ≡ true
good-all [] = refl
good-all (x ∷ xs) = good-all xs

mutual
  pub avoids-nothing : (n : Take) (t : Tree) → avoids nothing n t ≡ true
  avoids-nothing n (node k l fs) = rw (nothing-bad n.need.level k l.texts, good-all (names_of_all (own_names k fs)), avoids-nothing-in (takes_of n k l.texts l.flags) fs) refl

  avoids-nothing-in : (c : ℕ → Take) (fs : Fields) → avoids_fields nothing c fs ≡ true
  avoids-nothing-in c done = refl
  avoids-nothing-in c (f then fs) = rw (avoids-nothing-at (c zero) f, avoids-nothing-in (λ i. c (suc i)) fs) refl

  avoids-nothing-at : (n : Take) (f : Field) → avoids_field nothing n f ≡ true
  avoids-nothing-at n missing = refl
  avoids-nothing-at n (one t) = avoids-nothing n t
  avoids-nothing-at n (many ts) = avoids-nothing-all n ts
  avoids-nothing-at n (statements ts) = avoids-nothing-all n ts

  pub avoids-nothing-all : (n : Take) (ts : Trees) → avoids_trees nothing n ts ≡ true
  avoids-nothing-all n empty = refl
  avoids-nothing-all n (t before ts) = rw (avoids-nothing n t, avoids-nothing-all n ts) refl

no_mute : (ds : List Declared) (t : Take) (a b : Tree) → no_rows ds t a b → BothMute [] a b
no_mute ds t a b e = absurd e

-- lists that are moved by nothing
list-same : (no_all : Bool) (u : Supply) (l : Label) (ds body after : Trees) → MovedList (among_names []) no_rows open_room (top_in body) true body after → silent_names u (program l ds body) ≡ [] → silent_names u (program l ds after) ≡ [] → StepAlike no_all u (program l ds body) (program l ds after)
list-same no_all u l ds body after moved silent silent_after =
    let tops = kinds_kept (codes "var") [] (tops_more [] no_rows no_mute moved) in
    record {
      runs = under_assumption no_all u (program l ds body) (program l ds after) (law_vars_proof u [] l ds body after (list_beside [] no_rows no_mute nothing no_rows (λ es t a b h g. absurd h) true moved (avoids-nothing-all (take the_value true) body)) tops (λ y e. refl)
          (silent_after ∙ sym silent) (λ y e. absurd (cc e)) refl refl (supply-nothing u));
      declared = λ z h. ap (λ (b : Binding). not (is_free b)) (top_bound (top_in after) z ∙ ap (λ (c : Option Text). found c z (λ y. free) z) (tops z refl) ∙ sym (top_bound (top_in body) z)) ∙ h;
    }
  where
    supply-nothing : (u : Supply) → SupplySeen (any_cells (among_names [])) u
    supply-nothing no_helpers = tt
    supply-nothing spread_by_global = record { global = refl; require = refl }
    supply-nothing by_global = record { global = refl; require = refl }
    supply-nothing (by_import m) = record { global = refl; require = refl }
    supply-nothing (by_require m) = record { global = refl; require = refl }

-- the label and the directives of a program
abbrev silent-world : (u : Supply) (this : Value) (p : Tree) → List (Text × Silent) → World
silent-world u this p es = record (program_world u this p) { scope = λ x. silent_or (entry es x) (scope_of (declared_at_top p) x) }

relabelled : (no_all : Bool) (u : Supply) (l m : Label) (ds es body : Trees) → silent_names u (program l ds body) ≡ [] → silent_names u (program m es body) ≡ [] → StepAlike no_all u (program l ds body) (program m es body)
relabelled no_all u l m ds es body silent silent_after = record {
  runs = λ n this moves assumed t ms inside.
      subst (λ (r : Result Value). SameRun (is_declared (top_in body)) (run u n (program l ds body) this moves) r) (same n this moves) (record { outcomes = refl; questions = refl; final_cells = λ y e i. refl });
  declared = λ z h. h;
}
  where
    run_as : ℕ → Value → List Move → List (Text × Silent) → Result Value
    run_as n this moves names = value (silent-world u this (program l ds body) names) (sense (placed_at u (silent-world u this (program l ds body) names) [] []) (program l ds body)).core (state (start_cells n (top_in body)) moves [])

    same : (n : ℕ) (this : Value) (moves : List Move) → run u n (program l ds body) this moves ≡ run u n (program m es body) this moves
    same n this moves = ap (run_as n this moves) (silent ∙ sym silent_after)

pub then-alike : (no_all : Bool) (u : Supply) (x y z : Tree) → StepAlike no_all u x y → StepAlike no_all u y z → StepAlike no_all u x z
then-alike no_all u x y z a b = record { runs = law_then_proof u no_all x y z a.runs b.runs a.declared; declared = λ w h. b.declared w (a.declared w h) }

-- a program, and one that is the same but for ids and marks, where no name of the programs between stands for a helper
pub same-but-marks : (no_all : Bool) (u : Supply) (l m : Label) (ds es body after : Trees) → bare_trees body ≡ bare_trees after →
    silent_names u (program l ds body) ≡ [] → silent_names u (program l ds (bare_trees body)) ≡ [] → silent_names u (program l ds after) ≡ [] → silent_names u (program m es after) ≡ [] → StepAlike no_all u (program l ds body) (program m es after)
same-but-marks no_all u l m ds es body after same s1 s2 s3 s4 =
    let first = list-same no_all u l ds body (bare_trees body) (list-bare (among_names []) body) s1 s2 in
    let second = list-same no_all u l ds (bare_trees after) after (list-from (among_names []) after) (sym (ap (λ ts. silent_names u (program l ds ts)) same) ∙ s2) s3 in
    then-alike no_all u (program l ds body) (program l ds after) (program m es after)
    (then-alike no_all u (program l ds body) (program l ds (bare_trees after)) (program l ds after) (subst (λ (ts : Trees). StepAlike no_all u (program l ds body) (program l ds ts)) same first) second)
    (relabelled no_all u l m ds es after s3 s4)
