-- From lists that are close to runs: for any frame, any rows, any supply of helpers, and any temporaries declared in front.
use Rattle.std.specs.Prelude.{Some, Option, None, is_some, ℕ, Bool, true, false, not}
use Rattle.std.proofs.Common.{◌∙◌, ap, is_some, Option, ◌≡◌, refl, List, [], ◌∷◌}
use Rattle.es_tree.specs.Words.{Text}
use Rattle.es_tree.specs.Scopes.{Declared}
use Rattle.es_tree.specs.Tree.{Tree, Label, Trees}
use Rattle.es_runs.specs.Runs.{scope_of, program, is_declared}
use Rattle.es_runs.specs.Core.{Binding, Silent, World, value, in_order}
use Rattle.es_runs.specs.Machine.{Value, M, Move}
use Rattle.es_runs.specs.Machine.State.{state}
use Rattle.es_runs.specs.Alike.{Frame, Agree, Alike, Equal, SameWorld, Level, bad_names, value_and_form}
use Rattle.es_statement_runs.specs.Helpers.{entry, silent_names, Supply}
use Rattle.es_statement_runs.specs.Runs.{silent_or, program_scope, program_world, start_cells, RunAlike, world_where}
use Rattle.es_statement_runs.specs.Alike.{Told, Quiet, StackSeen, SenseLike, SensesLike}
use Rattle.es_statement_runs.specs.Laws.{is_silent, vars_before}
use Rattle.es_statement_runs.specs.Names.{declared_at_top, top_in, using_in, names_of_all}
use Rattle.es_statement_runs.specs.Stacks.{with_stack_where}
use Rattle.es_statement_runs.specs.Senses.{Sense, cores}
use Rattle.es_statement_runs.specs.Kinds.{sense, senses}
use Rattle.es_statement_runs.specs.StatementParts.{begun}
use Rattle.es_statement_runs.specs.Places.{placed_at, all_good, Take, take, value_taken, CloseTrees}
use Rattle.es_statement_runs.proofs.Combinators.{stack_alike}
use Rattle.es_statement_runs.proofs.KindsAlike.{inner}
use Rattle.es_statement_runs.proofs.SensesAlike.{ends_like, begun_like, bodies_like}
use Rattle.es_statement_runs.proofs.Everywhere.{close_senses}
use Rattle.es_statement_runs.proofs.Everywhere.PlaceLike.{place_like}
use Rattle.es_statement_runs.proofs.WithoutAll.{alike_where}

-- THE NAMES OF THE TOP

-- the tops of two programs bind names alike, where they declare the same and the same names stand for helpers and keys
pub top_scope : (u : Supply) (p q : Tree) → declared_at_top q ≡ declared_at_top p → silent_names u q ≡ silent_names u p → (y : Text) → program_scope u q y ≡ program_scope u p y
top_scope u p q tops silents y = ap (λ (es : List (Text × Silent)). silent_or (entry es y) (scope_of (declared_at_top q) y)) silents ∙ ap (λ (ds : List Declared). silent_or (entry (silent_names u p) y) (scope_of ds y)) tops

pub top_world : (u : Supply) (hidden : Text → Bool) (p q : Tree) → declared_at_top q ≡ declared_at_top p → silent_names u q ≡ silent_names u p → (this : Value) → SameWorld hidden (program_world u this p) (program_world u this q)
top_world u hidden p q tops silents this = record { scope = λ y k. top_scope u p q tops silents y; this = refl; counts = refl }

pub not_some : (e : Option Silent) → is_some e ≡ false → (b : Binding) → silent_or e b ≡ b
not_some None h b = refl
not_some (Some s) h b = absurd (cc h)

-- a name that stands for none is bound as it is declared
pub unsilent_scope : (u : Supply) (p : Tree) (x : Text) → is_silent (silent_names u p) x ≡ false → program_scope u p x ≡ scope_of (declared_at_top p) x
unsilent_scope u p x h = not_some (entry (silent_names u p) x) h (scope_of (declared_at_top p) x)

abbrev pub body_taken : Take
body_taken = take (value_and_form false) true

abbrev list_of : World → Bool → List Sense → M Value
list_of w b es = begun es (with_stack_where b (in_order w (cores es)))

module _ (F : Frame) (quiet : Quiet F) (stack : StackSeen F) (bad : Level → Text → Bool) (below : (n : Level) (x : Text) → bad n x ≡ false → bad_names F.hidden F.frozen n x ≡ false) where
  -- `var` statements in front do nothing
  vars_alike : (m : M Value) (v : World) (o : Supply) (b : Bool) (after : Trees) (xs : List Text) → Alike F Equal m (list_of v b (senses (placed_at o v [] []) after)) → Alike F Equal m (list_of v b (senses (placed_at o v [] []) (vars_before xs after)))
  vars_alike m v o b after [] h = h
  vars_alike m v o b after (x ∷ xs) h = vars_alike m v o b after xs h

  uses_after : (xs : List Text) (after : Trees) → using_in (vars_before xs after) ≡ using_in after
  uses_after [] after = refl
  uses_after (x ∷ xs) after = uses_after xs after

  module _ (o : Supply) (told : Told F bad o) (Known : World → World → Type 0) (kept : (ds : List Declared) → all_good bad (names_of_all ds) ≡ true → (w v : World) → Known w v → Known (inner w ds) (inner v ds))
      (R : Take → Tree → Tree → Type 0) (base : (t : Take) (a b : Tree) → R t a b → (w v : World) → SameWorld F.hidden w v → Known w v → (ls : List Text) (x : Text) → SenseLike F w v t (sense (placed_at o w ls x) a) (sense (placed_at o v ls x) b)) where
    module _ (l : Label) (ds body after : Trees) (xs : List Text) (rows : CloseTrees bad R body_taken body after) (uses : using_in after ≡ using_in body) (w v : World) (same : SameWorld F.hidden w v) (known : Known w v) where
      lists_like : SensesLike F w v body_taken (senses (placed_at o w [] []) body) (senses (placed_at o v [] []) after)
      lists_like = close_senses F quiet stack bad below o told Known kept R base rows (place_like same known)

      list_alike : Alike F Equal (list_of w (using_in body) (senses (placed_at o w [] []) body)) (list_of v (using_in after) (senses (placed_at o v [] []) after))
      list_alike = rw uses (begun_like F quiet w v same lists_like (stack_alike F quiet (using_in body) (λ _. stack) (bodies_like F quiet w v same refl lists_like)))

      with_vars_alike : Alike F Equal (list_of w (using_in body) (senses (placed_at o w [] []) body)) (list_of v (using_in (vars_before xs after)) (senses (placed_at o v [] []) (vars_before xs after)))
      with_vars_alike = rw (uses_after xs after) (vars_alike _ v o (using_in after) after xs list_alike)

      pub program_alike : Alike F Equal (value w (sense (placed_at o w [] []) (program l ds body)).core) (value v (sense (placed_at o v [] []) (program l ds (vars_before xs after))).core)
      program_alike = (ends_like F quiet w v same value_taken with_vars_alike).core.evaluation

-- The general law: what is asked of a row, and of the two programs.
module _ (F : Frame) (quiet : Quiet F) (stack : StackSeen F) (bad : Level → Text → Bool) (below : (n : Level) (x : Text) → bad n x ≡ false → bad_names F.hidden F.frozen n x ≡ false) (u : Supply) (l : Label) (ds body after : Trees) (xs : List Text)
    (told : Told F bad u) (Known : World → World → Type 0) (kept : (ds : List Declared) → all_good bad (names_of_all ds) ≡ true → (w v : World) → Known w v → Known (inner w ds) (inner v ds))
    (R : Take → Tree → Tree → Type 0) (base : (t : Take) (a b : Tree) → R t a b → (w v : World) → SameWorld F.hidden w v → Known w v → (ls : List Text) (x : Text) → SenseLike F w v t (sense (placed_at u w ls x) a) (sense (placed_at u v ls x) b))
    (rows : CloseTrees bad R body_taken body after) (uses : using_in after ≡ using_in body) where
  abbrev old_names : List Declared
  old_names = top_in body

  abbrev new_names : List Declared
  new_names = top_in (vars_before xs after)

  pub rows_run_where : (no_all : Bool) → ((this : Value) → SameWorld F.hidden (world_where (not no_all) u this (program l ds body)) (world_where (not no_all) u this (program l ds (vars_before xs after)))) → ((this : Value) → Known (world_where (not no_all) u this (program l ds body)) (world_where (not no_all) u this (program l ds (vars_before xs after)))) →
      ((n : ℕ) (moves : List Move) → Agree F (state (start_cells n old_names) moves []) (state (start_cells n new_names) moves [])) →
      ((x : Text) → is_declared old_names x ≡ true → F.hidden x ≡ false) → RunAlike u no_all (program l ds body) (program l ds (vars_before xs after))
  rows_run_where no_all same known start counts = alike_where F no_all u (program l ds body) (program l ds (vars_before xs after)) counts
      (λ n this moves. program_alike F quiet stack bad below u told Known kept R base l ds body after xs rows uses (world_where (not no_all) u this (program l ds body)) (world_where (not no_all) u this (program l ds (vars_before xs after))) (same this) (known this) _ _ (start n moves))

  pub rows_run : ((this : Value) → SameWorld F.hidden (program_world u this (program l ds body)) (program_world u this (program l ds (vars_before xs after)))) → ((this : Value) → Known (program_world u this (program l ds body)) (program_world u this (program l ds (vars_before xs after)))) →
      ((n : ℕ) (moves : List Move) → Agree F (state (start_cells n old_names) moves []) (state (start_cells n new_names) moves [])) →
      ((x : Text) → is_declared old_names x ≡ true → F.hidden x ≡ false) → RunAlike u false (program l ds body) (program l ds (vars_before xs after))
  rows_run = rows_run_where false
