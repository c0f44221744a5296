-- A row of es_runs by names, at a node whose operands are settled, is alike on both sides where its scopes declare what it finds.
use Rattle.std.proofs.Common.{◌≡◌, ℕ, refl, sym, ap, subst, ◌∙◌, List}
use Rattle.std.specs.Prelude.{Bool, true, false, not, is_some, Option, Some, None}
use Rattle.es_tree.specs.Scopes.{Declared}
use Rattle.es_tree.specs.Tree.{Tree, kind_of}
use Rattle.es_tree.specs.Walks.{all_nodes}
use Rattle.es_tree.specs.Words.{Text}
use Rattle.es_runs.specs.Alike.{Need, SameWorld, bad_names, set_cells, touches}
use Rattle.es_runs.specs.Core.{Binding, World, is_free}
use Rattle.es_runs.specs.Runs.{is_declared, none_hidden}
use Rattle.es_runs.specs.Standing.{undeclaring}
use Rattle.es_resolution.specs.Resolved.{Place}
use Rattle.es_resolution.specs.Declarations.{Bound}
use Rattle.es_steps.specs.Duplication.{is_among_symbols}
use Rattle.es_steps.specs.Steps.{Site, Whole}
use Rattle.es_statement_runs.specs.Alike.{Quiet, SenseLike}
use Rattle.es_statement_runs.specs.Helpers.Supply.{no_helpers}
use Rattle.es_statement_runs.specs.Kinds.{sense}
use Rattle.es_statement_runs.specs.Laws.{RowOver, among_names}
use Rattle.es_statement_runs.specs.Laws.RowOver.{row_over}
use Rattle.es_statement_runs.specs.Operands.{is_settled, stands_over}
use Rattle.es_statement_runs.specs.Places.{Take, avoids, placed_at}
use Rattle.es_statement_runs.specs.Scopes.{is_own_cell}
use Rattle.es_statement_runs.proofs.OperandRows.{IsKept, Known, over_like}
use Rattle.es_statement_steps.proofs.Doublings.{steady_names}
use Rattle.es_statement_steps.proofs.FoundNames.{Bounds, Finds, declared_is}
use Rattle.es_statement_steps.proofs.MadeNames.{all_made, made_program_names}
use Rattle.es_statement_steps.proofs.RowRuns.{WorldsKnown, bad_temporaries}
use Rattle.es_statement_steps.proofs.SameSenses.{SameSense}
use Rattle.es_statement_steps.proofs.SettledOperands.{avoided-untouched, avoids-both, either-bad, fine-undeclaring, is_meant_operand, settled-over}
use Rattle.es_statement_steps.proofs.Stands.{is_inner, is_item}
use Rattle.es_statement_steps.proofs.StepMoves.{Fine}

-- what a row asks of the operands of its node: they mean something, and neither is a made name among them nor is a steady name written in them
pub record Settled (xs : List Text) (steady : Text → Bool) (n : Need) (a : Tree) : Type 0 where
  pub own : (y : Text) → steady y ≡ true → is_own_cell y ≡ false
  pub stands : stands_over (is_settled (bad_names (among_names xs) steady)) a ≡ true
  pub formed : all_nodes undeclaring a ≡ true
  pub untouched : touches (bad_names (among_names xs) steady) n a ≡ false

-- the names that are bound at a place
abbrev pub bound_names : Place → Text → Bool
bound_names p x = is_some (p.scope x)

steady-bound : (w : Whole) (s : Option ℕ) → is_among_symbols w.steady s ≡ true → is_some s ≡ true
steady-bound w (Some s) h = refl
steady-bound w None h = absurd (cc h)

pub steady-place : (w : Whole) (p : Place) (y : Text) → steady_names w p.scope y ≡ true → bound_names p y ≡ true
steady-place w p y e = steady-bound w (p.scope y) e

bound-by : (ds : List Declared) (w : World) → Bounds ds w → (y : Text) → is_declared ds y ≡ true → is_free (w.scope y) ≡ false
bound-by ds w h y e = h y ∙ ap not (sym (declared_is ds y) ∙ e)

-- and so in the worlds there
pub place-bound : (ds : List Declared) (p : Place) → Finds ds p → (w : World) → Bounds ds w → (y : Text) → bound_names p y ≡ true → is_free (w.scope y) ≡ false
place-bound ds p found w h y e = bound-by ds w h y (declared_is ds y ∙ (sym (found y) ∙ e))

module _ (no_all : Bool) (R : (bound steady in_use : Text → Bool) → List Text → Need → Tree → Tree → Type 0) (Asks : (Text → Binding) → Type 0) (kept : IsKept no_all R Asks) where
  pub settled-like : (xs : List Text) (p : Place) (whole : Whole) (t : Take) (ds : List Declared) (a b c : Tree) → R (bound_names p) (steady_names whole p.scope) whole.in_use xs t.need a c → SameSense c b → Settled xs (steady_names whole p.scope) t.need a → Finds ds p →
      Quiet (set_cells (among_names xs)) → all_made xs ≡ true → (w v : World) → SameWorld (among_names xs) w v → WorldsKnown no_all true xs ds w v → Asks w.scope → (ls : List Text) (x : Text) →
      SenseLike (set_cells (among_names xs)) w v t (sense (placed_at no_helpers w ls x) a) (sense (placed_at no_helpers v ls x) b)
  settled-like xs p whole t ds a b c rule same settled found quiet names w v worlds known asked ls x =
      let row : RowOver R xs ds t a c = row_over (bound_names p) (steady_names whole p.scope) whole.in_use rule (λ y e. declared_is ds y ∙ (sym (found y) ∙ e)) (λ y e. steady-bound whole (p.scope y) e) settled.own settled.stands settled.formed settled.untouched in
      let known_so : Known no_all xs Asks ds w v = record { counts = known.counts; cells = known.temporaries refl; binds = bound-by ds w known.bound; free = known.free; free_after = known.free_after; asked = asked } in
      subst (λ s. SenseLike (set_cells (among_names xs)) w v t (sense (placed_at no_helpers w ls x) a) s) (same (placed_at no_helpers v ls x))
      (over_like no_all R Asks kept xs quiet.math (made_program_names xs names) ds t a c row w v worlds known_so ls x)

-- What is known of a node of the program: its operands that aren't core mean something, and no steady name is written in it.
pub record Sound (steady : Text → Bool) (a : Tree) : Type 0 where
  pub own : (y : Text) → steady y ≡ true → is_own_cell y ≡ false
  pub meant : stands_over is_meant_operand a ≡ true
  pub unwritten : (t : Take) → avoids (bad_names none_hidden steady) t a ≡ true

-- So no made name stands in it, and no steady one is written in it.
pub sound-avoids : (xs : List Text) (steady : Text → Bool) (t : Take) (a : Tree) → Sound steady a → avoids (bad_temporaries xs) t a ≡ true → avoids (bad_names (among_names xs) steady) t a ≡ true
sound-avoids xs steady t a sound away = avoids-both (bad_names (among_names xs) none_hidden) (bad_names none_hidden steady) (bad_names (among_names xs) steady) (either-bad (among_names xs) steady) t a away (sound.unwritten t)

-- So its operands are settled, where no made name stands in it.
pub sound-settled : (xs : List Text) (steady : Text → Bool) (t : Take) (a : Tree) → Sound steady a → is_inner (kind_of a) ≡ true → is_item (kind_of a) ≡ false → Fine a → avoids (bad_temporaries xs) t a ≡ true → Settled xs steady t.need a
sound-settled xs steady t a sound inner item fine away =
    let avoided : avoids (bad_names (among_names xs) steady) t a ≡ true = sound-avoids xs steady t a sound away in
    record {
      own = sound.own;
      stands = settled-over (bad_names (among_names xs) steady) t a sound.meant avoided;
      formed = fine-undeclaring a inner fine;
      untouched = avoided-untouched (among_names xs) steady t.need t a inner item fine (λ o x e. e) avoided;
    }

-- a row at a node of which that is known
pub record SoundRow (R : Site → Whole → List Bound → Tree → Tree → Type 0) (new : List Bound) (n : Site) (w : Whole) (a b : Tree) : Type 0 where
  pub row : R n w new a b
  pub sound : Sound (steady_names w n.names.scope) a

-- what a row becomes where made names have no symbols
pub record ByNames (R : Tree → Type 0) (b : Tree) : Type 0 where
  pub made : Tree
  pub rule : R made
  pub same : SameSense made b
