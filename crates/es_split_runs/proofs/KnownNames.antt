-- What is known of the names where rows act, from the tops of the two programs on: fresh names say nothing, and those that are told are bound where they are
-- declared.
use Rattle.std.proofs.Common.{◌≡◌, ◌∙◌, refl, sym, ap, List, [], ◌∷◌, ◌++◌}
use Rattle.std.specs.Prelude.{Bool, true, false, not, ◌&&◌, ◌||◌, Option, Some, None, bytes_eq, if◌then◌else◌}
use Rattle.std.proofs.lemmas.Slice.Eq.{bytes_eq-Decides}
use Rattle.es_tree.specs.Words.{Text}
use Rattle.es_tree.specs.Scopes.{Declared}
use Rattle.es_tree.specs.Tree.{Tree, Label, Trees}
use Rattle.es_runs.specs.Machine.{Value}
use Rattle.es_runs.specs.Core.{World, is_free}
use Rattle.es_runs.specs.Alike.{Level, SameWorld, bad_names}
use Rattle.es_runs.specs.Alike.Level.{a_target}
use Rattle.es_runs.specs.Runs.{is_declared, program, scope_of}
use Rattle.es_statement_runs.specs.Alike.{Quiet, SenseLike, StackSeen}
use Rattle.es_statement_runs.specs.Helpers.{Supply, silent_names}
use Rattle.es_statement_runs.specs.Kinds.{found, kind_in, sense}
use Rattle.es_statement_runs.specs.Laws.{among_names, any_cells, body_needs, is_silent}
use Rattle.es_statement_runs.specs.Names.{names_of_all, top_in}
use Rattle.es_statement_runs.specs.Places.{Take, all_good, placed_at}
use Rattle.es_statement_runs.specs.Runs.{RunAlike, program_world}
use Rattle.es_statement_runs.specs.Scopes.{stack_cell}
use Rattle.es_statement_runs.proofs.BareVars.{Unsaid, said_alike_from, top_worlds, unsaid_inside, unsaid_programs}
use Rattle.es_statement_runs.proofs.Everywhere.{both_right}
use Rattle.es_statement_runs.proofs.KindsAlike.{inner}
use Rattle.es_statement_runs.proofs.Programs.{unsilent_scope}
use Rattle.es_statement_runs.proofs.Spreads.{not_not}
use Rattle.es_statement_runs.proofs.TopVars.{temporaries_apart}
use Rattle.es_split_runs.specs.Growing.{GrownTrees, NamesMore}
use Rattle.es_split_runs.specs.Laws.{FreshNames}
use Rattle.es_split_runs.proofs.Declarators.{entered_bound, is_bound, scope_bound}
use Rattle.es_split_runs.proofs.Grown.{grown_run}
use Rattle.es_split_runs.proofs.GrownScopes.{kinds_more}

-- a name that is bad as a target isn't among good ones
unseen_step : (a b c : Bool) (kind : Text) (rest : Option Text) → (not a && b) ≡ true → a ≡ true → (if c then Some kind else rest) ≡ None
unseen_step true b c kind rest h e = absurd (cc h)
unseen_step false b c kind rest h e = absurd (cc e)

pub unseen : (bad : Level → Text → Bool) (ds : List Declared) (y : Text) → all_good bad (names_of_all ds) ≡ true → bad a_target y ≡ true → kind_in ds y ≡ None
unseen bad [] y h e = refl
unseen bad (d ∷ ds) y h e = at (bytes_eq y d.name) refl (unseen bad ds y (both_right (not (bad a_target d.name)) (all_good bad (names_of_all ds)) h) e)
  where
    at : (b : Bool) → bytes_eq y d.name ≡ b → kind_in ds y ≡ None → (if b then Some d.kind else kind_in ds y) ≡ None
    at true i k = let j : y ≡ d.name = (bytes_eq-Decides y d.name).0 i in unseen_step (bad a_target d.name) (all_good bad (names_of_all ds)) true d.kind (kind_in ds y) h (ap (bad a_target) (sym j) ∙ e)
    at false i k = k

or_true : (a b : Bool) → b ≡ true → (a || b) ≡ true
or_true true b h = refl
or_true false b h = h

or_first : (a b : Bool) → (a || b) ≡ false → (a || false) ≡ false
or_first true b h = absurd (cc h)
or_first false b h = refl

module _ (told unbound : Text → Bool) (xs : List Text) where
  abbrev pub Known : List Declared → World → World → Type 0
  Known ds w v = Unsaid (among_names xs) w v × ((y : Text) → told y ≡ true → is_declared ds y ≡ true → is_bound (v.scope y) ≡ true) × ((y : Text) → unbound y ≡ true → is_free (v.scope y) ≡ true)

  kept : ((y : Text) → unbound y ≡ true → among_names xs y ≡ false) → (ds es fs : List Declared) → NamesMore (among_names xs) es fs → all_good (bad_names (among_names xs) unbound) (names_of_all es) ≡ true → (w v : World) → Known ds w v → Known (fs ++ ds) (inner w es) (inner v fs)
  kept apart ds es fs names good w v k = (
    λ x e. ((unsaid_inside (among_names xs) es w v k.0 x e).0, (unsaid_inside (among_names xs) fs w v k.0 x e).1),
    λ y h d. entered_bound fs ds y v.scope (k.1 y h) d,
    λ y h. ap (λ (c : Option Text). is_free (found c y v.scope y)) (kinds_more (among_names xs) names y (apart y h) ∙ unseen (bad_names (among_names xs) unbound) es y good (or_true (among_names xs y) (unbound y) h)) ∙ k.2 y h,
  )

  below : (n : Level) (x : Text) → bad_names (among_names xs) unbound n x ≡ false → bad_names (among_names xs) (λ y. false) n x ≡ false
  below Level.no_evaluation x h = refl
  below a_target x h = or_first (among_names xs x) (unbound x) h
  below _ x h = h

  pub fresh_quiet : {u : Supply} {l : Label} {ds body after : Trees} → FreshNames u xs l ds body after → Quiet (any_cells (among_names xs))
  fresh_quiet h = record { own_seen = λ y e i. record { hidden = temporaries_apart xs h.program_names y e; frozen = refl; loose = refl }; math = h.math }

  pub fresh_stack : {u : Supply} {l : Label} {ds body after : Trees} → FreshNames u xs l ds body after → StackSeen (any_cells (among_names xs))
  fresh_stack h = record { hidden = temporaries_apart xs h.program_names stack_cell refl; frozen = refl; loose = refl }

  module _ (u : Supply) (l : Label) (ds body after : Trees) (R : List Declared → Take → Tree → Tree → Type 0) (h : FreshNames u xs l ds body after) where
    same_tops : (this : Value) → SameWorld (among_names xs) (program_world u this (program l ds body)) (program_world u this (program l ds after))
    same_tops = top_worlds (among_names xs) true u l ds body after (kinds_more (among_names xs) h.tops) h.silents

    top_known : ((y : Text) → told y ≡ true → is_silent (silent_names u (program l ds body)) y ≡ false) → ((y : Text) → unbound y ≡ true → (among_names xs y ≡ false) × (is_silent (silent_names u (program l ds body)) y ≡ false) × (is_declared (top_in body) y ≡ false)) →
        (this : Value) → Known (top_in after) (program_world u this (program l ds body)) (program_world u this (program l ds after))
    top_known unsilent free this = (
      unsaid_programs u xs (program l ds body) (program l ds after) h.silents h.unsilent this,
      λ y e d. ap is_bound (unsilent_scope u (program l ds after) y (ap (λ es. is_silent es y) h.silents ∙ unsilent y e)) ∙ scope_bound (top_in after) y d,
      λ y e. ap is_free ((same_tops this).scope y (free y e).0 ∙ unsilent_scope u (program l ds body) y (free y e).1) ∙ not_not (is_free (scope_of (top_in body) y)) (free y e).2,
    )

    -- The general law of rows that declare fresh names more
    pub fresh_run : ((ds : List Declared) (t : Take) (a b : Tree) → R ds t a b → (w v : World) → SameWorld (among_names xs) w v → Known ds w v → (ls : List Text) (x : Text) → SenseLike (any_cells (among_names xs)) w v t (sense (placed_at u w ls x) a) (sense (placed_at u v ls x) b)) →
        ((y : Text) → told y ≡ true → is_silent (silent_names u (program l ds body)) y ≡ false) → ((y : Text) → unbound y ≡ true → (among_names xs y ≡ false) × (is_silent (silent_names u (program l ds body)) y ≡ false) × (is_declared (top_in body) y ≡ false)) →
        GrownTrees (bad_names (among_names xs) unbound) (among_names xs) R (top_in after) body_needs body after → RunAlike u false (program l ds body) (program l ds after)
    fresh_run base unsilent free rows =
        grown_run (among_names xs) (fresh_quiet h) (fresh_stack h) (bad_names (among_names xs) unbound) below u h.supply Known (λ es w v same k. said_alike_from (any_cells (among_names xs)) u w v same k.0) (kept (λ y e. (free y e).0)) R base l ds body after rows h.tops h.uses
        same_tops (top_known unsilent free) h.undeclared
