-- Programs run alike that are the same but for one such place with a fresh name, where both sides of it mean the same.
use Rattle.std.proofs.Common.{◌≡◌, refl, sym, ap, subst, ◌∙◌, List, []}
use Rattle.std.specs.Prelude.{Bool, true, false, ◌&&◌, codes}
use Rattle.std.proofs.lemmas.Bool.{and_parts}
use Rattle.std.proofs.lemmas.Slice.Eq.{bytes_eq-Decides}
use Rattle.es_tree.specs.Tree.{Tree, Fields, done, ◌then◌, many, statements}
use Rattle.es_tree.specs.Walks.{all_in_trees, all_nodes}
use Rattle.es_tree.specs.Words.{Text}
use Rattle.es_tree.specs.declared.ast_type.AstType.TheVariants.{Program}
use Rattle.es_runs.specs.Core.{World}
use Rattle.es_runs.specs.Alike.{SameWorld}
use Rattle.es_runs.specs.Runs.{is_declared, only, program}
use Rattle.es_semantic.specs.RolesOf.{reads, role_at}
use Rattle.es_resolution.specs.Named.{Named}
use Rattle.es_steps.specs.Steps.{Whole}
use Rattle.es_statement_runs.specs.Alike.{SenseLike}
use Rattle.es_statement_runs.specs.Helpers.{Supply, silent_names}
use Rattle.es_statement_runs.specs.Kinds.{kind_in, sense}
use Rattle.es_statement_runs.specs.Laws.{apart_from, body_needs, is_silent}
use Rattle.es_statement_runs.specs.Names.{declared_at_top, top_in, var_names}
use Rattle.es_statement_runs.specs.Places.{SupplySeen, Take, avoids, avoids_trees, placed_at}
use Rattle.es_statement_runs.specs.Programs.{names_no_cell}
use Rattle.es_statement_runs.specs.Runs.{RunAlike}
use Rattle.es_statement_runs.proofs.BareVars.{Unsaid, beside_run_where, said_alike_from, start_same, top_worlds, unsaid_inside, unsaid_top}
use Rattle.es_statement_runs.proofs.Catches.{one_quiet, one_stack}
use Rattle.es_statement_steps.proofs.Below.{BelowTrees, both_trees, map_trees, nodes_below}
use Rattle.es_statement_steps.proofs.FreshNames.{top_used, unused_avoids_all}
use Rattle.es_statement_steps.proofs.MadeNames.{made_apart, made_no_cell}
use Rattle.es_statement_steps.proofs.Stands.{standing, stands}
use Rattle.es_rest_runs.proofs.GrownNames.{Apt, Part}
use Rattle.es_rest_runs.proofs.GrownPrograms.{ProgramChanged}
use Rattle.es_rest_runs.proofs.Stores.{IsNew, undeclared_is}
use Rattle.es_moved_runs.proofs.HeldNames.{bad_alone}
use Rattle.es_moved_runs.proofs.TurnedNames.{Turned, tops_same, using_all}
use Rattle.es_moved_runs.proofs.TurnedPlaces.{Placed, Sound, placed_list}

-- no name stands for a helper or for keys
abbrev pub NoneSaid : World → World → Type 0
NoneSaid w v = Unsaid (λ y. true) w v

-- what a place owes: its two sides mean the same, wherever it is
abbrev pub MeansSame : Supply → Text → (Tree → Tree → Type 0) → Type 0
MeansSame u x A =
    (t : Take) (a b : Tree) → A a b → Sound a → avoids (bad_alone x) t a ≡ true → (w v : World) → SameWorld (only x) w v → NoneSaid w v → (ls : List Text) (y : Text) →
    SenseLike (apart_from x) w v t (sense (placed_at u w ls y) a) (sense (placed_at u v ls y) b)

-- the names by which a program gets its helpers are seen
pub made_seen : (u : Supply) (w : Whole) (x : Text) → IsNew w x → SupplySeen (apart_from x) u
made_seen Supply.no_helpers w x new = tt
made_seen Supply.spread_by_global w x new = record { global = made_apart (codes "babelHelpers") x refl new.1; require = made_apart (codes "require") x refl new.1 }
made_seen Supply.by_global w x new = record { global = made_apart (codes "babelHelpers") x refl new.1; require = made_apart (codes "require") x refl new.1 }
made_seen (Supply.by_import m) w x new = record { global = made_apart (codes "babelHelpers") x refl new.1; require = made_apart (codes "require") x refl new.1 }
made_seen (Supply.by_require m) w x new = record { global = made_apart (codes "babelHelpers") x refl new.1; require = made_apart (codes "require") x refl new.1 }

-- a new name is none in use
pub new_apart : (w : Whole) (x : Text) → IsNew w x → (y : Text) → w.in_use y ≡ true → only x y ≡ false
new_apart w x new y used = at (only x y) refl
  where
    at : (b : Bool) → only x y ≡ b → b ≡ false
    at true g = absurd (let same : y ≡ x = (bytes_eq-Decides y x).0 g in let no : false ≡ true = sym new.0 ∙ ap w.in_use (sym same) ∙ used in cc no)
    at false g = refl

module _ (u : Supply) (w : Whole) (x : Text) (new : IsNew w x) (A : Tree → Tree → Type 0) (turn : (a b : Tree) → A a b → Turned a b) (vars : (a b : Tree) → A a b → Apt a → var_names b ≡ var_names a) (means : MeansSame u x A)
    (p q : Tree) (apt : Apt p) (cells : all_nodes names_no_cell p ≡ true) (named : Named w.in_use w.free_symbol reads p) (changed : ProgramChanged A p q) (silent : silent_names u p ≡ []) (silent_after : silent_names u q ≡ []) where
  abbrev P : Tree
  P = program changed.label changed.directives changed.body

  abbrev Q : Tree
  Q = program changed.label changed.directives changed.after

  abbrev fields : Fields
  fields = many changed.directives then (statements changed.body then done)

  names : Named w.in_use w.free_symbol reads P
  names = subst (λ t. Named w.in_use w.free_symbol reads t) changed.first named

  fine : Apt P
  fine = subst (λ t. Apt t) changed.first apt

  none : silent_names u P ≡ []
  none = sym (ap (silent_names u) changed.first) ∙ silent

  none_after : silent_names u Q ≡ []
  none_after = sym (ap (silent_names u) changed.second) ∙ silent_after

  parts : BelowTrees Apt changed.body
  parts = map_trees (Part Program 1) Apt (λ t h. h.0) changed.body changed.parts

  cell_parts : BelowTrees (λ t. all_nodes names_no_cell t ≡ true) changed.body
  cell_parts = (nodes_below names_no_cell fields (subst (λ t. all_nodes names_no_cell t ≡ true) changed.first cells)).1.0

  sound : BelowTrees Sound changed.body
  sound = both_trees Apt (λ t. all_nodes names_no_cell t ≡ true) changed.body parts cell_parts

  tops : top_in changed.after ≡ top_in changed.body
  tops = tops_same A turn vars changed.changed parts

  avoid : avoids_trees (bad_alone x) body_needs changed.body ≡ true
  avoid = unused_avoids_all w.in_use w.free_symbol (only x) (λ y e. new_apart w x new y e) (role_at reads Program changed.label fields 1) body_needs changed.body (λ e. absurd (cc e)) names.1.1.0 (and_parts (all_in_trees stands changed.body) true (and_parts (all_in_trees stands changed.directives) (all_in_trees stands changed.body && true) (standing Program changed.label fields fine.0).below).1).0

  unsaid : (t : Tree) → silent_names u t ≡ [] → (y : Text) → is_silent (silent_names u t) y ≡ false
  unsaid t e y = ap (λ es. is_silent es y) e

  kinds : (y : Text) → only x y ≡ false → kind_in (top_in changed.after) y ≡ kind_in (top_in changed.body) y
  kinds y h = ap (λ ds. kind_in ds y) tops

  list_runs : RunAlike u false P Q
  list_runs =
      beside_run_where (apart_from x) (one_quiet x (made_apart (codes "Math") x refl new.1) (made_no_cell x new.1)) (one_stack x (made_no_cell x new.1)) (bad_alone x) (λ n y h. h) u (made_seen u w x new) (λ es w v. NoneSaid w v)
      (λ es w v same h. said_alike_from (apart_from x) u w v same (λ y e. h y refl)) (λ ds es vis w v h. unsaid_inside (λ y. true) es w v h) (Placed A turn vars (bad_alone x)) (λ es t a b h w v same known ls y. means t a b h.0 h.1.0 h.1.1 w v same known ls y)
      false changed.label changed.directives changed.body changed.after (placed_list A turn vars (bad_alone x) changed.changed (top_in changed.body) true sound avoid) (using_all A turn vars changed.changed)
      (top_worlds (only x) true u changed.label changed.directives changed.body changed.after kinds (none_after ∙ sym none))
      (λ this y e. (unsaid_top u P y (unsaid P none y), unsaid_top u Q y (unsaid Q none_after y)))
      (start_same (only x) (top_in changed.body) (top_in changed.after) kinds)
      (λ y d. new_apart w x new y (top_used w.in_use w.free_symbol changed.label fields fine.0 names y (undeclared_is (top_in changed.body) y d)))

  pub turned_run : RunAlike u false p q
  turned_run = subst (λ t. RunAlike u false t q) (sym changed.first) (subst (λ t. RunAlike u false P t) (sym changed.second) list_runs)

  -- what the top declares it still declares
  pub turned_declared : (z : Text) → is_declared (declared_at_top p) z ≡ true → is_declared (declared_at_top q) z ≡ true
  turned_declared z e =
      subst (λ t. is_declared (declared_at_top t) z ≡ true) {x = Q} (sym changed.second) (ap (λ ds. is_declared ds z) tops ∙ subst (λ t. is_declared (declared_at_top t) z ≡ true) {x = p} changed.first e)
