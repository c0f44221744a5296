-- A pattern's value is stored in a fresh name, and the pattern takes it from there.
use Rattle.std.proofs.Common.{◌≡◌, refl, ap, List, [], ◌∷◌}
use Rattle.std.specs.Prelude.{true}
use Rattle.es_tree.specs.Words.{Text}
use Rattle.es_tree.specs.Names.{first_text}
use Rattle.es_tree.specs.Scopes.{Declared}
use Rattle.es_tree.specs.Tree.{Tree, Label, Trees, ◌before◌}
use Rattle.es_runs.specs.Machine.{Value, M, ◌>>=◌, return, set_cell}
use Rattle.es_runs.specs.Machine.Value.{undefined}
use Rattle.es_runs.specs.Core.{Meaning, World, declarator, name, value}
use Rattle.es_runs.specs.Alike.{Alike, Equal, Frame, SameWorld}
use Rattle.es_runs.specs.Runs.{none_hidden}
use Rattle.es_runs.proofs.Basic.{then_alike}
use Rattle.es_statement_runs.specs.Alike.{SenseLike}
use Rattle.es_statement_runs.specs.Helpers.{Supply}
use Rattle.es_statement_runs.specs.Kinds.{sense, senses}
use Rattle.es_statement_runs.specs.Laws.{among_names, any_cells, declares_from, object_pattern_at}
use Rattle.es_statement_runs.specs.Patterns.{object_pattern}
use Rattle.es_statement_runs.specs.Places.{Take, placed_at, target_taken, value_taken}
use Rattle.es_statement_runs.specs.Senses.{cores, members_in, said_in}
use Rattle.es_statement_runs.proofs.CatchPatterns.{aims_like}
use Rattle.es_statement_runs.proofs.PatternsAlike.{put_alike_then}
use Rattle.es_split_runs.specs.Laws.{FreshNames, LawStored, StoreRow, marked}
use Rattle.es_split_runs.specs.Laws.StoreRow.{store_row}
use Rattle.es_split_runs.proofs.Declarators.{and_undefined, bound_says, is_bound, named_core, regroup, turns_by, ungroup, valued_more}
use Rattle.es_split_runs.proofs.KnownNames.{Known, fresh_quiet, fresh_run, fresh_stack}
use Rattle.es_split_runs.proofs.Parts.{part_like}
use Rattle.es_split_runs.proofs.Split.{split_like, stored}

module _ (u : Supply) (xs : List Text) {l : Label} {ds body after : Trees} (fresh : FreshNames u xs l ds body after) where
  abbrev F : Frame
  F = any_cells (among_names xs)

  store_like : (es : List Declared) (t : Take) (a b : Tree) → StoreRow xs es t a b → (w v : World) → SameWorld (among_names xs) w v → Known (among_names xs) none_hidden xs es w v → (ls : List Text) (y : Text) → SenseLike F w v t (sense (placed_at u w ls y) a) (sense (placed_at u v ls y) b)
  store_like es t _ _ (store_row {m = m} {o = o} d n k lp i j x a ps e c texts is_fresh declared not_using avoid_a avoid_p avoid_e avoid_c) w v same known ls y =
      let kind = first_text m.texts in
      let q = fresh_quiet (among_names xs) none_hidden xs fresh in
      let st = fresh_stack (among_names xs) none_hidden xs fresh in
      let bound : is_bound (v.scope x) ≡ true = known.1 x is_fresh declared in
      let pw = placed_at u w [] kind in
      let pv = placed_at u v [] kind in
      let inner_w = placed_at u w [] [] in
      let inner_v = placed_at u v [] [] in
      let P = object_pattern (members_in (senses inner_w ps)) in
      let Q = object_pattern (members_in (senses inner_v ps)) in
      let E : M Value = value w (sense inner_w e).core in
      let E' : M Value = value v (sense inner_v e).core in
      let D = declares_from n (marked i x) e in
      let source : M Value = E >>= P in
      let T : M Value = E' >>= set_cell x in
      let U : M Value = value v (name x) >>= Q in
      let whole = part_like F q st u fresh.supply w v same known.0 target_taken (object_pattern_at lp ps) avoid_p [] [] in
      let value_like = (part_like F q st u fresh.supply w v same known.0 value_taken e avoid_e [] []).core.evaluation in
      let main : Alike F Equal source (T >>= λ _. U) = regroup F source E' (set_cell x) U
      (then_alike F value_like (λ z. stored F x is_fresh refl (λ c y d. tt) v bound P Q z (put_alike_then F (aims_like (whole.more refl)) z))) in
      split_like F q st u fresh.supply w v same known.0 a c kind avoid_a avoid_c _ _ source (T ∷ U ∷ []) refl refl
      (ap (λ (z : Meaning). z ∷ cores (senses pv (declares_from k (object_pattern_at lp ps) (marked j x) before c))) (named_core pv (said_in u (v.scope x)) _ (sense inner_v e) (declarator v (name x) (sense inner_v e).core) (bound_says u (v.scope x) bound) not_using))
      (valued_more pv _ _ _ _)
      (turns_by F (T ∷ U ∷ []) (ungroup F source T U (return undefined) (and_undefined F main))) t m o refl texts ls y

pub law_stored_proof : LawStored
law_stored_proof u xs l ds body after rows fresh = fresh_run (among_names xs) none_hidden xs u l ds body after (StoreRow xs) fresh (store_like u xs fresh) fresh.unsilent (λ y e. absurd (cc e)) rows
