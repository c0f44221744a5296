-- Parts that hold none of these names, and don't write the frozen ones, are alike.
use Rattle.std.proofs.Common.{◌≡◌, List, []}
use Rattle.std.specs.Prelude.{Bool, true}
use Rattle.es_tree.specs.Words.{Text}
use Rattle.es_tree.specs.Tree.{Tree, Trees, empty, ◌before◌}
use Rattle.es_runs.specs.Core.{World}
use Rattle.es_runs.specs.Alike.{Frame, SameWorld, bad_names}
use Rattle.es_statement_runs.specs.Alike.{Quiet, SenseLike, SensesLike, StackSeen}
use Rattle.es_statement_runs.specs.Alike.SensesLike.{no_sense, sense_and}
use Rattle.es_statement_runs.specs.Helpers.{Supply}
use Rattle.es_statement_runs.specs.Kinds.{sense, senses}
use Rattle.es_statement_runs.specs.Laws.{no_row}
use Rattle.es_statement_runs.specs.Places.{SupplySeen, Take, avoids, avoids_trees, placed_at}
use Rattle.es_statement_runs.proofs.BareVars.{Unsaid, beside_like, said_alike_from, self_beside, unsaid_inside}
use Rattle.es_statement_runs.proofs.BareVars.Places.{both_at}
use Rattle.es_statement_runs.proofs.Everywhere.{both_left, both_right}

module _ (F : Frame) (quiet : Quiet F) (stack : StackSeen F) (o : Supply) (seen : SupplySeen F o) (w v : World) (same : SameWorld F.hidden w v) (unsaid : Unsaid F.hidden w v) where
  pub part_like : (t : Take) (a : Tree) → avoids (bad_names F.hidden F.frozen) t a ≡ true → (ls : List Text) (x : Text) → SenseLike F w v t (sense (placed_at o w ls x) a) (sense (placed_at o v ls x) a)
  part_like t a h ls x = beside_like F quiet stack (bad_names F.hidden F.frozen) (λ n x h. h) o seen (λ es w v. Unsaid F.hidden w v) (λ es w v same h. said_alike_from F o w v same h) (λ ds es vis w v h. unsaid_inside F.hidden es w v h) (λ es. no_row) (λ es t a b i. absurd i)
      (self_beside (bad_names F.hidden F.frozen) (λ es. no_row) a [] t h) (both_at {ls = ls} {x = x} same unsaid)

  pub parts_like : (t : Take) (ts : Trees) → avoids_trees (bad_names F.hidden F.frozen) t ts ≡ true → (ls : List Text) (x : Text) → SensesLike F w v t (senses (placed_at o w ls x) ts) (senses (placed_at o v ls x) ts)
  parts_like t empty h ls x = no_sense
  parts_like t (a before ts) h ls x =
      let b : Bool = avoids (bad_names F.hidden F.frozen) t a in
      let c : Bool = avoids_trees (bad_names F.hidden F.frozen) t ts in
      sense_and (part_like t a (both_left b c h) ls x) (parts_like t ts (both_right b c h) ls x)
