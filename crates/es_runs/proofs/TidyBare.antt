-- Ids and marks mean nothing for where optional marks stand.
use Rattle.std.proofs.Common.{◌≡◌, refl, ap}
use Rattle.std.specs.Prelude.{Bool, false, ◌&&◌, ◌||◌, not}
use Rattle.es_tree.specs.Bare.{bare, bare_fields, bare_field, bare_trees}
use Rattle.es_tree.specs.Tree.{Tree, node, Fields, done, ◌then◌, Field, missing, one, many, statements, Trees, empty, ◌before◌}
use Rattle.es_runs.specs.Rules.{is_marked, on_spine, strays, strays_fields, strays_field, strays_nodes}

mutual
  pub strays-bare : (on : Bool) (t : Tree) → strays on (bare t) ≡ strays on t
  strays-bare on (node k l fs) = ap (λ (b : Bool). (is_marked k l.flags && not on) || b) (fields-bare (on_spine k on) fs)

  fields-bare : (on : Bool) (fs : Fields) → strays_fields on (bare_fields fs) ≡ strays_fields on fs
  fields-bare on done = refl
  fields-bare on (f then fs) = λ i. field-bare on f i || fields-bare false fs i

  field-bare : (on : Bool) (f : Field) → strays_field on (bare_field f) ≡ strays_field on f
  field-bare on missing = refl
  field-bare on (one t) = strays-bare on t
  field-bare on (many ts) = trees-bare on ts
  field-bare on (statements ts) = trees-bare on ts

  trees-bare : (on : Bool) (ts : Trees) → strays_nodes on (bare_trees ts) ≡ strays_nodes on ts
  trees-bare on empty = refl
  trees-bare on (t before ts) = λ i. strays-bare on t i || trees-bare on ts i
