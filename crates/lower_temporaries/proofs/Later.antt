-- What is known at a moment, at a later one.
use Rattle.std.proofs.Common.{◌≡◌, ◌+◌, ◌<◌, ℕ, length, subst, List}
use Rattle.es_resolution.specs.Declarations.{Bound}
use Rattle.es_scope.specs.Contexts.{KeepsNames, KeptBeside, table_of}
use Rattle.es_scope.specs.declared.context.TraverseCtx.{TraverseCtx}
use Rattle.es_steps.specs.Duplication.{IsNext}
use Rattle.es_steps.specs.Open.{with_vars}
use Rattle.es_steps.specs.Steps.{Whole}
use Rattle.es_tree.specs.Words.{Text}
use Rattle.lower_temporaries.specs.Takings.{ReadsMore, Takes, moment_of}
use Rattle.lower_temporaries.specs.declared.state.TransformState.{TransformState}
use Rattle.lower_temporaries.proofs.Pairs.{with_top-there}
use Rattle.lower_temporaries.proofs.Takings.{reads-ids, reads-then}

-- the next temporary, of the same base, with the same known
pub next-moved : {v w : Whole} {b c : Text} {x : Bound} → v ≡ w → b ≡ c → IsNext v b x → IsNext w c x
next-moved {v} {w} {b} {c} {x} same base next = subst (λ (k : Whole). IsNext k c x) same (subst (λ (d : Text). IsNext v d x) base next)

-- ids that were taken beside references that read
pub reads-made : {m : ℕ} (n k : ℕ) (old mid new : TraverseCtx TransformState) → ReadsMore m old mid → new.ast.next ≡ mid.ast.next + n → table_of new ≡ table_of mid → KeepsNames mid new → KeptBeside mid new → m + n ≡ k → ReadsMore k old new
reads-made {m} n k old mid new r next table names kept count = subst (λ (i : ℕ). ReadsMore i old new) count (reads-then r (reads-ids n mid new next table names kept))

-- a statement list stays open
pub there-moved : {bs : List Bound} {ids : ℕ} (old new : TraverseCtx TransformState) → Takes bs ids (moment_of old) (moment_of new) → 0 < length old.state.var_declarations → 0 < length new.state.var_declarations
there-moved {bs} old new t h = with_top-there (with_vars bs) (moment_of old).lists (moment_of new).lists t.lists_are h
