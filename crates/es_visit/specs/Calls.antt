-- What hooks do to the ids of a tree, and how often a type may count that they were called.
use Rattle.std.specs.Prelude.{◌≡◌, ◌⊎◌, ℕ, ◌+◌, ◌≤◌, ◌==◌, if◌then◌else◌, nat_le, Option, Some, None}
use Rattle.es_tree.specs.Tree.{Tree, Trees, label_of}
use Rattle.es_tree.specs.declared.ast_type.AstType.{AstType}
use Rattle.es_tree.specs.declared.options.EnvOptions.{EnvOptions}
use Rattle.es_visit.specs.declared.hook.Hook.{Hook}
use Rattle.es_visit.specs.declared.hook.Hook.TheVariants.{ArrowFunctionBody, Expression, Statement}
use Rattle.es_visit.specs.Counts.{Measure, just, nodes_of, places_of, total, total_among}
use Rattle.es_visit.specs.Hooks.{hook_number, hook_of_kind}

-- IDS

-- the node keeps its id, and no node, statement list or list of parameters is taken away
pub record KeepsIds (t u : Tree) : Type 0 where
  pub root : (label_of u).id ≡ (label_of t).id
  pub all : (m : Measure) → total m t ≤ total m u

-- the same of a list
abbrev pub KeepsAllIds : Trees → Trees → Type 0
KeepsAllIds ts us = (m : Measure) → total_among m ts ≤ total_among m us

-- TALLIES OF HOOKS

-- A type may count how often its exit hooks were called at the nodes of an id (`tally`), and how often its enter hooks were
-- called (`entries`), as far as it keeps count. Entries have no id: an enter hook may put a made node, which has an id of its
-- own, in the place of its node, and the node below it, where it gets the hook again.

abbrev pub NoExit : (Hook → ℕ → ℕ) → (Hook → ℕ → ℕ) → Type 0
NoExit old new = (h : Hook) (j : ℕ) → new h j ≤ old h j

abbrev pub NoEntry : (Hook → ℕ) → (Hook → ℕ) → Type 0
NoEntry old new = (h : Hook) → new h ≤ old h

-- so much for this hook, and nothing for the others
abbrev pub one_call : Hook → ℕ → Hook → ℕ
one_call g n h = if hook_number g == hook_number h then n else 0

-- at most one more, of this hook at the node of this id
abbrev pub OneExit : Hook → ℕ → (Hook → ℕ → ℕ) → (Hook → ℕ → ℕ) → Type 0
OneExit g i old new = (h : Hook) (j : ℕ) → new h j ≤ old h j + one_call g (just i j) h

-- at most one more, of this hook
abbrev pub OneEntry : Hook → (Hook → ℕ) → (Hook → ℕ) → Type 0
OneEntry g old new = (h : Hook) → new h ≤ old h + one_call g 1 h

-- Before a node or a list: a type that holds its settings goes on with them, and counts this enter hook at most once.
pub record Goes {X : Type 0} (suits : X → EnvOptions → Type 0) (tally : X → Hook → ℕ → ℕ) (entries : X → Hook → ℕ) (o : EnvOptions) (hook : Hook) (x y : X) : Type 0 where
  pub suits_still : suits y o
  pub no_exit : NoExit (tally x) (tally y)
  pub one_entry : OneEntry hook (entries x) (entries y)

-- After a node: it counts this exit hook at most once, at this node.
pub record GoesOut {X : Type 0} (suits : X → EnvOptions → Type 0) (tally : X → Hook → ℕ → ℕ) (entries : X → Hook → ℕ) (o : EnvOptions) (hook : Hook) (id : ℕ) (x y : X) : Type 0 where
  pub suits_still : suits y o
  pub one_exit : OneExit hook id (tally x) (tally y)
  pub no_entry : NoEntry (entries x) (entries y)

-- After a list, which has no id: it counts no hook.
pub record GoesOutOfList {X : Type 0} (suits : X → EnvOptions → Type 0) (tally : X → Hook → ℕ → ℕ) (entries : X → Hook → ℕ) (o : EnvOptions) (x y : X) : Type 0 where
  pub suits_still : suits y o
  pub no_exit : NoExit (tally x) (tally y)
  pub no_entry : NoEntry (entries x) (entries y)

-- the greater of two counts
abbrev pub most : ℕ → ℕ → ℕ
most m n = if nat_le m n then n else m

-- A PART

-- A type goes on with its settings, and counts at most so many calls more: of its exit hooks as this sums to over the nodes
-- of an id, of each enter hook as it does over the places that may get it.
pub record Counted {X : Type 0} (suits : X → EnvOptions → Type 0) (tally : X → Hook → ℕ → ℕ) (entries : X → Hook → ℕ) (o : EnvOptions) (x y : X) (sum : Measure → ℕ) : Type 0 where
  pub suits_still : suits y o
  pub exits : (h : Hook) (j : ℕ) → tally y h j ≤ tally x h j + sum (nodes_of j)
  pub enters : (h : Hook) → entries y h ≤ entries x h + sum (places_of h)

-- so much for the hook of a node's kind
abbrev pub kind_call : Option Hook → ℕ → Hook → ℕ
kind_call None n h = 0
kind_call (Some g) n h = one_call g n h

-- ON THE WAY IN

-- It counts at most one enter hook more, that of this kind.
pub record GoesByKind {X : Type 0} (suits : X → EnvOptions → Type 0) (tally : X → Hook → ℕ → ℕ) (entries : X → Hook → ℕ) (o : EnvOptions) (k : AstType) (x y : X) : Type 0 where
  pub suits_still : suits y o
  pub no_exit : NoExit (tally x) (tally y)
  pub one_entry : (h : Hook) → entries y h ≤ entries x h + kind_call (hook_of_kind k) 1 h

-- It counts at most one enter hook more, that of expressions or that of statements.
pub record GoesBySort {X : Type 0} (suits : X → EnvOptions → Type 0) (tally : X → Hook → ℕ → ℕ) (entries : X → Hook → ℕ) (o : EnvOptions) (x y : X) : Type 0 where
  pub suits_still : suits y o
  pub no_exit : NoExit (tally x) (tally y)
  pub one_entry : NoEntry (entries x) (entries y) ⊎ OneEntry Expression (entries x) (entries y) ⊎ OneEntry Statement (entries x) (entries y)

-- It counts at most one enter hook more, that of the body of an arrow.
pub record GoesAtBody {X : Type 0} (suits : X → EnvOptions → Type 0) (tally : X → Hook → ℕ → ℕ) (entries : X → Hook → ℕ) (o : EnvOptions) (x y : X) : Type 0 where
  pub suits_still : suits y o
  pub no_exit : NoExit (tally x) (tally y)
  pub one_entry : NoEntry (entries x) (entries y) ⊎ OneEntry ArrowFunctionBody (entries x) (entries y)

-- It counts each enter hook of a node at most once.
pub record GoesIn {X : Type 0} (suits : X → EnvOptions → Type 0) (tally : X → Hook → ℕ → ℕ) (entries : X → Hook → ℕ) (o : EnvOptions) (x y : X) : Type 0 where
  pub suits_still : suits y o
  pub no_exit : NoExit (tally x) (tally y)
  pub enters : (h : Hook) (i : ℕ) → entries y h ≤ entries x h + (places_of h).node i

-- ON THE WAY OUT

-- It counts at most one exit hook more, that of this kind at this node.
pub record GoesOutByKind {X : Type 0} (suits : X → EnvOptions → Type 0) (tally : X → Hook → ℕ → ℕ) (entries : X → Hook → ℕ) (o : EnvOptions) (k : AstType) (id : ℕ) (x y : X) : Type 0 where
  pub suits_still : suits y o
  pub one_exit : (h : Hook) (j : ℕ) → tally y h j ≤ tally x h j + kind_call (hook_of_kind k) (just id j) h
  pub no_entry : NoEntry (entries x) (entries y)

-- It counts at most one exit hook more, that of expressions or that of statements, at this node.
pub record GoesOutBySort {X : Type 0} (suits : X → EnvOptions → Type 0) (tally : X → Hook → ℕ → ℕ) (entries : X → Hook → ℕ) (o : EnvOptions) (id : ℕ) (x y : X) : Type 0 where
  pub suits_still : suits y o
  pub one_exit : NoExit (tally x) (tally y) ⊎ OneExit Expression id (tally x) (tally y) ⊎ OneExit Statement id (tally x) (tally y)
  pub no_entry : NoEntry (entries x) (entries y)

-- It counts at most one exit hook more, that of the body of an arrow, at this node.
pub record GoesOutAtBody {X : Type 0} (suits : X → EnvOptions → Type 0) (tally : X → Hook → ℕ → ℕ) (entries : X → Hook → ℕ) (o : EnvOptions) (id : ℕ) (x y : X) : Type 0 where
  pub suits_still : suits y o
  pub one_exit : NoExit (tally x) (tally y) ⊎ OneExit ArrowFunctionBody id (tally x) (tally y)
  pub no_entry : NoEntry (entries x) (entries y)

-- It counts each exit hook of a node at most once, at this node.
pub record GoesOutOfNode {X : Type 0} (suits : X → EnvOptions → Type 0) (tally : X → Hook → ℕ → ℕ) (entries : X → Hook → ℕ) (o : EnvOptions) (id : ℕ) (x y : X) : Type 0 where
  pub suits_still : suits y o
  pub exits : (h : Hook) (j : ℕ) → tally y h j ≤ tally x h j + just j id
  pub no_entry : NoEntry (entries x) (entries y)
