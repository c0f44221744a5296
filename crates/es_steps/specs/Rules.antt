-- What rules are made of: the names that they take, rules of nodes, and writing what is pending.
use Rattle.std.specs.Prelude.{◌⊎◌, ◌+◌, length, List, ◌∷◌, ◌++◌, Bool, Option, Some, None, if◌then◌else◌, [], ℕ}
use Rattle.es_resolution.specs.Declarations.{Bound}
use Rattle.es_steps.specs.Open.{Pending, nothing_pending, Additions, no_additions, written_body, with_vars, whole_list, flanks_with}
use Rattle.es_steps.specs.Steps.{Whole, Ledger, ledger, Site, Spot, at_node, at_beside, at_body, at_list, at_trees}
use Rattle.es_tree.specs.Fresh.{also}
use Rattle.es_tree.specs.References.{is_symbol}
use Rattle.es_tree.specs.Tree.{Tree, ◌then◌, empty, Trees}
use Rattle.es_tree.specs.Words.{Text}

-- these temporaries more
abbrev pub also_all : List Bound → (Text → Bool) → Text → Bool
also_all [] in_use y = in_use y
also_all (b ∷ bs) in_use y = also_all bs (also b.name in_use) y

-- the names of symbols, with these
abbrev pub calling : List Bound → (ℕ → Text) → ℕ → Text
calling [] called s = called s
calling (b ∷ bs) called s = if is_symbol s b.symbol then b.name else calling bs called s

abbrev pub with_made : List Bound → Whole → Whole
with_made bs w = record w { in_use = also_all bs w.in_use; free_symbol = w.free_symbol + length bs; called = calling bs w.called; made = w.made ++ bs }

-- a rule of nodes: the site, what is known of the whole, the temporaries that it takes, the node before and after
abbrev pub NodeRule : Type 1
NodeRule = Site → Whole → List Bound → Tree → Tree → Type 0

pub data Replacing (R : Site → Whole → List Bound → Tree → Tree → Type 0) : Site → Ledger → Spot → Ledger → Spot → Type 0 where
  replaces : {n : Site} {w : Whole} {p : Pending} {x : Option Bound} {a : Additions} {t u : Tree} (bs : List Bound) → R n w bs t u → Replacing R n (ledger w p x a) (at_node t) (ledger (with_made bs w) (with_vars bs p) x a) (at_node u)

-- the fresh name with the next symbol
abbrev pub next_name : Whole → Text → Bound
next_name w x = record { name = x; symbol = Some w.free_symbol }

-- WRITING

pub data Writing : Site → Ledger → Spot → Ledger → Spot → Type 0 where
  -- the declarators of a list, or all that is pending for it
  declarators : {n : Site} {s : Ledger} {p : Pending} {x : Option Bound} {a : Additions} {ts : Trees} → Writing n s (at_list p x a ts) s (at_list nothing_pending x a (whole_list p None no_additions ts))
  all_pending : {n : Site} {s : Ledger} {p : Pending} {x : Option Bound} {a : Additions} {ts : Trees} → Writing n s (at_list p x a ts) s (at_list nothing_pending None no_additions (whole_list p x a ts))
  body_declarators : {n : Site} {s : Ledger} {p : Pending} {e : Tree} → Writing n s (at_body p e) s (at_node (written_body p e))
  insertions : {n : Site} {s : Ledger} {t : Tree} {bs cs : List Tree} → Writing n s (at_beside bs t cs) s (at_trees (flanks_with bs t cs empty))

-- one rule or the other
abbrev pub either_rule : (Site → Ledger → Spot → Ledger → Spot → Type 0) → (Site → Ledger → Spot → Ledger → Spot → Type 0) → Site → Ledger → Spot → Ledger → Spot → Type 0
either_rule Q R n s x s' y = Q n s x s' y ⊎ R n s x s' y
