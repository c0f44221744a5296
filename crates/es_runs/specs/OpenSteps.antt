-- Steps of rules at places of open programs, and what is reached by them.
use Rattle.std.specs.Prelude.{◌≡◌, ℕ, zero, suc, List, [], Bool}
use Rattle.es_tree.specs.Words.{Text}
use Rattle.es_tree.specs.Bare.{bare}
use Rattle.es_tree.specs.Names.{names_of}
use Rattle.es_tree.specs.Fresh.{is_among}
use Rattle.es_tree.specs.Scopes.{declared_of, declares, is_steady}
use Rattle.es_tree.specs.declared.ast_type.AstType.{AstType}
use Rattle.es_tree.specs.Tree.{Tree, Trees, Label}
use Rattle.es_runs.specs.Alike.{Need, needs, all_of_it}
use Rattle.es_runs.specs.Open.{Pending, nothing_pending, Additions, no_additions, Open, open_node, OpenFields, ◌and◌, OpenField, child, children, list, OpenTrees, ◌next◌, opened, opened_trees}

-- What is known of the program as a whole: the names in use, those that the source binds, those of them that nothing
-- writes, the fresh names in the order made, and what is to be written at its top.
pub record Whole : Type 0 where
  pub in_use : Text → Bool
  pub bound : Text → Bool
  pub steady : Text → Bool
  pub made : List Text
  pub others : Additions

-- beside a part of an open program: what is known of the whole, and what is pending for the innermost list around
pub data Ledger : Type 0 where
  ledger : Whole → Pending → Ledger

abbrev pub whole_in : Ledger → Whole
whole_in (ledger w p) = w

abbrev pub pending_in : Ledger → Pending
pending_in (ledger w p) = p

-- where a rule acts: at a node, or at a statement list with what is pending for it
pub data Spot : Type 0 where
  at_node : Tree → Spot
  at_list : Pending → Trees → Spot

-- A rule: what its place takes of what stands there, the ledger and the spot before, and both afterwards. Nothing is
-- pending inside the node, or for the lists inside the statements, on which it acts.
abbrev pub Rule : Type 1
Rule = Need → Ledger → Spot → Ledger → Spot → Type 0

-- One step: a rule at one place, and all else stays. Inside a statement list what is pending is that list's own.
mutual
  pub data Step (R : Need → Ledger → Spot → Ledger → Spot → Type 0) : Need → Ledger → Open → Ledger → Open → Type 0 where
    acts : {n : Need} {s s' : Ledger} (t u : Tree) → R n s (at_node t) s' (at_node u) → Step R n s (opened t) s' (opened u)
    inside : {n : Need} {s s' : Ledger} {k : AstType} {l : Label} {fs gs : OpenFields} → FieldsStep R (needs n k l.texts l.flags) s fs s' gs → Step R n s (open_node k l fs) s' (open_node k l gs)

  pub data FieldsStep (R : Need → Ledger → Spot → Ledger → Spot → Type 0) : (ℕ → Need) → Ledger → OpenFields → Ledger → OpenFields → Type 0 where
    in_first : {c : ℕ → Need} {s s' : Ledger} {f g : OpenField} {fs : OpenFields} → FieldStep R (c zero) s f s' g → FieldsStep R c s (f and fs) s' (g and fs)
    in_later : {c : ℕ → Need} {s s' : Ledger} {f : OpenField} {fs gs : OpenFields} → FieldsStep R (λ i. c (suc i)) s fs s' gs → FieldsStep R c s (f and fs) s' (f and gs)

  pub data FieldStep (R : Need → Ledger → Spot → Ledger → Spot → Type 0) : Need → Ledger → OpenField → Ledger → OpenField → Type 0 where
    in_child : {n : Need} {s s' : Ledger} {t u : Open} → Step R n s t s' u → FieldStep R n s (child t) s' (child u)
    in_children : {n : Need} {s s' : Ledger} {ts us : OpenTrees} → TreesStep R n s ts s' us → FieldStep R n s (children ts) s' (children us)
    within : {n : Need} {w w' : Whole} {o p q : Pending} {ts us : OpenTrees} → TreesStep R n (ledger w p) ts (ledger w' q) us → FieldStep R n (ledger w o) (list p ts) (ledger w' o) (list q us)
    acts_on_list : {n : Need} {s s' : Ledger} {p q : Pending} (ts us : Trees) → R n s (at_list p ts) s' (at_list q us) → FieldStep R n s (list p (opened_trees ts)) s' (list q (opened_trees us))

  pub data TreesStep (R : Need → Ledger → Spot → Ledger → Spot → Type 0) : Need → Ledger → OpenTrees → Ledger → OpenTrees → Type 0 where
    in_head : {n : Need} {s s' : Ledger} {t u : Open} {ts : OpenTrees} → Step R n s t s' u → TreesStep R n s (t next ts) s' (u next ts)
    in_tail : {n : Need} {s s' : Ledger} {t : Open} {ts us : OpenTrees} → TreesStep R n s ts s' us → TreesStep R n s (t next ts) s' (t next us)

-- steps in a row
pub data Steps {X : Type 0} (S : Ledger → X → Ledger → X → Type 0) : Ledger → X → Ledger → X → Type 0 where
  stays : {s : Ledger} {t : X} → Steps S s t s t
  goes : {s s' s'' : Ledger} {t u v : X} → S s t s' u → Steps S s' u s'' v → Steps S s t s'' v

-- the ledger of a program before the first step: its own names are in use, and nothing is pending
abbrev pub whole_of : Tree → Whole
whole_of p = record { in_use = is_among (names_of p); bound = declares (declared_of p); steady = is_steady p; made = []; others = no_additions }

-- From p with nothing pending steps of the rule lead to q with nothing pending, and these are the names that they make,
-- in their order. Ids and marks are no part of it.
pub record Reached (R : Need → Ledger → Spot → Ledger → Spot → Type 0) (p : Tree) (names : List Text) (q : Tree) : Type 0 where
  pub whole : Whole
  pub steps : Steps (Step R all_of_it) (ledger (whole_of p) nothing_pending) (opened (bare p)) (ledger whole nothing_pending) (opened (bare q))
  pub made : whole.made ≡ names
  pub others : whole.others ≡ no_additions
