-- The rules are lawful: one lemma for each.
use Rattle.std.proofs.Common.{arith, ◌≤◌, ◌+◌, length, ◌≡◌, ℕ, refl, sym, List, [], ◌∷◌}
use Rattle.std.specs.Prelude.{Bool, true, false, Option, Some, None, is_some, bytes_eq}
use Rattle.es_tree.specs.Words.{Text}
use Rattle.es_tree.specs.Fresh.{also}
use Rattle.es_tree.specs.Tree.{Tree, Trees, empty}
use Rattle.es_resolution.specs.Declarations.{Bound, sought}
use Rattle.es_resolution.specs.Called.{Called}
use Rattle.es_resolution.specs.Named.{NamedAll, Named}
use Rattle.es_steps.specs.Open.{Pending, Additions, written_body, whole_list, flanks_with, nothing_pending, no_additions}
use Rattle.es_steps.specs.Steps.{Whole, Ledger, Site, Spot}
use Rattle.es_steps.specs.Steps.Spot.{at_node, at_beside, at_body, at_list, at_trees}
use Rattle.es_steps.specs.Rules.{also_all, Replacing, Writing}
use Rattle.es_steps.specs.Rules.Replacing.{replaces}
use Rattle.es_steps.specs.Rules.Writing.{declarators, all_pending, body_declarators, insertions}
use Rattle.es_resolution.proofs.Basics.{or_true}
use Rattle.es_steps.proofs.Kept.{Each, IsNew, Kept}
use Rattle.es_steps.proofs.Kept.Change.{above}
use Rattle.es_steps.proofs.Lists.{written-first}
use Rattle.es_steps.proofs.Opened.{written-none}
use Rattle.es_steps.proofs.Taken.{whole_in, NodesKept, TreesKept, Outcome, Lawful, unchanged-trees}
use Rattle.es_steps.proofs.Taken.Goes.{to_list}

-- WRITING

abbrev pub IsWriting : Spot → Spot → Type 0
IsWriting (at_node t) y = ⊥
IsWriting (at_beside bs t cs) (at_trees us) = Unit {0}
IsWriting (at_beside bs t cs) _ = ⊥
IsWriting (at_list p x a ts) (at_list q y b us) = Unit {0}
IsWriting (at_list p x a ts) _ = ⊥
IsWriting (at_body p t) (at_node u) = Unit {0}
IsWriting (at_body p t) _ = ⊥
IsWriting (at_trees ts) y = ⊥

pub writes-lists : {n : Site} {s s' : Ledger} {x y : Spot} → Writing n s x s' y → IsWriting x y
writes-lists declarators = tt
writes-lists all_pending = tt
writes-lists body_declarators = tt
writes-lists insertions = tt

pub writing-lawful : Lawful Writing
writing-lawful = record { at_nodes = λ n s s' t u h used called. absurd (writes-lists h); flanking = λ n s s' t u bs cs h used. absurd (writes-lists h); at_lists = lists; at_bodies = bodies; unflanking = unflanked }
  where
    lists : (n : Site) (s s' : Ledger) (p q : Pending) (x y : Option Bound) (a b : Additions) (ts us : Trees) → Writing n s (at_list p x a ts) s' (at_list q y b us) → NamedAll (whole_in s).in_use (whole_in s).free_symbol n.role (whole_list p x a ts) → Outcome (TreesKept n (whole_list p x a ts) (whole_list q y b us)) s s'
    lists n s s' p q x y a b ts us declarators used = unchanged-trees n s s (whole_list p x a ts) (whole_list nothing_pending x a (whole_list p None no_additions ts)) refl (written-first p x a ts) used
    lists n s s' p q x y a b ts us all_pending used = unchanged-trees n s s (whole_list p x a ts) (whole_list nothing_pending None no_additions (whole_list p x a ts)) refl (sym (written-none (whole_list p x a ts))) used

    bodies : (n : Site) (s s' : Ledger) (p : Pending) (t u : Tree) → Writing n s (at_body p t) s' (at_node u) → (s ≡ s') × (written_body p t ≡ u)
    bodies n s s' p t u body_declarators = (refl, refl)

    unflanked : (n : Site) (s s' : Ledger) (t : Tree) (bs cs : List Tree) (us : Trees) → Writing n s (at_beside bs t cs) s' (at_trees us) → (s ≡ s') × (flanks_with bs t cs empty ≡ us)
    unflanked n s s' t bs cs us insertions = (refl, refl)

-- RULES OF NODES

pub used-after : (bs : List Bound) (in_use : Text → Bool) (y : Text) → in_use y ≡ true → also_all bs in_use y ≡ true
used-after [] in_use y e = e
used-after (b ∷ bs) in_use y e = used-after bs (also b.name in_use) y (or_true (in_use y) (bytes_eq b.name y) e)

pub freer_by : (m n : ℕ) → m ≤ m + n
freer_by m n = omega arith

-- what is to be proved of a rule of nodes
pub record NodeLaw (n : Site) (w : Whole) (bs : List Bound) (t u : Tree) : Type 0 where
  pub fresh : (y : Text) (o : Option ℕ) → sought bs y ≡ Some o → w.in_use y ≡ false
  pub sound : Each (λ b. (sought bs b.name ≡ Some b.symbol) × (is_some b.symbol ≡ true) × (also_all bs w.in_use b.name ≡ true)) bs
  pub range : Each (λ b. IsNew w.free_symbol (w.free_symbol + length bs) b.symbol) bs
  pub kept : Kept (record { in_use = w.in_use; in_use_after = also_all bs w.in_use; given = bs; free = w.free_symbol; free_after = w.free_symbol + length bs; more = used-after bs w.in_use; freer = freer_by w.free_symbol (length bs); range = range; fresh = fresh; sound = sound }) n.names above n.role t u

abbrev pub AtNodes : Spot → Spot → Type 0
AtNodes (at_node t) (at_node u) = Unit {0}
AtNodes x y = ⊥

-- a rule that replaces nodes alone, where symbols have their names
pub called-only : {R : Site → Ledger → Spot → Ledger → Spot → Type 0} → ((n : Site) (s s' : Ledger) (x y : Spot) → R n s x s' y → AtNodes x y) → ((n : Site) (s s' : Ledger) (t u : Tree) → R n s (at_node t) s' (at_node u) → Named (whole_in s).in_use (whole_in s).free_symbol n.role t → Called (whole_in s).called t → Outcome (NodesKept n t u) s s') → Lawful R
called-only at law = record {
  at_nodes = law;
  flanking = λ n s s' t u bs cs h used. absurd (at n s s' (at_node t) (at_beside bs u cs) h);
  at_lists = λ n s s' p q x y a b ts us h used. absurd (at n s s' (at_list p x a ts) (at_list q y b us) h);
  at_bodies = λ n s s' p t u h. absurd (at n s s' (at_body p t) (at_node u) h);
  unflanking = λ n s s' t bs cs us h. absurd (at n s s' (at_beside bs t cs) (at_trees us) h);
}

pub nodes-only : {R : Site → Ledger → Spot → Ledger → Spot → Type 0} → ((n : Site) (s s' : Ledger) (x y : Spot) → R n s x s' y → AtNodes x y) → ((n : Site) (s s' : Ledger) (t u : Tree) → R n s (at_node t) s' (at_node u) → Named (whole_in s).in_use (whole_in s).free_symbol n.role t → Outcome (NodesKept n t u) s s') → Lawful R
nodes-only {R} at law = called-only {R = R} at (λ n s s' t u h used called. law n s s' t u h used)

pub replaces-nodes : {R : Site → Whole → List Bound → Tree → Tree → Type 0} (n : Site) (s s' : Ledger) (x y : Spot) → Replacing R n s x s' y → AtNodes x y
replaces-nodes n s s' x y (replaces bs h) = tt

pub node-lawful : (R : Site → Whole → List Bound → Tree → Tree → Type 0) → ((n : Site) (w : Whole) (bs : List Bound) (t u : Tree) → R n w bs t u → Named w.in_use w.free_symbol n.role t → NodeLaw n w bs t u) → Lawful (Replacing R)
node-lawful R law = nodes-only {R = Replacing R} (replaces-nodes {R = R}) nodes
  where
    nodes : (n : Site) (s s' : Ledger) (t u : Tree) → Replacing R n s (at_node t) s' (at_node u) → Named (whole_in s).in_use (whole_in s).free_symbol n.role t → Outcome (NodesKept n t u) s s'
    nodes n s s' t u (replaces {w = w} bs h) used =
        let found = law n w bs t u h used in
        record { given = bs; change = above; goes = to_list; more = used-after bs w.in_use; freer = freer_by w.free_symbol (length bs); range = found.range; fresh = found.fresh; sound = found.sound; beside = record { pending = refl; this = refl; top = refl }; kept = found.kept }
