-- What is left of a node whose fields were walked and that was lowered then.
use Rattle.std.proofs.Common.{◌≡◌, ℕ, subst}
use Rattle.std.specs.Prelude.{false, Option, None}
use Rattle.es_tree.specs.Tree.{Tree, node, Label, Fields}
use Rattle.es_tree.specs.Walks.{any_in_fields}
use Rattle.es_tree.specs.Words.{Text}
use Rattle.es_tree.specs.declared.ast_type.AstType.{AstType}
use Rattle.es_resolution.specs.Declarations.{Bound}
use Rattle.es_resolution.specs.Seen.{seen, seen_in}
use Rattle.es_changes.specs.Moments.{Moment, whole_at}
use Rattle.es_changes.proofs.StepRows.{steps-trans}
use Rattle.es_steps.specs.Open.{Additions, Pending, is_body, no_additions, nothing_pending, opened}
use Rattle.es_steps.specs.Steps.{Site, Step, Steps, ledger}
use Rattle.es_traverse.proofs.FieldVisits.{neither}
use Rattle.lower_arrows.proofs.Rows.{row-inside}
use Rattle.lower_nodes.specs.Nodes.{AlikeIn, IsNodeLawful, Lowered, NodeProfile, Stands}
use Rattle.lower_nodes.proofs.Alike.{alike-seen-in, label-alike, seen_label}
use Rattle.lower_node_walk.specs.Walks.{IsIn, IsWalkable, LeftIn, Walked, WalkedFields}
use Rattle.lower_node_walk.proofs.Inward.{inside-node, inward, or-first, sites}
use Rattle.lower_node_walk.proofs.Rules.{formed-tree}

module _ (p : NodeProfile) (law : IsNodeLawful p) (a : Moment) (k : AstType) (l : Label) (fs : Fields) (b : Moment) (gs : Fields) (w : WalkedFields p a fs b gs) (same : AlikeIn p.changes fs gs) where
  module _ (j : AstType) (i : ℕ) (n : Site) (place : IsIn j i n) (h : IsWalkable p n (node k l fs)) (bar : p.barred j i (node k l fs) ≡ false) where
    own : p.strays k l fs ≡ false
    own = or-first (p.strays k l fs) (any_in_fields p.strays fs) h.strays

    parts : LeftIn p (sites p n k l fs) (is_body k) a fs b gs
    parts = w k (sites p n k l fs) (inside-node p n k l fs) (inward p n k l fs h.sort h.formed h.strays) (law.inward k l fs own)

    -- the fields, as steps of the node
    row : (q : Pending) (x : Option Bound) (y : Additions) → Steps (Step p.rule n) (ledger (whole_at a) q x y) (opened (node k l fs)) (ledger (whole_at b) q x y) (opened (node k l gs))
    row q x y = row-inside p.rule law.rule.nameless n k l (parts.steps q x y)

    -- and the node stands as the lowering asks
    stands : Stands p j i n (node k l gs)
    stands = record {
      place = place;
      sort = h.sort;
      formed = formed-tree p.rule law.rule h.sort (node k l fs) (node k l gs) h.slot (row nothing_pending None no_additions) h.formed;
      slot = h.slot;
      barred = law.unbarred j i k l fs gs same parts.none bar;
      strays = neither (p.strays k l gs) (any_in_fields p.strays gs) (law.stable k l fs gs same parts.none own) parts.clear;
      inside = parts.none;
    }

  pub node-walked : (c : Moment) (u : Tree) → Lowered p b (node k l gs) c u → Walked p a (node k l fs) c u
  node-walked c u g j i n place h bar = record {
    steps = λ q x y. steps-trans (row j i n place h bar q x y) (g.steps j i n (stands j i n place h bar) q x y);
    none = g.none j i n (stands j i n place h bar);
    clear = g.clear j i n (stands j i n place h bar);
  }

-- as it is seen
pub node-seen : (p : NodeProfile) → IsNodeLawful p → (a b c : Moment) (k : AstType) (m : Label) (fs gs : Fields) (u : Tree) (names : ℕ → Text → Option ℕ) → AlikeIn p.changes fs gs → WalkedFields p a (seen_in names fs) b (seen_in names gs) → Lowered p b (seen names (node k m gs)) c (seen names u) → Walked p a (seen names (node k m fs)) c (seen names u)
node-seen p law a b c k m fs gs u names same w g =
    node-walked p law a k (seen_label p.changes names k m fs) (seen_in names fs) b (seen_in names gs) w (alike-seen-in p.changes names law.classes.0 law.classes.1 same) c (seen names u)
    (subst (λ (q : Label). Lowered p b (node k q (seen_in names gs)) c (seen names u)) (label-alike p.changes names k m same) g)
