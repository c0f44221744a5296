-- What a lowering promises that acts at nodes, after their parts: steps of its rule wherever the node stands, and none of its constructs left.
use Rattle.std.specs.Prelude.{◌≡◌, ℕ, zero, suc, ◌+◌, ◌≤◌, ◌==◌, ◌&&◌, ◌||◌, Bool, true, false, Option}
use Rattle.es_tree.specs.Ancestors.{stands_in}
use Rattle.es_tree.specs.HasForm.{has_form, same_type}
use Rattle.es_tree.specs.Tree.{Tree, node, Label, Fields, done, ◌then◌, Field, missing, one, many, statements, Trees, empty, ◌before◌, fields_of, tree_size}
use Rattle.es_tree.specs.Walks.{any_in_fields, any_node}
use Rattle.es_tree.specs.Words.{Text}
use Rattle.es_tree.specs.declared.ast_type.AstType.{AstType}
use Rattle.es_tree.specs.declared.ast_type.AstType.TheVariants.{ClassDeclaration, ClassExpression, Directive, Program}
use Rattle.es_tree.specs.declared.table.Sort.{Sort}
use Rattle.es_tree.specs.declared.table.Sort.TheVariants.{Expression as s-Expression, Program as s-Program}
use Rattle.es_changes.specs.Moments.{Moment, ledger_with, whole_at}
use Rattle.es_resolution.specs.Declarations.{Bound}
use Rattle.es_steps.specs.Open.{Additions, Pending, is_statement_body, nothing_pending, opened}
use Rattle.es_steps.specs.Sites.{IsLocal}
use Rattle.es_steps.specs.Slots.{is_slot}
use Rattle.es_steps.specs.Steps.{Ledger, Site, Spot, Step, Steps, at_node, ledger, the_program}
use Rattle.es_steps.proofs.FormRules.{AtNodes, FormLawful}

-- What a lowering states of itself: its rule; the nodes that it takes away; shapes that it counts on that none stands in the program, as a
-- test of a node and as one of what stands in a field of a node of this kind; how many ids it may still give for a node; and the kinds of
-- the nodes that it changes, which keep their kind and their label.
pub record NodeProfile : Type 1 where
  pub rule : Site → Ledger → Spot → Ledger → Spot → Type 0
  pub constructs : AstType → Label → Fields → Bool
  pub strays : AstType → Label → Fields → Bool
  pub barred : AstType → ℕ → Tree → Bool
  pub owes : AstType → Label → Fields → ℕ
  pub changes : AstType → Bool

-- WHAT STAYS: all but what stands in nodes of the kinds that are changed
mutual
  pub data Alike (changes : AstType → Bool) : Tree → Tree → Type 0 where
    changed : {k : AstType} {l : Label} {fs gs : Fields} → changes k ≡ true → Alike changes (node k l fs) (node k l gs)
    within : {k : AstType} {l : Label} {fs gs : Fields} → AlikeIn changes fs gs → Alike changes (node k l fs) (node k l gs)

  pub data AlikeIn (changes : AstType → Bool) : Fields → Fields → Type 0 where
    no_fields : AlikeIn changes done done
    fields_alike : {f g : Field} {fs gs : Fields} → AlikeBy changes f g → AlikeIn changes fs gs → AlikeIn changes (f then fs) (g then gs)

  pub data AlikeBy (changes : AstType → Bool) : Field → Field → Type 0 where
    both_missing : AlikeBy changes missing missing
    one_alike : {t u : Tree} → Alike changes t u → AlikeBy changes (one t) (one u)
    many_alike : {ts us : Trees} → AlikeAmong changes ts us → AlikeBy changes (many ts) (many us)
    statements_alike : {ts us : Trees} → AlikeAmong changes ts us → AlikeBy changes (statements ts) (statements us)

  pub data AlikeAmong (changes : AstType → Bool) : Trees → Trees → Type 0 where
    no_trees : AlikeAmong changes empty empty
    trees_alike : {t u : Tree} {ts us : Trees} → Alike changes t u → AlikeAmong changes ts us → AlikeAmong changes (t before ts) (u before us)

-- IDS

-- all that it may give for a tree
module _ (owes : AstType → Label → Fields → ℕ) where
  abbrev mutual
    pub owed : Tree → ℕ
    owed (node k l fs) = owes k l fs + owed_in fs

    pub owed_in : Fields → ℕ
    owed_in done = 0
    owed_in (f then fs) = owed_by f + owed_in fs

    pub owed_by : Field → ℕ
    owed_by missing = 0
    owed_by (one t) = owed t
    owed_by (many ts) = owed_among ts
    owed_by (statements ts) = owed_among ts

    pub owed_among : Trees → ℕ
    owed_among empty = 0
    owed_among (t before ts) = owed t + owed_among ts

-- Between two moments the place and what is pending stay; what is owed and the ids given don't rise together, and each node more has an id.
-- A part is told by what is owed for it and its number of nodes.
pub record Paid (a : Moment) (owed size : ℕ) (b : Moment) (owed' size' : ℕ) : Type 0 where
  pub lists : b.lists ≡ a.lists
  pub around : b.around ≡ a.around
  pub options : b.options ≡ a.options
  pub counted : a.next ≤ b.next
  pub lighter : b.next + owed' ≤ a.next + owed
  pub nodes : size' + a.next ≤ size + b.next

abbrev pub PaidTree : (AstType → Label → Fields → ℕ) → Moment → Tree → Moment → Tree → Type 0
PaidTree owes a t b u = Paid a (owed owes t) (tree_size t) b (owed owes u) (tree_size u)

-- NODES

-- what is known of a node where it stands, in this field of a node of this kind: it has form, and no such shape stands in it
pub record Stands (p : NodeProfile) (k : AstType) (i : ℕ) (n : Site) (t : Tree) : Type 0 where
  pub place : (q : AstType) (j : ℕ) → stands_in q j n.above ≡ (same_type k q && i == j)
  pub sort : Sort
  pub formed : has_form sort t ≡ true
  pub slot : is_slot n.above ≡ true → sort ≡ s-Expression
  pub barred : p.barred k i t ≡ false
  pub strays : any_node p.strays t ≡ false
  -- and its parts were walked
  pub inside : any_in_fields p.constructs (fields_of t) ≡ false

-- A node became another: by steps of the rule wherever it stands, whatever is pending, none of the constructs is left, and no such shape
-- came.
pub record Lowered (p : NodeProfile) (a : Moment) (t : Tree) (b : Moment) (u : Tree) : Type 0 where
  pub steps : (k : AstType) (i : ℕ) (n : Site) → Stands p k i n t → (q : Pending) (x : Option Bound) (y : Additions) → Steps (Step p.rule n) (ledger (whole_at a) q x y) (opened t) (ledger (whole_at b) q x y) (opened u)
  pub none : (k : AstType) (i : ℕ) (n : Site) → Stands p k i n t → any_node p.constructs u ≡ false
  pub clear : (k : AstType) (i : ℕ) (n : Site) → Stands p k i n t → any_node p.strays u ≡ false

-- LAWS

abbrev pub no_names : Text → Bool
no_names x = false

-- nothing is barred that stands in a field of a node of this kind, nor in any of these
abbrev pub each_barred : (Tree → Bool) → Trees → Bool
each_barred test empty = false
each_barred test (t before ts) = test t || each_barred test ts

abbrev pub bars_by : (Tree → Bool) → Field → Bool
bars_by test missing = false
bars_by test (one t) = test t
bars_by test (many ts) = each_barred test ts
bars_by test (statements ts) = each_barred test ts

abbrev pub bars_in : (ℕ → Tree → Bool) → Fields → Bool
bars_in test done = false
bars_in test (f then fs) = bars_by (test zero) f || bars_in (λ i. test (suc i)) fs

-- a rule that acts at nodes alone, keeps form, asks for no names, and leaves what is a body of statements one
pub record IsNodeRule (R : Site → Ledger → Spot → Ledger → Spot → Type 0) : Type 0 where
  pub nodes : (n : Site) (s s' : Ledger) (x y : Spot) → R n s x s' y → AtNodes x y
  pub form : FormLawful R
  pub nameless : IsLocal (λ s. no_names) R
  pub bodies : (n : Site) (s s' : Ledger) (t u : Tree) → R n s (at_node t) s' (at_node u) → is_statement_body u ≡ is_statement_body t

pub record IsNodeLawful (p : NodeProfile) : Type 0 where
  pub rule : IsNodeRule p.rule
  -- a program is none of its constructs, and no directive is
  pub root : (l : Label) (fs : Fields) → p.constructs Program l fs ≡ false
  pub directive : (l : Label) (fs : Fields) → p.constructs Directive l fs ≡ false
  -- where a node is no such shape, nothing is barred that stands in its fields
  pub inward : (k : AstType) (l : Label) (fs : Fields) → p.strays k l fs ≡ false → bars_in (p.barred k) fs ≡ false
  -- once its parts were lowered, it still is none, and isn't barred either where it wasn't
  pub stable : (k : AstType) (l : Label) (fs gs : Fields) → AlikeIn p.changes fs gs → any_in_fields p.constructs gs ≡ false → p.strays k l fs ≡ false → p.strays k l gs ≡ false
  pub unbarred : (q : AstType) (i : ℕ) (k : AstType) (l : Label) (fs gs : Fields) → AlikeIn p.changes fs gs → any_in_fields p.constructs gs ≡ false → p.barred q i (node k l fs) ≡ false → p.barred q i (node k l gs) ≡ false
  -- and no more ids are owed for it
  pub lighter : (k : AstType) (l : Label) (fs gs : Fields) → AlikeIn p.changes fs gs → p.owes k l gs ≤ p.owes k l fs
  -- no class is changed, whose name is seen in the scope that it makes
  pub classes : (p.changes ClassDeclaration ≡ false) × (p.changes ClassExpression ≡ false)

-- A PROGRAM, with nothing pending before and after
pub record WalkedProgram (p : NodeProfile) (a : Moment) (t : Tree) (b : Moment) (u : Tree) : Type 0 where
  pub steps : has_form s-Program t ≡ true → any_node p.strays t ≡ false → Steps (Step p.rule the_program) (ledger_with nothing_pending a) (opened t) (ledger_with nothing_pending b) (opened u)
  pub none : has_form s-Program t ≡ true → any_node p.strays t ≡ false → any_node p.constructs u ≡ false
  pub clear : has_form s-Program t ≡ true → any_node p.strays t ≡ false → any_node p.strays u ≡ false
