-- What the walk leaves of a part of the program: steps of the rule wherever the part stands, no construct, and no shape that is counted on
-- not to be there.
use Rattle.std.specs.Prelude.{◌≡◌, ◌&&◌, ◌==◌, ℕ, Bool, true, false, Option}
use Rattle.es_tree.specs.Ancestors.{stands_in}
use Rattle.es_tree.specs.HasForm.{has_form, same_type}
use Rattle.es_tree.specs.Tree.{Tree, Fields, Field, Trees}
use Rattle.es_tree.specs.Walks.{any_in_field, any_in_fields, any_in_trees, any_node}
use Rattle.es_tree.specs.declared.ast_type.AstType.{AstType}
use Rattle.es_tree.specs.declared.ast_type.AstType.TheVariants.{ArrowFunctionExpression}
use Rattle.es_tree.specs.declared.table.Sort.{Sort}
use Rattle.es_tree.specs.declared.table.Sort.TheVariants.{ArrowFunctionBody as s-ArrowFunctionBody, Expression as s-Expression}
use Rattle.es_semantic.specs.RolesOf.{reads}
use Rattle.es_resolution.specs.Declarations.{Bound}
use Rattle.es_changes.specs.Changes.{Each, EachBy, EachIn}
use Rattle.es_changes.specs.Moments.{Moment, whole_at}
use Rattle.es_steps.specs.Open.{Additions, Pending, is_body, opened, opened_field, opened_fields, opened_trees}
use Rattle.es_steps.specs.Slots.{is_slot}
use Rattle.es_steps.specs.Steps.{FieldStep, FieldsStep, Site, Step, Steps, TreesStep, ledger}
use Rattle.lower_nodes.specs.Nodes.{NodeProfile, bars_by, bars_in, each_barred}

-- WHERE A PART STANDS

-- in this field of a node of this kind
abbrev pub IsIn : AstType → ℕ → Site → Type 0
IsIn k i n = (q : AstType) (j : ℕ) → stands_in q j n.above ≡ (same_type k q && i == j)

-- and the body of an arrow is read
pub record IsInside (k : AstType) (i : ℕ) (n : Site) : Type 0 where
  pub place : IsIn k i n
  pub role : is_body k i ≡ true → n.role ≡ reads

-- the sites of the fields of a node of this kind
abbrev pub AreInside : AstType → (ℕ → Site) → Type 0
AreInside k c = (i : ℕ) → IsInside k i (c i)

-- a node that has the form that its place asks for, in which no such shape stands
pub record IsWalkable (p : NodeProfile) (n : Site) (t : Tree) : Type 0 where
  pub sort : Sort
  pub formed : has_form sort t ≡ true
  pub slot : is_slot n.above ≡ true → sort ≡ s-Expression
  pub body : stands_in ArrowFunctionExpression 1 n.above ≡ true → sort ≡ s-ArrowFunctionBody
  pub strays : any_node p.strays t ≡ false

-- WHAT IS LEFT there, from one moment to another

pub record Left (p : NodeProfile) (n : Site) (a : Moment) (t : Tree) (b : Moment) (u : Tree) : Type 0 where
  pub steps : (q : Pending) (x : Option Bound) (y : Additions) → Steps (Step p.rule n) (ledger (whole_at a) q x y) (opened t) (ledger (whole_at b) q x y) (opened u)
  pub none : any_node p.constructs u ≡ false
  pub clear : any_node p.strays u ≡ false

pub record LeftAmong (p : NodeProfile) (n : Site) (a : Moment) (ts : Trees) (b : Moment) (us : Trees) : Type 0 where
  pub steps : (q : Pending) (x : Option Bound) (y : Additions) → Steps (TreesStep p.rule n) (ledger (whole_at a) q x y) (opened_trees ts) (ledger (whole_at b) q x y) (opened_trees us)
  pub none : any_in_trees p.constructs us ≡ false
  pub clear : any_in_trees p.strays us ≡ false

-- in a field, which may hold the body of an arrow (`body`) or not
pub record LeftBy (p : NodeProfile) (n : Site) (body : Bool) (a : Moment) (f : Field) (b : Moment) (g : Field) : Type 0 where
  pub steps : (q : Pending) (x : Option Bound) (y : Additions) → Steps (FieldStep p.rule n) (ledger (whole_at a) q x y) (opened_field body f) (ledger (whole_at b) q x y) (opened_field body g)
  pub none : any_in_field p.constructs g ≡ false
  pub clear : any_in_field p.strays g ≡ false

pub record LeftIn (p : NodeProfile) (c : ℕ → Site) (bodies : ℕ → Bool) (a : Moment) (fs : Fields) (b : Moment) (gs : Fields) : Type 0 where
  pub steps : (q : Pending) (x : Option Bound) (y : Additions) → Steps (FieldsStep p.rule c) (ledger (whole_at a) q x y) (opened_fields bodies fs) (ledger (whole_at b) q x y) (opened_fields bodies gs)
  pub none : any_in_fields p.constructs gs ≡ false
  pub clear : any_in_fields p.strays gs ≡ false

-- WHAT WAS WALKED: wherever it can be, so much is left

abbrev pub Walked : NodeProfile → Moment → Tree → Moment → Tree → Type 0
Walked p a t b u = (k : AstType) (i : ℕ) (n : Site) → IsIn k i n → IsWalkable p n t → p.barred k i t ≡ false → Left p n a t b u

abbrev pub WalkedTrees : NodeProfile → Moment → Trees → Moment → Trees → Type 0
WalkedTrees p a ts b us = (k : AstType) (i : ℕ) (n : Site) → IsIn k i n → Each (IsWalkable p) n ts → each_barred (p.barred k i) ts ≡ false → LeftAmong p n a ts b us

abbrev pub WalkedField : NodeProfile → Moment → Field → Moment → Field → Type 0
WalkedField p a f b g = (k : AstType) (i : ℕ) (n : Site) → IsInside k i n → EachBy (IsWalkable p) n (is_body k i) f → bars_by (p.barred k i) f ≡ false → LeftBy p n (is_body k i) a f b g

abbrev pub WalkedFields : NodeProfile → Moment → Fields → Moment → Fields → Type 0
WalkedFields p a fs b gs = (k : AstType) (c : ℕ → Site) → AreInside k c → EachIn (IsWalkable p) c (is_body k) fs → bars_in (p.barred k) fs ≡ false → LeftIn p c (is_body k) a fs b gs
