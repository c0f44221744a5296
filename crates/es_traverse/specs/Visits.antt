-- What the visit of a part leaves, wherever it fits: steps of the type's rule, and no construct of the type.
use Rattle.std.specs.Prelude.{◌≡◌, ◌⊎◌, ℕ, ◌≤◌, Bool, true, false, Option, None, Some}
use Rattle.es_tree.specs.Tree.{Tree, Label, Field, Fields, one, node, Trees, fields_of, kind_of}
use Rattle.es_tree.specs.declared.ast_type.AstType.{AstType}
use Rattle.es_tree.specs.Walks.{any_node, any_in_field, any_in_fields, any_in_trees}
use Rattle.es_visit.specs.declared.hook.Hook.{Hook}
use Rattle.es_visit.specs.Hooks.{hook_of_kind, hook_of_sort, sort_of}
use Rattle.es_semantic.specs.declared.place.Role.{Role}
use Rattle.es_resolution.specs.Resolved.{first_declared, own_by}
use Rattle.es_steps.specs.Open.{nothing_pending, no_additions, is_body, list, opened, opened_field, opened_fields, opened_trees}
use Rattle.es_steps.specs.Steps.{FieldStep, FieldsStep, Site, Step, Steps, TreesStep, site_in, the_program}
use Rattle.es_changes.specs.Changes.{Each, EachBy, Stepped, open_program}
use Rattle.es_visit.specs.Counts.{hooks_in}
use Rattle.es_changes.specs.Fits.{Fits, FitsBy, FitAll, FitInList}
use Rattle.es_changes.specs.Laws.{SamePlace}
use Rattle.es_changes.specs.Conditions.{holds_after, holds_before}
use Rattle.es_changes.specs.Moments.{Moment, ledger_at, ledger_with, top, with_pair}
use Rattle.es_traverse.specs.Laws.{Ending, Profile, Known, is_construct, first_field, body_field, opens_body, ExitedBody, IsVisited, KeepsBody, MakesNone, removed_by, whole_rule}
use Rattle.es_traverse.specs.Listed.{any_listed}
use Rattle.es_traverse.specs.Sites.{Tells, is_arrow_body}
use Rattle.es_traverse.specs.declared.site.Site.{Site as CodeSite}
use Rattle.es_traverse.specs.declared.site.Site.TheVariants.{ArrowBody}

-- HOOKS OF A NODE

-- the enter hook of a node by its sort: it is no construct that this hook removes
pub record EnteredSort (p : Profile) (c : CodeSite) (a : Moment) (t : Tree) (b : Moment) (u : Tree) : Type 0 where
  pub stepped : (n : Site) → Tells c n → Fits a n t → (holds_before p.conditions) n t → Steps (Step p.rule n) (ledger_at a) (opened t) (ledger_at b) (opened u)
  pub leaves : (n : Site) → Tells c n → Fits a n t → (holds_before p.conditions) n t → (holds_after p.conditions) n u
  pub body : KeepsBody t u
  pub cleared : (n : Site) → Tells c n → Fits a n t → (holds_before p.conditions) n t → (h : Hook) → hook_of_sort (sort_of (kind_of u)) ≡ Some h → is_construct (p.constructs h) u ≡ false

-- by its kind
pub record EnteredKind (p : Profile) (c : CodeSite) (a : Moment) (t : Tree) (b : Moment) (u : Tree) : Type 0 where
  pub stepped : (n : Site) → Tells c n → Fits a n t → (holds_after p.conditions) n t → Steps (Step p.rule n) (ledger_at a) (opened t) (ledger_at b) (opened u)
  pub leaves : (n : Site) → Tells c n → Fits a n t → (holds_after p.conditions) n t → (holds_after p.conditions) n u
  pub body : KeepsBody t u
  pub cleared : (n : Site) → Tells c n → Fits a n t → (holds_after p.conditions) n t → (h : Hook) → hook_of_kind (kind_of t) ≡ Some h → is_construct (p.constructs h) u ≡ false
  pub order : (u ≡ t) ⊎ p.writes u

-- both: it is no construct any more
pub record EnteredNode (p : Profile) (c : CodeSite) (a : Moment) (t : Tree) (b : Moment) (u : Tree) : Type 0 where
  pub stepped : (n : Site) → Tells c n → Fits a n t → (holds_before p.conditions) n t → Steps (Step p.rule n) (ledger_at a) (opened t) (ledger_at b) (opened u)
  pub leaves : (n : Site) → Tells c n → Fits a n t → (holds_before p.conditions) n t → (holds_after p.conditions) n u
  pub body : KeepsBody t u
  pub cleared : (n : Site) → Tells c n → Fits a n t → (holds_before p.conditions) n t → (h : Hook) → is_construct (p.constructs h) u ≡ false

-- PARTS

-- a node without its hooks as the body of an arrow
pub record Visited (p : Profile) (c : CodeSite) (a : Moment) (t : Tree) (b : Moment) (u : Tree) : Type 0 where
  pub stepped : (n : Site) → Tells c n → Fits a n t → (holds_before p.conditions) n t → Steps (Step p.rule n) (ledger_at a) (opened t) (ledger_at b) (opened u)
  pub free : (n : Site) → Tells c n → Fits a n t → (holds_before p.conditions) n t → (h : Option Hook) → any_node (removed_by p h) u ≡ false

-- the roles of the fields of a node
abbrev pub roles_in : Site → AstType → Label → Fields → ℕ → Role
roles_in n k l fs i = (site_in n k l (opened_fields (is_body k) fs) i).role

-- the fields of a node of this kind and label, by rows of steps at their sites as they were; a name that the first of them declares stays
pub record VisitedFields (p : Profile) (k : AstType) (l : Label) (a : Moment) (fs : Fields) (b : Moment) (gs : Fields) : Type 0 where
  pub stepped : (n : Site) → Fits a n (node k l fs) → (holds_after p.conditions) n (node k l fs) → Steps (Step p.rule n) (ledger_at a) (opened (node k l fs)) (ledger_at b) (opened (node k l gs))
  pub row : (n : Site) → Fits a n (node k l fs) → (holds_after p.conditions) n (node k l fs) → Steps (FieldsStep p.rule (site_in n k l (opened_fields (is_body k) fs))) (ledger_at a) (opened_fields (is_body k) fs) (ledger_at b) (opened_fields (is_body k) gs)
  pub free : (n : Site) → Fits a n (node k l fs) → (holds_after p.conditions) n (node k l fs) → (h : Option Hook) → any_in_fields (removed_by p h) gs ≡ false
  pub own : (n : Site) → Fits a n (node k l fs) → (holds_after p.conditions) n (node k l fs) → first_declared (roles_in n k l fs) gs ≡ first_declared (roles_in n k l fs) fs

-- what stands in a field; a name that is declared there stays
pub record VisitedField (p : Profile) (c : CodeSite) (a : Moment) (f : Field) (b : Moment) (g : Field) : Type 0 where
  pub stepped : (n : Site) → Tells c n → FitsBy a n (is_arrow_body c) f → EachBy (holds_before p.conditions) n (is_arrow_body c) f → Steps (FieldStep p.rule n) (ledger_at a) (opened_field (is_arrow_body c) f) (ledger_at b) (opened_field (is_arrow_body c) g)
  pub free : (n : Site) → Tells c n → FitsBy a n (is_arrow_body c) f → EachBy (holds_before p.conditions) n (is_arrow_body c) f → (h : Option Hook) → any_in_field (removed_by p h) g ≡ false
  pub own : (n : Site) → Tells c n → FitsBy a n (is_arrow_body c) f → EachBy (holds_before p.conditions) n (is_arrow_body c) f → own_by n.role g ≡ own_by n.role f

-- the nodes of a list
pub record VisitedTrees (p : Profile) (a : Moment) (ts : Trees) (b : Moment) (us : Trees) : Type 0 where
  pub stepped : (n : Site) → FitAll a n ts → Each (holds_before p.conditions) n ts → Steps (TreesStep p.rule n) (ledger_at a) (opened_trees ts) (ledger_at b) (opened_trees us)
  pub free : (n : Site) → FitAll a n ts → Each (holds_before p.conditions) n ts → (h : Option Hook) → any_in_trees (removed_by p h) us ≡ false

-- a statement list that isn't the program's, with a pair of its own
pub record VisitedList (p : Profile) (a : Moment) (ts : Trees) (b : Moment) (us : Trees) : Type 0 where
  pub stepped : (n : Site) → FitInList (with_pair a) n ts → Each (holds_before p.conditions) n ts → Steps (FieldStep p.rule n) (ledger_at a) (list nothing_pending None no_additions (opened_trees ts)) (ledger_at b) (list nothing_pending None no_additions (opened_trees us))
  pub free : (n : Site) → FitInList (with_pair a) n ts → Each (holds_before p.conditions) n ts → (h : Option Hook) → any_in_trees (removed_by p h) us ≡ false

-- a program, whose own list has its pair from the start, with nothing pending: its statements with the hooks of their list
pub record VisitedStatements (p : Profile) (a : Moment) (t : Tree) (b : Moment) (u : Tree) : Type 0 where
  pub stepped : top a.lists ≡ nothing_pending → Fits a the_program t → (holds_after p.conditions) the_program t → Steps (Step p.rule the_program) (ledger_with nothing_pending a) (open_program (top a.lists) t) (ledger_with nothing_pending b) (open_program (top b.lists) u)
  pub directives : first_field u ≡ first_field t
  pub free : top a.lists ≡ nothing_pending → Fits a the_program t → (holds_after p.conditions) the_program t → (h : Option Hook) → any_in_fields (removed_by p h) (body_field u) ≡ false
  pub visited : top a.lists ≡ nothing_pending → Fits a the_program t → (holds_after p.conditions) the_program t → IsVisited b u

-- and with its own hooks: no statement of the list is left that the type takes away after the program
pub record VisitedProgram (p : Profile) (e : Ending) (a : Moment) (t : Tree) (b : Moment) (u : Tree) : Type 0 where
  pub stepped : top a.lists ≡ nothing_pending → Fits a the_program t → (holds_after p.conditions) the_program t → Steps (Step (whole_rule p e) the_program) (ledger_with nothing_pending a) (open_program (top a.lists) t) (ledger_with nothing_pending b) (open_program (top b.lists) u)
  pub directives : first_field u ≡ first_field t
  pub free : top a.lists ≡ nothing_pending → Fits a the_program t → (holds_after p.conditions) the_program t → (h : Option Hook) → any_in_fields (removed_by p h) (body_field u) ≡ false
  pub cleared : top a.lists ≡ nothing_pending → Fits a the_program t → (holds_after p.conditions) the_program t → any_listed e.constructs (body_field u) ≡ false

-- AT A PLACE THAT MAY BE THE BODY OF AN ARROW

abbrev pub opens_at : CodeSite → Bool → Tree → Moment → Moment
opens_at ArrowBody keeps t a = opens_body keeps t a
opens_at _ keeps t a = a

abbrev pub ExitedAt : CodeSite → Profile → Bool → Moment → Tree → Moment → Tree → Type 0
ExitedAt ArrowBody p keeps a t b u = ExitedBody p keeps a t b u
ExitedAt _ p keeps a t b u = (u ≡ t) × (b ≡ a)

-- the exit hook of a node by its kind, if it has one: no construct is left of those that are removed after nodes, where none stood inside
pub record ExitedKind (p : Profile) (a : Moment) (t : Tree) (b : Moment) (u : Tree) : Type 0 where
  pub stepped : Stepped p.rule (Known p.counts_after) a t b u
  pub cleared : any_in_fields p.late_constructs (fields_of t) ≡ false → any_node p.late_constructs u ≡ false
  pub body : KeepsBody t u
  pub none : MakesNone p.writes t u
  pub hooks : hooks_in t ≤ hooks_in u

-- by its sort, if it has one
pub record ExitedSort (p : Profile) (a : Moment) (t : Tree) (b : Moment) (u : Tree) : Type 0 where
  pub stepped : Stepped p.rule (Known p.counts_after) a t b u
  pub body : KeepsBody t u
  pub none : MakesNone p.writes t u
  pub hooks : hooks_in t ≤ hooks_in u

-- all exit hooks of a node: those by its kind and its sort, and then that of the body of an arrow
pub record ExitedNode (p : Profile) (keeps : Bool) (c : CodeSite) (a : Moment) (t : Tree) (b : Moment) (u : Tree) : Type 0 where
  pub moment : Moment
  pub tree : Tree
  pub place : SamePlace a moment
  pub stepped : Stepped p.rule (Known p.counts_after) a t moment tree
  pub cleared : any_in_fields p.late_constructs (fields_of t) ≡ false → any_node p.late_constructs u ≡ false
  pub body : KeepsBody t tree
  pub last : ExitedAt c p keeps moment tree b u
  pub none : MakesNone p.writes t u
  pub hooks : hooks_in t ≤ hooks_in u

-- the body of an arrow, with its hooks
pub record VisitedBody (p : Profile) (a : Moment) (t : Tree) (b : Moment) (u : Tree) : Type 0 where
  pub stepped : (n : Site) → FitsBy a n true (one t) → EachBy (holds_before p.conditions) n true (one t) → Steps (FieldStep p.rule n) (ledger_at a) (opened_field true (one t)) (ledger_at b) (opened_field true (one u))
  pub free : (n : Site) → FitsBy a n true (one t) → EachBy (holds_before p.conditions) n true (one t) → (h : Option Hook) → any_node (removed_by p h) u ≡ false

abbrev pub VisitedAt : CodeSite → Profile → Moment → Tree → Moment → Tree → Type 0
VisitedAt ArrowBody p a t b u = VisitedBody p a t b u
VisitedAt c p a t b u = Visited p c a t b u
