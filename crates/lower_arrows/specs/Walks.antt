-- What the walk leaves of a part of the program: steps of the rule wherever the part fits, and no arrow.
use Rattle.std.specs.Prelude.{◌≡◌, ◌⊎◌, ◌+◌, ◌≤◌, ◌==◌, ◌&&◌, ◌||◌, not, ℕ, zero, suc, Bool, true, false, List, ◌∷◌, Option, None}
use Rattle.es_tree.specs.Ancestors.{Ancestor, ancestor, is_function, stands_in}
use Rattle.es_tree.specs.Constructs.{is_arrow}
use Rattle.es_tree.specs.HasForm.{has_form, same_type}
use Rattle.es_tree.specs.Tree.{Tree, Label, Fields, done, ◌then◌, Field, Trees}
use Rattle.es_tree.specs.Walks.{any_in_field, any_in_fields, any_in_trees, any_node}
use Rattle.es_tree.specs.declared.ast_type.AstType.{AstType}
use Rattle.es_tree.specs.declared.ast_type.AstType.TheVariants.{ArrowFunctionExpression, FunctionBody, Program, PropertyDefinition, StaticBlock}
use Rattle.es_tree.specs.declared.table.Sort.{Sort}
use Rattle.es_tree.specs.declared.table.Sort.TheVariants.{ArrowFunctionBody as s-ArrowFunctionBody, Expression as s-Expression, FunctionBody as s-FunctionBody, Program as s-Program}
use Rattle.es_semantic.specs.RolesOf.{reads}
use Rattle.es_resolution.specs.Declarations.{Bound}
use Rattle.es_resolution.specs.Resolved.{first_declared, own_by, own_of}
use Rattle.es_arrow_steps.specs.ThisFits.{this_fits}
use Rattle.es_changes.specs.Changes.{Each, EachBy, EachIn}
use Rattle.es_changes.specs.Moments.{Moment, whole_at}
use Rattle.es_steps.specs.Open.{Additions, Pending, is_body, is_statement_body, list, no_additions, nothing_pending, opened, opened_field, opened_fields, opened_trees}
use Rattle.es_steps.specs.Slots.{is_slot}
use Rattle.es_steps.specs.Steps.{FieldStep, FieldsStep, Site, Step, Steps, TreesStep, is_program_list, is_target, ledger}
use Rattle.es_steps.specs.ThisPlaces.{belongs_to_arrow, has_this, reaches_target, this_in_field, this_in_trees}
use Rattle.es_steps.proofs.FormLists.{HasText}
use Rattle.lower_arrows.specs.Lowered.{walk_rule}
use Rattle.lower_arrows.specs.Names.{Stays, due, kept_apart}

-- PLACES

-- whether something in the node may
abbrev pub may_belong : Bool → AstType → Bool
may_belong outer k = same_type k ArrowFunctionExpression || outer

-- Whether what stands in this field of a node of this kind belongs to an arrow (9.4.4), where it is known of the node itself.
abbrev pub belongs_at : Bool → AstType → ℕ → Bool
belongs_at outer k i = not (is_function k || same_type k StaticBlock || (same_type k PropertyDefinition && i == 1)) && may_belong outer k

-- whether a list there is that of a target
abbrev pub is_target_at : Bool → AstType → ℕ → Bool
is_target_at outer k i = (same_type k StaticBlock && i == 0) || ((same_type k FunctionBody && i == 1) && not outer)

-- WHERE A PART FITS

-- what stands by a sort of bodies stands in a function or an arrow, and nothing by that of a program stands in another node
pub record StandsBy (s : Sort) (up : List Ancestor) : Type 0 where
  pub function : s ≡ s-FunctionBody → belongs_to_arrow up ≡ false
  pub arrow : s ≡ s-ArrowFunctionBody → stands_in ArrowFunctionExpression 1 up ≡ true
  pub body : stands_in ArrowFunctionExpression 1 up ≡ true → s ≡ s-ArrowFunctionBody
  pub inner : s ≡ s-Program → ⊥

-- a node that has form, in which each `this` that belongs to an arrow can become a name
pub record IsWalkable (n : Site) (t : Tree) : Type 0 where
  pub this : this_fits n.role (belongs_to_arrow n.above) (reaches_target n.above) t ≡ true
  pub sort : Sort
  pub formed : has_form sort t ≡ true
  pub slot : is_slot n.above ≡ true → sort ≡ s-Expression
  pub place : StandsBy sort n.above

-- what is known of a node of this kind around its fields
pub record Around (outer : Bool) (k : AstType) (up : List Ancestor) : Type 0 where
  pub belongs : belongs_to_arrow up ≡ outer
  pub body : k ≡ FunctionBody → stands_in ArrowFunctionExpression 1 up ≡ outer
  pub inner : k ≡ Program → ⊥

-- the sites of its fields
pub record AreInside (outer : Bool) (k : AstType) (c : ℕ → Site) : Type 0 where
  pub label : Label
  pub fields : Fields
  pub up : List Ancestor
  pub around : Around outer k up
  pub above : (i : ℕ) → (c i).above ≡ ancestor k label fields i 0 ∷ up
  pub role : (i : ℕ) → is_body k i ≡ true → (c i).role ≡ reads

-- the site of this field of it
pub record IsInside (outer : Bool) (k : AstType) (i : ℕ) (n : Site) : Type 0 where
  pub label : Label
  pub fields : Fields
  pub up : List Ancestor
  pub around : Around outer k up
  pub above : n.above ≡ ancestor k label fields i 0 ∷ up
  pub role : is_body k i ≡ true → n.role ≡ reads

-- the place of a list of a target
pub record IsTargetList (n : Site) : Type 0 where
  pub belongs : belongs_to_arrow n.above ≡ false
  pub target : (is_target n.above ≡ true) ⊎ (is_program_list n.above ≡ true)

-- WHAT IS LEFT, from one moment with a name for `this` or none to another

pub record Walked (outer : Bool) (a : Moment) (x : Option Bound) (t : Tree) (b : Moment) (y : Option Bound) (u : Tree) : Type 0 where
  pub steps : (n : Site) → belongs_to_arrow n.above ≡ outer → IsWalkable n t → HasText x → (p : Pending) (ad : Additions) → Steps (Step walk_rule n) (ledger (whole_at a) p x ad) (opened t) (ledger (whole_at b) p y ad) (opened u)
  pub own : (n : Site) → belongs_to_arrow n.above ≡ outer → IsWalkable n t → HasText x → own_of n.role u ≡ own_of n.role t
  pub text : HasText x → HasText y
  pub arrows : any_node is_arrow u ≡ false
  pub this : outer ≡ true → has_this u ≡ false
  pub body : is_statement_body u ≡ is_statement_body t

pub record WalkedTrees (outer : Bool) (a : Moment) (x : Option Bound) (ts : Trees) (b : Moment) (y : Option Bound) (us : Trees) : Type 0 where
  pub steps : (n : Site) → belongs_to_arrow n.above ≡ outer → Each IsWalkable n ts → HasText x → (p : Pending) (ad : Additions) → Steps (TreesStep walk_rule n) (ledger (whole_at a) p x ad) (opened_trees ts) (ledger (whole_at b) p y ad) (opened_trees us)
  pub text : HasText x → HasText y
  pub arrows : any_in_trees is_arrow us ≡ false
  pub this : outer ≡ true → this_in_trees us ≡ false

-- the list of a target, with its own name written
pub record WalkedTarget (a : Moment) (ts : Trees) (b : Moment) (us : Trees) : Type 0 where
  pub steps : (n : Site) → IsTargetList n → Each IsWalkable n ts → (o : Pending) (x : Option Bound) (ad : Additions) →
      Steps (FieldStep walk_rule n) (ledger (whole_at a) o x ad) (list nothing_pending None no_additions (opened_trees ts)) (ledger (whole_at b) o x ad) (list nothing_pending None no_additions (opened_trees us))
  pub arrows : any_in_trees is_arrow us ≡ false

-- what stands in this field of a node of this kind
pub record WalkedField (outer : Bool) (k : AstType) (i : ℕ) (a : Moment) (x : Option Bound) (f : Field) (b : Moment) (y : Option Bound) (g : Field) : Type 0 where
  pub steps : (n : Site) → IsInside outer k i n → EachBy IsWalkable n (is_body k i) f → HasText x → (p : Pending) (ad : Additions) →
      Steps (FieldStep walk_rule n) (ledger (whole_at a) p x ad) (opened_field (is_body k i) f) (ledger (whole_at b) p y ad) (opened_field (is_body k i) g)
  pub own : (n : Site) → IsInside outer k i n → is_body k i ≡ false → EachBy IsWalkable n false f → HasText x → own_by n.role g ≡ own_by n.role f
  pub text : HasText x → HasText y
  pub arrows : any_in_field is_arrow g ≡ false
  pub this : belongs_at outer k i ≡ true → this_in_field g ≡ false

-- in none of these fields stands a `this` that belongs to an arrow, where what stands there does
abbrev pub NoThis : (ℕ → Bool) → Fields → Type 0
NoThis belongs done = Unit {0}
NoThis belongs (f then fs) = (belongs zero ≡ true → this_in_field f ≡ false) × NoThis (λ i. belongs (suc i)) fs

pub record WalkedFields (outer : Bool) (k : AstType) (a : Moment) (x : Option Bound) (fs : Fields) (b : Moment) (y : Option Bound) (gs : Fields) : Type 0 where
  pub steps : (c : ℕ → Site) → AreInside outer k c → EachIn IsWalkable c (is_body k) fs → HasText x → (p : Pending) (ad : Additions) →
      Steps (FieldsStep walk_rule c) (ledger (whole_at a) p x ad) (opened_fields (is_body k) fs) (ledger (whole_at b) p y ad) (opened_fields (is_body k) gs)
  pub own : (c : ℕ → Site) → AreInside outer k c → EachIn IsWalkable c (is_body k) fs → HasText x → first_declared (λ i. (c i).role) gs ≡ first_declared (λ i. (c i).role) fs
  pub text : HasText x → HasText y
  pub arrows : any_in_fields is_arrow gs ≡ false
  pub this : NoThis (λ i. belongs_at outer k i) gs

-- WHAT IT COSTS: of a part of this weight and size, with what is due for the target around

pub record Paid (outer : Bool) (a : Moment) (x : Option Tree) (weight size : ℕ) (b : Moment) (y : Option Tree) (weight' size' : ℕ) : Type 0 where
  pub lists : b.lists ≡ a.lists
  pub around : b.around ≡ a.around
  pub options : b.options ≡ a.options
  pub counted : a.next ≤ b.next
  pub lighter : b.next + due outer y + weight' ≤ a.next + due outer x + weight
  pub nodes : size' + kept_apart y + a.next ≤ size + kept_apart x + b.next
  pub stays : Stays x y
