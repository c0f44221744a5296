-- What stands around a node, as far as the static rules ask (ECMA-262): its ancestors, and searches outwards through them.
use Rattle.std.specs.Prelude.{ℕ, suc, ◌+◌, ◌==◌, List, [], ◌∷◌, ◌++◌, Bool, true, false, not, ◌&&◌, ◌||◌, is_some, bytes_eq, codes, if◌then◌else◌}
use Rattle.es_tree.specs.Children.{child_at}
use Rattle.es_tree.specs.CoreStaticRules.{place_in}
use Rattle.es_tree.specs.HasForm.{same_type}
use Rattle.es_tree.specs.Names.{first_text, flag_at}
use Rattle.es_tree.specs.Scopes.{name_in}
use Rattle.es_tree.specs.Tree.{Tree, node, Label, Fields, done, ◌then◌, Field, missing, one, many, statements, Trees, empty, ◌before◌, tree_size, field_size}
use Rattle.es_tree.specs.Words.{Text}
use Rattle.es_tree.specs.declared.ast_type.AstType.{AstType}
use Rattle.es_tree.specs.declared.ast_type.AstType.TheVariants.{
  Program,
  BlockStatement,
  StaticBlock,
  FunctionDeclaration,
  FunctionExpression,
  ArrowFunctionExpression,
  ClassDeclaration,
  ClassExpression,
  MethodDefinition,
  PropertyDefinition,
  ForStatement,
  ForInStatement,
  ForOfStatement,
  WhileStatement,
  DoWhileStatement,
  LabeledStatement,
  SwitchStatement,
  CatchClause,
  ObjectProperty,
}
use Rattle.es_tree.specs.declared.place.Place.{Place}
use Rattle.es_tree.specs.declared.place.Place.TheVariants.{Other}

-- ANCESTORS

-- An ancestor of a node: the node that it is, the field of it that leads to the node, counted from 0, and its number, that
-- is its place in node order, counted from 0.
pub record Ancestor : Type 0 where
  pub kind : AstType
  pub label : Label
  pub fields : Fields
  pub index : ℕ
  pub number : ℕ

abbrev pub ancestor : AstType → Label → Fields → ℕ → ℕ → Ancestor
ancestor k l fs i n = record { kind = k; label = l; fields = fs; index = i; number = n }

-- A node with its ancestors, the parent first, and its number.
pub record Visit : Type 0 where
  pub ancestors : List Ancestor
  pub number : ℕ
  pub tree : Tree

abbrev pub visit : List Ancestor → ℕ → Tree → Visit
visit up n t = record { ancestors = up; number = n; tree = t }

abbrev mutual
  -- the visits of a tree with these ancestors and this number, in node order
  pub visits : List Ancestor → ℕ → Tree → List Visit
  visits up n (node k l fs) = visit up n (node k l fs) ∷ visits_in_fields up k l fs n 0 (suc n) fs

  -- those of fields of the node with this kind, label, fields and number: from the i-th on, the first node there with the
  -- number m
  pub visits_in_fields : List Ancestor → AstType → Label → Fields → ℕ → ℕ → ℕ → Fields → List Visit
  visits_in_fields up k l all n i m done = []
  visits_in_fields up k l all n i m (f then fs) = visits_in_field (ancestor k l all i n ∷ up) m f ++ visits_in_fields up k l all n (suc i) (m + field_size f) fs

  pub visits_in_field : List Ancestor → ℕ → Field → List Visit
  visits_in_field up m missing = []
  visits_in_field up m (one t) = visits up m t
  visits_in_field up m (many ts) = visits_in_trees up m ts
  visits_in_field up m (statements ts) = visits_in_trees up m ts

  pub visits_in_trees : List Ancestor → ℕ → Trees → List Visit
  visits_in_trees up m empty = []
  visits_in_trees up m (t before ts) = visits up m t ++ visits_in_trees up (m + tree_size t) ts

-- where a node with these ancestors stands
abbrev pub place_of : List Ancestor → Place
place_of [] = Other
place_of (a ∷ up) = place_in (place_of up) a.kind a.label a.index

-- KINDS

abbrev pub is_function : AstType → Bool
is_function FunctionDeclaration = true
is_function FunctionExpression = true
is_function _ = false

abbrev pub is_class : AstType → Bool
is_class ClassDeclaration = true
is_class ClassExpression = true
is_class _ = false

-- what labels, loops and `var` don't reach through: a function, an arrow or a static block
abbrev pub is_boundary : AstType → Bool
is_boundary ArrowFunctionExpression = true
is_boundary StaticBlock = true
is_boundary k = is_function k

abbrev pub is_loop : AstType → Bool
is_loop ForStatement = true
is_loop ForInStatement = true
is_loop ForOfStatement = true
is_loop WhileStatement = true
is_loop DoWhileStatement = true
is_loop _ = false

abbrev pub is_switch : AstType → Bool
is_switch SwitchStatement = true
is_switch _ = false

-- the node leads to what stands there by this field of a node of this kind
abbrev pub leads_by : AstType → ℕ → Ancestor → Bool
leads_by k i a = same_type a.kind k && a.index == i

-- the parent is of this kind, and this field of it leads here
abbrev pub stands_in : AstType → ℕ → List Ancestor → Bool
stands_in k i [] = false
stands_in k i (a ∷ up) = leads_by k i a

-- MODULES (16.2)

-- whether the program around is a module
abbrev pub is_module : List Ancestor → Bool
is_module [] = false
is_module (a ∷ up) = (same_type a.kind Program && bytes_eq (first_text a.label.texts) (codes "module")) || is_module up

-- whether this is directly in the body of a module, and whether in that of a script
abbrev pub is_module_top : List Ancestor → Bool
is_module_top up = stands_in Program 1 up && is_module up

abbrev pub is_script_top : List Ancestor → Bool
is_script_top up = stands_in Program 1 up && not (is_module up)

-- LABELS AND JUMPS (14.8, 14.9, 14.10, 14.13)

-- A label around a node, and whether it stands before a loop, other labels between or not.
pub record LabelName : Type 0 where
  pub name : Text
  pub loop : Bool

-- whether the statement is a loop, maybe with labels
abbrev pub is_labeled_loop : Tree → Bool
is_labeled_loop (node LabeledStatement l (n then (one t then fs))) = is_labeled_loop t
is_labeled_loop (node k l fs) = is_loop k

abbrev pub has_loop_body : Fields → Bool
has_loop_body (n then (one t then fs)) = is_labeled_loop t
has_loop_body _ = false

abbrev pub own_labels : Ancestor → List LabelName
own_labels a = if leads_by LabeledStatement 1 a then record { name = name_in a.fields; loop = has_loop_body a.fields } ∷ [] else []

-- the labels around, in the same function or static block, the innermost first
abbrev pub labels : List Ancestor → List LabelName
labels [] = []
labels (a ∷ up) = if is_boundary a.kind then [] else own_labels a ++ labels up

-- whether a loop is around, in the same function or static block
abbrev pub is_in_loop : List Ancestor → Bool
is_in_loop [] = false
is_in_loop (a ∷ up) = not (is_boundary a.kind) && (is_loop a.kind || is_in_loop up)

-- whether a loop or a switch is
abbrev pub is_breakable : List Ancestor → Bool
is_breakable [] = false
is_breakable (a ∷ up) = not (is_boundary a.kind) && (is_loop a.kind || is_switch a.kind || is_breakable up)

-- whether the innermost of functions, arrows and static blocks around is no static block
abbrev pub is_in_function : List Ancestor → Bool
is_in_function [] = false
is_in_function (a ∷ up) = if is_boundary a.kind then not (same_type a.kind StaticBlock) else is_in_function up

-- `super` AND `new.target` (13.3.7, 13.3.12, 15.7), which arrows take from around them

-- the value of a class field
abbrev pub is_field_value : Ancestor → Bool
is_field_value a = leads_by PropertyDefinition 1 a

-- whether a function that stands here is that of a method, an accessor or a constructor, of a class or of an object
-- literal, where `method` is its first truth value, and its word is `init` for what is no accessor
abbrev pub is_method_value : List Ancestor → Bool
is_method_value [] = false
is_method_value (a ∷ up) = leads_by MethodDefinition 1 a || (leads_by ObjectProperty 1 a && (flag_at 0 a.label.flags || not (bytes_eq (first_text a.label.texts) (codes "init"))))

-- whether `super.x` may stand here
abbrev pub has_super_members : List Ancestor → Bool
has_super_members [] = false
has_super_members (a ∷ up) = if is_function a.kind then is_method_value up else same_type a.kind StaticBlock || is_field_value a || has_super_members up

-- whether the class extends another; the second field of a class is what it extends
abbrev pub is_derived : Ancestor → Bool
is_derived c = is_class c.kind && is_some (child_at 1 c.fields)

-- whether a function that stands here is that of a constructor of such a class
abbrev pub is_derived_constructor : List Ancestor → Bool
is_derived_constructor (a ∷ (c ∷ up)) = leads_by MethodDefinition 1 a && bytes_eq (first_text a.label.texts) (codes "constructor") && is_derived c
is_derived_constructor _ = false

-- whether `super(..)` may stand here
abbrev pub has_super_calls : List Ancestor → Bool
has_super_calls [] = false
has_super_calls (a ∷ up) = if is_function a.kind then is_derived_constructor up else not (same_type a.kind StaticBlock || is_field_value a) && has_super_calls up

-- whether `new.target` may
abbrev pub has_new_target : List Ancestor → Bool
has_new_target [] = false
has_new_target (a ∷ up) = is_function a.kind || same_type a.kind StaticBlock || is_field_value a || has_new_target up

-- CLASSES (15.7)

-- the numbers of the classes in whose bodies this stands
abbrev pub classes : List Ancestor → List ℕ
classes [] = []
classes (a ∷ up) = if is_class a.kind && a.index == 2 then a.number ∷ classes up else classes up

-- SCOPES (8.2): the parameters and the body of a function have one scope here, and so have a catch clause and its body

abbrev pub is_scope : AstType → Bool
is_scope Program = true
is_scope BlockStatement = true
is_scope SwitchStatement = true
is_scope CatchClause = true
is_scope ForStatement = true
is_scope ForInStatement = true
is_scope ForOfStatement = true
is_scope k = is_boundary k

-- whether the node of this kind that stands here makes a scope
abbrev pub makes_scope : AstType → List Ancestor → Bool
makes_scope k up = is_scope k && not (same_type k BlockStatement && stands_in CatchClause 1 up)

-- the numbers of the scopes around, the innermost first, as far as a `var` hoists from here
abbrev pub scopes : List Ancestor → List ℕ
scopes [] = []
scopes (a ∷ up) = if makes_scope a.kind up then (if is_boundary a.kind then a.number ∷ [] else a.number ∷ scopes up) else scopes up
