-- Where `this` may stand in a program that has form and breaks no static rule of places, maybe in parentheses: where it is read (ECMA-262,
-- 13.2.1), and as what a module exports as its default, which belongs to no arrow (16.2.3).
use Rattle.std.proofs.Common.{◌≡◌, ℕ, zero, suc, inl, inr, refl, sym, ap, subst, ◌∙◌, List, [], ◌∷◌}
use Rattle.std.specs.Prelude.{◌⊎◌, ◌==◌, ◌&&◌, ◌||◌, not, Bool, true, false, Some, bytes_eq, codes, if◌then◌else◌}
use Rattle.std.specs.List.{list_any}
use Rattle.std.proofs.lemmas.Bool.{and_parts}
use Rattle.es_tree.specs.Ancestors.{Ancestor, ancestor, is_module, place_of}
use Rattle.es_tree.specs.Attributes.{child_entries, flag_entries}
use Rattle.es_tree.specs.Children.{only_child}
use Rattle.es_tree.specs.CoreStaticRules.{is_bad_target, is_simple_target, place_in}
use Rattle.es_tree.specs.HasForm.{ElementsPlace, elements_of, field_form, flag_of, has_form, is_computed, same_type, sort_at}
use Rattle.es_tree.specs.Names.{first_text, has_computed}
use Rattle.es_tree.specs.Parens.{without_parens}
use Rattle.es_tree.specs.StaticRules.{is_misplaced_module_item}
use Rattle.es_tree.specs.Table.{own_kinds}
use Rattle.es_tree.specs.Tree.{Tree, node, Label, Fields, done, ◌then◌, Field, missing, one, many, statements, Trees, empty, ◌before◌, kind_of}
use Rattle.es_tree.specs.declared.ast_type.AstType.{AstType}
use Rattle.es_tree.specs.declared.ast_type.AstType.TheVariants.{
  ArrayExpression,
  ArrayPattern,
  ArrayTarget,
  ArrowFunctionExpression,
  AssignmentExpression,
  AssignmentPattern,
  BreakStatement,
  CatchClause,
  ClassDeclaration,
  ClassExpression,
  ContinueStatement,
  ExportAllDeclaration,
  ExportDefaultDeclaration,
  ExportNamedDeclaration,
  ExportSpecifier,
  ForInStatement,
  ForOfStatement,
  FunctionBody,
  FunctionDeclaration,
  FunctionExpression,
  ImportDefaultSpecifier,
  ImportNamespaceSpecifier,
  ImportSpecifier,
  LabeledStatement,
  MemberExpression,
  MethodDefinition,
  ObjectPattern,
  ObjectProperty,
  ObjectTarget,
  ParenthesizedExpression,
  PatternProperty,
  Program,
  PropertyDefinition,
  RestElement,
  StaticBlock,
  TargetProperty,
  TargetRest,
  TargetWithDefault,
  ThisExpression,
  UpdateExpression,
  VariableDeclaration,
  VariableDeclarator,
}
use Rattle.es_tree.specs.declared.place.Place.{Place}
use Rattle.es_tree.specs.declared.place.Place.TheVariants.{Target}
use Rattle.es_tree.specs.declared.table.Content.TheVariants.{Child as c-Child}
use Rattle.es_tree.specs.declared.table.FieldName.TheVariants.{Computed as f-Computed}
use Rattle.es_tree.specs.declared.table.Often.TheVariants.{Required}
use Rattle.es_tree.specs.declared.table.Sort.{Sort}
use Rattle.es_tree.specs.declared.table.Sort.TheVariants.{AssignmentTarget as s-AssignmentTarget, Expression as s-Expression, ForLeft as s-ForLeft, MemberProperty as s-MemberProperty, PropertyKey as s-PropertyKey, TargetElement as s-TargetElement, TargetElementRest as s-TargetElementRest}
use Rattle.es_tree.proofs.NodeForm.{node_form}
use Rattle.es_semantic.specs.RolesOf.{reads, role_at}
use Rattle.es_semantic.specs.declared.place.Role.{Role}
use Rattle.es_semantic.specs.declared.place.Role.TheVariants.{Nothing}
use Rattle.es_semantic.proofs.FormEdges.{Edges, EdgesAll, EdgesBy, EdgesIn, ElementsFit, edges-inside, elements-are, entries_fit, is_last, same-kind}
use Rattle.es_arrow_steps.specs.ThisFits.{belongs_in, is_read}
use Rattle.es_valid_steps.specs.ArrowNodes.{is_this_within}
use Rattle.es_valid_steps.specs.PlaceRules.{Keeps, KeepsAll, KeepsBy, KeepsIn}
use Rattle.es_valid_steps.proofs.Changed.{this-inside}

-- FIELDS

-- what stands in the field is a target
abbrev pub is_target_at : AstType → ℕ → Bool
is_target_at ArrayTarget i = true
is_target_at AssignmentExpression zero = true
is_target_at ForInStatement zero = true
is_target_at ForOfStatement zero = true
is_target_at TargetProperty (suc zero) = true
is_target_at TargetRest zero = true
is_target_at TargetWithDefault zero = true
is_target_at UpdateExpression zero = true
is_target_at _ i = false

-- a key or a property, which may be computed
abbrev pub is_key_at : AstType → ℕ → Bool
is_key_at MemberExpression (suc zero) = true
is_key_at MethodDefinition zero = true
is_key_at ObjectProperty zero = true
is_key_at PatternProperty zero = true
is_key_at PropertyDefinition zero = true
is_key_at TargetProperty zero = true
is_key_at _ i = false

-- its role is the node's own, and it may be an expression
abbrev pub is_handed_at : AstType → ℕ → Bool
is_handed_at ExportDefaultDeclaration zero = true
is_handed_at ParenthesizedExpression zero = true
is_handed_at _ i = false

-- no expression
abbrev pub is_apart_at : AstType → ℕ → Bool
is_apart_at ArrayPattern i = true
is_apart_at ArrowFunctionExpression zero = true
is_apart_at AssignmentPattern zero = true
is_apart_at BreakStatement zero = true
is_apart_at CatchClause zero = true
is_apart_at ClassDeclaration zero = true
is_apart_at ClassDeclaration (suc (suc zero)) = true
is_apart_at ClassExpression zero = true
is_apart_at ClassExpression (suc (suc zero)) = true
is_apart_at ContinueStatement zero = true
is_apart_at ExportAllDeclaration zero = true
is_apart_at ExportNamedDeclaration zero = true
is_apart_at ExportNamedDeclaration (suc zero) = true
is_apart_at ExportSpecifier zero = true
is_apart_at ExportSpecifier (suc zero) = true
is_apart_at FunctionBody (suc zero) = true
is_apart_at FunctionDeclaration zero = true
is_apart_at FunctionDeclaration (suc zero) = true
is_apart_at FunctionExpression zero = true
is_apart_at FunctionExpression (suc zero) = true
is_apart_at ImportDefaultSpecifier zero = true
is_apart_at ImportNamespaceSpecifier zero = true
is_apart_at ImportSpecifier zero = true
is_apart_at ImportSpecifier (suc zero) = true
is_apart_at LabeledStatement zero = true
is_apart_at MethodDefinition (suc zero) = true
is_apart_at ObjectPattern zero = true
is_apart_at ObjectTarget zero = true
is_apart_at PatternProperty (suc zero) = true
is_apart_at Program (suc zero) = true
is_apart_at RestElement zero = true
is_apart_at StaticBlock zero = true
is_apart_at VariableDeclaration zero = true
is_apart_at VariableDeclarator zero = true
is_apart_at _ i = false

-- all else is read
pub read-at : (r : Role) (k : AstType) (l : Label) (fs : Fields) (i : ℕ) → (is_target_at k i || is_key_at k i || is_handed_at k i || is_apart_at k i) ≡ false → role_at r k l fs i ≡ reads
read-at r ArrayPattern l fs i e = absurd (cc e)
read-at r ArrayTarget l fs i e = absurd (cc e)
read-at r ArrowFunctionExpression l fs zero e = absurd (cc e)
read-at r AssignmentExpression l fs zero e = absurd (cc e)
read-at r AssignmentPattern l fs zero e = absurd (cc e)
read-at r BreakStatement l fs zero e = absurd (cc e)
read-at r CatchClause l fs zero e = absurd (cc e)
read-at r ClassDeclaration l fs zero e = absurd (cc e)
read-at r ClassDeclaration l fs (suc (suc zero)) e = absurd (cc e)
read-at r ClassExpression l fs zero e = absurd (cc e)
read-at r ClassExpression l fs (suc (suc zero)) e = absurd (cc e)
read-at r ContinueStatement l fs zero e = absurd (cc e)
read-at r ExportAllDeclaration l fs zero e = absurd (cc e)
read-at r ExportDefaultDeclaration l fs zero e = absurd (cc e)
read-at r ExportNamedDeclaration l fs zero e = absurd (cc e)
read-at r ExportNamedDeclaration l fs (suc zero) e = absurd (cc e)
read-at r ExportSpecifier l fs zero e = absurd (cc e)
read-at r ExportSpecifier l fs (suc zero) e = absurd (cc e)
read-at r ForInStatement l fs zero e = absurd (cc e)
read-at r ForOfStatement l fs zero e = absurd (cc e)
read-at r FunctionBody l fs (suc zero) e = absurd (cc e)
read-at r FunctionDeclaration l fs zero e = absurd (cc e)
read-at r FunctionDeclaration l fs (suc zero) e = absurd (cc e)
read-at r FunctionExpression l fs zero e = absurd (cc e)
read-at r FunctionExpression l fs (suc zero) e = absurd (cc e)
read-at r ImportDefaultSpecifier l fs zero e = absurd (cc e)
read-at r ImportNamespaceSpecifier l fs zero e = absurd (cc e)
read-at r ImportSpecifier l fs zero e = absurd (cc e)
read-at r ImportSpecifier l fs (suc zero) e = absurd (cc e)
read-at r LabeledStatement l fs zero e = absurd (cc e)
read-at r MemberExpression l fs (suc zero) e = absurd (cc e)
read-at r MethodDefinition l fs zero e = absurd (cc e)
read-at r MethodDefinition l fs (suc zero) e = absurd (cc e)
read-at r ObjectPattern l fs zero e = absurd (cc e)
read-at r ObjectProperty l fs zero e = absurd (cc e)
read-at r ObjectTarget l fs zero e = absurd (cc e)
read-at r ParenthesizedExpression l fs zero e = absurd (cc e)
read-at r PatternProperty l fs zero e = absurd (cc e)
read-at r PatternProperty l fs (suc zero) e = absurd (cc e)
read-at r Program l fs (suc zero) e = absurd (cc e)
read-at r PropertyDefinition l fs zero e = absurd (cc e)
read-at r RestElement l fs zero e = absurd (cc e)
read-at r StaticBlock l fs zero e = absurd (cc e)
read-at r TargetProperty l fs zero e = absurd (cc e)
read-at r TargetProperty l fs (suc zero) e = absurd (cc e)
read-at r TargetRest l fs zero e = absurd (cc e)
read-at r TargetWithDefault l fs zero e = absurd (cc e)
read-at r UpdateExpression l fs zero e = absurd (cc e)
read-at r VariableDeclaration l fs zero e = absurd (cc e)
read-at r VariableDeclarator l fs zero e = absurd (cc e)
read-at r k l fs i e = refl

-- THE TEST of the table

-- kinds of `this`, maybe in parentheses
abbrev is_this_kind : AstType → Bool
is_this_kind ParenthesizedExpression = true
is_this_kind ThisExpression = true
is_this_kind _ = false

abbrev pub spoken : AstType → ℕ → Bool → AstType → Bool
spoken k i last j = (not (is_apart_at k i) || not (is_this_kind j)) && not (same_type j Program)

entries-fit : (k : AstType) → entries_fit spoken k 0 (child_entries k) ≡ true
entries-fit Program = refl
entries-fit _ = refl

elements-fit : (k : AstType) (p : ElementsPlace) → elements_of (child_entries k) ≡ Some p → ElementsFit spoken k p
elements-fit ArrayExpression p e = elements-are spoken ArrayExpression _ p e (record { sort = λ i b. refl; last = λ i b. refl })
elements-fit ArrayPattern p e = elements-are spoken ArrayPattern _ p e (record { sort = λ i b. refl; last = λ i b. refl })
elements-fit ArrayTarget p e = elements-are spoken ArrayTarget _ p e (record { sort = λ i b. refl; last = λ i b. refl })
elements-fit _ p e = absurd (cc e)

pub edges-spoken : (s : Sort) (k : AstType) (l : Label) (fs : Fields) → has_form s (node k l fs) ≡ true → EdgesIn spoken k 0 fs
edges-spoken = edges-inside spoken (record { entries = entries-fit; elements = elements-fit })

this-kind : (t : Tree) → is_this_within (Some t) ≡ true → is_this_kind (kind_of t) ≡ true
this-kind (node ParenthesizedExpression l fs) e = refl
this-kind (node ThisExpression l fs) e = refl
this-kind (node _ l fs) e = absurd (cc e)

-- WHAT IS SAID of a node in its role: where it is `this`, it is read, or belongs to no arrow

abbrev pub Said : Role → Bool → Tree → Type 0
Said r belongs t = is_this_within (Some t) ≡ true → (is_read r ≡ true) ⊎ (belongs ≡ false)

abbrev pub SaidAll : Role → Bool → Trees → Type 0
SaidAll r belongs empty = Unit {0}
SaidAll r belongs (t before ts) = Said r belongs t × SaidAll r belongs ts

abbrev pub SaidBy : Role → Bool → Field → Type 0
SaidBy r belongs missing = Unit {0}
SaidBy r belongs (one t) = Said r belongs t
SaidBy r belongs (many ts) = SaidAll r belongs ts
SaidBy r belongs (statements ts) = SaidAll r belongs ts

-- of each field, from the i-th on
abbrev pub SaidFrom : Role → Bool → AstType → Label → Fields → ℕ → Fields → Type 0
SaidFrom r belongs k l all i done = Unit {0}
SaidFrom r belongs k l all i (f then fs) = SaidBy (role_at r k l all i) (belongs_in belongs (ancestor k l done i 0)) f × SaidFrom r belongs k l all (suc i) fs

always-all : (r : Role) (b : Bool) → ((t : Tree) → Said r b t) → (ts : Trees) → SaidAll r b ts
always-all r b h empty = tt
always-all r b h (t before ts) = (h t, always-all r b h ts)

always : (r : Role) (b : Bool) → ((t : Tree) → Said r b t) → (f : Field) → SaidBy r b f
always r b h missing = tt
always r b h (one t) = h t
always r b h (many ts) = always-all r b h ts
always r b h (statements ts) = always-all r b h ts

-- TARGETS

this-own : (s : Sort) → list_any (same_type ThisExpression) (own_kinds s) ≡ false
this-own s-Expression = refl
this-own _ = refl

pub parens-own : (s : Sort) → list_any (same_type ParenthesizedExpression) (own_kinds s) ≡ false
parens-own s-Expression = refl
parens-own _ = refl

-- no target is `this`
no-target : (s : Sort) (t : Tree) → is_bad_target (Target s) t ≡ false → is_this_within (Some t) ≡ true → ⊥
no-target s t h e = at (list_any (same_type (kind_of t)) (own_kinds s)) (is_simple_target (kind_of (without_parens t))) (own t e) (ap is_simple_target (same-kind (kind_of (without_parens t)) ThisExpression e)) h
  where
    own : (t : Tree) → is_this_within (Some t) ≡ true → list_any (same_type (kind_of t)) (own_kinds s) ≡ false
    own (node ParenthesizedExpression l fs) e = parens-own s
    own (node ThisExpression l fs) e = this-own s
    own (node _ l fs) e = absurd (cc e)

    at : (a b : Bool) → a ≡ false → b ≡ false → not (a || b) ≡ false → ⊥
    at true b e d h = absurd (cc e)
    at false true e d h = absurd (cc d)
    at false false e d h = absurd (cc h)

target-none : (p : Place) (k : AstType) (l : Label) (i : ℕ) (t : Tree) → is_target_at k i ≡ true → is_bad_target (place_in p k l i) t ≡ false → is_this_within (Some t) ≡ true → ⊥
target-none p ArrayTarget l zero t e h d = no-target s-TargetElementRest t h d
target-none p ArrayTarget l (suc zero) t e h d = no-target s-TargetElementRest t h d
target-none p ArrayTarget l (suc (suc i)) t e h d = no-target s-TargetElementRest t h d
target-none p AssignmentExpression l zero t e h d = no-target (if bytes_eq (first_text l.texts) (codes "=") then s-AssignmentTarget else s-Expression) t h d
target-none p ForInStatement l zero t e h d = no-target s-ForLeft t h d
target-none p ForOfStatement l zero t e h d = no-target s-ForLeft t h d
target-none p TargetProperty l (suc zero) t e h d = no-target s-TargetElement t h d
target-none p TargetRest l zero t e h d = no-target s-TargetElement t h d
target-none p TargetWithDefault l zero t e h d = no-target s-TargetElement t h d
target-none p UpdateExpression l zero t e h d = no-target s-Expression t h d
target-none p k l i t e h d = absurd (cc e)

-- KEYS: where `this` is one, it is computed

abbrev pub is_key_sort : Sort → Bool
is_key_sort s-MemberProperty = true
is_key_sort s-PropertyKey = true
is_key_sort _ = false

key-computed : (k : AstType) (l : Label) (s : Sort) (t : Tree) → is_key_sort s ≡ true → has_form (if is_computed k l then s-Expression else s) t ≡ true → is_this_within (Some t) ≡ true → is_computed k l ≡ true
key-computed k l s t key h e = at (is_computed k l) h
  where
    no-key : (s : Sort) (t : Tree) → is_key_sort s ≡ true → has_form s t ≡ true → is_this_within (Some t) ≡ true → ⊥
    no-key s-MemberProperty (node ParenthesizedExpression l fs) key h e = absurd (let no : false ≡ true = (node_form s-MemberProperty ParenthesizedExpression l fs h).sort in cc no)
    no-key s-MemberProperty (node ThisExpression l fs) key h e = absurd (let no : false ≡ true = (node_form s-MemberProperty ThisExpression l fs h).sort in cc no)
    no-key s-MemberProperty (node _ l fs) key h e = absurd (cc e)
    no-key s-PropertyKey (node ParenthesizedExpression l fs) key h e = absurd (let no : false ≡ true = (node_form s-PropertyKey ParenthesizedExpression l fs h).sort in cc no)
    no-key s-PropertyKey (node ThisExpression l fs) key h e = absurd (let no : false ≡ true = (node_form s-PropertyKey ThisExpression l fs h).sort in cc no)
    no-key s-PropertyKey (node _ l fs) key h e = absurd (cc e)
    no-key s t key h e = absurd (cc key)

    at : (b : Bool) → has_form (if b then s-Expression else s) t ≡ true → b ≡ true
    at true h = refl
    at false h = absurd (no-key s t key h e)

-- the flag that tells it
pub computed-named : (k : AstType) (bs : List Bool) → (is_key_at k 0 || is_key_at k 1) ≡ true → flag_of f-Computed (flag_entries k) bs ≡ true → has_computed k bs ≡ true
computed-named MemberExpression [] e h = absurd (cc h)
computed-named MemberExpression (a ∷ bs) e h = h
computed-named MethodDefinition [] e h = absurd (cc h)
computed-named MethodDefinition (a ∷ []) e h = absurd (cc h)
computed-named MethodDefinition (a ∷ (b ∷ bs)) e h = h
computed-named ObjectProperty [] e h = absurd (cc h)
computed-named ObjectProperty (a ∷ []) e h = absurd (cc h)
computed-named ObjectProperty (a ∷ (b ∷ [])) e h = absurd (cc h)
computed-named ObjectProperty (a ∷ (b ∷ (c ∷ bs))) e h = h
computed-named PatternProperty [] e h = absurd (cc h)
computed-named PatternProperty (a ∷ []) e h = absurd (cc h)
computed-named PatternProperty (a ∷ (b ∷ bs)) e h = h
computed-named PropertyDefinition [] e h = absurd (cc h)
computed-named PropertyDefinition (a ∷ []) e h = absurd (cc h)
computed-named PropertyDefinition (a ∷ (b ∷ bs)) e h = h
computed-named TargetProperty [] e h = absurd (cc h)
computed-named TargetProperty (a ∷ []) e h = absurd (cc h)
computed-named TargetProperty (a ∷ (b ∷ bs)) e h = h
computed-named k bs e h = absurd (cc e)

-- the role of a key
key-read : (r : Role) (k : AstType) (l : Label) (fs : Fields) (i : ℕ) → is_key_at k i ≡ true → has_computed k l.flags ≡ true → is_read (role_at r k l fs i) ≡ true
key-read r MemberExpression l fs (suc zero) e h = ap (λ b. is_read (if b then reads else Nothing)) h
key-read r MethodDefinition l fs zero e h = ap (λ b. is_read (if b then reads else Nothing)) h
key-read r ObjectProperty l fs zero e h = ap (λ b. is_read (if b then reads else Nothing)) h
key-read r PatternProperty l fs zero e h = ap (λ b. is_read (if b then reads else Nothing)) h
key-read r PropertyDefinition l fs zero e h = ap (λ b. is_read (if b then reads else Nothing)) h
key-read r TargetProperty l fs zero e h = ap (λ b. is_read (if b then reads else Nothing)) h
key-read r k l fs i e h = absurd (cc e)

key-said : (r : Role) (b : Bool) (k : AstType) (l : Label) (all : Fields) (i : ℕ) (s : Sort) (f : Field) → is_key_at k i ≡ true → (is_key_at k 0 || is_key_at k 1) ≡ true → is_key_sort s ≡ true → sort_at k l s ≡ (if is_computed k l then s-Expression else s) → field_form k l (c-Child s Required) f ≡ true → SaidBy (role_at r k l all i) b f
key-said r b k l all i s missing e d key same h = tt
key-said r b k l all i s (one t) e d key same h = λ w. inl (key-read r k l all i e (computed-named k l.flags d (key-computed k l s t key (subst (λ (x : Sort). has_form x t ≡ true) same h) w)))
key-said r b k l all i s (many ts) e d key same h = absurd (cc h)
key-said r b k l all i s (statements ts) e d key same h = absurd (cc h)

-- FIELDS whose role is told by the table

record Spoken (k : AstType) (i : ℕ) (j : AstType) : Type 0 where
  apart : is_apart_at k i ≡ true → is_this_kind j ≡ false
  no_program : same_type j Program ≡ false

spoken-parts : (k : AstType) (i : ℕ) (last : Bool) (j : AstType) → spoken k i last j ≡ true → Spoken k i j
spoken-parts k i last j h =
    let parts = and_parts (not (is_apart_at k i) || not (is_this_kind j)) (not (same_type j Program)) h in
    record { apart = λ e. denied (is_this_kind j) (asked (is_apart_at k i) _ parts.0 e); no_program = denied (same_type j Program) parts.1 }
  where
    asked : (a b : Bool) → (not a || b) ≡ true → a ≡ true → b ≡ true
    asked true b h e = h
    asked false b h e = absurd (cc e)

    denied : (a : Bool) → not a ≡ true → a ≡ false
    denied true e = absurd (cc e)
    denied false e = refl

-- of a node that is no target, or no expression
target-said : (r : Role) (b : Bool) (k : AstType) (l : Label) (all : Fields) (i : ℕ) (up : List Ancestor) (t : Tree) → is_target_at k i ≡ true → Keeps (ancestor k l all i 0 ∷ up) t → Said r b t
target-said r b k l all i up (node j m gs) e h = λ w. absurd (target-none (place_of up) k l i (node j m gs) e h.0.target w)

apart-said : (r : Role) (b : Bool) (k : AstType) (i : ℕ) (last : Bool) (t : Tree) → is_apart_at k i ≡ true → Edges spoken k i last t → Said r b t
apart-said r b k i last (node j m gs) e h = λ w. absurd (let no = (spoken-parts k i last j h.0).apart e in let is = this-kind (node j m gs) w in cc (no, is))

module _ (r : Role) (b : Bool) (k : AstType) (l : Label) (all : Fields) (i : ℕ) (up : List Ancestor) where
  targets-said : (ts : Trees) → is_target_at k i ≡ true → KeepsAll (ancestor k l all i 0 ∷ up) ts → SaidAll r b ts
  targets-said empty e h = tt
  targets-said (t before ts) e h = (target-said r b k l all i up t e h.0, targets-said ts e h.1)

  field-target : (f : Field) → is_target_at k i ≡ true → KeepsBy (ancestor k l all i 0 ∷ up) f → SaidBy r b f
  field-target missing e h = tt
  field-target (one t) e h = target-said r b k l all i up t e h
  field-target (many ts) e h = targets-said ts e h
  field-target (statements ts) e h = targets-said ts e h

  all-apart : (ts : Trees) → is_apart_at k i ≡ true → EdgesAll spoken k i ts → SaidAll r b ts
  all-apart empty e h = tt
  all-apart (t before ts) e h = (apart-said r b k i false t e h.0, all-apart ts e h.1)

  field-apart : (last : Bool) (f : Field) → is_apart_at k i ≡ true → EdgesBy spoken k i last f → SaidBy r b f
  field-apart last missing e h = tt
  field-apart last (one t) e h = apart-said r b k i last t e h
  field-apart last (many ts) e h = all-apart ts e h
  field-apart last (statements ts) e h = all-apart ts e h

field-said : (r : Role) (b : Bool) (k : AstType) (l : Label) (all : Fields) (i : ℕ) (up : List Ancestor) (last : Bool) (f : Field) → (is_key_at k i || is_handed_at k i) ≡ false → EdgesBy spoken k i last f → KeepsBy (ancestor k l all i 0 ∷ up) f → SaidBy (role_at r k l all i) b f
field-said r b k l all i up last f clear edges keeps = at (is_target_at k i) refl (is_apart_at k i) refl
  where
    none : (a b c d : Bool) → (b || c) ≡ false → a ≡ false → d ≡ false → (a || b || c || d) ≡ false
    none a true c d e x y = absurd (cc e)
    none a false true d e x y = absurd (cc e)
    none true false false d e x y = absurd (cc x)
    none false false false d e x y = y

    at : (t : Bool) → is_target_at k i ≡ t → (a : Bool) → is_apart_at k i ≡ a → SaidBy (role_at r k l all i) b f
    at true e a d = field-target (role_at r k l all i) b k l all i up f e keeps
    at false e true d = field-apart (role_at r k l all i) b k l all i up last f d edges
    at false e false d = always (role_at r k l all i) b (λ t w. inl (ap (λ (x : Role). is_read x) (read-at r k l all i (none (is_target_at k i) (is_key_at k i) (is_handed_at k i) (is_apart_at k i) clear e d)))) f

-- THE FIELDS OF A NODE

pub later-clear : (k : AstType) → same_type k MemberExpression ≡ false → (n : ℕ) → (is_key_at k (suc n) || is_handed_at k (suc n)) ≡ false
later-clear MemberExpression e n = absurd (cc e)
later-clear _ e n = refl

later-from : (r : Role) (b : Bool) (k : AstType) (l : Label) (all : Fields) (up : List Ancestor) → same_type k MemberExpression ≡ false → (i : ℕ) (fs : Fields) → EdgesIn spoken k (suc i) fs → KeepsIn up k l all (suc i) fs → SaidFrom r b k l all (suc i) fs
later-from r b k l all up other i done edges keeps = tt
later-from r b k l all up other i (f then fs) edges keeps =
    (field-said r (belongs_in b (ancestor k l done (suc i) 0)) k l all (suc i) up (is_last fs) f (later-clear k other i) edges.0 keeps.0, later-from r b k l all up other (suc i) fs edges.1 keeps.1)

first-said : (a : Sort) (r : Role) (b : Bool) (k : AstType) (l : Label) (up : List Ancestor) (f : Field) (fs : Fields) → has_form a (node k l (f then fs)) ≡ true → Said r b (node k l (f then fs)) → (same_type k ExportDefaultDeclaration ≡ true → b ≡ false) → EdgesBy spoken k 0 (is_last fs) f → KeepsBy (ancestor k l (f then fs) 0 0 ∷ up) f → SaidBy (role_at r k l (f then fs) 0) (belongs_in b (ancestor k l done 0 0)) f
first-said a r b MethodDefinition l up f fs form said out edges keeps = key-said r _ MethodDefinition l (f then fs) 0 s-PropertyKey f refl refl refl refl (and_parts (field_form MethodDefinition l (c-Child s-PropertyKey Required) f) _ (node_form a MethodDefinition l (f then fs) form).children).0
first-said a r b ObjectProperty l up f fs form said out edges keeps = key-said r _ ObjectProperty l (f then fs) 0 s-PropertyKey f refl refl refl refl (and_parts (field_form ObjectProperty l (c-Child s-PropertyKey Required) f) _ (node_form a ObjectProperty l (f then fs) form).children).0
first-said a r b PatternProperty l up f fs form said out edges keeps = key-said r _ PatternProperty l (f then fs) 0 s-PropertyKey f refl refl refl refl (and_parts (field_form PatternProperty l (c-Child s-PropertyKey Required) f) _ (node_form a PatternProperty l (f then fs) form).children).0
first-said a r b PropertyDefinition l up f fs form said out edges keeps = key-said r _ PropertyDefinition l (f then fs) 0 s-PropertyKey f refl refl refl refl (and_parts (field_form PropertyDefinition l (c-Child s-PropertyKey Required) f) _ (node_form a PropertyDefinition l (f then fs) form).children).0
first-said a r b TargetProperty l up f fs form said out edges keeps = key-said r _ TargetProperty l (f then fs) 0 s-PropertyKey f refl refl refl refl (and_parts (field_form TargetProperty l (c-Child s-PropertyKey Required) f) _ (node_form a TargetProperty l (f then fs) form).children).0
first-said a r b ExportDefaultDeclaration l up f fs form said out edges keeps = always r b (λ t w. inr (out refl)) f
first-said a r b ParenthesizedExpression l up f fs form said out edges keeps = inside f (λ w. said (this-inside l (f then fs) ∙ w)) (and_parts (field_form ParenthesizedExpression l (c-Child s-Expression Required) f) _ (node_form a ParenthesizedExpression l (f then fs) form).children).0
  where
    inside : (f : Field) → (is_this_within (only_child f) ≡ true → (is_read r ≡ true) ⊎ (b ≡ false)) → field_form ParenthesizedExpression l (c-Child s-Expression Required) f ≡ true → SaidBy r b f
    inside missing h g = tt
    inside (one t) h g = h
    inside (many ts) h g = absurd (cc g)
    inside (statements ts) h g = absurd (cc g)
first-said a r b k l up f fs form said out edges keeps = field-said r (belongs_in b (ancestor k l done 0 0)) k l (f then fs) 0 up (is_last fs) f refl edges keeps

-- the property of a member, and what else stands in it
member-said : (a : Sort) (r : Role) (b : Bool) (l : Label) (up : List Ancestor) (fs : Fields) → has_form a (node MemberExpression l fs) ≡ true → EdgesIn spoken MemberExpression 0 fs → KeepsIn up MemberExpression l fs 0 fs → SaidFrom r b MemberExpression l fs 0 fs
member-said a r b l up done form edges keeps = tt
member-said a r b l up (f then done) form edges keeps = (field-said r b MemberExpression l (f then done) 0 up true f refl edges.0 keeps.0, tt)
member-said a r b l up (f then (g then done)) form edges keeps =
    let all = f then (g then done) in
    let later = (and_parts (field_form MemberExpression l (c-Child s-Expression Required) f) _ (node_form a MemberExpression l all form).children).1 in
    (field-said r b MemberExpression l all 0 up false f refl edges.0 keeps.0, (key-said r b MemberExpression l all 1 s-MemberProperty g refl refl refl refl (and_parts (field_form MemberExpression l (c-Child s-MemberProperty Required) g) _ later).0, tt))
member-said a r b l up (f then (g then (x then fs))) form edges keeps = absurd (too-many (and_parts (field_form MemberExpression l (c-Child s-Expression Required) f) _ (node_form a MemberExpression l (f then (g then (x then fs))) form).children).1)
  where
    too-many : (field_form MemberExpression l (c-Child s-MemberProperty Required) g && false) ≡ true → ⊥
    too-many h = at (field_form MemberExpression l (c-Child s-MemberProperty Required) g) h
      where
        at : (v : Bool) → (v && false) ≡ true → ⊥
        at true h = absurd (cc h)
        at false h = absurd (cc h)

pub node-said : (a : Sort) (r : Role) (b : Bool) (k : AstType) (l : Label) (up : List Ancestor) (fs : Fields) → has_form a (node k l fs) ≡ true → Said r b (node k l fs) → (same_type k ExportDefaultDeclaration ≡ true → b ≡ false) → KeepsIn up k l fs 0 fs → SaidFrom r b k l fs 0 fs
node-said a r b k l up fs form said out keeps = at (same_type k MemberExpression) refl fs form said keeps (edges-spoken a k l fs form)
  where
    at : (m : Bool) → same_type k MemberExpression ≡ m → (fs : Fields) → has_form a (node k l fs) ≡ true → Said r b (node k l fs) → KeepsIn up k l fs 0 fs → EdgesIn spoken k 0 fs → SaidFrom r b k l fs 0 fs
    at true e fs form said keeps edges =
        let same = same-kind k MemberExpression e in
        subst (λ (j : AstType). SaidFrom r b j l fs 0 fs) (sym same) (member-said a r b l up fs (subst (λ (j : AstType). has_form a (node j l fs) ≡ true) same form) (subst (λ (j : AstType). EdgesIn spoken j 0 fs) same edges) (subst (λ (j : AstType). KeepsIn up j l fs 0 fs) same keeps))
    at false e done form said keeps edges = tt
    at false e (f then fs) form said keeps edges = (first-said a r b k l up f fs form said out edges.0 keeps.0, later-from r b k l (f then fs) up e 0 fs edges.1 keeps.1)

-- WHAT EXPORTS stands in a program, to which no arrow belongs

abbrev pub is_outermost : AstType → Bool
is_outermost k = same_type k Program || same_type k ExportDefaultDeclaration

pub out-of : (k : AstType) (l : Label) (all : Fields) (i : ℕ) (up : List Ancestor) (last : Bool) (b : Bool) (t : Tree) → Edges spoken k i last t → Keeps (ancestor k l all i 0 ∷ up) t → (same_type k Program ≡ true → b ≡ false) → is_outermost (kind_of t) ≡ true → b ≡ false
out-of k l all i up last b (node j m gs) h keeps out e = at (same_type j Program) (same_type j ExportDefaultDeclaration) refl e (spoken-parts k i last j h.0).no_program
  where
    exported : (j : AstType) → same_type j ExportDefaultDeclaration ≡ true → is_misplaced_module_item (ancestor k l all i 0 ∷ up) (node j m gs) ≡ false → same_type k Program ≡ true
    exported ExportDefaultDeclaration d g = program (same_type k Program) (i == 1) (is_module (ancestor k l all i 0 ∷ up)) g
      where
        program : (p f m : Bool) → not ((p && f) && m) ≡ false → p ≡ true
        program true f m g = refl
        program false f m g = absurd (cc g)
    exported _ d g = absurd (cc d)

    at : (p d : Bool) → same_type j ExportDefaultDeclaration ≡ d → (p || d) ≡ true → p ≡ false → b ≡ false
    at true d same e f = absurd (cc f)
    at false true same e f = out (exported j same keeps.0.item)
    at false false same e f = absurd (cc e)
