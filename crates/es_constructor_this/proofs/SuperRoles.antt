-- Where a call of any kind may stand in a program that has form and breaks no static rule of places, maybe in parentheses: where it is read (ECMA-262,
-- 13.3.6), but for what a module exports as its default (16.2.3).
use Rattle.std.proofs.Common.{◌≡◌, ◌+◌, ℕ, zero, suc, refl, sym, ap, subst, List, ◌∷◌, arith}
use Rattle.std.specs.Prelude.{◌&&◌, ◌||◌, not, Bool, true, false, Some, bytes_eq, codes, if◌then◌else◌}
use Rattle.std.specs.List.{list_any}
use Rattle.std.proofs.lemmas.Bool.{and_parts}
use Rattle.es_tree.specs.Ancestors.{Ancestor, ancestor, place_of}
use Rattle.es_tree.specs.Attributes.{child_entries}
use Rattle.es_tree.specs.CoreStaticRules.{is_bad_target, is_simple_target, place_in}
use Rattle.es_tree.specs.HasForm.{ElementsPlace, elements_of, field_form, has_form, is_computed, same_type, sort_at}
use Rattle.es_tree.specs.Names.{first_text, has_computed}
use Rattle.es_tree.specs.Parens.{without_parens}
use Rattle.es_tree.specs.Table.{own_kinds}
use Rattle.es_tree.specs.Tree.{Tree, node, Label, Fields, done, ◌then◌, Field, missing, one, many, statements, Trees, empty, ◌before◌, kind_of}
use Rattle.es_tree.specs.declared.ast_type.AstType.{AstType}
use Rattle.es_tree.specs.declared.ast_type.AstType.TheVariants.{
  ArrayExpression,
  ArrayPattern,
  ArrayTarget,
  AssignmentExpression,
  CallExpression,
  ExportDefaultDeclaration,
  ForInStatement,
  ForOfStatement,
  MemberExpression,
  MethodDefinition,
  ObjectProperty,
  ParenthesizedExpression,
  PatternProperty,
  PropertyDefinition,
  TargetProperty,
  TargetRest,
  TargetWithDefault,
  UpdateExpression,
}
use Rattle.es_tree.specs.declared.place.Place.{Place}
use Rattle.es_tree.specs.declared.place.Place.TheVariants.{Target}
use Rattle.es_tree.specs.declared.table.Content.TheVariants.{Child as c-Child}
use Rattle.es_tree.specs.declared.table.Often.TheVariants.{Required}
use Rattle.es_tree.specs.declared.table.Sort.{Sort}
use Rattle.es_tree.specs.declared.table.Sort.TheVariants.{AssignmentTarget as s-AssignmentTarget, Expression as s-Expression, ForLeft as s-ForLeft, MemberProperty as s-MemberProperty, PropertyKey as s-PropertyKey, TargetElement as s-TargetElement, TargetElementRest as s-TargetElementRest}
use Rattle.es_tree.proofs.NodeForm.{node_form}
use Rattle.es_semantic.specs.RolesOf.{reads, role_at}
use Rattle.es_semantic.specs.declared.place.Role.{Role}
use Rattle.es_semantic.proofs.FormEdges.{Edges, EdgesAll, EdgesBy, EdgesIn, ElementsFit, edges-inside, elements-are, entries_fit, is_last, same-kind}
use Rattle.es_valid_steps.specs.PlaceRules.{Keeps, KeepsAll, KeepsBy, KeepsIn}
use Rattle.es_valid_arrows.proofs.ThisRoles.{computed-named, is_apart_at, is_handed_at, is_key_at, is_key_sort, is_target_at, later-clear, parens-own, read-at}

-- a call, maybe in parentheses
abbrev pub is_call_within : Tree → Bool
is_call_within t = same_type (kind_of (without_parens t)) CallExpression

-- THE TEST of the table

abbrev is_call_kind : AstType → Bool
is_call_kind ParenthesizedExpression = true
is_call_kind CallExpression = true
is_call_kind _ = false

abbrev pub called_at : AstType → ℕ → Bool → AstType → Bool
called_at k i last j = not (is_apart_at k i) || not (is_call_kind j)

entries-fit : (k : AstType) → entries_fit called_at k 0 (child_entries k) ≡ true
entries-fit CallExpression = refl
entries-fit _ = refl

elements-fit : (k : AstType) (p : ElementsPlace) → elements_of (child_entries k) ≡ Some p → ElementsFit called_at k p
elements-fit ArrayExpression p e = elements-are called_at ArrayExpression _ p e (record { sort = λ i b. refl; last = λ i b. refl })
elements-fit ArrayPattern p e = elements-are called_at ArrayPattern _ p e (record { sort = λ i b. refl; last = λ i b. refl })
elements-fit ArrayTarget p e = elements-are called_at ArrayTarget _ p e (record { sort = λ i b. refl; last = λ i b. refl })
elements-fit _ p e = absurd (cc e)

pub edges-called : (s : Sort) (k : AstType) (l : Label) (fs : Fields) → has_form s (node k l fs) ≡ true → EdgesIn called_at k 0 fs
edges-called = edges-inside called_at (record { entries = entries-fit; elements = elements-fit })

call-kind : (t : Tree) → is_call_within t ≡ true → is_call_kind (kind_of t) ≡ true
call-kind (node ParenthesizedExpression l fs) e = refl
call-kind (node CallExpression l fs) e = refl
call-kind (node _ l fs) e = absurd (cc e)

-- WHAT IS SAID of a node in its role: where it is a call, it is read

abbrev pub Said : Role → Tree → Type 0
Said r t = is_call_within t ≡ true → r ≡ reads

abbrev pub SaidAll : Role → Trees → Type 0
SaidAll r empty = Unit {0}
SaidAll r (t before ts) = Said r t × SaidAll r ts

abbrev pub SaidBy : Role → Field → Type 0
SaidBy r missing = Unit {0}
SaidBy r (one t) = Said r t
SaidBy r (many ts) = SaidAll r ts
SaidBy r (statements ts) = SaidAll r ts

-- of each field
abbrev pub SaidIn : (ℕ → Role) → Fields → Type 0
SaidIn roles done = Unit {0}
SaidIn roles (f then fs) = SaidBy (roles zero) f × SaidIn (λ i. roles (suc i)) fs

always-all : (r : Role) → r ≡ reads → (ts : Trees) → SaidAll r ts
always-all r h empty = tt
always-all r h (t before ts) = ((λ e. h), always-all r h ts)

always : (r : Role) → r ≡ reads → (f : Field) → SaidBy r f
always r h missing = tt
always r h (one t) = λ e. h
always r h (many ts) = always-all r h ts
always r h (statements ts) = always-all r h ts

-- TARGETS

-- no target is a call
no-target : (s : Sort) (t : Tree) → list_any (same_type CallExpression) (own_kinds s) ≡ false → is_bad_target (Target s) t ≡ false → is_call_within t ≡ true → ⊥
no-target s t none h e = at (list_any (same_type (kind_of t)) (own_kinds s)) (is_simple_target (kind_of (without_parens t))) (own t e) (ap is_simple_target (same-kind (kind_of (without_parens t)) CallExpression e)) h
  where
    own : (t : Tree) → is_call_within t ≡ true → list_any (same_type (kind_of t)) (own_kinds s) ≡ false
    own (node ParenthesizedExpression l fs) e = parens-own s
    own (node CallExpression l fs) e = none
    own (node _ l fs) e = absurd (cc e)

    at : (a b : Bool) → a ≡ false → b ≡ false → not (a || b) ≡ false → ⊥
    at true b e d h = absurd (cc e)
    at false true e d h = absurd (cc d)
    at false false e d h = absurd (cc h)

assigned-none : (b : Bool) → list_any (same_type CallExpression) (own_kinds (if b then s-AssignmentTarget else s-Expression)) ≡ false
assigned-none true = refl
assigned-none false = refl

target-none : (p : Place) (k : AstType) (l : Label) (i : ℕ) (t : Tree) → is_target_at k i ≡ true → is_bad_target (place_in p k l i) t ≡ false → is_call_within t ≡ true → ⊥
target-none p ArrayTarget l zero t e h d = no-target s-TargetElementRest t refl h d
target-none p ArrayTarget l (suc zero) t e h d = no-target s-TargetElementRest t refl h d
target-none p ArrayTarget l (suc (suc i)) t e h d = no-target s-TargetElementRest t refl h d
target-none p AssignmentExpression l zero t e h d = no-target (if bytes_eq (first_text l.texts) (codes "=") then s-AssignmentTarget else s-Expression) t (assigned-none (bytes_eq (first_text l.texts) (codes "="))) h d
target-none p ForInStatement l zero t e h d = no-target s-ForLeft t refl h d
target-none p ForOfStatement l zero t e h d = no-target s-ForLeft t refl h d
target-none p TargetProperty l (suc zero) t e h d = no-target s-TargetElement t refl h d
target-none p TargetRest l zero t e h d = no-target s-TargetElement t refl h d
target-none p TargetWithDefault l zero t e h d = no-target s-TargetElement t refl h d
target-none p UpdateExpression l zero t e h d = no-target s-Expression t refl h d
target-none p k l i t e h d = absurd (cc e)

-- KEYS: where a call is one, it is computed

key-computed : (k : AstType) (l : Label) (s : Sort) (t : Tree) → is_key_sort s ≡ true → has_form (if is_computed k l then s-Expression else s) t ≡ true → is_call_within t ≡ true → is_computed k l ≡ true
key-computed k l s t key h e = at (is_computed k l) h
  where
    no-key : (s : Sort) (t : Tree) → is_key_sort s ≡ true → has_form s t ≡ true → is_call_within t ≡ true → ⊥
    no-key s-MemberProperty (node ParenthesizedExpression l fs) key h e = absurd (let no : false ≡ true = (node_form s-MemberProperty ParenthesizedExpression l fs h).sort in cc no)
    no-key s-MemberProperty (node CallExpression l fs) key h e = absurd (let no : false ≡ true = (node_form s-MemberProperty CallExpression l fs h).sort in cc no)
    no-key s-MemberProperty (node _ l fs) key h e = absurd (cc e)
    no-key s-PropertyKey (node ParenthesizedExpression l fs) key h e = absurd (let no : false ≡ true = (node_form s-PropertyKey ParenthesizedExpression l fs h).sort in cc no)
    no-key s-PropertyKey (node CallExpression l fs) key h e = absurd (let no : false ≡ true = (node_form s-PropertyKey CallExpression l fs h).sort in cc no)
    no-key s-PropertyKey (node _ l fs) key h e = absurd (cc e)
    no-key s t key h e = absurd (cc key)

    at : (b : Bool) → has_form (if b then s-Expression else s) t ≡ true → b ≡ true
    at true h = refl
    at false h = absurd (no-key s t key h e)

-- the role of a key
key-read : (r : Role) (k : AstType) (l : Label) (fs : Fields) (i : ℕ) → is_key_at k i ≡ true → has_computed k l.flags ≡ true → role_at r k l fs i ≡ reads
key-read r MemberExpression l fs (suc zero) e h = rw h refl
key-read r MethodDefinition l fs zero e h = rw h refl
key-read r ObjectProperty l fs zero e h = rw h refl
key-read r PatternProperty l fs zero e h = rw h refl
key-read r PropertyDefinition l fs zero e h = rw h refl
key-read r TargetProperty l fs zero e h = rw h refl
key-read r k l fs i e h = absurd (cc e)

key-said : (r : Role) (k : AstType) (l : Label) (all : Fields) (i : ℕ) (s : Sort) (f : Field) → is_key_at k i ≡ true → (is_key_at k 0 || is_key_at k 1) ≡ true → is_key_sort s ≡ true → sort_at k l s ≡ (if is_computed k l then s-Expression else s) → field_form k l (c-Child s Required) f ≡ true → SaidBy (role_at r k l all i) f
key-said r k l all i s missing e d key same h = tt
key-said r k l all i s (one t) e d key same h = λ w. key-read r k l all i e (computed-named k l.flags d (key-computed k l s t key (subst (λ (x : Sort). has_form x t ≡ true) same h) w))
key-said r k l all i s (many ts) e d key same h = absurd (cc h)
key-said r k l all i s (statements ts) e d key same h = absurd (cc h)

-- FIELDS whose role is told by the table

-- of a node that is no target, or no expression
target-said : (r : Role) (k : AstType) (l : Label) (all : Fields) (i : ℕ) (up : List Ancestor) (t : Tree) → is_target_at k i ≡ true → Keeps (ancestor k l all i 0 ∷ up) t → Said r t
target-said r k l all i up (node j m gs) e h = λ w. absurd (target-none (place_of up) k l i (node j m gs) e h.0.target w)

apart-said : (r : Role) (k : AstType) (i : ℕ) (last : Bool) (t : Tree) → is_apart_at k i ≡ true → Edges called_at k i last t → Said r t
apart-said r k i last (node j m gs) e h = λ w. absurd (none (is_apart_at k i) (is_call_kind j) e (call-kind (node j m gs) w) h.0)
  where
    none : (a b : Bool) → a ≡ true → b ≡ true → (not a || not b) ≡ true → ⊥
    none true true e d h = absurd (cc h)
    none true false e d h = absurd (cc d)
    none false b e d h = absurd (cc e)

module _ (r : Role) (k : AstType) (l : Label) (all : Fields) (i : ℕ) (up : List Ancestor) where
  targets-said : (ts : Trees) → is_target_at k i ≡ true → KeepsAll (ancestor k l all i 0 ∷ up) ts → SaidAll r ts
  targets-said empty e h = tt
  targets-said (t before ts) e h = (target-said r k l all i up t e h.0, targets-said ts e h.1)

  field-target : (f : Field) → is_target_at k i ≡ true → KeepsBy (ancestor k l all i 0 ∷ up) f → SaidBy r f
  field-target missing e h = tt
  field-target (one t) e h = target-said r k l all i up t e h
  field-target (many ts) e h = targets-said ts e h
  field-target (statements ts) e h = targets-said ts e h

  all-apart : (ts : Trees) → is_apart_at k i ≡ true → EdgesAll called_at k i ts → SaidAll r ts
  all-apart empty e h = tt
  all-apart (t before ts) e h = (apart-said r k i false t e h.0, all-apart ts e h.1)

  field-apart : (last : Bool) (f : Field) → is_apart_at k i ≡ true → EdgesBy called_at k i last f → SaidBy r f
  field-apart last missing e h = tt
  field-apart last (one t) e h = apart-said r k i last t e h
  field-apart last (many ts) e h = all-apart ts e h
  field-apart last (statements ts) e h = all-apart ts e h

field-said : (r : Role) (k : AstType) (l : Label) (all : Fields) (i : ℕ) (up : List Ancestor) (last : Bool) (f : Field) → (is_key_at k i || is_handed_at k i) ≡ false → EdgesBy called_at k i last f → KeepsBy (ancestor k l all i 0 ∷ up) f → SaidBy (role_at r k l all i) f
field-said r k l all i up last f clear edges keeps = at (is_target_at k i) refl (is_apart_at k i) refl
  where
    none : (a b c d : Bool) → (b || c) ≡ false → a ≡ false → d ≡ false → (a || b || c || d) ≡ false
    none a true c d e x y = absurd (cc e)
    none a false true d e x y = absurd (cc e)
    none true false false d e x y = absurd (cc x)
    none false false false d e x y = y

    at : (t : Bool) → is_target_at k i ≡ t → (a : Bool) → is_apart_at k i ≡ a → SaidBy (role_at r k l all i) f
    at true e a d = field-target (role_at r k l all i) k l all i up f e keeps
    at false e true d = field-apart (role_at r k l all i) k l all i up last f d edges
    at false e false d = always (role_at r k l all i) (read-at r k l all i (none (is_target_at k i) (is_key_at k i) (is_handed_at k i) (is_apart_at k i) clear e d)) f

-- THE FIELDS OF A NODE

later-said : (r : Role) (k : AstType) (l : Label) (all : Fields) (up : List Ancestor) → same_type k MemberExpression ≡ false → (i : ℕ) (roles : ℕ → Role) (fs : Fields) → ((j m : ℕ) → m ≡ suc i + j → role_at r k l all m ≡ roles j) → EdgesIn called_at k (suc i) fs → KeepsIn up k l all (suc i) fs → SaidIn roles fs
later-said r k l all up other i roles done same edges keeps = tt
later-said r k l all up other i roles (f then fs) same edges keeps = (
  subst (λ (x : Role). SaidBy x f) (same 0 (suc i) (omega arith)) (field-said r k l all (suc i) up (is_last fs) f (later-clear k other i) edges.0 keeps.0),
  later-said r k l all up other (suc i) (λ j. roles (suc j)) fs (λ j m e. same (suc j) m (omega (arith, e))) edges.1 keeps.1,
)

first-said : (a : Sort) (r : Role) (k : AstType) (l : Label) (up : List Ancestor) (f : Field) (fs : Fields) → has_form a (node k l (f then fs)) ≡ true → Said r (node k l (f then fs)) → same_type k ExportDefaultDeclaration ≡ false → EdgesBy called_at k 0 (is_last fs) f → KeepsBy (ancestor k l (f then fs) 0 0 ∷ up) f → SaidBy (role_at r k l (f then fs) 0) f
first-said a r MethodDefinition l up f fs form said out edges keeps = key-said r MethodDefinition l (f then fs) 0 s-PropertyKey f refl refl refl refl (and_parts (field_form MethodDefinition l (c-Child s-PropertyKey Required) f) _ (node_form a MethodDefinition l (f then fs) form).children).0
first-said a r ObjectProperty l up f fs form said out edges keeps = key-said r ObjectProperty l (f then fs) 0 s-PropertyKey f refl refl refl refl (and_parts (field_form ObjectProperty l (c-Child s-PropertyKey Required) f) _ (node_form a ObjectProperty l (f then fs) form).children).0
first-said a r PatternProperty l up f fs form said out edges keeps = key-said r PatternProperty l (f then fs) 0 s-PropertyKey f refl refl refl refl (and_parts (field_form PatternProperty l (c-Child s-PropertyKey Required) f) _ (node_form a PatternProperty l (f then fs) form).children).0
first-said a r PropertyDefinition l up f fs form said out edges keeps = key-said r PropertyDefinition l (f then fs) 0 s-PropertyKey f refl refl refl refl (and_parts (field_form PropertyDefinition l (c-Child s-PropertyKey Required) f) _ (node_form a PropertyDefinition l (f then fs) form).children).0
first-said a r TargetProperty l up f fs form said out edges keeps = key-said r TargetProperty l (f then fs) 0 s-PropertyKey f refl refl refl refl (and_parts (field_form TargetProperty l (c-Child s-PropertyKey Required) f) _ (node_form a TargetProperty l (f then fs) form).children).0
first-said a r ExportDefaultDeclaration l up f fs form said out edges keeps = absurd (cc out)
first-said a r ParenthesizedExpression l up f fs form said out edges keeps = inside f said (and_parts (field_form ParenthesizedExpression l (c-Child s-Expression Required) f) _ (node_form a ParenthesizedExpression l (f then fs) form).children).0
  where
    inside : (f : Field) → Said r (node ParenthesizedExpression l (f then fs)) → field_form ParenthesizedExpression l (c-Child s-Expression Required) f ≡ true → SaidBy r f
    inside missing h g = tt
    inside (one t) h g = h
    inside (many ts) h g = absurd (cc g)
    inside (statements ts) h g = absurd (cc g)
first-said a r k l up f fs form said out edges keeps = field-said r k l (f then fs) 0 up (is_last fs) f refl edges keeps

-- the property of a member, and what else stands in it
member-said : (a : Sort) (r : Role) (l : Label) (up : List Ancestor) (fs : Fields) → has_form a (node MemberExpression l fs) ≡ true → EdgesIn called_at MemberExpression 0 fs → KeepsIn up MemberExpression l fs 0 fs → SaidIn (role_at r MemberExpression l fs) fs
member-said a r l up done form edges keeps = tt
member-said a r l up (f then done) form edges keeps = (field-said r MemberExpression l (f then done) 0 up true f refl edges.0 keeps.0, tt)
member-said a r l up (f then (g then done)) form edges keeps =
    let all = f then (g then done) in
    let later = (and_parts (field_form MemberExpression l (c-Child s-Expression Required) f) _ (node_form a MemberExpression l all form).children).1 in
    (field-said r MemberExpression l all 0 up false f refl edges.0 keeps.0, (key-said r MemberExpression l all 1 s-MemberProperty g refl refl refl refl (and_parts (field_form MemberExpression l (c-Child s-MemberProperty Required) g) _ later).0, tt))
member-said a r l up (f then (g then (x then fs))) form edges keeps = absurd (too-many (and_parts (field_form MemberExpression l (c-Child s-Expression Required) f) _ (node_form a MemberExpression l (f then (g then (x then fs))) form).children).1)
  where
    too-many : (field_form MemberExpression l (c-Child s-MemberProperty Required) g && false) ≡ true → ⊥
    too-many h = at (field_form MemberExpression l (c-Child s-MemberProperty Required) g) h
      where
        at : (v : Bool) → (v && false) ≡ true → ⊥
        at true h = absurd (cc h)
        at false h = absurd (cc h)

pub fields-said : (a : Sort) (r : Role) (k : AstType) (l : Label) (up : List Ancestor) (fs : Fields) → has_form a (node k l fs) ≡ true → Said r (node k l fs) → same_type k ExportDefaultDeclaration ≡ false → KeepsIn up k l fs 0 fs → SaidIn (role_at r k l fs) fs
fields-said a r k l up fs form said out keeps = at (same_type k MemberExpression) refl fs form said keeps (edges-called a k l fs form)
  where
    at : (m : Bool) → same_type k MemberExpression ≡ m → (fs : Fields) → has_form a (node k l fs) ≡ true → Said r (node k l fs) → KeepsIn up k l fs 0 fs → EdgesIn called_at k 0 fs → SaidIn (role_at r k l fs) fs
    at true e fs form said keeps edges =
        let same = same-kind k MemberExpression e in
        subst (λ (j : AstType). SaidIn (role_at r j l fs) fs) (sym same) (member-said a r l up fs (subst (λ (j : AstType). has_form a (node j l fs) ≡ true) same form) (subst (λ (j : AstType). EdgesIn called_at j 0 fs) same edges) (subst (λ (j : AstType). KeepsIn up j l fs 0 fs) same keeps))
    at false e done form said keeps edges = tt
    at false e (f then fs) form said keeps edges = (
      first-said a r k l up f fs form said out edges.0 keeps.0,
      later-said r k l (f then fs) up e 0 (λ j. role_at r k l (f then fs) (suc j)) fs (λ j m d. ap (λ i. role_at r k l (f then fs) i) (the-same j m d)) edges.1 keeps.1,
    )
      where
        the-same : (j m : ℕ) → m ≡ 1 + j → m ≡ suc j
        the-same j m d = omega (arith, d)

-- STATEMENTS of a body are no calls
pub statements-said : (r : Role) (k : AstType) (ts : Trees) → EdgesAll called_at k 1 ts → is_apart_at k 1 ≡ true → SaidAll r ts
statements-said r k empty h e = tt
statements-said r k (t before ts) h e = (apart-said r k 1 false t e h.0, statements-said r k ts h.1 e)
