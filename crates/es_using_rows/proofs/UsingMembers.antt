-- `using` in a static block is a step of the class around it: in a tree that has form static blocks stand among the members of classes alone.
use Rattle.std.proofs.Common.{◌≡◌, ◌∙◌, ℕ, suc, refl, sym, ap, subst, inl, inr, true≢false, List, [], ◌∷◌}
use Rattle.std.specs.Prelude.{◌&&◌, ◌==◌, ◌||◌, not, Bool, true, false, Option, Some, codes}
use Rattle.std.proofs.lemmas.Bool.{and_parts}
use Rattle.es_tree.specs.Attributes.{child_entries}
use Rattle.es_tree.specs.Fresh.{IsFreshName, text_base}
use Rattle.es_tree.specs.HasForm.{ElementsPlace, elements_of, field_form, fields_form, has_form, same_type, trees_form}
use Rattle.es_tree.specs.Tree.{Tree, node, Label, Fields, done, ◌then◌, Field, missing, one, many, statements, Trees, empty, ◌before◌, kind_of}
use Rattle.es_tree.specs.Words.{Text}
use Rattle.es_tree.specs.declared.ast_type.AstType.{AstType}
use Rattle.es_tree.specs.declared.ast_type.AstType.TheVariants.{ArrayExpression, ArrayPattern, ArrayTarget, ClassDeclaration, ClassExpression, StaticBlock}
use Rattle.es_tree.specs.declared.table.Content.TheVariants.{Child as c-Child}
use Rattle.es_tree.specs.declared.table.Entry.{Entry}
use Rattle.es_tree.specs.declared.table.Often.TheVariants.{List as a-List}
use Rattle.es_tree.specs.declared.table.Sort.{Sort}
use Rattle.es_tree.specs.declared.table.Sort.TheVariants.{ClassElement as s-ClassElement, Statement as s-Statement}
use Rattle.es_tree.proofs.NodeForm.{node_form}
use Rattle.es_semantic.specs.declared.place.Role.{Role}
use Rattle.es_semantic.proofs.FormEdges.{EdgesAll, EdgesBy, EdgesIn, ElementsFit, TableFits, edges-inside, elements-are, entries_fit, is_last}
use Rattle.es_resolution.specs.Declarations.{Bound}
use Rattle.es_resolution.specs.Resolved.{Place}
use Rattle.es_resolution.proofs.AllForms.{AllAmong}
use Rattle.es_steps.specs.AllRules.{UsingRule}
use Rattle.es_steps.specs.Identifiers.{Passes}
use Rattle.es_steps.specs.Nodes.{joined_trees}
use Rattle.es_steps.specs.Open.{Additions, Open, OpenField, OpenTrees, Pending, children, ends, finished_field, finished_fields, finished_trees, open_node, opened, opened_field, opened_trees, ◌and◌, ◌next◌}
use Rattle.es_steps.specs.Rules.{next_name}
use Rattle.es_steps.specs.Steps.{Ledger, Site, Step, Whole, site_in}
use Rattle.es_steps.specs.Steps.Ledger.{ledger}
use Rattle.es_steps.specs.Steps.Spot.{at_node}
use Rattle.es_steps.specs.Steps.Step.{acts}
use Rattle.es_steps.specs.UsingBlocks.{Constants, TakesContext, error_of, has_using, protected, with_context}
use Rattle.es_steps.specs.UsingBodies.{IsClass, MayEnter, class_fields, in_members, in_static_block, members_role, static_block}
use Rattle.es_steps.specs.UsingBodies.BodyUsing.{of_static_block}
use Rattle.es_steps.specs.UsingBodies.IsClass.{class_declaration, class_expression}
use Rattle.es_steps.proofs.Opened.{finished-trees}
use Rattle.es_rest_rows.proofs.HelperNames.{FindsNone, is_other_name, place-none}
use Rattle.es_pattern_moves.proofs.Settled.{Sound}
use Rattle.es_using_rows.specs.Used.{constants, tried}
use Rattle.es_using_rows.specs.UsingPlaces.{are_used, may_enter, uses_in_list}
use Rattle.es_using_rows.specs.UsingRows.{making}
use Rattle.es_using_rows.proofs.BodiesApart.{NamesApart}
use Rattle.es_using_rows.proofs.ClosedSteps.{IsClosedField, field-again}
use Rattle.es_using_rows.proofs.EnteringFunctions.{may-enter}
use Rattle.es_using_rows.proofs.UsingSites.{constants-are, takes}

-- A STATIC BLOCK of these statements: at this place of the members, what the rule of its class asks, and the statements afterwards

pub data StaticUsing (p : Place) (r : Role) (l : Label) (ts : Trees) : Ledger → Ledger → Trees → Type 0 where
  static_using : {w : Whole} {q : Pending} {y : Option Bound} {a : Additions} {fs : List Bound} {c : Text} {us : Trees} → has_using ts ≡ true → MayEnter [] fs ts → TakesContext w c (in_static_block p r l ts) → Constants (next_name w c) ts us →
      StaticUsing p r l ts (ledger w q y a) (ledger (with_context c w) q y a) (protected (next_name w c) (error_of w) us before empty)

static-statements : (s : Sort) (l : Label) (ts : Trees) → has_form s (static_block l ts) ≡ true → trees_form s-Statement s-Statement ts ≡ true
static-statements s l ts h = (and_parts (trees_form s-Statement s-Statement ts) true (node_form s StaticBlock l (statements ts then done) h).children).0

-- where it is lowered
pub static-uses : (w : Whole) (q : Pending) (x : Option Bound) (y : Additions) (i : ℕ) (h : Tree) (c : Text) → IsFreshName w.in_use (text_base (codes "usingCtx")) c → w.in_use (codes "babelHelpers") ≡ true → (p : Place) (r : Role) → FindsNone p → (s : Sort) (l : Label) (ts : Trees) → has_form s (static_block l ts) ≡ true →
    Passes is_other_name (static_block l ts) → AllAmong Sound ts → NamesApart ts → (uses_in_list ts && may_enter empty ts) ≡ true → StaticUsing p r l ts (ledger w q x y) (ledger (with_context c w) q x y) (tried (making w c) i h (constants (making w c) i ts) before empty)
static-uses w q x y i h c fresh used p r none s l ts f passes sound apart e =
    let parts = and_parts (uses_in_list ts) (may_enter empty ts) e in
    let list = and_parts (has_using ts) (are_used ts) parts.0 in
    static_using list.0 (may-enter empty ts refl (static-statements s l ts f) sound parts.1 apart) (takes w c fresh used (in_static_block p r l ts) (place-none p r StaticBlock l (statements ts then done) passes none 0)) (constants-are w c i ts list.1)

-- WHERE IT STANDS: such a step at a tree, and among trees

pub record IsMember (n : Site) (s s' : Ledger) (t u : Open) : Type 0 where
  pub label : Label
  pub old : Trees
  pub new : Trees
  pub step : StaticUsing n.names n.role label old s s' new
  pub first : t ≡ opened (static_block label old)
  pub last : u ≡ opened (static_block label new)

pub record AmongMembers (n : Site) (s s' : Ledger) (ts us : OpenTrees) : Type 0 where
  pub label : Label
  pub old : Trees
  pub new : Trees
  pub front : Trees
  pub rest : Trees
  pub step : StaticUsing n.names n.role label old s s' new
  pub first : ts ≡ opened_trees (joined_trees front (static_block label old before rest))
  pub last : us ≡ opened_trees (joined_trees front (static_block label new before rest))

pub member-first : (n : Site) (s s' : Ledger) (t u : Open) (rest : OpenTrees) → opened_trees (finished_trees rest) ≡ rest → IsMember n s s' t u → AmongMembers n s s' (t next rest) (u next rest)
member-first n s s' t u rest e m = record {
  label = m.label;
  old = m.old;
  new = m.new;
  front = empty;
  rest = finished_trees rest;
  step = m.step;
  first = λ i. m.first i next sym e i;
  last = λ i. m.last i next sym e i;
}

pub member-later : (n : Site) (s s' : Ledger) (t : Tree) (x : Open) (ts us : OpenTrees) → opened t ≡ x → AmongMembers n s s' ts us → AmongMembers n s s' (x next ts) (x next us)
member-later n s s' t x ts us e m = record {
  label = m.label;
  old = m.old;
  new = m.new;
  front = t before m.front;
  rest = m.rest;
  step = m.step;
  first = λ i. sym e i next m.first i;
  last = λ i. sym e i next m.last i;
}

-- A CLASS with it among its members

class-using : (n : Site) (k : AstType) (m : Label) (f g : Field) (xs zs : Trees) (l : Label) (ts us : Trees) (s s' : Ledger) → IsClass k →
    StaticUsing (in_members n k m (class_fields f g (joined_trees xs (static_block l ts before zs)))) (members_role n k m (class_fields f g (joined_trees xs (static_block l ts before zs)))) l ts s s' us →
    UsingRule n s (at_node (node k m (class_fields f g (joined_trees xs (static_block l ts before zs))))) s' (at_node (node k m (class_fields f g (joined_trees xs (static_block l us before zs)))))
class-using n k m f g xs zs l ts us s s' is (static_using {us = vs} has may context constants) = inr (inl (of_static_block l xs zs ts vs is has may context constants))

opened-class : (k : AstType) (m : Label) (f g : Field) (ms : Trees) → IsClass k → opened (node k m (class_fields f g ms)) ≡ open_node k m (opened_field false f and (opened_field false g and (children (opened_trees ms) and ends)))
opened-class k m f g ms class_declaration = refl
opened-class k m f g ms class_expression = refl

pub class-step : (n : Site) (k : AstType) (l : Label) (f g : OpenField) (ts us : OpenTrees) (s s' : Ledger) → IsClass k → IsClosedField false f → IsClosedField false g → AmongMembers (site_in n k l (f and (g and (children ts and ends))) 2) s s' ts us →
    Step UsingRule n s (open_node k l (f and (g and (children ts and ends)))) s' (open_node k l (f and (g and (children us and ends))))
class-step n k l f g ts us s s' is x y m =
    let a : Field = finished_field f in
    let b : Field = finished_field g in
    let old : Trees = joined_trees m.front (static_block m.label m.old before m.rest) in
    let new : Trees = joined_trees m.front (static_block m.label m.new before m.rest) in
    let fields : finished_fields (f and (g and (children ts and ends))) ≡ class_fields a b old = λ i. a then b then many ((ap finished_trees m.first ∙ finished-trees old) i) then done in
    let step = subst (λ (fs : Fields). StaticUsing (in_members n k l fs) (members_role n k l fs) m.label m.old s s' m.new) fields m.step in
    let there : Step UsingRule n s (opened (node k l (class_fields a b old))) s' (opened (node k l (class_fields a b new))) = acts (node k l (class_fields a b old)) (node k l (class_fields a b new)) (class-using n k l a b m.front m.rest m.label m.old m.new s s' is step) in
    let from : opened (node k l (class_fields a b old)) ≡ open_node k l (f and (g and (children ts and ends))) = opened-class k l a b old is ∙ (λ i. open_node k l (field-again false f x i and (field-again false g y i and (children (sym m.first i) and ends)))) in
    let to : opened (node k l (class_fields a b new)) ≡ open_node k l (f and (g and (children us and ends))) = opened-class k l a b new is ∙ (λ i. open_node k l (field-again false f x i and (field-again false g y i and (children (sym m.last i) and ends)))) in
    subst (λ (x : Open). Step UsingRule n s (open_node k l (f and (g and (children ts and ends)))) s' x) to (subst (λ (x : Open). Step UsingRule n s x s' (opened (node k l (class_fields a b new)))) from there)

-- WHERE STATIC BLOCKS STAND, by form

abbrev pub is_static : AstType → Bool
is_static k = same_type k StaticBlock

abbrev is_class : AstType → Bool
is_class ClassDeclaration = true
is_class ClassExpression = true
is_class k = false

-- no static block stands there, but among the members of a class
abbrev stands_there : AstType → ℕ → Bool → AstType → Bool
stands_there k i last j = not (is_static j) || (is_class k && i == 2)

entries-fit : (k : AstType) → entries_fit stands_there k 0 (child_entries k) ≡ true
entries-fit ClassDeclaration = refl
entries-fit _ = refl

elements-fit : (k : AstType) (p : ElementsPlace) → elements_of (child_entries k) ≡ Some p → ElementsFit stands_there k p
elements-fit ArrayExpression p e = elements-are stands_there ArrayExpression _ p e (record { sort = λ i b. refl; last = λ i b. refl })
elements-fit ArrayPattern p e = elements-are stands_there ArrayPattern _ p e (record { sort = λ i b. refl; last = λ i b. refl })
elements-fit ArrayTarget p e = elements-are stands_there ArrayTarget _ p e (record { sort = λ i b. refl; last = λ i b. refl })
elements-fit _ p e = absurd (cc e)

stands-table : TableFits stands_there
stands-table = record { entries = entries-fit; elements = elements-fit }

-- no tree itself is a static block
abbrev pub IsNone : Tree → Type 0
IsNone t = is_static (kind_of t) ≡ false

abbrev pub NoneAmong : Trees → Type 0
NoneAmong empty = Unit {0}
NoneAmong (t before ts) = IsNone t × NoneAmong ts

abbrev pub NoneBy : Field → Type 0
NoneBy missing = Unit {0}
NoneBy (one t) = IsNone t
NoneBy (many ts) = NoneAmong ts
NoneBy (statements ts) = NoneAmong ts

abbrev pub NoneIn : Fields → Type 0
NoneIn done = Unit {0}
NoneIn (f then fs) = NoneBy f × NoneIn fs

-- a list without others behind it
abbrev pub AreMembers : Fields → Type 0
AreMembers (many ms then done) = Unit {0}
AreMembers fs = ⊥

-- the fields of a class
abbrev pub AfterName : Fields → Type 0
AfterName done = ⊥
AfterName (f then fs) = NoneBy f × AreMembers fs

abbrev pub HasMembers : Fields → Type 0
HasMembers done = ⊥
HasMembers (f then fs) = NoneBy f × AfterName fs

pub data Holds (k : AstType) (fs : Fields) : Type 0 where
  no_static : NoneIn fs → Holds k fs
  has_members : IsClass k → HasMembers fs → Holds k fs

and-false : (b : Bool) → (b && false) ≡ false
and-false true = refl
and-false false = refl

none-of : (a b : Bool) → b ≡ false → (not a || b) ≡ true → a ≡ false
none-of true b e h = absurd (true≢false (sym h ∙ e))
none-of false b e h = refl

module _ (k : AstType) (i : ℕ) (e : (is_class k && i == 2) ≡ false) where
  trees-none : (ts : Trees) → EdgesAll stands_there k i ts → NoneAmong ts
  trees-none empty h = tt
  trees-none (node j l fs before ts) h = (none-of (is_static j) (is_class k && i == 2) e h.0.0, trees-none ts h.1)

  field-none : (last : Bool) (f : Field) → EdgesBy stands_there k i last f → NoneBy f
  field-none last missing h = tt
  field-none last (one (node j l fs)) h = none-of (is_static j) (is_class k && i == 2) e h.0
  field-none last (many ts) h = trees-none ts h
  field-none last (statements ts) h = trees-none ts h

fields-none : (k : AstType) (i : ℕ) (fs : Fields) → is_class k ≡ false → EdgesIn stands_there k i fs → NoneIn fs
fields-none k i done e h = tt
fields-none k i (f then fs) e h = (field-none k i (ap (λ b. b && i == 2) e) (is_last fs) f h.0, fields-none k (suc i) fs e h.1)

-- the last field of a class
are-members : (k : AstType) (l : Label) (c : Entry) (s : Sort) → c.content ≡ c-Child s a-List → (fs : Fields) → fields_form k l (c ∷ []) fs ≡ true → AreMembers fs
are-members k l c s e done h = absurd (cc h)
are-members k l c s e (many ms then done) h = tt
are-members k l c s e (many ms then (f then fs)) h = absurd (let no : false ≡ true = (and_parts (field_form k l c.content (many ms)) false h).1 in cc no)
are-members k l c s e (missing then fs) h = absurd (let no : false ≡ true = subst (λ a. field_form k l a missing ≡ true) e (and_parts (field_form k l c.content missing) (fields_form k l [] fs) h).0 in cc no)
are-members k l c s e (one t then fs) h = absurd (let no : false ≡ true = subst (λ a. field_form k l a (one t) ≡ true) e (and_parts (field_form k l c.content (one t)) (fields_form k l [] fs) h).0 in cc no)
are-members k l c s e (statements ts then fs) h = absurd (let no : false ≡ true = subst (λ a. field_form k l a (statements ts) ≡ true) e (and_parts (field_form k l c.content (statements ts)) (fields_form k l [] fs) h).0 in cc no)

class-fields : (k : AstType) (l : Label) (a b c : Entry) (s : Sort) → c.content ≡ c-Child s a-List → (fs : Fields) → fields_form k l (a ∷ b ∷ c ∷ []) fs ≡ true → EdgesIn stands_there k 0 fs → HasMembers fs
class-fields k l a b c s e done h d = absurd (cc h)
class-fields k l a b c s e (f then done) h d = absurd (let no : false ≡ true = (and_parts (field_form k l a.content f) false h).1 in cc no)
class-fields k l a b c s e (f then (g then fs)) h d =
    let later = (and_parts (field_form k l a.content f) (fields_form k l (b ∷ c ∷ []) (g then fs)) h).1 in
    (field-none k 0 (and-false (is_class k)) false f d.0, (field-none k 1 (and-false (is_class k)) (is_last fs) g d.1.0, are-members k l c s e fs (and_parts (field_form k l b.content g) (fields_form k l (c ∷ []) fs) later).1))

pub holds : (s : Sort) (k : AstType) (l : Label) (fs : Fields) → has_form s (node k l fs) ≡ true → Holds k fs
holds s ClassDeclaration l fs h = has_members class_declaration (class-fields ClassDeclaration l _ _ _ s-ClassElement refl fs (node_form s ClassDeclaration l fs h).children (edges-inside stands_there stands-table s ClassDeclaration l fs h))
holds s ClassExpression l fs h = has_members class_expression (class-fields ClassExpression l _ _ _ s-ClassElement refl fs (node_form s ClassExpression l fs h).children (edges-inside stands_there stands-table s ClassExpression l fs h))
holds s k l fs h = no_static (fields-none k 0 fs refl (edges-inside stands_there stands-table s k l fs h))
