-- What the ancestors of a node offer: the searches of the rules through them, and what the parent says.
use Rattle.std.proofs.Common.{◌≡◌, ℕ, zero, suc, refl, sym, ap, subst, ◌∙◌, List, [], ◌∷◌, ◌++◌}
use Rattle.std.specs.Prelude.{Bool, true, false, not, ◌&&◌, ◌||◌, bytes_eq, codes, if◌then◌else◌}
use Rattle.es_tree.specs.Ancestors.{Ancestor, LabelName, has_new_target, has_super_calls, has_super_members, is_boundary, is_breakable, is_derived, is_derived_constructor, is_field_value, is_function, is_in_function, is_in_loop, is_loop, is_method_value, is_module, is_switch, labels, leads_by, own_labels, place_of}
use Rattle.es_tree.specs.CoreStaticRules.{place_in}
use Rattle.es_tree.specs.HasForm.{same_type}
use Rattle.es_tree.specs.Names.{first_text, flag_at}
use Rattle.es_tree.specs.StaticRules.{is_bad_rest}
use Rattle.es_tree.specs.Tree.{Tree, Label}
use Rattle.es_tree.specs.declared.ast_type.AstType.{AstType}
use Rattle.es_tree.specs.declared.ast_type.AstType.TheVariants.{CallExpression, LabeledStatement, MemberExpression, MethodDefinition, ObjectProperty, Program, PropertyDefinition, StaticBlock}
use Rattle.es_tree.specs.declared.place.Place.{Place}
use Rattle.es_tree.specs.declared.place.Place.TheVariants.{Other, Spine}

-- ALIKE: an ancestor whose fields have changed, where no rule sees it

pub record Alike (a b : Ancestor) : Type 0 where
  pub kind : b.kind ≡ a.kind
  pub label : b.label ≡ a.label
  pub index : b.index ≡ a.index
  pub labels : own_labels b ≡ own_labels a
  pub derived : is_derived b ≡ is_derived a

pub alike-self : (a : Ancestor) → Alike a a
alike-self a = record { kind = refl; label = refl; index = refl; labels = refl; derived = refl }

abbrev pub in_derived : List Ancestor → Bool
in_derived [] = false
in_derived (a ∷ up) = is_derived a

-- Whatever these ancestors offer, those offer. Labels and what is around that can be left count only where there are jumps.
pub record Offers (jumps : Bool) (up vp : List Ancestor) : Type 0 where
  pub labels : labels vp ≡ (if jumps then labels up else [])
  pub loop : jumps ≡ true → is_in_loop up ≡ true → is_in_loop vp ≡ true
  pub breakable : jumps ≡ true → is_breakable up ≡ true → is_breakable vp ≡ true
  pub function : is_in_function up ≡ true → is_in_function vp ≡ true
  pub members : has_super_members up ≡ true → has_super_members vp ≡ true
  pub calls : has_super_calls up ≡ true → has_super_calls vp ≡ true
  pub targets : has_new_target up ≡ true → has_new_target vp ≡ true
  pub in_module : is_module vp ≡ is_module up
  pub method : is_method_value up ≡ true → is_method_value vp ≡ true
  pub constructor : is_derived_constructor up ≡ true → is_derived_constructor vp ≡ true
  pub class : in_derived up ≡ true → in_derived vp ≡ true

pub offers-self : (up : List Ancestor) → Offers true up up
offers-self up = record { labels = refl; loop = λ j h. h; breakable = λ j h. h; function = λ h. h; members = λ h. h; calls = λ h. h; targets = λ h. h; in_module = refl; method = λ h. h; constructor = λ h. h; class = λ h. h }

-- INWARDS

labels-within : (v jumps : Bool) (os ns ls ms : List LabelName) → ns ≡ os → (jumps ≡ false → os ≡ []) → ms ≡ (if jumps then ls else []) → (if v then [] else ns ++ ms) ≡ (if (jumps || v) then (if v then [] else os ++ ls) else [])
labels-within true true os ns ls ms e d h = refl
labels-within true false os ns ls ms e d h = refl
labels-within false true os ns ls ms e d h = λ i. e i ++ h i
labels-within false false os ns ls ms e d h = λ i. (e ∙ d refl) i ++ h i

left-within : (v jumps l x y : Bool) → (jumps ≡ true → x ≡ true → y ≡ true) → (jumps || v) ≡ true → (not v && (l || x)) ≡ true → (not v && (l || y)) ≡ true
left-within true jumps l x y h j e = absurd (cc e)
left-within false true true x y h j e = refl
left-within false true false x y h j e = h refl e
left-within false false l x y h j e = absurd (cc j)

if-more : (v b x y : Bool) → (x ≡ true → y ≡ true) → (if v then b else x) ≡ true → (if v then b else y) ≡ true
if-more true b x y h e = e
if-more false b x y h e = h e

if-both : (v x y z w : Bool) → (x ≡ true → y ≡ true) → (z ≡ true → w ≡ true) → (if v then x else z) ≡ true → (if v then y else w) ≡ true
if-both true x y z w h k e = h e
if-both false x y z w h k e = k e

or-later : (b x y : Bool) → (x ≡ true → y ≡ true) → (b || x) ≡ true → (b || y) ≡ true
or-later true x y h e = refl
or-later false x y h e = h e

and-later : (b x y : Bool) → (x ≡ true → y ≡ true) → (b && x) ≡ true → (b && y) ≡ true
and-later true x y h e = h e
and-later false x y h e = absurd (cc e)

-- what a function of these ancestors' child is
constructor-within : (up vp : List Ancestor) (m : Bool) → (in_derived up ≡ true → in_derived vp ≡ true) → (m && in_derived up) ≡ true → (m && in_derived vp) ≡ true
constructor-within up vp m h e = and-later m (in_derived up) (in_derived vp) h e

-- whether the field leads to the function of a constructor
abbrev leads_to_constructor : Ancestor → Bool
leads_to_constructor a = leads_by MethodDefinition 1 a && bytes_eq (first_text a.label.texts) (codes "constructor")

and-false : (b c : Bool) → c ≡ false → (b && c) ≡ false
and-false true c e = e
and-false false c e = refl

constructor-is : (a : Ancestor) (up : List Ancestor) → is_derived_constructor (a ∷ up) ≡ (leads_to_constructor a && in_derived up)
constructor-is a [] = sym (and-false (leads_to_constructor a) false refl)
constructor-is a (c ∷ up) = refl

abbrev is_labeled : AstType → Bool
is_labeled k = same_type k LabeledStatement

no-labels : (a : Ancestor) → is_labeled a.kind ≡ false → own_labels a ≡ []
no-labels a e = rw e refl

module _ (jumps : Bool) (up vp : List Ancestor) (a b : Ancestor) (h : Alike a b) (o : Offers jumps up vp) where
  leads-same : (k : AstType) (i : ℕ) → leads_by k i b ≡ leads_by k i a
  leads-same k i = rw (h.kind, h.index) refl

  constructor-same : leads_to_constructor b ≡ leads_to_constructor a
  constructor-same = rw (h.kind, h.index, h.label) refl

  pub offers-within : (jumps ≡ false → is_labeled a.kind ≡ false) → Offers (jumps || is_boundary a.kind) (a ∷ up) (b ∷ vp)
  offers-within quiet = record {
    labels = ap (λ k. if is_boundary k then [] else own_labels b ++ labels vp) h.kind ∙ labels-within (is_boundary a.kind) jumps (own_labels a) (own_labels b) (labels up) (labels vp) h.labels (λ e. no-labels a (quiet e)) o.labels;
    loop = λ j e. ap (λ k. not (is_boundary k) && (is_loop k || is_in_loop vp)) h.kind ∙ left-within (is_boundary a.kind) jumps (is_loop a.kind) (is_in_loop up) (is_in_loop vp) o.loop j e;
    breakable = λ j e. ap (λ k. not (is_boundary k) && (is_loop k || is_switch k || is_breakable vp)) h.kind ∙ left-within (is_boundary a.kind) jumps (is_loop a.kind || is_switch a.kind) (is_breakable up) (is_breakable vp) o.breakable j e;
    function = λ e. ap (λ k. if is_boundary k then not (same_type k StaticBlock) else is_in_function vp) h.kind ∙ if-more (is_boundary a.kind) (not (same_type a.kind StaticBlock)) (is_in_function up) (is_in_function vp) o.function e;
    members = λ e. (λ i. if is_function (h.kind i) then is_method_value vp else (same_type (h.kind i) StaticBlock || leads-same PropertyDefinition 1 i || has_super_members vp)) ∙ if-both (is_function a.kind) (is_method_value up) (is_method_value vp) (same_type a.kind StaticBlock || is_field_value a || has_super_members up) (same_type a.kind StaticBlock || is_field_value a || has_super_members vp) o.method (or-later (same_type a.kind StaticBlock || is_field_value a) _ _ o.members) e;
    calls = λ e. (λ i. if is_function (h.kind i) then is_derived_constructor vp else (not (same_type (h.kind i) StaticBlock || leads-same PropertyDefinition 1 i) && has_super_calls vp)) ∙ if-both (is_function a.kind) (is_derived_constructor up) (is_derived_constructor vp) (not (same_type a.kind StaticBlock || is_field_value a) && has_super_calls up) (not (same_type a.kind StaticBlock || is_field_value a) && has_super_calls vp) o.constructor (and-later (not (same_type a.kind StaticBlock || is_field_value a)) _ _ o.calls) e;
    targets = λ e. (λ i. is_function (h.kind i) || same_type (h.kind i) StaticBlock || leads-same PropertyDefinition 1 i || has_new_target vp) ∙ or-later (is_function a.kind || same_type a.kind StaticBlock || is_field_value a) _ _ o.targets e;
    in_module = λ i. (same_type (h.kind i) Program && bytes_eq (first_text (h.label i).texts) (codes "module")) || o.in_module i;
    method = λ e. (λ i. leads-same MethodDefinition 1 i || (leads-same ObjectProperty 1 i && (flag_at 0 (h.label i).flags || not (bytes_eq (first_text (h.label i).texts) (codes "init"))))) ∙ e;
    constructor = λ e. constructor-is b vp ∙ (λ i. constructor-same i && in_derived vp) ∙ constructor-within up vp (leads_to_constructor a) o.class (sym (constructor-is a up) ∙ e);
    class = λ e. h.derived ∙ e;
  }

-- WHAT THE PARENT SAYS

abbrev pub SameHead : List Ancestor → List Ancestor → Type 0
SameHead [] [] = Unit {0}
SameHead (a ∷ up) (b ∷ vp) = Alike a b
SameHead _ _ = ⊥

-- on the spine of a chain more may stand than elsewhere
pub data PlaceOffers : Place → Place → Type 0 where
  same_place : (p : Place) → PlaceOffers p p
  on_spine : PlaceOffers Other Spine

pub record Near (up vp : List Ancestor) : Type 0 where
  pub place : PlaceOffers (place_of up) (place_of vp)
  pub head : SameHead up vp
  pub rest : (t : Tree) → is_bad_rest vp t ≡ is_bad_rest up t

pub near-self : (up : List Ancestor) → Near up up
near-self up = record { place = same_place (place_of up); head = at up; rest = λ t. refl }
  where
    at : (up : List Ancestor) → SameHead up up
    at [] = tt
    at (a ∷ up) = alike-self a

place-within : (p q : Place) (k : AstType) (l : Label) (i : ℕ) → PlaceOffers p q → PlaceOffers (place_in p k l i) (place_in q k l i)
place-within p q k l i (same_place r) = same_place (place_in r k l i)
place-within p q k l (suc zero) on_spine = same_place _
place-within p q k l (suc (suc i)) on_spine = same_place _
place-within p q MemberExpression l zero on_spine = on_spine
place-within p q CallExpression l zero on_spine = on_spine
place-within p q _ l zero on_spine = same_place _

rest-within : (up vp : List Ancestor) (a b : Ancestor) → Alike a b → SameHead up vp → (t : Tree) → is_bad_rest (b ∷ vp) t ≡ is_bad_rest (a ∷ up) t
rest-within [] [] a b h s t = refl
rest-within [] (d ∷ vp) a b h s t = absurd s
rest-within (c ∷ up) [] a b h s t = absurd s
rest-within (c ∷ up) (d ∷ vp) a b h s t = rw (h.kind, h.index, s.kind) refl

pub near-within : (up vp : List Ancestor) (a b : Ancestor) → Alike a b → Near up vp → Near (a ∷ up) (b ∷ vp)
near-within up vp a b h n = record {
  place = subst (λ (p : Place). PlaceOffers (place_of (a ∷ up)) p) (λ i. place_in (place_of vp) (sym h.kind i) (sym h.label i) (sym h.index i)) (place-within (place_of up) (place_of vp) a.kind a.label a.index n.place);
  head = h;
  rest = rest-within up vp a b h n.head;
}
