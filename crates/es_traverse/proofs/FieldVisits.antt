-- The fields of a node, visited one after the other: what holds wherever the node as it was fits.
use Rattle.std.proofs.Common.{◌≡◌, ◌∙◌, ◌≤◌, ◌<◌, ◌+◌, ◌==◌, ◌&&◌, ◌||◌, refl, sym, ap, subst, arith, ℕ, zero, suc, length, List, [], ◌∷◌, get_or, set, Bool, true, false, true≢false, Option}
use Rattle.std.specs.Prelude.{map}
use Rattle.std.proofs.lemmas.Bool.{and_parts, eqb-true}
use Rattle.std.proofs.lemmas.List.{length-map, map-set}
use Rattle.std.proofs.Math.ListN.{get_or-map}
use Rattle.es_tree.specs.Ancestors.{Ancestor as TreeAncestor, ancestor}
use Rattle.es_tree.specs.Names.{has_computed}
use Rattle.es_tree.specs.Tree.{Tree, node, Label, Fields, ◌then◌, Field, fields}
use Rattle.es_tree.specs.Views.{plain_field, plain_fields}
use Rattle.es_tree.specs.Walks.{any_in_field, any_in_fields}
use Rattle.es_tree.specs.Words.{Text}
use Rattle.es_tree.specs.declared.ast_type.AstType.{AstType}
use Rattle.es_tree.specs.declared.ast_type.AstType.TheVariants.{AssignmentPattern, PatternProperty, PropertyDefinition}
use Rattle.es_tree.specs.declared.node.Field.{Field as NodeField}
use Rattle.es_tree.specs.declared.options.EnvOptions.{EnvOptions}
use Rattle.es_scope.specs.declared.ancestor.Ancestor.{Ancestor}
use Rattle.es_resolution.specs.Seen.{seen_by, seen_in}
use Rattle.es_resolution.specs.Resolved.{first_declared, own_by}
use Rattle.es_steps.specs.Open.{is_body, opened_field, opened_fields}
use Rattle.es_steps.specs.Slots.{is_slot}
use Rattle.es_steps.specs.Steps.{FieldStep, FieldsStep, Site, Steps, outline, site_in}
use Rattle.es_steps.specs.Steps.Steps.{stays}
use Rattle.es_visit.specs.declared.hook.Hook.{Hook}
use Rattle.es_changes.specs.Changes.{EachBy, EachIn}
use Rattle.es_changes.specs.Conditions.{AreSound, holds_after, holds_before}
use Rattle.es_changes.specs.Fits.{Fits, FitsBy}
use Rattle.es_changes.specs.Laws.{FieldsSoFar, LawsOfFields, SamePlace}
use Rattle.es_changes.specs.Moments.{Moment, inside_of, ledger_at}
use Rattle.es_changes.proofs.FieldLaws.{fields-laws}
use Rattle.es_changes.proofs.FieldParts.{fields-row}
use Rattle.es_changes.proofs.StepRows.{steps-trans}
use Rattle.es_traverse.specs.Laws.{IsLawful, Profile, removed_by}
use Rattle.es_traverse.specs.Sites.{Tells, is_arrow_body, is_slot_place, leads_to_slot, may_be_slot}
use Rattle.es_traverse.specs.Visits.{VisitedField, VisitedFields, roles_in}
use Rattle.es_traverse.specs.declared.site.Site.{Site as CodeSite}
use Rattle.es_traverse.specs.declared.site.Site.TheVariants.{Slot}
use Rattle.es_traverse.proofs.ClassNames.{first-set}

-- WHAT IS SEEN of the fields

abbrev pub seen_field : (ℕ → Text → Option ℕ) → NodeField → Field
seen_field names x = seen_by names (plain_field x)

abbrev pub seen_fields : (ℕ → Text → Option ℕ) → List NodeField → List Field
seen_fields names xs = map (seen_field names) xs

pub fields-seen : (names : ℕ → Text → Option ℕ) (xs : List NodeField) → seen_in names (plain_fields xs) ≡ fields (seen_fields names xs)
fields-seen names [] = refl
fields-seen names (x ∷ xs) = ap (λ fs. seen_field names x then fs) (fields-seen names xs)

-- SLOTS

or-first : (a : Bool) → (a || false) ≡ true → a ≡ true
or-first true e = refl
or-first false e = e

and-first : (a b : Bool) → (a && b) ≡ true → a ≡ true
and-first a b e = (and_parts a b e).0

at-index : (k : AstType) (c : Bool) (i j : ℕ) → may_be_slot k j c ≡ true → (i == j) ≡ true → may_be_slot k i c ≡ true
at-index k c i j h e = subst (λ m. may_be_slot k m c ≡ true) (sym (eqb-true i j e)) h

-- a slot stands where one may
pub slot-told : (up : List TreeAncestor) (k : AstType) (l : Label) (fs : Fields) (i : ℕ) → is_slot (ancestor k l fs i 0 ∷ up) ≡ true → may_be_slot k i (has_computed k l.flags) ≡ true
slot-told up PropertyDefinition l fs i e = at-index PropertyDefinition (has_computed PropertyDefinition l.flags) i 1 refl (or-first (i == 1) e)
slot-told up AssignmentPattern l fs i e = at-index AssignmentPattern (has_computed AssignmentPattern l.flags) i 1 refl (or-first (i == 1) (and-first ((i == 1) || false) _ e))
slot-told up PatternProperty l fs i e =
    let both = and_parts (i == 0) (has_computed PatternProperty l.flags) (and-first ((i == 0) && has_computed PatternProperty l.flags) _ e) in
    at-index PatternProperty (has_computed PatternProperty l.flags) i 0 both.1 both.0
slot-told up k l fs i e = absurd (cc e)

-- and leads to one
slot-leads : (up : List TreeAncestor) (k : AstType) (l : Label) (fs : Fields) (i : ℕ) → may_be_slot k i (has_computed k l.flags) ≡ true → leads_to_slot (ancestor k l fs i 0 ∷ up) ≡ true
slot-leads up PropertyDefinition l fs (suc zero) e = refl
slot-leads up AssignmentPattern l fs (suc zero) e = refl
slot-leads up PatternProperty l fs zero e = e
slot-leads up _ l fs i e = absurd (true≢false (sym e))

slot-place : (c : CodeSite) → is_slot_place c ≡ true → c ≡ Slot
slot-place Slot e = refl
slot-place _ e = absurd (true≢false (sym e))

-- what the code knows of a field is told by its site
told : (up : List TreeAncestor) (k : AstType) (l : Label) (fs : Fields) (i : ℕ) (c : CodeSite) (n : Site) → n.above ≡ ancestor k l fs i 0 ∷ up → is_slot_place c ≡ may_be_slot k i (has_computed k l.flags) → Tells c n
told up k l fs i c n above slots = record {
  slot = λ e. slot-place c (slots ∙ slot-told up k l fs i (subst (λ xs. is_slot xs ≡ true) above e));
  leads = λ e. subst (λ xs. leads_to_slot xs ≡ true) (sym above) (slot-leads up k l fs i (sym slots ∙ ap is_slot_place e));
}

-- ONE OF THE FIELDS

pub each-at : (P : Site → Tree → Type 0) (sites : ℕ → Site) (bodies : ℕ → Bool) (xs : List Field) (i : ℕ) (d : Field) → i < length xs → EachIn P sites bodies (fields xs) → EachBy P (sites i) (bodies i) (get_or xs i d)
each-at P sites bodies [] i d l h = absurd (omega (arith, l))
each-at P sites bodies (x ∷ xs) zero d l h = h.0
each-at P sites bodies (x ∷ xs) (suc i) d l h = each-at P (λ j. sites (suc j)) (λ j. bodies (suc j)) xs i d (omega (arith, l)) h.1

-- the fields before this one are visited
pub record FieldsVisited (p : Profile) (n : Site) (k : AstType) (l : Label) (a : Moment) (first : List Field) (b : Moment) (items : List Field) (i : ℕ) : Type 0 where
  pub so_far : FieldsSoFar p.rule n k l a first b items
  pub row : Steps (FieldsStep p.rule (site_in n k l (opened_fields (is_body k) (fields first)))) (ledger_at a) (opened_fields (is_body k) (fields first)) (ledger_at b) (opened_fields (is_body k) (fields items))
  pub free : (j : ℕ) (d : Field) → j < i → (h : Option Hook) → any_in_field (removed_by p h) (get_or items j d) ≡ false
  pub own : first_declared (roles_in n k l (fields first)) (fields items) ≡ first_declared (roles_in n k l (fields first)) (fields first)

-- one item more
pub each-set : {X : Type 0} (P : X → Type 0) (xs : List X) (i : ℕ) (y : X) → i < length xs → ((j : ℕ) (d : X) → j < i → P (get_or xs j d)) → P y → (j : ℕ) (d : X) → j < i + 1 → P (get_or (set xs i y) j d)
each-set P [] i y l h e j d m = absurd (omega (arith, l))
each-set P (x ∷ xs) zero y l h e zero d m = e
each-set P (x ∷ xs) zero y l h e (suc j) d m = absurd (omega (arith, m))
each-set P (x ∷ xs) (suc i) y l h e zero d m = h 0 d (omega arith)
each-set P (x ∷ xs) (suc i) y l h e (suc j) d m = each-set P xs i y (omega (arith, l)) (λ m b n. h (suc m) b (omega (arith, n))) e j d (omega (arith, m))

module _ (p : Profile) (law : IsLawful p) (n : Site) (k : AstType) (l : Label) where
  laws : LawsOfFields p.rule
  laws = fields-laws p.rule law.rule

  pub fields-visited-none : (a : Moment) (first : List Field) → Fits a n (node k l (fields first)) → FieldsVisited p n k l a first a first 0
  fields-visited-none a first h = record { so_far = laws.none n k l a first h; row = stays; free = λ j d m h. absurd (omega (arith, m)); own = refl }

  pub fields-visited-more : AreSound p.conditions → (c : CodeSite) (x : Ancestor) {a b m : Moment} (first items : List Field) (d y : Field) → x.kind ≡ k → x.field < length items → get_or items x.field d ≡ get_or first x.field d → is_arrow_body c ≡ is_body k x.field →
      is_slot_place c ≡ may_be_slot k x.field (has_computed k l.flags) → SamePlace b m → VisitedField p c (inside_of x b) (get_or items x.field d) (inside_of x m) y → Fits a n (node k l (fields first)) → holds_after p.conditions n (node k l (fields first)) → FieldsVisited p n k l a first b items x.field → FieldsVisited p n k l a first m (set items x.field y) (x.field + 1)
  fields-visited-more sound c x {a = a} {b = b} {m = m} first items d y kind lt same bodies slots place v f known h =
      let i : ℕ = x.field in
      let place_of : ℕ → Site = site_in n k l (opened_fields (is_body k) (fields first)) in
      let fit : FitsBy (inside_of x b) (place_of i) (is_body k i) (get_or items i d) = laws.inside n k l a b first items x d h.so_far kind lt in
      let each : EachBy (holds_before p.conditions) (place_of i) (is_body k i) (get_or items i d) =
      subst (λ f. EachBy (holds_before p.conditions) (place_of i) (is_body k i) f) (sym same) (each-at (holds_before p.conditions) place_of (is_body k) first i d (omega (arith, lt, h.so_far.count)) (sound.inward n f.sort k l (fields first) f.formed known)) in
      let tells : Tells c (place_of i) = told n.above k l (outline (opened_fields (is_body k) (fields first))) i c (place_of i) refl slots in
      let steps : Steps (FieldStep p.rule (place_of i)) (ledger_at b) (opened_field (is_body k i) (get_or items i d)) (ledger_at m) (opened_field (is_body k i) y) =
      subst (λ w. FitsBy (inside_of x b) (place_of i) w (get_or items i d) → EachBy (holds_before p.conditions) (place_of i) w (get_or items i d) → Steps (FieldStep p.rule (place_of i)) (ledger_at b) (opened_field w (get_or items i d)) (ledger_at m) (opened_field w y)) bodies (v.stepped (place_of i) tells) fit each in
      let none : (g : Option Hook) → any_in_field (removed_by p g) y ≡ false =
      subst (λ w. FitsBy (inside_of x b) (place_of i) w (get_or items i d) → EachBy (holds_before p.conditions) (place_of i) w (get_or items i d) → (g : Option Hook) → any_in_field (removed_by p g) y ≡ false) bodies (v.free (place_of i) tells) fit each in
      let name : own_by (place_of i).role y ≡ own_by (place_of i).role (get_or items i d) =
      subst (λ w. FitsBy (inside_of x b) (place_of i) w (get_or items i d) → EachBy (holds_before p.conditions) (place_of i) w (get_or items i d) → own_by (place_of i).role y ≡ own_by (place_of i).role (get_or items i d)) bodies (v.own (place_of i) tells) fit each in
      record {
        so_far = laws.more n k l a b m first items x d y h.so_far kind lt place steps;
        row = steps-trans h.row (fields-row p.rule items i d y (is_body k) place_of lt steps);
        free = each-set (λ f. (g : Option Hook) → any_in_field (removed_by p g) f ≡ false) items i y lt h.free none;
        own = first-set (roles_in n k l (fields first)) items i d y lt name ∙ h.own;
      }

-- ALL FIELDS

pub neither : (a b : Bool) → a ≡ false → b ≡ false → (a || b) ≡ false
neither a b e d = rw (e, d)

free-fields : (p : Profile) (xs : List Field) → ((j : ℕ) (d : Field) → j < length xs → (h : Option Hook) → any_in_field (removed_by p h) (get_or xs j d) ≡ false) → (h : Option Hook) → any_in_fields (removed_by p h) (fields xs) ≡ false
free-fields p [] f h = refl
free-fields p (x ∷ xs) f h = neither (any_in_field (removed_by p h) x) (any_in_fields (removed_by p h) (fields xs)) (f 0 x (omega arith) h) (free-fields p xs (λ j d l. f (suc j) d (omega (arith, l))) h)

-- whatever scopes bind, and of whatever label, as far as the code knows it
pub record FieldsSeen (p : Profile) (computed : Bool) (k : AstType) (a : Moment) (first : List NodeField) (b : Moment) (items : List NodeField) (i : ℕ) : Type 0 where
  pub each : (names : ℕ → Text → Option ℕ) (l : Label) → computed ≡ has_computed k l.flags → (n : Site) → Fits a n (node k l (fields (seen_fields names first))) → holds_after p.conditions n (node k l (fields (seen_fields names first))) → FieldsVisited p n k l a (seen_fields names first) b (seen_fields names items) i

pub fields-seen-none : (p : Profile) → IsLawful p → (computed : Bool) (k : AstType) (a : Moment) (first : List NodeField) → FieldsSeen p computed k a first a first 0
fields-seen-none p law computed k a first = record { each = λ names l e n fit known. fields-visited-none p law n k l a (seen_fields names first) fit }

module _ (P : EnvOptions → Profile) (x : Ancestor) (computed : Bool) (k : AstType) where
  pub fields-seen-more : {a b c m w : Moment} (site : CodeSite) (first items : List NodeField) (d y : NodeField) → IsLawful (P a.options) → AreSound (P a.options).conditions → m ≡ inside_of x b → w ≡ inside_of x c → b.options ≡ a.options → SamePlace b c → x.kind ≡ k → x.field < length items →
      get_or items x.field d ≡ get_or first x.field d → is_arrow_body site ≡ is_body k x.field → is_slot_place site ≡ may_be_slot k x.field computed → ((names : ℕ → Text → Option ℕ) → VisitedField (P m.options) site m (seen_field names (get_or items x.field d)) w (seen_field names y)) →
      FieldsSeen (P a.options) computed k a first b items x.field → FieldsSeen (P a.options) computed k a first c (set items x.field y) (x.field + 1)
  fields-seen-more {a = a} {b = b} {c = c} {m = m} {w = w} site first items d y law sound into out options place kind lt same bodies slots v h = record {
    each = λ names l e n fit known.
        let f : NodeField → Field = seen_field names in
        let i : ℕ = x.field in
        let at_place : get_or (map f items) i (f d) ≡ f (get_or items i d) = get_or-map f items i d in
        let profile : (P m.options) ≡ P a.options = ap (λ z. P z.options) into ∙ ap P options in
        let here : VisitedField (P a.options) site (inside_of x b) (f (get_or items i d)) (inside_of x c) (f y) =
        subst (λ z. VisitedField (P a.options) site (inside_of x b) (f (get_or items i d)) z (f y)) out (subst (λ z. VisitedField (P a.options) site z (f (get_or items i d)) w (f y)) into (subst (λ q. VisitedField q site m (f (get_or items i d)) w (f y)) profile (v names))) in
        let there : VisitedField (P a.options) site (inside_of x b) (get_or (map f items) i (f d)) (inside_of x c) (f y) = subst (λ z. VisitedField (P a.options) site (inside_of x b) z (inside_of x c) (f y)) (sym at_place) here in
        let still : get_or (map f items) i (f d) ≡ get_or (map f first) i (f d) = at_place ∙ ap f same ∙ sym (get_or-map f first i d) in
        let more = fields-visited-more (P a.options) law n k l sound site x (map f first) (map f items) (f d) (f y) kind (omega (arith, lt, length-map items f)) still bodies (slots ∙ ap (λ z. may_be_slot k x.field z) e) place there fit known (h.each names l e n fit known) in
        subst (λ zs. FieldsVisited (P a.options) n k l a (map f first) c zs (x.field + 1)) (sym (map-set f items i y)) more;
  }

-- all of them
pub fields-seen-all : (p : Profile) (computed : Bool) (k : AstType) {a b : Moment} (first items : List NodeField) (i : ℕ) → length items ≤ i → FieldsSeen p computed k a first b items i →
    (names : ℕ → Text → Option ℕ) (l : Label) → computed ≡ has_computed k l.flags → VisitedFields p k l a (seen_in names (plain_fields first)) b (seen_in names (plain_fields items))
fields-seen-all p computed k {a = a} {b = b} first items i le h names l e =
    let done : VisitedFields p k l a (fields (seen_fields names first)) b (fields (seen_fields names items)) = record {
      stepped = λ n fit known. (h.each names l e n fit known).so_far.steps;
      row = λ n fit known. (h.each names l e n fit known).row;
      free = λ n fit known. free-fields p (seen_fields names items) (λ j d lt. (h.each names l e n fit known).free j d (omega (arith, lt, le, length-map items (seen_field names))));
      own = λ n fit known. (h.each names l e n fit known).own;
    } in
    subst (λ gs. VisitedFields p k l a (seen_in names (plain_fields first)) b gs) (sym (fields-seen names items)) (subst (λ fs. VisitedFields p k l a fs b (fields (seen_fields names items))) (sym (fields-seen names first)) done)
