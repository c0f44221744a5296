-- Steps keep the static rules of places: by one statement on rules, at whatever places they act.
use Rattle.std.proofs.Common.{◌≡◌, ◌+◌, ℕ, zero, suc, inl, inr, refl, sym, ap, subst, ◌∙◌, List, [], ◌∷◌}
use Rattle.std.specs.Prelude.{◌⊎◌, Bool, true, false}
use Rattle.es_tree.specs.Ancestors.{Ancestor, ancestor}
use Rattle.es_tree.specs.HasForm.{has_form}
use Rattle.es_tree.specs.Tree.{Tree, node, Label, Fields, one, Trees}
use Rattle.es_tree.specs.declared.ast_type.AstType.{AstType}
use Rattle.es_tree.specs.declared.ast_type.AstType.TheVariants.{ArrowFunctionExpression, AssignmentPattern, PatternProperty, PropertyDefinition}
use Rattle.es_tree.specs.declared.table.Sort.{Sort}
use Rattle.es_tree.specs.declared.table.Sort.TheVariants.{ArrowFunctionBody as s-ArrowFunctionBody, Expression as s-Expression, Program as s-Program}
use Rattle.es_steps.specs.CoreRules.{CoreRule, rule_under}
use Rattle.es_steps.specs.Open.{Pending, pending_statements, whole_list, written_body, is_body, Open, open_node, OpenFields, OpenField, OpenTrees, opened, finished, finished_fields, finished_field, finished_trees}
use Rattle.es_steps.specs.Slots.{is_slot}
use Rattle.es_steps.specs.Steps.{Ledger, Site, Spot, the_program, outline, Step, FieldsStep, FieldStep, TreesStep, Steps}
use Rattle.es_steps.specs.Steps.Step.{acts, inside}
use Rattle.es_steps.specs.Steps.FieldsStep.{in_first, in_later}
use Rattle.es_steps.specs.Steps.FieldStep.{in_child, in_body, in_children, in_list, in_target, in_program, acts_on_body, acts_on_list}
use Rattle.es_steps.specs.Steps.TreesStep.{in_head, in_tail, in_flanked, after_flanked, flanks, acts_on_flanked}
use Rattle.es_steps.specs.Steps.Steps.{stays as no_more, goes}
use Rattle.es_steps.proofs.FormLists.{IsPlain, body-inside as formed-inside}
use Rattle.es_steps.proofs.FormOpen.{IsProper, AreProperFields, IsProperField, AreProperTrees, opened-proper}
use Rattle.es_steps.proofs.FormRules.{FormLawful, NewNames, no-names, nothing-new, core-rule-form, rule-under-form}
use Rattle.es_steps.proofs.FormSteps.{formed-after, plain-list, plain-more}
use Rattle.es_steps.proofs.Opened.{finished-opened, finished-trees}
use Rattle.es_valid_steps.specs.Laws.{LawCorePlaces, LawPlaceSteps, LawPlacesReached, StepsKeepPlaces}
use Rattle.es_valid_steps.specs.PlaceRules.{Keeps, KeepsAll, KeepsBy, KeepsIn, place_breaks}
use Rattle.es_valid_steps.proofs.Changed.{Changed, ChangedField, ChangedFields, ChangedTrees, is_hidden, same-fields, same-trees}
use Rattle.es_valid_steps.proofs.Changed.Changed.{stays, inside as inside_changed}
use Rattle.es_valid_steps.proofs.Changed.ChangedField.{same_field, unseen, child_changed, children_changed, list_changed}
use Rattle.es_valid_steps.proofs.Changed.ChangedFields.{more}
use Rattle.es_valid_steps.proofs.Changed.ChangedTrees.{some}
use Rattle.es_valid_steps.proofs.FieldForms.{ArrowAt, FieldHas, FieldsHave, TreesHave, arrow-first, arrow-next, arrow-zero, node-have, rest-have}
use Rattle.es_valid_steps.proofs.KeptNodes.{node-kept}
use Rattle.es_valid_steps.proofs.Pending.{after-rest, body-inside, body-keeps, whole-keeps}
use Rattle.es_valid_steps.proofs.PlaceRows.{PlaceLawful, core-lawful, under-lawful}
use Rattle.es_valid_steps.proofs.Slots.{SlotHead, is_slot_kind, slot-kind}
use Rattle.es_valid_steps.proofs.Slots.SlotHead.{slot_head}
use Rattle.es_valid_steps.proofs.Visits.{law_places_proof}

-- WHAT A STEP LEAVES: nodes that keep the rules, and that look to those around them as before

pub record TreeKept (n : Site) (up : List Ancestor) (s s' : Ledger) (t u : Open) : Type 0 where
  pub keeps : Keeps up (finished u)
  seen : Changed false (finished t) (finished u) ⊎ (is_slot n.above ≡ true)
  names : NewNames s s'

pub record FieldsKept (k : AstType) (l : Label) (up : List Ancestor) (all : Fields) (i : ℕ) (s s' : Ledger) (fs gs : OpenFields) : Type 0 where
  pub keeps : KeepsIn up k l all i (finished_fields gs)
  pub seen : ChangedFields false k (finished_fields fs) (finished_fields gs)
  pub names : NewNames s s'

record FieldKept (k : AstType) (up : List Ancestor) (s s' : Ledger) (f g : OpenField) : Type 0 where
  keeps : KeepsBy up (finished_field g)
  seen : ChangedField false k (finished_field f) (finished_field g)
  names : NewNames s s'

record TreesKept (up : List Ancestor) (s s' : Ledger) (ts us : OpenTrees) : Type 0 where
  keeps : KeepsAll up (finished_trees us)
  seen : ChangedTrees false (finished_trees ts) (finished_trees us)
  names : NewNames s s'

pub slot-hidden : (k : AstType) → is_slot_kind k ≡ true → is_hidden k ≡ true
slot-hidden AssignmentPattern e = refl
slot-hidden PatternProperty e = refl
slot-hidden PropertyDefinition e = refl
slot-hidden _ e = absurd (cc e)

-- the body of an arrow
module _ (l : Label) (all : Fields) (up : List Ancestor) (k : AstType) (i : ℕ) (h : ArrowAt k i) where
  abbrev There : AstType → ℕ → Tree → Type 0
  There k i e = Keeps (ancestor k l all i 0 ∷ up) e

  to-arrow : (e : Tree) → There k i e → There ArrowFunctionExpression 1 e
  to-arrow e g = subst (λ (j : ℕ). There ArrowFunctionExpression j e) h.index (subst (λ (j : AstType). There j i e) h.kind g)

  from-arrow : (e : Tree) → There ArrowFunctionExpression 1 e → There k i e
  from-arrow e g = subst (λ (j : AstType). There j i e) (sym h.kind) (subst (λ (j : ℕ). There ArrowFunctionExpression j e) (sym h.index) g)

  pub body-outside : (p : Pending) (e : Tree) → IsPlain p → There k i e → There k i (written_body p e)
  body-outside p e plain g = from-arrow (written_body p e) (body-keeps l all up p e plain (to-arrow e g))

  pub body-within : (p : Pending) (e : Tree) → IsPlain p → There k i (written_body p e) → There k i e
  body-within p e plain g = from-arrow e (body-inside l all up p e plain (to-arrow (written_body p e) g))

-- A NODE whose fields took a step

module _ (n : Site) (up : List Ancestor) (s s' : Ledger) (k : AstType) (l : Label) (fs gs : OpenFields) where
  pub in-node : (a : Sort) → has_form a (node k l (finished_fields fs)) ≡ true → Keeps up (node k l (finished_fields fs)) → FieldsKept k l up (finished_fields fs) 0 s s' fs gs → TreeKept n up s s' (open_node k l fs) (open_node k l gs)
  in-node a f h r =
      record { keeps = node-kept a up k l (finished_fields fs) (finished_fields gs) f (λ v. absurd (cc v)) r.seen h.0 r.keeps; seen = inl (inside_changed r.seen); names = r.names }

pub either : {A B : Type 0} (C : Type 0) → A ⊎ B → (A → C) → (B → C) → C
either C (inl a) f g = f a
either C (inr b) f g = g b

-- STEPS

module _ (R : Site → Ledger → Spot → Ledger → Spot → Type 0) (form : FormLawful R) (law : PlaceLawful R) where
  mutual
    pub kept-after : {n : Site} {s s' : Ledger} {t u : Open} → Step R n s t s' u → (a : Sort) (up : List Ancestor) → (is_slot n.above ≡ true → a ≡ s-Expression) → (is_slot n.above ≡ true → SlotHead up) → IsProper t → has_form a (finished t) ≡ true → Keeps up (finished t) → TreeKept n up s s' t u
    kept-after (acts {n = n} {s = s} {s' = s'} t u h) a up slot head proper f g =
        let formed = subst (λ (x : Tree). has_form a x ≡ true) (finished-opened t) f in
        let r = law.at_nodes false n s s' t u a up slot head h formed (subst (λ (x : Tree). Keeps up x) (finished-opened t) g) in
        record {
          keeps = subst (λ (x : Tree). Keeps up x) (sym (finished-opened u)) r.keeps;
          seen = subst (λ (x : Tree). Changed false x (finished (opened u)) ⊎ (is_slot n.above ≡ true)) (sym (finished-opened t)) (subst (λ (y : Tree). Changed false t y ⊎ (is_slot n.above ≡ true)) (sym (finished-opened u)) r.seen);
          names = (form.at_nodes n s s' t u a slot h formed).names;
        }
    kept-after (inside {n = n} {s = s} {s' = s'} {k = k} {l = l} {fs = fs} {gs = gs} h) a up slot head proper f g =
        in-node n up s s' k l fs gs a f g (fields-after h k l (is_body k) up (finished_fields fs) 0 (λ j e. slot-kind n.above k l (outline fs) j e) (arrow-first k) proper (node-have n a k l fs f) g.1)

    fields-after : {c : ℕ → Site} {s s' : Ledger} {fs gs : OpenFields} → FieldsStep R c s fs s' gs → (k : AstType) (l : Label) (bodies : ℕ → Bool) (up : List Ancestor) (all : Fields) (i : ℕ) → ((j : ℕ) → is_slot (c j).above ≡ true → is_slot_kind k ≡ true) → ((j : ℕ) → bodies j ≡ true → ArrowAt k (i + j)) → AreProperFields bodies fs → FieldsHave k c bodies (finished_fields fs) → KeepsIn up k l all i (finished_fields fs) → FieldsKept k l up all i s s' fs gs
    fields-after (in_first {c = c} {f = x} {g = y} {fs = fs} h) k l bodies up all i heads arrows proper has g =
        let r = field-after h k l (bodies zero) up all i (heads zero) (arrow-zero bodies k i arrows) proper.0 has.0 g.0 in
        record { keeps = (r.keeps, g.1); seen = more r.seen (same-fields k (finished_fields fs)); names = r.names }
    fields-after (in_later h) k l bodies up all i heads arrows proper has g =
        let r = fields-after h k l (λ j. bodies (suc j)) up all (suc i) (λ j. heads (suc j)) (arrow-next bodies k i arrows) proper.1 has.1 g.1 in
        record { keeps = (g.0, r.keeps); seen = more same_field r.seen; names = r.names }

    field-after : {n : Site} {s s' : Ledger} {f g : OpenField} → FieldStep R n s f s' g → (k : AstType) (l : Label) (b : Bool) (up : List Ancestor) (all : Fields) (i : ℕ) → (is_slot n.above ≡ true → is_slot_kind k ≡ true) → (b ≡ true → ArrowAt k i) → IsProperField b f → FieldHas k n b (finished_field f) → KeepsBy (ancestor k l all i 0 ∷ up) (finished_field f) → FieldKept k (ancestor k l all i 0 ∷ up) s s' f g
    field-after (in_child {n = n} {t = t} {u = u} h) k l b up all i head arrow proper has g =
        let r = kept-after h has.sort (ancestor k l all i 0 ∷ up) has.slot (λ e. slot_head k l all i (head e)) proper has.formed g in
        record { keeps = r.keeps; seen = either (ChangedField false k (one (finished t)) (one (finished u))) r.seen (λ c. child_changed c) (λ e. unseen (slot-hidden k (head e))); names = r.names }
    field-after (in_children {ts = ts} {us = us} h) k l b up all i head arrow proper has g =
        let r = trees-after h (ancestor k l all i 0 ∷ up) has.no_slot proper has.trees g in
        record { keeps = r.keeps; seen = children_changed r.seen; names = r.names }
    field-after (in_body {w = w} {w' = w'} {o = o} {p = p} {q = q} {x = x} {x' = x'} {a = a} {a' = a'} {t = t} {u = u} e y y' h) k l b up all i head arrow proper has g =
        let field = arrow proper.0 in
        let sort = has.arrow proper.0 in
        let bare = formed-inside p (finished t) proper.1 (subst (λ (z : Sort). has_form z (written_body p (finished t)) ≡ true) sort has.formed) in
        let r = kept-after h s-ArrowFunctionBody (ancestor k l all i 0 ∷ up) (λ d. sym sort ∙ has.slot d) (λ d. slot_head k l all i (head d)) proper.2 bare (body-within l all up k i field p (finished t) proper.1 g) in
        let plain = plain-more p q r.names.names proper.1 r.names.texts r.names.pending in
        record {
          keeps = body-outside l all up k i field q (finished u) plain r.keeps;
          seen = unseen (ap (λ j. is_hidden j) field.kind);
          names = record { names = []; texts = tt; pending = no-names o; this = r.names.this; top = r.names.top };
        }
    field-after (in_list {o = o} {p = p} {q = q} {y = y} {b = d} {ts = ts} {us = us} e e' h) k l b up all i head arrow proper has g =
        let r = trees-after h (ancestor k l all i 0 ∷ up) has.no_slot proper.1 (rest-have (pending_statements p y d) (finished_trees ts) has.trees) (after-rest (ancestor k l all i 0 ∷ up) (pending_statements p y d) (finished_trees ts) g) in
        let plain = plain-list p q y y d d r.names.names proper.0 r.names.texts r.names.pending refl refl in
        record {
          keeps = whole-keeps k l all i up q y d (finished_trees us) has.listed plain r.keeps;
          seen = list_changed;
          names = record { names = []; texts = tt; pending = no-names o; this = r.names.this; top = r.names.top };
        }
    field-after (in_target {o = o} {p = p} {q = q} {y = y} {y' = y'} {b = d} {ts = ts} {us = us} e h) k l b up all i head arrow proper has g =
        let r = trees-after h (ancestor k l all i 0 ∷ up) has.no_slot proper.1 (rest-have (pending_statements p y d) (finished_trees ts) has.trees) (after-rest (ancestor k l all i 0 ∷ up) (pending_statements p y d) (finished_trees ts) g) in
        let plain = plain-list p q y y' d d r.names.names proper.0 r.names.texts r.names.pending r.names.this refl in
        record {
          keeps = whole-keeps k l all i up q y' d (finished_trees us) has.listed plain r.keeps;
          seen = list_changed;
          names = record { names = []; texts = tt; pending = no-names o; this = refl; top = r.names.top };
        }
    field-after (in_program {o = o} {p = p} {q = q} {y = y} {y' = y'} {b = d} {b' = d'} {ts = ts} {us = us} e h) k l b up all i head arrow proper has g =
        let r = trees-after h (ancestor k l all i 0 ∷ up) has.no_slot proper.1 (rest-have (pending_statements p y d) (finished_trees ts) has.trees) (after-rest (ancestor k l all i 0 ∷ up) (pending_statements p y d) (finished_trees ts) g) in
        let plain = plain-list p q y y' d d' r.names.names proper.0 r.names.texts r.names.pending r.names.this r.names.top in
        record {
          keeps = whole-keeps k l all i up q y' d' (finished_trees us) has.listed plain r.keeps;
          seen = list_changed;
          names = record { names = []; texts = tt; pending = no-names o; this = refl; top = refl };
        }
    field-after (acts_on_list {n = n} {s = s} {s' = s'} {p = p} {q = q} {x = x} {y = y} {a = a} {b = d} ts us h) k l b up all i head arrow proper has g =
        let found = form.at_lists n s s' p q x y a d ts us h proper.0 in
        let same = ap (λ vs. whole_list p x a vs) (finished-trees ts) ∙ found.trees ∙ sym (ap (λ vs. whole_list q y d vs) (finished-trees us)) in
        record { keeps = subst (λ (vs : Trees). KeepsAll (ancestor k l all i 0 ∷ up) vs) same g; seen = list_changed; names = nothing-new s s' found.ledger }
    field-after (acts_on_body {n = n} {s = s} {s' = s'} {p = p} t u h) k l b up all i head arrow proper has g =
        let found = form.at_bodies n s s' p t u h in
        let same = ap (λ x. written_body p x) (finished-opened t) ∙ found.1 ∙ sym (finished-opened u) in
        record { keeps = subst (λ (x : Tree). Keeps (ancestor k l all i 0 ∷ up) x) same g; seen = unseen (ap (λ j. is_hidden j) (arrow proper.0).kind); names = nothing-new s s' found.0 }

    trees-after : {n : Site} {s s' : Ledger} {ts us : OpenTrees} → TreesStep R n s ts s' us → (up : List Ancestor) → (is_slot n.above ≡ true → ⊥) → AreProperTrees ts → TreesHave (finished_trees ts) → KeepsAll up (finished_trees ts) → TreesKept up s s' ts us
    trees-after (in_head {t = t} {u = u} {ts = ts} h) up slot proper has g =
        let r = kept-after h has.0.sort up (λ e. absurd (slot e)) (λ e. absurd (slot e)) proper.0 has.0.formed g.0 in
        record { keeps = (r.keeps, g.1); seen = some (either (Changed false (finished t) (finished u)) r.seen (λ c. c) (λ e. absurd (slot e))) (same-trees (finished_trees ts)); names = r.names }
    trees-after (in_tail h) up slot proper has g =
        let r = trees-after h up slot proper.1 has.1 g.1 in
        record { keeps = (g.0, r.keeps); seen = some stays r.seen; names = r.names }
    trees-after (in_flanked h) up slot proper has g = absurd proper
    trees-after (after_flanked h) up slot proper has g = absurd proper
    trees-after (flanks {n = n} {s = s} {s' = s'} {bs = bs} {cs = cs} t u h) up slot proper has g = absurd (form.no_flanks n s s' t u bs cs h)
    trees-after (acts_on_flanked t us h) up slot proper has g = absurd proper

  -- steps in a row
  in-a-row : {s s' : Ledger} {t u : Open} → Steps (Step R the_program) s t s' u → IsProper t → has_form s-Program (finished t) ≡ true → Keeps [] (finished t) → Keeps [] (finished u)
  in-a-row no_more proper f g = g
  in-a-row (goes h rest) proper f g =
      let next = formed-after R form h s-Program (λ e. absurd (cc e)) proper f in
      in-a-row rest next.proper next.formed (kept-after h s-Program [] (λ e. absurd (cc e)) (λ e. absurd (cc e)) proper f g).keeps

-- THE LAWS

pub steps-keep-places : (R : Site → Ledger → Spot → Ledger → Spot → Type 0) → FormLawful R → PlaceLawful R → StepsKeepPlaces R
steps-keep-places R form law t w w' x f h steps =
    let before_steps = finished-opened t in
    (law_places_proof (finished x)).from_places (in-a-row R form law steps (opened-proper t) (subst (λ (y : Tree). has_form s-Program y ≡ true) (sym before_steps) f) (subst (λ (y : Tree). Keeps [] y) (sym before_steps) ((law_places_proof t).to_places h)))

pub law_place_steps_proof : LawPlaceSteps
law_place_steps_proof o = steps-keep-places (rule_under o) (rule-under-form o) (under-lawful o)

pub law_core_places_proof : LawCorePlaces
law_core_places_proof o = steps-keep-places (CoreRule o) (core-rule-form o) (core-lawful o)

pub law_places_reached_proof : LawPlacesReached
law_places_reached_proof o p q w w' f h steps = subst (λ (y : Tree). place_breaks y ≡ []) (finished-opened q) (law_place_steps_proof o p w w' (opened q) f h steps)
