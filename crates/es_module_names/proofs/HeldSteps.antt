-- Steps hold what is read: by one statement on rules, at whatever places below a program they act, whatever may be pending.
use Rattle.std.proofs.Common.{◌≡◌, ℕ, zero, suc, inl, inr, refl, subst, sym, List, ◌∷◌}
use Rattle.std.specs.Prelude.{◌⊎◌, Bool, true, false, Option}
use Rattle.es_tree.specs.Ancestors.{Ancestor, ancestor}
use Rattle.es_tree.specs.HasForm.{has_form, is_of_sort}
use Rattle.es_tree.specs.Tree.{Tree, node, Label, Fields, one, many, ◌before◌}
use Rattle.es_tree.specs.declared.ast_type.AstType.{AstType}
use Rattle.es_tree.specs.declared.ast_type.AstType.TheVariants.{ArrowFunctionExpression, AssignmentPattern, BlockStatement, FunctionBody, PatternProperty, Program, PropertyDefinition, StaticBlock, SwitchCase}
use Rattle.es_tree.specs.declared.table.Sort.{Sort}
use Rattle.es_tree.specs.declared.table.Sort.TheVariants.{Expression as s-Expression, Pattern as s-Pattern, Program as s-Program}
use Rattle.es_resolution.specs.Declarations.{Bound}
use Rattle.es_steps.specs.Open.{Additions, Pending, is_body, Open, ◌and◌, OpenFields, OpenField, OpenTrees, opened, finished, finished_fields, finished_field, finished_trees}
use Rattle.es_steps.specs.Slots.{is_slot}
use Rattle.es_steps.specs.Steps.{Ledger, Site, Spot, outline, Step, FieldsStep, FieldStep, TreesStep}
use Rattle.es_steps.specs.Steps.Spot.{at_node}
use Rattle.es_steps.specs.Steps.Step.{acts, inside}
use Rattle.es_steps.specs.Steps.FieldsStep.{in_first, in_later}
use Rattle.es_steps.specs.Steps.FieldStep.{in_child, in_body, in_children, in_list, in_target, in_program, acts_on_body, acts_on_list}
use Rattle.es_steps.specs.Steps.TreesStep.{in_head, in_tail, in_flanked, after_flanked, flanks, acts_on_flanked}
use Rattle.es_steps.proofs.FormOpen.{IsTidy, AreTidyFields, IsTidyField, AreTidyTrees}
use Rattle.es_steps.proofs.FormPlaces.{slot-sort}
use Rattle.es_steps.proofs.FormRules.{RuleForm}
use Rattle.es_steps.proofs.Opened.{finished-opened}
use Rattle.es_valid_steps.proofs.FieldForms.{FieldHas, FieldsHave, TreesHave, node-have}
use Rattle.es_valid_steps.proofs.Pending.{is_list_kind}
use Rattle.es_module_names.proofs.Held.{Held, HeldAll, HeldBy, HeldIn, held-fields, held-trees, is_unread}
use Rattle.es_module_names.proofs.Held.Held.{stays, quiet, inside as inside_held}
use Rattle.es_module_names.proofs.Held.HeldIn.{more}
use Rattle.es_module_names.proofs.Held.HeldBy.{same, unseen, child_held, children_held}
use Rattle.es_module_names.proofs.Held.HeldAll.{some}
use Rattle.es_module_names.proofs.RuleKinds.{BothQuiet, NamesLawful}

-- UNREAD FIELDS: slots, the bodies of arrows, and lists of statements

slot-unread : (up : List Ancestor) (k : AstType) (l : Label) (fs : Fields) (i : ℕ) → is_slot (ancestor k l fs i 0 ∷ up) ≡ true → is_unread k i ≡ true
slot-unread up PropertyDefinition l fs i e = refl
slot-unread up AssignmentPattern l fs zero e = absurd (cc e)
slot-unread up AssignmentPattern l fs (suc zero) e = refl
slot-unread up AssignmentPattern l fs (suc (suc i)) e = absurd (let no : s-Program ≡ s-Expression = slot-sort up AssignmentPattern l fs (suc (suc i)) e in cc no)
slot-unread up PatternProperty l fs zero e = refl
slot-unread up PatternProperty l fs (suc zero) e = absurd (let no : s-Pattern ≡ s-Expression = slot-sort up PatternProperty l fs (suc zero) e in cc no)
slot-unread up PatternProperty l fs (suc (suc i)) e = absurd (let no : s-Program ≡ s-Expression = slot-sort up PatternProperty l fs (suc (suc i)) e in cc no)
slot-unread up k l fs i e = absurd (cc e)

body-unread : (k : AstType) (i : ℕ) → is_body k i ≡ true → is_unread k i ≡ true
body-unread ArrowFunctionExpression i e = refl
body-unread k i e = absurd (cc e)

pub list-unread : (k : AstType) (i : ℕ) → is_list_kind k ≡ true → is_unread k i ≡ true
list-unread BlockStatement i e = refl
list-unread FunctionBody i e = refl
list-unread Program i e = refl
list-unread StaticBlock i e = refl
list-unread SwitchCase i e = refl
list-unread _ i e = absurd (cc e)

-- WHAT IS NOT SEEN: what is in a slot, or is hidden; of hidden fields of a node either nothing is read, or the node itself is hidden

abbrev pub Unseen : (List Ancestor → Bool) → List Ancestor → Type 0
Unseen hidden up = (is_slot up ≡ true) ⊎ (hidden up ≡ true)

pub record Hides (hidden : List Ancestor → Bool) : Type 0 where
  pub inwards : (up : List Ancestor) (k : AstType) (l : Label) (fs : Fields) (i : ℕ) → hidden (ancestor k l fs i 0 ∷ up) ≡ true → (is_unread k i ≡ true) ⊎ (hidden up ≡ true)
  pub program : (up : List Ancestor) (k : AstType) (l : Label) (fs : Fields) (i : ℕ) → is_of_sort s-Program k ≡ true → hidden (ancestor k l fs i 0 ∷ up) ≡ true → hidden up ≡ true

-- a rule acts on nodes off which nothing is read, and on what isn't seen
pub record ReadLawful (hidden : List Ancestor → Bool) (R : Site → Ledger → Spot → Ledger → Spot → Type 0) : Type 0 where
  pub at_nodes : (n : Site) (s s' : Ledger) (t u : Tree) → R n s (at_node t) s' (at_node u) → BothQuiet t u ⊎ Unseen hidden n.above

pub choose : {A B : Type 0} (C : Type 0) → A ⊎ B → (A → C) → (B → C) → C
choose C (inl a) f g = f a
choose C (inr b) f g = g b

-- nothing is hidden
pub none-hides : Hides (λ up. false)
none-hides = record { inwards = λ up k l fs i h. inr h; program = λ up k l fs i e h. h }

pub named-read : (hidden : List Ancestor → Bool) (R : Site → Ledger → Spot → Ledger → Spot → Type 0) → NamesLawful R → ReadLawful hidden R
named-read hidden R law = record { at_nodes = λ n s s' t u h. choose (BothQuiet t u ⊎ Unseen hidden n.above) (law.at_nodes n s s' t u h) (λ q. inl q) (λ e. inr (inl e)) }

-- STEPS

module _ {Listed : Pending → Option Bound → Additions → Type 0} {Left : Sort → Ledger → Ledger → Tree → Type 0} (hidden : List Ancestor → Bool) (hides : Hides hidden) (R : Site → Ledger → Spot → Ledger → Spot → Type 0) (form : RuleForm Listed Left R) (law : ReadLawful hidden R) where
  unseen-in : (up : List Ancestor) (k : AstType) (l : Label) (fs : Fields) (i : ℕ) → Unseen hidden (ancestor k l fs i 0 ∷ up) → (is_unread k i ≡ true) ⊎ (hidden up ≡ true)
  unseen-in up k l fs i (inl e) = inl (slot-unread up k l fs i e)
  unseen-in up k l fs i (inr h) = hides.inwards up k l fs i h

  mutual
    held-after : {n : Site} {s s' : Ledger} {t u : Open} → Step R n s t s' u → (a : Sort) → IsTidy Listed t → has_form a (finished t) ≡ true → Held (finished t) (finished u) ⊎ Unseen hidden n.above
    held-after (acts {n = n} {s = s} {s' = s'} t u h) a tidy f =
        subst (λ (x : Tree). Held x (finished (opened u)) ⊎ Unseen hidden n.above) (sym (finished-opened t))
        (subst (λ (y : Tree). Held t y ⊎ Unseen hidden n.above) (sym (finished-opened u))
        (choose (Held t u ⊎ Unseen hidden n.above) (law.at_nodes n s s' t u h) (λ q. inl (quiet q.acted q.left)) (λ e. inr e)))
    held-after (inside {n = n} {k = k} {l = l} {fs = fs} {gs = gs} h) a tidy f =
        choose (Held (node k l (finished_fields fs)) (node k l (finished_fields gs)) ⊎ Unseen hidden n.above)
        (held-in h k (hidden n.above) (is_unread k) (is_body k) (unseen-in n.above k l (outline fs)) (body-unread k) (list-unread k) tidy (node-have n a k l fs f))
        (λ c. inl (inside_held c)) (λ e. inr (inr e))

    held-in : {c : ℕ → Site} {s s' : Ledger} {fs gs : OpenFields} → FieldsStep R c s fs s' gs → (k : AstType) (outer : Bool) (unread bodies : ℕ → Bool) → ((i : ℕ) → Unseen hidden (c i).above → (unread i ≡ true) ⊎ (outer ≡ true)) → ((i : ℕ) → bodies i ≡ true → unread i ≡ true) → ((i : ℕ) → is_list_kind k ≡ true → unread i ≡ true) → AreTidyFields Listed bodies fs → FieldsHave k c bodies (finished_fields fs) → HeldIn unread (finished_fields fs) (finished_fields gs) ⊎ (outer ≡ true)
    held-in (in_first {f = x} {g = y} {fs = fs} h) k outer unread bodies slots arrows lists tidy has =
        choose (HeldIn unread (finished_fields (x and fs)) (finished_fields (y and fs)) ⊎ (outer ≡ true)) (held-by h k outer (unread zero) (bodies zero) (slots zero) (arrows zero) (lists zero) tidy.0 has.0) (λ c. inl (more c (held-fields (λ i. unread (suc i)) (finished_fields fs)))) (λ e. inr e)
    held-in (in_later {f = x} {fs = fs} {gs = gs} h) k outer unread bodies slots arrows lists tidy has =
        choose (HeldIn unread (finished_fields (x and fs)) (finished_fields (x and gs)) ⊎ (outer ≡ true)) (held-in h k outer (λ i. unread (suc i)) (λ i. bodies (suc i)) (λ i. slots (suc i)) (λ i. arrows (suc i)) (λ i. lists (suc i)) tidy.1 has.1) (λ c. inl (more same c)) (λ e. inr e)

    held-by : {n : Site} {s s' : Ledger} {f g : OpenField} → FieldStep R n s f s' g → (k : AstType) (outer unread b : Bool) → (Unseen hidden n.above → (unread ≡ true) ⊎ (outer ≡ true)) → (b ≡ true → unread ≡ true) → (is_list_kind k ≡ true → unread ≡ true) → IsTidyField Listed b f → FieldHas k n b (finished_field f) → HeldBy unread (finished_field f) (finished_field g) ⊎ (outer ≡ true)
    held-by (in_child {t = t} {u = u} h) k outer unread b slot arrow listed tidy has =
        choose (HeldBy unread (one (finished t)) (one (finished u)) ⊎ (outer ≡ true)) (held-after h has.sort tidy has.formed) (λ c. inl (child_held c)) (λ e. choose (HeldBy unread (one (finished t)) (one (finished u)) ⊎ (outer ≡ true)) (slot e) (λ d. inl (unseen d)) (λ d. inr d))
    held-by (in_children {ts = ts} {us = us} h) k outer unread b slot arrow listed tidy has =
        choose (HeldBy unread (many (finished_trees ts)) (many (finished_trees us)) ⊎ (outer ≡ true)) (held-all h has.no_slot tidy has.trees) (λ c. inl (children_held c)) (λ e. choose (HeldBy unread (many (finished_trees ts)) (many (finished_trees us)) ⊎ (outer ≡ true)) (slot (inr e)) (λ d. inl (unseen d)) (λ d. inr d))
    held-by (in_body e y y' h) k outer unread b slot arrow listed tidy has = inl (unseen (arrow tidy.0))
    held-by (in_list e e' h) k outer unread b slot arrow listed tidy has = inl (unseen (listed has.listed))
    held-by (in_target e h) k outer unread b slot arrow listed tidy has = inl (unseen (listed has.listed))
    held-by (in_program e h) k outer unread b slot arrow listed tidy has = inl (unseen (listed has.listed))
    held-by (acts_on_list ts us h) k outer unread b slot arrow listed tidy has = inl (unseen (listed has.listed))
    held-by (acts_on_body t u h) k outer unread b slot arrow listed tidy has = inl (unseen (arrow tidy.0))

    pub held-all : {n : Site} {s s' : Ledger} {ts us : OpenTrees} → TreesStep R n s ts s' us → (is_slot n.above ≡ true → ⊥) → AreTidyTrees Listed ts → TreesHave (finished_trees ts) → HeldAll (finished_trees ts) (finished_trees us) ⊎ (hidden n.above ≡ true)
    held-all (in_head {n = n} {t = t} {u = u} {ts = ts} h) slot tidy has =
        choose (HeldAll (finished t before finished_trees ts) (finished u before finished_trees ts) ⊎ (hidden n.above ≡ true)) (held-after h has.0.sort tidy.0 has.0.formed) (λ c. inl (some c (held-trees (finished_trees ts)))) (λ e. inr (choose (hidden n.above ≡ true) e (λ d. absurd (slot d)) (λ d. d)))
    held-all (in_tail {n = n} {t = t} {ts = ts} {us = us} h) slot tidy has =
        choose (HeldAll (finished t before finished_trees ts) (finished t before finished_trees us) ⊎ (hidden n.above ≡ true)) (held-all h slot tidy.1 has.1) (λ c. inl (some stays c)) (λ e. inr e)
    held-all (in_flanked h) slot tidy has = absurd tidy
    held-all (after_flanked h) slot tidy has = absurd tidy
    held-all (flanks {n = n} {s = s} {s' = s'} {bs = bs} {cs = cs} t u h) slot tidy has = absurd (form.no_flanks n s s' t u bs cs h)
    held-all (acts_on_flanked t us h) slot tidy has = absurd tidy
