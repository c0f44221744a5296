-- Steps of rules that act on nodes, and leave each with the same face, keep the static rules of places.
use Rattle.std.proofs.Common.{◌≡◌, ◌+◌, ℕ, zero, suc, refl, sym, ap, subst, ◌∙◌, List, [], ◌∷◌}
use Rattle.std.specs.Prelude.{Bool, true, Option, if◌then◌else◌}
use Rattle.es_tree.specs.Ancestors.{Ancestor, ancestor}
use Rattle.es_tree.specs.HasForm.{has_form}
use Rattle.es_tree.specs.Tree.{Tree, node, Label, Fields, ◌then◌, one, many, ◌before◌}
use Rattle.es_tree.specs.declared.ast_type.AstType.{AstType}
use Rattle.es_tree.specs.declared.table.Sort.{Sort}
use Rattle.es_tree.specs.declared.table.Sort.TheVariants.{ArrowFunctionBody as s-ArrowFunctionBody, Expression as s-Expression}
use Rattle.es_resolution.specs.Declarations.{Bound}
use Rattle.es_steps.specs.Open.{Additions, Open, OpenField, OpenFields, OpenTrees, Pending, body_with, finished, finished_field, finished_fields, finished_trees, is_body, open_node, pending_statements, written_body}
use Rattle.es_steps.specs.Slots.{is_slot}
use Rattle.es_steps.specs.Steps.{Ledger, Site, Spot, Step, FieldsStep, FieldStep, TreesStep}
use Rattle.es_steps.specs.Steps.Spot.{at_beside, at_body, at_list, at_node}
use Rattle.es_steps.specs.Steps.Step.{acts, inside}
use Rattle.es_steps.specs.Steps.FieldsStep.{in_first, in_later}
use Rattle.es_steps.specs.Steps.FieldStep.{in_child, in_body, in_children, in_list, in_target, in_program, acts_on_body, acts_on_list}
use Rattle.es_steps.specs.Steps.TreesStep.{in_head, in_tail, in_flanked, after_flanked, flanks, acts_on_flanked}
use Rattle.es_steps.proofs.FormLists.{IsPlain, IsPlainList, body-inside as formed-inside}
use Rattle.es_steps.proofs.FormOpen.{AreProperFields, AreProperTrees, IsProper, IsProperField}
use Rattle.es_steps.proofs.FormRules.{AtNodes}
use Rattle.es_steps.proofs.Opened.{finished-opened}
use Rattle.es_steps.proofs.Taken.{pending_in, this_in, top_in}
use Rattle.es_valid_steps.specs.PlaceRules.{Keeps, KeepsAll, KeepsBy, KeepsIn}
use Rattle.es_valid_steps.proofs.Edges.{edges}
use Rattle.es_valid_steps.proofs.FieldForms.{ArrowAt, FieldHas, FieldsHave, TreesHave, arrow-first, arrow-next, arrow-zero, node-have, rest-have}
use Rattle.es_valid_steps.proofs.Moves.{in-moved}
use Rattle.es_valid_steps.proofs.Offers.{Near, Offers, near-self, near-within, offers-self, offers-within}
use Rattle.es_valid_steps.proofs.Pending.{after-rest, whole-keeps}
use Rattle.es_valid_steps.proofs.PlaceSteps.{body-outside, body-within}
use Rattle.es_valid_rests.proofs.Faces.{face, face_field, face_fields, face_trees, shown}
use Rattle.es_valid_rests.proofs.FacedNodes.{alike-faced, here-faced}

-- WHAT A RULE LEAVES, where it acts on a node

-- nothing more is pending
pub record SameBeside (s s' : Ledger) : Type 0 where
  pub pending : pending_in s' ≡ pending_in s
  pub this : this_in s' ≡ this_in s
  pub top : top_in s' ≡ top_in s

pub record NodeFaced (up : List Ancestor) (s s' : Ledger) (t u : Tree) : Type 0 where
  pub keeps : Keeps up u
  pub seen : face t ≡ face u
  pub beside : SameBeside s s'

pub record FaceLawful (R : Site → Ledger → Spot → Ledger → Spot → Type 0) : Type 0 where
  pub at_nodes : (n : Site) (s s' : Ledger) (x y : Spot) → R n s x s' y → AtNodes x y
  pub leaves : (n : Site) (s s' : Ledger) (t u : Tree) (a : Sort) (up : List Ancestor) → R n s (at_node t) s' (at_node u) → has_form a t ≡ true → Keeps up t → NodeFaced up s s' t u

-- WHAT A STEP LEAVES

pub record TreeFaced (up : List Ancestor) (s s' : Ledger) (t u : Open) : Type 0 where
  pub keeps : Keeps up (finished u)
  pub seen : face (finished t) ≡ face (finished u)
  pub beside : SameBeside s s'

record FieldsFaced (k : AstType) (l : Label) (up : List Ancestor) (all : Fields) (i : ℕ) (s s' : Ledger) (fs gs : OpenFields) : Type 0 where
  keeps : KeepsIn up k l all i (finished_fields gs)
  seen : face_fields (finished_fields fs) ≡ face_fields (finished_fields gs)
  beside : SameBeside s s'

record FieldFaced (up : List Ancestor) (s s' : Ledger) (f g : OpenField) : Type 0 where
  keeps : KeepsBy up (finished_field g)
  seen : face_field (finished_field f) ≡ face_field (finished_field g)
  beside : SameBeside s s'

record TreesFaced (up : List Ancestor) (s s' : Ledger) (ts us : OpenTrees) : Type 0 where
  keeps : KeepsAll up (finished_trees us)
  seen : face_trees (finished_trees ts) ≡ face_trees (finished_trees us)
  beside : SameBeside s s'

-- BODIES OF ARROWS

body-face : (vs ls : List Tree) (e d : Tree) → face e ≡ face d → face (body_with vs ls e) ≡ face (body_with vs ls d)
body-face [] [] e d h = h
body-face [] (l ∷ ls) e d h = refl
body-face (v ∷ vs) ls e d h = refl

-- LISTS

-- what is pending is as plain as before
still-plain : (p q : Pending) → q ≡ p → IsPlain p → IsPlain q
still-plain p q e h = subst (λ (r : Pending). IsPlain r) (sym e) h

still-listed : (p q : Pending) (x y : Option Bound) (a b : Additions) → q ≡ p → y ≡ x → b ≡ a → IsPlainList p x a → IsPlainList q y b
still-listed p q x y a b e d c h = record { vars = still-plain p q e h.vars; this = d ∙ h.this; top = c ∙ h.top }

-- A NODE whose fields took a step

module _ (up : List Ancestor) (s s' : Ledger) (k : AstType) (l : Label) (fs gs : OpenFields) where
  in-node : (a : Sort) → has_form a (node k l (finished_fields fs)) ≡ true → Keeps up (node k l (finished_fields fs)) → FieldsFaced k l up (finished_fields fs) 0 s s' fs gs → TreeFaced up s s' (open_node k l fs) (open_node k l gs)
  in-node a f h r =
      let old = finished_fields fs in
      let new = finished_fields gs in
      let alike = alike-faced k l old new r.seen in
      let offers : (j : ℕ) → Offers true (ancestor k l old j 0 ∷ up) (ancestor k l new j 0 ∷ up) = λ j. offers-within true up up (ancestor k l old j 0) (ancestor k l new j 0) (alike j) (offers-self up) (λ e. absurd (cc e)) in
      let near : (j : ℕ) → Near (ancestor k l old j 0 ∷ up) (ancestor k l new j 0 ∷ up) = λ j. near-within up up (ancestor k l old j 0) (ancestor k l new j 0) (alike j) (near-self up) in
      record {
        keeps = (here-faced up k l old new (edges a k l old f) r.seen h.0, in-moved true up up k l old new 0 new offers near (λ e. absurd (cc e)) r.keeps);
        seen = ap (λ hs. node k l (shown k hs)) r.seen;
        beside = r.beside;
      }

-- STEPS

module _ (R : Site → Ledger → Spot → Ledger → Spot → Type 0) (law : FaceLawful R) where
  mutual
    pub faced-after : {n : Site} {s s' : Ledger} {t u : Open} → Step R n s t s' u → (a : Sort) (up : List Ancestor) → (is_slot n.above ≡ true → a ≡ s-Expression) → IsProper t → has_form a (finished t) ≡ true → Keeps up (finished t) → TreeFaced up s s' t u
    faced-after (acts {n = n} {s = s} {s' = s'} t u h) a up slot proper f g =
        let r = law.leaves n s s' t u a up h (subst (λ (x : Tree). has_form a x ≡ true) (finished-opened t) f) (subst (λ (x : Tree). Keeps up x) (finished-opened t) g) in
        record {
          keeps = subst (λ (x : Tree). Keeps up x) (sym (finished-opened u)) r.keeps;
          seen = ap (λ x. face x) (finished-opened t) ∙ r.seen ∙ sym (ap (λ x. face x) (finished-opened u));
          beside = r.beside;
        }
    faced-after (inside {n = n} {s = s} {s' = s'} {k = k} {l = l} {fs = fs} {gs = gs} h) a up slot proper f g =
        in-node up s s' k l fs gs a f g (fields-after h k l (is_body k) up (finished_fields fs) 0 (arrow-first k) proper (node-have n a k l fs f) g.1)

    fields-after : {c : ℕ → Site} {s s' : Ledger} {fs gs : OpenFields} → FieldsStep R c s fs s' gs → (k : AstType) (l : Label) (bodies : ℕ → Bool) (up : List Ancestor) (all : Fields) (i : ℕ) → ((j : ℕ) → bodies j ≡ true → ArrowAt k (i + j)) → AreProperFields bodies fs → FieldsHave k c bodies (finished_fields fs) → KeepsIn up k l all i (finished_fields fs) → FieldsFaced k l up all i s s' fs gs
    fields-after (in_first {c = c} {f = x} {g = y} {fs = fs} h) k l bodies up all i arrows proper has g =
        let r = field-after h k l (bodies zero) up all i (arrow-zero bodies k i arrows) proper.0 has.0 g.0 in
        record { keeps = (r.keeps, g.1); seen = ap (λ d. d then face_fields (finished_fields fs)) r.seen; beside = r.beside }
    fields-after (in_later {f = x} h) k l bodies up all i arrows proper has g =
        let r = fields-after h k l (λ j. bodies (suc j)) up all (suc i) (arrow-next bodies k i arrows) proper.1 has.1 g.1 in
        record { keeps = (g.0, r.keeps); seen = ap (λ ds. face_field (finished_field x) then ds) r.seen; beside = r.beside }

    field-after : {n : Site} {s s' : Ledger} {f g : OpenField} → FieldStep R n s f s' g → (k : AstType) (l : Label) (b : Bool) (up : List Ancestor) (all : Fields) (i : ℕ) → (b ≡ true → ArrowAt k i) → IsProperField b f → FieldHas k n b (finished_field f) → KeepsBy (ancestor k l all i 0 ∷ up) (finished_field f) → FieldFaced (ancestor k l all i 0 ∷ up) s s' f g
    field-after (in_child h) k l b up all i arrow proper has g =
        let r = faced-after h has.sort (ancestor k l all i 0 ∷ up) has.slot proper has.formed g in
        record { keeps = r.keeps; seen = ap (λ x. one x) r.seen; beside = r.beside }
    field-after (in_children h) k l b up all i arrow proper has g =
        let r = trees-after h (ancestor k l all i 0 ∷ up) has.no_slot proper has.trees g in
        record { keeps = r.keeps; seen = ap (λ xs. many xs) r.seen; beside = r.beside }
    field-after (in_body {o = o} {p = p} {q = q} {t = t} {u = u} e y y' h) k l b up all i arrow proper has g =
        let field = arrow proper.0 in
        let sort = has.arrow proper.0 in
        let bare = formed-inside p (finished t) proper.1 (subst (λ (z : Sort). has_form z (written_body p (finished t)) ≡ true) sort has.formed) in
        let r = faced-after h s-ArrowFunctionBody (ancestor k l all i 0 ∷ up) (λ d. sym sort ∙ has.slot d) proper.2 bare (body-within l all up k i field p (finished t) proper.1 g) in
        record {
          keeps = body-outside l all up k i field q (finished u) (still-plain p q r.beside.pending proper.1) r.keeps;
          seen = ap (λ x. one x) (body-face p.vars p.lets (finished t) (finished u) r.seen ∙ ap (λ z. face (written_body z (finished u))) (sym r.beside.pending));
          beside = record { pending = refl; this = r.beside.this; top = r.beside.top };
        }
    field-after (in_list {o = o} {p = p} {q = q} {y = y} {b = d} {ts = ts} {us = us} e e' h) k l b up all i arrow proper has g =
        let r = trees-after h (ancestor k l all i 0 ∷ up) has.no_slot proper.1 (rest-have (pending_statements p y d) (finished_trees ts) has.trees) (after-rest (ancestor k l all i 0 ∷ up) (pending_statements p y d) (finished_trees ts) g) in
        record {
          keeps = whole-keeps k l all i up q y d (finished_trees us) has.listed (still-listed p q y y d d r.beside.pending refl refl proper.0) r.keeps;
          seen = refl;
          beside = record { pending = refl; this = r.beside.this; top = r.beside.top };
        }
    field-after (in_target {o = o} {p = p} {q = q} {y = y} {y' = y'} {b = d} {ts = ts} {us = us} e h) k l b up all i arrow proper has g =
        let r = trees-after h (ancestor k l all i 0 ∷ up) has.no_slot proper.1 (rest-have (pending_statements p y d) (finished_trees ts) has.trees) (after-rest (ancestor k l all i 0 ∷ up) (pending_statements p y d) (finished_trees ts) g) in
        record {
          keeps = whole-keeps k l all i up q y' d (finished_trees us) has.listed (still-listed p q y y' d d r.beside.pending r.beside.this refl proper.0) r.keeps;
          seen = refl;
          beside = record { pending = refl; this = refl; top = r.beside.top };
        }
    field-after (in_program {o = o} {p = p} {q = q} {y = y} {y' = y'} {b = d} {b' = d'} {ts = ts} {us = us} e h) k l b up all i arrow proper has g =
        let r = trees-after h (ancestor k l all i 0 ∷ up) has.no_slot proper.1 (rest-have (pending_statements p y d) (finished_trees ts) has.trees) (after-rest (ancestor k l all i 0 ∷ up) (pending_statements p y d) (finished_trees ts) g) in
        record {
          keeps = whole-keeps k l all i up q y' d' (finished_trees us) has.listed (still-listed p q y y' d d' r.beside.pending r.beside.this r.beside.top proper.0) r.keeps;
          seen = refl;
          beside = record { pending = refl; this = refl; top = refl };
        }
    field-after (acts_on_list {n = n} {s = s} {s' = s'} {p = p} {q = q} {x = x} {y = y} {a = a} {b = d} ts us h) k l b up all i arrow proper has g = absurd (law.at_nodes n s s' (at_list p x a ts) (at_list q y d us) h)
    field-after (acts_on_body {n = n} {s = s} {s' = s'} {p = p} t u h) k l b up all i arrow proper has g = absurd (law.at_nodes n s s' (at_body p t) (at_node u) h)

    trees-after : {n : Site} {s s' : Ledger} {ts us : OpenTrees} → TreesStep R n s ts s' us → (up : List Ancestor) → (is_slot n.above ≡ true → ⊥) → AreProperTrees ts → TreesHave (finished_trees ts) → KeepsAll up (finished_trees ts) → TreesFaced up s s' ts us
    trees-after (in_head {ts = ts} h) up slot proper has g =
        let r = faced-after h has.0.sort up (λ e. absurd (slot e)) proper.0 has.0.formed g.0 in
        record { keeps = (r.keeps, g.1); seen = ap (λ x. x before face_trees (finished_trees ts)) r.seen; beside = r.beside }
    trees-after (in_tail {t = t} h) up slot proper has g =
        let r = trees-after h up slot proper.1 has.1 g.1 in
        record { keeps = (g.0, r.keeps); seen = ap (λ xs. face (finished t) before xs) r.seen; beside = r.beside }
    trees-after (in_flanked h) up slot proper has g = absurd proper
    trees-after (after_flanked h) up slot proper has g = absurd proper
    trees-after (flanks {n = n} {s = s} {s' = s'} {bs = bs} {cs = cs} t u h) up slot proper has g = absurd (law.at_nodes n s s' (at_node t) (at_beside bs u cs) h)
    trees-after (acts_on_flanked t us h) up slot proper has g = absurd proper
