-- A step of a rule that acts on single nodes is a change of one node of the written program, and nothing else changes.
use Rattle.std.proofs.Common.{◌≡◌, ℕ, zero, suc, refl, sym, subst, List, [], ◌∷◌}
use Rattle.std.specs.Prelude.{Bool, true, false, Option, codes, if◌then◌else◌}
use Rattle.es_tree.specs.Ancestors.{ancestor}
use Rattle.es_tree.specs.Tree.{Tree, node, Label, Fields, done, ◌then◌, Field, one, many, statements, Trees, empty, ◌before◌}
use Rattle.es_tree.specs.Words.{Text}
use Rattle.es_tree.specs.declared.ast_type.AstType.{AstType}
use Rattle.es_tree.specs.declared.ast_type.AstType.TheVariants.{ArrowFunctionExpression}
use Rattle.es_resolution.specs.Declarations.{Bound}
use Rattle.es_steps.specs.Nodes.{joined_trees, made, return_node}
use Rattle.es_steps.specs.Open.{Additions, Pending, after_imports, body_with, declaration, is_body, is_import, pending_statements, whole_list, written_body, Open, OpenFields, OpenField, OpenTrees, finished, finished_fields, finished_field, finished_trees, opened}
use Rattle.es_steps.specs.Steps.{Ledger, Site, Spot, Step, FieldsStep, FieldStep, TreesStep}
use Rattle.es_steps.specs.Steps.Spot.{at_node, at_beside, at_body, at_list}
use Rattle.es_steps.specs.Steps.Step.{acts, inside}
use Rattle.es_steps.specs.Steps.FieldsStep.{in_first, in_later}
use Rattle.es_steps.specs.Steps.FieldStep.{in_child, in_children, in_body, in_list, in_target, in_program, acts_on_list, acts_on_body}
use Rattle.es_steps.specs.Steps.TreesStep.{in_head, in_tail, in_flanked, after_flanked, flanks, acts_on_flanked}
use Rattle.es_steps.specs.UsingBlocks.{is_statement_place}
use Rattle.es_steps.specs.UsingLoops.{is_labelled}
use Rattle.es_steps.proofs.FormLists.{IsPlain, IsPlainList}
use Rattle.es_steps.proofs.FormOpen.{IsProper, AreProperFields, IsProperField, AreProperTrees, opened-proper}
use Rattle.es_steps.proofs.FormRules.{AtNodes}
use Rattle.es_steps.proofs.Opened.{finished-opened}
use Rattle.es_steps.proofs.Taken.{pending_in, this_in, top_in}

-- PLACES: whether what stands in this field of a node of this kind is a statement, and no part of a `try`, and whether it has a label

abbrev pub in_statement : AstType → ℕ → Bool
in_statement k i = is_statement_place (ancestor k (made [] []) done i 0 ∷ [])

abbrev pub in_label : AstType → ℕ → Bool
in_label k i = is_labelled (ancestor k (made [] []) done i 0 ∷ [])

-- ONE CHANGED NODE of a tree that stands in such a place

mutual
  pub data Becomes (U : Site → Ledger → Spot → Ledger → Spot → Type 0) : Bool → Bool → Tree → Tree → Type 0 where
    here : {b c : Bool} {t u : Tree} (n : Site) (s s' : Ledger) → is_statement_place n.above ≡ b → is_labelled n.above ≡ c → U n s (at_node t) s' (at_node u) → Becomes U b c t u
    deep : {b c : Bool} {k : AstType} {l : Label} {fs gs : Fields} → FieldsBecome U (in_statement k) (in_label k) fs gs → Becomes U b c (node k l fs) (node k l gs)

  pub data FieldsBecome (U : Site → Ledger → Spot → Ledger → Spot → Type 0) : (ℕ → Bool) → (ℕ → Bool) → Fields → Fields → Type 0 where
    at_first : {p q : ℕ → Bool} {f g : Field} {fs : Fields} → FieldBecomes U (p zero) (q zero) f g → FieldsBecome U p q (f then fs) (g then fs)
    at_later : {p q : ℕ → Bool} {f : Field} {fs gs : Fields} → FieldsBecome U (λ i. p (suc i)) (λ i. q (suc i)) fs gs → FieldsBecome U p q (f then fs) (f then gs)

  pub data FieldBecomes (U : Site → Ledger → Spot → Ledger → Spot → Type 0) : Bool → Bool → Field → Field → Type 0 where
    at_one : {b c : Bool} {t u : Tree} → Becomes U b c t u → FieldBecomes U b c (one t) (one u)
    at_many : {b c : Bool} {ts us : Trees} → TreesBecome U b c ts us → FieldBecomes U b c (many ts) (many us)
    at_statements : {b c : Bool} {ts us : Trees} → TreesBecome U b c ts us → FieldBecomes U b c (statements ts) (statements us)

  pub data TreesBecome (U : Site → Ledger → Spot → Ledger → Spot → Type 0) : Bool → Bool → Trees → Trees → Type 0 where
    at_head : {b c : Bool} {t u : Tree} {ts : Trees} → Becomes U b c t u → TreesBecome U b c (t before ts) (u before ts)
    at_tail : {b c : Bool} {t : Tree} {ts us : Trees} → TreesBecome U b c ts us → TreesBecome U b c (t before ts) (t before us)

-- RULES that act on single nodes, of which none is an import, and leave what is pending beside

pub record SameBeside (s s' : Ledger) : Type 0 where
  pub pending : pending_in s' ≡ pending_in s
  pub this : this_in s' ≡ this_in s
  pub top : top_in s' ≡ top_in s

pub record ActsAlone (U : Site → Ledger → Spot → Ledger → Spot → Type 0) : Type 0 where
  pub nodes : (n : Site) (s s' : Ledger) (x y : Spot) → U n s x s' y → AtNodes x y
  pub beside : (n : Site) (s s' : Ledger) (x y : Spot) → U n s x s' y → SameBeside s s'
  pub imports : (n : Site) (s s' : Ledger) (t u : Tree) → U n s (at_node t) s' (at_node u) → is_import u ≡ is_import t

-- the body of an arrow
arrow-place : (k : AstType) (j : ℕ) → is_body k j ≡ true → (in_statement k j ≡ true) × (in_label k j ≡ false)
arrow-place ArrowFunctionExpression zero e = absurd (cc e)
arrow-place ArrowFunctionExpression (suc zero) e = (refl, refl)
arrow-place ArrowFunctionExpression (suc (suc j)) e = absurd (cc e)
arrow-place k j e = absurd (cc e)

module _ (U : Site → Ledger → Spot → Ledger → Spot → Type 0) (law : ActsAlone U) where
  becomes-import : {b c : Bool} {t u : Tree} → Becomes U b c t u → is_import u ≡ is_import t
  becomes-import (here {t = t} {u = u} n s s' e d h) = law.imports n s s' t u h
  becomes-import (deep h) = refl

  at-place : {b c x y : Bool} {t u : Tree} → b ≡ x → c ≡ y → Becomes U b c t u → Becomes U x y t u
  at-place {b} {c} {x} {y} {t} {u} e d h = subst (λ (z : Bool). Becomes U z y t u) e (subst (λ (z : Bool). Becomes U b z t u) d h)

  -- LISTS with others before them

  pub joined-becomes : (bs : Trees) {b c : Bool} {ts us : Trees} → TreesBecome U b c ts us → TreesBecome U b c (joined_trees bs ts) (joined_trees bs us)
  joined-becomes empty h = h
  joined-becomes (b before bs) h = at_tail (joined-becomes bs h)

  imports-become : (bs : Trees) {b c : Bool} {ts us : Trees} → TreesBecome U b c ts us → TreesBecome U b c (after_imports bs ts) (after_imports bs us)
  imports-become bs (at_head {b = b} {c = c} {t = t} {u = u} {ts = ts} h) = subst (λ (v : Bool). TreesBecome U b c (after_imports bs (t before ts)) (if v then u before after_imports bs ts else joined_trees bs (u before ts))) (sym (becomes-import h)) (at (is_import t))
    where
      at : (v : Bool) → TreesBecome U b c (if v then t before after_imports bs ts else joined_trees bs (t before ts)) (if v then u before after_imports bs ts else joined_trees bs (u before ts))
      at true = at_head h
      at false = joined-becomes bs (at_head h)
  imports-become bs (at_tail {b = b} {c = c} {t = t} {ts = ts} {us = us} h) = at (is_import t) (imports-become bs h)
    where
      at : (v : Bool) → TreesBecome U b c (after_imports bs ts) (after_imports bs us) → TreesBecome U b c (if v then t before after_imports bs ts else joined_trees bs (t before ts)) (if v then t before after_imports bs us else joined_trees bs (t before us))
      at true r = at_tail r
      at false r = joined-becomes bs (at_tail h)

  -- THE BODY of an arrow, with what is pending for it

  declared-become : (kind : Text) (ds : List Tree) {b c : Bool} {ts us : Trees} → TreesBecome U b c ts us → TreesBecome U b c (declaration kind ds ts) (declaration kind ds us)
  declared-become kind [] h = h
  declared-become kind (d ∷ ds) h = at_tail h

  returned-become : {t u : Tree} → Becomes U true false t u → TreesBecome U true false (return_node t before empty) (return_node u before empty)
  returned-become h = at_head (deep (at_first (at_one h)))

  with-becomes : (vs ls : List Tree) {t u : Tree} → Becomes U true false t u → Becomes U true false (body_with vs ls t) (body_with vs ls u)
  with-becomes [] [] h = h
  with-becomes (v ∷ vs) ls h = deep (at_later (at_first (at_statements (declared-become (codes "var") (v ∷ vs) (declared-become (codes "let") ls (returned-become h))))))
  with-becomes [] (l ∷ ls) h = deep (at_later (at_first (at_statements (declared-become (codes "var") [] (declared-become (codes "let") (l ∷ ls) (returned-become h))))))

  body-becomes : (p : Pending) {b c : Bool} {t u : Tree} → b ≡ true → c ≡ false → Becomes U b c t u → Becomes U b c (written_body p t) (written_body p u)
  body-becomes p e d h = at-place (sym e) (sym d) (with-becomes p.vars p.lets (at-place e d h))

  -- STEPS

  pub record Stepped (b c : Bool) (s s' : Ledger) (t u : Open) : Type 0 where
    pub becomes : Becomes U b c (finished t) (finished u)
    pub proper : IsProper u
    pub beside : SameBeside s s'

  record FieldsStepped (p q bodies : ℕ → Bool) (s s' : Ledger) (fs gs : OpenFields) : Type 0 where
    become : FieldsBecome U p q (finished_fields fs) (finished_fields gs)
    proper : AreProperFields bodies gs
    beside : SameBeside s s'

  record FieldStepped (b c arrow : Bool) (s s' : Ledger) (f g : OpenField) : Type 0 where
    becomes : FieldBecomes U b c (finished_field f) (finished_field g)
    proper : IsProperField arrow g
    beside : SameBeside s s'

  record TreesStepped (b c : Bool) (s s' : Ledger) (ts us : OpenTrees) : Type 0 where
    become : TreesBecome U b c (finished_trees ts) (finished_trees us)
    proper : AreProperTrees us
    beside : SameBeside s s'

  -- a list with the same pending for it
  listed : {b c : Bool} (p q : Pending) (y y' : Option Bound) (a a' : Additions) (ts us : OpenTrees) → q ≡ p → y' ≡ y → a' ≡ a → TreesBecome U b c (finished_trees ts) (finished_trees us) → FieldBecomes U b c (statements (whole_list p y a (finished_trees ts))) (statements (whole_list q y' a' (finished_trees us)))
  listed {b} {c} p q y y' a a' ts us e d f h = subst (λ (vs : Trees). FieldBecomes U b c (statements (whole_list p y a (finished_trees ts))) (statements vs)) (λ i. whole_list (sym e i) (sym d i) (sym f i) (finished_trees us)) (at_statements (imports-become (pending_statements p y a) h))

  same-list : (p q : Pending) (y y' : Option Bound) (a a' : Additions) → q ≡ p → y' ≡ y → a' ≡ a → IsPlainList p y a → IsPlainList q y' a'
  same-list p q y y' a a' e d f h = subst (λ (r : Pending). IsPlainList r y' a') (sym e) (subst (λ (z : Option Bound). IsPlainList p z a') (sym d) (subst (λ (x : Additions). IsPlainList p y x) (sym f) h))

  mutual
    pub after-step : {n : Site} {s s' : Ledger} {t u : Open} → Step U n s t s' u → IsProper t → Stepped (is_statement_place n.above) (is_labelled n.above) s s' t u
    after-step (acts {n = n} {s = s} {s' = s'} t u h) proper = record {
      becomes = subst (λ (x : Tree). Becomes U (is_statement_place n.above) (is_labelled n.above) x (finished (opened u))) (sym (finished-opened t)) (subst (λ (y : Tree). Becomes U (is_statement_place n.above) (is_labelled n.above) t y) (sym (finished-opened u)) (here n s s' refl refl h));
      proper = opened-proper u;
      beside = law.beside n s s' (at_node t) (at_node u) h;
    }
    after-step (inside {k = k} h) proper =
        let r = fields-step h (in_statement k) (in_label k) (is_body k) (λ j. refl) (λ j. refl) (arrow-place k) proper in
        record { becomes = deep r.become; proper = r.proper; beside = r.beside }

    fields-step : {c : ℕ → Site} {s s' : Ledger} {fs gs : OpenFields} → FieldsStep U c s fs s' gs → (p q bodies : ℕ → Bool) → ((j : ℕ) → is_statement_place (c j).above ≡ p j) → ((j : ℕ) → is_labelled (c j).above ≡ q j) → ((j : ℕ) → bodies j ≡ true → (p j ≡ true) × (q j ≡ false)) → AreProperFields bodies fs → FieldsStepped p q bodies s s' fs gs
    fields-step (in_first h) p q bodies places labels arrows proper =
        let r = field-step h (p zero) (q zero) (bodies zero) (places zero) (labels zero) (arrows zero) proper.0 in
        record { become = at_first r.becomes; proper = (r.proper, proper.1); beside = r.beside }
    fields-step (in_later h) p q bodies places labels arrows proper =
        let r = fields-step h (λ j. p (suc j)) (λ j. q (suc j)) (λ j. bodies (suc j)) (λ j. places (suc j)) (λ j. labels (suc j)) (λ j. arrows (suc j)) proper.1 in
        record { become = at_later r.become; proper = (proper.0, r.proper); beside = r.beside }

    field-step : {n : Site} {s s' : Ledger} {f g : OpenField} → FieldStep U n s f s' g → (b c arrow : Bool) → is_statement_place n.above ≡ b → is_labelled n.above ≡ c → (arrow ≡ true → (b ≡ true) × (c ≡ false)) → IsProperField arrow f → FieldStepped b c arrow s s' f g
    field-step (in_child {t = t} {u = u} h) b c arrow e d body proper =
        let r = after-step h proper in
        record { becomes = at_one (at-place e d r.becomes); proper = r.proper; beside = r.beside }
    field-step (in_children {ts = ts} {us = us} h) b c arrow e d body proper =
        let r = trees-step h b c e d proper in
        record { becomes = at_many r.become; proper = r.proper; beside = r.beside }
    field-step (in_body {p = p} {q = q} {t = t} {u = u} reading y y' h) b c arrow e d body proper =
        let r = after-step h proper.2 in
        let there : Becomes U b c (finished t) (finished u) = at-place e d r.becomes in
        let place = body proper.0 in
        let same : q ≡ p = r.beside.pending in
        record {
          becomes = subst (λ (z : Pending). FieldBecomes U b c (one (written_body p (finished t))) (one (written_body z (finished u)))) (sym same) (at_one (body-becomes p place.0 place.1 there));
          proper = (proper.0, subst (λ (z : Pending). IsPlain z) (sym same) proper.1, r.proper);
          beside = record { pending = refl; this = r.beside.this; top = r.beside.top };
        }
    field-step (in_list {p = p} {q = q} {y = y} {b = a} {ts = ts} {us = us} e1 e2 h) b c arrow e d body proper =
        let r = trees-step h b c e d proper.1 in
        record { becomes = listed p q y y a a ts us r.beside.pending refl refl r.become; proper = (same-list p q y y a a r.beside.pending refl refl proper.0, r.proper); beside = record { pending = refl; this = r.beside.this; top = r.beside.top } }
    field-step (in_target {p = p} {q = q} {y = y} {y' = y'} {b = a} {ts = ts} {us = us} e1 h) b c arrow e d body proper =
        let r = trees-step h b c e d proper.1 in
        record { becomes = listed p q y y' a a ts us r.beside.pending r.beside.this refl r.become; proper = (same-list p q y y' a a r.beside.pending r.beside.this refl proper.0, r.proper); beside = record { pending = refl; this = refl; top = r.beside.top } }
    field-step (in_program {p = p} {q = q} {y = y} {y' = y'} {b = a} {b' = a'} {ts = ts} {us = us} e1 h) b c arrow e d body proper =
        let r = trees-step h b c e d proper.1 in
        record { becomes = listed p q y y' a a' ts us r.beside.pending r.beside.this r.beside.top r.become; proper = (same-list p q y y' a a' r.beside.pending r.beside.this r.beside.top proper.0, r.proper); beside = record { pending = refl; this = refl; top = refl } }
    field-step (acts_on_list {n = n} {s = s} {s' = s'} {p = p} {q = q} {x = x} {y = y} {a = a} {b = a'} ts us h) b c arrow e d body proper = absurd (law.nodes n s s' (at_list p x a ts) (at_list q y a' us) h)
    field-step (acts_on_body {n = n} {s = s} {s' = s'} {p = p} t u h) b c arrow e d body proper = absurd (law.nodes n s s' (at_body p t) (at_node u) h)

    trees-step : {n : Site} {s s' : Ledger} {ts us : OpenTrees} → TreesStep U n s ts s' us → (b c : Bool) → is_statement_place n.above ≡ b → is_labelled n.above ≡ c → AreProperTrees ts → TreesStepped b c s s' ts us
    trees-step (in_head {t = t} {u = u} h) b c e d proper =
        let r = after-step h proper.0 in
        record { become = at_head (at-place e d r.becomes); proper = (r.proper, proper.1); beside = r.beside }
    trees-step (in_tail h) b c e d proper =
        let r = trees-step h b c e d proper.1 in
        record { become = at_tail r.become; proper = (proper.0, r.proper); beside = r.beside }
    trees-step (in_flanked h) b c e d proper = absurd proper
    trees-step (after_flanked h) b c e d proper = absurd proper
    trees-step (flanks {n = n} {s = s} {s' = s'} {bs = bs} {cs = cs} t u h) b c e d proper = absurd (law.nodes n s s' (at_node t) (at_beside bs u cs) h)
    trees-step (acts_on_flanked t us h) b c e d proper = absurd proper
