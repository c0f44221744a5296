-- What steps of the rows inside a statement leave of a tree with nothing pending: in one place after the other a call of `super` is followed, or the
-- statement that sets the name is put behind another, and what is known beside stays the same.
use Rattle.std.proofs.Common.{arith, ◌≡◌, ◌==◌, ℕ, zero, suc, refl, sym, ap, subst, ◌∙◌, List, [], ◌∷◌}
use Rattle.std.specs.Prelude.{Bool, true, false, ◌&&◌, ◌||◌, Option, Some, None, codes, if◌then◌else◌}
use Rattle.std.proofs.lemmas.Bool.{ne_eqb}
use Rattle.es_tree.specs.Ancestors.{is_class, stands_in}
use Rattle.es_tree.specs.HasForm.{same_type}
use Rattle.es_tree.specs.Tree.{Tree, node, Label, Fields, done, ◌then◌, Field, one, many, statements, Trees, empty, ◌before◌}
use Rattle.es_tree.specs.declared.ast_type.AstType.{AstType}
use Rattle.es_tree.specs.declared.ast_type.AstType.TheVariants.{BlockStatement, CallExpression, ChainExpression, ClassDeclaration, ClassExpression, SwitchCase}
use Rattle.es_semantic.specs.RolesOf.{reads}
use Rattle.es_resolution.specs.Declarations.{Bound}
use Rattle.es_steps.specs.Nodes.{identifier, joined_trees, return_node}
use Rattle.es_steps.specs.Open.{Additions, Open, OpenField, OpenFields, OpenTrees, Pending, after_imports, body_with as body_of, declaration, finished, finished_field, finished_fields, finished_trees, is_body, is_import, opened, opened_trees, pending_statements, whole_list, written_body, ◌next◌}
use Rattle.es_steps.specs.Steps.{FieldStep, FieldsStep, Ledger, Site, Step, Steps, TreesStep, ledger, site_in}
use Rattle.es_steps.specs.Steps.Spot.{at_beside, at_body, at_list, at_node}
use Rattle.es_steps.specs.Steps.Step.{acts, inside as inside_step}
use Rattle.es_steps.specs.Steps.FieldsStep.{in_first, in_later}
use Rattle.es_steps.specs.Steps.FieldStep.{in_child, in_body, in_children, in_list, in_target, in_program, acts_on_body, acts_on_list}
use Rattle.es_steps.specs.Steps.TreesStep.{in_head, in_tail, in_flanked, after_flanked, flanks, acts_on_flanked}
use Rattle.es_steps.specs.Steps.Steps.{goes, stays}
use Rattle.es_steps.proofs.FormLists.{IsPlain, IsPlainList}
use Rattle.es_steps.proofs.FormOpen.{AreProperFields, AreProperTrees, IsProper, IsProperField, opened-proper, opened-trees-proper}
use Rattle.es_steps.proofs.Opened.{finished-opened, finished-trees}
use Rattle.es_steps.proofs.Taken.{pending_in, this_in, top_in, whole_in}
use Rattle.es_super_calls.specs.SuperCalls.{calls_it}
use Rattle.es_set_this.specs.ConstructorThis.{then_set}
use Rattle.es_constructor_this.specs.SetRows.{Puts, Settles, SuperRow, body_with}
use Rattle.es_constructor_this.specs.SetRows.Settles.{ended, settled}
use Rattle.es_constructor_this.specs.SetRows.SuperRow.{after_call, in_block, in_case}
use Rattle.es_constructor_this.proofs.SetShapes.{super-only}

-- which field of a node takes no sequence: a chain's content, and the name of a class
abbrev pub takes_none : AstType → ℕ → Bool
takes_none k i = (same_type k ChainExpression && i == 0) || (is_class k && i == 0)

-- ONE PLACE: in a tree that stands in such a field or not, with a name of which this holds
mutual
  pub data Moved (B : Bound → Type 0) : Bool → Tree → Tree → Type 0 where
    called : {l : Label} {fs : Fields} (b : Bound) → B b → calls_it fs ≡ true → Moved B false (node CallExpression l fs) (then_set (identifier b) l fs)
    blocked : {c : Bool} {l : Label} {ts us : Trees} (b : Bound) → B b → Puts (identifier b) ts us → Moved B c (node BlockStatement l (statements ts then done)) (node BlockStatement l (statements us then done))
    cased : {c : Bool} {l : Label} {f : Field} {ts us : Trees} (b : Bound) → B b → Puts (identifier b) ts us → Moved B c (node SwitchCase l (f then statements ts then done)) (node SwitchCase l (f then statements us then done))
    inside : {c : Bool} {k : AstType} {l : Label} {fs gs : Fields} → MovedIn B (takes_none k) fs gs → Moved B c (node k l fs) (node k l gs)

  pub data MovedIn (B : Bound → Type 0) : (ℕ → Bool) → Fields → Fields → Type 0 where
    first : {c : ℕ → Bool} {f g : Field} {fs : Fields} → MovedBy B (c zero) f g → MovedIn B c (f then fs) (g then fs)
    later : {c : ℕ → Bool} {f : Field} {fs gs : Fields} → MovedIn B (λ i. c (suc i)) fs gs → MovedIn B c (f then fs) (f then gs)

  pub data MovedBy (B : Bound → Type 0) : Bool → Field → Field → Type 0 where
    to_child : {c : Bool} {t u : Tree} → Moved B c t u → MovedBy B c (one t) (one u)
    to_children : {c : Bool} {ts us : Trees} → MovedAll B c ts us → MovedBy B c (many ts) (many us)
    to_list : {c : Bool} {ts us : Trees} → MovedAll B c ts us → MovedBy B c (statements ts) (statements us)

  pub data MovedAll (B : Bound → Type 0) : Bool → Trees → Trees → Type 0 where
    head : {c : Bool} {t u : Tree} {ts : Trees} → Moved B c t u → MovedAll B c (t before ts) (u before ts)
    tail : {c : Bool} {t : Tree} {ts us : Trees} → MovedAll B c ts us → MovedAll B c (t before ts) (t before us)

-- and one place after the other
pub data Star {X : Type 0} (M : X → X → Type 0) : X → X → Type 0 where
  same : {x : X} → Star M x x
  more : {x y z : X} → M x y → Star M y z → Star M x z

module _ {B : Bound → Type 0} where
  pub import-same : {c : Bool} (t u : Tree) → Moved B c t u → is_import u ≡ is_import t
  import-same t u (called b h e) = refl
  import-same t u (blocked b h p) = refl
  import-same t u (cased b h p) = refl
  import-same t u (inside m) = refl

  -- WHERE NOTHING IS PENDING, and where something is

  anywhere : {c : Bool} {t u : Tree} → Moved B c t u → Moved B false t u
  anywhere (called b h e) = called b h e
  anywhere (blocked b h p) = blocked b h p
  anywhere (cased b h p) = cased b h p
  anywhere (inside m) = inside m

  -- in the body of an arrow
  returned : (ls : List Tree) {c : Bool} {t u : Tree} → Moved B c t u → MovedAll B false (declaration (codes "let") ls (return_node t before empty)) (declaration (codes "let") ls (return_node u before empty))
  returned [] m = head (inside (first (to_child (anywhere m))))
  returned (l ∷ ls) m = tail (head (inside (first (to_child (anywhere m)))))

  body-moved : (vs ls : List Tree) {c : Bool} {t u : Tree} → Moved B c t u → Moved B c (body_of vs ls t) (body_of vs ls u)
  body-moved [] [] m = m
  body-moved [] (l ∷ ls) m = inside (later (first (to_list (returned (l ∷ ls) m))))
  body-moved (v ∷ vs) ls m = inside (later (first (to_list (tail (returned ls m)))))

  -- in a list
  joined-moved : {c : Bool} (xs : Trees) {ts us : Trees} → MovedAll B c ts us → MovedAll B c (joined_trees xs ts) (joined_trees xs us)
  joined-moved empty m = m
  joined-moved (x before xs) m = tail (joined-moved xs m)

  after-moved : {c : Bool} (xs ts us : Trees) → MovedAll B c ts us → MovedAll B c (after_imports xs ts) (after_imports xs us)
  after-moved {c} xs _ _ (head {t = t} {u = u} {ts = ts} m) = at (is_import t) (is_import u) (import-same t u m)
    where
      at : (a b : Bool) → b ≡ a → MovedAll B c (if a then t before after_imports xs ts else joined_trees xs (t before ts)) (if b then u before after_imports xs ts else joined_trees xs (u before ts))
      at true true e = head m
      at false false e = joined-moved xs (head m)
      at true false e = absurd (cc e)
      at false true e = absurd (cc e)
  after-moved {c} xs _ _ (tail {t = t} {ts = ts} {us = us} m) = at (is_import t) (after-moved xs ts us m)
    where
      at : (a : Bool) → MovedAll B c (after_imports xs ts) (after_imports xs us) → MovedAll B c (if a then t before after_imports xs ts else joined_trees xs (t before ts)) (if a then t before after_imports xs us else joined_trees xs (t before us))
      at true r = tail r
      at false r = joined-moved xs (tail m)

-- STEPS

-- the names that are known beside
abbrev pub Knows : (Bound → Type 0) → Ledger → Type 0
Knows B s = (b : Bound) → this_in s ≡ Some b → B b

none-known : (B : Bound → Type 0) (y : Option Bound) → y ≡ None → (b : Bound) → y ≡ Some b → B b
none-known B y e b d = absurd (cc (e, d))

-- what is known of the field where something stands: no call there is followed that may not be
abbrev pub Takes : Bool → Site → Type 0
Takes c n = n.role ≡ reads → stands_in ChainExpression 0 n.above ≡ false → c ≡ false

not-first : (i : ℕ) → (suc i == 0) ≡ false
not-first i = ne_eqb (suc i) 0 (λ d. omega (arith, d))

no-sequence : (n : Site) (k : AstType) (l : Label) (fs : OpenFields) (i : ℕ) → Takes (takes_none k i) (site_in n k l fs i)
no-sequence n ClassDeclaration l fs zero e d = absurd (cc e)
no-sequence n ClassDeclaration l fs (suc i) e d = not-first i
no-sequence n ClassExpression l fs zero e d = absurd (cc e)
no-sequence n ClassExpression l fs (suc i) e d = not-first i
no-sequence n k l fs i e d = alone (same_type k ChainExpression && i == 0) d
  where
    alone : (b : Bool) → b ≡ false → (b || false) ≡ false
    alone true e = absurd (cc e)
    alone false e = refl

-- what they leave
pub record Left (A : Type 0) (s s' : Ledger) (Proper : Type 0) : Type 0 where
  pub same_ledger : s' ≡ s
  pub proper : Proper
  pub moved : A

module _ (B : Bound → Type 0) where
  row-left : (n : Site) (s s' : Ledger) (t u : Tree) → SuperRow n s (at_node t) s' (at_node u) → Knows B s → (c : Bool) → Takes c n → (s' ≡ s) × Moved B c t u
  row-left n s s' t u (after_call b l fs role calls chain finds) known c e = (refl, subst (λ (d : Bool). Moved B d (node CallExpression l fs) (then_set (identifier b) l fs)) (sym (e role chain)) (called b (known b refl) calls))
  row-left n s s' t u (in_block b l ts us p finds) known c e = (refl, blocked b (known b refl) p)
  row-left n s s' t u (in_case b l f ts us p finds) known c e = (refl, cased b (known b refl) p)

  -- a list with what is pending for it
  list-left : {c : Bool} (p q : Pending) (y y' : Option Bound) (a a' : Additions) (ts us : Trees) → q ≡ p → y' ≡ y → a' ≡ a → MovedAll B c ts us → MovedBy B c (statements (whole_list p y a ts)) (statements (whole_list q y' a' us))
  list-left {c} p q y y' a a' ts us e d f m =
      subst (λ (z : Pending). MovedBy B c (statements (whole_list p y a ts)) (statements (whole_list z y' a' us))) (sym e)
      (subst (λ (z : Option Bound). MovedBy B c (statements (whole_list p y a ts)) (statements (whole_list p z a' us))) (sym d)
      (subst (λ (z : Additions). MovedBy B c (statements (whole_list p y a ts)) (statements (whole_list p y z us))) (sym f)
      (to_list (after-moved (pending_statements p y a) ts us m))))

  still-plain : (p q : Pending) (y y' : Option Bound) (a a' : Additions) → q ≡ p → y' ≡ y → a' ≡ a → IsPlainList p y a → IsPlainList q y' a'
  still-plain p q y y' a a' e d f h = record { vars = subst (λ (z : Pending). IsPlain z) (sym e) h.vars; this = d ∙ h.this; top = f ∙ h.top }

  mutual
    pub step-left : {n : Site} {s s' : Ledger} {t u : Open} → Step SuperRow n s t s' u → Knows B s → IsProper t → (c : Bool) → Takes c n → Left (Moved B c (finished t) (finished u)) s s' (IsProper u)
    step-left (acts {n = n} {s = s} {s' = s'} t u h) known proper c e =
        let r = row-left n s s' t u h known c e in
        record { same_ledger = r.0; proper = opened-proper u; moved = subst (λ (x : Tree). Moved B c x (finished (opened u))) (sym (finished-opened t)) (subst (λ (y : Tree). Moved B c t y) (sym (finished-opened u)) r.1) }
    step-left (inside_step {n = n} {k = k} {l = l} {fs = fs} h) known proper c e =
        let r = fields-left h known (is_body k) proper (takes_none k) (no-sequence n k l fs) in
        record { same_ledger = r.same_ledger; proper = r.proper; moved = inside r.moved }

    fields-left : {d : ℕ → Site} {s s' : Ledger} {fs gs : OpenFields} → FieldsStep SuperRow d s fs s' gs → Knows B s → (bodies : ℕ → Bool) → AreProperFields bodies fs → (c : ℕ → Bool) → ((i : ℕ) → Takes (c i) (d i)) → Left (MovedIn B c (finished_fields fs) (finished_fields gs)) s s' (AreProperFields bodies gs)
    fields-left (in_first h) known bodies proper c e =
        let r = field-left h known (bodies zero) proper.0 (c zero) (e zero) in
        record { same_ledger = r.same_ledger; proper = (r.proper, proper.1); moved = first r.moved }
    fields-left (in_later h) known bodies proper c e =
        let r = fields-left h known (λ i. bodies (suc i)) proper.1 (λ i. c (suc i)) (λ i. e (suc i)) in
        record { same_ledger = r.same_ledger; proper = (proper.0, r.proper); moved = later r.moved }

    field-left : {n : Site} {s s' : Ledger} {f g : OpenField} → FieldStep SuperRow n s f s' g → Knows B s → (b : Bool) → IsProperField b f → (c : Bool) → Takes c n → Left (MovedBy B c (finished_field f) (finished_field g)) s s' (IsProperField b g)
    field-left (in_child h) known b proper c e =
        let r = step-left h known proper c e in
        record { same_ledger = r.same_ledger; proper = r.proper; moved = to_child r.moved }
    field-left (in_children h) known b proper c e =
        let r = trees-left h known proper c e in
        record { same_ledger = r.same_ledger; proper = r.proper; moved = to_children r.moved }
    field-left (in_body {o = o} {p = p} {q = q} {t = t} {u = u} role x y h) known b proper c e =
        let r = step-left h known proper.2 c (λ g d. e role d) in
        let same : q ≡ p = ap (λ z. pending_in z) r.same_ledger in
        record {
          same_ledger = ap (λ z. ledger (whole_in z) o (this_in z) (top_in z)) r.same_ledger;
          proper = (proper.0, subst (λ (z : Pending). IsPlain z) (sym same) proper.1, r.proper);
          moved = subst (λ (z : Pending). MovedBy B c (one (written_body p (finished t))) (one (written_body z (finished u)))) (sym same) (to_child (body-moved p.vars p.lets r.moved));
        }
    field-left (in_list {o = o} {p = p} {q = q} {y = y} {b = d} {ts = ts} {us = us} x x' h) known b proper c e =
        let r = trees-left h known proper.1 c e in
        let same : q ≡ p = ap (λ z. pending_in z) r.same_ledger in
        record {
          same_ledger = ap (λ z. ledger (whole_in z) o (this_in z) (top_in z)) r.same_ledger;
          proper = (still-plain p q y y d d same refl refl proper.0, r.proper);
          moved = list-left p q y y d d (finished_trees ts) (finished_trees us) same refl refl r.moved;
        }
    field-left (in_target {o = o} {p = p} {q = q} {x = x} {y = y} {y' = y'} {b = d} {ts = ts} {us = us} z h) known b proper c e =
        let r = trees-left h (none-known B y proper.0.this) proper.1 c e in
        let same : q ≡ p = ap (λ z. pending_in z) r.same_ledger in
        let this : y' ≡ y = ap (λ z. this_in z) r.same_ledger in
        record {
          same_ledger = ap (λ z. ledger (whole_in z) o x (top_in z)) r.same_ledger;
          proper = (still-plain p q y y' d d same this refl proper.0, r.proper);
          moved = list-left p q y y' d d (finished_trees ts) (finished_trees us) same this refl r.moved;
        }
    field-left (in_program {o = o} {p = p} {q = q} {x = x} {y = y} {y' = y'} {a = a} {b = d} {b' = d'} {ts = ts} {us = us} z h) known b proper c e =
        let r = trees-left h (none-known B y proper.0.this) proper.1 c e in
        let same : q ≡ p = ap (λ z. pending_in z) r.same_ledger in
        let this : y' ≡ y = ap (λ z. this_in z) r.same_ledger in
        let top : d' ≡ d = ap (λ z. top_in z) r.same_ledger in
        record {
          same_ledger = ap (λ z. ledger (whole_in z) o x a) r.same_ledger;
          proper = (still-plain p q y y' d d' same this top proper.0, r.proper);
          moved = list-left p q y y' d d' (finished_trees ts) (finished_trees us) same this top r.moved;
        }
    field-left (acts_on_list {n = n} {s = s} {s' = s'} {p = p} {q = q} {x = x} {y = y} {a = a} {b = d} ts us h) known b proper c e = absurd (super-only n s s' (at_list p x a ts) (at_list q y d us) h)
    field-left (acts_on_body {n = n} {s = s} {s' = s'} {p = p} t u h) known b proper c e = absurd (super-only n s s' (at_body p t) (at_node u) h)

    pub trees-left : {n : Site} {s s' : Ledger} {ts us : OpenTrees} → TreesStep SuperRow n s ts s' us → Knows B s → AreProperTrees ts → (c : Bool) → Takes c n → Left (MovedAll B c (finished_trees ts) (finished_trees us)) s s' (AreProperTrees us)
    trees-left (in_head h) known proper c e =
        let r = step-left h known proper.0 c e in
        record { same_ledger = r.same_ledger; proper = (r.proper, proper.1); moved = head r.moved }
    trees-left (in_tail h) known proper c e =
        let r = trees-left h known proper.1 c e in
        record { same_ledger = r.same_ledger; proper = (proper.0, r.proper); moved = tail r.moved }
    trees-left (in_flanked h) known proper c e = absurd proper
    trees-left (after_flanked h) known proper c e = absurd proper
    trees-left (flanks {n = n} {s = s} {s' = s'} {bs = bs} {cs = cs} t u h) known proper c e = absurd (super-only n s s' (at_node t) (at_beside bs u cs) h)
    trees-left (acts_on_flanked t us h) known proper c e = absurd proper

-- STATEMENTS, one by one

module _ {n : Site} where
  heads : {s s' : Ledger} {t u : Open} (ts : OpenTrees) → Steps (Step SuperRow n) s t s' u → Steps (TreesStep SuperRow n) s (t next ts) s' (u next ts)
  heads ts stays = stays
  heads ts (goes h rest) = goes (in_head h) (heads ts rest)

  tails : {s s' : Ledger} {ts us : OpenTrees} (t : Open) → Steps (TreesStep SuperRow n) s ts s' us → Steps (TreesStep SuperRow n) s (t next ts) s' (t next us)
  tails t stays = stays
  tails t (goes h rest) = goes (in_tail h) (tails t rest)

  both : {s s' s'' : Ledger} {ts us vs : OpenTrees} → Steps (TreesStep SuperRow n) s ts s' us → Steps (TreesStep SuperRow n) s' us s'' vs → Steps (TreesStep SuperRow n) s ts s'' vs
  both stays k = k
  both (goes h rest) k = goes h (both rest k)

  pub settling : {s : Ledger} {ts us : Trees} → Settles n s ts us → Steps (TreesStep SuperRow n) s (opened_trees ts) s (opened_trees us)
  settling ended = stays
  settling (settled {t = t} {u = u} {ts = ts} {us = us} h rest) = both (heads (opened_trees ts) h) (tails (opened u) (settling rest))

-- the body, with its first statement
module _ (l : Label) (ds : Field) (d : Tree) where
  pub in-body-moved : {B : Bound → Type 0} {ts us : Trees} → MovedAll B false ts us → Moved B false (body_with l ds (d before ts)) (body_with l ds (d before us))
  in-body-moved m = inside (later (first (to_list (tail m))))

  bodies-moved : (B : Bound → Type 0) {n : Site} {s s' : Ledger} {ts us : OpenTrees} → Steps (TreesStep SuperRow n) s ts s' us → Knows B s → AreProperTrees ts → Star (Moved B false) (body_with l ds (d before finished_trees ts)) (body_with l ds (d before finished_trees us))
  bodies-moved B stays known proper = same
  bodies-moved B (goes {s = s} {s' = s'} h rest) known proper =
      let r = trees-left B h known proper false (λ g d. refl) in
      more (in-body-moved r.moved) (bodies-moved B rest (λ b d. known b (sym (ap (λ z. this_in z) r.same_ledger) ∙ d)) r.proper)

  pub settled-star : (B : Bound → Type 0) {n : Site} {s : Ledger} (ts us : Trees) → Settles n s ts us → Knows B s → Star (Moved B false) (body_with l ds (d before ts)) (body_with l ds (d before us))
  settled-star B ts us h known =
      let r = bodies-moved B (settling h) known (opened-trees-proper ts) in
      subst (λ (xs : Trees). Star (Moved B false) (body_with l ds (d before xs)) (body_with l ds (d before us))) (finished-trees ts)
      (subst (λ (ys : Trees). Star (Moved B false) (body_with l ds (d before finished_trees (opened_trees ts))) (body_with l ds (d before ys))) (finished-trees us) r)

-- what each place keeps, all do
pub starred : {X : Type 0} {M : X → X → Type 0} (P : X → Type 0) → ((x y : X) → M x y → P x → P y) → (x y : X) → Star M x y → P x → P y
starred P f x y same p = p
starred P f x z (more {y = y} m rest) p = starred P f y z rest (f x y m p)
