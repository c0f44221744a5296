-- What a step changes in a program, with all that is pending written: one node of it, or one list, and around it temporaries are declared.
use Rattle.std.proofs.Common.{◌≡◌, ◌∙◌, ℕ, zero, suc, List, [], ◌∷◌, refl, sym, ap, subst}
use Rattle.std.specs.Prelude.{Bool, true, false, Option, if◌then◌else◌}
use Rattle.es_tree.specs.Ancestors.{Ancestor, ancestor}
use Rattle.es_tree.specs.Tree.{Tree, node, Label, Fields, done, ◌then◌, Field, missing, one, many, statements, Trees, empty, ◌before◌, trees}
use Rattle.es_tree.specs.declared.ast_type.AstType.{AstType}
use Rattle.es_resolution.specs.Declarations.{Bound}
use Rattle.es_steps.specs.Nodes.{joined_trees}
use Rattle.es_steps.specs.Open.{Additions, Open, OpenField, OpenFields, OpenTrees, Pending, body, child, children, ends, finished, finished_field, finished_fields, finished_trees, flanked, flanks_with, followed_by, gap, is_body, is_statement_body, list, nil, open_node, opened, opened_field, opened_fields, opened_trees, whole_list, with_vars, written_body, ◌and◌, ◌next◌}
use Rattle.es_steps.specs.Steps.{FieldStep, FieldsStep, Ledger, Site, Spot, Step, Steps, TreesStep, the_program}
use Rattle.es_steps.specs.Steps.Spot.{at_beside, at_body, at_list, at_node, at_trees}
use Rattle.es_steps.specs.Steps.Step.{acts, inside}
use Rattle.es_steps.specs.Steps.FieldsStep.{in_first, in_later}
use Rattle.es_steps.specs.Steps.FieldStep.{acts_on_body, acts_on_list, in_body, in_child, in_children, in_list, in_program, in_target}
use Rattle.es_steps.specs.Steps.TreesStep.{acts_on_flanked, after_flanked, flanks, in_flanked, in_head, in_tail}
use Rattle.es_steps.specs.Steps.Steps.{goes, stays}
use Rattle.es_steps.proofs.FormRules.{AtNodes, no-names}
use Rattle.es_steps.proofs.Opened.{finished-followed, finished-opened, finished-trees}
use Rattle.es_steps.proofs.Taken.{flanks-rest, pending_in, top_in}

-- LEDGERS: these temporaries are pending more, and nothing else

pub record Grown (N : List Bound → Type 0) (s s' : Ledger) : Type 0 where
  pub names : List Bound
  pub such : N names
  pub pending : pending_in s' ≡ with_vars names (pending_in s)
  pub top : top_in s' ≡ top_in s

-- whether an arrow's body may stand here
abbrev pub is_body_place : List Ancestor → Bool
is_body_place [] = false
is_body_place (a ∷ up) = is_body a.kind a.index

-- CHANGES of trees: A is what becomes of a node, B what comes for one beside which others are put, and N holds of the temporaries

module _ (A : List Ancestor → Tree → Tree → Type 0) (B : Tree → Trees → Type 0) (N : List Bound → Type 0) where
  mutual
    pub data Changed : List Ancestor → Tree → Tree → Type 0 where
      here : {up : List Ancestor} {t u : Tree} → A up t u → Changed up t u
      within : {up : List Ancestor} {k : AstType} {l : Label} {all fs gs : Fields} → ChangedIn (λ i. ancestor k l all i 0 ∷ up) fs gs → Changed up (node k l fs) (node k l gs)

    pub data ChangedIn : (ℕ → List Ancestor) → Fields → Fields → Type 0 where
      first : {c : ℕ → List Ancestor} {f g : Field} {fs : Fields} → ChangedBy (c zero) f g → ChangedIn c (f then fs) (g then fs)
      later : {c : ℕ → List Ancestor} {f : Field} {fs gs : Fields} → ChangedIn (λ i. c (suc i)) fs gs → ChangedIn c (f then fs) (f then gs)

    pub data ChangedBy : List Ancestor → Field → Field → Type 0 where
      of_one : {up : List Ancestor} {t u : Tree} → Changed up t u → ChangedBy up (one t) (one u)
      of_many : {up : List Ancestor} {ts us : Trees} → ChangedAll up ts us → ChangedBy up (many ts) (many us)
      of_body : {up : List Ancestor} {t u : Tree} (p : Pending) (bs : List Bound) → N bs → is_body_place up ≡ true → Changed up t u → ChangedBy up (one (written_body p t)) (one (written_body (with_vars bs p) u))
      of_list : {up : List Ancestor} {ts us : Trees} (p : Pending) (x y : Option Bound) (a : Additions) (bs : List Bound) → N bs → ChangedAll up ts us → ChangedBy up (statements (whole_list p x a ts)) (statements (whole_list (with_vars bs p) y a us))
      same_field : {up : List Ancestor} {f : Field} → ChangedBy up f f

    pub data ChangedAll : List Ancestor → Trees → Trees → Type 0 where
      head : {up : List Ancestor} {t u : Tree} {ts : Trees} → Changed up t u → ChangedAll up (t before ts) (u before ts)
      tail : {up : List Ancestor} {t : Tree} {ts us : Trees} → ChangedAll up ts us → ChangedAll up (t before ts) (t before us)
      beside : {up : List Ancestor} {t : Tree} {us ts : Trees} → B t us → ChangedAll up (t before ts) (joined_trees us ts)
      same_trees : {up : List Ancestor} {ts : Trees} → ChangedAll up ts ts

  after : {up : List Ancestor} {ts us : Trees} (xs : Trees) → ChangedAll up ts us → ChangedAll up (joined_trees xs ts) (joined_trees xs us)
  after empty h = h
  after (x before xs) h = tail (after xs h)

  -- OPEN PROGRAMS in which declarators are pending for arrows' bodies alone, and for lists

  abbrev mutual
    pub IsProper : Open → Type 0
    IsProper (open_node k l fs) = AreProper (is_body k) fs

    pub AreProper : (ℕ → Bool) → OpenFields → Type 0
    AreProper bodies ends = Unit {0}
    AreProper bodies (f and fs) = IsProperField (bodies zero) f × AreProper (λ i. bodies (suc i)) fs

    pub IsProperField : Bool → OpenField → Type 0
    IsProperField b gap = Unit {0}
    IsProperField b (child t) = IsProper t
    IsProperField b (body p t) = (b ≡ true) × IsProper t
    IsProperField b (children ts) = AreProperTrees ts
    IsProperField b (list p x a ts) = AreProperTrees ts

    pub AreProperTrees : OpenTrees → Type 0
    AreProperTrees nil = Unit {0}
    AreProperTrees (t next ts) = IsProper t × AreProperTrees ts
    AreProperTrees (flanked bs t cs ts) = IsProper t × AreProperTrees ts

  either-proper : (v : Bool) (p : Pending) (t : Open) → IsProper t → IsProperField true (if v then child t else body p t)
  either-proper true p t h = h
  either-proper false p t h = (refl, h)

  mutual
    pub opened-proper : (t : Tree) → IsProper (opened t)
    opened-proper (node k l fs) = fields-proper (is_body k) fs

    fields-proper : (bodies : ℕ → Bool) (fs : Fields) → AreProper bodies (opened_fields bodies fs)
    fields-proper bodies done = tt
    fields-proper bodies (f then fs) = (field-proper (bodies zero) f, fields-proper (λ i. bodies (suc i)) fs)

    field-proper : (b : Bool) (f : Field) → IsProperField b (opened_field b f)
    field-proper true missing = tt
    field-proper false missing = tt
    field-proper true (one t) = either-proper (is_statement_body t) _ (opened t) (opened-proper t)
    field-proper false (one t) = opened-proper t
    field-proper true (many ts) = trees-proper ts
    field-proper false (many ts) = trees-proper ts
    field-proper true (statements ts) = trees-proper ts
    field-proper false (statements ts) = trees-proper ts

    trees-proper : (ts : Trees) → AreProperTrees (opened_trees ts)
    trees-proper empty = tt
    trees-proper (t before ts) = (opened-proper t, trees-proper ts)

  followed-proper : (us : Trees) (ts : OpenTrees) → AreProperTrees ts → AreProperTrees (followed_by (opened_trees us) ts)
  followed-proper empty ts h = h
  followed-proper (u before us) ts h = (opened-proper u, followed-proper us ts h)

  -- WHAT A RULE LEAVES

  pub record RuleChanges (R : Site → Ledger → Spot → Ledger → Spot → Type 0) : Type 0 where
    pub at_nodes : (n : Site) (s s' : Ledger) (t u : Tree) → R n s (at_node t) s' (at_node u) → A n.above t u × Grown N s s'
    pub beside_nodes : (n : Site) (s s' : Ledger) (t u : Tree) (bs cs : List Tree) → R n s (at_node t) s' (at_beside bs u cs) → B t (flanks_with bs u cs empty) × Grown N s s'
    pub at_lists : (n : Site) (s s' : Ledger) (p q : Pending) (x y : Option Bound) (a b : Additions) (ts us : Trees) → R n s (at_list p x a ts) s' (at_list q y b us) → (s ≡ s') × (whole_list p x a ts ≡ whole_list q y b us)
    pub at_bodies : (n : Site) (s s' : Ledger) (p : Pending) (t u : Tree) → R n s (at_body p t) s' (at_node u) → (s ≡ s') × (written_body p t ≡ u)
    pub unflanking : (n : Site) (s s' : Ledger) (t : Tree) (bs cs : List Tree) (us : Trees) → R n s (at_beside bs t cs) s' (at_trees us) → (s ≡ s') × (flanks_with bs t cs empty ≡ us)

  -- a rule of nodes alone
  pub nodes-change : (R : Site → Ledger → Spot → Ledger → Spot → Type 0) → ((n : Site) (s s' : Ledger) (x y : Spot) → R n s x s' y → AtNodes x y) → ((n : Site) (s s' : Ledger) (t u : Tree) → R n s (at_node t) s' (at_node u) → A n.above t u × Grown N s s') → RuleChanges R
  nodes-change R at law = record {
    at_nodes = law;
    beside_nodes = λ n s s' t u bs cs h. absurd (at n s s' (at_node t) (at_beside bs u cs) h);
    at_lists = λ n s s' p q x y a b ts us h. absurd (at n s s' (at_list p x a ts) (at_list q y b us) h);
    at_bodies = λ n s s' p t u h. absurd (at n s s' (at_body p t) (at_node u) h);
    unflanking = λ n s s' t bs cs us h. absurd (at n s s' (at_beside bs t cs) (at_trees us) h);
  }

  -- WHAT A STEP LEAVES: around the innermost list or body nothing is pending more, so that N holds of no temporaries

  module _ (none : N []) (R : Site → Ledger → Spot → Ledger → Spot → Type 0) (rule : RuleChanges R) where
    pub record Stepped (up : List Ancestor) (s s' : Ledger) (t u : Open) : Type 0 where
      pub changed : Changed up (finished t) (finished u)
      pub grown : Grown N s s'
      pub proper : IsProper u

    record SteppedIn (c : ℕ → List Ancestor) (bodies : ℕ → Bool) (s s' : Ledger) (fs gs : OpenFields) : Type 0 where
      changed : ChangedIn c (finished_fields fs) (finished_fields gs)
      grown : Grown N s s'
      proper : AreProper bodies gs

    record SteppedBy (up : List Ancestor) (b : Bool) (s s' : Ledger) (f g : OpenField) : Type 0 where
      changed : ChangedBy up (finished_field f) (finished_field g)
      grown : Grown N s s'
      proper : IsProperField b g

    record SteppedAll (up : List Ancestor) (s s' : Ledger) (ts us : OpenTrees) : Type 0 where
      changed : ChangedAll up (finished_trees ts) (finished_trees us)
      grown : Grown N s s'
      proper : AreProperTrees us

    same-ledger : {s s' : Ledger} → s ≡ s' → Grown N s s'
    same-ledger {s = s} e = record { names = []; such = none; pending = ap pending_in (sym e) ∙ no-names (pending_in s); top = ap top_in (sym e) }

    -- a body or a list of which more is pending
    body-changed : {up : List Ancestor} {t u : Tree} (p q : Pending) (bs : List Bound) → N bs → is_body_place up ≡ true → q ≡ with_vars bs p → Changed up t u → ChangedBy up (one (written_body p t)) (one (written_body q u))
    body-changed {up = up} {t = t} {u = u} p q bs such place e h = subst (λ (r : Pending). ChangedBy up (one (written_body p t)) (one (written_body r u))) (sym e) (of_body p bs such place h)

    list-changed : {up : List Ancestor} {ts us : Trees} (p q : Pending) (x y : Option Bound) (a b : Additions) (bs : List Bound) → N bs → q ≡ with_vars bs p → b ≡ a → ChangedAll up ts us → ChangedBy up (statements (whole_list p x a ts)) (statements (whole_list q y b us))
    list-changed {up = up} {ts = ts} {us = us} p q x y a b bs such e f h =
        subst (λ (r : Pending). ChangedBy up (statements (whole_list p x a ts)) (statements (whole_list r y b us))) (sym e)
        (subst (λ (r : Additions). ChangedBy up (statements (whole_list p x a ts)) (statements (whole_list (with_vars bs p) y r us))) (sym f) (of_list p x y a bs such h))

    mutual
      pub stepped : {n : Site} {s s' : Ledger} {t u : Open} → Step R n s t s' u → IsProper t → Stepped n.above s s' t u
      stepped (acts {n = n} {s = s} {s' = s'} t u h) d =
          let k = rule.at_nodes n s s' t u h in
          record {
            changed = subst (λ (x : Tree). Changed n.above x (finished (opened u))) (sym (finished-opened t)) (subst (λ (x : Tree). Changed n.above t x) (sym (finished-opened u)) (here k.0));
            grown = k.1;
            proper = opened-proper u;
          }
      stepped (inside {k = k} {fs = fs} h) d = let m = stepped-in (is_body k) (λ i. refl) h d in record { changed = within m.changed; grown = m.grown; proper = m.proper }

      stepped-in : {c : ℕ → Site} {s s' : Ledger} {fs gs : OpenFields} (bodies : ℕ → Bool) → ((i : ℕ) → is_body_place (c i).above ≡ bodies i) → FieldsStep R c s fs s' gs → AreProper bodies fs → SteppedIn (λ i. (c i).above) bodies s s' fs gs
      stepped-in bodies e (in_first h) d = let m = stepped-by (bodies zero) (e zero) h d.0 in record { changed = first m.changed; grown = m.grown; proper = (m.proper, d.1) }
      stepped-in bodies e (in_later h) d = let m = stepped-in (λ i. bodies (suc i)) (λ i. e (suc i)) h d.1 in record { changed = later m.changed; grown = m.grown; proper = (d.0, m.proper) }

      stepped-by : {n : Site} {s s' : Ledger} {f g : OpenField} (b : Bool) → is_body_place n.above ≡ b → FieldStep R n s f s' g → IsProperField b f → SteppedBy n.above b s s' f g
      stepped-by b place (in_child h) d = let m = stepped h d in record { changed = of_one m.changed; grown = m.grown; proper = m.proper }
      stepped-by b place (in_children h) d = let m = stepped-all h d in record { changed = of_many m.changed; grown = m.grown; proper = m.proper }
      stepped-by b place (in_body {o = o} {p = p} {q = q} r y y' h) d =
          let m = stepped h d.1 in
          record {
            changed = body-changed p q m.grown.names m.grown.such (place ∙ d.0) m.grown.pending m.changed;
            grown = record { names = []; such = none; pending = no-names o; top = m.grown.top };
            proper = (d.0, m.proper);
          }
      stepped-by b place (in_list {o = o} {p = p} {q = q} {y = y} {b = top} e f h) d =
          let m = stepped-all h d in
          record {
            changed = list-changed p q y y top top m.grown.names m.grown.such m.grown.pending refl m.changed;
            grown = record { names = []; such = none; pending = no-names o; top = m.grown.top };
            proper = m.proper;
          }
      stepped-by b place (in_target {o = o} {p = p} {q = q} {y = y} {y' = y'} {b = top} e h) d =
          let m = stepped-all h d in
          record {
            changed = list-changed p q y y' top top m.grown.names m.grown.such m.grown.pending refl m.changed;
            grown = record { names = []; such = none; pending = no-names o; top = m.grown.top };
            proper = m.proper;
          }
      stepped-by b place (in_program {o = o} {p = p} {q = q} {y = y} {y' = y'} {b = top} {b' = top'} e h) d =
          let m = stepped-all h d in
          record {
            changed = list-changed p q y y' top top' m.grown.names m.grown.such m.grown.pending m.grown.top m.changed;
            grown = record { names = []; such = none; pending = no-names o; top = refl };
            proper = m.proper;
          }
      stepped-by b place (acts_on_list {n = n} {s = s} {s' = s'} {p = p} {q = q} {x = x} {y = y} {a = a} {b = top} ts us h) d =
          let k = rule.at_lists n s s' p q x y a top ts us h in
          let same = ap (λ xs. whole_list p x a xs) (finished-trees ts) ∙ k.1 ∙ sym (ap (λ xs. whole_list q y top xs) (finished-trees us)) in
          record {
            changed = subst (λ (xs : Trees). ChangedBy n.above (statements (whole_list p x a (finished_trees (opened_trees ts)))) (statements xs)) same same_field;
            grown = same-ledger k.0;
            proper = trees-proper us;
          }
      stepped-by b place (acts_on_body {n = n} {s = s} {s' = s'} {p = p} t u h) d =
          let k = rule.at_bodies n s s' p t u h in
          let same = ap (λ x. written_body p x) (finished-opened t) ∙ k.1 ∙ sym (finished-opened u) in
          record {
            changed = subst (λ (x : Tree). ChangedBy n.above (one (written_body p (finished (opened t)))) (one x)) same same_field;
            grown = same-ledger k.0;
            proper = opened-proper u;
          }

      stepped-all : {n : Site} {s s' : Ledger} {ts us : OpenTrees} → TreesStep R n s ts s' us → AreProperTrees ts → SteppedAll n.above s s' ts us
      stepped-all (in_head h) d = let m = stepped h d.0 in record { changed = head m.changed; grown = m.grown; proper = (m.proper, d.1) }
      stepped-all (in_tail h) d = let m = stepped-all h d.1 in record { changed = tail m.changed; grown = m.grown; proper = (d.0, m.proper) }
      stepped-all (in_flanked {bs = bs} h) d = let m = stepped h d.0 in record { changed = after (trees bs) (head m.changed); grown = m.grown; proper = (m.proper, d.1) }
      stepped-all (after_flanked {bs = bs} {cs = cs} h) d = let m = stepped-all h d.1 in record { changed = after (trees bs) (tail (after (trees cs) m.changed)); grown = m.grown; proper = (d.0, m.proper) }
      stepped-all (flanks {n = n} {s = s} {s' = s'} {bs = bs} {cs = cs} {ts = ts} t u h) d =
          let k = rule.beside_nodes n s s' t u bs cs h in
          let rest = finished_trees ts in
          let same : joined_trees (flanks_with bs u cs empty) rest ≡ flanks_with bs (finished (opened u)) cs rest = flanks-rest bs cs u rest ∙ (λ i. flanks_with bs (sym (finished-opened u) i) cs rest) in
          record {
            changed = subst (λ (x : Tree). ChangedAll n.above (x before rest) (flanks_with bs (finished (opened u)) cs rest)) (sym (finished-opened t)) (subst (λ (xs : Trees). ChangedAll n.above (t before rest) xs) same (beside k.0));
            grown = k.1;
            proper = (opened-proper u, d.1);
          }
      stepped-all (acts_on_flanked {n = n} {s = s} {s' = s'} {bs = bs} {cs = cs} {ts = ts} t us h) d =
          let k = rule.unflanking n s s' t bs cs us h in
          let rest = finished_trees ts in
          let old = flanks_with bs (finished (opened t)) cs rest in
          let same : old ≡ finished_trees (followed_by (opened_trees us) ts) = (λ i. flanks_with bs (finished-opened t i) cs rest) ∙ sym (flanks-rest bs cs t rest) ∙ ap (λ xs. joined_trees xs rest) k.1 ∙ sym (finished-followed us ts) in
          record { changed = subst (λ (xs : Trees). ChangedAll n.above old xs) same same_trees; grown = same-ledger k.0; proper = followed-proper us ts d.1 }

    -- what each change of a program keeps, steps in a row keep
    pub in-a-row : (P : Tree → Type 0) → ((t u : Tree) → Changed [] t u → P t → P u) → {s s' : Ledger} {t u : Open} → Steps (Step R the_program) s t s' u → IsProper t → P (finished t) → P (finished u)
    in-a-row P keeps stays d h = h
    in-a-row P keeps (goes {t = t} {u = u} step rest) d h = let m = stepped step d in in-a-row P keeps rest m.proper (keeps (finished t) (finished u) m.changed h)
