-- What a test says of identifiers, steps keep, once for all rules: where words without a symbol and the new names pass it.
use Rattle.std.proofs.Common.{◌≤◌, ◌<◌, ◌≡◌, ℕ, zero, refl, sym, ap, subst, ◌∙◌}
use Rattle.std.specs.Prelude.{Bool, Option}
use Rattle.es_tree.specs.Words.{Text}
use Rattle.es_tree.specs.Scopes.{own_text, name_in}
use Rattle.es_tree.specs.Tree.{Tree, node, Label, Fields, ◌then◌, Field, missing, one, many, statements, Trees, empty}
use Rattle.es_tree.specs.declared.ast_type.AstType.{AstType}
use Rattle.es_tree.specs.declared.ast_type.AstType.TheVariants.{Identifier, ClassDeclaration, ClassExpression}
use Rattle.es_semantic.specs.RolesOf.{reads}
use Rattle.es_semantic.specs.declared.place.Binding.TheVariants.{Class}
use Rattle.es_semantic.specs.declared.place.Role.TheVariants.{Binds}
use Rattle.es_resolution.specs.Declarations.{symbol_of}
use Rattle.es_steps.specs.Identifiers.{IsIdentifier, HasIdentifier, OwnPasses, Passes, PassesIn, PassesBy, PassesAll}
use Rattle.es_steps.specs.Nodes.{joined_trees}
use Rattle.es_steps.specs.Open.{Open, OpenFields, OpenField, OpenTrees, opened, opened_fields, opened_trees, is_body, finished, finished_fields, finished_field, finished_trees, followed_by, flanks_with, written_body, whole_list}
use Rattle.es_steps.specs.Steps.{Whole, Ledger, Site, Spot, Step, FieldsStep, FieldStep, TreesStep, site_in}
use Rattle.es_steps.specs.Steps.Spot.{at_node, at_beside, at_body, at_list, at_trees}
use Rattle.es_steps.specs.Steps.Step.{acts, inside}
use Rattle.es_steps.specs.Steps.FieldsStep.{in_first, in_later}
use Rattle.es_steps.specs.Steps.FieldStep.{in_child, in_body, in_children, in_list, in_target, in_program, acts_on_body, acts_on_list}
use Rattle.es_steps.specs.Steps.TreesStep.{in_head, in_tail, in_flanked, after_flanked, flanks, acts_on_flanked}
use Rattle.es_steps.proofs.Opened.{finished-opened, finished-trees, finished-followed}
use Rattle.es_steps.proofs.Passing.{passes-flanks, flanks-pass, passes-whole, whole-passes, passes-body, body-passes}
use Rattle.es_steps.proofs.Taken.{whole_in, Lawful, Writes, Allows, LedgerPasses, flanks-rest}

-- SYMBOLS are numbered on, and keep their names

pub record Recalled (w w' : Whole) : Type 0 where
  pub freer : w.free_symbol ≤ w'.free_symbol
  pub same : (m : ℕ) → m < w.free_symbol → w'.called m ≡ w.called m

-- THE NAME OF A CLASS

-- what becomes of an identifier
record StillNamed (t u : Tree) : Type 0 where
  still : IsIdentifier u
  text : own_text u ≡ own_text t

kind-named : (k : AstType) (l : Label) (fs gs : Fields) → IsIdentifier (node k l fs) → StillNamed (node k l fs) (node k l gs)
kind-named Identifier l fs gs h = record { still = tt; text = refl }
kind-named _ l fs gs h = absurd h

pub first-only : (f : Field) (fs gs : Fields) → HasIdentifier (f then fs) → HasIdentifier (f then gs) × (name_in (f then gs) ≡ name_in (f then fs))
first-only missing fs gs h = (tt, refl)
first-only (one t) fs gs h = (h, refl)
first-only (many ts) fs gs h = (tt, refl)
first-only (statements ts) fs gs h = (tt, refl)

not-read : reads ≡ Binds Class → ⊥
not-read e = absurd (cc e)

module _ (R : Site → Ledger → Spot → Ledger → Spot → Type 0) (law : Lawful R) (writes : Writes R) where
  mutual
    pub recalled : {n : Site} {s s' : Ledger} {t u : Open} → Step R n s t s' u → Recalled (whole_in s) (whole_in s')
    recalled (acts {n = n} {s = s} {s' = s'} t u h) = record { freer = writes.freer n s s' (at_node t) (at_node u) h; same = writes.same_called n s s' (at_node t) (at_node u) h }
    recalled (inside h) = recalled-in h

    pub recalled-in : {c : ℕ → Site} {s s' : Ledger} {fs gs : OpenFields} → FieldsStep R c s fs s' gs → Recalled (whole_in s) (whole_in s')
    recalled-in (in_first h) = recalled-by h
    recalled-in (in_later h) = recalled-in h

    pub recalled-by : {n : Site} {s s' : Ledger} {f g : OpenField} → FieldStep R n s f s' g → Recalled (whole_in s) (whole_in s')
    recalled-by (in_child h) = recalled h
    recalled-by (in_children h) = recalled-all h
    recalled-by (in_body e y y' h) = recalled h
    recalled-by (in_list d e h) = recalled-all h
    recalled-by (in_target e h) = recalled-all h
    recalled-by (in_program e h) = recalled-all h
    recalled-by (acts_on_body {n = n} {s = s} {s' = s'} {p = p} t u h) = record { freer = writes.freer n s s' (at_body p t) (at_node u) h; same = writes.same_called n s s' (at_body p t) (at_node u) h }
    recalled-by (acts_on_list {n = n} {s = s} {s' = s'} {p = p} {q = q} {x = x} {y = y} {a = a} {b = b} ts us h) = record { freer = writes.freer n s s' (at_list p x a ts) (at_list q y b us) h; same = writes.same_called n s s' (at_list p x a ts) (at_list q y b us) h }

    pub recalled-all : {n : Site} {s s' : Ledger} {ts us : OpenTrees} → TreesStep R n s ts s' us → Recalled (whole_in s) (whole_in s')
    recalled-all (in_head h) = recalled h
    recalled-all (in_tail h) = recalled-all h
    recalled-all (in_flanked h) = recalled h
    recalled-all (after_flanked h) = recalled-all h
    recalled-all (flanks {n = n} {s = s} {s' = s'} {bs = bs} {cs = cs} t u h) = record { freer = writes.freer n s s' (at_node t) (at_beside bs u cs) h; same = writes.same_called n s s' (at_node t) (at_beside bs u cs) h }
    recalled-all (acts_on_flanked {n = n} {s = s} {s' = s'} {bs = bs} {cs = cs} t us h) = record { freer = writes.freer n s s' (at_beside bs t cs) (at_trees us) h; same = writes.same_called n s s' (at_beside bs t cs) (at_trees us) h }

  acted-named : (n : Site) (s s' : Ledger) (k : AstType) (l : Label) (fs gs : Fields) (u : Tree) → n.role ≡ Binds Class → R n s (at_node (node k l fs)) s' (at_node u) → IsIdentifier (node k l gs) → StillNamed (node k l gs) u
  acted-named n s s' Identifier l fs gs u e h d = absurd (writes.no_names n s s' l fs (at_node u) e h)
  acted-named n s s' _ l fs gs u e h d = absurd d

  acted : (n : Site) (s s' : Ledger) (t u : Tree) → n.role ≡ Binds Class → R n s (at_node t) s' (at_node u) → IsIdentifier (finished (opened t)) → StillNamed (finished (opened t)) u
  acted n s s' (node k l fs) u e h d = acted-named n s s' k l fs (finished_fields (opened_fields (is_body k) fs)) u e h d

  still-named : {n : Site} {s s' : Ledger} {t u : Open} → Step R n s t s' u → n.role ≡ Binds Class → IsIdentifier (finished t) → StillNamed (finished t) (finished u)
  still-named (acts {n = n} {s = s} {s' = s'} t u h) e d = subst (λ (z : Tree). StillNamed (finished (opened t)) z) (sym (finished-opened u)) (acted n s s' t u e h d)
  still-named (inside {k = k} {l = l} {fs = fs} {gs = gs} h) e d = kind-named k l (finished_fields fs) (finished_fields gs) d

  first-named : {n : Site} {s s' : Ledger} {f g : OpenField} → FieldStep R n s f s' g → n.role ≡ Binds Class → (fs : Fields) → HasIdentifier (finished_field f then fs) → HasIdentifier (finished_field g then fs) × (name_in (finished_field g then fs) ≡ name_in (finished_field f then fs))
  first-named (in_child h) e fs d = let k = still-named h e d in (k.still, k.text)
  first-named (in_children h) e fs d = (tt, refl)
  first-named (in_body e' y y' h) e fs d = absurd (not-read (sym e' ∙ e))
  first-named (in_list a b h) e fs d = (tt, refl)
  first-named (in_target a h) e fs d = (tt, refl)
  first-named (in_program a h) e fs d = (tt, refl)
  first-named (acts_on_body {n = n} {s = s} {s' = s'} {p = p} t u h) e fs d =
      let found = law.at_bodies n s s' p t u h in
      let same : one (written_body p (finished (opened t))) ≡ one (finished (opened u)) = ap (λ a. one (written_body p a)) (finished-opened t) ∙ ap (λ a. one a) (found.1 ∙ sym (finished-opened u)) in
      subst (λ (z : Field). HasIdentifier (z then fs) × (name_in (z then fs) ≡ name_in (one (written_body p (finished (opened t))) then fs))) same (d, refl)
  first-named (acts_on_list ts us h) e fs d = (tt, refl)

  name-kept : {c : ℕ → Site} {s s' : Ledger} {fs gs : OpenFields} → FieldsStep R c s fs s' gs → (c zero).role ≡ Binds Class → HasIdentifier (finished_fields fs) → HasIdentifier (finished_fields gs) × (name_in (finished_fields gs) ≡ name_in (finished_fields fs))
  name-kept (in_first {fs = fs} h) e d = first-named h e (finished_fields fs) d
  name-kept (in_later {f = f} {fs = fs} {gs = gs} h) e d = first-only (finished_field f) (finished_fields fs) (finished_fields gs) d

  -- STEPS

  module _ (q : Text → Option ℕ → Bool) where
    own-passed : (n : Site) (s s' : Ledger) (k : AstType) (l : Label) (fs gs : OpenFields) → FieldsStep R (site_in n k l fs) s fs s' gs → OwnPasses q k l (finished_fields fs) → OwnPasses q k l (finished_fields gs)
    own-passed n s s' Identifier l fs gs h d = d
    own-passed n s s' ClassDeclaration l fs gs h d = let k = name-kept h refl d.0 in (k.0, (λ i. q (k.1 i) (symbol_of l)) ∙ d.1)
    own-passed n s s' ClassExpression l fs gs h d = let k = name-kept h refl d.0 in (k.0, (λ i. q (k.1 i) (symbol_of l)) ∙ d.1)
    own-passed n s s' _ l fs gs h d = d

    mutual
      pub passed : {n : Site} {s s' : Ledger} {t u : Open} → Step R n s t s' u → Allows q (whole_in s) (whole_in s') → LedgerPasses q s → Passes q (finished t) → Passes q (finished u) × LedgerPasses q s'
      passed (acts {n = n} {s = s} {s' = s'} t u h) a b d =
          let k = writes.names q n s s' t u a b h (subst (λ (z : Tree). Passes q z) (finished-opened t) d) in
          (subst (λ (z : Tree). Passes q z) (sym (finished-opened u)) k.0, k.1)
      passed (inside {n = n} {s = s} {s' = s'} {k = k} {l = l} {fs = fs} {gs = gs} h) a b d = let m = passed-in h a b d.1 in ((own-passed n s s' k l fs gs h d.0, m.0), m.1)

      passed-in : {c : ℕ → Site} {s s' : Ledger} {fs gs : OpenFields} → FieldsStep R c s fs s' gs → Allows q (whole_in s) (whole_in s') → LedgerPasses q s → PassesIn q (finished_fields fs) → PassesIn q (finished_fields gs) × LedgerPasses q s'
      passed-in (in_first h) a b d = let k = passed-by h a b d.0 in ((k.0, d.1), k.1)
      passed-in (in_later h) a b d = let k = passed-in h a b d.1 in ((d.0, k.0), k.1)

      pub passed-by : {n : Site} {s s' : Ledger} {f g : OpenField} → FieldStep R n s f s' g → Allows q (whole_in s) (whole_in s') → LedgerPasses q s → PassesBy q (finished_field f) → PassesBy q (finished_field g) × LedgerPasses q s'
      passed-by (in_child h) a b d = passed h a b d
      passed-by (in_children h) a b d = passed-all h a b d
      passed-by (in_body {p = p} {q = q'} {t = t} {u = u} e y y' h) a b d =
          let parts = body-passes q p.vars p.lets (finished t) d in
          let k = passed h a (record { pending = record { vars = parts.0.0; lets = parts.0.1 }; this = b.this; top = b.top }) parts.1 in
          (passes-body q q'.vars q'.lets (finished u) k.1.pending.vars k.1.pending.lets k.0, record { pending = b.pending; this = k.1.this; top = k.1.top })
      passed-by (in_list {p = p} {q = p'} {y = y} {b = top} {ts = ts} {us = us} e f h) a b d =
          let parts = whole-passes q p y top (finished_trees ts) d in
          let k = passed-all h a (record { pending = parts.0.0; this = b.this; top = b.top }) parts.1 in
          (passes-whole q p' y top (finished_trees us) k.1.pending parts.0.1 parts.0.2 k.0, record { pending = b.pending; this = k.1.this; top = k.1.top })
      passed-by (in_target {p = p} {q = p'} {y = y} {y' = y'} {b = top} {ts = ts} {us = us} e h) a b d =
          let parts = whole-passes q p y top (finished_trees ts) d in
          let k = passed-all h a (record { pending = parts.0.0; this = parts.0.1; top = b.top }) parts.1 in
          (passes-whole q p' y' top (finished_trees us) k.1.pending k.1.this parts.0.2 k.0, record { pending = b.pending; this = b.this; top = k.1.top })
      passed-by (in_program {p = p} {q = p'} {y = y} {y' = y'} {b = top} {b' = top'} {ts = ts} {us = us} e h) a b d =
          let parts = whole-passes q p y top (finished_trees ts) d in
          let k = passed-all h a (record { pending = parts.0.0; this = parts.0.1; top = parts.0.2 }) parts.1 in
          (passes-whole q p' y' top' (finished_trees us) k.1.pending k.1.this k.1.top k.0, record { pending = b.pending; this = b.this; top = b.top })
      passed-by (acts_on_body {n = n} {s = s} {s' = s'} {p = p} t u h) a b d =
          let found = law.at_bodies n s s' p t u h in
          (subst (λ (z : Tree). Passes q z) (ap (λ z. written_body p z) (finished-opened t) ∙ found.1 ∙ sym (finished-opened u)) d, subst (λ (z : Ledger). LedgerPasses q z) found.0 b)
      passed-by (acts_on_list {n = n} {s = s} {s' = s'} {p = p} {q = p'} {x = x} {y = y} {a = top} {b = top'} ts us h) a b d =
          let k = writes.names_in_lists q n s s' p p' x y top top' ts us a b h (subst (λ (z : Trees). PassesAll q (whole_list p x top z)) (finished-trees ts) d) in
          (subst (λ (z : Trees). PassesAll q (whole_list p' y top' z)) (sym (finished-trees us)) k.0, k.1)

      pub passed-all : {n : Site} {s s' : Ledger} {ts us : OpenTrees} → TreesStep R n s ts s' us → Allows q (whole_in s) (whole_in s') → LedgerPasses q s → PassesAll q (finished_trees ts) → PassesAll q (finished_trees us) × LedgerPasses q s'
      passed-all (in_head h) a b d = let k = passed h a b d.0 in ((k.0, d.1), k.1)
      passed-all (in_tail h) a b d = let k = passed-all h a b d.1 in ((d.0, k.0), k.1)
      passed-all (in_flanked {bs = bs} {cs = cs} {t = t} {u = u} {ts = ts} h) a b d =
          let parts = flanks-pass q bs cs (finished t) (finished_trees ts) d in
          let k = passed h a b parts.1.0 in
          (passes-flanks q bs cs (finished u) (finished_trees ts) parts.0.0 k.0 parts.0.1 parts.1.1, k.1)
      passed-all (after_flanked {bs = bs} {cs = cs} {t = t} {ts = ts} {us = us} h) a b d =
          let parts = flanks-pass q bs cs (finished t) (finished_trees ts) d in
          let k = passed-all h a b parts.1.1 in
          (passes-flanks q bs cs (finished t) (finished_trees us) parts.0.0 parts.1.0 parts.0.1 k.0, k.1)
      passed-all (flanks {n = n} {s = s} {s' = s'} {bs = bs} {cs = cs} {ts = ts} t u h) a b d =
          let k = writes.names_beside q n s s' t u bs cs a b h (subst (λ (z : Tree). Passes q z) (finished-opened t) d.0) in
          let parts = flanks-pass q bs cs u empty k.0 in
          (passes-flanks q bs cs (finished (opened u)) (finished_trees ts) parts.0.0 (subst (λ (z : Tree). Passes q z) (sym (finished-opened u)) parts.1.0) parts.0.1 d.1, k.1)
      passed-all (acts_on_flanked {n = n} {s = s} {s' = s'} {bs = bs} {cs = cs} {ts = ts} t us h) a b d =
          let found = law.unflanking n s s' t bs cs us h in
          let same : flanks_with bs (finished (opened t)) cs (finished_trees ts) ≡ finished_trees (followed_by (opened_trees us) ts) = (λ i. flanks_with bs (finished-opened t i) cs (finished_trees ts)) ∙ sym (flanks-rest bs cs t (finished_trees ts)) ∙ (λ i. joined_trees (found.1 i) (finished_trees ts)) ∙ sym (finished-followed us ts) in
          (subst (λ (z : Trees). PassesAll q z) same d, subst (λ (z : Ledger). LedgerPasses q z) found.0 b)
