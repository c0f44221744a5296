-- Rows of steps inside the fields of a node, at the sites that the fields had first, are steps of the node, for rules that ask of the site no names;
-- and those in the body of an arrow that is an expression are steps of the field where it stands.
use Rattle.std.proofs.Common.{◌≡◌, ℕ, zero, suc, refl, ap, [], ◌∷◌}
use Rattle.std.specs.Prelude.{Bool, true, false, Option, is_some}
use Rattle.es_tree.specs.Ancestors.{ancestor}
use Rattle.es_tree.specs.Children.{child_at}
use Rattle.es_tree.specs.Tree.{Tree, Fields, Label, missing, one, ◌then◌}
use Rattle.es_tree.specs.Words.{Text}
use Rattle.es_tree.specs.declared.ast_type.AstType.{AstType}
use Rattle.es_resolution.specs.Declarations.{Bound}
use Rattle.es_resolution.proofs.Roles.{role-same}
use Rattle.es_semantic.specs.RolesOf.{reads, role_at}
use Rattle.es_semantic.specs.declared.place.Role.{Role}
use Rattle.es_steps.specs.Nodes.{word}
use Rattle.es_steps.specs.Open.{Additions, Open, OpenField, OpenFields, OpenTrees, Pending, body, child, children, finished, finished_field, finished_fields, gap, list, open_node, ◌and◌}
use Rattle.es_steps.specs.Sites.{AreAlike, IsLocal, StepsAreLocal}
use Rattle.es_steps.specs.Steps.{FieldStep, FieldsStep, IsExpression, Ledger, Site, Spot, Step, Steps, TreesStep, is_program_list, is_target, ledger, outline, site_in, site_in_body}
use Rattle.es_steps.specs.Steps.FieldStep.{acts_on_body, acts_on_list, in_body, in_child, in_children, in_list, in_program, in_target}
use Rattle.es_steps.specs.Steps.FieldsStep.{in_first, in_later}
use Rattle.es_steps.specs.Steps.Step.{inside}
use Rattle.es_steps.specs.Steps.Steps.{goes, stays}
use Rattle.es_steps.proofs.LocalSteps.{steps-local}
use Rattle.es_steps.proofs.Sites.{law_alike_proof}
use Rattle.es_steps.proofs.Taken.{pending_in, this_in, top_in, whole_in}

-- no name at all
abbrev pub no_names : Text → Bool
no_names x = false

-- SITES STAY where no name is asked for: no field comes or goes

module _ (R : Site → Ledger → Spot → Ledger → Spot → Type 0) where
  same-field : {n : Site} {s s' : Ledger} {f g : OpenField} (fs : OpenFields) → FieldStep R n s f s' g → outline (g and fs) ≡ outline (f and fs)
  same-field fs (in_child h) = refl
  same-field fs (in_children h) = refl
  same-field fs (in_body e x y h) = refl
  same-field fs (in_list e d h) = refl
  same-field fs (in_target e h) = refl
  same-field fs (in_program e h) = refl
  same-field fs (acts_on_list ts us h) = refl
  same-field fs (acts_on_body t u h) = refl

  with-first : (f : OpenField) (fs gs : OpenFields) → outline gs ≡ outline fs → outline (f and gs) ≡ outline (f and fs)
  with-first gap fs gs e = ap (λ z. missing then z) e
  with-first (child t) fs gs e = ap (λ z. one (word []) then z) e
  with-first (body p t) fs gs e = ap (λ z. one (word []) then z) e
  with-first (children ts) fs gs e = ap (λ z. one (word []) then z) e
  with-first (list p x a ts) fs gs e = ap (λ z. one (word []) then z) e

  same-outline : {c : ℕ → Site} {s s' : Ledger} {fs gs : OpenFields} → FieldsStep R c s fs s' gs → outline gs ≡ outline fs
  same-outline (in_first {fs = fs} h) = same-field fs h
  same-outline (in_later {f = f} {fs = fs} {gs = gs} h) = with-first f fs gs (same-outline h)

  same-child : {n : Site} {s s' : Ledger} {f g : OpenField} (fs : Fields) → FieldStep R n s f s' g → (i : ℕ) → is_some (child_at i (finished_field g then fs)) ≡ is_some (child_at i (finished_field f then fs))
  same-child fs (in_child h) zero = refl
  same-child fs (in_children h) zero = refl
  same-child fs (in_body e x y h) zero = refl
  same-child fs (in_list e d h) zero = refl
  same-child fs (in_target e h) zero = refl
  same-child fs (in_program e h) zero = refl
  same-child fs (acts_on_list ts us h) zero = refl
  same-child fs (acts_on_body t u h) zero = refl
  same-child fs h (suc i) = refl

  same-children : {c : ℕ → Site} {s s' : Ledger} {fs gs : OpenFields} → FieldsStep R c s fs s' gs → (i : ℕ) → is_some (child_at i (finished_fields gs)) ≡ is_some (child_at i (finished_fields fs))
  same-children (in_first {fs = fs} h) i = same-child (finished_fields fs) h i
  same-children (in_later h) zero = refl
  same-children (in_later h) (suc i) = same-children h i

  pub same-roles : {c : ℕ → Site} {s s' : Ledger} {fs gs : OpenFields} (r : Role) (k : AstType) (l : Label) → FieldsStep R c s fs s' gs → role_at r k l (finished_fields gs) ≡ role_at r k l (finished_fields fs)
  same-roles {fs = fs} {gs = gs} r k l h = role-same r k l (finished_fields fs) (finished_fields gs) (same-children h)

  sites-alike : {c : ℕ → Site} {s s' : Ledger} {fs gs : OpenFields} (n : Site) (k : AstType) (l : Label) → FieldsStep R c s fs s' gs → (i : ℕ) → AreAlike no_names (site_in n k l fs i) (site_in n k l gs i)
  sites-alike n k l h i = record {
    need = refl;
    above = ap (λ z. ancestor k l z i 0 ∷ n.above) (same-outline h);
    role = λ j. same-roles n.role k l h j i;
    scope = λ x u. absurd (cc u);
    parameters = λ x u. absurd (cc u);
  }

-- sites that agree in all but names
alike-here : (n m : Site) → m.need ≡ n.need → m.above ≡ n.above → m.role ≡ n.role → AreAlike no_names n m
alike-here n m e d r = record { need = e; above = d; role = r; scope = λ x u. absurd (cc u); parameters = λ x u. absurd (cc u) }

-- LISTS: what is pending for the list around is of no matter inside

module _ (R : Site → Ledger → Spot → Ledger → Spot → Type 0) (n : Site) where
  pub list-row : is_target n.above ≡ false → is_program_list n.above ≡ false → (o : Pending) (y : Option Bound) (b : Additions) {s s' : Ledger} {ts us : OpenTrees} → Steps (TreesStep R n) s ts s' us →
      Steps (FieldStep R n) (ledger (whole_in s) o (this_in s) (top_in s)) (list (pending_in s) y b ts) (ledger (whole_in s') o (this_in s') (top_in s')) (list (pending_in s') y b us)
  list-row e d o y b stays = stays
  list-row e d o y b (goes {s = ledger w p x a} {s' = ledger w' q x' a'} h rest) = goes (in_list e d h) (list-row e d o y b rest)

  pub target-row : is_target n.above ≡ true → (o : Pending) (x : Option Bound) (b : Additions) {s s' : Ledger} {ts us : OpenTrees} → Steps (TreesStep R n) s ts s' us →
      Steps (FieldStep R n) (ledger (whole_in s) o x (top_in s)) (list (pending_in s) (this_in s) b ts) (ledger (whole_in s') o x (top_in s')) (list (pending_in s') (this_in s') b us)
  target-row e o x b stays = stays
  target-row e o x b (goes {s = ledger w p y a} {s' = ledger w' q y' a'} h rest) = goes (in_target e h) (target-row e o x b rest)

  pub program-row : is_program_list n.above ≡ true → (o : Pending) (x : Option Bound) (a : Additions) {s s' : Ledger} {ts us : OpenTrees} → Steps (TreesStep R n) s ts s' us →
      Steps (FieldStep R n) (ledger (whole_in s) o x a) (list (pending_in s) (this_in s) (top_in s) ts) (ledger (whole_in s') o x a) (list (pending_in s') (this_in s') (top_in s') us)
  program-row e o x a stays = stays
  program-row e o x a (goes {s = ledger w p y b} {s' = ledger w' q y' b'} h rest) = goes (in_program e h) (program-row e o x a rest)

-- FIELDS, where the rule asks for no names

module _ (R : Site → Ledger → Spot → Ledger → Spot → Type 0) (local : IsLocal (λ s. no_names) R) where
  anywhere : StepsAreLocal (λ w. no_names) R
  anywhere = steps-local (λ w. no_names) R local

  row-from : (n : Site) (k : AstType) (l : Label) (c : ℕ → Site) {s s' : Ledger} {fs gs : OpenFields} → ((i : ℕ) → AreAlike no_names (c i) (site_in n k l fs i)) → Steps (FieldsStep R c) s fs s' gs → Steps (Step R n) s (open_node k l fs) s' (open_node k l gs)
  row-from n k l c a stays = stays
  row-from n k l c a (goes {s = s} {s' = m} {t = fs} {u = xs} h rest) =
      goes (inside (anywhere.fields c (site_in n k l fs) s m fs xs a h))
      (row-from n k l c (λ i. (law_alike_proof no_names).transitive (c i) (site_in n k l fs i) (site_in n k l xs i) (a i) (sites-alike R n k l h i)) rest)

  -- steps in a row inside the fields of a node
  pub row-inside : (n : Site) (k : AstType) (l : Label) {s s' : Ledger} {fs gs : OpenFields} → Steps (FieldsStep R (site_in n k l fs)) s fs s' gs → Steps (Step R n) s (open_node k l fs) s' (open_node k l gs)
  row-inside n k l {fs = fs} h = row-from n k l (site_in n k l fs) (λ i. (law_alike_proof no_names).reflexive (site_in n k l fs i)) h

  -- BODIES of arrows that are expressions, where each step keeps something that makes it one

  module _ (n : Site) (role : n.role ≡ reads) (up : Pending) (tree : Tree) (Good : Open → Type 0) (after : (s s' : Ledger) (t u : Open) → Step R (site_in_body n up tree) s t s' u → Good t → Good u) (expression : (t : Open) → Good t → IsExpression (finished t)) where
    -- the site before the first step
    abbrev first : Site
    first = site_in_body n up tree

    pub body-row : (o : Pending) {s s' : Ledger} {t u : Open} → Steps (Step R first) s t s' u → Good t →
        Steps (FieldStep R n) (ledger (whole_in s) o (this_in s) (top_in s)) (body (pending_in s) t) (ledger (whole_in s') o (this_in s') (top_in s')) (body (pending_in s') u)
    body-row o stays good = stays
    body-row o (goes {s = ledger w p x a} {s' = ledger w' q x' a'} {t = t} {u = u} h rest) good =
        let still = after (ledger w p x a) (ledger w' q x' a') t u h good in
        let site = site_in_body n p (finished t) in
        let there : Step R site (ledger w p x a) t (ledger w' q x' a') u = anywhere.step first site (ledger w p x a) (ledger w' q x' a') t u (alike-here first site refl refl refl) h in
        goes (in_body role (expression t good) (expression u still) there) (body-row o rest still)
