-- Steps of a rule of which each leaves the sites of all others, and no name is made: one after the other they lead from the parts of a tree to what is
-- made of them, beside each name for `this` that is good.
use Rattle.std.proofs.Common.{◌≡◌, ◌∙◌, ℕ, zero, suc, refl, sym, subst}
use Rattle.std.specs.Prelude.{Bool, true, false, Option, None, if◌then◌else◌}
use Rattle.es_tree.specs.Tree.{Tree, node, Label, Fields, ◌then◌, Field, one, many, statements, Trees, ◌before◌, kind_of}
use Rattle.es_tree.specs.declared.ast_type.AstType.{AstType}
use Rattle.es_tree.specs.declared.ast_type.AstType.TheVariants.{FunctionBody}
use Rattle.es_semantic.specs.RolesOf.{reads}
use Rattle.es_resolution.specs.Declarations.{Bound, is_var_scope}
use Rattle.es_steps.specs.Open.{Additions, Pending, body, child, finished, is_body, is_statement_body, list, no_additions, nothing_pending, opened, opened_field, opened_fields, opened_trees}
use Rattle.es_steps.specs.Steps.{FieldStep, FieldsStep, IsExpression, Ledger, Site, Spot, Step, Steps, TreesStep, Whole, is_program_list, is_target, ledger, site_in_body}
use Rattle.es_steps.specs.Steps.FieldStep.{in_body, in_child, in_children, in_list, in_program, in_target}
use Rattle.es_steps.specs.Steps.FieldsStep.{in_first, in_later}
use Rattle.es_steps.specs.Steps.Spot.{at_node}
use Rattle.es_steps.specs.Steps.Step.{acts, inside}
use Rattle.es_steps.specs.Steps.Steps.{goes, stays}
use Rattle.es_steps.specs.Steps.TreesStep.{in_head, in_tail}
use Rattle.es_steps.proofs.Opened.{finished-opened}
use Rattle.es_pattern_moves.proofs.MovedInward.{sites}
use Rattle.es_constructor_this.proofs.SameSites.{SameField, SameFields, SameTree, SameTrees, fields-same, fields-then, first-same, head-same, later-same, many-same, node-same, one-same, sites-same, statements-same, tail-same}

-- one after the other
pub data Linked {X : Type 0} (S : X → X → Type 0) : X → X → Type 0 where
  ended : {x : X} → Linked S x x
  linked : {x y z : X} → S x y → Linked S y z → Linked S x z

pub linked-trans : {X : Type 0} {S : X → X → Type 0} {x y z : X} → Linked S x y → Linked S y z → Linked S x z
linked-trans ended b = b
linked-trans (linked h r) b = linked h (linked-trans r b)

pub linked-map : {X Y : Type 0} {S : X → X → Type 0} {T : Y → Y → Type 0} (f : X → Y) → ((x y : X) → S x y → T (f x) (f y)) → {x y : X} → Linked S x y → Linked T (f x) (f y)
linked-map f lift ended = ended
linked-map f lift (linked h r) = linked (lift _ _ h) (linked-map f lift r)

module _ (R : Site → Ledger → Spot → Ledger → Spot → Type 0) (w : Whole) (Good : Option Bound → Type 0) where
  -- steps that leave what is known of the whole, and what is pending
  abbrev Goes : {X : Type 0} → (Ledger → X → Ledger → X → Type 0) → X → X → Type 0
  Goes S x y = (q : Pending) (b : Option Bound) (a : Additions) → Good b → S (ledger w q b a) x (ledger w q b a) y

  pub record TreeLink (n : Site) (t u : Tree) : Type 0 where
    pub step : Goes (Step R n) (opened t) (opened u)
    pub same : SameTree t u

  pub record TreesLink (n : Site) (ts us : Trees) : Type 0 where
    pub step : Goes (TreesStep R n) (opened_trees ts) (opened_trees us)
    pub same : SameTrees ts us

  pub record FieldLink (n : Site) (v : Bool) (f g : Field) : Type 0 where
    pub step : Goes (FieldStep R n) (opened_field v f) (opened_field v g)
    pub same : SameField f g

  pub record FieldsLink (c : ℕ → Site) (bodies : ℕ → Bool) (fs gs : Fields) : Type 0 where
    pub step : Goes (FieldsStep R c) (opened_fields bodies fs) (opened_fields bodies gs)
    pub same : SameFields fs gs

  abbrev pub TreeLinks : Site → Tree → Tree → Type 0
  TreeLinks n t u = Linked (TreeLink n) t u

  abbrev pub TreesLinks : Site → Trees → Trees → Type 0
  TreesLinks n ts us = Linked (TreesLink n) ts us

  abbrev pub FieldLinks : Site → Bool → Field → Field → Type 0
  FieldLinks n v f g = Linked (FieldLink n v) f g

  abbrev pub FieldsLinks : (ℕ → Site) → (ℕ → Bool) → Fields → Fields → Type 0
  FieldsLinks c bodies fs gs = Linked (FieldsLink c bodies) fs gs

  -- one step at a node
  pub acts-there : (n : Site) (t u : Tree) → Goes (λ s x s' y. R n s x s' y) (at_node t) (at_node u) → SameTree t u → TreeLinks n t u
  acts-there n t u h same = linked (record { step = λ q b a good. acts t u (h q b a good); same = same }) ended

  -- THE STEPS that these are
  pub steps-of : {n : Site} {t u : Tree} → TreeLinks n t u → (q : Pending) (b : Option Bound) (a : Additions) → Good b → Steps (Step R n) (ledger w q b a) (opened t) (ledger w q b a) (opened u)
  steps-of ended q b a good = stays
  steps-of (linked h r) q b a good = goes (h.step q b a good) (steps-of r q b a good)

  -- LISTS

  pub head-links : (n : Site) (ts : Trees) {t u : Tree} → TreeLinks n t u → TreesLinks n (t before ts) (u before ts)
  head-links n ts h = linked-map (λ t. t before ts) (λ t u r. record { step = λ q b a good. in_head (r.step q b a good); same = head-same t u ts r.same }) h

  pub tail-links : (n : Site) (t : Tree) {ts us : Trees} → TreesLinks n ts us → TreesLinks n (t before ts) (t before us)
  tail-links n t h = linked-map (λ ts. t before ts) (λ ts us r. record { step = λ q b a good. in_tail (r.step q b a good); same = tail-same t ts us r.same }) h

  pub both-links : (n : Site) {t u : Tree} {ts us : Trees} → TreeLinks n t u → TreesLinks n ts us → TreesLinks n (t before ts) (u before us)
  both-links n {u = u} {ts = ts} h r = linked-trans (head-links n ts h) (tail-links n u r)

  -- FIELDS

  pub first-links : (c : ℕ → Site) (bodies : ℕ → Bool) (fs : Fields) {f g : Field} → FieldLinks (c zero) (bodies zero) f g → FieldsLinks c bodies (f then fs) (g then fs)
  first-links c bodies fs h = linked-map (λ f. f then fs) (λ f g r. record { step = λ q b a good. in_first (r.step q b a good); same = first-same f g fs r.same }) h

  pub later-links : (c : ℕ → Site) (bodies : ℕ → Bool) (f : Field) {fs gs : Fields} → FieldsLinks (λ i. c (suc i)) (λ i. bodies (suc i)) fs gs → FieldsLinks c bodies (f then fs) (f then gs)
  later-links c bodies f h = linked-map (λ fs. f then fs) (λ fs gs r. record { step = λ q b a good. in_later (r.step q b a good); same = later-same f fs gs r.same }) h

  pub all-links : (c : ℕ → Site) (bodies : ℕ → Bool) {f g : Field} {fs gs : Fields} → FieldLinks (c zero) (bodies zero) f g → FieldsLinks (λ i. c (suc i)) (λ i. bodies (suc i)) fs gs → FieldsLinks c bodies (f then fs) (g then gs)
  all-links c bodies {g = g} {fs = fs} h r = linked-trans (first-links c bodies fs h) (later-links c bodies g r)

  -- ONE FIELD: lists

  pub many-links : (n : Site) (v : Bool) {ts us : Trees} → TreesLinks n ts us → FieldLinks n v (many ts) (many us)
  many-links n true h = linked-map many (λ ts us r. record { step = λ q b a good. in_children (r.step q b a good); same = many-same ts us r.same }) h
  many-links n false h = linked-map many (λ ts us r. record { step = λ q b a good. in_children (r.step q b a good); same = many-same ts us r.same }) h

  module _ (n : Site) (own : is_target n.above ≡ true → Good None) (top : is_program_list n.above ≡ true → Good None) where
    list-step : (ts us : Trees) → TreesLink n ts us → (target whole : Bool) → is_target n.above ≡ target → is_program_list n.above ≡ whole → Goes (FieldStep R n) (list nothing_pending None no_additions (opened_trees ts)) (list nothing_pending None no_additions (opened_trees us))
    list-step ts us r true whole e d q b a good = in_target e (r.step nothing_pending None a (own e))
    list-step ts us r false true e d q b a good = in_program d (r.step nothing_pending None no_additions (top d))
    list-step ts us r false false e d q b a good = in_list e d (r.step nothing_pending b a good)

    pub statements-links : (v : Bool) {ts us : Trees} → TreesLinks n ts us → FieldLinks n v (statements ts) (statements us)
    statements-links true h = linked-map statements (λ ts us r. record { step = list-step ts us r (is_target n.above) (is_program_list n.above) refl refl; same = statements-same ts us r.same }) h
    statements-links false h = linked-map statements (λ ts us r. record { step = list-step ts us r (is_target n.above) (is_program_list n.above) refl refl; same = statements-same ts us r.same }) h

  -- one node
  pub child-links : (n : Site) {t u : Tree} → TreeLinks n t u → FieldLinks n false (one t) (one u)
  child-links n h = linked-map one (λ t u r. record { step = λ q b a good. in_child (r.step q b a good); same = one-same t u r.same }) h

  -- in a field that may be the body of an arrow: one of statements

  as-opened : (n : Site) (v : Bool) (t u : Tree) → is_statement_body t ≡ v → is_statement_body u ≡ v → Goes (FieldStep R n) (if v then child (opened t) else body nothing_pending (opened t)) (if v then child (opened u) else body nothing_pending (opened u)) → Goes (FieldStep R n) (opened_field true (one t)) (opened_field true (one u))
  as-opened n v t u e d h =
      subst (λ (x : Bool). Goes (FieldStep R n) (opened_field true (one t)) (if x then child (opened u) else body nothing_pending (opened u))) (sym d)
      (subst (λ (x : Bool). Goes (FieldStep R n) (if x then child (opened t) else body nothing_pending (opened t)) (if v then child (opened u) else body nothing_pending (opened u))) (sym e) h)

  pub body-links : (n : Site) {t u : Tree} → is_statement_body t ≡ true → TreeLinks n t u → FieldLinks n true (one t) (one u)
  body-links n e ended = ended
  body-links n e (linked {x = t} {y = u} h r) =
      let d : is_statement_body u ≡ true = h.same.bodied ∙ e in
      linked (record { step = as-opened n true t u e d (λ q b a good. in_child (h.step q b a good)); same = one-same t u h.same }) (body-links n d r)

  -- an expression

  expression-same : (t u : Tree) → SameTree t u → IsExpression t → IsExpression u
  expression-same t u h e = record { no_body = h.scope ∙ e.no_body; no_import = h.imports ∙ e.no_import; declares_nothing = λ v. h.declares v reads ∙ e.declares_nothing v }

  finished-expression : (t : Tree) → IsExpression t → IsExpression (finished (opened t))
  finished-expression t e = subst (λ (u : Tree). IsExpression u) (sym (finished-opened t)) e

  statement-scope : (t : Tree) → is_var_scope (kind_of t) ≡ false → is_statement_body t ≡ false
  statement-scope (node FunctionBody l fs) e = absurd (cc e)
  statement-scope (node _ l fs) e = refl

  pub value-links : (n : Site) (p : Tree) {t u : Tree} → n.role ≡ reads → IsExpression t → TreeLinks (site_in_body n nothing_pending p) t u → FieldLinks n true (one t) (one u)
  value-links n p role e ended = ended
  value-links n p role e (linked {x = t} {y = u} h r) =
      let d = expression-same t u h.same e in
      linked (record {
        step = as-opened n false t u (statement-scope t e.no_body) (statement-scope u d.no_body) (λ q b a good. in_body role (finished-expression t e) (finished-expression u d) (h.step nothing_pending b a good));
        same = one-same t u h.same;
      }) (value-links n p role d r)

  -- A NODE, where its fields become others at the sites that they had

  pub from-links : (n : Site) (k : AstType) (l : Label) (fs : Fields) {gs hs : Fields} → SameFields fs gs → FieldsLinks (sites n k l fs) (is_body k) gs hs → TreeLinks n (node k l gs) (node k l hs)
  from-links n k l fs same ended = ended
  from-links n k l fs same (linked {x = gs} {y = hs} h r) =
      let here : (i : ℕ) → sites n k l gs i ≡ sites n k l fs i = sites-same n k l fs gs same in
      linked (record {
        step = λ q b a good. inside (subst (λ (c : ℕ → Site). FieldsStep R c (ledger w q b a) (opened_fields (is_body k) gs) (ledger w q b a) (opened_fields (is_body k) hs)) (sym (λ j i. here i j)) (h.step q b a good));
        same = node-same k l gs hs h.same;
      }) (from-links n k l fs (fields-then fs gs hs same h.same) r)

  pub node-links : (n : Site) (k : AstType) (l : Label) {fs gs : Fields} → FieldsLinks (sites n k l fs) (is_body k) fs gs → TreeLinks n (node k l fs) (node k l gs)
  node-links n k l {fs = fs} h = from-links n k l fs (fields-same fs) h
