-- A node with its hooks and its fields, at a place that may be the body of an arrow.
use Rattle.es_changes.specs.Conditions.{holds_before}
use Rattle.std.proofs.Common.{◌≡◌, ◌∙◌, ◌||◌, refl, sym, ap, subst, ℕ, suc, length, [], ◌∷◌, Bool, true, false, Option, Some, None}
use Rattle.std.specs.Prelude.{not, cond, ◌&&◌, if◌then◌else◌}
use Rattle.es_tree.specs.Tree.{Tree, node, Label, Fields, one}
use Rattle.es_tree.specs.Walks.{any_in_fields, any_node}
use Rattle.es_tree.specs.Words.{Text}
use Rattle.es_tree.specs.declared.ast_type.AstType.{AstType}
use Rattle.es_tree.specs.declared.ast_type.AstType.TheVariants.{FunctionBody}
use Rattle.es_tree.specs.declared.options.EnvOptions.{EnvOptions}
use Rattle.es_tree.specs.declared.table.Sort.TheVariants.{ArrowFunctionBody as s-ArrowFunctionBody, Expression as s-Expression}
use Rattle.es_resolution.specs.Seen.{seen}
use Rattle.es_steps.specs.Open.{OpenFields, body, child, finished_fields, is_body, is_statement_body, nothing_pending, opened, opened_field, opened_fields}
use Rattle.es_steps.specs.Steps.{FieldStep, FieldsStep, Ledger, Site as Place, Spot, Step, Steps, site_in, site_in_body}
use Rattle.es_steps.specs.Steps.Steps.{goes, stays}
use Rattle.es_steps.proofs.Opened.{finished-fields}
use Rattle.es_visit.specs.declared.hook.Hook.{Hook}
use Rattle.es_changes.specs.Changes.{AsBody, Kept}
use Rattle.es_changes.specs.Fits.{Fits, FitsBy}
use Rattle.es_changes.specs.Laws.{SamePlace}
use Rattle.es_changes.specs.Moments.{Moment, ledger_at, ledger_with, top, with_pair}
use Rattle.es_changes.proofs.BodyLaws.{body-laws}
use Rattle.es_changes.proofs.FieldLaws.{same-place-then}
use Rattle.es_changes.proofs.InField.{field-laws}
use Rattle.es_changes.proofs.StepRows.{steps-trans}
use Rattle.es_changes.proofs.StillFits.{still-fits}
use Rattle.es_traverse.specs.Bodies.{BodiesStandIn}
use Rattle.es_traverse.specs.Laws.{ExitedBody, IsLawful, IsQuiet, IsStable, Profile, removed_by}
use Rattle.es_traverse.specs.Sites.{Tells}
use Rattle.es_traverse.specs.Visits.{EnteredNode, ExitedNode, Visited, VisitedAt, VisitedBody, VisitedFields, opens_at}
use Rattle.es_traverse.specs.declared.site.Site.{Site}
use Rattle.es_traverse.specs.declared.site.Site.TheVariants.{ArrowBody}
use Rattle.es_traverse.proofs.Bodies.{fields-stand, opened-fields-stand}
use Rattle.es_traverse.proofs.Kept.{opens-options, opens-seen, same-place}
use Rattle.es_traverse.proofs.Outward.{carried-along}
use Rattle.es_traverse.proofs.Pairs.{paired, paired-fits}

-- NO CONSTRUCT

module _ {R : Place → Ledger → Spot → Ledger → Spot → Type 0} (constructs : AstType → Label → Fields → Bool) (stable : IsStable R constructs) (n : Place) (k : AstType) (l : Label) (first : OpenFields) where
  stable-row : {s s' : Ledger} {fs gs : OpenFields} → Steps (FieldsStep R (site_in n k l first)) s fs s' gs → BodiesStandIn (is_body k) fs → constructs k l (finished_fields fs) ≡ false → constructs k l (finished_fields gs) ≡ false
  stable-row stays stand e = e
  stable-row (goes r rs) stand e = stable-row rs (fields-stand r (is_body k) stand) (stable n _ _ k l first _ _ stand r e)

  still-none : {s s' : Ledger} (fs gs : Fields) → Steps (FieldsStep R (site_in n k l first)) s (opened_fields (is_body k) fs) s' (opened_fields (is_body k) gs) → constructs k l fs ≡ false → constructs k l gs ≡ false
  still-none fs gs row e =
      subst (λ xs. constructs k l xs ≡ false) (finished-fields (is_body k) gs) (stable-row row (opened-fields-stand (is_body k) fs) (subst (λ xs. constructs k l xs ≡ false) (sym (finished-fields (is_body k) fs)) e))

none-of : (x y : Bool) → x ≡ false → y ≡ false → (x || y) ≡ false
none-of x y e f = rw (e, f)

-- AT A SITE where the node fits

module _ (p : Profile) (keeps : Bool) (law : IsLawful p) (c : Site) {a b d e : Moment} (t : Tree) (k : AstType) (l : Label) (fs gs : Fields) (v : Tree) (place : SamePlace a b) (place' : SamePlace b d) (x : EnteredNode p c a t b (node k l fs)) (y : VisitedFields p k l b fs d gs) (z : ExitedNode p keeps c d (node k l gs) e v) (n : Place) (tells : Tells c n) (f : Fits a n t) (known : (holds_before p.conditions) n t) where
  fits-inside : Fits b n (node k l fs)
  fits-inside = (still-fits p.rule law.rule).tree a b n t (node k l fs) place f (x.stepped n tells f known)

  inside : Steps (Step p.rule n) (ledger_at b) (opened (node k l fs)) (ledger_at d) (opened (node k l gs))
  inside = y.stepped n fits-inside (x.leaves n tells f known)

  -- what the exit hooks count on is known of the node after the visit of what stands inside it
  counted-after : p.counts_after n (node k l gs) ≡ true
  counted-after = carried-along p law n (node k l fs) (node k l gs) inside (carried-along p law n t (node k l fs) (x.stepped n tells f known) (law.outward.known n t known))

  -- steps lead from the node to what its exit hooks leave
  reached : Steps (Step p.rule n) (ledger_at a) (opened t) (ledger_at z.moment) (opened z.tree)
  reached = steps-trans (x.stepped n tells f known) (steps-trans inside (z.stepped n ((still-fits p.rule law.rule).tree b d n (node k l fs) (node k l gs) place' fits-inside inside) counted-after))

  left-none : (h : Option Hook) → any_node (removed_by p h) v ≡ false
  left-none None = z.cleared (y.free n fits-inside (x.leaves n tells f known) None)
  left-none (Some h) =
      let after = x.leaves n tells f known in
      z.none (p.constructs h) (λ w own. law.own h w own)
      (none-of (p.constructs h k l gs) (any_in_fields (p.constructs h) gs)
      (still-none (p.constructs h) (law.stable h) n k l (opened_fields (is_body k) fs) fs gs (y.row n fits-inside after) (x.cleared n tells f known h))
      (y.free n fits-inside after (Some h)))

-- AT A PLACE THAT IS NO BODY

module _ (p : Profile) (keeps : Bool) (law : IsLawful p) (c : Site) {a b d e : Moment} (t : Tree) (k : AstType) (l : Label) (fs gs : Fields) (v : Tree) (place : SamePlace a b) (place' : SamePlace b d) (x : EnteredNode p c a t b (node k l fs)) (y : VisitedFields p k l b fs d gs) (z : ExitedNode p keeps c d (node k l gs) e v) where
  visited-plain : (v ≡ z.tree) × (e ≡ z.moment) → Visited p c a t e v
  visited-plain last = record {
    stepped = λ n tells f known. subst (λ (m : Moment). Steps (Step p.rule n) (ledger_at a) (opened t) (ledger_at m) (opened v)) (sym last.1)
        (subst (λ (u : Tree). Steps (Step p.rule n) (ledger_at a) (opened t) (ledger_at z.moment) (opened u)) (sym last.0) (reached p keeps law c t k l fs gs v place place' x y z n tells f known));
    free = λ n tells f known. left-none p keeps law c t k l fs gs v place place' x y z n tells f known;
  }

-- AS THE BODY OF AN ARROW

pub no-slot-body : (a : Moment) (n : Place) (t : Tree) → FitsBy a n true (one t) → Tells ArrowBody n
no-slot-body a n t f = record {
  slot = λ s.
      let form = f.holds.at_one t f.formed in
      let e : s-Expression ≡ s-ArrowFunctionBody = sym (form.slot s) ∙ form.arrow refl in
      absurd (cc e);
  leads = λ e. absurd (cc e);
}

-- so inside it
pub told-inside : (n : Place) (t : Tree) → Tells ArrowBody n → Tells ArrowBody (site_in_body n nothing_pending t)
told-inside n t x = record { slot = x.slot; leads = x.leads }

pub same-body : (k : AstType) (l : Label) (fs gs : Fields) → is_statement_body (node k l gs) ≡ is_statement_body (node k l fs)
same-body FunctionBody l fs gs = refl
same-body _ l fs gs = refl

not-opened : (keeps : Bool) → (keeps && false) ≡ false
not-opened true = refl
not-opened false = refl

-- a body that is an expression, once it is left: what is pending for it is written, or nothing was
closed-body : (p : Profile) → IsLawful p → (keeps : Bool) (a e m : Moment) (t u v : Tree) (n : Place) → is_statement_body t ≡ false → is_statement_body u ≡ false → FitsBy a n true (one t) → SamePlace (paired keeps a) m → IsQuiet keeps a.lists → IsQuiet keeps e.lists →
    Steps (Step p.rule (site_in_body n nothing_pending t)) (ledger_at (paired keeps a)) (opened t) (ledger_at m) (opened u) → ExitedBody p keeps m u e v → Steps (FieldStep p.rule n) (ledger_at a) (body nothing_pending (opened t)) (ledger_at e) (opened_field true (one v))
closed-body p law true a e m t u v n is is' f place quiet quiet' inside last =
    let closed = last.closed (ap not is') in
    let row = (body-laws p.rule law.rule).steps a m n t u is f place inside (top a.lists) in
    subst (λ q. Steps (FieldStep p.rule n) (ledger_at a) (body nothing_pending (opened t)) (ledger_with q e) (opened_field true (one v))) (sym (ap top (closed.1 ∙ place.level.outer))) (steps-trans row.0 (closed.0 n row.1 (top a.lists)))
closed-body p law false a e m t u v n is is' f place quiet quiet' inside last =
    let same = last.same refl in
    let after : m.lists ≡ nothing_pending ∷ [] = sym (ap (λ (x : Moment). x.lists) same.1) ∙ quiet' refl in
    let lists : m.lists ≡ a.lists = after ∙ sym (quiet refl) in
    let around : SamePlace (with_pair a) (with_pair m) = record { level = record { deep = ap (λ ps. suc (length ps)) lists; outer = lists }; around = place.around } in
    let first : Steps (Step p.rule (site_in_body n nothing_pending t)) (ledger_with nothing_pending a) (opened t) (ledger_at m) (opened u) = subst (λ q. Steps (Step p.rule (site_in_body n nothing_pending t)) (ledger_with q a) (opened t) (ledger_at m) (opened u)) (ap top (quiet refl)) inside in
    let steps : Steps (Step p.rule (site_in_body n nothing_pending t)) (ledger_with nothing_pending a) (opened t) (ledger_with nothing_pending m) (opened u) = subst (λ q. Steps (Step p.rule (site_in_body n nothing_pending t)) (ledger_with nothing_pending a) (opened t) (ledger_with q m) (opened u)) (ap top after) first in
    let row : Steps (FieldStep p.rule n) (ledger_at a) (body nothing_pending (opened t)) (ledger_with (top a.lists) m) (body nothing_pending (opened u)) = ((body-laws p.rule law.rule).steps a (with_pair m) n t u is f around steps (top a.lists)).0 in
    let here : Steps (FieldStep p.rule n) (ledger_at a) (body nothing_pending (opened t)) (ledger_at m) (body nothing_pending (opened u)) = subst (λ q. Steps (FieldStep p.rule n) (ledger_at a) (body nothing_pending (opened t)) (ledger_with q m) (body nothing_pending (opened u))) (sym (ap top lists)) row in
    let left : Steps (FieldStep p.rule n) (ledger_at a) (body nothing_pending (opened t)) (ledger_at m) (opened_field true (one u)) = subst (λ (q : Bool). Steps (FieldStep p.rule n) (ledger_at a) (body nothing_pending (opened t)) (ledger_at m) (if q then child (opened u) else body nothing_pending (opened u))) (sym is') here in
    subst (λ (x : Moment). Steps (FieldStep p.rule n) (ledger_at a) (body nothing_pending (opened t)) (ledger_at x) (opened_field true (one v))) (sym same.1)
    (subst (λ (w : Tree). Steps (FieldStep p.rule n) (ledger_at a) (body nothing_pending (opened t)) (ledger_at m) (opened_field true (one w))) (sym same.0) left)

module _ (p : Profile) (keeps : Bool) (law : IsLawful p) (a a' : Moment) {b d e : Moment} (t : Tree) (k : AstType) (l : Label) (fs gs : Fields) (v : Tree) (place : SamePlace a' b) (place' : SamePlace b d) (x : EnteredNode p ArrowBody a' t b (node k l fs)) (y : VisitedFields p k l b fs d gs) (z : ExitedNode p keeps ArrowBody d (node k l gs) e v) where
  stays-body : is_statement_body z.tree ≡ is_statement_body t
  stays-body = z.body ∙ same-body k l fs gs ∙ x.body

  left-alone : is_statement_body t ≡ true → (keeps && not (is_statement_body z.tree)) ≡ false
  left-alone is = ap (λ o. keeps && not o) (stays-body ∙ is) ∙ not-opened keeps

  visited-statements : is_statement_body t ≡ true → a' ≡ a → VisitedBody p a t e v
  visited-statements is opens =
      let first : SamePlace a b = subst (λ m. SamePlace m b) opens place in
      let enter : EnteredNode p ArrowBody a t b (node k l fs) = subst (λ m. EnteredNode p ArrowBody m t b (node k l fs)) opens x in
      let last = z.last.same (left-alone is) in
      let laws = field-laws p.rule law.rule in
      let here = λ (n : Place) (known : AsBody (holds_before p.conditions) n (is_statement_body t) t). subst (λ o. AsBody (holds_before p.conditions) n o t) is known in
      record {
        stepped = λ n f known.
            let fits = laws.statements_fit a n t is f in
            subst (λ (m : Moment). Steps (FieldStep p.rule n) (ledger_at a) (opened_field true (one t)) (ledger_at m) (opened_field true (one v))) (sym last.1)
            (subst (λ (u : Tree). Steps (FieldStep p.rule n) (ledger_at a) (opened_field true (one t)) (ledger_at z.moment) (opened_field true (one u))) (sym last.0)
            (laws.statements_step a z.moment n t z.tree is fits (reached p keeps law ArrowBody t k l fs gs v first place' enter y z n (no-slot-body a n t f) fits (here n known))));
        free = λ n f known. left-none p keeps law ArrowBody t k l fs gs v first place' enter y z n (no-slot-body a n t f) (laws.statements_fit a n t is f) (here n known);
      }

  visited-expression : IsQuiet keeps a.lists → IsQuiet keeps e.lists → is_statement_body t ≡ false → a' ≡ paired keeps a → VisitedBody p a t e v
  visited-expression quiet quiet' is opens =
      let first : SamePlace (paired keeps a) b = subst (λ m. SamePlace m b) opens place in
      let enter : EnteredNode p ArrowBody (paired keeps a) t b (node k l fs) = subst (λ m. EnteredNode p ArrowBody m t b (node k l fs)) opens x in
      let laws = body-laws p.rule law.rule in
      let here = λ (n : Place) (known : AsBody (holds_before p.conditions) n (is_statement_body t) t). subst (λ o. AsBody (holds_before p.conditions) n o t) is known in
      let all : SamePlace (paired keeps a) z.moment = same-place-then first (same-place-then place' z.place) in
      record {
        stepped = λ n f known.
            let site = site_in_body n nothing_pending t in
            let inside = reached p keeps law ArrowBody t k l fs gs v first place' enter y z site (told-inside n t (no-slot-body a n t f)) (paired-fits keeps a site t (laws.fits a n t is f)) (here n known) in
            subst (λ (q : Bool). Steps (FieldStep p.rule n) (ledger_at a) (if q then child (opened t) else body nothing_pending (opened t)) (ledger_at e) (opened_field true (one v))) (sym is)
            (closed-body p law keeps a e z.moment t z.tree v n is (stays-body ∙ is) f all quiet quiet' inside z.last);
        free = λ n f known. left-none p keeps law ArrowBody t k l fs gs v first place' enter y z (site_in_body n nothing_pending t) (told-inside n t (no-slot-body a n t f)) (paired-fits keeps a (site_in_body n nothing_pending t) t (laws.fits a n t is f)) (here n known);
      }

-- ANYWHERE

pub opened-pair : (keeps o : Bool) (a : Moment) → cond (keeps && not o) (with_pair a) a ≡ cond o a (paired keeps a)
opened-pair true true a = refl
opened-pair true false a = refl
opened-pair false true a = refl
opened-pair false false a = refl

-- the enter hooks of a node, its fields, and its exit hooks
pub visited-node : (p : Profile) (keeps : Bool) (c : Site) (a e : Moment) {b d : Moment} (t : Tree) (k : AstType) (l : Label) (fs gs : Fields) (v : Tree) → IsLawful p → IsQuiet keeps a.lists → IsQuiet keeps e.lists → SamePlace (opens_at c keeps t a) b → SamePlace b d →
    EnteredNode p c (opens_at c keeps t a) t b (node k l fs) → VisitedFields p k l b fs d gs → ExitedNode p keeps c d (node k l gs) e v → VisitedAt c p a t e v
visited-node p keeps ArrowBody a e t k l fs gs v law quiet quiet' place place' x y z = by (is_statement_body t) refl
  where
    by : (o : Bool) → is_statement_body t ≡ o → VisitedBody p a t e v
    by true is = visited-statements p keeps law a (opens_at ArrowBody keeps t a) t k l fs gs v place place' x y z is (opened-pair keeps (is_statement_body t) a ∙ ap (λ o. cond o a (paired keeps a)) is)
    by false is = visited-expression p keeps law a (opens_at ArrowBody keeps t a) t k l fs gs v place place' x y z quiet quiet' is (opened-pair keeps (is_statement_body t) a ∙ ap (λ o. cond o a (paired keeps a)) is)
visited-node p keeps c a e t k l fs gs v law quiet quiet' place place' x y z = visited-plain p keeps law c t k l fs gs v place place' x y z z.last

-- The same of what is seen of a tree, where each part has the profile of the moment before it. Of the kept facts only the place and the
-- options are asked for.
pub visited-seen : (p : EnvOptions → Profile) (keeps : Bool) (c : Site) (a e : Moment) {b d : Moment} {w s w' s' i j i' j' : ℕ} (t : Tree) (k : AstType) (l : Label) (fs gs : Fields) (v : Tree) → IsLawful (p a.options) → IsQuiet keeps a.lists → IsQuiet keeps e.lists →
    Kept (opens_at c keeps t a) w s b w' s' → Kept b i j d i' j' → (names : ℕ → Text → Option ℕ) →
    EnteredNode (p a.options) c (opens_at c keeps (seen names t) a) (seen names t) b (node k l fs) → VisitedFields (p b.options) k l b fs d gs → ExitedNode (p d.options) keeps c d (node k l gs) e v → VisitedAt c (p a.options) a (seen names t) e v
visited-seen q keeps c a e {b = b} {d = d} t k l fs gs v law quiet quiet' first inside names x y' z' =
    let at-first : b.options ≡ a.options = first.options ∙ opens-options c keeps t a in
    let y : VisitedFields (q a.options) k l b fs d gs = subst (λ o. VisitedFields (q o) k l b fs d gs) at-first y' in
    let z : ExitedNode (q a.options) keeps c d (node k l gs) e v = subst (λ o. ExitedNode (q o) keeps c d (node k l gs) e v) (inside.options ∙ at-first) z' in
    visited-node (q a.options) keeps c a e (seen names t) k l fs gs v law quiet quiet' (subst (λ m. SamePlace m b) (sym (opens-seen c keeps names t a)) (same-place first)) (same-place inside) x y z
