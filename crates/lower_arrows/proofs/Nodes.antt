-- What is left of a node whose fields were walked.
use Rattle.std.proofs.Common.{◌≡◌, ℕ, zero, suc, refl, sym, ap, subst, inr, [], ◌∷◌, true≢false}
use Rattle.std.specs.Prelude.{Bool, true, false, not, ◌&&◌, ◌||◌, Option, Some, None, codes, if◌then◌else◌}
use Rattle.std.proofs.lemmas.Bool.{and_parts}
use Rattle.es_tree.specs.Constructs.{is_arrow}
use Rattle.es_tree.specs.Fresh.{text_base}
use Rattle.es_tree.specs.HasForm.{fields_form, has_form, same_type, trees_form}
use Rattle.es_tree.specs.Attributes.{child_entries}
use Rattle.es_tree.specs.Table.{rest_sort}
use Rattle.es_tree.specs.Tree.{Tree, node, Label, Fields, done, ◌then◌, Field, missing, one, many, statements, Trees, empty, ◌before◌}
use Rattle.es_tree.specs.Walks.{any_in_field, any_in_fields, any_node}
use Rattle.es_tree.specs.declared.ast_type.AstType.{AstType}
use Rattle.es_tree.specs.declared.ast_type.AstType.TheVariants.{ArrowFunctionExpression, FunctionBody, FunctionDeclaration, FunctionExpression, PropertyDefinition, StaticBlock, ThisExpression}
use Rattle.es_tree.specs.declared.table.Sort.{Sort}
use Rattle.es_tree.specs.declared.table.Sort.TheVariants.{ArrowFunctionBody as s-ArrowFunctionBody, Pattern as s-Pattern}
use Rattle.es_tree.proofs.NodeForm.{node_form}
use Rattle.es_semantic.specs.RolesOf.{reads}
use Rattle.es_semantic.specs.declared.place.Role.{Role}
use Rattle.es_semantic.specs.declared.place.Role.TheVariants.{Refers}
use Rattle.es_resolution.specs.Declarations.{Bound}
use Rattle.es_resolution.specs.Resolved.{own_of}
use Rattle.es_arrow_steps.specs.ArrowWalks.ArrowWalkRule.{by_pending_name, by_rule}
use Rattle.es_arrow_steps.specs.ThisFits.{is_read}
use Rattle.es_changes.specs.Moments.{Moment, whole_at}
use Rattle.es_changes.proofs.Expressions.{body-expression}
use Rattle.es_changes.proofs.StepRows.{steps-trans}
use Rattle.es_steps.specs.Arrows.ArrowRule.{by_new_name, with_body, with_expression}
use Rattle.es_steps.specs.Duplication.{IsNext}
use Rattle.es_steps.specs.Nodes.{body_node, identifier, placed, return_node}
use Rattle.es_steps.specs.Open.{Additions, Pending, is_statement_body, no_additions, nothing_pending, opened}
use Rattle.es_steps.specs.Rules.{next_name, with_made}
use Rattle.es_steps.specs.Steps.{Ledger, Site, Step, Steps, Whole, ledger}
use Rattle.es_steps.specs.Steps.Step.{acts}
use Rattle.es_steps.specs.Steps.Steps.{goes, stays}
use Rattle.es_steps.specs.ThisPlaces.{belongs_to_arrow, has_this, reaches_target, this_in_field, this_in_fields}
use Rattle.es_steps.proofs.FormLists.{HasText}
use Rattle.es_steps.proofs.FormRows.{next-text}
use Rattle.es_valid_arrows.proofs.ArrowForms.{arrow-parts}
use Rattle.lower_arrows.specs.Functions.{bodied, bodied_by, bodied_in, function_from}
use Rattle.lower_arrows.specs.Lowered.{walk_rule}
use Rattle.lower_arrows.specs.Walks.{AreInside, IsWalkable, NoThis, Walked, WalkedFields, belongs_at}
use Rattle.lower_arrows.proofs.Inward.{inside-node, inward, sites}
use Rattle.lower_arrows.proofs.Rows.{row-inside}
use Rattle.lower_arrows.proofs.WalkRules.{formed-after, same-node, walk-nameless}

-- A NODE that is no arrow

or-neither : (a b : Bool) → a ≡ false → b ≡ false → (a || b) ≡ false
or-neither false b e d = d
or-neither true b e d = absurd (cc e)

no-arrow : (k : AstType) (l : Label) (fs : Fields) → same_type k ArrowFunctionExpression ≡ false → is_arrow k l fs ≡ false
no-arrow ArrowFunctionExpression l fs e = absurd (cc e)
no-arrow _ l fs e = refl

-- none of these fields has a `this`
none-in : (belongs : ℕ → Bool) (fs : Fields) → ((i : ℕ) → belongs i ≡ true) → NoThis belongs fs → this_in_fields false fs ≡ false
none-in belongs done all h = refl
none-in belongs (f then fs) all h = or-neither (this_in_field f) (this_in_fields false fs) (h.0 (all zero)) (none-in (λ i. belongs (suc i)) fs (λ i. all (suc i)) h.1)

or-false : (b : Bool) → b ≡ false → (b || false) ≡ false
or-false true e = absurd (cc e)
or-false false e = refl

first-none : (belongs : ℕ → Bool) (fs : Fields) → belongs zero ≡ true → NoThis belongs fs → this_in_fields true fs ≡ false
first-none belongs done e h = refl
first-none belongs (f then fs) e h = or-false (this_in_field f) (h.0 e)

no-this : (k : AstType) (l : Label) (fs : Fields) → same_type k ThisExpression ≡ false → NoThis (λ i. belongs_at true k i) fs → has_this (node k l fs) ≡ false
no-this FunctionDeclaration l fs e h = refl
no-this FunctionExpression l fs e h = refl
no-this StaticBlock l fs e h = refl
no-this ThisExpression l fs e h = absurd (cc e)
no-this PropertyDefinition l fs e h = first-none (λ i. belongs_at true PropertyDefinition i) fs refl h
no-this k l fs e h = none-in (λ i. belongs_at true k i) fs (λ i. refl) h

module _ (outer : Bool) (a : Moment) (x : Option Bound) (k : AstType) (l : Label) (fs : Fields) (b : Moment) (y : Option Bound) (gs : Fields) (w : WalkedFields outer k a x fs b y gs) where
  inside-of : (n : Site) → belongs_to_arrow n.above ≡ outer → IsWalkable n (node k l fs) → AreInside outer k (sites n k l fs)
  inside-of n e h = subst (λ (o : Bool). AreInside o k (sites n k l fs)) e (inside-node n k l fs h)

  -- the fields, as steps of the node
  pub fields-row : (n : Site) → belongs_to_arrow n.above ≡ outer → IsWalkable n (node k l fs) → HasText x → (p : Pending) (ad : Additions) → Steps (Step walk_rule n) (ledger (whole_at a) p x ad) (opened (node k l fs)) (ledger (whole_at b) p y ad) (opened (node k l gs))
  fields-row n e h text p ad = row-inside walk_rule walk-nameless n k l (w.steps (sites n k l fs) (inside-of n e h) (inward n k l fs h) text p ad)

  -- and it has form
  pub fields-formed : (n : Site) → belongs_to_arrow n.above ≡ outer → (h : IsWalkable n (node k l fs)) → HasText x → has_form h.sort (node k l gs) ≡ true
  fields-formed n e h text = formed-after h.sort (node k l fs) (node k l gs) h.slot (fields-row n e h text nothing_pending no_additions) h.formed text

  -- a node with another label, which is the same where it fits
  pub node-walked : (m : Label) → ((n : Site) → belongs_to_arrow n.above ≡ outer → IsWalkable n (node k l fs) → HasText x → m ≡ l) → same_type k ArrowFunctionExpression ≡ false → (outer ≡ true → same_type k ThisExpression ≡ false) → Walked outer a x (node k l fs) b y (node k m gs)
  node-walked m same other this = record {
    steps = λ n e h text p ad. subst (λ (q : Label). Steps (Step walk_rule n) (ledger (whole_at a) p x ad) (opened (node k l fs)) (ledger (whole_at b) p y ad) (opened (node k q gs))) (sym (same n e h text)) (fields-row n e h text p ad);
    own = λ n e h text. ap (λ (q : Label). own_of n.role (node k q gs)) (same n e h text);
    text = w.text;
    arrows = or-neither (is_arrow k m gs) (any_in_fields is_arrow gs) (no-arrow k m gs other) w.arrows;
    this = λ e. no-this k m gs (this e) (subst (λ (o : Bool). NoThis (λ i. belongs_at o k i) gs) e w.this);
    body = same-node k l m fs gs;
  }

-- AN ARROW

-- its parameters and its body
record ArrowShape (fs : Fields) : Type 0 where
  parameters : Trees
  inner : Tree
  is : fs ≡ (many parameters then (one inner then done))

no-second : (l : Label) (ps : Trees) (fs : Fields) → fields_form ArrowFunctionExpression l (child_entries ArrowFunctionExpression) (many ps then fs) ≡ true → ArrowShape (many ps then fs)
no-second l ps (one b then done) h = record { parameters = ps; inner = b; is = refl }
no-second l ps (one b then (f then fs)) h = absurd (true≢false (sym (and_parts (has_form s-ArrowFunctionBody b) false (and_parts (trees_form s-Pattern (rest_sort s-Pattern) ps) _ h).1).1))
no-second l ps (missing then fs) h = absurd (true≢false (sym (and_parts (trees_form s-Pattern (rest_sort s-Pattern) ps) false h).1))
no-second l ps (many ts then fs) h = absurd (true≢false (sym (and_parts (trees_form s-Pattern (rest_sort s-Pattern) ps) false h).1))
no-second l ps (statements ts then fs) h = absurd (true≢false (sym (and_parts (trees_form s-Pattern (rest_sort s-Pattern) ps) false h).1))
no-second l ps done h = absurd (true≢false (sym (and_parts (trees_form s-Pattern (rest_sort s-Pattern) ps) false h).1))

no-first : (l : Label) (fs : Fields) → fields_form ArrowFunctionExpression l (child_entries ArrowFunctionExpression) fs ≡ true → ArrowShape fs
no-first l (many ps then fs) h = no-second l ps fs h
no-first l (missing then fs) h = absurd (true≢false (sym h))
no-first l (one t then fs) h = absurd (true≢false (sym h))
no-first l (statements ts then fs) h = absurd (true≢false (sym h))
no-first l done h = absurd (true≢false (sym h))

arrow-shape : (s : Sort) (l : Label) (fs : Fields) → has_form s (node ArrowFunctionExpression l fs) ≡ true → ArrowShape fs
arrow-shape s l fs h = no-first l fs (node_form s ArrowFunctionExpression l fs h).children

bodied-none : (t : Tree) → any_node is_arrow t ≡ false → any_node is_arrow (bodied t) ≡ false
bodied-none t e = at (is_statement_body t)
  where
    at : (v : Bool) → any_node is_arrow (if v then t else body_node (return_node t before empty)) ≡ false
    at true = e
    at false = or-false _ (or-false _ (or-false (any_node is_arrow t) e))

bodied-by-none : (f : Field) → any_in_field is_arrow f ≡ false → any_in_field is_arrow (bodied_by f) ≡ false
bodied-by-none missing e = e
bodied-by-none (one t) e = bodied-none t e
bodied-by-none (many ts) e = e
bodied-by-none (statements ts) e = e

or-first : (a b : Bool) → (a || b) ≡ false → a ≡ false
or-first false b e = refl
or-first true b e = absurd (cc e)

or-rest : (a b : Bool) → (a || b) ≡ false → b ≡ false
or-rest false b e = e
or-rest true b e = absurd (cc e)

bodied-in-none : (fs : Fields) → any_in_fields is_arrow fs ≡ false → any_in_fields is_arrow (bodied_in fs) ≡ false
bodied-in-none done e = e
bodied-in-none (f then done) e = e
bodied-in-none (f then (g then fs)) e =
    let rest = or-rest (any_in_field is_arrow f) (any_in_field is_arrow g || any_in_fields is_arrow fs) e in
    or-neither (any_in_field is_arrow f) _ (or-first (any_in_field is_arrow f) _ e) (or-neither (any_in_field is_arrow (bodied_by g)) (any_in_fields is_arrow fs) (bodied-by-none g (or-first (any_in_field is_arrow g) _ rest)) (or-rest (any_in_field is_arrow g) _ rest))

-- with a body of statements, or with an expression
function-step : (n : Site) (s : Ledger) (l : Label) (ps : Trees) (b : Tree) → has_form s-ArrowFunctionBody b ≡ true → has_this (node ArrowFunctionExpression l (many ps then (one b then done))) ≡ false →
    Step walk_rule n s (opened (node ArrowFunctionExpression l (many ps then (one b then done)))) s (opened (function_from (node ArrowFunctionExpression l (many ps then (one b then done)))))
function-step n s l ps (node FunctionBody m fs) form none = acts (node ArrowFunctionExpression l (many ps then (one (node FunctionBody m fs) then done))) (node FunctionExpression l (missing then (many ps then (one (node FunctionBody m fs) then done)))) (inr (by_rule (with_body none)))
function-step n s l ps (node k m fs) form none = at (is_statement_body (node k m fs)) refl
  where
    at : (v : Bool) → is_statement_body (node k m fs) ≡ v → Step walk_rule n s (opened (node ArrowFunctionExpression l (many ps then (one (node k m fs) then done)))) s (opened (node FunctionExpression l (missing then (many ps then (one (if v then node k m fs else body_node (return_node (node k m fs) before empty)) then done)))))
    at true e = absurd (cc e)
    at false e = acts (node ArrowFunctionExpression l (many ps then (one (node k m fs) then done))) (node FunctionExpression l (missing then (many ps then (one (body_node (return_node (node k m fs) before empty)) then done)))) (inr (by_rule (with_expression (body-expression (node k m fs) form e) none)))

pub arrow-walked : (outer : Bool) (a : Moment) (x : Option Bound) (l : Label) (fs : Fields) (b : Moment) (y : Option Bound) (gs : Fields) → WalkedFields outer ArrowFunctionExpression a x fs b y gs → Walked outer a x (node ArrowFunctionExpression l fs) b y (function_from (node ArrowFunctionExpression l gs))
arrow-walked outer a x l fs b y gs w = record {
  steps = steps;
  own = λ n e h text. refl;
  text = w.text;
  arrows = bodied-in-none gs w.arrows;
  this = λ e. refl;
  body = refl;
}
  where
    steps : (n : Site) → belongs_to_arrow n.above ≡ outer → IsWalkable n (node ArrowFunctionExpression l fs) → HasText x → (p : Pending) (ad : Additions) → Steps (Step walk_rule n) (ledger (whole_at a) p x ad) (opened (node ArrowFunctionExpression l fs)) (ledger (whole_at b) p y ad) (opened (function_from (node ArrowFunctionExpression l gs)))
    steps n e h text p ad =
        let row = fields-row outer a x ArrowFunctionExpression l fs b y gs w n e h text p ad in
        let form = fields-formed outer a x ArrowFunctionExpression l fs b y gs w n e h text in
        let shape = arrow-shape h.sort l gs form in
        let none : this_in_fields false gs ≡ false = none-in (λ i. belongs_at outer ArrowFunctionExpression i) gs (λ i. refl) w.this in
        let there : has_form h.sort (node ArrowFunctionExpression l (many shape.parameters then (one shape.inner then done))) ≡ true = subst (λ (z : Fields). has_form h.sort (node ArrowFunctionExpression l z) ≡ true) shape.is form in
        let step = function-step n (ledger (whole_at b) p y ad) l shape.parameters shape.inner (arrow-parts h.sort l shape.parameters shape.inner there).inner (subst (λ (z : Fields). this_in_fields false z ≡ false) shape.is none) in
        steps-trans row (goes (subst (λ (z : Fields). Step walk_rule n (ledger (whole_at b) p y ad) (opened (node ArrowFunctionExpression l z)) (ledger (whole_at b) p y ad) (opened (function_from (node ArrowFunctionExpression l z)))) (sym shape.is) step) stays)

-- `this`

reads-role : (r : Role) → is_read r ≡ true → r ≡ reads
reads-role (Refers flags) e = by flags.read flags.write e
  where
    by : (v w : Bool) → (v && not w) ≡ true → Refers (record { read = v; write = w }) ≡ reads
    by true false d = refl
    by true true d = absurd (cc d)
    by false w d = absurd (cc d)
reads-role r e = absurd (cc e)

no-fields : (s : Sort) (l : Label) (fs : Fields) → has_form s (node ThisExpression l fs) ≡ true → fs ≡ done
no-fields s l done h = refl
no-fields s l (f then fs) h = absurd (cc (node_form s ThisExpression l (f then fs) h).children)

not-not : (a b : Bool) → not (a && not b) ≡ true → a ≡ true → b ≡ true
not-not true true e d = refl
not-not true false e d = absurd (cc e)
not-not false b e d = absurd (cc d)

-- where it fits, it is read and reaches its target
record IsThere (n : Site) (fs : Fields) : Type 0 where
  role : n.role ≡ reads
  reaches : reaches_target n.above ≡ true
  fields : fs ≡ done

there : (n : Site) (l : Label) (fs : Fields) → belongs_to_arrow n.above ≡ true → IsWalkable n (node ThisExpression l fs) → IsThere n fs
there n l fs e h =
    let one = (and_parts (not (belongs_to_arrow n.above && not (is_read n.role && reaches_target n.above))) _ h.this).0 in
    let both = and_parts (is_read n.role) (reaches_target n.above) (not-not (belongs_to_arrow n.above) (is_read n.role && reaches_target n.above) one e) in
    record { role = reads-role n.role both.0; reaches = both.1; fields = no-fields h.sort l fs h.formed }

module _ (a : Moment) (l : Label) (fs : Fields) (b : Moment) (z : Bound) where
  abbrev t : Tree
  t = node ThisExpression l fs

  abbrev u : Tree
  u = placed l (identifier z)

  -- one step, whatever it is that makes the name
  named : (x : Option Bound) → (HasText x → HasText (Some z)) → ((n : Site) → belongs_to_arrow n.above ≡ true → IsThere n done → (p : Pending) (ad : Additions) → Steps (Step walk_rule n) (ledger (whole_at a) p x ad) (opened (node ThisExpression l done)) (ledger (whole_at b) p (Some z) ad) (opened u)) → Walked true a x t b (Some z) u
  named x text step = record {
    steps = λ n e h text p ad. let q = there n l fs e h in subst (λ (gs : Fields). Steps (Step walk_rule n) (ledger (whole_at a) p x ad) (opened (node ThisExpression l gs)) (ledger (whole_at b) p (Some z) ad) (opened u)) (sym q.fields) (step n e (record { role = q.role; reaches = q.reaches; fields = refl }) p ad);
    own = λ n e h text. ap (λ (r : Role). own_of r u) (there n l fs e h).role;
    text = text;
    arrows = refl;
    this = λ e. refl;
    body = refl;
  }

  -- the name that was made before
  pub again-walked : whole_at b ≡ whole_at a → Walked true a (Some z) t b (Some z) u
  again-walked same = named (Some z) (λ h. h) (λ n e q p ad. goes (subst (λ (w : Whole). Step walk_rule n (ledger (whole_at a) p (Some z) ad) (opened (node ThisExpression l done)) (ledger w p (Some z) ad) (opened u)) (sym same) (acts (node ThisExpression l done) u (inr (by_pending_name q.role e q.reaches)))) stays)

  -- one that is made here
  pub first-walked : IsNext (whole_at a) (text_base (codes "this")) z → whole_at b ≡ with_made (z ∷ []) (whole_at a) → Walked true a None t b (Some z) u
  first-walked next whole = named None (λ h. next-text (whole_at a) (text_base (codes "this")) z next) step
    where
      step : (n : Site) → belongs_to_arrow n.above ≡ true → IsThere n done → (p : Pending) (ad : Additions) → Steps (Step walk_rule n) (ledger (whole_at a) p None ad) (opened (node ThisExpression l done)) (ledger (whole_at b) p (Some z) ad) (opened u)
      step n e q p ad =
          let w = whole_at a in
          let same : next_name w z.name ≡ z = λ i. record { name = z.name; symbol = sym next.symbol i } in
          goes (subst (λ (v : Whole). Step walk_rule n (ledger w p None ad) (opened (node ThisExpression l done)) (ledger v p (Some z) ad) (opened u)) (sym whole)
          (subst (λ (v : Bound). Step walk_rule n (ledger w p None ad) (opened (node ThisExpression l done)) (ledger (with_made (v ∷ []) w) p (Some v) ad) (opened (placed l (identifier v)))) same
          (acts (node ThisExpression l done) (placed l (identifier (next_name w z.name))) (inr (by_rule (by_new_name q.role e q.reaches next.fresh)))))) stays
