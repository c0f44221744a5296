-- A tree of which each `??` has two sides keeps that by steps of the core rules.
use Rattle.std.proofs.Common.{◌≡◌, ℕ, refl, sym, ◌∙◌, inl, inr, List, [], ◌∷◌, ◌++◌, map}
use Rattle.std.proofs.lemmas.Bool.{and_from}
use Rattle.std.specs.Prelude.{Bool, true, false, ◌&&◌, if◌then◌else◌, bytes_eq, codes}
use Rattle.es_tree.specs.Words.{Text}
use Rattle.es_tree.specs.Names.{first_text}
use Rattle.es_tree.specs.Bare.{bare, bare_label, bare_fields}
use Rattle.es_tree.specs.Constructs.{is_nullish_coalescing, has_nullish_coalescing}
use Rattle.es_tree.specs.Walks.{all_nodes, all_in_fields, all_in_field, all_in_trees, any_node, any_in_fields, any_in_field, any_in_trees}
use Rattle.es_tree.specs.Tree.{Tree, node, Label, Fields, done, ◌then◌, Field, missing, one, many, statements, Trees, empty, ◌before◌, trees}
use Rattle.es_tree.specs.declared.ast_type.AstType.{AstType}
use Rattle.es_tree.specs.declared.ast_type.AstType.TheVariants.{CallExpression, ChainExpression, LogicalExpression, MemberExpression, ParenthesizedExpression, UnaryExpression}
use Rattle.es_runs.specs.Alike.{Need}
use Rattle.es_runs.specs.Open.{Pending, Open, OpenFields, closed, closed_fields, declarator_node, declared, with_vars}
use Rattle.es_runs.specs.Open.OpenFields.{ends, ◌and◌}
use Rattle.es_runs.specs.Open.OpenField.{gap, child, children, list}
use Rattle.es_runs.specs.OpenSteps.{Whole, Ledger, Spot, Step, FieldsStep, Reached}
use Rattle.es_runs.specs.OpenSteps.FieldsStep.{in_first, in_later}
use Rattle.es_runs.specs.OpenSteps.FieldStep.{in_child, in_children, within, acts_on_list}
use Rattle.es_runs.specs.OpenSteps.Ledger.{ledger}
use Rattle.es_runs.specs.OpenRules.{with_names, CoreRule}
use Rattle.es_runs.specs.OpenRules.Replacing.{replaces}
use Rattle.es_runs.specs.OpenRules.Writing.{writes}
use Rattle.es_runs.proofs.OptionalChainingFacts.{ChainPassesOn}
use Rattle.es_runs.proofs.CoreRows.{core_rule}
use Rattle.es_runs.proofs.RowFacts.{Each, PassesOn, none_asked}
use Rattle.es_runs.proofs.RowKeeps.{row_good}
use Rattle.es_runs.proofs.Named.{and_left, and_right, or_both, or_first, or_second}
use Rattle.es_runs.proofs.OpenTests.{all-bare, all-opened, all-closed, pending_all, open_all, Passes, spot_all, step_passes, steps_pass}

abbrev pub two_sides : Fields → Bool
two_sides (one l then (one r then done)) = true
two_sides _ = false

-- where the node is `??` it has two sides
abbrev pub sided : AstType → Label → Fields → Bool
sided k l fs = if is_nullish_coalescing k l fs then two_sides fs else true

-- whether a node is `??` doesn't depend on its fields, nor on its id and marks
same_kind : (k : AstType) (l : Label) (fs gs : Fields) → is_nullish_coalescing k l gs ≡ is_nullish_coalescing k l fs
same_kind LogicalExpression l fs gs = refl
same_kind _ l fs gs = refl

same_kind-bare : (k : AstType) (l : Label) (fs gs : Fields) → is_nullish_coalescing k (bare_label l) gs ≡ is_nullish_coalescing k l fs
same_kind-bare LogicalExpression l fs gs = refl
same_kind-bare _ l fs gs = refl

two_sides-bare : (fs : Fields) → two_sides (bare_fields fs) ≡ two_sides fs
two_sides-bare done = refl
two_sides-bare (missing then fs) = refl
two_sides-bare (many ts then fs) = refl
two_sides-bare (statements ts then fs) = refl
two_sides-bare (one l then done) = refl
two_sides-bare (one l then (missing then fs)) = refl
two_sides-bare (one l then (many ts then fs)) = refl
two_sides-bare (one l then (statements ts then fs)) = refl
two_sides-bare (one l then (one r then done)) = refl
two_sides-bare (one l then (one r then (f then fs))) = refl

sided-bare : (k : AstType) (l : Label) (fs : Fields) → sided k (bare_label l) (bare_fields fs) ≡ sided k l fs
sided-bare k l fs = λ i. if same_kind-bare k l fs (bare_fields fs) i then two_sides-bare fs i else true

-- A STEP AMONG THE FIELDS OF A NODE

module _ {R : Need → Ledger → Spot → Ledger → Spot → Type 0} where
  second_kept : {c : ℕ → Need} {s s' : Ledger} {fs gs : OpenFields} (l : Tree) → FieldsStep R c s fs s' gs → two_sides (one l then closed_fields fs) ≡ true → two_sides (one l then closed_fields gs) ≡ true
  second_kept l (in_first {fs = ends} (in_child r)) h = refl
  second_kept l (in_first {fs = f and fs} (in_child r)) h = absurd (cc h)
  second_kept l (in_first (in_children r)) h = absurd (cc h)
  second_kept l (in_first (within r)) h = absurd (cc h)
  second_kept l (in_first (acts_on_list ts us r)) h = absurd (cc h)
  second_kept l (in_later {f = child t} (in_first r)) h = absurd (cc h)
  second_kept l (in_later {f = child t} (in_later r)) h = absurd (cc h)
  second_kept l (in_later {f = gap} r) h = absurd (cc h)
  second_kept l (in_later {f = children ts} r) h = absurd (cc h)
  second_kept l (in_later {f = list p ts} r) h = absurd (cc h)

  sides_kept : {c : ℕ → Need} {s s' : Ledger} {fs gs : OpenFields} → FieldsStep R c s fs s' gs → two_sides (closed_fields fs) ≡ true → two_sides (closed_fields gs) ≡ true
  sides_kept (in_first (in_child r)) h = h
  sides_kept (in_first (in_children r)) h = absurd (cc h)
  sides_kept (in_first (within r)) h = absurd (cc h)
  sides_kept (in_first (acts_on_list ts us r)) h = absurd (cc h)
  sides_kept (in_later {f = child t} r) h = second_kept (closed t) r h
  sides_kept (in_later {f = gap} r) h = absurd (cc h)
  sides_kept (in_later {f = children ts} r) h = absurd (cc h)
  sides_kept (in_later {f = list p ts} r) h = absurd (cc h)

  fields_sided : (k : AstType) (l : Label) (c : ℕ → Need) (s s' : Ledger) (fs gs : OpenFields) → FieldsStep R c s fs s' gs → sided k l (closed_fields fs) ≡ true → sided k l (closed_fields gs) ≡ true
  fields_sided k l c s s' fs gs r h = at (is_nullish_coalescing k l (closed_fields fs)) (is_nullish_coalescing k l (closed_fields gs)) (same_kind k l (closed_fields fs) (closed_fields gs)) h
    where
      at : (a b : Bool) → b ≡ a → (if a then two_sides (closed_fields fs) else true) ≡ true → (if b then two_sides (closed_fields gs) else true) ≡ true
      at true true e g = sides_kept r g
      at a false e g = refl
      at false true e g = absurd (cc e)

-- WHAT IS PENDING

append_all : (test : AstType → Label → Fields → Bool) (ds es : List Tree) → all_in_trees test (trees ds) ≡ true → all_in_trees test (trees es) ≡ true → all_in_trees test (trees (ds ++ es)) ≡ true
append_all test [] es h g = g
append_all test (d ∷ ds) es h g = and_from (all_nodes test d) (all_in_trees test (trees (ds ++ es))) (and_left (all_nodes test d) (all_in_trees test (trees ds)) h) (append_all test ds es (and_right (all_nodes test d) (all_in_trees test (trees ds)) h) g)

made_sided : (xs : List Text) → all_in_trees sided (trees (map declarator_node xs)) ≡ true
made_sided [] = refl
made_sided (x ∷ xs) = made_sided xs

declared_sided : (kind : Text) (ds : List Tree) (ts : Trees) → all_in_trees sided (trees ds) ≡ true → all_in_trees sided ts ≡ true → all_in_trees sided (declared kind ds ts) ≡ true
declared_sided kind [] ts h g = g
declared_sided kind (d ∷ ds) ts h g = and_from (all_in_trees sided (trees (d ∷ ds)) && true) (all_in_trees sided ts) (and_from (all_in_trees sided (trees (d ∷ ds))) true h refl) g

-- THE ROWS

if_either : (b : Bool) → (if b then true else true) ≡ true
if_either true = refl
if_either false = refl

-- a node passes where its parts do, be it `??` or not
logical_sided : (m : Label) (l r : Tree) → all_nodes sided l ≡ true → all_nodes sided r ≡ true → all_nodes sided (node LogicalExpression m (one l then (one r then done))) ≡ true
logical_sided m l r h g = rw (if_either (bytes_eq (first_text m.texts) (codes "??")), h, g) refl

below_sided : (k : AstType) (l : Label) (fs : Fields) → all_nodes sided (node k l fs) ≡ true → all_in_fields sided fs ≡ true
below_sided k l fs h = and_right (sided k l fs) (all_in_fields sided fs) h

first_sided : (k : AstType) (l : Label) (t : Tree) (fs : Fields) → all_nodes sided (node k l (one t then fs)) ≡ true → all_nodes sided t ≡ true
first_sided k l t fs h = and_left (all_nodes sided t) (all_in_fields sided fs) (below_sided k l (one t then fs) h)

second_sided : (k : AstType) (l : Label) (t u : Tree) (fs : Fields) → all_nodes sided (node k l (one t then (one u then fs))) ≡ true → all_nodes sided u ≡ true
second_sided k l t u fs h = and_left (all_nodes sided u) (all_in_fields sided fs) (and_right (all_nodes sided t) (all_nodes sided u && all_in_fields sided fs) (below_sided k l (one t then (one u then fs)) h))

abbrev Sided : Tree → Type 0
Sided t = all_nodes sided t ≡ true

trees_sided : (fs : List Tree) → Each Sided fs → all_in_trees sided (trees fs) ≡ true
trees_sided [] h = refl
trees_sided (f ∷ fs) h = and_from (all_nodes sided f) (all_in_trees sided (trees fs)) h.0 (trees_sided fs h.1)

sided_passes_on : PassesOn Sided (λ x. Unit {0})
sided_passes_on = record {
  inside = λ l t fs h. first_sided ParenthesizedExpression l t fs h;
  left = λ k m l r e h. first_sided k m l (one r then done) h;
  right = λ k m l r e h. second_sided k m l r done h;
  object = λ l o k h. first_sided MemberExpression l o (one k then done) h;
  key = λ l o k e h. second_sided MemberExpression l o k done h;
  logical = logical_sided;
  tests = λ m begin again r b a h. rw (b, a, h) refl;
  name = λ x fine. refl;
  takes = λ x e fine h. rw h refl;
  to_name = λ m n l t r q h e g. rw g refl;
  to_member = λ n l o k q h g. and_from (all_nodes sided (node MemberExpression l (one o then (one k then done)))) (all_nodes sided q && true) h (rw g refl);
  static_member = λ k o h. rw h refl;
  private_member = λ l k o q h g. rw g refl;
  computed_member = λ o k h g. rw (h, g) refl;
  string = λ x. refl;
  power = λ m l r h g. rw (h, g) refl;
  sequence = λ m fs h. rw (trees_sided fs h) refl;
}

-- of a call
arguments_sided : (l : Label) (f : Tree) (ts : Trees) → Sided (node CallExpression l (one f then (many ts then done))) → all_in_trees sided ts ≡ true
arguments_sided l f ts h = and_left (all_in_trees sided ts) true (and_right (all_nodes sided f) (all_in_trees sided ts && true) (below_sided CallExpression l (one f then (many ts then done)) h))

sided_in_chains : ChainPassesOn Sided (λ x. Unit {0})
sided_in_chains = record {
  inside = λ l t fs h. first_sided ParenthesizedExpression l t fs h;
  content = λ l t h. first_sided ChainExpression l t done h;
  operand = λ l t h. first_sided UnaryExpression l t done h;
  object = λ l o p h. first_sided MemberExpression l o (one p then done) h;
  callee = λ l f ts h. first_sided CallExpression l f (many ts then done) h;
  member = λ l computed optional o q p e h g. rw (g, second_sided MemberExpression l o p done h) refl;
  call = λ l f q ts h g. rw (g, arguments_sided l f ts h) refl;
  call_with = λ l f q r ts h g k. rw (g, k, arguments_sided l f ts h) refl;
  name = λ x fine. refl;
  takes = λ x e fine h. rw h refl;
  static_member = λ c y h. rw h refl;
  call_one = λ c r h g. rw (h, g) refl;
  this = refl;
  null = refl;
  void_zero = refl;
  truth = refl;
  equals = λ l r h g. rw (h, g) refl;
  loosely_equals = λ l r h g. rw (h, g) refl;
  or = λ l r h g. rw (h, g) refl;
  choice = λ m t a b h g k. rw (h, g, k) refl;
  deletes = λ e h. rw h refl;
}

-- what is pending passes with more names
more_sided : (xs : List Text) (p : Pending) → pending_all sided p ≡ true → pending_all sided (with_vars xs p) ≡ true
more_sided xs p h =
    and_from (all_in_trees sided (trees (p.vars ++ map declarator_node xs))) (all_in_trees sided (trees p.lets))
    (append_all sided p.vars (map declarator_node xs) (and_left (all_in_trees sided (trees p.vars)) (all_in_trees sided (trees p.lets)) h) (made_sided xs))
    (and_right (all_in_trees sided (trees p.vars)) (all_in_trees sided (trees p.lets)) h)

row_sided : (no_all : Bool) (w : Whole) (p : Pending) (xs : List Text) (n : Need) (t u : Tree) → core_rule no_all w xs n t u → Passes sided (ledger w p) (all_nodes sided t) → Passes sided (ledger (with_names xs w) (with_vars xs p)) (all_nodes sided u)
row_sided no_all w p xs n t u r h = record { around = more_sided xs p h.around; here = row_good Sided (λ x. Unit {0}) sided_passes_on sided_in_chains no_all w r (none_asked xs) h.here }

rule_sided : (no_all : Bool) (n : Need) (s : Ledger) (x : Spot) (s' : Ledger) (y : Spot) → CoreRule no_all n s x s' y → Passes sided s (spot_all sided x) → Passes sided s' (spot_all sided y)
rule_sided no_all n s _ _ _ (inl (writes {p = p} {ts = ts})) h =
    let pending = and_left (pending_all sided p) (all_in_trees sided ts) h.here in
    record {
      around = h.around;
      here = declared_sided (codes "var") p.vars (declared (codes "let") p.lets ts) (and_left (all_in_trees sided (trees p.vars)) (all_in_trees sided (trees p.lets)) pending)
          (declared_sided (codes "let") p.lets ts (and_right (all_in_trees sided (trees p.vars)) (all_in_trees sided (trees p.lets)) pending) (and_right (pending_all sided p) (all_in_trees sided ts) h.here));
    }
rule_sided no_all n _ _ _ _ (inr (inl (replaces {w = w} {p = p} {t = t} {u = u} xs r))) h = row_sided no_all w p xs n t u (inl r) h
rule_sided no_all n _ _ _ _ (inr (inr (inl (inl (replaces {w = w} {p = p} {t = t} {u = u} xs r))))) h = row_sided no_all w p xs n t u (inr (inl (inl r))) h
rule_sided no_all n _ _ _ _ (inr (inr (inl (inr (replaces {w = w} {p = p} {t = t} {u = u} xs r))))) h = row_sided no_all w p xs n t u (inr (inl (inr r))) h
rule_sided no_all n _ _ _ _ (inr (inr (inr (replaces {w = w} {p = p} {t = t} {u = u} xs r)))) h = row_sided no_all w p xs n t u (inr (inr r)) h

-- STEPS

-- with what is pending, whatever is reached by a step has its sides
pub step_sided : (no_all : Bool) {n : Need} {s s' : Ledger} {o u : Open} → Step (CoreRule no_all) n s o s' u → Passes sided s (open_all sided o) → Passes sided s' (open_all sided u)
step_sided no_all = step_passes sided (CoreRule no_all) fields_sided (rule_sided no_all)

-- the same of the tree alone
pub closed_sided : (o : Open) → open_all sided o ≡ true → all_nodes sided (closed o) ≡ true
closed_sided = all-closed sided

pub reached_sided : (no_all : Bool) (p q : Tree) (names : List Text) → Reached (CoreRule no_all) p names q → all_nodes sided p ≡ true → all_nodes sided q ≡ true
reached_sided no_all p q names reached h =
    let found = steps_pass sided (CoreRule no_all) fields_sided (rule_sided no_all) reached.steps (record { around = refl; here = all-opened sided (bare p) ∙ all-bare sided sided-bare p ∙ h }) in
    sym (all-bare sided sided-bare q) ∙ sym (all-opened sided (bare q)) ∙ found.here

-- NO `??` IS LEFT

-- `l ?? r`, with both sides
abbrev pub is_sided_nullish_coalescing : AstType → Label → Fields → Bool
is_sided_nullish_coalescing k l fs = is_nullish_coalescing k l fs && two_sides fs

own_none : (a b : Bool) → (if a then b else true) ≡ true → (a && b) ≡ false → a ≡ false
own_none true b h g = absurd (cc (h, g))
own_none false b h g = refl

mutual
  -- where each has its sides and none with sides is left, none is left
  pub none_left : (t : Tree) → all_nodes sided t ≡ true → any_node is_sided_nullish_coalescing t ≡ false → has_nullish_coalescing t ≡ false
  none_left (node k l fs) h g =
      or_both (is_nullish_coalescing k l fs) (any_in_fields is_nullish_coalescing fs)
      (own_none (is_nullish_coalescing k l fs) (two_sides fs) (and_left (sided k l fs) (all_in_fields sided fs) h) (or_first (is_sided_nullish_coalescing k l fs) (any_in_fields is_sided_nullish_coalescing fs) g))
      (none_in_fields fs (and_right (sided k l fs) (all_in_fields sided fs) h) (or_second (is_sided_nullish_coalescing k l fs) (any_in_fields is_sided_nullish_coalescing fs) g))

  none_in_fields : (fs : Fields) → all_in_fields sided fs ≡ true → any_in_fields is_sided_nullish_coalescing fs ≡ false → any_in_fields is_nullish_coalescing fs ≡ false
  none_in_fields done h g = refl
  none_in_fields (f then fs) h g =
      or_both (any_in_field is_nullish_coalescing f) (any_in_fields is_nullish_coalescing fs)
      (none_in_field f (and_left (all_in_field sided f) (all_in_fields sided fs) h) (or_first (any_in_field is_sided_nullish_coalescing f) (any_in_fields is_sided_nullish_coalescing fs) g))
      (none_in_fields fs (and_right (all_in_field sided f) (all_in_fields sided fs) h) (or_second (any_in_field is_sided_nullish_coalescing f) (any_in_fields is_sided_nullish_coalescing fs) g))

  none_in_field : (f : Field) → all_in_field sided f ≡ true → any_in_field is_sided_nullish_coalescing f ≡ false → any_in_field is_nullish_coalescing f ≡ false
  none_in_field missing h g = refl
  none_in_field (one t) h g = none_left t h g
  none_in_field (many ts) h g = none_in_trees ts h g
  none_in_field (statements ts) h g = none_in_trees ts h g

  none_in_trees : (ts : Trees) → all_in_trees sided ts ≡ true → any_in_trees is_sided_nullish_coalescing ts ≡ false → any_in_trees is_nullish_coalescing ts ≡ false
  none_in_trees empty h g = refl
  none_in_trees (t before ts) h g =
      or_both (any_node is_nullish_coalescing t) (any_in_trees is_nullish_coalescing ts)
      (none_left t (and_left (all_nodes sided t) (all_in_trees sided ts) h) (or_first (any_node is_sided_nullish_coalescing t) (any_in_trees is_sided_nullish_coalescing ts) g))
      (none_in_trees ts (and_right (all_nodes sided t) (all_in_trees sided ts) h) (or_second (any_node is_sided_nullish_coalescing t) (any_in_trees is_sided_nullish_coalescing ts) g))
