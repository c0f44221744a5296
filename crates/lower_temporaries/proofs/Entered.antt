-- What a hook before an expression promises, from a row that replaced it or a step at it or below it: once for all lowerings.
use Rattle.std.proofs.Common.{◌≡◌, ◌∙◌, ℕ, ◌+◌, ◌*◌, ◌<◌, ◌≤◌, length, refl, sym, ap, subst, arith, List, Bool, true, false, Option, Some, None, inl, inr}
use Rattle.es_tree.specs.Tree.{Tree, kind_of, tree_size}
use Rattle.es_resolution.specs.Declarations.{Bound}
use Rattle.es_steps.specs.CoreRules.{RowRule, where_on}
use Rattle.es_steps.specs.Open.{no_additions, opened, with_vars}
use Rattle.es_steps.specs.Rules.Replacing.{replaces}
use Rattle.es_steps.specs.Steps.{Ledger, ledger, Site, Spot, Step, Whole}
use Rattle.es_steps.specs.Steps.Step.{acts}
use Rattle.es_steps.specs.Steps.Steps.{goes, stays}
use Rattle.es_steps.specs.WrapRule.{OutsideSlots}
use Rattle.es_visit.specs.Hooks.{hook_of_sort, sort_of}
use Rattle.es_visit.specs.declared.hook.Hook.{Hook}
use Rattle.es_visit.specs.declared.hook.Hook.TheVariants.{Expression}
use Rattle.es_changes.specs.Changes.{lists_size, lists_weight}
use Rattle.es_changes.specs.Fits.{Fits}
use Rattle.es_changes.specs.Moments.{Moment, ledger_at, top, whole_at}
use Rattle.es_conditions.specs.Laws.{Keeps}
use Rattle.es_traverse.specs.Laws.{Entered, KeepsSort, KeptLoad, Known, Profile, Seen, anywhere, is_construct}
use Rattle.es_traverse.specs.Loads.{load}
use Rattle.lower_temporaries.specs.Replacings.{IsPut, Replaces, StepsTo, ledger_taking}
use Rattle.lower_temporaries.specs.SeenTrees.{no_bindings}
use Rattle.lower_temporaries.specs.Takings.{Takes}
use Rattle.lower_temporaries.proofs.Pairs.{lists-size, lists-weight, with_top-level, with_top-top}
use Rattle.lower_temporaries.proofs.SeenLaws.{load-seen, size-seen}

-- a rule that is on
pub on-rule : (R : Site → Ledger → Spot → Ledger → Spot → Type 0) (b : Bool) → b ≡ true → (n : Site) (s : Ledger) (x : Spot) (s' : Ledger) (y : Spot) → R n s x s' y → where_on b R n s x s' y
on-rule R true e n s x s' y h = h
on-rule R false e n s x s' y h = absurd (cc e)

-- STEPS

-- a row is a step at the node
pub row-step : (known : Site → Tree → Type 0) (R : Site → Whole → List Bound → Tree → Tree → Type 0) (Q : Site → Ledger → Spot → Ledger → Spot → Type 0) → ((n : Site) (s : Ledger) (x : Spot) (s' : Ledger) (y : Spot) → RowRule R n s x s' y → Q n s x s' y) →
    (a : Moment) (t : Tree) (b : Moment) (u : Tree) (r : Replaces known R a t b u) → ((n : Site) → Fits a n t → known n t → OutsideSlots R n (whole_at a) r.made t u) → StepsTo known Q a t b u
row-step known R Q on a t b u r outside = record {
  made = r.made;
  ids = r.ids;
  takes = r.takes;
  step = λ n f k p. acts t u (on n _ _ _ _ (replaces r.made (outside n f k)));
  nodes = r.nodes;
  lighter = r.lighter;
}

-- the ledger after temporaries were taken
ledger-taken : (bs : List Bound) (ids : ℕ) (a b : Moment) → Takes bs ids a b → 0 < length a.lists → ledger_taking bs (top a.lists) a ≡ ledger_at b
ledger-taken bs ids a b k there =
    let lists : top b.lists ≡ with_vars bs (top a.lists) = ap top k.lists_are ∙ with_top-top (with_vars bs) a.lists there in
    λ i. ledger (sym k.whole_is i) (sym lists i) None no_additions

-- WHAT IS KEPT

kept-taking : (bs : List Bound) (ids : ℕ) (a b : Moment) (t u : Tree) → 0 < length a.lists → Takes bs ids a b → tree_size u + 2 * length bs ≤ tree_size t + ids → ids + 4 * length bs + load u ≤ load t → KeptLoad 0 a t b u
kept-taking bs ids a b t u there k nodes lighter =
    let weights : lists_weight b.lists ≡ lists_weight a.lists + 4 * length bs = ap lists_weight k.lists_are ∙ lists-weight bs a.lists there in
    let sizes : lists_size b.lists ≡ lists_size a.lists + 2 * length bs = ap lists_size k.lists_are ∙ lists-size bs a.lists there in
    record {
      level = with_top-level (with_vars bs) a.lists b.lists k.lists_are;
      around = k.around_is;
      options = k.options_are;
      counted = omega (arith, k.next_is);
      lighter = omega (arith, k.next_is, weights, lighter);
      nodes = omega (arith, k.next_is, sizes, nodes);
    }

pub kept-by-step : (known : Site → Tree → Type 0) (R : Site → Ledger → Spot → Ledger → Spot → Type 0) (a : Moment) (t : Tree) (b : Moment) (u : Tree) → 0 < length a.lists → Seen (λ x y. StepsTo known R a x b y) t u → KeptLoad 0 a t b u
kept-by-step known R a t b u there h =
    let s = h no_bindings in
    let nodes : tree_size u + 2 * length s.made ≤ tree_size t + s.ids = omega (arith, s.nodes, size-seen no_bindings t, size-seen no_bindings u) in
    let lighter : s.ids + 4 * length s.made + load u ≤ load t = omega (arith, s.lighter, load-seen no_bindings t, load-seen no_bindings u) in
    kept-taking s.made s.ids a b t u there s.takes nodes lighter

pub kept-by-row : (known : Site → Tree → Type 0) (R : Site → Whole → List Bound → Tree → Tree → Type 0) (a : Moment) (t : Tree) (b : Moment) (u : Tree) → 0 < length a.lists → Seen (λ x y. Replaces known R a x b y) t u → KeptLoad 0 a t b u
kept-by-row known R a t b u there h =
    let s = h no_bindings in
    let nodes : tree_size u + 2 * length s.made ≤ tree_size t + s.ids = omega (arith, s.nodes, size-seen no_bindings t, size-seen no_bindings u) in
    let lighter : s.ids + 4 * length s.made + load u ≤ load t = omega (arith, s.lighter, load-seen no_bindings t, load-seen no_bindings u) in
    kept-taking s.made s.ids a b t u there s.takes nodes lighter

-- and where nothing changes
pub kept-same : (a : Moment) (t : Tree) → KeptLoad 0 a t a t
kept-same a t = record { level = record { deep = refl; outer = refl }; around = refl; options = refl; counted = omega arith; lighter = omega arith; nodes = omega arith }

-- WHAT IS ENTERED

module _ (p : Profile) (a : Moment) (t : Tree) (b : Moment) (u : Tree) where
  -- By a step of the type's rule: what it leaves is known by its second test.
  pub entered-by-step : 0 < length a.lists → StepsTo (Known p.counts) p.rule a t b u → ((n : Site) → Fits a n t → Known p.counts n t → Known p.leaves n u) → IsPut p t u → Entered p (Known p.counts) (Known p.leaves) Expression anywhere a t b u
  entered-by-step there s left put = record {
    stepped = λ n w f k. goes (subst (λ l. Step p.rule n (ledger_at a) (opened t) l (opened u)) (ledger-taken s.made s.ids a b s.takes there) (s.step n f k (top a.lists))) stays;
    left = λ n w f k. left n f k;
    cleared = λ n w f k. put.cleared;
    sort = put.sort;
    body = put.body;
    order = inr put.made;
  }

  -- By a row, of which it is known that it keeps the conditions.
  pub entered-by-row : (R : Site → Whole → List Bound → Tree → Tree → Type 0) → ((n : Site) (s : Ledger) (x : Spot) (s' : Ledger) (y : Spot) → RowRule R n s x s' y → p.rule n s x s' y) → Keeps p.counts p.leaves R → 0 < length a.lists → Replaces (Known p.counts) R a t b u → IsPut p t u →
      Entered p (Known p.counts) (Known p.leaves) Expression anywhere a t b u
  entered-by-row R on keeps there r put =
      entered-by-step there
      (row-step (Known p.counts) R p.rule on a t b u r (λ n f k. record { rule = r.row n f k; outside = keeps.outside n (whole_at a) r.made f.sort t u f.formed k (r.row n f k) }))
      (λ n f k. keeps.known n (whole_at a) r.made f.sort t u f.formed k (r.row n f k))
      put

-- By nothing: what is counted on is left, and the node is no construct.
pub entered-same : (p : Profile) (a : Moment) (t : Tree) → ((n : Site) → Fits a n t → Known p.counts n t → Known p.leaves n t) → ((n : Site) → Fits a n t → Known p.counts n t → is_construct (p.constructs Expression) t ≡ false) → Entered p (Known p.counts) (Known p.leaves) Expression anywhere a t a t
entered-same p a t left cleared = record {
  stepped = λ n w f k. stays;
  left = λ n w f k. left n f k;
  cleared = λ n w f k. cleared n f k;
  sort = λ h e. inl e;
  body = refl;
  order = inl refl;
}

-- SORTS

abbrev pub is_expression_hook : Option Hook → Bool
is_expression_hook None = true
is_expression_hook (Some Expression) = true
is_expression_hook _ = false

only-expression : (o : Option Hook) (h : Hook) → is_expression_hook o ≡ true → o ≡ Some h → h ≡ Expression
only-expression None h e k = absurd (cc k)
only-expression (Some Expression) h e k = cc k
only-expression (Some _) h e k = absurd (cc e)

-- what gets no hook by its sort but that of expressions keeps the sort of what it takes the place of
pub sort-expression : (t u : Tree) → is_expression_hook (hook_of_sort (sort_of (kind_of u))) ≡ true → KeepsSort Expression t u
sort-expression t u e = λ h k. inr (only-expression (hook_of_sort (sort_of (kind_of u))) h e k)
