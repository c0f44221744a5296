-- Rows leave arrows that can become functions: what a row makes consists of parts of what stood there and of made nodes of other kinds.
use Rattle.std.proofs.Common.{◌≡◌, ℕ, refl, sym, subst, List, [], ◌∷◌, ◌++◌, true≢false}
use Rattle.std.specs.Prelude.{◌&&◌, ◌||◌, not, Bool, true, false, Option, Some, None, map}
use Rattle.std.proofs.lemmas.Bool.{and_right, or_from}
use Rattle.es_tree.specs.Parens.{without_parens}
use Rattle.es_tree.specs.Tree.{Tree, node, Label, Fields, one, fields, Trees, empty, ◌before◌, trees, kind_of}
use Rattle.es_tree.specs.declared.ast_type.AstType.{AstType}
use Rattle.es_tree.specs.declared.ast_type.AstType.TheVariants.{ObjectProperty, Super, ThisExpression, UnaryExpression}
use Rattle.es_tree.specs.declared.options.EnvOptions.{EnvOptions}
use Rattle.es_runs.specs.OptionalChaining.{has_tests, is_super, is_this_or_super, joined_by_or, member_at, null_checks, where_short}
use Rattle.es_runs.specs.Rules.{assign_node, tested}
use Rattle.es_resolution.specs.Declarations.{Bound}
use Rattle.es_steps.specs.Duplication.{IsDuplicated}
use Rattle.es_steps.specs.Duplication.IsDuplicated.{by_temporary, read_again}
use Rattle.es_steps.specs.Exponentiation.{ExponentiationRule, Holds, TargetTwice}
use Rattle.es_steps.specs.Exponentiation.ExponentiationRule.{power, power_assignment}
use Rattle.es_steps.specs.Exponentiation.Holds.{in_temporary as held_in_temporary, where_it_is}
use Rattle.es_steps.specs.Exponentiation.TargetTwice.{bound_name, literal_key, other_key, other_name, private_member, static_member}
use Rattle.es_steps.specs.LogicalAssignment.{LogicalAssignmentRule}
use Rattle.es_steps.specs.LogicalAssignment.LogicalAssignmentRule.{to_computed_member, to_name, to_static_member}
use Rattle.es_steps.specs.Nodes.{identifier, placed}
use Rattle.es_steps.specs.NullishCoalescing.{NullishCoalescingRule}
use Rattle.es_steps.specs.NullishCoalescing.NullishCoalescingRule.{reading_again, with_temporary}
use Rattle.es_steps.specs.ObjectSpread.{Copies, SpreadRule, copied, last_copied}
use Rattle.es_steps.specs.ObjectSpread.Copies.{copies, keeps, no_more}
use Rattle.es_steps.specs.ObjectSpread.SpreadRule.{spreads}
use Rattle.es_steps.specs.OptionalChaining.{BoundCallee, Called, Continued, OptionalChainingRule, Receives, Tested, Walked, Way, stored_call}
use Rattle.es_steps.specs.OptionalChaining.BoundCallee.{no_member, to_object}
use Rattle.es_steps.specs.OptionalChaining.Called.{by_first_member, by_later_member, by_name as called_by_name, by_value}
use Rattle.es_steps.specs.OptionalChaining.Continued.{inner_spine, same_spine}
use Rattle.es_steps.specs.OptionalChaining.OptionalChainingRule.{as_callee, by_tests, in_delete}
use Rattle.es_steps.specs.OptionalChaining.Receives.{by_name, by_temporary as received_by_temporary, by_this}
use Rattle.es_steps.specs.OptionalChaining.Tested.{as_name, in_holder, in_temporary}
use Rattle.es_steps.specs.OptionalChaining.Walked.{base, marked_call, marked_member, plain_call, plain_member}
use Rattle.es_steps.specs.RestAssignments.{RestAssignmentRule, is_unused}
use Rattle.es_steps.specs.RestAssignments.RestAssignmentRule.{assigns}
use Rattle.es_steps.specs.Steps.{Site, Whole}
use Rattle.es_steps.proofs.RestParts.{EachAmong, EachTree}
use Rattle.es_arrow_steps.proofs.RestNodes.{NodesRight, row-right}
use Rattle.es_valid_steps.specs.ArrowNodes.{is_arrow_accessor, is_this_within}
use Rattle.es_conditions.proofs.Marks.{first-of}
use Rattle.es_valid_arrows.specs.ArrowPlaces.{is_outer}
use Rattle.es_valid_arrows.proofs.Fits.{ArrowsFit, ArrowsFitAll, ArrowsFitIn}
use Rattle.es_valid_arrows.proofs.FitTrees.{appended-fit, inner-fit, is_settled}

-- no test of a node asks where it stood
own-placed : (m : Label) (reaches : Bool) (k : AstType) (l : Label) (fs : Fields) (b : Bool) → ((is_outer reaches k l fs && b) || is_arrow_accessor k l fs) ≡ false → ((is_outer reaches k (record l { start = m.start; stop = m.stop }) fs && b) || is_arrow_accessor k (record l { start = m.start; stop = m.stop }) fs) ≡ false
own-placed m reaches Super l fs b h = h
own-placed m reaches ThisExpression l fs b h = h
own-placed m reaches UnaryExpression l fs b h = h
own-placed m reaches ObjectProperty l fs b h = h
own-placed m reaches _ l fs b h = refl

-- in what belongs to an arrow or not, from where a `this` reaches its target or not
module _ (options : EnvOptions) (arrow reaches : Bool) where
  abbrev Fit : Tree → Type 0
  Fit t = ArrowsFit options arrow false reaches t

  abbrev FitAll : Trees → Type 0
  FitAll ts = ArrowsFitAll options arrow false reaches ts

  -- what a row leaves
  pub record Replaced (u : Tree) : Type 0 where
    pub fit : Fit u
    pub kind : is_settled (kind_of u) ≡ true

  abbrev pub RowFit : (Site → Whole → List Bound → Tree → Tree → Type 0) → Type 0
  RowFit R = (n : Site) (w : Whole) (bs : List Bound) (t u : Tree) → R n w bs t u → Fit t → Replaced u

  -- below parentheses stands a tree of this form
  inner-is : (t u : Tree) → without_parens t ≡ u → Fit t → Fit u
  inner-is t u e h = subst (λ (x : Tree). Fit x) e (inner-fit options arrow reaches t h)

  -- where `super` or `this` stands, `this` may
  abbrev MayStand : Type 0
  MayStand = (not reaches && arrow) ≡ false

  this-may : (o : Tree) → is_this_or_super o ≡ true → Fit o → MayStand
  this-may (node ThisExpression l fs) e h = first-of (not reaches && arrow) false h.0
  this-may (node Super l fs) e h = and_right (not reaches) arrow (first-of arrow false h.0)
  this-may (node _ l fs) e h = absurd (cc e)

  super-may : (o : Tree) → is_super o ≡ true → Fit o → MayStand
  super-may (node Super l fs) e h = and_right (not reaches) arrow (first-of arrow false h.0)
  super-may (node _ l fs) e h = absurd (cc e)

  -- NULLISH COALESCING

  tested-fit : (m : Label) (a b r : Tree) → Fit a → Fit b → Fit r → Fit (tested m a b r)
  tested-fit m a b r f g h = (refl, ((refl, ((refl, (f, ((refl, tt), tt))), ((refl, (g, ((refl, ((refl, tt), tt)), tt))), tt))), (g, (h, tt))))

  pub coalescing-fit : RowFit NullishCoalescingRule
  coalescing-fit n w bs t u (with_temporary {m = m} {l = l} {r = r} {x = x} e1 e2 next) h = record { fit = tested-fit m (assign_node (identifier x) l) (identifier x) r (refl, ((refl, tt), (h.1.0, tt))) (refl, tt) h.1.1.0; kind = refl }
  coalescing-fit n w bs t u (reading_again {m = m} {l = l} {r = r} e1 e2) h = record { fit = tested-fit m l l r h.1.0 h.1.0 h.1.1.0; kind = refl }

  -- LOGICAL ASSIGNMENT

  duplicated-fit : (w : Whole) (xs : List Bound) (e e1 e2 : Tree) → IsDuplicated w xs e e1 e2 → Fit e → Fit e1 × Fit e2
  duplicated-fit w xs e e1 e2 (read_again again) h = (h, h)
  duplicated-fit w xs e e1 e2 (by_temporary again next) h = ((refl, ((refl, tt), (h, tt))), (refl, tt))

  pub assigning-fit : RowFit LogicalAssignmentRule
  assigning-fit n w bs t u (to_name e1 e2 e3 e4) h = record { fit = (refl, ((refl, tt), ((refl, ((refl, tt), (h.1.1.0, tt))), tt))); kind = refl }
  assigning-fit n w bs t u (to_static_member {t = target} {o = o} {o1 = o1} {o2 = o2} {xs = xs} e1 e2 e3 e4 e5 d) h =
      let parts = duplicated-fit w xs o o1 o2 d (inner-is target _ e4 h.1.0).1.0 in
      record { fit = (refl, ((refl, (parts.0, ((refl, tt), tt))), ((refl, ((refl, (parts.1, ((refl, tt), tt))), (h.1.1.0, tt))), tt))); kind = refl }
  assigning-fit n w bs t u (to_computed_member {t = target} {o = o} {o1 = o1} {o2 = o2} {k = k} {k1 = k1} {k2 = k2} {xs = xs} {ys = ys} e1 e2 e3 e4 e5 d1 d2) h =
      let inner = inner-is target _ e4 h.1.0 in
      let parts = duplicated-fit w xs o o1 o2 d1 inner.1.0 in
      let keys = duplicated-fit _ ys k k1 k2 d2 inner.1.1.0 in
      record { fit = (refl, ((refl, (parts.0, (keys.0, tt))), ((refl, ((refl, (parts.1, (keys.1, tt))), (h.1.1.0, tt))), tt))); kind = refl }

  -- EXPONENTIATION

  holds-fit : (names : Option ℕ → Bool) (w : Whole) (xs : List Bound) (fs : List Tree) (o o' : Tree) → Holds names w xs fs o o' → Fit o → FitAll (trees fs) × Fit o'
  holds-fit names w xs fs o o' (where_it_is e) h = (tt, h)
  holds-fit names w xs fs o o' (held_in_temporary e next) h = (((refl, ((refl, tt), (h, tt))), tt), (refl, tt))

  record TwiceFit (fs : List Tree) (t u : Tree) : Type 0 where
    front : FitAll (trees fs)
    target : Fit t
    read : Fit u

  twice-fit : (w : Whole) (xs : List Bound) (fs : List Tree) (t target read : Tree) → TargetTwice w xs fs t target read → Fit t → TwiceFit fs target read
  twice-fit w xs fs t target read (bound_name e) h = record { front = tt; target = (refl, tt); read = (refl, tt) }
  twice-fit w xs fs t target read (other_name e next) h = record { front = ((refl, ((refl, tt), ((refl, tt), tt))), tt); target = (refl, tt); read = (refl, tt) }
  twice-fit w xs fs t target read (static_member {o = o} {o' = o'} e held) h =
      let k = holds-fit _ w xs fs o o' held h.1.0 in
      record { front = k.0; target = (refl, (k.1, ((refl, tt), tt))); read = (refl, (k.1, ((refl, tt), tt))) }
  twice-fit w xs fs t target read (private_member {o = o} {o' = o'} e held) h =
      let k = holds-fit _ w xs fs o o' held h.1.0 in
      record { front = k.0; target = (refl, (k.1, ((refl, tt), tt))); read = (refl, (k.1, ((refl, tt), tt))) }
  twice-fit w xs fs t target read (literal_key {o = o} {o' = o'} e1 e2 held) h =
      let k = holds-fit _ w xs fs o o' held h.1.0 in
      record { front = k.0; target = (refl, (k.1, (h.1.1.0, tt))); read = (refl, (k.1, (h.1.1.0, tt))) }
  twice-fit w xs fs t target read (other_key {o = o} {o' = o'} {xs = ys} {fs = gs} e1 e2 held next) h =
      let k = holds-fit _ w ys gs o o' held h.1.0 in
      record { front = appended-fit options arrow false reaches gs (_ ∷ []) k.0 ((refl, ((refl, tt), (h.1.1.0, tt))), tt); target = (refl, (k.1, ((refl, tt), tt))); read = (refl, (k.1, ((refl, tt), tt))) }

  pub raising-fit : RowFit ExponentiationRule
  raising-fit n w bs t u (power f e1 e2 e3) h = record { fit = (refl, ((refl, ((refl, tt), ((refl, tt), tt))), ((h.1.0, (h.1.1.0, tt)), tt))); kind = refl }
  raising-fit n w bs t u (power_assignment {t = left} {target = target} {read = read} {xs = xs} {fs = []} f e1 e2 e3 d) h =
      let k = twice-fit w xs [] (without_parens left) target read d (inner-fit options arrow reaches left h.1.0) in
      record { fit = (refl, (k.target, ((refl, ((refl, ((refl, tt), ((refl, tt), tt))), ((k.read, (h.1.1.0, tt)), tt))), tt))); kind = refl }
  raising-fit n w bs t u (power_assignment {t = left} {target = target} {read = read} {xs = xs} {fs = g ∷ gs} f e1 e2 e3 d) h =
      let k = twice-fit w xs (g ∷ gs) (without_parens left) target read d (inner-fit options arrow reaches left h.1.0) in
      record { fit = (refl, (appended-fit options arrow false reaches (g ∷ gs) (_ ∷ []) k.front ((refl, (k.target, ((refl, ((refl, ((refl, tt), ((refl, tt), tt))), ((k.read, (h.1.1.0, tt)), tt))), tt))), tt), tt)); kind = refl }

  -- OPTIONAL CHAINING

  record WayFit (w : Way) : Type 0 where
    tests : FitAll (trees w.tests)
    current : Fit w.current

  checks-fit : (no_all : Bool) (e again : Tree) → Fit e → Fit again → FitAll (trees (null_checks no_all e again))
  checks-fit true e again h k = ((refl, (h, ((refl, tt), tt))), tt)
  checks-fit false e again h k = ((refl, (h, ((refl, tt), tt))), ((refl, (k, ((refl, ((refl, tt), tt)), tt))), tt))

  -- the tests once this is stored
  stored-fit : (no_all : Bool) (ts : List Tree) (c : Bound) (e : Tree) → FitAll (trees ts) → Fit e → FitAll (trees (ts ++ null_checks no_all (assign_node (identifier c) e) (identifier c)))
  stored-fit no_all ts c e h k = appended-fit options arrow false reaches ts (null_checks no_all (assign_node (identifier c) e) (identifier c)) h (checks-fit no_all (assign_node (identifier c) e) (identifier c) (refl, ((refl, tt), (k, tt))) (refl, tt))

  received-fit : (to_this : Tree → Bool) → ((o : Tree) → to_this o ≡ true → Fit o → MayStand) → (w : Whole) (holder : Option Bound) (xs : List Bound) (o o1 r : Tree) → Receives to_this w holder xs o o1 r → Fit o → Fit o1 × Fit r
  received-fit to_this may w holder xs o o1 r (by_this e) h = (h, (or_from (not reaches && arrow) false (may o e h) refl, tt))
  received-fit to_this may w holder xs o o1 r (by_name e1 e2) h = (h, h)
  received-fit to_this may w holder xs o o1 r (received_by_temporary e1 e2 next) h = ((refl, ((refl, tt), (h, tt))), (refl, tt))

  name-fit : (no_all : Bool) (w : Way) → WayFit w → FitAll (trees (null_checks no_all (without_parens w.current) (without_parens w.current)))
  name-fit no_all w h = let inner = inner-fit options arrow reaches w.current h.current in checks-fit no_all (without_parens w.current) (without_parens w.current) inner inner

  before-fit : (no_all : Bool) (known : Whole) (w u : Way) → Tested no_all known w u → WayFit w → WayFit u
  before-fit no_all known w u (as_name e1 e2) h = record { tests = name-fit no_all w h; current = inner-fit options arrow reaches w.current h.current }
  before-fit no_all known w u (in_holder {x = x} e) h = record { tests = stored-fit no_all w.tests x (without_parens w.current) h.tests (inner-fit options arrow reaches w.current h.current); current = (refl, tt) }
  before-fit no_all known w u (in_temporary {x = x} e1 e2 next) h = record { tests = stored-fit no_all w.tests x (without_parens w.current) h.tests (inner-fit options arrow reaches w.current h.current); current = (refl, tt) }

  -- a callee is stored with its receiver
  method-fit : (no_all : Bool) (l : Label) (arguments : Trees) (w : Way) (names : List Bound) (c : Bound) (callee r : Tree) → WayFit w → Fit callee → Fit r → FitAll arguments → WayFit (stored_call no_all l arguments w names c callee r)
  method-fit no_all l arguments w names c callee r h k m a = record { tests = stored-fit no_all w.tests c callee h.tests k; current = (refl, ((refl, ((refl, tt), ((refl, tt), tt))), ((m, a), tt))) }

  called-fit : (no_all : Bool) (known : Whole) (l : Label) (arguments : Trees) (w u : Way) → Called no_all known l arguments w u → FitAll arguments → WayFit w → WayFit u
  called-fit no_all known l arguments w u (called_by_name e1 e2) a h = record { tests = name-fit no_all w h; current = (refl, (inner-fit options arrow reaches w.current h.current, (a, tt))) }
  called-fit no_all known l arguments w u (by_value {c = c} e1 e2 next) a h = record { tests = stored-fit no_all w.tests c (without_parens w.current) h.tests (inner-fit options arrow reaches w.current h.current); current = (refl, ((refl, tt), (a, tt))) }
  called-fit no_all known l arguments w u (by_first_member {k = k} {computed = computed} {o = o} {o1 = o1} {p = p} {r = r} {c = c} {xs = xs} e1 e2 e3 next received) a h =
      let inner = inner-is w.current _ e2 h.current in
      let parts = received-fit _ this-may _ w.holder xs o o1 r received inner.1.0 in
      method-fit no_all l arguments w (c ∷ xs) c (member_at k computed o1 p) r h (refl, (parts.0, (inner.1.1.0, tt))) parts.1 a
  called-fit no_all known l arguments w u (by_later_member {k = k} {computed = computed} {o = o} {o1 = o1} {p = p} {r = r} {c = c} {xs = xs} e1 e2 e3 received next) a h =
      let inner = inner-is w.current _ e2 h.current in
      let parts = received-fit _ this-may _ w.holder xs o o1 r received inner.1.0 in
      method-fit no_all l arguments w (xs ++ c ∷ []) c (member_at k computed o1 p) r h (refl, (parts.0, (inner.1.1.0, tt))) parts.1 a

  mutual
    walked-fit : (no_all : Bool) (known : Whole) (e : Tree) (w : Way) → Walked no_all known e w → Fit e → WayFit w
    walked-fit no_all known e w (base e1 e2) h = record { tests = tt; current = h }
    walked-fit no_all known e w (plain_member {o = o} {w = v} flags d) h = let k = walked-fit no_all known o v d h.1.0 in record { tests = k.tests; current = (refl, (k.current, (h.1.1.0, tt))) }
    walked-fit no_all known e w (plain_call {f = f} {w = v} flags d) h = let k = walked-fit no_all known f v d h.1.0 in record { tests = k.tests; current = (refl, (k.current, (h.1.1.0, tt))) }
    walked-fit no_all known e w (marked_member {o = o} {w = v} {u = u} flags d t) h = let k = before-fit no_all known v u t (continued-fit no_all known o v d h.1.0) in record { tests = k.tests; current = (refl, (k.current, (h.1.1.0, tt))) }
    walked-fit no_all known e w (marked_call {l = l} {f = f} {arguments = arguments} {w = v} {u = u} flags d t) h = called-fit no_all known l arguments v u t h.1.1.0 (continued-fit no_all known f v d h.1.0)

    continued-fit : (no_all : Bool) (known : Whole) (e : Tree) (w : Way) → Continued no_all known e w → Fit e → WayFit w
    continued-fit no_all known e w (same_spine s d) h = walked-fit no_all known e w d h
    continued-fit no_all known e w (inner_spine {c = c} s alone e1 d) h = walked-fit no_all known c w d (inner-is e _ e1 h).1.0

  bound-fit : (w : Whole) (holder : Option Bound) (xs : List Bound) (e d : Tree) → BoundCallee w holder xs e d → Fit e → Fit d
  bound-fit w holder xs e d (no_member m) h = h
  bound-fit w holder xs e d (to_object {o = o} {o1 = o1} {r = r} flags received) h =
      let parts = received-fit _ super-may w holder xs o o1 r received h.1.0 in
      (refl, ((refl, ((refl, (parts.0, (h.1.1.0, tt))), ((refl, tt), tt))), ((parts.1, tt), tt)))

  -- what is left of a spine with a test is a member or a call
  walked-left : (no_all : Bool) (known : Whole) (e : Tree) (w : Way) → Walked no_all known e w → has_tests w.tests ≡ true → is_this_within (Some w.current) ≡ false
  walked-left no_all known e w (base e1 e2) h = absurd (cc h)
  walked-left no_all known e w (plain_member flags d) h = refl
  walked-left no_all known e w (plain_call flags d) h = refl
  walked-left no_all known e w (marked_member flags d t) h = refl
  walked-left no_all known e w (marked_call {l = l} {arguments = arguments} {w = v} {u = u} flags d t) h = at no_all known l arguments v u t
    where
      at : (no_all : Bool) (known : Whole) (l : Label) (arguments : Trees) (w u : Way) → Called no_all known l arguments w u → is_this_within (Some u.current) ≡ false
      at no_all known l arguments w u (called_by_name e1 e2) = refl
      at no_all known l arguments w u (by_value e1 e2 next) = refl
      at no_all known l arguments w u (by_first_member e1 e2 e3 next received) = refl
      at no_all known l arguments w u (by_later_member e1 e2 e3 received next) = refl

  or-fit : (t : Tree) (ts : List Tree) → Fit t → FitAll (trees ts) → Fit (joined_by_or t ts)
  or-fit t [] h k = h
  or-fit t (u ∷ us) h k = or-fit _ us (refl, (h, (k.0, tt))) k.1

  short-fit : (m : Label) (ts : List Tree) (a b : Tree) → has_tests ts ≡ true → FitAll (trees ts) → Fit a → Fit b → Replaced (where_short m ts a b)
  short-fit m [] a b e h f g = absurd (true≢false (sym e))
  short-fit m (t ∷ ts) a b e h f g = record { fit = (refl, (or-fit t ts h.0 h.1, (f, (g, tt)))); kind = refl }

  pub chaining-fit : (no_all : Bool) → RowFit (OptionalChainingRule no_all)
  chaining-fit no_all n w bs t u (by_tests {m = m} {e = e} {w = v} level d some) h =
      let k = walked-fit no_all w e v d h.1.0 in
      short-fit m v.tests _ _ some k.tests (refl, ((refl, tt), tt)) k.current
  chaining-fit no_all n w bs t u (as_callee {m = m} {e = e} {d = c} {w = v} {xs = xs} level d some bound) h =
      let k = walked-fit no_all w e v d h.1.0 in
      short-fit m v.tests _ _ some k.tests (refl, ((refl, tt), tt)) (bound-fit _ v.holder xs v.current c bound k.current)
  chaining-fit no_all n w bs t u (in_delete {m = m} {t = target} {e = e} {w = v} texts alone e1 d some) h =
      let k = walked-fit no_all w e v d (inner-is target _ e1 h.1.0).1.0 in
      short-fit m v.tests _ _ some k.tests (refl, tt) ((let left = walked-left no_all w e v d some in rw left refl), (k.current, tt))

  -- OBJECT SPREAD

  -- the copy so far
  abbrev CopyFit : Option Tree → Type 0
  CopyFit None = Unit {0}
  CopyFit (Some c) = Replaced c

  copied-fit : (f : Tree) (c : Option Tree) (ps : List Tree) (e : Tree) → Fit f → CopyFit c → FitAll (trees ps) → Fit e → Replaced (copied f c ps e)
  copied-fit f None ps e hf hc hp he = record { fit = (refl, (hf, (((refl, (hp, tt)), (he, tt)), tt))); kind = refl }
  copied-fit f (Some c) [] e hf hc hp he = record { fit = (refl, (hf, ((hc.fit, (he, tt)), tt))); kind = refl }
  copied-fit f (Some c) (p ∷ ps) e hf hc hp he = record { fit = (refl, (hf, ((hc.fit, ((refl, (tt, tt)), ((refl, (hp, tt)), (he, tt)))), tt))); kind = refl }

  last-fit : (f : Tree) (c : Option Tree) (ps : List Tree) → Fit f → CopyFit c → FitAll (trees ps) → Replaced (last_copied f c ps)
  last-fit f None ps hf hc hp = record { fit = (refl, (hp, tt)); kind = refl }
  last-fit f (Some c) [] hf hc hp = hc
  last-fit f (Some c) (p ∷ ps) hf hc hp = record { fit = (refl, (hf, ((hc.fit, ((refl, (tt, tt)), ((refl, (hp, tt)), tt))), tt))); kind = refl }

  copies-fit : (f : Tree) (c : Option Tree) (ps : List Tree) (ts : Trees) (u : Tree) → Copies f c ps ts u → Fit f → CopyFit c → FitAll (trees ps) → FitAll ts → Replaced u
  copies-fit f c ps ts u no_more hf hc hp h = last-fit f c ps hf hc hp
  copies-fit f c ps ts u (copies {e = e} {ts = rest} d) hf hc hp h = copies-fit f _ [] rest u d hf (copied-fit f c ps e hf hc hp h.0.1.0) tt h.1
  copies-fit f c ps ts u (keeps {t = t} {ts = rest} other d) hf hc hp h = copies-fit f c (ps ++ t ∷ []) rest u d hf hc (appended-fit options arrow false reaches ps (t ∷ []) hp (h.0, tt)) h.1

  placed-fit : (m : Label) (u : Tree) → Replaced u → Replaced (placed m u)
  placed-fit m (node k l fs) h = record { fit = (own-placed m reaches k l fs arrow h.fit.0, h.fit.1); kind = h.kind }

  pub spreading-fit : RowFit SpreadRule
  spreading-fit n w bs t u (spreads {m = m} {ps = ps} {u = v} unbound used some quiet d) h =
      placed-fit m v (copies-fit _ None [] ps v d (refl, ((refl, tt), ((refl, tt), tt))) tt tt h.1.0)

  -- RESTS IN ASSIGNMENTS

  each-fit : (ts : List Tree) → EachTree Fit ts → FitAll (trees ts)
  each-fit [] h = tt
  each-fit (t ∷ ts) h = (h.0, each-fit ts h.1)

  elements-fit : (ts : List Tree) → EachTree Fit ts → ArrowsFitIn options (λ i f. arrow) (λ i. false) (λ i. reaches) (fields (map one ts))
  elements-fit [] h = tt
  elements-fit (t ∷ ts) h = (h.0, elements-fit ts h.1)

  nodes-fit : NodesRight Fit
  nodes-fit = record {
    name = λ x. (refl, tt);
    text = λ x. (refl, tt);
    member = λ o x h. (refl, (h, ((refl, tt), tt)));
    array = λ ts h. (refl, elements-fit ts h);
    object = (refl, (tt, tt));
    call = λ f ts h k. (refl, (h, (each-fit ts k, tt)));
    sequence = λ m ts h. (refl, (each-fit ts h, tt));
    assignment = λ t e d h k. (refl, (h, (k, tt)));
    group = λ l ps d h. (refl, (each-fit ps h, tt));
    key = λ l k v h. h.1.0;
    keyed = λ l k v x h. (refl, ((refl, tt), h.1.1));
    rest = λ l t h. h.1.0;
  }

  among-fit : (ps : Trees) → FitAll ps → EachAmong Fit ps
  among-fit empty h = tt
  among-fit (p before ps) h = (h.0, among-fit ps h.1)

  pub assigning_rest-fit : RowFit RestAssignmentRule
  assigning_rest-fit n w bs t u (assigns {m = m} {lp = lp} {ps = ps} {e = e} {x = x} {xs = xs} {us = us} unbound used texts silent next takes) h =
      record { fit = row-right Fit nodes-fit _ lp m ps e x xs us (is_unused n.above) takes (among-fit ps h.1.0.1.0) h.1.1.0; kind = refl }
