-- No rule of a built lowering makes what is sought: what a row makes consists of parts of what stood there and of made nodes of other kinds.
use Rattle.std.proofs.Common.{◌≡◌, ◌∙◌, ℕ, refl, sym, subst, ap, inl, inr, List, [], ◌∷◌, ◌++◌, true≢false}
use Rattle.std.specs.Prelude.{Bool, true, false, ◌&&◌, ◌||◌, Option, Some, None, is_some, map}
use Rattle.es_tree.specs.Constructs.{any_kind, is_spread}
use Rattle.es_tree.specs.Parens.{without_parens}
use Rattle.es_tree.specs.Tree.{Tree, node, Label, Fields, one, many, fields, Trees, empty, ◌before◌, trees, kind_of}
use Rattle.es_tree.specs.declared.ast_type.AstType.{AstType}
use Rattle.es_tree.specs.declared.options.EnvOptions.{EnvOptions}
use Rattle.es_runs.proofs.Named.{or_both, or_first, or_second}
use Rattle.es_runs.specs.OptionalChaining.{has_tests, joined_by_or, member_at, null_checks, where_short}
use Rattle.es_runs.specs.Rules.{assign_node, tested}
use Rattle.es_resolution.specs.Declarations.{Bound}
use Rattle.es_steps.specs.AllRules.{ObjectRule}
use Rattle.es_steps.specs.Arrows.{ArrowRule}
use Rattle.es_steps.specs.Arrows.ArrowRule.{by_name as by_this_name, by_new_name, with_body, with_expression}
use Rattle.es_steps.specs.CoreRules.{RowRule, rule_under, where_on}
use Rattle.es_steps.specs.Duplication.{IsDuplicated}
use Rattle.es_steps.specs.Duplication.IsDuplicated.{by_temporary, read_again}
use Rattle.es_steps.specs.Exponentiation.{ExponentiationRule, Holds, TargetTwice}
use Rattle.es_steps.specs.Exponentiation.ExponentiationRule.{power, power_assignment}
use Rattle.es_steps.specs.Exponentiation.Holds.{in_temporary as held_in_temporary, where_it_is}
use Rattle.es_steps.specs.Exponentiation.TargetTwice.{bound_name, literal_key, other_key, other_name, private_member, static_member}
use Rattle.es_steps.specs.LogicalAssignment.{LogicalAssignmentRule}
use Rattle.es_steps.specs.LogicalAssignment.LogicalAssignmentRule.{to_computed_member, to_name, to_static_member}
use Rattle.es_steps.specs.NamespaceExports.{NamespaceRule}
use Rattle.es_steps.specs.NamespaceExports.NamespaceRule.{exports}
use Rattle.es_steps.specs.Nodes.{identifier, object_node, placed}
use Rattle.es_steps.specs.NullishCoalescing.{NullishCoalescingRule}
use Rattle.es_steps.specs.NullishCoalescing.NullishCoalescingRule.{reading_again, with_temporary}
use Rattle.es_steps.specs.ObjectSpread.{Copies, SpreadRule, copied, last_copied}
use Rattle.es_steps.specs.ObjectSpread.Copies.{copies, keeps, no_more}
use Rattle.es_steps.specs.ObjectSpread.SpreadRule.{spreads}
use Rattle.es_steps.specs.Open.{whole_list}
use Rattle.es_steps.specs.OptionalCatch.{CatchRule}
use Rattle.es_steps.specs.OptionalCatch.CatchRule.{catches}
use Rattle.es_steps.specs.OptionalChaining.{BoundCallee, Called, Continued, OptionalChainingRule, Receives, Tested, Walked, Way, stored_call}
use Rattle.es_steps.specs.OptionalChaining.BoundCallee.{no_member, to_object}
use Rattle.es_steps.specs.OptionalChaining.Called.{by_first_member, by_later_member, by_name as called_by_name, by_value}
use Rattle.es_steps.specs.OptionalChaining.Continued.{inner_spine, same_spine}
use Rattle.es_steps.specs.OptionalChaining.OptionalChainingRule.{as_callee, by_tests, in_delete}
use Rattle.es_steps.specs.OptionalChaining.Receives.{by_name, by_temporary as received_by_temporary, by_this}
use Rattle.es_steps.specs.OptionalChaining.Tested.{as_name, in_holder, in_temporary}
use Rattle.es_steps.specs.OptionalChaining.Walked.{base, marked_call, marked_member, plain_call, plain_member}
use Rattle.es_steps.specs.Rules.{Replacing, Writing, either_rule}
use Rattle.es_steps.specs.Rules.Replacing.{replaces}
use Rattle.es_steps.specs.Rules.Writing.{all_pending, body_declarators, declarators, insertions}
use Rattle.es_steps.specs.RestAssignments.{RestAssignmentRule, is_unused}
use Rattle.es_steps.specs.RestAssignments.RestAssignmentRule.{assigns}
use Rattle.es_steps.specs.Steps.{Ledger, Site, Spot, Whole}
use Rattle.es_steps.proofs.RestParts.{EachAmong, EachTree}
use Rattle.es_arrow_steps.proofs.RestNodes.{NodesRight, row-right}
use Rattle.es_steps.specs.WrapRule.{WrapRule}
use Rattle.es_steps.specs.WrapRule.WrapRule.{wraps}
use Rattle.es_steps.proofs.Lists.{written-first}
use Rattle.es_steps.proofs.Opened.{written-none}
use Rattle.es_valid_steps.specs.Laws.{with_further_rules}
use Rattle.es_reached.specs.Reached.{built_rules}
use Rattle.es_reached.specs.Unmade.{Sought, is_sought}
use Rattle.es_reached.proofs.FreeTrees.{Free, FreeAll, FreeIn, LedgerFree, SpotFree, SpotKept, append-free, inner-free, is_part, placed-free, sought-made, spread-members, spread-part, vars-free}

module _ (sought : Sought) where
  abbrev T : AstType → Label → Fields → Bool
  T = is_sought sought

  -- what a row leaves: nothing that is sought, and no rest or spread
  record Replaced (u : Tree) : Type 0 where
    free : Free T u
    kind : (m : Bool) → is_part m (kind_of u) ≡ false

  abbrev RowFree : (Site → Whole → List Bound → Tree → Tree → Type 0) → Type 0
  RowFree R = (n : Site) (w : Whole) (bs : List Bound) (t u : Tree) → R n w bs t u → Free T t → Replaced u

  -- below parentheses stands a tree of this form
  inner-is : (t u : Tree) → without_parens t ≡ u → Free T t → Free T u
  inner-is t u e h = subst (λ (x : Tree). Free T x) e (inner-free T t h)

  -- NULLISH COALESCING

  tested-free : (m : Label) (a b r : Tree) → Free T a → Free T b → Free T r → Free T (tested m a b r)
  tested-free m a b r f g h = (refl, ((refl, ((refl, (f, ((refl, tt), tt))), ((refl, (g, ((refl, ((refl, tt), tt)), tt))), tt))), (g, (h, tt))))

  coalescing-free : RowFree NullishCoalescingRule
  coalescing-free n w bs t u (with_temporary {m = m} {l = l} {r = r} {x = x} e1 e2 next) h = record { free = tested-free m (assign_node (identifier x) l) (identifier x) r (refl, ((refl, tt), (h.1.0, tt))) (refl, tt) h.1.1.0; kind = λ m. refl }
  coalescing-free n w bs t u (reading_again {m = m} {l = l} {r = r} e1 e2) h = record { free = tested-free m l l r h.1.0 h.1.0 h.1.1.0; kind = λ m. refl }

  -- LOGICAL ASSIGNMENT

  duplicated-free : (w : Whole) (xs : List Bound) (e e1 e2 : Tree) → IsDuplicated w xs e e1 e2 → Free T e → Free T e1 × Free T e2
  duplicated-free w xs e e1 e2 (read_again again) h = (h, h)
  duplicated-free w xs e e1 e2 (by_temporary again next) h = ((refl, ((refl, tt), (h, tt))), (refl, tt))

  assigning-free : RowFree LogicalAssignmentRule
  assigning-free n w bs t u (to_name e1 e2 e3 e4) h = record { free = (refl, ((refl, tt), ((refl, ((refl, tt), (h.1.1.0, tt))), tt))); kind = λ m. refl }
  assigning-free n w bs t u (to_static_member {t = target} {o = o} {o1 = o1} {o2 = o2} {xs = xs} e1 e2 e3 e4 e5 d) h =
      let parts = duplicated-free w xs o o1 o2 d (inner-is target _ e4 h.1.0).1.0 in
      record { free = (refl, ((refl, (parts.0, ((refl, tt), tt))), ((refl, ((refl, (parts.1, ((refl, tt), tt))), (h.1.1.0, tt))), tt))); kind = λ m. refl }
  assigning-free n w bs t u (to_computed_member {t = target} {o = o} {o1 = o1} {o2 = o2} {k = k} {k1 = k1} {k2 = k2} {xs = xs} {ys = ys} e1 e2 e3 e4 e5 d1 d2) h =
      let inner = inner-is target _ e4 h.1.0 in
      let parts = duplicated-free w xs o o1 o2 d1 inner.1.0 in
      let keys = duplicated-free _ ys k k1 k2 d2 inner.1.1.0 in
      record { free = (refl, ((refl, (parts.0, (keys.0, tt))), ((refl, ((refl, (parts.1, (keys.1, tt))), (h.1.1.0, tt))), tt))); kind = λ m. refl }

  -- EXPONENTIATION

  holds-free : (names : Option ℕ → Bool) (w : Whole) (xs : List Bound) (fs : List Tree) (o o' : Tree) → Holds names w xs fs o o' → Free T o → FreeAll T (trees fs) × Free T o'
  holds-free names w xs fs o o' (where_it_is e) h = (tt, h)
  holds-free names w xs fs o o' (held_in_temporary e next) h = (((refl, ((refl, tt), (h, tt))), tt), (refl, tt))

  record TwiceFree (fs : List Tree) (t u : Tree) : Type 0 where
    front : FreeAll T (trees fs)
    target : Free T t
    read : Free T u

  twice-free : (w : Whole) (xs : List Bound) (fs : List Tree) (t target read : Tree) → TargetTwice w xs fs t target read → Free T t → TwiceFree fs target read
  twice-free w xs fs t target read (bound_name e) h = record { front = tt; target = (refl, tt); read = (refl, tt) }
  twice-free w xs fs t target read (other_name e next) h = record { front = ((refl, ((refl, tt), ((refl, tt), tt))), tt); target = (refl, tt); read = (refl, tt) }
  twice-free w xs fs t target read (static_member {o = o} {o' = o'} e held) h =
      let k = holds-free _ w xs fs o o' held h.1.0 in
      record { front = k.0; target = (refl, (k.1, ((refl, tt), tt))); read = (refl, (k.1, ((refl, tt), tt))) }
  twice-free w xs fs t target read (private_member {o = o} {o' = o'} e held) h =
      let k = holds-free _ w xs fs o o' held h.1.0 in
      record { front = k.0; target = (refl, (k.1, ((refl, tt), tt))); read = (refl, (k.1, ((refl, tt), tt))) }
  twice-free w xs fs t target read (literal_key {o = o} {o' = o'} e1 e2 held) h =
      let k = holds-free _ w xs fs o o' held h.1.0 in
      record { front = k.0; target = (refl, (k.1, (h.1.1.0, tt))); read = (refl, (k.1, (h.1.1.0, tt))) }
  twice-free w xs fs t target read (other_key {o = o} {o' = o'} {xs = ys} {fs = gs} e1 e2 held next) h =
      let k = holds-free _ w ys gs o o' held h.1.0 in
      record { front = append-free T gs (_ ∷ []) k.0 ((refl, ((refl, tt), (h.1.1.0, tt))), tt); target = (refl, (k.1, ((refl, tt), tt))); read = (refl, (k.1, ((refl, tt), tt))) }

  raising-free : RowFree ExponentiationRule
  raising-free n w bs t u (power f e1 e2 e3) h = record { free = (refl, ((refl, ((refl, tt), ((refl, tt), tt))), ((h.1.0, (h.1.1.0, tt)), tt))); kind = λ m. refl }
  raising-free n w bs t u (power_assignment {t = left} {target = target} {read = read} {xs = xs} {fs = []} f e1 e2 e3 d) h =
      let k = twice-free w xs [] (without_parens left) target read d (inner-free T left h.1.0) in
      record { free = (refl, (k.target, ((refl, ((refl, ((refl, tt), ((refl, tt), tt))), ((k.read, (h.1.1.0, tt)), tt))), tt))); kind = λ m. refl }
  raising-free n w bs t u (power_assignment {t = left} {target = target} {read = read} {xs = xs} {fs = g ∷ gs} f e1 e2 e3 d) h =
      let k = twice-free w xs (g ∷ gs) (without_parens left) target read d (inner-free T left h.1.0) in
      record { free = (refl, (append-free T (g ∷ gs) (_ ∷ []) k.front ((refl, (k.target, ((refl, ((refl, ((refl, tt), ((refl, tt), tt))), ((k.read, (h.1.1.0, tt)), tt))), tt))), tt), tt)); kind = λ m. refl }

  -- OPTIONAL CHAINING

  record WayFree (w : Way) : Type 0 where
    tests : FreeAll T (trees w.tests)
    current : Free T w.current

  checks-free : (no_all : Bool) (e again : Tree) → Free T e → Free T again → FreeAll T (trees (null_checks no_all e again))
  checks-free true e again h k = ((refl, (h, ((refl, tt), tt))), tt)
  checks-free false e again h k = ((refl, (h, ((refl, tt), tt))), ((refl, (k, ((refl, ((refl, tt), tt)), tt))), tt))

  -- the tests once this is stored
  stored-free : (no_all : Bool) (ts : List Tree) (c : Bound) (e : Tree) → FreeAll T (trees ts) → Free T e → FreeAll T (trees (ts ++ null_checks no_all (assign_node (identifier c) e) (identifier c)))
  stored-free no_all ts c e h k = append-free T ts (null_checks no_all (assign_node (identifier c) e) (identifier c)) h (checks-free no_all (assign_node (identifier c) e) (identifier c) (refl, ((refl, tt), (k, tt))) (refl, tt))

  received-free : (to_this : Tree → Bool) (w : Whole) (holder : Option Bound) (xs : List Bound) (o o1 r : Tree) → Receives to_this w holder xs o o1 r → Free T o → Free T o1 × Free T r
  received-free to_this w holder xs o o1 r (by_this e) h = (h, (refl, tt))
  received-free to_this w holder xs o o1 r (by_name e1 e2) h = (h, h)
  received-free to_this w holder xs o o1 r (received_by_temporary e1 e2 next) h = ((refl, ((refl, tt), (h, tt))), (refl, tt))

  name-free : (no_all : Bool) (w : Way) → WayFree w → FreeAll T (trees (null_checks no_all (without_parens w.current) (without_parens w.current)))
  name-free no_all w h = let inner = inner-free T w.current h.current in checks-free no_all (without_parens w.current) (without_parens w.current) inner inner

  before-free : (no_all : Bool) (known : Whole) (w u : Way) → Tested no_all known w u → WayFree w → WayFree u
  before-free no_all known w u (as_name e1 e2) h = record { tests = name-free no_all w h; current = inner-free T w.current h.current }
  before-free no_all known w u (in_holder {x = x} e) h = record { tests = stored-free no_all w.tests x (without_parens w.current) h.tests (inner-free T w.current h.current); current = (refl, tt) }
  before-free no_all known w u (in_temporary {x = x} e1 e2 next) h = record { tests = stored-free no_all w.tests x (without_parens w.current) h.tests (inner-free T w.current h.current); current = (refl, tt) }

  -- a callee is stored with its receiver
  method-free : (no_all : Bool) (l : Label) (arguments : Trees) (w : Way) (names : List Bound) (c : Bound) (callee r : Tree) → WayFree w → Free T callee → Free T r → FreeAll T arguments → WayFree (stored_call no_all l arguments w names c callee r)
  method-free no_all l arguments w names c callee r h k m a = record { tests = stored-free no_all w.tests c callee h.tests k; current = (refl, ((refl, ((refl, tt), ((refl, tt), tt))), ((m, a), tt))) }

  called-free : (no_all : Bool) (known : Whole) (l : Label) (arguments : Trees) (w u : Way) → Called no_all known l arguments w u → FreeAll T arguments → WayFree w → WayFree u
  called-free no_all known l arguments w u (called_by_name e1 e2) a h = record { tests = name-free no_all w h; current = (refl, (inner-free T w.current h.current, (a, tt))) }
  called-free no_all known l arguments w u (by_value {c = c} e1 e2 next) a h = record { tests = stored-free no_all w.tests c (without_parens w.current) h.tests (inner-free T w.current h.current); current = (refl, ((refl, tt), (a, tt))) }
  called-free no_all known l arguments w u (by_first_member {k = k} {computed = computed} {o = o} {o1 = o1} {p = p} {r = r} {c = c} {xs = xs} e1 e2 e3 next received) a h =
      let inner = inner-is w.current _ e2 h.current in
      let parts = received-free _ _ w.holder xs o o1 r received inner.1.0 in
      method-free no_all l arguments w (c ∷ xs) c (member_at k computed o1 p) r h (refl, (parts.0, (inner.1.1.0, tt))) parts.1 a
  called-free no_all known l arguments w u (by_later_member {k = k} {computed = computed} {o = o} {o1 = o1} {p = p} {r = r} {c = c} {xs = xs} e1 e2 e3 received next) a h =
      let inner = inner-is w.current _ e2 h.current in
      let parts = received-free _ _ w.holder xs o o1 r received inner.1.0 in
      method-free no_all l arguments w (xs ++ c ∷ []) c (member_at k computed o1 p) r h (refl, (parts.0, (inner.1.1.0, tt))) parts.1 a

  mutual
    walked-free : (no_all : Bool) (known : Whole) (e : Tree) (w : Way) → Walked no_all known e w → Free T e → WayFree w
    walked-free no_all known e w (base e1 e2) h = record { tests = tt; current = h }
    walked-free no_all known e w (plain_member {o = o} {w = v} flags d) h = let k = walked-free no_all known o v d h.1.0 in record { tests = k.tests; current = (refl, (k.current, (h.1.1.0, tt))) }
    walked-free no_all known e w (plain_call {f = f} {w = v} flags d) h = let k = walked-free no_all known f v d h.1.0 in record { tests = k.tests; current = (refl, (k.current, (h.1.1.0, tt))) }
    walked-free no_all known e w (marked_member {o = o} {w = v} {u = u} flags d t) h = let k = before-free no_all known v u t (continued-free no_all known o v d h.1.0) in record { tests = k.tests; current = (refl, (k.current, (h.1.1.0, tt))) }
    walked-free no_all known e w (marked_call {l = l} {f = f} {arguments = arguments} {w = v} {u = u} flags d t) h = called-free no_all known l arguments v u t h.1.1.0 (continued-free no_all known f v d h.1.0)

    continued-free : (no_all : Bool) (known : Whole) (e : Tree) (w : Way) → Continued no_all known e w → Free T e → WayFree w
    continued-free no_all known e w (same_spine s d) h = walked-free no_all known e w d h
    continued-free no_all known e w (inner_spine {c = c} s alone e1 d) h = walked-free no_all known c w d (inner-is e _ e1 h).1.0

  bound-free : (w : Whole) (holder : Option Bound) (xs : List Bound) (e d : Tree) → BoundCallee w holder xs e d → Free T e → Free T d
  bound-free w holder xs e d (no_member m) h = h
  bound-free w holder xs e d (to_object {o = o} {o1 = o1} {r = r} flags received) h =
      let parts = received-free _ w holder xs o o1 r received h.1.0 in
      (refl, ((refl, ((refl, (parts.0, (h.1.1.0, tt))), ((refl, tt), tt))), ((parts.1, tt), tt)))

  or-free : (t : Tree) (ts : List Tree) → Free T t → FreeAll T (trees ts) → Free T (joined_by_or t ts)
  or-free t [] h k = h
  or-free t (u ∷ us) h k = or-free _ us (refl, (h, (k.0, tt))) k.1

  short-free : (m : Label) (ts : List Tree) (a b : Tree) → has_tests ts ≡ true → FreeAll T (trees ts) → Free T a → Free T b → Replaced (where_short m ts a b)
  short-free m [] a b e h f g = absurd (true≢false (sym e))
  short-free m (t ∷ ts) a b e h f g = record { free = (refl, (or-free t ts h.0 h.1, (f, (g, tt)))); kind = λ m. refl }

  chaining-free : (no_all : Bool) → RowFree (OptionalChainingRule no_all)
  chaining-free no_all n w bs t u (by_tests {m = m} {e = e} {w = v} level d some) h =
      let k = walked-free no_all w e v d h.1.0 in
      short-free m v.tests _ _ some k.tests (refl, ((refl, tt), tt)) k.current
  chaining-free no_all n w bs t u (as_callee {m = m} {e = e} {d = c} {w = v} {xs = xs} level d some bound) h =
      let k = walked-free no_all w e v d h.1.0 in
      short-free m v.tests _ _ some k.tests (refl, ((refl, tt), tt)) (bound-free _ v.holder xs v.current c bound k.current)
  chaining-free no_all n w bs t u (in_delete {m = m} {t = target} {e = e} {w = v} texts alone e1 d some) h =
      let k = walked-free no_all w e v d (inner-is target _ e1 h.1.0).1.0 in
      short-free m v.tests _ _ some k.tests (refl, tt) (refl, (k.current, tt))

  -- OBJECT SPREAD

  -- the copy so far
  abbrev CopyFree : Option Tree → Type 0
  CopyFree None = Unit {0}
  CopyFree (Some c) = Replaced c

  -- the properties so far: none of them is a spread
  record PartsFree (ps : List Tree) : Type 0 where
    free : FreeAll T (trees ps)
    spreads : any_kind (is_part false) (trees ps) ≡ false

  no-parts : PartsFree []
  no-parts = record { free = tt; spreads = refl }

  last-kind : (ps : List Tree) (t : Tree) → any_kind (is_part false) (trees ps) ≡ false → is_part false (kind_of t) ≡ false → any_kind (is_part false) (trees (ps ++ t ∷ [])) ≡ false
  last-kind [] t e f = rw f refl
  last-kind (p ∷ ps) t e f = or_both (is_part false (kind_of p)) (any_kind (is_part false) (trees (ps ++ t ∷ []))) (or_first (is_part false (kind_of p)) (any_kind (is_part false) (trees ps)) e) (last-kind ps t (or_second (is_part false (kind_of p)) (any_kind (is_part false) (trees ps)) e) f)

  one-more : (ps : List Tree) (t : Tree) → PartsFree ps → is_spread (kind_of t) ≡ false → Free T t → PartsFree (ps ++ t ∷ [])
  one-more ps t h e f = record { free = append-free T ps (t ∷ []) h.free (f, tt); spreads = last-kind ps t h.spreads (spread-part (kind_of t) ∙ e) }

  -- a literal of such properties
  literal-free : (ps : List Tree) → PartsFree ps → Free T (object_node ps)
  literal-free ps h = (ap (λ b. b && sought.spreads || false || false || false || false) (sym (spread-members (many (trees ps))) ∙ h.spreads), (h.free, tt))

  copied-free : (f : Tree) (c : Option Tree) (ps : List Tree) (e : Tree) → Free T f → CopyFree c → PartsFree ps → Free T e → Replaced (copied f c ps e)
  copied-free f None ps e hf hc hp he = record { free = (refl, (hf, ((literal-free ps hp, (he, tt)), tt))); kind = λ m. refl }
  copied-free f (Some c) [] e hf hc hp he = record { free = (refl, (hf, ((hc.free, (he, tt)), tt))); kind = λ m. refl }
  copied-free f (Some c) (p ∷ ps) e hf hc hp he = record { free = (refl, (hf, ((hc.free, (literal-free [] no-parts, (literal-free (p ∷ ps) hp, (he, tt)))), tt))); kind = λ m. refl }

  last-free : (f : Tree) (c : Option Tree) (ps : List Tree) → Free T f → CopyFree c → PartsFree ps → Replaced (last_copied f c ps)
  last-free f None ps hf hc hp = record { free = literal-free ps hp; kind = λ m. refl }
  last-free f (Some c) [] hf hc hp = hc
  last-free f (Some c) (p ∷ ps) hf hc hp = record { free = (refl, (hf, ((hc.free, (literal-free [] no-parts, (literal-free (p ∷ ps) hp, tt))), tt))); kind = λ m. refl }

  copies-free : (f : Tree) (c : Option Tree) (ps : List Tree) (ts : Trees) (u : Tree) → Copies f c ps ts u → Free T f → CopyFree c → PartsFree ps → FreeAll T ts → Replaced u
  copies-free f c ps ts u no_more hf hc hp h = last-free f c ps hf hc hp
  copies-free f c ps ts u (copies {e = e} {ts = rest} d) hf hc hp h = copies-free f _ [] rest u d hf (copied-free f c ps e hf hc hp h.0.1.0) no-parts h.1
  copies-free f c ps ts u (keeps {t = t} {ts = rest} other d) hf hc hp h = copies-free f c (ps ++ t ∷ []) rest u d hf hc (one-more ps t hp other h.0) h.1

  placed-kind : (m : Label) (u : Tree) (b : Bool) → is_part b (kind_of u) ≡ false → is_part b (kind_of (placed m u)) ≡ false
  placed-kind m (node k l fs) b e = e

  spreading-free : RowFree SpreadRule
  spreading-free n w bs t u (spreads {m = m} {ps = ps} {u = v} unbound used some quiet d) h =
      let k = copies-free _ None [] ps v d (refl, ((refl, tt), ((refl, tt), tt))) tt no-parts h.1.0 in
      record { free = placed-free sought m v k.free; kind = λ b. placed-kind m v b (k.kind b) }

  -- RESTS IN ASSIGNMENTS

  each-free : (ts : List Tree) → EachTree (Free T) ts → FreeAll T (trees ts)
  each-free [] h = tt
  each-free (t ∷ ts) h = (h.0, each-free ts h.1)

  elements-free : (ts : List Tree) → EachTree (Free T) ts → FreeIn T (fields (map one ts))
  elements-free [] h = tt
  elements-free (t ∷ ts) h = (h.0, elements-free ts h.1)

  nodes-free : NodesRight (Free T)
  nodes-free = record {
    name = λ x. (refl, tt);
    text = λ x. (refl, tt);
    member = λ o x h. (refl, (h, ((refl, tt), tt)));
    array = λ ts h. (refl, elements-free ts h);
    object = (refl, (tt, tt));
    call = λ f ts h k. (refl, (h, (each-free ts k, tt)));
    sequence = λ m ts h. (refl, (each-free ts h, tt));
    assignment = λ t e d h k. (refl, (h, (k, tt)));
    group = λ l ps d h. (rw d refl, (each-free ps h, tt));
    key = λ l k v h. h.1.0;
    keyed = λ l k v x h. (refl, ((refl, tt), h.1.1));
    rest = λ l t h. h.1.0;
  }

  among-free : (ps : Trees) → FreeAll T ps → EachAmong (Free T) ps
  among-free empty h = tt
  among-free (p before ps) h = (h.0, among-free ps h.1)

  assigning_rest-free : RowFree RestAssignmentRule
  assigning_rest-free n w bs t u (assigns {m = m} {lp = lp} {ps = ps} {e = e} {x = x} {xs = xs} {us = us} unbound used texts silent next takes) h =
      record { free = row-right (Free T) nodes-free _ lp m ps e x xs us (is_unused n.above) takes (among-free ps h.1.0.1.0) h.1.1.0; kind = λ m. refl }

  -- RULES

  abbrev pub RuleFree : (Site → Ledger → Spot → Ledger → Spot → Type 0) → Type 0
  RuleFree R = (n : Site) (s : Ledger) (x : Spot) (s' : Ledger) (y : Spot) → R n s x s' y → LedgerFree T s → SpotFree T x → SpotKept T x s' y

  replacing-free : (R : Site → Whole → List Bound → Tree → Tree → Type 0) → RowFree R → RuleFree (Replacing R)
  replacing-free R row n s x s' y (replaces {w = w} {p = p} {t = t} {u = u} bs d) b h =
      let k = row n w bs t u d h in
      record { free = k.free; around = record { pending = vars-free T (sought-made sought) bs p b.pending; excluded = b.excluded }; kind = λ m e. k.kind m }

  row-free : (R : Site → Whole → List Bound → Tree → Tree → Type 0) → RowFree R → RuleFree (RowRule R)
  row-free R row = replacing-free _ (λ n w bs t u d h. row n w bs t u d.rule h)

  on-free : (b : Bool) (R : Site → Ledger → Spot → Ledger → Spot → Type 0) → RuleFree R → RuleFree (where_on b R)
  on-free true R f = f
  on-free false R f = λ n s x s' y d b h. absurd d

  both-free : (Q R : Site → Ledger → Spot → Ledger → Spot → Type 0) → RuleFree Q → RuleFree R → RuleFree (either_rule Q R)
  both-free Q R f g n s x s' y (inl d) b h = f n s x s' y d b h
  both-free Q R f g n s x s' y (inr d) b h = g n s x s' y d b h

  -- what is written stood there, pending
  writing-free : RuleFree Writing
  writing-free n s x s' y (declarators {p = p} {x = z} {a = a} {ts = ts}) b h =
      let same = written-first p z a ts in
      record { free = subst (λ (us : Trees). FreeAll T us) same h; around = b; kind = λ m e. ap (λ us. any_kind (is_part m) us) (sym same) ∙ e }
  writing-free n s x s' y (all_pending {p = p} {x = z} {a = a} {ts = ts}) b h =
      let same = sym (written-none (whole_list p z a ts)) in
      record { free = subst (λ (us : Trees). FreeAll T us) same h; around = b; kind = λ m e. ap (λ us. any_kind (is_part m) us) (sym same) ∙ e }
  writing-free n s x s' y body_declarators b h = record { free = h; around = b; kind = λ m e. e }
  writing-free n s x s' y insertions b h = record { free = h; around = b; kind = λ m e. e }

  wrapping-free : (o : EnvOptions) → RuleFree (WrapRule o)
  wrapping-free o n s x s' y (wraps r e here d) b h = record { free = (refl, ((refl, (tt, (h, tt))), (tt, tt))); around = b; kind = λ m e. refl }

  catching-free : RuleFree CatchRule
  catching-free n s x s' y (catches fresh) b h = record { free = (refl, ((refl, tt), (h.1.1.0, tt))); around = record { pending = b.pending; excluded = b.excluded }; kind = λ m e. refl }

  exporting-free : RuleFree NamespaceRule
  exporting-free n s x s' y (exports top fresh q r o) b h = record {
    free = ((refl, (((refl, ((refl, tt), tt)), tt), (h.1.1.0, (h.1.1.1.0, tt)))), ((refl, (tt, (((refl, ((refl, tt), (h.1.0, tt))), tt), (tt, (tt, tt))))), tt));
    around = record { pending = b.pending; excluded = b.excluded };
    kind = λ m e. refl;
  }

  -- a `this` becomes a name, and an arrow a function of what stood in it
  arrows-free : RuleFree ArrowRule
  arrows-free n s x s' y (by_this_name reads belongs reaches finds used symbol) b h = record { free = (refl, tt); around = record { pending = b.pending; excluded = b.excluded }; kind = λ m e. refl }
  arrows-free n s x s' y (by_new_name reads belongs reaches fresh) b h = record { free = (refl, tt); around = record { pending = b.pending; excluded = b.excluded }; kind = λ m e. refl }
  arrows-free n s x s' y (with_body none) b h = record { free = (refl, (tt, (h.1.0, (h.1.1.0, tt)))); around = b; kind = λ m e. refl }
  arrows-free n s x s' y (with_expression expression none) b h = record { free = (refl, (tt, (h.1.0, ((refl, (tt, (((refl, (h.1.1.0, tt)), tt), tt))), tt)))); around = b; kind = λ m e. refl }

  under-free : (o : EnvOptions) → RuleFree (rule_under o)
  under-free o =
      both-free Writing _ writing-free
      (both-free (WrapRule o) _ (wrapping-free o)
      (both-free _ _ (on-free o.es2021.logical_assignment_operators (RowRule LogicalAssignmentRule) (row-free LogicalAssignmentRule assigning-free))
      (both-free _ _
      (both-free _ _ (on-free o.es2020.nullish_coalescing_operator (RowRule NullishCoalescingRule) (row-free NullishCoalescingRule coalescing-free))
      (on-free o.es2020.optional_chaining (RowRule (OptionalChainingRule o.assumptions.no_document_all)) (row-free (OptionalChainingRule o.assumptions.no_document_all) (chaining-free o.assumptions.no_document_all))))
      (on-free o.es2016.exponentiation_operator (RowRule ExponentiationRule) (row-free ExponentiationRule raising-free)))))

  further-free : (o : EnvOptions) → RuleFree (with_further_rules o)
  further-free o =
      both-free (rule_under o) _ (under-free o)
      (both-free _ _ (on-free o.es2019.optional_catch_binding CatchRule catching-free)
      (both-free _ _ (on-free o.es2020.export_namespace_from NamespaceRule exporting-free)
      (on-free (is_some o.es2018.object_rest_spread) ObjectRule (both-free (Replacing SpreadRule) (RowRule RestAssignmentRule) (replacing-free SpreadRule spreading-free) (row-free RestAssignmentRule assigning_rest-free)))))

  pub built-free : (o : EnvOptions) → RuleFree (built_rules o)
  built-free o = both-free (with_further_rules o) _ (further-free o) (on-free (is_some o.es2015.arrow_function) ArrowRule arrows-free)
