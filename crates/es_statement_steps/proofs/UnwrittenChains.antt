-- What the row of optional chains makes writes no symbol that was in use and that nothing in the chain writes: its spine is read, and what is written are temporaries.
use Rattle.std.proofs.Common.{◌≡◌, ◌<◌, ℕ, refl, subst, List, [], ◌∷◌, ◌++◌}
use Rattle.std.specs.Prelude.{Bool, true, false, Option, Some, None, codes, if◌then◌else◌}
use Rattle.es_tree.specs.Names.{flag_at}
use Rattle.es_tree.specs.Parens.{without_parens}
use Rattle.es_tree.specs.Tree.{Tree, node, Label, done, ◌then◌, one, Trees, trees}
use Rattle.es_tree.specs.declared.ast_type.AstType.TheVariants.{MemberExpression}
use Rattle.es_runs.specs.OptionalChaining.{delete_node, has_tests, joined_by_or, member_at, null_checks, true_node, where_short}
use Rattle.es_runs.specs.Rules.{assign_node, logical_node, void_zero_node}
use Rattle.es_semantic.specs.RolesOf.{reads}
use Rattle.es_semantic.specs.declared.place.Role.{Role}
use Rattle.es_semantic.specs.declared.place.Role.TheVariants.{Nothing}
use Rattle.es_resolution.specs.Declarations.{Bound}
use Rattle.es_steps.specs.Nodes.{identifier}
use Rattle.es_steps.specs.OptionalChaining.{BoundCallee, Called, Continued, OptionalChainingRule, Receives, Tested, Walked, Way, stored_call}
use Rattle.es_steps.specs.OptionalChaining.BoundCallee.{no_member, to_object}
use Rattle.es_steps.specs.OptionalChaining.Called.{by_first_member, by_later_member, by_name as called_by_name, by_value}
use Rattle.es_steps.specs.OptionalChaining.Continued.{inner_spine, same_spine}
use Rattle.es_steps.specs.OptionalChaining.OptionalChainingRule.{as_callee, by_tests, in_delete}
use Rattle.es_steps.specs.OptionalChaining.Receives.{by_name, by_temporary, by_this}
use Rattle.es_steps.specs.OptionalChaining.Tested.{as_name, in_holder, in_temporary}
use Rattle.es_steps.specs.OptionalChaining.Walked.{base, marked_call, marked_member, plain_call, plain_member}
use Rattle.es_steps.specs.Rules.{with_made}
use Rattle.es_steps.specs.Steps.{Site, Whole}
use Rattle.es_statement_steps.proofs.Unwritten.{Spares, SparesAll}
use Rattle.es_statement_steps.proofs.UnwrittenRows.{IsOther, assigned-spared, both-spared, key-spared, name-spared, next-other, spared-parens, still-below}

-- RECEIVERS

-- what is written for an object, and what is read as the receiver
received-spared : (m : ℕ) (to_this : Tree → Bool) (w : Whole) (holder : Option Bound) (xs : List Bound) {o o1 r : Tree} → m < w.free_symbol → Receives to_this w holder xs o o1 r → Spares m reads o → Spares m reads o1 × Spares m reads r
received-spared m to_this w holder xs less (by_this e) h = (h, (tt, tt))
received-spared m to_this w holder xs less (by_name e d) h = (h, h)
received-spared m to_this w holder xs less (by_temporary {o = o} {r = x} e d next) h = (assigned-spared m reads x o (next-other m w _ x less next) h, name-spared m x)

-- the object and the property of a member
member-parts : (m : ℕ) (t : Tree) (k : Label) (computed marked : Bool) (o p : Tree) → without_parens t ≡ node MemberExpression k (one o then one p then done) → k.flags ≡ computed ∷ marked ∷ [] → Spares m reads t → (Spares m reads o) × ((o1 : Tree) → Spares m reads o1 → Spares m reads (member_at k computed o1 p))
member-parts m t k computed marked o p e flags h =
    let d = subst (λ (z : Tree). Spares m reads z) e (spared-parens m reads t h) in
    (d.1.0, λ o1 g. (tt, (g, (key-spared m k.flags computed marked p flags d.1.1.0, tt))))

-- TESTS

checked-spared : (m : ℕ) (no_all : Bool) (e again : Tree) → Spares m reads e → Spares m reads again → SparesAll m reads (trees (null_checks no_all e again))
checked-spared m true e again h g = ((tt, (h, ((tt, tt), tt))), tt)
checked-spared m false e again h g = ((tt, (h, ((tt, tt), tt))), ((tt, (g, ((tt, ((tt, tt), tt)), tt))), tt))

joined-spared : (m : ℕ) (t : Tree) (ts : List Tree) → Spares m reads t → SparesAll m reads (trees ts) → Spares m reads (joined_by_or t ts)
joined-spared m t [] h g = h
joined-spared m t (u ∷ us) h g = joined-spared m (logical_node (codes "||") t u) us (tt, (h, (g.0, tt))) g.1

short-spared : (m : ℕ) (l : Label) (ts : List Tree) (short long : Tree) (r : Role) → has_tests ts ≡ true → SparesAll m reads (trees ts) → Spares m reads short → Spares m reads long → Spares m r (where_short l ts short long)
short-spared m l [] short long r some h s g = absurd (cc some)
short-spared m l (t ∷ ts) short long r some h s g = (tt, (joined-spared m t ts h.0 h.1, (s, (g, tt))))

-- SPINES

abbrev HolderOther : ℕ → Option Bound → Type 0
HolderOther m None = Unit {0}
HolderOther m (Some x) = IsOther m x

record WaySpared (m : ℕ) (w : Way) : Type 0 where
  tests : SparesAll m reads (trees w.tests)
  current : Spares m reads w.current
  holder : HolderOther m w.holder

module _ (m : ℕ) (no_all : Bool) (known : Whole) (less : m < known.free_symbol) where
  -- a value is stored and tested, after other tests
  stored-spared : (ts : List Tree) (x : Bound) (e : Tree) → SparesAll m reads (trees ts) → IsOther m x → Spares m reads e → SparesAll m reads (trees (ts ++ null_checks no_all (assign_node (identifier x) e) (identifier x)))
  stored-spared ts x e h other g = both-spared m reads ts (null_checks no_all (assign_node (identifier x) e) (identifier x)) h (checked-spared m no_all (assign_node (identifier x) e) (identifier x) (assigned-spared m reads x e other g) (name-spared m x))

  tested-spared : {w u : Way} → Tested no_all known w u → WaySpared m w → WaySpared m u
  tested-spared (as_name {w = w} e d) h =
      let name = spared-parens m reads w.current h.current in
      record { tests = checked-spared m no_all (without_parens w.current) (without_parens w.current) name name; current = name; holder = h.holder }
  tested-spared (in_holder {w = w} {x = x} e) h = record { tests = stored-spared w.tests x (without_parens w.current) h.tests (subst (λ (o : Option Bound). HolderOther m o) e h.holder) (spared-parens m reads w.current h.current); current = name-spared m x; holder = h.holder }
  tested-spared (in_temporary {w = w} {x = x} e none next) h =
      let other = next-other m (with_made w.taken known) _ x (still-below m w.taken known less) next in
      record { tests = stored-spared w.tests x (without_parens w.current) h.tests other (spared-parens m reads w.current h.current); current = name-spared m x; holder = other }

  -- a callee is stored with its receiver
  call-spared : (l : Label) (arguments : Trees) (w : Way) (names : List Bound) (c : Bound) (callee r : Tree) → SparesAll m reads arguments → WaySpared m w → IsOther m c → Spares m reads callee → Spares m reads r → WaySpared m (stored_call no_all l arguments w names c callee r)
  call-spared l arguments w names c callee r given h other k q = record { tests = stored-spared w.tests c callee h.tests other k; current = (tt, ((tt, (name-spared m c, ((refl, tt), tt))), ((q, given), tt))); holder = other }

  called-spared : {l : Label} {arguments : Trees} {w u : Way} → Called no_all known l arguments w u → SparesAll m reads arguments → WaySpared m w → WaySpared m u
  called-spared (called_by_name {w = w} e d) given h =
      let name = spared-parens m reads w.current h.current in
      record { tests = checked-spared m no_all (without_parens w.current) (without_parens w.current) name name; current = (tt, (name, (given, tt))); holder = h.holder }
  called-spared (by_value {w = w} {c = c} e alone next) given h =
      let other = next-other m (with_made w.taken known) _ c (still-below m w.taken known less) next in
      record { tests = stored-spared w.tests c (without_parens w.current) h.tests other (spared-parens m reads w.current h.current); current = (tt, (name-spared m c, (given, tt))); holder = other }
  called-spared {l = l} {arguments = arguments} (by_first_member {w = w} {k = k} {computed = computed} {o = o} {o1 = o1} {p = p} {r = r} {c = c} {xs = xs} e target flags next object) given h =
      let before = still-below m w.taken known less in
      let parts = member-parts m w.current k computed false o p target flags h.current in
      let both = received-spared m _ (with_made (c ∷ []) (with_made w.taken known)) w.holder xs (still-below m (c ∷ []) (with_made w.taken known) before) object parts.0 in
      call-spared l arguments w (c ∷ xs) c (member_at k computed o1 p) r given h (next-other m (with_made w.taken known) _ c before next) (parts.1 o1 both.0) both.1
  called-spared {l = l} {arguments = arguments} (by_later_member {w = w} {k = k} {computed = computed} {o = o} {o1 = o1} {p = p} {r = r} {c = c} {xs = xs} e target flags object next) given h =
      let before = still-below m w.taken known less in
      let parts = member-parts m w.current k computed false o p target flags h.current in
      let both = received-spared m _ (with_made w.taken known) w.holder xs before object parts.0 in
      call-spared l arguments w (xs ++ c ∷ []) c (member_at k computed o1 p) r given h (next-other m (with_made xs (with_made w.taken known)) _ c (still-below m xs (with_made w.taken known) before) next) (parts.1 o1 both.0) both.1

  -- a step to a member
  along-spared : (l : Label) (computed marked : Bool) (p : Tree) (w : Way) → l.flags ≡ computed ∷ marked ∷ [] → Spares m (if flag_at 0 l.flags then reads else Nothing) p → WaySpared m w → WaySpared m (record w { current = member_at l computed w.current p })
  along-spared l computed marked p w flags key h = record { tests = h.tests; current = (tt, (h.current, (key-spared m l.flags computed marked p flags key, tt))); holder = h.holder }

  mutual
    walked-spared : {e : Tree} {w : Way} → Walked no_all known e w → Spares m reads e → WaySpared m w
    walked-spared (base d alone) h = record { tests = tt; current = h; holder = tt }
    walked-spared (plain_member {l = l} {computed = computed} {p = p} {w = w} flags r) h = along-spared l computed false p w flags h.1.1.0 (walked-spared r h.1.0)
    walked-spared (plain_call flags r) h = let k = walked-spared r h.1.0 in record { tests = k.tests; current = (tt, (k.current, (h.1.1.0, tt))); holder = k.holder }
    walked-spared (marked_member {l = l} {computed = computed} {p = p} {u = u} flags r d) h = along-spared l computed true p u flags h.1.1.0 (tested-spared d (continued-spared r h.1.0))
    walked-spared (marked_call flags r d) h = called-spared d h.1.1.0 (continued-spared r h.1.0)

    continued-spared : {e : Tree} {w : Way} → Continued no_all known e w → Spares m reads e → WaySpared m w
    continued-spared (same_spine d r) h = walked-spared r h
    continued-spared (inner_spine {e = e} {c = c} {l = l} d alone target r) h = walked-spared r (subst (λ (z : Tree). Spares m reads z) target (spared-parens m reads e h)).1.0

-- a callee, that is bound to its object
bound-spared : (m : ℕ) (w : Whole) (holder : Option Bound) (xs : List Bound) {e d : Tree} → m < w.free_symbol → BoundCallee w holder xs e d → Spares m reads e → Spares m reads d
bound-spared m w holder xs less (no_member n) h = h
bound-spared m w holder xs less (to_object {k = k} {computed = computed} {o = o} {o1 = o1} {p = p} flags object) h =
    let both = received-spared m _ w holder xs less object h.1.0 in
    (tt, ((tt, ((tt, (both.0, (key-spared m k.flags computed false p flags h.1.1.0, tt))), ((refl, tt), tt))), ((both.1, tt), tt)))

-- THE ROW

pub chaining-spared : (no_all : Bool) (m : ℕ) (n : Site) (w : Whole) (bs : List Bound) (t u : Tree) → m < w.free_symbol → OptionalChainingRule no_all n w bs t u → (r : Role) → Spares m r t → Spares m r u
chaining-spared no_all m n known bs t u less (by_tests {m = l} {w = w} level walked some) r h =
    let k = walked-spared m no_all known less walked h.1.0 in
    short-spared m l w.tests void_zero_node w.current r some k.tests (tt, ((tt, tt), tt)) k.current
chaining-spared no_all m n known bs t u less (as_callee {m = l} {d = d} {w = w} {xs = xs} level walked some callee) r h =
    let k = walked-spared m no_all known less walked h.1.0 in
    short-spared m l w.tests void_zero_node d r some k.tests (tt, ((tt, tt), tt)) (bound-spared m (with_made w.taken known) w.holder xs (still-below m w.taken known less) callee k.current)
chaining-spared no_all m n known bs _ u less (in_delete {m = l} {l = j} {t = t} {e = e} {w = w} texts alone target walked some) r h =
    let chain = subst (λ (z : Tree). Spares m reads z) target (spared-parens m reads t h.1.0) in
    let k = walked-spared m no_all known less walked chain.1.0 in
    short-spared m l w.tests true_node (delete_node w.current) r some k.tests (tt, tt) (tt, (k.current, tt))
