-- What rows of nodes make writes no symbol that was in use and that nothing in their nodes writes: parts of a node are read again or stand where they stood,
-- and each other name that is written is a new one with a symbol of its own.
use Rattle.std.proofs.Common.{arith, ◌≡◌, ◌<◌, ℕ, refl, ap, subst, ◌∙◌, List, [], ◌∷◌, ◌++◌}
use Rattle.std.specs.Prelude.{Bool, true, false, Option, Some, None, is_some, if◌then◌else◌, codes}
use Rattle.std.proofs.lemmas.Bool.{ne_eqb}
use Rattle.es_tree.specs.Names.{first_text, flag_at}
use Rattle.es_tree.specs.Parens.{without_parens}
use Rattle.es_tree.specs.References.{is_symbol}
use Rattle.es_tree.specs.Tree.{Tree, node, Label, done, ◌then◌, missing, one, many, statements, Trees, trees, kind_of}
use Rattle.es_tree.specs.Words.{Text}
use Rattle.es_tree.specs.declared.ast_type.AstType.TheVariants.{CallExpression, Identifier, MemberExpression, ObjectExpression, ParenthesizedExpression}
use Rattle.es_runs.specs.Rules.{assign_node}
use Rattle.es_semantic.specs.RolesOf.{reads, refers, target_of}
use Rattle.es_semantic.specs.declared.place.Role.{Role}
use Rattle.es_semantic.specs.declared.place.Role.TheVariants.{Nothing}
use Rattle.es_resolution.specs.Declarations.{Bound}
use Rattle.es_steps.specs.Duplication.{IsDuplicated, IsNext, no_symbol}
use Rattle.es_steps.specs.Duplication.IsDuplicated.{read_again, by_temporary}
use Rattle.es_steps.specs.Exponentiation.{ExponentiationRule, Holds, TargetTwice, assigned_power, power_node}
use Rattle.es_steps.specs.Exponentiation.ExponentiationRule.{power, power_assignment}
use Rattle.es_steps.specs.Exponentiation.Holds.{where_it_is, in_temporary}
use Rattle.es_steps.specs.Exponentiation.TargetTwice.{bound_name, literal_key, other_key, other_name, private_member, static_member}
use Rattle.es_steps.specs.LogicalAssignment.{LogicalAssignmentRule}
use Rattle.es_steps.specs.LogicalAssignment.LogicalAssignmentRule.{to_computed_member, to_name, to_static_member}
use Rattle.es_steps.specs.Nodes.{call_node, identifier, object_node, placed}
use Rattle.es_steps.specs.NullishCoalescing.{NullishCoalescingRule}
use Rattle.es_steps.specs.NullishCoalescing.NullishCoalescingRule.{reading_again, with_temporary}
use Rattle.es_steps.specs.ObjectRest.{helper_node}
use Rattle.es_steps.specs.ObjectSpread.{Copies, SpreadRule, copied, last_copied}
use Rattle.es_steps.specs.ObjectSpread.Copies.{copies, keeps, no_more}
use Rattle.es_steps.specs.ObjectSpread.SpreadRule.{spreads}
use Rattle.es_steps.specs.OptionalCatch.{CatchRule}
use Rattle.es_steps.specs.OptionalCatch.CatchRule.{catches}
use Rattle.es_steps.specs.Rules.{with_made}
use Rattle.es_steps.specs.Steps.{Ledger, Site, Whole}
use Rattle.es_steps.specs.Steps.Spot.{at_node}
use Rattle.es_steps.specs.WrapRule.{called_arrow}
use Rattle.es_statement_steps.proofs.SpreadParts.{is_copy, spread-copy}
use Rattle.es_statement_steps.proofs.Unwritten.{Spares, SparesAll}

-- NEW NAMES have symbols of their own

abbrev pub IsOther : ℕ → Bound → Type 0
IsOther m x = is_symbol m x.symbol ≡ false

pub next-other : (m : ℕ) (w : Whole) (base : Text) (x : Bound) → m < w.free_symbol → IsNext w base x → IsOther m x
next-other m w base x less next = ap (is_symbol m) next.symbol ∙ ne_eqb w.free_symbol m (omega arith)

pub still-below : (m : ℕ) (xs : List Bound) (w : Whole) → m < w.free_symbol → m < (with_made xs w).free_symbol
still-below m xs w less = omega arith

-- `(x = e)`
pub assigned-spared : (m : ℕ) (r : Role) (x : Bound) (e : Tree) → IsOther m x → Spares m reads e → Spares m r (assign_node (identifier x) e)
assigned-spared m r x e other h = (tt, ((other, tt), (h, tt)))

pub name-spared : (m : ℕ) (x : Bound) → Spares m reads (identifier x)
name-spared m x = (refl, tt)

-- PARTS

pub spared-parens : (m : ℕ) (r : Role) (t : Tree) → Spares m r t → Spares m r (without_parens t)
spared-parens m r (node ParenthesizedExpression l (one t then fs)) h = spared-parens m r t h.1.0
spared-parens m r (node ParenthesizedExpression l done) h = h
spared-parens m r (node ParenthesizedExpression l (missing then fs)) h = h
spared-parens m r (node ParenthesizedExpression l (many ts then fs)) h = h
spared-parens m r (node ParenthesizedExpression l (statements ts then fs)) h = h
spared-parens m r (node _ l fs) h = h

-- the key of a member, by whether it is computed
pub key-spared : (m : ℕ) (bs : List Bool) (computed marked : Bool) (k : Tree) → bs ≡ computed ∷ marked ∷ [] → Spares m (if flag_at 0 bs then reads else Nothing) k → Spares m (if computed then reads else Nothing) k
key-spared m bs computed marked k e h = subst (λ (bs : List Bool). Spares m (if flag_at 0 bs then reads else Nothing) k) e h

-- a list after another
pub both-spared : (m : ℕ) (r : Role) (xs ys : List Tree) → SparesAll m r (trees xs) → SparesAll m r (trees ys) → SparesAll m r (trees (xs ++ ys))
both-spared m r [] ys h g = g
both-spared m r (x ∷ xs) ys h g = (h.0, both-spared m r xs ys h.1 g)

pub duplicated-spared : (m : ℕ) (w : Whole) (xs : List Bound) {e e1 e2 : Tree} → m < w.free_symbol → IsDuplicated w xs e e1 e2 → Spares m reads e → Spares m reads e1 × Spares m reads e2
duplicated-spared m w xs less (read_again again) h = (h, h)
duplicated-spared m w xs less (by_temporary {e = e} {x = x} again next) h = (assigned-spared m reads x e (next-other m w _ x less next) h, name-spared m x)

-- what is assigned to, without its parentheses
target-spared : (m : ℕ) (l : Label) (t z : Tree) → without_parens t ≡ z → Spares m (target_of (first_text l.texts)) t → Spares m (target_of (first_text l.texts)) z
target-spared m l t z e h = subst (λ (z : Tree). Spares m (target_of (first_text l.texts)) z) e (spared-parens m (target_of (first_text l.texts)) t h)

-- LOGICAL ASSIGNMENT

pub assigning-spared : (m : ℕ) (n : Site) (w : Whole) (bs : List Bound) (t u : Tree) → m < w.free_symbol → LogicalAssignmentRule n w bs t u → (r : Role) → Spares m r t → Spares m r u
assigning-spared m n w bs t u less (to_name {m = l} {l = j} {t = to} texts operator alone at) r h =
    let name = target-spared m l to (node Identifier j done) at h.1.0 in
    (tt, ((refl, tt), ((tt, ((name.0, tt), (h.1.1.0, tt))), tt)))
assigning-spared m n w bs t u less (to_static_member {m = l} {l = j} {k = k} {t = to} {o = o} texts operator alone at flags object) r h =
    let member = target-spared m l to (node MemberExpression j (one o then one (node Identifier k done) then done)) at h.1.0 in
    let both = duplicated-spared m w bs less object member.1.0 in
    (tt, ((tt, (both.0, ((refl, tt), tt))), ((tt, ((tt, (both.1, ((refl, tt), tt))), (h.1.1.0, tt))), tt)))
assigning-spared m n w bs t u less (to_computed_member {m = l} {l = j} {t = to} {o = o} {k = k} {xs = xs} {ys = ys} texts operator alone at flags object key) r h =
    let member = target-spared m l to (node MemberExpression j (one o then one k then done)) at h.1.0 in
    let both = duplicated-spared m w xs less object member.1.0 in
    let keys = duplicated-spared m (with_made xs w) ys (still-below m xs w less) key (key-spared m j.flags true false k flags member.1.1.0) in
    (tt, ((tt, (both.0, (keys.0, tt))), ((tt, ((tt, (both.1, (keys.1, tt))), (h.1.1.0, tt))), tt)))

-- NULLISH COALESCING

pub coalescing-spared : (m : ℕ) (n : Site) (w : Whole) (bs : List Bound) (t u : Tree) → m < w.free_symbol → NullishCoalescingRule n w bs t u → (r : Role) → Spares m r t → Spares m r u
coalescing-spared m n w bs t u less (with_temporary {l = l} {r = e} {x = x} texts again next) r h =
    (tt, ((tt, ((tt, (assigned-spared m reads x l (next-other m w _ x less next) h.1.0, ((tt, tt), tt))), ((tt, (name-spared m x, ((tt, ((tt, tt), tt)), tt))), tt))), (name-spared m x, (h.1.1.0, tt))))
coalescing-spared m n w bs t u less (reading_again {l = l} {r = e} texts again) r h = (tt, ((tt, ((tt, (h.1.0, ((tt, tt), tt))), ((tt, (h.1.0, ((tt, ((tt, tt), tt)), tt))), tt))), (h.1.0, (h.1.1.0, tt))))

-- EXPONENTIATION

raised-spared : (m : ℕ) (l r : Tree) → Spares m reads l → Spares m reads r → Spares m reads (power_node l r)
raised-spared m l r h g = (tt, ((tt, ((refl, tt), ((refl, tt), tt))), ((h, (g, tt)), tt)))

-- an object, and what is read for it
held-spared : (m : ℕ) (names : Option ℕ → Bool) (w : Whole) (xs : List Bound) (fs : List Tree) {o o' : Tree} → m < w.free_symbol → Holds names w xs fs o o' → Spares m reads o → SparesAll m reads (trees fs) × Spares m reads o'
held-spared m names w xs fs less (where_it_is stays) h = (tt, h)
held-spared m names w xs fs less (in_temporary {o = o} {x = x} stays next) h = ((assigned-spared m reads x o (next-other m w _ x less next) h, tt), name-spared m x)

-- a target, what goes in front of it, and what is written and read for it
record TwiceSpared (m : ℕ) (fs : List Tree) (target read : Tree) : Type 0 where
  front : SparesAll m reads (trees fs)
  aim : Spares m (refers false true) target
  again : Spares m reads read

twice-spared : (m : ℕ) (l : Label) (w : Whole) (xs : List Bound) (fs : List Tree) {t target read : Tree} → m < w.free_symbol → TargetTwice w xs fs t target read → Spares m (target_of (first_text l.texts)) t → TwiceSpared m fs target read
twice-spared m l w xs fs less (bound_name bound) h = record { front = tt; aim = (h.0, tt); again = (refl, tt) }
twice-spared m l w xs fs less (other_name {l = j} {x = x} free next) h = record { front = (assigned-spared m reads x (node Identifier j done) (next-other m w _ x less next) (refl, tt), tt); aim = (h.0, tt); again = name-spared m x }
twice-spared m l w xs fs less (static_member flags object) h = let o = held-spared m is_some w xs fs less object h.1.0 in record { front = o.0; aim = (tt, (o.1, ((tt, tt), tt))); again = (tt, (o.1, ((tt, tt), tt))) }
twice-spared m l w xs fs less (private_member flags object) h = let o = held-spared m is_some w xs fs less object h.1.0 in record { front = o.0; aim = (tt, (o.1, ((tt, tt), tt))); again = (tt, (o.1, ((tt, tt), tt))) }
twice-spared m l w xs fs less (literal_key {l = j} {k = k} flags literal object) h =
    let o = held-spared m is_some w xs fs less object h.1.0 in
    let key = key-spared m j.flags true false k flags h.1.1.0 in
    record { front = o.0; aim = (tt, (o.1, (key, tt))); again = (tt, (o.1, (key, tt))) }
twice-spared m l w xs fs less (other_key {l = j} {k = k} {xs = ys} {fs = gs} {y = y} flags literal object next) h =
    let o = held-spared m no_symbol w ys gs less object h.1.0 in
    let key = key-spared m j.flags true false k flags h.1.1.0 in
    let other = next-other m (with_made ys w) _ y (still-below m ys w less) next in
    record { front = both-spared m reads gs (assign_node (identifier y) k ∷ []) o.0 (assigned-spared m reads y k other key, tt); aim = (tt, (o.1, (name-spared m y, tt))); again = (tt, (o.1, (name-spared m y, tt))) }

power-spared : (m : ℕ) (l : Label) (r : Role) (fs : List Tree) (target read e : Tree) → TwiceSpared m fs target read → Spares m reads e → Spares m r (assigned_power l fs target read e)
power-spared m l r [] target read e h g = (tt, (h.aim, (raised-spared m read e h.again g, tt)))
power-spared m l r (f ∷ fs) target read e h g = (tt, (both-spared m reads (f ∷ fs) (assign_node target (power_node read e) ∷ []) h.front ((tt, (h.aim, (raised-spared m read e h.again g, tt))), tt), tt))

pub raising-spared : (m : ℕ) (n : Site) (w : Whole) (bs : List Bound) (t u : Tree) → m < w.free_symbol → ExponentiationRule n w bs t u → (r : Role) → Spares m r t → Spares m r u
raising-spared m n w bs t u less (power free texts left right) r h = (tt, ((tt, ((refl, tt), ((refl, tt), tt))), ((h.1.0, (h.1.1.0, tt)), tt)))
raising-spared m n w bs t u less (power_assignment {m = l} {t = to} {r = e} {target = target} {read = read} {fs = fs} free texts right alone twice) r h =
    power-spared m l r fs target read e (twice-spared m l w bs fs less twice (spared-parens m (target_of (first_text l.texts)) to h.1.0)) h.1.1.0

-- OPTIONAL CATCH

pub catching-spared : (m : ℕ) (n : Site) (s s' : Ledger) (t u : Tree) → CatchRule n s (at_node t) s' (at_node u) → (r : Role) → Spares m r t → Spares m r u
catching-spared m n s s' t u (catches fresh) r h = (tt, ((refl, tt), (h.1.1.0, tt)))

-- OBJECT SPREAD

abbrev helper : Tree
helper = helper_node (codes "objectSpread2")

-- the copy so far
abbrev CopySpared : ℕ → Option Tree → Type 0
CopySpared m None = Unit {0}
CopySpared m (Some c) = Spares m reads c

called-spared : (m : ℕ) (given : List Tree) → SparesAll m reads (trees given) → Spares m reads (call_node helper given)
called-spared m given h = (tt, ((tt, ((refl, tt), ((refl, tt), tt))), (h, tt)))

object-spared : (m : ℕ) (ps : List Tree) → SparesAll m reads (trees ps) → Spares m reads (object_node ps)
object-spared m ps h = (tt, (h, tt))

copied-spared : (m : ℕ) (c : Option Tree) (ps : List Tree) (e : Tree) → CopySpared m c → SparesAll m reads (trees ps) → Spares m reads e → Spares m reads (copied helper c ps e)
copied-spared m None ps e h p q = called-spared m (object_node ps ∷ e ∷ []) (object-spared m ps p, (q, tt))
copied-spared m (Some c) [] e h p q = called-spared m (c ∷ e ∷ []) (h, (q, tt))
copied-spared m (Some c) (d ∷ ps) e h p q = called-spared m (c ∷ object_node [] ∷ object_node (d ∷ ps) ∷ e ∷ []) (h, (object-spared m [] tt, (object-spared m (d ∷ ps) p, (q, tt))))

last-spared : (m : ℕ) (c : Option Tree) (ps : List Tree) → CopySpared m c → SparesAll m reads (trees ps) → Spares m reads (last_copied helper c ps)
last-spared m None ps h p = object-spared m ps p
last-spared m (Some c) [] h p = h
last-spared m (Some c) (d ∷ ps) h p = called-spared m (c ∷ object_node [] ∷ object_node (d ∷ ps) ∷ []) (h, (object-spared m [] tt, (object-spared m (d ∷ ps) p, tt)))

copies-spared : (m : ℕ) (c : Option Tree) (ps : List Tree) (ts : Trees) (u : Tree) → Copies helper c ps ts u → CopySpared m c → SparesAll m reads (trees ps) → SparesAll m reads ts → Spares m reads u
copies-spared m c ps _ _ no_more h p g = last-spared m c ps h p
copies-spared m c ps _ u (copies {e = e} {ts = ts} k) h p g = copies-spared m (Some (copied helper c ps e)) [] ts u k (copied-spared m c ps e h p g.0.1.0) tt g.1
copies-spared m c ps _ u (keeps {t = t} {ts = ts} n k) h p g = copies-spared m c (ps ++ t ∷ []) ts u k h (both-spared m reads ps (t ∷ []) p (g.0, tt)) g.1

placed-spared : (m : ℕ) (l : Label) (u : Tree) → is_copy (kind_of (placed l u)) ≡ true → Spares m reads u → (r : Role) → Spares m r (placed l u)
placed-spared m l (node CallExpression j fs) e h r = h
placed-spared m l (node ObjectExpression j fs) e h r = h
placed-spared m l (node _ j fs) e h r = absurd (cc e)

pub spreading-spared : (m : ℕ) (n : Site) (w : Whole) (bs : List Bound) (t u : Tree) → SpreadRule n w bs t u → (r : Role) → Spares m r t → Spares m r u
spreading-spared m n w bs _ _ (spreads {m = l} {ps = ps} {u = u} scope used some none copies_so) r h =
    placed-spared m l u (spread-copy n w bs (node ObjectExpression l (many ps then done)) (placed l u) (spreads scope used some none copies_so)).kind (copies-spared m None [] ps u copies_so tt tt h.1.0) r

-- WHAT IS WRAPPED is read there

pub wrapping-spared : (m : ℕ) (e : Tree) → Spares m reads e → Spares m reads (called_arrow e)
wrapping-spared m e h = (tt, ((tt, (tt, (h, tt))), (tt, tt)))
