-- No row of a built lowering leaves a pattern with a rest where it isn't lowered: what a row makes consists of parts of what stood there, each
-- at its place wherever it stands, and of made nodes of ordinary kinds.
use Rattle.std.proofs.Common.{List, [], ap, refl, sym, true≢false, ℕ, ◌++◌, ◌∙◌, ◌∷◌, ◌≡◌}
use Rattle.std.specs.Prelude.{Bool, None, Option, Some, bytes_eq, codes, false, map, true, ◌&&◌}
use Rattle.es_tree.specs.Parens.{without_parens}
use Rattle.es_tree.specs.Tree.{Fields, Label, Tree, Trees, done, empty, fields, kind_of, one, trees, ◌before◌, ◌then◌}
use Rattle.es_tree.specs.RestTargets.{is_rest_assignment, is_rest_target}
use Rattle.es_tree.specs.Names.{first_text}
use Rattle.es_tree.specs.Constructs.{field_at}
use Rattle.es_tree.specs.Words.{Text}
use Rattle.es_runs.specs.LogicalAssignment.{is_logical_assignment_operator}
use Rattle.es_resolution.proofs.Basics.{bytes_eq-equal}
use Rattle.es_tree.specs.declared.ast_type.AstType.TheVariants.{AssignmentExpression}
use Rattle.es_runs.specs.OptionalChaining.{has_tests, joined_by_or, member_at, null_checks, where_short}
use Rattle.es_runs.specs.Rules.{assign_node, tested}
use Rattle.es_resolution.specs.Declarations.{Bound}
use Rattle.es_steps.specs.Duplication.{IsDuplicated}
use Rattle.es_steps.specs.Duplication.IsDuplicated.{by_temporary, read_again}
use Rattle.es_steps.specs.Exponentiation.{ExponentiationRule, Holds, TargetTwice}
use Rattle.es_steps.specs.Exponentiation.ExponentiationRule.{power, power_assignment}
use Rattle.es_steps.specs.Exponentiation.Holds.{in_temporary as held_in_temporary, where_it_is}
use Rattle.es_steps.specs.Exponentiation.TargetTwice.{bound_name, literal_key, other_key, other_name, private_member, static_member}
use Rattle.es_steps.specs.LogicalAssignment.{LogicalAssignmentRule}
use Rattle.es_steps.specs.LogicalAssignment.LogicalAssignmentRule.{to_computed_member, to_name, to_static_member}
use Rattle.es_steps.specs.Nodes.{identifier, object_node}
use Rattle.es_steps.specs.NullishCoalescing.{NullishCoalescingRule}
use Rattle.es_steps.specs.NullishCoalescing.NullishCoalescingRule.{reading_again, with_temporary}
use Rattle.es_steps.specs.ObjectSpread.{Copies, SpreadRule, copied, last_copied}
use Rattle.es_steps.specs.ObjectSpread.Copies.{copies, keeps, no_more}
use Rattle.es_steps.specs.ObjectSpread.SpreadRule.{spreads}
use Rattle.es_steps.specs.OptionalChaining.{BoundCallee, Called, Continued, OptionalChainingRule, Receives, Tested, Walked, Way, stored_call}
use Rattle.es_steps.specs.OptionalChaining.BoundCallee.{no_member, to_object}
use Rattle.es_steps.specs.OptionalChaining.Called.{by_first_member, by_later_member, by_name as called_by_name, by_value}
use Rattle.es_steps.specs.OptionalChaining.Continued.{inner_spine, same_spine}
use Rattle.es_steps.specs.OptionalChaining.OptionalChainingRule.{as_callee, by_tests, in_delete}
use Rattle.es_steps.specs.OptionalChaining.Receives.{by_name, by_temporary as received_by_temporary, by_this}
use Rattle.es_steps.specs.OptionalChaining.Tested.{as_name, in_holder, in_temporary}
use Rattle.es_steps.specs.OptionalChaining.Walked.{base, marked_call, marked_member, plain_call, plain_member}
use Rattle.es_steps.specs.RestAssignments.{RestAssignmentRule, is_unused}
use Rattle.es_steps.specs.RestAssignments.RestAssignmentRule.{assigns}
use Rattle.es_steps.specs.Steps.{Site, Whole}
use Rattle.es_steps.proofs.RestParts.{EachAmong, EachTree}
use Rattle.es_arrow_steps.proofs.RestNodes.{NodesRight, row-right}
use Rattle.es_rest_rows.proofs.StrayNodes.{Clean, Replaced, Sound, SoundAll, SoundIn, above, append-sound, below, below-pattern, below-rest, group-sound, inner, inner-is, is_acting, made, moved}

-- WHAT A ROW DOES: it acts on no key, property or rest

pub record RowActs (t u : Tree) : Type 0 where
  pub source : is_acting (kind_of t) ≡ true
  pub leaves : Clean t → Replaced u

abbrev pub RowSound : (Site → Whole → List Bound → Tree → Tree → Type 0) → Type 0
RowSound R = (n : Site) (w : Whole) (bs : List Bound) (t u : Tree) → R n w bs t u → RowActs t u

name : (b : Bound) → Sound (identifier b)
name b = above refl tt

stored : (b : Bound) (e : Tree) → Sound e → Sound (assign_node (identifier b) e)
stored b e h = above refl (name b, (h, tt))

-- NULLISH COALESCING

tested-sound : (m : Label) (a b r : Tree) → Sound a → Sound b → Sound r → Replaced (tested m a b r)
tested-sound m a b r f g h = made refl (above refl (above refl (f, (above refl tt, tt)), (above refl (g, (above refl (above refl tt, tt), tt)), tt)), (g, (h, tt)))

pub coalescing-sound : RowSound NullishCoalescingRule
coalescing-sound n w bs t u (with_temporary {m = m} {l = l} {r = r} {x = x} e1 e2 next) = record { source = refl; leaves = λ h. let p = below refl refl h in tested-sound m (assign_node (identifier x) l) (identifier x) r (stored x l p.0) (name x) p.1.0 }
coalescing-sound n w bs t u (reading_again {m = m} {l = l} {r = r} e1 e2) = record { source = refl; leaves = λ h. let p = below refl refl h in tested-sound m l l r p.0 p.0 p.1.0 }

-- LOGICAL ASSIGNMENT

duplicated-sound : (w : Whole) (xs : List Bound) (e e1 e2 : Tree) → IsDuplicated w xs e e1 e2 → Sound e → Sound e1 × Sound e2
duplicated-sound w xs e e1 e2 (read_again again) h = (h, h)
duplicated-sound w xs e e1 e2 (by_temporary {x = x} again next) h = (stored x e h, name x)

-- an operator that assigns where it is lowered isn't `=`
other-word : (l : Label) (op : Text) → l.texts ≡ Some op ∷ [] → bytes_eq op (codes "=") ≡ false → (fs : Fields) → is_rest_assignment AssignmentExpression l fs ≡ false
other-word l op e d fs = ap (λ b. b && is_rest_target (field_at 0 fs)) (ap (λ (ts : List (Option Text)). bytes_eq (first_text ts) (codes "=")) e ∙ d)

not-plain : (op : Text) → is_logical_assignment_operator op ≡ true → bytes_eq op (codes "=") ≡ false
not-plain op h = at (bytes_eq op (codes "=")) refl
  where
    at : (b : Bool) → bytes_eq op (codes "=") ≡ b → b ≡ false
    at true e = absurd (true≢false (sym h ∙ ap is_logical_assignment_operator (bytes_eq-equal op (codes "=") e)))
    at false e = refl

pub assigning-sound : RowSound LogicalAssignmentRule
assigning-sound n w bs t u (to_name {m = m} {t = target} {r = r} {op = op} e1 e2 e3 e4) = record { source = refl; leaves = λ h. let p = below refl (other-word m op e1 (not-plain op e2) (one target then one r then done)) h in made refl (above refl tt, (above refl (above refl tt, (p.1.0, tt)), tt)) }
assigning-sound n w bs t u (to_static_member {m = m} {t = target} {r = r} {o = o} {o1 = o1} {o2 = o2} {op = op} {xs = xs} e1 e2 e3 e4 e5 d) = record {
  source = refl;
  leaves = λ h.
      let p = below refl (other-word m op e1 (not-plain op e2) (one target then one r then done)) h in
      let parts = duplicated-sound w xs o o1 o2 d (below refl refl (inner-is target _ e4 p.0).free).0 in
      made refl (above refl (parts.0, (above refl tt, tt)), (above refl (above refl (parts.1, (above refl tt, tt)), (p.1.0, tt)), tt));
}
assigning-sound n w bs t u (to_computed_member {m = m} {t = target} {r = r} {o = o} {o1 = o1} {o2 = o2} {k = k} {k1 = k1} {k2 = k2} {op = op} {xs = xs} {ys = ys} e1 e2 e3 e4 e5 d1 d2) = record {
  source = refl;
  leaves = λ h.
      let p = below refl (other-word m op e1 (not-plain op e2) (one target then one r then done)) h in
      let within = below refl refl (inner-is target _ e4 p.0).free in
      let parts = duplicated-sound w xs o o1 o2 d1 within.0 in
      let keys = duplicated-sound _ ys k k1 k2 d2 within.1.0 in
      made refl (above refl (parts.0, (keys.0, tt)), (above refl (above refl (parts.1, (keys.1, tt)), (p.1.0, tt)), tt));
}

-- EXPONENTIATION

holds-sound : (names : Option ℕ → Bool) (w : Whole) (xs : List Bound) (fs : List Tree) (o o' : Tree) → Holds names w xs fs o o' → Sound o → SoundAll (trees fs) × Sound o'
holds-sound names w xs fs o o' (where_it_is e) h = (tt, h)
holds-sound names w xs fs o o' (held_in_temporary {x = x} e next) h = ((stored x o h, tt), name x)

record TwiceSound (fs : List Tree) (t u : Tree) : Type 0 where
  front : SoundAll (trees fs)
  target : Sound t
  read : Sound u

twice-sound : (w : Whole) (xs : List Bound) (fs : List Tree) (t target read : Tree) → TargetTwice w xs fs t target read → Sound t → TwiceSound fs target read
twice-sound w xs fs t target read (bound_name e) h = record { front = tt; target = h; read = h }
twice-sound w xs fs t target read (other_name {x = x} e next) h = record { front = (stored x t h, tt); target = h; read = name x }
twice-sound w xs fs t target read (static_member {o = o} {o' = o'} e held) h =
    let k = holds-sound _ w xs fs o o' held (below refl refl h.free).0 in
    record { front = k.0; target = above refl (k.1, (above refl tt, tt)); read = above refl (k.1, (above refl tt, tt)) }
twice-sound w xs fs t target read (private_member {o = o} {o' = o'} e held) h =
    let k = holds-sound _ w xs fs o o' held (below refl refl h.free).0 in
    record { front = k.0; target = above refl (k.1, (above refl tt, tt)); read = above refl (k.1, (above refl tt, tt)) }
twice-sound w xs fs t target read (literal_key {o = o} {o' = o'} e1 e2 held) h =
    let p = below refl refl h.free in
    let k = holds-sound _ w xs fs o o' held p.0 in
    record { front = k.0; target = above refl (k.1, (p.1.0, tt)); read = above refl (k.1, (p.1.0, tt)) }
twice-sound w xs fs t target read (other_key {o = o} {o' = o'} {k = key} {xs = ys} {fs = gs} {y = y} e1 e2 held next) h =
    let p = below refl refl h.free in
    let k = holds-sound _ w ys gs o o' held p.0 in
    record { front = append-sound gs (assign_node (identifier y) key ∷ []) k.0 (stored y key p.1.0, tt); target = above refl (k.1, (name y, tt)); read = above refl (k.1, (name y, tt)) }

pub raising-sound : RowSound ExponentiationRule
raising-sound n w bs t u (power f e1 e2 e3) = record { source = refl; leaves = λ h. let p = below refl refl h in made refl (above refl (above refl tt, (above refl tt, tt)), ((p.0, (p.1.0, tt)), tt)) }
raising-sound n w bs t u (power_assignment {m = m} {t = left} {r = r} {target = target} {read = read} {xs = xs} {fs = []} f e1 e2 e3 d) = record {
  source = refl;
  leaves = λ h.
      let p = below refl (other-word m (codes "**=") e1 refl (one left then one r then done)) h in
      let k = twice-sound w xs [] (without_parens left) target read d (inner left p.0) in
      made refl (k.target, (above refl (above refl (above refl tt, (above refl tt, tt)), ((k.read, (p.1.0, tt)), tt)), tt));
}
raising-sound n w bs t u (power_assignment {m = m} {t = left} {r = r} {target = target} {read = read} {xs = xs} {fs = g ∷ gs} f e1 e2 e3 d) = record {
  source = refl;
  leaves = λ h.
      let p = below refl (other-word m (codes "**=") e1 refl (one left then one r then done)) h in
      let k = twice-sound w xs (g ∷ gs) (without_parens left) target read d (inner left p.0) in
      made refl (append-sound (g ∷ gs) (_ ∷ []) k.front (above refl (k.target, (above refl (above refl (above refl tt, (above refl tt, tt)), ((k.read, (p.1.0, tt)), tt)), tt)), tt), tt);
}

-- OPTIONAL CHAINING

record WaySound (w : Way) : Type 0 where
  tests : SoundAll (trees w.tests)
  current : Sound w.current

checks-sound : (no_all : Bool) (e again : Tree) → Sound e → Sound again → SoundAll (trees (null_checks no_all e again))
checks-sound true e again h k = (above refl (h, (above refl tt, tt)), tt)
checks-sound false e again h k = (above refl (h, (above refl tt, tt)), (above refl (k, (above refl (above refl tt, tt), tt)), tt))

-- the tests once this is stored
stored-sound : (no_all : Bool) (ts : List Tree) (c : Bound) (e : Tree) → SoundAll (trees ts) → Sound e → SoundAll (trees (ts ++ null_checks no_all (assign_node (identifier c) e) (identifier c)))
stored-sound no_all ts c e h k = append-sound ts (null_checks no_all (assign_node (identifier c) e) (identifier c)) h (checks-sound no_all (assign_node (identifier c) e) (identifier c) (stored c e k) (name c))

received-sound : (to_this : Tree → Bool) (w : Whole) (holder : Option Bound) (xs : List Bound) (o o1 r : Tree) → Receives to_this w holder xs o o1 r → Sound o → Sound o1 × Sound r
received-sound to_this w holder xs o o1 r (by_this e) h = (h, above refl tt)
received-sound to_this w holder xs o o1 r (by_name e1 e2) h = (h, h)
received-sound to_this w holder xs o o1 r (received_by_temporary {r = c} e1 e2 next) h = (stored c o h, name c)

name-sound : (no_all : Bool) (w : Way) → WaySound w → SoundAll (trees (null_checks no_all (without_parens w.current) (without_parens w.current)))
name-sound no_all w h = let k = inner w.current h.current in checks-sound no_all (without_parens w.current) (without_parens w.current) k k

before-sound : (no_all : Bool) (known : Whole) (w u : Way) → Tested no_all known w u → WaySound w → WaySound u
before-sound no_all known w u (as_name e1 e2) h = record { tests = name-sound no_all w h; current = inner w.current h.current }
before-sound no_all known w u (in_holder {x = x} e) h = record { tests = stored-sound no_all w.tests x (without_parens w.current) h.tests (inner w.current h.current); current = name x }
before-sound no_all known w u (in_temporary {x = x} e1 e2 next) h = record { tests = stored-sound no_all w.tests x (without_parens w.current) h.tests (inner w.current h.current); current = name x }

-- a callee is stored with its receiver
method-sound : (no_all : Bool) (l : Label) (arguments : Trees) (w : Way) (names : List Bound) (c : Bound) (callee r : Tree) → WaySound w → Sound callee → Sound r → SoundAll arguments → WaySound (stored_call no_all l arguments w names c callee r)
method-sound no_all l arguments w names c callee r h k m a = record { tests = stored-sound no_all w.tests c callee h.tests k; current = above refl (above refl (name c, (above refl tt, tt)), ((m, a), tt)) }

called-sound : (no_all : Bool) (known : Whole) (l : Label) (arguments : Trees) (w u : Way) → Called no_all known l arguments w u → SoundAll arguments → WaySound w → WaySound u
called-sound no_all known l arguments w u (called_by_name e1 e2) a h = record { tests = name-sound no_all w h; current = above refl (inner w.current h.current, (a, tt)) }
called-sound no_all known l arguments w u (by_value {c = c} e1 e2 next) a h = record { tests = stored-sound no_all w.tests c (without_parens w.current) h.tests (inner w.current h.current); current = above refl (name c, (a, tt)) }
called-sound no_all known l arguments w u (by_first_member {k = k} {computed = computed} {o = o} {o1 = o1} {p = p} {r = r} {c = c} {xs = xs} e1 e2 e3 next received) a h =
    let within = below refl refl (inner-is w.current _ e2 h.current).free in
    let parts = received-sound _ _ w.holder xs o o1 r received within.0 in
    method-sound no_all l arguments w (c ∷ xs) c (member_at k computed o1 p) r h (above refl (parts.0, (within.1.0, tt))) parts.1 a
called-sound no_all known l arguments w u (by_later_member {k = k} {computed = computed} {o = o} {o1 = o1} {p = p} {r = r} {c = c} {xs = xs} e1 e2 e3 received next) a h =
    let within = below refl refl (inner-is w.current _ e2 h.current).free in
    let parts = received-sound _ _ w.holder xs o o1 r received within.0 in
    method-sound no_all l arguments w (xs ++ c ∷ []) c (member_at k computed o1 p) r h (above refl (parts.0, (within.1.0, tt))) parts.1 a

mutual
  walked-sound : (no_all : Bool) (known : Whole) (e : Tree) (w : Way) → Walked no_all known e w → Sound e → WaySound w
  walked-sound no_all known e w (base e1 e2) h = record { tests = tt; current = h }
  walked-sound no_all known e w (plain_member {o = o} {w = v} flags d) h = let p = below refl refl h.free in let k = walked-sound no_all known o v d p.0 in record { tests = k.tests; current = above refl (k.current, (p.1.0, tt)) }
  walked-sound no_all known e w (plain_call {f = f} {w = v} flags d) h = let p = below refl refl h.free in let k = walked-sound no_all known f v d p.0 in record { tests = k.tests; current = above refl (k.current, (p.1.0, tt)) }
  walked-sound no_all known e w (marked_member {o = o} {w = v} {u = u} flags d t) h =
      let p = below refl refl h.free in
      let k = before-sound no_all known v u t (continued-sound no_all known o v d p.0) in
      record { tests = k.tests; current = above refl (k.current, (p.1.0, tt)) }
  walked-sound no_all known e w (marked_call {l = l} {f = f} {arguments = arguments} {w = v} {u = u} flags d t) h = let p = below refl refl h.free in called-sound no_all known l arguments v u t p.1.0 (continued-sound no_all known f v d p.0)

  continued-sound : (no_all : Bool) (known : Whole) (e : Tree) (w : Way) → Continued no_all known e w → Sound e → WaySound w
  continued-sound no_all known e w (same_spine s d) h = walked-sound no_all known e w d h
  continued-sound no_all known e w (inner_spine {c = c} s alone e1 d) h = walked-sound no_all known c w d (below refl refl (inner-is e _ e1 h).free).0

bound-sound : (w : Whole) (holder : Option Bound) (xs : List Bound) (e d : Tree) → BoundCallee w holder xs e d → Sound e → Sound d
bound-sound w holder xs e d (no_member m) h = h
bound-sound w holder xs e d (to_object {o = o} {o1 = o1} {r = r} flags received) h =
    let p = below refl refl h.free in
    let parts = received-sound _ w holder xs o o1 r received p.0 in
    above refl (above refl (above refl (parts.0, (p.1.0, tt)), (above refl tt, tt)), ((parts.1, tt), tt))

or-sound : (t : Tree) (ts : List Tree) → Sound t → SoundAll (trees ts) → Sound (joined_by_or t ts)
or-sound t [] h k = h
or-sound t (u ∷ us) h k = or-sound _ us (above refl (h, (k.0, tt))) k.1

short-sound : (m : Label) (ts : List Tree) (a b : Tree) → has_tests ts ≡ true → SoundAll (trees ts) → Sound a → Sound b → Replaced (where_short m ts a b)
short-sound m [] a b e h f g = absurd (true≢false (sym e))
short-sound m (t ∷ ts) a b e h f g = made refl (or-sound t ts h.0 h.1, (f, (g, tt)))

pub chaining-sound : (no_all : Bool) → RowSound (OptionalChainingRule no_all)
chaining-sound no_all n w bs t u (by_tests {m = m} {e = e} {w = v} level d some) = record {
  source = refl;
  leaves = λ h.
      let k = walked-sound no_all w e v d (below refl refl h).0 in
      short-sound m v.tests _ _ some k.tests (above refl (above refl tt, tt)) k.current;
}
chaining-sound no_all n w bs t u (as_callee {m = m} {e = e} {d = c} {w = v} {xs = xs} level d some bound) = record {
  source = refl;
  leaves = λ h.
      let k = walked-sound no_all w e v d (below refl refl h).0 in
      short-sound m v.tests _ _ some k.tests (above refl (above refl tt, tt)) (bound-sound _ v.holder xs v.current c bound k.current);
}
chaining-sound no_all n w bs t u (in_delete {m = m} {t = target} {e = e} {w = v} texts alone e1 d some) = record {
  source = refl;
  leaves = λ h.
      let k = walked-sound no_all w e v d (below refl refl (inner-is target _ e1 (below refl refl h).0).free).0 in
      short-sound m v.tests _ _ some k.tests (above refl tt) (above refl (k.current, tt));
}

-- OBJECT SPREAD

-- the copy so far
abbrev CopySound : Option Tree → Type 0
CopySound None = Unit {0}
CopySound (Some c) = Replaced c

literal-sound : (ps : List Tree) → SoundAll (trees ps) → Replaced (object_node ps)
literal-sound ps h = made refl (h, tt)

copied-sound : (f : Tree) (c : Option Tree) (ps : List Tree) (e : Tree) → Sound f → CopySound c → SoundAll (trees ps) → Sound e → Replaced (copied f c ps e)
copied-sound f None ps e hf hc hp he = made refl (hf, (((literal-sound ps hp).sound, (he, tt)), tt))
copied-sound f (Some c) [] e hf hc hp he = made refl (hf, ((hc.sound, (he, tt)), tt))
copied-sound f (Some c) (p ∷ ps) e hf hc hp he = made refl (hf, ((hc.sound, ((literal-sound [] tt).sound, ((literal-sound (p ∷ ps) hp).sound, (he, tt)))), tt))

last-sound : (f : Tree) (c : Option Tree) (ps : List Tree) → Sound f → CopySound c → SoundAll (trees ps) → Replaced (last_copied f c ps)
last-sound f None ps hf hc hp = literal-sound ps hp
last-sound f (Some c) [] hf hc hp = hc
last-sound f (Some c) (p ∷ ps) hf hc hp = made refl (hf, ((hc.sound, ((literal-sound [] tt).sound, ((literal-sound (p ∷ ps) hp).sound, tt))), tt))

copies-sound : (f : Tree) (c : Option Tree) (ps : List Tree) (ts : Trees) (u : Tree) → Copies f c ps ts u → Sound f → CopySound c → SoundAll (trees ps) → SoundAll ts → Replaced u
copies-sound f c ps ts u no_more hf hc hp h = last-sound f c ps hf hc hp
copies-sound f c ps ts u (copies {e = e} {ts = rest} d) hf hc hp h = copies-sound f _ [] rest u d hf (copied-sound f c ps e hf hc hp (below refl refl h.0.free).0) tt h.1
copies-sound f c ps ts u (keeps {t = t} {ts = rest} other d) hf hc hp h = copies-sound f c (ps ++ t ∷ []) rest u d hf hc (append-sound ps (t ∷ []) hp (h.0, tt)) h.1

pub spreading-sound : RowSound SpreadRule
spreading-sound n w bs t u (spreads {m = m} {ps = ps} {u = v} unbound used some quiet d) = record {
  source = refl;
  leaves = λ h. moved m v (copies-sound _ None [] ps v d (above refl (above refl tt, (above refl tt, tt))) tt tt (below refl refl h).0);
}

-- RESTS IN ASSIGNMENTS

each-sound : (ts : List Tree) → EachTree Sound ts → SoundAll (trees ts)
each-sound [] h = tt
each-sound (t ∷ ts) h = (h.0, each-sound ts h.1)

elements-sound : (ts : List Tree) → EachTree Sound ts → SoundIn (fields (map one ts))
elements-sound [] h = tt
elements-sound (t ∷ ts) h = (h.0, elements-sound ts h.1)

nodes-sound : NodesRight Sound
nodes-sound = record {
  name = λ x. name x;
  text = λ x. above refl tt;
  member = λ o x h. above refl (h, (above refl tt, tt));
  array = λ ts h. above refl (elements-sound ts h);
  object = above refl (tt, tt);
  call = λ f ts h k. above refl (h, (each-sound ts k, tt));
  sequence = λ m ts h. above refl (each-sound ts h, tt);
  assignment = λ t e d h k. above refl (h, (k, tt));
  group = λ l ps d h. group-sound d (each-sound ps h);
  key = λ l k v h. (below refl refl h.free).0;
  keyed = λ l k v x h. above refl (name x, (below refl refl h.free).1);
  rest = λ l t h. below-rest h;
}

among-sound : (ps : Trees) → SoundAll ps → EachAmong Sound ps
among-sound empty h = tt
among-sound (p before ps) h = (h.0, among-sound ps h.1)

pub assigning_rest-sound : RowSound RestAssignmentRule
assigning_rest-sound n w bs t u (assigns {m = m} {lp = lp} {ps = ps} {e = e} {x = x} {xs = xs} {us = us} unbound used texts silent next takes) = record {
  source = refl;
  leaves = λ h. let p = below-pattern h in record { sound = row-right Sound nodes-sound _ lp m ps e x xs us (is_unused n.above) takes (among-sound ps p.0) p.1; ordinary = refl; unassigned = refl };
}
