-- Weights and sizes of what the rows of optional chaining make: a marked member pays for eleven nodes and a temporary, a
-- marked call for sixteen and two, and a chain for the choice's other side and a bound member.
use Rattle.std.proofs.Common.{◌≡◌, ℕ, ◌+◌, ◌*◌, ◌≤◌, refl, ap, subst, append-nil, ◌∙◌, List, [], ◌∷◌, ◌++◌, length, length-append, arith}
use Rattle.std.specs.Prelude.{Bool, true, false, codes, Option, Some}
use Rattle.es_tree.specs.Words.{Text}
use Rattle.es_tree.specs.Parens.{without_parens}
use Rattle.es_tree.specs.Tree.{Tree, node, Label, done, ◌then◌, missing, one, many, statements, Trees, trees, tree_size, trees_size}
use Rattle.es_tree.specs.declared.ast_type.AstType.TheVariants.{CallExpression, ChainExpression, Identifier, MemberExpression, ParenthesizedExpression, UnaryExpression}
use Rattle.es_runs.specs.Alike.{Need}
use Rattle.es_runs.specs.OptionalChainingWeights.{stripped, AffordsRow, AffordsWay, way_size, way_weight}
use Rattle.es_runs.specs.OptionalChaining.{BoundCallee, Called, Continued, OptionalChainingRule, Receives, Tested, Walked, Way, call_at, delete_node, has_tests, is_name_among, joined_by_or, member_at, or_held, start, stored_call, null_checks, true_node, where_short}
use Rattle.es_runs.specs.OptionalChaining.Receives.{by_this, by_name, by_temporary}
use Rattle.es_runs.specs.OptionalChaining.Tested.{as_name, in_holder, in_temporary}
use Rattle.es_runs.specs.OptionalChaining.Called.{by_name as by_called_name, by_value, by_first_member, by_later_member}
use Rattle.es_runs.specs.OptionalChaining.Walked.{base, plain_member, plain_call, marked_member, marked_call}
use Rattle.es_runs.specs.OptionalChaining.Continued.{same_spine, inner_spine}
use Rattle.es_runs.specs.OptionalChaining.BoundCallee.{no_member, to_object}
use Rattle.es_runs.specs.OptionalChaining.OptionalChainingRule.{by_tests, as_callee, in_delete}
use Rattle.es_runs.specs.Rules.{assign_node, logical_node, void_zero_node}
use Rattle.es_runs.specs.Runs.{identifier}
use Rattle.es_runs.specs.Weights.{trees_weight, weight}

-- BELOW PARENTHESES

pub stripped_weight : (t : Tree) → weight (without_parens t) ≤ weight t
stripped_weight (node ParenthesizedExpression l (one t then fs)) = let h = stripped_weight t in omega arith
stripped_weight (node ParenthesizedExpression l done) = omega arith
stripped_weight (node ParenthesizedExpression l (missing then fs)) = omega arith
stripped_weight (node ParenthesizedExpression l (many ts then fs)) = omega arith
stripped_weight (node ParenthesizedExpression l (statements ts then fs)) = omega arith
stripped_weight (node _ l fs) = omega arith

pub stripped_size : (t : Tree) → tree_size (without_parens t) ≤ tree_size t
stripped_size (node ParenthesizedExpression l (one t then fs)) = let h = stripped_size t in omega arith
stripped_size (node ParenthesizedExpression l done) = omega arith
stripped_size (node ParenthesizedExpression l (missing then fs)) = omega arith
stripped_size (node ParenthesizedExpression l (many ts then fs)) = omega arith
stripped_size (node ParenthesizedExpression l (statements ts then fs)) = omega arith
stripped_size (node _ l fs) = omega arith

-- SOURCES

pub marked_member_weight : (l : Label) (computed : Bool) (o p : Tree) → l.flags ≡ computed ∷ true ∷ [] → weight (node MemberExpression l (one o then (one p then done))) ≡ 29 + weight o + weight p
marked_member_weight l computed o p flags = rw flags (omega arith)

pub plain_member_weight : (l : Label) (computed : Bool) (o p : Tree) → l.flags ≡ computed ∷ false ∷ [] → weight (node MemberExpression l (one o then (one p then done))) ≡ 1 + weight o + weight p
plain_member_weight l computed o p flags = rw flags (omega arith)

pub marked_call_weight : (l : Label) (f : Tree) (ts : Trees) → l.flags ≡ true ∷ [] → weight (node CallExpression l (one f then (many ts then done))) ≡ 45 + weight f + trees_weight ts
marked_call_weight l f ts flags = rw flags (omega arith)

pub plain_call_weight : (l : Label) (f : Tree) (ts : Trees) → l.flags ≡ false ∷ [] → weight (node CallExpression l (one f then (many ts then done))) ≡ 1 + weight f + trees_weight ts
plain_call_weight l f ts flags = rw flags (omega arith)

-- a name is one node
pub record Single (t : Tree) : Type 0 where
  pub light : weight t ≡ 1
  pub small : tree_size t ≡ 1

pub single_name : (names : Text → Bool) (t : Tree) → is_name_among names t ≡ true → Single t
single_name names (node Identifier l done) h = record { light = refl; small = refl }
single_name names (node Identifier l (f then fs)) h = absurd (cc h)
single_name names (node _ l fs) h = absurd (cc h)

-- TESTS

pub tests_weight-append : (ts us : List Tree) → trees_weight (trees (ts ++ us)) ≡ trees_weight (trees ts) + trees_weight (trees us)
tests_weight-append [] us = omega arith
tests_weight-append (t ∷ ts) us = let h = tests_weight-append ts us in omega arith

pub tests_size-append : (ts us : List Tree) → trees_size (trees (ts ++ us)) ≡ trees_size (trees ts) + trees_size (trees us)
tests_size-append [] us = omega arith
tests_size-append (t ∷ ts) us = let h = tests_size-append ts us in omega arith

-- of an expression that is read again as one node
pub record FewTests (e : Tree) (ts : List Tree) : Type 0 where
  pub own : ℕ
  pub few : own ≤ 6
  pub two : length ts ≤ 2
  pub weigh : trees_weight (trees ts) ≡ own + weight e
  pub size : trees_size (trees ts) ≡ own + tree_size e

pub few_tests : (no_all : Bool) (e again : Tree) → Single again → FewTests e (null_checks no_all e again)
few_tests true e again h = record { own = 2; few = omega arith; two = omega arith; weigh = omega arith; size = omega arith }
few_tests false e again h = record { own = 6; few = omega arith; two = omega arith; weigh = omega arith; size = omega arith }

-- RECEIVERS

-- of an object with what is written for it and what is read as the receiver, so many nodes more
pub record FewReceivers (xs : List Text) (o o1 r : Tree) : Type 0 where
  pub own : ℕ
  pub few : own ≤ 5
  pub names : length xs ≤ 1
  pub paid : own + 4 * length xs + weight o1 + weight r ≤ weight o + 12
  pub size : tree_size o1 + tree_size r + 2 * length xs ≡ own + tree_size o

pub few_receivers : {to_this : Tree → Bool} {steady in_use : Text → Bool} {holder : Option Text} {xs : List Text} {o o1 r : Tree} → Receives to_this steady in_use holder xs o o1 r → FewReceivers xs o o1 r
few_receivers (by_this h) = record { own = 1; few = omega arith; names = omega arith; paid = omega arith; size = omega arith }
few_receivers {steady = steady} {holder = holder} (by_name {o = o} h named) = let s = single_name (or_held holder steady) o named in record { own = 1; few = omega arith; names = omega arith; paid = omega arith; size = omega arith }
few_receivers (by_temporary h named fresh) = record { own = 5; few = omega arith; names = omega arith; paid = omega arith; size = omega arith }

-- STEPS

-- A step made so many nodes, the declarators of temporaries among them, and weighs at most so much more.
pub record FewMade (most heaviest kept weigh : ℕ) (w u : Way) : Type 0 where
  pub made : ℕ
  pub few : made ≤ most
  pub size : way_size u ≡ made + kept + way_size (stripped w)
  pub paid : made + way_weight u ≤ heaviest + weigh + way_weight (stripped w)

-- the current expression is read again
read_again_few : (no_all : Bool) (w : Way) → w.tests ≡ [] → Single (without_parens w.current) → FewMade 7 18 0 0 w (record w { tests = null_checks no_all (without_parens w.current) (without_parens w.current); current = without_parens w.current })
read_again_few no_all w none s =
    let t = few_tests no_all (without_parens w.current) (without_parens w.current) s in
    let n = ap (λ (ts : List Tree). length ts) none in
    let k = ap (λ (ts : List Tree). trees_size (trees ts)) none in
    let g = ap (λ (ts : List Tree). trees_weight (trees ts)) none in
    record { made = t.own + 1; few = omega arith; size = omega arith; paid = omega arith }

-- or it is stored
stored_few : (no_all : Bool) (w : Way) (x : Text) (holder : Option Text) (xs : List Text) → length xs ≤ 1 →
    FewMade 11 28 0 0 w (record { tests = w.tests ++ null_checks no_all (assign_node (identifier x) (without_parens w.current)) (identifier x); current = identifier x; holder = holder; taken = w.taken ++ xs })
stored_few no_all w x holder xs h =
    let e = assign_node (identifier x) (without_parens w.current) in
    let t = few_tests no_all e (identifier x) (record { light = refl; small = refl }) in
    let n = length-append w.tests (null_checks no_all e (identifier x)) in
    let k = tests_size-append w.tests (null_checks no_all e (identifier x)) in
    let g = tests_weight-append w.tests (null_checks no_all e (identifier x)) in
    let m = length-append w.taken xs in
    record { made = t.own + 3 + 2 * length xs; few = omega arith; size = omega arith; paid = omega arith }

-- within larger bounds
more_made : {m h kept weigh : ℕ} {w u : Way} (most heaviest : ℕ) → m ≤ most → h ≤ heaviest → FewMade m h kept weigh w u → FewMade most heaviest kept weigh w u
more_made most heaviest m h f = record { made = f.made; few = omega arith; size = f.size; paid = omega arith }

-- a call of what is current
call_made : {most heaviest : ℕ} (l : Label) (ts : Trees) (w u : Way) → FewMade most heaviest 0 0 w u → FewMade most heaviest (1 + trees_size ts) (1 + trees_weight ts) w (record u { current = call_at l u.current ts })
call_made l ts w u f = record { made = f.made; few = f.few; size = omega arith; paid = omega arith }

-- a callee is stored with its receiver
stored_callee_few : (no_all : Bool) (l k : Label) (computed : Bool) (ts : Trees) (w : Way) (names xs : List Text) (c : Text) (o o1 p r : Tree) → without_parens w.current ≡ node MemberExpression k (one o then (one p then done)) → k.flags ≡ computed ∷ false ∷ [] → length names ≡ 1 + length xs → FewReceivers xs o o1 r →
    FewMade 18 44 (1 + trees_size ts) (1 + trees_weight ts) w (stored_call no_all l ts w names c (member_at k computed o1 p) r)
stored_callee_few no_all l k computed ts w names xs c o o1 p r is flags count f =
    let e = assign_node (identifier c) (member_at k computed o1 p) in
    let t = few_tests no_all e (identifier c) (record { light = refl; small = refl }) in
    let n = length-append w.tests (null_checks no_all e (identifier c)) in
    let s = tests_size-append w.tests (null_checks no_all e (identifier c)) in
    let g = tests_weight-append w.tests (null_checks no_all e (identifier c)) in
    let m = length-append w.taken names in
    let small = ap tree_size is in
    let light = ap weight is ∙ plain_member_weight k computed o p flags in
    record { made = t.own + 7 + f.own; few = omega arith; size = omega arith; paid = omega arith }

pub tested_few : {no_all : Bool} {bound in_use : Text → Bool} {w u : Way} → Tested no_all bound in_use w u → FewMade 11 28 0 0 w u
tested_few {no_all} {bound} (as_name {w = w} none named) = more_made 11 28 (omega arith) (omega arith) (read_again_few no_all w none (single_name bound (without_parens w.current) named))
tested_few {no_all} (in_holder {w = w} {x = x} held) = subst (λ (xs : List Text). FewMade 11 28 0 0 w (record w { tests = w.tests ++ null_checks no_all (assign_node (identifier x) (without_parens w.current)) (identifier x); current = identifier x; taken = xs })) (append-nil w.taken) (stored_few no_all w x w.holder [] (omega arith))
tested_few {no_all} (in_temporary {w = w} {x = x} apart held fresh) = stored_few no_all w x (Some x) (x ∷ []) (omega arith)

pub called_few : {no_all : Bool} {bound steady in_use : Text → Bool} {l : Label} {ts : Trees} {w u : Way} → Called no_all bound steady in_use l ts w u → FewMade 18 44 (1 + trees_size ts) (1 + trees_weight ts) w u
called_few {no_all} {bound} {l = l} {ts = ts} (by_called_name {w = w} none named) = more_made 18 44 (omega arith) (omega arith) (call_made l ts w _ (read_again_few no_all w none (single_name bound (without_parens w.current) named)))
called_few {no_all} {l = l} {ts = ts} (by_value {w = w} {c = c} apart other fresh) = more_made 18 44 (omega arith) (omega arith) (call_made l ts w _ (stored_few no_all w c (Some c) (c ∷ []) (omega arith)))
called_few {no_all} {l = l} {ts = ts} (by_first_member {w = w} {k = k} {computed = computed} {o = o} {o1 = o1} {p = p} {r = r} {c = c} {xs = xs} none is flags fresh receives) =
    stored_callee_few no_all l k computed ts w (c ∷ xs) xs c o o1 p r is flags (omega arith) (few_receivers receives)
called_few {no_all} {l = l} {ts = ts} (by_later_member {w = w} {k = k} {computed = computed} {o = o} {o1 = o1} {p = p} {r = r} {c = c} {xs = xs} some is flags receives fresh) =
    stored_callee_few no_all l k computed ts w (xs ++ c ∷ []) xs c o o1 p r is flags (let h = length-append xs (c ∷ []) in omega arith) (few_receivers receives)

-- SPINES

-- Some number of ids affords a way.
pub record IsAfforded (e : Tree) (w : Way) : Type 0 where
  pub ids : ℕ
  pub affords : AffordsWay ids e w

pub start_affords : (e : Tree) → AffordsWay 0 e (start e)
start_affords e = record { nodes = omega arith; lighter = omega arith }

pub plain_member_affords : (l : Label) (computed : Bool) (o p : Tree) (w : Way) {ids : ℕ} → l.flags ≡ computed ∷ false ∷ [] → AffordsWay ids o w → AffordsWay ids (node MemberExpression l (one o then (one p then done))) (record w { current = member_at l computed w.current p })
plain_member_affords l computed o p w flags a = let h = plain_member_weight l computed o p flags in record { nodes = omega (arith, a.nodes); lighter = omega (arith, a.lighter, h) }

pub plain_call_affords : (l : Label) (f : Tree) (ts : Trees) (w : Way) {ids : ℕ} → l.flags ≡ false ∷ [] → AffordsWay ids f w → AffordsWay ids (node CallExpression l (one f then (many ts then done))) (record w { current = call_at l w.current ts })
plain_call_affords l f ts w flags a = let h = plain_call_weight l f ts flags in record { nodes = omega (arith, a.nodes); lighter = omega (arith, a.lighter, h) }

-- a marked step that makes so many nodes and takes an id for each
pub marked_member_affords : (l : Label) (computed : Bool) (o p : Tree) (w u : Way) {ids : ℕ} (more : ℕ) → l.flags ≡ computed ∷ true ∷ [] → AffordsWay ids o w → FewMade 11 28 0 0 w u → way_size u ≡ more + way_size (stripped w) →
    AffordsWay (ids + more) (node MemberExpression l (one o then (one p then done))) (record u { current = member_at l computed u.current p })
marked_member_affords l computed o p w u more flags a f counted =
    let h = marked_member_weight l computed o p flags in
    let light = stripped_weight w.current in
    let small = stripped_size w.current in
    record { nodes = omega arith; lighter = omega arith }

pub marked_call_affords : (l : Label) (f : Tree) (ts : Trees) (w u : Way) {ids : ℕ} (more : ℕ) → l.flags ≡ true ∷ [] → AffordsWay ids f w → FewMade 18 44 (1 + trees_size ts) (1 + trees_weight ts) w u → way_size u ≡ more + (1 + trees_size ts) + way_size (stripped w) →
    AffordsWay (ids + more) (node CallExpression l (one f then (many ts then done))) u
marked_call_affords l f ts w u more flags a few counted =
    let h = marked_call_weight l f ts flags in
    let light = stripped_weight w.current in
    let small = stripped_size w.current in
    record { nodes = omega arith; lighter = omega arith }

-- a chain in parentheses is given up
pub inner_affords : (e c : Tree) (l : Label) (w : Way) {ids : ℕ} → without_parens e ≡ node ChainExpression l (one c then done) → AffordsWay ids c w → AffordsWay ids e w
inner_affords e c l w is a =
    let light = stripped_weight e in
    let small = stripped_size e in
    let n = ap tree_size is in
    let g = ap weight is in
    record { nodes = omega arith; lighter = omega arith }

mutual
  pub walked_afforded : {no_all : Bool} {bound steady in_use : Text → Bool} {e : Tree} {w : Way} → Walked no_all bound steady in_use e w → IsAfforded e w
  walked_afforded (base {e = e} none) = record { ids = 0; affords = start_affords e }
  walked_afforded (plain_member {l = l} {computed = computed} {o = o} {p = p} {w = w} flags walked) = let h = walked_afforded walked in record { ids = h.ids; affords = plain_member_affords l computed o p w flags h.affords }
  walked_afforded (plain_call {l = l} {f = f} {arguments = ts} {w = w} flags walked) = let h = walked_afforded walked in record { ids = h.ids; affords = plain_call_affords l f ts w flags h.affords }
  walked_afforded (marked_member {l = l} {computed = computed} {o = o} {p = p} {w = w} {u = u} flags continued tested) =
      let h = continued_afforded continued in
      let f = tested_few tested in
      record { ids = h.ids + f.made; affords = marked_member_affords l computed o p w u f.made flags h.affords f (omega arith) }
  walked_afforded (marked_call {l = l} {f = callee} {arguments = ts} {w = w} {u = u} flags continued called) =
      let h = continued_afforded continued in
      let f = called_few called in
      record { ids = h.ids + f.made; affords = marked_call_affords l callee ts w u f.made flags h.affords f (omega arith) }

  pub continued_afforded : {no_all : Bool} {bound steady in_use : Text → Bool} {e : Tree} {w : Way} → Continued no_all bound steady in_use e w → IsAfforded e w
  continued_afforded (same_spine here walked) = walked_afforded walked
  continued_afforded (inner_spine {e = e} {c = c} {l = l} {w = w} none is walked) = let h = walked_afforded walked in record { ids = h.ids; affords = inner_affords e c l w is h.affords }

-- ROWS

pub joined_weight : (t : Tree) (us : List Tree) → weight (joined_by_or t us) ≡ weight t + trees_weight (trees us) + length us
joined_weight t [] = omega arith
joined_weight t (u ∷ us) = let h = joined_weight (logical_node (codes "||") t u) us in omega arith

pub joined_size : (t : Tree) (us : List Tree) → tree_size (joined_by_or t us) ≡ tree_size t + trees_size (trees us) + length us
joined_size t [] = omega arith
joined_size t (u ∷ us) = let h = joined_size (logical_node (codes "||") t u) us in omega arith

pub short_weight : (m : Label) (ts : List Tree) (short long : Tree) → has_tests ts ≡ true → weight (where_short m ts short long) ≡ trees_weight (trees ts) + length ts + weight short + weight long
short_weight m [] short long h = absurd (cc h)
short_weight m (t ∷ ts) short long h = let k = joined_weight t ts in omega arith

pub short_size : (m : Label) (ts : List Tree) (short long : Tree) → has_tests ts ≡ true → tree_size (where_short m ts short long) ≡ trees_size (trees ts) + length ts + tree_size short + tree_size long
short_size m [] short long h = absurd (cc h)
short_size m (t ∷ ts) short long h = let k = joined_size t ts in omega arith

-- a callee that is bound, so many nodes more
pub record FewBound (xs : List Text) (e d : Tree) : Type 0 where
  pub own : ℕ
  pub few : own ≤ 8
  pub paid : own + 4 * length xs + weight d ≤ weight e + 18
  pub size : tree_size d + 2 * length xs ≡ own + tree_size e

pub bound_few : {steady in_use : Text → Bool} {holder : Option Text} {xs : List Text} {e d : Tree} → BoundCallee steady in_use holder xs e d → FewBound xs e d
bound_few (no_member none) = record { own = 0; few = omega arith; paid = omega arith; size = omega arith }
bound_few (to_object {k = k} {computed = computed} {o = o} {p = p} flags receives) =
    let f = few_receivers receives in
    let h = plain_member_weight k computed o p flags in
    record { own = f.own + 3; few = omega arith; paid = omega arith; size = omega arith }

-- a chain at a place of its value: besides what joins the tests, `void 0` is made
pub tests_afford : (m : Label) (e : Tree) (w : Way) {ids : ℕ} (more : ℕ) → has_tests w.tests ≡ true → AffordsWay ids e w → length w.tests + 2 ≤ more → more ≤ length w.tests + 23 →
    AffordsRow (ids + more) w.taken (node ChainExpression m (one e then done)) (where_short m w.tests void_zero_node w.current)
tests_afford m e w more some a least most =
    let h = short_weight m w.tests void_zero_node w.current some in
    let g = short_size m w.tests void_zero_node w.current some in
    record { nodes = omega arith; lighter = omega arith }

-- a chain that is a callee
pub callee_affords : (m : Label) (e d : Tree) (w : Way) (xs : List Text) {ids : ℕ} (more : ℕ) → has_tests w.tests ≡ true → AffordsWay ids e w → (f : FewBound xs w.current d) → f.own + length w.tests + 2 ≤ more → more ≤ f.own + length w.tests + 5 →
    AffordsRow (ids + more) (w.taken ++ xs) (node ChainExpression m (one e then done)) (where_short m w.tests void_zero_node d)
callee_affords m e d w xs more some a f least most =
    let h = short_weight m w.tests void_zero_node d some in
    let g = short_size m w.tests void_zero_node d some in
    let n = length-append w.taken xs in
    record { nodes = omega arith; lighter = omega arith }

-- a chain that is deleted: `true` is made, and `delete` of what is current
pub delete_affords : (m l : Label) (t e : Tree) (w : Way) {ids : ℕ} (more : ℕ) → has_tests w.tests ≡ true → without_parens t ≡ node ChainExpression l (one e then done) → AffordsWay ids e w → length w.tests ≤ more → more ≤ length w.tests + 24 →
    AffordsRow (ids + more) w.taken (node UnaryExpression m (one t then done)) (where_short m w.tests true_node (delete_node w.current))
delete_affords m l t e w more some is a least most =
    let h = short_weight m w.tests true_node (delete_node w.current) some in
    let g = short_size m w.tests true_node (delete_node w.current) some in
    let light = stripped_weight t in
    let small = stripped_size t in
    let n = ap tree_size is in
    let k = ap weight is in
    record { nodes = omega arith; lighter = omega arith }

-- Some number of ids affords a row.
pub record IsAffordedRow (names : List Text) (t u : Tree) : Type 0 where
  pub ids : ℕ
  pub affords : AffordsRow ids names t u

pub optional_chaining_afforded : {no_all : Bool} {bound steady in_use : Text → Bool} {xs : List Text} {n : Need} {t u : Tree} → OptionalChainingRule no_all bound steady in_use xs n t u → IsAffordedRow xs t u
optional_chaining_afforded (by_tests {m = m} {e = e} {w = w} place walked some) =
    let a = walked_afforded walked in
    record { ids = a.ids + (length w.tests + 2); affords = tests_afford m e w (length w.tests + 2) some a.affords (omega arith) (omega arith) }
optional_chaining_afforded (as_callee {m = m} {e = e} {d = d} {w = w} {xs = xs} place walked some bound) =
    let a = walked_afforded walked in
    let f = bound_few bound in
    record { ids = a.ids + (f.own + length w.tests + 2); affords = callee_affords m e d w xs (f.own + length w.tests + 2) some a.affords f (omega arith) (omega arith) }
optional_chaining_afforded (in_delete {m = m} {l = l} {t = t} {e = e} {w = w} word is walked some) =
    let a = walked_afforded walked in
    record { ids = a.ids + (length w.tests + 2); affords = delete_affords m l t e w (length w.tests + 2) some is a.affords (omega arith) (omega arith) }
