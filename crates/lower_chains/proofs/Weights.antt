-- Loads and sizes of what the rows of optional chaining make: a marked member pays for eleven nodes and a temporary, a marked call for
-- sixteen and two, and a chain for the choice's other side and a bound member.
use Rattle.std.proofs.Common.{◌≡◌, ℕ, ◌+◌, ◌*◌, ◌≤◌, refl, ap, subst, append-nil, ◌∙◌, List, [], ◌∷◌, ◌++◌, length, length-append, arith}
use Rattle.std.specs.Prelude.{Bool, true, false, codes, Option, Some, is_some}
use Rattle.es_tree.specs.Parens.{without_parens}
use Rattle.es_tree.specs.Tree.{Tree, node, Label, done, ◌then◌, one, many, Trees, trees, tree_size, trees_size}
use Rattle.es_tree.specs.declared.ast_type.AstType.TheVariants.{CallExpression, ChainExpression, Identifier, MemberExpression, UnaryExpression}
use Rattle.es_resolution.specs.Declarations.{Bound}
use Rattle.es_runs.proofs.OptionalChainingWeights.{short_size, stripped_size, tests_size-append}
use Rattle.es_runs.specs.OptionalChaining.{call_at, delete_node, has_tests, joined_by_or, member_at, null_checks, true_node, where_short}
use Rattle.es_runs.specs.Rules.{assign_node, logical_node, void_zero_node}
use Rattle.es_steps.specs.Duplication.{is_among_symbols}
use Rattle.es_steps.specs.Nodes.{identifier}
use Rattle.es_steps.specs.OptionalChaining.{BoundCallee, Receives, Tested, Way, is_name_among, or_held, start, stored_call}
use Rattle.es_steps.specs.OptionalChaining.Receives.{by_this, by_name, by_temporary}
use Rattle.es_steps.specs.OptionalChaining.Tested.{as_name, in_holder, in_temporary}
use Rattle.es_steps.specs.OptionalChaining.BoundCallee.{no_member, to_object}
use Rattle.es_steps.specs.Steps.{Whole}
use Rattle.es_traverse.specs.Loads.{load, trees_load}
use Rattle.lower_temporaries.proofs.Loads.{stripped_load, trees_load-append}
use Rattle.lower_chains.specs.Weights.{AffordsRow, AffordsWay, FewBound, FewMade, stripped, way_size}

-- SOURCES

pub marked_member_load : (l : Label) (computed : Bool) (o p : Tree) → l.flags ≡ computed ∷ true ∷ [] → load (node MemberExpression l (one o then (one p then done))) ≡ 29 + load o + load p
marked_member_load l computed o p flags = rw flags (omega arith)

pub plain_member_load : (l : Label) (computed : Bool) (o p : Tree) → l.flags ≡ computed ∷ false ∷ [] → load (node MemberExpression l (one o then (one p then done))) ≡ 1 + load o + load p
plain_member_load l computed o p flags = rw flags (omega arith)

pub marked_call_load : (l : Label) (f : Tree) (ts : Trees) → l.flags ≡ true ∷ [] → load (node CallExpression l (one f then (many ts then done))) ≡ 45 + load f + trees_load ts
marked_call_load l f ts flags = rw flags (omega arith)

pub plain_call_load : (l : Label) (f : Tree) (ts : Trees) → l.flags ≡ false ∷ [] → load (node CallExpression l (one f then (many ts then done))) ≡ 1 + load f + trees_load ts
plain_call_load l f ts flags = rw flags (omega arith)

-- a name is one node
pub record Single (t : Tree) : Type 0 where
  pub light : load t ≡ 1
  pub small : tree_size t ≡ 1

pub single_name : (names : Option ℕ → Bool) (t : Tree) → is_name_among names t ≡ true → Single t
single_name names (node Identifier l done) h = record { light = refl; small = refl }
single_name names (node Identifier l (f then fs)) h = absurd (cc h)
single_name names (node _ l fs) h = absurd (cc h)

-- TESTS

-- of an expression that is read again as one node
pub record FewTests (e : Tree) (ts : List Tree) : Type 0 where
  pub own : ℕ
  pub few : own ≤ 6
  pub two : length ts ≤ 2
  pub weigh : trees_load (trees ts) ≡ own + load e
  pub size : trees_size (trees ts) ≡ own + tree_size e

pub few_tests : (no_all : Bool) (e again : Tree) → Single again → FewTests e (null_checks no_all e again)
few_tests true e again h = record { own = 2; few = omega arith; two = omega arith; weigh = omega arith; size = omega arith }
few_tests false e again h = record { own = 6; few = omega arith; two = omega arith; weigh = omega arith; size = omega arith }

-- RECEIVERS

-- of an object with what is written for it and what is read as the receiver, so many nodes more
pub record FewReceivers (xs : List Bound) (o o1 r : Tree) : Type 0 where
  pub own : ℕ
  pub few : own ≤ 5
  pub names : length xs ≤ 1
  pub paid : own + 4 * length xs + load o1 + load r ≤ load o + 12
  pub size : tree_size o1 + tree_size r + 2 * length xs ≡ own + tree_size o

pub few_receivers : {to_this : Tree → Bool} {w : Whole} {holder : Option Bound} {xs : List Bound} {o o1 r : Tree} → Receives to_this w holder xs o o1 r → FewReceivers xs o o1 r
few_receivers (by_this h) = record { own = 1; few = omega arith; names = omega arith; paid = omega arith; size = omega arith }
few_receivers {w = w} {holder = holder} (by_name {o = o} h named) = let s = single_name (or_held holder (is_among_symbols w.steady)) o named in record { own = 1; few = omega arith; names = omega arith; paid = omega arith; size = omega arith }
few_receivers (by_temporary h named fresh) = record { own = 5; few = omega arith; names = omega arith; paid = omega arith; size = omega arith }

-- STEPS

-- the current expression is read again
pub read_again_few : (no_all : Bool) (w : Way) → w.tests ≡ [] → Single (without_parens w.current) → FewMade 7 18 0 0 w (record w { tests = null_checks no_all (without_parens w.current) (without_parens w.current); current = without_parens w.current })
read_again_few no_all w none s =
    let t = few_tests no_all (without_parens w.current) (without_parens w.current) s in
    let n = ap (λ (ts : List Tree). length ts) none in
    let k = ap (λ (ts : List Tree). trees_size (trees ts)) none in
    let g = ap (λ (ts : List Tree). trees_load (trees ts)) none in
    record { made = t.own + 1; few = omega arith; size = omega arith; paid = omega arith }

-- or it is stored
pub stored_few : (no_all : Bool) (w : Way) (x : Bound) (holder : Option Bound) (xs : List Bound) → length xs ≤ 1 →
    FewMade 11 28 0 0 w (record { tests = w.tests ++ null_checks no_all (assign_node (identifier x) (without_parens w.current)) (identifier x); current = identifier x; holder = holder; taken = w.taken ++ xs })
stored_few no_all w x holder xs h =
    let e = assign_node (identifier x) (without_parens w.current) in
    let t = few_tests no_all e (identifier x) (record { light = refl; small = refl }) in
    let n = length-append w.tests (null_checks no_all e (identifier x)) in
    let k = tests_size-append w.tests (null_checks no_all e (identifier x)) in
    let g = trees_load-append w.tests (null_checks no_all e (identifier x)) in
    let m = length-append w.taken xs in
    record { made = t.own + 3 + 2 * length xs; few = omega arith; size = omega arith; paid = omega arith }

-- within larger bounds
pub more_made : {m h kept weigh : ℕ} {w u : Way} (most heaviest : ℕ) → m ≤ most → h ≤ heaviest → FewMade m h kept weigh w u → FewMade most heaviest kept weigh w u
more_made most heaviest m h f = record { made = f.made; few = omega arith; size = f.size; paid = omega arith }

-- a call of what is current
pub call_made : {most heaviest : ℕ} (l : Label) (ts : Trees) (w u : Way) → FewMade most heaviest 0 0 w u → FewMade most heaviest (1 + trees_size ts) (1 + trees_load ts) w (record u { current = call_at l u.current ts })
call_made l ts w u f = record { made = f.made; few = f.few; size = omega arith; paid = omega arith }

-- a callee is stored with its receiver
pub stored_callee_few : (no_all : Bool) (l k : Label) (computed : Bool) (ts : Trees) (w : Way) (names xs : List Bound) (c : Bound) (o o1 p r : Tree) → without_parens w.current ≡ node MemberExpression k (one o then (one p then done)) → k.flags ≡ computed ∷ false ∷ [] → length names ≡ 1 + length xs → FewReceivers xs o o1 r →
    FewMade 18 44 (1 + trees_size ts) (1 + trees_load ts) w (stored_call no_all l ts w names c (member_at k computed o1 p) r)
stored_callee_few no_all l k computed ts w names xs c o o1 p r is flags count f =
    let e = assign_node (identifier c) (member_at k computed o1 p) in
    let t = few_tests no_all e (identifier c) (record { light = refl; small = refl }) in
    let n = length-append w.tests (null_checks no_all e (identifier c)) in
    let s = tests_size-append w.tests (null_checks no_all e (identifier c)) in
    let g = trees_load-append w.tests (null_checks no_all e (identifier c)) in
    let m = length-append w.taken names in
    let small = ap tree_size is in
    let light = ap load is ∙ plain_member_load k computed o p flags in
    record { made = t.own + 7 + f.own; few = omega arith; size = omega arith; paid = omega arith }

pub tested_few : {no_all : Bool} {known : Whole} {w u : Way} → Tested no_all known w u → FewMade 11 28 0 0 w u
tested_few {no_all} (as_name {w = w} none named) = more_made 11 28 (omega arith) (omega arith) (read_again_few no_all w none (single_name is_some (without_parens w.current) named))
tested_few {no_all} (in_holder {w = w} {x = x} held) = subst (λ (xs : List Bound). FewMade 11 28 0 0 w (record w { tests = w.tests ++ null_checks no_all (assign_node (identifier x) (without_parens w.current)) (identifier x); current = identifier x; taken = xs })) (append-nil w.taken) (stored_few no_all w x w.holder [] (omega arith))
tested_few {no_all} (in_temporary {w = w} {x = x} apart held fresh) = stored_few no_all w x (Some x) (x ∷ []) (omega arith)

-- SPINES

pub start_affords : (e : Tree) → AffordsWay 0 e (start e)
start_affords e = record { nodes = omega arith; lighter = omega arith }

pub plain_member_affords : (l : Label) (computed : Bool) (o p : Tree) (w : Way) {ids : ℕ} → l.flags ≡ computed ∷ false ∷ [] → AffordsWay ids o w → AffordsWay ids (node MemberExpression l (one o then (one p then done))) (record w { current = member_at l computed w.current p })
plain_member_affords l computed o p w flags a = let h = plain_member_load l computed o p flags in record { nodes = omega (arith, a.nodes); lighter = omega (arith, a.lighter, h) }

pub plain_call_affords : (l : Label) (f : Tree) (ts : Trees) (w : Way) {ids : ℕ} → l.flags ≡ false ∷ [] → AffordsWay ids f w → AffordsWay ids (node CallExpression l (one f then (many ts then done))) (record w { current = call_at l w.current ts })
plain_call_affords l f ts w flags a = let h = plain_call_load l f ts flags in record { nodes = omega (arith, a.nodes); lighter = omega (arith, a.lighter, h) }

-- a marked step that makes so many nodes and takes an id for each
pub marked_member_affords : (l : Label) (computed : Bool) (o p : Tree) (w u : Way) {ids : ℕ} (more : ℕ) → l.flags ≡ computed ∷ true ∷ [] → AffordsWay ids o w → FewMade 11 28 0 0 w u → way_size u ≡ more + way_size (stripped w) →
    AffordsWay (ids + more) (node MemberExpression l (one o then (one p then done))) (record u { current = member_at l computed u.current p })
marked_member_affords l computed o p w u more flags a f counted =
    let h = marked_member_load l computed o p flags in
    let light = stripped_load w.current in
    let small = stripped_size w.current in
    record { nodes = omega arith; lighter = omega arith }

pub marked_call_affords : (l : Label) (f : Tree) (ts : Trees) (w u : Way) {ids : ℕ} (more : ℕ) → l.flags ≡ true ∷ [] → AffordsWay ids f w → FewMade 18 44 (1 + trees_size ts) (1 + trees_load ts) w u → way_size u ≡ more + (1 + trees_size ts) + way_size (stripped w) →
    AffordsWay (ids + more) (node CallExpression l (one f then (many ts then done))) u
marked_call_affords l f ts w u more flags a few counted =
    let h = marked_call_load l f ts flags in
    let light = stripped_load w.current in
    let small = stripped_size w.current in
    record { nodes = omega arith; lighter = omega arith }

-- a chain in parentheses is given up
pub inner_affords : (e c : Tree) (l : Label) (w : Way) {ids : ℕ} → without_parens e ≡ node ChainExpression l (one c then done) → AffordsWay ids c w → AffordsWay ids e w
inner_affords e c l w is a =
    let light = stripped_load e in
    let small = stripped_size e in
    let n = ap tree_size is in
    let g = ap load is in
    record { nodes = omega arith; lighter = omega arith }

-- ROWS

pub joined_load : (t : Tree) (us : List Tree) → load (joined_by_or t us) ≡ load t + trees_load (trees us) + length us
joined_load t [] = omega arith
joined_load t (u ∷ us) = let h = joined_load (logical_node (codes "||") t u) us in omega arith

pub short_load : (m : Label) (ts : List Tree) (short long : Tree) → has_tests ts ≡ true → load (where_short m ts short long) ≡ trees_load (trees ts) + length ts + load short + load long
short_load m [] short long h = absurd (cc h)
short_load m (t ∷ ts) short long h = let k = joined_load t ts in omega arith

pub bound_few : {w : Whole} {holder : Option Bound} {xs : List Bound} {e d : Tree} → BoundCallee w holder xs e d → FewBound xs e d
bound_few (no_member none) = record { own = 0; few = omega arith; paid = omega arith; size = omega arith }
bound_few (to_object {k = k} {computed = computed} {o = o} {p = p} flags receives) =
    let f = few_receivers receives in
    let h = plain_member_load k computed o p flags in
    record { own = f.own + 3; few = omega arith; paid = omega arith; size = omega arith }

-- a chain at a place of its value: besides what joins the tests, `void 0` is made
pub tests_afford : (m : Label) (e : Tree) (w : Way) {ids : ℕ} (more : ℕ) → has_tests w.tests ≡ true → AffordsWay ids e w → length w.tests + 2 ≤ more → more ≤ length w.tests + 23 →
    AffordsRow (ids + more) w.taken (node ChainExpression m (one e then done)) (where_short m w.tests void_zero_node w.current)
tests_afford m e w more some a least most =
    let h = short_load m w.tests void_zero_node w.current some in
    let g = short_size m w.tests void_zero_node w.current some in
    record { nodes = omega arith; lighter = omega arith }

-- a chain that is a callee
pub callee_affords : (m : Label) (e d : Tree) (w : Way) (xs : List Bound) {ids : ℕ} (more : ℕ) → has_tests w.tests ≡ true → AffordsWay ids e w → (f : FewBound xs w.current d) → f.own + length w.tests + 2 ≤ more → more ≤ f.own + length w.tests + 5 →
    AffordsRow (ids + more) (w.taken ++ xs) (node ChainExpression m (one e then done)) (where_short m w.tests void_zero_node d)
callee_affords m e d w xs more some a f least most =
    let h = short_load m w.tests void_zero_node d some in
    let g = short_size m w.tests void_zero_node d some in
    let n = length-append w.taken xs in
    record { nodes = omega arith; lighter = omega arith }

-- a chain that is deleted: `true` is made, and `delete` of what is current
pub delete_affords : (m l : Label) (t e : Tree) (w : Way) {ids : ℕ} (more : ℕ) → has_tests w.tests ≡ true → without_parens t ≡ node ChainExpression l (one e then done) → AffordsWay ids e w → length w.tests ≤ more → more ≤ length w.tests + 24 →
    AffordsRow (ids + more) w.taken (node UnaryExpression m (one t then done)) (where_short m w.tests true_node (delete_node w.current))
delete_affords m l t e w more some is a least most =
    let h = short_load m w.tests true_node (delete_node w.current) some in
    let g = short_size m w.tests true_node (delete_node w.current) some in
    let light = stripped_load t in
    let small = stripped_size t in
    let n = ap tree_size is in
    let k = ap load is in
    record { nodes = omega arith; lighter = omega arith }
