-- What is current was tested before a marked member.
use Rattle.std.proofs.Common.{◌≡◌, ℕ, ◌+◌, ◌≤◌, List, [], ◌∷◌, ◌++◌, map, append-nil, length-append, refl, sym, ap, subst, ◌∙◌, arith, Option, Some, None}
use Rattle.std.specs.Prelude.{Bool, true, false, is_some}
use Rattle.es_resolution.specs.Declarations.{Bound}
use Rattle.es_resolution.specs.Seen.{seen}
use Rattle.es_runs.proofs.OptionalChainingWeights.{tests_size-append}
use Rattle.es_runs.specs.OptionalChaining.{null_checks}
use Rattle.es_runs.specs.Rules.{assign_node}
use Rattle.es_steps.specs.Nodes.{identifier}
use Rattle.es_steps.specs.OptionalChaining.{Way, is_name_among}
use Rattle.es_steps.specs.OptionalChaining.Tested.{as_name, in_holder, in_temporary}
use Rattle.es_tree.specs.Fresh.{node_base}
use Rattle.es_tree.specs.Parens.{without_parens}
use Rattle.es_tree.specs.Tree.{Tree, node, done, ◌then◌, missing, one, many, statements, trees, tree_size, trees_size}
use Rattle.es_tree.specs.Words.{Text}
use Rattle.es_tree.specs.declared.ast_type.AstType.TheVariants.{ParenthesizedExpression}
use Rattle.lower_temporaries.proofs.SeenLaws.{base-seen, parens-seen}
use Rattle.lower_temporaries.proofs.Takings.{takes-reads, takes-then}
use Rattle.lower_temporaries.specs.Takings.{ReadsMore, Takes, moment_of}
use Rattle.lower_temporaries.specs.Temporaries.{bound_of}
use Rattle.lower_temporaries.specs.declared.temporaries.Temporary.{Temporary}
use Rattle.lower_temporaries.proofs.Later.{next-moved}
use Rattle.lower_chains.proofs.SeenSpines.{stands-none, stands-not, stands-seen}
use Rattle.lower_chains.proofs.Weights.{single_name}
use Rattle.lower_chains.specs.Spines.{stands}
use Rattle.lower_chains.specs.WayParts.{ChoosesTarget, TargetBy, test_nodes}
use Rattle.lower_chains.specs.WayParts.TargetBy.{by_held, by_fresh}
use Rattle.lower_chains.specs.Ways.{Ctx, IsWay, Names, TestsTo, held, whole_of}
use Rattle.lower_chains.specs.declared.way.Way.{Way as CodeWay}

-- parentheses leave the base of a name as it is
pub base-parens : (t : Tree) → node_base (without_parens t) ≡ node_base t
base-parens (node ParenthesizedExpression l (one t then fs)) = base-parens t
base-parens (node ParenthesizedExpression l done) = refl
base-parens (node ParenthesizedExpression l (missing then fs)) = refl
base-parens (node ParenthesizedExpression l (many ts then fs)) = refl
base-parens (node ParenthesizedExpression l (statements ts then fs)) = refl
base-parens (node _ l fs) = refl

pub tests-size : (no_all : Bool) (e again : Tree) → tree_size again ≡ 1 → trees_size (trees (null_checks no_all e again)) ≡ tree_size e + test_nodes no_all
tests-size true e again h = omega arith
tests-size false e again h = omega arith

pub nodes-few : (no_all : Bool) → test_nodes no_all ≤ 6
nodes-few true = omega arith
nodes-few false = omega arith

target-few : (w : _) {holder : Option Bound} {base : Text} (taken : List Bound) (ids : ℕ) (x : Bound) → TargetBy w holder base taken ids x → ids ≤ 3
target-few w _ _ _ (by_held h) = omega arith
target-few w _ _ _ (by_fresh h fresh) = omega arith

pub target-next : (old mid : Ctx) {holder : Option Bound} {base : Text} (t : Temporary) → ChoosesTarget old mid holder base t → mid.ast.next ≤ old.ast.next + 3
target-next old mid t chosen = let few = target-few (whole_of old) chosen.taken chosen.ids (bound_of t) chosen.by in omega (arith, chosen.takes.next_is, few)

-- WHAT IS CURRENT ON A WAY

module _ {names : Names} {begin now : Ctx} {way : CodeWay} {w : Way} (h : IsWay names begin now way w) (ts : List Tree) (e : Tree) (tests : ts ≡ way.tests.items) (below : e ≡ without_parens way.current) where
  pub current-is : seen names e ≡ without_parens w.current
  current-is = ap (seen names) below ∙ sym (parens-seen names way.current) ∙ ap without_parens h.current

  tests-are : map (seen names) ts ≡ w.tests
  tests-are = ap (map (seen names)) tests ∙ h.tests

  pub none-before : stands is_some ts e ≡ true → w.tests ≡ []
  none-before s = sym tests-are ∙ stands-none names is_some ts e s

  pub standing : stands is_some ts e ≡ true → is_name_among is_some (without_parens w.current) ≡ true
  standing s = ap (is_name_among is_some) (sym current-is) ∙ stands-seen names is_some ts e s

  pub not-standing : stands is_some ts e ≡ false → w.tests ≡ [] → is_name_among is_some (without_parens w.current) ≡ false
  not-standing s none = ap (is_name_among is_some) (sym current-is) ∙ stands-not names is_some ts e s (tests-are ∙ none)

-- WAYS

module _ (no_all : Bool) {names : Names} {begin old : Ctx} {way : CodeWay} {w : Way} (h : IsWay names begin old way w) (ts : List Tree) (e : Tree) (tests : ts ≡ way.tests.items) (below : e ≡ without_parens way.current) where
  -- as it stands
  pub tested-name : (new : Ctx) (r : CodeWay) → stands is_some ts e ≡ true → map (seen names) r.tests.items ≡ map (seen names) way.tests.items ++ null_checks no_all (seen names e) (seen names e) → seen names r.current ≡ seen names e → held r.holder ≡ held way.holder → ReadsMore (1 + test_nodes no_all) old new → TestsTo names no_all begin new w h.ids r
  tested-name new r s tested current holder reads =
      let t = without_parens w.current in
      let is = current-is h ts e tests below in
      let none = none-before h ts e tests below s in
      let named = standing h ts e tests below s in
      let one = (single_name is_some t named).small in
      let size = tests-size no_all t t one in
      let empty = ap (λ (us : List Tree). trees_size (trees us)) none in
      record {
        to = record w { tests = null_checks no_all t t; current = t };
        is = record {
          tests = tested ∙ (λ i. (h.tests ∙ none) i ++ null_checks no_all (is i) (is i));
          current = current ∙ is;
          holder = holder ∙ h.holder;
          ids = h.ids + (1 + test_nodes no_all);
          takes = takes-reads old new h.takes reads;
        };
        tested = as_name none named;
        more = 1 + test_nodes no_all;
        counted = refl;
        sized = omega (arith, one, size, empty);
      }

  -- by the temporary that is held, or a new one
  by-target : (mid new : Ctx) (r : CodeWay) (taken : List Bound) (ids : ℕ) (x : Bound) → stands is_some ts e ≡ false → TargetBy (whole_of old) (held way.holder) (node_base e) taken ids x → Takes taken ids (moment_of old) (moment_of mid) →
      map (seen names) r.tests.items ≡ map (seen names) way.tests.items ++ null_checks no_all (assign_node (identifier x) (seen names e)) (identifier x) → seen names r.current ≡ identifier x → held r.holder ≡ Some x → ReadsMore (2 + test_nodes no_all) mid new → TestsTo names no_all begin new w h.ids r
  by-target mid new r _ _ x s (by_held before) taken tested current holder reads =
      let t = without_parens w.current in
      let is = current-is h ts e tests below in
      let same : w.holder ≡ Some x = sym h.holder ∙ before in
      let size = tests-size no_all (assign_node (identifier x) t) (identifier x) refl in
      let all = tests_size-append w.tests (null_checks no_all (assign_node (identifier x) t) (identifier x)) in
      record {
        to = record w { tests = w.tests ++ null_checks no_all (assign_node (identifier x) t) (identifier x); current = identifier x };
        is = record {
          tests = tested ∙ (λ i. h.tests i ++ null_checks no_all (assign_node (identifier x) (is i)) (identifier x));
          current = current;
          holder = holder ∙ sym same;
          ids = h.ids + 1 + (2 + test_nodes no_all);
          takes = takes-reads mid new (subst (λ (xs : List Bound). Takes xs (h.ids + 1) (moment_of begin) (moment_of mid)) (append-nil w.taken) (takes-then h.takes taken)) reads;
        };
        tested = in_holder same;
        more = 3 + test_nodes no_all;
        counted = omega arith;
        sized = omega (arith, size, all);
      }
  by-target mid new r _ _ x s (by_fresh before fresh) taken tested current holder reads =
      let t = without_parens w.current in
      let is = current-is h ts e tests below in
      let none : w.holder ≡ None = sym h.holder ∙ before in
      let size = tests-size no_all (assign_node (identifier x) t) (identifier x) refl in
      let all = tests_size-append w.tests (null_checks no_all (assign_node (identifier x) t) (identifier x)) in
      let count = length-append w.taken (x ∷ []) in
      record {
        to = record { tests = w.tests ++ null_checks no_all (assign_node (identifier x) t) (identifier x); current = identifier x; holder = Some x; taken = w.taken ++ x ∷ [] };
        is = record {
          tests = tested ∙ (λ i. h.tests i ++ null_checks no_all (assign_node (identifier x) (is i)) (identifier x));
          current = current;
          holder = holder;
          ids = h.ids + 3 + (2 + test_nodes no_all);
          takes = takes-reads mid new (takes-then h.takes taken) reads;
        };
        tested = in_temporary (not-standing h ts e tests below s) none (next-moved h.takes.whole_is (sym (base-seen names e) ∙ ap node_base is ∙ base-parens w.current) fresh);
        more = 5 + test_nodes no_all;
        counted = omega arith;
        sized = omega (arith, size, all, count);
      }

  pub tested-stored : (mid new : Ctx) (r : CodeWay) (x : Temporary) → stands is_some ts e ≡ false → ChoosesTarget old mid (held way.holder) (node_base e) x →
      map (seen names) r.tests.items ≡ map (seen names) way.tests.items ++ null_checks no_all (assign_node (identifier (bound_of x)) (seen names e)) (identifier (bound_of x)) → seen names r.current ≡ identifier (bound_of x) → held r.holder ≡ Some (bound_of x) → ReadsMore (2 + test_nodes no_all) mid new → TestsTo names no_all begin new w h.ids r
  tested-stored mid new r x s chosen tested current holder reads = by-target mid new r chosen.taken chosen.ids (bound_of x) s chosen.by chosen.takes tested current holder reads
