-- What is current was tested and called, at a marked call.
use Rattle.std.proofs.Common.{◌≡◌, ℕ, ◌+◌, ◌*◌, ◌==◌, List, [], ◌∷◌, ◌++◌, length, map, length-append, refl, sym, ap, subst, ◌∙◌, arith, Option, Some}
use Rattle.std.proofs.lemmas.Bool.{eqb-true}
use Rattle.std.specs.Prelude.{Bool, true, false, is_some}
use Rattle.es_resolution.specs.Declarations.{Bound}
use Rattle.es_resolution.specs.Seen.{seen}
use Rattle.es_runs.proofs.OptionalChainingWeights.{tests_size-append}
use Rattle.es_runs.specs.OptionalChaining.{call_at, is_member, member_at, null_checks}
use Rattle.es_runs.specs.Rules.{assign_node}
use Rattle.es_steps.specs.Nodes.{identifier}
use Rattle.es_steps.specs.OptionalChaining.{Called, Way, call_method, stored_call}
use Rattle.es_steps.specs.OptionalChaining.Called.{by_name, by_value, by_first_member, by_later_member}
use Rattle.es_steps.specs.Rules.{with_made}
use Rattle.es_tree.specs.Fresh.{node_base}
use Rattle.es_tree.specs.Parens.{without_parens}
use Rattle.es_tree.specs.Tree.{Tree, node, Trees, Label, ◌before◌, trees, tree_size, trees_size}
use Rattle.es_tree.specs.declared.ast_type.AstType.TheVariants.{MemberExpression}
use Rattle.es_tree.specs.declared.ids.Span.{Span}
use Rattle.lower_temporaries.proofs.SeenLaws.{base-seen}
use Rattle.lower_temporaries.proofs.Takings.{takes-reads, takes-then}
use Rattle.lower_temporaries.specs.Takings.{ReadsMore, Takes, moment_of}
use Rattle.lower_temporaries.specs.Temporaries.{TakesTemporary, bound_of}
use Rattle.lower_temporaries.specs.declared.temporaries.Temporary.{Temporary}
use Rattle.lower_temporaries.proofs.Later.{next-moved}
use Rattle.lower_chains.proofs.Receiving.{receives-moved}
use Rattle.lower_chains.proofs.SeenSpines.{plain_member-seen}
use Rattle.lower_chains.proofs.Testing.{current-is, none-before, not-standing, standing, tests-size}
use Rattle.lower_chains.proofs.Weights.{call_made, few_receivers, more_made, read_again_few, single_name, stored_callee_few, stored_few}
use Rattle.lower_chains.specs.Spines.{is_plain_member, stands}
use Rattle.lower_chains.specs.WayParts.{CallsMember, CallsStored, WritesCallee, has_none, named_by, names_for, nodes_for, test_nodes}
use Rattle.lower_chains.specs.Ways.{CallsTo, Ctx, IsWay, Names, call_label, held, whole_of}
use Rattle.lower_chains.specs.declared.way.Way.{Way as CodeWay}

-- whether there is no test, as the code asks for it
pub none-length : (ts : List Tree) (n : ℕ) → n ≡ length ts → (n == 0) ≡ has_none ts
none-length [] n e = ap (λ m. m == 0) e
none-length (t ∷ ts) n e = at (n == 0) refl where
  at : (b : Bool) → (n == 0) ≡ b → b ≡ false
  at true h = absurd (omega (arith, eqb-true n 0 h))
  at false h = refl

-- CALLS AS THEY ARE MADE

-- of a callee that was stored
pub called-stored : (names : Names) (no_all : Bool) (old mid new : Ctx) (l : Label) (arguments : Trees) (tests : List Tree) (callee stored : Tree) (t : Temporary) (r : CodeWay) → TakesTemporary (node_base callee) old mid t →
    map (seen names) r.tests.items ≡ tests ++ null_checks no_all (assign_node (identifier (bound_of t)) (seen names callee)) (identifier (bound_of t)) → stored ≡ identifier (bound_of t) → seen names r.current ≡ call_at l stored arguments → held r.holder ≡ Some (bound_of t) → ReadsMore (2 + test_nodes no_all) mid new →
    CallsStored names no_all old new l arguments tests (seen names callee) r
called-stored names no_all old mid new l arguments tests callee stored t r made tested is current holder reads =
    let count : 3 + (2 + test_nodes no_all) ≡ 5 + test_nodes no_all = omega arith in
    record {
      name = bound_of t;
      next = next-moved refl (sym (base-seen names callee)) made.next;
      tests_are = tested;
      current_is = current ∙ ap (λ (f : Tree). call_at l f arguments) is;
      holder_is = holder;
      takes = subst (λ (n : ℕ). Takes (bound_of t ∷ []) n (moment_of old) (moment_of new)) count (takes-reads mid new made.takes reads);
    }

-- of a member that was stored with its receiver
pub called-member : (names : Names) (no_all first : Bool) (old mid last new : Ctx) (l : Label) (arguments : Trees) (tests : List Tree) (holder : Option Bound) (callee written receiver stored : Tree) (t : Temporary) (r : CodeWay) → WritesCallee first old mid holder callee written receiver t →
    map (seen names) r.tests.items ≡ tests ++ null_checks no_all (assign_node (identifier (bound_of t)) written) (identifier (bound_of t)) → stored ≡ identifier (bound_of t) → seen names r.current ≡ call_at l (call_method stored) (receiver before arguments) → held r.holder ≡ Some (bound_of t) →
    ReadsMore (2 + test_nodes no_all) mid last → ReadsMore 2 last new → CallsMember names no_all first old new l arguments tests holder callee r
called-member names no_all first old mid last new l arguments tests holder callee written receiver stored t r made tested is current held_as more rest =
    let name = bound_of t in
    let v = made.how in
    let wrote = made.wrote in
    record {
      k = wrote.k;
      computed = wrote.computed;
      object = wrote.object;
      property = wrote.property;
      written = _;
      receiver = _;
      name = name;
      others = names_for v;
      ids = 3 + 3 * length (names_for v) + nodes_for v + (2 + test_nodes no_all) + 2;
      member_is = wrote.member_is;
      flags = wrote.flags;
      next = next-moved refl (ap (λ (c : Tree). node_base (named_by first callee c)) wrote.written_is) made.next;
      receives = made.receives;
      tests_are = tested ∙ ap (λ (c : Tree). tests ++ null_checks no_all (assign_node (identifier name) c) (identifier name)) wrote.written_is;
      current_is = current ∙ (λ i. call_at l (call_method (is i)) (wrote.receiver_is i before arguments));
      holder_is = held_as;
      takes = takes-reads last new (takes-reads mid last made.takes more) rest;
      sized = omega (arith, made.sized);
    }

-- WAYS

none-seen : (names : Names) (ts : List Tree) → has_none (map (seen names) ts) ≡ has_none ts
none-seen names [] = refl
none-seen names (t ∷ ts) = refl

-- a callee that the code doesn't take for a member is none
no-member : (t : Tree) → (is_member t ≡ true → is_plain_member t ≡ true) → is_plain_member t ≡ false → is_member t ≡ false
no-member (node MemberExpression l fs) h e = absurd (cc (sym (h refl) ∙ e))
no-member (node _ l fs) h e = refl

module _ (no_all : Bool) {names : Names} {begin old : Ctx} {way : CodeWay} {w : Way} (h : IsWay names begin old way w) (ts : List Tree) (e : Tree) (tests : ts ≡ way.tests.items) (below : e ≡ without_parens way.current) (span : Span) (arguments : Trees) where
  -- a name as it stands
  pub calls-name : (new : Ctx) (r : CodeWay) → stands is_some ts e ≡ true → map (seen names) r.tests.items ≡ map (seen names) way.tests.items ++ null_checks no_all (seen names e) (seen names e) → seen names r.current ≡ call_at (call_label span) (seen names e) arguments → r.holder ≡ way.holder → ReadsMore (1 + test_nodes no_all) old new → CallsTo names no_all begin new span arguments w h.ids r
  calls-name new r s tested current holder reads =
      let t = without_parens w.current in
      let is = current-is h ts e tests below in
      let none = none-before h ts e tests below s in
      let named = standing h ts e tests below s in
      let one = single_name is_some t named in
      let size = tests-size no_all t t one.small in
      let empty = ap (λ (us : List Tree). trees_size (trees us)) none in
      record {
        to = record w { tests = null_checks no_all t t; current = call_at (call_label span) t arguments };
        is = record {
          tests = tested ∙ (λ i. (h.tests ∙ none) i ++ null_checks no_all (is i) (is i));
          current = current ∙ ap (λ (f : Tree). call_at (call_label span) f arguments) is;
          holder = ap held holder ∙ h.holder;
          ids = h.ids + (1 + test_nodes no_all);
          takes = takes-reads old new h.takes reads;
        };
        called = λ p. by_name none named;
        plain = λ q. absurd (cc q);
        few = more_made 18 44 (omega arith) (omega arith) (call_made (call_label span) arguments w _ (read_again_few no_all w none one));
        more = 1 + test_nodes no_all;
        counted = refl;
        sized = omega (arith, one.small, size, empty);
      }

  -- a callee that is no member
  pub calls-value : (new : Ctx) (r : CodeWay) → stands is_some ts e ≡ false → is_plain_member e ≡ false → CallsStored names no_all old new (call_label span) arguments (map (seen names) way.tests.items) (seen names e) r → CallsTo names no_all begin new span arguments w h.ids r
  calls-value new r s other m =
      let t = without_parens w.current in
      let is = current-is h ts e tests below in
      let x = m.name in
      let size = tests-size no_all (assign_node (identifier x) t) (identifier x) refl in
      let all = tests_size-append w.tests (null_checks no_all (assign_node (identifier x) t) (identifier x)) in
      let count = length-append w.taken (x ∷ []) in
      let no_plain : is_plain_member t ≡ false = ap is_plain_member (sym is) ∙ plain_member-seen names e ∙ other in
      record {
        to = record { tests = w.tests ++ null_checks no_all (assign_node (identifier x) t) (identifier x); current = call_at (call_label span) (identifier x) arguments; holder = Some x; taken = w.taken ++ x ∷ [] };
        is = record {
          tests = m.tests_are ∙ (λ i. h.tests i ++ null_checks no_all (assign_node (identifier x) (is i)) (identifier x));
          current = m.current_is;
          holder = m.holder_is;
          ids = h.ids + (5 + test_nodes no_all);
          takes = takes-then h.takes m.takes;
        };
        called = λ p. by_value (not-standing h ts e tests below s) (no-member t p no_plain) (next-moved h.takes.whole_is (ap node_base is) m.next);
        plain = λ q. absurd (cc q);
        few = more_made 18 44 (omega arith) (omega arith) (call_made (call_label span) arguments w _ (stored_few no_all w x (Some x) (x ∷ []) (omega arith)));
        more = 5 + test_nodes no_all;
        counted = refl;
        sized = omega (arith, size, all, count);
      }

  -- a callee that is a member, with these temporaries
  member-called : (new : Ctx) (r : CodeWay) (first : Bool) (m : CallsMember names no_all first old new (call_label span) arguments (map (seen names) way.tests.items) (held way.holder) (seen names e) r) (taken : List Bound) → Takes taken m.ids (moment_of old) (moment_of new) → length taken ≡ 1 + length m.others →
      Called no_all (whole_of begin) (call_label span) arguments w (stored_call no_all (call_label span) arguments w taken m.name (member_at m.k m.computed m.written m.property) m.receiver) → CallsTo names no_all begin new span arguments w h.ids r
  member-called new r first m taken takes few called =
      let is = current-is h ts e tests below in
      let x = m.name in
      let f = member_at m.k m.computed m.written m.property in
      let size = tests-size no_all (assign_node (identifier x) f) (identifier x) refl in
      let all = tests_size-append w.tests (null_checks no_all (assign_node (identifier x) f) (identifier x)) in
      let count = length-append w.taken taken in
      let whole = ap tree_size (sym is ∙ m.member_is) in
      record {
        to = stored_call no_all (call_label span) arguments w taken x f m.receiver;
        is = record {
          tests = m.tests_are ∙ (λ i. h.tests i ++ null_checks no_all (assign_node (identifier x) f) (identifier x));
          current = m.current_is;
          holder = m.holder_is;
          ids = h.ids + m.ids;
          takes = takes-then h.takes takes;
        };
        called = λ p. called;
        plain = λ q. absurd (cc q);
        few = stored_callee_few no_all (call_label span) m.k m.computed arguments w taken m.others x m.object m.written m.property m.receiver (sym is ∙ m.member_is) m.flags few (few_receivers m.receives);
        more = m.ids;
        counted = refl;
        sized = omega (arith, size, all, count, whole, few, m.sized);
      }

  in-turn : (new : Ctx) (r : CodeWay) (first : Bool) (us : List Tree) → w.tests ≡ us → first ≡ has_none us → CallsMember names no_all first old new (call_label span) arguments (map (seen names) way.tests.items) (held way.holder) (seen names e) r → CallsTo names no_all begin new span arguments w h.ids r
  in-turn new r true [] none q m =
      let is = current-is h ts e tests below in
      let c = m.name in
      member-called new r true m (c ∷ m.others) m.takes (omega arith)
      (by_first_member none (sym is ∙ m.member_is) m.flags (next-moved h.takes.whole_is (ap node_base is) m.next) (receives-moved (ap (with_made (c ∷ [])) h.takes.whole_is) h.holder m.receives))
  in-turn new r false (u ∷ us) some q m =
      let is = current-is h ts e tests below in
      let c = m.name in
      let xs = m.others in
      member-called new r false m (xs ++ c ∷ []) m.takes (let n = length-append xs (c ∷ []) in omega (arith, n))
      (by_later_member some (sym is ∙ m.member_is) m.flags (receives-moved h.takes.whole_is h.holder m.receives) (next-moved (ap (with_made xs) h.takes.whole_is) refl m.next))
  in-turn new r false [] none q m = absurd (cc q)
  in-turn new r true (u ∷ us) some q m = absurd (cc q)

  pub calls-member : (new : Ctx) (r : CodeWay) → CallsMember names no_all (has_none way.tests.items) old new (call_label span) arguments (map (seen names) way.tests.items) (held way.holder) (seen names e) r → CallsTo names no_all begin new span arguments w h.ids r
  calls-member new r m = in-turn new r (has_none way.tests.items) w.tests refl (sym (none-seen names way.tests.items) ∙ ap has_none h.tests) m
