-- The rows of optional chaining leave no optional mark outside a chain, where none was.
use Rattle.std.proofs.Common.{◌≡◌, refl, List, [], ◌∷◌, ◌++◌}
use Rattle.std.specs.Prelude.{Bool, true, false, Option, ◌&&◌, ◌||◌, codes}
use Rattle.es_tree.specs.Words.{Text}
use Rattle.es_tree.specs.Parens.{without_parens}
use Rattle.es_tree.specs.Tree.{Tree, node, Label, done, ◌then◌, one, Trees, ◌before◌}
use Rattle.es_tree.specs.declared.ast_type.AstType.TheVariants.{ChainExpression, MemberExpression}
use Rattle.es_runs.specs.Alike.{Need}
use Rattle.es_runs.specs.Core.{flag_after}
use Rattle.es_runs.specs.OptionalChaining.{Way, Receives, Tested, Called, Walked, Continued, BoundCallee, OptionalChainingRule, call_method, delete_node, joined_by_or, member_at, stored_call, null_checks, true_node, where_short}
use Rattle.es_runs.specs.OptionalChaining.Receives.{by_this, by_name as receives_name, by_temporary}
use Rattle.es_runs.specs.OptionalChaining.Tested.{as_name, in_holder, in_temporary}
use Rattle.es_runs.specs.OptionalChaining.Called.{by_name, by_value, by_first_member, by_later_member}
use Rattle.es_runs.specs.OptionalChaining.Walked.{base, plain_member, plain_call, marked_member, marked_call}
use Rattle.es_runs.specs.OptionalChaining.Continued.{same_spine, inner_spine}
use Rattle.es_runs.specs.OptionalChaining.BoundCallee.{no_member, to_object}
use Rattle.es_runs.specs.OptionalChaining.OptionalChainingRule.{by_tests, as_callee, in_delete}
use Rattle.es_runs.specs.Rules.{assign_node, logical_node, strays, strays_nodes, void_zero_node}
use Rattle.es_runs.specs.Runs.{identifier}
use Rattle.es_runs.proofs.Fresh.{or_left, or_right}
use Rattle.es_runs.proofs.Named.{or_both}
use Rattle.es_runs.proofs.OptionalChaining.{tidy_bound}
use Rattle.es_runs.proofs.OptionalChainingUncut.{AllTidy, tidy_arguments, tidy_base, tidy_call, tidy_callee, tidy_key, tidy_member, tidy_more, tidy_object, tidy_store, tidy_stripped, tidy_tests}

abbrev Tidy : Tree → Type 0
Tidy e = strays false e ≡ false

-- of a spine as far as it is lowered
record TidyWay (w : Way) : Type 0 where
  tests : AllTidy w.tests
  current : Tidy w.current

-- of a member without a mark
record TidyMember (o p : Tree) : Type 0 where
  object : Tidy o
  key : Tidy p

member_parts : (k : Label) (o p : Tree) → Tidy (node MemberExpression k (one o then one p then done)) → TidyMember o p
member_parts k o p h =
    let both : strays false o || (strays false p || false) ≡ false = or_right (flag_after k.flags && true) (strays false o || (strays false p || false)) h in
    record { object = or_left (strays false o) (strays false p || false) both; key = or_left (strays false p) false (or_right (strays false o) (strays false p || false) both) }

stored_tests_tidy : (no_all : Bool) (ts : List Tree) (x : Text) (e : Tree) → AllTidy ts → Tidy e → AllTidy (ts ++ null_checks no_all (assign_node (identifier x) e) (identifier x))
stored_tests_tidy no_all ts x e h g = tidy_more ts (null_checks no_all (assign_node (identifier x) e) (identifier x)) h (tidy_tests no_all (assign_node (identifier x) e) (identifier x) (tidy_store x e g) refl)

-- what a chain holds stands on a spine
content_tidy : (l : Label) (c : Tree) → Tidy (node ChainExpression l (one c then done)) → strays true c ≡ false
content_tidy l c h = or_left (strays true c) false h

module _ (no_all : Bool) (bound steady in_use : Text → Bool) where
  receives_tidy : {to_this : Tree → Bool} {used : Text → Bool} {holder : Option Text} {xs : List Text} {o o1 r : Tree} → Receives to_this steady used holder xs o o1 r → Tidy o → Tidy o1 × Tidy r
  receives_tidy (by_this h) tidy = (tidy, refl)
  receives_tidy (receives_name h e) tidy = (tidy, tidy)
  receives_tidy (by_temporary {o = o} {r = r} h e fresh) tidy = (tidy_store r o tidy, refl)

  tested_tidy : {w u : Way} → Tested no_all bound in_use w u → TidyWay w → TidyWay u
  tested_tidy (as_name {w = w} none again) h = let e = tidy_stripped w.current h.current in record { tests = tidy_tests no_all (without_parens w.current) (without_parens w.current) e e; current = e }
  tested_tidy (in_holder {w = w} {x = x} held) h = record { tests = stored_tests_tidy no_all w.tests x (without_parens w.current) h.tests (tidy_stripped w.current h.current); current = refl }
  tested_tidy (in_temporary {w = w} {x = x} again none fresh) h = record { tests = stored_tests_tidy no_all w.tests x (without_parens w.current) h.tests (tidy_stripped w.current h.current); current = refl }

  stored_tidy : (l : Label) (ts : Trees) → strays_nodes false ts ≡ false → (w : Way) (names : List Text) (c : Text) (k : Label) (computed : Bool) (o1 p r : Tree) → Tidy o1 → Tidy p → Tidy r → TidyWay w → TidyWay (stored_call no_all l ts w names c (member_at k computed o1 p) r)
  stored_tidy l ts args w names c k computed o1 p r begin key again h = record {
    tests = stored_tests_tidy no_all w.tests c (member_at k computed o1 p) h.tests (tidy_member k computed o1 p begin key);
    current = tidy_call l (call_method (identifier c)) (r before ts) refl (or_both (strays false r) (strays_nodes false ts) again args);
  }

  called_tidy : (l : Label) (ts : Trees) → strays_nodes false ts ≡ false → {w u : Way} → Called no_all bound steady in_use l ts w u → TidyWay w → TidyWay u
  called_tidy l ts args (by_name {w = w} none again) h =
      let e = tidy_stripped w.current h.current in
      record { tests = tidy_tests no_all (without_parens w.current) (without_parens w.current) e e; current = tidy_call l (without_parens w.current) ts e args }
  called_tidy l ts args (by_value {w = w} {c = c} again member fresh) h = record { tests = stored_tests_tidy no_all w.tests c (without_parens w.current) h.tests (tidy_stripped w.current h.current); current = tidy_call l (identifier c) ts refl args }
  called_tidy l ts args (by_first_member {w = w} {k = k} {computed = computed} {o = o} {o1 = o1} {p = p} {r = r} {c = c} {xs = xs} none member flags fresh receives) h =
      let whole : Tidy (node MemberExpression k (one o then one p then done)) = rw member at (tidy_stripped w.current h.current) in
      let inside = member_parts k o p whole in
      let objects = receives_tidy receives inside.object in
      stored_tidy l ts args w (c ∷ xs) c k computed o1 p r objects.0 inside.key objects.1 h
  called_tidy l ts args (by_later_member {w = w} {k = k} {computed = computed} {o = o} {o1 = o1} {p = p} {r = r} {c = c} {xs = xs} some member flags receives fresh) h =
      let whole : Tidy (node MemberExpression k (one o then one p then done)) = rw member at (tidy_stripped w.current h.current) in
      let inside = member_parts k o p whole in
      let objects = receives_tidy receives inside.object in
      stored_tidy l ts args w (xs ++ c ∷ []) c k computed o1 p r objects.0 inside.key objects.1 h

  mutual
    walked_tidy : {e : Tree} {w : Way} → Walked no_all bound steady in_use e w → strays true e ≡ false → TidyWay w
    walked_tidy (base {e = e} link) h = record { tests = tt; current = tidy_base e link h }
    walked_tidy (plain_member {l = l} {computed = computed} {o = o} {p = p} {w = w} flags below) h =
        let b = walked_tidy below (tidy_object l o p h) in
        record { tests = b.tests; current = tidy_member l computed w.current p b.current (tidy_key l o p h) }
    walked_tidy (plain_call {l = l} {f = f} {arguments = ts} {w = w} flags below) h =
        let b = walked_tidy below (tidy_callee l f ts h) in
        record { tests = b.tests; current = tidy_call l w.current ts b.current (tidy_arguments l f ts h) }
    walked_tidy (marked_member {l = l} {computed = computed} {o = o} {p = p} {u = u} flags below test) h =
        let b = tested_tidy test (continued_tidy below (tidy_object l o p h)) in
        record { tests = b.tests; current = tidy_member l computed u.current p b.current (tidy_key l o p h) }
    walked_tidy (marked_call {l = l} {f = f} {arguments = ts} flags below called) h = called_tidy l ts (tidy_arguments l f ts h) called (continued_tidy below (tidy_callee l f ts h))

    continued_tidy : {e : Tree} {w : Way} → Continued no_all bound steady in_use e w → strays true e ≡ false → TidyWay w
    continued_tidy (same_spine k walked) h = walked_tidy walked h
    continued_tidy (inner_spine {e = e} {c = c} {l = l} link inner walked) h = walked_tidy walked (content_tidy l c (rw inner at (tidy_stripped e (tidy_base e link h))))

  joined_tidy : (t : Tree) (ts : List Tree) → Tidy t → AllTidy ts → Tidy (joined_by_or t ts)
  joined_tidy t [] h g = h
  joined_tidy t (u ∷ us) h g = joined_tidy (logical_node (codes "||") t u) us (or_both (strays false t) (strays false u || false) h (or_both (strays false u) false g.0 refl)) g.1

  short_tidy : (m : Label) (ts : List Tree) (short long : Tree) → AllTidy ts → Tidy short → Tidy long → Tidy (where_short m ts short long)
  short_tidy m [] short long h a b = b
  short_tidy m (t ∷ ts) short long h a b =
      or_both (strays false (joined_by_or t ts)) (strays false short || (strays false long || false)) (joined_tidy t ts h.0 h.1) (or_both (strays false short) (strays false long || false) a (or_both (strays false long) false b refl))

  bound_tidy : {used : Text → Bool} {holder : Option Text} {xs : List Text} {e d : Tree} → BoundCallee steady used holder xs e d → Tidy e → Tidy d
  bound_tidy (no_member k) h = h
  bound_tidy (to_object {k = k} {computed = computed} {o = o} {o1 = o1} {p = p} {r = r} flags receives) h =
      let inside = member_parts k o p h in
      let objects = receives_tidy receives inside.object in
      tidy_bound (member_at k computed o1 p) r (tidy_member k computed o1 p objects.0 inside.key) objects.1

  pub optional_chaining_tidy : {xs : List Text} {n : Need} {a b : Tree} → OptionalChainingRule no_all bound steady in_use xs n a b → strays false a ≡ false → strays false b ≡ false
  optional_chaining_tidy (by_tests {m = m} {e = e} {w = w} level walked tested) h =
      let way = walked_tidy walked (content_tidy m e h) in
      short_tidy m w.tests void_zero_node w.current way.tests refl way.current
  optional_chaining_tidy (as_callee {m = m} {e = e} {d = d} {w = w} level walked tested callee) h =
      let way = walked_tidy walked (content_tidy m e h) in
      short_tidy m w.tests void_zero_node d way.tests refl (bound_tidy callee way.current)
  optional_chaining_tidy (in_delete {m = m} {l = l} {t = t} {e = e} {w = w} texts inner walked tested) h =
      let way = walked_tidy walked (content_tidy l e (rw inner at (tidy_stripped t (or_left (strays false t) false h)))) in
      short_tidy m w.tests true_node (delete_node w.current) way.tests refl (or_both (strays false w.current) false way.current refl)
