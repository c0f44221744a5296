-- A fact of nodes that goes from a node to its parts, and from parts to what the rows of optional chaining make of them, is
-- kept by these rows; and the names that they take are fresh, one after the other.
use Rattle.std.proofs.Common.{◌≡◌, refl, subst, List, [], ◌∷◌, ◌++◌}
use Rattle.std.specs.Prelude.{Bool, true, false, Option, Some, None, codes}
use Rattle.es_tree.specs.Words.{Text}
use Rattle.es_tree.specs.Parens.{without_parens}
use Rattle.es_tree.specs.Tree.{Tree, node, Label, Fields, done, ◌then◌, one, many, Trees, empty, ◌before◌}
use Rattle.es_tree.specs.declared.ast_type.AstType.TheVariants.{CallExpression, ChainExpression, MemberExpression, ParenthesizedExpression, UnaryExpression}
use Rattle.es_runs.specs.Alike.{Need}
use Rattle.es_runs.specs.OptionalChaining.{Way, Receives, Tested, Called, Walked, Continued, BoundCallee, OptionalChainingRule, call_at, call_method, delete_node, joined_by_or, member_at, stored_call, null_checks, this_node, true_node, where_short}
use Rattle.es_runs.specs.OptionalChaining.Receives.{by_this, by_name as receives_name, by_temporary}
use Rattle.es_runs.specs.OptionalChaining.Tested.{as_name, in_holder, in_temporary}
use Rattle.es_runs.specs.OptionalChaining.Called.{by_name, by_value, by_first_member, by_later_member}
use Rattle.es_runs.specs.OptionalChaining.Walked.{base, plain_member, plain_call, marked_member, marked_call}
use Rattle.es_runs.specs.OptionalChaining.Continued.{same_spine, inner_spine}
use Rattle.es_runs.specs.OptionalChaining.BoundCallee.{no_member, to_object}
use Rattle.es_runs.specs.OptionalChaining.OptionalChainingRule.{by_tests, as_callee, in_delete}
use Rattle.es_runs.specs.Rules.{assign_node, binary_node, conditional_at, in_place_of, logical_node, member_node, null_node, void_zero_node}
use Rattle.es_runs.specs.Runs.{made, identifier}
use Rattle.es_runs.specs.NullishCoalescing.{also_all}
use Rattle.es_runs.proofs.CoreRows.{FreshInTurn}
use Rattle.es_runs.proofs.CoreRows.FreshInTurn.{no_more, one_more}
use Rattle.es_runs.proofs.FreshNames.{fresh_both, fresh_one, not_math}
use Rattle.es_runs.proofs.RowFacts.{Each, below_parens, each_both, each_first, each_second}

-- FRESH NAMES

module _ (no_all : Bool) (bound steady in_use : Text → Bool) where
  receives_fresh : {to_this : Tree → Bool} {used : Text → Bool} {holder : Option Text} {xs : List Text} {o o1 r : Tree} → Receives to_this steady used holder xs o o1 r → FreshInTurn used xs
  receives_fresh (by_this h) = no_more
  receives_fresh (receives_name h e) = no_more
  receives_fresh {used = used} (by_temporary {r = r} h e fresh) = fresh_one used _ r fresh

  tested_fresh : {w u : Way} → Tested no_all bound in_use w u → FreshInTurn in_use w.taken → FreshInTurn in_use u.taken
  tested_fresh (as_name none again) h = h
  tested_fresh (in_holder held) h = h
  tested_fresh (in_temporary {w = w} {x = x} again none fresh) h = fresh_both h (fresh_one (also_all w.taken in_use) _ x fresh)

  called_fresh : {l : Label} {ts : Trees} {w u : Way} → Called no_all bound steady in_use l ts w u → FreshInTurn in_use w.taken → FreshInTurn in_use u.taken
  called_fresh (by_name none again) h = h
  called_fresh (by_value {w = w} {c = c} again member fresh) h = fresh_both h (fresh_one (also_all w.taken in_use) _ c fresh)
  called_fresh (by_first_member {w = w} {c = c} none member flags fresh receives) h = fresh_both h (one_more fresh.free (not_math (also_all w.taken in_use) _ c fresh) (receives_fresh receives))
  called_fresh (by_later_member {w = w} {c = c} {xs = xs} some member flags receives fresh) h = fresh_both h (fresh_both (receives_fresh receives) (fresh_one (also_all xs (also_all w.taken in_use)) _ c fresh))

  mutual
    walked_fresh : {e : Tree} {w : Way} → Walked no_all bound steady in_use e w → FreshInTurn in_use w.taken
    walked_fresh (base link) = no_more
    walked_fresh (plain_member flags below) = walked_fresh below
    walked_fresh (plain_call flags below) = walked_fresh below
    walked_fresh (marked_member flags below test) = tested_fresh test (continued_fresh below)
    walked_fresh (marked_call flags below called) = called_fresh called (continued_fresh below)

    continued_fresh : {e : Tree} {w : Way} → Continued no_all bound steady in_use e w → FreshInTurn in_use w.taken
    continued_fresh (same_spine h walked) = walked_fresh walked
    continued_fresh (inner_spine link inner walked) = walked_fresh walked

  bound_fresh : {used : Text → Bool} {holder : Option Text} {xs : List Text} {e d : Tree} → BoundCallee steady used holder xs e d → FreshInTurn used xs
  bound_fresh (no_member h) = no_more
  bound_fresh (to_object flags receives) = receives_fresh receives

  pub optional_chaining_fresh : {xs : List Text} {n : Need} {a b : Tree} → OptionalChainingRule no_all bound steady in_use xs n a b → FreshInTurn in_use xs
  optional_chaining_fresh (by_tests level walked tested) = walked_fresh walked
  optional_chaining_fresh (as_callee level walked tested callee) = fresh_both (walked_fresh walked) (bound_fresh callee)
  optional_chaining_fresh (in_delete texts inner walked tested) = walked_fresh walked

-- FACTS

-- A fact of trees, and what is known of the names that are taken.
pub record ChainPassesOn (Good : Tree → Type 0) (Fine : Text → Type 0) : Type 0 where
  -- from a node to its parts
  pub inside : (l : Label) (t : Tree) (fs : Fields) → Good (node ParenthesizedExpression l (one t then fs)) → Good t
  pub content : (l : Label) (t : Tree) → Good (node ChainExpression l (one t then done)) → Good t
  pub operand : (l : Label) (t : Tree) → Good (node UnaryExpression l (one t then done)) → Good t
  pub object : (l : Label) (o p : Tree) → Good (node MemberExpression l (one o then one p then done)) → Good o
  pub callee : (l : Label) (f : Tree) (ts : Trees) → Good (node CallExpression l (one f then many ts then done)) → Good f
  -- to a step over something else
  pub member : (l : Label) (computed optional : Bool) (o q p : Tree) → l.flags ≡ computed ∷ optional ∷ [] → Good (node MemberExpression l (one o then one p then done)) → Good q → Good (member_at l computed q p)
  pub call : (l : Label) (f q : Tree) (ts : Trees) → Good (node CallExpression l (one f then many ts then done)) → Good q → Good (call_at l q ts)
  pub call_with : (l : Label) (f q r : Tree) (ts : Trees) → Good (node CallExpression l (one f then many ts then done)) → Good q → Good r → Good (call_at l q (r before ts))
  -- from parts to what is made of them
  pub name : (x : Text) → Fine x → Good (identifier x)
  pub takes : (x : Text) (e : Tree) → Fine x → Good e → Good (assign_node (identifier x) e)
  pub static_member : (c : Tree) (y : Text) → Good c → Good (member_node false c (identifier y))
  pub call_one : (c r : Tree) → Good c → Good r → Good (node CallExpression (made [] (false ∷ [])) (one c then many (r before empty) then done))
  pub this : Good this_node
  pub null : Good null_node
  pub void_zero : Good void_zero_node
  pub truth : Good true_node
  pub equals : (l r : Tree) → Good l → Good r → Good (binary_node (codes "===") l r)
  pub loosely_equals : (l r : Tree) → Good l → Good r → Good (binary_node (codes "==") l r)
  pub or : (l r : Tree) → Good l → Good r → Good (logical_node (codes "||") l r)
  pub choice : (m : Label) (t a b : Tree) → Good t → Good a → Good b → Good (conditional_at (in_place_of m) t a b)
  pub deletes : (e : Tree) → Good e → Good (delete_node e)

module _ (Good : Tree → Type 0) (Fine : Text → Type 0) (on : ChainPassesOn Good Fine) where
  stripped_good : (t s : Tree) → without_parens t ≡ s → Good t → Good s
  stripped_good t s e h = subst Good e (below_parens Good on.inside t h)

  -- of a spine as far as it is lowered
  record GoodWay (w : Way) : Type 0 where
    tests : Each Good w.tests
    current : Good w.current
    holder : (x : Text) → w.holder ≡ Some x → Fine x

  -- a name that is held
  abbrev Held : Option Text → Type 0
  Held None = Unit {0}
  Held (Some x) = Fine x

  held_fine : (x : Text) → Fine x → (y : Text) → Some x ≡ Some y → Fine y
  held_fine x h y e = subst Held e h

  tests_good : (no_all : Bool) (e again : Tree) → Good e → Good again → Each Good (null_checks no_all e again)
  tests_good true e again h g = (on.loosely_equals e null_node h on.null, tt)
  tests_good false e again h g = (on.equals e null_node h on.null, (on.equals again void_zero_node g on.void_zero, tt))

  module _ (no_all : Bool) (bound steady in_use : Text → Bool) where
    more_tests_good : (ts : List Tree) (e again : Tree) → Each Good ts → Good e → Good again → Each Good (ts ++ null_checks no_all e again)
    more_tests_good ts e again k h g = each_both Good ts (null_checks no_all e again) k (tests_good no_all e again h g)

    receives_good : {to_this : Tree → Bool} {used : Text → Bool} {holder : Option Text} {xs : List Text} {o o1 r : Tree} → Receives to_this steady used holder xs o o1 r → Each Fine xs → Good o → Good o1 × Good r
    receives_good (by_this h) fine good = (good, on.this)
    receives_good (receives_name h e) fine good = (good, good)
    receives_good (by_temporary {o = o} {r = r} h e fresh) fine good = (on.takes r o fine.0 good, on.name r fine.0)

    tested_first : {w u : Way} → Tested no_all bound in_use w u → Each Fine u.taken → Each Fine w.taken
    tested_first (as_name none again) fine = fine
    tested_first (in_holder held) fine = fine
    tested_first (in_temporary {w = w} {x = x} again none fresh) fine = each_first Fine w.taken (x ∷ []) fine

    tested_good : {w u : Way} → Tested no_all bound in_use w u → Each Fine u.taken → GoodWay w → GoodWay u
    tested_good (as_name {w = w} none again) fine h =
        let e = stripped_good w.current (without_parens w.current) refl h.current in
        record { tests = tests_good no_all (without_parens w.current) (without_parens w.current) e e; current = e; holder = h.holder }
    tested_good (in_holder {w = w} {x = x} held) fine h =
        let e = stripped_good w.current (without_parens w.current) refl h.current in
        let x_fine = h.holder x held in
        record { tests = more_tests_good w.tests _ (identifier x) h.tests (on.takes x (without_parens w.current) x_fine e) (on.name x x_fine); current = on.name x x_fine; holder = h.holder }
    tested_good (in_temporary {w = w} {x = x} again none fresh) fine h =
        let e = stripped_good w.current (without_parens w.current) refl h.current in
        let x_fine = (each_second Fine w.taken (x ∷ []) fine).0 in
        record { tests = more_tests_good w.tests _ (identifier x) h.tests (on.takes x (without_parens w.current) x_fine e) (on.name x x_fine); current = on.name x x_fine; holder = held_fine x x_fine }

    called_first : {l : Label} {ts : Trees} {w u : Way} → Called no_all bound steady in_use l ts w u → Each Fine u.taken → Each Fine w.taken
    called_first (by_name none again) fine = fine
    called_first (by_value {w = w} {c = c} again member fresh) fine = each_first Fine w.taken (c ∷ []) fine
    called_first (by_first_member {w = w} {c = c} {xs = xs} none member flags fresh receives) fine = each_first Fine w.taken (c ∷ xs) fine
    called_first (by_later_member {w = w} {c = c} {xs = xs} some member flags receives fresh) fine = each_first Fine w.taken (xs ++ c ∷ []) fine

    -- a member that is stored beside its receiver, and called
    stored_good : (l : Label) (f : Tree) (ts : Trees) → Good (node CallExpression l (one f then many ts then done)) → (w : Way) (names : List Text) (k : Label) (computed : Bool) (o o1 p r : Tree) (c : Text) → k.flags ≡ computed ∷ false ∷ [] → Fine c →
        Good (node MemberExpression k (one o then one p then done)) → Good o1 → Good r → GoodWay w → GoodWay (stored_call no_all l ts w names c (member_at k computed o1 p) r)
    stored_good l f ts whole w names k computed o o1 p r c flags c_fine e begin again h = record {
      tests = more_tests_good w.tests _ (identifier c) h.tests (on.takes c (member_at k computed o1 p) c_fine (on.member k computed false o o1 p flags e begin)) (on.name c c_fine);
      current = on.call_with l f (call_method (identifier c)) r ts whole (on.static_member (identifier c) (codes "call") (on.name c c_fine)) again;
      holder = held_fine c c_fine;
    }

    called_good : (l : Label) (f : Tree) (ts : Trees) → Good (node CallExpression l (one f then many ts then done)) → {w u : Way} → Called no_all bound steady in_use l ts w u → Each Fine u.taken → GoodWay w → GoodWay u
    called_good l f ts whole (by_name {w = w} none again) fine h =
        let e = stripped_good w.current (without_parens w.current) refl h.current in
        record { tests = tests_good no_all (without_parens w.current) (without_parens w.current) e e; current = on.call l f (without_parens w.current) ts whole e; holder = h.holder }
    called_good l f ts whole (by_value {w = w} {c = c} again member fresh) fine h =
        let e = stripped_good w.current (without_parens w.current) refl h.current in
        let c_fine = (each_second Fine w.taken (c ∷ []) fine).0 in
        record { tests = more_tests_good w.tests _ (identifier c) h.tests (on.takes c (without_parens w.current) c_fine e) (on.name c c_fine); current = on.call l f (identifier c) ts whole (on.name c c_fine); holder = held_fine c c_fine }
    called_good l f ts whole (by_first_member {w = w} {k = k} {computed = computed} {o = o} {o1 = o1} {p = p} {r = r} {c = c} {xs = xs} none member flags fresh receives) fine h =
        let e = stripped_good w.current (node MemberExpression k (one o then one p then done)) member h.current in
        let names = each_second Fine w.taken (c ∷ xs) fine in
        let objects = receives_good receives names.1 (on.object k o p e) in
        stored_good l f ts whole w (c ∷ xs) k computed o o1 p r c flags names.0 e objects.0 objects.1 h
    called_good l f ts whole (by_later_member {w = w} {k = k} {computed = computed} {o = o} {o1 = o1} {p = p} {r = r} {c = c} {xs = xs} some member flags receives fresh) fine h =
        let e = stripped_good w.current (node MemberExpression k (one o then one p then done)) member h.current in
        let names = each_second Fine w.taken (xs ++ c ∷ []) fine in
        let objects = receives_good receives (each_first Fine xs (c ∷ []) names) (on.object k o p e) in
        stored_good l f ts whole w (xs ++ c ∷ []) k computed o o1 p r c flags (each_second Fine xs (c ∷ []) names).0 e objects.0 objects.1 h

    mutual
      walked_good : {e : Tree} {w : Way} → Walked no_all bound steady in_use e w → Each Fine w.taken → Good e → GoodWay w
      walked_good (base link) fine h = record { tests = tt; current = h; holder = λ x k. absurd (cc k) }
      walked_good (plain_member {l = l} {computed = computed} {o = o} {p = p} {w = w} flags below) fine h =
          let b = walked_good below fine (on.object l o p h) in
          record { tests = b.tests; current = on.member l computed false o w.current p flags h b.current; holder = b.holder }
      walked_good (plain_call {l = l} {f = f} {arguments = ts} {w = w} flags below) fine h =
          let b = walked_good below fine (on.callee l f ts h) in
          record { tests = b.tests; current = on.call l f w.current ts h b.current; holder = b.holder }
      walked_good (marked_member {l = l} {computed = computed} {o = o} {p = p} {u = u} flags below test) fine h =
          let b = tested_good test fine (continued_good below (tested_first test fine) (on.object l o p h)) in
          record { tests = b.tests; current = on.member l computed true o u.current p flags h b.current; holder = b.holder }
      walked_good (marked_call {l = l} {f = f} {arguments = ts} flags below called) fine h =
          called_good l f ts h called fine (continued_good below (called_first called fine) (on.callee l f ts h))

      continued_good : {e : Tree} {w : Way} → Continued no_all bound steady in_use e w → Each Fine w.taken → Good e → GoodWay w
      continued_good (same_spine k walked) fine h = walked_good walked fine h
      continued_good (inner_spine {e = e} {c = c} {l = l} link inner walked) fine h = walked_good walked fine (on.content l c (stripped_good e (node ChainExpression l (one c then done)) inner h))

    joined_good : (t : Tree) (ts : List Tree) → Good t → Each Good ts → Good (joined_by_or t ts)
    joined_good t [] h g = h
    joined_good t (u ∷ us) h g = joined_good (logical_node (codes "||") t u) us (on.or t u h g.0) g.1

    short_good : (m : Label) (ts : List Tree) (short long : Tree) → Each Good ts → Good short → Good long → Good (where_short m ts short long)
    short_good m [] short long h a b = b
    short_good m (t ∷ ts) short long h a b = on.choice m (joined_by_or t ts) short long (joined_good t ts h.0 h.1) a b

    bound_good : {used : Text → Bool} {holder : Option Text} {xs : List Text} {e d : Tree} → BoundCallee steady used holder xs e d → Each Fine xs → Good e → Good d
    bound_good (no_member k) fine h = h
    bound_good (to_object {k = k} {computed = computed} {o = o} {o1 = o1} {p = p} {r = r} flags receives) fine h =
        let objects = receives_good receives fine (on.object k o p h) in
        let bound_one = on.member k computed false o o1 p flags h objects.0 in
        on.call_one (member_node false (member_at k computed o1 p) (identifier (codes "bind"))) r (on.static_member (member_at k computed o1 p) (codes "bind") bound_one) objects.1

    pub optional_chaining_good : {xs : List Text} {n : Need} {a b : Tree} → OptionalChainingRule no_all bound steady in_use xs n a b → Each Fine xs → Good a → Good b
    optional_chaining_good (by_tests {m = m} {e = e} {w = w} level walked tested) fine h =
        let way = walked_good walked fine (on.content m e h) in
        short_good m w.tests void_zero_node w.current way.tests on.void_zero way.current
    optional_chaining_good (as_callee {m = m} {e = e} {d = d} {w = w} {xs = xs} level walked tested callee) fine h =
        let way = walked_good walked (each_first Fine w.taken xs fine) (on.content m e h) in
        short_good m w.tests void_zero_node d way.tests on.void_zero (bound_good callee (each_second Fine w.taken xs fine) way.current)
    optional_chaining_good (in_delete {m = m} {l = l} {t = t} {e = e} {w = w} texts inner walked tested) fine h =
        let way = walked_good walked fine (on.content l e (stripped_good t (node ChainExpression l (one e then done)) inner (on.operand m t h))) in
        short_good m w.tests true_node (delete_node w.current) way.tests on.truth (on.deletes w.current way.current)
