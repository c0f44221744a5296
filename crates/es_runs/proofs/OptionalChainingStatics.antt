-- The rows of optional chaining keep the static rules of the tree at its place, apart from its names.
use Rattle.std.proofs.Common.{◌≡◌, refl, sym, subst, ◌∙◌, List, [], ◌∷◌, ◌++◌}
use Rattle.std.specs.Prelude.{Bool, true, false, ◌&&◌, bytes_eq, codes, Option, Some}
use Rattle.es_tree.specs.CoreStaticRules.{is_bad_delete, is_kept, is_private_member}
use Rattle.es_tree.specs.Names.{first_text}
use Rattle.es_tree.specs.Parens.{without_parens}
use Rattle.es_tree.specs.Tree.{Tree, node, Label, done, ◌then◌, one, Trees, ◌before◌}
use Rattle.es_tree.specs.Words.{Text}
use Rattle.es_tree.specs.declared.ast_type.AstType.TheVariants.{BinaryExpression, CallExpression, ChainExpression, ConditionalExpression, LogicalExpression, MemberExpression, UnaryExpression}
use Rattle.es_tree.specs.declared.place.Place.TheVariants.{Other, Spine}
use Rattle.es_runs.specs.Alike.{Need}
use Rattle.es_runs.specs.OptionalChaining.{Way, Receives, Tested, Called, Walked, Continued, BoundCallee, OptionalChainingRule, bind_node, call_at, call_method, delete_node, has_tests, is_link, joined_by_or, member_at, stored_call, null_checks, true_node, where_short}
use Rattle.es_runs.specs.OptionalChaining.Receives.{by_this, by_name as receives_name, by_temporary}
use Rattle.es_runs.specs.OptionalChaining.Tested.{as_name, in_holder, in_temporary}
use Rattle.es_runs.specs.OptionalChaining.Called.{by_name, by_value, by_first_member, by_later_member}
use Rattle.es_runs.specs.OptionalChaining.Walked.{base, plain_member, plain_call, marked_member, marked_call}
use Rattle.es_runs.specs.OptionalChaining.Continued.{same_spine, inner_spine}
use Rattle.es_runs.specs.OptionalChaining.BoundCallee.{no_member, to_object}
use Rattle.es_runs.specs.OptionalChaining.OptionalChainingRule.{by_tests, as_callee, in_delete}
use Rattle.es_runs.specs.Rules.{assign_node, binary_node, logical_node, null_node, void_zero_node}
use Rattle.es_runs.specs.Runs.{identifier}
use Rattle.es_runs.proofs.RowFacts.{Each, below_parens, each_both}
use Rattle.es_runs.proofs.StaticKeeps.{Keeps, KeepsTrees, assigns, free_own, member_keeps, moved_fields, name_keeps, name_target, null_keeps, quiet_value, zero_keeps}

-- PARTS

stripped_keeps : (t : Tree) → Keeps Other t → Keeps Other (without_parens t)
stripped_keeps t h = below_parens (Keeps Other) (λ l s fs g. g.1.0) t h

-- what stands at the base of a spine keeps the rules anywhere else
base_keeps : (e : Tree) → is_link e ≡ false → Keeps Spine e → Keeps Other e
base_keeps (node MemberExpression l fs) link h = absurd (cc link)
base_keeps (node CallExpression l fs) link h = absurd (cc link)
base_keeps (node k l fs) link h = (
  record { target = refl; chain = h.0.chain; mark = refl; deleted = h.0.deleted; value = quiet_value Other (node k l fs) refl },
  moved_fields Spine Other k l fs refl h.1,
)

-- of a member without a mark
record KeptMember (o p : Tree) : Type 0 where
  object : Keeps Other o
  key : Keeps Other p

-- the member that a marked call stores, without parentheses around it
member_below : (e : Tree) (k : Label) (o p : Tree) → without_parens e ≡ node MemberExpression k (one o then (one p then done)) → Keeps Other e → KeptMember o p
member_below e k o p same h =
    let whole : Keeps Other (node MemberExpression k (one o then (one p then done))) = subst (λ t. Keeps Other t) same (stripped_keeps e h) in
    record { object = whole.1.0; key = whole.1.1.0 }

-- what `delete` takes in the source may be deleted
source_deleted : (m l : Label) (t e : Tree) → m.texts ≡ Some (codes "delete") ∷ [] → without_parens t ≡ node ChainExpression l (one e then done) → is_bad_delete (node UnaryExpression m (one t then done)) ≡ false → is_private_member (Some e) ≡ false
source_deleted m l t e texts inner h =
    let word : (bytes_eq (first_text m.texts) (codes "delete") && is_kept (without_parens t)) ≡ is_private_member (Some e) = rw (texts, inner) refl in
    sym word ∙ h

-- MADE NODES

member_at_keeps : (l : Label) (computed : Bool) (o p : Tree) → Keeps Other o → Keeps Other p → Keeps Other (member_at l computed o p)
member_at_keeps l computed o p h g = (record { target = refl; chain = refl; mark = refl; deleted = refl; value = refl }, (h, (g, tt)))

call_at_keeps : (l : Label) (f : Tree) (ts : Trees) → Keeps Other f → KeepsTrees Other ts → Keeps Other (call_at l f ts)
call_at_keeps l f ts h g = (record { target = refl; chain = refl; mark = refl; deleted = refl; value = refl }, (h, (g, tt)))

store_keeps : (x : Text) (e : Tree) → Keeps Other e → Keeps Other (assign_node (identifier x) e)
store_keeps x e h = assigns _ (identifier x) e (λ s. name_target s _) h

equals_keeps : (op : Text) (l r : Tree) → Keeps Other l → Keeps Other r → Keeps Other (binary_node op l r)
equals_keeps op l r h g = (free_own BinaryExpression _ _ refl, (h, (g, tt)))

tests_keep : (no_all : Bool) (e again : Tree) → Keeps Other e → Keeps Other again → Each (Keeps Other) (null_checks no_all e again)
tests_keep true e again h g = (equals_keeps (codes "==") e null_node h null_keeps, tt)
tests_keep false e again h g = (equals_keeps (codes "===") e null_node h null_keeps, (equals_keeps (codes "===") again void_zero_node g zero_keeps, tt))

stored_tests_keep : (no_all : Bool) (ts : List Tree) (x : Text) (e : Tree) → Each (Keeps Other) ts → Keeps Other e → Each (Keeps Other) (ts ++ null_checks no_all (assign_node (identifier x) e) (identifier x))
stored_tests_keep no_all ts x e h g = each_both (Keeps Other) ts (null_checks no_all (assign_node (identifier x) e) (identifier x)) h (tests_keep no_all (assign_node (identifier x) e) (identifier x) (store_keeps x e g) (name_keeps _))

joined_keeps : (t : Tree) (ts : List Tree) → Keeps Other t → Each (Keeps Other) ts → Keeps Other (joined_by_or t ts)
joined_keeps t [] h g = h
joined_keeps t (u ∷ us) h g = joined_keeps (logical_node (codes "||") t u) us (free_own LogicalExpression _ _ refl, (h, (g.0, tt))) g.1

short_keeps : (m : Label) (ts : List Tree) (short long : Tree) → Each (Keeps Other) ts → Keeps Other short → Keeps Other long → Keeps Other (where_short m ts short long)
short_keeps m [] short long h a b = b
short_keeps m (t ∷ ts) short long h a b = (free_own ConditionalExpression _ _ refl, (joined_keeps t ts h.0 h.1, (a, (b, tt))))

bind_keeps : (e r : Tree) → Keeps Other e → Keeps Other r → Keeps Other (bind_node e r)
bind_keeps e r h g = (record { target = refl; chain = refl; mark = refl; deleted = refl; value = refl }, (member_keeps false e _ h (name_keeps _), ((g, tt), tt)))

delete_keeps : (e : Tree) → is_kept (without_parens e) ≡ false → Keeps Other e → Keeps Other (delete_node e)
delete_keeps e k h = (record { target = refl; chain = refl; mark = refl; deleted = k; value = refl }, (h, tt))

-- SPINES

-- of a spine as far as it is lowered
record KeptWay (w : Way) : Type 0 where
  tests : Each (Keeps Other) w.tests
  current : Keeps Other w.current

module _ (no_all : Bool) (bound steady in_use : Text → Bool) where
  receives_keep : {to_this : Tree → Bool} {used : Text → Bool} {holder : Option Text} {xs : List Text} {o o1 r : Tree} → Receives to_this steady used holder xs o o1 r → Keeps Other o → Keeps Other o1 × Keeps Other r
  receives_keep (by_this h) g = (g, (free_own _ _ _ refl, tt))
  receives_keep (receives_name h e) g = (g, g)
  receives_keep (by_temporary {o = o} {r = r} h e fresh) g = (store_keeps r o g, name_keeps _)

  tested_keeps : {w u : Way} → Tested no_all bound in_use w u → KeptWay w → KeptWay u
  tested_keeps (as_name {w = w} none again) h = let e = stripped_keeps w.current h.current in record { tests = tests_keep no_all (without_parens w.current) (without_parens w.current) e e; current = e }
  tested_keeps (in_holder {w = w} {x = x} held) h = record { tests = stored_tests_keep no_all w.tests x (without_parens w.current) h.tests (stripped_keeps w.current h.current); current = name_keeps _ }
  tested_keeps (in_temporary {w = w} {x = x} again none fresh) h = record { tests = stored_tests_keep no_all w.tests x (without_parens w.current) h.tests (stripped_keeps w.current h.current); current = name_keeps _ }

  stored_keeps : (l : Label) (ts : Trees) → KeepsTrees Other ts → (w : Way) (names : List Text) (c : Text) (k : Label) (computed : Bool) (o1 p r : Tree) → Keeps Other o1 → Keeps Other p → Keeps Other r → KeptWay w → KeptWay (stored_call no_all l ts w names c (member_at k computed o1 p) r)
  stored_keeps l ts args w names c k computed o1 p r begin key again h = record {
    tests = stored_tests_keep no_all w.tests c (member_at k computed o1 p) h.tests (member_at_keeps k computed o1 p begin key);
    current = call_at_keeps l (call_method (identifier c)) (r before ts) (member_keeps false (identifier c) _ (name_keeps _) (name_keeps _)) (again, args);
  }

  called_keeps : (l : Label) (ts : Trees) → KeepsTrees Other ts → {w u : Way} → Called no_all bound steady in_use l ts w u → KeptWay w → KeptWay u
  called_keeps l ts args (by_name {w = w} none again) h =
      let e = stripped_keeps w.current h.current in
      record { tests = tests_keep no_all (without_parens w.current) (without_parens w.current) e e; current = call_at_keeps l (without_parens w.current) ts e args }
  called_keeps l ts args (by_value {w = w} {c = c} again member fresh) h =
      record { tests = stored_tests_keep no_all w.tests c (without_parens w.current) h.tests (stripped_keeps w.current h.current); current = call_at_keeps l (identifier c) ts (name_keeps _) args }
  called_keeps l ts args (by_first_member {w = w} {k = k} {computed = computed} {o = o} {o1 = o1} {p = p} {r = r} {c = c} {xs = xs} none member flags fresh receives) h =
      let inside = member_below w.current k o p member h.current in
      let objects = receives_keep receives inside.object in
      stored_keeps l ts args w (c ∷ xs) c k computed o1 p r objects.0 inside.key objects.1 h
  called_keeps l ts args (by_later_member {w = w} {k = k} {computed = computed} {o = o} {o1 = o1} {p = p} {r = r} {c = c} {xs = xs} some member flags receives fresh) h =
      let inside = member_below w.current k o p member h.current in
      let objects = receives_keep receives inside.object in
      stored_keeps l ts args w (xs ++ c ∷ []) c k computed o1 p r objects.0 inside.key objects.1 h

  mutual
    walked_keeps : {e : Tree} {w : Way} → Walked no_all bound steady in_use e w → Keeps Spine e → KeptWay w
    walked_keeps (base {e = e} link) h = record { tests = tt; current = base_keeps e link h }
    walked_keeps (plain_member {l = l} {computed = computed} {p = p} {w = w} flags below) h =
        let b = walked_keeps below h.1.0 in
        record { tests = b.tests; current = member_at_keeps l computed w.current p b.current h.1.1.0 }
    walked_keeps (plain_call {l = l} {arguments = ts} {w = w} flags below) h =
        let b = walked_keeps below h.1.0 in
        record { tests = b.tests; current = call_at_keeps l w.current ts b.current h.1.1.0 }
    walked_keeps (marked_member {l = l} {computed = computed} {p = p} {u = u} flags below test) h =
        let b = tested_keeps test (continued_keeps below h.1.0) in
        record { tests = b.tests; current = member_at_keeps l computed u.current p b.current h.1.1.0 }
    walked_keeps (marked_call {l = l} {arguments = ts} flags below called) h = called_keeps l ts h.1.1.0 called (continued_keeps below h.1.0)

    continued_keeps : {e : Tree} {w : Way} → Continued no_all bound steady in_use e w → Keeps Spine e → KeptWay w
    continued_keeps (same_spine k walked) h = walked_keeps walked h
    continued_keeps (inner_spine {e = e} {c = c} {l = l} link inner walked) h =
        let chain : Keeps Other (node ChainExpression l (one c then done)) = subst (λ t. Keeps Other t) inner (stripped_keeps e (base_keeps e link h)) in
        walked_keeps walked chain.1.0

  bound_keeps : {used : Text → Bool} {holder : Option Text} {xs : List Text} {e d : Tree} → BoundCallee steady used holder xs e d → Keeps Other e → Keeps Other d
  bound_keeps (no_member k) h = h
  bound_keeps (to_object {k = k} {computed = computed} {o1 = o1} {p = p} {r = r} flags receives) h =
      let objects = receives_keep receives h.1.0 in
      bind_keeps (member_at k computed o1 p) r (member_at_keeps k computed o1 p objects.0 h.1.1.0) objects.1

  -- DELETE

  -- a call may be deleted
  called_deleted : {l : Label} {ts : Trees} {w u : Way} → Called no_all bound steady in_use l ts w u → is_kept (without_parens u.current) ≡ false
  called_deleted (by_name none again) = refl
  called_deleted (by_value again member fresh) = refl
  called_deleted (by_first_member none member flags fresh receives) = refl
  called_deleted (by_later_member some member flags receives fresh) = refl

  -- what becomes of a chain that may be deleted may be deleted
  walked_deleted : {e : Tree} {w : Way} → Walked no_all bound steady in_use e w → has_tests w.tests ≡ true → is_private_member (Some e) ≡ false → is_kept (without_parens w.current) ≡ false
  walked_deleted (base link) tested h = absurd (cc tested)
  walked_deleted (plain_member flags below) tested h = h
  walked_deleted (plain_call flags below) tested h = refl
  walked_deleted (marked_member flags below test) tested h = h
  walked_deleted (marked_call flags below called) tested h = called_deleted called

  -- ROWS

  pub optional_chaining_keeps : {xs : List Text} {n : Need} {a b : Tree} → OptionalChainingRule no_all bound steady in_use xs n a b → Keeps Other a → Keeps Other b
  optional_chaining_keeps (by_tests {m = m} {w = w} level walked tested) h =
      let way = walked_keeps walked h.1.0 in
      short_keeps m w.tests void_zero_node w.current way.tests zero_keeps way.current
  optional_chaining_keeps (as_callee {m = m} {d = d} {w = w} level walked tested callee) h =
      let way = walked_keeps walked h.1.0 in
      short_keeps m w.tests void_zero_node d way.tests zero_keeps (bound_keeps callee way.current)
  optional_chaining_keeps (in_delete {m = m} {l = l} {t = t} {e = e} {w = w} texts inner walked tested) h =
      let chain : Keeps Other (node ChainExpression l (one e then done)) = subst (λ s. Keeps Other s) inner (stripped_keeps t h.1.0) in
      let way = walked_keeps walked chain.1.0 in
      let deleted = walked_deleted walked tested (source_deleted m l t e texts inner h.0.deleted) in
      short_keeps m w.tests true_node (delete_node w.current) way.tests (free_own _ _ _ refl, tt) (delete_keeps w.current deleted way.current)
