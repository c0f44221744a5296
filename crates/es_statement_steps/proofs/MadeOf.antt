-- A test of nodes that the kinds pass of which the rows make nodes is kept by these rows: what they make passes it where the nodes do that they take apart.
use Rattle.std.proofs.Common.{◌≡◌, ℕ, refl, ap, subst, ◌∙◌, List, [], ◌∷◌, ◌++◌}
use Rattle.std.proofs.lemmas.Bool.{and_parts, and_from}
use Rattle.std.specs.Prelude.{Bool, true, false, ◌&&◌, Option, Some, None, codes}
use Rattle.es_tree.specs.Fresh.{candidate}
use Rattle.es_tree.specs.Names.{first_text}
use Rattle.es_tree.specs.Parens.{without_parens}
use Rattle.es_tree.specs.Tree.{Tree, node, Label, Fields, done, ◌then◌, missing, one, many, statements, Trees, empty, ◌before◌, trees}
use Rattle.es_tree.specs.Walks.{all_nodes, all_in_fields, all_in_trees}
use Rattle.es_tree.specs.Words.{Text}
use Rattle.es_tree.specs.declared.ast_type.AstType.{AstType}
use Rattle.es_tree.specs.declared.ast_type.AstType.TheVariants.{AssignmentExpression, BinaryExpression, BooleanLiteral, CallExpression, ChainExpression, ConditionalExpression, Identifier, LogicalExpression, MemberExpression, NullLiteral, NumericLiteral, ParenthesizedExpression, PrivateIdentifier, SequenceExpression, StringLiteral, ThisExpression, UnaryExpression}
use Rattle.es_runs.specs.Core.{without_last}
use Rattle.es_runs.specs.Exponentiation.{string_node}
use Rattle.es_runs.specs.LogicalAssignment.{assigned_where}
use Rattle.es_runs.specs.OptionalChaining.{call_at, delete_node, joined_by_or, member_at, null_checks, true_node, where_short}
use Rattle.es_runs.specs.Rules.{assign_node, binary_node, conditional_at, in_place_of, logical_node, member_node, null_node, tested, void_zero_node}
use Rattle.es_resolution.specs.Declarations.{Bound}
use Rattle.es_steps.specs.Duplication.{IsDuplicated, IsNext}
use Rattle.es_steps.specs.Duplication.IsDuplicated.{by_temporary as duplicated_by_temporary, read_again}
use Rattle.es_steps.specs.Exponentiation.{ExponentiationRule, Holds, TargetTwice, assigned_power, power_at, power_node}
use Rattle.es_steps.specs.Exponentiation.ExponentiationRule.{power, power_assignment}
use Rattle.es_steps.specs.Exponentiation.Holds.{in_temporary as held_in_temporary, where_it_is}
use Rattle.es_steps.specs.Exponentiation.TargetTwice.{bound_name, literal_key, other_key, other_name, private_member, static_member}
use Rattle.es_steps.specs.LogicalAssignment.{LogicalAssignmentRule}
use Rattle.es_steps.specs.LogicalAssignment.LogicalAssignmentRule.{to_name, to_static_member, to_computed_member}
use Rattle.es_steps.specs.Nodes.{identifier, made, word}
use Rattle.es_steps.specs.NullishCoalescing.{NullishCoalescingRule}
use Rattle.es_steps.specs.NullishCoalescing.NullishCoalescingRule.{reading_again, with_temporary}
use Rattle.es_steps.specs.OptionalChaining.{BoundCallee, Called, Continued, OptionalChainingRule, Receives, Tested, Walked, Way, call_method, stored_call}
use Rattle.es_steps.specs.OptionalChaining.Receives.{by_this, by_name, by_temporary}
use Rattle.es_steps.specs.OptionalChaining.Tested.{as_name, in_holder, in_temporary}
use Rattle.es_steps.specs.OptionalChaining.Called.{by_name as called_by_name, by_value, by_first_member, by_later_member}
use Rattle.es_steps.specs.OptionalChaining.Walked.{base, plain_member, plain_call, marked_member, marked_call}
use Rattle.es_steps.specs.OptionalChaining.Continued.{same_spine, inner_spine}
use Rattle.es_steps.specs.OptionalChaining.BoundCallee.{no_member, to_object}
use Rattle.es_steps.specs.OptionalChaining.OptionalChainingRule.{by_tests, as_callee, in_delete}
use Rattle.es_steps.specs.Steps.{Site, Whole}

-- names are made apart, and so are members
abbrev pub is_made_kind : AstType → Bool
is_made_kind ThisExpression = true
is_made_kind NullLiteral = true
is_made_kind BooleanLiteral = true
is_made_kind NumericLiteral = true
is_made_kind StringLiteral = true
is_made_kind CallExpression = true
is_made_kind UnaryExpression = true
is_made_kind BinaryExpression = true
is_made_kind LogicalExpression = true
is_made_kind ConditionalExpression = true
is_made_kind AssignmentExpression = true
is_made_kind SequenceExpression = true
is_made_kind _ = false

-- That a test is passed by nodes of these kinds, by members of what passes another test as their object, and by names. The other test is passed by nodes of
-- these kinds, members, and names that are good, as the made ones are; and what is in parentheses or a chain passes it as these do.
pub record PassesMade (good : Text → Bool) (object : Tree → Bool) (P : AstType → Label → Fields → Bool) : Type 0 where
  pub nodes : (k : AstType) (l : Label) (fs : Fields) → is_made_kind k ≡ true → P k l fs ≡ true
  pub members : (l : Label) (o : Tree) (fs : Fields) → object o ≡ true → P MemberExpression l (one o then fs) ≡ true
  pub names : (l : Label) → good (first_text l.texts) ≡ true → P Identifier l done ≡ true
  pub objects : (l : Label) (o : Tree) (fs : Fields) → P MemberExpression l (one o then fs) ≡ true → object o ≡ true
  pub made_objects : (k : AstType) (l : Label) (fs : Fields) → is_made_kind k ≡ true → object (node k l fs) ≡ true
  pub member_objects : (l : Label) (fs : Fields) → object (node MemberExpression l fs) ≡ true
  pub name_objects : (l : Label) → good (first_text l.texts) ≡ true → object (node Identifier l done) ≡ true
  pub parens : (t : Tree) → object t ≡ true → object (without_parens t) ≡ true
  pub chains : (t c : Tree) (l : Label) → object t ≡ true → without_parens t ≡ node ChainExpression l (one c then done) → object c ≡ true
  pub fresh : (text : Text) (n : ℕ) → good (candidate text n) ≡ true
  pub math : good (codes "Math") ≡ true
  pub pow : good (codes "pow") ≡ true
  pub call : good (codes "call") ≡ true
  pub bind : good (codes "bind") ≡ true

module _ (good : Text → Bool) (object : Tree → Bool) (P : AstType → Label → Fields → Bool) (passes : PassesMade good object P) where
  abbrev So : Tree → Type 0
  So t = all_nodes P t ≡ true

  abbrev IsObject : Tree → Type 0
  IsObject t = object t ≡ true

  abbrev AreSo : List Tree → Type 0
  AreSo [] = Unit {0}
  AreSo (t ∷ ts) = So t × AreSo ts

  -- NODES, and what is known of their parts

  made-so : (k : AstType) (l : Label) (fs : Fields) → is_made_kind k ≡ true → all_in_fields P fs ≡ true → So (node k l fs)
  made-so k l fs e h = and_from (P k l fs) (all_in_fields P fs) (passes.nodes k l fs e) h

  one-so : (a : Tree) → So a → all_in_fields P (one a then done) ≡ true
  one-so a h = and_from (all_nodes P a) true h refl

  two-so : (a b : Tree) → So a → So b → all_in_fields P (one a then one b then done) ≡ true
  two-so a b h g = and_from (all_nodes P a) (all_nodes P b && true) h (one-so b g)

  two-made : (k : AstType) (l : Label) (a b : Tree) → is_made_kind k ≡ true → So a → So b → So (node k l (one a then one b then done))
  two-made k l a b e h g = made-so k l (one a then one b then done) e (two-so a b h g)

  call-made : (l : Label) (f : Tree) (ts : Trees) → So f → all_in_trees P ts ≡ true → So (node CallExpression l (one f then many ts then done))
  call-made l f ts h g = made-so CallExpression l (one f then many ts then done) refl (and_from (all_nodes P f) (all_in_trees P ts && true) h (and_from (all_in_trees P ts) true g refl))

  first-of : (k : AstType) (l : Label) (a : Tree) (fs : Fields) → So (node k l (one a then fs)) → So a × (all_in_fields P fs ≡ true)
  first-of k l a fs h = and_parts (all_nodes P a) (all_in_fields P fs) (and_parts (P k l (one a then fs)) (all_nodes P a && all_in_fields P fs) h).1

  both-of : (k : AstType) (l : Label) (a b : Tree) → So (node k l (one a then one b then done)) → So a × So b
  both-of k l a b h = let d = first-of k l a (one b then done) h in (d.0, (and_parts (all_nodes P b) true d.1).0)

  object-of : (l : Label) (o : Tree) (fs : Fields) → So (node MemberExpression l (one o then fs)) → IsObject o
  object-of l o fs h = passes.objects l o fs (and_parts (P MemberExpression l (one o then fs)) (all_nodes P o && all_in_fields P fs) h).0

  call-of : (l : Label) (f : Tree) (ts : Trees) → So (node CallExpression l (one f then many ts then done)) → So f × (all_in_trees P ts ≡ true)
  call-of l f ts h = let d = first-of CallExpression l f (many ts then done) h in (d.0, (and_parts (all_in_trees P ts) true d.1).0)

  parens-so : (t : Tree) → So t → So (without_parens t)
  parens-so (node ParenthesizedExpression l (one t then fs)) h = parens-so t (first-of ParenthesizedExpression l t fs h).0
  parens-so (node ParenthesizedExpression l done) h = h
  parens-so (node ParenthesizedExpression l (missing then fs)) h = h
  parens-so (node ParenthesizedExpression l (many ts then fs)) h = h
  parens-so (node ParenthesizedExpression l (statements ts then fs)) h = h
  parens-so (node _ l fs) h = h

  inside-so : (t u : Tree) → So t → without_parens t ≡ u → So u
  inside-so t u h e = subst (λ (v : Tree). So v) e (parens-so t h)

  both-so : (ts us : List Tree) → AreSo ts → AreSo us → AreSo (ts ++ us)
  both-so [] us h g = g
  both-so (t ∷ ts) us h g = (h.0, both-so ts us h.1 g)

  trees-so : (ts : List Tree) → AreSo ts → all_in_trees P (trees ts) ≡ true
  trees-so [] h = refl
  trees-so (t ∷ ts) h = and_from (all_nodes P t) (all_in_trees P (trees ts)) h.0 (trees-so ts h.1)

  -- WHAT THE ROWS MAKE

  name-so : (b : Bound) → good b.name ≡ true → So (identifier b)
  name-so b h = and_from (P Identifier (record (made (Some b.name ∷ []) []) { marks = b.symbol ∷ [] }) done) true (passes.names (record (made (Some b.name ∷ []) []) { marks = b.symbol ∷ [] }) h) refl

  name-object : (b : Bound) → good b.name ≡ true → IsObject (identifier b)
  name-object b h = passes.name_objects (record (made (Some b.name ∷ []) []) { marks = b.symbol ∷ [] }) h

  word-so : (x : Text) → good x ≡ true → So (word x)
  word-so x h = name-so (record { name = x; symbol = None }) h

  -- the next temporary
  next-good : {w : Whole} {from : Text} {b : Bound} → IsNext w from b → good b.name ≡ true
  next-good {from = from} next = ap good next.fresh.name ∙ passes.fresh from next.fresh.number

  null-so : So null_node
  null-so = made-so NullLiteral (made [] []) done refl refl

  void-so : So void_zero_node
  void-so =
      let zero_so = made-so NumericLiteral (made (Some (codes "0") ∷ Some (codes "0") ∷ []) []) done refl refl in
      made-so UnaryExpression (made (Some (codes "void") ∷ []) []) (one (node NumericLiteral (made (Some (codes "0") ∷ Some (codes "0") ∷ []) []) done) then done) refl (one-so (node NumericLiteral (made (Some (codes "0") ∷ Some (codes "0") ∷ []) []) done) zero_so)

  assign-so : (a b : Tree) → So a → So b → So (assign_node a b)
  assign-so a b = two-made AssignmentExpression (made (Some (codes "=") ∷ []) []) a b refl

  member-made : (l : Label) (o p : Tree) → IsObject o → So o → So p → So (node MemberExpression l (one o then one p then done))
  member-made l o p e h g = and_from (P MemberExpression l (one o then one p then done)) (all_nodes P o && (all_nodes P p && true)) (passes.members l o (one p then done) e) (two-so o p h g)

  member-so : (computed : Bool) (o p : Tree) → IsObject o → So o → So p → So (member_node computed o p)
  member-so computed o p = member-made (made [] (computed ∷ false ∷ [])) o p

  placed-so : (l : Label) (computed : Bool) (o p : Tree) → IsObject o → So o → So p → So (member_at l computed o p)
  placed-so l computed o p = member-made (record l { flags = computed ∷ false ∷ [] }) o p

  binary-so : (op : Text) (a b : Tree) → So a → So b → So (binary_node op a b)
  binary-so op a b = two-made BinaryExpression (made (Some op ∷ []) []) a b refl

  logical-so : (op : Text) (a b : Tree) → So a → So b → So (logical_node op a b)
  logical-so op a b = two-made LogicalExpression (made (Some op ∷ []) []) a b refl

  conditional-so : (m : Label) (t a b : Tree) → So t → So a → So b → So (conditional_at m t a b)
  conditional-so m t a b h f g = made-so ConditionalExpression m (one t then one a then one b then done) refl (and_from (all_nodes P t) (all_nodes P a && (all_nodes P b && true)) h (two-so a b f g))

  called-so : (l : Label) (f : Tree) (ts : Trees) → So f → all_in_trees P ts ≡ true → So (call_at l f ts)
  called-so l f ts = call-made (record l { flags = false ∷ [] }) f ts

  -- NULLISH COALESCING

  tested-so : (m : Label) (first again r : Tree) → So first → So again → So r → So (tested m first again r)
  tested-so m first again r h f g =
      conditional-so (in_place_of m) (logical_node (codes "&&") (binary_node (codes "!==") first null_node) (binary_node (codes "!==") again void_zero_node)) again r
      (logical-so (codes "&&") (binary_node (codes "!==") first null_node) (binary_node (codes "!==") again void_zero_node) (binary-so (codes "!==") first null_node h null-so) (binary-so (codes "!==") again void_zero_node f void-so)) f g

  pub coalescing-of : (n : Site) (w : Whole) (bs : List Bound) (t u : Tree) → NullishCoalescingRule n w bs t u → So t → So u
  coalescing-of n w bs t u (with_temporary {m = m} {l = l} {r = r} {x = x} texts again next) h =
      let d = both-of LogicalExpression m l r h in
      tested-so m (assign_node (identifier x) l) (identifier x) r (assign-so (identifier x) l (name-so x (next-good next)) d.0) (name-so x (next-good next)) d.1
  coalescing-of n w bs t u (reading_again {m = m} {l = l} {r = r} texts again) h = let d = both-of LogicalExpression m l r h in tested-so m l l r d.0 d.0 d.1

  -- LOGICAL ASSIGNMENT

  duplicated-so : {w : Whole} {xs : List Bound} {e e1 e2 : Tree} → IsDuplicated w xs e e1 e2 → So e → So e1 × So e2
  duplicated-so (read_again again) h = (h, h)
  duplicated-so (duplicated_by_temporary {e = e} {x = x} again next) h = (assign-so (identifier x) e (name-so x (next-good next)) h, name-so x (next-good next))

  duplicated-objects : {w : Whole} {xs : List Bound} {e e1 e2 : Tree} → IsDuplicated w xs e e1 e2 → IsObject e → IsObject e1 × IsObject e2
  duplicated-objects (read_again again) h = (h, h)
  duplicated-objects (duplicated_by_temporary {e = e} {x = x} again next) h = (passes.made_objects AssignmentExpression (made (Some (codes "=") ∷ []) []) (one (identifier x) then one e then done) refl, name-object x (next-good next))

  assigned-so : (m : Label) (op : Text) (first again r : Tree) → So first → So again → So r → So (assigned_where m op first again r)
  assigned-so m op first again r h f g = two-made LogicalExpression (record (in_place_of m) { texts = Some (without_last op) ∷ [] }) first (assign_node again r) refl h (assign-so again r f g)

  pub assigning-of : (n : Site) (w : Whole) (bs : List Bound) (t u : Tree) → LogicalAssignmentRule n w bs t u → So t → So u
  assigning-of n w bs _ _ (to_name {m = m} {l = l} {t = t} {r = r} {op = op} texts operator alone at) h =
      let d = both-of AssignmentExpression m t r h in
      let target = inside-so t (node Identifier l done) d.0 at in
      assigned-so m op (node Identifier l done) (node Identifier l done) r target target d.1
  assigning-of n w bs _ _ (to_static_member {m = m} {l = l} {k = k} {t = t} {r = r} {o = o} {o1 = o1} {o2 = o2} {op = op} texts operator alone at flags object) h =
      let d = both-of AssignmentExpression m t r h in
      let member = inside-so t (node MemberExpression l (one o then one (node Identifier k done) then done)) d.0 at in
      let target = both-of MemberExpression l o (node Identifier k done) member in
      let c = duplicated-so object target.0 in
      let i = duplicated-objects object (object-of l o (one (node Identifier k done) then done) member) in
      assigned-so m op (member_node false o1 (node Identifier k done)) (member_node false o2 (node Identifier k done)) r (member-so false o1 (node Identifier k done) i.0 c.0 target.1) (member-so false o2 (node Identifier k done) i.1 c.1 target.1) d.1
  assigning-of n w bs _ _ (to_computed_member {m = m} {l = l} {t = t} {r = r} {o = o} {o1 = o1} {o2 = o2} {k = k} {k1 = k1} {k2 = k2} {op = op} texts operator alone at flags object key) h =
      let d = both-of AssignmentExpression m t r h in
      let member = inside-so t (node MemberExpression l (one o then one k then done)) d.0 at in
      let target = both-of MemberExpression l o k member in
      let c = duplicated-so object target.0 in
      let i = duplicated-objects object (object-of l o (one k then done) member) in
      let j = duplicated-so key target.1 in
      assigned-so m op (member_node true o1 k1) (member_node true o2 k2) r (member-so true o1 k1 i.0 c.0 j.0) (member-so true o2 k2 i.1 c.1 j.1) d.1

  -- EXPONENTIATION

  power-so : (m : Label) (l r : Tree) → So l → So r → So (power_at m l r)
  power-so m l r h g =
      call-made (record (in_place_of m) { flags = false ∷ [] }) (member_node false (word (codes "Math")) (word (codes "pow"))) (l before r before empty)
      (member-so false (word (codes "Math")) (word (codes "pow")) (name-object (record { name = codes "Math"; symbol = None }) passes.math) (word-so (codes "Math") passes.math) (word-so (codes "pow") passes.pow)) (trees-so (l ∷ r ∷ []) (h, (g, tt)))

  abbrev TwiceSo : List Tree → Tree → Tree → Type 0
  TwiceSo fs target read = AreSo fs × (So target × So read)

  held-so : {names : Option ℕ → Bool} {w : Whole} {xs : List Bound} {fs : List Tree} {o o' : Tree} → Holds names w xs fs o o' → So o → AreSo fs × So o'
  held-so (where_it_is stays) h = (tt, h)
  held-so (held_in_temporary {o = o} {x = x} stays next) h = ((assign-so (identifier x) o (name-so x (next-good next)) h, tt), name-so x (next-good next))

  held-object : {names : Option ℕ → Bool} {w : Whole} {xs : List Bound} {fs : List Tree} {o o' : Tree} → Holds names w xs fs o o' → IsObject o → IsObject o'
  held-object (where_it_is stays) h = h
  held-object (held_in_temporary {x = x} stays next) h = name-object x (next-good next)

  twice-so : {w : Whole} {xs : List Bound} {fs : List Tree} {t target read : Tree} → TargetTwice w xs fs t target read → So t → TwiceSo fs target read
  twice-so (bound_name bound) h = (tt, (h, h))
  twice-so (other_name {l = l} {x = x} bound next) h = ((assign-so (identifier x) (node Identifier l done) (name-so x (next-good next)) h, tt), (h, name-so x (next-good next)))
  twice-so (static_member {l = l} {k = k} {o = o} {o' = o'} flags object) h =
      let c = held-so object (both-of MemberExpression l o (node Identifier k done) h).0 in
      let key = string_node (first_text k.texts) in
      let so = member-so true o' key (held-object object (object-of l o (one (node Identifier k done) then done) h)) c.1 (made-so StringLiteral (made (Some (first_text k.texts) ∷ []) []) done refl refl) in
      (c.0, (so, so))
  twice-so (private_member {l = l} {k = k} {o = o} {o' = o'} flags object) h =
      let d = both-of MemberExpression l o (node PrivateIdentifier k done) h in
      let c = held-so object d.0 in
      let so = member-so false o' (node PrivateIdentifier k done) (held-object object (object-of l o (one (node PrivateIdentifier k done) then done) h)) c.1 d.1 in
      (c.0, (so, so))
  twice-so (literal_key {l = l} {o = o} {o' = o'} {k = k} flags literal object) h =
      let d = both-of MemberExpression l o k h in
      let c = held-so object d.0 in
      let so = member-so true o' k (held-object object (object-of l o (one k then done) h)) c.1 d.1 in
      (c.0, (so, so))
  twice-so (other_key {l = l} {o = o} {o' = o'} {k = k} {fs = fs} {y = y} flags literal object next) h =
      let d = both-of MemberExpression l o k h in
      let c = held-so object d.0 in
      let so = member-so true o' (identifier y) (held-object object (object-of l o (one k then done) h)) c.1 (name-so y (next-good next)) in
      (both-so fs (assign_node (identifier y) k ∷ []) c.0 (assign-so (identifier y) k (name-so y (next-good next)) d.1, tt), (so, so))

  raised-so : (m : Label) (fs : List Tree) (target read r : Tree) → TwiceSo fs target read → So r → So (assigned_power m fs target read r)
  raised-so m [] target read r h g = two-made AssignmentExpression (record (in_place_of m) { texts = Some (codes "=") ∷ [] }) target (power_node read r) refl h.1.0 (power-so (made [] []) read r h.1.1 g)
  raised-so m (f ∷ fs) target read r h g =
      let last = assign-so target (power_node read r) h.1.0 (power-so (made [] []) read r h.1.1 g) in
      let all = (f ∷ fs) ++ assign_node target (power_node read r) ∷ [] in
      made-so SequenceExpression (in_place_of m) (many (trees all) then done) refl (and_from (all_in_trees P (trees all)) true (trees-so all (both-so (f ∷ fs) (assign_node target (power_node read r) ∷ []) h.0 (last, tt))) refl)

  pub raising-of : (n : Site) (w : Whole) (bs : List Bound) (t u : Tree) → ExponentiationRule n w bs t u → So t → So u
  raising-of n w bs _ _ (power {m = m} {l = l} {r = r} free texts left right) h = let d = both-of BinaryExpression m l r h in power-so m l r d.0 d.1
  raising-of n w bs _ _ (power_assignment {m = m} {t = t} {r = r} {target = target} {read = read} {fs = fs} free texts right alone object) h =
      let d = both-of AssignmentExpression m t r h in
      raised-so m fs target read r (twice-so object (parens-so t d.0)) d.1

  -- OPTIONAL CHAINING

  checks-so : (no_all : Bool) (a again : Tree) → So a → So again → AreSo (null_checks no_all a again)
  checks-so true a again h g = (binary-so (codes "==") a null_node h null-so, tt)
  checks-so false a again h g = (binary-so (codes "===") a null_node h null-so, (binary-so (codes "===") again void_zero_node g void-so, tt))

  joined-so : (t : Tree) (ts : List Tree) → So t → AreSo ts → So (joined_by_or t ts)
  joined-so t [] h g = h
  joined-so t (u ∷ us) h g = joined-so (logical_node (codes "||") t u) us (logical-so (codes "||") t u h g.0) g.1

  short-so : (m : Label) (ts : List Tree) (short long : Tree) → AreSo ts → So short → So long → So (where_short m ts short long)
  short-so m [] short long h f g = g
  short-so m (t ∷ ts) short long h f g = conditional-so (in_place_of m) (joined_by_or t ts) short long (joined-so t ts h.0 h.1) f g

  received-so : {to_this : Tree → Bool} {w : Whole} {holder : Option Bound} {xs : List Bound} {o o1 r : Tree} → Receives to_this w holder xs o o1 r → So o → So o1 × So r
  received-so (by_this e) h = (h, made-so ThisExpression (made [] []) done refl refl)
  received-so (by_name e d) h = (h, h)
  received-so (by_temporary {o = o} {r = r} e d next) h = (assign-so (identifier r) o (name-so r (next-good next)) h, name-so r (next-good next))

  received-object : {to_this : Tree → Bool} {w : Whole} {holder : Option Bound} {xs : List Bound} {o o1 r : Tree} → Receives to_this w holder xs o o1 r → IsObject o → IsObject o1
  received-object (by_this e) h = h
  received-object (by_name e d) h = h
  received-object (by_temporary {o = o} {r = r} e d next) h = passes.made_objects AssignmentExpression (made (Some (codes "=") ∷ []) []) (one (identifier r) then one o then done) refl

  -- what is known of a spine that is lowered so far, of what may be an object or not
  abbrev HolderSo : Option Bound → Type 0
  HolderSo None = Unit {0}
  HolderSo (Some x) = good x.name ≡ true

  record WaySo (from : Bool) (w : Way) : Type 0 where
    as_object : from ≡ true → IsObject w.current
    tests : AreSo w.tests
    current : So w.current
    holder : HolderSo w.holder

  abbrev stored_test : Bool → Bound → Tree → List Tree
  stored_test no_all x e = null_checks no_all (assign_node (identifier x) e) (identifier x)

  stored-test-so : (no_all : Bool) (ts : List Tree) (x : Bound) (e : Tree) → good x.name ≡ true → AreSo ts → So e → AreSo (ts ++ stored_test no_all x e)
  stored-test-so no_all ts x e c h g = both-so ts (stored_test no_all x e) h (checks-so no_all (assign_node (identifier x) e) (identifier x) (assign-so (identifier x) e (name-so x c) g) (name-so x c))

  stored-so : (from : Bool) (no_all : Bool) (l : Label) (arguments : Trees) (w : Way) (names : List Bound) (c : Bound) (callee r : Tree) → good c.name ≡ true → AreSo w.tests → all_in_trees P arguments ≡ true → So callee → So r → WaySo from (stored_call no_all l arguments w names c callee r)
  stored-so from no_all l arguments w names c callee r fresh h g f e = record {
    as_object = λ i. passes.made_objects CallExpression (record l { flags = false ∷ [] }) (one (call_method (identifier c)) then many (r before arguments) then done) refl;
    holder = fresh;
    tests = stored-test-so no_all w.tests c callee fresh h f;
    current = called-so l (call_method (identifier c)) (r before arguments) (member-so false (identifier c) (word (codes "call")) (name-object c fresh) (name-so c fresh) (word-so (codes "call") passes.call)) (and_from (all_nodes P r) (all_in_trees P arguments) e g);
  }

  call-object : (l : Label) (f : Tree) (arguments : Trees) → IsObject (call_at l f arguments)
  call-object l f arguments = passes.made_objects CallExpression (record l { flags = false ∷ [] }) (one f then many arguments then done) refl

  placed-object : (l : Label) (computed : Bool) (o p : Tree) → IsObject (member_at l computed o p)
  placed-object l computed o p = passes.member_objects (record l { flags = computed ∷ false ∷ [] }) (one o then one p then done)

  module _ {no_all : Bool} {known : Whole} where
    tests-so : {from : Bool} {w u : Way} → Tested no_all known w u → WaySo from w → WaySo from u
    tests-so (as_name {w = w} e d) h =
        let c = parens-so w.current h.current in
        record { as_object = λ i. passes.parens w.current (h.as_object i); holder = h.holder; tests = checks-so no_all (without_parens w.current) (without_parens w.current) c c; current = c }
    tests-so (in_holder {w = w} {x = x} e) h =
        let c : good x.name ≡ true = subst HolderSo e h.holder in
        record { as_object = λ i. name-object x c; holder = h.holder; tests = stored-test-so no_all w.tests x (without_parens w.current) c h.tests (parens-so w.current h.current); current = name-so x c }
    tests-so (in_temporary {w = w} {x = x} e none next) h =
        record { as_object = λ i. name-object x (next-good next); holder = next-good next; tests = stored-test-so no_all w.tests x (without_parens w.current) (next-good next) h.tests (parens-so w.current h.current); current = name-so x (next-good next) }

    calls-so : {from to : Bool} {l : Label} {arguments : Trees} {w u : Way} → Called no_all known l arguments w u → WaySo from w → all_in_trees P arguments ≡ true → WaySo to u
    calls-so {l = l} {arguments = arguments} (called_by_name {w = w} e d) h g =
        let c = parens-so w.current h.current in
        record { as_object = λ i. call-object l (without_parens w.current) arguments; holder = h.holder; tests = checks-so no_all (without_parens w.current) (without_parens w.current) c c; current = called-so l (without_parens w.current) arguments c g }
    calls-so {l = l} {arguments = arguments} (by_value {w = w} {c = c} e alone next) h g =
        record { as_object = λ i. call-object l (identifier c) arguments; holder = next-good next; tests = stored-test-so no_all w.tests c (without_parens w.current) (next-good next) h.tests (parens-so w.current h.current); current = called-so l (identifier c) arguments (name-so c (next-good next)) g }
    calls-so {to = to} {l = l} {arguments = arguments} (by_first_member {w = w} {k = k} {computed = computed} {o = o} {o1 = o1} {p = p} {r = r} {c = c} {xs = xs} e target flags next object) h g =
        let member = inside-so w.current (node MemberExpression k (one o then one p then done)) h.current target in
        let d = both-of MemberExpression k o p member in
        let f = received-so object d.0 in
        stored-so to no_all l arguments w (c ∷ xs) c (member_at k computed o1 p) r (next-good next) h.tests g (placed-so k computed o1 p (received-object object (object-of k o (one p then done) member)) f.0 d.1) f.1
    calls-so {to = to} {l = l} {arguments = arguments} (by_later_member {w = w} {k = k} {computed = computed} {o = o} {o1 = o1} {p = p} {r = r} {c = c} {xs = xs} e target flags object next) h g =
        let member = inside-so w.current (node MemberExpression k (one o then one p then done)) h.current target in
        let d = both-of MemberExpression k o p member in
        let f = received-so object d.0 in
        stored-so to no_all l arguments w (xs ++ c ∷ []) c (member_at k computed o1 p) r (next-good next) h.tests g (placed-so k computed o1 p (received-object object (object-of k o (one p then done) member)) f.0 d.1) f.1

    mutual
      walked-so : {e : Tree} {w : Way} → Walked no_all known e w → So e → WaySo (object e) w
      walked-so (base d alone) h = record { as_object = λ i. i; holder = tt; tests = tt; current = h }
      walked-so (plain_member {l = l} {computed = computed} {o = o} {p = p} {w = w} flags r) h =
          let d = both-of MemberExpression l o p h in
          let k = walked-so r d.0 in
          record { as_object = λ i. placed-object l computed w.current p; holder = k.holder; tests = k.tests; current = placed-so l computed w.current p (k.as_object (object-of l o (one p then done) h)) k.current d.1 }
      walked-so (plain_call {l = l} {f = f} {arguments = arguments} {w = w} flags r) h =
          let d = call-of l f arguments h in
          let k = walked-so r d.0 in
          record { as_object = λ i. call-object l w.current arguments; holder = k.holder; tests = k.tests; current = called-so l w.current arguments k.current d.1 }
      walked-so (marked_member {l = l} {computed = computed} {o = o} {p = p} {u = u} flags r t) h =
          let d = both-of MemberExpression l o p h in
          let k = tests-so t (continued-so r d.0) in
          record { as_object = λ i. placed-object l computed u.current p; holder = k.holder; tests = k.tests; current = placed-so l computed u.current p (k.as_object (object-of l o (one p then done) h)) k.current d.1 }
      walked-so (marked_call {l = l} {f = f} {arguments = arguments} flags r t) h =
          let d = call-of l f arguments h in
          calls-so t (continued-so r d.0) d.1

      continued-so : {e : Tree} {w : Way} → Continued no_all known e w → So e → WaySo (object e) w
      continued-so (same_spine d r) h = walked-so r h
      continued-so (inner_spine {e = e} {c = c} {l = l} d alone target r) h =
          let k = walked-so r (first-of ChainExpression l c done (inside-so e (node ChainExpression l (one c then done)) h target)).0 in
          record { as_object = λ i. k.as_object (passes.chains e c l i target); holder = k.holder; tests = k.tests; current = k.current }

  callee-so : {w : Whole} {holder : Option Bound} {xs : List Bound} {e d : Tree} → BoundCallee w holder xs e d → So e → So d
  callee-so (no_member alone) h = h
  callee-so (to_object {k = k} {computed = computed} {o = o} {o1 = o1} {p = p} {r = r} flags object) h =
      let d = both-of MemberExpression k o p h in
      let f = received-so object d.0 in
      let i = received-object object (object-of k o (one p then done) h) in
      call-made (made [] (false ∷ [])) (member_node false (member_at k computed o1 p) (word (codes "bind"))) (r before empty)
      (member-so false (member_at k computed o1 p) (word (codes "bind")) (passes.member_objects (record k { flags = computed ∷ false ∷ [] }) (one o1 then one p then done)) (placed-so k computed o1 p i f.0 d.1) (word-so (codes "bind") passes.bind)) (trees-so (r ∷ []) (f.1, tt))

  pub chaining-of : (no_all : Bool) (n : Site) (w : Whole) (bs : List Bound) (t u : Tree) → OptionalChainingRule no_all n w bs t u → So t → So u
  chaining-of no_all n known bs _ _ (by_tests {m = m} {e = e} {w = w} level r some) h =
      let k = walked-so r (first-of ChainExpression m e done h).0 in
      short-so m w.tests void_zero_node w.current k.tests void-so k.current
  chaining-of no_all n known bs _ _ (as_callee {m = m} {e = e} {d = d} {w = w} level r some callee) h =
      let k = walked-so r (first-of ChainExpression m e done h).0 in
      short-so m w.tests void_zero_node d k.tests void-so (callee-so callee k.current)
  chaining-of no_all n known bs _ _ (in_delete {m = m} {l = l} {t = t} {e = e} {w = w} texts alone target r some) h =
      let chain = inside-so t (node ChainExpression l (one e then done)) (first-of UnaryExpression m t done h).0 target in
      let k = walked-so r (first-of ChainExpression l e done chain).0 in
      let true_so = made-so BooleanLiteral (made [] (true ∷ [])) done refl refl in
      let long = made-so UnaryExpression (made (Some (codes "delete") ∷ []) []) (one w.current then done) refl (one-so w.current k.current) in
      short-so m w.tests true_node (delete_node w.current) k.tests true_so long

-- a test that all nodes of these kinds and all names pass
abbrev pub any_name : Text → Bool
any_name x = true

abbrev pub any_object : Tree → Bool
any_object t = true

pub passes-any : (P : AstType → Label → Fields → Bool) → ((k : AstType) (l : Label) (fs : Fields) → is_made_kind k ≡ true → P k l fs ≡ true) → ((l : Label) (fs : Fields) → P MemberExpression l fs ≡ true) → ((l : Label) → P Identifier l done ≡ true) → PassesMade any_name any_object P
passes-any P nodes members names = record {
  nodes = nodes;
  members = λ l o fs h. members l (one o then fs);
  names = λ l h. names l;
  objects = λ l o fs h. refl;
  made_objects = λ k l fs h. refl;
  member_objects = λ l fs. refl;
  name_objects = λ l h. refl;
  parens = λ t h. refl;
  chains = λ t c l h e. refl;
  fresh = λ text n. refl;
  math = refl;
  pow = refl;
  call = refl;
  bind = refl;
}
