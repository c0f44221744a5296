-- A fact of nodes that goes from a node to its parts, and from parts to what rows make of them, is kept by the rows of
-- operators.
use Rattle.std.proofs.Common.{◌≡◌, refl, subst, List, [], ◌∷◌, ◌++◌}
use Rattle.std.specs.Prelude.{Bool, true, false}
use Rattle.es_tree.specs.Words.{Text}
use Rattle.es_tree.specs.Parens.{without_parens}
use Rattle.es_tree.specs.Tree.{Tree, node, Label, Fields, done, ◌then◌, missing, one, many, statements, trees}
use Rattle.es_tree.specs.declared.ast_type.AstType.{AstType}
use Rattle.es_tree.specs.declared.ast_type.AstType.TheVariants.{AssignmentExpression, BinaryExpression, ChainExpression, Identifier, LogicalExpression, MemberExpression, ParenthesizedExpression, PrivateIdentifier, SequenceExpression, UnaryExpression}
use Rattle.es_runs.specs.Alike.{Need}
use Rattle.es_runs.specs.Duplication.{IsDuplicated}
use Rattle.es_runs.specs.Duplication.IsDuplicated.{read_again, by_temporary}
use Rattle.es_runs.specs.Exponentiation.{Holds, TargetTwice, ExponentiationRule, no_name, power_at, power_node, string_node, assigned_power}
use Rattle.es_runs.specs.Exponentiation.Holds.{where_it_is, in_temporary}
use Rattle.es_runs.specs.Exponentiation.TargetTwice.{bound_name, other_name, static_member, private_member, literal_key, other_key}
use Rattle.es_runs.specs.Exponentiation.ExponentiationRule.{power, power_assignment}
use Rattle.es_runs.specs.LogicalAssignment.{LogicalAssignmentRule}
use Rattle.es_runs.specs.LogicalAssignment.LogicalAssignmentRule.{to_name, to_static_member, to_computed_member}
use Rattle.es_runs.specs.Rules.{assign_node, member_node, tested}
use Rattle.es_runs.specs.Runs.{made, identifier}
use Rattle.es_runs.specs.NullishCoalescing.{NullishCoalescingRule, also_all}
use Rattle.es_runs.specs.NullishCoalescing.NullishCoalescingRule.{with_temporary, reading_again}

-- the kinds of operators with two sides on which a row acts
abbrev pub is_operator_kind : AstType → Bool
is_operator_kind LogicalExpression = true
is_operator_kind BinaryExpression = true
is_operator_kind AssignmentExpression = true
is_operator_kind _ = false

-- the kinds of nodes on which a row acts
abbrev pub is_row_kind : AstType → Bool
is_row_kind LogicalExpression = true
is_row_kind BinaryExpression = true
is_row_kind AssignmentExpression = true
is_row_kind ChainExpression = true
is_row_kind UnaryExpression = true
is_row_kind _ = false

-- P holds of each
abbrev pub Each : {A : Type 0} → (A → Type 0) → List A → Type 0
Each P [] = Unit {0}
Each P (x ∷ xs) = P x × Each P xs

pub each_first : {A : Type 0} (P : A → Type 0) (xs ys : List A) → Each P (xs ++ ys) → Each P xs
each_first P [] ys h = tt
each_first P (x ∷ xs) ys h = (h.0, each_first P xs ys h.1)

pub each_second : {A : Type 0} (P : A → Type 0) (xs ys : List A) → Each P (xs ++ ys) → Each P ys
each_second P [] ys h = h
each_second P (x ∷ xs) ys h = each_second P xs ys h.1

pub each_both : {A : Type 0} (P : A → Type 0) (xs ys : List A) → Each P xs → Each P ys → Each P (xs ++ ys)
each_both P [] ys h g = g
each_both P (x ∷ xs) ys h g = (h.0, each_both P xs ys h.1 g)

pub none_asked : (xs : List Text) → Each (λ x. Unit {0}) xs
none_asked [] = tt
none_asked (x ∷ xs) = (tt, none_asked xs)

-- what a tree has from the parentheses around it
pub below_parens : (Good : Tree → Type 0) → ((l : Label) (t : Tree) (fs : Fields) → Good (node ParenthesizedExpression l (one t then fs)) → Good t) → (t : Tree) → Good t → Good (without_parens t)
below_parens Good inside (node ParenthesizedExpression l (one t then fs)) h = below_parens Good inside t (inside l t fs h)
below_parens Good inside (node ParenthesizedExpression l done) h = h
below_parens Good inside (node ParenthesizedExpression l (missing then fs)) h = h
below_parens Good inside (node ParenthesizedExpression l (many ts then fs)) h = h
below_parens Good inside (node ParenthesizedExpression l (statements ts then fs)) h = h
below_parens Good inside (node _ l fs) h = h

-- A fact of trees, and what is known of the names that are taken.
pub record PassesOn (Good : Tree → Type 0) (Fine : Text → Type 0) : Type 0 where
  -- from a node to its parts
  pub inside : (l : Label) (t : Tree) (fs : Fields) → Good (node ParenthesizedExpression l (one t then fs)) → Good t
  pub left : (k : AstType) (m : Label) (l r : Tree) → is_operator_kind k ≡ true → Good (node k m (one l then one r then done)) → Good l
  pub right : (k : AstType) (m : Label) (l r : Tree) → is_operator_kind k ≡ true → Good (node k m (one l then one r then done)) → Good r
  pub object : (l : Label) (o k : Tree) → Good (node MemberExpression l (one o then one k then done)) → Good o
  pub key : (l : Label) (o k : Tree) → l.flags ≡ true ∷ false ∷ [] → Good (node MemberExpression l (one o then one k then done)) → Good k
  -- from parts to what is made of them
  pub logical : (m : Label) (l r : Tree) → Good l → Good r → Good (node LogicalExpression m (one l then one r then done))
  pub tests : (m : Label) (begin again r : Tree) → Good begin → Good again → Good r → Good (tested m begin again r)
  pub name : (x : Text) → Fine x → Good (identifier x)
  pub takes : (x : Text) (e : Tree) → Fine x → Good e → Good (assign_node (identifier x) e)
  pub to_name : (m n l : Label) (t r q : Tree) → Good (node AssignmentExpression m (one t then one r then done)) → without_parens t ≡ node Identifier l done → Good q → Good (node AssignmentExpression n (one (node Identifier l done) then one q then done))
  pub to_member : (n l : Label) (o k q : Tree) → Good (node MemberExpression l (one o then one k then done)) → Good q → Good (node AssignmentExpression n (one (node MemberExpression l (one o then one k then done)) then one q then done))
  pub static_member : (k : Label) (o : Tree) → Good o → Good (member_node false o (node Identifier k done))
  pub private_member : (l k : Label) (o q : Tree) → Good (node MemberExpression l (one o then one (node PrivateIdentifier k done) then done)) → Good q → Good (member_node false q (node PrivateIdentifier k done))
  pub computed_member : (o k : Tree) → Good o → Good k → Good (member_node true o k)
  pub string : (x : Text) → Good (string_node x)
  pub power : (m : Label) (l r : Tree) → Good l → Good r → Good (power_at m l r)
  pub sequence : (m : Label) (fs : List Tree) → Each Good fs → Good (node SequenceExpression m (many (trees fs) then done))

module _ (Good : Tree → Type 0) (Fine : Text → Type 0) (on : PassesOn Good Fine) where
  stripped : (t s : Tree) → without_parens t ≡ s → Good t → Good s
  stripped t s e h = subst Good e (below_parens Good on.inside t h)

  is_duplicated_good : (again in_use : Text → Bool) {xs : List Text} {e e1 e2 : Tree} → IsDuplicated again in_use xs e e1 e2 → Each Fine xs → Good e → Good e1 × Good e2
  is_duplicated_good again in_use (read_again h) fine good = (good, good)
  is_duplicated_good again in_use (by_temporary {e = e} {x = x} h fresh) fine good = (on.takes x e fine.0 good, on.name x fine.0)

  pub assignment_good : (steady in_use : Text → Bool) {xs : List Text} {n : Need} {a b : Tree} → LogicalAssignmentRule steady in_use xs n a b → Each Fine xs → Good a → Good b
  assignment_good steady in_use (to_name {m = m} {l = l} {t = t} {r = r} {op = op} texts assigning target) fine h =
      on.logical _ (node Identifier l done) (assign_node (node Identifier l done) r) (stripped t (node Identifier l done) target (on.left AssignmentExpression m t r refl h)) (on.to_name m _ l t r r h target (on.right AssignmentExpression m t r refl h))
  assignment_good steady in_use (to_static_member {m = m} {l = l} {k = k} {t = t} {r = r} {o = o} {o1 = o1} {o2 = o2} {op = op} texts assigning target flags object) fine h =
      let member = stripped t (node MemberExpression l (one o then (one (node Identifier k done) then done))) target (on.left AssignmentExpression m t r refl h) in
      let objects = is_duplicated_good steady in_use object fine (on.object l o (node Identifier k done) member) in
      on.logical _ _ _ (on.static_member k o1 objects.0) (on.to_member _ _ o2 (node Identifier k done) r (on.static_member k o2 objects.1) (on.right AssignmentExpression m t r refl h))
  assignment_good steady in_use (to_computed_member {m = m} {l = l} {t = t} {r = r} {o = o} {o1 = o1} {o2 = o2} {k = k} {k1 = k1} {k2 = k2} {op = op} {xs = xs} {ys = ys} texts assigning target flags object key) fine h =
      let member = stripped t (node MemberExpression l (one o then (one k then done))) target (on.left AssignmentExpression m t r refl h) in
      let objects = is_duplicated_good steady in_use object (each_first Fine xs ys fine) (on.object l o k member) in
      let keys = is_duplicated_good steady (also_all xs in_use) key (each_second Fine xs ys fine) (on.key l o k flags member) in
      on.logical _ _ _ (on.computed_member o1 k1 objects.0 keys.0) (on.to_member _ _ o2 k2 r (on.computed_member o2 k2 objects.1 keys.1) (on.right AssignmentExpression m t r refl h))

  pub nullish_coalescing_good : (steady in_use : Text → Bool) {xs : List Text} {n : Need} {a b : Tree} → NullishCoalescingRule steady in_use xs n a b → Each Fine xs → Good a → Good b
  nullish_coalescing_good steady in_use (with_temporary {m = m} {l = l} {r = r} {x = x} texts again fresh) fine h =
      on.tests m _ _ r (on.takes x l fine.0 (on.left LogicalExpression m l r refl h)) (on.name x fine.0) (on.right LogicalExpression m l r refl h)
  nullish_coalescing_good steady in_use (reading_again {m = m} {l = l} {r = r} texts again) fine h =
      let begin = on.left LogicalExpression m l r refl h in
      on.tests m l l r begin begin (on.right LogicalExpression m l r refl h)

  record HeldGood (fs : List Tree) (read : Tree) : Type 0 where
    front : Each Good fs
    held : Good read

  holds_good : (bound in_use : Text → Bool) {xs : List Text} {fs : List Tree} {o o' : Tree} → Holds bound in_use xs fs o o' → Each Fine xs → Good o → HeldGood fs o'
  holds_good bound in_use (where_it_is h) fine good = record { front = tt; held = good }
  holds_good bound in_use (in_temporary {o = o} {x = x} stored fresh) fine good = record { front = (on.takes x o fine.0 good, tt); held = on.name x fine.0 }

  -- what goes in front, what is read, and the target wherever something is written to it
  record TwiceGood (fs : List Tree) (target read : Tree) : Type 0 where
    front : Each Good fs
    reads : Good read
    written : (n : Label) (q : Tree) → Good q → Good (node AssignmentExpression n (one target then (one q then done)))

  at_member : {fs : List Tree} (l : Label) (o k : Tree) → Each Good fs → Good (node MemberExpression l (one o then (one k then done))) → TwiceGood fs (node MemberExpression l (one o then (one k then done))) (node MemberExpression l (one o then (one k then done)))
  at_member l o k front h = record { front = front; reads = h; written = λ n q g. on.to_member n l o k q h g }

  target_good : (bound in_use : Text → Bool) (m : Label) (t r : Tree) {xs : List Text} {fs : List Tree} {s target read : Tree} → TargetTwice bound in_use xs fs s target read → without_parens t ≡ s → Each Fine xs → Good (node AssignmentExpression m (one t then (one r then done))) → Good s → TwiceGood fs target read
  target_good bound in_use m t r (bound_name {l = l} h) e fine whole good = record { front = tt; reads = good; written = λ n q g. on.to_name m n l t r q whole e g }
  target_good bound in_use m t r (other_name {l = l} {x = x} unbound fresh) e fine whole good = record {
    front = (on.takes x (node Identifier l done) fine.0 good, tt);
    reads = on.name x fine.0;
    written = λ n q g. on.to_name m n l t r q whole e g;
  }
  target_good bound in_use m t r (static_member {l = l} {k = k} {o = o} {o' = o'} flags object) e fine whole good =
      let held = holds_good bound in_use object fine (on.object l o (node Identifier k done) good) in
      at_member _ o' _ held.front (on.computed_member o' _ held.held (on.string _))
  target_good bound in_use m t r (private_member {l = l} {k = k} {o = o} {o' = o'} flags object) e fine whole good =
      let held = holds_good bound in_use object fine (on.object l o (node PrivateIdentifier k done) good) in
      at_member _ o' (node PrivateIdentifier k done) held.front (on.private_member l k o o' good held.held)
  target_good bound in_use m t r (literal_key {l = l} {o = o} {o' = o'} {k = k} flags key object) e fine whole good =
      let held = holds_good bound in_use object fine (on.object l o k good) in
      at_member _ o' k held.front (on.computed_member o' k held.held (on.key l o k flags good))
  target_good bound in_use m t r (other_key {l = l} {o = o} {o' = o'} {k = k} {xs = xs} {fs = fs} {y = y} flags key object fresh) e fine whole good =
      let y_fine = (each_second Fine xs (y ∷ []) fine).0 in
      let held = holds_good no_name in_use object (each_first Fine xs (y ∷ []) fine) (on.object l o k good) in
      at_member _ o' (identifier y) (each_both Good fs (assign_node (identifier y) k ∷ []) held.front (on.takes y k y_fine (on.key l o k flags good), tt)) (on.computed_member o' (identifier y) held.held (on.name y y_fine))

  assigned_good : (m : Label) (fs : List Tree) (target read r : Tree) → TwiceGood fs target read → Good r → Good (assigned_power m fs target read r)
  assigned_good m [] target read r h g = h.written _ (power_node read r) (on.power (made [] []) read r h.reads g)
  assigned_good m (f ∷ fs) target read r h g = on.sequence _ ((f ∷ fs) ++ assign_node target (power_node read r) ∷ []) (each_both Good (f ∷ fs) (assign_node target (power_node read r) ∷ []) h.front (h.written _ (power_node read r) (on.power (made [] []) read r h.reads g), tt))

  pub exponentiation_good : (bound in_use : Text → Bool) {xs : List Text} {n : Need} {a b : Tree} → ExponentiationRule bound in_use xs n a b → Each Fine xs → Good a → Good b
  exponentiation_good bound in_use (power {m = m} {l = l} {r = r} texts left right) fine h = on.power m l r (on.left BinaryExpression m l r refl h) (on.right BinaryExpression m l r refl h)
  exponentiation_good bound in_use (power_assignment {m = m} {t = t} {r = r} {target = target} {read = read} {fs = fs} texts right twice) fine h =
      let below = below_parens Good on.inside t (on.left AssignmentExpression m t r refl h) in
      assigned_good m fs target read r (target_good bound in_use m t r twice refl fine h below) (on.right AssignmentExpression m t r refl h)
