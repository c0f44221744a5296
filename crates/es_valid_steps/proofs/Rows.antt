-- The rows of coalescing, logical assignment and exponentiation keep the rules of places.
use Rattle.std.proofs.Common.{◌≡◌, ℕ, refl, ap, subst, ◌∙◌, List, [], ◌∷◌, ◌++◌}
use Rattle.std.specs.Prelude.{Bool, true, false, Option, Some, codes, is_some}
use Rattle.es_tree.specs.Ancestors.{Ancestor}
use Rattle.es_tree.specs.CoreStaticRules.{is_simple_target}
use Rattle.es_tree.specs.HasForm.{has_form}
use Rattle.es_tree.specs.Names.{first_text}
use Rattle.es_tree.specs.Parens.{without_parens}
use Rattle.es_tree.specs.Tree.{Tree, node, Label, done, ◌then◌, one, many, empty, ◌before◌, kind_of, trees}
use Rattle.es_tree.specs.Words.{Text}
use Rattle.es_tree.specs.declared.ast_type.AstType.TheVariants.{AssignmentExpression, BinaryExpression, CallExpression, ConditionalExpression, Identifier, LogicalExpression, MemberExpression, PrivateIdentifier, SequenceExpression, StringLiteral, Super}
use Rattle.es_tree.specs.declared.table.Sort.{Sort}
use Rattle.es_tree.specs.declared.table.Sort.TheVariants.{AssignmentTarget as s-AssignmentTarget, Expression as s-Expression}
use Rattle.es_tree.proofs.NodeForm.{node_form}
use Rattle.es_runs.specs.Exponentiation.{string_node}
use Rattle.es_runs.specs.Core.{without_last}
use Rattle.es_runs.specs.LogicalAssignment.{assigned_where}
use Rattle.es_runs.specs.Rules.{assign_node, binary_node, in_place_of, logical_node, member_node, null_node, void_zero_node}
use Rattle.es_runs.specs.Runs.{made}
use Rattle.es_resolution.specs.Declarations.{Bound}
use Rattle.es_steps.specs.Duplication.{IsDuplicated, is_among_symbols, is_read_again, no_symbol}
use Rattle.es_steps.specs.Duplication.IsDuplicated.{read_again, by_temporary}
use Rattle.es_steps.specs.Exponentiation.{ExponentiationRule, Holds, TargetTwice, assigned_power, power_node, stays}
use Rattle.es_steps.specs.Exponentiation.ExponentiationRule.{power, power_assignment}
use Rattle.es_steps.specs.Exponentiation.Holds.{where_it_is, in_temporary}
use Rattle.es_steps.specs.Exponentiation.TargetTwice.{bound_name, other_name, static_member, private_member, literal_key, other_key}
use Rattle.es_steps.specs.LogicalAssignment.{LogicalAssignmentRule}
use Rattle.es_steps.specs.LogicalAssignment.LogicalAssignmentRule.{to_name, to_static_member, to_computed_member}
use Rattle.es_steps.specs.Nodes.{identifier, word}
use Rattle.es_steps.specs.NullishCoalescing.{NullishCoalescingRule}
use Rattle.es_steps.specs.NullishCoalescing.NullishCoalescingRule.{with_temporary, reading_again}
use Rattle.es_steps.specs.Steps.{Whole, Site}
use Rattle.es_steps.proofs.FormMembers.{member-form}
use Rattle.es_steps.proofs.FormParts.{IsFormed, formed-bare}
use Rattle.es_steps.proofs.FormRows.{two-parts}
use Rattle.es_steps.proofs.FormSorts.{form-narrower}
use Rattle.es_steps.specs.Rules.{with_made}
use Rattle.es_valid_steps.specs.PlaceRules.{Keeps, KeepsHere}
use Rattle.es_valid_steps.proofs.Free.{Free, FreeAll, FreeAs, as-free, bare-part, free-as, is_super_kind, member-key, member-object, object-free, part}
use Rattle.es_valid_steps.proofs.Free.From.{from_other, from_target}
use Rattle.es_valid_steps.proofs.Free.Under.{itself}
use Rattle.es_valid_steps.proofs.MadeNodes.{FreeTarget, Inside, free-assignment, free-binary, free-empty, free-leaf, free-logical, free-member, free-more, free-name, free-node, free-null, free-zero, in-assignment, in-call, in-conditional, in-logical, in-sequence, left-keeps, member-target, name-target}

-- SIDES AND TARGETS

left-free : (up : List Ancestor) (m : Label) (l r : Tree) → Keeps up (node LogicalExpression m (one l then one r then done)) → (Free up l) × (Free up r)
left-free up m l r h = (as-free up l (part up up LogicalExpression m _ 0 l itself refl from_other h.1.0), as-free up r (part up up LogicalExpression m _ 1 r itself refl from_other h.1.1.0))

module _ (up : List Ancestor) (m : Label) (t r : Tree) (h : Keeps up (node AssignmentExpression m (one t then one r then done))) where
  pub value-free : Free up r
  value-free = as-free up r (part up up AssignmentExpression m _ 1 r itself refl from_other h.1.1.0)

  target-free : (x : Tree) → without_parens t ≡ x → is_simple_target (kind_of x) ≡ true → Free up x
  target-free x e s = subst (λ (y : Tree). Free up y) e (as-free up (without_parens t) (bare-part up up AssignmentExpression m _ 0 t itself refl (λ d. from_target (ap (λ y. is_simple_target (kind_of y)) e ∙ s)) h.1.0))

-- OBJECTS

-- `super` has no fields
pub formed-super : (o : Tree) → IsFormed o → (b : Bool) → ((l : Label) → o ≡ node Super l done → b ≡ true) → b ≡ false → is_super_kind (kind_of o) ≡ false
formed-super (node Super l done) f b g e = absurd (cc (g l refl, e))
formed-super (node Super l (x then xs)) f b g e = absurd (cc (node_form s-Expression Super l (x then xs) f).children)
formed-super (node _ l fs) f b g e = refl

pub stored-free : (up : List Ancestor) (b : Bound) (e : Tree) → Free up e → Free up (assign_node (identifier b) e)
stored-free up b e f = free-assignment up _ (identifier b) e (name-target up _) f

pub temporary-free : (up : List Ancestor) (b : Bound) → Free up (identifier b)
temporary-free up b = free-name up _

-- what is written for an expression at its first reading, and at each further one
module _ (up : List Ancestor) (w : Whole) where
  twice-object : (xs : List Bound) (o o1 o2 : Tree) → IsDuplicated w xs o o1 o2 → IsFormed o → FreeAs false true up o → (FreeAs false true up o1) × (FreeAs false true up o2)
  twice-object xs o o1 o2 (read_again again) f h = (h, h)
  twice-object xs o o1 o2 (by_temporary {x = x} again next) f h =
      let free = object-free up o (formed-super o f (is_read_again (is_among_symbols w.steady) o) (λ l e. ap (λ y. is_read_again (is_among_symbols w.steady) y) e) again) h in
      (free-as false true up (assign_node (identifier x) o) (stored-free up x o free), free-as false true up (identifier x) (temporary-free up x))

  twice-free : (xs : List Bound) (o o1 o2 : Tree) → IsDuplicated w xs o o1 o2 → Free up o → (Free up o1) × (Free up o2)
  twice-free xs o o1 o2 (read_again again) h = (h, h)
  twice-free xs o o1 o2 (by_temporary {x = x} again next) h = (stored-free up x o h, temporary-free up x)

-- NULLISH COALESCING

pub in-tested : (up : List Ancestor) (m : Label) (begin again e : Tree) → Free up begin → Free up again → Free up e → Inside up ConditionalExpression (in_place_of m) (one (logical_node (codes "&&") (binary_node (codes "!==") begin null_node) (binary_node (codes "!==") again void_zero_node)) then one again then one e then done)
in-tested up m begin again e f g h =
    in-conditional up (in_place_of m) _ again e
    (free-logical up _ (binary_node (codes "!==") begin null_node) (binary_node (codes "!==") again void_zero_node) (free-binary up _ begin null_node f (free-null up)) (free-binary up _ again void_zero_node g (free-zero up)))
    g h

pub coalescing-keeps : (n : Site) (w : Whole) (bs : List Bound) (t u : Tree) (up : List Ancestor) → NullishCoalescingRule n w bs t u → Keeps up t → Keeps up u
coalescing-keeps n w bs t u up (with_temporary {m = m} {l = l} {r = r} {x = x} texts again next) h =
    let sides = left-free up m l r h in
    left-keeps up t ConditionalExpression (in_place_of m) _ refl h.0 refl refl (in-tested up m (assign_node (identifier x) l) (identifier x) r (stored-free up x l sides.0) (free-name up _) sides.1)
coalescing-keeps n w bs t u up (reading_again {m = m} {l = l} {r = r} texts again) h =
    let sides = left-free up m l r h in
    left-keeps up t ConditionalExpression (in_place_of m) _ refl h.0 refl refl (in-tested up m l l r sides.0 sides.0 sides.1)

-- LOGICAL ASSIGNMENT

-- the form of what is written, below parentheses
written-form : (s : Sort) (m : Label) (t r x : Tree) → has_form s (node AssignmentExpression m (one t then one r then done)) ≡ true → without_parens t ≡ x → has_form s-AssignmentTarget x ≡ true
written-form s m t r x h e = subst (λ (y : Tree). has_form s-AssignmentTarget y ≡ true) e (formed-bare s-AssignmentTarget t refl (two-parts (has_form s-AssignmentTarget t) (has_form s-Expression r) (node_form s AssignmentExpression m (one t then one r then done) h).children).0)

member-formed : (l : Label) (o p : Tree) → has_form s-AssignmentTarget (node MemberExpression l (one o then one p then done)) ≡ true → IsFormed (node MemberExpression l (one o then one p then done))
member-formed l o p h = form-narrower s-AssignmentTarget MemberExpression l (one o then one p then done) refl h

module _ (up : List Ancestor) (m : Label) (op : Text) (t r : Tree) (h : Keeps up (node AssignmentExpression m (one t then one r then done))) where
  -- `begin op (again = r)`
  assigned-keeps : (begin again : Tree) → Free up begin → FreeTarget up again → Keeps up (assigned_where m op begin again r)
  assigned-keeps begin again f g = left-keeps up (node AssignmentExpression m (one t then one r then done)) LogicalExpression (record (in_place_of m) { texts = Some (without_last op) ∷ [] }) (one begin then one (assign_node again r) then done) refl h.0 refl refl (in-logical up (record (in_place_of m) { texts = Some (without_last op) ∷ [] }) begin (assign_node again r) f (free-assignment up (made (Some (codes "=") ∷ []) []) again r g (value-free up m t r h)))

  members-keep : (computed : Bool) (o1 o2 p1 p2 : Tree) → FreeAs false true up o1 → FreeAs false true up o2 → Free up p1 → Free up p2 → Keeps up (assigned_where m op (member_node computed o1 p1) (member_node computed o2 p2) r)
  members-keep computed o1 o2 p1 p2 f g k j =
      let l = made [] (computed ∷ false ∷ []) in
      assigned-keeps (member_node computed o1 p1) (member_node computed o2 p2) (free-member up l o1 p1 refl f k) (member-target up l o2 p2 refl g j)

pub assigning-keeps : (n : Site) (w : Whole) (bs : List Bound) (t u : Tree) (s : Sort) (up : List Ancestor) → LogicalAssignmentRule n w bs t u → has_form s t ≡ true → Keeps up t → Keeps up u
assigning-keeps n w bs t u s up (to_name {m = m} {l = l} {t = left} {r = r} {op = op} texts logical alone target) f h = assigned-keeps up m op left r h (node Identifier l done) (node Identifier l done) (free-name up l) (name-target up l)
assigning-keeps n w bs t u s up (to_static_member {m = m} {l = l} {k = k} {t = left} {r = r} {o = o} {o1 = o1} {o2 = o2} {op = op} {xs = xs} texts logical alone target flags twice) f h =
    let member = node MemberExpression l (one o then one (node Identifier k done) then done) in
    let free = target-free up m left r h member target refl in
    let form = member-form l false false o (node Identifier k done) flags (member-formed l o (node Identifier k done) (written-form s m left r member f target)) in
    let objects = twice-object up w xs o o1 o2 twice form.object (member-object up l o (node Identifier k done) done free) in
    let key = member-key up l o (node Identifier k done) done free in
    members-keep up m op left r h false o1 o2 (node Identifier k done) (node Identifier k done) objects.0 objects.1 key key
assigning-keeps n w bs t u s up (to_computed_member {m = m} {l = l} {t = left} {r = r} {o = o} {o1 = o1} {o2 = o2} {k = k} {k1 = k1} {k2 = k2} {op = op} {xs = xs} {ys = ys} texts logical alone target flags twice key_twice) f h =
    let member = node MemberExpression l (one o then one k then done) in
    let free = target-free up m left r h member target refl in
    let form = member-form l true false o k flags (member-formed l o k (written-form s m left r member f target)) in
    let objects = twice-object up w xs o o1 o2 twice form.object (member-object up l o k done free) in
    let keys = twice-free up (with_made xs w) ys k k1 k2 key_twice (member-key up l o k done free) in
    members-keep up m op left r h true o1 o2 k1 k2 objects.0 objects.1 keys.0 keys.1

-- EXPONENTIATION

power-inside : (up : List Ancestor) (m : Label) (l r : Tree) → Free up l → Free up r → Inside up CallExpression (record (in_place_of m) { flags = false ∷ [] }) (one (member_node false (word (codes "Math")) (word (codes "pow"))) then many (l before r before empty) then done)
power-inside up m l r f g =
    let pow = member_node false (word (codes "Math")) (word (codes "pow")) in
    let free : Free up pow = free-member up (made [] (false ∷ false ∷ [])) (word (codes "Math")) (word (codes "pow")) refl (free-as false true up (word (codes "Math")) (free-name up _)) (free-name up _) in
    in-call up (record (in_place_of m) { flags = false ∷ [] }) pow (l before r before empty) refl (free-as true false up pow free) (free-more up l (r before empty) f (free-more up r empty g (free-empty up)))

power-free : (up : List Ancestor) (l r : Tree) → Free up l → Free up r → Free up (power_node l r)
power-free up l r f g = free-node up CallExpression (record (in_place_of (made [] [])) { flags = false ∷ [] }) (one (member_node false (word (codes "Math")) (word (codes "pow"))) then many (l before r before empty) then done) refl refl refl (power-inside up (made [] []) l r f g)

abbrev pub EachFree : List Ancestor → List Tree → Type 0
EachFree up [] = Unit {0}
EachFree up (t ∷ ts) = Free up t × EachFree up ts

pub both-free : (up : List Ancestor) (ts us : List Tree) → EachFree up ts → EachFree up us → EachFree up (ts ++ us)
both-free up [] us h k = k
both-free up (t ∷ ts) us h k = (h.0, both-free up ts us h.1 k)

all-free : (up : List Ancestor) (ts : List Tree) → EachFree up ts → FreeAll up (trees ts)
all-free up [] h = free-empty up
all-free up (t ∷ ts) h = free-more up t (trees ts) h.0 (all-free up ts h.1)

record HeldFree (up : List Ancestor) (fs : List Tree) (o : Tree) : Type 0 where
  front : EachFree up fs
  object : FreeAs false true up o

held-free : (up : List Ancestor) (names : Option ℕ → Bool) (w : Whole) (xs : List Bound) (fs : List Tree) (o o' : Tree) → Holds names w xs fs o o' → IsFormed o → FreeAs false true up o → HeldFree up fs o'
held-free up names w xs fs o o' (where_it_is stay) f h = record { front = tt; object = h }
held-free up names w xs fs o o' (in_temporary {x = x} go next) f h =
    let free = object-free up o (formed-super o f (stays names o) (λ l e. ap (λ y. stays names y) e) go) h in
    record { front = (stored-free up x o free, tt); object = free-as false true up (identifier x) (temporary-free up x) }

record TwiceFree (up : List Ancestor) (fs : List Tree) (target read : Tree) : Type 0 where
  front : EachFree up fs
  written : FreeTarget up target
  again : Free up read

twice-member : (up : List Ancestor) (fs : List Tree) (computed : Bool) (o p : Tree) → EachFree up fs → FreeAs false true up o → Free up p → TwiceFree up fs (member_node computed o p) (member_node computed o p)
twice-member up fs computed o p e f g = let l = made [] (computed ∷ false ∷ []) in record { front = e; written = member-target up l o p refl f g; again = free-member up l o p refl f g }

target-twice : (up : List Ancestor) (w : Whole) (xs : List Bound) (fs : List Tree) (t target read : Tree) → TargetTwice w xs fs t target read → has_form s-AssignmentTarget t ≡ true → Free up t → TwiceFree up fs target read
target-twice up w xs fs t target read (bound_name {l = l} bound) f h = record { front = tt; written = name-target up l; again = free-name up l }
target-twice up w xs fs t target read (other_name {l = l} {x = x} bound next) f h = record { front = (stored-free up x (node Identifier l done) (free-name up l), tt); written = name-target up l; again = temporary-free up x }
target-twice up w xs fs t target read (static_member {l = l} {k = k} {o = o} {o' = o'} flags holds) f h =
    let held = held-free up is_some w xs fs o o' holds (member-form l false false o (node Identifier k done) flags (member-formed l o (node Identifier k done) f)).object (member-object up l o (node Identifier k done) done h) in
    twice-member up fs true o' (string_node (first_text k.texts)) held.front held.object (free-leaf up StringLiteral _ refl refl refl)
target-twice up w xs fs t target read (private_member {l = l} {k = k} {o = o} {o' = o'} flags holds) f h =
    let held = held-free up is_some w xs fs o o' holds (member-form l false false o (node PrivateIdentifier k done) flags (member-formed l o (node PrivateIdentifier k done) f)).object (member-object up l o (node PrivateIdentifier k done) done h) in
    twice-member up fs false o' (node PrivateIdentifier k done) held.front held.object (member-key up l o (node PrivateIdentifier k done) done h)
target-twice up w xs fs t target read (literal_key {l = l} {o = o} {o' = o'} {k = k} flags literal holds) f h =
    let held = held-free up is_some w xs fs o o' holds (member-form l true false o k flags (member-formed l o k f)).object (member-object up l o k done h) in
    twice-member up fs true o' k held.front held.object (member-key up l o k done h)
target-twice up w xs fs t target read (other_key {l = l} {o = o} {o' = o'} {k = k} {xs = ys} {fs = gs} {y = y} flags literal holds next) f h =
    let held = held-free up no_symbol w ys gs o o' holds (member-form l true false o k flags (member-formed l o k f)).object (member-object up l o k done h) in
    twice-member up fs true o' (identifier y) (both-free up gs (assign_node (identifier y) k ∷ []) held.front (stored-free up y k (member-key up l o k done h), tt)) held.object (temporary-free up y)

assigned-power-keeps : (up : List Ancestor) (m : Label) (t r : Tree) → KeepsHere up (node AssignmentExpression m (one t then one r then done)) → (fs : List Tree) (target read : Tree) → TwiceFree up fs target read → Free up r → Keeps up (assigned_power m fs target read r)
assigned-power-keeps up m t r h [] target read f g =
    left-keeps up (node AssignmentExpression m (one t then one r then done)) AssignmentExpression (record (in_place_of m) { texts = Some (codes "=") ∷ [] }) (one target then one (power_node read r) then done) refl h refl refl (in-assignment up (record (in_place_of m) { texts = Some (codes "=") ∷ [] }) target (power_node read r) f.written (power-free up read r f.again g))
assigned-power-keeps up m t r h (e ∷ es) target read f g =
    let last = assign_node target (power_node read r) in
    left-keeps up (node AssignmentExpression m (one t then one r then done)) SequenceExpression (in_place_of m) (many (trees ((e ∷ es) ++ last ∷ [])) then done) refl h refl refl
    (in-sequence up (in_place_of m) (trees ((e ∷ es) ++ last ∷ [])) (all-free up ((e ∷ es) ++ last ∷ []) (both-free up (e ∷ es) (last ∷ []) f.front (free-assignment up (made (Some (codes "=") ∷ []) []) target (power_node read r) f.written (power-free up read r f.again g), tt))))

two-simple : (w : Whole) (xs : List Bound) (fs : List Tree) (t target read : Tree) → TargetTwice w xs fs t target read → is_simple_target (kind_of t) ≡ true
two-simple w xs fs t target read (bound_name bound) = refl
two-simple w xs fs t target read (other_name bound next) = refl
two-simple w xs fs t target read (static_member flags holds) = refl
two-simple w xs fs t target read (private_member flags holds) = refl
two-simple w xs fs t target read (literal_key flags literal holds) = refl
two-simple w xs fs t target read (other_key flags literal holds next) = refl

pub raising-keeps : (n : Site) (w : Whole) (bs : List Bound) (t u : Tree) (s : Sort) (up : List Ancestor) → ExponentiationRule n w bs t u → has_form s t ≡ true → Keeps up t → Keeps up u
raising-keeps n w bs t u s up (power {m = m} {l = l} {r = r} math texts left right) f h =
    let fl = as-free up l (part up up BinaryExpression m (one l then one r then done) 0 l itself refl from_other h.1.0) in
    let fr = as-free up r (part up up BinaryExpression m (one l then one r then done) 1 r itself refl from_other h.1.1.0) in
    left-keeps up t CallExpression (record (in_place_of m) { flags = false ∷ [] }) (one (member_node false (word (codes "Math")) (word (codes "pow"))) then many (l before r before empty) then done) refl h.0 refl refl (power-inside up m l r fl fr)
raising-keeps n w bs t u s up (power_assignment {m = m} {t = left} {r = r} {target = target} {read = read} {xs = xs} {fs = fs} math texts right alone twice) f h =
    let free = target-free up m left r h (without_parens left) refl (two-simple w xs fs (without_parens left) target read twice) in
    assigned-power-keeps up m left r h.0 fs target read (target-twice up w xs fs (without_parens left) target read twice (written-form s m left r (without_parens left) f refl) free) (value-free up m left r h)
