-- What the rows of logical assignment, exponentiation and optional chaining make keeps what is kept by the nodes that they are made of, in their roles.
use Rattle.std.proofs.Common.{◌≡◌, ℕ, subst, List, [], ◌∷◌, ◌++◌}
use Rattle.std.specs.Prelude.{Bool, true, false, Option, Some, None, codes, if◌then◌else◌}
use Rattle.es_tree.specs.Names.{first_text, flag_at}
use Rattle.es_tree.specs.Parens.{without_parens}
use Rattle.es_tree.specs.Tree.{Tree, node, Label, done, ◌then◌, one, many, Trees, empty, ◌before◌, trees}
use Rattle.es_tree.specs.Words.{Text}
use Rattle.es_tree.specs.Fresh.{IsFreshName}
use Rattle.es_tree.specs.declared.ast_type.AstType.TheVariants.{AssignmentExpression, BinaryExpression, CallExpression, ChainExpression, ConditionalExpression, Identifier, LogicalExpression, MemberExpression, PrivateIdentifier, SequenceExpression, UnaryExpression}
use Rattle.es_runs.specs.Exponentiation.{string_node}
use Rattle.es_runs.specs.LogicalAssignment.{assigned_where}
use Rattle.es_runs.specs.OptionalChaining.{delete_node, has_tests, joined_by_or, member_at, null_checks, this_node, true_node, where_short}
use Rattle.es_runs.specs.Rules.{assign_node, binary_node, logical_node, member_node, null_node, void_zero_node}
use Rattle.es_semantic.specs.RolesOf.{reads, target_of}
use Rattle.es_semantic.specs.declared.place.Role.{Role}
use Rattle.es_semantic.specs.declared.place.Role.TheVariants.{Nothing}
use Rattle.es_resolution.specs.Declarations.{Bound}
use Rattle.es_steps.specs.Duplication.{IsDuplicated, IsNext}
use Rattle.es_steps.specs.Duplication.IsDuplicated.{by_temporary as duplicated_by_temporary, read_again}
use Rattle.es_steps.specs.Exponentiation.{ExponentiationRule, Holds, TargetTwice, assigned_power, power_at, power_node}
use Rattle.es_steps.specs.Exponentiation.ExponentiationRule.{power, power_assignment}
use Rattle.es_steps.specs.Exponentiation.Holds.{in_temporary as held_in_temporary, where_it_is}
use Rattle.es_steps.specs.Exponentiation.TargetTwice.{bound_name, literal_key, other_key, other_name, private_member, static_member}
use Rattle.es_steps.specs.LogicalAssignment.{LogicalAssignmentRule}
use Rattle.es_steps.specs.LogicalAssignment.LogicalAssignmentRule.{to_computed_member, to_name, to_static_member}
use Rattle.es_steps.specs.Nodes.{identifier, made, word}
use Rattle.es_steps.specs.OptionalChaining.{BoundCallee, Called, Continued, OptionalChainingRule, Receives, Tested, Walked, Way, stored_call}
use Rattle.es_steps.specs.OptionalChaining.BoundCallee.{no_member, to_object}
use Rattle.es_steps.specs.OptionalChaining.Called.{by_first_member, by_later_member, by_name as called_by_name, by_value}
use Rattle.es_steps.specs.OptionalChaining.Continued.{inner_spine, same_spine}
use Rattle.es_steps.specs.OptionalChaining.OptionalChainingRule.{as_callee, by_tests, in_delete}
use Rattle.es_steps.specs.OptionalChaining.Receives.{by_name, by_temporary, by_this}
use Rattle.es_steps.specs.OptionalChaining.Tested.{as_name, in_holder, in_temporary}
use Rattle.es_steps.specs.OptionalChaining.Walked.{base, marked_call, marked_member, plain_call, plain_member}
use Rattle.es_steps.specs.Steps.{Site, Whole}

abbrev pub key_in : Label → Role
key_in l = if flag_at 0 l.flags then reads else Nothing

-- What is kept of trees in their roles, and of lists of trees that are read: the nodes of which the rows make nodes keep it where their parts do, and the
-- other way round.
pub record Keeps (So : Role → Tree → Type 0) (Among : Trees → Type 0) (Fresh : Text → Type 0) : Type 0 where
  pub parens : (r : Role) (t : Tree) → So r t → So r (without_parens t)
  pub fresh : (in_use : Text → Bool) (from x : Text) → IsFreshName in_use from x → Fresh x
  pub name : (r : Role) (x : Bound) → Fresh x.name → So r (identifier x)
  pub again : (op : Text) (r : Role) (l : Label) → So (target_of op) (node Identifier l done) → So r (node Identifier l done)
  pub key : (x : Text) → So Nothing (word x)
  pub math : So reads (word (codes "Math"))
  pub null : So reads null_node
  pub nothing : So reads void_zero_node
  pub this : So reads this_node
  pub yes : So reads true_node
  pub member : (r : Role) (l : Label) (o p : Tree) → So reads o → So (key_in l) p → So r (node MemberExpression l (one o then (one p then done)))
  pub of_member : (r : Role) (l : Label) (o p : Tree) → So r (node MemberExpression l (one o then (one p then done))) → So reads o × So (key_in l) p
  pub assigned : (r : Role) (l : Label) (a b : Tree) → So (target_of (first_text l.texts)) a → So reads b → So r (node AssignmentExpression l (one a then (one b then done)))
  pub of_assigned : (r : Role) (l : Label) (a b : Tree) → So r (node AssignmentExpression l (one a then (one b then done))) → So (target_of (first_text l.texts)) a × So reads b
  pub logical : (r : Role) (l : Label) (a b : Tree) → So reads a → So reads b → So r (node LogicalExpression l (one a then (one b then done)))
  pub binary : (r : Role) (l : Label) (a b : Tree) → So reads a → So reads b → So r (node BinaryExpression l (one a then (one b then done)))
  pub of_binary : (r : Role) (l : Label) (a b : Tree) → So r (node BinaryExpression l (one a then (one b then done))) → So reads a × So reads b
  pub conditional : (r : Role) (l : Label) (a b c : Tree) → So reads a → So reads b → So reads c → So r (node ConditionalExpression l (one a then (one b then (one c then done))))
  pub called : (r : Role) (l : Label) (f : Tree) (ts : Trees) → So reads f → Among ts → So r (node CallExpression l (one f then (many ts then done)))
  pub none : Among empty
  pub more : (t : Tree) (ts : Trees) → So reads t → Among ts → Among (t before ts)
  pub first : (t : Tree) (ts : Trees) → Among (t before ts) → So reads t
  pub rest : (t : Tree) (ts : Trees) → Among (t before ts) → Among ts
  pub sequence : (r : Role) (l : Label) (ts : Trees) → Among ts → So r (node SequenceExpression l (many ts then done))
  pub unary : (r : Role) (l : Label) (e : Tree) → So reads e → So r (node UnaryExpression l (one e then done))
  pub of_unary : (r : Role) (l : Label) (e : Tree) → So r (node UnaryExpression l (one e then done)) → So reads e
  pub of_chain : (r : Role) (l : Label) (e : Tree) → So r (node ChainExpression l (one e then done)) → So reads e

module _ (So : Role → Tree → Type 0) (Among : Trees → Type 0) (Fresh : Text → Type 0) (keeps : Keeps So Among Fresh) where
  -- the next temporary
  next_fresh : {w : Whole} {from : Text} {x : Bound} → IsNext w from x → Fresh x.name
  next_fresh {w = w} {from = from} {x = x} next = keeps.fresh w.in_use from x.name next.fresh

  -- `x = e`
  stored : (x : Bound) (e : Tree) → Fresh x.name → So reads e → So reads (assign_node (identifier x) e)
  stored x e f h = keeps.assigned reads _ (identifier x) e (keeps.name _ x f) h

  both_among : (xs ys : List Tree) → Among (trees xs) → Among (trees ys) → Among (trees (xs ++ ys))
  both_among [] ys h g = g
  both_among (x ∷ xs) ys h g = keeps.more x (trees (xs ++ ys)) (keeps.first x (trees xs) h) (both_among xs ys (keeps.rest x (trees xs) h) g)

  stripped : (r : Role) (t z : Tree) → without_parens t ≡ z → So r t → So r z
  stripped r t z e h = subst (λ (z : Tree). So r z) e (keeps.parens r t h)

  -- LOGICAL ASSIGNMENT

  twice : {w : Whole} {xs : List Bound} {e e1 e2 : Tree} → IsDuplicated w xs e e1 e2 → So reads e → So reads e1 × So reads e2
  twice (read_again same) h = (h, h)
  twice (duplicated_by_temporary {e = e} {x = x} same next) h = (stored x e (next_fresh next) h, keeps.name reads x (next_fresh next))

  short_circuit : (r : Role) (m : Label) (op : Text) (begin again e : Tree) → So reads begin → So (target_of (codes "=")) again → So reads e → So r (assigned_where m op begin again e)
  short_circuit r m op begin again e h g f = keeps.logical r _ begin (assign_node again e) h (keeps.assigned reads _ again e g f)

  pub assigning_keeps : (n : Site) (w : Whole) (bs : List Bound) (t u : Tree) → LogicalAssignmentRule n w bs t u → (r : Role) → So r t → So r u
  assigning_keeps n w bs _ _ (to_name {m = m} {l = l} {t = t} {r = e} {op = op} texts operator alone at) r h =
      let d = keeps.of_assigned r m t e h in
      let name = stripped (target_of (first_text m.texts)) t (node Identifier l done) at d.0 in
      short_circuit r m op (node Identifier l done) (node Identifier l done) e (keeps.again (first_text m.texts) reads l name) (keeps.again (first_text m.texts) (target_of (codes "=")) l name) d.1
  assigning_keeps n w bs _ _ (to_static_member {m = m} {l = l} {k = k} {t = t} {r = e} {o = o} {o1 = o1} {o2 = o2} {op = op} texts operator alone at flags object) r h =
      let d = keeps.of_assigned r m t e h in
      let parts = keeps.of_member (target_of (first_text m.texts)) l o (node Identifier k done) (stripped (target_of (first_text m.texts)) t _ at d.0) in
      let objects = twice object parts.0 in
      let key = subst (λ (bs : List Bool). So (if flag_at 0 bs then reads else Nothing) (node Identifier k done)) flags parts.1 in
      short_circuit r m op (member_node false o1 (node Identifier k done)) (member_node false o2 (node Identifier k done)) e (keeps.member reads _ o1 (node Identifier k done) objects.0 key) (keeps.member (target_of (codes "=")) _ o2 (node Identifier k done) objects.1 key) d.1
  assigning_keeps n w bs _ _ (to_computed_member {m = m} {l = l} {t = t} {r = e} {o = o} {o1 = o1} {o2 = o2} {k = k} {k1 = k1} {k2 = k2} {op = op} texts operator alone at flags object key) r h =
      let d = keeps.of_assigned r m t e h in
      let parts = keeps.of_member (target_of (first_text m.texts)) l o k (stripped (target_of (first_text m.texts)) t _ at d.0) in
      let objects = twice object parts.0 in
      let keys = twice key (subst (λ (bs : List Bool). So (if flag_at 0 bs then reads else Nothing) k) flags parts.1) in
      short_circuit r m op (member_node true o1 k1) (member_node true o2 k2) e (keeps.member reads _ o1 k1 objects.0 keys.0) (keeps.member (target_of (codes "=")) _ o2 k2 objects.1 keys.1) d.1

  -- EXPONENTIATION, where the strings that stand for keys keep it

  raised : (r : Role) (m : Label) (l e : Tree) → So reads l → So reads e → So r (power_at m l e)
  raised r m l e h g = keeps.called r _ (member_node false (word (codes "Math")) (word (codes "pow"))) (l before (e before empty)) (keeps.member reads _ (word (codes "Math")) (word (codes "pow")) keeps.math (keeps.key (codes "pow"))) (keeps.more l (e before empty) h (keeps.more e empty g keeps.none))

  module _ (strings : (k : Label) → So Nothing (node Identifier k done) → So reads (string_node (first_text k.texts))) where
    held : {names : Option ℕ → Bool} {w : Whole} {xs : List Bound} {fs : List Tree} {o o' : Tree} → Holds names w xs fs o o' → So reads o → Among (trees fs) × So reads o'
    held (where_it_is stays) h = (keeps.none, h)
    held (held_in_temporary {o = o} {x = x} stays next) h = (keeps.more (assign_node (identifier x) o) empty (stored x o (next_fresh next) h) keeps.none, keeps.name reads x (next_fresh next))

    record Twice (fs : List Tree) (target read : Tree) : Type 0 where
      front : Among (trees fs)
      aim : So (target_of (codes "=")) target
      back : So reads read

    private_key : (l k : Label) → l.flags ≡ false ∷ false ∷ [] → So (key_in l) (node PrivateIdentifier k done) → So Nothing (node PrivateIdentifier k done)
    private_key l k e h = subst (λ (bs : List Bool). So (if flag_at 0 bs then reads else Nothing) (node PrivateIdentifier k done)) e h

    targets : {w : Whole} {xs : List Bound} {fs : List Tree} {t target read : Tree} (op : Text) → TargetTwice w xs fs t target read → So (target_of op) t → Twice fs target read
    targets op (bound_name {l = l} bound) h = record { front = keeps.none; aim = keeps.again op (target_of (codes "=")) l h; back = keeps.again op reads l h }
    targets op (other_name {l = l} {x = x} free next) h = record {
      front = keeps.more (assign_node (identifier x) (node Identifier l done)) empty (stored x (node Identifier l done) (next_fresh next) (keeps.again op reads l h)) keeps.none;
      aim = keeps.again op (target_of (codes "=")) l h;
      back = keeps.name reads x (next_fresh next);
    }
    targets op (static_member {l = l} {k = k} {o = o} {o' = o'} flags object) h =
        let d = keeps.of_member (target_of op) l o (node Identifier k done) h in
        let c = held object d.0 in
        let s = strings k (subst (λ (bs : List Bool). So (if flag_at 0 bs then reads else Nothing) (node Identifier k done)) flags d.1) in
        record { front = c.0; aim = keeps.member (target_of (codes "=")) _ o' (string_node (first_text k.texts)) c.1 s; back = keeps.member reads _ o' (string_node (first_text k.texts)) c.1 s }
    targets op (private_member {l = l} {k = k} {o = o} {o' = o'} flags object) h =
        let d = keeps.of_member (target_of op) l o (node PrivateIdentifier k done) h in
        let c = held object d.0 in
        let s = private_key l k flags d.1 in
        record { front = c.0; aim = keeps.member (target_of (codes "=")) _ o' (node PrivateIdentifier k done) c.1 s; back = keeps.member reads _ o' (node PrivateIdentifier k done) c.1 s }
    targets op (literal_key {l = l} {o = o} {o' = o'} {k = k} flags literal object) h =
        let d = keeps.of_member (target_of op) l o k h in
        let c = held object d.0 in
        let s = subst (λ (bs : List Bool). So (if flag_at 0 bs then reads else Nothing) k) flags d.1 in
        record { front = c.0; aim = keeps.member (target_of (codes "=")) _ o' k c.1 s; back = keeps.member reads _ o' k c.1 s }
    targets op (other_key {l = l} {o = o} {o' = o'} {k = k} {fs = fs} {y = y} flags literal object next) h =
        let d = keeps.of_member (target_of op) l o k h in
        let c = held object d.0 in
        let s = subst (λ (bs : List Bool). So (if flag_at 0 bs then reads else Nothing) k) flags d.1 in
        let f = next_fresh next in
        record {
          front = both_among fs (assign_node (identifier y) k ∷ []) c.0 (keeps.more (assign_node (identifier y) k) empty (stored y k f s) keeps.none);
          aim = keeps.member (target_of (codes "=")) _ o' (identifier y) c.1 (keeps.name reads y f);
          back = keeps.member reads _ o' (identifier y) c.1 (keeps.name reads y f);
        }

    powered : (r : Role) (m : Label) (fs : List Tree) (target read e : Tree) → Twice fs target read → So reads e → So r (assigned_power m fs target read e)
    powered r m [] target read e h g = keeps.assigned r _ target (power_node read e) h.aim (raised reads (made [] []) read e h.back g)
    powered r m (f ∷ fs) target read e h g =
        let last = keeps.assigned reads _ target (power_node read e) h.aim (raised reads (made [] []) read e h.back g) in
        keeps.sequence r _ (trees ((f ∷ fs) ++ assign_node target (power_node read e) ∷ [])) (both_among (f ∷ fs) (assign_node target (power_node read e) ∷ []) h.front (keeps.more (assign_node target (power_node read e)) empty last keeps.none))

    pub raising_keeps : (n : Site) (w : Whole) (bs : List Bound) (t u : Tree) → ExponentiationRule n w bs t u → (r : Role) → So r t → So r u
    raising_keeps n w bs _ _ (power {m = m} {l = l} {r = e} free texts left right) r h = let d = keeps.of_binary r m l e h in raised r m l e d.0 d.1
    raising_keeps n w bs _ _ (power_assignment {m = m} {t = t} {r = e} {target = target} {read = read} {fs = fs} free texts right alone again) r h =
        let d = keeps.of_assigned r m t e h in
        powered r m fs target read e (targets (first_text m.texts) again (keeps.parens (target_of (first_text m.texts)) t d.0)) d.1

  -- OPTIONAL CHAINING, where the parts of a call keep it, too

  module _ (of_call : (r : Role) (l : Label) (f : Tree) (ts : Trees) → So r (node CallExpression l (one f then (many ts then done))) → So reads f × Among ts) where
    received : {to_this : Tree → Bool} {w : Whole} {holder : Option Bound} {xs : List Bound} {o o1 r : Tree} → Receives to_this w holder xs o o1 r → So reads o → So reads o1 × So reads r
    received (by_this e) h = (h, keeps.this)
    received (by_name e d) h = (h, h)
    received (by_temporary {o = o} {r = x} e d next) h = (stored x o (next_fresh next) h, keeps.name reads x (next_fresh next))

    -- the object and the property of a member
    parts : (t : Tree) (k : Label) (computed marked : Bool) (o p : Tree) → without_parens t ≡ node MemberExpression k (one o then (one p then done)) → k.flags ≡ computed ∷ marked ∷ [] → So reads t → So reads o × ((o1 : Tree) → So reads o1 → So reads (member_at k computed o1 p))
    parts t k computed marked o p e flags h =
        let d = keeps.of_member reads k o p (stripped reads t (node MemberExpression k (one o then (one p then done))) e h) in
        (d.0, λ o1 g. keeps.member reads (record k { flags = computed ∷ false ∷ [] }) o1 p g (subst (λ (bs : List Bool). So (if flag_at 0 bs then reads else Nothing) p) flags d.1))

    checks : (no_all : Bool) (e again : Tree) → So reads e → So reads again → Among (trees (null_checks no_all e again))
    checks true e again h g = keeps.more (binary_node (codes "==") e null_node) empty (keeps.binary reads _ e null_node h keeps.null) keeps.none
    checks false e again h g =
        keeps.more (binary_node (codes "===") e null_node) (binary_node (codes "===") again void_zero_node before empty) (keeps.binary reads _ e null_node h keeps.null)
        (keeps.more (binary_node (codes "===") again void_zero_node) empty (keeps.binary reads _ again void_zero_node g keeps.nothing) keeps.none)

    joined : (t : Tree) (ts : List Tree) → So reads t → Among (trees ts) → So reads (joined_by_or t ts)
    joined t [] h g = h
    joined t (u ∷ us) h g = joined (logical_node (codes "||") t u) us (keeps.logical reads _ t u h (keeps.first u (trees us) g)) (keeps.rest u (trees us) g)

    short : (r : Role) (l : Label) (ts : List Tree) (a b : Tree) → has_tests ts ≡ true → Among (trees ts) → So reads a → So reads b → So r (where_short l ts a b)
    short r l [] a b some h s g = absurd (cc some)
    short r l (t ∷ ts) a b some h s g = keeps.conditional r _ (joined_by_or t ts) a b (joined t ts (keeps.first t (trees ts) h) (keeps.rest t (trees ts) h)) s g

    -- what is known of a spine that is lowered so far
    abbrev HolderFresh : Option Bound → Type 0
    HolderFresh None = Unit {0}
    HolderFresh (Some x) = Fresh x.name

    record WaySo (w : Way) : Type 0 where
      tests : Among (trees w.tests)
      current : So reads w.current
      holder : HolderFresh w.holder

    module _ (no_all : Bool) (known : Whole) where
      -- a value is stored and tested, after other tests
      tested_after : (ts : List Tree) (x : Bound) (e : Tree) → Among (trees ts) → Fresh x.name → So reads e → Among (trees (ts ++ null_checks no_all (assign_node (identifier x) e) (identifier x)))
      tested_after ts x e h f g = both_among ts (null_checks no_all (assign_node (identifier x) e) (identifier x)) h (checks no_all (assign_node (identifier x) e) (identifier x) (stored x e f g) (keeps.name reads x f))

      tested : {w u : Way} → Tested no_all known w u → WaySo w → WaySo u
      tested (as_name {w = w} e d) h = let c = keeps.parens reads w.current h.current in record { tests = checks no_all (without_parens w.current) (without_parens w.current) c c; current = c; holder = h.holder }
      tested (in_holder {w = w} {x = x} e) h =
          let f : Fresh x.name = subst HolderFresh e h.holder in
          record { tests = tested_after w.tests x (without_parens w.current) h.tests f (keeps.parens reads w.current h.current); current = keeps.name reads x f; holder = h.holder }
      tested (in_temporary {w = w} {x = x} e none next) h =
          record { tests = tested_after w.tests x (without_parens w.current) h.tests (next_fresh next) (keeps.parens reads w.current h.current); current = keeps.name reads x (next_fresh next); holder = next_fresh next }

      -- a callee is stored with its receiver
      kept_call : (l : Label) (arguments : Trees) (w : Way) (names : List Bound) (c : Bound) (callee r : Tree) → Among arguments → WaySo w → Fresh c.name → So reads callee → So reads r → WaySo (stored_call no_all l arguments w names c callee r)
      kept_call l arguments w names c callee r given h f k q = record {
        tests = tested_after w.tests c callee h.tests f k;
        current = keeps.called reads _ (member_node false (identifier c) (word (codes "call"))) (r before arguments) (keeps.member reads _ (identifier c) (word (codes "call")) (keeps.name reads c f) (keeps.key (codes "call"))) (keeps.more r arguments q given);
        holder = f;
      }

      called_so : {l : Label} {arguments : Trees} {w u : Way} → Called no_all known l arguments w u → Among arguments → WaySo w → WaySo u
      called_so {l = l} {arguments = arguments} (called_by_name {w = w} e d) given h =
          let c = keeps.parens reads w.current h.current in
          record { tests = checks no_all (without_parens w.current) (without_parens w.current) c c; current = keeps.called reads _ (without_parens w.current) arguments c given; holder = h.holder }
      called_so {l = l} {arguments = arguments} (by_value {w = w} {c = c} e alone next) given h =
          record { tests = tested_after w.tests c (without_parens w.current) h.tests (next_fresh next) (keeps.parens reads w.current h.current); current = keeps.called reads _ (identifier c) arguments (keeps.name reads c (next_fresh next)) given; holder = next_fresh next }
      called_so {l = l} {arguments = arguments} (by_first_member {w = w} {k = k} {computed = computed} {o = o} {o1 = o1} {p = p} {r = r} {c = c} {xs = xs} e target flags next object) given h =
          let d = parts w.current k computed false o p target flags h.current in
          let both = received object d.0 in
          kept_call l arguments w (c ∷ xs) c (member_at k computed o1 p) r given h (next_fresh next) (d.1 o1 both.0) both.1
      called_so {l = l} {arguments = arguments} (by_later_member {w = w} {k = k} {computed = computed} {o = o} {o1 = o1} {p = p} {r = r} {c = c} {xs = xs} e target flags object next) given h =
          let d = parts w.current k computed false o p target flags h.current in
          let both = received object d.0 in
          kept_call l arguments w (xs ++ c ∷ []) c (member_at k computed o1 p) r given h (next_fresh next) (d.1 o1 both.0) both.1

      -- a step to a member
      along : (l : Label) (computed marked : Bool) (p : Tree) (w : Way) → l.flags ≡ computed ∷ marked ∷ [] → So (key_in l) p → WaySo w → WaySo (record w { current = member_at l computed w.current p })
      along l computed marked p w flags key h = record { tests = h.tests; current = keeps.member reads (record l { flags = computed ∷ false ∷ [] }) w.current p h.current (subst (λ (bs : List Bool). So (if flag_at 0 bs then reads else Nothing) p) flags key); holder = h.holder }

      mutual
        walked : {e : Tree} {w : Way} → Walked no_all known e w → So reads e → WaySo w
        walked (base d alone) h = record { tests = keeps.none; current = h; holder = tt }
        walked (plain_member {l = l} {computed = computed} {o = o} {p = p} {w = w} flags r) h = let d = keeps.of_member reads l o p h in along l computed false p w flags d.1 (walked r d.0)
        walked (plain_call {l = l} {f = f} {arguments = arguments} {w = w} flags r) h =
            let d = of_call reads l f arguments h in
            let k = walked r d.0 in
            record { tests = k.tests; current = keeps.called reads _ w.current arguments k.current d.1; holder = k.holder }
        walked (marked_member {l = l} {computed = computed} {o = o} {p = p} {u = u} flags r t) h = let d = keeps.of_member reads l o p h in along l computed true p u flags d.1 (tested t (continued r d.0))
        walked (marked_call {l = l} {f = f} {arguments = arguments} flags r t) h = let d = of_call reads l f arguments h in called_so t d.1 (continued r d.0)

        continued : {e : Tree} {w : Way} → Continued no_all known e w → So reads e → WaySo w
        continued (same_spine d r) h = walked r h
        continued (inner_spine {e = e} {c = c} {l = l} d alone target r) h = walked r (keeps.of_chain reads l c (stripped reads e (node ChainExpression l (one c then done)) target h))

    -- a callee, that is bound to its object
    bound_callee : {w : Whole} {holder : Option Bound} {xs : List Bound} {e d : Tree} → BoundCallee w holder xs e d → So reads e → So reads d
    bound_callee (no_member n) h = h
    bound_callee (to_object {k = k} {computed = computed} {o = o} {o1 = o1} {p = p} {r = r} flags object) h =
        let d = keeps.of_member reads k o p h in
        let both = received object d.0 in
        let made = keeps.member reads (record k { flags = computed ∷ false ∷ [] }) o1 p both.0 (subst (λ (bs : List Bool). So (if flag_at 0 bs then reads else Nothing) p) flags d.1) in
        keeps.called reads _ (member_node false (member_at k computed o1 p) (word (codes "bind"))) (r before empty) (keeps.member reads _ (member_at k computed o1 p) (word (codes "bind")) made (keeps.key (codes "bind"))) (keeps.more r empty both.1 keeps.none)

    pub chaining_keeps : (no_all : Bool) (n : Site) (w : Whole) (bs : List Bound) (t u : Tree) → OptionalChainingRule no_all n w bs t u → (r : Role) → So r t → So r u
    chaining_keeps no_all n known bs _ _ (by_tests {m = m} {e = e} {w = w} level way some) r h =
        let k = walked no_all known way (keeps.of_chain r m e h) in
        short r m w.tests void_zero_node w.current some k.tests keeps.nothing k.current
    chaining_keeps no_all n known bs _ _ (as_callee {m = m} {e = e} {d = d} {w = w} level way some callee) r h =
        let k = walked no_all known way (keeps.of_chain r m e h) in
        short r m w.tests void_zero_node d some k.tests keeps.nothing (bound_callee callee k.current)
    chaining_keeps no_all n known bs _ _ (in_delete {m = m} {l = l} {t = t} {e = e} {w = w} texts alone target way some) r h =
        let chain = stripped reads t (node ChainExpression l (one e then done)) target (keeps.of_unary r m t h) in
        let k = walked no_all known way (keeps.of_chain reads l e chain) in
        short r m w.tests true_node (delete_node w.current) some k.tests keeps.yes (keeps.unary reads _ w.current k.current)
