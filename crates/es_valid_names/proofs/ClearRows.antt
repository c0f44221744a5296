-- What rows leave consists of the parts of what stood there, of temporaries and of words: where those keep the rules of declared names,
-- so does it.
use Rattle.std.proofs.Common.{◌≡◌, ℕ, refl, subst, List, [], ◌∷◌, ◌++◌}
use Rattle.std.specs.Prelude.{Bool, true, false, Option, Some, None, codes, is_some, ◌||◌}
use Rattle.es_tree.specs.Constructs.{any_kind, is_spread}
use Rattle.es_tree.specs.Parens.{without_parens}
use Rattle.es_tree.specs.Tree.{Tree, node, Label, done, ◌then◌, one, Trees, ◌before◌, kind_of, trees}
use Rattle.es_tree.specs.Words.{Text}
use Rattle.es_tree.specs.declared.ast_type.AstType.{AstType}
use Rattle.es_tree.specs.declared.ast_type.AstType.TheVariants.{CallExpression, ChainExpression, Identifier, MemberExpression, ParenthesizedExpression}
use Rattle.es_runs.specs.OptionalChaining.{call_at, delete_node, has_tests, is_super, is_this_or_super, joined_by_or, member_at, null_checks, true_node, where_short}
use Rattle.es_runs.specs.Rules.{assign_node, binary_node, logical_node, null_node, void_zero_node}
use Rattle.es_resolution.specs.Declarations.{Bound}
use Rattle.es_steps.specs.Duplication.{IsDuplicated}
use Rattle.es_steps.specs.Duplication.IsDuplicated.{read_again, by_temporary as by_duplicate}
use Rattle.es_steps.specs.Exponentiation.{ExponentiationRule, Holds, TargetTwice, assigned_power, power_node}
use Rattle.es_steps.specs.Exponentiation.ExponentiationRule.{power, power_assignment}
use Rattle.es_steps.specs.Exponentiation.Holds.{where_it_is, in_temporary as held_in_temporary}
use Rattle.es_steps.specs.Exponentiation.TargetTwice.{bound_name, other_name, static_member, private_member, literal_key, other_key}
use Rattle.es_steps.specs.LogicalAssignment.{LogicalAssignmentRule}
use Rattle.es_steps.specs.LogicalAssignment.LogicalAssignmentRule.{to_name, to_static_member, to_computed_member}
use Rattle.es_steps.specs.Nodes.{call_node, identifier, object_node, placed}
use Rattle.es_steps.specs.NullishCoalescing.{NullishCoalescingRule}
use Rattle.es_steps.specs.NullishCoalescing.NullishCoalescingRule.{with_temporary, reading_again}
use Rattle.es_steps.specs.ObjectRest.{helper_node}
use Rattle.es_steps.specs.ObjectSpread.{Copies, SpreadRule, copied, last_copied}
use Rattle.es_steps.specs.ObjectSpread.Copies.{no_more, copies, keeps}
use Rattle.es_steps.specs.ObjectSpread.SpreadRule.{spreads}
use Rattle.es_steps.specs.OptionalChaining.{BoundCallee, Called, Continued, OptionalChainingRule, Receives, Tested, Walked, Way, call_method}
use Rattle.es_steps.specs.OptionalChaining.Receives.{by_this, by_name, by_temporary}
use Rattle.es_steps.specs.OptionalChaining.Tested.{as_name, in_holder, in_temporary}
use Rattle.es_steps.specs.OptionalChaining.Called.{by_name as called_by_name, by_value, by_first_member, by_later_member}
use Rattle.es_steps.specs.OptionalChaining.Walked.{base, plain_member, plain_call, marked_member, marked_call}
use Rattle.es_steps.specs.OptionalChaining.Continued.{same_spine, inner_spine}
use Rattle.es_steps.specs.OptionalChaining.BoundCallee.{no_member, to_object}
use Rattle.es_steps.specs.OptionalChaining.OptionalChainingRule.{by_tests, as_callee, in_delete}
use Rattle.es_steps.specs.Steps.{Whole, Site}
use Rattle.es_valid_steps.proofs.FurtherForms.{or-later, or-none}
use Rattle.es_valid_names.proofs.Claims.{Around, Clear, ClearAll, Stand, elsewhere}

module _ (c : Around) where
  abbrev pub Fine : Tree → Type 0
  Fine t = Clear c elsewhere t

  abbrev pub EachFine : List Tree → Type 0
  EachFine [] = Unit {0}
  EachFine (t ∷ ts) = Fine t × EachFine ts

  both-fine : (ts us : List Tree) → EachFine ts → EachFine us → EachFine (ts ++ us)
  both-fine [] us h k = k
  both-fine (t ∷ ts) us h k = (h.0, both-fine ts us h.1 k)

  all-fine : (ts : List Tree) → EachFine ts → ClearAll c elsewhere (trees ts)
  all-fine [] h = tt
  all-fine (t ∷ ts) h = (h.0, all-fine ts h.1)

  -- MADE NODES

  fine-name : (b : Bound) → Fine (identifier b)
  fine-name b = (tt, refl, tt)

  fine-null : Fine null_node
  fine-null = (tt, refl, tt)

  fine-zero : Fine void_zero_node
  fine-zero = (tt, refl, ((tt, refl, tt), tt))

  fine-assign : (x : Bound) (e : Tree) → Fine e → Fine (assign_node (identifier x) e)
  fine-assign x e h = (tt, refl, (fine-name x, (h, tt)))

  fine-binary : (op : Text) (l r : Tree) → Fine l → Fine r → Fine (binary_node op l r)
  fine-binary op l r h k = (tt, refl, (h, (k, tt)))

  fine-logical : (op : Text) (l r : Tree) → Fine l → Fine r → Fine (logical_node op l r)
  fine-logical op l r h k = (tt, refl, (h, (k, tt)))

  fine-member : (l : Label) (computed : Bool) (o p : Tree) → Fine o → Fine p → Fine (member_at l computed o p)
  fine-member l computed o p h k = (tt, refl, (h, (k, tt)))

  fine-call : (l : Label) (f : Tree) (ts : Trees) → Fine f → ClearAll c elsewhere ts → Fine (call_at l f ts)
  fine-call l f ts h k = (tt, refl, (h, (k, tt)))

  pub fine-bare : (t : Tree) → Fine t → Fine (without_parens t)
  fine-bare (node ParenthesizedExpression l (one t then fs)) h = fine-bare t h.2.0
  fine-bare t h = h

  -- COALESCING

  in-tested : (begin again : Tree) → Fine begin → Fine again → Fine (logical_node (codes "&&") (binary_node (codes "!==") begin null_node) (binary_node (codes "!==") again void_zero_node))
  in-tested begin again h k = fine-logical (codes "&&") (binary_node (codes "!==") begin null_node) (binary_node (codes "!==") again void_zero_node) (fine-binary (codes "!==") begin null_node h fine-null) (fine-binary (codes "!==") again void_zero_node k fine-zero)

  pub coalescing-clear : (s : Stand) (n : Site) (w : Whole) (bs : List Bound) (t u : Tree) → NullishCoalescingRule n w bs t u → Clear c s t → Clear c s u
  coalescing-clear s n w bs t u (with_temporary {l = l} {r = r} {x = x} texts again next) h = (tt, refl, (in-tested (assign_node (identifier x) l) (identifier x) (fine-assign x l h.2.0) (fine-name x), (fine-name x, (h.2.1.0, tt))))
  coalescing-clear s n w bs t u (reading_again {l = l} {r = r} texts again) h = (tt, refl, (in-tested l l h.2.0 h.2.0, (h.2.0, (h.2.1.0, tt))))

  -- LOGICAL ASSIGNMENT

  twice-fine : (w : Whole) (xs : List Bound) (o o1 o2 : Tree) → IsDuplicated w xs o o1 o2 → Fine o → (Fine o1) × (Fine o2)
  twice-fine w xs o o1 o2 (read_again again) h = (h, h)
  twice-fine w xs o o1 o2 (by_duplicate {x = x} again next) h = (fine-assign x o h, fine-name x)

  below-parens : (t u : Tree) → without_parens t ≡ u → Fine t → Fine u
  below-parens t u e h = subst (λ (x : Tree). Fine x) e (fine-bare t h)

  pub assigning-clear : (s : Stand) (n : Site) (w : Whole) (bs : List Bound) (t u : Tree) → LogicalAssignmentRule n w bs t u → Clear c s t → Clear c s u
  assigning-clear s n w bs t u (to_name {l = nl} {t = left} texts op alone target) h = let x = below-parens left (node Identifier nl done) target h.2.0 in (tt, refl, (x, ((tt, refl, (x, (h.2.1.0, tt))), tt)))
  assigning-clear s n w bs t u (to_static_member {l = ml} {k = kl} {t = left} {o = o} {o1 = o1} {o2 = o2} {xs = xs} texts op alone target flags twice) h =
      let x = below-parens left (node MemberExpression ml (one o then one (node Identifier kl done) then done)) target h.2.0 in
      let os = twice-fine w xs o o1 o2 twice x.2.0 in
      (tt, refl, ((tt, refl, (os.0, (x.2.1.0, tt))), ((tt, refl, ((tt, refl, (os.1, (x.2.1.0, tt))), (h.2.1.0, tt))), tt)))
  assigning-clear s n w bs t u (to_computed_member {l = ml} {t = left} {o = o} {o1 = o1} {o2 = o2} {k = k} {k1 = k1} {k2 = k2} {xs = xs} {ys = ys} texts op alone target flags twice keys) h =
      let x = below-parens left (node MemberExpression ml (one o then one k then done)) target h.2.0 in
      let os = twice-fine w xs o o1 o2 twice x.2.0 in
      let ks = twice-fine _ ys k k1 k2 keys x.2.1.0 in
      (tt, refl, ((tt, refl, (os.0, (ks.0, tt))), ((tt, refl, ((tt, refl, (os.1, (ks.1, tt))), (h.2.1.0, tt))), tt)))

  -- EXPONENTIATION

  fine-power : (l r : Tree) → Fine l → Fine r → Fine (power_node l r)
  fine-power l r h k = (tt, refl, ((tt, refl, ((tt, refl, tt), ((tt, refl, tt), tt))), ((h, (k, tt)), tt)))

  record TwiceFine (fs : List Tree) (target read : Tree) : Type 0 where
    front : EachFine fs
    written : Fine target
    again : Fine read

  held-fine : (names : Option ℕ → Bool) (w : Whole) (xs : List Bound) (fs : List Tree) (o o' : Tree) → Holds names w xs fs o o' → Fine o → EachFine fs × Fine o'
  held-fine names w xs fs o o' (where_it_is stay) h = (tt, h)
  held-fine names w xs fs o o' (held_in_temporary {x = x} go next) h = ((fine-assign x o h, tt), fine-name x)

  target-fine : (w : Whole) (xs : List Bound) (fs : List Tree) (t target read : Tree) → TargetTwice w xs fs t target read → Fine t → TwiceFine fs target read
  target-fine w xs fs t target read (bound_name some) h = record { front = tt; written = h; again = h }
  target-fine w xs fs t target read (other_name {x = x} none next) h = record { front = (fine-assign x t h, tt); written = h; again = fine-name x }
  target-fine w xs fs t target read (static_member {o = o} {o' = o'} flags held) h = let g = held-fine _ w xs fs o o' held h.2.0 in record { front = g.0; written = (tt, refl, (g.1, ((tt, refl, tt), tt))); again = (tt, refl, (g.1, ((tt, refl, tt), tt))) }
  target-fine w xs fs t target read (private_member {o = o} {o' = o'} flags held) h = let g = held-fine _ w xs fs o o' held h.2.0 in record { front = g.0; written = (tt, refl, (g.1, (h.2.1.0, tt))); again = (tt, refl, (g.1, (h.2.1.0, tt))) }
  target-fine w xs fs t target read (literal_key {o = o} {o' = o'} flags literal held) h = let g = held-fine _ w xs fs o o' held h.2.0 in record { front = g.0; written = (tt, refl, (g.1, (h.2.1.0, tt))); again = (tt, refl, (g.1, (h.2.1.0, tt))) }
  target-fine w xs fs t target read (other_key {o = o} {o' = o'} {k = k} {xs = ys} {fs = gs} {y = y} flags literal held next) h =
      let g = held-fine _ w ys gs o o' held h.2.0 in
      record { front = both-fine gs (assign_node (identifier y) k ∷ []) g.0 (fine-assign y k h.2.1.0, tt); written = (tt, refl, (g.1, (fine-name y, tt))); again = (tt, refl, (g.1, (fine-name y, tt))) }

  assigned-clear : (s : Stand) (m : Label) (fs : List Tree) (target read r : Tree) → TwiceFine fs target read → Fine r → Clear c s (assigned_power m fs target read r)
  assigned-clear s m [] target read r h k = (tt, refl, (h.written, (fine-power read r h.again k, tt)))
  assigned-clear s m (f ∷ fs) target read r h k = (tt, refl, (all-fine ((f ∷ fs) ++ assign_node target (power_node read r) ∷ []) (both-fine (f ∷ fs) (assign_node target (power_node read r) ∷ []) h.front ((tt, refl, (h.written, (fine-power read r h.again k, tt))), tt)), tt))

  pub raising-clear : (s : Stand) (n : Site) (w : Whole) (bs : List Bound) (t u : Tree) → ExponentiationRule n w bs t u → Clear c s t → Clear c s u
  raising-clear s n w bs t u (power {l = l} {r = r} math texts left right) h = (tt, refl, ((tt, refl, ((tt, refl, tt), ((tt, refl, tt), tt))), ((h.2.0, (h.2.1.0, tt)), tt)))
  raising-clear s n w bs t u (power_assignment {m = m} {t = left} {r = r} {target = target} {read = read} {fs = fs} math texts big alone twice) h =
      assigned-clear s m fs target read r (target-fine w bs fs (without_parens left) target read twice (fine-bare left h.2.0)) h.2.1.0

  -- CHAINS

  record WayFine (w : Way) : Type 0 where
    tests : EachFine w.tests
    current : Fine w.current

  record ReceivesFine (o r : Tree) : Type 0 where
    object : Fine o
    receiver : Fine r

  receives-fine : (test : Tree → Bool) (w : Whole) (holder : Option Bound) (xs : List Bound) (o o1 r : Tree) → Receives test w holder xs o o1 r → Fine o → ReceivesFine o1 r
  receives-fine test w holder xs o o1 r (by_this e) h = record { object = h; receiver = (tt, refl, tt) }
  receives-fine test w holder xs o o1 r (by_name e d) h = record { object = h; receiver = h }
  receives-fine test w holder xs o o1 r (by_temporary {r = x} e d next) h = record { object = fine-assign x o h; receiver = fine-name x }

  checks-fine : (no_all : Bool) (e again : Tree) → Fine e → Fine again → EachFine (null_checks no_all e again)
  checks-fine true e again h k = (fine-binary (codes "==") e null_node h fine-null, tt)
  checks-fine false e again h k = (fine-binary (codes "===") e null_node h fine-null, (fine-binary (codes "===") again void_zero_node k fine-zero, tt))

  stored-fine : (no_all : Bool) (ts : List Tree) (x : Bound) (e : Tree) → EachFine ts → Fine e → EachFine (ts ++ null_checks no_all (assign_node (identifier x) e) (identifier x))
  stored-fine no_all ts x e h k = both-fine ts (null_checks no_all (assign_node (identifier x) e) (identifier x)) h (checks-fine no_all (assign_node (identifier x) e) (identifier x) (fine-assign x e k) (fine-name x))

  module _ (no_all : Bool) (known : Whole) where
    tested-fine : (w u : Way) → Tested no_all known w u → WayFine w → WayFine u
    tested-fine w u (as_name none name) h = let e = fine-bare w.current h.current in record { tests = checks-fine no_all (without_parens w.current) (without_parens w.current) e e; current = e }
    tested-fine w u (in_holder {x = x} holds) h = record { tests = stored-fine no_all w.tests x (without_parens w.current) h.tests (fine-bare w.current h.current); current = fine-name x }
    tested-fine w u (in_temporary {x = x} none holder next) h = record { tests = stored-fine no_all w.tests x (without_parens w.current) h.tests (fine-bare w.current h.current); current = fine-name x }

    stored-call-fine : (l : Label) (ts : Trees) → ClearAll c elsewhere ts → (w : Way) (x : Bound) (k : Label) (computed : Bool) (o p r : Tree) → WayFine w → Fine o → Fine p → Fine r → (EachFine (w.tests ++ null_checks no_all (assign_node (identifier x) (member_at k computed o p)) (identifier x))) × Fine (call_at l (call_method (identifier x)) (r before ts))
    stored-call-fine l ts args w x k computed o p r h f g j = (stored-fine no_all w.tests x (member_at k computed o p) h.tests (fine-member k computed o p f g), (tt, refl, ((tt, refl, (fine-name x, ((tt, refl, tt), tt))), ((j, args), tt))))

    called-fine : (l : Label) (ts : Trees) → ClearAll c elsewhere ts → (w u : Way) → Called no_all known l ts w u → WayFine w → WayFine u
    called-fine l ts args w u (called_by_name none name) h = let e = fine-bare w.current h.current in record { tests = checks-fine no_all (without_parens w.current) (without_parens w.current) e e; current = fine-call l (without_parens w.current) ts e args }
    called-fine l ts args w u (by_value {c = x} none member next) h = record { tests = stored-fine no_all w.tests x (without_parens w.current) h.tests (fine-bare w.current h.current); current = fine-call l (identifier x) ts (fine-name x) args }
    called-fine l ts args w u (by_first_member {k = k} {computed = computed} {o = o} {o1 = o1} {p = p} {r = r} {c = x} {xs = xs} none callee flags next receives) h =
        let member = below-parens w.current (node MemberExpression k (one o then one p then done)) callee h.current in
        let it = receives-fine is_this_or_super _ w.holder xs o o1 r receives member.2.0 in
        let made = stored-call-fine l ts args w x k computed o1 p r h it.object member.2.1.0 it.receiver in
        record { tests = made.0; current = made.1 }
    called-fine l ts args w u (by_later_member {k = k} {computed = computed} {o = o} {o1 = o1} {p = p} {r = r} {c = x} {xs = xs} some callee flags receives next) h =
        let member = below-parens w.current (node MemberExpression k (one o then one p then done)) callee h.current in
        let it = receives-fine is_this_or_super _ w.holder xs o o1 r receives member.2.0 in
        let made = stored-call-fine l ts args w x k computed o1 p r h it.object member.2.1.0 it.receiver in
        record { tests = made.0; current = made.1 }

    mutual
      walked-fine : (e : Tree) (w : Way) → Walked no_all known e w → Fine e → WayFine w
      walked-fine e w (base link alone) h = record { tests = tt; current = h }
      walked-fine e w (plain_member {l = l} {computed = computed} {o = o} {p = p} {w = v} flags inner) h = let below = walked-fine o v inner h.2.0 in record { tests = below.tests; current = fine-member l computed v.current p below.current h.2.1.0 }
      walked-fine e w (plain_call {l = l} {f = f} {arguments = ts} {w = v} flags inner) h = let below = walked-fine f v inner h.2.0 in record { tests = below.tests; current = fine-call l v.current ts below.current h.2.1.0 }
      walked-fine e w (marked_member {l = l} {computed = computed} {o = o} {p = p} {w = v} {u = u} flags inner tested) h =
          let after = tested-fine v u tested (continued-fine o v inner h.2.0) in
          record { tests = after.tests; current = fine-member l computed u.current p after.current h.2.1.0 }
      walked-fine e w (marked_call {l = l} {f = f} {arguments = ts} {w = v} flags inner called) h = called-fine l ts h.2.1.0 v w called (continued-fine f v inner h.2.0)

      continued-fine : (e : Tree) (w : Way) → Continued no_all known e w → Fine e → WayFine w
      continued-fine e w (same_spine same inner) h = walked-fine e w inner h
      continued-fine e w (inner_spine {c = content} {l = l} link alone chain inner) h = walked-fine content w inner (below-parens e (node ChainExpression l (one content then done)) chain h).2.0

    joined-fine : (t : Tree) (ts : List Tree) → Fine t → EachFine ts → Fine (joined_by_or t ts)
    joined-fine t [] h k = h
    joined-fine t (u ∷ us) h k = joined-fine (logical_node (codes "||") t u) us (fine-logical (codes "||") t u h k.0) k.1

    short-clear : (s : Stand) (m : Label) (ts : List Tree) (short long : Tree) → has_tests ts ≡ true → EachFine ts → Fine short → Fine long → Clear c s (where_short m ts short long)
    short-clear s m [] short long e f g j = absurd (cc e)
    short-clear s m (t ∷ ts) short long e f g j = (tt, refl, (joined-fine t ts f.0 f.1, (g, (j, tt))))

    bound-fine : (holder : Option Bound) (w : Whole) (xs : List Bound) (e d : Tree) → BoundCallee w holder xs e d → Fine e → Fine d
    bound-fine holder w xs e d (no_member h) g = g
    bound-fine holder w xs e d (to_object {k = k} {computed = computed} {o = o} {o1 = o1} {p = p} {r = r} flags receives) g =
        let it = receives-fine is_super w holder xs o o1 r receives g.2.0 in
        (tt, refl, ((tt, refl, (fine-member k computed o1 p it.object g.2.1.0, ((tt, refl, tt), tt))), ((it.receiver, tt), tt)))

    pub chaining-clear : (s : Stand) (n : Site) (bs : List Bound) (t u : Tree) → OptionalChainingRule no_all n known bs t u → Clear c s t → Clear c s u
    chaining-clear s n bs t u (by_tests {m = m} {e = e} {w = w} takes walked tests) h = let way = walked-fine e w walked h.2.0 in short-clear s m w.tests void_zero_node w.current tests way.tests fine-zero way.current
    chaining-clear s n bs t u (as_callee {m = m} {e = e} {d = d} {w = w} {xs = xs} callee walked tests bound) h =
        let way = walked-fine e w walked h.2.0 in
        short-clear s m w.tests void_zero_node d tests way.tests fine-zero (bound-fine w.holder _ xs w.current d bound way.current)
    chaining-clear s n bs t u (in_delete {m = m} {l = l} {t = operand} {e = e} {w = w} texts alone chain walked tests) h =
        let way = walked-fine e w walked (below-parens operand (node ChainExpression l (one e then done)) chain h.2.0).2.0 in
        short-clear s m w.tests true_node (delete_node w.current) tests way.tests (tt, refl, tt) (tt, refl, (way.current, tt))

  -- OBJECT SPREAD

  data CopyFine (f : Tree) : Option Tree → Type 0 where
    no_copy : CopyFine f None
    a_copy : (ts : List Tree) → EachFine ts → CopyFine f (Some (call_node f ts))

  module _ (f : Tree) (h : Fine f) where
    object-fine : (ps : List Tree) → EachFine ps → Fine (object_node ps)
    object-fine ps k = (tt, refl, (all-fine ps k, tt))

    copy-fine : (t : Tree) → CopyFine f (Some t) → Fine t
    copy-fine t (a_copy ts k) = (tt, refl, (h, (all-fine ts k, tt)))

    copied-fine : (o : Option Tree) (ps : List Tree) (e : Tree) → CopyFine f o → EachFine ps → Fine e → CopyFine f (Some (copied f o ps e))
    copied-fine None ps e g k j = a_copy (object_node ps ∷ e ∷ []) (object-fine ps k, (j, tt))
    copied-fine (Some t) [] e g k j = a_copy (t ∷ e ∷ []) (copy-fine t g, (j, tt))
    copied-fine (Some t) (p ∷ ps) e g k j = a_copy (t ∷ object_node [] ∷ object_node (p ∷ ps) ∷ e ∷ []) (copy-fine t g, (object-fine [] tt, (object-fine (p ∷ ps) k, (j, tt))))

    last-fine : (o : Option Tree) (ps : List Tree) → is_some o ≡ true → CopyFine f o → EachFine ps → CopyFine f (Some (last_copied f o ps))
    last-fine None ps e g k = absurd (cc e)
    last-fine (Some t) [] e g k = g
    last-fine (Some t) (p ∷ ps) e g k = a_copy (t ∷ object_node [] ∷ object_node (p ∷ ps) ∷ []) (copy-fine t g, (object-fine [] tt, (object-fine (p ∷ ps) k, tt)))

    copies-fine : (o : Option Tree) (ps : List Tree) (ts : Trees) (u : Tree) → Copies f o ps ts u → (is_some o || any_kind is_spread ts) ≡ true → CopyFine f o → EachFine ps → ClearAll c elsewhere ts → CopyFine f (Some u)
    copies-fine o ps ts u no_more e g k j = last-fine o ps (or-none (is_some o) e) g k
    copies-fine o ps ts u (copies {l = l} {e = x} {ts = rest} r) e g k j = copies-fine (Some (copied f o ps x)) [] rest u r refl (copied-fine o ps x g k j.0.2.0) tt j.1
    copies-fine o ps ts u (keeps {t = t} {ts = rest} other r) e g k j = copies-fine o (ps ++ t ∷ []) rest u r (or-later (is_some o) (is_spread (kind_of t)) (any_kind is_spread rest) other e) g (both-fine ps (t ∷ []) k (j.0, tt)) j.1

    placed-clear : (s : Stand) (m : Label) (u : Tree) → CopyFine f (Some u) → Clear c s (placed m u)
    placed-clear s m u (a_copy ts k) = (tt, refl, (h, (all-fine ts k, tt)))

  pub spreading-clear : (s : Stand) (n : Site) (w : Whole) (bs : List Bound) (t u : Tree) → SpreadRule n w bs t u → Clear c s t → Clear c s u
  spreading-clear s n w bs t u (spreads {m = m} {ps = ps} {u = v} unbound used some silent r) h =
      let f = helper_node (codes "objectSpread2") in
      let fine : Fine f = (tt, refl, ((tt, refl, tt), ((tt, refl, tt), tt))) in
      placed-clear f fine s m v (copies-fine f fine None [] ps v r some no_copy tt h.2.0)

-- what comes of a spread is a call
pub spread-kind : (n : Site) (w : Whole) (bs : List Bound) (t u : Tree) → SpreadRule n w bs t u → (p : AstType → Bool) → p CallExpression ≡ true → p (kind_of u) ≡ true
spread-kind n w bs t u (spreads {m = m} {ps = ps} {u = v} unbound used some silent r) p e = at None [] ps v r some tt
  where
    IsCall : Option Tree → Type 0
    IsCall None = Unit {0}
    IsCall (Some t) = p (kind_of t) ≡ true

    called : (o : Option Tree) (qs : List Tree) (x : Tree) → p (kind_of (copied (helper_node (codes "objectSpread2")) o qs x)) ≡ true
    called None qs x = e
    called (Some t) [] x = e
    called (Some t) (q ∷ qs) x = e

    last : (o : Option Tree) (qs : List Tree) → is_some o ≡ true → IsCall o → p (kind_of (last_copied (helper_node (codes "objectSpread2")) o qs)) ≡ true
    last None qs d h = absurd (cc d)
    last (Some t) [] d h = h
    last (Some t) (q ∷ qs) d h = e

    place : (m : Label) (t : Tree) → p (kind_of t) ≡ true → p (kind_of (placed m t)) ≡ true
    place m (node k l fs) h = h

    at : (o : Option Tree) (qs : List Tree) (ts : Trees) (u : Tree) → Copies (helper_node (codes "objectSpread2")) o qs ts u → (is_some o || any_kind is_spread ts) ≡ true → IsCall o → p (kind_of (placed m u)) ≡ true
    at o qs ts u no_more d h = place m (last_copied (helper_node (codes "objectSpread2")) o qs) (last o qs (or-none (is_some o) d) h)
    at o qs ts u (copies {e = x} {ts = rest} r) d h = at (Some (copied (helper_node (codes "objectSpread2")) o qs x)) [] rest u r refl (called o qs x)
    at o qs ts u (keeps {t = t} {ts = rest} other r) d h = at o (qs ++ t ∷ []) rest u r (or-later (is_some o) (is_spread (kind_of t)) (any_kind is_spread rest) other d) h
