-- The rows of exponentiation keep the runs of statements, whatever the operands are.
use Rattle.std.proofs.Common.{◌≡◌, ℕ, zero, refl, sym, ap, subst, ◌∙◌, List, [], ◌∷◌, ◌++◌}
use Rattle.std.specs.Prelude.{Bool, true, false, ◌&&◌, not, Option, Some, None, is_some, bytes_eq, codes}
use Rattle.es_tree.specs.Fresh.{node_base}
use Rattle.es_tree.specs.Names.{first_text}
use Rattle.es_tree.specs.Parens.{without_parens}
use Rattle.es_tree.specs.Tree.{Tree, node, Label, done, ◌then◌, one, many, empty, ◌before◌, kind_of, trees}
use Rattle.es_tree.specs.Words.{Text}
use Rattle.es_tree.specs.declared.ast_type.AstType.TheVariants.{AssignmentExpression, Identifier, PrivateIdentifier, SequenceExpression}
use Rattle.es_runs.specs.Alike.{set_cells}
use Rattle.es_runs.specs.Core.{is_free}
use Rattle.es_runs.specs.Duplication.{has_no_fields}
use Rattle.es_runs.specs.Exponentiation.{assign_at, is_raisable, no_name, string_node, assigned_power as assigned_power_by_name, power_at as power_at_by_name, power_node as power_node_by_name, stays as stays_by_name, Holds as HoldsByName, TargetTwice as TargetTwiceByName, ExponentiationRule as ExponentiationByName}
use Rattle.es_runs.specs.Exponentiation.Holds.{where_it_is as plain_where_it_is, in_temporary as plain_in_temporary}
use Rattle.es_runs.specs.Exponentiation.TargetTwice.{bound_name as plain_bound_name, other_name as plain_other_name, static_member as plain_static_member, private_member as plain_private_member, literal_key as plain_literal_key, other_key as plain_other_key}
use Rattle.es_runs.specs.Exponentiation.ExponentiationRule.{power as plain_power, power_assignment as plain_power_assignment}
use Rattle.es_runs.specs.Rules.{assign_node, in_place_of, member_node}
use Rattle.es_runs.specs.Runs.{identifier as identifier_called, made}
use Rattle.es_resolution.specs.Declarations.{Bound}
use Rattle.es_resolution.specs.Resolved.{Resolved}
use Rattle.es_steps.specs.CoreBridge.{names_among}
use Rattle.es_steps.specs.Duplication.{no_symbol}
use Rattle.es_steps.specs.Exponentiation.{ExponentiationRule, Holds, TargetTwice, assigned_power, power_at, power_node, stays}
use Rattle.es_steps.specs.Exponentiation.ExponentiationRule.{power, power_assignment}
use Rattle.es_steps.specs.Exponentiation.Holds.{where_it_is, in_temporary}
use Rattle.es_steps.specs.Exponentiation.TargetTwice.{bound_name, other_name, static_member, private_member, literal_key, other_key}
use Rattle.es_steps.specs.Nodes.{identifier}
use Rattle.es_steps.specs.Rules.{with_made}
use Rattle.es_steps.specs.Steps.{Site, Whole}
use Rattle.es_steps.specs.WrapRule.{OutsideSlots}
use Rattle.es_statement_runs.specs.Alike.{SenseLike}
use Rattle.es_statement_runs.specs.Helpers.{Supply}
use Rattle.es_statement_runs.specs.Kinds.{sense}
use Rattle.es_statement_runs.specs.Laws.{among_names}
use Rattle.es_statement_runs.specs.Places.{Take, placed_at}
use Rattle.es_statement_runs.proofs.Moved.{is_mute}
use Rattle.es_statement_steps.proofs.Doublings.{FindsOwn, TargetFinds, also-same, names-both, steady_names, target-found}
use Rattle.es_statement_steps.proofs.NewNames.{new-both, new-one, no-new}
use Rattle.es_statement_steps.proofs.PlainSupplies.{is_core_supply}
use Rattle.es_statement_steps.proofs.RaisedRows.{raising-like}
use Rattle.es_statement_steps.proofs.Replacings.{RowShape}
use Rattle.es_statement_steps.proofs.Rooms.{stays_put}
use Rattle.es_statement_steps.proofs.RowRuns.{KeepsRuns}
use Rattle.es_statement_steps.proofs.SameSenses.{EachSame, SameSense, assign-same, before-same, call-same, each-both, each-same, member-same, node-same, two-same}
use Rattle.es_statement_steps.proofs.SettledOperands.{assignment-raisable, binary-raisable}
use Rattle.es_statement_steps.proofs.SettledRows.{ByNames, SoundRow, bound_names, place-bound, sound-avoids, sound-settled}
use Rattle.es_statement_steps.proofs.Stands.{is_inner, is_item}
use Rattle.es_statement_steps.proofs.StepMoves.{AreNew, Fine}

-- WHAT IS MADE

power-same : (m : Label) (l l' r r' : Tree) → SameSense l l' → SameSense r r' → SameSense (power_at_by_name m l r) (power_at m l' r')
power-same m l l' r r' h g =
    call-same (record (in_place_of m) { flags = false ∷ [] }) (member_node false (identifier_called (codes "Math")) (identifier_called (codes "pow"))) (member_node false (Rattle.es_steps.specs.Nodes.word (codes "Math")) (Rattle.es_steps.specs.Nodes.word (codes "pow"))) (l before (r before empty)) (l' before (r' before empty))
    (λ p. refl) (before-same l l' (r before empty) (r' before empty) h (before-same r r' empty empty g (λ p. refl)))

written-same : (m : Label) (a b c d : Tree) → SameSense a b → SameSense c d → SameSense (assign_at m a c) (assign_at m b d)
written-same m a b c d h g = node-same AssignmentExpression (record (in_place_of m) { texts = Some (codes "=") ∷ [] }) (one a then (one c then done)) (one b then (one d then done)) refl refl refl (two-same a b c d h g)

assigned-same : (m : Label) (fs gs : List Tree) (t t' e e' r : Tree) → EachSame fs gs → SameSense t t' → SameSense e e' → SameSense (assigned_power_by_name m fs t e r) (assigned_power m gs t' e' r)
assigned-same m [] [] t t' e e' r h g k = written-same m t t' (power_node_by_name e r) (power_node e' r) g (power-same (made [] []) e e' r r k (λ p. refl))
assigned-same m (f ∷ fs) (f' ∷ gs) t t' e e' r h g k =
    let last = assign-same t t' (power_node_by_name e r) (power_node e' r) g (power-same (made [] []) e e' r r k (λ p. refl)) in
    let all = each-both (f ∷ fs) (f' ∷ gs) (assign_node t (power_node_by_name e r) ∷ []) (assign_node t' (power_node e' r) ∷ []) h (last, tt) in
    node-same SequenceExpression (in_place_of m) (many (trees ((f ∷ fs) ++ assign_node t (power_node_by_name e r) ∷ [])) then done) (many (trees ((f' ∷ gs) ++ assign_node t' (power_node e' r) ∷ [])) then done) refl refl refl
    (λ at. λ i. Rattle.es_statement_runs.specs.Senses.Portion.rows (each-same ((f ∷ fs) ++ assign_node t (power_node_by_name e r) ∷ []) ((f' ∷ gs) ++ assign_node t' (power_node e' r) ∷ []) all (at zero) i) ∷ [])
assigned-same m [] (f ∷ gs) t t' e e' r h g k = absurd h
assigned-same m (f ∷ fs) [] t t' e e' r h g k = absurd h

-- OBJECTS AND TARGETS

module _ (look : Text → Option ℕ) where
  record Held (by_name in_use : Text → Bool) (xs : List Bound) (fs : List Tree) (o o' : Tree) : Type 0 where
    front : List Tree
    held : Tree
    rule : HoldsByName by_name in_use (names_among xs) front o held
    front_same : EachSame front fs
    held_same : SameSense held o'

  module _ (names : Option ℕ → Bool) (by_name : Text → Bool) (same : (x : Text) → by_name x ≡ names (look x)) where
    stays-same : (t : Tree) → FindsOwn look t → stays_by_name by_name t ≡ stays names t
    stays-same (node Identifier l fs) h = λ i. (same (first_text l.texts) ∙ ap names (sym h)) i && has_no_fields fs
    stays-same (node _ l fs) h = refl

    holds : (v : Whole) (xs : List Bound) (fs : List Tree) (o o' : Tree) → Holds names v xs fs o o' → FindsOwn look o → Held by_name v.in_use xs fs o o'
    holds v xs fs o o' (where_it_is e) h = record { front = []; held = o; rule = plain_where_it_is (stays-same o h ∙ e); front_same = tt; held_same = λ p. refl }
    holds v xs fs o o' (in_temporary {x = x} e next) h = record {
      front = assign_node (identifier_called x.name) o ∷ [];
      held = identifier_called x.name;
      rule = plain_in_temporary (stays-same o h ∙ e) next.fresh;
      front_same = ((λ p. refl), tt);
      held_same = λ p. refl;
    }

  abbrev bound : Text → Bool
  bound x = is_some (look x)

  record Twice (in_use : Text → Bool) (xs : List Bound) (fs : List Tree) (s target read : Tree) : Type 0 where
    front : List Tree
    to : Tree
    from : Tree
    rule : TargetTwiceByName bound in_use (names_among xs) front s to from
    front_same : EachSame front fs
    to_same : SameSense to target
    from_same : SameSense from read

  twice : (w : Whole) (xs : List Bound) (fs : List Tree) (s target read : Tree) → TargetTwice w xs fs s target read → TargetFinds look s → Twice w.in_use xs fs s target read
  twice w xs fs s target read (bound_name {l = l} e) h = record { front = []; to = s; from = s; rule = plain_bound_name (ap is_some (sym h) ∙ e); front_same = tt; to_same = λ p. refl; from_same = λ p. refl }
  twice w xs fs s target read (other_name {l = l} {x = x} e next) h = record {
    front = assign_node (identifier_called x.name) (node Identifier l done) ∷ [];
    to = node Identifier l done;
    from = identifier_called x.name;
    rule = plain_other_name (ap is_some (sym h) ∙ e) next.fresh;
    front_same = ((λ p. refl), tt);
    to_same = λ p. refl;
    from_same = λ p. refl;
  }
  twice w xs fs s target read (static_member {l = l} {k = k} {o = o} {o' = o'} flags object) h =
      let g = holds is_some bound (λ x. refl) w xs fs o o' object h.object in
      let key = string_node (first_text k.texts) in
      let same = member-same true g.held o' key key g.held_same (λ p. refl) in
      record { front = g.front; to = member_node true g.held key; from = member_node true g.held key; rule = plain_static_member flags g.rule; front_same = g.front_same; to_same = same; from_same = same }
  twice w xs fs s target read (private_member {l = l} {k = k} {o = o} {o' = o'} flags object) h =
      let g = holds is_some bound (λ x. refl) w xs fs o o' object h.object in
      let key = node PrivateIdentifier k done in
      let same = member-same false g.held o' key key g.held_same (λ p. refl) in
      record { front = g.front; to = member_node false g.held key; from = member_node false g.held key; rule = plain_private_member flags g.rule; front_same = g.front_same; to_same = same; from_same = same }
  twice w xs fs s target read (literal_key {l = l} {o = o} {o' = o'} {k = k} flags literal object) h =
      let g = holds is_some bound (λ x. refl) w xs fs o o' object h.object in
      let same = member-same true g.held o' k k g.held_same (λ p. refl) in
      record { front = g.front; to = member_node true g.held k; from = member_node true g.held k; rule = plain_literal_key flags literal g.rule; front_same = g.front_same; to_same = same; from_same = same }
  twice w xs fs s target read (other_key {l = l} {o = o} {o' = o'} {k = k} {xs = ys} {fs = gs} {y = y} flags literal object next) h =
      let g = holds no_symbol no_name (λ x. refl) w ys gs o o' object h.object in
      let store = assign_node (identifier_called y.name) k in
      let same = member-same true g.held o' (identifier_called y.name) (identifier y) g.held_same (λ p. refl) in
      record {
        front = g.front ++ store ∷ [];
        to = member_node true g.held (identifier_called y.name);
        from = member_node true g.held (identifier_called y.name);
        rule = subst (λ (zs : List Text). TargetTwiceByName bound w.in_use zs (g.front ++ store ∷ []) s (member_node true g.held (identifier_called y.name)) (member_node true g.held (identifier_called y.name))) (sym (names-both ys (y ∷ [])))
            (plain_other_key flags literal g.rule (subst (λ (f : Text → Bool). Rattle.es_tree.specs.Fresh.IsFreshName f (node_base k) y.name) (also-same ys w.in_use) next.fresh));
        front_same = each-both g.front gs (store ∷ []) (assign_node (identifier y) k ∷ []) g.front_same ((λ p. refl), tt);
        to_same = same;
        from_same = same;
      }

-- THE ROW BY NAMES

by-names : (n : Site) (w : Whole) (t : Take) (bs : List Bound) (a b : Tree) → ExponentiationRule n w bs a b → Resolved n.role n.names a → ByNames (ExponentiationByName (bound_names n.names) w.in_use (names_among bs) t.need a) b
by-names n w t bs a b (power {m = m} {l = l} {r = r} free texts left right) h = record { made = power_at_by_name m l r; rule = plain_power texts left right; same = power-same m l l r r (λ p. refl) (λ p. refl) }
by-names n w t bs a b (power_assignment {m = m} {t = target} {r = r} {target = to} {read = read} {xs = xs} {fs = fs} free texts right alone object) h =
    let g = twice n.names.scope w xs fs (without_parens target) to read object (target-found (not (bytes_eq (first_text m.texts) (codes "="))) true _ target h.2.0) in
    record {
      made = assigned_power_by_name m g.front g.to g.from r;
      rule = plain_power_assignment texts right g.rule;
      same = assigned-same m g.front fs g.to to g.from read r g.front_same g.to_same g.from_same;
    }

-- ITS SHAPE

abbrev pub RaisingRow : Site → Whole → List Bound → Tree → Tree → Type 0
RaisingRow = OutsideSlots ExponentiationRule

held-new : {names : Option ℕ → Bool} {w : Whole} {xs : List Bound} {fs : List Tree} {o o' : Tree} → Holds names w xs fs o o' → AreNew w xs
held-new {w = w} (where_it_is e) = no-new w
held-new {w = w} (in_temporary {o = o} {x = x} e next) = new-one w (node_base o) x next

twice-new : {w : Whole} {xs : List Bound} {fs : List Tree} {s target read : Tree} → TargetTwice w xs fs s target read → AreNew w xs
twice-new {w = w} (bound_name e) = no-new w
twice-new {w = w} (other_name {l = l} {x = x} e next) = new-one w (node_base (node Identifier l done)) x next
twice-new (static_member flags object) = held-new object
twice-new (private_member flags object) = held-new object
twice-new (literal_key flags literal object) = held-new object
twice-new {w = w} (other_key {k = k} {xs = xs} {y = y} flags literal object next) = new-both w xs (y ∷ []) (held-new object) (new-one (with_made xs w) (node_base k) y next)

all-new : (n : Site) (w : Whole) (bs : List Bound) (t u : Tree) → ExponentiationRule n w bs t u → AreNew w bs
all-new n w bs t u (power free texts left right) = no-new w
all-new n w bs t u (power_assignment free texts right alone object) = twice-new object

power-kinds : (m : Label) (fs : List Tree) (target read r : Tree) → (is_mute (kind_of (assigned_power m fs target read r)) ≡ true) × (is_inner (kind_of (assigned_power m fs target read r)) ≡ true)
power-kinds m [] target read r = (refl, refl)
power-kinds m (f ∷ fs) target read r = (refl, refl)

pub raising-shape : RowShape RaisingRow
raising-shape = record {
  acts_on = λ n w bs t u h. acts n w bs t u h.rule;
  new_names = λ n w bs t u h. all-new n w bs t u h.rule;
  first = λ n w bs t u h. first n w bs t u h.rule;
  second = λ n w bs t u h. second n w bs t u h.rule;
}
  where
    acts : (n : Site) (w : Whole) (bs : List Bound) (t u : Tree) → ExponentiationRule n w bs t u → stays_put (kind_of t) ≡ false
    acts n w bs t u (power free texts left right) = refl
    acts n w bs t u (power_assignment free texts right alone object) = refl

    first : (n : Site) (w : Whole) (bs : List Bound) (t u : Tree) → ExponentiationRule n w bs t u → (is_mute (kind_of t) ≡ true) × (is_inner (kind_of t) ≡ true)
    first n w bs t u (power free texts left right) = (refl, refl)
    first n w bs t u (power_assignment free texts right alone object) = (refl, refl)

    second : (n : Site) (w : Whole) (bs : List Bound) (t u : Tree) → ExponentiationRule n w bs t u → (is_mute (kind_of u) ≡ true) × (is_inner (kind_of u) ≡ true)
    second n w bs t u (power free texts left right) = (refl, refl)
    second n w bs t u (power_assignment {m = m} {r = r} {target = target} {read = read} {fs = fs} free texts right alone object) = power-kinds m fs target read r

-- ITS SIDES ARE ALIKE, where its operands mean something and nothing writes a steady name

no-item : (n : Site) (w : Whole) (bs : List Bound) (t u : Tree) → ExponentiationRule n w bs t u → is_item (kind_of t) ≡ false
no-item n w bs t u (power free texts left right) = refl
no-item n w bs t u (power_assignment free texts right alone object) = refl

abbrev pub SoundRaising : List Bound → Site → Whole → Tree → Tree → Type 0
SoundRaising = SoundRow RaisingRow

raisable : (n : Site) (w : Whole) (bs : List Bound) (t u : Tree) → ExponentiationRule n w bs t u → Fine t → is_raisable t ≡ true
raisable n w bs t u (power {m = m} {l = l} {r = r} free texts left right) fine = binary-raisable m l r fine
raisable n w bs t u (power_assignment {m = m} {t = target} {r = r} free texts right alone object) fine = assignment-raisable m target r fine

unbound : (n : Site) (w : Whole) (bs : List Bound) (t u : Tree) → ExponentiationRule n w bs t u → n.names.scope (codes "Math") ≡ None
unbound n w bs t u (power free texts left right) = free.unbound
unbound n w bs t u (power_assignment free texts right alone object) = free.unbound

pub raising-keeps : (no_all : Bool) (u : Supply) → is_core_supply u ≡ true → KeepsRuns no_all u true SoundRaising
raising-keeps no_all u plain = record {
  alike = λ new n whole a b h t taken ds resolved found fine away quiet stack seen w v same known ls x.
      let rule = h.row.rule in
      let row = by-names n whole t new a b rule resolved in
      let xs = names_among new in
      let steady = steady_names whole n.names.scope in
      let settled = sound-settled xs steady t a h.sound (raising-shape.first n whole new a b h.row).1 (no-item n whole new a b rule) fine away in
      let free : is_free (w.scope (codes "Math")) ≡ true = known.bound (codes "Math") ∙ ap not (sym (found (codes "Math")) ∙ ap is_some (unbound n whole new a b rule)) in
      subst (λ s. SenseLike (set_cells (among_names xs)) w v t (sense (placed_at u w ls x) a) s) (row.same (placed_at u v ls x))
      (raising-like no_all u plain xs steady (bound_names n.names) whole.in_use h.sound.own quiet stack seen w v same ds known free (place-bound ds n.names found w known.bound) t a row.made row.rule (sound-avoids xs steady t a h.sound away) settled.formed h.sound.meant (raisable n whole new a b rule fine) ls x);
}
