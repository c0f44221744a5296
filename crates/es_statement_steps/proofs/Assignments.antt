-- The rows of logical assignment keep the runs of statements, whatever the operands are.
use Rattle.std.proofs.Common.{◌≡◌, refl, sym, ap, subst, List, [], ◌∷◌}
use Rattle.std.specs.Prelude.{Bool, true, false, Some}
use Rattle.es_tree.specs.Names.{flag_at}
use Rattle.es_tree.specs.Tree.{Tree, node, Label, done, ◌then◌, one, kind_of}
use Rattle.es_tree.specs.Words.{Text}
use Rattle.es_tree.specs.declared.ast_type.AstType.TheVariants.{Identifier, LogicalExpression}
use Rattle.es_runs.specs.Alike.{set_cells}
use Rattle.es_runs.specs.Core.{without_last}
use Rattle.es_runs.specs.LogicalAssignment.{LogicalAssignmentRule as LogicalAssignmentByName, assigned_where}
use Rattle.es_runs.specs.LogicalAssignment.LogicalAssignmentRule.{to_name as plain_to_name, to_static_member as plain_to_static_member, to_computed_member as plain_to_computed_member}
use Rattle.es_runs.specs.Rules.{assign_node, in_place_of, member_node}
use Rattle.es_resolution.specs.Declarations.{Bound}
use Rattle.es_resolution.specs.Resolved.{Resolved}
use Rattle.es_steps.specs.CoreBridge.{names_among}
use Rattle.es_steps.specs.LogicalAssignment.{LogicalAssignmentRule}
use Rattle.es_steps.specs.LogicalAssignment.LogicalAssignmentRule.{to_name, to_static_member, to_computed_member}
use Rattle.es_steps.specs.Rules.{with_made}
use Rattle.es_steps.specs.Steps.{Site, Whole}
use Rattle.es_steps.specs.WrapRule.{OutsideSlots}
use Rattle.es_statement_runs.specs.Alike.{SenseLike}
use Rattle.es_statement_runs.specs.Helpers.{Supply}
use Rattle.es_statement_runs.specs.Kinds.{sense}
use Rattle.es_statement_runs.specs.Laws.{among_names}
use Rattle.es_statement_runs.specs.Places.{Take, placed_at}
use Rattle.es_statement_runs.proofs.Moved.{is_mute}
use Rattle.es_statement_steps.proofs.Doublings.{also-same, doubled, member-found, names-both, steady_names}
use Rattle.es_statement_steps.proofs.NewNames.{doubled-new, new-both, no-new}
use Rattle.es_statement_steps.proofs.PlainSupplies.{is_core_supply}
use Rattle.es_statement_steps.proofs.Replacings.{RowShape}
use Rattle.es_statement_steps.proofs.Rooms.{stays_put}
use Rattle.es_statement_steps.proofs.RowRuns.{KeepsRuns}
use Rattle.es_statement_steps.proofs.SameSenses.{SameSense, assign-same, member-same, node-same, two-same}
use Rattle.es_statement_steps.proofs.SettledRows.{ByNames, SoundRow, place-bound, sound-avoids, sound-settled, steady-place}
use Rattle.es_statement_steps.proofs.Stands.{is_inner, is_item}
use Rattle.es_statement_steps.proofs.StepMoves.{AreNew}
use Rattle.es_statement_steps.proofs.WrittenAgain.{assigning-like}

-- THE ROW BY NAMES

assigned-same : (m : Label) (op : Text) (a b c d r : Tree) → SameSense a b → SameSense c d → SameSense (assigned_where m op a c r) (assigned_where m op b d r)
assigned-same m op a b c d r h g =
    node-same LogicalExpression (record (in_place_of m) { texts = Some (without_last op) ∷ [] }) (one a then (one (assign_node c r) then done)) (one b then (one (assign_node d r) then done)) refl refl refl
    (two-same a b (assign_node c r) (assign_node d r) h (assign-same c d r r g (λ p. refl)))

by-names : (n : Site) (w : Whole) (t : Take) (bs : List Bound) (a b : Tree) → LogicalAssignmentRule n w bs a b → Resolved n.role n.names a → ByNames (LogicalAssignmentByName (steady_names w n.names.scope) w.in_use (names_among bs) t.need a) b
by-names n w t bs a b (to_name {m = m} {l = l} {t = target} {r = r} {op = op} texts operator alone at) h =
    record { made = assigned_where m op (node Identifier l done) (node Identifier l done) r; rule = plain_to_name texts operator at; same = λ p. refl }
by-names n w t bs a b (to_static_member {m = m} {l = l} {k = k} {t = target} {r = r} {o = o} {o1 = o1} {o2 = o2} {op = op} {xs = xs} texts operator alone at flags object) h =
    let name = node Identifier k done in
    let found = member-found _ _ target l o name h.2.0 at in
    let twice = doubled w n.names.scope xs o o1 o2 object found.object in
    record {
      made = assigned_where m op (member_node false twice.begun name) (member_node false twice.again name) r;
      rule = plain_to_static_member texts operator at flags twice.rule;
      same = assigned-same m op (member_node false twice.begun name) (member_node false o1 name) (member_node false twice.again name) (member_node false o2 name) r (member-same false twice.begun o1 name name twice.first_same (λ p. refl)) (member-same false twice.again o2 name name twice.again_same (λ p. refl));
    }
by-names n w t bs a b (to_computed_member {m = m} {l = l} {t = target} {r = r} {o = o} {o1 = o1} {o2 = o2} {k = k} {k1 = k1} {k2 = k2} {op = op} {xs = xs} {ys = ys} texts operator alone at flags object key) h =
    let found = member-found _ _ target l o k h.2.0 at in
    let twice = doubled w n.names.scope xs o o1 o2 object found.object in
    let keys = doubled (with_made xs w) n.names.scope ys k k1 k2 key (found.key (ap (flag_at 0) flags)) in
    record {
      made = assigned_where m op (member_node true twice.begun keys.begun) (member_node true twice.again keys.again) r;
      rule = subst (λ (zs : List Text). LogicalAssignmentByName (steady_names w n.names.scope) w.in_use zs t.need a (assigned_where m op (member_node true twice.begun keys.begun) (member_node true twice.again keys.again) r)) (sym (names-both xs ys))
          (plain_to_computed_member texts operator at flags twice.rule (subst (λ (f : Text → Bool). Rattle.es_runs.specs.Duplication.IsDuplicated (steady_names w n.names.scope) f (names_among ys) k keys.begun keys.again) (also-same xs w.in_use) keys.rule));
      same = assigned-same m op (member_node true twice.begun keys.begun) (member_node true o1 k1) (member_node true twice.again keys.again) (member_node true o2 k2) r (member-same true twice.begun o1 keys.begun k1 twice.first_same keys.first_same) (member-same true twice.again o2 keys.again k2 twice.again_same keys.again_same);
    }

-- ITS SHAPE

abbrev pub AssigningRow : Site → Whole → List Bound → Tree → Tree → Type 0
AssigningRow = OutsideSlots LogicalAssignmentRule

both-fresh : (n : Site) (w : Whole) (bs : List Bound) (t u : Tree) → LogicalAssignmentRule n w bs t u → AreNew w bs
both-fresh n w bs t u (to_name texts operator alone at) = no-new w
both-fresh n w bs t u (to_static_member {xs = xs} texts operator alone at flags object) = doubled-new w xs object
both-fresh n w bs t u (to_computed_member {xs = xs} {ys = ys} texts operator alone at flags object key) = new-both w xs ys (doubled-new w xs object) (doubled-new (with_made xs w) ys key)

pub assigning-shape : RowShape AssigningRow
assigning-shape = record {
  acts_on = λ n w bs t u h. acts n w bs t u h.rule;
  new_names = λ n w bs t u h. both-fresh n w bs t u h.rule;
  first = λ n w bs t u h. first n w bs t u h.rule;
  second = λ n w bs t u h. second n w bs t u h.rule;
}
  where
    acts : (n : Site) (w : Whole) (bs : List Bound) (t u : Tree) → LogicalAssignmentRule n w bs t u → stays_put (kind_of t) ≡ false
    acts n w bs t u (to_name texts operator alone at) = refl
    acts n w bs t u (to_static_member texts operator alone at flags object) = refl
    acts n w bs t u (to_computed_member texts operator alone at flags object key) = refl

    first : (n : Site) (w : Whole) (bs : List Bound) (t u : Tree) → LogicalAssignmentRule n w bs t u → (is_mute (kind_of t) ≡ true) × (is_inner (kind_of t) ≡ true)
    first n w bs t u (to_name texts operator alone at) = (refl, refl)
    first n w bs t u (to_static_member texts operator alone at flags object) = (refl, refl)
    first n w bs t u (to_computed_member texts operator alone at flags object key) = (refl, refl)

    second : (n : Site) (w : Whole) (bs : List Bound) (t u : Tree) → LogicalAssignmentRule n w bs t u → (is_mute (kind_of u) ≡ true) × (is_inner (kind_of u) ≡ true)
    second n w bs t u (to_name texts operator alone at) = (refl, refl)
    second n w bs t u (to_static_member texts operator alone at flags object) = (refl, refl)
    second n w bs t u (to_computed_member texts operator alone at flags object key) = (refl, refl)

-- ITS SIDES ARE ALIKE, where its operands mean something and nothing writes a steady name

no-item : (n : Site) (w : Whole) (bs : List Bound) (t u : Tree) → LogicalAssignmentRule n w bs t u → is_item (kind_of t) ≡ false
no-item n w bs t u (to_name texts operator alone at) = refl
no-item n w bs t u (to_static_member texts operator alone at flags object) = refl
no-item n w bs t u (to_computed_member texts operator alone at flags object key) = refl

abbrev pub SoundAssigning : List Bound → Site → Whole → Tree → Tree → Type 0
SoundAssigning = SoundRow AssigningRow

pub assigning-keeps : (no_all : Bool) (u : Supply) → is_core_supply u ≡ true → KeepsRuns no_all u true SoundAssigning
assigning-keeps no_all u plain = record {
  alike = λ new n whole a b h t taken ds resolved found fine away quiet stack seen w v same known ls x.
      let row = by-names n whole t new a b h.row.rule resolved in
      let xs = names_among new in
      let steady = steady_names whole n.names.scope in
      let settled = sound-settled xs steady t a h.sound (assigning-shape.first n whole new a b h.row).1 (no-item n whole new a b h.row.rule) fine away in
      subst (λ s. SenseLike (set_cells (among_names xs)) w v t (sense (placed_at u w ls x) a) s) (row.same (placed_at u v ls x))
      (assigning-like no_all u plain xs steady whole.in_use h.sound.own quiet stack seen w v same ds known (λ y e. place-bound ds n.names found w known.bound y (steady-place whole n.names y e)) t a row.made row.rule (sound-avoids xs steady t a h.sound away) settled.formed settled.untouched ls x);
}
