-- Steps of the core rules on open programs, as steps at one place of the trees.
use Rattle.std.proofs.Common.{◌≡◌, ℕ, refl, ap, inl, inr, List}
use Rattle.std.proofs.lemmas.Bool.{and_from}
use Rattle.std.specs.Prelude.{Bool, true, false, ◌&&◌}
use Rattle.es_tree.specs.Words.{Text}
use Rattle.es_tree.specs.Walks.{all_nodes, all_in_fields, all_in_field, all_in_trees}
use Rattle.es_tree.specs.Tree.{Tree, node, Label, Fields, done, ◌then◌, statements, Trees, empty, ◌before◌, kind_of, fields_of}
use Rattle.es_tree.specs.declared.ast_type.AstType.{AstType}
use Rattle.es_tree.specs.declared.ast_type.AstType.TheVariants.{Program}
use Rattle.es_runs.specs.Alike.{Need, all_of_it}
use Rattle.es_runs.specs.Duplication.{has_no_fields}
use Rattle.es_runs.specs.Rules.{OnePlace, OneField, InField, OneNode}
use Rattle.es_runs.specs.Rules.OnePlace.{this_place, below}
use Rattle.es_runs.specs.Rules.OneField.{first_field, later_field}
use Rattle.es_runs.specs.Rules.InField.{in_one, in_many, in_statements}
use Rattle.es_runs.specs.Rules.OneNode.{first_node, later_node}
use Rattle.es_runs.specs.Open.{Pending, nothing_pending, Open, OpenFields, OpenField, OpenTrees, closed, closed_fields, closed_field, closed_trees, written, with_vars}
use Rattle.es_runs.specs.Open.Open.{open_node}
use Rattle.es_runs.specs.Open.OpenFields.{◌and◌}
use Rattle.es_runs.specs.Open.OpenField.{list}
use Rattle.es_runs.specs.OpenSteps.{Whole, Ledger, whole_in, pending_in, Step, FieldsStep, FieldStep, TreesStep}
use Rattle.es_runs.specs.OpenSteps.Ledger.{ledger}
use Rattle.es_runs.specs.OpenSteps.Spot.{at_node}
use Rattle.es_runs.specs.OpenSteps.Step.{acts, inside}
use Rattle.es_runs.specs.OpenSteps.FieldsStep.{in_first, in_later}
use Rattle.es_runs.specs.OpenSteps.FieldStep.{in_child, in_children, within, acts_on_list}
use Rattle.es_runs.specs.OpenSteps.TreesStep.{in_head, in_tail}
use Rattle.es_runs.specs.OpenRules.{with_names, CoreRule}
use Rattle.es_runs.specs.OpenRules.Replacing.{replaces}
use Rattle.es_runs.specs.OpenRules.Writing.{writes}
use Rattle.es_runs.specs.Standing.{is_program_kind}
use Rattle.es_runs.proofs.Named.{and_left, and_right}
use Rattle.es_runs.proofs.Kept.{trees_all}
use Rattle.es_runs.proofs.CoreRows.{core_rule}
use Rattle.es_runs.proofs.RowFacts.{is_row_kind}
use Rattle.es_runs.proofs.RowKinds.{row_kind}
use Rattle.es_runs.proofs.RowKeeps.{row_unlisted}
use Rattle.es_runs.proofs.Declarations.{is_done}
use Rattle.es_runs.proofs.OpenTrees.{closed-opened, closed-opened-trees}
use Rattle.es_runs.proofs.OpenForm.{is_no_list, no_list, unlisted, childless, is_childless, is_unlisted, last_unlisted, one_list, has_one_list}

-- the names that a step takes, the ledger afterwards, and the step of the closed tree
pub record Takes (w : Whole) (p : Pending) (s' : Ledger) (P : List Text → Type 0) : Type 0 where
  pub names : List Text
  pub after : s' ≡ ledger (with_names names w) (with_vars names p)
  pub step : P names

abbrev pub RuleOf : Bool → Whole → List Text → Need → Tree → Tree → Type 0
RuleOf no_all w ys = core_rule no_all w ys

-- at a node the rules are those of the rows
node_takes : (no_all : Bool) (w : Whole) (p : Pending) (n : Need) (s' : Ledger) (t u : Tree) → CoreRule no_all n (ledger w p) (at_node t) s' (at_node u) → Takes w p s' (λ ys. RuleOf no_all w ys n t u)
node_takes no_all w p n s' t u (inl r) = elim r [ ]
node_takes no_all w p n s' t u (inr (inl (replaces xs r))) = record { names = xs; after = refl; step = inl r }
node_takes no_all w p n s' t u (inr (inr (inl (inl (replaces xs r))))) = record { names = xs; after = refl; step = inr (inl (inl r)) }
node_takes no_all w p n s' t u (inr (inr (inl (inr (replaces xs r))))) = record { names = xs; after = refl; step = inr (inl (inr r)) }
node_takes no_all w p n s' t u (inr (inr (inr (replaces xs r)))) = record { names = xs; after = refl; step = inr (inr r) }

module _ (no_all : Bool) (w : Whole) (p : Pending) where
  mutual
    -- where no statement list stands, each step is one of a row
    place_step : {n : Need} {s' : Ledger} {o u : Open} → Step (CoreRule no_all) n (ledger w p) o s' u → all_nodes unlisted (closed o) ≡ true → Takes w p s' (λ ys. OnePlace (RuleOf no_all w ys) n (closed o) (closed u))
    place_step (acts {n = n} {s' = s'} t u r) h =
        let k = node_takes no_all w p n s' t u r in
        record { names = k.names; after = k.after; step = rw (closed-opened t, closed-opened u) (this_place k.step) }
    place_step (inside {fs = fs} r) h =
        let k = fields_step r (and_left (no_list (closed_fields fs)) (all_in_fields unlisted (closed_fields fs)) h) (and_right (no_list (closed_fields fs)) (all_in_fields unlisted (closed_fields fs)) h) in
        record { names = k.names; after = k.after; step = below k.step }

    fields_step : {c : ℕ → Need} {s' : Ledger} {fs gs : OpenFields} → FieldsStep (CoreRule no_all) c (ledger w p) fs s' gs → no_list (closed_fields fs) ≡ true → all_in_fields unlisted (closed_fields fs) ≡ true → Takes w p s' (λ ys. OneField (RuleOf no_all w ys) c (closed_fields fs) (closed_fields gs))
    fields_step (in_first {f = f} {fs = fs} r) g h =
        let k = field_step r (and_left (is_no_list (closed_field f)) (no_list (closed_fields fs)) g) (and_left (all_in_field unlisted (closed_field f)) (all_in_fields unlisted (closed_fields fs)) h) in
        record { names = k.names; after = k.after; step = first_field k.step }
    fields_step (in_later {f = f} {fs = fs} r) g h =
        let k = fields_step r (and_right (is_no_list (closed_field f)) (no_list (closed_fields fs)) g) (and_right (all_in_field unlisted (closed_field f)) (all_in_fields unlisted (closed_fields fs)) h) in
        record { names = k.names; after = k.after; step = later_field k.step }

    field_step : {n : Need} {s' : Ledger} {f g : OpenField} → FieldStep (CoreRule no_all) n (ledger w p) f s' g → is_no_list (closed_field f) ≡ true → all_in_field unlisted (closed_field f) ≡ true → Takes w p s' (λ ys. InField (RuleOf no_all w ys) n (closed_field f) (closed_field g))
    field_step (in_child r) g h = let k = place_step r h in record { names = k.names; after = k.after; step = in_one k.step }
    field_step (in_children r) g h = let k = trees_step r h in record { names = k.names; after = k.after; step = in_many k.step }
    field_step (within r) g h = absurd (cc g)
    field_step (acts_on_list ts us r) g h = absurd (cc g)

    trees_step : {n : Need} {s' : Ledger} {ts us : OpenTrees} → TreesStep (CoreRule no_all) n (ledger w p) ts s' us → all_in_trees unlisted (closed_trees ts) ≡ true → Takes w p s' (λ ys. OneNode (RuleOf no_all w ys) n (closed_trees ts) (closed_trees us))
    trees_step (in_head {t = t} {ts = ts} r) h =
        let k = place_step r (and_left (all_nodes unlisted (closed t)) (all_in_trees unlisted (closed_trees ts)) h) in
        record { names = k.names; after = k.after; step = first_node k.step }
    trees_step (in_tail {t = t} {ts = ts} r) h =
        let k = trees_step r (and_right (all_nodes unlisted (closed t)) (all_in_trees unlisted (closed_trees ts)) h) in
        record { names = k.names; after = k.after; step = later_node k.step }

childless_first : (t : Tree) (ts : Trees) → childless (t before ts) ≡ true → childless (t before empty) ≡ true
childless_first (node k l fs) ts h = and_from (is_done fs) true (and_left (is_done fs) (childless ts) h) refl

later_childless : (t : Tree) (ts : Trees) → childless (t before ts) ≡ true → childless ts ≡ true
later_childless (node k l fs) ts h = and_right (is_done fs) (childless ts) h

alone_parts : (t : Tree) → childless (t before empty) ≡ true → has_no_fields (fields_of t) ≡ true
alone_parts (node k l done) h = refl
alone_parts (node k l (f then fs)) h = absurd (cc h)

-- a node without parts takes no step
module _ (no_all : Bool) where
  none_in_fields : {c : ℕ → Need} {s s' : Ledger} {fs gs : OpenFields} → FieldsStep (CoreRule no_all) c s fs s' gs → is_done (closed_fields fs) ≡ true → ⊥
  none_in_fields (in_first r) h = absurd (cc h)
  none_in_fields (in_later r) h = absurd (cc h)

  row_parts : (w : Whole) (p : Pending) (n : Need) (s' : Ledger) (t u : Tree) → CoreRule no_all n (ledger w p) (at_node t) s' (at_node u) → has_no_fields (fields_of t) ≡ false
  row_parts w p n s' t u r = (row_kind no_all w (node_takes no_all w p n s' t u r).step).parts

  none_acts : {n : Need} (s s' : Ledger) (t u : Tree) → CoreRule no_all n s (at_node t) s' (at_node u) → childless (t before empty) ≡ true → ⊥
  none_acts {n} (ledger w p) s' t u r h = absurd (cc (row_parts w p n s' t u r, alone_parts t h))

  none_alone : {n : Need} {s s' : Ledger} {o u : Open} → Step (CoreRule no_all) n s o s' u → childless (closed o before empty) ≡ true → ⊥
  none_alone (acts {s = s} {s' = s'} t u r) h = none_acts s s' t u r (rw (closed-opened t) at h)
  none_alone (inside {fs = fs} r) h = none_in_fields r (and_left (is_done (closed_fields fs)) true h)

  none_among : {n : Need} {s s' : Ledger} {ts us : OpenTrees} → TreesStep (CoreRule no_all) n s ts s' us → childless (closed_trees ts) ≡ true → ⊥
  none_among (in_head {t = t} {ts = ts} r) h = none_alone r (childless_first (closed t) (closed_trees ts) h)
  none_among (in_tail {t = t} {ts = ts} r) h = none_among r (later_childless (closed t) (closed_trees ts) h)

-- WHAT A STEP KEEPS

-- a step keeps which fields are statement lists
same_lists : {R : Need → Tree → Tree → Type 0} {c : ℕ → Need} {fs gs : Fields} → OneField R c fs gs → no_list fs ≡ true → no_list gs ≡ true
same_lists (first_field (in_one r)) h = h
same_lists (first_field (in_many r)) h = h
same_lists (first_field (in_statements r)) h = h
same_lists (later_field {f = f} {fs = fs} {gs = gs} r) h = and_from (is_no_list f) (no_list gs) (and_left (is_no_list f) (no_list fs) h) (same_lists r (and_right (is_no_list f) (no_list fs) h))

still_unlisted : (no_all : Bool) (w : Whole) (ys : List Text) {n : Need} {ts us : Trees} → OneNode (RuleOf no_all w ys) n ts us → all_in_trees unlisted ts ≡ true → all_in_trees unlisted us ≡ true
still_unlisted no_all w ys = trees_all unlisted (RuleOf no_all w ys) (λ k l c fs gs r h. same_lists r h) (λ n a b r h. row_unlisted no_all w r h)

-- ONE STEP OF A PROGRAM

-- what is pending for the program's own list
abbrev fields_pending : OpenFields → Pending
fields_pending (ds and list p body and fs) = p
fields_pending _ = nothing_pending

abbrev pub own_pending : Open → Pending
own_pending (open_node k l fs) = fields_pending fs

abbrev written_fields : Pending → Fields → Fields
written_fields p (ds then (statements body then fs)) = ds then (statements (written p body) then fs)
written_fields p fs = fs

-- the program with what is pending written
abbrev pub written_in : Pending → Tree → Tree
written_in p (node k l fs) = node k l (written_fields p fs)

-- A step of a program: one of a row at a place of its tree, or its declarators are written.
pub data ProgramStep (no_all : Bool) (w : Whole) (o : Open) (s' : Ledger) (u : Open) : Type 0 where
  replaced : (ys : List Text) → OnePlace (RuleOf no_all w ys) all_of_it (closed o) (closed u) → has_one_list (closed u) ≡ true → whole_in s' ≡ with_names ys w → own_pending u ≡ with_vars ys (own_pending o) → ProgramStep no_all w o s' u
  wrote : closed u ≡ written_in (own_pending o) (closed o) → whole_in s' ≡ w → own_pending u ≡ nothing_pending → ProgramStep no_all w o s' u

-- no row acts on a program
program_kind : (t : Tree) → has_one_list t ≡ true → is_row_kind (kind_of t) ≡ false
program_kind (node Program l fs) h = refl
program_kind (node _ l fs) h = absurd (cc h)

module _ (no_all : Bool) (w : Whole) (p : Pending) where
  last_step : {c : ℕ → Need} {s' : Ledger} {k : AstType} {l : Label} {d : OpenField} {fs gs : OpenFields} → ((ys : List Text) → OneField (RuleOf no_all w ys) c (closed_fields fs) (closed_fields gs) → OnePlace (RuleOf no_all w ys) all_of_it (node k l (closed_field d then closed_fields fs)) (node k l (closed_field d then closed_fields gs))) →
      is_program_kind k ≡ true → is_childless (closed_field d) ≡ true → FieldsStep (CoreRule no_all) c (ledger w p) fs s' gs → last_unlisted (closed_fields fs) ≡ true → ProgramStep no_all w (open_node k l (d and fs)) s' (open_node k l (d and gs))
  last_step {k = k} {d = d} out e g (in_first {fs = fs} (within {p = o} {ts = ts} {us = us} r)) h =
      let body = and_left (all_in_trees unlisted (closed_trees ts)) (is_done (closed_fields fs)) h in
      let found = trees_step no_all w o r body in
      let lists = and_from (all_in_trees unlisted (closed_trees us)) (is_done (closed_fields fs)) (still_unlisted no_all w found.names found.step body) (and_right (all_in_trees unlisted (closed_trees ts)) (is_done (closed_fields fs)) h) in
      replaced found.names (out found.names (first_field (in_statements found.step))) (and_from (is_program_kind k) (is_childless (closed_field d) && (all_in_trees unlisted (closed_trees us) && is_done (closed_fields fs))) e (and_from (is_childless (closed_field d)) (all_in_trees unlisted (closed_trees us) && is_done (closed_fields fs)) g lists)) (ap whole_in found.after) (ap pending_in found.after)
  last_step out e g (in_first (acts_on_list ts us (inl writes))) h = wrote (rw (closed-opened-trees ts, closed-opened-trees (written _ ts)) refl) refl refl
  last_step out e g (in_first (acts_on_list ts us (inr (inl r)))) h = elim r [ ]
  last_step out e g (in_first (acts_on_list ts us (inr (inr (inl (inl r)))))) h = elim r [ ]
  last_step out e g (in_first (acts_on_list ts us (inr (inr (inl (inr r)))))) h = elim r [ ]
  last_step out e g (in_first (acts_on_list ts us (inr (inr (inr r))))) h = elim r [ ]
  last_step out e g (in_first (in_child r)) h = absurd (cc h)
  last_step out e g (in_first (in_children r)) h = absurd (cc h)
  last_step out e g (in_later {f = f} r) h = absurd (none_in_fields no_all r (and_right (is_unlisted (closed_field f)) (is_done (closed_fields _)) h))

  parts_step : {s' : Ledger} {k : AstType} {l : Label} {c : ℕ → Need} {fs gs : OpenFields} → ((ys : List Text) → OneField (RuleOf no_all w ys) c (closed_fields fs) (closed_fields gs) → OnePlace (RuleOf no_all w ys) all_of_it (node k l (closed_fields fs)) (node k l (closed_fields gs))) →
      is_program_kind k ≡ true → FieldsStep (CoreRule no_all) c (ledger w p) fs s' gs → one_list (closed_fields fs) ≡ true → ProgramStep no_all w (open_node k l fs) s' (open_node k l gs)
  parts_step out e (in_first {fs = fs} (in_children {ts = ts} r)) h = absurd (none_among no_all r (and_left (childless (closed_trees ts)) (last_unlisted (closed_fields fs)) h))
  parts_step out e (in_first (in_child r)) h = absurd (cc h)
  parts_step out e (in_first (within r)) h = absurd (cc h)
  parts_step out e (in_first (acts_on_list ts us r)) h = absurd (cc h)
  parts_step out e (in_later {f = f} {fs = fs} r) h = last_step (λ ys k. out ys (later_field k)) e (and_left (is_childless (closed_field f)) (last_unlisted (closed_fields fs)) h) r (and_right (is_childless (closed_field f)) (last_unlisted (closed_fields fs)) h)

  pub program_step : {s' : Ledger} {o u : Open} → Step (CoreRule no_all) all_of_it (ledger w p) o s' u → has_one_list (closed o) ≡ true → ProgramStep no_all w o s' u
  program_step (acts {n = n} {s' = s'} t u r) h = absurd (cc ((row_kind no_all w (node_takes no_all w p n s' t u r).step).acted, program_kind t (rw (closed-opened t) at h)))
  program_step (inside {k = k} {fs = fs} r) h = parts_step (λ ys q. below q) (and_left (is_program_kind k) (one_list (closed_fields fs)) h) r (and_right (is_program_kind k) (one_list (closed_fields fs)) h)
