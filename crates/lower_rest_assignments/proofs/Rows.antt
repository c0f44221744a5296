-- An assignment that was opened, and the sequence that is made of it, as a row.
use Rattle.std.proofs.Common.{◌≡◌, ◌∙◌, ◌≤◌, ◌<◌, ◌-◌, ◌^◌, ℕ, ◌+◌, List, [], ◌∷◌, ◌++◌, length, map, refl, sym, ap, subst, arith, Option, Some, codes}
use Rattle.std.proofs.lemmas.Bool.{and_parts}
use Rattle.std.proofs.lemmas.List.{map-append}
use Rattle.std.proofs.lemmas.Slice.Eq.{bytes_eq-Decides}
use Rattle.std.specs.Prelude.{Bool, true, bytes_eq, if◌then◌else◌, is_some}
use Rattle.es_tree.proofs.NodeForm.{has_form-node, node_form}
use Rattle.es_tree.specs.Bare.{bare_label}
use Rattle.es_tree.specs.Constructs.{any_kind, is_rest}
use Rattle.es_tree.specs.Fresh.{node_base}
use Rattle.es_tree.specs.HasForm.{has_form}
use Rattle.es_tree.specs.Heads.{head_of, label}
use Rattle.es_tree.specs.Tree.{Tree, node, Label, done, ◌then◌, one, many, Trees, empty, ◌before◌, kind_of, tree_size, trees, trees_size}
use Rattle.es_tree.specs.Words.{Text, assignment_operator_text}
use Rattle.es_tree.specs.declared.ast_type.AstType.TheVariants.{AssignmentExpression, ObjectTarget, SequenceExpression, TargetProperty, TargetRest}
use Rattle.es_tree.specs.declared.kind.Kind.TheVariants.{AssignmentExpression as k-AssignmentExpression, SequenceExpression as k-SequenceExpression}
use Rattle.es_tree.specs.declared.table.Sort.{Sort}
use Rattle.es_tree.specs.declared.table.Sort.TheVariants.{Expression as s-Expression}
use Rattle.es_expressions.specs.OperationsPlain.{plain_assignment_expression, plain_sequence_expression}
use Rattle.es_expressions.specs.declared.operations.AssignmentExpression.{AssignmentExpression as OpenAssignment}
use Rattle.es_expressions.specs.declared.operations.SequenceExpression.{SequenceExpression as OpenSequence}
use Rattle.es_scope.specs.Contexts.{around_of}
use Rattle.es_scope.specs.declared.context.TraverseCtx.{TraverseCtx}
use Rattle.es_semantic.specs.RolesOf.{reads}
use Rattle.es_resolution.specs.Declarations.{Bound}
use Rattle.es_resolution.specs.Seen.{seen, seen_among}
use Rattle.es_runs.proofs.OptionalChainingWeights.{tests_size-append}
use Rattle.es_steps.specs.Duplication.{IsNext}
use Rattle.es_steps.specs.Nodes.{assign_node, identifier, placed, sequence_node}
use Rattle.es_steps.specs.Patterns.{IsSilent}
use Rattle.es_steps.specs.RestAssignments.{RestAssignmentRule, TakesTarget, is_unused, pattern_assigned, value_after}
use Rattle.es_steps.specs.RestAssignments.RestAssignmentRule.{assigns}
use Rattle.es_steps.specs.Open.{with_vars}
use Rattle.es_steps.specs.Rules.{with_made}
use Rattle.es_steps.specs.Steps.{Whole}
use Rattle.es_steps.proofs.RestParts.{pattern-rest}
use Rattle.es_changes.proofs.Expressions.{law_expression_proof}
use Rattle.es_changes.specs.Changes.{HasRoom}
use Rattle.es_changes.specs.Moments.{Moment, whole_at}
use Rattle.es_conditions.specs.CoreConditions.{is_free}
use Rattle.es_traverse.specs.Laws.{Seen, is_construct}
use Rattle.es_traverse.specs.Loads.{load, members_allowance, trees_load}
use Rattle.lower_temporaries.specs.Declarators.{bound_as}
use Rattle.lower_temporaries.specs.SeenTrees.{no_bindings}
use Rattle.lower_temporaries.specs.Takings.{ReadsMore, moment_of}
use Rattle.lower_temporaries.specs.declared.state.TransformState.{TransformState}
use Rattle.lower_temporaries.proofs.Loads.{trees_load-append}
use Rattle.lower_temporaries.proofs.Pairs.{with_top-there}
use Rattle.lower_temporaries.proofs.SeenLaws.{base-seen, load-seen, seen-trees, size-seen}
use Rattle.lower_temporaries.proofs.Takings.{reads-then, takes-reads, takes-then}
use Rattle.lower_rest_assignments.specs.Assignments.{are_members, is_lowerable_assignment, is_lowerable_pattern, is_property}
use Rattle.lower_rest_assignments.specs.Groups.{AddsPattern}
use Rattle.lower_rest_assignments.specs.Rows.{AddsValue, Lowers}
use Rattle.lower_rest_assignments.specs.Stored.{Stores}
use Rattle.lower_rest_assignments.specs.Unused.{is_unused as is_unused_at}
use Rattle.lower_rest_assignments.specs.declared.values.Stored.{Stored}
use Rattle.lower_rest_assignments.proofs.Opened.{list-of}
use Rattle.lower_rest_assignments.proofs.Places.{alike-unused}
use Rattle.lower_rest_assignments.proofs.Properties.{load-told, size-told}
use Rattle.lower_rest_assignments.proofs.Unbound.{rest-unbound}

-- THE LOAD OF A PATTERN, for its rest

record HasRest (ts : Trees) : Type 0 where
  rest : any_kind is_rest ts ≡ true
  allowed : 46 ≤ members_allowance ts

members-rest : (ts : Trees) → are_members ts ≡ true → HasRest ts
members-rest empty h = absurd (cc h)
members-rest (node TargetRest l fs before empty) h = record { rest = refl; allowed = omega arith }
members-rest (node _ l fs before empty) h = absurd (cc h)
members-rest (node TargetProperty l fs before (u before us)) h = let below = members-rest (u before us) (and_parts (is_property (node TargetProperty l fs)) (are_members (u before us)) h).1 in record { rest = below.rest; allowed = omega (arith, below.allowed) }
members-rest (node _ l fs before (u before us)) h = absurd (cc h)

pub pattern-heavy : (p : Tree) → is_lowerable_pattern p ≡ true → 47 ≤ load p
pattern-heavy (node ObjectTarget l fs) h =
    let list = list-of are_members fs h in
    let rest = members-rest list.list list.holds in
    let allowed : (if any_kind is_rest list.list then members_allowance list.list else 0) ≡ members_allowance list.list = ap (λ (b : Bool). if b then members_allowance list.list else 0) rest.rest in
    let heavy = ap (λ gs. load (node ObjectTarget l gs)) list.are in
    omega (arith, heavy, allowed, rest.allowed)
pattern-heavy (node _ l fs) h = absurd (cc h)

-- AN ASSIGNMENT, opened

module _ (e : OpenAssignment) (t : Tree) (opened : plain_assignment_expression e ≡ t) (lowerable : is_construct is_lowerable_assignment t ≡ true) where
  parts : (bytes_eq (assignment_operator_text e.operator) (codes "=") ≡ true) × (is_lowerable_pattern e.left ≡ true)
  parts = and_parts (bytes_eq (assignment_operator_text e.operator) (codes "=")) (is_lowerable_pattern e.left) (ap (is_construct is_lowerable_assignment) opened ∙ lowerable)

  pub left-lowerable : is_lowerable_pattern e.left ≡ true
  left-lowerable = parts.1

  text : assignment_operator_text e.operator ≡ codes "="
  text = (bytes_eq-Decides (assignment_operator_text e.operator) (codes "=")).0 parts.0

  assignment-load : 1 + load e.left + load e.right ≤ load t
  assignment-load = omega (arith, ap load opened)

  assignment-size : tree_size t ≡ 1 + tree_size e.left + tree_size e.right
  assignment-size = sym (ap tree_size opened) ∙ omega arith

  -- ROOM for what comes

  module _ (old : TraverseCtx TransformState) (room : HasRoom (moment_of old) (load t)) where
    pub store-room : old.ast.next + 4 < 2 ^ 32 - 1
    store-room = omega (arith, room, assignment-load, pattern-heavy e.left left-lowerable)

    module _ (stored : TraverseCtx TransformState) (st : Stored) (stores : Stores old stored e.right st) where
      pub pattern-there : 0 < length old.state.var_declarations → 0 < length stored.state.var_declarations
      pattern-there there = with_top-there (with_vars (bound_as st.name ∷ [])) old.state.var_declarations stored.state.var_declarations stores.takes.lists_are there

      pub pattern-room : stored.ast.next + load e.left < 2 ^ 32 + 12
      pattern-room = omega (arith, room, assignment-load, stores.takes.next_is)

      module _ (s : Bound) (taken : TraverseCtx TransformState) (first all : List Tree) (a : AddsPattern s stored taken e.left first all) where
        pub value-room : taken.ast.next + 1 ≤ 2 ^ 32 - 1
        value-room = omega (arith, room, assignment-load, stores.takes.next_is, a.takes.next_is, a.lighter)

        pub sequence-room : (valued : TraverseCtx TransformState) (unused : Bool) (more : List Tree) → AddsValue s unused taken valued all more → valued.ast.next < 2 ^ 32 - 1
        sequence-room valued unused more v = omega (arith, room, assignment-load, stores.takes.next_is, a.takes.next_is, a.lighter, ap (λ (m : Moment). m.next) v.reads.moment_is, v.few)

  -- THE ROW

  module _ (old stored taken valued new : TraverseCtx TransformState) (st : Stored) (q : OpenSequence) (unused : Bool) (first all : List Tree) (stores : Stores old stored e.right st) (a : AddsPattern (bound_as st.name) stored taken e.left first all) (v : AddsValue (bound_as st.name) unused taken valued all q.expressions.items) (begins : first ≡ st.assignment ∷ []) where
    abbrev x : Bound
    x = bound_as st.name

    items : q.expressions.items ≡ st.assignment ∷ a.added ++ v.added
    items = v.are ∙ ap (λ (ts : List Tree). ts ++ v.added) (a.are ∙ ap (λ (ts : List Tree). ts ++ a.added) begins)

    sequence-load : load (plain_sequence_expression q) ≡ 1 + load st.assignment + trees_load (trees a.added) + trees_load (trees v.added)
    sequence-load = omega (arith, ap (λ (ts : List Tree). trees_load (trees ts)) items, trees_load-append a.added v.added)

    sequence-size : tree_size (plain_sequence_expression q) ≡ 1 + tree_size st.assignment + trees_size (trees a.added) + trees_size (trees v.added)
    sequence-size = omega (arith, ap (λ (ts : List Tree). trees_size (trees ts)) items, tests_size-append a.added v.added)

    stored-load : load st.assignment ≡ 2 + load e.right
    stored-load = let told = load-told st.assignment (λ names. assign_node (identifier x) (seen names e.right)) stores.is in omega (arith, told, load-seen no_bindings e.right)

    stored-size : tree_size st.assignment ≡ 2 + tree_size e.right
    stored-size = let told = size-told st.assignment (λ names. assign_node (identifier x) (seen names e.right)) stores.is in omega (arith, told, size-seen no_bindings e.right)

    module _ (names : ℕ → Text → Option ℕ) where
      abbrev m : Label
      m = bare_label (label e.id e.span (head_of (k-AssignmentExpression e.operator)))

      abbrev source : Tree
      source = pattern_assigned m (bare_label a.lp) (seen_among names a.ps) (seen names e.right)

      abbrev written : Tree
      written = placed m (sequence_node (assign_node (identifier x) (seen names e.right) ∷ map (seen names) a.added ++ value_after unused x))

      source-is : seen names t ≡ source
      source-is = sym (ap (seen names) opened) ∙ ap (λ p. node AssignmentExpression m (one (seen names p) then one (seen names e.right) then done)) a.is

      written-is : q.span ≡ e.span → seen names (plain_sequence_expression q) ≡ written
      written-is span =
          let first_is = stores.is names in
          let later = map-append (seen names) a.added v.added ∙ ap (λ (ts : List Tree). map (seen names) a.added ++ ts) (v.value names) in
          let all_are : map (seen names) q.expressions.items ≡ assign_node (identifier x) (seen names e.right) ∷ map (seen names) a.added ++ value_after unused x = ap (map (seen names)) items ∙ (λ i. first_is i ∷ later i) in
          (λ i. node SequenceExpression (bare_label (label q.id (span i) (head_of k-SequenceExpression))) (many (seen-trees names q.expressions.items i) then done)) ∙ ap (λ (ts : List Tree). placed m (sequence_node ts)) all_are

    silent : (s : Sort) (l lp : Label) (ps : Trees) (r : Tree) → has_form s (pattern_assigned l lp ps r) ≡ true → IsSilent reads (pattern_assigned l lp ps r)
    silent s l lp ps r h =
        let f = node_form s AssignmentExpression l (one (node ObjectTarget lp (many ps then done)) then one r then done) h in
        let formed = has_form-node s-Expression AssignmentExpression l (one (node ObjectTarget lp (many ps then done)) then one r then done) (record { sort = refl; texts = f.texts; flags = f.flags; start = f.start; stop = f.stop; agree = f.agree; children = f.children }) in
        (law_expression_proof (pattern_assigned l lp ps r) formed).declares_nothing

    sequence-lowers : is_some old.options.es2018.object_rest_spread ≡ true → unused ≡ is_unused_at (around_of old) → ReadsMore 1 valued new → q.span ≡ e.span → Seen (Lowers old new) t (plain_sequence_expression q)
    sequence-lowers on not_used reads span names =
        let ids : ℕ = (4 + a.ids) + (v.ids + 1) in
        let w = whole_at (moment_of old) in
        let taken_at : TakesTarget (identifier x) (bare_label a.lp) (with_made (x ∷ []) w) (seen_among names a.ps) a.made (map (seen names) a.added) =
        subst (λ (z : Whole). TakesTarget (identifier x) (bare_label a.lp) z (seen_among names a.ps) a.made (map (seen names) a.added)) stores.takes.whole_is (a.taken names) in
        let next : IsNext w (node_base (seen names e.right)) x = subst (λ base. IsNext w base x) (sym (base-seen names e.right)) stores.next in
        record {
          replaces = record {
            made = x ∷ a.made;
            ids = ids;
            takes = takes-reads taken new (takes-then stores.takes a.takes) (reads-then {m = v.ids} {n = 1} v.reads reads);
            row = λ n fits known.
                let here : has_form fits.sort (source names) ≡ true = subst (λ (z : Tree). has_form fits.sort z ≡ true) (source-is names) fits.formed in
                let place : is_unused n.above ≡ unused = alike-unused fits.stands.place ∙ sym not_used in
                let free = subst (λ (z : Tree). is_free old.options n z ≡ true) (source-is names) known in
                let unbound = rest-unbound old.options n (m names) (bare_label a.lp) (seen_among names a.ps) (seen names e.right) on (pattern-rest (identifier x) (bare_label a.lp) (with_made (x ∷ []) w) (seen_among names a.ps) a.made (map (seen names) a.added) taken_at) free in
                let rule : RestAssignmentRule n w (x ∷ a.made) (source names) (placed (m names) (sequence_node (assign_node (identifier x) (seen names e.right) ∷ map (seen names) a.added ++ value_after (is_unused n.above) x))) =
                assigns unbound (fits.stands.asked (codes "babelHelpers") refl) (ap (λ z. Some z ∷ []) text) (silent fits.sort (m names) (bare_label a.lp) (seen_among names a.ps) (seen names e.right) here) next taken_at in
                subst (λ (z : Tree). RestAssignmentRule n w (x ∷ a.made) z (seen names (plain_sequence_expression q))) (sym (source-is names))
                (subst (λ (z : Tree). RestAssignmentRule n w (x ∷ a.made) (source names) z) (ap (λ b. placed (m names) (sequence_node (assign_node (identifier x) (seen names e.right) ∷ map (seen names) a.added ++ value_after b x))) place ∙ sym (written-is names span)) rule);
            nodes = omega (arith, a.nodes, v.size, sequence-size, stored-size, assignment-size, size-seen names t, size-seen names (plain_sequence_expression q));
            lighter = omega (arith, a.lighter, v.load, v.few, sequence-load, stored-load, assignment-load, load-seen names t, load-seen names (plain_sequence_expression q));
          };
          made = ap kind_of (written-is names span);
        }

    pub lowered-assignment : (u : Tree) → is_some old.options.es2018.object_rest_spread ≡ true → unused ≡ is_unused_at (around_of old) → ReadsMore 1 valued new → q.span ≡ e.span → u ≡ plain_sequence_expression q → Seen (Lowers old new) t u
    lowered-assignment u on not_used reads span put = subst (λ (z : Tree). Seen (Lowers old new) t z) (sym put) (sequence-lowers on not_used reads span)
