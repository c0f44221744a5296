-- A `??` that became a conditional, as a row that replaced it.
use Rattle.std.proofs.Common.{◌≡◌, ◌∙◌, ◌==◌, ℕ, length, refl, sym, ap, subst, arith, List, [], ◌∷◌, Option, Some, codes}
use Rattle.std.specs.Prelude.{◌&&◌, Bool, true, false, bytes_eq}
use Rattle.es_tree.specs.Heads.{head_of, label}
use Rattle.es_tree.specs.Tree.{Tree, node, Label, Fields, done, ◌then◌, fields_of, kind_of, label_of, tree_size}
use Rattle.es_tree.specs.Words.{Text, logical_operator_text}
use Rattle.es_tree.specs.declared.ast_type.AstType.TheVariants.{Identifier, ThisExpression}
use Rattle.es_tree.specs.Views.{plain, plain_fields}
use Rattle.es_tree.specs.declared.ids.NodeId.{NodeId}
use Rattle.es_tree.specs.declared.ids.Span.{Span}
use Rattle.es_tree.specs.declared.kind.Kind.{Kind as NodeKind}
use Rattle.es_tree.specs.declared.node.Field.{Field as NodeField}
use Rattle.es_tree.specs.declared.operators.AssignmentOperator.TheVariants.{Assign}
use Rattle.es_tree.specs.declared.kind.Kind.TheVariants.{LogicalExpression as k-LogicalExpression, ThisExpression as k-ThisExpression}
use Rattle.es_tree.specs.declared.operators.LogicalOperator.{LogicalOperator}
use Rattle.es_tree.specs.declared.operators.LogicalOperator.TheVariants.{Or, And, Coalesce}
use Rattle.es_expressions.specs.OperationsPlain.{plain_assignment_expression, plain_logical_expression}
use Rattle.es_expressions.specs.declared.operations.LogicalExpression.{LogicalExpression as AnyLogicalExpression}
use Rattle.es_scope.specs.ContextSymbols.{steady_symbols_of}
use Rattle.es_scope.specs.declared.context.TraverseCtx.{TraverseCtx}
use Rattle.es_resolution.specs.Declarations.{Bound}
use Rattle.es_resolution.specs.Seen.{seen, seen_in}
use Rattle.es_runs.proofs.Named.{and_left}
use Rattle.es_runs.specs.Duplication.{has_no_fields}
use Rattle.es_runs.specs.Rules.{assign_node, tested}
use Rattle.es_steps.specs.Duplication.{IsNext, is_among_symbols}
use Rattle.es_steps.specs.Nodes.{identifier}
use Rattle.es_steps.specs.NullishCoalescing.{NullishCoalescingRule, reads_again, tested_by}
use Rattle.es_steps.specs.NullishCoalescing.NullishCoalescingRule.{with_temporary, reading_again}
use Rattle.es_changes.specs.Moments.{whole_at}
use Rattle.es_traverse.specs.Laws.{Seen, anything}
use Rattle.es_traverse.specs.Loads.{load}
use Rattle.lower_temporaries.specs.Replacings.{Replaces}
use Rattle.lower_temporaries.specs.Shapes.{at_span}
use Rattle.lower_temporaries.specs.SeenTrees.{IsSeenAs}
use Rattle.lower_temporaries.specs.Takings.{ReadsMore, moment_of}
use Rattle.lower_temporaries.specs.declared.state.TransformState.{TransformState}
use Rattle.lower_temporaries.proofs.ReadAgain.{no_fields, no_fields-seen}
use Rattle.lower_temporaries.proofs.SeenLaws.{base-seen}
use Rattle.lower_temporaries.proofs.Takings.{takes-none}
use Rattle.lower_nullish_coalescing.specs.Coalescings.{ByTemporary, is_lowerable_coalescing}
use Rattle.lower_nullish_coalescing.proofs.Loads.{coalesced, coalesced-load, coalesced-size, tested-load, tested-size, tested_by-load, tested_by-size}

-- a left side that is read again is one node
again-alone : (steady : ℕ → Bool) (t : Tree) → has_no_fields (fields_of t) ≡ true → reads_again steady t ≡ true → (load t ≡ 1) × (tree_size t ≡ 1)
again-alone steady (node Identifier l done) alone e = (refl, refl)
again-alone steady (node ThisExpression l done) alone e = (refl, refl)
again-alone steady (node k l (f then fs)) alone e = absurd (cc alone)
again-alone steady (node _ l done) alone e = absurd (cc e)

seen-alone : (names : ℕ → Text → Option ℕ) (t : Tree) → has_no_fields (fields_of t) ≡ true → has_no_fields (fields_of (seen names t)) ≡ true
seen-alone names (node k l done) h = refl
seen-alone names (node k l (f then fs)) h = absurd (cc h)

pub alone-size : (t : Tree) → has_no_fields (fields_of t) ≡ true → tree_size t ≡ 1
alone-size (node k l done) h = refl
alone-size (node k l (f then fs)) h = absurd (cc h)

coalesce_text : (o : LogicalOperator) → bytes_eq (logical_operator_text o) (codes "??") ≡ true → logical_operator_text o ≡ codes "??"
coalesce_text Or h = cc
coalesce_text And h = cc
coalesce_text Coalesce h = refl

-- the label of an opened logical expression, as it is seen
abbrev label_in : AnyLogicalExpression → Label
label_in e = record (label e.id e.span (head_of (k-LogicalExpression e.operator))) { id = 0; marks = [] }

abbrev IsLowerable : Tree → Type 0
IsLowerable t = is_lowerable_coalescing (kind_of t) (label_of t) (fields_of t) ≡ true

texts-in : (e : AnyLogicalExpression) → IsLowerable (plain_logical_expression e) → (label_in e).texts ≡ Some (codes "??") ∷ []
texts-in e h = ap (λ y. Some y ∷ []) (coalesce_text e.operator (and_left (bytes_eq (logical_operator_text e.operator) (codes "??")) true h))

-- WHAT IS MADE

module _ (old new : TraverseCtx TransformState) (whole made : Tree) (e : AnyLogicalExpression) (opened : plain_logical_expression e ≡ whole) (lowerable : IsLowerable whole) where
  abbrev Row : (ℕ → Text → Option ℕ) → Tree → Tree → Type 0
  Row names t u = Replaces anything NullishCoalescingRule (moment_of old) (seen names t) (moment_of new) u

  texts : (label_in e).texts ≡ Some (codes "??") ∷ []
  texts = texts-in e (subst IsLowerable (sym opened) lowerable)

  -- a `??` whose left side is read again
  pub by-reading : has_no_fields (fields_of e.left) ≡ true → ReadsMore 9 old new → ((names : ℕ → Text → Option ℕ) → reads_again (steady_symbols_of old) (seen names e.left) ≡ true) →
      ((names : ℕ → Text → Option ℕ) → seen names made ≡ tested (at_span e.span) (seen names e.left) (seen names e.left) (seen names e.right)) → Seen (λ t u. Replaces anything NullishCoalescingRule (moment_of old) t (moment_of new) u) whole made
  by-reading alone reads again wrote names =
      let m = label_in e in
      let l = seen names e.left in
      let r = seen names e.right in
      let one_node = again-alone (steady_symbols_of old) l (seen-alone names e.left alone) (again names) in
      let step : Replaces anything NullishCoalescingRule (moment_of old) (coalesced m l r) (moment_of new) (tested m l l r) = record {
        made = [];
        ids = 9;
        takes = takes-none reads;
        row = λ n f known. reading_again texts (again names);
        nodes = omega (arith, one_node.1, tested-size m l l r, coalesced-size m l r);
        lighter = omega (arith, one_node.0, tested-load m l l r, coalesced-load m l r texts);
      } in
      subst (λ v. Row names v (seen names made)) opened (subst (λ u. Row names (plain_logical_expression e) u) (sym (wrote names)) step)

  -- a `??` whose left side takes a temporary
  pub by-temporary : ((names : ℕ → Text → Option ℕ) → reads_again (steady_symbols_of old) (seen names e.left) ≡ false) → ByTemporary old new e.span e.left e.right made → Seen (λ t u. Replaces anything NullishCoalescingRule (moment_of old) t (moment_of new) u) whole made
  by-temporary again b names =
      let m = label_in e in
      let l = seen names e.left in
      let r = seen names e.right in
      let step : Replaces anything NullishCoalescingRule (moment_of old) (coalesced m l r) (moment_of new) (tested_by m b.temporary l r) = record {
        made = b.temporary ∷ [];
        ids = 13;
        takes = b.takes;
        row = λ n f known. with_temporary texts (again names) (subst (λ base. IsNext (whole_at (moment_of old)) base b.temporary) (sym (base-seen names e.left)) b.next);
        nodes = omega (arith, tested_by-size m b.temporary l r, coalesced-size m l r);
        lighter = omega (arith, tested_by-load m b.temporary l r, coalesced-load m l r texts);
      } in
      subst (λ v. Row names v (seen names made)) opened (subst (λ u. Row names (plain_logical_expression e) u) (sym (b.wrote names)) step)

-- `(x = left) !== null && x !== void 0 ? x : right` as it was made
pub wrote-by : (m : Label) (b : Bound) (id : NodeId) (target left first again : Tree) (right made : (ℕ → Text → Option ℕ) → Tree) → IsSeenAs target (identifier b) → IsSeenAs again (identifier b) →
    first ≡ plain_assignment_expression (record { id = id; span = record { start = 0; end = 0 }; operator = Assign; left = target; right = left }) →
    ((names : ℕ → Text → Option ℕ) → made names ≡ tested m (seen names first) (seen names again) (right names)) → (names : ℕ → Text → Option ℕ) → made names ≡ tested_by m b (seen names left) (right names)
wrote-by m b id target left first again right made t a f wrote names =
    let assigned : seen names first ≡ assign_node (identifier b) (seen names left) = ap (λ x. seen names x) f ∙ (λ i. assign_node (t names i) (seen names left)) in
    wrote names ∙ (λ i. tested m (assigned i) (a names i) (right names))

-- WHAT IS READ AGAIN, as the code sees it

no-fields : (names : ℕ → Text → Option ℕ) (fs : List NodeField) → has_no_fields (seen_in names (plain_fields fs)) ≡ (length fs == 0)
no-fields names fs = no_fields-seen names (plain_fields fs) ∙ no_fields fs

pub this-again : (steady : ℕ → Bool) (names : ℕ → Text → Option ℕ) (t : Tree) (id : NodeId) (span : Span) (kind : NodeKind) (fs : List NodeField) (n : ℕ) → plain id span kind (plain_fields fs) ≡ t → kind ≡ k-ThisExpression → n ≡ length fs →
    (n == 0) ≡ reads_again steady (seen names t)
this-again steady names t id span kind fs n view is count =
    ap (λ m. m == 0) count ∙ sym (no-fields names fs) ∙ sym (ap (λ k. reads_again steady (seen names (plain id span k (plain_fields fs)))) is) ∙ ap (λ x. reads_again steady (seen names x)) view

-- of an identifier, by the symbol of its own mark
pub name-again : (steady : ℕ → Bool) (names : ℕ → Text → Option ℕ) (t : Tree) (id : NodeId) (span : Span) (kind k : NodeKind) (fs : List NodeField) (n : ℕ) (symbol : Option ℕ) → plain id span kind (plain_fields fs) ≡ t →
    kind ≡ k → n ≡ length fs → is_among_symbols steady symbol ≡ true → ((gs : Fields) → reads_again steady (seen names (plain id span k gs)) ≡ (is_among_symbols steady symbol && has_no_fields (seen_in names gs))) → (n == 0) ≡ reads_again steady (seen names t)
name-again steady names t id span kind k fs n symbol view is count among said =
    ap (λ m. m == 0) count ∙ sym (no-fields names fs) ∙ sym (ap (λ b. b && has_no_fields (seen_in names (plain_fields fs))) among) ∙ sym (said (plain_fields fs)) ∙
    sym (ap (λ j. reads_again steady (seen names (plain id span j (plain_fields fs)))) is) ∙ ap (λ y. reads_again steady (seen names y)) view
