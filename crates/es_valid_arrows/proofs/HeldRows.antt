-- Rows leave nothing that a slot is wrapped for where nothing was.
use Rattle.std.proofs.Common.{◌≡◌, refl, ap, subst, ◌∙◌, List, [], ◌∷◌, ◌++◌}
use Rattle.std.specs.Prelude.{◌||◌, Bool, true, false, Option, Some, None, codes, is_some}
use Rattle.std.proofs.lemmas.Bool.{or_from, or_right}
use Rattle.es_tree.specs.Constructs.{is_private_member}
use Rattle.es_tree.specs.HasForm.{has_form}
use Rattle.es_tree.specs.Tree.{Tree, node, Label, Fields, done, ◌then◌, Field, one, many, Trees, fields_of, kind_of, trees}
use Rattle.es_tree.specs.declared.ast_type.AstType.{AstType}
use Rattle.es_tree.specs.declared.ast_type.AstType.TheVariants.{AssignmentExpression, BinaryExpression, CallExpression, ChainExpression, Identifier, LogicalExpression, MemberExpression, ObjectExpression, ObjectTarget, SpreadElement, UnaryExpression}
use Rattle.es_tree.specs.declared.options.EnvOptions.{EnvOptions}
use Rattle.es_tree.specs.declared.table.Sort.{Sort}
use Rattle.es_tree.specs.declared.table.Sort.TheVariants.{AssignmentTarget as s-AssignmentTarget, Expression as s-Expression}
use Rattle.es_tree.proofs.NodeForm.{node_form}
use Rattle.es_runs.specs.OptionalChaining.{is_chain_kind}
use Rattle.es_resolution.specs.Declarations.{Bound}
use Rattle.es_steps.specs.Exponentiation.{ExponentiationRule}
use Rattle.es_steps.specs.Exponentiation.ExponentiationRule.{power, power_assignment}
use Rattle.es_steps.specs.LogicalAssignment.{LogicalAssignmentRule}
use Rattle.es_steps.specs.LogicalAssignment.LogicalAssignmentRule.{to_computed_member, to_name, to_static_member}
use Rattle.es_steps.specs.Nodes.{call_node, identifier, made, object_node, placed}
use Rattle.es_steps.specs.NullishCoalescing.{NullishCoalescingRule}
use Rattle.es_steps.specs.NullishCoalescing.NullishCoalescingRule.{reading_again, with_temporary}
use Rattle.es_steps.specs.ObjectRest.{helper_node}
use Rattle.es_steps.specs.ObjectSpread.{Copies, SpreadRule, copied, last_copied}
use Rattle.es_steps.specs.ObjectSpread.Copies.{copies, keeps, no_more}
use Rattle.es_steps.specs.ObjectSpread.SpreadRule.{spreads}
use Rattle.es_steps.specs.OptionalChaining.{OptionalChainingRule}
use Rattle.es_steps.specs.OptionalChaining.OptionalChainingRule.{as_callee, by_tests, in_delete}
use Rattle.es_steps.specs.RestAssignments.{RestAssignmentRule}
use Rattle.es_steps.specs.RestAssignments.RestAssignmentRule.{assigns}
use Rattle.es_steps.specs.Slots.{closes, holds, holds_field, holds_fields, holds_trees}
use Rattle.es_steps.specs.Steps.{Site, Whole}
use Rattle.es_steps.specs.WrapRule.{is_wrapped_for}
use Rattle.es_steps.proofs.FormMembers.{member-form}
use Rattle.es_steps.proofs.FormParts.{formed-bare}
use Rattle.es_steps.proofs.FormRows.{two-parts}
use Rattle.es_steps.proofs.FormSorts.{form-narrower}
use Rattle.es_steps.proofs.RestParts.{pattern-rest}
use Rattle.es_conditions.proofs.Assigning.{a-member, expression-name, member-holds, name-none, no-private, right-none, where-holds}
use Rattle.es_conditions.proofs.ChainRows.{inside-holds}
use Rattle.es_conditions.proofs.Coalescing.{coalescing-holds}
use Rattle.es_conditions.proofs.Marks.{first-of, second-of}
use Rattle.es_conditions.proofs.Powers.{assignment-holds, call-holds}
use Rattle.es_conditions.proofs.Unwrapped.{chain-holds, either-way, no-nullish, rest-holds, static-holds, two-hold-none, unwrapped}

module _ (o : EnvOptions) where
  abbrev pub None_of : Tree → Type 0
  None_of t = holds (is_wrapped_for o) t ≡ false

  abbrev pub None_among : Trees → Type 0
  None_among ts = holds_trees (is_wrapped_for o) ts ≡ false

  abbrev pub None_in : Field → Type 0
  None_in f = holds_field (is_wrapped_for o) f ≡ false

  abbrev pub RowHeld : (Site → Whole → List Bound → Tree → Tree → Type 0) → Type 0
  RowHeld R = (n : Site) (w : Whole) (bs : List Bound) (s : Sort) (t u : Tree) → R n w bs t u → has_form s t ≡ true → None_of t → None_of u

  -- what is wrapped for holds it
  neither : (t : Tree) → holds (is_wrapped_for o) t ≡ true → None_of t → ⊥
  neither t e d = absurd (cc (e, d))

  pub assigning-held : o.es2021.logical_assignment_operators ≡ true → RowHeld LogicalAssignmentRule
  assigning-held on n w bs s t u (to_name {m = m} {l = l} {t = left} {r = r} {op = op} texts logical alone target) f none =
      let private = ap (λ z. is_private_member (kind_of z) (fields_of z)) target in
      where-holds o on m l op r (name-none o on m left r op texts logical private none) (right-none o on m left r none)
  assigning-held on n w bs s t u (to_static_member {m = m} {l = l} {k = k} {t = left} {r = r} {o = object} {op = op} texts logical alone target flags twice) f none =
      absurd (neither t (member-holds o on m left r op texts logical (no-private o on (node Identifier k done) l object left target refl) (a-member o on (node Identifier k done) l object left target)) none)
  assigning-held on n w bs s t u (to_computed_member {m = m} {l = l} {t = left} {r = r} {o = object} {k = k} {op = op} texts logical alone target flags twice key) f none =
      let parts = two-parts (has_form s-AssignmentTarget left) (has_form s-Expression r) (node_form s AssignmentExpression m (one left then one r then done) f).children in
      let bare = form-narrower s-AssignmentTarget MemberExpression l (one object then one k then done) refl (subst (λ (x : Tree). has_form s-AssignmentTarget x ≡ true) target (formed-bare s-AssignmentTarget left refl parts.0)) in
      let property = (member-form l true false object k flags bare).property in
      absurd (neither t (member-holds o on m left r op texts logical (no-private o on k l object left target (expression-name k property)) (a-member o on k l object left target)) none)

  pub coalescing-held : o.es2020.nullish_coalescing_operator ≡ true → RowHeld NullishCoalescingRule
  coalescing-held on n w bs s t u (with_temporary {m = m} {l = l} {r = r} texts again next) f none = absurd (neither t (coalescing-holds o on m l r texts) none)
  coalescing-held on n w bs s t u (reading_again {m = m} {l = l} {r = r} texts again) f none = absurd (neither t (coalescing-holds o on m l r texts) none)

  pub raising-held : o.es2016.exponentiation_operator ≡ true → RowHeld ExponentiationRule
  raising-held on n w bs s t u (power {m = m} {l = l} {r = r} free texts a b) f none =
      let inside = second-of (is_wrapped_for o BinaryExpression m (one l then one r then done)) _ none in
      call-holds o m l r (first-of (holds (is_wrapped_for o) l) _ inside) (first-of (holds (is_wrapped_for o) r) false (second-of (holds (is_wrapped_for o) l) _ inside))
  raising-held on n w bs s t u (power_assignment {m = m} {t = left} {r = r} free texts b alone twice) f none = absurd (neither t (assignment-holds o on m left r texts b) none)

  pub chaining-held : (no_all : Bool) → o.es2020.optional_chaining ≡ true → RowHeld (OptionalChainingRule no_all)
  chaining-held no_all on n w bs s t u (by_tests {m = m} {e = e} level walked tests) f none = absurd (neither t (chain-holds o ChainExpression m (one e then done) (rw on refl)) none)
  chaining-held no_all on n w bs s t u (as_callee {m = m} {e = e} level walked tests bound) f none = absurd (neither t (chain-holds o ChainExpression m (one e then done) (rw on refl)) none)
  chaining-held no_all on n w bs s t u (in_delete {m = m} {t = operand} texts alone chain walked tests) f none =
      absurd (neither t (or_right (is_wrapped_for o UnaryExpression m (one operand then done)) _ (either-way (holds (is_wrapped_for o) operand) false (inside-holds o on operand (ap (λ z. is_chain_kind (kind_of z)) chain)))) none)

  -- SPREADS: nested calls over the same parts

  abbrev the_helper : Tree
  the_helper = helper_node (codes "objectSpread2")

  appended-none : (ps qs : List Tree) → None_among (trees ps) → None_among (trees qs) → None_among (trees (ps ++ qs))
  appended-none [] qs h k = k
  appended-none (p ∷ ps) qs h k = or_from (holds (is_wrapped_for o) p) _ (first-of (holds (is_wrapped_for o) p) _ h) (appended-none ps qs (second-of (holds (is_wrapped_for o) p) _ h) k)

  before-none : (t : Tree) (ts : List Tree) → None_of t → None_among (trees ts) → None_among (trees (t ∷ ts))
  before-none t ts h k = or_from (holds (is_wrapped_for o) t) (holds_trees (is_wrapped_for o) (trees ts)) h k

  called-none : (ts : List Tree) → None_among (trees ts) → None_of (call_node the_helper ts)
  called-none ts h =
      let l = made [] (false ∷ []) in
      let fs = one the_helper then many (trees ts) then done in
      two-hold-none (is_wrapped_for o CallExpression l fs) (holds (is_wrapped_for o) the_helper) (holds_trees (is_wrapped_for o) (trees ts)) (unwrapped o CallExpression l fs (no-nullish o) refl refl refl refl) (static-holds o (codes "babelHelpers") (codes "objectSpread2")) h

  object-none : (ps : List Tree) → None_among (trees ps) → None_of (object_node ps)
  object-none ps h =
      or_from (is_wrapped_for o ObjectExpression (made [] []) (many (trees ps) then done)) (holds_trees (is_wrapped_for o) (trees ps) || false) (unwrapped o ObjectExpression (made [] []) (many (trees ps) then done) (no-nullish o) refl refl refl refl) (or_from (holds_trees (is_wrapped_for o) (trees ps)) false h refl)

  abbrev CopyNone : Option Tree → Type 0
  CopyNone None = Unit {0}
  CopyNone (Some c) = None_of c

  copied-none : (c : Option Tree) (ps : List Tree) (e : Tree) → CopyNone c → None_among (trees ps) → None_of e → None_of (copied the_helper c ps e)
  copied-none None ps e g h k = called-none (object_node ps ∷ e ∷ []) (before-none (object_node ps) (e ∷ []) (object-none ps h) (before-none e [] k refl))
  copied-none (Some c) [] e g h k = called-none (c ∷ e ∷ []) (before-none c (e ∷ []) g (before-none e [] k refl))
  copied-none (Some c) (p ∷ ps) e g h k =
      called-none (c ∷ object_node [] ∷ object_node (p ∷ ps) ∷ e ∷ []) (before-none c (object_node [] ∷ object_node (p ∷ ps) ∷ e ∷ []) g (before-none (object_node []) (object_node (p ∷ ps) ∷ e ∷ []) (object-none [] refl) (before-none (object_node (p ∷ ps)) (e ∷ []) (object-none (p ∷ ps) h) (before-none e [] k refl))))

  last-none : (c : Option Tree) (ps : List Tree) → CopyNone c → None_among (trees ps) → None_of (last_copied the_helper c ps)
  last-none None ps g h = object-none ps h
  last-none (Some c) [] g h = g
  last-none (Some c) (p ∷ ps) g h = called-none (c ∷ object_node [] ∷ object_node (p ∷ ps) ∷ []) (before-none c (object_node [] ∷ object_node (p ∷ ps) ∷ []) g (before-none (object_node []) (object_node (p ∷ ps) ∷ []) (object-none [] refl) (before-none (object_node (p ∷ ps)) [] (object-none (p ∷ ps) h) refl)))

  -- what a spread copies
  operand-none : (l : Label) (e : Tree) → None_of (node SpreadElement l (one e then done)) → None_of e
  operand-none l e h = first-of (holds (is_wrapped_for o) e) false (second-of (is_wrapped_for o SpreadElement l (one e then done)) _ h)

  copies-none : (c : Option Tree) (ps : List Tree) (ts : Trees) (u : Tree) → Copies the_helper c ps ts u → CopyNone c → None_among (trees ps) → None_among ts → None_of u
  copies-none c ps ts u no_more g h k = last-none c ps g h
  copies-none c ps ts u (copies {l = l} {e = e} {ts = rest} d) g h k =
      let t = node SpreadElement l (one e then done) in
      copies-none (Some (copied the_helper c ps e)) [] rest u d (copied-none c ps e g h (operand-none l e (first-of (holds (is_wrapped_for o) t) _ k))) refl (second-of (holds (is_wrapped_for o) t) _ k)
  copies-none c ps ts u (keeps {t = t} {ts = rest} other d) g h k =
      copies-none c (ps ++ t ∷ []) rest u d g (appended-none ps (t ∷ []) h (before-none t [] (first-of (holds (is_wrapped_for o) t) _ k) refl)) (second-of (holds (is_wrapped_for o) t) _ k)

  -- nothing is wrapped for because of where it stood
  same-placed : (m : Label) (k : AstType) (l : Label) (fs : Fields) → is_wrapped_for o k (record l { start = m.start; stop = m.stop }) fs ≡ is_wrapped_for o k l fs
  same-placed m AssignmentExpression l fs = refl
  same-placed m BinaryExpression l fs = refl
  same-placed m LogicalExpression l fs = refl
  same-placed m _ l fs = refl

  placed-none : (m : Label) (u : Tree) → None_of u → None_of (placed m u)
  placed-none m (node k l fs) h = ap (λ b. b || holds_fields (is_wrapped_for o) (closes k) fs) (same-placed m k l fs) ∙ h

  pub spreading-held : RowHeld SpreadRule
  spreading-held n w bs s t u (spreads {m = m} {ps = ps} {u = v} unbound used some quiet d) f none =
      placed-none m v (copies-none None [] ps v d tt refl (first-of (holds_trees (is_wrapped_for o) ps) false (second-of (is_wrapped_for o ObjectExpression m (many ps then done)) _ none)))

  -- RESTS IN ASSIGNMENTS

  -- that is wrapped for
  pub assigning_rest-held : is_some o.es2018.object_rest_spread ≡ true → RowHeld RestAssignmentRule
  assigning_rest-held on n w bs s t u (assigns {m = m} {lp = lp} {ps = ps} {e = e} {x = x} {xs = xs} {us = us} unbound used texts silent next takes) f none =
      absurd (neither t (rest-holds o AssignmentExpression m (one (node ObjectTarget lp (many ps then done)) then one e then done) (rw (on, pattern-rest (identifier x) lp _ ps xs us takes) refl)) none)
