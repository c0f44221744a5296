-- The row of logical assignment keeps the conditions.
use Rattle.std.proofs.Common.{◌≡◌, ◌&&◌, ◌||◌, Bool, true, false, List, [], ◌∷◌, ◌++◌, refl, sym, ap, subst, ◌∙◌, true≢false}
use Rattle.std.specs.Prelude.{ℕ, Option, Some, bytes_eq, codes, is_some, not}
use Rattle.std.proofs.lemmas.Bool.{and_from, and_right, not_from_false}
use Rattle.es_tree.specs.Constructs.{field_at, is_logical_assignment, is_private_member, is_private_name}
use Rattle.es_tree.specs.HasForm.{has_form, same_type}
use Rattle.es_tree.specs.Names.{first_text}
use Rattle.es_tree.specs.Parens.{without_parens}
use Rattle.es_tree.specs.Tree.{Tree, node, Label, done, ◌then◌, one, fields_of, kind_of}
use Rattle.es_tree.specs.Words.{Text}
use Rattle.es_tree.specs.declared.ast_type.AstType.TheVariants.{AssignmentExpression, Identifier, LogicalExpression, MemberExpression, PrivateIdentifier}
use Rattle.es_tree.specs.declared.options.EnvOptions.{EnvOptions}
use Rattle.es_tree.specs.declared.table.Sort.{Sort}
use Rattle.es_tree.specs.declared.table.Sort.TheVariants.{AssignmentTarget as s-AssignmentTarget, Expression as s-Expression}
use Rattle.es_tree.proofs.NodeForm.{node_form}
use Rattle.es_runs.specs.Core.{without_last}
use Rattle.es_runs.specs.LogicalAssignment.{assigned_where, is_logical_assignment_operator}
use Rattle.es_runs.specs.Rules.{assign_node, in_place_of, member_node}
use Rattle.es_resolution.specs.Declarations.{Bound}
use Rattle.es_resolution.proofs.Basics.{bytes_eq-equal}
use Rattle.es_steps.specs.Duplication.{IsDuplicated}
use Rattle.es_steps.specs.Duplication.IsDuplicated.{read_again, by_temporary}
use Rattle.es_steps.specs.LogicalAssignment.{LogicalAssignmentRule}
use Rattle.es_steps.specs.LogicalAssignment.LogicalAssignmentRule.{to_name, to_static_member, to_computed_member}
use Rattle.es_steps.specs.Nodes.{made, identifier}
use Rattle.es_steps.specs.Slots.{holds, in_open_slot}
use Rattle.es_steps.specs.Steps.{Site, Whole}
use Rattle.es_tree.specs.RestTargets.{is_rest_target}
use Rattle.es_steps.specs.WrapRule.{is_member_target, is_wrapped_for, takes_for_target, takes_one}
use Rattle.es_steps.proofs.FormMembers.{member-form}
use Rattle.es_steps.proofs.FormParts.{formed-bare}
use Rattle.es_steps.proofs.FormRows.{two-parts}
use Rattle.es_steps.proofs.FormSorts.{form-narrower}
use Rattle.es_conditions.specs.CoreConditions.{is_chain_inside, is_wrapped}
use Rattle.es_conditions.specs.Laws.{Keeps}
use Rattle.es_conditions.proofs.Inward.{Known}
use Rattle.es_conditions.proofs.Marks.{first-of, second-of}
use Rattle.es_conditions.proofs.Parts.{Made, Part, made-assignment, made-identifier, made-logical, made-member, made-name, made-stored, part-bare, part-member, part-of}
use Rattle.es_conditions.proofs.Rows.{is-wrapped, known-made, scope_at, outside-slots, parts-of-assignment, wrapped-of}
use Rattle.es_conditions.proofs.Unwrapped.{either-way, logical-holds, name-holds, no-nullish, two-hold-none, unwrapped}

-- TESTS

second-none : (a b : Bool) → (a && b) ≡ false → a ≡ true → b ≡ false
second-none true b e d = e
second-none false b e d = absurd (true≢false (sym d))

-- OPERATORS: without its last byte an operator is `??` only if it was `??=`

nullish-after : (b : Bool) (op : Text) → is_logical_assignment_operator op ≡ true → (b && bytes_eq op (codes "??=")) ≡ false → (b && bytes_eq (without_last op) (codes "??")) ≡ false
nullish-after b op e none = by (bytes_eq op (codes "||=")) refl e
  where
    at : (x : Text) → bytes_eq op x ≡ true → (b && bytes_eq (without_last x) (codes "??")) ≡ false → (b && bytes_eq (without_last op) (codes "??")) ≡ false
    at x d k = subst (λ (y : Text). (b && bytes_eq (without_last y) (codes "??")) ≡ false) (sym (bytes_eq-equal op x d)) k

    last : (c : Bool) → bytes_eq op (codes "??=") ≡ c → c ≡ true → (b && bytes_eq (without_last op) (codes "??")) ≡ false
    last true d h = at (codes "??=") d (sym (ap (λ c. b && c) d) ∙ none)
    last false d h = absurd (true≢false (sym h))

    second : (a : Bool) → bytes_eq op (codes "&&=") ≡ a → (a || bytes_eq op (codes "??=")) ≡ true → (b && bytes_eq (without_last op) (codes "??")) ≡ false
    second true d h = at (codes "&&=") d (and_right b false refl)
    second false d h = last (bytes_eq op (codes "??=")) refl h

    by : (a : Bool) → bytes_eq op (codes "||=") ≡ a → ((a || bytes_eq op (codes "&&=")) || bytes_eq op (codes "??=")) ≡ true → (b && bytes_eq (without_last op) (codes "??")) ≡ false
    by true d h = at (codes "||=") d (and_right b false refl)
    by false d h = second (bytes_eq op (codes "&&=")) refl h

-- no expression is a private name
pub expression-name : (k : Tree) → has_form s-Expression k ≡ true → is_private_name (kind_of k) ≡ false
expression-name (node PrivateIdentifier l fs) h = absurd (true≢false (sym (node_form s-Expression PrivateIdentifier l fs h).sort))
expression-name (node k l fs) h = refl

module _ (o : EnvOptions) where
  -- DUPLICATION

  duplicate-parts : (s : Text → Option ℕ) (w : Whole) (bs : List Bound) (e e1 e2 : Tree) → IsDuplicated w bs e e1 e2 → Part o s e → Part o s e1 × Part o s e2
  duplicate-parts s w bs e e1 e2 (read_again h) k = (k, k)
  duplicate-parts s w bs e e1 e2 (by_temporary {x = x} h i) k = (part-of o s (assign_node (identifier x) e) (made-stored o s x e k), part-of o s (identifier x) (made-identifier o s x))

  -- `begin op (again = r)`
  made-where : (s : Text → Option ℕ) (m : Label) (op : Text) (begin again r : Tree) → Made o s begin → Made o s again → Part o s r → Made o s (assigned_where m op begin again r)
  made-where s m op begin again r hb ha hr = made-logical o s (record (in_place_of m) { texts = Some (without_last op) ∷ [] }) begin (assign_node again r) (part-of o s begin hb) (part-of o s (assign_node again r) (made-assignment o s (made (Some (codes "=") ∷ []) []) again r refl ha hr))

  row-made : (n : Site) (w : Whole) (bs : List Bound) (t u : Tree) → LogicalAssignmentRule n w bs t u → Known o n t → Made o (scope_at n) u
  row-made n w bs t u (to_name {m = m} {l = l} {t = left} {r = r} {op = op} texts logical alone target) h =
      made-where (scope_at n) m op (node Identifier l done) (node Identifier l done) r (made-name o (scope_at n) l) (made-name o (scope_at n) l) (parts-of-assignment o n m left r h).1
  row-made n w bs t u (to_static_member {m = m} {l = l} {k = k} {t = left} {r = r} {o = object} {o1 = o1} {o2 = o2} {op = op} {xs = xs} texts logical alone target flags twice) h =
      let parts = parts-of-assignment o n m left r h in
      let member = part-member o (scope_at n) l object (node Identifier k done) (subst (Part o (scope_at n)) target (part-bare o (scope_at n) left parts.0)) in
      let d = duplicate-parts (scope_at n) w xs object o1 o2 twice member.0 in
      let key = part-of o (scope_at n) (node Identifier k done) (made-name o (scope_at n) k) in
      made-where (scope_at n) m op (member_node false o1 (node Identifier k done)) (member_node false o2 (node Identifier k done)) r (made-member o (scope_at n) (made [] []) false o1 (node Identifier k done) d.0 key) (made-member o (scope_at n) (made [] []) false o2 (node Identifier k done) d.1 key) parts.1
  row-made n w bs t u (to_computed_member {m = m} {l = l} {t = left} {r = r} {o = object} {o1 = o1} {o2 = o2} {k = k} {k1 = k1} {k2 = k2} {op = op} {xs = xs} {ys = ys} texts logical alone target flags twice key) h =
      let parts = parts-of-assignment o n m left r h in
      let member = part-member o (scope_at n) l object k (subst (Part o (scope_at n)) target (part-bare o (scope_at n) left parts.0)) in
      let d = duplicate-parts (scope_at n) w xs object o1 o2 twice member.0 in
      let e = duplicate-parts (scope_at n) _ ys k k1 k2 key member.1 in
      made-where (scope_at n) m op (member_node true o1 k1) (member_node true o2 k2) r (made-member o (scope_at n) (made [] []) true o1 k1 d.0 e.0) (made-member o (scope_at n) (made [] []) true o2 k2 d.1 e.1) parts.1

  -- SLOTS: what may take a temporary is wrapped for

  module _ (on : o.es2021.logical_assignment_operators ≡ true) where
    module _ (m : Label) (t r : Tree) (op : Text) (texts : m.texts ≡ Some op ∷ []) (logical : is_logical_assignment_operator op ≡ true) where
      asked : is_private_member (kind_of (without_parens t)) (fields_of (without_parens t)) ≡ false → (o.es2021.logical_assignment_operators && is_logical_assignment AssignmentExpression m (one t then one r then done)) ≡ true
      asked private = and_from o.es2021.logical_assignment_operators (is_logical_assignment AssignmentExpression m (one t then one r then done)) on (and_from _ (not (is_private_member (kind_of (without_parens t)) (fields_of (without_parens t)))) (rw texts logical) (not_from_false (is_private_member (kind_of (without_parens t)) (fields_of (without_parens t))) private))

      pub member-holds : is_private_member (kind_of (without_parens t)) (fields_of (without_parens t)) ≡ false → is_member_target (one t) ≡ true → holds (is_wrapped_for o) (node AssignmentExpression m (one t then one r then done)) ≡ true
      member-holds private member =
          logical-holds o AssignmentExpression m (one t then one r then done) (and_from (o.es2021.logical_assignment_operators && is_logical_assignment AssignmentExpression m (one t then one r then done)) (takes_for_target o m (one t then one r then done)) (asked private) (either-way (is_member_target (one t)) _ member))

      -- an assignment to a name that nothing is wrapped for
      pub name-none : is_private_member (kind_of (without_parens t)) (fields_of (without_parens t)) ≡ false → holds (is_wrapped_for o) (node AssignmentExpression m (one t then one r then done)) ≡ false → (o.es2020.nullish_coalescing_operator && bytes_eq (without_last op) (codes "??")) ≡ false
      name-none private none =
          let fs = one t then one r then done in
          let node_none = first-of (is_wrapped_for o AssignmentExpression m fs) _ none in
          let logical_none = second-of _ ((o.es2021.logical_assignment_operators && is_logical_assignment AssignmentExpression m fs) && takes_for_target o m fs) (first-of _ ((is_some o.es2018.object_rest_spread && same_type AssignmentExpression AssignmentExpression) && is_rest_target (field_at 0 fs)) node_none) in
          let takes_none = second-none (o.es2021.logical_assignment_operators && is_logical_assignment AssignmentExpression m fs) (takes_for_target o m fs) logical_none (asked private) in
          let nullish = second-of (is_member_target (one t)) (o.es2020.nullish_coalescing_operator && bytes_eq (first_text m.texts) (codes "??=")) takes_none in
          nullish-after o.es2020.nullish_coalescing_operator op logical (sym (ap (λ ts. o.es2020.nullish_coalescing_operator && bytes_eq (first_text ts) (codes "??=")) texts) ∙ nullish)

    pub right-none : (m : Label) (t r : Tree) → holds (is_wrapped_for o) (node AssignmentExpression m (one t then one r then done)) ≡ false → holds (is_wrapped_for o) r ≡ false
    right-none m t r none = first-of (holds (is_wrapped_for o) r) false (second-of (holds (is_wrapped_for o) t) _ (second-of (is_wrapped_for o AssignmentExpression m (one t then one r then done)) _ none))

    -- `x op (x = r)` holds what r does
    pub where-holds : (m l : Label) (op : Text) (r : Tree) → (o.es2020.nullish_coalescing_operator && bytes_eq (without_last op) (codes "??")) ≡ false → holds (is_wrapped_for o) r ≡ false → holds (is_wrapped_for o) (assigned_where m op (node Identifier l done) (node Identifier l done) r) ≡ false
    where-holds m l op r nullish none =
        let x = node Identifier l done in
        let at = record (in_place_of m) { texts = Some (without_last op) ∷ [] } in
        let equals = made (Some (codes "=") ∷ []) [] in
        let assign = two-hold-none (is_wrapped_for o AssignmentExpression equals (one x then one r then done)) (holds (is_wrapped_for o) x) (holds (is_wrapped_for o) r) (unwrapped o AssignmentExpression equals (one x then one r then done) (no-nullish o) refl refl refl refl) (name-holds o l) none in
        two-hold-none (is_wrapped_for o LogicalExpression at (one x then one (assign_node x r) then done)) (holds (is_wrapped_for o) x) (holds (is_wrapped_for o) (assign_node x r)) (unwrapped o LogicalExpression at (one x then one (assign_node x r) then done) nullish refl refl refl refl) (name-holds o l) assign

    pub no-private : (k : Tree) (l : Label) (object : Tree) (t : Tree) → without_parens t ≡ node MemberExpression l (one object then one k then done) → is_private_name (kind_of k) ≡ false → is_private_member (kind_of (without_parens t)) (fields_of (without_parens t)) ≡ false
    no-private k l object t e d = ap (λ z. is_private_member (kind_of z) (fields_of z)) e ∙ d

    pub a-member : (k : Tree) (l : Label) (object : Tree) (t : Tree) → without_parens t ≡ node MemberExpression l (one object then one k then done) → is_member_target (one t) ≡ true
    a-member k l object t e = ap (λ z. same_type (kind_of z) MemberExpression) e

    -- a row that takes a temporary acts in no open slot, and what it leaves there is wrapped for nothing
    record RowSlot (n : Site) (bs : List Bound) (u : Tree) : Type 0 where
      outside : (takes_one bs && in_open_slot n.above) ≡ false
      none : in_open_slot n.above ≡ true → holds (is_wrapped_for o) u ≡ false

    closed-row : (n : Site) (bs : List Bound) (u : Tree) → in_open_slot n.above ≡ false → RowSlot n bs u
    closed-row n bs u e = record { outside = and_right (takes_one bs) (in_open_slot n.above) e; none = λ d. absurd (true≢false (sym d ∙ e)) }

    row-slot : (n : Site) (w : Whole) (bs : List Bound) (s : Sort) (t u : Tree) → LogicalAssignmentRule n w bs t u → has_form s t ≡ true → is_wrapped o n t ≡ true → RowSlot n bs u
    row-slot n w bs s t u (to_name {m = m} {l = l} {t = left} {r = r} {op = op} texts logical alone target) h e =
        let private = ap (λ z. is_private_member (kind_of z) (fields_of z)) target in
        record { outside = refl; none = λ d. let none = (wrapped-of o n (node AssignmentExpression m (one left then one r then done)) e).slot d in where-holds m l op r (name-none m left r op texts logical private none) (right-none m left r none) }
    row-slot n w bs s t u (to_static_member {m = m} {l = l} {k = k} {t = left} {r = r} {o = object} {o1 = o1} {o2 = o2} {op = op} {xs = xs} texts logical alone target flags twice) h e =
        closed-row n xs _ (outside-slots o n (node AssignmentExpression m (one left then one r then done)) e (member-holds m left r op texts logical (no-private (node Identifier k done) l object left target refl) (a-member (node Identifier k done) l object left target)))
    row-slot n w bs s t u (to_computed_member {m = m} {l = l} {t = left} {r = r} {o = object} {o1 = o1} {o2 = o2} {k = k} {k1 = k1} {k2 = k2} {op = op} {xs = xs} {ys = ys} texts logical alone target flags twice key) h e =
        let parts = two-parts (has_form s-AssignmentTarget left) (has_form s-Expression r) (node_form s AssignmentExpression m (one left then one r then done) h).children in
        let bare = form-narrower s-AssignmentTarget MemberExpression l (one object then one k then done) refl (subst (λ (x : Tree). has_form s-AssignmentTarget x ≡ true) target (formed-bare s-AssignmentTarget left refl parts.0)) in
        let property = (member-form l true false object k flags bare).property in
        closed-row n (xs ++ ys) _ (outside-slots o n (node AssignmentExpression m (one left then one r then done)) e (member-holds m left r op texts logical (no-private k l object left target (expression-name k property)) (a-member k l object left target)))

    no-chain : (n : Site) (w : Whole) (bs : List Bound) (t u : Tree) → LogicalAssignmentRule n w bs t u → is_chain_inside u ≡ false
    no-chain n w bs t u (to_name texts logical alone target) = refl
    no-chain n w bs t u (to_static_member texts logical alone target flags twice) = refl
    no-chain n w bs t u (to_computed_member texts logical alone target flags twice key) = refl

    pub assignment-keeps : Keeps (is_wrapped o) (is_wrapped o) LogicalAssignmentRule
    assignment-keeps = record {
      outside = λ n w bs s t u form e r. (row-slot n w bs s t u r form e).outside;
      known = λ n w bs s t u form e r. is-wrapped o n u (record { slot = (row-slot n w bs s t u r form e).none; known = known-made o n u (wrapped-of o n t e).known.past (row-made n w bs t u r (wrapped-of o n t e).known) (no-chain n w bs t u r) });
    }
