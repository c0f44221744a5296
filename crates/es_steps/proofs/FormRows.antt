-- Rows keep form: what they make of a node that has form has form wherever the node stood, and no name that they take is empty.
use Rattle.std.proofs.Common.{◌≡◌, ◌==◌, ℕ, zero, suc, length, refl, sym, ap, subst, ◌∙◌, List, [], ◌∷◌, ◌++◌, arith}
use Rattle.std.specs.Prelude.{Bool, true, false, ◌&&◌, ◌||◌, Some, bytes_eq, codes}
use Rattle.std.proofs.lemmas.Bool.{ne_eqb}
use Rattle.es_tree.specs.Attributes.{text_entries, texts_fit}
use Rattle.es_tree.specs.Fresh.{IsFreshName}
use Rattle.es_tree.specs.HasForm.{has_form}
use Rattle.es_tree.specs.Tree.{Tree, node, done, ◌then◌, one}
use Rattle.es_tree.specs.Words.{Text}
use Rattle.es_tree.specs.declared.ast_type.AstType.TheVariants.{AssignmentExpression, Identifier, LogicalExpression, MemberExpression}
use Rattle.es_tree.specs.declared.table.Sort.{Sort}
use Rattle.es_tree.specs.declared.table.Sort.TheVariants.{AssignmentTarget as s-AssignmentTarget, Expression as s-Expression}
use Rattle.es_tree.proofs.NodeForm.{node_form}
use Rattle.es_runs.specs.Core.{without_last}
use Rattle.es_runs.specs.LogicalAssignment.{is_logical_assignment_operator}
use Rattle.es_runs.specs.Rules.{assign_node, member_node}
use Rattle.es_resolution.specs.Declarations.{Bound}
use Rattle.es_steps.specs.Duplication.{IsDuplicated, IsNext}
use Rattle.es_steps.specs.Duplication.IsDuplicated.{read_again, by_temporary}
use Rattle.es_steps.specs.NullishCoalescing.{NullishCoalescingRule}
use Rattle.es_steps.specs.NullishCoalescing.NullishCoalescingRule.{with_temporary, reading_again}
use Rattle.es_steps.specs.LogicalAssignment.{LogicalAssignmentRule}
use Rattle.es_steps.specs.LogicalAssignment.LogicalAssignmentRule.{to_name, to_static_member, to_computed_member}
use Rattle.es_steps.specs.Nodes.{made, identifier}
use Rattle.es_steps.specs.Rules.{with_made}
use Rattle.es_steps.specs.Steps.{Whole, Site}
use Rattle.es_resolution.proofs.Basics.{bytes_eq-equal}
use Rattle.es_steps.proofs.FormSorts.{form-wider, form-narrower, wide-assignment, wide-logical}
use Rattle.es_steps.proofs.FormParts.{IsFormed, IsText, formed-assignment, formed-bare, formed-logical, formed-name, formed-stored, formed-tested, no-span, span-of}
use Rattle.es_steps.proofs.FormMembers.{member-form, formed-member}

-- NAMES

abbrev pub AreTexts : List Bound → Type 0
AreTexts [] = Unit {0}
AreTexts (b ∷ bs) = IsText b × AreTexts bs

pub both-texts : (bs cs : List Bound) → AreTexts bs → AreTexts cs → AreTexts (bs ++ cs)
both-texts [] cs h k = k
both-texts (b ∷ bs) cs h k = (h.0, both-texts bs cs h.1 k)

fresh-text : (in_use : Text → Bool) (base x : Text) → IsFreshName in_use base x → (length x == 0) ≡ false
fresh-text in_use base x f = at f.number x f.name
  where
    at : (n : ℕ) (x : Text) → x ≡ Rattle.es_tree.specs.Fresh.candidate base n → (length x == 0) ≡ false
    at zero x e = ap (λ y. length y == 0) e ∙ ne_eqb (suc (length base)) 0 (λ d. omega (arith, d))
    at (suc n) x e = ap (λ y. length y == 0) e ∙ ne_eqb (length (Rattle.es_tree.specs.Fresh.candidate base (suc n))) 0 (λ d. omega (arith, d))

-- a fresh name isn't empty
pub next-text : (w : Whole) (base : Text) (b : Bound) → IsNext w base b → IsText b
next-text w base b h = fresh-text w.in_use base b.name h.fresh

-- what a row leaves
pub record RowForm (s : Sort) (bs : List Bound) (u : Tree) : Type 0 where
  pub formed : has_form s u ≡ true
  pub names : AreTexts bs

-- DUPLICATION

pub record DuplicateForm (bs : List Bound) (e1 e2 : Tree) : Type 0 where
  pub first : IsFormed e1
  pub again : IsFormed e2
  pub names : AreTexts bs

pub duplicate-form : (w : Whole) (bs : List Bound) (e e1 e2 : Tree) → IsDuplicated w bs e e1 e2 → IsFormed e → DuplicateForm bs e1 e2
duplicate-form w bs e e1 e2 (read_again h) k = record { first = k; again = k; names = tt }
duplicate-form w bs e e1 e2 (by_temporary {x = x} h i) k = let named = next-text w _ x i in record { first = formed-stored x e named k; again = formed-name x named; names = (named, tt) }

-- NULLISH COALESCING

pub two-parts : (a b : Bool) → (a && (b && true)) ≡ true → (a ≡ true) × (b ≡ true)
two-parts true true e = (refl, refl)
two-parts true false e = absurd (cc e)
two-parts false b e = absurd (cc e)

pub coalescing-form : (n : Site) (w : Whole) (bs : List Bound) (t u : Tree) (s : Sort) → NullishCoalescingRule n w bs t u → has_form s t ≡ true → RowForm s bs u
coalescing-form n w bs t u s (with_temporary {m = m} {l = l} {r = r} {x = x} texts again next) h =
    let f = node_form s LogicalExpression m (one l then one r then done) h in
    let parts = two-parts (has_form s-Expression l) (has_form s-Expression r) f.children in
    let named = next-text w _ x next in
    record { formed = form-wider s u (wide-logical s f.sort) (formed-tested m (assign_node (identifier x) l) (identifier x) r (span-of s LogicalExpression m (one l then one r then done) h) (formed-stored x l named parts.0) (formed-name x named) parts.1); names = (named, tt) }
coalescing-form n w bs t u s (reading_again {m = m} {l = l} {r = r} texts again) h =
    let f = node_form s LogicalExpression m (one l then one r then done) h in
    let parts = two-parts (has_form s-Expression l) (has_form s-Expression r) f.children in
    record { formed = form-wider s u (wide-logical s f.sort) (formed-tested m l l r (span-of s LogicalExpression m (one l then one r then done) h) parts.0 parts.0 parts.1); names = tt }

-- LOGICAL ASSIGNMENT

-- the operator without its last byte is a logical one
operator-fits : (op : Text) → is_logical_assignment_operator op ≡ true → texts_fit (text_entries LogicalExpression) (Some (without_last op) ∷ []) ≡ true
operator-fits op e = by (bytes_eq op (codes "||=")) refl e
  where
    fits-at : (x : Text) → bytes_eq op x ≡ true → texts_fit (text_entries LogicalExpression) (Some (without_last x) ∷ []) ≡ true → texts_fit (text_entries LogicalExpression) (Some (without_last op) ∷ []) ≡ true
    fits-at x d k = subst (λ (y : Text). texts_fit (text_entries LogicalExpression) (Some (without_last y) ∷ []) ≡ true) (sym (bytes_eq-equal op x d)) k

    last : (c : Bool) → bytes_eq op (codes "??=") ≡ c → c ≡ true → texts_fit (text_entries LogicalExpression) (Some (without_last op) ∷ []) ≡ true
    last true d h = fits-at (codes "??=") d refl
    last false d h = absurd (cc h)

    second : (b : Bool) → bytes_eq op (codes "&&=") ≡ b → (b || bytes_eq op (codes "??=")) ≡ true → texts_fit (text_entries LogicalExpression) (Some (without_last op) ∷ []) ≡ true
    second true d h = fits-at (codes "&&=") d refl
    second false d h = last (bytes_eq op (codes "??=")) refl h

    by : (a : Bool) → bytes_eq op (codes "||=") ≡ a → (a || bytes_eq op (codes "&&=") || bytes_eq op (codes "??=")) ≡ true → texts_fit (text_entries LogicalExpression) (Some (without_last op) ∷ []) ≡ true
    by true d h = fits-at (codes "||=") d refl
    by false d h = second (bytes_eq op (codes "&&=")) refl h

pub assignment-form : (n : Site) (w : Whole) (bs : List Bound) (t u : Tree) (s : Sort) → LogicalAssignmentRule n w bs t u → has_form s t ≡ true → RowForm s bs u
assignment-form n w bs t u s (to_name {m = m} {l = l} {t = left} {r = r} {op = op} texts logical alone target) h =
    let f = node_form s AssignmentExpression m (one left then one r then done) h in
    let parts = two-parts (has_form s-AssignmentTarget left) (has_form s-Expression r) f.children in
    let name : IsFormed (node Identifier l done) = form-narrower s-AssignmentTarget Identifier l done refl (subst (λ (x : Tree). has_form s-AssignmentTarget x ≡ true) target (formed-bare s-AssignmentTarget left refl parts.0)) in
    record { formed = form-wider s u (wide-assignment s f.sort) (formed-logical m (without_last op) (node Identifier l done) (assign_node (node Identifier l done) r) (span-of s AssignmentExpression m (one left then one r then done) h) (operator-fits op logical) name (formed-assignment (made [] []) (node Identifier l done) r (no-span [] []) name parts.1)); names = tt }
assignment-form n w bs t u s (to_static_member {m = m} {l = l} {k = k} {t = left} {r = r} {o = o} {o1 = o1} {o2 = o2} {op = op} {xs = xs} texts logical alone target flags twice) h =
    let f = node_form s AssignmentExpression m (one left then one r then done) h in
    let parts = two-parts (has_form s-AssignmentTarget left) (has_form s-Expression r) f.children in
    let bare : IsFormed (node MemberExpression l (one o then one (node Identifier k done) then done)) = form-narrower s-AssignmentTarget MemberExpression l (one o then one (node Identifier k done) then done) refl (subst (λ (x : Tree). has_form s-AssignmentTarget x ≡ true) target (formed-bare s-AssignmentTarget left refl parts.0)) in
    let member = member-form l false false o (node Identifier k done) flags bare in
    let d = duplicate-form w xs o o1 o2 twice member.object in
    let first = formed-member (made [] (false ∷ false ∷ [])) false false o1 (node Identifier k done) refl refl (no-span [] (false ∷ false ∷ [])) d.first member.property in
    let again = formed-member (made [] (false ∷ false ∷ [])) false false o2 (node Identifier k done) refl refl (no-span [] (false ∷ false ∷ [])) d.again member.property in
    record { formed = form-wider s u (wide-assignment s f.sort) (formed-logical m (without_last op) (member_node false o1 (node Identifier k done)) (assign_node (member_node false o2 (node Identifier k done)) r) (span-of s AssignmentExpression m (one left then one r then done) h) (operator-fits op logical) first (formed-assignment (made [] []) (member_node false o2 (node Identifier k done)) r (no-span [] []) again parts.1)); names = d.names }
assignment-form n w bs t u s (to_computed_member {m = m} {l = l} {t = left} {r = r} {o = o} {o1 = o1} {o2 = o2} {k = k} {k1 = k1} {k2 = k2} {op = op} {xs = xs} {ys = ys} texts logical alone target flags twice key) h =
    let f = node_form s AssignmentExpression m (one left then one r then done) h in
    let parts = two-parts (has_form s-AssignmentTarget left) (has_form s-Expression r) f.children in
    let bare : IsFormed (node MemberExpression l (one o then one k then done)) = form-narrower s-AssignmentTarget MemberExpression l (one o then one k then done) refl (subst (λ (x : Tree). has_form s-AssignmentTarget x ≡ true) target (formed-bare s-AssignmentTarget left refl parts.0)) in
    let member = member-form l true false o k flags bare in
    let d = duplicate-form w xs o o1 o2 twice member.object in
    let e = duplicate-form (with_made xs w) ys k k1 k2 key member.property in
    let first = formed-member (made [] (true ∷ false ∷ [])) true false o1 k1 refl refl (no-span [] (true ∷ false ∷ [])) d.first e.first in
    let again = formed-member (made [] (true ∷ false ∷ [])) true false o2 k2 refl refl (no-span [] (true ∷ false ∷ [])) d.again e.again in
    record { formed = form-wider s u (wide-assignment s f.sort) (formed-logical m (without_last op) (member_node true o1 k1) (assign_node (member_node true o2 k2) r) (span-of s AssignmentExpression m (one left then one r then done) h) (operator-fits op logical) first (formed-assignment (made [] []) (member_node true o2 k2) r (no-span [] []) again parts.1)); names = both-texts xs ys d.names e.names }
