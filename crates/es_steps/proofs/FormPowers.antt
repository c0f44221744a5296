-- The rows of exponentiation keep form.
use Rattle.std.proofs.Common.{◌≡◌, ℕ, refl, ap, subst, List, [], ◌∷◌, ◌++◌}
use Rattle.std.specs.Prelude.{Bool, true, false, Option, Some, codes, if◌then◌else◌}
use Rattle.es_tree.specs.HasForm.{has_form, is_in, sort_at, trees_form}
use Rattle.es_tree.specs.Names.{first_text}
use Rattle.es_tree.specs.Parens.{without_parens}
use Rattle.es_tree.specs.Tree.{Tree, node, Label, done, ◌then◌, one, many, empty, ◌before◌, trees}
use Rattle.es_tree.specs.Words.{Text}
use Rattle.es_tree.specs.declared.ast_type.AstType.TheVariants.{AssignmentExpression, BinaryExpression, Identifier, MemberExpression, PrivateIdentifier, SequenceExpression}
use Rattle.es_tree.specs.declared.table.Sort.{Sort}
use Rattle.es_tree.specs.declared.table.Sort.TheVariants.{Argument as s-Argument, AssignmentTarget as s-AssignmentTarget, BinaryLeft as s-BinaryLeft, Expression as s-Expression}
use Rattle.es_tree.proofs.NodeForm.{node_form, has_form-node}
use Rattle.es_runs.specs.Exponentiation.{string_node}
use Rattle.es_runs.specs.Rules.{assign_node, in_place_of, member_node}
use Rattle.es_resolution.specs.Declarations.{Bound}
use Rattle.es_steps.specs.Exponentiation.{ExponentiationRule, Holds, TargetTwice, assigned_power, power_at, power_node}
use Rattle.es_steps.specs.Exponentiation.ExponentiationRule.{power, power_assignment}
use Rattle.es_steps.specs.Exponentiation.Holds.{where_it_is, in_temporary}
use Rattle.es_steps.specs.Exponentiation.TargetTwice.{bound_name, other_name, static_member, private_member, literal_key, other_key}
use Rattle.es_steps.specs.Nodes.{made, identifier, word}
use Rattle.es_steps.specs.Rules.{with_made}
use Rattle.es_steps.specs.Steps.{Whole, Site}
use Rattle.es_steps.proofs.FormSorts.{form-wider, form-narrower, wide-assignment, wide-binary}
use Rattle.es_steps.proofs.FormParts.{IsFormed, HasSpan, formed-assignment, formed-bare, formed-name, formed-stored, no-span, span-of}
use Rattle.es_steps.proofs.FormMembers.{member-form, formed-member, formed-call, formed-first}
use Rattle.es_steps.proofs.FormRows.{AreTexts, RowForm, both-texts, next-text, two-parts}

formed-pow : IsFormed (member_node false (word (codes "Math")) (word (codes "pow")))
formed-pow = refl

-- `Math.pow(l, r)`
formed-power : (m : Label) (l r : Tree) → HasSpan m → IsFormed l → IsFormed r → IsFormed (power_at m l r)
formed-power m l r s hl hr = formed-call (record (in_place_of m) { flags = false ∷ [] }) false (member_node false (word (codes "Math")) (word (codes "pow"))) (l before r before empty) refl refl (record { start = s.start; stop = s.stop }) formed-pow (rw (form-wider s-Argument l refl hl, form-wider s-Argument r refl hr) refl)

formed-string : (x : Text) → IsFormed (string_node x)
formed-string x = refl

-- expressions that all have form
abbrev pub AreFormed : List Tree → Type 0
AreFormed [] = Unit {0}
AreFormed (t ∷ ts) = IsFormed t × AreFormed ts

pub formed-both : (ts us : List Tree) → AreFormed ts → AreFormed us → AreFormed (ts ++ us)
formed-both [] us h k = k
formed-both (t ∷ ts) us h k = (h.0, formed-both ts us h.1 k)

formed-list : (ts : List Tree) → AreFormed ts → trees_form s-Expression s-Expression (trees ts) ≡ true
formed-list [] h = refl
formed-list (t ∷ ts) h = formed-first s-Expression t (trees ts) h.0 (formed-list ts h.1)

record HeldForm (xs : List Bound) (fs : List Tree) (o : Tree) : Type 0 where
  object : IsFormed o
  front : AreFormed fs
  names : AreTexts xs

held-form : (names : Option ℕ → Bool) (w : Whole) (xs : List Bound) (fs : List Tree) (o o' : Tree) → Holds names w xs fs o o' → IsFormed o → HeldForm xs fs o'
held-form names w xs fs o o' (where_it_is h) k = record { object = k; front = tt; names = tt }
held-form names w xs fs o o' (in_temporary {x = x} h i) k = let named = next-text w _ x i in record { object = formed-name x named; front = (formed-stored x o named k, tt); names = (named, tt) }

record TargetForm (xs : List Bound) (fs : List Tree) (target read : Tree) : Type 0 where
  written : IsFormed target
  again : IsFormed read
  front : AreFormed fs
  names : AreTexts xs

target-form : (w : Whole) (xs : List Bound) (fs : List Tree) (t target read : Tree) → TargetTwice w xs fs t target read → has_form s-AssignmentTarget t ≡ true → TargetForm xs fs target read
target-form w xs fs t target read (bound_name {l = l} bound) h =
    let name = form-narrower s-AssignmentTarget Identifier l done refl h in
    record { written = name; again = name; front = tt; names = tt }
target-form w xs fs t target read (other_name {l = l} {x = x} bound next) h =
    let name = form-narrower s-AssignmentTarget Identifier l done refl h in
    let named = next-text w _ x next in
    record { written = name; again = formed-name x named; front = (formed-stored x (node Identifier l done) named name, tt); names = (named, tt) }
target-form w xs fs t target read (static_member {l = l} {k = k} {o = o} {o' = o'} flags holds) h =
    let member = member-form l false false o (node Identifier k done) flags (form-narrower s-AssignmentTarget MemberExpression l (one o then one (node Identifier k done) then done) refl h) in
    let held = held-form _ w xs fs o o' holds member.object in
    let it = formed-member (made [] (true ∷ false ∷ [])) true false o' (string_node (first_text k.texts)) refl refl (no-span [] (true ∷ false ∷ [])) held.object (formed-string (first_text k.texts)) in
    record { written = it; again = it; front = held.front; names = held.names }
target-form w xs fs t target read (private_member {l = l} {k = k} {o = o} {o' = o'} flags holds) h =
    let member = member-form l false false o (node PrivateIdentifier k done) flags (form-narrower s-AssignmentTarget MemberExpression l (one o then one (node PrivateIdentifier k done) then done) refl h) in
    let held = held-form _ w xs fs o o' holds member.object in
    let it = formed-member (made [] (false ∷ false ∷ [])) false false o' (node PrivateIdentifier k done) refl refl (no-span [] (false ∷ false ∷ [])) held.object member.property in
    record { written = it; again = it; front = held.front; names = held.names }
target-form w xs fs t target read (literal_key {l = l} {o = o} {o' = o'} {k = k} flags literal holds) h =
    let member = member-form l true false o k flags (form-narrower s-AssignmentTarget MemberExpression l (one o then one k then done) refl h) in
    let held = held-form _ w xs fs o o' holds member.object in
    let it = formed-member (made [] (true ∷ false ∷ [])) true false o' k refl refl (no-span [] (true ∷ false ∷ [])) held.object member.property in
    record { written = it; again = it; front = held.front; names = held.names }
target-form w xs fs t target read (other_key {l = l} {o = o} {o' = o'} {k = k} {xs = os} {fs = gs} {y = y} flags literal holds next) h =
    let member = member-form l true false o k flags (form-narrower s-AssignmentTarget MemberExpression l (one o then one k then done) refl h) in
    let held = held-form _ w os gs o o' holds member.object in
    let named = next-text (with_made os w) _ y next in
    let it = formed-member (made [] (true ∷ false ∷ [])) true false o' (identifier y) refl refl (no-span [] (true ∷ false ∷ [])) held.object (formed-name y named) in
    record { written = it; again = it; front = formed-both gs (assign_node (identifier y) k ∷ []) held.front (formed-stored y k named member.property, tt); names = both-texts os (y ∷ []) held.names (named, tt) }

formed-assigned : (m : Label) (fs : List Tree) (target read r : Tree) → HasSpan m → AreFormed fs → IsFormed target → IsFormed read → IsFormed r → IsFormed (assigned_power m fs target read r)
formed-assigned m [] target read r s h ht hr he = formed-assignment m target (power_node read r) s ht (formed-power (made [] []) read r (no-span [] []) hr he)
formed-assigned m (f ∷ fs) target read r s h ht hr he =
    let it = formed-assignment (made [] []) target (power_node read r) (no-span [] []) ht (formed-power (made [] []) read r (no-span [] []) hr he) in
    let rest = assign_node target (power_node read r) ∷ [] in
    let more = formed-list (fs ++ rest) (formed-both fs rest h.1 (it, tt)) in
    has_form-node s-Expression SequenceExpression (in_place_of m) (many (trees ((f ∷ fs) ++ rest)) then done) (record { sort = refl; texts = refl; flags = refl; start = s.start; stop = s.stop; agree = refl; children = rw (formed-first s-Expression f (trees (fs ++ rest)) h.0 more) refl })

-- the left side of an operator other than `in`
left-sort : (m : Label) → m.texts ≡ Some (codes "**") ∷ [] → sort_at BinaryExpression m s-BinaryLeft ≡ s-Expression
left-sort m e = ap (λ ts. if is_in BinaryExpression (record m { texts = ts }) then s-BinaryLeft else s-Expression) e

pub power-form : (n : Site) (w : Whole) (bs : List Bound) (t u : Tree) (s : Sort) → ExponentiationRule n w bs t u → has_form s t ≡ true → RowForm s bs u
power-form n w bs t u s (power {m = m} {l = l} {r = r} free texts a b) h =
    let f = node_form s BinaryExpression m (one l then one r then done) h in
    let parts = two-parts (has_form (sort_at BinaryExpression m s-BinaryLeft) l) (has_form s-Expression r) f.children in
    record { formed = form-wider s u (wide-binary s f.sort) (formed-power m l r (span-of s BinaryExpression m (one l then one r then done) h) (subst (λ (z : Sort). has_form z l ≡ true) (left-sort m texts) parts.0) parts.1); names = tt }
power-form n w bs t u s (power_assignment {m = m} {t = left} {r = r} {target = target} {read = read} {xs = xs} {fs = fs} free texts b alone twice) h =
    let f = node_form s AssignmentExpression m (one left then one r then done) h in
    let parts = two-parts (has_form s-AssignmentTarget left) (has_form s-Expression r) f.children in
    let it = target-form w xs fs (without_parens left) target read twice (formed-bare s-AssignmentTarget left refl parts.0) in
    record { formed = form-wider s u (wide-assignment s f.sort) (formed-assigned m fs target read r (span-of s AssignmentExpression m (one left then one r then done) h) it.front it.written it.again parts.1); names = it.names }
