-- The rows of optional chaining keep form.
use Rattle.std.proofs.Common.{◌≡◌, refl, subst, List, [], ◌∷◌, ◌++◌}
use Rattle.std.specs.Prelude.{Bool, true, false, Option, Some, None, codes}
use Rattle.es_tree.specs.HasForm.{has_form, is_of_sort}
use Rattle.es_tree.specs.Parens.{without_parens}
use Rattle.es_tree.specs.Tree.{Tree, node, Label, done, ◌then◌, one, many, Trees, empty, ◌before◌}
use Rattle.es_tree.specs.declared.ast_type.AstType.{AstType}
use Rattle.es_tree.specs.declared.ast_type.AstType.TheVariants.{CallExpression, ChainExpression, MemberExpression, UnaryExpression}
use Rattle.es_tree.specs.declared.table.Sort.{Sort}
use Rattle.es_tree.specs.declared.table.Sort.TheVariants.{Argument as s-Argument, ChainElement as s-ChainElement, Expression as s-Expression}
use Rattle.es_tree.proofs.NodeForm.{node_form}
use Rattle.es_runs.specs.OptionalChaining.{call_at, delete_node, is_this_or_super, is_super, joined_by_or, member_at, null_checks, true_node, where_short}
use Rattle.es_runs.specs.Rules.{assign_node, binary_node, logical_node, member_node, null_node, void_zero_node}
use Rattle.es_resolution.specs.Declarations.{Bound}
use Rattle.es_steps.specs.Nodes.{made, identifier, word}
use Rattle.es_steps.specs.OptionalChaining.{BoundCallee, Called, Continued, OptionalChainingRule, Receives, Tested, Walked, Way, call_method, stored_call}
use Rattle.es_steps.specs.OptionalChaining.BoundCallee.{no_member, to_object}
use Rattle.es_steps.specs.OptionalChaining.Called.{by_first_member, by_later_member, by_value}
use Rattle.es_steps.specs.OptionalChaining.Continued.{inner_spine, same_spine}
use Rattle.es_steps.specs.OptionalChaining.OptionalChainingRule.{as_callee, by_tests, in_delete}
use Rattle.es_steps.specs.OptionalChaining.Tested.{as_name, in_holder, in_temporary}
use Rattle.es_steps.specs.OptionalChaining.Walked.{base, marked_call, marked_member, plain_call, plain_member}
use Rattle.es_steps.specs.Rules.{with_made}
use Rattle.es_steps.specs.Steps.{Whole, Site}
use Rattle.es_steps.proofs.FormSorts.{form-wider, form-narrower, wide-chain, wide-unary}
use Rattle.es_steps.proofs.FormParts.{IsFormed, HasSpan, IsText, and-left, formed-bare, formed-conditional, formed-logical, formed-name, formed-stored, no-span, span-of}
use Rattle.es_steps.proofs.FormMembers.{MemberForm, member-form, formed-member, call-form, formed-call, formed-first}
use Rattle.es_steps.proofs.FormRows.{AreTexts, RowForm, both-texts, next-text}
use Rattle.es_steps.proofs.FormPowers.{AreFormed, formed-both}

-- the name that was stored last, if there is one
abbrev pub HeldText : Option Bound → Type 0
HeldText None = Unit {0}
HeldText (Some b) = IsText b

-- how far a spine is lowered: all of it has form
pub record WayForm (w : Way) : Type 0 where
  pub tests : AreFormed w.tests
  pub current : IsFormed w.current
  pub holder : HeldText w.holder
  pub taken : AreTexts w.taken

-- TESTS

formed-binary : (e : Tree) → IsFormed e → (IsFormed (binary_node (codes "==") e null_node)) × (IsFormed (binary_node (codes "===") e null_node)) × (IsFormed (binary_node (codes "===") e void_zero_node))
formed-binary e h = (rw h refl, rw h refl, rw h refl)

formed-checks : (no_all : Bool) (e again : Tree) → IsFormed e → IsFormed again → AreFormed (null_checks no_all e again)
formed-checks true e again h k = ((formed-binary e h).0, tt)
formed-checks false e again h k = ((formed-binary e h).1, ((formed-binary again k).2, tt))

formed-joined : (t : Tree) (ts : List Tree) → IsFormed t → AreFormed ts → IsFormed (joined_by_or t ts)
formed-joined t [] h k = h
formed-joined t (u ∷ us) h k = formed-joined (logical_node (codes "||") t u) us (formed-logical (made [] []) (codes "||") t u (no-span [] []) refl h k.0) k.1

formed-short : (m : Label) (ts : List Tree) (short long : Tree) → HasSpan m → AreFormed ts → IsFormed short → IsFormed long → IsFormed (where_short m ts short long)
formed-short m [] short long s h k l = l
formed-short m (t ∷ ts) short long s h k l = formed-conditional m (joined_by_or t ts) short long s (formed-joined t ts h.0 h.1) k l

-- RECEIVERS

record ReceiverForm (xs : List Bound) (o r : Tree) : Type 0 where
  object : IsFormed o
  receiver : IsFormed r
  names : AreTexts xs

receiver-form : (to_this : Tree → Bool) (w : Whole) (holder : Option Bound) (xs : List Bound) (o o1 r : Tree) → Receives to_this w holder xs o o1 r → IsFormed o → ReceiverForm xs o1 r
receiver-form to_this w holder xs o o1 r (Receives.by_this h) k = record { object = k; receiver = refl; names = tt }
receiver-form to_this w holder xs o o1 r (Receives.by_name h e) k = record { object = k; receiver = k; names = tt }
receiver-form to_this w holder xs o o1 r (Receives.by_temporary {r = b} h e next) k = let named = next-text w _ b next in record { object = formed-stored b o named k; receiver = formed-name b named; names = (named, tt) }

-- STEPS OF A SPINE

formed-member-at : (l : Label) (computed optional : Bool) (o o1 p : Tree) → MemberForm l computed o p → IsFormed o1 → IsFormed (member_at l computed o1 p)
formed-member-at l computed optional o o1 p f h = formed-member (record l { flags = computed ∷ false ∷ [] }) computed false o1 p f.texts refl (record { start = f.span.start; stop = f.span.stop }) h f.property

formed-call-at : (l : Label) (g f : Tree) (arguments : Trees) → IsFormed (node CallExpression l (one g then many arguments then done)) → IsFormed f → IsFormed (call_at l f arguments)
formed-call-at l g f arguments h k = let c = call-form l g arguments h in formed-call (record l { flags = false ∷ [] }) false f arguments c.texts refl (record { start = c.span.start; stop = c.span.stop }) k c.arguments_form

-- `c.call(r, ..)` in the place of a call
formed-method : (l : Label) (g : Tree) (arguments : Trees) (c : Bound) (r : Tree) → IsFormed (node CallExpression l (one g then many arguments then done)) → IsText c → IsFormed r → IsFormed (call_at l (call_method (identifier c)) (r before arguments))
formed-method l g arguments c r h named k =
    let f = call-form l g arguments h in
    let method = formed-member (made [] (false ∷ false ∷ [])) false false (identifier c) (word (codes "call")) refl refl (no-span [] (false ∷ false ∷ [])) (formed-name c named) refl in
    formed-call (record l { flags = false ∷ [] }) false (call_method (identifier c)) (r before arguments) f.texts refl (record { start = f.span.start; stop = f.span.stop }) method (formed-first s-Argument r arguments (form-wider s-Argument r refl k) f.arguments_form)

tested-form : (no_all : Bool) (known : Whole) (w u : Way) → Tested no_all known w u → WayForm w → WayForm u
tested-form no_all known w u (as_name none name) h =
    let e = formed-bare s-Expression w.current refl h.current in
    record { tests = formed-checks no_all (without_parens w.current) (without_parens w.current) e e; current = e; holder = h.holder; taken = h.taken }
tested-form no_all known w u (in_holder {x = x} held) h =
    let e = formed-bare s-Expression w.current refl h.current in
    let named : IsText x = subst HeldText held h.holder in
    record { tests = formed-both w.tests _ h.tests (formed-checks no_all (assign_node (identifier x) (without_parens w.current)) (identifier x) (formed-stored x (without_parens w.current) named e) (formed-name x named)); current = formed-name x named; holder = h.holder; taken = h.taken }
tested-form no_all known w u (in_temporary {x = x} none held next) h =
    let e = formed-bare s-Expression w.current refl h.current in
    let named = next-text (with_made w.taken known) _ x next in
    record { tests = formed-both w.tests _ h.tests (formed-checks no_all (assign_node (identifier x) (without_parens w.current)) (identifier x) (formed-stored x (without_parens w.current) named e) (formed-name x named)); current = formed-name x named; holder = named; taken = both-texts w.taken (x ∷ []) h.taken (named, tt) }

-- a callee that is a member, stored with its receiver
formed-stored-call : (no_all : Bool) (l : Label) (g : Tree) (arguments : Trees) (w : Way) (names : List Bound) (c : Bound) (callee r : Tree) → IsFormed (node CallExpression l (one g then many arguments then done)) → WayForm w → AreTexts names → IsText c → IsFormed callee → IsFormed r → WayForm (stored_call no_all l arguments w names c callee r)
formed-stored-call no_all l g arguments w names c callee r call h texts named k m =
    record { tests = formed-both w.tests _ h.tests (formed-checks no_all (assign_node (identifier c) callee) (identifier c) (formed-stored c callee named k) (formed-name c named)); current = formed-method l g arguments c r call named m; holder = named; taken = both-texts w.taken names h.taken texts }

called-form : (no_all : Bool) (known : Whole) (l : Label) (g : Tree) (arguments : Trees) (w u : Way) → IsFormed (node CallExpression l (one g then many arguments then done)) → Called no_all known l arguments w u → WayForm w → WayForm u
called-form no_all known l g arguments w u call (Called.by_name none name) h =
    let e = formed-bare s-Expression w.current refl h.current in
    record { tests = formed-checks no_all (without_parens w.current) (without_parens w.current) e e; current = formed-call-at l g (without_parens w.current) arguments call e; holder = h.holder; taken = h.taken }
called-form no_all known l g arguments w u call (by_value {c = c} none member next) h =
    let e = formed-bare s-Expression w.current refl h.current in
    let named = next-text (with_made w.taken known) _ c next in
    record { tests = formed-both w.tests _ h.tests (formed-checks no_all (assign_node (identifier c) (without_parens w.current)) (identifier c) (formed-stored c (without_parens w.current) named e) (formed-name c named)); current = formed-call-at l g (identifier c) arguments call (formed-name c named); holder = named; taken = both-texts w.taken (c ∷ []) h.taken (named, tt) }
called-form no_all known l g arguments w u call (by_first_member {k = k} {computed = computed} {o = o} {o1 = o1} {p = p} {r = r} {c = c} {xs = xs} none callee flags next receives) h =
    let f = member-form k computed false o p flags (subst IsFormed callee (formed-bare s-Expression w.current refl h.current)) in
    let named = next-text (with_made w.taken known) _ c next in
    let it = receiver-form is_this_or_super _ w.holder xs o o1 r receives f.object in
    formed-stored-call no_all l g arguments w (c ∷ xs) c (member_at k computed o1 p) r call h (named, it.names) named (formed-member-at k computed false o o1 p f it.object) it.receiver
called-form no_all known l g arguments w u call (by_later_member {k = k} {computed = computed} {o = o} {o1 = o1} {p = p} {r = r} {c = c} {xs = xs} some callee flags receives next) h =
    let f = member-form k computed false o p flags (subst IsFormed callee (formed-bare s-Expression w.current refl h.current)) in
    let named = next-text (with_made xs (with_made w.taken known)) _ c next in
    let it = receiver-form is_this_or_super _ w.holder xs o o1 r receives f.object in
    formed-stored-call no_all l g arguments w (xs ++ c ∷ []) c (member_at k computed o1 p) r call h (both-texts xs (c ∷ []) it.names (named, tt)) named (formed-member-at k computed false o o1 p f it.object) it.receiver

-- what a chain holds has the form of an expression
pub chain-content : (l : Label) (c : Tree) (s : Sort) → has_form s (node ChainExpression l (one c then done)) ≡ true → has_form s-ChainElement c ≡ true
chain-content l c s h = and-left (has_form s-ChainElement c) true (node_form s ChainExpression l (one c then done) h).children

element-kind : (k : AstType) → is_of_sort s-ChainElement k ≡ true → is_of_sort s-Expression k ≡ true
element-kind MemberExpression h = refl
element-kind CallExpression h = refl
element-kind _ h = absurd (cc h)

pub element-form : (c : Tree) → has_form s-ChainElement c ≡ true → IsFormed c
element-form (node k l fs) h = form-narrower s-ChainElement k l fs (element-kind k (node_form s-ChainElement k l fs h).sort) h

mutual
  pub walked-form : (no_all : Bool) (known : Whole) (e : Tree) (w : Way) → Walked no_all known e w → IsFormed e → WayForm w
  walked-form no_all known e w (base link alone) h = record { tests = tt; current = h; holder = tt; taken = tt }
  walked-form no_all known e w (plain_member {l = l} {computed = computed} {o = o} {p = p} {w = v} flags inner) h =
      let f = member-form l computed false o p flags h in
      let it = walked-form no_all known o v inner f.object in
      record { tests = it.tests; current = formed-member-at l computed false o v.current p f it.current; holder = it.holder; taken = it.taken }
  walked-form no_all known e w (plain_call {l = l} {f = g} {arguments = arguments} {w = v} flags inner) h =
      let it = walked-form no_all known g v inner (call-form l g arguments h).callee in
      record { tests = it.tests; current = formed-call-at l g v.current arguments h it.current; holder = it.holder; taken = it.taken }
  walked-form no_all known e w (marked_member {l = l} {computed = computed} {o = o} {p = p} {w = v} {u = u} flags inner tested) h =
      let f = member-form l computed true o p flags h in
      let it = tested-form no_all known v u tested (continued-form no_all known o v inner f.object) in
      record { tests = it.tests; current = formed-member-at l computed true o u.current p f it.current; holder = it.holder; taken = it.taken }
  walked-form no_all known e w (marked_call {l = l} {f = g} {arguments = arguments} {w = v} flags inner called) h =
      called-form no_all known l g arguments v w h called (continued-form no_all known g v inner (call-form l g arguments h).callee)

  pub continued-form : (no_all : Bool) (known : Whole) (e : Tree) (w : Way) → Continued no_all known e w → IsFormed e → WayForm w
  continued-form no_all known e w (same_spine same inner) h = walked-form no_all known e w inner h
  continued-form no_all known e w (inner_spine {c = c} {l = l} link alone chain inner) h = walked-form no_all known c w inner (element-form c (chain-content l c s-Expression (subst IsFormed chain (formed-bare s-Expression e refl h))))

-- ROWS

record CalleeForm (xs : List Bound) (d : Tree) : Type 0 where
  formed : IsFormed d
  names : AreTexts xs

callee-form : (w : Whole) (holder : Option Bound) (xs : List Bound) (e d : Tree) → BoundCallee w holder xs e d → IsFormed e → CalleeForm xs d
callee-form w holder xs e d (no_member h) k = record { formed = k; names = tt }
callee-form w holder xs e d (to_object {k = k} {computed = computed} {o = o} {o1 = o1} {p = p} {r = r} {xs = ys} flags receives) h =
    let f = member-form k computed false o p flags h in
    let it = receiver-form is_super w holder ys o o1 r receives f.object in
    let callee = formed-member (made [] (false ∷ false ∷ [])) false false (member_at k computed o1 p) (word (codes "bind")) refl refl (no-span [] (false ∷ false ∷ [])) (formed-member-at k computed false o o1 p f it.object) refl in
    record { formed = formed-call (made [] (false ∷ [])) false (member_node false (member_at k computed o1 p) (word (codes "bind"))) (r before empty) refl refl (no-span [] (false ∷ [])) callee (formed-first s-Argument r empty (form-wider s-Argument r refl it.receiver) refl); names = it.names }

formed-delete : (e : Tree) → IsFormed e → IsFormed (delete_node e)
formed-delete e h = rw h refl

pub chaining-form : (no_all : Bool) (n : Site) (w : Whole) (bs : List Bound) (t u : Tree) (s : Sort) → OptionalChainingRule no_all n w bs t u → has_form s t ≡ true → RowForm s bs u
chaining-form no_all n known bs t u s (by_tests {m = m} {e = e} {w = w} takes walked tests) h =
    let f = node_form s ChainExpression m (one e then done) h in
    let it = walked-form no_all known e w walked (element-form e (chain-content m e s h)) in
    record { formed = form-wider s u (wide-chain s f.sort) (formed-short m w.tests void_zero_node w.current (span-of s ChainExpression m (one e then done) h) it.tests refl it.current); names = it.taken }
chaining-form no_all n known bs t u s (as_callee {m = m} {e = e} {d = d} {w = w} {xs = xs} callee walked tests bound) h =
    let f = node_form s ChainExpression m (one e then done) h in
    let it = walked-form no_all known e w walked (element-form e (chain-content m e s h)) in
    let by = callee-form (with_made w.taken known) w.holder xs w.current d bound it.current in
    record { formed = form-wider s u (wide-chain s f.sort) (formed-short m w.tests void_zero_node d (span-of s ChainExpression m (one e then done) h) it.tests refl by.formed); names = both-texts w.taken xs it.taken by.names }
chaining-form no_all n known bs t u s (in_delete {m = m} {l = l} {t = operand} {e = e} {w = w} texts alone chain walked tests) h =
    let f = node_form s UnaryExpression m (one operand then done) h in
    let inner = and-left (has_form s-Expression operand) true f.children in
    let it = walked-form no_all known e w walked (element-form e (chain-content l e s-Expression (subst IsFormed chain (formed-bare s-Expression operand refl inner)))) in
    record { formed = form-wider s u (wide-unary s f.sort) (formed-short m w.tests true_node (delete_node w.current) (span-of s UnaryExpression m (one operand then done) h) it.tests refl (formed-delete w.current it.current)); names = it.taken }
