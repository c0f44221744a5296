-- What form and marks say of a spine that is sound: its steps have the fields of their kinds, parentheses have what they hold alone, and
-- what stands before a step is sound.
use Rattle.std.proofs.Common.{◌≡◌, ◌∙◌, refl, sym, ap, subst, [], ◌∷◌}
use Rattle.std.proofs.lemmas.Bool.{or_parts}
use Rattle.std.specs.Prelude.{Bool, true, false, not, ◌&&◌, ◌||◌}
use Rattle.es_runs.specs.Core.{flag, flag_after}
use Rattle.es_runs.specs.OptionalChaining.{is_chain_kind, is_link, is_member}
use Rattle.es_runs.specs.Rules.{strays, strays_fields}
use Rattle.es_steps.proofs.FormChains.{chain-content, element-form}
use Rattle.es_steps.proofs.FormMembers.{call-form, member-form}
use Rattle.es_steps.proofs.FormParts.{IsFormed, and-right, formed-bare}
use Rattle.es_tree.proofs.NodeForm.{node_form}
use Rattle.es_tree.specs.HasForm.{field_form, fields_form, has_form}
use Rattle.es_tree.specs.Parens.{without_parens}
use Rattle.es_tree.specs.Tree.{Tree, node, Label, Fields, done, ◌then◌, missing, one, many, statements, Trees, kind_of}
use Rattle.es_tree.specs.declared.ast_type.AstType.{AstType}
use Rattle.es_tree.specs.declared.ast_type.AstType.TheVariants.{CallExpression, ChainExpression, MemberExpression, ParenthesizedExpression, UnaryExpression}
use Rattle.es_tree.specs.declared.table.Content.TheVariants.{Child}
use Rattle.es_tree.specs.declared.table.Entry.{Entry}
use Rattle.es_tree.specs.declared.table.Often.TheVariants.{Required}
use Rattle.es_tree.specs.declared.table.Sort.{Sort}
use Rattle.es_tree.specs.declared.table.Sort.TheVariants.{ChainElement as s-ChainElement, Expression as s-Expression, MemberProperty as s-MemberProperty}
use Rattle.lower_temporaries.specs.Shapes.{is_pair}
use Rattle.lower_temporaries.proofs.TwoFields.{two-children}
use Rattle.lower_chains.specs.Chains.{IsSoundNode}
use Rattle.lower_chains.specs.Spines.{IsPlain, IsSound, is_call_pair, is_call_step, is_content, is_member_step, is_plain_member, is_single}

-- FIELDS BY FORM

-- the one child that a node of such a kind has
single-child : (k : AstType) (l : Label) (s : Sort) (d : Entry) → d.content ≡ Child s Required → (fs : Fields) → fields_form k l (d ∷ []) fs ≡ true → is_single fs ≡ true
single-child k l s d i (one t then done) h = refl
single-child k l s d i (missing then done) h = absurd (cc (rw i at h))
single-child k l s d i (many ts then done) h = absurd (cc (rw i at h))
single-child k l s d i (statements ts then done) h = absurd (cc (rw i at h))
single-child k l s d i (f then (g then fs)) h = absurd (cc (and-right (field_form k l d.content f) false h))
single-child k l s d i done h = absurd (cc h)

pub paren-single : (s : Sort) (l : Label) (fs : Fields) → has_form s (node ParenthesizedExpression l fs) ≡ true → is_single fs ≡ true
paren-single s l fs h = single-child ParenthesizedExpression l s-Expression _ refl fs (node_form s ParenthesizedExpression l fs h).children

pub unary-single : (s : Sort) (l : Label) (fs : Fields) → has_form s (node UnaryExpression l fs) ≡ true → is_single fs ≡ true
unary-single s l fs h = single-child UnaryExpression l s-Expression _ refl fs (node_form s UnaryExpression l fs h).children

pub chain-single : (s : Sort) (l : Label) (fs : Fields) → has_form s (node ChainExpression l fs) ≡ true → is_single fs ≡ true
chain-single s l fs h = single-child ChainExpression l s-ChainElement _ refl fs (node_form s ChainExpression l fs h).children

pub member-pair : (s : Sort) (l : Label) (fs : Fields) → has_form s (node MemberExpression l fs) ≡ true → is_pair fs ≡ true
member-pair s l fs h = ap is_pair (two-children MemberExpression l s-Expression s-MemberProperty _ _ refl refl fs (node_form s MemberExpression l fs h).children).fields_are

pub call-pair : (s : Sort) (l : Label) (fs : Fields) → has_form s (node CallExpression l fs) ≡ true → is_call_pair fs ≡ true
call-pair s l (one f then (many ts then done)) h = refl
call-pair s l (one f then (many ts then (g then fs))) h =
    let n = node_form s CallExpression l (one f then (many ts then (g then fs))) h in
    absurd (cc (and-right _ false (and-right (has_form s-Expression f) _ n.children)))
call-pair s l (one f then done) h = absurd (cc (and-right (has_form s-Expression f) false (node_form s CallExpression l (one f then done) h).children))
call-pair s l (one f then (missing then fs)) h = absurd (cc (and-right (has_form s-Expression f) false (node_form s CallExpression l (one f then (missing then fs)) h).children))
call-pair s l (one f then (one t then fs)) h = absurd (cc (and-right (has_form s-Expression f) false (node_form s CallExpression l (one f then (one t then fs)) h).children))
call-pair s l (one f then (statements ts then fs)) h = absurd (cc (and-right (has_form s-Expression f) false (node_form s CallExpression l (one f then (statements ts then fs)) h).children))
call-pair s l done h = absurd (cc (node_form s CallExpression l done h).children)
call-pair s l (missing then fs) h = absurd (cc (node_form s CallExpression l (missing then fs) h).children)
call-pair s l (many ts then fs) h = absurd (cc (node_form s CallExpression l (many ts then fs) h).children)
call-pair s l (statements ts then fs) h = absurd (cc (node_form s CallExpression l (statements ts then fs) h).children)

-- no step of a spine stands where the code finds none
pub formed-base : (t : Tree) → IsFormed t → is_member_step t ≡ false → is_call_step t ≡ false → is_link t ≡ false
formed-base (node MemberExpression l fs) h m c = absurd (cc (sym (member-pair s-Expression l fs h) ∙ m))
formed-base (node CallExpression l fs) h m c = absurd (cc (sym (call-pair s-Expression l fs h) ∙ c))
formed-base (node _ l fs) h m c = refl

-- a chain has a content
pub formed-content : (t : Tree) → IsFormed t → is_content t ≡ false → is_chain_kind (kind_of t) ≡ false
formed-content (node ChainExpression l fs) h e = absurd (cc (sym (chain-single s-Expression l fs h) ∙ e))
formed-content (node _ l fs) h e = refl

-- MARKS

-- below parentheses
pub bare-tidy : (t : Tree) → strays false t ≡ false → strays false (without_parens t) ≡ false
bare-tidy (node ParenthesizedExpression l (one t then fs)) h = bare-tidy t (or_parts (strays false t) (strays_fields false fs) h).0
bare-tidy (node ParenthesizedExpression l done) h = h
bare-tidy (node ParenthesizedExpression l (missing then fs)) h = h
bare-tidy (node ParenthesizedExpression l (many ts then fs)) h = h
bare-tidy (node ParenthesizedExpression l (statements ts then fs)) h = h
bare-tidy (node _ l fs) h = h

-- what is no step of a spine is as tidy on a spine as outside
pub base-tidy : (t : Tree) → is_link t ≡ false → strays true t ≡ false → strays false t ≡ false
base-tidy (node MemberExpression l fs) e h = absurd (cc e)
base-tidy (node CallExpression l fs) e h = absurd (cc e)
base-tidy (node _ l fs) e h = h

plain-at : (a b : Bool) → (a || b) ≡ false → not a ≡ true
plain-at true b h = absurd (cc h)
plain-at false b h = refl

marked-none : (a b : Bool) → ((a && true) || b) ≡ false → a ≡ false
marked-none true b h = absurd (cc h)
marked-none false b h = refl

-- a member that stands on no spine has no mark
plain-member : (t : Tree) → IsFormed t → strays false t ≡ false → is_member t ≡ true → is_plain_member t ≡ true
plain-member (node MemberExpression l fs) h e m = rw (marked-none (flag_after l.flags) (strays_fields false fs) e, member-pair s-Expression l fs h) refl
plain-member (node _ l fs) h e m = absurd (cc m)

pub base-plain : (t : Tree) → is_link t ≡ false → IsSound t → IsPlain t
base-plain t e s m = plain-member (without_parens t) (formed-bare s-Expression t refl s.formed) (bare-tidy t (base-tidy t e s.tidy)) m

-- PARTS

pub object-sound : (l : Label) (computed optional : Bool) (o p : Tree) → l.flags ≡ computed ∷ optional ∷ [] → IsSound (node MemberExpression l (one o then (one p then done))) → IsSound o
object-sound l computed optional o p flags s = record {
  formed = (member-form l computed optional o p flags s.formed).object;
  tidy = (or_parts (strays true o) (strays_fields false (one p then done)) (or_parts (flag_after l.flags && false) (strays_fields true (one o then (one p then done))) s.tidy).1).0;
}

pub callee-sound : (l : Label) (f : Tree) (ts : Trees) → IsSound (node CallExpression l (one f then (many ts then done))) → IsSound f
callee-sound l f ts s = record {
  formed = (call-form l f ts s.formed).callee;
  tidy = (or_parts (strays true f) (strays_fields false (many ts then done)) (or_parts (flag l.flags && false) (strays_fields true (one f then (many ts then done))) s.tidy).1).0;
}

-- the content of a chain
pub content-sound : (l : Label) (c : Tree) → IsSoundNode (node ChainExpression l (one c then done)) → IsSound c
content-sound l c s = record {
  formed = element-form c (chain-content l c s.sort s.formed);
  tidy = (or_parts (strays true c) false s.tidy).0;
}

-- of a chain in parentheses
pub inner-sound : (e c : Tree) (l : Label) → is_link e ≡ false → without_parens e ≡ node ChainExpression l (one c then done) → IsSound e → IsSound c
inner-sound e c l link below s = content-sound l c (record {
  sort = s-Expression;
  formed = subst IsFormed below (formed-bare s-Expression e refl s.formed);
  tidy = subst (λ (t : Tree). strays false t ≡ false) below (bare-tidy e (base-tidy e link s.tidy));
})
