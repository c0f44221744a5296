-- The tests of nodes: what they say of the fields, and how they go down a spine.
use Rattle.std.proofs.Common.{◌≡◌, ◌∙◌, ◌<◌, refl, sym, ap, arith}
use Rattle.std.specs.Prelude.{Bool, true, false, not, ◌&&◌}
use Rattle.es_expressions.specs.MembersArity.{IsCallExpression, IsChainExpression, IsMemberExpression}
use Rattle.es_expressions.specs.OperationsArity.{IsParenthesizedExpression, IsUnaryExpression}
use Rattle.es_runs.specs.Core.{flag, flag_after}
use Rattle.es_tree.specs.Parens.{without_parens}
use Rattle.es_tree.specs.Tree.{Tree, node, Fields, done, ◌then◌, one, many, tree_size}
use Rattle.es_tree.specs.declared.ast_type.AstType.TheVariants.{CallExpression, ChainExpression, MemberExpression, ParenthesizedExpression, UnaryExpression}
use Rattle.lower_temporaries.specs.Parenthesized.{first_child}
use Rattle.lower_temporaries.specs.Shapes.{is_pair}
use Rattle.lower_chains.specs.Spines.{deletes_chain, has_chain, has_mark, is_call_pair, is_call_step, is_content, is_delete, is_marked_chain, is_member_step, is_optional, is_parenthesized, is_plain_call, is_plain_member, is_single, is_step}

both : (a b : Bool) → (a && b) ≡ true → (a ≡ true) × (b ≡ true)
both true true h = (refl, refl)
both true false h = absurd (cc h)
both false b h = absurd (cc h)

pub left : (a b : Bool) → (a && b) ≡ true → a ≡ true
left a b h = (both a b h).0

pub right : (a b : Bool) → (a && b) ≡ true → b ≡ true
right a b h = (both a b h).1

pub un-not : (b : Bool) → not b ≡ true → b ≡ false
un-not true h = absurd (cc h)
un-not false h = refl

-- WHAT OPENS

pub opens-member : (t : Tree) → is_member_step t ≡ true → IsMemberExpression t
opens-member (node MemberExpression l (one o then (one p then done))) h = record { kind = refl; arity = (tt, (tt, tt)) }
opens-member (node MemberExpression l _) h = absurd (cc h)
opens-member (node _ l fs) h = absurd (cc h)

pub opens-call : (t : Tree) → is_call_step t ≡ true → IsCallExpression t
opens-call (node CallExpression l (one f then (many ts then done))) h = record { kind = refl; arity = (tt, (tt, tt)) }
opens-call (node CallExpression l _) h = absurd (cc h)
opens-call (node _ l fs) h = absurd (cc h)

pub opens-chain : (t : Tree) → is_content t ≡ true → IsChainExpression t
opens-chain (node ChainExpression l (one e then done)) h = record { kind = refl; arity = (tt, tt) }
opens-chain (node ChainExpression l _) h = absurd (cc h)
opens-chain (node _ l fs) h = absurd (cc h)

pub opens-parentheses : (t : Tree) → is_parenthesized t ≡ true → IsParenthesizedExpression t
opens-parentheses (node ParenthesizedExpression l (one e then done)) h = record { kind = refl; arity = (tt, tt) }
opens-parentheses (node ParenthesizedExpression l _) h = absurd (cc h)
opens-parentheses (node _ l fs) h = absurd (cc h)

pub opens-delete : (t : Tree) → is_delete t ≡ true → IsUnaryExpression t
opens-delete (node UnaryExpression l fs) h = at fs (right _ (is_single fs) h)
  where
    at : (fs : Fields) → is_single fs ≡ true → IsUnaryExpression (node UnaryExpression l fs)
    at (one e then done) h = record { kind = refl; arity = (tt, tt) }
    at _ h = absurd (cc h)
opens-delete (node _ l fs) h = absurd (cc h)

pub member-step : (t : Tree) → is_plain_member t ≡ true → is_member_step t ≡ true
member-step (node MemberExpression l fs) h = right (not (flag_after l.flags)) (is_pair fs) h
member-step (node _ l fs) h = absurd (cc h)

pub call-step : (t : Tree) → is_plain_call t ≡ true → is_call_step t ≡ true
call-step (node CallExpression l fs) h = right (not (flag l.flags)) (is_call_pair fs) h
call-step (node _ l fs) h = absurd (cc h)

-- DOWN A SPINE

-- the first child is smaller
pub step-smaller : (t : Tree) → is_step t ≡ true → tree_size (first_child t) < tree_size t
step-smaller (node MemberExpression l (one o then (one p then done))) h = omega arith
step-smaller (node MemberExpression l _) h = absurd (cc h)
step-smaller (node CallExpression l (one f then (many ts then done))) h = omega arith
step-smaller (node CallExpression l _) h = absurd (cc h)
step-smaller (node _ l fs) h = absurd (cc h)

pub no-step : (t : Tree) → is_step t ≡ false → has_mark t ≡ false
no-step (node MemberExpression l fs) h = rw h refl
no-step (node CallExpression l fs) h = rw h refl
no-step (node _ l fs) h = refl

pub step-marked : (t : Tree) → is_step t ≡ true → is_optional t ≡ true → has_mark t ≡ true
step-marked (node MemberExpression l fs) h e = rw (h, e) refl
step-marked (node CallExpression l fs) h e = rw (h, e) refl
step-marked (node _ l fs) h e = absurd (cc h)

pub step-unmarked : (t : Tree) → is_step t ≡ true → is_optional t ≡ false → has_mark t ≡ has_mark (first_child t)
step-unmarked (node MemberExpression l (one o then (one p then done))) h e = rw e refl
step-unmarked (node MemberExpression l _) h e = absurd (cc h)
step-unmarked (node CallExpression l (one f then (many ts then done))) h e = rw e refl
step-unmarked (node CallExpression l _) h e = absurd (cc h)
step-unmarked (node _ l fs) h e = absurd (cc h)

-- INTO PARENTHESES

pub inner-smaller : (t : Tree) → is_parenthesized t ≡ true → tree_size (first_child t) < tree_size t
inner-smaller (node ParenthesizedExpression l (one e then done)) h = omega arith
inner-smaller (node ParenthesizedExpression l _) h = absurd (cc h)
inner-smaller (node _ l fs) h = absurd (cc h)

pub inner-chain : (t : Tree) → is_parenthesized t ≡ true → has_chain t ≡ has_chain (first_child t)
inner-chain (node ParenthesizedExpression l (one e then done)) h = refl
inner-chain (node ParenthesizedExpression l _) h = absurd (cc h)
inner-chain (node _ l fs) h = absurd (cc h)

pub outer-chain : (t : Tree) → is_parenthesized t ≡ false → has_chain t ≡ is_marked_chain t
outer-chain (node ParenthesizedExpression l fs) h = rw h refl
outer-chain (node _ l fs) h = refl

-- a chain in parentheses is what stands below them
pub chain-below : (t : Tree) → has_chain t ≡ true → is_marked_chain (without_parens t) ≡ true
chain-below (node ParenthesizedExpression l (one e then done)) h = chain-below e h
chain-below (node ParenthesizedExpression l _) h = absurd (cc h)
chain-below (node _ l fs) h = h

-- what `delete` deletes, without parentheses
pub deleted-chain : (t o chain : Tree) → first_child t ≡ o → chain ≡ without_parens o → deletes_chain t ≡ true → is_marked_chain chain ≡ true
deleted-chain t o chain first below h = ap is_marked_chain below ∙ chain-below o (ap has_chain (sym first) ∙ right (is_delete t) (has_chain (first_child t)) h)
