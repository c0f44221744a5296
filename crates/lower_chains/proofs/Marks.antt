-- Chains that are to be lowered have marks, and so the code lowers them.
use Rattle.std.proofs.Common.{◌≡◌, ◌∙◌, refl, sym, ap, List, [], ◌∷◌}
use Rattle.std.proofs.lemmas.Bool.{or_parts}
use Rattle.std.specs.Prelude.{Bool, true, false, not, ◌&&◌, ◌||◌}
use Rattle.es_conditions.specs.CoreConditions.{is_unmarked_chain}
use Rattle.es_runs.specs.Core.{flag, flag_after}
use Rattle.es_runs.specs.OptionalChaining.{is_chain_kind}
use Rattle.es_steps.proofs.FormChains.{chain-content, element-form}
use Rattle.es_steps.proofs.FormMembers.{call-form}
use Rattle.es_steps.proofs.FormParts.{IsFormed, and-left}
use Rattle.es_tree.proofs.NodeForm.{node_form}
use Rattle.es_tree.specs.CoreStaticRules.{has_optional}
use Rattle.es_tree.specs.Names.{flag_at}
use Rattle.es_tree.specs.HasForm.{has_form, sort_at}
use Rattle.es_tree.specs.Parens.{without_parens}
use Rattle.es_tree.specs.Tree.{Tree, node, Label, done, ◌then◌, missing, one, many, statements, kind_of}
use Rattle.es_tree.specs.Walks.{any_in_fields, any_node}
use Rattle.es_tree.specs.declared.ast_type.AstType.TheVariants.{CallExpression, ChainExpression, MemberExpression, ParenthesizedExpression}
use Rattle.es_tree.specs.declared.table.Sort.{Sort}
use Rattle.es_tree.specs.declared.table.Sort.TheVariants.{Expression as s-Expression, MemberProperty as s-MemberProperty}
use Rattle.lower_chains.proofs.Sound.{call-pair, chain-single, member-pair, paren-single}
use Rattle.lower_chains.specs.Spines.{has_chain, has_mark, is_marked_chain}

-- a tree in which each chain has a mark
abbrev pub AreMarked : Tree → Type 0
AreMarked t = any_node is_unmarked_chain t ≡ false

un-not : (b : Bool) → not b ≡ false → b ≡ true
un-not true h = refl
un-not false h = absurd (cc h)

-- below parentheses
pub marked-bare : (t : Tree) → AreMarked t → AreMarked (without_parens t)
marked-bare (node ParenthesizedExpression l (one t then fs)) h = marked-bare t (or_parts (any_node is_unmarked_chain t) (any_in_fields is_unmarked_chain fs) h).0
marked-bare (node ParenthesizedExpression l done) h = h
marked-bare (node ParenthesizedExpression l (missing then fs)) h = h
marked-bare (node ParenthesizedExpression l (many ts then fs)) h = h
marked-bare (node ParenthesizedExpression l (statements ts then fs)) h = h
marked-bare (node _ l fs) h = h

pub chain-optional : (l : Label) (e : Tree) → AreMarked (node ChainExpression l (one e then done)) → has_optional e ≡ true
chain-optional l e h = un-not (has_optional e) (or_parts (not (has_optional e)) (any_in_fields is_unmarked_chain (one e then done)) h).0

-- MARKS ON SPINES

pub first-flag : (fs : List Bool) → flag_at 0 fs ≡ flag fs
first-flag [] = refl
first-flag (b ∷ bs) = refl

second-flag : (fs : List Bool) → flag_at 1 fs ≡ flag_after fs
second-flag [] = refl
second-flag (b ∷ []) = refl
second-flag (b ∷ c ∷ bs) = refl

or-map : (a b c : Bool) → (b ≡ true → c ≡ true) → (a || b) ≡ true → (a || c) ≡ true
or-map true b c f h = refl
or-map false b c f h = f h

pub optional-mark : (e : Tree) → IsFormed e → has_optional e ≡ true → has_mark e ≡ true
optional-mark (node MemberExpression l (one o then (one p then done))) h e =
    let n = node_form s-Expression MemberExpression l (one o then (one p then done)) h in
    let below = optional-mark o (and-left (has_form s-Expression o) (has_form (sort_at MemberExpression l s-MemberProperty) p && true) n.children) in
    or-map (flag_after l.flags) (has_optional o) (has_mark o) below (ap (λ b. b || has_optional o) (sym (second-flag l.flags)) ∙ e)
optional-mark (node MemberExpression l done) h e = absurd (cc (member-pair s-Expression l done h))
optional-mark (node MemberExpression l (missing then fs)) h e = absurd (cc (member-pair s-Expression l (missing then fs) h))
optional-mark (node MemberExpression l (many ts then fs)) h e = absurd (cc (member-pair s-Expression l (many ts then fs) h))
optional-mark (node MemberExpression l (statements ts then fs)) h e = absurd (cc (member-pair s-Expression l (statements ts then fs) h))
optional-mark (node MemberExpression l (one o then done)) h e = absurd (cc (member-pair s-Expression l (one o then done) h))
optional-mark (node MemberExpression l (one o then (missing then fs))) h e = absurd (cc (member-pair s-Expression l (one o then (missing then fs)) h))
optional-mark (node MemberExpression l (one o then (many ts then fs))) h e = absurd (cc (member-pair s-Expression l (one o then (many ts then fs)) h))
optional-mark (node MemberExpression l (one o then (statements ts then fs))) h e = absurd (cc (member-pair s-Expression l (one o then (statements ts then fs)) h))
optional-mark (node MemberExpression l (one o then (one p then (f then fs)))) h e = absurd (cc (member-pair s-Expression l (one o then (one p then (f then fs))) h))
optional-mark (node CallExpression l (one f then (many ts then done))) h e =
    let below = optional-mark f (call-form l f ts h).callee in
    or-map (flag l.flags) (has_optional f) (has_mark f) below (ap (λ b. b || has_optional f) (sym (first-flag l.flags)) ∙ e)
optional-mark (node CallExpression l done) h e = absurd (cc (call-pair s-Expression l done h))
optional-mark (node CallExpression l (missing then fs)) h e = absurd (cc (call-pair s-Expression l (missing then fs) h))
optional-mark (node CallExpression l (many ts then fs)) h e = absurd (cc (call-pair s-Expression l (many ts then fs) h))
optional-mark (node CallExpression l (statements ts then fs)) h e = absurd (cc (call-pair s-Expression l (statements ts then fs) h))
optional-mark (node CallExpression l (one o then done)) h e = absurd (cc (call-pair s-Expression l (one o then done) h))
optional-mark (node CallExpression l (one o then (missing then fs))) h e = absurd (cc (call-pair s-Expression l (one o then (missing then fs)) h))
optional-mark (node CallExpression l (one o then (one t then fs))) h e = absurd (cc (call-pair s-Expression l (one o then (one t then fs)) h))
optional-mark (node CallExpression l (one o then (statements ts then fs))) h e = absurd (cc (call-pair s-Expression l (one o then (statements ts then fs)) h))
optional-mark (node CallExpression l (one o then (many ts then (f then fs)))) h e = absurd (cc (call-pair s-Expression l (one o then (many ts then (f then fs))) h))
optional-mark (node _ l fs) h e = absurd (cc e)

-- CHAINS

pub chain-marked : (s : Sort) (t : Tree) → has_form s t ≡ true → AreMarked t → is_chain_kind (kind_of t) ≡ true → is_marked_chain t ≡ true
chain-marked s (node ChainExpression l (one e then done)) h m k = optional-mark e (element-form e (chain-content l e s h)) (chain-optional l e m)
chain-marked s (node ChainExpression l (one e then (f then fs))) h m k = absurd (cc (chain-single s l (one e then (f then fs)) h))
chain-marked s (node ChainExpression l done) h m k = absurd (cc (chain-single s l done h))
chain-marked s (node ChainExpression l (missing then fs)) h m k = absurd (cc (chain-single s l (missing then fs) h))
chain-marked s (node ChainExpression l (many ts then fs)) h m k = absurd (cc (chain-single s l (many ts then fs) h))
chain-marked s (node ChainExpression l (statements ts then fs)) h m k = absurd (cc (chain-single s l (statements ts then fs) h))
chain-marked s (node _ l fs) h m k = absurd (cc k)

pub inside-marked : (t : Tree) → IsFormed t → AreMarked t → is_chain_kind (kind_of (without_parens t)) ≡ true → has_chain t ≡ true
inside-marked (node ParenthesizedExpression l (one t then done)) h m k =
    inside-marked t (and-left (has_form s-Expression t) true (node_form s-Expression ParenthesizedExpression l (one t then done) h).children) (or_parts (any_node is_unmarked_chain t) false m).0 k
inside-marked (node ParenthesizedExpression l (one t then (f then fs))) h m k = absurd (cc (paren-single s-Expression l (one t then (f then fs)) h))
inside-marked (node ParenthesizedExpression l done) h m k = absurd (cc k)
inside-marked (node ParenthesizedExpression l (missing then fs)) h m k = absurd (cc k)
inside-marked (node ParenthesizedExpression l (many ts then fs)) h m k = absurd (cc k)
inside-marked (node ParenthesizedExpression l (statements ts then fs)) h m k = absurd (cc k)
inside-marked (node ChainExpression l fs) h m k = chain-marked s-Expression (node ChainExpression l fs) h m k
inside-marked (node _ l fs) h m k = k
