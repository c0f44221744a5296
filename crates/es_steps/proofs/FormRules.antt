-- Rules keep form: what each of them leaves, in one statement for a set of rules.
use Rattle.std.proofs.Common.{◌≡◌, inl, inr, refl, sym, ap, subst, ◌∙◌, List, [], ◌∷◌}
use Rattle.std.specs.Prelude.{◌⊎◌, Bool, true, false, Option}
use Rattle.std.proofs.lemmas.Bool.{and_from}
use Rattle.std.proofs.lemmas.List.{append-nil}
use Rattle.es_tree.specs.HasForm.{has_form}
use Rattle.es_tree.specs.Tree.{Tree, node, done, ◌then◌, one, many, Trees, empty}
use Rattle.es_tree.specs.declared.ast_type.AstType.TheVariants.{ArrowFunctionExpression}
use Rattle.es_tree.specs.declared.options.EnvOptions.{EnvOptions}
use Rattle.es_tree.specs.declared.table.Sort.{Sort}
use Rattle.es_tree.specs.declared.table.Sort.TheVariants.{ArrowFunctionBody as s-ArrowFunctionBody, Expression as s-Expression}
use Rattle.es_tree.proofs.NodeForm.{has_form-node}
use Rattle.es_runs.specs.Rules.{in_place_of}
use Rattle.es_resolution.specs.Declarations.{Bound}
use Rattle.es_steps.specs.CoreRules.{RowRule, CoreRows, CoreRule, where_on, rows_under, rule_under}
use Rattle.es_steps.specs.Exponentiation.{ExponentiationRule}
use Rattle.es_steps.specs.LogicalAssignment.{LogicalAssignmentRule}
use Rattle.es_steps.specs.Nodes.{made, arrow_node}
use Rattle.es_steps.specs.NullishCoalescing.{NullishCoalescingRule}
use Rattle.es_steps.specs.Open.{Additions, Pending, whole_list, with_vars, written_body}
use Rattle.es_steps.specs.OptionalChaining.{OptionalChainingRule}
use Rattle.es_steps.specs.Rules.{Writing, either_rule}
use Rattle.es_steps.specs.Rules.Replacing.{replaces}
use Rattle.es_steps.specs.Rules.Writing.{declarators, all_pending, body_declarators}
use Rattle.es_steps.specs.Slots.{is_slot}
use Rattle.es_steps.specs.Steps.{Whole, Ledger, Site, Spot}
use Rattle.es_steps.specs.Steps.Spot.{at_node, at_beside, at_body, at_list}
use Rattle.es_steps.specs.WrapRule.{WrapRule, called_arrow}
use Rattle.es_steps.specs.WrapRule.WrapRule.{wraps}
use Rattle.es_steps.proofs.FormChains.{chaining-form}
use Rattle.es_steps.proofs.FormLists.{IsListIn, IsPlainList, Setting, nothing-in, plain-none, temporaries_alone}
use Rattle.es_steps.proofs.FormMembers.{formed-call}
use Rattle.es_steps.proofs.FormParts.{IsFormed, no-span, span-of}
use Rattle.es_steps.proofs.FormPowers.{power-form}
use Rattle.es_steps.proofs.FormRows.{AreTexts, RowForm, assignment-form, coalescing-form}
use Rattle.es_steps.proofs.FormSorts.{form-wider}
use Rattle.es_steps.proofs.Lists.{written-first}
use Rattle.es_steps.proofs.Opened.{written-none}
use Rattle.es_steps.proofs.RuleLaws.{writes-lists}
use Rattle.es_steps.proofs.Taken.{pending_in, this_in, top_in}

-- what is pending afterwards: these temporaries more, none of whose names is empty, and of the rest what a step may make of it
pub record NamesAfter (This : Option Bound → Option Bound → Type 0) (Top : Additions → Additions → Type 0) (s s' : Ledger) : Type 0 where
  pub names : List Bound
  pub texts : AreTexts names
  pub pending : pending_in s' ≡ with_vars names (pending_in s)
  pub this : This (this_in s) (this_in s')
  pub top : Top (top_in s) (top_in s')

abbrev pub NamesIn : Setting → Ledger → Ledger → Type 0
NamesIn P = NamesAfter P.this.After P.top.After

-- these temporaries more alone
abbrev pub NewNames : Ledger → Ledger → Type 0
NewNames = NamesIn temporaries_alone

pub names-in : (P : Setting) (s s' : Ledger) → NewNames s s' → NamesIn P s s'
names-in P s s' h = record { names = h.names; texts = h.texts; pending = h.pending; this = P.this.same (this_in s) (this_in s') h.this; top = P.top.same (top_in s) (top_in s') h.top }

pub no-names : (p : Pending) → p ≡ with_vars [] p
no-names p = λ i. record p { vars = sym (append-nil p.vars) i }

pub nothing-new : (s s' : Ledger) → s ≡ s' → NewNames s s'
nothing-new s s' e = record { names = []; texts = tt; pending = sym (ap (λ r. pending_in r) e) ∙ no-names (pending_in s); this = sym (ap (λ r. this_in r) e); top = sym (ap (λ r. top_in r) e) }

-- a node that a rule leaves
pub record NodeLeft (Names : Ledger → Ledger → Type 0) (a : Sort) (s s' : Ledger) (u : Tree) : Type 0 where
  pub formed : has_form a u ≡ true
  pub names : Names s s'

-- a list that a rule leaves, which is the same with what is pending for it written
pub record SameList (Listed : Pending → Option Bound → Additions → Type 0) (s s' : Ledger) (ts us : Trees) (q : Pending) (y : Option Bound) (b : Additions) : Type 0 where
  pub ledger : s ≡ s'
  pub trees : ts ≡ us
  pub plain : Listed q y b

-- WHAT A RULE OWES for form, where this may be pending for lists, and this is what it leaves of a node

pub record RuleForm (Listed : Pending → Option Bound → Additions → Type 0) (Left : Sort → Ledger → Ledger → Tree → Type 0) (R : Site → Ledger → Spot → Ledger → Spot → Type 0) : Type 0 where
  pub at_nodes : (n : Site) (s s' : Ledger) (t u : Tree) (a : Sort) → (is_slot n.above ≡ true → a ≡ s-Expression) → R n s (at_node t) s' (at_node u) → has_form a t ≡ true → Left a s s' u
  pub no_flanks : (n : Site) (s s' : Ledger) (t u : Tree) (bs cs : List Tree) → R n s (at_node t) s' (at_beside bs u cs) → ⊥
  pub at_lists : (n : Site) (s s' : Ledger) (p q : Pending) (x y : Option Bound) (a b : Additions) (ts us : Trees) → R n s (at_list p x a ts) s' (at_list q y b us) → Listed p x a → SameList Listed s s' (whole_list p x a ts) (whole_list q y b us) q y b
  pub at_bodies : (n : Site) (s s' : Ledger) (p : Pending) (t u : Tree) → R n s (at_body p t) s' (at_node u) → (s ≡ s') × (written_body p t ≡ u)

-- in a setting, where what is known around the node is
abbrev pub LeftIn : Setting → Sort → Ledger → Ledger → Tree → Type 0
LeftIn P a s s' u = P.Known (this_in s) (top_in s) → NodeLeft (NamesIn P) a s s' u

abbrev pub LawfulIn : Setting → (Site → Ledger → Spot → Ledger → Spot → Type 0) → Type 0
LawfulIn P = RuleForm (IsListIn P) (LeftIn P)

-- and where temporaries alone are pending
abbrev pub NodeFormed : Sort → Ledger → Ledger → Tree → Type 0
NodeFormed = NodeLeft NewNames

abbrev pub FormLawful : (Site → Ledger → Spot → Ledger → Spot → Type 0) → Type 0
FormLawful = RuleForm IsPlainList NodeFormed

-- WRITING

pub writing-form : (P : Setting) (Left : Sort → Ledger → Ledger → Tree → Type 0) → RuleForm (IsListIn P) Left Writing
writing-form P Left = record { at_nodes = λ n s s' t u a slot h f. absurd (writes-lists h); no_flanks = λ n s s' t u bs cs h. absurd (writes-lists h); at_lists = lists; at_bodies = bodies }
  where
    lists : (n : Site) (s s' : Ledger) (p q : Pending) (x y : Option Bound) (a b : Additions) (ts us : Trees) → Writing n s (at_list p x a ts) s' (at_list q y b us) → IsListIn P p x a → SameList (IsListIn P) s s' (whole_list p x a ts) (whole_list q y b us) q y b
    lists n s s' p q x y a b ts us declarators h = record { ledger = refl; trees = written-first p x a ts; plain = record { vars = plain-none; this = h.this; top = h.top } }
    lists n s s' p q x y a b ts us all_pending h = record { ledger = refl; trees = sym (written-none (whole_list p x a ts)); plain = nothing-in P }

    bodies : (n : Site) (s s' : Ledger) (p : Pending) (t u : Tree) → Writing n s (at_body p t) s' (at_node u) → (s ≡ s') × (written_body p t ≡ u)
    bodies n s s' p t u body_declarators = (refl, refl)

-- rules that write lists, and do no more with them, are lawful in each setting where they are with temporaries alone
pub lawful-in : (P : Setting) (R : Site → Ledger → Spot → Ledger → Spot → Type 0) → FormLawful R → ((n : Site) (s s' : Ledger) (p q : Pending) (x y : Option Bound) (a b : Additions) (ts us : Trees) → R n s (at_list p x a ts) s' (at_list q y b us) → Writing n s (at_list p x a ts) s' (at_list q y b us)) → LawfulIn P R
lawful-in P R law lists = record {
  at_nodes = λ n s s' t u a slot h f known. let r = law.at_nodes n s s' t u a slot h f in record { formed = r.formed; names = names-in P s s' r.names };
  no_flanks = law.no_flanks;
  at_lists = λ n s s' p q x y a b ts us h k. (writing-form P (LeftIn P)).at_lists n s s' p q x y a b ts us (lists n s s' p q x y a b ts us h) k;
  at_bodies = law.at_bodies;
}

-- RULES OF NODES

abbrev pub AtNodes : Spot → Spot → Type 0
AtNodes (at_node t) (at_node u) = Unit {0}
AtNodes x y = ⊥

pub nodes-only : {Listed : Pending → Option Bound → Additions → Type 0} {Left : Sort → Ledger → Ledger → Tree → Type 0} (R : Site → Ledger → Spot → Ledger → Spot → Type 0) → ((n : Site) (s s' : Ledger) (x y : Spot) → R n s x s' y → AtNodes x y) → ((n : Site) (s s' : Ledger) (t u : Tree) (a : Sort) → (is_slot n.above ≡ true → a ≡ s-Expression) → R n s (at_node t) s' (at_node u) → has_form a t ≡ true → Left a s s' u) → RuleForm Listed Left R
nodes-only R at law = record {
  at_nodes = law;
  no_flanks = λ n s s' t u bs cs h. absurd (at n s s' (at_node t) (at_beside bs u cs) h);
  at_lists = λ n s s' p q x y a b ts us h k. absurd (at n s s' (at_list p x a ts) (at_list q y b us) h);
  at_bodies = λ n s s' p t u h. absurd (at n s s' (at_body p t) (at_node u) h);
}

pub replaces-nodes : (R : Site → Whole → List Bound → Tree → Tree → Type 0) (n : Site) (s s' : Ledger) (x y : Spot) → RowRule R n s x s' y → AtNodes x y
replaces-nodes R n s s' x y (replaces bs h) = tt

-- a row
pub row-form : (R : Site → Whole → List Bound → Tree → Tree → Type 0) → ((n : Site) (w : Whole) (bs : List Bound) (t u : Tree) (a : Sort) → R n w bs t u → has_form a t ≡ true → RowForm a bs u) → FormLawful (RowRule R)
row-form R law = nodes-only (RowRule R) (replaces-nodes R) nodes
  where
    nodes : (n : Site) (s s' : Ledger) (t u : Tree) (a : Sort) → (is_slot n.above ≡ true → a ≡ s-Expression) → RowRule R n s (at_node t) s' (at_node u) → has_form a t ≡ true → NodeFormed a s s' u
    nodes n s s' t u a slot (replaces {w = w} bs h) f = let r = law n w bs t u a h.rule f in record { formed = r.formed; names = record { names = bs; texts = r.names; pending = refl; this = refl; top = refl } }

-- THE WRAP RULE

wraps-nodes : (o : EnvOptions) (n : Site) (s s' : Ledger) (x y : Spot) → WrapRule o n s x s' y → AtNodes x y
wraps-nodes o n s s' x y (wraps d e slot h) = tt

formed-arrow : (e : Tree) → IsFormed e → IsFormed (arrow_node e)
formed-arrow e h =
    let span = no-span [] [] in
    has_form-node s-Expression ArrowFunctionExpression (made [] []) (many empty then one e then done) (record { sort = refl; texts = refl; flags = refl; start = span.start; stop = span.stop; agree = refl; children = and_from (has_form s-ArrowFunctionBody e) true (form-wider s-ArrowFunctionBody e refl h) refl })

formed-wrapped : (e : Tree) → IsFormed e → IsFormed (called_arrow e)
formed-wrapped (node k l fs) h =
    let s = span-of s-Expression k l fs h in
    formed-call (record (in_place_of l) { flags = false ∷ [] }) false (arrow_node (node k l fs)) empty refl refl (record { start = s.start; stop = s.stop }) (formed-arrow (node k l fs) h) refl

wrap-form : (o : EnvOptions) → FormLawful (WrapRule o)
wrap-form o = nodes-only (WrapRule o) (wraps-nodes o) nodes
  where
    nodes : (n : Site) (s s' : Ledger) (t u : Tree) (a : Sort) → (is_slot n.above ≡ true → a ≡ s-Expression) → WrapRule o n s (at_node t) s' (at_node u) → has_form a t ≡ true → NodeFormed a s s' u
    nodes n s s' t u a slot (wraps {e = e} d x here h) f =
        let expression : IsFormed e = subst (λ (a : Sort). has_form a e ≡ true) (slot here) f in
        record { formed = subst (λ (a : Sort). has_form a (called_arrow e) ≡ true) (sym (slot here)) (formed-wrapped e expression); names = nothing-new s s refl }

-- RULES TOGETHER

pick : {A B C : Type 0} → (A → C) → (B → C) → A ⊎ B → C
pick f g (inl h) = f h
pick f g (inr h) = g h

pub both-form : {Listed : Pending → Option Bound → Additions → Type 0} {Left : Sort → Ledger → Ledger → Tree → Type 0} {Q R : Site → Ledger → Spot → Ledger → Spot → Type 0} → RuleForm Listed Left Q → RuleForm Listed Left R → RuleForm Listed Left (either_rule Q R)
both-form {Q} {R} q r = record {
  at_nodes = λ n s s' t u a slot h f. pick {A = Q n s (at_node t) s' (at_node u)} {B = R n s (at_node t) s' (at_node u)} (λ g. q.at_nodes n s s' t u a slot g f) (λ g. r.at_nodes n s s' t u a slot g f) h;
  no_flanks = λ n s s' t u bs cs h. pick {A = Q n s (at_node t) s' (at_beside bs u cs)} {B = R n s (at_node t) s' (at_beside bs u cs)} (λ g. q.no_flanks n s s' t u bs cs g) (λ g. r.no_flanks n s s' t u bs cs g) h;
  at_lists = λ n s s' p p' x y a b ts us h k. pick {A = Q n s (at_list p x a ts) s' (at_list p' y b us)} {B = R n s (at_list p x a ts) s' (at_list p' y b us)} (λ g. q.at_lists n s s' p p' x y a b ts us g k) (λ g. r.at_lists n s s' p p' x y a b ts us g k) h;
  at_bodies = λ n s s' p t u h. pick {A = Q n s (at_body p t) s' (at_node u)} {B = R n s (at_body p t) s' (at_node u)} (λ g. q.at_bodies n s s' p t u g) (λ g. r.at_bodies n s s' p t u g) h;
}

nothing-form : {Listed : Pending → Option Bound → Additions → Type 0} {Left : Sort → Ledger → Ledger → Tree → Type 0} → RuleForm Listed Left (λ n s x s' y. ⊥)
nothing-form = record {
  at_nodes = λ n s s' t u a slot h f. absurd h;
  no_flanks = λ n s s' t u bs cs h. absurd h;
  at_lists = λ n s s' p q x y a b ts us h k. absurd h;
  at_bodies = λ n s s' p t u h. absurd h;
}

pub on-form : {Listed : Pending → Option Bound → Additions → Type 0} {Left : Sort → Ledger → Ledger → Tree → Type 0} (b : Bool) (R : Site → Ledger → Spot → Ledger → Spot → Type 0) → RuleForm Listed Left R → RuleForm Listed Left (where_on b R)
on-form true R h = h
on-form false R h = nothing-form

assigns-form : FormLawful (RowRule LogicalAssignmentRule)
assigns-form = row-form LogicalAssignmentRule assignment-form

coalesces-form : FormLawful (RowRule NullishCoalescingRule)
coalesces-form = row-form NullishCoalescingRule coalescing-form

chains-form : (no_all : Bool) → FormLawful (RowRule (OptionalChainingRule no_all))
chains-form no_all = row-form (OptionalChainingRule no_all) (chaining-form no_all)

raises-form : FormLawful (RowRule ExponentiationRule)
raises-form = row-form ExponentiationRule power-form

core-rows-form : (no_all : Bool) → FormLawful (CoreRows no_all)
core-rows-form no_all = both-form assigns-form (both-form (both-form coalesces-form (chains-form no_all)) raises-form)

pub core-rule-form : (o : EnvOptions) → FormLawful (CoreRule o)
core-rule-form o = both-form (writing-form temporaries_alone NodeFormed) (both-form (wrap-form o) (core-rows-form o.assumptions.no_document_all))

rows-under-form : (o : EnvOptions) → FormLawful (rows_under o)
rows-under-form o = both-form (on-form o.es2021.logical_assignment_operators _ assigns-form) (both-form (both-form (on-form o.es2020.nullish_coalescing_operator _ coalesces-form) (on-form o.es2020.optional_chaining _ (chains-form o.assumptions.no_document_all))) (on-form o.es2016.exponentiation_operator _ raises-form))

pub rule-under-form : (o : EnvOptions) → FormLawful (rule_under o)
rule-under-form o = both-form (writing-form temporaries_alone NodeFormed) (both-form (wrap-form o) (rows-under-form o))
