-- The rules of the core lowerings are lawful, whichever of them are on.
use Rattle.std.proofs.Common.{◌≡◌, refl, sym, inl, inr, ◌∙◌, List, [], ◌∷◌}
use Rattle.std.specs.Prelude.{Bool, true, false}
use Rattle.es_tree.specs.Tree.{Tree, node, Label, Fields}
use Rattle.es_tree.specs.declared.ast_type.AstType.TheVariants.{Identifier}
use Rattle.es_tree.specs.declared.options.EnvOptions.{EnvOptions}
use Rattle.es_semantic.specs.declared.place.Binding.TheVariants.{Class}
use Rattle.es_semantic.specs.declared.place.Role.TheVariants.{Binds}
use Rattle.es_resolution.specs.Declarations.{Bound}
use Rattle.es_resolution.specs.Resolved.{own_of}
use Rattle.es_steps.specs.CoreLaws.{LawRulesUnder, LawSlots, declarators_in}
use Rattle.es_steps.specs.CoreRules.{RowRule, CoreRows, CoreRule, where_on, rows_under, rule_under}
use Rattle.es_steps.specs.Exponentiation.{ExponentiationRule}
use Rattle.es_steps.specs.LogicalAssignment.{LogicalAssignmentRule}
use Rattle.es_steps.specs.NullishCoalescing.{NullishCoalescingRule}
use Rattle.es_steps.specs.OptionalChaining.{OptionalChainingRule}
use Rattle.es_steps.specs.Rules.Replacing.{replaces}
use Rattle.es_steps.specs.Slots.{in_open_slot}
use Rattle.es_steps.specs.Steps.{Whole, Ledger, Site, Spot}
use Rattle.es_steps.specs.Steps.Spot.{at_node}
use Rattle.es_steps.specs.WrapRule.{OutsideSlots}
use Rattle.es_steps.specs.WrapRule.WrapRule.{wraps}
use Rattle.es_steps.proofs.Assigns.{assigning-makes}
use Rattle.es_steps.proofs.Chains.{chaining-makes}
use Rattle.es_steps.proofs.Coalesces.{coalescing-makes}
use Rattle.es_steps.proofs.Made.{IsPlain, Makes, made-law}
use Rattle.es_steps.proofs.Raises.{raising-makes}
use Rattle.es_steps.proofs.RuleLaws.{node-lawful, writing-lawful, writes-lists}
use Rattle.es_steps.proofs.RulesWrite.{WritesRow, row-writes, writing-writes}
use Rattle.es_steps.proofs.Taken.{Lawful, Writes, both-lawful, both-write}
use Rattle.es_steps.proofs.Temporaries.{taken-numbered}
use Rattle.es_steps.proofs.WrapsSlots.{with-none, wrap-lawful, wrap-writes}

pub row-lawful : (R : Site → Whole → List Bound → Tree → Tree → Type 0) → ((n : Site) (w : Whole) (bs : List Bound) (t u : Tree) → R n w bs t u → Makes n w bs t u) → Lawful (RowRule R)
row-lawful R makes = node-lawful (OutsideSlots R) (λ n w bs t u h used. made-law n w bs t u (makes n w bs t u h.rule) used)

no-class-name : (t : Tree) (l : Label) (fs : Fields) → IsPlain t → t ≡ node Identifier l fs → ⊥
no-class-name t l fs h e = absurd (cc (sym (h.own (Binds Class)) ∙ (λ i. own_of (Binds Class) (e i))))

-- what is made of a node by a row is written by it
pub made-writes : (R : Site → Whole → List Bound → Tree → Tree → Type 0) → ((n : Site) (w : Whole) (bs : List Bound) (t u : Tree) → R n w bs t u → Makes n w bs t u) → WritesRow R
made-writes R makes = record {
  imports = λ n w bs t u h. let m = makes n w bs t u h in m.made.no_import ∙ sym m.old.no_import;
  no_names = λ n w bs l fs u e h. no-class-name (node Identifier l fs) l fs (makes n w bs (node Identifier l fs) u h).old refl;
  numbered = λ n w bs t u h. taken-numbered w.in_use w.free_symbol bs (makes n w bs t u h).taken;
  names = λ q n w bs t u h words new k. (makes n w bs t u h).fits.passes q words new k;
}

pub row-writes-all : (R : Site → Whole → List Bound → Tree → Tree → Type 0) → ((n : Site) (w : Whole) (bs : List Bound) (t u : Tree) → R n w bs t u → Makes n w bs t u) → Writes (RowRule R)
row-writes-all R makes = row-writes {R = OutsideSlots R} (made-writes (OutsideSlots R) (λ n w bs t u h. makes n w bs t u h.rule))

-- WHICH OF THEM ARE ON

nothing-lawful : Lawful (λ n s x s' y. ⊥)
nothing-lawful = record {
  at_nodes = λ n s s' t u h used called. absurd h;
  flanking = λ n s s' t u bs cs h used. absurd h;
  at_lists = λ n s s' p q x y a b ts us h used. absurd h;
  at_bodies = λ n s s' p t u h. absurd h;
  unflanking = λ n s s' t bs cs us h. absurd h;
}

pub on-lawful : (b : Bool) (R : Site → Ledger → Spot → Ledger → Spot → Type 0) → Lawful R → Lawful (where_on b R)
on-lawful true R h = h
on-lawful false R h = nothing-lawful

assigning-makesful : Lawful (RowRule LogicalAssignmentRule)
assigning-makesful = row-lawful LogicalAssignmentRule assigning-makes

coalescing-makesful : Lawful (RowRule NullishCoalescingRule)
coalescing-makesful = row-lawful NullishCoalescingRule coalescing-makes

chaining-lawful : (no_all : Bool) → Lawful (RowRule (OptionalChainingRule no_all))
chaining-lawful no_all = row-lawful (OptionalChainingRule no_all) (chaining-makes no_all)

raising-lawful : Lawful (RowRule ExponentiationRule)
raising-lawful = row-lawful ExponentiationRule raising-makes

pub core-rows-lawful : (no_all : Bool) → Lawful (CoreRows no_all)
core-rows-lawful no_all = both-lawful assigning-makesful (both-lawful (both-lawful coalescing-makesful (chaining-lawful no_all)) raising-lawful)

pub core-rule-lawful : (o : EnvOptions) → Lawful (CoreRule o)
core-rule-lawful o = both-lawful writing-lawful (both-lawful (wrap-lawful o) (core-rows-lawful o.assumptions.no_document_all))

pub rows-under-lawful : (o : EnvOptions) → Lawful (rows_under o)
rows-under-lawful o = both-lawful (on-lawful o.es2021.logical_assignment_operators _ assigning-makesful) (both-lawful (both-lawful (on-lawful o.es2020.nullish_coalescing_operator _ coalescing-makesful) (on-lawful o.es2020.optional_chaining _ (chaining-lawful o.assumptions.no_document_all))) (on-lawful o.es2016.exponentiation_operator _ raising-lawful))

pub rule-under-lawful : (o : EnvOptions) → Lawful (rule_under o)
rule-under-lawful o = both-lawful writing-lawful (both-lawful (wrap-lawful o) (rows-under-lawful o))

-- WHAT THEY WRITE

nothing-writes : Writes (λ n s x s' y. ⊥)
nothing-writes = record {
  imports = λ n s s' t u h. absurd h;
  flanks_none = λ n s s' t u bs cs h. absurd h;
  no_names = λ n s s' l fs y e h. h;
  freer = λ n s s' x y h. absurd h;
  same_called = λ n s s' x y h m e. absurd h;
  names = λ q n s s' t u a b h k. absurd h;
  names_beside = λ q n s s' t u bs cs a b h k. absurd h;
  names_in_lists = λ q n s s' p p' x y a b ts us c d h k. absurd h;
}

pub on-writes : (b : Bool) (R : Site → Ledger → Spot → Ledger → Spot → Type 0) → Writes R → Writes (where_on b R)
on-writes true R h = h
on-writes false R h = nothing-writes

assigning-writes : Writes (RowRule LogicalAssignmentRule)
assigning-writes = row-writes-all LogicalAssignmentRule assigning-makes

coalescing-writes : Writes (RowRule NullishCoalescingRule)
coalescing-writes = row-writes-all NullishCoalescingRule coalescing-makes

chaining-writes : (no_all : Bool) → Writes (RowRule (OptionalChainingRule no_all))
chaining-writes no_all = row-writes-all (OptionalChainingRule no_all) (chaining-makes no_all)

raising-writes : Writes (RowRule ExponentiationRule)
raising-writes = row-writes-all ExponentiationRule raising-makes

pub core-rule-writes : (o : EnvOptions) → Writes (CoreRule o)
core-rule-writes o = both-write writing-writes (both-write (wrap-writes o) (both-write assigning-writes (both-write (both-write coalescing-writes (chaining-writes o.assumptions.no_document_all)) raising-writes)))

pub rule-under-writes : (o : EnvOptions) → Writes (rule_under o)
rule-under-writes o = both-write writing-writes (both-write (wrap-writes o) (both-write (on-writes o.es2021.logical_assignment_operators _ assigning-writes) (both-write (both-write (on-writes o.es2020.nullish_coalescing_operator _ coalescing-writes) (on-writes o.es2020.optional_chaining _ (chaining-writes o.assumptions.no_document_all))) (on-writes o.es2016.exponentiation_operator _ raising-writes))))

-- WHICH ARE ON

where-on : (b : Bool) (R : Site → Ledger → Spot → Ledger → Spot → Type 0) (n : Site) (s s' : Ledger) (x y : Spot) → where_on b R n s x s' y → R n s x s' y
where-on true R n s s' x y h = h
where-on false R n s s' x y h = absurd h

rows-on : (o : EnvOptions) (n : Site) (s s' : Ledger) (x y : Spot) → rows_under o n s x s' y → CoreRows o.assumptions.no_document_all n s x s' y
rows-on o n s s' x y (inl h) = inl (where-on o.es2021.logical_assignment_operators (RowRule LogicalAssignmentRule) n s s' x y h)
rows-on o n s s' x y (inr (inl (inl h))) = inr (inl (inl (where-on o.es2020.nullish_coalescing_operator (RowRule NullishCoalescingRule) n s s' x y h)))
rows-on o n s s' x y (inr (inl (inr h))) = inr (inl (inr (where-on o.es2020.optional_chaining (RowRule (OptionalChainingRule o.assumptions.no_document_all)) n s s' x y h)))
rows-on o n s s' x y (inr (inr h)) = inr (inr (where-on o.es2016.exponentiation_operator (RowRule ExponentiationRule) n s s' x y h))

pub law_rules_under_proof : LawRulesUnder
law_rules_under_proof o n s s' x y (inl h) = inl h
law_rules_under_proof o n s s' x y (inr (inl h)) = inr (inl h)
law_rules_under_proof o n s s' x y (inr (inr h)) = inr (inr (rows-on o n s s' x y h))

-- SLOTS

row-in-slot : (R : Site → Whole → List Bound → Tree → Tree → Type 0) (n : Site) (s s' : Ledger) (t u : Tree) → in_open_slot n.above ≡ true → RowRule R n s (at_node t) s' (at_node u) → declarators_in s' ≡ declarators_in s
row-in-slot R n s s' t u e (replaces {p = p} [] h) = sym (with-none p)
row-in-slot R n s s' t u e (replaces (b ∷ bs) h) = absurd (cc (e, h.outside))

pub law_slots_proof : LawSlots
law_slots_proof o n s s' t u e (inl h) = absurd (writes-lists h)
law_slots_proof o n s s' t u e (inr (inl (wraps d x slot h))) = refl
law_slots_proof o n s s' t u e (inr (inr (inl h))) = row-in-slot LogicalAssignmentRule n s s' t u e h
law_slots_proof o n s s' t u e (inr (inr (inr (inl (inl h))))) = row-in-slot NullishCoalescingRule n s s' t u e h
law_slots_proof o n s s' t u e (inr (inr (inr (inl (inr h))))) = row-in-slot (OptionalChainingRule o.assumptions.no_document_all) n s s' t u e h
law_slots_proof o n s s' t u e (inr (inr (inr (inr h)))) = row-in-slot ExponentiationRule n s s' t u e h
