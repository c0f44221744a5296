-- What a rule owes for the static rules of places: one statement on the node on which it acts; and that the core rules owe nothing more.
use Rattle.std.proofs.Common.{◌≡◌, inl, inr, refl, subst, List, [], ◌∷◌}
use Rattle.std.specs.Prelude.{◌⊎◌, Bool, true, false}
use Rattle.es_tree.specs.Ancestors.{Ancestor}
use Rattle.es_tree.specs.HasForm.{has_form}
use Rattle.es_tree.specs.Tree.{Label, Tree, kind_of}
use Rattle.es_tree.specs.declared.options.EnvOptions.{EnvOptions}
use Rattle.es_tree.specs.declared.table.Sort.{Sort}
use Rattle.es_tree.specs.declared.table.Sort.TheVariants.{Expression as s-Expression}
use Rattle.es_runs.proofs.RowKinds.{is_left_kind}
use Rattle.es_runs.specs.OptionalChaining.{delete_node, has_tests, true_node, where_short}
use Rattle.es_runs.specs.Rules.{void_zero_node}
use Rattle.es_resolution.specs.Declarations.{Bound}
use Rattle.es_steps.specs.CoreRules.{CoreRule, RowRule, rule_under, where_on}
use Rattle.es_steps.specs.Exponentiation.{ExponentiationRule, assigned_power}
use Rattle.es_steps.specs.Exponentiation.ExponentiationRule.{power, power_assignment}
use Rattle.es_steps.specs.LogicalAssignment.{LogicalAssignmentRule}
use Rattle.es_steps.specs.LogicalAssignment.LogicalAssignmentRule.{to_name, to_static_member, to_computed_member}
use Rattle.es_steps.specs.NullishCoalescing.{NullishCoalescingRule}
use Rattle.es_steps.specs.NullishCoalescing.NullishCoalescingRule.{with_temporary, reading_again}
use Rattle.es_steps.specs.OptionalChaining.{OptionalChainingRule}
use Rattle.es_steps.specs.OptionalChaining.OptionalChainingRule.{by_tests, as_callee, in_delete}
use Rattle.es_steps.specs.Rules.{Writing, either_rule}
use Rattle.es_steps.specs.Rules.Replacing.{replaces}
use Rattle.es_steps.specs.Slots.{is_slot}
use Rattle.es_steps.specs.Steps.{Ledger, Site, Spot, Whole}
use Rattle.es_steps.specs.Steps.Spot.{at_node}
use Rattle.es_steps.specs.WrapRule.{WrapRule}
use Rattle.es_steps.specs.WrapRule.WrapRule.{wraps}
use Rattle.es_steps.proofs.RuleLaws.{writes-lists}
use Rattle.es_valid_steps.specs.PlaceRules.{Keeps}
use Rattle.es_valid_steps.proofs.MadeNodes.{is_acted}
use Rattle.es_valid_steps.proofs.Changed.{Changed}
use Rattle.es_valid_steps.proofs.Changed.Changed.{row}
use Rattle.es_valid_steps.proofs.ChainRows.{chaining-keeps}
use Rattle.es_valid_steps.proofs.Rows.{assigning-keeps, coalescing-keeps, raising-keeps}
use Rattle.es_valid_steps.proofs.Slots.{SlotHead, wrapped-keeps}

-- What stands there afterwards keeps the rules with the same ancestors, and shows those no other than a row does; in a slot nothing is
-- seen of it. Where arrows turn into functions they may too.
pub record NodeKept (turns : Bool) (n : Site) (up : List Ancestor) (t u : Tree) : Type 0 where
  pub keeps : Keeps up u
  pub seen : Changed turns t u ⊎ (is_slot n.above ≡ true)

pub record PlaceLawful (R : Site → Ledger → Spot → Ledger → Spot → Type 0) : Type 0 where
  pub at_nodes : (turns : Bool) (n : Site) (s s' : Ledger) (t u : Tree) (a : Sort) (up : List Ancestor) → (is_slot n.above ≡ true → a ≡ s-Expression) → (is_slot n.above ≡ true → SlotHead up) → R n s (at_node t) s' (at_node u) → has_form a t ≡ true → Keeps up t → NodeKept turns n up t u

-- KINDS

pub record RowKinds (t u : Tree) : Type 0 where
  pub acted : is_acted (kind_of t) ≡ true
  pub left : is_left_kind (kind_of u) ≡ true

coalescing-kinds : (n : Site) (w : Whole) (bs : List Bound) (t u : Tree) → NullishCoalescingRule n w bs t u → RowKinds t u
coalescing-kinds n w bs t u (with_temporary texts again next) = record { acted = refl; left = refl }
coalescing-kinds n w bs t u (reading_again texts again) = record { acted = refl; left = refl }

assigning-kinds : (n : Site) (w : Whole) (bs : List Bound) (t u : Tree) → LogicalAssignmentRule n w bs t u → RowKinds t u
assigning-kinds n w bs t u (to_name texts op alone target) = record { acted = refl; left = refl }
assigning-kinds n w bs t u (to_static_member texts op alone target flags object) = record { acted = refl; left = refl }
assigning-kinds n w bs t u (to_computed_member texts op alone target flags object key) = record { acted = refl; left = refl }

raising-kinds : (n : Site) (w : Whole) (bs : List Bound) (t u : Tree) → ExponentiationRule n w bs t u → RowKinds t u
raising-kinds n w bs t u (power math texts left right) = record { acted = refl; left = refl }
raising-kinds n w bs t u (power_assignment {m = m} {r = r} {target = target} {read = read} {fs = fs} math texts right alone twice) = record { acted = refl; left = at fs }
  where
    at : (fs : List Tree) → is_left_kind (kind_of (assigned_power m fs target read r)) ≡ true
    at [] = refl
    at (f ∷ fs) = refl

short-kind : (m : Label) (ts : List Tree) (short long : Tree) → has_tests ts ≡ true → is_left_kind (kind_of (where_short m ts short long)) ≡ true
short-kind m [] short long h = absurd (cc h)
short-kind m (t ∷ ts) short long h = refl

chaining-kinds : (no_all : Bool) (n : Site) (w : Whole) (bs : List Bound) (t u : Tree) → OptionalChainingRule no_all n w bs t u → RowKinds t u
chaining-kinds no_all n w bs t u (by_tests {m = m} {w = v} level walked tests) = record { acted = refl; left = short-kind m v.tests void_zero_node v.current tests }
chaining-kinds no_all n w bs t u (as_callee {m = m} {d = d} {w = v} level walked tests bound) = record { acted = refl; left = short-kind m v.tests void_zero_node d tests }
chaining-kinds no_all n w bs t u (in_delete {m = m} {w = v} texts alone chain walked tests) = record { acted = refl; left = short-kind m v.tests true_node (delete_node v.current) tests }

-- ROWS

pub row-lawful : (R : Site → Whole → List Bound → Tree → Tree → Type 0) → ((n : Site) (w : Whole) (bs : List Bound) (t u : Tree) → R n w bs t u → RowKinds t u) → ((n : Site) (w : Whole) (bs : List Bound) (t u : Tree) (a : Sort) (up : List Ancestor) → R n w bs t u → has_form a t ≡ true → Keeps up t → Keeps up u) → PlaceLawful (RowRule R)
row-lawful R kinds keeps = record { at_nodes = nodes }
  where
    nodes : (turns : Bool) (n : Site) (s s' : Ledger) (t u : Tree) (a : Sort) (up : List Ancestor) → (is_slot n.above ≡ true → a ≡ s-Expression) → (is_slot n.above ≡ true → SlotHead up) → RowRule R n s (at_node t) s' (at_node u) → has_form a t ≡ true → Keeps up t → NodeKept turns n up t u
    nodes turns n s s' t u a up slot head (replaces {w = w} bs h) f k = let r = kinds n w bs t u h.rule in record { keeps = keeps n w bs t u a up h.rule f k; seen = inl (row r.acted r.left) }

assigns-lawful : PlaceLawful (RowRule LogicalAssignmentRule)
assigns-lawful = row-lawful LogicalAssignmentRule assigning-kinds assigning-keeps

coalesces-lawful : PlaceLawful (RowRule NullishCoalescingRule)
coalesces-lawful = row-lawful NullishCoalescingRule coalescing-kinds (λ n w bs t u a up h f k. coalescing-keeps n w bs t u up h k)

raises-lawful : PlaceLawful (RowRule ExponentiationRule)
raises-lawful = row-lawful ExponentiationRule raising-kinds raising-keeps

chains-lawful : (no_all : Bool) → PlaceLawful (RowRule (OptionalChainingRule no_all))
chains-lawful no_all = row-lawful (OptionalChainingRule no_all) (chaining-kinds no_all) (λ n w bs t u a up h f k. chaining-keeps up no_all w n bs t u a h f k)

-- THE WRAP RULE, AND WRITING

wrap-lawful : (o : EnvOptions) → PlaceLawful (WrapRule o)
wrap-lawful o = record { at_nodes = nodes }
  where
    nodes : (turns : Bool) (n : Site) (s s' : Ledger) (t u : Tree) (a : Sort) (up : List Ancestor) → (is_slot n.above ≡ true → a ≡ s-Expression) → (is_slot n.above ≡ true → SlotHead up) → WrapRule o n s (at_node t) s' (at_node u) → has_form a t ≡ true → Keeps up t → NodeKept turns n up t u
    nodes turns n s s' t u a up slot head (wraps {e = e} role expression here holds) f k = record { keeps = wrapped-keeps up e (head here) (subst (λ (b : Sort). has_form b e ≡ true) (slot here) f) k; seen = inr here }

writing-lawful : PlaceLawful Writing
writing-lawful = record { at_nodes = λ turns n s s' t u a up slot head h f k. absurd (writes-lists h) }

-- TOGETHER

pick : {A B C : Type 0} → (A → C) → (B → C) → A ⊎ B → C
pick f g (inl h) = f h
pick f g (inr h) = g h

pub both-lawful : {Q R : Site → Ledger → Spot → Ledger → Spot → Type 0} → PlaceLawful Q → PlaceLawful R → PlaceLawful (either_rule Q R)
both-lawful {Q} {R} q r = record { at_nodes = λ turns n s s' t u a up slot head h f k. pick {A = Q n s (at_node t) s' (at_node u)} {B = R n s (at_node t) s' (at_node u)} (λ d. q.at_nodes turns n s s' t u a up slot head d f k) (λ d. r.at_nodes turns n s s' t u a up slot head d f k) h }

pub on-lawful : (b : Bool) (R : Site → Ledger → Spot → Ledger → Spot → Type 0) → PlaceLawful R → PlaceLawful (where_on b R)
on-lawful true R h = h
on-lawful false R h = record { at_nodes = λ turns n s s' t u a up slot head d f k. absurd d }

pub core-lawful : (o : EnvOptions) → PlaceLawful (CoreRule o)
core-lawful o = both-lawful writing-lawful (both-lawful (wrap-lawful o) (both-lawful assigns-lawful (both-lawful (both-lawful coalesces-lawful (chains-lawful o.assumptions.no_document_all)) raises-lawful)))

pub under-lawful : (o : EnvOptions) → PlaceLawful (rule_under o)
under-lawful o = both-lawful writing-lawful (both-lawful (wrap-lawful o) (both-lawful (on-lawful o.es2021.logical_assignment_operators _ assigns-lawful) (both-lawful (both-lawful (on-lawful o.es2020.nullish_coalescing_operator _ coalesces-lawful) (on-lawful o.es2020.optional_chaining _ (chains-lawful o.assumptions.no_document_all))) (on-lawful o.es2016.exponentiation_operator _ raises-lawful))))
