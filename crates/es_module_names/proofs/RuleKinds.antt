-- Rules act on quiet nodes and leave quiet nodes, or they act in slots: of neither is anything read for module requests and exported names.
use Rattle.std.proofs.Common.{◌≡◌, inl, inr, refl, List, [], ◌∷◌, ◌++◌}
use Rattle.std.specs.Prelude.{◌⊎◌, Bool, true, false, Option, Some, None, codes}
use Rattle.es_tree.specs.Tree.{Tree, node, Label, Trees, kind_of}
use Rattle.es_tree.specs.declared.options.EnvOptions.{EnvOptions}
use Rattle.es_runs.specs.OptionalChaining.{delete_node, has_tests, true_node, where_short}
use Rattle.es_runs.specs.Rules.{void_zero_node}
use Rattle.es_resolution.specs.Declarations.{Bound}
use Rattle.es_steps.specs.CoreRules.{RowRule, rule_under, where_on}
use Rattle.es_steps.specs.Exponentiation.{ExponentiationRule, assigned_power}
use Rattle.es_steps.specs.Exponentiation.ExponentiationRule.{power, power_assignment}
use Rattle.es_steps.specs.LogicalAssignment.{LogicalAssignmentRule}
use Rattle.es_steps.specs.LogicalAssignment.LogicalAssignmentRule.{to_name, to_static_member, to_computed_member}
use Rattle.es_steps.specs.Nodes.{placed}
use Rattle.es_steps.specs.NullishCoalescing.{NullishCoalescingRule}
use Rattle.es_steps.specs.NullishCoalescing.NullishCoalescingRule.{with_temporary, reading_again}
use Rattle.es_steps.specs.ObjectRest.{helper_node}
use Rattle.es_steps.specs.ObjectSpread.{Copies, SpreadRule, copied, last_copied}
use Rattle.es_steps.specs.ObjectSpread.Copies.{no_more, copies, keeps}
use Rattle.es_steps.specs.ObjectSpread.SpreadRule.{spreads}
use Rattle.es_steps.specs.OptionalCatch.{CatchRule}
use Rattle.es_steps.specs.OptionalCatch.CatchRule.{catches}
use Rattle.es_steps.specs.OptionalChaining.{OptionalChainingRule}
use Rattle.es_steps.specs.OptionalChaining.OptionalChainingRule.{by_tests, as_callee, in_delete}
use Rattle.es_steps.specs.RestAssignments.{RestAssignmentRule}
use Rattle.es_steps.specs.RestAssignments.RestAssignmentRule.{assigns}
use Rattle.es_steps.specs.Rules.{Replacing, Writing, either_rule}
use Rattle.es_steps.specs.Rules.Replacing.{replaces}
use Rattle.es_steps.specs.Slots.{is_slot}
use Rattle.es_steps.specs.Steps.{Ledger, Site, Spot, Whole}
use Rattle.es_steps.specs.Steps.Spot.{at_node}
use Rattle.es_steps.specs.WrapRule.{WrapRule}
use Rattle.es_steps.specs.WrapRule.WrapRule.{wraps}
use Rattle.es_steps.proofs.RuleLaws.{writes-lists}
use Rattle.es_module_names.proofs.Held.{is_quiet}

pub record BothQuiet (t u : Tree) : Type 0 where
  pub acted : is_quiet (kind_of t) ≡ true
  pub left : is_quiet (kind_of u) ≡ true

pub record NamesLawful (R : Site → Ledger → Spot → Ledger → Spot → Type 0) : Type 0 where
  pub at_nodes : (n : Site) (s s' : Ledger) (t u : Tree) → R n s (at_node t) s' (at_node u) → BothQuiet t u ⊎ (is_slot n.above ≡ true)

-- ROWS

coalescing-quiet : (n : Site) (w : Whole) (bs : List Bound) (t u : Tree) → NullishCoalescingRule n w bs t u → BothQuiet t u
coalescing-quiet n w bs t u (with_temporary texts again next) = record { acted = refl; left = refl }
coalescing-quiet n w bs t u (reading_again texts again) = record { acted = refl; left = refl }

assigning-quiet : (n : Site) (w : Whole) (bs : List Bound) (t u : Tree) → LogicalAssignmentRule n w bs t u → BothQuiet t u
assigning-quiet n w bs t u (to_name texts op alone target) = record { acted = refl; left = refl }
assigning-quiet n w bs t u (to_static_member texts op alone target flags object) = record { acted = refl; left = refl }
assigning-quiet n w bs t u (to_computed_member texts op alone target flags object key) = record { acted = refl; left = refl }

raising-quiet : (n : Site) (w : Whole) (bs : List Bound) (t u : Tree) → ExponentiationRule n w bs t u → BothQuiet t u
raising-quiet n w bs t u (power math texts left right) = record { acted = refl; left = refl }
raising-quiet n w bs t u (power_assignment {m = m} {r = r} {target = target} {read = read} {fs = fs} math texts right alone twice) = record { acted = refl; left = at fs }
  where
    at : (fs : List Tree) → is_quiet (kind_of (assigned_power m fs target read r)) ≡ true
    at [] = refl
    at (f ∷ fs) = refl

short-quiet : (m : Label) (ts : List Tree) (short long : Tree) → has_tests ts ≡ true → is_quiet (kind_of (where_short m ts short long)) ≡ true
short-quiet m [] short long h = absurd (cc h)
short-quiet m (t ∷ ts) short long h = refl

chaining-quiet : (no_all : Bool) (n : Site) (w : Whole) (bs : List Bound) (t u : Tree) → OptionalChainingRule no_all n w bs t u → BothQuiet t u
chaining-quiet no_all n w bs t u (by_tests {m = m} {w = v} level walked tests) = record { acted = refl; left = short-quiet m v.tests void_zero_node v.current tests }
chaining-quiet no_all n w bs t u (as_callee {m = m} {d = d} {w = v} level walked tests bound) = record { acted = refl; left = short-quiet m v.tests void_zero_node d tests }
chaining-quiet no_all n w bs t u (in_delete {m = m} {w = v} texts alone chain walked tests) = record { acted = refl; left = short-quiet m v.tests true_node (delete_node v.current) tests }

assigning-rest-quiet : (n : Site) (w : Whole) (bs : List Bound) (t u : Tree) → RestAssignmentRule n w bs t u → BothQuiet t u
assigning-rest-quiet n w bs t u (assigns unbound used texts silent next takes) = record { acted = refl; left = refl }

row-lawful : (R : Site → Whole → List Bound → Tree → Tree → Type 0) → ((n : Site) (w : Whole) (bs : List Bound) (t u : Tree) → R n w bs t u → BothQuiet t u) → NamesLawful (RowRule R)
row-lawful R quiet = record { at_nodes = nodes }
  where
    nodes : (n : Site) (s s' : Ledger) (t u : Tree) → RowRule R n s (at_node t) s' (at_node u) → BothQuiet t u ⊎ (is_slot n.above ≡ true)
    nodes n s s' t u (replaces {w = w} bs h) = inl (quiet n w bs t u h.rule)

-- THE WRAP RULE, AND WRITING

wrap-lawful : (o : EnvOptions) → NamesLawful (WrapRule o)
wrap-lawful o = record { at_nodes = nodes }
  where
    nodes : (n : Site) (s s' : Ledger) (t u : Tree) → WrapRule o n s (at_node t) s' (at_node u) → BothQuiet t u ⊎ (is_slot n.above ≡ true)
    nodes n s s' t u (wraps role expression here holds) = inr here

writing-lawful : NamesLawful Writing
writing-lawful = record { at_nodes = λ n s s' t u h. absurd (writes-lists h) }

-- OPTIONAL CATCH, AND OBJECT SPREAD

pub catch-lawful : NamesLawful CatchRule
catch-lawful = record { at_nodes = nodes }
  where
    nodes : (n : Site) (s s' : Ledger) (t u : Tree) → CatchRule n s (at_node t) s' (at_node u) → BothQuiet t u ⊎ (is_slot n.above ≡ true)
    nodes n s s' t u (catches fresh) = inl (record { acted = refl; left = refl })

-- the copy so far, if there is one
abbrev QuietCopy : Option Tree → Type 0
QuietCopy None = Unit {0}
QuietCopy (Some c) = is_quiet (kind_of c) ≡ true

copied-quiet : (f : Tree) (c : Option Tree) (ps : List Tree) (e : Tree) → is_quiet (kind_of (copied f c ps e)) ≡ true
copied-quiet f None ps e = refl
copied-quiet f (Some c) [] e = refl
copied-quiet f (Some c) (p ∷ ps) e = refl

last-quiet : (f : Tree) (c : Option Tree) (ps : List Tree) → QuietCopy c → is_quiet (kind_of (last_copied f c ps)) ≡ true
last-quiet f None ps h = refl
last-quiet f (Some c) [] h = h
last-quiet f (Some c) (p ∷ ps) h = refl

copies-quiet : (f : Tree) (c : Option Tree) (ps : List Tree) (ts : Trees) (u : Tree) → Copies f c ps ts u → QuietCopy c → is_quiet (kind_of u) ≡ true
copies-quiet f c ps ts u no_more h = last-quiet f c ps h
copies-quiet f c ps ts u (copies {e = e} {ts = rest} r) h = copies-quiet f (Some (copied f c ps e)) [] rest u r (copied-quiet f c ps e)
copies-quiet f c ps ts u (keeps {t = t} {ts = rest} other r) h = copies-quiet f c (ps ++ t ∷ []) rest u r h

placed-quiet : (m : Label) (u : Tree) → is_quiet (kind_of u) ≡ true → is_quiet (kind_of (placed m u)) ≡ true
placed-quiet m (node k l fs) h = h

pub spread-lawful : NamesLawful (Replacing SpreadRule)
spread-lawful = record { at_nodes = nodes }
  where
    nodes : (n : Site) (s s' : Ledger) (t u : Tree) → Replacing SpreadRule n s (at_node t) s' (at_node u) → BothQuiet t u ⊎ (is_slot n.above ≡ true)
    nodes n s s' t u (replaces bs (spreads {m = m} {ps = ps} {u = v} unbound used some silent r)) = inl (record { acted = refl; left = placed-quiet m v (copies-quiet (helper_node (codes "objectSpread2")) None [] ps v r tt) })

-- RESTS IN ASSIGNMENTS

pub rest-assignment-lawful : NamesLawful (RowRule RestAssignmentRule)
rest-assignment-lawful = row-lawful RestAssignmentRule assigning-rest-quiet

-- TOGETHER

pub both-lawful : {Q R : Site → Ledger → Spot → Ledger → Spot → Type 0} → NamesLawful Q → NamesLawful R → NamesLawful (either_rule Q R)
both-lawful {Q} {R} q r = record { at_nodes = nodes }
  where
    nodes : (n : Site) (s s' : Ledger) (t u : Tree) → either_rule Q R n s (at_node t) s' (at_node u) → BothQuiet t u ⊎ (is_slot n.above ≡ true)
    nodes n s s' t u (inl h) = q.at_nodes n s s' t u h
    nodes n s s' t u (inr h) = r.at_nodes n s s' t u h

pub on-lawful : (b : Bool) (R : Site → Ledger → Spot → Ledger → Spot → Type 0) → NamesLawful R → NamesLawful (where_on b R)
on-lawful true R h = h
on-lawful false R h = record { at_nodes = λ n s s' t u d. absurd d }

pub under-lawful : (o : EnvOptions) → NamesLawful (rule_under o)
under-lawful o =
    both-lawful writing-lawful (both-lawful (wrap-lawful o) (both-lawful (on-lawful o.es2021.logical_assignment_operators _ (row-lawful LogicalAssignmentRule assigning-quiet))
    (both-lawful (both-lawful (on-lawful o.es2020.nullish_coalescing_operator _ (row-lawful NullishCoalescingRule coalescing-quiet)) (on-lawful o.es2020.optional_chaining _ (row-lawful (OptionalChainingRule o.assumptions.no_document_all) (chaining-quiet o.assumptions.no_document_all))))
    (on-lawful o.es2016.exponentiation_operator _ (row-lawful ExponentiationRule raising-quiet)))))
