-- A construct that doesn't stand in a program stands in none that steps lead to, so that its row never acts.
use Rattle.std.proofs.Common.{◌≡◌, inl, inr, refl, sym, ap, subst, ◌∙◌, List, [], ◌∷◌}
use Rattle.std.specs.Prelude.{Bool, true, false, ◌&&◌, ◌||◌, Option, Some, bytes_eq, codes}
use Rattle.es_tree.specs.Constructs.{any_kind, is_rest, is_spread}
use Rattle.es_tree.specs.Names.{first_text}
use Rattle.es_tree.specs.Tree.{Tree, node, Label, Fields, done, ◌then◌, Field, missing, one, many, statements, Trees, empty, ◌before◌}
use Rattle.es_tree.specs.Walks.{any_node}
use Rattle.es_tree.specs.Words.{Text}
use Rattle.es_tree.specs.declared.ast_type.AstType.{AstType}
use Rattle.es_tree.specs.declared.ast_type.AstType.TheVariants.{ChainExpression}
use Rattle.es_tree.specs.declared.options.EnvOptions.{EnvOptions}
use Rattle.es_runs.proofs.Named.{or_first}
use Rattle.es_runs.specs.LogicalAssignment.{is_logical_assignment_operator}
use Rattle.es_resolution.specs.Declarations.{Bound}
use Rattle.es_resolution.specs.Laws.{source}
use Rattle.es_steps.specs.CoreRules.{RowRule, where_on}
use Rattle.es_steps.specs.Exponentiation.{ExponentiationRule}
use Rattle.es_steps.specs.Exponentiation.ExponentiationRule.{power, power_assignment}
use Rattle.es_steps.specs.LogicalAssignment.{LogicalAssignmentRule}
use Rattle.es_steps.specs.LogicalAssignment.LogicalAssignmentRule.{to_name, to_static_member, to_computed_member}
use Rattle.es_steps.specs.ObjectSpread.{SpreadRule}
use Rattle.es_steps.specs.ObjectSpread.SpreadRule.{spreads}
use Rattle.es_steps.specs.Open.{Open, finished, finished_fields}
use Rattle.es_steps.specs.OptionalChaining.{OptionalChainingRule}
use Rattle.es_steps.specs.OptionalChaining.OptionalChainingRule.{by_tests, as_callee, in_delete}
use Rattle.es_steps.specs.Nodes.{identifier}
use Rattle.es_steps.specs.RestAssignments.{RestAssignmentRule}
use Rattle.es_steps.specs.RestAssignments.RestAssignmentRule.{assigns}
use Rattle.es_steps.specs.Rules.{Replacing}
use Rattle.es_steps.specs.Rules.Replacing.{replaces}
use Rattle.es_steps.specs.Steps.{Ledger, Site, Spot, Step, Whole, the_program}
use Rattle.es_steps.specs.WrapRule.{OutsideSlots}
use Rattle.es_steps.proofs.BridgeInclusion.{step_under}
use Rattle.es_steps.proofs.FormOpen.{IsProper}
use Rattle.es_valid_steps.proofs.FurtherSteps.{alone as all_alone}
use Rattle.es_statement_steps.proofs.AloneRules.{alone, among-all}
use Rattle.es_reached.specs.Reached.{built_rules}
use Rattle.es_reached.specs.Unmade.{Sought, is_sought, of_assigned_rests, of_assignments, of_chains, of_powers, of_spreads}
use Rattle.es_reached.proofs.FreeRows.{built-free}
use Rattle.es_steps.proofs.RestParts.{pattern-rest}
use Rattle.es_reached.proofs.FreeSteps.{kept, or-none, source-sought}
use Rattle.es_reached.proofs.FreeTrees.{Free, FreeAll, FreeBy, FreeIn, LedgerFree, free, inner-free}
use Rattle.es_statement_steps.proofs.Below.{Below, BelowField, BelowTrees}
use Rattle.es_statement_steps.proofs.Composition.{Exports}
use Rattle.es_statement_steps.proofs.NoSteps.{never-step, off-step}
use Rattle.es_statement_steps.proofs.NothingBeside.{IsAlone}
use Rattle.es_statement_steps.proofs.Premises.{Inwards, Premise, With, premised}
use Rattle.es_statement_steps.proofs.Tamed.{Class}

-- ALONG STEPS

-- what doesn't stand in the program doesn't stand in the tree
abbrev pub Absent : Tree → Tree → Type 0
Absent p t = (c : Sought) → any_node (is_sought c) p ≡ false → Free (is_sought c) t

pub absent-source : (p : Tree) → Absent p (source p)
absent-source p c e = free (is_sought c) (source p) (sym (source-sought c p) ∙ e)

alone-built : (o : EnvOptions) (n : Site) (s : Ledger) (x : Spot) (s' : Ledger) (y : Spot) → alone o n s x s' y → built_rules o n s x s' y
alone-built o n s x s' y r = at (among-all o n s x s' y r)
  where
    at : all_alone o n s x s' y → built_rules o n s x s' y
    at (inl q) = inl (inl q)
    at (inr (inl q)) = inl (inr (inl q))
    at (inr (inr q)) = inl (inr (inr (inr q)))

exports-built : (o : EnvOptions) (n : Site) (s : Ledger) (x : Spot) (s' : Ledger) (y : Spot) → Exports o n s x s' y → built_rules o n s x s' y
exports-built o n s x s' y r = inl (inr (inr (inl r)))

nothing-free : (T : AstType → Label → Fields → Bool) (s : Ledger) → IsAlone s → LedgerFree T s
nothing-free T s e = subst (λ (z : Ledger). LedgerFree T z) (sym e) (record { pending = record { vars = tt; lets = tt }; excluded = tt })

built-absent : (o : EnvOptions) (p : Tree) {s s' : Ledger} {x y : Open} → Step (built_rules o) the_program s x s' y → IsAlone s → Absent p (finished x) → Absent p (finished y)
built-absent o p {s = s} h alone a c e = (kept c (built_rules o) (built-free c o) h (nothing-free (is_sought c) s alone) (a c e)).free

pub absent-alone : (o : EnvOptions) (p : Tree) {s s' : Ledger} {x y : Open} → Step (alone o) the_program s x s' y → IsAlone s → Absent p (finished x) → Absent p (finished y)
absent-alone o p h = built-absent o p (step_under (alone o) (built_rules o) (alone-built o) h)

pub absent-exports : (o : EnvOptions) (p : Tree) {s s' : Ledger} {x y : Open} → Step (Exports o) the_program s x s' y → IsAlone s → Absent p (finished x) → Absent p (finished y)
absent-exports o p h = built-absent o p (step_under (Exports o) (built_rules o) (exports-built o) h)

-- WHERE A CONSTRUCT IS ABSENT ITS ROW NEVER ACTS

module _ (T : AstType → Label → Fields → Bool) where
  below-trees : (ts : Trees) → FreeAll T ts → BelowTrees (λ t. Free T t) ts
  below-trees empty h = tt
  below-trees (t before ts) h = (h.0, below-trees ts h.1)

  below-field : (f : Field) → FreeBy T f → BelowField (λ t. Free T t) f
  below-field missing h = tt
  below-field (one t) h = h
  below-field (many ts) h = below-trees ts h
  below-field (statements ts) h = below-trees ts h

  below-fields : (fs : Fields) → FreeIn T fs → Below (λ i t. Free T t) fs
  below-fields done h = tt
  below-fields (f then fs) h = (below-field f h.0, below-fields fs h.1)

  abbrev Here : Premise
  Here n w t = Free T t

  inwards : Inwards Here
  inwards n w k l fs h = below-fields (finished_fields fs) h.1

  never : (R : Site → Whole → List Bound → Tree → Tree → Type 0) → ((n : Site) (w : Whole) (bs : List Bound) (t u : Tree) → R n w bs t u → Free T t → ⊥) → {s s' : Ledger} {x y : Open} → Step (Replacing R) the_program s x s' y → IsProper x → Class (finished x) → Free T (finished x) → ⊥
  never R row h proper class f = never-step (With (Replacing R) Here) at (premised (Replacing R) Here inwards h proper class f)
    where
      at : (n : Site) (s : Ledger) (x : Spot) (s' : Ledger) (y : Spot) → With (Replacing R) Here n s x s' y → ⊥
      at n s x s' y (replaces {w = w} {t = t} {u = u} bs d, k) = row n w bs t u d k

no-both : (b : Bool) → b ≡ true → (b && true) ≡ false → ⊥
no-both true e h = absurd (cc h)
no-both false e h = absurd (cc e)

no-first : (b c : Bool) → b ≡ true → ((b && true) || c || false) ≡ false → ⊥
no-first true c e h = absurd (cc h)
no-first false c e h = absurd (cc e)

no-one : (b : Bool) → b ≡ true → ((b && true) || false) ≡ false → ⊥
no-one true e h = absurd (cc h)
no-one false e h = absurd (cc e)

no-last : (b c : Bool) → c ≡ true → ((b && false) || (c && true) || false) ≡ false → ⊥
no-last true true e h = absurd (cc h)
no-last false true e h = absurd (cc h)
no-last b false e h = absurd (cc e)

spread-acts : (n : Site) (w : Whole) (bs : List Bound) (t u : Tree) → SpreadRule n w bs t u → Free (is_sought of_spreads) t → ⊥
spread-acts n w bs t u (spreads {ps = ps} scope used some none made_so) h = no-both (any_kind is_spread ps) some (sym (or-none (any_kind is_spread ps && true)) ∙ h.0)

chain-acts : (no_all : Bool) (n : Site) (w : Whole) (bs : List Bound) (t u : Tree) → OptionalChainingRule no_all n w bs t u → Free (is_sought of_chains) t → ⊥
chain-acts no_all n w bs t u (by_tests level r some) h = absurd (cc h.0)
chain-acts no_all n w bs t u (as_callee level r some callee) h = absurd (cc h.0)
chain-acts no_all n w bs _ u (in_delete {l = l} {t = t} {e = e} texts alone target r some) h = absurd (let inner : Free (is_sought of_chains) (node ChainExpression l (one e then done)) = subst (λ (x : Tree). Free (is_sought of_chains) x) target (inner-free (is_sought of_chains) t h.1.0) in let no : true ≡ false = inner.0 in cc no)

-- an assignment by such an operator
assigned-by : (m : Label) (op : Text) → m.texts ≡ Some op ∷ [] → is_logical_assignment_operator op ≡ true → is_logical_assignment_operator (first_text m.texts) ≡ true
assigned-by m op e h = ap (λ (ts : List (Option Text)). is_logical_assignment_operator (first_text ts)) e ∙ h

assignment-acts : (n : Site) (w : Whole) (bs : List Bound) (t u : Tree) → LogicalAssignmentRule n w bs t u → Free (is_sought of_assignments) t → ⊥
assignment-acts n w bs t u (to_name {m = m} {op = op} texts operator alone at) h = no-first (is_logical_assignment_operator (first_text m.texts)) (bytes_eq (first_text m.texts) (codes "**=") && false) (assigned-by m op texts operator) h.0
assignment-acts n w bs t u (to_static_member {m = m} {op = op} texts operator alone at flags object) h = no-first (is_logical_assignment_operator (first_text m.texts)) (bytes_eq (first_text m.texts) (codes "**=") && false) (assigned-by m op texts operator) h.0
assignment-acts n w bs t u (to_computed_member {m = m} {op = op} texts operator alone at flags object key) h = no-first (is_logical_assignment_operator (first_text m.texts)) (bytes_eq (first_text m.texts) (codes "**=") && false) (assigned-by m op texts operator) h.0

power-acts : (n : Site) (w : Whole) (bs : List Bound) (t u : Tree) → ExponentiationRule n w bs t u → Free (is_sought of_powers) t → ⊥
power-acts n w bs t u (power {m = m} f texts left right) h = no-one (bytes_eq (first_text m.texts) (codes "**")) (ap (λ (ts : List (Option Text)). bytes_eq (first_text ts) (codes "**")) texts) h.0
power-acts n w bs t u (power_assignment {m = m} f texts right alone twice) h = no-last (is_logical_assignment_operator (first_text m.texts)) (bytes_eq (first_text m.texts) (codes "**=")) (ap (λ (ts : List (Option Text)). bytes_eq (first_text ts) (codes "**=")) texts) h.0

rest-acts : (n : Site) (w : Whole) (bs : List Bound) (t u : Tree) → RestAssignmentRule n w bs t u → Free (is_sought of_assigned_rests) t → ⊥
rest-acts n w bs t u (assigns {lp = lp} {ps = ps} {x = x} {xs = xs} {us = us} scope used texts silent next takes) h =
    no-both (any_kind is_rest ps) (pattern-rest (identifier x) lp _ ps xs us takes) (or_first (any_kind is_rest ps && true) false (sym (or-none ((any_kind is_rest ps && true) || false)) ∙ h.1.0.0))

-- no step is one of this rule, where what doesn't stand in the program doesn't stand there either
abbrev pub Never : Tree → (Site → Ledger → Spot → Ledger → Spot → Type 0) → Type 0
Never p R = (s s' : Ledger) (x y : Open) → Step R the_program s x s' y → IsProper x → Class (finished x) → Absent p (finished x) → ⊥

pub no-spread : (p : Tree) → any_node (is_sought of_spreads) p ≡ false → Never p (Replacing SpreadRule)
no-spread p e s s' x y h proper class a = never (is_sought of_spreads) SpreadRule spread-acts h proper class (a of_spreads e)

pub no-chain : (no_all : Bool) (p : Tree) → any_node (is_sought of_chains) p ≡ false → Never p (RowRule (OptionalChainingRule no_all))
no-chain no_all p e s s' x y h proper class a = never (is_sought of_chains) (OutsideSlots (OptionalChainingRule no_all)) (λ n w bs t u d. chain-acts no_all n w bs t u d.rule) h proper class (a of_chains e)

pub no-assignment : (p : Tree) → any_node (is_sought of_assignments) p ≡ false → Never p (RowRule LogicalAssignmentRule)
no-assignment p e s s' x y h proper class a = never (is_sought of_assignments) (OutsideSlots LogicalAssignmentRule) (λ n w bs t u d. assignment-acts n w bs t u d.rule) h proper class (a of_assignments e)

pub no-power : (p : Tree) → any_node (is_sought of_powers) p ≡ false → Never p (RowRule ExponentiationRule)
no-power p e s s' x y h proper class a = never (is_sought of_powers) (OutsideSlots ExponentiationRule) (λ n w bs t u d. power-acts n w bs t u d.rule) h proper class (a of_powers e)

pub no-rest : (p : Tree) → any_node (is_sought of_assigned_rests) p ≡ false → Never p (RowRule RestAssignmentRule)
no-rest p e s s' x y h proper class a = never (is_sought of_assigned_rests) (OutsideSlots RestAssignmentRule) (λ n w bs t u d. rest-acts n w bs t u d.rule) h proper class (a of_assigned_rests e)

-- nor is one where it isn't asked for
pub not-there : (asked there : Bool) (p : Tree) (R : Site → Ledger → Spot → Ledger → Spot → Type 0) → (asked && there) ≡ false → (there ≡ false → Never p R) → Never p (where_on asked R)
not-there true there p R e f = f e
not-there false there p R e f = λ s s' x y h proper class a. off-step false R refl h
