-- Steps among the fields of a node make it no construct of a lowering: rules act on no private member, on no parentheses and on no BigInt
-- literal, but for the wrap rule, which acts on slots, and no operand of an assignment or an operator is one.
-- A field that holds something holds something after a step, and one that holds nothing has none. Nothing that rules make is a spread, a rest
-- or a pattern.
use Rattle.std.proofs.Common.{◌≡◌, ◌∙◌, ℕ, zero, Bool, true, false, refl, sym, ap, subst, inl, inr, true≢false}
use Rattle.std.proofs.lemmas.Bool.{and_right, or_from}
use Rattle.std.specs.Prelude.{◌&&◌, ◌||◌, not, List, [], ◌∷◌, Option, None, Some, bytes_eq, codes, is_some}
use Rattle.es_tree.specs.Constructs.{any_kind, field_at, has_member, is_big_int, is_chain, is_child, is_exponentiation, is_logical_assignment, is_nullish_coalescing, is_object_spread, is_optional_catch, is_private_member, is_private_name, is_private_target, is_rest, is_spread, stands}
use Rattle.es_tree.specs.CoreStaticRules.{is_simple_target as is_simple_kind}
use Rattle.es_tree.specs.Names.{first_text}
use Rattle.es_tree.specs.Parens.{without_parens}
use Rattle.es_tree.specs.RestTargets.{is_rest_assignment, is_rest_target}
use Rattle.es_tree.specs.Tree.{Tree, node, Label, Fields, ◌then◌, Field, one, many, statements, Trees, ◌before◌, fields_of, kind_of, trees}
use Rattle.es_tree.specs.declared.ast_type.AstType.{AstType}
use Rattle.es_tree.specs.declared.ast_type.AstType.TheVariants.{AssignmentExpression, BigIntLiteral, BinaryExpression, CatchClause, ChainExpression, Identifier, LogicalExpression, MemberExpression, ObjectExpression, ObjectTarget, ParenthesizedExpression, PrivateIdentifier, RestElement, SpreadElement, TargetRest, UnaryExpression}
use Rattle.es_tree.specs.declared.options.EnvOptions.{EnvOptions}
use Rattle.es_runs.specs.OptionalChaining.{has_tests, where_short}
use Rattle.es_resolution.specs.Declarations.{Bound}
use Rattle.es_steps.specs.CoreRules.{RowRule, rule_under, where_on}
use Rattle.es_steps.specs.Exponentiation.{ExponentiationRule}
use Rattle.es_steps.specs.Exponentiation.ExponentiationRule.{power, power_assignment}
use Rattle.es_steps.specs.LogicalAssignment.{LogicalAssignmentRule}
use Rattle.es_steps.specs.LogicalAssignment.LogicalAssignmentRule.{to_name, to_static_member, to_computed_member}
use Rattle.es_steps.specs.Nodes.{joined_trees, placed}
use Rattle.es_steps.specs.NullishCoalescing.{NullishCoalescingRule}
use Rattle.es_steps.specs.NullishCoalescing.NullishCoalescingRule.{with_temporary, reading_again}
use Rattle.es_steps.specs.ObjectSpread.{Copies, SpreadRule, copied, last_copied}
use Rattle.es_steps.specs.ObjectSpread.Copies.{no_more, copies, keeps}
use Rattle.es_steps.specs.ObjectSpread.SpreadRule.{spreads}
use Rattle.es_steps.specs.Open.{Open, OpenFields, OpenField, OpenTrees, body, child, children, finished, finished_field, finished_fields, finished_trees, flanks_with, followed_by, gap, list, opened, opened_trees}
use Rattle.es_steps.specs.OptionalCatch.{CatchRule}
use Rattle.es_steps.specs.OptionalCatch.CatchRule.{catches}
use Rattle.es_steps.specs.OptionalChaining.{OptionalChainingRule}
use Rattle.es_steps.specs.OptionalChaining.OptionalChainingRule.{by_tests, as_callee, in_delete}
use Rattle.es_steps.specs.RestAssignments.{RestAssignmentRule}
use Rattle.es_steps.specs.RestAssignments.RestAssignmentRule.{assigns}
use Rattle.es_steps.specs.Rules.Replacing.{replaces}
use Rattle.es_steps.specs.Slots.{is_slot}
use Rattle.es_steps.specs.Steps.{FieldStep, FieldsStep, Ledger, Site, Spot, Step, TreesStep, Whole, at_node, site_in}
use Rattle.es_steps.specs.Steps.Step.{acts, inside}
use Rattle.es_steps.specs.Steps.FieldsStep.{in_first, in_later}
use Rattle.es_steps.specs.Steps.FieldStep.{in_child, in_children, in_body, in_list, in_target, in_program, acts_on_list, acts_on_body}
use Rattle.es_steps.specs.Steps.TreesStep.{in_head, in_tail, in_flanked, after_flanked, flanks, acts_on_flanked}
use Rattle.es_steps.specs.WrapRule.WrapRule.{wraps}
use Rattle.es_steps.proofs.Opened.{finished-followed, finished-opened}
use Rattle.es_steps.proofs.RuleLaws.{writes-lists}
use Rattle.es_steps.proofs.Taken.{flanks-rest}
use Rattle.es_changes.specs.Rules.{IsLawfulRule}
use Rattle.es_changes.proofs.Lawful.{law_lawful_proof}
use Rattle.es_traverse.specs.Bodies.{BodiesStand, BodiesStandAmong, BodiesStandBy, BodiesStandIn}
use Rattle.es_traverse.specs.Laws.{IsStable}
use Rattle.es_row_laws.specs.Laws.{KeepsConstructs, LawStable, LawStableRows, is_lowered_assignment, is_lowered_power, is_lowered_rest, is_simple, is_simple_node, is_simple_rest, is_simple_target, rests_are_simple, object_spread_under, optional_catch_under, rest_assignment_under}
use Rattle.es_row_laws.proofs.Fewer.{fewer-stable}
use Rattle.es_row_laws.proofs.Lawful.{exponentiation-under, logical-assignment-under, nullish-coalescing-under, object-spread-lawful, optional-catch-lawful, optional-chaining-under, rest-assignment-lawful, writing-under}

-- WHERE RULES ACT

-- the kinds of nodes on which rules act, outside slots
abbrev is_acted_on : AstType → Bool
is_acted_on AssignmentExpression = true
is_acted_on BinaryExpression = true
is_acted_on CatchClause = true
is_acted_on ChainExpression = true
is_acted_on LogicalExpression = true
is_acted_on ObjectExpression = true
is_acted_on UnaryExpression = true
is_acted_on _ = false

-- what is made of them is no target, no spread and no rest
abbrev is_no_part : AstType → Bool
is_no_part Identifier = false
is_no_part MemberExpression = false
is_no_part ObjectTarget = false
is_no_part ParenthesizedExpression = false
is_no_part RestElement = false
is_no_part SpreadElement = false
is_no_part TargetRest = false
is_no_part _ = true

record Acts (t u : Tree) : Type 0 where
  on : is_acted_on (kind_of t) ≡ true
  made : is_no_part (kind_of u) ≡ true

abbrev RowActs : (Site → Whole → List Bound → Tree → Tree → Type 0) → Type 0
RowActs R = (n : Site) (w : Whole) (bs : List Bound) (t u : Tree) → R n w bs t u → Acts t u

-- a rule acts on nodes of such kinds, outside slots
abbrev ActsOn : (Site → Ledger → Spot → Ledger → Spot → Type 0) → Type 0
ActsOn R = (n : Site) (s s' : Ledger) (t u : Tree) → is_slot n.above ≡ false → R n s (at_node t) s' (at_node u) → Acts t u

assigning-acts : RowActs LogicalAssignmentRule
assigning-acts n w bs t u (to_name e1 e2 e3 e4) = record { on = refl; made = refl }
assigning-acts n w bs t u (to_static_member e1 e2 e3 e4 e5 d) = record { on = refl; made = refl }
assigning-acts n w bs t u (to_computed_member e1 e2 e3 e4 e5 d1 d2) = record { on = refl; made = refl }

coalescing-acts : RowActs NullishCoalescingRule
coalescing-acts n w bs t u (with_temporary e1 e2 d) = record { on = refl; made = refl }
coalescing-acts n w bs t u (reading_again e1 e2) = record { on = refl; made = refl }

short-made : (m : Label) (ts : List Tree) (a b : Tree) → has_tests ts ≡ true → is_no_part (kind_of (where_short m ts a b)) ≡ true
short-made m [] a b h = absurd (true≢false (sym h))
short-made m (t ∷ ts) a b h = refl

chaining-acts : (no_all : Bool) → RowActs (OptionalChainingRule no_all)
chaining-acts no_all n w bs t u (by_tests {m = m} {w = y} e d h) = record { on = refl; made = short-made m y.tests _ _ h }
chaining-acts no_all n w bs t u (as_callee {m = m} {w = y} e d h b) = record { on = refl; made = short-made m y.tests _ _ h }
chaining-acts no_all n w bs t u (in_delete {m = m} {w = y} e1 e2 e3 d h) = record { on = refl; made = short-made m y.tests _ _ h }

raising-acts : RowActs ExponentiationRule
raising-acts n w bs t u (power f e1 e2 e3) = record { on = refl; made = refl }
raising-acts n w bs t u (power_assignment {m = m} {r = r} {target = target} {read = read} {fs = []} f e1 e2 e3 d) = record { on = refl; made = refl }
raising-acts n w bs t u (power_assignment {fs = d1 ∷ ds} f e1 e2 e3 d) = record { on = refl; made = refl }

row-acts : (R : Site → Whole → List Bound → Tree → Tree → Type 0) → RowActs R → ActsOn (RowRule R)
row-acts R all n s s' t u slot (replaces {w = w} bs h) = all n w bs t u h.rule

on-acts : (b : Bool) (R : Site → Ledger → Spot → Ledger → Spot → Type 0) → ActsOn R → ActsOn (where_on b R)
on-acts true R h = h
on-acts false R h = λ n s s' t u slot r. absurd r

core-acts : (o : EnvOptions) → ActsOn (rule_under o)
core-acts o n s s' t u slot (inl h) = absurd (writes-lists h)
core-acts o n s s' t u slot (inr (inl (wraps r e here h))) = absurd (true≢false (sym here ∙ slot))
core-acts o n s s' t u slot (inr (inr (inl h))) = on-acts o.es2021.logical_assignment_operators (RowRule LogicalAssignmentRule) (row-acts LogicalAssignmentRule assigning-acts) n s s' t u slot h
core-acts o n s s' t u slot (inr (inr (inr (inl (inl h))))) = on-acts o.es2020.nullish_coalescing_operator (RowRule NullishCoalescingRule) (row-acts NullishCoalescingRule coalescing-acts) n s s' t u slot h
core-acts o n s s' t u slot (inr (inr (inr (inl (inr h))))) =
    on-acts o.es2020.optional_chaining (RowRule (OptionalChainingRule o.assumptions.no_document_all)) (row-acts (OptionalChainingRule o.assumptions.no_document_all) (chaining-acts o.assumptions.no_document_all)) n s s' t u slot h
core-acts o n s s' t u slot (inr (inr (inr (inr h)))) = on-acts o.es2016.exponentiation_operator (RowRule ExponentiationRule) (row-acts ExponentiationRule raising-acts) n s s' t u slot h

catch-acts : ActsOn CatchRule
catch-acts n s s' t u slot (catches fresh) = record { on = refl; made = refl }

-- a copy so far is a call or an object
abbrev IsCopy : Option Tree → Type 0
IsCopy None = Unit {0}
IsCopy (Some c) = is_no_part (kind_of c) ≡ true

copied-made : (f : Tree) (c : Option Tree) (ps : List Tree) (e : Tree) → is_no_part (kind_of (copied f c ps e)) ≡ true
copied-made f None ps e = refl
copied-made f (Some c) [] e = refl
copied-made f (Some c) (p ∷ ps) e = refl

last-made : (f : Tree) (c : Option Tree) (ps : List Tree) → IsCopy c → is_no_part (kind_of (last_copied f c ps)) ≡ true
last-made f None ps h = refl
last-made f (Some c) [] h = h
last-made f (Some c) (p ∷ ps) h = refl

copies-made : {f : Tree} {c : Option Tree} {ps : List Tree} {ts : Trees} {u : Tree} → Copies f c ps ts u → IsCopy c → is_no_part (kind_of u) ≡ true
copies-made (no_more {c = c} {ps = ps}) h = last-made _ c ps h
copies-made (copies {c = c} {ps = ps} {e = e} g) h = copies-made g (copied-made _ c ps e)
copies-made (keeps other g) h = copies-made g h

placed-made : (m : Label) (u : Tree) → is_no_part (kind_of u) ≡ true → is_no_part (kind_of (placed m u)) ≡ true
placed-made m (node k l fs) e = e

spreading-acts : RowActs SpreadRule
spreading-acts n w bs t u (spreads {m = m} {u = v} unbound used some quiet h) = record { on = refl; made = placed-made m v (copies-made h tt) }

assigning-rest-acts : RowActs RestAssignmentRule
assigning-rest-acts n w bs t u (assigns unbound used texts silent next takes) = record { on = refl; made = refl }

-- TESTS OF NODES

-- a test of kinds that is false of those on which rules act
abbrev IsQuiet : (AstType → Bool) → Type 0
IsQuiet test = (k : AstType) → is_acted_on k ≡ true → test k ≡ false

private-quiet : IsQuiet is_private_name
private-quiet PrivateIdentifier e = absurd (true≢false (sym e))
private-quiet _ e = refl

big-quiet : IsQuiet is_big_int
big-quiet BigIntLiteral e = absurd (true≢false (sym e))
big-quiet _ e = refl

-- whether a tree is a private member, maybe in parentheses
abbrev is_private : Tree → Bool
is_private t = is_private_member (kind_of (without_parens t)) (fields_of (without_parens t))

private-acts : (t : Tree) → is_acted_on (kind_of t) ≡ true → is_private t ≡ false
private-acts (node MemberExpression l fs) e = absurd (true≢false (sym e))
private-acts (node ParenthesizedExpression l fs) e = absurd (true≢false (sym e))
private-acts (node _ l fs) e = refl

simple-label : (k : AstType) (l : Label) (fs gs : Fields) → is_simple_node (node k l fs) ≡ is_simple_node (node k l gs)
simple-label Identifier l fs gs = refl
simple-label MemberExpression l fs gs = refl
simple-label _ l fs gs = refl

no-target : (t : Tree) → is_no_part (kind_of t) ≡ true → is_simple t ≡ false
no-target (node Identifier l fs) e = absurd (true≢false (sym e))
no-target (node MemberExpression l fs) e = absurd (true≢false (sym e))
no-target (node ParenthesizedExpression l fs) e = absurd (true≢false (sym e))
no-target (node _ l fs) e = refl

-- a test of kinds that is false of those that are made
abbrev IsUnmade : (AstType → Bool) → Type 0
IsUnmade test = (k : AstType) → is_no_part k ≡ true → test k ≡ false

no-spread : IsUnmade is_spread
no-spread SpreadElement e = absurd (true≢false (sym e))
no-spread _ e = refl

no-rest : IsUnmade is_rest
no-rest RestElement e = absurd (true≢false (sym e))
no-rest TargetRest e = absurd (true≢false (sym e))
no-rest _ e = refl

no-pattern : (t : Tree) → is_no_part (kind_of t) ≡ true → is_rest_target (one t) ≡ false
no-pattern (node ObjectTarget l fs) e = absurd (true≢false (sym e))
no-pattern (node _ l fs) e = refl

no-name : (t : Tree) → is_no_part (kind_of t) ≡ true → is_simple_kind (kind_of (without_parens t)) ≡ false
no-name (node Identifier l fs) e = absurd (true≢false (sym e))
no-name (node MemberExpression l fs) e = absurd (true≢false (sym e))
no-name (node ParenthesizedExpression l fs) e = absurd (true≢false (sym e))
no-name (node _ l fs) e = refl

-- no rest is acted on
rest-acts : (t : Tree) → is_acted_on (kind_of t) ≡ true → is_simple_rest t ≡ true
rest-acts (node TargetRest l fs) e = absurd (true≢false (sym e))
rest-acts (node _ l fs) e = refl

-- whether a field is a pattern whose rests are simple
abbrev are_simple : Field → Bool
are_simple (one (node ObjectTarget l (many ps then fs))) = rests_are_simple ps
are_simple _ = false

no-rests : (t : Tree) → is_no_part (kind_of t) ≡ true → are_simple (one t) ≡ false
no-rests (node ObjectTarget l fs) e = absurd (true≢false (sym e))
no-rests (node _ l fs) e = refl

lowered-rest : (l : Label) (fs : Fields) → is_lowered_rest AssignmentExpression l fs ≡ (is_rest_assignment AssignmentExpression l fs && are_simple (field_at 0 fs))
lowered-rest l (one (node ObjectTarget m (many ps then gs)) then fs) = refl
lowered-rest l fs = sym (and_right (is_rest_assignment AssignmentExpression l fs) false refl)

-- two tests neither of which was true stay so
neither-true : (a b c d : Bool) → (a ≡ false → c ≡ false) → (b ≡ false → d ≡ false) → (a || b) ≡ false → (c || d) ≡ false
neither-true true b c d f g e = absurd (true≢false e)
neither-true false b c d f g e = or_from c d (f refl) (g e)

-- of two tests one of which was false, that one stays so
either-false : (a b c d : Bool) → (a ≡ false → c ≡ false) → (b ≡ false → d ≡ false) → (a && b) ≡ false → (c && d) ≡ false
either-false a b false d f g e = refl
either-false true b true d f g e = g e
either-false false b true d f g e = absurd (true≢false (f refl))

-- a list of which something is false, by a test of its trees
abbrev ByFirst : (Tree → Bool) → (Trees → Bool) → Type 0
ByFirst test all = (t u : Tree) (ts us : Trees) → (test t ≡ false → test u ≡ false) → (all ts ≡ false → all us ≡ false) → all (t before ts) ≡ false → all (u before us) ≡ false

module _ (test : Tree → Bool) (all : Trees → Bool) (first : ByFirst test all) where
  joined-still : (bs : List Tree) (ts us : Trees) → (all ts ≡ false → all us ≡ false) → all (joined_trees (trees bs) ts) ≡ false → all (joined_trees (trees bs) us) ≡ false
  joined-still [] ts us f = f
  joined-still (b ∷ bs) ts us f = first b b (joined_trees (trees bs) ts) (joined_trees (trees bs) us) (λ e. e) (joined-still bs ts us f)

none-true : {b : Bool} → b ≡ false → b ≡ true → ⊥
none-true e d = true≢false (sym d ∙ e)

-- of `a && not p && y` a test that was true stays so
first-less : (a p q y : Bool) → (p ≡ true → q ≡ true) → (a && not p && y) ≡ false → (a && not q && y) ≡ false
first-less false p q y f e = refl
first-less true p true y f e = refl
first-less true true false y f e = absurd (true≢false (sym (f refl)))
first-less true false false y f e = e

last-less : (a p q : Bool) → (p ≡ true → q ≡ true) → (a && not p) ≡ false → (a && not q) ≡ false
last-less false p q f e = refl
last-less true p true f e = refl
last-less true true false f e = absurd (true≢false (sym (f refl)))
last-less true false false f e = e

second-less : (a b p q : Bool) → (p ≡ true → q ≡ true) → (a && b && not p) ≡ false → (a && b && not q) ≡ false
second-less false b p q f e = refl
second-less true b p q f e = last-less b p q f e

module _ (R : Site → Ledger → Spot → Ledger → Spot → Type 0) (lawful : IsLawfulRule R) (acts-on : ActsOn R) where
  -- STEPS OF A NODE

  module _ (test : AstType → Bool) (quiet : IsQuiet test) where
    kind-kept : {n : Site} {s s' : Ledger} {t u : Open} → Step R n s t s' u → is_slot n.above ≡ false → test (kind_of (finished t)) ≡ true → test (kind_of (finished u)) ≡ true
    kind-kept (acts {n = n} {s = s} {s' = s'} t u r) slot e = absurd (none-true (quiet (kind_of t) (acts-on n s s' t u slot r).on) (subst (λ (x : Tree). test (kind_of x) ≡ true) (finished-opened t) e))
    kind-kept (inside r) slot e = e

    -- of a field that holds no arrow's body
    child-kept : {n : Site} {s s' : Ledger} {f g : OpenField} → FieldStep R n s f s' g → is_slot n.above ≡ false → BodiesStandBy false f → is_child test (finished_field f) ≡ true → is_child test (finished_field g) ≡ true
    child-kept (in_child r) slot h e = kind-kept r slot e
    child-kept (in_children r) slot h e = absurd (true≢false (sym e))
    child-kept (in_body x y z r) slot h e = absurd (true≢false (sym h.0))
    child-kept (in_list x y r) slot h e = absurd (true≢false (sym e))
    child-kept (in_target x r) slot h e = absurd (true≢false (sym e))
    child-kept (in_program x r) slot h e = absurd (true≢false (sym e))
    child-kept (acts_on_list ts us r) slot h e = absurd (true≢false (sym e))
    child-kept (acts_on_body t u r) slot h e = absurd (true≢false (sym h.0))

  -- PRIVATE MEMBERS

  member-kept : (n : Site) (l : Label) (first : OpenFields) {s s' : Ledger} {fs gs : OpenFields} → FieldsStep R (site_in n MemberExpression l first) s fs s' gs → BodiesStandIn (λ i. false) fs → is_private_member MemberExpression (finished_fields fs) ≡ true → is_private_member MemberExpression (finished_fields gs) ≡ true
  member-kept n l first (in_first r) h e = e
  member-kept n l first (in_later (in_first r)) h e = child-kept is_private_name private-quiet r refl h.1.0 e
  member-kept n l first (in_later (in_later r)) h e = e

  mutual
    private-kept : {n : Site} {s s' : Ledger} {t u : Open} → Step R n s t s' u → is_slot n.above ≡ false → BodiesStand t → is_private (finished t) ≡ true → is_private (finished u) ≡ true
    private-kept (acts {n = n} {s = s} {s' = s'} t u r) slot h e = absurd (none-true (private-acts t (acts-on n s s' t u slot r).on) (subst (λ (x : Tree). is_private x ≡ true) (finished-opened t) e))
    private-kept (inside {n = n} {k = MemberExpression} {l = l} {fs = fs} r) slot h e = member-kept n l fs r h e
    private-kept (inside {n = n} {k = ParenthesizedExpression} {l = l} {fs = fs} r) slot h e = parens-kept l r refl h e
    private-kept (inside {k = _} r) slot h e = absurd (true≢false (sym e))

    parens-kept : (l : Label) {c : ℕ → Site} {s s' : Ledger} {fs gs : OpenFields} → FieldsStep R c s fs s' gs → is_slot (c zero).above ≡ false → BodiesStandIn (λ i. false) fs →
        is_private (node ParenthesizedExpression l (finished_fields fs)) ≡ true → is_private (node ParenthesizedExpression l (finished_fields gs)) ≡ true
    parens-kept l (in_first (in_child r)) slot h e = private-kept r slot h.0 e
    parens-kept l (in_first (in_children r)) slot h e = absurd (true≢false (sym e))
    parens-kept l (in_first (in_body x y z r)) slot h e = absurd (true≢false (sym h.0.0))
    parens-kept l (in_first (in_list x y r)) slot h e = absurd (true≢false (sym e))
    parens-kept l (in_first (in_target x r)) slot h e = absurd (true≢false (sym e))
    parens-kept l (in_first (in_program x r)) slot h e = absurd (true≢false (sym e))
    parens-kept l (in_first (acts_on_list ts us r)) slot h e = absurd (true≢false (sym e))
    parens-kept l (in_first (acts_on_body t u r)) slot h e = absurd (true≢false (sym h.0.0))
    parens-kept l (in_later {f = gap} r) slot h e = e
    parens-kept l (in_later {f = child t} r) slot h e = e
    parens-kept l (in_later {f = body p t} r) slot h e = e
    parens-kept l (in_later {f = children ts} r) slot h e = e
    parens-kept l (in_later {f = list p x a ts} r) slot h e = e

  target-kept : {n : Site} {s s' : Ledger} {f g : OpenField} → FieldStep R n s f s' g → is_slot n.above ≡ false → BodiesStandBy false f → is_private_target (finished_field f) ≡ true → is_private_target (finished_field g) ≡ true
  target-kept (in_child r) slot h e = private-kept r slot h e
  target-kept (in_children r) slot h e = absurd (true≢false (sym e))
  target-kept (in_body x y z r) slot h e = absurd (true≢false (sym h.0))
  target-kept (in_list x y r) slot h e = absurd (true≢false (sym e))
  target-kept (in_target x r) slot h e = absurd (true≢false (sym e))
  target-kept (in_program x r) slot h e = absurd (true≢false (sym e))
  target-kept (acts_on_list ts us r) slot h e = absurd (true≢false (sym e))
  target-kept (acts_on_body t u r) slot h e = absurd (true≢false (sym h.0))

  -- TARGETS that are no name and no member

  module _ (test : Tree → Bool) (by_label : (k : AstType) (l : Label) (fs gs : Fields) → test (node k l fs) ≡ test (node k l gs)) (no_parens : (l : Label) (fs : Fields) → test (node ParenthesizedExpression l fs) ≡ false) (unmade : (t : Tree) → is_no_part (kind_of t) ≡ true → test (without_parens t) ≡ false) where
    mutual
      plain-kept : {n : Site} {s s' : Ledger} {t u : Open} → Step R n s t s' u → is_slot n.above ≡ false → BodiesStand t → test (without_parens (finished t)) ≡ false → test (without_parens (finished u)) ≡ false
      plain-kept (acts {n = n} {s = s} {s' = s'} t u r) slot h e = subst (λ (x : Tree). test (without_parens x) ≡ false) (sym (finished-opened u)) (unmade u (acts-on n s s' t u slot r).made)
      plain-kept (inside {k = ParenthesizedExpression} {l = l} r) slot h e = below-kept l r refl h e
      plain-kept (inside {k = k} {l = l} {fs = fs} {gs = gs} r) slot h e = by_label k l (finished_fields gs) (finished_fields fs) ∙ e

      below-kept : (l : Label) {c : ℕ → Site} {s s' : Ledger} {fs gs : OpenFields} → FieldsStep R c s fs s' gs → is_slot (c zero).above ≡ false → BodiesStandIn (λ i. false) fs →
          test (without_parens (node ParenthesizedExpression l (finished_fields fs))) ≡ false → test (without_parens (node ParenthesizedExpression l (finished_fields gs))) ≡ false
      below-kept l (in_first (in_child r)) slot h e = plain-kept r slot h.0 e
      below-kept l (in_first (in_children r)) slot h e = no_parens l _
      below-kept l (in_first (in_body x y z r)) slot h e = absurd (true≢false (sym h.0.0))
      below-kept l (in_first (in_list x y r)) slot h e = no_parens l _
      below-kept l (in_first (in_target x r)) slot h e = no_parens l _
      below-kept l (in_first (in_program x r)) slot h e = no_parens l _
      below-kept l (in_first (acts_on_list ts us r)) slot h e = no_parens l _
      below-kept l (in_first (acts_on_body t u r)) slot h e = absurd (true≢false (sym h.0.0))
      below-kept l (in_later {f = gap} r) slot h e = no_parens l _
      below-kept l (in_later {f = child t} r) slot h e = e
      below-kept l (in_later {f = body p t} r) slot h e = e
      below-kept l (in_later {f = children ts} r) slot h e = no_parens l _
      below-kept l (in_later {f = list p x a ts} r) slot h e = no_parens l _

  -- THE FIRST FIELD of an assignment

  module _ (test : Field → Bool) (lists : (ts : Trees) → (test (many ts) ≡ false) × (test (statements ts) ≡ false)) (each : (n : Site) (s s' : Ledger) (t u : Open) → Step R n s t s' u → is_slot n.above ≡ false → BodiesStand t → test (one (finished t)) ≡ false → test (one (finished u)) ≡ false) where
    field-kept : {n : Site} {s s' : Ledger} {f g : OpenField} → FieldStep R n s f s' g → is_slot n.above ≡ false → BodiesStandBy false f → test (finished_field f) ≡ false → test (finished_field g) ≡ false
    field-kept (in_child {n = n} {s = s} {s' = s'} {t = t} {u = u} r) slot h e = each n s s' t u r slot h e
    field-kept (in_children r) slot h e = (lists _).0
    field-kept (in_body x y z r) slot h e = absurd (true≢false (sym h.0))
    field-kept (in_list x y r) slot h e = (lists _).1
    field-kept (in_target x r) slot h e = (lists _).1
    field-kept (in_program x r) slot h e = (lists _).1
    field-kept (acts_on_list ts us r) slot h e = (lists _).1
    field-kept (acts_on_body t u r) slot h e = absurd (true≢false (sym h.0))

    first-still : {c : ℕ → Site} {s s' : Ledger} {fs gs : OpenFields} → FieldsStep R c s fs s' gs → is_slot (c zero).above ≡ false → BodiesStandIn (λ i. false) fs → test (field_at 0 (finished_fields fs)) ≡ false → test (field_at 0 (finished_fields gs)) ≡ false
    first-still (in_first r) slot h e = field-kept r slot h.0 e
    first-still (in_later r) slot h e = e

  first-kept : {c : ℕ → Site} {s s' : Ledger} {fs gs : OpenFields} → FieldsStep R c s fs s' gs → is_slot (c zero).above ≡ false → BodiesStandIn (λ i. false) fs → is_simple_target (field_at 0 (finished_fields fs)) ≡ false → is_simple_target (field_at 0 (finished_fields gs)) ≡ false
  first-kept r = first-still is_simple_target (λ ts. (refl, refl)) (λ n s s' t u q. plain-kept is_simple_node simple-label (λ l fs. refl) no-target q) r

  -- CONSTRUCTS

  assignment-kept : (n : Site) (l : Label) (first : OpenFields) {s s' : Ledger} {fs gs : OpenFields} → FieldsStep R (site_in n AssignmentExpression l first) s fs s' gs → BodiesStandIn (λ i. false) fs → is_logical_assignment AssignmentExpression l (finished_fields fs) ≡ false → is_logical_assignment AssignmentExpression l (finished_fields gs) ≡ false
  assignment-kept n l first (in_first {f = f} {g = g} r) h e =
      last-less (bytes_eq (first_text l.texts) (codes "||=") || bytes_eq (first_text l.texts) (codes "&&=") || bytes_eq (first_text l.texts) (codes "??=")) (is_private_target (finished_field f)) (is_private_target (finished_field g)) (target-kept r refl h.0) e
  assignment-kept n l first (in_later r) h e = e

  assignment-stable : IsStable R is_lowered_assignment
  assignment-stable n s s' AssignmentExpression l first fs gs h r e =
      either-false (is_logical_assignment AssignmentExpression l (finished_fields fs)) (is_simple_target (field_at 0 (finished_fields fs))) (is_logical_assignment AssignmentExpression l (finished_fields gs)) (is_simple_target (field_at 0 (finished_fields gs)))
      (assignment-kept n l first r h) (first-kept r refl h) e
  assignment-stable n s s' k l first fs gs h r e = refl

  operation-kept : (n : Site) (l : Label) (first : OpenFields) {s s' : Ledger} {fs gs : OpenFields} → FieldsStep R (site_in n BinaryExpression l first) s fs s' gs → BodiesStandIn (λ i. false) fs → is_exponentiation BinaryExpression l (finished_fields fs) ≡ false → is_exponentiation BinaryExpression l (finished_fields gs) ≡ false
  operation-kept n l first (in_first {f = f} {g = g} {fs = fs} r) h e =
      first-less (bytes_eq (first_text l.texts) (codes "**")) (is_child is_big_int (finished_field f)) (is_child is_big_int (finished_field g)) (not (is_child is_big_int (field_at 0 (finished_fields fs)))) (child-kept is_big_int big-quiet r refl h.0) e
  operation-kept n l first (in_later {f = d} (in_first {f = f} {g = g} r)) h e =
      second-less (bytes_eq (first_text l.texts) (codes "**")) (not (is_child is_big_int (finished_field d))) (is_child is_big_int (finished_field f)) (is_child is_big_int (finished_field g)) (child-kept is_big_int big-quiet r refl h.1.0) e
  operation-kept n l first (in_later (in_later r)) h e = e

  raised-kept : (n : Site) (l : Label) (first : OpenFields) {s s' : Ledger} {fs gs : OpenFields} → FieldsStep R (site_in n AssignmentExpression l first) s fs s' gs → BodiesStandIn (λ i. false) fs → is_exponentiation AssignmentExpression l (finished_fields fs) ≡ false → is_exponentiation AssignmentExpression l (finished_fields gs) ≡ false
  raised-kept n l first (in_first r) h e = e
  raised-kept n l first (in_later (in_first {f = f} {g = g} r)) h e =
      last-less (bytes_eq (first_text l.texts) (codes "**=")) (is_child is_big_int (finished_field f)) (is_child is_big_int (finished_field g)) (child-kept is_big_int big-quiet r refl h.1.0) e
  raised-kept n l first (in_later (in_later r)) h e = e

  exponentiation-stable : IsStable R is_lowered_power
  exponentiation-stable n s s' BinaryExpression l first fs gs h r e = operation-kept n l first r h e
  exponentiation-stable n s s' AssignmentExpression l first fs gs h r e =
      either-false (is_exponentiation AssignmentExpression l (finished_fields fs)) (is_simple_target (field_at 0 (finished_fields fs))) (is_exponentiation AssignmentExpression l (finished_fields gs)) (is_simple_target (field_at 0 (finished_fields gs)))
      (raised-kept n l first r h) (first-kept r refl h) e
  exponentiation-stable n s s' k l first fs gs h r e = refl

  -- these look at the kind and the label alone
  coalescing-stable : IsStable R is_nullish_coalescing
  coalescing-stable n s s' LogicalExpression l first fs gs h r e = e
  coalescing-stable n s s' k l first fs gs h r e = refl

  chain-stable : IsStable R is_chain
  chain-stable n s s' ChainExpression l first fs gs h r e = e
  chain-stable n s s' k l first fs gs h r e = refl

  -- what a step leaves in a field stands there
  still-stands : {n : Site} {s s' : Ledger} {f g : OpenField} → FieldStep R n s f s' g → stands (finished_field g) ≡ true
  still-stands (in_child r) = refl
  still-stands (in_children r) = refl
  still-stands (in_body x y z r) = refl
  still-stands (in_list x y r) = refl
  still-stands (in_target x r) = refl
  still-stands (in_program x r) = refl
  still-stands (acts_on_list ts us r) = refl
  still-stands (acts_on_body t u r) = refl

  parameter-kept : {c : ℕ → Site} {s s' : Ledger} {fs gs : OpenFields} → FieldsStep R c s fs s' gs → not (stands (field_at 0 (finished_fields fs))) ≡ false → not (stands (field_at 0 (finished_fields gs))) ≡ false
  parameter-kept (in_first r) e = ap (λ b. not b) (still-stands r)
  parameter-kept (in_later r) e = e

  catch-stable : IsStable R is_optional_catch
  catch-stable n s s' CatchClause l first fs gs h r e = parameter-kept r e
  catch-stable n s s' k l first fs gs h r e = refl

  -- LISTS

  module _ (test : Tree → Bool) (all : Trees → Bool) (first : ByFirst test all) where
    trees-still : ((n : Site) (s s' : Ledger) (t u : Open) → Step R n s t s' u → is_slot n.above ≡ false → BodiesStand t → test (finished t) ≡ false → test (finished u) ≡ false) →
        {n : Site} {s s' : Ledger} {ts us : OpenTrees} → TreesStep R n s ts s' us → is_slot n.above ≡ false → BodiesStandAmong ts → all (finished_trees ts) ≡ false → all (finished_trees us) ≡ false
    trees-still still (in_head {n = n} {s = s} {s' = s'} {t = t} {u = u} {ts = ts} r) slot h = first (finished t) (finished u) (finished_trees ts) (finished_trees ts) (still n s s' t u r slot h.0) (λ e. e)
    trees-still still (in_tail {t = t} {ts = ts} {us = us} r) slot h = first (finished t) (finished t) (finished_trees ts) (finished_trees us) (λ e. e) (trees-still still r slot h.1)
    trees-still still (in_flanked {n = n} {s = s} {s' = s'} {bs = bs} {cs = cs} {t = t} {u = u} {ts = ts} r) slot h =
        let rest = joined_trees (trees cs) (finished_trees ts) in
        joined-still test all first bs (finished t before rest) (finished u before rest) (first (finished t) (finished u) rest rest (still n s s' t u r slot h.0) (λ e. e))
    trees-still still (after_flanked {bs = bs} {cs = cs} {t = t} {ts = ts} {us = us} r) slot h =
        joined-still test all first bs (finished t before joined_trees (trees cs) (finished_trees ts)) (finished t before joined_trees (trees cs) (finished_trees us))
        (joined-still test all first (finished t ∷ cs) (finished_trees ts) (finished_trees us) (trees-still still r slot h.1))
    trees-still still (flanks {n = n} {s = s} {s' = s'} {bs = bs} {cs = cs} t u r) slot h = absurd (lawful.form.no_flanks n s s' t u bs cs r)
    trees-still still (acts_on_flanked {n = n} {s = s} {s' = s'} {bs = bs} {cs = cs} {ts = ts} t us r) slot h =
        let found = lawful.names.unflanking n s s' t bs cs us r in
        let rest = finished_trees ts in
        let same : flanks_with bs (finished (opened t)) cs rest ≡ finished_trees (followed_by (opened_trees us) ts) = (λ i. flanks_with bs (finished-opened t i) cs rest) ∙ sym (flanks-rest bs cs t rest) ∙ (λ i. joined_trees (found.1 i) rest) ∙ sym (finished-followed us ts) in
        subst (λ (z : Trees). all z ≡ false) same

  -- KINDS OF MEMBERS that rules don't make: no member becomes one

  module _ (kinds : AstType → Bool) (unmade : IsUnmade kinds) where
    member-still : (n : Site) (s s' : Ledger) (t u : Open) → Step R n s t s' u → is_slot n.above ≡ false → BodiesStand t → kinds (kind_of (finished t)) ≡ false → kinds (kind_of (finished u)) ≡ false
    member-still n s s' x y (acts t u r) slot h e = subst (λ (z : Tree). kinds (kind_of z) ≡ false) (sym (finished-opened u)) (unmade (kind_of u) (acts-on n s s' t u slot r).made)
    member-still n s s' x y (inside r) slot h e = e

    field-still : {n : Site} {s s' : Ledger} {f g : OpenField} → FieldStep R n s f s' g → is_slot n.above ≡ false → BodiesStandBy false f → has_member kinds (finished_field f) ≡ false → has_member kinds (finished_field g) ≡ false
    field-still (in_child r) slot h e = refl
    field-still (in_children r) slot h e = trees-still (λ t. kinds (kind_of t)) (any_kind kinds) (λ t u ts us. neither-true (kinds (kind_of t)) (any_kind kinds ts) (kinds (kind_of u)) (any_kind kinds us)) member-still r slot h e
    field-still (in_body x y z r) slot h e = refl
    field-still (in_list x y r) slot h e = refl
    field-still (in_target x r) slot h e = refl
    field-still (in_program x r) slot h e = refl
    field-still (acts_on_list ts us r) slot h e = refl
    field-still (acts_on_body t u r) slot h e = refl

    members-still : {c : ℕ → Site} {s s' : Ledger} {fs gs : OpenFields} → FieldsStep R c s fs s' gs → is_slot (c zero).above ≡ false → BodiesStandIn (λ i. false) fs → has_member kinds (field_at 0 (finished_fields fs)) ≡ false → has_member kinds (field_at 0 (finished_fields gs)) ≡ false
    members-still (in_first r) slot h e = field-still r slot h.0 e
    members-still (in_later r) slot h e = e

  spread-stable : IsStable R is_object_spread
  spread-stable n s s' ObjectExpression l first fs gs h r e = members-still is_spread no-spread r refl h e
  spread-stable n s s' k l first fs gs h r e = refl

  -- PATTERNS: none becomes one with a rest

  pattern-still : (n : Site) (s s' : Ledger) (t u : Open) → Step R n s t s' u → is_slot n.above ≡ false → BodiesStand t → is_rest_target (one (finished t)) ≡ false → is_rest_target (one (finished u)) ≡ false
  pattern-still n s s' x y (acts t u r) slot h e = subst (λ (z : Tree). is_rest_target (one z) ≡ false) (sym (finished-opened u)) (no-pattern u (acts-on n s s' t u slot r).made)
  pattern-still n s s' x y (inside {k = ObjectTarget} r) slot h e = members-still is_rest no-rest r refl h e
  pattern-still n s s' x y (inside {k = _} r) slot h e = e

  -- and a rest that is assigned to no name and no member stays so

  argument-still : (l : Label) {c : ℕ → Site} {s s' : Ledger} {fs gs : OpenFields} → FieldsStep R c s fs s' gs → is_slot (c zero).above ≡ false → BodiesStandIn (λ i. false) fs →
      is_simple_rest (node TargetRest l (finished_fields fs)) ≡ false → is_simple_rest (node TargetRest l (finished_fields gs)) ≡ false
  argument-still l (in_first (in_child r)) slot h e = plain-kept (λ t. is_simple_kind (kind_of t)) (λ k l fs gs. refl) (λ l fs. refl) no-name r slot h.0 e
  argument-still l (in_first (in_children r)) slot h e = absurd (true≢false e)
  argument-still l (in_first (in_body x y z r)) slot h e = absurd (true≢false (sym h.0.0))
  argument-still l (in_first (in_list x y r)) slot h e = absurd (true≢false e)
  argument-still l (in_first (in_target x r)) slot h e = absurd (true≢false e)
  argument-still l (in_first (in_program x r)) slot h e = absurd (true≢false e)
  argument-still l (in_first (acts_on_list ts us r)) slot h e = absurd (true≢false e)
  argument-still l (in_first (acts_on_body t u r)) slot h e = absurd (true≢false (sym h.0.0))
  argument-still l (in_later {f = gap} r) slot h e = absurd (true≢false e)
  argument-still l (in_later {f = child t} r) slot h e = e
  argument-still l (in_later {f = body p t} r) slot h e = e
  argument-still l (in_later {f = children ts} r) slot h e = absurd (true≢false e)
  argument-still l (in_later {f = list p x a ts} r) slot h e = absurd (true≢false e)

  rest-still : (n : Site) (s s' : Ledger) (t u : Open) → Step R n s t s' u → is_slot n.above ≡ false → BodiesStand t → is_simple_rest (finished t) ≡ false → is_simple_rest (finished u) ≡ false
  rest-still n s s' x y (acts t u r) slot h e = absurd (none-true (subst (λ (z : Tree). is_simple_rest z ≡ false) (finished-opened t) e) (rest-acts t (acts-on n s s' t u slot r).on))
  rest-still n s s' x y (inside {k = TargetRest} {l = l} r) slot h e = argument-still l r refl h e
  rest-still n s s' x y (inside {k = _} r) slot h e = absurd (true≢false e)

  rests-still : (l : Label) {c : ℕ → Site} {s s' : Ledger} {fs gs : OpenFields} → FieldsStep R c s fs s' gs → is_slot (c zero).above ≡ false → BodiesStandIn (λ i. false) fs →
      are_simple (one (node ObjectTarget l (finished_fields fs))) ≡ false → are_simple (one (node ObjectTarget l (finished_fields gs))) ≡ false
  rests-still l (in_first (in_child r)) slot h e = refl
  rests-still l (in_first (in_children r)) slot h e = trees-still is_simple_rest rests_are_simple (λ t u ts us. either-false (is_simple_rest t) (rests_are_simple ts) (is_simple_rest u) (rests_are_simple us)) rest-still r slot h.0 e
  rests-still l (in_first (in_body x y z r)) slot h e = refl
  rests-still l (in_first (in_list x y r)) slot h e = refl
  rests-still l (in_first (in_target x r)) slot h e = refl
  rests-still l (in_first (in_program x r)) slot h e = refl
  rests-still l (in_first (acts_on_list ts us r)) slot h e = refl
  rests-still l (in_first (acts_on_body t u r)) slot h e = refl
  rests-still l (in_later {f = gap} r) slot h e = refl
  rests-still l (in_later {f = child t} r) slot h e = refl
  rests-still l (in_later {f = body p t} r) slot h e = refl
  rests-still l (in_later {f = children ts} r) slot h e = e
  rests-still l (in_later {f = list p x a ts} r) slot h e = refl

  assigned-still : (n : Site) (s s' : Ledger) (t u : Open) → Step R n s t s' u → is_slot n.above ≡ false → BodiesStand t → are_simple (one (finished t)) ≡ false → are_simple (one (finished u)) ≡ false
  assigned-still n s s' x y (acts t u r) slot h e = subst (λ (z : Tree). are_simple (one z) ≡ false) (sym (finished-opened u)) (no-rests u (acts-on n s s' t u slot r).made)
  assigned-still n s s' x y (inside {k = ObjectTarget} {l = l} r) slot h e = rests-still l r refl h e
  assigned-still n s s' x y (inside {k = _} r) slot h e = refl

  rest-stable : IsStable R is_lowered_rest
  rest-stable n s s' AssignmentExpression l first fs gs h r e =
      let old = field_at 0 (finished_fields fs) in
      let new = field_at 0 (finished_fields gs) in
      let equals = bytes_eq (first_text l.texts) (codes "=") in
      let target = first-still is_rest_target (λ ts. (refl, refl)) pattern-still r refl h in
      let simple = first-still are_simple (λ ts. (refl, refl)) assigned-still r refl h in
      lowered-rest l (finished_fields gs) ∙ either-false (equals && is_rest_target old) (are_simple old) (equals && is_rest_target new) (are_simple new) (either-false equals (is_rest_target old) equals (is_rest_target new) (λ d. d) target) simple (sym (lowered-rest l (finished_fields fs)) ∙ e)
  rest-stable n s s' k l first fs gs h r e = refl

  all-stable : KeepsConstructs R
  all-stable = record {
    logical_assignment = assignment-stable;
    nullish_coalescing = coalescing-stable;
    optional_chaining = chain-stable;
    exponentiation = exponentiation-stable;
    optional_catch = catch-stable;
    object_spread = spread-stable;
    rest_assignment = rest-stable;
  }

-- THE LAWS

pub law_stable_proof : LawStable
law_stable_proof o = all-stable (rule_under o) (law_lawful_proof o) (core-acts o)

-- of a rule that holds only where the core rules do that options ask for
pub fewer-constructs : (o : EnvOptions) {Q : Site → Ledger → Spot → Ledger → Spot → Type 0} → ((n : Site) (s : Ledger) (x : Spot) (s' : Ledger) (y : Spot) → Q n s x s' y → rule_under o n s x s' y) → KeepsConstructs Q
fewer-constructs o under =
    let all = law_stable_proof o in
    record {
      logical_assignment = fewer-stable under is_lowered_assignment all.logical_assignment;
      nullish_coalescing = fewer-stable under is_nullish_coalescing all.nullish_coalescing;
      optional_chaining = fewer-stable under is_chain all.optional_chaining;
      exponentiation = fewer-stable under is_lowered_power all.exponentiation;
      optional_catch = fewer-stable under is_optional_catch all.optional_catch;
      object_spread = fewer-stable under is_object_spread all.object_spread;
      rest_assignment = fewer-stable under is_lowered_rest all.rest_assignment;
    }

pub law_stable_rows_proof : LawStableRows
law_stable_rows_proof o = record {
  writing = fewer-constructs o (writing-under o);
  logical_assignment = fewer-constructs o (logical-assignment-under o);
  nullish_coalescing = fewer-constructs o (nullish-coalescing-under o);
  optional_chaining = fewer-constructs o (optional-chaining-under o);
  exponentiation = fewer-constructs o (exponentiation-under o);
  optional_catch = all-stable (optional_catch_under o) (optional-catch-lawful o) (on-acts o.es2019.optional_catch_binding CatchRule catch-acts);
  object_spread = all-stable (object_spread_under o) (object-spread-lawful o) (λ n s s' t u slot h. on-acts (is_some o.es2018.object_rest_spread) (RowRule SpreadRule) (row-acts SpreadRule spreading-acts) n s s' t u slot h.0);
  rest_assignment = all-stable (rest_assignment_under o) (rest-assignment-lawful o) (on-acts (is_some o.es2018.object_rest_spread) (RowRule RestAssignmentRule) (row-acts RestAssignmentRule assigning-rest-acts));
}
