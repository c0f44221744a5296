-- Steps put no member of the object of helpers into a chain, where no spread is lowered while a chain stands around it.
use Rattle.std.proofs.Common.{inr, ◌≡◌, ℕ, zero, suc, refl, sym, ap, subst, ◌∙◌, List, [], ◌∷◌}
use Rattle.std.proofs.lemmas.Bool.{and_parts, and_from}
use Rattle.std.proofs.lemmas.Slice.Eq.{bytes_eq-Decides}
use Rattle.std.specs.Prelude.{Bool, true, false, not, ◌&&◌, ◌||◌, bytes_eq, codes, map}
use Rattle.es_tree.specs.HasForm.{has_form}
use Rattle.es_tree.specs.Scopes.{Declared}
use Rattle.es_tree.specs.Tree.{Tree, node, Label, Fields, done, ◌then◌, Field, missing, one, many, statements, Trees, empty, ◌before◌, trees}
use Rattle.es_tree.specs.Walks.{all_nodes, all_in_field, all_in_fields, all_in_trees}
use Rattle.es_tree.specs.Words.{Text}
use Rattle.es_tree.specs.declared.ast_type.AstType.{AstType}
use Rattle.es_tree.specs.declared.ast_type.AstType.TheVariants.{ChainExpression, Identifier, MemberExpression, ObjectExpression, ParenthesizedExpression, VariableDeclarator}
use Rattle.es_tree.specs.declared.options.EnvOptions.{EnvOptions}
use Rattle.es_tree.specs.declared.table.Sort.TheVariants.{Program as s-Program}
use Rattle.es_runs.specs.OptionalChaining.{delete_node, has_tests, is_chain_kind, true_node, where_short}
use Rattle.es_runs.specs.Rules.{void_zero_node}
use Rattle.es_runs.specs.Runs.{program}
use Rattle.es_resolution.specs.Declarations.{Bound}
use Rattle.es_steps.specs.CoreBridge.{names_among}
use Rattle.es_steps.specs.CoreRules.{RowRule}
use Rattle.es_steps.specs.Exponentiation.{ExponentiationRule, assigned_power}
use Rattle.es_steps.specs.Exponentiation.ExponentiationRule.{power, power_assignment}
use Rattle.es_steps.specs.LogicalAssignment.{LogicalAssignmentRule}
use Rattle.es_steps.specs.LogicalAssignment.LogicalAssignmentRule.{to_name, to_static_member, to_computed_member}
use Rattle.es_steps.specs.Nodes.{declarator, placed}
use Rattle.es_steps.specs.NullishCoalescing.{NullishCoalescingRule}
use Rattle.es_steps.specs.NullishCoalescing.NullishCoalescingRule.{reading_again, with_temporary}
use Rattle.es_steps.specs.ObjectSpread.{SpreadRule}
use Rattle.es_steps.specs.ObjectSpread.SpreadRule.{spreads}
use Rattle.es_steps.specs.Open.{Open, OpenField, OpenFields, OpenTrees, declaration, finished, finished_field, finished_fields, finished_trees, is_body, pending_statements, whole_list}
use Rattle.es_steps.specs.OptionalCatch.{CatchRule}
use Rattle.es_steps.specs.OptionalChaining.{OptionalChainingRule}
use Rattle.es_steps.specs.OptionalChaining.OptionalChainingRule.{by_tests, as_callee, in_delete}
use Rattle.es_steps.specs.Rules.{Replacing, Writing}
use Rattle.es_steps.specs.Rules.Replacing.{replaces}
use Rattle.es_steps.specs.Slots.{is_slot}
use Rattle.es_steps.specs.Steps.{FieldStep, FieldsStep, Ledger, Site, Spot, Step, TreesStep, Whole, site_in, the_program}
use Rattle.es_steps.specs.Steps.Spot.{at_node}
use Rattle.es_steps.specs.Steps.Step.{acts, inside}
use Rattle.es_steps.specs.Steps.FieldsStep.{in_first, in_later}
use Rattle.es_steps.specs.Steps.FieldStep.{acts_on_body, acts_on_list, in_body, in_child, in_children, in_list, in_program, in_target}
use Rattle.es_steps.specs.Steps.TreesStep.{acts_on_flanked, after_flanked, flanks, in_flanked, in_head, in_tail}
use Rattle.es_steps.proofs.FormOpen.{AreProperFields, AreProperTrees, IsProper, IsProperField}
use Rattle.es_steps.proofs.FormRules.{FormLawful}
use Rattle.es_steps.proofs.Opened.{finished-opened, finished-trees}
use Rattle.es_steps.proofs.RuleLaws.{writes-lists}
use Rattle.es_steps.proofs.Taken.{whole_in}
use Rattle.es_conditions.specs.CoreConditions.{is_in_chain}
use Rattle.es_statement_runs.specs.Helpers.Supply.{spread_by_global}
use Rattle.es_statement_runs.specs.Laws.{among_names}
use Rattle.es_statement_runs.specs.Places.{Take}
use Rattle.es_statement_runs.specs.Programs.{is_statement_node}
use Rattle.es_statement_runs.proofs.Moved.{Moved, MovedFields, MovedList, Room}
use Rattle.es_statement_runs.proofs.Moved.Moved.{moved_block, moved_case, moved_node, moved_place}
use Rattle.es_statement_runs.proofs.Moved.MovedField.{moved_many, moved_missing, moved_one, moved_statements}
use Rattle.es_statement_runs.proofs.Moved.MovedFields.{moved_done, moved_then}
use Rattle.es_statement_runs.proofs.AkinSupplies.{Apart}
use Rattle.es_statement_runs.specs.HelperMembers.{first_is_helpers, is_helpers_object, no_helper_member}
use Rattle.es_statement_steps.specs.Orders.{is_in_order, only_where}
use Rattle.es_statement_steps.proofs.Assignments.{AssigningRow, assigning-shape}
use Rattle.es_statement_steps.proofs.Below.{Below, BelowField, BelowTrees, both_below, nodes_below}
use Rattle.es_statement_steps.proofs.Catchings.{CatchRow, catch-rule}
use Rattle.es_statement_steps.proofs.Catchings.CatchMade.{made_catch}
use Rattle.es_statement_steps.proofs.ChainPlaces.{chains-program}
use Rattle.es_statement_steps.proofs.Chainings.{ChainingRow, chaining-shape}
use Rattle.es_statement_steps.proofs.ChainsApart.{apart-keeps, chain-apart, no_helper_in_chain, other-passes, other_name, other_object}
use Rattle.es_statement_steps.proofs.Coalescings.{CoalescingRow, coalescing-shape}
use Rattle.es_statement_steps.proofs.Composition.{Known, known-fine}
use Rattle.es_statement_steps.proofs.ExportSplits.{is_export_kind}
use Rattle.es_statement_steps.proofs.MadeNames.{all_made, made_among}
use Rattle.es_statement_steps.proofs.MadeOf.{PassesMade, any_name, any_object, assigning-of, chaining-of, coalescing-of, is_made_kind, passes-any, raising-of}
use Rattle.es_statement_steps.proofs.MovedTests.{Alone, fields-so, form_alone, list-so, name_alone}
use Rattle.es_statement_steps.proofs.OperandSteps.{ChainSteady, Suited, chain-steady-inwards, steady-program}
use Rattle.es_statement_steps.proofs.Powers.{RaisingRow, raising-shape}
use Rattle.es_statement_steps.proofs.Premises.{Inwards, Premise, RowWith, premised-runs}
use Rattle.es_statement_steps.proofs.ProgramMoves.{MovedProgram, ProgramWent, program-moved}
use Rattle.es_statement_steps.proofs.Replacings.{Row, replacing-rule}
use Rattle.es_statement_steps.proofs.RowRuns.{KeepsRuns, StepAlike}
use Rattle.es_statement_steps.proofs.SpreadParts.{spread-so}
use Rattle.es_statement_steps.proofs.StepMoves.{Acted, NodeRule, below-after}
use Rattle.es_statement_steps.proofs.StepRules.{Does, OffSlots, StatementRules, chains_under, on-does, on-rule, spreads_under, statement-does-where, statement-form, under-form, where-does, writing-form}
use Rattle.es_statement_steps.proofs.Tamed.{Class, no-arrow, node-kind}
use Rattle.es_statement_steps.proofs.WholeLists.{fields-pass, whole-below}
use Rattle.es_statement_steps.proofs.Writings.{written-same}

abbrev pub Nameless : Tree → Type 0
Nameless t = all_nodes no_helper_in_chain t ≡ true

-- PLACES: at no object literal in a chain

abbrev pub is_outside : Site → Spot → Bool
is_outside n (at_node (node ObjectExpression l fs)) = not (is_in_chain n.above)
is_outside n x = true

left-of : (slot on c : Bool) → slot ≡ false → on ≡ true → (slot || not (on && c)) ≡ true → not c ≡ true
left-of true on c e d h = absurd (cc e)
left-of false true c e d h = h
left-of false false c e d h = absurd (cc d)

-- so it is in no slot of steps in order, where chains are lowered
pub outside-slots : (o : EnvOptions) → o.es2020.optional_chaining ≡ true → OffSlots (is_in_order o) is_outside
outside-slots o on = record { nodes = nodes; lists = λ n p x a ts h. refl }
  where
    nodes : (n : Site) (t : Tree) → is_slot n.above ≡ false → is_in_order o n (at_node t) ≡ true → is_outside n (at_node t) ≡ true
    nodes n (node ObjectExpression l fs) slot h = left-of (is_slot n.above) o.es2020.optional_chaining (is_in_chain n.above) slot on h
    nodes n (node _ l fs) slot h = refl

-- NAMES that are made are others than the object of helpers

pub made-other : (xs : List Text) → all_made xs ≡ true → (x : Text) → among_names xs x ≡ true → bytes_eq x (codes "babelHelpers") ≡ false
made-other xs h x e = at (bytes_eq x (codes "babelHelpers")) refl
  where
    at : (b : Bool) → bytes_eq x (codes "babelHelpers") ≡ b → b ≡ false
    at false g = refl
    at true g =
        let same : x ≡ codes "babelHelpers" = (bytes_eq-Decides x (codes "babelHelpers")).0 g in
        let no : among_names xs (codes "babelHelpers") ≡ false = made_among (codes "babelHelpers") xs refl h in
        absurd (let yes : true ≡ false = sym e ∙ ap (among_names xs) same ∙ no in cc yes)

-- ROWS but that of spreads

record KeepsNames (a b : Tree) : Type 0 where
  names : Apart a → Apart b
  object : is_helpers_object b ≡ false
  chains : Nameless a → Nameless b

chain-passes : PassesMade any_name any_object no_helper_in_chain
chain-passes = passes-any no_helper_in_chain nodes (λ l fs. refl) (λ l. refl)
  where
    nodes : (k : AstType) (l : Label) (fs : Fields) → is_made_kind k ≡ true → no_helper_in_chain k l fs ≡ true
    nodes ChainExpression l fs h = absurd (cc h)
    nodes _ l fs h = refl

catch-names : (new : List Bound) (n : Site) (w : Whole) (t u : Tree) → CatchRow new n w t u → KeepsNames t u
catch-names new n w t u (made_catch fresh) = record { names = λ c. c; object = refl; chains = λ c. c }

assigning-object : (n : Site) (w : Whole) (bs : List Bound) (a b : Tree) → LogicalAssignmentRule n w bs a b → is_helpers_object b ≡ false
assigning-object n w bs _ _ (to_name texts operator alone at) = refl
assigning-object n w bs _ _ (to_static_member texts operator alone at flags o) = refl
assigning-object n w bs _ _ (to_computed_member texts operator alone at flags o key) = refl

assigning-names : (new : List Bound) (n : Site) (w : Whole) (a b : Tree) → LogicalAssignmentRule n w new a b → KeepsNames a b
assigning-names new n w a b h = record {
  names = assigning-of other_name other_object no_helper_member other-passes n w new a b h;
  object = assigning-object n w new a b h;
  chains = assigning-of any_name any_object no_helper_in_chain chain-passes n w new a b h;
}

coalescing-object : (n : Site) (w : Whole) (bs : List Bound) (a b : Tree) → NullishCoalescingRule n w bs a b → is_helpers_object b ≡ false
coalescing-object n w bs _ _ (with_temporary texts again next) = refl
coalescing-object n w bs _ _ (reading_again texts again) = refl

coalescing-names : (new : List Bound) (n : Site) (w : Whole) (a b : Tree) → NullishCoalescingRule n w new a b → KeepsNames a b
coalescing-names new n w a b h = record {
  names = coalescing-of other_name other_object no_helper_member other-passes n w new a b h;
  object = coalescing-object n w new a b h;
  chains = coalescing-of any_name any_object no_helper_in_chain chain-passes n w new a b h;
}

short-object : (m : Label) (ts : List Tree) (short long : Tree) → has_tests ts ≡ true → is_helpers_object (where_short m ts short long) ≡ false
short-object m [] short long e = absurd (cc e)
short-object m (t ∷ ts) short long e = refl

chaining-object : (no_all : Bool) (n : Site) (w : Whole) (bs : List Bound) (a b : Tree) → OptionalChainingRule no_all n w bs a b → is_helpers_object b ≡ false
chaining-object no_all n w bs _ _ (by_tests {m = m} {w = way} level r some) = short-object m way.tests void_zero_node way.current some
chaining-object no_all n w bs _ _ (as_callee {m = m} {d = d} {w = way} level r some callee) = short-object m way.tests void_zero_node d some
chaining-object no_all n w bs _ _ (in_delete {m = m} {w = way} texts alone target r some) = short-object m way.tests true_node (delete_node way.current) some

chaining-names : (no_all : Bool) (new : List Bound) (n : Site) (w : Whole) (a b : Tree) → OptionalChainingRule no_all n w new a b → KeepsNames a b
chaining-names no_all new n w a b h = record {
  names = chaining-of other_name other_object no_helper_member other-passes no_all n w new a b h;
  object = chaining-object no_all n w new a b h;
  chains = chaining-of any_name any_object no_helper_in_chain chain-passes no_all n w new a b h;
}

raised-object : (m : Label) (fs : List Tree) (target read r : Tree) → is_helpers_object (assigned_power m fs target read r) ≡ false
raised-object m [] target read r = refl
raised-object m (f ∷ fs) target read r = refl

raising-object : (n : Site) (w : Whole) (bs : List Bound) (a b : Tree) → ExponentiationRule n w bs a b → is_helpers_object b ≡ false
raising-object n w bs _ _ (power free texts left right) = refl
raising-object n w bs _ _ (power_assignment {m = m} {r = r} {target = target} {read = read} {fs = fs} free texts right alone o) = raised-object m fs target read r

raising-names : (new : List Bound) (n : Site) (w : Whole) (a b : Tree) → ExponentiationRule n w new a b → KeepsNames a b
raising-names new n w a b h = record {
  names = raising-of other_name other_object no_helper_member other-passes n w new a b h;
  object = raising-object n w new a b h;
  chains = raising-of any_name any_object no_helper_in_chain chain-passes n w new a b h;
}

not-true : (b : Bool) → not b ≡ true → b ≡ false
not-true true h = absurd (cc h)
not-true false h = refl

module _ (fresh : Text → Bool) (R : List Declared → Take → Tree → Tree → Type 0) (rows : (ds : List Declared) (t : Take) (a b : Tree) → R ds t a b → KeepsNames a b) where
  mutual
    object-moved : {r : Room} {ds : List Declared} {t : Take} {a b : Tree} → Moved fresh R r ds t a b → is_helpers_object a ≡ false → is_helpers_object b ≡ false
    object-moved (moved_place e h) n = (rows _ _ _ _ h).object
    object-moved (moved_node {k = Identifier} e i h) n = rw e n
    object-moved (moved_node {k = ParenthesizedExpression} e i h) n = first-moved h n
    object-moved (moved_node {k = ChainExpression} e i h) n = first-moved h n
    object-moved (moved_node {k = VariableDeclarator} e i h) n = first-moved h n
    object-moved (moved_node e i h) n = refl
    object-moved (moved_block e h) n = refl
    object-moved (moved_case e h j) n = refl

    first-moved : {r : ℕ → Room} {d : ℕ → List Declared} {c : ℕ → Take} {fs gs : Fields} → MovedFields fresh R r d c fs gs → first_is_helpers fs ≡ false → first_is_helpers gs ≡ false
    first-moved moved_done n = refl
    first-moved (moved_then moved_missing j) n = refl
    first-moved (moved_then (moved_one h) j) n = object-moved h n
    first-moved (moved_then (moved_many h) j) n = refl
    first-moved (moved_then (moved_statements h) j) n = refl

  member-nodes : (r : ℕ → Room) (d : ℕ → List Declared) (c : ℕ → Take) (k : AstType) (l m : Label) (fs gs : Fields) → m.texts ≡ l.texts → MovedFields fresh R r d c fs gs → all_in_fields name_alone gs ≡ true → no_helper_member k l fs ≡ true → no_helper_member k m gs ≡ true
  member-nodes r d c MemberExpression l m fs gs e h q n = ap not (first-moved h (not-true (first_is_helpers fs) n))
  member-nodes r d c _ l m fs gs e h q n = refl

  chain-nodes : (r : ℕ → Room) (d : ℕ → List Declared) (c : ℕ → Take) (k : AstType) (l m : Label) (fs gs : Fields) → m.texts ≡ l.texts → MovedFields fresh R r d c fs gs → all_in_fields name_alone gs ≡ true → no_helper_in_chain k l fs ≡ true → no_helper_in_chain k m gs ≡ true
  chain-nodes r d c ChainExpression l m fs gs e h q n =
      fields-so fresh R no_helper_member (λ ds t a b h. (rows ds t a b h).names) member-nodes (λ l fs. (refl, (refl, (refl, refl)))) (λ l m fs gs e h. refl) (λ l fs e. refl) h n q
  chain-nodes r d c _ l m fs gs e h q n = refl

  names-list : {r : Room} {ds : List Declared} {more : Bool} {ts us : Trees} → MovedList fresh R r ds more ts us → all_in_trees no_helper_in_chain ts ≡ true → all_in_trees name_alone us ≡ true → all_in_trees no_helper_in_chain us ≡ true
  names-list = list-so fresh R no_helper_in_chain (λ ds t a b h. (rows ds t a b h).chains) chain-nodes (λ l fs. (refl, (refl, (refl, refl)))) (λ l m fs gs e h. refl) (λ l fs e. refl)

names-after : (Q : Site → Ledger → Spot → Ledger → Spot → Type 0) (A : List Bound → Site → Whole → Tree → Tree → Type 0) (law : NodeRule Q A) → ((new : List Bound) (n : Site) (w : Whole) (a b : Tree) → A new n w a b → KeepsNames a b) →
    (w : Whole) (x y : Tree) → ProgramWent law.hoisted (MovedProgram Q A law) w x y → has_form s-Program y ≡ true → Nameless x → Nameless y
names-after Q A law rows w x y h form chains =
    let first_so : all_nodes no_helper_in_chain (program h.label h.directives h.body) ≡ true = subst Nameless h.first chains in
    let alone : all_nodes name_alone (program h.label h.directives h.after) ≡ true = subst Alone h.second (form_alone y form) in
    let b = and_parts (all_in_trees no_helper_in_chain h.directives) (all_in_trees no_helper_in_chain h.body && true) first_so in
    let c = and_parts (all_in_trees name_alone h.directives) (all_in_trees name_alone h.after && true) alone in
    let after : all_in_trees no_helper_in_chain h.after ≡ true =
    names-list (among_names (names_among h.new)) (Acted A h.new) (λ ds t p q r. rows h.new r.site r.whole p q r.rule) h.moved (and_parts (all_in_trees no_helper_in_chain h.body) true b.1).0 (and_parts (all_in_trees name_alone h.after) true c.1).0 in
    subst Nameless (sym h.second) (and_from (all_in_trees no_helper_in_chain h.directives) (all_in_trees no_helper_in_chain h.after && true) b.0 (and_from (all_in_trees no_helper_in_chain h.after) true after refl))

-- A SPREAD that is lowered in no chain

outside-row : (n : Site) (w : Whole) (bs : List Bound) (t u : Tree) → SpreadRule n w bs t u → is_outside n (at_node t) ≡ true → is_in_chain n.above ≡ true → ⊥
outside-row n w bs _ u (spreads scope used some none made_so) k e = cc (k, e)

outside-rule : (n : Site) (s : Ledger) (x : Spot) (s' : Ledger) (y : Spot) → Replacing SpreadRule n s x s' y → is_outside n x ≡ true → is_in_chain n.above ≡ true → ⊥
outside-rule n s _ s' _ (replaces {w = w} {t = t} {u = u} bs h) k e = outside-row n w bs t u h k e

or-second : (a b : Bool) → b ≡ true → (a || b) ≡ true
or-second true b e = refl
or-second false b e = e

module _ (Q : Site → Ledger → Spot → Ledger → Spot → Type 0) (never : (n : Site) (s : Ledger) (x : Spot) (s' : Ledger) (y : Spot) → Q n s x s' y → is_in_chain n.above ≡ true → ⊥) where
  mutual
    in-chain : {n : Site} {s s' : Ledger} {t u : Open} → Step Q n s t s' u → is_in_chain n.above ≡ true → ⊥
    in-chain (acts {n = n} {s = s} {s' = s'} t u h) e = never n s (at_node t) s' (at_node u) h e
    in-chain (inside {n = n} {k = k} h) e = in-chain-in h (λ i. or-second (is_chain_kind k) (is_in_chain n.above) e)

    in-chain-in : {c : ℕ → Site} {s s' : Ledger} {fs gs : OpenFields} → FieldsStep Q c s fs s' gs → ((i : ℕ) → is_in_chain (c i).above ≡ true) → ⊥
    in-chain-in (in_first h) e = in-chain-by h (e zero)
    in-chain-in (in_later h) e = in-chain-in h (λ i. e (suc i))

    in-chain-by : {n : Site} {s s' : Ledger} {f g : OpenField} → FieldStep Q n s f s' g → is_in_chain n.above ≡ true → ⊥
    in-chain-by (in_child h) e = in-chain h e
    in-chain-by (in_children h) e = in-chain-all h e
    in-chain-by (in_body d y y' h) e = in-chain h e
    in-chain-by (in_list d d' h) e = in-chain-all h e
    in-chain-by (in_target d h) e = in-chain-all h e
    in-chain-by (in_program d h) e = in-chain-all h e
    in-chain-by (acts_on_list ts us h) e = never _ _ _ _ _ h e
    in-chain-by (acts_on_body t u h) e = never _ _ _ _ _ h e

    in-chain-all : {n : Site} {s s' : Ledger} {ts us : OpenTrees} → TreesStep Q n s ts s' us → is_in_chain n.above ≡ true → ⊥
    in-chain-all (in_head h) e = in-chain h e
    in-chain-all (in_tail h) e = in-chain-all h e
    in-chain-all (in_flanked h) e = in-chain h e
    in-chain-all (after_flanked h) e = in-chain-all h e
    in-chain-all (flanks t u h) e = never _ _ _ _ _ h e
    in-chain-all (acts_on_flanked t us h) e = never _ _ _ _ _ h e

nameless-declarators : (bs : List Bound) → all_in_trees no_helper_in_chain (trees (map declarator bs)) ≡ true
nameless-declarators [] = refl
nameless-declarators (b ∷ bs) = nameless-declarators bs

nameless-vars : (bs : List Bound) → BelowTrees Nameless (declaration (codes "var") (map declarator bs) empty)
nameless-vars [] = tt
nameless-vars (b ∷ bs) = (rw (nameless-declarators bs) refl, tt)

chain-test : (b y : Bool) → (b ≡ true → ⊥) → (not b || y) ≡ true
chain-test true y f = absurd (f refl)
chain-test false y f = refl

module _ (Q : Site → Ledger → Spot → Ledger → Spot → Type 0) (law : FormLawful Q) (rule : (n : Site) (s s' : Ledger) (t u : Tree) → Q n s (at_node t) s' (at_node u) → Nameless t → Nameless u)
    (never : (n : Site) (s : Ledger) (x : Spot) (s' : Ledger) (y : Spot) → Q n s x s' y → is_in_chain n.above ≡ true → ⊥) where
  mutual
    kept : {n : Site} {s s' : Ledger} {t u : Open} → Step Q n s t s' u → IsProper t → IsProper u → Class (finished t) → Nameless (finished t) → Nameless (finished u)
    kept (acts {n = n} {s = s} {s' = s'} t u h) proper after class names = subst (λ (x : Tree). Nameless x) (sym (finished-opened u)) (rule n s s' t u h (subst (λ (x : Tree). Nameless x) (finished-opened t) names))
    kept (inside {n = n} {k = k} {l = l} {fs = fs} {gs = gs} h) proper after class names =
        let d = and_parts (is_statement_node k l (finished_fields fs)) (all_in_fields is_statement_node (finished_fields fs)) class in
        let g = and_parts (no_helper_in_chain k l (finished_fields fs)) (all_in_fields no_helper_in_chain (finished_fields fs)) names in
        let r = kept-in h (is_body k) proper after (λ i. no-arrow k i (node-kind k l (finished_fields fs) d.0)) (nodes_below is_statement_node (finished_fields fs) d.1) (nodes_below no_helper_in_chain (finished_fields fs) g.1) in
        and_from (no_helper_in_chain k l (finished_fields gs)) (all_in_fields no_helper_in_chain (finished_fields gs))
        (chain-test (is_chain_kind k) (all_in_fields no_helper_member (finished_fields gs)) (λ e. in-chain-in Q never h (λ i. ap (λ (b : Bool). b || is_in_chain n.above) e))) (fields-pass no_helper_in_chain (finished_fields gs) r)

    kept-in : {c : ℕ → Site} {s s' : Ledger} {fs gs : OpenFields} → FieldsStep Q c s fs s' gs → (bodies : ℕ → Bool) → AreProperFields bodies fs → AreProperFields bodies gs → ((i : ℕ) → bodies i ≡ false) → Below (λ i. Class) (finished_fields fs) → Below (λ i. Nameless) (finished_fields fs) → Below (λ i. Nameless) (finished_fields gs)
    kept-in (in_first h) bodies proper after none class names = (kept-by h (bodies zero) proper.0 after.0 (none zero) class.0 names.0, names.1)
    kept-in (in_later h) bodies proper after none class names = (names.0, kept-in h (λ i. bodies (suc i)) proper.1 after.1 (λ i. none (suc i)) class.1 names.1)

    kept-by : {n : Site} {s s' : Ledger} {f g : OpenField} → FieldStep Q n s f s' g → (b : Bool) → IsProperField b f → IsProperField b g → b ≡ false → BelowField Class (finished_field f) → BelowField Nameless (finished_field f) → BelowField Nameless (finished_field g)
    kept-by (in_child h) b proper after none class names = kept h proper after class names
    kept-by (in_children h) b proper after none class names = kept-all h proper after class names
    kept-by (in_body e y y' h) b proper after none class names = absurd (let e : b ≡ true = proper.0 in cc (e, none))
    kept-by (in_list {p = p} {q = q} {y = y} {b = d} {ts = ts} {us = us} e e' h) b proper after none class names =
        whole-below Nameless nameless-vars q y d (finished_trees us) after.0 (kept-all h proper.1 after.1 (below-after Class (pending_statements p y d) (finished_trees ts) class) (below-after Nameless (pending_statements p y d) (finished_trees ts) names))
    kept-by (in_target {p = p} {q = q} {y = y} {y' = y'} {b = d} {ts = ts} {us = us} e h) b proper after none class names =
        whole-below Nameless nameless-vars q y' d (finished_trees us) after.0 (kept-all h proper.1 after.1 (below-after Class (pending_statements p y d) (finished_trees ts) class) (below-after Nameless (pending_statements p y d) (finished_trees ts) names))
    kept-by (in_program {p = p} {q = q} {y = y} {y' = y'} {b = d} {b' = d'} {ts = ts} {us = us} e h) b proper after none class names =
        whole-below Nameless nameless-vars q y' d' (finished_trees us) after.0 (kept-all h proper.1 after.1 (below-after Class (pending_statements p y d) (finished_trees ts) class) (below-after Nameless (pending_statements p y d) (finished_trees ts) names))
    kept-by (acts_on_list {n = n} {s = s} {s' = s'} {p = p} {q = q} {x = x} {y = y} {a = a} {b = d} ts us h) b proper after none class names =
        let same = ap (λ vs. whole_list p x a vs) (finished-trees ts) ∙ (law.at_lists n s s' p q x y a d ts us h proper.0).trees ∙ sym (ap (λ vs. whole_list q y d vs) (finished-trees us)) in
        subst (λ (vs : Trees). BelowTrees Nameless vs) same names
    kept-by (acts_on_body t u h) b proper after none class names = absurd (let e : b ≡ true = proper.0 in cc (e, none))

    kept-all : {n : Site} {s s' : Ledger} {ts us : OpenTrees} → TreesStep Q n s ts s' us → AreProperTrees ts → AreProperTrees us → BelowTrees Class (finished_trees ts) → BelowTrees Nameless (finished_trees ts) → BelowTrees Nameless (finished_trees us)
    kept-all (in_head h) proper after class names = (kept h proper.0 after.0 class.0 names.0, names.1)
    kept-all (in_tail h) proper after class names = (names.0, kept-all h proper.1 after.1 class.1 names.1)
    kept-all (in_flanked h) proper after class names = absurd proper
    kept-all (after_flanked h) proper after class names = absurd proper
    kept-all (flanks {n = n} {s = s} {s' = s'} {bs = bs} {cs = cs} t u h) proper after class names = absurd (law.no_flanks n s s' t u bs cs h)
    kept-all (acts_on_flanked t us h) proper after class names = absurd proper

placed-names : (m : Label) (u : Tree) → all_nodes no_helper_in_chain (placed m u) ≡ all_nodes no_helper_in_chain u
placed-names m (node k l fs) = refl

spread-nameless : (n : Site) (s s' : Ledger) (t u : Tree) → Replacing SpreadRule n s (at_node t) s' (at_node u) → Nameless t → Nameless u
spread-nameless n s s' t u (replaces {w = w} bs h) = spread-so no_helper_in_chain refl (λ given. refl) (λ ps. refl) placed-names n w bs t u h

-- OF ALL RULES

abbrev pub StaysNameless : Ledger → Ledger → Open → Open → Type 0
StaysNameless s s' x y = Known s x → Known s' y → Nameless (finished x) → Nameless (finished y)

node-nameless : (Q : Site → Ledger → Spot → Ledger → Spot → Type 0) (A : List Bound → Site → Whole → Tree → Tree → Type 0) (law : NodeRule Q A) → ((new : List Bound) (n : Site) (w : Whole) (a b : Tree) → A new n w a b → KeepsNames a b) → Does StaysNameless Q
node-nameless Q A law rows s s' x y h k m c =
    names-after Q A law rows (whole_in s) (finished x) (finished y) (program-moved Q A law h k.proper k.form k.class (known-fine k) (known-fine m) k.resolved) m.form c

spreads-statement : (o : EnvOptions) (n : Site) (s : Ledger) (x : Spot) (s' : Ledger) (y : Spot) → only_where is_outside (spreads_under o) n s x s' y → StatementRules o n s x s' y
spreads-statement o n s x s' y h = inr (inr (inr h.0))

spreads-nameless : (o : EnvOptions) → Does StaysNameless (only_where is_outside (spreads_under o))
spreads-nameless o s s' x y h k m c =
    let Q = only_where is_outside (spreads_under o) in
    kept Q (under-form Q (StatementRules o) (spreads-statement o) (statement-form o)) (λ n s s' t u r. spread-nameless n s s' t u (on-rule _ (Replacing SpreadRule) n s s' (at_node t) (at_node u) r.0))
    (λ n s x s' y r e. outside-rule n s x s' y (on-rule _ (Replacing SpreadRule) n s s' x y r.0) r.1 e) h k.proper m.proper k.class c

pub statement-nameless : (o : EnvOptions) → Does StaysNameless (only_where is_outside (StatementRules o))
statement-nameless o = statement-does-where StaysNameless o is_outside (record {
  writing = λ s s' x y h k m c. subst Nameless (written-same Writing (writing-form o) (λ n s s' t u h. absurd (writes-lists h)) h k.proper).1 c;
  assigning = on-does StaysNameless o.es2021.logical_assignment_operators (RowRule LogicalAssignmentRule) (node-nameless (RowRule LogicalAssignmentRule) (Row AssigningRow assigning-shape) (replacing-rule AssigningRow assigning-shape)
      (λ new n w a b h. assigning-names new n w a b h.rule));
  coalescing = node-nameless (RowRule NullishCoalescingRule) (Row CoalescingRow coalescing-shape) (replacing-rule CoalescingRow coalescing-shape)
      (λ new n w a b h. coalescing-names new n w a b h.rule);
  chaining = where-does StaysNameless is_outside (chains_under o) (on-does StaysNameless o.es2020.optional_chaining (RowRule (OptionalChainingRule o.assumptions.no_document_all)) (node-nameless (RowRule (OptionalChainingRule o.assumptions.no_document_all)) (Row (ChainingRow o.assumptions.no_document_all) (chaining-shape o.assumptions.no_document_all))
      (replacing-rule (ChainingRow o.assumptions.no_document_all) (chaining-shape o.assumptions.no_document_all))
      (λ new n w a b h. chaining-names o.assumptions.no_document_all new n w a b h.rule)));
  raising = on-does StaysNameless o.es2016.exponentiation_operator (RowRule ExponentiationRule) (node-nameless (RowRule ExponentiationRule) (Row RaisingRow raising-shape) (replacing-rule RaisingRow raising-shape)
      (λ new n w a b h. raising-names new n w a b h.rule));
  catching = node-nameless CatchRule CatchRow catch-rule catch-names;
  spreading = spreads-nameless o;
})

-- THE ROW OF CHAINS there

abbrev ChainNameless : Premise
ChainNameless n w a = ChainSteady n w a × Nameless a

chain-nameless-inwards : Inwards ChainNameless
chain-nameless-inwards n w k l fs h =
    both_below (λ i t. ChainSteady (site_in n k l fs i) w t) (λ i t. Nameless t) (finished_fields fs) (chain-steady-inwards n w k l fs h.0)
    (nodes_below no_helper_in_chain (finished_fields fs) (and_parts (no_helper_in_chain k l (finished_fields fs)) (all_in_fields no_helper_in_chain (finished_fields fs)) h.1).1)

nameless-keeps : (no_all : Bool) → KeepsRuns no_all spread_by_global true (RowWith (ChainingRow no_all) (chaining-shape no_all) ChainNameless)
nameless-keeps no_all = record {
  alike = λ new n whole a b h t taken ds resolved found fine away quiet stack seen w v same known ls x.
      apart-keeps no_all new n whole a b (h.0, h.1.0) (chain-apart no_all n whole new a b h.0.rule h.1.1) t taken ds resolved found fine away quiet stack w v same known ls x;
}

pub nameless-runs : (o : EnvOptions) (no_all : Bool) → o.es2020.optional_chaining ≡ true → (s s' : Ledger) (x y : Open) → Step (RowRule (OptionalChainingRule no_all)) the_program s x s' y → Known s x → Known s' y → Suited o (whole_in s) (finished x) → Nameless (finished x) → StepAlike no_all spread_by_global (finished x) (finished y)
nameless-runs o no_all asked s s' x y h k m c names =
    premised-runs no_all spread_by_global ChainNameless chain-nameless-inwards (ChainingRow no_all) (chaining-shape no_all) (nameless-keeps no_all) h k m refl refl
    ((steady-program o k c, chains-program (whole_in s) (finished x) k.form (known-fine k) (c.tags asked) k.keeps), names)

-- EXPORTS and the source

pub export-nameless : (k : AstType) (l : Label) (fs : Fields) → is_export_kind k ≡ true → no_helper_in_chain k l fs ≡ true
export-nameless ChainExpression l fs h = absurd (cc h)
export-nameless _ l fs h = refl

-- where no member is one of that object, none in a chain is
chain-of : (b c : Bool) → c ≡ true → (not b || c) ≡ true
chain-of true c h = h
chain-of false c h = refl

mutual
  pub members-nameless : (t : Tree) → Apart t → Nameless t
  members-nameless (node k l fs) h =
      let d = and_parts (no_helper_member k l fs) (all_in_fields no_helper_member fs) h in
      and_from (no_helper_in_chain k l fs) (all_in_fields no_helper_in_chain fs) (chain-of (is_chain_kind k) (all_in_fields no_helper_member fs) d.1) (nameless-in fs d.1)

  nameless-in : (fs : Fields) → all_in_fields no_helper_member fs ≡ true → all_in_fields no_helper_in_chain fs ≡ true
  nameless-in done h = refl
  nameless-in (f then fs) h = let d = and_parts (all_in_field no_helper_member f) (all_in_fields no_helper_member fs) h in and_from (all_in_field no_helper_in_chain f) (all_in_fields no_helper_in_chain fs) (nameless-by f d.0) (nameless-in fs d.1)

  nameless-by : (f : Field) → all_in_field no_helper_member f ≡ true → all_in_field no_helper_in_chain f ≡ true
  nameless-by missing h = refl
  nameless-by (one t) h = members-nameless t h
  nameless-by (many ts) h = nameless-all ts h
  nameless-by (statements ts) h = nameless-all ts h

  nameless-all : (ts : Trees) → all_in_trees no_helper_member ts ≡ true → all_in_trees no_helper_in_chain ts ≡ true
  nameless-all empty h = refl
  nameless-all (t before ts) h = let d = and_parts (all_nodes no_helper_member t) (all_in_trees no_helper_member ts) h in and_from (all_nodes no_helper_in_chain t) (all_in_trees no_helper_in_chain ts) (members-nameless t d.0) (nameless-all ts d.1)
