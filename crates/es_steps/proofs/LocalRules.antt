-- The rules are local: of a site they ask the need, the ancestors, the role, and what a few names find.
use Rattle.std.proofs.Common.{◌≡◌, ℕ, ap, inl, inr, ◌∙◌, List, ◌∷◌, ◌++◌, subst, sym}
use Rattle.std.specs.Prelude.{◌&&◌, Bool, true, false, Some, codes, is_some}
use Rattle.es_tree.specs.Ancestors.{Ancestor}
use Rattle.es_tree.specs.Tree.{Tree, Label, Fields, Trees, done, statements, ◌then◌, ◌before◌}
use Rattle.es_tree.specs.Words.{Text}
use Rattle.es_tree.specs.declared.ast_type.AstType.{AstType}
use Rattle.es_tree.specs.declared.ast_type.AstType.TheVariants.{ArrowFunctionExpression, BlockStatement, FunctionBody, FunctionDeclaration, FunctionExpression, StaticBlock}
use Rattle.es_tree.specs.declared.options.EnvOptions.{EnvOptions}
use Rattle.es_runs.specs.OptionalChaining.{takes_value}
use Rattle.es_semantic.specs.RolesOf.{reads, role_at}
use Rattle.es_semantic.specs.declared.place.Role.{Role}
use Rattle.es_resolution.specs.Declarations.{Bound}
use Rattle.es_resolution.specs.Resolved.{Place, place_in}
use Rattle.es_steps.specs.AllRules.{AllRules, UsingRule, further_rules}
use Rattle.es_steps.specs.Arrows.{ArrowRule}
use Rattle.es_steps.specs.Arrows.ArrowRule.{by_name, by_new_name, with_body, with_expression}
use Rattle.es_steps.specs.CatchPatterns.{CatchRest}
use Rattle.es_steps.specs.CatchPatterns.CatchRest.{moves}
use Rattle.es_steps.specs.CoreRules.{RowRule, rule_under, where_on}
use Rattle.es_steps.specs.Exponentiation.{ExponentiationRule, IsMathFree}
use Rattle.es_steps.specs.Exponentiation.ExponentiationRule.{power, power_assignment}
use Rattle.es_steps.specs.LogicalAssignment.{LogicalAssignmentRule}
use Rattle.es_steps.specs.LogicalAssignment.LogicalAssignmentRule.{to_computed_member, to_name, to_static_member}
use Rattle.es_steps.specs.LoopHeads.{HeadRest, TargetHead}
use Rattle.es_steps.specs.LoopHeads.HeadRest.{lexical_head, var_head}
use Rattle.es_steps.specs.LoopHeads.TargetHead.{target_head}
use Rattle.es_steps.specs.NamespaceExports.{NamespaceRule}
use Rattle.es_steps.specs.NamespaceExports.NamespaceRule.{exports}
use Rattle.es_steps.specs.NullishCoalescing.{NullishCoalescingRule}
use Rattle.es_steps.specs.NullishCoalescing.NullishCoalescingRule.{reading_again, with_temporary}
use Rattle.es_steps.specs.ObjectRest.{SplitRule, TakesRest, the_whole}
use Rattle.es_steps.specs.ObjectRest.SplitRule.{splits}
use Rattle.es_steps.specs.ObjectRest.TakesRest.{takes_rest}
use Rattle.es_steps.specs.ObjectSpread.{SpreadRule}
use Rattle.es_steps.specs.ObjectSpread.SpreadRule.{spreads}
use Rattle.es_steps.specs.OptionalCatch.{CatchRule}
use Rattle.es_steps.specs.OptionalCatch.CatchRule.{catches}
use Rattle.es_steps.specs.OptionalChaining.{OptionalChainingRule}
use Rattle.es_steps.specs.OptionalChaining.OptionalChainingRule.{as_callee, by_tests, in_delete}
use Rattle.es_steps.specs.Nodes.{assign_node, identifier, joined_trees, placed, sequence_node}
use Rattle.es_steps.specs.ParameterPatterns.{ParameterRest, body_fields}
use Rattle.es_steps.specs.ParameterPatterns.ParameterRest.{in_arrow, in_declaration, in_expression}
use Rattle.es_steps.specs.Open.{Additions, Pending}
use Rattle.es_steps.specs.RestAssignments.{RestAssignmentRule, is_unused, value_after}
use Rattle.es_steps.specs.RestAssignments.RestAssignmentRule.{assigns}
use Rattle.es_steps.specs.Rules.{Replacing, Writing, either_rule}
use Rattle.es_steps.specs.Rules.Replacing.{replaces}
use Rattle.es_steps.specs.Rules.Writing.{all_pending, body_declarators, declarators, insertions}
use Rattle.es_steps.specs.Sites.{AreAlike, AsksEnough, IsLocal, LawCoreLocal, LawCoreStepsLocal, LawLocal, LawStepsLocal, LawStepsWithoutArrows}
use Rattle.es_steps.specs.Slots.{in_open_slot, is_slot}
use Rattle.es_steps.specs.Steps.{Ledger, Site, Spot, Whole, is_program_list}
use Rattle.es_steps.specs.Steps.Ledger.{ledger}
use Rattle.es_steps.specs.ThisPlaces.{belongs_to_arrow, reaches_target}
use Rattle.es_steps.specs.UsingBlocks.{BlockUsing, TakesContext, inside_block, is_statement_place}
use Rattle.es_steps.specs.UsingBlocks.BlockUsing.{of_block, of_part}
use Rattle.es_steps.specs.UsingBodies.{BodyUsing, arrow_fields, body, class_fields, function_fields, in_function, in_members, in_static_block, members_role, static_block}
use Rattle.es_steps.specs.UsingBodies.BodyUsing.{of_arrow, of_declaration, of_expression, of_static_block}
use Rattle.es_steps.specs.UsingLoops.{HeadUsing, LoopUsing, is_labelled}
use Rattle.es_steps.specs.UsingLoops.HeadUsing.{of_head}
use Rattle.es_steps.specs.UsingLoops.LoopUsing.{of_loop}
use Rattle.es_steps.specs.UsingSwitches.{SwitchUsing}
use Rattle.es_steps.specs.UsingSwitches.SwitchUsing.{of_switch}
use Rattle.es_steps.specs.WrapRule.{WrapRule, takes_one}
use Rattle.es_steps.specs.WrapRule.WrapRule.{wraps}
use Rattle.es_steps.proofs.LocalSteps.{steps-local}
use Rattle.es_steps.proofs.Sites.{PlacesAlike, of-site, place-inwards, site-inwards}

-- RULES OF NODES

module _ (asked : Ledger → Text → Bool) where
  -- the row, where these names are asked for beside a ledger
  abbrev RowAsks : (Site → Whole → List Bound → Tree → Tree → Type 0) → Type 0
  RowAsks R = (n m : Site) (s : Ledger) (bs : List Bound) (t u : Tree) → AreAlike (asked s) n m → R n (the_whole s) bs t u → R m (the_whole s) bs t u

  pub both-local : {Q R : Site → Ledger → Spot → Ledger → Spot → Type 0} → IsLocal asked Q → IsLocal asked R → IsLocal asked (either_rule Q R)
  both-local q r n m s s' x y a (inl h) = inl (q n m s s' x y a h)
  both-local q r n m s s' x y a (inr h) = inr (r n m s s' x y a h)

  on-local : (b : Bool) {R : Site → Ledger → Spot → Ledger → Spot → Type 0} → IsLocal asked R → IsLocal asked (where_on b R)
  on-local true r = r
  on-local false r = λ n m s s' x y a h. absurd h

  replacing-local : {R : Site → Whole → List Bound → Tree → Tree → Type 0} → RowAsks R → IsLocal asked (Replacing R)
  replacing-local r n m s s' x y a (replaces {w = w} {p = p} {x = b} {a = c} {t = t} {u = u} bs h) = replaces bs (r n m (ledger w p b c) bs t u a h)

  row-local : {R : Site → Whole → List Bound → Tree → Tree → Type 0} → RowAsks R → IsLocal asked (RowRule R)
  row-local r = replacing-local (λ n m s bs t u a h. record { rule = r n m s bs t u a h.rule; outside = (λ i. takes_one bs && in_open_slot (a.above i)) ∙ h.outside })

  -- WRITING AND WRAPPING

  writing-local : IsLocal asked Writing
  writing-local n m s s' x y a declarators = declarators
  writing-local n m s s' x y a all_pending = all_pending
  writing-local n m s s' x y a body_declarators = body_declarators
  writing-local n m s s' x y a insertions = insertions

  wrap-local : (o : EnvOptions) → IsLocal asked (WrapRule o)
  wrap-local o n m s s' x y a (wraps r e slot h) = wraps (a.role ∙ r) e (ap is_slot a.above ∙ slot) h

  -- CORE ROWS

  assigning-local : RowAsks LogicalAssignmentRule
  assigning-local n m s bs t u a (to_name e1 e2 e3 e4) = to_name e1 e2 e3 e4
  assigning-local n m s bs t u a (to_static_member e1 e2 e3 e4 e5 d) = to_static_member e1 e2 e3 e4 e5 d
  assigning-local n m s bs t u a (to_computed_member e1 e2 e3 e4 e5 d1 d2) = to_computed_member e1 e2 e3 e4 e5 d1 d2

  coalescing-local : RowAsks NullishCoalescingRule
  coalescing-local n m s bs t u a (with_temporary e1 e2 d) = with_temporary e1 e2 d
  coalescing-local n m s bs t u a (reading_again e1 e2) = reading_again e1 e2

  chaining-local : (no_all : Bool) → RowAsks (OptionalChainingRule no_all)
  chaining-local no_all n m s bs t u a (by_tests e w d) = by_tests (ap (λ z. takes_value z.level) a.need ∙ e) w d
  chaining-local no_all n m s bs t u a (as_callee e w d b) = as_callee (ap (λ z. z.level) a.need ∙ e) w d b
  chaining-local no_all n m s bs t u a (in_delete e1 e2 e3 w d) = in_delete e1 e2 e3 w d

  module _ (math : (s : Ledger) → (the_whole s).in_use (codes "Math") ≡ true → asked s (codes "Math") ≡ true) where
    math-free : (n m : Site) (s : Ledger) → AreAlike (asked s) n m → IsMathFree n (the_whole s) → IsMathFree m (the_whole s)
    math-free n m s a f = record { unbound = a.scope (codes "Math") (math s f.in_use) ∙ f.unbound; in_use = f.in_use }

    raising-local : RowAsks ExponentiationRule
    raising-local n m s bs t u a (power f e1 e2 e3) = power (math-free n m s a f) e1 e2 e3
    raising-local n m s bs t u a (power_assignment f e1 e2 e3 d) = power_assignment (math-free n m s a f) e1 e2 e3 d

    pub core-local : (o : EnvOptions) → IsLocal asked (rule_under o)
    core-local o =
        both-local writing-local (both-local (wrap-local o)
        (both-local (on-local o.es2021.logical_assignment_operators (row-local assigning-local))
        (both-local (both-local (on-local o.es2020.nullish_coalescing_operator (row-local coalescing-local)) (on-local o.es2020.optional_chaining (row-local (chaining-local o.assumptions.no_document_all)))) (on-local o.es2016.exponentiation_operator (row-local raising-local)))))

  -- ALL RULES

  catch-local : IsLocal asked CatchRule
  catch-local n m s s' x y a (catches f) = catches f

  namespace-local : IsLocal asked NamespaceRule
  namespace-local n m s s' x y a (exports e f d1 d2 d3) = exports (ap (λ up. is_program_list up) a.above ∙ e) f d1 d2 d3

  split-local : IsLocal asked SplitRule
  split-local n m s s' x y a (splits l ts us d es z e1 e2 e3) = splits l ts us d es z e1 e2 e3

  catch-rest-local : IsLocal asked CatchRest
  catch-rest-local n m s s' x y a (moves e f) = moves e f

  head-local : IsLocal asked HeadRest
  head-local n m s s' x y a (lexical_head k e f d1 d2 d3 d4) = lexical_head k e f d1 d2 d3 d4
  head-local n m s s' x y a (var_head k e f d1 d2 d3 d4) = var_head k e f d1 d2 d3 d4

  target-local : IsLocal asked TargetHead
  target-local n m s s' x y a (target_head k e f d1 d2 d3) = target_head k e f d1 d2 d3

  parameter-local : IsLocal asked ParameterRest
  parameter-local n m s s' x y a (in_declaration f e d) = in_declaration f e d
  parameter-local n m s s' x y a (in_expression f e d) = in_expression f e d
  parameter-local n m s s' x y a (in_arrow f d) = in_arrow f d

  module _ (helpers : (s : Ledger) → (the_whole s).in_use (codes "babelHelpers") ≡ true → asked s (codes "babelHelpers") ≡ true) where
    spread-local : RowAsks SpreadRule
    spread-local n m s bs t u a (spreads e f d1 d2 d3) = spreads (a.scope (codes "babelHelpers") (helpers s f) ∙ e) f d1 d2 d3

    rest-assignment-local : RowAsks RestAssignmentRule
    rest-assignment-local n m s bs t u a (assigns {m = l} {e = e} {x = x} {xs = xs} {us = us} d f texts silent next takes) =
        subst (λ (up : List Ancestor). RestAssignmentRule m (the_whole s) (x ∷ xs) t (placed l (sequence_node (assign_node (identifier x) e ∷ us ++ value_after (is_unused up) x)))) a.above
        (assigns (a.scope (codes "babelHelpers") (helpers s f) ∙ d) f texts silent next takes)

    takes-rest-local : IsLocal asked TakesRest
    takes-rest-local n m s s' x y a (takes_rest l1 l2 l3 l4 l5 ts ps us t d e f) = takes_rest l1 l2 l3 l4 l5 ts ps us t d (a.scope (codes "babelHelpers") (helpers s f) ∙ e) f

    context-local : (s : Ledger) (c : Text) (p q : Place) → PlacesAlike (asked s) p q → TakesContext (the_whole s) c p → TakesContext (the_whole s) c q
    context-local s c p q a h = record { fresh = h.fresh; other = h.other; helpers = a.scope (codes "babelHelpers") (helpers s h.helpers_used) ∙ h.helpers; helpers_used = h.helpers_used }

    block-using-local : IsLocal asked BlockUsing
    block-using-local n m s s' x y a (of_block {m = l} {ts = ts} {c = c} e f d g) =
        of_block (ap (λ up. is_statement_place up) a.above ∙ e) f (context-local s c (inside_block n l ts) (inside_block m l ts) (site-inwards (asked s) n m a BlockStatement l (statements ts then done) 0) d) g
    block-using-local n m s s' x y a (of_part {m = l} {ts = ts} {c = c} e f d g) =
        of_part (ap (λ up. is_statement_place up) a.above ∙ e) f (context-local s c (inside_block n l ts) (inside_block m l ts) (site-inwards (asked s) n m a BlockStatement l (statements ts then done) 0) d) g

    -- inside the body of a function of this kind
    function-local : (s : Ledger) (c : Text) (n m : Site) → AreAlike (asked s) n m → (k : AstType) (h : Label) (fs : Fields) (i : ℕ) (l : Label) (ds ts : Trees) → TakesContext (the_whole s) c (in_function n k h fs i l ds ts) → TakesContext (the_whole s) c (in_function m k h fs i l ds ts)
    function-local s c n m a k h fs i l ds ts =
        context-local s c (in_function n k h fs i l ds ts) (in_function m k h fs i l ds ts)
        (place-inwards (asked s) (place_in n.names k h (role_at n.role k h fs) fs i) (place_in m.names k h (role_at m.role k h fs) fs i) (site-inwards (asked s) n m a k h fs i) FunctionBody l reads (body_fields ds ts) 1)

    -- inside a static block among the members of a class
    static-block-local : (s : Ledger) (c : Text) (n m : Site) → AreAlike (asked s) n m → (k : AstType) (h : Label) (fs : Fields) (l : Label) (ts : Trees) → TakesContext (the_whole s) c (in_static_block (in_members n k h fs) (members_role n k h fs) l ts) → TakesContext (the_whole s) c (in_static_block (in_members m k h fs) (members_role m k h fs) l ts)
    static-block-local s c n m a k h fs l ts =
        context-local s c (in_static_block (in_members n k h fs) (members_role n k h fs) l ts) (in_static_block (in_members m k h fs) (members_role m k h fs) l ts)
        (subst (λ (r : Role). PlacesAlike (asked s) (in_static_block (in_members n k h fs) (members_role n k h fs) l ts) (in_static_block (in_members m k h fs) (role_at r k h fs 2) l ts)) (sym a.role)
        (place-inwards (asked s) (in_members n k h fs) (in_members m k h fs) (site-inwards (asked s) n m a k h fs 2) StaticBlock l (members_role n k h fs) (statements ts then done) 0))

    body-using-local : IsLocal asked BodyUsing
    body-using-local n m s s' x y a (of_declaration {m = h} {l = l} {f = f} {ps = ps} {ds = ds} {ts = ts} {c = c} e d g j t k) = of_declaration e d g j (function-local s c n m a FunctionDeclaration h (function_fields f ps (body l ds ts)) 2 l ds ts t) k
    body-using-local n m s s' x y a (of_expression {m = h} {l = l} {f = f} {ps = ps} {ds = ds} {ts = ts} {c = c} e d g j t k) = of_expression e d g j (function-local s c n m a FunctionExpression h (function_fields f ps (body l ds ts)) 2 l ds ts t) k
    body-using-local n m s s' x y a (of_arrow {m = h} {l = l} {ps = ps} {ds = ds} {ts = ts} {c = c} d g j t k) = of_arrow d g j (function-local s c n m a ArrowFunctionExpression h (arrow_fields ps (body l ds ts)) 1 l ds ts t) k
    body-using-local n m s s' x y a (of_static_block {k = k} {m = h} {f = f} {g = g} {c = c} l xs zs ts us i e j t u) =
        of_static_block l xs zs ts us i e j (static-block-local s c n m a k h (class_fields f g (joined_trees xs (static_block l ts before zs))) l ts t) u

    loop-using-local : IsLocal asked LoopUsing
    loop-using-local n m s s' x y a (of_loop {c = c} e t u) = of_loop (ap (λ up. is_labelled up) a.above ∙ e) (context-local s c n.names m.names (of-site a) t) u

    switch-using-local : IsLocal asked SwitchUsing
    switch-using-local n m s s' x y a (of_switch {c = c} e d t k) = of_switch e d (context-local s c n.names m.names (of-site a) t) k

    head-using-local : IsLocal asked HeadUsing
    head-using-local n m s s' x y a (of_head t f d i e) = of_head t f d i e

    using-local : IsLocal asked UsingRule
    using-local = both-local block-using-local (both-local body-using-local (both-local loop-using-local (both-local switch-using-local head-using-local)))

    further-local : (o : EnvOptions) → IsLocal asked (where_on (is_some o.es2015.arrow_function) ArrowRule) → IsLocal asked (further_rules o)
    further-local o arrows =
        both-local (on-local o.es2019.optional_catch_binding catch-local)
        (both-local (on-local o.es2020.export_namespace_from namespace-local)
        (both-local (on-local (is_some o.es2018.object_rest_spread) (both-local (both-local (replacing-local spread-local) (row-local rest-assignment-local)) (both-local split-local (both-local takes-rest-local (both-local catch-rest-local (both-local head-local (both-local target-local parameter-local)))))))
        (both-local (on-local o.es2026.explicit_resource_management using-local) arrows)))

  module _ (this : (w : Whole) (p : Pending) (b : Bound) (a : Additions) → w.in_use b.name ≡ true → asked (ledger w p (Some b) a) b.name ≡ true) where
    arrow-local : IsLocal asked ArrowRule
    arrow-local n m s s' x y a (by_name {w = w} {p = p} {a = c} {x = z} {s = k} r e1 e2 f u d) = by_name (a.role ∙ r) (ap (λ up. belongs_to_arrow up) a.above ∙ e1) (ap (λ up. reaches_target up) a.above ∙ e2) (a.scope z (this w p (record { name = z; symbol = Some k }) c u) ∙ f) u d
    arrow-local n m s s' x y a (by_new_name r e1 e2 f) = by_new_name (a.role ∙ r) (ap (λ up. belongs_to_arrow up) a.above ∙ e1) (ap (λ up. reaches_target up) a.above ∙ e2) f
    arrow-local n m s s' x y a (with_body e) = with_body e
    arrow-local n m s s' x y a (with_expression e d) = with_expression e d

  pub all-local : AsksEnough asked → (o : EnvOptions) → IsLocal asked (AllRules o)
  all-local enough o = both-local (core-local enough.math o) (further-local enough.helpers o (on-local (is_some o.es2015.arrow_function) (arrow-local enough.this)))

  off-local : (b : Bool) (R : Site → Ledger → Spot → Ledger → Spot → Type 0) → b ≡ false → IsLocal asked (where_on b R)
  off-local true R e = absurd (cc e)
  off-local false R e = λ n m s s' x y a h. absurd h

pub law_core_local_proof : LawCoreLocal
law_core_local_proof o used math = core-local (λ s. used) (λ s u. math) o

pub law_local_proof : LawLocal
law_local_proof o asked enough = all-local asked enough o

pub law_core_steps_local_proof : LawCoreStepsLocal
law_core_steps_local_proof o used math = steps-local (λ w. used) (rule_under o) (law_core_local_proof o used math)

pub law_steps_local_proof : LawStepsLocal
law_steps_local_proof o = steps-local (λ w. w.in_use) (AllRules o) (all-local (λ s. (the_whole s).in_use) (record { math = λ s u. u; helpers = λ s u. u; this = λ w p b a u. u }) o)

pub local-without-arrows : (o : EnvOptions) (used : Text → Bool) → is_some o.es2015.arrow_function ≡ false → used (codes "Math") ≡ true → used (codes "babelHelpers") ≡ true → IsLocal (λ s. used) (AllRules o)
local-without-arrows o used off math helpers = both-local (λ s. used) (core-local (λ s. used) (λ s u. math) o) (further-local (λ s. used) (λ s u. helpers) o (off-local (λ s. used) (is_some o.es2015.arrow_function) ArrowRule off))

pub law_steps_without_arrows_proof : LawStepsWithoutArrows
law_steps_without_arrows_proof o used off math helpers = steps-local (λ w. used) (AllRules o) (local-without-arrows o used off math helpers)
