-- The built rules at programs of the class: which of them act there, that they keep the class, and what each does to runs.
use Rattle.std.proofs.Common.{◌≡◌, inl, inr, refl, sym, subst, List, []}
use Rattle.std.specs.Prelude.{◌⊎◌, Bool, true, false, Option, is_some}
use Rattle.es_tree.specs.Tree.{Label, Tree, Trees, node, Fields}
use Rattle.es_tree.specs.Walks.{all_nodes}
use Rattle.es_tree.specs.declared.ast_type.AstType.{AstType}
use Rattle.es_tree.specs.declared.ast_type.AstType.TheVariants.{ArrowFunctionExpression, ClassDeclaration, ClassExpression, FunctionBody, FunctionDeclaration, FunctionExpression, MetaProperty, MethodDefinition, ObjectProperty, PrivateIdentifier, PropertyDefinition, ReturnStatement, StaticBlock, Super}
use Rattle.es_tree.specs.declared.options.EnvOptions.{EnvOptions}
use Rattle.es_resolution.specs.Declarations.{Bound}
use Rattle.es_steps.specs.CoreRules.{RowRule, rows_under, where_on}
use Rattle.es_steps.specs.Exponentiation.{ExponentiationRule}
use Rattle.es_steps.specs.LogicalAssignment.{LogicalAssignmentRule}
use Rattle.es_steps.specs.Nodes.{placed}
use Rattle.es_steps.specs.NullishCoalescing.{NullishCoalescingRule}
use Rattle.es_steps.specs.ObjectSpread.{SpreadRule}
use Rattle.es_steps.specs.Open.{Additions, Open, Pending, finished}
use Rattle.es_steps.specs.OptionalCatch.{CatchRule}
use Rattle.es_steps.specs.OptionalCatch.CatchRule.{catches}
use Rattle.es_steps.specs.OptionalChaining.{OptionalChainingRule}
use Rattle.es_steps.specs.Rules.{Replacing, Writing, either_rule}
use Rattle.es_steps.specs.Rules.Replacing.{replaces}
use Rattle.es_steps.specs.Slots.{is_slot}
use Rattle.es_steps.specs.Steps.{Ledger, Site, Spot, Step, Whole, the_program}
use Rattle.es_steps.specs.Steps.Spot.{at_beside, at_body, at_list, at_node}
use Rattle.es_steps.specs.WrapRule.{OutsideSlots, WrapRule}
use Rattle.es_steps.specs.WrapRule.WrapRule.{wraps}
use Rattle.es_steps.proofs.BridgeInclusion.{step_under}
use Rattle.es_steps.proofs.FormOpen.{IsProper}
use Rattle.es_steps.proofs.FormRules.{AtNodes, FormLawful}
use Rattle.es_steps.proofs.RuleLaws.{writes-lists}
use Rattle.es_steps.proofs.Taken.{whole_in}
use Rattle.es_statement_steps.proofs.AloneRules.{alone, alone-form}
use Rattle.es_statement_runs.specs.Helpers.{Supply, silent_names}
use Rattle.es_statement_runs.specs.Programs.{is_statement_node}
use Rattle.es_statement_steps.specs.Orders.{only_where}
use Rattle.es_statement_steps.proofs.Catchings.{CatchRow, catch-keeps, catch-rule, catch-stays}
use Rattle.es_statement_steps.proofs.Coalescings.{CoalescingRow, coalescing-keeps, coalescing-shape}
use Rattle.es_statement_steps.proofs.Composition.{Known, anywhere, known-fine}
use Rattle.es_statement_steps.proofs.MadeOf.{PassesMade, any_name, any_object, assigning-of, chaining-of, coalescing-of, is_made_kind, passes-any, raising-of}
use Rattle.es_statement_steps.proofs.NoSteps.{off-step}
use Rattle.es_statement_steps.proofs.ProgramMoves.{program-moved}
use Rattle.es_statement_steps.proofs.Replacings.{Row, RowShape, replacing-hoists, replacing-rule}
use Rattle.es_statement_steps.proofs.RowRuns.{KeepsRuns, StepAlike, row-alike, unchanged}
use Rattle.es_statement_steps.proofs.SpreadParts.{spread-so}
use Rattle.es_statement_steps.proofs.StepMoves.{NodeRule}
use Rattle.es_statement_steps.proofs.StepSplits.{step-either}
use Rattle.es_statement_steps.proofs.Tamed.{Class, NoSlot, Tame, none-above, tamed}
use Rattle.es_statement_steps.proofs.Writings.{written-same}

-- WHICH RULES ACT: no slot stands in programs of the class, so that nothing is wrapped

abbrev pub FurtherRules : EnvOptions → Site → Ledger → Spot → Ledger → Spot → Type 0
FurtherRules o = either_rule (where_on o.es2019.optional_catch_binding CatchRule) (where_on (is_some o.es2018.object_rest_spread) (Replacing SpreadRule))

abbrev pub StatementRules : EnvOptions → Site → Ledger → Spot → Ledger → Spot → Type 0
StatementRules o = either_rule Writing (either_rule (rows_under o) (FurtherRules o))

-- that of chains and that of spreads, and the rules with others in their places
abbrev pub chains_under : EnvOptions → Site → Ledger → Spot → Ledger → Spot → Type 0
chains_under o = where_on o.es2020.optional_chaining (RowRule (OptionalChainingRule o.assumptions.no_document_all))

abbrev pub spreads_under : EnvOptions → Site → Ledger → Spot → Ledger → Spot → Type 0
spreads_under o = where_on (is_some o.es2018.object_rest_spread) (Replacing SpreadRule)

abbrev pub rules_by : EnvOptions → (Site → Ledger → Spot → Ledger → Spot → Type 0) → (Site → Ledger → Spot → Ledger → Spot → Type 0) → Site → Ledger → Spot → Ledger → Spot → Type 0
rules_by o Chains Spreads =
    either_rule Writing (either_rule (either_rule (where_on o.es2021.logical_assignment_operators (RowRule LogicalAssignmentRule))
    (either_rule (either_rule (where_on o.es2020.nullish_coalescing_operator (RowRule NullishCoalescingRule)) Chains) (where_on o.es2016.exponentiation_operator (RowRule ExponentiationRule)))) (either_rule (where_on o.es2019.optional_catch_binding CatchRule) Spreads))

pub on-rule : (b : Bool) (R : Site → Ledger → Spot → Ledger → Spot → Type 0) (n : Site) (s s' : Ledger) (x y : Spot) → where_on b R n s x s' y → R n s x s' y
on-rule true R n s s' x y h = h
on-rule false R n s s' x y h = absurd h

wrap-nodes : (o : EnvOptions) (n : Site) (s s' : Ledger) (x y : Spot) → WrapRule o n s x s' y → AtNodes x y
wrap-nodes o n s s' x y (wraps d e slot h) = tt

-- AT NODES, whatever each row does wherever it acts the rules do

pub record RowsDo (no_all : Bool) (F : Tree → Tree → Type 0) : Type 0 where
  pub assigning : (n : Site) (w : Whole) (bs : List Bound) (t u : Tree) → LogicalAssignmentRule n w bs t u → F t u
  pub coalescing : (n : Site) (w : Whole) (bs : List Bound) (t u : Tree) → NullishCoalescingRule n w bs t u → F t u
  pub chaining : (n : Site) (w : Whole) (bs : List Bound) (t u : Tree) → OptionalChainingRule no_all n w bs t u → F t u
  pub raising : (n : Site) (w : Whole) (bs : List Bound) (t u : Tree) → ExponentiationRule n w bs t u → F t u
  pub catching : (n : Site) (s s' : Ledger) (t u : Tree) → CatchRule n s (at_node t) s' (at_node u) → F t u
  pub spreading : (n : Site) (w : Whole) (bs : List Bound) (t u : Tree) → SpreadRule n w bs t u → F t u

module _ (o : EnvOptions) (F : Tree → Tree → Type 0) (rows : RowsDo o.assumptions.no_document_all F) where
  replaced : (R : Site → Whole → List Bound → Tree → Tree → Type 0) → ((n : Site) (w : Whole) (bs : List Bound) (t u : Tree) → R n w bs t u → F t u) → {n : Site} {s s' : Ledger} {t u : Tree} → Replacing R n s (at_node t) s' (at_node u) → F t u
  replaced R does {n = n} {t = t} {u = u} (replaces {w = w} bs h) = does n w bs t u h

  row-does : (b : Bool) (R : Site → Whole → List Bound → Tree → Tree → Type 0) → ((n : Site) (w : Whole) (bs : List Bound) (t u : Tree) → R n w bs t u → F t u) → (n : Site) (s s' : Ledger) (t u : Tree) → where_on b (RowRule R) n s (at_node t) s' (at_node u) → F t u
  row-does b R does n s s' t u h = replaced (OutsideSlots R) (λ n w bs t u r. does n w bs t u r.rule) (on-rule b (RowRule R) n s s' (at_node t) (at_node u) h)

  pub nodes-do : (n : Site) (s s' : Ledger) (t u : Tree) → StatementRules o n s (at_node t) s' (at_node u) → F t u
  nodes-do n s s' t u (inl h) = absurd (writes-lists h)
  nodes-do n s s' t u (inr (inl (inl h))) = row-does o.es2021.logical_assignment_operators LogicalAssignmentRule rows.assigning n s s' t u h
  nodes-do n s s' t u (inr (inl (inr (inl (inl h))))) = row-does o.es2020.nullish_coalescing_operator NullishCoalescingRule rows.coalescing n s s' t u h
  nodes-do n s s' t u (inr (inl (inr (inl (inr h))))) = row-does o.es2020.optional_chaining (OptionalChainingRule o.assumptions.no_document_all) rows.chaining n s s' t u h
  nodes-do n s s' t u (inr (inl (inr (inr h)))) = row-does o.es2016.exponentiation_operator ExponentiationRule rows.raising n s s' t u h
  nodes-do n s s' t u (inr (inr (inl h))) = rows.catching n s s' t u (on-rule o.es2019.optional_catch_binding CatchRule n s s' (at_node t) (at_node u) h)
  nodes-do n s s' t u (inr (inr (inr h))) = replaced SpreadRule rows.spreading (on-rule (is_some o.es2018.object_rest_spread) (Replacing SpreadRule) n s s' (at_node t) (at_node u) h)

-- WHAT THEY MAKE is of the class

made-node : (k : AstType) (l : Label) (fs : Fields) → is_made_kind k ≡ true → is_statement_node k l fs ≡ true
made-node ObjectProperty l fs h = absurd (cc h)
made-node MetaProperty l fs h = absurd (cc h)
made-node StaticBlock l fs h = absurd (cc h)
made-node FunctionDeclaration l fs h = absurd (cc h)
made-node FunctionExpression l fs h = absurd (cc h)
made-node FunctionBody l fs h = absurd (cc h)
made-node ArrowFunctionExpression l fs h = absurd (cc h)
made-node ClassDeclaration l fs h = absurd (cc h)
made-node ClassExpression l fs h = absurd (cc h)
made-node MethodDefinition l fs h = absurd (cc h)
made-node PropertyDefinition l fs h = absurd (cc h)
made-node ReturnStatement l fs h = absurd (cc h)
made-node PrivateIdentifier l fs h = absurd (cc h)
made-node Super l fs h = absurd (cc h)
made-node _ l fs h = refl

made-class : PassesMade any_name any_object is_statement_node
made-class = passes-any is_statement_node made-node (λ l fs. refl) (λ l. refl)

catch-class : (n : Site) (s s' : Ledger) (t u : Tree) → CatchRule n s (at_node t) s' (at_node u) → Class t → Class u
catch-class n s s' t u (catches fresh) c = c

placed-class : (m : Label) (u : Tree) → all_nodes is_statement_node (placed m u) ≡ all_nodes is_statement_node u
placed-class m (node ObjectProperty l fs) = refl
placed-class m (node MetaProperty l fs) = refl
placed-class m (node k l fs) = refl

rows-class : (no_all : Bool) → RowsDo no_all (λ t u. Class t → Class u)
rows-class no_all = record {
  assigning = assigning-of any_name any_object is_statement_node made-class;
  coalescing = coalescing-of any_name any_object is_statement_node made-class;
  chaining = chaining-of any_name any_object is_statement_node made-class no_all;
  raising = raising-of any_name any_object is_statement_node made-class;
  catching = catch-class;
  spreading = spread-so is_statement_node refl (λ given. refl) (λ ps. refl) placed-class;
}

-- places of the one kind that are in no slot are of the other
pub record OffSlots (at there : Site → Spot → Bool) : Type 0 where
  pub nodes : (n : Site) (t : Tree) → is_slot n.above ≡ false → at n (at_node t) ≡ true → there n (at_node t) ≡ true
  pub lists : (n : Site) (p : Pending) (x : Option Bound) (a : Additions) (ts : Trees) → at n (at_list p x a ts) ≡ true → there n (at_list p x a ts) ≡ true

pub same-places : (at : Site → Spot → Bool) → OffSlots at at
same-places at = record { nodes = λ n t slot h. h; lists = λ n p x a ts h. h }

module _ (o : EnvOptions) where
  tame-nodes : (n : Site) (s s' : Ledger) (t u : Tree) → NoSlot n.above → alone o n s (at_node t) s' (at_node u) → Class t → StatementRules o n s (at_node t) s' (at_node u) × Class u
  tame-nodes n s s' t u slot (inl (inl h)) c = absurd (writes-lists h)
  tame-nodes n s s' t u slot (inl (inr (inl (wraps role e here h)))) c = absurd (cc (here, slot.slot))
  tame-nodes n s s' t u slot (inl (inr (inr h))) c = (inr (inl h), nodes-do o (λ t u. Class t → Class u) (rows-class o.assumptions.no_document_all) n s s' t u (inr (inl h)) c)
  tame-nodes n s s' t u slot (inr h) c = (inr (inr h), nodes-do o (λ t u. Class t → Class u) (rows-class o.assumptions.no_document_all) n s s' t u (inr (inr h)) c)

  tame-lists : (n : Site) (s s' : Ledger) (p q : Pending) (x y : Option Bound) (a b : Additions) (ts us : Trees) → alone o n s (at_list p x a ts) s' (at_list q y b us) → StatementRules o n s (at_list p x a ts) s' (at_list q y b us)
  tame-lists n s s' p q x y a b ts us (inl (inl h)) = inl h
  tame-lists n s s' p q x y a b ts us (inl (inr (inl h))) = absurd (wrap-nodes o n s s' (at_list p x a ts) (at_list q y b us) h)
  tame-lists n s s' p q x y a b ts us (inl (inr (inr h))) = inr (inl h)
  tame-lists n s s' p q x y a b ts us (inr h) = inr (inr h)

  pub tame-alone : Tame (alone o) (StatementRules o)
  tame-alone = record { nodes = tame-nodes; lists = tame-lists }

  pub tamed-step : {s s' : Ledger} {x y : Open} → Step (alone o) the_program s x s' y → IsProper x → IsProper y → Class (finished x) → Step (StatementRules o) the_program s x s' y × Class (finished y)
  tamed-step h proper after class = tamed (alone o) (StatementRules o) (alone-form o) tame-alone h none-above proper after class

  -- at some places alone, which are others in no slot
  tame-where : (at there : Site → Spot → Bool) → OffSlots at there → Tame (only_where at (alone o)) (only_where there (StatementRules o))
  tame-where at there off = record {
    nodes = λ n s s' t u slot h c. let r = tame-nodes n s s' t u slot h.0 c in ((r.0, off.nodes n t slot.slot h.1), r.1);
    lists = λ n s s' p q x y a b ts us h. (tame-lists n s s' p q x y a b ts us h.0, off.lists n p x a ts h.1);
  }

-- a part of a rule keeps form as the rule does
pub under-form : (R Q : Site → Ledger → Spot → Ledger → Spot → Type 0) → ((n : Site) (s : Ledger) (x : Spot) (s' : Ledger) (y : Spot) → R n s x s' y → Q n s x s' y) → FormLawful Q → FormLawful R
under-form R Q under law = record {
  at_nodes = λ n s s' t u a slot h f. law.at_nodes n s s' t u a slot (under n s (at_node t) s' (at_node u) h) f;
  no_flanks = λ n s s' t u bs cs h. law.no_flanks n s s' t u bs cs (under n s (at_node t) s' (at_beside bs u cs) h);
  at_lists = λ n s s' p q x y a b ts us h k. law.at_lists n s s' p q x y a b ts us (under n s (at_list p x a ts) s' (at_list q y b us) h) k;
  at_bodies = λ n s s' p t u h. law.at_bodies n s s' p t u (under n s (at_body p t) s' (at_node u) h);
}

statement-alone : (o : EnvOptions) (n : Site) (s : Ledger) (x : Spot) (s' : Ledger) (y : Spot) → StatementRules o n s x s' y → alone o n s x s' y
statement-alone o n s x s' y (inl h) = inl (inl h)
statement-alone o n s x s' y (inr (inl h)) = inl (inr (inr h))
statement-alone o n s x s' y (inr (inr h)) = inr h

pub statement-form : (o : EnvOptions) → FormLawful (StatementRules o)
statement-form o = under-form (StatementRules o) (alone o) (statement-alone o) (alone-form o)

pub tamed-where : (o : EnvOptions) (at there : Site → Spot → Bool) → OffSlots at there → {s s' : Ledger} {x y : Open} → Step (only_where at (alone o)) the_program s x s' y → IsProper x → IsProper y → Class (finished x) → Step (only_where there (StatementRules o)) the_program s x s' y
tamed-where o at there off h proper after class =
    (tamed (only_where at (alone o)) (only_where there (StatementRules o)) (under-form (only_where at (alone o)) (alone o) (λ n s x s' y r. r.0) (alone-form o)) (tame-where o at there off) h none-above proper after class).0

pub writing-form : (o : EnvOptions) → FormLawful Writing
writing-form o = under-form Writing (alone o) (λ n s x s' y h. inl (inl h)) (alone-form o)

-- WHAT STEPS OF THE RULES DO, from what those of each do

module _ (P : Ledger → Ledger → Open → Open → Type 0) where
  abbrev pub Does : (Site → Ledger → Spot → Ledger → Spot → Type 0) → Type 0
  Does R = (s s' : Ledger) (x y : Open) → Step R the_program s x s' y → P s s' x y

  pub on-does : (b : Bool) (R : Site → Ledger → Spot → Ledger → Spot → Type 0) → Does R → Does (where_on b R)
  on-does b R does s s' x y h = does s s' x y (step_under (where_on b R) R (λ n s x s' y r. on-rule b R n s s' x y r) h)

  pub off-does : (b : Bool) (R : Site → Ledger → Spot → Ledger → Spot → Type 0) → b ≡ false → Does (where_on b R)
  off-does b R e s s' x y h = absurd (off-step b R e h)

  either-does : (R Q : Site → Ledger → Spot → Ledger → Spot → Type 0) → Does R → Does Q → Does (either_rule R Q)
  either-does R Q first second s s' x y h = at (step-either R Q h)
    where
      at : Step R the_program s x s' y ⊎ Step Q the_program s x s' y → P s s' x y
      at (inl r) = first s s' x y r
      at (inr r) = second s s' x y r

  -- at some places alone
  pub where-does : (at : Site → Spot → Bool) (R : Site → Ledger → Spot → Ledger → Spot → Type 0) → Does R → Does (only_where at R)
  where-does at R does s s' x y h = does s s' x y (anywhere at R h)

  pub on-where-does : (b : Bool) (at : Site → Spot → Bool) (R : Site → Ledger → Spot → Ledger → Spot → Type 0) → Does (only_where at R) → Does (only_where at (where_on b R))
  on-where-does b at R does s s' x y h = does s s' x y (step_under (only_where at (where_on b R)) (only_where at R) (λ n s x s' y r. (on-rule b R n s s' x y r.0, r.1)) h)

  -- of each rule, where options ask for it, and of these of chains and spreads
  pub record EachDoesBy (o : EnvOptions) (Chains Spreads : Site → Ledger → Spot → Ledger → Spot → Type 0) : Type 0 where
    pub writing : Does Writing
    pub assigning : Does (where_on o.es2021.logical_assignment_operators (RowRule LogicalAssignmentRule))
    pub coalescing : Does (RowRule NullishCoalescingRule)
    pub chaining : Does Chains
    pub raising : Does (where_on o.es2016.exponentiation_operator (RowRule ExponentiationRule))
    pub catching : Does CatchRule
    pub spreading : Does Spreads

  abbrev pub EachDoes : EnvOptions → Type 0
  EachDoes o = EachDoesBy o (chains_under o) (spreads_under o)

  module _ (o : EnvOptions) (Chains Spreads : Site → Ledger → Spot → Ledger → Spot → Type 0) (each : EachDoesBy o Chains Spreads) where
    abbrev Assigning : Site → Ledger → Spot → Ledger → Spot → Type 0
    Assigning = where_on o.es2021.logical_assignment_operators (RowRule LogicalAssignmentRule)

    abbrev Coalescing : Site → Ledger → Spot → Ledger → Spot → Type 0
    Coalescing = where_on o.es2020.nullish_coalescing_operator (RowRule NullishCoalescingRule)

    abbrev Raising : Site → Ledger → Spot → Ledger → Spot → Type 0
    Raising = where_on o.es2016.exponentiation_operator (RowRule ExponentiationRule)

    abbrev Rows : Site → Ledger → Spot → Ledger → Spot → Type 0
    Rows = either_rule Assigning (either_rule (either_rule Coalescing Chains) Raising)

    rows-does : Does Rows
    rows-does =
        either-does Assigning (either_rule (either_rule Coalescing Chains) Raising) each.assigning
        (either-does (either_rule Coalescing Chains) Raising
        (either-does Coalescing Chains (on-does o.es2020.nullish_coalescing_operator (RowRule NullishCoalescingRule) each.coalescing) each.chaining) each.raising)

    abbrev Further : Site → Ledger → Spot → Ledger → Spot → Type 0
    Further = either_rule (where_on o.es2019.optional_catch_binding CatchRule) Spreads

    does-by : Does (rules_by o Chains Spreads)
    does-by =
        either-does Writing (either_rule Rows Further) each.writing (either-does Rows Further rows-does
        (either-does (where_on o.es2019.optional_catch_binding CatchRule) Spreads (on-does o.es2019.optional_catch_binding CatchRule each.catching) each.spreading))

  module _ (o : EnvOptions) where
    pub statement-does : EachDoes o → Does (StatementRules o)
    statement-does each = does-by o (chains_under o) (spreads_under o) each

    -- and at some places alone, from what chains and spreads do there
    module _ (at : Site → Spot → Bool) where
      abbrev pub EachDoesWhere : Type 0
      EachDoesWhere = EachDoesBy o (only_where at (chains_under o)) (only_where at (spreads_under o))

      chains-there : (n : Site) (s : Ledger) (x : Spot) (s' : Ledger) (y : Spot) → only_where at (StatementRules o) n s x s' y → rules_by o (only_where at (chains_under o)) (only_where at (spreads_under o)) n s x s' y
      chains-there n s x s' y h = by-rule h.0
        where
          by-rule : StatementRules o n s x s' y → rules_by o (only_where at (chains_under o)) (only_where at (spreads_under o)) n s x s' y
          by-rule (inl r) = inl r
          by-rule (inr (inl (inl r))) = inr (inl (inl r))
          by-rule (inr (inl (inr (inl (inl r))))) = inr (inl (inr (inl (inl r))))
          by-rule (inr (inl (inr (inl (inr r))))) = inr (inl (inr (inl (inr (r, h.1)))))
          by-rule (inr (inl (inr (inr r)))) = inr (inl (inr (inr r)))
          by-rule (inr (inr (inl r))) = inr (inr (inl r))
          by-rule (inr (inr (inr r))) = inr (inr (inr (r, h.1)))

      pub statement-does-where : EachDoesWhere → Does (only_where at (StatementRules o))
      statement-does-where each s s' x y h =
          does-by o (only_where at (chains_under o)) (only_where at (spreads_under o)) each s s' x y (step_under (only_where at (StatementRules o)) (rules_by o (only_where at (chains_under o)) (only_where at (spreads_under o))) chains-there h)

-- WHAT EACH DOES TO RUNS

module _ (no_all : Bool) (u : Supply) (Clean : Whole → Tree → Type 0) (quiet : (w : Whole) (t : Tree) → Clean w t → silent_names u t ≡ []) where
  abbrev pub Keeping : Ledger → Ledger → Open → Open → Type 0
  Keeping s s' x y = Known s x → Known s' y → Clean (whole_in s) (finished x) → Clean (whole_in s') (finished y) → StepAlike no_all u (finished x) (finished y)

  abbrev pub Runs : (Site → Ledger → Spot → Ledger → Spot → Type 0) → Type 0
  Runs = Does Keeping

  -- a rule of nodes, from what its row does
  pub node-runs : (Q : Site → Ledger → Spot → Ledger → Spot → Type 0) (A : List Bound → Site → Whole → Tree → Tree → Type 0) (law : NodeRule Q A) → KeepsRuns no_all u law.hoisted A → Runs Q
  node-runs Q A law keeps s s' x y h k m c d =
      row-alike no_all u Q A law keeps (whole_in s) (finished x) (finished y) (program-moved Q A law h k.proper k.form k.class (known-fine k) (known-fine m) k.resolved) k.named (known-fine k) (known-fine m) (quiet (whole_in s) (finished x) c) (quiet (whole_in s') (finished y) d)

  -- a row that declares its temporaries
  pub replacing-runs : (R : Site → Whole → List Bound → Tree → Tree → Type 0) (shape : RowShape R) → KeepsRuns no_all u true (Row R shape) → Runs (Replacing R)
  replacing-runs R shape keeps = node-runs (Replacing R) (Row R shape) (replacing-rule R shape) (subst (λ (b : Bool). KeepsRuns no_all u b (Row R shape)) (sym (replacing-hoists R shape)) keeps)

  -- what is pending is written
  pub writing-runs : EnvOptions → Runs Writing
  writing-runs o s s' x y h k m c d = unchanged no_all u (finished x) (finished y) (written-same Writing (writing-form o) (λ n s s' t u h. absurd (writes-lists h)) h k.proper).1

  pub coalescing-runs : Runs (RowRule NullishCoalescingRule)
  coalescing-runs = replacing-runs CoalescingRow coalescing-shape (coalescing-keeps no_all u)

  -- a catch clause with a name
  pub catch-runs : Runs CatchRule
  catch-runs = node-runs CatchRule CatchRow catch-rule (subst (λ (b : Bool). KeepsRuns no_all u b CatchRow) (sym catch-stays) (catch-keeps no_all u))
