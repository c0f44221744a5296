-- Steps by symbols in a row from a core program are steps by names in a row.
use Rattle.std.proofs.Common.{◌≡◌, inl, inr, ℕ, refl, sym, ap, subst, ◌∙◌, List}
use Rattle.std.specs.Prelude.{Bool, true, false, Option, Some, None, codes, is_some}
use Rattle.es_tree.specs.Bare.{bare}
use Rattle.es_tree.specs.Tree.{Tree, node, Label, Fields, kind_of}
use Rattle.es_tree.specs.Words.{Text}
use Rattle.es_tree.specs.declared.ast_type.AstType.{AstType}
use Rattle.es_tree.specs.declared.ast_type.AstType.TheVariants.{Program}
use Rattle.es_tree.specs.declared.options.EnvOptions.{EnvOptions}
use Rattle.es_runs.specs.Alike.{all_of_it}
use Rattle.es_runs.specs.Open as plain
use Rattle.es_runs.specs.OpenRules as rules
use Rattle.es_runs.specs.OpenSteps as steps
use Rattle.es_runs.specs.OpenSteps.Step.{inside as plain_inside}
use Rattle.es_runs.proofs.OpenParts.{append_steps, one_step_alone}
use Rattle.es_runs.proofs.OpenRuns.{IsOpenProgram, all_go}
use Rattle.es_resolution.specs.Declarations.{Bound}
use Rattle.es_steps.specs.CoreBridge.{forgotten, forgotten_ledger}
use Rattle.es_steps.specs.CoreRules.{RowRule, where_on}
use Rattle.es_steps.specs.Exponentiation.{ExponentiationRule}
use Rattle.es_steps.specs.Exponentiation.ExponentiationRule.{power, power_assignment}
use Rattle.es_steps.specs.LogicalAssignment.{LogicalAssignmentRule}
use Rattle.es_steps.specs.LogicalAssignment.LogicalAssignmentRule.{to_name, to_static_member, to_computed_member}
use Rattle.es_steps.specs.NullishCoalescing.{NullishCoalescingRule}
use Rattle.es_steps.specs.NullishCoalescing.NullishCoalescingRule.{with_temporary, reading_again}
use Rattle.es_steps.specs.Open.{Open, open_node, OpenFields}
use Rattle.es_steps.specs.OptionalChaining.{OptionalChainingRule}
use Rattle.es_steps.specs.OptionalChaining.OptionalChainingRule.{by_tests, as_callee, in_delete}
use Rattle.es_steps.specs.Rules.Replacing.{replaces}
use Rattle.es_steps.specs.Steps.{Whole, Ledger, ledger, Site, Spot, at_node, Step, FieldsStep, Steps, site_in, the_program}
use Rattle.es_steps.specs.Steps.Step.{acts, inside}
use Rattle.es_steps.specs.Steps.Steps.{stays, goes}
use Rattle.es_steps.specs.WrapRule.WrapRule.{wraps}
use Rattle.es_steps.proofs.BridgeFurther.{all_of, further-kind, is_no_program}
use Rattle.es_steps.proofs.BridgeLinks.{asks, is_part_kind}
use Rattle.es_steps.proofs.BridgeOpen.{OpenTiedIn}
use Rattle.es_steps.proofs.BridgePlaces.{Passed, fields}
use Rattle.es_steps.proofs.BridgePrograms.{program-found}
use Rattle.es_steps.proofs.BridgeSteps.{LedgerTied, SiteFits, look_in, look_of, rule_of, used_in, writing-spot}
use Rattle.es_steps.proofs.BridgeInclusion.{step_under}

module _ (v o g : EnvOptions) (p : Tree) where
  -- NO RULE ACTS ON A PROGRAM

  on-kind : (c : Bool) (R : Site → Whole → List Bound → Tree → Tree → Type 0) (n : Site) (s s' : Ledger) (t u : Tree) → ((w : Whole) (bs : List Bound) (u : Tree) → R n w bs t u → is_part_kind (kind_of t) ≡ true) → where_on c (RowRule R) n s (at_node t) s' (at_node u) → is_part_kind (kind_of t) ≡ true
  on-kind true R n s s' t u law (replaces {w = w} bs r) = law w bs u r.rule
  on-kind false R n s s' t u law r = absurd r

  logical-kind : (n : Site) (t : Tree) (w : Whole) (bs : List Bound) (u : Tree) → LogicalAssignmentRule n w bs t u → is_part_kind (kind_of t) ≡ true
  logical-kind n t w bs u (to_name a b c d) = refl
  logical-kind n t w bs u (to_static_member a b c d e f) = refl
  logical-kind n t w bs u (to_computed_member a b c d e f g) = refl

  nullish-kind : (n : Site) (t : Tree) (w : Whole) (bs : List Bound) (u : Tree) → NullishCoalescingRule n w bs t u → is_part_kind (kind_of t) ≡ true
  nullish-kind n t w bs u (with_temporary a b c) = refl
  nullish-kind n t w bs u (reading_again a b) = refl

  chain-kind : (n : Site) (t : Tree) (w : Whole) (bs : List Bound) (u : Tree) → OptionalChainingRule o.assumptions.no_document_all n w bs t u → is_part_kind (kind_of t) ≡ true
  chain-kind n t w bs u (by_tests a b c) = refl
  chain-kind n t w bs u (as_callee a b c d) = refl
  chain-kind n t w bs u (in_delete a b c d e) = refl

  power-kind : (n : Site) (t : Tree) (w : Whole) (bs : List Bound) (u : Tree) → ExponentiationRule n w bs t u → is_part_kind (kind_of t) ≡ true
  power-kind n t w bs u (power a b c d) = refl
  power-kind n t w bs u (power_assignment a b c d e) = refl

  acted-kind : (s s' : Ledger) (t u : Tree) → rule_of v o the_program s (at_node t) s' (at_node u) → is_part_kind (kind_of t) ≡ true
  acted-kind s s' t u (inl r) = absurd (let no : true ≡ false = writing-spot p v o r in cc no)
  acted-kind s s' t u (inr (inl (wraps a b slot d))) = absurd (cc slot)
  acted-kind s s' t u (inr (inr (inl r))) = on-kind o.es2021.logical_assignment_operators LogicalAssignmentRule the_program s s' t u (logical-kind the_program t) r
  acted-kind s s' t u (inr (inr (inr (inl (inl r))))) = on-kind o.es2020.nullish_coalescing_operator NullishCoalescingRule the_program s s' t u (nullish-kind the_program t) r
  acted-kind s s' t u (inr (inr (inr (inl (inr r))))) = on-kind o.es2020.optional_chaining (OptionalChainingRule o.assumptions.no_document_all) the_program s s' t u (chain-kind the_program t) r
  acted-kind s s' t u (inr (inr (inr (inr r)))) = on-kind o.es2016.exponentiation_operator ExponentiationRule the_program s s' t u (power-kind the_program t) r

  no-root : (s s' : Ledger) (k : AstType) (l : Label) (fs : Fields) (u : Tree) → k ≡ Program → all_of v o g the_program s (at_node (node k l fs)) s' (at_node u) → ⊥
  no-root s s' k l fs u e (inl r) = let no : false ≡ true = sym (ap is_part_kind e) ∙ acted-kind s s' (node k l fs) u r in cc no
  no-root s s' k l fs u e (inr r) = let no : false ≡ true = sym (ap (λ j. is_no_program (node j l fs)) e) ∙ further-kind g the_program s s' (node k l fs) (at_node u) r in cc no

  -- THE PROGRAM

  abbrev pub RootTied : (Text → Bool) → (Text → Option ℕ) → Open → Type 0
  RootTied used look (open_node k l fs) = (k ≡ Program) × OpenTiedIn used look (asks true k l) fs

  root-site : (s : Ledger) (l : Label) (fs : OpenFields) → LedgerTied p s → OpenTiedIn (used_in p s) (look_in p s) (asks true Program l) fs → IsOpenProgram (steps.whole_in (forgotten_ledger p s)) (forgotten (open_node Program l fs)) → (i : ℕ) → SiteFits p (site_in the_program Program l fs i) (look_in p s)
  root-site (ledger w q x a) l fs h d known i = record { above = (refl, tt); math = λ e. at (look_of p w (codes "Math")) refl e }
    where
      at : (r : Option ℕ) → look_of p w (codes "Math") ≡ r → (site_in the_program Program l fs i).names.scope (codes "Math") ≡ None → look_of p w (codes "Math") ≡ None
      at None g e = g
      at (Some s) g e = sym (program-found p w h.0 l fs d known (codes "Math") (ap is_some g)) ∙ e

  abbrev RootPassed : Ledger → Ledger → Open → Open → Type 0
  RootPassed s s' t u = Passed v o g p s s' (steps.Step (rules.rule_under o) all_of_it (forgotten_ledger p s) (forgotten t) (forgotten_ledger p s') (forgotten u)) (λ used look. RootTied used look u)

  inside-root : (k : AstType) → Program ≡ k → (s s' : Ledger) (l : Label) (fs gs : OpenFields) → FieldsStep (all_of v o g) (site_in the_program k l fs) s fs s' gs → LedgerTied p s → OpenTiedIn (used_in p s) (look_in p s) (asks true k l) fs →
      IsOpenProgram (steps.whole_in (forgotten_ledger p s)) (forgotten (open_node k l fs)) → RootPassed s s' (open_node k l fs) (open_node k l gs)
  inside-root k e s s' l fs gs r h d known = subst goal e at r d known
    where
      goal : AstType → Type 0
      goal j = FieldsStep (all_of v o g) (site_in the_program j l fs) s fs s' gs → OpenTiedIn (used_in p s) (look_in p s) (asks true j l) fs → IsOpenProgram (steps.whole_in (forgotten_ledger p s)) (forgotten (open_node j l fs)) → RootPassed s s' (open_node j l fs) (open_node j l gs)

      at : goal Program
      at r d known =
          let g = fields v o g p (site_in the_program Program l fs) s s' (asks true Program l) r h (root-site s l fs h d known) d in
          record { plain = plain_inside g.plain; after = g.after; tied = (refl, g.tied); grow = g.grow }

  root-step : (s s' : Ledger) {t u : Open} → Step (all_of v o g) the_program s t s' u → LedgerTied p s → RootTied (used_in p s) (look_in p s) t → IsOpenProgram (steps.whole_in (forgotten_ledger p s)) (forgotten t) → RootPassed s s' t u
  root-step s s' (acts (node k l fs) u r) h d known = absurd (no-root s s' k l fs u d.0 r)
  root-step s s' (inside {k = k} {l = l} {fs = fs} {gs = gs} r) h d known = inside-root k (sym d.0) s s' l fs gs r h d.1 known

-- EACH ROW, ASKED FOR OR NOT

-- options that ask for each row
abbrev pub with_all : EnvOptions → EnvOptions
with_all o = record o {
  es2016 = record o.es2016 { exponentiation_operator = true };
  es2020 = record o.es2020 { nullish_coalescing_operator = true; optional_chaining = true };
  es2021 = record o.es2021 { logical_assignment_operators = true };
}

on-rule : (c : Bool) (R : Site → Ledger → Spot → Ledger → Spot → Type 0) (n : Site) (s : Ledger) (x : Spot) (s' : Ledger) (y : Spot) → where_on c R n s x s' y → R n s x s' y
on-rule true R n s x s' y r = r
on-rule false R n s x s' y r = absurd r

pub with-rows : (v o g : EnvOptions) (n : Site) (s : Ledger) (x : Spot) (s' : Ledger) (y : Spot) → all_of v o g n s x s' y → all_of v (with_all o) g n s x s' y
with-rows v o g n s x s' y (inr r) = inr r
with-rows v o g n s x s' y (inl (inl r)) = inl (inl r)
with-rows v o g n s x s' y (inl (inr (inl r))) = inl (inr (inl r))
with-rows v o g n s x s' y (inl (inr (inr (inl r)))) = inl (inr (inr (inl (on-rule o.es2021.logical_assignment_operators (RowRule LogicalAssignmentRule) n s x s' y r))))
with-rows v o g n s x s' y (inl (inr (inr (inr (inl (inl r)))))) = inl (inr (inr (inr (inl (inl (on-rule o.es2020.nullish_coalescing_operator (RowRule NullishCoalescingRule) n s x s' y r))))))
with-rows v o g n s x s' y (inl (inr (inr (inr (inl (inr r)))))) = inl (inr (inr (inr (inl (inr (on-rule o.es2020.optional_chaining (RowRule (OptionalChainingRule o.assumptions.no_document_all)) n s x s' y r))))))
with-rows v o g n s x s' y (inl (inr (inr (inr (inr r))))) = inl (inr (inr (inr (inr (on-rule o.es2016.exponentiation_operator (RowRule ExponentiationRule) n s x s' y r)))))

-- MANY STEPS

module _ (v o g : EnvOptions) (p : Tree) where
  abbrev pub Going : Ledger → Open → Type 0
  Going s t = IsOpenProgram (steps.whole_in (forgotten_ledger p s)) (forgotten t)

  abbrev PlainSteps : Ledger → Open → Type 0
  PlainSteps s t = steps.Steps (steps.Step (rules.rule_under o) all_of_it) (steps.ledger (steps.whole_of p) plain.nothing_pending) (plain.opened (bare p)) (forgotten_ledger p s) (forgotten t)

  still-going : (s s' : Ledger) {t u : Open} → Step (all_of v o g) the_program s t s' u → LedgerTied p s → RootTied v o g p (used_in p s) (look_in p s) t → Going s t → Going s' u
  still-going s s' r h d known = (all_go o.assumptions.no_document_all (one_step_alone (root-step v (with_all o) g p s s' (step_under (all_of v o g) (all_of v (with_all o) g) (with-rows v o g) r) h d known).plain) known).after

  pub many-steps : (s s' : Ledger) {t u : Open} → Steps (Step (all_of v o g) the_program) s t s' u → LedgerTied p s → RootTied v o g p (used_in p s) (look_in p s) t → Going s t → PlainSteps s t → PlainSteps s' u
  many-steps s s' stays h d known so_far = so_far
  many-steps s s' (goes {s' = m} {t = t} {u = u} r rest) h d known so_far =
      let g = root-step v o g p s m r h d known in
      many-steps m s' rest g.after g.tied (still-going s m r h d known) (append_steps so_far (one_step_alone g.plain))
