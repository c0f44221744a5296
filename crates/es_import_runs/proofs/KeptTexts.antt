-- Steps of the rules but exponentiation make no literal whose text is a helper's module, and nor do ids and marks.
use Rattle.std.proofs.Common.{◌≡◌, ◌∙◌, ℕ, refl, sym, ap, subst, List}
use Rattle.std.proofs.lemmas.Bool.{and_from, and_parts}
use Rattle.std.specs.Prelude.{◌&&◌, Bool, true, false, not, codes, is_some}
use Rattle.es_tree.specs.Bare.{bare, bare_fields, bare_label}
use Rattle.es_tree.specs.HasForm.{has_form}
use Rattle.es_tree.specs.Names.{first_text}
use Rattle.es_tree.specs.Parens.{without_parens}
use Rattle.es_tree.specs.Scopes.{Declared}
use Rattle.es_tree.specs.Tree.{Tree, node, Label, Fields, done, ◌then◌, missing, one, many, statements}
use Rattle.es_tree.specs.Walks.{all_in_fields, all_in_trees, all_nodes}
use Rattle.es_tree.specs.Words.{Text}
use Rattle.es_tree.specs.declared.ast_type.AstType.{AstType}
use Rattle.es_tree.specs.declared.ast_type.AstType.TheVariants.{BigIntLiteral, NumericLiteral, ParenthesizedExpression, StringLiteral}
use Rattle.es_tree.specs.declared.options.EnvOptions.{EnvOptions}
use Rattle.es_tree.specs.declared.table.Sort.TheVariants.{Program as s-Program}
use Rattle.es_semantic.specs.RolesOf.{reads}
use Rattle.es_resolution.specs.Declarations.{Bound}
use Rattle.es_runs.specs.Core.{second}
use Rattle.es_runs.specs.Runs.{program}
use Rattle.es_steps.specs.CoreBridge.{names_among}
use Rattle.es_steps.specs.CoreRules.{RowRule}
use Rattle.es_steps.specs.Exponentiation.{ExponentiationRule}
use Rattle.es_steps.specs.LogicalAssignment.{LogicalAssignmentRule}
use Rattle.es_steps.specs.Nodes.{placed}
use Rattle.es_steps.specs.NullishCoalescing.{NullishCoalescingRule}
use Rattle.es_steps.specs.NullishCoalescing.NullishCoalescingRule.{reading_again, with_temporary}
use Rattle.es_steps.specs.ObjectSpread.{SpreadRule}
use Rattle.es_steps.specs.Open.{Open, finished}
use Rattle.es_steps.specs.OptionalCatch.{CatchRule}
use Rattle.es_steps.specs.OptionalChaining.{OptionalChainingRule}
use Rattle.es_steps.specs.Rules.{Replacing, Writing}
use Rattle.es_steps.specs.Steps.{Ledger, Site, Spot, Whole}
use Rattle.es_steps.proofs.RuleLaws.{writes-lists}
use Rattle.es_steps.proofs.Taken.{whole_in}
use Rattle.es_valid_steps.proofs.Spread.{finished-spread}
use Rattle.es_statement_runs.specs.Helpers.{helper_in}
use Rattle.es_statement_runs.specs.Laws.{among_names}
use Rattle.es_statement_runs.specs.Places.{Take}
use Rattle.es_statement_runs.proofs.Moved.{MovedFields, Room}
use Rattle.es_statement_steps.specs.Laws.{powers_there}
use Rattle.es_statement_steps.proofs.Absent.{Absent, no-power, not-there}
use Rattle.es_statement_steps.proofs.Assignments.{AssigningRow, assigning-shape}
use Rattle.es_statement_steps.proofs.BareTests.{fields-bare}
use Rattle.es_statement_steps.proofs.Catchings.{CatchRow, catch-rule}
use Rattle.es_statement_steps.proofs.Catchings.CatchMade.{made_catch}
use Rattle.es_statement_steps.proofs.Chainings.{ChainingRow, chaining-shape}
use Rattle.es_statement_steps.proofs.Coalescings.{CoalescingRow, coalescing-shape}
use Rattle.es_statement_steps.proofs.Composition.{Known, known-fine}
use Rattle.es_statement_steps.proofs.ExportSplits.{is_export_kind}
use Rattle.es_statement_steps.proofs.Exports.{exports-so}
use Rattle.es_statement_steps.proofs.MovedTests.{Alone, form_alone, list-so, name_alone}
use Rattle.es_statement_steps.proofs.ProgramMoves.{MovedProgram, ProgramWent, program-moved}
use Rattle.es_statement_steps.proofs.Replacings.{Row, replacing-rule}
use Rattle.es_statement_steps.proofs.SpreadParts.{spread-so}
use Rattle.es_statement_steps.proofs.SpreadRuns.{spread-shape}
use Rattle.es_statement_steps.proofs.StatementLaw.{KeptInOrder}
use Rattle.es_statement_steps.proofs.StepMoves.{Acted, NodeRule}
use Rattle.es_statement_steps.proofs.StepRules.{Does, StatementRules, on-does, statement-does, writing-form}
use Rattle.es_statement_steps.proofs.Writings.{written-same}
use Rattle.es_import_runs.specs.Laws.{no_helper_text}
use Rattle.es_import_runs.proofs.NoTexts.{no_path}
use Rattle.es_import_runs.proofs.RowWalks.{Keeps, assigning_keeps, chaining_keeps}

module _ (m : Text) where
  abbrev NoText : AstType → Label → Fields → Bool
  NoText = no_helper_text m

  abbrev pub HasNone : Tree → Type 0
  HasNone t = all_nodes NoText t ≡ true

  -- IDS AND MARKS

  label_texts : (k : AstType) (l : Label) (fs : Fields) → NoText k (bare_label l) (bare_fields fs) ≡ NoText k l fs
  label_texts StringLiteral l fs = refl
  label_texts NumericLiteral l fs = refl
  label_texts BigIntLiteral l fs = refl
  label_texts _ l fs = refl

  pub same_texts : (t u : Tree) → bare t ≡ bare u → HasNone t → HasNone u
  same_texts t u e h =
      let both : all_in_fields NoText (one u then done) ≡ all_in_fields NoText (one t then done) = sym (fields-bare NoText label_texts (one u then done)) ∙ ap (λ (z : Tree). all_nodes NoText z && true) (sym e) ∙ fields-bare NoText label_texts (one t then done) in
      (and_parts (all_nodes NoText u) true (both ∙ and_from (all_nodes NoText t) true h refl)).0

  -- ROWS

  coalescing_texts : (n : Site) (w : Whole) (bs : List Bound) (t u : Tree) → NullishCoalescingRule n w bs t u → HasNone t → HasNone u
  coalescing_texts n w _ _ _ (with_temporary {l = l} {r = r} texts again next) h = let d = and_parts (all_nodes NoText l) (all_nodes NoText r && true) h in rw (no_path m (codes "0") refl, d.0, (and_parts (all_nodes NoText r) true d.1).0) refl
  coalescing_texts n w _ _ _ (reading_again {l = l} {r = r} texts again) h = let d = and_parts (all_nodes NoText l) (all_nodes NoText r && true) h in rw (no_path m (codes "0") refl, d.0, (and_parts (all_nodes NoText r) true d.1).0) refl

  catch_texts : (new : List Bound) (n : Site) (w : Whole) (t u : Tree) → CatchRow new n w t u → HasNone t → HasNone u
  catch_texts new n w _ _ (made_catch fresh) h = h

  texts_parens : (t : Tree) → HasNone t → HasNone (without_parens t)
  texts_parens (node ParenthesizedExpression l (one t then fs)) h = texts_parens t (and_parts (all_nodes NoText t) (all_in_fields NoText fs) h).0
  texts_parens (node ParenthesizedExpression l done) h = h
  texts_parens (node ParenthesizedExpression l (missing then fs)) h = h
  texts_parens (node ParenthesizedExpression l (many ts then fs)) h = h
  texts_parens (node ParenthesizedExpression l (statements ts then fs)) h = h
  texts_parens (node _ l fs) h = h

  pair : (a b : Bool) → a ≡ true → b ≡ true → (a && (b && true)) ≡ true
  pair a b h g = and_from a (b && true) h (and_from b true g refl)

  unpair : (a b : Bool) → (a && (b && true)) ≡ true → (a ≡ true) × (b ≡ true)
  unpair a b h = let d = and_parts a (b && true) h in (d.0, (and_parts b true d.1).0)

  texts_keep : Keeps (λ r t. HasNone t) (λ ts. all_in_trees NoText ts ≡ true) (λ x. Unit {0})
  texts_keep = record {
    parens = λ r t h. texts_parens t h;
    fresh = λ in_use from x h. tt;
    name = λ r x h. refl;
    again = λ op r l h. refl;
    key = λ x. refl;
    math = refl;
    null = refl;
    nothing = rw (no_path m (codes "0") refl) refl;
    this = refl;
    yes = refl;
    member = λ r l o p h g. pair (all_nodes NoText o) (all_nodes NoText p) h g;
    of_member = λ r l o p h. unpair (all_nodes NoText o) (all_nodes NoText p) h;
    assigned = λ r l a b h g. pair (all_nodes NoText a) (all_nodes NoText b) h g;
    of_assigned = λ r l a b h. unpair (all_nodes NoText a) (all_nodes NoText b) h;
    logical = λ r l a b h g. pair (all_nodes NoText a) (all_nodes NoText b) h g;
    binary = λ r l a b h g. pair (all_nodes NoText a) (all_nodes NoText b) h g;
    of_binary = λ r l a b h. unpair (all_nodes NoText a) (all_nodes NoText b) h;
    conditional = λ r l a b c h g f. and_from (all_nodes NoText a) (all_nodes NoText b && (all_nodes NoText c && true)) h (pair (all_nodes NoText b) (all_nodes NoText c) g f);
    called = λ r l f ts h g. pair (all_nodes NoText f) (all_in_trees NoText ts) h g;
    none = refl;
    more = λ t ts h g. and_from (all_nodes NoText t) (all_in_trees NoText ts) h g;
    first = λ t ts h. (and_parts (all_nodes NoText t) (all_in_trees NoText ts) h).0;
    rest = λ t ts h. (and_parts (all_nodes NoText t) (all_in_trees NoText ts) h).1;
    sequence = λ r l ts h. and_from (all_in_trees NoText ts) true h refl;
    unary = λ r l e h. and_from (all_nodes NoText e) true h refl;
    of_unary = λ r l e h. (and_parts (all_nodes NoText e) true h).0;
    of_chain = λ r l e h. (and_parts (all_nodes NoText e) true h).0;
  }

  assigning_texts : (n : Site) (w : Whole) (bs : List Bound) (t u : Tree) → LogicalAssignmentRule n w bs t u → HasNone t → HasNone u
  assigning_texts n w bs t u h c = assigning_keeps (λ r t. HasNone t) (λ ts. all_in_trees NoText ts ≡ true) (λ x. Unit {0}) texts_keep n w bs t u h reads c

  chaining_texts : (no_all : Bool) (n : Site) (w : Whole) (bs : List Bound) (t u : Tree) → OptionalChainingRule no_all n w bs t u → HasNone t → HasNone u
  chaining_texts no_all n w bs t u h c = chaining_keeps (λ r t. HasNone t) (λ ts. all_in_trees NoText ts ≡ true) (λ x. Unit {0}) texts_keep (λ r l f ts g. unpair (all_nodes NoText f) (all_in_trees NoText ts) g) no_all n w bs t u h reads c

  placed_texts : (l : Label) (t : Tree) → all_nodes NoText (placed l t) ≡ all_nodes NoText t
  placed_texts l (node StringLiteral i fs) = refl
  placed_texts l (node NumericLiteral i fs) = refl
  placed_texts l (node BigIntLiteral i fs) = refl
  placed_texts l (node _ i fs) = refl

  spread_texts : (new : List Bound) (n : Site) (w : Whole) (t u : Tree) → SpreadRule n w new t u → HasNone t → HasNone u
  spread_texts new n w t u h = spread-so NoText refl (λ given. refl) (λ ps. refl) placed_texts n w new t u h

  export_texts : (k : AstType) (l : Label) (fs : Fields) → is_export_kind k ≡ true → NoText k l fs ≡ true
  export_texts StringLiteral l fs h = absurd (cc h)
  export_texts NumericLiteral l fs h = absurd (cc h)
  export_texts BigIntLiteral l fs h = absurd (cc h)
  export_texts _ l fs h = refl

  -- WHAT A STEP OF ONE LEAVES

  module _ (fresh : Text → Bool) (R : List Declared → Take → Tree → Tree → Type 0) where
    node_texts : (r : ℕ → Room) (d : ℕ → List Declared) (c : ℕ → Take) (k : AstType) (l i : Label) (fs gs : Fields) → i.texts ≡ l.texts → MovedFields fresh R r d c fs gs → all_in_fields name_alone gs ≡ true → NoText k l fs ≡ true → NoText k i gs ≡ true
    node_texts r d c StringLiteral l i fs gs e h q n = (λ j. not (is_some (helper_in m (first_text (e j))))) ∙ n
    node_texts r d c NumericLiteral l i fs gs e h q n = (λ j. not (is_some (helper_in m (second (e j))))) ∙ n
    node_texts r d c BigIntLiteral l i fs gs e h q n = (λ j. not (is_some (helper_in m (second (e j))))) ∙ n
    node_texts r d c _ l i fs gs e h q n = refl

  module _ (p : Tree) where
    abbrev StaysTexts : Ledger → Ledger → Open → Open → Type 0
    StaysTexts s s' x y = Known s x → Known s' y → Absent p (finished x) → HasNone (finished x) → HasNone (finished y)

    texts_after : (Q : Site → Ledger → Spot → Ledger → Spot → Type 0) (A : List Bound → Site → Whole → Tree → Tree → Type 0) (law : NodeRule Q A) → ((new : List Bound) (n : Site) (w : Whole) (a b : Tree) → A new n w a b → HasNone a → HasNone b) →
        (w : Whole) (x y : Tree) → ProgramWent law.hoisted (MovedProgram Q A law) w x y → has_form s-Program y ≡ true → HasNone x → HasNone y
    texts_after Q A law rows w x y h form texts =
        let first_so : all_nodes NoText (program h.label h.directives h.body) ≡ true = subst HasNone h.first texts in
        let alone : all_nodes name_alone (program h.label h.directives h.after) ≡ true = subst Alone h.second (form_alone y form) in
        let b = and_parts (all_in_trees NoText h.directives) (all_in_trees NoText h.body && true) first_so in
        let c = and_parts (all_in_trees name_alone h.directives) (all_in_trees name_alone h.after && true) alone in
        let fresh = among_names (names_among h.new) in
        let after : all_in_trees NoText h.after ≡ true =
        list-so fresh (Acted A h.new) NoText (λ ds t a b r. rows h.new r.site r.whole a b r.rule) (node_texts fresh (Acted A h.new)) (λ l fs. (refl, (refl, (refl, refl)))) (λ l i fs gs e n. refl) (λ l fs e. refl) h.moved (and_parts (all_in_trees NoText h.body) true b.1).0 (and_parts (all_in_trees name_alone h.after) true c.1).0 in
        subst HasNone (sym h.second) (and_from (all_in_trees NoText h.directives) (all_in_trees NoText h.after && true) b.0 (and_from (all_in_trees NoText h.after) true after refl))

    node_stays : (Q : Site → Ledger → Spot → Ledger → Spot → Type 0) (A : List Bound → Site → Whole → Tree → Tree → Type 0) (law : NodeRule Q A) → ((new : List Bound) (n : Site) (w : Whole) (a b : Tree) → A new n w a b → HasNone a → HasNone b) → Does StaysTexts Q
    node_stays Q A law rows s s' x y h k i a c = texts_after Q A law rows (whole_in s) (finished x) (finished y) (program-moved Q A law h k.proper k.form k.class (known-fine k) (known-fine i) k.resolved) i.form c

    steps_stay : (o : EnvOptions) → powers_there o p ≡ false → Does StaysTexts (StatementRules o)
    steps_stay o off = statement-does StaysTexts o (record {
      writing = λ s s' x y h k i a c. subst HasNone (written-same Writing (writing-form o) (λ n s s' t u h. absurd (writes-lists h)) h k.proper).1 c;
      assigning = on-does StaysTexts o.es2021.logical_assignment_operators (RowRule LogicalAssignmentRule) (node_stays (RowRule LogicalAssignmentRule) (Row AssigningRow assigning-shape) (replacing-rule AssigningRow assigning-shape) (λ new n w a b h. assigning_texts n w new a b h.rule));
      coalescing = node_stays (RowRule NullishCoalescingRule) (Row CoalescingRow coalescing-shape) (replacing-rule CoalescingRow coalescing-shape) (λ new n w a b h. coalescing_texts n w new a b h.rule);
      chaining = on-does StaysTexts o.es2020.optional_chaining (RowRule (OptionalChainingRule o.assumptions.no_document_all)) (node_stays (RowRule (OptionalChainingRule o.assumptions.no_document_all)) (Row (ChainingRow o.assumptions.no_document_all) (chaining-shape o.assumptions.no_document_all))
          (replacing-rule (ChainingRow o.assumptions.no_document_all) (chaining-shape o.assumptions.no_document_all)) (λ new n w a b h. chaining_texts o.assumptions.no_document_all n w new a b h.rule));
      raising = λ s s' x y h k i a c. absurd (not-there o.es2016.exponentiation_operator _ p (RowRule ExponentiationRule) off (no-power p) s s' x y h k.proper k.class a);
      catching = node_stays CatchRule CatchRow catch-rule catch_texts;
      spreading = on-does StaysTexts (is_some o.es2018.object_rest_spread) (Replacing SpreadRule) (node_stays (Replacing SpreadRule) (Row SpreadRule spread-shape) (replacing-rule SpreadRule spread-shape) spread_texts);
    })

  pub keeps_texts : (o : EnvOptions) (p : Tree) → powers_there o p ≡ false → KeptInOrder o p HasNone
  keeps_texts o p off = record {
    steps = λ s s' x y h k i a n c. steps_stay p o off s s' x y h k i a c;
    exports = λ s s' x y h k i c. exports-so NoText export_texts (λ x new. refl) o h (subst (λ (t : Tree). has_form s-Program t ≡ true) (finished-spread x) k.form) c;
  }
