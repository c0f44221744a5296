-- Steps of the rules make no name that is a cell of the machine, and nor do ids and marks.
use Rattle.std.proofs.Common.{◌≡◌, ◌∙◌, ℕ, zero, suc, refl, sym, ap, subst, List}
use Rattle.std.proofs.lemmas.Bool.{and_from, and_parts}
use Rattle.std.specs.Prelude.{◌&&◌, Bool, true, false, not, codes, is_some}
use Rattle.es_tree.specs.Bare.{bare, bare_fields, bare_label}
use Rattle.es_tree.specs.Fresh.{candidate}
use Rattle.es_tree.specs.HasForm.{has_form}
use Rattle.es_tree.specs.Names.{first_text}
use Rattle.es_tree.specs.Scopes.{Declared}
use Rattle.es_tree.specs.Tree.{Tree, node, Label, Fields, done, ◌then◌, one}
use Rattle.es_tree.specs.Walks.{all_in_fields, all_in_trees, all_nodes}
use Rattle.es_tree.specs.Words.{Text}
use Rattle.es_tree.specs.declared.ast_type.AstType.{AstType}
use Rattle.es_tree.specs.declared.ast_type.AstType.TheVariants.{Identifier}
use Rattle.es_tree.specs.declared.options.EnvOptions.{EnvOptions}
use Rattle.es_tree.specs.declared.table.Sort.TheVariants.{Program as s-Program}
use Rattle.es_resolution.specs.Declarations.{Bound}
use Rattle.es_runs.specs.Runs.{program}
use Rattle.es_steps.specs.CoreBridge.{names_among}
use Rattle.es_steps.specs.CoreRules.{RowRule}
use Rattle.es_steps.specs.Exponentiation.{ExponentiationRule}
use Rattle.es_steps.specs.LogicalAssignment.{LogicalAssignmentRule}
use Rattle.es_steps.specs.Nodes.{placed}
use Rattle.es_steps.specs.NullishCoalescing.{NullishCoalescingRule}
use Rattle.es_steps.specs.ObjectSpread.{SpreadRule}
use Rattle.es_steps.specs.Open.{Open, finished}
use Rattle.es_steps.specs.OptionalCatch.{CatchRule}
use Rattle.es_steps.specs.OptionalChaining.{OptionalChainingRule}
use Rattle.es_steps.specs.Rules.{Replacing, Writing}
use Rattle.es_steps.specs.Steps.{Ledger, Site, Spot, Whole}
use Rattle.es_steps.proofs.RuleLaws.{writes-lists}
use Rattle.es_steps.proofs.Taken.{whole_in}
use Rattle.es_valid_steps.proofs.Spread.{finished-spread}
use Rattle.es_statement_runs.specs.Laws.{among_names}
use Rattle.es_statement_runs.specs.Places.{Take}
use Rattle.es_statement_runs.specs.Programs.{names_no_cell}
use Rattle.es_statement_runs.specs.Scopes.{is_own_cell}
use Rattle.es_statement_runs.proofs.Moved.{MovedFields, Room}
use Rattle.es_statement_steps.proofs.Assignments.{AssigningRow, assigning-shape}
use Rattle.es_statement_steps.proofs.BareTests.{fields-bare}
use Rattle.es_statement_steps.proofs.Catchings.{CatchRow, catch-rule}
use Rattle.es_statement_steps.proofs.Catchings.CatchMade.{made_catch}
use Rattle.es_statement_steps.proofs.Chainings.{ChainingRow, chaining-shape}
use Rattle.es_statement_steps.proofs.Coalescings.{CoalescingRow, coalescing-shape}
use Rattle.es_statement_steps.proofs.Composition.{Known, known-fine}
use Rattle.es_statement_steps.proofs.ExportSplits.{is_export_kind}
use Rattle.es_statement_steps.proofs.Exports.{exports-so}
use Rattle.es_statement_steps.proofs.MadeNames.{all_made, fresh_made, is_made_text, made_among, made_no_cell}
use Rattle.es_statement_steps.proofs.MadeOf.{PassesMade, any_object, assigning-of, chaining-of, coalescing-of, is_made_kind, raising-of}
use Rattle.es_statement_steps.proofs.MovedTests.{Alone, form_alone, list-so, name_alone}
use Rattle.es_statement_steps.proofs.Powers.{RaisingRow, raising-shape}
use Rattle.es_statement_steps.proofs.ProgramMoves.{MovedProgram, ProgramWent, program-moved}
use Rattle.es_statement_steps.proofs.Replacings.{Row, replacing-rule}
use Rattle.es_statement_steps.proofs.SpreadParts.{spread-so}
use Rattle.es_statement_steps.proofs.SpreadRuns.{spread-shape}
use Rattle.es_statement_steps.proofs.StatementLaw.{KeptInOrder}
use Rattle.es_statement_steps.proofs.StepMoves.{Acted, NodeRule}
use Rattle.es_statement_steps.proofs.StepRules.{Does, StatementRules, on-does, statement-does, writing-form}
use Rattle.es_statement_steps.proofs.Writings.{written-same}

abbrev pub NoCells : Tree → Type 0
NoCells t = all_nodes names_no_cell t ≡ true

-- IDS AND MARKS

label_names : (k : AstType) (l : Label) (fs : Fields) → names_no_cell k (bare_label l) (bare_fields fs) ≡ names_no_cell k l fs
label_names Identifier l fs = refl
label_names _ l fs = refl

pub same_names : (t u : Tree) → bare t ≡ bare u → NoCells t → NoCells u
same_names t u e h =
    let both : all_in_fields names_no_cell (one u then done) ≡ all_in_fields names_no_cell (one t then done) = sym (fields-bare names_no_cell label_names (one u then done)) ∙ ap (λ (z : Tree). all_nodes names_no_cell z && true) (sym e) ∙ fields-bare names_no_cell label_names (one t then done) in
    (and_parts (all_nodes names_no_cell u) true (both ∙ and_from (all_nodes names_no_cell t) true h refl)).0

-- ROWS

abbrev is_program_name : Text → Bool
is_program_name x = not (is_own_cell x)

names_pass : PassesMade is_program_name any_object names_no_cell
names_pass = record {
  nodes = nodes;
  members = λ l o fs h. refl;
  names = λ l h. h;
  objects = λ l o fs h. refl;
  made_objects = λ k l fs h. refl;
  member_objects = λ l fs. refl;
  name_objects = λ l h. refl;
  parens = λ t h. refl;
  chains = λ t c l h e. refl;
  fresh = fresh;
  math = refl;
  pow = refl;
  call = refl;
  bind = refl;
}
  where
    nodes : (k : AstType) (l : Label) (fs : Fields) → is_made_kind k ≡ true → names_no_cell k l fs ≡ true
    nodes Identifier l fs h = absurd (cc h)
    nodes _ l fs h = refl

    fresh : (text : Text) (n : ℕ) → is_program_name (candidate text n) ≡ true
    fresh text zero = refl
    fresh text (suc n) = refl

catch_names : (new : List Bound) (n : Site) (w : Whole) (t u : Tree) → CatchRow new n w t u → NoCells t → NoCells u
catch_names new n w _ _ (made_catch {x = x} fresh) h = rw (made_no_cell x.name (fresh_made w.in_use (codes "unused") x.name fresh)) h

placed_names : (l : Label) (t : Tree) → all_nodes names_no_cell (placed l t) ≡ all_nodes names_no_cell t
placed_names l (node Identifier i fs) = refl
placed_names l (node _ i fs) = refl

spread_names : (new : List Bound) (n : Site) (w : Whole) (t u : Tree) → SpreadRule n w new t u → NoCells t → NoCells u
spread_names new n w t u h = spread-so names_no_cell refl (λ given. refl) (λ ps. refl) placed_names n w new t u h

export_names : (k : AstType) (l : Label) (fs : Fields) → is_export_kind k ≡ true → names_no_cell k l fs ≡ true
export_names Identifier l fs h = absurd (cc h)
export_names _ l fs h = refl

-- WHAT A STEP OF ONE LEAVES

node_names : (fresh : Text → Bool) (R : List Declared → Take → Tree → Tree → Type 0) (r : ℕ → Room) (d : ℕ → List Declared) (c : ℕ → Take) (k : AstType) (l i : Label) (fs gs : Fields) → i.texts ≡ l.texts → MovedFields fresh R r d c fs gs → all_in_fields name_alone gs ≡ true → names_no_cell k l fs ≡ true → names_no_cell k i gs ≡ true
node_names fresh R r d c Identifier l i fs gs e h q n = (λ j. not (is_own_cell (first_text (e j)))) ∙ n
node_names fresh R r d c _ l i fs gs e h q n = refl

new_name : (xs : List Text) → all_made xs ≡ true → (x : Text) → among_names xs x ≡ true → is_own_cell x ≡ false
new_name xs made x h = at (is_made_text x) refl
  where
    at : (b : Bool) → is_made_text x ≡ b → is_own_cell x ≡ false
    at true e = made_no_cell x e
    at false e = absurd (let no : true ≡ false = sym h ∙ made_among x xs e made in cc no)

abbrev StaysNames : Ledger → Ledger → Open → Open → Type 0
StaysNames s s' x y = Known s x → Known s' y → NoCells (finished x) → NoCells (finished y)

names_after : (Q : Site → Ledger → Spot → Ledger → Spot → Type 0) (A : List Bound → Site → Whole → Tree → Tree → Type 0) (law : NodeRule Q A) → ((new : List Bound) (n : Site) (w : Whole) (a b : Tree) → A new n w a b → NoCells a → NoCells b) →
    (w : Whole) (x y : Tree) → ProgramWent law.hoisted (MovedProgram Q A law) w x y → has_form s-Program y ≡ true → NoCells x → NoCells y
names_after Q A law rows w x y h form names =
    let P = names_no_cell in
    let first_so : all_nodes P (program h.label h.directives h.body) ≡ true = subst NoCells h.first names in
    let alone : all_nodes name_alone (program h.label h.directives h.after) ≡ true = subst Alone h.second (form_alone y form) in
    let b = and_parts (all_in_trees P h.directives) (all_in_trees P h.body && true) first_so in
    let c = and_parts (all_in_trees name_alone h.directives) (all_in_trees name_alone h.after && true) alone in
    let fresh = among_names (names_among h.new) in
    let after : all_in_trees P h.after ≡ true =
    list-so fresh (Acted A h.new) P (λ ds t a b r. rows h.new r.site r.whole a b r.rule) (node_names fresh (Acted A h.new)) (λ l fs. (refl, (refl, (refl, refl)))) (λ l i fs gs e n. (λ j. not (is_own_cell (first_text (e j)))) ∙ n) (λ l fs e. ap not (new_name (names_among h.new) h.are_new.names (first_text l.texts) e)) h.moved
    (and_parts (all_in_trees P h.body) true b.1).0 (and_parts (all_in_trees name_alone h.after) true c.1).0 in
    subst NoCells (sym h.second) (and_from (all_in_trees P h.directives) (all_in_trees P h.after && true) b.0 (and_from (all_in_trees P h.after) true after refl))

node_stays : (Q : Site → Ledger → Spot → Ledger → Spot → Type 0) (A : List Bound → Site → Whole → Tree → Tree → Type 0) (law : NodeRule Q A) → ((new : List Bound) (n : Site) (w : Whole) (a b : Tree) → A new n w a b → NoCells a → NoCells b) → Does StaysNames Q
node_stays Q A law rows s s' x y h k i c = names_after Q A law rows (whole_in s) (finished x) (finished y) (program-moved Q A law h k.proper k.form k.class (known-fine k) (known-fine i) k.resolved) i.form c

steps_stay : (o : EnvOptions) → Does StaysNames (StatementRules o)
steps_stay o = statement-does StaysNames o (record {
  writing = λ s s' x y h k i c. subst NoCells (written-same Writing (writing-form o) (λ n s s' t u h. absurd (writes-lists h)) h k.proper).1 c;
  assigning = on-does StaysNames o.es2021.logical_assignment_operators (RowRule LogicalAssignmentRule) (node_stays (RowRule LogicalAssignmentRule) (Row AssigningRow assigning-shape) (replacing-rule AssigningRow assigning-shape)
      (λ new n w a b h. assigning-of is_program_name any_object names_no_cell names_pass n w new a b h.rule));
  coalescing = node_stays (RowRule NullishCoalescingRule) (Row CoalescingRow coalescing-shape) (replacing-rule CoalescingRow coalescing-shape) (λ new n w a b h. coalescing-of is_program_name any_object names_no_cell names_pass n w new a b h.rule);
  chaining = on-does StaysNames o.es2020.optional_chaining (RowRule (OptionalChainingRule o.assumptions.no_document_all)) (node_stays (RowRule (OptionalChainingRule o.assumptions.no_document_all)) (Row (ChainingRow o.assumptions.no_document_all) (chaining-shape o.assumptions.no_document_all))
      (replacing-rule (ChainingRow o.assumptions.no_document_all) (chaining-shape o.assumptions.no_document_all)) (λ new n w a b h. chaining-of is_program_name any_object names_no_cell names_pass o.assumptions.no_document_all n w new a b h.rule));
  raising = on-does StaysNames o.es2016.exponentiation_operator (RowRule ExponentiationRule) (node_stays (RowRule ExponentiationRule) (Row RaisingRow raising-shape) (replacing-rule RaisingRow raising-shape)
      (λ new n w a b h. raising-of is_program_name any_object names_no_cell names_pass n w new a b h.rule));
  catching = node_stays CatchRule CatchRow catch-rule catch_names;
  spreading = on-does StaysNames (is_some o.es2018.object_rest_spread) (Replacing SpreadRule) (node_stays (Replacing SpreadRule) (Row SpreadRule spread-shape) (replacing-rule SpreadRule spread-shape) spread_names);
})

pub keeps_names : (o : EnvOptions) (p : Tree) → KeptInOrder o p NoCells
keeps_names o p = record {
  steps = λ s s' x y h k i a n c. steps_stay o s s' x y h k i c;
  exports = λ s s' x y h k i c. exports-so names_no_cell export_names (λ x new. and_from (not (is_own_cell x.name)) true (ap not (made_no_cell x.name new)) refl) o h (subst (λ (t : Tree). has_form s-Program t ≡ true) (finished-spread x) k.form) c;
}
