-- What a source becomes first of all: its exports of declarations with an object rest are split, or it stays as it is; there is one such program.
use Rattle.std.proofs.Common.{◌≡◌, ◌∙◌, ◌*◌, ◌≤◌, [], ap, refl, subst, sym, true≢false}
use Rattle.std.proofs.lemmas.Bool.{or_parts}
use Rattle.std.specs.Prelude.{Bool, true, false, ◌&&◌, ◌||◌, is_some, if◌then◌else◌, not}
use Rattle.es_tree.specs.Constructs.{is_object_rest, is_using}
use Rattle.es_tree.specs.HasForm.{has_form}
use Rattle.es_tree.specs.StaticRules.{breaks}
use Rattle.es_tree.specs.Tree.{Tree, node, Label, Fields, done, ◌then◌, missing, one, many, statements, Trees, empty, ◌before◌, tree_size, Field}
use Rattle.es_tree.specs.Walks.{any_in_fields, any_in_trees, any_node, all_in_field, all_in_fields, all_in_trees, all_nodes, any_in_field}
use Rattle.es_tree.specs.declared.ast_type.AstType.{AstType}
use Rattle.es_tree.specs.declared.ast_type.AstType.TheVariants.{ExportNamedDeclaration, Program}
use Rattle.es_tree.specs.declared.options.EnvOptions.{EnvOptions}
use Rattle.es_tree.specs.declared.table.Sort.TheVariants.{Program as s-Program}
use Rattle.es_pattern_moves.specs.Weights.{weighed}
use Rattle.es_export_runs.proofs.SplitClass.{law_split_class_proof, law_split_helpers_proof}
use Rattle.es_export_runs.proofs.SplitRuns.{law_split_runs_proof, law_split_top_proof}
use Rattle.es_statement_runs.specs.Helpers.Supply.{by_global}
use Rattle.es_statement_runs.specs.Names.{declared_at_top}
use Rattle.es_statement_runs.specs.Programs.{IsStatementProgram, uses_no_helper}
use Rattle.es_statement_runs.specs.Runs.{RunAlike}
use Rattle.es_rest_shapes.specs.RestShapes.{declares_rest, is_rest_declaration}
use Rattle.es_rest_shapes.proofs.NoneLeft.{law_declared_rests_proof}
use Rattle.es_export_splits.specs.Laws.{IsElsewhere, IsSplit, split_rules}
use Rattle.es_export_splits.specs.Splits.{has_split, is_split, some_split}
use Rattle.es_export_splits.proofs.ExportSplits.{law_split_proof}
use Rattle.es_export_splits.proofs.SplitTests.{law_elsewhere_proof}
use Rattle.es_export_splits.proofs.SplitWeights.{law_split_weighs_proof}
use Rattle.es_lowered.proofs.Stays.{stays-as}
use Rattle.lower_driver.specs.Lowers.{rests_there}
use Rattle.lower_driver.specs.Splits.{Splits, splits_exports}
use Rattle.lower_driver.specs.Uses.{using_there}

-- ONE PROGRAM

pub one-split : (on : Bool) (p q r : Tree) → Splits on p q → Splits on p r → q ≡ r
one-split true p q r a b = a.goes refl ∙ sym (b.goes refl)
one-split false p q r a b = a.stays refl ∙ sym (b.stays refl)

-- WHERE NONE IS SPLIT

pub splits-itself : (on : Bool) (p : Tree) → on ≡ false → Splits on p p
splits-itself on p off = record { goes = λ e. absurd (true≢false (sym e ∙ off)); stays = λ e. refl }

declares-none : (t : Tree) → any_node is_rest_declaration t ≡ false → declares_rest t ≡ false
declares-none (node k l fs) h = (or_parts (is_rest_declaration k l fs) (any_in_fields is_rest_declaration fs) h).0

none-split : (t : Tree) → any_node is_rest_declaration t ≡ false → is_split t ≡ false
none-split (node ExportNamedDeclaration l (one d then many empty then missing then many empty then done)) h = declares-none d (or_parts (any_node is_rest_declaration d) false h).0
none-split _ h = refl

none-among : (ts : Trees) → any_in_trees is_rest_declaration ts ≡ false → some_split ts ≡ false
none-among empty h = refl
none-among (t before ts) h =
    let d = or_parts (any_node is_rest_declaration t) (any_in_trees is_rest_declaration ts) h in
    rw (none-split t d.0) (none-among ts d.1)

no-splits : (p : Tree) → any_node is_rest_declaration p ≡ false → has_split p ≡ false
no-splits (node Program l (many ds then statements ts then done)) h =
    let d = or_parts (any_in_trees is_rest_declaration ds) (any_in_trees is_rest_declaration ts || false) h in
    none-among ts (or_parts (any_in_trees is_rest_declaration ts) false d.1).0
no-splits _ h = refl

-- where no object rest stands that is taken
pub off-without : (o : EnvOptions) (p : Tree) → rests_there o p ≡ false → splits_exports o p ≡ false
off-without o p none = at (is_some o.es2018.object_rest_spread) none
  where
    at : (b : Bool) → (b && any_node is_object_rest p) ≡ false → (b && has_split p) ≡ false
    at true h = no-splits p (law_declared_rests_proof p h)
    at false h = refl

-- WHAT IT IS

pub is-split : (on : Bool) (p q : Tree) → has_form s-Program p ≡ true → breaks p ≡ [] → Splits on p q → IsSplit on p q
is-split true p q form right s = subst (λ (t : Tree). IsSplit true p t) (sym (s.goes refl)) (law_split_proof p form right)
is-split false p q form right s = subst (λ (t : Tree). IsSplit false p t) (sym (s.stays refl)) (stays-as (split_rules false) p form right)

pub same-test : (test : AstType → Label → Fields → Bool) (on : Bool) (p q : Tree) → IsElsewhere test → Splits on p q → any_node test q ≡ any_node test p
same-test test true p q h s = ap (any_node test) (s.goes refl) ∙ law_elsewhere_proof test p h
same-test test false p q h s = ap (any_node test) (s.stays refl)

module _ (o : EnvOptions) (p q : Tree) (s : Splits (splits_exports o p) p q) where
  pub same-using : using_there o q ≡ using_there o p
  same-using = ap (λ b. o.es2026.explicit_resource_management && b) (same-test is_using (splits_exports o p) p q (record { exports = λ l fs. refl; specifiers = λ l fs. refl; names = λ l fs. refl; programs = λ l ds ts us. refl }) s)

  pub same-rests : rests_there o q ≡ rests_there o p
  same-rests = ap (λ b. is_some o.es2018.object_rest_spread && b) (same-test is_object_rest (splits_exports o p) p q (record { exports = λ l fs. refl; specifiers = λ l fs. refl; names = λ l fs. refl; programs = λ l ds ts us. refl }) s)

-- RUNS: a program of statements that uses no helper itself runs as it does when its exports are split, and is again such a program

pub split-class : (on : Bool) (p q : Tree) → IsStatementProgram p → Splits on p q → IsStatementProgram q
split-class true p q class s = subst (λ (t : Tree). IsStatementProgram t) (sym (s.goes refl)) (law_split_class_proof p class)
split-class false p q class s = subst (λ (t : Tree). IsStatementProgram t) (sym (s.stays refl)) class

pub split-helpers : (on : Bool) (p q : Tree) → uses_no_helper by_global p ≡ true → Splits on p q → uses_no_helper by_global q ≡ true
split-helpers true p q none s = subst (λ (t : Tree). uses_no_helper by_global t ≡ true) (sym (s.goes refl)) (law_split_helpers_proof by_global p none)
split-helpers false p q none s = subst (λ (t : Tree). uses_no_helper by_global t ≡ true) (sym (s.stays refl)) none

pub split-run : (on : Bool) (p q : Tree) → IsStatementProgram p → uses_no_helper by_global p ≡ true → Splits on p q → RunAlike by_global false p q
split-run true p q class none s = subst (λ (t : Tree). RunAlike by_global false p t) (sym (s.goes refl)) (law_split_runs_proof by_global false p class none)
split-run false p q class none s = subst (λ (t : Tree). RunAlike by_global false p t) (sym (s.stays refl)) (λ n this moves assumed t ms inside. record { outcomes = refl; questions = refl; final_cells = λ y e i. refl })

pub split-top : (on : Bool) (p q : Tree) → IsStatementProgram p → Splits on p q → declared_at_top q ≡ declared_at_top p
split-top true p q class s = ap declared_at_top (s.goes refl) ∙ law_split_top_proof p class
split-top false p q class s = ap declared_at_top (s.stays refl)

-- a test of every node that exports and names pass
both : (a b c : Bool) → b ≡ not c → (a && b) ≡ not (not a || c)
both true b c e = e
both false b c e = refl

joined : (a b c d : Bool) → a ≡ not c → b ≡ not d → (a && b) ≡ not (c || d)
joined a b true d e f = ap (λ v. v && b) e
joined a b false d e f = (λ i. e i && b) ∙ f

mutual
  all-any : (P : AstType → Label → Fields → Bool) (t : Tree) → all_nodes P t ≡ not (any_node (λ k l fs. not (P k l fs)) t)
  all-any P (node k l fs) = both (P k l fs) (all_in_fields P fs) (any_in_fields (λ k l fs. not (P k l fs)) fs) (all-any-in P fs)

  all-any-in : (P : AstType → Label → Fields → Bool) (fs : Fields) → all_in_fields P fs ≡ not (any_in_fields (λ k l fs. not (P k l fs)) fs)
  all-any-in P done = refl
  all-any-in P (f then fs) = joined (all_in_field P f) (all_in_fields P fs) (any_in_field (λ k l fs. not (P k l fs)) f) (any_in_fields (λ k l fs. not (P k l fs)) fs) (all-any-by P f) (all-any-in P fs)

  all-any-by : (P : AstType → Label → Fields → Bool) (f : Field) → all_in_field P f ≡ not (any_in_field (λ k l fs. not (P k l fs)) f)
  all-any-by P missing = refl
  all-any-by P (one t) = all-any P t
  all-any-by P (many ts) = all-any-among P ts
  all-any-by P (statements ts) = all-any-among P ts

  all-any-among : (P : AstType → Label → Fields → Bool) (ts : Trees) → all_in_trees P ts ≡ not (any_in_trees (λ k l fs. not (P k l fs)) ts)
  all-any-among P empty = refl
  all-any-among P (t before ts) = joined (all_nodes P t) (all_in_trees P ts) (any_node (λ k l fs. not (P k l fs)) t) (any_in_trees (λ k l fs. not (P k l fs)) ts) (all-any P t) (all-any-among P ts)

pub split-passes : (P : AstType → Label → Fields → Bool) (on : Bool) (p q : Tree) → IsElsewhere (λ k l fs. not (P k l fs)) → Splits on p q → all_nodes P p ≡ true → all_nodes P q ≡ true
split-passes P on p q elsewhere s h = all-any P q ∙ ap not (same-test (λ k l fs. not (P k l fs)) on p q elsewhere s) ∙ sym (all-any P p) ∙ h

-- SIZE: what it weighs

pub split-weight : (on : Bool) (p q : Tree) → weighed p ≤ 7 * tree_size p → Splits on p q → weighed q ≤ (if on then 8 else 7) * tree_size p
split-weight true p q light s = rw (s.goes refl) (law_split_weighs_proof p)
split-weight false p q light s = rw (s.stays refl) light
