-- What a valid program of the class becomes where its exports are split is one, and uses a helper only where the program does.
use Rattle.std.proofs.Common.{◌≡◌, ◌∙◌, refl, ap}
use Rattle.std.proofs.lemmas.Bool.{not-true}
use Rattle.std.specs.Prelude.{true, not, codes}
use Rattle.es_tree.specs.Fresh.{is_among}
use Rattle.es_tree.specs.Names.{names_of}
use Rattle.es_tree.specs.Tree.{Tree}
use Rattle.es_tree.specs.Walks.{NodeTest, all_nodes}
use Rattle.es_tree.specs.Words.{Text}
use Rattle.es_statement_runs.specs.Helpers.Supply.{by_global, by_import, by_require, no_helpers, spread_by_global}
use Rattle.es_statement_runs.specs.Programs.{is_statement_node, names_no_cell, no_import_node, no_require_node}
use Rattle.es_statement_runs.specs.Scopes.{is_own_cell}
use Rattle.es_export_splits.specs.Splits.{plainly, split}
use Rattle.es_export_splits.proofs.ExportSplits.{law_split_proof}
use Rattle.es_export_splits.proofs.SplitStays.{Listed, listed}
use Rattle.es_export_splits.proofs.SplitStays.Listed.{lists, others}
use Rattle.es_export_runs.specs.Laws.{LawSplitClass, LawSplitHelpers}
use Rattle.es_export_runs.proofs.SplitNames.{program-apart}
use Rattle.es_export_runs.proofs.SplitTests.{Passes, program-passes}

-- TESTS OF NODES

test-kept : (test : NodeTest) → Passes test → (p : Tree) → Listed p → all_nodes test p ≡ true → all_nodes test (split plainly p) ≡ true
test-kept test passes p (lists l ds ts) h = program-passes test passes l ds ts h
test-kept test passes p (others same) h = ap (all_nodes test) (same plainly) ∙ h

statement-passes : Passes is_statement_node
statement-passes = record { exports = λ l fs. refl; specifiers = λ l fs. refl; programs = λ l fs. refl; names = λ l m fs gs e h. refl }

cell-passes : Passes names_no_cell
cell-passes = record { exports = λ l fs. refl; specifiers = λ l fs. refl; programs = λ l fs. refl; names = λ l m fs gs e h. ap (λ (x : Text). not (is_own_cell x)) e ∙ h }

import-passes : (m : Text) → Passes (no_import_node m)
import-passes m = record { exports = λ l fs. refl; specifiers = λ l fs. refl; programs = λ l fs. refl; names = λ l n fs gs e h. refl }

require-passes : (m : Text) → Passes (no_require_node m)
require-passes m = record { exports = λ l fs. refl; specifiers = λ l fs. refl; programs = λ l fs. refl; names = λ l n fs gs e h. refl }

-- NAMES

names-kept : (y : Text) (p : Tree) → Listed p → not (is_among (names_of p) y) ≡ true → not (is_among (names_of (split plainly p)) y) ≡ true
names-kept y p (lists l ds ts) h = ap not (program-apart y l ds ts (not-true (is_among (names_of p) y) h))
names-kept y p (others same) h = ap (λ (q : Tree). not (is_among (names_of q) y)) (same plainly) ∙ h

-- THE LAWS

pub law_split_class_proof : LawSplitClass
law_split_class_proof p class =
    let reached = law_split_proof p class.form class.rules in
    record {
      form = reached.form;
      rules = reached.kept;
      without_functions = test-kept is_statement_node statement-passes p (listed p) class.without_functions;
      names = test-kept names_no_cell cell-passes p (listed p) class.names;
    }

pub law_split_helpers_proof : LawSplitHelpers
law_split_helpers_proof no_helpers p h = refl
law_split_helpers_proof spread_by_global p h = names-kept (codes "babelHelpers") p (listed p) h
law_split_helpers_proof by_global p h = names-kept (codes "babelHelpers") p (listed p) h
law_split_helpers_proof (by_import m) p h = test-kept (no_import_node m) (import-passes m) p (listed p) h
law_split_helpers_proof (by_require m) p h = test-kept (no_require_node m) (require-passes m) p (listed p) h
