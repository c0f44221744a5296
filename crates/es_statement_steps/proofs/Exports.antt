-- Exports of namespaces keep the runs of programs: in the list of the program an export becomes an import and an export, and what is pending stands
-- after the import.
use Rattle.std.proofs.Common.{◌≡◌, refl, sym, ap, subst, ◌∙◌, List, [], ◌∷◌, ◌++◌}
use Rattle.std.proofs.lemmas.Bool.{and_from, and_parts}
use Rattle.std.specs.Prelude.{Bool, true, false, not, ◌&&◌, ◌||◌, Option, Some, None, bytes_eq, codes, map, if◌then◌else◌}
use Rattle.es_tree.specs.HasForm.{has_form, trees_form}
use Rattle.es_tree.specs.Scopes.{Declared, declares}
use Rattle.es_tree.specs.Tree.{Fields, Tree, node, Label, done, ◌then◌, Field, missing, one, many, statements, Trees, empty, ◌before◌, trees}
use Rattle.es_tree.specs.Walks.{all_in_trees, all_nodes}
use Rattle.es_tree.specs.Words.{Text}
use Rattle.es_tree.specs.declared.ast_type.AstType.{AstType}
use Rattle.es_tree.specs.declared.ast_type.AstType.TheVariants.{ExportNamedDeclaration, ExportSpecifier, Identifier, ImportAttribute, ImportDeclaration, ImportNamespaceSpecifier, Program, StringLiteral}
use Rattle.es_tree.specs.declared.options.EnvOptions.{EnvOptions}
use Rattle.es_tree.specs.declared.table.Sort.TheVariants.{ImportAttribute as s-ImportAttribute, ModuleExportName as s-ModuleExportName, Program as s-Program, Statement as s-Statement, StringLiteral as s-StringLiteral}
use Rattle.es_tree.proofs.NodeForm.{node_form}
use Rattle.es_runs.specs.Alike.{Level, bad_names, the_value}
use Rattle.es_runs.specs.Core.{Binding, is_free}
use Rattle.es_runs.specs.Core.Binding.{free}
use Rattle.es_runs.specs.Runs.{is_declared, none_hidden, program}
use Rattle.es_runs.proofs.Temporary.{bytes_eq-self}
use Rattle.es_semantic.specs.RolesOf.{reads}
use Rattle.es_resolution.specs.Declarations.{Bound}
use Rattle.es_resolution.specs.Named.{Named}
use Rattle.es_steps.specs.Nodes.{declarator, identifier, joined_trees, made}
use Rattle.es_steps.specs.Open.{Additions, Open, Pending, after_imports, finished, finished_field, finished_fields, finished_trees, is_import, no_additions, nothing_pending, pending_statements, whole_list, with_vars}
use Rattle.es_steps.specs.Open.OpenFields.{ends, ◌and◌}
use Rattle.es_steps.specs.Open.OpenField.{list}
use Rattle.es_steps.specs.Steps.{Ledger, Step, Whole, the_program}
use Rattle.es_steps.proofs.FormLists.{IsPlainList, after-rest, first-formed}
use Rattle.es_steps.proofs.Taken.{whole_in}
use Rattle.es_valid_steps.proofs.NamespaceRows.{ExportForm, export-form}
use Rattle.es_valid_steps.proofs.ProgramLists.{ProgramExported, program-exported}
use Rattle.es_valid_steps.proofs.ProgramLists.ProgramExported.{at_list as in_the_list}
use Rattle.es_valid_steps.proofs.Spread.{finished-spread, spread}
use Rattle.es_statement_runs.specs.BareVars.{BareDeclarators, BareVar, Beside, BesideList, BesideTrees}
use Rattle.es_statement_runs.specs.BareVars.BareDeclarators.{none_bare, one_bare}
use Rattle.es_statement_runs.specs.BareVars.BareVar.{bare_var}
use Rattle.es_statement_runs.specs.BareVars.Beside.{in_node}
use Rattle.es_statement_runs.specs.BareVars.BesideField.{beside_many, beside_missing, beside_one}
use Rattle.es_statement_runs.specs.BareVars.BesideFields.{beside_done, beside_then}
use Rattle.es_statement_runs.specs.BareVars.BesideList.{both_have, first_has, second_has}
use Rattle.es_statement_runs.specs.BareVars.BesideTrees.{beside_before, beside_empty}
use Rattle.es_statement_runs.specs.Helpers.{Supply, silent_names}
use Rattle.es_statement_steps.proofs.KeylessPrograms.{IsKeyless, excludes_none}
use Rattle.es_statement_runs.specs.Kinds.{found, kind_in}
use Rattle.es_statement_runs.specs.Laws.{is_silent, SplitExports, among_names, body_needs, export_of, no_row, namespace_import as plain_import}
use Rattle.es_statement_runs.specs.Laws.SplitExports.{as_it_is, none_split, one_split}
use Rattle.es_statement_runs.specs.Names.{top_in, top_names, var_names, var_names_all}
use Rattle.es_statement_runs.specs.Places.{Take, avoids, avoids_trees, label_taken, take, value_taken}
use Rattle.es_statement_runs.specs.Programs.{is_statement_node}
use Rattle.es_statement_runs.proofs.BareVars.{law_vars_proof, list_beside, self_beside, top_bound}
use Rattle.es_statement_runs.proofs.Everywhere.{both_left, both_right}
use Rattle.es_statement_runs.proofs.NamespaceExports.{law_namespace_exports_proof}
use Rattle.es_statement_steps.proofs.Composition.{Exports, Known, NamespaceRuns, exported, known-fine}
use Rattle.es_statement_steps.proofs.ExportSplits.{SplitBy, SplitHere, all_from, is_export_kind, made_export, made_import, program-so, split-by}
use Rattle.es_statement_steps.proofs.ExportSplits.SplitHere.{split_here, split_later}
use Rattle.es_statement_steps.proofs.FoundNames.{declared_is}
use Rattle.es_statement_steps.proofs.FreshNames.{top_used, unused_avoids}
use Rattle.es_statement_steps.proofs.MadeNames.{is_made_text, made_math, made_program_names, made_supply}
use Rattle.es_statement_steps.proofs.Rooms.{IsProgram, program-fields}
use Rattle.es_statement_steps.proofs.RowRuns.{alike-under, StepAlike, false-where, not-new, undeclared-kind}
use Rattle.es_statement_steps.proofs.Sources.{avoids-nothing, avoids-nothing-all, nothing, then-alike}
use Rattle.es_statement_steps.proofs.StepMoves.{AreNew, Fine}
use Rattle.es_statement_steps.proofs.Tamed.{Class}

-- at most one statement is pending, of `var` without values
data AtMost : Trees → Type 0 where
  none_there : AtMost empty
  one_there : {v : Tree} → BareVar v → AtMost (v before empty)

bare-names : (bs : List Bound) → BareDeclarators (trees (map declarator bs))
bare-names [] = none_bare
bare-names (b ∷ bs) = one_bare (bare-names bs)

pending-names : (bs : List Bound) → AtMost (pending_statements (with_vars bs nothing_pending) None no_additions)
pending-names [] = none_there
pending-names (b ∷ bs) = one_there (bare_var refl (bare-names (b ∷ bs)))

at-most : (p : Pending) (x : Option Bound) (a : Additions) → IsPlainList p x a → AtMost (pending_statements p x a)
at-most p x a h =
    subst (λ (p : Pending). AtMost (pending_statements p x a)) (sym h.vars.are)
    (subst (λ (x : Option Bound). AtMost (pending_statements (with_vars h.vars.names nothing_pending) x a)) (sym h.this)
    (subst (λ (a : Additions). AtMost (pending_statements (with_vars h.vars.names nothing_pending) None a)) (sym h.top) (pending-names h.vars.names)))

-- DECLARED NAMES: one more, somewhere

data OneMore (d : Declared) : List Declared → List Declared → Type 0 where
  one_here : {ds : List Declared} → OneMore d ds (d ∷ ds)
  one_later : {e : Declared} {ds es : List Declared} → OneMore d ds es → OneMore d (e ∷ ds) (e ∷ es)

module _ (d : Declared) where
  under : {ds es : List Declared} (cs : List Declared) → OneMore d ds es → OneMore d (cs ++ ds) (cs ++ es)
  under [] h = h
  under (a ∷ cs) h = one_later (under cs h)

  kept : {ds es : List Declared} → OneMore d ds es → (y : Text) → bytes_eq y d.name ≡ false → kind_in es y ≡ kind_in ds y
  kept (one_here {ds = ds}) y e = ap (λ b. if b then Some d.kind else kind_in ds y) e
  kept (one_later {e = c} g) y e = ap (λ (k : Option Text). if bytes_eq y c.name then Some c.kind else k) (kept g y e)

  added : {ds es : List Declared} → OneMore d ds es → (y : Text) → bytes_eq y d.name ≡ true → kind_in ds y ≡ None → kind_in es y ≡ Some d.kind
  added (one_here {ds = ds}) y e n = ap (λ b. if b then Some d.kind else kind_in ds y) e
  added (one_later {e = c} {ds = ds} {es = es} g) y e n = at (bytes_eq y c.name) n (added g y e)
    where
      at : (b : Bool) → (if b then Some c.kind else kind_in ds y) ≡ None → (kind_in ds y ≡ None → kind_in es y ≡ Some d.kind) → (if b then Some c.kind else kind_in es y) ≡ Some d.kind
      at true n k = absurd (cc n)
      at false n k = k n

  at-once : (cs bs ts : List Declared) → cs ≡ [] → bs ≡ [] → OneMore d (cs ++ ts) (d ∷ (bs ++ ts))
  at-once cs bs ts e g = subst (λ (cs : List Declared). OneMore d (cs ++ ts) (d ∷ (bs ++ ts))) (sym e) (subst (λ (bs : List Declared). OneMore d ts (d ∷ (bs ++ ts))) (sym g) one_here)

  at-first : (vs cs bs ts : List Declared) → cs ≡ [] → bs ≡ [] → OneMore d (vs ++ (cs ++ ts)) (d ∷ (vs ++ (bs ++ ts)))
  at-first vs cs bs ts e g = subst (λ (cs : List Declared). OneMore d (vs ++ (cs ++ ts)) (d ∷ (vs ++ (bs ++ ts)))) (sym e) (subst (λ (bs : List Declared). OneMore d (vs ++ ts) (d ∷ (vs ++ (bs ++ ts)))) (sym g) one_here)

-- what an export of a namespace has below declares nothing
exported-none : (t : Tree) → has_form s-ModuleExportName t ≡ true → var_names t ≡ []
exported-none (node Identifier l done) h = refl
exported-none (node StringLiteral l done) h = refl
exported-none (node Identifier l (f then fs)) h = absurd (let no : false ≡ true = (node_form s-ModuleExportName Identifier l (f then fs) h).children in cc no)
exported-none (node StringLiteral l (f then fs)) h = absurd (let no : false ≡ true = (node_form s-ModuleExportName StringLiteral l (f then fs) h).children in cc no)
exported-none (node k l fs) h = absurd (let no : false ≡ true = (node_form s-ModuleExportName k l fs h).sort in cc no)

source-none : (t : Tree) → has_form s-StringLiteral t ≡ true → var_names t ≡ []
source-none (node StringLiteral l done) h = refl
source-none (node StringLiteral l (f then fs)) h = absurd (let no : false ≡ true = (node_form s-StringLiteral StringLiteral l (f then fs) h).children in cc no)
source-none (node k l fs) h = absurd (let no : false ≡ true = (node_form s-StringLiteral k l fs h).sort in cc no)

attribute-none : (t : Tree) → has_form s-ImportAttribute t ≡ true → var_names t ≡ []
attribute-none (node ImportAttribute l done) h = refl
attribute-none (node ImportAttribute l (f then fs)) h = absurd (let no : false ≡ true = (node_form s-ImportAttribute ImportAttribute l (f then fs) h).children in cc no)
attribute-none (node k l fs) h = absurd (let no : false ≡ true = (node_form s-ImportAttribute k l fs h).sort in cc no)

attributes-none : (ts : Trees) → trees_form s-ImportAttribute s-ImportAttribute ts ≡ true → var_names_all ts ≡ []
attributes-none empty h = refl
attributes-none (t before ts) h = let parts = first-formed s-ImportAttribute t ts h in rw (attribute-none t parts.0, attributes-none ts parts.1) refl

all-none : (m : Label) (e s : Tree) (attributes : Trees) → ExportForm m e s attributes → top_names (all_from m e s attributes) ≡ []
all-none m e s attributes f = rw (exported-none e f.exported, source-none s f.from, attributes-none attributes f.given) refl

export-none : (x : Bound) (m : Label) (e s : Tree) (attributes : Trees) → ExportForm m e s attributes → top_names (made_export x e) ≡ []
export-none x m e s attributes f = rw (exported-none e f.exported) refl

-- THE LISTS

keyless-joined : (vs ts : Trees) → all_in_trees excludes_none vs ≡ true → all_in_trees excludes_none ts ≡ true → all_in_trees excludes_none (joined_trees vs ts) ≡ true
keyless-joined empty ts v k = k
keyless-joined (t before vs) ts v k = let d = and_parts (all_nodes excludes_none t) (all_in_trees excludes_none vs) v in and_from (all_nodes excludes_none t) (all_in_trees excludes_none (joined_trees vs ts)) d.0 (keyless-joined vs ts d.1 k)

module _ (x : Bound) where
  abbrev xs : List Text
  xs = x.name ∷ []

  abbrev bad : Level → Text → Bool
  bad = bad_names (among_names xs) none_hidden

  abbrev by_import : Declared
  by_import = record { name = x.name; kind = codes "const" }

  -- first the export becomes an import and an export, and then what is pending moves after the import, and marks are given
  pub record Parted (ts us : Trees) : Type 0 where
    pub between : Trees
    split : SplitExports bad xs ts between
    beside : (ds : List Declared) → BesideList nothing (λ es. no_row) ds true between us
    more : OneMore by_import (top_in ts) (top_in between)
    more_after : OneMore by_import (top_in ts) (top_in us)
    pub keyless : all_in_trees excludes_none ts ≡ true → (all_in_trees excludes_none between ≡ true) × (all_in_trees excludes_none us ≡ true)

  itself : (t : Tree) (ds : List Declared) (n : Take) → Beside nothing (λ es. no_row) ds n t t
  itself t ds n = self_beside nothing (λ es. no_row) t ds n (avoids-nothing n t)

  themselves : (ts : Trees) (ds : List Declared) (n : Take) → BesideTrees nothing (λ es. no_row) ds n ts ts
  themselves empty ds n = beside_empty
  themselves (t before ts) ds n = beside_before (itself t ds n) (themselves ts ds n)

  list-itself : (ts : Trees) (ds : List Declared) → BesideList nothing (λ es. no_row) ds true ts ts
  list-itself ts ds = list_beside nothing (λ es. no_row) ds true ts (avoids-nothing-all (take the_value true) ts)

  unsplit : (ts : Trees) → avoids_trees bad body_needs ts ≡ true → SplitExports bad xs ts ts
  unsplit empty h = none_split
  unsplit (t before ts) h = as_it_is (both_left (avoids bad body_needs t) (avoids_trees bad body_needs ts) h) (unsplit ts (both_right (avoids bad body_needs t) (avoids_trees bad body_needs ts) h))

  keyless-cons : (t : Tree) (ts us vs : Trees) → all_in_trees excludes_none (t before ts) ≡ true → (all_in_trees excludes_none ts ≡ true → (all_in_trees excludes_none us ≡ true) × (all_in_trees excludes_none vs ≡ true)) →
      (all_in_trees excludes_none (t before us) ≡ true) × (all_in_trees excludes_none (t before vs) ≡ true)
  keyless-cons t ts us vs k rest =
      let d = and_parts (all_nodes excludes_none t) (all_in_trees excludes_none ts) k in
      let r = rest d.1 in
      (and_from (all_nodes excludes_none t) (all_in_trees excludes_none us) d.0 r.0, and_from (all_nodes excludes_none t) (all_in_trees excludes_none vs) d.0 r.1)

  cons : {ts us : Trees} (t : Tree) → avoids bad body_needs t ≡ true → Parted ts us → Parted (t before ts) (t before us)
  cons {ts = ts} {us = us} t h r = record { between = t before r.between; split = as_it_is h r.split; beside = λ ds. both_have (itself t ds (take the_value true)) (r.beside ds); more = under by_import (top_names t) r.more; more_after = under by_import (top_names t) r.more_after; keyless = λ k. keyless-cons t ts r.between us k r.keyless }

  abbrev unmarked_import : Label → Tree → Trees → Tree
  unmarked_import m s attributes = plain_import (record (made [] []) { start = m.start; stop = m.stop }) (made [] []) x.name s attributes

  abbrev unmarked_export : Tree → Tree
  unmarked_export e = export_of (made [] []) (made [] []) x.name e

  import-marked : (m : Label) (s : Tree) (attributes : Trees) (ds : List Declared) → Beside nothing (λ es. no_row) ds (take the_value true) (unmarked_import m s attributes) (made_import m x s attributes)
  import-marked m s attributes ds =
      in_node refl refl refl refl refl refl refl (beside_then (beside_many (beside_before (in_node refl refl refl refl refl refl refl (beside_then (beside_one (in_node refl refl refl refl refl refl refl beside_done)) beside_done)) beside_empty))
      (beside_then (beside_one (itself s ds label_taken)) (beside_then (beside_many (themselves attributes ds label_taken)) beside_done)))

  export-marked : (e : Tree) (ds : List Declared) → Beside nothing (λ es. no_row) ds (take the_value true) (unmarked_export e) (made_export x e)
  export-marked e ds =
      in_node refl refl refl refl refl refl refl (beside_then beside_missing (beside_then (beside_many (beside_before (in_node refl refl refl refl refl refl refl (beside_then (beside_one (in_node refl refl refl refl refl refl refl beside_done)) (beside_then (beside_one (itself e ds _)) beside_done))) beside_empty))
      (beside_then beside_missing (beside_then (beside_many beside_empty) beside_done))))

  this-name : among_names xs x.name ≡ true
  this-name = ap (λ b. b || false) (bytes_eq-self x.name)

  source-avoids : (m : Label) (e s : Tree) (attributes : Trees) → avoids bad body_needs (all_from m e s attributes) ≡ true → avoids bad label_taken s ≡ true
  source-avoids m e s attributes h =
      both_left (avoids bad label_taken s) (avoids_trees bad label_taken attributes && true) (both_right (avoids bad label_taken e) (avoids bad label_taken s && (avoids_trees bad label_taken attributes && true)) h)

  -- an import and an export make no call
  keyless-here : (vs : Trees) (m : Label) (e s : Tree) (attributes ts : Trees) → all_in_trees excludes_none vs ≡ true → all_in_trees excludes_none (all_from m e s attributes before ts) ≡ true →
      (all_in_trees excludes_none (unmarked_import m s attributes before (unmarked_export e before ts)) ≡ true) × (all_in_trees excludes_none (made_import m x s attributes before joined_trees vs (made_export x e before ts)) ≡ true)
  keyless-here vs m e s attributes ts v k =
      let d = and_parts (all_nodes excludes_none (all_from m e s attributes)) (all_in_trees excludes_none ts) k in
      let g = and_parts (all_nodes excludes_none e) (all_nodes excludes_none s && (all_in_trees excludes_none attributes && true)) d.0 in
      let i = and_parts (all_nodes excludes_none s) (all_in_trees excludes_none attributes && true) g.1 in
      let j = (and_parts (all_in_trees excludes_none attributes) true i.1).0 in
      let export_so : all_in_trees excludes_none (made_export x e before ts) ≡ true = rw (g.0, d.1) refl in
      let after_so : all_in_trees excludes_none (joined_trees vs (made_export x e before ts)) ≡ true = keyless-joined vs (made_export x e before ts) v export_so in
      (rw (i.0, j, g.0, d.1) refl, rw (i.0, j, after_so) refl)

  -- the export itself, with what is pending
  at-export : (vs : Trees) → AtMost vs → (m : Label) (e s : Tree) (attributes ts : Trees) → ExportForm m e s attributes → avoids_trees bad body_needs (joined_trees vs (all_from m e s attributes before ts)) ≡ true →
      Parted (joined_trees vs (all_from m e s attributes before ts)) (made_import m x s attributes before joined_trees vs (made_export x e before ts))
  at-export empty none_there m e s attributes ts f h = record {
    between = unmarked_import m s attributes before (unmarked_export e before ts);
    split = one_split this-name (source-avoids m e s attributes (both_left (avoids bad body_needs (all_from m e s attributes)) (avoids_trees bad body_needs ts) h)) (unsplit ts (both_right (avoids bad body_needs (all_from m e s attributes)) (avoids_trees bad body_needs ts) h));
    beside = λ ds. both_have (import-marked m s attributes ds) (both_have (export-marked e ds) (list-itself ts ds));
    more = at-once by_import (top_names (all_from m e s attributes)) (top_names (unmarked_export e)) (top_in ts) (all-none m e s attributes f) (export-none x m e s attributes f);
    more_after = at-once by_import (top_names (all_from m e s attributes)) (top_names (made_export x e)) (top_in ts) (all-none m e s attributes f) (export-none x m e s attributes f);
    keyless = λ k. keyless-here empty m e s attributes ts refl k;
  }
  at-export (v before empty) (one_there b) m e s attributes ts f h =
      let rest = both_right (avoids bad body_needs v) (avoids_trees bad body_needs (all_from m e s attributes before ts)) h in
      record {
        between = v before (unmarked_import m s attributes before (unmarked_export e before ts));
        split = as_it_is (both_left (avoids bad body_needs v) (avoids_trees bad body_needs (all_from m e s attributes before ts)) h)
            (one_split this-name (source-avoids m e s attributes (both_left (avoids bad body_needs (all_from m e s attributes)) (avoids_trees bad body_needs ts) rest)) (unsplit ts (both_right (avoids bad body_needs (all_from m e s attributes)) (avoids_trees bad body_needs ts) rest)));
        beside = λ ds. first_has b (both_have (import-marked m s attributes ds) (second_has b (both_have (export-marked e ds) (list-itself ts ds))));
        more = under by_import (top_names v) (at-once by_import (top_names (all_from m e s attributes)) (top_names (unmarked_export e)) (top_in ts) (all-none m e s attributes f) (export-none x m e s attributes f));
        more_after = at-first by_import (top_names v) (top_names (all_from m e s attributes)) (top_names (made_export x e)) (top_in ts) (all-none m e s attributes f) (export-none x m e s attributes f);
        keyless = λ k. keyless-with m e s attributes ts k;
      }
    where
      keyless-with : (m : Label) (e s : Tree) (attributes ts : Trees) → all_in_trees excludes_none (v before (all_from m e s attributes before ts)) ≡ true → (all_in_trees excludes_none (v before (unmarked_import m s attributes before (unmarked_export e before ts))) ≡ true) × (all_in_trees excludes_none (made_import m x s attributes before (v before (made_export x e before ts))) ≡ true)
      keyless-with m e s attributes ts k =
          let d = and_parts (all_nodes excludes_none v) (all_in_trees excludes_none (all_from m e s attributes before ts)) k in
          let r = keyless-here (v before empty) m e s attributes ts (and_from (all_nodes excludes_none v) true d.0 refl) d.1 in
          (and_from (all_nodes excludes_none v) (all_in_trees excludes_none (unmarked_import m s attributes before (unmarked_export e before ts))) d.0 r.0, r.1)
  at-export (v before (_ before _)) most m e s attributes ts f h = elim most [ ]

  form-there : (m : Label) (e s : Tree) (attributes ts : Trees) → trees_form s-Statement s-Statement (all_from m e s attributes before ts) ≡ true → ExportForm m e s attributes
  form-there m e s attributes ts h = export-form m e s attributes (first-formed s-Statement (all_from m e s attributes) ts h).0

  -- behind what is no import
  parted-behind : {ts us : Trees} → SplitHere x ts us → avoids_trees bad body_needs ts ≡ true → trees_form s-Statement s-Statement ts ≡ true → Parted ts us
  parted-behind (split_here m e s attributes ts) h f = at-export empty none_there m e s attributes ts (form-there m e s attributes ts f) h
  parted-behind (split_later t {ts = ts} g) h f = cons t (both_left (avoids bad body_needs t) (avoids_trees bad body_needs ts) h) (parted-behind g (both_right (avoids bad body_needs t) (avoids_trees bad body_needs ts) h) (first-formed s-Statement t ts f).1)

  after-pending : {ts us : Trees} (vs : Trees) → AtMost vs → (avoids_trees bad body_needs ts ≡ true → Parted ts us) → avoids_trees bad body_needs (joined_trees vs ts) ≡ true → Parted (joined_trees vs ts) (joined_trees vs us)
  after-pending empty none_there r h = r h
  after-pending {ts = ts} (v before empty) (one_there b) r h = cons v (both_left (avoids bad body_needs v) (avoids_trees bad body_needs ts) h) (r (both_right (avoids bad body_needs v) (avoids_trees bad body_needs ts) h))
  after-pending (v before (_ before _)) most r h = elim most [ ]

  parted : (vs : Trees) → AtMost vs → {ts us : Trees} → SplitHere x ts us → avoids_trees bad body_needs (after_imports vs ts) ≡ true → trees_form s-Statement s-Statement ts ≡ true → Parted (after_imports vs ts) (after_imports vs us)
  parted vs most (split_here m e s attributes ts) h f = at-export vs most m e s attributes ts (form-there m e s attributes ts f) h
  parted vs most (split_later t {ts = ts} {us = us} g) h f = at (is_import t) h (λ k. parted vs most g k (first-formed s-Statement t ts f).1)
    where
      at : (b : Bool) → avoids_trees bad body_needs (if b then t before after_imports vs ts else joined_trees vs (t before ts)) ≡ true → (avoids_trees bad body_needs (after_imports vs ts) ≡ true → Parted (after_imports vs ts) (after_imports vs us)) →
          Parted (if b then t before after_imports vs ts else joined_trees vs (t before ts)) (if b then t before after_imports vs us else joined_trees vs (t before us))
      at true h r = cons t (both_left (avoids bad body_needs t) (avoids_trees bad body_needs (after_imports vs ts)) h) (r (both_right (avoids bad body_needs t) (avoids_trees bad body_needs (after_imports vs ts)) h))
      at false h r = after-pending vs most (λ k. parted-behind (split_later t g) k f) h

-- THE RUN

declared-by : (ds es : List Declared) (z : Text) → kind_in es z ≡ kind_in ds z → is_declared ds z ≡ true → is_declared es z ≡ true
declared-by ds es z e h = ap (λ (b : Binding). not (is_free b)) (top_bound es z ∙ ap (λ (c : Option Text). found c z (λ y. free) z) e ∙ sym (top_bound ds z)) ∙ h

module _ (w : Whole) (x : Bound) (are_new : AreNew w (x ∷ [])) (l : Label) (ds body after : Trees) (parts : Parted x body after) (named : Named w.in_use w.free_symbol reads (program l ds body)) (fine : Fine (program l ds body))
    (u : Supply) (silent : silent_names u (program l ds body) ≡ []) (silent_between : silent_names u (program l ds parts.between) ≡ []) (silent_after : silent_names u (program l ds after) ≡ []) where
  abbrev d : Declared
  d = record { name = x.name; kind = codes "const" }

  used : (y : Text) → is_declared (top_in body) y ≡ true → w.in_use y ≡ true
  used y e = top_used w.in_use w.free_symbol l (many ds then (statements body then done)) fine named y (sym (declared_is (top_in body) y) ∙ e)

  apart : (y : Text) → is_declared (top_in body) y ≡ true → among_names (x.name ∷ []) y ≡ false
  apart y e = not-new w (x ∷ []) are_new y (used y e)

  no-other : (b : Bool) → (b || false) ≡ false → b ≡ false
  no-other true e = absurd (cc e)
  no-other false e = refl

  kept-so : (y : Text) → among_names (x.name ∷ []) y ≡ false → kind_in (top_in parts.between) y ≡ kind_in (top_in body) y
  kept-so y e = kept d parts.more y (no-other (bytes_eq y x.name) e)

  undeclared : (y : Text) → bytes_eq y x.name ≡ true → kind_in (top_in body) y ≡ None
  undeclared y e = undeclared-kind (top_in body) y (false-where (declares (top_in body) y) (λ h. absurd (let yes : w.in_use y ≡ true = used y (declared_is (top_in body) y ∙ h) in let no : false ≡ true = sym (are_new.free y (ap (λ b. b || false) e)) ∙ yes in cc no)))

  same-kinds : (y : Text) → kind_in (top_in after) y ≡ kind_in (top_in parts.between) y
  same-kinds y = at (bytes_eq y x.name) refl
    where
      at : (b : Bool) → bytes_eq y x.name ≡ b → kind_in (top_in after) y ≡ kind_in (top_in parts.between) y
      at true e = added d parts.more_after y e (undeclared y e) ∙ sym (added d parts.more y e (undeclared y e))
      at false e = kept d parts.more_after y e ∙ sym (kept d parts.more y e)

  first-alike : StepAlike false u (program l ds body) (program l ds parts.between)
  first-alike = record {
    runs = law_namespace_exports_proof u (x.name ∷ []) l ds body parts.between parts.split kept-so apart (silent_between ∙ sym silent) (λ y e. ap (λ es. is_silent es y) silent) (made_math (x.name ∷ []) are_new.names) (made_program_names (x.name ∷ []) are_new.names) (made_supply u (x.name ∷ []) are_new.names);
    declared = λ z h. declared-by (top_in body) (top_in parts.between) z (kept-so z (apart z h)) h;
  }

  second-alike : StepAlike false u (program l ds parts.between) (program l ds after)
  second-alike = record {
    runs = law_vars_proof u [] l ds parts.between after (parts.beside (top_in parts.between)) (λ y e. same-kinds y) (λ y e. refl) (silent_after ∙ sym silent_between) (λ y e. absurd (cc e)) refl refl (made_supply u [] refl);
    declared = λ z h. declared-by (top_in parts.between) (top_in after) z (same-kinds z) h;
  }

  list-alike : StepAlike false u (program l ds body) (program l ds after)
  list-alike = then-alike false u (program l ds body) (program l ds parts.between) (program l ds after) first-alike second-alike

-- THE PROGRAM

body-avoids : (w : Whole) (x : Bound) (are_new : AreNew w (x ∷ [])) (l : Label) (ds body : Trees) → Named w.in_use w.free_symbol reads (program l ds body) → Fine (program l ds body) → avoids_trees (bad x) body_needs body ≡ true
body-avoids w x are_new l ds body named fine =
    let whole_so : (avoids_trees (bad x) body_needs ds && (avoids_trees (bad x) body_needs body && true)) ≡ true =
    unused_avoids w.in_use w.free_symbol (among_names (x.name ∷ [])) (λ y e. not-new w (x ∷ []) are_new y e) reads value_taken (program l ds body) (λ e. absurd (cc e)) named fine in
    both_left (avoids_trees (bad x) body_needs body) true (both_right (avoids_trees (bad x) body_needs ds) (avoids_trees (bad x) body_needs body && true) whole_so)

-- what is asked of a program is kept by the parts
abbrev pub PartsClean : (Tree → Type 0) → Type 0
PartsClean Clean = (x : Bound) (l : Label) (ds body after : Trees) (parts : Parted x body after) → Clean (program l ds body) → Clean (program l ds parts.between) × Clean (program l ds after)

pub keyless-parts : PartsClean IsKeyless
keyless-parts x l ds body after parts clean =
    let d = and_parts (all_in_trees excludes_none ds) (all_in_trees excludes_none body && true) clean in
    let r = parts.keyless (and_parts (all_in_trees excludes_none body) true d.1).0 in (
      and_from (all_in_trees excludes_none ds) (all_in_trees excludes_none parts.between && true) d.0 (and_from (all_in_trees excludes_none parts.between) true r.0 refl),
      and_from (all_in_trees excludes_none ds) (all_in_trees excludes_none after && true) d.0 (and_from (all_in_trees excludes_none after) true r.1 refl),
    )

module _ (u : Supply) (Clean : Tree → Type 0) (quiet : (t : Tree) → Clean t → silent_names u t ≡ []) (parts_clean : PartsClean Clean) where
  program-run : {s s' : Ledger} {x y : Open} → ProgramExported s s' x y → Known s x → Clean (finished x) → StepAlike false u (finished x) (finished y) × Clean (finished y)
  program-run (in_the_list {w = w} {l = l} {d = d} {p = p} {q = q} {x = x} {y = y} {a = a} {b = b} {ts = ts} {us = us} h) k clean =
      let r = split-by h in
      let body = whole_list p x a (finished_trees ts) in
      let fs = finished_fields (d and (list p x a ts and ends)) in
      let children = (and_parts _ _ (node_form s-Program Program l fs k.form).children).1 in
      let form = after-rest s-Statement (pending_statements p x a) (finished_trees ts) (and_parts (trees_form s-Statement s-Statement body) true children).0 in
      let there = λ (p : Pending) (x : Option Bound) (a : Additions). StepAlike false u (node Program l fs) (node Program l (finished_field d then (statements (whole_list p x a (finished_trees us)) then done))) × Clean (node Program l (finished_field d then (statements (whole_list p x a (finished_trees us)) then done))) in
      subst (λ (p : Pending). there p y b) (sym r.pending) (subst (λ (x : Option Bound). there p x b) (sym r.this) (subst (λ (a : Additions). there p x a) (sym r.top)
      (go (finished_field d) r form k.proper.1.0.0 (program-fields s-Program l fs k.form) k.named (known-fine k) clean)))
    where
      go : (f : Field) (r : SplitBy w p q x y a b (finished_trees ts) (finished_trees us)) → trees_form s-Statement s-Statement (finished_trees ts) ≡ true → IsPlainList p x a →
          IsProgram (f then (statements (whole_list p x a (finished_trees ts)) then done)) → Named w.in_use w.free_symbol reads (node Program l (f then (statements (whole_list p x a (finished_trees ts)) then done))) →
          Fine (node Program l (f then (statements (whole_list p x a (finished_trees ts)) then done))) →
          Clean (node Program l (f then (statements (whole_list p x a (finished_trees ts)) then done))) →
          StepAlike false u (node Program l (f then (statements (whole_list p x a (finished_trees ts)) then done))) (node Program l (f then (statements (whole_list p x a (finished_trees us)) then done))) × Clean (node Program l (f then (statements (whole_list p x a (finished_trees us)) then done)))
      go missing r form plain shape named fine clean = absurd shape
      go (one t) r form plain shape named fine clean = absurd shape
      go (statements t) r form plain shape named fine clean = absurd shape
      go (many ds) r form plain shape named fine clean =
          let body = whole_list p x a (finished_trees ts) in
          let parts = parted r.name (pending_statements p x a) (at-most p x a plain) r.split (body-avoids w r.name r.are_new l ds body named fine) form in
          let after = parts_clean r.name l ds body (whole_list p x a (finished_trees us)) parts clean in
          (list-alike w r.name r.are_new l ds body (whole_list p x a (finished_trees us)) parts named fine u (quiet (program l ds body) clean) (quiet (program l ds parts.between) after.0) (quiet (program l ds (whole_list p x a (finished_trees us))) after.1), after.1)

-- TESTS OF NODES

-- a test that the nodes made for exports pass is kept
pub exports-so : (P : AstType → Label → Fields → Bool) → ((k : AstType) (l : Label) (fs : Fields) → is_export_kind k ≡ true → P k l fs ≡ true) → ((x : Bound) → is_made_text x.name ≡ true → all_nodes P (identifier x) ≡ true) → (o : EnvOptions) {s s' : Ledger} {x y : Open} → Step (Exports o) the_program s x s' y → has_form s-Program (finished x) ≡ true → all_nodes P (finished x) ≡ true → all_nodes P (finished y) ≡ true
exports-so P passes names o {x = x} {y = y} h form c = subst (λ (t : Tree). all_nodes P t ≡ true) (finished-spread y) (program-so P passes names (program-exported (exported o h) form) (subst (λ (t : Tree). all_nodes P t ≡ true) (sym (finished-spread x)) c))

made-class : (k : AstType) (l : Label) (fs : Fields) → is_export_kind k ≡ true → is_statement_node k l fs ≡ true
made-class Identifier l fs h = refl
made-class ImportNamespaceSpecifier l fs h = refl
made-class ImportDeclaration l fs h = refl
made-class ExportSpecifier l fs h = refl
made-class ExportNamedDeclaration l fs h = refl
made-class Program l fs h = refl
made-class _ l fs h = absurd (cc h)

-- WHAT IS ASKED OF THEM

module _ (o : EnvOptions) (no_all : Bool) (u : Supply) (Clean : Tree → Type 0) (quiet : (t : Tree) → Clean t → silent_names u t ≡ []) (parts_clean : PartsClean Clean) where
  exports-class : {s s' : Ledger} {x y : Open} → Step (Exports o) the_program s x s' y → has_form s-Program (finished x) ≡ true → Class (finished x) → Class (finished y)
  exports-class h form c = exports-so is_statement_node made-class (λ x new. refl) o h form c

  pub exports-run : {s s' : Ledger} {x y : Open} → Step (Exports o) the_program s x s' y → Known s (spread x) → Clean (finished x) → StepAlike false u (finished x) (finished y) × Clean (finished y)
  exports-run {x = x} {y = y} h k c =
      let form = subst (λ (t : Tree). has_form s-Program t ≡ true) (finished-spread x) k.form in
      let r = program-run u Clean quiet parts_clean (program-exported (exported o h) form) k (subst (λ (t : Tree). Clean t) (sym (finished-spread x)) c) in
      (subst (λ (t : Tree). StepAlike false u t (finished y)) (finished-spread x) (subst (λ (t : Tree). StepAlike false u (finished (spread x)) t) (finished-spread y) r.0), subst (λ (t : Tree). Clean t) (finished-spread y) r.1)

  -- where what is asked of programs on the way, with what is known of the whole, tells this and is kept
  pub namespace-runs : (Asked : Whole → Tree → Type 0) → ((w : Whole) (t : Tree) → Asked w t → Clean t) → ((s s' : Ledger) (x y : Open) → Step (Exports o) the_program s x s' y → Known s (spread x) → Known s' (spread y) → Asked (whole_in s) (finished x) → Asked (whole_in s') (finished y)) → NamespaceRuns o no_all u Asked
  namespace-runs Asked tells keeps = record {
    class = exports-class;
    clean = λ {s} {s'} {x} {y} h k m c. keeps s s' x y h k m c;
    runs = λ {s} {s'} {x} {y} h k m c d. alike-under no_all u (finished x) (finished y) (exports-run h k (tells (whole_in s) (finished x) c)).0;
  }
