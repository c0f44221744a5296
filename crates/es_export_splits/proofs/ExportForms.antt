-- A program in whose list an export is split: it has form.
use Rattle.std.proofs.Common.{◌≡◌, refl, List, [], ◌∷◌}
use Rattle.std.specs.Prelude.{true}
use Rattle.std.proofs.lemmas.Bool.{and_from, and_parts}
use Rattle.es_tree.specs.HasForm.{has_form, trees_form}
use Rattle.es_tree.specs.Tree.{Tree, node, Label, Fields, done, ◌then◌, Field, missing, many, one, statements, Trees, empty, ◌before◌}
use Rattle.es_tree.specs.declared.ast_type.AstType.TheVariants.{ExportNamedDeclaration, Program, VariableDeclaration}
use Rattle.es_tree.specs.declared.table.Sort.TheVariants.{Declaration as s-Declaration, ExportSpecifier as s-ExportSpecifier, Program as s-Program, Statement as s-Statement}
use Rattle.es_tree.proofs.NodeForm.{has_form-node, node_form}
use Rattle.es_steps.specs.Nodes.{joined_trees, made}
use Rattle.es_steps.proofs.FormLists.{first-formed}
use Rattle.es_steps.proofs.FormMembers.{formed-first}
use Rattle.es_steps.proofs.FormParts.{no-span}
use Rattle.es_export_splits.specs.SplitRule.{EachTree}
use Rattle.es_export_splits.specs.Splits.{export_of, names_of_declaration, specifier, specifiers, split_before, with_symbols}
use Rattle.es_export_splits.proofs.ExportNames.{HasText, IsExport, export_with, names-formed}
use Rattle.es_export_splits.proofs.ExportNames.IsExport.{is_export}

-- THE DECLARATION

pub exported-formed : (l k : Label) (fs : Fields) → has_form s-Statement (export_with l (node VariableDeclaration k fs)) ≡ true → has_form s-Declaration (node VariableDeclaration k fs) ≡ true
exported-formed l k fs f = (and_parts (has_form s-Declaration (node VariableDeclaration k fs)) _ (node_form s-Statement ExportNamedDeclaration l (one (node VariableDeclaration k fs) then many empty then missing then many empty then done) f).children).0

as-statement : (k : Label) (fs : Fields) → has_form s-Declaration (node VariableDeclaration k fs) ≡ true → has_form s-Statement (node VariableDeclaration k fs) ≡ true
as-statement k fs f =
    let n = node_form s-Declaration VariableDeclaration k fs f in
    has_form-node s-Statement VariableDeclaration k fs (record { sort = refl; texts = n.texts; flags = n.flags; start = n.start; stop = n.stop; agree = n.agree; children = n.children })

-- THE EXPORT

specifier-formed : (x : Tree) → HasText x → has_form s-ExportSpecifier (specifier with_symbols x) ≡ true
specifier-formed x h = rw h refl

specifiers-formed : (xs : List Tree) → EachTree HasText xs → trees_form s-ExportSpecifier s-ExportSpecifier (specifiers with_symbols xs) ≡ true
specifiers-formed [] h = refl
specifiers-formed (x ∷ xs) h = formed-first s-ExportSpecifier (specifier with_symbols x) (specifiers with_symbols xs) (specifier-formed x h.0) (specifiers-formed xs h.1)

pub export-formed : (t : Tree) (xs : List Tree) → EachTree HasText xs → has_form s-Statement (export_of with_symbols t xs) ≡ true
export-formed t xs h =
    let s = no-span [] [] in
    has_form-node s-Statement ExportNamedDeclaration (made [] []) (missing then many (specifiers with_symbols xs) then missing then many empty then done)
    (record { sort = refl; texts = refl; flags = refl; start = s.start; stop = s.stop; agree = refl; children = and_from _ _ (specifiers-formed xs h) refl })

-- THE LIST

list-formed : (before_it after_it : Trees) (t : Tree) → IsExport t → trees_form s-Statement s-Statement (joined_trees before_it (t before after_it)) ≡ true → trees_form s-Statement s-Statement (joined_trees before_it (split_before with_symbols t after_it)) ≡ true
list-formed empty after_it t (is_export l k ds gs) f =
    let fs : Fields = many ds then gs in
    let it = node VariableDeclaration k fs in
    let parts = first-formed s-Statement (export_with l it) after_it f in
    let declares = exported-formed l k fs parts.0 in
    let export = export_of with_symbols (export_with l it) (names_of_declaration it) in
    formed-first s-Statement it (export before after_it) (as-statement k fs declares)
    (formed-first s-Statement export after_it (export-formed (export_with l it) (names_of_declaration it) (names-formed s-Declaration k ds gs declares)) parts.1)
list-formed (b before before_it) after_it t e f =
    let parts = first-formed s-Statement b (joined_trees before_it (t before after_it)) f in
    formed-first s-Statement b (joined_trees before_it (split_before with_symbols t after_it)) parts.0 (list-formed before_it after_it t e parts.1)

-- THE PROGRAM

module _ (l : Label) (d : Field) (before_it after_it : Trees) (t : Tree) (e : IsExport t) where
  abbrev old_fields : Fields
  old_fields = d then (statements (joined_trees before_it (t before after_it)) then done)

  abbrev new_fields : Fields
  new_fields = d then (statements (joined_trees before_it (split_before with_symbols t after_it)) then done)

  pub program-list : has_form s-Program (node Program l old_fields) ≡ true → trees_form s-Statement s-Statement (joined_trees before_it (t before after_it)) ≡ true
  program-list f =
      let m = node_form s-Program Program l old_fields f in
      (and_parts (trees_form s-Statement s-Statement (joined_trees before_it (t before after_it))) true (and_parts _ _ m.children).1).0

  pub program-formed : has_form s-Program (node Program l old_fields) ≡ true → has_form s-Program (node Program l new_fields) ≡ true
  program-formed f =
      let m = node_form s-Program Program l old_fields f in
      let parts = and_parts _ _ m.children in
      has_form-node s-Program Program l new_fields (record { sort = m.sort; texts = m.texts; flags = m.flags; start = m.start; stop = m.stop; agree = refl; children = and_from _ _ parts.0 (and_from _ true (list-formed before_it after_it t e (program-list f)) refl) })
