-- A program with one statement more in its list: it has form.
use Rattle.std.proofs.Common.{◌≡◌, refl}
use Rattle.std.specs.Prelude.{Bool, true, false}
use Rattle.std.proofs.lemmas.Bool.{and_from, and_parts}
use Rattle.es_tree.specs.HasForm.{has_form, trees_form}
use Rattle.es_tree.specs.Tree.{Tree, node, Label, Fields, done, ◌then◌, Field, missing, one, many, statements, Trees, empty, ◌before◌}
use Rattle.es_tree.specs.declared.ast_type.AstType.TheVariants.{Program}
use Rattle.es_tree.specs.declared.table.Sort.{Sort}
use Rattle.es_tree.specs.declared.table.Sort.TheVariants.{Program as s-Program, Statement as s-Statement}
use Rattle.es_tree.proofs.NodeForm.{has_form-node, node_form}
use Rattle.es_steps.specs.Nodes.{joined_trees}
use Rattle.es_steps.proofs.FormLists.{first-formed}
use Rattle.es_steps.proofs.FormMembers.{formed-first}
use Rattle.es_steps.proofs.FormParts.{IsText}
use Rattle.es_valid_steps.proofs.ProgramLists.{two-fields}
use Rattle.es_top_imports.specs.TopImports.{Import, top_of}

-- PROGRAMS: directives and a list

abbrev pub program_with : Label → Field → Trees → Tree
program_with l d ts = node Program l (d then (statements ts then done))

pub data IsProgram : Tree → Type 0 where
  is_program : (l : Label) (d : Field) (ts : Trees) → IsProgram (program_with l d ts)

pub program-is : (t : Tree) → has_form s-Program t ≡ true → IsProgram t
program-is (node Program l (d then (statements ts then done))) f = is_program l d ts
program-is (node Program l (d then (statements ts then (g then fs)))) f = absurd (let no : false ≡ true = (two-fields l d (statements ts) (g then fs) (node_form s-Program Program l (d then (statements ts then (g then fs))) f).children).1 in cc no)
program-is (node Program l (d then (missing then fs))) f = absurd (let no : false ≡ true = (two-fields l d missing fs (node_form s-Program Program l (d then (missing then fs)) f).children).0 in cc no)
program-is (node Program l (d then (one t then fs))) f = absurd (let no : false ≡ true = (two-fields l d (one t) fs (node_form s-Program Program l (d then (one t then fs)) f).children).0 in cc no)
program-is (node Program l (d then (many ts then fs))) f = absurd (let no : false ≡ true = (two-fields l d (many ts) fs (node_form s-Program Program l (d then (many ts then fs)) f).children).0 in cc no)
program-is (node Program l (d then done)) f = absurd (let no = (and_parts _ false (node_form s-Program Program l (d then done) f).children).1 in cc no)
program-is (node Program l done) f = absurd (let no : false ≡ true = (node_form s-Program Program l done f).children in cc no)
program-is (node k l fs) f = absurd (let no : false ≡ true = (node_form s-Program k l fs f).sort in cc no)

-- THE STATEMENT

pub statement-formed : (in_module : Bool) (i : Import) → IsText i.local → has_form s-Statement (top_of in_module i) ≡ true
statement-formed true i named = rw named refl
statement-formed false i named = rw named refl

-- THE LIST

list-formed : (s : Sort) (before_it : Trees) (t : Tree) (after_it : Trees) → has_form s t ≡ true → trees_form s s (joined_trees before_it after_it) ≡ true → trees_form s s (joined_trees before_it (t before after_it)) ≡ true
list-formed s empty t after_it h k = formed-first s t after_it h k
list-formed s (b before before_it) t after_it h k = let parts = first-formed s b (joined_trees before_it after_it) k in formed-first s b (joined_trees before_it (t before after_it)) parts.0 (list-formed s before_it t after_it h parts.1)

-- THE PROGRAM

module _ (l : Label) (d : Field) (before_it after_it : Trees) (t : Tree) (formed : has_form s-Statement t ≡ true) where
  abbrev old_fields : Fields
  old_fields = d then (statements (joined_trees before_it after_it) then done)

  abbrev new_fields : Fields
  new_fields = d then (statements (joined_trees before_it (t before after_it)) then done)

  pub program-formed : has_form s-Program (node Program l old_fields) ≡ true → has_form s-Program (node Program l new_fields) ≡ true
  program-formed f =
      let m = node_form s-Program Program l old_fields f in
      let parts = and_parts _ _ m.children in
      let list = (and_parts (trees_form s-Statement s-Statement (joined_trees before_it after_it)) true parts.1).0 in
      let more = list-formed s-Statement before_it t after_it formed list in
      has_form-node s-Program Program l new_fields (record { sort = m.sort; texts = m.texts; flags = m.flags; start = m.start; stop = m.stop; agree = refl; children = and_from _ _ parts.0 (and_from _ true more refl) })
