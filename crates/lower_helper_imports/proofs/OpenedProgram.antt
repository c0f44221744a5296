-- A program that has form is opened as one.
use Rattle.std.proofs.Common.{◌≡◌, ◌∷◌, List, [], refl}
use Rattle.std.specs.Prelude.{true, false, ◌&&◌}
use Rattle.es_tree.proofs.NodeForm.{node_form}
use Rattle.es_tree.specs.Attributes.{child_entries}
use Rattle.es_tree.specs.HasForm.{is_of_sort, elements_of, match_option, has_form, elements_form, fields_form, trees_form}
use Rattle.es_tree.specs.Arity.{Fits, Slot, Suits, list, optional, required, statement_list}
use Rattle.es_tree.specs.Tree.{Tree, node, Label, Fields, done, ◌then◌, Field, missing, one, many, statements}
use Rattle.es_tree.specs.declared.ast_type.AstType.{AstType}
use Rattle.es_tree.specs.declared.ast_type.AstType.TheVariants.{Program}
use Rattle.es_tree.specs.declared.table.Sort.TheVariants.{Program as s-Program, Statement as s-Statement, Directive as s-Directive}
use Rattle.es_tree.specs.declared.helper.Helper.{Helper}
use Rattle.es_helper_calls.specs.HelperCalls.{calling, calling_by, calling_in}
use Rattle.es_statements.specs.ProgramArity.{IsProgram}
use Rattle.es_steps.proofs.FormParts.{and-right}

abbrev ChildrenForm : AstType → Label → Fields → Type 0
ChildrenForm k l fs = match_option (elements_of (child_entries k)) (fields_form k l (child_entries k) fs) (λ p. elements_form p.sort p.last fs) ≡ true

program_shape : (l : Label) (fs : Fields) → fields_form Program l (child_entries Program) fs ≡ true → Fits (list ∷ statement_list ∷ []) fs
program_shape l (many ds then (statements body then done)) h = (tt, (tt, tt))
program_shape l (many ds then (statements body then (g then fs))) h = absurd (cc (and-right (trees_form s-Statement s-Statement body) false (and-right (trees_form s-Directive s-Directive ds) (trees_form s-Statement s-Statement body && false) h)))
program_shape l (many ds then done) h = absurd (cc (and-right (trees_form s-Directive s-Directive ds) false h))
program_shape l (many ds then (missing then fs)) h = absurd (cc (and-right (trees_form s-Directive s-Directive ds) false h))
program_shape l (many ds then (one t then fs)) h = absurd (cc (and-right (trees_form s-Directive s-Directive ds) false h))
program_shape l (many ds then (many ts then fs)) h = absurd (cc (and-right (trees_form s-Directive s-Directive ds) false h))
program_shape l done h = absurd (cc h)
program_shape l (missing then fs) h = absurd (cc h)
program_shape l (one t then fs) h = absurd (cc h)
program_shape l (statements ts then fs) h = absurd (cc h)

pub program_opens : (p : Tree) → has_form s-Program p ≡ true → IsProgram p
program_opens (node k l fs) h = at k (node_form s-Program k l fs h).sort (node_form s-Program k l fs h).children
  where
    at : (k : AstType) → is_of_sort s-Program k ≡ true → ChildrenForm k l fs → IsProgram (node k l fs)
    at Program sort children = record { kind = refl; arity = program_shape l fs children }
    at _ sort children = absurd (cc sort)

-- and so it is where helpers are called by other expressions

suits-called : (c : Helper → Tree) (s : Slot) (f : Field) → Suits s f → Suits s (calling_by c f)
suits-called c s missing h = h
suits-called c required (one t) h = h
suits-called c optional (one t) h = h
suits-called c list (one t) h = h
suits-called c statement_list (one t) h = h
suits-called c required (many ts) h = h
suits-called c optional (many ts) h = h
suits-called c list (many ts) h = h
suits-called c statement_list (many ts) h = h
suits-called c required (statements ts) h = h
suits-called c optional (statements ts) h = h
suits-called c list (statements ts) h = h
suits-called c statement_list (statements ts) h = h

fits-called : (c : Helper → Tree) (ss : List Slot) (fs : Fields) → Fits ss fs → Fits ss (calling_in c fs)
fits-called c [] done h = h
fits-called c [] (f then fs) h = absurd h
fits-called c (s ∷ ss) done h = absurd h
fits-called c (s ∷ ss) (f then fs) h = (suits-called c s f h.0, fits-called c ss fs h.1)

pub called-opens : (c : Helper → Tree) (p : Tree) → IsProgram p → IsProgram (calling c p)
called-opens c (node Program l fs) h = record { kind = refl; arity = fits-called c (list ∷ statement_list ∷ []) fs h.arity }
called-opens c (node _ l fs) h = absurd (cc h.kind)
