-- A program with one statement more in its list breaks no static rule, and to other modules it is what it was but for what it asks for.
use Rattle.std.proofs.Common.{◌≡◌, refl, sym, ap, ◌∙◌, List, [], ◌∷◌, ◌++◌}
use Rattle.std.specs.Prelude.{Bool, true, false, codes}
use Rattle.std.proofs.lemmas.List.{append_assoc}
use Rattle.es_tree.specs.Ancestors.{visits}
use Rattle.es_tree.specs.HasForm.{has_form}
use Rattle.es_tree.specs.Names.{first_text}
use Rattle.es_tree.specs.StaticRules.{breaks}
use Rattle.es_tree.specs.Tree.{Tree, Label, Field, Fields, Trees, empty, ◌before◌}
use Rattle.es_tree.specs.Words.{Text}
use Rattle.es_tree.specs.declared.table.Sort.TheVariants.{Program as s-Program, Statement as s-Statement}
use Rattle.es_semantic.specs.RolesOf.{reads}
use Rattle.es_resolution.specs.Named.{Named}
use Rattle.es_steps.specs.Nodes.{joined_trees}
use Rattle.es_steps.specs.Steps.{Whole}
use Rattle.es_steps.proofs.FormParts.{IsText}
use Rattle.es_valid_steps.specs.PlaceRules.{Keeps}
use Rattle.es_valid_steps.proofs.Visits.{law_among_proof, law_places_proof}
use Rattle.es_module_names.specs.Modules.{exported, exported_of, star_request, texts_among}
use Rattle.es_valid_names.proofs.BareNames.{law_declared_among_proof, law_together_proof}
use Rattle.es_valid_names.proofs.Claims.{Around, Clear, claims, elsewhere, is_owned}
use Rattle.es_valid_names.proofs.ExportClashes.{same-exports}
use Rattle.es_valid_names.proofs.ExportPlaces.{exported_in}
use Rattle.es_valid_names.proofs.ExportStatements.{program-exports}
use Rattle.es_valid_names.proofs.ExportTexts.{lists}
use Rattle.es_valid_names.proofs.NameSteps.{clear-breaks, clear-exports, start-clear}
use Rattle.es_valid_names.proofs.ProgramNames.{program_list}
use Rattle.es_valid_names.proofs.StartUsed.{start-used}
use Rattle.es_top_imports.specs.TopImports.{Import, top_of}
use Rattle.es_top_imports.proofs.TopForms.{program-formed, program_with, statement-formed}
use Rattle.es_top_imports.proofs.TopNames.{AreFresh, also_each, each_named, program-clear, statement-claims, statement-clear}
use Rattle.es_top_imports.proofs.TopPlaces.{program-keeps, statement-keeps, up}

-- WHAT IS READ OFF THE STATEMENT

pub statement-exports : (in_module : Bool) (i : Import) → exported (top_of in_module i) ≡ []
statement-exports true i = refl
statement-exports false i = refl

pub statement-stars : (in_module : Bool) (i : Import) → star_request (top_of in_module i) ≡ []
statement-stars true i = refl
statement-stars false i = refl

pub texts-joined : (read : Tree → List Text) (before_it after_it : Trees) → texts_among read (joined_trees before_it after_it) ≡ texts_among read before_it ++ texts_among read after_it
texts-joined read empty after_it = refl
texts-joined read (b before before_it) after_it = ap (λ xs. read b ++ xs) (texts-joined read before_it after_it) ∙ sym (append_assoc (read b) (texts_among read before_it) (texts_among read after_it))

-- WHAT IS ASKED of a statement that comes into the list of a program, where it declares these names
pub record IsTop (lexical : Bool) (xs : List Text) (l : Label) (t : Tree) : Type 0 where
  pub form : has_form s-Statement t ≡ true
  pub keeps : (all : Fields) → Keeps (up l all) t
  pub declares : claims is_owned (program_list l) t ≡ each_named lexical xs
  pub clear : (c : Around) → Clear c elsewhere t
  pub exports : exported t ≡ []

pub import-top : (in_module : Bool) (l : Label) → (in_module ≡ true → first_text l.texts ≡ codes "module") → (i : Import) → IsText i.local → IsTop in_module (i.local.name ∷ []) l (top_of in_module i)
import-top in_module l module_text i named = record { form = statement-formed in_module i named; keeps = λ all. statement-keeps l all in_module module_text i; declares = statement-claims l in_module i; clear = λ c. statement-clear c in_module i; exports = statement-exports in_module i }

-- THE PROGRAM

module _ (w : Whole) (l : Label) (d : Field) (before_it after_it : Trees) (t : Tree) (lexical : Bool) (xs : List Text) (fresh : AreFresh w.in_use xs) (top : IsTop lexical xs l t) where
  abbrev old : Tree
  old = program_with l d (joined_trees before_it after_it)

  abbrev new : Tree
  new = program_with l d (joined_trees before_it (t before after_it))

  exports-same : exported_of new ≡ exported_of old
  exports-same = texts-joined exported before_it (t before after_it) ∙ (λ j. texts_among exported before_it ++ (top.exports j ++ texts_among exported after_it)) ∙ sym (texts-joined exported before_it after_it)

  pub breaks-none : has_form s-Program old ≡ true → breaks old ≡ [] → Named w.in_use w.free_symbol reads old → breaks new ≡ []
  breaks-none f e used =
      let g = program-formed l d before_it after_it t top.form f in
      let declared = law_declared_among_proof old e in
      let kept = (law_places_proof old).to_places (law_among_proof old e) in
      let keeps = program-keeps l d before_it after_it t top.keeps kept in
      let after = also_each xs w.in_use in
      let clear = program-clear w.in_use l d before_it after_it t lexical xs fresh top.declares f g top.clear (start-clear w.in_use old f declared (start-used w.in_use w.free_symbol old f used)) in
      let same : exported_in (visits [] 0 new) ≡ exported_in (visits [] 0 old) = program-exports new g keeps ∙ ap lists exports-same ∙ sym (program-exports old f kept) in
      law_together_proof new ((law_places_proof new).from_places keeps) (same-exports old new declared same (clear-breaks after new g clear) (clear-exports after new g clear))
