-- A program in whose list an export is split breaks no static rule, and to other modules it is what it was.
use Rattle.std.proofs.Common.{◌≡◌, refl, sym, ap, ◌∙◌, List, [], ◌∷◌, ◌++◌, append-nil, map}
use Rattle.std.specs.Prelude.{true, false}
use Rattle.std.proofs.lemmas.Bool.{and_parts}
use Rattle.std.proofs.lemmas.List.{map-append}
use Rattle.es_tree.specs.Ancestors.{visits}
use Rattle.es_tree.specs.HasForm.{has_form, trees_form}
use Rattle.es_tree.specs.StaticRules.{breaks}
use Rattle.es_tree.specs.Tree.{Tree, node, Label, Fields, done, ◌then◌, Field, missing, many, one, statements, Trees, empty, ◌before◌}
use Rattle.es_tree.specs.Words.{Text}
use Rattle.es_tree.specs.declared.ast_type.AstType.TheVariants.{VariableDeclaration, VariableDeclarator}
use Rattle.es_tree.specs.declared.table.Sort.TheVariants.{Declaration as s-Declaration, Program as s-Program, Statement as s-Statement, VariableDeclarator as s-VariableDeclarator}
use Rattle.es_tree.proofs.NodeForm.{node_form}
use Rattle.es_semantic.specs.RolesOf.{reads}
use Rattle.es_resolution.specs.Named.{Named}
use Rattle.es_steps.specs.Nodes.{joined_trees}
use Rattle.es_steps.specs.Steps.{Whole}
use Rattle.es_steps.proofs.FormLists.{first-formed}
use Rattle.es_valid_steps.proofs.Visits.{law_among_proof, law_places_proof}
use Rattle.es_module_names.specs.Laws.{SameOutside}
use Rattle.es_module_names.specs.Modules.{declarator_texts, exported, request, specifier_text, star_request, texts_among}
use Rattle.es_valid_names.proofs.BareNames.{law_declared_among_proof, law_together_proof}
use Rattle.es_valid_names.proofs.ExportClashes.{same-exports}
use Rattle.es_valid_names.proofs.ExportPlaces.{exported_in}
use Rattle.es_valid_names.proofs.ExportStatements.{program-exports}
use Rattle.es_valid_names.proofs.ExportTexts.{lists}
use Rattle.es_valid_names.proofs.NameSteps.{clear-breaks, clear-exports, start-clear}
use Rattle.es_valid_names.proofs.StartUsed.{start-used}
use Rattle.es_top_imports.proofs.TopForms.{program_with}
use Rattle.es_export_splits.specs.Splits.{export_of, names_of_declaration, names_of_declarator, names_of_declarators, specifiers, split_before, text_of, with_symbols}
use Rattle.es_export_splits.proofs.ExportClaims.{program-clear}
use Rattle.es_export_splits.proofs.ExportForms.{exported-formed, program-formed, program-list}
use Rattle.es_export_splits.proofs.ExportNames.{IsExport, export_with}
use Rattle.es_export_splits.proofs.ExportNames.IsExport.{is_export}
use Rattle.es_export_splits.proofs.ExportPlaces.{program-keeps}

-- WHAT OTHER MODULES SEE

-- the texts of names
abbrev pub texts : List Tree → List Text
texts xs = map (λ x. text_of x) xs

pub specifier-texts : (xs : List Tree) → texts_among specifier_text (specifiers with_symbols xs) ≡ texts xs
specifier-texts [] = refl
specifier-texts (x ∷ xs) = ap (λ ys. text_of x ∷ ys) (specifier-texts xs)

declarator-same : (t : Tree) → has_form s-VariableDeclarator t ≡ true → texts (names_of_declarator t) ≡ declarator_texts t
declarator-same (node VariableDeclarator l done) f = refl
declarator-same (node VariableDeclarator l (one p then fs)) f = refl
declarator-same (node VariableDeclarator l (missing then fs)) f = refl
declarator-same (node VariableDeclarator l (many ts then fs)) f = absurd (let no : false ≡ true = (node_form s-VariableDeclarator VariableDeclarator l (many ts then fs) f).children in cc no)
declarator-same (node VariableDeclarator l (statements ts then fs)) f = absurd (let no : false ≡ true = (node_form s-VariableDeclarator VariableDeclarator l (statements ts then fs) f).children in cc no)
declarator-same (node _ l fs) f = refl

declarators-same : (ds : Trees) → trees_form s-VariableDeclarator s-VariableDeclarator ds ≡ true → texts (names_of_declarators ds) ≡ texts_among declarator_texts ds
declarators-same empty f = refl
declarators-same (d before ds) f =
    let parts = first-formed s-VariableDeclarator d ds f in
    map-append (λ x. text_of x) (names_of_declarator d) (names_of_declarators ds) ∙ (λ i. declarator-same d parts.0 i ++ declarators-same ds parts.1 i)

pub declaration-same : (k : Label) (ds : Trees) (fs : Fields) → has_form s-Declaration (node VariableDeclaration k (many ds then fs)) ≡ true → texts (names_of_declaration (node VariableDeclaration k (many ds then fs))) ≡ texts_among declarator_texts ds
declaration-same k empty fs f = absurd (let no : false ≡ true = (node_form s-Declaration VariableDeclaration k (many empty then fs) f).children in cc no)
declaration-same k (d before ds) done f = declarators-same (d before ds) (and_parts (trees_form s-VariableDeclarator s-VariableDeclarator (d before ds)) true (node_form s-Declaration VariableDeclaration k (many (d before ds) then done) f).children).0
declaration-same k (d before ds) (g then fs) f = absurd (let no : false ≡ true = (and_parts (trees_form s-VariableDeclarator s-VariableDeclarator (d before ds)) false (node_form s-Declaration VariableDeclaration k (many (d before ds) then g then fs) f).children).1 in cc no)

exports-same : (before_it after_it : Trees) (t : Tree) → IsExport t → trees_form s-Statement s-Statement (joined_trees before_it (t before after_it)) ≡ true → texts_among exported (joined_trees before_it (split_before with_symbols t after_it)) ≡ texts_among exported (joined_trees before_it (t before after_it))
exports-same empty after_it t (is_export m k ds fs) f =
    let it = node VariableDeclaration k (many ds then fs) in
    let own = specifier-texts (names_of_declaration it) ∙ declaration-same k ds fs (exported-formed m k (many ds then fs) (first-formed s-Statement (export_with m it) after_it f).0) ∙ sym (append-nil (texts_among declarator_texts ds)) in
    ap (λ xs. xs ++ texts_among exported after_it) own
exports-same (b before before_it) after_it t e f = ap (λ xs. exported b ++ xs) (exports-same before_it after_it t e (first-formed s-Statement b (joined_trees before_it (t before after_it)) f).1)

-- where nothing is read off the three statements
unread : (read : Tree → List Text) → ((m k : Label) (ds : Trees) (fs : Fields) → read (export_with m (node VariableDeclaration k (many ds then fs))) ≡ []) → ((k : Label) (fs : Fields) → read (node VariableDeclaration k fs) ≡ []) → ((t : Tree) (xs : List Tree) → read (export_of with_symbols t xs) ≡ []) → (before_it after_it : Trees) (t : Tree) → IsExport t → texts_among read (joined_trees before_it (split_before with_symbols t after_it)) ≡ texts_among read (joined_trees before_it (t before after_it))
unread read a b c empty after_it t (is_export m k ds fs) = (λ i. b k (many ds then fs) i ++ (c t (names_of_declaration (node VariableDeclaration k (many ds then fs))) i ++ texts_among read after_it)) ∙ (λ i. sym (a m k ds fs) i ++ texts_among read after_it)
unread read a b c (u before before_it) after_it t e = ap (λ xs. read u ++ xs) (unread read a b c before_it after_it t e)

-- THE PROGRAM

module _ (l : Label) (d : Field) (before_it after_it : Trees) (t : Tree) (e : IsExport t) where
  abbrev old : Tree
  old = program_with l d (joined_trees before_it (t before after_it))

  abbrev new : Tree
  new = program_with l d (joined_trees before_it (split_before with_symbols t after_it))

  pub outside-same : has_form s-Program old ≡ true → SameOutside old new
  outside-same f = record {
    requests = unread request (λ m k ds fs. refl) (λ k fs. refl) (λ t xs. refl) before_it after_it t e;
    stars = unread star_request (λ m k ds fs. refl) (λ k fs. refl) (λ t xs. refl) before_it after_it t e;
    exports = exports-same before_it after_it t e (program-list l d before_it after_it t e f);
  }

  pub breaks-none : (w : Whole) → has_form s-Program old ≡ true → breaks old ≡ [] → Named w.in_use w.free_symbol reads old → breaks new ≡ []
  breaks-none w f kept used =
      let g = program-formed l d before_it after_it t e f in
      let declared = law_declared_among_proof old kept in
      let places = (law_places_proof old).to_places (law_among_proof old kept) in
      let keeps = program-keeps l d before_it after_it t e (program-list l d before_it after_it t e f) places in
      let clear = program-clear w.in_use l d before_it after_it t e f g (start-clear w.in_use old f declared (start-used w.in_use w.free_symbol old f used)) in
      let same : exported_in (visits [] 0 new) ≡ exported_in (visits [] 0 old) = program-exports new g keeps ∙ ap lists (outside-same f).exports ∙ sym (program-exports old f places) in
      law_together_proof new ((law_places_proof new).from_places keeps) (same-exports old new declared same (clear-breaks w.in_use new g clear) (clear-exports w.in_use new g clear))
