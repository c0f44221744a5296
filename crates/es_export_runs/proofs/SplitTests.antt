-- Tests of nodes that exports and their specifiers pass, and names by their texts, are kept where exports are split.
use Rattle.std.proofs.Common.{◌≡◌, refl, List, [], ◌∷◌}
use Rattle.std.proofs.lemmas.Bool.{and_from, and_parts}
use Rattle.std.specs.Prelude.{Bool, true, false, if◌then◌else◌}
use Rattle.es_tree.specs.Names.{first_text}
use Rattle.es_tree.specs.Tree.{Tree, node, Label, Fields, done, ◌then◌, Field, missing, one, many, statements, Trees, empty, ◌before◌}
use Rattle.es_tree.specs.Walks.{NodeTest, all_in_field, all_in_fields, all_in_trees, all_nodes}
use Rattle.es_tree.specs.declared.ast_type.AstType.TheVariants.{ArrayPattern, AssignmentPattern, ExportNamedDeclaration, ExportSpecifier, Identifier, ObjectPattern, PatternProperty, Program, RestElement, VariableDeclaration, VariableDeclarator}
use Rattle.es_export_splits.specs.SplitRule.{EachTree}
use Rattle.es_export_splits.specs.Splits.{export_of, is_split, names_of_declaration, plainly, specifier, specifiers, split_before, split_list}
use Rattle.es_export_splits.proofs.ExportNames.{HandedOn, IsExport, declaration-names, export-is}
use Rattle.es_export_splits.proofs.ExportNames.IsExport.{is_export}

-- what is asked of such a test
pub record Passes (test : NodeTest) : Type 0 where
  pub exports : (l : Label) (fs : Fields) → test ExportNamedDeclaration l fs ≡ true
  pub specifiers : (l : Label) (fs : Fields) → test ExportSpecifier l fs ≡ true
  pub programs : (l : Label) (fs : Fields) → test Program l fs ≡ true
  pub names : (l m : Label) (fs gs : Fields) → first_text m.texts ≡ first_text l.texts → test Identifier l fs ≡ true → test Identifier m gs ≡ true

module _ (test : NodeTest) (passes : Passes test) where
  -- THE NAMES of a declaration pass it once more

  abbrev Again : Tree → Type 0
  Again x = all_nodes test (plainly.again x) ≡ true

  first-passes : (f : Field) (fs : Fields) → all_in_fields test (f then fs) ≡ true → (all_in_field test f ≡ true) × (all_in_fields test fs ≡ true)
  first-passes f fs h = and_parts (all_in_field test f) (all_in_fields test fs) h

  inner : (k : _) (l : Label) (fs : Fields) → all_nodes test (node k l fs) ≡ true → all_in_fields test fs ≡ true
  inner k l fs h = (and_parts (test k l fs) (all_in_fields test fs) h).1

  handed : HandedOn Again (λ t. all_nodes test t ≡ true) (λ f. all_in_field test f ≡ true) (λ ts. all_in_trees test ts ≡ true) (λ fs. all_in_fields test fs ≡ true)
  handed = record {
    names = λ l fs h. and_from _ true (passes.names l _ fs done refl (and_parts (test Identifier l fs) (all_in_fields test fs) h).0) refl;
    objects = λ l f fs h. (first-passes f fs (inner ObjectPattern l (f then fs) h)).0;
    properties = λ l f g fs h. (first-passes g fs (first-passes f (g then fs) (inner PatternProperty l (f then g then fs) h)).1).0;
    defaults = λ l f fs h. (first-passes f fs (inner AssignmentPattern l (f then fs) h)).0;
    rests = λ l f fs h. (first-passes f fs (inner RestElement l (f then fs) h)).0;
    arrays = λ l fs h. inner ArrayPattern l fs h;
    elements = λ f fs h. first-passes f fs h;
    child = λ t h. h;
    children = λ ts h. h;
    list = λ ts h. h;
    more = λ t ts h. and_parts (all_nodes test t) (all_in_trees test ts) h;
  }

  names-again : (k : Label) (ds : Trees) (fs : Fields) → all_in_trees test ds ≡ true → EachTree Again (names_of_declaration (node VariableDeclaration k (many ds then fs)))
  names-again = declaration-names handed {D = λ t. all_nodes test t ≡ true} {Ds = λ ts. all_in_trees test ts ≡ true} (λ l p fs h. (first-passes (one p) fs (inner VariableDeclarator l (one p then fs) h)).0) (λ t ts h. and_parts (all_nodes test t) (all_in_trees test ts) h)

  -- THE EXPORT that is left

  specifiers-pass : (xs : List Tree) → EachTree Again xs → all_in_trees test (specifiers plainly xs) ≡ true
  specifiers-pass [] h = refl
  specifiers-pass (x ∷ xs) h =
      and_from (all_nodes test (specifier plainly x)) (all_in_trees test (specifiers plainly xs))
      (and_from (test ExportSpecifier _ _) _ (passes.specifiers _ _) (and_from (all_nodes test (plainly.again x)) _ h.0 (and_from (all_nodes test (plainly.text x)) true h.0 refl)))
      (specifiers-pass xs h.1)

  export-passes : (t : Tree) (xs : List Tree) → EachTree Again xs → all_nodes test (export_of plainly t xs) ≡ true
  export-passes t xs h = and_from (test ExportNamedDeclaration _ _) _ (passes.exports _ _) (and_from (all_in_trees test (specifiers plainly xs)) true (specifiers-pass xs h) refl)

  -- LISTS

  before-passes : (t : Tree) → IsExport t → (ts : Trees) → all_nodes test t ≡ true → all_in_trees test ts ≡ true → all_in_trees test (split_before plainly t ts) ≡ true
  before-passes t (is_export l k ds fs) ts h g =
      let d : Tree = node VariableDeclaration k (many ds then fs) in
      let declared : all_nodes test d ≡ true = (first-passes (one d) (many empty then missing then many empty then done) (inner ExportNamedDeclaration l (one d then many empty then missing then many empty then done) h)).0 in
      let named = names-again k ds fs (first-passes (many ds) fs (inner VariableDeclaration k (many ds then fs) declared)).0 in
      and_from (all_nodes test d) _ declared (and_from (all_nodes test (export_of plainly t (names_of_declaration d))) (all_in_trees test ts) (export-passes t (names_of_declaration d) named) g)

  list-passes : (ts : Trees) → all_in_trees test ts ≡ true → all_in_trees test (split_list plainly ts) ≡ true
  list-passes empty h = refl
  list-passes (t before ts) h =
      let parts = and_parts (all_nodes test t) (all_in_trees test ts) h in
      at (is_split t) refl parts.0 (list-passes ts parts.1)
    where
      at : (b : Bool) → is_split t ≡ b → all_nodes test t ≡ true → all_in_trees test (split_list plainly ts) ≡ true → all_in_trees test (if b then split_before plainly t (split_list plainly ts) else t before split_list plainly ts) ≡ true
      at true e g rest = before-passes t (export-is t e) (split_list plainly ts) g rest
      at false e g rest = and_from (all_nodes test t) (all_in_trees test (split_list plainly ts)) g rest

  pub program-passes : (l : Label) (ds ts : Trees) → all_nodes test (node Program l (many ds then statements ts then done)) ≡ true → all_nodes test (node Program l (many ds then statements (split_list plainly ts) then done)) ≡ true
  program-passes l ds ts h =
      let parts = first-passes (many ds) (statements ts then done) (inner Program l (many ds then statements ts then done) h) in
      and_from (test Program l _) _ (passes.programs l _) (and_from (all_in_trees test ds) _ parts.0 (and_from (all_in_trees test (split_list plainly ts)) true (list-passes ts (first-passes (statements ts) done parts.1).0) refl))
