-- A name that stands nowhere in a program stands nowhere in what it becomes where its exports are split: what is left exports names that are declared.
use Rattle.std.proofs.Common.{◌≡◌, refl, List, [], ◌∷◌, ◌++◌}
use Rattle.std.proofs.lemmas.Bool.{or_from, or_parts}
use Rattle.std.specs.Prelude.{Bool, true, false, bytes_eq, if◌then◌else◌}
use Rattle.es_tree.specs.Fresh.{is_among}
use Rattle.es_tree.specs.Names.{first_text, names_in_field, names_in_fields, names_in_trees, names_of}
use Rattle.es_tree.specs.Tree.{Tree, node, Label, Fields, done, ◌then◌, many, statements, Trees, empty, ◌before◌}
use Rattle.es_tree.specs.Words.{Text}
use Rattle.es_tree.specs.declared.ast_type.AstType.TheVariants.{Program, VariableDeclaration}
use Rattle.es_export_splits.specs.SplitRule.{EachTree}
use Rattle.es_export_splits.specs.Splits.{export_of, is_split, names_of_declaration, plainly, specifiers, split_before, split_list, text_of}
use Rattle.es_export_splits.proofs.ExportNames.{HandedOn, IsExport, declaration-names, export-is}
use Rattle.es_export_splits.proofs.ExportNames.IsExport.{is_export}

module _ (y : Text) where
  -- it is none of these names
  abbrev Apart : List Text → Type 0
  Apart xs = is_among xs y ≡ false

  apart-parts : (xs ys : List Text) → Apart (xs ++ ys) → Apart xs × Apart ys
  apart-parts [] ys h = (refl, h)
  apart-parts (x ∷ xs) ys h =
      let first = or_parts (bytes_eq x y) (is_among (xs ++ ys) y) h in
      let rest = apart-parts xs ys first.1 in
      (or_from (bytes_eq x y) (is_among xs y) first.0 rest.0, rest.1)

  apart-both : (xs ys : List Text) → Apart xs → Apart ys → Apart (xs ++ ys)
  apart-both [] ys h g = g
  apart-both (x ∷ xs) ys h g =
      let first = or_parts (bytes_eq x y) (is_among xs y) h in
      or_from (bytes_eq x y) (is_among (xs ++ ys) y) first.0 (apart-both xs ys first.1 g)

  -- THE NAMES of a declaration

  abbrev Other : Tree → Type 0
  Other x = bytes_eq (text_of x) y ≡ false

  handed : HandedOn Other (λ t. Apart (names_of t)) (λ f. Apart (names_in_field true f)) (λ ts. Apart (names_in_trees ts)) (λ fs. Apart (names_in_fields (λ n. true) fs))
  handed = record {
    names = λ l fs h. (or_parts (bytes_eq (first_text l.texts) y) _ h).0;
    objects = λ l f fs h. (apart-parts (names_in_field true f) (names_in_fields (λ n. true) fs) h).0;
    properties = λ l f g fs h. (apart-parts (names_in_field true g) (names_in_fields (λ n. true) fs) (apart-parts (names_in_field _ f) (names_in_field true g ++ names_in_fields (λ n. true) fs) h).1).0;
    defaults = λ l f fs h. (apart-parts (names_in_field true f) (names_in_fields (λ n. true) fs) h).0;
    rests = λ l f fs h. (apart-parts (names_in_field true f) (names_in_fields (λ n. true) fs) h).0;
    arrays = λ l fs h. h;
    elements = λ f fs h. apart-parts (names_in_field true f) (names_in_fields (λ n. true) fs) h;
    child = λ t h. h;
    children = λ ts h. h;
    list = λ ts h. h;
    more = λ t ts h. apart-parts (names_of t) (names_in_trees ts) h;
  }

  names-other : (k : Label) (ds : Trees) (fs : Fields) → Apart (names_in_trees ds) → EachTree Other (names_of_declaration (node VariableDeclaration k (many ds then fs)))
  names-other = declaration-names handed {D = λ t. Apart (names_of t)} {Ds = λ ts. Apart (names_in_trees ts)} (λ l p fs h. (apart-parts (names_of p) (names_in_fields (λ n. true) fs) h).0) (λ t ts h. apart-parts (names_of t) (names_in_trees ts) h)

  -- THE EXPORT that is left

  specifiers-apart : (xs : List Tree) → EachTree Other xs → Apart (names_in_trees (specifiers plainly xs))
  specifiers-apart [] h = refl
  specifiers-apart (x ∷ xs) h = or_from (bytes_eq (text_of x) y) (is_among (names_in_trees (specifiers plainly xs)) y) h.0 (specifiers-apart xs h.1)

  export-apart : (t : Tree) (xs : List Tree) → EachTree Other xs → Apart (names_of (export_of plainly t xs))
  export-apart t xs h = apart-both (names_in_trees (specifiers plainly xs)) [] (specifiers-apart xs h) refl

  -- LISTS

  before-apart : (t : Tree) → IsExport t → (ts : Trees) → Apart (names_of t) → Apart (names_in_trees ts) → Apart (names_in_trees (split_before plainly t ts))
  before-apart t (is_export l k ds fs) ts h g =
      let d : Tree = node VariableDeclaration k (many ds then fs) in
      let declared : Apart (names_of d) = (apart-parts (names_of d) [] h).0 in
      let named = names-other k ds fs (apart-parts (names_in_trees ds) (names_in_fields (λ n. true) fs) declared).0 in
      apart-both (names_of d) _ declared (apart-both (names_of (export_of plainly t (names_of_declaration d))) (names_in_trees ts) (export-apart t (names_of_declaration d) named) g)

  list-apart : (ts : Trees) → Apart (names_in_trees ts) → Apart (names_in_trees (split_list plainly ts))
  list-apart empty h = refl
  list-apart (t before ts) h =
      let parts = apart-parts (names_of t) (names_in_trees ts) h in
      at (is_split t) refl parts.0 (list-apart ts parts.1)
    where
      at : (b : Bool) → is_split t ≡ b → Apart (names_of t) → Apart (names_in_trees (split_list plainly ts)) → Apart (names_in_trees (if b then split_before plainly t (split_list plainly ts) else t before split_list plainly ts))
      at true e g rest = before-apart t (export-is t e) (split_list plainly ts) g rest
      at false e g rest = apart-both (names_of t) (names_in_trees (split_list plainly ts)) g rest

  pub program-apart : (l : Label) (ds ts : Trees) → Apart (names_of (node Program l (many ds then statements ts then done))) → Apart (names_of (node Program l (many ds then statements (split_list plainly ts) then done)))
  program-apart l ds ts h =
      let parts = apart-parts (names_in_trees ds) (names_in_trees ts ++ []) h in
      apart-both (names_in_trees ds) (names_in_trees (split_list plainly ts) ++ []) parts.0
      (apart-both (names_in_trees (split_list plainly ts)) [] (list-apart ts (apart-parts (names_in_trees ts) [] parts.1).0) refl)
