-- Exports are split the same whatever ids and marks a program has: what is made is equal, but for these.
use Rattle.std.proofs.Common.{◌≡◌, refl, sym, ap, ◌∙◌, List, [], ◌∷◌, ◌++◌, map}
use Rattle.std.specs.Prelude.{Bool, true, false, Some, if◌then◌else◌}
use Rattle.std.proofs.lemmas.List.{map-append}
use Rattle.es_tree.specs.Bare.{bare, bare_field, bare_fields, bare_label, bare_trees}
use Rattle.es_tree.specs.BoundNames.{bound_identifiers, bound_in_field, bound_in_fields, bound_in_first, bound_in_second, bound_in_trees}
use Rattle.es_tree.specs.Tree.{Tree, node, Label, Fields, done, ◌then◌, Field, missing, many, one, statements, Trees, empty, ◌before◌}
use Rattle.es_tree.specs.declared.ast_type.AstType.TheVariants.{ArrayPattern, AssignmentPattern, ExportNamedDeclaration, ExportSpecifier, Identifier, ObjectPattern, PatternProperty, Program, RestElement, VariableDeclaration, VariableDeclarator}
use Rattle.es_steps.specs.Nodes.{made}
use Rattle.es_rest_shapes.proofs.BareRests.{declaration-bare}
use Rattle.es_export_splits.specs.Splits.{Makes, is_split, names_of_declaration, names_of_declarator, names_of_declarators, plainly, specifier, specifiers, split, split_before, split_list, text_of, with_symbols}
use Rattle.es_export_splits.proofs.ExportNames.{IsExport, export-is}
use Rattle.es_export_splits.proofs.ExportNames.IsExport.{is_export}

-- NAMES of a declaration

mutual
  bound-bare : (t : Tree) → bound_identifiers (bare t) ≡ map bare (bound_identifiers t)
  bound-bare (node Identifier l fs) = refl
  bound-bare (node ObjectPattern l fs) = first-bare fs
  bound-bare (node PatternProperty l fs) = second-bare fs
  bound-bare (node ArrayPattern l fs) = fields-bare fs
  bound-bare (node AssignmentPattern l fs) = first-bare fs
  bound-bare (node RestElement l fs) = first-bare fs
  bound-bare (node _ l fs) = refl

  fields-bare : (fs : Fields) → bound_in_fields (bare_fields fs) ≡ map bare (bound_in_fields fs)
  fields-bare done = refl
  fields-bare (f then fs) = (λ i. field-bare f i ++ fields-bare fs i) ∙ sym (map-append bare (bound_in_field f) (bound_in_fields fs))

  first-bare : (fs : Fields) → bound_in_first (bare_fields fs) ≡ map bare (bound_in_first fs)
  first-bare done = refl
  first-bare (f then fs) = field-bare f

  second-bare : (fs : Fields) → bound_in_second (bare_fields fs) ≡ map bare (bound_in_second fs)
  second-bare done = refl
  second-bare (f then fs) = first-bare fs

  field-bare : (f : Field) → bound_in_field (bare_field f) ≡ map bare (bound_in_field f)
  field-bare missing = refl
  field-bare (one t) = bound-bare t
  field-bare (many ts) = trees-bare ts
  field-bare (statements ts) = trees-bare ts

  trees-bare : (ts : Trees) → bound_in_trees (bare_trees ts) ≡ map bare (bound_in_trees ts)
  trees-bare empty = refl
  trees-bare (t before ts) = (λ i. bound-bare t i ++ trees-bare ts i) ∙ sym (map-append bare (bound_identifiers t) (bound_in_trees ts))

declarator-bare : (t : Tree) → names_of_declarator (bare t) ≡ map bare (names_of_declarator t)
declarator-bare (node VariableDeclarator l done) = refl
declarator-bare (node VariableDeclarator l (one p then fs)) = bound-bare p
declarator-bare (node VariableDeclarator l (missing then fs)) = refl
declarator-bare (node VariableDeclarator l (many ts then fs)) = refl
declarator-bare (node VariableDeclarator l (statements ts then fs)) = refl
declarator-bare (node _ l fs) = refl

pub declarators-bare : (ds : Trees) → names_of_declarators (bare_trees ds) ≡ map bare (names_of_declarators ds)
declarators-bare empty = refl
declarators-bare (d before ds) = (λ i. declarator-bare d i ++ declarators-bare ds i) ∙ sym (map-append bare (names_of_declarator d) (names_of_declarators ds))

names-bare : (k : Label) (ds : Trees) (fs : Fields) → names_of_declaration (bare (node VariableDeclaration k (many ds then fs))) ≡ map bare (names_of_declaration (node VariableDeclaration k (many ds then fs)))
names-bare k ds done = declarators-bare ds
names-bare k ds (f then fs) = refl

-- WHICH EXPORTS

split-bare : (t : Tree) → is_split (bare t) ≡ is_split t
split-bare (node ExportNamedDeclaration l (one (node k m fs) then many empty then missing then many empty then done)) = declaration-bare k m fs
split-bare t = refl

-- WHAT IS MADE, without ids and marks

abbrev blankly : Makes
blankly = record { again = λ x. node Identifier (made (Some (text_of x) ∷ []) []) done; text = λ x. node Identifier (made (Some (text_of x) ∷ []) []) done; label = λ x. made [] [] }

record IsBlank (m : Makes) : Type 0 where
  again : (x : Tree) → bare (m.again x) ≡ blankly.again x
  text : (x : Tree) → bare (m.text x) ≡ blankly.text x
  label : (x : Tree) → bare_label (m.label x) ≡ made [] []

plainly-blank : IsBlank plainly
plainly-blank = record { again = λ x. refl; text = λ x. refl; label = λ x. refl }

symbols-blank : IsBlank with_symbols
symbols-blank = record { again = λ x. refl; text = λ x. refl; label = λ x. refl }

text-bare : (x : Tree) → text_of (bare x) ≡ text_of x
text-bare (node k l fs) = refl

module _ (m : Makes) (b : IsBlank m) where
  specifier-bare : (x : Tree) → bare (specifier m x) ≡ specifier blankly (bare x)
  specifier-bare x = (λ i. node ExportSpecifier (b.label x i) (one (b.again x i) then one (b.text x i) then done)) ∙ (λ i. node ExportSpecifier (made [] []) (one (node Identifier (made (Some (sym (text-bare x) i) ∷ []) []) done) then one (node Identifier (made (Some (sym (text-bare x) i) ∷ []) []) done) then done))

  specifiers-bare : (xs : List Tree) → bare_trees (specifiers m xs) ≡ specifiers blankly (map bare xs)
  specifiers-bare [] = refl
  specifiers-bare (x ∷ xs) = λ i. specifier-bare x i before specifiers-bare xs i

  -- the statements that an export becomes
  before-bare : (t : Tree) → IsExport t → (us : Trees) → bare_trees (split_before m t us) ≡ split_before blankly (bare t) (bare_trees us)
  before-bare t (is_export l k ds fs) us =
      let it = node VariableDeclaration k (many ds then fs) in
      λ i. bare it before node ExportNamedDeclaration (b.label t i) (missing then many ((specifiers-bare (names_of_declaration it) ∙ ap (specifiers blankly) (sym (names-bare k ds fs))) i) then missing then many empty then done) before bare_trees us

  list-bare : (ts : Trees) → bare_trees (split_list m ts) ≡ split_list blankly (bare_trees ts)
  list-bare empty = refl
  list-bare (t before ts) = at (is_split t) refl (list-bare ts) ∙ (λ i. if sym (split-bare t) i then split_before blankly (bare t) (split_list blankly (bare_trees ts)) else bare t before split_list blankly (bare_trees ts))
    where
      at : (v : Bool) → is_split t ≡ v → bare_trees (split_list m ts) ≡ split_list blankly (bare_trees ts) → bare_trees (if is_split t then split_before m t (split_list m ts) else t before split_list m ts) ≡ (if is_split t then split_before blankly (bare t) (split_list blankly (bare_trees ts)) else bare t before split_list blankly (bare_trees ts))
      at true e rest =
          (λ i. bare_trees (if e i then split_before m t (split_list m ts) else t before split_list m ts))
          ∙ before-bare t (export-is t e) (split_list m ts)
          ∙ (λ i. split_before blankly (bare t) (rest i))
          ∙ (λ i. if sym e i then split_before blankly (bare t) (split_list blankly (bare_trees ts)) else bare t before split_list blankly (bare_trees ts))
      at false e rest =
          (λ i. bare_trees (if e i then split_before m t (split_list m ts) else t before split_list m ts))
          ∙ (λ i. bare t before rest i)
          ∙ (λ i. if sym e i then split_before blankly (bare t) (split_list blankly (bare_trees ts)) else bare t before split_list blankly (bare_trees ts))

-- THE PROGRAM

pub data IsListed : Tree → Type 0 where
  is_listed : (l : Label) (ds ts : Trees) → IsListed (node Program l (many ds then statements ts then done))

program-bare : (m : Makes) → IsBlank m → (t : Tree) → IsListed t → bare (split m t) ≡ split blankly (bare t)
program-bare m b t (is_listed l ds ts) = λ i. node Program (bare_label l) (many (bare_trees ds) then statements (list-bare m b ts i) then done)

pub splits-alike : (t u : Tree) → IsListed t → IsListed u → bare t ≡ bare u → bare (split with_symbols t) ≡ bare (split plainly u)
splits-alike t u h k e = program-bare with_symbols symbols-blank t h ∙ ap (split blankly) e ∙ sym (program-bare plainly plainly-blank u k)
