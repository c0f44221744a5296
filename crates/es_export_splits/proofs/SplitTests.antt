-- A test that neither exports nor names pass is passed by a node exactly where it was before an export is split: what is made are such nodes alone.
use Rattle.std.proofs.Common.{◌≡◌, ◌∙◌, refl, ap, sym, List, [], ◌∷◌}
use Rattle.std.specs.Prelude.{Bool, true, false, ◌||◌, if◌then◌else◌}
use Rattle.std.proofs.lemmas.Bool.{or_from}
use Rattle.es_tree.specs.Tree.{Tree, node, Label, Fields, done, ◌then◌, missing, one, many, statements, Trees, empty, ◌before◌}
use Rattle.es_tree.specs.Walks.{any_in_fields, any_in_trees, any_node}
use Rattle.es_tree.specs.declared.ast_type.AstType.{AstType}
use Rattle.es_tree.specs.declared.ast_type.AstType.TheVariants.{ExportNamedDeclaration, Program}
use Rattle.es_export_splits.specs.Laws.{IsElsewhere, LawElsewhere}
use Rattle.es_export_splits.specs.Splits.{export_of, is_split, names_of_declaration, plainly, specifier, specifiers, split, split_before, split_list}
use Rattle.es_export_splits.proofs.SplitStays.{Listed, SplitExport, listed, split-export}
use Rattle.es_export_splits.proofs.SplitStays.Listed.{lists, others}
use Rattle.es_export_splits.proofs.SplitStays.SplitExport.{exports}

or-false : (b : Bool) → (b || false) ≡ b
or-false true = refl
or-false false = refl

module _ (q : AstType → Label → Fields → Bool) (e : IsElsewhere q) where
  -- WHAT IS MADE passes it nowhere

  specifier-none : (x : Tree) → any_node q (specifier plainly x) ≡ false
  specifier-none x =
      let name : any_node q (plainly.again x) ≡ false = or_from _ false (e.names _ done) refl in
      or_from _ _ (e.specifiers _ _) (or_from _ _ name (or_from _ false name refl))

  specifiers-none : (xs : List Tree) → any_in_trees q (specifiers plainly xs) ≡ false
  specifiers-none [] = refl
  specifiers-none (x ∷ xs) = or_from (any_node q (specifier plainly x)) (any_in_trees q (specifiers plainly xs)) (specifier-none x) (specifiers-none xs)

  export-none : (t : Tree) (xs : List Tree) → any_node q (export_of plainly t xs) ≡ false
  export-none t xs = or_from _ _ (e.exports _ _) (or_from _ false (specifiers-none xs) refl)

  -- LISTS

  before-same : {t : Tree} (us : Trees) → SplitExport t → any_in_trees q (split_before plainly t us) ≡ any_in_trees q (t before us)
  before-same us (exports l d rest) =
      let gs : Fields = one d then many empty then missing then many empty then done in
      let own : any_node q (node ExportNamedDeclaration l gs) ≡ any_node q d = ap (λ (b : Bool). b || any_in_fields q gs) (e.exports l gs) ∙ or-false (any_node q d) in
      ap (λ (b : Bool). any_node q d || (b || any_in_trees q us)) (export-none (node ExportNamedDeclaration l gs) (names_of_declaration d)) ∙ ap (λ (b : Bool). b || any_in_trees q us) (sym own)

  list-same : (ts : Trees) → any_in_trees q (split_list plainly ts) ≡ any_in_trees q ts
  list-same empty = refl
  list-same (t before ts) = at (is_split t) refl ∙ ap (λ (b : Bool). any_node q t || b) (list-same ts)
    where
      at : (b : Bool) → is_split t ≡ b → any_in_trees q (if b then split_before plainly t (split_list plainly ts) else t before split_list plainly ts) ≡ (any_node q t || any_in_trees q (split_list plainly ts))
      at true h = before-same (split_list plainly ts) (split-export t h)
      at false h = refl

  -- A PROGRAM
  program-same : {p : Tree} → Listed p → any_node q (split plainly p) ≡ any_node q p
  program-same (lists l ds ts) =
      ap (λ (b : Bool). b || (any_in_trees q ds || (any_in_trees q (split_list plainly ts) || false))) (e.programs l ds (split_list plainly ts) ts)
      ∙ ap (λ (b : Bool). q Program l (many ds then statements ts then done) || (any_in_trees q ds || (b || false))) (list-same ts)
  program-same (others same) = ap (any_node q) (same plainly)

pub law_elsewhere_proof : LawElsewhere
law_elsewhere_proof q p e = program-same q e (listed p)
