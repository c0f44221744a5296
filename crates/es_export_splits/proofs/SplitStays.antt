-- The shape of an export that is split, and of a program whose list is walked; and where no such export stands, a program stays as it is.
use Rattle.std.proofs.Common.{◌≡◌, ◌∙◌, refl, ap}
use Rattle.std.specs.Prelude.{Bool, true, false, if◌then◌else◌}
use Rattle.std.proofs.lemmas.Bool.{or_parts}
use Rattle.es_tree.specs.Tree.{Tree, node, Label, Fields, done, ◌then◌, missing, one, many, statements, Trees, empty, ◌before◌}
use Rattle.es_tree.specs.declared.ast_type.AstType.TheVariants.{ExportNamedDeclaration, Program, VariableDeclaration}
use Rattle.es_rest_shapes.specs.RestShapes.{declares_rest}
use Rattle.es_export_splits.specs.Laws.{LawStays}
use Rattle.es_export_splits.specs.Splits.{Makes, has_split, is_split, some_split, split, split_before, split_list}

-- SHAPES

-- a declaration with an object rest
pub data RestDeclaration : Tree → Type 0 where
  declares : (l : Label) (ds : Trees) (fs : Fields) → RestDeclaration (node VariableDeclaration l (many ds then fs))

rest-declaration : (d : Tree) → declares_rest d ≡ true → RestDeclaration d
rest-declaration (node VariableDeclaration l (many ds then fs)) h = declares l ds fs
rest-declaration _ h = absurd (cc h)

pub data SplitExport : Tree → Type 0 where
  exports : (l : Label) (d : Tree) → RestDeclaration d → SplitExport (node ExportNamedDeclaration l (one d then many empty then missing then many empty then done))

pub split-export : (t : Tree) → is_split t ≡ true → SplitExport t
split-export (node ExportNamedDeclaration l (one d then many empty then missing then many empty then done)) h = exports l d (rest-declaration d h)
split-export _ h = absurd (cc h)

-- a program, or another tree, which stays
pub data Listed : Tree → Type 0 where
  lists : (l : Label) (ds ts : Trees) → Listed (node Program l (many ds then statements ts then done))
  others : {t : Tree} → ((m : Makes) → split m t ≡ t) → Listed t

pub listed : (t : Tree) → Listed t
listed (node Program l (many ds then statements ts then done)) = lists l ds ts
listed _ = others (λ m. refl)

-- WHERE NONE STANDS

module _ (m : Makes) where
  list-stays : (ts : Trees) → some_split ts ≡ false → split_list m ts ≡ ts
  list-stays empty h = refl
  list-stays (t before ts) h =
      let d = or_parts (is_split t) (some_split ts) h in
      ap (λ (b : Bool). if b then split_before m t (split_list m ts) else t before split_list m ts) d.0 ∙ ap (λ (us : Trees). t before us) (list-stays ts d.1)

  program-stays : {p : Tree} → Listed p → has_split p ≡ false → split m p ≡ p
  program-stays (lists l ds ts) h = ap (λ (us : Trees). node Program l (many ds then statements us then done)) (list-stays ts h)
  program-stays (others same) h = same m

pub law_stays_proof : LawStays
law_stays_proof m p h = program-stays m (listed p) h
