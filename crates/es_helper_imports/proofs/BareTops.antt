-- Statements at the top of a program, without ids and marks.
use Rattle.std.proofs.Common.{◌≡◌, ◌∙◌, refl}
use Rattle.std.specs.Prelude.{Bool, true, false, if◌then◌else◌}
use Rattle.es_tree.specs.Bare.{bare, bare_field, bare_fields, bare_label, bare_trees}
use Rattle.es_tree.specs.Tree.{Tree, node, ◌then◌, statements, Trees, empty, ◌before◌}
use Rattle.es_steps.specs.Nodes.{joined_trees}
use Rattle.es_steps.specs.Open.{after_imports, is_import}
use Rattle.es_top_imports.specs.TopImports.{with_top}

pub bare-joined : (xs ys : Trees) → bare_trees (joined_trees xs ys) ≡ joined_trees (bare_trees xs) (bare_trees ys)
bare-joined empty ys = refl
bare-joined (x before xs) ys = λ i. bare x before bare-joined xs ys i

bare-import : (t : Tree) → is_import t ≡ is_import (bare t)
bare-import (node k l fs) = refl

pub bare-after : (news ts : Trees) → bare_trees (after_imports news ts) ≡ after_imports (bare_trees news) (bare_trees ts)
bare-after news empty = refl
bare-after news (t before ts) = at (is_import t) (bare-after news ts) ∙ (λ i. if bare-import t i then bare t before after_imports (bare_trees news) (bare_trees ts) else joined_trees (bare_trees news) (bare t before bare_trees ts))
  where
    at : (v : Bool) → bare_trees (after_imports news ts) ≡ after_imports (bare_trees news) (bare_trees ts) → bare_trees (if v then t before after_imports news ts else joined_trees news (t before ts)) ≡ (if v then bare t before after_imports (bare_trees news) (bare_trees ts) else joined_trees (bare_trees news) (bare t before bare_trees ts))
    at true rest = λ i. bare t before rest i
    at false rest = bare-joined news (t before ts)

pub bare-top : (news : Trees) (t : Tree) → bare (with_top news t) ≡ with_top (bare_trees news) (bare t)
bare-top news (node k l (f then (statements ts then fs))) = λ i. node k (bare_label l) (bare_field f then (statements (bare-after news ts i) then bare_fields fs))
bare-top news _ = refl
