-- A program, with what its statements leave outside and the `try` in the place of them.
use Rattle.std.proofs.Common.{◌≡◌, ◌∙◌, ◌++◌, ◌∷◌, List, [], ap}
use Rattle.es_tree.specs.Tree.{Tree, node, Label, done, ◌then◌, many, statements, Trees, empty, ◌before◌, trees}
use Rattle.es_tree.specs.Words.{Text}
use Rattle.es_tree.specs.declared.ast_type.AstType.TheVariants.{Program}
use Rattle.es_steps.specs.Nodes.{joined_trees}
use Rattle.es_using_modules.specs.ModuleTops.{inside, outside, topped}
use Rattle.es_using_rows.specs.Used.{tried}
use Rattle.lower_export_splits.proofs.Lists.{joined-push}
use Rattle.lower_using.specs.Parts.{of_id}
use Rattle.lower_using.specs.Parts as using
use Rattle.lower_using_modules.specs.Parts.{making}

pub topped-by : (x c : Text) (p : Tree) (l : Label) (ds ts moved : Trees) (left body : List Tree) (t : Tree) → node Program l (many ds then statements ts then done) ≡ p → trees left ≡ outside (making x c) ts → moved ≡ inside (making x c) ts →
    t ≡ tried (using.making c) 0 (of_id l.id) moved → body ≡ left ++ t ∷ [] → node Program l (many ds then statements (trees body) then done) ≡ topped (making x c) p
topped-by x c p l ds ts moved left body t is out in_try says push =
    let last = says ∙ ap (tried (using.making c) 0 (of_id l.id)) in_try in
    let all = ap trees push ∙ (joined-push left t ∙ (ap (λ us. joined_trees us (t before empty)) out ∙ ap (λ u. joined_trees (outside (making x c) ts) (u before empty)) last)) in
    ap (λ us. node Program l (many ds then statements us then done)) all ∙ ap (topped (making x c)) is
