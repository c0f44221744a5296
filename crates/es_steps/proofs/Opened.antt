-- A tree that is opened, with nothing pending, is finished as it was.
use Rattle.std.proofs.Common.{◌≡◌, ℕ, suc, refl, ◌∙◌, ap}
use Rattle.std.specs.Prelude.{Bool, true, false, None, if◌then◌else◌}
use Rattle.es_tree.specs.Tree.{Tree, node, Fields, done, ◌then◌, Field, missing, one, many, statements, Trees, empty, ◌before◌}
use Rattle.es_steps.specs.Nodes.{joined_trees}
use Rattle.es_steps.specs.Open.{followed_by, OpenTrees, nothing_pending, no_additions, is_import, whole_list, Open, child, body, is_body, is_statement_body, opened, opened_fields, opened_field, opened_trees, finished, finished_fields, finished_field, finished_trees}

pub written-none : (ts : Trees) → whole_list nothing_pending None no_additions ts ≡ ts
written-none empty = refl
written-none (t before ts) = at (is_import t) (written-none ts)
  where
    at : (v : Bool) → whole_list nothing_pending None no_additions ts ≡ ts → (if v then t before whole_list nothing_pending None no_additions ts else t before ts) ≡ t before ts
    at true rest = λ i. t before rest i
    at false rest = refl

either_body : (b : Bool) (t : Open) → finished_field (if b then child t else body nothing_pending t) ≡ one (finished t)
either_body true t = refl
either_body false t = refl

mutual
  pub finished-opened : (t : Tree) → finished (opened t) ≡ t
  finished-opened (node k l fs) = λ i. node k l (finished-fields (is_body k) fs i)

  pub finished-fields : (bs : ℕ → Bool) (fs : Fields) → finished_fields (opened_fields bs fs) ≡ fs
  finished-fields bs done = refl
  finished-fields bs (f then fs) = λ i. finished-field (bs 0) f i then finished-fields (λ i. bs (suc i)) fs i

  finished-field : (b : Bool) (f : Field) → finished_field (opened_field b f) ≡ f
  finished-field true missing = refl
  finished-field false missing = refl
  finished-field true (one t) = either_body (is_statement_body t) (opened t) ∙ (λ i. one (finished-opened t i))
  finished-field false (one t) = λ i. one (finished-opened t i)
  finished-field true (many ts) = λ i. many (finished-trees ts i)
  finished-field false (many ts) = λ i. many (finished-trees ts i)
  finished-field true (statements ts) = ap statements (written-none (finished_trees (opened_trees ts)) ∙ finished-trees ts)
  finished-field false (statements ts) = ap statements (written-none (finished_trees (opened_trees ts)) ∙ finished-trees ts)

  pub finished-trees : (ts : Trees) → finished_trees (opened_trees ts) ≡ ts
  finished-trees empty = refl
  finished-trees (t before ts) = λ i. finished-opened t i before finished-trees ts i

pub finished-followed : (us : Trees) (ts : OpenTrees) → finished_trees (followed_by (opened_trees us) ts) ≡ joined_trees us (finished_trees ts)
finished-followed empty ts = refl
finished-followed (u before us) ts = λ i. finished-opened u i before finished-followed us ts i
