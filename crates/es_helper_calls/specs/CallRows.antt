-- A helper is called by a name that isn't empty, or handed on by one, and such a name stands for a list of texts: as rules of nodes.
use Rattle.std.specs.Prelude.{◌≡◌, ◌==◌, Some, None, true, false, length}
use Rattle.es_tree.specs.Names.{flag_at}
use Rattle.es_tree.specs.Tree.{Tree, node, Label, done, ◌then◌, one, many, Trees, empty, ◌before◌}
use Rattle.es_tree.specs.declared.ast_type.AstType.TheVariants.{CallExpression}
use Rattle.es_tree.specs.declared.helper.Helper.{Helper}
use Rattle.es_resolution.specs.Declarations.{Bound}
use Rattle.es_steps.specs.Nodes.{identifier}
use Rattle.es_steps.specs.Steps.{Ledger, Site, Spot, at_node}
use Rattle.es_helper_calls.specs.HelperCalls.{helper_of, passed_helper}
use Rattle.es_helper_calls.specs.TextLists.{is_text_list}

pub data CallRow : Site → Ledger → Spot → Ledger → Spot → Type 0 where
  -- `babelHelpers.objectSpread2({}, a)` becomes `_objectSpread({}, a)`
  calls : {n : Site} {s : Ledger} {l : Label} {f : Tree} {ts : Trees} {h : Helper} (x : Bound) → flag_at 0 l.flags ≡ false → helper_of f ≡ Some h → (length x.name == 0) ≡ false →
      CallRow n s (at_node (node CallExpression l (one f then many ts then done))) s (at_node (node CallExpression l (one (identifier x) then many ts then done)))
  -- `[k].map(babelHelpers.toPropertyKey)` becomes `[k].map(_toPropertyKey)`
  passes : {n : Site} {s : Ledger} {l : Label} {f t : Tree} {h : Helper} (x : Bound) → flag_at 0 l.flags ≡ false → helper_of f ≡ None → passed_helper (many (t before empty) then done) ≡ Some h → (length x.name == 0) ≡ false →
      CallRow n s (at_node (node CallExpression l (one f then many (t before empty) then done))) s (at_node (node CallExpression l (one f then many (identifier x before empty) then done)))
  -- `f(a, ["b"])` becomes `f(a, _excluded)`
  lists : {n : Site} {s : Ledger} {l : Label} {f t ks : Tree} (x : Bound) → is_text_list ks ≡ true → (length x.name == 0) ≡ false →
      CallRow n s (at_node (node CallExpression l (one f then many (t before ks before empty) then done))) s (at_node (node CallExpression l (one f then many (t before identifier x before empty) then done)))
