-- Object spread (ECMA-262, 13.2.5) is copied by a helper: `({ a, ...b, c })` becomes
-- `babelHelpers.objectSpread2(babelHelpers.objectSpread2({ a }, b), {}, { c })`. No name is made or moved.
use Rattle.std.specs.Prelude.{◌≡◌, Bool, true, false, List, [], ◌∷◌, ◌++◌, Option, Some, None, codes}
use Rattle.es_tree.specs.Constructs.{any_kind, is_spread}
use Rattle.es_tree.specs.declared.ast_type.AstType.TheVariants.{ObjectExpression, SpreadElement}
use Rattle.es_tree.specs.Tree.{Tree, node, Label, done, ◌then◌, one, many, Trees, empty, ◌before◌, kind_of}
use Rattle.es_semantic.specs.RolesOf.{reads}
use Rattle.es_resolution.specs.Declarations.{Bound, declared_among}
use Rattle.es_steps.specs.Nodes.{placed, call_node, object_node}
use Rattle.es_steps.specs.ObjectRest.{helper_node}
use Rattle.es_steps.specs.Steps.{Whole, Site}

-- the copy of e, after the copy so far and the properties before it
abbrev pub copied : Tree → Option Tree → List Tree → Tree → Tree
copied f None ps e = call_node f (object_node ps ∷ e ∷ [])
copied f (Some c) [] e = call_node f (c ∷ e ∷ [])
copied f (Some c) (p ∷ ps) e = call_node f (c ∷ object_node [] ∷ object_node (p ∷ ps) ∷ e ∷ [])

-- the properties after the last spread
abbrev pub last_copied : Tree → Option Tree → List Tree → Tree
last_copied f None ps = object_node ps
last_copied f (Some c) [] = c
last_copied f (Some c) (p ∷ ps) = call_node f (c ∷ object_node [] ∷ object_node (p ∷ ps) ∷ [])

-- what comes for these properties, after the copy so far and the properties since the last spread
pub data Copies (f : Tree) : Option Tree → List Tree → Trees → Tree → Type 0 where
  no_more : {c : Option Tree} {ps : List Tree} → Copies f c ps empty (last_copied f c ps)
  copies : {c : Option Tree} {ps : List Tree} {l : Label} {e u : Tree} {ts : Trees} → Copies f (Some (copied f c ps e)) [] ts u → Copies f c ps (node SpreadElement l (one e then done) before ts) u
  keeps : {c : Option Tree} {ps : List Tree} {t u : Tree} {ts : Trees} → is_spread (kind_of t) ≡ false → Copies f c (ps ++ t ∷ []) ts u → Copies f c ps (t before ts) u

pub data SpreadRule (n : Site) (w : Whole) : List Bound → Tree → Tree → Type 0 where
  spreads : {m : Label} {ps : Trees} {u : Tree} → n.names.scope (codes "babelHelpers") ≡ None → w.in_use (codes "babelHelpers") ≡ true → any_kind is_spread ps ≡ true → ((v : Bool) → declared_among v reads ps ≡ []) → Copies (helper_node (codes "objectSpread2")) None [] ps u →
      SpreadRule n w [] (node ObjectExpression m (many ps then done)) (placed m u)
