-- The rule of nullish coalescing, and the names in use after some were taken.
use Rattle.std.specs.Prelude.{◌≡◌, Bool, true, false, List, [], ◌∷◌, Some, codes}
use Rattle.es_tree.specs.Words.{Text}
use Rattle.es_tree.specs.Names.{first_text}
use Rattle.es_tree.specs.Fresh.{node_base, IsFreshName, also}
use Rattle.es_tree.specs.Tree.{Tree, node, Label, done, ◌then◌, one}
use Rattle.es_tree.specs.declared.ast_type.AstType.TheVariants.{ThisExpression, Identifier, LogicalExpression}
use Rattle.es_runs.specs.Alike.{Need}
use Rattle.es_runs.specs.Rules.{tested, tested_by}

-- whether a left side is read twice as it stands: `this`, and a name of these
abbrev pub reads_again : (Text → Bool) → Tree → Bool
reads_again steady (node ThisExpression l fs) = true
reads_again steady (node Identifier l fs) = steady (first_text l.texts)
reads_again steady _ = false

-- Nullish coalescing (ECMA-262, 13.13). `l ?? r` becomes `(x = l) !== null && x !== void 0 ? x : r`, with x the first free
-- name for the base of l; and `l !== null && l !== void 0 ? l : r` where l can be read again.
pub data NullishCoalescingRule (steady in_use : Text → Bool) : List Text → Need → Tree → Tree → Type 0 where
  with_temporary : {n : Need} {m : Label} {l r : Tree} {x : Text} → m.texts ≡ Some (codes "??") ∷ [] → reads_again steady l ≡ false → IsFreshName in_use (node_base l) x →
      NullishCoalescingRule steady in_use (x ∷ []) n (node LogicalExpression m (one l then one r then done)) (tested_by m x l r)
  reading_again : {n : Need} {m : Label} {l r : Tree} → m.texts ≡ Some (codes "??") ∷ [] → reads_again steady l ≡ true →
      NullishCoalescingRule steady in_use [] n (node LogicalExpression m (one l then one r then done)) (tested m l l r)

-- these names more are in use
abbrev pub also_all : List Text → (Text → Bool) → Text → Bool
also_all [] in_use y = in_use y
also_all (x ∷ xs) in_use y = also_all xs (also x in_use) y
