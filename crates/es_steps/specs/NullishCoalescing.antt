-- Nullish coalescing (ECMA-262, 13.13): `f() ?? r` becomes `(_f = f()) !== null && _f !== void 0 ? _f : r`, and `x ?? r` becomes
-- `x !== null && x !== void 0 ? x : r` where x is bound and nothing writes it.
use Rattle.std.specs.Prelude.{◌≡◌, ℕ, ◌&&◌, Bool, true, false, List, [], ◌∷◌, Some, codes}
use Rattle.es_tree.specs.Fresh.{node_base}
use Rattle.es_tree.specs.Tree.{Tree, node, Label, done, ◌then◌, one}
use Rattle.es_tree.specs.declared.ast_type.AstType.TheVariants.{Identifier, LogicalExpression, ThisExpression}
use Rattle.es_runs.specs.Duplication.{has_no_fields}
use Rattle.es_runs.specs.Rules.{assign_node, tested}
use Rattle.es_resolution.specs.Declarations.{Bound, symbol_of}
use Rattle.es_steps.specs.Duplication.{IsNext, is_among_symbols}
use Rattle.es_steps.specs.Nodes.{identifier}
use Rattle.es_steps.specs.Steps.{Whole, Site}

-- whether a left side is read twice as it stands: `this`, and a name of these symbols
abbrev pub reads_again : (ℕ → Bool) → Tree → Bool
reads_again steady (node ThisExpression l fs) = has_no_fields fs
reads_again steady (node Identifier l fs) = is_among_symbols steady (symbol_of l) && has_no_fields fs
reads_again steady _ = false

-- `(x = l) !== null && x !== void 0 ? x : r`
abbrev pub tested_by : Label → Bound → Tree → Tree → Tree
tested_by m x l r = tested m (assign_node (identifier x) l) (identifier x) r

pub data NullishCoalescingRule (n : Site) (w : Whole) : List Bound → Tree → Tree → Type 0 where
  with_temporary : {m : Label} {l r : Tree} {x : Bound} → m.texts ≡ Some (codes "??") ∷ [] → reads_again w.steady l ≡ false → IsNext w (node_base l) x →
      NullishCoalescingRule n w (x ∷ []) (node LogicalExpression m (one l then one r then done)) (tested_by m x l r)
  reading_again : {m : Label} {l r : Tree} → m.texts ≡ Some (codes "??") ∷ [] → reads_again w.steady l ≡ true →
      NullishCoalescingRule n w [] (node LogicalExpression m (one l then one r then done)) (tested m l l r)
