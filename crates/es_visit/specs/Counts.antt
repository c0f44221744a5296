-- Sums over the nodes and the lists of a tree, and the most calls of hooks that a visit makes there.
use Rattle.std.specs.Prelude.{ℕ, zero, suc, ◌+◌, ◌==◌, if◌then◌else◌}
use Rattle.es_tree.specs.declared.ast_type.AstType.{AstType}
use Rattle.es_tree.specs.declared.ast_type.AstType.TheVariants.{FunctionDeclaration, FunctionExpression, ArrowFunctionExpression}
use Rattle.es_tree.specs.Tree.{Tree, node, Fields, done, ◌then◌, Field, missing, one, many, statements, Trees, empty, ◌before◌}
use Rattle.es_visit.specs.declared.hook.Hook.{Hook}
use Rattle.es_visit.specs.declared.hook.Hook.TheVariants.{Statements, FormalParameters}

-- What is summed: so much for the node of an id, for each statement list, and for the parameters of each function or arrow.
pub record Measure : Type 0 where
  pub node : ℕ → ℕ
  pub list : ℕ
  pub parameters : ℕ

-- so much where a node of this kind has parameters
abbrev pub own_parameters : ℕ → AstType → ℕ
own_parameters n FunctionDeclaration = n
own_parameters n FunctionExpression = n
own_parameters n ArrowFunctionExpression = n
own_parameters n k = 0

-- so much where they stand in this field: the second of a function, the first of an arrow
abbrev pub parameters_at : ℕ → AstType → ℕ → ℕ
parameters_at n FunctionDeclaration i = if i == 1 then n else 0
parameters_at n FunctionExpression i = if i == 1 then n else 0
parameters_at n ArrowFunctionExpression i = if i == 0 then n else 0
parameters_at n k i = 0

-- the sum over a tree
abbrev mutual
  pub total : Measure → Tree → ℕ
  total m (node k l fs) = m.node l.id + own_parameters m.parameters k + total_in m fs

  pub total_in : Measure → Fields → ℕ
  total_in m done = 0
  total_in m (x then xs) = total_at m x + total_in m xs

  pub total_at : Measure → Field → ℕ
  total_at m missing = 0
  total_at m (one t) = total m t
  total_at m (many ts) = total_among m ts
  total_at m (statements ts) = m.list + total_among m ts

  pub total_among : Measure → Trees → ℕ
  total_among m empty = 0
  total_among m (t before ts) = total m t + total_among m ts

-- one for this id, and nothing for the others
abbrev pub just : ℕ → ℕ → ℕ
just i j = if i == j then 1 else 0

-- one for each node of this id
abbrev pub nodes_of : ℕ → Measure
nodes_of i = record { node = just i; list = 0; parameters = 0 }

-- one for each place that may get this enter hook
abbrev pub places_of : Hook → Measure
places_of Statements = record { node = λ i. 0; list = 1; parameters = 0 }
places_of FormalParameters = record { node = λ i. 0; list = 0; parameters = 1 }
places_of h = record { node = λ i. 1; list = 0; parameters = 0 }

-- The most hooks that a visit calls: at a node two of its place as the body of an arrow, two of its sort and two of its
-- kind, and two at each statement list and at each list of parameters.
abbrev pub all_hooks : Measure
all_hooks = record { node = λ i. 6; list = 2; parameters = 2 }

abbrev pub hooks_in : Tree → ℕ
hooks_in t = total all_hooks t

abbrev pub hooks_in_trees : Trees → ℕ
hooks_in_trees ts = total_among all_hooks ts

-- so much for those in the first fields of a node
abbrev pub parameters_before : ℕ → AstType → ℕ → ℕ
parameters_before n k zero = 0
parameters_before n k (suc i) = parameters_at n k i + parameters_before n k i
