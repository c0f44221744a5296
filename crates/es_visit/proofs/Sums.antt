-- Sums over the fields of a node and over a list.
use Rattle.std.proofs.Common.{◌≡◌, ℕ, ◌+◌, ◌≤◌, ◌==◌, List, [], ◌∷◌, sum_by, refl, arith, zero, suc}
use Rattle.std.specs.Prelude.{if◌then◌else◌}
use Rattle.std.proofs.lemmas.List.Sums.{sum_by-cons}
use Rattle.es_tree.specs.Tree.{Tree, trees}
use Rattle.es_tree.specs.Views.{plain_field, plain_fields}
use Rattle.es_tree.specs.declared.ast_type.AstType.{AstType}
use Rattle.es_tree.specs.declared.ast_type.AstType.TheVariants.{FunctionDeclaration, FunctionExpression, ArrowFunctionExpression}
use Rattle.es_tree.specs.declared.node.Field.{Field as NodeField}
use Rattle.es_visit.specs.Counts.{Measure, total, total_in, total_at, total_among, own_parameters, parameters_at, parameters_before}

-- SUMS

abbrev pub total_of : Measure → NodeField → ℕ
total_of m f = total_at m (plain_field f)

pub fields_total-sum : (m : Measure) (xs : List NodeField) → total_in m (plain_fields xs) ≡ sum_by (total_of m) xs
fields_total-sum m [] = refl
fields_total-sum m (x ∷ xs) = omega (arith, fields_total-sum m xs, sum_by-cons (total_of m) x xs)

pub trees_total-sum : (m : Measure) (xs : List Tree) → total_among m (trees xs) ≡ sum_by (total m) xs
trees_total-sum m [] = refl
trees_total-sum m (x ∷ xs) = omega (arith, trees_total-sum m xs, sum_by-cons (total m) x xs)

-- PARAMETERS

-- for each kind its one list of parameters at most
abbrev position : AstType → ℕ
position FunctionDeclaration = 1
position FunctionExpression = 1
position _ = 0

itself : (n : ℕ) → n ≤ n
itself n = omega arith

nothing : (n : ℕ) → 0 ≤ n
nothing n = omega arith

at_position : (n : ℕ) (k : AstType) (i : ℕ) → parameters_at n k i ≤ (if i == position k then own_parameters n k else 0)
at_position n FunctionDeclaration i = itself _
at_position n FunctionExpression i = itself _
at_position n ArrowFunctionExpression i = itself _
at_position n _ i = nothing _

abbrev placed : ℕ → ℕ → ℕ → ℕ
placed p m zero = 0
placed p m (suc i) = (if i == p then m else 0) + placed p m i

placed_before : (p m i : ℕ) → i ≤ p → placed p m i ≡ 0
placed_before p m zero h = refl
placed_before p m (suc i) h = grind (arith, placed_before p m i (omega (arith, h)))

placed_within : (p m i : ℕ) → placed p m i ≤ m
placed_within p m zero = nothing m
placed_within p m (suc i) = grind (arith, placed_before p m i, placed_within p m i)

before_placed : (n : ℕ) (k : AstType) (i : ℕ) → parameters_before n k i ≤ placed (position k) (own_parameters n k) i
before_placed n k zero = nothing 0
before_placed n k (suc i) = omega (arith, before_placed n k i, at_position n k i)

pub parameters-within : (n : ℕ) (k : AstType) (i : ℕ) → parameters_before n k i ≤ own_parameters n k
parameters-within n k i = omega (arith, before_placed n k i, placed_within (position k) (own_parameters n k) i)
