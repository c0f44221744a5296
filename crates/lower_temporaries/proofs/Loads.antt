-- Loads of what stands below parentheses, and of lists.
use Rattle.std.proofs.Common.{◌≡◌, ◌+◌, ◌≤◌, List, [], ◌∷◌, ◌++◌, arith}
use Rattle.es_tree.specs.Parens.{without_parens}
use Rattle.es_tree.specs.Tree.{Tree, node, done, ◌then◌, missing, one, many, statements, trees}
use Rattle.es_tree.specs.declared.ast_type.AstType.TheVariants.{ParenthesizedExpression}
use Rattle.es_traverse.specs.Loads.{load, trees_load}

pub stripped_load : (t : Tree) → load (without_parens t) ≤ load t
stripped_load (node ParenthesizedExpression l (one t then fs)) = let h = stripped_load t in omega arith
stripped_load (node ParenthesizedExpression l done) = omega arith
stripped_load (node ParenthesizedExpression l (missing then fs)) = omega arith
stripped_load (node ParenthesizedExpression l (many ts then fs)) = omega arith
stripped_load (node ParenthesizedExpression l (statements ts then fs)) = omega arith
stripped_load (node _ l fs) = omega arith

pub trees_load-append : (ts us : List Tree) → trees_load (trees (ts ++ us)) ≡ trees_load (trees ts) + trees_load (trees us)
trees_load-append [] us = omega arith
trees_load-append (t ∷ ts) us = let h = trees_load-append ts us in omega (arith, h)
