-- What a program becomes weighs no more than eight for each node of it: each name of an export that is split makes three nodes more, which weigh six, and is
-- a node itself, which weighs two.
use Rattle.std.proofs.Common.{◌≡◌, ◌≤◌, refl, ap, arith, List, [], ◌∷◌, length, length-append}
use Rattle.std.specs.Prelude.{Bool, true, false, ◌+◌, ◌*◌, if◌then◌else◌}
use Rattle.es_tree.specs.BoundNames.{bound_identifiers, bound_in_field, bound_in_fields, bound_in_first, bound_in_second, bound_in_trees}
use Rattle.es_tree.specs.Tree.{Tree, node, Fields, done, ◌then◌, Field, missing, one, many, statements, Trees, empty, ◌before◌, field_size, fields_size, tree_size, trees_size}
use Rattle.es_tree.specs.declared.ast_type.AstType.TheVariants.{ArrayPattern, AssignmentPattern, Identifier, ObjectPattern, PatternProperty, RestElement, VariableDeclaration, VariableDeclarator}
use Rattle.es_pattern_moves.specs.Weights.{weighed, weighed_among, weighed_by, weighed_in}
use Rattle.es_steps.specs.Nodes.{made}
use Rattle.es_pattern_moves.proofs.MovedSize.{tree-weighs}
use Rattle.es_export_splits.specs.Laws.{LawSplitWeighs}
use Rattle.es_export_splits.specs.Splits.{is_split, names_of_declaration, names_of_declarator, names_of_declarators, plainly, specifiers, split, split_before, split_list}
use Rattle.es_export_splits.proofs.SplitStays.{Listed, RestDeclaration, SplitExport, listed, split-export}
use Rattle.es_export_splits.proofs.SplitStays.Listed.{lists, others}
use Rattle.es_export_splits.proofs.SplitStays.RestDeclaration.{declares}
use Rattle.es_export_splits.proofs.SplitStays.SplitExport.{exports}

-- fields by themselves, beside which a pattern weighs all that a node may
fields-weigh : (fs : Fields) → weighed_in fs ≤ 7 * fields_size fs
fields-weigh fs = omega (arith, tree-weighs (node ObjectPattern (made [] []) fs))

-- BINDING PATTERNS, with what is made for their names

-- a node that binds nothing
none-bound : (t : Tree) → weighed t + 6 * length {A = Tree} [] ≤ 8 * tree_size t
none-bound t = omega (arith, tree-weighs t)

mutual
  pattern-weighs : (t : Tree) → weighed t + 6 * length (bound_identifiers t) ≤ 8 * tree_size t
  pattern-weighs (node Identifier l fs) = omega (arith, fields-weigh fs)
  pattern-weighs (node ObjectPattern l fs) = omega (arith, first-weighs fs)
  pattern-weighs (node PatternProperty l fs) = omega (arith, second-weighs fs)
  pattern-weighs (node ArrayPattern l fs) = omega (arith, all-weigh fs)
  pattern-weighs (node AssignmentPattern l fs) = omega (arith, first-weighs fs)
  pattern-weighs (node RestElement l fs) = omega (arith, first-weighs fs)
  pattern-weighs t = none-bound t

  all-weigh : (fs : Fields) → weighed_in fs + 6 * length (bound_in_fields fs) ≤ 8 * fields_size fs
  all-weigh done = omega arith
  all-weigh (f then fs) = omega (arith, length-append (bound_in_field f) (bound_in_fields fs), part-weighs f, all-weigh fs)

  first-weighs : (fs : Fields) → weighed_in fs + 6 * length (bound_in_first fs) ≤ 8 * fields_size fs
  first-weighs done = omega arith
  first-weighs (f then fs) = omega (arith, part-weighs f, fields-weigh fs)

  second-weighs : (fs : Fields) → weighed_in fs + 6 * length (bound_in_second fs) ≤ 8 * fields_size fs
  second-weighs done = omega arith
  second-weighs (f then fs) = omega (arith, fields-weigh (f then done), first-weighs fs)

  part-weighs : (f : Field) → weighed_by f + 6 * length (bound_in_field f) ≤ 8 * field_size f
  part-weighs missing = omega arith
  part-weighs (one t) = pattern-weighs t
  part-weighs (many ts) = parts-weigh ts
  part-weighs (statements ts) = parts-weigh ts

  parts-weigh : (ts : Trees) → weighed_among ts + 6 * length (bound_in_trees ts) ≤ 8 * trees_size ts
  parts-weigh empty = omega arith
  parts-weigh (t before ts) = omega (arith, length-append (bound_identifiers t) (bound_in_trees ts), pattern-weighs t, parts-weigh ts)

-- DECLARATIONS

declarator-weighs : (d : Tree) → weighed d + 6 * length (names_of_declarator d) ≤ 8 * tree_size d
declarator-weighs (node VariableDeclarator l (one p then fs)) = omega (arith, pattern-weighs p, fields-weigh fs)
declarator-weighs d = none-bound d

declarators-weigh : (ds : Trees) → weighed_among ds + 6 * length (names_of_declarators ds) ≤ 8 * trees_size ds
declarators-weigh empty = omega arith
declarators-weigh (d before ds) = omega (arith, length-append (names_of_declarator d) (names_of_declarators ds), declarator-weighs d, declarators-weigh ds)

declaration-weighs : {d : Tree} → RestDeclaration d → weighed d + 6 * length (names_of_declaration d) ≤ 8 * tree_size d
declaration-weighs (declares l ds done) = omega (arith, declarators-weigh ds)
declaration-weighs (declares l ds (f then fs)) = none-bound (node VariableDeclaration l (many ds then f then fs))

-- WHAT IS MADE

pub specifiers-weigh : (xs : List Tree) → weighed_among (specifiers plainly xs) ≡ 6 * length xs
specifiers-weigh [] = refl
specifiers-weigh (x ∷ xs) = omega (arith, specifiers-weigh xs)

-- LISTS

before-weighs : {t : Tree} (us : Trees) → SplitExport t → weighed_among (split_before plainly t us) ≤ 8 * tree_size t + weighed_among us
before-weighs us (exports l d rest) = omega (arith, declaration-weighs rest, specifiers-weigh (names_of_declaration d))

list-weighs : (ts : Trees) → weighed_among (split_list plainly ts) ≤ 8 * trees_size ts
list-weighs empty = omega arith
list-weighs (t before ts) = at (is_split t) refl (list-weighs ts)
  where
    at : (b : Bool) → is_split t ≡ b → weighed_among (split_list plainly ts) ≤ 8 * trees_size ts → weighed_among (if b then split_before plainly t (split_list plainly ts) else t before split_list plainly ts) ≤ 8 * (tree_size t + trees_size ts)
    at true h rest = omega (arith, before-weighs (split_list plainly ts) (split-export t h), rest)
    at false h rest = omega (arith, tree-weighs t, rest)

-- A PROGRAM
program-weighs : {p : Tree} → Listed p → weighed (split plainly p) ≤ 8 * tree_size p
program-weighs (lists l ds ts) = omega (arith, fields-weigh (many ds then done), list-weighs ts)
program-weighs {p} (others same) = omega (arith, tree-weighs p, ap weighed (same plainly))

pub law_split_weighs_proof : LawSplitWeighs
law_split_weighs_proof p = program-weighs (listed p)
