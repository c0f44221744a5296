-- Constants that a program declares at its top: one `const` statement (ECMA-262, 14.3.1) behind its first imports, with a declarator for each.
use Rattle.std.specs.Prelude.{List, [], ◌∷◌, codes, map}
use Rattle.es_tree.specs.Tree.{Tree, empty, ◌before◌}
use Rattle.es_resolution.specs.Declarations.{Bound}
use Rattle.es_steps.specs.Nodes.{declaration_node, declarator_with, identifier}
use Rattle.es_top_imports.specs.TopImports.{with_top}

-- a name and the list that it stands for
pub record Constant : Type 0 where
  pub local : Bound
  pub list : Tree

-- these lists under these names
abbrev pub constants_of : List Bound → List Tree → List Constant
constants_of (b ∷ bs) (t ∷ ts) = record { local = b; list = t } ∷ constants_of bs ts
constants_of bs ts = []

-- `_excluded = ["a"]`
abbrev pub declarator_of : Constant → Tree
declarator_of c = declarator_with (identifier c.local) c.list

-- the program with `const _excluded = ["a"], _excluded2 = ["b"];` behind its first imports; without constants it is as it was
abbrev pub with_constants : List Constant → Tree → Tree
with_constants [] p = p
with_constants (c ∷ cs) p = with_top (declaration_node (codes "const") (map declarator_of (c ∷ cs)) before empty) p
