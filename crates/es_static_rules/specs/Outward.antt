-- What the static rules see of a stack of ancestors, which has the outermost first.
use Rattle.std.specs.Prelude.{List, [], ◌∷◌}
use Rattle.es_tree.specs.Ancestors.{Ancestor, ancestor}
use Rattle.es_tree.specs.Tree.{kind_of, label_of, fields_of}
use Rattle.es_static_rules.specs.declared.ancestors.Ancestor.{Ancestor as StackedAncestor}

abbrev pub plain_ancestor : StackedAncestor → Ancestor
plain_ancestor a = ancestor (kind_of a.node.now) (label_of a.node.now) (fields_of a.node.now) a.index a.number

-- the ancestors of a stack inside these
abbrev pub outward_onto : List Ancestor → List StackedAncestor → List Ancestor
outward_onto up [] = up
outward_onto up (a ∷ rest) = outward_onto (plain_ancestor a ∷ up) rest

-- the ancestors of a stack, the parent first
unfoldable pub outward : List StackedAncestor → List Ancestor
outward stack = outward_onto [] stack
