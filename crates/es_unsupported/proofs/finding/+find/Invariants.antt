use Rattle.std.proofs.Common.{◌≡◌, ℕ, ◌+◌, ◌*◌, List, None, map, take}
use Rattle.es_tree.specs.Tree.{field_size, fields, fields_of, kind_of, label_of, tree_size, trees}
use Rattle.es_tree.specs.Views.{plain_field}
use Rattle.es_semantic.specs.Places.{first}
use Rattle.es_semantic.specs.SymbolsOf.{Declared}
use Rattle.es_semantic.specs.Walks.{Binds}
use Rattle.es_unsupported.specs.MarkedWalk.{LooksUp, LooksUpInField, around_marked, first_in_fields, first_in_trees}
use Rattle.es_unsupported.specs.Wanted.{IsWanted}
use Rattle.es_unsupported.proofs.Parts.{own_places}
use Rattle.es_unsupported.proofs.finding.+find.Given as goal

-- a field is smaller than its node, and a node no larger than its field, which is called at a higher rank
abbrev pub decreases-find_in : goal.decreases-find_in
decreases-find_in l = 2 * tree_size l.node.now

abbrev pub decreases-find_in_field : goal.decreases-find_in_field
decreases-find_in_field l = 2 * field_size (plain_field l.field.now) + 1

-- none of the fields so far has one
abbrev pub invariant-find_in-loop-index : goal.invariant-find_in-loop-index
invariant-find_in-loop-index l = (ds : List Declared) (up : List ℕ) → IsWanted l.wanted l.options ds → Binds ds l.scoping → l.fn.scope.0 ≡ first up → LooksUp l.scoping ds up l.node →
    first_in_fields l.options ds (around_marked up (kind_of l.node) (label_of l.node) (fields_of l.node)) (own_places l.options ds up l.place l.node) (fields (map plain_field (take l.index l.field-items))) ≡ None

-- none of the trees so far has
abbrev pub invariant-find_in_field-loop-node : goal.invariant-find_in_field-loop-node
invariant-find_in_field-loop-node l = (ds : List Declared) (up : List ℕ) → IsWanted l.wanted l.options ds → Binds ds l.scoping → l.scope.0 ≡ first up → LooksUpInField l.scoping ds up (plain_field l.field) →
    first_in_trees l.options ds up l.place (trees (take l.node-index l.node-items)) ≡ None
