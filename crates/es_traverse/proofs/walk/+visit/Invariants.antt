use Rattle.std.proofs.Common.{◌+◌, ◌*◌, ℕ}
use Rattle.es_tree.specs.Tree.{Tree, trees}
use Rattle.es_tree.specs.Views.{plain_field, plain_fields}
use Rattle.es_tree.specs.declared.node.Field.{Field as NodeField}
use Rattle.es_visit.specs.Counts.{parameters_before, total}
use Rattle.es_visit.proofs.SoFar.{SoFar}
use Rattle.es_visit.proofs.Sums.{total_of}
use Rattle.es_changes.specs.Changes.{heft}
use Rattle.es_changes.specs.Moments.{Moment}
use Rattle.es_traverse.specs.ContextMoments.{moment}
use Rattle.es_traverse.specs.Loads.{allowance, field_load, fields_load, load, own_allowance, trees_load}
use Rattle.es_traverse.proofs.FieldVisits.{FieldsSeen}
use Rattle.es_traverse.proofs.KeptParts.{KeptFields, KeptSome, Untouched}
use Rattle.es_traverse.proofs.ListVisits.{ListSeen}
use Rattle.es_traverse.proofs.walk.+visit.Given as goal

-- each call goes to a part with a smaller load, what is pending and the ids given included, or to the same load at a lower rank
abbrev rank : Moment → ℕ → ℕ → ℕ
rank a w n = 7 * (heft a + w) + n

abbrev pub decreases-visit_node : goal.decreases-visit_node
decreases-visit_node g l = rank (moment g.S.Additions.pending l.ctx.now) (load l.node.now + allowance l.site) 1

abbrev pub decreases-visit_nodes : goal.decreases-visit_nodes
decreases-visit_nodes g l = rank (moment g.S.Additions.pending l.ctx.now) (trees_load (trees l.nodes.now.items)) 2

abbrev pub decreases-visit_parameters : goal.decreases-visit_parameters
decreases-visit_parameters g l = rank (moment g.S.Additions.pending l.ctx.now) (trees_load (trees l.parameters.now.items)) 3

abbrev pub decreases-visit_statements : goal.decreases-visit_statements
decreases-visit_statements g l = rank (moment g.S.Additions.pending l.ctx.now) (trees_load (trees l.statements.now.items)) 3

abbrev pub decreases-visit_list : goal.decreases-visit_list
decreases-visit_list g l = rank (moment g.S.Additions.pending l.ctx.now) (trees_load (trees l.nodes.now.items)) 4

abbrev pub decreases-visit_field : goal.decreases-visit_field
decreases-visit_field g l = rank (moment g.S.Additions.pending l.ctx.now) (field_load (plain_field l.field.now) + allowance l.site) 5

abbrev pub decreases-visit_fields : goal.decreases-visit_fields
decreases-visit_fields g l = rank (moment g.S.Additions.pending l.ctx.now) (fields_load (plain_fields l.fields.now.items) + own_allowance l.parent.kind) 6

-- nothing is counted of a part but its hooks
abbrev anything : {X : Type 0} → X → Type 0
anything x = Unit {0}

abbrev pub invariant-visit_fields-loop-index : goal.invariant-visit_fields-loop-index
invariant-visit_fields-loop-index g l = record {
  kept : KeptFields l.parent.kind (moment g.S.Additions.pending l.initial.ctx) l.initial.fields.items (moment g.S.Additions.pending l.ctx) l.fields.items l.index;
  untouched : Untouched l.initial.fields.items l.fields.items l.index;
  seen : FieldsSeen (g.T.Lowering.profile l.initial.ctx.options) l.parent.is_computed l.parent.kind (moment g.S.Additions.pending l.initial.ctx) l.initial.fields.items (moment g.S.Additions.pending l.ctx) l.fields.items l.index;
  so_far : SoFar g.T.Lowering.suits g.T.Lowering.tally g.T.Lowering.entries l.initial.ctx.options (anything {X = NodeField}) total_of (λ n i. parameters_before n l.parent.kind i) l.initial.fields.items l.fields.items l.index l.initial.t l.t l.initial.steps l.steps;
}

abbrev pub invariant-visit_nodes-loop-index : goal.invariant-visit_nodes-loop-index
invariant-visit_nodes-loop-index g l = record {
  kept : KeptSome (moment g.S.Additions.pending l.initial.ctx) l.initial.nodes.items (moment g.S.Additions.pending l.ctx) l.nodes.items l.index;
  untouched : Untouched l.initial.nodes.items l.nodes.items l.index;
  seen : ListSeen (g.T.Lowering.profile l.initial.ctx.options) (moment g.S.Additions.pending l.initial.ctx) l.initial.nodes.items (moment g.S.Additions.pending l.ctx) l.nodes.items l.index;
  so_far : SoFar g.T.Lowering.suits g.T.Lowering.tally g.T.Lowering.entries l.initial.ctx.options (anything {X = Tree}) total (λ n i. 0) l.initial.nodes.items l.nodes.items l.index l.initial.t l.t l.initial.steps l.steps;
}
