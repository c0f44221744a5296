-- A program whose own list was walked.
use Rattle.std.proofs.Common.{◌≡◌, refl, inr}
use Rattle.std.specs.Prelude.{Bool, true, false, ◌||◌, None}
use Rattle.std.proofs.lemmas.Bool.{and_parts}
use Rattle.es_tree.specs.Attributes.{child_entries}
use Rattle.es_tree.specs.Constructs.{is_arrow}
use Rattle.es_tree.specs.HasForm.{fields_form, has_form, is_of_sort, trees_form}
use Rattle.es_tree.specs.Tree.{Tree, node, Label, Fields, done, ◌then◌, Field, many, statements, Trees, empty, ◌before◌}
use Rattle.es_tree.specs.Walks.{any_in_fields, any_in_trees, any_node}
use Rattle.es_tree.specs.declared.ast_type.AstType.{AstType}
use Rattle.es_tree.specs.declared.ast_type.AstType.TheVariants.{Directive, Program}
use Rattle.es_tree.specs.declared.table.Sort.TheVariants.{Directive as s-Directive, Program as s-Program}
use Rattle.es_tree.proofs.NodeForm.{node_form}
use Rattle.es_arrow_steps.specs.ThisFits.{each_this_fits}
use Rattle.es_changes.specs.Moments.{Moment}
use Rattle.es_changes.proofs.StepRows.{steps-map}
use Rattle.es_steps.specs.Open.{ends, no_additions, nothing_pending, opened_field, ◌and◌}
use Rattle.es_steps.specs.Steps.{Site, the_program}
use Rattle.es_steps.specs.Steps.FieldsStep.{in_first, in_later}
use Rattle.lower_arrows.specs.Lowered.{ArrowsLowered, walk_rule}
use Rattle.lower_arrows.specs.Walks.{WalkedTarget}
use Rattle.lower_arrows.proofs.Inward.{inward-from, sites}
use Rattle.lower_arrows.proofs.Rows.{row-inside}
use Rattle.lower_arrows.proofs.WalkRules.{walk-nameless}

abbrev program_of : Label → Field → Trees → Tree
program_of l d ts = node Program l (d then (statements ts then done))

-- STEPS

pub program-lowered : (a b : Moment) (l : Label) (d : Field) (ts us : Trees) → has_form s-Program (program_of l d ts) ≡ true → each_this_fits (program_of l d ts) ≡ true → WalkedTarget a ts b us → ArrowsLowered a (program_of l d ts) b (program_of l d us)
program-lowered a b l d ts us form fits w =
    let here : Site = sites the_program Program l (d then (statements ts then done)) 1 in
    let each = inward-from the_program Program l (d then (statements ts then done)) s-Program form fits in
    row-inside walk_rule walk-nameless the_program Program l
    (steps-map (λ g. opened_field false d and (g and ends)) (λ s s' f g r. in_later (in_first r))
    (w.steps here (record { belongs = refl; target = inr refl }) each.1.0 nothing_pending None no_additions))

-- NO ARROW IS LEFT: directives have no parts

directive-kind : (k : AstType) → is_of_sort s-Directive k ≡ true → k ≡ Directive
directive-kind Directive e = refl
directive-kind _ e = absurd (cc e)

no-parts : (l : Label) (fs : Fields) → fields_form Directive l (child_entries Directive) fs ≡ true → any_in_fields is_arrow fs ≡ false
no-parts l done h = refl
no-parts l (f then fs) h = absurd (cc h)

directive-plain : (k : AstType) (l : Label) (fs : Fields) → k ≡ Directive → has_form s-Directive (node k l fs) ≡ true → any_node is_arrow (node k l fs) ≡ false
directive-plain Directive l fs e h = no-parts l fs (node_form s-Directive Directive l fs h).children
directive-plain _ l fs e h = absurd (cc e)

either-none : (a b : Bool) → a ≡ false → b ≡ false → (a || b) ≡ false
either-none false b e d = d
either-none true b e d = absurd (cc e)

directives-plain : (ts : Trees) → trees_form s-Directive s-Directive ts ≡ true → any_in_trees is_arrow ts ≡ false
directives-plain empty h = refl
directives-plain (node k l fs before empty) h =
    let parts = and_parts (has_form s-Directive (node k l fs)) true h in
    either-none (any_node is_arrow (node k l fs)) false (directive-plain k l fs (directive-kind k (node_form s-Directive k l fs parts.0).sort) parts.0) refl
directives-plain (node k l fs before (t before ts)) h =
    let parts = and_parts (has_form s-Directive (node k l fs)) (trees_form s-Directive s-Directive (t before ts)) h in
    either-none (any_node is_arrow (node k l fs)) (any_in_trees is_arrow (t before ts)) (directive-plain k l fs (directive-kind k (node_form s-Directive k l fs parts.0).sort) parts.0) (directives-plain (t before ts) parts.1)

pub none-left : (l : Label) (ds ts us : Trees) → has_form s-Program (program_of l (many ds) ts) ≡ true → any_in_trees is_arrow us ≡ false → any_node is_arrow (program_of l (many ds) us) ≡ false
none-left l ds ts us form none =
    let parts = and_parts (trees_form s-Directive s-Directive ds) _ (node_form s-Program Program l (many ds then (statements ts then done)) form).children in
    either-none (any_in_trees is_arrow ds) (any_in_trees is_arrow us || false) (directives-plain ds parts.0) (either-none (any_in_trees is_arrow us) false none refl)
