-- A program whose own list was walked.
use Rattle.std.proofs.Common.{◌≡◌, arith, refl}
use Rattle.std.specs.Prelude.{Bool, true, false, ◌||◌, None}
use Rattle.std.proofs.lemmas.Bool.{and_parts}
use Rattle.es_tree.specs.Attributes.{child_entries}
use Rattle.es_tree.specs.HasForm.{fields_form, has_form, is_of_sort, trees_form}
use Rattle.es_tree.specs.Tree.{Tree, node, Label, Fields, done, ◌then◌, many, statements, Trees, empty, ◌before◌, trees_size}
use Rattle.es_tree.specs.Walks.{any_in_fields, any_in_trees, any_node}
use Rattle.es_tree.specs.declared.ast_type.AstType.{AstType}
use Rattle.es_tree.specs.declared.ast_type.AstType.TheVariants.{Directive, Program}
use Rattle.es_tree.specs.declared.table.Sort.TheVariants.{Directive as s-Directive, Program as s-Program}
use Rattle.es_tree.proofs.NodeForm.{node_form}
use Rattle.es_changes.specs.Moments.{Moment}
use Rattle.es_changes.proofs.StepRows.{steps-map}
use Rattle.es_steps.specs.Open.{ends, no_additions, nothing_pending, opened_field, ◌and◌}
use Rattle.es_steps.specs.Steps.{Site, the_program}
use Rattle.es_steps.specs.Steps.FieldsStep.{in_first, in_later}
use Rattle.es_traverse.proofs.FieldVisits.{neither}
use Rattle.lower_arrows.proofs.Rows.{program-row, row-inside}
use Rattle.lower_nodes.specs.Nodes.{AlikeAmong, IsNodeLawful, NodeProfile, Paid, PaidTree, WalkedProgram, each_barred, owed_among}
use Rattle.lower_nodes.specs.Nodes.AlikeBy.{many_alike, statements_alike}
use Rattle.lower_nodes.specs.Nodes.AlikeIn.{fields_alike, no_fields}
use Rattle.lower_nodes.proofs.Alike.{alike-same-among}
use Rattle.lower_node_walk.specs.Walks.{LeftAmong, WalkedTrees}
use Rattle.lower_node_walk.proofs.Costs.{paid-node}
use Rattle.lower_node_walk.proofs.Inward.{inside-node, inward, or-first, or-rest, sites}

abbrev parts_of : Trees → Trees → Fields
parts_of ds ts = many ds then (statements ts then done)

abbrev program_of : Label → Trees → Trees → Tree
program_of l ds ts = node Program l (parts_of ds ts)

-- DIRECTIVES have no parts, so none holds a node of which a test says that no directive is one

directive-kind : (k : AstType) → is_of_sort s-Directive k ≡ true → k ≡ Directive
directive-kind Directive e = refl
directive-kind _ e = absurd (cc e)

module _ (test : AstType → Label → Fields → Bool) (none : (l : Label) (fs : Fields) → test Directive l fs ≡ false) where
  no-parts : (l : Label) (fs : Fields) → fields_form Directive l (child_entries Directive) fs ≡ true → any_in_fields test fs ≡ false
  no-parts l done h = refl
  no-parts l (f then fs) h = absurd (cc h)

  directive-plain : (k : AstType) (l : Label) (fs : Fields) → k ≡ Directive → has_form s-Directive (node k l fs) ≡ true → any_node test (node k l fs) ≡ false
  directive-plain Directive l fs e h = neither (test Directive l fs) (any_in_fields test fs) (none l fs) (no-parts l fs (node_form s-Directive Directive l fs h).children)
  directive-plain _ l fs e h = absurd (cc e)

  one-plain : (t : Tree) → has_form s-Directive t ≡ true → any_node test t ≡ false
  one-plain (node k l fs) h = directive-plain k l fs (directive-kind k (node_form s-Directive k l fs h).sort) h

  directives-plain : (ts : Trees) → trees_form s-Directive s-Directive ts ≡ true → any_in_trees test ts ≡ false
  directives-plain empty h = refl
  directives-plain (t before empty) h = neither (any_node test t) false (one-plain t (and_parts (has_form s-Directive t) true h).0) refl
  directives-plain (t before (u before us)) h =
      let parts = and_parts (has_form s-Directive t) (trees_form s-Directive s-Directive (u before us)) h in
      neither (any_node test t) (any_in_trees test (u before us)) (one-plain t parts.0) (directives-plain (u before us) parts.1)

-- STEPS, and none of the constructs is left

module _ (p : NodeProfile) (law : IsNodeLawful p) (l : Label) (ds ts us : Trees) (a b : Moment) where
  abbrev here : Site
  here = sites p the_program Program l (parts_of ds ts) 1

  left : WalkedTrees p a ts b us → has_form s-Program (program_of l ds ts) ≡ true → any_node p.strays (program_of l ds ts) ≡ false → LeftAmong p here a ts b us
  left w form none =
      let each = inward p the_program Program l (parts_of ds ts) s-Program form none in
      let bar = law.inward Program l (parts_of ds ts) (or-first (p.strays Program l (parts_of ds ts)) (any_in_fields p.strays (parts_of ds ts)) none) in
      w Program 1 here (inside-node p the_program Program l (parts_of ds ts) 1).place each.1.0
      (or-first (each_barred (p.barred Program 1) ts) false (or-rest (each_barred (p.barred Program 0) ds) _ bar))

  module _ (w : WalkedTrees p a ts b us) (same : AlikeAmong p.changes ts us) (form : has_form s-Program (program_of l ds ts) ≡ true) (none : any_node p.strays (program_of l ds ts) ≡ false) where
    inside : any_in_fields p.constructs (parts_of ds us) ≡ false
    inside =
        let parts = and_parts (trees_form s-Directive s-Directive ds) _ (node_form s-Program Program l (parts_of ds ts) form).children in
        neither (any_in_trees p.constructs ds) (any_in_trees p.constructs us || false) (directives-plain p.constructs law.directive ds parts.0) (neither (any_in_trees p.constructs us) false (left w form none).none refl)

    clear-program : any_node p.strays (program_of l ds us) ≡ false
    clear-program =
        let own = or-first (p.strays Program l (parts_of ds ts)) (any_in_fields p.strays (parts_of ds ts)) none in
        let first = or-first (any_in_trees p.strays ds) _ (or-rest (p.strays Program l (parts_of ds ts)) (any_in_fields p.strays (parts_of ds ts)) none) in
        neither (p.strays Program l (parts_of ds us)) (any_in_fields p.strays (parts_of ds us))
        (law.stable Program l (parts_of ds ts) (parts_of ds us) (fields_alike (many_alike (alike-same-among p.changes ds)) (fields_alike (statements_alike same) no_fields)) inside own)
        (neither (any_in_trees p.strays ds) (any_in_trees p.strays us || false) first (neither (any_in_trees p.strays us) false (left w form none).clear refl))

  pub program-walked : WalkedTrees p a ts b us → AlikeAmong p.changes ts us → WalkedProgram p a (program_of l ds ts) b (program_of l ds us)
  program-walked w same = record {
    steps = λ form none. row-inside p.rule law.rule.nameless the_program Program l
        (steps-map (λ g. opened_field false (many ds) and (g and ends)) (λ s s' f g r. in_later (in_first r))
        (program-row p.rule here refl nothing_pending None no_additions ((left w form none).steps nothing_pending None no_additions)));
    none = λ form none. neither (p.constructs Program l (parts_of ds us)) (any_in_fields p.constructs (parts_of ds us)) (law.root l (parts_of ds us)) (inside w same form none);
    clear = λ form none. clear-program w same form none;
  }

  -- WHAT IT COSTS
  pub program-paid : AlikeAmong p.changes ts us → Paid a (owed_among p.owes ts) (trees_size ts) b (owed_among p.owes us) (trees_size us) → PaidTree p.owes a (program_of l ds ts) b (program_of l ds us)
  program-paid same h =
      paid-node p law Program l (parts_of ds ts) (parts_of ds us) (fields_alike (many_alike (alike-same-among p.changes ds)) (fields_alike (statements_alike same) no_fields))
      (record { lists = h.lists; around = h.around; options = h.options; counted = h.counted; lighter = omega (arith, h.lighter); nodes = omega (arith, h.nodes) })
