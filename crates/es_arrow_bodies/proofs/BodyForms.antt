-- Arrows that get a body: form is kept.
use Rattle.std.proofs.Common.{◌≡◌, refl, []}
use Rattle.std.specs.Prelude.{true}
use Rattle.std.proofs.lemmas.Bool.{and_from, and_parts}
use Rattle.es_tree.specs.HasForm.{has_form, trees_form}
use Rattle.es_tree.specs.Table.{rest_sort}
use Rattle.es_tree.specs.Tree.{Tree, done, ◌then◌, one, many, statements, empty, ◌before◌}
use Rattle.es_tree.specs.declared.ast_type.AstType.TheVariants.{ArrowFunctionExpression, FunctionBody}
use Rattle.es_tree.specs.declared.table.Sort.{Sort}
use Rattle.es_tree.specs.declared.table.Sort.TheVariants.{ArrowFunctionBody as s-ArrowFunctionBody, Expression as s-Expression, Pattern as s-Pattern, Statement as s-Statement}
use Rattle.es_tree.proofs.NodeForm.{node_form, has_form-node}
use Rattle.es_steps.specs.Nodes.{body_node, made, return_node}
use Rattle.es_steps.specs.Slots.{is_slot}
use Rattle.es_steps.specs.Steps.{Ledger, Site}
use Rattle.es_steps.specs.Steps.Spot.{at_node}
use Rattle.es_steps.proofs.FormLists.{narrower}
use Rattle.es_steps.proofs.FormMembers.{formed-first}
use Rattle.es_steps.proofs.FormParts.{IsFormed, no-span}
use Rattle.es_steps.proofs.FormRules.{FormLawful, NodeFormed, nodes-only, nothing-new}
use Rattle.es_arrow_bodies.specs.ArrowBodies.{BodyRule}
use Rattle.es_arrow_bodies.specs.ArrowBodies.BodyRule.{returns}
use Rattle.es_arrow_bodies.proofs.BodyBindings.{body-only}

returned-formed : (e : Tree) → IsFormed e → has_form s-Statement (return_node e) ≡ true
returned-formed e h = rw h refl

returning-body : (e : Tree) → IsFormed e → has_form s-ArrowFunctionBody (body_node (return_node e before empty)) ≡ true
returning-body e h =
    let span = no-span [] [] in
    let list = formed-first s-Statement (return_node e) empty (returned-formed e h) refl in
    has_form-node s-ArrowFunctionBody FunctionBody (made [] []) (many empty then statements (return_node e before empty) then done) (record { sort = refl; texts = refl; flags = refl; start = span.start; stop = span.stop; agree = refl; children = and_from _ true list refl })

pub body-form : FormLawful BodyRule
body-form = nodes-only BodyRule body-only nodes
  where
    nodes : (n : Site) (s s' : Ledger) (t u : Tree) (a : Sort) → (is_slot n.above ≡ true → a ≡ s-Expression) → BodyRule n s (at_node t) s' (at_node u) → has_form a t ≡ true → NodeFormed a s s' u
    nodes n s s' t u a slot (returns {l = l} {ps = ps} {e = e} x) h =
        let f = node_form a ArrowFunctionExpression l (many ps then one e then done) h in
        let parts = and_parts (trees_form s-Pattern (rest_sort s-Pattern) ps) _ f.children in
        let inner = (and_parts (has_form s-ArrowFunctionBody e) true parts.1).0 in
        let body = returning-body e (narrower e x.no_body inner) in
        record {
          formed = has_form-node a ArrowFunctionExpression l (many ps then one (body_node (return_node e before empty)) then done) (record { sort = f.sort; texts = f.texts; flags = f.flags; start = f.start; stop = f.stop; agree = refl; children = and_from _ _ parts.0 (and_from _ true body refl) });
          names = nothing-new s s' refl;
        }
