-- The rows of a walk keep form.
use Rattle.std.proofs.Common.{◌≡◌, refl, []}
use Rattle.std.specs.Prelude.{true, ◌&&◌, codes}
use Rattle.std.proofs.lemmas.Bool.{and_from, and_parts}
use Rattle.es_tree.specs.Fresh.{IsFreshName}
use Rattle.es_tree.specs.HasForm.{has_form, is_of_sort, sort_before_trees, trees_form}
use Rattle.es_tree.specs.Tree.{Tree, node, Label, Fields, done, ◌then◌, one, many, Trees, empty, ◌before◌}
use Rattle.es_tree.specs.Words.{Text}
use Rattle.es_tree.specs.declared.ast_type.AstType.TheVariants.{ArrowFunctionExpression, AssignmentPattern, FunctionBody, FunctionDeclaration, FunctionExpression, ObjectPattern}
use Rattle.es_tree.specs.declared.table.Sort.{Sort}
use Rattle.es_tree.specs.declared.table.Sort.TheVariants.{ArrowFunctionBody as s-ArrowFunctionBody, Binding as s-Binding, Expression as s-Expression, FunctionBody as s-FunctionBody, Pattern as s-Pattern, PatternRest as s-PatternRest, Statement as s-Statement}
use Rattle.es_tree.proofs.NodeForm.{node_form, has_form-node}
use Rattle.es_resolution.specs.Declarations.{Bound}
use Rattle.es_steps.specs.CatchPatterns.CatchRest.{moves}
use Rattle.es_steps.specs.Nodes.{declarator_with, identifier}
use Rattle.es_steps.specs.ParameterPatterns.{HoldsPattern, body_fields}
use Rattle.es_steps.specs.ParameterPatterns.HoldsPattern.{alone, with_default}
use Rattle.es_steps.specs.Patterns.{let_statement}
use Rattle.es_steps.specs.Rules.{next_name}
use Rattle.es_steps.specs.Slots.{is_slot}
use Rattle.es_steps.specs.Steps.{Ledger, Site, Whole}
use Rattle.es_steps.specs.Steps.Spot.{at_node}
use Rattle.es_steps.proofs.FormMembers.{formed-first}
use Rattle.es_steps.proofs.FormParts.{IsText, formed-name}
use Rattle.es_steps.proofs.FormRows.{next-text}
use Rattle.es_steps.proofs.FormRules.{FormLawful, NodeFormed, no-names, nodes-only}
use Rattle.es_valid_rests.proofs.RestForms.{at-sort, catch-rest-form, for-each-form, formed-declaration, formed-declarator, rest-target, target-form}
use Rattle.es_valid_rests.proofs.RestFormsDeclared.{list-joined, list-parts, rest-joined, rest-parts}
use Rattle.es_valid_rests.proofs.RestFormsMoved.{body-statements, body-with}
use Rattle.es_rest_shapes.specs.RestShapes.{is_plain_pattern}
use Rattle.es_rest_rows.proofs.PlainPatterns.{plain-holds}
use Rattle.es_arrow_bodies.specs.ArrowBodies.BodyRule.{returns}
use Rattle.es_arrow_bodies.proofs.BodyForms.{body-form}
use Rattle.es_pattern_moves.specs.MoveRows.{MoveWalkRow, MovesOne}
use Rattle.es_pattern_moves.specs.MoveRows.MovesOne.{moves_one}
use Rattle.es_pattern_moves.specs.MoveRows.MoveWalkRow.{from_arrow, from_catch, from_declaration, from_expression, from_head, from_target, from_value}
use Rattle.es_pattern_moves.proofs.MovedRows.{walk-only}

-- PARAMETERS

-- what stays of a parameter, and the pattern that it held
record HeldForm (s : Sort) (p u : Tree) : Type 0 where
  pattern : has_form s-Binding p ≡ true
  left : has_form s u ≡ true

module _ (s : Sort) (named_there : (b : Bound) → IsText b → has_form s (identifier b) ≡ true) (default_there : is_of_sort s AssignmentPattern ≡ true) where
  held-form : (b : Bound) (l : Label) (ps : Fields) (t u : Tree) → IsText b → HoldsPattern b (node ObjectPattern l ps) t u → has_form s t ≡ true → HeldForm s (node ObjectPattern l ps) u
  held-form b l ps t u e alone h = record { pattern = at-sort s s-Binding ObjectPattern l ps refl h; left = named_there b e }
  held-form b l ps t u e (with_default {l = m} {d = d} silent) h =
      let p : Tree = node ObjectPattern l ps in
      let f = node_form s AssignmentPattern m (one p then one d then done) h in
      let parts = and_parts (has_form s-Pattern p) (has_form s-Expression d && true) f.children in
      record {
        pattern = at-sort s-Pattern s-Binding ObjectPattern l ps refl parts.0;
        left = has_form-node s AssignmentPattern m (one (identifier b) then one d then done) (record { sort = default_there; texts = f.texts; flags = f.flags; start = f.start; stop = f.stop; agree = refl; children = and_from (has_form s-Pattern (identifier b)) (has_form s-Expression d && true) (rw e refl) parts.1 });
      }

held-there : (c : Trees) (b : Bound) (p t u : Tree) → IsText b → is_plain_pattern p ≡ true → HoldsPattern b p t u → has_form (sort_before_trees s-Pattern s-PatternRest c) t ≡ true → HeldForm (sort_before_trees s-Pattern s-PatternRest c) p u
held-there empty b (node ObjectPattern l ps) t u e plain holds h = held-form s-PatternRest (λ d i. rw i refl) refl b l ps t u e holds h
held-there (x before xs) b (node ObjectPattern l ps) t u e plain holds h = held-form s-Pattern (λ d i. rw i refl) refl b l ps t u e holds h
held-there c b (node _ l ps) t u e plain holds h = absurd (cc plain)

record ListsForm (qs us : Trees) : Type 0 where
  parameters : trees_form s-Pattern s-PatternRest qs ≡ true
  body : trees_form s-Statement s-Statement us ≡ true

lists-form : (w : Whole) (x : Text) (ps qs ts us : Trees) → IsText (next_name w x) → MovesOne w x ps qs ts us → trees_form s-Pattern s-PatternRest ps ≡ true → trees_form s-Statement s-Statement ts ≡ true → ListsForm qs us
lists-form w x ps qs ts us named (moves_one a c es rest p t u none plain held moved may) h k =
    let b = next_name w x in
    let parts = rest-parts s-Pattern s-PatternRest a t c h in
    let here = held-there c b p t u named plain held parts.it in
    let body = list-parts s-Statement es rest k in
    let first = formed-declaration s-Statement (codes "let") (declarator_with p (identifier b)) refl refl (formed-declarator p (identifier b) here.pattern (formed-name b named)) in
    record {
      parameters = rest-joined s-Pattern s-PatternRest a u c parts.earlier here.left parts.later;
      body = list-joined s-Statement es (let_statement p b before rest) body.0 (formed-first s-Statement (let_statement p b) rest first body.1);
    }

-- FUNCTIONS

-- the parameters and the body of a function
module _ (s : Sort) (w : Whole) (x : Text) (l : Label) (ps qs ds ts us : Trees) (named : IsText (next_name w x)) (moved : MovesOne w x ps qs ts us) where
  inner-form : (trees_form s-Pattern s-PatternRest ps && (has_form s (node FunctionBody l (body_fields ds ts)) && true)) ≡ true → (trees_form s-Pattern s-PatternRest qs && (has_form s (node FunctionBody l (body_fields ds us)) && true)) ≡ true
  inner-form h =
      let first = and_parts (trees_form s-Pattern s-PatternRest ps) (has_form s (node FunctionBody l (body_fields ds ts)) && true) h in
      let second = (and_parts (has_form s (node FunctionBody l (body_fields ds ts))) true first.1).0 in
      let m = lists-form w x ps qs ts us named moved first.0 (body-statements s l ds ts second) in
      and_from (trees_form s-Pattern s-PatternRest qs) (has_form s (node FunctionBody l (body_fields ds us)) && true) m.parameters (and_from (has_form s (node FunctionBody l (body_fields ds us))) true (body-with s l ds ts us m.body second) refl)

fresh-ref : (w : Whole) (x : Text) → IsFreshName w.in_use (codes "ref") x → IsText (next_name w x)
fresh-ref w x fresh = next-text w (codes "ref") (next_name w x) (record { fresh = fresh; symbol = refl })

pub walk-form : FormLawful MoveWalkRow
walk-form = nodes-only MoveWalkRow walk-only nodes
  where
    nodes : (n : Site) (s s' : Ledger) (t u : Tree) (a : Sort) → (is_slot n.above ≡ true → a ≡ s-Expression) → MoveWalkRow n s (at_node t) s' (at_node u) → has_form a t ≡ true → NodeFormed a s s' u
    nodes n s s' t u a slot (from_catch m l p bs x plain fresh) h = catch-rest-form.at_nodes n s s' t u a slot (moves (plain-holds p (and_parts _ _ plain).0) fresh) h
    nodes n s s' t u a slot (from_head {w = w} {q = q} {k = k} m l l' p e b x each from fresh) h =
        record { formed = for-each-form k a m l l' p e b (next_name w x) each (fresh-ref w x fresh) h; names = record { names = []; texts = tt; pending = no-names q; this = refl; top = refl } }
    nodes n s s' t u a slot (from_target {w = w} {q = q} m p e b x each rest fresh) h =
        record { formed = target-form a m p e b (next_name w x) each (rest-target p rest) (fresh-ref w x fresh) h; names = record { names = []; texts = tt; pending = no-names q; this = refl; top = refl } }
    nodes n s s' t u a slot (from_declaration {w = w} {q = q} {f = g} m l ps qs ds ts us x called fresh moved) h =
        let f = node_form a FunctionDeclaration m (g then many ps then one (node FunctionBody l (body_fields ds ts)) then done) h in
        let parts = and_parts _ (trees_form s-Pattern s-PatternRest ps && (has_form s-FunctionBody (node FunctionBody l (body_fields ds ts)) && true)) f.children in
        record {
          formed = has_form-node a FunctionDeclaration m (g then many qs then one (node FunctionBody l (body_fields ds us)) then done) (record { sort = f.sort; texts = f.texts; flags = f.flags; start = f.start; stop = f.stop; agree = refl; children = and_from _ _ parts.0 (inner-form s-FunctionBody w x l ps qs ds ts us (fresh-ref w x fresh) moved parts.1) });
          names = record { names = []; texts = tt; pending = no-names q; this = refl; top = refl };
        }
    nodes n s s' t u a slot (from_expression {w = w} {q = q} {f = g} m l ps qs ds ts us x called fresh moved) h =
        let f = node_form a FunctionExpression m (g then many ps then one (node FunctionBody l (body_fields ds ts)) then done) h in
        let parts = and_parts _ (trees_form s-Pattern s-PatternRest ps && (has_form s-FunctionBody (node FunctionBody l (body_fields ds ts)) && true)) f.children in
        record {
          formed = has_form-node a FunctionExpression m (g then many qs then one (node FunctionBody l (body_fields ds us)) then done) (record { sort = f.sort; texts = f.texts; flags = f.flags; start = f.start; stop = f.stop; agree = refl; children = and_from _ _ parts.0 (inner-form s-FunctionBody w x l ps qs ds ts us (fresh-ref w x fresh) moved parts.1) });
          names = record { names = []; texts = tt; pending = no-names q; this = refl; top = refl };
        }
    nodes n s s' t u a slot (from_arrow {w = w} {q = q} m l ps qs ds ts us x fresh moved) h =
        let f = node_form a ArrowFunctionExpression m (many ps then one (node FunctionBody l (body_fields ds ts)) then done) h in
        record {
          formed = has_form-node a ArrowFunctionExpression m (many qs then one (node FunctionBody l (body_fields ds us)) then done) (record { sort = f.sort; texts = f.texts; flags = f.flags; start = f.start; stop = f.stop; agree = refl; children = inner-form s-ArrowFunctionBody w x l ps qs ds ts us (fresh-ref w x fresh) moved f.children });
          names = record { names = []; texts = tt; pending = no-names q; this = refl; top = refl };
        }
    nodes n s s' t u a slot (from_value m ps e x value moved) h = body-form.at_nodes n s s' t u a slot (returns x) h
