-- The rows of arrows keep form: a function has the parameters and the body of an arrow, and a name stands wherever `this` does.
use Rattle.std.proofs.Common.{◌≡◌, refl, [], ◌∷◌}
use Rattle.std.specs.Prelude.{Bool, true, false, not, ◌||◌, Some, codes}
use Rattle.std.proofs.lemmas.Bool.{and_parts, and_from}
use Rattle.es_tree.specs.Fresh.{text_base}
use Rattle.es_tree.specs.HasForm.{has_form, is_of_sort, trees_form}
use Rattle.es_tree.specs.Table.{rest_sort, takes_expressions}
use Rattle.es_tree.specs.Tree.{Tree, node, Label, Fields, done, ◌then◌, missing, one, many, statements, Trees, empty, ◌before◌}
use Rattle.es_tree.specs.declared.ast_type.AstType.{AstType}
use Rattle.es_tree.specs.declared.ast_type.AstType.TheVariants.{ArrowFunctionExpression, FunctionBody, FunctionExpression, Identifier, ThisExpression}
use Rattle.es_tree.specs.declared.table.Sort.{Sort}
use Rattle.es_tree.specs.declared.table.Sort.TheVariants.{ArrowFunctionBody as s-ArrowFunctionBody, Expression as s-Expression, FunctionBody as s-FunctionBody, Pattern as s-Pattern, Program as s-Program, Statement as s-Statement}
use Rattle.es_tree.proofs.NodeForm.{node_form, has_form-node}
use Rattle.es_resolution.specs.Declarations.{Bound}
use Rattle.es_steps.specs.Arrows.{ArrowRule}
use Rattle.es_steps.specs.Arrows.ArrowRule.{by_name, by_new_name, with_body, with_expression}
use Rattle.es_steps.specs.Nodes.{body_node, identifier, made, placed, return_node}
use Rattle.es_steps.specs.Rules.{next_name}
use Rattle.es_steps.specs.Slots.{is_slot}
use Rattle.es_steps.specs.Steps.{Ledger, Site, Spot}
use Rattle.es_steps.specs.Steps.Spot.{at_node}
use Rattle.es_steps.proofs.FormLists.{HasText, narrower}
use Rattle.es_steps.proofs.FormMembers.{formed-first}
use Rattle.es_steps.proofs.FormParts.{IsFormed, IsText, no-span}
use Rattle.es_steps.proofs.FormRows.{next-text}
use Rattle.es_steps.proofs.FormRules.{AtNodes, NodeLeft, no-names, nodes-only}
use Rattle.es_steps.proofs.FormSorts.{form-wider}
use Rattle.es_steps.proofs.Taken.{this_in}
use Rattle.es_valid_arrows.proofs.Wide.{WideLawful, WideNames, nothing-new}

-- KINDS: wherever an arrow or `this` may stand, every expression may

abbrev is_wide_for : Sort → AstType → Bool
is_wide_for s k = not (is_of_sort s k) || takes_expressions s

or-first : (a b : Bool) → (not a || b) ≡ true → a ≡ true → b ≡ true
or-first true b e d = e
or-first false b e d = absurd (cc d)

arrow-wide : (s : Sort) → is_wide_for s ArrowFunctionExpression ≡ true
arrow-wide s-Program = refl
arrow-wide _ = refl

this-wide : (s : Sort) → is_wide_for s ThisExpression ≡ true
this-wide s-Program = refl
this-wide _ = refl

wide-arrow : (s : Sort) → is_of_sort s ArrowFunctionExpression ≡ true → takes_expressions s ≡ true
wide-arrow s = or-first (is_of_sort s ArrowFunctionExpression) (takes_expressions s) (arrow-wide s)

wide-this : (s : Sort) → is_of_sort s ThisExpression ≡ true → takes_expressions s ≡ true
wide-this s = or-first (is_of_sort s ThisExpression) (takes_expressions s) (this-wide s)

-- BODIES

function-body : (m : Label) (fs : Fields) → has_form s-ArrowFunctionBody (node FunctionBody m fs) ≡ true → has_form s-FunctionBody (node FunctionBody m fs) ≡ true
function-body m fs h =
    let n = node_form s-ArrowFunctionBody FunctionBody m fs h in
    has_form-node s-FunctionBody FunctionBody m fs (record { sort = refl; texts = n.texts; flags = n.flags; start = n.start; stop = n.stop; agree = n.agree; children = n.children })

returned-formed : (e : Tree) → IsFormed e → has_form s-Statement (return_node e) ≡ true
returned-formed e h = rw h refl

returning-body : (e : Tree) → IsFormed e → has_form s-FunctionBody (body_node (return_node e before empty)) ≡ true
returning-body e h =
    let span = no-span [] [] in
    let list = formed-first s-Statement (return_node e) empty (returned-formed e h) refl in
    has_form-node s-FunctionBody FunctionBody (made [] []) (many empty then statements (return_node e before empty) then done) (record { sort = refl; texts = refl; flags = refl; start = span.start; stop = span.stop; agree = refl; children = and_from _ true list refl })

-- FUNCTIONS

pub record ArrowParts (ps : Trees) (b : Tree) : Type 0 where
  pub parameters : trees_form s-Pattern (rest_sort s-Pattern) ps ≡ true
  pub inner : has_form s-ArrowFunctionBody b ≡ true

pub arrow-parts : (a : Sort) (l : Label) (ps : Trees) (b : Tree) → has_form a (node ArrowFunctionExpression l (many ps then one b then done)) ≡ true → ArrowParts ps b
arrow-parts a l ps b h =
    let parts = and_parts (trees_form s-Pattern (rest_sort s-Pattern) ps) _ (node_form a ArrowFunctionExpression l (many ps then one b then done) h).children in
    record { parameters = parts.0; inner = (and_parts (has_form s-ArrowFunctionBody b) true parts.1).0 }

-- of the form of an arrow, with a body of its own
formed-function : (a : Sort) (l : Label) (ps : Trees) (b c : Tree) → has_form a (node ArrowFunctionExpression l (many ps then one b then done)) ≡ true → has_form s-FunctionBody c ≡ true → has_form a (node FunctionExpression l (missing then many ps then one c then done)) ≡ true
formed-function a l ps b c h k =
    let n = node_form a ArrowFunctionExpression l (many ps then one b then done) h in
    let parts = arrow-parts a l ps b h in
    form-wider a (node FunctionExpression l (missing then many ps then one c then done)) (wide-arrow a n.sort)
    (has_form-node s-Expression FunctionExpression l (missing then many ps then one c then done) (record { sort = refl; texts = n.texts; flags = n.flags; start = n.start; stop = n.stop; agree = refl; children = and_from _ _ parts.parameters (and_from _ true k refl) }))

-- NAMES

formed-placed : (a : Sort) (l : Label) (b : Bound) → IsText b → has_form a (node ThisExpression l done) ≡ true → has_form a (placed l (identifier b)) ≡ true
formed-placed a l b e h =
    let n = node_form a ThisExpression l done h in
    let bare : IsFormed (identifier b) = rw e refl in
    let named : Label = record (made (Some b.name ∷ []) []) { marks = b.symbol ∷ [] } in
    let m = node_form s-Expression Identifier named done bare in
    form-wider a (placed l (identifier b)) (wide-this a n.sort)
    (has_form-node s-Expression Identifier (record named { start = l.start; stop = l.stop }) done (record { sort = refl; texts = m.texts; flags = refl; start = n.start; stop = n.stop; agree = refl; children = refl }))

-- THE RULE

pub arrow-nodes : (n : Site) (s s' : Ledger) (x y : Spot) → ArrowRule n s x s' y → AtNodes x y
arrow-nodes n s s' x y (by_name reads belongs reaches found used below) = tt
arrow-nodes n s s' x y (by_new_name reads belongs reaches fresh) = tt
arrow-nodes n s s' x y (with_body none) = tt
arrow-nodes n s s' x y (with_expression e none) = tt

pub arrow-wide-form : WideLawful ArrowRule
arrow-wide-form = nodes-only ArrowRule arrow-nodes nodes
  where
    nodes : (n : Site) (s s' : Ledger) (t u : Tree) (a : Sort) → (is_slot n.above ≡ true → a ≡ s-Expression) → ArrowRule n s (at_node t) s' (at_node u) → has_form a t ≡ true → HasText (this_in s) → NodeLeft WideNames a s s' u
    nodes n s s' t u a slot (by_name {l = l} {x = x} {s = symbol} reads belongs reaches found used below) f named =
        record { formed = formed-placed a l (record { name = x; symbol = Some symbol }) named f; names = nothing-new s s' refl }
    nodes n s s' t u a slot (by_new_name {w = w} {p = p} {l = l} {x = x} reads belongs reaches fresh) f named =
        let text = next-text w (text_base (codes "this")) (next_name w x) (record { fresh = fresh; symbol = refl }) in
        record { formed = formed-placed a l (next_name w x) text f; names = record { names = []; texts = tt; pending = no-names p; this = λ k. text; top = refl } }
    nodes n s s' t u a slot (with_body {l = l} {m = m} {ps = ps} {fs = fs} none) f named =
        record { formed = formed-function a l ps (node FunctionBody m fs) (node FunctionBody m fs) f (function-body m fs (arrow-parts a l ps (node FunctionBody m fs) f).inner); names = nothing-new s s' refl }
    nodes n s s' t u a slot (with_expression {l = l} {ps = ps} {e = e} expression none) f named =
        record { formed = formed-function a l ps e (body_node (return_node e before empty)) f (returning-body e (narrower e expression.no_body (arrow-parts a l ps e f).inner)); names = nothing-new s s' refl }
