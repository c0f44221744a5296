-- The row of a walk acts at a node, wherever it stands, and keeps form. So those in the body of an arrow that is an expression are steps of the field
-- where it stands.
use Rattle.std.proofs.Common.{◌≡◌, ◌∙◌, refl, sym, ap, subst, [], ◌∷◌}
use Rattle.std.specs.Prelude.{Bool, true, false, ◌&&◌, Some, codes}
use Rattle.std.proofs.lemmas.Bool.{and_from, and_parts}
use Rattle.es_tree.specs.Fresh.{node_base}
use Rattle.es_tree.specs.HasForm.{has_form}
use Rattle.es_tree.specs.Names.{first_text}
use Rattle.es_tree.specs.Tree.{Tree, node, Label, done, ◌then◌, missing, one, many, empty, ◌before◌}
use Rattle.es_tree.specs.Words.{Text}
use Rattle.es_tree.specs.declared.ast_type.AstType.TheVariants.{ForOfStatement, VariableDeclaration, VariableDeclarator}
use Rattle.es_tree.specs.declared.table.Sort.{Sort}
use Rattle.es_tree.specs.declared.table.Sort.TheVariants.{ArrowFunctionBody as s-ArrowFunctionBody, Binding as s-Binding, Expression as s-Expression, ForLeft as s-ForLeft, Statement as s-Statement, VariableDeclarator as s-VariableDeclarator}
use Rattle.es_tree.proofs.NodeForm.{node_form, has_form-node}
use Rattle.es_semantic.specs.RolesOf.{reads}
use Rattle.es_resolution.specs.Declarations.{Bound}
use Rattle.es_changes.proofs.Expressions.{body-expression}
use Rattle.es_steps.specs.LoopHeads.{head_fields, new_head}
use Rattle.es_steps.specs.LoopHeads.IsForEach.{for_of}
use Rattle.es_steps.specs.Nodes.{block_node, declaration_node, declarator, declarator_with, identifier}
use Rattle.es_steps.specs.Open.{Open, Pending, body, finished, finished_fields, is_statement_body, opened}
use Rattle.es_steps.specs.Rules.{next_name}
use Rattle.es_steps.specs.Sites.{IsLocal}
use Rattle.es_steps.specs.Slots.{is_slot}
use Rattle.es_steps.specs.Steps.{FieldStep, Ledger, Site, Spot, Step, Steps, ledger, site_in_body}
use Rattle.es_steps.specs.Steps.Spot.{at_node}
use Rattle.es_steps.specs.Steps.Step.{acts, inside}
use Rattle.es_steps.specs.UsingLoops.{block_head}
use Rattle.es_steps.proofs.FormMembers.{formed-first}
use Rattle.es_steps.proofs.FormOpen.{IsProper, opened-proper}
use Rattle.es_steps.proofs.FormParts.{IsText}
use Rattle.es_steps.proofs.FormRows.{next-text}
use Rattle.es_steps.proofs.FormRules.{AtNodes, FormLawful, NodeFormed, no-names, nodes-only}
use Rattle.es_steps.proofs.FormSteps.{formed-after}
use Rattle.es_steps.proofs.Opened.{finished-opened}
use Rattle.es_steps.proofs.Taken.{pending_in, this_in, top_in, whole_in}
use Rattle.es_valid_rests.proofs.RestForms.{for-each-form}
use Rattle.es_pattern_moves.proofs.MovedRows.{same-body}
use Rattle.es_rest_steps.proofs.RowsInside.{body-row as body-inside, no_names}
use Rattle.es_using_rows.specs.Used.{const_label}
use Rattle.es_using_heads.specs.HeadRows.{HeadWalkRow}
use Rattle.es_using_heads.specs.HeadRows.HeadWalkRow.{from_head}
use Rattle.es_using_heads.proofs.HeadShapes.{head-tests}

pub walk-only : (n : Site) (s s' : Ledger) (x y : Spot) → HeadWalkRow n s x s' y → AtNodes x y
walk-only n s s' x y (from_head m l k z e b c moves fresh) = tt

pub walk-local : IsLocal (λ s. no_names) HeadWalkRow
walk-local n n' s s' x y alike (from_head m l k z e b c moves fresh) = from_head m l k z e b c moves fresh

abbrev IsBodyAt : Spot → Bool
IsBodyAt (at_node t) = is_statement_body t
IsBodyAt x = false

walk-bodies : (n : Site) (s s' : Ledger) (x y : Spot) → HeadWalkRow n s x s' y → IsBodyAt y ≡ IsBodyAt x
walk-bodies n s s' x y (from_head m l k z e b c moves fresh) = refl

-- FORM

-- the head of the loop, with a constant
left-form : (l k : Label) (x : Tree) (y : Bound) → IsText y → has_form s-ForLeft (node VariableDeclaration l (many (node VariableDeclarator k (one x then missing then done) before empty) then done)) ≡ true →
    has_form s-ForLeft (node VariableDeclaration (const_label l) (many (node VariableDeclarator k (one (identifier y) then missing then done) before empty) then done)) ≡ true
left-form l k x y text h =
    let old : Tree = node VariableDeclarator k (one x then missing then done) in
    let new : Tree = node VariableDeclarator k (one (identifier y) then missing then done) in
    let v = node_form s-ForLeft VariableDeclaration l (many (old before empty) then done) h in
    let one_of = (and_parts (has_form s-VariableDeclarator old) true (and_parts (has_form s-VariableDeclarator old && true) true v.children).0).0 in
    let r = node_form s-VariableDeclarator VariableDeclarator k (one x then missing then done) one_of in
    let name : has_form s-Binding (identifier y) ≡ true = rw text refl in
    let made_one = has_form-node s-VariableDeclarator VariableDeclarator k (one (identifier y) then missing then done) (record { sort = r.sort; texts = r.texts; flags = r.flags; start = r.start; stop = r.stop; agree = refl; children = and_from _ true name refl }) in
    has_form-node s-ForLeft VariableDeclaration (const_label l) (many (new before empty) then done) (record { sort = v.sort; texts = refl; flags = v.flags; start = v.start; stop = v.stop; agree = refl; children = and_from _ true (formed-first s-VariableDeclarator new empty made_one refl) refl })

-- the loop, whose block would stand so behind a pattern that moves, too
loop-form : (a : Sort) (m l k : Label) (x e b : Tree) (y : Bound) → l.texts ≡ Some (codes "using") ∷ [] → IsText y → has_form a (node ForOfStatement m (head_fields l k x e b)) ≡ true → has_form a (node ForOfStatement m (block_head l k y x e b)) ≡ true
loop-form a m l k x e b y word text h =
    let head : Tree = node VariableDeclaration l (many (node VariableDeclarator k (one x then missing then done) before empty) then done) in
    let d = node_form a ForOfStatement m (head_fields l k x e b) h in
    let first = and_parts (has_form s-ForLeft head) (has_form s-Expression e && (has_form s-Statement b && true)) d.children in
    let z : Text = first_text l.texts in
    let block : Text → Tree = λ z. block_node (declaration_node z (declarator_with x (identifier y) ∷ []) before b before empty) in
    let moved = (node_form a ForOfStatement m (new_head z y x e b) (for-each-form ForOfStatement a m l k x e b y for_of text h)).children in
    let later = (and_parts (has_form s-ForLeft (declaration_node z (declarator y ∷ []))) (has_form s-Expression e && (has_form s-Statement (block z) && true)) moved).1 in
    let behind = and_parts (has_form s-Expression e) (has_form s-Statement (block z) && true) later in
    let there : (has_form s-Statement (block (codes "using")) && true) ≡ true = subst (λ (z : Text). (has_form s-Statement (block z) && true) ≡ true) (ap first_text word) behind.1 in
    has_form-node a ForOfStatement m (block_head l k y x e b) (record { sort = d.sort; texts = d.texts; flags = d.flags; start = d.start; stop = d.stop; agree = refl; children = and_from _ _ (left-form l k x y text first.0) (and_from _ _ behind.0 there) })

walk-form : FormLawful HeadWalkRow
walk-form = nodes-only HeadWalkRow walk-only nodes
  where
    nodes : (n : Site) (s s' : Ledger) (t u : Tree) (a : Sort) → (is_slot n.above ≡ true → a ≡ s-Expression) → HeadWalkRow n s (at_node t) s' (at_node u) → has_form a t ≡ true → NodeFormed a s s' u
    nodes n s s' t u a slot (from_head {w = w} {q = q} m l k x e b c moves fresh) h = record {
      formed = loop-form a m l k x e b (next_name w c) (head-tests l k x e b moves).word (next-text w (node_base x) (next_name w c) (record { fresh = fresh; symbol = refl })) h;
      names = record { names = []; texts = tt; pending = no-names q; this = refl; top = refl };
    }

-- BODIES

record Formed (t : Open) : Type 0 where
  form : has_form s-ArrowFunctionBody (finished t) ≡ true
  proper : IsProper t
  expression : is_statement_body (finished t) ≡ false

body-stays : {n : Site} {s s' : Ledger} {t u : Open} → Step HeadWalkRow n s t s' u → is_statement_body (finished u) ≡ is_statement_body (finished t)
body-stays (acts {n = n} {s = s} {s' = s'} t u h) = ap is_statement_body (finished-opened u) ∙ walk-bodies n s s' (at_node t) (at_node u) h ∙ sym (ap is_statement_body (finished-opened t))
body-stays (inside {k = k} {l = l} {fs = fs} {gs = gs} h) = same-body k l l (finished_fields fs) (finished_fields gs)

-- of a tree, as it is opened
pub body-row : (n : Site) → n.role ≡ reads → (is_slot n.above ≡ true → s-ArrowFunctionBody ≡ s-Expression) → (o up : Pending) {s s' : Ledger} (t u : Tree) → has_form s-ArrowFunctionBody t ≡ true → is_statement_body t ≡ false → Steps (Step HeadWalkRow (site_in_body n up t)) s (opened t) s' (opened u) →
    Steps (FieldStep HeadWalkRow n) (ledger (whole_in s) o (this_in s) (top_in s)) (body (pending_in s) (opened t)) (ledger (whole_in s') o (this_in s') (top_in s')) (body (pending_in s') (opened u))
body-row n role slot o up t u f e row =
    body-inside HeadWalkRow walk-local n role up t Formed
    (λ s s' t u h k. let r = formed-after HeadWalkRow walk-form h s-ArrowFunctionBody slot k.proper k.form in record { form = r.formed; proper = r.proper; expression = body-stays h ∙ k.expression }) (λ t k. body-expression (finished t) k.form k.expression) o row
    (record { form = subst (λ (x : Tree). has_form s-ArrowFunctionBody x ≡ true) (sym (finished-opened t)) f; proper = opened-proper t; expression = subst (λ (z : Tree). is_statement_body z ≡ false) (sym (finished-opened t)) e })
