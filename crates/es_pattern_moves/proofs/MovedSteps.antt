-- Rows of a walk lead from a tree that has form, at its place, to what it becomes by moving, with one fresh name after the other.
use Rattle.std.proofs.Common.{◌≡◌, ◌∙◌, ◌≤◌, ◌<◌, ℕ, zero, suc, refl, sym, ap, arith, subst, length, List, [], ◌∷◌, true≢false}
use Rattle.std.specs.Prelude.{Bool, true, false, ◌&&◌, ◌||◌, ◌+◌, not, Option, None, codes, if◌then◌else◌}
use Rattle.std.proofs.lemmas.Bool.{and_from, and_parts, not-true, or_from, or_parts}
use Rattle.es_tree.specs.HasForm.{field_form, fields_form, has_form, is_of_sort, trees_form}
use Rattle.es_tree.specs.Attributes.{child_entries}
use Rattle.es_tree.specs.Fresh.{IsFreshName}
use Rattle.es_tree.specs.Names.{first_text}
use Rattle.es_tree.specs.RestTargets.{is_rest_target}
use Rattle.es_tree.specs.Tree.{Tree, node, Label, Fields, done, ◌then◌, Field, missing, one, many, statements, Trees, empty, ◌before◌}
use Rattle.es_tree.specs.Words.{Text}
use Rattle.es_tree.specs.declared.ast_type.AstType.{AstType}
use Rattle.es_tree.specs.declared.ast_type.AstType.TheVariants.{ArrowFunctionExpression, AssignmentPattern, BlockStatement, CatchClause, ForInStatement, ForOfStatement, FunctionBody, FunctionDeclaration, FunctionExpression, Identifier, ObjectTarget, VariableDeclaration, VariableDeclarator}
use Rattle.es_tree.specs.declared.table.Content.TheVariants.{Child as c-Child}
use Rattle.es_tree.specs.declared.table.Often.TheVariants.{Optional}
use Rattle.es_tree.specs.declared.table.Sort.{Sort}
use Rattle.es_tree.specs.declared.table.Sort.TheVariants.{ArrowFunctionBody as s-ArrowFunctionBody, Binding as s-Binding, BlockStatement as s-BlockStatement, Expression as s-Expression, FunctionBody as s-FunctionBody, Identifier as s-Identifier, Pattern as s-Pattern, PatternRest as s-PatternRest, Statement as s-Statement}
use Rattle.es_tree.proofs.NodeForm.{node_form}
use Rattle.es_resolution.specs.Declarations.{Bound}
use Rattle.es_resolution.specs.Named.{Named, NamedAll, NamedBy, NamedIn}
use Rattle.es_semantic.specs.RolesOf.{role_at}
use Rattle.es_semantic.specs.declared.place.Binding.TheVariants.{Parameter}
use Rattle.es_semantic.specs.declared.place.Role.{Role}
use Rattle.es_semantic.specs.declared.place.Role.TheVariants.{Binds}
use Rattle.es_changes.specs.Changes.{AsBody, Each, EachBy, EachIn}
use Rattle.es_changes.proofs.Expressions.{body-expression, law_expression_proof}
use Rattle.es_changes.proofs.StepRows.{steps-trans}
use Rattle.es_steps.specs.LoopHeads.{IsForEach, assigning_head, head_fields, new_head}
use Rattle.es_steps.specs.LoopHeads.IsForEach.{for_in, for_of}
use Rattle.es_steps.specs.Nodes.{block_node, identifier, joined_trees, made, return_node}
use Rattle.es_steps.specs.Open.{Additions, Pending, is_body, is_statement_body, no_additions, nothing_pending, opened}
use Rattle.es_steps.specs.ParameterPatterns.{IsFunctionName, body_fields}
use Rattle.es_steps.specs.ParameterPatterns.IsFunctionName.{named as a-name, nameless}
use Rattle.es_steps.specs.Patterns.{let_statement}
use Rattle.es_steps.specs.Rules.{next_name, with_made}
use Rattle.es_steps.specs.Steps.{IsExpression, Site, Step, Steps, Whole, ledger, site_in_body}
use Rattle.es_steps.specs.Steps.Spot.{at_node}
use Rattle.es_steps.specs.Steps.Step.{acts}
use Rattle.es_steps.specs.Steps.Steps.{goes, stays}
use Rattle.es_rest_rows.specs.RestRows.{binds_name}
use Rattle.es_rest_shapes.specs.RestShapes.{any_tree}
use Rattle.es_pattern_moves.specs.MoveRows.{MoveWalkRow, MovesOne}
use Rattle.es_pattern_moves.specs.MoveRows.MoveWalkRow.{from_arrow, from_catch, from_declaration, from_expression, from_head, from_target, from_value}
use Rattle.es_pattern_moves.specs.Moved.{Makes, all_declared, all_named, count_here, count_rests, moved, moved_among, moved_arrow, moved_by, moved_catch, moved_fields, moved_function, moved_head, moved_here, moved_in, name_of, returning, with_declared, with_symbols}
use Rattle.es_pattern_moves.specs.PatternMoves.{all_may_move, all_move, are_later, binds_let, body_declares, declared_later, default_apart, is_rest_parameter, is_value, may_move, meets_among, moves_from_arrow, moves_from_catch, moves_from_function, moves_from_head, moves_pattern, moves_with_body, pattern_of, stands, top_declares, var_declares}
use Rattle.es_pattern_moves.proofs.MovedCounts.{fields-more, here-more, trees-more}
use Rattle.es_pattern_moves.proofs.MovedForms.{walk-form}
use Rattle.es_pattern_moves.proofs.MovedInward.{FitsAt, IsField, are-fields, each-in, each-of, inward, sites}
use Rattle.es_pattern_moves.proofs.MovedNames.{among-never, parameter-moved, parameter-named, stands-neither}
use Rattle.es_pattern_moves.proofs.MovedParameters.{AreReady, SilentDefault, rows}
use Rattle.es_pattern_moves.proofs.InnerTrees.{holds_inner}
use Rattle.es_pattern_moves.proofs.MovedQuiet.{tree-none}
use Rattle.es_pattern_moves.proofs.MovedRows.{body-row, formed-tree, same-body, walk-local}
use Rattle.es_rest_steps.proofs.RowsInside.{row-inside}
use Rattle.es_pattern_moves.proofs.RowsLead.{LeadAmong, LeadBy, LeadIn, LeadTo, body-by as value-body-by, child-by, many-by, more-among, more-in, none-among, none-by, none-in, statement-body-by, statements-by}
use Rattle.es_pattern_moves.proofs.MovedSupply.{At, at-next, is-bound, is-fresh, taking}

-- BODIES of arrows that are values

-- what a body of this value declares its own `return` declares no more of
returned-declares : (e : Tree) (x : Text) → body_declares (e before empty) x ≡ false → body_declares (return_node e before empty) x ≡ false
returned-declares e x h =
    let all = (or_parts (top_declares x e || false) (var_declares x e || false) h).1 in
    let it = (or_parts (var_declares x e) false all).0 in
    rw it refl

returned-later : (e : Tree) (c : Trees) (x : Text) → declared_later c (e before empty) x ≡ false → declared_later c (return_node e before empty) x ≡ false
returned-later e c x h =
    let parts = or_parts (any_tree (binds_name x) c) (body_declares (e before empty) x) h in
    or_from (any_tree (binds_name x) c) (body_declares (return_node e before empty) x) parts.0 (returned-declares e x parts.1)

value-may-one : (e : Tree) (a : Trees) (t : Tree) (c : Trees) → may_move a t c (e before empty) ≡ true → may_move a t c (return_node e before empty) ≡ true
value-may-one e a t c h =
    let p : Tree = pattern_of t in
    let parts = and_parts (are_later c && not (meets_among p a) && not (meets_among p c) && default_apart t && not (binds_let p)) (not (stands (declared_later c (e before empty)) p)) h in
    let later = not-true (stands (declared_later c (e before empty)) p) parts.1 in
    let returned = stands-neither (declared_later c (e before empty)) (declared_later c (e before empty)) (declared_later c (return_node e before empty)) (λ x h k. returned-later e c x h) true p later later in
    and_from (are_later c && not (meets_among p a) && not (meets_among p c) && default_apart t && not (binds_let p)) (not (stands (declared_later c (return_node e before empty)) p)) parts.0 (ap not returned)

value-may : (e : Tree) (a c : Trees) → all_may_move a c (e before empty) ≡ true → all_may_move a c (return_node e before empty) ≡ true
value-may e a empty h = refl
value-may e a (t before c) h =
    let parts = and_parts (not (is_rest_parameter t) || may_move a t c (e before empty)) (all_may_move (joined_trees a (t before empty)) c (e before empty)) h in
    and_from (not (is_rest_parameter t) || may_move a t c (return_node e before empty)) (all_may_move (joined_trees a (t before empty)) c (return_node e before empty)) (at (not (is_rest_parameter t)) parts.0) (value-may e (joined_trees a (t before empty)) c parts.1)
  where
    at : (b : Bool) → (b || may_move a t c (e before empty)) ≡ true → (b || may_move a t c (return_node e before empty)) ≡ true
    at true k = refl
    at false k = value-may-one e a t c k

value-declared : (m : Makes) (n : ℕ) (ps : Trees) (e : Tree) → is_value e ≡ true → with_declared m n ps e ≡ returning m (all_declared m n ps) e
value-declared m n ps (node FunctionBody l fs) h = absurd (cc h)
value-declared m n ps e h = refl

value-no-body : (e : Tree) → is_value e ≡ true → is_statement_body e ≡ false
value-no-body (node FunctionBody l fs) h = absurd (cc h)
value-no-body _ h = refl

-- the body of a function that is no arrow is none
body-no-value : (b : Tree) → has_form s-FunctionBody b ≡ true → is_value b ≡ false
body-no-value (node k l fs) h = at k (node_form s-FunctionBody k l fs h).sort
  where
    at : (k : AstType) → is_of_sort s-FunctionBody k ≡ true → is_value (node k l fs) ≡ false
    at FunctionBody e = refl
    at _ e = absurd (cc e)

no-value : (last : Sort) (ps : Trees) (e : Tree) → is_value e ≡ true → (trees_form s-Pattern last ps && (has_form s-FunctionBody e && true)) ≡ true → ⊥
no-value last ps e value h =
    let parts = and_parts (trees_form s-Pattern last ps) (has_form s-FunctionBody e && true) h in
    true≢false (sym value ∙ body-no-value e (and_parts (has_form s-FunctionBody e) true parts.1).0)

-- WHAT MOVES

data IsCatch : Fields → Type 0 where
  a_catch : (p b : Tree) → moves_from_catch (one p then one b then done) ≡ true → IsCatch (one p then one b then done)

catch-shape : (fs : Fields) → moves_from_catch fs ≡ true → IsCatch fs
catch-shape (one p then one b then done) h = a_catch p b h
catch-shape _ h = absurd (cc h)

data IsHead : Fields → Type 0 where
  a_head : (l l' : Label) (p e b : Tree) → moves_from_head (head_fields l l' p e b) ≡ true → IsHead (head_fields l l' p e b)
  a_target : (l : Label) (gs : Fields) (e b : Tree) → is_rest_target (one (node ObjectTarget l gs)) ≡ true → IsHead (one (node ObjectTarget l gs) then one e then one b then done)

head-shape : (fs : Fields) → moves_from_head fs ≡ true → IsHead fs
head-shape (one (node VariableDeclaration l (many (node VariableDeclarator l' (one p then missing then done) before empty) then done)) then one e then one b then done) h = a_head l l' p e b h
head-shape (one (node ObjectTarget l gs) then one e then one b then done) h = a_target l gs e b h
head-shape _ h = absurd (cc h)

data IsMovingBody (ps : Trees) : Tree → Type 0 where
  a_body : (l : Label) (ds ts : Trees) → all_may_move empty ps ts ≡ true → IsMovingBody ps (node FunctionBody l (body_fields ds ts))
  a_value : (e : Tree) → is_value e ≡ true → all_move ps (e before empty) ≡ true → IsMovingBody ps e

body-shape : (ps : Trees) (b : Tree) → moves_with_body ps b ≡ true → IsMovingBody ps b
body-shape ps (node FunctionBody l (many ds then statements ts then done)) h = a_body l ds ts (and_parts (any_tree is_rest_parameter ps) (all_may_move empty ps ts) h).1
body-shape ps e h = let parts = and_parts (is_value e) (all_move ps (e before empty)) h in a_value e parts.0 parts.1

data IsFunctionWith : Fields → Type 0 where
  a_function : (f : Field) (ps : Trees) (b : Tree) → IsMovingBody ps b → IsFunctionWith (f then many ps then one b then done)

function-shape : (fs : Fields) → moves_from_function fs ≡ true → IsFunctionWith fs
function-shape (f then many ps then one b then done) h = a_function f ps b (body-shape ps b h)
function-shape _ h = absurd (cc h)

data IsArrowWith : Fields → Type 0 where
  an_arrow : (ps : Trees) (b : Tree) → IsMovingBody ps b → IsArrowWith (many ps then one b then done)

arrow-shape : (fs : Fields) → moves_from_arrow fs ≡ true → IsArrowWith fs
arrow-shape (many ps then one b then done) h = an_arrow ps b (body-shape ps b h)
arrow-shape _ h = absurd (cc h)

data IsBlock : Tree → Type 0 where
  a_block : (l : Label) (ts : Trees) → IsBlock (node BlockStatement l (statements ts then done))

block-fields : (l : Label) (fs : Fields) → fields_form BlockStatement l (child_entries BlockStatement) fs ≡ true → IsBlock (node BlockStatement l fs)
block-fields l (statements ts then done) h = a_block l ts
block-fields l (statements ts then f then fs) h = absurd (cc (and_parts (trees_form s-Statement s-Statement ts) _ h).1)
block-fields l (missing then fs) h = absurd (cc h)
block-fields l (one t then fs) h = absurd (cc h)
block-fields l (many ts then fs) h = absurd (cc h)
block-fields l done h = absurd (cc h)

block-kind : (l : Label) (k : AstType) (fs : Fields) → has_form s-BlockStatement (node k l fs) ≡ true → k ≡ BlockStatement
block-kind l k fs h = at k (node_form s-BlockStatement k l fs h).sort
  where
    at : (k : AstType) → is_of_sort s-BlockStatement k ≡ true → k ≡ BlockStatement
    at BlockStatement e = refl
    at _ e = absurd (cc e)

block-shape : (b : Tree) → has_form s-BlockStatement b ≡ true → IsBlock b
block-shape (node k l fs) h =
    let e = block-kind l k fs h in
    let form : has_form s-BlockStatement (node BlockStatement l fs) ≡ true = subst (λ (j : AstType). has_form s-BlockStatement (node j l fs) ≡ true) e h in
    subst (λ (j : AstType). IsBlock (node j l fs)) (sym e) (block-fields l fs (node_form s-BlockStatement BlockStatement l fs form).children)

-- WHAT HAS FORM

name-kind : (l : Label) (k : AstType) (fs : Fields) → has_form s-Identifier (node k l fs) ≡ true → k ≡ Identifier
name-kind l k fs h = at k (node_form s-Identifier k l fs h).sort
  where
    at : (k : AstType) → is_of_sort s-Identifier k ≡ true → k ≡ Identifier
    at Identifier e = refl
    at _ e = absurd (cc e)

name-fields : (l : Label) (fs : Fields) → fields_form Identifier l (child_entries Identifier) fs ≡ true → IsFunctionName (one (node Identifier l fs))
name-fields l done h = a-name
name-fields l (f then fs) h = absurd (cc h)

name-shape : (t : Tree) → has_form s-Identifier t ≡ true → IsFunctionName (one t)
name-shape (node k l fs) h =
    let e = name-kind l k fs h in
    let form : has_form s-Identifier (node Identifier l fs) ≡ true = subst (λ (j : AstType). has_form s-Identifier (node j l fs) ≡ true) e h in
    subst (λ (j : AstType). IsFunctionName (one (node j l fs))) (sym e) (name-fields l fs (node_form s-Identifier Identifier l fs form).children)

function-name : (k : AstType) (l : Label) (f : Field) → field_form k l (c-Child s-Identifier Optional) f ≡ true → IsFunctionName f
function-name k l missing h = nameless
function-name k l (one t) h = name-shape t h
function-name k l (many ts) h = absurd (cc h)
function-name k l (statements ts) h = absurd (cc h)

silent-default : (names : List Text) (first : ℕ) (base : Text → Bool) (s : Sort) (t : Tree) → has_form s t ≡ true → SilentDefault names first base t
silent-default names first base s (node AssignmentPattern l (one p then one d then done)) h =
    let parts = and_parts (has_form s-Pattern p) (has_form s-Expression d && true) (node_form s AssignmentPattern l (one p then one d then done) h).children in
    (law_expression_proof d (and_parts (has_form s-Expression d) true parts.1).0).declares_nothing
silent-default names first base s t h = tt

quiet-pattern : (x : Text) (s : Sort) (t : Tree) → holds_inner s ≡ true → has_form s t ≡ true → var_declares x (pattern_of t) ≡ false
quiet-pattern x s (node AssignmentPattern l (one p then fs)) inner h = tree-none x s-Pattern p refl (and_parts (has_form s-Pattern p) _ (node_form s AssignmentPattern l (one p then fs) h).children).0
quiet-pattern x s t inner h = tree-none x s t inner h

module _ (names : List Text) (first : ℕ) (base : Text → Bool) (free : ℕ) where
  abbrev m : Makes
  m = with_symbols names first

  -- NAMES IN USE

  abbrev AreUsed : Trees → Type 0
  AreUsed empty = Unit {0}
  AreUsed (t before ts) = ((x : Text) → base x ≡ false → binds_name x (pattern_of t) ≡ false) × AreUsed ts

  are-used : (i : ℕ) (ts : Trees) → NamedAll base free (Binds Parameter) ts → AreUsed (moved_among m i ts).1
  are-used i empty h = tt
  are-used i (t before ts) h = ((λ x e. parameter-moved x m i t ∙ parameter-named x base free Parameter e t h.0), are-used (moved m i t).0 ts h.1)

  abbrev UsedIn : AstType → Fields → Type 0
  UsedIn FunctionDeclaration (f then many ps then fs) = AreUsed ps
  UsedIn FunctionExpression (f then many ps then fs) = AreUsed ps
  UsedIn ArrowFunctionExpression (many ps then fs) = AreUsed ps
  UsedIn k fs = Unit {0}

  used-in : (i : ℕ) (r : Role) (k : AstType) (l : Label) (fs gs : Fields) → NamedIn base free (role_at r k l fs) gs → UsedIn k (moved_in m i gs).1
  used-in i r FunctionDeclaration l fs (f then many ps then gs) h = are-used (moved_by m i f).0 ps h.1.0
  used-in i r FunctionExpression l fs (f then many ps then gs) h = are-used (moved_by m i f).0 ps h.1.0
  used-in i r ArrowFunctionExpression l fs (many ps then gs) h = are-used i ps h.0
  used-in i r k l fs gs h = tt

  are-ready : (ts : Trees) → trees_form s-Pattern s-PatternRest ts ≡ true → AreUsed ts → AreReady names first base ts
  are-ready empty h used = tt
  are-ready (t before empty) h used =
      let form = (and_parts (has_form s-PatternRest t) true h).0 in
      (record { silent = silent-default names first base s-PatternRest t form; quiet = λ x. quiet-pattern x s-PatternRest t refl form; used = used.0 }, tt)
  are-ready (t before u before ts) h used =
      let parts = and_parts (has_form s-Pattern t) (trees_form s-Pattern s-PatternRest (u before ts)) h in
      (record { silent = silent-default names first base s-Pattern t parts.0; quiet = λ x. quiet-pattern x s-Pattern t refl parts.0; used = used.0 }, are-ready (u before ts) parts.1 used.1)

  -- WHAT IS LEFT

  -- these names are had there
  abbrev pub There : Whole → ℕ → Type 0
  There w i = At names first base w i

  abbrev pub LeftTo : Site → Whole → Tree → ℕ × Tree → Type 0
  LeftTo n w t r = LeadTo MoveWalkRow There n w t r

  -- A NODE

  -- by one row
  one-row : (n : Site) (i : ℕ) (w : Whole) (t u v : Tree) → At names first base w i → i < length names → u ≡ v →
      ((q : Pending) (s : Option Bound) (y : Additions) → MoveWalkRow n (ledger w q s y) (at_node t) (ledger (taking names first base w i) q s y) (at_node u)) → LeftTo n w t (i + 1, v)
  one-row n i w t u v here lt e row =
      let one_more : suc i ≡ i + 1 = omega arith in
      record {
        after = taking names first base w i;
        there = subst (λ (j : ℕ). At names first base (taking names first base w i) j) one_more (at-next names first base w i here lt);
        steps = λ q s y. goes (acts t u (row q s y)) (subst (λ (z : Tree). Steps (Step MoveWalkRow n) (ledger (taking names first base w i) q s y) (opened u) (ledger (taking names first base w i) q s y) (opened z)) e stays);
      }

  module _ (n : Site) (i : ℕ) (w : Whole) (here : At names first base w i) where
    abbrev x : Text
    x = name_of names i

    from-block : (m' : Label) (p b : Tree) → moves_from_catch (one p then one b then done) ≡ true → IsBlock b → i < length names → LeftTo n w (node CatchClause m' (one p then one b then done)) (i + 1, node CatchClause m' (moved_catch m i (one p then one b then done)))
    from-block m' p b moves (a_block l bs) lt =
        let b : Tree = node BlockStatement l (statements bs then done) in
        one-row n i w (node CatchClause m' (one p then one b then done)) (node CatchClause m' (one (identifier (next_name w x)) then one (block_node (let_statement p (next_name w x) before b before empty)) then done)) (node CatchClause m' (moved_catch m i (one p then one b then done))) here lt
        (ap (λ (z : Bound). node CatchClause m' (one (identifier z) then one (block_node (let_statement p z before b before empty)) then done)) (is-bound names first base w i here lt)) (λ q s y. from_catch m' l p bs x moves (is-fresh names first base w i here lt))

    catch-left : (s : Sort) (l : Label) {fs : Fields} → IsCatch fs → has_form s (node CatchClause l fs) ≡ true → i + 1 ≤ length names → LeftTo n w (node CatchClause l fs) (i + 1, node CatchClause l (moved_catch m i fs))
    catch-left s l (a_catch p b moves) form le =
        let parts = and_parts (has_form s-Binding p) (has_form s-BlockStatement b && true) (node_form s CatchClause l (one p then one b then done) form).children in
        from-block l p b moves (block-shape b (and_parts (has_form s-BlockStatement b) true parts.1).0) (omega (arith, le))

    head-left : (k : AstType) → IsForEach k → (m' : Label) {fs : Fields} → IsHead fs → i + 1 ≤ length names → LeftTo n w (node k m' fs) (i + 1, node k m' (moved_head m i fs))
    head-left k each m' (a_head l l' p e b moves) le =
        let lt : i < length names = omega (arith, le) in
        one-row n i w (node k m' (head_fields l l' p e b)) (node k m' (new_head (first_text l.texts) (next_name w x) p e b)) (node k m' (moved_head m i (head_fields l l' p e b))) here lt (ap (λ (z : Bound). node k m' (new_head (first_text l.texts) z p e b)) (is-bound names first base w i here lt))
        (λ q s y. from_head m' l l' p e b x each moves (is-fresh names first base w i here lt))
    head-left k each m' (a_target l gs e b rest) le =
        let t : Tree = node ObjectTarget l gs in
        let lt : i < length names = omega (arith, le) in
        one-row n i w (node k m' (one t then one e then one b then done)) (node k m' (assigning_head (next_name w x) t e b)) (node k m' (moved_head m i (one t then one e then one b then done))) here lt (ap (λ (z : Bound). node k m' (assigning_head z t e b)) (is-bound names first base w i here lt))
        (λ q s y. from_target m' t e b x each rest (is-fresh names first base w i here lt))

    -- all parameters of a function
    function-rows : (build : Trees → Trees → Tree) (ps ts : Trees) →
        ((v : Whole) (z : Text) (cs bs us vs : Trees) (q : Pending) (s : Option Bound) (y : Additions) → IsFreshName v.in_use (codes "ref") z → MovesOne v z cs bs us vs → MoveWalkRow n (ledger v q s y) (at_node (build cs us)) (ledger (with_made (next_name v z ∷ []) v) q s y) (at_node (build bs vs))) →
        AreReady names first base ps → all_may_move empty ps ts ≡ true → i + count_rests ps ≤ length names → LeftTo n w (build ps ts) (i + count_rests ps, build (all_named m i ps) (joined_trees (all_declared m i ps) ts))
    function-rows build ps ts row ready may le =
        let r = rows names first base n build ts row ps empty empty empty i w here le refl (λ test new e. e) refl ready (among-never (body_declares empty) (λ y. refl) ps) may in
        record { after = r.after; there = r.there; steps = r.steps }

    declaration-left : (s : Sort) (m' : Label) {fs : Fields} → IsFunctionWith fs → has_form s (node FunctionDeclaration m' fs) ≡ true → UsedIn FunctionDeclaration fs → i + count_here FunctionDeclaration fs ≤ length names → LeftTo n w (node FunctionDeclaration m' fs) (i + count_here FunctionDeclaration fs, node FunctionDeclaration m' (moved_function m i fs))
    declaration-left s m' (a_function f ps b' (a_body l ds ts moves)) form used le =
        let b : Tree = node FunctionBody l (many ds then statements ts then done) in
        let parts = and_parts (field_form FunctionDeclaration m' (c-Child s-Identifier Optional) f) (trees_form s-Pattern s-PatternRest ps && (has_form s-FunctionBody b && true)) (node_form s FunctionDeclaration m' (f then many ps then one b then done) form).children in
        let lists = and_parts (trees_form s-Pattern s-PatternRest ps) (has_form s-FunctionBody b && true) parts.1 in
        function-rows (λ cs us. node FunctionDeclaration m' (f then many cs then one (node FunctionBody l (body_fields ds us)) then done)) ps ts (λ v z cs bs us vs q s y fresh h. from_declaration m' l cs bs ds us vs z (function-name FunctionDeclaration m' f parts.0) fresh h) (are-ready ps lists.0 used)
        moves le
    declaration-left s m' (a_function f ps b (a_value e value moves)) form used le =
        let parts = and_parts (field_form FunctionDeclaration m' (c-Child s-Identifier Optional) f) (trees_form s-Pattern s-PatternRest ps && (has_form s-FunctionBody e && true)) (node_form s FunctionDeclaration m' (f then many ps then one e then done) form).children in
        absurd (no-value s-PatternRest ps e value parts.1)

    expression-left : (s : Sort) (m' : Label) {fs : Fields} → IsFunctionWith fs → has_form s (node FunctionExpression m' fs) ≡ true → UsedIn FunctionExpression fs → i + count_here FunctionExpression fs ≤ length names → LeftTo n w (node FunctionExpression m' fs) (i + count_here FunctionExpression fs, node FunctionExpression m' (moved_function m i fs))
    expression-left s m' (a_function f ps b' (a_body l ds ts moves)) form used le =
        let b : Tree = node FunctionBody l (many ds then statements ts then done) in
        let parts = and_parts (field_form FunctionExpression m' (c-Child s-Identifier Optional) f) (trees_form s-Pattern s-PatternRest ps && (has_form s-FunctionBody b && true)) (node_form s FunctionExpression m' (f then many ps then one b then done) form).children in
        let lists = and_parts (trees_form s-Pattern s-PatternRest ps) (has_form s-FunctionBody b && true) parts.1 in
        function-rows (λ cs us. node FunctionExpression m' (f then many cs then one (node FunctionBody l (body_fields ds us)) then done)) ps ts (λ v z cs bs us vs q s y fresh h. from_expression m' l cs bs ds us vs z (function-name FunctionExpression m' f parts.0) fresh h) (are-ready ps lists.0 used)
        moves le
    expression-left s m' (a_function f ps b (a_value e value moves)) form used le =
        let parts = and_parts (field_form FunctionExpression m' (c-Child s-Identifier Optional) f) (trees_form s-Pattern s-PatternRest ps && (has_form s-FunctionBody e && true)) (node_form s FunctionExpression m' (f then many ps then one e then done) form).children in
        absurd (no-value s-PatternRest ps e value parts.1)

    -- an arrow gets a body first
    value-left : (m' : Label) (ps : Trees) (e : Tree) → IsExpression e → is_value e ≡ true → all_move ps (e before empty) ≡ true → AreReady names first base ps → i + count_rests ps ≤ length names →
        LeftTo n w (node ArrowFunctionExpression m' (many ps then one e then done)) (i + count_rests ps, node ArrowFunctionExpression m' (moved_arrow m i (many ps then one e then done)))
    value-left m' ps e x value moves ready le =
        let build : Trees → Trees → Tree = λ cs us. node ArrowFunctionExpression m' (many cs then one (node FunctionBody (made [] []) (body_fields empty us)) then done) in
        let body : Trees = return_node e before empty in
        let may = value-may e empty ps (and_parts (any_tree is_rest_parameter ps) (all_may_move empty ps (e before empty)) moves).1 in
        let r = function-rows build ps body (λ v z cs bs us vs q s y fresh h. from_arrow m' (made [] []) cs bs empty us vs z fresh h) ready may le in
        let same : build (all_named m i ps) (joined_trees (all_declared m i ps) body) ≡ node ArrowFunctionExpression m' (moved_arrow m i (many ps then one e then done)) =
        ap (λ (b : Tree). node ArrowFunctionExpression m' (many (all_named m i ps) then one b then done)) (sym (value-declared m i ps e value)) in
        record {
          after = r.after;
          there = r.there;
          steps = λ q s y.
              goes (acts (node ArrowFunctionExpression m' (many ps then one e then done)) (build ps body) (from_value m' ps e x value moves))
              (subst (λ (z : Tree). Steps (Step MoveWalkRow n) (ledger w q s y) (opened (build ps body)) (ledger r.after q s y) (opened z)) same (r.steps q s y));
        }

    arrow-left : (s : Sort) (m' : Label) {fs : Fields} → IsArrowWith fs → has_form s (node ArrowFunctionExpression m' fs) ≡ true → UsedIn ArrowFunctionExpression fs → i + count_here ArrowFunctionExpression fs ≤ length names → LeftTo n w (node ArrowFunctionExpression m' fs) (i + count_here ArrowFunctionExpression fs, node ArrowFunctionExpression m' (moved_arrow m i fs))
    arrow-left s m' (an_arrow ps b' (a_body l ds ts moves)) form used le =
        let b : Tree = node FunctionBody l (many ds then statements ts then done) in
        let lists = and_parts (trees_form s-Pattern s-PatternRest ps) (has_form s-ArrowFunctionBody b && true) (node_form s ArrowFunctionExpression m' (many ps then one b then done) form).children in
        function-rows (λ cs us. node ArrowFunctionExpression m' (many cs then one (node FunctionBody l (body_fields ds us)) then done)) ps ts (λ v z cs bs us vs q s y fresh h. from_arrow m' l cs bs ds us vs z fresh h) (are-ready ps lists.0 used)
        moves le
    arrow-left s m' (an_arrow ps b (a_value e value moves)) form used le =
        let lists = and_parts (trees_form s-Pattern s-PatternRest ps) (has_form s-ArrowFunctionBody e && true) (node_form s ArrowFunctionExpression m' (many ps then one e then done) form).children in
        let inner = (and_parts (has_form s-ArrowFunctionBody e) true lists.1).0 in
        value-left m' ps e (body-expression e inner (value-no-body e value)) value moves (are-ready ps lists.0 used) le

    moving : (s : Sort) (k : AstType) (l : Label) (fs : Fields) → moves_pattern k l fs ≡ true → has_form s (node k l fs) ≡ true → UsedIn k fs → i + count_here k fs ≤ length names → LeftTo n w (node k l fs) (i + count_here k fs, node k l (moved_fields m i k fs))
    moving s CatchClause l fs moves form used le = catch-left s l (catch-shape fs moves) form le
    moving s ForInStatement l fs moves form used le = head-left ForInStatement for_in l (head-shape fs moves) le
    moving s ForOfStatement l fs moves form used le = head-left ForOfStatement for_of l (head-shape fs moves) le
    moving s FunctionDeclaration l fs moves form used le = declaration-left s l (function-shape fs moves) form used le
    moving s FunctionExpression l fs moves form used le = expression-left s l (function-shape fs moves) form used le
    moving s ArrowFunctionExpression l fs moves form used le = arrow-left s l (arrow-shape fs moves) form used le
    moving s _ l fs moves form used le = absurd (true≢false (sym moves))

    abbrev InSupply : ℕ × Tree → Type 0
    InSupply r = r.0 ≤ length names

    -- a node whose fields were moved
    here-left : (s : Sort) (k : AstType) (l : Label) (fs : Fields) → has_form s (node k l fs) ≡ true → UsedIn k fs → (moved_here m i k l fs).0 ≤ length names → LeftTo n w (node k l fs) (moved_here m i k l fs)
    here-left s k l fs form used le = at (moves_pattern k l fs) refl le
      where
        at : (b : Bool) → moves_pattern k l fs ≡ b → InSupply (if b then (i + count_here k fs, node k l (moved_fields m i k fs)) else (i, node k l fs)) → LeftTo n w (node k l fs) (if b then (i + count_here k fs, node k l (moved_fields m i k fs)) else (i, node k l fs))
        at true e h = moving s k l fs e form used h
        at false e h = record { after = w; there = here; steps = λ q s y. stays }

  -- FIELDS

  -- a moved node is a body of statements where it was
  abbrev SameBody : Tree → ℕ × Tree → Type 0
  SameBody t r = is_statement_body r.1 ≡ is_statement_body t

  body-kept : (i : ℕ) (t : Tree) → is_statement_body (moved m i t).1 ≡ is_statement_body t
  body-kept i (node k l fs) = at (moves_pattern k l (moved_in m i fs).1)
    where
      at : (b : Bool) → SameBody (node k l fs) (if b then ((moved_in m i fs).0 + count_here k (moved_in m i fs).1, node k l (moved_fields m (moved_in m i fs).0 k (moved_in m i fs).1)) else ((moved_in m i fs).0, node k l (moved_in m i fs).1))
      at true = same-body k l l fs (moved_fields m (moved_in m i fs).0 k (moved_in m i fs).1)
      at false = same-body k l l fs (moved_in m i fs).1

  -- in a field that may be the body of an arrow
  body-by : (n : Site) (i : ℕ) (w : Whole) (t : Tree) → IsField true n → (v : Bool) → is_statement_body t ≡ v → AsBody FitsAt n v t → ((c : Site) → FitsAt c t → LeftTo c w t (moved m i t)) → LeadBy MoveWalkRow There n true w (one t) ((moved m i t).0, one (moved m i t).1)
  body-by n i w t place true e fit walk = statement-body-by MoveWalkRow There n w t (moved m i t) (body-kept i t) e (walk n fit)
  body-by n i w t place false e fit walk =
      let left = walk (site_in_body n nothing_pending t) fit in
      let sort = fit.arrow place.place in
      value-body-by MoveWalkRow There n w t (moved m i t) (body-kept i t) e left.after left.there
      (λ q s y. body-row walk-form n (place.role refl) (λ d. sym sort ∙ fit.slot d) q nothing_pending t (moved m i t).1 (subst (λ (a : Sort). has_form a t ≡ true) sort fit.formed) e (left.steps nothing_pending s y))

  one-by : (n : Site) (v : Bool) (i : ℕ) (w : Whole) (t : Tree) → IsField v n → EachBy FitsAt n v (one t) → ((c : Site) → FitsAt c t → LeftTo c w t (moved m i t)) → LeadBy MoveWalkRow There n v w (one t) ((moved m i t).0, one (moved m i t).1)
  one-by n true i w t place fit walk = body-by n i w t place (is_statement_body t) refl fit walk
  one-by n false i w t place fit walk = child-by MoveWalkRow There n w t (moved m i t) (walk n fit)

  -- A TREE
  mutual
    pub tree-left : (n : Site) (r : Role) (t : Tree) (i : ℕ) (w : Whole) → FitsAt n t → Named base free r t → At names first base w i → (moved m i t).0 ≤ length names → LeftTo n w t (moved m i t)
    tree-left n r (node k l fs) i w fit named here le =
        let gs : Fields = (moved_in m i fs).1 in
        let j : ℕ = (moved_in m i fs).0 in
        let parts = fields-left (sites n k l fs) (is_body k) (role_at r k l fs) fs i w (are-fields n k l fs) (inward n k l fs fit.sort fit.formed) named.1 here (omega (arith, le, here-more m j k l gs)) in
        let row : (q : Pending) (s : Option Bound) (y : Additions) → Steps (Step MoveWalkRow n) (ledger w q s y) (opened (node k l fs)) (ledger parts.after q s y) (opened (node k l gs)) = λ q s y. row-inside MoveWalkRow walk-local n k l (parts.steps q s y) in
        let form = formed-tree walk-form fit.sort (node k l fs) (node k l gs) fit.slot (row nothing_pending None no_additions) fit.formed in
        let end = here-left n j parts.after parts.there fit.sort k l gs form (used-in i r k l fs fs named.1) le in
        record { after = end.after; there = end.there; steps = λ q s y. steps-trans (row q s y) (end.steps q s y) }

    fields-left : (c : ℕ → Site) (bodies : ℕ → Bool) (roles : ℕ → Role) (fs : Fields) (i : ℕ) (w : Whole) → ((j : ℕ) → IsField (bodies j) (c j)) → EachIn FitsAt c bodies fs → NamedIn base free roles fs → At names first base w i → (moved_in m i fs).0 ≤ length names → LeadIn MoveWalkRow There c bodies w fs (moved_in m i fs)
    fields-left c bodies roles done i w places fit named here le = none-in MoveWalkRow There c bodies i w here
    fields-left c bodies roles (f then fs) i w places fit named here le =
        let j : ℕ = (moved_by m i f).0 in
        let head = field-left (c zero) (bodies zero) (roles zero) f i w (places zero) fit.0 named.0 here (omega (arith, le, fields-more m j fs)) in
        let tail = fields-left (λ a. c (suc a)) (λ a. bodies (suc a)) (λ a. roles (suc a)) fs j head.after (λ a. places (suc a)) fit.1 named.1 head.there le in
        more-in MoveWalkRow There c bodies w f fs (moved_by m i f) (moved_in m j fs) head tail

    field-left : (n : Site) (v : Bool) (r : Role) (f : Field) (i : ℕ) (w : Whole) → IsField v n → EachBy FitsAt n v f → NamedBy base free r f → At names first base w i → (moved_by m i f).0 ≤ length names → LeadBy MoveWalkRow There n v w f (moved_by m i f)
    field-left n v r missing i w place fit named here le = none-by MoveWalkRow There n v i w here
    field-left n v r (one t) i w place fit named here le = one-by n v i w t place fit (λ c d. tree-left c r t i w d named here le)
    field-left n v r (many ts) i w place fit named here le = many-by MoveWalkRow There n v w ts (moved_among m i ts) (trees-left n r ts i w (each-of n v ts fit) named here le)
    field-left n v r (statements ts) i w place fit named here le = statements-by MoveWalkRow There n v w ts (moved_among m i ts) (trees-left n r ts i w (each-in n v ts fit) named here le)

    trees-left : (n : Site) (r : Role) (ts : Trees) (i : ℕ) (w : Whole) → Each FitsAt n ts → NamedAll base free r ts → At names first base w i → (moved_among m i ts).0 ≤ length names → LeadAmong MoveWalkRow There n w ts (moved_among m i ts)
    trees-left n r empty i w fit named here le = none-among MoveWalkRow There n i w here
    trees-left n r (t before ts) i w fit named here le =
        let j : ℕ = (moved m i t).0 in
        let head = tree-left n r t i w fit.0 named.0 here (omega (arith, le, trees-more m j ts)) in
        let tail = trees-left n r ts j head.after fit.1 named.1 head.there le in
        more-among MoveWalkRow There n w t ts (moved m i t) (moved_among m j ts) head tail
