-- What `using` becomes at the top of a function's body or of a static block has form and keeps the static rules of places: the body, or
-- the static block, is the one node that changes.
use Rattle.std.proofs.Common.{◌≡◌, inl, refl, List}
use Rattle.std.specs.Prelude.{◌⊎◌, true, false}
use Rattle.std.proofs.lemmas.Bool.{and_from}
use Rattle.es_tree.specs.Ancestors.{Ancestor, ancestor, is_labeled_loop}
use Rattle.es_tree.specs.HasForm.{has_form, trees_form}
use Rattle.es_tree.specs.Tree.{Tree, node, Label, Field, Fields, done, ◌then◌, many, statements, Trees, empty, ◌before◌, kind_of}
use Rattle.es_tree.specs.declared.ast_type.AstType.{AstType}
use Rattle.es_tree.specs.declared.ast_type.AstType.TheVariants.{FunctionBody, Identifier, StaticBlock}
use Rattle.es_tree.specs.declared.table.Sort.{Sort}
use Rattle.es_tree.specs.declared.table.Sort.TheVariants.{Statement as s-Statement}
use Rattle.es_tree.proofs.NodeForm.{node_form, has_form-node}
use Rattle.es_semantic.proofs.FormEdges.{EdgesIn}
use Rattle.es_resolution.specs.Declarations.{Bound}
use Rattle.es_steps.specs.Nodes.{joined_trees}
use Rattle.es_steps.specs.Open.{is_import}
use Rattle.es_steps.specs.ParameterPatterns.{body_fields}
use Rattle.es_steps.specs.Rules.{next_name}
use Rattle.es_steps.specs.Steps.{Ledger, Site, Spot, the_program}
use Rattle.es_steps.specs.Steps.Spot.{at_node}
use Rattle.es_steps.specs.UsingBlocks.{Constants, error_of, protected}
use Rattle.es_steps.specs.UsingBodies.{BodyUsing, IsClass, body, class_fields, static_block}
use Rattle.es_steps.specs.UsingBodies.BodyUsing.{of_declaration, of_expression, of_arrow, of_static_block}
use Rattle.es_steps.specs.UsingBodies.IsClass.{class_declaration, class_expression}
use Rattle.es_steps.proofs.FormMembers.{formed-first}
use Rattle.es_steps.proofs.FormParts.{IsText, and-left, and-right}
use Rattle.es_steps.proofs.FormRules.{AtNodes}
use Rattle.es_valid_steps.specs.PlaceRules.{Keeps, KeepsIn}
use Rattle.es_valid_steps.proofs.Changed.{Changed, ChangedFields, ChangedTrees, same-trees}
use Rattle.es_valid_steps.proofs.Changed.Changed.{inside, stays}
use Rattle.es_valid_steps.proofs.Changed.ChangedField.{child_changed, children_changed, list_changed, same_field}
use Rattle.es_valid_steps.proofs.Changed.ChangedFields.{ends, more}
use Rattle.es_valid_steps.proofs.Changed.ChangedTrees.{some}
use Rattle.es_valid_steps.proofs.Edges.{edges, stands}
use Rattle.es_valid_steps.proofs.KeptNodes.{alike-changed, here-kept}
use Rattle.es_valid_steps.proofs.Moves.{in-moved}
use Rattle.es_valid_steps.proofs.Offers.{near-self, near-within, offers-self, offers-within}
use Rattle.es_valid_using.proofs.UsingForms.{constants-form, context-text, protected-form}
use Rattle.es_valid_using.proofs.UsingMoves.{Becomes, SameBeside, joined-becomes}
use Rattle.es_valid_using.proofs.UsingMoves.Becomes.{here, deep}
use Rattle.es_valid_using.proofs.UsingMoves.FieldsBecome.{at_first, at_later}
use Rattle.es_valid_using.proofs.UsingMoves.FieldBecomes.{at_one, at_many}
use Rattle.es_valid_using.proofs.UsingMoves.TreesBecome.{at_head}
use Rattle.es_valid_using.proofs.UsingPlacesBlocks.{list-keeps}
use Rattle.es_valid_using.proofs.UsingPlacesBlocks.ListPlace.{in_a_body, in_a_static_block}
use Rattle.es_valid_using.proofs.UsingTrees.{Framed, UsingLawful, tree-after}

-- THE BODY, or the static block, by itself

data ListUsing (c u : Bound) : Site → Ledger → Spot → Ledger → Spot → Type 0 where
  of_body : {n : Site} {s : Ledger} {l : Label} {ds ts us : Trees} → Constants c ts us → ListUsing c u n s (at_node (body l ds ts)) s (at_node (body l ds (protected c u us before empty)))
  of_static : {n : Site} {s : Ledger} {l : Label} {ts us : Trees} → Constants c ts us → ListUsing c u n s (at_node (static_block l ts)) s (at_node (static_block l (protected c u us before empty)))

module _ (c u : Bound) (hc : IsText c) (hu : IsText u) where
  tried-form : (ts us : Trees) → Constants c ts us → trees_form s-Statement s-Statement ts ≡ true → trees_form s-Statement s-Statement (protected c u us before empty) ≡ true
  tried-form ts us r f = formed-first s-Statement (protected c u us) empty (protected-form c hc s-Statement u us refl hu (constants-form c hc ts us r f)) refl

  list-form : (n : Site) (s s' : Ledger) (t v : Tree) (a : Sort) → ListUsing c u n s (at_node t) s' (at_node v) → has_form a t ≡ true → has_form a v ≡ true
  list-form n s s' t v a (of_body {l = l} {ds = ds} {ts = ts} {us = us} r) f =
      let d = node_form a FunctionBody l (body_fields ds ts) f in
      has_form-node a FunctionBody l (body_fields ds (protected c u us before empty)) (record { sort = d.sort; texts = d.texts; flags = d.flags; start = d.start; stop = d.stop; agree = refl; children = and_from _ _ (and-left _ _ d.children) (and_from _ true (tried-form ts us r (and-left _ true (and-right _ _ d.children))) refl) })
  list-form n s s' t v a (of_static {l = l} {ts = ts} {us = us} r) f =
      let d = node_form a StaticBlock l (statements ts then done) f in
      has_form-node a StaticBlock l (statements (protected c u us before empty) then done) (record { sort = d.sort; texts = d.texts; flags = d.flags; start = d.start; stop = d.stop; agree = refl; children = and_from _ true (tried-form ts us r (and-left _ true d.children)) refl })

  -- the other fields
  others-keep : (k : AstType) (l : Label) (old new fs : Fields) (up : List Ancestor) → EdgesIn stands k 0 old → ChangedFields false k old new → KeepsIn up k l old 0 fs → KeepsIn up k l new 0 fs
  others-keep k l old new fs up stand changed h =
      let alike = alike-changed k l old new stand changed in
      in-moved true up up k l old new 0 fs (λ j. offers-within true up up (ancestor k l old j 0) (ancestor k l new j 0) (alike j) (offers-self up) (λ e. absurd (cc e))) (λ j. near-within up up (ancestor k l old j 0) (ancestor k l new j 0) (alike j) (near-self up)) (λ e. absurd (cc e)) h

  list-using-keeps : (n : Site) (s s' : Ledger) (t v : Tree) (a : Sort) (up : List Ancestor) → ListUsing c u n s (at_node t) s' (at_node v) → has_form a t ≡ true → Keeps up t → Keeps up v
  list-using-keeps n s s' t v a up (of_body {l = l} {ds = ds} {ts = ts} {us = us} r) f h =
      let old = body_fields ds ts in
      let new = body_fields ds (protected c u us before empty) in
      let stand = edges a FunctionBody l old f in
      let changed : ChangedFields false FunctionBody old new = more same_field (more list_changed ends) in
      let first = others-keep FunctionBody l old new (many ds then done) up stand changed (h.1.0, tt) in
      (here-kept up FunctionBody l old new stand changed h.0, (first.0, (list-keeps c u ts us up l old new FunctionBody 1 in_a_body r h.1.1.0, tt)))
  list-using-keeps n s s' t v a up (of_static {l = l} {ts = ts} {us = us} r) f h =
      let old : Fields = statements ts then done in
      let new : Fields = statements (protected c u us before empty) then done in
      (here-kept up StaticBlock l old new (edges a StaticBlock l old f) (more list_changed ends) h.0, (list-keeps c u ts us up l old new StaticBlock 0 in_a_static_block r h.1.0, tt))

  list-nodes : (n : Site) (s s' : Ledger) (x y : Spot) → ListUsing c u n s x s' y → AtNodes x y
  list-nodes n s s' x y (of_body r) = tt
  list-nodes n s s' x y (of_static r) = tt

  list-beside : (n : Site) (s s' : Ledger) (x y : Spot) → ListUsing c u n s x s' y → SameBeside s s'
  list-beside n s s' x y (of_body r) = record { pending = refl; this = refl; top = refl }
  list-beside n s s' x y (of_static r) = record { pending = refl; this = refl; top = refl }

  list-imports : (n : Site) (s s' : Ledger) (t v : Tree) → ListUsing c u n s (at_node t) s' (at_node v) → is_import v ≡ is_import t
  list-imports n s s' t v (of_body r) = refl
  list-imports n s s' t v (of_static r) = refl

  list-seen : (n : Site) (s s' : Ledger) (t v : Tree) → ListUsing c u n s (at_node t) s' (at_node v) → Changed false t v ⊎ Framed t v
  list-seen n s s' t v (of_body r) = inl (inside (more same_field (more list_changed ends)))
  list-seen n s s' t v (of_static r) = inl (inside (more list_changed ends))

  list-loops : (n : Site) (s s' : Ledger) (t v : Tree) → ListUsing c u n s (at_node t) s' (at_node v) → is_labeled_loop v ≡ is_labeled_loop t
  list-loops n s s' t v (of_body r) = refl
  list-loops n s s' t v (of_static r) = refl

  list-names : (n : Site) (s s' : Ledger) (t v : Tree) → kind_of t ≡ Identifier → ListUsing c u n s (at_node t) s' (at_node v) → ⊥
  list-names n s s' t v e (of_body r) = absurd (cc e)
  list-names n s s' t v e (of_static r) = absurd (cc e)

  list-using : UsingLawful (ListUsing c u)
  list-using = record { alone = record { nodes = list-nodes; beside = list-beside; imports = list-imports }; formed = λ n s s' t v a lets h f. list-form n s s' t v a h f; keeps = list-using-keeps; seen = list-seen; loops = λ n s s' t v e h. list-loops n s s' t v h; names = list-names }

-- FUNCTIONS AND CLASSES around it

record BodyBecomes (t v : Tree) : Type 0 where
  context : Bound
  error : Bound
  context_named : IsText context
  error_named : IsText error
  becomes : Becomes (ListUsing context error) false false t v

class-becomes : (c u : Bound) → IsText c → IsText u → (k : AstType) (m : Label) (f g : Field) (xs zs : Trees) (l : Label) (ts us : Trees) (s : Ledger) → IsClass k → Constants c ts us → Becomes (ListUsing c u) false false (node k m (class_fields f g (joined_trees xs (static_block l ts before zs)))) (node k m (class_fields f g (joined_trees xs (static_block l (protected c u us before empty) before zs))))
class-becomes c u hc hu k m f g xs zs l ts us s class_declaration r = deep (at_later (at_later (at_first (at_many (joined-becomes (ListUsing c u) (list-using c u hc hu).alone xs (at_head (here the_program s s refl refl (of_static r))))))))
class-becomes c u hc hu k m f g xs zs l ts us s class_expression r = deep (at_later (at_later (at_first (at_many (joined-becomes (ListUsing c u) (list-using c u hc hu).alone xs (at_head (here the_program s s refl refl (of_static r))))))))

becomes-body : (n : Site) (s s' : Ledger) (t v : Tree) → BodyUsing n s (at_node t) s' (at_node v) → BodyBecomes t v
becomes-body n s s' t v (of_declaration {w = w} {c = c} _ directives has enters takes r) = record { context = next_name w c; error = error_of w; context_named = context-text w c _ takes; error_named = refl; becomes = deep (at_later (at_later (at_first (at_one (here the_program s s refl refl (of_body r)))))) }
becomes-body n s s' t v (of_expression {w = w} {c = c} _ directives has enters takes r) = record { context = next_name w c; error = error_of w; context_named = context-text w c _ takes; error_named = refl; becomes = deep (at_later (at_later (at_first (at_one (here the_program s s refl refl (of_body r)))))) }
becomes-body n s s' t v (of_arrow {w = w} {c = c} directives has enters takes r) = record { context = next_name w c; error = error_of w; context_named = context-text w c _ takes; error_named = refl; becomes = deep (at_later (at_first (at_one (here the_program s s refl refl (of_body r))))) }
becomes-body n s s' t v (of_static_block {w = w} {k = k} {m = m} {f = f} {g = g} {c = c} l xs zs ts us class has enters takes r) = record { context = next_name w c; error = error_of w; context_named = context-text w c _ takes; error_named = refl; becomes = class-becomes (next_name w c) (error_of w) (context-text w c _ takes) refl k m f g xs zs l ts us s class r }

body-using-form : (n : Site) (s s' : Ledger) (t v : Tree) (a : Sort) → BodyUsing n s (at_node t) s' (at_node v) → has_form a t ≡ true → has_form a v ≡ true
body-using-form n s s' t v a h f = let b = becomes-body n s s' t v h in (tree-after (ListUsing b.context b.error) (list-using b.context b.error b.context_named b.error_named) b.becomes a (λ e. absurd (cc e)) f).formed

body-using-keeps : (n : Site) (s s' : Ledger) (t v : Tree) (a : Sort) (up : List Ancestor) → BodyUsing n s (at_node t) s' (at_node v) → has_form a t ≡ true → Keeps up t → Keeps up v
body-using-keeps n s s' t v a up h f k = let b = becomes-body n s s' t v h in (tree-after (ListUsing b.context b.error) (list-using b.context b.error b.context_named b.error_named) b.becomes a (λ e. absurd (cc e)) f).keeps up k

-- THE RULE

body-nodes : (n : Site) (s s' : Ledger) (x y : Spot) → BodyUsing n s x s' y → AtNodes x y
body-nodes n s s' x y (of_declaration _ directives has enters takes r) = tt
body-nodes n s s' x y (of_expression _ directives has enters takes r) = tt
body-nodes n s s' x y (of_arrow directives has enters takes r) = tt
body-nodes n s s' x y (of_static_block l xs zs ts us class has enters takes r) = tt

body-beside : (n : Site) (s s' : Ledger) (x y : Spot) → BodyUsing n s x s' y → SameBeside s s'
body-beside n s s' x y (of_declaration _ directives has enters takes r) = record { pending = refl; this = refl; top = refl }
body-beside n s s' x y (of_expression _ directives has enters takes r) = record { pending = refl; this = refl; top = refl }
body-beside n s s' x y (of_arrow directives has enters takes r) = record { pending = refl; this = refl; top = refl }
body-beside n s s' x y (of_static_block l xs zs ts us class has enters takes r) = record { pending = refl; this = refl; top = refl }

body-imports : (n : Site) (s s' : Ledger) (t u : Tree) → BodyUsing n s (at_node t) s' (at_node u) → is_import u ≡ is_import t
body-imports n s s' t u (of_declaration _ directives has enters takes r) = refl
body-imports n s s' t u (of_expression _ directives has enters takes r) = refl
body-imports n s s' t u (of_arrow directives has enters takes r) = refl
body-imports n s s' t u (of_static_block l xs zs ts us class has enters takes r) = refl

joined-changed : (xs : Trees) {ts us : Trees} → ChangedTrees false ts us → ChangedTrees false (joined_trees xs ts) (joined_trees xs us)
joined-changed empty c = c
joined-changed (x before xs) c = some stays (joined-changed xs c)

body-seen : (n : Site) (s s' : Ledger) (t u : Tree) → BodyUsing n s (at_node t) s' (at_node u) → Changed false t u ⊎ Framed t u
body-seen n s s' t u (of_declaration _ directives has enters takes r) = inl (inside (more same_field (more same_field (more (child_changed (inside (more same_field (more list_changed ends)))) ends))))
body-seen n s s' t u (of_expression _ directives has enters takes r) = inl (inside (more same_field (more same_field (more (child_changed (inside (more same_field (more list_changed ends)))) ends))))
body-seen n s s' t u (of_arrow directives has enters takes r) = inl (inside (more same_field (more (child_changed (inside (more same_field (more list_changed ends)))) ends)))
body-seen n s s' t u (of_static_block l xs zs ts us class has enters takes r) = inl (inside (more same_field (more same_field (more (children_changed (joined-changed xs (some (inside (more list_changed ends)) (same-trees zs)))) ends))))

body-loops : (n : Site) (s s' : Ledger) (t u : Tree) → BodyUsing n s (at_node t) s' (at_node u) → is_labeled_loop u ≡ is_labeled_loop t
body-loops n s s' t u (of_declaration _ directives has enters takes r) = refl
body-loops n s s' t u (of_expression _ directives has enters takes r) = refl
body-loops n s s' t u (of_arrow directives has enters takes r) = refl
body-loops n s s' t u (of_static_block l xs zs ts us class_declaration has enters takes r) = refl
body-loops n s s' t u (of_static_block l xs zs ts us class_expression has enters takes r) = refl

body-names : (n : Site) (s s' : Ledger) (t u : Tree) → kind_of t ≡ Identifier → BodyUsing n s (at_node t) s' (at_node u) → ⊥
body-names n s s' t u e (of_declaration _ directives has enters takes r) = absurd (cc e)
body-names n s s' t u e (of_expression _ directives has enters takes r) = absurd (cc e)
body-names n s s' t u e (of_arrow directives has enters takes r) = absurd (cc e)
body-names n s s' t u e (of_static_block l xs zs ts us class_declaration has enters takes r) = absurd (cc e)
body-names n s s' t u e (of_static_block l xs zs ts us class_expression has enters takes r) = absurd (cc e)

pub body-using : UsingLawful BodyUsing
body-using = record { alone = record { nodes = body-nodes; beside = body-beside; imports = body-imports }; formed = λ n s s' t u a lets h f. body-using-form n s s' t u a h f; keeps = body-using-keeps; seen = body-seen; loops = λ n s s' t u e h. body-loops n s s' t u h; names = body-names }
