-- Where no node is found that has a shape by itself, no place tells one either: no object rest and no arrow stand, and no slot is wrapped.
use Rattle.std.proofs.Common.{◌≡◌, ℕ, suc, ◌+◌, None, Option, Some, refl, ap, ◌∙◌, List}
use Rattle.std.specs.Prelude.{Bool, true, false, ◌&&◌, ◌||◌, not, is_some, ◌==◌, if◌then◌else◌}
use Rattle.std.specs.Option.{option_or}
use Rattle.es_tree.specs.Ancestors.{ancestor}
use Rattle.es_tree.specs.Constructs.{is_object_rest}
use Rattle.es_tree.specs.HasForm.{same_type}
use Rattle.es_tree.specs.Tree.{Tree, node, Label, Fields, done, ◌then◌, Field, missing, one, many, statements, Trees, empty, ◌before◌}
use Rattle.es_super_calls.specs.Constructors.{is_constructor}
use Rattle.es_tree.specs.Walks.{any_node, any_in_fields, any_in_field, any_in_trees}
use Rattle.es_tree.specs.declared.ast_type.AstType.{AstType}
use Rattle.es_tree.specs.declared.ast_type.AstType.TheVariants.{ArrowFunctionExpression}
use Rattle.es_tree.specs.declared.error.UnsupportedKind.{UnsupportedKind}
use Rattle.es_tree.specs.declared.error.UnsupportedKind.TheVariants.{ArrowOuter, ArrowThis}
use Rattle.es_tree.specs.declared.options.EnvOptions.{EnvOptions}
use Rattle.es_runs.proofs.Named.{or_first, or_second}
use Rattle.es_semantic.specs.Places.{Place, own_scope, own_scope_count, place_in, scope_count_in, scope_count_in_field}
use Rattle.es_semantic.specs.SymbolsOf.{Declared}
use Rattle.es_steps.specs.ThisPlaces.{keeps_this}
use Rattle.es_valid_steps.specs.ArrowNodes.{is_arrow_accessor}
use Rattle.es_valid_arrows.specs.ArrowPlaces.{arrow_in, is_wrapped_slot}
use Rattle.es_unsupported.specs.ArrowShapes.{binds_arguments, inner_shape, refers_by}
use Rattle.es_unsupported.specs.NodePlaces.{node_place_in, place_shape}
use Rattle.es_unsupported.proofs.QuietStrays.{pattern-none}
use Rattle.es_unsupported.proofs.QuietThis.{has_this-none}
use Rattle.es_unsupported.specs.EarlySuper.{calls_super_here, has_arrow_this}
use Rattle.es_unsupported.specs.declared.node_places.NodePlace.{NodePlace}
use Rattle.es_unsupported.specs.FirstUnsupported.{first_of, first_of_field, first_of_fields, first_of_trees, found_at}
use Rattle.es_unsupported.specs.Shapes.{shape_at}

pub none-then : (here later : Option (UnsupportedKind × ℕ)) → here ≡ None → later ≡ None → option_or here later ≡ None
none-then here later h g = rw (h, g) refl

-- of a node where no arrow is around
nothing-there : (on accessor early calls in_arrow : Bool) (inner : Option UnsupportedKind) → (on ≡ true → accessor ≡ false) → (on ≡ true → (in_arrow ≡ false) × (early ≡ false)) →
    (if not on then None else if accessor then Some ArrowOuter else if early && calls then Some ArrowThis else if in_arrow then inner else None) ≡ None
nothing-there false accessor early calls in_arrow inner h g = refl
nothing-there true accessor early calls in_arrow inner h g = rw (h refl, (g refl).0, (g refl).1) refl

in-none : (wrapped keeps arrow : Bool) → wrapped ≡ false → arrow ≡ false → (wrapped || (not keeps && (arrow || false))) ≡ false
in-none wrapped true arrow e d = rw e refl
in-none wrapped false arrow e d = rw (e, d) refl

early-in : (keeps constructs parameters this around : Bool) → this ≡ false → around ≡ false → (if keeps then constructs && parameters && this else around) ≡ false
early-in true true true this around h g = h
early-in true true false this around h g = refl
early-in true false parameters this around h g = refl
early-in false constructs parameters this around h g = g

-- A test of nodes: where it finds none, a node has no shape of the table, is no object rest that is lowered, no arrow and no accessor that is one, and no
-- field of it is a slot that is wrapped.
module _
    (o : EnvOptions)
    (ds : List Declared)
    (test : AstType → Label → Fields → Bool)
    (no-shape : (up : List ℕ) (k : AstType) (l : Label) (fs : Fields) → any_node test (node k l fs) ≡ false → shape_at o ds up k l fs ≡ None)
    (no-rest : (k : AstType) (l : Label) (fs : Fields) → test k l fs ≡ false → (is_some o.es2018.object_rest_spread && is_object_rest k l fs) ≡ false)
    (no-arrow : is_some o.es2015.arrow_function ≡ true → (k : AstType) (l : Label) (fs : Fields) → any_node test (node k l fs) ≡ false → (is_arrow_accessor k l fs ≡ false) × (same_type k ArrowFunctionExpression ≡ false))
    (unwrapped : (k : AstType) (l : Label) (fs : Fields) (parameter : Bool) (i : ℕ) (f : Field) → test k l fs ≡ false → any_in_field test f ≡ false → is_wrapped_slot o parameter (ancestor k l done i 0) f ≡ false) where
  -- what is known of a place: no arrow is around, nor in the body of a constructor whose parameters are around
  abbrev Calm : NodePlace → Type 0
  Calm q = is_some o.es2015.arrow_function ≡ true → (q.arrows.in_arrow ≡ false) × (q.arrows.early_super ≡ false)

  -- nor is one around what stands in a field of such a node
  calm-in : (binds : Bool) (q : NodePlace) (k : AstType) (l : Label) (fs : Fields) → any_node test (node k l fs) ≡ false → Calm q → (i : ℕ) (f : Field) → any_in_field test f ≡ false → Calm (node_place_in o binds q k l fs i f)
  calm-in binds q k l fs h calm i f g on =
      let a = ancestor k l done i 0 in
      let slot = unwrapped k l fs q.arrows.parameter i f (or_first (test k l fs) (any_in_fields test fs) h) g in
      let inside : arrow_in o q.arrows.in_arrow q.arrows.parameter a f ≡ false =
      ap (λ b. arrow_in o b q.arrows.parameter a f) (calm on).0 ∙ in-none (is_wrapped_slot o q.arrows.parameter a f) (keeps_this a) (same_type k ArrowFunctionExpression) slot (no-arrow on k l fs h).1 in
      let early = early-in (keeps_this a) (is_constructor q.arrows.standing) (i == 1) (has_arrow_this fs) q.arrows.early_super (has_this-none test (λ k l gs g. (no-arrow on k l gs g).1) fs (or_second (test k l fs) (any_in_fields test fs) h)) (calm on).1 in
      rw on (inside, early)

  mutual
    pub none-of : (p : Place) (q : NodePlace) (n : ℕ) (t : Tree) → any_node test t ≡ false → Calm q → first_of o ds p q n t ≡ None
    none-of p q n (node k l fs) h calm =
        let binds = binds_arguments ds (own_scope n k fs) k in
        let here : option_or (shape_at o ds p.around k l fs) (place_shape o q (refers_by p.role) k l fs) ≡ None =
        rw (no-shape p.around k l fs h, pattern-none o q.pattern k l fs (no-rest k l fs (or_first (test k l fs) (any_in_fields test fs) h)))
        (nothing-there (is_some o.es2015.arrow_function) (is_arrow_accessor k l fs) q.arrows.early_super (calls_super_here k fs) q.arrows.in_arrow (inner_shape q.arrows (refers_by p.role) k l fs) (λ on. (no-arrow on k l fs h).0) calm) in
        none-then (found_at l.id (option_or (shape_at o ds p.around k l fs) (place_shape o q (refers_by p.role) k l fs))) _ (ap (found_at l.id) here)
        (none-of-fields (place_in p n k l fs) (node_place_in o binds q k l fs) (n + own_scope_count k fs) fs (or_second (test k l fs) (any_in_fields test fs) h) (calm-in binds q k l fs h calm))

    none-of-fields : (ps : ℕ → Place) (qs : ℕ → Field → NodePlace) (n : ℕ) (fs : Fields) → any_in_fields test fs ≡ false → ((i : ℕ) (f : Field) → any_in_field test f ≡ false → Calm (qs i f)) → first_of_fields o ds ps qs n fs ≡ None
    none-of-fields ps qs n done h calm = refl
    none-of-fields ps qs n (f then fs) h calm =
        let first = or_first (any_in_field test f) (any_in_fields test fs) h in
        none-then (first_of_field o ds (ps 0) (qs 0 f) n f) _ (none-of-field (ps 0) (qs 0 f) n f first (calm 0 f first))
        (none-of-fields (λ i. ps (suc i)) (λ i. qs (suc i)) (n + scope_count_in_field f) fs (or_second (any_in_field test f) (any_in_fields test fs) h) (λ i. calm (suc i)))

    none-of-field : (p : Place) (q : NodePlace) (n : ℕ) (f : Field) → any_in_field test f ≡ false → Calm q → first_of_field o ds p q n f ≡ None
    none-of-field p q n missing h calm = refl
    none-of-field p q n (one t) h calm = none-of p q n t h calm
    none-of-field p q n (many ts) h calm = none-of-trees p q n ts h calm
    none-of-field p q n (statements ts) h calm = none-of-trees p q n ts h calm

    none-of-trees : (p : Place) (q : NodePlace) (n : ℕ) (ts : Trees) → any_in_trees test ts ≡ false → Calm q → first_of_trees o ds p q n ts ≡ None
    none-of-trees p q n empty h calm = refl
    none-of-trees p q n (t before ts) h calm =
        none-then (first_of o ds p q n t) _ (none-of p q n t (or_first (any_node test t) (any_in_trees test ts) h) calm)
        (none-of-trees p q (n + scope_count_in t) ts (or_second (any_node test t) (any_in_trees test ts) h) calm)
