-- The walk over a whole program with its marks, and the shapes that are looked for.
use Rattle.std.proofs.Common.{◌≡◌, ℕ, zero, suc, ◌+◌, ◌≤◌, List, [], ◌∷◌, Bool, true, false, ◌&&◌, ◌||◌, not, Some, None, is_some, codes, if◌then◌else◌, refl, sym, ap, subst, ◌∙◌, arith}
use Rattle.std.specs.Option.{option_or}
use Rattle.es_tree.specs.Constructs.{is_exponentiation, is_object_rest, is_using}
use Rattle.es_tree.specs.Marks.{with_scope}
use Rattle.es_tree.specs.Tree.{Tree, node, Label, Fields, done, ◌then◌, Field, missing, one, many, statements, Trees, empty, ◌before◌}
use Rattle.es_tree.specs.Walks.{all_nodes}
use Rattle.es_tree.specs.declared.ast_type.AstType.{AstType}
use Rattle.es_tree.specs.declared.ast_type.AstType.TheVariants.{Program}
use Rattle.es_tree.specs.declared.error.UnsupportedKind.TheVariants.{ArrowOuter, ArrowThis}
use Rattle.es_tree.specs.declared.options.EnvOptions.{EnvOptions}
use Rattle.es_scope.specs.Tables.{scope_count}
use Rattle.es_scope.specs.declared.scoping.Scoping.{Scoping}
use Rattle.es_semantic.specs.Places.{Place, outermost, own_scope, own_scope_count, place_in, scope_count_in, scope_count_in_field}
use Rattle.es_semantic.specs.ReferencesOf.{marked_tree}
use Rattle.es_semantic.specs.SymbolsOf.{Declared, find, symbols_of}
use Rattle.es_semantic.specs.Walks.{Binds}
use Rattle.es_semantic.proofs.LookUps.{found-at-place}
use Rattle.es_semantic.proofs.VisitCounts.{scopes_count}
use Rattle.es_valid_steps.specs.ArrowNodes.{is_arrow_accessor}
use Rattle.es_conditions.specs.CoreConditions.{is_copied}
use Rattle.es_rest_shapes.specs.HelperNames.{binds_helpers}
use Rattle.es_rest_shapes.specs.RestShapes.{is_rest_declaration}
use Rattle.es_using_heads.specs.Heads.{asks_its_name}
use Rattle.es_using_nodes.specs.Clashes.{clashes}
use Rattle.es_unsupported.specs.ArrowShapes.{arrow_shape, binds_arguments, inner_shape, refers_by}
use Rattle.es_unsupported.specs.EarlySuper.{calls_super_here}
use Rattle.es_unsupported.specs.FirstUnsupported.{IsBuilt, first_of, first_of_field, first_of_fields, first_of_trees, first_unsupported, found_at}
use Rattle.es_unsupported.specs.MarkedWalk.{LooksUp, first_at, has_known_scope}
use Rattle.es_unsupported.specs.NodePlaces.{node_place_in, place_shape, program_place}
use Rattle.es_chain_tags.specs.ChainTags.{has_chain_tag}
use Rattle.es_unsupported.specs.Shapes.{holds_stray, shape_at}
use Rattle.es_unsupported.specs.SpreadLiterals.{is_uncopied}
use Rattle.es_unsupported.specs.Wanted.{IsWanted}
use Rattle.es_unsupported.specs.declared.arrow_places.ArrowPlace.{ArrowPlace}
use Rattle.es_unsupported.specs.declared.node_places.NodePlace.{NodePlace}
use Rattle.es_unsupported.specs.declared.shapes.Wanted.{Wanted}
use Rattle.es_unsupported.proofs.MarkedTrees.{first-marked, known-marked, looks-up-marked}
use Rattle.es_unsupported.proofs.QuietStrays.{pattern-none}
use Rattle.es_unsupported.proofs.Unbound.{asked_where}

-- THE MARK OF THE PROGRAM'S SCOPE

first-scope : (o : EnvOptions) (ds : List Declared) (up : List ℕ) (q : NodePlace) (t : Tree) → first_at o ds up q (with_scope t) ≡ first_at o ds up q t
first-scope o ds up q (node Program l fs) = refl
first-scope o ds up q (node k l fs) = refl

looks-up-scope : (s : Scoping) (ds : List Declared) (up : List ℕ) (t : Tree) → LooksUp s ds up t → LooksUp s ds up (with_scope t)
looks-up-scope s ds up (node Program l fs) h = h
looks-up-scope s ds up (node k l fs) h = h

known-scope : (count : ℕ) (t : Tree) → all_nodes (has_known_scope count) t ≡ true → all_nodes (has_known_scope count) (with_scope t) ≡ true
known-scope count (node Program l fs) h = h
known-scope count (node k l fs) h = h

-- THE PROGRAM

-- what the walk finds is what is found among the visits
pub program_first : (o : EnvOptions) (p q : Tree) (s : Scoping) → IsBuilt p q s → first_at o (symbols_of p) (0 ∷ []) program_place q ≡ first_unsupported o p
program_first o p q s built =
    let ds = symbols_of p in
    ap (first_at o ds (0 ∷ []) program_place) built.marks ∙ (first-scope o ds (0 ∷ []) program_place (marked_tree ds (outermost p) 1 0 p) ∙ first-marked o ds (outermost p) program_place 1 0 p)

-- look-up is right at all its nodes
pub program_looks_up : (p q : Tree) (s : Scoping) → IsBuilt p q s → LooksUp s (symbols_of p) (0 ∷ []) q
program_looks_up p q s built =
    let ds = symbols_of p in
    subst (LooksUp s ds (0 ∷ [])) (sym built.marks) (looks-up-scope s ds (0 ∷ []) (marked_tree ds (outermost p) 1 0 p) (looks-up-marked s ds (outermost p) 1 0 p (found-at-place p s built.table)))

-- its marks are of the table
pub program_known : (p q : Tree) (s : Scoping) → IsBuilt p q s → all_nodes (has_known_scope (scope_count s)) q ≡ true
program_known p q s built =
    let ds = symbols_of p in let count = scope_count s in
    let room : 1 + scope_count_in p ≤ count = omega (arith, built.table.all_scopes, scopes_count (outermost p) 1 p) in
    subst (λ t. all_nodes (has_known_scope count) t ≡ true) (sym built.marks) (known-scope count (marked_tree ds (outermost p) 1 0 p) (known-marked ds count (outermost p) 1 0 p room))

-- WHAT IS LOOKED FOR

pub program_binds : (p q : Tree) (s : Scoping) → IsBuilt p q s → Binds (symbols_of p) s
program_binds p q s built = built.table.bindings

-- a shape that isn't looked for is that of no node

pub bound_never : (wanted asked is bound : Bool) → (wanted && bound) ≡ (asked && bound) → wanted ≡ false → (asked && is && bound) ≡ false
bound_never wanted asked is bound same none = at asked is bound (sym same ∙ ap (λ b. b && bound) none)
  where
    at : (asked is bound : Bool) → (asked && bound) ≡ false → (asked && is && bound) ≡ false
    at false is bound e = refl
    at true false bound e = refl
    at true true bound e = e

-- and where one is looked for, it is asked for
pub bound_same : (wanted asked binds is bound : Bool) → wanted ≡ (asked && binds) → wanted ≡ true → (is && bound) ≡ (asked && is && bound)
bound_same wanted true binds is bound same on = refl
bound_same wanted false binds is bound same on = absurd (cc (sym same ∙ on))

asked_never : (wanted asked is : Bool) → wanted ≡ asked → wanted ≡ false → (asked && is) ≡ false
asked_never wanted asked is same none = ap (λ b. b && is) (sym same ∙ none)

pub helpers_never : (wanted copies copied bound declared binds : Bool) → (wanted && bound) ≡ (copies && bound) → wanted ≡ (copies && binds) → wanted ≡ false → (copies && ((copied && bound) || (declared && binds))) ≡ false
helpers_never wanted copies copied bound declared binds found named none = at copies copied bound declared binds (sym found ∙ ap (λ b. b && bound) none) (sym named ∙ none)
  where
    at : (copies copied bound declared binds : Bool) → (copies && bound) ≡ false → (copies && binds) ≡ false → (copies && ((copied && bound) || (declared && binds))) ≡ false
    at false copied bound declared binds e h = refl
    at true copied true declared binds e h = absurd (cc e)
    at true copied false declared true e h = absurd (cc h)
    at true true false true false e h = refl
    at true true false false false e h = refl
    at true false false true false e h = refl
    at true false false false false e h = refl

pub helpers_same : (wanted copies copied bound declared binds : Bool) → wanted ≡ (copies && binds) → wanted ≡ true → ((copied && bound) || declared) ≡ (copies && ((copied && bound) || (declared && binds)))
helpers_same wanted true copied bound declared true named on = ap (λ b. (copied && bound) || b) (and-true declared)
  where
    and-true : (a : Bool) → a ≡ (a && true)
    and-true true = refl
    and-true false = refl
helpers_same wanted true copied bound declared false named on = absurd (cc (sym named ∙ on))
helpers_same wanted false copied bound declared binds named on = absurd (cc (sym named ∙ on))

neither : (a b : Bool) → (a || b) ≡ false → (a ≡ false) × (b ≡ false)
neither false b e = (refl, e)
neither true b e = absurd (cc)

abbrev pub any_wanted : Wanted → Bool
any_wanted w = w.stray_rest || w.using_declaration || w.math_bound || w.helper_name || w.spread_literal || w.tag_chain || w.arrows

-- none of them is looked for
record IsNone (w : Wanted) : Type 0 where
  stray_rest : w.stray_rest ≡ false
  using_declaration : w.using_declaration ≡ false
  math_bound : w.math_bound ≡ false
  helper_name : w.helper_name ≡ false
  spread_literal : w.spread_literal ≡ false
  tag_chain : w.tag_chain ≡ false
  arrows : w.arrows ≡ false

is_none : (w : Wanted) → any_wanted w ≡ false → IsNone w
is_none w none =
    let a = neither (w.stray_rest || w.using_declaration || w.math_bound || w.helper_name || w.spread_literal || w.tag_chain) w.arrows none in
    let b = neither (w.stray_rest || w.using_declaration || w.math_bound || w.helper_name || w.spread_literal) w.tag_chain a.0 in
    let c = neither (w.stray_rest || w.using_declaration || w.math_bound || w.helper_name) w.spread_literal b.0 in
    let d = neither (w.stray_rest || w.using_declaration || w.math_bound) w.helper_name c.0 in
    let e = neither (w.stray_rest || w.using_declaration) w.math_bound d.0 in
    let f = neither w.stray_rest w.using_declaration e.0 in
    record { stray_rest = f.0; using_declaration = f.1; math_bound = e.1; helper_name = d.1; spread_literal = c.1; tag_chain = b.1; arrows = a.1 }

-- WHERE NO NODE HAS A SHAPE

no-arrow-shape : (o : EnvOptions) → is_some o.es2015.arrow_function ≡ false → (q : ArrowPlace) (r : Bool) (k : AstType) (l : Label) (fs : Fields) → arrow_shape o q r k l fs ≡ None
no-arrow-shape o off q r k l fs = ap (λ b. if not b then None else if is_arrow_accessor k l fs then Some ArrowOuter else if q.early_super && calls_super_here k fs then Some ArrowThis else if q.in_arrow then inner_shape q r k l fs else None) off

no-place-shape : (w : Wanted) (o : EnvOptions) (ds : List Declared) → IsWanted w o ds → any_wanted w ≡ false → (q : NodePlace) (r : Bool) (k : AstType) (l : Label) (fs : Fields) → place_shape o q r k l fs ≡ None
no-place-shape w o ds wanted none q r k l fs =
    let n = is_none w none in
    rw (pattern-none o q.pattern k l fs (asked_never w.stray_rest (is_some o.es2018.object_rest_spread) (is_object_rest k l fs) wanted.rests n.stray_rest)) (no-arrow-shape o (sym wanted.arrows ∙ n.arrows) q.arrows r k l fs)

module _ (o : EnvOptions) (ds : List Declared) (none : (up : List ℕ) (k : AstType) (l : Label) (fs : Fields) → shape_at o ds up k l fs ≡ None) (free : (q : NodePlace) (r : Bool) (k : AstType) (l : Label) (fs : Fields) → place_shape o q r k l fs ≡ None) where
  mutual
    none-of : (p : Place) (q : NodePlace) (n : ℕ) (t : Tree) → first_of o ds p q n t ≡ None
    none-of p q n (node k l fs) = λ i. option_or (found_at l.id (option_or (none p.around k l fs i) (free q (refers_by p.role) k l fs i))) (none-of-fields (place_in p n k l fs) (node_place_in o (binds_arguments ds (own_scope n k fs) k) q k l fs) (n + own_scope_count k fs) fs i)

    none-of-fields : (ps : ℕ → Place) (qs : ℕ → Field → NodePlace) (n : ℕ) (fs : Fields) → first_of_fields o ds ps qs n fs ≡ None
    none-of-fields ps qs n done = refl
    none-of-fields ps qs n (f then fs) = λ i. option_or (none-of-field (ps zero) (qs zero f) n f i) (none-of-fields (λ j. ps (suc j)) (λ j. qs (suc j)) (n + scope_count_in_field f) fs i)

    none-of-field : (p : Place) (q : NodePlace) (n : ℕ) (f : Field) → first_of_field o ds p q n f ≡ None
    none-of-field p q n missing = refl
    none-of-field p q n (one t) = none-of p q n t
    none-of-field p q n (many ts) = none-of-trees p q n ts
    none-of-field p q n (statements ts) = none-of-trees p q n ts

    none-of-trees : (p : Place) (q : NodePlace) (n : ℕ) (ts : Trees) → first_of_trees o ds p q n ts ≡ None
    none-of-trees p q n empty = refl
    none-of-trees p q n (t before ts) = λ i. option_or (none-of p q n t i) (none-of-trees p q (n + scope_count_in t) ts i)

no-shape : (w : Wanted) (o : EnvOptions) (ds : List Declared) → IsWanted w o ds → any_wanted w ≡ false → (up : List ℕ) (k : AstType) (l : Label) (fs : Fields) → shape_at o ds up k l fs ≡ None
no-shape w o ds wanted none up k l fs =
    let n = is_none w none in
    rw (
      asked_never w.stray_rest (is_some o.es2018.object_rest_spread) (holds_stray k l fs) wanted.rests n.stray_rest,
      asked_never w.using_declaration o.es2026.explicit_resource_management (is_using k l fs) wanted.declarations n.using_declaration,
      bound_never w.math_bound o.es2016.exponentiation_operator (is_exponentiation k l fs) (is_some (find ds up (codes "Math"))) (asked_where (codes "Math") ds up w.math_bound o.es2016.exponentiation_operator wanted.math) n.math_bound,
      helpers_never w.helper_name (is_some o.es2018.object_rest_spread) (is_copied k l fs) (is_some (find ds up (codes "babelHelpers"))) (is_rest_declaration k l fs) (binds_helpers ds) (asked_where (codes "babelHelpers") ds up w.helper_name (is_some o.es2018.object_rest_spread) wanted.helpers) wanted.helpers n.helper_name,
      asked_never w.spread_literal (is_some o.es2018.object_rest_spread) (is_uncopied k l fs) wanted.literals n.spread_literal,
      asked_never w.tag_chain o.es2020.optional_chaining (has_chain_tag k l fs) wanted.chains n.tag_chain,
      asked_never w.using_declaration o.es2026.explicit_resource_management (asks_its_name k l fs) wanted.declarations n.using_declaration,
      asked_never w.using_declaration o.es2026.explicit_resource_management (clashes k fs) wanted.declarations n.using_declaration,
    ) refl

pub none_wanted : (w : Wanted) (o : EnvOptions) (p : Tree) → IsWanted w o (symbols_of p) → any_wanted w ≡ false → first_unsupported o p ≡ None
none_wanted w o p wanted none =
    let ds = symbols_of p in
    none-of o ds (no-shape w o ds wanted none) (no-place-shape w o ds wanted none) (outermost p) program_place 1 p
