-- Where nothing is found, no object rest stands in a program that isn't lowered there: one in an array, or in a pattern that is assigned to, is told by
-- its own place.
use Rattle.std.proofs.Common.{◌≡◌, ◌∙◌, ℕ, zero, suc, ◌+◌, List, Bool, true, false, Option, Some, None, if◌then◌else◌, refl, sym, ap}
use Rattle.std.specs.Prelude.{◌&&◌, ◌||◌, not, is_some}
use Rattle.std.proofs.lemmas.Bool.{or_from, or_parts}
use Rattle.es_tree.specs.Attributes.{child_entries}
use Rattle.es_tree.specs.Constructs.{is_object_rest}
use Rattle.es_tree.specs.HasForm.{ElementsPlace, elements_of, same_type}
use Rattle.es_tree.specs.Tree.{Tree, node, Label, Fields, done, ◌then◌, Field, missing, one, many, statements, Trees, empty, ◌before◌}
use Rattle.es_tree.specs.Walks.{any_in_field, any_in_fields, any_in_trees, any_node}
use Rattle.es_tree.specs.declared.ast_type.AstType.{AstType}
use Rattle.es_tree.specs.declared.ast_type.AstType.TheVariants.{ArrayExpression, ArrayPattern, ArrayTarget, AssignmentPattern, ObjectPattern, ObjectTarget, PatternProperty, Program, RestElement, TargetProperty, TargetRest, TargetWithDefault, VariableDeclarator}
use Rattle.es_tree.specs.declared.error.UnsupportedKind.{UnsupportedKind}
use Rattle.es_tree.specs.declared.options.EnvOptions.{EnvOptions}
use Rattle.es_tree.specs.declared.table.Sort.TheVariants.{Program as s-Program}
use Rattle.es_semantic.specs.Places.{Place, own_scope, own_scope_count, outermost, place_in, scope_count_in, scope_count_in_field}
use Rattle.es_semantic.specs.SymbolsOf.{Declared, symbols_of}
use Rattle.es_semantic.proofs.FormEdges.{Edges, EdgesAll, EdgesBy, EdgesIn, ElementsFit, TableFits, edges-tree, elements-are, entries_fit, is_last}
use Rattle.es_rest_shapes.specs.RestShapes.{any_child, any_child_by, any_tree, bears_among, bears_by, bears_first, bears_rest, bears_second, is_misplaced, is_rest_declarator, is_stray_rest}
use Rattle.es_unsupported.specs.ArrowShapes.{arrow_shape, binds_arguments, refers_by}
use Rattle.es_unsupported.specs.Laws.{LawStraysTaken}
use Rattle.es_unsupported.specs.NodePlaces.{node_place_in, place_shape, program_place}
use Rattle.es_unsupported.specs.PatternPlaces.{nested_shape, nests_patterns, pattern_place_in, pattern_shape}
use Rattle.es_unsupported.specs.Shapes.{has_rest_parameter, is_unbuilt_node}
use Rattle.es_unsupported.specs.declared.node_places.NodePlace.{NodePlace}
use Rattle.es_unsupported.specs.declared.pattern_places.PatternPlace.{PatternPlace}
use Rattle.es_unsupported.proofs.Built.{law_built_proof}
use Rattle.es_unsupported.proofs.Firsts.{left_none}
use Rattle.es_unsupported.proofs.Taken.{NoneTold, NoneToldOfField, NoneToldOfFields, NoneToldOfTrees, taken-places}

-- FORM: no declarator stands in a pattern itself

abbrev keeps_out : AstType → ℕ → Bool → AstType → Bool
keeps_out k i last j = not (nests_patterns k && same_type j VariableDeclarator)

entries-fit : (k : AstType) → entries_fit keeps_out k 0 (child_entries k) ≡ true
entries-fit Program = refl
entries-fit _ = refl

elements-fit : (k : AstType) (p : ElementsPlace) → elements_of (child_entries k) ≡ Some p → ElementsFit keeps_out k p
elements-fit ArrayExpression p e = elements-are keeps_out ArrayExpression _ p e (record { sort = λ i b. refl; last = λ i b. refl })
elements-fit ArrayPattern p e = elements-are keeps_out ArrayPattern _ p e (record { sort = λ i b. refl; last = λ i b. refl })
elements-fit ArrayTarget p e = elements-are keeps_out ArrayTarget _ p e (record { sort = λ i b. refl; last = λ i b. refl })
elements-fit _ p e = absurd (cc e)

table : TableFits keeps_out
table = record { entries = entries-fit; elements = elements-fit }

no-declarator : (k : AstType) (i : ℕ) (last : Bool) (t : Tree) → nests_patterns k ≡ true → Edges keeps_out k i last t → is_rest_declarator t ≡ false
no-declarator k i last (node VariableDeclarator l fs) nests h = absurd (let no : false ≡ true = sym (ap (λ b. not (b && true)) nests) ∙ h.0 in cc no)
no-declarator k i last (node _ l fs) nests h = refl

-- PATTERNS that tell those inside

nested-stray : (k : AstType) (l : Label) (fs : Fields) → nests_patterns k ≡ true → is_stray_rest k l fs ≡ any_child is_misplaced fs
nested-stray ArrayPattern l fs h = refl
nested-stray RestElement l fs h = refl
nested-stray ObjectTarget l fs h = refl
nested-stray TargetProperty l fs h = refl
nested-stray ArrayTarget l fs h = refl
nested-stray TargetWithDefault l fs h = refl
nested-stray TargetRest l fs h = refl
nested-stray _ l fs h = absurd (cc h)

nested-there : (q : PatternPlace) (k : AstType) → nests_patterns k ≡ true → is_some (nested_shape (pattern_place_in q k)) ≡ true
nested-there q ArrayPattern h = refl
nested-there q RestElement h = refl
nested-there q ObjectTarget h = refl
nested-there q TargetProperty h = refl
nested-there q ArrayTarget h = refl
nested-there q TargetWithDefault h = refl
nested-there q TargetRest h = refl
nested-there q _ h = absurd (cc h)

module _ (o : EnvOptions) (ds : List Declared) (on : is_some o.es2018.object_rest_spread ≡ true) where
  -- a place where a pattern with a rest is refused
  abbrev Nested : NodePlace → Type 0
  Nested q = is_some (nested_shape q.pattern) ≡ true

  abbrev AllNested : (ℕ → Field → NodePlace) → Type 0
  AllNested qs = (i : ℕ) (f : Field) → Nested (qs i f)

  -- no node there is one,
  none-own : (q : NodePlace) (r : Bool) (k : AstType) (l : Label) (fs : Fields) → Nested q → place_shape o q r k l fs ≡ None → is_object_rest k l fs ≡ false
  none-own q r k l fs nested h = at (is_some o.es2018.object_rest_spread) (is_object_rest k l fs) (nested_shape q.pattern) on nested (left_none (pattern_shape o q.pattern k l fs) (arrow_shape o q.arrows r k l fs) h)
    where
      at : (asked is : Bool) (s : Option UnsupportedKind) → asked ≡ true → is_some s ≡ true → (if asked && is then s else None) ≡ None → is ≡ false
      at true false s e d h = refl
      at true true None e d h = absurd (cc d)
      at true true (Some x) e d h = absurd (cc h)
      at false is s e d h = absurd (cc e)

  -- nor has one in a property
  mutual
    none-borne : (p : Place) (q : NodePlace) (n : ℕ) (t : Tree) → Nested q → NoneTold o ds p q n t → bears_rest t ≡ false
    none-borne p q n (node ObjectPattern l fs) nested h =
        or_from (is_object_rest ObjectPattern l fs) (bears_first fs) (none-own q (refers_by p.role) ObjectPattern l fs nested h.0)
        (none-borne-first (place_in p n ObjectPattern l fs) (node_place_in o (binds_arguments ds (own_scope n ObjectPattern fs) ObjectPattern) q ObjectPattern l fs) (n + own_scope_count ObjectPattern fs) fs (λ i f. nested) h.1)
    none-borne p q n (node PatternProperty l fs) nested h =
        none-borne-second (place_in p n PatternProperty l fs) (node_place_in o (binds_arguments ds (own_scope n PatternProperty fs) PatternProperty) q PatternProperty l fs) (n + own_scope_count PatternProperty fs) fs (λ i f. nested) h.1
    none-borne p q n (node AssignmentPattern l fs) nested h =
        none-borne-first (place_in p n AssignmentPattern l fs) (node_place_in o (binds_arguments ds (own_scope n AssignmentPattern fs) AssignmentPattern) q AssignmentPattern l fs) (n + own_scope_count AssignmentPattern fs) fs (λ i f. nested) h.1
    none-borne p q n (node k l fs) nested h = none-own q (refers_by p.role) k l fs nested h.0

    none-borne-first : (ps : ℕ → Place) (qs : ℕ → Field → NodePlace) (n : ℕ) (fs : Fields) → AllNested qs → NoneToldOfFields o ds ps qs n fs → bears_first fs ≡ false
    none-borne-first ps qs n done nested h = refl
    none-borne-first ps qs n (f then fs) nested h = none-borne-by (ps zero) (qs zero f) n f (nested zero f) h.0

    none-borne-second : (ps : ℕ → Place) (qs : ℕ → Field → NodePlace) (n : ℕ) (fs : Fields) → AllNested qs → NoneToldOfFields o ds ps qs n fs → bears_second fs ≡ false
    none-borne-second ps qs n done nested h = refl
    none-borne-second ps qs n (f then fs) nested h = none-borne-first (λ i. ps (suc i)) (λ i. qs (suc i)) (n + scope_count_in_field f) fs (λ i. nested (suc i)) h.1

    none-borne-by : (p : Place) (q : NodePlace) (n : ℕ) (f : Field) → Nested q → NoneToldOfField o ds p q n f → bears_by f ≡ false
    none-borne-by p q n missing nested h = refl
    none-borne-by p q n (one t) nested h = none-borne p q n t nested h
    none-borne-by p q n (many ts) nested h = none-borne-among p q n ts nested h
    none-borne-by p q n (statements ts) nested h = none-borne-among p q n ts nested h

    none-borne-among : (p : Place) (q : NodePlace) (n : ℕ) (ts : Trees) → Nested q → NoneToldOfTrees o ds p q n ts → bears_among ts ≡ false
    none-borne-among p q n empty nested h = refl
    none-borne-among p q n (t before ts) nested h =
        or_from (bears_rest t) (bears_among ts) (none-borne p q n t nested h.0) (none-borne-among p q (n + scope_count_in t) ts nested h.1)

  -- so none is misplaced in the fields of such a pattern
  module _ (k : AstType) (nests : nests_patterns k ≡ true) where
    none-misplaced : (p : Place) (q : NodePlace) (n i : ℕ) (last : Bool) (t : Tree) → Nested q → Edges keeps_out k i last t → NoneTold o ds p q n t → is_misplaced t ≡ false
    none-misplaced p q n i last t nested edges h = or_from (bears_rest t) (is_rest_declarator t) (none-borne p q n t nested h) (no-declarator k i last t nests edges)

    none-misplaced-in : (ps : ℕ → Place) (qs : ℕ → Field → NodePlace) (n i : ℕ) (fs : Fields) → AllNested qs → EdgesIn keeps_out k i fs → NoneToldOfFields o ds ps qs n fs → any_child is_misplaced fs ≡ false
    none-misplaced-in ps qs n i done nested edges h = refl
    none-misplaced-in ps qs n i (f then fs) nested edges h =
        or_from (any_child_by is_misplaced f) (any_child is_misplaced fs) (by-field (ps zero) (qs zero f) n (is_last fs) f (nested zero f) edges.0 h.0)
        (none-misplaced-in (λ j. ps (suc j)) (λ j. qs (suc j)) (n + scope_count_in_field f) (suc i) fs (λ j. nested (suc j)) edges.1 h.1)
      where
        among : (p : Place) (q : NodePlace) (n : ℕ) (ts : Trees) → Nested q → EdgesAll keeps_out k i ts → NoneToldOfTrees o ds p q n ts → any_tree is_misplaced ts ≡ false
        among p q n empty nested edges h = refl
        among p q n (t before ts) nested edges h =
            or_from (is_misplaced t) (any_tree is_misplaced ts) (none-misplaced p q n i false t nested edges.0 h.0) (among p q (n + scope_count_in t) ts nested edges.1 h.1)

        by-field : (p : Place) (q : NodePlace) (n : ℕ) (last : Bool) (f : Field) → Nested q → EdgesBy keeps_out k i last f → NoneToldOfField o ds p q n f → any_child_by is_misplaced f ≡ false
        by-field p q n last missing nested edges h = refl
        by-field p q n last (one t) nested edges h = none-misplaced p q n i last t nested edges h
        by-field p q n last (many ts) nested edges h = among p q n ts nested edges h
        by-field p q n last (statements ts) nested edges h = among p q n ts nested edges h

  -- NODES

  none-stray-here : (p : Place) (q : NodePlace) (n : ℕ) (k : AstType) (l : Label) (fs : Fields) → EdgesIn keeps_out k 0 fs → is_unbuilt_node o k l fs ≡ false →
      NoneToldOfFields o ds (place_in p n k l fs) (node_place_in o (binds_arguments ds (own_scope n k fs) k) q k l fs) (n + own_scope_count k fs) fs → is_stray_rest k l fs ≡ false
  none-stray-here p q n k l fs edges h told = at (nests_patterns k) refl
    where
      of-first : (asked is also a : Bool) → asked ≡ true → ((asked && (is || also)) || a) ≡ false → is ≡ false
      of-first true false also a e h = refl
      of-first true true also a e h = absurd (cc h)
      of-first false is also a e h = absurd (cc e)

      at : (b : Bool) → nests_patterns k ≡ b → is_stray_rest k l fs ≡ false
      at true nests =
          nested-stray k l fs nests
          ∙ none-misplaced-in k nests (place_in p n k l fs) (node_place_in o (binds_arguments ds (own_scope n k fs) k) q k l fs) (n + own_scope_count k fs) 0 fs (λ i f. nested-there q.pattern k nests) edges told
      at false other =
          sym (ap (λ b. not b && is_stray_rest k l fs) other)
          ∙ of-first (is_some o.es2018.object_rest_spread) (not (nests_patterns k) && is_stray_rest k l fs) (has_rest_parameter k fs) _ on h

  mutual
    none-stray : (p : Place) (q : NodePlace) (n : ℕ) (above : AstType) (i : ℕ) (last : Bool) (t : Tree) → Edges keeps_out above i last t → any_node (is_unbuilt_node o) t ≡ false → NoneTold o ds p q n t → any_node is_stray_rest t ≡ false
    none-stray p q n above i last (node k l fs) edges h told =
        let g = or_parts (is_unbuilt_node o k l fs) (any_in_fields (is_unbuilt_node o) fs) h in
        or_from (is_stray_rest k l fs) (any_in_fields is_stray_rest fs) (none-stray-here p q n k l fs edges.1 g.0 told.1)
        (none-stray-in (place_in p n k l fs) (node_place_in o (binds_arguments ds (own_scope n k fs) k) q k l fs) (n + own_scope_count k fs) k 0 fs edges.1 g.1 told.1)

    none-stray-in : (ps : ℕ → Place) (qs : ℕ → Field → NodePlace) (n : ℕ) (k : AstType) (i : ℕ) (fs : Fields) → EdgesIn keeps_out k i fs → any_in_fields (is_unbuilt_node o) fs ≡ false → NoneToldOfFields o ds ps qs n fs → any_in_fields is_stray_rest fs ≡ false
    none-stray-in ps qs n k i done edges h told = refl
    none-stray-in ps qs n k i (f then fs) edges h told =
        let g = or_parts (any_in_field (is_unbuilt_node o) f) (any_in_fields (is_unbuilt_node o) fs) h in
        or_from (any_in_field is_stray_rest f) (any_in_fields is_stray_rest fs) (none-stray-by (ps zero) (qs zero f) n k i (is_last fs) f edges.0 g.0 told.0)
        (none-stray-in (λ j. ps (suc j)) (λ j. qs (suc j)) (n + scope_count_in_field f) k (suc i) fs edges.1 g.1 told.1)

    none-stray-by : (p : Place) (q : NodePlace) (n : ℕ) (k : AstType) (i : ℕ) (last : Bool) (f : Field) → EdgesBy keeps_out k i last f → any_in_field (is_unbuilt_node o) f ≡ false → NoneToldOfField o ds p q n f → any_in_field is_stray_rest f ≡ false
    none-stray-by p q n k i last missing edges h told = refl
    none-stray-by p q n k i last (one t) edges h told = none-stray p q n k i last t edges h told
    none-stray-by p q n k i last (many ts) edges h told = none-stray-among p q n k i ts edges h told
    none-stray-by p q n k i last (statements ts) edges h told = none-stray-among p q n k i ts edges h told

    none-stray-among : (p : Place) (q : NodePlace) (n : ℕ) (k : AstType) (i : ℕ) (ts : Trees) → EdgesAll keeps_out k i ts → any_in_trees (is_unbuilt_node o) ts ≡ false → NoneToldOfTrees o ds p q n ts → any_in_trees is_stray_rest ts ≡ false
    none-stray-among p q n k i empty edges h told = refl
    none-stray-among p q n k i (t before ts) edges h told =
        let g = or_parts (any_node (is_unbuilt_node o) t) (any_in_trees (is_unbuilt_node o) ts) h in
        or_from (any_node is_stray_rest t) (any_in_trees is_stray_rest ts) (none-stray p q n k i false t edges.0 g.0 told.0)
        (none-stray-among p q (n + scope_count_in t) k i ts edges.1 g.1 told.1)

pub law_strays_taken_proof : LawStraysTaken
law_strays_taken_proof o p on form taken =
    none-stray o (symbols_of p) on (outermost p) program_place 1 Program 0 false p (edges-tree keeps_out table Program 0 false s-Program p refl form) (law_built_proof o p taken) (taken-places o p taken)
