-- A program of which no node has a shape that a run doesn't take has no tag that is an optional chain, where chains are lowered.
use Rattle.std.proofs.Common.{◌≡◌, ℕ, suc, ◌+◌, None, Option, Some, refl, List}
use Rattle.std.proofs.lemmas.Bool.{and_from}
use Rattle.std.specs.Prelude.{Bool, true, false, ◌&&◌, not, if◌then◌else◌}
use Rattle.std.specs.Option.{option_or}
use Rattle.es_tree.specs.Tree.{Tree, node, Label, Fields, done, ◌then◌, Field, missing, one, many, statements, Trees, empty, ◌before◌}
use Rattle.es_tree.specs.Walks.{all_nodes, all_in_field, all_in_fields, all_in_trees}
use Rattle.es_tree.specs.declared.ast_type.AstType.{AstType}
use Rattle.es_tree.specs.declared.error.UnsupportedKind.{UnsupportedKind}
use Rattle.es_tree.specs.declared.error.UnsupportedKind.TheVariants.{HelperName, MathBound, SpreadLiteral, TagChain}
use Rattle.es_tree.specs.declared.options.EnvOptions.{EnvOptions}
use Rattle.es_semantic.specs.Places.{Place, outermost, own_scope, own_scope_count, place_in, scope_count_in, scope_count_in_field}
use Rattle.es_semantic.specs.SymbolsOf.{Declared, symbols_of}
use Rattle.es_unsupported.specs.ArrowShapes.{binds_arguments, refers_by}
use Rattle.es_unsupported.specs.FirstUnsupported.{first_of, first_of_field, first_of_fields, first_of_trees, first_unsupported, found_at}
use Rattle.es_unsupported.specs.NodePlaces.{node_place_in, place_shape, program_place}
use Rattle.es_chain_tags.specs.ChainTags.{has_chain_tag}
use Rattle.es_unsupported.specs.Shapes.{is_helper_bound, is_math_bound, is_spread_literal, is_tag_chain, is_unbuilt, shape_at, stray_shape}
use Rattle.es_statement_steps.specs.Laws.{TagsAreNoChains, no_chain_tag}
use Rattle.es_unsupported.specs.declared.node_places.NodePlace.{NodePlace}

-- no row of these holds where none does
tag-row : (x : UnsupportedKind) (z a b c d : Bool) (s : Option UnsupportedKind) →
    ◌≡◌ {A = Option UnsupportedKind} (if z then Some x else if a then Some MathBound else if b then Some HelperName else if c then Some SpreadLiteral else if d then Some TagChain else s) None → d ≡ false
tag-row x true a b c d s h = absurd (cc h)
tag-row x false true b c d s h = absurd (cc h)
tag-row x false false true c d s h = absurd (cc h)
tag-row x false false false true d s h = absurd (cc h)
tag-row x false false false false true s h = absurd (cc h)
tag-row x false false false false false s h = refl

not-both : (a b : Bool) → a ≡ true → (a && b) ≡ false → not b ≡ true
not-both true true e h = absurd (cc h)
not-both true false e h = refl
not-both false b e h = absurd (cc e)

none-found : (id : ℕ) (shape : Option UnsupportedKind) → found_at id shape ≡ None → shape ≡ None
none-found id None h = refl
none-found id (Some s) h = absurd (cc h)

none-before : {X : Type 0} (here later : Option X) → option_or here later ≡ None → here ≡ None
none-before None later h = refl
none-before (Some x) later h = h

none-after : {X : Type 0} (here later : Option X) → option_or here later ≡ None → later ≡ None
none-after None later h = h
none-after (Some x) later h = absurd (cc h)

module _ (o : EnvOptions) (lowered : o.es2020.optional_chaining ≡ true) (ds : List Declared) where
  no-tag : (up : List ℕ) (k : AstType) (l : Label) (fs : Fields) → shape_at o ds up k l fs ≡ None → no_chain_tag k l fs ≡ true
  no-tag up k l fs h =
      not-both o.es2020.optional_chaining (has_chain_tag k l fs) lowered
      (tag-row (stray_shape k fs) (is_unbuilt o ds up k l fs) (is_math_bound o ds up k l fs) (is_helper_bound o ds up k l fs) (is_spread_literal o ds up k l fs) (is_tag_chain o ds up k l fs) _ h)

  mutual
    untagged : (p : Place) (q : NodePlace) (n : ℕ) (t : Tree) → first_of o ds p q n t ≡ None → all_nodes no_chain_tag t ≡ true
    untagged p q n (node k l fs) h =
        let shape = shape_at o ds p.around k l fs in
        let told = place_shape o q (refers_by p.role) k l fs in
        let here = found_at l.id (option_or shape told) in
        let qs : ℕ → Field → NodePlace = node_place_in o (binds_arguments ds (own_scope n k fs) k) q k l fs in
        let rest = first_of_fields o ds (place_in p n k l fs) qs (n + own_scope_count k fs) fs in
        and_from (no_chain_tag k l fs) (all_in_fields no_chain_tag fs) (no-tag p.around k l fs (none-before shape told (none-found l.id (option_or shape told) (none-before here rest h))))
        (untagged-in (place_in p n k l fs) qs (n + own_scope_count k fs) fs (none-after here rest h))

    untagged-in : (ps : ℕ → Place) (qs : ℕ → Field → NodePlace) (n : ℕ) (fs : Fields) → first_of_fields o ds ps qs n fs ≡ None → all_in_fields no_chain_tag fs ≡ true
    untagged-in ps qs n done h = refl
    untagged-in ps qs n (f then fs) h =
        let here = first_of_field o ds (ps 0) (qs 0 f) n f in
        let rest = first_of_fields o ds (λ i. ps (suc i)) (λ i. qs (suc i)) (n + scope_count_in_field f) fs in
        and_from (all_in_field no_chain_tag f) (all_in_fields no_chain_tag fs) (untagged-by (ps 0) (qs 0 f) n f (none-before here rest h))
        (untagged-in (λ i. ps (suc i)) (λ i. qs (suc i)) (n + scope_count_in_field f) fs (none-after here rest h))

    untagged-by : (p : Place) (q : NodePlace) (n : ℕ) (f : Field) → first_of_field o ds p q n f ≡ None → all_in_field no_chain_tag f ≡ true
    untagged-by p q n missing h = refl
    untagged-by p q n (one t) h = untagged p q n t h
    untagged-by p q n (many ts) h = untagged-among p q n ts h
    untagged-by p q n (statements ts) h = untagged-among p q n ts h

    untagged-among : (p : Place) (q : NodePlace) (n : ℕ) (ts : Trees) → first_of_trees o ds p q n ts ≡ None → all_in_trees no_chain_tag ts ≡ true
    untagged-among p q n empty h = refl
    untagged-among p q n (t before ts) h =
        let here = first_of o ds p q n t in
        let rest = first_of_trees o ds p q (n + scope_count_in t) ts in
        and_from (all_nodes no_chain_tag t) (all_in_trees no_chain_tag ts) (untagged p q n t (none-before here rest h)) (untagged-among p q (n + scope_count_in t) ts (none-after here rest h))

pub tags-are-no-chains : (o : EnvOptions) (p : Tree) → first_unsupported o p ≡ None → TagsAreNoChains o p
tags-are-no-chains o p h lowered = untagged o lowered (symbols_of p) (outermost p) program_place 1 p h
