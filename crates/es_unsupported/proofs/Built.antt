-- Where nothing is found, no construct stands in a program that no lowering takes.
use Rattle.std.proofs.Common.{◌≡◌, ℕ, zero, suc, ◌+◌, List, Bool, true, false, Option, Some, None, if◌then◌else◌, refl}
use Rattle.std.proofs.lemmas.Bool.{or_from}
use Rattle.es_tree.specs.Tree.{Tree, node, Label, Fields, done, ◌then◌, Field, missing, one, many, statements, Trees, empty, ◌before◌}
use Rattle.es_tree.specs.Walks.{any_in_field, any_in_fields, any_in_trees, any_node}
use Rattle.es_tree.specs.declared.ast_type.AstType.{AstType}
use Rattle.es_tree.specs.declared.error.UnsupportedKind.{UnsupportedKind}
use Rattle.es_tree.specs.declared.options.EnvOptions.{EnvOptions}
use Rattle.es_semantic.specs.Places.{Place, own_scope_count, outermost, place_in, scope_count_in, scope_count_in_field, visits, visits_in_field, visits_in_fields, visits_in_trees}
use Rattle.es_semantic.specs.SymbolsOf.{Declared, symbols_of}
use Rattle.es_unsupported.specs.FirstUnsupported.{first_among, found_at}
use Rattle.es_unsupported.specs.Laws.{LawBuilt}
use Rattle.es_unsupported.specs.Shapes.{is_unbuilt_node, shape_at, stray_shape}
use Rattle.es_unsupported.proofs.Firsts.{left_none, right_none}
use Rattle.es_unsupported.proofs.Taken.{each-none, none_found, taken-shapes}

not-built : (b : Bool) (x : UnsupportedKind) (s : Option UnsupportedKind) → (if b then Some x else s) ≡ None → b ≡ false
not-built true x s h = absurd (cc h)
not-built false x s h = refl

module _ (o : EnvOptions) (ds : List Declared) where
  built-node : (up : List ℕ) (k : AstType) (l : Label) (fs : Fields) → shape_at o ds up k l fs ≡ None → is_unbuilt_node o k l fs ≡ false
  built-node up k l fs h = not-built (is_unbuilt_node o k l fs) (stray_shape k fs) _ h

  mutual
    built : (p : Place) (n : ℕ) (t : Tree) → first_among o ds (visits p n t) ≡ None → any_node (is_unbuilt_node o) t ≡ false
    built p n (node k l fs) h =
        let s = shape_at o ds p.around k l fs in
        let m = n + own_scope_count k fs in
        let rest = first_among o ds (visits_in_fields (place_in p n k l fs) m fs) in
        or_from (is_unbuilt_node o k l fs) (any_in_fields (is_unbuilt_node o) fs) (built-node p.around k l fs (none_found l.id s (left_none (found_at l.id s) rest h))) (built-in (place_in p n k l fs) m fs (right_none (found_at l.id s) rest h))

    built-in : (ps : ℕ → Place) (n : ℕ) (fs : Fields) → first_among o ds (visits_in_fields ps n fs) ≡ None → any_in_fields (is_unbuilt_node o) fs ≡ false
    built-in ps n done h = refl
    built-in ps n (f then fs) h =
        let m = n + scope_count_in_field f in
        let parts = each-none o ds (visits_in_field (ps zero) n f) (visits_in_fields (λ i. ps (suc i)) m fs) h in
        or_from (any_in_field (is_unbuilt_node o) f) (any_in_fields (is_unbuilt_node o) fs) (built-by (ps zero) n f parts.0) (built-in (λ i. ps (suc i)) m fs parts.1)

    built-by : (p : Place) (n : ℕ) (f : Field) → first_among o ds (visits_in_field p n f) ≡ None → any_in_field (is_unbuilt_node o) f ≡ false
    built-by p n missing h = refl
    built-by p n (one t) h = built p n t h
    built-by p n (many ts) h = built-among p n ts h
    built-by p n (statements ts) h = built-among p n ts h

    built-among : (p : Place) (n : ℕ) (ts : Trees) → first_among o ds (visits_in_trees p n ts) ≡ None → any_in_trees (is_unbuilt_node o) ts ≡ false
    built-among p n empty h = refl
    built-among p n (t before ts) h =
        let m = n + scope_count_in t in
        let parts = each-none o ds (visits p n t) (visits_in_trees p m ts) h in
        or_from (any_node (is_unbuilt_node o) t) (any_in_trees (is_unbuilt_node o) ts) (built p n t parts.0) (built-among p m ts parts.1)

pub law_built_proof : LawBuilt
law_built_proof o p taken = built o (symbols_of p) (outermost p) 1 p (taken-shapes o p taken)
