-- Where nothing is found, and a rest is declared, the program binds no `babelHelpers`.
use Rattle.std.proofs.Common.{◌≡◌, ℕ, zero, suc, ◌+◌, List, Bool, true, false, Option, Some, None, if◌then◌else◌, refl, true≢false, sym, ◌∙◌}
use Rattle.std.specs.Prelude.{◌&&◌, ◌||◌, is_some}
use Rattle.std.proofs.lemmas.Bool.{or_from}
use Rattle.es_tree.specs.Tree.{Tree, node, Label, Fields, done, ◌then◌, Field, missing, one, many, statements, Trees, empty, ◌before◌}
use Rattle.es_tree.specs.Walks.{any_in_field, any_in_fields, any_in_trees, any_node}
use Rattle.es_tree.specs.declared.ast_type.AstType.{AstType}
use Rattle.es_tree.specs.declared.options.EnvOptions.{EnvOptions}
use Rattle.es_semantic.specs.Places.{Place, own_scope_count, outermost, place_in, scope_count_in, scope_count_in_field, visits, visits_in_field, visits_in_fields, visits_in_trees}
use Rattle.es_semantic.specs.SymbolsOf.{Declared, symbols_of}
use Rattle.es_conditions.specs.CoreConditions.{is_copied}
use Rattle.es_rest_shapes.specs.HelperNames.{binds_helpers}
use Rattle.es_rest_shapes.specs.RestShapes.{is_rest_declaration}
use Rattle.es_unsupported.specs.FirstUnsupported.{first_among, found_at}
use Rattle.es_unsupported.specs.Laws.{LawHelpersFree}
use Rattle.es_unsupported.specs.Shapes.{is_helper_bound, is_math_bound, is_unbuilt, shape_at}
use Rattle.es_unsupported.proofs.Firsts.{left_none, right_none}
use Rattle.es_unsupported.proofs.Taken.{each-none, none_found, taken-shapes}

-- the rows before, and this one
third-off : {X : Type 0} (a b c : Bool) (x y z : X) (s : Option X) → (if a then Some x else if b then Some y else if c then Some z else s) ≡ None → c ≡ false
third-off true b c x y z s h = absurd (cc h)
third-off false true c x y z s h = absurd (cc h)
third-off false false true x y z s h = absurd (cc h)
third-off false false false x y z s h = refl

-- where a name that a rest's helper is a property of is bound, no rest is declared
undeclared : (on declared copied binds bound : Bool) → on ≡ true → binds ≡ true → (on && ((copied && bound) || (declared && binds))) ≡ false → declared ≡ false
undeclared on false copied binds bound e d h = refl
undeclared true true copied true bound e d h = absurd (cc (last (copied && bound) h))
  where
    last : (a : Bool) → (a || true) ≡ false → true ≡ false
    last true h = h
    last false h = h
undeclared false true copied binds bound e d h = absurd (cc e)
undeclared true true copied false bound e d h = absurd (cc d)

module _ (o : EnvOptions) (on : is_some o.es2018.object_rest_spread ≡ true) (ds : List Declared) (binds : binds_helpers ds ≡ true) where
  free-node : (up : List ℕ) (k : AstType) (l : Label) (fs : Fields) → shape_at o ds up k l fs ≡ None → is_rest_declaration k l fs ≡ false
  free-node up k l fs h =
      let row = third-off (is_unbuilt o ds up k l fs) (is_math_bound o ds up k l fs) (is_helper_bound o ds up k l fs) _ _ _ _ h in
      undeclared (is_some o.es2018.object_rest_spread) (is_rest_declaration k l fs) (is_copied k l fs) (binds_helpers ds) _ on binds row

  mutual
    free : (p : Place) (n : ℕ) (t : Tree) → first_among o ds (visits p n t) ≡ None → any_node is_rest_declaration t ≡ false
    free p n (node k l fs) h =
        let s = shape_at o ds p.around k l fs in
        let m = n + own_scope_count k fs in
        let rest = first_among o ds (visits_in_fields (place_in p n k l fs) m fs) in
        or_from (is_rest_declaration k l fs) (any_in_fields is_rest_declaration fs) (free-node p.around k l fs (none_found l.id s (left_none (found_at l.id s) rest h))) (free-in (place_in p n k l fs) m fs (right_none (found_at l.id s) rest h))

    free-in : (ps : ℕ → Place) (n : ℕ) (fs : Fields) → first_among o ds (visits_in_fields ps n fs) ≡ None → any_in_fields is_rest_declaration fs ≡ false
    free-in ps n done h = refl
    free-in ps n (f then fs) h =
        let m = n + scope_count_in_field f in
        let parts = each-none o ds (visits_in_field (ps zero) n f) (visits_in_fields (λ i. ps (suc i)) m fs) h in
        or_from (any_in_field is_rest_declaration f) (any_in_fields is_rest_declaration fs) (free-by (ps zero) n f parts.0) (free-in (λ i. ps (suc i)) m fs parts.1)

    free-by : (p : Place) (n : ℕ) (f : Field) → first_among o ds (visits_in_field p n f) ≡ None → any_in_field is_rest_declaration f ≡ false
    free-by p n missing h = refl
    free-by p n (one t) h = free p n t h
    free-by p n (many ts) h = free-among p n ts h
    free-by p n (statements ts) h = free-among p n ts h

    free-among : (p : Place) (n : ℕ) (ts : Trees) → first_among o ds (visits_in_trees p n ts) ≡ None → any_in_trees is_rest_declaration ts ≡ false
    free-among p n empty h = refl
    free-among p n (t before ts) h =
        let m = n + scope_count_in t in
        let parts = each-none o ds (visits p n t) (visits_in_trees p m ts) h in
        or_from (any_node is_rest_declaration t) (any_in_trees is_rest_declaration ts) (free p n t parts.0) (free-among p m ts parts.1)

pub law_helpers_free_proof : LawHelpersFree
law_helpers_free_proof o p on taken declared = at (binds_helpers (symbols_of p)) refl
  where
    at : (b : Bool) → binds_helpers (symbols_of p) ≡ b → b ≡ false
    at true e = absurd (true≢false (sym declared ∙ free o on (symbols_of p) e (outermost p) 1 p (taken-shapes o p taken)))
    at false e = refl
