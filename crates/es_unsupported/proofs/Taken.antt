-- Where nothing is found, no node has a shape of the table, and none that its place tells.
use Rattle.std.proofs.Common.{◌≡◌, ℕ, zero, suc, ◌+◌, List, [], ◌∷◌, ◌++◌, Option, Some, None, refl, ap}
use Rattle.std.specs.Option.{option_or}
use Rattle.es_tree.specs.Tree.{Tree, node, Fields, done, ◌then◌, Field, missing, one, many, statements, Trees, empty, ◌before◌}
use Rattle.es_tree.specs.declared.error.UnsupportedKind.{UnsupportedKind}
use Rattle.es_tree.specs.declared.options.EnvOptions.{EnvOptions}
use Rattle.es_semantic.specs.Places.{Place, Visit, outermost, own_scope, own_scope_count, place_in, scope_count_in, scope_count_in_field, visits, visits_in_field, visits_in_fields, visits_in_trees, visits_of}
use Rattle.es_semantic.specs.SymbolsOf.{Declared, symbols_of}
use Rattle.es_unsupported.specs.ArrowShapes.{binds_arguments, refers_by}
use Rattle.es_unsupported.specs.FirstUnsupported.{first_among, first_of, first_of_field, first_of_fields, first_of_trees, first_unsupported, found_at}
use Rattle.es_unsupported.specs.NodePlaces.{node_place_in, place_shape, program_place}
use Rattle.es_unsupported.specs.Shapes.{shape_at}
use Rattle.es_unsupported.specs.declared.node_places.NodePlace.{NodePlace}
use Rattle.es_unsupported.proofs.Firsts.{left_none, neither, right_none}

pub none_found : (id : ℕ) (s : Option UnsupportedKind) → found_at id s ≡ None → s ≡ None
none_found id None h = refl
none_found id (Some s) h = absurd (cc h)

found_none : (id : ℕ) (s : Option UnsupportedKind) → s ≡ None → found_at id s ≡ None
found_none id s h = ap (found_at id) h

module _ (o : EnvOptions) (ds : List Declared) where
  -- no place tells a shape
  abbrev mutual
    pub NoneTold : Place → NodePlace → ℕ → Tree → Type 0
    NoneTold p q n (node k l fs) =
        (place_shape o q (refers_by p.role) k l fs ≡ None)
        × NoneToldOfFields (place_in p n k l fs) (node_place_in o (binds_arguments ds (own_scope n k fs) k) q k l fs) (n + own_scope_count k fs) fs

    pub NoneToldOfFields : (ℕ → Place) → (ℕ → Field → NodePlace) → ℕ → Fields → Type 0
    NoneToldOfFields ps qs n done = Unit {0}
    NoneToldOfFields ps qs n (f then fs) = NoneToldOfField (ps zero) (qs zero f) n f × NoneToldOfFields (λ i. ps (suc i)) (λ i. qs (suc i)) (n + scope_count_in_field f) fs

    pub NoneToldOfField : Place → NodePlace → ℕ → Field → Type 0
    NoneToldOfField p q n missing = Unit {0}
    NoneToldOfField p q n (one t) = NoneTold p q n t
    NoneToldOfField p q n (many ts) = NoneToldOfTrees p q n ts
    NoneToldOfField p q n (statements ts) = NoneToldOfTrees p q n ts

    pub NoneToldOfTrees : Place → NodePlace → ℕ → Trees → Type 0
    NoneToldOfTrees p q n empty = Unit {0}
    NoneToldOfTrees p q n (t before ts) = NoneTold p q n t × NoneToldOfTrees p q (n + scope_count_in t) ts

  -- FROM ALL that is looked for

  both-none : (vs ws : List Visit) → first_among o ds vs ≡ None → first_among o ds ws ≡ None → first_among o ds (vs ++ ws) ≡ None
  both-none [] ws h g = g
  both-none (v ∷ vs) ws h g =
      let here = found_at v.label.id (shape_at o ds v.place.around v.kind v.label v.fields) in
      neither here (first_among o ds (vs ++ ws)) (left_none here (first_among o ds vs) h) (both-none vs ws (right_none here (first_among o ds vs) h) g)

  mutual
    no-shapes : (p : Place) (q : NodePlace) (n : ℕ) (t : Tree) → first_of o ds p q n t ≡ None → first_among o ds (visits p n t) ≡ None
    no-shapes p q n (node k l fs) h =
        let a = shape_at o ds p.around k l fs in
        let b = place_shape o q (refers_by p.role) k l fs in
        let qs : ℕ → Field → NodePlace = node_place_in o (binds_arguments ds (own_scope n k fs) k) q k l fs in
        let m = n + own_scope_count k fs in
        let ps = place_in p n k l fs in
        let below = first_of_fields o ds ps qs m fs in
        let here = none_found l.id (option_or a b) (left_none (found_at l.id (option_or a b)) below h) in
        neither (found_at l.id a) (first_among o ds (visits_in_fields ps m fs)) (found_none l.id a (left_none a b here)) (no-shapes-in ps qs m fs (right_none (found_at l.id (option_or a b)) below h))

    no-shapes-in : (ps : ℕ → Place) (qs : ℕ → Field → NodePlace) (n : ℕ) (fs : Fields) → first_of_fields o ds ps qs n fs ≡ None → first_among o ds (visits_in_fields ps n fs) ≡ None
    no-shapes-in ps qs n done h = refl
    no-shapes-in ps qs n (f then fs) h =
        let m = n + scope_count_in_field f in
        let x = first_of_field o ds (ps zero) (qs zero f) n f in
        let y = first_of_fields o ds (λ i. ps (suc i)) (λ i. qs (suc i)) m fs in
        both-none (visits_in_field (ps zero) n f) (visits_in_fields (λ i. ps (suc i)) m fs) (no-shapes-by (ps zero) (qs zero f) n f (left_none x y h)) (no-shapes-in (λ i. ps (suc i)) (λ i. qs (suc i)) m fs (right_none x y h))

    no-shapes-by : (p : Place) (q : NodePlace) (n : ℕ) (f : Field) → first_of_field o ds p q n f ≡ None → first_among o ds (visits_in_field p n f) ≡ None
    no-shapes-by p q n missing h = refl
    no-shapes-by p q n (one t) h = no-shapes p q n t h
    no-shapes-by p q n (many ts) h = no-shapes-among p q n ts h
    no-shapes-by p q n (statements ts) h = no-shapes-among p q n ts h

    no-shapes-among : (p : Place) (q : NodePlace) (n : ℕ) (ts : Trees) → first_of_trees o ds p q n ts ≡ None → first_among o ds (visits_in_trees p n ts) ≡ None
    no-shapes-among p q n empty h = refl
    no-shapes-among p q n (t before ts) h =
        let m = n + scope_count_in t in
        let x = first_of o ds p q n t in
        let y = first_of_trees o ds p q m ts in
        both-none (visits p n t) (visits_in_trees p m ts) (no-shapes p q n t (left_none x y h)) (no-shapes-among p q m ts (right_none x y h))

  mutual
    none-told : (p : Place) (q : NodePlace) (n : ℕ) (t : Tree) → first_of o ds p q n t ≡ None → NoneTold p q n t
    none-told p q n (node k l fs) h =
        let a = shape_at o ds p.around k l fs in
        let b = place_shape o q (refers_by p.role) k l fs in
        let qs : ℕ → Field → NodePlace = node_place_in o (binds_arguments ds (own_scope n k fs) k) q k l fs in
        let below = first_of_fields o ds (place_in p n k l fs) qs (n + own_scope_count k fs) fs in
        (right_none a b (none_found l.id (option_or a b) (left_none (found_at l.id (option_or a b)) below h)), none-told-in (place_in p n k l fs) qs (n + own_scope_count k fs) fs (right_none (found_at l.id (option_or a b)) below h))

    none-told-in : (ps : ℕ → Place) (qs : ℕ → Field → NodePlace) (n : ℕ) (fs : Fields) → first_of_fields o ds ps qs n fs ≡ None → NoneToldOfFields ps qs n fs
    none-told-in ps qs n done h = tt
    none-told-in ps qs n (f then fs) h =
        let m = n + scope_count_in_field f in
        let x = first_of_field o ds (ps zero) (qs zero f) n f in
        let y = first_of_fields o ds (λ i. ps (suc i)) (λ i. qs (suc i)) m fs in
        (none-told-by (ps zero) (qs zero f) n f (left_none x y h), none-told-in (λ i. ps (suc i)) (λ i. qs (suc i)) m fs (right_none x y h))

    none-told-by : (p : Place) (q : NodePlace) (n : ℕ) (f : Field) → first_of_field o ds p q n f ≡ None → NoneToldOfField p q n f
    none-told-by p q n missing h = tt
    none-told-by p q n (one t) h = none-told p q n t h
    none-told-by p q n (many ts) h = none-told-among p q n ts h
    none-told-by p q n (statements ts) h = none-told-among p q n ts h

    none-told-among : (p : Place) (q : NodePlace) (n : ℕ) (ts : Trees) → first_of_trees o ds p q n ts ≡ None → NoneToldOfTrees p q n ts
    none-told-among p q n empty h = tt
    none-told-among p q n (t before ts) h =
        let m = n + scope_count_in t in
        let x = first_of o ds p q n t in
        let y = first_of_trees o ds p q m ts in
        (none-told p q n t (left_none x y h), none-told-among p q m ts (right_none x y h))

  pub each-none : (vs ws : List Visit) → first_among o ds (vs ++ ws) ≡ None → (first_among o ds vs ≡ None) × (first_among o ds ws ≡ None)
  each-none [] ws h = (refl, h)
  each-none (v ∷ vs) ws h =
      let here = found_at v.label.id (shape_at o ds v.place.around v.kind v.label v.fields) in
      let rest = each-none vs ws (right_none here (first_among o ds (vs ++ ws)) h) in
      (neither here (first_among o ds vs) (left_none here (first_among o ds (vs ++ ws)) h) rest.0, rest.1)

-- OF PROGRAMS

pub taken-shapes : (o : EnvOptions) (p : Tree) → first_unsupported o p ≡ None → first_among o (symbols_of p) (visits_of p) ≡ None
taken-shapes o p = no-shapes o (symbols_of p) (outermost p) program_place 1 p

-- nor does one of a program
abbrev pub NoneToldOf : EnvOptions → Tree → Type 0
NoneToldOf o p = NoneTold o (symbols_of p) (outermost p) program_place 1 p

pub taken-places : (o : EnvOptions) (p : Tree) → first_unsupported o p ≡ None → NoneToldOf o p
taken-places o p = none-told o (symbols_of p) (outermost p) program_place 1 p
