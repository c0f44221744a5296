-- What holds of the parts of a tree.
use Rattle.std.proofs.Common.{◌≡◌, ℕ, ◌<◌, List, Bool, true, false, ◌&&◌, Option, Some, None, is_some, map, length, get_or, refl, sym, ap, ◌∙◌}
use Rattle.std.specs.Option.{option_or}
use Rattle.es_tree.specs.Tree.{Tree, node, Label, Fields, Field, fields, fields_of, kind_of, label_of, trees}
use Rattle.es_tree.specs.Views.{plain_field}
use Rattle.es_tree.specs.Walks.{NodeTest, all_in_field, all_in_fields, all_in_trees, all_nodes}
use Rattle.es_tree.specs.declared.ast_type.AstType.{AstType}
use Rattle.es_tree.specs.declared.node.Field.{Field as NodeField}
use Rattle.es_tree.specs.declared.error.UnsupportedKind.{UnsupportedKind}
use Rattle.es_tree.specs.declared.options.EnvOptions.{EnvOptions}
use Rattle.es_scope.specs.declared.scoping.Scoping.{Scoping}
use Rattle.es_semantic.specs.SymbolsOf.{Declared}
use Rattle.es_unsupported.specs.ArrowShapes.{binds_arguments}
use Rattle.es_unsupported.specs.FirstUnsupported.{found_at}
use Rattle.es_unsupported.specs.MarkedWalk.{FindsFrom, LooksUp, LooksUpInField, LooksUpInFields, LooksUpInTrees, around_marked, first_at, first_in_fields, refers_by_mark, scope_mark}
use Rattle.es_unsupported.specs.NodePlaces.{node_place_in, place_shape}
use Rattle.es_unsupported.specs.Shapes.{shape_at}
use Rattle.es_unsupported.specs.declared.node_places.NodePlace.{NodePlace}
use Rattle.es_unsupported.proofs.Firsts.{holds_at}

pub both_true : (a b : Bool) → (a && b) ≡ true → (a ≡ true) × (b ≡ true)
both_true true b h = (refl, h)
both_true false b h = absurd (cc)

-- each field passes the test
pub field_passes : (test : NodeTest) (xs : List NodeField) (i : ℕ) (x : NodeField) → i < length xs → x ≡ get_or xs i x → all_in_fields test (fields (map plain_field xs)) ≡ true → all_in_field test (plain_field x) ≡ true
field_passes test xs i x l e h =
    holds_at {P = Unit {0}} (λ ps ys. all_in_fields test (fields (map plain_field ys)) ≡ true) (λ p y. all_in_field test (plain_field y) ≡ true) (λ ps y ys. both_true (all_in_field test (plain_field y)) (all_in_fields test (fields (map plain_field ys)))) (λ j. tt) xs i x l e h

-- each tree does
pub tree_passes : (test : NodeTest) (xs : List Tree) (i : ℕ) (x : Tree) → i < length xs → x ≡ get_or xs i x → all_in_trees test (trees xs) ≡ true → all_nodes test x ≡ true
tree_passes test xs i x l e h =
    holds_at {P = Unit {0}} (λ ps ys. all_in_trees test (trees ys) ≡ true) (λ p y. all_nodes test y ≡ true) (λ ps y ys. both_true (all_nodes test y) (all_in_trees test (trees ys))) (λ j. tt) xs i x l e h

-- look-up is right in each field
pub field_looks_up : (s : Scoping) (ds : List Declared) (ups : ℕ → List ℕ) (xs : List NodeField) (i : ℕ) (x : NodeField) → i < length xs → x ≡ get_or xs i x → LooksUpInFields s ds ups (fields (map plain_field xs)) → LooksUpInField s ds (ups i) (plain_field x)
field_looks_up s ds ups xs i x l e h =
    holds_at (λ us ys. LooksUpInFields s ds us (fields (map plain_field ys))) (λ up y. LooksUpInField s ds up (plain_field y)) (λ us y ys all. all) ups xs i x l e h

-- and in each tree
pub tree_looks_up : (s : Scoping) (ds : List Declared) (up : List ℕ) (xs : List Tree) (i : ℕ) (x : Tree) → i < length xs → x ≡ get_or xs i x → LooksUpInTrees s ds up (trees xs) → LooksUp s ds up x
tree_looks_up s ds up xs i x l e h =
    holds_at {P = Unit {0}} (λ us ys. LooksUpInTrees s ds up (trees ys)) (λ u y. LooksUp s ds up y) (λ us y ys all. all) (λ j. tt) xs i x l e h

-- WHAT IS SAID OF A NODE

module _ (test : NodeTest) where
  pub own_passes : (t : Tree) → all_nodes test t ≡ true → test (kind_of t) (label_of t) (fields_of t) ≡ true
  own_passes (node k l fs) h = (both_true (test k l fs) (all_in_fields test fs) h).0

  pub below_pass : (t : Tree) → all_nodes test t ≡ true → all_in_fields test (fields_of t) ≡ true
  below_pass (node k l fs) h = (both_true (test k l fs) (all_in_fields test fs) h).1

module _ (s : Scoping) (ds : List Declared) (up : List ℕ) where
  pub own_looks_up : (t : Tree) → LooksUp s ds up t → FindsFrom s ds up
  own_looks_up (node k l fs) h = h.0

  pub below_look_up : (t : Tree) → LooksUp s ds up t → LooksUpInFields s ds (around_marked up (kind_of t) (label_of t) (fields_of t)) (fields_of t)
  below_look_up (node k l fs) h = h.1

module _ (o : EnvOptions) (ds : List Declared) (up : List ℕ) (q : NodePlace) where
  -- the shape of a node, and what is known of what stands in its fields
  abbrev pub own_shape : Tree → Option UnsupportedKind
  own_shape t = option_or (shape_at o ds up (kind_of t) (label_of t) (fields_of t)) (place_shape o q (refers_by_mark (label_of t).marks) (kind_of t) (label_of t) (fields_of t))

  abbrev pub own_places : Tree → ℕ → Field → NodePlace
  own_places t = node_place_in o (binds_arguments ds (scope_mark (label_of t).marks) (kind_of t)) q (kind_of t) (label_of t) (fields_of t)

  -- a node that has a shape is the first of its tree
  pub found_here : (t : Tree) (shape : UnsupportedKind) (id : ℕ) → id ≡ (label_of t).id → Some shape ≡ own_shape t → Some (shape, id) ≡ first_at o ds up q t
  found_here (node k l fs) shape id e h = λ i. option_or (found_at (e i) (h i)) (first_in_fields o ds (around_marked up k l fs) (own_places (node k l fs)) fs)

  -- of a node that has none the first is that of its fields
  pub found_below : (t : Tree) (r : Option (UnsupportedKind × ℕ)) → None ≡ own_shape t → first_in_fields o ds (around_marked up (kind_of t) (label_of t) (fields_of t)) (own_places t) (fields_of t) ≡ r → r ≡ first_at o ds up q t
  found_below (node k l fs) r none h = sym (ap (λ s. option_or (found_at l.id s) (first_in_fields o ds (around_marked up k l fs) (own_places (node k l fs)) fs)) (sym none) ∙ h)

-- what is known of a place is the same whether or not it is asked what a scope binds, where no arrow is to become a function
pub asked_place : (o : EnvOptions) (asked binds : Bool) (q : NodePlace) (k : AstType) (l : Label) (fs : Fields) (i : ℕ) (f : Field) → asked ≡ is_some o.es2015.arrow_function → node_place_in o (asked && binds) q k l fs i f ≡ node_place_in o binds q k l fs i f
asked_place o true binds q k l fs i f e = refl
asked_place o false binds q k l fs i f e = rw (← e) refl
