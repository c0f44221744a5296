-- Where no pattern with a rest stands where it isn't lowered, and no declaration declares one, none is declared: each is assigned to.
use Rattle.std.proofs.Common.{◌≡◌, refl, true≢false, sym}
use Rattle.std.specs.Prelude.{Bool, false, true, ◌||◌, ◌&&◌, not, bytes_eq, codes}
use Rattle.std.proofs.lemmas.Bool.{and_left, and_parts, or_from, or_parts}
use Rattle.es_tree.specs.Constructs.{is_object_rest}
use Rattle.es_tree.specs.HasForm.{same_type}
use Rattle.es_tree.specs.Names.{first_text}
use Rattle.es_tree.specs.RestTargets.{is_rest_assignment, is_rest_target}
use Rattle.es_tree.specs.Tree.{Tree, node, Label, Fields, done, ◌then◌, Field, missing, one, many, statements, Trees, empty, ◌before◌}
use Rattle.es_tree.specs.Walks.{any_in_field, any_in_fields, any_in_trees, any_node}
use Rattle.es_tree.specs.declared.ast_type.AstType.{AstType}
use Rattle.es_tree.specs.declared.ast_type.AstType.TheVariants.{AssignmentExpression, ObjectPattern, ObjectTarget}
use Rattle.es_reached.specs.NoRests.{is_declared_rest}
use Rattle.es_rest_shapes.specs.RestShapes.{any_child, any_child_by, any_tree, bears_first, bears_rest, is_misplaced, is_rest_declaration, is_rest_declarator, is_stray_rest}
use Rattle.es_rest_shapes.proofs.NoneLeft.{children-placed}
use Rattle.es_rest_rows.specs.Laws.{LawNoneDeclared}

-- what is assigned to isn't declared
target-none : (l : Label) (fs : Fields) → is_declared_rest ObjectTarget l fs ≡ false
target-none l fs = off (is_object_rest ObjectTarget l fs)
  where
    off : (b : Bool) → (b && false) ≡ false
    off true = refl
    off false = refl

-- a node that is at its place is none itself
own-none : (k : AstType) (l : Label) (fs : Fields) → is_misplaced (node k l fs) ≡ false → is_declared_rest k l fs ≡ false
own-none ObjectPattern l fs m = and_left (is_object_rest ObjectPattern l fs) true (or_parts (is_object_rest ObjectPattern l fs) (bears_first fs) (or_parts (bears_rest (node ObjectPattern l fs)) false m).0).0
own-none ObjectTarget l fs m = target-none l fs
own-none k l fs m = refl

either-way : {X : Type 0} (b : Bool) → (b ≡ false → X) → (b ≡ true → X) → X
either-way false f g = f refl
either-way true f g = g refl

mutual
  pub law_none_declared_proof : LawNoneDeclared
  law_none_declared_proof (node k l fs) m s d =
      let strays = or_parts (is_stray_rest k l fs) (any_in_fields is_stray_rest fs) s in
      let declared = or_parts (is_rest_declaration k l fs) (any_in_fields is_rest_declaration fs) d in
      or_from (is_declared_rest k l fs) (any_in_fields is_declared_rest fs) (own-none k l fs m)
      (either-way (is_rest_assignment k l fs) (λ e. none-in fs (children-placed k l fs m declared.0 e strays.0) strays.1 declared.1) (λ e. none-assigned k l fs e strays.0 strays.1 declared.1))

  -- in an assignment to a pattern with a rest all but its target is at its place
  none-assigned : (k : AstType) (l : Label) (fs : Fields) → is_rest_assignment k l fs ≡ true → is_stray_rest k l fs ≡ false → any_in_fields is_stray_rest fs ≡ false → any_in_fields is_rest_declaration fs ≡ false → any_in_fields is_declared_rest fs ≡ false
  none-assigned AssignmentExpression l (f then fs) e s ss ds =
      let strays = or_parts (any_in_field is_stray_rest f) (any_in_fields is_stray_rest fs) ss in
      let declared = or_parts (any_in_field is_rest_declaration f) (any_in_fields is_rest_declaration fs) ds in
      let value = (or_parts (any_child_by is_misplaced f && not (is_rest_assignment AssignmentExpression l (f then fs))) (any_child is_misplaced fs) s).1 in
      or_from (any_in_field is_declared_rest f) (any_in_fields is_declared_rest fs) (none-target f (and_parts (bytes_eq (first_text l.texts) (codes "=")) (is_rest_target f) e).1 strays.0 declared.0) (none-in fs value strays.1 declared.1)
  none-assigned AssignmentExpression l done e s ss ds = refl
  none-assigned k l fs e s ss ds = absurd (true≢false (sym e))

  none-target : (f : Field) → is_rest_target f ≡ true → any_in_field is_stray_rest f ≡ false → any_in_field is_rest_declaration f ≡ false → any_in_field is_declared_rest f ≡ false
  none-target (one (node ObjectTarget l fs)) t s d =
      let strays = or_parts (any_child is_misplaced fs) (any_in_fields is_stray_rest fs) s in
      or_from (is_declared_rest ObjectTarget l fs) (any_in_fields is_declared_rest fs) (target-none l fs) (none-in fs strays.0 strays.1 d)
  none-target _ t s d = absurd (true≢false (sym t))

  none-in : (fs : Fields) → any_child is_misplaced fs ≡ false → any_in_fields is_stray_rest fs ≡ false → any_in_fields is_rest_declaration fs ≡ false → any_in_fields is_declared_rest fs ≡ false
  none-in done m s d = refl
  none-in (f then fs) m s d =
      let placed = or_parts (any_child_by is_misplaced f) (any_child is_misplaced fs) m in
      let strays = or_parts (any_in_field is_stray_rest f) (any_in_fields is_stray_rest fs) s in
      let declared = or_parts (any_in_field is_rest_declaration f) (any_in_fields is_rest_declaration fs) d in
      or_from (any_in_field is_declared_rest f) (any_in_fields is_declared_rest fs) (none-by f placed.0 strays.0 declared.0) (none-in fs placed.1 strays.1 declared.1)

  none-by : (f : Field) → any_child_by is_misplaced f ≡ false → any_in_field is_stray_rest f ≡ false → any_in_field is_rest_declaration f ≡ false → any_in_field is_declared_rest f ≡ false
  none-by missing m s d = refl
  none-by (one t) m s d = law_none_declared_proof t m s d
  none-by (many ts) m s d = none-all ts m s d
  none-by (statements ts) m s d = none-all ts m s d

  none-all : (ts : Trees) → any_tree is_misplaced ts ≡ false → any_in_trees is_stray_rest ts ≡ false → any_in_trees is_rest_declaration ts ≡ false → any_in_trees is_declared_rest ts ≡ false
  none-all empty m s d = refl
  none-all (t before ts) m s d =
      let placed = or_parts (is_misplaced t) (any_tree is_misplaced ts) m in
      let strays = or_parts (any_node is_stray_rest t) (any_in_trees is_stray_rest ts) s in
      let declared = or_parts (any_node is_rest_declaration t) (any_in_trees is_rest_declaration ts) d in
      or_from (any_node is_declared_rest t) (any_in_trees is_declared_rest ts) (law_none_declared_proof t placed.0 strays.0 declared.0) (none-all ts placed.1 strays.1 declared.1)
