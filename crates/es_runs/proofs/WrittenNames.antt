-- A step of rows writes no name that nothing wrote before.
use Rattle.std.proofs.Common.{◌≡◌, ℕ, refl, List, []}
use Rattle.std.specs.Prelude.{true, false}
use Rattle.es_tree.specs.Words.{Text}
use Rattle.es_tree.specs.Fresh.{is_among}
use Rattle.es_tree.specs.Scopes.{is_written, target_names, written_by, writes}
use Rattle.es_tree.specs.Tree.{Tree, node, Label, Fields, done, ◌then◌, Field, missing, one, many, statements, Trees, kind_of}
use Rattle.es_tree.specs.Walks.{any_node, any_in_fields, any_in_field, any_in_trees}
use Rattle.es_tree.specs.declared.ast_type.AstType.{AstType}
use Rattle.es_tree.specs.declared.ast_type.AstType.TheVariants.{AssignmentExpression, Identifier, ParenthesizedExpression, UpdateExpression}
use Rattle.es_runs.specs.Alike.{Need}
use Rattle.es_runs.specs.Rules.{OnePlace, OneField, InField, OneNode}
use Rattle.es_runs.specs.Rules.OnePlace.{this_place, below}
use Rattle.es_runs.specs.Rules.OneField.{first_field, later_field}
use Rattle.es_runs.specs.Rules.InField.{in_one, in_many, in_statements}
use Rattle.es_runs.specs.Rules.OneNode.{first_node, later_node}
use Rattle.es_runs.proofs.Named.{or_both, or_first, or_second}
use Rattle.es_runs.proofs.RowKinds.{is_left_kind, RowKinds}

-- the names that are written where the first field is the target
abbrev first_target : Fields → List Text
first_target (one t then fs) = target_names t
first_target _ = []

in_parentheses : (l : Label) (fs : Fields) → target_names (node ParenthesizedExpression l fs) ≡ first_target fs
in_parentheses l done = refl
in_parentheses l (missing then fs) = refl
in_parentheses l (one t then fs) = refl
in_parentheses l (many ts then fs) = refl
in_parentheses l (statements ts then fs) = refl

by_assignment : (fs : Fields) → written_by AssignmentExpression fs ≡ first_target fs
by_assignment done = refl
by_assignment (missing then fs) = refl
by_assignment (one t then fs) = refl
by_assignment (many ts then fs) = refl
by_assignment (statements ts then fs) = refl

by_update : (fs : Fields) → written_by UpdateExpression fs ≡ first_target fs
by_update done = refl
by_update (missing then fs) = refl
by_update (one t then fs) = refl
by_update (many ts then fs) = refl
by_update (statements ts then fs) = refl

-- what a row leaves is no target that is a name
left_target : (t : Tree) → is_left_kind (kind_of t) ≡ true → target_names t ≡ []
left_target (node Identifier l fs) h = absurd (cc h)
left_target (node ParenthesizedExpression l fs) h = absurd (cc h)
left_target (node _ l fs) h = refl

module _ (y : Text) (R : Need → Tree → Tree → Type 0) (kinds : (n : Need) (a b : Tree) → R n a b → RowKinds a b) where
  mutual
    target_kept : {n : Need} {a b : Tree} → OnePlace R n a b → is_among (target_names a) y ≡ false → is_among (target_names b) y ≡ false
    target_kept (this_place {n = n} {a = a} {b = b} r) h = rw (left_target b (kinds n a b r).left) refl
    target_kept (below {k = Identifier} r) h = h
    target_kept (below {k = ParenthesizedExpression} {l = l} {fs = fs} {gs = gs} r) h = rw (in_parentheses l gs) (first_kept r (rw (in_parentheses l fs) at h))
    target_kept (below {k = _} r) h = refl

    first_kept : {c : ℕ → Need} {fs gs : Fields} → OneField R c fs gs → is_among (first_target fs) y ≡ false → is_among (first_target gs) y ≡ false
    first_kept (first_field (in_one r)) h = target_kept r h
    first_kept (first_field (in_many r)) h = refl
    first_kept (first_field (in_statements r)) h = refl
    first_kept (later_field {f = one t} r) h = h
    first_kept (later_field {f = missing} r) h = refl
    first_kept (later_field {f = many ts} r) h = refl
    first_kept (later_field {f = statements ts} r) h = refl

  own_kept : (k : AstType) {c : ℕ → Need} {fs gs : Fields} → OneField R c fs gs → is_among (written_by k fs) y ≡ false → is_among (written_by k gs) y ≡ false
  own_kept AssignmentExpression {fs = fs} {gs = gs} r h = rw (by_assignment gs) (first_kept r (rw (by_assignment fs) at h))
  own_kept UpdateExpression {fs = fs} {gs = gs} r h = rw (by_update gs) (first_kept r (rw (by_update fs) at h))
  own_kept _ r h = refl

  module _ (base : (n : Need) (a b : Tree) → R n a b → is_written y a ≡ false → is_written y b ≡ false) where
    mutual
      pub step_unwritten : {n : Need} {t u : Tree} → OnePlace R n t u → is_written y t ≡ false → is_written y u ≡ false
      step_unwritten (this_place {n = n} {a = a} {b = b} r) h = base n a b r h
      step_unwritten (below {k = k} {l = l} {fs = fs} {gs = gs} r) h =
          or_both (writes y k l gs) (any_in_fields (writes y) gs)
          (own_kept k r (or_first (writes y k l fs) (any_in_fields (writes y) fs) h))
          (fields_unwritten r (or_second (writes y k l fs) (any_in_fields (writes y) fs) h))

      fields_unwritten : {c : ℕ → Need} {fs gs : Fields} → OneField R c fs gs → any_in_fields (writes y) fs ≡ false → any_in_fields (writes y) gs ≡ false
      fields_unwritten (first_field {f = f} {g = g} {fs = fs} r) h =
          or_both (any_in_field (writes y) g) (any_in_fields (writes y) fs) (field_unwritten r (or_first (any_in_field (writes y) f) (any_in_fields (writes y) fs) h)) (or_second (any_in_field (writes y) f) (any_in_fields (writes y) fs) h)
      fields_unwritten (later_field {f = f} {fs = fs} {gs = gs} r) h =
          or_both (any_in_field (writes y) f) (any_in_fields (writes y) gs) (or_first (any_in_field (writes y) f) (any_in_fields (writes y) fs) h) (fields_unwritten r (or_second (any_in_field (writes y) f) (any_in_fields (writes y) fs) h))

      field_unwritten : {n : Need} {f g : Field} → InField R n f g → any_in_field (writes y) f ≡ false → any_in_field (writes y) g ≡ false
      field_unwritten (in_one r) h = step_unwritten r h
      field_unwritten (in_many r) h = trees_unwritten r h
      field_unwritten (in_statements r) h = trees_unwritten r h

      trees_unwritten : {n : Need} {ts us : Trees} → OneNode R n ts us → any_in_trees (writes y) ts ≡ false → any_in_trees (writes y) us ≡ false
      trees_unwritten (first_node {a = a} {b = b} {xs = xs} r) h =
          or_both (any_node (writes y) b) (any_in_trees (writes y) xs) (step_unwritten r (or_first (any_node (writes y) a) (any_in_trees (writes y) xs) h)) (or_second (any_node (writes y) a) (any_in_trees (writes y) xs) h)
      trees_unwritten (later_node {a = a} {xs = xs} {ys = zs} r) h =
          or_both (any_node (writes y) a) (any_in_trees (writes y) zs) (or_first (any_node (writes y) a) (any_in_trees (writes y) xs) h) (trees_unwritten r (or_second (any_node (writes y) a) (any_in_trees (writes y) xs) h))
