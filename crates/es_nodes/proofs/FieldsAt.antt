-- The field at a place of a node, as a list of fields gives it.
use Rattle.std.proofs.Common.{◌≡◌, ℕ, zero, suc, ◌<◌, ◌≤◌, Bor, Option, Some, None, List, [], ◌∷◌, map, length, get_or, refl, ap, arith}
use Rattle.std.specs.Slice.{IsItemAt}
use Rattle.es_tree.specs.Constructs.{field_at}
use Rattle.es_tree.specs.Tree.{fields, missing}
use Rattle.es_tree.specs.Views.{plain_field}
use Rattle.es_tree.specs.declared.node.Field.{Field as NodeField}
use Rattle.es_nodes.specs.MaybeFields.{maybe_field}

field_at-get : (xs : List NodeField) (i : ℕ) (f : NodeField) → i < length xs → f ≡ get_or xs i f → plain_field f ≡ field_at i (fields (map plain_field xs))
field_at-get [] i f h e = absurd (omega (arith, h))
field_at-get (x ∷ xs) zero f h e = ap plain_field e
field_at-get (x ∷ xs) (suc i) f h e = field_at-get xs i f (omega (arith, h)) e

field_at-past : (xs : List NodeField) (i : ℕ) → length xs ≤ i → missing ≡ field_at i (fields (map plain_field xs))
field_at-past [] i h = refl
field_at-past (x ∷ xs) zero h = absurd (omega (arith, h))
field_at-past (x ∷ xs) (suc i) h = field_at-past xs i (omega (arith, h))

pub field_at-item : (xs : List NodeField) (i : ℕ) (r : Option (Bor NodeField)) → IsItemAt xs i r → maybe_field r ≡ field_at i (fields (map plain_field xs))
field_at-item xs i None h = field_at-past xs i h.3
field_at-item xs i (Some f) h = field_at-get xs i f.now h.3.0 h.1
