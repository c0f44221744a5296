-- What the arity of a node says of its fields.
use Rattle.std.specs.Prelude.{◌≡◌, List, [], ◌∷◌, length, map, suc, refl}
use Rattle.std.proofs.Common.{ap, sym, subst}
use Rattle.es_tree.specs.Tree.{Tree, fields, fields_of}
use Rattle.es_tree.specs.Views.{plain_field}
use Rattle.es_tree.specs.Plain.{plain_parts}
use Rattle.es_tree.specs.Arity.{Slot, Fits, Opens}
use Rattle.es_tree.specs.declared.ast_type.AstType.{AstType}
use Rattle.es_tree.specs.declared.node.Field.{Field as NodeField}
use Rattle.es_tree.specs.declared.node.Parts.{Parts}

pub fits_length : (ss : List Slot) (xs : List NodeField) → Fits ss (fields (map plain_field xs)) → length xs ≡ length ss
fits_length [] [] h = refl
fits_length [] (x ∷ xs) h = absurd h
fits_length (s ∷ ss) [] h = absurd h
fits_length (s ∷ ss) (x ∷ xs) h = ap suc (fits_length ss xs h.1)

pub parts_length :
    {k : AstType} {ss : List Slot} {t : Tree} (p : Parts) →
    plain_parts p ≡ t → Opens k ss t → length p.fields.items ≡ length ss
parts_length {ss} p e h = fits_length ss p.fields.items (subst (λ u. Fits ss (fields_of u)) (sym e) h.arity)
