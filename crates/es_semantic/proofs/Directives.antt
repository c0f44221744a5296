-- Directives, as a list of nodes and as a list of trees.
use Rattle.es_tree.specs.Views.{plain_fields}
use Rattle.std.proofs.Common.{◌≡◌, ◌||◌, Some, List, [], ◌∷◌, slice_get, Vec, Global, refl, ap}
use Rattle.std.specs.List.{list_any}
use Rattle.es_tree.specs.Symbols.{has_use_strict, some_use_strict, is_use_strict}
use Rattle.es_tree.specs.Tree.{Tree, trees}
use Rattle.es_tree.specs.declared.node.Field.{Field as NodeField}
use Rattle.es_tree.specs.declared.node.Field.TheVariants.{Many}

some_directive : (ts : List Tree) → list_any is_use_strict ts ≡ some_use_strict (trees ts)
some_directive [] = refl
some_directive (t ∷ ts) = ap (λ b. is_use_strict t || b) (some_directive ts)

pub first_directives : (xs : List NodeField) (f : NodeField) (v : Vec Tree Global) → Some f ≡ slice_get xs 0 → f ≡ Many v → list_any is_use_strict v.items ≡ has_use_strict (plain_fields xs)
first_directives [] f v e h = absurd (cc)
first_directives (x ∷ xs) f v e h =
    let same : x ≡ Many v = cc in
    rw same (some_directive v.items)
