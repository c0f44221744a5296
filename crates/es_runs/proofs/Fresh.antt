-- A tree in which no bad name stands is near itself.
use Rattle.std.proofs.Common.{◌≡◌, ℕ, zero, suc, refl}
use Rattle.std.specs.Prelude.{Bool, true, false, ◌||◌}
use Rattle.es_tree.specs.Words.{Text}
use Rattle.es_tree.specs.Tree.{Tree, Fields, Field, Trees}
use Rattle.es_tree.specs.Tree.{node}
use Rattle.es_tree.specs.Tree.{done, ◌then◌}
use Rattle.es_tree.specs.Tree.{missing, one, many, statements}
use Rattle.es_tree.specs.Tree.{empty, ◌before◌}
use Rattle.es_runs.specs.Alike.{Level, Need, needs, is_bad, touches, touches_fields, touches_field, touches_nodes, Near, NearFields, NearField, NearNodes}
use Rattle.es_runs.specs.Alike.Near.{within}
use Rattle.es_runs.specs.Alike.NearFields.{near_done, near_then}
use Rattle.es_runs.specs.Alike.NearField.{near_missing, near_one, near_many, near_statements}
use Rattle.es_runs.specs.Alike.NearNodes.{near_empty, near_before}

pub or_left : (a b : Bool) → a || b ≡ false → a ≡ false
or_left true b h = h
or_left false b h = refl

pub or_right : (a b : Bool) → a || b ≡ false → b ≡ false
or_right true b h = cc
or_right false b h = h

module _ (bad : Level → Text → Bool) (R : Need → Tree → Tree → Type 0) where
  mutual
    pub near_self : (a : Tree) (n : Need) → touches bad n a ≡ false → Near bad R n a a
    near_self (node k l fs) n h = within (or_left (is_bad bad n.level k l.texts) (touches_fields bad (needs n k l.texts l.flags) fs) h) refl refl (near_fields fs (needs n k l.texts l.flags) (or_right (is_bad bad n.level k l.texts) (touches_fields bad (needs n k l.texts l.flags) fs) h))

    pub near_fields : (fs : Fields) (c : ℕ → Need) → touches_fields bad c fs ≡ false → NearFields bad R c fs fs
    near_fields done c h = near_done
    near_fields (f then fs) c h = near_then (near_field f (c zero) (or_left (touches_field bad (c zero) f) (touches_fields bad (λ i. c (suc i)) fs) h)) (near_fields fs (λ i. c (suc i)) (or_right (touches_field bad (c zero) f) (touches_fields bad (λ i. c (suc i)) fs) h))

    pub near_field : (f : Field) (n : Need) → touches_field bad n f ≡ false → NearField bad R n f f
    near_field missing n h = near_missing
    near_field (one a) n h = near_one (near_self a n h)
    near_field (many xs) n h = near_many (near_all xs n h)
    near_field (statements xs) n h = near_statements (near_all xs n h)

    pub near_all : (xs : Trees) (n : Need) → touches_nodes bad n xs ≡ false → NearNodes bad R n xs xs
    near_all empty n h = near_empty
    near_all (a before xs) n h = near_before (near_self a n (or_left (touches bad n a) (touches_nodes bad n xs) h)) (near_all xs n (or_right (touches bad n a) (touches_nodes bad n xs) h))
