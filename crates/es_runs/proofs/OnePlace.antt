-- From a rule at one place to trees that are near.
use Rattle.std.proofs.Common.{◌≡◌, ℕ, zero, suc, refl}
use Rattle.std.specs.Prelude.{Bool, false}
use Rattle.es_tree.specs.Words.{Text}
use Rattle.es_tree.specs.Tree.{Tree, Fields, Field, Trees}
use Rattle.es_runs.specs.Alike.{Level, Need, needs, is_bad, touches, touches_fields, touches_field, touches_nodes, Near, NearFields, NearField, NearNodes}
use Rattle.es_runs.specs.Alike.Near.{here, within}
use Rattle.es_runs.specs.Alike.NearFields.{near_then}
use Rattle.es_runs.specs.Alike.NearField.{near_one, near_many, near_statements}
use Rattle.es_runs.specs.Alike.NearNodes.{near_before}
use Rattle.es_runs.specs.Core.{}
use Rattle.es_runs.specs.Rules.{OnePlace, OneField, InField, OneNode}
use Rattle.es_runs.specs.Rules.OnePlace.{this_place, below}
use Rattle.es_runs.specs.Rules.OneField.{first_field, later_field}
use Rattle.es_runs.specs.Rules.InField.{in_one, in_many, in_statements}
use Rattle.es_runs.specs.Rules.OneNode.{first_node, later_node}
use Rattle.es_runs.proofs.Fresh.{or_left, or_right, near_field, near_fields, near_all, near_self}

module _ (bad : Level → Text → Bool) (R : Need → Tree → Tree → Type 0) where
  -- the rule, at a node where no bad name stands
  abbrev pub Unnamed : Need → Tree → Tree → Type 0
  Unnamed n a b = R n a b × (touches bad n a ≡ false)

  mutual
    pub near_place : {n : Need} {a b : Tree} → OnePlace R n a b → touches bad n a ≡ false → Near bad Unnamed n a b
    near_place (this_place r) h = here (r, h)
    near_place {n} (below {k = k} {l = l} {fs = fs} r) h = within (or_left (is_bad bad n.level k l.texts) (touches_fields bad (needs n k l.texts l.flags) fs) h) refl refl (near_one_field r (or_right (is_bad bad n.level k l.texts) (touches_fields bad (needs n k l.texts l.flags) fs) h))

    near_one_field : {c : ℕ → Need} {fs gs : Fields} → OneField R c fs gs → touches_fields bad c fs ≡ false → NearFields bad Unnamed c fs gs
    near_one_field (first_field {c = c} {f = f} {fs = fs} r) h = near_then (near_in r (or_left (touches_field bad (c zero) f) (touches_fields bad (λ i. c (suc i)) fs) h)) (near_fields bad Unnamed fs (λ i. c (suc i)) (or_right (touches_field bad (c zero) f) (touches_fields bad (λ i. c (suc i)) fs) h))
    near_one_field (later_field {c = c} {f = f} {fs = fs} r) h = near_then (near_field bad Unnamed f (c zero) (or_left (touches_field bad (c zero) f) (touches_fields bad (λ i. c (suc i)) fs) h)) (near_one_field r (or_right (touches_field bad (c zero) f) (touches_fields bad (λ i. c (suc i)) fs) h))

    near_in : {n : Need} {f g : Field} → InField R n f g → touches_field bad n f ≡ false → NearField bad Unnamed n f g
    near_in (in_one r) h = near_one (near_place r h)
    near_in (in_many r) h = near_many (near_node r h)
    near_in (in_statements r) h = near_statements (near_node r h)

    near_node : {n : Need} {xs ys : Trees} → OneNode R n xs ys → touches_nodes bad n xs ≡ false → NearNodes bad Unnamed n xs ys
    near_node (first_node {n = n} {a = a} {xs = xs} r) h = near_before (near_place r (or_left (touches bad n a) (touches_nodes bad n xs) h)) (near_all bad Unnamed xs n (or_right (touches bad n a) (touches_nodes bad n xs) h))
    near_node (later_node {n = n} {a = a} {xs = xs} r) h = near_before (near_self bad Unnamed a n (or_left (touches bad n a) (touches_nodes bad n xs) h)) (near_node r (or_right (touches bad n a) (touches_nodes bad n xs) h))
