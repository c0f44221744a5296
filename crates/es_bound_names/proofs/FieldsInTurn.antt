-- Tests of the fields of a node, each by what is known of it, one after the other.
use Rattle.std.proofs.Common.{◌≡◌, ◌∙◌, ◌+◌, ◌<◌, Bool, List, [], ◌∷◌, ℕ, zero, suc, add-one, ap, arith, false, get_or, length, refl, sym, take, true}
use Rattle.std.proofs.lemmas.Bool.{or_from, or_left, or_parts, or_right}
use Rattle.std.specs.Prelude.{map}
use Rattle.es_tree.specs.Tree.{fields}
use Rattle.es_tree.specs.Views.{plain_field}
use Rattle.es_tree.specs.Words.{Text}
use Rattle.es_tree.specs.declared.node.Field.{Field as NodeField}
use Rattle.es_bound_names.specs.BoundNames.{declares_by, declares_in}

module _ (x : Text) where
  -- whether one of these fields declares it, and whether this one does
  abbrev pub declares_of : (ℕ → Bool) → List NodeField → Bool
  declares_of bs fs = declares_in x bs (fields (map plain_field fs))

  abbrev pub here : Bool → NodeField → Bool
  here b f = declares_by x b (plain_field f)

  further : (bs : ℕ → Bool) (fs : List NodeField) (i : ℕ) (f : NodeField) → i < length fs → f ≡ get_or fs i f → declares_of bs (take i fs) ≡ false → here (bs i) f ≡ false → declares_of bs (take (suc i) fs) ≡ false
  further bs [] i f l e so_far this = absurd (omega (arith, l))
  further bs (g ∷ fs) zero f l e so_far this = or_from (here (bs zero) g) false (ap (here (bs zero)) (sym e) ∙ this) refl
  further bs (g ∷ fs) (suc i) f l e so_far this =
      let parts = or_parts (here (bs zero) g) (declares_of (λ j. bs (suc j)) (take i fs)) so_far in
      or_from (here (bs zero) g) (declares_of (λ j. bs (suc j)) (take (suc i) fs)) parts.0 (further (λ j. bs (suc j)) fs i f (omega (arith, l)) e parts.1 this)

  -- none of them does, with one field more
  pub none-further : (bs : ℕ → Bool) (fs : List NodeField) (i : ℕ) (f : NodeField) → i < length fs → f ≡ get_or fs i f → declares_of bs (take i fs) ≡ false → here (bs i) f ≡ false → declares_of bs (take (i + 1) fs) ≡ false
  none-further bs fs i f l e so_far this = rw (add-one i) (further bs fs i f l e so_far this)

  -- one of them does
  pub one-found : (bs : ℕ → Bool) (fs : List NodeField) (i : ℕ) (f : NodeField) → i < length fs → f ≡ get_or fs i f → here (bs i) f ≡ true → declares_of bs fs ≡ true
  one-found bs [] i f l e this = absurd (omega (arith, l))
  one-found bs (g ∷ fs) zero f l e this = or_left (here (bs zero) g) (declares_of (λ j. bs (suc j)) fs) (ap (here (bs zero)) (sym e) ∙ this)
  one-found bs (g ∷ fs) (suc i) f l e this = or_right (here (bs zero) g) (declares_of (λ j. bs (suc j)) fs) (one-found (λ j. bs (suc j)) fs i f (omega (arith, l)) e this)
