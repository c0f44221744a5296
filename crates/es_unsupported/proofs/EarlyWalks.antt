-- Whether a `this` of an arrow stands in the fields of a node, asked one after the other.
use Rattle.std.proofs.Common.{◌≡◌, ◌∙◌, ◌+◌, ◌<◌, ℕ, suc, zero, refl, ap, sym, List, ◌∷◌, length, get_or, take, Option, Some, None}
use Rattle.std.specs.Option.{option_or}
use Rattle.std.specs.Prelude.{◌&&◌, ◌||◌, not, Bool, true, false}
use Rattle.es_tree.specs.Ancestors.{ancestor}
use Rattle.es_tree.specs.HasForm.{same_type}
use Rattle.es_tree.specs.Tree.{Tree, node, done, fields_of, kind_of, label_of}
use Rattle.es_tree.specs.Views.{plain_field, plain_fields}
use Rattle.es_tree.specs.declared.node.Field.{Field as NodeField}
use Rattle.es_tree.specs.declared.ast_type.AstType.TheVariants.{ArrowFunctionExpression, ThisExpression}
use Rattle.es_steps.specs.ThisPlaces.{keeps_this}
use Rattle.es_unsupported.specs.EarlySuper.{arrow_this, arrow_this_by, arrow_this_in}
use Rattle.es_unsupported.proofs.Firsts.{first_found, none_further}

-- as something that is found or isn't
abbrev found : Bool → Option (Unit {0})
found true = Some tt
found false = None

found-or : (a b : Bool) → found (a || b) ≡ option_or (found a) (found b)
found-or true b = refl
found-or false b = refl

is-found : (b : Bool) → found b ≡ Some tt → b ≡ true
is-found true h = refl
is-found false h = absurd (cc h)

isn't-found : (b : Bool) → found b ≡ None → b ≡ false
isn't-found true h = absurd (cc h)
isn't-found false h = refl

module _ (inside : Bool) where
  -- whether one stands in these fields, and in one of them
  abbrev pub stands : (ℕ → Bool) → List NodeField → Bool
  stands keeps fs = arrow_this_in inside keeps (plain_fields fs)

  abbrev pub stands_at : Bool → NodeField → Bool
  stands_at keeps f = not keeps && arrow_this_by inside (plain_field f)

  abbrev first : (ℕ → Bool) → List NodeField → Option (Unit {0})
  first keeps fs = found (stands keeps fs)

  abbrev at : Bool → NodeField → Option (Unit {0})
  at keeps f = found (stands_at keeps f)

  step : (keeps : ℕ → Bool) (f : NodeField) (fs : List NodeField) → first keeps (f ∷ fs) ≡ option_or (at (keeps zero) f) (first (λ i. keeps (suc i)) fs)
  step keeps f fs = found-or (stands_at (keeps zero) f) (stands (λ i. keeps (suc i)) fs)

  pub none-stands : (keeps : ℕ → Bool) (fs : List NodeField) (i : ℕ) (f : NodeField) → i < length fs → f ≡ get_or fs i f → stands keeps (take i fs) ≡ false → stands_at (keeps i) f ≡ false → stands keeps (take (i + 1) fs) ≡ false
  none-stands keeps fs i f l e h g = isn't-found (stands keeps (take (i + 1) fs)) (none_further first at (λ ks. refl) step keeps fs i f l e (ap found h) (ap found g))

  pub one-stands : (keeps : ℕ → Bool) (fs : List NodeField) (i : ℕ) (f : NodeField) → i < length fs → f ≡ get_or fs i f → stands keeps (take i fs) ≡ false → stands_at (keeps i) f ≡ true → stands keeps fs ≡ true
  one-stands keeps fs i f l e h g = is-found (stands keeps fs) (first_found first at (λ ks. refl) step keeps fs i f tt l e (ap found h) (ap found g))

-- whether the fields of a node keep a `this` of their own
abbrev pub keeps_of : Tree → ℕ → Bool
keeps_of t i = keeps_this (ancestor (kind_of t) (label_of t) done i 0)

-- the node tells it of the tree, or its fields do
pub decided : (inside own within in_fields : Bool) (t : Tree) (fs : List NodeField) → plain_fields fs ≡ fields_of t → own ≡ (same_type (kind_of t) ThisExpression && inside) → within ≡ (inside || same_type (kind_of t) ArrowFunctionExpression) → stands within (keeps_of t) fs ≡ in_fields → (own || in_fields) ≡ arrow_this inside t
decided inside own within in_fields (node k l gs) fs e o w h =
    let below : in_fields ≡ arrow_this_in (inside || same_type k ArrowFunctionExpression) (keeps_of (node k l gs)) gs = sym h ∙ (λ i. arrow_this_in (w i) (keeps_of (node k l gs)) (e i)) in
    λ i. o i || below i
