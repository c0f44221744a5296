-- What is lowered one after the other, and as a part of more.
use Rattle.std.proofs.Common.{◌≡◌, ◌∙◌, ◌+◌, ◌∷◌, List, [], ap, length, ℕ, ◌++◌}
use Rattle.es_tree.specs.Words.{Text}
use Rattle.es_scope.specs.Uids.{made}
use Rattle.es_scope.specs.declared.uids.UidGenerator.{UidGenerator}
use Rattle.es_pattern_moves.specs.Moved.{name_of}
use Rattle.es_using_rows.specs.Used.{Makes, plainly}
use Rattle.lower_using.specs.Uses.{MakesNames, UsesAs}
use Rattle.lower_using.proofs.Names.{begins-before, makes-none, makes-then, name-next, one-more}

-- nothing is
pub uses-none : {X Y : Type 0} (f : Makes → ℕ → X → ℕ × Y) (a : UidGenerator) (x : X) (y : Y) → ((m : Makes) (n : ℕ) → f m n x ≡ (n, y)) → UsesAs f a a x y
uses-none f a x y e = record { names = []; makes = makes-none a; becomes = λ all s. e (plainly all) (length (made a)) }

-- with one name
pub uses-one : {X Y : Type 0} (f : Makes → ℕ → X → ℕ × Y) (a b : UidGenerator) (t : Text) (x : X) (y : Y) → MakesNames a b (t ∷ []) → ((all : List Text) (n : ℕ) → name_of all n ≡ t → f (plainly all) n x ≡ (n + 1, y)) → UsesAs f a b x y
uses-one f a b t x y h e = record {
  names = t ∷ [];
  makes = h;
  becomes = λ all s. e all (length (made a)) (name-next a b t all h s) ∙ ap (λ n. (n, y)) (one-more a b t h);
}

-- a part is, and nothing else; where labels are those of a program as it is read
pub uses-plain-part : {X Y Z W : Type 0} (f : Makes → ℕ → X → ℕ × Y) (g : Makes → ℕ → Z → ℕ × W) (h : Y → W) {a b : UidGenerator} {x : X} {y : Y} (z : Z) → ((all : List Text) (n : ℕ) → g (plainly all) n z ≡ ((f (plainly all) n x).0, h (f (plainly all) n x).1)) → UsesAs f a b x y → UsesAs g a b z (h y)
uses-plain-part f g h {a} {b} {x} {y} z e s = record {
  names = s.names;
  makes = s.makes;
  becomes = λ all l. e all (length (made a)) ∙ ap (λ r. (r.0, h r.1)) (s.becomes all l);
}

-- and whatever the labels are
pub uses-part : {X Y Z W : Type 0} (f : Makes → ℕ → X → ℕ × Y) (g : Makes → ℕ → Z → ℕ × W) (h : Y → W) {a b : UidGenerator} {x : X} {y : Y} (z : Z) → ((m : Makes) (n : ℕ) → g m n z ≡ ((f m n x).0, h (f m n x).1)) → UsesAs f a b x y → UsesAs g a b z (h y)
uses-part f g h z e s = uses-plain-part f g h z (λ all n. e (plainly all) n) s

-- a part is, and then the whole
pub uses-through : {X Y Z W V : Type 0} (f : Makes → ℕ → X → ℕ × Y) (g : Makes → ℕ → Z → ℕ × W) (k : Makes → ℕ → V → ℕ × W) (h : Y → Z) {a b c : UidGenerator} {x : X} {y : Y} {w : W} (v : V) → ((m : Makes) (n : ℕ) → k m n v ≡ g m (f m n x).0 (h (f m n x).1)) → UsesAs f a b x y → UsesAs g b c (h y) w → UsesAs k a c v w
uses-through f g k h {a} {b} {c} {x} {y} {w} v e s s' = record {
  names = s.names ++ s'.names;
  makes = makes-then s.makes s'.makes;
  becomes = λ all l. e (plainly all) (length (made a)) ∙ (ap (λ r. g (plainly all) r.0 (h r.1)) (s.becomes all (begins-before all s'.makes l)) ∙ s'.becomes all l);
}

-- two parts are, one after the other
pub uses-then : {X Y Z W V U : Type 0} (f : Makes → ℕ → X → ℕ × Y) (g : Makes → ℕ → Z → ℕ × W) (k : Makes → ℕ → V → ℕ × U) (h : Y → W → U) {a b c : UidGenerator} {x : X} {y : Y} {z : Z} {w : W} (v : V) → ((m : Makes) (n : ℕ) → k m n v ≡ ((g m (f m n x).0 z).0, h (f m n x).1 (g m (f m n x).0 z).1)) → UsesAs f a b x y → UsesAs g b c z w → UsesAs k a c v (h y w)
uses-then f g k h {a} {b} {c} {x} {y} {z} {w} v e s s' = record {
  names = s.names ++ s'.names;
  makes = makes-then s.makes s'.makes;
  becomes = λ all l. e (plainly all) (length (made a)) ∙ (ap (λ r. ((g (plainly all) r.0 z).0, h r.1 (g (plainly all) r.0 z).1)) (s.becomes all (begins-before all s'.makes l)) ∙ ap (λ r. (r.0, h y r.1)) (s'.becomes all l));
}
