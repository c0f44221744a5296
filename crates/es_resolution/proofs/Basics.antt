-- Names that are sought, one after the other, and properties of each.
use Rattle.std.proofs.Common.{◌≡◌, ℕ, refl, ◌∙◌, List, [], ◌∷◌, ◌++◌}
use Rattle.std.specs.Prelude.{Bool, true, false, ◌||◌, Option, Some, None, map, bytes_eq, if◌then◌else◌}
use Rattle.std.proofs.lemmas.Slice.Eq.{bytes_eq-Decides}
use Rattle.es_tree.specs.Words.{Text}
use Rattle.es_resolution.specs.Declarations.{Bound, sought}
use Rattle.es_resolution.specs.Resolved.{with_symbol}

pub bytes_eq-self : (x : Text) → bytes_eq x x ≡ true
bytes_eq-self x = (bytes_eq-Decides x x).1 refl

pub bytes_eq-equal : (a b : Text) → bytes_eq a b ≡ true → a ≡ b
bytes_eq-equal a b h = (bytes_eq-Decides a b).0 h

abbrev pub either_of : Option (Option ℕ) → Option (Option ℕ) → Option (Option ℕ)
either_of None b = b
either_of (Some a) b = Some a

pub or_sought : (c : Bool) (s : Option ℕ) (a b d : Option (Option ℕ)) → d ≡ either_of a b → (if c then Some s else d) ≡ either_of (if c then Some s else a) b
or_sought true s a b d e = refl
or_sought false s a b d e = e

pub sought-append : (cs bs : List Bound) (y : Text) → sought (cs ++ bs) y ≡ either_of (sought cs y) (sought bs y)
sought-append [] bs y = refl
sought-append (c ∷ cs) bs y = or_sought (bytes_eq c.name y) c.symbol (sought cs y) (sought bs y) (sought (cs ++ bs) y) (sought-append cs bs y)

pub some_not_none : (s : Option ℕ) → ◌≡◌ {A = Option (Option ℕ)} (Some s) None → ⊥
some_not_none s e = absurd (cc e)

-- where a name is sought in vain, it is so in other symbols' names
pub if_none : (c : Bool) (s s' : Option ℕ) (a a' : Option (Option ℕ)) → (a ≡ None → a' ≡ None) → (if c then Some s else a) ≡ None → (if c then Some s' else a') ≡ None
if_none true s s' a a' f e = absurd (some_not_none s e)
if_none false s s' a a' f e = f e

pub sought-symbols : (s : Option ℕ) (bs : List Bound) (y : Text) → sought bs y ≡ None → sought (map (with_symbol s) bs) y ≡ None
sought-symbols s [] y e = refl
sought-symbols s (b ∷ bs) y e = if_none (bytes_eq b.name y) b.symbol s (sought bs y) (sought (map (with_symbol s) bs) y) (sought-symbols s bs y) e

pub none-append : (cs bs : List Bound) (y : Text) → sought cs y ≡ None → sought bs y ≡ None → sought (cs ++ bs) y ≡ None
none-append cs bs y e d = sought-append cs bs y ∙ (λ i. either_of (e i) (d i))

pub or_true : (a b : Bool) → a ≡ true → (a || b) ≡ true
or_true a b e = rw e

-- the property of each of these names
abbrev pub Each : (Bound → Type 0) → List Bound → Type 0
Each P [] = Unit {0}
Each P (b ∷ bs) = P b × Each P bs

abbrev pub every : ℕ → Bool
every i = true
