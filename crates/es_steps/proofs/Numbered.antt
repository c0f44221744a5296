-- New names whose symbols are numbered on from the next free one.
use Rattle.std.proofs.Common.{arith, ◌≤◌, ◌<◌, ◌+◌, ◌≡◌, ℕ, refl, sym, ap, ◌∙◌, List, [], ◌∷◌, length}
use Rattle.std.specs.Prelude.{Bool, true, false, ◌&&◌, Option, Some, if◌then◌else◌}
use Rattle.std.specs.List.{list_all}
use Rattle.std.proofs.Common.{eq-eqb}
use Rattle.std.proofs.lemmas.Bool.{ne_eqb}
use Rattle.es_tree.specs.Words.{Text}
use Rattle.es_tree.specs.References.{is_symbol}
use Rattle.es_resolution.specs.Declarations.{Bound}
use Rattle.es_steps.specs.Rules.{calling}

abbrev pub Numbered : ℕ → List Bound → Type 0
Numbered f [] = Unit {0}
Numbered f (b ∷ bs) = (b.symbol ≡ Some f) × Numbered (f + 1) bs

other : (f m : ℕ) (o : Option ℕ) → o ≡ Some f → (m ≡ f → ⊥) → is_symbol m o ≡ false
other f m o e d = ap (λ z. is_symbol m z) e ∙ ne_eqb f m (λ g. d (sym g))

this_one : (f : ℕ) (o : Option ℕ) → o ≡ Some f → is_symbol f o ≡ true
this_one f o e = ap (λ z. is_symbol f z) e ∙ eq-eqb f f refl

-- the symbols before them keep their names
pub numbered-old : (called : ℕ → Text) (f : ℕ) (bs : List Bound) → Numbered f bs → (m : ℕ) → m < f → calling bs called m ≡ called m
numbered-old called f [] h m e = refl
numbered-old called f (b ∷ bs) h m e = (λ i. if other f m b.symbol h.0 (λ d. omega arith) i then b.name else calling bs called m) ∙ numbered-old called (f + 1) bs h.1 m (omega arith)

-- and each of them has its own
pub numbered-new : (q : Text → Option ℕ → Bool) (called named : ℕ → Text) (f : ℕ) (bs : List Bound) → Numbered f bs → ((m : ℕ) → f ≤ m → named m ≡ calling bs called m) → ((m : ℕ) → f ≤ m → m < f + length bs → q (named m) (Some m) ≡ true) → list_all (λ b. q b.name b.symbol) bs ≡ true
numbered-new q called named f [] h agree pass = refl
numbered-new q called named f (b ∷ bs) h agree pass =
    let name : named f ≡ b.name = agree f (omega arith) ∙ (λ i. if this_one f b.symbol h.0 i then b.name else calling bs called f) in
    let first : q b.name b.symbol ≡ true = (λ i. q (sym name i) (h.0 i)) ∙ pass f (omega arith) (omega arith) in
    let rest = numbered-new q called named (f + 1) bs h.1 (λ m e. agree m (omega arith) ∙ (λ i. if other f m b.symbol h.0 (λ d. omega arith) i then b.name else calling bs called m)) (λ m e d. pass m (omega arith) (omega arith)) in
    λ i. first i && rest i
