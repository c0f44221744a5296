-- The ancestors of a stack, taken apart.
use Rattle.std.proofs.Common.{◌≡◌, ℕ, ◌+◌, ◌-◌, ◌<◌, Bor, List, [], ◌∷◌, ◌++◌, length, take, Option, Some, None, MatchOption, refl, ap, ◌∙◌, arith, length-append}
use Rattle.std.proofs.lemmas.List.{take_at}
use Rattle.std.specs.List.{IsLastAndRest}
use Rattle.es_tree.specs.Ancestors.{Ancestor}
use Rattle.es_static_rules.specs.Outward.{outward, outward_onto, plain_ancestor}
use Rattle.es_static_rules.specs.declared.ancestors.Ancestor.{Ancestor as StackedAncestor}

outward_onto-last : (up : List Ancestor) (rest : List StackedAncestor) (a : StackedAncestor) → outward_onto up (rest ++ a ∷ []) ≡ plain_ancestor a ∷ outward_onto up rest
outward_onto-last up [] a = refl
outward_onto-last up (b ∷ rest) a = outward_onto-last (plain_ancestor b ∷ up) rest a

pub outward-last : (stack rest : List StackedAncestor) (a : StackedAncestor) → stack ≡ rest ++ a ∷ [] → outward stack ≡ plain_ancestor a ∷ outward rest
unfolding outward
outward-last stack rest a e = rw e (outward_onto-last [] rest a)

pub outward-none : (stack : List StackedAncestor) → length stack ≡ 0 → outward stack ≡ []
unfolding outward
outward-none [] e = refl
outward-none (a ∷ rest) e = absurd (omega (arith, e))

pub split_outward : (stack : List StackedAncestor) (r : Option (Bor StackedAncestor × Bor (List StackedAncestor))) → MatchOption r (length stack ≡ 0) (λ p. IsLastAndRest stack p.0.now p.1.now) → MatchOption r (outward stack ≡ []) (λ p. (outward stack ≡ plain_ancestor p.0.now ∷ outward p.1.now) × (length p.1.now < length stack))
split_outward stack None h = outward-none stack h
split_outward stack (Some p) h = (outward-last stack p.1.now p.0.now h.0, omega (arith, h.1))

-- one more ancestor
pub outward-pushed : (new now old : List StackedAncestor) (a : StackedAncestor) → new ≡ now ++ a ∷ [] → now ≡ old → outward new ≡ plain_ancestor a ∷ outward old
outward-pushed new now old a e d = rw (← d) (outward-last new now a e)

-- and taken away again
pub popped : (stack left now : List StackedAncestor) (a : StackedAncestor) (n : ℕ) → stack ≡ now ++ a ∷ [] → n ≡ length stack → left ≡ take (n - 1) stack → left ≡ now
popped stack left now a n e is_length is_left =
    let all : n ≡ length now + 1 = omega (arith, ap length e, length-append now (a ∷ [])) in
    is_left ∙ rw e (take_at now (a ∷ []) (n - 1) (omega (arith, all)))
