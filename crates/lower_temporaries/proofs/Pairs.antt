-- What is pending for the innermost list, with declarators of temporaries more.
use Rattle.std.proofs.Common.{◌≡◌, ◌+◌, ◌*◌, ◌<◌, List, [], ◌∷◌, ◌++◌, map, length, append-nil, append_assoc, refl, sym, ap, ◌∙◌, arith}
use Rattle.std.proofs.lemmas.List.{map-append}
use Rattle.es_tree.specs.Tree.{Tree}
use Rattle.es_resolution.specs.Declarations.{Bound}
use Rattle.es_runs.specs.Weights.{declarators_size, declarators_weight}
use Rattle.es_steps.specs.Nodes.{declarator}
use Rattle.es_steps.specs.Open.{Pending, with_vars}
use Rattle.es_changes.specs.Changes.{Level, lists_size, lists_weight}
use Rattle.es_changes.specs.Moments.{below, top}
use Rattle.lower_temporaries.specs.Stacks.{with_top}

pub with_top-length : (f : Pending → Pending) (ps : List Pending) → length (with_top f ps) ≡ length ps
with_top-length f [] = refl
with_top-length f (p ∷ ps) = refl

pub with_top-below : (f : Pending → Pending) (ps : List Pending) → below (with_top f ps) ≡ below ps
with_top-below f [] = refl
with_top-below f (p ∷ ps) = refl

pub with_top-top : (f : Pending → Pending) (ps : List Pending) → 0 < length ps → top (with_top f ps) ≡ f (top ps)
with_top-top f [] h = absurd (omega (arith, h))
with_top-top f (p ∷ ps) h = refl

pub with_top-there : (f : Pending → Pending) (ps qs : List Pending) → qs ≡ with_top f ps → 0 < length ps → 0 < length qs
with_top-there f ps qs e h = omega (arith, ap length e, with_top-length f ps, h)

-- no name more changes nothing
with_no_vars : (p : Pending) → with_vars [] p ≡ p
with_no_vars p = λ i. record p { vars = append-nil p.vars i }

pub with_no_names : (ps : List Pending) → with_top (with_vars []) ps ≡ ps
with_no_names [] = refl
with_no_names (p ∷ ps) = ap (λ (q : Pending). q ∷ ps) (with_no_vars p)

-- names after names
pub with_vars_then : (xs ys : List Bound) (p : Pending) → with_vars ys (with_vars xs p) ≡ with_vars (xs ++ ys) p
with_vars_then xs ys p = ap (λ (ds : List Tree). record p { vars = ds }) (append_assoc p.vars (map declarator xs) (map declarator ys) ∙ ap (λ ds. p.vars ++ ds) (sym (map-append declarator xs ys)))

-- A declarator of a name weighs four, with the statement that may be written for it, and has two nodes.

declarators-weight : (ds : List Tree) (bs : List Bound) → declarators_weight (ds ++ map declarator bs) ≡ declarators_weight ds + 4 * length bs
declarators-weight [] [] = omega arith
declarators-weight [] (b ∷ bs) = let h = declarators-weight [] bs in omega (arith, h)
declarators-weight (d ∷ ds) bs = let h = declarators-weight ds bs in omega (arith, h)

declarators-size : (ds : List Tree) (bs : List Bound) → declarators_size (ds ++ map declarator bs) ≡ declarators_size ds + 2 * length bs
declarators-size [] [] = omega arith
declarators-size [] (b ∷ bs) = let h = declarators-size [] bs in omega (arith, h)
declarators-size (d ∷ ds) bs = let h = declarators-size ds bs in omega (arith, h)

pub lists-weight : (bs : List Bound) (ps : List Pending) → 0 < length ps → lists_weight (with_top (with_vars bs) ps) ≡ lists_weight ps + 4 * length bs
lists-weight bs [] there = absurd (omega (arith, there))
lists-weight bs (p ∷ ps) there = let h = declarators-weight p.vars bs in omega (arith, h)

pub lists-size : (bs : List Bound) (ps : List Pending) → 0 < length ps → lists_size (with_top (with_vars bs) ps) ≡ lists_size ps + 2 * length bs
lists-size bs [] there = absurd (omega (arith, there))
lists-size bs (p ∷ ps) there = let h = declarators-size p.vars bs in omega (arith, h)

pub with_top-level : (f : Pending → Pending) (ps qs : List Pending) → qs ≡ with_top f ps → Level ps qs
with_top-level f ps qs e = record { deep = ap length e ∙ with_top-length f ps; outer = ap below e ∙ with_top-below f ps }
