-- Going outwards through the scopes of a table ends, also once scopes are added and moved.
use Rattle.std.proofs.Common.{◌≡◌, ℕ, zero, suc, ◌+◌, ◌<◌, ◌≤◌, ◌==◌, Bool, true, false, if◌then◌else◌, Option, Some, None, List, [], ◌∷◌, length, refl, sym, ap, subst, ◌∙◌, arith}
use Rattle.std.proofs.lemmas.Bool.{eqb-true, eqb-false}
use Rattle.es_tree.specs.Heads.{scope}
use Rattle.es_scope.specs.Outwards.{AreOutwards, Ends, ends, Ends-prop, IsInside, is_it, further_in, parent_in}
use Rattle.es_scope.specs.TableChanges.{with_item, with_last}
use Rattle.es_scope.specs.declared.scoping.Scope.{Scope}

-- HOW FAR

abbrev further_out : (parents : ℕ → Option ℕ) (n : ℕ) (p : Option ℕ) → parents n ≡ p → ((up : ℕ) → parents n ≡ Some up → ℕ) → ℕ
further_out parents n None e steps = 0
further_out parents n (Some up) e steps = suc (steps up e)

-- how many steps lead out of a scope
abbrev pub steps_out : (parents : ℕ → Option ℕ) (n : ℕ) → Ends parents n → ℕ
steps_out parents n (ends f) = further_out parents n (parents n) refl (λ up e. steps_out parents up (f up e))

steps-alike : (parents : ℕ → Option ℕ) (m up : ℕ) → m ≡ up → (a : Ends parents m) (b : Ends parents up) → steps_out parents m a ≡ steps_out parents up b
steps-alike parents m up same a b =
    let P : ℕ → Type 0 = λ u. (c : Ends parents u) → steps_out parents m a ≡ steps_out parents u c in
    subst P same (λ c. ap (steps_out parents m) (Ends-prop parents m a c)) b

further-smaller : (parents : ℕ → Option ℕ) (n up : ℕ) (p : Option ℕ) (e : parents n ≡ p) (f : (m : ℕ) → parents n ≡ Some m → Ends parents m) (h : Ends parents up) → p ≡ Some up → steps_out parents up h < further_out parents n p e (λ m d. steps_out parents m (f m d))
further-smaller parents n up None e f h g = absurd (cc)
further-smaller parents n up (Some m) e f h g = let same : m ≡ up = cc in omega (arith, steps-alike parents m up same (f m e) h)

-- from its parent it is fewer
pub steps-smaller : (parents : ℕ → Option ℕ) (n up : ℕ) (a : Ends parents n) (b : Ends parents up) → parents n ≡ Some up → steps_out parents up b < steps_out parents n a
steps-smaller parents n up (ends f) b e = further-smaller parents n up (parents n) refl f b e

-- INSIDE

-- what stands inside a scope and isn't that itself has its parent inside
inside-up : (parents : ℕ → Option ℕ) (outer n up : ℕ) → IsInside parents outer n → (n ≡ outer → ⊥) → parents n ≡ Some up → IsInside parents outer up
inside-up parents outer n up (is_it e) other p = absurd (other e)
inside-up parents outer n up (further_in {up = m} e h) other p = let same : m ≡ up = cc in subst (IsInside parents outer) same h

-- from what stands inside a scope there are as many steps at least
inside-further : (parents : ℕ → Option ℕ) (all : (n : ℕ) → Ends parents n) (outer n : ℕ) → IsInside parents outer n → steps_out parents outer (all outer) ≤ steps_out parents n (all n)
inside-further parents all outer n (is_it e) = omega (arith, steps-alike parents n outer e (all n) (all outer))
inside-further parents all outer n (further_in {up = m} e h) = omega (arith, inside-further parents all outer m h, steps-smaller parents n m (all n) (all m) e)

-- the parent of a scope doesn't stand inside it
pub parent-outside : (parents : ℕ → Option ℕ) → ((n : ℕ) → Ends parents n) → (n up : ℕ) → parents n ≡ Some up → IsInside parents n up → ⊥
parent-outside parents all n up e h = omega (arith, steps-smaller parents n up (all n) (all up) e, inside-further parents all n up h)

-- nor does another scope that stands directly in that parent
pub sibling-outside : (parents : ℕ → Option ℕ) → ((n : ℕ) → Ends parents n) → (n m up : ℕ) → (m ≡ n → ⊥) → parents n ≡ Some up → parents m ≡ Some up → IsInside parents n m → ⊥
sibling-outside parents all n m up other e f h = parent-outside parents all n up e (inside-up parents n m up h other f)

-- THE SAME PARENTS

ends-same : (old new : ℕ → Option ℕ) → ((n : ℕ) → new n ≡ old n) → (n : ℕ) → Ends old n → Ends new n
ends-same old new p n (ends f) = ends (λ up e. ends-same old new p up (f up (sym (p n) ∙ e)))

pub outwards-same : (old new : List Scope) → length new ≡ length old → ((n : ℕ) → parent_in new n ≡ parent_in old n) → AreOutwards old → AreOutwards new
outwards-same old new l p o = record {
  end = λ n. ends-same (parent_in old) (parent_in new) p n (o.end n);
  known = λ n up e. omega (arith, l, o.known n up (sym (p n) ∙ e));
  outermost = p 0 ∙ o.outermost;
}

-- ONE PARENT GIVEN

-- what holds of this parent, and of those of the other scopes
given : (P : ℕ → Type 0) (i parent n : ℕ) (old : ℕ → Option ℕ) → (n ≡ i → P parent) → ((n ≡ i → ⊥) → (m : ℕ) → old n ≡ Some m → P m) → (up : ℕ) → with_item i parent old n ≡ Some up → P up
given P i parent n old this others up e = at (n == i) refl where
  at : (b : Bool) → (n == i) ≡ b → P up
  at true g =
      let both : Some parent ≡ Some up = rw g at e in
      let same : parent ≡ up = cc in
      subst P same (this (eqb-true n i g))
  at false g = others (eqb-false n i g) up (rw g at e)

-- no parent stays none
still_none : (i parent n : ℕ) (old : ℕ → Option ℕ) → (n ≡ i → ⊥) → old n ≡ None → with_item i parent old n ≡ None
still_none i parent n old other e = at (n == i) refl where
  at : (b : Bool) → (n == i) ≡ b → (if b then Some parent else old n) ≡ None
  at true g = absurd (other (eqb-true n i g))
  at false g = e

-- ONE SCOPE MORE

ends-before : (old new : ℕ → Option ℕ) (count parent : ℕ) → ((n : ℕ) → new n ≡ with_last count parent old n) → ((n up : ℕ) → old n ≡ Some up → up < count) → (n : ℕ) → n < count → Ends old n → Ends new n
ends-before old new count parent p known n l (ends f) =
    ends (λ up e. given (Ends new) count parent n old (λ g. absurd (omega (arith, l, g))) (λ _ m d. ends-before old new count parent p known m (known n m d) (f m d)) up (sym (p n) ∙ e))

ends-more : (old new : ℕ → Option ℕ) (count parent : ℕ) → parent < count → ((n : ℕ) → new n ≡ with_last count parent old n) → ((n up : ℕ) → old n ≡ Some up → up < count) → ((n : ℕ) → Ends old n) → (n : ℕ) → Ends new n
ends-more old new count parent l p known all n =
    let before : (m : ℕ) → m < count → Ends new m = λ m k. ends-before old new count parent p known m k (all m) in
    ends (λ up e. given (Ends new) count parent n old (λ _. before parent l) (λ _ m d. before m (known n m d)) up (sym (p n) ∙ e))

pub outwards-more : (old new : List Scope) (parent : ℕ) → parent < length old → length new ≡ length old + 1 → ((n : ℕ) → parent_in new n ≡ with_last (length old) parent (parent_in old) n) → AreOutwards old → AreOutwards new
outwards-more old new parent l c p o = record {
  end = ends-more (parent_in old) (parent_in new) (length old) parent l p o.known o.end;
  known = λ n up e. given (λ m. m < length new) (length old) parent n (parent_in old) (λ _. omega (arith, l, c)) (λ _ m d. omega (arith, o.known n m d, c)) up (sym (p n) ∙ e);
  outermost = p 0 ∙ still_none (length old) parent 0 (parent_in old) (λ g. omega (arith, l, g)) o.outermost;
}

-- ONE SCOPE MOVED

-- from what stands outside it all is as it was
ends-outside : (old new : ℕ → Option ℕ) (moved parent : ℕ) → ((n : ℕ) → new n ≡ with_item moved parent old n) → (n : ℕ) → (IsInside old moved n → ⊥) → Ends old n → Ends new n
ends-outside old new moved parent p n outside (ends f) =
    ends (λ up e. given (Ends new) moved parent n old (λ g. absurd (outside (is_it g))) (λ _ m d. ends-outside old new moved parent p m (λ h. outside (further_in d h)) (f m d)) up (sym (p n) ∙ e))

ends-moved : (old new : ℕ → Option ℕ) (moved parent : ℕ) → ((n : ℕ) → new n ≡ with_item moved parent old n) → Ends new parent → (n : ℕ) → Ends old n → Ends new n
ends-moved old new moved parent p there n (ends f) =
    ends (λ up e. given (Ends new) moved parent n old (λ _. there) (λ _ m d. ends-moved old new moved parent p there m (f m d)) up (sym (p n) ∙ e))

pub outwards-moved : (old new : List Scope) (moved parent : ℕ) → 0 < moved → parent < length old → (IsInside (parent_in old) moved parent → ⊥) → length new ≡ length old → ((n : ℕ) → parent_in new n ≡ with_item moved parent (parent_in old) n) → AreOutwards old → AreOutwards new
outwards-moved old new moved parent inner l outside c p o = record {
  end = λ n. ends-moved (parent_in old) (parent_in new) moved parent p (ends-outside (parent_in old) (parent_in new) moved parent p parent outside (o.end parent)) n (o.end n);
  known = λ n up e. given (λ m. m < length new) moved parent n (parent_in old) (λ _. omega (arith, l, c)) (λ _ m d. omega (arith, o.known n m d, c)) up (sym (p n) ∙ e);
  outermost = p 0 ∙ still_none moved parent 0 (parent_in old) (λ g. omega (arith, inner, g)) o.outermost;
}

-- THE PROGRAM'S SCOPE ALONE

pub outwards-root : (c : Scope) → c.parent ≡ None → AreOutwards (c ∷ [])
outwards-root c e = record {
  end = λ n. ends (λ up f. absurd (none n up f));
  known = λ n up f. absurd (none n up f);
  outermost = ap scope e;
} where
  none : (n up : ℕ) → parent_in (c ∷ []) n ≡ Some up → ⊥
  none zero up f = let no : scope c.parent ≡ None = ap scope e in cc
  none (suc n) up f = cc
