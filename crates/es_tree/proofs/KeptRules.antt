-- No rule is listed as broken exactly where each visit keeps each rule.
use Rattle.std.proofs.Common.{◌≡◌, List, [], ◌∷◌, ◌++◌, map, filter, Bool, true, false, cond, refl}
use Rattle.es_tree.specs.CoreStaticRules.{Name, Visit, KeepRules, breaks_after, breaks_at, core_rules, declared, is_broken}
use Rattle.es_tree.specs.Tree.{label_of}
use Rattle.es_tree.specs.declared.error.Rule.{Rule}
use Rattle.es_tree.specs.declared.error.Rule.TheVariants.{DuplicateName, BadTarget, EmptyChain, StrayOptional, DeleteName, MissingInit}

none_first : {X : Type 0} (xs ys : List X) → xs ++ ys ≡ [] → xs ≡ []
none_first [] ys e = refl
none_first (x ∷ xs) ys e = cc

none_second : {X : Type 0} (xs ys : List X) → xs ++ ys ≡ [] → ys ≡ []
none_second [] ys e = e
none_second (x ∷ xs) ys e = cc

none_mapped : {X Y : Type 0} (f : X → Y) (xs : List X) → map f xs ≡ [] → xs ≡ []
none_mapped f [] e = refl
none_mapped f (x ∷ xs) e = cc

fails_first : {X : Type 0} (b : Bool) (x : X) (xs : List X) → cond b (x ∷ xs) xs ≡ [] → b ≡ false
fails_first true x xs e = cc
fails_first false x xs e = refl

fails_later : {X : Type 0} (b : Bool) (x : X) (xs : List X) → cond b (x ∷ xs) xs ≡ [] → xs ≡ []
fails_later true x xs e = cc
fails_later false x xs e = e

-- a rule that isn't built is never broken
kept_by : (earlier : List Name) (v : Visit) (r : Rule) → (is_broken earlier v.place v.tree DuplicateName ≡ false) × (is_broken earlier v.place v.tree BadTarget ≡ false) × (is_broken earlier v.place v.tree EmptyChain ≡ false) × (is_broken earlier v.place v.tree StrayOptional ≡ false) × (is_broken earlier v.place v.tree DeleteName ≡ false) × (is_broken earlier v.place v.tree MissingInit ≡ false) → is_broken earlier v.place v.tree r ≡ false
kept_by earlier v DuplicateName k = k.0
kept_by earlier v BadTarget k = k.1
kept_by earlier v EmptyChain k = k.2
kept_by earlier v StrayOptional k = k.3
kept_by earlier v DeleteName k = k.4
kept_by earlier v MissingInit k = k.5
kept_by earlier v r k = refl

-- a visit that breaks no built rule
kept : (earlier : List Name) (v : Visit) → filter (is_broken earlier v.place v.tree) core_rules ≡ [] → (r : Rule) → is_broken earlier v.place v.tree r ≡ false
kept earlier v e r =
    let P : Rule → Bool = is_broken earlier v.place v.tree in
    let e1 = fails_later (P DuplicateName) DuplicateName (filter P (BadTarget ∷ EmptyChain ∷ StrayOptional ∷ DeleteName ∷ MissingInit ∷ [])) e in
    let e2 = fails_later (P BadTarget) BadTarget (filter P (EmptyChain ∷ StrayOptional ∷ DeleteName ∷ MissingInit ∷ [])) e1 in
    let e3 = fails_later (P EmptyChain) EmptyChain (filter P (StrayOptional ∷ DeleteName ∷ MissingInit ∷ [])) e2 in
    let e4 = fails_later (P StrayOptional) StrayOptional (filter P (DeleteName ∷ MissingInit ∷ [])) e3 in
    let e5 = fails_later (P DeleteName) DeleteName (filter P (MissingInit ∷ [])) e4 in
    kept_by earlier v r
    (fails_first (P DuplicateName) DuplicateName _ e, fails_first (P BadTarget) BadTarget _ e1, fails_first (P EmptyChain) EmptyChain _ e2, fails_first (P StrayOptional) StrayOptional _ e3, fails_first (P DeleteName) DeleteName _ e4, fails_first (P MissingInit) MissingInit _ e5)

pub keep-none : (earlier : List Name) (vs : List Visit) → breaks_after earlier vs ≡ [] → KeepRules earlier vs
keep-none earlier [] e = tt
keep-none earlier (v ∷ vs) e = (
  kept earlier v (none_mapped (λ r. (r, (label_of v.tree).id)) (filter (is_broken earlier v.place v.tree) core_rules) (none_first (breaks_at earlier v) (breaks_after (declared v.place v.tree ++ earlier) vs) e)),
  keep-none (declared v.place v.tree ++ earlier) vs (none_second (breaks_at earlier v) (breaks_after (declared v.place v.tree ++ earlier) vs) e),
)

pub none-keep : (earlier : List Name) (vs : List Visit) → KeepRules earlier vs → breaks_after earlier vs ≡ []
none-keep earlier [] k = refl
none-keep earlier (v ∷ vs) k =
    rw (k.0 DuplicateName, k.0 BadTarget, k.0 EmptyChain, k.0 StrayOptional, k.0 DeleteName, k.0 MissingInit) (none-keep (declared v.place v.tree ++ earlier) vs k.1)
