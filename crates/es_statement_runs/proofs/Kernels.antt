-- What the rows of object spread and object rest come down to.
use Rattle.std.proofs.Common.{◌≡◌, refl, sym, [], ◌∷◌, ◌++◌, ap, ◌∙◌}
use Rattle.es_runs.specs.Machine.{Value, Values, State, Result, M, ◌>>=◌, onward, return, joined}
use Rattle.es_runs.specs.Machine.Values.{none, ◌and◌}
use Rattle.es_runs.specs.Machine.Result.{gives, stops}
use Rattle.std.specs.Prelude.{Some}
use Rattle.es_tree.specs.Words.{Text}
use Rattle.es_runs.specs.Machine.{ask}
use Rattle.es_runs.specs.Machine.Value.{text}
use Rattle.es_runs.specs.Machine.Question.{get}
use Rattle.es_statement_runs.specs.Patterns.{Putter, collected, one_value, members_of, property_of}
use Rattle.es_statement_runs.specs.Laws.{LawCollected, LawGroups, LawParted, group_keys, all_keyed, static_properties, static_keys}

-- OBJECT SPREAD

then_joined : {A : Type 0} (r : Result A) (k l : A → M Values) → ((a : A) (s : State) → k a s ≡ l a s) → onward r k ≡ onward r l
then_joined (gives a s) k l h = h a s
then_joined (stops w s) k l h = refl

regroup : {A B C : Type 0} (r : Result A) (k : A → M B) (l : B → M C) → onward (onward r k) l ≡ onward r (λ a. k a >>= l)
regroup (gives a s) k l = refl
regroup (stops w s) k l = refl

same_steps : {A B : Type 0} (r : Result A) (k l : A → M B) → ((a : A) (s : State) → k a s ≡ l a s) → onward r k ≡ onward r l
same_steps (gives a s) k l h = h a s
same_steps (stops w s) k l h = refl

nothing_more_given : (r : Result Values) → onward r (λ vs. return vs) ≡ r
nothing_more_given (gives a s) = refl
nothing_more_given (stops w s) = refl

pub law_collected_proof : LawCollected
law_collected_proof [] ns s = sym (nothing_more_given (collected ns s))
law_collected_proof (m ∷ ms) ns s =
    same_steps (m s) _ _ (λ v t. ap (λ (r : Result Values). onward r (λ vs. return (v and vs))) (law_collected_proof ms ns t)
    ∙ (regroup (collected ms t) _ _ ∙ (same_steps (collected ms t) _ _ (λ us z. regroup (collected ns z) _ _) ∙ sym (regroup (collected ms t) (λ us. return (v and us)) _))))
    ∙ sym (regroup (m s) _ _)

-- OBJECT REST

joined_none : (ks : Values) → joined ks none ≡ ks
joined_none none = refl
joined_none (k and ks) = ap (λ (us : Values). k and us) (joined_none ks)

joined_and : (ks : Values) (k : Value) (us : Values) → joined (joined ks (one_value k)) us ≡ joined ks (k and us)
joined_and none k us = refl
joined_and (x and ks) k us = ap (λ (vs : Values). x and vs) (joined_and ks k us)

pub law_groups_proof : LawGroups
law_groups_proof v ks [] ms s = ap (λ (us : Values). members_of v us ms s) (sym (joined_none ks))
law_groups_proof v ks (f ∷ fs) ms s =
    same_steps (f v s) _ _ (λ k t. law_groups_proof v (joined ks (one_value k)) fs ms t
    ∙ (same_steps (group_keys v fs t) _ _ (λ us z. ap (λ (xs : Values). members_of v xs ms z) (joined_and ks k us)) ∙ sym (regroup (group_keys v fs t) (λ us. return (k and us)) _)))
    ∙ sym (regroup (f v s) _ _)

-- a property with a static key gives the text that it excludes
gives_text : {A : Type 0} (r : Result Value) (t : Text) (k : Value → M A) → onward (onward r (λ v. return (text t))) k ≡ onward (onward r (λ v. return (text t))) (λ v. k (text t))
gives_text (gives a s) t k = refl
gives_text (stops w s) t k = refl

puts_text : {A : Type 0} (r : Result Putter) (m : Putter → M Value) (t : Text) (k : Value → M A) → onward (onward r (λ put. m put >>= λ v. return (text t))) k ≡ onward (onward r (λ put. m put >>= λ v. return (text t))) (λ v. k (text t))
puts_text (gives put s) m t k = gives_text (m put s) t k
puts_text (stops w s) m t k = refl

keys_text : {A : Type 0} (r : Result Value) (target : M Putter) (v : Value) (t : Text) (k : Value → M A) →
    onward (onward r (λ x. target >>= λ put. ask (get v x) >>= put >>= λ y. return (text t))) k ≡ onward (onward r (λ x. target >>= λ put. ask (get v x) >>= put >>= λ y. return (text t))) (λ y. k (text t))
keys_text (gives x s) target v t k = puts_text (target s) (λ put. ask (get v x) >>= put) t k
keys_text (stops w s) target v t k = refl

pub law_parted_proof : LawParted
law_parted_proof v ks [] ms s = ap (λ (us : Values). members_of v us ms s) (sym (joined_none ks))
law_parted_proof v ks (p ∷ ps) ms s =
    keys_text (p.key s) p.target v p.excluded (λ k. members_of v (joined ks (one_value k)) (all_keyed (static_properties ps) ++ ms))
    ∙ (same_steps (property_of p.key (Some p.excluded) p.target v s) _ _ (λ k t. law_parted_proof v (joined ks (one_value (text p.excluded))) ps ms t
    ∙ same_steps (members_of v (joined ks (one_value (text p.excluded))) (all_keyed (static_properties ps)) t) _ _ (λ u z. ap (λ (us : Values). members_of v us ms z) (joined_and ks (text p.excluded) (static_keys ps))))
    ∙ (sym (keys_text (p.key s) p.target v p.excluded (λ k. members_of v (joined ks (one_value k)) (all_keyed (static_properties ps)) >>= λ u. members_of v (joined ks (static_keys (p ∷ ps))) ms))
    ∙ sym (regroup (property_of p.key (Some p.excluded) p.target v s) (λ k. members_of v (joined ks (one_value k)) (all_keyed (static_properties ps))) _)))
