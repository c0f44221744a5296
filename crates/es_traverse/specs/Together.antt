-- Two types together are lawful, where they are apart: a step of their rules is a step of one or the other.
use Rattle.std.proofs.Common.{◌≡◌, ◌∙◌, ◌||◌, ℕ, Bool, true, false, refl, sym, ◌⊎◌, inl, inr, true≢false}
use Rattle.es_steps.specs.Open.{Open, OpenField, OpenFields, OpenTrees, finished, finished_fields}
use Rattle.es_steps.specs.Rules.{either_rule}
use Rattle.es_steps.specs.Steps.{Ledger, Site, Spot, Step, FieldsStep, FieldStep, TreesStep}
use Rattle.es_steps.specs.Steps.Step.{acts, inside}
use Rattle.es_steps.specs.Steps.FieldsStep.{in_first, in_later}
use Rattle.es_steps.specs.Steps.FieldStep.{in_child, in_body, in_children, in_list, in_target, in_program, acts_on_body, acts_on_list}
use Rattle.es_steps.specs.Steps.TreesStep.{in_head, in_tail, in_flanked, after_flanked, flanks, acts_on_flanked}
use Rattle.es_changes.proofs.Together.{together}
use Rattle.es_traverse.specs.Laws.{AreApart, IsLawful, Profile, both_profile, is_construct}

-- A STEP OF EITHER IS A STEP OF ONE

module _ {Q R : Site → Ledger → Spot → Ledger → Spot → Type 0} where
  mutual
    split-step : {n : Site} {s s' : Ledger} {t u : Open} → Step (either_rule Q R) n s t s' u → Step Q n s t s' u ⊎ Step R n s t s' u
    split-step (acts t u (inl h)) = inl (acts t u h)
    split-step (acts t u (inr h)) = inr (acts t u h)
    split-step (inside h) = elim (split-fields h) [ inl a ↦ inl (inside a) | inr b ↦ inr (inside b) ]

    pub split-fields : {c : ℕ → Site} {s s' : Ledger} {fs gs : OpenFields} → FieldsStep (either_rule Q R) c s fs s' gs → FieldsStep Q c s fs s' gs ⊎ FieldsStep R c s fs s' gs
    split-fields (in_first h) = elim (split-field h) [ inl a ↦ inl (in_first a) | inr b ↦ inr (in_first b) ]
    split-fields (in_later h) = elim (split-fields h) [ inl a ↦ inl (in_later a) | inr b ↦ inr (in_later b) ]

    split-field : {n : Site} {s s' : Ledger} {f g : OpenField} → FieldStep (either_rule Q R) n s f s' g → FieldStep Q n s f s' g ⊎ FieldStep R n s f s' g
    split-field (in_child h) = elim (split-step h) [ inl a ↦ inl (in_child a) | inr b ↦ inr (in_child b) ]
    split-field (in_children h) = elim (split-trees h) [ inl a ↦ inl (in_children a) | inr b ↦ inr (in_children b) ]
    split-field (in_body e x y h) = elim (split-step h) [ inl a ↦ inl (in_body e x y a) | inr b ↦ inr (in_body e x y b) ]
    split-field (in_list e d h) = elim (split-trees h) [ inl a ↦ inl (in_list e d a) | inr b ↦ inr (in_list e d b) ]
    split-field (in_target e h) = elim (split-trees h) [ inl a ↦ inl (in_target e a) | inr b ↦ inr (in_target e b) ]
    split-field (in_program e h) = elim (split-trees h) [ inl a ↦ inl (in_program e a) | inr b ↦ inr (in_program e b) ]
    split-field (acts_on_list ts us (inl h)) = inl (acts_on_list ts us h)
    split-field (acts_on_list ts us (inr h)) = inr (acts_on_list ts us h)
    split-field (acts_on_body t u (inl h)) = inl (acts_on_body t u h)
    split-field (acts_on_body t u (inr h)) = inr (acts_on_body t u h)

    split-trees : {n : Site} {s s' : Ledger} {ts us : OpenTrees} → TreesStep (either_rule Q R) n s ts s' us → TreesStep Q n s ts s' us ⊎ TreesStep R n s ts s' us
    split-trees (in_head h) = elim (split-step h) [ inl a ↦ inl (in_head a) | inr b ↦ inr (in_head b) ]
    split-trees (in_tail h) = elim (split-trees h) [ inl a ↦ inl (in_tail a) | inr b ↦ inr (in_tail b) ]
    split-trees (in_flanked h) = elim (split-step h) [ inl a ↦ inl (in_flanked a) | inr b ↦ inr (in_flanked b) ]
    split-trees (after_flanked h) = elim (split-trees h) [ inl a ↦ inl (after_flanked a) | inr b ↦ inr (after_flanked b) ]
    split-trees (flanks t u (inl h)) = inl (flanks t u h)
    split-trees (flanks t u (inr h)) = inr (flanks t u h)
    split-trees (acts_on_flanked t us (inl h)) = inl (acts_on_flanked t us h)
    split-trees (acts_on_flanked t us (inr h)) = inr (acts_on_flanked t us h)

-- LAWS

pub neither : (a b : Bool) → a ≡ false → b ≡ false → (a || b) ≡ false
neither true b h k = absurd (true≢false h)
neither false b h k = k

pub left-false : (a b : Bool) → (a || b) ≡ false → a ≡ false
left-false true b h = absurd (true≢false h)
left-false false b h = refl

pub right-false : (a b : Bool) → (a || b) ≡ false → b ≡ false
right-false true b h = absurd (true≢false h)
right-false false b h = h

either-true : (a b : Bool) → (a || b) ≡ true → (a ≡ true) ⊎ (b ≡ true)
either-true true b h = inl refl
either-true false b h = inr h

pub both_lawful : (p q : Profile) → IsLawful p → IsLawful q → AreApart p q → IsLawful (both_profile p q)
both_lawful p q f g apart = record {
  rule = together p.rule q.rule f.rule g.rule;
  stable = λ h n s s' k l first fs gs stand step free.
      let x = left-false (p.constructs h k l (finished_fields fs)) (q.constructs h k l (finished_fields fs)) free in
      let y = right-false (p.constructs h k l (finished_fields fs)) (q.constructs h k l (finished_fields fs)) free in
      elim (split-fields step) [
        | inl i ↦ neither (p.constructs h k l (finished_fields gs)) (q.constructs h k l (finished_fields gs)) (f.stable h n s s' k l first fs gs stand i x) (apart.second_stable h n s s' k l first fs gs stand i y)
        | inr j ↦ neither (p.constructs h k l (finished_fields gs)) (q.constructs h k l (finished_fields gs)) (apart.first_stable h n s s' k l first fs gs stand j x) (g.stable h n s s' k l first fs gs stand j y)
      ];
  placed = λ h k l fs m. elim (either-true (p.constructs h k l fs) (q.constructs h k l fs) m) [ inl i ↦ f.placed h k l fs i | inr j ↦ g.placed h k l fs j ];
  own = λ h t w. elim w [
    | inl i ↦ neither (is_construct (p.constructs h) t) (is_construct (q.constructs h) t) (f.own h t i) (apart.first_writes h t i)
    | inr j ↦ neither (is_construct (p.constructs h) t) (is_construct (q.constructs h) t) (apart.second_writes h t j) (g.own h t j)
  ];
  outward = record {
    placed = g.outward.placed;
    own = λ t w. elim w [ inl i ↦ apart.none_later t i | inr j ↦ g.outward.own t j ];
    known = λ n t h. g.outward.known n t (apart.before n t ∙ h);
    carried = λ n s s' x y h k. elim (split-step h) [
      | inl i ↦ apart.counts_after n (finished y) ∙ f.outward.carried n s s' x y i (sym (apart.counts_after n (finished x)) ∙ k)
      | inr j ↦ g.outward.carried n s s' x y j k
    ];
  };
}
