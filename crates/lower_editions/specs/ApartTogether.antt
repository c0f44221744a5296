-- Types that make no constructs of each of two make none of both together.
use Rattle.std.proofs.Common.{◌≡◌, Bool, true, false, inl, inr, refl, true≢false}
use Rattle.std.specs.Prelude.{◌||◌}
use Rattle.es_tree.specs.Tree.{Tree, Label, Fields}
use Rattle.es_tree.specs.declared.ast_type.AstType.{AstType}
use Rattle.es_steps.specs.Open.{finished_fields}
use Rattle.es_steps.specs.Rules.{either_rule}
use Rattle.es_steps.specs.Steps.{Ledger, Site, Spot}
use Rattle.es_visit.specs.declared.hook.Hook.{Hook}
use Rattle.es_traverse.specs.Laws.{AreApart, IsStable, Profile, both_profile, is_construct}
use Rattle.es_traverse.specs.Together.{neither, split-fields}

-- what `AreApart` asks beside that the second counts on no more than the first leaves
pub record AreSeparate (first second : Profile) : Type 0 where
  pub makes : (h : Hook) (t : Tree) → second.makes t → is_construct (first.constructs h) t ≡ false
  pub first_writes : (h : Hook) (t : Tree) → first.writes t → is_construct (second.constructs h) t ≡ false
  pub second_writes : (h : Hook) (t : Tree) → second.writes t → is_construct (first.constructs h) t ≡ false
  pub first_stable : (h : Hook) → IsStable second.rule (first.constructs h)
  pub second_stable : (h : Hook) → IsStable first.rule (second.constructs h)
  pub before : (n : Site) (t : Tree) → second.conditions.before n t ≡ first.conditions.before n t
  pub after : (n : Site) (t : Tree) → second.conditions.after n t ≡ first.conditions.after n t

-- and of what they do after nodes
pub record AreSeparateAfter (first second : Profile) : Type 0 where
  pub none_late : (k : AstType) (l : Label) (fs : Fields) → first.late_constructs k l fs ≡ false
  pub none_later : (t : Tree) → first.writes t → is_construct second.late_constructs t ≡ false
  pub counts_after : (n : Site) (t : Tree) → second.counts_after n t ≡ first.counts_after n t

pub apart : (p q : Profile) → AreSeparate p q → AreSeparateAfter p q → ((n : Site) (t : Tree) → p.leaves n t ≡ true → q.counts n t ≡ true) → AreApart p q
apart p q h after meets = record { makes = h.makes; first_writes = h.first_writes; second_writes = h.second_writes; first_stable = h.first_stable; second_stable = h.second_stable; before = h.before; after = h.after; meets = meets; none_late = after.none_late; none_later = after.none_later; counts_after = after.counts_after }

first_false : (a b : Bool) → (a || b) ≡ false → a ≡ false
first_false false b e = refl
first_false true b e = absurd (true≢false e)

second_false : (a b : Bool) → (a || b) ≡ false → b ≡ false
second_false false b e = e
second_false true b e = absurd (true≢false e)

-- steps of either rule make no node a construct that those of neither do
stable_either : (Q R : Site → Ledger → Spot → Ledger → Spot → Type 0) (c : AstType → Label → Fields → Bool) → IsStable Q c → IsStable R c → IsStable (either_rule Q R) c
stable_either Q R c q r n s s' k l first fs gs stand step free = elim (split-fields step) [ inl i ↦ q n s s' k l first fs gs stand i free | inr j ↦ r n s s' k l first fs gs stand j free ]

-- and so it is of the constructs of two types
stable_neither : (R : Site → Ledger → Spot → Ledger → Spot → Type 0) (c d : AstType → Label → Fields → Bool) → IsStable R c → IsStable R d → IsStable R (λ k l fs. c k l fs || d k l fs)
stable_neither R c d p q n s s' k l first fs gs stand step free =
    neither (c k l (finished_fields gs)) (d k l (finished_fields gs)) (p n s s' k l first fs gs stand step (first_false (c k l (finished_fields fs)) (d k l (finished_fields fs)) free)) (q n s s' k l first fs gs stand step (second_false (c k l (finished_fields fs)) (d k l (finished_fields fs)) free))

-- one before two
pub separate_from_both : (p q r : Profile) → AreSeparate p q → AreSeparate p r → AreSeparate p (both_profile q r)
separate_from_both p q r x y = record {
  makes = λ h t m. elim m [ inl i ↦ x.makes h t i | inr j ↦ y.makes h t j ];
  first_writes = λ h t w. neither (is_construct (q.constructs h) t) (is_construct (r.constructs h) t) (x.first_writes h t w) (y.first_writes h t w);
  second_writes = λ h t w. elim w [ inl i ↦ x.second_writes h t i | inr j ↦ y.second_writes h t j ];
  first_stable = λ h. stable_either q.rule r.rule (p.constructs h) (x.first_stable h) (y.first_stable h);
  second_stable = λ h. stable_neither p.rule (q.constructs h) (r.constructs h) (x.second_stable h) (y.second_stable h);
  before = x.before;
  after = x.after;
}

-- two before one
pub both_separate_from : (p q r : Profile) → AreSeparate p r → AreSeparate q r → AreSeparate (both_profile p q) r
both_separate_from p q r x y = record {
  makes = λ h t m. neither (is_construct (p.constructs h) t) (is_construct (q.constructs h) t) (x.makes h t m) (y.makes h t m);
  first_writes = λ h t w. elim w [ inl i ↦ x.first_writes h t i | inr j ↦ y.first_writes h t j ];
  second_writes = λ h t w. neither (is_construct (p.constructs h) t) (is_construct (q.constructs h) t) (x.second_writes h t w) (y.second_writes h t w);
  first_stable = λ h. stable_neither r.rule (p.constructs h) (q.constructs h) (x.first_stable h) (y.first_stable h);
  second_stable = λ h. stable_either p.rule q.rule (r.constructs h) (x.second_stable h) (y.second_stable h);
  before = x.before;
  after = x.after;
}
