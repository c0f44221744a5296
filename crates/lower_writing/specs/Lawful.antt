-- Its rule is lawful, and the laws of the type hold: it has no construct.
use Rattle.std.proofs.Common.{◌∙◌, inl, inr, refl, sym, ap, true≢false}
use Rattle.es_tree.specs.declared.options.EnvOptions.{EnvOptions}
use Rattle.es_steps.specs.CoreRules.{rule_under}
use Rattle.es_steps.specs.Rules.{Writing, either_rule}
use Rattle.es_steps.specs.Rules.Writing.{all_pending, body_declarators, declarators, insertions}
use Rattle.es_steps.specs.Sites.{IsLocal}
use Rattle.es_steps.specs.Slots.{is_slot}
use Rattle.es_steps.specs.Steps.{Ledger, Site, Spot}
use Rattle.es_steps.specs.Steps.Spot.{at_beside, at_body, at_list, at_node}
use Rattle.es_steps.specs.WrapRule.{WrapRule}
use Rattle.es_steps.specs.WrapRule.WrapRule.{wraps}
use Rattle.es_steps.proofs.FormRules.{FormLawful, rule-under-form}
use Rattle.es_steps.proofs.LocalRules.{both-local}
use Rattle.es_steps.proofs.RuleLaws.{writing-lawful}
use Rattle.es_steps.proofs.RulesWrite.{writing-writes}
use Rattle.es_steps.proofs.Taken.{both-lawful, both-write}
use Rattle.es_steps.proofs.WrapsSlots.{wrap-lawful, wrap-writes}
use Rattle.es_changes.specs.Rules.{IsLawfulRule, is_asked_for}
use Rattle.es_traverse.specs.Laws.{IsLawful, acts_inward}
use Rattle.lower_writing.specs.Writing.{common_profile}

-- it is a part of the rules that the options ask for
within : (o : EnvOptions) (n : Site) (s s' : Ledger) (x y : Spot) → either_rule Writing (WrapRule o) n s x s' y → rule_under o n s x s' y
within o n s s' x y (inl h) = inl h
within o n s s' x y (inr h) = inr (inl h)

form : (o : EnvOptions) → FormLawful (either_rule Writing (WrapRule o))
form o =
    let f = rule-under-form o in
    record {
      at_nodes = λ n s s' t u a slot h k. f.at_nodes n s s' t u a slot (within o n s s' (at_node t) (at_node u) h) k;
      no_flanks = λ n s s' t u bs cs h. f.no_flanks n s s' t u bs cs (within o n s s' (at_node t) (at_beside bs u cs) h);
      at_lists = λ n s s' p q x y a b ts us h k. f.at_lists n s s' p q x y a b ts us (within o n s s' (at_list p x a ts) (at_list q y b us) h) k;
      at_bodies = λ n s s' p t u h. f.at_bodies n s s' p t u (within o n s s' (at_body p t) (at_node u) h);
    }

writing-local : IsLocal (λ s. is_asked_for) Writing
writing-local n m s s' x y a declarators = declarators
writing-local n m s s' x y a all_pending = all_pending
writing-local n m s s' x y a body_declarators = body_declarators
writing-local n m s s' x y a insertions = insertions

wrap-local : (o : EnvOptions) → IsLocal (λ s. is_asked_for) (WrapRule o)
wrap-local o n m s s' x y a (wraps r e slot h) = wraps (a.role ∙ r) e (ap is_slot a.above ∙ slot) h

pub common_rule : (o : EnvOptions) → IsLawfulRule (either_rule Writing (WrapRule o))
common_rule o = record {
  names = both-lawful writing-lawful (wrap-lawful o);
  writes = both-write writing-writes (wrap-writes o);
  form = form o;
  local = both-local (λ s. is_asked_for) writing-local (wrap-local o);
}

pub common_lawful : (o : EnvOptions) → IsLawful (common_profile o)
common_lawful o = record {
  rule = common_rule o;
  stable = λ h n s s' k l first fs gs stand step e. refl;
  placed = λ h k l fs e. absurd (true≢false (sym e));
  own = λ h t w. refl;
  outward = acts_inward (common_profile o) (λ k l fs. refl) (λ n t. refl);
}
