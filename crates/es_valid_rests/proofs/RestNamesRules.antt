-- Rules of which each step leaves a program with what the rules of declared names ask, alone and together.
use Rattle.std.proofs.Common.{◌≡◌, inl, inr}
use Rattle.std.specs.Prelude.{◌⊎◌, true, false}
use Rattle.es_tree.specs.HasForm.{has_form}
use Rattle.es_tree.specs.Tree.{Tree, node, Label, Fields, done, ◌then◌, many, ◌before◌}
use Rattle.es_tree.specs.declared.ast_type.AstType.TheVariants.{VariableDeclaration}
use Rattle.es_tree.specs.declared.table.Sort.TheVariants.{Program as s-Program}
use Rattle.es_tree.proofs.NodeForm.{node_form}
use Rattle.es_steps.specs.Nodes.{joined_trees}
use Rattle.es_steps.specs.ObjectRest.{SplitRule, TakesRest}
use Rattle.es_steps.specs.ObjectRest.SplitRule.{splits}
use Rattle.es_steps.specs.Open.{Open}
use Rattle.es_steps.specs.Rules.{either_rule}
use Rattle.es_steps.specs.Steps.{Ledger, Site, Spot, the_program, Step}
use Rattle.es_steps.specs.Steps.Spot.{at_node}
use Rattle.es_steps.proofs.FormRules.{FormLawful}
use Rattle.es_valid_names.proofs.ClearRules.{NameLawful}
use Rattle.es_valid_names.proofs.NameSteps.{Good, one-step}
use Rattle.es_valid_rests.specs.RestRules.{Binding}
use Rattle.es_valid_rests.proofs.OneOf.{one-of}
use Rattle.es_valid_rests.proofs.RestForms.{catch-rest-form, head-rest-form, target-head-form}
use Rattle.es_valid_rests.proofs.RestFormsDeclared.{split-form, takes-form}
use Rattle.es_valid_rests.proofs.RestNamesCatch.{catch-rest-names}
use Rattle.es_valid_rests.proofs.RestNamesHeads.{head-rest-names, target-head-names}
use Rattle.es_valid_rests.proofs.RestNamesSplits.{split-names}
use Rattle.es_valid_rests.proofs.RestNamesSteps.{WideLawful}
use Rattle.es_valid_rests.proofs.RestNamesTaken.{takes-names}
use Rattle.es_valid_rests.proofs.RestNamesWalk.{wide-good}
use Rattle.es_steps.specs.CatchPatterns.{CatchRest}
use Rattle.es_steps.specs.LoopHeads.{HeadRest, TargetHead}

pub record GoodLawful (R : Site → Ledger → Spot → Ledger → Spot → Type 0) : Type 0 where
  pub good : (s s' : Ledger) (t u : Open) → Step R the_program s t s' u → Good s t → Good s' u

pub named-good : (R : Site → Ledger → Spot → Ledger → Spot → Type 0) → FormLawful R → NameLawful R → GoodLawful R
named-good R form law = record { good = λ s s' t u h g. one-step R form law h g }

pub either-good : {Q R : Site → Ledger → Spot → Ledger → Spot → Type 0} → GoodLawful Q → GoodLawful R → GoodLawful (either_rule Q R)
either-good {Q} {R} q r = record { good = λ s s' t u h g. at s s' t u (one-of Q R h) g }
  where
    at : (s s' : Ledger) (t u : Open) → Step Q the_program s t s' u ⊎ Step R the_program s t s' u → Good s t → Good s' u
    at s s' t u (inl h) g = q.good s s' t u h g
    at s s' t u (inr h) g = r.good s s' t u h g

-- THE RULES OF OBJECT RESTS

no-program : (m : Label) (fs : Fields) → has_form s-Program (node VariableDeclaration m fs) ≡ true → ⊥
no-program m fs f = let no : false ≡ true = (node_form s-Program VariableDeclaration m fs f).sort in absurd (cc no)

pub split-good : GoodLawful (Binding SplitRule)
split-good = record { good = λ s s' t u h g. wide-good (Binding SplitRule) split-form law apart h g }
  where
    law : WideLawful (Binding SplitRule)
    law = record { at_nodes = λ n s s' t u a h f. split-names.at_nodes n s s' t u a h.0 f }

    apart : (n : Site) (s s' : Ledger) (t u : Tree) → Binding SplitRule n s (at_node t) s' (at_node u) → has_form s-Program t ≡ true → ⊥
    apart n s s' t u (splits m a c d es x free declares off, binds) f = no-program m (many (joined_trees a (d before c)) then done) f

pub takes-good : GoodLawful (Binding TakesRest)
takes-good = named-good (Binding TakesRest) takes-form (record { at_nodes = λ n s s' t u a slot h f g. takes-names.at_nodes n s s' t u a slot h.0 f g })

pub catch-good : GoodLawful CatchRest
catch-good = named-good CatchRest catch-rest-form catch-rest-names

pub head-good : GoodLawful HeadRest
head-good = named-good HeadRest head-rest-form head-rest-names

pub target-good : GoodLawful TargetHead
target-good = named-good TargetHead target-head-form target-head-names
