-- No rule of the lowerings acts at a program itself.
use Rattle.std.proofs.Common.{◌≡◌, List, inl, inr, refl}
use Rattle.std.specs.Prelude.{Bool, true, false, is_some}
use Rattle.es_tree.specs.HasForm.{same_type}
use Rattle.es_tree.specs.Tree.{Tree, kind_of}
use Rattle.es_tree.specs.declared.ast_type.AstType.{AstType}
use Rattle.es_tree.specs.declared.ast_type.AstType.TheVariants.{Program}
use Rattle.es_tree.specs.declared.options.EnvOptions.{EnvOptions}
use Rattle.es_resolution.specs.Declarations.{Bound, is_var_scope}
use Rattle.es_steps.specs.AllRules.{AllRules, ObjectRule, RestRule}
use Rattle.es_steps.specs.Arrows.{ArrowRule}
use Rattle.es_steps.specs.Arrows.ArrowRule.{by_name, by_new_name, with_body, with_expression}
use Rattle.es_steps.specs.CatchPatterns.{CatchRest}
use Rattle.es_steps.specs.CatchPatterns.CatchRest.{moves}
use Rattle.es_steps.specs.CoreRules.{RowRule, where_on}
use Rattle.es_steps.specs.Exponentiation.{ExponentiationRule}
use Rattle.es_steps.specs.Exponentiation.ExponentiationRule.{power, power_assignment}
use Rattle.es_steps.specs.LogicalAssignment.{LogicalAssignmentRule}
use Rattle.es_steps.specs.LogicalAssignment.LogicalAssignmentRule.{to_computed_member, to_name, to_static_member}
use Rattle.es_steps.specs.LoopHeads.{HeadRest, IsForEach, TargetHead}
use Rattle.es_steps.specs.LoopHeads.HeadRest.{lexical_head, var_head}
use Rattle.es_steps.specs.LoopHeads.IsForEach.{for_in, for_of}
use Rattle.es_steps.specs.LoopHeads.TargetHead.{target_head}
use Rattle.es_steps.specs.NamespaceExports.{NamespaceRule}
use Rattle.es_steps.specs.NamespaceExports.NamespaceRule.{exports}
use Rattle.es_steps.specs.NullishCoalescing.{NullishCoalescingRule}
use Rattle.es_steps.specs.NullishCoalescing.NullishCoalescingRule.{reading_again, with_temporary}
use Rattle.es_steps.specs.ObjectRest.{SplitRule, TakesRest}
use Rattle.es_steps.specs.ObjectRest.SplitRule.{splits}
use Rattle.es_steps.specs.ObjectRest.TakesRest.{takes_rest}
use Rattle.es_steps.specs.ObjectSpread.{SpreadRule}
use Rattle.es_steps.specs.ObjectSpread.SpreadRule.{spreads}
use Rattle.es_steps.specs.OptionalCatch.{CatchRule}
use Rattle.es_steps.specs.OptionalCatch.CatchRule.{catches}
use Rattle.es_steps.specs.OptionalChaining.{OptionalChainingRule}
use Rattle.es_steps.specs.OptionalChaining.OptionalChainingRule.{as_callee, by_tests, in_delete}
use Rattle.es_steps.specs.ParameterPatterns.{ParameterRest}
use Rattle.es_steps.specs.ParameterPatterns.ParameterRest.{in_arrow, in_declaration, in_expression}
use Rattle.es_steps.specs.RestAssignments.{RestAssignmentRule}
use Rattle.es_steps.specs.RestAssignments.RestAssignmentRule.{assigns}
use Rattle.es_steps.specs.Rules.{Replacing, Writing, either_rule}
use Rattle.es_steps.specs.Rules.Replacing.{replaces}
use Rattle.es_steps.specs.Rules.Writing.{all_pending, body_declarators, declarators, insertions}
use Rattle.es_steps.specs.Steps.{Ledger, Site, Spot, Whole}
use Rattle.es_steps.specs.Steps.Spot.{at_node}
use Rattle.es_steps.specs.UsingBlocks.{BlockUsing}
use Rattle.es_steps.specs.UsingBlocks.BlockUsing.{of_block, of_part}
use Rattle.es_steps.specs.UsingBodies.{BodyUsing, IsClass}
use Rattle.es_steps.specs.UsingBodies.BodyUsing.{of_arrow, of_declaration, of_expression, of_static_block}
use Rattle.es_steps.specs.UsingBodies.IsClass.{class_declaration, class_expression}
use Rattle.es_steps.specs.UsingLoops.{HeadUsing, LoopUsing, UsesInHead}
use Rattle.es_steps.specs.UsingLoops.HeadUsing.{of_head}
use Rattle.es_steps.specs.UsingLoops.LoopUsing.{of_loop}
use Rattle.es_steps.specs.UsingLoops.UsesInHead.{in_head, with_label}
use Rattle.es_steps.specs.UsingSwitches.{SwitchUsing}
use Rattle.es_steps.specs.UsingSwitches.SwitchUsing.{of_switch}
use Rattle.es_steps.specs.WrapRule.{WrapRule}
use Rattle.es_steps.specs.WrapRule.WrapRule.{wraps}
use Rattle.es_reached.proofs.BuiltRules.{built-all}
use Rattle.es_valid_rests.specs.RestRules.{OutsidePart}
use Rattle.es_lowered.specs.Lowered.{part_rules}

-- what a rule acts at is no program
abbrev pub OffProgram : Spot → Type 0
OffProgram (at_node t) = same_type (kind_of t) Program ≡ false
OffProgram x = Unit {0}

abbrev pub NeverAtProgram : (Site → Ledger → Spot → Ledger → Spot → Type 0) → Type 0
NeverAtProgram R = (n : Site) (s s' : Ledger) (x y : Spot) → R n s x s' y → OffProgram x

-- EACH RULE

writing-off : NeverAtProgram Writing
writing-off n s s' x y declarators = tt
writing-off n s s' x y all_pending = tt
writing-off n s s' x y body_declarators = tt
writing-off n s s' x y insertions = tt

-- a program is a scope of `var`, and so no expression
no-expression : (k : AstType) → is_var_scope k ≡ false → same_type k Program ≡ false
no-expression Program h = absurd (cc h)
no-expression _ h = refl

wrap-off : (o : EnvOptions) → NeverAtProgram (WrapRule o)
wrap-off o n s s' x y (wraps {e = e} role expression slot h) = no-expression (kind_of e) expression.no_body

abbrev RowsOff : (Site → Whole → List Bound → Tree → Tree → Type 0) → Type 0
RowsOff R = (n : Site) (w : Whole) (bs : List Bound) (t u : Tree) → R n w bs t u → same_type (kind_of t) Program ≡ false

replacing-off : (R : Site → Whole → List Bound → Tree → Tree → Type 0) → RowsOff R → NeverAtProgram (Replacing R)
replacing-off R off n s s' x y (replaces {w = w} {t = t} {u = u} bs h) = off n w bs t u h

row-off : (R : Site → Whole → List Bound → Tree → Tree → Type 0) → RowsOff R → NeverAtProgram (RowRule R)
row-off R off = replacing-off _ (λ n w bs t u h. off n w bs t u h.rule)

coalescing-off : RowsOff NullishCoalescingRule
coalescing-off n w bs t u (with_temporary texts again next) = refl
coalescing-off n w bs t u (reading_again texts again) = refl

assigning-off : RowsOff LogicalAssignmentRule
assigning-off n w bs t u (to_name texts op alone target) = refl
assigning-off n w bs t u (to_static_member texts op alone target flags object) = refl
assigning-off n w bs t u (to_computed_member texts op alone target flags object key) = refl

raising-off : RowsOff ExponentiationRule
raising-off n w bs t u (power math texts left right) = refl
raising-off n w bs t u (power_assignment math texts right alone twice) = refl

chaining-off : (no_all : Bool) → RowsOff (OptionalChainingRule no_all)
chaining-off no_all n w bs t u (by_tests level walked tests) = refl
chaining-off no_all n w bs t u (as_callee level walked tests bound) = refl
chaining-off no_all n w bs t u (in_delete texts alone chain walked tests) = refl

spreading-off : RowsOff SpreadRule
spreading-off n w bs t u (spreads unbound used some silent r) = refl

assigning_rest-off : RowsOff RestAssignmentRule
assigning_rest-off n w bs t u (assigns unbound used texts silent next takes) = refl

catch-off : NeverAtProgram CatchRule
catch-off n s s' x y (catches fresh) = refl

namespace-off : NeverAtProgram NamespaceRule
namespace-off n s s' x y (exports top fresh e d f) = refl

split-off : NeverAtProgram SplitRule
split-off n s s' x y (splits m a c d es z free kind h) = refl

takes-rest-off : NeverAtProgram TakesRest
takes-rest-off n s s' x y (takes_rest m l lp lr ls a ps c t d unbound used) = refl

catch-rest-off : NeverAtProgram CatchRest
catch-rest-off n s s' x y (moves h fresh) = refl

for-each-off : (k : AstType) → IsForEach k → same_type k Program ≡ false
for-each-off k for_in = refl
for-each-off k for_of = refl

head-off : NeverAtProgram HeadRest
head-off n s s' x y (lexical_head {k = k} loop h fresh a b c d) = for-each-off k loop
head-off n s s' x y (var_head {k = k} loop h fresh a b c d) = for-each-off k loop

target-off : NeverAtProgram TargetHead
target-off n s s' x y (target_head {k = k} loop h fresh a b c) = for-each-off k loop

parameter-off : NeverAtProgram ParameterRest
parameter-off n s s' x y (in_declaration fresh f h) = refl
parameter-off n s s' x y (in_expression fresh f h) = refl
parameter-off n s s' x y (in_arrow fresh h) = refl

block-off : NeverAtProgram BlockUsing
block-off n s s' x y (of_block a b h d) = refl
block-off n s s' x y (of_part a b h d) = refl

class-off : (k : AstType) → IsClass k → same_type k Program ≡ false
class-off k class_declaration = refl
class-off k class_expression = refl

body-off : NeverAtProgram BodyUsing
body-off n s s' x y (of_declaration f a b d h e) = refl
body-off n s s' x y (of_expression f a b d h e) = refl
body-off n s s' x y (of_arrow a b d h e) = refl
body-off n s s' x y (of_static_block {k = k} l xs zs ts us class a b h e) = class-off k class

labelled-off : (b : Bound) (t u : Tree) → UsesInHead b t u → same_type (kind_of t) Program ≡ false
labelled-off b t u (in_head texts h) = refl
labelled-off b t u (with_label h) = refl

loop-off : NeverAtProgram LoopUsing
loop-off n s s' x y (of_loop {t = t} {u = u} a h d) = labelled-off _ t u d

switch-off : NeverAtProgram SwitchUsing
switch-off n s s' x y (of_switch a b h d) = refl

head-using-off : NeverAtProgram HeadUsing
head-using-off n s s' x y (of_head a fresh b d e) = refl

arrow-off : NeverAtProgram ArrowRule
arrow-off n s s' x y (by_name role belongs reaches found used low) = refl
arrow-off n s s' x y (by_new_name role belongs reaches fresh) = refl
arrow-off n s s' x y (with_body none) = refl
arrow-off n s s' x y (with_expression e none) = refl

-- TOGETHER

both-off : {Q R : Site → Ledger → Spot → Ledger → Spot → Type 0} → NeverAtProgram Q → NeverAtProgram R → NeverAtProgram (either_rule Q R)
both-off q r n s s' x y (inl h) = q n s s' x y h
both-off q r n s s' x y (inr h) = r n s s' x y h

on-off : (b : Bool) (R : Site → Ledger → Spot → Ledger → Spot → Type 0) → NeverAtProgram R → NeverAtProgram (where_on b R)
on-off true R r n s s' x y h = r n s s' x y h
on-off false R r n s s' x y h = absurd h

pub all-off : (o : EnvOptions) → NeverAtProgram (AllRules o)
all-off o =
    both-off
    (both-off writing-off (both-off (wrap-off o)
    (both-off (on-off o.es2021.logical_assignment_operators _ (row-off LogicalAssignmentRule assigning-off))
    (both-off (both-off (on-off o.es2020.nullish_coalescing_operator _ (row-off NullishCoalescingRule coalescing-off)) (on-off o.es2020.optional_chaining _ (row-off (OptionalChainingRule o.assumptions.no_document_all) (chaining-off o.assumptions.no_document_all))))
    (on-off o.es2016.exponentiation_operator _ (row-off ExponentiationRule raising-off))))))
    (both-off (on-off o.es2019.optional_catch_binding _ catch-off)
    (both-off (on-off o.es2020.export_namespace_from _ namespace-off)
    (both-off (on-off (is_some o.es2018.object_rest_spread) _ (both-off (both-off (replacing-off SpreadRule spreading-off) (row-off RestAssignmentRule assigning_rest-off)) (both-off split-off (both-off takes-rest-off (both-off catch-rest-off (both-off head-off (both-off target-off parameter-off)))))))
    (both-off (on-off o.es2026.explicit_resource_management _ (both-off block-off (both-off body-off (both-off loop-off (both-off switch-off head-using-off))))) (on-off (is_some o.es2015.arrow_function) _ arrow-off)))))

-- THE LOWERINGS' RULES are among all rules

rests-all : (n : Site) (s : Ledger) (x : Spot) (s' : Ledger) (y : Spot) → OutsidePart n s x s' y → RestRule n s x s' y
rests-all n s x s' y (inl r) = inl r.0.0
rests-all n s x s' y (inr (inl r)) = inr (inl r.0)
rests-all n s x s' y (inr (inr r)) = inr (inr r)

on-rests : (b : Bool) (n : Site) (s : Ledger) (x : Spot) (s' : Ledger) (y : Spot) → where_on b OutsidePart n s x s' y → where_on b (either_rule ObjectRule RestRule) n s x s' y
on-rests true n s x s' y r = inr (rests-all n s x s' y r)
on-rests false n s x s' y r = absurd r

pub parts-all : (o : EnvOptions) (n : Site) (s : Ledger) (x : Spot) (s' : Ledger) (y : Spot) → part_rules o n s x s' y → AllRules o n s x s' y
parts-all o n s x s' y (inl r) = built-all o n s x s' y r
parts-all o n s x s' y (inr r) = inr (inr (inr (inl (on-rests (is_some o.es2018.object_rest_spread) n s x s' y r))))
