-- What a rule does to the ledger: it takes names for the list around, names that it declares itself, or one for `this`.
use Rattle.std.proofs.Common.{◌≡◌, inl, inr, List, [], ◌∷◌}
use Rattle.std.specs.Prelude.{Bool, true, false, Option, Some, None, codes, is_some}
use Rattle.es_tree.specs.Fresh.{IsFreshName, text_base}
use Rattle.es_tree.specs.Tree.{Tree}
use Rattle.es_tree.specs.Words.{Text}
use Rattle.es_tree.specs.declared.options.EnvOptions.{EnvOptions}
use Rattle.es_resolution.specs.Declarations.{Bound}
use Rattle.es_steps.specs.AllRules.{AllRules}
use Rattle.es_steps.specs.Arrows.{ArrowRule}
use Rattle.es_steps.specs.Arrows.ArrowRule.{by_name, by_new_name, with_body, with_expression}
use Rattle.es_steps.specs.CatchPatterns.{CatchRest}
use Rattle.es_steps.specs.CatchPatterns.CatchRest.{moves}
use Rattle.es_steps.specs.CoreRules.{RowRule, where_on}
use Rattle.es_steps.specs.Exponentiation.{ExponentiationRule}
use Rattle.es_steps.specs.LogicalAssignment.{LogicalAssignmentRule}
use Rattle.es_steps.specs.LoopHeads.{HeadRest, TargetHead}
use Rattle.es_steps.specs.LoopHeads.HeadRest.{lexical_head, var_head}
use Rattle.es_steps.specs.LoopHeads.TargetHead.{target_head}
use Rattle.es_steps.specs.NamespaceExports.{NamespaceRule}
use Rattle.es_steps.specs.NamespaceExports.NamespaceRule.{exports}
use Rattle.es_steps.specs.NullishCoalescing.{NullishCoalescingRule}
use Rattle.es_steps.specs.ObjectRest.{SplitRule, TakesRest}
use Rattle.es_steps.specs.ObjectRest.SplitRule.{splits}
use Rattle.es_steps.specs.ObjectRest.TakesRest.{takes_rest}
use Rattle.es_steps.specs.ObjectSpread.{SpreadRule}
use Rattle.es_steps.specs.Open.{Additions, Pending, with_vars}
use Rattle.es_steps.specs.OptionalCatch.{CatchRule}
use Rattle.es_steps.specs.OptionalCatch.CatchRule.{catches}
use Rattle.es_steps.specs.OptionalChaining.{OptionalChainingRule}
use Rattle.es_steps.specs.ParameterPatterns.{ParameterRest}
use Rattle.es_steps.specs.ParameterPatterns.ParameterRest.{in_arrow, in_declaration, in_expression}
use Rattle.es_steps.specs.RestAssignments.{RestAssignmentRule}
use Rattle.es_steps.specs.Rules.{Replacing, Writing, either_rule, next_name, with_made}
use Rattle.es_steps.specs.Rules.Replacing.{replaces}
use Rattle.es_steps.specs.Rules.Writing.{all_pending, body_declarators, declarators, insertions}
use Rattle.es_steps.specs.Steps.{Ledger, Site, Spot, Whole}
use Rattle.es_steps.specs.Steps.Ledger.{ledger}
use Rattle.es_steps.specs.Steps.Spot.{at_list}
use Rattle.es_steps.specs.UsingBlocks.{BlockUsing, with_context}
use Rattle.es_steps.specs.UsingBlocks.BlockUsing.{of_block, of_part}
use Rattle.es_steps.specs.UsingBodies.{BodyUsing}
use Rattle.es_steps.specs.UsingBodies.BodyUsing.{of_arrow, of_declaration, of_expression, of_static_block}
use Rattle.es_steps.specs.UsingLoops.{HeadUsing, LoopUsing}
use Rattle.es_steps.specs.UsingLoops.HeadUsing.{of_head}
use Rattle.es_steps.specs.UsingLoops.LoopUsing.{of_loop}
use Rattle.es_steps.specs.UsingSwitches.{SwitchUsing}
use Rattle.es_steps.specs.UsingSwitches.SwitchUsing.{of_switch}
use Rattle.es_steps.specs.WrapRule.{WrapRule}
use Rattle.es_steps.specs.WrapRule.WrapRule.{wraps}
use Rattle.es_steps.proofs.Assigns.{assigning-makes}
use Rattle.es_steps.proofs.Chains.{chaining-makes}
use Rattle.es_steps.proofs.Coalesces.{coalescing-makes}
use Rattle.es_steps.proofs.Made.{Makes}
use Rattle.es_steps.proofs.Raises.{raising-makes}
use Rattle.es_steps.proofs.RestAssignments.{assigning_rest-makes}
use Rattle.es_steps.proofs.Spreads.{spread-makes}
use Rattle.es_steps.proofs.Taken.{whole_in}
use Rattle.es_steps.proofs.Temporaries.{AreTaken}
use Rattle.es_arrow_steps.specs.ArrowWalks.{ArrowWalkRule}
use Rattle.es_arrow_steps.specs.ArrowWalks.ArrowWalkRule.{by_pending_name, by_rule}
use Rattle.es_arrow_steps.proofs.OwnNames.{IsOwnThis}

-- from one ledger to the next
pub data Moves : Ledger → Ledger → Type 0 where
  still : {s : Ledger} → Moves s s
  temporaries : {w : Whole} {p : Pending} {y : Option Bound} {a : Additions} (bs : List Bound) → AreTaken w.in_use w.free_symbol bs → Moves (ledger w p y a) (ledger (with_made bs w) (with_vars bs p) y a)
  declared_name : {w : Whole} {p : Pending} {y : Option Bound} {a : Additions} (x : Text) → w.in_use x ≡ false → Moves (ledger w p y a) (ledger (with_made (next_name w x ∷ []) w) p y a)
  context : {w : Whole} {p : Pending} {y : Option Bound} {a : Additions} (x : Text) → w.in_use x ≡ false → Moves (ledger w p y a) (ledger (with_context x w) p y a)
  this_name : {w : Whole} {p : Pending} {a : Additions} (x : Text) → IsFreshName w.in_use (text_base (codes "this")) x → Moves (ledger w p None a) (ledger (with_made (next_name w x ∷ []) w) p (Some (next_name w x)) a)

-- of a list that a rule acts on: the name that is pending for `this` afterwards, if one is, is one symbol's alone where that before was
abbrev pub ListOwn : Whole → Whole → Spot → Spot → Type 0
ListOwn w w' (at_list p x a ts) (at_list q y b us) = IsOwnThis w x → IsOwnThis w' y
ListOwn w w' x y = Unit {0}

pub record Acts (s s' : Ledger) (x y : Spot) : Type 0 where
  pub moves : Moves s s'
  pub list : ListOwn (whole_in s) (whole_in s') x y

abbrev pub ActsSo : (Site → Ledger → Spot → Ledger → Spot → Type 0) → Type 0
ActsSo R = (n : Site) (s s' : Ledger) (x y : Spot) → R n s x s' y → Acts s s' x y

-- EACH RULE

writing-acts : ActsSo Writing
writing-acts n s s' x y declarators = record { moves = still; list = λ h. h }
writing-acts n s s' x y all_pending = record { moves = still; list = λ h. tt }
writing-acts n s s' x y body_declarators = record { moves = still; list = tt }
writing-acts n s s' x y insertions = record { moves = still; list = tt }

wrap-acts : (o : EnvOptions) → ActsSo (WrapRule o)
wrap-acts o n s s' x y (wraps role e slot h) = record { moves = still; list = tt }

abbrev AllMake : (Site → Whole → List Bound → Tree → Tree → Type 0) → Type 0
AllMake R = (n : Site) (w : Whole) (bs : List Bound) (t u : Tree) → R n w bs t u → Makes n w bs t u

replacing-acts : (R : Site → Whole → List Bound → Tree → Tree → Type 0) → ((n : Site) (w : Whole) (bs : List Bound) (t u : Tree) → R n w bs t u → AreTaken w.in_use w.free_symbol bs) → ActsSo (Replacing R)
replacing-acts R taken n s s' x y (replaces {w = w} {t = t} {u = u} bs h) = record { moves = temporaries bs (taken n w bs t u h); list = tt }

row-acts : (R : Site → Whole → List Bound → Tree → Tree → Type 0) → AllMake R → ActsSo (RowRule R)
row-acts R makes = replacing-acts _ (λ n w bs t u h. (makes n w bs t u h.rule).taken)

spread-acts : ActsSo (Replacing SpreadRule)
spread-acts = replacing-acts SpreadRule (λ n w bs t u h. (spread-makes n w bs t u h).taken)

catch-acts : ActsSo CatchRule
catch-acts n s s' x y (catches {x = z} fresh) = record { moves = declared_name z fresh.free; list = tt }

namespace-acts : ActsSo NamespaceRule
namespace-acts n s s' x y (exports {x = z} top fresh e d f) = record { moves = declared_name z fresh.free; list = tt }

split-acts : ActsSo SplitRule
split-acts n s s' x y (splits m a c d es z free kind h) = record { moves = declared_name z free; list = tt }

takes-rest-acts : ActsSo TakesRest
takes-rest-acts n s s' x y (takes_rest m l lp lr ls a ps c t d unbound used) = record { moves = still; list = tt }

catch-rest-acts : ActsSo CatchRest
catch-rest-acts n s s' x y (moves {x = z} h fresh) = record { moves = declared_name z fresh.free; list = tt }

head-acts : ActsSo HeadRest
head-acts n s s' x y (lexical_head {x = z} k h fresh a b c d) = record { moves = declared_name z fresh.free; list = tt }
head-acts n s s' x y (var_head {x = z} k h fresh a b c d) = record { moves = declared_name z fresh.free; list = tt }

target-acts : ActsSo TargetHead
target-acts n s s' x y (target_head {x = z} k h fresh a b c) = record { moves = declared_name z fresh.free; list = tt }

parameter-acts : ActsSo ParameterRest
parameter-acts n s s' x y (in_declaration {x = z} fresh f h) = record { moves = declared_name z fresh.free; list = tt }
parameter-acts n s s' x y (in_expression {x = z} fresh f h) = record { moves = declared_name z fresh.free; list = tt }
parameter-acts n s s' x y (in_arrow {x = z} fresh h) = record { moves = declared_name z fresh.free; list = tt }

block-acts : ActsSo BlockUsing
block-acts n s s' x y (of_block {c = c} a b h d) = record { moves = context c h.fresh.free; list = tt }
block-acts n s s' x y (of_part {c = c} a b h d) = record { moves = context c h.fresh.free; list = tt }

body-acts : ActsSo BodyUsing
body-acts n s s' x y (of_declaration {c = c} f a b d h e) = record { moves = context c h.fresh.free; list = tt }
body-acts n s s' x y (of_expression {c = c} f a b d h e) = record { moves = context c h.fresh.free; list = tt }
body-acts n s s' x y (of_arrow {c = c} a b d h e) = record { moves = context c h.fresh.free; list = tt }
body-acts n s s' x y (of_static_block {c = c} l xs zs ts us k a b h e) = record { moves = context c h.fresh.free; list = tt }

loop-acts : ActsSo LoopUsing
loop-acts n s s' x y (of_loop {c = c} a h d) = record { moves = context c h.fresh.free; list = tt }

switch-acts : ActsSo SwitchUsing
switch-acts n s s' x y (of_switch {c = c} a b h d) = record { moves = context c h.fresh.free; list = tt }

head-using-acts : ActsSo HeadUsing
head-using-acts n s s' x y (of_head {c = c} a fresh b d e) = record { moves = declared_name c fresh.free; list = tt }

arrow-acts : ActsSo ArrowRule
arrow-acts n s s' x y (by_name role belongs reaches found used low) = record { moves = still; list = tt }
arrow-acts n s s' x y (by_new_name {x = z} role belongs reaches fresh) = record { moves = this_name z fresh; list = tt }
arrow-acts n s s' x y (with_body none) = record { moves = still; list = tt }
arrow-acts n s s' x y (with_expression e none) = record { moves = still; list = tt }

-- TOGETHER

pub both-act : {Q R : Site → Ledger → Spot → Ledger → Spot → Type 0} → ActsSo Q → ActsSo R → ActsSo (either_rule Q R)
both-act q r n s s' x y (inl h) = q n s s' x y h
both-act q r n s s' x y (inr h) = r n s s' x y h

on-acts : (b : Bool) (R : Site → Ledger → Spot → Ledger → Spot → Type 0) → ActsSo R → ActsSo (where_on b R)
on-acts true R r n s s' x y h = r n s s' x y h
on-acts false R r n s s' x y h = absurd h

pub all-act : (o : EnvOptions) → ActsSo (AllRules o)
all-act o =
    both-act
    (both-act writing-acts (both-act (wrap-acts o)
    (both-act (on-acts o.es2021.logical_assignment_operators _ (row-acts LogicalAssignmentRule assigning-makes))
    (both-act (both-act (on-acts o.es2020.nullish_coalescing_operator _ (row-acts NullishCoalescingRule coalescing-makes)) (on-acts o.es2020.optional_chaining _ (row-acts (OptionalChainingRule o.assumptions.no_document_all) (chaining-makes o.assumptions.no_document_all))))
    (on-acts o.es2016.exponentiation_operator _ (row-acts ExponentiationRule raising-makes))))))
    (both-act (on-acts o.es2019.optional_catch_binding _ catch-acts)
    (both-act (on-acts o.es2020.export_namespace_from _ namespace-acts)
    (both-act (on-acts (is_some o.es2018.object_rest_spread) _ (both-act (both-act spread-acts (row-acts RestAssignmentRule assigning_rest-makes)) (both-act split-acts (both-act takes-rest-acts (both-act catch-rest-acts (both-act head-acts (both-act target-acts parameter-acts)))))))
    (both-act (on-acts o.es2026.explicit_resource_management _ (both-act block-acts (both-act body-acts (both-act loop-acts (both-act switch-acts head-using-acts))))) (on-acts (is_some o.es2015.arrow_function) _ arrow-acts)))))

pub walk-acts : ActsSo ArrowWalkRule
walk-acts n s s' x y (by_pending_name role belongs reaches) = record { moves = still; list = tt }
walk-acts n s s' x y (by_rule h) = arrow-acts n s s' x y h
