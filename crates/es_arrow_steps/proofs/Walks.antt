-- Steps of a walk in a row are steps of the rules.
use Rattle.std.proofs.Common.{◌≡◌, inr, refl, sym, subst, ◌∙◌, []}
use Rattle.std.specs.Prelude.{Bool, true, false, Option, None, is_some}
use Rattle.es_tree.specs.Tree.{Tree, kind_of}
use Rattle.es_tree.specs.declared.ast_type.AstType.TheVariants.{Program}
use Rattle.es_tree.specs.declared.options.EnvOptions.{EnvOptions}
use Rattle.es_semantic.specs.RolesOf.{reads}
use Rattle.es_resolution.specs.Declarations.{Bound}
use Rattle.es_resolution.specs.Resolved.{nowhere}
use Rattle.es_steps.specs.AllRules.{AllRules}
use Rattle.es_steps.specs.Arrows.{ArrowRule}
use Rattle.es_steps.specs.CoreRules.{where_on}
use Rattle.es_steps.specs.Laws.{IsWellBound, nothing_beside}
use Rattle.es_steps.specs.Open.{Open, finished, no_additions, opened}
use Rattle.es_steps.specs.Rules.{either_rule}
use Rattle.es_steps.specs.Steps.{Ledger, Site, Spot, Step, Steps, Whole, the_program}
use Rattle.es_steps.specs.Steps.Ledger.{ledger}
use Rattle.es_steps.specs.Steps.Steps.{goes, stays}
use Rattle.es_steps.proofs.BridgeInclusion.{all_under}
use Rattle.es_steps.proofs.Laws.{law_steps_proof}
use Rattle.es_steps.proofs.Passing.{called-passes}
use Rattle.es_steps.proofs.Taken.{pending_in, this_in, top_in, whole_in}
use Rattle.es_arrow_steps.specs.ArrowWalks.{ArrowWalkRule, LawArrowWalks, UsesNames, WalksAreSteps}
use Rattle.es_arrow_steps.proofs.Converted.{HasArrows, converted}
use Rattle.es_arrow_steps.proofs.Declared.{Good}
use Rattle.es_arrow_steps.proofs.Onward.{Onward, OwnIn, onward, own-opened, own-step}
use Rattle.es_arrow_steps.proofs.OwnNames.{IsOwnThis, numbers-use}
use Rattle.es_arrow_steps.proofs.RuleMoves.{ActsSo, all-act, both-act, walk-acts}
use Rattle.es_arrow_steps.proofs.Sited.{Finds}

-- nothing is pending outside the program
record IsClear (s : Ledger) : Type 0 where
  vars : (pending_in s).vars ≡ []
  lets : (pending_in s).lets ≡ []
  this : this_in s ≡ None
  top : top_in s ≡ no_additions

clear-before : {s s' : Ledger} → Onward s s' → IsClear s' → IsClear s
clear-before o h = record { vars = o.vars h.vars; lets = sym o.lets ∙ h.lets; this = o.back h.this; top = sym o.top ∙ h.top }

clear-is : (s : Ledger) → IsClear s → s ≡ nothing_beside (whole_in s)
clear-is (ledger w p x a) h = λ i. ledger w (record { vars = h.vars i; lets = h.lets i }) (h.this i) (h.top i)

none-own : (w : Whole) (x : Option Bound) → x ≡ None → IsOwnThis w x
none-own w x e = subst (λ (z : Option Bound). IsOwnThis w z) (sym e) tt

none-found : (w : Whole) (x : Option Bound) → x ≡ None → Finds w x nowhere
none-found w x e = subst (λ (z : Option Bound). Finds w z nowhere) (sym e) tt

-- one step more at the end
and-then : {S : Ledger → Open → Ledger → Open → Type 0} {s m s' : Ledger} {t u v : Open} → Steps S s t m u → S m u s' v → Steps S s t s' v
and-then stays last = goes last stays
and-then (goes one rest) last = goes one (and-then rest last)

module _ (o : EnvOptions) (R : Site → Ledger → Spot → Ledger → Spot → Type 0) (has : HasArrows o R) where
  act : ActsSo (either_rule R ArrowWalkRule)
  act = both-act (λ n s s' x y h. all-act o n s s' x y (has.among n s s' x y h)) walk-acts

  all-clear : {s s' : Ledger} {t u : Open} → Steps (Step (either_rule R ArrowWalkRule) the_program) s t s' u → IsClear s' → IsClear s
  all-clear stays h = h
  all-clear (goes one rest) h = clear-before (onward (either_rule R ArrowWalkRule) act one) (all-clear rest h)

  module _ (t : Tree) (w : Whole) (program : kind_of t ≡ Program) (start : IsWellBound w t) where
    -- what is known of the program after steps of the rules
    good-after : (s : Ledger) (x : Open) → IsClear s → Steps (Step R the_program) (nothing_beside w) (opened t) s x → Good (whole_in s) reads nowhere (finished x)
    good-after s x clear row =
        let u = whole_in s in
        let bound = law_steps_proof o t w u x program start (subst (λ (z : Ledger). Steps (Step (AllRules o) the_program) (nothing_beside w) (opened t) z x) (clear-is s clear) (all_under R (AllRules o) (λ n s y s' z h. has.among n s s' y z h) row)) in
        (bound.resolved, bound.named, called-passes u.called u.called u.free_symbol (λ m e. refl) u.in_use reads (finished x) bound.named bound.called bound.class_names)

    walked : {s s' : Ledger} {x y : Open} → Steps (Step (either_rule R ArrowWalkRule) the_program) s x s' y → IsClear s' → UsesNames (whole_in s) → OwnIn (whole_in s) x → Steps (Step R the_program) (nothing_beside w) (opened t) s x → Steps (Step R the_program) (nothing_beside w) (opened t) s' y
    walked stays end used own row = row
    walked (goes {s = s} {s' = m} {t = x} one rest) end used own row =
        let clear = clear-before (onward (either_rule R ArrowWalkRule) act one) (all-clear rest end) in
        walked rest end (numbers-use (whole_in s) (whole_in m) (onward (either_rule R ArrowWalkRule) act one).numbers used)
        (own-step (either_rule R ArrowWalkRule) act one used (none-own (whole_in s) (this_in s) clear.this) own)
        (and-then row (converted o R has one (none-found (whole_in s) (this_in s) clear.this) (good-after s x clear row) own))

  -- Steps of such rules and of a walk are steps of the rules.
  pub walks-are-steps : WalksAreSteps R
  walks-are-steps t w w' x program start used row = walked t w program start row (record { vars = refl; lets = refl; this = refl; top = refl }) used (own-opened w t) stays

-- THE LAW

arrows-on : (b : Bool) → b ≡ true → (n : Site) (s s' : Ledger) (x y : Spot) → ArrowRule n s x s' y → where_on b ArrowRule n s x s' y
arrows-on true e n s s' x y h = h
arrows-on false e n s s' x y h = absurd (cc e)

pub law_arrow_walks_proof : LawArrowWalks
law_arrow_walks_proof o on = walks-are-steps o (AllRules o) (record {
  among = λ n s s' x y h. h;
  arrows = λ n s s' x y h. inr (inr (inr (inr (inr (arrows-on (is_some o.es2015.arrow_function) on n s s' x y h)))));
})
