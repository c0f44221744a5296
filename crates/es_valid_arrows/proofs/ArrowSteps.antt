-- Steps of arrows and of the other rules keep form.
use Rattle.std.proofs.Common.{◌≡◌, inl, inr, sym, subst, ◌∙◌, List}
use Rattle.std.specs.Prelude.{Bool, true, false, Option, is_some}
use Rattle.es_tree.specs.HasForm.{has_form}
use Rattle.es_tree.specs.Tree.{Tree, Trees, empty}
use Rattle.es_tree.specs.declared.options.EnvOptions.{EnvOptions}
use Rattle.es_tree.specs.declared.table.Sort.TheVariants.{Program as s-Program}
use Rattle.es_resolution.specs.Declarations.{Bound}
use Rattle.es_steps.specs.AllRules.{ObjectRule}
use Rattle.es_steps.specs.Arrows.{ArrowRule}
use Rattle.es_steps.specs.CoreRules.{RowRule, rows_under, where_on}
use Rattle.es_steps.specs.Laws.{nothing_beside}
use Rattle.es_steps.specs.NamespaceExports.{NamespaceRule}
use Rattle.es_steps.specs.Open.{Additions, Open, Pending, finished, flanks_with, opened}
use Rattle.es_steps.specs.OptionalCatch.{CatchRule}
use Rattle.es_steps.specs.Rules.{Writing, either_rule}
use Rattle.es_steps.specs.Rules.Replacing.{replaces}
use Rattle.es_steps.specs.Steps.{Ledger, Site, Spot, Whole, the_program, Step, Steps}
use Rattle.es_steps.specs.Steps.Spot.{at_beside, at_list, at_trees}
use Rattle.es_steps.specs.Steps.Steps.{stays, goes}
use Rattle.es_steps.specs.WrapRule.{WrapRule}
use Rattle.es_steps.specs.WrapRule.WrapRule.{wraps}
use Rattle.es_steps.proofs.BridgeInclusion.{all_under}
use Rattle.es_steps.proofs.FormLists.{HasText}
use Rattle.es_steps.proofs.FormOpen.{opened-tidy}
use Rattle.es_steps.proofs.FormRules.{AtNodes, both-form, lawful-in, on-form}
use Rattle.es_steps.proofs.FormSteps.{tree-left}
use Rattle.es_steps.proofs.Opened.{finished-opened}
use Rattle.es_steps.proofs.Taken.{this_in}
use Rattle.es_valid_steps.proofs.FurtherForms.{catch-nodes}
use Rattle.es_valid_steps.proofs.FurtherSteps.{alone, alone-form, alone-written, apart, object-nodes}
use Rattle.es_valid_steps.proofs.ProgramLists.{ProgramExported, program-exported}
use Rattle.es_valid_steps.proofs.ProgramLists.ProgramExported.{at_list as in_the_list}
use Rattle.es_valid_steps.proofs.Spread.{finished-spread, spread, spread-opened}
use Rattle.es_valid_steps.proofs.SpreadSteps.{SameBoth, Went, spread-step}
use Rattle.es_valid_steps.proofs.SpreadSteps.Went.{moves, rests, leaves}
use Rattle.es_valid_arrows.specs.Laws.{LawArrowForm, with_arrows}
use Rattle.es_valid_arrows.proofs.ArrowForms.{arrow-nodes, arrow-wide-form}
use Rattle.es_valid_arrows.proofs.Wide.{IsWide, WideLawful, program-wide, this_named}

-- RULES OF NODES

abbrev pub ActsAtNodes : (Site → Ledger → Spot → Ledger → Spot → Type 0) → Type 0
ActsAtNodes R = (n : Site) (s s' : Ledger) (x y : Spot) → R n s x s' y → AtNodes x y

pub on-nodes : (b : Bool) (R : Site → Ledger → Spot → Ledger → Spot → Type 0) → ActsAtNodes R → ActsAtNodes (where_on b R)
on-nodes true R at n s s' x y r = at n s s' x y r
on-nodes false R at n s s' x y r = absurd r

pub both-nodes : (Q R : Site → Ledger → Spot → Ledger → Spot → Type 0) → ActsAtNodes Q → ActsAtNodes R → ActsAtNodes (either_rule Q R)
both-nodes Q R f g n s s' x y (inl r) = f n s s' x y r
both-nodes Q R f g n s s' x y (inr r) = g n s s' x y r

row-nodes : (R : Site → Whole → List Bound → Tree → Tree → Type 0) → ActsAtNodes (RowRule R)
row-nodes R n s s' x y (replaces bs h) = tt

wrap-nodes : (o : EnvOptions) → ActsAtNodes (WrapRule o)
wrap-nodes o n s s' x y (wraps d e slot h) = tt

rows-nodes : (o : EnvOptions) → ActsAtNodes (rows_under o)
rows-nodes o = both-nodes _ _ (on-nodes o.es2021.logical_assignment_operators _ (row-nodes _)) (both-nodes _ _ (both-nodes _ _ (on-nodes o.es2020.nullish_coalescing_operator _ (row-nodes _)) (on-nodes o.es2020.optional_chaining _ (row-nodes _))) (on-nodes o.es2016.exponentiation_operator _ (row-nodes _)))

-- THE RULES that put no statement beside another, those of arrows among them

abbrev pub arrows_alone : EnvOptions → Site → Ledger → Spot → Ledger → Spot → Type 0
arrows_alone o = either_rule (alone o) (where_on (is_some o.es2015.arrow_function) ArrowRule)

-- a list is written, and no more
alone-lists : (o : EnvOptions) (n : Site) (s s' : Ledger) (p q : Pending) (x y : Option Bound) (a b : Additions) (ts us : Trees) → alone o n s (at_list p x a ts) s' (at_list q y b us) → Writing n s (at_list p x a ts) s' (at_list q y b us)
alone-lists o n s s' p q x y a b ts us (inl (inl r)) = r
alone-lists o n s s' p q x y a b ts us (inl (inr (inl r))) = absurd (wrap-nodes o n s s' (at_list p x a ts) (at_list q y b us) r)
alone-lists o n s s' p q x y a b ts us (inl (inr (inr r))) = absurd (rows-nodes o n s s' (at_list p x a ts) (at_list q y b us) r)
alone-lists o n s s' p q x y a b ts us (inr (inl r)) = absurd (on-nodes o.es2019.optional_catch_binding CatchRule catch-nodes n s s' (at_list p x a ts) (at_list q y b us) r)
alone-lists o n s s' p q x y a b ts us (inr (inr r)) = absurd (on-nodes (is_some o.es2018.object_rest_spread) ObjectRule object-nodes n s s' (at_list p x a ts) (at_list q y b us) r)

pub arrows-wide : (o : EnvOptions) → WideLawful (arrows_alone o)
arrows-wide o = both-form (lawful-in this_named (alone o) (alone-form o) (alone-lists o)) (on-form (is_some o.es2015.arrow_function) ArrowRule arrow-wide-form)

pub arrows-written : (o : EnvOptions) (n : Site) (s s' : Ledger) (t : Tree) (bs cs : List Tree) (us : Trees) → arrows_alone o n s (at_beside bs t cs) s' (at_trees us) → (s ≡ s') × (flanks_with bs t cs empty ≡ us)
arrows-written o n s s' t bs cs us (inl r) = alone-written o n s s' t bs cs us r
arrows-written o n s s' t bs cs us (inr r) = absurd (on-nodes (is_some o.es2015.arrow_function) ArrowRule arrow-nodes n s s' (at_beside bs t cs) (at_trees us) r)

-- the others lower namespace exports
pub arrows-apart : (o : EnvOptions) (n : Site) (s : Ledger) (x : Spot) (s' : Ledger) (y : Spot) → with_arrows o n s x s' y → either_rule (arrows_alone o) NamespaceRule n s x s' y
arrows-apart o n s x s' y (inl r) = at (apart o n s x s' y r)
  where
    at : either_rule (alone o) NamespaceRule n s x s' y → either_rule (arrows_alone o) NamespaceRule n s x s' y
    at (inl r) = inl (inl r)
    at (inr r) = inr r
arrows-apart o n s x s' y (inr r) = inl (inr r)

-- STEPS

pub same-source : (t : Tree) → finished (spread (opened t)) ≡ t
same-source t = finished-spread (opened t) ∙ finished-opened t

-- a program on the way, and beside it no empty name of `this`
pub record OnTheWay (s : Ledger) (x : Open) : Type 0 where
  pub named : HasText (this_in s)
  pub wide : IsWide x
  pub formed : has_form s-Program (finished x) ≡ true

pub source-begins : (t : Tree) (w : Whole) → has_form s-Program t ≡ true → OnTheWay (nothing_beside w) (spread (opened t))
source-begins t w f = record { named = tt; wide = subst (λ (x : Open). IsWide x) (sym (spread-opened t)) (opened-tidy this_named t); formed = subst (λ (x : Tree). has_form s-Program x ≡ true) (sym (same-source t)) f }

program-beside : {s s' : Ledger} {x y : Open} → ProgramExported s s' x y → HasText (this_in s) → HasText (this_in s')
program-beside (in_the_list h) named = named

module _ (o : EnvOptions) where
  pub one-step : {s s' : Ledger} {t u : Open} → Step (either_rule (arrows_alone o) NamespaceRule) the_program s t s' u → OnTheWay s (spread t) → OnTheWay s' (spread u)
  one-step {s} {s'} {t} {u} h g = at (spread-step (arrows_alone o) NamespaceRule (arrows-wide o).no_flanks (arrows-written o) h)
    where
      at : Went (Step (arrows_alone o) the_program s (spread t) s' (spread u)) (SameBoth s (spread t) s' (spread u)) (Step NamespaceRule the_program s t s' u) → OnTheWay s' (spread u)
      at (moves r) = let next = tree-left this_named (arrows_alone o) (arrows-wide o) r g.named s-Program (λ e. absurd (cc e)) g.wide g.formed in record { named = next.names.this g.named; wide = next.proper; formed = next.formed }
      at (rests e) = subst (λ (x : Open). OnTheWay s' x) e.1 (subst (λ (r : Ledger). OnTheWay r (spread t)) e.0 g)
      at (leaves r) =
          let export = program-exported r (subst (λ (x : Tree). has_form s-Program x ≡ true) (finished-spread t) g.formed) in
          let left = program-wide export g.wide g.formed in
          record { named = program-beside export g.named; wide = left.proper; formed = left.formed }

  pub in-a-row : {s s' : Ledger} {t u : Open} → Steps (Step (either_rule (arrows_alone o) NamespaceRule) the_program) s t s' u → OnTheWay s (spread t) → OnTheWay s' (spread u)
  in-a-row stays g = g
  in-a-row (goes h rest) g = in-a-row rest (one-step h g)

-- THE LAW

pub law_arrow_form_proof : LawArrowForm
law_arrow_form_proof o t w w' x f steps =
    let all = all_under (with_arrows o) (either_rule (arrows_alone o) NamespaceRule) (arrows-apart o) steps in
    subst (λ (y : Tree). has_form s-Program y ≡ true) (finished-spread x) (in-a-row o all (source-begins t w f)).formed
