-- What each rule owes for the static rules of places where arrows become functions, and that those which owed it before owe no more.
use Rattle.std.proofs.Common.{◌≡◌, inl, inr, refl, List}
use Rattle.std.specs.Prelude.{Bool, true, false, is_some}
use Rattle.es_tree.specs.Ancestors.{Ancestor, stands_in}
use Rattle.es_tree.specs.HasForm.{has_form, same_type}
use Rattle.es_tree.specs.Tree.{Tree, node, kind_of}
use Rattle.es_tree.specs.declared.ast_type.AstType.TheVariants.{FunctionBody, LabeledStatement, ThisExpression}
use Rattle.es_tree.specs.declared.options.EnvOptions.{EnvOptions}
use Rattle.es_tree.specs.declared.table.Sort.{Sort}
use Rattle.es_tree.specs.declared.table.Sort.TheVariants.{Expression as s-Expression}
use Rattle.es_steps.specs.Arrows.{ArrowRule}
use Rattle.es_steps.specs.Arrows.ArrowRule.{by_name, by_new_name, with_body, with_expression}
use Rattle.es_steps.specs.CoreRules.{where_on}
use Rattle.es_steps.specs.Rules.{next_name}
use Rattle.es_steps.specs.Slots.{is_slot}
use Rattle.es_steps.specs.Steps.{Ledger, Site, Spot}
use Rattle.es_steps.specs.Steps.Spot.{at_node}
use Rattle.es_valid_steps.specs.PlaceRules.{Keeps}
use Rattle.es_valid_steps.proofs.Changed.Changed.{function, named}
use Rattle.es_valid_steps.proofs.FurtherRows.{catch-lawful, spread-lawful}
use Rattle.es_valid_steps.proofs.RestAssignmentPlaces.{rest-assignment-lawful}
use Rattle.es_valid_steps.proofs.FurtherSteps.{alone}
use Rattle.es_valid_steps.proofs.PlaceRows.{NodeKept, PlaceLawful, both-lawful, on-lawful, under-lawful}
use Rattle.es_valid_steps.proofs.Slots.{SlotHead}
use Rattle.es_valid_arrows.proofs.Fits.{ArrowsFit}
use Rattle.es_valid_arrows.proofs.ArrowRows.{placed-keeps, with-body-keeps, with-expression-keeps}
use Rattle.es_valid_arrows.proofs.ArrowSteps.{arrows_alone}

-- RULES

-- where `this` is no label
abbrev pub Unlabeled : List Ancestor → Tree → Type 0
Unlabeled up t = same_type (kind_of t) ThisExpression ≡ true → stands_in LabeledStatement 0 up ≡ false

pub record TurnedLawful (o : EnvOptions) (R : Site → Ledger → Spot → Ledger → Spot → Type 0) : Type 0 where
  pub at_nodes : (n : Site) (s s' : Ledger) (t u : Tree) (a : Sort) (up : List Ancestor) (arrow parameter reaches : Bool) → (is_slot n.above ≡ true → a ≡ s-Expression) → (is_slot n.above ≡ true → SlotHead up) → Unlabeled up t → R n s (at_node t) s' (at_node u) → has_form a t ≡ true → ArrowsFit o arrow parameter reaches t → Keeps up t → NodeKept true n up t u

module _ (o : EnvOptions) where
  other-turned : (R : Site → Ledger → Spot → Ledger → Spot → Type 0) → PlaceLawful R → TurnedLawful o R
  other-turned R law = record { at_nodes = λ n s s' t u a up arrow parameter reaches slot head label h f fit k. law.at_nodes true n s s' t u a up slot head h f k }

  arrow-turned : TurnedLawful o ArrowRule
  arrow-turned = record { at_nodes = nodes }
    where
      nodes : (n : Site) (s s' : Ledger) (t u : Tree) (a : Sort) (up : List Ancestor) (arrow parameter reaches : Bool) → (is_slot n.above ≡ true → a ≡ s-Expression) → (is_slot n.above ≡ true → SlotHead up) → Unlabeled up t → ArrowRule n s (at_node t) s' (at_node u) → has_form a t ≡ true → ArrowsFit o arrow parameter reaches t → Keeps up t → NodeKept true n up t u
      nodes n s s' t u a up arrow parameter reaches slot head label (by_name {l = l} {x = x} {s = symbol} reads belongs reached found used below) f fit k = record { keeps = placed-keeps up l _ (label refl); seen = inl (named refl) }
      nodes n s s' t u a up arrow parameter reaches slot head label (by_new_name {w = w} {l = l} {x = x} reads belongs reached fresh) f fit k = record { keeps = placed-keeps up l (next_name w x) (label refl); seen = inl (named refl) }
      nodes n s s' t u a up arrow parameter reaches slot head label (with_body {l = l} {m = m} {ps = ps} {fs = fs} no_this) f fit k = record { keeps = with-body-keeps o up l ps (node FunctionBody m fs) arrow parameter reaches fit k; seen = inl (function refl) }
      nodes n s s' t u a up arrow parameter reaches slot head label (with_expression {l = l} {ps = ps} {e = e} expression no_this) f fit k = record { keeps = with-expression-keeps o up l ps e arrow parameter reaches fit k; seen = inl (function refl) }

  pub arrows-turned : TurnedLawful o (arrows_alone o)
  arrows-turned = record { at_nodes = nodes }
    where
      others : TurnedLawful o (alone o)
      others = other-turned (alone o) (both-lawful (under-lawful o) (both-lawful (on-lawful o.es2019.optional_catch_binding _ catch-lawful) (on-lawful (is_some o.es2018.object_rest_spread) _ (both-lawful spread-lawful rest-assignment-lawful))))

      on-turned : (b : Bool) → TurnedLawful o (where_on b ArrowRule)
      on-turned true = arrow-turned
      on-turned false = record { at_nodes = λ n s s' t u a up arrow parameter reaches slot head label d f fit k. absurd d }

      nodes : (n : Site) (s s' : Ledger) (t u : Tree) (a : Sort) (up : List Ancestor) (arrow parameter reaches : Bool) → (is_slot n.above ≡ true → a ≡ s-Expression) → (is_slot n.above ≡ true → SlotHead up) → Unlabeled up t → arrows_alone o n s (at_node t) s' (at_node u) → has_form a t ≡ true → ArrowsFit o arrow parameter reaches t → Keeps up t → NodeKept true n up t u
      nodes n s s' t u a up arrow parameter reaches slot head label (inl h) f fit k = others.at_nodes n s s' t u a up arrow parameter reaches slot head label h f fit k
      nodes n s s' t u a up arrow parameter reaches slot head label (inr h) f fit k = (on-turned (is_some o.es2015.arrow_function)).at_nodes n s s' t u a up arrow parameter reaches slot head label h f fit k
