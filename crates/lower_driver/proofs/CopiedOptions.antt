-- Options that are the same ask for the same.
use Rattle.std.proofs.Common.{◌≡◌, ℕ, suc, ◌+◌, refl, sym, ap, ◌∙◌, subst, List, Option, inl, inr}
use Rattle.std.specs.Prelude.{◌||◌, ◌&&◌, Bool, is_some, not}
use Rattle.std.specs.Option.{option_or}
use Rattle.es_tree.specs.Constructs.{has_enabled_construct}
use Rattle.es_tree.specs.Options.{first_fault}
use Rattle.es_tree.specs.Tree.{Tree, node, Label, Fields, done, ◌then◌, Field, missing, one, many, statements, Trees, empty, ◌before◌}
use Rattle.es_tree.specs.declared.ast_type.AstType.{AstType}
use Rattle.es_tree.specs.declared.ast_type.AstType.TheVariants.{ObjectExpression}
use Rattle.es_tree.specs.declared.options.EnvOptions.{EnvOptions}
use Rattle.es_semantic.specs.Places.{Place, outermost, own_scope, own_scope_count, place_in, scope_count_in, scope_count_in_field}
use Rattle.es_semantic.specs.SymbolsOf.{Declared, symbols_of}
use Rattle.es_steps.specs.Arrows.{ArrowRule}
use Rattle.es_steps.specs.CoreBridge.{Reached}
use Rattle.es_steps.specs.CoreRules.{rows_under, rule_under, where_on}
use Rattle.es_steps.specs.NamespaceExports.{NamespaceRule}
use Rattle.es_steps.specs.OptionalCatch.{CatchRule}
use Rattle.es_steps.specs.AllRules.{ObjectRule}
use Rattle.es_steps.specs.Slots.{holds, is_slot}
use Rattle.es_steps.specs.Steps.{Ledger, Site, Spot, Whole}
use Rattle.es_steps.specs.Steps.Spot.{at_node}
use Rattle.es_steps.specs.WrapRule.{WrapRule, is_wrapped_for}
use Rattle.es_steps.specs.WrapRule.WrapRule.{wraps}
use Rattle.es_steps.proofs.BridgeInclusion.{all_under}
use Rattle.es_valid_steps.specs.Laws.{with_further_rules}
use Rattle.es_conditions.specs.CoreConditions.{is_in_chain}
use Rattle.es_reached.specs.Reached.{built_rules}
use Rattle.es_statement_steps.specs.Orders.{in_order, is_in_order}
use Rattle.es_unsupported.specs.ArrowShapes.{binds_arguments, refers_by}
use Rattle.es_unsupported.specs.FirstUnsupported.{first_of, first_of_field, first_of_fields, first_of_trees, first_unsupported, found_at}
use Rattle.es_unsupported.specs.NodePlaces.{node_place_in, place_shape, program_place}
use Rattle.es_unsupported.specs.Shapes.{shape_at}
use Rattle.es_helper_calls.specs.Importing.{first_unimported}
use Rattle.lower_driver.specs.Copies.{IsCopy}
use Rattle.lower_driver.specs.UnsupportedPrograms.{first_refused}
use Rattle.es_unsupported.specs.declared.node_places.NodePlace.{NodePlace}

module _ (o c : EnvOptions) (copy : IsCopy o c) where
  pub copied-fault : first_fault c ≡ first_fault o
  copied-fault = λ i.
      first_fault
      (record c { es2015 = copy.es2015 i; es2017 = copy.es2017 i; es2018 = copy.es2018 i; assumptions = copy.assumptions i; helper_loader = record c.helper_loader { mode = copy.mode i } })

  pub copied-enabled : (t : Tree) → has_enabled_construct c t ≡ has_enabled_construct o t
  copied-enabled t = λ i.
      has_enabled_construct
      (record c { es2015 = copy.es2015 i; es2016 = copy.es2016 i; es2018 = copy.es2018 i; es2019 = copy.es2019 i; es2020 = copy.es2020 i; es2021 = copy.es2021 i; es2026 = copy.es2026 i }) t

  -- SHAPES

  copied-shape : (ds : List Declared) (up : List ℕ) (k : AstType) (l : Label) (fs : Fields) → shape_at c ds up k l fs ≡ shape_at o ds up k l fs
  copied-shape ds up k l fs = λ i. shape_at (record c { es2016 = copy.es2016 i; es2018 = copy.es2018 i; es2020 = copy.es2020 i; es2026 = copy.es2026 i; helper_loader = record c.helper_loader { mode = copy.mode i } }) ds up k l fs

  copied-place-shape : (q : NodePlace) (refers : Bool) (k : AstType) (l : Label) (fs : Fields) → place_shape c q refers k l fs ≡ place_shape o q refers k l fs
  copied-place-shape q refers k l fs = λ i. place_shape (record c { es2015 = copy.es2015 i; es2018 = copy.es2018 i }) q refers k l fs

  copied-place : (binds : Bool) (q : NodePlace) (k : AstType) (l : Label) (fs : Fields) (i : ℕ) (f : Field) → node_place_in c binds q k l fs i f ≡ node_place_in o binds q k l fs i f
  copied-place binds q k l fs j f = λ i. node_place_in (record c { es2015 = copy.es2015 i; es2016 = copy.es2016 i; es2018 = copy.es2018 i; es2020 = copy.es2020 i; es2021 = copy.es2021 i }) binds q k l fs j f

  copied-places : (binds : Bool) (q : NodePlace) (k : AstType) (l : Label) (fs : Fields) → ◌≡◌ {A = ℕ → Field → NodePlace} (node_place_in c binds q k l fs) (node_place_in o binds q k l fs)
  copied-places binds q k l fs = λ j i f. copied-place binds q k l fs i f j

  module _ (ds : List Declared) where
    mutual
      copied-first : (p : Place) (q : NodePlace) (n : ℕ) (t : Tree) → first_of c ds p q n t ≡ first_of o ds p q n t
      copied-first p q n (node k l fs) =
          let binds = binds_arguments ds (own_scope n k fs) k in
          (λ i. option_or (found_at l.id (option_or (copied-shape ds p.around k l fs i) (copied-place-shape q (refers_by p.role) k l fs i))) (first_of_fields c ds (place_in p n k l fs) (copied-places binds q k l fs i) (n + own_scope_count k fs) fs))
          ∙ ap (λ later. option_or (found_at l.id (option_or (shape_at o ds p.around k l fs) (place_shape o q (refers_by p.role) k l fs))) later) (copied-first-in (place_in p n k l fs) (node_place_in o binds q k l fs) (n + own_scope_count k fs) fs)

      copied-first-in : (ps : ℕ → Place) (qs : ℕ → Field → NodePlace) (n : ℕ) (fs : Fields) → first_of_fields c ds ps qs n fs ≡ first_of_fields o ds ps qs n fs
      copied-first-in ps qs n done = refl
      copied-first-in ps qs n (f then fs) = λ i. option_or (copied-first-by (ps 0) (qs 0 f) n f i) (copied-first-in (λ j. ps (suc j)) (λ j. qs (suc j)) (n + scope_count_in_field f) fs i)

      copied-first-by : (p : Place) (q : NodePlace) (n : ℕ) (f : Field) → first_of_field c ds p q n f ≡ first_of_field o ds p q n f
      copied-first-by p q n missing = refl
      copied-first-by p q n (one t) = copied-first p q n t
      copied-first-by p q n (many ts) = copied-first-among p q n ts
      copied-first-by p q n (statements ts) = copied-first-among p q n ts

      copied-first-among : (p : Place) (q : NodePlace) (n : ℕ) (ts : Trees) → first_of_trees c ds p q n ts ≡ first_of_trees o ds p q n ts
      copied-first-among p q n empty = refl
      copied-first-among p q n (t before ts) = λ i. option_or (copied-first p q n t i) (copied-first-among p q (n + scope_count_in t) ts i)

  pub copied-unsupported : (p : Tree) → first_unsupported c p ≡ first_unsupported o p
  copied-unsupported p = copied-first (symbols_of p) (outermost p) program_place 1 p

  pub copied-refused : (made : Bool) (own : Option ℕ) (p : Tree) → first_refused c made own p ≡ first_refused o made own p
  copied-refused made own p = λ i. option_or (copied-unsupported p i) (first_unimported (record c { es2018 = copy.es2018 i; helper_loader = record c.helper_loader { mode = copy.mode i } }) made own p)

  -- RULES

  copied-wrapped : (k : AstType) (l : Label) (fs : Fields) → is_wrapped_for c k l fs ≡ is_wrapped_for o k l fs
  copied-wrapped k l fs = λ i. is_wrapped_for (record c { es2016 = copy.es2016 i; es2018 = copy.es2018 i; es2020 = copy.es2020 i; es2021 = copy.es2021 i }) k l fs

  copied-wraps : (n : Site) (s s' : Ledger) (x y : Spot) → WrapRule c n s x s' y → WrapRule o n s x s' y
  copied-wraps n s s' x y (wraps {e = t} r e slot held) = wraps r e slot (sym (ap (λ (test : AstType → Label → Fields → Bool). holds test t) (λ i k l fs. copied-wrapped k l fs i)) ∙ held)

  copied-rows : (n : Site) (s s' : Ledger) (x y : Spot) → rows_under c n s x s' y → rows_under o n s x s' y
  copied-rows n s s' x y h = subst (λ (z : Type 0). z) (λ i. rows_under (record c { es2016 = copy.es2016 i; es2020 = copy.es2020 i; es2021 = copy.es2021 i; assumptions = copy.assumptions i }) n s x s' y) h

  copied-rule : (n : Site) (s : Ledger) (x : Spot) (s' : Ledger) (y : Spot) → rule_under c n s x s' y → rule_under o n s x s' y
  copied-rule n s x s' y (inl w) = inl w
  copied-rule n s x s' y (inr (inl w)) = inr (inl (copied-wraps n s s' x y w))
  copied-rule n s x s' y (inr (inr r)) = inr (inr (copied-rows n s s' x y r))

  copied-further : (n : Site) (s : Ledger) (x : Spot) (s' : Ledger) (y : Spot) → with_further_rules c n s x s' y → with_further_rules o n s x s' y
  copied-further n s x s' y (inl r) = inl (copied-rule n s x s' y r)
  copied-further n s x s' y (inr (inl h)) = inr (inl (subst (λ (z : Type 0). z) (λ i. where_on (copy.es2019 i).optional_catch_binding CatchRule n s x s' y) h))
  copied-further n s x s' y (inr (inr (inl h))) = inr (inr (inl (subst (λ (z : Type 0). z) (λ i. where_on (copy.es2020 i).export_namespace_from NamespaceRule n s x s' y) h)))
  copied-further n s x s' y (inr (inr (inr h))) = inr (inr (inr (subst (λ (z : Type 0). z) (λ i. where_on (is_some (copy.es2018 i).object_rest_spread) ObjectRule n s x s' y) h)))

  pub copied-built : (n : Site) (s : Ledger) (x : Spot) (s' : Ledger) (y : Spot) → built_rules c n s x s' y → built_rules o n s x s' y
  copied-built n s x s' y (inl r) = inl (copied-further n s x s' y r)
  copied-built n s x s' y (inr h) = inr (subst (λ (z : Type 0). z) (λ i. where_on (is_some (copy.es2015 i).arrow_function) ArrowRule n s x s' y) h)

  copied-order : (n : Site) (x : Spot) → is_in_order c n x ≡ is_in_order o n x
  copied-order n (at_node (node ObjectExpression l fs)) = λ i. is_slot n.above || not ((copy.es2020 i).optional_chaining && is_in_chain n.above)
  copied-order n (at_node (node _ l fs)) = refl
  copied-order n _ = refl

  pub copied-in-order : (n : Site) (s : Ledger) (x : Spot) (s' : Ledger) (y : Spot) → in_order c n s x s' y → in_order o n s x s' y
  copied-in-order n s x s' y h = (copied-built n s x s' y h.0, sym (copied-order n x) ∙ h.1)

  abbrev pub copied-reached : (p q : Tree) (w : Whole) (names : List _) → Reached (in_order c) p w names q → Reached (in_order o) p w names q
  copied-reached p q w names h = record { whole = h.whole; steps = all_under (in_order c) (in_order o) copied-in-order h.steps; made = h.made }
