-- Steps of arrows and of the other rules keep module requests and exported names: a `this` that becomes a name stands in an arrow, off
-- which nothing is read.
use Rattle.std.proofs.Common.{◌≡◌, ℕ, inl, inr, refl, sym, ap, subst, ◌∙◌, List}
use Rattle.std.specs.Prelude.{◌⊎◌, ◌&&◌, ◌||◌, not, Bool, true, false, is_some}
use Rattle.es_tree.specs.Ancestors.{Ancestor, ancestor}
use Rattle.es_tree.specs.HasForm.{has_form, is_of_sort, same_type}
use Rattle.es_tree.specs.Tree.{Tree, Trees}
use Rattle.es_tree.specs.Words.{Text}
use Rattle.es_tree.specs.declared.ast_type.AstType.{AstType}
use Rattle.es_tree.specs.declared.ast_type.AstType.TheVariants.{ArrowFunctionExpression, Program}
use Rattle.es_tree.specs.declared.options.EnvOptions.{EnvOptions}
use Rattle.es_tree.specs.declared.table.Sort.TheVariants.{Program as s-Program}
use Rattle.es_semantic.proofs.FormEdges.{same-kind}
use Rattle.es_steps.specs.Arrows.{ArrowRule}
use Rattle.es_steps.specs.Arrows.ArrowRule.{by_name, by_new_name, with_body, with_expression}
use Rattle.es_steps.specs.CoreRules.{where_on}
use Rattle.es_steps.specs.Laws.{nothing_beside}
use Rattle.es_steps.specs.NamespaceExports.{NamespaceRule}
use Rattle.es_steps.specs.Open.{Open, opened, finished}
use Rattle.es_steps.specs.Rules.{either_rule}
use Rattle.es_steps.specs.Steps.{Whole, Ledger, Site, Spot, the_program, Step, Steps}
use Rattle.es_steps.specs.Steps.Spot.{at_node}
use Rattle.es_steps.specs.Steps.Steps.{stays as no_more, goes}
use Rattle.es_steps.specs.ThisPlaces.{belongs_to_arrow, keeps_this}
use Rattle.es_steps.proofs.BridgeInclusion.{all_under}
use Rattle.es_valid_steps.specs.Laws.{statements_of}
use Rattle.es_valid_steps.proofs.FurtherSteps.{alone}
use Rattle.es_valid_steps.proofs.ProgramLists.{program-exported}
use Rattle.es_valid_steps.proofs.Spread.{finished-spread, spread}
use Rattle.es_valid_steps.proofs.SpreadSteps.{SameBoth, Went, spread-step}
use Rattle.es_valid_steps.proofs.SpreadSteps.Went.{moves, rests, leaves}
use Rattle.es_module_names.specs.Modules.{exported, request, star_request, texts_among}
use Rattle.es_module_names.proofs.Held.{is_unread}
use Rattle.es_module_names.proofs.HeldSteps.{Hides, ReadLawful, Unseen, named-read}
use Rattle.es_module_names.proofs.ProgramLists.{IsReading, exported-reading, exported-texts-after, request-reading, star-reading, texts-after, top-imports}
use Rattle.es_module_names.proofs.RuleKinds.{BothQuiet, both-lawful, catch-lawful, on-lawful, rest-assignment-lawful, spread-lawful, under-lawful}
use Rattle.es_valid_arrows.specs.Laws.{LawArrowOutside, with_arrows}
use Rattle.es_valid_arrows.proofs.ArrowSteps.{OnTheWay, arrows_alone, arrows-apart, arrows-wide, arrows-written, one-step as formed-step, same-source, source-begins}
use Rattle.es_valid_arrows.proofs.Wide.{program-wide}

-- WHAT BELONGS TO AN ARROW is hidden

arrow-unread : (k : AstType) (i : ℕ) → k ≡ ArrowFunctionExpression → is_unread k i ≡ true
arrow-unread k i e = ap (λ j. is_unread j i) e

no-arrow : (k : AstType) → is_of_sort s-Program k ≡ true → same_type k ArrowFunctionExpression ≡ false
no-arrow Program e = refl
no-arrow _ e = absurd (cc e)

arrow-hides : Hides belongs_to_arrow
arrow-hides = record { inwards = λ up k l fs i e. inwards up k i (keeps_this (ancestor k l fs i 0)) (same_type k ArrowFunctionExpression) refl e; program = λ up k l fs i sort e. around up (keeps_this (ancestor k l fs i 0)) (same_type k ArrowFunctionExpression) (no-arrow k sort) e }
  where
    inwards : (up : List Ancestor) (k : AstType) (i : ℕ) (kept arrow : Bool) → same_type k ArrowFunctionExpression ≡ arrow → (not kept && (arrow || belongs_to_arrow up)) ≡ true → (is_unread k i ≡ true) ⊎ (belongs_to_arrow up ≡ true)
    inwards up k i true arrow d e = absurd (cc e)
    inwards up k i false true d e = inl (arrow-unread k i (same-kind k ArrowFunctionExpression d))
    inwards up k i false false d e = inr e

    around : (up : List Ancestor) (kept arrow : Bool) → arrow ≡ false → (not kept && (arrow || belongs_to_arrow up)) ≡ true → belongs_to_arrow up ≡ true
    around up true arrow d e = absurd (cc e)
    around up false true d e = absurd (cc d)
    around up false false d e = e

-- RULES

arrow-read : ReadLawful belongs_to_arrow ArrowRule
arrow-read = record { at_nodes = nodes }
  where
    nodes : (n : Site) (s s' : Ledger) (t u : Tree) → ArrowRule n s (at_node t) s' (at_node u) → BothQuiet t u ⊎ Unseen belongs_to_arrow n.above
    nodes n s s' t u (by_name reads belongs reaches found used below) = inr (inr belongs)
    nodes n s s' t u (by_new_name reads belongs reaches fresh) = inr (inr belongs)
    nodes n s s' t u (with_body none) = inl (record { acted = refl; left = refl })
    nodes n s s' t u (with_expression e none) = inl (record { acted = refl; left = refl })

on-read : (b : Bool) (R : Site → Ledger → Spot → Ledger → Spot → Type 0) → ReadLawful belongs_to_arrow R → ReadLawful belongs_to_arrow (where_on b R)
on-read true R h = h
on-read false R h = record { at_nodes = λ n s s' t u d. absurd d }

arrows-read : (o : EnvOptions) → ReadLawful belongs_to_arrow (arrows_alone o)
arrows-read o = record { at_nodes = nodes }
  where
    alone-read : ReadLawful belongs_to_arrow (alone o)
    alone-read = named-read belongs_to_arrow (alone o) (both-lawful (under-lawful o) (both-lawful (on-lawful o.es2019.optional_catch_binding _ catch-lawful) (on-lawful (is_some o.es2018.object_rest_spread) _ (both-lawful spread-lawful rest-assignment-lawful))))

    nodes : (n : Site) (s s' : Ledger) (t u : Tree) → arrows_alone o n s (at_node t) s' (at_node u) → BothQuiet t u ⊎ Unseen belongs_to_arrow n.above
    nodes n s s' t u (inl h) = alone-read.at_nodes n s s' t u h
    nodes n s s' t u (inr h) = (on-read (is_some o.es2015.arrow_function) ArrowRule arrow-read).at_nodes n s s' t u h

-- STEPS

module _ (read : Tree → List Text) (r : IsReading read) where
  abbrev Texts : Trees → List Text
  Texts ts = texts_among read ts

  module _ (o : EnvOptions) where
    one-step : {s s' : Ledger} {t u : Open} → Step (either_rule (arrows_alone o) NamespaceRule) the_program s t s' u → OnTheWay s (spread t) → Texts (statements_of (finished (spread u))) ≡ Texts (statements_of (finished (spread t)))
    one-step {s} {s'} {t} {u} h g = at (spread-step (arrows_alone o) NamespaceRule (arrows-wide o).no_flanks (arrows-written o) h)
      where
        at : Went (Step (arrows_alone o) the_program s (spread t) s' (spread u)) (SameBoth s (spread t) s' (spread u)) (Step NamespaceRule the_program s t s' u) → Texts (statements_of (finished (spread u))) ≡ Texts (statements_of (finished (spread t)))
        at (moves step) = texts-after read r top-imports belongs_to_arrow arrow-hides (arrows_alone o) (arrows-wide o) (arrows-read o) step (λ e. absurd (cc e)) (λ e. absurd (cc e)) g.wide (formed-step o h g).wide g.formed
        at (rests e) = sym (ap (λ x. Texts (statements_of (finished x))) e.1)
        at (leaves step) =
            let export = program-exported step (subst (λ (x : Tree). has_form s-Program x ≡ true) (finished-spread t) g.formed) in
            exported-texts-after read r top-imports export g.wide (program-wide export g.wide g.formed).proper

    in-a-row : {s s' : Ledger} {t u : Open} → Steps (Step (either_rule (arrows_alone o) NamespaceRule) the_program) s t s' u → OnTheWay s (spread t) → Texts (statements_of (finished (spread u))) ≡ Texts (statements_of (finished (spread t)))
    in-a-row no_more g = refl
    in-a-row (goes h rest) g = in-a-row rest (formed-step o h g) ∙ one-step h g

    source-texts : {w w' : Whole} (t : Tree) {x : Open} → Steps (Step (with_arrows o) the_program) (nothing_beside w) (opened t) (nothing_beside w') x → has_form s-Program t ≡ true → Texts (statements_of (finished x)) ≡ Texts (statements_of t)
    source-texts {w} t {x} h f =
        sym (ap (λ y. Texts (statements_of y)) (finished-spread x)) ∙ in-a-row (all_under (with_arrows o) (either_rule (arrows_alone o) NamespaceRule) (arrows-apart o) h) (source-begins t w f) ∙ ap (λ y. Texts (statements_of y)) (same-source t)

-- THE LAW

pub law_arrow_outside_proof : LawArrowOutside
law_arrow_outside_proof o t w w' x f steps = record {
  requests = source-texts request request-reading o t steps f;
  stars = source-texts star_request star-reading o t steps f;
  exports = source-texts exported exported-reading o t steps f;
}
