-- Steps break no static rule in programs whose arrows can become functions.
use Rattle.std.proofs.Common.{◌≡◌, refl, sym, ap, subst, ◌∙◌, [], ◌∷◌}
use Rattle.std.specs.Prelude.{◌||◌, Bool, true, false}
use Rattle.std.proofs.lemmas.Bool.{and_parts}
use Rattle.es_tree.specs.Ancestors.{visits}
use Rattle.es_tree.specs.DeclaredNames.{is_same_name}
use Rattle.es_tree.specs.HasForm.{has_form, same_type, trees_form}
use Rattle.es_tree.specs.Tree.{Tree, node, Trees, kind_of}
use Rattle.es_tree.specs.Words.{Text}
use Rattle.es_tree.specs.declared.ast_type.AstType.TheVariants.{Program}
use Rattle.es_tree.specs.declared.options.EnvOptions.{EnvOptions}
use Rattle.es_tree.specs.declared.place.Namespace.TheVariants.{Scope}
use Rattle.es_tree.specs.declared.table.Sort.TheVariants.{Program as s-Program, Statement as s-Statement}
use Rattle.es_tree.proofs.NodeForm.{node_form}
use Rattle.es_steps.specs.Laws.{IsWellBound, nothing_beside}
use Rattle.es_steps.specs.NamespaceExports.{NamespaceRule}
use Rattle.es_steps.specs.Open.{Open, after_imports, list, ◌and◌, ends, finished, finished_field, finished_fields, finished_trees, is_body, opened, pending_statements, whole_list}
use Rattle.es_steps.specs.Rules.{either_rule}
use Rattle.es_steps.specs.Steps.{Whole, Ledger, the_program, Step, Steps}
use Rattle.es_steps.specs.Steps.Step.{acts, inside}
use Rattle.es_steps.specs.Steps.Steps.{stays, goes}
use Rattle.es_steps.proofs.BridgeInclusion.{all_under}
use Rattle.es_steps.proofs.FormLists.{after-rest}
use Rattle.es_steps.proofs.Opened.{finished-opened}
use Rattle.es_valid_steps.proofs.FieldForms.{arrow-first, node-have}
use Rattle.es_valid_steps.proofs.ProgramLists.{ProgramExported, program-exported}
use Rattle.es_valid_steps.proofs.ProgramLists.ProgramExported.{at_list as in_the_list}
use Rattle.es_valid_steps.proofs.Spread.{finished-spread, spread}
use Rattle.es_valid_steps.proofs.SpreadSteps.{SameBoth, Went, spread-step}
use Rattle.es_valid_steps.proofs.SpreadSteps.Went.{moves, rests, leaves}
use Rattle.es_valid_steps.proofs.Visits.{law_among_proof, law_places_proof}
use Rattle.es_valid_names.specs.Laws.{declared_breaks}
use Rattle.es_valid_names.proofs.BareNames.{law_declared_among_proof, law_together_proof}
use Rattle.es_valid_names.proofs.Claims.{Clear, above, claims_all, claims_by, elsewhere, is_owned, outside, owned}
use Rattle.es_valid_names.proofs.ClearPending.{after-clear, whole-clear}
use Rattle.es_valid_names.proofs.ClearRules.{use_in}
use Rattle.es_valid_names.proofs.ExportClashes.{same-exports}
use Rattle.es_valid_names.proofs.ExportPlaces.{exported_in}
use Rattle.es_valid_names.proofs.ExportStatements.{program-exports}
use Rattle.es_valid_names.proofs.ExportTexts.{lists}
use Rattle.es_valid_names.proofs.MoreAround.{Allows, clear-more-by, grown-any}
use Rattle.es_valid_names.proofs.NameSteps.{around, clear-breaks, clear-exports, start-clear, top-says}
use Rattle.es_valid_names.proofs.OneMore.{OneMore, more-before, more-behind, one-any, one-apart, one-found}
use Rattle.es_valid_names.proofs.ProgramNames.{bound_there, list-more, program_list}
use Rattle.es_valid_names.proofs.StartUsed.{start-used}
use Rattle.es_resolution.proofs.Basics.{bytes_eq-self}
use Rattle.es_valid_arrows.specs.Laws.{IsArrowResult, LawArrowRules, LawArrowsReached, with_arrows}
use Rattle.es_valid_arrows.proofs.ArrowReads.{law_arrow_outside_proof}
use Rattle.es_valid_arrows.proofs.ArrowSteps.{OnTheWay, arrows_alone, arrows-apart, arrows-wide, arrows-written, law_arrow_form_proof, one-step as formed-step, same-source, source-begins}
use Rattle.es_valid_arrows.proofs.FitPrograms.{law_arrows_fit_proof}
use Rattle.es_valid_arrows.proofs.NamedEdges.{edges-binding, node-lists}
use Rattle.es_valid_arrows.proofs.NamedRules.{arrows-named}
use Rattle.es_valid_arrows.proofs.NamedSteps.{fields-after, in-node, inside-grown}
use Rattle.es_valid_arrows.proofs.PlacePrograms.{law_arrow_places_proof}
use Rattle.es_valid_arrows.proofs.Wide.{IsListed}

-- a program on the way that keeps the rules
abbrev IsClear : Ledger → Open → Type 0
IsClear s x = Clear (around (use_in s) (finished x)) elsewhere (finished x)

program-kind : (t : Tree) → has_form s-Program t ≡ true → same_type (kind_of t) Program ≡ true
program-kind (node k l fs) f = at (same_type k Program) (node_form s-Program k l fs f).sort
  where
    at : (b : Bool) → (b || false) ≡ true → b ≡ true
    at true e = refl
    at false e = e

-- A NAMESPACE EXPORT in the list of a program

same-there : (x : Text) → is_same_name Scope 1 x (bound_there x) ≡ true
same-there x = bytes_eq-self x

program-clear : {s s' : Ledger} {x y : Open} → ProgramExported s s' x y → OnTheWay s x → OnTheWay s' y → IsClear s x → IsClear s' y
program-clear {s} {s'} (in_the_list {o = o} {z = z} {c = c} {l = l} {d = d} {p = p} {q = q} {x = x} {y = y} {a = a} {b = b} {ts = ts} {us = us} h) g left k =
    let old = finished_fields (d and (list p x a ts and ends)) in
    let new = finished_fields (d and (list q y b us and ends)) in
    let parts = and_parts _ _ (node_form s-Program Program l old g.formed).children in
    let list_form = (and_parts (trees_form s-Statement s-Statement (whole_list p x a (finished_trees ts))) true parts.1).0 in
    let r = list-more h (after-rest s-Statement (pending_statements p x a) (finished_trees ts) list_form) in
    let plain : IsListed p x a = g.wide.1.0.0 in
    let same : pending_statements q y b ≡ pending_statements p x a = λ i. pending_statements (r.pending i) (r.this i) (r.top i) in
    let list : OneMore (bound_there r.text) (claims_all is_owned (program_list l) (whole_list p x a (finished_trees ts))) (claims_all is_owned (program_list l) (whole_list q y b (finished_trees us))) =
    subst (λ (bs : Trees). OneMore (bound_there r.text) (claims_all is_owned (program_list l) (whole_list p x a (finished_trees ts))) (claims_all is_owned (program_list l) (after_imports bs (finished_trees us)))) (sym same) (r.around l (pending_statements p x a)) in
    let more : OneMore (bound_there r.text) (owned elsewhere Program l old) (owned elsewhere Program l new) = more-behind (claims_by is_owned (above Program l old 0 1 ∷ []) (finished_field d)) (more-before [] list) in
    let before = around (use_in s) (node Program l old) in
    let after = around (use_in s') (node Program l new) in
    let allows : Allows before after = record { used = r.more; privates = λ v e. e; top = λ v e. top-says Program l new left.formed v ∙ one-any (is_same_name Scope 1 v) more [] (sym (top-says Program l old g.formed v) ∙ e) } in
    let found : after.top r.text ≡ true = top-says Program l new left.formed r.text ∙ one-found (is_same_name Scope 1 r.text) (same-there r.text) more [] in
    let statements_clear = r.clear before after allows found (after-clear before elsewhere (pending_statements p x a) (finished_trees ts) k.2.1.0) in (
      one-apart (use_in s) (use_in s') (bound_there r.text) r.new r.more more k.0,
      refl,
      (clear-more-by before after allows elsewhere (finished_field d) k.2.0, (whole-clear after elsewhere q y b (finished_trees us) plain.vars.names (r.pending ∙ plain.vars.are) (r.top ∙ plain.top) statements_clear, tt)),
    )

-- STEPS

module _ (o : EnvOptions) where
  alone-step : {s s' : Ledger} {t u : Open} → Step (arrows_alone o) the_program s t s' u → OnTheWay s t → OnTheWay s' u → IsClear s t → IsClear s' u
  alone-step (acts {s = s} {s' = s'} t u h) g left k =
      let formed = subst (λ (x : Tree). has_form s-Program x ≡ true) (finished-opened t) g.formed in
      let r = (arrows-named o).at_nodes the_program s s' t u s-Program (λ e. absurd (cc e)) h formed (subst (λ (x : Tree). has_form s-Program x ≡ true) (finished-opened u) left.formed) in
      absurd (let e = program-kind t formed in let d = r.inside in cc (d, e))
  alone-step (inside {s = s} {s' = s'} {k = k} {l = l} {fs = fs} {gs = gs} h) g left clear =
      let old = finished_fields fs in
      let new = finished_fields gs in
      let r = fields-after (arrows_alone o) (arrows-wide o) (arrows-named o) h g.named k (is_body k) 0 (arrow-first k) g.wide (edges-binding s-Program k l old g.formed) (node-lists s-Program k l old g.formed) (node-have the_program s-Program k l fs g.formed) in
      let kept = in-node s-Program s s' k l old new g.formed r in
      let grown = inside-grown s s' k l old new (edges-binding s-Program k l old g.formed) r (outside elsewhere k) 1 in
      let allows : Allows (around (use_in s) (node k l old)) (around (use_in s') (node k l new)) = record { used = r.names.more; privates = λ x e. e; top = λ x e. top-says k l new left.formed x ∙ grown-any (is_same_name Scope 1 x) grown [] [] (λ d. d) (sym (top-says k l old g.formed x) ∙ e) } in
      kept.clear (around (use_in s) (node k l old)) (around (use_in s') (node k l new)) refl refl allows elsewhere (λ e. refl) clear

  one-step : {s s' : Ledger} {t u : Open} → Step (either_rule (arrows_alone o) NamespaceRule) the_program s t s' u → OnTheWay s (spread t) → IsClear s (spread t) → IsClear s' (spread u)
  one-step {s} {s'} {t} {u} h g k = at (spread-step (arrows_alone o) NamespaceRule (arrows-wide o).no_flanks (arrows-written o) h)
    where
      left : OnTheWay s' (spread u)
      left = formed-step o h g

      at : Went (Step (arrows_alone o) the_program s (spread t) s' (spread u)) (SameBoth s (spread t) s' (spread u)) (Step NamespaceRule the_program s t s' u) → IsClear s' (spread u)
      at (moves r) = alone-step r g left k
      at (rests e) = subst (λ (x : Open). IsClear s' x) e.1 (subst (λ (z : Ledger). IsClear z (spread t)) e.0 k)
      at (leaves r) = program-clear (program-exported r (subst (λ (x : Tree). has_form s-Program x ≡ true) (finished-spread t) g.formed)) g left k

  in-a-row : {s s' : Ledger} {t u : Open} → Steps (Step (either_rule (arrows_alone o) NamespaceRule) the_program) s t s' u → OnTheWay s (spread t) → IsClear s (spread t) → IsClear s' (spread u)
  in-a-row stays g k = k
  in-a-row (goes h rest) g k = in-a-row rest (formed-step o h g) (one-step h g k)

  arrow-clear : (t : Tree) (w w' : Whole) (x : Open) → has_form s-Program t ≡ true → declared_breaks t ≡ [] → IsWellBound w t → Steps (Step (with_arrows o) the_program) (nothing_beside w) (opened t) (nothing_beside w') x → Clear (around w'.in_use (finished x)) elsewhere (finished x)
  arrow-clear t w w' x f e bound steps =
      let start = subst (λ (y : Tree). Clear (around w.in_use y) elsewhere y) (sym (same-source t)) (start-clear w.in_use t f e (start-used w.in_use w.free_symbol t f bound.named)) in
      subst (λ (y : Tree). Clear (around w'.in_use y) elsewhere y) (finished-spread x) (in-a-row (all_under (with_arrows o) (either_rule (arrows_alone o) NamespaceRule) (arrows-apart o) steps) (source-begins t w f) start)

-- THE LAWS

pub law_arrow_rules_proof : LawArrowRules
law_arrow_rules_proof o t w w' x f fit e bound steps =
    let declared = law_declared_among_proof t e in
    let places = law_among_proof t e in
    let formed = law_arrow_form_proof o t w w' x f steps in
    let kept = law_arrow_places_proof o t w w' x f fit places steps in
    let clear = arrow-clear o t w w' x f declared bound steps in
    let same : exported_in (visits [] 0 (finished x)) ≡ exported_in (visits [] 0 t) =
    program-exports (finished x) formed ((law_places_proof (finished x)).to_places kept) ∙ ap lists (law_arrow_outside_proof o t w w' x f steps).exports ∙ sym (program-exports t f ((law_places_proof t).to_places places)) in
    law_together_proof (finished x) kept
    (same-exports t (finished x) declared same (clear-breaks w'.in_use (finished x) formed clear) (clear-exports w'.in_use (finished x) formed clear))

pub law_arrows_reached_proof : LawArrowsReached
law_arrows_reached_proof o p q w w' f fit e bound steps = subst (λ (y : Tree). IsArrowResult o p y) (finished-opened q) (record {
  form = law_arrow_form_proof o p w w' (opened q) f steps;
  kept = law_arrow_rules_proof o p w w' (opened q) f fit e bound steps;
  outside = law_arrow_outside_proof o p w w' (opened q) f steps;
  fits = law_arrows_fit_proof o p w w' (opened q) f fit steps;
})
