-- Steps of the core rules, of optional catch, namespace exports and object spread, and of rests in assignments break no rule of declared names.
use Rattle.std.proofs.Common.{◌≡◌, refl, sym, ap, subst, ◌∙◌, [], ◌∷◌}
use Rattle.std.specs.Prelude.{true}
use Rattle.std.proofs.lemmas.Bool.{and_parts}
use Rattle.es_tree.specs.Ancestors.{visits}
use Rattle.es_tree.specs.DeclaredNames.{is_same_name}
use Rattle.es_tree.specs.HasForm.{has_form, trees_form}
use Rattle.es_tree.specs.StaticRules.{breaks}
use Rattle.es_tree.specs.Tree.{Tree, node, Trees}
use Rattle.es_tree.specs.Words.{Text}
use Rattle.es_tree.specs.declared.ast_type.AstType.TheVariants.{Program}
use Rattle.es_tree.specs.declared.options.EnvOptions.{EnvOptions}
use Rattle.es_tree.specs.declared.place.Namespace.TheVariants.{Scope}
use Rattle.es_tree.specs.declared.table.Sort.TheVariants.{Program as s-Program, Statement as s-Statement}
use Rattle.es_tree.proofs.NodeForm.{node_form}
use Rattle.es_resolution.proofs.Basics.{bytes_eq-self}
use Rattle.es_steps.specs.Laws.{IsWellBound, nothing_beside}
use Rattle.es_steps.specs.NamespaceExports.{NamespaceRule}
use Rattle.es_steps.specs.Open.{Open, after_imports, list, ◌and◌, ends, finished, finished_field, finished_fields, finished_trees, opened, pending_statements, whole_list}
use Rattle.es_steps.specs.Rules.{either_rule}
use Rattle.es_steps.specs.Steps.{Whole, Ledger, the_program, Step, Steps}
use Rattle.es_steps.specs.Steps.Steps.{stays, goes}
use Rattle.es_steps.proofs.BridgeInclusion.{all_under}
use Rattle.es_steps.proofs.FormLists.{IsPlainList, after-rest}
use Rattle.es_steps.proofs.FormOpen.{IsProper, opened-proper}
use Rattle.es_steps.proofs.Opened.{finished-opened}
use Rattle.es_valid_steps.specs.Laws.{with_further_rules}
use Rattle.es_valid_steps.proofs.FurtherSteps.{alone, alone-form, alone-written, apart, law_further_form_proof, law_further_places_proof}
use Rattle.es_valid_steps.specs.PlaceRules.{place_breaks}
use Rattle.es_valid_steps.proofs.NamespaceRows.{program-left}
use Rattle.es_valid_steps.proofs.ProgramLists.{ProgramExported, program-exported}
use Rattle.es_valid_steps.proofs.ProgramLists.ProgramExported.{at_list as in_the_list}
use Rattle.es_valid_steps.proofs.Spread.{finished-spread, spread, spread-opened}
use Rattle.es_valid_steps.proofs.SpreadSteps.{SameBoth, Went, spread-step}
use Rattle.es_valid_steps.proofs.SpreadSteps.Went.{moves, rests, leaves}
use Rattle.es_valid_steps.proofs.Visits.{law_among_proof, law_places_proof}
use Rattle.es_module_names.proofs.ProgramSteps.{law_outside_proof}
use Rattle.es_valid_names.specs.Laws.{LawExports, LawFurtherRules, LawFurtherRulesReached, LawNames, LawNamesReached, StepsKeepExports, StepsKeepNames, StepsKeepRules, declared_breaks, keeps_exports, name_breaks}
use Rattle.es_valid_names.proofs.BareNames.{law_declared_among_proof, law_together_proof}
use Rattle.es_valid_names.proofs.Claims.{Clear, above, claims_all, claims_by, elsewhere, is_owned, owned}
use Rattle.es_valid_names.proofs.ClearPending.{after-clear, whole-clear}
use Rattle.es_valid_names.proofs.ClearRules.{alone-names, use_in}
use Rattle.es_valid_names.proofs.ExportClashes.{same-exports}
use Rattle.es_valid_names.proofs.ExportPlaces.{exported_in}
use Rattle.es_valid_names.proofs.ExportStatements.{program-exports}
use Rattle.es_valid_names.proofs.ExportTexts.{lists}
use Rattle.es_valid_names.proofs.MoreAround.{Allows, clear-more-by}
use Rattle.es_valid_names.proofs.NameSteps.{Good, around, clear-breaks, clear-exports, one-step as named-step, start-clear, top-says}
use Rattle.es_valid_names.proofs.OneMore.{OneMore, more-before, more-behind, one-any, one-apart, one-found}
use Rattle.es_valid_names.proofs.ProgramNames.{bound_there, list-more, program_list}
use Rattle.es_valid_names.proofs.StartUsed.{start-used}

-- A NAMESPACE EXPORT in the list of the program

same-there : (x : Text) → is_same_name Scope 1 x (bound_there x) ≡ true
same-there x = bytes_eq-self x

pub program-good : {s s' : Ledger} {x y : Open} → ProgramExported s s' x y → Good s x → IsProper y → has_form s-Program (finished y) ≡ true → Good s' y
program-good {s} {s'} (in_the_list {o = o} {z = z} {c = c} {l = l} {d = d} {p = p} {q = q} {x = x} {y = y} {a = a} {b = b} {ts = ts} {us = us} h) g proper formed =
    let old = finished_fields (d and (list p x a ts and ends)) in
    let new = finished_fields (d and (list q y b us and ends)) in
    let parts = and_parts _ _ (node_form s-Program Program l old g.formed).children in
    let list_form = (and_parts (trees_form s-Statement s-Statement (whole_list p x a (finished_trees ts))) true parts.1).0 in
    let r = list-more h (after-rest s-Statement (pending_statements p x a) (finished_trees ts) list_form) in
    let plain : IsPlainList p x a = g.proper.1.0.0 in
    let same : pending_statements q y b ≡ pending_statements p x a = λ i. pending_statements (r.pending i) (r.this i) (r.top i) in
    let list : OneMore (bound_there r.text) (claims_all is_owned (program_list l) (whole_list p x a (finished_trees ts))) (claims_all is_owned (program_list l) (whole_list q y b (finished_trees us))) =
    subst (λ (bs : Trees). OneMore (bound_there r.text) (claims_all is_owned (program_list l) (whole_list p x a (finished_trees ts))) (claims_all is_owned (program_list l) (after_imports bs (finished_trees us)))) (sym same) (r.around l (pending_statements p x a)) in
    let more : OneMore (bound_there r.text) (owned elsewhere Program l old) (owned elsewhere Program l new) = more-behind (claims_by is_owned (above Program l old 0 1 ∷ []) (finished_field d)) (more-before [] list) in
    let before = around (use_in s) (node Program l old) in
    let after = around (use_in s') (node Program l new) in
    let allows : Allows before after = record { used = r.more; privates = λ v e. e; top = λ v e. top-says Program l new formed v ∙ one-any (is_same_name Scope 1 v) more [] (sym (top-says Program l old g.formed v) ∙ e) } in
    let found : after.top r.text ≡ true = top-says Program l new formed r.text ∙ one-found (is_same_name Scope 1 r.text) (same-there r.text) more [] in
    let statements_clear = r.clear before after allows found (after-clear before elsewhere (pending_statements p x a) (finished_trees ts) g.clear.2.1.0) in
    record {
      proper = proper;
      formed = formed;
      clear = (
        one-apart (use_in s) (use_in s') (bound_there r.text) r.new r.more more g.clear.0,
        refl,
        (clear-more-by before after allows elsewhere (finished_field d) g.clear.2.0, (whole-clear after elsewhere q y b (finished_trees us) plain.vars.names (r.pending ∙ plain.vars.are) (r.top ∙ plain.top) statements_clear, tt)),
      );
    }

-- STEPS

module _ (o : EnvOptions) where
  one-step : {s s' : Ledger} {t u : Open} → Step (either_rule (alone o) NamespaceRule) the_program s t s' u → Good s (spread t) → Good s' (spread u)
  one-step {s} {s'} {t} {u} h g = at (spread-step (alone o) NamespaceRule (alone-form o).no_flanks (alone-written o) h)
    where
      at : Went (Step (alone o) the_program s (spread t) s' (spread u)) (SameBoth s (spread t) s' (spread u)) (Step NamespaceRule the_program s t s' u) → Good s' (spread u)
      at (moves r) = named-step (alone o) (alone-form o) (alone-names o) r g
      at (rests e) = subst (λ (x : Open). Good s' x) e.1 (subst (λ (z : Ledger). Good z (spread t)) e.0 g)
      at (leaves r) =
          let export = program-exported r (subst (λ (x : Tree). has_form s-Program x ≡ true) (finished-spread t) g.formed) in
          let left = program-left export g.proper g.formed in
          program-good export g left.proper left.formed

  in-a-row : {s s' : Ledger} {t u : Open} → Steps (Step (either_rule (alone o) NamespaceRule) the_program) s t s' u → Good s (spread t) → Good s' (spread u)
  in-a-row stays g = g
  in-a-row (goes h rest) g = in-a-row rest (one-step h g)

  further-good : (t : Tree) (w w' : Whole) (x : Open) → has_form s-Program t ≡ true → declared_breaks t ≡ [] → IsWellBound w t → Steps (Step (with_further_rules o) the_program) (nothing_beside w) (opened t) (nothing_beside w') x → Good (nothing_beside w') (spread x)
  further-good t w w' x f e bound steps =
      let start : Good (nothing_beside w) (opened t) = record { proper = opened-proper t; formed = subst (λ (y : Tree). has_form s-Program y ≡ true) (sym (finished-opened t)) f; clear = subst (λ (y : Tree). Clear (around w.in_use y) elsewhere y) (sym (finished-opened t)) (start-clear w.in_use t f e (start-used w.in_use w.free_symbol t f bound.named)) } in
      in-a-row (all_under (with_further_rules o) (either_rule (alone o) NamespaceRule) (apart o) steps) (subst (λ (y : Open). Good (nothing_beside w) y) (sym (spread-opened t)) start)

  further-names : StepsKeepNames (with_further_rules o)
  further-names t w w' x f e bound steps =
      let good = further-good t w w' x f e bound steps in
      subst (λ (y : Tree). name_breaks y ≡ []) (finished-spread x) (clear-breaks w'.in_use (finished (spread x)) good.formed good.clear)

  further-exports : StepsKeepExports (with_further_rules o)
  further-exports t w w' x f e bound steps =
      let good = further-good t w w' x f e bound steps in
      subst (λ (y : Tree). keeps_exports y ≡ true) (finished-spread x) (clear-exports w'.in_use (finished (spread x)) good.formed good.clear)

  -- what is exported is what the source exports
  further-same : (t : Tree) (w w' : Whole) (x : Open) → has_form s-Program t ≡ true → place_breaks t ≡ [] → Steps (Step (with_further_rules o) the_program) (nothing_beside w) (opened t) (nothing_beside w') x → exported_in (visits [] 0 (finished x)) ≡ exported_in (visits [] 0 t)
  further-same t w w' x f e steps =
      let formed = law_further_form_proof o t w w' x f steps in
      let kept = law_further_places_proof o t w w' x f e steps in
      program-exports (finished x) formed ((law_places_proof (finished x)).to_places kept) ∙ ap lists (law_outside_proof o t w w' x f steps).exports ∙ sym (program-exports t f ((law_places_proof t).to_places e))

  further-rules : StepsKeepRules (with_further_rules o)
  further-rules t w w' x f e bound steps =
      let declared = law_declared_among_proof t e in
      let places = law_among_proof t e in
      law_together_proof (finished x) (law_further_places_proof o t w w' x f places steps)
      (same-exports t (finished x) declared (further-same t w w' x f places steps) (further-names t w w' x f declared bound steps) (further-exports t w w' x f declared bound steps))

-- THE LAWS

pub law_names_proof : LawNames
law_names_proof = further-names

pub law_names_reached_proof : LawNamesReached
law_names_reached_proof o p q w w' f e bound steps = subst (λ (y : Tree). name_breaks y ≡ []) (finished-opened q) (law_names_proof o p w w' (opened q) f e bound steps)

pub law_exports_proof : LawExports
law_exports_proof = further-exports

pub law_further_rules_proof : LawFurtherRules
law_further_rules_proof = further-rules

pub law_further_rules_reached_proof : LawFurtherRulesReached
law_further_rules_reached_proof o p q w w' f e bound steps = subst (λ (y : Tree). breaks y ≡ []) (finished-opened q) (law_further_rules_proof o p w w' (opened q) f e bound steps)
