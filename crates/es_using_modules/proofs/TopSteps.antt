-- `using` at the top of a module is lowered by one step of its rule, from the program as it is read with its symbols.
use Rattle.std.proofs.Common.{◌≡◌, refl, sym, ap, ◌∙◌, List, [], ◌∷◌}
use Rattle.std.specs.Prelude.{Bool, true, false, None, codes}
use Rattle.std.proofs.lemmas.Bool.{or_right}
use Rattle.es_tree.specs.Bare.{bare, bare_trees}
use Rattle.es_tree.specs.Fresh.{is_among}
use Rattle.es_tree.specs.HasForm.{has_form}
use Rattle.es_tree.specs.Names.{names_of}
use Rattle.es_tree.specs.StaticRules.{breaks}
use Rattle.es_tree.specs.Tree.{Tree, node, Label, Fields, done, ◌then◌, Field, missing, many, one, statements, Trees, empty, label_of}
use Rattle.es_tree.specs.Words.{Text}
use Rattle.es_tree.specs.declared.ast_type.AstType.TheVariants.{Program}
use Rattle.es_tree.specs.declared.table.Sort.TheVariants.{Program as s-Program}
use Rattle.es_tree.proofs.NodeForm.{node_form}
use Rattle.es_semantic.specs.RolesOf.{reads, role_at}
use Rattle.es_resolution.specs.Laws.{source}
use Rattle.es_resolution.specs.Resolved.{nowhere, place_in}
use Rattle.es_resolution.proofs.Basics.{or_true}
use Rattle.es_resolution.proofs.Forms.{form-placed}
use Rattle.es_steps.specs.Bindings.{Bindings}
use Rattle.es_steps.specs.CoreBridge.{Reached, first_whole, names_among}
use Rattle.es_steps.specs.Laws.{IsWellBound, nothing_beside}
use Rattle.es_steps.specs.Open.{is_body, no_additions, nothing_pending, opened, opened_fields}
use Rattle.es_steps.specs.Rules.{next_name}
use Rattle.es_steps.specs.Steps.{Site, Step, Whole, site_in, the_program}
use Rattle.es_steps.specs.Steps.FieldStep.{acts_on_list}
use Rattle.es_steps.specs.Steps.FieldsStep.{in_first, in_later}
use Rattle.es_steps.specs.Steps.Spot.{at_list}
use Rattle.es_steps.specs.Steps.Step.{inside}
use Rattle.es_steps.specs.Steps.Steps.{goes, stays}
use Rattle.es_steps.specs.UsingBlocks.{error_of, with_context}
use Rattle.es_steps.proofs.Opened.{finished-fields}
use Rattle.es_pattern_moves.specs.Moved.{name_of}
use Rattle.es_reached.proofs.Results.{rules-bare, source-form, source-well-bound}
use Rattle.es_reached.proofs.Sources.{law_bare_source_proof}
use Rattle.es_top_imports.specs.Laws.{list_place}
use Rattle.es_top_imports.proofs.TopForms.{IsProgram, is_program, program-is}
use Rattle.es_using_rows.specs.UsingPlaces.{uses_in_list}
use Rattle.es_using_modules.specs.ModuleTops.{AreFresh, Makes, TopsTo, by_bounds, context_name, plainly, some_default, topped, topped_list, uses_at_top}
use Rattle.es_using_modules.specs.TopRule.{TopRule, with_default}
use Rattle.es_using_modules.specs.TopRule.TopRule.{by_default, without_default}
use Rattle.es_using_modules.proofs.TopBare.{IsBlank, bounds-blank, lists-alike, some-bare, uses-bare}
use Rattle.es_using_modules.proofs.TopBound.{Topped, program_with, rule-binds}

-- PROGRAMS have a list of directives, and one of statements

pub data IsListed : Tree → Type 0 where
  is_listed : (l : Label) (ds ts : Trees) → IsListed (program_with l ds ts)

listed-with : (l : Label) (d : Field) (ts : Trees) → has_form s-Program (node Program l (d then (statements ts then done))) ≡ true → IsListed (node Program l (d then (statements ts then done)))
listed-with l (many ds) ts f = is_listed l ds ts
listed-with l missing ts f = absurd (let no : false ≡ true = (node_form s-Program Program l (missing then (statements ts then done)) f).children in cc no)
listed-with l (one t) ts f = absurd (let no : false ≡ true = (node_form s-Program Program l (one t then (statements ts then done)) f).children in cc no)
listed-with l (statements us) ts f = absurd (let no : false ≡ true = (node_form s-Program Program l (statements us then (statements ts then done)) f).children in cc no)

listed-so : (t : Tree) → IsProgram t → has_form s-Program t ≡ true → IsListed t
listed-so t (is_program l d ts) f = listed-with l d ts f

pub listed : (t : Tree) → has_form s-Program t ≡ true → IsListed t
listed t f = listed-so t (program-is t f) f

abbrev directives_of : Tree → Trees
directives_of (node k l (many ds then fs)) = ds
directives_of _ = empty

abbrev list_of : Tree → Trees
list_of (node k l (f then (statements ts then fs))) = ts
list_of _ = empty

-- THE SITE of the list

module _ (l : Label) (ds ts : Trees) where
  abbrev old_fields : Fields
  old_fields = many ds then (statements ts then done)

  abbrev pub list_site : Site
  list_site = site_in the_program Program l (opened_fields (is_body Program) old_fields) 1

  pub place-same : list_site.names ≡ list_place (program_with l ds ts)
  place-same = ap (λ (fs : Fields). place_in nowhere Program l (role_at reads Program l fs) fs 1) (finished-fields (is_body Program) old_fields)

-- ONE STEP of the rule, from a whole w, by which a program t becomes r and these names are made
pub record ByRule (w : Whole) (names : List Text) (t r : Tree) : Type 0 where
  pub after : Whole
  pub label : Label
  pub directives : Trees
  pub list : Trees
  pub becomes : Trees
  pub was : t ≡ program_with label directives list
  pub now : r ≡ program_with label directives becomes
  pub rule : TopRule (list_site label directives list) (nothing_beside w) (at_list nothing_pending None no_additions list) (nothing_beside after) (at_list nothing_pending None no_additions becomes)
  pub step : Step TopRule the_program (nothing_beside w) (opened t) (nothing_beside after) (opened r)
  pub made : names_among after.made ≡ names
  -- names keep their bindings
  pub topped : Topped w after t r

plainly-blank : (b : Bool) (names : List Text) → IsBlank (name_of names 0) (context_name b names) (plainly b names)
plainly-blank b names = record { context = λ h. refl; error = λ h. refl; word = λ y h. refl; label = λ h texts flags. refl; scope = λ h. refl; again = λ t. refl; text = λ t. refl; export_label = λ t. refl; default = λ t. refl; inside = λ l cl. refl }

module _ (p : Tree) where
  abbrev first : Whole
  first = first_whole p

  helpers-used : first.in_use (codes "babelHelpers") ≡ true
  helpers-used = or_right (is_among (names_of p) (codes "babelHelpers")) true refl

  module _ (l k : Label) (ds ts es us : Trees) (form : has_form s-Program (program_with l ds ts) ≡ true) (kept : breaks (program_with l ds ts) ≡ []) (bound : IsWellBound first (program_with l ds ts)) (helpers : (list_place (program_with l ds ts)).scope (codes "babelHelpers") ≡ None) (uses : uses_in_list ts ≡ true) (other_form : has_form s-Program (program_with k es us) ≡ true) (alike : bare (program_with l ds ts) ≡ bare (program_with k es us)) where
    -- with what it is but for ids and marks
    record Written (b : Bool) (names : List Text) : Type 0 where
      resolved : Tree
      steps : ByRule first names (program_with l ds ts) resolved
      written : bare resolved ≡ bare (topped (plainly b names) (program_with k es us))

    place : (list_site l ds ts).names.scope (codes "babelHelpers") ≡ None
    place = (λ i. (place-same l ds ts i).scope (codes "babelHelpers")) ∙ helpers

    by-rule : (names : List Text) (after : Whole) (vs : Trees) → TopRule (list_site l ds ts) (nothing_beside first) (at_list nothing_pending None no_additions ts) (nothing_beside after) (at_list nothing_pending None no_additions vs) → names_among after.made ≡ names → ByRule first names (program_with l ds ts) (program_with l ds vs)
    by-rule names after vs rule made = record {
      after = after;
      label = l;
      directives = ds;
      list = ts;
      becomes = vs;
      was = refl;
      now = refl;
      rule = rule;
      step = inside (in_later (in_first (acts_on_list ts vs rule)));
      made = made;
      topped = rule-binds (list_site l ds ts) first after nothing_pending nothing_pending None None no_additions no_additions l ds ts vs (place-same l ds ts) rule form kept bound;
    }

    same-trees : (m n : Makes) (x c : Text) → IsBlank x c m → IsBlank x c n → (h h' : Tree) → bare (program_with l ds (topped_list m h ts)) ≡ bare (program_with k es (topped_list n h' us))
    same-trees m n x c b d h h' =
        let lists = lists-alike x c m n b d Program h h' ts us (form-placed (program_with l ds ts) form).1.1.0 (form-placed (program_with k es us) other_form).1.1.0 (ap list_of alike) in
        λ i. node Program (label_of (alike i)) (many (directives_of (alike i)) then (statements (lists i) then done))

    writes : (b : Bool) (names : List Text) → AreFresh first.in_use b names → some_default ts ≡ b → Written b names
    writes true (x ∷ c ∷ []) fresh some =
        let w = with_default x first in
        let d = next_name first x in
        let vs = topped_list (by_bounds d (next_name w c) (error_of w)) (program_with l ds ts) ts in
        record {
          resolved = program_with l ds vs;
          steps = by-rule (x ∷ c ∷ []) (with_context c w) vs (by_default (program_with l ds ts) ts x c uses some fresh.0 (record { top = refl; fresh = fresh.1; helpers = place; helpers_used = or_true (first.in_use (codes "babelHelpers")) _ helpers-used })) refl;
          written = same-trees (by_bounds d (next_name w c) (error_of w)) (plainly true (x ∷ c ∷ [])) x c (bounds-blank d (next_name w c) (error_of w) refl) (plainly-blank true (x ∷ c ∷ [])) (program_with l ds ts) (program_with k es us);
        }
    writes false (c ∷ []) fresh none =
        let d = next_name first c in
        let vs = topped_list (by_bounds d d (error_of first)) (program_with l ds ts) ts in
        record {
          resolved = program_with l ds vs;
          steps = by-rule (c ∷ []) (with_context c first) vs (without_default (program_with l ds ts) ts c uses none (record { top = refl; fresh = fresh; helpers = place; helpers_used = helpers-used })) refl;
          written = same-trees (by_bounds d d (error_of first)) (plainly false (c ∷ [])) c c (bounds-blank d d (error_of first) refl) (plainly-blank false (c ∷ [])) (program_with l ds ts) (program_with k es us);
        }
    writes true _ fresh some = absurd fresh
    writes false _ fresh none = absurd fresh

-- FROM THE SOURCE

-- What a program p becomes by the rule is q: by one step from the source with its symbols, with these names.
pub record Reaches (p q : Tree) (names : List Text) : Type 0 where
  pub resolved : Tree
  pub written : bare resolved ≡ bare q
  pub by_rule : ByRule (first_whole p) names (source p) resolved
  pub reached : Reached TopRule p (first_whole p) names resolved
  pub bindings : Bindings (source p) resolved (first_whole p) reached.whole
  pub bound : IsWellBound reached.whole resolved

record Goes (p t q : Tree) (names : List Text) : Type 0 where
  resolved : Tree
  written : bare resolved ≡ bare q
  by_rule : ByRule (first_whole p) names t resolved

goes-so : (p q t : Tree) (names : List Text) → IsListed t → IsListed p → has_form s-Program p ≡ true → bare t ≡ bare p → has_form s-Program t ≡ true → breaks t ≡ [] → IsWellBound (first_whole p) t → uses_at_top p ≡ true → (list_place t).scope (codes "babelHelpers") ≡ None → TopsTo (first_whole p).in_use p q names → Goes p t q names
goes-so p q t names (is_listed l ds ts) (is_listed k es us) form alike form-there kept bound uses helpers to =
    let lists : bare_trees ts ≡ bare_trees us = ap list_of alike in
    let uses-there : uses_in_list ts ≡ true = sym (uses-bare ts) ∙ ap uses_in_list lists ∙ uses-bare us ∙ uses in
    let some : some_default ts ≡ some_default us = sym (some-bare ts) ∙ ap some_default lists ∙ some-bare us in
    let r = writes p l k ds ts es us form-there kept bound helpers uses-there form alike (some_default us) names to.fresh some in
    record { resolved = r.resolved; written = r.written ∙ sym (ap bare to.tree); by_rule = r.steps }

pub reaches : (p q : Tree) (names : List Text) → has_form s-Program p ≡ true → breaks p ≡ [] → uses_at_top p ≡ true → (list_place (source p)).scope (codes "babelHelpers") ≡ None → TopsTo (first_whole p).in_use p q names → Reaches p q names
reaches p q names form right uses helpers to =
    let there = source-form p form in
    let r = goes-so p q (source p) names (listed (source p) there) (listed p form) form (law_bare_source_proof p) there (rules-bare p (source p) (sym (law_bare_source_proof p)) right) (source-well-bound p form right) uses helpers to in
    record {
      resolved = r.resolved;
      written = r.written;
      by_rule = r.by_rule;
      reached = record { whole = r.by_rule.after; steps = goes r.by_rule.step stays; made = r.by_rule.made };
      bindings = r.by_rule.topped.bindings;
      bound = r.by_rule.topped.bound;
    }
