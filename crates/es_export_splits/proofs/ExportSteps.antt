-- The exports of a program that are split, from the first on: steps of the rule.
use Rattle.std.proofs.Common.{◌≡◌, refl, sym, ap, subst, ◌∙◌, []}
use Rattle.std.specs.Prelude.{Bool, true, false, if◌then◌else◌}
use Rattle.es_tree.specs.HasForm.{has_form}
use Rattle.es_tree.specs.Names.{first_text}
use Rattle.es_tree.specs.StaticRules.{breaks}
use Rattle.es_tree.specs.Tree.{Tree, node, Label, Fields, done, ◌then◌, Field, many, statements, Trees, empty, ◌before◌, label_of}
use Rattle.es_tree.specs.Words.{Text}
use Rattle.es_tree.specs.declared.ast_type.AstType.TheVariants.{Program, VariableDeclaration}
use Rattle.es_tree.specs.declared.table.Sort.TheVariants.{Program as s-Program}
use Rattle.es_semantic.specs.RolesOf.{binding_of, reads, role_at}
use Rattle.es_semantic.specs.SymbolsOf.{hoists}
use Rattle.es_semantic.specs.declared.place.Binding.{Binding}
use Rattle.es_semantic.specs.declared.place.Role.TheVariants.{Binds, Top}
use Rattle.es_resolution.specs.Declarations.{symbol_of}
use Rattle.es_resolution.specs.Resolved.{Place, Resolved, ResolvedAll, ResolvedBy, ResolvedIn, nowhere, place_in}
use Rattle.es_steps.specs.Laws.{IsWellBound, nothing_beside}
use Rattle.es_steps.specs.Nodes.{joined_trees}
use Rattle.es_steps.specs.Open.{OpenFields, is_body, opened, opened_fields}
use Rattle.es_steps.specs.Steps.{Site, Step, Steps, Whole, site_in, the_program}
use Rattle.es_steps.specs.Steps.FieldStep.{acts_on_list}
use Rattle.es_steps.specs.Steps.FieldsStep.{in_first, in_later}
use Rattle.es_steps.specs.Steps.Step.{inside}
use Rattle.es_steps.specs.Steps.Steps.{goes, stays}
use Rattle.es_steps.proofs.Opened.{finished-fields}
use Rattle.es_steps.proofs.StepsKept.{reached-keeps}
use Rattle.es_steps.proofs.Written.{body_place, joined-twice, resolved-parts}
use Rattle.es_module_names.specs.Laws.{SameOutside}
use Rattle.es_reached.proofs.Results.{outside-then}
use Rattle.es_top_imports.specs.Laws.{list_place}
use Rattle.es_top_imports.proofs.TopForms.{program_with}
use Rattle.es_export_splits.specs.SplitRule.{EachTree, ExportRule, FindsItself, names_of_export}
use Rattle.es_export_splits.specs.SplitRule.ExportRule.{splits}
use Rattle.es_export_splits.specs.Splits.{export_of, is_split, names_of_declaration, split_before, split_list, text_of, with_symbols}
use Rattle.es_export_splits.proofs.ExportForms.{program-formed}
use Rattle.es_export_splits.proofs.ExportNames.{HandedOn, IsExport, declaration-names, export-is}
use Rattle.es_export_splits.proofs.ExportNames.IsExport.{is_export}
use Rattle.es_export_splits.proofs.ExportRules.{export-lawful, export-writes}
use Rattle.es_export_splits.proofs.ExportStatic.{breaks-none, outside-same}

-- NAMES find themselves in the list that declares them: there a `var` declares, too

module _ (l : Label) (d : Field) (ts : Trees) where
  abbrev here : Place
  here = list_place (program_with l d ts)

  abbrev FoundHere : Tree → Type 0
  FoundHere x = here.scope (text_of x) ≡ symbol_of (label_of x)

  module _ (b : Binding) where
    where-declared : (x : Text) (v : Bool) → (if v then here.hoist x else here.scope x) ≡ here.scope x
    where-declared x true = refl
    where-declared x false = refl

    found-handed : HandedOn FoundHere (Resolved (Binds b) (body_place here)) (ResolvedBy (Binds b) (body_place here)) (ResolvedAll (Binds b) (body_place here)) (ResolvedIn (λ i. Binds b) (λ i. body_place here))
    found-handed = record {
      names = λ m fs h. sym (h.0.0 ∙ where-declared (first_text m.texts) (hoists b));
      objects = λ m f fs h. h.2.0;
      properties = λ m f g fs h. h.2.1.0;
      defaults = λ m f fs h. h.2.0;
      rests = λ m f fs h. h.2.0;
      arrays = λ m fs h. h.2;
      elements = λ f fs h. h;
      child = λ t h. h;
      children = λ us h. h;
      list = λ us h. h;
      more = λ t us h. h;
    }

  found-here : (t : Tree) → IsExport t → Resolved Top here t → EachTree FoundHere (names_of_export t)
  found-here t (is_export m k ds fs) h =
      let b = binding_of (first_text k.texts) in
      declaration-names (found-handed b) {D = Resolved (Binds b) (body_place here)} {Ds = ResolvedAll (Binds b) (body_place here)} (λ n p gs r. r.2.0) (λ u us r. r) k ds fs h.2.0.2.0

-- ONE STEP

module _ (l : Label) (d : Field) (before_it after_it : Trees) (t : Tree) (e : is_split t ≡ true) where
  abbrev old_list : Trees
  old_list = joined_trees before_it (t before after_it)

  abbrev new_list : Trees
  new_list = joined_trees before_it (split_before with_symbols t after_it)

  abbrev old : Tree
  old = program_with l d old_list

  abbrev new : Tree
  new = program_with l d new_list

  -- the site of the list
  abbrev old_fields : Fields
  old_fields = d then (statements old_list then done)

  abbrev open_fields : OpenFields
  open_fields = opened_fields (is_body Program) old_fields

  abbrev n : Site
  n = site_in the_program Program l open_fields 1

  place-same : list_place old ≡ n.names
  place-same = ap (λ (fs : Fields). place_in nowhere Program l (role_at reads Program l fs) fs 1) (sym (finished-fields (is_body Program) old_fields))

  the-step : (w : Whole) → IsWellBound w old → Step ExportRule the_program (nothing_beside w) (opened old) (nothing_beside w) (opened new)
  the-step w bound =
      let list = resolved-parts Top (list_place old) before_it (t before after_it) bound.resolved.2.1.0 in
      let found = found-here l d old_list t (export-is t e) list.1.0 in
      let found-there : EachTree (FindsItself n) (names_of_export t) = subst (λ (p : Place). EachTree (λ x. p.scope (text_of x) ≡ symbol_of (label_of x)) (names_of_export t)) place-same found in
      inside (in_later (in_first (acts_on_list old_list new_list (splits before_it after_it t refl e found-there))))

-- STEPS, from the first statement on

module _ (l : Label) (d : Field) (w : Whole) where
  -- what is known of a program of this list
  pub record Ready (ts : Trees) : Type 0 where
    pub form : has_form s-Program (program_with l d ts) ≡ true
    pub kept : breaks (program_with l d ts) ≡ []
    pub bound : IsWellBound w (program_with l d ts)

  -- and where steps lead from it
  pub record Reached (ts us : Trees) : Type 0 where
    pub steps : Steps (Step ExportRule the_program) (nothing_beside w) (opened (program_with l d ts)) (nothing_beside w) (opened (program_with l d us))
    pub ready : Ready us
    pub outside : SameOutside (program_with l d ts) (program_with l d us)

  ready-after : (before_it after_it : Trees) (t : Tree) → is_split t ≡ true → Ready (joined_trees before_it (t before after_it)) → Ready (joined_trees before_it (split_before with_symbols t after_it))
  ready-after before_it after_it t e h =
      let it = export-is t e in
      record {
        form = program-formed l d before_it after_it t it h.form;
        kept = breaks-none l d before_it after_it t it w h.form h.kept h.bound.named;
        bound = reached-keeps ExportRule export-lawful export-writes (program_with l d (joined_trees before_it (t before after_it))) (program_with l d (joined_trees before_it (split_before with_symbols t after_it))) w w refl h.bound (goes (the-step l d before_it after_it t e w h.bound) stays);
      }

  abbrev Leads : Trees → Type 0
  Leads ts = (before_it : Trees) → Ready (joined_trees before_it ts) → Reached (joined_trees before_it ts) (joined_trees before_it (split_list with_symbols ts))

  -- behind some statements more
  behind : (ts : Trees) → Leads ts → (before_it bs : Trees) → Ready (joined_trees before_it (joined_trees bs ts)) → Reached (joined_trees before_it (joined_trees bs ts)) (joined_trees before_it (joined_trees bs (split_list with_symbols ts)))
  behind ts rest before_it bs h =
      let front = joined_trees before_it bs in
      subst (λ (xs : Trees). Reached xs (joined_trees before_it (joined_trees bs (split_list with_symbols ts)))) (joined-twice before_it bs ts)
      (subst (λ (ys : Trees). Reached (joined_trees front ts) ys) (joined-twice before_it bs (split_list with_symbols ts))
      (rest front (subst (λ (xs : Trees). Ready xs) (sym (joined-twice before_it bs ts)) h)))

  -- the statements that one becomes
  split-behind : (t : Tree) → IsExport t → (ts : Trees) → Leads ts → (before_it : Trees) → Ready (joined_trees before_it (split_before with_symbols t ts)) → Reached (joined_trees before_it (split_before with_symbols t ts)) (joined_trees before_it (split_before with_symbols t (split_list with_symbols ts)))
  split-behind t (is_export m k ds fs) ts rest before_it h =
      let it = node VariableDeclaration k (many ds then fs) in
      behind ts rest before_it (it before export_of with_symbols t (names_of_declaration it) before empty) h

  pub reaches : (ts : Trees) → Leads ts
  reaches empty before_it h = record { steps = stays; ready = h; outside = record { requests = refl; stars = refl; exports = refl } }
  reaches (t before ts) before_it h = at (is_split t) refl (reaches ts)
    where
      first : is_split t ≡ true → Leads ts → Reached (joined_trees before_it (t before ts)) (joined_trees before_it (split_before with_symbols t (split_list with_symbols ts)))
      first e rest =
          let r = split-behind t (export-is t e) ts rest before_it (ready-after before_it ts t e h) in
          record { steps = goes (the-step l d before_it ts t e w h.bound) r.steps; ready = r.ready; outside = outside-then (outside-same l d before_it ts t (export-is t e) h.form) r.outside }

      at : (v : Bool) → is_split t ≡ v → Leads ts → Reached (joined_trees before_it (t before ts)) (joined_trees before_it (if is_split t then split_before with_symbols t (split_list with_symbols ts) else t before split_list with_symbols ts))
      at true e rest = subst (λ (v : Bool). Reached (joined_trees before_it (t before ts)) (joined_trees before_it (if v then split_before with_symbols t (split_list with_symbols ts) else t before split_list with_symbols ts))) (sym e) (first e rest)
      at false e rest = subst (λ (v : Bool). Reached (joined_trees before_it (t before ts)) (joined_trees before_it (if v then split_before with_symbols t (split_list with_symbols ts) else t before split_list with_symbols ts))) (sym e) (behind ts rest before_it (t before empty) h)
