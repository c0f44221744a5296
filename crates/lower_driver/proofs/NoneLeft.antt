-- Where a visit leaves no construct among the statements of a program, none is left: its directives have none, and exports stand in its
-- own list.
use Rattle.std.proofs.Common.{◌≡◌, ◌∙◌, [], ap, arith, refl, sym, true≢false}
use Rattle.std.specs.Prelude.{Bool, true, false, ◌&&◌, ◌||◌, is_some}
use Rattle.es_tree.specs.Attributes.{child_entries}
use Rattle.es_tree.specs.Constructs.{has_enabled_construct, is_arrow, is_chain, is_enabled_construct, is_enabled_statement, is_exponentiation, is_logical_assignment, is_namespace_export, is_nullish_coalescing, is_object_rest, is_object_spread, is_optional_catch, is_using}
use Rattle.es_tree.specs.HasForm.{is_of_sort, same_type, elements_of, match_option, has_form, elements_form, fields_form, trees_form}
use Rattle.es_tree.specs.RestTargets.{is_rest_assignment}
use Rattle.es_tree.specs.Tree.{Tree, node, Label, Fields, done, ◌then◌, Field, many, statements, Trees, empty, ◌before◌}
use Rattle.es_tree.specs.Walks.{any_node, any_in_trees}
use Rattle.es_tree.specs.declared.ast_type.AstType.{AstType}
use Rattle.es_tree.specs.declared.ast_type.AstType.TheVariants.{Directive, ObjectTarget, Program as k-Program}
use Rattle.es_tree.specs.declared.options.EnvOptions.{EnvOptions}
use Rattle.es_tree.specs.declared.table.Sort.TheVariants.{Program as s-Program, Directive as s-Directive, Statement as s-Statement}
use Rattle.es_tree.proofs.NodeForm.{node_form}
use Rattle.es_valid_steps.specs.Laws.{any_statement}
use Rattle.es_valid_steps.specs.PlaceRules.{place_breaks}
use Rattle.es_valid_steps.proofs.NamespacePlaces.{law_namespace_places_proof}
use Rattle.es_traverse.specs.Laws.{is_construct}
use Rattle.es_traverse.specs.Listed.{any_among, any_listed}
use Rattle.es_rest_rows.specs.Laws.{is_other_construct as rest_others}
use Rattle.es_unsupported.specs.Shapes.{holds_stray, is_unbuilt_node}
use Rattle.es_reached.specs.Unmade.{is_any_logical_assignment, is_any_power, is_sought, of_assigned_rests}
use Rattle.es_reached.specs.Walks.{is_other_construct}
use Rattle.es_statement_steps.specs.Laws.{AssignsNoRest}
use Rattle.lower_driver.specs.Constructs.{is_built_construct, is_lowered_construct, is_lowered_export}
use Rattle.lower_driver.proofs.EitherTest.{any-where, fewer-in-tree, none-of-tree}
use Rattle.es_runs.proofs.Named.{and_left, and_right, or_both, or_first, or_second}

-- CONSTRUCTS THAT ARE NEITHER ARROWS NOR RESTS: the rows that a visit takes away, exports, and what isn't built

regrouped : (a b c d e x s t u : Bool) → ((a || b || c || d || s || t) || (e || x || u)) ≡ (((d || b || c || e || s || t || a) || x) || u)
regrouped a b c d e x s t u = grind arith

module _ (o : EnvOptions) where
  abbrev built_or_export : AstType → Label → Fields → Bool
  built_or_export k l fs = is_built_construct o k l fs || is_lowered_export o k l fs

  abbrev rest_pattern : AstType → Label → Fields → Bool
  rest_pattern k l fs = is_some o.es2018.object_rest_spread && is_object_rest k l fs

  abbrev using_declaration : AstType → Label → Fields → Bool
  using_declaration k l fs = o.es2026.explicit_resource_management && is_using k l fs

  abbrev arrow_function : AstType → Label → Fields → Bool
  arrow_function k l fs = is_some o.es2015.arrow_function && is_arrow k l fs

  abbrev others_or_rest : AstType → Label → Fields → Bool
  others_or_rest k l fs = rest_others o k l fs || rest_pattern k l fs

  in-rows : (k : AstType) (l : Label) (fs : Fields) → is_other_construct o k l fs ≡ (built_or_export k l fs || using_declaration k l fs)
  in-rows k l fs =
      regrouped (o.es2016.exponentiation_operator && is_exponentiation k l fs) (o.es2020.nullish_coalescing_operator && is_nullish_coalescing k l fs) (o.es2020.optional_chaining && is_chain k l fs)
      (o.es2021.logical_assignment_operators && is_logical_assignment k l fs) (o.es2019.optional_catch_binding && is_optional_catch k l fs) (o.es2020.export_namespace_from && is_namespace_export k l fs)
      (is_some o.es2018.object_rest_spread && is_object_spread k l fs) (is_some o.es2018.object_rest_spread && is_rest_assignment k l fs) (o.es2026.explicit_resource_management && is_using k l fs)

  -- where none of these is left
  pub none-other : (t : Tree) → any_node (is_built_construct o) t ≡ false → any_node (is_lowered_export o) t ≡ false → (o.es2026.explicit_resource_management && any_node is_using t) ≡ false → any_node (is_other_construct o) t ≡ false
  none-other t built exports usings =
      none-of-tree built_or_export using_declaration (is_other_construct o) in-rows t (none-of-tree (is_built_construct o) (is_lowered_export o) built_or_export (λ k l fs. refl) t built exports)
      (any-where o.es2026.explicit_resource_management is_using t ∙ usings)

  -- and no arrow, where they are asked for
  beside-rests : (k : AstType) (l : Label) (fs : Fields) → rest_others o k l fs ≡ (is_other_construct o k l fs || arrow_function k l fs)
  beside-rests k l fs =
      swapped (o.es2016.exponentiation_operator && is_exponentiation k l fs) (o.es2020.nullish_coalescing_operator && is_nullish_coalescing k l fs) (o.es2020.optional_chaining && is_chain k l fs)
      (o.es2021.logical_assignment_operators && is_logical_assignment k l fs) (is_some o.es2018.object_rest_spread && is_object_spread k l fs) (is_some o.es2018.object_rest_spread && is_rest_assignment k l fs) (arrow_function k l fs) (is_enabled_statement o k l fs)
    where
      swapped : (a b c d e g f s : Bool) → (a || b || c || d || e || g || f || s) ≡ (((a || b || c || d || e || g) || s) || f)
      swapped a b c d e g f s = grind arith

  pub none-beside-rests : (t : Tree) → any_node (is_other_construct o) t ≡ false → (is_some o.es2015.arrow_function && any_node is_arrow t) ≡ false → any_node (rest_others o) t ≡ false
  none-beside-rests t other arrows = none-of-tree (is_other_construct o) arrow_function (rest_others o) beside-rests t other (any-where (is_some o.es2015.arrow_function) is_arrow t ∙ arrows)

  -- and so no assignment to a pattern with a rest, where that is asked for
  pub none-assigned : is_some o.es2018.object_rest_spread ≡ true → (t : Tree) → any_node (rest_others o) t ≡ false → any_node is_rest_assignment t ≡ false
  none-assigned on = fewer-in-tree is_rest_assignment (rest_others o) (λ k l fs h.
      picked (o.es2016.exponentiation_operator && is_exponentiation k l fs || o.es2020.nullish_coalescing_operator && is_nullish_coalescing k l fs || o.es2020.optional_chaining && is_chain k l fs
      || o.es2021.logical_assignment_operators && is_logical_assignment k l fs || is_some o.es2018.object_rest_spread && is_object_spread k l fs) (is_some o.es2018.object_rest_spread) (is_rest_assignment k l fs) (arrow_function k l fs) (is_enabled_statement o k l fs) on h)
    where
      picked : (first asked assigned next last : Bool) → asked ≡ true → (first || (asked && assigned) || next || last) ≡ false → assigned ≡ false
      picked first asked assigned next last on h = sym (ap (λ b. b && assigned) on) ∙ or_second first (asked && assigned) (or_first (first || (asked && assigned)) next (or_first (first || (asked && assigned) || next) last h))

  -- and no object rest
  in-all : (k : AstType) (l : Label) (fs : Fields) → (rest_others o k l fs || rest_pattern k l fs) ≡ false → is_enabled_construct o k l fs ≡ false
  in-all k l fs h =
      or_first (is_enabled_construct o k l fs) (is_some o.es2018.object_rest_spread && is_rest_assignment k l fs)
      (sym (with-rests (o.es2016.exponentiation_operator && is_exponentiation k l fs) (o.es2020.nullish_coalescing_operator && is_nullish_coalescing k l fs) (o.es2020.optional_chaining && is_chain k l fs)
      (o.es2021.logical_assignment_operators && is_logical_assignment k l fs) (is_some o.es2018.object_rest_spread) (is_object_spread k l fs) (is_rest_assignment k l fs) (is_object_rest k l fs) (arrow_function k l fs) (is_enabled_statement o k l fs)) ∙ h)
    where
      with-rests : (a b c d e x r y f s : Bool) → ((a || b || c || d || (e && x) || (e && r) || f || s) || (e && y)) ≡ (((a || b || c || d || (e && (x || y)) || f) || s) || (e && r))
      with-rests a b c d true x r y f s = grind arith
      with-rests a b c d false x r y f s = grind arith

  pub none-with-rests : (t : Tree) → any_node (rest_others o) t ≡ false → (is_some o.es2018.object_rest_spread && any_node is_object_rest t) ≡ false → has_enabled_construct o t ≡ false
  none-with-rests t others rests =
      fewer-in-tree (is_enabled_construct o) others_or_rest in-all t (none-of-tree (rest_others o) rest_pattern others_or_rest (λ k l fs. refl) t others (any-where (is_some o.es2018.object_rest_spread) is_object_rest t ∙ rests))

  pub none-enabled : (t : Tree) → any_node (is_other_construct o) t ≡ false → (is_some o.es2018.object_rest_spread && any_node is_object_rest t) ≡ false → (is_some o.es2015.arrow_function && any_node is_arrow t) ≡ false → has_enabled_construct o t ≡ false
  none-enabled t other rests arrows = none-with-rests t (none-beside-rests t other arrows) rests

  -- WHERE NOTHING STANDS THAT ISN'T BUILT

  abbrev stray_rest : AstType → Label → Fields → Bool
  stray_rest k l fs = is_some o.es2018.object_rest_spread && holds_stray k l fs

  pub no-usings : (t : Tree) → any_node (is_unbuilt_node o) t ≡ false → (o.es2026.explicit_resource_management && any_node is_using t) ≡ false
  no-usings t h = sym (any-where o.es2026.explicit_resource_management is_using t) ∙ fewer-in-tree using_declaration (is_unbuilt_node o) (λ k l fs e. or_second (stray_rest k l fs) (using_declaration k l fs) e) t h

-- nor is a pattern with a rest assigned to where none stands
not-sought : (a s b c d e g : Bool) → a ≡ false → ((a && s) || (b && false) || (c && false) || (d && false) || (e && false) || (g && false)) ≡ false
not-sought true s b c d e g h = absurd (true≢false h)
not-sought false s b c d e g h = grind arith

-- none comes up where there was none
pub none-came : (on old new : Bool) → (old ≡ false → new ≡ false) → (on && old) ≡ false → (on && new) ≡ false
none-came true old new stays h = stays h
none-came false old new stays h = refl

pub assigns-no-rest : (o : EnvOptions) (p : Tree) → (is_some o.es2018.object_rest_spread && any_node is_object_rest p) ≡ false → AssignsNoRest o p
assigns-no-rest o p = none-came (is_some o.es2018.object_rest_spread) (any_node is_object_rest p) (any_node (is_sought of_assigned_rests) p)
    (fewer-in-tree (is_sought of_assigned_rests) is_object_rest (λ k l fs.
    not-sought (is_object_rest k l fs) (same_type k ObjectTarget) (is_object_spread k l fs) (is_chain k l fs) (is_any_logical_assignment k l fs) (is_any_power k l fs) (is_using k l fs)) p)

-- EXPORTS stand in the list of the program alone

-- whether a statement of a list is such a construct
among-statements : (test : AstType → Label → Fields → Bool) (ts : Trees) → any_statement test ts ≡ any_among test ts
among-statements test empty = refl
among-statements test (t before ts) = ap (λ b. is_construct test t || b) (among-statements test ts)

-- a program that has form and keeps the rules of places, after whose visit no statement is one
pub no-exports : (o : EnvOptions) (l : Label) (d : Field) (ts : Trees) → has_form s-Program (node k-Program l (d then (statements ts then done))) ≡ true → place_breaks (node k-Program l (d then (statements ts then done))) ≡ [] →
    any_listed (is_lowered_export o) (statements ts then done) ≡ false → any_node (is_lowered_export o) (node k-Program l (d then (statements ts then done))) ≡ false
no-exports o l d ts form kept cleared =
    let test = is_lowered_export o in
    (law_namespace_places_proof o.es2020.export_namespace_from (node k-Program l (d then (statements ts then done))) form kept).none (among-statements test ts ∙ or_first (any_among test ts) false cleared)

-- DIRECTIVES HAVE NO PARTS

abbrev ChildrenForm : AstType → Label → Fields → Type 0
ChildrenForm k l fs = match_option (elements_of (child_entries k)) (fields_form k l (child_entries k) fs) (λ p. elements_form p.sort p.last fs) ≡ true

switched_off : (b : Bool) → (b && false) ≡ false
switched_off true = refl
switched_off false = refl

module _ (o : EnvOptions) where
  none_of_rows :
      (o.es2021.logical_assignment_operators && false || o.es2020.nullish_coalescing_operator && false || o.es2020.optional_chaining && false || o.es2019.optional_catch_binding && false || is_some o.es2018.object_rest_spread && false
      || is_some o.es2018.object_rest_spread && false || o.es2016.exponentiation_operator && false) ≡ false
  none_of_rows = λ i.
      switched_off o.es2021.logical_assignment_operators i || switched_off o.es2020.nullish_coalescing_operator i || switched_off o.es2020.optional_chaining i || switched_off o.es2019.optional_catch_binding i
      || switched_off (is_some o.es2018.object_rest_spread) i || switched_off (is_some o.es2018.object_rest_spread) i || switched_off o.es2016.exponentiation_operator i

  directive_clear : (t : Tree) → has_form s-Directive t ≡ true → any_node (is_lowered_construct o) t ≡ false
  directive_clear (node k l fs) h = at k fs (node_form s-Directive k l fs h).sort (node_form s-Directive k l fs h).children
    where
      at : (k : AstType) (fs : Fields) → is_of_sort s-Directive k ≡ true → ChildrenForm k l fs → any_node (is_lowered_construct o) (node k l fs) ≡ false
      at Directive done sort children = or_both (is_lowered_construct o Directive l done) false none_of_rows refl
      at Directive (f then fs) sort children = absurd (cc children)
      at _ fs sort children = absurd (cc sort)

  directives_clear : (ts : Trees) → trees_form s-Directive s-Directive ts ≡ true → any_in_trees (is_lowered_construct o) ts ≡ false
  directives_clear empty h = refl
  directives_clear (t before empty) h = or_both (any_node (is_lowered_construct o) t) false (directive_clear t (and_left (has_form s-Directive t) true h)) refl
  directives_clear (t before (u before ts)) h =
      or_both (any_node (is_lowered_construct o) t) (any_in_trees (is_lowered_construct o) (u before ts))
      (directive_clear t (and_left (has_form s-Directive t) (trees_form s-Directive s-Directive (u before ts)) h))
      (directives_clear (u before ts) (and_right (has_form s-Directive t) (trees_form s-Directive s-Directive (u before ts)) h))

  -- THE WHOLE

  abbrev first_list : Fields → Trees
  first_list (many ts then fs) = ts
  first_list _ = empty

  -- of a program whose directives are those of one that has form
  pub none-written : (l m : Label) (ds es ts us : Trees) → has_form s-Program (node k-Program l (many ds then (statements ts then done))) ≡ true → (many es then done) ≡ (many ds then done) → any_in_trees (is_lowered_construct o) us ≡ false →
      any_node (is_lowered_construct o) (node k-Program m (many es then (statements us then done))) ≡ false
  none-written l m ds es ts us form same free =
      let test = is_lowered_construct o in
      let formed : (trees_form s-Directive s-Directive ds && (trees_form s-Statement s-Statement ts && true)) ≡ true = (node_form s-Program k-Program l (many ds then (statements ts then done)) form).children in
      let front = directives_clear es (ap (trees_form s-Directive s-Directive) (ap first_list same) ∙ and_left (trees_form s-Directive s-Directive ds) (trees_form s-Statement s-Statement ts && true) formed) in
      or_both (test k-Program m (many es then (statements us then done))) (any_in_trees test es || (any_in_trees test us || false)) none_of_rows
      (or_both (any_in_trees test es) (any_in_trees test us || false) front (or_both (any_in_trees test us) false free refl))
