-- Where a step of one rule at a node is steps of another at that node, a step of it in what has form is steps of the other there: wherever the node
-- stands, for rules that act at nodes and ask for no names, the other of which keeps form.
use Rattle.std.proofs.Common.{◌≡◌, ◌∙◌, ℕ, zero, suc, refl, sym, ap, subst, List, [], ◌∷◌}
use Rattle.std.specs.Prelude.{Bool, true, false, Option, None, Some}
use Rattle.std.proofs.lemmas.Bool.{and_parts}
use Rattle.es_tree.specs.Attributes.{child_entries}
use Rattle.es_tree.specs.HasForm.{ElementsPlace, element_form, elements_form, elements_of, field_form, fields_form, has_form, match_option, sort_before_fields, sort_before_trees, trees_form}
use Rattle.es_tree.specs.Tree.{Tree, Label, Fields, Field, kind_of, node}
use Rattle.es_tree.specs.declared.ast_type.AstType.{AstType}
use Rattle.es_tree.specs.declared.ast_type.AstType.TheVariants.{FunctionBody}
use Rattle.es_tree.specs.declared.table.Entry.{Entry}
use Rattle.es_tree.specs.declared.table.Sort.{Sort}
use Rattle.es_tree.specs.declared.table.Sort.TheVariants.{ArrowFunctionBody as s-ArrowFunctionBody, Expression as s-Expression, Program as s-Program}
use Rattle.es_tree.proofs.NodeForm.{node_form}
use Rattle.es_resolution.specs.Declarations.{is_var_scope}
use Rattle.es_semantic.specs.RolesOf.{reads}
use Rattle.es_changes.proofs.Expressions.{body-expression}
use Rattle.es_changes.proofs.StepRows.{steps-map}
use Rattle.es_steps.specs.Open.{Open, OpenField, OpenFields, OpenTrees, Pending, child, children, finished, finished_field, finished_fields, finished_trees, is_body, is_statement_body, opened, pending_statements, whole_list, written_body, ◌and◌, ◌next◌}
use Rattle.es_steps.specs.Sites.{IsLocal}
use Rattle.es_steps.specs.Slots.{is_slot}
use Rattle.es_steps.specs.Steps.{FieldStep, FieldsStep, Ledger, Site, Spot, Step, Steps, TreesStep, outline, site_in, site_in_body}
use Rattle.es_steps.specs.Steps.FieldStep.{acts_on_body, acts_on_list, in_body, in_child, in_children, in_list, in_program, in_target}
use Rattle.es_steps.specs.Steps.FieldsStep.{in_first, in_later}
use Rattle.es_steps.specs.Steps.Spot.{at_beside, at_body, at_list, at_node}
use Rattle.es_steps.specs.Steps.Step.{acts, inside}
use Rattle.es_steps.specs.Steps.Steps.{goes, stays}
use Rattle.es_steps.specs.Steps.TreesStep.{acts_on_flanked, after_flanked, flanks, in_flanked, in_head, in_tail}
use Rattle.es_steps.proofs.FormLists.{IsPlainList, after-rest, body-inside}
use Rattle.es_steps.proofs.FormOpen.{AreProperTrees, AreTidyFields, Holds, IsProper, IsProperField, element-holds, entry-holds, opened-proper}
use Rattle.es_steps.proofs.FormPlaces.{all-take, arrow-sort, elements-sort, entries_take, slot-sort, sort_in}
use Rattle.es_steps.proofs.FormRules.{AtNodes, FormLawful}
use Rattle.es_steps.proofs.FormSteps.{formed-after}
use Rattle.es_steps.proofs.Opened.{finished-opened}
use Rattle.es_rest_rows.specs.Laws.{AtNode}
use Rattle.es_rest_steps.proofs.RowsInside.{body-row, list-row, no_names, program-row, row-inside, target-row}

-- BY THE TABLE a node's fields have form, or as the elements of an array

not-slot : s-Program ≡ s-Expression → ⊥
not-slot e = absurd (cc e)

not-arrow : s-Program ≡ s-ArrowFunctionBody → ⊥
not-arrow e = absurd (cc e)

module _ (n : Site) (k : AstType) (l : Label) (fs : OpenFields) (Found : Type 0) where
  abbrev ByEntries : Type 0
  ByEntries = ((i : ℕ) → is_slot (site_in n k l fs i).above ≡ true → sort_in k l (child_entries k) i ≡ s-Expression) → ((i : ℕ) → is_body k i ≡ true → sort_in k l (child_entries k) i ≡ s-ArrowFunctionBody) → entries_take (child_entries k) ≡ true → fields_form k l (child_entries k) (finished_fields fs) ≡ true → Found

  abbrev ByElements : Type 0
  ByElements = (a last : Sort) → ((i : ℕ) → is_slot (site_in n k l fs i).above ≡ true → ⊥) → ((i : ℕ) → is_body k i ≡ true → ⊥) → elements_form a last (finished_fields fs) ≡ true → Found

  by-option : ByEntries → ByElements → (o : Option ElementsPlace) → elements_of (child_entries k) ≡ o → match_option o (fields_form k l (child_entries k) (finished_fields fs)) (λ p. elements_form p.sort p.last (finished_fields fs)) ≡ true → Found
  by-option entries elements None e f = entries (slot-sort n.above k l (outline fs)) (arrow-sort k l) (all-take k) f
  by-option entries elements (Some p) e f =
      let slots : (i : ℕ) → is_slot (site_in n k l fs i).above ≡ true → ⊥ = λ i d. not-slot (sym (elements-sort k l (child_entries k) p i e) ∙ slot-sort n.above k l (outline fs) i d) in
      let arrows : (i : ℕ) → is_body k i ≡ true → ⊥ = λ i d. not-arrow (sym (elements-sort k l (child_entries k) p i e) ∙ arrow-sort k l i d) in
      elements p.sort p.last slots arrows f

  by-table : ByEntries → ByElements → (a : Sort) → has_form a (node k l (finished_fields fs)) ≡ true → Found
  by-table entries elements a f = by-option entries elements (elements_of (child_entries k)) refl (node_form a k l (finished_fields fs) f).children

same-body : (k : AstType) (l : Label) (fs gs : Fields) → is_statement_body (node k l gs) ≡ is_statement_body (node k l fs)
same-body FunctionBody l fs gs = refl
same-body _ l fs gs = refl

no-statements : (t : Tree) → is_var_scope (kind_of t) ≡ false → is_statement_body t ≡ false
no-statements (node FunctionBody l fs) e = absurd (cc e)
no-statements (node _ l fs) e = refl

-- an open tree that has form, for which no more is pending than may be
pub record Formed (a : Sort) (t : Open) : Type 0 where
  pub form : has_form a (finished t) ≡ true
  pub proper : IsProper t

pub formed-opened : (a : Sort) (t : Tree) → has_form a t ≡ true → Formed a (opened t)
formed-opened a t f = record { form = subst (λ (x : Tree). has_form a x ≡ true) (sym (finished-opened t)) f; proper = opened-proper t }

record FormedBody (t : Open) : Type 0 where
  form : Formed s-ArrowFunctionBody t
  expression : is_statement_body (finished t) ≡ false

module _ (P : Site → Ledger → Spot → Ledger → Spot → Type 0) (law : FormLawful P) (local : IsLocal (λ s. no_names) P) (bodies : (n : Site) (s s' : Ledger) (t u : Tree) → P n s (at_node t) s' (at_node u) → is_statement_body u ≡ is_statement_body t) where
  -- FORM, kept by steps in a row

  formed-step : {n : Site} {s s' : Ledger} {t u : Open} (a : Sort) → (is_slot n.above ≡ true → a ≡ s-Expression) → Step P n s t s' u → Formed a t → Formed a u
  formed-step a slot h f = let r = formed-after P law h a slot f.proper f.form in record { form = r.formed; proper = r.proper }

  pub formed-row : {n : Site} {s s' : Ledger} {t u : Open} (a : Sort) → (is_slot n.above ≡ true → a ≡ s-Expression) → Steps (Step P n) s t s' u → Formed a t → Formed a u
  formed-row a slot stays f = f
  formed-row a slot (goes h rest) f = formed-row a slot rest (formed-step a slot h f)

  -- BODIES of arrows that are expressions

  body-stays : {n : Site} {s s' : Ledger} {t u : Open} → Step P n s t s' u → is_statement_body (finished u) ≡ is_statement_body (finished t)
  body-stays (acts {n = n} {s = s} {s' = s'} t u h) = ap is_statement_body (finished-opened u) ∙ bodies n s s' t u h ∙ sym (ap is_statement_body (finished-opened t))
  body-stays (inside {k = k} {l = l} {fs = fs} {gs = gs} h) = same-body k l (finished_fields fs) (finished_fields gs)

  module _ (n : Site) (role : n.role ≡ reads) (slot : is_slot n.above ≡ true → s-ArrowFunctionBody ≡ s-Expression) (up : Pending) (tree : Tree) where
    body-after : (s s' : Ledger) (t u : Open) → Step P (site_in_body n up tree) s t s' u → FormedBody t → FormedBody u
    body-after s s' t u h k = record { form = formed-step s-ArrowFunctionBody slot h k.form; expression = body-stays h ∙ k.expression }

  -- A RULE whose step at a node is steps of this one there

  module _ (R : Site → Ledger → Spot → Ledger → Spot → Type 0) (only : (n : Site) (s s' : Ledger) (x y : Spot) → R n s x s' y → AtNodes x y) (row : (n : Site) (s s' : Ledger) (t u : Tree) → AtNode R n s t s' u → Steps (AtNode P n) s t s' u) where
    mutual
      pub tree-steps : {n : Site} {s s' : Ledger} {t u : Open} → Step R n s t s' u → (a : Sort) → (is_slot n.above ≡ true → a ≡ s-Expression) → IsProper t → has_form a (finished t) ≡ true → Steps (Step P n) s t s' u
      tree-steps (acts {n = n} {s = s} {s' = s'} t u h) a slot proper f = steps-map opened (λ s s' x y r. acts x y r) (row n s s' t u h)
      tree-steps (inside {n = n} {s = s} {s' = s'} {k = k} {l = l} {fs = fs} {gs = gs} h) a slot proper f =
          row-inside P local n k l (by-table n k l fs (Steps (FieldsStep P (site_in n k l fs)) s fs s' gs) (λ slots arrows takes g. entries-steps h k l (child_entries k) (is_body k) slots arrows takes proper g) (λ b last slots arrows g. elements-steps h b last (is_body k) slots arrows proper g) a f)

      entries-steps : {c : ℕ → Site} {s s' : Ledger} {fs gs : OpenFields} → FieldsStep R c s fs s' gs → (k : AstType) (l : Label) (es : List Entry) (bodies : ℕ → Bool) → ((i : ℕ) → is_slot (c i).above ≡ true → sort_in k l es i ≡ s-Expression) → ((i : ℕ) → bodies i ≡ true → sort_in k l es i ≡ s-ArrowFunctionBody) → entries_take es ≡ true → AreTidyFields IsPlainList bodies fs → fields_form k l es (finished_fields fs) ≡ true → Steps (FieldsStep P c) s fs s' gs
      entries-steps (in_first h) k l [] bodies slots arrows takes proper f = absurd (cc f)
      entries-steps (in_first {c = c} {f = x} {g = y} {fs = fs} h) k l (e ∷ es) bodies slots arrows takes proper f =
          let parts = and_parts (field_form k l e.content (finished_field x)) (fields_form k l es (finished_fields fs)) f in
          let took = and_parts _ (entries_take es) takes in
          steps-map (λ g. g and fs) (λ s s' x y r. in_first r) (field-steps h (field_form k l e.content) (bodies zero) (entry-holds k l (c zero) (bodies zero) e.content (slots zero) (arrows zero) took.0) proper.0 parts.0)
      entries-steps (in_later h) k l [] bodies slots arrows takes proper f = absurd (cc f)
      entries-steps (in_later {c = c} {f = x} {fs = fs} {gs = gs} h) k l (e ∷ es) bodies slots arrows takes proper f =
          let parts = and_parts (field_form k l e.content (finished_field x)) (fields_form k l es (finished_fields fs)) f in
          let took = and_parts _ (entries_take es) takes in
          steps-map (λ gs. x and gs) (λ s s' x y r. in_later r) (entries-steps h k l es (λ i. bodies (suc i)) (λ i. slots (suc i)) (λ i. arrows (suc i)) took.1 proper.1 parts.1)

      elements-steps : {c : ℕ → Site} {s s' : Ledger} {fs gs : OpenFields} → FieldsStep R c s fs s' gs → (a last : Sort) (bodies : ℕ → Bool) → ((i : ℕ) → is_slot (c i).above ≡ true → ⊥) → ((i : ℕ) → bodies i ≡ true → ⊥) → AreTidyFields IsPlainList bodies fs → elements_form a last (finished_fields fs) ≡ true → Steps (FieldsStep P c) s fs s' gs
      elements-steps (in_first {c = c} {f = x} {g = y} {fs = fs} h) a last bodies slots arrows proper f =
          let b = sort_before_fields a last (finished_fields fs) in
          let parts = and_parts (element_form b (finished_field x)) (elements_form a last (finished_fields fs)) f in
          steps-map (λ g. g and fs) (λ s s' x y r. in_first r) (field-steps h (element_form b) (bodies zero) (element-holds b (c zero) (bodies zero) (slots zero) (arrows zero)) proper.0 parts.0)
      elements-steps (in_later {c = c} {f = x} {fs = fs} {gs = gs} h) a last bodies slots arrows proper f =
          let parts = and_parts (element_form (sort_before_fields a last (finished_fields fs)) (finished_field x)) (elements_form a last (finished_fields fs)) f in
          steps-map (λ gs. x and gs) (λ s s' x y r. in_later r) (elements-steps h a last (λ i. bodies (suc i)) (λ i. slots (suc i)) (λ i. arrows (suc i)) proper.1 parts.1)

      field-steps : {n : Site} {s s' : Ledger} {f g : OpenField} → FieldStep R n s f s' g → (test : Field → Bool) (b : Bool) → Holds test n b → IsProperField b f → test (finished_field f) ≡ true → Steps (FieldStep P n) s f s' g
      field-steps (in_child {t = t} {u = u} h) test b holds proper f =
          let m = holds.at_one (finished t) f in
          steps-map child (λ s s' x y r. in_child r) (tree-steps h m.sort m.slot proper m.formed)
      field-steps (in_children {ts = ts} {us = us} h) test b holds proper f =
          let m = holds.at_many (finished_trees ts) f in
          steps-map children (λ s s' x y r. in_children r) (trees-steps h m.sort m.last m.no_slot proper m.formed)
      field-steps (in_body {n = n} {o = o} {p = p} {t = t} {u = u} e y y' h) test b holds proper f =
          let m = holds.at_one (written_body p (finished t)) f in
          let arrow = m.arrow proper.0 in
          let bare = body-inside p (finished t) proper.1 (subst (λ (z : Sort). has_form z (written_body p (finished t)) ≡ true) arrow m.formed) in
          let slot = λ (d : is_slot n.above ≡ true). sym arrow ∙ m.slot d in
          let steps = tree-steps h s-ArrowFunctionBody slot proper.2 bare in
          body-row P local n e p (finished t) FormedBody (body-after n e slot p (finished t)) (λ v k. body-expression (finished v) k.form.form k.expression) o steps (record { form = record { form = bare; proper = proper.2 }; expression = no-statements (finished t) y.no_body })
      field-steps (in_list {n = n} {o = o} {p = p} {y = y} {b = d} {ts = ts} {us = us} e e' h) test b holds proper f =
          let m = holds.at_statements (whole_list p y d (finished_trees ts)) f in
          list-row P n e e' o y d (trees-steps h m.sort m.sort m.no_slot proper.1 (after-rest m.sort (pending_statements p y d) (finished_trees ts) m.formed))
      field-steps (in_target {n = n} {o = o} {p = p} {x = x} {y = y} {b = d} {ts = ts} {us = us} e h) test b holds proper f =
          let m = holds.at_statements (whole_list p y d (finished_trees ts)) f in
          target-row P n e o x d (trees-steps h m.sort m.sort m.no_slot proper.1 (after-rest m.sort (pending_statements p y d) (finished_trees ts) m.formed))
      field-steps (in_program {n = n} {o = o} {p = p} {x = x} {y = y} {a = a} {b = d} {ts = ts} {us = us} e h) test b holds proper f =
          let m = holds.at_statements (whole_list p y d (finished_trees ts)) f in
          program-row P n e o x a (trees-steps h m.sort m.sort m.no_slot proper.1 (after-rest m.sort (pending_statements p y d) (finished_trees ts) m.formed))
      field-steps (acts_on_list {n = n} {s = s} {s' = s'} {p = p} {q = q} {x = x} {y = y} {a = a} {b = d} ts us h) test b holds proper f = absurd (only n s s' (at_list p x a ts) (at_list q y d us) h)
      field-steps (acts_on_body {n = n} {s = s} {s' = s'} {p = p} t u h) test b holds proper f = absurd (only n s s' (at_body p t) (at_node u) h)

      trees-steps : {n : Site} {s s' : Ledger} {ts us : OpenTrees} → TreesStep R n s ts s' us → (a last : Sort) → (is_slot n.above ≡ true → ⊥) → AreProperTrees ts → trees_form a last (finished_trees ts) ≡ true → Steps (TreesStep P n) s ts s' us
      trees-steps (in_head {t = t} {u = u} {ts = ts} h) a last slot proper f =
          let b = sort_before_trees a last (finished_trees ts) in
          let parts = and_parts (has_form b (finished t)) (trees_form a last (finished_trees ts)) f in
          steps-map (λ t. t next ts) (λ s s' x y r. in_head r) (tree-steps h b (λ e. absurd (slot e)) proper.0 parts.0)
      trees-steps (in_tail {t = t} {ts = ts} {us = us} h) a last slot proper f =
          let parts = and_parts (has_form (sort_before_trees a last (finished_trees ts)) (finished t)) (trees_form a last (finished_trees ts)) f in
          steps-map (λ ts. t next ts) (λ s s' x y r. in_tail r) (trees-steps h a last slot proper.1 parts.1)
      trees-steps (in_flanked h) a last slot proper f = absurd proper
      trees-steps (after_flanked h) a last slot proper f = absurd proper
      trees-steps (flanks {n = n} {s = s} {s' = s'} {bs = bs} {cs = cs} t u h) a last slot proper f = absurd (only n s s' (at_node t) (at_beside bs u cs) h)
      trees-steps (acts_on_flanked t us h) a last slot proper f = absurd proper
