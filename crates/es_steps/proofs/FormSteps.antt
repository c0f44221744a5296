-- Steps keep form: by one statement on rules, at whatever places they act.
use Rattle.std.proofs.Common.{◌≡◌, ℕ, zero, suc, refl, sym, ap, subst, ◌∙◌, List, [], ◌∷◌, ◌++◌}
use Rattle.std.specs.Prelude.{Bool, true, Option, Some, None, map}
use Rattle.std.proofs.lemmas.Bool.{and_parts, and_from}
use Rattle.es_tree.specs.Attributes.{child_entries}
use Rattle.es_tree.specs.HasForm.{ElementsPlace, element_form, elements_form, elements_of, field_form, fields_form, has_form, match_option, sort_before_fields, sort_before_trees, trees_form}
use Rattle.es_tree.specs.Tree.{Tree, Label, Fields, ◌then◌, Field, one, many, statements, Trees, ◌before◌}
use Rattle.es_tree.specs.declared.ast_type.AstType.{AstType}
use Rattle.es_tree.specs.declared.table.Entry.{Entry}
use Rattle.es_tree.specs.declared.table.Sort.{Sort}
use Rattle.es_tree.specs.declared.table.Sort.TheVariants.{ArrowFunctionBody as s-ArrowFunctionBody, Expression as s-Expression, Program as s-Program}
use Rattle.es_tree.proofs.NodeForm.{node_form, has_form-node}
use Rattle.es_resolution.specs.Declarations.{Bound}
use Rattle.es_steps.specs.CoreRules.{CoreRule, rule_under}
use Rattle.es_steps.specs.FormLaws.{StepsKeepForm, LawForm, LawFormReached, LawCoreForm}
use Rattle.es_steps.specs.Nodes.{declarator, word}
use Rattle.es_steps.specs.Open.{Additions, Pending, pending_statements, whole_list, with_vars, written_body, is_body, Open, open_node, OpenFields, OpenField, OpenTrees, opened, finished, finished_fields, finished_field, finished_trees}
use Rattle.es_steps.specs.Slots.{is_slot}
use Rattle.es_steps.specs.Steps.{Ledger, Site, Spot, the_program, outline, site_in, Step, FieldsStep, FieldStep, TreesStep, Steps}
use Rattle.es_steps.specs.Steps.Step.{acts, inside}
use Rattle.es_steps.specs.Steps.FieldsStep.{in_first, in_later}
use Rattle.es_steps.specs.Steps.FieldStep.{in_child, in_body, in_children, in_list, in_target, in_program, acts_on_body, acts_on_list}
use Rattle.es_steps.specs.Steps.TreesStep.{in_head, in_tail, in_flanked, after_flanked, flanks, acts_on_flanked}
use Rattle.es_steps.specs.Steps.Steps.{stays, goes}
use Rattle.es_steps.proofs.FormLists.{IsListIn, IsPlain, IsPlainList, Setting, after-rest, body-formed, body-inside, list-formed, temporaries_alone}
use Rattle.es_steps.proofs.FormOpen.{Begins, Holds, IsProper, IsProperField, AreProperTrees, IsTidy, AreTidyFields, IsTidyField, AreTidyTrees, element-holds, entry-holds, opened-proper, opened-tidy, opened-trees-tidy}
use Rattle.es_steps.proofs.FormPlaces.{agree-kept, all-take, arrow-sort, before-fields, before-trees, elements-sort, entries_take, outlined, outlined_field, outlined_trees, slot-sort, sort_in}
use Rattle.es_steps.proofs.FormRows.{AreTexts, both-texts}
use Rattle.es_steps.proofs.FormRules.{FormLawful, LawfulIn, NamesIn, names-in, no-names, nothing-new, core-rule-form, rule-under-form}
use Rattle.es_steps.proofs.Opened.{finished-opened, finished-trees}
use Rattle.es_steps.proofs.Taken.{this_in, top_in}

-- WHAT A STEP LEAVES: it has form, no more is pending than may be, and the outline is the same

module _ (P : Setting) where
  pub record TreeLeft (a : Sort) (s s' : Ledger) (u : Open) : Type 0 where
    pub formed : has_form a (finished u) ≡ true
    pub proper : IsTidy (IsListIn P) u
    pub names : NamesIn P s s'

  record FieldsLeft (test : Fields → Bool) (bodies : ℕ → Bool) (s s' : Ledger) (fs gs : OpenFields) : Type 0 where
    formed : test (finished_fields gs) ≡ true
    proper : AreTidyFields (IsListIn P) bodies gs
    names : NamesIn P s s'
    alike : outlined (finished_fields fs) ≡ outlined (finished_fields gs)

  pub record FieldLeft (test : Field → Bool) (b : Bool) (s s' : Ledger) (f g : OpenField) : Type 0 where
    pub formed : test (finished_field g) ≡ true
    pub proper : IsTidyField (IsListIn P) b g
    pub names : NamesIn P s s'
    pub alike : outlined_field (finished_field f) ≡ outlined_field (finished_field g)

  pub record TreesLeft (a last : Sort) (s s' : Ledger) (ts us : OpenTrees) : Type 0 where
    pub formed : trees_form a last (finished_trees us) ≡ true
    pub proper : AreTidyTrees (IsListIn P) us
    pub names : NamesIn P s s'
    pub alike : outlined_trees (finished_trees ts) ≡ outlined_trees (finished_trees us)
    pub begins : Begins (finished_trees us)

-- WHAT IS PENDING

declarators-more : (bs cs : List Bound) → map declarator bs ++ map declarator cs ≡ map declarator (bs ++ cs)
declarators-more [] cs = refl
declarators-more (b ∷ bs) cs = ap (λ ds. declarator b ∷ ds) (declarators-more bs cs)

pub plain-more : (p q : Pending) (bs : List Bound) → IsPlain p → AreTexts bs → q ≡ with_vars bs p → IsPlain q
plain-more p q bs h texts e = record {
  names = h.names ++ bs;
  texts = both-texts h.names bs h.texts texts;
  are = e ∙ ap (λ r. with_vars bs r) h.are ∙ ap (λ ds. record { vars = ds; lets = [] }) (declarators-more h.names bs);
}

pub list-after : (P : Setting) (p q : Pending) (x y : Option Bound) (a b : Additions) (bs : List Bound) → IsListIn P p x a → AreTexts bs → q ≡ with_vars bs p → P.this.After x y → P.top.After a b → IsListIn P q y b
list-after P p q x y a b bs h texts e d c = record { vars = plain-more p q bs h.vars texts e; this = P.this.still x y d h.this; top = P.top.still a b c h.top }

pub plain-list : (p q : Pending) (x y : Option Bound) (a b : Additions) (bs : List Bound) → IsPlainList p x a → AreTexts bs → q ≡ with_vars bs p → y ≡ x → b ≡ a → IsPlainList q y b
plain-list = list-after temporaries_alone

-- A NODE whose fields took a step: its children are tested by the table, or as the elements of an array

abbrev children_test : AstType → Label → Option ElementsPlace → Fields → Bool
children_test k l o hs = match_option o (fields_form k l (child_entries k) hs) (λ p. elements_form p.sort p.last hs)

module _ (P : Setting) (n : Site) (s s' : Ledger) (k : AstType) (l : Label) (fs gs : OpenFields) where
  abbrev ByEntries : Type 0
  ByEntries = ((i : ℕ) → is_slot (site_in n k l fs i).above ≡ true → sort_in k l (child_entries k) i ≡ s-Expression) → ((i : ℕ) → is_body k i ≡ true → sort_in k l (child_entries k) i ≡ s-ArrowFunctionBody) → entries_take (child_entries k) ≡ true → AreTidyFields (IsListIn P) (is_body k) fs → fields_form k l (child_entries k) (finished_fields fs) ≡ true → FieldsLeft P (fields_form k l (child_entries k)) (is_body k) s s' fs gs

  abbrev ByElements : Type 0
  ByElements = (a last : Sort) → ((i : ℕ) → is_slot (site_in n k l fs i).above ≡ true → ⊥) → ((i : ℕ) → is_body k i ≡ true → ⊥) → AreTidyFields (IsListIn P) (is_body k) fs → elements_form a last (finished_fields fs) ≡ true → FieldsLeft P (elements_form a last) (is_body k) s s' fs gs

  not-slot : s-Program ≡ s-Expression → ⊥
  not-slot e = absurd (cc e)

  not-arrow : s-Program ≡ s-ArrowFunctionBody → ⊥
  not-arrow e = absurd (cc e)

  in-children : ByEntries → ByElements → (o : Option ElementsPlace) → elements_of (child_entries k) ≡ o → AreTidyFields (IsListIn P) (is_body k) fs → children_test k l o (finished_fields fs) ≡ true → FieldsLeft P (children_test k l o) (is_body k) s s' fs gs
  in-children entries elements None e proper h = entries (slot-sort n.above k l (outline fs)) (arrow-sort k l) (all-take k) proper h
  in-children entries elements (Some p) e proper h =
      let slots : (i : ℕ) → is_slot (site_in n k l fs i).above ≡ true → ⊥ = λ i d. not-slot (sym (elements-sort k l (child_entries k) p i e) ∙ slot-sort n.above k l (outline fs) i d) in
      let arrows : (i : ℕ) → is_body k i ≡ true → ⊥ = λ i d. not-arrow (sym (elements-sort k l (child_entries k) p i e) ∙ arrow-sort k l i d) in
      elements p.sort p.last slots arrows proper h

  in-node : ByEntries → ByElements → (a : Sort) → IsTidy (IsListIn P) (open_node k l fs) → has_form a (finished (open_node k l fs)) ≡ true → TreeLeft P a s s' (open_node k l gs)
  in-node entries elements a proper h =
      let m = node_form a k l (finished_fields fs) h in
      let r = in-children entries elements (elements_of (child_entries k)) refl proper m.children in
      record {
        formed = has_form-node a k l (finished_fields gs) (record { sort = m.sort; texts = m.texts; flags = m.flags; start = m.start; stop = m.stop; agree = agree-kept k l.texts (finished_fields fs) (finished_fields gs) r.alike m.agree; children = r.formed });
        proper = r.proper;
        names = r.names;
      }

-- STEPS

module _ (P : Setting) (R : Site → Ledger → Spot → Ledger → Spot → Type 0) (law : LawfulIn P R) where
  mutual
    pub tree-left : {n : Site} {s s' : Ledger} {t u : Open} → Step R n s t s' u → P.Known (this_in s) (top_in s) → (a : Sort) → (is_slot n.above ≡ true → a ≡ s-Expression) → IsTidy (IsListIn P) t → has_form a (finished t) ≡ true → TreeLeft P a s s' u
    tree-left (acts {n = n} {s = s} {s' = s'} t u h) known a slot proper f =
        let r = law.at_nodes n s s' t u a slot h (subst (λ (x : Tree). has_form a x ≡ true) (finished-opened t) f) known in
        record { formed = subst (λ (x : Tree). has_form a x ≡ true) (sym (finished-opened u)) r.formed; proper = opened-tidy P u; names = r.names }
    tree-left (inside {n = n} {s = s} {s' = s'} {k = k} {l = l} {fs = fs} {gs = gs} h) known a slot proper f = in-node P n s s' k l fs gs (entries-left h known k l (child_entries k) (is_body k)) (λ b last. elements-left h known b last (is_body k)) a proper f

    entries-left : {c : ℕ → Site} {s s' : Ledger} {fs gs : OpenFields} → FieldsStep R c s fs s' gs → P.Known (this_in s) (top_in s) → (k : AstType) (l : Label) (es : List Entry) (bodies : ℕ → Bool) → ((i : ℕ) → is_slot (c i).above ≡ true → sort_in k l es i ≡ s-Expression) → ((i : ℕ) → bodies i ≡ true → sort_in k l es i ≡ s-ArrowFunctionBody) → entries_take es ≡ true → AreTidyFields (IsListIn P) bodies fs → fields_form k l es (finished_fields fs) ≡ true → FieldsLeft P (fields_form k l es) bodies s s' fs gs
    entries-left (in_first h) known k l [] bodies slots arrows takes proper f = absurd (cc f)
    entries-left (in_first {c = c} {f = x} {g = y} {fs = fs} h) known k l (e ∷ es) bodies slots arrows takes proper f =
        let parts = and_parts (field_form k l e.content (finished_field x)) (fields_form k l es (finished_fields fs)) f in
        let took = and_parts _ (entries_take es) takes in
        let r = field-left h known (field_form k l e.content) (bodies zero) (entry-holds k l (c zero) (bodies zero) e.content (slots zero) (arrows zero) took.0) proper.0 parts.0 in
        record { formed = and_from (field_form k l e.content (finished_field y)) (fields_form k l es (finished_fields fs)) r.formed parts.1; proper = (r.proper, proper.1); names = r.names; alike = λ i. r.alike i then outlined (finished_fields fs) }
    entries-left (in_later h) known k l [] bodies slots arrows takes proper f = absurd (cc f)
    entries-left (in_later {c = c} {f = x} {fs = fs} {gs = gs} h) known k l (e ∷ es) bodies slots arrows takes proper f =
        let parts = and_parts (field_form k l e.content (finished_field x)) (fields_form k l es (finished_fields fs)) f in
        let took = and_parts _ (entries_take es) takes in
        let r = entries-left h known k l es (λ i. bodies (suc i)) (λ i. slots (suc i)) (λ i. arrows (suc i)) took.1 proper.1 parts.1 in
        record { formed = and_from (field_form k l e.content (finished_field x)) (fields_form k l es (finished_fields gs)) parts.0 r.formed; proper = (proper.0, r.proper); names = r.names; alike = λ i. outlined_field (finished_field x) then r.alike i }

    elements-left : {c : ℕ → Site} {s s' : Ledger} {fs gs : OpenFields} → FieldsStep R c s fs s' gs → P.Known (this_in s) (top_in s) → (a last : Sort) (bodies : ℕ → Bool) → ((i : ℕ) → is_slot (c i).above ≡ true → ⊥) → ((i : ℕ) → bodies i ≡ true → ⊥) → AreTidyFields (IsListIn P) bodies fs → elements_form a last (finished_fields fs) ≡ true → FieldsLeft P (elements_form a last) bodies s s' fs gs
    elements-left (in_first {c = c} {f = x} {g = y} {fs = fs} h) known a last bodies slots arrows proper f =
        let b = sort_before_fields a last (finished_fields fs) in
        let parts = and_parts (element_form b (finished_field x)) (elements_form a last (finished_fields fs)) f in
        let r = field-left h known (element_form b) (bodies zero) (element-holds b (c zero) (bodies zero) (slots zero) (arrows zero)) proper.0 parts.0 in
        record { formed = and_from (element_form b (finished_field y)) (elements_form a last (finished_fields fs)) r.formed parts.1; proper = (r.proper, proper.1); names = r.names; alike = λ i. r.alike i then outlined (finished_fields fs) }
    elements-left (in_later {c = c} {f = x} {fs = fs} {gs = gs} h) known a last bodies slots arrows proper f =
        let parts = and_parts (element_form (sort_before_fields a last (finished_fields fs)) (finished_field x)) (elements_form a last (finished_fields fs)) f in
        let r = elements-left h known a last (λ i. bodies (suc i)) (λ i. slots (suc i)) (λ i. arrows (suc i)) proper.1 parts.1 in
        let here = subst (λ (b : Sort). element_form b (finished_field x) ≡ true) (before-fields a last (finished_fields fs) (finished_fields gs) r.alike) parts.0 in
        record { formed = and_from (element_form (sort_before_fields a last (finished_fields gs)) (finished_field x)) (elements_form a last (finished_fields gs)) here r.formed; proper = (proper.0, r.proper); names = r.names; alike = λ i. outlined_field (finished_field x) then r.alike i }

    pub field-left : {n : Site} {s s' : Ledger} {f g : OpenField} → FieldStep R n s f s' g → P.Known (this_in s) (top_in s) → (test : Field → Bool) (b : Bool) → Holds test n b → IsTidyField (IsListIn P) b f → test (finished_field f) ≡ true → FieldLeft P test b s s' f g
    field-left (in_child {t = t} {u = u} h) known test b holds proper f =
        let m = holds.at_one (finished t) f in
        let r = tree-left h known m.sort m.slot proper m.formed in
        record { formed = m.back (finished u) r.formed; proper = r.proper; names = r.names; alike = refl }
    field-left (in_children {ts = ts} {us = us} h) known test b holds proper f =
        let m = holds.at_many (finished_trees ts) f in
        let r = trees-left h known m.sort m.last m.no_slot proper m.formed in
        record { formed = m.back (finished_trees us) r.begins r.formed; proper = r.proper; names = r.names; alike = λ i. many (r.alike i) }
    field-left (in_body {w = w} {w' = w'} {o = o} {p = p} {q = q} {x = x} {x' = x'} {a = a} {a' = a'} {t = t} {u = u} e y y' h) known test b holds proper f =
        let m = holds.at_one (written_body p (finished t)) f in
        let arrow = m.arrow proper.0 in
        let bare = body-inside p (finished t) proper.1 (subst (λ (z : Sort). has_form z (written_body p (finished t)) ≡ true) arrow m.formed) in
        let r = tree-left h known s-ArrowFunctionBody (λ d. sym arrow ∙ m.slot d) proper.2 bare in
        let plain = plain-more p q r.names.names proper.1 r.names.texts r.names.pending in
        record {
          formed = m.back (written_body q (finished u)) (subst (λ (z : Sort). has_form z (written_body q (finished u)) ≡ true) (sym arrow) (body-formed q (finished u) plain y' r.formed));
          proper = (proper.0, plain, r.proper);
          names = record { names = []; texts = tt; pending = no-names o; this = r.names.this; top = r.names.top };
          alike = refl;
        }
    field-left (in_list {o = o} {p = p} {q = q} {y = y} {b = d} {ts = ts} {us = us} e e' h) known test b holds proper f =
        let m = holds.at_statements (whole_list p y d (finished_trees ts)) f in
        let r = trees-left h known m.sort m.sort m.no_slot proper.1 (after-rest m.sort (pending_statements p y d) (finished_trees ts) m.formed) in
        let plain = list-after P p q y y d d r.names.names proper.0 r.names.texts r.names.pending (P.this.same y y refl) (P.top.same d d refl) in
        record {
          formed = m.back (whole_list q y d (finished_trees us)) (list-formed P m.sort q y d (finished_trees us) m.declares plain r.formed);
          proper = (plain, r.proper);
          names = record { names = []; texts = tt; pending = no-names o; this = r.names.this; top = r.names.top };
          alike = refl;
        }
    field-left (in_target {o = o} {p = p} {q = q} {x = x} {y = y} {y' = y'} {a = a} {b = d} {ts = ts} {us = us} e h) known test b holds proper f =
        let m = holds.at_statements (whole_list p y d (finished_trees ts)) f in
        let r = trees-left h (P.in_target x y a known proper.0.this) m.sort m.sort m.no_slot proper.1 (after-rest m.sort (pending_statements p y d) (finished_trees ts) m.formed) in
        let plain = list-after P p q y y' d d r.names.names proper.0 r.names.texts r.names.pending r.names.this (P.top.same d d refl) in
        record {
          formed = m.back (whole_list q y' d (finished_trees us)) (list-formed P m.sort q y' d (finished_trees us) m.declares plain r.formed);
          proper = (plain, r.proper);
          names = record { names = []; texts = tt; pending = no-names o; this = P.this.same x x refl; top = r.names.top };
          alike = refl;
        }
    field-left (in_program {o = o} {p = p} {q = q} {x = x} {y = y} {y' = y'} {a = a} {b = d} {b' = d'} {ts = ts} {us = us} e h) known test b holds proper f =
        let m = holds.at_statements (whole_list p y d (finished_trees ts)) f in
        let r = trees-left h (P.in_program y d proper.0.this proper.0.top) m.sort m.sort m.no_slot proper.1 (after-rest m.sort (pending_statements p y d) (finished_trees ts) m.formed) in
        let plain = list-after P p q y y' d d' r.names.names proper.0 r.names.texts r.names.pending r.names.this r.names.top in
        record {
          formed = m.back (whole_list q y' d' (finished_trees us)) (list-formed P m.sort q y' d' (finished_trees us) m.declares plain r.formed);
          proper = (plain, r.proper);
          names = record { names = []; texts = tt; pending = no-names o; this = P.this.same x x refl; top = P.top.same a a refl };
          alike = refl;
        }
    field-left (acts_on_list {n = n} {s = s} {s' = s'} {p = p} {q = q} {x = x} {y = y} {a = a} {b = d} ts us h) known test b holds proper f =
        let found = law.at_lists n s s' p q x y a d ts us h proper.0 in
        let same = ap (λ vs. whole_list p x a vs) (finished-trees ts) ∙ found.trees ∙ sym (ap (λ vs. whole_list q y d vs) (finished-trees us)) in
        record { formed = subst (λ (vs : Trees). test (statements vs) ≡ true) same f; proper = (found.plain, opened-trees-tidy P us); names = names-in P s s' (nothing-new s s' found.ledger); alike = refl }
    field-left (acts_on_body {n = n} {s = s} {s' = s'} {p = p} t u h) known test b holds proper f =
        let found = law.at_bodies n s s' p t u h in
        let same = ap (λ x. written_body p x) (finished-opened t) ∙ found.1 ∙ sym (finished-opened u) in
        record { formed = subst (λ (x : Tree). test (one x) ≡ true) same f; proper = opened-tidy P u; names = names-in P s s' (nothing-new s s' found.0); alike = refl }

    pub trees-left : {n : Site} {s s' : Ledger} {ts us : OpenTrees} → TreesStep R n s ts s' us → P.Known (this_in s) (top_in s) → (a last : Sort) → (is_slot n.above ≡ true → ⊥) → AreTidyTrees (IsListIn P) ts → trees_form a last (finished_trees ts) ≡ true → TreesLeft P a last s s' ts us
    trees-left (in_head {t = t} {u = u} {ts = ts} h) known a last slot proper f =
        let b = sort_before_trees a last (finished_trees ts) in
        let parts = and_parts (has_form b (finished t)) (trees_form a last (finished_trees ts)) f in
        let r = tree-left h known b (λ e. absurd (slot e)) proper.0 parts.0 in
        record { formed = and_from (has_form b (finished u)) (trees_form a last (finished_trees ts)) r.formed parts.1; proper = (r.proper, proper.1); names = r.names; alike = refl; begins = tt }
    trees-left (in_tail {t = t} {ts = ts} {us = us} h) known a last slot proper f =
        let parts = and_parts (has_form (sort_before_trees a last (finished_trees ts)) (finished t)) (trees_form a last (finished_trees ts)) f in
        let r = trees-left h known a last slot proper.1 parts.1 in
        let here = subst (λ (b : Sort). has_form b (finished t) ≡ true) (before-trees a last (finished_trees ts) (finished_trees us) r.alike) parts.0 in
        record { formed = and_from (has_form (sort_before_trees a last (finished_trees us)) (finished t)) (trees_form a last (finished_trees us)) here r.formed; proper = (proper.0, r.proper); names = r.names; alike = λ i. word [] before r.alike i; begins = tt }
    trees-left (in_flanked h) known a last slot proper f = absurd proper
    trees-left (after_flanked h) known a last slot proper f = absurd proper
    trees-left (flanks {n = n} {s = s} {s' = s'} {bs = bs} {cs = cs} t u h) known a last slot proper f = absurd (law.no_flanks n s s' t u bs cs h)
    trees-left (acts_on_flanked t us h) known a last slot proper f = absurd proper

-- WITH TEMPORARIES ALONE

alone-form : {R : Site → Ledger → Spot → Ledger → Spot → Type 0} → FormLawful R → LawfulIn temporaries_alone R
alone-form law = record { at_nodes = λ n s s' t u a slot h f known. law.at_nodes n s s' t u a slot h f; no_flanks = law.no_flanks; at_lists = law.at_lists; at_bodies = law.at_bodies }

module _ (R : Site → Ledger → Spot → Ledger → Spot → Type 0) (law : FormLawful R) where
  pub formed-after : {n : Site} {s s' : Ledger} {t u : Open} → Step R n s t s' u → (a : Sort) → (is_slot n.above ≡ true → a ≡ s-Expression) → IsProper t → has_form a (finished t) ≡ true → TreeLeft temporaries_alone a s s' u
  formed-after h = tree-left temporaries_alone R (alone-form law) h tt

  pub field-after : {n : Site} {s s' : Ledger} {f g : OpenField} → FieldStep R n s f s' g → (test : Field → Bool) (b : Bool) → Holds test n b → IsProperField b f → test (finished_field f) ≡ true → FieldLeft temporaries_alone test b s s' f g
  field-after h = field-left temporaries_alone R (alone-form law) h tt

  pub trees-after : {n : Site} {s s' : Ledger} {ts us : OpenTrees} → TreesStep R n s ts s' us → (a last : Sort) → (is_slot n.above ≡ true → ⊥) → AreProperTrees ts → trees_form a last (finished_trees ts) ≡ true → TreesLeft temporaries_alone a last s s' ts us
  trees-after h = trees-left temporaries_alone R (alone-form law) h tt

  -- steps in a row
  in-a-row : {s s' : Ledger} {t u : Open} → Steps (Step R the_program) s t s' u → (a : Sort) → IsProper t → has_form a (finished t) ≡ true → has_form a (finished u) ≡ true
  in-a-row stays a proper f = f
  in-a-row (goes h rest) a proper f = let r = formed-after h a (λ e. absurd (cc e)) proper f in in-a-row rest a r.proper r.formed

-- THE LAWS

pub steps-keep-form : (R : Site → Ledger → Spot → Ledger → Spot → Type 0) → FormLawful R → StepsKeepForm R
steps-keep-form R law t w w' x h steps = in-a-row R law steps s-Program (opened-proper t) (subst (λ (y : Tree). has_form s-Program y ≡ true) (sym (finished-opened t)) h)

pub law_form_proof : LawForm
law_form_proof o = steps-keep-form (rule_under o) (rule-under-form o)

pub law_core_form_proof : LawCoreForm
law_core_form_proof o = steps-keep-form (CoreRule o) (core-rule-form o)

pub law_form_reached_proof : LawFormReached
law_form_reached_proof o p q w w' h steps = subst (λ (y : Tree). has_form s-Program y ≡ true) (finished-opened q) (law_form_proof o p w w' (opened q) h steps)
