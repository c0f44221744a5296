-- What is read off the list of a program is the same after a step of rules that put no statement beside another, and where a namespace
-- export became an import and an export; what is pending is declarations of variables, off which nothing is read.
use Rattle.std.proofs.Common.{◌≡◌, ℕ, refl, sym, ap, subst, ◌∙◌, List, [], ◌∷◌, ◌++◌}
use Rattle.std.specs.Prelude.{Bool, true, false, Option, Some, None, codes, map, if◌then◌else◌}
use Rattle.std.proofs.lemmas.List.{append-nil, append_assoc}
use Rattle.es_tree.specs.Ancestors.{Ancestor}
use Rattle.es_tree.specs.HasForm.{has_form, is_of_sort}
use Rattle.es_tree.specs.Tree.{Tree, node, Label, Fields, done, ◌then◌, Field, missing, one, many, statements, Trees, empty, ◌before◌, trees, kind_of}
use Rattle.es_tree.specs.Words.{Text}
use Rattle.es_tree.specs.declared.ast_type.AstType.{AstType}
use Rattle.es_tree.specs.declared.ast_type.AstType.TheVariants.{ExportAllDeclaration, Program, VariableDeclaration}
use Rattle.es_tree.specs.declared.table.Sort.{Sort}
use Rattle.es_tree.specs.declared.table.Sort.TheVariants.{Program as s-Program}
use Rattle.es_tree.proofs.NodeForm.{node_form}
use Rattle.es_resolution.specs.Declarations.{Bound}
use Rattle.es_steps.specs.NamespaceExports.{NamespaceRule, namespace_import}
use Rattle.es_steps.specs.NamespaceExports.NamespaceRule.{exports}
use Rattle.es_steps.specs.Nodes.{export_node, identifier, joined_trees, placed, specifier_node}
use Rattle.es_steps.specs.Open.{Additions, Pending, after_imports, declaration, import_statement, is_body, is_import, no_additions, pending_statements, whole_list, with_this, written, Open, OpenFields, ends, ◌and◌, OpenField, OpenTrees, opened, finished, finished_field, finished_fields, finished_trees}
use Rattle.es_steps.specs.Rules.{next_name}
use Rattle.es_steps.specs.Slots.{is_slot}
use Rattle.es_steps.specs.Steps.{Ledger, Site, Spot, outline, Step, FieldsStep, FieldStep, TreesStep}
use Rattle.es_steps.specs.Steps.Spot.{at_node, at_beside}
use Rattle.es_steps.specs.Steps.Step.{acts, inside}
use Rattle.es_steps.specs.Steps.FieldsStep.{in_first, in_later}
use Rattle.es_steps.specs.Steps.FieldStep.{in_child, in_body, in_children, in_list, in_target, in_program, acts_on_body, acts_on_list}
use Rattle.es_steps.proofs.FormLists.{IsPendingList}
use Rattle.es_steps.proofs.FormOpen.{IsTidy, AreTidyFields, IsTidyField, AreTidyTrees}
use Rattle.es_steps.proofs.FormRules.{RuleForm}
use Rattle.es_steps.proofs.Opened.{finished-opened, finished-trees}
use Rattle.es_valid_steps.specs.Laws.{statements_of}
use Rattle.es_valid_steps.proofs.FieldForms.{FieldHas, FieldsHave, TreesHave, node-have, rest-have}
use Rattle.es_valid_steps.proofs.ProgramLists.{Exported, ProgramExported}
use Rattle.es_valid_steps.proofs.ProgramLists.Exported.{here, there}
use Rattle.es_valid_steps.proofs.ProgramLists.ProgramExported.{at_list as in_the_list}
use Rattle.es_module_names.specs.Modules.{exported, request, star_request, texts_among}
use Rattle.es_module_names.proofs.Held.{Reads, held-among, is_quiet}
use Rattle.es_module_names.proofs.HeldSteps.{Hides, ReadLawful, choose, held-all}
use Rattle.es_module_names.proofs.Readings.{exported-reads, request-reads, star-reads}

-- STATEMENTS are read so: nothing is read off a declaration of variables, and off the import and the export that a namespace export
-- becomes what was read off it
pub record IsReading (read : Tree → List Text) : Type 0 where
  pub reads : Reads read
  pub silent : (l : Label) (fs : Fields) → read (node VariableDeclaration l fs) ≡ []
  pub exports_same : (m : Label) (x : Bound) (e source : Tree) (attributes : Trees) → read (placed m (namespace_import x source attributes)) ++ read (export_node (specifier_node (identifier x) e ∷ [])) ≡ read (node ExportAllDeclaration m (one e then one source then many attributes then done))

pub request-reading : IsReading request
request-reading = record { reads = request-reads; silent = λ l fs. refl; exports_same = λ m x e source attributes. append-nil _ }

pub star-reading : IsReading star_request
star-reading = record { reads = star-reads; silent = λ l fs. refl; exports_same = λ m x e source attributes. refl }

pub exported-reading : IsReading exported
exported-reading = record { reads = exported-reads; silent = λ l fs. refl; exports_same = λ m x e source attributes. append-nil _ }

-- THE LIST of a program is its second field

abbrev pub list_in : Field → Trees
list_in (statements ts) = ts
list_in _ = empty

pub second-list : (k : AstType) (l : Label) (d f : Field) (fs : Fields) → statements_of (node k l (d then (f then fs))) ≡ list_in f
second-list k l d missing fs = refl
second-list k l d (one t) fs = refl
second-list k l d (many ts) fs = refl
second-list k l d (statements ts) fs = refl

no-quiet : (k : AstType) → is_of_sort s-Program k ≡ true → is_quiet k ≡ true → ⊥
no-quiet Program e d = absurd (cc d)
no-quiet _ e d = absurd (cc e)

no-quiet-program : (t : Tree) → has_form s-Program t ≡ true → is_quiet (kind_of t) ≡ true → ⊥
no-quiet-program (node k l fs) f e = no-quiet k (node_form s-Program k l fs f).sort e

module _ (read : Tree → List Text) (r : IsReading read) where
  abbrev Texts : Trees → List Text
  Texts ts = texts_among read ts

  -- WHAT IS PENDING

  declared-texts : (word : Text) (ds : List Tree) (ts : Trees) → Texts (declaration word ds ts) ≡ Texts ts
  declared-texts word [] ts = refl
  declared-texts word (d ∷ ds) ts = ap (λ xs. xs ++ Texts ts) (r.silent _ _)

  this-texts : (x : Option Bound) (ts : Trees) → Texts (with_this x ts) ≡ Texts ts
  this-texts None ts = refl
  this-texts (Some b) ts = ap (λ xs. xs ++ Texts ts) (r.silent _ _)

  -- off what is pending nothing is read where no imports are
  pending-texts : (p : Pending) (x : Option Bound) (a : Additions) → a.imports ≡ [] → Texts (pending_statements p x a) ≡ []
  pending-texts p x a e =
      let others = joined_trees (trees (map import_statement a.imports)) (written p empty) in
      declared-texts (codes "const") a.excluded (with_this x others) ∙ this-texts x others ∙ (λ i. Texts (joined_trees (trees (map import_statement (e i))) (written p empty)))
      ∙ declared-texts (codes "var") p.vars (declaration (codes "let") p.lets empty) ∙ declared-texts (codes "let") p.lets empty

  joined-texts : (bs ts : Trees) → Texts (joined_trees bs ts) ≡ Texts bs ++ Texts ts
  joined-texts empty ts = refl
  joined-texts (b before bs) ts = ap (λ xs. read b ++ xs) (joined-texts bs ts) ∙ sym (append_assoc (read b) (Texts bs) (Texts ts))

  after-texts : (bs ts : Trees) → Texts bs ≡ [] → Texts (after_imports bs ts) ≡ Texts ts
  after-texts bs empty h = h
  after-texts bs (t before ts) h = at (is_import t) (after-texts bs ts h)
    where
      at : (v : Bool) → Texts (after_imports bs ts) ≡ Texts ts → Texts (if v then t before after_imports bs ts else joined_trees bs (t before ts)) ≡ read t ++ Texts ts
      at true rest = ap (λ xs. read t ++ xs) rest
      at false rest = joined-texts bs (t before ts) ∙ ap (λ xs. xs ++ (read t ++ Texts ts)) h

  whole-texts : (p : Pending) (x : Option Bound) (a : Additions) (ts : Trees) → a.imports ≡ [] → Texts (whole_list p x a ts) ≡ Texts ts
  whole-texts p x a ts e = after-texts (pending_statements p x a) ts (pending-texts p x a e)

  -- STEPS of rules that put no statement beside another

  module _ {Listed : Pending → Option Bound → Additions → Type 0} {Left : Sort → Ledger → Ledger → Tree → Type 0} (no_imports : (p : Pending) (x : Option Bound) (a : Additions) → Listed p x a → a.imports ≡ []) (hidden : List Ancestor → Bool) (hides : Hides hidden) (R : Site → Ledger → Spot → Ledger → Spot → Type 0) (form : RuleForm Listed Left R) (law : ReadLawful hidden R) where
    list-same : (p : Pending) (x : Option Bound) (a : Additions) (ts : Trees) → Listed p x a → Texts (whole_list p x a ts) ≡ Texts ts
    list-same p x a ts h = whole-texts p x a ts (no_imports p x a h)

    held-texts : {n : Site} {s s' : Ledger} {ts us : OpenTrees} → TreesStep R n s ts s' us → (hidden n.above ≡ true → ⊥) → (is_slot n.above ≡ true → ⊥) → AreTidyTrees Listed ts → TreesHave (finished_trees ts) → Texts (finished_trees us) ≡ Texts (finished_trees ts)
    held-texts {ts = ts} {us = us} h outer slot tidy has = choose (Texts (finished_trees us) ≡ Texts (finished_trees ts)) (held-all hidden hides R form law h slot tidy has) (λ c. held-among read r.reads (finished_trees ts) (finished_trees us) c) (λ e. absurd (outer e))

    list-texts : {n : Site} {s s' : Ledger} {f g : OpenField} → FieldStep R n s f s' g → (k : AstType) (b : Bool) → (hidden n.above ≡ true → ⊥) → IsTidyField Listed b f → IsTidyField Listed b g → FieldHas k n b (finished_field f) → Texts (list_in (finished_field g)) ≡ Texts (list_in (finished_field f))
    list-texts (in_child h) k b outer tidy left has = refl
    list-texts (in_children h) k b outer tidy left has = refl
    list-texts (in_body e y y' h) k b outer tidy left has = refl
    list-texts (in_list {p = p} {q = q} {y = y} {b = d} {ts = ts} {us = us} e e' h) k b outer tidy left has =
        list-same q y d (finished_trees us) left.0 ∙ held-texts h outer has.no_slot tidy.1 (rest-have (pending_statements p y d) (finished_trees ts) has.trees) ∙ sym (list-same p y d (finished_trees ts) tidy.0)
    list-texts (in_target {p = p} {q = q} {y = y} {y' = y'} {b = d} {ts = ts} {us = us} e h) k b outer tidy left has =
        list-same q y' d (finished_trees us) left.0 ∙ held-texts h outer has.no_slot tidy.1 (rest-have (pending_statements p y d) (finished_trees ts) has.trees) ∙ sym (list-same p y d (finished_trees ts) tidy.0)
    list-texts (in_program {p = p} {q = q} {y = y} {y' = y'} {b = d} {b' = d'} {ts = ts} {us = us} e h) k b outer tidy left has =
        list-same q y' d' (finished_trees us) left.0 ∙ held-texts h outer has.no_slot tidy.1 (rest-have (pending_statements p y d) (finished_trees ts) has.trees) ∙ sym (list-same p y d (finished_trees ts) tidy.0)
    list-texts (acts_on_list {n = n} {s = s} {s' = s'} {p = p} {q = q} {x = x} {y = y} {a = a} {b = d} ts us h) k b outer tidy left has =
        let found = form.at_lists n s s' p q x y a d ts us h tidy.0 in
        let same = ap (λ vs. whole_list p x a vs) (finished-trees ts) ∙ found.trees ∙ sym (ap (λ vs. whole_list q y d vs) (finished-trees us)) in
        sym (ap (λ vs. Texts vs) same)
    list-texts (acts_on_body t u h) k b outer tidy left has = refl

    fields-texts : {c : ℕ → Site} {s s' : Ledger} {fs gs : OpenFields} → FieldsStep R c s fs s' gs → (k : AstType) (l : Label) (bodies : ℕ → Bool) → ((i : ℕ) → hidden (c i).above ≡ true → ⊥) → AreTidyFields Listed bodies fs → AreTidyFields Listed bodies gs → FieldsHave k c bodies (finished_fields fs) → Texts (statements_of (node k l (finished_fields gs))) ≡ Texts (statements_of (node k l (finished_fields fs)))
    fields-texts (in_first {fs = ends} h) k l bodies outer tidy left has = refl
    fields-texts (in_first {f = d} {g = e} {fs = f and fs} h) k l bodies outer tidy left has =
        ap (λ ts. Texts ts) (second-list k l (finished_field e) (finished_field f) (finished_fields fs) ∙ sym (second-list k l (finished_field d) (finished_field f) (finished_fields fs)))
    fields-texts (in_later {f = d} (in_first {f = f} {g = g} {fs = fs} h)) k l bodies outer tidy left has =
        ap (λ ts. Texts ts) (second-list k l (finished_field d) (finished_field g) (finished_fields fs)) ∙ list-texts h k (bodies 1) (outer 1) tidy.1.0 left.1.0 has.1.0 ∙ sym (ap (λ ts. Texts ts) (second-list k l (finished_field d) (finished_field f) (finished_fields fs)))
    fields-texts (in_later {f = d} (in_later {f = f} {fs = fs} {gs = gs} h)) k l bodies outer tidy left has =
        ap (λ ts. Texts ts) (second-list k l (finished_field d) (finished_field f) (finished_fields gs) ∙ sym (second-list k l (finished_field d) (finished_field f) (finished_fields fs)))

    pub texts-after : {n : Site} {s s' : Ledger} {t u : Open} → Step R n s t s' u → (is_slot n.above ≡ true → ⊥) → (hidden n.above ≡ true → ⊥) → IsTidy Listed t → IsTidy Listed u → has_form s-Program (finished t) ≡ true → Texts (statements_of (finished u)) ≡ Texts (statements_of (finished t))
    texts-after (acts {n = n} {s = s} {s' = s'} t u h) slot outer tidy left f =
        choose (Texts (statements_of (finished (opened u))) ≡ Texts (statements_of (finished (opened t)))) (law.at_nodes n s s' t u h)
        (λ q. absurd (no-quiet-program t (subst (λ (x : Tree). has_form s-Program x ≡ true) (finished-opened t) f) q.acted))
        (λ e. choose (Texts (statements_of (finished (opened u))) ≡ Texts (statements_of (finished (opened t)))) e (λ d. absurd (slot d)) (λ d. absurd (outer d)))
    texts-after (inside {n = n} {k = k} {l = l} {fs = fs} h) slot outer tidy left f =
        let sort = (node_form s-Program k l (finished_fields fs) f).sort in
        fields-texts h k l (is_body k) (λ i e. outer (hides.program n.above k l (outline fs) i sort e)) tidy left (node-have n s-Program k l fs f)

  -- NAMESPACE EXPORTS

  replaced-texts : {n : Site} {s s' : Ledger} {t i e : Tree} → NamespaceRule n s (at_node t) s' (at_beside (i ∷ []) e []) → read i ++ read e ≡ read t
  replaced-texts (exports {w = w} {m = m} {e = e} {s = source} {attributes = attributes} {x = x} d fresh q o a) = r.exports_same m (next_name w x) e source attributes

  exported-texts : {n : Site} {s s' : Ledger} {ts us : OpenTrees} → Exported n s s' ts us → Texts (finished_trees us) ≡ Texts (finished_trees ts)
  exported-texts (here t i e {ts = ts} h) =
      (λ j. read (finished-opened i j) ++ (read (finished-opened e j) ++ Texts (finished_trees ts))) ∙ sym (append_assoc (read i) (read e) (Texts (finished_trees ts))) ∙ ap (λ xs. xs ++ Texts (finished_trees ts)) (replaced-texts h) ∙ (λ j. read (sym (finished-opened t) j) ++ Texts (finished_trees ts))
  exported-texts (there t h) = ap (λ xs. read (finished t) ++ xs) (exported-texts h)

  pub exported-texts-after : {Listed : Pending → Option Bound → Additions → Type 0} → ((p : Pending) (x : Option Bound) (a : Additions) → Listed p x a → a.imports ≡ []) → {s s' : Ledger} {x y : Open} → ProgramExported s s' x y → IsTidy Listed x → IsTidy Listed y → Texts (statements_of (finished y)) ≡ Texts (statements_of (finished x))
  exported-texts-after no_imports (in_the_list {p = p} {q = q} {x = x} {y = y} {a = a} {b = b} {ts = ts} {us = us} h) tidy left =
      whole-texts q y b (finished_trees us) (no_imports q y b left.1.0.0) ∙ exported-texts h ∙ sym (whole-texts p x a (finished_trees ts) (no_imports p x a tidy.1.0.0))

-- where nothing is to be written at the program's top
pub top-imports : {This : Option Bound → Type 0} (p : Pending) (x : Option Bound) (a : Additions) → IsPendingList This (λ b. b ≡ no_additions) p x a → a.imports ≡ []
top-imports p x a h = ap (λ b. b.imports) h.top
