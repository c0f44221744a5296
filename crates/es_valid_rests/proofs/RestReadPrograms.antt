-- A program on which a rule of object rests acts is the same to other modules: what is pending stays, and so does what is read.
use Rattle.std.proofs.Common.{◌≡◌, ℕ, refl, sym, ap, subst, ◌∙◌, List, ◌++◌}
use Rattle.std.specs.Prelude.{Bool, true, false, ◌||◌, if◌then◌else◌}
use Rattle.es_tree.specs.Ancestors.{Ancestor}
use Rattle.es_tree.specs.HasForm.{has_form, same_type}
use Rattle.es_tree.specs.Tree.{Tree, node, Label, ◌then◌, Trees, empty, ◌before◌, kind_of}
use Rattle.es_tree.specs.Words.{Text}
use Rattle.es_tree.specs.declared.ast_type.AstType.{AstType}
use Rattle.es_tree.specs.declared.ast_type.AstType.TheVariants.{ImportDeclaration, Program}
use Rattle.es_tree.specs.declared.table.Sort.TheVariants.{Program as s-Program}
use Rattle.es_tree.proofs.NodeForm.{node_form}
use Rattle.es_steps.specs.Nodes.{joined_trees}
use Rattle.es_steps.specs.Open.{Open, OpenField, OpenFields, OpenTrees, ends, ◌and◌, after_imports, finished, finished_field, finished_fields, finished_trees, is_body, is_import, pending_statements}
use Rattle.es_steps.specs.Steps.{Ledger, Site, Spot, Step, FieldsStep, FieldStep, TreesStep, the_program}
use Rattle.es_steps.specs.Steps.Spot.{at_beside, at_body, at_list, at_node, at_trees}
use Rattle.es_steps.specs.Steps.Step.{acts, inside}
use Rattle.es_steps.specs.Steps.FieldsStep.{in_first, in_later}
use Rattle.es_steps.specs.Steps.FieldStep.{in_child, in_body, in_children, in_list, in_target, in_program, acts_on_body, acts_on_list}
use Rattle.es_steps.specs.Steps.TreesStep.{in_head, in_tail, in_flanked, after_flanked, flanks, acts_on_flanked}
use Rattle.es_steps.proofs.FormOpen.{AreProperFields, IsProper, IsProperField}
use Rattle.es_steps.proofs.Opened.{finished-opened}
use Rattle.es_valid_steps.specs.Laws.{statements_of}
use Rattle.es_valid_steps.proofs.FieldForms.{FieldHas, FieldsHave, node-have, rest-have}
use Rattle.es_module_names.specs.Modules.{texts_among}
use Rattle.es_module_names.proofs.ProgramLists.{list_in, second-list}
use Rattle.es_valid_rests.proofs.FacedSteps.{SameBeside}
use Rattle.es_valid_rests.proofs.RestReads.{ReadLawful, SameRead, SameTrees, among-same, read-all}
use Rattle.es_valid_rests.proofs.RestReads.SameTrees.{here, there}

-- WHAT IS PENDING stays

module _ (R : Site → Ledger → Spot → Ledger → Spot → Type 0) (law : ReadLawful R) where
  mutual
    beside-after : {n : Site} {s s' : Ledger} {t u : Open} → Step R n s t s' u → SameBeside s s'
    beside-after (acts {n = n} {s = s} {s' = s'} t u h) = law.beside n s s' t u h
    beside-after (inside h) = beside-in h

    beside-in : {c : ℕ → Site} {s s' : Ledger} {fs gs : OpenFields} → FieldsStep R c s fs s' gs → SameBeside s s'
    beside-in (in_first h) = beside-by h
    beside-in (in_later h) = beside-in h

    beside-by : {n : Site} {s s' : Ledger} {f g : OpenField} → FieldStep R n s f s' g → SameBeside s s'
    beside-by (in_child h) = beside-after h
    beside-by (in_children h) = beside-all h
    beside-by (in_body e y y' h) = let r = beside-after h in record { pending = refl; this = r.this; top = r.top }
    beside-by (in_list e e' h) = let r = beside-all h in record { pending = refl; this = r.this; top = r.top }
    beside-by (in_target e h) = let r = beside-all h in record { pending = refl; this = refl; top = r.top }
    beside-by (in_program e h) = record { pending = refl; this = refl; top = refl }
    beside-by (acts_on_list {n = n} {s = s} {s' = s'} {p = p} {q = q} {x = x} {y = y} {a = a} {b = b} ts us h) = absurd (law.at_nodes n s s' (at_list p x a ts) (at_list q y b us) h)
    beside-by (acts_on_body {n = n} {s = s} {s' = s'} {p = p} t u h) = absurd (law.at_nodes n s s' (at_body p t) (at_node u) h)

    beside-all : {n : Site} {s s' : Ledger} {ts us : OpenTrees} → TreesStep R n s ts s' us → SameBeside s s'
    beside-all (in_head h) = beside-after h
    beside-all (in_tail h) = beside-all h
    beside-all (in_flanked h) = beside-after h
    beside-all (after_flanked h) = beside-all h
    beside-all (flanks {n = n} {s = s} {s' = s'} {bs = bs} {cs = cs} t u h) = absurd (law.at_nodes n s s' (at_node t) (at_beside bs u cs) h)
    beside-all (acts_on_flanked {n = n} {s = s} {s' = s'} {bs = bs} {cs = cs} t us h) = absurd (law.at_nodes n s s' (at_beside bs t cs) (at_trees us) h)

-- THE LIST of a program

no-program : (t : Tree) → has_form s-Program t ≡ true → same_type (kind_of t) Program ≡ true
no-program (node k l fs) f = at (same_type k Program) (node_form s-Program k l fs f).sort
  where
    at : (b : Bool) → (b || false) ≡ true → b ≡ true
    at true e = refl
    at false e = e

module _ (read : Tree → List Text) (same : (up : List Ancestor) (t u : Tree) → SameRead up t u → read u ≡ read t) where
  abbrev Texts : Trees → List Text
  Texts ts = texts_among read ts

  joined-same : (bs ts us : Trees) → Texts us ≡ Texts ts → Texts (joined_trees bs us) ≡ Texts (joined_trees bs ts)
  joined-same empty ts us e = e
  joined-same (b before bs) ts us e = ap (λ xs. read b ++ xs) (joined-same bs ts us e)

  after-same : (up : List Ancestor) (bs ts us : Trees) → SameTrees up ts us → Texts (after_imports bs us) ≡ Texts (after_imports bs ts)
  after-same up bs ts us (here {t = t} {u = u} {ts = rest} r) =
      ap (λ v. Texts (if v then u before after_imports bs rest else joined_trees bs (u before rest))) (ap (λ k. same_type k ImportDeclaration) r.kind) ∙ at (is_import t)
    where
      at : (v : Bool) → Texts (if v then u before after_imports bs rest else joined_trees bs (u before rest)) ≡ Texts (if v then t before after_imports bs rest else joined_trees bs (t before rest))
      at true = ap (λ xs. xs ++ Texts (after_imports bs rest)) (same up t u r)
      at false = joined-same bs (t before rest) (u before rest) (ap (λ xs. xs ++ Texts rest) (same up t u r))
  after-same up bs ts us (there {t = t} {ts = ts'} {us = us'} r) = at (is_import t) (after-same up bs ts' us' r)
    where
      at : (v : Bool) → Texts (after_imports bs us') ≡ Texts (after_imports bs ts') → Texts (if v then t before after_imports bs us' else joined_trees bs (t before us')) ≡ Texts (if v then t before after_imports bs ts' else joined_trees bs (t before ts'))
      at true e = ap (λ xs. read t ++ xs) e
      at false e = joined-same bs (t before ts') (t before us') (ap (λ xs. read t ++ xs) (among-same read up (same up) ts' us' r))

  module _ (R : Site → Ledger → Spot → Ledger → Spot → Type 0) (law : ReadLawful R) where
    list-texts : {n : Site} {s s' : Ledger} {f g : OpenField} → FieldStep R n s f s' g → (k : AstType) (b : Bool) → IsProperField b f → FieldHas k n b (finished_field f) → Texts (list_in (finished_field g)) ≡ Texts (list_in (finished_field f))
    list-texts (in_child h) k b proper has = refl
    list-texts (in_children h) k b proper has = refl
    list-texts (in_body e y y' h) k b proper has = refl
    list-texts (in_list {n = n} {p = p} {q = q} {y = y} {b = d} {ts = ts} {us = us} e e' h) k b proper has =
        let r = beside-all R law h in
        (λ i. Texts (after_imports (pending_statements (r.pending i) y d) (finished_trees us))) ∙ after-same n.above (pending_statements p y d) (finished_trees ts) (finished_trees us) (read-all R law h proper.1 (rest-have (pending_statements p y d) (finished_trees ts) has.trees))
    list-texts (in_target {n = n} {p = p} {q = q} {y = y} {y' = y'} {b = d} {ts = ts} {us = us} e h) k b proper has =
        let r = beside-all R law h in
        (λ i. Texts (after_imports (pending_statements (r.pending i) (r.this i) d) (finished_trees us))) ∙ after-same n.above (pending_statements p y d) (finished_trees ts) (finished_trees us) (read-all R law h proper.1 (rest-have (pending_statements p y d) (finished_trees ts) has.trees))
    list-texts (in_program {n = n} {p = p} {q = q} {y = y} {y' = y'} {b = d} {b' = d'} {ts = ts} {us = us} e h) k b proper has =
        let r = beside-all R law h in
        (λ i. Texts (after_imports (pending_statements (r.pending i) (r.this i) (r.top i)) (finished_trees us))) ∙ after-same n.above (pending_statements p y d) (finished_trees ts) (finished_trees us) (read-all R law h proper.1 (rest-have (pending_statements p y d) (finished_trees ts) has.trees))
    list-texts (acts_on_list {n = n} {s = s} {s' = s'} {p = p} {q = q} {x = x} {y = y} {a = a} {b = d} ts us h) k b proper has = absurd (law.at_nodes n s s' (at_list p x a ts) (at_list q y d us) h)
    list-texts (acts_on_body t u h) k b proper has = refl

    fields-texts : {c : ℕ → Site} {s s' : Ledger} {fs gs : OpenFields} → FieldsStep R c s fs s' gs → (k : AstType) (l : Label) (bodies : ℕ → Bool) → AreProperFields bodies fs → FieldsHave k c bodies (finished_fields fs) → Texts (statements_of (node k l (finished_fields gs))) ≡ Texts (statements_of (node k l (finished_fields fs)))
    fields-texts (in_first {fs = ends} h) k l bodies proper has = refl
    fields-texts (in_first {f = d} {g = e} {fs = f and fs} h) k l bodies proper has =
        ap (λ ts. Texts ts) (second-list k l (finished_field e) (finished_field f) (finished_fields fs) ∙ sym (second-list k l (finished_field d) (finished_field f) (finished_fields fs)))
    fields-texts (in_later {f = d} (in_first {f = f} {g = g} {fs = fs} h)) k l bodies proper has =
        ap (λ ts. Texts ts) (second-list k l (finished_field d) (finished_field g) (finished_fields fs)) ∙ list-texts h k (bodies 1) proper.1.0 has.1.0 ∙ sym (ap (λ ts. Texts ts) (second-list k l (finished_field d) (finished_field f) (finished_fields fs)))
    fields-texts (in_later {f = d} (in_later {f = f} {fs = fs} {gs = gs} h)) k l bodies proper has =
        ap (λ ts. Texts ts) (second-list k l (finished_field d) (finished_field f) (finished_fields gs) ∙ sym (second-list k l (finished_field d) (finished_field f) (finished_fields fs)))

    pub program-read : {s s' : Ledger} {t u : Open} → Step R the_program s t s' u → IsProper t → has_form s-Program (finished t) ≡ true → Texts (statements_of (finished u)) ≡ Texts (statements_of (finished t))
    program-read (acts {s = s} {s' = s'} t u h) proper f = absurd (let no = no-program t (subst (λ (x : Tree). has_form s-Program x ≡ true) (finished-opened t) f) in let yes = law.within the_program s s' t u h in cc (no, yes))
    program-read (inside {k = k} {l = l} {fs = fs} h) proper f = fields-texts h k l (is_body k) proper (node-have the_program s-Program k l fs f)
