-- A test of nodes is kept along a step of a row: by trees that are the same but where the row acts and but for temporaries.
use Rattle.std.proofs.Common.{◌≡◌, ℕ, refl, List}
use Rattle.std.proofs.lemmas.Bool.{and_parts, and_from, false≢true}
use Rattle.std.specs.Prelude.{Bool, true, false, ◌&&◌, if◌then◌else◌}
use Rattle.es_tree.specs.Names.{first_text}
use Rattle.es_tree.specs.Scopes.{Declared}
use Rattle.es_tree.specs.Tree.{Tree, node, Label, Fields, done, ◌then◌, Field, missing, one, many, statements, Trees, empty, ◌before◌}
use Rattle.es_tree.specs.Walks.{all_nodes, all_in_field, all_in_fields, all_in_trees}
use Rattle.es_tree.specs.Words.{Text}
use Rattle.es_tree.specs.declared.ast_type.AstType.{AstType}
use Rattle.es_tree.specs.declared.ast_type.AstType.TheVariants.{BlockStatement, Identifier, SwitchCase, VariableDeclaration, VariableDeclarator}
use Rattle.es_tree.specs.HasForm.{has_form}
use Rattle.es_tree.specs.declared.table.Sort.{Sort}
use Rattle.es_tree.specs.declared.table.Sort.TheVariants.{Program as s-Program}
use Rattle.es_tree.proofs.NodeForm.{NodeForm}
use Rattle.es_resolution.proofs.AllForms.{All, AllAmong, AllBy, AllIn, all-tree}
use Rattle.es_statement_runs.specs.BareVars.{GrownDeclarators}
use Rattle.es_statement_runs.specs.BareVars.GrownDeclarators.{as_named, none_grown, one_grown}
use Rattle.es_statement_runs.specs.Places.{Take}
use Rattle.es_statement_runs.proofs.Moved.{Moved, MovedField, MovedFields, MovedList, MovedTrees, Room}
use Rattle.es_statement_runs.proofs.Moved.Moved.{moved_block, moved_case, moved_node, moved_place}
use Rattle.es_statement_runs.proofs.Moved.MovedField.{moved_many, moved_missing, moved_one, moved_statements}
use Rattle.es_statement_runs.proofs.Moved.MovedFields.{moved_done, moved_then}
use Rattle.es_statement_runs.proofs.Moved.MovedList.{moved_end, moved_grown, moved_new, moved_statement}
use Rattle.es_statement_runs.proofs.Moved.MovedTrees.{moved_before, moved_empty}

-- a name alone has no fields
abbrev pub name_alone : AstType → Label → Fields → Bool
name_alone Identifier l done = true
name_alone Identifier l fs = false
name_alone k l fs = true

abbrev pub Alone : Tree → Type 0
Alone t = all_nodes name_alone t ≡ true

-- IN A PROGRAM THAT HAS FORM a name alone has no fields

name_form : (s : Sort) (k : AstType) (l : Label) (fs : Fields) → NodeForm s k l fs → name_alone k l fs ≡ true
name_form s Identifier l done h = refl
name_form s Identifier l (f then fs) h = absurd (false≢true h.children)
name_form s _ l fs h = refl

abbrev NameAlone : AstType → Label → Fields → Type 0
NameAlone k l fs = name_alone k l fs ≡ true

mutual
  all_alone : (t : Tree) → All NameAlone t → Alone t
  all_alone (node k l fs) h = and_from (name_alone k l fs) (all_in_fields name_alone fs) h.0 (all_alone_in fs h.1)

  all_alone_in : (fs : Fields) → AllIn NameAlone fs → all_in_fields name_alone fs ≡ true
  all_alone_in done h = refl
  all_alone_in (f then fs) h = and_from (all_in_field name_alone f) (all_in_fields name_alone fs) (all_alone_by f h.0) (all_alone_in fs h.1)

  all_alone_by : (f : Field) → AllBy NameAlone f → all_in_field name_alone f ≡ true
  all_alone_by missing h = refl
  all_alone_by (one t) h = all_alone t h
  all_alone_by (many ts) h = all_alone_among ts h
  all_alone_by (statements ts) h = all_alone_among ts h

  all_alone_among : (ts : Trees) → AllAmong NameAlone ts → all_in_trees name_alone ts ≡ true
  all_alone_among empty h = refl
  all_alone_among (t before ts) h = and_from (all_nodes name_alone t) (all_in_trees name_alone ts) (all_alone t h.0) (all_alone_among ts h.1)

pub form_alone : (t : Tree) → has_form s-Program t ≡ true → Alone t
form_alone t h = all_alone t (all-tree NameAlone (λ s k l fs f. name_form s k l fs f) s-Program t h)

-- A TEST OF NODES that is kept by a node whose fields keep it, and that declarations and their names pass
module _ (fresh : Text → Bool) (R : List Declared → Take → Tree → Tree → Type 0) (P : AstType → Label → Fields → Bool)
    (rows : (ds : List Declared) (t : Take) (a b : Tree) → R ds t a b → all_nodes P a ≡ true → all_nodes P b ≡ true)
    (nodes : (r : ℕ → Room) (d : ℕ → List Declared) (c : ℕ → Take) (k : AstType) (l m : Label) (fs gs : Fields) → m.texts ≡ l.texts → MovedFields fresh R r d c fs gs → all_in_fields name_alone gs ≡ true → P k l fs ≡ true → P k m gs ≡ true)
    (blocks : (l : Label) (fs : Fields) → (P BlockStatement l fs ≡ true) × ((P SwitchCase l fs ≡ true) × ((P VariableDeclaration l fs ≡ true) × (P VariableDeclarator l fs ≡ true))))
    (names : (l m : Label) (fs gs : Fields) → m.texts ≡ l.texts → P Identifier l fs ≡ true → P Identifier m gs ≡ true) (new : (l : Label) (fs : Fields) → fresh (first_text l.texts) ≡ true → P Identifier l fs ≡ true) where
  abbrev Passes : Tree → Type 0
  Passes t = all_nodes P t ≡ true

  alone-done : (o : Label) (gs : Fields) → (name_alone Identifier o gs && all_in_fields name_alone gs) ≡ true → all_in_fields P gs ≡ true
  alone-done o done h = refl
  alone-done o (f then gs) h = absurd (cc h)

  declarator-so : (n o : Label) (gs : Fields) (es : Trees) → P Identifier o gs ≡ true → all_in_trees name_alone (node VariableDeclarator n (one (node Identifier o gs) then missing then done) before es) ≡ true → (all_in_trees name_alone es ≡ true → all_in_trees P es ≡ true) →
      all_in_trees P (node VariableDeclarator n (one (node Identifier o gs) then missing then done) before es) ≡ true
  declarator-so n o gs es own h later =
      let fs : Fields = one (node Identifier o gs) then missing then done in
      let d = and_parts (all_nodes name_alone (node VariableDeclarator n fs)) (all_in_trees name_alone es) h in
      let c = and_parts (name_alone Identifier o gs && all_in_fields name_alone gs) true d.0 in
      and_from (all_nodes P (node VariableDeclarator n fs)) (all_in_trees P es)
      (and_from (P VariableDeclarator n fs) (all_in_fields P fs) (blocks n fs).1.1.1 (and_from (all_nodes P (node Identifier o gs)) true (and_from (P Identifier o gs) (all_in_fields P gs) own (alone-done o gs c.0)) refl)) (later d.1)

  grown-so : {ds es : Trees} → GrownDeclarators fresh ds es → all_in_trees P ds ≡ true → all_in_trees name_alone es ≡ true → all_in_trees P es ≡ true
  grown-so none_grown h n = refl
  grown-so (as_named {l = l} {m = m} {n = w} {o = o} {fs = fs} {gs = gs} {ds = ds} {es = es} e g) h n =
      let d = and_parts (all_nodes P (node VariableDeclarator l (one (node Identifier m fs) then missing then done))) (all_in_trees P ds) h in
      let c = and_parts (P VariableDeclarator l (one (node Identifier m fs) then missing then done)) (all_nodes P (node Identifier m fs) && true) d.0 in
      let i = and_parts (P Identifier m fs) (all_in_fields P fs) (and_parts (all_nodes P (node Identifier m fs)) true c.1).0 in
      declarator-so w o gs es (names m o fs gs e i.0) n (grown-so g d.1)
  grown-so (one_grown {n = w} {o = o} {gs = gs} {es = es} e g) h n = declarator-so w o gs es (new o gs e) n (grown-so g h)

  var-so : (m : Label) (es : Trees) → all_in_trees P es ≡ true → all_nodes P (node VariableDeclaration m (many es then done)) ≡ true
  var-so m es h = and_from (P VariableDeclaration m (many es then done)) (all_in_trees P es && true) (blocks m (many es then done)).1.1.0 (and_from (all_in_trees P es) true h refl)

  mutual
    pub tree-so : {r : Room} {ds : List Declared} {t : Take} {a b : Tree} → Moved fresh R r ds t a b → Passes a → Alone b → Passes b
    tree-so (moved_place e h) n q = rows _ _ _ _ h n
    tree-so (moved_node {k = k} {l = l} {m = m} {fs = fs} {gs = gs} e i h) n q =
        let d = and_parts (P k l fs) (all_in_fields P fs) n in
        let c = and_parts (name_alone k m gs) (all_in_fields name_alone gs) q in
        and_from (P k m gs) (all_in_fields P gs) (nodes _ _ _ k l m fs gs e h c.1 d.0) (fields-so h d.1 c.1)
    tree-so (moved_block {l = l} {m = m} {ts = ts} {us = us} e h) n q =
        let d = and_parts (P BlockStatement l (statements ts then done)) (all_in_trees P ts && true) n in
        let c = and_parts (name_alone BlockStatement m (statements us then done)) (all_in_trees name_alone us && true) q in
        and_from (P BlockStatement m (statements us then done)) (all_in_trees P us && true) (blocks m (statements us then done)).0 (and_from (all_in_trees P us) true (list-so h (and_parts (all_in_trees P ts) true d.1).0 (and_parts (all_in_trees name_alone us) true c.1).0) refl)
    tree-so (moved_case {l = l} {m = m} {f = f} {g = g} {ts = ts} {us = us} e h j) n q =
        let d = and_parts (P SwitchCase l (f then statements ts then done)) (all_in_field P f && (all_in_trees P ts && true)) n in
        let c = and_parts (name_alone SwitchCase m (g then statements us then done)) (all_in_field name_alone g && (all_in_trees name_alone us && true)) q in
        let d2 = and_parts (all_in_field P f) (all_in_trees P ts && true) d.1 in
        let c2 = and_parts (all_in_field name_alone g) (all_in_trees name_alone us && true) c.1 in
        and_from (P SwitchCase m (g then statements us then done)) (all_in_field P g && (all_in_trees P us && true)) (blocks m (g then statements us then done)).1.0
        (and_from (all_in_field P g) (all_in_trees P us && true) (field-so h d2.0 c2.0) (and_from (all_in_trees P us) true (list-so j (and_parts (all_in_trees P ts) true d2.1).0 (and_parts (all_in_trees name_alone us) true c2.1).0) refl))

    pub fields-so : {r : ℕ → Room} {ds : ℕ → List Declared} {c : ℕ → Take} {fs gs : Fields} → MovedFields fresh R r ds c fs gs → all_in_fields P fs ≡ true → all_in_fields name_alone gs ≡ true → all_in_fields P gs ≡ true
    fields-so moved_done n q = refl
    fields-so (moved_then {f = f} {g = g} {fs = fs} {gs = gs} h j) n q =
        let d = and_parts (all_in_field P f) (all_in_fields P fs) n in
        let c = and_parts (all_in_field name_alone g) (all_in_fields name_alone gs) q in
        and_from (all_in_field P g) (all_in_fields P gs) (field-so h d.0 c.0) (fields-so j d.1 c.1)

    field-so : {r : Room} {ds : List Declared} {t : Take} {f g : Field} → MovedField fresh R r ds t f g → all_in_field P f ≡ true → all_in_field name_alone g ≡ true → all_in_field P g ≡ true
    field-so moved_missing n q = refl
    field-so (moved_one h) n q = tree-so h n q
    field-so (moved_many h) n q = trees-so h n q
    field-so (moved_statements h) n q = trees-so h n q

    trees-so : {r : Room} {ds : List Declared} {t : Take} {ts us : Trees} → MovedTrees fresh R r ds t ts us → all_in_trees P ts ≡ true → all_in_trees name_alone us ≡ true → all_in_trees P us ≡ true
    trees-so moved_empty n q = refl
    trees-so (moved_before {a = a} {b = b} {ts = ts} {us = us} h j) n q =
        let d = and_parts (all_nodes P a) (all_in_trees P ts) n in
        let c = and_parts (all_nodes name_alone b) (all_in_trees name_alone us) q in
        and_from (all_nodes P b) (all_in_trees P us) (tree-so h d.0 c.0) (trees-so j d.1 c.1)

    pub list-so : {r : Room} {ds : List Declared} {more : Bool} {ts us : Trees} → MovedList fresh R r ds more ts us → all_in_trees P ts ≡ true → all_in_trees name_alone us ≡ true → all_in_trees P us ≡ true
    list-so moved_end n q = refl
    list-so (moved_statement {a = a} {b = b} {ts = ts} {us = us} h j) n q =
        let d = and_parts (all_nodes P a) (all_in_trees P ts) n in
        let c = and_parts (all_nodes name_alone b) (all_in_trees name_alone us) q in
        and_from (all_nodes P b) (all_in_trees P us) (tree-so h d.0 c.0) (list-so j d.1 c.1)
    list-so (moved_new {m = m} {es = es} {us = us} e g j) n q =
        let c = and_parts (all_in_trees name_alone es && true) (all_in_trees name_alone us) q in
        and_from (all_nodes P (node VariableDeclaration m (many es then done))) (all_in_trees P us) (var-so m es (grown-so g refl (and_parts (all_in_trees name_alone es) true c.0).0)) (list-so j n c.1)
    list-so (moved_grown {l = l} {m = m} {cs = cs} {es = es} {ts = ts} {us = us} e i g j) n q =
        let d = and_parts (all_nodes P (node VariableDeclaration l (many cs then done))) (all_in_trees P ts) n in
        let d2 = and_parts (P VariableDeclaration l (many cs then done)) (all_in_trees P cs && true) d.0 in
        let c = and_parts (all_in_trees name_alone es && true) (all_in_trees name_alone us) q in
        and_from (all_nodes P (node VariableDeclaration m (many es then done))) (all_in_trees P us) (var-so m es (grown-so g (and_parts (all_in_trees P cs) true d2.1).0 (and_parts (all_in_trees name_alone es) true c.0).0)) (list-so j d.1 c.1)
