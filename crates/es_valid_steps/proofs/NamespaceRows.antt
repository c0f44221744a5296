-- Namespace exports keep form and the static rules of places: what an export becomes, and the list of the program in which it stood.
use Rattle.std.proofs.Common.{◌≡◌, refl, sym, subst, List, [], ◌∷◌}
use Rattle.std.specs.Prelude.{true, false, Some}
use Rattle.std.proofs.lemmas.Bool.{and_parts, and_from}
use Rattle.es_tree.specs.Ancestors.{Ancestor, ancestor, place_of}
use Rattle.es_tree.specs.HasForm.{has_form, trees_form}
use Rattle.es_tree.specs.Tree.{Tree, node, Label, Fields, done, ◌then◌, missing, one, many, Trees, empty, ◌before◌}
use Rattle.es_tree.specs.declared.ast_type.AstType.TheVariants.{ExportAllDeclaration, ExportNamedDeclaration, ExportSpecifier, Identifier, ImportAttribute, ImportDeclaration, ImportNamespaceSpecifier, Program, StringLiteral}
use Rattle.es_tree.specs.declared.place.Place.TheVariants.{Other}
use Rattle.es_tree.specs.declared.table.Sort.TheVariants.{ImportAttribute as s-ImportAttribute, ModuleExportName as s-ModuleExportName, Program as s-Program, Statement as s-Statement, StringLiteral as s-StringLiteral}
use Rattle.es_tree.proofs.NodeForm.{node_form, has_form-node}
use Rattle.es_resolution.specs.Declarations.{Bound}
use Rattle.es_steps.specs.NamespaceExports.{NamespaceRule, namespace_import}
use Rattle.es_steps.specs.NamespaceExports.NamespaceRule.{exports}
use Rattle.es_steps.specs.Nodes.{export_node, identifier, made, placed, specifier_node}
use Rattle.es_steps.specs.Open.{Additions, Open, ◌and◌, ends, list, OpenTrees, finished, finished_fields, finished_trees, opened, pending_statements, whole_list}
use Rattle.es_steps.specs.Rules.{next_name}
use Rattle.es_steps.specs.Steps.{Ledger, ledger, Site}
use Rattle.es_steps.specs.Steps.Spot.{at_node, at_beside}
use Rattle.es_steps.proofs.FormLists.{IsListIn, Setting, after-rest, first-formed, list-formed, temporaries_alone}
use Rattle.es_steps.proofs.FormMembers.{formed-first}
use Rattle.es_steps.proofs.FormOpen.{AreTidyTrees, IsProper, IsTidy, opened-tidy}
use Rattle.es_steps.proofs.FormParts.{HasSpan, IsText, no-span, span-of}
use Rattle.es_steps.proofs.FormRows.{next-text}
use Rattle.es_steps.proofs.FormRules.{NewNames, no-names, nothing-new}
use Rattle.es_steps.proofs.FormSteps.{list-after}
use Rattle.es_steps.proofs.Opened.{finished-opened}
use Rattle.es_valid_steps.specs.PlaceRules.{Keeps, KeepsAll}
use Rattle.es_valid_steps.proofs.Changed.ChangedField.{same_field, list_changed}
use Rattle.es_valid_steps.proofs.Changed.ChangedFields.{ends as no_more, more}
use Rattle.es_valid_steps.proofs.Free.{made-there}
use Rattle.es_valid_steps.proofs.Loose.{Loose, loose}
use Rattle.es_valid_steps.proofs.Pending.{TopKeeps, after-rest as kept-rest, list-keeps, nothing-keeps}
use Rattle.es_valid_steps.proofs.PlaceSteps.{in-node}
use Rattle.es_valid_steps.proofs.ProgramLists.{Exported, ProgramExported}
use Rattle.es_valid_steps.proofs.ProgramLists.Exported.{here, there}
use Rattle.es_valid_steps.proofs.ProgramLists.ProgramExported.{at_list as in_the_list}

-- FORM: of `import * as x from "m" with { .. }` and of `export { x as n }`

pub record ExportForm (m : Label) (e source : Tree) (attributes : Trees) : Type 0 where
  pub exported : has_form s-ModuleExportName e ≡ true
  pub from : has_form s-StringLiteral source ≡ true
  pub given : trees_form s-ImportAttribute s-ImportAttribute attributes ≡ true
  pub span : HasSpan m

pub export-form : (m : Label) (e source : Tree) (attributes : Trees) → has_form s-Statement (node ExportAllDeclaration m (one e then one source then many attributes then done)) ≡ true → ExportForm m e source attributes
export-form m e source attributes h =
    let fs : Fields = one e then one source then many attributes then done in
    let first = and_parts (has_form s-ModuleExportName e) _ (node_form s-Statement ExportAllDeclaration m fs h).children in
    let second = and_parts (has_form s-StringLiteral source) _ first.1 in
    record { exported = first.0; from = second.0; given = (and_parts (trees_form s-ImportAttribute s-ImportAttribute attributes) true second.1).0; span = span-of s-Statement ExportAllDeclaration m fs h }

formed-import : (m : Label) (x : Bound) (e source : Tree) (attributes : Trees) → IsText x → ExportForm m e source attributes → has_form s-Statement (placed m (namespace_import x source attributes)) ≡ true
formed-import m x e source attributes named h =
    let specifier : Tree = node ImportNamespaceSpecifier (made [] []) (one (identifier x) then done) in
    let from : has_form s-StringLiteral source ≡ true = h.from in
    let given : trees_form s-ImportAttribute s-ImportAttribute attributes ≡ true = h.given in
    has_form-node s-Statement ImportDeclaration (record (made [] []) { start = m.start; stop = m.stop }) (many (specifier before empty) then one source then many attributes then done) (record { sort = refl; texts = refl; flags = refl; start = h.span.start; stop = h.span.stop; agree = refl; children = rw (named, from, given) refl })

formed-export : (m : Label) (x : Bound) (e source : Tree) (attributes : Trees) → IsText x → ExportForm m e source attributes → has_form s-Statement (export_node (specifier_node (identifier x) e ∷ [])) ≡ true
formed-export m x e source attributes named h =
    let exported : has_form s-ModuleExportName e ≡ true = h.exported in
    let span = no-span [] [] in
    has_form-node s-Statement ExportNamedDeclaration (made [] []) (missing then many (specifier_node (identifier x) e before empty) then missing then many empty then done) (record { sort = refl; texts = refl; flags = refl; start = span.start; stop = span.stop; agree = refl; children = rw (named, exported) refl })

-- NODES WITHOUT CHILDREN, which keep the rules wherever no kind is asked for

module _ (up : List Ancestor) (r : Loose up) (at_other : place_of up ≡ Other) where
  name-keeps : (x : Bound) → Keeps up (identifier x)
  name-keeps x = (made-there up Identifier (record (made (Some x.name ∷ []) []) { marks = x.symbol ∷ [] }) done r (rw at_other refl) refl refl refl, tt)

  exported-keeps : (t : Tree) → has_form s-ModuleExportName t ≡ true → Keeps up t
  exported-keeps (node Identifier l done) h = (made-there up Identifier l done r (rw at_other refl) refl refl refl, tt)
  exported-keeps (node StringLiteral l done) h = (made-there up StringLiteral l done r (rw at_other refl) refl refl refl, tt)
  exported-keeps (node Identifier l (f then fs)) h = absurd (let no : false ≡ true = (node_form s-ModuleExportName Identifier l (f then fs) h).children in cc no)
  exported-keeps (node StringLiteral l (f then fs)) h = absurd (let no : false ≡ true = (node_form s-ModuleExportName StringLiteral l (f then fs) h).children in cc no)
  exported-keeps (node k l fs) h = absurd (let no : false ≡ true = (node_form s-ModuleExportName k l fs h).sort in cc no)

  source-keeps : (t : Tree) → has_form s-StringLiteral t ≡ true → Keeps up t
  source-keeps (node StringLiteral l done) h = (made-there up StringLiteral l done r (rw at_other refl) refl refl refl, tt)
  source-keeps (node StringLiteral l (f then fs)) h = absurd (let no : false ≡ true = (node_form s-StringLiteral StringLiteral l (f then fs) h).children in cc no)
  source-keeps (node k l fs) h = absurd (let no : false ≡ true = (node_form s-StringLiteral k l fs h).sort in cc no)

  attribute-keeps : (t : Tree) → has_form s-ImportAttribute t ≡ true → Keeps up t
  attribute-keeps (node ImportAttribute l done) h = (made-there up ImportAttribute l done r (rw at_other refl) refl refl refl, tt)
  attribute-keeps (node ImportAttribute l (f then fs)) h = absurd (let no : false ≡ true = (node_form s-ImportAttribute ImportAttribute l (f then fs) h).children in cc no)
  attribute-keeps (node k l fs) h = absurd (let no : false ≡ true = (node_form s-ImportAttribute k l fs h).sort in cc no)

  attributes-keep : (ts : Trees) → trees_form s-ImportAttribute s-ImportAttribute ts ≡ true → KeepsAll up ts
  attributes-keep empty h = tt
  attributes-keep (t before ts) h = let parts = first-formed s-ImportAttribute t ts h in (attribute-keeps t parts.0, attributes-keep ts parts.1)

-- IN THE LIST OF A PROGRAM

module _ (l : Label) (all : Fields) where
  abbrev up : List Ancestor
  up = ancestor Program l all 1 0 ∷ []

  -- `import * as x from "m" with { .. };`
  import-keeps : (m : Label) (x : Bound) (e source : Tree) (attributes : Trees) → ExportForm m e source attributes → Keeps up (node ExportAllDeclaration m (one e then one source then many attributes then done)) → Keeps up (placed m (namespace_import x source attributes))
  import-keeps m x e source attributes f h =
      let placed_label : Label = record (made [] []) { start = m.start; stop = m.stop } in
      let local : Fields = one (identifier x) then done in
      let fs : Fields = many (node ImportNamespaceSpecifier (made [] []) local before empty) then one source then many attributes then done in
      let outside : List Ancestor = ancestor ImportDeclaration placed_label fs 0 0 ∷ up in
      let specifier = made-there outside ImportNamespaceSpecifier (made [] []) local (loose placed_label fs 0 0 up ImportDeclaration refl) refl refl refl refl in
      let name = name-keeps (ancestor ImportNamespaceSpecifier (made [] []) local 0 0 ∷ outside) (loose (made [] []) local 0 0 outside ImportNamespaceSpecifier refl) refl x in
      let from = source-keeps (ancestor ImportDeclaration placed_label fs 1 0 ∷ up) (loose placed_label fs 1 0 up ImportDeclaration refl) refl source f.from in
      let given = attributes-keep (ancestor ImportDeclaration placed_label fs 2 0 ∷ up) (loose placed_label fs 2 0 up ImportDeclaration refl) refl attributes f.given in (
        record { jump = refl; label = refl; returned = refl; super_word = refl; target = refl; chain = refl; mark = refl; deleted = refl; value = refl; using_word = refl; head = refl; item = h.0.item; accessor = refl; rest = refl; declaration = refl; meta = refl },
        (((specifier, (name, tt)), tt), (from, (given, tt))),
      )

  -- `export { x as n };`
  export-keeps : (m : Label) (x : Bound) (e source : Tree) (attributes : Trees) → ExportForm m e source attributes → Keeps up (node ExportAllDeclaration m (one e then one source then many attributes then done)) → Keeps up (export_node (specifier_node (identifier x) e ∷ []))
  export-keeps m x e source attributes f h =
      let es : Fields = one (identifier x) then one e then done in
      let fs : Fields = missing then many (node ExportSpecifier (made [] []) es before empty) then missing then many empty then done in
      let outside : List Ancestor = ancestor ExportNamedDeclaration (made [] []) fs 1 0 ∷ up in
      let local = name-keeps (ancestor ExportSpecifier (made [] []) es 0 0 ∷ outside) (loose (made [] []) es 0 0 outside ExportSpecifier refl) refl x in
      let exported = exported-keeps (ancestor ExportSpecifier (made [] []) es 1 0 ∷ outside) (loose (made [] []) es 1 0 outside ExportSpecifier refl) refl e f.exported in (
        record { jump = refl; label = refl; returned = refl; super_word = refl; target = refl; chain = refl; mark = refl; deleted = refl; value = refl; using_word = refl; head = refl; item = h.0.item; accessor = refl; rest = refl; declaration = refl; meta = refl },
        (tt, (((record { jump = refl; label = refl; returned = refl; super_word = refl; target = refl; chain = refl; mark = refl; deleted = refl; value = refl; using_word = refl; head = refl; item = refl; accessor = refl; rest = refl; declaration = refl; meta = refl }, (local, (exported, tt))), tt), (tt, (tt, tt)))),
      )

-- what one export becomes
record Replaced (s s' : Ledger) (t i e : Tree) : Type 0 where
  imported : has_form s-Statement i ≡ true
  exported : has_form s-Statement e ≡ true
  names : NewNames s s'
  import_kept : (l : Label) (all : Fields) → Keeps (up l all) t → Keeps (up l all) i
  export_kept : (l : Label) (all : Fields) → Keeps (up l all) t → Keeps (up l all) e

replaced : {n : Site} {s s' : Ledger} {t i e : Tree} → NamespaceRule n s (at_node t) s' (at_beside (i ∷ []) e []) → has_form s-Statement t ≡ true → Replaced s s' t i e
replaced (exports {w = w} {p = p} {m = m} {e = e} {s = source} {attributes = attributes} {x = x} d fresh q r o) f =
    let name = next_name w x in
    let form = export-form m e source attributes f in
    let named = next-text w _ name (record { fresh = fresh; symbol = refl }) in
    record {
      imported = formed-import m name e source attributes named form;
      exported = formed-export m name e source attributes named form;
      names = record { names = []; texts = tt; pending = no-names p; this = refl; top = refl };
      import_kept = λ l all h. import-keeps l all m name e source attributes form h;
      export_kept = λ l all h. export-keeps l all m name e source attributes form h;
    }

record ListLeft (P : Setting) (s s' : Ledger) (ts us : OpenTrees) : Type 0 where
  formed : trees_form s-Statement s-Statement (finished_trees us) ≡ true
  proper : AreTidyTrees (IsListIn P) us
  names : NewNames s s'
  keeps : (l : Label) (all : Fields) → KeepsAll (up l all) (finished_trees ts) → KeepsAll (up l all) (finished_trees us)

list-left : (P : Setting) {n : Site} {s s' : Ledger} {ts us : OpenTrees} → Exported n s s' ts us → AreTidyTrees (IsListIn P) ts → trees_form s-Statement s-Statement (finished_trees ts) ≡ true → ListLeft P s s' ts us
list-left P (here t i e {ts = ts} h) proper f =
    let parts = first-formed s-Statement (finished (opened t)) (finished_trees ts) f in
    let r = replaced h (subst (λ (x : Tree). has_form s-Statement x ≡ true) (finished-opened t) parts.0) in
    let formed : (x : Tree) → has_form s-Statement x ≡ true → has_form s-Statement (finished (opened x)) ≡ true = λ x g. subst (λ (y : Tree). has_form s-Statement y ≡ true) (sym (finished-opened x)) g in
    let kept : (l : Label) (all : Fields) (x : Tree) → (Keeps (up l all) t → Keeps (up l all) x) → Keeps (up l all) (finished (opened t)) → Keeps (up l all) (finished (opened x)) = λ l all x g k. subst (λ (y : Tree). Keeps (up l all) y) (sym (finished-opened x)) (g (subst (λ (y : Tree). Keeps (up l all) y) (finished-opened t) k)) in
    record {
      formed = formed-first s-Statement (finished (opened i)) (finished (opened e) before finished_trees ts) (formed i r.imported) (formed-first s-Statement (finished (opened e)) (finished_trees ts) (formed e r.exported) parts.1);
      proper = (opened-tidy P i, (opened-tidy P e, proper.1));
      names = r.names;
      keeps = λ l all g. (kept l all i (r.import_kept l all) g.0, (kept l all e (r.export_kept l all) g.0, g.1));
    }
list-left P (there t {ts = ts} {us = us} h) proper f =
    let parts = first-formed s-Statement (finished t) (finished_trees ts) f in
    let r = list-left P h proper.1 parts.1 in
    record { formed = formed-first s-Statement (finished t) (finished_trees us) parts.0 r.formed; proper = (proper.0, r.proper); names = r.names; keeps = λ l all g. (g.0, r.keeps l all g.1) }

-- THE PROGRAM

pub record ProgramLeftIn (P : Setting) (x y : Open) : Type 0 where
  pub proper : IsTidy (IsListIn P) y
  pub formed : has_form s-Program (finished y) ≡ true
  pub keeps : Keeps [] (finished x) → Keeps [] (finished y)

pub program-left-in : (P : Setting) → ((l : Label) (all : Fields) (a : Additions) → P.top.Is a → TopKeeps (up l all) a) → {s s' : Ledger} {x y : Open} → ProgramExported s s' x y → IsTidy (IsListIn P) x → has_form s-Program (finished x) ≡ true → ProgramLeftIn P x y
program-left-in P top_keeps (in_the_list {n = n} {w = w} {l = l} {d = d} {p = p} {q = q} {x = x} {y = y} {a = a} {b = b} {ts = ts} {us = us} h) proper f =
    let old = d and (list p x a ts and ends) in
    let new = d and (list q y b us and ends) in
    let all = finished_fields old in
    let m = node_form s-Program Program l all f in
    let parts = and_parts _ _ m.children in
    let list_form = (and_parts (trees_form s-Statement s-Statement (whole_list p x a (finished_trees ts))) true parts.1).0 in
    let r = list-left P h proper.1.0.1 (after-rest s-Statement (pending_statements p x a) (finished_trees ts) list_form) in
    let plain = list-after P p q x y a b r.names.names proper.1.0.0 r.names.texts r.names.pending (P.this.same x y r.names.this) (P.top.same a b r.names.top) in
    let s = ledger w p x a in
    record {
      proper = (proper.0, ((plain, r.proper), tt));
      formed = has_form-node s-Program Program l (finished_fields new) (record { sort = m.sort; texts = m.texts; flags = m.flags; start = m.start; stop = m.stop; agree = refl; children = and_from _ _ parts.0 (and_from _ true (list-formed P s-Statement q y b (finished_trees us) refl plain r.formed) refl) });
      keeps = λ g.
          (in-node n [] s s Program l old new s-Program f g (record {
            keeps = (g.1.0, (list-keeps Program l all 1 [] q y b (finished_trees us) refl plain.vars (top_keeps l all b plain.top) (r.keeps l all (kept-rest (up l all) (pending_statements p x a) (finished_trees ts) g.1.1.0)), tt));
            seen = more same_field (more list_changed no_more);
            names = nothing-new s s refl;
          })).keeps;
    }

-- with temporaries alone
abbrev pub ProgramLeft : Open → Open → Type 0
ProgramLeft = ProgramLeftIn temporaries_alone

pub program-left : {s s' : Ledger} {x y : Open} → ProgramExported s s' x y → IsProper x → has_form s-Program (finished x) ≡ true → ProgramLeft x y
program-left h = program-left-in temporaries_alone (λ l all a e. nothing-keeps (up l all) a e) h
