-- A namespace export in the list of a program becomes an import, which binds a fresh name there, and an export of that name: the rules of
-- declared names are kept.
use Rattle.std.proofs.Common.{◌≡◌, refl, sym, subst, ◌∙◌, List, [], ◌∷◌, ◌++◌}
use Rattle.std.specs.Prelude.{Bool, true, false, not, if◌then◌else◌}
use Rattle.es_tree.specs.Ancestors.{Ancestor}
use Rattle.es_tree.specs.DeclaredNames.{Name, bound_names, exported_names, name}
use Rattle.es_tree.specs.HasForm.{has_form, trees_form}
use Rattle.es_tree.specs.Names.{first_text}
use Rattle.es_tree.specs.Tree.{Tree, node, Label, Fields, done, ◌then◌, missing, one, many, Trees, empty, ◌before◌}
use Rattle.es_tree.specs.Words.{Text}
use Rattle.es_tree.specs.declared.ast_type.AstType.TheVariants.{ExportAllDeclaration, ExportNamedDeclaration, ExportSpecifier, Identifier, ImportAttribute, ImportDeclaration, ImportNamespaceSpecifier, Program, StringLiteral}
use Rattle.es_tree.specs.declared.place.Namespace.TheVariants.{Scope}
use Rattle.es_tree.specs.declared.table.Sort.TheVariants.{ImportAttribute as s-ImportAttribute, ModuleExportName as s-ModuleExportName, Statement as s-Statement, StringLiteral as s-StringLiteral}
use Rattle.es_tree.proofs.NodeForm.{node_form}
use Rattle.es_steps.specs.NamespaceExports.{NamespaceRule}
use Rattle.es_steps.specs.NamespaceExports.NamespaceRule.{exports}
use Rattle.es_steps.specs.Nodes.{identifier, joined_trees, made, specifier_node}
use Rattle.es_steps.specs.Open.{OpenTrees, after_imports, is_import, finished, finished_trees, opened}
use Rattle.es_steps.specs.Rules.{next_name}
use Rattle.es_steps.specs.Steps.{Ledger, Site}
use Rattle.es_steps.specs.Steps.Spot.{at_node, at_beside}
use Rattle.es_steps.proofs.FormLists.{first-formed}
use Rattle.es_steps.proofs.Opened.{finished-opened}
use Rattle.es_steps.proofs.RuleLaws.{used-after}
use Rattle.es_steps.proofs.Taken.{pending_in, this_in, top_in}
use Rattle.es_steps.proofs.Temporaries.{AreTaken}
use Rattle.es_valid_steps.proofs.NamespaceRows.{export-form}
use Rattle.es_valid_steps.proofs.ProgramLists.{Exported}
use Rattle.es_valid_steps.proofs.ProgramLists.Exported.{here, there}
use Rattle.es_valid_names.proofs.Claims.{Around, Clear, ClearAll, above, claims, claims_all, elsewhere, is_owned, push}
use Rattle.es_valid_names.proofs.ClearPending.{joined-claims}
use Rattle.es_valid_names.proofs.ClearRules.{taken-new, use_in}
use Rattle.es_valid_names.proofs.Grown.{IsNew}
use Rattle.es_valid_names.proofs.MoreAround.{Allows, clear-more, clear-more-all}
use Rattle.es_valid_names.proofs.Mute.{Free, free-append, free-exported, free-filter}
use Rattle.es_valid_names.proofs.OneMore.{OneMore, now, more-behind}

-- what the program binds
abbrev pub bound_there : Text → Name
bound_there x = name Scope 1 x true

-- NAMES AND STRINGS in imports and exports own nothing, and keep the rules at places where none is asked

exported-own : (up : List Ancestor) → ((x : Text) → Free (bound_names up x)) → (t : Tree) → has_form s-ModuleExportName t ≡ true → claims is_owned up t ≡ []
exported-own up b (node Identifier l done) f = λ i. push (free-filter (bound_names up (first_text l.texts) ++ exported_names up (first_text l.texts)) (free-append (bound_names up (first_text l.texts)) (exported_names up (first_text l.texts)) (b (first_text l.texts)) (free-exported up (first_text l.texts))) i) []
exported-own up b (node StringLiteral l done) f = λ i. push (free-filter (exported_names up (first_text l.texts)) (free-exported up (first_text l.texts)) i) []
exported-own up b (node Identifier l (g then gs)) f = absurd (let no : false ≡ true = (node_form s-ModuleExportName Identifier l (g then gs) f).children in cc no)
exported-own up b (node StringLiteral l (g then gs)) f = absurd (let no : false ≡ true = (node_form s-ModuleExportName StringLiteral l (g then gs) f).children in cc no)
exported-own up b (node k l fs) f = absurd (let no : false ≡ true = (node_form s-ModuleExportName k l fs f).sort in cc no)

source-own : (up : List Ancestor) (t : Tree) → has_form s-StringLiteral t ≡ true → claims is_owned up t ≡ []
source-own up (node StringLiteral l done) f = λ i. push (free-filter (exported_names up (first_text l.texts)) (free-exported up (first_text l.texts)) i) []
source-own up (node StringLiteral l (g then gs)) f = absurd (let no : false ≡ true = (node_form s-StringLiteral StringLiteral l (g then gs) f).children in cc no)
source-own up (node k l fs) f = absurd (let no : false ≡ true = (node_form s-StringLiteral k l fs f).sort in cc no)

attributes-own : (up : List Ancestor) (ts : Trees) → trees_form s-ImportAttribute s-ImportAttribute ts ≡ true → claims_all is_owned up ts ≡ []
attributes-own up empty f = refl
attributes-own up (node ImportAttribute k done before ts) f = attributes-own up ts (first-formed s-ImportAttribute (node ImportAttribute k done) ts f).1
attributes-own up (node ImportAttribute k (g then gs) before ts) f = absurd (let no : false ≡ true = (node_form s-ImportAttribute ImportAttribute k (g then gs) (first-formed s-ImportAttribute (node ImportAttribute k (g then gs)) ts f).0).children in cc no)
attributes-own up (node k j fs before ts) f = absurd (let no : false ≡ true = (node_form s-ImportAttribute k j fs (first-formed s-ImportAttribute (node k j fs) ts f).0).sort in cc no)

module _ (d : Around) where
  exported-clear : (t : Tree) → has_form s-ModuleExportName t ≡ true → Clear d elsewhere t
  exported-clear (node Identifier l done) f = (tt, refl, tt)
  exported-clear (node StringLiteral l done) f = (tt, refl, tt)
  exported-clear (node Identifier l (g then gs)) f = absurd (let no : false ≡ true = (node_form s-ModuleExportName Identifier l (g then gs) f).children in cc no)
  exported-clear (node StringLiteral l (g then gs)) f = absurd (let no : false ≡ true = (node_form s-ModuleExportName StringLiteral l (g then gs) f).children in cc no)
  exported-clear (node k l fs) f = absurd (let no : false ≡ true = (node_form s-ModuleExportName k l fs f).sort in cc no)

  source-clear : (t : Tree) → has_form s-StringLiteral t ≡ true → Clear d elsewhere t
  source-clear (node StringLiteral l done) f = (tt, refl, tt)
  source-clear (node StringLiteral l (g then gs)) f = absurd (let no : false ≡ true = (node_form s-StringLiteral StringLiteral l (g then gs) f).children in cc no)
  source-clear (node k l fs) f = absurd (let no : false ≡ true = (node_form s-StringLiteral k l fs f).sort in cc no)

  attributes-clear : (ts : Trees) → trees_form s-ImportAttribute s-ImportAttribute ts ≡ true → ClearAll d elsewhere ts
  attributes-clear empty f = tt
  attributes-clear (node ImportAttribute k done before ts) f = ((tt, refl, tt), attributes-clear ts (first-formed s-ImportAttribute (node ImportAttribute k done) ts f).1)
  attributes-clear (node ImportAttribute k (g then gs) before ts) f = absurd (let no : false ≡ true = (node_form s-ImportAttribute ImportAttribute k (g then gs) (first-formed s-ImportAttribute (node ImportAttribute k (g then gs)) ts f).0).children in cc no)
  attributes-clear (node k j fs before ts) f = absurd (let no : false ≡ true = (node_form s-ImportAttribute k j fs (first-formed s-ImportAttribute (node k j fs) ts f).0).sort in cc no)

-- WHAT ONE EXPORT BECOMES, in the list of a program that is looked at

abbrev pub program_list : Label → List Ancestor
program_list l = above Program l done 1 1 ∷ []

record Became (s s' : Ledger) (t i e : Tree) : Type 0 where
  text : Text
  new : IsNew (use_in s) (use_in s') (bound_there text)
  more : (x : Text) → use_in s x ≡ true → use_in s' x ≡ true
  pending : pending_in s' ≡ pending_in s
  this : this_in s' ≡ this_in s
  top : top_in s' ≡ top_in s
  no_import : is_import t ≡ false
  an_import : is_import i ≡ true
  an_export : is_import e ≡ false
  owned_before : (l : Label) → claims is_owned (program_list l) t ≡ []
  imported : (l : Label) → claims is_owned (program_list l) i ≡ (bound_there text ∷ []) ∷ []
  exported : (l : Label) → claims is_owned (program_list l) e ≡ []
  import_clear : (d : Around) → Clear d elsewhere i
  export_clear : (d : Around) → d.top text ≡ true → Clear d elsewhere e

became : {n : Site} {s s' : Ledger} {t i e : Tree} → NamespaceRule n s (at_node t) s' (at_beside (i ∷ []) e []) → has_form s-Statement t ≡ true → Became s s' t i e
became (exports {w = w} {m = m} {e = e} {s = source} {attributes = attributes} {x = x} d fresh q r o) f =
    let form = export-form m e source attributes f in
    let b = next_name w x in
    let taken : AreTaken w.in_use w.free_symbol (b ∷ []) = ((fresh.free, refl), tt) in
    let it = taken-new w (b ∷ []) taken in
    let old : Fields = one e then one source then many attributes then done in
    let import_label : Label = record (made [] []) { start = m.start; stop = m.stop } in
    let new : Fields = many (node ImportNamespaceSpecifier (made [] []) (one (identifier b) then done) before empty) then one source then many attributes then done in
    let names : Fields = one (identifier b) then one e then done in
    let list : Fields = missing then many (specifier_node (identifier b) e before empty) then missing then many empty then done in
    record {
      text = x;
      new = record { space = refl; fresh = it.0.0; known = it.0.1 };
      more = λ y h. used-after (b ∷ []) w.in_use y h;
      pending = refl;
      this = refl;
      top = refl;
      no_import = refl;
      an_import = refl;
      an_export = refl;
      owned_before = λ l j.
          exported-own (above ExportAllDeclaration m old 0 0 ∷ program_list l) (λ y. tt) e form.exported j
          ++ (source-own (above ExportAllDeclaration m old 1 0 ∷ program_list l) source form.from j ++ (attributes-own (above ExportAllDeclaration m old 2 0 ∷ program_list l) attributes form.given j ++ []));
      imported = λ l j.
          (bound_there x ∷ [])
          ∷ (source-own (above ImportDeclaration import_label new 1 0 ∷ program_list l) source form.from j ++ (attributes-own (above ImportDeclaration import_label new 2 0 ∷ program_list l) attributes form.given j ++ []));
      exported = λ l j. ((exported-own (above ExportSpecifier (made [] []) names 1 0 ∷ (above ExportNamedDeclaration (made [] []) list 1 0 ∷ program_list l)) (λ y. tt) e form.exported j ++ []) ++ []) ++ [];
      import_clear = λ c. (tt, refl, (((tt, refl, ((tt, refl, tt), tt)), tt), (source-clear c source form.from, (attributes-clear c attributes form.given, tt))));
      export_clear = λ c g. (tt, refl, (tt, (((tt, refl, ((tt, (λ j. not (g j)), tt), (exported-clear c e form.exported, tt))), tt), (tt, (tt, tt)))));
    }

-- THE LIST

pub record ListMore (s s' : Ledger) (ts us : Trees) : Type 0 where
  pub text : Text
  pub new : IsNew (use_in s) (use_in s') (bound_there text)
  pub more : (x : Text) → use_in s x ≡ true → use_in s' x ≡ true
  pub pending : pending_in s' ≡ pending_in s
  pub this : this_in s' ≡ this_in s
  pub top : top_in s' ≡ top_in s
  pub plain : (l : Label) → OneMore (bound_there text) (claims_all is_owned (program_list l) ts) (claims_all is_owned (program_list l) us)
  pub around : (l : Label) (bs : Trees) → OneMore (bound_there text) (claims_all is_owned (program_list l) (after_imports bs ts)) (claims_all is_owned (program_list l) (after_imports bs us))
  pub clear : (c d : Around) → Allows c d → d.top text ≡ true → ClearAll c elsewhere ts → ClearAll d elsewhere us

module _ (used : Text → Bool) (l : Label) (n : Name) where
  abbrev Owned : Trees → List (List Name)
  Owned ts = claims_all is_owned (program_list l) ts

  joined-owned : (bs ts : Trees) → Owned (joined_trees bs ts) ≡ Owned bs ++ Owned ts
  joined-owned bs ts = joined-claims used used (program_list l) bs ts

  plain-here : (t i e : Tree) (ts : Trees) → claims is_owned (program_list l) t ≡ [] → claims is_owned (program_list l) i ≡ (n ∷ []) ∷ [] → claims is_owned (program_list l) e ≡ [] → OneMore n (Owned (t before ts)) (Owned (i before (e before ts)))
  plain-here t i e ts a b c =
      subst (λ (gs : List (List Name)). OneMore n gs (Owned (i before (e before ts)))) (λ j. sym a j ++ Owned ts)
      (subst (λ (hs : List (List Name)). OneMore n (Owned ts) hs) (λ j. sym b j ++ (sym c j ++ Owned ts)) (now (Owned ts)))

  around-here : (t i e : Tree) (ts bs : Trees) → is_import t ≡ false → is_import i ≡ true → is_import e ≡ false → claims is_owned (program_list l) t ≡ [] → claims is_owned (program_list l) i ≡ (n ∷ []) ∷ [] → claims is_owned (program_list l) e ≡ [] → OneMore n (Owned (after_imports bs (t before ts))) (Owned (after_imports bs (i before (e before ts))))
  around-here t i e ts bs v w z a b c =
      let old : Owned (after_imports bs (t before ts)) ≡ Owned bs ++ Owned ts = (λ j. Owned (if v j then t before after_imports bs ts else joined_trees bs (t before ts))) ∙ joined-owned bs (t before ts) ∙ (λ j. Owned bs ++ (a j ++ Owned ts)) in
      let new : Owned (after_imports bs (i before (e before ts))) ≡ (n ∷ []) ∷ (Owned bs ++ Owned ts) =
      (λ j. Owned (if w j then i before (if z j then e before after_imports bs ts else joined_trees bs (e before ts)) else joined_trees bs (i before (e before ts))))
      ∙ (λ j. b j ++ joined-owned bs (e before ts) j)
      ∙ (λ j. (n ∷ []) ∷ (Owned bs ++ (c j ++ Owned ts))) in
      subst (λ (gs : List (List Name)). OneMore n gs (Owned (after_imports bs (i before (e before ts))))) (sym old)
      (subst (λ (hs : List (List Name)). OneMore n (Owned bs ++ Owned ts) hs) (sym new) (now (Owned bs ++ Owned ts)))

  around-there : (t : Tree) (ts us bs : Trees) → OneMore n (Owned ts) (Owned us) → OneMore n (Owned (after_imports bs ts)) (Owned (after_imports bs us)) → OneMore n (Owned (after_imports bs (t before ts))) (Owned (after_imports bs (t before us)))
  around-there t ts us bs h k = at (is_import t)
    where
      at : (v : Bool) → OneMore n (Owned (if v then t before after_imports bs ts else joined_trees bs (t before ts))) (Owned (if v then t before after_imports bs us else joined_trees bs (t before us)))
      at true = more-behind (claims is_owned (program_list l) t) k
      at false =
          subst (λ (gs : List (List Name)). OneMore n gs (Owned (joined_trees bs (t before us)))) (sym (joined-owned bs (t before ts)))
          (subst (λ (hs : List (List Name)). OneMore n (Owned bs ++ Owned (t before ts)) hs) (sym (joined-owned bs (t before us))) (more-behind (Owned bs) (more-behind (claims is_owned (program_list l) t) h)))

pub list-more : {n : Site} {s s' : Ledger} {ts us : OpenTrees} → Exported n s s' ts us → trees_form s-Statement s-Statement (finished_trees ts) ≡ true → ListMore s s' (finished_trees ts) (finished_trees us)
list-more {n} {s} {s'} (here t i e {ts = ts} h) f =
    let rest = finished_trees ts in
    let r = became h (subst (λ (x : Tree). has_form s-Statement x ≡ true) (finished-opened t) (first-formed s-Statement (finished (opened t)) rest f).0) in
    subst (λ (x : Tree). ListMore s s' (x before rest) (finished (opened i) before (finished (opened e) before rest))) (sym (finished-opened t))
    (subst (λ (x : Tree). ListMore s s' (t before rest) (x before (finished (opened e) before rest))) (sym (finished-opened i))
    (subst (λ (x : Tree). ListMore s s' (t before rest) (i before (x before rest))) (sym (finished-opened e))
    (record {
      text = r.text;
      new = r.new;
      more = r.more;
      pending = r.pending;
      this = r.this;
      top = r.top;
      plain = λ l. plain-here (use_in s) l (bound_there r.text) t i e rest (r.owned_before l) (r.imported l) (r.exported l);
      around = λ l bs. around-here (use_in s) l (bound_there r.text) t i e rest bs r.no_import r.an_import r.an_export (r.owned_before l) (r.imported l) (r.exported l);
      clear = λ c d a g k. (r.import_clear d, (r.export_clear d g, clear-more-all c d a elsewhere rest k.1));
    })))
list-more {n} {s} {s'} (there t {ts = ts} {us = us} h) f =
    let r = list-more h (first-formed s-Statement (finished t) (finished_trees ts) f).1 in
    record {
      text = r.text;
      new = r.new;
      more = r.more;
      pending = r.pending;
      this = r.this;
      top = r.top;
      plain = λ l. more-behind (claims is_owned (program_list l) (finished t)) (r.plain l);
      around = λ l bs. around-there (use_in s) l (bound_there r.text) (finished t) (finished_trees ts) (finished_trees us) bs (r.plain l) (r.around l bs);
      clear = λ c d a g k. (clear-more c d a elsewhere (finished t) k.0, r.clear c d a g k.1);
    }
