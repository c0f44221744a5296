-- What the statements of a program export, and nothing else in it does: those are the names that its visits export.
use Rattle.std.proofs.Common.{◌≡◌, ◌+◌, ℕ, suc, refl, sym, ap, ◌∙◌, List, [], ◌∷◌, ◌++◌, filter}
use Rattle.std.specs.Prelude.{Bool, true, false, not, codes, if◌then◌else◌}
use Rattle.std.proofs.lemmas.Bool.{and_parts}
use Rattle.std.proofs.lemmas.List.{append-nil, map-append}
use Rattle.es_tree.specs.Ancestors.{Ancestor, ancestor, scopes, visits, visits_in_field, visits_in_fields}
use Rattle.es_tree.specs.BoundNames.{bound_in_field, bound_in_trees, bound_identifiers}
use Rattle.es_tree.specs.CoreStaticRules.{is_lexical}
use Rattle.es_tree.specs.DeclaredNames.{bound_names, declaration_names, export_name, exported_names, function_names, is_at_top, lexical_names, var_names}
use Rattle.es_tree.specs.HasForm.{has_form, same_type}
use Rattle.es_tree.specs.Names.{first_text}
use Rattle.es_tree.specs.Tree.{Tree, node, Label, Fields, done, ◌then◌, Field, missing, one, many, statements, Trees, empty, ◌before◌, field_size, fields_of, kind_of, label_of}
use Rattle.es_tree.specs.Words.{Text}
use Rattle.es_tree.specs.declared.ast_type.AstType.{AstType}
use Rattle.es_tree.specs.declared.ast_type.AstType.TheVariants.{ClassDeclaration, ExportAllDeclaration, ExportDefaultDeclaration, ExportNamedDeclaration, ExportSpecifier, FunctionDeclaration, Identifier, Program, StringLiteral, VariableDeclaration, VariableDeclarator}
use Rattle.es_tree.specs.declared.table.Sort.TheVariants.{Program as s-Program}
use Rattle.es_tree.proofs.NodeForm.{node_form}
use Rattle.es_semantic.proofs.FormEdges.{Edges, EdgesBy, EdgesIn, is_last}
use Rattle.es_valid_steps.specs.PlaceRules.{Keeps, KeepsBy, KeepsIn}
use Rattle.es_valid_steps.proofs.ProgramLists.{two-fields}
use Rattle.es_module_names.specs.Modules.{bound_texts, declarator_texts, declared_texts, exported, exported_of, name_text, specifier_text, texts_among, texts_by}
use Rattle.es_valid_names.proofs.Claims.{push}
use Rattle.es_valid_names.proofs.ExportPlaces.{Silent, expects, exported-append, exported_in, filter-append, fits, fits-edges, is_declaration_kind, is_exported, is_name_kind, local-filter, local-first, local-own, quiet-at, quiet-in, silent-fields, silent-in, silent-tree}
use Rattle.es_valid_names.proofs.ExportTexts.{behind-silent, each-field, edge-fields, edge-kind, later-quiet, lists, lists-append, pattern-field, texts_of, third-quiet, with-rest}
use Rattle.es_valid_names.proofs.StandsFit.{one-zero, two-one}

-- NAMES AND STRINGS

-- a place where such a node exports its text
record Naming (up : List Ancestor) (j : AstType) : Type 0 where
  kind : is_name_kind j ≡ true
  identifier : same_type j Identifier ≡ true → (x : Text) → filter is_exported (bound_names up x ++ exported_names up x) ≡ export_name x
  string : same_type j StringLiteral ≡ true → (x : Text) → filter is_exported (exported_names up x) ≡ export_name x

naming-exports : (up vp : List Ancestor) (s : ℕ) (t : Tree) → Naming up (kind_of t) → EdgesIn fits (kind_of t) 0 (fields_of t) → Keeps vp t → exported_in (visits up s t) ≡ lists (name_text t)
naming-exports up vp n (node Identifier l fs) h e r = λ i. push (h.identifier refl (first_text l.texts) i) (silent-fields up vp Identifier l fs n 0 (suc n) fs (λ j a. quiet-in up vp Identifier l fs n j refl refl (λ d. absurd (cc d))) e r.1 i)
naming-exports up vp n (node StringLiteral l fs) h e r = λ i. push (h.string refl (first_text l.texts) i) (silent-fields up vp StringLiteral l fs n 0 (suc n) fs (λ j a. quiet-in up vp StringLiteral l fs n j refl refl (λ d. absurd (cc d))) e r.1 i)
naming-exports up vp n (node _ l fs) h e r = absurd (let no = h.kind in cc no)

naming-field : (up vp : List Ancestor) (k : AstType) (i : ℕ) → ((j : AstType) → expects k i j ≡ true → Naming up j) → (last : Bool) (s : ℕ) (f : Field) → EdgesBy fits k i last f → KeepsBy vp f → exported_in (visits_in_field up s f) ≡ lists (texts_by name_text f)
naming-field up vp k i h last s f e r = each-field up vp k i name_text (λ s last t e r. naming-exports up vp s t (h (kind_of t) (edge-kind k i last t e)) (edge-fields k i last t e) r) last s f e r

identifier-kind : (j : AstType) → same_type j Identifier ≡ true → is_name_kind j ≡ true
identifier-kind Identifier e = refl
identifier-kind _ e = absurd (cc e)

no-string : (j : AstType) → same_type j Identifier ≡ true → same_type j StringLiteral ≡ true → ⊥
no-string Identifier e d = cc d
no-string _ e d = cc e

-- EXPORTED DECLARATIONS

of-trees : (ts : Trees) → texts_of (bound_in_trees ts) ≡ texts_among bound_texts ts
of-trees empty = refl
of-trees (t before ts) = map-append (λ i. first_text (label_of i).texts) (bound_identifiers t) (bound_in_trees ts) ∙ ap (λ xs. bound_texts t ++ xs) (of-trees ts)

of-field : (f : Field) → texts_of (bound_in_field f) ≡ texts_by bound_texts f
of-field missing = refl
of-field (one t) = refl
of-field (many ts) = of-trees ts
of-field (statements ts) = of-trees ts

declarator-exports : (up vp : List Ancestor) → ((x : Text) → filter is_exported (declaration_names up x) ≡ export_name x) → (n : ℕ) (t : Tree) → same_type (kind_of t) VariableDeclarator ≡ true → EdgesIn fits (kind_of t) 0 (fields_of t) → Keeps vp t → exported_in (visits up n t) ≡ lists (declarator_texts t)
declarator-exports up vp h n (node VariableDeclarator l done) p e r = refl
declarator-exports up vp h n (node VariableDeclarator l (f then fs)) p e r =
    let all : Fields = f then fs in
    with-rest up vp VariableDeclarator l all n 0 (suc n) f fs (lists (texts_by bound_texts f))
    (pattern-field (ancestor VariableDeclarator l all 0 n ∷ up) (ancestor VariableDeclarator l all 0 0 ∷ vp) VariableDeclarator 0 (is_last fs) (suc n) f (λ j d. d) (record { bound = h; named = refl }) e.0 r.1.0 ∙ ap lists (of-field f))
    (later-quiet up vp VariableDeclarator l all n refl refl (λ j. refl) (λ j. rw (one-zero j) refl)) e.1 r.1.1
declarator-exports up vp h n (node _ l fs) p e r = absurd (cc p)

-- fields in which nothing stands
dead-field : (up : List Ancestor) (k : AstType) (i : ℕ) (last : Bool) (s : ℕ) (f : Field) → ((j : AstType) → expects k i j ≡ true → ⊥) → EdgesBy fits k i last f → exported_in (visits_in_field up s f) ≡ []
dead-field up k i last s missing never e = refl
dead-field up k i last s (one t) never e = absurd (never (kind_of t) (edge-kind k i last t e))
dead-field up k i last s (many empty) never e = refl
dead-field up k i last s (many (t before ts)) never e = absurd (never (kind_of t) (edge-kind k i false t e.0))
dead-field up k i last s (statements empty) never e = refl
dead-field up k i last s (statements (t before ts)) never e = absurd (never (kind_of t) (edge-kind k i false t e.0))

dead-fields : (up : List Ancestor) (k : AstType) (l : Label) (all : Fields) (n i s : ℕ) (fs : Fields) → ((m : ℕ) (j : AstType) → expects k (suc m) j ≡ true → ⊥) → EdgesIn fits k (suc i) fs → exported_in (visits_in_fields up k l all n (suc i) s fs) ≡ []
dead-fields up k l all n i s done never e = refl
dead-fields up k l all n i s (f then fs) never e =
    exported-append (visits_in_field (ancestor k l all (suc i) n ∷ up) s f) (visits_in_fields up k l all n (suc (suc i)) (s + field_size f) fs)
    ∙ (λ j. dead-field (ancestor k l all (suc i) n ∷ up) k (suc i) (is_last fs) s f (never i) e.0 j ++ dead-fields up k l all n (suc i) (s + field_size f) fs never e.1 j)

module _ (l : Label) (all : Fields) (m : ℕ) (up vp : List Ancestor) where
  -- the declaration of an export
  abbrev exporting : List Ancestor
  exporting = ancestor ExportNamedDeclaration l all 0 m ∷ up

  variables-exported : (k : Label) (fs : Fields) (n : ℕ) (x : Text) → filter is_exported (declaration_names (ancestor VariableDeclaration k fs 0 n ∷ exporting) x) ≡ export_name x
  variables-exported k fs n x =
      filter-append is_exported (if is_lexical (first_text k.texts) then lexical_names exporting x else var_names exporting x) (export_name x)
      ∙ (λ i. local-filter (if is_lexical (first_text k.texts) then lexical_names exporting x else var_names exporting x) (local-own (first_text k.texts) exporting x) i ++ export_name x)

  function-exported : (k : Label) (fs : Fields) (n : ℕ) (x : Text) → filter is_exported (bound_names (ancestor FunctionDeclaration k fs 0 n ∷ exporting) x ++ []) ≡ export_name x
  function-exported k fs n x =
      filter-append is_exported (function_names exporting x ++ export_name x) []
      ∙ append-nil (filter is_exported (function_names exporting x ++ export_name x))
      ∙ filter-append is_exported (function_names exporting x) (export_name x)
      ∙ (λ i. local-filter (function_names exporting x) (local-first (scopes exporting) x (not (is_at_top exporting))) i ++ export_name x)

  class-exported : (k : Label) (fs : Fields) (n : ℕ) (x : Text) → filter is_exported (bound_names (ancestor ClassDeclaration k fs 0 n ∷ exporting) x ++ []) ≡ export_name x
  class-exported k fs n x =
      filter-append is_exported (lexical_names exporting x ++ export_name x) []
      ∙ append-nil (filter is_exported (lexical_names exporting x ++ export_name x))
      ∙ filter-append is_exported (lexical_names exporting x) (export_name x)
      ∙ (λ i. local-filter (lexical_names exporting x) (local-first (scopes exporting) x true) i ++ export_name x)

  declaration-exports : (n : ℕ) (t : Tree) → is_declaration_kind (kind_of t) ≡ true → EdgesIn fits (kind_of t) 0 (fields_of t) → Keeps vp t → exported_in (visits exporting n t) ≡ lists (declared_texts t)
  declaration-exports n (node VariableDeclaration k done) p e r = refl
  declaration-exports n (node VariableDeclaration k (f then fs)) p e r =
      let its : Fields = f then fs in
      exported-append (visits_in_field (ancestor VariableDeclaration k its 0 n ∷ exporting) (suc n) f) (visits_in_fields exporting VariableDeclaration k its n 1 (suc n + field_size f) fs)
      ∙ (λ j. each-field (ancestor VariableDeclaration k its 0 n ∷ exporting) (ancestor VariableDeclaration k its 0 0 ∷ vp) VariableDeclaration 0 declarator_texts
      (λ s last t d q. declarator-exports (ancestor VariableDeclaration k its 0 n ∷ exporting) (ancestor VariableDeclaration k its 0 0 ∷ vp) (variables-exported k its n) s t (edge-kind VariableDeclaration 0 last t d) (edge-fields VariableDeclaration 0 last t d) q)
      (is_last fs) (suc n) f e.0 r.1.0 j
      ++ dead-fields exporting VariableDeclaration k its n 0 (suc n + field_size f) fs (λ m j d. cc d) e.1 j)
      ∙ append-nil (lists (texts_by declarator_texts f))
  declaration-exports n (node FunctionDeclaration k done) p e r = refl
  declaration-exports n (node FunctionDeclaration k (f then fs)) p e r =
      let its : Fields = f then fs in
      with-rest exporting vp FunctionDeclaration k its n 0 (suc n) f fs (lists (texts_by name_text f))
      (naming-field (ancestor FunctionDeclaration k its 0 n ∷ exporting) (ancestor FunctionDeclaration k its 0 0 ∷ vp) FunctionDeclaration 0 (λ j d. record { kind = identifier-kind j d; identifier = λ y x. function-exported k its n x; string = λ y. absurd (no-string j d y) }) (is_last fs) (suc n) f e.0 r.1.0)
      (later-quiet exporting vp FunctionDeclaration k its n refl refl (λ j. refl) (λ j. rw (one-zero j) refl)) e.1 r.1.1
  declaration-exports n (node ClassDeclaration k done) p e r = refl
  declaration-exports n (node ClassDeclaration k (f then fs)) p e r =
      let its : Fields = f then fs in
      with-rest exporting vp ClassDeclaration k its n 0 (suc n) f fs (lists (texts_by name_text f))
      (naming-field (ancestor ClassDeclaration k its 0 n ∷ exporting) (ancestor ClassDeclaration k its 0 0 ∷ vp) ClassDeclaration 0 (λ j d. record { kind = identifier-kind j d; identifier = λ y x. class-exported k its n x; string = λ y. absurd (no-string j d y) }) (is_last fs) (suc n) f e.0 r.1.0)
      (later-quiet exporting vp ClassDeclaration k its n refl refl (λ j. refl) (λ j. rw (one-zero j) refl)) e.1 r.1.1
  declaration-exports n (node _ k fs) p e r = absurd (cc p)

-- SPECIFIERS

specifier-exports : (up vp : List Ancestor) (n : ℕ) (t : Tree) → same_type (kind_of t) ExportSpecifier ≡ true → EdgesIn fits (kind_of t) 0 (fields_of t) → Keeps vp t → exported_in (visits up n t) ≡ lists (specifier_text t)
specifier-exports up vp n (node ExportSpecifier l done) p e r = refl
specifier-exports up vp n (node ExportSpecifier l (f then done)) p e r =
    let all : Fields = f then done in
    behind-silent up vp ExportSpecifier l all n 0 (suc n) f done [] (quiet-at up vp ExportSpecifier l all n 0 refl refl refl (λ d. absurd (cc d))) e.0 r.1.0 refl
specifier-exports up vp n (node ExportSpecifier l (f then (g then fs))) p e r =
    let all : Fields = f then (g then fs) in
    behind-silent up vp ExportSpecifier l all n 0 (suc n) f (g then fs) (lists (texts_by name_text g)) (quiet-at up vp ExportSpecifier l all n 0 refl refl refl (λ d. absurd (cc d))) e.0 r.1.0
    (with-rest up vp ExportSpecifier l all n 1 (suc n + field_size f) g fs (lists (texts_by name_text g))
    (naming-field (ancestor ExportSpecifier l all 1 n ∷ up) (ancestor ExportSpecifier l all 1 0 ∷ vp) ExportSpecifier 1 (λ j d. record { kind = d; identifier = λ y x. refl; string = λ y x. refl }) (is_last fs) (suc n + field_size f) g e.1.0 r.1.1.0)
    (third-quiet up vp ExportSpecifier l all n refl (λ j. refl) (λ j. rw (two-one j) refl) (λ j. refl)) e.1.1 r.1.1.1)
specifier-exports up vp n (node _ l fs) p e r = absurd (cc p)

-- STATEMENTS

module _ (up vp : List Ancestor) (quiet : Silent up) where
  named-exports : (n : ℕ) (l : Label) (fs : Fields) → EdgesIn fits ExportNamedDeclaration 0 fs → KeepsIn vp ExportNamedDeclaration l fs 0 fs → exported_in (visits_in_fields up ExportNamedDeclaration l fs n 0 (suc n) fs) ≡ lists (exported (node ExportNamedDeclaration l fs))
  named-exports n l done e r = refl
  named-exports n l (f then fs) e r = at fs e r
    where
      declared : (all : Fields) (last : Bool) → EdgesBy fits ExportNamedDeclaration 0 last f → KeepsBy (ancestor ExportNamedDeclaration l all 0 0 ∷ vp) f → exported_in (visits_in_field (ancestor ExportNamedDeclaration l all 0 n ∷ up) (suc n) f) ≡ lists (texts_by declared_texts f)
      declared all last e r = each-field (ancestor ExportNamedDeclaration l all 0 n ∷ up) (ancestor ExportNamedDeclaration l all 0 0 ∷ vp) ExportNamedDeclaration 0 declared_texts
          (λ s last t d q. declaration-exports l all n up (ancestor ExportNamedDeclaration l all 0 0 ∷ vp) s t (edge-kind ExportNamedDeclaration 0 last t d) (edge-fields ExportNamedDeclaration 0 last t d) q) last (suc n) f e r

      at : (fs : Fields) → EdgesIn fits ExportNamedDeclaration 0 (f then fs) → KeepsIn vp ExportNamedDeclaration l (f then fs) 0 (f then fs) → exported_in (visits_in_fields up ExportNamedDeclaration l (f then fs) n 0 (suc n) (f then fs)) ≡ lists (exported (node ExportNamedDeclaration l (f then fs)))
      at done e r =
          let all : Fields = f then done in
          exported-append (visits_in_field (ancestor ExportNamedDeclaration l all 0 n ∷ up) (suc n) f) [] ∙ (λ j. declared all true e.0 r.0 j ++ []) ∙ sym (lists-append (texts_by declared_texts f) [])
      at (g then fs) e r =
          let all : Fields = f then (g then fs) in
          let s = suc n + field_size f in
          exported-append (visits_in_field (ancestor ExportNamedDeclaration l all 0 n ∷ up) (suc n) f) (visits_in_fields up ExportNamedDeclaration l all n 1 s (g then fs))
          ∙ (λ j. declared all false e.0 r.0 j
          ++ with-rest up vp ExportNamedDeclaration l all n 1 s g fs (lists (texts_by specifier_text g))
          (each-field (ancestor ExportNamedDeclaration l all 1 n ∷ up) (ancestor ExportNamedDeclaration l all 1 0 ∷ vp) ExportNamedDeclaration 1 specifier_text
          (λ s last t d q. specifier-exports (ancestor ExportNamedDeclaration l all 1 n ∷ up) (ancestor ExportNamedDeclaration l all 1 0 ∷ vp) s t (edge-kind ExportNamedDeclaration 1 last t d) (edge-fields ExportNamedDeclaration 1 last t d) q)
          (is_last fs) s g e.1.0 r.1.0)
          (third-quiet up vp ExportNamedDeclaration l all n refl (λ j. two-one j) (λ j. rw (one-zero (suc j)) refl) (λ j. refl)) e.1.1 r.1.1 j)
          ∙ sym (lists-append (texts_by declared_texts f) (texts_by specifier_text g))

  all-exports : (n : ℕ) (l : Label) (fs : Fields) → EdgesIn fits ExportAllDeclaration 0 fs → KeepsIn vp ExportAllDeclaration l fs 0 fs → exported_in (visits_in_fields up ExportAllDeclaration l fs n 0 (suc n) fs) ≡ lists (exported (node ExportAllDeclaration l fs))
  all-exports n l done e r = refl
  all-exports n l (f then fs) e r =
      let all : Fields = f then fs in
      with-rest up vp ExportAllDeclaration l all n 0 (suc n) f fs (lists (texts_by name_text f))
      (naming-field (ancestor ExportAllDeclaration l all 0 n ∷ up) (ancestor ExportAllDeclaration l all 0 0 ∷ vp) ExportAllDeclaration 0 (λ j d. record { kind = d; identifier = λ y x. refl; string = λ y x. refl }) (is_last fs) (suc n) f e.0 r.0)
      (later-quiet up vp ExportAllDeclaration l all n refl refl (λ j. rw (one-zero j) refl) (λ j. refl)) e.1 r.1

  statement-exports : (n : ℕ) (last : Bool) (t : Tree) → Edges fits Program 1 last t → Keeps vp t → exported_in (visits up n t) ≡ lists (exported t)
  statement-exports n last (node ExportNamedDeclaration l fs) e r = named-exports n l fs e.1 r.1
  statement-exports n last (node ExportAllDeclaration l fs) e r = all-exports n l fs e.1 r.1
  statement-exports n last (node ExportDefaultDeclaration l fs) e r = λ j. export_name (codes "default") ∷ silent-fields up vp ExportDefaultDeclaration l fs n 0 (suc n) fs (λ i a. quiet-at up vp ExportDefaultDeclaration l fs n i refl refl refl (λ d. absurd (cc d))) e.1 r.1 j
  statement-exports n last (node ExportSpecifier l fs) e r = absurd (let no : false ≡ true = e.0 in cc no)
  statement-exports n last (node Program l fs) e r = absurd (let no : false ≡ true = e.0 in cc no)
  statement-exports n last (node k l fs) e r = silent-tree up vp n (node k l fs) quiet refl refl e.1 r

-- THE PROGRAM

pub program-exports : (t : Tree) → has_form s-Program t ≡ true → Keeps [] t → exported_in (visits [] 0 t) ≡ lists (exported_of t)
program-exports (node Program l (d then (statements ts then done))) f r =
    let all : Fields = d then (statements ts then done) in
    let e = fits-edges s-Program Program l all f in
    let here = ancestor Program l all 1 0 ∷ [] in
    behind-silent [] [] Program l all 0 0 1 d (statements ts then done) (lists (exported_of (node Program l all))) (record { silent = silent-in (ancestor Program l all 0 0) [] (λ y. absurd (cc y)) refl; below = refl; unlisted = refl }) e.0 r.1.0
    (exported-append (visits_in_field here (1 + field_size d) (statements ts)) []
    ∙ (λ j. each-field here here Program 1 exported (λ s last t e r. statement-exports here here (silent-in (ancestor Program l all 1 0) [] (λ y. absurd (cc y)) refl) s last t e r) true (1 + field_size d) (statements ts) e.1.0 r.1.1.0 j ++ [])
    ∙ append-nil (lists (exported_of (node Program l all))))
program-exports (node Program l (d then (statements ts then (g then fs)))) f r = absurd (let no : false ≡ true = (two-fields l d (statements ts) (g then fs) (node_form s-Program Program l (d then (statements ts then (g then fs))) f).children).1 in cc no)
program-exports (node Program l (d then (missing then fs))) f r = absurd (let no : false ≡ true = (two-fields l d missing fs (node_form s-Program Program l (d then (missing then fs)) f).children).0 in cc no)
program-exports (node Program l (d then (one t then fs))) f r = absurd (let no : false ≡ true = (two-fields l d (one t) fs (node_form s-Program Program l (d then (one t then fs)) f).children).0 in cc no)
program-exports (node Program l (d then (many ts then fs))) f r = absurd (let no : false ≡ true = (two-fields l d (many ts) fs (node_form s-Program Program l (d then (many ts then fs)) f).children).0 in cc no)
program-exports (node Program l (d then done)) f r = absurd (let no = (and_parts _ false (node_form s-Program Program l (d then done) f).children).1 in cc no)
program-exports (node Program l done) f r = absurd (let no : false ≡ true = (node_form s-Program Program l done f).children in cc no)
program-exports (node k l fs) f r = absurd (let no : false ≡ true = (node_form s-Program k l fs f).sort in cc no)
