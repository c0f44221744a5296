-- The names and the symbols of a source of the tree form are in use at first, where no export has a declaration beside a source.
use Rattle.std.proofs.Common.{◌≡◌, ℕ, zero, suc, ◌+◌, refl, sym, subst, ◌∙◌, List, [], ◌++◌, length}
use Rattle.std.specs.Prelude.{Bool, true, false, not, ◌&&◌, ◌||◌, Option, Some, None, bytes_eq, if◌then◌else◌}
use Rattle.std.proofs.lemmas.Bool.{and_parts, ltb-true, not-true}
use Rattle.std.proofs.lemmas.List.Folds.{list_any-append}
use Rattle.es_tree.specs.Words.{Text}
use Rattle.es_tree.specs.Fresh.{is_among}
use Rattle.es_tree.specs.HasForm.{sort_before_trees, has_form, fields_form, field_form, trees_form}
use Rattle.es_tree.specs.Names.{first_text, is_name_place, is_reexport, own_name, names_if, names_in_fields, names_in_field, names_in_trees, names_of}
use Rattle.es_tree.specs.StaticRules.{breaks, is_crowded_export, has_node}
use Rattle.es_tree.specs.Tree.{Tree, node, Label, Fields, done, ◌then◌, Field, missing, one, many, statements, Trees, empty, ◌before◌}
use Rattle.es_tree.specs.Walks.{all_nodes, all_in_fields, all_in_field, all_in_trees}
use Rattle.es_tree.specs.declared.ast_type.AstType.{AstType}
use Rattle.es_tree.specs.declared.ast_type.AstType.TheVariants.{Identifier, ExportNamedDeclaration, ImportAttribute, StringLiteral, MemberExpression, MethodDefinition, PropertyDefinition, ObjectProperty, PatternProperty, TargetProperty, BreakStatement, ContinueStatement, LabeledStatement, ImportSpecifier, ExportSpecifier, ExportAllDeclaration}
use Rattle.es_tree.specs.declared.table.Content.TheVariants.{Child as c-Child}
use Rattle.es_tree.specs.declared.table.Often.TheVariants.{Required, Optional, List as a-List}
use Rattle.es_tree.specs.declared.table.Sort.{Sort}
use Rattle.es_tree.specs.declared.table.Sort.TheVariants.{Program as s-Program, Declaration as s-Declaration, ExportSpecifier as s-ExportSpecifier, ModuleExportName as s-ModuleExportName, StringLiteral as s-StringLiteral, ImportAttribute as s-ImportAttribute}
use Rattle.es_tree.proofs.NodeForm.{NodeForm, node_form}
use Rattle.es_semantic.specs.Places.{Place, outermost, own_scope_count, place_in, scope_count_in, scope_count_in_field}
use Rattle.es_semantic.specs.RolesOf.{reads, role_at}
use Rattle.es_semantic.specs.SymbolsOf.{Declared, symbols_of}
use Rattle.es_semantic.specs.declared.place.Role.{Role}
use Rattle.es_semantic.specs.declared.place.Role.TheVariants.{Nothing}
use Rattle.es_semantic.specs.NodeMarks.{first_mark}
use Rattle.es_resolution.proofs.SymbolTrees.{own_symbols, resolved, resolved_tree, resolved_in, resolved_by, resolved_among}
use Rattle.es_resolution.specs.Named.{IsUsed, OwnUsed, IsBelow, Named, NamedIn, NamedBy, NamedAll}
use Rattle.es_resolution.proofs.Basics.{bytes_eq-self}
use Rattle.es_resolution.proofs.WholeExports.{is_whole_export, whole-exports}
use Rattle.es_resolution.proofs.AllForms.{All, AllIn, AllBy, AllAmong, all-tree}
use Rattle.es_resolution.proofs.Marks.{marked, role-kept}
use Rattle.es_resolution.proofs.Starting.{is_below, own-low}
use Rattle.es_resolution.proofs.Tests.{or-true}

-- what stands where no name stands has no role
unnamed : (r : Role) (k : AstType) (l : Label) (fs : Fields) (i : ℕ) → is_name_place k l i ≡ false → role_at r k l fs i ≡ Nothing
unnamed r MemberExpression l fs zero h = absurd (cc h)
unnamed r MemberExpression l fs (suc zero) h = rw h
unnamed r MemberExpression l fs (suc (suc i)) h = absurd (cc h)
unnamed r MethodDefinition l fs zero h = rw h
unnamed r MethodDefinition l fs (suc i) h = absurd (cc h)
unnamed r PropertyDefinition l fs zero h = rw h
unnamed r PropertyDefinition l fs (suc i) h = absurd (cc h)
unnamed r ObjectProperty l fs zero h = rw h
unnamed r ObjectProperty l fs (suc i) h = absurd (cc h)
unnamed r PatternProperty l fs zero h = rw h
unnamed r PatternProperty l fs (suc i) h = absurd (cc h)
unnamed r TargetProperty l fs zero h = rw h
unnamed r TargetProperty l fs (suc i) h = absurd (cc h)
unnamed r BreakStatement l fs zero h = refl
unnamed r BreakStatement l fs (suc i) h = absurd (cc h)
unnamed r ContinueStatement l fs zero h = refl
unnamed r ContinueStatement l fs (suc i) h = absurd (cc h)
unnamed r LabeledStatement l fs zero h = refl
unnamed r LabeledStatement l fs (suc i) h = absurd (cc h)
unnamed r ImportSpecifier l fs zero h = refl
unnamed r ImportSpecifier l fs (suc i) h = absurd (cc h)
unnamed r ExportSpecifier l fs zero h = absurd (cc h)
unnamed r ExportSpecifier l fs (suc zero) h = refl
unnamed r ExportSpecifier l fs (suc (suc i)) h = absurd (cc h)
unnamed r ExportAllDeclaration l fs zero h = refl
unnamed r ExportAllDeclaration l fs (suc i) h = absurd (cc h)
unnamed r _ l fs i h = absurd (cc h)

-- each of these names is in use
abbrev AllUsed : (Text → Bool) → List Text → Type 0
AllUsed u xs = (x : Text) → is_among xs x ≡ true → u x ≡ true

or_left : (a b : Bool) → a ≡ true → (a || b) ≡ true
or_left a b e = rw e

or_right : (a b : Bool) → b ≡ true → (a || b) ≡ true
or_right true b e = refl
or_right false b e = e

first_used : (u : Text → Bool) (xs ys : List Text) → AllUsed u (xs ++ ys) → AllUsed u xs
first_used u xs ys h x e = h x (list_any-append (λ y. bytes_eq y x) xs ys ∙ or_left (is_among xs x) (is_among ys x) e)

later_used : (u : Text → Bool) (xs ys : List Text) → AllUsed u (xs ++ ys) → AllUsed u ys
later_used u xs ys h x e = h x (list_any-append (λ y. bytes_eq y x) xs ys ∙ or_right (is_among xs x) (is_among ys x) e)

below-sound : (free : ℕ) (o : Option ℕ) → is_below free o ≡ true → IsBelow free o
below-sound free None h = tt
below-sound free (Some s) h = ltb-true s free h

used-sound : (u : Text → Bool) (r : Role) (x : Text) → u x ≡ true → IsUsed u r x
used-sound u Nothing x h = tt
used-sound u _ x h = h

-- AN EXPORT FROM ANOTHER MODULE: no identifier in it has a role

abbrev mutual
  pub Silent : Role → Tree → Type 0
  Silent r (node k l fs) = (k ≡ Identifier → r ≡ Nothing) × SilentIn (role_at r k l fs) fs

  pub SilentIn : (ℕ → Role) → Fields → Type 0
  SilentIn roles done = Unit {0}
  SilentIn roles (f then fs) = SilentBy (roles zero) f × SilentIn (λ i. roles (suc i)) fs

  pub SilentBy : Role → Field → Type 0
  SilentBy r missing = Unit {0}
  SilentBy r (one t) = Silent r t
  SilentBy r (many ts) = SilentAll r ts
  SilentBy r (statements ts) = SilentAll r ts

  pub SilentAll : Role → Trees → Type 0
  SilentAll r empty = Unit {0}
  SilentAll r (t before ts) = Silent r t × SilentAll r ts

leaf-name : (t : Tree) → has_form s-ModuleExportName t ≡ true → Silent Nothing t
leaf-name (node Identifier l done) h = (λ e. refl, tt)
leaf-name (node StringLiteral l done) h = (λ e. refl, tt)
leaf-name (node Identifier l (f then fs)) h = absurd (let no : false ≡ true = (node_form s-ModuleExportName Identifier l (f then fs) h).children in cc)
leaf-name (node StringLiteral l (f then fs)) h = absurd (let no : false ≡ true = (node_form s-ModuleExportName StringLiteral l (f then fs) h).children in cc)
leaf-name (node k l fs) h = absurd (let no : false ≡ true = (node_form s-ModuleExportName k l fs h).sort in cc)

leaf-source : (r : Role) (t : Tree) → has_form s-StringLiteral t ≡ true → Silent r t
leaf-source r (node StringLiteral l done) h = (λ e. absurd (cc e), tt)
leaf-source r (node StringLiteral l (f then fs)) h = absurd (let no : false ≡ true = (node_form s-StringLiteral StringLiteral l (f then fs) h).children in cc)
leaf-source r (node k l fs) h = absurd (let no : false ≡ true = (node_form s-StringLiteral k l fs h).sort in cc)

leaf-attribute : (r : Role) (t : Tree) → has_form s-ImportAttribute t ≡ true → Silent r t
leaf-attribute r (node ImportAttribute l done) h = (λ e. absurd (cc e), tt)
leaf-attribute r (node ImportAttribute l (f then fs)) h = absurd (let no : false ≡ true = (node_form s-ImportAttribute ImportAttribute l (f then fs) h).children in cc)
leaf-attribute r (node k l fs) h = absurd (let no : false ≡ true = (node_form s-ImportAttribute k l fs h).sort in cc)

name-field : (l : Label) (f : Field) → field_form ExportSpecifier l (c-Child s-ModuleExportName Required) f ≡ true → SilentBy Nothing f
name-field l (one t) h = leaf-name t h
name-field l missing h = absurd (cc h)
name-field l (many ts) h = absurd (cc h)
name-field l (statements ts) h = absurd (cc h)

specifier-fields : (l : Label) (fs : Fields) (h : NodeForm s-ExportSpecifier ExportSpecifier l fs) → SilentIn (role_at Nothing ExportSpecifier l fs) fs
specifier-fields l done h = absurd (let no : false ≡ true = h.children in cc)
specifier-fields l (f then done) h = absurd (let no = and_parts (field_form ExportSpecifier l (c-Child s-ModuleExportName Required) f) false h.children in cc (no.1))
specifier-fields l (f then (g then done)) h =
    let a = and_parts (field_form ExportSpecifier l (c-Child s-ModuleExportName Required) f) (field_form ExportSpecifier l (c-Child s-ModuleExportName Required) g && true) h.children in
    (name-field l f a.0, (name-field l g (and_parts (field_form ExportSpecifier l (c-Child s-ModuleExportName Required) g) true a.1).0, tt))
specifier-fields l (f then (g then (e then fs))) h =
    let a = and_parts (field_form ExportSpecifier l (c-Child s-ModuleExportName Required) f) (field_form ExportSpecifier l (c-Child s-ModuleExportName Required) g && false) h.children in
    absurd (let no = and_parts (field_form ExportSpecifier l (c-Child s-ModuleExportName Required) g) false a.1 in cc (no.1))

specifier : (t : Tree) → has_form s-ExportSpecifier t ≡ true → Silent Nothing t
specifier (node ExportSpecifier l fs) h = (λ e. refl, specifier-fields l fs (node_form s-ExportSpecifier ExportSpecifier l fs h))
specifier (node k l fs) h = absurd (let no : false ≡ true = (node_form s-ExportSpecifier k l fs h).sort in cc)

before-same : (s : Sort) (ts : Trees) → sort_before_trees s s ts ≡ s
before-same s empty = refl
before-same s (t before ts) = refl

each-silent : (s : Sort) (r : Role) → ((t : Tree) → has_form s t ≡ true → Silent r t) → (ts : Trees) → trees_form s s ts ≡ true → SilentAll r ts
each-silent s r law empty h = tt
each-silent s r law (t before ts) h =
    let both = and_parts (has_form (sort_before_trees s s ts) t) (trees_form s s ts) h in
    (law t (subst (λ (q : Sort). has_form q t ≡ true) (before-same s ts) both.0), each-silent s r law ts both.1)

specifiers : (l : Label) (f : Field) → field_form ExportNamedDeclaration l (c-Child s-ExportSpecifier a-List) f ≡ true → SilentBy Nothing f
specifiers l (many ts) h = each-silent s-ExportSpecifier Nothing specifier ts h
specifiers l missing h = absurd (cc h)
specifiers l (one t) h = absurd (cc h)
specifiers l (statements ts) h = absurd (cc h)

attributes : (r : Role) (l : Label) (f : Field) → field_form ExportNamedDeclaration l (c-Child s-ImportAttribute a-List) f ≡ true → SilentBy r f
attributes r l (many ts) h = each-silent s-ImportAttribute r (leaf-attribute r) ts h
attributes r l missing h = absurd (cc h)
attributes r l (one t) h = absurd (cc h)
attributes r l (statements ts) h = absurd (cc h)

no-declaration : (r : Role) (l : Label) (a b : Field) (t : Tree) (fs : Fields) → not (is_crowded_export (a then (b then (one t then fs)))) ≡ true → field_form ExportNamedDeclaration l (c-Child s-Declaration Optional) a ≡ true → SilentBy r a
no-declaration r l missing b t fs h e = tt
no-declaration r l (one c) b t fs h e = absurd (let no : true ≡ false = sym (or-true (has_node b)) ∙ not-true (has_node b || true) h in cc)
no-declaration r l (many ts) b t fs h e = absurd (cc e)
no-declaration r l (statements ts) b t fs h e = absurd (cc e)

abbrev IsSilentExport : AstType → Label → Fields → Type 0
IsSilentExport k l fs = is_reexport k fs ≡ true → is_whole_export k l fs ≡ true → (r : Role) → SilentIn (role_at r k l fs) fs

silent-fields : (l : Label) (a b d : Field) (t : Tree) (fs : Fields) → fields_form ExportNamedDeclaration l [] fs ≡ true → field_form ExportNamedDeclaration l (c-Child s-Declaration Optional) a ≡ true → field_form ExportNamedDeclaration l (c-Child s-ExportSpecifier a-List) b ≡ true → has_form s-StringLiteral t ≡ true →
    field_form ExportNamedDeclaration l (c-Child s-ImportAttribute a-List) d ≡ true → not (is_crowded_export (a then (b then (one t then (d then fs))))) ≡ true → (r : Role) → SilentIn (role_at r ExportNamedDeclaration l (a then (b then (one t then (d then fs))))) (a then (b then (one t then (d then fs))))
silent-fields l a b d t done z ha hb ht hd w r = (no-declaration r l a b t (d then done) w ha, (specifiers l b hb, (leaf-source reads t ht, (attributes reads l d hd, tt))))
silent-fields l a b d t (f then fs) z ha hb ht hd w r = absurd (cc z)

silent-export : (s : Sort) (k : AstType) (l : Label) (fs : Fields) → NodeForm s k l fs → IsSilentExport k l fs
silent-export s ExportNamedDeclaration l (a then (b then (one t then (d then fs)))) h e w r =
    let first = field_form ExportNamedDeclaration l (c-Child s-Declaration Optional) a in
    let second = field_form ExportNamedDeclaration l (c-Child s-ExportSpecifier a-List) b in
    let third = has_form s-StringLiteral t in
    let fourth = field_form ExportNamedDeclaration l (c-Child s-ImportAttribute a-List) d in
    let last = fields_form ExportNamedDeclaration l [] fs in
    let p = and_parts first (second && (third && (fourth && last))) h.children in
    let q = and_parts second (third && (fourth && last)) p.1 in
    let u = and_parts third (fourth && last) q.1 in
    let v = and_parts fourth last u.1 in
    silent-fields l a b d t fs v.1 p.0 q.0 u.0 v.0 w r
silent-export s ExportNamedDeclaration l (a then (b then (one t then done))) h e w r =
    let first = field_form ExportNamedDeclaration l (c-Child s-Declaration Optional) a in
    let second = field_form ExportNamedDeclaration l (c-Child s-ExportSpecifier a-List) b in
    let third = has_form s-StringLiteral t in
    let p = and_parts first (second && (third && false)) h.children in
    let q = and_parts second (third && false) p.1 in
    absurd (let no = and_parts third false q.1 in cc (no.1))
silent-export s ExportNamedDeclaration l (a then (b then (missing then fs))) h e w r = absurd (cc e)
silent-export s ExportNamedDeclaration l (a then (b then (many ts then fs))) h e w r = absurd (cc e)
silent-export s ExportNamedDeclaration l (a then (b then (statements ts then fs))) h e w r = absurd (cc e)
silent-export s ExportNamedDeclaration l (a then (b then done)) h e w r = absurd (cc e)
silent-export s ExportNamedDeclaration l (a then done) h e w r = absurd (cc e)
silent-export s ExportNamedDeclaration l done h e w r = absurd (cc e)
silent-export s k l fs h e w r = absurd (cc e)

-- WHAT IS IN USE

own-silent : (u : Text → Bool) (r : Role) (k : AstType) (l : Label) → (k ≡ Identifier → r ≡ Nothing) → OwnUsed u r k l
own-silent u r Identifier l h = subst (λ (o : Role). IsUsed u o (first_text l.texts)) (sym (h refl)) tt
own-silent u r _ l h = tt

own-used : (u : Text → Bool) (r : Role) (counts : Bool) (k : AstType) (l : Label) (m : List (Option ℕ)) → (counts ≡ false → r ≡ Nothing) → AllUsed u (own_name counts k l) → OwnUsed u r k (marked l m)
own-used u r true Identifier l m role h = used-sound u r (first_text l.texts) (h (first_text l.texts) (or_left (bytes_eq (first_text l.texts) (first_text l.texts)) false (bytes_eq-self (first_text l.texts))))
own-used u r false Identifier l m role h = subst (λ (o : Role). IsUsed u o (first_text l.texts)) (sym (role refl)) tt
own-used u r counts _ l m role h = tt

own-below : (F : List Declared) (p : Place) (n : ℕ) (k : AstType) (l : Label) (fs : Fields) → IsBelow (length F) (first_mark (own_symbols F p n k l fs))
own-below F p n k l fs = below-sound (length F) (first_mark (own_symbols F p n k l fs)) (own-low F p n k l fs)

either-way : (b : Bool) (P : Type 0) → (b ≡ true → P) → (b ≡ false → P) → P
either-way true P f g = f refl
either-way false P f g = g refl

module _ (F : List Declared) (u : Text → Bool) where
  mutual
    silent-tree : (p : Place) (n : ℕ) (t : Tree) → Silent p.role t → Named u (length F) p.role (resolved_tree F p n t)
    silent-tree p n (node k l fs) h =
        let ps = place_in p n k l fs in
        let m = n + own_scope_count k fs in (
          (own-silent u p.role k (marked l (own_symbols F p n k l fs)) h.0, own-below F p n k l fs),
          subst (λ (rs : ℕ → Role). NamedIn u (length F) rs (resolved_in F ps m fs)) (sym (role-kept F ps m p.role k l (own_symbols F p n k l fs) fs)) (silent-in ps m fs h.1),
        )

    silent-in : (ps : ℕ → Place) (n : ℕ) (fs : Fields) → SilentIn (λ i. (ps i).role) fs → NamedIn u (length F) (λ i. (ps i).role) (resolved_in F ps n fs)
    silent-in ps n done h = tt
    silent-in ps n (f then fs) h = (silent-by (ps zero) n f h.0, silent-in (λ i. ps (suc i)) (n + scope_count_in_field f) fs h.1)

    silent-by : (p : Place) (n : ℕ) (f : Field) → SilentBy p.role f → NamedBy u (length F) p.role (resolved_by F p n f)
    silent-by p n missing h = tt
    silent-by p n (one t) h = silent-tree p n t h
    silent-by p n (many ts) h = silent-all p n ts h
    silent-by p n (statements ts) h = silent-all p n ts h

    silent-all : (p : Place) (n : ℕ) (ts : Trees) → SilentAll p.role ts → NamedAll u (length F) p.role (resolved_among F p n ts)
    silent-all p n empty h = tt
    silent-all p n (t before ts) h = (silent-tree p n t h.0, silent-all p (n + scope_count_in t) ts h.1)

  mutual
    named-tree : (p : Place) (n : ℕ) (counts : Bool) (t : Tree) → (counts ≡ false → p.role ≡ Nothing) → All IsSilentExport t → all_nodes is_whole_export t ≡ true → AllUsed u (names_if counts t) → Named u (length F) p.role (resolved_tree F p n t)
    named-tree p n counts (node k l fs) role q w h =
        let ps = place_in p n k l fs in
        let m = n + own_scope_count k fs in
        let inside = (if is_reexport k fs then [] else names_in_fields (is_name_place k l) fs) in
        let whole = and_parts (is_whole_export k l fs) (all_in_fields is_whole_export fs) w in (
          (own-used u p.role counts k l (own_symbols F p n k l fs) role (first_used u (own_name counts k l) inside h), own-below F p n k l fs),
          subst (λ (rs : ℕ → Role). NamedIn u (length F) rs (resolved_in F ps m fs)) (sym (role-kept F ps m p.role k l (own_symbols F p n k l fs) fs))
              (either-way (is_reexport k fs) (NamedIn u (length F) (role_at p.role k l fs) (resolved_in F ps m fs))
              (λ e. silent-in ps m fs (q.0 e whole.0 p.role))
              (λ e. named-in ps m (is_name_place k l) fs (λ i. unnamed p.role k l fs i) q.1 whole.1
              (subst (λ (b : Bool). AllUsed u (if b then [] else names_in_fields (is_name_place k l) fs)) e (later_used u (own_name counts k l) inside h)))),
        )

    named-in : (ps : ℕ → Place) (n : ℕ) (counts : ℕ → Bool) (fs : Fields) → ((i : ℕ) → counts i ≡ false → (ps i).role ≡ Nothing) → AllIn IsSilentExport fs → all_in_fields is_whole_export fs ≡ true → AllUsed u (names_in_fields counts fs) → NamedIn u (length F) (λ i. (ps i).role) (resolved_in F ps n fs)
    named-in ps n counts done role q w h = tt
    named-in ps n counts (f then fs) role q w h =
        let whole = and_parts (all_in_field is_whole_export f) (all_in_fields is_whole_export fs) w in (
          named-by (ps zero) n (counts zero) f (role zero) q.0 whole.0 (first_used u (names_in_field (counts zero) f) (names_in_fields (λ i. counts (suc i)) fs) h),
          named-in (λ i. ps (suc i)) (n + scope_count_in_field f) (λ i. counts (suc i)) fs (λ i. role (suc i)) q.1 whole.1 (later_used u (names_in_field (counts zero) f) (names_in_fields (λ i. counts (suc i)) fs) h),
        )

    named-by : (p : Place) (n : ℕ) (counts : Bool) (f : Field) → (counts ≡ false → p.role ≡ Nothing) → AllBy IsSilentExport f → all_in_field is_whole_export f ≡ true → AllUsed u (names_in_field counts f) → NamedBy u (length F) p.role (resolved_by F p n f)
    named-by p n counts missing role q w h = tt
    named-by p n counts (one t) role q w h = named-tree p n counts t role q w h
    named-by p n counts (many ts) role q w h = named-all p n ts q w h
    named-by p n counts (statements ts) role q w h = named-all p n ts q w h

    named-all : (p : Place) (n : ℕ) (ts : Trees) → AllAmong IsSilentExport ts → all_in_trees is_whole_export ts ≡ true → AllUsed u (names_in_trees ts) → NamedAll u (length F) p.role (resolved_among F p n ts)
    named-all p n empty q w h = tt
    named-all p n (t before ts) q w h =
        let whole = and_parts (all_nodes is_whole_export t) (all_in_trees is_whole_export ts) w in
        (named-tree p n true t (λ e. absurd (cc e)) q.0 whole.0 (first_used u (names_if true t) (names_in_trees ts) h), named-all p (n + scope_count_in t) ts q.1 whole.1 (later_used u (names_if true t) (names_in_trees ts) h))

pub form-named : (p : Tree) → has_form s-Program p ≡ true → breaks p ≡ [] → Named (is_among (names_of p)) (length (symbols_of p)) reads (resolved p)
form-named p form valid = named-tree (symbols_of p) (is_among (names_of p)) (outermost p) 1 true p (λ e. absurd (cc e)) (all-tree IsSilentExport silent-export s-Program p form) (whole-exports p valid) (λ x e. e)
