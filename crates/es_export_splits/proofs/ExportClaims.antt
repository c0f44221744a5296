-- A program in whose list an export is split: it declares the same names, among them those that it exports, and the rules of declared names are kept.
use Rattle.std.proofs.Common.{◌≡◌, ℕ, suc, refl, sym, ap, subst, ◌∙◌, List, [], ◌∷◌, ◌++◌, append-nil, filter}
use Rattle.std.specs.Prelude.{Bool, true, false, not, ◌||◌, if◌then◌else◌}
use Rattle.std.specs.List.{list_any}
use Rattle.es_tree.specs.Ancestors.{Ancestor}
use Rattle.es_tree.specs.CoreStaticRules.{is_lexical}
use Rattle.es_tree.specs.DeclaredNames.{Name, bound_names, declaration_names, exported_names, is_same_name, lexical_names, var_names}
use Rattle.es_tree.specs.HasForm.{has_form}
use Rattle.es_tree.specs.Names.{first_text}
use Rattle.es_tree.specs.Tree.{Tree, node, Label, Fields, done, ◌then◌, Field, missing, many, one, statements, Trees, empty, ◌before◌}
use Rattle.es_tree.specs.Words.{Text}
use Rattle.es_tree.specs.declared.ast_type.AstType.TheVariants.{ArrayPattern, AssignmentPattern, ExportNamedDeclaration, Identifier, ObjectPattern, PatternProperty, Program, RestElement, VariableDeclaration, VariableDeclarator}
use Rattle.es_tree.specs.declared.place.Namespace.TheVariants.{Scope}
use Rattle.es_tree.specs.declared.table.Sort.TheVariants.{Program as s-Program}
use Rattle.es_resolution.proofs.Basics.{bytes_eq-self}
use Rattle.es_steps.specs.Nodes.{joined_trees, made}
use Rattle.es_valid_names.proofs.Claims.{Around, Clear, ClearAll, above, claims, claims_all, claims_by, claims_in, elsewhere, is_owned, joined, owned, push, specifier}
use Rattle.es_valid_names.proofs.ExportPlaces.{filter-append}
use Rattle.es_valid_names.proofs.MoreAround.{Allows, any-more, clear-more-all, clear-more-by}
use Rattle.es_valid_names.proofs.NameSteps.{around, top-says}
use Rattle.es_valid_names.proofs.ProgramNames.{program_list}
use Rattle.es_valid_using.proofs.UsingNamesLists.{Moved, moved-any, moved-apart, moved-both, moved-self}
use Rattle.es_valid_using.proofs.UsingNamesPlaces.{NearBut, claims-beyond, less-self}
use Rattle.es_top_imports.proofs.TopForms.{program_with}
use Rattle.es_export_splits.specs.SplitRule.{EachTree, names_of_export}
use Rattle.es_export_splits.specs.Splits.{export_of, names_of_declaration, specifiers, split_before, text_of, with_symbols}
use Rattle.es_export_splits.proofs.ExportNames.{HandedOn, IsExport, declaration-names, export_with}
use Rattle.es_export_splits.proofs.ExportNames.IsExport.{is_export}

-- LISTS in which a name is found that passes a test, whatever was before them

abbrev Holds : (Name → Bool) → List (List Name) → Type 0
Holds p gs = (ns : List Name) → list_any p (joined gs ns) ≡ true

module _ (p : Name → Bool) where
  any-first : (g ns : List Name) → list_any p g ≡ true → list_any p (g ++ ns) ≡ true
  any-first [] ns h = absurd (let no : false ≡ true = h in cc no)
  any-first (n ∷ g) ns h = at (p n) (any-first g ns) h
    where
      at : (b : Bool) → (list_any p g ≡ true → list_any p (g ++ ns) ≡ true) → (b || list_any p g) ≡ true → (b || list_any p (g ++ ns)) ≡ true
      at true rest h = refl
      at false rest h = rest h

  any-kept : (gs : List (List Name)) (ns : List Name) → list_any p ns ≡ true → list_any p (joined gs ns) ≡ true
  any-kept [] ns h = h
  any-kept (g ∷ gs) ns h = any-kept gs (g ++ ns) (any-more p g ns h)

  holds-left : (gs hs : List (List Name)) → Holds p gs → Holds p (gs ++ hs)
  holds-left [] hs h ns = any-kept hs ns (h ns)
  holds-left (g ∷ gs) hs h ns = at gs (g ++ ns) (h ns)
    where
      at : (gs : List (List Name)) (ms : List Name) → list_any p (joined gs ms) ≡ true → list_any p (joined (gs ++ hs) ms) ≡ true
      at [] ms e = any-kept hs ms e
      at (k ∷ gs) ms e = at gs (k ++ ms) e

  holds-right : (gs hs : List (List Name)) → Holds p hs → Holds p (gs ++ hs)
  holds-right [] hs h ns = h ns
  holds-right (g ∷ gs) hs h ns = holds-right gs hs h (g ++ ns)

  holds-push : (g : List Name) (gs : List (List Name)) → list_any p g ≡ true → Holds p (push g gs)
  holds-push [] gs h ns = absurd (let no : false ≡ true = h in cc no)
  holds-push (n ∷ g) gs h ns = any-kept gs ((n ∷ g) ++ ns) (any-first (n ∷ g) ns h)

abbrev Included : List (List Name) → List (List Name) → Type 0
Included gs hs = (p : Name → Bool) → Holds p gs → Holds p hs

included-left : (gs hs ks : List (List Name)) → Included (gs ++ hs) ks → Included gs ks
included-left gs hs ks h p e = h p (holds-left p gs hs e)

included-right : (gs hs ks : List (List Name)) → Included (gs ++ hs) ks → Included hs ks
included-right gs hs ks h p e = h p (holds-right p gs hs e)

-- THE NAMES OF A DECLARATION are declared in the program

abbrev Says : (Text → List Name) → Type 0
Says names = (y : Text) → list_any (is_same_name Scope 1 y) (filter is_owned (names y)) ≡ true

module _ (hs : List (List Name)) where
  -- something of which this is included, where names are bound
  record Bound (here : List Ancestor → List (List Name)) : Type 0 where
    up : List Ancestor
    says : Says (bound_names up)
    included : Included (here up) hs

  -- elements from one of them on
  record Elements (fs : Fields) : Type 0 where
    up : List Ancestor
    label : Label
    all : Fields
    index : ℕ
    says : Says (bound_names up)
    included : Included (claims_in is_owned up ArrayPattern label all 0 index fs) hs

  abbrev IsDeclared : Tree → Type 0
  IsDeclared x = Holds (is_same_name Scope 1 (text_of x)) hs

  abbrev By : Field → Type 0
  By f = Bound (λ up. claims_by is_owned up f)

  claims-handed : HandedOn IsDeclared (λ t. Bound (λ up. claims is_owned up t)) By (λ ts. Bound (λ up. claims_all is_owned up ts)) Elements
  claims-handed = record {
    names = λ l fs h.
        let x = first_text l.texts in
        let found = ap (λ ns. list_any (is_same_name Scope 1 x) ns) (filter-append is_owned (bound_names h.up x) (exported_names h.up x)) ∙ any-first (is_same_name Scope 1 x) (filter is_owned (bound_names h.up x)) (filter is_owned (exported_names h.up x)) (h.says x) in
        h.included (is_same_name Scope 1 x) (holds-push (is_same_name Scope 1 x) (filter is_owned (bound_names h.up x ++ exported_names h.up x)) (claims_in is_owned h.up Identifier l fs 0 0 fs) found);
    objects = λ l f fs h. record { up = above ObjectPattern l (f then fs) 0 0 ∷ h.up; says = h.says; included = included-left (claims_by is_owned (above ObjectPattern l (f then fs) 0 0 ∷ h.up) f) (claims_in is_owned h.up ObjectPattern l (f then fs) 0 1 fs) hs h.included };
    properties = λ l f g fs h. record { up = above PatternProperty l (f then g then fs) 1 0 ∷ h.up; says = h.says; included = included-left (claims_by is_owned (above PatternProperty l (f then g then fs) 1 0 ∷ h.up) g) (claims_in is_owned h.up PatternProperty l (f then g then fs) 0 2 fs) hs (included-right (claims_by is_owned (above PatternProperty l (f then g then fs) 0 0 ∷ h.up) f) (claims_in is_owned h.up PatternProperty l (f then g then fs) 0 1 (g then fs)) hs h.included) };
    defaults = λ l f fs h. record { up = above AssignmentPattern l (f then fs) 0 0 ∷ h.up; says = h.says; included = included-left (claims_by is_owned (above AssignmentPattern l (f then fs) 0 0 ∷ h.up) f) (claims_in is_owned h.up AssignmentPattern l (f then fs) 0 1 fs) hs h.included };
    rests = λ l f fs h. record { up = above RestElement l (f then fs) 0 0 ∷ h.up; says = h.says; included = included-left (claims_by is_owned (above RestElement l (f then fs) 0 0 ∷ h.up) f) (claims_in is_owned h.up RestElement l (f then fs) 0 1 fs) hs h.included };
    arrays = λ l fs h. record { up = h.up; label = l; all = fs; index = 0; says = h.says; included = h.included };
    elements = λ f fs h.
        let one_by = claims_by is_owned (above ArrayPattern h.label h.all h.index 0 ∷ h.up) f in
        let others = claims_in is_owned h.up ArrayPattern h.label h.all 0 (suc h.index) fs in
        (record { up = above ArrayPattern h.label h.all h.index 0 ∷ h.up; says = h.says; included = included-left one_by others hs h.included }, record { up = h.up; label = h.label; all = h.all; index = suc h.index; says = h.says; included = included-right one_by others hs h.included });
    child = λ t h. record { up = h.up; says = h.says; included = h.included };
    children = λ ts h. record { up = h.up; says = h.says; included = h.included };
    list = λ ts h. record { up = h.up; says = h.says; included = h.included };
    more = λ t ts h. (record { up = h.up; says = h.says; included = included-left (claims is_owned h.up t) (claims_all is_owned h.up ts) hs h.included }, record { up = h.up; says = h.says; included = included-right (claims is_owned h.up t) (claims_all is_owned h.up ts) hs h.included });
  }

  -- at the top of a program
  module _ (l k : Label) (ds : Trees) (fs : Fields) where
    abbrev in_declaration : List Ancestor
    in_declaration = above VariableDeclaration k (many ds then fs) 0 0 ∷ program_list l

    declares : Says (declaration_names in_declaration)
    declares y = at (is_lexical (first_text k.texts))
      where
        at : (b : Bool) → list_any (is_same_name Scope 1 y) (filter is_owned ((if b then lexical_names (program_list l) y else var_names (program_list l) y) ++ [])) ≡ true
        at true = rw (bytes_eq-self y)
        at false = rw (bytes_eq-self y)

    names-declared : Included (claims is_owned (program_list l) (node VariableDeclaration k (many ds then fs))) hs → EachTree IsDeclared (names_of_declaration (node VariableDeclaration k (many ds then fs)))
    names-declared h =
        declaration-names claims-handed {D = λ t. Included (claims is_owned in_declaration t) hs} {Ds = λ ts. Included (claims_all is_owned in_declaration ts) hs}
        (λ m p gs d. record { up = above VariableDeclarator m (one p then gs) 0 0 ∷ in_declaration; says = declares; included = included-left (claims is_owned (above VariableDeclarator m (one p then gs) 0 0 ∷ in_declaration) p) (claims_in is_owned in_declaration VariableDeclarator m (one p then gs) 0 1 gs) hs d })
        (λ t ts d. (included-left (claims is_owned in_declaration t) (claims_all is_owned in_declaration ts) hs d, included-right (claims is_owned in_declaration t) (claims_all is_owned in_declaration ts) hs d))
        k ds fs (included-left (claims_all is_owned in_declaration ds) (claims_in is_owned (program_list l) VariableDeclaration k (many ds then fs) 0 1 fs) hs h)

-- THE LISTS of names: those of the declaration stay

specifiers-claim : (up : List Ancestor) (fs : Fields) (xs : List Tree) → claims_all is_owned (above ExportNamedDeclaration (made [] []) fs 1 0 ∷ up) (specifiers with_symbols xs) ≡ []
specifiers-claim up fs [] = refl
specifiers-claim up fs (x ∷ xs) = specifiers-claim up fs xs

pub export-claims : (up : List Ancestor) (t : Tree) (xs : List Tree) → claims is_owned up (export_of with_symbols t xs) ≡ []
export-claims up t xs = ap (λ gs. gs ++ []) (specifiers-claim up (missing then many (specifiers with_symbols xs) then missing then many empty then done) xs)

module _ (used : Text → Bool) (l : Label) where
  abbrev Owned : Trees → List (List Name)
  Owned ts = claims_all is_owned (program_list l) ts

  declaration-moved : (m k : Label) (ds : Trees) (fs : Fields) → Moved used used false (claims is_owned (program_list l) (export_with m (node VariableDeclaration k (many ds then fs)))) (claims is_owned (program_list l) (node VariableDeclaration k (many ds then fs)))
  declaration-moved m k ds fs =
      let it = node VariableDeclaration k (many ds then fs) in
      let exporting = above ExportNamedDeclaration m (one it then many empty then missing then many empty then done) 0 0 ∷ program_list l in
      let near : NearBut false exporting (program_list l) = record { vars = λ x. refl; heads = λ x b. less-self _; in_module = refl; catch = refl; bound = λ x. less-self []; declaration = λ x. less-self []; private = λ x. refl } in
      subst (λ (gs : List (List Name)). Moved used used false gs (claims is_owned (program_list l) it)) (sym (append-nil (claims is_owned exporting it)))
      (claims-beyond exporting (program_list l) near it refl (λ e. absurd (let no : false ≡ true = e in cc no)))

  split-moved : (t : Tree) → IsExport t → (after_it : Trees) → Moved used used false (Owned (t before after_it)) (Owned (split_before with_symbols t after_it))
  split-moved t (is_export m k ds fs) after_it =
      let it = node VariableDeclaration k (many ds then fs) in
      moved-both (declaration-moved m k ds fs) (subst (λ (gs : List (List Name)). Moved used used false (Owned after_it) (gs ++ Owned after_it)) (sym (export-claims (program_list l) t (names_of_declaration it))) (moved-self (Owned after_it)))

  list-moved : (before_it after_it : Trees) (t : Tree) → IsExport t → Moved used used false (Owned (joined_trees before_it (t before after_it))) (Owned (joined_trees before_it (split_before with_symbols t after_it)))
  list-moved empty after_it t e = split-moved t e after_it
  list-moved (b before before_it) after_it t e = moved-both (moved-self (claims is_owned (program_list l) b)) (list-moved before_it after_it t e)

-- THE EXPORT: what it exports is declared

specifiers-clear : (c : Around) (xs : List Tree) → EachTree (λ x. c.top (text_of x) ≡ true) xs → ClearAll c specifier (specifiers with_symbols xs)
specifiers-clear c [] h = tt
specifiers-clear c (x ∷ xs) h = ((tt, refl, ((tt, (λ j. not (h.0 j)), tt), ((tt, refl, tt), tt))), specifiers-clear c xs h.1)

pub export-clear : (c : Around) (t : Tree) (xs : List Tree) → EachTree (λ x. c.top (text_of x) ≡ true) xs → Clear c elsewhere (export_of with_symbols t xs)
export-clear c t xs h = (tt, refl, (tt, (specifiers-clear c xs h, (tt, (tt, tt)))))

list-clear : (c : Around) (before_it after_it : Trees) (t : Tree) → IsExport t → ClearAll c elsewhere (joined_trees before_it (t before after_it)) → Clear c elsewhere (export_of with_symbols t (names_of_export t)) → ClearAll c elsewhere (joined_trees before_it (split_before with_symbols t after_it))
list-clear c empty after_it t (is_export m k ds fs) h g = (h.0.2.0, (g, h.1))
list-clear c (b before before_it) after_it t e h g = (h.0, list-clear c before_it after_it t e h.1 g)

-- what is declared in the list is declared in the program
list-included : (l : Label) (before_it after_it : Trees) (t : Tree) → IsExport t → (gs : List (List Name)) → Included (claims_all is_owned (program_list l) (joined_trees before_it (split_before with_symbols t after_it))) gs → EachTree (IsDeclared gs) (names_of_export t)
list-included l empty after_it t (is_export m k ds fs) gs h =
    let it = node VariableDeclaration k (many ds then fs) in
    names-declared gs l k ds fs (included-left (claims is_owned (program_list l) it) (claims_all is_owned (program_list l) (export_of with_symbols t (names_of_declaration it) before after_it)) gs h)
list-included l (b before before_it) after_it t e gs h = list-included l before_it after_it t e gs (included-right (claims is_owned (program_list l) b) (claims_all is_owned (program_list l) (joined_trees before_it (split_before with_symbols t after_it))) gs h)

-- THE PROGRAM

module _ (used : Text → Bool) (l : Label) (d : Field) (before_it after_it : Trees) (t : Tree) (e : IsExport t) where
  abbrev old_list : Trees
  old_list = joined_trees before_it (t before after_it)

  abbrev new_list : Trees
  new_list = joined_trees before_it (split_before with_symbols t after_it)

  abbrev old_fields : Fields
  old_fields = d then (statements old_list then done)

  abbrev new_fields : Fields
  new_fields = d then (statements new_list then done)

  abbrev old : Tree
  old = program_with l d old_list

  abbrev new : Tree
  new = program_with l d new_list

  moved : Moved used used false (owned elsewhere Program l old_fields) (owned elsewhere Program l new_fields)
  moved = moved-both (moved-self (claims_by is_owned (above Program l old_fields 0 1 ∷ []) d)) (moved-both (list-moved used l before_it after_it t e) (moved-self []))

  names-there : has_form s-Program new ≡ true → EachTree (λ x. (around used new).top (text_of x) ≡ true) (names_of_export t)
  names-there g = all (names_of_export t) (list-included l before_it after_it t e (owned elsewhere Program l new_fields) included)
    where
      included : Included (claims_all is_owned (program_list l) new_list) (owned elsewhere Program l new_fields)
      included p h = holds-right p (claims_by is_owned (above Program l new_fields 0 1 ∷ []) d) (claims_all is_owned (program_list l) new_list ++ []) (holds-left p (claims_all is_owned (program_list l) new_list) [] h)

      all : (xs : List Tree) → EachTree (IsDeclared (owned elsewhere Program l new_fields)) xs → EachTree (λ x. (around used new).top (text_of x) ≡ true) xs
      all [] h = tt
      all (x ∷ xs) h = (top-says Program l new_fields g (text_of x) ∙ h.0 [], all xs h.1)

  pub program-clear : has_form s-Program old ≡ true → has_form s-Program new ≡ true → Clear (around used old) elsewhere old → Clear (around used new) elsewhere new
  program-clear f g c =
      let allows : Allows (around used old) (around used new) = record { used = λ x h. h; privates = λ x h. h; top = λ x h. top-says Program l new_fields g x ∙ moved-any (is_same_name Scope 1 x) false (λ no. absurd (let bad : false ≡ true = no in cc bad)) moved [] [] (λ h. h) (sym (top-says Program l old_fields f x) ∙ h) } in
      let list = clear-more-all (around used old) (around used new) allows elsewhere old_list c.2.1.0 in (
        moved-apart (λ x h. h) moved c.0,
        refl,
        (clear-more-by (around used old) (around used new) allows elsewhere d c.2.0, (list-clear (around used new) before_it after_it t e list (export-clear (around used new) t (names_of_export t) (names-there g)), tt)),
      )
