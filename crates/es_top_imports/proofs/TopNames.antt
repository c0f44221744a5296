-- A program with one statement more in its list, which declares fresh names: the rules of declared names are kept.
use Rattle.std.proofs.Common.{◌≡◌, refl, sym, subst, ◌∙◌, List, [], ◌∷◌, ◌++◌}
use Rattle.std.specs.Prelude.{Bool, true, false, bytes_eq}
use Rattle.std.specs.List.{list_any}
use Rattle.es_tree.specs.DeclaredNames.{Name, is_same_name, name}
use Rattle.es_tree.specs.Fresh.{also}
use Rattle.es_tree.specs.HasForm.{has_form}
use Rattle.es_tree.specs.Tree.{Tree, Label, Fields, done, ◌then◌, Field, statements, Trees, empty, ◌before◌}
use Rattle.es_tree.specs.Words.{Text}
use Rattle.es_tree.specs.declared.ast_type.AstType.TheVariants.{Program}
use Rattle.es_tree.specs.declared.place.Namespace.TheVariants.{Scope}
use Rattle.es_tree.specs.declared.table.Sort.TheVariants.{Program as s-Program}
use Rattle.es_resolution.proofs.Basics.{bytes_eq-self, or_true}
use Rattle.es_steps.specs.Nodes.{joined_trees}
use Rattle.es_valid_names.proofs.Claims.{Around, Clear, ClearAll, Distinct, above, claims, claims_all, claims_by, elsewhere, is_owned, joined, owned}
use Rattle.es_valid_names.proofs.ClearPending.{joined-claims}
use Rattle.es_valid_names.proofs.Grown.{IsNew}
use Rattle.es_valid_names.proofs.MoreAround.{Allows, clear-more-all, clear-more-by}
use Rattle.es_valid_names.proofs.NameSteps.{around, top-says}
use Rattle.es_valid_names.proofs.OneMore.{OneMore, more-before, more-behind, now, one-any, one-apart}
use Rattle.es_valid_names.proofs.ProgramNames.{program_list}
use Rattle.es_top_imports.specs.TopImports.{Import, top_of}
use Rattle.es_top_imports.proofs.TopForms.{program_with}

-- what a statement declares: the names of imports and constants are lexical
abbrev pub the_name : Bool → Text → Name
the_name lexical x = name Scope 1 x lexical

abbrev pub each_named : Bool → List Text → List (List Name)
each_named lexical [] = []
each_named lexical (x ∷ xs) = (the_name lexical x ∷ []) ∷ each_named lexical xs

-- NAMES that are in use neither before nor among those before them

abbrev pub AreFresh : (Text → Bool) → List Text → Type 0
AreFresh used [] = Unit {0}
AreFresh used (x ∷ xs) = (used x ≡ false) × AreFresh (also x used) xs

abbrev pub also_each : List Text → (Text → Bool) → Text → Bool
also_each [] used y = used y
also_each (x ∷ xs) used y = also_each xs (also x used) y

used-more : (x : Text) (used : Text → Bool) (y : Text) → used y ≡ true → also x used y ≡ true
used-more x used y e = or_true (used y) (bytes_eq x y) e

each-more : (xs : List Text) (used : Text → Bool) (y : Text) → used y ≡ true → also_each xs used y ≡ true
each-more [] used y e = e
each-more (x ∷ xs) used y e = each-more xs (also x used) y (used-more x used y e)

-- lists to which one after the other comes, with a list of its own
data Mores (lexical : Bool) : List Text → List (List Name) → List (List Name) → Type 0 where
  no_more : {gs : List (List Name)} → Mores lexical [] gs gs
  one_then : {xs : List Text} {gs hs ks : List (List Name)} (x : Text) → OneMore (the_name lexical x) gs hs → Mores lexical xs hs ks → Mores lexical (x ∷ xs) gs ks

module _ (lexical : Bool) where
  mores-behind : {xs : List Text} (ks : List (List Name)) {gs hs : List (List Name)} → Mores lexical xs gs hs → Mores lexical xs (ks ++ gs) (ks ++ hs)
  mores-behind ks no_more = no_more
  mores-behind ks (one_then x h m) = one_then x (more-behind ks h) (mores-behind ks m)

  mores-before : {xs : List Text} (ks : List (List Name)) {gs hs : List (List Name)} → Mores lexical xs gs hs → Mores lexical xs (gs ++ ks) (hs ++ ks)
  mores-before ks no_more = no_more
  mores-before ks (one_then x h m) = one_then x (more-before ks h) (mores-before ks m)

  each-comes : (xs : List Text) (gs : List (List Name)) → Mores lexical xs gs (each_named lexical xs ++ gs)
  each-comes [] gs = no_more
  each-comes (x ∷ xs) gs = one_then x (now gs) (mores-behind ((the_name lexical x ∷ []) ∷ []) (each-comes xs gs))

  -- nothing clashes
  mores-apart : {xs : List Text} {gs hs : List (List Name)} (used : Text → Bool) → AreFresh used xs → Mores lexical xs gs hs → Distinct used [] gs → Distinct (also_each xs used) [] hs
  mores-apart used fresh no_more d = d
  mores-apart used fresh (one_then x h m) d =
      let is_new : IsNew used (also x used) (the_name lexical x) = record { space = refl; fresh = fresh.0; known = rw (fresh.0, bytes_eq-self x) } in
      mores-apart (also x used) fresh.1 m (one-apart used (also x used) (the_name lexical x) is_new (used-more x used) h d)

  -- and what was declared still is
  mores-any : {xs : List Text} {gs hs : List (List Name)} (p : Name → Bool) → Mores lexical xs gs hs → list_any p (joined gs []) ≡ true → list_any p (joined hs []) ≡ true
  mores-any p no_more e = e
  mores-any p (one_then x h m) e = mores-any p m (one-any p h [] e)

-- THE STATEMENT

pub statement-claims : (l : Label) (in_module : Bool) (i : Import) → claims is_owned (program_list l) (top_of in_module i) ≡ each_named in_module (i.local.name ∷ [])
statement-claims l true i = refl
statement-claims l false i = refl

pub statement-clear : (c : Around) (in_module : Bool) (i : Import) → Clear c elsewhere (top_of in_module i)
statement-clear c true i = (tt, refl, (((tt, refl, ((tt, refl, tt), tt)), tt), ((tt, refl, tt), (tt, tt))))
statement-clear c false i = (tt, refl, (((tt, refl, ((tt, refl, tt), ((tt, refl, ((tt, refl, tt), (((tt, refl, tt), tt), tt))), tt))), tt), tt))

-- THE PROGRAM

clear-between : (c : Around) (before_it : Trees) (t : Tree) (after_it : Trees) → Clear c elsewhere t → ClearAll c elsewhere (joined_trees before_it after_it) → ClearAll c elsewhere (joined_trees before_it (t before after_it))
clear-between c empty t after_it h k = (h, k)
clear-between c (b before before_it) t after_it h k = (k.0, clear-between c before_it t after_it h k.1)

module _ (used : Text → Bool) (l : Label) (d : Field) (before_it after_it : Trees) (t : Tree) (lexical : Bool) (xs : List Text) (fresh : AreFresh used xs) (declares : claims is_owned (program_list l) t ≡ each_named lexical xs) where
  abbrev used_after : Text → Bool
  used_after = also_each xs used

  abbrev old : Tree
  old = program_with l d (joined_trees before_it after_it)

  abbrev new : Tree
  new = program_with l d (joined_trees before_it (t before after_it))

  abbrev Owned : Trees → List (List Name)
  Owned ts = claims_all is_owned (program_list l) ts

  some-more : Mores lexical xs (Owned (joined_trees before_it after_it)) (Owned (joined_trees before_it (t before after_it)))
  some-more =
      let here : Mores lexical xs (Owned after_it) (Owned (t before after_it)) = subst (λ (gs : List (List Name)). Mores lexical xs (Owned after_it) (gs ++ Owned after_it)) (sym declares) (each-comes lexical xs (Owned after_it)) in
      subst (λ (gs : List (List Name)). Mores lexical xs gs (Owned (joined_trees before_it (t before after_it)))) (sym (joined-claims used used (program_list l) before_it after_it))
      (subst (λ (gs : List (List Name)). Mores lexical xs (Owned before_it ++ Owned after_it) gs) (sym (joined-claims used used (program_list l) before_it (t before after_it))) (mores-behind lexical (Owned before_it) here))

  pub program-clear : has_form s-Program old ≡ true → has_form s-Program new ≡ true → ((c : Around) → Clear c elsewhere t) → Clear (around used old) elsewhere old → Clear (around used_after new) elsewhere new
  program-clear f g clear c =
      let old_fields : Fields = d then (statements (joined_trees before_it after_it) then done) in
      let new_fields : Fields = d then (statements (joined_trees before_it (t before after_it)) then done) in
      let more : Mores lexical xs (owned elsewhere Program l old_fields) (owned elsewhere Program l new_fields) = mores-behind lexical (claims_by is_owned (above Program l old_fields 0 1 ∷ []) d) (mores-before lexical [] some-more) in
      let allows : Allows (around used old) (around used_after new) = record { used = each-more xs used; privates = λ v e. e; top = λ v e. top-says Program l new_fields g v ∙ mores-any lexical (is_same_name Scope 1 v) more (sym (top-says Program l old_fields f v) ∙ e) } in
      let list = clear-more-all (around used old) (around used_after new) allows elsewhere (joined_trees before_it after_it) c.2.1.0 in (
        mores-apart lexical used fresh more c.0,
        refl,
        (clear-more-by (around used old) (around used_after new) allows elsewhere d c.2.0, (clear-between (around used_after new) before_it t after_it (clear (around used_after new)) list, tt)),
      )
