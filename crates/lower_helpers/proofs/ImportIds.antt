-- How many nodes the imports of a store are, after one more.
use Rattle.std.proofs.Common.{◌≡◌, ℕ, ◌+◌, ◌≤◌, arith, ◌∙◌, ap, Bool, true, false, cond, not, List, [], ◌∷◌, ◌++◌, filter, bytes_eq, Option, None, Some}
use Rattle.es_tree.specs.Tree.{Tree}
use Rattle.es_tree.specs.Words.{Text}
use Rattle.es_tree.specs.declared.helper.Helper.{Helper}
use Rattle.es_scope.specs.Contexts.{table_of}
use Rattle.es_scope.specs.Tables.{symbol_count}
use Rattle.es_scope.specs.declared.context.TraverseCtx.{TraverseCtx}
use Rattle.lower_stores.specs.Imports.{ImportedName, Sources, added, by_default, in_front, with_import}
use Rattle.lower_stores.specs.LoadedHelpers.{helper_source}
use Rattle.lower_helpers.specs.ImportNodes.{import_ids, specifier_ids, specifiers_ids}
use Rattle.lower_helpers.specs.Loading.{LoadsHelper, external, loaded_before, loaded_now}
use Rattle.lower_helpers.specs.declared.helper_stores.HelperStores.{HelperStores}

ids-more : (is : List ImportedName) (i : ImportedName) → specifiers_ids (is ++ i ∷ []) ≡ specifiers_ids is + specifier_ids i.imported
ids-more [] i = omega arith
ids-more (x ∷ is) i = let e = ids-more is i in omega (arith, e)

pub few_specifier_ids : (o : Option Text) → specifier_ids o ≤ 3
few_specifier_ids None = omega arith
few_specifier_ids (Some t) = omega arith

ids-with_import : (source : Text) (i : ImportedName) (ss : Sources) → import_ids (with_import source i ss) ≤ import_ids ss + (specifier_ids i.imported + 2)
ids-with_import source i [] = omega arith
ids-with_import source i (s ∷ ss) = at (ids-with_import source i ss) (bytes_eq source s.0)
  where
    at : import_ids (with_import source i ss) ≤ import_ids ss + (specifier_ids i.imported + 2) → (b : Bool) → import_ids (cond b ((s.0, s.1 ++ i ∷ []) ∷ ss) (s ∷ with_import source i ss)) ≤ import_ids (s ∷ ss) + (specifier_ids i.imported + 2)
    at h true = let e = ids-more s.1 i in omega (arith, e)
    at h false = omega (arith, h)

ids-append : (ss ts : Sources) → import_ids (ss ++ ts) ≡ import_ids ss + import_ids ts
ids-append [] ts = omega arith
ids-append (s ∷ ss) ts = let e = ids-append ss ts in omega (arith, e)

ids-split : (p : Text × List ImportedName → Bool) (ss : Sources) → import_ids (filter p ss) + import_ids (filter (λ s. not (p s)) ss) ≡ import_ids ss
ids-split p [] = omega arith
ids-split p (s ∷ ss) = at (ids-split p ss) (p s)
  where
    at : import_ids (filter p ss) + import_ids (filter (λ s. not (p s)) ss) ≡ import_ids ss → (b : Bool) → import_ids (cond b (s ∷ filter p ss) (filter p ss)) + import_ids (cond (not b) (s ∷ filter (λ s. not (p s)) ss) (filter (λ s. not (p s)) ss)) ≡ import_ids (s ∷ ss)
    at h true = omega (arith, h)
    at h false = omega (arith, h)

ids-front : (source : Text) (ss : Sources) → import_ids (in_front source ss) ≡ import_ids ss
ids-front source ss =
    ids-append (filter (λ s. bytes_eq source s.0) ss) (filter (λ s. not (bytes_eq source s.0)) ss) ∙ ids-split (λ s. bytes_eq source s.0) ss

-- an import is at most five nodes
pub ids-added : (source : Text) (i : ImportedName) (front : Bool) (ss : Sources) → import_ids (added source i front ss) ≤ import_ids ss + 5
ids-added source i front ss =
    let more = ids-with_import source i ss in
    let few = few_specifier_ids i.imported in
    at front (omega (arith, more, few))
  where
    at : (b : Bool) → import_ids (with_import source i ss) ≤ import_ids ss + 5 → import_ids (cond b (in_front source (with_import source i ss)) (with_import source i ss)) ≤ import_ids ss + 5
    at true h = let e = ids-front source (with_import source i ss) in omega (arith, e, h)
    at false h = h

-- and so is that of a helper
pub ids-loaded : {S : Type 0} (helper : Helper) (more : ℕ) (a b : HelperStores) (old new : TraverseCtx S) (t : Tree) → LoadsHelper helper more a b old new t → import_ids b.module_imports ≤ import_ids a.module_imports + 5
ids-loaded helper more a b old new t (external mode same found names reads) =
    let e = ap (λ (s : HelperStores). import_ids s.module_imports) same in omega (arith, e)
ids-loaded helper more a b old new t (loaded_before mode same there names reads) =
    let e = ap (λ (s : HelperStores). import_ids s.module_imports) same in omega (arith, e)
ids-loaded helper more a b old new t (loaded_now {x} mode absent same binds reads) =
    let e = ap (λ (s : HelperStores). import_ids s.module_imports) same in
    let h = ids-added (helper_source a.helper_loader.module_name helper) (by_default x (symbol_count (table_of old))) false a.module_imports in omega (arith, e, h)
