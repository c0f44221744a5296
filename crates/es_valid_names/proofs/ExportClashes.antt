-- No name is exported twice where the names that the visits export, in their order, don't clash: those are all that it asks.
use Rattle.std.proofs.Common.{◌≡◌, ◌==◌, refl, sym, ap, subst, ◌∙◌, List, [], ◌∷◌, ◌++◌, filter, cond}
use Rattle.std.specs.Prelude.{Bool, true, false, not, ◌&&◌, ◌||◌, bytes_eq}
use Rattle.std.specs.List.{list_all, list_any}
use Rattle.es_tree.specs.Ancestors.{Visit, visits}
use Rattle.es_tree.specs.DeclaredNames.{Name, clashes, declared, namespace_number}
use Rattle.es_tree.specs.StaticRules.{all_names, has_clash, is_bad_export, is_broken, is_export_space}
use Rattle.es_tree.specs.Tree.{Tree}
use Rattle.es_valid_names.specs.Laws.{declared_breaks, declared_rules, keeps_exports, name_breaks, name_rules}
use Rattle.es_valid_names.proofs.BareNames.{NoneBroken, each-none, from-none, none-each, to-none}
use Rattle.es_valid_names.proofs.Claims.{push}
use Rattle.es_valid_names.proofs.ExportPlaces.{exported_in, filter-append, is_exported}
use Rattle.es_valid_names.proofs.Grown.{left-none, or-none}
use Rattle.es_valid_names.proofs.Owners.{never-first, spaces-apart}

-- CLASHES of what is exported

clashes-exported : (es : List Name) (n : Name) → is_exported n ≡ true → clashes es n ≡ clashes (filter is_exported es) n
clashes-exported [] n d = refl
clashes-exported (e ∷ es) n d = at (is_exported e) refl (clashes-exported es n d)
  where
    at : (b : Bool) → is_exported e ≡ b → clashes es n ≡ clashes (filter is_exported es) n → clashes (e ∷ es) n ≡ clashes (cond b (e ∷ filter is_exported es) (filter is_exported es)) n
    at true c r = ap (λ b. (namespace_number e.namespace == namespace_number n.namespace && e.owner == n.owner && bytes_eq e.text n.text) && (e.lexical || n.lexical) || b) r
    at false c r = (λ i. never-first (namespace_number e.namespace == namespace_number n.namespace) (e.owner == n.owner) (bytes_eq e.text n.text) (spaces-apart e.namespace n.namespace c d) i && (e.lexical || n.lexical) || clashes es n) ∙ r

clash-exported : (es ns : List Name) → has_clash is_export_space es ns ≡ list_any (λ n. clashes (filter is_exported es) n) (filter is_exported ns)
clash-exported es [] = refl
clash-exported es (n ∷ ns) = at (is_exported n) refl (clash-exported es ns)
  where
    at : (b : Bool) → is_exported n ≡ b → has_clash is_export_space es ns ≡ list_any (λ n. clashes (filter is_exported es) n) (filter is_exported ns) → (b && clashes es n || has_clash is_export_space es ns) ≡ list_any (λ n. clashes (filter is_exported es) n) (cond b (n ∷ filter is_exported ns) (filter is_exported ns))
    at true d e = λ i. clashes-exported es n d i || e i
    at false d e = e

-- BY VISITS, and by lists

abbrev ExportsApart : List Name → List Visit → Type 0
ExportsApart es [] = Unit {0}
ExportsApart es (v ∷ vs) = (has_clash is_export_space es (declared v.ancestors v.tree) ≡ false) × ExportsApart (declared v.ancestors v.tree ++ es) vs

abbrev ListsApart : List Name → List (List Name) → Type 0
ListsApart es [] = Unit {0}
ListsApart es (g ∷ gs) = (list_any (λ n. clashes es n) g ≡ false) × ListsApart (g ++ es) gs

apart-push : (es g : List Name) (gs : List (List Name)) → list_any (λ n. clashes es n) g ≡ false → ListsApart (g ++ es) gs → ListsApart es (push g gs)
apart-push es [] gs h k = k
apart-push es (n ∷ ns) gs h k = (h, k)

push-apart : (es g : List Name) (gs : List (List Name)) → ListsApart es (push g gs) → (list_any (λ n. clashes es n) g ≡ false) × ListsApart (g ++ es) gs
push-apart es [] gs h = (refl, h)
push-apart es (n ∷ ns) gs h = h

to-lists : (es : List Name) (vs : List Visit) → ExportsApart es vs → ListsApart (filter is_exported es) (exported_in vs)
to-lists es [] h = tt
to-lists es (v ∷ vs) h =
    let d = declared v.ancestors v.tree in
    apart-push (filter is_exported es) (filter is_exported d) (exported_in vs) (sym (clash-exported es d) ∙ h.0) (subst (λ (ns : List Name). ListsApart ns (exported_in vs)) (filter-append is_exported d es) (to-lists (d ++ es) vs h.1))

from-lists : (es : List Name) (vs : List Visit) → ListsApart (filter is_exported es) (exported_in vs) → ExportsApart es vs
from-lists es [] h = tt
from-lists es (v ∷ vs) h =
    let d = declared v.ancestors v.tree in
    let r = push-apart (filter is_exported es) (filter is_exported d) (exported_in vs) h in
    (clash-exported es d ∙ r.0, from-lists (d ++ es) vs (subst (λ (ns : List Name). ListsApart ns (exported_in vs)) (sym (filter-append is_exported d es)) r.1))

-- THE THREE RULES

exports-apart : (all es : List Name) (vs : List Visit) → NoneBroken declared_rules all es vs → ExportsApart es vs
exports-apart all es [] h = tt
exports-apart all es (v ∷ vs) h =
    let e = each-none (is_broken all es v.ancestors v.tree) declared_rules h.0 in
    (left-none (has_clash is_export_space es (declared v.ancestors v.tree)) (is_bad_export all v.ancestors v.tree) e.1.0, exports-apart all (declared v.ancestors v.tree ++ es) vs h.1)

none-three : (all es : List Name) (vs : List Visit) → NoneBroken name_rules all es vs → list_all (λ v. not (is_bad_export all v.ancestors v.tree)) vs ≡ true → ExportsApart es vs → NoneBroken declared_rules all es vs
none-three all es [] h k a = tt
none-three all es (v ∷ vs) h k a =
    let broken = is_broken all es v.ancestors v.tree in
    let e = each-none broken name_rules h.0 in
    let d = declared v.ancestors v.tree in
    let parts = both (is_bad_export all v.ancestors v.tree) (list_all (λ v. not (is_bad_export all v.ancestors v.tree)) vs) k in
    (none-each broken declared_rules (e.0, (or-none (has_clash is_export_space es d) (is_bad_export all v.ancestors v.tree) a.0 parts.0, (e.1.0, tt))), none-three all (d ++ es) vs h.1 parts.1 a.1)
  where
    both : (b c : Bool) → (not b && c) ≡ true → (b ≡ false) × (c ≡ true)
    both true c e = absurd (cc e)
    both false c e = (refl, e)

-- A program that keeps all but that, and exports what another does that keeps it: it keeps it.
pub same-exports : (t u : Tree) → declared_breaks t ≡ [] → exported_in (visits [] 0 u) ≡ exported_in (visits [] 0 t) → name_breaks u ≡ [] → keeps_exports u ≡ true → declared_breaks u ≡ []
same-exports t u e same names kept =
    let old = to-lists [] (visits [] 0 t) (exports-apart (all_names t) [] (visits [] 0 t) (to-none declared_rules (all_names t) [] (visits [] 0 t) e)) in
    let new = from-lists [] (visits [] 0 u) (subst (λ (gs : List (List Name)). ListsApart [] gs) (sym same) old) in
    from-none declared_rules (all_names u) [] (visits [] 0 u) (none-three (all_names u) [] (visits [] 0 u) (to-none name_rules (all_names u) [] (visits [] 0 u) names) kept new)
