-- In a program that breaks no static rule no export has a declaration beside specifiers, a source or attributes.
use Rattle.std.proofs.Common.{◌≡◌, ℕ, zero, suc, ◌+◌, refl, sym, ap, ◌∙◌, List, [], ◌∷◌, ◌++◌}
use Rattle.std.specs.Prelude.{Bool, true, false, not, ◌||◌, Some, map, filter, slice_get, if◌then◌else◌}
use Rattle.std.proofs.lemmas.Bool.{and_from}
use Rattle.es_tree.specs.Ancestors.{Ancestor, Visit, ancestor, visits, visits_in_fields, visits_in_field, visits_in_trees}
use Rattle.es_tree.specs.CoreStaticRules.{Break}
use Rattle.es_tree.specs.DeclaredNames.{Name, declared}
use Rattle.es_tree.specs.StaticRules.{all_names, all_rules, breaks, breaks_after, breaks_at, has_clash, is_broken, is_crowded_export, is_export_space}
use Rattle.es_tree.specs.Tree.{Tree, node, Label, Fields, done, ◌then◌, Field, missing, one, many, statements, Trees, empty, ◌before◌, field_size, tree_size}
use Rattle.es_tree.specs.Walks.{all_nodes, all_in_fields, all_in_field, all_in_trees}
use Rattle.es_tree.specs.declared.ast_type.AstType.{AstType}
use Rattle.es_tree.specs.declared.ast_type.AstType.TheVariants.{ExportNamedDeclaration}
use Rattle.es_tree.specs.declared.error.Rule.{Rule}
use Rattle.es_tree.specs.declared.error.Rule.TheVariants.{BadExport}

-- no declaration beside the rest
abbrev pub is_whole_export : AstType → Label → Fields → Bool
is_whole_export ExportNamedDeclaration l fs = not (is_crowded_export fs)
is_whole_export _ l fs = true

-- NO BREAK

first-empty : (xs ys : List Break) → xs ++ ys ≡ [] → xs ≡ []
first-empty [] ys h = refl
first-empty (x ∷ xs) ys h = absurd (cc h)

later-empty : (xs ys : List Break) → xs ++ ys ≡ [] → ys ≡ []
later-empty [] ys h = h
later-empty (x ∷ xs) ys h = absurd (cc h)

kept-none : (f : Rule → Bool) (g : Rule → Break) (rs : List Rule) (n : ℕ) (r : Rule) → map g (filter f rs) ≡ [] → slice_get rs n ≡ Some r → f r ≡ false
kept-none f g [] n r h e = absurd (cc e)
kept-none f g (x ∷ rs) zero r h e = at (f x) refl h
  where
    same : x ≡ r
    same = cc e

    at : (b : Bool) → f x ≡ b → map g (if b then x ∷ filter f rs else filter f rs) ≡ [] → f r ≡ false
    at true d k = absurd (cc k)
    at false d k = ap f (sym same) ∙ d
kept-none f g (x ∷ rs) (suc n) r h e = at (f x) h (λ k. kept-none f g rs n r k e)
  where
    at : (b : Bool) → map g (if b then x ∷ filter f rs else filter f rs) ≡ [] → (map g (filter f rs) ≡ [] → f r ≡ false) → f r ≡ false
    at true k rest = absurd (cc k)
    at false k rest = rest k

or_later : (a b : Bool) → (a || b) ≡ false → b ≡ false
or_later true b h = absurd (cc h)
or_later false b h = h

module _ (all : List Name) where
  abbrev IsClean : List Name → List Visit → Type 0
  IsClean earlier vs = breaks_after all_rules all earlier vs ≡ []

  clean-first : (e : List Name) (vs ws : List Visit) → IsClean e (vs ++ ws) → IsClean e vs
  clean-first e [] ws h = refl
  clean-first e (v ∷ vs) ws h =
      let more = declared v.ancestors v.tree ++ e in
      let here = first-empty (breaks_at all_rules all e v) (breaks_after all_rules all more (vs ++ ws)) h in
      let rest = clean-first more vs ws (later-empty (breaks_at all_rules all e v) (breaks_after all_rules all more (vs ++ ws)) h) in
      λ i. here i ++ rest i

  -- what is declared before the later visits
  abbrev before_later : List Name → List Visit → List Name
  before_later e [] = e
  before_later e (v ∷ vs) = before_later (declared v.ancestors v.tree ++ e) vs

  clean-later : (e : List Name) (vs ws : List Visit) → IsClean e (vs ++ ws) → IsClean (before_later e vs) ws
  clean-later e [] ws h = h
  clean-later e (v ∷ vs) ws h =
      let more = declared v.ancestors v.tree ++ e in
      clean-later more vs ws (later-empty (breaks_at all_rules all e v) (breaks_after all_rules all more (vs ++ ws)) h)

  whole-node : (e : List Name) (up : List Ancestor) (k : AstType) (l : Label) (fs : Fields) → is_broken all e up (node k l fs) BadExport ≡ false → is_whole_export k l fs ≡ true
  whole-node e up ExportNamedDeclaration l fs h = ap not (or_later (has_clash is_export_space e (declared up (node ExportNamedDeclaration l fs))) (is_crowded_export fs) h)
  whole-node e up _ l fs h = refl

  mutual
    whole-tree : (e : List Name) (up : List Ancestor) (n : ℕ) (t : Tree) → IsClean e (visits up n t) → all_nodes is_whole_export t ≡ true
    whole-tree e up n (node k l fs) h =
        let t = node k l fs in
        let more = declared up t ++ e in
        let vs = visits_in_fields up k l fs n 0 (suc n) fs in
        let here = first-empty (map (λ r. (r, l.id)) (filter (is_broken all e up t) all_rules)) (breaks_after all_rules all more vs) h in
        let rest = later-empty (map (λ r. (r, l.id)) (filter (is_broken all e up t) all_rules)) (breaks_after all_rules all more vs) h in
        and_from (is_whole_export k l fs) (all_in_fields is_whole_export fs)
        (whole-node e up k l fs (kept-none (is_broken all e up t) (λ r. (r, l.id)) all_rules 13 BadExport here refl))
        (whole-fields more up k l fs n 0 (suc n) fs rest)

    whole-fields : (e : List Name) (up : List Ancestor) (k : AstType) (l : Label) (of : Fields) (n i m : ℕ) (fs : Fields) → IsClean e (visits_in_fields up k l of n i m fs) → all_in_fields is_whole_export fs ≡ true
    whole-fields e up k l of n i m done h = refl
    whole-fields e up k l of n i m (f then fs) h =
        let vs = visits_in_field (ancestor k l of i n ∷ up) m f in
        let ws = visits_in_fields up k l of n (suc i) (m + field_size f) fs in
        and_from (all_in_field is_whole_export f) (all_in_fields is_whole_export fs)
        (whole-field e (ancestor k l of i n ∷ up) m f (clean-first e vs ws h))
        (whole-fields (before_later e vs) up k l of n (suc i) (m + field_size f) fs (clean-later e vs ws h))

    whole-field : (e : List Name) (up : List Ancestor) (m : ℕ) (f : Field) → IsClean e (visits_in_field up m f) → all_in_field is_whole_export f ≡ true
    whole-field e up m missing h = refl
    whole-field e up m (one t) h = whole-tree e up m t h
    whole-field e up m (many ts) h = whole-trees e up m ts h
    whole-field e up m (statements ts) h = whole-trees e up m ts h

    whole-trees : (e : List Name) (up : List Ancestor) (m : ℕ) (ts : Trees) → IsClean e (visits_in_trees up m ts) → all_in_trees is_whole_export ts ≡ true
    whole-trees e up m empty h = refl
    whole-trees e up m (t before ts) h =
        let vs = visits up m t in
        let ws = visits_in_trees up (m + tree_size t) ts in
        and_from (all_nodes is_whole_export t) (all_in_trees is_whole_export ts) (whole-tree e up m t (clean-first e vs ws h)) (whole-trees (before_later e vs) up (m + tree_size t) ts (clean-later e vs ws h))

pub whole-exports : (p : Tree) → breaks p ≡ [] → all_nodes is_whole_export p ≡ true
whole-exports p h = whole-tree (all_names p) [] [] 0 p h
