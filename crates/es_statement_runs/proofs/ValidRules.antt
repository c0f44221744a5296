-- What a program that breaks no static rule keeps at each node.
use Rattle.std.proofs.Common.{◌≡◌, ℕ, zero, suc, ◌+◌, refl, ap, ◌∙◌, subst, List, [], ◌∷◌, ◌++◌, map, filter, cond}
use Rattle.std.proofs.lemmas.Bool.{or_parts}
use Rattle.std.specs.Prelude.{Bool, true, false}
use Rattle.es_tree.specs.Ancestors.{Ancestor, ancestor, Visit, visits, visits_in_fields, visits_in_field, visits_in_trees, place_of}
use Rattle.es_tree.specs.CoreStaticRules.{is_bad_target, is_stray_optional, is_missing_init}
use Rattle.es_tree.specs.DeclaredNames.{Name, declared}
use Rattle.es_tree.specs.StaticRules.{is_missing_label, is_bad_using, is_bad_for, is_crowded_export, is_bad_export, is_misplaced_declaration, all_rules, is_broken, has_clash, is_export_space, breaks_at, breaks_after, all_names, breaks}
use Rattle.es_tree.specs.Tree.{Tree, node, Label, Fields, done, ◌then◌, Field, missing, one, many, statements, Trees, empty, ◌before◌, label_of, tree_size, field_size}
use Rattle.es_tree.specs.declared.ast_type.AstType.{AstType}
use Rattle.es_tree.specs.declared.ast_type.AstType.TheVariants.{ExportNamedDeclaration}
use Rattle.es_tree.specs.declared.error.Rule.{Rule}

-- a declaration with specifiers or a source beside it
abbrev pub is_crowded : Tree → Bool
is_crowded (node ExportNamedDeclaration l fs) = is_crowded_export fs
is_crowded _ = false

-- the rules that what a program means rests on, at a node with these ancestors
pub record Keeps (up : List Ancestor) (t : Tree) : Type 0 where
  pub label : is_missing_label up t ≡ false
  pub target : is_bad_target (place_of up) t ≡ false
  pub mark : is_stray_optional (place_of up) t ≡ false
  pub init : is_missing_init (place_of up) t ≡ false
  pub using : is_bad_using up t ≡ false
  pub head : is_bad_for up t ≡ false
  pub export : is_crowded t ≡ false
  pub declaration : is_misplaced_declaration up t ≡ false

-- at each node of a tree
mutual
  pub data KeepsAll : List Ancestor → Tree → Type 0 where
    keeps_all : {up : List Ancestor} {n : ℕ} {k : AstType} {l : Label} {fs : Fields} → Keeps up (node k l fs) → KeepsFields (λ i. ancestor k l fs i n ∷ up) fs → KeepsAll up (node k l fs)

  pub data KeepsFields : (ℕ → List Ancestor) → Fields → Type 0 where
    keeps_done : {at : ℕ → List Ancestor} → KeepsFields at done
    keeps_then : {at : ℕ → List Ancestor} {f : Field} {fs : Fields} → KeepsField (at zero) f → KeepsFields (λ i. at (suc i)) fs → KeepsFields at (f then fs)

  pub data KeepsField : List Ancestor → Field → Type 0 where
    keeps_missing : {up : List Ancestor} → KeepsField up missing
    keeps_one : {up : List Ancestor} {t : Tree} → KeepsAll up t → KeepsField up (one t)
    keeps_many : {up : List Ancestor} {ts : Trees} → KeepsTrees up ts → KeepsField up (many ts)
    keeps_statements : {up : List Ancestor} {ts : Trees} → KeepsTrees up ts → KeepsField up (statements ts)

  pub data KeepsTrees : List Ancestor → Trees → Type 0 where
    keeps_empty : {up : List Ancestor} → KeepsTrees up empty
    keeps_before : {up : List Ancestor} {t : Tree} {ts : Trees} → KeepsAll up t → KeepsTrees up ts → KeepsTrees up (t before ts)

-- FROM THE LIST OF BROKEN RULES

none_first : {X : Type 0} (xs ys : List X) → xs ++ ys ≡ [] → xs ≡ []
none_first [] ys e = refl
none_first (x ∷ xs) ys e = cc

none_second : {X : Type 0} (xs ys : List X) → xs ++ ys ≡ [] → ys ≡ []
none_second [] ys e = e
none_second (x ∷ xs) ys e = cc

none_mapped : {X Y : Type 0} (f : X → Y) (xs : List X) → map f xs ≡ [] → xs ≡ []
none_mapped f [] e = refl
none_mapped f (x ∷ xs) e = cc

abbrev Fails : (Rule → Bool) → List Rule → Type 0
Fails P [] = Unit {0}
Fails P (r ∷ rs) = (P r ≡ false) × Fails P rs

fails : (P : Rule → Bool) (rs : List Rule) → filter P rs ≡ [] → Fails P rs
fails P [] e = tt
fails P (r ∷ rs) e = at (P r) e (fails P rs)
  where
    at : (b : Bool) → cond b (r ∷ filter P rs) (filter P rs) ≡ [] → (filter P rs ≡ [] → Fails P rs) → (b ≡ false) × Fails P rs
    at true e later = cc
    at false e later = (refl, later e)

export_kept : (all : List Name) (up : List Ancestor) (t : Tree) → is_bad_export all up t ≡ false → is_crowded t ≡ false
export_kept all up (node ExportNamedDeclaration l fs) e = e
export_kept all up (node k l fs) e = refl

keeps : (all earlier : List Name) (up : List Ancestor) (t : Tree) → Fails (is_broken all earlier up t) all_rules → Keeps up t
keeps all earlier up t e = record {
  label = e.1.0;
  target = e.1.1.1.1.1.0;
  mark = e.1.1.1.1.1.1.1.0;
  init = e.1.1.1.1.1.1.1.1.1.0;
  using = e.1.1.1.1.1.1.1.1.1.1.0;
  head = e.1.1.1.1.1.1.1.1.1.1.1.0;
  export = export_kept all up t (or_parts (has_clash is_export_space earlier (declared up t)) (is_bad_export all up t) e.1.1.1.1.1.1.1.1.1.1.1.1.1.0).1;
  declaration = e.1.1.1.1.1.1.1.1.1.1.1.1.1.1.1.1.1.0;
}

abbrev Each : List Visit → Type 0
Each [] = Unit {0}
Each (v ∷ vs) = Keeps v.ancestors v.tree × Each vs

each_visit : (all earlier : List Name) (vs : List Visit) → breaks_after all_rules all earlier vs ≡ [] → Each vs
each_visit all earlier [] e = tt
each_visit all earlier (v ∷ vs) e =
    let mine = none_first (breaks_at all_rules all earlier v) (breaks_after all_rules all (declared v.ancestors v.tree ++ earlier) vs) e in
    let passed = none_mapped (λ (r : Rule). (r, (label_of v.tree).id)) (filter (is_broken all earlier v.ancestors v.tree) all_rules) mine in (
      keeps all earlier v.ancestors v.tree (fails (is_broken all earlier v.ancestors v.tree) all_rules passed),
      each_visit all (declared v.ancestors v.tree ++ earlier) vs (none_second (breaks_at all_rules all earlier v) (breaks_after all_rules all (declared v.ancestors v.tree ++ earlier) vs) e),
    )

each_first : (vs ws : List Visit) → Each (vs ++ ws) → Each vs
each_first [] ws h = tt
each_first (v ∷ vs) ws h = (h.0, each_first vs ws h.1)

each_second : (vs ws : List Visit) → Each (vs ++ ws) → Each ws
each_second [] ws h = h
each_second (v ∷ vs) ws h = each_second vs ws h.1

-- the field with this number, counted on from another
abbrev from : ℕ → ℕ → ℕ
from i zero = i
from i (suc j) = from (suc i) j

from_next : (i j : ℕ) → from (suc i) j ≡ suc (from i j)
from_next i zero = refl
from_next i (suc j) = from_next (suc i) j

from_zero : (j : ℕ) → from 0 j ≡ j
from_zero zero = refl
from_zero (suc j) = from_next 0 j ∙ ap suc (from_zero j)

mutual
  tree_keeps : (up : List Ancestor) (n : ℕ) (t : Tree) → Each (visits up n t) → KeepsAll up t
  tree_keeps up n (node k l fs) h =
      keeps_all {n = n} h.0 (subst (λ (at : ℕ → List Ancestor). KeepsFields at fs) (λ i j. ancestor k l fs (from_zero j i) n ∷ up) (fields_keep up k l fs n 0 (suc n) fs h.1))

  fields_keep : (up : List Ancestor) (k : AstType) (l : Label) (all : Fields) (n i m : ℕ) (fs : Fields) → Each (visits_in_fields up k l all n i m fs) → KeepsFields (λ j. ancestor k l all (from i j) n ∷ up) fs
  fields_keep up k l all n i m done h = keeps_done
  fields_keep up k l all n i m (f then fs) h =
      keeps_then (field_keeps (ancestor k l all i n ∷ up) m f (each_first (visits_in_field (ancestor k l all i n ∷ up) m f) (visits_in_fields up k l all n (suc i) (m + field_size f) fs) h))
      (fields_keep up k l all n (suc i) (m + field_size f) fs (each_second (visits_in_field (ancestor k l all i n ∷ up) m f) (visits_in_fields up k l all n (suc i) (m + field_size f) fs) h))

  field_keeps : (up : List Ancestor) (m : ℕ) (f : Field) → Each (visits_in_field up m f) → KeepsField up f
  field_keeps up m missing h = keeps_missing
  field_keeps up m (one t) h = keeps_one (tree_keeps up m t h)
  field_keeps up m (many ts) h = keeps_many (trees_keep up m ts h)
  field_keeps up m (statements ts) h = keeps_statements (trees_keep up m ts h)

  trees_keep : (up : List Ancestor) (m : ℕ) (ts : Trees) → Each (visits_in_trees up m ts) → KeepsTrees up ts
  trees_keep up m empty h = keeps_empty
  trees_keep up m (t before ts) h =
      keeps_before (tree_keeps up m t (each_first (visits up m t) (visits_in_trees up (m + tree_size t) ts) h))
      (trees_keep up (m + tree_size t) ts (each_second (visits up m t) (visits_in_trees up (m + tree_size t) ts) h))

pub program_keeps : (p : Tree) → breaks p ≡ [] → KeepsAll [] p
program_keeps p e = tree_keeps [] 0 p (each_visit (all_names p) [] (visits [] 0 p) e)
