-- The walk finds what is warned of, and at one more field or node what it finds there.
use Rattle.std.proofs.Common.{ℕ, suc, ◌+◌, ◌<◌, ◌≡◌, ◌∙◌, List, [], ◌∷◌, ◌++◌, Bool, Option, Some, None, append-nil, append_assoc, ap, ap₂, arith, get_or, length, map, refl, sym, take, true, false}
use Rattle.std.proofs.lemmas.List.{take_more, length-take-le}
use Rattle.std.proofs.lemmas.List.Elements.{filter_map-append}
use Rattle.std.specs.List.{cons_option, filter_map}
use Rattle.std.specs.Option.{option_to_list}
use Rattle.es_tree.specs.Ancestors.{Ancestor, Visit, ancestor, visits, visits_in_field, visits_in_fields, visits_in_trees}
use Rattle.es_tree.specs.Tree.{Tree, node, Label, Fields, done, ◌then◌, Field, missing, one, many, statements, Trees, empty, ◌before◌, field_size, fields, kind_of, label_of, tree_size, trees}
use Rattle.es_tree.specs.Views.{plain_field}
use Rattle.es_tree.specs.declared.ast_type.AstType.{AstType}
use Rattle.es_tree.specs.declared.ast_type.AstType.TheVariants.{BigIntLiteral, StringLiteral}
use Rattle.es_tree.specs.declared.node.Field.{Field as NodeField}
use Rattle.es_tree.specs.declared.options.ES2020Options.{ES2020Options}
use Rattle.lower_temporaries.specs.declared.warning.Warning.{Warning}
use Rattle.lower_editions.specs.Warnings.{holds_module_name, is_module_name, warning_at, warning_kind, warnings_of}
use Rattle.lower_editions.specs.WarningWalk.{walked, walked_field, walked_fields, walked_trees}

cons-append : {A : Type 0} (x : Option A) (xs : List A) → cons_option x xs ≡ option_to_list x ++ xs
cons-append None xs = refl
cons-append (Some x) xs = refl

module _ (o : ES2020Options) where
  -- THE WALK FINDS WHAT VISITS DO

  abbrev at : Visit → Option Warning
  at v = warning_at o (is_module_name v.ancestors) (kind_of v.tree) (label_of v.tree)

  mutual
    at-node : (up : List Ancestor) (n : ℕ) (t : Tree) → filter_map at (visits up n t) ≡ walked o (is_module_name up) t
    at-node up n (node k l fs) =
        cons-append (warning_at o (is_module_name up) k l) (filter_map at (visits_in_fields up k l fs n 0 (suc n) fs))
        ∙ ap (λ ws. option_to_list (warning_at o (is_module_name up) k l) ++ ws) (at-fields up k l fs n 0 (suc n) fs)

    at-fields : (up : List Ancestor) (k : AstType) (l : Label) (all : Fields) (n i m : ℕ) (fs : Fields) → filter_map at (visits_in_fields up k l all n i m fs) ≡ walked_fields o k i fs
    at-fields up k l all n i m done = refl
    at-fields up k l all n i m (f then fs) =
        filter_map-append at (visits_in_field (ancestor k l all i n ∷ up) m f) (visits_in_fields up k l all n (suc i) (m + field_size f) fs)
        ∙ ap₂ (λ (vs ws : List Warning). vs ++ ws) (at-field (ancestor k l all i n ∷ up) m f) (at-fields up k l all n (suc i) (m + field_size f) fs)

    at-field : (up : List Ancestor) (m : ℕ) (f : Field) → filter_map at (visits_in_field up m f) ≡ walked_field o (is_module_name up) f
    at-field up m missing = refl
    at-field up m (one t) = at-node up m t
    at-field up m (many ts) = at-trees up m ts
    at-field up m (statements ts) = at-trees up m ts

    at-trees : (up : List Ancestor) (m : ℕ) (ts : Trees) → filter_map at (visits_in_trees up m ts) ≡ walked_trees o (is_module_name up) ts
    at-trees up m empty = refl
    at-trees up m (t before ts) =
        filter_map-append at (visits up m t) (visits_in_trees up (m + tree_size t) ts)
        ∙ ap₂ (λ (vs ws : List Warning). vs ++ ws) (at-node up m t) (at-trees up (m + tree_size t) ts)

  pub walked-warnings : (t : Tree) → warnings_of o t ≡ walked o false t
  walked-warnings t = at-node [] 0 t

  -- and nothing where nothing is asked for
  none_kind : (named : Bool) (k : AstType) → o.big_int ≡ false → o.arbitrary_module_namespace_names ≡ false → warning_kind o named k ≡ None
  none_kind named BigIntLiteral literals names = rw literals refl
  none_kind true StringLiteral literals names = rw names refl
  none_kind false StringLiteral literals names = refl
  none_kind named _ literals names = refl

  none_at : (vs : List Visit) → o.big_int ≡ false → o.arbitrary_module_namespace_names ≡ false → filter_map at vs ≡ []
  none_at [] literals names = refl
  none_at (v ∷ vs) literals names = rw (none_kind (is_module_name v.ancestors) (kind_of v.tree) literals names) (none_at vs literals names)

  pub none_asked : (t : Tree) → o.big_int ≡ false → o.arbitrary_module_namespace_names ≡ false → warnings_of o t ≡ []
  none_asked t = none_at (visits [] 0 t)

  -- ONE MORE

  pub node_done : (named : Bool) (old mid new : List Warning) (t : Tree) (k : AstType) (l : Label) (fs : Fields) → node k l fs ≡ t
      → mid ≡ old ++ option_to_list (warning_at o named k l) → new ≡ mid ++ walked_fields o k 0 fs → new ≡ old ++ walked o named t
  node_done named old mid new t k l fs is own rest = rw (← is, rest, own) (append_assoc old _ _)

  trees_push : (named : Bool) (ts : List Tree) (t : Tree) → walked_trees o named (trees (ts ++ t ∷ [])) ≡ walked_trees o named (trees ts) ++ walked o named t
  trees_push named [] t = append-nil (walked o named t)
  trees_push named (u ∷ ts) t = ap (λ xs. walked o named u ++ xs) (trees_push named ts t) ∙ sym (append_assoc (walked o named u) _ _)

  fields_push : (k : AstType) (i j : ℕ) (fs : List NodeField) (f : NodeField) → j ≡ i + length fs
      → walked_fields o k i (fields (map plain_field (fs ++ f ∷ []))) ≡ walked_fields o k i (fields (map plain_field fs)) ++ walked_field o (holds_module_name k j) (plain_field f)
  fields_push k i j [] f e = rw (append-nil (walked_field o (holds_module_name k i) (plain_field f))) (ap (λ n. walked_field o (holds_module_name k n) (plain_field f)) (omega (arith, e)))
  fields_push k i j (g ∷ fs) f e =
      ap (λ xs. walked_field o (holds_module_name k i) (plain_field g) ++ xs) (fields_push k (suc i) j fs f (omega (arith, e)))
      ∙ sym (append_assoc (walked_field o (holds_module_name k i) (plain_field g)) _ _)

  pub trees_more : (named : Bool) (old mid new : List Warning) (ts : List Tree) (i : ℕ) (t : Tree) → i < length ts → t ≡ get_or ts i t
      → mid ≡ old ++ walked_trees o named (trees (take i ts)) → new ≡ mid ++ walked o named t → new ≡ old ++ walked_trees o named (trees (take (i + 1) ts))
  trees_more named old mid new ts i t h is e d =
      rw (take_more ts i t h, ← is, trees_push named (take i ts) t, d, e) (append_assoc old _ _)

  pub fields_more : (k : AstType) (old mid new : List Warning) (fs : List NodeField) (i : ℕ) (f : NodeField) → i < length fs → f ≡ get_or fs i f
      → mid ≡ old ++ walked_fields o k 0 (fields (map plain_field (take i fs))) → new ≡ mid ++ walked_field o (holds_module_name k i) (plain_field f)
      → new ≡ old ++ walked_fields o k 0 (fields (map plain_field (take (i + 1) fs)))
  fields_more k old mid new fs i f h is e d =
      rw (take_more fs i f h, ← is, fields_push k 0 i (take i fs) f (omega (arith, h, length-take-le i fs)), d, e) (append_assoc old _ _)
