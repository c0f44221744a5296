-- The statements of a program and what they become, as they are seen, whatever scopes bind.
use Rattle.std.proofs.Common.{◌≡◌, ◌∙◌, ◌||◌, ℕ, refl, sym, ap, subst, [], ◌∷◌, Option}
use Rattle.std.specs.Prelude.{Bool, false}
use Rattle.std.proofs.lemmas.Bool.{or_from, or_parts}
use Rattle.es_tree.specs.Fresh.{IsFreshName, node_base}
use Rattle.es_tree.specs.Tree.{Tree, node, Label, Fields, done, ◌then◌, missing, one, many, statements, Trees, empty, ◌before◌}
use Rattle.es_tree.specs.Walks.{any_in_trees, any_node}
use Rattle.es_tree.specs.Words.{Text}
use Rattle.es_tree.specs.declared.ast_type.AstType.{AstType}
use Rattle.es_tree.specs.declared.ast_type.AstType.TheVariants.{ExportAllDeclaration, ImportDeclaration, ImportNamespaceSpecifier}
use Rattle.es_resolution.specs.Declarations.{Bound}
use Rattle.es_resolution.specs.Seen.{seen, seen_among}
use Rattle.es_steps.specs.NamespaceExports.{namespace_import}
use Rattle.es_steps.specs.Nodes.{export_node, identifier, made, placed, specifier_node}
use Rattle.es_steps.specs.Rules.{next_name, with_made}
use Rattle.es_steps.specs.Steps.{Whole}
use Rattle.es_changes.specs.Moments.{Moment, whole_at}
use Rattle.es_traverse.specs.Laws.{is_construct}
use Rattle.es_traverse.specs.Listed.{any_among}
use Rattle.lower_temporaries.proofs.SeenLaws.{base-seen}
use Rattle.lower_namespace_exports.specs.Exports.{is_lowerable_export}
use Rattle.lower_namespace_exports.specs.Lowered.{Lowered, Splits}
use Rattle.lower_namespace_exports.specs.Lowered.Lowered.{kept, none, split}
use Rattle.lower_namespace_exports.specs.Profile.{IsModuleNode}

abbrev pub export_all : Label → Tree → Tree → Trees → Tree
export_all m e s attributes = node ExportAllDeclaration m (one e then one s then many attributes then done)

-- `export { x as e }`
abbrev pub export_of_name : Bound → Tree → Tree
export_of_name x e = export_node (specifier_node (identifier x) e ∷ [])

-- each statement of a list as it stays, or as an export is lowered by the rule
pub data Shown : Whole → Trees → Whole → Trees → Type 0 where
  nothing : {w : Whole} → Shown w empty w empty
  same : {w v : Whole} {ts us : Trees} (t : Tree) → is_construct is_lowerable_export t ≡ false → Shown w ts v us → Shown w (t before ts) v (t before us)
  lowered : {w v : Whole} {ts us : Trees} (m : Label) (e s : Tree) (attributes : Trees) (x : Text) → IsFreshName w.in_use (node_base e) x → Shown (with_made (next_name w x ∷ []) w) ts v us →
      Shown w (export_all m e s attributes before ts) v (placed m (namespace_import (next_name w x) s attributes) before (export_of_name (next_name w x) e before us))

-- WHAT IS SEEN

module _ (names : ℕ → Text → Option ℕ) where
  whole-seen : (l m : Label) (fs : Fields) → is_construct is_lowerable_export (seen names (node ExportAllDeclaration l fs)) ≡ is_construct is_lowerable_export (node ExportAllDeclaration m fs)
  whole-seen l m (one e then (one s then (many attributes then done))) = refl
  whole-seen l m (one e then (one s then (many attributes then (f then fs)))) = refl
  whole-seen l m (one e then (one s then (missing then fs))) = refl
  whole-seen l m (one e then (one s then (one t then fs))) = refl
  whole-seen l m (one e then (one s then (statements ts then fs))) = refl
  whole-seen l m (one e then (one s then done)) = refl
  whole-seen l m (one e then (missing then fs)) = refl
  whole-seen l m (one e then (many ts then fs)) = refl
  whole-seen l m (one e then (statements ts then fs)) = refl
  whole-seen l m (one e then done) = refl
  whole-seen l m (missing then fs) = refl
  whole-seen l m (many ts then fs) = refl
  whole-seen l m (statements ts then fs) = refl
  whole-seen l m done = refl

  lowerable-seen : (t : Tree) → is_construct is_lowerable_export (seen names t) ≡ is_construct is_lowerable_export t
  lowerable-seen (node ExportAllDeclaration l fs) = whole-seen l l fs
  lowerable-seen (node _ l fs) = refl

  module _ {a b : Moment} {t i e : Tree} (x : Splits a t b i e) where
    abbrev seen_label : Label
    seen_label = record x.label { id = 0; marks = [] }

    export-seen : seen names t ≡ export_all seen_label (seen names x.exported) (seen names x.source) (seen_among names x.attributes)
    export-seen = ap (seen names) x.is_export

    import-seen : seen names i ≡ placed seen_label (namespace_import x.name (seen names x.source) (seen_among names x.attributes))
    import-seen =
        ap (seen names) x.import_is ∙
        ap (λ local. node ImportDeclaration (record (made [] []) { start = x.label.start; stop = x.label.stop }) (many (node ImportNamespaceSpecifier (made [] []) (one local then done) before empty) then one (seen names x.source) then many (seen_among names x.attributes) then done)) (x.bound names)

    named-seen : seen names e ≡ export_of_name x.name (seen names x.exported)
    named-seen = ap (seen names) x.export_is ∙ ap (λ read. export_node (specifier_node read (seen names x.exported) ∷ [])) (x.referred names)

    this-name : next_name (whole_at a) x.name.name ≡ x.name
    this-name = λ i. record { name = x.name.name; symbol = sym x.next.symbol i }

    split-shown : (v : Whole) (ts us : Trees) → Shown (whole_at b) ts v us → Shown (whole_at a) (seen names t before ts) v (seen names i before (seen names e before us))
    split-shown v ts us rest =
        let fresh : IsFreshName (whole_at a).in_use (node_base (seen names x.exported)) x.name.name = subst (λ base. IsFreshName (whole_at a).in_use base x.name.name) (sym (base-seen names x.exported)) x.next.fresh in
        let further : Shown (with_made (next_name (whole_at a) x.name.name ∷ []) (whole_at a)) ts v us = subst (λ w. Shown w ts v us) (x.takes.whole_is ∙ ap (λ y. with_made (y ∷ []) (whole_at a)) (sym this-name)) rest in
        let made_now = lowered seen_label (seen names x.exported) (seen names x.source) (seen_among names x.attributes) x.name.name fresh further in
        let named = subst (λ y. Shown (whole_at a) (export_all seen_label (seen names x.exported) (seen names x.source) (seen_among names x.attributes) before ts) v (placed seen_label (namespace_import y (seen names x.source) (seen_among names x.attributes)) before (export_of_name y (seen names x.exported) before us))) this-name made_now in
        subst (λ u. Shown (whole_at a) (u before ts) v (seen names i before (seen names e before us))) (sym export-seen)
        (subst (λ u. Shown (whole_at a) (export_all seen_label (seen names x.exported) (seen names x.source) (seen_among names x.attributes) before ts) v (u before (seen names e before us))) (sym import-seen)
        (subst (λ u. Shown (whole_at a) (export_all seen_label (seen names x.exported) (seen names x.source) (seen_among names x.attributes) before ts) v (placed seen_label (namespace_import x.name (seen names x.source) (seen_among names x.attributes)) before (u before us))) (sym named-seen) named))

  pub shown : {a b : Moment} {ts us : Trees} → Lowered a ts b us → Shown (whole_at a) (seen_among names ts) (whole_at b) (seen_among names us)
  shown none = nothing
  shown (kept {t = t} e r) = same (seen names t) (lowerable-seen t ∙ e) (shown r)
  shown (split {c = c} {ts = ts} {us = us} x r) = split-shown x (whole_at c) (seen_among names ts) (seen_among names us) (shown r)

-- WHAT IS WRITTEN holds no construct that what stood there does not hold

module _ (test : AstType → Label → Fields → Bool) (own : (t : Tree) → IsModuleNode t → is_construct test t ≡ false) where
  -- of all nodes of the statements
  pub none-shown : {w v : Whole} {ts us : Trees} → Shown w ts v us → any_in_trees test ts ≡ false → any_in_trees test us ≡ false
  none-shown nothing h = refl
  none-shown (same {ts = ts} t e r) h = let p = or_parts (any_node test t) (any_in_trees test ts) h in or_from (any_node test t) _ p.0 (none-shown r p.1)
  none-shown (lowered {w = w} {ts = ts} {us = us} m e s attributes x fresh r) h =
      let y = next_name w x in
      let p = or_parts (any_node test (export_all m e s attributes)) (any_in_trees test ts) h in
      let inside = or_parts (test ExportAllDeclaration m (one e then one s then many attributes then done)) (any_node test e || (any_node test s || (any_in_trees test attributes || false))) p.0 in
      let exported = or_parts (any_node test e) (any_node test s || (any_in_trees test attributes || false)) inside.1 in
      let name : any_node test (identifier y) ≡ false = or_from _ _ (own (identifier y) refl) refl in
      let local = one (identifier y) then done in
      let specifier : any_node test (node ImportNamespaceSpecifier (made [] []) local) ≡ false = or_from _ _ (own (node ImportNamespaceSpecifier (made [] []) local) refl) (or_from _ _ name refl) in
      let import_now = placed m (namespace_import y s attributes) in
      let imported : any_node test import_now ≡ false = or_from _ _ (own import_now refl) (or_from _ _ (or_from _ _ specifier refl) exported.1) in
      let renamed = specifier_node (identifier y) e in
      let given : any_node test renamed ≡ false = or_from _ _ (own renamed refl) (or_from _ _ name (or_from _ _ exported.0 refl)) in
      let named : any_node test (export_of_name y e) ≡ false = or_from _ _ (own (export_of_name y e) refl) (or_from _ _ (or_from _ _ given refl) refl) in
      or_from _ _ imported (or_from _ _ named (none-shown r p.1))

  -- of the statements alone
  pub among-shown : {w v : Whole} {ts us : Trees} → Shown w ts v us → any_among test ts ≡ false → any_among test us ≡ false
  among-shown nothing h = refl
  among-shown (same {ts = ts} t e r) h = let p = or_parts (is_construct test t) (any_among test ts) h in or_from (is_construct test t) _ p.0 (among-shown r p.1)
  among-shown (lowered {w = w} {ts = ts} {us = us} m e s attributes x fresh r) h =
      let y = next_name w x in
      let p = or_parts (is_construct test (export_all m e s attributes)) (any_among test ts) h in
      or_from _ _ (own (placed m (namespace_import y s attributes)) refl) (or_from _ _ (own (export_of_name y e) refl) (among-shown r p.1))
