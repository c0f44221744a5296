-- What the form of the statements of a program tells of the exports of a namespace: their parts declare nothing, and each is lowered.
use Rattle.std.proofs.Common.{◌≡◌, ◌∙◌, ◌++◌, refl, sym, ap, [], true≢false}
use Rattle.std.specs.Prelude.{Bool, true, false, ◌&&◌, ◌||◌}
use Rattle.std.proofs.lemmas.Bool.{and_parts}
use Rattle.es_tree.specs.Constructs.{is_namespace_export}
use Rattle.es_tree.specs.Attributes.{child_entries}
use Rattle.es_tree.specs.HasForm.{fields_form, has_form, trees_form}
use Rattle.es_tree.specs.Tree.{Tree, node, Label, Fields, done, ◌then◌, missing, one, many, statements, Trees, empty, ◌before◌}
use Rattle.es_tree.specs.declared.ast_type.AstType.TheVariants.{ExportAllDeclaration, Identifier, ImportAttribute, StringLiteral}
use Rattle.es_tree.specs.declared.table.Sort.TheVariants.{ImportAttribute as s-ImportAttribute, ModuleExportName as s-ModuleExportName, Statement as s-Statement, StringLiteral as s-StringLiteral}
use Rattle.es_tree.proofs.NodeForm.{node_form}
use Rattle.es_resolution.specs.Declarations.{declared_among}
use Rattle.es_semantic.specs.RolesOf.{reads}
use Rattle.es_semantic.specs.declared.place.Role.TheVariants.{Nothing}
use Rattle.es_steps.specs.Patterns.{IsSilent}
use Rattle.es_steps.proofs.FormLists.{first-formed}
use Rattle.es_traverse.specs.Laws.{is_construct}
use Rattle.es_traverse.specs.Listed.{any_among}
use Rattle.es_steps.specs.Steps.{Whole}
use Rattle.lower_namespace_exports.specs.Exports.{is_lowerable_export, is_whole}
use Rattle.lower_namespace_exports.proofs.Shown.{Shown, export_all}
use Rattle.lower_namespace_exports.proofs.Shown.Shown.{lowered, nothing, same}

-- NAMES, TEXTS AND ATTRIBUTES declare nothing

name-silent : (t : Tree) → has_form s-ModuleExportName t ≡ true → IsSilent Nothing t
name-silent (node Identifier l done) h v = refl
name-silent (node StringLiteral l done) h v = refl
name-silent (node Identifier l (f then fs)) h v = absurd (let no : false ≡ true = (node_form s-ModuleExportName Identifier l (f then fs) h).children in cc no)
name-silent (node StringLiteral l (f then fs)) h v = absurd (let no : false ≡ true = (node_form s-ModuleExportName StringLiteral l (f then fs) h).children in cc no)
name-silent (node k l fs) h v = absurd (let no : false ≡ true = (node_form s-ModuleExportName k l fs h).sort in cc no)

text-silent : (t : Tree) → has_form s-StringLiteral t ≡ true → IsSilent reads t
text-silent (node StringLiteral l done) h v = refl
text-silent (node StringLiteral l (f then fs)) h v = absurd (let no : false ≡ true = (node_form s-StringLiteral StringLiteral l (f then fs) h).children in cc no)
text-silent (node k l fs) h v = absurd (let no : false ≡ true = (node_form s-StringLiteral k l fs h).sort in cc no)

attribute-silent : (t : Tree) → has_form s-ImportAttribute t ≡ true → IsSilent reads t
attribute-silent (node ImportAttribute l done) h v = refl
attribute-silent (node ImportAttribute l (f then fs)) h v = absurd (let no : false ≡ true = (node_form s-ImportAttribute ImportAttribute l (f then fs) h).children in cc no)
attribute-silent (node k l fs) h v = absurd (let no : false ≡ true = (node_form s-ImportAttribute k l fs h).sort in cc no)

attributes-silent : (ts : Trees) → trees_form s-ImportAttribute s-ImportAttribute ts ≡ true → (v : Bool) → declared_among v reads ts ≡ []
attributes-silent empty h v = refl
attributes-silent (t before ts) h v =
    let parts = first-formed s-ImportAttribute t ts h in
    ap (λ ds. ds ++ declared_among v reads ts) (attribute-silent t parts.0 v) ∙ attributes-silent ts parts.1 v

pub record SilentParts (e s : Tree) (attributes : Trees) : Type 0 where
  pub exported : IsSilent Nothing e
  pub source : IsSilent reads s
  pub attributes_silent : (v : Bool) → declared_among v reads attributes ≡ []

pub silent-parts : (m : Label) (e s : Tree) (attributes : Trees) → has_form s-Statement (export_all m e s attributes) ≡ true → SilentParts e s attributes
silent-parts m e s attributes h =
    let first = and_parts (has_form s-ModuleExportName e) _ (node_form s-Statement ExportAllDeclaration m (one e then one s then many attributes then done) h).children in
    let second = and_parts (has_form s-StringLiteral s) _ first.1 in
    record { exported = name-silent e first.0; source = text-silent s second.0; attributes_silent = attributes-silent attributes (and_parts (trees_form s-ImportAttribute s-ImportAttribute attributes) true second.1).0 }

-- EACH IS LOWERED

-- fields that are not those of the table

no-first : (a : Bool) → (a && false) ≡ true → ⊥
no-first true h = true≢false (sym h)
no-first false h = true≢false (sym h)

no-second : (a b : Bool) → (a && (b && false)) ≡ true → ⊥
no-second true b h = no-first b h
no-second false b h = true≢false (sym h)

no-third : (a b c : Bool) → (a && (b && (c && false))) ≡ true → ⊥
no-third true b c h = no-second b c h
no-third false b c h = true≢false (sym h)

abbrev name-form : Tree → Bool
name-form e = has_form s-ModuleExportName e

abbrev text-form : Tree → Bool
text-form s = has_form s-StringLiteral s

whole-form : (l : Label) (fs : Fields) → fields_form ExportAllDeclaration l (child_entries ExportAllDeclaration) fs ≡ true → is_namespace_export ExportAllDeclaration l fs ≡ true → is_whole fs ≡ true
whole-form l (one e then (one s then (many attributes then done))) h n = refl
whole-form l (one e then (one s then (many attributes then (f then fs)))) h n = absurd (no-third (name-form e) (text-form s) (trees_form s-ImportAttribute s-ImportAttribute attributes) h)
whole-form l (one e then (one s then (missing then fs))) h n = absurd (no-second (name-form e) (text-form s) h)
whole-form l (one e then (one s then (one t then fs))) h n = absurd (no-second (name-form e) (text-form s) h)
whole-form l (one e then (one s then (statements ts then fs))) h n = absurd (no-second (name-form e) (text-form s) h)
whole-form l (one e then (one s then done)) h n = absurd (no-second (name-form e) (text-form s) h)
whole-form l (one e then (missing then fs)) h n = absurd (no-first (name-form e) h)
whole-form l (one e then (many ts then fs)) h n = absurd (no-first (name-form e) h)
whole-form l (one e then (statements ts then fs)) h n = absurd (no-first (name-form e) h)
whole-form l (one e then done) h n = absurd (no-first (name-form e) h)
whole-form l (missing then fs) h n = absurd (true≢false (sym n))
whole-form l (many ts then fs) h n = absurd (true≢false (sym h))
whole-form l (statements ts then fs) h n = absurd (true≢false (sym h))
whole-form l done h n = absurd (true≢false (sym h))

formed-export : (t : Tree) → has_form s-Statement t ≡ true → is_construct is_namespace_export t ≡ true → is_construct is_lowerable_export t ≡ true
formed-export (node ExportAllDeclaration l fs) h n = whole-form l fs (node_form s-Statement ExportAllDeclaration l fs h).children n
formed-export (node _ l fs) h n = absurd (true≢false (sym n))

kept-cleared : (t : Tree) → has_form s-Statement t ≡ true → is_construct is_lowerable_export t ≡ false → is_construct is_namespace_export t ≡ false
kept-cleared t h e = at (is_construct is_namespace_export t) refl
  where
    at : (b : Bool) → is_construct is_namespace_export t ≡ b → b ≡ false
    at false d = refl
    at true d = absurd (true≢false (sym (formed-export t h d) ∙ e))

-- no statement of the list is an export of a namespace any more
pub cleared-shown : {w v : Whole} {ts us : Trees} → Shown w ts v us → trees_form s-Statement s-Statement ts ≡ true → any_among is_namespace_export us ≡ false
cleared-shown nothing h = refl
cleared-shown (same {ts = ts} {us = us} t e r) h =
    let parts = first-formed s-Statement t ts h in
    ap (λ b. b || any_among is_namespace_export us) (kept-cleared t parts.0 e) ∙ cleared-shown r parts.1
cleared-shown (lowered {ts = ts} m e s attributes x fresh r) h = cleared-shown r (first-formed s-Statement (export_all m e s attributes) ts h).1
