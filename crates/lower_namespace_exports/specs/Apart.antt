-- The lowering of exports of a namespace beside others: its rule makes nothing a construct of another, what it writes is none, and it
-- may act after the program before each that writes no export of all.
use Rattle.std.proofs.Common.{◌≡◌, ◌∙◌, Bool, ap, refl}
use Rattle.std.specs.Prelude.{true, false, ◌&&◌, ℕ}
use Rattle.es_tree.specs.Constructs.{is_chain, is_namespace_export, is_nullish_coalescing, is_optional_catch}
use Rattle.es_tree.specs.Tree.{Tree, node, Label, Fields, fields_of, kind_of, label_of}
use Rattle.es_tree.specs.declared.ast_type.AstType.{AstType}
use Rattle.es_tree.specs.declared.ast_type.AstType.TheVariants.{ExportAllDeclaration, ExportNamedDeclaration, ExportSpecifier, Identifier, ImportDeclaration, ImportNamespaceSpecifier}
use Rattle.es_tree.specs.declared.options.EnvOptions.{EnvOptions}
use Rattle.es_row_laws.specs.Laws.{is_lowered_assignment, is_lowered_power}
use Rattle.es_steps.specs.Open.{Open, OpenField, OpenFields, OpenTrees}
use Rattle.es_steps.specs.Steps.{FieldsStep, FieldStep, Ledger, Site, Step, TreesStep}
use Rattle.es_steps.specs.Steps.FieldsStep.{in_first, in_later}
use Rattle.es_steps.specs.Steps.FieldStep.{in_child, in_children, in_body, in_list, in_target, in_program, acts_on_list, acts_on_body}
use Rattle.es_steps.specs.Steps.Step.{acts, inside}
use Rattle.es_steps.specs.Steps.TreesStep.{in_head, in_tail, in_flanked, after_flanked, flanks, acts_on_flanked}
use Rattle.es_traverse.specs.Laws.{EndsApart, IsStable, Profile, is_construct}
use Rattle.lower_namespace_exports.specs.Profile.{IsModuleNode, NoRule, namespace_ending}

-- NO STEP, of a rule that never acts

mutual
  no_step : {n : Site} {s s' : Ledger} {t u : Open} → Step NoRule n s t s' u → ⊥
  no_step (acts t u h) = h
  no_step (inside h) = no_step_in h

  no_step_in : {c : ℕ → Site} {s s' : Ledger} {fs gs : OpenFields} → FieldsStep NoRule c s fs s' gs → ⊥
  no_step_in (in_first h) = no_step_by h
  no_step_in (in_later h) = no_step_in h

  no_step_by : {n : Site} {s s' : Ledger} {f g : OpenField} → FieldStep NoRule n s f s' g → ⊥
  no_step_by (in_child h) = no_step h
  no_step_by (in_children h) = no_step_among h
  no_step_by (in_body d y y' h) = no_step h
  no_step_by (in_list d d' h) = no_step_among h
  no_step_by (in_target d h) = no_step_among h
  no_step_by (in_program d h) = no_step_among h
  no_step_by (acts_on_list ts us h) = h
  no_step_by (acts_on_body t u h) = h

  no_step_among : {n : Site} {s s' : Ledger} {ts us : OpenTrees} → TreesStep NoRule n s ts s' us → ⊥
  no_step_among (in_head h) = no_step h
  no_step_among (in_tail h) = no_step_among h
  no_step_among (in_flanked h) = no_step h
  no_step_among (after_flanked h) = no_step_among h
  no_step_among (flanks t u h) = h
  no_step_among (acts_on_flanked t us h) = h

pub never_stable : (constructs : AstType → Label → Fields → Bool) → IsStable NoRule constructs
never_stable constructs n s s' k l first fs gs stand r e = absurd (no_step_in r)

-- WHAT IT WRITES is no construct of another lowering

pub module_plain : (t : Tree) → IsModuleNode t →
    (is_nullish_coalescing (kind_of t) (label_of t) (fields_of t) ≡ false) × (is_chain (kind_of t) (label_of t) (fields_of t) ≡ false) × (is_lowered_assignment (kind_of t) (label_of t) (fields_of t) ≡ false) ×
    (is_lowered_power (kind_of t) (label_of t) (fields_of t) ≡ false) × (is_optional_catch (kind_of t) (label_of t) (fields_of t) ≡ false)
module_plain (node ImportDeclaration l fs) e = (refl, refl, refl, refl, refl)
module_plain (node ImportNamespaceSpecifier l fs) e = (refl, refl, refl, refl, refl)
module_plain (node Identifier l fs) e = (refl, refl, refl, refl, refl)
module_plain (node ExportNamedDeclaration l fs) e = (refl, refl, refl, refl, refl)
module_plain (node ExportSpecifier l fs) e = (refl, refl, refl, refl, refl)
module_plain (node _ l fs) e = absurd (cc e)

-- WHAT OTHERS WRITE is no export of a namespace

abbrev pub is_export_all : AstType → Bool
is_export_all ExportAllDeclaration = true
is_export_all _ = false

off : (b : Bool) → (b && false) ≡ false
off true = refl
off false = refl

no_export : (t : Tree) → is_export_all (kind_of t) ≡ false → is_construct is_namespace_export t ≡ false
no_export (node ExportAllDeclaration l fs) e = absurd (cc e)
no_export (node _ l fs) e = refl

-- after the program such a one may follow
pub ends_apart_from : (o : EnvOptions) (p : Profile) → ((t : Tree) → p.writes t → is_export_all (kind_of t) ≡ false) → EndsApart p (namespace_ending o)
ends_apart_from o p other t w = ap (λ b. o.es2020.export_namespace_from && b) (no_export t (other t w)) ∙ off o.es2020.export_namespace_from
