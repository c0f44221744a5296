-- What has form: an exponentiation has its operands, or its target and its right side. And what is known of it where chains are lowered.
use Rattle.std.proofs.Common.{◌≡◌, List, [], ◌∷◌, length, refl, sym, ap, ◌∙◌}
use Rattle.std.proofs.lemmas.Bool.{and_from}
use Rattle.std.specs.Prelude.{Bool, true, false, ◌&&◌, not, bytes_eq, codes, if◌then◌else◌}
use Rattle.es_tree.proofs.NodeForm.{node_form}
use Rattle.es_tree.specs.Attributes.{flag_entries}
use Rattle.es_tree.specs.Constructs.{is_big_int, is_exponentiation}
use Rattle.es_tree.specs.HasForm.{flag_of, has_form, is_of_sort}
use Rattle.es_tree.specs.Names.{first_text}
use Rattle.es_tree.specs.Parens.{without_parens}
use Rattle.es_tree.specs.Tree.{Tree, node, Label, Fields, done, ◌then◌, missing, one, many, statements, kind_of, label_of, fields_of}
use Rattle.es_tree.specs.declared.ast_type.AstType.{AstType}
use Rattle.es_tree.specs.declared.ast_type.AstType.TheVariants.{AssignmentExpression, BinaryExpression, Identifier, MemberExpression, ParenthesizedExpression, PrivateIdentifier}
use Rattle.es_tree.specs.declared.options.EnvOptions.{EnvOptions}
use Rattle.es_tree.specs.declared.table.FieldName.TheVariants.{Computed as f-Computed}
use Rattle.es_tree.specs.declared.table.Sort.{Sort}
use Rattle.es_tree.specs.declared.table.Sort.TheVariants.{AssignmentTarget as s-AssignmentTarget, BinaryLeft as s-BinaryLeft, Expression as s-Expression, MemberProperty as s-MemberProperty}
use Rattle.es_runs.proofs.Named.{and_left, and_right}
use Rattle.es_runs.specs.Rules.{is_marked}
use Rattle.es_steps.specs.Open.{is_body, opened_fields}
use Rattle.es_steps.specs.Slots.{in_open_slot}
use Rattle.es_steps.specs.Steps.{Site, site_in}
use Rattle.es_conditions.specs.CoreConditions.{are_marked, each_passes, each_passes_in, holds_none_where, is_chain_placed, is_copy_free, is_free, is_known, is_no_stray, is_past_chains, is_placed, is_power_free, is_settled, is_wrapped}
use Rattle.es_traverse.specs.Laws.{is_construct}
use Rattle.lower_exponentiation.specs.Exponentiations.{has_exponentiation_key, has_exponentiation_member, is_exponentiation_target, is_lowerable_exponentiation}
use Rattle.lower_temporaries.proofs.ParensForm.{inside-form}
use Rattle.lower_temporaries.proofs.TwoFields.{no-part, two-children}
use Rattle.es_row_laws.specs.Laws.{is_lowered_power, is_simple}
use Rattle.lower_exponentiation.proofs.TargetParts.{not_false}

-- WHAT IS KNOWN where chains are lowered

pub record Passed (o : EnvOptions) (n : Site) (t : Tree) : Type 0 where
  pub power : is_power_free o n (kind_of t) (label_of t) (fields_of t) ≡ true

pub passed : (o : EnvOptions) (n : Site) (t : Tree) → is_free o n t ≡ true → Passed o n t
passed o n (node k l fs) h =
    let t = node k l fs in
    let known = and_right (holds_none_where (in_open_slot n.above) o t) (is_known o n t) (and_left (is_wrapped o n t) (is_settled o t) h) in
    let three = and_left (each_passes (is_placed o) n t && are_marked o t && is_no_stray o n t) (is_past_chains o n) known in
    let two = and_left (each_passes (is_placed o) n t && are_marked o t) (is_no_stray o n t) three in
    let each = and_left (each_passes (is_placed o) n t) (are_marked o t) two in
    record {
      power = and_left (is_power_free o n k l fs) (is_copy_free o n k l fs) (and_left (is_power_free o n k l fs && is_copy_free o n k l fs) (is_chain_placed o n k) (and_left (is_placed o n k l fs) (each_passes_in (is_placed o) (site_in n k l (opened_fields (is_body k) fs)) (is_body k) fs) each));
    }

-- TARGETS

-- a key without brackets
name-key : (k : AstType) (l : Label) (fs : Fields) → has_form s-MemberProperty (node k l fs) ≡ true → is_of_sort s-MemberProperty k ≡ true → has_exponentiation_key (false ∷ false ∷ []) (node k l fs) ≡ true
name-key Identifier l fs h e = no-part Identifier l fs (node_form s-MemberProperty Identifier l fs h).children
name-key PrivateIdentifier l fs h e = no-part PrivateIdentifier l fs (node_form s-MemberProperty PrivateIdentifier l fs h).children
name-key _ l fs h e = absurd (cc e)

key-form : (flags : List Bool) (k : Tree) → length flags ≡ 2 → is_marked MemberExpression flags ≡ false → has_form (if flag_of f-Computed (flag_entries MemberExpression) flags then s-Expression else s-MemberProperty) k ≡ true → has_exponentiation_key flags k ≡ true
key-form (true ∷ false ∷ []) k n e h = refl
key-form (false ∷ false ∷ []) (node k l fs) n e h = name-key k l fs h (node_form s-MemberProperty k l fs h).sort
key-form (computed ∷ true ∷ []) k n e h = absurd (cc e)
key-form [] k n e h = absurd (cc n)
key-form (a ∷ []) k n e h = absurd (cc n)
key-form (a ∷ b ∷ d ∷ ds) k n e h = absurd (cc n)

member-form : (s : Sort) (l : Label) (fs : Fields) → has_form s (node MemberExpression l fs) ≡ true → is_marked MemberExpression l.flags ≡ false → has_exponentiation_member l.flags fs ≡ true
member-form s l fs h e =
    let form = node_form s MemberExpression l fs h in
    let parts = two-children MemberExpression l s-Expression s-MemberProperty _ _ refl refl fs form.children in
    ap (has_exponentiation_member l.flags) parts.fields_are ∙ key-form l.flags parts.second form.flags e parts.right

-- a simple target
target-form : (s : Sort) (t : Tree) → has_form s t ≡ true → is_simple t ≡ true → is_exponentiation_target (without_parens t) ≡ true
target-form s (node ParenthesizedExpression l (one t then fs)) h e = target-form s-Expression t (inside-form l t fs s h).0 e
target-form s (node ParenthesizedExpression l done) h e = absurd (cc e)
target-form s (node ParenthesizedExpression l (missing then fs)) h e = absurd (cc e)
target-form s (node ParenthesizedExpression l (many ts then fs)) h e = absurd (cc e)
target-form s (node ParenthesizedExpression l (statements ts then fs)) h e = absurd (cc e)
target-form s (node Identifier l fs) h e = no-part Identifier l fs (node_form s Identifier l fs h).children
target-form s (node MemberExpression l fs) h e = member-form s l fs h (not_false (is_marked MemberExpression l.flags) e)
target-form s (node _ l fs) h e = absurd (cc e)

-- EXPONENTIATIONS

operation-form : (s : Sort) (l : Label) (fs : Fields) → has_form s (node BinaryExpression l fs) ≡ true → is_exponentiation BinaryExpression l fs ≡ true → is_lowerable_exponentiation BinaryExpression l fs ≡ true
operation-form s l fs h e =
    let parts = two-children BinaryExpression l s-BinaryLeft s-Expression _ _ refl refl fs (node_form s BinaryExpression l fs h).children in
    let at : is_exponentiation BinaryExpression l (one parts.first then (one parts.second then done)) ≡ true = ap (is_exponentiation BinaryExpression l) (sym parts.fields_are) ∙ e in
    ap (is_lowerable_exponentiation BinaryExpression l) parts.fields_are ∙ regroup (bytes_eq (first_text l.texts) (codes "**")) (not (is_big_int (kind_of parts.first))) (not (is_big_int (kind_of parts.second))) at
  where
    regroup : (a b c : Bool) → (a && b && c) ≡ true → (a && (b && c)) ≡ true
    regroup true b c g = g
    regroup false b c g = absurd (cc g)

assignment-form : (s : Sort) (l : Label) (fs : Fields) → has_form s (node AssignmentExpression l fs) ≡ true → is_lowered_power AssignmentExpression l fs ≡ true → is_lowerable_exponentiation AssignmentExpression l fs ≡ true
assignment-form s l fs h e =
    let parts = two-children AssignmentExpression l s-AssignmentTarget s-Expression _ _ refl refl fs (node_form s AssignmentExpression l fs h).children in
    let fields = one parts.first then (one parts.second then done) in
    let op = bytes_eq (first_text l.texts) (codes "**=") in
    let right = not (is_big_int (kind_of parts.second)) in
    let simple = is_simple parts.first in
    let at : (op && right && simple) ≡ true = ap (is_lowered_power AssignmentExpression l) (sym parts.fields_are) ∙ e in
    let target = target-form s-AssignmentTarget parts.first parts.left (and_right (op && right) simple at) in
    let raises = and_left (op && right) simple at in
    ap (is_lowerable_exponentiation AssignmentExpression l) parts.fields_are ∙
    and_from op (right && is_exponentiation_target (without_parens parts.first)) (and_left op right raises) (and_from right (is_exponentiation_target (without_parens parts.first)) (and_right op right raises) target)

-- a construct that has form is lowered
pub power-lowerable : (s : Sort) (t : Tree) → has_form s t ≡ true → is_construct is_lowered_power t ≡ true → is_construct is_lowerable_exponentiation t ≡ true
power-lowerable s (node BinaryExpression l fs) h e = operation-form s l fs h e
power-lowerable s (node AssignmentExpression l fs) h e = assignment-form s l fs h e
power-lowerable s (node _ l fs) h e = absurd (cc e)
