-- What has form: a logical assignment to a name or a member that isn't private is one that the code lowers.
use Rattle.std.proofs.Common.{◌≡◌, ◌∙◌, ◌&&◌, ℕ, List, [], ◌∷◌, length, refl, sym, ap, subst, arith, true≢false, Option}
use Rattle.std.proofs.lemmas.Bool.{and_from, and_parts}
use Rattle.std.specs.Prelude.{Bool, true, false, if◌then◌else◌, not}
use Rattle.es_tree.specs.Attributes.{child_entries, flag_entries}
use Rattle.es_tree.specs.Constructs.{field_at, is_logical_assignment, is_private_member, is_private_name, is_private_target}
use Rattle.es_tree.specs.HasForm.{fields_form, flag_of, has_form, is_computed, sort_at}
use Rattle.es_tree.specs.Names.{first_text}
use Rattle.es_tree.specs.Parens.{without_parens}
use Rattle.es_tree.specs.Tree.{Tree, node, Label, Fields, ◌then◌, fields_of, kind_of}
use Rattle.es_tree.specs.Words.{Text}
use Rattle.es_tree.specs.declared.ast_type.AstType.TheVariants.{AssignmentExpression, Identifier, MemberExpression, PrivateIdentifier}
use Rattle.es_tree.specs.declared.table.FieldName.TheVariants.{Computed as f-Computed}
use Rattle.es_tree.specs.declared.table.Sort.{Sort}
use Rattle.es_tree.specs.declared.table.Sort.TheVariants.{AssignmentTarget as s-AssignmentTarget, Expression as s-Expression, MemberProperty as s-MemberProperty}
use Rattle.es_tree.proofs.NodeForm.{node_form}
use Rattle.es_resolution.specs.Seen.{seen, seen_in}
use Rattle.es_runs.specs.Core.{flag_after}
use Rattle.es_runs.specs.LogicalAssignment.{is_logical_assignment_operator}
use Rattle.es_steps.proofs.FormParts.{formed-bare}
use Rattle.es_traverse.specs.Laws.{is_construct}
use Rattle.lower_temporaries.specs.Shapes.{is_name}
use Rattle.lower_temporaries.proofs.ReadAgain.{no_fields-seen}
use Rattle.lower_temporaries.proofs.SeenLaws.{parens-seen}
use Rattle.lower_temporaries.proofs.TwoFields.{name-seen, no-part, two-children, two-seen}
use Rattle.lower_logical_assignment.specs.Assignments.{has_duplicated_key, has_target, is_duplicated_target, is_lowerable_assignment}
use Rattle.es_row_laws.specs.Laws.{is_lowered_assignment, is_simple_node, is_simple_target}

not-true : (b : Bool) → not b ≡ true → b ≡ false
not-true true e = absurd (true≢false (sym e))
not-true false e = refl

-- TARGETS

property-name : (k : Tree) → has_form s-MemberProperty k ≡ true → is_private_name (kind_of k) ≡ false → is_name k ≡ true
property-name (node Identifier l fs) h p = no-part Identifier l fs (node_form s-MemberProperty Identifier l fs h).children
property-name (node PrivateIdentifier l fs) h p = absurd (true≢false p)
property-name (node _ l fs) h p = absurd (true≢false (sym h))

record Flags (fs : List Bool) : Type 0 where
  computed : Bool
  optional : Bool
  are : fs ≡ computed ∷ optional ∷ []

two-flags : (fs : List Bool) → length fs ≡ 2 → Flags fs
two-flags (a ∷ b ∷ []) h = record { computed = a; optional = b; are = refl }
two-flags [] h = absurd (omega (arith, h))
two-flags (a ∷ []) h = absurd (omega (arith, h))
two-flags (a ∷ b ∷ c ∷ fs) h = absurd (omega (arith, h))

keyed : (l : Label) (a b : Bool) (k : Tree) → l.flags ≡ a ∷ b ∷ [] → b ≡ false → has_form (sort_at MemberExpression l s-MemberProperty) k ≡ true → is_private_name (kind_of k) ≡ false → has_duplicated_key (a ∷ b ∷ []) k ≡ true
keyed l true false k e d h p = refl
keyed l true true k e d h p = absurd (true≢false d)
keyed l false true k e d h p = absurd (true≢false d)
keyed l false false k e d h p =
    let plain : is_computed MemberExpression l ≡ false = ap (λ fs. flag_of f-Computed (flag_entries MemberExpression) fs) e in
    property-name k (subst (λ (c : Bool). has_form (if c then s-Expression else s-MemberProperty) k ≡ true) plain h) p

member-fields : (l : Label) (fs : Fields) → fields_form MemberExpression l (child_entries MemberExpression) fs ≡ true → length l.flags ≡ 2 → flag_after l.flags ≡ false → is_private_member MemberExpression fs ≡ false → is_duplicated_target (node MemberExpression l fs) ≡ true
member-fields l fs h flags mark p =
    let parts = two-children MemberExpression l s-Expression s-MemberProperty _ _ refl refl fs h in
    let f = two-flags l.flags flags in
    let named : is_private_name (kind_of parts.second) ≡ false = sym (ap (is_private_member MemberExpression) parts.fields_are) ∙ p in
    ap (λ gs. is_duplicated_target (node MemberExpression l gs)) parts.fields_are ∙
    subst (λ (x : List Bool). has_duplicated_key x parts.second ≡ true) (sym f.are) (keyed l f.computed f.optional parts.second f.are (sym (ap (λ (x : List Bool). flag_after x) f.are) ∙ mark) parts.right named)

simple-target : (u : Tree) → has_form s-AssignmentTarget u ≡ true → is_private_member (kind_of u) (fields_of u) ≡ false → is_simple_node u ≡ true → is_duplicated_target u ≡ true
simple-target (node Identifier l fs) h p e = no-part Identifier l fs (node_form s-AssignmentTarget Identifier l fs h).children
simple-target (node MemberExpression l fs) h p e = let m = node_form s-AssignmentTarget MemberExpression l fs h in member-fields l fs m.children m.flags (not-true (flag_after l.flags) e) p
simple-target (node _ l fs) h p e = absurd (true≢false (sym e))

-- ASSIGNMENTS

two-sides : (s : Sort) (l : Label) (fs : Fields) → has_form s (node AssignmentExpression l fs) ≡ true → is_private_target (field_at 0 fs) ≡ false → is_simple_target (field_at 0 fs) ≡ true → has_target fs ≡ true
two-sides s l fs h p e =
    let parts = two-children AssignmentExpression l s-AssignmentTarget s-Expression _ _ refl refl fs (node_form s AssignmentExpression l fs h).children in
    let first = ap (field_at 0) parts.fields_are in
    ap has_target parts.fields_are ∙ simple-target (without_parens parts.first) (formed-bare s-AssignmentTarget parts.first refl parts.left) (sym (ap is_private_target first) ∙ p) (sym (ap is_simple_target first) ∙ e)

pub formed-assignment : (s : Sort) (t : Tree) → has_form s t ≡ true → is_construct is_lowered_assignment t ≡ true → is_construct is_lowerable_assignment t ≡ true
formed-assignment s (node AssignmentExpression l fs) h e =
    let both = and_parts (is_logical_assignment AssignmentExpression l fs) (is_simple_target (field_at 0 fs)) e in
    let parts = and_parts (is_logical_assignment_operator (first_text l.texts)) (not (is_private_target (field_at 0 fs))) both.0 in
    and_from (is_logical_assignment_operator (first_text l.texts)) (has_target fs) parts.0
    (two-sides s l fs h (not-true (is_private_target (field_at 0 fs)) parts.1) both.1)
formed-assignment s (node _ l fs) h e = absurd (true≢false (sym e))

-- WHAT IS SEEN OF THEM

key-seen : (names : ℕ → Text → Option ℕ) (flags : List Bool) (k : Tree) → has_duplicated_key flags (seen names k) ≡ has_duplicated_key flags k
key-seen names (true ∷ false ∷ []) k = refl
key-seen names (false ∷ false ∷ []) k = name-seen names k
key-seen names _ k = refl

target-seen : (names : ℕ → Text → Option ℕ) (t : Tree) → is_duplicated_target (seen names t) ≡ is_duplicated_target t
target-seen names (node Identifier l fs) = no_fields-seen names fs
target-seen names (node MemberExpression l fs) = two-seen names (λ o k. has_duplicated_key l.flags k) (λ o k. key-seen names l.flags k) fs
target-seen names (node _ l fs) = refl

sides-seen : (names : ℕ → Text → Option ℕ) (fs : Fields) → has_target (seen_in names fs) ≡ has_target fs
sides-seen names = two-seen names (λ t r. is_duplicated_target (without_parens t)) (λ t r. ap is_duplicated_target (parens-seen names t) ∙ target-seen names (without_parens t))

pub lowerable-seen : (names : ℕ → Text → Option ℕ) (t : Tree) → is_construct is_lowerable_assignment (seen names t) ≡ is_construct is_lowerable_assignment t
lowerable-seen names (node AssignmentExpression l fs) = ap (λ b. is_logical_assignment_operator (first_text l.texts) && b) (sides-seen names fs)
lowerable-seen names (node _ l fs) = refl
