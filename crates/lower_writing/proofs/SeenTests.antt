-- What a slot is wrapped for is told by what is seen: ids and marks don't count.
use Rattle.std.proofs.Common.{◌≡◌, ◌∙◌, ℕ, zero, suc, refl, ap, List}
use Rattle.std.specs.Prelude.{Bool, ◌&&◌, ◌||◌, not, Option, bytes_eq, codes, is_some}
use Rattle.es_tree.specs.Constructs.{any_kind, field_at, has_member, is_big_int, is_chain, is_child, is_exponentiation, is_logical_assignment, is_nullish_coalescing, is_private_member, is_private_name, is_private_target, is_rest}
use Rattle.es_tree.specs.HasForm.{same_type}
use Rattle.es_tree.specs.Names.{first_text}
use Rattle.es_tree.specs.Parens.{without_parens}
use Rattle.es_tree.specs.Tree.{Tree, node, Label, Fields, done, ◌then◌, Field, missing, one, many, statements, Trees, empty, ◌before◌, fields_of, kind_of}
use Rattle.es_tree.specs.Words.{Text}
use Rattle.es_tree.specs.declared.ast_type.AstType.{AstType}
use Rattle.es_tree.specs.declared.ast_type.AstType.TheVariants.{AssignmentExpression, BinaryExpression, ChainExpression, LogicalExpression, MemberExpression, ObjectTarget}
use Rattle.es_tree.specs.declared.options.EnvOptions.{EnvOptions}
use Rattle.es_resolution.specs.Seen.{seen, seen_among, seen_by, seen_in, seen_marks}
use Rattle.es_traverse.proofs.Kept.{kind-seen}
use Rattle.lower_temporaries.proofs.SeenLaws.{parens-seen}
use Rattle.es_steps.specs.Slots.{closes, holds, holds_field, holds_fields, holds_trees}
use Rattle.es_tree.specs.RestTargets.{is_rest_target}
use Rattle.es_steps.specs.WrapRule.{is_member_target, is_wrapped_for}

-- the label that is seen, with these marks
abbrev seen_label : List (Option ℕ) → Label → Label
seen_label ms l = record l { id = 0; marks = ms }

module _ (names : ℕ → Text → Option ℕ) where
  field-at-seen : (i : ℕ) (fs : Fields) → field_at i (seen_in names fs) ≡ seen_by names (field_at i fs)
  field-at-seen i done = refl
  field-at-seen zero (f then fs) = refl
  field-at-seen (suc i) (f then fs) = field-at-seen i fs

  child-seen : (p : AstType → Bool) (f : Field) → is_child p (seen_by names f) ≡ is_child p f
  child-seen p missing = refl
  child-seen p (one t) = ap p (kind-seen names t)
  child-seen p (many ts) = refl
  child-seen p (statements ts) = refl

  child-at-seen : (p : AstType → Bool) (i : ℕ) (fs : Fields) → is_child p (field_at i (seen_in names fs)) ≡ is_child p (field_at i fs)
  child-at-seen p i fs = ap (is_child p) (field-at-seen i fs) ∙ child-seen p (field_at i fs)

  any-kind-seen : (p : AstType → Bool) (ts : Trees) → any_kind p (seen_among names ts) ≡ any_kind p ts
  any-kind-seen p empty = refl
  any-kind-seen p (t before ts) = λ i. p (kind-seen names t i) || any-kind-seen p ts i

  member-seen : (p : AstType → Bool) (f : Field) → has_member p (seen_by names f) ≡ has_member p f
  member-seen p missing = refl
  member-seen p (one t) = refl
  member-seen p (many ts) = any-kind-seen p ts
  member-seen p (statements ts) = refl

  -- TARGETS

  private-member-seen : (t : Tree) → is_private_member (kind_of (seen names t)) (fields_of (seen names t)) ≡ is_private_member (kind_of t) (fields_of t)
  private-member-seen (node MemberExpression l fs) = child-at-seen is_private_name 1 fs
  private-member-seen (node _ l fs) = refl

  private-target-seen : (f : Field) → is_private_target (seen_by names f) ≡ is_private_target f
  private-target-seen missing = refl
  private-target-seen (one t) = ap (λ u. is_private_member (kind_of u) (fields_of u)) (parens-seen names t) ∙ private-member-seen (without_parens t)
  private-target-seen (many ts) = refl
  private-target-seen (statements ts) = refl

  member-target-seen : (f : Field) → is_member_target (seen_by names f) ≡ is_member_target f
  member-target-seen missing = refl
  member-target-seen (one t) = ap (λ u. same_type (kind_of u) MemberExpression) (parens-seen names t) ∙ ap (λ k. same_type k MemberExpression) (kind-seen names (without_parens t))
  member-target-seen (many ts) = refl
  member-target-seen (statements ts) = refl

  rest-seen : (t : Tree) → has_member is_rest (field_at 0 (fields_of (seen names t))) ≡ has_member is_rest (field_at 0 (fields_of t))
  rest-seen (node k l fs) = ap (has_member is_rest) (field-at-seen 0 fs) ∙ member-seen is_rest (field_at 0 fs)

  rest-target-seen : (f : Field) → is_rest_target (seen_by names f) ≡ is_rest_target f
  rest-target-seen missing = refl
  rest-target-seen (one t) = λ i. same_type (kind-seen names t i) ObjectTarget && rest-seen t i
  rest-target-seen (many ts) = refl
  rest-target-seen (statements ts) = refl

  -- CONSTRUCTS

  module _ (ms : List (Option ℕ)) (l : Label) (fs : Fields) where
    nullish-seen : (k : AstType) → is_nullish_coalescing k (seen_label ms l) (seen_in names fs) ≡ is_nullish_coalescing k l fs
    nullish-seen LogicalExpression = refl
    nullish-seen _ = refl

    chain-seen : (k : AstType) → is_chain k (seen_label ms l) (seen_in names fs) ≡ is_chain k l fs
    chain-seen ChainExpression = refl
    chain-seen _ = refl

    power-seen : (k : AstType) → is_exponentiation k (seen_label ms l) (seen_in names fs) ≡ is_exponentiation k l fs
    power-seen BinaryExpression = λ i. bytes_eq (first_text l.texts) (codes "**") && not (child-at-seen is_big_int 0 fs i) && not (child-at-seen is_big_int 1 fs i)
    power-seen AssignmentExpression = λ i. bytes_eq (first_text l.texts) (codes "**=") && not (child-at-seen is_big_int 1 fs i)
    power-seen _ = refl

    logical-seen : (k : AstType) → is_logical_assignment k (seen_label ms l) (seen_in names fs) ≡ is_logical_assignment k l fs
    logical-seen AssignmentExpression =
        ap (λ b. (bytes_eq (first_text l.texts) (codes "||=") || bytes_eq (first_text l.texts) (codes "&&=") || bytes_eq (first_text l.texts) (codes "??=")) && not b)
        (ap is_private_target (field-at-seen 0 fs) ∙ private-target-seen (field_at 0 fs))
    logical-seen _ = refl

    wrapped-for-seen : (o : EnvOptions) (k : AstType) → is_wrapped_for o k (seen_label ms l) (seen_in names fs) ≡ is_wrapped_for o k l fs
    wrapped-for-seen o k =
        let target = ap is_member_target (field-at-seen 0 fs) ∙ member-target-seen (field_at 0 fs) in
        let rest = ap is_rest_target (field-at-seen 0 fs) ∙ rest-target-seen (field_at 0 fs) in
        λ i. (o.es2020.nullish_coalescing_operator && nullish-seen k i)
        || (o.es2020.optional_chaining && chain-seen k i)
        || (o.es2016.exponentiation_operator && same_type k AssignmentExpression && power-seen k i)
        || (o.es2021.logical_assignment_operators && logical-seen k i && (target i || (o.es2020.nullish_coalescing_operator && bytes_eq (first_text l.texts) (codes "??="))))
        || (is_some o.es2018.object_rest_spread && same_type k AssignmentExpression && rest i)

  -- TREES

  module _ (o : EnvOptions) where
    mutual
      pub holds-seen : (t : Tree) → holds (is_wrapped_for o) (seen names t) ≡ holds (is_wrapped_for o) t
      holds-seen (node k l fs) = λ i. wrapped-for-seen (seen_marks names k l fs) l fs o k i || holds-seen-in (closes k) fs i

      holds-seen-in : (c : ℕ → Bool) (fs : Fields) → holds_fields (is_wrapped_for o) c (seen_in names fs) ≡ holds_fields (is_wrapped_for o) c fs
      holds-seen-in c done = refl
      holds-seen-in c (f then fs) = λ i. (not (c zero) && holds-seen-by f i) || holds-seen-in (λ j. c (suc j)) fs i

      holds-seen-by : (f : Field) → holds_field (is_wrapped_for o) (seen_by names f) ≡ holds_field (is_wrapped_for o) f
      holds-seen-by missing = refl
      holds-seen-by (one t) = holds-seen t
      holds-seen-by (many ts) = holds-seen-among ts
      holds-seen-by (statements ts) = holds-seen-among ts

      holds-seen-among : (ts : Trees) → holds_trees (is_wrapped_for o) (seen_among names ts) ≡ holds_trees (is_wrapped_for o) ts
      holds-seen-among empty = refl
      holds-seen-among (t before ts) = λ i. holds-seen t i || holds-seen-among ts i
