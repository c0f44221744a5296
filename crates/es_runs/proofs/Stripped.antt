-- What stands below parentheses: it means the same reference, and as much of its evaluation is taken.
use Rattle.std.proofs.Common.{◌≡◌, refl}
use Rattle.std.specs.Prelude.{Bool, true, false, ◌&&◌}
use Rattle.es_tree.specs.Words.{Text}
use Rattle.es_tree.specs.Parens.{without_parens}
use Rattle.es_tree.specs.Tree.{Tree, node, kind_of, done, ◌then◌, missing, one, many, statements}
use Rattle.es_tree.specs.Walks.{all_nodes, all_in_fields}
use Rattle.es_tree.specs.declared.ast_type.AstType.TheVariants.{ParenthesizedExpression}
use Rattle.es_runs.specs.Alike.{Level, touches, touches_fields}
use Rattle.es_runs.specs.Core.{World, is_pattern, meaning}
use Rattle.es_runs.specs.Standing.{fields_stand, undeclaring}
use Rattle.es_runs.proofs.Fresh.{or_left}
use Rattle.es_runs.proofs.Named.{and_left, and_right}

-- whether parentheses around a node have the one child alone
abbrev pub single_parens : Tree → Bool
single_parens (node ParenthesizedExpression l (one t then done)) = single_parens t
single_parens (node ParenthesizedExpression l (one t then (f then fs))) = false
single_parens _ = true

pub undeclaring_single : (t : Tree) → all_nodes undeclaring t ≡ true → single_parens t ≡ true
undeclaring_single (node ParenthesizedExpression l (one t then done)) h = undeclaring_single t (and_left (all_nodes undeclaring t) true (and_right (undeclaring ParenthesizedExpression l (one t then done)) (all_nodes undeclaring t && true) h))
undeclaring_single (node ParenthesizedExpression l (one t then (f then fs))) h =
    let own = and_left (undeclaring ParenthesizedExpression l (one t then (f then fs))) (all_in_fields undeclaring (one t then (f then fs))) h in
    absurd (cc (and_right (fields_stand ParenthesizedExpression (one t then (f then fs))) false own))
undeclaring_single (node ParenthesizedExpression l (missing then fs)) h = refl
undeclaring_single (node ParenthesizedExpression l (many ts then fs)) h = refl
undeclaring_single (node ParenthesizedExpression l (statements ts then fs)) h = refl
undeclaring_single (node ParenthesizedExpression l done) h = refl
undeclaring_single (node _ l fs) h = refl

-- the same reference
pub single_reference : (w : World) (t : Tree) → single_parens t ≡ true → (meaning w t).reference ≡ (meaning w (without_parens t)).reference
single_reference w (node ParenthesizedExpression l (one t then done)) h = single_reference w t h
single_reference w (node ParenthesizedExpression l (one t then (f then fs))) h = absurd (cc h)
single_reference w (node ParenthesizedExpression l (missing then fs)) h = refl
single_reference w (node ParenthesizedExpression l (many ts then fs)) h = refl
single_reference w (node ParenthesizedExpression l (statements ts then fs)) h = refl
single_reference w (node ParenthesizedExpression l done) h = refl
single_reference w (node _ l fs) h = refl

pub stripped_reference : (w : World) (t : Tree) → all_nodes undeclaring t ≡ true → (meaning w t).reference ≡ (meaning w (without_parens t)).reference
stripped_reference w t h = single_reference w t (undeclaring_single t h)

-- no bad name stands below the parentheses, where as much of an evaluation is taken there as outside
pub record StrippedFree (bad : Level → Text → Bool) (level : Level) (t : Tree) : Type 0 where
  pub form : Bool
  pub free : touches bad (record { level = level; form = form }) (without_parens t) ≡ false

pub stripped_free : (bad : Level → Text → Bool) (level : Level) (form : Bool) (t : Tree) → touches bad (record { level = level; form = form }) t ≡ false → StrippedFree bad level t
stripped_free bad level form (node ParenthesizedExpression l (one t then fs)) h =
    let k = stripped_free bad level false t (or_left (touches bad (record { level = level; form = false }) t) (touches_fields bad (λ i. record { level = level; form = false }) fs) h) in
    record { form = k.form; free = k.free }
stripped_free bad level form (node ParenthesizedExpression l (missing then fs)) h = record { form = form; free = h }
stripped_free bad level form (node ParenthesizedExpression l (many ts then fs)) h = record { form = form; free = h }
stripped_free bad level form (node ParenthesizedExpression l (statements ts then fs)) h = record { form = form; free = h }
stripped_free bad level form (node ParenthesizedExpression l done) h = record { form = form; free = h }
stripped_free bad level form (node _ l fs) h = record { form = form; free = h }

-- and where it is no pattern, neither is what the parentheses stand around
pub stripped_pattern : (t : Tree) → is_pattern (kind_of (without_parens t)) ≡ false → is_pattern (kind_of t) ≡ false
stripped_pattern (node ParenthesizedExpression l fs) h = refl
stripped_pattern (node _ l fs) h = h
