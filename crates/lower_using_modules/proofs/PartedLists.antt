-- Lists of statements, what they leave outside and become inside, statement by statement.
use Rattle.std.proofs.Common.{◌≡◌, ◌∙◌, List, [], ◌∷◌, ap, arith, length, refl, sym}
use Rattle.std.specs.Prelude.{◌||◌, Bool, false, if◌then◌else◌, true}
use Rattle.std.specs.List.{list_any}
use Rattle.es_tree.specs.Tree.{Tree, Trees, node, ◌then◌, one, empty, trees, ◌before◌}
use Rattle.es_tree.specs.declared.ast_type.AstType.TheVariants.{ExportDefaultDeclaration, ExportNamedDeclaration}
use Rattle.es_steps.specs.Nodes.{joined_trees}
use Rattle.es_steps.proofs.Lists.{joined-empty}
use Rattle.es_steps.proofs.Written.{joined-twice}
use Rattle.es_using_modules.specs.ModuleTops.{Makes, inside, is_named_default, left_outside, moved_inside, outside, some_default, stays_outside}

pub any-default : (ts : List Tree) → list_any is_named_default ts ≡ some_default (trees ts)
any-default [] = refl
any-default (t ∷ ts) = ap (λ b. is_named_default t || b) (any-default ts)

-- A WAY that goes statement by statement: as far as it has come, with the others to come, and at its end

module _ (way : Trees → Trees) (none : way empty ≡ empty) (more : (t : Tree) (ts : Trees) → way (t before ts) ≡ joined_trees (way (t before empty)) (way ts)) where
  pub next : (now new ts : List Tree) (t : Tree) (all : Trees) → joined_trees (trees now) (way (t before trees ts)) ≡ all → trees new ≡ joined_trees (trees now) (way (t before empty)) → joined_trees (trees new) (way (trees ts)) ≡ all
  next now new ts t all so_far put =
      ap (λ us. joined_trees us (way (trees ts))) put ∙ (joined-twice (trees now) (way (t before empty)) (way (trees ts)) ∙ (ap (joined_trees (trees now)) (sym (more t (trees ts))) ∙ so_far))

  pub at-end : (now ts : List Tree) (all : Trees) → length ts ≡ 0 → joined_trees (trees now) (way (trees ts)) ≡ all → trees now ≡ all
  at-end now [] all is so_far = sym (joined-empty (trees now)) ∙ (ap (joined_trees (trees now)) (sym none) ∙ so_far)
  at-end now (t ∷ ts) all is so_far = absurd (omega (arith, is))

-- OUTSIDE

left-joined : (m : Makes) (t : Tree) (us : Trees) → left_outside m t us ≡ joined_trees (left_outside m t empty) us
left-joined m (node ExportNamedDeclaration l (one d then fs)) us = refl
left-joined m (node ExportDefaultDeclaration l (one d then fs)) us = refl
left-joined m _ us = refl

pub outside-more : (m : Makes) (t : Tree) (ts : Trees) → outside m (t before ts) ≡ joined_trees (outside m (t before empty)) (outside m ts)
outside-more m t ts = by-test (stays_outside t)
  where
    by-test : (b : Bool) → (if b then (t before outside m ts) else left_outside m t (outside m ts)) ≡ joined_trees (if b then (t before empty) else left_outside m t empty) (outside m ts)
    by-test true = refl
    by-test false = left-joined m t (outside m ts)

-- INSIDE

pub inside-more : (m : Makes) (t : Tree) (ts : Trees) → inside m (t before ts) ≡ joined_trees (inside m (t before empty)) (inside m ts)
inside-more m t ts = by-test (stays_outside t)
  where
    by-test : (b : Bool) → (if b then inside m ts else (moved_inside m t before inside m ts)) ≡ joined_trees (if b then empty else (moved_inside m t before empty)) (inside m ts)
    by-test true = refl
    by-test false = refl

-- ONE STATEMENT, which stays or not

pub one-outside : (m : Makes) (t : Tree) (b : Bool) → stays_outside t ≡ b → outside m (t before empty) ≡ (if b then (t before empty) else left_outside m t empty)
one-outside m t b e = ap (λ c. if c then (t before empty) else left_outside m t empty) e

pub one-inside : (m : Makes) (t : Tree) (b : Bool) → stays_outside t ≡ b → inside m (t before empty) ≡ (if b then empty else (moved_inside m t before empty))
one-inside m t b e = ap (λ c. if c then empty else (moved_inside m t before empty)) e
