-- A chain that was lowered inside the parentheses of a callee: a step there is a step of the call, and what it weighs.
use Rattle.std.proofs.Common.{◌≡◌, ◌+◌, arith}
use Rattle.es_conditions.specs.CoreConditions.{inside_site, put_inside}
use Rattle.es_steps.specs.Open.{is_body, opened, opened_fields}
use Rattle.es_steps.specs.Steps.{Ledger, Site, Spot, Step, site_in}
use Rattle.es_steps.specs.Steps.FieldStep.{in_child}
use Rattle.es_steps.specs.Steps.FieldsStep.{in_first}
use Rattle.es_steps.specs.Steps.Step.{inside}
use Rattle.es_traverse.specs.Loads.{load}
use Rattle.es_tree.specs.Parens.{without_parens}
use Rattle.es_tree.specs.Tree.{Tree, node, Label, Trees, done, ◌then◌, missing, one, many, statements, tree_size}
use Rattle.es_tree.specs.declared.ast_type.AstType.TheVariants.{CallExpression, ParenthesizedExpression}
use Rattle.es_conditions.specs.Laws.{called_by, callee_site}

module _ (R : Site → Ledger → Spot → Ledger → Spot → Type 0) (s s' : Ledger) where
  -- inside parentheses
  pub inside-step : (n : Site) (t d : Tree) → Step R (inside_site n t) s (opened (without_parens t)) s' (opened d) → Step R n s (opened t) s' (opened (put_inside t d))
  inside-step n (node ParenthesizedExpression l (one t then fs)) d h = inside (in_first (in_child (inside-step (site_in n ParenthesizedExpression l (opened_fields (is_body ParenthesizedExpression) (one t then fs)) 0) t d h)))
  inside-step n (node ParenthesizedExpression l done) d h = h
  inside-step n (node ParenthesizedExpression l (missing then fs)) d h = h
  inside-step n (node ParenthesizedExpression l (many ts then fs)) d h = h
  inside-step n (node ParenthesizedExpression l (statements ts then fs)) d h = h
  inside-step n (node _ l fs) d h = h

  -- and in the callee of a call
  pub called-step : (n : Site) (l : Label) (f d : Tree) (arguments : Trees) → Step R (callee_site n l f arguments) s (opened (without_parens f)) s' (opened d) → Step R n s (opened (called_by l f arguments)) s' (opened (called_by l (put_inside f d) arguments))
  called-step n l f d arguments h = inside (in_first (in_child (inside-step (site_in n CallExpression l (opened_fields (is_body CallExpression) (one f then (many arguments then done))) 0) f d h)))

pub put-load : (t d : Tree) → load (put_inside t d) + load (without_parens t) ≡ load t + load d
put-load (node ParenthesizedExpression l (one t then fs)) d = let h = put-load t d in omega (arith, h)
put-load (node ParenthesizedExpression l done) d = omega arith
put-load (node ParenthesizedExpression l (missing then fs)) d = omega arith
put-load (node ParenthesizedExpression l (many ts then fs)) d = omega arith
put-load (node ParenthesizedExpression l (statements ts then fs)) d = omega arith
put-load (node _ l fs) d = omega arith

pub put-size : (t d : Tree) → tree_size (put_inside t d) + tree_size (without_parens t) ≡ tree_size t + tree_size d
put-size (node ParenthesizedExpression l (one t then fs)) d = let h = put-size t d in omega (arith, h)
put-size (node ParenthesizedExpression l done) d = omega arith
put-size (node ParenthesizedExpression l (missing then fs)) d = omega arith
put-size (node ParenthesizedExpression l (many ts then fs)) d = omega arith
put-size (node ParenthesizedExpression l (statements ts then fs)) d = omega arith
put-size (node _ l fs) d = omega arith
