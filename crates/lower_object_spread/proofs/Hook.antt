-- The hook of object spread: a literal is lowered, or a node is left alone.
use Rattle.std.proofs.Common.{◌≡◌, ◌∙◌, ◌<◌, Bool, true, false, refl, ap, length}
use Rattle.std.specs.Prelude.{◌&&◌, is_some}
use Rattle.es_tree.specs.Constructs.{is_object_spread}
use Rattle.es_tree.specs.Tree.{Tree, node, kind_of}
use Rattle.es_tree.specs.declared.ast_type.AstType.TheVariants.{CallExpression, ObjectExpression}
use Rattle.es_tree.specs.declared.options.EnvOptions.{EnvOptions}
use Rattle.es_scope.specs.declared.context.TraverseCtx.{TraverseCtx}
use Rattle.es_resolution.specs.Seen.{seen}
use Rattle.es_steps.specs.CoreRules.{RowRule}
use Rattle.es_steps.specs.ObjectSpread.{SpreadRule}
use Rattle.es_steps.specs.Rules.Replacing.{replaces}
use Rattle.es_steps.specs.Steps.{Ledger, Site, Spot}
use Rattle.es_changes.specs.Moments.{Moment}
use Rattle.es_conditions.proofs.Copies.{spread-keeps}
use Rattle.es_conditions.specs.CoreConditions.{is_free}
use Rattle.es_conditions.specs.Laws.{Keeps}
use Rattle.es_traverse.specs.Laws.{KeptLoad, Known, Seen, is_construct}
use Rattle.es_row_laws.specs.Laws.{object_spread_under}
use Rattle.lower_temporaries.specs.Replacings.{IsPut}
use Rattle.lower_temporaries.specs.Takings.{moment_of}
use Rattle.lower_temporaries.specs.declared.state.TransformState.{TransformState}
use Rattle.lower_temporaries.proofs.Entered.{on-rule}
use Rattle.lower_temporaries.proofs.RowProfiles.{EnteredBy, left-alone, none-where, put-by-kinds, row-entered, row-kept}
use Rattle.lower_object_spread.specs.Copying.{Lowers, SpreadRow}
use Rattle.lower_object_spread.specs.Literals.{is_lowerable_literal}
use Rattle.lower_object_spread.specs.Profile.{object_spread_profile}
use Rattle.lower_object_spread.proofs.Literals.{formed-literal, lowerable-seen}

-- WHAT IS PUT

literal-kind : (t : Tree) → is_construct is_lowerable_literal t ≡ true → kind_of t ≡ ObjectExpression
literal-kind (node ObjectExpression l fs) h = refl
literal-kind (node _ l fs) h = absurd (cc h)

is-put : (o : EnvOptions) (t u : Tree) → is_construct is_lowerable_literal t ≡ true → kind_of u ≡ CallExpression → IsPut (object_spread_profile o) t u
is-put o t u lowerable made = put-by-kinds (object_spread_profile o) ObjectExpression CallExpression t u (literal-kind t lowerable) made (none-where (is_some o.es2018.object_rest_spread)) refl refl refl made

-- THE ROW

row-under : (o : EnvOptions) → is_some o.es2018.object_rest_spread ≡ true → (n : Site) (s : Ledger) (x : Spot) (s' : Ledger) (y : Spot) → RowRule (SpreadRow o) n s x s' y → object_spread_under o n s x s' y
row-under o on n s _ s' _ (replaces bs h) = (on-rule (RowRule SpreadRule) (is_some o.es2018.object_rest_spread) on n s _ s' _ (replaces bs (record { rule = h.rule.0; outside = h.outside })), h.rule.1)

row-keeps : (o : EnvOptions) → is_some o.es2018.object_rest_spread ≡ true → Keeps (is_free o) (is_free o) (SpreadRow o)
row-keeps o on = let k = spread-keeps o on in record { outside = λ n w bs s t u form e r. k.outside n w bs s t u form e r.0; known = λ n w bs s t u form e r. k.known n w bs s t u form e r.0 }

-- THE HOOK

-- a literal that was lowered, once it was taken out
module _ (old new : TraverseCtx TransformState) (t s u : Tree) (taken : s ≡ t) (there : 0 < length old.state.var_declarations) (lowers : Seen (Lowers old new) s u) where
  pub kept-lowered : KeptLoad 0 (moment_of old) t (moment_of new) u
  kept-lowered = row-kept (SpreadRow old.options) (moment_of old) (moment_of new) t s u taken there (Known (is_free old.options)) (λ names. (lowers names).replaces)

  pub entered-lowered : is_some old.options.es2018.object_rest_spread ≡ true → is_construct is_lowerable_literal t ≡ true → Seen (λ x y. EnteredBy (object_spread_profile old.options) (moment_of old) x (moment_of new) y) t u
  entered-lowered on lowerable =
      let o = old.options in
      row-entered (SpreadRow o) (moment_of old) (moment_of new) t s u taken there (object_spread_profile o) (row-under o on) (row-keeps o on) (λ names. (lowers names).replaces)
      (λ names. is-put o (seen names s) (seen names u) (lowerable-seen names s ∙ (ap (is_construct is_lowerable_literal) taken ∙ lowerable)) (lowers names).made)

-- a node that was left alone
pub left : (o : EnvOptions) (is_on : Bool) → is_on ≡ is_some o.es2018.object_rest_spread → (a : Moment) (t : Tree) → (is_on && is_construct is_lowerable_literal t) ≡ false → Seen (λ x y. EnteredBy (object_spread_profile o) a x a y) t t
left o is_on = left-alone (object_spread_profile o) is_object_spread is_lowerable_literal (is_some o.es2018.object_rest_spread) is_on (λ t. refl) (λ n t known. known) formed-literal lowerable-seen
