-- What a property leaves out whose key is a computed literal, or a template without expressions: the text that object rests have of it.
use Rattle.std.proofs.Common.{◌≡◌, ◌∙◌, refl, sym, subst, true≢false, List, [], ◌∷◌}
use Rattle.std.specs.Prelude.{Bool, true, false, Option, Some, None, is_some, unwrap_or}
use Rattle.es_tree.specs.Names.{first_text, flag_at}
use Rattle.es_tree.specs.Tree.{Tree, node, Label, Fields, done, ◌then◌, missing, one, many, statements, empty, ◌before◌}
use Rattle.es_tree.specs.Words.{Text}
use Rattle.es_tree.specs.declared.ast_type.AstType.TheVariants.{BigIntLiteral, BooleanLiteral, NullLiteral, NumericLiteral, StringLiteral, TemplateElement, TemplateLiteral}
use Rattle.es_runs.specs.Core.{flag, second}
use Rattle.es_statement_runs.specs.Helpers.{Supply}
use Rattle.es_statement_runs.specs.Kinds.{boolean_text as text_of_boolean, second_text as cooked_text}
use Rattle.es_split_runs.specs.Laws.{LeavesOut}
use Rattle.es_split_runs.proofs.KeyTexts.{literal_leaves, whole_template_leaves}
use Rattle.es_tree.specs.PropertyKeys.{boolean_text, is_literal_key, key_text, second_text, template_text}
use Rattle.es_rest_runs.specs.Laws.{LawLiteralKeys}

boolean-same : (fs : List Bool) → text_of_boolean (flag fs) ≡ boolean_text (flag_at 0 fs)
boolean-same [] = refl
boolean-same (true ∷ fs) = refl
boolean-same (false ∷ fs) = refl

-- the second of two texts
pub second-same : (ts : List (Option Text)) → is_some (second_text ts) ≡ true → second ts ≡ unwrap_or (second_text ts) (first_text ts)
second-same [] h = absurd (true≢false (sym h))
second-same (t ∷ []) h = absurd (true≢false (sym h))
second-same (t ∷ Some x ∷ ts) h = refl
second-same (t ∷ None ∷ ts) h = absurd (true≢false (sym h))

pub cooked-same : (ts : List (Option Text)) → cooked_text ts ≡ second_text ts
cooked-same [] = refl
cooked-same (t ∷ []) = refl
cooked-same (t ∷ u ∷ ts) = refl

some-text : (o : Option Text) (d : Text) → is_some o ≡ true → o ≡ Some (unwrap_or o d)
some-text (Some x) d h = refl
some-text None d h = absurd (true≢false (sym h))

module _ (u : Supply) (l : Label) (computed : flag_at 1 l.flags ≡ true) where
  same-text : (k : Tree) {x y : Text} → x ≡ y → LeavesOut u (Some x) l k → LeavesOut u (Some y) l k
  same-text k e h = subst (λ (t : Text). LeavesOut u (Some t) l k) e h

  template-leaves : (m : Label) (fs : Fields) → is_some (template_text fs) ≡ true → LeavesOut u (Some (unwrap_or (template_text fs) (first_text m.texts))) l (node TemplateLiteral m fs)
  template-leaves m (many (node TemplateElement n fs before empty) then (many empty then done)) h =
      whole_template_leaves u l m n fs (unwrap_or (second_text n.texts) (first_text m.texts)) computed (cooked-same n.texts ∙ some-text (second_text n.texts) (first_text m.texts) h)
  template-leaves m (many (node TemplateElement n fs before empty) then (many empty then (g then gs))) h = absurd (true≢false (sym h))
  template-leaves m (many (node TemplateElement n fs before empty) then (many (t before ts) then gs)) h = absurd (true≢false (sym h))
  template-leaves m (many (node TemplateElement n fs before empty) then (one t then gs)) h = absurd (true≢false (sym h))
  template-leaves m (many (node TemplateElement n fs before empty) then (statements ts then gs)) h = absurd (true≢false (sym h))
  template-leaves m (many (node TemplateElement n fs before empty) then (missing then gs)) h = absurd (true≢false (sym h))
  template-leaves m (many (node TemplateElement n fs before empty) then done) h = absurd (true≢false (sym h))
  template-leaves m (many (node TemplateElement n fs before (t before ts)) then gs) h = absurd (true≢false (sym h))
  template-leaves m (many (node _ n fs before ts) then gs) h = absurd (true≢false (sym h))
  template-leaves m (many empty then gs) h = absurd (true≢false (sym h))
  template-leaves m (one t then gs) h = absurd (true≢false (sym h))
  template-leaves m (statements ts then gs) h = absurd (true≢false (sym h))
  template-leaves m (missing then gs) h = absurd (true≢false (sym h))
  template-leaves m done h = absurd (true≢false (sym h))

  literal-leaves : (k : Tree) → is_literal_key k ≡ true → LeavesOut u (Some (key_text k)) l k
  literal-leaves (node NullLiteral m fs) h = literal_leaves u l (node NullLiteral m fs) computed refl
  literal-leaves (node BooleanLiteral m fs) h = same-text (node BooleanLiteral m fs) (boolean-same m.flags) (literal_leaves u l (node BooleanLiteral m fs) computed refl)
  literal-leaves (node NumericLiteral m fs) h = same-text (node NumericLiteral m fs) (second-same m.texts h) (literal_leaves u l (node NumericLiteral m fs) computed refl)
  literal-leaves (node BigIntLiteral m fs) h = same-text (node BigIntLiteral m fs) (second-same m.texts h) (literal_leaves u l (node BigIntLiteral m fs) computed refl)
  literal-leaves (node StringLiteral m fs) h = literal_leaves u l (node StringLiteral m fs) computed refl
  literal-leaves (node TemplateLiteral m fs) h = template-leaves m fs h
  literal-leaves (node _ m fs) h = absurd (true≢false (sym h))

pub law_literal_keys_proof : LawLiteralKeys
law_literal_keys_proof u l k computed h = literal-leaves u l computed k h
