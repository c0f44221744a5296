-- What rows of chains take at a place is taken there by the machine of statements too, wherever a chain may stand that is no tag.
use Rattle.std.proofs.Common.{◌≡◌, ℕ, zero, suc, refl}
use Rattle.std.specs.List.{list_any}
use Rattle.std.specs.Prelude.{Bool, true, false, not, ◌||◌}
use Rattle.es_tree.specs.CoreStaticRules.{is_bad_target, is_simple_target, place_in}
use Rattle.es_tree.specs.HasForm.{same_type}
use Rattle.es_tree.specs.Names.{first_text, flag_at}
use Rattle.es_tree.specs.Parens.{without_parens}
use Rattle.es_tree.specs.Table.{own_kinds}
use Rattle.es_tree.specs.Tree.{Tree, node, Label, kind_of}
use Rattle.es_tree.specs.declared.ast_type.AstType.{AstType}
use Rattle.es_tree.specs.declared.ast_type.AstType.TheVariants.{ArrayPattern, ArrayTarget, AssignmentPattern, BreakStatement, CatchClause, ChainExpression, ContinueStatement, ExportAllDeclaration, ExportNamedDeclaration, ExportSpecifier, ForInStatement, ForOfStatement, ImportDeclaration, ImportDefaultSpecifier, ImportNamespaceSpecifier, ImportSpecifier, LabeledStatement, MemberExpression, CallExpression, AssignmentExpression, ObjectExpression, ObjectPattern, ObjectProperty, ObjectTarget, ParenthesizedExpression, PatternProperty, RestElement, SwitchStatement, TaggedTemplateExpression, TargetProperty, TargetRest, TargetWithDefault, TemplateLiteral, TryStatement, UnaryExpression, VariableDeclarator}
use Rattle.es_tree.specs.declared.place.Place.{Place}
use Rattle.es_tree.specs.declared.place.Place.TheVariants.{Target}
use Rattle.es_tree.specs.declared.table.Sort.{Sort}
use Rattle.es_tree.specs.declared.table.Sort.TheVariants.{ForLeft as s-ForLeft, TargetElement as s-TargetElement, TargetElementRest as s-TargetElementRest}
use Rattle.es_runs.specs.Alike.{Level, Need, key_need, needs, unary_need}
use Rattle.es_runs.specs.Alike.Level.{no_evaluation, value_alone}
use Rattle.es_runs.specs.Core.{UnaryClass, unary_class}
use Rattle.es_runs.specs.Core.UnaryClass.{delete_class, typeof_class, void_class}
use Rattle.es_runs.specs.OptionalChaining.{is_chain_kind}
use Rattle.es_statement_runs.specs.Places.{Take, key_taken, takes_of}
use Rattle.es_statement_steps.proofs.Chainings.{Meets, is_chain}
use Rattle.es_statement_steps.proofs.Stands.{binds_at, is_link_kind, is_pattern, parts_fit}

-- KINDS of chains, maybe in parentheses

abbrev wraps : AstType → Bool
wraps ChainExpression = true
wraps ParenthesizedExpression = true
wraps _ = false

chain-wraps : (t : Tree) → is_chain t ≡ true → wraps (kind_of t) ≡ true
chain-wraps (node ChainExpression l fs) c = refl
chain-wraps (node ParenthesizedExpression l fs) c = refl
chain-wraps (node _ l fs) c = absurd (cc c)

not-pattern : (j : AstType) → wraps j ≡ true → is_pattern j ≡ true → ⊥
not-pattern ChainExpression w e = cc e
not-pattern ParenthesizedExpression w e = cc e
not-pattern _ w e = cc w

not-link : (j : AstType) → wraps j ≡ true → is_link_kind j ≡ true → ⊥
not-link ChainExpression w e = cc e
not-link ParenthesizedExpression w e = cc e
not-link _ w e = cc w

-- NO TARGET: a chain is none, by the rule of targets

record IsNoTarget (j : AstType) : Type 0 where
  head : list_any (same_type j) (own_kinds s-ForLeft) ≡ false
  element : list_any (same_type j) (own_kinds s-TargetElement) ≡ false
  rest : list_any (same_type j) (own_kinds s-TargetElementRest) ≡ false

no-target : (j : AstType) → wraps j ≡ true → IsNoTarget j
no-target ChainExpression w = record { head = refl; element = refl; rest = refl }
no-target ParenthesizedExpression w = record { head = refl; element = refl; rest = refl }
no-target _ w = absurd (cc w)

not-simple : (k : AstType) → is_chain_kind k ≡ true → is_simple_target k ≡ false
not-simple ChainExpression c = refl
not-simple _ c = absurd (cc c)

neither : (a b : Bool) → a ≡ false → b ≡ false → not (a || b) ≡ false → ⊥
neither true b e d h = cc e
neither false true e d h = cc d
neither false false e d h = cc h

off-target : (s : Sort) (t : Tree) → is_chain t ≡ true → list_any (same_type (kind_of t)) (own_kinds s) ≡ false → is_bad_target (Target s) t ≡ false → ⊥
off-target s t c e h = neither (list_any (same_type (kind_of t)) (own_kinds s)) (is_simple_target (kind_of (without_parens t))) e (not-simple (kind_of (without_parens t)) c) h

-- WHAT IS TAKEN

same : (a : Level) → Meets a a
same a = record { value = λ e. e; callee = λ e. e }

told : Meets value_alone no_evaluation
told = record { value = λ e. refl; callee = λ e. absurd (cc e) }

by-key : (computed : Bool) → Meets (key_need computed).level (key_taken computed).need.level
by-key true = same value_alone
by-key false = same no_evaluation

by-class : (a b : Bool) (c : UnaryClass) → Meets (unary_need a c).level (unary_need b c).level
by-class a b typeof_class = record { value = λ e. e; callee = λ e. e }
by-class a b delete_class = record { value = λ e. e; callee = λ e. e }
by-class a b void_class = record { value = λ e. e; callee = λ e. e }
by-class a b _ = record { value = λ e. e; callee = λ e. e }

-- what is asked of a tag, and of what parentheses hold, where a node takes this much here and there
abbrev pub Special : AstType → Level → Level → ℕ → Tree → Type 0
Special TaggedTemplateExpression here there zero t = is_chain t ≡ false
Special ParenthesizedExpression here there zero t = is_chain t ≡ true → Meets here there
Special k here there i t = Unit {0}

-- what is known of what stands in a field
pub record Placed (k : AstType) (p : Place) (l : Label) (m : Need) (q : Take) (i : ℕ) (t : Tree) : Type 0 where
  pub pattern : binds_at k i ≡ true → is_pattern (kind_of t) ≡ true
  pub part : parts_fit k i (kind_of t) ≡ true
  pub target : is_bad_target (place_in p k l i) t ≡ false
  pub special : Special k m.level q.need.level i t

module _ (p : Place) (l : Label) (m : Need) (q : Take) (t : Tree) (c : is_chain t ≡ true) where
  w : wraps (kind_of t) ≡ true
  w = chain-wraps t c

  none : IsNoTarget (kind_of t)
  none = no-target (kind_of t) w

  pub met : (k : AstType) (i : ℕ) → Placed k p l m q i t → Meets (needs m k l.texts l.flags i).level (takes_of q k l.texts l.flags i).need.level
  met AssignmentExpression zero h = same _
  met AssignmentExpression (suc i) h = same _
  met MemberExpression zero h = same _
  met MemberExpression (suc i) h = same _
  met CallExpression zero h = same _
  met CallExpression (suc i) h = same _
  met UnaryExpression i h = by-class m.form q.need.form (unary_class (first_text l.texts))
  met ChainExpression i h = absurd (not-link (kind_of t) w h.part)
  met ParenthesizedExpression zero h = h.special c
  met ParenthesizedExpression (suc i) h = absurd (let no = h.part in cc no)
  met VariableDeclarator zero h = same _
  met VariableDeclarator (suc i) h = same _
  met ForInStatement zero h = absurd (off-target s-ForLeft t c none.head h.target)
  met ForInStatement (suc i) h = same _
  met ForOfStatement zero h = absurd (off-target s-ForLeft t c none.head h.target)
  met ForOfStatement (suc i) h = same _
  met BreakStatement i h = told
  met ContinueStatement i h = told
  met LabeledStatement zero h = told
  met LabeledStatement (suc i) h = same _
  met SwitchStatement zero h = same _
  met SwitchStatement (suc i) h = told
  met TryStatement zero h = same _
  met TryStatement (suc zero) h = told
  met TryStatement (suc (suc i)) h = same _
  met CatchClause zero h = absurd (not-pattern (kind_of t) w (h.pattern refl))
  met CatchClause (suc i) h = same _
  met ImportDeclaration zero h = told
  met ImportDeclaration (suc i) h = told
  met ImportSpecifier i h = told
  met ImportDefaultSpecifier i h = told
  met ImportNamespaceSpecifier i h = told
  met ExportNamedDeclaration zero h = same _
  met ExportNamedDeclaration (suc i) h = told
  met ExportSpecifier i h = told
  met ExportAllDeclaration i h = told
  met TemplateLiteral zero h = told
  met TemplateLiteral (suc i) h = same _
  met TaggedTemplateExpression zero h = absurd (let no = h.special in cc (c, no))
  met TaggedTemplateExpression (suc i) h = told
  met ObjectExpression i h = told
  met ObjectProperty zero h = by-key (flag_at 2 l.flags)
  met ObjectProperty (suc i) h = same _
  met ObjectPattern i h = told
  met ObjectTarget i h = told
  met PatternProperty zero h = by-key (flag_at 1 l.flags)
  met PatternProperty (suc zero) h = absurd (not-pattern (kind_of t) w (h.pattern refl))
  met PatternProperty (suc (suc i)) h = absurd (let no = h.part in cc no)
  met TargetProperty zero h = by-key (flag_at 1 l.flags)
  met TargetProperty (suc zero) h = absurd (off-target s-TargetElement t c none.element h.target)
  met TargetProperty (suc (suc i)) h = absurd (let no = h.part in cc no)
  met ArrayPattern i h = absurd (not-pattern (kind_of t) w (h.pattern refl))
  met ArrayTarget zero h = absurd (off-target s-TargetElementRest t c none.rest h.target)
  met ArrayTarget (suc zero) h = absurd (off-target s-TargetElementRest t c none.rest h.target)
  met ArrayTarget (suc (suc i)) h = absurd (off-target s-TargetElementRest t c none.rest h.target)
  met AssignmentPattern zero h = absurd (not-pattern (kind_of t) w (h.pattern refl))
  met AssignmentPattern (suc i) h = same _
  met TargetWithDefault zero h = absurd (off-target s-TargetElement t c none.element h.target)
  met TargetWithDefault (suc i) h = same _
  met RestElement i h = absurd (not-pattern (kind_of t) w (h.pattern refl))
  met TargetRest zero h = absurd (off-target s-TargetElement t c none.element h.target)
  met TargetRest (suc i) h = absurd (let no = h.part in cc no)
  met _ i h = same _
