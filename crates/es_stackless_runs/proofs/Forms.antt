-- The form of what isn't the name `babelHelpers` is no such word.
use Rattle.std.proofs.Common.{◌≡◌, ℕ, zero, refl, ap, Option, Some, None, List, [], ◌∷◌}
use Rattle.std.specs.Prelude.{◌&&◌, Bool, true, false, not, bytes_eq, codes, if◌then◌else◌}
use Rattle.es_tree.specs.Names.{first_text}
use Rattle.es_tree.specs.Tree.{Tree, node, Label, Fields, done, ◌then◌, missing, one, many, statements}
use Rattle.es_tree.specs.Words.{Text}
use Rattle.es_tree.specs.declared.ast_type.AstType.{AstType}
use Rattle.es_tree.specs.declared.ast_type.AstType.TheVariants.{AssignmentExpression, AssignmentPattern, BinaryExpression, BlockStatement, BreakStatement, CallExpression, CatchClause, ChainExpression, ConditionalExpression, ContinueStatement, DoWhileStatement, ExportAllDeclaration, ExportDefaultDeclaration, ExportNamedDeclaration, ExpressionStatement, ForInStatement, ForOfStatement, ForStatement, Identifier, IfStatement, ImportDeclaration, ImportSpecifier, LabeledStatement, LogicalExpression, MemberExpression, NewExpression, NumericLiteral, ObjectExpression, ObjectPattern, ObjectProperty, ObjectTarget, ParenthesizedExpression, PatternProperty, Program, RestElement, SequenceExpression, SpreadElement, SwitchCase, SwitchStatement, TaggedTemplateExpression, TargetProperty, TargetRest, TargetWithDefault, TemplateLiteral, ThrowStatement, TryStatement, UnaryExpression, UpdateExpression, VariableDeclaration, VariableDeclarator, WhileStatement}
use Rattle.es_runs.specs.Core.{Form, Meaning, UnaryClass, World, flag, flag_after, is_math, meaning_of, member_form, pow_form, unary_by, unary_class, void_form, second}
use Rattle.es_runs.specs.Core.UnaryClass.{asked_class, delete_class, not_class, typeof_class, void_class}
use Rattle.es_runs.specs.Core.Form.{word, zero_form}
use Rattle.es_statement_runs.specs.Calls.{assignment_by, call_by, call_sense, core_call, destructuring_sense, extends_sense, helper_member, helper_sense, is_bare, is_global, member_by, member_sense, required_or, spread2_sense, static_member, using_sense, without_sense}
use Rattle.es_statement_runs.specs.Helpers.{Supply, is_helper_text}
use Rattle.es_statement_runs.specs.Helpers.Supply.{spread_by_global}
use Rattle.es_statement_runs.specs.Kinds.{inside, label_in, portions, scope_by, sense, sense_of}
use Rattle.es_statement_runs.specs.Names.{is_word, own_names, own_use}
use Rattle.es_statement_runs.specs.HelperMembers.{first_is_helpers, is_helpers_object}
use Rattle.es_statement_runs.specs.Senses.{More, Place, Portion, Sense, cooked_texts, core_parts, cores, plain_sense, raw_texts, tagged_template, template_meaning, text_alone}
use Rattle.es_runs.specs.Machine.{Values}
use Rattle.es_statement_runs.specs.Senses.More.{aims, helper_call, keys_of, maps, stack_member, template_of}
use Rattle.es_statement_runs.specs.Senses.Portion.{alone, gap, rows}
use Rattle.es_statement_runs.specs.Stacks.{Scope}
use Rattle.es_statement_runs.specs.StatementParts.{declarator_by}

-- a form other than this word
abbrev pub is_apart : Form → Bool
is_apart (word x) = not (bytes_eq x (codes "babelHelpers"))
is_apart _ = true

module _ (p : Place) where
  -- what is known of the fields
  abbrev FirstApart : List Portion → Type 0
  FirstApart (alone o ∷ ps) = is_apart o.core.form ≡ true
  FirstApart _ = Unit {0}

  -- of a declarator
  abbrev DeclaredApart : AstType → List Portion → Type 0
  DeclaredApart VariableDeclarator ps = FirstApart ps
  DeclaredApart _ ps = Unit {0}

  declared-first : (k : AstType) (l : Label) (fs : Fields) (ps : List Portion) → is_helpers_object (node k l fs) ≡ false → (first_is_helpers fs ≡ false → FirstApart ps) → DeclaredApart k ps
  declared-first VariableDeclarator l fs ps h f = f h
  declared-first _ l fs ps h f = tt

  -- FORMS

  one-form : (b : Bool) (e d : Sense) → is_apart e.core.form ≡ true → is_apart d.core.form ≡ true → is_apart (if b then e else d).core.form ≡ true
  one-form true e d h g = h
  one-form false e d h g = g

  assignment-form : (op : Text) (l : More) (e : Sense) (m : Meaning) → is_apart m.form ≡ true → is_apart (assignment_by p.world op l e m).core.form ≡ true
  assignment-form op (aims t) e m h = one-form (is_word (codes "=") op) _ _ refl h
  assignment-form op (stack_member y t) e m h = one-form (is_word (codes "=") op) _ _ refl h
  assignment-form op _ e m h = h

  spread2-form : (w : World) (es : List Sense) → is_apart (spread2_sense w es).core.form ≡ true
  spread2-form w [] = refl
  spread2-form w (a ∷ es) = refl

  extends-form : (w : World) (es : List Sense) → is_apart (extends_sense w es).core.form ≡ true
  extends-form w (a ∷ e ∷ []) = one-form (is_bare a.more) _ _ refl refl
  extends-form w _ = refl

  destructuring-form : (w : World) (es : List Sense) → is_apart (destructuring_sense w es).core.form ≡ true
  destructuring-form w (e ∷ []) = refl
  destructuring-form w _ = refl

  without-form : (w : World) (es : List Sense) → is_apart (without_sense w es).core.form ≡ true
  without-form w (e ∷ k ∷ []) = refl
  without-form w _ = refl

  using-form : (es : List Sense) → is_apart (using_sense es).core.form ≡ true
  using-form [] = refl
  using-form _ = refl

  helper-form : (w : World) (h : Text) (es : List Sense) → is_apart (helper_sense w h es).core.form ≡ true
  helper-form w h es = one-form (is_word (codes "objectSpread2") h) _ _ (spread2-form w es) (one-form (is_word (codes "extends") h) _ _ (extends-form w es) (one-form (is_word (codes "objectDestructuringEmpty") h) _ _ (destructuring-form w es)
      (one-form (is_word (codes "objectWithoutProperties") h) _ _ (without-form w es) (one-form (is_word (codes "usingCtx") h) _ _ (using-form es) refl))))

  required-form : (o : Option Text) (m : Meaning) → is_apart m.form ≡ true → is_apart (required_or o (plain_sense m)).core.form ≡ true
  required-form (Some h) m g = refl
  required-form None m g = g

  called-form : (f : Sense) (es : List Sense) (e : More) → is_apart (call_by p f es e).core.form ≡ true
  called-form f es (helper_call h) = helper-form p.world h es
  called-form f es (maps ks) = refl
  called-form f es (stack_member y m) = refl
  called-form f es _ = required-form _ (core_call p.world false f es) refl

  call-form : (b : Bool) (f : Sense) (es : List Sense) → is_apart (call_sense p b f es).core.form ≡ true
  call-form true f es = refl
  call-form false f es = called-form f es f.more

  unary-form : (w : World) (c : UnaryClass) (op : Text) (e : Meaning) → is_apart (unary_by w c op e).form ≡ true
  unary-form w typeof_class op e = refl
  unary-form w delete_class op e = refl
  unary-form w void_class op e = void-form e.form
    where
      void-form : (f : Form) → is_apart (void_form f) ≡ true
      void-form zero_form = refl
      void-form _ = refl
  unary-form w not_class op e = refl
  unary-form w asked_class op e = refl

  plain-form : (b : Bool) (f g : Form) → is_apart f ≡ true → is_apart g ≡ true → is_apart (if b then f else g) ≡ true
  plain-form true f g h k = h
  plain-form false f g h k = k

  pow-form : (w : World) (optional : Bool) (f : Form) → is_apart (pow_form w optional f) ≡ true
  pow-form w false (word x) = plain-form (is_math w x) _ _ refl refl
  pow-form w false _ = refl
  pow-form w true f = refl

  member-form : (w : World) (computed optional : Bool) (f g : Form) → is_apart (member_form w computed optional f g) ≡ true
  member-form w false optional f (word y) = plain-form (bytes_eq y (codes "call")) _ _ refl (plain-form (bytes_eq y (codes "bind")) _ _ refl (plain-form (bytes_eq y (codes "pow")) _ _ (pow-form w optional f) refl))
  member-form w false optional f _ = refl
  member-form w true optional f g = refl

  helper-member-form : (o : Supply) (y : Text) (m : Meaning) → is_apart m.form ≡ true → is_apart (helper_member o y m).core.form ≡ true
  helper-member-form spread_by_global y m h = h
  helper-member-form _ y m h = refl

  member-by-form : (e : More) (f g : Form) (m : Meaning) → is_apart m.form ≡ true → is_apart (member_by p e f g m).core.form ≡ true
  member-by-form (keys_of ks) f (word y) m h = h
  member-by-form _ (word o) (word y) m h = one-form (is_helper_text y && is_global p.world p.supply o) (helper_member p.supply y m) (static_member p y m) (helper-member-form p.supply y m h) h
  member-by-form _ _ (word y) m h = h
  member-by-form _ _ _ m h = h

  member-sense-form : (a b : Bool) (o k : Sense) (m : Meaning) → is_apart m.form ≡ true → is_apart (member_sense p a b o k m).core.form ≡ true
  member-sense-form false false o k m h = member-by-form o.more o.core.form k.core.form m h
  member-sense-form false true o k m h = h
  member-sense-form true b o k m h = h

  declarator-form : (b : More) (x y : Sense) (m : Meaning) → is_apart m.form ≡ true → is_apart (declarator_by p b x y m).core.form ≡ true
  declarator-form (aims t) x y m h = refl
  declarator-form (keys_of ks) x y m h = refl
  declarator-form _ x y m h = one-form (is_word (codes "using") p.word) _ _ refl h

  template-form : (w : World) (c : Option Text) (us ks : Values) (es : List Meaning) → is_apart (template_meaning w c us ks es).form ≡ true
  template-form w (Some x) us ks es = refl
  template-form w None us ks es = refl

  tagged-form : (w : World) (e : Sense) (q : More) → is_apart (tagged_template w e q).form ≡ true
  tagged-form w e (template_of us ks c m) = refl
  tagged-form w e _ = refl

  -- the form of a node whose first part has another form than this word, and which isn't this name itself
  abbrev NamesOther : AstType → List (Option Text) → Type 0
  NamesOther Identifier ts = not (bytes_eq (first_text ts) (codes "babelHelpers")) ≡ true
  NamesOther _ ts = Unit {0}

  form-of : (k : AstType) (ts : List (Option Text)) (fs : List Bool) (block : Scope) (i : World) (ps : List Portion) → NamesOther k ts → DeclaredApart k ps → is_apart (sense_of p k ts fs block i (meaning_of p.world k ts fs (core_parts ps)) ps).core.form ≡ true
  form-of Identifier ts fs block i ps n h = n
  form-of UnaryExpression ts fs block i (alone a ∷ []) n h = unary-form p.world (unary_class (first_text ts)) (first_text ts) a.core
  form-of UnaryExpression ts fs block i _ n h = refl
  form-of AssignmentExpression ts fs block i (alone l ∷ alone e ∷ []) n h = assignment-form (first_text ts) l.more e _ refl
  form-of AssignmentExpression ts fs block i _ n h = refl
  form-of MemberExpression ts fs block i (alone o ∷ alone k ∷ []) n h = member-sense-form (flag fs) (flag_after fs) o k _ (member-form p.world (flag fs) (flag_after fs) o.core.form k.core.form)
  form-of MemberExpression ts fs block i _ n h = refl
  form-of CallExpression ts fs block i (alone f ∷ rows es ∷ []) n h = call-form (flag fs) f es
  form-of CallExpression ts fs block i _ n h = refl
  form-of TemplateLiteral ts fs block i (rows qs ∷ rows es ∷ []) n h = template-form p.world (text_alone qs es) (raw_texts qs) (cooked_texts qs) (cores es)
  form-of TemplateLiteral ts fs block i _ n h = refl
  form-of TaggedTemplateExpression ts fs block i (alone tag ∷ alone q ∷ []) n h = tagged-form p.world tag q.more
  form-of TaggedTemplateExpression ts fs block i _ n h = refl
  form-of VariableDeclarator ts fs block i (alone x ∷ gap ∷ []) n h = h
  form-of VariableDeclarator ts fs block i (alone x ∷ alone e ∷ []) n h = declarator-form x.more x e _ refl
  form-of VariableDeclarator ts fs block i _ n h = refl
  form-of SpreadElement ts fs block i (alone e ∷ []) n h = refl
  form-of SpreadElement ts fs block i _ n h = refl
  form-of ObjectExpression ts fs block i (rows es ∷ []) n h = refl
  form-of ObjectExpression ts fs block i _ n h = refl
  form-of ObjectProperty ts fs block i (alone k ∷ alone e ∷ []) n h = refl
  form-of ObjectProperty ts fs block i _ n h = refl
  form-of ObjectPattern ts fs block i (rows es ∷ []) n h = refl
  form-of ObjectPattern ts fs block i _ n h = refl
  form-of ObjectTarget ts fs block i (rows es ∷ []) n h = refl
  form-of ObjectTarget ts fs block i _ n h = refl
  form-of PatternProperty ts fs block i (alone k ∷ alone e ∷ []) n h = refl
  form-of PatternProperty ts fs block i _ n h = refl
  form-of TargetProperty ts fs block i (alone k ∷ alone e ∷ []) n h = refl
  form-of TargetProperty ts fs block i _ n h = refl
  form-of AssignmentPattern ts fs block i (alone k ∷ alone e ∷ []) n h = refl
  form-of AssignmentPattern ts fs block i _ n h = refl
  form-of TargetWithDefault ts fs block i (alone k ∷ alone e ∷ []) n h = refl
  form-of TargetWithDefault ts fs block i _ n h = refl
  form-of RestElement ts fs block i (alone e ∷ []) n h = refl
  form-of RestElement ts fs block i _ n h = refl
  form-of TargetRest ts fs block i (alone e ∷ []) n h = refl
  form-of TargetRest ts fs block i _ n h = refl
  form-of VariableDeclaration ts fs block i (rows es ∷ []) n h = refl
  form-of VariableDeclaration ts fs block i _ n h = refl
  form-of BlockStatement ts fs block i (rows es ∷ []) n h = refl
  form-of BlockStatement ts fs block i _ n h = refl
  form-of ThrowStatement ts fs block i (alone e ∷ []) n h = refl
  form-of ThrowStatement ts fs block i _ n h = refl
  form-of IfStatement ts fs block i (alone a ∷ alone b ∷ c ∷ []) n h = refl
  form-of IfStatement ts fs block i _ n h = refl
  form-of ForStatement ts fs block i (a ∷ b ∷ c ∷ alone d ∷ []) n h = refl
  form-of ForStatement ts fs block i _ n h = refl
  form-of ForInStatement ts fs block i (alone a ∷ alone b ∷ alone c ∷ []) n h = refl
  form-of ForInStatement ts fs block i _ n h = refl
  form-of ForOfStatement ts fs block i (alone a ∷ alone b ∷ alone c ∷ []) n h = refl
  form-of ForOfStatement ts fs block i _ n h = refl
  form-of WhileStatement ts fs block i (alone a ∷ alone b ∷ []) n h = refl
  form-of WhileStatement ts fs block i _ n h = refl
  form-of DoWhileStatement ts fs block i (alone a ∷ alone b ∷ []) n h = refl
  form-of DoWhileStatement ts fs block i _ n h = refl
  form-of BreakStatement ts fs block i (a ∷ []) n h = refl
  form-of BreakStatement ts fs block i _ n h = refl
  form-of ContinueStatement ts fs block i (a ∷ []) n h = refl
  form-of ContinueStatement ts fs block i _ n h = refl
  form-of LabeledStatement ts fs block i (alone a ∷ alone b ∷ []) n h = refl
  form-of LabeledStatement ts fs block i _ n h = refl
  form-of SwitchStatement ts fs block i (alone a ∷ rows es ∷ []) n h = refl
  form-of SwitchStatement ts fs block i _ n h = refl
  form-of SwitchCase ts fs block i (a ∷ rows es ∷ []) n h = refl
  form-of SwitchCase ts fs block i _ n h = refl
  form-of TryStatement ts fs block i (alone a ∷ b ∷ c ∷ []) n h = refl
  form-of TryStatement ts fs block i _ n h = refl
  form-of CatchClause ts fs block i (a ∷ alone b ∷ []) n h = refl
  form-of CatchClause ts fs block i _ n h = refl
  form-of ImportDeclaration ts fs block i (rows es ∷ alone a ∷ ps) n h = refl
  form-of ImportDeclaration ts fs block i _ n h = refl
  form-of ImportSpecifier ts fs block i (alone a ∷ alone b ∷ []) n h = refl
  form-of ImportSpecifier ts fs block i _ n h = refl
  form-of ExportNamedDeclaration ts fs block i (a ∷ ps) n h = refl
  form-of ExportNamedDeclaration ts fs block i _ n h = refl
  form-of ExportDefaultDeclaration ts fs block i (alone a ∷ []) n h = refl
  form-of ExportDefaultDeclaration ts fs block i _ n h = refl
  form-of ExportAllDeclaration ts fs block i (a ∷ alone b ∷ ps) n h = refl
  form-of ExportAllDeclaration ts fs block i _ n h = refl
  form-of Program ts fs block i (rows ds ∷ rows es ∷ []) n h = refl
  form-of Program ts fs block i _ n h = refl
  form-of UpdateExpression ts fs block i (alone a ∷ []) n h = refl
  form-of UpdateExpression ts fs block i _ n h = refl
  form-of BinaryExpression ts fs block i (alone a ∷ alone b ∷ []) n h = refl
  form-of BinaryExpression ts fs block i _ n h = refl
  form-of LogicalExpression ts fs block i (alone a ∷ alone b ∷ []) n h = refl
  form-of LogicalExpression ts fs block i _ n h = refl
  form-of ConditionalExpression ts fs block i (alone a ∷ alone b ∷ alone c ∷ []) n h = refl
  form-of ConditionalExpression ts fs block i _ n h = refl
  form-of SequenceExpression ts fs block i (rows es ∷ []) n h = refl
  form-of SequenceExpression ts fs block i _ n h = refl
  form-of NewExpression ts fs block i (alone a ∷ rows es ∷ []) n h = refl
  form-of NewExpression ts fs block i _ n h = refl
  form-of ChainExpression ts fs block i (alone a ∷ []) n h = refl
  form-of ChainExpression ts fs block i _ n h = refl
  form-of ParenthesizedExpression ts fs block i (alone a ∷ []) n h = refl
  form-of ParenthesizedExpression ts fs block i _ n h = refl
  form-of ExpressionStatement ts fs block i (alone a ∷ []) n h = refl
  form-of ExpressionStatement ts fs block i _ n h = refl
  form-of NumericLiteral ts fs block i ps n h = plain-form (bytes_eq (second ts) (codes "0")) _ _ refl refl
  form-of k ts fs block i ps n h = refl

own-name : (k : AstType) (l : Label) (fs : Fields) (p : Place) → is_helpers_object (node k l fs) ≡ false → NamesOther p k l.texts
own-name Identifier l fs p h = ap not h
own-name _ l fs p h = tt

mutual
  pub apart-form : (t : Tree) (p : Place) → is_helpers_object t ≡ false → is_apart (sense p t).core.form ≡ true
  apart-form (node k l fs) p h =
      let ds = own_names k fs in
      let at = inside p k l.texts ds (label_in k fs) in
      form-of p k l.texts l.flags (scope_by ds (own_use k fs)) (at 1).world (portions at fs) (own-name k l fs p h) (declared-first p k l fs (portions at fs) h (first-apart fs at p))

  first-apart : (fs : Fields) (at : ℕ → Place) (p : Place) → first_is_helpers fs ≡ false → FirstApart p (portions at fs)
  first-apart done at p h = tt
  first-apart (missing then fs) at p h = tt
  first-apart (one t then fs) at p h = apart-form t (at zero) h
  first-apart (many ts then fs) at p h = tt
  first-apart (statements ts then fs) at p h = tt
