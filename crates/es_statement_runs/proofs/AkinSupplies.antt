-- Where no member in a tree is one of the object of all helpers, it means the same under supplies of helpers that differ in that object alone.
use Rattle.std.proofs.Common.{◌≡◌, ℕ, zero, suc, refl, sym, ap, subst, ◌∙◌, Option, Some, None, List, [], ◌∷◌}
use Rattle.std.proofs.lemmas.Bool.{and_parts, not-true, and_right}
use Rattle.std.specs.Prelude.{◌&&◌, Bool, true, false, not, bytes_eq, codes, if◌then◌else◌}
use Rattle.es_tree.specs.Names.{first_text}
use Rattle.es_tree.specs.Scopes.{Declared}
use Rattle.es_tree.specs.Tree.{Tree, node, Label, Fields, done, ◌then◌, Field, missing, one, many, statements, Trees, empty, ◌before◌}
use Rattle.es_tree.specs.Walks.{all_nodes, all_in_field, all_in_fields, all_in_trees}
use Rattle.es_tree.specs.Words.{Text}
use Rattle.es_tree.specs.declared.ast_type.AstType.{AstType}
use Rattle.es_tree.specs.declared.ast_type.AstType.TheVariants.{AssignmentExpression, AssignmentPattern, BinaryExpression, BlockStatement, BreakStatement, CallExpression, CatchClause, ChainExpression, ConditionalExpression, ContinueStatement, DoWhileStatement, ExportAllDeclaration, ExportDefaultDeclaration, ExportNamedDeclaration, ExpressionStatement, ForInStatement, ForOfStatement, ForStatement, Identifier, IfStatement, ImportDeclaration, ImportSpecifier, LabeledStatement, LogicalExpression, MemberExpression, NewExpression, NumericLiteral, ObjectExpression, ObjectPattern, ObjectProperty, ObjectTarget, ParenthesizedExpression, PatternProperty, Program, RestElement, SequenceExpression, SpreadElement, SwitchCase, SwitchStatement, TaggedTemplateExpression, TargetProperty, TargetRest, TargetWithDefault, TemplateLiteral, ThrowStatement, TryStatement, UnaryExpression, UpdateExpression, VariableDeclaration, VariableDeclarator, WhileStatement}
use Rattle.es_runs.specs.Core.{Binding, Form, Meaning, Reference, UnaryClass, World, flag, flag_after, is_math, meaning_of, member_form, pow_form, unary_by, unary_class, void_form, second}
use Rattle.es_runs.specs.Core.UnaryClass.{asked_class, delete_class, not_class, typeof_class, void_class}
use Rattle.es_runs.specs.Core.Form.{word, zero_form}
use Rattle.es_statement_runs.specs.Calls.{assignment_by, call_by, call_sense, core_call, destructuring_sense, extends_sense, helper_member, helper_sense, is_bare, is_global, is_require, member_by, member_sense, module_text, named_member, required_or, said_of_member, spread2_sense, static_member, using_sense, without_sense}
use Rattle.es_statement_runs.specs.Helpers.{Supply, is_helper_text, required_from}
use Rattle.es_statement_runs.specs.Helpers.Supply.{by_global, by_import, no_helpers, spread_by_global}
use Rattle.es_statement_runs.specs.Kinds.{inside, label_in, portion, portions, scope_by, sense, sense_of, senses}
use Rattle.es_statement_runs.specs.Names.{is_word, own_names, own_use}
use Rattle.es_statement_runs.specs.Places.{placed_at}
use Rattle.es_statement_runs.specs.HelperMembers.{first_is_helpers, is_helpers_object, no_helper_member}
use Rattle.es_statement_runs.specs.Senses.{More, Place, Portion, Sense, cooked_texts, core_parts, cores, plain_sense, raw_texts, said_in, tagged_template, template_meaning, text_alone}
use Rattle.es_runs.specs.Machine.{M, Values}
use Rattle.es_statement_runs.specs.Senses.More.{aims, helper_call, keys_of, maps, stack_member, template_of}
use Rattle.es_statement_runs.specs.Senses.Portion.{alone, gap, rows}
use Rattle.es_statement_runs.specs.Stacks.{Scope}
use Rattle.es_statement_runs.specs.StatementParts.{declarator_by}

abbrev pub supplied : Supply → Place → Place
supplied u p = record p { supply = u }

-- SUPPLIES that differ in what they say of members of `babelHelpers` alone
pub record Akin (u v : Supply) : Type 0 where
  pub said : (b : Binding) → said_in u b ≡ said_in v b
  pub member : (y : Text) (r : M Reference) → said_of_member u y r ≡ said_of_member v y r
  pub required : (t : Text) → required_from u t ≡ required_from v t

pub spread-akin : Akin spread_by_global no_helpers
spread-akin = record { said = λ b. refl; member = λ y r. refl; required = λ t. refl }

pub import-akin : (m : Text) → Akin by_global (by_import m)
import-akin m = record { said = λ b. refl; member = λ y r. refl; required = λ t. refl }

-- a form other than this word
abbrev is_apart : Form → Bool
is_apart (word x) = not (bytes_eq x (codes "babelHelpers"))
is_apart _ = true

-- another name is no such object, however helpers are supplied
other-global : (w : World) (u : Supply) (o : Text) → is_word (codes "babelHelpers") o ≡ false → is_global w u o ≡ false
other-global w spread_by_global o h = rw h refl
other-global w by_global o h = rw h refl
other-global w _ o h = refl

-- TREES in which no member is one of that object

abbrev pub Apart : Tree → Type 0
Apart t = all_nodes no_helper_member t ≡ true

module _ (u v : Supply) (akin : Akin u v) where
  module _ (p : Place) where
    static-same : (y : Text) (m : Meaning) → static_member (supplied u p) y m ≡ static_member (supplied v p) y m
    static-same y m = ap (λ (e : More). record { core = m; more = e }) (akin.member y m.reference)

    named-same : (o y : Text) (m : Meaning) → is_word (codes "babelHelpers") o ≡ false → named_member (supplied u p) o y m ≡ named_member (supplied v p) o y m
    named-same o y m h = rw (other-global p.world u o h, other-global p.world v o h, and_right (is_helper_text y) false refl) (static-same y m)

    member-by-same : (e : More) (f g : Form) (m : Meaning) → is_apart f ≡ true → member_by (supplied u p) e f g m ≡ member_by (supplied v p) e f g m
    member-by-same (keys_of ks) f (word y) m h = refl
    member-by-same _ (word o) (word y) m h = named-same o y m (not-true (bytes_eq o (codes "babelHelpers")) h)
    member-by-same _ _ (word y) m h = static-same y m
    member-by-same _ _ _ m h = refl

    member-same : (a b : Bool) (o k : Sense) (m : Meaning) → is_apart o.core.form ≡ true → member_sense (supplied u p) a b o k m ≡ member_sense (supplied v p) a b o k m
    member-same false false o k m h = member-by-same o.more o.core.form k.core.form m h
    member-same false true o k m h = refl
    member-same true b o k m h = refl

    plainly-same : (f : Sense) (es : List Sense) → required_or (if is_require p.world f.core.form then required_from u (module_text es) else None) (plain_sense (core_call p.world false f es)) ≡
        required_or (if is_require p.world f.core.form then required_from v (module_text es) else None) (plain_sense (core_call p.world false f es))
    plainly-same f es = ap (λ (o : Option Text). required_or (if is_require p.world f.core.form then o else None) (plain_sense (core_call p.world false f es))) (akin.required (module_text es))

    called-same : (f : Sense) (es : List Sense) (e : More) → call_by (supplied u p) f es e ≡ call_by (supplied v p) f es e
    called-same f es (helper_call h) = refl
    called-same f es (maps ks) = refl
    called-same f es (stack_member y m) = refl
    called-same f es _ = plainly-same f es

    call-same : (b : Bool) (f : Sense) (es : List Sense) → call_sense (supplied u p) b f es ≡ call_sense (supplied v p) b f es
    call-same true f es = refl
    call-same false f es = called-same f es f.more

    -- what is known of the fields
    abbrev FirstApart : List Portion → Type 0
    FirstApart (alone o ∷ ps) = is_apart o.core.form ≡ true
    FirstApart _ = Unit {0}

    -- of a member, and of a declarator
    abbrev ObjectApart : AstType → List Portion → Type 0
    ObjectApart MemberExpression ps = FirstApart ps
    ObjectApart _ ps = Unit {0}

    abbrev DeclaredApart : AstType → List Portion → Type 0
    DeclaredApart VariableDeclarator ps = FirstApart ps
    DeclaredApart _ ps = Unit {0}

    object-first : (k : AstType) (l : Label) (fs : Fields) (ps : List Portion) → no_helper_member k l fs ≡ true → (first_is_helpers fs ≡ false → FirstApart ps) → ObjectApart k ps
    object-first MemberExpression l fs ps h f = f (not-true (first_is_helpers fs) h)
    object-first _ l fs ps h f = tt

    declared-first : (k : AstType) (l : Label) (fs : Fields) (ps : List Portion) → is_helpers_object (node k l fs) ≡ false → (first_is_helpers fs ≡ false → FirstApart ps) → DeclaredApart k ps
    declared-first VariableDeclarator l fs ps h f = f h
    declared-first _ l fs ps h f = tt

    kind-same : (k : AstType) (ts : List (Option Text)) (fs : List Bool) (block : Scope) (i : World) (m : Meaning) (ps : List Portion) → ObjectApart k ps → sense_of (supplied u p) k ts fs block i m ps ≡ sense_of (supplied v p) k ts fs block i m ps
    kind-same Identifier ts fs block i m ps h = ap (λ (e : More). record { core = m; more = e }) (akin.said (p.world.scope (first_text ts)))
    kind-same MemberExpression ts fs block i m (alone o ∷ alone k ∷ []) h = member-same (flag fs) (flag_after fs) o k m h
    kind-same MemberExpression ts fs block i m _ h = refl
    kind-same CallExpression ts fs block i m (alone f ∷ rows es ∷ []) h = call-same (flag fs) f es
    kind-same CallExpression ts fs block i m _ h = refl
    kind-same k ts fs block i m ps h = refl

    inside-supplied : (o : Supply) (k : AstType) (ts : List (Option Text)) (ds : List Declared) (ls : List Text) (i : ℕ) → inside (supplied o p) k ts ds ls i ≡ supplied o (inside p k ts ds ls i)
    inside-supplied o BlockStatement ts ds ls i = refl
    inside-supplied o ForStatement ts ds ls i = refl
    inside-supplied o ForInStatement ts ds ls i = refl
    inside-supplied o ForOfStatement ts ds ls i = refl
    inside-supplied o CatchClause ts ds ls i = refl
    inside-supplied o SwitchStatement ts ds ls zero = refl
    inside-supplied o SwitchStatement ts ds ls (suc i) = refl
    inside-supplied o LabeledStatement ts ds ls i = refl
    inside-supplied o _ ts ds ls i = refl

    -- FORMS

    one-form : (b : Bool) (e d : Sense) → is_apart e.core.form ≡ true → is_apart d.core.form ≡ true → is_apart (if b then e else d).core.form ≡ true
    one-form true e d h g = h
    one-form false e d h g = g

    assignment-form : (op : Text) (l : More) (e : Sense) (m : Meaning) → is_apart m.form ≡ true → is_apart (assignment_by p.world op l e m).core.form ≡ true
    assignment-form op (aims t) e m h = one-form (is_word (codes "=") op) _ _ refl h
    assignment-form op (stack_member y t) e m h = one-form (is_word (codes "=") op) _ _ refl h
    assignment-form op _ e m h = h

    spread2-form : (w : World) (es : List Sense) → is_apart (spread2_sense w es).core.form ≡ true
    spread2-form w [] = refl
    spread2-form w (a ∷ es) = refl

    extends-form : (w : World) (es : List Sense) → is_apart (extends_sense w es).core.form ≡ true
    extends-form w (a ∷ e ∷ []) = one-form (is_bare a.more) _ _ refl refl
    extends-form w _ = refl

    destructuring-form : (w : World) (es : List Sense) → is_apart (destructuring_sense w es).core.form ≡ true
    destructuring-form w (e ∷ []) = refl
    destructuring-form w _ = refl

    without-form : (w : World) (es : List Sense) → is_apart (without_sense w es).core.form ≡ true
    without-form w (e ∷ k ∷ []) = refl
    without-form w _ = refl

    using-form : (es : List Sense) → is_apart (using_sense es).core.form ≡ true
    using-form [] = refl
    using-form _ = refl

    helper-form : (w : World) (h : Text) (es : List Sense) → is_apart (helper_sense w h es).core.form ≡ true
    helper-form w h es = one-form (is_word (codes "objectSpread2") h) _ _ (spread2-form w es) (one-form (is_word (codes "extends") h) _ _ (extends-form w es) (one-form (is_word (codes "objectDestructuringEmpty") h) _ _ (destructuring-form w es)
        (one-form (is_word (codes "objectWithoutProperties") h) _ _ (without-form w es) (one-form (is_word (codes "usingCtx") h) _ _ (using-form es) refl))))

    required-form : (o : Option Text) (m : Meaning) → is_apart m.form ≡ true → is_apart (required_or o (plain_sense m)).core.form ≡ true
    required-form (Some h) m g = refl
    required-form None m g = g

    called-form : (f : Sense) (es : List Sense) (e : More) → is_apart (call_by (supplied v p) f es e).core.form ≡ true
    called-form f es (helper_call h) = helper-form p.world h es
    called-form f es (maps ks) = refl
    called-form f es (stack_member y m) = refl
    called-form f es _ = required-form _ (core_call p.world false f es) refl

    call-form : (b : Bool) (f : Sense) (es : List Sense) → is_apart (call_sense (supplied v p) b f es).core.form ≡ true
    call-form true f es = refl
    call-form false f es = called-form f es f.more

    unary-form : (w : World) (c : UnaryClass) (op : Text) (e : Meaning) → is_apart (unary_by w c op e).form ≡ true
    unary-form w typeof_class op e = refl
    unary-form w delete_class op e = refl
    unary-form w void_class op e = void-form e.form
      where
        void-form : (f : Form) → is_apart (void_form f) ≡ true
        void-form zero_form = refl
        void-form _ = refl
    unary-form w not_class op e = refl
    unary-form w asked_class op e = refl

    plain-form : (b : Bool) (f g : Form) → is_apart f ≡ true → is_apart g ≡ true → is_apart (if b then f else g) ≡ true
    plain-form true f g h k = h
    plain-form false f g h k = k

    pow-form : (w : World) (optional : Bool) (f : Form) → is_apart (pow_form w optional f) ≡ true
    pow-form w false (word x) = plain-form (is_math w x) _ _ refl refl
    pow-form w false _ = refl
    pow-form w true f = refl

    member-form : (w : World) (computed optional : Bool) (f g : Form) → is_apart (member_form w computed optional f g) ≡ true
    member-form w false optional f (word y) = plain-form (bytes_eq y (codes "call")) _ _ refl (plain-form (bytes_eq y (codes "bind")) _ _ refl (plain-form (bytes_eq y (codes "pow")) _ _ (pow-form w optional f) refl))
    member-form w false optional f _ = refl
    member-form w true optional f g = refl

    helper-member-form : (o : Supply) (y : Text) (m : Meaning) → is_apart m.form ≡ true → is_apart (helper_member o y m).core.form ≡ true
    helper-member-form spread_by_global y m h = h
    helper-member-form _ y m h = refl

    member-by-form : (e : More) (f g : Form) (m : Meaning) → is_apart m.form ≡ true → is_apart (member_by (supplied v p) e f g m).core.form ≡ true
    member-by-form (keys_of ks) f (word y) m h = h
    member-by-form _ (word o) (word y) m h = one-form (is_helper_text y && is_global p.world v o) (helper_member v y m) (static_member (supplied v p) y m) (helper-member-form v y m h) h
    member-by-form _ _ (word y) m h = h
    member-by-form _ _ _ m h = h

    member-sense-form : (a b : Bool) (o k : Sense) (m : Meaning) → is_apart m.form ≡ true → is_apart (member_sense (supplied v p) a b o k m).core.form ≡ true
    member-sense-form false false o k m h = member-by-form o.more o.core.form k.core.form m h
    member-sense-form false true o k m h = h
    member-sense-form true b o k m h = h

    declarator-form : (b : More) (x y : Sense) (m : Meaning) → is_apart m.form ≡ true → is_apart (declarator_by (supplied v p) b x y m).core.form ≡ true
    declarator-form (aims t) x y m h = refl
    declarator-form (keys_of ks) x y m h = refl
    declarator-form _ x y m h = one-form (is_word (codes "using") p.word) _ _ refl h

    template-form : (w : World) (c : Option Text) (us ks : Values) (es : List Meaning) → is_apart (template_meaning w c us ks es).form ≡ true
    template-form w (Some x) us ks es = refl
    template-form w None us ks es = refl

    tagged-form : (w : World) (e : Sense) (q : More) → is_apart (tagged_template w e q).form ≡ true
    tagged-form w e (template_of us ks c m) = refl
    tagged-form w e _ = refl

    -- the form of a node whose first part has another form than this word, and which isn't this name itself
    abbrev NamesOther : AstType → List (Option Text) → Type 0
    NamesOther Identifier ts = not (bytes_eq (first_text ts) (codes "babelHelpers")) ≡ true
    NamesOther _ ts = Unit {0}

    form-of : (k : AstType) (ts : List (Option Text)) (fs : List Bool) (block : Scope) (i : World) (ps : List Portion) → NamesOther k ts → DeclaredApart k ps → is_apart (sense_of (supplied v p) k ts fs block i (meaning_of p.world k ts fs (core_parts ps)) ps).core.form ≡ true
    form-of Identifier ts fs block i ps n h = n
    form-of UnaryExpression ts fs block i (alone a ∷ []) n h = unary-form p.world (unary_class (first_text ts)) (first_text ts) a.core
    form-of UnaryExpression ts fs block i _ n h = refl
    form-of AssignmentExpression ts fs block i (alone l ∷ alone e ∷ []) n h = assignment-form (first_text ts) l.more e _ refl
    form-of AssignmentExpression ts fs block i _ n h = refl
    form-of MemberExpression ts fs block i (alone o ∷ alone k ∷ []) n h = member-sense-form (flag fs) (flag_after fs) o k _ (member-form p.world (flag fs) (flag_after fs) o.core.form k.core.form)
    form-of MemberExpression ts fs block i _ n h = refl
    form-of CallExpression ts fs block i (alone f ∷ rows es ∷ []) n h = call-form (flag fs) f es
    form-of CallExpression ts fs block i _ n h = refl
    form-of TemplateLiteral ts fs block i (rows qs ∷ rows es ∷ []) n h = template-form p.world (text_alone qs es) (raw_texts qs) (cooked_texts qs) (cores es)
    form-of TemplateLiteral ts fs block i _ n h = refl
    form-of TaggedTemplateExpression ts fs block i (alone tag ∷ alone q ∷ []) n h = tagged-form p.world tag q.more
    form-of TaggedTemplateExpression ts fs block i _ n h = refl
    form-of VariableDeclarator ts fs block i (alone x ∷ gap ∷ []) n h = h
    form-of VariableDeclarator ts fs block i (alone x ∷ alone e ∷ []) n h = declarator-form x.more x e _ refl
    form-of VariableDeclarator ts fs block i _ n h = refl
    form-of SpreadElement ts fs block i (alone e ∷ []) n h = refl
    form-of SpreadElement ts fs block i _ n h = refl
    form-of ObjectExpression ts fs block i (rows es ∷ []) n h = refl
    form-of ObjectExpression ts fs block i _ n h = refl
    form-of ObjectProperty ts fs block i (alone k ∷ alone e ∷ []) n h = refl
    form-of ObjectProperty ts fs block i _ n h = refl
    form-of ObjectPattern ts fs block i (rows es ∷ []) n h = refl
    form-of ObjectPattern ts fs block i _ n h = refl
    form-of ObjectTarget ts fs block i (rows es ∷ []) n h = refl
    form-of ObjectTarget ts fs block i _ n h = refl
    form-of PatternProperty ts fs block i (alone k ∷ alone e ∷ []) n h = refl
    form-of PatternProperty ts fs block i _ n h = refl
    form-of TargetProperty ts fs block i (alone k ∷ alone e ∷ []) n h = refl
    form-of TargetProperty ts fs block i _ n h = refl
    form-of AssignmentPattern ts fs block i (alone k ∷ alone e ∷ []) n h = refl
    form-of AssignmentPattern ts fs block i _ n h = refl
    form-of TargetWithDefault ts fs block i (alone k ∷ alone e ∷ []) n h = refl
    form-of TargetWithDefault ts fs block i _ n h = refl
    form-of RestElement ts fs block i (alone e ∷ []) n h = refl
    form-of RestElement ts fs block i _ n h = refl
    form-of TargetRest ts fs block i (alone e ∷ []) n h = refl
    form-of TargetRest ts fs block i _ n h = refl
    form-of VariableDeclaration ts fs block i (rows es ∷ []) n h = refl
    form-of VariableDeclaration ts fs block i _ n h = refl
    form-of BlockStatement ts fs block i (rows es ∷ []) n h = refl
    form-of BlockStatement ts fs block i _ n h = refl
    form-of ThrowStatement ts fs block i (alone e ∷ []) n h = refl
    form-of ThrowStatement ts fs block i _ n h = refl
    form-of IfStatement ts fs block i (alone a ∷ alone b ∷ c ∷ []) n h = refl
    form-of IfStatement ts fs block i _ n h = refl
    form-of ForStatement ts fs block i (a ∷ b ∷ c ∷ alone d ∷ []) n h = refl
    form-of ForStatement ts fs block i _ n h = refl
    form-of ForInStatement ts fs block i (alone a ∷ alone b ∷ alone c ∷ []) n h = refl
    form-of ForInStatement ts fs block i _ n h = refl
    form-of ForOfStatement ts fs block i (alone a ∷ alone b ∷ alone c ∷ []) n h = refl
    form-of ForOfStatement ts fs block i _ n h = refl
    form-of WhileStatement ts fs block i (alone a ∷ alone b ∷ []) n h = refl
    form-of WhileStatement ts fs block i _ n h = refl
    form-of DoWhileStatement ts fs block i (alone a ∷ alone b ∷ []) n h = refl
    form-of DoWhileStatement ts fs block i _ n h = refl
    form-of BreakStatement ts fs block i (a ∷ []) n h = refl
    form-of BreakStatement ts fs block i _ n h = refl
    form-of ContinueStatement ts fs block i (a ∷ []) n h = refl
    form-of ContinueStatement ts fs block i _ n h = refl
    form-of LabeledStatement ts fs block i (alone a ∷ alone b ∷ []) n h = refl
    form-of LabeledStatement ts fs block i _ n h = refl
    form-of SwitchStatement ts fs block i (alone a ∷ rows es ∷ []) n h = refl
    form-of SwitchStatement ts fs block i _ n h = refl
    form-of SwitchCase ts fs block i (a ∷ rows es ∷ []) n h = refl
    form-of SwitchCase ts fs block i _ n h = refl
    form-of TryStatement ts fs block i (alone a ∷ b ∷ c ∷ []) n h = refl
    form-of TryStatement ts fs block i _ n h = refl
    form-of CatchClause ts fs block i (a ∷ alone b ∷ []) n h = refl
    form-of CatchClause ts fs block i _ n h = refl
    form-of ImportDeclaration ts fs block i (rows es ∷ alone a ∷ ps) n h = refl
    form-of ImportDeclaration ts fs block i _ n h = refl
    form-of ImportSpecifier ts fs block i (alone a ∷ alone b ∷ []) n h = refl
    form-of ImportSpecifier ts fs block i _ n h = refl
    form-of ExportNamedDeclaration ts fs block i (a ∷ ps) n h = refl
    form-of ExportNamedDeclaration ts fs block i _ n h = refl
    form-of ExportDefaultDeclaration ts fs block i (alone a ∷ []) n h = refl
    form-of ExportDefaultDeclaration ts fs block i _ n h = refl
    form-of ExportAllDeclaration ts fs block i (a ∷ alone b ∷ ps) n h = refl
    form-of ExportAllDeclaration ts fs block i _ n h = refl
    form-of Program ts fs block i (rows ds ∷ rows es ∷ []) n h = refl
    form-of Program ts fs block i _ n h = refl
    form-of UpdateExpression ts fs block i (alone a ∷ []) n h = refl
    form-of UpdateExpression ts fs block i _ n h = refl
    form-of BinaryExpression ts fs block i (alone a ∷ alone b ∷ []) n h = refl
    form-of BinaryExpression ts fs block i _ n h = refl
    form-of LogicalExpression ts fs block i (alone a ∷ alone b ∷ []) n h = refl
    form-of LogicalExpression ts fs block i _ n h = refl
    form-of ConditionalExpression ts fs block i (alone a ∷ alone b ∷ alone c ∷ []) n h = refl
    form-of ConditionalExpression ts fs block i _ n h = refl
    form-of SequenceExpression ts fs block i (rows es ∷ []) n h = refl
    form-of SequenceExpression ts fs block i _ n h = refl
    form-of NewExpression ts fs block i (alone a ∷ rows es ∷ []) n h = refl
    form-of NewExpression ts fs block i _ n h = refl
    form-of ChainExpression ts fs block i (alone a ∷ []) n h = refl
    form-of ChainExpression ts fs block i _ n h = refl
    form-of ParenthesizedExpression ts fs block i (alone a ∷ []) n h = refl
    form-of ParenthesizedExpression ts fs block i _ n h = refl
    form-of ExpressionStatement ts fs block i (alone a ∷ []) n h = refl
    form-of ExpressionStatement ts fs block i _ n h = refl
    form-of NumericLiteral ts fs block i ps n h = plain-form (bytes_eq (second ts) (codes "0")) _ _ refl refl
    form-of k ts fs block i ps n h = refl

  own-name : (k : AstType) (l : Label) (fs : Fields) (p : Place) → is_helpers_object (node k l fs) ≡ false → NamesOther p k l.texts
  own-name Identifier l fs p h = ap not h
  own-name _ l fs p h = tt

  -- what is known of a tree: it means the same, and its form is another word where it isn't that name
  record SameTree (t : Tree) (p : Place) : Type 0 where
    same : sense (supplied u p) t ≡ sense (supplied v p) t
    form : is_helpers_object t ≡ false → is_apart (sense (supplied v p) t).core.form ≡ true

  record SameParts (fs : Fields) (ps qs : List Portion) (p : Place) : Type 0 where
    parts : ps ≡ qs
    first : first_is_helpers fs ≡ false → FirstApart p qs

  mutual
    tree-same : (t : Tree) → Apart t → (p : Place) → SameTree t p
    tree-same (node k l fs) h p =
        let d = and_parts (no_helper_member k l fs) (all_in_fields no_helper_member fs) h in
        let ds = own_names k fs in
        let vs = label_in k fs in
        let q = fields-same fs d.1 (inside p k l.texts ds vs) p in
        let there : portions (inside (supplied u p) k l.texts ds vs) fs ≡ portions (λ i. supplied u (inside p k l.texts ds vs i)) fs = λ j. portions (λ i. inside-supplied p u k l.texts ds vs i j) fs in
        let here : portions (λ i. supplied v (inside p k l.texts ds vs i)) fs ≡ portions (inside (supplied v p) k l.texts ds vs) fs = sym (λ j. portions (λ i. inside-supplied p v k l.texts ds vs i j) fs) in
        let ps : List Portion = portions (inside (supplied v p) k l.texts ds vs) fs in
        let same : portions (inside (supplied u p) k l.texts ds vs) fs ≡ ps = there ∙ q.parts ∙ here in
        let first : first_is_helpers fs ≡ false → FirstApart p ps = λ e. subst (λ (zs : List Portion). FirstApart p zs) here (q.first e) in
        let w : World = (inside (supplied v p) k l.texts ds vs 1).world in
        let worlds : (inside (supplied u p) k l.texts ds vs 1).world ≡ w = (λ j. (inside-supplied p u k l.texts ds vs 1 j).world) ∙ sym (λ j. (inside-supplied p v k l.texts ds vs 1 j).world) in
        let block : Scope = scope_by ds (own_use k fs) in
        record {
          same = (λ j. sense_of (supplied u p) k l.texts l.flags block (worlds j) (meaning_of p.world k l.texts l.flags (core_parts (same j))) (same j)) ∙ kind-same p k l.texts l.flags block w (meaning_of p.world k l.texts l.flags (core_parts ps)) ps (object-first p k l fs ps d.0 first);
          form = λ e. form-of p k l.texts l.flags block w ps (own-name k l fs p e) (declared-first p k l fs ps e first);
        }

    fields-same : (fs : Fields) → all_in_fields no_helper_member fs ≡ true → (at : ℕ → Place) (p : Place) → SameParts fs (portions (λ i. supplied u (at i)) fs) (portions (λ i. supplied v (at i)) fs) p
    fields-same done h at p = record { parts = refl; first = λ e. tt }
    fields-same (f then fs) h at p =
        let d = and_parts (all_in_field no_helper_member f) (all_in_fields no_helper_member fs) h in
        let q = field-same f fs d.0 (at zero) p (portions (λ i. supplied v (at (suc i))) fs) in
        record { parts = λ j. q.0 j ∷ (fields-same fs d.1 (λ i. at (suc i)) p).parts j; first = q.1 }

    field-same : (f : Field) (fs : Fields) → all_in_field no_helper_member f ≡ true → (at : Place) (p : Place) (ps : List Portion) →
        (portion (supplied u at) f ≡ portion (supplied v at) f) × (first_is_helpers (f then fs) ≡ false → FirstApart p (portion (supplied v at) f ∷ ps))
    field-same missing fs h at p ps = (refl, λ e. tt)
    field-same (one t) fs h at p ps = let d = tree-same t h at in ((λ j. alone (d.same j)), d.form)
    field-same (many ts) fs h at p ps = ((λ j. rows (trees-same ts h at j)), λ e. tt)
    field-same (statements ts) fs h at p ps = ((λ j. rows (trees-same ts h at j)), λ e. tt)

    trees-same : (ts : Trees) → all_in_trees no_helper_member ts ≡ true → (p : Place) → senses (supplied u p) ts ≡ senses (supplied v p) ts
    trees-same empty h p = refl
    trees-same (t before ts) h p = let d = and_parts (all_nodes no_helper_member t) (all_in_trees no_helper_member ts) h in λ j. (tree-same t d.0 p).same j ∷ trees-same ts d.1 p j

-- so under akin supplies it means the same
pub akin-sense : (u v : Supply) → Akin u v → (t : Tree) → Apart t → (w : World) (ls : List Text) (x : Text) → sense (placed_at u w ls x) t ≡ sense (placed_at v w ls x) t
akin-sense u v akin t h w ls x = (tree-same u v akin t h (placed_at v w ls x)).same

pub akin-senses : (u v : Supply) → Akin u v → (ts : Trees) → all_in_trees no_helper_member ts ≡ true → (w : World) (ls : List Text) (x : Text) → senses (placed_at u w ls x) ts ≡ senses (placed_at v w ls x) ts
akin-senses u v akin ts h w ls x = trees-same u v akin ts h (placed_at v w ls x)

pub apart-sense : (t : Tree) → Apart t → (w : World) (ls : List Text) (x : Text) → sense (placed_at spread_by_global w ls x) t ≡ sense (placed_at no_helpers w ls x) t
apart-sense = akin-sense spread_by_global no_helpers spread-akin
