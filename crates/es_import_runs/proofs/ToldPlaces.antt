-- Where a place only tells a name, as a key or a label, it is nothing to the node around that the name stands for a helper or for keys.
use Rattle.std.proofs.Common.{◌≡◌, ◌∙◌, ℕ, zero, suc, refl, ap, List, [], ◌∷◌, ◌++◌, subst}
use Rattle.std.specs.Prelude.{Bool, true, false, Option, if◌then◌else◌, Some}
use Rattle.es_tree.specs.Names.{flag_at}
use Rattle.es_tree.specs.Scopes.{Declared}
use Rattle.es_tree.specs.Words.{Text}
use Rattle.es_tree.specs.declared.ast_type.AstType.{AstType}
use Rattle.es_tree.specs.declared.ast_type.AstType.TheVariants.{ArrayExpression, ArrayPattern, ArrayTarget, AssignmentExpression, AssignmentPattern, BlockStatement, BreakStatement, CallExpression, CatchClause, ContinueStatement, DoWhileStatement, ExportAllDeclaration, ExportDefaultDeclaration, ExportNamedDeclaration, ForInStatement, ForOfStatement, ForStatement, IfStatement, ImportDeclaration, ImportSpecifier, LabeledStatement, MemberExpression, ObjectExpression, ObjectPattern, ObjectProperty, ObjectTarget, PatternProperty, Program, RestElement, SpreadElement, SwitchCase, SwitchStatement, TaggedTemplateExpression, TargetProperty, TargetRest, TargetWithDefault, TemplateLiteral, ThrowStatement, TryStatement, VariableDeclaration, VariableDeclarator, WhileStatement}
use Rattle.es_runs.specs.Alike.{Frame, Level, key_need, object_need, the_callee, value_and_form, the_value}
use Rattle.es_runs.specs.Core.{Binding, Form, Meaning, Part, World, flag, flag_after, meaning_of, gives_value, value, values}
use Rattle.es_runs.specs.Core.Binding.{silent}
use Rattle.es_runs.specs.Core.Silent.{helper_name, keys_name}
use Rattle.es_runs.specs.Machine.{Values, ◌>>=◌, return, stop}
use Rattle.es_runs.specs.Machine.Value.{text, undefined}
use Rattle.es_runs.specs.Machine.Stop.{breaks, continues}
use Rattle.es_statement_runs.specs.Alike.{MoreLike, PortionLike, SenseLike, SensesLike}
use Rattle.es_statement_runs.specs.Alike.MoreLike.{same_helper, same_keys, same_nothing, same_aims, same_begins, same_clause, same_defines, same_handles, same_heads, same_imports, same_literal, same_maps, same_member, same_object, same_quasi, same_rest, same_spreads, same_stack_member, same_template}
use Rattle.es_statement_runs.specs.Alike.PortionLike.{alone_like, gap_like, rows_like}
use Rattle.es_statement_runs.specs.Alike.SensesLike.{no_sense, sense_and}
use Rattle.es_statement_runs.specs.Calls.{member_sense}
use Rattle.es_statement_runs.specs.Helpers.{Supply}
use Rattle.es_statement_runs.specs.Helpers.Supply.{by_global, by_import, by_require, no_helpers, spread_by_global}
use Rattle.es_statement_runs.specs.Kinds.{from_portions, inside, scope_by, sense_of}
use Rattle.es_statement_runs.specs.Patterns.{collected, defined, object_pattern, property_of}
use Rattle.es_statement_runs.specs.Places.{Take, key_taken, take, takes_of, target_taken, first_then, value_taken}
use Rattle.es_statement_runs.specs.Senses.{More, Place, Portion, Sense, cooked_of, cooked_texts, core_part, core_parts, cores, definition_of, definitions_in, is_empty, key_value, literal_key, member_of, members_in, raw_of, raw_texts, said_in, static_by, tagged_template, text_alone, whole_text, excluded_text, only_more, putter, ends, object_by, plain_sense, said_of, template_meaning}
use Rattle.es_statement_runs.specs.Senses.More.{helper_call, keys_of, nothing_more, aims, begins, defines, member_aims, template_of}
use Rattle.es_statement_runs.specs.Senses.Portion.{alone, gap, rows}
use Rattle.es_statement_runs.specs.Stacks.{Scope, in_scope}
use Rattle.es_statement_runs.specs.StatementParts.{asked_name, asked_names, clause_by, clauses, handler_of, at_last, imported_as, labels_of, namespace_begins}
use Rattle.es_statement_runs.specs.Statements.{caught, switched}

-- WHAT IS HEARD of a name there

abbrev pub unsaid : More → More
unsaid (helper_call h) = nothing_more
unsaid (keys_of ks) = nothing_more
unsaid m = m

abbrev pub unsaid_sense : Sense → Sense
unsaid_sense e = record { core = e.core; more = unsaid e.more }

abbrev unsaid_all : List Sense → List Sense
unsaid_all [] = []
unsaid_all (e ∷ es) = unsaid_sense e ∷ unsaid_all es

abbrev pub is_told : Level → Bool
is_told Level.no_evaluation = true
is_told _ = false

abbrev pub heard_sense : Level → Sense → Sense
heard_sense n e = if is_told n then unsaid_sense e else e

abbrev heard_where : Bool → Portion → Portion
heard_where true (alone e) = alone (unsaid_sense e)
heard_where true (rows es) = rows (unsaid_all es)
heard_where _ x = x

abbrev pub heard : Take → Portion → Portion
heard t x = heard_where (is_told t.need.level) x

abbrev pub heard_parts : (ℕ → Take) → List Portion → List Portion
heard_parts c [] = []
heard_parts c (x ∷ xs) = heard (c zero) x ∷ heard_parts (λ i. c (suc i)) xs

-- MEANINGS in the core are as they were

unsaid_cores : (es : List Sense) → cores (unsaid_all es) ≡ cores es
unsaid_cores [] = refl
unsaid_cores (e ∷ es) = ap (λ (ms : List Meaning). e.core ∷ ms) (unsaid_cores es)

heard_core : (b : Bool) (x : Portion) → core_part (heard_where b x) ≡ core_part x
heard_core true gap = refl
heard_core true (alone e) = refl
heard_core true (rows es) = ap Part.several (unsaid_cores es)
heard_core false x = refl

pub heard_cores : (c : ℕ → Take) (xs : List Portion) → core_parts (heard_parts c xs) ≡ core_parts xs
heard_cores c [] = refl
heard_cores c (x ∷ xs) = λ i. heard_core (is_told (c zero).need.level) x i ∷ heard_cores (λ i. c (suc i)) xs i

-- WHAT NODES TAKE is as it was

static_unsaid : (m : More) (f : Form) → static_by (unsaid m) f ≡ static_by m f
static_unsaid (helper_call h) f = refl
static_unsaid (keys_of ks) f = refl
static_unsaid _ f = refl

literal_unsaid : (m : More) → literal_key (unsaid m) ≡ literal_key m
literal_unsaid (helper_call h) = refl
literal_unsaid (keys_of ks) = refl
literal_unsaid _ = refl

definition_unsaid : (m : More) → definition_of (unsaid m) ≡ definition_of m
definition_unsaid (helper_call h) = refl
definition_unsaid (keys_of ks) = refl
definition_unsaid _ = refl

definitions_unsaid : (es : List Sense) → definitions_in (unsaid_all es) ≡ definitions_in es
definitions_unsaid [] = refl
definitions_unsaid (e ∷ es) = λ i. definition_unsaid e.more i ∷ definitions_unsaid es i

empty_unsaid : (es : List Sense) → is_empty (unsaid_all es) ≡ is_empty es
empty_unsaid [] = refl
empty_unsaid (e ∷ es) = refl

member_unsaid : (m : More) → member_of (unsaid m) ≡ member_of m
member_unsaid (helper_call h) = refl
member_unsaid (keys_of ks) = refl
member_unsaid _ = refl

members_unsaid : (es : List Sense) → members_in (unsaid_all es) ≡ members_in es
members_unsaid [] = refl
members_unsaid (e ∷ es) = λ i. member_unsaid e.more i ∷ members_unsaid es i

raw_unsaid : (m : More) (vs : Values) → raw_of (unsaid m) vs ≡ raw_of m vs
raw_unsaid (helper_call h) vs = refl
raw_unsaid (keys_of ks) vs = refl
raw_unsaid _ vs = refl

raws_unsaid : (es : List Sense) → raw_texts (unsaid_all es) ≡ raw_texts es
raws_unsaid [] = refl
raws_unsaid (e ∷ es) = raw_unsaid e.more (raw_texts (unsaid_all es)) ∙ ap (raw_of e.more) (raws_unsaid es)

cooked_unsaid : (m : More) (vs : Values) → cooked_of (unsaid m) vs ≡ cooked_of m vs
cooked_unsaid (helper_call h) vs = refl
cooked_unsaid (keys_of ks) vs = refl
cooked_unsaid _ vs = refl

cookeds_unsaid : (es : List Sense) → cooked_texts (unsaid_all es) ≡ cooked_texts es
cookeds_unsaid [] = refl
cookeds_unsaid (e ∷ es) = cooked_unsaid e.more (cooked_texts (unsaid_all es)) ∙ ap (cooked_of e.more) (cookeds_unsaid es)

whole_unsaid : (m : More) → whole_text (unsaid m) ≡ whole_text m
whole_unsaid (helper_call h) = refl
whole_unsaid (keys_of ks) = refl
whole_unsaid _ = refl

text_unsaid : (qs es : List Sense) → text_alone (unsaid_all qs) es ≡ text_alone qs es
text_unsaid (q ∷ []) [] = whole_unsaid q.more
text_unsaid (q ∷ []) (e ∷ es) = refl
text_unsaid [] es = refl
text_unsaid (q ∷ (r ∷ qs)) es = refl

tagged_unsaid : (w : World) (e : Sense) (m : More) → tagged_template w e (unsaid m) ≡ tagged_template w e m
tagged_unsaid w e (helper_call h) = refl
tagged_unsaid w e (keys_of ks) = refl
tagged_unsaid w e _ = refl

clause_unsaid : (m : More) → clause_by (unsaid m) ≡ clause_by m
clause_unsaid (helper_call h) = refl
clause_unsaid (keys_of ks) = refl
clause_unsaid _ = refl

clauses_unsaid : (es : List Sense) → clauses (unsaid_all es) ≡ clauses es
clauses_unsaid [] = refl
clauses_unsaid (e ∷ es) = λ i. clause_unsaid e.more i ++ clauses_unsaid es i

handler_unsaid : (m : More) → handler_of (unsaid m) ≡ handler_of m
handler_unsaid (helper_call h) = refl
handler_unsaid (keys_of ks) = refl
handler_unsaid _ = refl

asked_unsaid : (w : World) (t : Text) (m : More) → asked_name w t (unsaid m) ≡ asked_name w t m
asked_unsaid w t (helper_call h) = refl
asked_unsaid w t (keys_of ks) = refl
asked_unsaid w t _ = refl

names_unsaid : (w : World) (t : Text) (es : List Sense) → asked_names w t (unsaid_all es) ≡ asked_names w t es
names_unsaid w t [] = refl
names_unsaid w t (e ∷ es) = λ i. asked_unsaid w t e.more i >>= λ v. names_unsaid w t es i

-- KEYS, which are told where they aren't computed, and parts that are told or not by a flag

module _ (p : Place) (ts : List (Option Text)) (fs : List Bool) (block : Scope) (w : World) (m : Meaning) where
  abbrev Same : AstType → List Portion → List Portion → Type 0
  Same k xs ys = sense_of p k ts fs block w m xs ≡ sense_of p k ts fs block w m ys

  key_unsaid : (c : Bool) (k : Sense) → key_value p.world c (unsaid_sense k) ≡ key_value p.world c k
  key_unsaid true k = refl
  key_unsaid false k = λ i. return (text (static_unsaid k.more k.core.form i))

  text_key_unsaid : (c : Bool) (k : Sense) → excluded_text c (unsaid_sense k) ≡ excluded_text c k
  text_key_unsaid true k = literal_unsaid k.more
  text_key_unsaid false k = ap (λ (t : Text). Some t) (static_unsaid k.more k.core.form)

  defined_key : (b : Bool) (k e : Sense) → Same ObjectProperty (heard (key_taken b) (alone k) ∷ alone e ∷ []) (alone k ∷ alone e ∷ [])
  defined_key true k e = refl
  defined_key false k e = λ i. only_more (defines (key_unsaid (flag_at 2 fs) k i >>= λ x. value p.world e.core >>= λ v. return (defined x v)))

  bound_key : (b : Bool) (k e : Sense) → Same PatternProperty (heard (key_taken b) (alone k) ∷ alone e ∷ []) (alone k ∷ alone e ∷ [])
  bound_key true k e = refl
  bound_key false k e = λ i. only_more (member_aims (property_of (key_unsaid (flag_at 1 fs) k i) (text_key_unsaid (flag_at 1 fs) k i) (putter true p.world e)))

  put_key : (b : Bool) (k e : Sense) → Same TargetProperty (heard (key_taken b) (alone k) ∷ alone e ∷ []) (alone k ∷ alone e ∷ [])
  put_key true k e = refl
  put_key false k e = λ i. only_more (member_aims (property_of (key_unsaid (flag_at 1 fs) k i) (text_key_unsaid (flag_at 1 fs) k i) (putter false p.world e)))

  -- any other fields mean nothing beside the core
  defined_keys : (b : Bool) (ps : List Portion) → Same ObjectProperty (heard_parts (λ i. first_then (key_taken b) value_taken i) ps) ps
  defined_keys b (alone k ∷ alone e ∷ []) = defined_key b k e
  defined_keys true _ = refl
  defined_keys false _ = refl

  bound_keys : (b : Bool) (ps : List Portion) → Same PatternProperty (heard_parts (λ i. first_then (key_taken b) target_taken i) ps) ps
  bound_keys b (alone k ∷ alone e ∷ []) = bound_key b k e
  bound_keys true _ = refl
  bound_keys false _ = refl

  put_keys : (b : Bool) (ps : List Portion) → Same TargetProperty (heard_parts (λ i. first_then (key_taken b) target_taken i) ps) ps
  put_keys b (alone k ∷ alone e ∷ []) = put_key b k e
  put_keys true _ = refl
  put_keys false _ = refl

  member_key : (c d : Bool) (o k : Sense) → member_sense p c d o (unsaid_sense k) m ≡ member_sense p c d o k m
  member_key false false o k = refl
  member_key false true o k = refl
  member_key true d o k = refl

  members : (b d : Bool) (ps : List Portion) → Same MemberExpression (heard_parts (λ i. first_then (take (object_need true b) true) (take (key_need d) false) i) ps) ps
  members true false (alone o ∷ alone k ∷ []) = member_key (flag fs) (flag_after fs) o k
  members false false (alone o ∷ alone k ∷ []) = member_key (flag fs) (flag_after fs) o k
  members true true (alone o ∷ alone k ∷ []) = refl
  members false true (alone o ∷ alone k ∷ []) = refl
  members true true _ = refl
  members false true _ = refl
  members true false _ = refl
  members false false _ = refl

  callees : (b : Bool) (ps : List Portion) → Same CallExpression (heard_parts (λ i. first_then (take (the_callee b) true) (take the_value true) i) ps) ps
  callees true (alone f ∷ rows es ∷ []) = refl
  callees false (alone f ∷ rows es ∷ []) = refl
  callees true _ = refl
  callees false _ = refl

  handlers : (h f : Portion) (b : Sense) → Same TryStatement (alone b ∷ heard_where true h ∷ f ∷ []) (alone b ∷ h ∷ f ∷ [])
  handlers gap f b = refl
  handlers (alone h) f b = λ i. ends (at_last p.world f (λ s. caught (handler_unsaid h.more i) (value p.world b.core s)))
  handlers (rows hs) f b = refl

  labels : (l : Portion) → labels_of (heard_where true l) ≡ labels_of l
  labels gap = refl
  labels (alone e) = refl
  labels (rows es) = refl

  spaces : (e : Portion) (t : Text) → namespace_begins (heard_where true e) t ≡ namespace_begins e t
  spaces gap t = refl
  spaces (alone e) t = refl
  spaces (rows es) t = refl

-- parts that aren't told stay
pub untold : (t : Take) → is_told t.need.level ≡ false → (ps : List Portion) → heard_parts (λ i. t) ps ≡ ps
untold t e [] = refl
untold t e (x ∷ xs) = λ i. heard_where (e i) x ∷ untold t e xs i

-- EACH NODE says what it said
pub heard_same : (t : Take) (p : Place) (k : AstType) (ts : List (Option Text)) (fs : List Bool) (block : Scope) (w : World) (m : Meaning) (ps : List Portion) → sense_of p k ts fs block w m (heard_parts (takes_of t k ts fs) ps) ≡ sense_of p k ts fs block w m ps
heard_same t p TemplateLiteral ts fs block w m (rows qs ∷ rows es ∷ []) = λ i. record {
  core = template_meaning p.world (text_unsaid qs es i) (raws_unsaid qs i) (cookeds_unsaid qs i) (cores es);
  more = template_of (raws_unsaid qs i) (cookeds_unsaid qs i) (text_unsaid qs es i) (values p.world (cores es));
}
heard_same t p TemplateLiteral ts fs block w m _ = refl
heard_same t p TaggedTemplateExpression ts fs block w m (alone tag ∷ alone q ∷ []) = ap plain_sense (tagged_unsaid p.world tag q.more)
heard_same t p TaggedTemplateExpression ts fs block w m _ = refl
heard_same t p ArrayExpression ts fs block w m ps = ap (λ xs. sense_of p ArrayExpression ts fs block w m xs) (untold (take (value_and_form true) true) refl ps)
heard_same t p SpreadElement ts fs block w m (alone e ∷ []) = refl
heard_same t p SpreadElement ts fs block w m _ = refl
heard_same t p ObjectExpression ts fs block w m (rows es ∷ []) = λ i. object_by (empty_unsaid es i) (collected (definitions_unsaid es i))
heard_same t p ObjectExpression ts fs block w m _ = refl
heard_same t p ObjectProperty ts fs block w m ps = defined_keys p ts fs block w m (flag_at 2 fs) ps
heard_same t p AssignmentExpression ts fs block w m (alone l ∷ alone e ∷ []) = refl
heard_same t p AssignmentExpression ts fs block w m _ = refl
heard_same t p MemberExpression ts fs block w m ps = members p ts fs block w m (flag_after fs) (flag fs) ps
heard_same t p CallExpression ts fs block w m ps = callees p ts fs block w m (flag fs) ps
heard_same t p ObjectPattern ts fs block w m (rows ms ∷ []) = λ i. only_more (aims (return (object_pattern (members_unsaid ms i))))
heard_same t p ObjectPattern ts fs block w m _ = refl
heard_same t p ObjectTarget ts fs block w m (rows ms ∷ []) = λ i. only_more (aims (return (object_pattern (members_unsaid ms i))))
heard_same t p ObjectTarget ts fs block w m _ = refl
heard_same t p PatternProperty ts fs block w m ps = bound_keys p ts fs block w m (flag_at 1 fs) ps
heard_same t p TargetProperty ts fs block w m ps = put_keys p ts fs block w m (flag_at 1 fs) ps
heard_same t p ArrayPattern ts fs block w m ps = ap (λ xs. sense_of p ArrayPattern ts fs block w m xs) (untold target_taken refl ps)
heard_same t p ArrayTarget ts fs block w m ps = ap (λ xs. sense_of p ArrayTarget ts fs block w m xs) (untold target_taken refl ps)
heard_same t p AssignmentPattern ts fs block w m (alone e ∷ alone d ∷ []) = refl
heard_same t p AssignmentPattern ts fs block w m _ = refl
heard_same t p TargetWithDefault ts fs block w m (alone e ∷ alone d ∷ []) = refl
heard_same t p TargetWithDefault ts fs block w m _ = refl
heard_same t p RestElement ts fs block w m (alone e ∷ []) = refl
heard_same t p RestElement ts fs block w m _ = refl
heard_same t p TargetRest ts fs block w m (alone e ∷ []) = refl
heard_same t p TargetRest ts fs block w m _ = refl
heard_same t p VariableDeclarator ts fs block w m (alone x ∷ gap ∷ []) = refl
heard_same t p VariableDeclarator ts fs block w m (alone x ∷ alone e ∷ []) = refl
heard_same t p VariableDeclarator ts fs block w m _ = refl
heard_same t p VariableDeclaration ts fs block w m (rows ds ∷ []) = refl
heard_same t p VariableDeclaration ts fs block w m _ = refl
heard_same t p BlockStatement ts fs block w m (rows es ∷ []) = refl
heard_same t p BlockStatement ts fs block w m _ = refl
heard_same t p ThrowStatement ts fs block w m (alone e ∷ []) = refl
heard_same t p ThrowStatement ts fs block w m _ = refl
heard_same t p IfStatement ts fs block w m (alone a ∷ alone b ∷ c ∷ []) = refl
heard_same t p IfStatement ts fs block w m _ = refl
heard_same t p ForStatement ts fs block w m (a ∷ b ∷ c ∷ alone d ∷ []) = refl
heard_same t p ForStatement ts fs block w m _ = refl
heard_same t p ForInStatement ts fs block w m (alone a ∷ alone b ∷ alone c ∷ []) = refl
heard_same t p ForInStatement ts fs block w m _ = refl
heard_same t p ForOfStatement ts fs block w m (alone a ∷ alone b ∷ alone c ∷ []) = refl
heard_same t p ForOfStatement ts fs block w m _ = refl
heard_same t p WhileStatement ts fs block w m (alone a ∷ alone b ∷ []) = refl
heard_same t p WhileStatement ts fs block w m _ = refl
heard_same t p DoWhileStatement ts fs block w m (alone a ∷ alone b ∷ []) = refl
heard_same t p DoWhileStatement ts fs block w m _ = refl
heard_same t p BreakStatement ts fs block w m (l ∷ []) = λ i. ends (stop (breaks (labels p ts fs block w m l i)))
heard_same t p BreakStatement ts fs block w m _ = refl
heard_same t p ContinueStatement ts fs block w m (l ∷ []) = λ i. ends (stop (continues (labels p ts fs block w m l i)))
heard_same t p ContinueStatement ts fs block w m _ = refl
heard_same t p LabeledStatement ts fs block w m (alone a ∷ alone b ∷ []) = refl
heard_same t p LabeledStatement ts fs block w m _ = refl
heard_same t p SwitchStatement ts fs block w m (alone a ∷ rows es ∷ []) = λ i. ends (value p.world a.core >>= λ v. in_scope block (switched v (clauses_unsaid es i)))
heard_same t p SwitchStatement ts fs block w m _ = refl
heard_same t p SwitchCase ts fs block w m (a ∷ rows es ∷ []) = refl
heard_same t p SwitchCase ts fs block w m _ = refl
heard_same t p TryStatement ts fs block w m (alone b ∷ h ∷ f ∷ []) = handlers p ts fs block w m h f b
heard_same t p TryStatement ts fs block w m _ = refl
heard_same t p CatchClause ts fs block w m (x ∷ alone b ∷ []) = refl
heard_same t p CatchClause ts fs block w m _ = refl
heard_same t p ImportDeclaration ts fs block w m (rows es ∷ alone a ∷ ps) = λ i. record { core = gives_value (return undefined); more = begins (names_unsaid p.world (static_unsaid a.more a.core.form i) es i) }
heard_same t p ImportDeclaration ts fs block w m _ = refl
heard_same t p ImportSpecifier ts fs block w m (alone a ∷ alone b ∷ []) = λ i. only_more (imported_as (static_unsaid a.more a.core.form i) block.names)
heard_same t p ImportSpecifier ts fs block w m _ = refl
heard_same t p ExportNamedDeclaration ts fs block w m (a ∷ ps) = refl
heard_same t p ExportNamedDeclaration ts fs block w m _ = refl
heard_same t p ExportDefaultDeclaration ts fs block w m (alone a ∷ []) = refl
heard_same t p ExportDefaultDeclaration ts fs block w m _ = refl
heard_same t p ExportAllDeclaration ts fs block w m (e ∷ alone a ∷ ps) = λ i. record { core = gives_value (return undefined); more = spaces p ts fs block w m e (static_unsaid a.more a.core.form i) i }
heard_same t p ExportAllDeclaration ts fs block w m _ = refl
heard_same t p Program ts fs block w m (rows ds ∷ rows es ∷ []) = refl
heard_same t p Program ts fs block w m _ = refl
heard_same t p k ts fs block w m ps = refl

pub heard_portions : (t : Take) (p : Place) (k : AstType) (ts : List (Option Text)) (fs : List Bool) (ds : List Declared) (uses : Bool) (ls : List Text) (ps : List Portion) → from_portions p k ts fs ds uses ls (heard_parts (takes_of t k ts fs) ps) ≡ from_portions p k ts fs ds uses ls ps
heard_portions t p k ts fs ds uses ls ps =
    let w : World = (inside p k ts ds ls 1).world in
    (λ i. sense_of p k ts fs (scope_by ds uses) w (meaning_of p.world k ts fs (heard_cores (takes_of t k ts fs) ps i)) (heard_parts (takes_of t k ts fs) ps)) ∙ heard_same t p k ts fs (scope_by ds uses) w (meaning_of p.world k ts fs (core_parts ps)) ps

-- LIKENESS

-- what a name stands for isn't heard
pub name_unsaid : (o : Supply) (b : Binding) → unsaid (said_in o b) ≡ nothing_more
name_unsaid no_helpers b = refl
name_unsaid spread_by_global b = refl
name_unsaid by_global b = said b
  where
    said : (b : Binding) → unsaid (said_of b) ≡ nothing_more
    said (silent (helper_name h)) = refl
    said (silent (keys_name vs)) = refl
    said _ = refl
name_unsaid (by_import x) b = said b
  where
    said : (b : Binding) → unsaid (said_of b) ≡ nothing_more
    said (silent (helper_name h)) = refl
    said (silent (keys_name vs)) = refl
    said _ = refl
name_unsaid (by_require x) b = said b
  where
    said : (b : Binding) → unsaid (said_of b) ≡ nothing_more
    said (silent (helper_name h)) = refl
    said (silent (keys_name vs)) = refl
    said _ = refl

module _ (F : Frame) where
  more_heard : {a b : More} → MoreLike F a b → MoreLike F (unsaid a) (unsaid b)
  more_heard same_helper = same_nothing
  more_heard (same_keys h) = same_nothing
  more_heard same_nothing = same_nothing
  more_heard same_literal = same_literal
  more_heard (same_aims h) = same_aims h
  more_heard (same_heads h) = same_heads h
  more_heard (same_member h) = same_member h
  more_heard (same_rest h) = same_rest h
  more_heard (same_defines h) = same_defines h
  more_heard (same_spreads h) = same_spreads h
  more_heard (same_object h) = same_object h
  more_heard (same_maps h) = same_maps h
  more_heard same_quasi = same_quasi
  more_heard (same_template h) = same_template h
  more_heard (same_clause h) = same_clause h
  more_heard (same_handles h) = same_handles h
  more_heard (same_imports h g) = same_imports h g
  more_heard (same_begins h) = same_begins h
  more_heard (same_stack_member h) = same_stack_member h

  module _ (w v : World) where
    pub sense_heard : (n : Take) (e d : Sense) → SenseLike F w v n e d → SenseLike F w v n (heard_sense n.need.level e) (heard_sense n.need.level d)
    sense_heard n e d h = at (is_told n.need.level)
      where
        at : (b : Bool) → SenseLike F w v n (if b then unsaid_sense e else e) (if b then unsaid_sense d else d)
        at true = record { core = h.core; more = λ i. more_heard (h.more i) }
        at false = h

    -- one field after the other
    pub alone_heard : (n : Take) (e d : Sense) → SenseLike F w v n (heard_sense n.need.level e) (heard_sense n.need.level d) → PortionLike F w v n (heard n (alone e)) (heard n (alone d))
    alone_heard n e d h = at (is_told n.need.level) h
      where
        at : (b : Bool) → SenseLike F w v n (if b then unsaid_sense e else e) (if b then unsaid_sense d else d) → PortionLike F w v n (heard_where b (alone e)) (heard_where b (alone d))
        at true h = alone_like h
        at false h = alone_like h

    pub gap_heard : (n : Take) → PortionLike F w v n (heard n gap) (heard n gap)
    gap_heard n = at (is_told n.need.level)
      where
        at : (b : Bool) → PortionLike F w v n (heard_where b gap) (heard_where b gap)
        at true = gap_like
        at false = gap_like

    -- senses that are heard alike, in order
    pub data HeardAll (n : Take) : List Sense → List Sense → Type 0 where
      heard_none : HeardAll n [] []
      heard_and : {e d : Sense} {es ds : List Sense} → SenseLike F w v n (heard_sense n.need.level e) (heard_sense n.need.level d) → HeardAll n es ds → HeardAll n (e ∷ es) (d ∷ ds)

    pub senses_untold : (n : Take) → is_told n.need.level ≡ false → {es ds : List Sense} → HeardAll n es ds → SensesLike F w v n es ds
    senses_untold n i heard_none = no_sense
    senses_untold n i (heard_and {e = e} {d = d} g gs) = sense_and (subst (λ (b : Bool). SenseLike F w v n (if b then unsaid_sense e else e) (if b then unsaid_sense d else d)) i g) (senses_untold n i gs)

    senses_told : (n : Take) → is_told n.need.level ≡ true → {es ds : List Sense} → HeardAll n es ds → SensesLike F w v n (unsaid_all es) (unsaid_all ds)
    senses_told n i heard_none = no_sense
    senses_told n i (heard_and {e = e} {d = d} g gs) = sense_and (subst (λ (b : Bool). SenseLike F w v n (if b then unsaid_sense e else e) (if b then unsaid_sense d else d)) i g) (senses_told n i gs)

    pub rows_heard : (n : Take) {es ds : List Sense} → HeardAll n es ds → PortionLike F w v n (heard n (rows es)) (heard n (rows ds))
    rows_heard n {es = es} {ds = ds} h = at (is_told n.need.level) refl
      where
        at : (b : Bool) → is_told n.need.level ≡ b → PortionLike F w v n (heard_where b (rows es)) (heard_where b (rows ds))
        at true i = rows_like (senses_told n i h)
        at false i = rows_like (senses_untold n i h)
