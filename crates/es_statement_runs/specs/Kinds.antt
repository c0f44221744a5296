-- What each kind means, from what its fields mean, as one fold over the tree.
use Rattle.std.specs.Prelude.{ℕ, zero, suc, Bool, true, false, List, [], ◌∷◌, ◌++◌, Option, Some, None, bytes_eq, if◌then◌else◌, codes}
use Rattle.es_tree.specs.Words.{Text}
use Rattle.es_tree.specs.Names.{flag_at, first_text as first}
use Rattle.es_tree.specs.Scopes.{Declared}
use Rattle.es_tree.specs.Tree.{Tree, node, Fields, done, ◌then◌, Field, missing, one, many, statements, Trees, empty, ◌before◌}
use Rattle.es_tree.specs.declared.ast_type.AstType.{AstType}
use Rattle.es_tree.specs.declared.ast_type.AstType.TheVariants.{Program, BlockStatement, EmptyStatement, DebuggerStatement, VariableDeclaration, VariableDeclarator, ThrowStatement, IfStatement, ForStatement, ForInStatement, ForOfStatement, WhileStatement, DoWhileStatement, BreakStatement, ContinueStatement, LabeledStatement, SwitchStatement, SwitchCase, TryStatement, CatchClause, ImportDeclaration, ImportSpecifier, ImportDefaultSpecifier, ImportNamespaceSpecifier, ExportNamedDeclaration, ExportDefaultDeclaration, ExportAllDeclaration, Identifier, NullLiteral, BooleanLiteral, NumericLiteral, BigIntLiteral, StringLiteral, RegExpLiteral, TemplateLiteral, TemplateElement, TaggedTemplateExpression, ArrayExpression, SpreadElement, ObjectExpression, ObjectProperty, AssignmentExpression, MemberExpression, CallExpression, MetaProperty, ObjectPattern, PatternProperty, ArrayPattern, AssignmentPattern, RestElement, ObjectTarget, TargetProperty, ArrayTarget, TargetWithDefault, TargetRest}
use Rattle.es_runs.specs.Machine.{◌>>=◌, return, stop, ask, is_true}
use Rattle.es_runs.specs.Machine.Value.{undefined}
use Rattle.es_runs.specs.Machine.Values.{none}
use Rattle.es_runs.specs.Machine.Question.{of_statement}
use Rattle.es_runs.specs.Machine.StatementQuestion.{regexp, spread, meta}
use Rattle.es_runs.specs.Machine.Stop.{throws, breaks, continues, unknown}
use Rattle.es_runs.specs.Core.{World, Binding, Meaning, value, gives_value, in_order, meaning_of, second, flag, flag_after}
use Rattle.es_runs.specs.Runs.{binding_of}
use Rattle.es_statement_runs.specs.Senses.{array_literal, tagged_template, plain_sense, template_literal, only_more, ends, core_parts, said_in, Portion, Place, Sense, cores, property_aims, static_text, definitions_in, word_text, default_aims, object_by, key_value, is_empty, array_aims, object_aims, putter}
use Rattle.es_statement_runs.specs.Senses.More.{spreads, quasi, literal_text, rest_aims, begins, handles, defines, clause_of}
use Rattle.es_statement_runs.specs.Senses.Portion.{rows, alone, gap}
use Rattle.es_statement_runs.specs.Scopes.{done_with}
use Rattle.es_statement_runs.specs.Stacks.{Scope, in_scope}
use Rattle.es_statement_runs.specs.Statements.{looped, go_on_where, labelled, switched}
use Rattle.es_statement_runs.specs.Patterns.{defined, copied, collected}
use Rattle.es_statement_runs.specs.Names.{own_names, own_use, names_of_all, is_word}
use Rattle.es_statement_runs.specs.StatementParts.{tested, for_each, handled, for_statement, program_sense, namespace_begins, first_more, case_clause, labels_of, head_aims, optional_value, clauses, at_last, bound_parameter, imported_as, asked_names, declarator_by}
use Rattle.es_statement_runs.specs.Calls.{assignment_by, call_sense, member_sense}

-- KINDS

abbrev pub second_text : List (Option Text) → Option Text
second_text (t ∷ u ∷ ts) = u
second_text _ = None

abbrev pub boolean_text : Bool → Text
boolean_text true = codes "true"
boolean_text false = codes "false"

abbrev pub literal_of : Text → Meaning → Sense
literal_of t m = record { core = m; more = literal_text t }

-- What has a line here beside its meaning in the core, which is m, or has no meaning there. The node's own scope is `own`, and
-- w is the world in it.
abbrev pub sense_of : Place → AstType → List (Option Text) → List Bool → Scope → World → Meaning → List Portion → Sense
sense_of p Identifier ts fs block w m ps = record { core = m; more = said_in p.supply (p.world.scope (first ts)) }
sense_of p NullLiteral ts fs block w m ps = literal_of (codes "null") m
sense_of p BooleanLiteral ts fs block w m ps = literal_of (boolean_text (flag fs)) m
sense_of p NumericLiteral ts fs block w m ps = literal_of (second ts) m
sense_of p BigIntLiteral ts fs block w m ps = literal_of (second ts) m
sense_of p StringLiteral ts fs block w m ps = literal_of (first ts) m
sense_of p RegExpLiteral ts fs block w m ps = ends (ask (of_statement (regexp (first ts) (second ts))))
sense_of p TemplateElement ts fs block w m ps = only_more (quasi (first ts) (second_text ts))
sense_of p TemplateLiteral ts fs block w m (rows qs ∷ rows es ∷ []) = template_literal p.world qs es
sense_of p TaggedTemplateExpression ts fs block w m (alone tag ∷ alone q ∷ []) = plain_sense (tagged_template p.world tag q.more)
sense_of p ArrayExpression ts fs block w m ps = array_literal p.world ps
sense_of p SpreadElement ts fs block w m (alone e ∷ []) = record { core = gives_value (value p.world e.core >>= λ v. ask (of_statement (spread v))); more = spreads (value p.world e.core >>= λ v. copied v none) }
sense_of p ObjectExpression ts fs block w m (rows es ∷ []) = object_by (is_empty es) (collected (definitions_in es))
sense_of p ObjectProperty ts fs block w m (alone k ∷ alone e ∷ []) = only_more (defines (key_value p.world (flag_at 2 fs) k >>= λ x. value p.world e.core >>= λ v. return (defined x v)))
sense_of p MetaProperty ts fs block w m ps = ends (if is_word (codes "import") (first ts) then ask (of_statement meta) else stop unknown)
sense_of p AssignmentExpression ts fs block w m (alone l ∷ alone e ∷ []) = assignment_by p.world (first ts) l.more e m
sense_of p MemberExpression ts fs block w m (alone o ∷ alone k ∷ []) = member_sense p (flag fs) (flag_after fs) o k m
sense_of p CallExpression ts fs block w m (alone f ∷ rows es ∷ []) = call_sense p (flag fs) f es
sense_of p ObjectPattern ts fs block w m (rows ms ∷ []) = object_aims ms
sense_of p ObjectTarget ts fs block w m (rows ms ∷ []) = object_aims ms
sense_of p PatternProperty ts fs block w m (alone k ∷ alone e ∷ []) = property_aims true p.world (flag_at 1 fs) k e
sense_of p TargetProperty ts fs block w m (alone k ∷ alone e ∷ []) = property_aims false p.world (flag_at 1 fs) k e
sense_of p ArrayPattern ts fs block w m ps = array_aims true p.world ps
sense_of p ArrayTarget ts fs block w m ps = array_aims false p.world ps
sense_of p AssignmentPattern ts fs block w m (alone e ∷ alone d ∷ []) = default_aims true p.world e d
sense_of p TargetWithDefault ts fs block w m (alone e ∷ alone d ∷ []) = default_aims false p.world e d
sense_of p RestElement ts fs block w m (alone e ∷ []) = only_more (rest_aims (putter true p.world e))
sense_of p TargetRest ts fs block w m (alone e ∷ []) = only_more (rest_aims (putter false p.world e))
sense_of p VariableDeclarator ts fs block w m (alone id ∷ gap ∷ []) = record { core = m; more = head_aims p id }
sense_of p VariableDeclarator ts fs block w m (alone id ∷ alone e ∷ []) = declarator_by p id.more id e m
sense_of p VariableDeclaration ts fs block w m (rows ds ∷ []) = record { core = m; more = first_more ds }
sense_of p BlockStatement ts fs block w m (rows body ∷ []) = ends (in_scope block (in_order w (cores body)))
sense_of p EmptyStatement ts fs block w m ps = ends (return undefined)
sense_of p DebuggerStatement ts fs block w m ps = ends (return undefined)
sense_of p ThrowStatement ts fs block w m (alone e ∷ []) = ends (value p.world e.core >>= λ v. stop (throws v))
sense_of p IfStatement ts fs block w m (alone t ∷ alone a ∷ b ∷ []) = ends (value p.world t.core >>= λ v. if is_true v then value p.world a.core else optional_value p.world b undefined)
sense_of p ForStatement ts fs block w m (init ∷ test ∷ update ∷ alone body ∷ []) = ends (for_statement p w block init test update body)
sense_of p ForInStatement ts fs block w m (alone l ∷ alone e ∷ alone body ∷ []) = ends (for_each p w block false l e body)
sense_of p ForOfStatement ts fs block w m (alone l ∷ alone e ∷ alone body ∷ []) = ends (for_each p w block true l e body)
sense_of p WhileStatement ts fs block w m (alone t ∷ alone body ∷ []) = ends (looped p.labels (tested (value p.world t.core)) (value p.world body.core) (return undefined))
sense_of p DoWhileStatement ts fs block w m (alone body ∷ alone t ∷ []) = ends (looped p.labels (return true) (value p.world body.core) (value p.world t.core >>= go_on_where))
sense_of p BreakStatement ts fs block w m (l ∷ []) = ends (stop (breaks (labels_of l)))
sense_of p ContinueStatement ts fs block w m (l ∷ []) = ends (stop (continues (labels_of l)))
sense_of p LabeledStatement ts fs block w m (alone l ∷ alone body ∷ []) = ends (λ s. labelled (word_text l.core.form) (value p.world body.core s))
sense_of p SwitchStatement ts fs block w m (alone d ∷ rows cs ∷ []) = ends (value p.world d.core >>= λ v. in_scope block (switched v (clauses cs)))
sense_of p SwitchCase ts fs block w m (t ∷ rows body ∷ []) = only_more (clause_of (case_clause p.world t body))
sense_of p TryStatement ts fs block w m (alone b ∷ h ∷ f ∷ []) = ends (at_last p.world f (handled h (value p.world b.core)))
sense_of p CatchClause ts fs block w m (x ∷ alone body ∷ []) = only_more (handles (λ v. in_scope block (bound_parameter w x v >>= λ _. value w body.core)))
sense_of p ImportDeclaration ts fs block w m (rows is ∷ alone source ∷ rest) = record { core = gives_value (return undefined); more = begins (asked_names p.world (static_text source) is) }
sense_of p ImportSpecifier ts fs block w m (alone there ∷ alone here ∷ []) = only_more (imported_as (static_text there) block.names)
sense_of p ImportDefaultSpecifier ts fs block w m ps = only_more (imported_as (codes "default") block.names)
sense_of p ImportNamespaceSpecifier ts fs block w m ps = only_more (imported_as (codes "*") block.names)
sense_of p ExportNamedDeclaration ts fs block w m (d ∷ rest) = ends (optional_value p.world d undefined)
sense_of p ExportDefaultDeclaration ts fs block w m (alone e ∷ []) = ends (value p.world e.core >>= done_with)
sense_of p ExportAllDeclaration ts fs block w m (e ∷ alone source ∷ rest) = record { core = gives_value (return undefined); more = namespace_begins e (static_text source) }
sense_of p Program ts fs block w m (rows directives ∷ rows body ∷ []) = program_sense p.world block.uses body
sense_of p _ ts fs block w m ps = plain_sense m

-- WHERE THE FIELDS STAND

abbrev pub found : Option Text → Text → (Text → Binding) → Text → Binding
found None x scope y = scope y
found (Some kind) x scope y = binding_of kind

abbrev pub kind_in : List Declared → Text → Option Text
kind_in [] x = None
kind_in (d ∷ ds) x = if bytes_eq x d.name then Some d.kind else kind_in ds x

abbrev pub entered : List Declared → Place → Place
entered ds p = record {
  world = record { scope = λ x. found (kind_in ds x) x p.world.scope x; this = p.world.this; counts_all = p.world.counts_all; other = p.world.other; spreads = p.world.spreads };
  labels = [];
  word = [];
  supply = p.supply;
}

abbrev pub below : List Text → Text → Place → Place
below ls x p = record { world = p.world; labels = ls; word = x; supply = p.supply }

abbrev pub label_in : AstType → Fields → List Text
label_in LabeledStatement (one (node k l gs) then fs) = first l.texts ∷ []
label_in _ fs = []

-- the place of the field with this number, where the node's own scope declares ds and its label is ls; the discriminant of a
-- `switch` stands outside its scope
abbrev pub inside : Place → AstType → List (Option Text) → List Declared → List Text → ℕ → Place
inside p BlockStatement ts ds ls i = entered ds p
inside p ForStatement ts ds ls i = entered ds p
inside p ForInStatement ts ds ls i = entered ds p
inside p ForOfStatement ts ds ls i = entered ds p
inside p CatchClause ts ds ls i = entered ds p
inside p SwitchStatement ts ds ls (suc i) = entered ds p
inside p LabeledStatement ts ds ls i = below (ls ++ p.labels) [] p
inside p VariableDeclaration ts ds ls i = below [] (first ts) p
inside p _ ts ds ls i = below [] [] p

abbrev pub scope_by : List Declared → Bool → Scope
scope_by ds uses = record { names = names_of_all ds; uses = uses }

abbrev pub from_portions : Place → AstType → List (Option Text) → List Bool → List Declared → Bool → List Text → List Portion → Sense
from_portions p k ts fs ds uses ls ps = sense_of p k ts fs (scope_by ds uses) (inside p k ts ds ls 1).world (meaning_of p.world k ts fs (core_parts ps)) ps

abbrev mutual
  pub sense : Place → Tree → Sense
  sense p (node k l fs) = from_portions p k l.texts l.flags (own_names k fs) (own_use k fs) (label_in k fs) (portions (inside p k l.texts (own_names k fs) (label_in k fs)) fs)

  pub portions : (ℕ → Place) → Fields → List Portion
  portions at done = []
  portions at (f then fs) = portion (at zero) f ∷ portions (λ i. at (suc i)) fs

  pub portion : Place → Field → Portion
  portion p missing = gap
  portion p (one t) = alone (sense p t)
  portion p (many ts) = rows (senses p ts)
  portion p (statements ts) = rows (senses p ts)

  pub senses : Place → Trees → List Sense
  senses p empty = []
  senses p (t before ts) = sense p t ∷ senses p ts
