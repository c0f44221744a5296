-- Each tree means, where the helper of object spread is the only one known, what matches what it means with the object of all helpers: one fold over the kinds.
use Rattle.std.proofs.Common.{◌≡◌, ◌∙◌, refl, List, [], ◌∷◌, ap}
use Rattle.std.proofs.lemmas.Bool.{or_parts}
use Rattle.std.specs.Prelude.{ℕ, zero, suc, Bool, true, false, Option, Some, None, bytes_eq, codes, if◌then◌else◌}
use Rattle.es_tree.specs.Fresh.{is_among}
use Rattle.es_tree.specs.Words.{Text}
use Rattle.es_tree.specs.Names.{flag_at, first_text as first}
use Rattle.es_tree.specs.Scopes.{Declared}
use Rattle.es_tree.specs.Tree.{◌then◌}
use Rattle.es_tree.specs.declared.ast_type.AstType.{AstType}
use Rattle.es_tree.specs.declared.ast_type.AstType.TheVariants.{Program, BlockStatement, EmptyStatement, DebuggerStatement, VariableDeclaration, VariableDeclarator, ThrowStatement, IfStatement, ForStatement, ForInStatement, ForOfStatement, WhileStatement, DoWhileStatement, BreakStatement, ContinueStatement, LabeledStatement, SwitchStatement, SwitchCase, TryStatement, CatchClause, ImportDeclaration, ImportSpecifier, ImportDefaultSpecifier, ImportNamespaceSpecifier, ExportNamedDeclaration, ExportDefaultDeclaration, ExportAllDeclaration, Identifier, NullLiteral, BooleanLiteral, NumericLiteral, BigIntLiteral, StringLiteral, RegExpLiteral, TemplateLiteral, TemplateElement, TaggedTemplateExpression, ArrayExpression, SpreadElement, ObjectExpression, ObjectProperty, AssignmentExpression, MemberExpression, CallExpression, MetaProperty, ObjectPattern, PatternProperty, ArrayPattern, AssignmentPattern, RestElement, ObjectTarget, TargetProperty, ArrayTarget, TargetWithDefault, TargetRest}
use Rattle.es_runs.specs.Machine.{Value, Stop, M, stop, is_true}
use Rattle.es_runs.specs.Machine.Value.{undefined}
use Rattle.es_runs.specs.Machine.Values.{none}
use Rattle.es_runs.specs.Machine.Question.{of_statement}
use Rattle.es_runs.specs.Machine.StatementQuestion.{spread, meta, regexp}
use Rattle.es_runs.specs.Machine.Stop.{throws, unknown, breaks, continues}
use Rattle.es_runs.specs.Core.{World, Binding, Meaning, assignment, is_free, member_form, meaning_of, flag, flag_after, second}
use Rattle.es_runs.specs.Core.Binding.{changeable, constant}
use Rattle.es_runs.specs.Runs.{binding_of}
use Rattle.es_runs.proofs.Temporary.{bytes_eq-flip}
use Rattle.es_stackless_runs.proofs.Machine.{Lacks, Matches, StopLacks, both_lack, bind, bind_by, returns, stopped, choice, asks}
use Rattle.es_stackless_runs.proofs.CoreKinds.{Matching, NamedSo, world_in, kind_matching, plain_matching}
use Rattle.es_stackless_runs.proofs.CoreKinds.AllBy.{no_more, one_more}
use Rattle.es_statement_runs.specs.Helpers.Supply.{by_global, spread_by_global}
use Rattle.es_statement_runs.specs.Senses.{Place, Sense, Portion, said_in, core_parts, default_aims, word_text, static_text}
use Rattle.es_statement_runs.specs.Senses.More.{begins}
use Rattle.es_statement_runs.specs.Senses.Portion.{alone, rows}
use Rattle.es_statement_runs.specs.StatementParts.{asked_names, first_more, imported_as, namespace_begins}
use Rattle.es_statement_runs.specs.Stacks.{Scope}
use Rattle.es_statement_runs.specs.Statements.{labelled}
use Rattle.es_statement_runs.specs.Patterns.{defined}
use Rattle.es_statement_runs.specs.Names.{is_word, names_of_all}
use Rattle.es_statement_runs.specs.Places.{placed_at}
use Rattle.es_statement_runs.specs.Kinds.{sense_of, inside, found, kind_in}
use Rattle.es_stackless_runs.specs.Laws.{helpers_}
use Rattle.es_stackless_runs.proofs.Forms.{is_apart}
use Rattle.es_stackless_runs.proofs.Statements.{scope_matches, stack_matches, looped_matches, go_on_matches, labelled_matched, done_matches, switched_matches}
use Rattle.es_stackless_runs.proofs.Patterns.{returns_putter, collected_matches, copied_matches, default_matches, object_matches, array_matches}
use Rattle.es_stackless_runs.proofs.Senses.{BindingLacks, NoStack, imported_none, name_none, namespace_none, stack_at_none, MoreMatching, SenseMatching, SensesMatching, PortionMatching, PortionsMatching, array_matching, as_empty, asked_names_matches, assigned_matching, begun_matches, call_sense_matching, case_matching, clauses_matching, declarator_matching, definitions_matching, elements_matching, ends_matching, first_more_matching, for_each_matches, handled_matches, has, head_aims_matching, imported_matching, in_order_matches, key_matches, label_text, labels_same, last_matches, member_sense_matching, members_matching, name_matching, namespace_matching, object_matching, only_matching, parameter_matching, parts_matching, plainly, property_matching, putter_matches, tagged_matching, template_matching, test_matches, tested_matches, value_or}
use Rattle.es_stackless_runs.proofs.Senses.MoreMatching.{same_literal, same_aims, same_rest, same_defines, same_spreads, same_quasi, same_clause, same_handles, same_begins}
use Rattle.es_stackless_runs.proofs.Senses.PortionMatching.{gap_matching, alone_matching, rows_matching}

stop_by : (c : List Text → Stop) → ((l : List Text) → StopLacks (c l)) → {l m : List Text} → m ≡ l → Matches Lacks (stop (c l)) (stop (c m))
stop_by c g {l = l} e = rw e (stopped (c l) (g l))

labelled_matches : {m k : M Value} → Matches Lacks m k → {x y : Text} → y ≡ x → Matches Lacks (λ s. labelled x (m s)) (λ s. labelled y (k s))
labelled_matches h {x = x} e = rw e (λ s n. labelled_matched x (h s n))

-- WHAT EACH KIND MEANS, where the names around the node are bound by `scope`, and those in its own scope by `inner`

module _ (this : Value) (lacks : Lacks this) (scope inner : Text → Binding) (binds : (y : Text) → BindingLacks (scope y)) (ls : List Text) (x : Text) where
  abbrev p : Place
  p = placed_at spread_by_global (world_in scope this) ls x

  abbrev q : Place
  q = placed_at by_global (world_in scope this) ls x

  abbrev w : World
  w = world_in inner this

  abbrev v : World
  v = world_in inner this

  default_matching : (binding : Bool) {e e' d d' : Sense} → SenseMatching e e' → SenseMatching d d' → SenseMatching (default_aims binding p.world e d) (default_aims binding q.world e' d')
  default_matching binding h g = only_matching (same_aims (bind_by (putter_matches scope this lacks binding h) (λ f k i. returns_putter (default_matches (has scope this lacks g) i)))) tt

  import_matching : {es es' : List Sense} → SensesMatching es es' → {a b : Sense} → SenseMatching a b → MoreMatching (begins (asked_names p.world (static_text a) es)) (begins (asked_names q.world (static_text b) es'))
  import_matching h {a = a} g = rw (label_text g) (same_begins (asked_names_matches scope this lacks (static_text a) h))

  specifier_matching : (ys : List Text) {a b : Sense} → SenseMatching a b → MoreMatching (imported_as (static_text a) ys) (imported_as (static_text b) ys)
  specifier_matching ys {a = a} h = rw (label_text h) (imported_matching (static_text a) ys)

  export_matching : {y z : Portion} → PortionMatching y z → {a b : Sense} → SenseMatching a b → MoreMatching (namespace_begins y (static_text a)) (namespace_begins z (static_text b))
  export_matching h {a = a} g = rw (label_text g) (namespace_matching h (static_text a))

  -- what else is known of a node of these kinds
  abbrev Known : AstType → List (Option Text) → List Bool → Meaning → Meaning → List Portion → List Portion → Type 0
  Known AssignmentExpression ts fs m n (alone l ∷ (alone e ∷ [])) qs = m ≡ assignment p.world (first ts) l.core e.core
  Known MemberExpression ts fs m n ps (alone e ∷ (alone k ∷ [])) = (is_apart e.core.form ≡ true) × (n.form ≡ member_form q.world (flag fs) (flag_after fs) e.core.form k.core.form)
  Known VariableDeclaration ts fs m n ps (rows ds ∷ []) = NoStack (first_more ds)
  Known _ ts fs m n ps qs = Unit {0}

  pub sense_matching : (k : AstType) (ts : List (Option Text)) (fs : List Bool) (block : Scope) {m n : Meaning} {ps qs : List Portion} → Known k ts fs m n ps qs → Matching m n → PortionsMatching ps qs → SenseMatching (sense_of p k ts fs block w m ps) (sense_of q k ts fs block v n qs)
  sense_matching Identifier ts fs block z c h = record { core = c; more = name_matching (scope (first ts)) (binds (first ts)); stacks = stack_at_none _ (said_in by_global (scope (first ts))) (name_none (scope (first ts)) (binds (first ts))) }
  sense_matching NullLiteral ts fs block z c h = record { core = c; more = same_literal; stacks = tt }
  sense_matching BooleanLiteral ts fs block z c h = record { core = c; more = same_literal; stacks = tt }
  sense_matching NumericLiteral ts fs block z c h = record { core = c; more = same_literal; stacks = tt }
  sense_matching BigIntLiteral ts fs block z c h = record { core = c; more = same_literal; stacks = tt }
  sense_matching StringLiteral ts fs block z c h = record { core = c; more = same_literal; stacks = tt }
  sense_matching RegExpLiteral ts fs block z c h = ends_matching (asks (of_statement (regexp (first ts) (second ts))))
  sense_matching TemplateElement ts fs block z c h = only_matching same_quasi tt
  sense_matching TemplateLiteral ts fs block z c (one_more (rows_matching h) (one_more (rows_matching g) no_more)) = template_matching scope this lacks h g
  sense_matching TemplateLiteral ts fs block z c _ = plainly c
  sense_matching TaggedTemplateExpression ts fs block z c (one_more (alone_matching h) (one_more (alone_matching g) no_more)) = plainly (tagged_matching scope this lacks h g.more)
  sense_matching TaggedTemplateExpression ts fs block z c _ = plainly c
  sense_matching ArrayExpression ts fs block z c h = array_matching scope this lacks h
  sense_matching SpreadElement ts fs block z c (one_more (alone_matching h) no_more) = record { core = plain_matching (bind (has scope this lacks h) (λ u i. asks (of_statement (spread u)))); more = same_spreads (bind (has scope this lacks h) (λ u i. copied_matches u none)); stacks = tt }
  sense_matching SpreadElement ts fs block z c _ = plainly c
  sense_matching ObjectExpression ts fs block z c (one_more (rows_matching h) no_more) = object_matching _ _ (as_empty h) (collected_matches (definitions_matching h))
  sense_matching ObjectExpression ts fs block z c _ = plainly c
  sense_matching ObjectProperty ts fs block z c (one_more (alone_matching h) (one_more (alone_matching g) no_more)) = only_matching (same_defines (bind (key_matches scope this lacks (flag_at 2 fs) h) (λ y i. bind (has scope this lacks g) (λ u j. returns (defined y u) (both_lack i (both_lack j refl)))))) tt
  sense_matching ObjectProperty ts fs block z c _ = plainly c
  sense_matching MetaProperty ts fs block z c h = ends_matching (choice (is_word (codes "import") (first ts)) (asks (of_statement meta)) (stopped unknown tt))
  sense_matching AssignmentExpression ts fs block z c (one_more (alone_matching h) (one_more (alone_matching g) no_more)) = assigned_matching scope this lacks (first ts) h h.more h.stacks g c z
  sense_matching AssignmentExpression ts fs block z c _ = plainly c
  sense_matching MemberExpression ts fs block z c (one_more (alone_matching h) (one_more (alone_matching g) no_more)) = member_sense_matching scope this lacks ls x (flag fs) (flag_after fs) h g z.0 c z.1
  sense_matching MemberExpression ts fs block z c _ = plainly c
  sense_matching CallExpression ts fs block z c (one_more (alone_matching h) (one_more (rows_matching g) no_more)) = call_sense_matching scope this lacks ls x (flag fs) h g
  sense_matching CallExpression ts fs block z c _ = plainly c
  sense_matching ObjectPattern ts fs block z c (one_more (rows_matching h) no_more) = only_matching (same_aims (returns_putter (object_matches (members_matching h)))) tt
  sense_matching ObjectPattern ts fs block z c _ = plainly c
  sense_matching ObjectTarget ts fs block z c (one_more (rows_matching h) no_more) = only_matching (same_aims (returns_putter (object_matches (members_matching h)))) tt
  sense_matching ObjectTarget ts fs block z c _ = plainly c
  sense_matching PatternProperty ts fs block z c (one_more (alone_matching h) (one_more (alone_matching g) no_more)) = property_matching scope this lacks true (flag_at 1 fs) h g
  sense_matching PatternProperty ts fs block z c _ = plainly c
  sense_matching TargetProperty ts fs block z c (one_more (alone_matching h) (one_more (alone_matching g) no_more)) = property_matching scope this lacks false (flag_at 1 fs) h g
  sense_matching TargetProperty ts fs block z c _ = plainly c
  sense_matching ArrayPattern ts fs block z c h = only_matching (same_aims (returns_putter (array_matches (elements_matching scope this lacks true h)))) tt
  sense_matching ArrayTarget ts fs block z c h = only_matching (same_aims (returns_putter (array_matches (elements_matching scope this lacks false h)))) tt
  sense_matching AssignmentPattern ts fs block z c (one_more (alone_matching h) (one_more (alone_matching g) no_more)) = default_matching true h g
  sense_matching AssignmentPattern ts fs block z c _ = plainly c
  sense_matching TargetWithDefault ts fs block z c (one_more (alone_matching h) (one_more (alone_matching g) no_more)) = default_matching false h g
  sense_matching TargetWithDefault ts fs block z c _ = plainly c
  sense_matching RestElement ts fs block z c (one_more (alone_matching h) no_more) = only_matching (same_rest (putter_matches scope this lacks true h)) tt
  sense_matching RestElement ts fs block z c _ = plainly c
  sense_matching TargetRest ts fs block z c (one_more (alone_matching h) no_more) = only_matching (same_rest (putter_matches scope this lacks false h)) tt
  sense_matching TargetRest ts fs block z c _ = plainly c
  sense_matching VariableDeclarator ts fs block z c (one_more (alone_matching h) (one_more gap_matching no_more)) = record { core = c; more = head_aims_matching scope this lacks ls x h; stacks = tt }
  sense_matching VariableDeclarator ts fs block z c (one_more (alone_matching h) (one_more (alone_matching g) no_more)) = declarator_matching scope this lacks ls x h.more h g c
  sense_matching VariableDeclarator ts fs block z c _ = plainly c
  sense_matching VariableDeclaration ts fs block z c (one_more (rows_matching h) no_more) = record { core = c; more = first_more_matching h; stacks = stack_at_none _ _ z }
  sense_matching VariableDeclaration ts fs block z c _ = plainly c
  sense_matching BlockStatement ts fs block z c (one_more (rows_matching h) no_more) = ends_matching (scope_matches block (in_order_matches inner this lacks h))
  sense_matching BlockStatement ts fs block z c _ = plainly c
  sense_matching EmptyStatement ts fs block z c h = ends_matching (returns undefined refl)
  sense_matching DebuggerStatement ts fs block z c h = ends_matching (returns undefined refl)
  sense_matching ThrowStatement ts fs block z c (one_more (alone_matching h) no_more) = ends_matching (bind (has scope this lacks h) (λ u i. stopped (throws u) i))
  sense_matching ThrowStatement ts fs block z c _ = plainly c
  sense_matching IfStatement ts fs block z c (one_more (alone_matching h) (one_more (alone_matching g) (one_more f no_more))) = ends_matching (bind (has scope this lacks h) (λ u i. choice (is_true u) (has scope this lacks g) (value_or scope this lacks f undefined refl)))
  sense_matching IfStatement ts fs block z c _ = plainly c
  sense_matching ForStatement ts fs block z c (one_more a (one_more b (one_more d (one_more (alone_matching h) no_more)))) = ends_matching (scope_matches block (bind (value_or inner this lacks a undefined refl) (λ u i. looped_matches ls (test_matches inner this lacks b) (has inner this lacks h) (value_or inner this lacks d undefined refl))))
  sense_matching ForStatement ts fs block z c _ = plainly c
  sense_matching ForInStatement ts fs block z c (one_more (alone_matching h) (one_more (alone_matching g) (one_more (alone_matching f) no_more))) = ends_matching (for_each_matches inner this lacks scope ls x block false h g f)
  sense_matching ForInStatement ts fs block z c _ = plainly c
  sense_matching ForOfStatement ts fs block z c (one_more (alone_matching h) (one_more (alone_matching g) (one_more (alone_matching f) no_more))) = ends_matching (for_each_matches inner this lacks scope ls x block true h g f)
  sense_matching ForOfStatement ts fs block z c _ = plainly c
  sense_matching WhileStatement ts fs block z c (one_more (alone_matching h) (one_more (alone_matching g) no_more)) = ends_matching (looped_matches ls (tested_matches (has scope this lacks h)) (has scope this lacks g) (returns undefined refl))
  sense_matching WhileStatement ts fs block z c _ = plainly c
  sense_matching DoWhileStatement ts fs block z c (one_more (alone_matching h) (one_more (alone_matching g) no_more)) = ends_matching (looped_matches ls (returns true tt) (has scope this lacks h) (bind (has scope this lacks g) go_on_matches))
  sense_matching DoWhileStatement ts fs block z c _ = plainly c
  sense_matching BreakStatement ts fs block z c (one_more h no_more) = ends_matching (stop_by (λ l. breaks l) (λ l. tt) (labels_same h))
  sense_matching BreakStatement ts fs block z c _ = plainly c
  sense_matching ContinueStatement ts fs block z c (one_more h no_more) = ends_matching (stop_by (λ l. continues l) (λ l. tt) (labels_same h))
  sense_matching ContinueStatement ts fs block z c _ = plainly c
  sense_matching LabeledStatement ts fs block z c (one_more (alone_matching h) (one_more (alone_matching g) no_more)) = ends_matching (labelled_matches (has scope this lacks g) (ap word_text h.core.form))
  sense_matching LabeledStatement ts fs block z c _ = plainly c
  sense_matching SwitchStatement ts fs block z c (one_more (alone_matching h) (one_more (rows_matching g) no_more)) = ends_matching (bind (has scope this lacks h) (λ u i. scope_matches block (switched_matches u (clauses_matching g))))
  sense_matching SwitchStatement ts fs block z c _ = plainly c
  sense_matching SwitchCase ts fs block z c (one_more h (one_more (rows_matching g) no_more)) = only_matching (same_clause (case_matching scope this lacks h g)) tt
  sense_matching SwitchCase ts fs block z c _ = plainly c
  sense_matching TryStatement ts fs block z c (one_more (alone_matching h) (one_more g (one_more f no_more))) = ends_matching (last_matches scope this lacks f (handled_matches g (has scope this lacks h)))
  sense_matching TryStatement ts fs block z c _ = plainly c
  sense_matching CatchClause ts fs block z c (one_more h (one_more (alone_matching g) no_more)) = only_matching (same_handles (λ u i. scope_matches block (bind (parameter_matching inner this lacks h u i) (λ z n. has inner this lacks g)))) tt
  sense_matching CatchClause ts fs block z c _ = plainly c
  sense_matching ImportDeclaration ts fs block z c (one_more (rows_matching h) (one_more (alone_matching g) f)) = record { core = plain_matching (returns undefined refl); more = import_matching h g; stacks = tt }
  sense_matching ImportDeclaration ts fs block z c _ = plainly c
  sense_matching ImportSpecifier ts fs block z c (one_more (alone_matching h) (one_more (alone_matching g) no_more)) = only_matching (specifier_matching block.names h) (imported_none _ block.names)
  sense_matching ImportSpecifier ts fs block z c _ = plainly c
  sense_matching ImportDefaultSpecifier ts fs block z c h = only_matching (imported_matching (codes "default") block.names) (imported_none (codes "default") block.names)
  sense_matching ImportNamespaceSpecifier ts fs block z c h = only_matching (imported_matching (codes "*") block.names) (imported_none (codes "*") block.names)
  sense_matching ExportNamedDeclaration ts fs block z c (one_more h g) = ends_matching (value_or scope this lacks h undefined refl)
  sense_matching ExportNamedDeclaration ts fs block z c _ = plainly c
  sense_matching ExportDefaultDeclaration ts fs block z c (one_more (alone_matching h) no_more) = ends_matching (bind (has scope this lacks h) (λ u i. done_matches u))
  sense_matching ExportDefaultDeclaration ts fs block z c _ = plainly c
  sense_matching ExportAllDeclaration ts fs block z c (one_more {b = y} h (one_more (alone_matching {d = a} g) f)) = record { core = plain_matching (returns undefined refl); more = export_matching h g; stacks = stack_at_none _ _ (namespace_none y (static_text a)) }
  sense_matching ExportAllDeclaration ts fs block z c _ = plainly c
  sense_matching Program ts fs block z c (one_more (rows_matching h) (one_more (rows_matching g) no_more)) = ends_matching (begun_matches g (stack_matches block.uses (in_order_matches scope this lacks g)))
  sense_matching Program ts fs block z c _ = plainly c
  sense_matching _ ts fs block z c h = plainly c

-- WHERE THE FIELDS STAND

pub binding_lacks : (kind : Text) → BindingLacks (binding_of kind)
binding_lacks kind = at (bytes_eq kind (codes "const"))
  where
    at : (b : Bool) → BindingLacks (if b then constant else changeable)
    at true = tt
    at false = tt

found_lacks : (c : Option Text) (y : Text) (scope : Text → Binding) → BindingLacks (scope y) → BindingLacks (found c y scope y)
found_lacks None y scope h = h
found_lacks (Some kind) y scope h = binding_lacks kind

-- two places that differ in how helpers are supplied, where `babelHelpers` is unbound
pub data TwoPlaces (this : Value) : Place → Place → Type 0 where
  two_places : {scope : Text → Binding} {ls : List Text} {x : Text} → ((y : Text) → BindingLacks (scope y)) → is_free (scope helpers_) ≡ true → TwoPlaces this (placed_at spread_by_global (world_in scope this) ls x) (placed_at by_global (world_in scope this) ls x)

unbound_in : (ds : List Declared) (y : Text) → is_among (names_of_all ds) y ≡ false → kind_in ds y ≡ None
unbound_in [] y h = refl
unbound_in (d ∷ ds) y h = let e = or_parts (bytes_eq d.name y) (is_among (names_of_all ds) y) h in rw (bytes_eq-flip y d.name ∙ e.0) (unbound_in ds y e.1)

module _ (this : Value) (lacks : Lacks this) where
  module _ (ds : List Declared) (other : is_among (names_of_all ds) helpers_ ≡ false) where
    module _ (scope : Text → Binding) (free_here : is_free (scope helpers_) ≡ true) where
      still_free : is_free (found (kind_in ds helpers_) helpers_ scope helpers_) ≡ true
      still_free = ap (λ (k : Option Text). is_free (found k helpers_ scope helpers_)) (unbound_in ds helpers_ other) ∙ free_here

    pub two_inside : (k : AstType) (ts : List (Option Text)) (ns : List Text) (scope : Text → Binding) (ls : List Text) (x : Text) → ((y : Text) → BindingLacks (scope y)) → is_free (scope helpers_) ≡ true → (i : ℕ) →
        TwoPlaces this (inside (placed_at spread_by_global (world_in scope this) ls x) k ts ds ns i) (inside (placed_at by_global (world_in scope this) ls x) k ts ds ns i)
    two_inside BlockStatement ts ns scope ls x h g i = two_places (λ y. found_lacks (kind_in ds y) y scope (h y)) (still_free scope g)
    two_inside ForStatement ts ns scope ls x h g i = two_places (λ y. found_lacks (kind_in ds y) y scope (h y)) (still_free scope g)
    two_inside ForInStatement ts ns scope ls x h g i = two_places (λ y. found_lacks (kind_in ds y) y scope (h y)) (still_free scope g)
    two_inside ForOfStatement ts ns scope ls x h g i = two_places (λ y. found_lacks (kind_in ds y) y scope (h y)) (still_free scope g)
    two_inside CatchClause ts ns scope ls x h g i = two_places (λ y. found_lacks (kind_in ds y) y scope (h y)) (still_free scope g)
    two_inside SwitchStatement ts ns scope ls x h g (suc i) = two_places (λ y. found_lacks (kind_in ds y) y scope (h y)) (still_free scope g)
    two_inside SwitchStatement ts ns scope ls x h g zero = two_places h g
    two_inside LabeledStatement ts ns scope ls x h g i = two_places h g
    two_inside VariableDeclaration ts ns scope ls x h g i = two_places h g
    two_inside _ ts ns scope ls x h g i = two_places h g

  -- EVERY NODE

  abbrev pub NodeKnown : Place → Place → AstType → List (Option Text) → List Bool → Meaning → Meaning → List Portion → List Portion → Type 0
  NodeKnown p q AssignmentExpression ts fs m n (alone l ∷ (alone e ∷ [])) qs = m ≡ assignment p.world (first ts) l.core e.core
  NodeKnown p q MemberExpression ts fs m n ps (alone e ∷ (alone k ∷ [])) = (is_apart e.core.form ≡ true) × (n.form ≡ member_form q.world (flag fs) (flag_after fs) e.core.form k.core.form)
  NodeKnown p q VariableDeclaration ts fs m n ps (rows ds ∷ []) = NoStack (first_more ds)
  NodeKnown p q _ ts fs m n ps qs = Unit {0}

  pub node_matching : {p q : Place} → TwoPlaces this p q → {a b : Place} → TwoPlaces this a b → (k : AstType) (ts : List (Option Text)) (fs : List Bool) (block : Scope) {m n : Meaning} {ps qs : List Portion} → NodeKnown p q k ts fs m n ps qs → Matching m n → PortionsMatching ps qs → SenseMatching (sense_of p k ts fs block a.world m ps) (sense_of q k ts fs block b.world n qs)
  node_matching (two_places {scope = scope} {ls = ls} {x = x} h g) (two_places {scope = inner} i j) k ts fs block z c e = sense_matching this lacks scope inner h ls x k ts fs block z c e

  pub core_matching : {p q : Place} → TwoPlaces this p q → (k : AstType) (ts : List (Option Text)) (fs : List Bool) → NamedSo k ts → {ps qs : List Portion} → PortionsMatching ps qs → Matching (meaning_of p.world k ts fs (core_parts ps)) (meaning_of q.world k ts fs (core_parts qs))
  core_matching (two_places {scope = scope} h g) k ts fs n e = kind_matching scope this lacks k ts fs n (parts_matching e)
