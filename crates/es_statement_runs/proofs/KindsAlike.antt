-- Each kind is alike where its fields are, at what it takes of them.
use Rattle.std.proofs.Common.{◌≡◌, refl, List, [], ◌∷◌, ap}
use Rattle.std.specs.Prelude.{Bool, true, false, not, ◌&&◌, ◌||◌, Option, Some, None, codes, if◌then◌else◌}
use Rattle.es_tree.specs.Words.{Text}
use Rattle.es_tree.specs.Names.{flag_at, first_text as first}
use Rattle.es_tree.specs.Scopes.{Declared}
use Rattle.es_tree.specs.declared.ast_type.AstType.{AstType}
use Rattle.es_tree.specs.declared.ast_type.AstType.TheVariants.{Program, BlockStatement, EmptyStatement, DebuggerStatement, VariableDeclaration, VariableDeclarator, ThrowStatement, IfStatement, ForStatement, ForInStatement, ForOfStatement, WhileStatement, DoWhileStatement, BreakStatement, ContinueStatement, LabeledStatement, SwitchStatement, SwitchCase, TryStatement, CatchClause, ImportDeclaration, ImportSpecifier, ImportDefaultSpecifier, ImportNamespaceSpecifier, ExportNamedDeclaration, ExportSpecifier, ExportDefaultDeclaration, ExportAllDeclaration, Identifier, NullLiteral, BooleanLiteral, NumericLiteral, BigIntLiteral, StringLiteral, RegExpLiteral, TemplateLiteral, TemplateElement, TaggedTemplateExpression, ArrayExpression, SpreadElement, ObjectExpression, ObjectProperty, AssignmentExpression, MemberExpression, CallExpression, MetaProperty, ObjectPattern, PatternProperty, ArrayPattern, AssignmentPattern, RestElement, ObjectTarget, TargetProperty, ArrayTarget, TargetWithDefault, TargetRest}
use Rattle.es_runs.specs.Core.{World, Binding, gives_value, nothing, flag, flag_after}
use Rattle.es_runs.specs.Machine.{Value, Stop, M, return, stop, is_true}
use Rattle.es_runs.specs.Machine.Value.{undefined}
use Rattle.es_runs.specs.Machine.Values.{none}
use Rattle.es_runs.specs.Machine.Question.{of_statement}
use Rattle.es_runs.specs.Machine.StatementQuestion.{iterator, keys, array, spread, meta}
use Rattle.es_runs.specs.Machine.Stop.{throws, unknown, breaks, continues}
use Rattle.es_runs.specs.Alike.{Frame, Alike, Equal, SameWorld, Level, is_bad, bad_names, the_value, the_target}
use Rattle.es_runs.proofs.Basic.{bind_alike, then_alike, return_alike, stop_alike, ask_alike}
use Rattle.es_runs.proofs.Congruence.{plain_like, nothing_like, assignment_like}
use Rattle.es_runs.proofs.Lists.{member_like, declarator_like}
use Rattle.es_runs.proofs.MathWords.{unhidden_word}
use Rattle.es_runs.proofs.Everywhere.{kind_like}
use Rattle.es_runs.proofs.Everywhere.PartLike.{absent_like, single_like, several_like}
use Rattle.es_runs.proofs.Everywhere.PartsLike.{no_part, one_part}
use Rattle.es_statement_runs.specs.Helpers.{Supply}
use Rattle.es_statement_runs.specs.Alike.{Told, Quiet, StackSeen, all_visible, MoreLike, SenseLike, SensesLike, PortionLike, PortionsLike, visible}
use Rattle.es_statement_runs.specs.Alike.MoreLike.{same_nothing, same_literal, same_aims, same_rest, same_defines, same_spreads, same_quasi, same_clause, same_handles, same_imports, same_begins}
use Rattle.es_statement_runs.specs.Alike.PortionLike.{gap_like, alone_like, rows_like}
use Rattle.es_statement_runs.specs.Alike.PortionsLike.{no_portion, one_portion}
use Rattle.es_statement_runs.specs.Senses.{Place, Sense, Portion, only_more, plain_sense, word_text, static_text}
use Rattle.es_statement_runs.specs.Senses.More.{begins}
use Rattle.es_statement_runs.proofs.Combinators.{choice_alike, labelled_same, scoped_alike, stack_alike, scope_alike, own_visible, looped_alike, each_alike, switched_alike, go_on_alike, done_alike}
use Rattle.es_statement_runs.specs.StatementParts.{for_each, imported_as, asked_names, namespace_begins}
use Rattle.es_statement_runs.specs.Stacks.{Scope, own_cells}
use Rattle.es_statement_runs.specs.Statements.{labelled}
use Rattle.es_statement_runs.specs.Patterns.{defined}
use Rattle.es_statement_runs.specs.Names.{names_of_all, is_word}
use Rattle.es_statement_runs.specs.Kinds.{inside, entered, found, kind_in, scope_by, from_portions}
use Rattle.es_statement_runs.specs.Places.{placed_at, Take, value_taken, label_taken, target_taken, more_taken, takes_of, quiet_at}
use Rattle.es_statement_runs.proofs.PatternsAlike.{returns_putter, copied_then, collected_alike, default_alike, object_pattern_alike, array_pattern_alike}
use Rattle.es_statement_runs.proofs.SensesAlike.{as_empty, asked_names_like, assigned_like, begun_like, bodies_like, call_sense_like, case_like, clauses_like, cores_like, declarator_like_by, definitions_like, elements_like, ends_like, first_more_like, form_weak, handled_like, head_aims_like, head_like, items_like, key_items_like, key_like, keys_like, label_text, labels_same, last_like, member_sense_like, members_like, name_like, namespace_like, object_like, only_like, parameter_like, parts_like, plain_sense_like, property_like, putter_like, tagged_by, template_like, test_like, tested_like, value_or_like}

abbrev pub inner : World → List Declared → World
inner w ds = (entered ds (quiet_at w [] [])).world

found_same : (c : Option Text) (x : Text) (f g : Text → Binding) → g x ≡ f x → found c x g x ≡ found c x f x
found_same None x f g e = e
found_same (Some k) x f g e = refl

module _ (F : Frame) (quiet : Quiet F) where
  pub inner_same : (ds : List Declared) (w v : World) → SameWorld F.hidden w v → SameWorld F.hidden (inner w ds) (inner v ds)
  inner_same ds w v same = record { scope = λ x e. found_same (kind_in ds x) x w.scope v.scope (same.scope x e); this = same.this; counts = same.counts }

  pub nothing_sense : (t : Take) (w v : World) → SameWorld F.hidden w v → SenseLike F w v t (plain_sense nothing) (plain_sense nothing)
  nothing_sense t w v same = plain_sense_like F quiet w v same t (nothing_like F w v same t.need)

  for_each_like : (w v : World) → SameWorld F.hidden w v → (block : Scope) → (block.uses ≡ true → StackSeen F) → all_visible F block.names ≡ true → (closes : Bool) (p q : Place) → q.labels ≡ p.labels → {a a' b b' c c' : Sense} → SenseLike F w v target_taken a a' → SenseLike F w v value_taken b b' → SenseLike F w v value_taken c c' →
      Alike F Equal (for_each p w block closes a b c) (for_each q v block closes a' b' c')
  for_each_like w v same block i vis closes p q e h g f = rw e
      (then_alike F (scoped_alike F (own_cells block) (own_visible F block i vis) g.core.evaluation) (λ u. then_alike F (ask_alike F (if closes then of_statement (iterator u) else of_statement (keys u)))
      (λ it. each_alike F quiet p.labels closes (λ u. scope_alike F quiet block i vis (bind_alike F (head_like F quiet w v same h) (λ m k j. then_alike F (j u) (λ z. f.core.evaluation)))) it)))

  stop_by : (c : List Text → Stop) {l m : List Text} → m ≡ l → Alike F (Equal {A = Value}) (stop (c l)) (stop (c m))
  stop_by c {l = l} e = rw e (stop_alike F (c l))

  labelled_like : {m k : M Value} → Alike F Equal m k → {x y : Text} → y ≡ x → Alike F Equal (λ s. labelled x (m s)) (λ s. labelled y (k s))
  labelled_like h {x = x} e = rw e (λ s t g. labelled_same F x (h s t g))

  import_like : (t : Take) (w v : World) → SameWorld F.hidden w v → {es es' : List Sense} → SensesLike F w v more_taken es es' → {a b : Sense} → SenseLike F w v label_taken a b →
      SenseLike F w v t (record { core = gives_value (return undefined); more = begins (asked_names w (static_text a) es) }) (record { core = gives_value (return undefined); more = begins (asked_names v (static_text b) es') })
  import_like t w v same h {a = a} g = record { core = plain_like F w v same t.need _ _ (return_alike F undefined); more = λ _. rw (label_text F quiet w v same g) (same_begins (asked_names_like F quiet w v same (static_text a) h)) }

  seen_here : (y : Text) (b : Bool) → (visible F y && b) ≡ true → (F.hidden y ≡ false) × (F.frozen y ≡ false)
  seen_here y b h = at (F.hidden y) (F.frozen y) h
    where
      at : (c d : Bool) → (not (c || d) && b) ≡ true → (c ≡ false) × (d ≡ false)
      at false false k = (refl, refl)
      at true d k = absurd (cc k)
      at false true k = absurd (cc k)

  imported_like : (ds : List Declared) (x : Text) → all_visible F (names_of_all ds) ≡ true → MoreLike F (imported_as x (names_of_all ds)) (imported_as x (names_of_all ds))
  imported_like [] x vis = same_nothing
  imported_like (d ∷ ds) x vis = let h = seen_here d.name (all_visible F (names_of_all ds)) vis in same_imports h.0 h.1

  import_specifier : (t : Take) (w v : World) → SameWorld F.hidden w v → (ds : List Declared) → all_visible F (names_of_all ds) ≡ true → {a b : Sense} → SenseLike F w v label_taken a b →
      SenseLike F w v t (only_more (imported_as (static_text a) (names_of_all ds))) (only_more (imported_as (static_text b) (names_of_all ds)))
  import_specifier t w v same ds vis {a = a} h = rw (label_text F quiet w v same h) (only_like F quiet w v same t (imported_like ds (static_text a) vis))

  export_like : (t : Take) (w v : World) → SameWorld F.hidden w v → {y z : Portion} → PortionLike F w v label_taken y z → {a b : Sense} → SenseLike F w v label_taken a b →
      SenseLike F w v t (record { core = gives_value (return undefined); more = namespace_begins y (static_text a) }) (record { core = gives_value (return undefined); more = namespace_begins z (static_text b) })
  export_like t w v same h {a = a} g = record { core = plain_like F w v same t.need _ _ (return_alike F undefined); more = λ _. rw (label_text F quiet w v same g) (namespace_like F quiet w v same h (static_text a)) }

  module _ (bad : Level → Text → Bool) (below : (n : Level) (x : Text) → bad n x ≡ false → bad_names F.hidden F.frozen n x ≡ false) (o : Supply) (told : Told F bad o) where
    pub kind_close : (t : Take) (w v : World) → SameWorld F.hidden w v → (ls : List Text) (x : Text) (k : AstType) (ts : List (Option Text)) (fs : List Bool) (ds : List Declared) (uses : Bool) (vs : List Text) {ps qs : List Portion} →
        (uses ≡ true → StackSeen F) → (is_word (codes "using") x ≡ true → StackSeen F) → is_bad bad t.need.level k ts ≡ false → all_visible F (names_of_all ds) ≡ true →
        PortionsLike F (λ i. (inside (placed_at o w ls x) k ts ds vs i).world) (λ i. (inside (placed_at o v ls x) k ts ds vs i).world) (takes_of t k ts fs) ps qs →
        SenseLike F w v t (from_portions (placed_at o w ls x) k ts fs ds uses vs ps) (from_portions (placed_at o v ls x) k ts fs ds uses vs qs)
    kind_close t w v same ls x Identifier ts fs ds uses vs q r st vis h = record { core = kind_like F w v same t.need Identifier ts fs (below t.need.level (first ts) st) (parts_like F quiet w v same (takes_of t Identifier ts fs) h); more = λ _. name_like F quiet w v same bad o told t.need.level (first ts) st }
    kind_close t w v same ls x NullLiteral ts fs ds uses vs q r st vis h = record { core = kind_like F w v same t.need NullLiteral ts fs st (parts_like F quiet w v same (takes_of t NullLiteral ts fs) h); more = λ _. same_literal }
    kind_close t w v same ls x BooleanLiteral ts fs ds uses vs q r st vis h = record { core = kind_like F w v same t.need BooleanLiteral ts fs st (parts_like F quiet w v same (takes_of t BooleanLiteral ts fs) h); more = λ _. same_literal }
    kind_close t w v same ls x NumericLiteral ts fs ds uses vs q r st vis h = record { core = kind_like F w v same t.need NumericLiteral ts fs st (parts_like F quiet w v same (takes_of t NumericLiteral ts fs) h); more = λ _. same_literal }
    kind_close t w v same ls x BigIntLiteral ts fs ds uses vs q r st vis h = record { core = kind_like F w v same t.need BigIntLiteral ts fs st (parts_like F quiet w v same (takes_of t BigIntLiteral ts fs) h); more = λ _. same_literal }
    kind_close t w v same ls x StringLiteral ts fs ds uses vs q r st vis h = record { core = kind_like F w v same t.need StringLiteral ts fs st (parts_like F quiet w v same (takes_of t StringLiteral ts fs) h); more = λ _. same_literal }
    kind_close t w v same ls x RegExpLiteral ts fs ds uses vs q r st vis h = ends_like F quiet w v same t (ask_alike F _)
    kind_close t w v same ls x TemplateElement ts fs ds uses vs q r st vis h = only_like F quiet w v same t same_quasi
    kind_close t w v same ls x TemplateLiteral ts fs ds uses vs q r st vis (one_portion (rows_like h) (one_portion (rows_like g) no_portion)) = template_like F quiet w v same t h g
    kind_close t w v same ls x TemplateLiteral ts fs ds uses vs q r st vis _ = nothing_sense t w v same
    kind_close t w v same ls x TaggedTemplateExpression ts fs ds uses vs q r st vis (one_portion (alone_like h) (one_portion (alone_like g) no_portion)) = plain_sense_like F quiet w v same t (tagged_by F quiet w v same h (g.more refl) t.need)
    kind_close t w v same ls x TaggedTemplateExpression ts fs ds uses vs q r st vis _ = nothing_sense t w v same
    kind_close t w v same ls x ArrayExpression ts fs ds uses vs q r st vis h = record { core = plain_like F w v same t.need _ _ (then_alike F (items_like F quiet w v same h) (λ us. ask_alike F (of_statement (array us)))); more = λ _. keys_like F quiet w v same (key_items_like F quiet w v same h) }
    kind_close t w v same ls x SpreadElement ts fs ds uses vs q r st vis (one_portion (alone_like h) no_portion) = record { core = plain_like F w v same t.need _ _ (then_alike F h.core.evaluation (λ u. ask_alike F (of_statement (spread u)))); more = λ _. same_spreads (then_alike F h.core.evaluation (λ u. copied_then F u none)) }
    kind_close t w v same ls x SpreadElement ts fs ds uses vs q r st vis _ = nothing_sense t w v same
    kind_close t w v same ls x ObjectExpression ts fs ds uses vs q r st vis (one_portion (rows_like h) no_portion) = object_like F quiet w v same t _ _ (as_empty F quiet w v same h) (collected_alike F (definitions_like F quiet w v same h))
    kind_close t w v same ls x ObjectExpression ts fs ds uses vs q r st vis _ = nothing_sense t w v same
    kind_close t w v same ls x ObjectProperty ts fs ds uses vs q r st vis (one_portion (alone_like h) (one_portion (alone_like g) no_portion)) = only_like F quiet w v same t (same_defines (then_alike F (key_like F quiet w v same (flag_at 2 fs) h) (λ y. then_alike F g.core.evaluation (λ u. return_alike F (defined y u)))))
    kind_close t w v same ls x ObjectProperty ts fs ds uses vs q r st vis _ = nothing_sense t w v same
    kind_close t w v same ls x MetaProperty ts fs ds uses vs q r st vis h = ends_like F quiet w v same t (choice_alike F (is_word (codes "import") (first ts)) (ask_alike F (of_statement meta)) (stop_alike F unknown))
    kind_close t w v same ls x AssignmentExpression ts fs ds uses vs q r st vis (one_portion (alone_like {e = a} {d = a'} h) (one_portion (alone_like {e = b} {d = b'} g) no_portion)) = assigned_like F quiet w v same t (first ts) (h.more refl) g _ _ (assignment_like F w v same t.need (first ts) a.core a'.core b.core b'.core h.core g.core) (assignment_like F w v same the_value (first ts) a.core a'.core b.core b'.core h.core g.core).evaluation
    kind_close t w v same ls x AssignmentExpression ts fs ds uses vs q r st vis _ = nothing_sense t w v same
    kind_close t w v same ls x MemberExpression ts fs ds uses vs q r st vis (one_portion (alone_like {e = a} {d = a'} h) (one_portion (alone_like {e = b} {d = b'} g) no_portion)) = member_sense_like F quiet w v same bad o told t ls x (flag fs) (flag_after fs) h b b' (member_like F w v same t.need (flag fs) (flag_after fs) a.core a'.core b.core b'.core (unhidden_word F.hidden a.core.form quiet.math) (form_weak F quiet w v same t.need.form (flag_after fs) a.core a'.core h.core) g.core) (member_like F w v same the_target (flag fs) (flag_after fs) a.core a'.core b.core b'.core (unhidden_word F.hidden a.core.form quiet.math) (form_weak F quiet w v same true (flag_after fs) a.core a'.core h.core) g.core).evaluation g.core
    kind_close t w v same ls x MemberExpression ts fs ds uses vs q r st vis _ = nothing_sense t w v same
    kind_close t w v same ls x CallExpression ts fs ds uses vs q r st vis (one_portion (alone_like {e = f} {d = f'} h) (one_portion (rows_like g) no_portion)) = call_sense_like F quiet w v same bad o told t ls x (flag fs) f f' h g
    kind_close t w v same ls x CallExpression ts fs ds uses vs q r st vis _ = nothing_sense t w v same
    kind_close t w v same ls x ObjectPattern ts fs ds uses vs q r st vis (one_portion (rows_like h) no_portion) = only_like F quiet w v same t (same_aims (returns_putter F (object_pattern_alike F (members_like F quiet w v same h))))
    kind_close t w v same ls x ObjectPattern ts fs ds uses vs q r st vis _ = nothing_sense t w v same
    kind_close t w v same ls x ObjectTarget ts fs ds uses vs q r st vis (one_portion (rows_like h) no_portion) = only_like F quiet w v same t (same_aims (returns_putter F (object_pattern_alike F (members_like F quiet w v same h))))
    kind_close t w v same ls x ObjectTarget ts fs ds uses vs q r st vis _ = nothing_sense t w v same
    kind_close t w v same ls x PatternProperty ts fs ds uses vs q r st vis (one_portion (alone_like h) (one_portion (alone_like g) no_portion)) = property_like F quiet w v same t true (flag_at 1 fs) h g
    kind_close t w v same ls x PatternProperty ts fs ds uses vs q r st vis _ = nothing_sense t w v same
    kind_close t w v same ls x TargetProperty ts fs ds uses vs q r st vis (one_portion (alone_like h) (one_portion (alone_like g) no_portion)) = property_like F quiet w v same t false (flag_at 1 fs) h g
    kind_close t w v same ls x TargetProperty ts fs ds uses vs q r st vis _ = nothing_sense t w v same
    kind_close t w v same ls x ArrayPattern ts fs ds uses vs q r st vis h = only_like F quiet w v same t (same_aims (returns_putter F (array_pattern_alike F (elements_like F quiet w v same true h))))
    kind_close t w v same ls x ArrayTarget ts fs ds uses vs q r st vis h = only_like F quiet w v same t (same_aims (returns_putter F (array_pattern_alike F (elements_like F quiet w v same false h))))
    kind_close t w v same ls x AssignmentPattern ts fs ds uses vs q r st vis (one_portion (alone_like h) (one_portion (alone_like g) no_portion)) = only_like F quiet w v same t (same_aims (bind_alike F (putter_like F quiet w v same true h) (λ m n e. returns_putter F (default_alike F g.core.evaluation e))))
    kind_close t w v same ls x AssignmentPattern ts fs ds uses vs q r st vis _ = nothing_sense t w v same
    kind_close t w v same ls x TargetWithDefault ts fs ds uses vs q r st vis (one_portion (alone_like h) (one_portion (alone_like g) no_portion)) = only_like F quiet w v same t (same_aims (bind_alike F (putter_like F quiet w v same false h) (λ m n e. returns_putter F (default_alike F g.core.evaluation e))))
    kind_close t w v same ls x TargetWithDefault ts fs ds uses vs q r st vis _ = nothing_sense t w v same
    kind_close t w v same ls x RestElement ts fs ds uses vs q r st vis (one_portion (alone_like h) no_portion) = only_like F quiet w v same t (same_rest (putter_like F quiet w v same true h))
    kind_close t w v same ls x RestElement ts fs ds uses vs q r st vis _ = nothing_sense t w v same
    kind_close t w v same ls x TargetRest ts fs ds uses vs q r st vis (one_portion (alone_like h) no_portion) = only_like F quiet w v same t (same_rest (putter_like F quiet w v same false h))
    kind_close t w v same ls x TargetRest ts fs ds uses vs q r st vis _ = nothing_sense t w v same
    kind_close t w v same ls x VariableDeclarator ts fs ds uses vs q r st vis (one_portion (alone_like {e = a} {d = a'} h) (one_portion gap_like no_portion)) = record { core = kind_like F w v same t.need VariableDeclarator ts fs st (one_part (single_like (λ _. unhidden_word F.hidden a.core.form quiet.math) h.core) (one_part absent_like no_part)); more = λ _. head_aims_like F quiet w v same o ls x r h }
    kind_close t w v same ls x VariableDeclarator ts fs ds uses vs q r st vis (one_portion (alone_like {e = a} {d = a'} h) (one_portion (alone_like {e = b} {d = b'} g) no_portion)) = declarator_like_by F quiet w v same o t ls x r (h.more refl) h g _ _ (declarator_like F w v same t.need a.core a'.core b.core b'.core h.core g.core)
    kind_close t w v same ls x VariableDeclarator ts fs ds uses vs q r st vis _ = nothing_sense t w v same
    kind_close t w v same ls x VariableDeclaration ts fs ds uses vs q r st vis (one_portion (rows_like h) no_portion) = record { core = kind_like F w v same t.need VariableDeclaration ts fs st (one_part (several_like (cores_like F quiet w v same h)) no_part); more = λ _. first_more_like F quiet w v same refl h }
    kind_close t w v same ls x VariableDeclaration ts fs ds uses vs q r st vis _ = nothing_sense t w v same
    kind_close t w v same ls x BlockStatement ts fs ds uses vs q r st vis (one_portion (rows_like h) no_portion) = ends_like F quiet w v same t (scope_alike F quiet (scope_by ds uses) q vis (bodies_like F quiet (inner w ds) (inner v ds) (inner_same ds w v same) refl h))
    kind_close t w v same ls x BlockStatement ts fs ds uses vs q r st vis _ = nothing_sense t w v same
    kind_close t w v same ls x EmptyStatement ts fs ds uses vs q r st vis h = ends_like F quiet w v same t (return_alike F undefined)
    kind_close t w v same ls x DebuggerStatement ts fs ds uses vs q r st vis h = ends_like F quiet w v same t (return_alike F undefined)
    kind_close t w v same ls x ThrowStatement ts fs ds uses vs q r st vis (one_portion (alone_like h) no_portion) = ends_like F quiet w v same t (then_alike F h.core.evaluation (λ u. stop_alike F (throws u)))
    kind_close t w v same ls x ThrowStatement ts fs ds uses vs q r st vis _ = nothing_sense t w v same
    kind_close t w v same ls x IfStatement ts fs ds uses vs q r st vis (one_portion (alone_like h) (one_portion (alone_like g) (one_portion f no_portion))) = ends_like F quiet w v same t (then_alike F h.core.evaluation (λ u. choice_alike F (is_true u) g.core.evaluation (value_or_like F quiet w v same f undefined)))
    kind_close t w v same ls x IfStatement ts fs ds uses vs q r st vis _ = nothing_sense t w v same
    kind_close t w v same ls x ForStatement ts fs ds uses vs q r st vis (one_portion a (one_portion b (one_portion c (one_portion (alone_like h) no_portion)))) = ends_like F quiet w v same t (scope_alike F quiet (scope_by ds uses) q vis (then_alike F (value_or_like F quiet (inner w ds) (inner v ds) (inner_same ds w v same) a undefined) (λ u. looped_alike F quiet ls (test_like F quiet (inner w ds) (inner v ds) (inner_same ds w v same) b) h.core.evaluation (value_or_like F quiet (inner w ds) (inner v ds) (inner_same ds w v same) c undefined))))
    kind_close t w v same ls x ForStatement ts fs ds uses vs q r st vis _ = nothing_sense t w v same
    kind_close t w v same ls x ForInStatement ts fs ds uses vs q r st vis (one_portion (alone_like h) (one_portion (alone_like g) (one_portion (alone_like f) no_portion))) = ends_like F quiet w v same t (for_each_like (inner w ds) (inner v ds) (inner_same ds w v same) (scope_by ds uses) q vis false (placed_at o w ls x) (placed_at o v ls x) refl h g f)
    kind_close t w v same ls x ForInStatement ts fs ds uses vs q r st vis _ = nothing_sense t w v same
    kind_close t w v same ls x ForOfStatement ts fs ds uses vs q r st vis (one_portion (alone_like h) (one_portion (alone_like g) (one_portion (alone_like f) no_portion))) = ends_like F quiet w v same t (for_each_like (inner w ds) (inner v ds) (inner_same ds w v same) (scope_by ds uses) q vis true (placed_at o w ls x) (placed_at o v ls x) refl h g f)
    kind_close t w v same ls x ForOfStatement ts fs ds uses vs q r st vis _ = nothing_sense t w v same
    kind_close t w v same ls x WhileStatement ts fs ds uses vs q r st vis (one_portion (alone_like h) (one_portion (alone_like g) no_portion)) = ends_like F quiet w v same t (looped_alike F quiet ls (tested_like F quiet w v same h.core.evaluation) g.core.evaluation (return_alike F undefined))
    kind_close t w v same ls x WhileStatement ts fs ds uses vs q r st vis _ = nothing_sense t w v same
    kind_close t w v same ls x DoWhileStatement ts fs ds uses vs q r st vis (one_portion (alone_like h) (one_portion (alone_like g) no_portion)) = ends_like F quiet w v same t (looped_alike F quiet ls (return_alike F true) h.core.evaluation (then_alike F g.core.evaluation (go_on_alike F)))
    kind_close t w v same ls x DoWhileStatement ts fs ds uses vs q r st vis _ = nothing_sense t w v same
    kind_close t w v same ls x BreakStatement ts fs ds uses vs q r st vis (one_portion h no_portion) = ends_like F quiet w v same t (stop_by (λ l. breaks l) (labels_same F quiet w v same h))
    kind_close t w v same ls x BreakStatement ts fs ds uses vs q r st vis _ = nothing_sense t w v same
    kind_close t w v same ls x ContinueStatement ts fs ds uses vs q r st vis (one_portion h no_portion) = ends_like F quiet w v same t (stop_by (λ l. continues l) (labels_same F quiet w v same h))
    kind_close t w v same ls x ContinueStatement ts fs ds uses vs q r st vis _ = nothing_sense t w v same
    kind_close t w v same ls x LabeledStatement ts fs ds uses vs q r st vis (one_portion (alone_like h) (one_portion (alone_like g) no_portion)) = ends_like F quiet w v same t (labelled_like g.core.evaluation (ap word_text (h.core.form refl)))
    kind_close t w v same ls x LabeledStatement ts fs ds uses vs q r st vis _ = nothing_sense t w v same
    kind_close t w v same ls x SwitchStatement ts fs ds uses vs q r st vis (one_portion (alone_like h) (one_portion (rows_like g) no_portion)) = ends_like F quiet w v same t (then_alike F h.core.evaluation (λ u. scope_alike F quiet (scope_by ds uses) q vis (switched_alike F u (clauses_like F quiet (inner w ds) (inner v ds) (inner_same ds w v same) g))))
    kind_close t w v same ls x SwitchStatement ts fs ds uses vs q r st vis _ = nothing_sense t w v same
    kind_close t w v same ls x SwitchCase ts fs ds uses vs q r st vis (one_portion h (one_portion (rows_like g) no_portion)) = only_like F quiet w v same t (same_clause (case_like F quiet w v same h g))
    kind_close t w v same ls x SwitchCase ts fs ds uses vs q r st vis _ = nothing_sense t w v same
    kind_close t w v same ls x TryStatement ts fs ds uses vs q r st vis (one_portion (alone_like h) (one_portion g (one_portion f no_portion))) = ends_like F quiet w v same t (last_like F quiet w v same f (handled_like F quiet w v same g h.core.evaluation))
    kind_close t w v same ls x TryStatement ts fs ds uses vs q r st vis _ = nothing_sense t w v same
    kind_close t w v same ls x CatchClause ts fs ds uses vs q r st vis (one_portion h (one_portion (alone_like g) no_portion)) = only_like F quiet w v same t (same_handles (λ u. scope_alike F quiet (scope_by ds uses) q vis (then_alike F (parameter_like F quiet (inner w ds) (inner v ds) (inner_same ds w v same) h u) (λ z. g.core.evaluation))))
    kind_close t w v same ls x CatchClause ts fs ds uses vs q r st vis _ = nothing_sense t w v same
    kind_close t w v same ls x ImportDeclaration ts fs ds uses vs q r st vis (one_portion (rows_like h) (one_portion (alone_like g) f)) = import_like t w v same h g
    kind_close t w v same ls x ImportDeclaration ts fs ds uses vs q r st vis _ = nothing_sense t w v same
    kind_close t w v same ls x ImportSpecifier ts fs ds uses vs q r st vis (one_portion (alone_like h) (one_portion (alone_like g) no_portion)) = import_specifier t w v same ds vis h
    kind_close t w v same ls x ImportSpecifier ts fs ds uses vs q r st vis _ = nothing_sense t w v same
    kind_close t w v same ls x ImportDefaultSpecifier ts fs ds uses vs q r st vis h = only_like F quiet w v same t (imported_like ds (codes "default") vis)
    kind_close t w v same ls x ImportNamespaceSpecifier ts fs ds uses vs q r st vis h = only_like F quiet w v same t (imported_like ds (codes "*") vis)
    kind_close t w v same ls x ExportNamedDeclaration ts fs ds uses vs q r st vis (one_portion h g) = ends_like F quiet w v same t (value_or_like F quiet w v same h undefined)
    kind_close t w v same ls x ExportNamedDeclaration ts fs ds uses vs q r st vis _ = nothing_sense t w v same
    kind_close t w v same ls x ExportSpecifier ts fs ds uses vs q r st vis h = nothing_sense t w v same
    kind_close t w v same ls x ExportDefaultDeclaration ts fs ds uses vs q r st vis (one_portion (alone_like h) no_portion) = ends_like F quiet w v same t (then_alike F h.core.evaluation (done_alike F))
    kind_close t w v same ls x ExportDefaultDeclaration ts fs ds uses vs q r st vis _ = nothing_sense t w v same
    kind_close t w v same ls x ExportAllDeclaration ts fs ds uses vs q r st vis (one_portion h (one_portion (alone_like g) f)) = export_like t w v same h g
    kind_close t w v same ls x ExportAllDeclaration ts fs ds uses vs q r st vis _ = nothing_sense t w v same
    kind_close t w v same ls x Program ts fs ds uses vs q r st vis (one_portion (rows_like h) (one_portion (rows_like g) no_portion)) = ends_like F quiet w v same t (begun_like F quiet w v same g (stack_alike F quiet uses q (bodies_like F quiet w v same refl g)))
    kind_close t w v same ls x Program ts fs ds uses vs q r st vis _ = nothing_sense t w v same
    kind_close t w v same ls x k ts fs ds uses vs q r st vis h = plain_sense_like F quiet w v same t (kind_like F w v same t.need k ts fs st (parts_like F quiet w v same (takes_of t k ts fs) h))
