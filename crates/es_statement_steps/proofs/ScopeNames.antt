-- The names that a scope binds (ECMA-262, 8.2.4 and 9.1) are those of its scope in the machine of statements: of blocks, loops, `switch`, `catch`
-- and the program.
use Rattle.std.proofs.Common.{◌≡◌, ℕ, zero, suc, refl, sym, ap, ◌∙◌, List, ◌++◌}
use Rattle.std.specs.Prelude.{Bool, true, false, not, ◌&&◌, codes, if◌then◌else◌}
use Rattle.es_tree.specs.BoundNames.{bound_identifiers}
use Rattle.es_tree.specs.Names.{first_text}
use Rattle.es_tree.specs.Scopes.{declares}
use Rattle.es_tree.specs.Tree.{Tree, node, Label, Fields, ◌then◌, Field, missing, one, many, statements, Trees, empty, ◌before◌, kind_of}
use Rattle.es_tree.specs.Walks.{all_nodes}
use Rattle.es_tree.specs.Words.{Text}
use Rattle.es_tree.specs.declared.ast_type.AstType.{AstType}
use Rattle.es_tree.specs.declared.ast_type.AstType.TheVariants.{BlockStatement, StaticBlock, FunctionDeclaration, FunctionExpression, FunctionBody, ArrowFunctionExpression, ClassDeclaration, ClassExpression, Identifier, ObjectPattern, PatternProperty, ArrayPattern, AssignmentPattern, RestElement, VariableDeclaration, ForStatement, ForInStatement, ForOfStatement, SwitchStatement, SwitchCase, CatchClause}
use Rattle.es_semantic.specs.Places.{is_inside, makes_scope}
use Rattle.es_semantic.specs.RolesOf.{reads, refers, role_at}
use Rattle.es_semantic.specs.declared.place.Binding.TheVariants.{CatchParameter}
use Rattle.es_semantic.specs.declared.place.Role.{Role}
use Rattle.es_semantic.specs.declared.place.Role.TheVariants.{Binds}
use Rattle.es_resolution.specs.Declarations.{Bound, declared, declared_among, declared_by, declared_in, is_asked, reaches_out}
use Rattle.es_resolution.specs.Resolved.{bound_by}
use Rattle.es_resolution.proofs.Declares.{bound-both}
use Rattle.es_resolution.proofs.Tests.{or-false}
use Rattle.es_statement_runs.specs.Names.{binding_word, cases_names, declarations_names, declared_as, is_word, lexical_in, lexical_names, own_names}
use Rattle.es_statement_steps.proofs.Below.{Below, BelowField, BelowTrees, by_parts, map_below, map_field, map_trees}
use Rattle.es_statement_steps.proofs.DeclaredNames.{Child, asked_lexical, bound_field, children_of, declaration_named, declared_called, declares_append, from_children, named_where, none_bound, none_field, node_bound, own_none, pattern_names, role_lexical, taken}
use Rattle.es_statement_steps.proofs.Stands.{is_case, is_declaration, is_inner, is_pattern, is_plain, standing, stands, takes, word_of}

module _ (x : Text) where
  -- WHAT DECLARES NOTHING in the scope around it, but by `var`

  -- a declaration by its word
  pub lexical_declaration : (r : Role) (l : Label) (fs : Fields) → all_nodes stands (node VariableDeclaration l fs) ≡ true →
      bound_by (declared false r (node VariableDeclaration l fs)) x ≡ (not (is_word (codes "var") (first_text l.texts)) && declares (declarations_names (binding_word (first_text l.texts)) fs) x)
  lexical_declaration r l fs h =
      let word = first_text l.texts in
      declaration_named x false r l fs (binding_word word) h ∙ ap (λ b. b && declares (declarations_names (binding_word word) fs) x) (asked_lexical x word)

  abbrev LexicalNone : Tree → Type 0
  LexicalNone t = (r : Role) → is_asked false r ≡ false → is_plain (kind_of t) (word_of t) ≡ true → all_nodes stands t ≡ true → bound_by (declared false r t) x ≡ false

  none_fields : (r : Role) (k : AstType) (l : Label) (fs : Fields) → Below (λ i. LexicalNone) fs → is_declaration k ≡ false → is_asked false r ≡ false → is_plain k (first_text l.texts) ≡ true → all_nodes stands (node k l fs) ≡ true → bound_by (declared false r (node k l fs)) x ≡ false
  none_fields r k l fs below n o p h =
      let s = standing k l fs h in
      node_bound x false r k l fs false (own_none false r k l o)
      (none_bound x false (reaches_out false k) (role_at r k l fs) fs
      (from_children k l fs (λ i. LexicalNone) (λ i t. reaches_out false k i ≡ true → bound_by (declared false (role_at r k l fs i) t) x ≡ false) s below
      (λ i t q c g. q (role_at r k l fs i) (role_lexical r k l fs (first_text l.texts) i s.class n p g o) (c.stands_there.plain (taken k (first_text l.texts) i (kind_of t) p g)) c.nodes)))

  lexical_none_at : (k : AstType) (l : Label) (fs : Fields) → Below (λ i. LexicalNone) fs → LexicalNone (node k l fs)
  lexical_none_at VariableDeclaration l fs below r o p h = lexical_declaration r l fs h ∙ ap (λ b. not b && declares (declarations_names (binding_word (first_text l.texts)) fs) x) p
  lexical_none_at k l fs below r o p h = none_fields r k l fs below refl o p h

  pub lexical_none : (r : Role) (t : Tree) → is_asked false r ≡ false → is_plain (kind_of t) (word_of t) ≡ true → all_nodes stands t ≡ true → bound_by (declared false r t) x ≡ false
  lexical_none r t = by_parts LexicalNone lexical_none_at t r

  -- A STATEMENT OF A LIST (8.2.4)

  -- what stands where only declarations may declare
  pub record Listed (t : Tree) : Type 0 where
    pub plain : is_declaration (kind_of t) ≡ false → is_plain (kind_of t) (word_of t) ≡ true
    pub nodes : all_nodes stands t ≡ true

  pub lexical_one : (r : Role) (t : Tree) → is_asked false r ≡ false → Listed t → bound_by (declared false r t) x ≡ declares (lexical_names t) x
  lexical_one r (node VariableDeclaration l fs) o h =
      let word = first_text l.texts in
      lexical_declaration r l fs h.nodes ∙ sym (named_where x (not (is_word (codes "var") word)) word fs)
  lexical_one r (node k l fs) o h = lexical_none r (node k l fs) o (h.plain refl) h.nodes

  pub lexical_list : (r : Role) (ts : Trees) → is_asked false r ≡ false → BelowTrees Listed ts → bound_by (declared_among false r ts) x ≡ declares (lexical_in ts) x
  lexical_list r empty o h = refl
  lexical_list r (t before ts) o h =
      bound-both (declared false r t) (declared_among false r ts) x (declares (lexical_names t) x) (declares (lexical_in ts) x) (lexical_one r t o h.0) (lexical_list r ts o h.1)
      ∙ sym (declares_append x (lexical_names t) (lexical_in ts))

  -- THE SCOPES OF NODES

  -- in a list or a head of such a node
  listed_child : (k : AstType) (i : ℕ) (t : Tree) → ((j : AstType) → takes k i j ≡ is_declaration j) → Child k i t → Listed t
  listed_child k i t e c = record { plain = λ n. c.stands_there.plain (e (kind_of t) ∙ n); nodes = c.nodes }

  rest_none : (k : AstType) (i : ℕ → ℕ) (counts : ℕ → Bool) (roles : ℕ → Role) (fs : Fields) → ((n : ℕ) (j : AstType) → takes k (i n) j ≡ false) → ((n : ℕ) → is_asked false (roles n) ≡ false) → Below (λ n t. Child k (i n) t) fs → bound_by (declared_in false counts roles fs) x ≡ false
  rest_none k i counts roles fs e o below = none_bound x false counts roles fs (map_below (λ n t. Child k (i n) t) (λ n t. counts n ≡ true → bound_by (declared false (roles n) t) x ≡ false) (λ n t c g. lexical_none (roles n) t (o n) (c.stands_there.plain (e n (kind_of t))) c.nodes) fs below)

  -- a field that counts, and the rest in which nothing is declared
  pub with_rest : (bs cs : List Bound) (a : Bool) → bound_by bs x ≡ a → bound_by cs x ≡ false → bound_by (bs ++ cs) x ≡ a
  with_rest bs cs a e d = bound-both bs cs x a false e d ∙ or-false a

  statement_list : (k : AstType) (i : ℕ) (ts : Trees) → ((j : AstType) → takes k i j ≡ is_declaration j) → BelowTrees (Child k i) ts → BelowTrees Listed ts
  statement_list k i ts e c = map_trees (Child k i) Listed (λ t d. listed_child k i t e d) ts c

  block_names : (r : Role) (l : Label) (fs : Fields) → all_nodes stands (node BlockStatement l fs) ≡ true → bound_by (declared_in false (is_inside BlockStatement) (role_at r BlockStatement l fs) fs) x ≡ declares (own_names BlockStatement fs) x
  block_names r l (statements ts then gs) h =
      let c = children_of BlockStatement l (statements ts then gs) (standing BlockStatement l (statements ts then gs) h) in
      with_rest (declared_among false reads ts) (declared_in false (λ i. true) (λ i. reads) gs) (declares (lexical_in ts) x)
      (lexical_list reads ts refl (statement_list BlockStatement zero ts (λ j. refl) c.0))
      (rest_none BlockStatement (λ n. suc n) (λ i. true) (λ i. reads) gs (λ n j. refl) (λ n. refl) c.1)
  block_names r l fs h = absurd (let s = standing BlockStatement l fs h in cc s.shape)

  for_names : (r : Role) (l : Label) (fs : Fields) → all_nodes stands (node ForStatement l fs) ≡ true → bound_by (declared_in false (is_inside ForStatement) (role_at r ForStatement l fs) fs) x ≡ declares (own_names ForStatement fs) x
  for_names r l (missing then gs) h =
      let c = children_of ForStatement l (missing then gs) (standing ForStatement l (missing then gs) h) in
      rest_none ForStatement (λ n. suc n) (λ i. true) (λ i. reads) gs (λ n j. refl) (λ n. refl) c.1
  for_names r l (one t then gs) h =
      let c = children_of ForStatement l (one t then gs) (standing ForStatement l (one t then gs) h) in
      with_rest (declared false reads t) (declared_in false (λ i. true) (λ i. reads) gs) (declares (lexical_names t) x)
      (lexical_one reads t refl (listed_child ForStatement zero t (λ j. refl) c.0)) (rest_none ForStatement (λ n. suc n) (λ i. true) (λ i. reads) gs (λ n j. refl) (λ n. refl) c.1)
  for_names r l fs h = absurd (let s = standing ForStatement l fs h in cc s.shape)

  for_in_names : (r : Role) (l : Label) (fs : Fields) → all_nodes stands (node ForInStatement l fs) ≡ true → bound_by (declared_in false (is_inside ForInStatement) (role_at r ForInStatement l fs) fs) x ≡ declares (own_names ForInStatement fs) x
  for_in_names r l (one t then gs) h =
      let c = children_of ForInStatement l (one t then gs) (standing ForInStatement l (one t then gs) h) in
      with_rest (declared false (refers false true) t) (declared_in false (λ i. true) (λ i. reads) gs) (declares (lexical_names t) x)
      (lexical_one (refers false true) t refl (listed_child ForInStatement zero t (λ j. refl) c.0)) (rest_none ForInStatement (λ n. suc n) (λ i. true) (λ i. reads) gs (λ n j. refl) (λ n. refl) c.1)
  for_in_names r l fs h = absurd (let s = standing ForInStatement l fs h in cc s.shape)

  for_of_names : (r : Role) (l : Label) (fs : Fields) → all_nodes stands (node ForOfStatement l fs) ≡ true → bound_by (declared_in false (is_inside ForOfStatement) (role_at r ForOfStatement l fs) fs) x ≡ declares (own_names ForOfStatement fs) x
  for_of_names r l (one t then gs) h =
      let c = children_of ForOfStatement l (one t then gs) (standing ForOfStatement l (one t then gs) h) in
      with_rest (declared false (refers false true) t) (declared_in false (λ i. true) (λ i. reads) gs) (declares (lexical_names t) x)
      (lexical_one (refers false true) t refl (listed_child ForOfStatement zero t (λ j. refl) c.0)) (rest_none ForOfStatement (λ n. suc n) (λ i. true) (λ i. reads) gs (λ n j. refl) (λ n. refl) c.1)
  for_of_names r l fs h = absurd (let s = standing ForOfStatement l fs h in cc s.shape)

  -- `switch` (14.12.2)

  field_none : (k : AstType) (i : ℕ) (f : Field) → ((j : AstType) → takes k i j ≡ false) → BelowField (Child k i) f → bound_by (declared_by false reads f) x ≡ false
  field_none k i f e c = bound_field x false reads (λ t. false) f (map_field (Child k i) (λ t. bound_by (declared false reads t) x ≡ false) (λ t d. lexical_none reads t refl (d.stands_there.plain (e (kind_of t))) d.nodes) f c) ∙ none_field f

  case_names : (r : Role) (l : Label) (f : Field) (ts : Trees) (gs : Fields) → all_nodes stands (node SwitchCase l (f then (statements ts then gs))) ≡ true → bound_by (declared false r (node SwitchCase l (f then (statements ts then gs)))) x ≡ declares (lexical_in ts) x
  case_names r l f ts gs h =
      let fs = f then (statements ts then gs) in
      let c = children_of SwitchCase l fs (standing SwitchCase l fs h) in
      bound-both (declared_by false reads f) (declared_among false reads ts ++ declared_in false (λ i. true) (λ i. reads) gs) x false (declares (lexical_in ts) x)
      (field_none SwitchCase zero f (λ j. refl) c.0)
      (with_rest (declared_among false reads ts) (declared_in false (λ i. true) (λ i. reads) gs) (declares (lexical_in ts) x) (lexical_list reads ts refl (statement_list SwitchCase 1 ts (λ j. refl) c.1.0))
      (rest_none SwitchCase (λ n. suc (suc n)) (λ i. true) (λ i. reads) gs (λ n j. refl) (λ n. refl) c.1.1))

  cases_list : (r : Role) (cs : Trees) → BelowTrees (λ t. (is_case (kind_of t) ≡ true) × (all_nodes stands t ≡ true)) cs → bound_by (declared_among false r cs) x ≡ declares (cases_names cs) x
  cases_list r empty h = refl
  cases_list r (node SwitchCase l (f then (statements ts then gs)) before cs) h =
      bound-both (declared false r (node SwitchCase l (f then (statements ts then gs)))) (declared_among false r cs) x (declares (lexical_in ts) x) (declares (cases_names cs) x)
      (case_names r l f ts gs h.0.1) (cases_list r cs h.1) ∙ sym (declares_append x (lexical_in ts) (cases_names cs))
  cases_list r (node SwitchCase l fs before cs) h = absurd (let s = standing SwitchCase l fs h.0.1 in cc s.shape)
  cases_list r (node k l fs before cs) h = absurd (cc h.0.0)

  switch_names : (r : Role) (l : Label) (fs : Fields) → all_nodes stands (node SwitchStatement l fs) ≡ true → bound_by (declared_in false (is_inside SwitchStatement) (role_at r SwitchStatement l fs) fs) x ≡ declares (own_names SwitchStatement fs) x
  switch_names r l (one t then (many cs then gs)) h =
      let fs = one t then (many cs then gs) in
      let c = children_of SwitchStatement l fs (standing SwitchStatement l fs h) in
      with_rest (declared_among false reads cs) (declared_in false (λ i. true) (λ i. reads) gs) (declares (cases_names cs) x)
      (cases_list reads cs (map_trees (Child SwitchStatement 1) (λ t. (is_case (kind_of t) ≡ true) × (all_nodes stands t ≡ true)) (λ t d. (d.stands_there.part, d.nodes)) cs c.1.0))
      (rest_none SwitchStatement (λ n. suc (suc n)) (λ i. true) (λ i. reads) gs (λ n j. refl) (λ n. refl) c.1.1)
  switch_names r l fs h = absurd (let s = standing SwitchStatement l fs h in cc s.shape)

  -- `catch` (14.15)

  pattern_inner : (k : AstType) → is_pattern k ≡ true → is_inner k ≡ true
  pattern_inner Identifier e = refl
  pattern_inner ObjectPattern e = refl
  pattern_inner PatternProperty e = refl
  pattern_inner ArrayPattern e = refl
  pattern_inner AssignmentPattern e = refl
  pattern_inner RestElement e = refl
  pattern_inner _ e = absurd (cc e)

  catch_names : (r : Role) (l : Label) (fs : Fields) → all_nodes stands (node CatchClause l fs) ≡ true → bound_by (declared_in false (is_inside CatchClause) (role_at r CatchClause l fs) fs) x ≡ declares (own_names CatchClause fs) x
  catch_names r l (missing then gs) h =
      let c = children_of CatchClause l (missing then gs) (standing CatchClause l (missing then gs) h) in
      rest_none CatchClause (λ n. suc n) (λ i. true) (λ i. reads) gs (λ n j. refl) (λ n. refl) c.1
  catch_names r l (one t then gs) h =
      let c = children_of CatchClause l (one t then gs) (standing CatchClause l (one t then gs) h) in
      let p = c.0.stands_there.pattern refl in
      with_rest (declared false (Binds CatchParameter) t) (declared_in false (λ i. true) (λ i. reads) gs) (declares (declared_as (codes "let") (bound_identifiers t)) x)
      (pattern_names x false (Binds CatchParameter) t (pattern_inner (kind_of t) p) (λ o. p) c.0.nodes ∙ sym (declared_called x (codes "let") (bound_identifiers t)))
      (rest_none CatchClause (λ n. suc n) (λ i. true) (λ i. reads) gs (λ n j. refl) (λ n. refl) c.1)
  catch_names r l fs h = absurd (let s = standing CatchClause l fs h in cc s.shape)

  -- THE SCOPE OF A NODE has the names that the machine's has
  pub scope_names : (r : Role) (k : AstType) (l : Label) (fs : Fields) → makes_scope k ≡ true → all_nodes stands (node k l fs) ≡ true → bound_by (declared_in false (is_inside k) (role_at r k l fs) fs) x ≡ declares (own_names k fs) x
  scope_names r BlockStatement l fs e h = block_names r l fs h
  scope_names r ForStatement l fs e h = for_names r l fs h
  scope_names r ForInStatement l fs e h = for_in_names r l fs h
  scope_names r ForOfStatement l fs e h = for_of_names r l fs h
  scope_names r SwitchStatement l fs e h = switch_names r l fs h
  scope_names r CatchClause l fs e h = catch_names r l fs h
  scope_names r StaticBlock l fs e h = absurd (let s = standing StaticBlock l fs h in cc s.class)
  scope_names r FunctionDeclaration l fs e h = absurd (let s = standing FunctionDeclaration l fs h in cc s.class)
  scope_names r FunctionExpression l fs e h = absurd (let s = standing FunctionExpression l fs h in cc s.class)
  scope_names r FunctionBody l fs e h = absurd (let s = standing FunctionBody l fs h in cc s.class)
  scope_names r ArrowFunctionExpression l fs e h = absurd (let s = standing ArrowFunctionExpression l fs h in cc s.class)
  scope_names r ClassDeclaration l fs e h = absurd (let s = standing ClassDeclaration l fs h in cc s.class)
  scope_names r ClassExpression l fs e h = absurd (let s = standing ClassExpression l fs h in cc s.class)
  scope_names r _ l fs e h = absurd (cc e)
