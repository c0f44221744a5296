-- A core program that has form is shaped, and what it declares is among its names.
use Rattle.std.proofs.Common.{◌≡◌, suc, refl, subst, sym, List, [], ◌∷◌, ◌++◌}
use Rattle.std.proofs.lemmas.Bool.{and_from}
use Rattle.std.specs.Prelude.{Bool, true, false, ◌&&◌, ◌||◌, bytes_eq, codes, if◌then◌else◌, not}
use Rattle.es_tree.specs.Words.{Text}
use Rattle.es_tree.specs.Bare.{bare, bare_label, bare_fields, bare_field, bare_trees}
use Rattle.es_tree.specs.Names.{first_text, names_of, names_if, names_in_fields, names_in_field, names_in_trees, is_name_place}
use Rattle.es_tree.specs.Fresh.{is_among}
use Rattle.es_tree.specs.Scopes.{Declared, declared_of, declared_in_body, declared_by, declared_in, declared_names, name_in, declares}
use Rattle.es_tree.specs.Walks.{all_nodes, all_in_fields, all_in_field, all_in_trees}
use Rattle.es_tree.specs.Core.{is_core_node, IsCoreProgram}
use Rattle.es_tree.specs.HasForm.{has_form, is_of_sort, fields_form, trees_form, sort_before_trees}
use Rattle.es_tree.specs.declared.table.Entry.{Entry}
use Rattle.es_tree.specs.Attributes.{child_entries}
use Rattle.es_tree.specs.Tree.{Tree, node, Label, Fields, done, ◌then◌, Field, missing, one, many, statements, Trees, empty, ◌before◌}
use Rattle.es_tree.specs.declared.ast_type.AstType.{AstType}
use Rattle.es_tree.specs.declared.ast_type.AstType.TheVariants.{Program, VariableDeclaration, VariableDeclarator, Identifier, ObjectPattern, ArrayPattern}
use Rattle.es_tree.specs.declared.table.Sort.{Sort}
use Rattle.es_tree.specs.declared.table.Sort.TheVariants.{Program as s-Program, Statement as s-Statement, Directive as s-Directive, VariableDeclarator as s-VariableDeclarator, Binding as s-Binding}
use Rattle.es_tree.proofs.NodeForm.{node_form}
use Rattle.es_runs.specs.Core.{is_free}
use Rattle.es_runs.specs.Core.Binding.{changeable, constant}
use Rattle.es_runs.specs.Runs.{binding_of, scope_of, is_declared}
use Rattle.es_runs.proofs.Temporary.{bytes_eq-flip}
use Rattle.es_runs.proofs.Named.{and_left, and_right, among_first, among_second}
use Rattle.es_runs.proofs.Declarations.{is_name, is_declarator, binds_name, declarators, declares_names, statement, body_of, program_fields, is_shaped, names_field, program_parts}

abbrev rest_of : List Entry → List Entry
rest_of [] = []
rest_of (e ∷ es) = es

same_sort : (s : Sort) (ts : Trees) → sort_before_trees s s ts ≡ s
same_sort s empty = refl
same_sort s (t before ts) = refl

-- FROM FORM TO SHAPE

name_kind : (k : AstType) (l : Label) (fs : Fields) → is_of_sort s-Binding k ≡ true → is_core_node k l fs ≡ true → is_name k ≡ true
name_kind Identifier l fs h c = refl
name_kind ObjectPattern l fs h c = absurd (cc c)
name_kind ArrayPattern l fs h c = absurd (cc c)
name_kind _ l fs h c = absurd (cc h)

name_shaped : (t : Tree) → has_form s-Binding t ≡ true → all_nodes is_core_node t ≡ true → names_field (one (bare t)) ≡ true
name_shaped (node k l fs) h c = name_kind k l fs (node_form s-Binding k l fs h).sort (and_left (is_core_node k l fs) (all_in_fields is_core_node fs) c)

declarator_fields : (l : Label) (fs : Fields) → fields_form VariableDeclarator l (child_entries VariableDeclarator) fs ≡ true → all_in_fields is_core_node fs ≡ true → binds_name (bare_fields fs) ≡ true
declarator_fields l (one t then fs) h c = name_shaped t (and_left (has_form s-Binding t) (fields_form VariableDeclarator l (rest_of (child_entries VariableDeclarator)) fs) h) (and_left (all_nodes is_core_node t) (all_in_fields is_core_node fs) c)
declarator_fields l done h c = absurd (cc h)
declarator_fields l (missing then fs) h c = absurd (cc h)
declarator_fields l (many ts then fs) h c = absurd (cc h)
declarator_fields l (statements ts then fs) h c = absurd (cc h)

declarator_kind : (k : AstType) → is_of_sort s-VariableDeclarator k ≡ true → VariableDeclarator ≡ k
declarator_kind VariableDeclarator h = refl
declarator_kind _ h = absurd (cc h)

declarator_shaped : (k : AstType) (l : Label) (fs : Fields) → has_form s-VariableDeclarator (node k l fs) ≡ true → all_nodes is_core_node (node k l fs) ≡ true → (is_declarator k && binds_name (bare_fields fs)) ≡ true
declarator_shaped k l fs h c =
    let P : AstType → Type 0 = λ j. has_form s-VariableDeclarator (node j l fs) ≡ true → all_nodes is_core_node (node j l fs) ≡ true → (is_declarator j && binds_name (bare_fields fs)) ≡ true in
    subst P (declarator_kind k (node_form s-VariableDeclarator k l fs h).sort) (λ g d. declarator_fields l fs (node_form s-VariableDeclarator VariableDeclarator l fs g).children d) h c

declarators_shaped : (ts : Trees) → trees_form s-VariableDeclarator s-VariableDeclarator ts ≡ true → all_in_trees is_core_node ts ≡ true → declarators (bare_trees ts) ≡ true
declarators_shaped empty h c = refl
declarators_shaped (node k l fs before ts) h c =
    let k' : (has_form s-VariableDeclarator (node k l fs) && trees_form s-VariableDeclarator s-VariableDeclarator ts) ≡ true = rw (same_sort s-VariableDeclarator ts) at h in
    and_from (is_declarator k && binds_name (bare_fields fs)) (declarators (bare_trees ts))
    (declarator_shaped k l fs (and_left (has_form s-VariableDeclarator (node k l fs)) (trees_form s-VariableDeclarator s-VariableDeclarator ts) k') (and_left (all_nodes is_core_node (node k l fs)) (all_in_trees is_core_node ts) c))
    (declarators_shaped ts (and_right (has_form s-VariableDeclarator (node k l fs)) (trees_form s-VariableDeclarator s-VariableDeclarator ts) k') (and_right (all_nodes is_core_node (node k l fs)) (all_in_trees is_core_node ts) c))

declaration_fields : (l : Label) (fs : Fields) → fields_form VariableDeclaration l (child_entries VariableDeclaration) fs ≡ true → all_in_fields is_core_node fs ≡ true → declares_names (bare_fields fs) ≡ true
declaration_fields l (many (t before ts) then fs) h c = declarators_shaped (t before ts) (and_left (trees_form s-VariableDeclarator s-VariableDeclarator (t before ts)) (fields_form VariableDeclaration l (rest_of (child_entries VariableDeclaration)) fs) h) (and_left (all_in_trees is_core_node (t before ts)) (all_in_fields is_core_node fs) c)
declaration_fields l (many empty then fs) h c = absurd (cc h)
declaration_fields l done h c = absurd (cc h)
declaration_fields l (missing then fs) h c = absurd (cc h)
declaration_fields l (one t then fs) h c = absurd (cc h)
declaration_fields l (statements ts then fs) h c = absurd (cc h)

statement_shaped : (k : AstType) (l : Label) (fs : Fields) → has_form s-Statement (node k l fs) ≡ true → all_nodes is_core_node (node k l fs) ≡ true → statement (bare (node k l fs)) ≡ true
statement_shaped VariableDeclaration l fs h c = declaration_fields l fs (node_form s-Statement VariableDeclaration l fs h).children (and_right (is_core_node VariableDeclaration l fs) (all_in_fields is_core_node fs) c)
statement_shaped _ l fs h c = refl

body_shaped : (ts : Trees) → trees_form s-Statement s-Statement ts ≡ true → all_in_trees is_core_node ts ≡ true → body_of (bare_trees ts) ≡ true
body_shaped empty h c = refl
body_shaped (node k l fs before ts) h c =
    let k' : (has_form s-Statement (node k l fs) && trees_form s-Statement s-Statement ts) ≡ true = rw (same_sort s-Statement ts) at h in
    and_from (statement (bare (node k l fs))) (body_of (bare_trees ts))
    (statement_shaped k l fs (and_left (has_form s-Statement (node k l fs)) (trees_form s-Statement s-Statement ts) k') (and_left (all_nodes is_core_node (node k l fs)) (all_in_trees is_core_node ts) c))
    (body_shaped ts (and_right (has_form s-Statement (node k l fs)) (trees_form s-Statement s-Statement ts) k') (and_right (all_nodes is_core_node (node k l fs)) (all_in_trees is_core_node ts) c))

program_shaped : (l : Label) (fs : Fields) → fields_form Program l (child_entries Program) fs ≡ true → all_in_fields is_core_node fs ≡ true → program_fields (bare_fields fs) ≡ true
program_shaped l (many ds then (statements body then done)) h c =
    let form = and_left (trees_form s-Statement s-Statement body) true (and_right (trees_form s-Directive s-Directive ds) (trees_form s-Statement s-Statement body && true) h) in
    let core = and_left (all_in_trees is_core_node body) true (and_right (all_in_trees is_core_node ds) (all_in_trees is_core_node body && true) c) in
    and_from (body_of (bare_trees body)) true (body_shaped body form core) refl
program_shaped l (many ds then (statements body then (g then fs))) h c = absurd (cc (and_right (trees_form s-Statement s-Statement body) false (and_right (trees_form s-Directive s-Directive ds) (trees_form s-Statement s-Statement body && false) h)))
program_shaped l (many ds then done) h c = absurd (cc (and_right (trees_form s-Directive s-Directive ds) false h))
program_shaped l (many ds then (missing then fs)) h c = absurd (cc (and_right (trees_form s-Directive s-Directive ds) false h))
program_shaped l (many ds then (one t then fs)) h c = absurd (cc (and_right (trees_form s-Directive s-Directive ds) false h))
program_shaped l (many ds then (many ts then fs)) h c = absurd (cc (and_right (trees_form s-Directive s-Directive ds) false h))
program_shaped l done h c = absurd (cc h)
program_shaped l (missing then fs) h c = absurd (cc h)
program_shaped l (one t then fs) h c = absurd (cc h)
program_shaped l (statements ts then fs) h c = absurd (cc h)

pub program_kind : (k : AstType) → is_of_sort s-Program k ≡ true → Program ≡ k
program_kind Program h = refl
program_kind _ h = absurd (cc h)

pub core_shaped : (p : Tree) → IsCoreProgram p → is_shaped (bare p) ≡ true
core_shaped (node k l fs) is =
    let P : AstType → Type 0 = λ j. has_form s-Program (node j l fs) ≡ true → all_nodes is_core_node (node j l fs) ≡ true → is_shaped (bare (node j l fs)) ≡ true in
    subst P (program_kind k (node_form s-Program k l fs is.form).sort) (λ h c. program_shaped l fs (node_form s-Program Program l fs h).children c) is.form is.core

-- A BARE CORE TREE IS CORE

core_label : (k : AstType) (l : Label) (fs gs : Fields) → is_core_node k (bare_label l) gs ≡ is_core_node k l fs
core_label VariableDeclaration l fs gs = refl
core_label _ l fs gs = refl

mutual
  pub core-bare : (t : Tree) → all_nodes is_core_node (bare t) ≡ all_nodes is_core_node t
  core-bare (node k l fs) = rw (core_label k l fs (bare_fields fs), core-bare-fields fs)

  core-bare-fields : (fs : Fields) → all_in_fields is_core_node (bare_fields fs) ≡ all_in_fields is_core_node fs
  core-bare-fields done = refl
  core-bare-fields (f then fs) = rw (core-bare-field f, core-bare-fields fs)

  core-bare-field : (f : Field) → all_in_field is_core_node (bare_field f) ≡ all_in_field is_core_node f
  core-bare-field missing = refl
  core-bare-field (one t) = core-bare t
  core-bare-field (many ts) = core-bare-trees ts
  core-bare-field (statements ts) = core-bare-trees ts

  core-bare-trees : (ts : Trees) → all_in_trees is_core_node (bare_trees ts) ≡ all_in_trees is_core_node ts
  core-bare-trees empty = refl
  core-bare-trees (t before ts) = rw (core-bare t, core-bare-trees ts)

-- DECLARED NAMES ARE NAMES

or_both : (a b : Bool) → a ≡ false → b ≡ false → (a || b) ≡ false
or_both a b e d = rw (e, d)

pub declares-append : (ds es : List Declared) (y : Text) → declares (ds ++ es) y ≡ (declares ds y || declares es y)
declares-append [] es y = refl
declares-append (d ∷ ds) es y = rw (declares-append ds es y) (or-assoc (bytes_eq d.name y) (declares ds y) (declares es y))
  where
    or-assoc : (a b c : Bool) → (a || (b || c)) ≡ ((a || b) || c)
    or-assoc true b c = refl
    or-assoc false b c = refl

first_or : (a b : Bool) → (a || b) ≡ false → a ≡ false
first_or true b e = absurd (cc e)
first_or false b e = refl

name_used : (y : Text) (f : Field) (fs : Fields) → names_field f ≡ true → is_among (names_in_field true f) y ≡ false → bytes_eq (name_in (f then fs)) y ≡ false
name_used y (one (node Identifier l gs)) fs h e = first_or (bytes_eq (first_text l.texts) y) (is_among (names_in_fields (is_name_place Identifier l) gs) y) e
name_used y (one (node _ l gs)) fs h e = absurd (cc h)
name_used y missing fs h e = absurd (cc h)
name_used y (many ts) fs h e = absurd (cc h)
name_used y (statements ts) fs h e = absurd (cc h)

declarator_used : (y : Text) (l : Label) (fs : Fields) → binds_name fs ≡ true → is_among (names_if true (node VariableDeclarator l fs)) y ≡ false → bytes_eq (name_in fs) y ≡ false
declarator_used y l (f then fs) h e = name_used y f fs h (among_first (names_in_field true f) (names_in_fields (λ n. is_name_place VariableDeclarator l (suc n)) fs) y e)
declarator_used y l done h e = absurd (cc h)

declarators_used : (y kind : Text) (ts : Trees) → declarators ts ≡ true → is_among (names_in_trees ts) y ≡ false → declares (declared_names kind ts) y ≡ false
declarators_used y kind empty h e = refl
declarators_used y kind (node VariableDeclarator l fs before ts) h e =
    or_both (bytes_eq (name_in fs) y) (declares (declared_names kind ts) y)
    (declarator_used y l fs (and_left (binds_name fs) (declarators ts) h) (among_first (names_if true (node VariableDeclarator l fs)) (names_in_trees ts) y e))
    (declarators_used y kind ts (and_right (binds_name fs) (declarators ts) h) (among_second (names_if true (node VariableDeclarator l fs)) (names_in_trees ts) y e))
declarators_used y kind (node _ l fs before ts) h e = absurd (cc h)

declaration_used : (y kind : Text) (l : Label) (fs : Fields) → declares_names fs ≡ true → is_among (names_in_fields (is_name_place VariableDeclaration l) fs) y ≡ false → declares (declared_in VariableDeclaration kind fs) y ≡ false
declaration_used y kind l (many ts then fs) h e = declarators_used y kind ts h (among_first (names_in_trees ts) (names_in_fields (λ n. is_name_place VariableDeclaration l (suc n)) fs) y e)
declaration_used y kind l (missing then fs) h e = absurd (cc h)
declaration_used y kind l (one t then fs) h e = absurd (cc h)
declaration_used y kind l (statements ts then fs) h e = absurd (cc h)
declaration_used y kind l done h e = absurd (cc h)

statement_used : (y : Text) (t : Tree) → statement t ≡ true → is_among (names_if true t) y ≡ false → declares (declared_by t) y ≡ false
statement_used y (node VariableDeclaration l fs) h e = declaration_used y (first_text l.texts) l fs h e
statement_used y (node _ l fs) h e = refl

body_used : (y : Text) (ts : Trees) → body_of ts ≡ true → is_among (names_in_trees ts) y ≡ false → declares (declared_in_body ts) y ≡ false
body_used y empty h e = refl
body_used y (t before ts) h e =
    rw (declares-append (declared_by t) (declared_in_body ts) y)
    (or_both (declares (declared_by t) y) (declares (declared_in_body ts) y)
    (statement_used y t (and_left (statement t) (body_of ts) h) (among_first (names_if true t) (names_in_trees ts) y e))
    (body_used y ts (and_right (statement t) (body_of ts) h) (among_second (names_if true t) (names_in_trees ts) y e)))

-- a name that doesn't stand in the program isn't declared by it
pub declared_used : (y : Text) (t : Tree) → is_shaped t ≡ true → is_among (names_of t) y ≡ false → declares (declared_of t) y ≡ false
declared_used y t h e =
    let parts = program_parts t h in
    let P : Tree → Type 0 = λ u. is_shaped u ≡ true → is_among (names_of u) y ≡ false → declares (declared_of u) y ≡ false in
    subst P (sym parts.whole) (λ g d. body_used y parts.body (and_left (body_of parts.body) true g) (among_first (names_in_trees parts.body) [] y (among_second (names_in_trees parts.directives) (names_in_trees parts.body ++ []) y d))) h e

-- BOUND NAMES

is_free_binding : (k : Text) → is_free (binding_of k) ≡ false
is_free_binding k = at (bytes_eq k (codes "const"))
  where
    at : (b : Bool) → is_free (if b then constant else changeable) ≡ false
    at true = refl
    at false = refl

-- a name is bound where it is declared
pub is_declared-declares : (ds : List Declared) (x : Text) → is_declared ds x ≡ declares ds x
is_declared-declares [] x = refl
is_declared-declares (d ∷ ds) x = at (is_declared-declares ds x) (bytes_eq d.name x) (bytes_eq x d.name) (bytes_eq-flip x d.name)
  where
    at : is_declared ds x ≡ declares ds x → (b c : Bool) → c ≡ b → not (is_free (if c then binding_of d.kind else scope_of ds x)) ≡ (b || declares ds x)
    at later true true e = rw (is_free_binding d.kind)
    at later false false e = later
    at later true false e = absurd (cc e)
    at later false true e = absurd (cc e)
