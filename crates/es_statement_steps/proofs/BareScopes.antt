-- Ids and marks are in nothing that scopes declare.
use Rattle.std.proofs.Common.{◌≡◌, refl, ap, Bool, true, false, List, [], ◌∷◌, ◌++◌}
use Rattle.std.specs.Prelude.{◌||◌, codes, not}
use Rattle.es_tree.specs.Bare.{bare, bare_field, bare_fields, bare_trees}
use Rattle.es_tree.specs.BoundNames.{bound_identifiers, bound_in_field, bound_in_fields, bound_in_first, bound_in_second, bound_in_trees}
use Rattle.es_tree.specs.Names.{first_text}
use Rattle.es_tree.specs.Scopes.{Declared, own_text}
use Rattle.es_tree.specs.Tree.{Tree, node, Fields, done, ◌then◌, Field, missing, one, many, statements, Trees, empty, ◌before◌}
use Rattle.es_tree.specs.Words.{Text}
use Rattle.es_tree.specs.declared.ast_type.AstType.{AstType}
use Rattle.es_tree.specs.declared.ast_type.AstType.TheVariants.{ArrayPattern, AssignmentPattern, BlockStatement, CatchClause, ExportNamedDeclaration, ForInStatement, ForOfStatement, ForStatement, Identifier, ImportDeclaration, ImportDefaultSpecifier, ImportNamespaceSpecifier, ImportSpecifier, LabeledStatement, ObjectPattern, PatternProperty, Program, RestElement, SwitchStatement, VariableDeclaration}
use Rattle.es_statement_runs.specs.Kinds.{label_in}
use Rattle.es_statement_runs.specs.Names.{binding_word, cases_names, cases_use, declarations_names, declarator_bound, declarators_names, declared_as, declared_at_top, first_bound, import_names, is_word, last_name, lexical_in, lexical_names, names_where, own_names, own_use, top_in, top_names, tops, using_here, using_in, var_names, var_names_all, var_names_at, var_names_in}

-- PATTERNS

declared-append : (word : Text) (xs ys : List Tree) → declared_as word (xs ++ ys) ≡ declared_as word xs ++ declared_as word ys
declared-append word [] ys = refl
declared-append word (x ∷ xs) ys = ap (λ (ds : List Declared). record { name = own_text x; kind = word } ∷ ds) (declared-append word xs ys)

both-declared : (word : Text) (xs ys us vs : List Tree) → declared_as word us ≡ declared_as word xs → declared_as word vs ≡ declared_as word ys → declared_as word (us ++ vs) ≡ declared_as word (xs ++ ys)
both-declared word xs ys us vs e d = rw (declared-append word us vs, declared-append word xs ys, e, d) refl

module _ (word : Text) where
  mutual
    bound-bare : (t : Tree) → declared_as word (bound_identifiers (bare t)) ≡ declared_as word (bound_identifiers t)
    bound-bare (node Identifier l fs) = refl
    bound-bare (node ObjectPattern l fs) = first-bare fs
    bound-bare (node PatternProperty l fs) = second-bare fs
    bound-bare (node ArrayPattern l fs) = in-bare fs
    bound-bare (node AssignmentPattern l fs) = first-bare fs
    bound-bare (node RestElement l fs) = first-bare fs
    bound-bare (node _ l fs) = refl

    first-bare : (fs : Fields) → declared_as word (bound_in_first (bare_fields fs)) ≡ declared_as word (bound_in_first fs)
    first-bare done = refl
    first-bare (f then fs) = by-bare f

    second-bare : (fs : Fields) → declared_as word (bound_in_second (bare_fields fs)) ≡ declared_as word (bound_in_second fs)
    second-bare done = refl
    second-bare (f then fs) = first-bare fs

    in-bare : (fs : Fields) → declared_as word (bound_in_fields (bare_fields fs)) ≡ declared_as word (bound_in_fields fs)
    in-bare done = refl
    in-bare (f then fs) = both-declared word (bound_in_field f) (bound_in_fields fs) (bound_in_field (bare_field f)) (bound_in_fields (bare_fields fs)) (by-bare f) (in-bare fs)

    by-bare : (f : Field) → declared_as word (bound_in_field (bare_field f)) ≡ declared_as word (bound_in_field f)
    by-bare missing = refl
    by-bare (one t) = bound-bare t
    by-bare (many ts) = all-bare ts
    by-bare (statements ts) = all-bare ts

    all-bare : (ts : Trees) → declared_as word (bound_in_trees (bare_trees ts)) ≡ declared_as word (bound_in_trees ts)
    all-bare empty = refl
    all-bare (t before ts) = both-declared word (bound_identifiers t) (bound_in_trees ts) (bound_identifiers (bare t)) (bound_in_trees (bare_trees ts)) (bound-bare t) (all-bare ts)

  first-bound-bare : (fs : Fields) → declared_as word (first_bound (bare_fields fs)) ≡ declared_as word (first_bound fs)
  first-bound-bare done = refl
  first-bound-bare (missing then fs) = refl
  first-bound-bare (one t then fs) = bound-bare t
  first-bound-bare (many ts then fs) = refl
  first-bound-bare (statements ts then fs) = refl

  -- DECLARATIONS

  declarator-bare : (d : Tree) → declared_as word (declarator_bound (bare d)) ≡ declared_as word (declarator_bound d)
  declarator-bare (node k l fs) = first-bound-bare fs

  declarators-bare : (ds : Trees) → declarators_names word (bare_trees ds) ≡ declarators_names word ds
  declarators-bare empty = refl
  declarators-bare (d before ds) = λ i. declarator-bare d i ++ declarators-bare ds i

  declarations-bare : (fs : Fields) → declarations_names word (bare_fields fs) ≡ declarations_names word fs
  declarations-bare done = refl
  declarations-bare (missing then fs) = refl
  declarations-bare (one t then fs) = refl
  declarations-bare (many ds then fs) = declarators-bare ds
  declarations-bare (statements ts then fs) = refl

names-where-bare : (b : Bool) (word : Text) (fs : Fields) → names_where b word (bare_fields fs) ≡ names_where b word fs
names-where-bare true word fs = declarations-bare (binding_word word) fs
names-where-bare false word fs = refl

mutual
  var-names-bare : (t : Tree) → var_names (bare t) ≡ var_names t
  var-names-bare (node VariableDeclaration l fs) = names-where-bare (is_word (codes "var") (first_text l.texts)) (first_text l.texts) fs
  var-names-bare (node _ l fs) = var-names-in-bare fs

  var-names-in-bare : (fs : Fields) → var_names_in (bare_fields fs) ≡ var_names_in fs
  var-names-in-bare done = refl
  var-names-in-bare (f then fs) = λ i. var-names-at-bare f i ++ var-names-in-bare fs i

  var-names-at-bare : (f : Field) → var_names_at (bare_field f) ≡ var_names_at f
  var-names-at-bare missing = refl
  var-names-at-bare (one t) = var-names-bare t
  var-names-at-bare (many ts) = var-names-all-bare ts
  var-names-at-bare (statements ts) = var-names-all-bare ts

  var-names-all-bare : (ts : Trees) → var_names_all (bare_trees ts) ≡ var_names_all ts
  var-names-all-bare empty = refl
  var-names-all-bare (t before ts) = λ i. var-names-bare t i ++ var-names-all-bare ts i

lexical-bare : (t : Tree) → lexical_names (bare t) ≡ lexical_names t
lexical-bare (node VariableDeclaration l fs) = names-where-bare (not (is_word (codes "var") (first_text l.texts))) (first_text l.texts) fs
lexical-bare (node _ l fs) = refl

lexical-in-bare : (ts : Trees) → lexical_in (bare_trees ts) ≡ lexical_in ts
lexical-in-bare empty = refl
lexical-in-bare (t before ts) = λ i. lexical-bare t i ++ lexical-in-bare ts i

using-here-bare : (t : Tree) → using_here (bare t) ≡ using_here t
using-here-bare (node VariableDeclaration l fs) = refl
using-here-bare (node _ l fs) = refl

using-bare : (ts : Trees) → using_in (bare_trees ts) ≡ using_in ts
using-bare empty = refl
using-bare (t before ts) = λ i. using-here-bare t i || using-bare ts i

-- SCOPES

cases-names-bare : (cs : Trees) → cases_names (bare_trees cs) ≡ cases_names cs
cases-names-bare empty = refl
cases-names-bare (node k l done before cs) = cases-names-bare cs
cases-names-bare (node k l (f then done) before cs) = cases-names-bare cs
cases-names-bare (node k l (f then (missing then fs)) before cs) = cases-names-bare cs
cases-names-bare (node k l (f then (one t then fs)) before cs) = cases-names-bare cs
cases-names-bare (node k l (f then (many ts then fs)) before cs) = cases-names-bare cs
cases-names-bare (node k l (f then (statements ts then fs)) before cs) = λ i. lexical-in-bare ts i ++ cases-names-bare cs i

cases-use-bare : (cs : Trees) → cases_use (bare_trees cs) ≡ cases_use cs
cases-use-bare empty = refl
cases-use-bare (node k l done before cs) = cases-use-bare cs
cases-use-bare (node k l (f then done) before cs) = cases-use-bare cs
cases-use-bare (node k l (f then (missing then fs)) before cs) = cases-use-bare cs
cases-use-bare (node k l (f then (one t then fs)) before cs) = cases-use-bare cs
cases-use-bare (node k l (f then (many ts then fs)) before cs) = cases-use-bare cs
cases-use-bare (node k l (f then (statements ts then fs)) before cs) = λ i. using-bare ts i || cases-use-bare cs i

last-bare : (fs : Fields) → last_name (bare_fields fs) ≡ last_name fs
last-bare done = refl
last-bare (missing then fs) = last-bare fs
last-bare (one (node k l gs) then done) = refl
last-bare (one (node k l gs) then (f then fs)) = last-bare (f then fs)
last-bare (many ts then fs) = last-bare fs
last-bare (statements ts then fs) = last-bare fs

first-lexical-bare : (fs : Fields) → own_names ForStatement (bare_fields fs) ≡ own_names ForStatement fs
first-lexical-bare done = refl
first-lexical-bare (missing then fs) = refl
first-lexical-bare (one t then fs) = lexical-bare t
first-lexical-bare (many ts then fs) = refl
first-lexical-bare (statements ts then fs) = refl

pub own-names-bare : (k : AstType) (fs : Fields) → own_names k (bare_fields fs) ≡ own_names k fs
own-names-bare BlockStatement done = refl
own-names-bare BlockStatement (missing then fs) = refl
own-names-bare BlockStatement (one t then fs) = refl
own-names-bare BlockStatement (many ts then fs) = refl
own-names-bare BlockStatement (statements ts then fs) = lexical-in-bare ts
own-names-bare ForStatement fs = first-lexical-bare fs
own-names-bare ForInStatement done = refl
own-names-bare ForInStatement (missing then fs) = refl
own-names-bare ForInStatement (one t then fs) = lexical-bare t
own-names-bare ForInStatement (many ts then fs) = refl
own-names-bare ForInStatement (statements ts then fs) = refl
own-names-bare ForOfStatement done = refl
own-names-bare ForOfStatement (missing then fs) = refl
own-names-bare ForOfStatement (one t then fs) = lexical-bare t
own-names-bare ForOfStatement (many ts then fs) = refl
own-names-bare ForOfStatement (statements ts then fs) = refl
own-names-bare SwitchStatement done = refl
own-names-bare SwitchStatement (f then done) = refl
own-names-bare SwitchStatement (f then (missing then fs)) = refl
own-names-bare SwitchStatement (f then (one t then fs)) = refl
own-names-bare SwitchStatement (f then (many cs then fs)) = cases-names-bare cs
own-names-bare SwitchStatement (f then (statements ts then fs)) = refl
own-names-bare CatchClause fs = first-bound-bare (codes "let") fs
own-names-bare ImportSpecifier fs = last-bare fs
own-names-bare ImportDefaultSpecifier fs = last-bare fs
own-names-bare ImportNamespaceSpecifier fs = last-bare fs
own-names-bare _ fs = refl

pub own-use-bare : (k : AstType) (fs : Fields) → own_use k (bare_fields fs) ≡ own_use k fs
own-use-bare Program done = refl
own-use-bare Program (f then done) = refl
own-use-bare Program (f then (missing then fs)) = refl
own-use-bare Program (f then (one t then fs)) = refl
own-use-bare Program (f then (many ts then fs)) = refl
own-use-bare Program (f then (statements ts then fs)) = using-bare ts
own-use-bare BlockStatement done = refl
own-use-bare BlockStatement (missing then fs) = refl
own-use-bare BlockStatement (one t then fs) = refl
own-use-bare BlockStatement (many ts then fs) = refl
own-use-bare BlockStatement (statements ts then fs) = using-bare ts
own-use-bare ForStatement done = refl
own-use-bare ForStatement (missing then fs) = refl
own-use-bare ForStatement (one t then fs) = using-here-bare t
own-use-bare ForStatement (many ts then fs) = refl
own-use-bare ForStatement (statements ts then fs) = refl
own-use-bare ForOfStatement done = refl
own-use-bare ForOfStatement (missing then fs) = refl
own-use-bare ForOfStatement (one t then fs) = using-here-bare t
own-use-bare ForOfStatement (many ts then fs) = refl
own-use-bare ForOfStatement (statements ts then fs) = refl
own-use-bare SwitchStatement done = refl
own-use-bare SwitchStatement (f then done) = refl
own-use-bare SwitchStatement (f then (missing then fs)) = refl
own-use-bare SwitchStatement (f then (one t then fs)) = refl
own-use-bare SwitchStatement (f then (many cs then fs)) = cases-use-bare cs
own-use-bare SwitchStatement (f then (statements ts then fs)) = refl
own-use-bare _ fs = refl

pub label-bare : (k : AstType) (fs : Fields) → label_in k (bare_fields fs) ≡ label_in k fs
label-bare LabeledStatement done = refl
label-bare LabeledStatement (missing then fs) = refl
label-bare LabeledStatement (one (node k l gs) then fs) = refl
label-bare LabeledStatement (many ts then fs) = refl
label-bare LabeledStatement (statements ts then fs) = refl
label-bare _ fs = refl

-- THE TOP

imports-bare : (is : Trees) → import_names (bare_trees is) ≡ import_names is
imports-bare empty = refl
imports-bare (node k l fs before is) = λ i. last-bare fs i ++ imports-bare is i

top-names-bare : (t : Tree) → top_names (bare t) ≡ top_names t
top-names-bare (node VariableDeclaration l fs) = declarations-bare (binding_word (first_text l.texts)) fs
top-names-bare (node ImportDeclaration l done) = refl
top-names-bare (node ImportDeclaration l (missing then fs)) = var-names-in-bare fs
top-names-bare (node ImportDeclaration l (one t then fs)) = var-names-in-bare (one t then fs)
top-names-bare (node ImportDeclaration l (many is then fs)) = imports-bare is
top-names-bare (node ImportDeclaration l (statements ts then fs)) = var-names-in-bare (statements ts then fs)
top-names-bare (node ExportNamedDeclaration l done) = refl
top-names-bare (node ExportNamedDeclaration l (missing then fs)) = var-names-in-bare fs
top-names-bare (node ExportNamedDeclaration l (one (node VariableDeclaration m fs) then gs)) = declarations-bare (binding_word (first_text m.texts)) fs
top-names-bare (node ExportNamedDeclaration l (one (node _ m fs) then gs)) = λ i. var-names-in-bare fs i ++ var-names-in-bare gs i
top-names-bare (node ExportNamedDeclaration l (many ts then fs)) = var-names-in-bare (many ts then fs)
top-names-bare (node ExportNamedDeclaration l (statements ts then fs)) = var-names-in-bare (statements ts then fs)
top-names-bare (node _ l fs) = var-names-in-bare fs

top-in-bare : (ts : Trees) → top_in (bare_trees ts) ≡ top_in ts
top-in-bare empty = refl
top-in-bare (t before ts) = λ i. top-names-bare t i ++ top-in-bare ts i

tops-bare : (fs : Fields) → tops (bare_fields fs) ≡ tops fs
tops-bare done = refl
tops-bare (f then done) = refl
tops-bare (f then (missing then fs)) = refl
tops-bare (f then (one t then fs)) = refl
tops-bare (f then (many ts then fs)) = refl
tops-bare (f then (statements ts then fs)) = top-in-bare ts

pub declared-bare : (p : Tree) → declared_at_top (bare p) ≡ declared_at_top p
declared-bare (node k l fs) = tops-bare fs
