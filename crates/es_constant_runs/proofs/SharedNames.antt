-- What scopes declare where names stand for lists of excluded keys: the same as before, since neither a call nor such a list declares anything.
use Rattle.std.proofs.Common.{◌≡◌, ◌∙◌, ℕ, refl, sym, ap, List, [], ◌∷◌, ◌++◌}
use Rattle.std.specs.Prelude.{◌||◌, Bool, true, false, not, codes}
use Rattle.es_tree.specs.BoundNames.{bound_identifiers, bound_in_field, bound_in_fields, bound_in_first, bound_in_second, bound_in_trees}
use Rattle.es_tree.specs.Names.{first_text}
use Rattle.es_tree.specs.Scopes.{Declared, own_text}
use Rattle.es_tree.specs.Tree.{Tree, node, Label, Fields, done, ◌then◌, Field, one, Trees}
use Rattle.es_tree.specs.Words.{Text}
use Rattle.es_tree.specs.declared.ast_type.AstType.{AstType}
use Rattle.es_tree.specs.declared.ast_type.AstType.TheVariants.{ArrayPattern, AssignmentPattern, BlockStatement, CatchClause, ExportNamedDeclaration, ForInStatement, ForOfStatement, ForStatement, Identifier, ImportDeclaration, ImportDefaultSpecifier, ImportNamespaceSpecifier, ImportSpecifier, LabeledStatement, ObjectPattern, PatternProperty, Program, RestElement, SwitchStatement, VariableDeclaration}
use Rattle.es_resolution.specs.Declarations.{Bound}
use Rattle.es_statement_runs.specs.Kinds.{label_in}
use Rattle.es_statement_runs.specs.Names.{binding_word, cases_names, cases_use, declarations_names, declarator_bound, declarators_names, declared_as, first_bound, import_names, is_word, last_name, lexical_in, lexical_names, names_where, own_names, own_use, top_in, top_names, using_here, using_in, var_names, var_names_all, var_names_at, var_names_in}
use Rattle.es_helper_calls.proofs.TextLists.{TextList, Texts, list-is}
use Rattle.es_helper_calls.proofs.TextLists.TextList.{text_list}
use Rattle.es_helper_calls.proofs.TextLists.Texts.{no_text, one_text}
use Rattle.es_excluded_keys.specs.ExcludedKeys.{Shares, SharesAll, SharesBy, SharesIn}
use Rattle.es_excluded_keys.specs.ExcludedKeys.Shares.{keeps, shares}
use Rattle.es_excluded_keys.specs.ExcludedKeys.SharesAll.{next, none}
use Rattle.es_excluded_keys.specs.ExcludedKeys.SharesBy.{at_many, at_none, at_one, at_statements}
use Rattle.es_excluded_keys.specs.ExcludedKeys.SharesIn.{ends, goes}
use Rattle.es_excluded_keys.proofs.TakenCalls.{taken-parts}

as_append : (word : Text) (a b : List Tree) → declared_as word (a ++ b) ≡ declared_as word a ++ declared_as word b
as_append word [] b = refl
as_append word (x ∷ a) b = ap (λ (ds : List Declared). record { name = own_text x; kind = word } ∷ ds) (as_append word a b)

-- WHAT PATTERNS BIND

module _ (word : Text) where
  mutual
    bound_same : {deep : Bool} {t u : Tree} {xs : List Bound} {ls : List Tree} → Shares deep t xs ls u → declared_as word (bound_identifiers u) ≡ declared_as word (bound_identifiers t)
    bound_same (keeps {k = ObjectPattern} out h) = first_same h
    bound_same (keeps {k = PatternProperty} out h) = second_same h
    bound_same (keeps {k = ArrayPattern} out h) = in_same h
    bound_same (keeps {k = AssignmentPattern} out h) = first_same h
    bound_same (keeps {k = RestElement} out h) = first_same h
    bound_same (keeps {k = Identifier} out h) = refl
    bound_same (keeps out h) = refl
    bound_same (shares x out h) = refl

    first_same : {deep : ℕ → Bool} {fs gs : Fields} {xs : List Bound} {ls : List Tree} → SharesIn deep fs xs ls gs → declared_as word (bound_in_first gs) ≡ declared_as word (bound_in_first fs)
    first_same ends = refl
    first_same (goes h hs) = by_same h

    second_same : {deep : ℕ → Bool} {fs gs : Fields} {xs : List Bound} {ls : List Tree} → SharesIn deep fs xs ls gs → declared_as word (bound_in_second gs) ≡ declared_as word (bound_in_second fs)
    second_same ends = refl
    second_same (goes h hs) = first_same hs

    in_same : {deep : ℕ → Bool} {fs gs : Fields} {xs : List Bound} {ls : List Tree} → SharesIn deep fs xs ls gs → declared_as word (bound_in_fields gs) ≡ declared_as word (bound_in_fields fs)
    in_same ends = refl
    in_same (goes {f = f} {g = g} {fs = fs} {gs = gs} h hs) = rw (as_append word (bound_in_field g) (bound_in_fields gs), as_append word (bound_in_field f) (bound_in_fields fs), by_same h, in_same hs) refl

    by_same : {deep : Bool} {f g : Field} {xs : List Bound} {ls : List Tree} → SharesBy deep f xs ls g → declared_as word (bound_in_field g) ≡ declared_as word (bound_in_field f)
    by_same at_none = refl
    by_same (at_one h) = bound_same h
    by_same (at_many h) = all_same h
    by_same (at_statements h) = all_same h

    all_same : {deep : Bool} {ts us : Trees} {xs : List Bound} {ls : List Tree} → SharesAll deep ts xs ls us → declared_as word (bound_in_trees us) ≡ declared_as word (bound_in_trees ts)
    all_same none = refl
    all_same (next {t = t} {u = u} {ts = ts} {us = us} h hs) = rw (as_append word (bound_identifiers u) (bound_in_trees us), as_append word (bound_identifiers t) (bound_in_trees ts), bound_same h, all_same hs) refl

  first_bound_same : {deep : ℕ → Bool} {fs gs : Fields} {xs : List Bound} {ls : List Tree} → SharesIn deep fs xs ls gs → declared_as word (first_bound gs) ≡ declared_as word (first_bound fs)
  first_bound_same ends = refl
  first_bound_same (goes at_none hs) = refl
  first_bound_same (goes (at_one h) hs) = bound_same h
  first_bound_same (goes (at_many h) hs) = refl
  first_bound_same (goes (at_statements h) hs) = refl

  -- DECLARATIONS

  declarator_same : {deep : Bool} {t u : Tree} {xs : List Bound} {ls : List Tree} → Shares deep t xs ls u → declared_as word (declarator_bound u) ≡ declared_as word (declarator_bound t)
  declarator_same (keeps out h) = first_bound_same h
  declarator_same (shares x out h) = refl

  declarators_same : {deep : Bool} {ts us : Trees} {xs : List Bound} {ls : List Tree} → SharesAll deep ts xs ls us → declarators_names word us ≡ declarators_names word ts
  declarators_same none = refl
  declarators_same (next h hs) = λ i. declarator_same h i ++ declarators_same hs i

  declarations_same : {deep : ℕ → Bool} {fs gs : Fields} {xs : List Bound} {ls : List Tree} → SharesIn deep fs xs ls gs → declarations_names word gs ≡ declarations_names word fs
  declarations_same ends = refl
  declarations_same (goes at_none hs) = refl
  declarations_same (goes (at_one h) hs) = refl
  declarations_same (goes (at_many h) hs) = declarators_same h
  declarations_same (goes (at_statements h) hs) = refl

where_same : (b : Bool) (word : Text) {deep : ℕ → Bool} {fs gs : Fields} {xs : List Bound} {ls : List Tree} → SharesIn deep fs xs ls gs → names_where b word gs ≡ names_where b word fs
where_same true word h = declarations_same (binding_word word) h
where_same false word h = refl

lexical_same : {deep : Bool} {t u : Tree} {xs : List Bound} {ls : List Tree} → Shares deep t xs ls u → lexical_names u ≡ lexical_names t
lexical_same (keeps {k = VariableDeclaration} {l = l} out h) = where_same (not (is_word (codes "var") (first_text l.texts))) (first_text l.texts) h
lexical_same (keeps out h) = refl
lexical_same (shares x out h) = refl

lexical_all_same : {deep : Bool} {ts us : Trees} {xs : List Bound} {ls : List Tree} → SharesAll deep ts xs ls us → lexical_in us ≡ lexical_in ts
lexical_all_same none = refl
lexical_all_same (next h hs) = λ i. lexical_same h i ++ lexical_all_same hs i

using_same : {deep : Bool} {t u : Tree} {xs : List Bound} {ls : List Tree} → Shares deep t xs ls u → using_here u ≡ using_here t
using_same (keeps {k = VariableDeclaration} out h) = refl
using_same (keeps out h) = refl
using_same (shares x out h) = refl

pub using_all_same : {deep : Bool} {ts us : Trees} {xs : List Bound} {ls : List Tree} → SharesAll deep ts xs ls us → using_in us ≡ using_in ts
using_all_same none = refl
using_all_same (next h hs) = λ i. using_same h i || using_all_same hs i

-- CASES, of which the list is the second field

cases_same : {deep : Bool} {ts us : Trees} {xs : List Bound} {ls : List Tree} → SharesAll deep ts xs ls us → cases_names us ≡ cases_names ts
cases_same none = refl
cases_same (next (keeps out ends) hs) = cases_same hs
cases_same (next (keeps out (goes f ends)) hs) = cases_same hs
cases_same (next (keeps out (goes f (goes at_none g))) hs) = cases_same hs
cases_same (next (keeps out (goes f (goes (at_one h) g))) hs) = cases_same hs
cases_same (next (keeps out (goes f (goes (at_many h) g))) hs) = cases_same hs
cases_same (next (keeps out (goes f (goes (at_statements h) g))) hs) = λ i. lexical_all_same h i ++ cases_same hs i
cases_same (next (shares x out h) hs) = cases_same hs

uses_same : {deep : Bool} {ts us : Trees} {xs : List Bound} {ls : List Tree} → SharesAll deep ts xs ls us → cases_use us ≡ cases_use ts
uses_same none = refl
uses_same (next (keeps out ends) hs) = uses_same hs
uses_same (next (keeps out (goes f ends)) hs) = uses_same hs
uses_same (next (keeps out (goes f (goes at_none g))) hs) = uses_same hs
uses_same (next (keeps out (goes f (goes (at_one h) g))) hs) = uses_same hs
uses_same (next (keeps out (goes f (goes (at_many h) g))) hs) = uses_same hs
uses_same (next (keeps out (goes f (goes (at_statements h) g))) hs) = λ i. using_all_same h i || uses_same hs i
uses_same (next (shares x out h) hs) = uses_same hs

-- WHAT THE NODE'S OWN SCOPE DECLARES

alone_same : {deep : Bool} {t u : Tree} {xs : List Bound} {ls : List Tree} → Shares deep t xs ls u → last_name (one u then done) ≡ last_name (one t then done)
alone_same (keeps out h) = refl
alone_same (shares x out h) = refl

not_last : (t : Tree) (f : Field) (fs : Fields) → last_name (one t then (f then fs)) ≡ last_name (f then fs)
not_last (node k l gs) f fs = refl

last_after : {d : Bool} {t u : Tree} {ys : List Bound} {ms : List Tree} {deep : ℕ → Bool} {fs gs : Fields} {xs : List Bound} {ls : List Tree} → Shares d t ys ms u → SharesIn deep fs xs ls gs → last_name gs ≡ last_name fs → last_name (one u then gs) ≡ last_name (one t then fs)
last_after h ends e = alone_same h
last_after {t = t} {u = u} h (goes {f = f} {g = g} {fs = fs} {gs = gs} i hs) e = not_last u g gs ∙ (e ∙ sym (not_last t f fs))

last_same : {deep : ℕ → Bool} {fs gs : Fields} {xs : List Bound} {ls : List Tree} → SharesIn deep fs xs ls gs → last_name gs ≡ last_name fs
last_same ends = refl
last_same (goes at_none hs) = last_same hs
last_same (goes (at_one h) hs) = last_after h hs (last_same hs)
last_same (goes (at_many h) hs) = last_same hs
last_same (goes (at_statements h) hs) = last_same hs

pub own_same : (k : AstType) {deep : ℕ → Bool} {fs gs : Fields} {xs : List Bound} {ls : List Tree} → SharesIn deep fs xs ls gs → own_names k gs ≡ own_names k fs
own_same BlockStatement (goes (at_statements h) hs) = lexical_all_same h
own_same BlockStatement (goes at_none hs) = refl
own_same BlockStatement (goes (at_one h) hs) = refl
own_same BlockStatement (goes (at_many h) hs) = refl
own_same BlockStatement ends = refl
own_same ForStatement (goes (at_one h) hs) = lexical_same h
own_same ForStatement (goes at_none hs) = refl
own_same ForStatement (goes (at_many h) hs) = refl
own_same ForStatement (goes (at_statements h) hs) = refl
own_same ForStatement ends = refl
own_same ForInStatement (goes (at_one h) hs) = lexical_same h
own_same ForInStatement (goes at_none hs) = refl
own_same ForInStatement (goes (at_many h) hs) = refl
own_same ForInStatement (goes (at_statements h) hs) = refl
own_same ForInStatement ends = refl
own_same ForOfStatement (goes (at_one h) hs) = lexical_same h
own_same ForOfStatement (goes at_none hs) = refl
own_same ForOfStatement (goes (at_many h) hs) = refl
own_same ForOfStatement (goes (at_statements h) hs) = refl
own_same ForOfStatement ends = refl
own_same SwitchStatement (goes f (goes (at_many h) hs)) = cases_same h
own_same SwitchStatement (goes f (goes at_none hs)) = refl
own_same SwitchStatement (goes f (goes (at_one h) hs)) = refl
own_same SwitchStatement (goes f (goes (at_statements h) hs)) = refl
own_same SwitchStatement (goes f ends) = refl
own_same SwitchStatement ends = refl
own_same CatchClause h = first_bound_same (codes "let") h
own_same ImportSpecifier h = last_same h
own_same ImportDefaultSpecifier h = last_same h
own_same ImportNamespaceSpecifier h = last_same h
own_same _ h = refl

pub own_use_same : (k : AstType) {deep : ℕ → Bool} {fs gs : Fields} {xs : List Bound} {ls : List Tree} → SharesIn deep fs xs ls gs → own_use k gs ≡ own_use k fs
own_use_same Program (goes f (goes (at_statements h) hs)) = using_all_same h
own_use_same Program (goes f (goes at_none hs)) = refl
own_use_same Program (goes f (goes (at_one h) hs)) = refl
own_use_same Program (goes f (goes (at_many h) hs)) = refl
own_use_same Program (goes f ends) = refl
own_use_same Program ends = refl
own_use_same BlockStatement (goes (at_statements h) hs) = using_all_same h
own_use_same BlockStatement (goes at_none hs) = refl
own_use_same BlockStatement (goes (at_one h) hs) = refl
own_use_same BlockStatement (goes (at_many h) hs) = refl
own_use_same BlockStatement ends = refl
own_use_same ForStatement (goes (at_one h) hs) = using_same h
own_use_same ForStatement (goes at_none hs) = refl
own_use_same ForStatement (goes (at_many h) hs) = refl
own_use_same ForStatement (goes (at_statements h) hs) = refl
own_use_same ForStatement ends = refl
own_use_same ForOfStatement (goes (at_one h) hs) = using_same h
own_use_same ForOfStatement (goes at_none hs) = refl
own_use_same ForOfStatement (goes (at_many h) hs) = refl
own_use_same ForOfStatement (goes (at_statements h) hs) = refl
own_use_same ForOfStatement ends = refl
own_use_same SwitchStatement (goes f (goes (at_many h) hs)) = uses_same h
own_use_same SwitchStatement (goes f (goes at_none hs)) = refl
own_use_same SwitchStatement (goes f (goes (at_one h) hs)) = refl
own_use_same SwitchStatement (goes f (goes (at_statements h) hs)) = refl
own_use_same SwitchStatement (goes f ends) = refl
own_use_same SwitchStatement ends = refl
own_use_same _ h = refl

pub label_same : (k : AstType) {deep : ℕ → Bool} {fs gs : Fields} {xs : List Bound} {ls : List Tree} → SharesIn deep fs xs ls gs → label_in k gs ≡ label_in k fs
label_same LabeledStatement (goes {fs = fs} {gs = gs} (at_one h) hs) = labels fs gs h
  where
    labels : {deep : Bool} {t u : Tree} {xs : List Bound} {ls : List Tree} (fs gs : Fields) → Shares deep t xs ls u → label_in LabeledStatement (one u then gs) ≡ label_in LabeledStatement (one t then fs)
    labels fs gs (keeps out h) = refl
    labels fs gs (shares x out h) = refl
label_same LabeledStatement (goes at_none hs) = refl
label_same LabeledStatement (goes (at_many h) hs) = refl
label_same LabeledStatement (goes (at_statements h) hs) = refl
label_same LabeledStatement ends = refl
label_same _ h = refl

-- WHAT THE TOP DECLARES

texts_vars : (fs : Fields) → Texts fs → var_names_in fs ≡ []
texts_vars ts no_text = refl
texts_vars ts (one_text {fs = fs} k h) = texts_vars fs h

list_vars : (t : Tree) → TextList t → var_names t ≡ []
list_vars t (text_list l fs h) = texts_vars fs h

mutual
  vars_same : {deep : Bool} {t u : Tree} {xs : List Bound} {ls : List Tree} → Shares deep t xs ls u → var_names u ≡ var_names t
  vars_same (keeps {k = VariableDeclaration} {l = l} out h) = where_same (is_word (codes "var") (first_text l.texts)) (first_text l.texts) h
  vars_same (keeps out h) = vars_in_same h
  vars_same (shares {l = l} {f = f} {s = s} {ks = ks} x out h) =
      let list = list_vars ks (list-is ks (taken-parts l f s ks out).1) in
      λ i. var_names f ++ ((vars_same h i ++ (sym list i ++ [])) ++ [])

  vars_in_same : {deep : ℕ → Bool} {fs gs : Fields} {xs : List Bound} {ls : List Tree} → SharesIn deep fs xs ls gs → var_names_in gs ≡ var_names_in fs
  vars_in_same ends = refl
  vars_in_same (goes h hs) = λ i. vars_by_same h i ++ vars_in_same hs i

  vars_by_same : {deep : Bool} {f g : Field} {xs : List Bound} {ls : List Tree} → SharesBy deep f xs ls g → var_names_at g ≡ var_names_at f
  vars_by_same at_none = refl
  vars_by_same (at_one h) = vars_same h
  vars_by_same (at_many h) = vars_all_same h
  vars_by_same (at_statements h) = vars_all_same h

  vars_all_same : {deep : Bool} {ts us : Trees} {xs : List Bound} {ls : List Tree} → SharesAll deep ts xs ls us → var_names_all us ≡ var_names_all ts
  vars_all_same none = refl
  vars_all_same (next h hs) = λ i. vars_same h i ++ vars_all_same hs i

items_same : {deep : Bool} {ts us : Trees} {xs : List Bound} {ls : List Tree} → SharesAll deep ts xs ls us → import_names us ≡ import_names ts
items_same none = refl
items_same (next (keeps out h) hs) = λ i. last_same h i ++ items_same hs i
items_same (next (shares {f = node j m fs} x out h) hs) = items_same hs

exported_same : (n : Label) (fs gs : Fields) {deep : Bool} {t u : Tree} {xs : List Bound} {ls : List Tree} → Shares deep t xs ls u → var_names u ≡ var_names t → var_names_in gs ≡ var_names_in fs → top_names (node ExportNamedDeclaration n (one u then gs)) ≡ top_names (node ExportNamedDeclaration n (one t then fs))
exported_same n fs gs (keeps {k = VariableDeclaration} {l = m} out h) d e = declarations_same (binding_word (first_text m.texts)) h
exported_same n fs gs (keeps out h) d e = λ i. d i ++ e i
exported_same n fs gs (shares x out h) d e = λ i. d i ++ e i

top_same : {deep : Bool} {t u : Tree} {xs : List Bound} {ls : List Tree} → Shares deep t xs ls u → top_names u ≡ top_names t
top_same (keeps {k = VariableDeclaration} {l = l} out h) = declarations_same (binding_word (first_text l.texts)) h
top_same (keeps {k = ImportDeclaration} out (goes (at_many h) hs)) = items_same h
top_same (keeps {k = ImportDeclaration} out (goes at_none hs)) = vars_in_same hs
top_same (keeps {k = ImportDeclaration} out (goes (at_one h) hs)) = λ i. vars_same h i ++ vars_in_same hs i
top_same (keeps {k = ImportDeclaration} out (goes (at_statements h) hs)) = λ i. vars_all_same h i ++ vars_in_same hs i
top_same (keeps {k = ImportDeclaration} out ends) = refl
top_same (keeps {k = ExportNamedDeclaration} {l = l} out (goes {fs = fs} {gs = gs} (at_one h) hs)) = exported_same l fs gs h (vars_same h) (vars_in_same hs)
top_same (keeps {k = ExportNamedDeclaration} out (goes at_none hs)) = vars_in_same hs
top_same (keeps {k = ExportNamedDeclaration} out (goes (at_many h) hs)) = λ i. vars_all_same h i ++ vars_in_same hs i
top_same (keeps {k = ExportNamedDeclaration} out (goes (at_statements h) hs)) = λ i. vars_all_same h i ++ vars_in_same hs i
top_same (keeps {k = ExportNamedDeclaration} out ends) = refl
top_same (keeps out h) = vars_in_same h
top_same (shares {l = l} {f = f} {s = s} {ks = ks} x out h) =
    let list = list_vars ks (list-is ks (taken-parts l f s ks out).1) in
    λ i. var_names f ++ ((vars_same h i ++ (sym list i ++ [])) ++ [])

pub tops_same : {deep : Bool} {ts us : Trees} {xs : List Bound} {ls : List Tree} → SharesAll deep ts xs ls us → top_in us ≡ top_in ts
tops_same none = refl
tops_same (next h hs) = λ i. top_same h i ++ tops_same hs i
