-- That no name of a program is one of the machine's own cells, and no scope declares one: so it is where no identifier is one.
use Rattle.std.proofs.Common.{◌≡◌, ℕ, zero, suc, refl, List, [], ◌∷◌, ◌++◌}
use Rattle.std.proofs.lemmas.Bool.{and_parts, and_from}
use Rattle.std.specs.Prelude.{Bool, true, false, not, ◌&&◌, codes, if◌then◌else◌}
use Rattle.es_tree.specs.BoundNames.{bound_identifiers, bound_in_fields, bound_in_first, bound_in_second, bound_in_field, bound_in_trees}
use Rattle.es_tree.specs.Names.{first_text, is_name_place, is_reexport}
use Rattle.es_tree.specs.Scopes.{Declared, own_text}
use Rattle.es_tree.specs.Tree.{Tree, node, Fields, done, ◌then◌, Field, missing, one, many, statements, Trees, empty, ◌before◌}
use Rattle.es_tree.specs.Walks.{all_nodes, all_in_fields, all_in_field, all_in_trees}
use Rattle.es_tree.specs.Words.{Text}
use Rattle.es_tree.specs.declared.ast_type.AstType.{AstType}
use Rattle.es_tree.specs.declared.ast_type.AstType.TheVariants.{BlockStatement, VariableDeclaration, ForStatement, ForInStatement, ForOfStatement, SwitchStatement, CatchClause, Identifier, ObjectPattern, PatternProperty, ArrayPattern, AssignmentPattern, RestElement, ImportSpecifier, ImportDefaultSpecifier, ImportNamespaceSpecifier}
use Rattle.es_statement_runs.specs.Names.{binding_word, cases_names, declarations_names, declarators_names, declared_as, first_bound, is_word, lexical_in, lexical_names, names_of_all, names_where, own_names}
use Rattle.es_statement_runs.specs.Programs.{names_no_cell}
use Rattle.es_statement_runs.specs.Scopes.{is_own_cell, are_program_names}

abbrev Free : Tree → Type 0
Free t = all_nodes names_no_cell t ≡ true

abbrev FreeFields : Fields → Type 0
FreeFields fs = all_in_fields names_no_cell fs ≡ true

abbrev FreeField : Field → Type 0
FreeField f = all_in_field names_no_cell f ≡ true

abbrev FreeTrees : Trees → Type 0
FreeTrees ts = all_in_trees names_no_cell ts ≡ true

field_free : (f : Field) (fs : Fields) → FreeFields (f then fs) → FreeField f
field_free f fs h = (and_parts (all_in_field names_no_cell f) (all_in_fields names_no_cell fs) h).0

fields_free : (f : Field) (fs : Fields) → FreeFields (f then fs) → FreeFields fs
fields_free f fs h = (and_parts (all_in_field names_no_cell f) (all_in_fields names_no_cell fs) h).1

tree_free : (t : Tree) (ts : Trees) → FreeTrees (t before ts) → Free t
tree_free t ts h = (and_parts (all_nodes names_no_cell t) (all_in_trees names_no_cell ts) h).0

trees_free : (t : Tree) (ts : Trees) → FreeTrees (t before ts) → FreeTrees ts
trees_free t ts h = (and_parts (all_nodes names_no_cell t) (all_in_trees names_no_cell ts) h).1

-- the texts of these nodes
abbrev texts_free : List Tree → Bool
texts_free [] = true
texts_free (t ∷ ts) = not (is_own_cell (own_text t)) && texts_free ts

texts_append : (xs ys : List Tree) → texts_free xs ≡ true → texts_free ys ≡ true → texts_free (xs ++ ys) ≡ true
texts_append [] ys h g = g
texts_append (x ∷ xs) ys h g =
    let d = and_parts (not (is_own_cell (own_text x))) (texts_free xs) h in
    and_from (not (is_own_cell (own_text x))) (texts_free (xs ++ ys)) d.0 (texts_append xs ys d.1 g)

mutual
  bound_free : (t : Tree) → Free t → texts_free (bound_identifiers t) ≡ true
  bound_free (node Identifier l fs) h = and_from (not (is_own_cell (first_text l.texts))) true (and_parts (not (is_own_cell (first_text l.texts))) (all_in_fields names_no_cell fs) h).0 refl
  bound_free (node ObjectPattern l fs) h = first_free fs (and_parts true (all_in_fields names_no_cell fs) h).1
  bound_free (node PatternProperty l fs) h = second_free fs (and_parts true (all_in_fields names_no_cell fs) h).1
  bound_free (node ArrayPattern l fs) h = all_free fs (and_parts true (all_in_fields names_no_cell fs) h).1
  bound_free (node AssignmentPattern l fs) h = first_free fs (and_parts true (all_in_fields names_no_cell fs) h).1
  bound_free (node RestElement l fs) h = first_free fs (and_parts true (all_in_fields names_no_cell fs) h).1
  bound_free (node _ l fs) h = refl

  first_free : (fs : Fields) → FreeFields fs → texts_free (bound_in_first fs) ≡ true
  first_free done h = refl
  first_free (f then fs) h = at_free f (field_free f fs h)

  second_free : (fs : Fields) → FreeFields fs → texts_free (bound_in_second fs) ≡ true
  second_free done h = refl
  second_free (f then fs) h = first_free fs (fields_free f fs h)

  all_free : (fs : Fields) → FreeFields fs → texts_free (bound_in_fields fs) ≡ true
  all_free done h = refl
  all_free (f then fs) h = texts_append (bound_in_field f) (bound_in_fields fs) (at_free f (field_free f fs h)) (all_free fs (fields_free f fs h))

  at_free : (f : Field) → FreeField f → texts_free (bound_in_field f) ≡ true
  at_free missing h = refl
  at_free (one t) h = bound_free t h
  at_free (many ts) h = list_free ts h
  at_free (statements ts) h = list_free ts h

  list_free : (ts : Trees) → FreeTrees ts → texts_free (bound_in_trees ts) ≡ true
  list_free empty h = refl
  list_free (t before ts) h = texts_append (bound_identifiers t) (bound_in_trees ts) (bound_free t (tree_free t ts h)) (list_free ts (trees_free t ts h))

-- DECLARED NAMES

abbrev NamesFree : List Declared → Type 0
NamesFree ds = are_program_names (names_of_all ds) ≡ true

names_append : (ds es : List Declared) → NamesFree ds → NamesFree es → NamesFree (ds ++ es)
names_append [] es h g = g
names_append (d ∷ ds) es h g =
    let p = and_parts (not (is_own_cell d.name)) (are_program_names (names_of_all ds)) h in
    and_from (not (is_own_cell d.name)) (are_program_names (names_of_all (ds ++ es))) p.0 (names_append ds es p.1 g)

declared_free : (word : Text) (ts : List Tree) → texts_free ts ≡ true → NamesFree (declared_as word ts)
declared_free word [] h = refl
declared_free word (t ∷ ts) h =
    let p = and_parts (not (is_own_cell (own_text t))) (texts_free ts) h in
    and_from (not (is_own_cell (own_text t))) (are_program_names (names_of_all (declared_as word ts))) p.0 (declared_free word ts p.1)

first_bound_free : (fs : Fields) → FreeFields fs → texts_free (first_bound fs) ≡ true
first_bound_free (one t then fs) h = bound_free t (field_free (one t) fs h)
first_bound_free done h = refl
first_bound_free (missing then fs) h = refl
first_bound_free (many ts then fs) h = refl
first_bound_free (statements ts then fs) h = refl

declarators_free : (word : Text) (ds : Trees) → FreeTrees ds → NamesFree (declarators_names word ds)
declarators_free word empty h = refl
declarators_free word (node k l fs before ds) h =
    let d = tree_free (node k l fs) ds h in
    names_append (declared_as word (first_bound fs)) (declarators_names word ds)
    (declared_free word (first_bound fs) (first_bound_free fs (and_parts (names_no_cell k l fs) (all_in_fields names_no_cell fs) d).1))
    (declarators_free word ds (trees_free (node k l fs) ds h))

declarations_free : (word : Text) (fs : Fields) → FreeFields fs → NamesFree (declarations_names word fs)
declarations_free word (many ds then fs) h = declarators_free word ds (field_free (many ds) fs h)
declarations_free word done h = refl
declarations_free word (missing then fs) h = refl
declarations_free word (one t then fs) h = refl
declarations_free word (statements ts then fs) h = refl

where_free : (b : Bool) (word : Text) (fs : Fields) → FreeFields fs → NamesFree (names_where b word fs)
where_free true word fs h = declarations_free (binding_word word) fs h
where_free false word fs h = refl

lexical_free : (t : Tree) → Free t → NamesFree (lexical_names t)
lexical_free (node VariableDeclaration l fs) h = where_free (not (is_word (codes "var") (first_text l.texts))) (first_text l.texts) fs (and_parts true (all_in_fields names_no_cell fs) h).1
lexical_free (node _ l fs) h = refl

lexical_all_free : (ts : Trees) → FreeTrees ts → NamesFree (lexical_in ts)
lexical_all_free empty h = refl
lexical_all_free (t before ts) h = names_append (lexical_names t) (lexical_in ts) (lexical_free t (tree_free t ts h)) (lexical_all_free ts (trees_free t ts h))

cases_free : (cs : Trees) → FreeTrees cs → NamesFree (cases_names cs)
cases_free empty h = refl
cases_free (node k l (f then (statements ts then fs)) before cs) h =
    let d = and_parts (names_no_cell k l (f then (statements ts then fs))) (all_in_fields names_no_cell (f then (statements ts then fs))) (tree_free (node k l (f then (statements ts then fs))) cs h) in
    names_append (lexical_in ts) (cases_names cs)
    (lexical_all_free ts (field_free (statements ts) fs (fields_free f (statements ts then fs) d.1)))
    (cases_free cs (trees_free (node k l (f then (statements ts then fs))) cs h))
cases_free (node k l fs before cs) h = cases_free cs (trees_free (node k l fs) cs h)

-- CELLS NOWHERE: no name is one, and no scope declares one. An import's item is a name itself; keys, labels and what imports and exports name in another
-- module are none.

abbrev pub own_free : AstType → Fields → Bool
own_free ImportSpecifier fs = true
own_free ImportDefaultSpecifier fs = true
own_free ImportNamespaceSpecifier fs = true
own_free k fs = are_program_names (names_of_all (own_names k fs))

abbrev mutual
  pub cells_free : Tree → Bool
  cells_free (node k l fs) = (names_no_cell k l fs && own_free k fs) && (if is_reexport k fs then true else free_in (is_name_place k l) fs)

  pub free_in : (ℕ → Bool) → Fields → Bool
  free_in counts done = true
  free_in counts (f then fs) = (if counts zero then free_at f else true) && free_in (λ n. counts (suc n)) fs

  pub free_at : Field → Bool
  free_at missing = true
  free_at (one t) = cells_free t
  free_at (many ts) = free_among ts
  free_at (statements ts) = free_among ts

  pub free_among : Trees → Bool
  free_among empty = true
  free_among (t before ts) = cells_free t && free_among ts

own_names_free : (k : AstType) (fs : Fields) → FreeFields fs → own_free k fs ≡ true
own_names_free BlockStatement (statements ts then fs) h = lexical_all_free ts (field_free (statements ts) fs h)
own_names_free ForStatement (one t then fs) h = lexical_free t (field_free (one t) fs h)
own_names_free ForInStatement (one t then fs) h = lexical_free t (field_free (one t) fs h)
own_names_free ForOfStatement (one t then fs) h = lexical_free t (field_free (one t) fs h)
own_names_free SwitchStatement (f then (many cs then fs)) h = cases_free cs (field_free (many cs) fs (fields_free f (many cs then fs) h))
own_names_free CatchClause fs h = declared_free (codes "let") (first_bound fs) (first_bound_free fs h)
own_names_free _ fs h = refl

if_so : (b c : Bool) → c ≡ true → (if b then c else true) ≡ true
if_so true c h = h
if_so false c h = refl

unless_so : (b c : Bool) → c ≡ true → (if b then true else c) ≡ true
unless_so true c h = refl
unless_so false c h = h

mutual
  -- so it is where no identifier is one
  pub no_cell_free : (t : Tree) → Free t → cells_free t ≡ true
  no_cell_free (node k l fs) h =
      let d = and_parts (names_no_cell k l fs) (all_in_fields names_no_cell fs) h in
      and_from (names_no_cell k l fs && own_free k fs) _ (and_from (names_no_cell k l fs) (own_free k fs) d.0 (own_names_free k fs d.1)) (unless_so (is_reexport k fs) (free_in (is_name_place k l) fs) (no_cell_in (is_name_place k l) fs d.1))

  no_cell_in : (counts : ℕ → Bool) (fs : Fields) → FreeFields fs → free_in counts fs ≡ true
  no_cell_in counts done h = refl
  no_cell_in counts (f then fs) h = and_from (if counts zero then free_at f else true) (free_in (λ n. counts (suc n)) fs) (if_so (counts zero) (free_at f) (no_cell_at f (field_free f fs h))) (no_cell_in (λ n. counts (suc n)) fs (fields_free f fs h))

  no_cell_at : (f : Field) → FreeField f → free_at f ≡ true
  no_cell_at missing h = refl
  no_cell_at (one t) h = no_cell_free t h
  no_cell_at (many ts) h = no_cell_among ts h
  no_cell_at (statements ts) h = no_cell_among ts h

  no_cell_among : (ts : Trees) → FreeTrees ts → free_among ts ≡ true
  no_cell_among empty h = refl
  no_cell_among (t before ts) h = and_from (cells_free t) (free_among ts) (no_cell_free t (tree_free t ts h)) (no_cell_among ts (trees_free t ts h))
