-- The names that a pattern binds: as scopes declare them and as the resolver does, and that none is one of the machine's own cells where no identifier is.
use Rattle.std.proofs.Common.{◌≡◌, refl, ap, List, [], ◌∷◌, ◌++◌}
use Rattle.std.specs.Prelude.{true, not, ◌||◌, bytes_eq}
use Rattle.std.proofs.lemmas.Bool.{and_from, and_parts}
use Rattle.es_tree.specs.BoundNames.{bound_identifiers, bound_in_field, bound_in_fields, bound_in_first, bound_in_second, bound_in_trees}
use Rattle.es_tree.specs.Fresh.{is_among}
use Rattle.es_tree.specs.Scopes.{own_text}
use Rattle.es_tree.specs.Tree.{Tree, node, Fields, done, ◌then◌, Field, missing, one, many, statements, Trees, empty, ◌before◌}
use Rattle.es_tree.specs.Walks.{all_in_field, all_in_fields, all_in_trees, all_nodes}
use Rattle.es_tree.specs.Words.{Text}
use Rattle.es_tree.specs.declared.ast_type.AstType.TheVariants.{ArrayPattern, AssignmentPattern, Identifier, ObjectPattern, PatternProperty, RestElement}
use Rattle.es_statement_runs.specs.Names.{declared_as, names_of_all}
use Rattle.es_statement_runs.specs.Programs.{names_no_cell}
use Rattle.es_statement_runs.specs.Scopes.{are_program_names, is_own_cell}
use Rattle.es_statement_steps.proofs.DeclaredNames.{any_called}

abbrev pub texts_of : List Tree → List Text
texts_of [] = []
texts_of (t ∷ ts) = own_text t ∷ texts_of ts

pub names_declared : (word : Text) (ts : List Tree) → names_of_all (declared_as word ts ++ []) ≡ texts_of ts
names_declared word [] = refl
names_declared word (t ∷ ts) = ap (λ ns. own_text t ∷ ns) (names_declared word ts)

pub names_as : (word : Text) (ts : List Tree) → names_of_all (declared_as word ts) ≡ texts_of ts
names_as word [] = refl
names_as word (t ∷ ts) = ap (λ ns. own_text t ∷ ns) (names_as word ts)

pub among_called : (ts : List Tree) (y : Text) → is_among (texts_of ts) y ≡ any_called y ts
among_called [] y = refl
among_called (t ∷ ts) y = ap (λ b. bytes_eq (own_text t) y || b) (among_called ts y)

-- NO CELLS
both_free : (xs ys : List Tree) → are_program_names (texts_of xs) ≡ true → are_program_names (texts_of ys) ≡ true → are_program_names (texts_of (xs ++ ys)) ≡ true
both_free [] ys h g = g
both_free (t ∷ xs) ys h g = let d = and_parts (not (is_own_cell (own_text t))) (are_program_names (texts_of xs)) h in and_from (not (is_own_cell (own_text t))) (are_program_names (texts_of (xs ++ ys))) d.0 (both_free xs ys d.1 g)

mutual
  pub bound_free : (t : Tree) → all_nodes names_no_cell t ≡ true → are_program_names (texts_of (bound_identifiers t)) ≡ true
  bound_free (node Identifier l fs) h = and_from (not (is_own_cell (own_text (node Identifier l fs)))) true (and_parts (names_no_cell Identifier l fs) (all_in_fields names_no_cell fs) h).0 refl
  bound_free (node ObjectPattern l fs) h = first_free fs h
  bound_free (node PatternProperty l fs) h = second_free fs h
  bound_free (node ArrayPattern l fs) h = fields_free fs h
  bound_free (node AssignmentPattern l fs) h = first_free fs h
  bound_free (node RestElement l fs) h = first_free fs h
  bound_free (node _ l fs) h = refl

  fields_free : (fs : Fields) → all_in_fields names_no_cell fs ≡ true → are_program_names (texts_of (bound_in_fields fs)) ≡ true
  fields_free done h = refl
  fields_free (f then fs) h = let d = and_parts (all_in_field names_no_cell f) (all_in_fields names_no_cell fs) h in both_free (bound_in_field f) (bound_in_fields fs) (field_free f d.0) (fields_free fs d.1)

  first_free : (fs : Fields) → all_in_fields names_no_cell fs ≡ true → are_program_names (texts_of (bound_in_first fs)) ≡ true
  first_free done h = refl
  first_free (f then fs) h = field_free f (and_parts (all_in_field names_no_cell f) (all_in_fields names_no_cell fs) h).0

  second_free : (fs : Fields) → all_in_fields names_no_cell fs ≡ true → are_program_names (texts_of (bound_in_second fs)) ≡ true
  second_free done h = refl
  second_free (f then fs) h = first_free fs (and_parts (all_in_field names_no_cell f) (all_in_fields names_no_cell fs) h).1

  field_free : (f : Field) → all_in_field names_no_cell f ≡ true → are_program_names (texts_of (bound_in_field f)) ≡ true
  field_free missing h = refl
  field_free (one t) h = bound_free t h
  field_free (many ts) h = trees_free ts h
  field_free (statements ts) h = trees_free ts h

  trees_free : (ts : Trees) → all_in_trees names_no_cell ts ≡ true → are_program_names (texts_of (bound_in_trees ts)) ≡ true
  trees_free empty h = refl
  trees_free (t before ts) h = let d = and_parts (all_nodes names_no_cell t) (all_in_trees names_no_cell ts) h in both_free (bound_identifiers t) (bound_in_trees ts) (bound_free t d.0) (trees_free ts d.1)
