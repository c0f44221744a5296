-- Where no call of the object of all helpers leaves out the keys that a name holds, no name stands for a constant list of keys.
use Rattle.std.proofs.Common.{◌≡◌, refl, ap, ◌∙◌, List, [], ◌++◌, arith}
use Rattle.std.proofs.lemmas.Bool.{and_parts}
use Rattle.std.specs.Prelude.{Bool, true, false, not, ◌&&◌, Option, Some, None, codes, if◌then◌else◌}
use Rattle.es_tree.specs.Names.{first_text, names_of}
use Rattle.es_tree.specs.Tree.{Tree, node, Label, Fields, done, ◌then◌, Field, missing, one, many, statements, Trees, empty, ◌before◌}
use Rattle.es_tree.specs.Walks.{all_nodes, all_in_field, all_in_fields, all_in_trees}
use Rattle.es_tree.specs.Words.{Text}
use Rattle.es_tree.specs.declared.ast_type.AstType.{AstType}
use Rattle.es_tree.specs.declared.ast_type.AstType.TheVariants.{ArrayExpression, CallExpression, Identifier, VariableDeclaration, VariableDeclarator}
use Rattle.es_runs.specs.Core.{Silent}
use Rattle.es_runs.specs.Machine.{Values}
use Rattle.es_statement_runs.specs.Helpers.{binds_constant, constant_by, constant_where, constants_by, constants_in, excludes_by, is_helper, is_this_name, key_places, key_places_all, key_places_at, key_places_in, occurrences, one_where, only_excludes, program_list, silent_names, texts_of}
use Rattle.es_statement_runs.specs.Helpers.Supply.{by_global}
use Rattle.es_rest_runs.specs.Laws.{excludes_no_name, is_a_name}

-- such a call is none of a name
apart : (b : Bool) (x : Text) (k : Tree) → not (b && is_a_name k) ≡ true → (b && is_this_name x k) ≡ false
apart true x (node Identifier l fs) h = absurd (cc h)
apart true x (node _ l fs) h = refl
apart false x k h = refl

pub none_by : (x : Text) (k : AstType) (l : Label) (fs : Fields) → excludes_no_name k l fs ≡ true → excludes_by by_global [] x k fs ≡ false
none_by x CallExpression l (one f then (many (e before (key before empty)) then fs)) h = apart (is_helper by_global [] (codes "objectWithoutProperties") f) x key h
none_by x _ l fs h = refl

module _ (x : Text) where
  mutual
    pub no_places : (t : Tree) → all_nodes excludes_no_name t ≡ true → key_places by_global [] x t ≡ 0
    no_places (node k l fs) h =
        let d = and_parts (excludes_no_name k l fs) (all_in_fields excludes_no_name fs) h in
        let own : one_where (excludes_by by_global [] x k fs) ≡ 0 = ap one_where (none_by x k l fs d.0) in
        let rest : key_places_in by_global [] x fs ≡ 0 = no_places_in fs d.1 in
        omega arith

    no_places_in : (fs : Fields) → all_in_fields excludes_no_name fs ≡ true → key_places_in by_global [] x fs ≡ 0
    no_places_in done h = refl
    no_places_in (f then fs) h =
        let d = and_parts (all_in_field excludes_no_name f) (all_in_fields excludes_no_name fs) h in
        let first : key_places_at by_global [] x f ≡ 0 = no_places_at f d.0 in
        let rest : key_places_in by_global [] x fs ≡ 0 = no_places_in fs d.1 in
        omega arith

    no_places_at : (f : Field) → all_in_field excludes_no_name f ≡ true → key_places_at by_global [] x f ≡ 0
    no_places_at missing h = refl
    no_places_at (one t) h = no_places t h
    no_places_at (many ts) h = no_places_all ts h
    no_places_at (statements ts) h = no_places_all ts h

    no_places_all : (ts : Trees) → all_in_trees excludes_no_name ts ≡ true → key_places_all by_global [] x ts ≡ 0
    no_places_all empty h = refl
    no_places_all (t before ts) h =
        let d = and_parts (all_nodes excludes_no_name t) (all_in_trees excludes_no_name ts) h in
        let first : key_places by_global [] x t ≡ 0 = no_places t d.0 in
        let rest : key_places_all by_global [] x ts ≡ 0 = no_places_all ts d.1 in
        omega arith

pub none_where : (y : Text) (o : Option Values) → constant_where y false o ≡ []
none_where y (Some vs) = refl
none_where y None = refl

module _ (p : Tree) (none : all_nodes excludes_no_name p ≡ true) where
  none_constant : (d : Tree) → constant_by by_global [] p d ≡ []
  none_constant (node VariableDeclarator l (one (node Identifier k gs) then (one (node ArrayExpression m es) then done))) =
      ap (λ n. constant_where (first_text k.texts) (only_excludes n (occurrences (first_text k.texts) (names_of p))) (texts_of es)) (no_places (first_text k.texts) p none) ∙ none_where (first_text k.texts) (texts_of es)
  none_constant _ = refl

  none_constants : (ds : Trees) → constants_by by_global [] p ds ≡ []
  none_constants empty = refl
  none_constants (d before ds) = λ i. none_constant d i ++ none_constants ds i

  none_if : (b : Bool) (es : List (Text × Silent)) → es ≡ [] → (if b then es else []) ≡ []
  none_if true es h = h
  none_if false es h = refl

  none_listed : (ts : Trees) → constants_in by_global [] p ts ≡ []
  none_listed empty = refl
  none_listed (node VariableDeclaration l (many ds then fs) before ts) = λ i. none_if (binds_constant (first_text l.texts)) (constants_by by_global [] p ds) (none_constants ds) i ++ none_listed ts i
  none_listed (t before ts) = none_listed ts

  pub no_silent : silent_names by_global p ≡ []
  no_silent = none_listed (program_list p)
