-- Where no name stands for the helper that excludes keys, none stands for keys.
use Rattle.std.proofs.Common.{arith, ◌+◌, ◌≡◌, ℕ, refl, ap, ◌∙◌, List, [], ◌++◌}
use Rattle.std.specs.Prelude.{◌&&◌, Bool, true, false, Option, Some, None, codes, if◌then◌else◌}
use Rattle.es_tree.specs.Names.{first_text, names_of}
use Rattle.es_tree.specs.Tree.{Tree, node, Fields, done, ◌then◌, Field, missing, one, many, statements, Trees, empty, ◌before◌}
use Rattle.es_tree.specs.Words.{Text}
use Rattle.es_tree.specs.declared.ast_type.AstType.{AstType}
use Rattle.es_tree.specs.declared.ast_type.AstType.TheVariants.{ArrayExpression, CallExpression, Identifier, VariableDeclaration, VariableDeclarator}
use Rattle.es_runs.specs.Core.{Silent}
use Rattle.es_runs.specs.Machine.{Values}
use Rattle.es_statement_runs.specs.Helpers.{Supply, binds_constant, constant_by, constant_where, constants_by, constants_in, excludes_by, is_helper, is_this_name, key_places, key_places_all, key_places_at, key_places_in, occurrences, one_where, only_excludes, texts_of}

no_sum : (a b : ℕ) → a ≡ 0 → b ≡ 0 → a + b ≡ 0
no_sum a b h g = omega arith

module _ (u : Supply) (hs : List (Text × Silent)) (none : (f : Tree) → is_helper u hs (codes "objectWithoutProperties") f ≡ false) where
  excludes_none : (x : Text) (k : AstType) (fs : Fields) → excludes_by u hs x k fs ≡ false
  excludes_none x CallExpression (one f then (many (e before (key before empty)) then fs)) = ap (λ b. b && is_this_name x key) (none f)
  excludes_none x _ fs = refl

  mutual
    no_places : (x : Text) (t : Tree) → key_places u hs x t ≡ 0
    no_places x (node k l fs) = no_sum _ _ (ap one_where (excludes_none x k fs)) (no_places_in x fs)

    no_places_in : (x : Text) (fs : Fields) → key_places_in u hs x fs ≡ 0
    no_places_in x done = refl
    no_places_in x (f then fs) = no_sum _ _ (no_places_at x f) (no_places_in x fs)

    no_places_at : (x : Text) (f : Field) → key_places_at u hs x f ≡ 0
    no_places_at x missing = refl
    no_places_at x (one t) = no_places x t
    no_places_at x (many ts) = no_places_all x ts
    no_places_at x (statements ts) = no_places_all x ts

    no_places_all : (x : Text) (ts : Trees) → key_places_all u hs x ts ≡ 0
    no_places_all x empty = refl
    no_places_all x (t before ts) = no_sum _ _ (no_places x t) (no_places_all x ts)

  module _ (p : Tree) where
    none_where : (y : Text) (o : Option Values) → constant_where y false o ≡ []
    none_where y (Some vs) = refl
    none_where y None = refl

    none_constant : (d : Tree) → constant_by u hs p d ≡ []
    none_constant (node VariableDeclarator l (one (node Identifier k gs) then (one (node ArrayExpression m es) then done))) =
        ap (λ n. constant_where (first_text k.texts) (only_excludes n (occurrences (first_text k.texts) (names_of p))) (texts_of es)) (no_places (first_text k.texts) p) ∙ none_where (first_text k.texts) (texts_of es)
    none_constant _ = refl

    none_constants : (ds : Trees) → constants_by u hs p ds ≡ []
    none_constants empty = refl
    none_constants (d before ds) = λ i. none_constant d i ++ none_constants ds i

    none_if : (b : Bool) (es : List (Text × Silent)) → es ≡ [] → (if b then es else []) ≡ []
    none_if true es h = h
    none_if false es h = refl

    pub none_listed : (ts : Trees) → constants_in u hs p ts ≡ []
    none_listed empty = refl
    none_listed (node VariableDeclaration l (many ds then fs) before ts) = λ i. none_if (binds_constant (first_text l.texts)) (constants_by u hs p ds) (none_constants ds) i ++ none_listed ts i
    none_listed (t before ts) = none_listed ts
