-- In a valid program of the class that uses no helper itself no name is used without a question: neither for a helper, nor for a constant list of keys.
use Rattle.std.proofs.Common.{◌≡◌, ◌∙◌, ℕ, refl, ap, length, List, [], ◌++◌, arith}
use Rattle.std.proofs.lemmas.Bool.{not-true}
use Rattle.std.specs.Prelude.{Bool, true, false, ◌&&◌, Option, Some, None, codes, if◌then◌else◌}
use Rattle.es_tree.specs.Fresh.{is_among}
use Rattle.es_tree.specs.Names.{first_text, names_of}
use Rattle.es_tree.specs.Tree.{Tree, node, Fields, done, ◌then◌, Field, missing, one, many, statements, Trees, empty, ◌before◌}
use Rattle.es_tree.specs.Words.{Text}
use Rattle.es_tree.specs.declared.ast_type.AstType.{AstType}
use Rattle.es_tree.specs.declared.ast_type.AstType.TheVariants.{ArrayExpression, CallExpression, Identifier, VariableDeclaration, VariableDeclarator}
use Rattle.es_runs.specs.Core.{Silent}
use Rattle.es_runs.specs.Machine.{Values}
use Rattle.es_semantic.specs.RolesOf.{reads}
use Rattle.es_semantic.specs.SymbolsOf.{symbols_of}
use Rattle.es_resolution.specs.Laws.{source}
use Rattle.es_resolution.proofs.Sources.{law_named_proof}
use Rattle.es_statement_runs.specs.Helpers.{Supply, binds_constant, constant_by, constant_where, constants_by, constants_in, excludes_by, helper_names, is_helper, is_this_name, key_places, key_places_all, key_places_at, key_places_in, occurrences, one_where, only_excludes, program_list, silent_names, texts_of}
use Rattle.es_statement_runs.specs.Helpers.Supply.{by_global, by_import, by_require, no_helpers, spread_by_global}
use Rattle.es_statement_runs.specs.Programs.{IsStatementProgram, uses_no_helper}
use Rattle.es_statement_runs.proofs.NoHelpers.{law_no_helper_proof}
use Rattle.es_statement_steps.proofs.KeylessPrograms.{keyless_silent}
use Rattle.es_statement_steps.proofs.KeylessSources.{named-keyless, same-keyless}
use Rattle.es_statement_steps.proofs.ReachedRuns.{source-bare}

-- WHERE NO CALLEE IS A HELPER no name stands for keys

module _ (u : Supply) (none : (h : Text) (f : Tree) → is_helper u [] h f ≡ false) where
  none-excluded : (x : Text) (k : AstType) (fs : Fields) → excludes_by u [] x k fs ≡ false
  none-excluded x CallExpression (one f then (many (e before (k before empty)) then fs)) = ap (λ (b : Bool). b && is_this_name x k) (none (codes "objectWithoutProperties") f)
  none-excluded x _ fs = refl

  module _ (x : Text) where
    mutual
      no-places : (t : Tree) → key_places u [] x t ≡ 0
      no-places (node k l fs) =
          let own : one_where (excludes_by u [] x k fs) ≡ 0 = ap one_where (none-excluded x k fs) in
          let rest : key_places_in u [] x fs ≡ 0 = no-places-in fs in
          omega arith

      no-places-in : (fs : Fields) → key_places_in u [] x fs ≡ 0
      no-places-in done = refl
      no-places-in (f then fs) =
          let first : key_places_at u [] x f ≡ 0 = no-places-at f in
          let rest : key_places_in u [] x fs ≡ 0 = no-places-in fs in
          omega arith

      no-places-at : (f : Field) → key_places_at u [] x f ≡ 0
      no-places-at missing = refl
      no-places-at (one t) = no-places t
      no-places-at (many ts) = no-places-all ts
      no-places-at (statements ts) = no-places-all ts

      no-places-all : (ts : Trees) → key_places_all u [] x ts ≡ 0
      no-places-all empty = refl
      no-places-all (t before ts) =
          let first : key_places u [] x t ≡ 0 = no-places t in
          let rest : key_places_all u [] x ts ≡ 0 = no-places-all ts in
          omega arith

  module _ (p : Tree) where
    none-where : (x : Text) (o : Option Values) → constant_where x false o ≡ []
    none-where x (Some vs) = refl
    none-where x None = refl

    none-constant : (d : Tree) → constant_by u [] p d ≡ []
    none-constant (node VariableDeclarator l (one (node Identifier k gs) then (one (node ArrayExpression m es) then done))) =
        ap (λ (n : ℕ). constant_where (first_text k.texts) (only_excludes n (occurrences (first_text k.texts) (names_of p))) (texts_of es)) (no-places (first_text k.texts) p) ∙ none-where (first_text k.texts) (texts_of es)
    none-constant _ = refl

    none-constants : (ds : Trees) → constants_by u [] p ds ≡ []
    none-constants empty = refl
    none-constants (d before ds) = λ i. none-constant d i ++ none-constants ds i

    none-if : (b : Bool) (es : List (Text × Silent)) → es ≡ [] → (if b then es else []) ≡ []
    none-if true es h = h
    none-if false es h = refl

    none-listed : (ts : Trees) → constants_in u [] p ts ≡ []
    none-listed empty = refl
    none-listed (node VariableDeclaration l (many ds then fs) before ts) = λ i. none-if (binds_constant (first_text l.texts)) (constants_by u [] p ds) (none-constants ds) i ++ none-listed ts i
    none-listed (t before ts) = none-listed ts

    none-beside : helper_names u p ≡ [] → (helper_names u p ++ constants_in u (helper_names u p) p (program_list p)) ≡ []
    none-beside h = ap (λ (hs : List (Text × Silent)). hs ++ constants_in u hs p (program_list p)) h ∙ none-listed (program_list p)

-- without an import or a call of `require` that gives one, no name is one
no-import : (m h : Text) (f : Tree) → is_helper (by_import m) [] h f ≡ false
no-import m h (node Identifier l fs) = refl
no-import m h (node _ l fs) = refl

no-require : (m h : Text) (f : Tree) → is_helper (by_require m) [] h f ≡ false
no-require m h (node Identifier l fs) = refl
no-require m h (node _ l fs) = refl

-- THE PROGRAM

pub none-silent : (u : Supply) (p : Tree) → IsStatementProgram p → uses_no_helper u p ≡ true → silent_names u p ≡ []
none-silent no_helpers p class none = refl
none-silent spread_by_global p class none = refl
none-silent by_global p class none =
    let used = is_among (names_of p) in
    keyless_silent p (same-keyless p (source p) (source-bare p)
    (named-keyless (length (symbols_of p)) used (not-true (used (codes "babelHelpers")) none) reads (source p) (law_named_proof p used (length (symbols_of p)) class.form class.rules (λ x e. e) (omega arith))))
none-silent (by_import m) p class none = none-beside (by_import m) (no-import m) p (law_no_helper_proof (by_import m) p none)
none-silent (by_require m) p class none = none-beside (by_require m) (no-require m) p (law_no_helper_proof (by_require m) p none)
