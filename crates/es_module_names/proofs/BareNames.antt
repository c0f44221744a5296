-- Ids and marks are in no module request and no exported name.
use Rattle.std.proofs.Common.{◌≡◌, ℕ, zero, suc, refl, sym, ap, ◌∙◌, List, ◌++◌}
use Rattle.es_tree.specs.Bare.{bare, bare_field, bare_fields, bare_trees}
use Rattle.es_tree.specs.BoundNames.{bound_identifiers, bound_in_field, bound_in_fields, bound_in_first, bound_in_second, bound_in_trees}
use Rattle.es_tree.specs.Tree.{Tree, node, Fields, done, ◌then◌, Field, missing, one, many, statements, Trees, empty, ◌before◌}
use Rattle.es_tree.specs.Words.{Text}
use Rattle.es_tree.specs.declared.ast_type.AstType.TheVariants.{ArrayPattern, AssignmentPattern, ClassDeclaration, ExportAllDeclaration, ExportDefaultDeclaration, ExportNamedDeclaration, ExportSpecifier, FunctionDeclaration, Identifier, ImportDeclaration, ObjectPattern, PatternProperty, RestElement, StringLiteral, VariableDeclaration, VariableDeclarator}
use Rattle.es_valid_steps.specs.Laws.{statements_of}
use Rattle.es_module_names.specs.Laws.{LawOutsideBare}
use Rattle.es_module_names.specs.Modules.{bound_texts, declarator_texts, declared_texts, exported, name_text, request, specifier_text, star_request, texts_among, texts_at, texts_by}
use Rattle.es_module_names.proofs.Readings.{both-texts, texts_of}

-- WHAT IS READ off a node off which the same is read without them

module _ (read : Tree → List Text) (same : (t : Tree) → read (bare t) ≡ read t) where
  bare-among : (ts : Trees) → texts_among read (bare_trees ts) ≡ texts_among read ts
  bare-among empty = refl
  bare-among (t before ts) = λ i. same t i ++ bare-among ts i

  bare-by : (f : Field) → texts_by read (bare_field f) ≡ texts_by read f
  bare-by missing = refl
  bare-by (one t) = same t
  bare-by (many ts) = bare-among ts
  bare-by (statements ts) = bare-among ts

  bare-at : (n : ℕ) (fs : Fields) → texts_at read n (bare_fields fs) ≡ texts_at read n fs
  bare-at n done = refl
  bare-at zero (f then fs) = bare-by f
  bare-at (suc n) (f then fs) = bare-at n fs

-- NAMES AND PATTERNS

bare-name : (t : Tree) → name_text (bare t) ≡ name_text t
bare-name (node Identifier l fs) = refl
bare-name (node StringLiteral l fs) = refl
bare-name (node _ l fs) = refl

mutual
  bare-bound : (t : Tree) → texts_of (bound_identifiers (bare t)) ≡ texts_of (bound_identifiers t)
  bare-bound (node Identifier l fs) = refl
  bare-bound (node ObjectPattern l fs) = bare-first fs
  bare-bound (node PatternProperty l fs) = bare-second fs
  bare-bound (node ArrayPattern l fs) = bare-in fs
  bare-bound (node AssignmentPattern l fs) = bare-first fs
  bare-bound (node RestElement l fs) = bare-first fs
  bare-bound (node _ l fs) = refl

  bare-first : (fs : Fields) → texts_of (bound_in_first (bare_fields fs)) ≡ texts_of (bound_in_first fs)
  bare-first done = refl
  bare-first (f then fs) = bare-bound-by f

  bare-second : (fs : Fields) → texts_of (bound_in_second (bare_fields fs)) ≡ texts_of (bound_in_second fs)
  bare-second done = refl
  bare-second (f then fs) = bare-first fs

  bare-in : (fs : Fields) → texts_of (bound_in_fields (bare_fields fs)) ≡ texts_of (bound_in_fields fs)
  bare-in done = refl
  bare-in (f then fs) = both-texts (bound_in_field f) (bound_in_fields fs) (bound_in_field (bare_field f)) (bound_in_fields (bare_fields fs)) (bare-bound-by f) (bare-in fs)

  bare-bound-by : (f : Field) → texts_of (bound_in_field (bare_field f)) ≡ texts_of (bound_in_field f)
  bare-bound-by missing = refl
  bare-bound-by (one t) = bare-bound t
  bare-bound-by (many ts) = bare-all ts
  bare-bound-by (statements ts) = bare-all ts

  bare-all : (ts : Trees) → texts_of (bound_in_trees (bare_trees ts)) ≡ texts_of (bound_in_trees ts)
  bare-all empty = refl
  bare-all (t before ts) = both-texts (bound_identifiers t) (bound_in_trees ts) (bound_identifiers (bare t)) (bound_in_trees (bare_trees ts)) (bare-bound t) (bare-all ts)

-- DECLARATIONS

bare-declarator : (t : Tree) → declarator_texts (bare t) ≡ declarator_texts t
bare-declarator (node VariableDeclarator l fs) = bare-at bound_texts bare-bound 0 fs
bare-declarator (node _ l fs) = refl

bare-declared : (t : Tree) → declared_texts (bare t) ≡ declared_texts t
bare-declared (node VariableDeclaration l fs) = bare-at declarator_texts bare-declarator 0 fs
bare-declared (node FunctionDeclaration l fs) = bare-at name_text bare-name 0 fs
bare-declared (node ClassDeclaration l fs) = bare-at name_text bare-name 0 fs
bare-declared (node _ l fs) = refl

bare-specifier : (t : Tree) → specifier_text (bare t) ≡ specifier_text t
bare-specifier (node ExportSpecifier l fs) = bare-at name_text bare-name 1 fs
bare-specifier (node _ l fs) = refl

-- STATEMENTS

bare-request : (t : Tree) → request (bare t) ≡ request t
bare-request (node ImportDeclaration l fs) = bare-at name_text bare-name 1 fs
bare-request (node ExportAllDeclaration l fs) = bare-at name_text bare-name 1 fs
bare-request (node ExportNamedDeclaration l fs) = bare-at name_text bare-name 2 fs
bare-request (node _ l fs) = refl

bare-star : (t : Tree) → star_request (bare t) ≡ star_request t
bare-star (node ExportAllDeclaration l done) = refl
bare-star (node ExportAllDeclaration l (missing then fs)) = bare-at name_text bare-name 0 fs
bare-star (node ExportAllDeclaration l (one t then fs)) = refl
bare-star (node ExportAllDeclaration l (many ts then fs)) = refl
bare-star (node ExportAllDeclaration l (statements ts then fs)) = refl
bare-star (node _ l fs) = refl

bare-exported : (t : Tree) → exported (bare t) ≡ exported t
bare-exported (node ExportDefaultDeclaration l fs) = refl
bare-exported (node ExportAllDeclaration l fs) = bare-at name_text bare-name 0 fs
bare-exported (node ExportNamedDeclaration l fs) = λ i. bare-at declared_texts bare-declared 0 fs i ++ bare-at specifier_text bare-specifier 1 fs i
bare-exported (node _ l fs) = refl

-- PROGRAMS

bare-list : (t : Tree) → statements_of (bare t) ≡ bare_trees (statements_of t)
bare-list (node k l done) = refl
bare-list (node k l (d then done)) = refl
bare-list (node k l (d then (missing then fs))) = refl
bare-list (node k l (d then (one t then fs))) = refl
bare-list (node k l (d then (many ts then fs))) = refl
bare-list (node k l (d then (statements ts then fs))) = refl

module _ (read : Tree → List Text) (same : (t : Tree) → read (bare t) ≡ read t) where
  bare-program : (t : Tree) → texts_among read (statements_of (bare t)) ≡ texts_among read (statements_of t)
  bare-program t = ap (λ ts. texts_among read ts) (bare-list t) ∙ bare-among read same (statements_of t)

  bare-alike : (p q : Tree) → bare p ≡ bare q → texts_among read (statements_of q) ≡ texts_among read (statements_of p)
  bare-alike p q e = sym (bare-program q) ∙ sym (ap (λ t. texts_among read (statements_of t)) e) ∙ bare-program p

pub law_outside_bare_proof : LawOutsideBare
law_outside_bare_proof p q e = record { requests = bare-alike request bare-request p q e; stars = bare-alike star_request bare-star p q e; exports = bare-alike exported bare-exported p q e }
