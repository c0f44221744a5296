-- Marks change nothing but marks.
use Rattle.std.proofs.Common.{◌≡◌, ℕ, suc, ◌+◌, Option, length, refl, ap, ◌∙◌}
use Rattle.es_tree.specs.Words.{Text}
use Rattle.es_tree.specs.Bare.{bare, bare_label, bare_fields, bare_field, bare_trees}
use Rattle.es_tree.specs.Marks.{marked, marked_at, marked_fields, marked_field, marked_trees, with_scope}
use Rattle.es_tree.specs.References.{Role, reads, role_at, own_references, references_at, references_in_field}
use Rattle.es_tree.specs.Scopes.{declared_of}
use Rattle.es_tree.specs.Symbols.{symbol_of}
use Rattle.es_tree.specs.Tree.{Tree, node, Fields, done, ◌then◌, Field, missing, one, many, statements, Trees, empty, ◌before◌}

mutual
  bare-marked_at : (find : Text → Option ℕ) (n : ℕ) (r : Role) (t : Tree) → bare (marked_at find n r t) ≡ bare t
  bare-marked_at find n r (node k l fs) = ap (node k (bare_label l)) (bare-marked_fields find (n + length (own_references find r k l)) (role_at r k l) fs)

  bare-marked_fields : (find : Text → Option ℕ) (n : ℕ) (roles : ℕ → Role) (fs : Fields) → bare_fields (marked_fields find n roles fs) ≡ bare_fields fs
  bare-marked_fields find n roles done = refl
  bare-marked_fields find n roles (f then fs) = λ i. bare-marked_field find n (roles 0) f i then bare-marked_fields find (n + length (references_in_field find (roles 0) f)) (λ k. roles (suc k)) fs i

  bare-marked_field : (find : Text → Option ℕ) (n : ℕ) (r : Role) (f : Field) → bare_field (marked_field find n r f) ≡ bare_field f
  bare-marked_field find n r missing = refl
  bare-marked_field find n r (one t) = ap one (bare-marked_at find n r t)
  bare-marked_field find n r (many ts) = ap many (bare-marked_trees find n ts)
  bare-marked_field find n r (statements ts) = ap statements (bare-marked_trees find n ts)

  bare-marked_trees : (find : Text → Option ℕ) (n : ℕ) (ts : Trees) → bare_trees (marked_trees find n ts) ≡ bare_trees ts
  bare-marked_trees find n empty = refl
  bare-marked_trees find n (t before ts) = λ i. bare-marked_at find n reads t i before bare-marked_trees find (n + length (references_at find reads t)) ts i

bare-with_scope : (t : Tree) → bare (with_scope t) ≡ bare t
bare-with_scope (node k l fs) = refl

-- a program with its marks is the program, but for the marks
pub bare-marked : (p : Tree) → bare (marked p) ≡ bare p
bare-marked p = bare-with_scope (marked_at (symbol_of (declared_of p)) 0 reads p) ∙ bare-marked_at (symbol_of (declared_of p)) 0 reads p
