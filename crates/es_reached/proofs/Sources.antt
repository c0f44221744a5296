-- What is seen of a program is the program, but for ids and marks.
use Rattle.std.proofs.Common.{◌≡◌, ℕ, refl, ap, ◌∙◌}
use Rattle.std.specs.Prelude.{Option}
use Rattle.es_tree.specs.Bare.{bare, bare_field, bare_fields, bare_label, bare_trees}
use Rattle.es_tree.specs.Tree.{Tree, node, Fields, done, ◌then◌, Field, missing, one, many, statements, Trees, empty, ◌before◌}
use Rattle.es_tree.specs.Words.{Text}
use Rattle.es_semantic.specs.ReferencesOf.{marked_program}
use Rattle.es_semantic.specs.SymbolsOf.{symbol_in, symbols_of}
use Rattle.es_semantic.proofs.MarkedProgram.{bare-marked-program}
use Rattle.es_resolution.specs.Seen.{seen, seen_among, seen_by, seen_in}
use Rattle.es_reached.specs.BareTrees.{LawBareSeen, LawBareSource}

module _ (bound : ℕ → Text → Option ℕ) where
  mutual
    bare-tree : (t : Tree) → bare (seen bound t) ≡ bare t
    bare-tree (node k l fs) = ap (node k (bare_label l)) (bare-in fs)

    bare-in : (fs : Fields) → bare_fields (seen_in bound fs) ≡ bare_fields fs
    bare-in done = refl
    bare-in (f then fs) = λ i. bare-by f i then bare-in fs i

    bare-by : (f : Field) → bare_field (seen_by bound f) ≡ bare_field f
    bare-by missing = refl
    bare-by (one t) = ap one (bare-tree t)
    bare-by (many ts) = ap many (bare-among ts)
    bare-by (statements ts) = ap statements (bare-among ts)

    bare-among : (ts : Trees) → bare_trees (seen_among bound ts) ≡ bare_trees ts
    bare-among empty = refl
    bare-among (t before ts) = λ i. bare-tree t i before bare-among ts i

pub law_bare_seen_proof : LawBareSeen
law_bare_seen_proof bound t = bare-tree bound t

pub law_bare_source_proof : LawBareSource
law_bare_source_proof p = bare-tree (symbol_in (symbols_of p)) (marked_program p) ∙ bare-marked-program p
