-- What a program becomes once its `using` is lowered: patterns with a rest move, or it stays as it is; there is one such program.
use Rattle.std.proofs.Common.{◌≡◌, ◌∙◌, ◌*◌, ◌≤◌, ◌++◌, List, [], ◌∷◌, ℕ, ap, arith, length, map, refl, subst, sym, true≢false}
use Rattle.std.specs.Prelude.{Bool, true, false, ◌&&◌, is_some, if◌then◌else◌}
use Rattle.es_tree.specs.Constructs.{is_object_rest}
use Rattle.es_tree.specs.HasForm.{has_form}
use Rattle.es_tree.specs.StaticRules.{breaks}
use Rattle.es_tree.specs.Tree.{Tree, node, Fields, done, ◌then◌, Field, missing, one, many, statements, Trees, empty, ◌before◌, field_size, fields_size, tree_size, trees_size}
use Rattle.es_tree.specs.Walks.{any_node, all_nodes}
use Rattle.es_tree.specs.Words.{Text}
use Rattle.es_tree.specs.declared.ast_type.AstType.{AstType}
use Rattle.es_tree.specs.declared.ast_type.AstType.TheVariants.{ArrowFunctionExpression, FunctionDeclaration, FunctionExpression, ObjectPattern, RestElement}
use Rattle.es_tree.specs.declared.options.EnvOptions.{EnvOptions}
use Rattle.es_tree.specs.declared.table.Sort.TheVariants.{Program as s-Program}
use Rattle.es_steps.specs.CoreBridge.{first_whole}
use Rattle.es_pattern_moves.specs.Moved.{MovesTo, plainly}
use Rattle.es_pattern_moves.specs.PatternMoves.{moves_pattern}
use Rattle.es_pattern_moves.specs.Weights.{own_weight, weighed, weighed_among, weighed_by, weighed_in}
use Rattle.es_pattern_moves.proofs.MovesAreRests.{law_moves_are_rests_proof}
use Rattle.es_pattern_moves.proofs.MovedAgree.{law_one_moved_proof}
use Rattle.es_pattern_moves.proofs.MovedSize.{law_moved_size_proof}
use Rattle.es_pattern_moves.proofs.MovedStays.{law_stays_proof}
use Rattle.es_lowered.specs.Moved.{IsMoved}
use Rattle.es_lowered.proofs.Moved.{law_moved_proof, law_unmoved_proof}
use Rattle.lower_driver.specs.Moves.{Moves}
use Rattle.es_moved_runs.specs.Laws.{MovedOn, moves_so}
use Rattle.es_moved_runs.proofs.MovedPrograms.{law_moved_runs_proof}
use Rattle.es_statement_runs.specs.Helpers.Supply.{by_global}
use Rattle.es_statement_runs.specs.Programs.{IsStatementProgram, uses_no_helper}

-- ONE PROGRAM

pub one-program : (on : Bool) (p q r : Tree) (names others : List Text) → Moves on p q names → Moves on p r others → q ≡ r
one-program true p q r names others a b = (law_one_moved_proof (first_whole p).in_use p q r names others (a.goes refl) (b.goes refl)).0
one-program false p q r names others a b = (a.stays refl).0 ∙ sym (b.stays refl).0

-- WHERE NO PATTERN MOVES

module _ (on : Bool) (p : Tree) (none : (on && any_node moves_pattern p) ≡ false) where
  itself : (b : Bool) → on ≡ b → b ≡ true → MovesTo (first_whole p).in_use p p []
  itself true e _ =
      let stays = law_stays_proof p (plainly []) (ap (λ b. b && any_node moves_pattern p) (sym e) ∙ none) in
      record { fresh = tt; count = ap (λ (r : ℕ × Tree). r.0) stays; tree = sym (ap (λ (r : ℕ × Tree). r.1) stays) }
  itself false e d = absurd (true≢false (sym d))

  pub moves-itself : Moves on p p []
  moves-itself = record { goes = λ e. itself on refl e; stays = λ e. (refl, refl) }

  no-names : (names : List Text) → 0 ≡ length names → names ≡ []
  no-names [] e = refl
  no-names (x ∷ names) e = absurd (cc e)

  stayed : (q : Tree) (names : List Text) (b : Bool) → on ≡ b → Moves on p q names → (q ≡ p) × (names ≡ [])
  stayed q names true e m =
      let goes = m.goes e in
      let stays = law_stays_proof p (plainly names) (ap (λ b. b && any_node moves_pattern p) (sym e) ∙ none) in
      (goes.tree ∙ ap (λ (r : ℕ × Tree). r.1) stays, no-names names (sym (ap (λ (r : ℕ × Tree). r.0) stays) ∙ goes.count))
  stayed q names false e m = m.stays e

  pub stays-itself : (q : Tree) (names : List Text) → Moves on p q names → (q ≡ p) × (names ≡ [])
  stays-itself q names m = stayed q names on refl m

-- where no object rest stands that is taken
pub no-moves : (on : Bool) (p : Tree) → (on && any_node is_object_rest p) ≡ false → (on && any_node moves_pattern p) ≡ false
no-moves true p none = law_moves_are_rests_proof p none
no-moves false p none = refl

pub off-anyway : (on b : Bool) → b ≡ false → (on && b) ≡ false
off-anyway true b e = e
off-anyway false b e = refl

-- WHAT IT IS

pub is-moved : (o : EnvOptions) (p q : Tree) (names : List Text) → has_form s-Program p ≡ true → breaks p ≡ [] → Moves (is_some o.es2018.object_rest_spread) p q names → IsMoved (is_some o.es2018.object_rest_spread) p q names
is-moved o p q names form right m = at (is_some o.es2018.object_rest_spread) refl
  where
    at : (b : Bool) → is_some o.es2018.object_rest_spread ≡ b → IsMoved (is_some o.es2018.object_rest_spread) p q names
    at true e = subst (λ (b : Bool). IsMoved b p q names) (sym e) (law_moved_proof o p q names form right e (m.goes e))
    at false e =
        let same = m.stays e in
        subst (λ (t : Tree). IsMoved (is_some o.es2018.object_rest_spread) p t names) (sym same.0) (subst (λ (xs : List Text). IsMoved (is_some o.es2018.object_rest_spread) p p xs) (sym same.1) (law_unmoved_proof (is_some o.es2018.object_rest_spread) p form right))

-- RUNS: a program of statements that uses no helper itself, and whose patterns move so, runs as what it becomes
pub moved-run : (on : Bool) (p q : Tree) (names : List Text) → IsStatementProgram p → uses_no_helper by_global p ≡ true → all_nodes moves_so p ≡ true → Moves on p q names → MovedOn p q
moved-run true p q names class helpers so m = law_moved_runs_proof p q names class helpers so (m.goes refl)
moved-run false p q names class helpers so m = subst (λ (t : Tree). MovedOn p t) (sym (m.stays refl).0) (record { runs = λ n this moves assumed t ms inside. record { outcomes = refl; questions = refl; final_cells = λ y e i. refl }; declared = λ y e. e; class = class; helpers = helpers })

-- SIZE: what it weighs pays for it

at-least : (k : AstType) → 2 ≤ own_weight k
at-least ObjectPattern = omega arith
at-least RestElement = omega arith
at-least FunctionDeclaration = omega arith
at-least FunctionExpression = omega arith
at-least ArrowFunctionExpression = omega arith
at-least k = omega arith

mutual
  twice : (t : Tree) → 2 * tree_size t ≤ weighed t
  twice (node k l fs) = omega (arith, at-least k, twice-in fs)

  twice-in : (fs : Fields) → 2 * fields_size fs ≤ weighed_in fs
  twice-in done = omega arith
  twice-in (f then fs) = omega (arith, twice-by f, twice-in fs)

  twice-by : (f : Field) → 2 * field_size f ≤ weighed_by f
  twice-by missing = omega arith
  twice-by (one t) = twice t
  twice-by (many ts) = twice-among ts
  twice-by (statements ts) = twice-among ts

  twice-among : (ts : Trees) → 2 * trees_size ts ≤ weighed_among ts
  twice-among empty = omega arith
  twice-among (t before ts) = omega (arith, twice t, twice-among ts)

pub moved-weight : (on : Bool) (p q : Tree) (names : List Text) → Moves on p q names → 2 * tree_size q ≤ weighed p
moved-weight true p q names m = let size = law_moved_size_proof p (plainly names) (λ n t. refl) in rw (m.goes refl).tree size.0
moved-weight false p q names m = rw (m.stays refl).0 (twice p)

-- names of texts, one list after the other
pub map-joined : {A B : Type 0} (f : A → B) (xs ys : List A) → map f (xs ++ ys) ≡ map f xs ++ map f ys
map-joined f [] ys = refl
map-joined f (x ∷ xs) ys = ap (λ zs. f x ∷ zs) (map-joined f xs ys)
