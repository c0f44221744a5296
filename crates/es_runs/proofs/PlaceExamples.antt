-- The law of place gives the row of a name that is bound: it may be read again, since reading it asks nothing. The law of
-- fresh names covers `Math`.
use Rattle.std.proofs.Common.{◌≡◌, refl, List, [], ◌∷◌, ◌++◌, Some, ap, ◌∙◌}
use Rattle.std.specs.Prelude.{Bool, true, false, codes, not}
use Rattle.es_tree.specs.Words.{Text}
use Rattle.es_tree.specs.Names.{first_text}
use Rattle.es_tree.specs.Scopes.{declared_of}
use Rattle.es_tree.specs.Tree.{Tree, node, Label, done, ◌then◌, one, empty, trees}
use Rattle.es_tree.specs.declared.ast_type.AstType.TheVariants.{Identifier, LogicalExpression}
use Rattle.es_runs.specs.Alike.{the_value}
use Rattle.es_runs.specs.Core.{World, Binding, Meaning, value, meaning, name, logical, read_cell, is_free}
use Rattle.es_runs.specs.Core.Binding.{free, changeable, constant, silent}
use Rattle.es_runs.specs.Machine.{Value, Cell, Move, Question, State, Stop}
use Rattle.es_runs.specs.Machine.Value.{undefined, null, unset_error}
use Rattle.es_runs.specs.Machine.Cell.{unset, holds}
use Rattle.es_runs.specs.Machine.State.{state}
use Rattle.es_runs.specs.Machine.Stop.{faults}
use Rattle.es_runs.specs.Machine.Result.{gives, stops}
use Rattle.es_runs.specs.Rules.{tested}
use Rattle.es_runs.specs.Runs.{RunAlike, Swapped, is_declared, made, program, scope_of, stands, var_statement}
use Rattle.es_runs.proofs.Laws.{law_fresh_proof, law_place_proof}
use Rattle.es_runs.proofs.NullishCoalescingValues.{tested_meaning}

-- `l ?? r`
abbrev coalescing_of : Tree → Tree → Tree
coalescing_of l r = node LogicalExpression (made (Some (codes "??") ∷ []) []) (one l then one r then done)

-- a bound name has what its cell has
reads_cell : (w : World) (y : Text) (b : Binding) → is_free b ≡ false → w.scope y ≡ b → (c : Text → Cell) (ms : List Move) (qs : List Question) (o : Cell) → c y ≡ o → value w (name y) (state c ms qs) ≡ read_cell y o (state c ms qs)
reads_cell w y free e d c ms qs o k = cc
reads_cell w y changeable e d c ms qs o k = rw (d, k)
reads_cell w y constant e d c ms qs o k = rw (d, k)
reads_cell w y (silent z) e d c ms qs o k = rw (d, k)

module _ (w : World) (y : Text) (r : Meaning) where
  read_twice : (u : Value) (s : State) → value w (name y) s ≡ gives u s → value w (tested_meaning w (name y) (name y) r) s ≡ value w (logical w (codes "??") (name y) r) s
  read_twice undefined s e = rw e (rw e refl)
  read_twice null s e = rw e refl
  read_twice u s e = rw e (rw e (rw e refl))

  unset_twice : (m : Stop) (s : State) → value w (name y) s ≡ stops m s → value w (tested_meaning w (name y) (name y) r) s ≡ value w (logical w (codes "??") (name y) r) s
  unset_twice m s e = rw e refl

  bound_twice : is_free (w.scope y) ≡ false → (s : State) → value w (tested_meaning w (name y) (name y) r) s ≡ value w (logical w (codes "??") (name y) r) s
  bound_twice bound (state c ms qs) = at (c y) refl
    where
      at : (o : Cell) → c y ≡ o → value w (tested_meaning w (name y) (name y) r) (state c ms qs) ≡ value w (logical w (codes "??") (name y) r) (state c ms qs)
      at unset i = unset_twice (faults (unset_error y)) (state c ms qs) (reads_cell w y (w.scope y) bound refl c ms qs unset i)
      at (holds u) i = read_twice u (state c ms qs) (reads_cell w y (w.scope y) bound refl c ms qs (holds u) i)

not_free : (b : Bool) → not b ≡ true → b ≡ false
not_free true h = absurd (cc h)
not_free false h = refl

-- `x ?? r` becomes `x !== null && x !== void 0 ? x : r` where the program declares x, anywhere in it
pub bound_name_again : (p q r : Tree) (l m : Label) → is_declared (declared_of p) (first_text l.texts) ≡ true → Swapped the_value (coalescing_of (node Identifier l done) r) (tested m (node Identifier l done) (node Identifier l done) r) p q → declared_of q ≡ declared_of p → RunAlike false p q
bound_name_again p q r l m declared swapped names =
    law_place_proof false the_value (coalescing_of (node Identifier l done) r) (tested m (node Identifier l done) (node Identifier l done) r) p q swapped
    (λ w is s. bound_twice w (first_text l.texts) (meaning w r) (ap is_free (is.scope (first_text l.texts)) ∙ not_free (is_free (scope_of (declared_of p) (first_text l.texts))) declared) s)
    (λ w is e. absurd (cc e)) names

-- `var Math;` between the statements of a program in which `Math` stands nowhere
pub math_declared : (front back : List Tree) → stands (codes "Math") (program (made [] []) empty (trees (front ++ back))) ≡ false → is_declared (declared_of (program (made [] []) empty (trees (front ++ back)))) (codes "Math") ≡ false → RunAlike false (program (made [] []) empty (trees (front ++ back))) (program (made [] []) empty (trees (front ++ var_statement (codes "Math") ∷ back)))
math_declared front back nowhere undeclared = law_fresh_proof (codes "Math") (made [] []) empty front back nowhere undeclared
