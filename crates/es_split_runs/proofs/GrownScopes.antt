-- Scopes that declare hidden names more are alike: their cells are put aside and put back unseen.
use Rattle.std.proofs.Common.{◌≡◌, refl, List, [], ◌∷◌, ap}
use Rattle.std.specs.Prelude.{Bool, true, false, ◌||◌, Option, Some, None, bytes_eq, if◌then◌else◌}
use Rattle.std.proofs.lemmas.Slice.Eq.{bytes_eq-Decides}
use Rattle.es_tree.specs.Words.{Text}
use Rattle.es_tree.specs.Fresh.{is_among}
use Rattle.es_tree.specs.Scopes.{Declared}
use Rattle.es_runs.specs.Machine.{Value, State, Result, M}
use Rattle.es_runs.specs.Core.{World}
use Rattle.es_runs.specs.Alike.{Agree, Same, Alike, Equal, SameWorld}
use Rattle.es_runs.specs.Alike.Agree.{agree}
use Rattle.es_runs.specs.Alike.Same.{both_give, both_stop, outside, at_fault}
use Rattle.es_statement_runs.specs.Alike.{Quiet, StackSeen}
use Rattle.es_statement_runs.specs.Kinds.{found, kind_in, scope_by}
use Rattle.es_statement_runs.specs.Laws.{any_cells}
use Rattle.es_statement_runs.specs.Names.{names_of_all}
use Rattle.es_statement_runs.specs.Scopes.{leave, left, scoped, stack_cell}
use Rattle.es_statement_runs.specs.Stacks.{in_scope}
use Rattle.es_statement_runs.proofs.Combinators.{stack_alike}
use Rattle.es_statement_runs.proofs.KindsAlike.{inner}
use Rattle.es_split_runs.specs.Growing.{NamesMore}
use Rattle.es_split_runs.specs.Growing.NamesMore.{no_names, as_before, one_more}

module _ (hidden : Text → Bool) where
  pub same_names : (ds : List Declared) → NamesMore hidden ds ds
  same_names [] = no_names
  same_names (d ∷ ds) = as_before (same_names ds)

  not_named : (d : Declared) (y : Text) → hidden d.name ≡ true → hidden y ≡ false → bytes_eq y d.name ≡ false
  not_named d y h e = at (bytes_eq y d.name) refl
    where
      at : (b : Bool) → bytes_eq y d.name ≡ b → b ≡ false
      at true i = let j : y ≡ d.name = (bytes_eq-Decides y d.name).0 i in let k : hidden y ≡ hidden d.name = ap hidden j in absurd (cc)
      at false i = refl

  named_not : (d : Declared) (y : Text) → hidden d.name ≡ true → hidden y ≡ false → bytes_eq d.name y ≡ false
  named_not d y h e = at (bytes_eq d.name y) refl
    where
      at : (b : Bool) → bytes_eq d.name y ≡ b → b ≡ false
      at true i = let j : d.name ≡ y = (bytes_eq-Decides d.name y).0 i in let k : hidden d.name ≡ hidden y = ap hidden j in absurd (cc)
      at false i = refl

  pub kinds_more : {ds es : List Declared} → NamesMore hidden ds es → (y : Text) → hidden y ≡ false → kind_in es y ≡ kind_in ds y
  kinds_more no_names y e = refl
  kinds_more (as_before {d = d} g) y e = ap (λ (c : Option Text). if bytes_eq y d.name then Some d.kind else c) (kinds_more g y e)
  kinds_more (one_more {d = d} h g) y e = rw (not_named d y h e) (kinds_more g y e)

  pub names_more : {ds es : List Declared} → NamesMore hidden ds es → (y : Text) → hidden y ≡ false → is_among (names_of_all es) y ≡ is_among (names_of_all ds) y
  names_more no_names y e = refl
  names_more (as_before {d = d} g) y e = ap (λ (b : Bool). bytes_eq d.name y || b) (names_more g y e)
  names_more (one_more {d = d} h g) y e = rw (named_not d y h e) (names_more g y e)

  pub inner_more : {ds es : List Declared} → NamesMore hidden ds es → (w v : World) → SameWorld hidden w v → SameWorld hidden (inner w ds) (inner v es)
  inner_more {ds} {es} g w v same = record { scope = λ y e. rw (kinds_more g y e) (at (kind_in ds y) y (same.scope y e)); this = same.this; counts = same.counts }
    where
      at : (c : Option Text) (y : Text) → v.scope y ≡ w.scope y → found c y v.scope y ≡ found c y w.scope y
      at None y h = h
      at (Some kind) y h = refl

  scoped_more : (xs ys : List Text) → ((y : Text) → hidden y ≡ false → is_among ys y ≡ is_among xs y) → {m k : M Value} → Alike (any_cells hidden) Equal m k → Alike (any_cells hidden) Equal (scoped xs m) (scoped ys k)
  scoped_more xs ys same h _ _ (agree {c = c} {d = d} {ms = ms} {qs = qs} f g i) = back (h _ _ (agree (λ y e. rw (same y e, f y e) refl) (λ y e. tt) (λ y e. tt)))
    where
      leaves : {s t : State} → Agree (any_cells hidden) s t → Agree (any_cells hidden) (leave xs c s) (leave ys d t)
      leaves (agree p q r) = agree (λ y e. rw (same y e, p y e, f y e) refl) (λ y e. tt) (λ y e. tt)

      back : {r q : Result Value} → Same (any_cells hidden) Equal r q → Same (any_cells hidden) Equal (left xs c r) (left ys d q)
      back (both_give k a) = both_give k (leaves a)
      back (both_stop a) = both_stop (leaves a)
      back outside = outside
      back (at_fault k) = absurd (cc k)

  pub scope_more : (quiet : Quiet (any_cells hidden)) (stack : StackSeen (any_cells hidden)) (uses : Bool) {ds es : List Declared} → NamesMore hidden ds es → {m k : M Value} → Alike (any_cells hidden) Equal m k →
      Alike (any_cells hidden) Equal (in_scope (scope_by ds uses) m) (in_scope (scope_by es uses) k)
  scope_more quiet stack uses {ds} {es} g h = scoped_more _ _ (same_cells uses) (stack_alike (any_cells hidden) quiet uses (λ _. stack) h)
    where
      same_cells : (b : Bool) (y : Text) → hidden y ≡ false → is_among (if b then stack_cell ∷ names_of_all es else names_of_all es) y ≡ is_among (if b then stack_cell ∷ names_of_all ds else names_of_all ds) y
      same_cells true y e = ap (λ (b : Bool). bytes_eq stack_cell y || b) (names_more g y e)
      same_cells false y e = names_more g y e
