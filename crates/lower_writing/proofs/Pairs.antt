-- Pairs that are opened and closed, and what is kept between two moments.
use Rattle.std.proofs.Common.{◌≡◌, ◌+◌, ◌<◌, ◌≤◌, ◌^◌, ◌-◌, ℕ, refl, ap, arith, List, [], ◌∷◌, length}
use Rattle.std.specs.Prelude.{true, false, not, cond, ◌&&◌}
use Rattle.es_tree.specs.Tree.{Tree, empty}
use Rattle.es_steps.specs.Open.{Pending, is_statement_body, nothing_pending}
use Rattle.es_changes.specs.Changes.{HasRoom, Kept, Level, lists_size, lists_weight, pending_size, pending_weight}
use Rattle.es_changes.specs.Moments.{Moment, below, top, with_pair}
use Rattle.es_traverse.specs.Laws.{is_outermost, opens_body, opens_list}
use Rattle.lower_temporaries.specs.Declarators.{declarations_written}
use Rattle.lower_writing.specs.Writing.{after_writing}
use Rattle.lower_writing.proofs.InertTrees.{written-weight}

-- no pair for the list of the program, and one for another list
pub no-pair : (a : Moment) → is_outermost a.around ≡ true → opens_list true a ≡ a
no-pair a h = ap (λ b. cond (true && not b) (with_pair a) a) h

pub one-pair : (a : Moment) → is_outermost a.around ≡ false → opens_list true a ≡ with_pair a
one-pair a h = ap (λ b. cond (true && not b) (with_pair a) a) h

-- one for a body that is an expression
pub body-pair : (t : Tree) (a : Moment) → is_statement_body t ≡ false → opens_body true t a ≡ with_pair a
body-pair t a h = ap (λ b. cond (true && not b) (with_pair a) a) h

pub no-body-pair : (t : Tree) (a : Moment) → is_statement_body t ≡ true → opens_body true t a ≡ a
no-body-pair t a h = ap (λ b. cond (true && not b) (with_pair a) a) h

-- the pair on top is written and closed, and another opened
emptied-level : (ps : List Pending) → 0 < length ps → Level ps (nothing_pending ∷ below ps)
emptied-level [] h = absurd (omega arith)
emptied-level (p ∷ ps) h = record { deep = refl; outer = refl }

lists-weight-apart : (ps : List Pending) → lists_weight ps ≡ pending_weight (top ps) + lists_weight (below ps)
lists-weight-apart [] = omega arith
lists-weight-apart (p ∷ ps) = refl

lists-size-apart : (ps : List Pending) → lists_size ps ≡ pending_size (top ps) + lists_size (below ps)
lists-size-apart [] = omega arith
lists-size-apart (p ∷ ps) = refl

-- What was pending is written into a part, which takes so many ids more for what is made beside: where it weighs no more than what was
-- pending, and so many ids less, and each node of it has an id.
pub kept-emptied : (more : ℕ) (a : Moment) (w s w' s' : ℕ) → 0 < length a.lists → w' + declarations_written (top a.lists) + more ≤ pending_weight (top a.lists) + w → s' ≤ pending_size (top a.lists) + declarations_written (top a.lists) + more + s →
    Kept a w s (with_pair (after_writing more a)) w' s'
kept-emptied more a w s w' s' there lighter nodes = record {
  level = emptied-level a.lists there;
  around = refl;
  options = refl;
  counted = omega arith;
  lighter = omega (arith, lighter, lists-weight-apart a.lists);
  nodes = omega (arith, nodes, lists-size-apart a.lists);
}

declared-ids : (ps : Pending) → declarations_written ps ≤ pending_weight ps
declared-ids p = let h = written-weight p empty in omega (arith, h)

-- there is room for the ids of declarations
pub room-for-declarations : (a : Moment) (w : ℕ) → HasRoom a w → a.next + declarations_written (top a.lists) + w < 2 ^ 32 - 1
room-for-declarations a w h = omega (arith, h, lists-weight-apart a.lists, declared-ids (top a.lists))
