-- What the hook of expressions leaves of a node.
use Rattle.std.specs.Prelude.{◌≡◌, Bool, true, false}
use Rattle.es_conditions.specs.Laws.{called_by}
use Rattle.es_changes.specs.Moments.{Moment}
use Rattle.es_tree.specs.Tree.{Tree, Trees, Label}
use Rattle.lower_chains.specs.Chains.{LowersAt, LowersInside, anywhere_at, takes_by}
use Rattle.lower_chains.specs.Spines.{calls_chain, deletes_chain, has_chain, is_marked_chain}

-- a call with its callee lowered
pub record LowersCall (no_all : Bool) (a : Moment) (t : Tree) (b : Moment) (u : Tree) : Type 0 where
  pub l : Label
  pub callee : Tree
  pub made_of : Tree
  pub arguments : Trees
  pub chain : has_chain callee ≡ true
  pub inside : LowersInside no_all a callee b made_of
  pub before : t ≡ called_by l callee arguments
  pub after : u ≡ called_by l made_of arguments

-- a chain, `delete` of one, or a call of one was lowered; all else stays
pub data LowersNode (no_all : Bool) (a : Moment) (t : Tree) (b : Moment) (u : Tree) : Type 0 where
  as_chain : is_marked_chain t ≡ true → LowersAt (takes_by false) no_all a t b u → LowersNode no_all a t b u
  as_delete : deletes_chain t ≡ true → LowersAt anywhere_at no_all a t b u → LowersNode no_all a t b u
  as_call : LowersCall no_all a t b u → LowersNode no_all a t b u
  as_it_was : is_marked_chain t ≡ false → deletes_chain t ≡ false → calls_chain t ≡ false → a ≡ b → t ≡ u → LowersNode no_all a t b u
