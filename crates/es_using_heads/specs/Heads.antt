-- `using` in the head of a `for`-`of` (Explicit Resource Management, 14.7.5): `for (using a of b) f(a);` becomes
-- `for (const _a of b) { using a = _a; f(a); }`, whose block is then lowered as any other. So it is where the right side doesn't ask the name, which it
-- would ask before it is set.
use Rattle.std.specs.Prelude.{◌≡◌, ◌&&◌, not, Bool, true, false, [], if◌then◌else◌, length, List, codes, ℕ, zero, suc}
use Rattle.es_tree.specs.Fresh.{IsFreshName, also, node_base}
use Rattle.es_tree.specs.Tree.{Tree, node, Label, Fields, done, ◌then◌, Field, missing, one, many, statements, Trees, empty, ◌before◌}
use Rattle.es_tree.specs.Words.{Text}
use Rattle.es_tree.specs.declared.ast_type.AstType.{AstType}
use Rattle.es_tree.specs.declared.ast_type.AstType.TheVariants.{ForOfStatement, VariableDeclaration, VariableDeclarator}
use Rattle.es_rest_shapes.specs.RestShapes.{is_name}
use Rattle.es_pattern_moves.specs.Moved.{Makes, in_block, name_of, plainly}
use Rattle.es_pattern_moves.specs.PatternMoves.{meets}
use Rattle.es_using_rows.specs.Used.{const_label}
use Rattle.es_using_rows.specs.UsingPlaces.{is_using_word}

-- THE LOOPS

-- one whose head declares a name alone, which passes this test beside the right side
abbrev pub from_head : (Tree → Tree → Bool) → Fields → Bool
from_head test (one (node VariableDeclaration l (many (node VariableDeclarator m (one x then missing then done) before empty) then done)) then one e then one b then done) = is_using_word l.texts && is_name x && test x e
from_head test _ = false

abbrev pub moves_from_head : Fields → Bool
moves_from_head fs = from_head (λ x e. not (meets x e)) fs

abbrev pub moves_using : AstType → Label → Fields → Bool
moves_using ForOfStatement l fs = moves_from_head fs
moves_using _ l fs = false

-- one whose right side asks the name
abbrev pub asks_from_head : Fields → Bool
asks_from_head fs = from_head meets fs

abbrev pub asks_its_name : AstType → Label → Fields → Bool
asks_its_name ForOfStatement l fs = asks_from_head fs
asks_its_name _ l fs = false

-- the loop with a constant in its head; what is made has the id of the name that moves
abbrev pub headed_fields : Makes → ℕ → Fields → Fields
headed_fields m n (one (node VariableDeclaration l (many (node VariableDeclarator k (one x then missing then done) before empty) then done)) then one e then one b then done) =
    one (node VariableDeclaration (const_label l) (many (node VariableDeclarator k (one (m.name n x) then missing then done) before empty) then done)) then one e then one (in_block m (codes "using") n x b) then done
headed_fields m n fs = fs

-- the base of the fresh name, which is named after the name that moves
abbrev pub head_base : Fields → Text
head_base (one (node VariableDeclaration l (many (node VariableDeclarator k (one x then fs) before ds) then gs)) then hs) = node_base x
head_base _ = []

-- the next number, and the node
abbrev pub headed_here : Makes → ℕ → AstType → Label → Fields → ℕ × Tree
headed_here m n k l fs = if moves_using k l fs then (suc n, node k l (headed_fields m n fs)) else (n, node k l fs)

-- A TREE, where names of this number and those after it are to be had: the next number, and what it becomes, each node after its parts
abbrev mutual
  pub headed : Makes → ℕ → Tree → ℕ × Tree
  headed m n (node k l fs) = headed_here m (headed_in m n fs).0 k l (headed_in m n fs).1

  pub headed_in : Makes → ℕ → Fields → ℕ × Fields
  headed_in m n done = (n, done)
  headed_in m n (f then fs) = ((headed_in m (headed_by m n f).0 fs).0, (headed_by m n f).1 then (headed_in m (headed_by m n f).0 fs).1)

  pub headed_by : Makes → ℕ → Field → ℕ × Field
  headed_by m n missing = (n, missing)
  headed_by m n (one t) = ((headed m n t).0, one (headed m n t).1)
  headed_by m n (many ts) = ((headed_among m n ts).0, many (headed_among m n ts).1)
  headed_by m n (statements ts) = ((headed_among m n ts).0, statements (headed_among m n ts).1)

  pub headed_among : Makes → ℕ → Trees → ℕ × Trees
  headed_among m n empty = (n, empty)
  headed_among m n (t before ts) = ((headed_among m (headed m n t).0 ts).0, (headed m n t).1 before (headed_among m (headed m n t).0 ts).1)

-- FRESH NAMES: each is the first of its base that isn't in use where those before it are

-- these names up to this number are in use, too
abbrev pub with_first : List Text → ℕ → (Text → Bool) → Text → Bool
with_first names zero in_use = in_use
with_first names (suc n) in_use = also (name_of names n) (with_first names n in_use)

module _ (m : Makes) (in_use : Text → Bool) (names : List Text) where
  abbrev pub FreshHere : ℕ → AstType → Label → Fields → Type 0
  FreshHere n k l fs = moves_using k l fs ≡ true → IsFreshName (with_first names n in_use) (head_base fs) (name_of names n)

  abbrev mutual
    pub Fresh : ℕ → Tree → Type 0
    Fresh n (node k l fs) = FreshIn n fs × FreshHere (headed_in m n fs).0 k l (headed_in m n fs).1

    pub FreshIn : ℕ → Fields → Type 0
    FreshIn n done = Unit {0}
    FreshIn n (f then fs) = FreshBy n f × FreshIn (headed_by m n f).0 fs

    pub FreshBy : ℕ → Field → Type 0
    FreshBy n missing = Unit {0}
    FreshBy n (one t) = Fresh n t
    FreshBy n (many ts) = FreshAmong n ts
    FreshBy n (statements ts) = FreshAmong n ts

    pub FreshAmong : ℕ → Trees → Type 0
    FreshAmong n empty = Unit {0}
    FreshAmong n (t before ts) = Fresh n t × FreshAmong (headed m n t).0 ts

-- What a program p becomes, with these fresh names, where these names are in use.
pub record HeadsTo (in_use : Text → Bool) (p q : Tree) (names : List Text) : Type 0 where
  pub fresh : Fresh (plainly names) in_use names 0 p
  pub count : (headed (plainly names) 0 p).0 ≡ length names
  pub tree : q ≡ (headed (plainly names) 0 p).1
