-- What parts of a program become, each with the next number of a name, and that the name is fresh; and what is made.
use Rattle.std.specs.Prelude.{◌≡◌, Bool, List, [], ◌∷◌, None, Option, Some, codes, ℕ, suc}
use Rattle.es_tree.specs.Fresh.{IsFreshName, node_base}
use Rattle.es_tree.specs.Tree.{Tree, node, Label, Fields, done, ◌then◌, missing, one, many, statements, empty, ◌before◌}
use Rattle.es_tree.specs.Words.{Text}
use Rattle.es_tree.specs.declared.ast_type.AstType.TheVariants.{BlockStatement, VariableDeclaration, VariableDeclarator}
use Rattle.es_scope.specs.declared.uids.UidGenerator.{UidGenerator}
use Rattle.es_steps.specs.Nodes.{made}
use Rattle.es_pattern_moves.specs.Moved.{Makes, in_block, name_of, plainly}
use Rattle.es_using_heads.specs.Heads.{head_base, headed_fields, headed_here, with_first}
use Rattle.lower_using_heads.specs.FreshHeads.{FreshHere}
use Rattle.lower_fresh_names.specs.Names.{name_with}
use Rattle.lower_fresh_names.specs.Walks.{WalksAs}

-- WHAT A PART BECOMES between these two states of the generator: x becomes y in this way, and the names that are made are fresh in this way
abbrev pub HeadsAs : {X Y : Type 0} → (Makes → ℕ → X → ℕ × Y) → ((Text → Bool) → List Text → ℕ → X → Type 0) → UidGenerator → UidGenerator → X → Y → Type 0
HeadsAs f F old new x y = WalksAs (λ names n z. f (plainly names) n z) F old new x y

-- a node, the parts of which were walked before
abbrev pub headed_node : Makes → ℕ → Tree → ℕ × Tree
headed_node m n (node k l fs) = headed_here m n k l fs

abbrev pub FreshNode : (Text → Bool) → List Text → ℕ → Tree → Type 0
FreshNode in_use names n (node k l fs) = FreshHere in_use names n k l fs

-- the fields of a loop out of whose head `using` moves
abbrev pub loop_fields : Makes → ℕ → Fields → ℕ × Fields
loop_fields m n fs = (suc n, headed_fields m n fs)

abbrev pub FreshFields : (Text → Bool) → List Text → ℕ → Fields → Type 0
FreshFields in_use names n fs = IsFreshName (with_first names n in_use) (head_base fs) (name_of names n)

-- a declarator in the head of a loop with this body: one of the fresh name, and the block
abbrev pub named_declarator : Tree → Makes → ℕ → Tree → ℕ × (Tree × Tree)
named_declarator b m n (node VariableDeclarator k (one x then missing then done)) = (suc n, (node VariableDeclarator k (one (m.name n x) then missing then done), in_block m (codes "using") n x b))
named_declarator b m n d = (n, (d, b))

abbrev pub declarator_base : Tree → Text
declarator_base (node VariableDeclarator k (one x then fs)) = node_base x
declarator_base _ = []

abbrev pub FreshDeclarator : (Text → Bool) → List Text → ℕ → Tree → Type 0
FreshDeclarator in_use names n d = IsFreshName (with_first names n in_use) (declarator_base d) (name_of names n)

-- the name that it declares: the fresh name, and the block
abbrev pub moved_into_block : Tree → Makes → ℕ → Tree → ℕ × (Tree × Tree)
moved_into_block b m n x = (suc n, (m.name n x, in_block m (codes "using") n x b))

abbrev pub FreshName : (Text → Bool) → List Text → ℕ → Tree → Type 0
FreshName in_use names n x = IsFreshName (with_first names n in_use) (node_base x) (name_of names n)

-- A DECLARATOR of a name alone, without a value
pub record DeclaresName (t : Tree) : Type 0 where
  pub label : Label
  pub name : Tree
  pub tree : t ≡ node VariableDeclarator label (one name then missing then done)

-- WHAT IS MADE, with this id

abbrev pub made_with : ℕ → List (Option Text) → Label
made_with id texts = record (made texts []) { id = id }

-- `using x = v;`
abbrev pub using_with : ℕ → Tree → Tree → Tree
using_with id x v = node VariableDeclaration (made_with id (Some (codes "using") ∷ [])) (many (node VariableDeclarator (made_with id []) (one x then one v then done) before empty) then done)

-- `{ using x = y; b }`
abbrev pub block_with : ℕ → Text → Tree → Tree → Tree
block_with id y x b = node BlockStatement (record (made_with id []) { marks = None ∷ [] }) (statements (using_with id x (name_with id y) before b before empty) then done)
