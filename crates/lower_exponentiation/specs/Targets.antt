-- A target that is read and then written, as it is taken apart: what goes in front, what is written, and what is read.
use Rattle.std.specs.Prelude.{◌≡◌, ℕ, ◌+◌, ◌*◌, ◌≤◌, Bool, true, false, List, [], ◌∷◌, length, map, Option, is_some}
use Rattle.es_tree.specs.Fresh.{node_base}
use Rattle.es_tree.specs.Names.{first_text}
use Rattle.es_tree.specs.Tree.{Tree, node, Label, done, tree_size, trees, trees_size}
use Rattle.es_tree.specs.Words.{Text}
use Rattle.es_tree.specs.declared.ast_type.AstType.TheVariants.{Identifier, PrivateIdentifier}
use Rattle.es_scope.specs.declared.context.TraverseCtx.{TraverseCtx}
use Rattle.es_scope.specs.declared.context_names.BoundIdentifier.{BoundIdentifier}
use Rattle.es_runs.specs.Exponentiation.{is_literal_key, string_node}
use Rattle.es_runs.specs.Rules.{assign_node}
use Rattle.es_resolution.specs.Declarations.{Bound}
use Rattle.es_resolution.specs.Seen.{seen}
use Rattle.es_steps.specs.Duplication.{IsNext, no_symbol}
use Rattle.es_steps.specs.Exponentiation.{ExponentiationRule, Holds, TargetTwice}
use Rattle.es_steps.specs.Nodes.{identifier}
use Rattle.es_steps.specs.Steps.{Whole}
use Rattle.es_changes.specs.Moments.{whole_at}
use Rattle.es_conditions.specs.CoreConditions.{is_free}
use Rattle.es_traverse.specs.Laws.{Known}
use Rattle.es_traverse.specs.Loads.{load, trees_load}
use Rattle.lower_temporaries.specs.Declarators.{bound_as}
use Rattle.lower_temporaries.specs.Replacings.{Replaces}
use Rattle.lower_temporaries.specs.Takings.{Takes, moment_of}
use Rattle.lower_temporaries.specs.declared.state.TransformState.{TransformState}
use Rattle.lower_exponentiation.specs.Exponentiations.{IsCallOrAssignment, is_evaluated_key, is_expression_key}
use Rattle.lower_exponentiation.specs.declared.targets.Twice.{Twice}

-- of the parts of a target that are used twice, as they are seen whatever scopes bind
abbrev pub SeenTwice : (Tree → List Tree → Tree → Tree → Type 0) → Tree → Twice → Type 0
SeenTwice P t r = (names : ℕ → Text → Option ℕ) → P (seen names t) (map (seen names) r.first.items) (seen names r.written) (seen names r.read)

-- the symbols whose names stay: all, or none
abbrev pub names_that_stay : Bool → Option ℕ → Bool
names_that_stay true = is_some
names_that_stay false = no_symbol

-- TEMPORARIES

-- An expression is assigned to a temporary, which is declared: four nodes more.
pub record AssignsTemporary (old new : TraverseCtx TransformState) (t assign : Tree) (b : BoundIdentifier) : Type 0 where
  pub next : IsNext (whole_at (moment_of old)) (node_base t) (bound_as b)
  pub takes : Takes (bound_as b ∷ []) 4 (moment_of old) (moment_of new)
  pub wrote : assign ≡ assign_node (identifier (bound_as b)) t

-- An expression goes in front, assigned to a temporary, which is then written and read: six nodes more.
pub record InTemporary (old new : TraverseCtx TransformState) (t : Tree) (first : List Tree) (written read : Tree) : Type 0 where
  pub temporary : Bound
  pub next : IsNext (whole_at (moment_of old)) (node_base t) temporary
  pub takes : Takes (temporary ∷ []) 6 (moment_of old) (moment_of new)
  pub first_is : first ≡ assign_node (identifier temporary) t ∷ []
  pub written_is : written ≡ identifier temporary
  pub read_is : read ≡ identifier temporary

-- Nothing goes in front, and the node is written and read.
pub record IsWrittenAndRead (t : Tree) (first : List Tree) (written read : Tree) : Type 0 where
  pub first_is : first ≡ []
  pub written_is : written ≡ t
  pub read_is : read ≡ t

-- KEYS

-- The temporaries that a key takes, what goes in front, the key, and what is written and read for it; before, whether it is evaluated, and
-- whether it stands between brackets in the source and in what is made.
pub data KeyTwice (w : Whole) : Bool → Bool → Bool → List Bound → List Tree → Tree → Tree → Type 0 where
  named_key : {k : Label} → KeyTwice w false false true [] [] (node Identifier k done) (string_node (first_text k.texts))
  private_key : {k : Label} → KeyTwice w false false false [] [] (node PrivateIdentifier k done) (node PrivateIdentifier k done)
  written_again : {k : Tree} → is_literal_key k ≡ true → KeyTwice w false true true [] [] k k
  by_temporary : {k : Tree} {y : Bound} → is_literal_key k ≡ false → IsNext w (node_base k) y → KeyTwice w true true true (y ∷ []) (assign_node (identifier y) k ∷ []) k (identifier y)

-- A PART THAT IS USED TWICE

-- By a rule a part of a target takes temporaries, something goes in front, and this is written and this read. Each node more has an id of
-- its own, of which there are at most so many, and the load rises by at most so much.
pub record UsedTwice (R : List Bound → List Tree → Tree → Tree → Type 0) (most heaviest : ℕ) (old new : TraverseCtx TransformState) (t : Tree) (first : List Tree) (written read : Tree) : Type 0 where
  pub made : List Bound
  pub ids : ℕ
  pub takes : Takes made ids (moment_of old) (moment_of new)
  pub rule : R made first written read
  pub few : ids ≤ most
  pub nodes : trees_size (trees first) + tree_size written + tree_size read + 2 * length made ≤ tree_size t + ids
  pub lighter : ids + 4 * length made + trees_load (trees first) + load written + load read ≤ load t + heaviest

-- an object, of which names may stay or not
abbrev pub UsesObject : Bool → TraverseCtx TransformState → TraverseCtx TransformState → Tree → List Tree → Tree → Tree → Type 0
UsesObject by_name old new t first written read =
    UsedTwice (λ xs fs w again. Holds (names_that_stay by_name) (whole_at (moment_of old)) xs fs t w × (again ≡ w)) 6 15 old new t first written read

-- a key, between brackets or not
abbrev pub UsesKey : Bool → TraverseCtx TransformState → TraverseCtx TransformState → Tree → List Tree → Tree → Tree → Type 0
UsesKey computed old new k first written read =
    UsedTwice (λ xs fs w again. KeyTwice (whole_at (moment_of old)) (is_evaluated_key computed k) computed (is_expression_key computed k) xs fs k w × (again ≡ w)) 6 15 old new k first written read

-- a target
abbrev pub UsesTarget : TraverseCtx TransformState → TraverseCtx TransformState → Tree → List Tree → Tree → Tree → Type 0
UsesTarget old new t first written read =
    UsedTwice (λ xs fs w again. TargetTwice (whole_at (moment_of old)) xs fs t w again) 14 33 old new t first written read

-- WHAT IS WRITTEN

-- how many nodes are made where these go in front: an assignment, a call of `Math.pow`, and a sequence
abbrev pub nodes_around : List Tree → ℕ
nodes_around [] = 5
nodes_around (f ∷ fs) = 6

-- An exponentiation became another node by the row, wherever it fits and `Math` is unbound.
pub record Lowers (old new : TraverseCtx TransformState) (t u : Tree) : Type 0 where
  pub replaces : Replaces (Known (is_free old.options)) ExponentiationRule (moment_of old) t (moment_of new) u
  pub made : IsCallOrAssignment u
