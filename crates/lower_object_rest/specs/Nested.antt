-- Patterns that bear a rest in the properties of another: what was made of them and of that pattern's source.
use Rattle.std.specs.Prelude.{◌+◌, ◌++◌, ◌∷◌, ◌≡◌, Bool, List, Option, [], codes, false, if◌then◌else◌, true, ℕ}
use Rattle.es_tree.specs.Constructs.{any_kind, is_rest}
use Rattle.es_tree.specs.Tree.{Label, Tree, Trees, done, empty, node, one, trees, trees_size, ◌before◌, ◌then◌}
use Rattle.es_tree.specs.Words.{Text}
use Rattle.es_tree.specs.declared.ast_type.AstType.TheVariants.{AssignmentPattern}
use Rattle.es_scope.specs.declared.context.TraverseCtx.{TraverseCtx}
use Rattle.es_resolution.specs.Declarations.{Bound}
use Rattle.es_resolution.specs.Seen.{seen, seen_among}
use Rattle.es_steps.specs.Duplication.{IsNext}
use Rattle.es_steps.specs.Nodes.{identifier, joined_trees}
use Rattle.es_steps.specs.ObjectRest.{declares_as, declares_some, pattern_node}
use Rattle.es_steps.specs.Open.{Additions, Pending, opened}
use Rattle.es_steps.specs.Steps.{Site, Step, Steps, ledger}
use Rattle.es_changes.specs.Moments.{Moment, whole_at}
use Rattle.es_valid_rests.specs.RestRules.{all_declare}
use Rattle.es_rest_rows.specs.RestRows.{RestWalkRow, declaring, is_exported, is_kept, property_of}
use Rattle.es_rest_shapes.specs.RestShapes.{are_plain, bears_among, is_plain_pattern}
use Rattle.lower_nodes.specs.Nodes.{Paid, owed_among}
use Rattle.lower_temporaries.specs.SeenTrees.{IsSeenAs}
use Rattle.lower_temporaries.specs.Takings.{TakesBound, moment_of}
use Rattle.lower_temporaries.specs.declared.state.TransformState.{TransformState}
use Rattle.lower_object_rest.specs.Declarators.{AreKnown, AreSettled, Grows}
use Rattle.lower_object_rest.specs.Profile.{nested_ids, rest_owes}
use Rattle.lower_object_rest.specs.declared.nested.PropertyOut.{PropertyOut}

-- A PROPERTY whose pattern was taken out

-- a pattern in the value of a property, and that value with a node in the pattern's place
pub data Puts (x p : Tree) : Tree → Tree → Type 0 where
  for_pattern : Puts x p p x
  with_default : (l : Label) (e : Tree) → Puts x p (node AssignmentPattern l (one p then one e then done)) (node AssignmentPattern l (one x then one e then done))

pub record PutsInto (x v p u : Tree) : Type 0 where
  pub plain : is_plain_pattern p ≡ true
  pub puts : Puts x p v u

-- The pattern gives way to the next name of the base `ref`, which is then read.
pub record TakesOut (old new : TraverseCtx TransformState) (q : Tree) (out : PropertyOut) : Type 0 where
  pub label : Label
  pub key : Tree
  pub value : Tree
  pub was : q ≡ property_of label key value
  pub name : Bound
  pub next : IsNext (whole_at (moment_of old)) (codes "ref") name
  pub binding : Tree
  pub binding_is : IsSeenAs binding (identifier name)
  pub named : Tree
  pub put : PutsInto binding value out.pattern named
  pub property_is : out.property ≡ property_of label key named
  pub name_is : IsSeenAs out.name (identifier name)
  pub takes : TakesBound name 2 (moment_of old) (moment_of new)

-- STEPS from declarators to others, of which the first are settled, and the others are as well known

pub record Turns (a : Moment) (ds : Trees) (b : Moment) (us es : Trees) : Type 0 where
  pub steps : AreKnown ds → (n : Site) (m : Label) (cs fs : Trees) → is_exported n ≡ false → all_declare cs ≡ true → all_declare fs ≡ true → (q : Pending) (x : Option Bound) (y : Additions) →
      Steps (Step RestWalkRow n) (ledger (whole_at a) q x y) (opened (declaring m (joined_trees cs (joined_trees ds fs)))) (ledger (whole_at b) q x y) (opened (declaring m (joined_trees cs (joined_trees us (joined_trees es fs)))))
  pub settled : AreKnown ds → AreSettled us
  pub known : AreKnown ds → AreKnown es

-- PROPERTIES, one after another

-- the declarator of these properties, as it was, or once others were made of it
abbrev pub declares_left : Bool → Label → Label → Tree → Trees → Trees
declares_left false l lp s ps = declares_as l (pattern_node lp ps) s before empty
declares_left true l lp s ps = declares_some lp s ps

-- four ids are left, once declarators were made
abbrev pub left_ids : Bool → ℕ
left_ids made = if made then 4 else 0

-- What was made of these properties and their source, where others come behind them: declarators, and the last of the properties, which bear no rest
-- and stand in front of those that come.
pub record PartsMade (old new : TraverseCtx TransformState) (ps : List Tree) (s : Tree) (these us : List Tree) : Type 0 where
  pub turns : (names : ℕ → Text → Option ℕ) (l lp : Label) (more : Trees) → are_plain (joined_trees (seen_among names (trees ps)) more) ≡ true → is_kept (whole_at (moment_of old)) (pattern_node lp (joined_trees (seen_among names (trees ps)) more)) (seen names s) ≡ true →
      Turns (moment_of old) (declares_as l (pattern_node lp (joined_trees (seen_among names (trees ps)) more)) (seen names s) before empty) (moment_of new) (seen_among names (trees us)) (declares_left (bears_among (trees ps)) l lp (seen names s) (joined_trees (seen_among names (trees these)) more))
  pub front : List Tree
  pub behind : ps ≡ front ++ these
  pub kinds : any_kind is_rest (trees these) ≡ false
  pub clear : bears_among (trees these) ≡ false
  pub grows : Grows (moment_of old) (moment_of new)
  pub paid : Paid (moment_of old) (nested_ids (trees ps) + owed_among rest_owes (trees ps)) (trees_size (trees ps)) (moment_of new) (left_ids (bears_among (trees ps)) + owed_among rest_owes (trees us) + owed_among rest_owes (trees these)) (trees_size (trees us) + trees_size (trees these))

-- one property more, whatever came before it
pub record AddsPart (old new : TraverseCtx TransformState) (p s : Tree) (these us those vs : List Tree) : Type 0 where
  pub added : List Tree
  pub are : vs ≡ us ++ added
  pub more : (first : TraverseCtx TransformState) (ps ts : List Tree) → PartsMade first old ps s these ts → PartsMade first new (ps ++ p ∷ []) s those (ts ++ added)
