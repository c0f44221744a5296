-- Declarators that came of others: by rows wherever a declaration of them stands that isn't exported, and with none left to lower.
use Rattle.std.specs.Prelude.{◌+◌, ◌++◌, ◌∷◌, ◌≡◌, List, Option, [], false, true, ℕ}
use Rattle.es_tree.specs.HasForm.{trees_form}
use Rattle.es_tree.specs.Tree.{Label, Tree, Trees, empty, tree_size, trees, trees_size, ◌before◌}
use Rattle.es_tree.specs.Walks.{any_in_trees}
use Rattle.es_tree.specs.Words.{Text}
use Rattle.es_tree.specs.declared.table.Sort.TheVariants.{VariableDeclarator as s-VariableDeclarator}
use Rattle.es_scope.specs.declared.context.TraverseCtx.{TraverseCtx}
use Rattle.es_resolution.specs.Declarations.{Bound}
use Rattle.es_resolution.specs.Resolved.{bound_by}
use Rattle.es_resolution.specs.Seen.{seen, seen_among}
use Rattle.es_steps.specs.Nodes.{joined_trees}
use Rattle.es_steps.specs.ObjectRest.{declares_as}
use Rattle.es_steps.specs.Open.{Additions, Pending, opened}
use Rattle.es_steps.specs.Steps.{Site, Step, Steps, ledger}
use Rattle.es_changes.specs.Moments.{Moment, whole_at}
use Rattle.es_valid_rests.specs.RestRules.{all_declare}
use Rattle.es_rest_rows.specs.RestRows.{RestWalkRow, declaring, is_exported, is_kept}
use Rattle.es_rest_shapes.specs.RestShapes.{any_tree, bears_rest, is_rest_declaration, is_rest_declarator, is_stray_rest}
use Rattle.lower_nodes.specs.Nodes.{Paid, owed, owed_among}
use Rattle.lower_temporaries.specs.Takings.{moment_of}
use Rattle.lower_temporaries.specs.declared.state.TransformState.{TransformState}
use Rattle.lower_object_rest.specs.Profile.{rest_owes}

-- what is known of the declarators of a declaration: they have form, and no pattern with a rest stands in them that isn't lowered
pub record AreKnown (ds : Trees) : Type 0 where
  pub formed : trees_form s-VariableDeclarator s-VariableDeclarator ds ≡ true
  pub strays : any_in_trees is_stray_rest ds ≡ false
  pub inside : any_in_trees is_rest_declaration ds ≡ false

-- none is left to lower, in them or in what stands in them, and none stands elsewhere
pub record AreSettled (us : Trees) : Type 0 where
  pub declare : all_declare us ≡ true
  pub rests : any_tree is_rest_declarator us ≡ false
  pub inside : any_in_trees is_rest_declaration us ≡ false
  pub patterns : any_tree bears_rest us ≡ false
  pub strays : any_in_trees is_stray_rest us ≡ false

pub record Rows (a : Moment) (ds : Trees) (b : Moment) (us : Trees) : Type 0 where
  pub steps : AreKnown ds → (n : Site) (m : Label) (cs es : Trees) → is_exported n ≡ false → all_declare cs ≡ true → all_declare es ≡ true → (q : Pending) (x : Option Bound) (y : Additions) →
      Steps (Step RestWalkRow n) (ledger (whole_at a) q x y) (opened (declaring m (joined_trees cs (joined_trees ds es)))) (ledger (whole_at b) q x y) (opened (declaring m (joined_trees cs (joined_trees us es))))
  pub settled : AreKnown ds → AreSettled us

-- the names that were made are among those made now, and the same symbols are written nowhere
pub record Grows (a b : Moment) : Type 0 where
  pub made : (x : Text) → bound_by a.made x ≡ true → bound_by b.made x ≡ true
  pub steady : b.steady ≡ a.steady

-- with the ids that are given for it
pub record LowersAll (old new : TraverseCtx TransformState) (ds us : List Tree) : Type 0 where
  pub paid : Paid (moment_of old) (owed_among rest_owes (trees ds)) (trees_size (trees ds)) (moment_of new) (owed_among rest_owes (trees us)) (trees_size (trees us))
  pub grows : Grows (moment_of old) (moment_of new)
  pub rows : (names : ℕ → Text → Option ℕ) → Rows (moment_of old) (seen_among names (trees ds)) (moment_of new) (seen_among names (trees us))

-- A pattern and its source, in whatever declarator: that itself is no node that counts.
pub record LowersPattern (old new : TraverseCtx TransformState) (p e : Tree) (us : List Tree) : Type 0 where
  pub paid : Paid (moment_of old) (owed rest_owes p + owed rest_owes e) (tree_size p + tree_size e) (moment_of new) (owed_among rest_owes (trees us)) (trees_size (trees us))
  pub grows : Grows (moment_of old) (moment_of new)
  pub rows : (names : ℕ → Text → Option ℕ) (l : Label) → Rows (moment_of old) (declares_as l (seen names p) (seen names e) before empty) (moment_of new) (seen_among names (trees us))

-- The same of a source that is kept: three ids are left, for one that is stored.
pub record LowersKept (old new : TraverseCtx TransformState) (p s : Tree) (us : List Tree) : Type 0 where
  pub paid : Paid (moment_of old) (owed rest_owes p + owed rest_owes s) (tree_size p + tree_size s) (moment_of new) (3 + owed_among rest_owes (trees us)) (trees_size (trees us))
  pub grows : Grows (moment_of old) (moment_of new)
  pub rows : (names : ℕ → Text → Option ℕ) (l : Label) → is_kept (whole_at (moment_of old)) (seen names p) (seen names s) ≡ true → Rows (moment_of old) (declares_as l (seen names p) (seen names s) before empty) (moment_of new) (seen_among names (trees us))

-- WHAT CAME OF THEM stands behind those made before.

pub record AddsAll (old new : TraverseCtx TransformState) (ds ts us : List Tree) : Type 0 where
  pub added : List Tree
  pub are : us ≡ ts ++ added
  pub lowers : LowersAll old new ds added

-- of one declarator
abbrev pub AddsDeclarators : TraverseCtx TransformState → TraverseCtx TransformState → Tree → List Tree → List Tree → Type 0
AddsDeclarators old new d ts us = AddsAll old new (d ∷ []) ts us

-- of a pattern and its source
pub record AddsPattern (old new : TraverseCtx TransformState) (p e : Tree) (ts us : List Tree) : Type 0 where
  pub added : List Tree
  pub are : us ≡ ts ++ added
  pub lowers : LowersPattern old new p e added

pub record AddsKept (old new : TraverseCtx TransformState) (p s : Tree) (ts us : List Tree) : Type 0 where
  pub added : List Tree
  pub are : us ≡ ts ++ added
  pub lowers : LowersKept old new p s added
