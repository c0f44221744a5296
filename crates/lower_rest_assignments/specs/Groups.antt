-- The pattern of an assignment taken apart, and what is made of its parts: each record tells the temporaries that are taken, the ids that are given,
-- and the assignments that are added.
use Rattle.std.specs.Prelude.{◌≡◌, ◌≤◌, ℕ, ◌+◌, ◌*◌, List, [], ◌∷◌, ◌++◌, length, map, Option, false, true}
use Rattle.es_tree.specs.Bare.{bare_label}
use Rattle.es_tree.specs.Constructs.{any_kind, is_rest}
use Rattle.es_tree.specs.CoreStaticRules.{is_simple_target}
use Rattle.es_tree.specs.Heads.{head_of, label}
use Rattle.es_tree.specs.Parens.{without_parens}
use Rattle.es_tree.specs.Tree.{Tree, node, Label, done, ◌then◌, many, Trees, empty, ◌before◌, kind_of, tree_size, trees, trees_size}
use Rattle.es_tree.specs.Words.{Text}
use Rattle.es_tree.specs.declared.ast_type.AstType.TheVariants.{ObjectTarget}
use Rattle.es_tree.specs.declared.kind.Kind.TheVariants.{ObjectTarget as k-ObjectTarget}
use Rattle.es_tree.specs.declared.node.Field.TheVariants.{One}
use Rattle.es_scope.specs.declared.context.TraverseCtx.{TraverseCtx}
use Rattle.es_resolution.specs.Declarations.{Bound}
use Rattle.es_resolution.specs.Seen.{seen, seen_among}
use Rattle.es_steps.specs.Nodes.{identifier, joined_trees}
use Rattle.es_steps.specs.RestAssignments.{Groups, TakesTarget, object_target, rest_target, whole_assigned}
use Rattle.es_changes.specs.Moments.{whole_at}
use Rattle.es_traverse.specs.Loads.{load, members_allowance, trees_load}
use Rattle.lower_temporaries.specs.Takings.{ReadsMore, Takes, moment_of}
use Rattle.lower_temporaries.specs.declared.state.TransformState.{TransformState}
use Rattle.lower_rest_assignments.specs.Assignments.{are_properties}
use Rattle.lower_rest_assignments.specs.declared.groups.OpenGroups.{OpenGroups}
use Rattle.lower_rest_assignments.specs.declared.groups.RestPattern.{RestPattern}

abbrev pub pattern_label : RestPattern → Label
pattern_label r = label r.id r.span (head_of k-ObjectTarget)

-- These properties and a rest of this target, which is a name or a member, make the pattern.
pub record Opens (p : Tree) (r : RestPattern) : Type 0 where
  pub rest : Label
  pub pattern : p ≡ object_target (pattern_label r) (r.properties.items ++ rest_target rest r.target ∷ [])
  pub whole : are_properties (trees r.properties.items) ≡ true
  pub simple : is_simple_target (kind_of (without_parens r.target)) ≡ true

-- A PROPERTY MORE, of a source with this name: what comes for those behind it makes of it what comes for it and those. Each node more has an id of its own,
-- and of the load the property may take twenty.
pub record AddsProperty (s : Bound) (old new : TraverseCtx TransformState) (p : Tree) (g h : OpenGroups) : Type 0 where
  pub made : List Bound
  pub ids : ℕ
  pub takes : Takes made ids (moment_of old) (moment_of new)
  pub added : List Tree
  pub key : Tree
  pub assignments : h.assignments.items ≡ g.assignments.items ++ added
  pub keys : h.keys.items ≡ g.keys.items ++ One key ∷ []
  pub groups : (names : ℕ → Text → Option ℕ) (lp : Label) (ks : List Tree) (ts : Trees) (xs : List Bound) (us : List Tree) →
      Groups (identifier s) lp (whole_at (moment_of new)) h.is_read (map (seen names) h.properties.items) (ks ++ seen names key ∷ []) ts xs us →
      Groups (identifier s) lp (whole_at (moment_of old)) g.is_read (map (seen names) g.properties.items) ks (seen names p before ts) (made ++ xs) (map (seen names) added ++ us)
  pub plain : any_kind is_rest (trees g.properties.items) ≡ false → any_kind is_rest (trees h.properties.items) ≡ false
  pub nodes : trees_size (trees added) + trees_size (trees h.properties.items) + tree_size key + 2 * length made ≤ trees_size (trees g.properties.items) + tree_size p + ids
  pub lighter : any_kind is_rest (trees g.properties.items) ≡ false → ids + 4 * length made + trees_load (trees added) + trees_load (trees h.properties.items) + load key ≤ trees_load (trees g.properties.items) + load p + 20

-- these as they are seen, before others
abbrev pub seen_before : (ℕ → Text → Option ℕ) → List Tree → Trees → Trees
seen_before names ps ts = joined_trees (seen_among names (trees ps)) ts

-- The properties up to these, behind these assignments.
pub record SplitsGroups (s : Bound) (old new : TraverseCtx TransformState) (first : List Tree) (all rest : List Tree) (g : OpenGroups) : Type 0 where
  pub made : List Bound
  pub ids : ℕ
  pub takes : Takes made ids (moment_of old) (moment_of new)
  pub added : List Tree
  pub keys : List Tree
  pub assignments_are : g.assignments.items ≡ first ++ added
  pub keys_are : g.keys.items ≡ map One keys
  pub groups : (names : ℕ → Text → Option ℕ) (lp : Label) (ts : Trees) (xs : List Bound) (us : List Tree) →
      Groups (identifier s) lp (whole_at (moment_of new)) g.is_read (map (seen names) g.properties.items) (map (seen names) keys) (seen_before names rest ts) xs us →
      Groups (identifier s) lp (whole_at (moment_of old)) false [] [] (seen_before names all ts) (made ++ xs) (map (seen names) added ++ us)
  pub plain : any_kind is_rest (trees g.properties.items) ≡ false
  pub whole : are_properties (trees rest) ≡ true
  pub nodes : trees_size (trees added) + trees_size (trees g.properties.items) + trees_size (trees keys) + trees_size (trees rest) + 2 * length made ≤ trees_size (trees all) + ids
  pub lighter : ids + 4 * length made + trees_load (trees added) + trees_load (trees g.properties.items) + trees_load (trees keys) + trees_load (trees rest) + members_allowance (trees rest) ≤ trees_load (trees all) + members_allowance (trees all)

-- THE REST, behind properties, and alone

pub record AddsGroups (s : Bound) (old new : TraverseCtx TransformState) (r : RestPattern) (first all : List Tree) : Type 0 where
  pub made : List Bound
  pub ids : ℕ
  pub takes : Takes made ids (moment_of old) (moment_of new)
  pub added : List Tree
  pub are : all ≡ first ++ added
  pub groups : (names : ℕ → Text → Option ℕ) (l : Label) → Groups (identifier s) (bare_label (pattern_label r)) (whole_at (moment_of old)) false [] [] (seen_before names r.properties.items (rest_target l (seen names r.target) before empty)) made (map (seen names) added)
  pub nodes : trees_size (trees added) + 2 * length made ≤ 1 + trees_size (trees r.properties.items) + tree_size r.target + ids
  pub lighter : ids + 4 * length made + trees_load (trees added) ≤ trees_load (trees r.properties.items) + members_allowance (trees r.properties.items) + load r.target + 31

pub record AddsAlone (s : Bound) (old new : TraverseCtx TransformState) (t : Tree) (first all : List Tree) : Type 0 where
  pub ids : ℕ
  pub reads : ReadsMore ids old new
  pub added : List Tree
  pub are : all ≡ first ++ added
  pub assigned : (names : ℕ → Text → Option ℕ) → map (seen names) added ≡ whole_assigned (identifier s) (seen names t)
  pub nodes : trees_size (trees added) ≤ tree_size t + ids
  pub lighter : ids + trees_load (trees added) ≤ load t + 32

-- THE PATTERN: of its load thirteen are left, for the value and the sequence.
pub record AddsPattern (s : Bound) (old new : TraverseCtx TransformState) (p : Tree) (first all : List Tree) : Type 0 where
  pub lp : Label
  pub ps : Trees
  pub is : p ≡ node ObjectTarget lp (many ps then done)
  pub made : List Bound
  pub ids : ℕ
  pub takes : Takes made ids (moment_of old) (moment_of new)
  pub added : List Tree
  pub are : all ≡ first ++ added
  pub taken : (names : ℕ → Text → Option ℕ) → TakesTarget (identifier s) (bare_label lp) (whole_at (moment_of old)) (seen_among names ps) made (map (seen names) added)
  pub nodes : trees_size (trees added) + 2 * length made ≤ tree_size p + ids
  pub lighter : ids + 4 * length made + trees_load (trees added) + 13 ≤ load p
