-- The properties of a pattern with a rest, in groups: what was made of them and their source.
use Rattle.std.specs.Prelude.{◌+◌, ◌++◌, ◌∷◌, ◌≡◌, Bool, List, Option, [], codes, false, if◌then◌else◌, map, true, ℕ}
use Rattle.es_tree.specs.Fresh.{node_base}
use Rattle.es_tree.specs.Tree.{Fields, Label, Tree, Trees, done, empty, fields, node, one, trees, ◌before◌, ◌then◌}
use Rattle.es_tree.specs.Views.{plain_fields}
use Rattle.es_tree.specs.Words.{Text}
use Rattle.es_tree.specs.declared.ast_type.AstType.TheVariants.{ArrayExpression, PatternProperty}
use Rattle.es_scope.specs.declared.context.TraverseCtx.{TraverseCtx}
use Rattle.es_resolution.specs.Declarations.{Bound}
use Rattle.es_resolution.specs.Seen.{seen, seen_among, seen_in}
use Rattle.es_steps.specs.Duplication.{IsNext}
use Rattle.es_steps.specs.Nodes.{call_node, identifier, joined_trees, made, member_node}
use Rattle.es_steps.specs.ObjectRest.{helper_node}
use Rattle.es_steps.specs.Rules.{with_made}
use Rattle.es_steps.specs.Steps.{Whole}
use Rattle.es_changes.specs.Moments.{Moment, whole_at}
use Rattle.es_rest_rows.specs.RestRows.{groups, keyed_by, keys_of, names_key}
use Rattle.es_rest_shapes.specs.RestShapes.{any_tree, reads_key}
use Rattle.lower_temporaries.specs.Helpers.{elements}
use Rattle.lower_temporaries.specs.SeenTrees.{IsSeenAs}
use Rattle.lower_temporaries.specs.Takings.{TakesBound, moment_of}
use Rattle.lower_temporaries.specs.declared.state.TransformState.{TransformState}
use Rattle.lower_object_rest.specs.Profile.{key_ids}
use Rattle.lower_object_rest.specs.declared.groups.Groups.{Groups as RestGroups}
use Rattle.lower_object_rest.specs.declared.groups.NamedKey.{NamedKey}

-- IDS

-- So many ids are given, and names may be made: all else is as before.
pub record Gives (ids : ℕ) (a b : Moment) : Type 0 where
  pub next_is : b.next ≡ a.next + ids
  pub lists_are : b.lists ≡ a.lists
  pub around_is : b.around ≡ a.around
  pub options_are : b.options ≡ a.options

-- NAMES

-- the names of the keys that are read among these properties: of each the next one of its base
pub data NamesRead : Whole → Trees → List Bound → Whole → Type 0 where
  no_properties : {w : Whole} → NamesRead w empty [] w
  knows : {w w' : Whole} {p : Tree} {ps : Trees} {xs : List Bound} → reads_key p ≡ false → NamesRead w ps xs w' → NamesRead w (p before ps) xs w'
  reads_one : {w w' : Whole} {l : Label} {k v : Tree} {ps : Trees} {xs : List Bound} (x : Bound) → reads_key (node PatternProperty l (one k then one v then done)) ≡ true → IsNext w (node_base k) x →
      NamesRead (with_made (x ∷ []) w) ps xs w' → NamesRead w (node PatternProperty l (one k then one v then done) before ps) (x ∷ xs) w'

-- GROUPS

-- What was made of these properties and their source. Properties that come behind them make of it what they make of the whole: `first` are the
-- declarators so far, and in front of what comes stand the properties of the open group.
pub record MakesGroups (old new : TraverseCtx TransformState) (ps : List Tree) (s : Tree) (g : RestGroups) : Type 0 where
  pub bound : List Bound
  pub named : NamesRead (whole_at (moment_of old)) (trees ps) bound (whole_at (moment_of new))
  pub declare : (names : ℕ → Text → Option ℕ) (lp : Label) (xs : List Bound) (more : Trees) →
      groups lp (seen names s) (bound ++ xs) empty (joined_trees (seen_among names (trees ps)) more) ≡ joined_trees (seen_among names (trees g.declarators.items)) (groups lp (seen names s) xs (seen_among names (trees g.properties.items)) more)
  pub keys : (ℕ → Text → Option ℕ) → List Tree
  pub keys_seen : (names : ℕ → Text → Option ℕ) → seen_in names (plain_fields g.keys.items) ≡ elements (keys names)
  pub keys_are : (names : ℕ → Text → Option ℕ) (xs : List Bound) (more : Trees) → keys_of (bound ++ xs) (joined_trees (seen_among names (trees ps)) more) ≡ keys names ++ keys_of xs more
  pub read : g.is_read ≡ any_tree reads_key (trees ps)
  pub gives : Gives (key_ids (trees ps)) (moment_of old) (moment_of new)

-- one property more, whatever came before it
abbrev pub AddsProperty : TraverseCtx TransformState → TraverseCtx TransformState → Tree → Tree → RestGroups → RestGroups → Type 0
AddsProperty old new p s g h = (first : TraverseCtx TransformState) (ps : List Tree) → MakesGroups first old ps s g → MakesGroups first new (ps ++ p ∷ []) s h

-- The key of a property gets the next name of its base: a declarator of that name, the property with the name in the key's place, and the name as
-- an element of the keys.
pub record NamesKey (old new : TraverseCtx TransformState) (p : Tree) (k : NamedKey) : Type 0 where
  pub label : Label
  pub key : Tree
  pub value : Tree
  pub was : p ≡ node PatternProperty label (one key then one value then done)
  pub name : Bound
  pub next : IsNext (whole_at (moment_of old)) (node_base key) name
  pub declarator_is : (names : ℕ → Text → Option ℕ) → seen names k.declarator ≡ names_key name (seen names p)
  pub property_is : (names : ℕ → Text → Option ℕ) → seen names k.property ≡ keyed_by name (seen names p)
  pub element_is : IsSeenAs k.element (identifier name)
  pub takes : TakesBound name 4 (moment_of old) (moment_of new)
