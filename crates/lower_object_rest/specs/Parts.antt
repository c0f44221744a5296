-- A pattern with a rest taken apart, and what is made of its parts.
use Rattle.std.specs.Prelude.{◌+◌, ◌∷◌, ◌≡◌, Bool, List, Option, [], bytes_eq, codes, false, true, ℕ}
use Rattle.std.specs.List.{list_any}
use Rattle.es_tree.specs.Bare.{bare_label}
use Rattle.es_tree.specs.BoundNames.{bound_identifiers}
use Rattle.es_tree.specs.Fresh.{node_base}
use Rattle.es_tree.specs.Heads.{head_of, label}
use Rattle.es_tree.specs.Names.{first_text}
use Rattle.es_tree.specs.Tree.{Label, Tree, Trees, empty, node, trees, ◌before◌}
use Rattle.es_tree.specs.Words.{Text}
use Rattle.es_tree.specs.declared.ast_type.AstType.TheVariants.{Identifier}
use Rattle.es_tree.specs.declared.kind.Kind.TheVariants.{ObjectPattern as k-ObjectPattern}
use Rattle.es_scope.specs.declared.context.TraverseCtx.{TraverseCtx}
use Rattle.es_resolution.specs.Declarations.{Bound}
use Rattle.es_resolution.specs.Seen.{seen, seen_among}
use Rattle.es_steps.specs.Duplication.{IsNext}
use Rattle.es_steps.specs.Nodes.{declarator_with, identifier, joined_trees}
use Rattle.es_steps.specs.ObjectRest.{helper_node, left_of, whole_value}
use Rattle.es_changes.specs.Moments.{whole_at}
use Rattle.es_rest_rows.specs.RestRows.{groups, keys_of, taken, with_rest}
use Rattle.es_rest_shapes.specs.RestShapes.{any_tree, are_plain, bears_among, is_name, is_named_rest, reads_key}
use Rattle.lower_temporaries.specs.SeenTrees.{IsSeenAs}
use Rattle.lower_temporaries.specs.Takings.{ReadsMore, TakesBound, moment_of}
use Rattle.lower_temporaries.specs.declared.state.TransformState.{TransformState}
use Rattle.lower_temporaries.specs.Helpers.{mapped_ids}
use Rattle.lower_object_rest.specs.Groups.{Gives, NamesRead}
use Rattle.lower_object_rest.specs.Profile.{key_ids}
use Rattle.es_patterns.specs.PatternsPlain.{plain_object_pattern}
use Rattle.es_patterns.specs.declared.patterns.ObjectPattern.{ObjectPattern}
use Rattle.lower_object_rest.specs.declared.rests.OpenPattern.{OpenPattern}
use Rattle.lower_object_rest.specs.declared.rests.OpenPattern.TheVariants.{WithRest, WithoutRest}
use Rattle.lower_object_rest.specs.declared.rests.RestPattern.{RestPattern}

-- whether a node is an identifier of this name
abbrev pub is_called : Text → Tree → Bool
is_called x (node Identifier l fs) = bytes_eq (first_text l.texts) x
is_called x _ = false

-- whether a pattern binds one
abbrev pub binds_called : Text → Tree → Bool
binds_called x p = list_any (is_called x) (bound_identifiers p)

-- These properties and this name of the rest make the pattern.
pub record Parts (p : Tree) (lp : Label) (ps : List Tree) (t : Tree) : Type 0 where
  pub rest : Label
  pub pattern : p ≡ with_rest lp (trees ps) rest t
  pub plain : are_plain (trees ps) ≡ true
  pub name : is_name t ≡ true

abbrev pub pattern_label : RestPattern → Label
pattern_label r = label r.id r.span (head_of k-ObjectPattern)

abbrev pub TakesApart : Tree → RestPattern → Type 0
TakesApart p r = Parts p (pattern_label r) r.properties.items r.target

-- whether the last member is a rest that is a name
abbrev pub ends_in_rest : List Tree → Bool
ends_in_rest [] = false
ends_in_rest (t ∷ []) = is_named_rest t
ends_in_rest (t ∷ u ∷ us) = ends_in_rest (u ∷ us)

-- These properties make the pattern, and a pattern in one of them bears a rest.
pub record IsWithoutRest (p : Tree) (q : ObjectPattern) : Type 0 where
  pub pattern : p ≡ plain_object_pattern q
  pub plain : are_plain (trees q.properties.items) ≡ true
  pub bears : bears_among (trees q.properties.items) ≡ true

-- a pattern taken apart, with a rest of its own or without
abbrev pub Opens : Tree → OpenPattern → Type 0
Opens p (WithRest r) = TakesApart p r
Opens p (WithoutRest q) = IsWithoutRest p q

-- what is seen of the parts of a pattern, as it is taken from this source with these names of keys
abbrev pub seen_taken : (ℕ → Text → Option ℕ) → Label → Tree → List Bound → List Tree → Tree → Trees
seen_taken names lp s xs ps t = taken (bare_label lp) (seen names s) xs (seen_among names (trees ps)) (seen names t)

-- so many ids are given for the declarators of a pattern with these properties beside its rest, or for one whose rest stands alone
abbrev pub taken_ids : Trees → ℕ
taken_ids empty = 12
taken_ids ps = 8 + key_ids ps + mapped_ids (any_tree reads_key ps)

-- Such a pattern and the name that is its source, as declarators: those of the pattern without its rest, in groups, and one of the rest;
pub record TakesBeside (old new : TraverseCtx TransformState) (r : RestPattern) (s : Tree) (us : List Tree) : Type 0 where
  pub bound : List Bound
  pub named : NamesRead (whole_at (moment_of old)) (trees r.properties.items) bound (whole_at (moment_of new))
  pub are : (names : ℕ → Text → Option ℕ) → seen_among names (trees us) ≡
      joined_trees (groups (bare_label (pattern_label r)) (seen names s) bound empty (seen_among names (trees r.properties.items)))
      (declarator_with (seen names r.target) (left_of (any_tree reads_key (trees r.properties.items)) (seen names s) (keys_of bound (seen_among names (trees r.properties.items)))) before empty)
  pub gives : Gives (8 + key_ids (trees r.properties.items) + mapped_ids (any_tree reads_key (trees r.properties.items))) (moment_of old) (moment_of new)

-- the name of a rest that stands alone, and that source, as one;
pub record TakesAlone (old new : TraverseCtx TransformState) (t s last : Tree) : Type 0 where
  pub last_is : (names : ℕ → Text → Option ℕ) → seen names last ≡ declarator_with (seen names t) (whole_value (seen names s))
  pub reads : ReadsMore 12 old new

-- and the declarators that come of any pattern with a rest.
pub record Takes (old new : TraverseCtx TransformState) (p s : Tree) (us : List Tree) : Type 0 where
  pub lp : Label
  pub ps : List Tree
  pub t : Tree
  pub parts : Parts p lp ps t
  pub bound : List Bound
  pub named : NamesRead (whole_at (moment_of old)) (trees ps) bound (whole_at (moment_of new))
  pub are : (names : ℕ → Text → Option ℕ) → seen_among names (trees us) ≡ seen_taken names lp s bound ps t
  pub gives : Gives (taken_ids (trees ps)) (moment_of old) (moment_of new)

-- An expression that is stored: a declarator of the next name of its base, and that name as it is read.
pub record Stores (old new : TraverseCtx TransformState) (e declarator read : Tree) : Type 0 where
  pub name : Bound
  pub next : IsNext (whole_at (moment_of old)) (node_base e) name
  pub declarator_is : (names : ℕ → Text → Option ℕ) → seen names declarator ≡ declarator_with (identifier name) (seen names e)
  pub read_is : IsSeenAs read (identifier name)
  pub takes : TakesBound name 3 (moment_of old) (moment_of new)

-- The next name of the base `ref`, as it is bound and as it is read.
pub record MakesReference (old new : TraverseCtx TransformState) (binding read : Tree) : Type 0 where
  pub name : Bound
  pub next : IsNext (whole_at (moment_of old)) (codes "ref") name
  pub binding_is : IsSeenAs binding (identifier name)
  pub read_is : IsSeenAs read (identifier name)
  pub takes : TakesBound name 2 (moment_of old) (moment_of new)
