-- How far a spine is lowered, as the code holds it, and what each part of the walk along a spine leaves, whatever scopes bind.
use Rattle.std.specs.Prelude.{◌≡◌, ℕ, ◌+◌, ◌*◌, Bool, true, false, Option, Some, None, List, [], ◌∷◌, length, map, string_bytes}
use Rattle.es_tree.specs.Tree.{Tree, Trees, Label, tree_size, trees_size}
use Rattle.es_tree.specs.Words.{Text}
use Rattle.es_tree.specs.declared.ids.Span.{Span}
use Rattle.es_resolution.specs.Declarations.{Bound}
use Rattle.es_resolution.specs.Seen.{seen}
use Rattle.es_runs.specs.OptionalChaining.{is_super, is_this_or_super}
use Rattle.es_scope.specs.ContextSymbols.{steady_symbols_of}
use Rattle.es_scope.specs.declared.context.TraverseCtx.{TraverseCtx}
use Rattle.es_scope.specs.declared.context_names.BoundIdentifier.{BoundIdentifier}
use Rattle.es_changes.specs.Moments.{whole_at}
use Rattle.es_steps.specs.Nodes.{made}
use Rattle.es_steps.specs.OptionalChaining.{BoundCallee, Called, Continued, Tested, Walked, Way}
use Rattle.es_steps.specs.Steps.{Whole}
use Rattle.es_traverse.specs.Loads.{trees_load}
use Rattle.lower_temporaries.specs.Takings.{Takes, moment_of}
use Rattle.lower_temporaries.specs.declared.state.TransformState.{TransformState}
use Rattle.lower_chains.specs.Spines.{IsPlain, IsSound}
use Rattle.lower_chains.specs.Weights.{AffordsWay, FewBound, FewMade, stripped, way_size}
use Rattle.lower_chains.specs.declared.way.Way.{Way as CodeWay}

-- what scopes bind, by which a tree is seen
abbrev pub Names : Type 0
Names = ℕ → Text → Option ℕ

abbrev pub Ctx : Type 0
Ctx = TraverseCtx TransformState

-- what is known of the whole
abbrev pub whole_of : Ctx → Whole
whole_of ctx = whole_at (moment_of ctx)

-- WAYS

-- the name that is held
abbrev pub held : Option BoundIdentifier → Option Bound
held None = None
held (Some x) = Some (record { name = string_bytes x.name; symbol = Some x.symbol_id.0 })

-- some reference writes it, or none is held
abbrev pub IsHeld : Ctx → Option BoundIdentifier → Type 0
IsHeld ctx None = Unit {0}
IsHeld ctx (Some x) = steady_symbols_of ctx x.symbol_id.0 ≡ false

-- The code's way is this one, from the moment at which the walk began.
pub record IsWay (names : Names) (begin now : Ctx) (way : CodeWay) (w : Way) : Type 0 where
  pub tests : map (seen names) way.tests.items ≡ w.tests
  pub current : seen names way.current ≡ w.current
  pub holder : held way.holder ≡ w.holder
  pub ids : ℕ
  pub takes : Takes w.taken ids (moment_of begin) (moment_of now)

-- A spine was walked along. Where it has form, and no mark stands outside a chain, it was by the rule.
pub record WalksTo (names : Names) (no_all : Bool) (begin now : Ctx) (e : Tree) (way : CodeWay) : Type 0 where
  pub to : Way
  pub is : IsWay names begin now way to
  pub walked : IsSound e → Walked no_all (whole_of begin) e to
  pub plain : IsSound e → IsPlain to.current
  pub affords : AffordsWay is.ids e to

-- the same before a marked step, where a chain in parentheses is gone on with
pub record ContinuesTo (names : Names) (no_all : Bool) (begin now : Ctx) (e : Tree) (way : CodeWay) : Type 0 where
  pub to : Way
  pub is : IsWay names begin now way to
  pub walked : IsSound e → Continued no_all (whole_of begin) e to
  pub plain : IsSound e → IsPlain to.current
  pub affords : AffordsWay is.ids e to

-- what is current was tested before a marked member, and each made node took an id
pub record TestsTo (names : Names) (no_all : Bool) (begin now : Ctx) (w : Way) (ids : ℕ) (way : CodeWay) : Type 0 where
  pub to : Way
  pub is : IsWay names begin now way to
  pub tested : Tested no_all (whole_of begin) w to
  pub more : ℕ
  pub counted : is.ids ≡ ids + more
  pub sized : way_size to ≡ more + way_size (stripped w)

-- the label of a call with this span and a mark
abbrev pub call_label : Span → Label
call_label s = record (made [] (true ∷ [])) { start = s.start; stop = s.end }

-- what is current was tested and called, at a marked call with these arguments
pub record CallsTo (names : Names) (no_all : Bool) (begin now : Ctx) (span : Span) (arguments : Trees) (w : Way) (ids : ℕ) (way : CodeWay) : Type 0 where
  pub to : Way
  pub is : IsWay names begin now way to
  pub called : IsPlain w.current → Called no_all (whole_of begin) (call_label span) arguments w to
  pub plain : IsPlain to.current
  pub few : FewMade 18 44 (1 + trees_size arguments) (1 + trees_load arguments) w to
  pub more : ℕ
  pub counted : is.ids ≡ ids + more
  pub sized : way_size to ≡ more + (1 + trees_size arguments) + way_size (stripped w)

-- RECEIVERS

-- the objects whose receiver is `this`: `super`, and at a marked call `this` too
abbrev pub to_this : Bool → Tree → Bool
to_this true = is_this_or_super
to_this false = is_super

-- what a chain ends in was bound, where it is a callee
pub record BindsTo (old new : Ctx) (holder : Option Bound) (e d : Tree) : Type 0 where
  pub names : List Bound
  pub ids : ℕ
  pub binds : IsPlain e → BoundCallee (whole_of old) holder names e d
  pub bound : FewBound names e d
  pub takes : Takes names ids (moment_of old) (moment_of new)
  pub sized : tree_size d + 2 * length names ≡ ids + tree_size e
