-- A walk that lowers arrows (ECMA-262, 15.3), step by step: a `this` becomes the name that is pending for its target, whatever the site
-- tells of that name. A walk goes from field to field at sites as they were before the name was made; that the name is found at each place
-- where it is put is a law over whole programs (`LawArrowWalks`).
use Rattle.std.specs.Prelude.{◌≡◌, ℕ, ◌<◌, true, Some, [], is_some}
use Rattle.es_semantic.specs.RolesOf.{reads}
use Rattle.es_resolution.specs.Declarations.{Bound}
use Rattle.es_steps.specs.AllRules.{AllRules}
use Rattle.es_steps.specs.Arrows.{ArrowRule}
use Rattle.es_steps.specs.CoreBridge.{first_whole}
use Rattle.es_steps.specs.Laws.{IsWellBound, nothing_beside}
use Rattle.es_steps.specs.Nodes.{identifier, placed}
use Rattle.es_steps.specs.Open.{Additions, Open, Pending, opened}
use Rattle.es_steps.specs.Rules.{either_rule}
use Rattle.es_steps.specs.Steps.{Ledger, ledger, Site, Spot, at_node, Step, Steps, Whole, the_program}
use Rattle.es_steps.specs.ThisPlaces.{belongs_to_arrow, reaches_target}
use Rattle.es_tree.specs.HasForm.{has_form}
use Rattle.es_tree.specs.StaticRules.{breaks}
use Rattle.es_tree.specs.Tree.{Label, Tree, done, kind_of, node}
use Rattle.es_tree.specs.declared.ast_type.AstType.TheVariants.{Program, ThisExpression}
use Rattle.es_tree.specs.declared.options.EnvOptions.{EnvOptions}
use Rattle.es_tree.specs.declared.table.Sort.TheVariants.{Program as s-Program}

-- the rule of arrows, and beside it the name that is pending, found or not
pub data ArrowWalkRule : Site → Ledger → Spot → Ledger → Spot → Type 0 where
  by_pending_name : {n : Site} {w : Whole} {p : Pending} {a : Additions} {l : Label} {b : Bound} → n.role ≡ reads → belongs_to_arrow n.above ≡ true → reaches_target n.above ≡ true →
      ArrowWalkRule n (ledger w p (Some b) a) (at_node (node ThisExpression l done)) (ledger w p (Some b) a) (at_node (placed l (identifier b)))
  by_rule : {n : Site} {s s' : Ledger} {x y : Spot} → ArrowRule n s x s' y → ArrowWalkRule n s x s' y

-- the name of each symbol is in use
abbrev pub UsesNames : Whole → Type 0
UsesNames w = (s : ℕ) → s < w.free_symbol → w.in_use (w.called s) ≡ true

-- so it is where steps begin, from a program that has form and breaks no static rule
abbrev pub LawFirstUses : Type 0
LawFirstUses = (p : Tree) → has_form s-Program p ≡ true → breaks p ≡ [] → UsesNames (first_whole p)

-- Steps of these rules and of a walk, whatever is taken and in whatever order, from a program whose names are bound, are steps of the
-- rules.
abbrev pub WalksAreSteps : (Site → Ledger → Spot → Ledger → Spot → Type 0) → Type 0
WalksAreSteps R = (t : Tree) (w w' : Whole) (x : Open) → kind_of t ≡ Program → IsWellBound w t → UsesNames w →
    Steps (Step (either_rule R ArrowWalkRule) the_program) (nothing_beside w) (opened t) (nothing_beside w') x → Steps (Step R the_program) (nothing_beside w) (opened t) (nothing_beside w') x

-- So it is of all rules, where arrows are lowered.
abbrev pub LawArrowWalks : Type 0
LawArrowWalks = (o : EnvOptions) → is_some o.es2015.arrow_function ≡ true → WalksAreSteps (AllRules o)
