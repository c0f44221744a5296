-- What a program becomes by all lowerings that are built: by the visit and the walk over arrows, and then by the walk that takes object
-- rests.
use Rattle.std.specs.Prelude.{◌≡◌, List, [], false, true, is_some}
use Rattle.es_tree.specs.Bare.{bare}
use Rattle.es_tree.specs.HasForm.{has_form}
use Rattle.es_tree.specs.StaticRules.{breaks}
use Rattle.es_tree.specs.Tree.{Tree}
use Rattle.es_tree.specs.Walks.{any_node}
use Rattle.es_tree.specs.Words.{Text}
use Rattle.es_tree.specs.declared.options.EnvOptions.{EnvOptions}
use Rattle.es_tree.specs.declared.table.Sort.TheVariants.{Program as s-Program}
use Rattle.es_steps.specs.CoreBridge.{Reached, first_whole, names_among}
use Rattle.es_steps.specs.CoreRules.{where_on}
use Rattle.es_steps.specs.Laws.{nothing_beside}
use Rattle.es_steps.specs.Open.{opened}
use Rattle.es_steps.specs.Rules.{either_rule}
use Rattle.es_steps.specs.Steps.{Ledger, Site, Spot, Step, Steps, Whole, the_program}
use Rattle.es_valid_arrows.specs.ArrowPlaces.{fits_arrows}
use Rattle.es_reached.specs.NoRests.{is_declared_rest}
use Rattle.es_reached.specs.Reached.{IsResultOf, built_rules}
use Rattle.es_rest_rows.specs.RestRows.{RestRow, RestWalkRow}
use Rattle.es_rest_shapes.specs.HelperNames.{binds_helpers}
use Rattle.es_semantic.specs.SymbolsOf.{symbols_of}
use Rattle.es_valid_rests.specs.RestRules.{OutsidePart}

-- the rules of the lowerings, as far as options ask for them
abbrev pub lowered_rules : EnvOptions → Site → Ledger → Spot → Ledger → Spot → Type 0
lowered_rules o = either_rule (built_rules o) (where_on (is_some o.es2018.object_rest_spread) RestRow)

-- the same by the rules of object rests, of which a step takes one name at most, where a row may take several
abbrev pub part_rules : EnvOptions → Site → Ledger → Spot → Ledger → Spot → Type 0
part_rules o = either_rule (built_rules o) (where_on (is_some o.es2018.object_rest_spread) OutsidePart)

-- what a program becomes by them, in rows and in single steps
pub record IsLowered (o : EnvOptions) (p q : Tree) (names : List Text) : Type 0 where
  pub result : IsResultOf (lowered_rules o) p q names
  pub parts : IsResultOf (part_rules o) p q names

-- So it is of what steps of a walk that takes object rests lead to from what the others reach, as they reach it from a program that has form, breaks
-- no static rule and binds no `babelHelpers`.
abbrev pub LawLowered : Type 0
LawLowered = (o : EnvOptions) (p q r t : Tree) (names more : List Text) (w : Whole) → has_form s-Program p ≡ true → breaks p ≡ [] → (is_some o.es2015.arrow_function ≡ true → fits_arrows o p ≡ true) → is_some o.es2018.object_rest_spread ≡ true → binds_helpers (symbols_of p) ≡ false →
    (h : Reached (built_rules o) p (first_whole p) names r) → Steps (Step RestWalkRow the_program) (nothing_beside h.whole) (opened r) (nothing_beside w) (opened t) → names_among w.made ≡ more → bare t ≡ bare q → IsLowered o p q more

-- And of what the others reach alone.
abbrev pub LawLoweredAlone : Type 0
LawLoweredAlone = (o : EnvOptions) (p q : Tree) (names : List Text) → IsResultOf (built_rules o) p q names → IsLowered o p q names

-- Where no pattern with a rest is declared, a walk that takes them leaves the program as it is, and makes no name.
abbrev pub LawIdle : Type 0
LawIdle = (p q : Tree) (w w' : Whole) → Steps (Step RestWalkRow the_program) (nothing_beside w) (opened p) (nothing_beside w') (opened q) → any_node is_declared_rest p ≡ false → (q ≡ p) × (w' ≡ w)
