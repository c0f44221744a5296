-- The laws of a walk that takes object rests, over a whole program: its steps are steps of the parts that rows are made of; and where the program
-- binds no `babelHelpers`, steps of the rows, and of the rules of object rests.
use Rattle.std.specs.Prelude.{◌≡◌, codes, false, true}
use Rattle.es_steps.specs.Laws.{IsWellBound, nothing_beside}
use Rattle.es_steps.specs.Open.{Open, opened}
use Rattle.es_steps.specs.Steps.{Ledger, Site, Spot, Step, Steps, Whole, the_program}
use Rattle.es_tree.specs.HasForm.{has_form}
use Rattle.es_tree.specs.Tree.{Tree}
use Rattle.es_tree.specs.Walks.{any_node}
use Rattle.es_tree.specs.declared.table.Sort.TheVariants.{Program as s-Program}
use Rattle.es_rest_rows.specs.Laws.{is_bound_helper}
use Rattle.es_rest_rows.specs.RestParts.{PartsWhere}
use Rattle.es_rest_rows.specs.RestRows.{RestRow, RestWalkRow}
use Rattle.es_valid_rests.specs.RestRules.{OutsidePart}

-- steps of a rule in a program, with nothing pending before and after
abbrev pub Lead : (Site → Ledger → Spot → Ledger → Spot → Type 0) → Whole → Tree → Whole → Open → Type 0
Lead R w t w' x = Steps (Step R the_program) (nothing_beside w) (opened t) (nothing_beside w') x

-- STEPS OF A WALK, from a program that has form, are steps of the parts, whatever `babelHelpers` finds.
abbrev pub LawWalkParts : Type 0
LawWalkParts = (t : Tree) (w w' : Whole) (x : Open) → has_form s-Program t ≡ true → Lead RestWalkRow w t w' x → Lead (PartsWhere (λ n. Unit {0})) w t w' x

-- From one whose names are bound, and which binds no such name, they are steps of the rows,
abbrev pub LawRestWalks : Type 0
LawRestWalks = (t : Tree) (w w' : Whole) (x : Open) → has_form s-Program t ≡ true → IsWellBound w t → any_node is_bound_helper t ≡ false → w.in_use (codes "babelHelpers") ≡ true → Lead RestWalkRow w t w' x → Lead RestRow w t w' x

-- and of the rules of object rests.
abbrev pub LawRestParts : Type 0
LawRestParts = (t : Tree) (w w' : Whole) (x : Open) → has_form s-Program t ≡ true → IsWellBound w t → any_node is_bound_helper t ≡ false → w.in_use (codes "babelHelpers") ≡ true → Lead RestWalkRow w t w' x → Lead OutsidePart w t w' x
