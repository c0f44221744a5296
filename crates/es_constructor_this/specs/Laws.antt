-- The laws of constructors whose `this` is set behind `super(..)`: what a program becomes is reached by steps of the rows, it is no more than three times as
-- large, and has no construct more.
use Rattle.std.specs.Prelude.{◌≡◌, ◌*◌, ◌≤◌, Bool, [], false, true}
use Rattle.es_tree.specs.Bare.{bare}
use Rattle.es_tree.specs.Constructs.{has_enabled_construct}
use Rattle.es_tree.specs.HasForm.{has_form}
use Rattle.es_tree.specs.StaticRules.{breaks}
use Rattle.es_tree.specs.Tree.{Tree, tree_size}
use Rattle.es_tree.specs.Words.{Text}
use Rattle.es_tree.specs.declared.options.EnvOptions.{EnvOptions}
use Rattle.es_tree.specs.declared.table.Sort.TheVariants.{Program as s-Program}
use Rattle.es_resolution.specs.Laws.{source}
use Rattle.es_steps.specs.CoreBridge.{first_whole, names_among}
use Rattle.es_steps.specs.FormLaws.{StepsKeepForm}
use Rattle.es_steps.specs.Laws.{BindingsKeep, ReachedKeeps, nothing_beside}
use Rattle.es_steps.specs.Open.{opened}
use Rattle.es_steps.specs.Steps.{Step, Steps, Whole, the_program}
use Rattle.es_module_names.specs.Laws.{StepsKeepOutside}
use Rattle.es_valid_names.specs.Laws.{StepsKeepRules}
use Rattle.es_valid_rests.specs.Laws.{with_rests}
use Rattle.es_super_calls.specs.declared.standing.ClassStanding.{ClassStanding}
use Rattle.es_super_calls.specs.declared.standing.ClassStanding.TheVariants.{Elsewhere}
use Rattle.es_set_this.specs.ConstructorThis.{set_this}
use Rattle.es_constructor_this.specs.SetRows.{SetRow}

-- STEPS OF THE ROW, those of the other lowerings among them, keep form,
abbrev pub LawSetForm : Type 0
LawSetForm = (o : EnvOptions) → StepsKeepForm (with_rests SetRow o)

-- what a module asks of others and exports,
abbrev pub LawSetOutside : Type 0
LawSetOutside = (o : EnvOptions) → StepsKeepOutside (with_rests SetRow o)

-- and all nineteen static rules, where the names of the program are bound and in use; and steps of the row alone keep
abbrev pub LawSetRules : Type 0
LawSetRules = (o : EnvOptions) → StepsKeepRules (with_rests SetRow o)

-- that each name is bound to what looking it up finds, and which one that is
abbrev pub LawSetBound : Type 0
LawSetBound = ReachedKeeps SetRow

abbrev pub LawSetBindings : Type 0
LawSetBindings = BindingsKeep SetRow

-- STEPS LEAD THERE: what a program becomes that has form and breaks no static rule, whatever names count as made, is reached by steps of the row: with symbols
-- from the program with symbols, with no name made; and as it is read it is the same but for ids and marks.
abbrev pub LawSetSteps : Type 0
LawSetSteps = (made : Text → Bool) (p : Tree) → has_form s-Program p ≡ true → breaks p ≡ [] →
    (r : Tree) × (w : Whole) × Steps (Step SetRow the_program) (nothing_beside (first_whole p)) (opened (source p)) (nothing_beside w) (opened r) × (names_among w.made ≡ []) × (bare r ≡ bare (set_this made Elsewhere p))

-- SIZE, of any tree
abbrev pub LawSetSize : Type 0
LawSetSize = (made : Text → Bool) (s : ClassStanding) (t : Tree) → tree_size (set_this made s t) ≤ 3 * tree_size t

-- CONSTRUCTS that options ask to lower: where a program has none, it has none afterwards.
abbrev pub LawSetNone : Type 0
LawSetNone = (o : EnvOptions) (made : Text → Bool) (p : Tree) → has_enabled_construct o p ≡ false → has_enabled_construct o (set_this made Elsewhere p) ≡ false

-- WHERE NO NAME WAS MADE a tree stays as it is.
abbrev pub LawSetStays : Type 0
LawSetStays = (made : Text → Bool) (s : ClassStanding) (t : Tree) → ((x : Text) → made x ≡ false) → set_this made s t ≡ t
