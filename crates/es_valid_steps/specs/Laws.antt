-- The laws of static rules: what is reached by steps breaks no rule of places, where the source broke none.
use Rattle.std.specs.Prelude.{◌≡◌, ◌&&◌, ◌||◌, [], Bool, true, false, is_some}
use Rattle.es_tree.specs.Constructs.{is_namespace_export}
use Rattle.es_tree.specs.HasForm.{has_form}
use Rattle.es_tree.specs.StaticRules.{breaks}
use Rattle.es_tree.specs.Tree.{Tree, node, Label, Fields, ◌then◌, statements, Trees, empty, ◌before◌, kind_of, label_of, fields_of}
use Rattle.es_tree.specs.Walks.{any_node, any_in_fields}
use Rattle.es_tree.specs.declared.ast_type.AstType.{AstType}
use Rattle.es_tree.specs.declared.options.EnvOptions.{EnvOptions}
use Rattle.es_tree.specs.declared.table.Sort.TheVariants.{Program as s-Program}
use Rattle.es_steps.specs.AllRules.{ObjectRule}
use Rattle.es_steps.specs.CoreRules.{CoreRule, rule_under, where_on}
use Rattle.es_steps.specs.FormLaws.{StepsKeepForm}
use Rattle.es_steps.specs.Laws.{nothing_beside}
use Rattle.es_steps.specs.NamespaceExports.{NamespaceRule}
use Rattle.es_steps.specs.Open.{Open, opened, finished}
use Rattle.es_steps.specs.OptionalCatch.{CatchRule}
use Rattle.es_steps.specs.Rules.{either_rule}
use Rattle.es_steps.specs.Steps.{Whole, Ledger, Site, Spot, the_program, Step, Steps}
use Rattle.es_valid_steps.specs.PlaceRules.{Keeps, place_breaks}

-- THE RULES OF PLACES BY ANCESTORS: none is listed as broken exactly where each node, with its ancestors, keeps each of them.
pub record SaysTheSame (t : Tree) : Type 0 where
  pub to_places : place_breaks t ≡ [] → Keeps [] t
  pub from_places : Keeps [] t → place_breaks t ≡ []

abbrev pub LawPlaces : Type 0
LawPlaces = (t : Tree) → SaysTheSame t

-- a program that breaks none of the nineteen breaks none of these
abbrev pub LawAmong : Type 0
LawAmong = (t : Tree) → breaks t ≡ [] → place_breaks t ≡ []

-- STEPS: whatever steps of these rules are taken from a program that has form and breaks none of them, at whatever places and in
-- whatever order: with all that is pending written it breaks none of them.
abbrev pub StepsKeepPlaces : (Site → Ledger → Spot → Ledger → Spot → Type 0) → Type 0
StepsKeepPlaces R = (t : Tree) (w w' : Whole) (x : Open) → has_form s-Program t ≡ true → place_breaks t ≡ [] → Steps (Step R the_program) (nothing_beside w) (opened t) (nothing_beside w') x → place_breaks (finished x) ≡ []

-- And so does what is reached with nothing pending.
abbrev pub ReachedKeepsPlaces : (Site → Ledger → Spot → Ledger → Spot → Type 0) → Type 0
ReachedKeepsPlaces R = (p q : Tree) (w w' : Whole) → has_form s-Program p ≡ true → place_breaks p ≡ [] → Steps (Step R the_program) (nothing_beside w) (opened p) (nothing_beside w') (opened q) → place_breaks q ≡ []

-- the core rules that options ask for
abbrev pub LawPlaceSteps : Type 0
LawPlaceSteps = (o : EnvOptions) → StepsKeepPlaces (rule_under o)

abbrev pub LawPlacesReached : Type 0
LawPlacesReached = (o : EnvOptions) → ReachedKeepsPlaces (rule_under o)

-- and all of them together
abbrev pub LawCorePlaces : Type 0
LawCorePlaces = (o : EnvOptions) → StepsKeepPlaces (CoreRule o)

-- WITH OPTIONAL CATCH, NAMESPACE EXPORTS AND OBJECT SPREAD, AND RESTS IN ASSIGNMENTS, as far as options ask for them: form is kept, and so are
-- these rules.

abbrev pub with_further_rules : EnvOptions → Site → Ledger → Spot → Ledger → Spot → Type 0
with_further_rules o =
    either_rule (rule_under o)
    (either_rule (where_on o.es2019.optional_catch_binding CatchRule)
    (either_rule (where_on o.es2020.export_namespace_from NamespaceRule) (where_on (is_some o.es2018.object_rest_spread) ObjectRule)))

abbrev pub LawFurtherForm : Type 0
LawFurtherForm = (o : EnvOptions) → StepsKeepForm (with_further_rules o)

abbrev pub LawFurtherPlaces : Type 0
LawFurtherPlaces = (o : EnvOptions) → StepsKeepPlaces (with_further_rules o)

-- NAMESPACE EXPORTS stand in the list of a program itself, and nowhere deeper.

-- whether a statement of a list is such a node, and not what stands in it
abbrev pub any_statement : (AstType → Label → Fields → Bool) → Trees → Bool
any_statement test empty = false
any_statement test (t before ts) = test (kind_of t) (label_of t) (fields_of t) || any_statement test ts

-- whether such a node stands in a statement of a list
abbrev pub any_inside : (AstType → Label → Fields → Bool) → Trees → Bool
any_inside test empty = false
any_inside test (t before ts) = any_in_fields test (fields_of t) || any_inside test ts

-- the statements of a program
abbrev pub statements_of : Tree → Trees
statements_of (node k l (directives then (statements ts then fs))) = ts
statements_of _ = empty

-- Such nodes stand in the list of the program alone: none in a statement of it, and none in the program where no statement is one.
pub record StandInList (test : AstType → Label → Fields → Bool) (t : Tree) : Type 0 where
  pub inside : any_inside test (statements_of t) ≡ false
  pub none : any_statement test (statements_of t) ≡ false → any_node test t ≡ false

-- asked for or not
abbrev pub LawNamespacePlaces : Type 0
LawNamespacePlaces = (on : Bool) (t : Tree) → has_form s-Program t ≡ true → place_breaks t ≡ [] → StandInList (λ k l fs. on && is_namespace_export k l fs) t
