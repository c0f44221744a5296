-- The laws of arrows: what steps reach, those of arrows among them, has form, breaks no static rule, and is alike to other modules.
use Rattle.std.specs.Prelude.{◌≡◌, [], true, is_some}
use Rattle.es_tree.specs.Bare.{bare}
use Rattle.es_tree.specs.HasForm.{has_form}
use Rattle.es_tree.specs.StaticRules.{breaks}
use Rattle.es_tree.specs.Tree.{Tree}
use Rattle.es_tree.specs.declared.options.EnvOptions.{EnvOptions}
use Rattle.es_tree.specs.declared.table.Sort.TheVariants.{Program as s-Program}
use Rattle.es_steps.specs.Arrows.{ArrowRule}
use Rattle.es_steps.specs.CoreRules.{where_on}
use Rattle.es_steps.specs.FormLaws.{StepsKeepForm}
use Rattle.es_steps.specs.Laws.{IsWellBound, nothing_beside}
use Rattle.es_steps.specs.Open.{Open, opened, finished}
use Rattle.es_steps.specs.Rules.{either_rule}
use Rattle.es_steps.specs.Steps.{Whole, Ledger, Site, Spot, the_program, Step, Steps}
use Rattle.es_arrow_steps.specs.ThisFits.{each_this_fits}
use Rattle.es_valid_steps.specs.Laws.{with_further_rules}
use Rattle.es_valid_steps.specs.PlaceRules.{place_breaks}
use Rattle.es_module_names.specs.Laws.{SameOutside, StepsKeepOutside}
use Rattle.es_valid_arrows.specs.ArrowPlaces.{fits_arrows}

-- the rules of all other lowerings that are lawful, and those of arrows, as far as options ask for them
abbrev pub with_arrows : EnvOptions → Site → Ledger → Spot → Ledger → Spot → Type 0
with_arrows o = either_rule (with_further_rules o) (where_on (is_some o.es2015.arrow_function) ArrowRule)

-- FORM, of every program
abbrev pub LawArrowForm : Type 0
LawArrowForm = (o : EnvOptions) → StepsKeepForm (with_arrows o)

-- OTHER MODULES see the same
abbrev pub LawArrowOutside : Type 0
LawArrowOutside = (o : EnvOptions) → StepsKeepOutside (with_arrows o)

-- ARROWS: where each can become a function, each still can, whatever steps are taken
abbrev pub LawArrowsFit : Type 0
LawArrowsFit = (o : EnvOptions) (t : Tree) (w w' : Whole) (x : Open) → has_form s-Program t ≡ true → fits_arrows o t ≡ true → Steps (Step (with_arrows o) the_program) (nothing_beside w) (opened t) (nothing_beside w') x → fits_arrows o (finished x) ≡ true

-- THE SIXTEEN RULES OF PLACES, where each arrow can become a function
abbrev pub LawArrowPlaces : Type 0
LawArrowPlaces = (o : EnvOptions) (t : Tree) (w w' : Whole) (x : Open) → has_form s-Program t ≡ true → fits_arrows o t ≡ true → place_breaks t ≡ [] → Steps (Step (with_arrows o) the_program) (nothing_beside w) (opened t) (nothing_beside w') x → place_breaks (finished x) ≡ []

-- ALL NINETEEN, where the names of the program are bound and in use, too
abbrev pub LawArrowRules : Type 0
LawArrowRules = (o : EnvOptions) (t : Tree) (w w' : Whole) (x : Open) → has_form s-Program t ≡ true → fits_arrows o t ≡ true → breaks t ≡ [] → IsWellBound w t → Steps (Step (with_arrows o) the_program) (nothing_beside w) (opened t) (nothing_beside w') x → breaks (finished x) ≡ []

-- WHAT IS REACHED with nothing pending, from such a program
pub record IsArrowResult (o : EnvOptions) (p q : Tree) : Type 0 where
  pub form : has_form s-Program q ≡ true
  pub kept : breaks q ≡ []
  pub outside : SameOutside p q
  pub fits : fits_arrows o q ≡ true

abbrev pub LawArrowsReached : Type 0
LawArrowsReached = (o : EnvOptions) (p q : Tree) (w w' : Whole) → has_form s-Program p ≡ true → fits_arrows o p ≡ true → breaks p ≡ [] → IsWellBound w p → Steps (Step (with_arrows o) the_program) (nothing_beside w) (opened p) (nothing_beside w') (opened q) → IsArrowResult o p q

-- IDS AND MARKS mean nothing to arrows.
abbrev pub LawBareFits : Type 0
LawBareFits = (o : EnvOptions) (t u : Tree) → bare t ≡ bare u → fits_arrows o t ≡ true → fits_arrows o u ≡ true

-- EACH `this` that belongs to an arrow is read, and reaches the list of its target, in a program that has form and breaks no rule of places.
abbrev pub LawThisFits : Type 0
LawThisFits = (o : EnvOptions) (p : Tree) → has_form s-Program p ≡ true → place_breaks p ≡ [] → fits_arrows o p ≡ true → each_this_fits p ≡ true
