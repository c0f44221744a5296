-- The laws of module requests and exported names: what is reached by steps asks for the same modules, and exports under the same names.
use Rattle.std.specs.Prelude.{◌≡◌, true}
use Rattle.es_tree.specs.Bare.{bare}
use Rattle.es_tree.specs.HasForm.{has_form}
use Rattle.es_tree.specs.Tree.{Tree}
use Rattle.es_tree.specs.declared.options.EnvOptions.{EnvOptions}
use Rattle.es_tree.specs.declared.table.Sort.TheVariants.{Program as s-Program}
use Rattle.es_steps.specs.Laws.{nothing_beside}
use Rattle.es_steps.specs.Open.{Open, opened, finished}
use Rattle.es_steps.specs.Steps.{Whole, Ledger, Site, Spot, the_program, Step, Steps}
use Rattle.es_valid_steps.specs.Laws.{with_further_rules}
use Rattle.es_module_names.specs.Modules.{requests_of, star_requests_of, exported_of}

-- One program and another are alike to other modules: the same module requests in the same order, and the same exported names.
pub record SameOutside (t u : Tree) : Type 0 where
  pub requests : requests_of u ≡ requests_of t
  pub stars : star_requests_of u ≡ star_requests_of t
  pub exports : exported_of u ≡ exported_of t

-- STEPS: whatever steps of these rules are taken from a program that has form, at whatever places and in whatever order: with all that
-- is pending written it is alike to other modules.
abbrev pub StepsKeepOutside : (Site → Ledger → Spot → Ledger → Spot → Type 0) → Type 0
StepsKeepOutside R = (t : Tree) (w w' : Whole) (x : Open) → has_form s-Program t ≡ true → Steps (Step R the_program) (nothing_beside w) (opened t) (nothing_beside w') x → SameOutside t (finished x)

-- And so is what is reached with nothing pending.
abbrev pub ReachedKeepsOutside : (Site → Ledger → Spot → Ledger → Spot → Type 0) → Type 0
ReachedKeepsOutside R = (p q : Tree) (w w' : Whole) → has_form s-Program p ≡ true → Steps (Step R the_program) (nothing_beside w) (opened p) (nothing_beside w') (opened q) → SameOutside p q

-- the core rules, optional catch, namespace exports and object spread, and rests in assignments, as far as options ask for them
abbrev pub LawOutside : Type 0
LawOutside = (o : EnvOptions) → StepsKeepOutside (with_further_rules o)

abbrev pub LawOutsideReached : Type 0
LawOutsideReached = (o : EnvOptions) → ReachedKeepsOutside (with_further_rules o)

-- IDS AND MARKS mean nothing to other modules.
abbrev pub LawOutsideBare : Type 0
LawOutsideBare = (p q : Tree) → bare p ≡ bare q → SameOutside p q
