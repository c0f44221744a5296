-- The laws of declared names: what is reached by steps breaks no static rule, where the source broke none (ECMA-262, 8.2, 14.2.1, 15.1.1,
-- 15.7.1, 16.1.1, 16.2.3.1).
use Rattle.std.specs.Prelude.{◌≡◌, List, [], ◌∷◌, Bool, true, not}
use Rattle.std.specs.List.{list_all}
use Rattle.es_tree.specs.Ancestors.{visits}
use Rattle.es_tree.specs.Bare.{bare}
use Rattle.es_tree.specs.CoreStaticRules.{Break}
use Rattle.es_tree.specs.HasForm.{has_form}
use Rattle.es_tree.specs.StaticRules.{all_names, breaks, breaks_after, is_bad_export}
use Rattle.es_tree.specs.Tree.{Tree}
use Rattle.es_tree.specs.declared.error.Rule.{Rule}
use Rattle.es_tree.specs.declared.error.Rule.TheVariants.{BadClass, BadExport, DuplicateName}
use Rattle.es_tree.specs.declared.options.EnvOptions.{EnvOptions}
use Rattle.es_tree.specs.declared.table.Sort.TheVariants.{Program as s-Program}
use Rattle.es_steps.specs.Laws.{IsWellBound, nothing_beside}
use Rattle.es_steps.specs.Open.{Open, opened, finished}
use Rattle.es_valid_steps.specs.Laws.{with_further_rules}
use Rattle.es_valid_steps.specs.PlaceRules.{place_breaks}
use Rattle.es_steps.specs.Steps.{Whole, Ledger, Site, Spot, the_program, Step, Steps}

-- a scope or a class declares no name twice where it may not, and what a class has is right
abbrev pub name_rules : List Rule
name_rules = DuplicateName ∷ BadClass ∷ []

-- which of them a program breaks
abbrev pub name_breaks : Tree → List Break
name_breaks t = breaks_after name_rules (all_names t) [] (visits [] 0 t)

-- with the rule of what a module exports these are the three that ask what nodes declare
abbrev pub declared_rules : List Rule
declared_rules = DuplicateName ∷ BadExport ∷ BadClass ∷ []

abbrev pub declared_breaks : Tree → List Break
declared_breaks t = breaks_after declared_rules (all_names t) [] (visits [] 0 t)

-- A program that breaks none of the nineteen breaks none of the three, and with the sixteen of places they are all.
abbrev pub LawDeclaredAmong : Type 0
LawDeclaredAmong = (t : Tree) → breaks t ≡ [] → declared_breaks t ≡ []

abbrev pub LawTogether : Type 0
LawTogether = (t : Tree) → place_breaks t ≡ [] → declared_breaks t ≡ [] → breaks t ≡ []

-- IDS AND MARKS mean nothing to them: of two trees that are equal but for those both break one, or neither.
abbrev pub LawBareDeclared : Type 0
LawBareDeclared = (t u : Tree) → bare t ≡ bare u → declared_breaks t ≡ [] → declared_breaks u ≡ []

abbrev pub LawBareNames : Type 0
LawBareNames = (t u : Tree) → bare t ≡ bare u → name_breaks t ≡ [] → name_breaks u ≡ []

-- STEPS: whatever steps of these rules are taken from a program that has form and breaks none of the three, with its names
-- bound and in use, at whatever places and in whatever order: with all that is pending written it breaks neither of these.
abbrev pub StepsKeepNames : (Site → Ledger → Spot → Ledger → Spot → Type 0) → Type 0
StepsKeepNames R = (t : Tree) (w w' : Whole) (x : Open) → has_form s-Program t ≡ true → declared_breaks t ≡ [] → IsWellBound w t → Steps (Step R the_program) (nothing_beside w) (opened t) (nothing_beside w') x → name_breaks (finished x) ≡ []

abbrev pub LawNames : Type 0
LawNames = (o : EnvOptions) → StepsKeepNames (with_further_rules o)

-- And so does what is reached with nothing pending.
abbrev pub ReachedKeepsNames : (Site → Ledger → Spot → Ledger → Spot → Type 0) → Type 0
ReachedKeepsNames R = (p q : Tree) (w w' : Whole) → has_form s-Program p ≡ true → declared_breaks p ≡ [] → IsWellBound w p → Steps (Step R the_program) (nothing_beside w) (opened p) (nothing_beside w') (opened q) → name_breaks q ≡ []

abbrev pub LawNamesReached : Type 0
LawNamesReached = (o : EnvOptions) → ReachedKeepsNames (with_further_rules o)

-- EXPORTS (16.2.3.1): each node keeps what the rule of exports asks of one node, that what is exported is declared, a declaration stands
-- alone, and has a name unless it is the default. That no name is exported twice is part of the law of all nineteen below.
abbrev pub keeps_exports : Tree → Bool
keeps_exports t = list_all (λ v. not (is_bad_export (all_names t) v.ancestors v.tree)) (visits [] 0 t)

abbrev pub StepsKeepExports : (Site → Ledger → Spot → Ledger → Spot → Type 0) → Type 0
StepsKeepExports R = (t : Tree) (w w' : Whole) (x : Open) → has_form s-Program t ≡ true → declared_breaks t ≡ [] → IsWellBound w t → Steps (Step R the_program) (nothing_beside w) (opened t) (nothing_beside w') x → keeps_exports (finished x) ≡ true

abbrev pub LawExports : Type 0
LawExports = (o : EnvOptions) → StepsKeepExports (with_further_rules o)

-- ALL NINETEEN: whatever steps of these rules are taken from a program that has form and breaks none, with its names bound and in use,
-- at whatever places and in whatever order: with all that is pending written it breaks none.
abbrev pub StepsKeepRules : (Site → Ledger → Spot → Ledger → Spot → Type 0) → Type 0
StepsKeepRules R = (t : Tree) (w w' : Whole) (x : Open) → has_form s-Program t ≡ true → breaks t ≡ [] → IsWellBound w t → Steps (Step R the_program) (nothing_beside w) (opened t) (nothing_beside w') x → breaks (finished x) ≡ []

abbrev pub LawFurtherRules : Type 0
LawFurtherRules = (o : EnvOptions) → StepsKeepRules (with_further_rules o)

-- And so does what is reached with nothing pending.
abbrev pub ReachedKeepsRules : (Site → Ledger → Spot → Ledger → Spot → Type 0) → Type 0
ReachedKeepsRules R = (p q : Tree) (w w' : Whole) → has_form s-Program p ≡ true → breaks p ≡ [] → IsWellBound w p → Steps (Step R the_program) (nothing_beside w) (opened p) (nothing_beside w') (opened q) → breaks q ≡ []

abbrev pub LawFurtherRulesReached : Type 0
LawFurtherRulesReached = (o : EnvOptions) → ReachedKeepsRules (with_further_rules o)
