-- Where arrows become functions, a name of `this` may be pending for lists, with the temporaries.
use Rattle.std.proofs.Common.{◌≡◌, ℕ, List}
use Rattle.std.specs.Prelude.{Bool, true, Option, None}
use Rattle.es_tree.specs.HasForm.{has_form}
use Rattle.es_tree.specs.declared.table.Sort.TheVariants.{Program as s-Program}
use Rattle.es_resolution.specs.Declarations.{Bound}
use Rattle.es_steps.specs.Open.{Additions, Pending, Open, OpenField, OpenFields, OpenTrees, finished, no_additions, with_vars}
use Rattle.es_steps.specs.Steps.{Ledger, Site, Spot}
use Rattle.es_steps.proofs.FormLists.{HasText, IsListIn, Setting, any_such, none_of, nothing-formed}
use Rattle.es_steps.proofs.FormOpen.{AreTidyFields, AreTidyTrees, IsTidy, IsTidyField}
use Rattle.es_steps.proofs.FormRows.{AreTexts}
use Rattle.es_steps.proofs.FormRules.{LawfulIn, NamesIn, names-in, nothing-new as no-news}
use Rattle.es_steps.proofs.FormSteps.{list-after}
use Rattle.es_valid_steps.proofs.NamespaceRows.{ProgramLeftIn, program-left-in}
use Rattle.es_valid_steps.proofs.Pending.{nothing-keeps}
use Rattle.es_valid_steps.proofs.ProgramLists.{ProgramExported}

-- a name that isn't empty, and nothing for the program's top
abbrev pub this_named : Setting
this_named = record {
  this = any_such (Option Bound) None HasText tt;
  top = none_of Additions no_additions;
  Known = λ x a. HasText x;
  in_target = λ x y a known h. h;
  in_program = λ y b h g. h;
  texts = λ x h. h;
  formed = nothing-formed;
}

abbrev pub IsListed : Pending → Option Bound → Additions → Type 0
IsListed = IsListIn this_named

abbrev pub IsWide : Open → Type 0
IsWide = IsTidy IsListed

abbrev pub AreWideFields : (ℕ → Bool) → OpenFields → Type 0
AreWideFields = AreTidyFields IsListed

abbrev pub IsWideField : Bool → OpenField → Type 0
IsWideField = IsTidyField IsListed

abbrev pub AreWideTrees : OpenTrees → Type 0
AreWideTrees = AreTidyTrees IsListed

abbrev pub WideNames : Ledger → Ledger → Type 0
WideNames = NamesIn this_named

abbrev pub WideLawful : (Site → Ledger → Spot → Ledger → Spot → Type 0) → Type 0
WideLawful = LawfulIn this_named

pub nothing-new : (s s' : Ledger) → s ≡ s' → WideNames s s'
nothing-new s s' e = names-in this_named s s' (no-news s s' e)

pub listed-more : (p q : Pending) (x y : Option Bound) (a b : Additions) (bs : List Bound) → IsListed p x a → AreTexts bs → q ≡ with_vars bs p → (HasText x → HasText y) → b ≡ a → IsListed q y b
listed-more = list-after this_named

-- a program in whose list a namespace export was lowered
pub program-wide : {s s' : Ledger} {x y : Open} → ProgramExported s s' x y → IsWide x → has_form s-Program (finished x) ≡ true → ProgramLeftIn this_named x y
program-wide h = program-left-in this_named (λ l all a e. nothing-keeps _ a e) h
