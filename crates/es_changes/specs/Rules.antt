-- What a visit counts on of the rule by which it changes a program.
use Rattle.std.specs.Prelude.{◌||◌, Bool, bytes_eq, codes}
use Rattle.es_tree.specs.Words.{Text}
use Rattle.es_steps.specs.Sites.{IsLocal}
use Rattle.es_steps.specs.Steps.{Ledger, Site, Spot}
use Rattle.es_steps.proofs.FormRules.{FormLawful}
use Rattle.es_steps.proofs.Taken.{Lawful, Writes}

-- the names that rules write of themselves, and which they ask for where they act
abbrev pub is_asked_for : Text → Bool
is_asked_for x = bytes_eq x (codes "Math") || bytes_eq x (codes "babelHelpers")

-- what a lawful rule is: names keep their bindings, form is kept, and it asks for no other names than these
pub record IsLawfulRule (R : Site → Ledger → Spot → Ledger → Spot → Type 0) : Type 0 where
  pub names : Lawful R
  pub writes : Writes R
  pub form : FormLawful R
  pub local : IsLocal (λ s. is_asked_for) R
