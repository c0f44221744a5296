-- The laws of steps: in every program, with scopes of every kind, each name keeps its binding.
use Rattle.std.specs.Prelude.{◌≡◌, ℕ, ◌≤◌, [], true, None, length}
use Rattle.es_tree.specs.Fresh.{is_among}
use Rattle.es_tree.specs.HasForm.{has_form}
use Rattle.es_tree.specs.Names.{names_of}
use Rattle.es_tree.specs.StaticRules.{breaks}
use Rattle.es_tree.specs.Tree.{Tree, kind_of}
use Rattle.es_tree.specs.Words.{Text}
use Rattle.es_tree.specs.declared.ast_type.AstType.TheVariants.{Program}
use Rattle.es_tree.specs.declared.table.Sort.TheVariants.{Program as s-Program}
use Rattle.es_semantic.specs.RolesOf.{reads}
use Rattle.es_semantic.specs.SymbolsOf.{symbols_of}
use Rattle.es_resolution.specs.Called.{Called, name_at}
use Rattle.es_resolution.specs.Laws.{source}
use Rattle.es_resolution.specs.Named.{Named}
use Rattle.es_resolution.specs.Resolved.{IsResolved}
use Rattle.es_resolution.specs.Single.{IsSingle}
use Rattle.es_tree.specs.declared.options.EnvOptions.{EnvOptions}
use Rattle.es_steps.specs.AllRules.{AllRules}
use Rattle.es_steps.specs.Bindings.{Bindings}
use Rattle.es_steps.specs.Identifiers.{Passes, any_name}
use Rattle.es_steps.specs.Open.{nothing_pending, no_additions, Open, opened, finished}
use Rattle.es_steps.specs.Steps.{Whole, Ledger, ledger, Site, Spot, the_program, Step, Steps}

-- What a program has: each name has the symbol that looking it up outwards finds, each symbol is bound by one scope and has one name,
-- names and symbols are in use, and the names of classes are identifiers.
pub record IsWellBound (w : Whole) (t : Tree) : Type 0 where
  pub resolved : IsResolved t
  pub single : IsSingle t
  pub named : Named w.in_use w.free_symbol reads t
  pub called : Called w.called t
  pub class_names : Passes any_name t

-- the whole, with nothing pending outside the program
abbrev pub nothing_beside : Whole → Ledger
nothing_beside w = ledger w nothing_pending None no_additions

-- A source is so: a program that has form and breaks no static rule, as it is seen with the marks of its scope table, where its names
-- are in use, its symbols are numbered below the next free one, and each has the name that the table gives it.
abbrev pub LawStart : Type 0
LawStart = (p : Tree) (w : Whole) → has_form s-Program p ≡ true → breaks p ≡ [] → ((x : Text) → is_among (names_of p) x ≡ true → w.in_use x ≡ true) → length (symbols_of p) ≤ w.free_symbol → ((s : ℕ) → w.called s ≡ name_at (symbols_of p) s) →
    IsWellBound w (source p)

-- Whatever steps of these rules are taken, at whatever places and in whatever order: with all that is pending written the program is
-- so again.
abbrev pub StepsKeep : (Site → Ledger → Spot → Ledger → Spot → Type 0) → Type 0
StepsKeep R = (t : Tree) (w w' : Whole) (o : Open) → kind_of t ≡ Program → IsWellBound w t → Steps (Step R the_program) (nothing_beside w) (opened t) (nothing_beside w') o → IsWellBound w' (finished o)

-- And so is what is reached with nothing pending.
abbrev pub ReachedKeeps : (Site → Ledger → Spot → Ledger → Spot → Type 0) → Type 0
ReachedKeeps R = (p q : Tree) (w w' : Whole) → kind_of p ≡ Program → IsWellBound w p → Steps (Step R the_program) (nothing_beside w) (opened p) (nothing_beside w') (opened q) → IsWellBound w' q

-- The names of what is reached are those of the source, with the symbols that they had there, and new ones; and each is bound.
abbrev pub BindingsKeep : (Site → Ledger → Spot → Ledger → Spot → Type 0) → Type 0
BindingsKeep R = (p q : Tree) (w w' : Whole) → kind_of p ≡ Program → IsWellBound w p → Steps (Step R the_program) (nothing_beside w) (opened p) (nothing_beside w') (opened q) → Bindings p q w w'

-- So it is of the rules of all lowerings that options ask for.
abbrev pub LawSteps : Type 0
LawSteps = (o : EnvOptions) → StepsKeep (AllRules o)

abbrev pub LawReached : Type 0
LawReached = (o : EnvOptions) → ReachedKeeps (AllRules o)

abbrev pub LawBindings : Type 0
LawBindings = (o : EnvOptions) → BindingsKeep (AllRules o)
