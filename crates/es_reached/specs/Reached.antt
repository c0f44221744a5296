-- What a lowering of a program means, of whatever kind the program is, and what it means besides of a core program.
use Rattle.std.specs.Prelude.{◌≡◌, ℕ, List, [], true, is_some, length}
use Rattle.es_tree.specs.Bare.{bare}
use Rattle.es_tree.specs.Core.{IsCoreProgram}
use Rattle.es_tree.specs.Fresh.{is_among}
use Rattle.es_tree.specs.HasForm.{has_form}
use Rattle.es_tree.specs.Names.{names_of}
use Rattle.es_tree.specs.Scopes.{declared_of}
use Rattle.es_tree.specs.StaticRules.{breaks}
use Rattle.es_tree.specs.Tree.{Tree}
use Rattle.es_tree.specs.Words.{Text}
use Rattle.es_tree.specs.declared.options.EnvOptions.{EnvOptions}
use Rattle.es_tree.specs.declared.table.Sort.TheVariants.{Program as s-Program}
use Rattle.es_semantic.specs.SymbolsOf.{symbols_of}
use Rattle.es_runs.specs.OpenRules as plain_rules
use Rattle.es_runs.specs.OpenSteps as plain_steps
use Rattle.es_runs.specs.Runs.{RunAlike, is_declared}
use Rattle.es_resolution.specs.Called.{name_at}
use Rattle.es_resolution.specs.Laws.{source}
use Rattle.es_steps.specs.Bindings.{Bindings}
use Rattle.es_steps.specs.CoreBridge.{Reached, first_whole, is_steady_symbol}
use Rattle.es_steps.specs.Steps.{Ledger, Site, Spot, Whole}
use Rattle.es_module_names.specs.Laws.{SameOutside}
use Rattle.es_valid_arrows.specs.ArrowPlaces.{fits_arrows}
use Rattle.es_valid_arrows.specs.Laws.{with_arrows}

-- the rules of the lowerings that are built, as far as options ask for them
abbrev pub built_rules : EnvOptions → Site → Ledger → Spot → Ledger → Spot → Type 0
built_rules = with_arrows

-- What a program p becomes by these rules: q, with these made names.
pub record IsResultOf (R : Site → Ledger → Spot → Ledger → Spot → Type 0) (p q : Tree) (names : List Text) : Type 0 where
  -- the program with the symbols of its names; written it is equal to this, but for ids and marks
  pub resolved : Tree
  pub written : bare resolved ≡ bare q
  -- by steps of the rules, from the source with its symbols, with nothing pending at the end
  pub reached : Reached R p (first_whole p) names resolved
  -- A name of the source has the symbol that it had, and the others are made; each is bound to what looking it up finds, by one
  -- scope, and one without a symbol is unbound.
  pub bindings : Bindings (source p) resolved (first_whole p) reached.whole
  -- it is a program, and breaks none of the nineteen static rules
  pub form : has_form s-Program q ≡ true
  pub kept : breaks q ≡ []
  -- to other modules it is what p is: it asks for the same ones in the same order, and exports under the same names
  pub outside : SameOutside p q

-- by those that the options ask for
abbrev pub IsResult : EnvOptions → Tree → Tree → List Text → Type 0
IsResult o p q names = IsResultOf (built_rules o) p q names

-- What a core program becomes besides, since the machine knows its runs.
pub record IsCoreResult (o : EnvOptions) (p q : Tree) (names : List Text) : Type 0 where
  -- by steps of the core rules by names: of the built lowerings no other acts on a core program
  pub reached : plain_steps.Reached (plain_rules.rule_under o) p names q
  -- The same questions in the same order, the same outcome, and equal cells of the source's names; where the options assume
  -- that no value is `document.all`, of every run in which none is.
  pub alike : RunAlike o.assumptions.no_document_all p q
  -- a name of the source is bound exactly where it was bound before
  pub bindings : (x : Text) → is_among (names_of p) x ≡ true → is_declared (declared_of q) x ≡ is_declared (declared_of p) x

-- THE LAWS

-- So it is of whatever steps reach from a program that has form and breaks no static rule, at whatever places they are taken and in
-- whatever order; where arrows are lowered each arrow of it can become a function.
abbrev pub LawResult : Type 0
LawResult = (o : EnvOptions) (p q r : Tree) (names : List Text) → has_form s-Program p ≡ true → breaks p ≡ [] → (is_some o.es2015.arrow_function ≡ true → fits_arrows o p ≡ true) → Reached (built_rules o) p (first_whole p) names r → bare r ≡ bare q → IsResult o p q names

abbrev pub LawCoreResult : Type 0
LawCoreResult = (o : EnvOptions) (p q : Tree) (names : List Text) → IsCoreProgram p → breaks p ≡ [] → IsResult o p q names → IsCoreResult o p q names

-- WHERE STEPS BEGIN: what a whole tells of a program before the first of them

pub record IsFirstWhole (p : Tree) (w : Whole) : Type 0 where
  pub in_use : (x : Text) → w.in_use x ≡ (first_whole p).in_use x
  pub steady : (s : ℕ) → w.steady s ≡ is_steady_symbol p s
  pub free_symbol : w.free_symbol ≡ length (symbols_of p)
  pub called : (s : ℕ) → w.called s ≡ name_at (symbols_of p) s
  pub made : w.made ≡ []

abbrev pub LawFirst : Type 0
LawFirst = (p : Tree) (w : Whole) → IsFirstWhole p w → w ≡ first_whole p
