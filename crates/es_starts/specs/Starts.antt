-- Where a visit of a program begins: its first moment, and that the program's source fits there and meets the conditions of the core
-- lowerings.
use Rattle.std.specs.Prelude.{◌≡◌, ℕ, ◌<◌, ◌||◌, [], ◌∷◌, true, None, length}
use Rattle.es_tree.specs.Fresh.{is_among}
use Rattle.es_tree.specs.HasForm.{has_form}
use Rattle.es_tree.specs.Names.{names_of}
use Rattle.es_tree.specs.StaticRules.{breaks}
use Rattle.es_tree.specs.Tree.{Tree}
use Rattle.es_tree.specs.Words.{Text}
use Rattle.es_tree.specs.declared.options.EnvOptions.{EnvOptions}
use Rattle.es_tree.specs.declared.table.Sort.TheVariants.{Program as s-Program}
use Rattle.es_scope.specs.Tables.{called, is_steady, symbol_count}
use Rattle.es_scope.specs.declared.scoping.Scoping.{Scoping}
use Rattle.es_semantic.specs.SymbolsOf.{symbols_of}
use Rattle.es_semantic.specs.TableOf.{IsTableOf}
use Rattle.es_resolution.specs.Called.{name_at}
use Rattle.es_resolution.specs.Laws.{source}
use Rattle.es_steps.specs.CoreBridge.{is_steady_symbol, is_written_name}
use Rattle.es_steps.specs.Open.{nothing_pending}
use Rattle.es_steps.specs.Steps.{the_program}
use Rattle.es_changes.specs.Conditions.{holds_after}
use Rattle.es_conditions.specs.CoreConditions.{core_conditions}
use Rattle.es_changes.specs.Fits.{Fits}
use Rattle.es_changes.specs.Moments.{Moment}
use Rattle.es_unsupported.specs.FirstUnsupported.{first_unsupported}

-- The first moment of a visit of this program: nothing is around, and nothing is pending in the one pair. In use are the program's names
-- and those that rules write of themselves; symbols are numbered and called as the scope table has them, those that nothing writes
-- are steady, and none is made.
pub record IsFirst (p : Tree) (a : Moment) : Type 0 where
  pub around : a.around ≡ []
  pub lists : a.lists ≡ nothing_pending ∷ []
  pub in_use : (x : Text) → a.in_use x ≡ (is_written_name x || is_among (names_of p) x)
  pub free_symbol : a.free_symbol ≡ length (symbols_of p)
  pub called : (s : ℕ) → s < length (symbols_of p) → a.called s ≡ name_at (symbols_of p) s
  pub steady : (s : ℕ) → a.steady s ≡ is_steady_symbol p s
  pub made : a.made ≡ []

-- A program that has form and breaks no static rule fits there, as it is seen with its symbols.
abbrev pub LawFits : Type 0
LawFits = (p : Tree) (a : Moment) → has_form s-Program p ≡ true → breaks p ≡ [] → IsFirst p a → Fits a the_program (source p)

-- Where it breaks no static rule, and no node of the program has a shape that a run doesn't take, its source meets the conditions of a
-- visit by the core lowerings.
abbrev pub LawFirstConditions : Type 0
LawFirstConditions = (o : EnvOptions) (p : Tree) → has_form s-Program p ≡ true → breaks p ≡ [] → first_unsupported o p ≡ None → holds_after (core_conditions o) the_program (source p)

-- The scope table of a program tells its symbols as the first moment has them.
pub record TellsSymbols (p : Tree) (s : Scoping) : Type 0 where
  pub count : symbol_count s ≡ length (symbols_of p)
  pub names : (n : ℕ) → called s n ≡ name_at (symbols_of p) n
  pub steady : (n : ℕ) → is_steady s n ≡ is_steady_symbol p n

abbrev pub LawFirstOfTable : Type 0
LawFirstOfTable = (p : Tree) (s : Scoping) → IsTableOf p s → TellsSymbols p s
