-- The symbols that references write.
use Rattle.std.specs.Prelude.{◌≡◌, ℕ, ◌<◌, List, Bool, false, ◌||◌, Option, Some, length, option_and_then, option_map, slice_get, unwrap_or}
use Rattle.std.specs.List.{list_any}
use Rattle.es_tree.specs.Heads.{symbol}
use Rattle.es_tree.specs.References.{writes_symbol}
use Rattle.es_scope.specs.PlainReferences.{plain_reference}
use Rattle.es_scope.specs.declared.scoping.Reference.{Reference}
use Rattle.es_scope.specs.declared.scoping.Symbol.{Symbol}

abbrev pub writes : ℕ → Reference → Bool
writes n r = writes_symbol n (plain_reference r)

-- a symbol, once it is known whether more references write it
abbrev pub mutated_by : Bool → Symbol → Symbol
mutated_by b s = record s { mutated = s.mutated || b }

-- whether the symbol of this number is noted as written; one that isn't of the table is not
abbrev pub mutated_in : List Symbol → ℕ → Bool
mutated_in symbols n = unwrap_or (option_map (λ b. b.mutated) (slice_get symbols n)) false

-- a symbol is noted so exactly where a reference writes it
abbrev pub AreWritten : List Symbol → List Reference → Type 0
AreWritten symbols references = (n : ℕ) → mutated_in symbols n ≡ list_any (writes n) references

-- the symbol of the reference of this number, if it has one
abbrev pub referred_in : List Reference → ℕ → Option ℕ
referred_in references n = option_and_then (λ r. symbol r.symbol) (slice_get references n)

-- references refer to symbols of the table
abbrev pub AreReferring : List Reference → List Symbol → Type 0
AreReferring references symbols = (n m : ℕ) → referred_in references n ≡ Some m → m < length symbols
