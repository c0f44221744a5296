-- The scope table of a program tells its symbols as the first moment has them.
use Rattle.std.proofs.Common.{◌≡◌, ℕ, zero, suc, refl, ap, ◌∙◌, List, [], ◌∷◌}
use Rattle.std.specs.Prelude.{not, ◌&&◌, ltb, option_map, slice_get, unwrap_or}
use Rattle.es_semantic.specs.SymbolsOf.{Declared, symbols_of}
use Rattle.es_resolution.specs.Called.{name_at}
use Rattle.es_starts.specs.Starts.{LawFirstOfTable}

name-there : (ds : List Declared) (n : ℕ) → unwrap_or (option_map (λ d. d.name) (slice_get ds n)) [] ≡ name_at ds n
name-there [] n = refl
name-there (d ∷ ds) zero = refl
name-there (d ∷ ds) (suc n) = name-there ds n

pub law_first_of_table_proof : LawFirstOfTable
law_first_of_table_proof p s h = record {
  count = h.all_symbols;
  names = λ n. ap (λ o. unwrap_or o []) (h.symbol_names n) ∙ name-there (symbols_of p) n;
  steady = λ n. λ i. ltb n (h.all_symbols i) && not (h.mutated n i);
}
