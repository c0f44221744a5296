-- The walk that adds references over a whole program: where it begins, and the table that it leaves.
use Rattle.std.proofs.Common.{◌≡◌, ℕ, suc, ◌+◌, ◌≤◌, ◌||◌, Some, List, ◌∷◌, slice_get, refl, ap, subst, ◌∙◌, arith}
use Rattle.std.specs.List.{list_any}
use Rattle.es_tree.specs.References.{writes_symbol}
use Rattle.es_tree.specs.Tree.{Tree}
use Rattle.es_scope.specs.Tables.{reference_at, reference_count, scope_count}
use Rattle.es_scope.specs.declared.scoping.Scoping.{Scoping}
use Rattle.es_semantic.specs.Places.{outermost, scope_count_in, visits_of}
use Rattle.es_semantic.specs.ReferencesOf.{references_of}
use Rattle.es_semantic.specs.Referring.{HasNames, HasReferencesMore, IsAt, inside, no_scope, StandFrom}
use Rattle.es_semantic.specs.ScopesOf.{ScopeRow, scopes_among, scopes_of}
use Rattle.es_semantic.specs.SymbolsOf.{Declared, symbols_of}
use Rattle.es_semantic.specs.TableOf.{IsTableOf}
use Rattle.es_semantic.specs.Walks.{Holds, IsKnown, StandsAs}
use Rattle.es_semantic.specs.declared.place.Place.{Place as WalkPlace}
use Rattle.es_semantic.proofs.MoreReferences.{more_from}
use Rattle.es_semantic.proofs.VisitCounts.{scopes_count}

pub names_held : (rows : List ScopeRow) (ds : List Declared) (s : Scoping) → Holds rows ds s → HasNames rows ds s
names_held rows ds s h = record {
  all_scopes = h.all_scopes;
  parents = h.parents;
  flags = h.flags;
  bindings = h.bindings;
  all_symbols = h.all_symbols;
  symbol_scopes = h.symbol_scopes;
  symbol_flags_are = h.symbol_flags_are;
}

-- the scopes of the table are that of the program and those inside it
pub program_room : (p : Tree) (ds : List Declared) (s : Scoping) → Holds (scopes_of p) ds s → 1 + scope_count_in p ≡ scope_count s
program_room p ds s h = omega (arith, h.all_scopes, scopes_count (outermost p) 1 p)

pub stand_after : (r : ScopeRow) (made : List ScopeRow) → StandFrom (r ∷ made) 1 made
stand_after r made = λ i q e. let next : suc i ≡ 1 + i = omega arith in subst (λ n. slice_get (r ∷ made) n ≡ Some q) next e

-- the place of the whole program, before the walk
pub program_at : (held : WalkPlace) (p : Tree) (s : Scoping) → StandsAs held (outermost p) → Holds (scopes_of p) (symbols_of p) s → IsAt held (outermost p) (scopes_of p) (symbols_of p) s 1 (visits_of p)
program_at held p s stands h = record {
  stands = stands;
  names = names_held (scopes_of p) (symbols_of p) s h;
  chain = inside refl no_scope;
  made = stand_after _ (scopes_among (visits_of p));
}

-- the table after it
pub program_table : (p : Tree) (old new : Scoping) → Holds (scopes_of p) (symbols_of p) old → HasReferencesMore old new (references_of p) → IsTableOf p new
program_table p old new h more = record {
  all_scopes = more.scopes.count ∙ h.all_scopes;
  parents = λ n. more.scopes.parents n ∙ h.parents n;
  flags = λ n. more.scopes.flags n ∙ h.flags n;
  bindings = λ n x. more.bindings n x ∙ h.bindings n x;
  all_symbols = more.symbols.count ∙ h.all_symbols;
  symbol_scopes = λ n. more.symbols.scopes n ∙ h.symbol_scopes n;
  symbol_flags_are = λ n. more.symbols.flags n ∙ h.symbol_flags_are n;
  symbol_names = λ n. more.symbols.names n ∙ h.symbol_names n;
  mutated = λ n. more.mutated n ∙ ap (λ b. b || list_any (writes_symbol n) (references_of p)) (h.mutated n);
  all_references = omega (arith, more.count, h.none_referred);
  each_reference = λ n. more.references n ∙ (more_from (reference_count old) (references_of p) (reference_at old) n (omega (arith, h.none_referred)) ∙ ap (slice_get (references_of p)) (omega (arith, h.none_referred)));
}

pub known_more : (held : WalkPlace) (count more : ℕ) → count ≤ more → IsKnown held count → IsKnown held more
known_more held count more l h = record {
  scope_known = omega (arith, h.scope_known, l);
  hoist_known = omega (arith, h.hoist_known, l);
  parameters_known = λ n e. omega (arith, h.parameters_known n e, l);
}
