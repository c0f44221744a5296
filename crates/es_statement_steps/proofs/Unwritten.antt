-- Steady symbols, those of the source that nothing writes (ECMA-262, 13.4, 13.15), and trees in which no identifier writes a symbol.
use Rattle.std.proofs.Common.{◌≡◌, ◌<◌, ℕ, zero, suc, refl, sym, ◌∙◌}
use Rattle.std.proofs.lemmas.Bool.{and_parts, ltb-true, not-true, or_from, or_parts}
use Rattle.std.specs.Prelude.{true, false, not, ◌&&◌, length, ltb}
use Rattle.es_tree.specs.References.{is_symbol}
use Rattle.es_tree.specs.Tree.{Tree, node, Label, Fields, done, ◌then◌, Field, missing, one, many, statements, Trees, empty, ◌before◌}
use Rattle.es_tree.specs.declared.ast_type.AstType.{AstType}
use Rattle.es_tree.specs.declared.ast_type.AstType.TheVariants.{Identifier}
use Rattle.es_semantic.specs.ReferencesOf.{is_mutated_of}
use Rattle.es_semantic.specs.RolesOf.{reads, role_at}
use Rattle.es_semantic.specs.SymbolsOf.{symbols_of}
use Rattle.es_semantic.specs.declared.place.Role.{Role}
use Rattle.es_resolution.specs.Declarations.{symbol_of}
use Rattle.es_resolution.specs.Laws.{source}
use Rattle.es_resolution.specs.Written.{is_written, is_written_among, is_written_by, is_written_in, own_writes, writes}
use Rattle.es_resolution.proofs.WrittenSources.{law_written_proof}
use Rattle.es_steps.specs.CoreBridge.{first_whole}
use Rattle.es_steps.specs.Steps.{Whole}
use Rattle.es_statement_steps.proofs.AvoidedNames.{AtNames, AtNamesAll, AtNamesBy, AtNamesIn, OwnAt}

-- NAMES THAT DON'T WRITE A SYMBOL

abbrev pub IsSparing : ℕ → Role → Label → Type 0
IsSparing m r l = (writes r && is_symbol m (symbol_of l)) ≡ false

-- no identifier of a tree writes it
abbrev pub Spares : ℕ → Role → Tree → Type 0
Spares m r t = AtNames (IsSparing m) r t

abbrev pub SparesAll : ℕ → Role → Trees → Type 0
SparesAll m r ts = AtNamesAll (IsSparing m) r ts

module _ (m : ℕ) where
  own-spared : (r : Role) (k : AstType) (l : Label) → own_writes m r k l ≡ false → OwnAt (IsSparing m) r k l
  own-spared r Identifier l h = h
  own-spared r _ l h = tt

  own-unwritten : (r : Role) (k : AstType) (l : Label) → OwnAt (IsSparing m) r k l → own_writes m r k l ≡ false
  own-unwritten r Identifier l h = h
  own-unwritten r _ l h = refl

  mutual
    pub spared-of : (r : Role) (t : Tree) → is_written m r t ≡ false → Spares m r t
    spared-of r (node k l fs) h = let d = or_parts (own_writes m r k l) (is_written_in m (role_at r k l fs) fs) h in (own-spared r k l d.0, spared-in (role_at r k l fs) fs d.1)

    spared-in : (roles : ℕ → Role) (fs : Fields) → is_written_in m roles fs ≡ false → AtNamesIn (IsSparing m) roles fs
    spared-in roles done h = tt
    spared-in roles (f then fs) h = let d = or_parts (is_written_by m (roles zero) f) (is_written_in m (λ i. roles (suc i)) fs) h in (spared-by (roles zero) f d.0, spared-in (λ i. roles (suc i)) fs d.1)

    spared-by : (r : Role) (f : Field) → is_written_by m r f ≡ false → AtNamesBy (IsSparing m) r f
    spared-by r missing h = tt
    spared-by r (one t) h = spared-of r t h
    spared-by r (many ts) h = spared-among r ts h
    spared-by r (statements ts) h = spared-among r ts h

    spared-among : (r : Role) (ts : Trees) → is_written_among m r ts ≡ false → SparesAll m r ts
    spared-among r empty h = tt
    spared-among r (t before ts) h = let d = or_parts (is_written m r t) (is_written_among m r ts) h in (spared-of r t d.0, spared-among r ts d.1)

  mutual
    pub unwritten-of : (r : Role) (t : Tree) → Spares m r t → is_written m r t ≡ false
    unwritten-of r (node k l fs) h = or_from (own_writes m r k l) (is_written_in m (role_at r k l fs) fs) (own-unwritten r k l h.0) (unwritten-in (role_at r k l fs) fs h.1)

    unwritten-in : (roles : ℕ → Role) (fs : Fields) → AtNamesIn (IsSparing m) roles fs → is_written_in m roles fs ≡ false
    unwritten-in roles done h = refl
    unwritten-in roles (f then fs) h = or_from (is_written_by m (roles zero) f) (is_written_in m (λ i. roles (suc i)) fs) (unwritten-by (roles zero) f h.0) (unwritten-in (λ i. roles (suc i)) fs h.1)

    unwritten-by : (r : Role) (f : Field) → AtNamesBy (IsSparing m) r f → is_written_by m r f ≡ false
    unwritten-by r missing h = refl
    unwritten-by r (one t) h = unwritten-of r t h
    unwritten-by r (many ts) h = unwritten-among r ts h
    unwritten-by r (statements ts) h = unwritten-among r ts h

    unwritten-among : (r : Role) (ts : Trees) → SparesAll m r ts → is_written_among m r ts ≡ false
    unwritten-among r empty h = refl
    unwritten-among r (t before ts) h = or_from (is_written m r t) (is_written_among m r ts) (unwritten-of r t h.0) (unwritten-among r ts h.1)

-- STEADY SYMBOLS are old, and not written

pub record SteadyIn (w : Whole) (r : Role) (t : Tree) : Type 0 where
  pub old : (m : ℕ) → w.steady m ≡ true → m < w.free_symbol
  pub unwritten : (m : ℕ) → w.steady m ≡ true → is_written m r t ≡ false

-- in the source
pub steady-start : (p : Tree) → SteadyIn (first_whole p) reads (source p)
steady-start p = record {
  old = λ m h. ltb-true m (length (symbols_of p)) (and_parts (ltb m (length (symbols_of p))) (not (is_mutated_of p m)) h).0;
  unwritten = λ m h. sym (law_written_proof p m) ∙ not-true (is_mutated_of p m) (and_parts (ltb m (length (symbols_of p))) (not (is_mutated_of p m)) h).1;
}
