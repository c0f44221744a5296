-- A core program has the same scope table by the definitions over every program as by those over core programs.
use Rattle.std.proofs.Common.{◌≡◌, ◌<◌, ℕ, zero, suc, refl, sym, ap, ◌∙◌, List, [], ◌∷◌, map, length, arith}
use Rattle.std.proofs.lemmas.Option.{slice_get-map}
use Rattle.std.proofs.lemmas.List.{length-map}
use Rattle.std.specs.List.{list_any}
use Rattle.std.specs.Prelude.{Option, Some, option_map, slice_get}
use Rattle.es_tree.specs.Core.{IsCoreProgram}
use Rattle.es_tree.specs.References.{references, writes_symbol, reads as core_reads, role_at as core_role_at, references_at}
use Rattle.es_tree.specs.Scopes.{Declared as CoreDeclared, declared_of}
use Rattle.es_tree.specs.Symbols.{symbols, symbol_of}
use Rattle.es_tree.specs.Tree.{Tree, node}
use Rattle.es_tree.specs.Words.{Text}
use Rattle.es_tree.specs.declared.ast_type.AstType.TheVariants.{Program}
use Rattle.es_scope.specs.declared.scoping.Scoping.{Scoping}
use Rattle.es_semantic.specs.Places.{outermost, place_in, visits_of}
use Rattle.es_semantic.specs.ReferencesOf.{references_among, references_of}
use Rattle.es_semantic.specs.ScopesOf.{scopes_of}
use Rattle.es_semantic.specs.ScopingOf.{IsScopingOf}
use Rattle.es_semantic.specs.SymbolFlags.{flags_of}
use Rattle.es_semantic.specs.SymbolsOf.{Declared, symbol_flags, symbol_in, symbols_of}
use Rattle.es_semantic.specs.TableOf.{IsTableOf}
use Rattle.es_semantic.proofs.CoreParts.{HasParts, core-parts}
use Rattle.es_semantic.proofs.CoreSymbols.{core-flags, core-symbol, core-symbols, of_name, outermost_in}
use Rattle.es_semantic.proofs.CoreWalks.{in_program_below, no-scopes, same-references-fields}

-- REFERENCES

module _ (ds : List Declared) (look : Text → Option ℕ) (same : (x : Text) → symbol_in ds 0 x ≡ look x) where
  program-references : (p : Tree) → HasParts p → references_among ds (visits_of p) ≡ references_at look core_reads p
  program-references (node Program l fs) h =
      let p : Tree = node Program l fs in
      same-references-fields ds look same (place_in (outermost p) 1 Program l fs) 1 (core_role_at core_reads Program l) fs (in_program_below (outermost p) 1 Program l fs refl (outermost_in p)) h.1
  program-references (node k l fs) h = absurd h

pub core-references : (p : Tree) → IsCoreProgram p → references_of p ≡ references p
core-references p is = program-references (symbols_of p) (symbol_of (declared_of p)) (core-symbol p is) p (core-parts p is)

-- THE TABLE

one_row : (p : Tree) → IsCoreProgram p → length (scopes_of p) ≡ 1
one_row p is = ap (λ rs. suc (length rs)) (no-scopes (outermost p) 1 p is.core)

in_program : (ss : List CoreDeclared) (n : ℕ) → n < length ss → option_map (λ d. d.scope) (slice_get (map of_name ss) n) ≡ Some 0
in_program [] n lt = absurd (omega (arith, lt))
in_program (s ∷ ss) zero lt = refl
in_program (s ∷ ss) (suc n) lt = in_program ss n (omega (arith, lt))

-- a core program has the table that it has by the definition over core programs
pub core-table : (p : Tree) (s : Scoping) → IsCoreProgram p → IsTableOf p s → IsScopingOf p s
core-table p s is h =
    let ss = symbols (declared_of p) in
    let count : length (symbols_of p) ≡ length ss = ap length (core-symbols p is) ∙ length-map ss of_name in
    let references = core-references p is in
    record {
      one_scope = h.all_scopes ∙ one_row p is;
      parent = h.parents 0;
      flags = h.flags 0;
      bindings = λ x. h.bindings 0 x ∙ core-symbol p is x;
      all_symbols = h.all_symbols ∙ count;
      symbol_scopes = λ n lt. h.symbol_scopes n ∙ (ap (λ ds. option_map (λ d. d.scope) (slice_get ds n)) (core-symbols p is) ∙ in_program ss n (omega (arith, lt, h.all_symbols, count)));
      symbol_flags = λ n.
          h.symbol_flags_are n ∙ (sym (slice_get-map (λ d. symbol_flags d.binding) (symbols_of p) n)
          ∙ (ap (λ fs. slice_get fs n) (core-flags p is) ∙ slice_get-map flags_of ss n));
      mutated = λ n lt. h.mutated n ∙ ap (list_any (writes_symbol n)) references;
      all_references = h.all_references ∙ ap length references;
      each_reference = λ n. h.each_reference n ∙ ap (λ rs. slice_get rs n) references;
    }
