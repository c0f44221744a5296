-- Before the first step: what is known of a source.
use Rattle.std.proofs.Common.{◌≡◌, ℕ, suc, refl, sym, subst, List}
use Rattle.std.specs.Prelude.{Bool, true, ◌+◌}
use Rattle.es_tree.specs.Tree.{Tree, node, Label, Fields, done, ◌then◌, Field, missing, one, many, statements, Trees, empty, ◌before◌}
use Rattle.es_tree.specs.declared.ast_type.AstType.{AstType}
use Rattle.es_tree.specs.declared.ast_type.AstType.TheVariants.{Identifier, ClassDeclaration, ClassExpression}
use Rattle.es_semantic.specs.Places.{Place, outermost, own_scope_count, place_in, scope_count_in, scope_count_in_field}
use Rattle.es_semantic.specs.SymbolsOf.{Declared, symbols_of}
use Rattle.es_resolution.specs.Called.{Called}
use Rattle.es_resolution.specs.Laws.{source}
use Rattle.es_resolution.proofs.CalledSources.{law_called_proof}
use Rattle.es_resolution.proofs.Forms.{form-placed}
use Rattle.es_resolution.proofs.Placed.{is_name_first, name_fits, Placed, PlacedIn, PlacedBy, PlacedAll, IsWellPlaced, is_last}
use Rattle.es_resolution.proofs.Sources.{law_resolved_proof, law_single_proof, law_named_proof, source-resolved}
use Rattle.es_resolution.proofs.SymbolTrees.{own_symbols, resolved_among, resolved_by, resolved_in, resolved_tree}
use Rattle.es_steps.specs.Identifiers.{HasIdentifier, OwnPasses, Passes, PassesIn, PassesBy, PassesAll, any_name}
use Rattle.es_steps.specs.Laws.{LawStart}

-- THE NAMES OF CLASSES are identifiers

module _ (ds : List Declared) where
  first-name : (ps : ℕ → Place) (n : ℕ) (fs : Fields) → is_name_first fs ≡ true → HasIdentifier (resolved_in ds ps n fs)
  first-name ps n (missing then fs) h = tt
  first-name ps n (one (node Identifier l done) then fs) h = tt
  first-name ps n _ h = absurd (cc h)

  own-name : (ps : ℕ → Place) (n m : ℕ) (k : AstType) (l l' : Label) (fs : Fields) → name_fits k fs ≡ true → OwnPasses any_name k l' (resolved_in ds ps n fs)
  own-name ps n m Identifier l l' fs h = refl
  own-name ps n m ClassDeclaration l l' fs h = (first-name ps n fs h, refl)
  own-name ps n m ClassExpression l l' fs h = (first-name ps n fs h, refl)
  own-name ps n m _ l l' fs h = tt

  mutual
    class-names : (above : AstType) (last : Bool) (p : Place) (n : ℕ) (t : Tree) → Placed above last t → Passes any_name (resolved_tree ds p n t)
    class-names above last p n (node k l fs) h = (own-name (place_in p n k l fs) (n + own_scope_count k fs) n k l (record l { id = 0; marks = own_symbols ds p n k l fs }) fs h.1, class-names-in k (place_in p n k l fs) (n + own_scope_count k fs) fs h.2)

    class-names-in : (k : AstType) (ps : ℕ → Place) (n : ℕ) (fs : Fields) → PlacedIn k fs → PassesIn any_name (resolved_in ds ps n fs)
    class-names-in k ps n done h = tt
    class-names-in k ps n (f then fs) h = (class-names-by k (is_last fs) (ps 0) n f h.0, class-names-in k (λ i. ps (suc i)) (n + scope_count_in_field f) fs h.1)

    class-names-by : (k : AstType) (last : Bool) (p : Place) (n : ℕ) (f : Field) → PlacedBy k last f → PassesBy any_name (resolved_by ds p n f)
    class-names-by k last p n missing h = tt
    class-names-by k last p n (one t) h = class-names k last p n t h
    class-names-by k last p n (many ts) h = class-names-all k p n ts h
    class-names-by k last p n (statements ts) h = class-names-all k p n ts h

    class-names-all : (k : AstType) (p : Place) (n : ℕ) (ts : Trees) → PlacedAll k ts → PassesAll any_name (resolved_among ds p n ts)
    class-names-all k p n empty h = tt
    class-names-all k p n (t before ts) h = (class-names k _ p n t h.0, class-names-all k p (n + scope_count_in t) ts h.1)

program-names : (ds : List Declared) (pl : Place) (t : Tree) → IsWellPlaced t → Passes any_name (resolved_tree ds pl 1 t)
program-names ds pl (node k l fs) h = (own-name ds (place_in pl 1 k l fs) (1 + own_scope_count k fs) 1 k l (record l { id = 0; marks = own_symbols ds pl 1 k l fs }) fs (λ i. name_fits (h.0 i) fs), class-names-in ds k (place_in pl 1 k l fs) (1 + own_scope_count k fs) fs h.1)

pub law_start_proof : LawStart
law_start_proof p w form right in_use numbered names = record {
  resolved = law_resolved_proof p form;
  single = law_single_proof p form;
  named = law_named_proof p w.in_use w.free_symbol form right in_use numbered;
  called = subst (λ (f : ℕ → _). Called f (source p)) (sym (λ i s. names s i)) (law_called_proof p);
  class_names = subst (λ (z : Tree). Passes any_name z) (sym (source-resolved p)) (program-names (symbols_of p) (outermost p) p (form-placed p form));
}
