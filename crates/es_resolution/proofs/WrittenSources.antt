-- The symbols that the scope table of a program holds to be written are those that an identifier of the source writes.
use Rattle.std.proofs.Common.{◌≡◌, ℕ, zero, suc, ◌+◌, refl, sym, ap, ◌∙◌, List, ◌++◌}
use Rattle.std.specs.Prelude.{Bool, ◌&&◌, ◌||◌}
use Rattle.std.specs.List.{list_any}
use Rattle.std.proofs.lemmas.List.Folds.{list_any-append}
use Rattle.std.proofs.Math.Bool.{or-false}
use Rattle.es_tree.specs.Names.{first_text}
use Rattle.es_tree.specs.References.{is_symbol, writes_symbol}
use Rattle.es_tree.specs.Tree.{Tree, node, Label, Fields, done, ◌then◌, Field, missing, one, many, statements, Trees, empty, ◌before◌}
use Rattle.es_tree.specs.declared.ast_type.AstType.{AstType}
use Rattle.es_tree.specs.declared.ast_type.AstType.TheVariants.{Identifier}
use Rattle.es_semantic.specs.Places.{Place, Visit, outermost, own_scope_count, place_in, scope_count_in, scope_count_in_field, visits, visits_in_field, visits_in_fields, visits_in_trees}
use Rattle.es_semantic.specs.ReferencesOf.{own_reference, references_among, referred, referring}
use Rattle.es_semantic.specs.RolesOf.{reads}
use Rattle.es_semantic.specs.SymbolsOf.{Declared, find, symbols_of}
use Rattle.es_semantic.specs.declared.place.Role.{Role}
use Rattle.es_semantic.specs.declared.place.Role.TheVariants.{Nothing, Binds, Refers}
use Rattle.es_semantic.proofs.Visits.{references_joined}
use Rattle.es_resolution.specs.Laws.{LawWritten}
use Rattle.es_resolution.specs.Written.{is_written, is_written_among, is_written_by, is_written_in, own_writes, writes}
use Rattle.es_resolution.proofs.Marks.{marked, role-kept}
use Rattle.es_resolution.proofs.Sources.{source-resolved}
use Rattle.es_resolution.proofs.SymbolTrees.{own_symbols, resolved_among, resolved_by, resolved_in, resolved_tree, symbol_for}

module _ (ds : List Declared) (s : ℕ) where
  role-written : (p : Place) (r : Role) (l : Label) → list_any (writes_symbol s) (referred (referring r) l.id (find ds p.around (first_text l.texts))) ≡ (writes r && is_symbol s (symbol_for ds p r (first_text l.texts)))
  role-written p Nothing l = refl
  role-written p (Binds b) l = refl
  role-written p (Refers f) l = or-false (f.write && is_symbol s (find ds p.around (first_text l.texts)))
  role-written p _ l = refl

  own-written : (p : Place) (n : ℕ) (k : AstType) (l : Label) (fs : Fields) → list_any (writes_symbol s) (own_reference ds p k l) ≡ own_writes s p.role k (marked l (own_symbols ds p n k l fs))
  own-written p n Identifier l fs = role-written p p.role l
  own-written p n _ l fs = refl

  -- of some references and of more
  both : (xs ys : List Visit) (a b : Bool) → list_any (writes_symbol s) (references_among ds xs) ≡ a → list_any (writes_symbol s) (references_among ds ys) ≡ b → list_any (writes_symbol s) (references_among ds (xs ++ ys)) ≡ (a || b)
  both xs ys a b e d = ap (list_any (writes_symbol s)) (references_joined ds xs ys) ∙ (list_any-append (writes_symbol s) (references_among ds xs) (references_among ds ys) ∙ (λ i. e i || d i))

  mutual
    written-tree : (p : Place) (n : ℕ) (t : Tree) → list_any (writes_symbol s) (references_among ds (visits p n t)) ≡ is_written s p.role (resolved_tree ds p n t)
    written-tree p n (node k l fs) =
        let ps = place_in p n k l fs in
        let m = n + own_scope_count k fs in
        let gs = resolved_in ds ps m fs in
        let roles = role-kept ds ps m p.role k l (own_symbols ds p n k l fs) fs in
        list_any-append (writes_symbol s) (own_reference ds p k l) (references_among ds (visits_in_fields ps m fs))
        ∙ (λ i. own-written p n k l fs i || (written-in ps m fs ∙ (λ j. is_written_in s (sym roles j) gs)) i)

    written-in : (ps : ℕ → Place) (n : ℕ) (fs : Fields) → list_any (writes_symbol s) (references_among ds (visits_in_fields ps n fs)) ≡ is_written_in s (λ i. (ps i).role) (resolved_in ds ps n fs)
    written-in ps n done = refl
    written-in ps n (f then fs) =
        let qs : ℕ → Place = λ i. ps (suc i) in
        let m = n + scope_count_in_field f in
        both (visits_in_field (ps zero) n f) (visits_in_fields qs m fs) (is_written_by s (ps zero).role (resolved_by ds (ps zero) n f)) (is_written_in s (λ i. (qs i).role) (resolved_in ds qs m fs)) (written-by (ps zero) n f) (written-in qs m fs)

    written-by : (p : Place) (n : ℕ) (f : Field) → list_any (writes_symbol s) (references_among ds (visits_in_field p n f)) ≡ is_written_by s p.role (resolved_by ds p n f)
    written-by p n missing = refl
    written-by p n (one t) = written-tree p n t
    written-by p n (many ts) = written-among p n ts
    written-by p n (statements ts) = written-among p n ts

    written-among : (p : Place) (n : ℕ) (ts : Trees) → list_any (writes_symbol s) (references_among ds (visits_in_trees p n ts)) ≡ is_written_among s p.role (resolved_among ds p n ts)
    written-among p n empty = refl
    written-among p n (t before ts) =
        let m = n + scope_count_in t in
        both (visits p n t) (visits_in_trees p m ts) (is_written s p.role (resolved_tree ds p n t)) (is_written_among s p.role (resolved_among ds p m ts)) (written-tree p n t) (written-among p m ts)

pub law_written_proof : LawWritten
law_written_proof p s = written-tree (symbols_of p) s (outermost p) 1 p ∙ ap (is_written s reads) (sym (source-resolved p))
