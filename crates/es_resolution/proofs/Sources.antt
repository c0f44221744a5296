-- What is seen of a program with the marks of its scope table is the program with the table's symbols.
use Rattle.std.proofs.Common.{◌≡◌, ℕ, zero, suc, ◌+◌, refl, sym, ap, subst, ◌∙◌, List, [], ◌∷◌, length}
use Rattle.std.specs.Prelude.{Option, Some}
use Rattle.es_tree.specs.Fresh.{is_among}
use Rattle.es_tree.specs.Marks.{with_scope}
use Rattle.es_tree.specs.Names.{first_text, names_of}
use Rattle.es_tree.specs.Scopes.{own_text}
use Rattle.es_tree.specs.Tree.{Tree, node, Label, Fields, done, ◌then◌, Field, missing, one, many, statements, Trees, empty, ◌before◌}
use Rattle.es_tree.specs.Words.{Text}
use Rattle.es_tree.specs.declared.ast_type.AstType.{AstType}
use Rattle.es_tree.specs.declared.ast_type.AstType.TheVariants.{Program, Identifier, ClassDeclaration, ClassExpression}
use Rattle.es_semantic.specs.Places.{Place, outermost, own_scope, own_scope_count, place_in, scope_count_in, scope_count_in_field, visits, visits_in_field}
use Rattle.es_semantic.specs.ReferencesOf.{identifier_marks, marked_in_field, marked_in_fields, marked_in_trees, marked_program, marked_tree, own_marks_of, own_reference, references_among}
use Rattle.es_semantic.specs.NodeMarks.{second_mark}
use Rattle.es_semantic.specs.RolesOf.{reads}
use Rattle.es_semantic.specs.SymbolsOf.{Declared, symbol_in, symbols_of}
use Rattle.es_semantic.specs.declared.place.Role.{Role}
use Rattle.es_semantic.specs.declared.place.Role.TheVariants.{Nothing, Binds}
use Rattle.es_resolution.specs.Laws.{LawNamed, LawResolved, LawSingle, LawTable, source}
use Rattle.es_resolution.specs.Named.{Named}
use Rattle.es_resolution.specs.Resolved.{IsResolved}
use Rattle.es_resolution.specs.Seen.{name_inside, seen, seen_among, seen_by, seen_in, seen_marks}
use Rattle.es_resolution.specs.Single.{IsSingle}
use Rattle.es_resolution.proofs.Exports.{form-named}
use Rattle.es_resolution.proofs.Forms.{form-placed}
use Rattle.es_resolution.proofs.MoreNames.{named-more}
use Rattle.es_resolution.proofs.Programs.{placed-resolved}
use Rattle.es_resolution.proofs.Singles.{placed-single}
use Rattle.es_resolution.proofs.SymbolTrees.{class_symbol, own_symbols, resolved, resolved_among, resolved_by, resolved_in, resolved_tree, symbol_for}

-- SYMBOLS

identifier-symbol : (ds : List Declared) (p : Place) (m : ℕ) (r : Role) (x : Text) → second_mark (identifier_marks ds p m r x) ≡ symbol_for ds p r x
identifier-symbol ds p m Nothing x = refl
identifier-symbol ds p m (Binds b) x = refl
identifier-symbol ds p m _ x = refl

text-kept : (ds : List Declared) (p : Place) (n m : ℕ) (t : Tree) → own_text (marked_tree ds p n m t) ≡ own_text t
text-kept ds p n m (node k l fs) = refl

inside-symbol : (ds : List Declared) (s : ℕ) (ps : ℕ → Place) (n m : ℕ) (fs : Fields) → name_inside (symbol_in ds) (Some s) (marked_in_fields ds ps n m fs) ≡ class_symbol ds s fs
inside-symbol ds s ps n m done = refl
inside-symbol ds s ps n m (missing then fs) = refl
inside-symbol ds s ps n m (one t then fs) = ap (symbol_in ds s) (text-kept ds (ps zero) n m t)
inside-symbol ds s ps n m (many ts then fs) = refl
inside-symbol ds s ps n m (statements ts then fs) = refl

-- the label of a node with its marks
abbrev with_marks : List Declared → Place → ℕ → ℕ → AstType → Label → Fields → Label
with_marks ds p n m k l fs = record l { marks = own_marks_of ds p n m k l fs }

own-seen : (ds : List Declared) (p : Place) (n m : ℕ) (k : AstType) (l : Label) (fs : Fields) (ps : ℕ → Place) (n' m' : ℕ) →
    seen_marks (symbol_in ds) k (with_marks ds p n m k l fs) (marked_in_fields ds ps n' m' fs) ≡ own_symbols ds p n k l fs
own-seen ds p n m Identifier l fs ps n' m' = ap (λ s. s ∷ []) (identifier-symbol ds p m p.role (first_text l.texts))
own-seen ds p n m ClassDeclaration l fs ps n' m' = ap (λ s. s ∷ []) (inside-symbol ds (own_scope n ClassDeclaration fs) ps n' m' fs)
own-seen ds p n m ClassExpression l fs ps n' m' = ap (λ s. s ∷ []) (inside-symbol ds (own_scope n ClassExpression fs) ps n' m' fs)
own-seen ds p n m _ l fs ps n' m' = refl

-- TREES

mutual
  seen-tree : (ds : List Declared) (p : Place) (n m : ℕ) (t : Tree) → seen (symbol_in ds) (marked_tree ds p n m t) ≡ resolved_tree ds p n t
  seen-tree ds p n m (node k l fs) =
      let ps = place_in p n k l fs in
      let n' = n + own_scope_count k fs in
      let m' = m + length (own_reference ds p k l) in
      λ i. node k (record l { id = 0; marks = own-seen ds p n m k l fs ps n' m' i }) (seen-in ds ps n' m' fs i)

  seen-in : (ds : List Declared) (ps : ℕ → Place) (n m : ℕ) (fs : Fields) → seen_in (symbol_in ds) (marked_in_fields ds ps n m fs) ≡ resolved_in ds ps n fs
  seen-in ds ps n m done = refl
  seen-in ds ps n m (f then fs) = λ i. seen-by ds (ps zero) n m f i then seen-in ds (λ j. ps (suc j)) (n + scope_count_in_field f) (m + length (references_among ds (visits_in_field (ps zero) n f))) fs i

  seen-by : (ds : List Declared) (p : Place) (n m : ℕ) (f : Field) → seen_by (symbol_in ds) (marked_in_field ds p n m f) ≡ resolved_by ds p n f
  seen-by ds p n m missing = refl
  seen-by ds p n m (one t) = ap one (seen-tree ds p n m t)
  seen-by ds p n m (many ts) = ap many (seen-among ds p n m ts)
  seen-by ds p n m (statements ts) = ap statements (seen-among ds p n m ts)

  seen-among : (ds : List Declared) (p : Place) (n m : ℕ) (ts : Trees) → seen_among (symbol_in ds) (marked_in_trees ds p n m ts) ≡ resolved_among ds p n ts
  seen-among ds p n m empty = refl
  seen-among ds p n m (t before ts) = λ i. seen-tree ds p n m t i before seen-among ds p (n + scope_count_in t) (m + length (references_among ds (visits p n t))) ts i

-- the mark of the program's scope isn't seen
scope-seen : (bound : ℕ → Text → Option ℕ) (t : Tree) → seen bound (with_scope t) ≡ seen bound t
scope-seen bound (node Program l fs) = refl
scope-seen bound (node k l fs) = refl

pub source-resolved : (p : Tree) → source p ≡ resolved p
source-resolved p = scope-seen (symbol_in (symbols_of p)) (marked_tree (symbols_of p) (outermost p) 1 0 p) ∙ seen-tree (symbols_of p) (outermost p) 1 0 p

-- THE LAWS

pub law_table_proof : LawTable
law_table_proof p s h = λ i. seen (λ n x. h.bindings n x i) (marked_program p)

pub law_resolved_proof : LawResolved
law_resolved_proof p form = subst IsResolved (sym (source-resolved p)) (placed-resolved p (form-placed p form))

pub law_single_proof : LawSingle
law_single_proof p form = subst IsSingle (sym (source-resolved p)) (placed-single p (form-placed p form))

pub law_named_proof : LawNamed
law_named_proof p in_use free form valid used low =
    subst (Named in_use free reads) (sym (source-resolved p))
    (named-more (is_among (names_of p)) in_use used (length (symbols_of p)) free low reads (resolved p) (form-named p form valid))
