-- The names of a program's symbols: each identifier that has a symbol has the name of that symbol, and so have the names of classes.
use Rattle.std.proofs.Common.{◌≡◌, ℕ, zero, suc, ◌+◌, refl, sym, subst, List, [], ◌∷◌}
use Rattle.std.specs.Prelude.{Bool, true, false, ◌==◌, Option, Some, None, option_map, bytes_eq, if◌then◌else◌}
use Rattle.std.proofs.lemmas.Bool.{and_parts}
use Rattle.es_tree.specs.Names.{first_text}
use Rattle.es_tree.specs.Scopes.{name_in, own_text}
use Rattle.es_tree.specs.Tree.{Tree, node, Label, Fields, done, ◌then◌, Field, missing, one, many, statements, Trees, empty, ◌before◌}
use Rattle.es_tree.specs.Words.{Text}
use Rattle.es_tree.specs.declared.ast_type.AstType.{AstType}
use Rattle.es_tree.specs.declared.ast_type.AstType.TheVariants.{Identifier, ClassDeclaration, ClassExpression}
use Rattle.es_semantic.specs.Places.{Place, outermost, own_scope, own_scope_count, place_in, scope_count_in, scope_count_in_field}
use Rattle.es_semantic.specs.SymbolsOf.{Declared, find, is_bound, is_symbol, scope_for, symbol_in, symbols_of}
use Rattle.es_semantic.specs.declared.place.Role.{Role}
use Rattle.es_semantic.specs.declared.place.Role.TheVariants.{Nothing, Binds}
use Rattle.es_resolution.specs.Called.{Called, CalledAll, CalledBy, CalledIn, HasName, OwnCalled, name_at}
use Rattle.es_resolution.specs.Laws.{LawCalled}
use Rattle.es_resolution.proofs.Basics.{bytes_eq-equal}
use Rattle.es_resolution.proofs.Marks.{marked}
use Rattle.es_resolution.proofs.Sources.{source-resolved}
use Rattle.es_resolution.proofs.SymbolTrees.{class_symbol, own_symbols, resolved_among, resolved_by, resolved_in, resolved_tree, symbol_for}

later-name : (d : Declared) (ds : List Declared) (x : Text) (o : Option ℕ) → HasName (name_at ds) o x → HasName (name_at (d ∷ ds)) (option_map suc o) x
later-name d ds x None h = tt
later-name d ds x (Some s) h = h

first-name : (d : Declared) (ds : List Declared) (x : Text) (c : Bool) (o : Option ℕ) → (c ≡ true → d.name ≡ x) → HasName (name_at ds) o x → HasName (name_at (d ∷ ds)) (if c then Some 0 else option_map suc o) x
first-name d ds x true o e h = sym (e refl)
first-name d ds x false o e h = later-name d ds x o h

pub symbol-name : (ds : List Declared) (a : ℕ) (x : Text) → HasName (name_at ds) (symbol_in ds a x) x
symbol-name [] a x = tt
symbol-name (d ∷ ds) a x = first-name d ds x (is_symbol a x d) (symbol_in ds a x) (λ e. bytes_eq-equal d.name x (and_parts (d.scope == a) (bytes_eq d.name x) e).1) (symbol-name ds a x)

module _ (F : List Declared) where
  abbrev called : ℕ → Text
  called = name_at F

  either-name : (x : Text) (c : Bool) (o u : Option ℕ) → HasName called o x → HasName called u x → HasName called (if c then o else u) x
  either-name x true o u h e = h
  either-name x false o u h e = e

  find-name : (up : List ℕ) (x : Text) → HasName called (find F up x) x
  find-name [] x = tt
  find-name (a ∷ up) x = either-name x (is_bound F a x) (symbol_in F a x) (find F up x) (symbol-name F a x) (find-name up x)

  role-name : (p : Place) (r : Role) (x : Text) → HasName called (symbol_for F p r x) x
  role-name p Nothing x = tt
  role-name p (Binds b) x = symbol-name F (scope_for F p b x) x
  role-name p _ x = find-name p.around x

  text-kept : (p : Place) (n : ℕ) (t : Tree) → own_text (resolved_tree F p n t) ≡ own_text t
  text-kept p n (node k l fs) = refl

  class-name : (a : ℕ) (ps : ℕ → Place) (n : ℕ) (fs : Fields) → HasName called (class_symbol F a fs) (name_in (resolved_in F ps n fs))
  class-name a ps n (one t then fs) = subst (HasName called (symbol_in F a (own_text t))) (sym (text-kept (ps zero) n t)) (symbol-name F a (own_text t))
  class-name a ps n done = tt
  class-name a ps n (missing then fs) = tt
  class-name a ps n (many ts then fs) = tt
  class-name a ps n (statements ts then fs) = tt

  own-called : (p : Place) (n : ℕ) (k : AstType) (l : Label) (fs : Fields) (ps : ℕ → Place) (m : ℕ) → OwnCalled called k (marked l (own_symbols F p n k l fs)) (resolved_in F ps m fs)
  own-called p n Identifier l fs ps m = role-name p p.role (first_text l.texts)
  own-called p n ClassDeclaration l fs ps m = class-name (own_scope n ClassDeclaration fs) ps m fs
  own-called p n ClassExpression l fs ps m = class-name (own_scope n ClassExpression fs) ps m fs
  own-called p n _ l fs ps m = tt

  mutual
    called-tree : (p : Place) (n : ℕ) (t : Tree) → Called called (resolved_tree F p n t)
    called-tree p n (node k l fs) = (own-called p n k l fs (place_in p n k l fs) (n + own_scope_count k fs), called-in (place_in p n k l fs) (n + own_scope_count k fs) fs)

    called-in : (ps : ℕ → Place) (n : ℕ) (fs : Fields) → CalledIn called (resolved_in F ps n fs)
    called-in ps n done = tt
    called-in ps n (f then fs) = (called-by (ps zero) n f, called-in (λ i. ps (suc i)) (n + scope_count_in_field f) fs)

    called-by : (p : Place) (n : ℕ) (f : Field) → CalledBy called (resolved_by F p n f)
    called-by p n missing = tt
    called-by p n (one t) = called-tree p n t
    called-by p n (many ts) = called-among p n ts
    called-by p n (statements ts) = called-among p n ts

    called-among : (p : Place) (n : ℕ) (ts : Trees) → CalledAll called (resolved_among F p n ts)
    called-among p n empty = tt
    called-among p n (t before ts) = (called-tree p n t, called-among p (n + scope_count_in t) ts)

pub law_called_proof : LawCalled
law_called_proof p = subst (Called (name_at (symbols_of p))) (sym (source-resolved p)) (called-tree (symbols_of p) (outermost p) 1 p)
