-- The symbols of a source with its symbols are below the number of them.
use Rattle.std.proofs.Common.{arith, ◌≡◌, ◌<◌, ℕ, suc, refl, List, [], ◌∷◌, length}
use Rattle.std.specs.Prelude.{Bool, true, false, Option, Some, None, ltb, option_map, if◌then◌else◌}
use Rattle.std.proofs.lemmas.Bool.{lt-ltb, ltb-true}
use Rattle.es_tree.specs.Words.{Text}
use Rattle.es_tree.specs.Names.{first_text}
use Rattle.es_tree.specs.Tree.{Label, Fields, done, ◌then◌, missing, one, many, statements}
use Rattle.es_tree.specs.declared.ast_type.AstType.{AstType}
use Rattle.es_tree.specs.declared.ast_type.AstType.TheVariants.{Identifier, ClassDeclaration, ClassExpression}
use Rattle.es_semantic.specs.Places.{Place, own_scope}
use Rattle.es_semantic.specs.SymbolsOf.{Declared, find, is_bound, is_symbol, scope_for, symbol_in}
use Rattle.es_semantic.specs.declared.place.Role.{Role}
use Rattle.es_semantic.specs.declared.place.Role.TheVariants.{Nothing, Binds}
use Rattle.es_tree.specs.Scopes.{own_text}
use Rattle.es_semantic.specs.NodeMarks.{first_mark}
use Rattle.es_resolution.proofs.SymbolTrees.{symbol_for, class_symbol, own_symbols}

abbrev pub is_below : ℕ → Option ℕ → Bool
is_below free None = true
is_below free (Some s) = ltb s free

one-low : (n : ℕ) (c : Bool) (o : Option ℕ) → is_below n o ≡ true → is_below (suc n) (if c then Some 0 else option_map suc o) ≡ true
one-low n true o h = lt-ltb 0 (suc n) (omega arith)
one-low n false None h = refl
one-low n false (Some s) h = let low : s < n = ltb-true s n h in lt-ltb (suc s) (suc n) (omega arith)

pub symbol-low : (ds : List Declared) (a : ℕ) (x : Text) → is_below (length ds) (symbol_in ds a x) ≡ true
symbol-low [] a x = refl
symbol-low (d ∷ ds) a x = one-low (length ds) (is_symbol a x d) (symbol_in ds a x) (symbol-low ds a x)

either-low : (n : ℕ) (c : Bool) (o u : Option ℕ) → is_below n o ≡ true → is_below n u ≡ true → is_below n (if c then o else u) ≡ true
either-low n true o u h e = h
either-low n false o u h e = e

find-low : (ds : List Declared) (up : List ℕ) (x : Text) → is_below (length ds) (find ds up x) ≡ true
find-low ds [] x = refl
find-low ds (a ∷ up) x = either-low (length ds) (is_bound ds a x) (symbol_in ds a x) (find ds up x) (symbol-low ds a x) (find-low ds up x)

role-low : (F : List Declared) (p : Place) (r : Role) (x : Text) → is_below (length F) (symbol_for F p r x) ≡ true
role-low F p Nothing x = refl
role-low F p (Binds b) x = symbol-low F (scope_for F p b x) x
role-low F p _ x = find-low F p.around x

class-low : (F : List Declared) (a : ℕ) (fs : Fields) → is_below (length F) (class_symbol F a fs) ≡ true
class-low F a (one t then fs) = symbol-low F a (own_text t)
class-low F a done = refl
class-low F a (missing then fs) = refl
class-low F a (many ts then fs) = refl
class-low F a (statements ts then fs) = refl

pub own-low : (F : List Declared) (p : Place) (n : ℕ) (k : AstType) (l : Label) (fs : Fields) → is_below (length F) (first_mark (own_symbols F p n k l fs)) ≡ true
own-low F p n Identifier l fs = role-low F p p.role (first_text l.texts)
own-low F p n ClassDeclaration l fs = class-low F (own_scope n ClassDeclaration fs) fs
own-low F p n ClassExpression l fs = class-low F (own_scope n ClassExpression fs) fs
own-low F p n _ l fs = refl
