-- The scopes of one node: their names, with their symbols, are those of its frames.
use Rattle.std.proofs.Common.{◌≡◌, ℕ, refl, sym, ap, ◌∙◌, List, [], ◌∷◌}
use Rattle.std.specs.Prelude.{Bool, true, false, not, ◌||◌, ◌&&◌, Option, Some, None, is_some, bytes_eq, if◌then◌else◌}
use Rattle.std.specs.List.{list_all}
use Rattle.es_tree.specs.Words.{Text}
use Rattle.es_tree.specs.Names.{first_text}
use Rattle.es_tree.specs.Scopes.{own_text}
use Rattle.es_tree.specs.Tree.{node, Label, Fields, done, ◌then◌, missing, one}
use Rattle.es_tree.specs.declared.ast_type.AstType.{AstType}
use Rattle.es_tree.specs.declared.ast_type.AstType.TheVariants.{Identifier, ClassDeclaration, ClassExpression}
use Rattle.es_semantic.specs.RolesOf.{role_at}
use Rattle.es_semantic.specs.Places.{Place, own_scope, place_in}
use Rattle.es_semantic.specs.SymbolsOf.{Declared, find, is_bound, symbol_in}
use Rattle.es_semantic.proofs.SymbolPlaces.{symbol-bound}
use Rattle.es_resolution.specs.Declarations.{Bound, sought}
use Rattle.es_resolution.proofs.SymbolTrees.{own_symbols, resolved_in}
use Rattle.es_resolution.specs.Resolved.{class_frame, or_around, within, within_vars, bound_by, has_symbol, IsMarked}
use Rattle.es_resolution.proofs.Basics.{bytes_eq-self, bytes_eq-equal}
use Rattle.es_resolution.proofs.Basics.{Each}
use Rattle.es_resolution.proofs.Placed.{name_fits}
use Rattle.es_resolution.proofs.Marks.{marked, HasSymbol}
use Rattle.es_resolution.proofs.Tests.{or-false}

-- WHAT IS SOUGHT IN A LIST WHOSE SYMBOLS ARE THOSE OF A SCOPE

sought-one : (F : List Declared) (goal : Text → ℕ) (b : Bound) (x : Text) (o : Option (Option ℕ)) (c : Bool) → bytes_eq b.name x ≡ c → HasSymbol F goal b → o ≡ (if is_some o then Some (symbol_in F (goal x) x) else None) →
    (if c then Some b.symbol else o) ≡ (if is_some (if c then Some b.symbol else o) then Some (symbol_in F (goal x) x) else None)
sought-one F goal b x o true e h d = ap (λ (s : Option ℕ). Some s) (h ∙ ap (λ y. symbol_in F (goal y) y) (bytes_eq-equal b.name x e))
sought-one F goal b x o false e h d = d

pub sought-each : (F : List Declared) (goal : Text → ℕ) (bs : List Bound) (x : Text) → Each (HasSymbol F goal) bs → sought bs x ≡ (if bound_by bs x then Some (symbol_in F (goal x) x) else None)
sought-each F goal [] x h = refl
sought-each F goal (b ∷ bs) x h = sought-one F goal b x (sought bs x) (bytes_eq b.name x) refl h.0 (sought-each F goal bs x h.1)

or-found : (c : Bool) (s d : Option ℕ) → or_around (if c then Some s else None) d ≡ (if c then s else d)
or-found true s d = refl
or-found false s d = refl

-- one scope more around
pub within-is : (F : List Declared) (a : ℕ) (bs : List Bound) (f : Text → Option ℕ) (up : List ℕ) (x : Text) → Each (HasSymbol F (λ y. a)) bs → bound_by bs x ≡ is_bound F a x → f x ≡ find F up x → within bs f x ≡ find F (a ∷ up) x
within-is F a bs f up x h e d =
    ap (λ o. or_around o (f x)) (sought-each F (λ y. a) bs x h) ∙ (or-found (bound_by bs x) (symbol_in F a x) (f x) ∙ (λ i. if e i then symbol_in F a x else d i))

-- with the names of `var`
inner-core : (l p v c : Bool) (o h d : Option ℕ) → (c ≡ true → p ≡ false → h ≡ o) → or_around (if l then Some o else None) (if c then (if p then d else or_around (if v then Some h else None) d) else d) ≡ (if l || (c && (not p && v)) then o else d)
inner-core true p v c o h d e = refl
inner-core false p v false o h d e = refl
inner-core false true v true o h d e = refl
inner-core false false true true o h d e = e refl refl
inner-core false false false true o h d e = refl

pub inner-by : (F : List Declared) (a : ℕ) (bs vs : List Bound) (goal : Text → ℕ) (parameters : Text → Bool) (f : Text → Option ℕ) (up : List ℕ) (x : Text) (c p : Bool) → Each (HasSymbol F (λ y. a)) bs → Each (HasSymbol F goal) vs → (c ≡ true → parameters x ≡ p) → (c ≡ true → p ≡ false → goal x ≡ a) →
    is_bound F a x ≡ (bound_by bs x || (c && (not p && bound_by vs x))) → f x ≡ find F up x → within bs (if c then within_vars parameters vs f else f) x ≡ find F (a ∷ up) x
inner-by F a bs vs goal parameters f up x false p h k q g e d =
    ap (λ o. or_around o (f x)) (sought-each F (λ y. a) bs x h) ∙ (or-found (bound_by bs x) (symbol_in F a x) (f x) ∙ (λ i. if (sym (or-false (bound_by bs x)) ∙ sym e) i then symbol_in F a x else d i))
inner-by F a bs vs goal parameters f up x true p h k q g e d =
    (λ i. or_around (sought-each F (λ y. a) bs x h i) (if q refl i then f x else or_around (sought-each F goal vs x k i) (f x)))
    ∙ (inner-core (bound_by bs x) p (bound_by vs x) true (symbol_in F a x) (symbol_in F (goal x) x) (f x) (λ c j. ap (λ b. symbol_in F b x) (g c j))
    ∙ (λ i. if sym e i then symbol_in F a x else d i))

-- THE FIRST FIELD

-- a class's own name
abbrev pub class_name : Text → AstType → Fields → Bool
class_name x ClassDeclaration (one t then fs) = bytes_eq (own_text t) x
class_name x ClassExpression (one t then fs) = bytes_eq (own_text t) x
class_name x _ fs = false

-- what is known of the names of a class inside it
pub record ClassFrame (F : List Declared) (a : ℕ) (k : AstType) (fs : Fields) (bs : List Bound) : Type 0 where
  pub names : (x : Text) → bound_by bs x ≡ class_name x k fs
  pub symbols : Each (HasSymbol F (λ y. a)) bs
  pub known : ((x : Text) → class_name x k fs ≡ true → is_bound F a x ≡ true) → IsMarked bs

pub named-if : (x y : Text) (s : Option ℕ) (c : Bool) → is_some (if c then Some s else None) ≡ c
named-if x y s true = refl
named-if x y s false = refl

marked-one : (F : List Declared) (a : ℕ) (y : Text) → is_bound F a y ≡ true → list_all has_symbol (record { name = y; symbol = symbol_in F a y } ∷ []) ≡ true
marked-one F a y h = rw (symbol-bound F a y, h) refl

pub class-frame : (F : List Declared) (p : Place) (n m : ℕ) (k : AstType) (l : Label) (fs : Fields) → name_fits k fs ≡ true →
    ClassFrame F (own_scope n k fs) k fs (class_frame k (marked l (own_symbols F p n k l fs)) (role_at p.role k l fs) (resolved_in F (place_in p n k l fs) m fs))
class-frame F p n m ClassDeclaration l (missing then fs) h =
    record { names = λ x. refl; symbols = tt; known = λ e. refl }
class-frame F p n m ClassDeclaration l (one (node Identifier c done) then fs) h =
    record { names = λ x. named-if x (first_text c.texts) (symbol_in F n (first_text c.texts)) (bytes_eq (first_text c.texts) x); symbols = (refl, tt); known = λ e. marked-one F n (first_text c.texts) (e (first_text c.texts) (bytes_eq-self (first_text c.texts))) }
class-frame F p n m ClassExpression l (missing then fs) h =
    record { names = λ x. refl; symbols = tt; known = λ e. refl }
class-frame F p n m ClassExpression l (one (node Identifier c done) then fs) h =
    record { names = λ x. named-if x (first_text c.texts) (symbol_in F n (first_text c.texts)) (bytes_eq (first_text c.texts) x); symbols = (refl, tt); known = λ e. marked-one F n (first_text c.texts) (e (first_text c.texts) (bytes_eq-self (first_text c.texts))) }
class-frame F p n m ClassDeclaration l fs h = absurd (cc h)
class-frame F p n m ClassExpression l fs h = absurd (cc h)
class-frame F p n m _ l fs h = record { names = λ x. refl; symbols = tt; known = λ e. refl }
