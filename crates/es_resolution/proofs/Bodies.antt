-- A tree with the symbols of the table is resolved, at each place.
use Rattle.std.proofs.Common.{arith, ◌≡◌, ◌<◌, ◌≤◌, ℕ, zero, suc, ◌+◌, ◌==◌, refl, sym, ◌∙◌, List, []}
use Rattle.std.specs.Prelude.{Bool, true, false, not, ◌||◌, ◌&&◌, Option, Some, is_some, bytes_eq, if◌then◌else◌}
use Rattle.std.proofs.lemmas.Bool.{eq-eqb, ne_eqb, and_parts, not-true}
use Rattle.es_tree.specs.Words.{Text}
use Rattle.es_tree.specs.Children.{child_at}
use Rattle.es_tree.specs.Names.{first_text}
use Rattle.es_tree.specs.Tree.{Tree, node, Label, Fields, done, ◌then◌, Field, missing, one, many, statements, kind_of}
use Rattle.es_tree.specs.declared.ast_type.AstType.{AstType}
use Rattle.es_tree.specs.declared.ast_type.AstType.TheVariants.{Identifier, FunctionDeclaration, FunctionExpression, ArrowFunctionExpression, FunctionBody, StaticBlock, ClassDeclaration, ClassExpression}
use Rattle.es_semantic.specs.RolesOf.{reads, role_at}
use Rattle.es_semantic.specs.ScopesOf.{is_function}
use Rattle.es_semantic.specs.Places.{Place, first, makes_scope, is_inside, is_hoisted_to, scope_count_in_fields, visits_in_fields}
use Rattle.es_semantic.specs.SymbolsOf.{Declared, find, hoists, hoist_scope, is_bound, symbol_in, with_visits}
use Rattle.es_semantic.specs.declared.place.Role.{Role}
use Rattle.es_semantic.specs.declared.place.Role.TheVariants.{Nothing, Binds}
use Rattle.es_semantic.proofs.SymbolPlaces.{symbol-bound}
use Rattle.es_resolution.proofs.Declares.{counts-none, is_declared}
use Rattle.es_resolution.proofs.SymbolTrees.{own_symbols, symbol_for}
use Rattle.es_resolution.specs.Resolved.{Place as Around, class_frame, frame, bound_by, IsMarked, IsRight, OwnRight}
use Rattle.es_resolution.proofs.Basics.{bytes_eq-self}
use Rattle.es_resolution.proofs.Basics.{every}
use Rattle.es_resolution.proofs.Placed.{kind_fits, is_last, is_name_first, name_fits, PlacedIn}
use Rattle.es_resolution.proofs.Declares.{declares, declares_in, declares_by, bound-in}
use Rattle.es_resolution.proofs.Marks.{marked}
use Rattle.es_resolution.proofs.Tests.{and-false, stay-in}
use Rattle.es_resolution.proofs.Outside.{Fits, is_parameter, place}
use Rattle.es_resolution.proofs.OutsideTrees.{places, out-in}
use Rattle.es_resolution.proofs.Frames.{class_name}
use Rattle.es_resolution.proofs.Nodes.{Agrees, IsNonEmpty, Sees, Body, find-first, out-true}
use Rattle.es_resolution.proofs.OtherRoles.{inside-other}

-- AN IDENTIFIER

bind-right : (F : List Declared) (p : Place) (P : Around) (y : Text) (c : Bool) → IsNonEmpty p.around → P.scope y ≡ find F p.around y → (not c ≡ true → is_bound F (first p.around) y ≡ true) → (c ≡ true → (P.hoist y ≡ symbol_in F (hoist_scope F p y) y) × (is_bound F (hoist_scope F p y) y ≡ true)) →
    (symbol_in F (if c then hoist_scope F p y else first p.around) y ≡ (if c then P.hoist y else P.scope y)) × (is_some (symbol_in F (if c then hoist_scope F p y else first p.around) y) ≡ true)
bind-right F p P y true some e lex var = (sym (var refl).0, symbol-bound F (hoist_scope F p y) y ∙ (var refl).1)
bind-right F p P y false some e lex var = (sym (e ∙ find-first F p.around y some (lex refl)), symbol-bound F (first p.around) y ∙ lex refl)

name-right : (F : List Declared) (p : Place) (P : Around) (r : Role) (y : Text) → IsNonEmpty p.around → P.scope y ≡ find F p.around y → (is_declared false r ≡ true → is_bound F (first p.around) y ≡ true) → (is_declared true r ≡ true → (P.hoist y ≡ symbol_in F (hoist_scope F p y) y) × (is_bound F (hoist_scope F p y) y ≡ true)) →
    IsRight P r y (symbol_for F p r y)
name-right F p P Nothing y some e lex var = tt
name-right F p P (Binds b) y some e lex var = bind-right F p P y (hoists b) some e lex var
name-right F p P _ y some e lex var = sym e

asked-here : (x : Text) (a d : Bool) → a ≡ true → ((a && bytes_eq x x) || d) ≡ true
asked-here x a d h = rw (h, bytes_eq-self x) refl

pub own-right : (F : List Declared) (p : Place) (P : Around) (n : ℕ) (k : AstType) (l : Label) (fs : Fields) → Sees F p P (λ x. declares x false p.role (node k l fs)) (λ x. declares x true p.role (node k l fs)) → OwnRight P p.role k (marked l (own_symbols F p n k l fs))
own-right F p P n Identifier l fs h =
    let y = first_text l.texts in
    name-right F p P p.role y h.some (h.scope y) (λ a. h.lexical y (asked-here y (is_declared false p.role) (declares_in y false every (role_at p.role Identifier l fs) fs) a)) (λ a. h.hoisted y (asked-here y (is_declared true p.role) (declares_in y true every (role_at p.role Identifier l fs) fs) a))
own-right F p P n _ l fs h = tt

pub class-kinds : (k : AstType) (l : Label) (rs : ℕ → Role) (gs : Fields) → (makes_scope k ≡ true → IsMarked (class_frame k l rs gs)) → IsMarked (class_frame k l rs gs)
class-kinds ClassDeclaration l rs gs h = h refl
class-kinds ClassExpression l rs gs h = h refl
class-kinds _ l rs gs h = refl

-- THE FIELDS OF A NODE

abbrev pub hoist_at : List Declared → ℕ → Option ℕ → Text → ℕ
hoist_at F h q x = hoist_scope F (place reads [] h q false) x

abbrev pub arounds : (ℕ → Text → Option ℕ) → (Text → Option ℕ) → (Text → Bool) → ℕ → Around
arounds S H Q i = record { scope = S i; hoist = H; parameters = Q }

-- what is known of the parameters around the body of a function, and around what is no function's
pub record BodiesIn (F : List Declared) (n0 : ℕ) (k : AstType) (h : ℕ) (A : ℕ → List ℕ) (Q ps : Text → Bool) (fs : Fields) : Type 0 where
  pub others : is_function k ≡ false → (x : Text) → Q x ≡ false
  pub bodies : is_function k ≡ true → (i : ℕ) (t : Tree) → child_at i fs ≡ Some t → kind_of t ≡ FunctionBody → (n0 ≤ first (A i)) × ((h < n0) × ((x : Text) → (Q x ≡ is_bound F (first (A i)) x) × (ps x ≡ is_bound F (first (A i)) x)))

pub bodies-later : (F : List Declared) (n0 : ℕ) (k : AstType) (h : ℕ) (A : ℕ → List ℕ) (Q ps : Text → Bool) (w : Field) (fs : Fields) → BodiesIn F n0 k h A Q ps (w then fs) → BodiesIn F n0 k h (λ i. A (suc i)) Q ps fs
bodies-later F n0 k h A Q ps w fs e = record { others = e.others; bodies = λ c i t. e.bodies c (suc i) t }

pub record SeesIn (F : List Declared) (n0 : ℕ) (k : AstType) (h : ℕ) (q : Option ℕ) (R : ℕ → Role) (A : ℕ → List ℕ) (S : ℕ → Text → Option ℕ) (H : Text → Option ℕ) (Q ps : Text → Bool) (fs : Fields) : Type 0 where
  pub some : (i : ℕ) → IsNonEmpty (A i)
  pub scope : (i : ℕ) (x : Text) → S i x ≡ find F (A i) x
  pub lexical : (s : ℕ) (x : Text) → declares_in x false (λ i. first (A i) == s) R fs ≡ true → is_bound F s x ≡ true
  pub hoisted : (x : Text) → declares_in x true every R fs ≡ true → (H x ≡ symbol_in F (hoist_at F h q x) x) × (is_bound F (hoist_at F h q x) x ≡ true)
  pub below : BodiesIn F n0 k h A Q ps fs

pub sees-later : (F : List Declared) (n0 : ℕ) (k : AstType) (h : ℕ) (q : Option ℕ) (R : ℕ → Role) (A : ℕ → List ℕ) (S : ℕ → Text → Option ℕ) (H : Text → Option ℕ) (Q ps : Text → Bool) (w : Field) (fs : Fields) → SeesIn F n0 k h q R A S H Q ps (w then fs) →
    SeesIn F n0 k h q (λ i. R (suc i)) (λ i. A (suc i)) (λ i. S (suc i)) H Q ps fs
sees-later F n0 k h q R A S H Q ps w fs e = record {
  some = λ i. e.some (suc i);
  scope = λ i. e.scope (suc i);
  lexical = λ s x d. e.lexical s x (out-true (first (A zero) == s && declares_by x false (R zero) w) (declares_in x false (λ i. first (A (suc i)) == s) (λ i. R (suc i)) fs) k d);
  hoisted = λ x d. e.hoisted x (out-true (declares_by x true (R zero) w) (declares_in x true every (λ i. R (suc i)) fs) k d);
  below = bodies-later F n0 k h A Q ps w fs e.below;
}

pub sees-first : (F : List Declared) (n0 : ℕ) (k : AstType) (h : ℕ) (q : Option ℕ) (st : Bool) (R : ℕ → Role) (A : ℕ → List ℕ) (S : ℕ → Text → Option ℕ) (H : Text → Option ℕ) (Q ps : Text → Bool) (w : Field) (fs : Fields) → SeesIn F n0 k h q R A S H Q ps (w then fs) →
    Sees F (places R A h q st zero) (arounds S H Q zero) (λ x. declares_by x false (R zero) w) (λ x. declares_by x true (R zero) w)
sees-first F n0 k h q st R A S H Q ps w fs e = record {
  some = e.some zero;
  scope = e.scope zero;
  lexical = λ x d. e.lexical (first (A zero)) x (rw (eq-eqb (first (A zero)) (first (A zero)) refl, d) refl);
  hoisted = λ x d. e.hoisted x (rw d refl);
}

-- THE BODY OF A FUNCTION

-- in a list of nodes there is none
pub body-in-list : (F ds : List Declared) (p : Place) (P : Around) (ps : Text → Bool) (above k : AstType) → kind_fits above false k ≡ true → (is_function above ≡ false → (x : Text) → P.parameters x ≡ false) → Body F ds p P ps k
body-in-list F ds p P ps above FunctionBody h e = absurd (let no : false ≡ true = sym (and-false (is_function above)) ∙ h in cc)
body-in-list F ds p P ps above StaticBlock h e = e (not-true (is_function above) h)
body-in-list F ds p P ps above _ h e = tt

-- the body is the last field, so what was declared before is all
last-body : (F ds : List Declared) (n0 : ℕ) (k : AstType) (h : ℕ) (q : Option ℕ) (st : Bool) (R : ℕ → Role) (A : ℕ → List ℕ) (n : ℕ) (l : Label) (gs fs : Fields) → is_last fs ≡ true → ((i : ℕ) → Fits n h q (first (A i))) → PlacedIn k (one (node FunctionBody l gs) then fs) →
    Agrees n0 (n + scope_count_in_fields (one (node FunctionBody l gs) then fs)) F (with_visits ds (visits_in_fields (places R A h q st) n (one (node FunctionBody l gs) then fs))) → n0 ≤ first (A zero) → h < n0 → (x : Text) → is_bound ds (first (A zero)) x ≡ is_bound F (first (A zero)) x
last-body F ds n0 k h q st R A n l gs done e f d a low hoist x =
    let s = first (A zero) in
    let fit : first (A zero) < n = (f zero).around in
    let none : declares_in x false (λ i. first (A i) == s) R (one (node FunctionBody l gs) then done) ≡ false = rw (counts-none x false (λ i. false) (role_at (R zero) FunctionBody l gs) gs (λ i. refl), and-false (first (A zero) == s)) refl in
    sym (a s x low (omega arith) ∙ (out-in s x k ds h q st R A n (one (node FunctionBody l gs) then done) f d (λ i. omega arith)
    ∙ stay-in (is_bound ds s x) (declares_in x false (λ i. first (A i) == s) R (one (node FunctionBody l gs) then done)) (h == s) (not (is_parameter ds q x) && declares_in x true every R (one (node FunctionBody l gs) then done)) none (ne_eqb h s (λ i. omega arith))))
last-body F ds n0 k h q st R A n l gs (w then fs) e f d a low hoist x = absurd (cc e)

abbrev pub BodyBy : List Declared → List Declared → Place → Around → (Text → Bool) → Field → Type 0
BodyBy F ds p P ps (one t) = Body F ds p P ps (kind_of t)
BodyBy F ds p P ps _ = Unit {0}

pub body-first : (F ds : List Declared) (n0 : ℕ) (k : AstType) (h : ℕ) (q : Option ℕ) (st : Bool) (R : ℕ → Role) (A : ℕ → List ℕ) (S : ℕ → Text → Option ℕ) (H : Text → Option ℕ) (Q ps : Text → Bool) (n : ℕ) (w : Field) (fs : Fields) → ((i : ℕ) → Fits n h q (first (A i))) → PlacedIn k (w then fs) →
    Agrees n0 (n + scope_count_in_fields (w then fs)) F (with_visits ds (visits_in_fields (places R A h q st) n (w then fs))) → BodiesIn F n0 k h A Q ps (w then fs) → BodyBy F ds (places R A h q st zero) (arounds S H Q zero) ps w
body-first F ds n0 k h q st R A S H Q ps n missing fs f d a e = tt
body-first F ds n0 k h q st R A S H Q ps n (many ts) fs f d a e = tt
body-first F ds n0 k h q st R A S H Q ps n (statements ts) fs f d a e = tt
body-first F ds n0 k h q st R A S H Q ps n (one (node FunctionBody l gs)) fs f d a e =
    let both = and_parts (is_function k) (is_last fs) d.0.0 in
    let b = e.bodies both.0 zero (node FunctionBody l gs) refl refl in
    λ x. ((b.1.1 x).0, ((b.1.1 x).1, last-body F ds n0 k h q st R A n l gs fs both.1 f d a b.0 b.1.0 x))
body-first F ds n0 k h q st R A S H Q ps n (one (node StaticBlock l gs)) fs f d a e = e.others (not-true (is_function k) d.0.0)
body-first F ds n0 k h q st R A S H Q ps n (one (node _ l gs)) fs f d a e = tt

-- what a function hands to its body
name-no-body : (t : Tree) (fs : Fields) → is_name_first fs ≡ true → child_at 0 fs ≡ Some t → kind_of t ≡ FunctionBody → ⊥
name-no-body t (missing then fs) h e d = absurd (cc e)
name-no-body t (one (node Identifier l done) then fs) h e d = absurd (cc (e, d))
name-no-body t fs h e d = absurd (cc h)

pub function-inside : (k : AstType) (fs : Fields) (i : ℕ) (t : Tree) → is_function k ≡ true → name_fits k fs ≡ true → child_at i fs ≡ Some t → kind_of t ≡ FunctionBody → is_inside k i ≡ true
function-inside FunctionDeclaration fs zero t h e c d = absurd (name-no-body t fs e c d)
function-inside FunctionDeclaration fs (suc i) t h e c d = refl
function-inside FunctionExpression fs zero t h e c d = absurd (name-no-body t fs e c d)
function-inside FunctionExpression fs (suc i) t h e c d = refl
function-inside ArrowFunctionExpression fs i t h e c d = refl
function-inside _ fs i t h e c d = absurd (cc h)

pub function-makes : (k : AstType) → is_function k ≡ true → (makes_scope k ≡ true) × (is_hoisted_to k ≡ false)
function-makes FunctionDeclaration h = (refl, refl)
function-makes FunctionExpression h = (refl, refl)
function-makes ArrowFunctionExpression h = (refl, refl)
function-makes _ h = absurd (cc h)

pub function-class : (x : Text) (k : AstType) (fs : Fields) → is_function k ≡ true → class_name x k fs ≡ false
function-class x FunctionDeclaration fs h = refl
function-class x FunctionExpression fs h = refl
function-class x ArrowFunctionExpression fs h = refl
function-class x _ fs h = absurd (cc h)

pub function-frame : (x : Text) (k : AstType) (l : Label) (r : Role) (fs : Fields) → PlacedIn k fs → is_function k ≡ true → bound_by (frame k l (role_at r k l fs) fs) x ≡ declares_in x false (is_inside k) (role_at r k l fs) fs
function-frame x FunctionDeclaration l r fs d h = bound-in x false FunctionDeclaration (is_inside FunctionDeclaration) (role_at r FunctionDeclaration l fs) fs d (inside-other r FunctionDeclaration l fs refl)
function-frame x FunctionExpression l r fs d h = bound-in x false FunctionExpression (is_inside FunctionExpression) (role_at r FunctionExpression l fs) fs d (inside-other r FunctionExpression l fs refl)
function-frame x ArrowFunctionExpression l r fs d h = bound-in x false ArrowFunctionExpression (is_inside ArrowFunctionExpression) (role_at r ArrowFunctionExpression l fs) fs d (inside-other r ArrowFunctionExpression l fs refl)
function-frame x _ l r fs d h = absurd (cc h)
