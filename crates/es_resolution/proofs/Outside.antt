-- What the visits of a tree add to the scopes outside it.
use Rattle.std.proofs.Common.{arith, ◌≡◌, ◌<◌, ◌≤◌, ℕ, suc, ◌+◌, ◌==◌, refl, sym, ap, ◌∙◌, List, [], ◌∷◌, ◌++◌}
use Rattle.std.specs.Prelude.{Bool, true, false, not, ◌||◌, ◌&&◌, Option, Some, None, bytes_eq, if◌then◌else◌}
use Rattle.std.proofs.lemmas.Bool.{eqb-true, ne_eqb}
use Rattle.std.proofs.lemmas.List.Folds.{list_any-append}
use Rattle.es_tree.specs.Words.{Text}
use Rattle.es_tree.specs.Names.{first_text}
use Rattle.es_tree.specs.Scopes.{own_text}
use Rattle.es_tree.specs.Tree.{Label, Fields, done, ◌then◌, missing, one, many, statements}
use Rattle.es_tree.specs.declared.ast_type.AstType.{AstType}
use Rattle.es_tree.specs.declared.ast_type.AstType.TheVariants.{Identifier, FunctionBody, StaticBlock, ClassDeclaration, ClassExpression}
use Rattle.es_semantic.specs.Places.{Place, Visit, first, makes_scope, has_name_scope, is_inside, is_hoisted_to, own_scope, own_scope_count, around_in, parameters_in}
use Rattle.es_semantic.specs.SymbolsOf.{Declared, declared, hoists, hoist_scope, is_bound, is_symbol, with_class, with_identifier, with_node, with_symbol, with_visits}
use Rattle.es_semantic.specs.declared.place.Binding.{Binding}
use Rattle.es_semantic.specs.declared.place.Binding.TheVariants.{Class}
use Rattle.es_semantic.specs.declared.place.Role.{Role}
use Rattle.es_semantic.specs.declared.place.Role.TheVariants.{Binds}
use Rattle.es_semantic.proofs.SymbolPlaces.{with_symbol-known, with_symbol-new, hoist_scope-parameter, hoist_scope-free}
use Rattle.es_resolution.proofs.Declares.{is_declared}
use Rattle.es_resolution.proofs.Basics.{bytes_eq-equal}
use Rattle.es_resolution.proofs.Declares.{own_declares}
use Rattle.es_resolution.proofs.Tests.{and-false, or-false, none-more, stay}

-- SCOPES OUTSIDE

-- a scope that isn't one of those from n to m
abbrev pub Outside : ℕ → ℕ → ℕ → Type 0
Outside n m s = n ≤ s → m ≤ s

abbrev pub ParametersFit : ℕ → ℕ → ℕ → Option ℕ → Type 0
ParametersFit n h a None = Unit {0}
ParametersFit n h a (Some s) = (s < n) × ((s ≡ h → ⊥) × (s ≡ a → ⊥))

-- the scopes of a place: they were made before, and the parameters have a scope of their own
pub record Fits (n : ℕ) (h : ℕ) (q : Option ℕ) (a : ℕ) : Type 0 where
  pub around : a < n
  pub hoist : h < n
  pub parameters : ParametersFit n h a q

parameters-more : (n m h a : ℕ) (q : Option ℕ) → n ≤ m → ParametersFit n h a q → ParametersFit m h a q
parameters-more n m h a None e d = tt
parameters-more n m h a (Some s) e d = let l : s < n = d.0 in ((omega arith), d.1)

pub fits-more : (n m h a : ℕ) (q : Option ℕ) → n ≤ m → Fits n h q a → Fits m h q a
fits-more n m h a q e d = let l : a < n = d.around in let j : h < n = d.hoist in record { around = omega arith; hoist = omega arith; parameters = parameters-more n m h a q e d.parameters }

-- whether the name is one of the function whose body this is
abbrev pub is_parameter : List Declared → Option ℕ → Text → Bool
is_parameter ds None x = false
is_parameter ds (Some s) x = is_bound ds s x

pub same-parameter : (ds es : List Declared) (x : Text) (n h a : ℕ) (q : Option ℕ) → ParametersFit n h a q → ((s : ℕ) → s < n → (a == s) ≡ false → (h == s) ≡ false → is_bound es s x ≡ is_bound ds s x) → is_parameter es q x ≡ is_parameter ds q x
same-parameter ds es x n h a None f e = refl
same-parameter ds es x n h a (Some s) f e = e s f.0 (ne_eqb a s (λ i. f.1.1 (sym i))) (ne_eqb h s (λ i. f.1.0 (sym i)))

abbrev pub place : Role → List ℕ → ℕ → Option ℕ → Bool → Place
place r a h q st = record { role = r; around = a; hoist = h; parameters = q; strict = st }

pub visits-append : (ds : List Declared) (vs ws : List Visit) → with_visits ds (vs ++ ws) ≡ with_visits (with_visits ds vs) ws
visits-append ds [] ws = refl
visits-append ds (v ∷ vs) ws = visits-append (with_node ds v.place v.next v.kind v.label v.fields) vs ws

-- ONE SYMBOL MORE

one-known : (s a : ℕ) (x y : Text) (ds : List Declared) → is_bound ds a y ≡ true → (c d : Bool) → (a == s) ≡ c → bytes_eq y x ≡ d → is_bound ds s x ≡ (is_bound ds s x || (c && d))
one-known s a x y ds e true true i j = let here : is_bound ds s x ≡ true = (λ k. is_bound ds (sym (eqb-true a s i) k) (sym (bytes_eq-equal y x j) k)) ∙ e in rw here refl
one-known s a x y ds e true false i j = sym (or-false (is_bound ds s x))
one-known s a x y ds e false d i j = sym (or-false (is_bound ds s x))

one-more : (s : ℕ) (x : Text) (ds : List Declared) (a : ℕ) (y : Text) (b : Binding) (c : Bool) → is_bound ds a y ≡ c → is_bound (with_symbol ds a y b) s x ≡ (is_bound ds s x || (a == s && bytes_eq y x))
one-more s x ds a y b true e = ap (λ es. is_bound es s x) (with_symbol-known ds a y b e) ∙ one-known s a x y ds e (a == s) (bytes_eq y x) refl refl
one-more s x ds a y b false e = ap (λ es. is_bound es s x) (with_symbol-new ds a y b e) ∙ (list_any-append (is_symbol s x) ds (declared a y b ∷ []) ∙ ap (λ c. is_bound ds s x || c) (or-false (a == s && bytes_eq y x)))

pub more : (s : ℕ) (x : Text) (ds : List Declared) (a : ℕ) (y : Text) (b : Binding) → is_bound (with_symbol ds a y b) s x ≡ (is_bound ds s x || (a == s && bytes_eq y x))
more s x ds a y b = one-more s x ds a y b (is_bound ds a y) refl

pub hoist-none : (ds : List Declared) (p : Place) (x : Text) → p.parameters ≡ None → hoist_scope ds p x ≡ p.hoist
hoist-none ds p x e = rw e refl

-- `var` of a name that isn't a parameter
free-hoist : (s : ℕ) (x : Text) (ds : List Declared) (p : Place) (y : Text) (b : Binding) (c : Bool) → (bytes_eq y x ≡ true → is_parameter ds p.parameters x ≡ false) → bytes_eq y x ≡ c → hoist_scope ds p y ≡ p.hoist → is_bound (with_symbol ds (hoist_scope ds p y) y b) s x ≡ (is_bound ds s x || (p.hoist == s && (not (is_parameter ds p.parameters x) && bytes_eq y x)))
free-hoist s x ds p y b true n e h = ap (λ a. is_bound (with_symbol ds a y b) s x) h ∙ (more s x ds p.hoist y b ∙ ap (λ d. is_bound ds s x || (p.hoist == s && (not d && bytes_eq y x))) (sym (n e)))
free-hoist s x ds p y b false n e h = ap (λ a. is_bound (with_symbol ds a y b) s x) h ∙ (more s x ds p.hoist y b ∙ rw (e, and-false (not (is_parameter ds p.parameters x))) refl)

bound-hoist : (s : ℕ) (x : Text) (ds : List Declared) (p : Place) (y : Text) (b : Binding) (m : ℕ) (c : Bool) → p.parameters ≡ Some m → is_bound ds m y ≡ true → bytes_eq y x ≡ c → is_bound ds s x ≡ (is_bound ds s x || (p.hoist == s && (not (is_parameter ds p.parameters x) && bytes_eq y x)))
bound-hoist s x ds p y b m true e h d =
    let there : is_parameter ds p.parameters x ≡ true = ap (λ q. is_parameter ds q x) e ∙ (ap (λ z. is_bound ds m z) (sym (bytes_eq-equal y x d)) ∙ h) in
    rw (there, and-false (p.hoist == s), or-false (is_bound ds s x)) refl
bound-hoist s x ds p y b m false e h d = rw (d, and-false (not (is_parameter ds p.parameters x)), and-false (p.hoist == s), or-false (is_bound ds s x)) refl

hoist-by : (s : ℕ) (x : Text) (ds : List Declared) (p : Place) (y : Text) (b : Binding) (m : ℕ) (c : Bool) → p.parameters ≡ Some m → is_bound ds m y ≡ c → is_bound (with_symbol ds (hoist_scope ds p y) y b) s x ≡ (is_bound ds s x || (p.hoist == s && (not (is_parameter ds p.parameters x) && bytes_eq y x)))
hoist-by s x ds p y b m true e h =
    let known : is_bound ds (hoist_scope ds p y) y ≡ true = ap (λ a. is_bound ds a y) (hoist_scope-parameter ds p y m e h) ∙ h in
    ap (λ es. is_bound es s x) (with_symbol-known ds (hoist_scope ds p y) y b known) ∙ bound-hoist s x ds p y b m (bytes_eq y x) e h refl
hoist-by s x ds p y b m false e h =
    free-hoist s x ds p y b (bytes_eq y x) (λ d. ap (λ q. is_parameter ds q x) e ∙ (ap (λ z. is_bound ds m z) (sym (bytes_eq-equal y x d)) ∙ h)) refl (hoist_scope-free ds p y m e h)

hoist-more : (s : ℕ) (x : Text) (ds : List Declared) (p : Place) (y : Text) (b : Binding) (q : Option ℕ) → p.parameters ≡ q → is_bound (with_symbol ds (hoist_scope ds p y) y b) s x ≡ (is_bound ds s x || (p.hoist == s && (not (is_parameter ds p.parameters x) && bytes_eq y x)))
hoist-more s x ds p y b None e = free-hoist s x ds p y b (bytes_eq y x) (λ d. ap (λ q. is_parameter ds q x) e) refl (hoist-none ds p y e)
hoist-more s x ds p y b (Some m) e = hoist-by s x ds p y b m (is_bound ds m y) e refl

-- A NODE BY ITSELF

by-hoists : (s : ℕ) (x : Text) (ds : List Declared) (p : Place) (y : Text) (b : Binding) (c : Bool) →
    is_bound (with_symbol ds (if c then hoist_scope ds p y else first p.around) y b) s x ≡ (is_bound ds s x || ((first p.around == s && (not c && bytes_eq y x)) || (p.hoist == s && (not (is_parameter ds p.parameters x) && (c && bytes_eq y x)))))
by-hoists s x ds p y b true = hoist-more s x ds p y b p.parameters refl ∙ rw (and-false (first p.around == s)) refl
by-hoists s x ds p y b false = more s x ds (first p.around) y b ∙ rw (and-false (not (is_parameter ds p.parameters x)), and-false (p.hoist == s), or-false (first p.around == s && bytes_eq y x)) refl

by-role : (s : ℕ) (x : Text) (ds : List Declared) (p : Place) (r : Role) (y : Text) →
    is_bound (with_identifier ds p r y) s x ≡ (is_bound ds s x || ((first p.around == s && (is_declared false r && bytes_eq y x)) || (p.hoist == s && (not (is_parameter ds p.parameters x) && (is_declared true r && bytes_eq y x)))))
by-role s x ds p (Binds b) y = by-hoists s x ds p y b (hoists b)
by-role s x ds p _ y = none-more (is_bound ds s x) (first p.around == s) (p.hoist == s) (not (is_parameter ds p.parameters x))

class-out : (s : ℕ) (x : Text) (ds : List Declared) (a : ℕ) (fs : Fields) → (a == s) ≡ false → is_bound (with_class ds a fs) s x ≡ is_bound ds s x
class-out s x ds a (one t then fs) e = more s x ds a (own_text t) Class ∙ rw (e, or-false (is_bound ds s x)) refl
class-out s x ds a done e = refl
class-out s x ds a (missing then fs) e = refl
class-out s x ds a (many ts then fs) e = refl
class-out s x ds a (statements ts then fs) e = refl

abbrev pub with_own : Bool → Bool → Bool → Bool → Bool → Bool → Bool
with_own b f h n l v = b || ((f && l) || (h && (n && v)))

pub own-node : (s : ℕ) (x : Text) (ds : List Declared) (p : Place) (n : ℕ) (k : AstType) (l : Label) (fs : Fields) → Outside n (n + own_scope_count k fs) s →
    is_bound (with_node ds p n k l fs) s x ≡ with_own (is_bound ds s x) (first p.around == s) (p.hoist == s) (not (is_parameter ds p.parameters x)) (own_declares x false p.role k l) (own_declares x true p.role k l)
own-node s x ds p n Identifier l fs o = by-role s x ds p p.role (first_text l.texts)
own-node s x ds p n ClassDeclaration l fs o = class-out s x ds n fs (ne_eqb n s (λ e. omega arith)) ∙ none-more (is_bound ds s x) (first p.around == s) (p.hoist == s) (not (is_parameter ds p.parameters x))
own-node s x ds p n ClassExpression l fs o = class-out s x ds n fs (ne_eqb n s (λ e. omega arith)) ∙ none-more (is_bound ds s x) (first p.around == s) (p.hoist == s) (not (is_parameter ds p.parameters x))
own-node s x ds p n _ l fs o = none-more (is_bound ds s x) (first p.around == s) (p.hoist == s) (not (is_parameter ds p.parameters x))

pub node-stay : (s : ℕ) (x : Text) (ds : List Declared) (p : Place) (n : ℕ) (k : AstType) (l : Label) (fs : Fields) → Outside n (n + own_scope_count k fs) s → (first p.around == s) ≡ false → (p.hoist == s) ≡ false → is_bound (with_node ds p n k l fs) s x ≡ is_bound ds s x
node-stay s x ds p n k l fs o e d = own-node s x ds p n k l fs o ∙ stay (is_bound ds s x) (first p.around == s) (p.hoist == s) (own_declares x false p.role k l) (not (is_parameter ds p.parameters x) && own_declares x true p.role k l) e d

pub node-parameter : (x : Text) (ds : List Declared) (p : Place) (n : ℕ) (k : AstType) (l : Label) (fs : Fields) → Fits n p.hoist p.parameters (first p.around) → is_parameter (with_node ds p n k l fs) p.parameters x ≡ is_parameter ds p.parameters x
node-parameter x ds p n k l fs f = same-parameter ds (with_node ds p n k l fs) x n p.hoist (first p.around) p.parameters f.parameters (λ s e d h. node-stay s x ds p n k l fs (λ i. omega arith) d h)

-- THE FIELDS OF A NODE

first-in : (up : List ℕ) (n : ℕ) (named makes inside : Bool) → first up < n → first (if makes && inside then (if named then suc n else n) ∷ (if named then n ∷ up else up) else (if named then n ∷ up else up)) < n + (if named then 2 else if makes then 1 else 0)
first-in up n true true true f = omega arith
first-in up n true true false f = omega arith
first-in up n true false inside f = omega arith
first-in up n false true true f = omega arith
first-in up n false true false f = omega arith
first-in up n false false inside f = omega arith

first-apart : (up : List ℕ) (n : ℕ) (named makes inside : Bool) (s : ℕ) → s < n → (s ≡ first up → ⊥) → s ≡ first (if makes && inside then (if named then suc n else n) ∷ (if named then n ∷ up else up) else (if named then n ∷ up else up)) → ⊥
first-apart up n true true true s l f e = omega arith
first-apart up n true true false s l f e = omega arith
first-apart up n true false inside s l f e = omega arith
first-apart up n false true true s l f e = omega arith
first-apart up n false true false s l f e = f e
first-apart up n false false inside s l f e = f e

parameters-apart : (up : List ℕ) (n h : ℕ) (named makes inside : Bool) (q : Option ℕ) (m : ℕ) → n ≤ m → ParametersFit n h (first up) q → ParametersFit m h (first (if makes && inside then (if named then suc n else n) ∷ (if named then n ∷ up else up) else (if named then n ∷ up else up))) q
parameters-apart up n h named makes inside None m e d = tt
parameters-apart up n h named makes inside (Some s) m e d = let l : s < n = d.0 in ((omega arith), (d.1.0, first-apart up n named makes inside s l d.1.1))

pub fits-in : (p : Place) (n : ℕ) (k : AstType) (fs : Fields) (i : ℕ) → Fits n p.hoist p.parameters (first p.around) → Fits (n + own_scope_count k fs) (if is_hoisted_to k then own_scope n k fs else p.hoist) (parameters_in p k) (first (around_in p.around n k fs i))
fits-in p n FunctionBody fs i f = let l : first p.around < n = f.around in record { around = omega arith; hoist = omega arith; parameters = ((omega arith), ((λ e. omega arith), (λ e. omega arith))) }
fits-in p n StaticBlock fs i f = record { around = omega arith; hoist = omega arith; parameters = tt }
fits-in p n k fs i f =
    let l : p.hoist < n = f.hoist in
    record { around = first-in p.around n (has_name_scope k fs) (makes_scope k) (is_inside k i) f.around; hoist = omega arith; parameters = parameters-apart p.around n p.hoist (has_name_scope k fs) (makes_scope k) (is_inside k i) p.parameters (n + own_scope_count k fs) (omega arith) f.parameters }
