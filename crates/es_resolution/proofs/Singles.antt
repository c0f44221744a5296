-- Each symbol of the table is bound by one scope at most: by the scope that the table has for it.
use Rattle.std.proofs.Common.{arith, ◌≡◌, ◌<◌, ◌≤◌, ℕ, zero, suc, ◌+◌, ◌==◌, refl, sym, ap, subst, ◌∙◌, List, [], ◌∷◌}
use Rattle.std.specs.Prelude.{Bool, true, false, ◌||◌, ◌&&◌, Option, Some, None, bytes_eq, if◌then◌else◌}
use Rattle.std.proofs.lemmas.Bool.{ne_eqb}
use Rattle.es_tree.specs.Words.{Text}
use Rattle.es_tree.specs.Tree.{Tree, node, Label, Fields, done, ◌then◌, Field, missing, one, many, statements, Trees, empty, ◌before◌, kind_of}
use Rattle.es_tree.specs.declared.ast_type.AstType.{AstType}
use Rattle.es_tree.specs.declared.ast_type.AstType.TheVariants.{Program, FunctionExpression}
use Rattle.es_semantic.specs.RolesOf.{reads, role_at}
use Rattle.es_semantic.specs.ScopesOf.{is_function}
use Rattle.es_semantic.specs.Places.{Place, first, makes_scope, has_name_scope, is_inside, is_hoisted_to, own_scope, own_scope_count, around_in, parameters_in, is_strict_in, place_in, scope_count_in, scope_count_in_field, scope_count_in_fields, scope_count_in_trees, visits, visits_in_fields, visits_in_field, visits_in_trees}
use Rattle.es_semantic.specs.SymbolsOf.{Declared, hoist_scope, is_bound, symbol_in, with_node, with_visits}
use Rattle.es_semantic.specs.declared.place.Role.{Role}
use Rattle.es_resolution.specs.Declarations.{Bound, has_scope, is_var_scope}
use Rattle.es_resolution.proofs.SymbolTrees.{own_symbols, resolved, resolved_tree, resolved_in, resolved_by, resolved_among}
use Rattle.es_resolution.specs.Resolved.{Place as Around, frame, no_name, parameters_in as parameters_at}
use Rattle.es_resolution.proofs.Placed.{is_last, IsWellPlaced, name_fits, Placed, PlacedIn, PlacedBy, PlacedAll}
use Rattle.es_resolution.proofs.Marks.{marked, role-kept}
use Rattle.es_resolution.proofs.Tests.{and-false}
use Rattle.es_resolution.proofs.Outside.{Fits, fits-more, is_parameter, fits-in}
use Rattle.es_resolution.proofs.OutsideTrees.{places}
use Rattle.es_resolution.proofs.Nodes.{Agrees, Known, Body, now-in}
use Rattle.es_resolution.proofs.Bodies.{BodiesIn, bodies-later, BodyBy, body-first}
use Rattle.std.specs.List.{list_any}
use Rattle.std.specs.Prelude.{option_map}
use Rattle.std.proofs.Common.{◌⊎◌, inl, inr}
use Rattle.std.proofs.lemmas.Bool.{eqb-true, cases_lt}
use Rattle.es_tree.specs.References.{is_symbol as is_number}
use Rattle.es_semantic.specs.SymbolsOf.{is_symbol}
use Rattle.es_resolution.specs.Resolved.{name_frame, var_frame}
use Rattle.es_resolution.specs.Single.{IsSingle, is_it, binds, is_var_of, own_binds, one_if, scopes_with, scopes_in, scopes_by, scopes_among}
use Rattle.es_resolution.proofs.Basics.{Each}
use Rattle.es_semantic.specs.Places.{outermost}
use Rattle.es_semantic.specs.SymbolsOf.{symbols_of}
use Rattle.es_resolution.proofs.Marks.{HasSymbol, symbols-in}
use Rattle.es_resolution.proofs.Nodes.{var-scope, has-scope, vars-parameters, vars-target, frame-each, vars-each}
use Rattle.es_resolution.proofs.Bodies.{BodiesIn, bodies-later, BodyBy, body-first}
use Rattle.es_resolution.proofs.Resolving.{known-in, known-field, same-field, agrees-first, agrees-later, bodies-in, in-list, trees-known}
use Rattle.es_resolution.proofs.Programs.{root-fits, root-bodies}
use Rattle.es_tree.specs.declared.ast_type.AstType.TheVariants.{Identifier}
use Rattle.es_tree.specs.Names.{first_text}

-- THE SCOPE OF A SYMBOL

abbrev pub scope_of : List Declared → ℕ → ℕ
scope_of [] s = 0
scope_of (d ∷ ds) zero = d.scope
scope_of (d ∷ ds) (suc s) = scope_of ds s

left-of : (a b : Bool) → (a && b) ≡ true → a ≡ true
left-of true b h = refl
left-of false b h = absurd (cc h)

one-scope : (d : Declared) (ds : List Declared) (a s : ℕ) (o : Option ℕ) (c : Bool) → (c ≡ true → d.scope ≡ a) → ((m : ℕ) → o ≡ Some m → scope_of ds m ≡ a) → (if c then Some 0 else option_map suc o) ≡ Some s → scope_of (d ∷ ds) s ≡ a
one-scope d ds a zero o true h f e = h refl
one-scope d ds a (suc s) o true h f e = absurd (cc e)
one-scope d ds a s None false h f e = absurd (cc e)
one-scope d ds a zero (Some m) false h f e = absurd (cc e)
one-scope d ds a (suc s) (Some m) false h f e = f s (let same : m ≡ s = cc e in ap (λ (k : ℕ). Some k) same)

pub symbol-scope : (ds : List Declared) (a s : ℕ) (y : Text) → symbol_in ds a y ≡ Some s → scope_of ds s ≡ a
symbol-scope [] a s y e = absurd (cc e)
symbol-scope (d ∷ ds) a s y e = one-scope d ds a s (symbol_in ds a y) (is_symbol a y d) (λ h. eqb-true d.scope a (left-of (d.scope == a) (bytes_eq d.name y) h)) (λ m. symbol-scope ds a m y) e

other-symbol : (F : List Declared) (a s : ℕ) (y : Text) (o : Option ℕ) → symbol_in F a y ≡ o → (scope_of F s ≡ a → ⊥) → is_number s o ≡ false
other-symbol F a s y None e h = refl
other-symbol F a s y (Some m) e h = ne_eqb m s (λ d. h (symbol-scope F a s y (e ∙ ap (λ (k : ℕ). Some k) d)))

it-other : (F : List Declared) (s : ℕ) (goal : Text → ℕ) (b : Bound) → HasSymbol F goal b → (scope_of F s ≡ goal b.name → ⊥) → is_it s b ≡ false
it-other F s goal b e h = ap (is_number s) e ∙ other-symbol F (goal b.name) s b.name (symbol_in F (goal b.name) b.name) refl h

binds-none : (F : List Declared) (s a : ℕ) (bs : List Bound) → Each (HasSymbol F (λ y. a)) bs → (scope_of F s ≡ a → ⊥) → binds s bs ≡ false
binds-none F s a [] h e = refl
binds-none F s a (b ∷ bs) h e = rw (it-other F s (λ y. a) b h.0 e) (binds-none F s a bs h.1 e)

var-other : (F : List Declared) (s a : ℕ) (goal : Text → ℕ) (parameters : Text → Bool) (b : Bound) (c : Bool) → parameters b.name ≡ c → (c ≡ false → goal b.name ≡ a) → HasSymbol F goal b → (scope_of F s ≡ a → ⊥) → is_var_of s parameters b ≡ false
var-other F s a goal parameters b true h e d out = rw (h, and-false (is_it s b)) refl
var-other F s a goal parameters b false h e d out = rw (it-other F s goal b d (λ i. out (i ∙ e refl))) refl

vars-none : (F : List Declared) (s a : ℕ) (goal : Text → ℕ) (parameters : Text → Bool) (bs : List Bound) → ((x : Text) → parameters x ≡ false → goal x ≡ a) → Each (HasSymbol F goal) bs → (scope_of F s ≡ a → ⊥) → list_any (is_var_of s parameters) bs ≡ false
vars-none F s a goal parameters [] e h out = refl
vars-none F s a goal parameters (b ∷ bs) e h out = rw (var-other F s a goal parameters b (parameters b.name) refl (e b.name) h.0 out) (vars-none F s a goal parameters bs e h.1 out)

-- AT MOST ONE OF THE SCOPES FROM n TO m, AND ONLY IF d IS AMONG THEM

pub record One (d n m x : ℕ) : Type 0 where
  pub most : x ≤ 1
  pub none : (n ≤ d → m ≤ d) → x ≡ 0

one-sum : (d n m q x y : ℕ) → n ≤ m → m ≤ q → One d n m x → One d m q y → One d n q (x + y)
one-sum d n m q x y e j a b = record { most = at (cases_lt d m); none = λ h. let u : x ≡ 0 = a.none (λ i. (let v : q ≤ d = h i in omega arith)) in let w : y ≡ 0 = b.none (λ i. h (omega arith)) in omega arith }
  where
    at : ((d < m) ⊎ (m ≤ d)) → x + y ≤ 1
    at (inl l) = let u : x ≤ 1 = a.most in let w : y ≡ 0 = b.none (λ i. omega arith) in omega arith
    at (inr l) = let u : y ≤ 1 = b.most in let w : x ≡ 0 = a.none (λ i. l) in omega arith

one-none : (d n : ℕ) → One d n n 0
one-none d n = record { most = omega arith; none = λ h. refl }

one-test : (d n m : ℕ) (b : Bool) → ((n ≤ d → m ≤ d) → b ≡ false) → One d n m (one_if b)
one-test d n m b h = record { most = at b; none = λ e. ap one_if (h e) }
  where
    at : (c : Bool) → one_if c ≤ 1
    at true = omega arith
    at false = omega arith

-- the same end, written otherwise
one-end : (d n m q x : ℕ) → m ≡ q → One d n m x → One d n q x
one-end d n m q x e a = record { most = a.most; none = λ h. a.none (λ i. (let j : q ≤ d = h i in omega arith)) }

-- THE SCOPES OF ONE NODE

name-one : (F : List Declared) (s : ℕ) (p : Place) (n m : ℕ) (k : AstType) (l : Label) (fs : Fields) → name_fits k fs ≡ true → (n ≤ scope_of F s → n + (if has_name_scope k fs then 1 else 0) ≤ scope_of F s) → binds s (name_frame k (role_at p.role k l fs) (resolved_in F (place_in p n k l fs) m fs)) ≡ false
name-one F s p n m FunctionExpression l (missing then fs) h e = refl
name-one F s p n m FunctionExpression l (one (node Identifier c done) then fs) h e =
    binds-none F s n (record { name = first_text c.texts; symbol = symbol_in F n (first_text c.texts) } ∷ []) (refl, tt) (λ d. (let bad : n + 1 ≤ scope_of F s = e (omega arith) in omega arith))
name-one F s p n m FunctionExpression l fs h e = absurd (cc h)
name-one F s p n m _ l fs h e = refl

own-apart : (d n : ℕ) (named makes : Bool) → makes ≡ true → (n + (if named then 1 else 0) ≤ d → n + (if named then 2 else if makes then 1 else 0) ≤ d) → d ≡ (if named then suc n else n) → ⊥
own-apart d n true makes h e i = let bad : n + 2 ≤ d = e (omega arith) in omega arith
own-apart d n false true h e i = let bad : n + 1 ≤ d = e (omega arith) in omega arith
own-apart d n false false h e i = absurd (cc h)

name-low : (n : ℕ) (named makes : Bool) → (n ≤ n + (if named then 1 else 0)) × (n + (if named then 1 else 0) ≤ n + (if named then 2 else if makes then 1 else 0))
name-low n true makes = (omega arith, omega arith)
name-low n false true = (omega arith, omega arith)
name-low n false false = (omega arith, omega arith)

own-none : (c v : Bool) (a b : Bool) → (c ≡ true → a ≡ false) → (c ≡ true → v ≡ true → b ≡ false) → (if c then a || (if v then b else false) else false) ≡ false
own-none true true a b h e = rw (h refl, e refl refl) refl
own-none true false a b h e = rw (h refl) refl
own-none false v a b h e = refl

own-one : (F : List Declared) (s : ℕ) (above : AstType) (last : Bool) (ds : List Declared) (p : Place) (P : Around) (n : ℕ) (k : AstType) (l : Label) (fs : Fields) (known : Known F ds p n) (placed : Placed above last (node k l fs)) (body : Body F ds p P P.parameters k)
    (agrees : Agrees n (n + scope_count_in (node k l fs)) F (with_visits ds (visits p n (node k l fs)))) → (n + (if has_name_scope k fs then 1 else 0) ≤ scope_of F s → n + own_scope_count k fs ≤ scope_of F s) →
    own_binds s P.parameters k (marked l (own_symbols F p n k l fs)) (role_at p.role k l fs) (resolved_in F (place_in p n k l fs) (n + own_scope_count k fs) fs) ≡ false
own-one F s above last ds p P n k l fs known placed body agrees e =
    let gs = resolved_in F (place_in p n k l fs) (n + own_scope_count k fs) fs in
    let lbl = marked l (own_symbols F p n k l fs) in
    let rs = role_at p.role k l fs in
    let makes = has-scope above last k placed.0 in
    let out : makes_scope k ≡ true → scope_of F s ≡ own_scope n k fs → ⊥ = λ h. own-apart (scope_of F s) n (has_name_scope k fs) (makes_scope k) h e in
    own-none (has_scope k) (is_var_scope k) (binds s (frame k lbl rs gs)) (list_any (is_var_of s P.parameters) (var_frame rs gs))
    (λ h. binds-none F s (own_scope n k fs) (frame k lbl rs gs) (frame-each F above last ds p P P.parameters n k l fs known placed body agrees (sym makes ∙ h)) (out (sym makes ∙ h)))
    (λ h v. let hoisted : is_hoisted_to k ≡ true = sym (var-scope above last k placed.0) ∙ v in
    vars-none F s (own_scope n k fs) (hoist_scope F (place_in p n k l fs 0)) P.parameters (var_frame rs gs) (λ x j. vars-target F p n k l fs 0 x hoisted (sym (vars-parameters F ds p P P.parameters k body x hoisted) ∙ j))
    (vars-each F above last ds p P P.parameters n k l fs known placed body agrees) (out (sym makes ∙ h)))

-- TREES

abbrev with_parameters : (Text → Bool) → Around
with_parameters Q = record { scope = λ x. None; hoist = λ x. None; parameters = Q }

bodies-alone : (F : List Declared) (n0 : ℕ) (k : AstType) (h : ℕ) (A : ℕ → List ℕ) (Q ps : Text → Bool) (fs : Fields) → BodiesIn F n0 k h A Q ps fs → BodiesIn F n0 k h A Q Q fs
bodies-alone F n0 k h A Q ps fs e = record { others = e.others; bodies = λ c i t d j. (let b = e.bodies c i t d j in (b.0, (b.1.0, λ x. ((b.1.1 x).0, (b.1.1 x).0)))) }

mutual
  single-tree : (F : List Declared) (s : ℕ) (above : AstType) (last : Bool) (ds : List Declared) (p : Place) (Q : Text → Bool) (n : ℕ) (t : Tree) → Known F ds p n → Placed above last t →
      Agrees n (n + scope_count_in t) F (with_visits ds (visits p n t)) → Body F ds p (with_parameters Q) Q (kind_of t) → One (scope_of F s) n (n + scope_count_in t) (scopes_with s Q p.role (resolved_tree F p n t))
  single-tree F s above last ds p Q n (node k l fs) known placed agrees body =
      let P = with_parameters Q in
      let rs = role_at p.role k l fs in
      let m = n + own_scope_count k fs in
      let gs = resolved_in F (place_in p n k l fs) m fs in
      let lbl = marked l (own_symbols F p n k l fs) in
      let es = with_node ds p n k l fs in
      let d = scope_of F s in
      let q = n + (if has_name_scope k fs then 1 else 0) in
      let low = name-low n (has_name_scope k fs) (makes_scope k) in
      let name : One d n q (one_if (binds s (name_frame k rs gs))) = one-test d n q (binds s (name_frame k rs gs)) (name-one F s p n m k l fs placed.1) in
      let own : One d q m (one_if (own_binds s Q k lbl rs gs)) = one-test d q m (own_binds s Q k lbl rs gs) (own-one F s above last ds p P n k l fs known placed body agrees) in
      let bodies = bodies-alone F n k (if is_hoisted_to k then own_scope n k fs else p.hoist) (around_in p.around n k fs) (parameters_at k lbl rs gs) (parameters_at k l rs fs) fs (bodies-in F above last ds p P Q n k l fs known placed body agrees) in
      let fields : One d m (m + scope_count_in_fields fs) (scopes_in s (parameters_at k lbl rs gs) rs gs) =
      single-fields F s n k es (if is_hoisted_to k then own_scope n k fs else p.hoist) (parameters_in p k) (is_strict_in p k l fs) rs (around_in p.around n k fs) (parameters_at k lbl rs gs) m fs
      (omega arith) (λ i. fits-in p n k fs i known.fits) (known-in F ds p P Q n k l fs known) (now-in F ds p P Q n k l fs known body) placed.2 (λ r x e j. agrees r x e (omega arith)) bodies in
      let all : One d n (m + scope_count_in_fields fs) ((one_if (binds s (name_frame k rs gs)) + one_if (own_binds s Q k lbl rs gs)) + scopes_in s (parameters_at k lbl rs gs) rs gs) =
      one-sum d n m (m + scope_count_in_fields fs) (one_if (binds s (name_frame k rs gs)) + one_if (own_binds s Q k lbl rs gs)) (scopes_in s (parameters_at k lbl rs gs) rs gs) (omega arith) (omega arith)
      (one-sum d n q m (one_if (binds s (name_frame k rs gs))) (one_if (own_binds s Q k lbl rs gs)) low.0 low.1 name own) fields in
      subst (λ (r : ℕ → Role). One d n (n + scope_count_in (node k l fs)) ((one_if (binds s (name_frame k r gs)) + one_if (own_binds s Q k lbl r gs)) + scopes_in s (parameters_at k lbl r gs) r gs)) (sym (role-kept F (place_in p n k l fs) m p.role k l (own_symbols F p n k l fs) fs))
      (one-end d n (m + scope_count_in_fields fs) (n + scope_count_in (node k l fs)) ((one_if (binds s (name_frame k rs gs)) + one_if (own_binds s Q k lbl rs gs)) + scopes_in s (parameters_at k lbl rs gs) rs gs) (omega arith) all)

  single-fields : (F : List Declared) (s : ℕ) (n0 : ℕ) (k : AstType) (ds : List Declared) (h : ℕ) (q : Option ℕ) (st : Bool) (R : ℕ → Role) (A : ℕ → List ℕ) (Q : Text → Bool) (n : ℕ) (fs : Fields) →
      n0 ≤ n → ((i : ℕ) → Fits n h q (first (A i))) → ((r : ℕ) (x : Text) → n ≤ r → is_bound ds r x ≡ false) → ((x : Text) → is_parameter ds q x ≡ is_parameter F q x) → PlacedIn k fs →
      Agrees n0 (n + scope_count_in_fields fs) F (with_visits ds (visits_in_fields (places R A h q st) n fs)) → BodiesIn F n0 k h A Q Q fs → One (scope_of F s) n (n + scope_count_in_fields fs) (scopes_in s Q R (resolved_in F (places R A h q st) n fs))
  single-fields F s n0 k ds h q st R A Q n done low f fresh now d a e = one-end (scope_of F s) n n (n + 0) 0 (omega arith) (one-none (scope_of F s) n)
  single-fields F s n0 k ds h q st R A Q n (w then fs) low f fresh now d a e =
      let es = with_visits ds (visits_in_field (places R A h q st zero) n w) in
      let m = n + scope_count_in_field w in
      let here : One (scope_of F s) n m (scopes_by s Q (R zero) (resolved_by F (places R A h q st zero) n w)) =
      single-field F s k (is_last fs) ds (places R A h q st zero) Q n w (record { fits = f zero; fresh = fresh; now = now }) d.0 (agrees-first F ds k h q st R A n n0 w fs low f d a) e.others
      (body-first F ds n0 k h q st R A (λ i x. None) (λ x. None) Q Q n w fs f d a e) in
      let rest : One (scope_of F s) m (m + scope_count_in_fields fs) (scopes_in s Q (λ i. R (suc i)) (resolved_in F (λ i. places R A h q st (suc i)) m fs)) =
      single-fields F s n0 k es h q st (λ i. R (suc i)) (λ i. A (suc i)) Q m fs (omega arith) (λ i. fits-more n m h (first (A (suc i))) q (omega arith) (f (suc i)))
      (known-field F ds k (is_last fs) h q st (R zero) (A zero) n w (f zero) d.0 fresh) (λ x. same-field ds x k (is_last fs) h q st (R zero) (A zero) n w (f zero) d.0 ∙ now x) d.1 (agrees-later F ds h q st R A n n0 w fs a) (bodies-later F n0 k h A Q Q w fs e) in
      one-end (scope_of F s) n (m + scope_count_in_fields fs) (n + scope_count_in_fields (w then fs)) (scopes_by s Q (R zero) (resolved_by F (places R A h q st zero) n w) + scopes_in s Q (λ i. R (suc i)) (resolved_in F (λ i. places R A h q st (suc i)) m fs)) (omega arith)
      (one-sum (scope_of F s) n m (m + scope_count_in_fields fs) (scopes_by s Q (R zero) (resolved_by F (places R A h q st zero) n w)) (scopes_in s Q (λ i. R (suc i)) (resolved_in F (λ i. places R A h q st (suc i)) m fs)) (omega arith) (omega arith) here rest)

  single-field : (F : List Declared) (s : ℕ) (k : AstType) (last : Bool) (ds : List Declared) (p : Place) (Q : Text → Bool) (n : ℕ) (w : Field) → Known F ds p n → PlacedBy k last w →
      Agrees n (n + scope_count_in_field w) F (with_visits ds (visits_in_field p n w)) → (is_function k ≡ false → (x : Text) → Q x ≡ false) → BodyBy F ds p (with_parameters Q) Q w → One (scope_of F s) n (n + scope_count_in_field w) (scopes_by s Q p.role (resolved_by F p n w))
  single-field F s k last ds p Q n missing known d a others body = one-end (scope_of F s) n n (n + 0) 0 (omega arith) (one-none (scope_of F s) n)
  single-field F s k last ds p Q n (one t) known d a others body = single-tree F s k last ds p Q n t known d a body
  single-field F s k last ds p Q n (many ts) known d a others body = single-trees F s k ds p Q n ts known d a others
  single-field F s k last ds p Q n (statements ts) known d a others body = single-trees F s k ds p Q n ts known d a others

  single-trees : (F : List Declared) (s : ℕ) (k : AstType) (ds : List Declared) (p : Place) (Q : Text → Bool) (n : ℕ) (ts : Trees) → Known F ds p n → PlacedAll k ts →
      Agrees n (n + scope_count_in_trees ts) F (with_visits ds (visits_in_trees p n ts)) → (is_function k ≡ false → (x : Text) → Q x ≡ false) → One (scope_of F s) n (n + scope_count_in_trees ts) (scopes_among s Q p.role (resolved_among F p n ts))
  single-trees F s k ds p Q n empty known d a others = one-end (scope_of F s) n n (n + 0) 0 (omega arith) (one-none (scope_of F s) n)
  single-trees F s k ds p Q n (t before ts) known d a others =
      let es = with_visits ds (visits p n t) in
      let m = n + scope_count_in t in
      let low : first p.around < n = known.fits.around in
      let hoist : p.hoist < n = known.fits.hoist in
      let both = trees-known F k ds p n t ts known d a in
      let here : One (scope_of F s) n m (scopes_with s Q p.role (resolved_tree F p n t)) = single-tree F s k false ds p Q n t known d.0 both.0 (in-list F ds p (with_parameters Q) Q k t d.0 others) in
      let rest : One (scope_of F s) m (m + scope_count_in_trees ts) (scopes_among s Q p.role (resolved_among F p m ts)) = single-trees F s k es p Q m ts both.1.0 d.1 both.1.1 others in
      one-end (scope_of F s) n (m + scope_count_in_trees ts) (n + scope_count_in_trees (t before ts)) (scopes_with s Q p.role (resolved_tree F p n t) + scopes_among s Q p.role (resolved_among F p m ts)) (omega arith)
      (one-sum (scope_of F s) n m (m + scope_count_in_trees ts) (scopes_with s Q p.role (resolved_tree F p n t)) (scopes_among s Q p.role (resolved_among F p m ts)) (omega arith) (omega arith) here rest)

-- THE PROGRAM'S OWN SCOPE

root-end : (d m q x y z : ℕ) → (z ≡ 0) → 0 ≤ m → m ≤ q → One d 0 m x → One d m q y → (z + x) + y ≤ 1
root-end d m q x y z e i j a b = let all : x + y ≤ 1 = (one-sum d 0 m q x y i j a b).most in omega arith

pub placed-single : (p : Tree) → IsWellPlaced p → IsSingle (resolved p)
placed-single (node Program l fs) h s =
    let F = symbols_of (node Program l fs) in
    let R = role_at reads Program l fs in
    let A : ℕ → List ℕ = λ i. 0 ∷ [] in
    let st = is_strict_in (outermost (node Program l fs)) Program l fs in
    let lbl = marked l [] in
    let gs = resolved_in F (places R A 0 None st) 1 fs in
    let d = scope_of F s in
    let out : (0 ≤ d → 1 ≤ d) → d ≡ 0 → ⊥ = λ e i. (let bad : 1 ≤ d = e (omega arith) in omega arith) in
    let own : One d 0 1 (one_if (own_binds s no_name Program lbl R gs)) =
    one-test d 0 1 (own_binds s no_name Program lbl R gs) (λ e. own-none true true (binds s (frame Program lbl R gs)) (list_any (is_var_of s no_name) (var_frame R gs))
    (λ c. binds-none F s 0 (frame Program lbl R gs) (symbols-in false F (λ y. 0) Program (is_inside Program) (places R A 0 None st) 1 fs h.1 (λ i j y. refl)) (out e))
    (λ c v. vars-none F s 0 (λ y. 0) no_name (var_frame R gs) (λ x j. refl) (symbols-in true F (λ y. 0) Program (λ i. true) (places R A 0 None st) 1 fs h.1 (λ i j y. refl)) (out e))) in
    let fields : One d 1 (1 + scope_count_in_fields fs) (scopes_in s no_name R gs) =
    single-fields F s 1 Program [] 0 None st R A no_name 1 fs (omega arith) (root-fits l fs h.1) (λ r x e. refl) (λ x. refl) h.1 (λ r x e j. refl) (root-bodies l fs h.1) in
    subst (λ (r : ℕ → Role). (0 + one_if (own_binds s no_name Program lbl r gs)) + scopes_in s no_name r gs ≤ 1) (sym (role-kept F (places R A 0 None st) 1 reads Program l [] fs))
    (root-end d 1 (1 + scope_count_in_fields fs) (one_if (own_binds s no_name Program lbl R gs)) (scopes_in s no_name R gs) 0 refl (omega arith) (omega arith) own fields)
placed-single (node k l fs) h s = absurd (cc (h.0))
