-- What a node hands to its fields: each sees the scopes around it, with the names and the symbols of the table.
use Rattle.std.proofs.Common.{arith, ◌≡◌, ◌<◌, ◌≤◌, ℕ, zero, suc, ◌+◌, ◌==◌, refl, sym, ap, ◌∙◌, List, [], ◌∷◌}
use Rattle.std.specs.Prelude.{Bool, true, false, not, ◌||◌, ◌&&◌, Option, if◌then◌else◌}
use Rattle.std.proofs.lemmas.Bool.{eq-eqb, ne_eqb}
use Rattle.es_tree.specs.Words.{Text}
use Rattle.es_tree.specs.Scopes.{own_text}
use Rattle.es_tree.specs.Tree.{Tree, node, Label, Fields, ◌then◌, missing, one}
use Rattle.es_tree.specs.declared.ast_type.AstType.{AstType}
use Rattle.es_tree.specs.declared.ast_type.AstType.TheVariants.{Program, Identifier, FunctionExpression, FunctionBody, StaticBlock, ClassDeclaration, ClassExpression}
use Rattle.es_semantic.specs.RolesOf.{role_at}
use Rattle.es_semantic.specs.Places.{Place, first, makes_scope, has_name_scope, is_inside, is_hoisted_to, own_scope, own_scope_count, around_own, around_in, parameters_in, is_strict_in, place_in, scope_count_in, visits}
use Rattle.es_semantic.specs.SymbolsOf.{Declared, find, hoist_scope, is_bound, symbol_in, with_node, with_visits}
use Rattle.es_semantic.specs.declared.place.Binding.TheVariants.{Class}
use Rattle.es_semantic.specs.declared.place.Role.{Role}
use Rattle.es_resolution.specs.Declarations.{has_scope, is_var_scope, declared_in}
use Rattle.es_resolution.proofs.SymbolTrees.{own_symbols, resolved_in}
use Rattle.es_resolution.specs.Resolved.{Place as Around, class_frame, frame, var_frame, around, inner, hoisting, bound_by, IsMarked}
use Rattle.es_resolution.proofs.Basics.{Each, every}
use Rattle.es_resolution.proofs.Marks.{out-hoisted, placed-in}
use Rattle.es_resolution.proofs.Placed.{kind_fits, name_fits, Placed}
use Rattle.es_resolution.proofs.Declares.{counts-none, declares_in, bound-both, bound-in}
use Rattle.es_resolution.proofs.Marks.{marked, HasSymbol, each-append, names-in, symbols-in}
use Rattle.es_resolution.proofs.Tests.{or-false, or-true}
use Rattle.es_resolution.proofs.Outside.{Fits, is_parameter, more, node-parameter, fits-in}
use Rattle.es_resolution.proofs.OutsideTrees.{counts-same, out-in}
use Rattle.std.proofs.lemmas.Bool.{and_parts, eqb-true, cases_lt, cases_Bool}
use Rattle.std.proofs.Common.{◌⊎◌, inl, inr}
use Rattle.es_semantic.proofs.SymbolPlaces.{hoist_scope-free, hoist_scope-parameter}
use Rattle.es_resolution.proofs.Declares.{goes_out}
use Rattle.es_resolution.proofs.Declares.{own_declares, declares}
use Rattle.es_resolution.proofs.Frames.{within-is, inner-by, named-if, class_name, ClassFrame, class-frame}
use Rattle.es_resolution.proofs.OutsideTrees.{with_in, lexical-out}
use Rattle.es_resolution.proofs.OtherRoles.{inside-other}
use Rattle.es_tree.specs.Names.{first_text}
use Rattle.es_tree.specs.Tree.{done}
use Rattle.std.specs.Prelude.{bytes_eq}

-- these lists bind alike in the scopes from n to m
abbrev pub Agrees : ℕ → ℕ → List Declared → List Declared → Type 0
Agrees n m F es = (s : ℕ) (x : Text) → n ≤ s → s < m → is_bound F s x ≡ is_bound es s x

-- what is known where a tree is visited, with these declarations so far and F in the end
pub record Known (F ds : List Declared) (p : Place) (n : ℕ) : Type 0 where
  pub fits : Fits n p.hoist p.parameters (first p.around)
  pub fresh : (s : ℕ) (x : Text) → n ≤ s → is_bound ds s x ≡ false
  pub now : (x : Text) → is_parameter ds p.parameters x ≡ is_parameter F p.parameters x

abbrev pub IsNonEmpty : List ℕ → Type 0
IsNonEmpty [] = ⊥
IsNonEmpty (a ∷ up) = Unit {0}

-- a place among the scopes of the table, where what stands there declares these names
pub record Sees (F : List Declared) (p : Place) (P : Around) (lex var : Text → Bool) : Type 0 where
  pub some : IsNonEmpty p.around
  pub scope : (x : Text) → P.scope x ≡ find F p.around x
  pub lexical : (x : Text) → lex x ≡ true → is_bound F (first p.around) x ≡ true
  pub hoisted : (x : Text) → var x ≡ true → (P.hoist x ≡ symbol_in F (hoist_scope F p x) x) × (is_bound F (hoist_scope F p x) x ≡ true)

-- what is known of the parameters around a body
abbrev pub Body : List Declared → List Declared → Place → Around → (Text → Bool) → AstType → Type 0
Body F ds p P ps FunctionBody = (x : Text) → (P.parameters x ≡ is_bound F (first p.around) x) × ((ps x ≡ is_bound F (first p.around) x) × (is_bound ds (first p.around) x ≡ is_bound F (first p.around) x))
Body F ds p P ps StaticBlock = (x : Text) → P.parameters x ≡ false
Body F ds p P ps _ = Unit {0}

pub find-first : (F : List Declared) (up : List ℕ) (x : Text) → IsNonEmpty up → is_bound F (first up) x ≡ true → find F up x ≡ symbol_in F (first up) x
find-first F [] x h e = absurd h
find-first F (a ∷ up) x h e = rw e refl

-- NUMBERS

pub own-above : (n : ℕ) (named : Bool) → n ≤ (if named then suc n else n)
own-above n true = omega arith
own-above n false = omega arith

own-range : (n : ℕ) (named makes : Bool) → makes ≡ true → (if named then suc n else n) < n + (if named then 2 else if makes then 1 else 0)
own-range n true makes h = omega arith
own-range n false true h = omega arith
own-range n false false h = absurd (cc h)

counts-own : (up : List ℕ) (n : ℕ) (named makes inside : Bool) → makes ≡ true → first up < n → (first (if makes && inside then (if named then suc n else n) ∷ (if named then n ∷ up else up) else (if named then n ∷ up else up)) == (if named then suc n else n)) ≡ inside
counts-own up n true true true h l = eq-eqb (suc n) (suc n) refl
counts-own up n true true false h l = ne_eqb n (suc n) (λ e. omega arith)
counts-own up n false true true h l = eq-eqb n n refl
counts-own up n false true false h l = ne_eqb (first up) n (λ e. omega arith)
counts-own up n named false inside h l = absurd (cc h)

hoist-own : (n own h : ℕ) (c : Bool) → h < n → n ≤ own → ((if c then own else h) == own) ≡ c
hoist-own n own h true l e = eq-eqb own own refl
hoist-own n own h false l e = ne_eqb h own (λ d. omega arith)

-- THE DECLARATIONS OF A NODE IN ITS OWN SCOPE

own-fresh : (x : Text) (ds : List Declared) (p : Place) (n : ℕ) (k : AstType) (l : Label) (fs : Fields) → ((s : ℕ) (y : Text) → n ≤ s → is_bound ds s y ≡ false) → makes_scope k ≡ true → is_bound (with_node ds p n k l fs) (own_scope n k fs) x ≡ class_name x k fs
own-fresh x ds p n Identifier l fs e h = absurd (cc h)
own-fresh x ds p n ClassDeclaration l (one t then fs) e h = more n x ds n (own_text t) Class ∙ rw (e n x (omega arith), eq-eqb n n refl) refl
own-fresh x ds p n ClassExpression l (one t then fs) e h = more n x ds n (own_text t) Class ∙ rw (e n x (omega arith), eq-eqb n n refl) refl
own-fresh x ds p n ClassDeclaration l fs e h = e n x (omega arith)
own-fresh x ds p n ClassExpression l fs e h = e n x (omega arith)
own-fresh x ds p n k l fs e h = e (own_scope n k fs) x (own-above n (has_name_scope k fs))

pub now-in : (F : List Declared) (ds : List Declared) (p : Place) (P : Around) (ps : Text → Bool) (n : ℕ) (k : AstType) (l : Label) (fs : Fields) → Known F ds p n → Body F ds p P ps k → (x : Text) → is_parameter (with_node ds p n k l fs) (parameters_in p k) x ≡ is_parameter F (parameters_in p k) x
now-in F ds p P ps n FunctionBody l fs h b x = (b x).1.1
now-in F ds p P ps n StaticBlock l fs h b x = refl
now-in F ds p P ps n k l fs h b x = node-parameter x ds p n k l fs h.fits ∙ h.now x

pub vars-parameters : (F : List Declared) (ds : List Declared) (p : Place) (P : Around) (ps : Text → Bool) (k : AstType) → Body F ds p P ps k → (x : Text) → is_hoisted_to k ≡ true → P.parameters x ≡ is_parameter F (parameters_in p k) x
vars-parameters F ds p P ps FunctionBody b x h = (b x).0
vars-parameters F ds p P ps StaticBlock b x h = b x
vars-parameters F ds p P ps _ b x h = absurd (cc h)

pub vars-target : (F : List Declared) (p : Place) (n : ℕ) (k : AstType) (l : Label) (fs : Fields) (i : ℕ) (x : Text) → is_hoisted_to k ≡ true → is_parameter F (parameters_in p k) x ≡ false → hoist_scope F (place_in p n k l fs i) x ≡ own_scope n k fs
vars-target F p n FunctionBody l fs i x h e = hoist_scope-free F (place_in p n FunctionBody l fs i) x (first p.around) refl e
vars-target F p n StaticBlock l fs i x h e = refl
vars-target F p n _ l fs i x h e = absurd (cc h)

pub first-own : (up : List ℕ) (n : ℕ) (k : AstType) (fs : Fields) (i : ℕ) → makes_scope k ≡ true → is_inside k i ≡ true → first (around_in up n k fs i) ≡ own_scope n k fs
first-own up n k fs i h e = rw (h, e) refl

or-assoc : (a b c : Bool) → (a || (b || c)) ≡ ((a || b) || c)
or-assoc true b c = refl
or-assoc false b c = refl

-- the names around a node, with that of a function expression
abbrev is_first : ℕ → Bool
is_first zero = true
is_first (suc i) = false

name-count : (n i : ℕ) (up : List ℕ) (t : Tree) (fs : Fields) → (first (around_in up n FunctionExpression (one t then fs) i) == n) ≡ is_first i
name-count n zero up t fs = eq-eqb n n refl
name-count n (suc i) up t fs = ne_eqb (suc n) n (λ e. omega arith)

inside-if : (m i : Bool) (f g : Text → Option ℕ) (F : List Declared) (own : ℕ) (up : List ℕ) (x : Text) → (m ≡ true → f x ≡ find F (own ∷ up) x) → g x ≡ find F up x → (if m && i then f else g) x ≡ find F (if m && i then own ∷ up else up) x
inside-if true true f g F own up x e d = e refl
inside-if true false f g F own up x e d = d
inside-if false i f g F own up x e d = d

pub none-empty : (up : List ℕ) (n : ℕ) (named b : Bool) (own : ℕ) → IsNonEmpty up → IsNonEmpty (if b then own ∷ (if named then n ∷ up else up) else (if named then n ∷ up else up))
none-empty up n named true own h = tt
none-empty up n true false own h = tt
none-empty up n false false own h = h

pub var-scope : (above : AstType) (last : Bool) (k : AstType) → kind_fits above last k ≡ true → is_var_scope k ≡ is_hoisted_to k
var-scope above last Program h = absurd (cc h)
var-scope above last k h = refl

-- the declarations of a node reach out where it is no body
pub out-true : (v : Bool) (a : Bool) (k : AstType) → a ≡ true → (v || a) ≡ true
out-true v a k h = rw (h, or-true v) refl

-- kinds with a scope
pub has-scope : (above : AstType) (last : Bool) (k : AstType) → kind_fits above last k ≡ true → has_scope k ≡ makes_scope k
has-scope above last Program h = absurd (cc h)
has-scope above last k h = refl

pub hoisted-makes : (k : AstType) → is_hoisted_to k ≡ true → makes_scope k ≡ true
hoisted-makes FunctionBody h = refl
hoisted-makes StaticBlock h = refl
hoisted-makes _ h = absurd (cc h)

-- the name of a function expression
name-fresh : (x : Text) (ds : List Declared) (p : Place) (n : ℕ) (k : AstType) (l : Label) (fs : Fields) → is_bound ds n x ≡ false → has_name_scope k fs ≡ true → is_bound (with_node ds p n k l fs) n x ≡ false
name-fresh x ds p n FunctionExpression l fs e h = e
name-fresh x ds p n _ l fs e h = absurd (cc h)

name-counts : (up : List ℕ) (n : ℕ) (k : AstType) (fs : Fields) → has_name_scope k fs ≡ true → (i : ℕ) → (first (around_in up n k fs i) == n) ≡ is_first i
name-counts up n FunctionExpression (one t then fs) h i = name-count n i up t fs
name-counts up n FunctionExpression fs h i = absurd (cc h)
name-counts up n _ fs h i = absurd (cc h)

name-hoist : (n : ℕ) (k : AstType) (fs : Fields) (h : ℕ) → h < n → has_name_scope k fs ≡ true → ((if is_hoisted_to k then own_scope n k fs else h) == n) ≡ false
name-hoist n FunctionExpression fs h l e = ne_eqb h n (λ d. omega arith)
name-hoist n _ fs h l e = absurd (cc e)

name-room : (n : ℕ) (named makes : Bool) → named ≡ true → n < n + (if named then 2 else if makes then 1 else 0)
name-room n true makes h = omega arith
name-room n false makes h = absurd (cc h)

around-is : (F : List Declared) (p : Place) (P : Around) (n m : ℕ) (k : AstType) (l : Label) (fs : Fields) → name_fits k fs ≡ true → ((x : Text) → P.scope x ≡ find F p.around x) → (has_name_scope k fs ≡ true → (x : Text) → is_bound F n x ≡ declares_in x false is_first (role_at p.role k l fs) fs) →
    (x : Text) → around P k (role_at p.role k l fs) (resolved_in F (place_in p n k l fs) m fs) x ≡ find F (around_own p.around n k fs) x
around-is F p P n m FunctionExpression l (missing then fs) h e d x = e x
around-is F p P n m FunctionExpression l (one (node Identifier c done) then fs) h e d x =
    let y = first_text c.texts in
    let roles = role_at p.role FunctionExpression l (one (node Identifier c done) then fs) in
    let bound : is_bound F n x ≡ bytes_eq y x = d refl x ∙ ((λ i. or-false (bytes_eq y x) i || counts-none x false (λ i. false) (λ i. roles (suc i)) fs (λ i. refl) i) ∙ or-false (bytes_eq y x)) in
    within-is F n (record { name = y; symbol = symbol_in F n y } ∷ []) P.scope p.around x (refl, tt) (named-if x y (symbol_in F n y) (bytes_eq y x) ∙ sym bound) (e x)
around-is F p P n m FunctionExpression l fs h e d x = absurd (cc h)
around-is F p P n m k l fs h e d x = e x

-- `var` of a parameter's name, in a body
parameter-body : (F ds : List Declared) (p : Place) (P : Around) (ps : Text → Bool) (n : ℕ) (k : AstType) (l : Label) (fs : Fields) (i : ℕ) → Body F ds p P ps k → (x : Text) → is_hoisted_to k ≡ true → is_parameter F (parameters_in p k) x ≡ true → (hoist_scope F (place_in p n k l fs i) x ≡ first p.around) × ((is_bound F (first p.around) x ≡ true) × (around_own p.around n k fs ≡ p.around))
parameter-body F ds p P ps n FunctionBody l fs i b x h e = (hoist_scope-parameter F (place_in p n FunctionBody l fs i) x (first p.around) refl e, (e, refl))
parameter-body F ds p P ps n StaticBlock l fs i b x h e = absurd (cc e)
parameter-body F ds p P ps n _ l fs i b x h e = absurd (cc h)

module _ (F : List Declared) (above : AstType) (last : Bool) (ds : List Declared) (p : Place) (P : Around) (ps : Text → Bool) (n : ℕ) (k : AstType) (l : Label) (fs : Fields) (known : Known F ds p n) (placed : Placed above last (node k l fs)) (body : Body F ds p P ps k)
    (agrees : Agrees n (n + scope_count_in (node k l fs)) F (with_visits ds (visits p n (node k l fs)))) where
  abbrev es : List Declared
  es = with_node ds p n k l fs

  abbrev m : ℕ
  m = n + own_scope_count k fs

  abbrev own : ℕ
  own = own_scope n k fs

  abbrev hoist : ℕ
  hoist = if is_hoisted_to k then own_scope n k fs else p.hoist

  abbrev roles : ℕ → Role
  roles = role_at p.role k l fs

  abbrev A : ℕ → List ℕ
  A = around_in p.around n k fs

  at-scope : (s : ℕ) (x : Text) → n ≤ s → s < m → is_bound F s x ≡ with_in s x es hoist (parameters_in p k) roles A fs
  at-scope s x e d =
      agrees s x e (omega arith) ∙ out-in s x k es hoist (parameters_in p k) (is_strict_in p k l fs) roles A m fs (λ i. fits-in p n k fs i known.fits) placed.2 (λ i. omega arith)

  own-low : n ≤ own
  own-low = own-above n (has_name_scope k fs)

  -- the names of the node's own scope
  pub own-bound : makes_scope k ≡ true → (x : Text) → is_bound F own x ≡ (class_name x k fs || (declares_in x false (is_inside k) roles fs || (is_hoisted_to k && (not (is_parameter F (parameters_in p k) x) && declares_in x true every roles fs))))
  own-bound h x =
      at-scope own x own-low (own-range n (has_name_scope k fs) (makes_scope k) h)
      ∙ (λ i. own-fresh x ds p n k l fs known.fresh h i || (counts-same x false (λ j. first (A j) == own) (is_inside k) roles fs (λ j. counts-own p.around n (has_name_scope k fs) (makes_scope k) (is_inside k j) h known.fits.around) i
      || (hoist-own n own p.hoist (is_hoisted_to k) known.fits.hoist own-low i && (not (now-in F ds p P ps n k l fs known body x i) && declares_in x true every roles fs))))

  -- lexical declarations of the fields stand in the table
  pub lexical-in : ((x : Text) → declares x false p.role (node k l fs) ≡ true → is_bound F (first p.around) x ≡ true) → (s : ℕ) (x : Text) → declares_in x false (λ i. first (A i) == s) roles fs ≡ true → is_bound F s x ≡ true
  lexical-in up s x h = below (cases_lt s n)
    where
      among : n ≤ s → ((s < m) ⊎ (m ≤ s)) → is_bound F s x ≡ true
      among e (inl d) = at-scope s x e d ∙ rw (h, or-true (is_bound es s x)) refl
      among e (inr d) = absurd (let no : declares_in x false (λ i. first (A i) == s) roles fs ≡ false = counts-none x false (λ i. first (A i) == s) roles fs (λ i. ne_eqb (first (A i)) s (λ j. let low : first (A i) < m = (fits-in p n k fs i known.fits).around in omega arith)) in let bad : true ≡ false = sym h ∙ no in cc)

      below : ((s < n) ⊎ (n ≤ s)) → is_bound F s x ≡ true
      below (inl d) =
          let both = and_parts (first p.around == s) (declares_in x false (goes_out false k) roles fs) (sym (lexical-out s x above last p.around n k roles fs placed.0 placed.1 (λ e. omega arith)) ∙ h) in
          ap (λ a. is_bound F a x) (sym (eqb-true (first p.around) s both.0)) ∙ up x (out-true (own_declares x false p.role k l) (declares_in x false (goes_out false k) roles fs) k both.1)
      below (inr e) = among e (cases_lt s m)

  abbrev pub gs : Fields
  gs = resolved_in F (place_in p n k l fs) m fs

  abbrev pub label : Label
  label = marked l (own_symbols F p n k l fs)

  the-class : ClassFrame F own k fs (class_frame k label roles gs)
  the-class = class-frame F p n m k l fs placed.1

  pub class-marked : makes_scope k ≡ true → IsMarked (class_frame k label roles gs)
  class-marked h = the-class.known (λ x e. own-bound h x ∙ rw e refl)

  pub frame-each : makes_scope k ≡ true → Each (HasSymbol F (λ y. own)) (frame k label roles gs)
  frame-each h = each-append (HasSymbol F (λ y. own)) (class_frame k label roles gs) (declared_in false (is_inside k) roles gs) the-class.symbols (symbols-in false F (λ y. own) k (is_inside k) (place_in p n k l fs) m fs placed.2 (λ i e x. first-own p.around n k fs i h e))

  pub frame-names : makes_scope k ≡ true → (x : Text) → bound_by (frame k label roles gs) x ≡ (class_name x k fs || declares_in x false (is_inside k) roles fs)
  frame-names h x =
      bound-both (class_frame k label roles gs) (declared_in false (is_inside k) roles gs) x (class_name x k fs) (declares_in x false (is_inside k) roles fs) (the-class.names x)
      (bound-in x false k (is_inside k) roles gs (placed-in F k (place_in p n k l fs) m fs placed.2) (inside-other p.role k l fs h) ∙ names-in F x false (is_inside k) roles (place_in p n k l fs) m fs)

  pub vars-each : Each (HasSymbol F (hoist_scope F (place_in p n k l fs 0))) (var_frame roles gs)
  vars-each = symbols-in true F (hoist_scope F (place_in p n k l fs 0)) k (λ i. true) (place_in p n k l fs) m fs placed.2 (λ i h x. refl)

  vars-names : (x : Text) → bound_by (var_frame roles gs) x ≡ declares_in x true every roles fs
  vars-names x = bound-in x true k (λ i. true) roles gs (placed-in F k (place_in p n k l fs) m fs placed.2) (λ i e. tt) ∙ names-in F x true (λ i. true) roles (place_in p n k l fs) m fs

  name-bound : has_name_scope k fs ≡ true → (x : Text) → is_bound F n x ≡ declares_in x false is_first roles fs
  name-bound h x =
      at-scope n x (omega arith) (name-room n (has_name_scope k fs) (makes_scope k) h)
      ∙ ((λ i. name-fresh x ds p n k l fs (known.fresh n x (omega arith)) h i || (counts-same x false (λ j. first (A j) == n) is_first roles fs (name-counts p.around n k fs h) i || (name-hoist n k fs p.hoist known.fits.hoist h i && (not (is_parameter es (parameters_in p k) x) && declares_in x true every roles fs))))
      ∙ or-false (declares_in x false is_first roles fs))

  around-in : ((x : Text) → P.scope x ≡ find F p.around x) → (x : Text) → around P k roles gs x ≡ find F (around_own p.around n k fs) x
  around-in e = around-is F p P n m k l fs placed.1 e name-bound

  inner-in : ((x : Text) → P.scope x ≡ find F p.around x) → makes_scope k ≡ true → (x : Text) → inner P k label roles gs x ≡ find F (own ∷ around_own p.around n k fs) x
  inner-in e h x =
      let var = var-scope above last k placed.0 in
      let par = is_parameter F (parameters_in p k) x in
      inner-by F own (frame k label roles gs) (var_frame roles gs) (hoist_scope F (place_in p n k l fs 0)) P.parameters (around P k roles gs) (around_own p.around n k fs) x (is_var_scope k) par (frame-each h) vars-each
      (λ c. vars-parameters F ds p P ps k body x (sym var ∙ c)) (λ c j. vars-target F p n k l fs 0 x (sym var ∙ c) j)
      (own-bound h x ∙ (or-assoc (class_name x k fs) (declares_in x false (is_inside k) roles fs) (is_hoisted_to k && (not par && declares_in x true every roles fs))
      ∙ (λ i. sym (frame-names h x) i || (sym var i && (not par && sym (vars-names x) i)))))
      (around-in e x)

  pub scope-in : ((x : Text) → P.scope x ≡ find F p.around x) → (i : ℕ) (x : Text) → (if has_scope k && is_inside k i then inner P k label roles gs else around P k roles gs) x ≡ find F (A i) x
  scope-in e i x =
      ap (λ b. (if b && is_inside k i then inner P k label roles gs else around P k roles gs) x) (has-scope above last k placed.0)
      ∙ inside-if (makes_scope k) (is_inside k i) (inner P k label roles gs) (around P k roles gs) F own (around_own p.around n k fs) x (λ h. inner-in e h x) (around-in e x)

  pub hoisted-in : Sees F p P (λ x. declares x false p.role (node k l fs)) (λ x. declares x true p.role (node k l fs)) → (x : Text) → declares_in x true every roles fs ≡ true →
      ((if is_var_scope k then hoisting P k label roles gs else P.hoist) x ≡ symbol_in F (hoist_scope F (place_in p n k l fs 0) x) x) × (is_bound F (hoist_scope F (place_in p n k l fs 0) x) x ≡ true)
  hoisted-in sees x v = by (cases_Bool (is_hoisted_to k))
    where
      var : is_var_scope k ≡ is_hoisted_to k
      var = var-scope above last k placed.0

      by_parameter : is_hoisted_to k ≡ true → ((is_parameter F (parameters_in p k) x ≡ true) ⊎ (is_parameter F (parameters_in p k) x ≡ false)) → ((if is_var_scope k then hoisting P k label roles gs else P.hoist) x ≡ symbol_in F (hoist_scope F (place_in p n k l fs 0) x) x) × (is_bound F (hoist_scope F (place_in p n k l fs 0) x) x ≡ true)
      by_parameter h (inl e) =
          let b = parameter-body F ds p P ps n k l fs 0 body x h e in
          let there : hoisting P k label roles gs x ≡ symbol_in F (first p.around) x = ap (λ c. if c then around P k roles gs x else inner P k label roles gs x) (vars-parameters F ds p P ps k body x h ∙ e) ∙ (around-in sees.scope x ∙ (ap (λ up. find F up x) b.1.1 ∙ find-first F p.around x sees.some b.1.0)) in
          (ap (λ c. (if c then hoisting P k label roles gs else P.hoist) x) (var ∙ h) ∙ (there ∙ ap (λ a. symbol_in F a x) (sym b.0)), ap (λ a. is_bound F a x) b.0 ∙ b.1.0)
      by_parameter h (inr e) =
          let t = vars-target F p n k l fs 0 x h e in
          let bound : is_bound F own x ≡ true = own-bound (hoisted-makes k h) x ∙ rw (h, e, v, or-true (declares_in x false (is_inside k) roles fs), or-true (class_name x k fs)) refl in
          let there : hoisting P k label roles gs x ≡ symbol_in F own x = ap (λ c. if c then around P k roles gs x else inner P k label roles gs x) (vars-parameters F ds p P ps k body x h ∙ e) ∙ inner-in sees.scope (hoisted-makes k h) x ∙ ap (λ c. if c then symbol_in F own x else find F (around_own p.around n k fs) x) bound in
          (ap (λ c. (if c then hoisting P k label roles gs else P.hoist) x) (var ∙ h) ∙ (there ∙ ap (λ a. symbol_in F a x) (sym t)), ap (λ a. is_bound F a x) t ∙ bound)

      by : ((is_hoisted_to k ≡ true) ⊎ (is_hoisted_to k ≡ false)) → ((if is_var_scope k then hoisting P k label roles gs else P.hoist) x ≡ symbol_in F (hoist_scope F (place_in p n k l fs 0) x) x) × (is_bound F (hoist_scope F (place_in p n k l fs 0) x) x ≡ true)
      by (inl h) = by_parameter h (cases_Bool (is_parameter F (parameters_in p k) x))
      by (inr h) =
          let reach : (i : ℕ) → goes_out true k i ≡ true = λ i. ap not (var ∙ h) in
          let up = sees.hoisted x (out-true (own_declares x true p.role k l) (declares_in x true (goes_out true k) roles fs) k (counts-same x true (goes_out true k) every roles fs reach ∙ v)) in
          let t = out-hoisted F p n k l fs 0 (reach 0) x in
          (ap (λ c. (if c then hoisting P k label roles gs else P.hoist) x) (var ∙ h) ∙ (up.0 ∙ ap (λ a. symbol_in F a x) (sym t)), ap (λ a. is_bound F a x) t ∙ up.1)
