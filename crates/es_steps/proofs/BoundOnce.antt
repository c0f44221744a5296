-- In a resolved program in which each symbol is bound by one scope, the symbol of each name that declares or refers is bound by exactly
-- one: looking it up finds nothing else.
use Rattle.std.proofs.Common.{arith, ◌≤◌, ◌≡◌, ℕ, zero, suc, refl, sym, ap, ◌∙◌, List, [], ◌∷◌, eq-eqb}
use Rattle.std.specs.Prelude.{Bool, true, false, not, ◌&&◌, ◌||◌, Option, Some, None, if◌then◌else◌, bytes_eq}
use Rattle.std.specs.List.{list_any}
use Rattle.es_tree.specs.Words.{Text}
use Rattle.es_tree.specs.Names.{first_text}
use Rattle.es_tree.specs.References.{is_symbol}
use Rattle.es_tree.specs.Tree.{Tree, node, Label, Fields, done, ◌then◌, Field, missing, one, many, statements, Trees, empty, ◌before◌}
use Rattle.es_tree.specs.declared.ast_type.AstType.{AstType}
use Rattle.es_tree.specs.declared.ast_type.AstType.TheVariants.{Identifier}
use Rattle.es_semantic.specs.Places.{is_inside}
use Rattle.es_semantic.specs.RolesOf.{reads, role_at}
use Rattle.es_semantic.specs.SymbolsOf.{hoists}
use Rattle.es_semantic.specs.declared.place.Role.{Role}
use Rattle.es_semantic.specs.declared.place.Role.TheVariants.{Nothing, Binds}
use Rattle.es_resolution.specs.Declarations.{Bound, sought, symbol_of, has_scope, is_var_scope}
use Rattle.es_resolution.specs.Resolved.{Place, or_around, name_frame, frame, var_frame, around, vars_in, inner, hoisting, place_in, parameters_in, nowhere, no_name, IsRight, OwnRight, Resolved, ResolvedIn, ResolvedBy, ResolvedAll, IsResolved}
use Rattle.es_resolution.specs.Single.{binds, is_var_of, own_binds, one_if, scopes_with, scopes_in, scopes_by, scopes_among, IsSingle}
use Rattle.es_steps.specs.Bindings.{SymbolPasses, OwnSymbolPasses, SymbolsPass, SymbolsPassIn, SymbolsPassBy, SymbolsPassAll, is_bound_once}
use Rattle.es_resolution.proofs.Basics.{bytes_eq-equal}
use Rattle.es_steps.proofs.Nodes.{node_scopes, var-inside}

-- WHAT IS FOUND IS BOUND

some-same : (s o : Option ℕ) → ◌≡◌ {A = Option (Option ℕ)} (Some s) (Some o) → s ≡ o
some-same s o e = cc e

symbol-is : (m : ℕ) (o : Option ℕ) → o ≡ Some m → is_symbol m o ≡ true
symbol-is m o e = ap (λ z. is_symbol m z) e ∙ eq-eqb m m refl

found-step : (c : Bool) (m : ℕ) (o : Option ℕ) (rest : Option (Option ℕ)) (a : Bool) → (if c then Some o else rest) ≡ Some (Some m) → (rest ≡ Some (Some m) → a ≡ true) → (is_symbol m o || a) ≡ true
found-step true m o rest a e f = λ i. symbol-is m o (some-same o (Some m) e) i || a
found-step false m o rest a e f = at (is_symbol m o) (f e)
  where
    at : (v : Bool) → a ≡ true → (v || a) ≡ true
    at true e = refl
    at false e = e

pub found-binds : (m : ℕ) (bs : List Bound) (x : Text) → sought bs x ≡ Some (Some m) → binds m bs ≡ true
found-binds m [] x e = absurd (cc e)
found-binds m (b ∷ bs) x e = found-step (bytes_eq b.name x) m b.symbol (sought bs x) (binds m bs) e (found-binds m bs x)

var-step : (c : Bool) (m : ℕ) (b : Bound) (x : Text) (ps : Text → Bool) (rest : Option (Option ℕ)) (a : Bool) → bytes_eq b.name x ≡ c → ps x ≡ false → (if c then Some b.symbol else rest) ≡ Some (Some m) → (rest ≡ Some (Some m) → a ≡ true) → (is_var_of m ps b || a) ≡ true
var-step true m b x ps rest a d p e f = λ i. (symbol-is m b.symbol (some-same b.symbol (Some m) e) i && not ((ap ps (bytes_eq-equal b.name x d) ∙ p) i)) || a
var-step false m b x ps rest a d p e f = at (is_var_of m ps b) (f e)
  where
    at : (v : Bool) → a ≡ true → (v || a) ≡ true
    at true e = refl
    at false e = e

found-var : (m : ℕ) (ps : Text → Bool) (bs : List Bound) (x : Text) → ps x ≡ false → sought bs x ≡ Some (Some m) → list_any (is_var_of m ps) bs ≡ true
found-var m ps [] x p e = absurd (cc e)
found-var m ps (b ∷ bs) x p e = var-step (bytes_eq b.name x) m b x ps (sought bs x) (list_any (is_var_of m ps) bs) refl p e (found-var m ps bs x p)

or_right : (a b : Bool) → b ≡ true → (a || b) ≡ true
or_right true b e = refl
or_right false b e = e

and_first : (a b : Bool) → (a && b) ≡ true → a ≡ true
and_first true b e = refl
and_first false b e = e

-- a place where what is found passes the test
pub record Covers (q : ℕ → Bool) (p : Place) : Type 0 where
  pub scope : (x : Text) (m : ℕ) → p.scope x ≡ Some m → q m ≡ true
  pub hoist : (x : Text) (m : ℕ) → p.hoist x ≡ Some m → q m ≡ true

module _ (q : ℕ → Bool) where
  -- found in the names bs, or further out
  found-or : (bs : List Bound) (x : Text) (o : Option ℕ) (m : ℕ) → (sought bs x ≡ Some (Some m) → q m ≡ true) → (o ≡ Some m → q m ≡ true) → or_around (sought bs x) o ≡ Some m → q m ≡ true
  found-or bs x o m f g e = at (sought bs x) f e
    where
      at : (a : Option (Option ℕ)) → (a ≡ Some (Some m) → q m ≡ true) → or_around a o ≡ Some m → q m ≡ true
      at None f e = g e
      at (Some s) f e = f (λ i. Some (e i))

  choose : (b : Bool) (a c : Option ℕ) (m : ℕ) → (b ≡ true → a ≡ Some m → q m ≡ true) → (b ≡ false → c ≡ Some m → q m ≡ true) → (if b then a else c) ≡ Some m → q m ≡ true
  choose true a c m f g e = f refl e
  choose false a c m f g e = g refl e

  module _ (p : Place) (k : AstType) (l : Label) (roles : ℕ → Role) (fs : Fields) (all : (m : ℕ) → 1 ≤ node_scopes m p.parameters k l roles fs → q m ≡ true) (cover : Covers q p) where
    counts-first : (m : ℕ) → binds m (name_frame k roles fs) ≡ true → q m ≡ true
    counts-first m e = all m (let z : one_if (binds m (name_frame k roles fs)) ≡ 1 = ap one_if e in omega arith)

    counts-own : (m : ℕ) → own_binds m p.parameters k l roles fs ≡ true → q m ≡ true
    counts-own m e = all m (let z : one_if (own_binds m p.parameters k l roles fs) ≡ 1 = ap one_if e in omega arith)

    around-covers : (x : Text) (m : ℕ) → around p k roles fs x ≡ Some m → q m ≡ true
    around-covers x m = found-or (name_frame k roles fs) x (p.scope x) m (λ e. counts-first m (found-binds m (name_frame k roles fs) x e)) (cover.scope x m)

    vars-cover : (x : Text) (m : ℕ) → vars_in p k roles fs x ≡ Some m → q m ≡ true
    vars-cover x m = at (is_var_scope k) refl
      where
        at : (v : Bool) → is_var_scope k ≡ v → (if v then (λ y. if p.parameters y then around p k roles fs y else or_around (sought (var_frame roles fs) y) (around p k roles fs y)) else around p k roles fs) x ≡ Some m → q m ≡ true
        at true d = choose (p.parameters x) (around p k roles fs x) (or_around (sought (var_frame roles fs) x) (around p k roles fs x)) m (λ b e. around-covers x m e)
            (λ b. found-or (var_frame roles fs) x (around p k roles fs x) m (λ e. counts-own m ((λ i. if and_first (has_scope k) (is_inside k 0) (var-inside k 0 d) i then binds m (frame k l roles fs) || (if d i then list_any (is_var_of m p.parameters) (var_frame roles fs) else false) else false) ∙ or_right (binds m (frame k l roles fs)) (list_any (is_var_of m p.parameters) (var_frame roles fs)) (found-var m p.parameters (var_frame roles fs) x b e))) (around-covers x m))
        at false d = around-covers x m

    inner-covers : has_scope k ≡ true → (x : Text) (m : ℕ) → inner p k l roles fs x ≡ Some m → q m ≡ true
    inner-covers s x m = found-or (frame k l roles fs) x (vars_in p k roles fs x) m (λ e. counts-own m ((λ i. if s i then found-binds m (frame k l roles fs) x e i || vars else false))) (vars-cover x m)
      where
        vars : Bool
        vars = if is_var_scope k then list_any (is_var_of m p.parameters) (var_frame roles fs) else false

    place-covers : (i : ℕ) → Covers q (place_in p k l roles fs i)
    place-covers i = record { scope = scope; hoist = hoist }
      where
        scope : (x : Text) (m : ℕ) → (if has_scope k && is_inside k i then inner p k l roles fs else around p k roles fs) x ≡ Some m → q m ≡ true
        scope x m = at (has_scope k && is_inside k i) refl
          where
            at : (v : Bool) → (has_scope k && is_inside k i) ≡ v → (if v then inner p k l roles fs else around p k roles fs) x ≡ Some m → q m ≡ true
            at true d = inner-covers (and_first (has_scope k) (is_inside k i) d) x m
            at false d = around-covers x m

        hoist : (x : Text) (m : ℕ) → (if is_var_scope k then hoisting p k l roles fs else p.hoist) x ≡ Some m → q m ≡ true
        hoist x m = at (is_var_scope k) refl
          where
            at : (v : Bool) → is_var_scope k ≡ v → (if v then hoisting p k l roles fs else p.hoist) x ≡ Some m → q m ≡ true
            at true d = choose (p.parameters x) (around p k roles fs x) (inner p k l roles fs x) m (λ b. around-covers x m) (λ b. inner-covers (and_first (has_scope k) (is_inside k i) (var-inside k i d)) x m)
            at false d = cover.hoist x m

  -- TREES

  symbol-passes : (p : Place) → Covers q p → (r : Role) (x : Text) (s : Option ℕ) → IsRight p r x s → SymbolPasses q r s
  symbol-passes p c Nothing x s h = tt
  symbol-passes p c (Binds b) x None h = tt
  symbol-passes p c (Binds b) x (Some m) h = choose (hoists b) (p.hoist x) (p.scope x) m (λ e. c.hoist x m) (λ e. c.scope x m) (sym h.0)
  symbol-passes p c _ x None h = tt
  symbol-passes p c _ x (Some m) h = c.scope x m (sym h)

  own-passes : (p : Place) → Covers q p → (r : Role) (k : AstType) (l : Label) → OwnRight p r k l → OwnSymbolPasses q r k l
  own-passes p c r Identifier l h = symbol-passes p c r (first_text l.texts) (symbol_of l) h
  own-passes p c r _ l h = tt

  mutual
    pub covered : (r : Role) (p : Place) (t : Tree) → ((m : ℕ) → 1 ≤ scopes_with m p.parameters r t → q m ≡ true) → Covers q p → Resolved r p t → SymbolsPass q r t
    covered r p (node k l fs) all cover h = (
      own-passes p cover r k l h.0,
      covered-in (role_at r k l fs) (place_in p k l (role_at r k l fs) fs) (parameters_in k l (role_at r k l fs) fs) (λ i. refl) fs (λ m e. all m (omega arith)) (place-covers p k l (role_at r k l fs) fs all cover) h.2,
    )

    covered-in : (roles : ℕ → Role) (places : ℕ → Place) (ps : Text → Bool) → ((i : ℕ) → (places i).parameters ≡ ps) → (fs : Fields) → ((m : ℕ) → 1 ≤ scopes_in m ps roles fs → q m ≡ true) → ((i : ℕ) → Covers q (places i)) → ResolvedIn roles places fs → SymbolsPassIn q roles fs
    covered-in roles places ps same done all cover h = tt
    covered-in roles places ps same (f then fs) all cover h = (
      covered-by (roles zero) (places zero) f (λ m e. all m (let z : scopes_by m (places zero).parameters (roles zero) f ≡ scopes_by m ps (roles zero) f = λ i. scopes_by m (same zero i) (roles zero) f in omega arith)) (cover zero) h.0,
      covered-in (λ i. roles (suc i)) (λ i. places (suc i)) ps (λ i. same (suc i)) fs (λ m e. all m (omega arith)) (λ i. cover (suc i)) h.1,
    )

    covered-by : (r : Role) (p : Place) (f : Field) → ((m : ℕ) → 1 ≤ scopes_by m p.parameters r f → q m ≡ true) → Covers q p → ResolvedBy r p f → SymbolsPassBy q r f
    covered-by r p missing all cover h = tt
    covered-by r p (one t) all cover h = covered r p t all cover h
    covered-by r p (many ts) all cover h = covered-all r p ts all cover h
    covered-by r p (statements ts) all cover h = covered-all r p ts all cover h

    covered-all : (r : Role) (p : Place) (ts : Trees) → ((m : ℕ) → 1 ≤ scopes_among m p.parameters r ts → q m ≡ true) → Covers q p → ResolvedAll r p ts → SymbolsPassAll q r ts
    covered-all r p empty all cover h = tt
    covered-all r p (t before ts) all cover h = (covered r p t (λ m e. all m (omega arith)) cover h.0, covered-all r p ts (λ m e. all m (omega arith)) cover h.1)

pub bound-once : (t : Tree) → IsResolved t → IsSingle t → SymbolsPass (is_bound_once t) reads t
bound-once t h single = covered (is_bound_once t) reads nowhere t (λ m e. let z = single m in eq-eqb (scopes_with m no_name reads t) 1 (omega arith)) (record { scope = λ x m e. absurd (cc e); hoist = λ x m e. absurd (cc e) }) h
