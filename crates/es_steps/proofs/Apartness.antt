-- Names that are apart have symbols that are apart, where each symbol has one name.
use Rattle.std.proofs.Common.{◌≡◌, ℕ, zero, suc, refl, ap, subst, ◌∙◌, List, [], ◌∷◌, ◌++◌, eqb-true}
use Rattle.std.specs.Prelude.{Bool, true, false, not, ◌&&◌, ◌||◌, Option, Some, None, is_some, bytes_eq, if◌then◌else◌}
use Rattle.std.specs.List.{list_all}
use Rattle.std.proofs.lemmas.Slice.Eq.{bytes_eq-Decides}
use Rattle.es_tree.specs.Words.{Text}
use Rattle.es_tree.specs.Names.{first_text}
use Rattle.es_tree.specs.References.{is_symbol}
use Rattle.es_tree.specs.Tree.{Tree, node, Label, Fields, done, ◌then◌, Field, missing, one, many, statements, Trees, empty, ◌before◌}
use Rattle.es_tree.specs.declared.ast_type.AstType.{AstType}
use Rattle.es_tree.specs.declared.ast_type.AstType.TheVariants.{Identifier}
use Rattle.es_semantic.specs.RolesOf.{reads, role_at}
use Rattle.es_semantic.specs.declared.place.Role.{Role}
use Rattle.es_semantic.specs.declared.place.Role.TheVariants.{Binds, Top}
use Rattle.es_semantic.specs.declared.place.Binding.TheVariants.{Parameter}
use Rattle.es_resolution.specs.Called.{HasName, OwnCalled, Called, CalledIn, CalledBy, CalledAll}
use Rattle.es_resolution.specs.Declarations.{Bound, sought, symbol_of, is_asked, own_declared, reaches_out, declared, declared_in, declared_by, declared_among}
use Rattle.es_resolution.specs.Named.{OwnUsed, Named, NamedIn, NamedBy, NamedAll}
use Rattle.es_resolution.specs.Resolved.{bound_by}
use Rattle.es_resolution.specs.Single.{is_it, binds}
use Rattle.es_steps.specs.Identifiers.{is_called}
use Rattle.es_steps.specs.Nodes.{joined_trees}
use Rattle.es_steps.specs.Steps.{Whole}
use Rattle.es_steps.specs.Patterns.{avoiding, no_name_of}
use Rattle.es_steps.specs.ParameterPatterns.{parameter_names, lexical_names, var_names, StandsApart, HoldsPattern, MayMove}
use Rattle.es_steps.specs.ParameterPatterns.HoldsPattern.{alone, with_default}
use Rattle.es_resolution.proofs.Basics.{bytes_eq-self, bytes_eq-equal}
use Rattle.es_steps.proofs.Inserted.{apart-names}
use Rattle.es_steps.proofs.Taken.{called-joined}

-- LISTS OF BOUND NAMES

abbrev pub named_so : (ℕ → Text) → Bound → Bool
named_so called b = is_called called b.name b.symbol

left : (a b : Bool) → (a && b) ≡ true → a ≡ true
left true b e = refl
left false b e = e

right : (a b : Bool) → (a && b) ≡ true → b ≡ true
right true b e = e
right false b e = absurd (cc e)

both : (a b : Bool) → a ≡ true → b ≡ true → (a && b) ≡ true
both a b e d = λ i. e i && d i

all-both : (q : Bound → Bool) (bs cs : List Bound) → list_all q bs ≡ true → list_all q cs ≡ true → list_all q (bs ++ cs) ≡ true
all-both q [] cs e d = d
all-both q (b ∷ bs) cs e d = both (q b) (list_all q (bs ++ cs)) (left (q b) (list_all q bs) e) (all-both q bs cs (right (q b) (list_all q bs) e) d)

all-first : (q : Bound → Bool) (bs cs : List Bound) → list_all q (bs ++ cs) ≡ true → list_all q bs ≡ true
all-first q [] cs e = refl
all-first q (b ∷ bs) cs e = both (q b) (list_all q bs) (left (q b) (list_all q (bs ++ cs)) e) (all-first q bs cs (right (q b) (list_all q (bs ++ cs)) e))

all-second : (q : Bound → Bool) (bs cs : List Bound) → list_all q (bs ++ cs) ≡ true → list_all q cs ≡ true
all-second q [] cs e = e
all-second q (b ∷ bs) cs e = all-second q bs cs (right (q b) (list_all q (bs ++ cs)) e)

all-if : (q : Bound → Bool) (b : Bool) (bs : List Bound) → list_all q bs ≡ true → list_all q (if b then bs else []) ≡ true
all-if q true bs e = e
all-if q false bs e = refl

-- WHAT A TREE DECLARES has the names of its symbols

module _ (called : ℕ → Text) where
  one-called : (b : Bool) (o : Option ℕ) (x : Text) → HasName called o x → list_all (named_so called) (if b then record { name = x; symbol = o } ∷ [] else []) ≡ true
  one-called false o x h = refl
  one-called true None x h = refl
  one-called true (Some m) x h = both (bytes_eq x (called m)) true ((bytes_eq-Decides x (called m)).1 h) refl

  own-called : (v : Bool) (r : Role) (k : AstType) (l : Label) (fs : Fields) → OwnCalled called k l fs → list_all (named_so called) (own_declared v r k l) ≡ true
  own-called v r Identifier l fs h = one-called (is_asked v r) (symbol_of l) (first_text l.texts) h
  own-called v r _ l fs h = refl

  mutual
    pub declared-called : (v : Bool) (r : Role) (t : Tree) → Called called t → list_all (named_so called) (declared v r t) ≡ true
    declared-called v r (node k l fs) h = all-both (named_so called) (own_declared v r k l) (declared_in v (reaches_out v k) (role_at r k l fs) fs) (own-called v r k l fs h.0) (declared-called-in v (reaches_out v k) (role_at r k l fs) fs h.1)

    declared-called-in : (v : Bool) (counts : ℕ → Bool) (roles : ℕ → Role) (fs : Fields) → CalledIn called fs → list_all (named_so called) (declared_in v counts roles fs) ≡ true
    declared-called-in v counts roles done h = refl
    declared-called-in v counts roles (f then fs) h = all-both (named_so called) (if counts zero then declared_by v (roles zero) f else []) (declared_in v (λ i. counts (suc i)) (λ i. roles (suc i)) fs) (all-if (named_so called) (counts zero) (declared_by v (roles zero) f) (declared-called-by v (roles zero) f h.0)) (declared-called-in v (λ i. counts (suc i)) (λ i. roles (suc i)) fs h.1)

    declared-called-by : (v : Bool) (r : Role) (f : Field) → CalledBy called f → list_all (named_so called) (declared_by v r f) ≡ true
    declared-called-by v r missing h = refl
    declared-called-by v r (one t) h = declared-called v r t h
    declared-called-by v r (many ts) h = declared-called-all v r ts h
    declared-called-by v r (statements ts) h = declared-called-all v r ts h

    pub declared-called-all : (v : Bool) (r : Role) (ts : Trees) → CalledAll called ts → list_all (named_so called) (declared_among v r ts) ≡ true
    declared-called-all v r empty h = refl
    declared-called-all v r (t before ts) h = all-both (named_so called) (declared v r t) (declared_among v r ts) (declared-called v r t h.0) (declared-called-all v r ts h.1)

  -- a symbol that is bound has its name bound
  so-named : (b : Bound) (s : ℕ) → is_it s b ≡ true → named_so called b ≡ true → b.name ≡ called s
  so-named b s e d = at b.symbol e d
    where
      at : (o : Option ℕ) → is_symbol s o ≡ true → is_called called b.name o ≡ true → b.name ≡ called s
      at None e d = absurd (cc e)
      at (Some m) e d = bytes_eq-equal b.name (called m) d ∙ ap called (eqb-true m s e)

  found-or : (c : Bool) (o : Option ℕ) (a : Option (Option ℕ)) → is_some a ≡ true → is_some (if c then Some o else a) ≡ true
  found-or true o a e = refl
  found-or false o a e = e

  name-bound : (s : ℕ) (ms : List Bound) → list_all (named_so called) ms ≡ true → binds s ms ≡ true → bound_by ms (called s) ≡ true
  name-bound s [] e d = absurd (cc d)
  name-bound s (m ∷ ms) e d = at (is_it s m) refl d (name-bound s ms (right (named_so called m) (list_all (named_so called) ms) e))
    where
      at : (v : Bool) → is_it s m ≡ v → (v || binds s ms) ≡ true → (binds s ms ≡ true → bound_by ms (called s) ≡ true) → bound_by (m ∷ ms) (called s) ≡ true
      at true g d rest = λ i. is_some (if (subst (λ (z : Text). bytes_eq m.name z ≡ true) (so-named m s g (left (named_so called m) (list_all (named_so called) ms) e)) (bytes_eq-self m.name)) i then Some m.symbol else sought ms (called s))
      at false g d rest = found-or (bytes_eq m.name (called s)) m.symbol (sought ms (called s)) (rest d)

  -- names that are apart have symbols that are apart
  pub apart-symbols : (ms bs : List Bound) → list_all (named_so called) ms ≡ true → list_all (named_so called) bs ≡ true → list_all (no_name_of ms) bs ≡ true → (s : ℕ) → binds s ms ≡ true → binds s bs ≡ false
  apart-symbols ms [] e d g s h = refl
  apart-symbols ms (b ∷ bs) e d g s h = at (is_it s b) refl (apart-symbols ms bs e (right (named_so called b) (list_all (named_so called) bs) d) (right (no_name_of ms b) (list_all (no_name_of ms) bs) g) s h)
    where
      clash : (v : Bool) → v ≡ true → not v ≡ true → ⊥
      clash true e d = absurd (cc d)
      clash false e d = absurd (cc e)

      at : (v : Bool) → is_it s b ≡ v → binds s bs ≡ false → (v || binds s bs) ≡ false
      at false k rest = rest
      at true k rest = absurd (clash (bound_by ms b.name) (ap (λ z. bound_by ms z) (so-named b s k (left (named_so called b) (list_all (named_so called) bs) d)) ∙ name-bound s ms e h) (left (no_name_of ms b) (list_all (no_name_of ms) bs) g))

-- NAMES THAT ARE APART

-- what a tree declares in which no name of these stands
module _ (ms : List Bound) (u : Text → Bool) (f : ℕ) where
  avoided : (x : Text) → avoiding ms u x ≡ true → not (bound_by ms x) ≡ true
  avoided x e = right (u x) (not (bound_by ms x)) e

  one-avoids : (b : Bool) (o : Option ℕ) (x : Text) → avoiding ms u x ≡ true → list_all (no_name_of ms) (if b then record { name = x; symbol = o } ∷ [] else []) ≡ true
  one-avoids false o x h = refl
  one-avoids true o x h = both (not (bound_by ms x)) true (avoided x h) refl

  own-avoids : (v : Bool) (r : Role) (k : AstType) (l : Label) → OwnUsed (avoiding ms u) r k l → list_all (no_name_of ms) (own_declared v r k l) ≡ true
  own-avoids v (Binds b) Identifier l h = one-avoids (is_asked v (Binds b)) (symbol_of l) (first_text l.texts) h
  own-avoids v _ Identifier l h = refl
  own-avoids v r _ l h = refl

  mutual
    pub declared-avoids : (v : Bool) (r : Role) (t : Tree) → Named (avoiding ms u) f r t → list_all (no_name_of ms) (declared v r t) ≡ true
    declared-avoids v r (node k l fs) h = all-both (no_name_of ms) (own_declared v r k l) (declared_in v (reaches_out v k) (role_at r k l fs) fs) (own-avoids v r k l h.0.0) (declared-avoids-in v (reaches_out v k) (role_at r k l fs) fs h.1)

    declared-avoids-in : (v : Bool) (counts : ℕ → Bool) (roles : ℕ → Role) (fs : Fields) → NamedIn (avoiding ms u) f roles fs → list_all (no_name_of ms) (declared_in v counts roles fs) ≡ true
    declared-avoids-in v counts roles done h = refl
    declared-avoids-in v counts roles (w then fs) h = all-both (no_name_of ms) (if counts zero then declared_by v (roles zero) w else []) (declared_in v (λ i. counts (suc i)) (λ i. roles (suc i)) fs) (all-if (no_name_of ms) (counts zero) (declared_by v (roles zero) w) (declared-avoids-by v (roles zero) w h.0)) (declared-avoids-in v (λ i. counts (suc i)) (λ i. roles (suc i)) fs h.1)

    declared-avoids-by : (v : Bool) (r : Role) (w : Field) → NamedBy (avoiding ms u) f r w → list_all (no_name_of ms) (declared_by v r w) ≡ true
    declared-avoids-by v r missing h = refl
    declared-avoids-by v r (one t) h = declared-avoids v r t h
    declared-avoids-by v r (many ts) h = declared-avoids-all v r ts h
    declared-avoids-by v r (statements ts) h = declared-avoids-all v r ts h

    pub declared-avoids-all : (v : Bool) (r : Role) (ts : Trees) → NamedAll (avoiding ms u) f r ts → list_all (no_name_of ms) (declared_among v r ts) ≡ true
    declared-avoids-all v r empty h = refl
    declared-avoids-all v r (t before ts) h = all-both (no_name_of ms) (declared v r t) (declared_among v r ts) (declared-avoids v r t h.0) (declared-avoids-all v r ts h.1)

-- either way round
swapped : (ms bs all : List Bound) → ((y : Text) → bound_by bs y ≡ true → bound_by all y ≡ true) → list_all (no_name_of all) ms ≡ true → list_all (no_name_of ms) bs ≡ true
swapped ms [] all inside e = refl
swapped ms (b ∷ bs) all inside e = both (no_name_of ms b) (list_all (no_name_of ms) bs) (λ i. not (is_some (apart-names all ms e b.name (inside b.name (λ i. is_some (if bytes_eq-self b.name i then Some b.symbol else sought bs b.name))) i))) (swapped ms bs all (λ y d. inside y (found-or (λ n. []) (bytes_eq b.name y) b.symbol (sought bs y) d)) e)

pub apart-swap : (ms bs : List Bound) → list_all (no_name_of bs) ms ≡ true → list_all (no_name_of ms) bs ≡ true
apart-swap ms bs e = swapped ms bs bs (λ y d. d) e

-- A PARAMETER THAT MOVES: what follows from the conditions on names

pub record AreApart (bs cs : List Bound) : Type 0 where
  pub names : list_all (no_name_of bs) cs ≡ true
  pub symbols : (s : ℕ) → binds s bs ≡ true → binds s cs ≡ false

pub record Moves (w : Whole) (p u : Tree) (a c ds ts : Trees) : Type 0 where
  pub earlier : NamedAll (avoiding (parameter_names p) w.in_use) w.free_symbol (Binds Parameter) a
  pub later : NamedAll (avoiding (parameter_names p) w.in_use) w.free_symbol (Binds Parameter) c
  pub own_default : StandsApart (parameter_names p) w u
  pub body : Named (avoiding (lexical_names ds ts ++ var_names ds ts) w.in_use) w.free_symbol (Binds Parameter) p
  pub others : AreApart (parameter_names p) (declared_among false (Binds Parameter) a ++ declared_among false (Binds Parameter) c)
  pub lexical : AreApart (parameter_names p) (lexical_names ds ts)
  pub vars : AreApart (parameter_names p) (var_names ds ts)
  pub form : declared true (Binds Parameter) p ≡ []

held-called : (called : ℕ → Text) (x : Bound) (p t u : Tree) → HoldsPattern x p t u → Called called t → Called called p
held-called called x p t u alone h = h
held-called called x p t u (with_default silent) h = h.1.0

pub moves-apart : (w : Whole) (x : Bound) (p t u : Tree) (a c ds ts : Trees) → HoldsPattern x p t u → MayMove w p u a c ds ts → CalledAll w.called (joined_trees a (t before c)) → CalledAll w.called ds → CalledAll w.called ts → Moves w p u a c ds ts
moves-apart w x p t u a c ds ts holds may parameters directives list =
    let ms = parameter_names p in
    let parts = called-joined w.called a (t before c) parameters in
    let moved = declared-called w.called false (Binds Parameter) p (held-called w.called x p t u holds parts.1.0) in
    let others = all-both (no_name_of ms) (declared_among false (Binds Parameter) a) (declared_among false (Binds Parameter) c) (declared-avoids-all ms w.in_use w.free_symbol false (Binds Parameter) a may.earlier) (declared-avoids-all ms w.in_use w.free_symbol false (Binds Parameter) c may.later) in
    let body = apart-swap ms (lexical_names ds ts ++ var_names ds ts) (declared-avoids (lexical_names ds ts ++ var_names ds ts) w.in_use w.free_symbol false (Binds Parameter) p may.body) in
    let lexical = all-first (no_name_of ms) (lexical_names ds ts) (var_names ds ts) body in
    let vars = all-second (no_name_of ms) (lexical_names ds ts) (var_names ds ts) body in
    let listed = λ (v : Bool). all-both (named_so w.called) (declared_among v reads ds) (declared_among v Top ts ++ []) (declared-called-all w.called v reads ds directives) (all-both (named_so w.called) (declared_among v Top ts) [] (declared-called-all w.called v Top ts list) refl) in
    record {
      earlier = may.earlier;
      later = may.later;
      own_default = may.own_default;
      body = may.body;
      others = record { names = others; symbols = apart-symbols w.called ms _ moved (all-both (named_so w.called) (declared_among false (Binds Parameter) a) (declared_among false (Binds Parameter) c) (declared-called-all w.called false (Binds Parameter) a parts.0) (declared-called-all w.called false (Binds Parameter) c parts.1.1)) others };
      lexical = record { names = lexical; symbols = apart-symbols w.called ms _ moved (listed false) lexical };
      vars = record { names = vars; symbols = apart-symbols w.called ms _ moved (listed true) vars };
      form = may.form;
    }
