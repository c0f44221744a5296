-- What is declared in a program whose names are bound: each name with a symbol that is so called. So a name that one symbol alone has is
-- found with that symbol, however often it is declared.
use Rattle.std.proofs.Common.{◌<◌, ◌≡◌, ℕ, zero, suc, refl, sym, ap, ◌∙◌, List, [], ◌∷◌, ◌++◌}
use Rattle.std.specs.Prelude.{Bool, true, false, ◌&&◌, Option, Some, None, is_some, map, bytes_eq, if◌then◌else◌}
use Rattle.es_tree.specs.Names.{first_text}
use Rattle.es_tree.specs.Scopes.{name_in}
use Rattle.es_tree.specs.Tree.{Tree, node, Label, Fields, done, ◌then◌, Field, missing, one, many, statements, Trees, empty, ◌before◌}
use Rattle.es_tree.specs.Words.{Text}
use Rattle.es_tree.specs.declared.ast_type.AstType.{AstType}
use Rattle.es_tree.specs.declared.ast_type.AstType.TheVariants.{ClassDeclaration, ClassExpression, FunctionExpression, Identifier}
use Rattle.es_semantic.specs.Places.{is_inside}
use Rattle.es_semantic.specs.RolesOf.{role_at}
use Rattle.es_semantic.specs.declared.place.Role.{Role}
use Rattle.es_semantic.specs.declared.place.Role.TheVariants.{Binds}
use Rattle.es_resolution.specs.Declarations.{Bound, declared, declared_among, declared_by, declared_in, has_scope, is_asked, is_var_scope, own_declared, own_name, reaches_out, sought, symbol_of}
use Rattle.es_resolution.specs.Named.{IsBelow, Named, NamedAll, NamedBy, NamedIn}
use Rattle.es_resolution.specs.Resolved.{IsMarked, OwnRight, Place, Resolved, ResolvedAll, ResolvedBy, ResolvedIn, around, class_frame, first_declared, frame, inner, name_frame, or_around, place_in, var_frame, vars_in, with_symbol, within, within_vars}
use Rattle.es_resolution.proofs.Basics.{Each, bytes_eq-equal, every}
use Rattle.es_resolution.proofs.Marks.{each-append}
use Rattle.es_steps.specs.Identifiers.{OwnPasses, Passes, PassesAll, PassesBy, PassesIn, is_called}
use Rattle.es_steps.specs.Steps.{Whole}
use Rattle.es_arrow_steps.proofs.OwnNames.{IsOwn}

-- WHAT IS KNOWN of a part of the finished program

abbrev pub Good : Whole → Role → Place → Tree → Type 0
Good w r p t = Resolved r p t × Named w.in_use w.free_symbol r t × Passes (is_called w.called) t

abbrev pub GoodIn : Whole → (ℕ → Role) → (ℕ → Place) → Fields → Type 0
GoodIn w roles places fs = ResolvedIn roles places fs × NamedIn w.in_use w.free_symbol roles fs × PassesIn (is_called w.called) fs

abbrev pub GoodBy : Whole → Role → Place → Field → Type 0
GoodBy w r p f = ResolvedBy r p f × NamedBy w.in_use w.free_symbol r f × PassesBy (is_called w.called) f

abbrev pub GoodAll : Whole → Role → Place → Trees → Type 0
GoodAll w r p ts = ResolvedAll r p ts × NamedAll w.in_use w.free_symbol r ts × PassesAll (is_called w.called) ts

-- A NAME WITH ITS SYMBOL

abbrev pub Calls : Whole → Text → Option ℕ → Type 0
Calls w x None = ⊥
Calls w x (Some m) = (m < w.free_symbol) × (x ≡ w.called m)

abbrev pub AllCall : Whole → List Bound → Type 0
AllCall w bs = Each (λ b. Calls w b.name b.symbol) bs

module _ (w : Whole) where
  calls-both : (bs cs : List Bound) → AllCall w bs → AllCall w cs → AllCall w (bs ++ cs)
  calls-both bs cs h k = each-append (λ b. Calls w b.name b.symbol) bs cs h k

  calls-if : (v : Bool) (bs : List Bound) → AllCall w bs → AllCall w (if v then bs else [])
  calls-if true bs h = h
  calls-if false bs h = tt

  some-calls : (x : Text) (s : Option ℕ) → is_some s ≡ true → IsBelow w.free_symbol s → is_called w.called x s ≡ true → Calls w x s
  some-calls x None e low h = absurd (cc e)
  some-calls x (Some m) e low h = (low, bytes_eq-equal x (w.called m) h)

  -- what an identifier declares
  own-calls : (v : Bool) (r : Role) (p : Place) (k : AstType) (l : Label) (fs : Fields) → OwnRight p r k l → IsBelow w.free_symbol (symbol_of l) → OwnPasses (is_called w.called) k l fs → AllCall w (own_declared v r k l)
  own-calls v (Binds b) p Identifier l fs h low called = calls-if (is_asked v (Binds b)) (record { name = first_text l.texts; symbol = symbol_of l } ∷ []) (some-calls (first_text l.texts) (symbol_of l) h.1 low called, tt)
  own-calls v _ p Identifier l fs h low called = tt
  own-calls v r p _ l fs h low called = tt

  own-name-calls : (r : Role) (p : Place) (k : AstType) (l : Label) (fs : Fields) → OwnRight p r k l → IsBelow w.free_symbol (symbol_of l) → OwnPasses (is_called w.called) k l fs → AllCall w (own_name k r l)
  own-name-calls (Binds b) p Identifier l fs h low called = (some-calls (first_text l.texts) (symbol_of l) h.1 low called, tt)
  own-name-calls _ p Identifier l fs h low called = tt
  own-name-calls r p _ l fs h low called = tt

  mutual
    declared-calls : (v : Bool) (r : Role) (p : Place) (t : Tree) → Good w r p t → AllCall w (declared v r t)
    declared-calls v r p (node k l fs) h = calls-both (own_declared v r k l) (declared_in v (reaches_out v k) (role_at r k l fs) fs) (own-calls v r p k l fs h.0.0 h.1.0.1 h.2.0) (declared-calls-in v (reaches_out v k) (role_at r k l fs) (place_in p k l (role_at r k l fs) fs) fs (h.0.2, h.1.1, h.2.1))

    declared-calls-in : (v : Bool) (counts : ℕ → Bool) (roles : ℕ → Role) (places : ℕ → Place) (fs : Fields) → GoodIn w roles places fs → AllCall w (declared_in v counts roles fs)
    declared-calls-in v counts roles places done h = tt
    declared-calls-in v counts roles places (f then fs) h = calls-both (if counts zero then declared_by v (roles zero) f else []) (declared_in v (λ i. counts (suc i)) (λ i. roles (suc i)) fs) (calls-if (counts zero) (declared_by v (roles zero) f) (declared-calls-by v (roles zero) (places zero) f (h.0.0, h.1.0, h.2.0))) (declared-calls-in v (λ i. counts (suc i)) (λ i. roles (suc i)) (λ i. places (suc i)) fs (h.0.1, h.1.1, h.2.1))

    declared-calls-by : (v : Bool) (r : Role) (p : Place) (f : Field) → GoodBy w r p f → AllCall w (declared_by v r f)
    declared-calls-by v r p missing h = tt
    declared-calls-by v r p (one t) h = declared-calls v r p t h
    declared-calls-by v r p (many ts) h = declared-calls-all v r p ts h
    declared-calls-by v r p (statements ts) h = declared-calls-all v r p ts h

    declared-calls-all : (v : Bool) (r : Role) (p : Place) (ts : Trees) → GoodAll w r p ts → AllCall w (declared_among v r ts)
    declared-calls-all v r p empty h = tt
    declared-calls-all v r p (t before ts) h = calls-both (declared v r t) (declared_among v r ts) (declared-calls v r p t (h.0.0, h.1.0, h.2.0)) (declared-calls-all v r p ts (h.0.1, h.1.1, h.2.1))

  -- THE SCOPES OF A NODE

  first-calls : (roles : ℕ → Role) (places : ℕ → Place) (fs : Fields) → GoodIn w roles places fs → AllCall w (first_declared roles fs)
  first-calls roles places done h = tt
  first-calls roles places (missing then fs) h = tt
  first-calls roles places (one (node k l gs) then fs) h = own-name-calls (roles zero) (places zero) k l gs h.0.0.0 h.1.0.0.1 h.2.0.0
  first-calls roles places (many ts then fs) h = tt
  first-calls roles places (statements ts then fs) h = tt

  name-calls : (k : AstType) (roles : ℕ → Role) (places : ℕ → Place) (fs : Fields) → GoodIn w roles places fs → AllCall w (name_frame k roles fs)
  name-calls FunctionExpression roles places fs h = first-calls roles places fs h
  name-calls _ roles places fs h = tt

  and-first : (a b : Bool) → (a && b) ≡ true → a ≡ true
  and-first true b e = refl
  and-first false b e = e

  -- the name of a class inside it
  inside-calls : (s : Option ℕ) (r : Role) (k : AstType) (l : Label) → IsMarked (map (with_symbol s) (own_name k r l)) → IsBelow w.free_symbol s → is_called w.called (first_text l.texts) s ≡ true → AllCall w (map (with_symbol s) (own_name k r l))
  inside-calls s (Binds b) Identifier l h low called = (some-calls (first_text l.texts) s (and-first (is_some s) true h) low called, tt)
  inside-calls s _ Identifier l h low called = tt
  inside-calls s r _ l h low called = tt

  class-first : (s : Option ℕ) (roles : ℕ → Role) (fs : Fields) → IsMarked (map (with_symbol s) (first_declared roles fs)) → IsBelow w.free_symbol s → is_called w.called (name_in fs) s ≡ true → AllCall w (map (with_symbol s) (first_declared roles fs))
  class-first s roles done h low called = tt
  class-first s roles (missing then fs) h low called = tt
  class-first s roles (one (node k l gs) then fs) h low called = inside-calls s (roles zero) k l h low called
  class-first s roles (many ts then fs) h low called = tt
  class-first s roles (statements ts then fs) h low called = tt

  class-calls : (k : AstType) (l : Label) (roles : ℕ → Role) (fs : Fields) → IsMarked (class_frame k l roles fs) → IsBelow w.free_symbol (symbol_of l) → OwnPasses (is_called w.called) k l fs → AllCall w (class_frame k l roles fs)
  class-calls ClassDeclaration l roles fs h low called = class-first (symbol_of l) roles fs h low called.1
  class-calls ClassExpression l roles fs h low called = class-first (symbol_of l) roles fs h low called.1
  class-calls _ l roles fs h low called = tt

pub record FramesCall (w : Whole) (k : AstType) (l : Label) (roles : ℕ → Role) (fs : Fields) : Type 0 where
  pub names : AllCall w (name_frame k roles fs)
  pub frames : AllCall w (frame k l roles fs)
  pub vars : AllCall w (var_frame roles fs)

pub frames-call : (w : Whole) (r : Role) (p : Place) (k : AstType) (l : Label) (fs : Fields) → Good w r p (node k l fs) → FramesCall w k l (role_at r k l fs) fs
frames-call w r p k l fs h =
    let roles = role_at r k l fs in
    let places = place_in p k l roles fs in
    let inside : GoodIn w roles places fs = (h.0.2, h.1.1, h.2.1) in
    record {
      names = name-calls w k roles places fs inside;
      frames = calls-both w (class_frame k l roles fs) (declared_in false (is_inside k) roles fs) (class-calls w k l roles fs h.0.1 h.1.0.1 h.2.0) (declared-calls-in w false (is_inside k) roles places fs inside);
      vars = declared-calls-in w true every roles places fs inside;
    }

-- LOOK-UP

module _ (w : Whole) (b : Bound) (o : IsOwn w b) where
  calls-own : (x : Text) (s : Option ℕ) → Calls w x s → x ≡ b.name → s ≡ Some o.symbol
  calls-own x None h e = absurd h
  calls-own x (Some m) h e = ap (λ (z : ℕ). Some z) (o.alone m h.0 (sym h.1 ∙ e))

  some-same : (s u : Option ℕ) → ◌≡◌ {A = Option (Option ℕ)} (Some s) (Some u) → s ≡ u
  some-same s u e = cc e

  sought-own : (bs : List Bound) → AllCall w bs → (s : Option ℕ) → sought bs b.name ≡ Some s → s ≡ Some o.symbol
  sought-own [] h s e = absurd (cc e)
  sought-own (c ∷ bs) h s e = at (bytes_eq c.name b.name) refl e (sought-own bs h.1 s)
    where
      at : (v : Bool) → bytes_eq c.name b.name ≡ v → (if v then Some c.symbol else sought bs b.name) ≡ Some s → (sought bs b.name ≡ Some s → s ≡ Some o.symbol) → s ≡ Some o.symbol
      at true d f rest = sym (some-same c.symbol s f) ∙ calls-own c.name c.symbol h.0 (bytes_eq-equal c.name b.name d)
      at false d f rest = rest f

  or-own : (bs : List Bound) → AllCall w bs → (f : Option ℕ) → f ≡ Some o.symbol → or_around (sought bs b.name) f ≡ Some o.symbol
  or-own bs h f e = at (sought bs b.name) refl
    where
      at : (a : Option (Option ℕ)) → sought bs b.name ≡ a → or_around a f ≡ Some o.symbol
      at None d = e
      at (Some s) d = sought-own bs h s d

  module _ (p : Place) (k : AstType) (l : Label) (roles : ℕ → Role) (fs : Fields) (call : FramesCall w k l roles fs) where
    around-own : p.scope b.name ≡ Some o.symbol → around p k roles fs b.name ≡ Some o.symbol
    around-own e = or-own (name_frame k roles fs) call.names (p.scope b.name) e

    vars-own : around p k roles fs b.name ≡ Some o.symbol → vars_in p k roles fs b.name ≡ Some o.symbol
    vars-own e = at (is_var_scope k)
      where
        by : (v : Bool) → (if v then around p k roles fs b.name else within (var_frame roles fs) (around p k roles fs) b.name) ≡ Some o.symbol
        by true = e
        by false = or-own (var_frame roles fs) call.vars (around p k roles fs b.name) e

        at : (v : Bool) → (if v then within_vars p.parameters (var_frame roles fs) (around p k roles fs) else around p k roles fs) b.name ≡ Some o.symbol
        at true = by (p.parameters b.name)
        at false = e

    inner-own : around p k roles fs b.name ≡ Some o.symbol → inner p k l roles fs b.name ≡ Some o.symbol
    inner-own e = or-own (frame k l roles fs) call.frames (vars_in p k roles fs b.name) (vars-own e)

    -- found around a node, it is found in each field
    pub scope-own : p.scope b.name ≡ Some o.symbol → (i : ℕ) → (place_in p k l roles fs i).scope b.name ≡ Some o.symbol
    scope-own e i = at (has_scope k && is_inside k i)
      where
        at : (v : Bool) → (if v then inner p k l roles fs else around p k roles fs) b.name ≡ Some o.symbol
        at true = inner-own (around-own e)
        at false = around-own e

    -- what a `var` of the name declares in a body, the name finds there
    pub hoist-own : is_var_scope k ≡ true → (i : ℕ) → (has_scope k && is_inside k i) ≡ true → (place_in p k l roles fs i).hoist b.name ≡ Some o.symbol → (place_in p k l roles fs i).scope b.name ≡ Some o.symbol
    hoist-own var i inside e = (λ j. (if inside j then inner p k l roles fs else around p k roles fs) b.name) ∙ at (p.parameters b.name) ((λ j. (if sym var j then hoisted else p.hoist) b.name) ∙ e)
      where
        hoisted : Text → Option ℕ
        hoisted x = if p.parameters x then around p k roles fs x else inner p k l roles fs x

        at : (v : Bool) → (if v then around p k roles fs b.name else inner p k l roles fs b.name) ≡ Some o.symbol → inner p k l roles fs b.name ≡ Some o.symbol
        at true d = inner-own d
        at false d = d
