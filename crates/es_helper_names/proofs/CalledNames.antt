-- Where parts of calls give way to names that are found from there and that nothing on the way binds, all names are found as before.
use Rattle.std.proofs.Common.{◌≡◌, ◌∙◌, ℕ, zero, suc, refl, sym, subst}
use Rattle.std.specs.Prelude.{Bool, true, false, ◌&&◌, Option, None, if◌then◌else◌}
use Rattle.es_tree.specs.Tree.{Tree, Label, Fields, Field, Trees}
use Rattle.es_tree.specs.Words.{Text}
use Rattle.es_tree.specs.declared.ast_type.AstType.{AstType}
use Rattle.es_tree.specs.declared.ast_type.AstType.TheVariants.{CallExpression, ClassDeclaration, ClassExpression, FunctionExpression, Identifier}
use Rattle.es_semantic.specs.Places.{is_inside}
use Rattle.es_semantic.specs.RolesOf.{reads, role_at}
use Rattle.es_semantic.specs.declared.place.Role.{Role}
use Rattle.es_resolution.specs.Called.{Called, CalledAll, CalledBy, CalledIn, HasName, OwnCalled}
use Rattle.es_resolution.specs.Declarations.{Bound, declared_in, has_scope, is_var_scope, sought, symbol_of}
use Rattle.es_resolution.specs.Named.{Named, NamedAll, NamedBy, NamedIn}
use Rattle.es_resolution.specs.Resolved.{IsMarked, Place, Resolved, ResolvedAll, ResolvedBy, ResolvedIn, around, class_frame, first_declared, frame, inner, name_frame, or_around, place_in, var_frame, vars_in, within, within_vars}
use Rattle.es_resolution.proofs.Basics.{every, none-append, sought-symbols}
use Rattle.es_steps.specs.Identifiers.{OwnPasses, Passes, PassesAll, PassesBy, PassesIn}
use Rattle.es_steps.proofs.Names.{declared-free-in, first-free}
use Rattle.es_helper_calls.proofs.CalledTrees.{Calls, CallsAll, CallsBy, CallsHere, CallsIn}
use Rattle.es_helper_calls.proofs.CalledTrees.Calls.{becomes}
use Rattle.es_helper_calls.proofs.CalledTrees.CallsAll.{next, none}
use Rattle.es_helper_calls.proofs.CalledTrees.CallsBy.{at_many, at_none, at_one, at_statements}
use Rattle.es_helper_calls.proofs.CalledTrees.CallsHere.{calls, lists, passes, stays}
use Rattle.es_helper_calls.proofs.CalledTrees.CallsIn.{ends, goes}
use Rattle.es_helper_calls.proofs.CallNodes.{name-now}
use Rattle.es_helper_names.proofs.CalledFrames.{class-alike, places-alike}
use Rattle.es_helper_names.proofs.CalledRoles.{first-identifier, roles-here}
use Rattle.es_helper_names.proofs.PlainTrees.{Way}

-- GOING INWARD: a name that isn't among those in use in a node is found in its fields as it is around it

module _ (u : Text → Bool) (n : ℕ) (y : Text) (free : u y ≡ false) (p : Place) (k : AstType) (l : Label) (roles : ℕ → Role) (fs : Fields) (used : NamedIn u n roles fs) where
  name-unsought : sought (name_frame k roles fs) y ≡ None
  name-unsought = by k
    where
      by : (j : AstType) → sought (name_frame j roles fs) y ≡ None
      by FunctionExpression = first-free u n y free roles fs used
      by _ = refl

  class-unsought : sought (class_frame k l roles fs) y ≡ None
  class-unsought = by k
    where
      by : (j : AstType) → sought (class_frame j l roles fs) y ≡ None
      by ClassDeclaration = sought-symbols (symbol_of l) (first_declared roles fs) y (first-free u n y free roles fs used)
      by ClassExpression = sought-symbols (symbol_of l) (first_declared roles fs) y (first-free u n y free roles fs used)
      by _ = refl

  frame-unsought : sought (frame k l roles fs) y ≡ None
  frame-unsought = none-append (class_frame k l roles fs) (declared_in false (is_inside k) roles fs) y class-unsought (declared-free-in u n y free false (is_inside k) roles fs used)

  around-found : around p k roles fs y ≡ p.scope y
  around-found = λ i. or_around (name-unsought i) (p.scope y)

  vars-found : vars_in p k roles fs y ≡ p.scope y
  vars-found = when (is_var_scope k)
    where
      by : (v : Bool) → (if v then around p k roles fs y else within (var_frame roles fs) (around p k roles fs) y) ≡ p.scope y
      by true = around-found
      by false = (λ i. or_around (declared-free-in u n y free true every roles fs used i) (around p k roles fs y)) ∙ around-found

      when : (v : Bool) → (if v then within_vars p.parameters (var_frame roles fs) (around p k roles fs) else around p k roles fs) y ≡ p.scope y
      when true = by (p.parameters y)
      when false = around-found

  pub found-inward : (i : ℕ) → (place_in p k l roles fs i).scope y ≡ p.scope y
  found-inward i = at (has_scope k && is_inside k i)
    where
      at : (v : Bool) → (if v then inner p k l roles fs else around p k roles fs) y ≡ p.scope y
      at true = (λ j. or_around (frame-unsought j) (vars_in p k roles fs y)) ∙ vars-found
      at false = around-found

-- WHAT NAMES FIND

-- each of these names finds its symbol
abbrev pub FindEach : (Bound → Type 0) → Place → Type 0
FindEach T p = (b : Bound) → T b → b.symbol ≡ p.scope b.name

module _ (T : Bound → Type 0) (u : Text → Bool) (n : ℕ) (free : (b : Bound) → T b → u b.name ≡ false) where
  find-inward : (p : Place) (k : AstType) (l : Label) (roles : ℕ → Role) (fs : Fields) → NamedIn u n roles fs → FindEach T p → (i : ℕ) → FindEach T (place_in p k l roles fs i)
  find-inward p k l roles fs used found i b h = found b h ∙ sym (found-inward u n b.name (free b h) p k l roles fs used i)

  mutual
    pub resolved-same : (r : Role) (p : Place) {t v : Tree} → Named u n r t → FindEach T p → Calls (Way T) t v → Resolved r p t → Resolved r p v
    resolved-same r p used found (becomes {k = k} {l = l} {fs = fs} {gs = gs} h) d = (
      d.0,
      subst (λ bs. IsMarked bs) (sym (class-alike T r k l fs gs h)) d.1,
      subst (λ (q : ℕ → Role). ResolvedIn q (place_in p k l (role_at r k l gs) gs) gs) (sym (roles-here (Way T) r h))
          (subst (λ (q : ℕ → Place). ResolvedIn (role_at r k l fs) q gs) (sym (places-alike T r k l fs gs h p))
          (resolved-same-here r (place_in p k l (role_at r k l fs) fs) used.1 (find-inward p k l (role_at r k l fs) fs used.1 found) h d.2)),
    )

    resolved-same-here : (r : Role) (places : ℕ → Place) {k : AstType} {l : Label} {fs gs : Fields} → NamedIn u n (role_at r k l fs) fs → ((i : ℕ) → FindEach T (places i)) → CallsHere (Way T) k l fs gs → ResolvedIn (role_at r k l fs) places fs → ResolvedIn (role_at r k l fs) places gs
    resolved-same-here r places used found (stays {k = k} {l = l} {fs = fs} h) d = resolved-same-in (role_at r k l fs) places used found h d
    resolved-same-here r places used found (calls {l = l} {fs = fs} b p mark it h) d = ((found 0 b p.1, refl, tt), resolved-same-in (λ i. role_at r CallExpression l fs (suc i)) (λ i. places (suc i)) used.1 (λ i. found (suc i)) h d.1)
    resolved-same-here r places used found (passes {l = l} {fs = fs} b p mark other it k h) d = (
      resolved-same reads (places 0) used.0 (found 0) k d.0,
      (((found 1 b p.1, refl, tt), tt), resolved-same-in (λ i. role_at r CallExpression l fs (suc (suc i))) (λ i. places (suc (suc i))) used.1.1 (λ i. found (suc (suc i))) h d.1.1),
    )
    resolved-same-here r places used found (lists b p texts k m) d = (resolved-same reads (places 0) used.0 (found 0) k d.0, ((resolved-same reads (places 1) used.1.0.0 (found 1) m d.1.0.0, ((found 1 b p.1, refl, tt), tt)), tt))

    pub resolved-same-in : (roles : ℕ → Role) (places : ℕ → Place) {fs gs : Fields} → NamedIn u n roles fs → ((i : ℕ) → FindEach T (places i)) → CallsIn (Way T) fs gs → ResolvedIn roles places fs → ResolvedIn roles places gs
    resolved-same-in roles places used found ends d = tt
    resolved-same-in roles places used found (goes k h) d = (resolved-same-by (roles zero) (places zero) used.0 (found zero) k d.0, resolved-same-in (λ i. roles (suc i)) (λ i. places (suc i)) used.1 (λ i. found (suc i)) h d.1)

    pub resolved-same-by : (r : Role) (p : Place) {f g : Field} → NamedBy u n r f → FindEach T p → CallsBy (Way T) f g → ResolvedBy r p f → ResolvedBy r p g
    resolved-same-by r p used found at_none d = tt
    resolved-same-by r p used found (at_one h) d = resolved-same r p used found h d
    resolved-same-by r p used found (at_many h) d = resolved-same-all r p used found h d
    resolved-same-by r p used found (at_statements h) d = resolved-same-all r p used found h d

    pub resolved-same-all : (r : Role) (p : Place) {ts us : Trees} → NamedAll u n r ts → FindEach T p → CallsAll (Way T) ts us → ResolvedAll r p ts → ResolvedAll r p us
    resolved-same-all r p used found none d = tt
    resolved-same-all r p used found (next k h) d = (resolved-same r p used.0 found k d.0, resolved-same-all r p used.1 found h d.1)

-- TESTS of names

module _ (T : Bound → Type 0) (q : Text → Option ℕ → Bool) (new : (b : Bound) → T b → q b.name b.symbol ≡ true) where
  own-passes : (k : AstType) (l : Label) {fs gs : Fields} → CallsHere (Way T) k l fs gs → OwnPasses q k l fs → OwnPasses q k l gs
  own-passes Identifier l h e = e
  own-passes ClassDeclaration l (stays h) e = (first-identifier (Way T) h e.0, (λ i. q (name-now (Way T) h i) (symbol_of l)) ∙ e.1)
  own-passes ClassExpression l (stays h) e = (first-identifier (Way T) h e.0, (λ i. q (name-now (Way T) h i) (symbol_of l)) ∙ e.1)
  own-passes _ l h e = tt

  mutual
    pub passes-same : {t u : Tree} → Calls (Way T) t u → Passes q t → Passes q u
    passes-same (becomes {k = k} {l = l} h) e = (own-passes k l h e.0, passes-same-here h e.1)

    passes-same-here : {k : AstType} {l : Label} {fs gs : Fields} → CallsHere (Way T) k l fs gs → PassesIn q fs → PassesIn q gs
    passes-same-here (stays h) e = passes-same-in h e
    passes-same-here (calls b p mark it h) e = ((new b p.1, tt), passes-same-in h e.1)
    passes-same-here (passes b p mark other it k h) e = (passes-same k e.0, (((new b p.1, tt), tt), passes-same-in h e.1.1))
    passes-same-here (lists b p texts k m) e = (passes-same k e.0, ((passes-same m e.1.0.0, ((new b p.1, tt), tt)), tt))

    passes-same-in : {fs gs : Fields} → CallsIn (Way T) fs gs → PassesIn q fs → PassesIn q gs
    passes-same-in ends e = tt
    passes-same-in (goes k h) e = (passes-same-by k e.0, passes-same-in h e.1)

    passes-same-by : {f g : Field} → CallsBy (Way T) f g → PassesBy q f → PassesBy q g
    passes-same-by at_none e = tt
    passes-same-by (at_one h) e = passes-same h e
    passes-same-by (at_many h) e = passes-same-all h e
    passes-same-by (at_statements h) e = passes-same-all h e

    passes-same-all : {ts us : Trees} → CallsAll (Way T) ts us → PassesAll q ts → PassesAll q us
    passes-same-all none e = tt
    passes-same-all (next k h) e = (passes-same k e.0, passes-same-all h e.1)

-- THE NAMES of symbols

module _ (T : Bound → Type 0) (called : ℕ → Text) (new : (b : Bound) → T b → HasName called b.symbol b.name) where
  own-called : (k : AstType) (l : Label) {fs gs : Fields} → CallsHere (Way T) k l fs gs → OwnCalled called k l fs → OwnCalled called k l gs
  own-called Identifier l h e = e
  own-called ClassDeclaration l (stays h) e = subst (λ x. HasName called (symbol_of l) x) (sym (name-now (Way T) h)) e
  own-called ClassExpression l (stays h) e = subst (λ x. HasName called (symbol_of l) x) (sym (name-now (Way T) h)) e
  own-called _ l h e = tt

  mutual
    pub called-same : {t u : Tree} → Calls (Way T) t u → Called called t → Called called u
    called-same (becomes {k = k} {l = l} h) e = (own-called k l h e.0, called-same-here h e.1)

    called-same-here : {k : AstType} {l : Label} {fs gs : Fields} → CallsHere (Way T) k l fs gs → CalledIn called fs → CalledIn called gs
    called-same-here (stays h) e = called-same-in h e
    called-same-here (calls b p mark it h) e = ((new b p.1, tt), called-same-in h e.1)
    called-same-here (passes b p mark other it k h) e = (called-same k e.0, (((new b p.1, tt), tt), called-same-in h e.1.1))
    called-same-here (lists b p texts k m) e = (called-same k e.0, ((called-same m e.1.0.0, ((new b p.1, tt), tt)), tt))

    called-same-in : {fs gs : Fields} → CallsIn (Way T) fs gs → CalledIn called fs → CalledIn called gs
    called-same-in ends e = tt
    called-same-in (goes k h) e = (called-same-by k e.0, called-same-in h e.1)

    called-same-by : {f g : Field} → CallsBy (Way T) f g → CalledBy called f → CalledBy called g
    called-same-by at_none e = tt
    called-same-by (at_one h) e = called-same h e
    called-same-by (at_many h) e = called-same-all h e
    called-same-by (at_statements h) e = called-same-all h e

    called-same-all : {ts us : Trees} → CallsAll (Way T) ts us → CalledAll called ts → CalledAll called us
    called-same-all none e = tt
    called-same-all (next k h) e = (called-same k e.0, called-same-all h e.1)
