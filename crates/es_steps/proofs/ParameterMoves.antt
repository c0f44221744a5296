-- A pattern moves out of a parameter into a `let` of the body: what stands inside the function keeps its bindings, whatever kind of
-- function it is. Then each kind of function keeps its own.
use Rattle.std.proofs.Common.{arith, ◌≤◌, ◌<◌, ◌+◌, ◌≡◌, ℕ, refl, sym, ap, subst, ◌∙◌, List, [], ◌∷◌, ◌++◌}
use Rattle.std.specs.Prelude.{Bool, true, false, ◌||◌, Option, Some, None, is_some, bytes_eq, if◌then◌else◌}
use Rattle.std.specs.List.{list_any}
use Rattle.es_tree.specs.Words.{Text}
use Rattle.es_tree.specs.Tree.{Tree, node, Label, Fields, done, ◌then◌, Field, one, many, Trees, ◌before◌}
use Rattle.es_tree.specs.declared.ast_type.AstType.{AstType}
use Rattle.es_tree.specs.declared.ast_type.AstType.TheVariants.{ArrowFunctionExpression, FunctionBody, FunctionDeclaration, FunctionExpression, ObjectPattern}
use Rattle.es_semantic.specs.RolesOf.{reads, role_at, function_binding}
use Rattle.es_semantic.specs.declared.place.Role.{Role}
use Rattle.es_semantic.specs.declared.place.Role.TheVariants.{Top, Binds}
use Rattle.es_semantic.specs.declared.place.Binding.TheVariants.{Parameter, Let, FunctionName}
use Rattle.es_resolution.specs.Declarations.{Bound, sought, declared, declared_by, declared_among}
use Rattle.es_resolution.specs.Resolved.{Place, own_by, or_around, within, bound_by, no_name, place_in, Resolved, ResolvedBy, ResolvedAll}
use Rattle.es_resolution.specs.Named.{Named, NamedIn, NamedBy, NamedAll}
use Rattle.es_resolution.specs.Single.{is_it, binds, is_var_of, own_binds, one_if, scopes_with, scopes_by, scopes_among}
use Rattle.es_resolution.proofs.Basics.{bytes_eq-self, bytes_eq-equal, sought-append, none-append}
use Rattle.es_resolution.proofs.MoreNames.{named-more, named-more-by, named-more-all, own-more}
use Rattle.es_steps.specs.Nodes.{joined_trees}
use Rattle.es_steps.specs.Steps.{Whole, Site}
use Rattle.es_steps.specs.Rules.{next_name}
use Rattle.es_steps.specs.ParameterPatterns.{parameter_names, lexical_names, var_names, body_fields, HoldsPattern, IsFunctionName}
use Rattle.es_steps.specs.Patterns.{avoiding, let_statement}
use Rattle.es_steps.proofs.Apartness.{Moves}
use Rattle.es_steps.proofs.Alike.{declared-alike, resolved-alike, named-alike, scopes-alike}
use Rattle.es_steps.proofs.CatchRests.{or-none}
use Rattle.es_steps.proofs.Inserted.{neither-first, neither-second, Inserted, inserted-before, inserted-left, inserted-right, vars-stay, outer-same, inner-same, hoist-same, moved-same, new-outer, new-inner, count}
use Rattle.es_steps.proofs.Kept.{Known, AgreeOn, Kept}
use Rattle.es_steps.proofs.Kept.Change.{sealed}
use Rattle.es_steps.proofs.Names.{declared-free, declared-free-in, declared-free-all}
use Rattle.es_steps.proofs.NoHoist.{no-hoist}
use Rattle.es_steps.proofs.OneName.{knowing, lower, it-found, it-used, not-sought, old-symbol}
use Rattle.es_steps.proofs.Same.{at-most-sealed}
use Rattle.es_steps.proofs.Scopes.{at-most-one, neither, any-in, any-declared, name-any, it-out, var-out, no-scopes, no-scopes-all, alike-scopes-all}
use Rattle.es_steps.proofs.Stays.{Stays, stays, stand, stand-all, avoids, wider-use, parameter-let, name-scopes, name-resolved}
use Rattle.es_steps.proofs.Written.{nil-right, body_place, named-joined, join-named, declared-joined, scopes-joined, resolved-joined, resolved-parts}

not-some : (a : Option (Option ℕ)) → is_some a ≡ false → a ≡ None
not-some None e = refl
not-some (Some s) e = absurd (cc e)

mirrored : (y x : Text) (o s : Option ℕ) → sought (record { name = y; symbol = o } ∷ []) x ≡ None → sought (record { name = x; symbol = s } ∷ []) y ≡ None
mirrored y x o s e = at (bytes_eq x y) refl
  where
    at : (b : Bool) → bytes_eq x y ≡ b → (if b then Some s else None) ≡ None
    at false d = refl
    at true d = absurd (clash (subst (λ (z : Text). sought (record { name = z; symbol = o } ∷ []) x ≡ None) (sym (bytes_eq-equal x y d)) e))
      where
        clash : sought (record { name = x; symbol = o } ∷ []) x ≡ None → ⊥
        clash g = let k : sought (record { name = x; symbol = o } ∷ []) x ≡ Some o = rw (bytes_eq-self x) in absurd (cc (g, k))

-- WHAT KINDS OF FUNCTIONS SHARE: the parameters bind around the body, by whatever names stand around the function

abbrev pub bound_in : Trees → List Bound
bound_in ps = declared_among false (Binds Parameter) ps ++ []

-- inside a function with these parameters, where names around them are found so
abbrev pub among : Trees → (Text → Option ℕ) → (Text → Option ℕ) → Place
among ps f h = record { scope = within (bound_in ps) f; hoist = h; parameters = bound_by (bound_in ps) }

-- how many scopes bind a symbol
abbrev pub scopes_of : ℕ → Trees → Tree → ℕ
scopes_of s ps b = one_if (binds s (bound_in ps)) + (scopes_among s (bound_by (bound_in ps)) (Binds Parameter) ps + scopes_with s (bound_by (bound_in ps)) reads b)

-- what a step keeps of the parameters and the body
pub record KeptInside (n : Known) (ps qs : Trees) (b c : Tree) : Type 0 where
  pub vars : declared_among true (Binds Parameter) qs ≡ declared_among true (Binds Parameter) ps
  pub named : NamedAll n.in_use_after n.free_after (Binds Parameter) qs
  pub body_named : Named n.in_use_after n.free_after reads c
  pub scopes : (s : ℕ) → s < n.free → scopes_of s qs c ≡ scopes_of s ps b
  pub new_scopes : (s : ℕ) → n.free ≤ s → scopes_of s qs c ≤ 1
  pub resolved : (f g h k : Text → Option ℕ) → AgreeOn n f g → AgreeOn n h k → ResolvedAll (Binds Parameter) (among ps f h) ps → ResolvedAll (Binds Parameter) (among qs g k) qs
  pub body_resolved : (f g h k : Text → Option ℕ) → AgreeOn n f g → AgreeOn n h k → ResolvedAll (Binds Parameter) (among ps f h) ps → Resolved reads (among ps f h) b → Resolved reads (among qs g k) c

module _ (w : Whole) (l : Label) (a c ds es ts : Trees) (x : Text) (free : w.in_use x ≡ false) (lp : Label) (pf : Fields) (t u : Tree) (holds : HoldsPattern (next_name w x) (node ObjectPattern lp pf) t u) (may : Moves w (node ObjectPattern lp pf) u a c ds (joined_trees es ts)) (used : NamedAll w.in_use w.free_symbol (Binds Parameter) (joined_trees a (t before c))) (body-used : Named w.in_use w.free_symbol reads (node FunctionBody l (body_fields ds (joined_trees es ts)))) where
  abbrev it : Bound
  it = next_name w x

  abbrev p : Tree
  p = node ObjectPattern lp pf

  abbrev moved : List Bound
  moved = parameter_names p

  abbrev list : Trees
  list = joined_trees es ts

  abbrev list_after : Trees
  list_after = joined_trees es (let_statement p it before ts)

  abbrev params : Tree → Trees
  params z = joined_trees a (z before c)

  abbrev names : Tree → List Bound
  names z = bound_in (params z)

  abbrev at : Tree → (Text → Option ℕ) → (Text → Option ℕ) → Place
  at z f h = among (params z) f h

  abbrev inside : Tree → Trees → (Text → Option ℕ) → (Text → Option ℕ) → Place
  inside z ss f h = place_in (at z f h) FunctionBody l (role_at reads FunctionBody l (body_fields ds ss)) (body_fields ds ss) 1

  used-ps : NamedAll w.in_use w.free_symbol (Binds Parameter) a × (Named w.in_use w.free_symbol (Binds Parameter) t × NamedAll w.in_use w.free_symbol (Binds Parameter) c)
  used-ps = named-joined w.in_use w.free_symbol (Binds Parameter) a (t before c) used

  used-body : NamedIn w.in_use w.free_symbol (role_at reads FunctionBody l (body_fields ds list)) (body_fields ds list)
  used-body = body-used.1

  used-list : NamedAll w.in_use w.free_symbol Top es × NamedAll w.in_use w.free_symbol Top ts
  used-list = named-joined w.in_use w.free_symbol Top es ts used-body.1.0

  left : Stays w x p t u
  left = stays w x lp pf t u holds may.own_default may.form used-ps.1.0

  abbrev rest : List Bound
  rest = declared_among false (Binds Parameter) a ++ declared_among false (Binds Parameter) c

  from-parts : (ns : List Bound) (z : Tree) → Inserted ns [] (declared false (Binds Parameter) z) → Inserted ns rest (names z)
  from-parts ns z h = subst (λ (bs : List Bound). Inserted ns rest bs) (sym (nil-right (declared_among false (Binds Parameter) (params z))))
      (subst (λ (bs : List Bound). Inserted ns rest bs) (sym (declared-joined false (Binds Parameter) a (z before c))) (inserted-right (declared_among false (Binds Parameter) a) ns (declared_among false (Binds Parameter) c) (declared false (Binds Parameter) z ++ declared_among false (Binds Parameter) c) (inserted-left (declared_among false (Binds Parameter) c) ns [] (declared false (Binds Parameter) z) h)))

  moving : Inserted moved rest (names t)
  moving = from-parts moved t left.moving

  coming : Inserted (it ∷ []) rest (names u)
  coming = from-parts (it ∷ []) u left.coming

  the-names : ((declared false (Binds Let) p ++ []) ++ []) ++ [] ≡ moved
  the-names = nil-right ((declared false (Binds Let) p ++ []) ++ []) ∙ nil-right (declared false (Binds Let) p ++ []) ∙ nil-right (declared false (Binds Let) p) ∙ sym (declared-alike false parameter-let p)

  no-vars : ((declared true (Binds Let) p ++ []) ++ []) ++ [] ≡ []
  no-vars = nil-right ((declared true (Binds Let) p ++ []) ++ []) ∙ nil-right (declared true (Binds Let) p ++ []) ∙ nil-right (declared true (Binds Let) p) ∙ sym (declared-alike true parameter-let p) ∙ may.form

  list-inserted : Inserted moved (declared_among false Top list) (declared_among false Top list_after)
  list-inserted =
      subst (λ (bs : List Bound). Inserted moved bs (declared_among false Top list_after)) (sym (declared-joined false Top es ts))
      (subst (λ (bs : List Bound). Inserted moved (declared_among false Top es ++ declared_among false Top ts) bs) (sym (declared-joined false Top es (let_statement p it before ts) ∙ (λ i. declared_among false Top es ++ (the-names i ++ declared_among false Top ts))))
      (inserted-right (declared_among false Top es) moved (declared_among false Top ts) (moved ++ declared_among false Top ts) (inserted-before moved (declared_among false Top ts))))

  abbrev lexical : List Bound
  lexical = lexical_names ds list

  abbrev lexical_after : List Bound
  lexical_after = lexical_names ds list_after

  abbrev vars : List Bound
  vars = var_names ds list

  written : Inserted moved lexical lexical_after
  written = inserted-right (declared_among false reads ds) moved (declared_among false Top list ++ []) (declared_among false Top list_after ++ []) (inserted-left [] moved (declared_among false Top list) (declared_among false Top list_after) list-inserted)

  vars-same : var_names ds list_after ≡ vars
  vars-same = λ i. declared_among true reads ds ++ ((declared-joined true Top es (let_statement p it before ts) ∙ (λ j. declared_among true Top es ++ (no-vars j ++ declared_among true Top ts)) ∙ sym (declared-joined true Top es ts)) i ++ [])

  old : (y : Text) → w.in_use y ≡ true → sought (it ∷ []) y ≡ None
  old y k = not-sought w x free y k

  -- the parameters that a body has
  same-params : (y : Text) → w.in_use y ≡ true → sought moved y ≡ None → bound_by (names u) y ≡ bound_by (names t) y
  same-params y k d = ap (λ z. is_some z) (coming.none y (old y k) ∙ sym (moving.none y d))

  rest-lacks : sought rest x ≡ None
  rest-lacks = none-append (declared_among false (Binds Parameter) a) (declared_among false (Binds Parameter) c) x (declared-free-all w.in_use w.free_symbol x free false (Binds Parameter) a used-ps.0) (declared-free-all w.in_use w.free_symbol x free false (Binds Parameter) c used-ps.1.1)

  moved-lacks : sought moved x ≡ None
  moved-lacks = declared-free w.in_use w.free_symbol x free false (Binds Parameter) p left.pattern_named

  lexical-lacks : sought lexical x ≡ None
  lexical-lacks = declared-free-in w.in_use w.free_symbol x free false (λ i. true) (role_at reads FunctionBody l (body_fields ds list)) (body_fields ds list) used-body

  vars-lack : sought vars x ≡ None
  vars-lack = declared-free-in w.in_use w.free_symbol x free true (λ i. true) (role_at reads FunctionBody l (body_fields ds list)) (body_fields ds list) used-body

  -- WHAT NAMES FIND, where f and h are what they find around the function before, and g and k after
  module _ (f g h k : Text → Option ℕ) (alike : (y : Text) → w.in_use y ≡ true → g y ≡ f y) (alike-hoist : (y : Text) → w.in_use y ≡ true → k y ≡ h y) where
    params-agree : (y : Text) → w.in_use y ≡ true → sought moved y ≡ None → (at u g k).scope y ≡ (at t f h).scope y
    params-agree y e d = outer-same x moved rest (names t) (names u) lexical lexical_after vars it moving coming written may.others.names may.lexical.names f g y (old y e) (alike y e) d

    abbrev after_scope : Text → Option ℕ
    after_scope y = or_around (sought lexical_after y) (if bound_by (names u) y then or_around (sought (names u) y) (g y) else or_around (sought vars y) (or_around (sought (names u) y) (g y)))

    after-is : (inside u list_after g k).scope ≡ after_scope
    after-is = λ i y. or_around (sought lexical_after y) (if bound_by (names u) y then or_around (sought (names u) y) (g y) else or_around (sought (vars-same i) y) (or_around (sought (names u) y) (g y)))

    body-agrees : (y : Text) → w.in_use y ≡ true → (inside u list_after g k).scope y ≡ (inside t list f h).scope y
    body-agrees y e = (λ i. after-is i y) ∙ inner-same x moved rest (names t) (names u) lexical lexical_after vars it moving coming written may.others.names may.lexical.names f g y (old y e) (alike y e)

    hoist-is : (inside u list_after g k).hoist ≡ (λ y. if bound_by (names u) y then or_around (sought (names u) y) (g y) else after_scope y)
    hoist-is = λ i y. if bound_by (names u) y then or_around (sought (names u) y) (g y) else after-is i y

    hoist-agrees : (y : Text) → w.in_use y ≡ true → (inside u list_after g k).hoist y ≡ (inside t list f h).hoist y
    hoist-agrees y e = (λ i. hoist-is i y) ∙ hoist-same x moved rest (names t) (names u) lexical lexical_after vars it moving coming written may.others.names may.lexical.names f g y (old y e) (alike y e)

    pattern-agrees : (y : Text) → avoiding (lexical ++ vars) w.in_use y ≡ true → (inside u list_after g k).scope y ≡ (at t f h).scope y
    pattern-agrees y e =
        let z = avoids (lexical ++ vars) w.in_use y e in
        let d = sym (sought-append lexical vars y) ∙ z.1 in
        (λ i. after-is i y) ∙ moved-same x moved rest (names t) (names u) lexical lexical_after vars it moving coming written may.others.names may.lexical.names f g y (old y z.0) (alike y z.0) (neither-first (sought lexical y) (sought vars y) d) (neither-second (sought lexical y) (sought vars y) d)

    new-outside : (at u g k).scope x ≡ Some w.free_symbol
    new-outside = new-outer x moved rest (names t) (names u) lexical lexical_after vars it moving coming written may.others.names may.lexical.names g g (Some w.free_symbol) (it-found w x free) rest-lacks

    new-inside : (inside u list_after g k).scope x ≡ Some w.free_symbol
    new-inside = (λ i. after-is i x) ∙ new-inner x moved rest (names t) (names u) lexical lexical_after vars it moving coming written may.others.names may.lexical.names g g (Some w.free_symbol) (it-found w x free) rest-lacks moved-lacks lexical-lacks

    resolved-params : ResolvedAll (Binds Parameter) (at t f h) (params t) → ResolvedAll (Binds Parameter) (at u g k) (params u)
    resolved-params d =
        let parts = resolved-parts (Binds Parameter) (at t f h) a (t before c) d in
        let agree = λ (y : Text) (e : avoiding moved w.in_use y ≡ true). let z = avoids moved w.in_use y e in params-agree y z.0 z.1 in
        let hoist = λ (y : Text) (e : avoiding moved w.in_use y ≡ true). alike-hoist y (wider-use moved w.in_use y e) in
        let same = λ (y : Text) (e : avoiding moved w.in_use y ≡ true). let z = avoids moved w.in_use y e in same-params y z.0 z.1 in
        resolved-joined (Binds Parameter) (at u g k) a (u before c)
        (stand-all (avoiding moved w.in_use) w.free_symbol (Binds Parameter) (at t f h) (at u g k) agree hoist same a may.earlier parts.0)
        (left.resolved (at t f h) (at u g k) params-agree alike-hoist new-outside parts.1.0, stand-all (avoiding moved w.in_use) w.free_symbol (Binds Parameter) (at t f h) (at u g k) agree hoist same c may.later parts.1.1)

    the-pattern : Resolved (Binds Parameter) (at t f h) t → Resolved (Binds Let) (body_place (inside u list_after g k)) p
    the-pattern d =
        let z = left.pattern (at t f h) d in
        let there = stand (avoiding (lexical ++ vars) w.in_use) w.free_symbol (Binds Parameter) (body_place (at t f h)) (record (body_place (inside u list_after g k)) { hoist = h }) pattern-agrees (λ y e. refl) (λ y e. refl) p may.body z in
        resolved-alike parameter-let (body_place (inside u list_after g k)) p (no-hoist (inside u list_after g k).hoist (Binds Parameter) (record (body_place (inside u list_after g k)) { hoist = h }) p may.form there)

    resolved-body : ResolvedAll (Binds Parameter) (at t f h) (params t) → Resolved reads (at t f h) (node FunctionBody l (body_fields ds list)) → Resolved reads (at u g k) (node FunctionBody l (body_fields ds list_after))
    resolved-body e d =
        let parts = resolved-parts Top (inside t list f h) es ts d.2.1.0 in
        let from = resolved-parts (Binds Parameter) (at t f h) a (t before c) e in (
          tt,
          refl,
          (
            stand-all w.in_use w.free_symbol reads (inside t list f h) (inside u list_after g k) body-agrees hoist-agrees (λ y e. refl) ds used-body.0 d.2.0,
            (
              resolved-joined Top (inside u list_after g k) es (let_statement p it before ts)
                  (stand-all w.in_use w.free_symbol Top (inside t list f h) (inside u list_after g k) body-agrees hoist-agrees (λ y e. refl) es used-list.0 parts.0)
                  ((tt, refl, (((tt, refl, (the-pattern from.1.0, ((sym new-inside, refl, tt), tt))), tt), tt)), stand-all w.in_use w.free_symbol Top (inside t list f h) (inside u list_after g k) body-agrees hoist-agrees (λ y e. refl) ts used-list.1 parts.1),
              tt,
            ),
          ),
        )

  -- HOW MANY SCOPES bind a symbol

  others-same : (s : ℕ) (zs : Trees) → NamedAll (avoiding moved w.in_use) w.free_symbol (Binds Parameter) zs → scopes_among s (bound_by (names u)) (Binds Parameter) zs ≡ scopes_among s (bound_by (names t)) (Binds Parameter) zs
  others-same s zs h = alike-scopes-all (avoiding moved w.in_use) w.free_symbol s (bound_by (names t)) (bound_by (names u)) (λ y k. let z = avoids moved w.in_use y k in same-params y z.0 z.1) (Binds Parameter) zs h

  scopes-let : (s : ℕ) → scopes_with s no_name Top (let_statement p it) ≡ scopes_with s no_name (Binds Parameter) p
  scopes-let s = let e = scopes-alike s no_name parameter-let p in omega arith

  abbrev vars_count : ℕ → Tree → Bool
  vars_count s z = list_any (is_var_of s (bound_by (names z))) vars

  own-body : (s : ℕ) → one_if (own_binds s (bound_by (names u)) FunctionBody l (role_at reads FunctionBody l (body_fields ds list_after)) (body_fields ds list_after)) ≡ one_if (binds s lexical_after || vars_count s u)
  own-body s = λ i. one_if (binds s lexical_after || list_any (is_var_of s (bound_by (names u))) (vars-same i))

  old-counts : (s : ℕ) → s < w.free_symbol → one_if (binds s (names u)) + one_if (binds s lexical_after || vars_count s u) ≡ one_if (binds s (names t)) + one_if (binds s lexical || vars_count s t)
  old-counts s e = count x moved rest (names t) (names u) lexical lexical_after vars it moving coming written may.others.names may.lexical.names (λ y. None) (λ y. None) s (old-symbol w x free s e) (may.others.symbols s) (may.lexical.symbols s) (may.vars.symbols s)
      (λ d. vars-stay x s moved (names t) (names u) vars may.vars.names (λ b g k. ap (λ z. is_some z) (coming.none b.name (mirrored b.name x b.symbol (Some w.free_symbol) k) ∙ sym (moving.none b.name (not-some (sought moved b.name) g)))) vars-lack)

  old-scopes : (s : ℕ) → s < w.free_symbol → scopes_of s (params u) (node FunctionBody l (body_fields ds list_after)) ≡ scopes_of s (params t) (node FunctionBody l (body_fields ds list))
  old-scopes s e =
      let b1 = scopes-joined s (bound_by (names u)) (Binds Parameter) a (u before c) in
      let b2 = scopes-joined s (bound_by (names t)) (Binds Parameter) a (t before c) in
      let c1 = others-same s a may.earlier in
      let c2 = others-same s c may.later in
      let d1 = left.scopes s (bound_by (names t)) (bound_by (names u)) in
      let e1 = scopes-joined s no_name Top es (let_statement p it before ts) in
      let e2 = scopes-joined s no_name Top es ts in
      let f1 = scopes-let s in
      let g1 = own-body s in
      let h1 = old-counts s e in
      omega arith

  new-scopes : (s : ℕ) → w.free_symbol ≤ s → scopes_of s (params u) (node FunctionBody l (body_fields ds list_after)) ≤ 1
  new-scopes s e =
      let b1 = scopes-joined s (bound_by (names u)) (Binds Parameter) a (u before c) in
      let c1 = no-scopes-all w.in_use w.free_symbol s e (bound_by (names u)) (Binds Parameter) a used-ps.0 in
      let c2 = no-scopes-all w.in_use w.free_symbol s e (bound_by (names u)) (Binds Parameter) c used-ps.1.1 in
      let c3 = no-scopes w.in_use w.free_symbol s e (bound_by (names u)) (Binds Parameter) t used-ps.1.0 in
      let c4 = no-scopes w.in_use w.free_symbol s e no_name (Binds Parameter) p left.pattern_named in
      let d1 = left.scopes s (bound_by (names u)) (bound_by (names u)) in
      let e1 = scopes-joined s no_name Top es (let_statement p it before ts) in
      let e2 = no-scopes-all w.in_use w.free_symbol s e no_name Top es used-list.0 in
      let e3 = no-scopes-all w.in_use w.free_symbol s e no_name Top ts used-list.1 in
      let e4 = no-scopes-all w.in_use w.free_symbol s e no_name reads ds used-body.0 in
      let f1 = scopes-let s in
      let g1 = own-body s in
      let h1 : one_if (binds s lexical_after || vars_count s u) ≡ 0 = ap one_if (neither (binds s lexical_after) (vars_count s u) (written.any (is_it s) ∙ neither (binds s moved) (binds s lexical) (any-declared w.in_use w.free_symbol (is_it s) (it-out w.in_use w.free_symbol s e) false (Binds Parameter) p left.pattern_named) (any-in w.in_use w.free_symbol (is_it s) (it-out w.in_use w.free_symbol s e) false (λ i. true) (role_at reads FunctionBody l (body_fields ds list)) (body_fields ds list) used-body)) (any-in w.in_use w.free_symbol (is_var_of s (bound_by (names u))) (var-out w.in_use w.free_symbol s e (bound_by (names u))) true (λ i. true) (role_at reads FunctionBody l (body_fields ds list)) (body_fields ds list) used-body)) in
      let k1 = at-most-one (binds s (names u)) in
      omega arith

  abbrev k : Known
  k = knowing w x free

  pub moved-inside : KeptInside (knowing w x free) (params t) (params u) (node FunctionBody l (body_fields ds list)) (node FunctionBody l (body_fields ds list_after))
  moved-inside = record {
    vars = declared-joined true (Binds Parameter) a (u before c) ∙ (λ i. declared_among true (Binds Parameter) a ++ (left.vars i ++ declared_among true (Binds Parameter) c)) ∙ sym (declared-joined true (Binds Parameter) a (t before c));
    named = join-named k.in_use_after (w.free_symbol + 1) (Binds Parameter) a (u before c) (more-all (Binds Parameter) a used-ps.0) (left.named k.in_use_after k.more (it-used w x free), more-all (Binds Parameter) c used-ps.1.1);
    body_named = (own-more w.in_use k.in_use_after k.more w.free_symbol (w.free_symbol + 1) k.freer reads FunctionBody l body-used.0, (more-all reads ds used-body.0, (join-named k.in_use_after (w.free_symbol + 1) Top es (let_statement p it before ts) (more-all Top es used-list.0) (((tt, tt), ((((tt, tt), (pattern-named, (((it-used w x free, lower w.free_symbol), tt), tt))), tt), tt)), more-all Top ts used-list.1), tt)));
    scopes = old-scopes;
    new_scopes = new-scopes;
    resolved = resolved-params;
    body_resolved = resolved-body;
  }
    where
      more-all : (r : Role) (zs : Trees) → NamedAll w.in_use w.free_symbol r zs → NamedAll k.in_use_after (w.free_symbol + 1) r zs
      more-all r zs h = named-more-all w.in_use k.in_use_after k.more w.free_symbol (w.free_symbol + 1) k.freer r zs h

      pattern-named : Named k.in_use_after (w.free_symbol + 1) (Binds Let) p
      pattern-named = named-alike k.in_use_after (w.free_symbol + 1) parameter-let p (named-more w.in_use k.in_use_after k.more w.free_symbol (w.free_symbol + 1) k.freer (Binds Parameter) p left.pattern_named)

-- THE KINDS

-- what a step keeps of the parameters and the body, the function keeps
module _ (n : Site) (k : Known) (m l : Label) (ps qs ds ts us : Trees) (kept : KeptInside k ps qs (node FunctionBody l (body_fields ds ts)) (node FunctionBody l (body_fields ds us))) where
  abbrev rest_of : Trees → Trees → Fields
  rest_of zs ss = many zs then one (node FunctionBody l (body_fields ds ss)) then done

  own-counts : (s : ℕ) → (one_if (binds s (bound_in ps) || false) ≡ one_if (binds s (bound_in ps))) × (one_if (binds s (bound_in qs) || false) ≡ one_if (binds s (bound_in qs)))
  own-counts s = (or-none s (bound_in ps), or-none s (bound_in qs))

  pub kept-arrow : Named k.in_use k.free n.role (node ArrowFunctionExpression m (rest_of ps ts)) → Kept k n.names sealed n.role (node ArrowFunctionExpression m (rest_of ps ts)) (node ArrowFunctionExpression m (rest_of qs us))
  kept-arrow used = record {
    kind = refl;
    top = λ e. (λ f. absurd (cc f), λ f. absurd (cc f));
    own = refl;
    lexical = refl;
    hoisted = λ i. kept.vars i ++ [];
    named = (own-more k.in_use k.in_use_after k.more k.free k.free_after k.freer n.role ArrowFunctionExpression m used.0, (kept.named, (kept.body_named, tt)));
    scopes = λ s P e. let a = own-counts s in let c = kept.scopes s e in omega arith;
    new_scopes = λ s P e. at-most-sealed k s (scopes_with s P n.role (node ArrowFunctionExpression m (rest_of qs us))) (let a = own-counts s in let c = kept.new_scopes s e in omega arith);
    resolved = λ o q g P v h d. (tt, refl, (kept.resolved o.scope q.scope o.hoist q.hoist g.scope g.hoist d.2.0, (kept.body_resolved o.scope q.scope o.hoist q.hoist g.scope g.hoist d.2.0 d.2.1.0, tt)));
  }

  module _ (f : Field) (name : IsFunctionName f) where
    abbrev fields : Trees → Trees → Fields
    fields zs ss = f then rest_of zs ss

    abbrev at_name : Place → AstType → Trees → Trees → Place
    at_name o K zs ss = place_in o K m (role_at n.role K m (fields zs ss)) (fields zs ss) 0

    name-more : (r : Role) → NamedBy k.in_use k.free r f → NamedBy k.in_use_after k.free_after r f
    name-more r h = named-more-by k.in_use k.in_use_after k.more k.free k.free_after k.freer r f h

    name-agrees : (r : Role) (o q : Place) → AgreeOn k o.scope q.scope → AgreeOn k o.hoist q.hoist → NamedBy k.in_use k.free r f → ResolvedBy r o f → ResolvedBy r q f
    name-agrees r o q a b h d = name-resolved f name k r o q (record { scope = a; hoist = b }) h d

    name-counts : (r : Role) (s : ℕ) → (scopes_by s (bound_by (bound_in ps)) r f ≡ 0) × (scopes_by s (bound_by (bound_in qs)) r f ≡ 0)
    name-counts r s = (name-scopes f name s (bound_by (bound_in ps)) r, name-scopes f name s (bound_by (bound_in qs)) r)

    pub kept-declaration : Named k.in_use k.free n.role (node FunctionDeclaration m (fields ps ts)) → Kept k n.names sealed n.role (node FunctionDeclaration m (fields ps ts)) (node FunctionDeclaration m (fields qs us))
    kept-declaration used =
        let r = Binds (function_binding n.role) in
        record {
          kind = refl;
          top = λ e. (λ f. absurd (cc f), λ f. absurd (cc f));
          own = refl;
          lexical = refl;
          hoisted = λ i. declared_by true r f ++ (kept.vars i ++ []);
          named = (own-more k.in_use k.in_use_after k.more k.free k.free_after k.freer n.role FunctionDeclaration m used.0, (name-more r used.1.0, (kept.named, (kept.body_named, tt))));
          scopes = λ s P e. let a = own-counts s in let b = name-counts r s in let c = kept.scopes s e in omega arith;
          new_scopes = λ s P e. at-most-sealed k s (scopes_with s P n.role (node FunctionDeclaration m (fields qs us))) (let a = own-counts s in let b = name-counts r s in let c = kept.new_scopes s e in omega arith);
          resolved = λ o q g P v h d. (tt, refl, (name-agrees r (at_name o FunctionDeclaration ps ts) (at_name q FunctionDeclaration qs us) g.scope g.hoist used.1.0 d.2.0, (kept.resolved o.scope q.scope o.hoist q.hoist g.scope g.hoist d.2.1.0, (kept.body_resolved o.scope q.scope o.hoist q.hoist g.scope g.hoist d.2.1.0 d.2.1.1.0, tt))));
        }

    -- the name of a function expression has a scope of its own
    name-around : (g h : Text → Option ℕ) → AgreeOn k g h → AgreeOn k (within (own_by (Binds FunctionName) f) g) (within (own_by (Binds FunctionName) f) h)
    name-around g h a = λ y e i. or_around (sought (own_by (Binds FunctionName) f) y) (a y e i)

    pub kept-expression : Named k.in_use k.free n.role (node FunctionExpression m (fields ps ts)) → Kept k n.names sealed n.role (node FunctionExpression m (fields ps ts)) (node FunctionExpression m (fields qs us))
    kept-expression used =
        let r = Binds FunctionName in
        record {
          kind = refl;
          top = λ e. (λ f. absurd (cc f), λ f. absurd (cc f));
          own = refl;
          lexical = refl;
          hoisted = λ i. declared_by true r f ++ (kept.vars i ++ []);
          named = (own-more k.in_use k.in_use_after k.more k.free k.free_after k.freer n.role FunctionExpression m used.0, (name-more r used.1.0, (kept.named, (kept.body_named, tt))));
          scopes = λ s P e. let a = own-counts s in let b = name-counts r s in let c = kept.scopes s e in omega arith;
          new_scopes = λ s P e. at-most-sealed k s (scopes_with s P n.role (node FunctionExpression m (fields qs us))) (let a = own-counts s in let b = name-counts r s in let c = kept.new_scopes s e in let z = ap one_if (name-any k.in_use k.free (is_it s) (it-out k.in_use k.free s e) FunctionExpression (role_at n.role FunctionExpression m (fields ps ts)) (fields ps ts) used.1) in omega arith);
          resolved = λ o q g P v h d.
              let a = name-around o.scope q.scope g.scope in
              let og = within (own_by r f) o.scope in
              let qg = within (own_by r f) q.scope in
              (tt, refl, (name-agrees r (at_name o FunctionExpression ps ts) (at_name q FunctionExpression qs us) a g.hoist used.1.0 d.2.0, (kept.resolved og qg o.hoist q.hoist a g.hoist d.2.1.0, (kept.body_resolved og qg o.hoist q.hoist a g.hoist d.2.1.0 d.2.1.1.0, tt))));
        }
