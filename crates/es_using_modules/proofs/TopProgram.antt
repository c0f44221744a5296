-- The program whose list becomes exports, functions and a `try`: each name has the symbol that looking it up finds, and each symbol one scope.
use Rattle.std.proofs.Common.{arith, ◌≤◌, ◌<◌, inl, inr, ◌+◌, ◌≡◌, ℕ, refl, sym, ap, subst, ◌∙◌, List, [], ◌∷◌, ◌++◌, append_assoc}
use Rattle.std.specs.Prelude.{◌⊎◌, Bool, true, false, not, ◌||◌, ◌&&◌, Option, Some, None, bytes_eq, codes, is_some, if◌then◌else◌}
use Rattle.std.specs.List.{list_all, list_any}
use Rattle.std.proofs.lemmas.Bool.{cases_lt}
use Rattle.std.proofs.lemmas.List.Folds.{list_all-append}
use Rattle.es_tree.specs.HasForm.{trees_form}
use Rattle.es_tree.specs.Tree.{Tree, node, Label, done, ◌then◌, many, statements, Trees, empty, ◌before◌}
use Rattle.es_tree.specs.Words.{Text}
use Rattle.es_tree.specs.declared.ast_type.AstType.TheVariants.{Program}
use Rattle.es_tree.specs.declared.table.Sort.TheVariants.{Statement as s-Statement}
use Rattle.es_semantic.specs.Places.{is_inside}
use Rattle.es_semantic.specs.RolesOf.{reads, role_at}
use Rattle.es_semantic.specs.declared.place.Role.{Role}
use Rattle.es_semantic.specs.declared.place.Role.TheVariants.{Top}
use Rattle.es_resolution.specs.Declarations.{Bound, declared, declared_among, sought}
use Rattle.es_resolution.specs.Named.{Named, NamedAll}
use Rattle.es_resolution.specs.Resolved.{IsResolved, Place, Resolved, ResolvedAll, no_name, nowhere, or_around, place_in}
use Rattle.es_resolution.specs.Single.{IsSingle, binds, is_it, is_var_of, one_if, scopes_among, scopes_with}
use Rattle.es_resolution.proofs.AllForms.{All}
use Rattle.es_resolution.proofs.MoreNames.{named-more-all, own-more}
use Rattle.es_resolution.proofs.Placed.{PlacedIn}
use Rattle.es_steps.specs.Identifiers.{Passes}
use Rattle.es_steps.specs.Laws.{IsWellBound}
use Rattle.es_steps.specs.Nodes.{call_node, declaration_node, declarator_with, identifier, joined_trees, member_node, word}
use Rattle.es_steps.specs.Patterns.{avoiding, no_name_of}
use Rattle.es_steps.specs.Rules.{next_name}
use Rattle.es_steps.specs.Steps.{Whole}
use Rattle.es_steps.specs.UsingBlocks.{error_name, error_of, protected, with_context}
use Rattle.es_steps.proofs.Apartness.{declared-avoids-all}
use Rattle.es_steps.proofs.Passing.{passes-joined}
use Rattle.es_steps.proofs.RulesWrite.{protected-pass}
use Rattle.es_steps.proofs.Scopes.{any-all, it-out, no-scopes-all}
use Rattle.es_steps.proofs.Stays.{stand-all}
use Rattle.es_steps.proofs.Taken.{Allows, at-least}
use Rattle.es_steps.proofs.Written.{nil-right}
use Rattle.es_pattern_moves.proofs.Settled.{Sound}
use Rattle.es_using_modules.specs.ModuleTops.{some_default}
use Rattle.es_using_modules.proofs.TopFound.{Finds, fields-find, look_up, new-found, old-found}
use Rattle.es_using_modules.proofs.TopInside.{Fits, Setting}
use Rattle.es_using_modules.proofs.TopMade.{Makes, new_names}
use Rattle.es_using_modules.proofs.TopMoves.{Moves}
use Rattle.es_using_modules.proofs.TopLists.{HasAll, Lists, lists}
use Rattle.es_using_modules.proofs.TopShifts.{both-append, flat, in_both}
use Rattle.es_using_modules.proofs.TopValues.{any-nil}

-- LISTS, one after the other

joined-declared : (v : Bool) (r : Role) (xs ys : Trees) → declared_among v r (joined_trees xs ys) ≡ declared_among v r xs ++ declared_among v r ys
joined-declared v r empty ys = refl
joined-declared v r (x before xs) ys = ap (λ bs. declared v r x ++ bs) (joined-declared v r xs ys) ∙ sym (append_assoc (declared v r x) (declared_among v r xs) (declared_among v r ys))

joined-scopes : (s : ℕ) (r : Role) (xs ys : Trees) → scopes_among s no_name r (joined_trees xs ys) ≡ scopes_among s no_name r xs + scopes_among s no_name r ys
joined-scopes s r empty ys = omega arith
joined-scopes s r (x before xs) ys = let h = joined-scopes s r xs ys in omega arith

joined-named : (u : Text → Bool) (f : ℕ) (r : Role) (xs ys : Trees) → NamedAll u f r xs → NamedAll u f r ys → NamedAll u f r (joined_trees xs ys)
joined-named u f r empty ys h k = k
joined-named u f r (x before xs) ys h k = (h.0, joined-named u f r xs ys h.1 k)

joined-resolved : (r : Role) (p : Place) (xs ys : Trees) → ResolvedAll r p xs → ResolvedAll r p ys → ResolvedAll r p (joined_trees xs ys)
joined-resolved r p empty ys h k = k
joined-resolved r p (x before xs) ys h k = (h.0, joined-resolved r p xs ys h.1 k)

-- a `var` outside of functions is one
any-var : (s : ℕ) (bs : List Bound) → list_any (is_var_of s no_name) bs ≡ list_any (is_it s) bs
any-var s [] = refl
any-var s (b ∷ bs) = λ i. and-true (is_it s b) i || any-var s bs i
  where
    and-true : (a : Bool) → (a && true) ≡ a
    and-true true = refl
    and-true false = refl

-- what a program declares, where its directives and its list declare these
abbrev frame_with : List Bound → List Bound → List Bound
frame_with bs cs = bs ++ (cs ++ [])

frame-both : (q : Bound → Bool) (bs bs' cs cs' : List Bound) → in_both q (frame_with bs cs) (frame_with bs' cs') ≡ (in_both q bs bs' || in_both q cs cs')
frame-both q bs bs' cs cs' = both-append q bs (cs ++ []) bs' (cs' ++ []) ∙ (λ i. in_both q bs bs' || (any-nil q cs i || any-nil q cs' i))

or-right : (a b : Bool) → b ≡ true → (a || b) ≡ true
or-right true b e = refl
or-right false b e = e

-- the new names are beside the others
mixed : (a o c u x t : Bool) → (o || u) ≡ (x || t) → (a || (o || (c || u))) ≡ ((x || (c || false)) || (a || t))
mixed true o c u x t e = sym (or-right (x || (c || false)) true refl)
mixed false o true u x t e = or-right o true refl ∙ sym (λ i. or-right x true refl i || t)
mixed false o false u x t e = e ∙ (λ i. sym (or-false x) i || t)
  where
    or-false : (b : Bool) → (b || false) ≡ b
    or-false true = refl
    or-false false = refl

thrice : (bs : List Bound) → ((bs ++ []) ++ []) ++ [] ≡ bs
thrice bs = simp nil-right

twice : (bs : List Bound) → (bs ++ []) ++ [] ≡ bs
twice bs = simp nil-right

module _ (w v : Whole) (d : Bound) (x : Text) (l : Label) (ds ts os us : Trees) (makes : Makes w v (some_default ts) d x) (moves : Moves d (next_name v x) (error_of v) ts os us) where
  abbrev c : Bound
  c = next_name v x

  abbrev e : Bound
  e = error_of v

  abbrev pub after : Whole
  after = with_context x v

  abbrev ns : List Bound
  ns = new_names (some_default ts) d c

  -- `var x = babelHelpers.usingCtx();`
  abbrev context_node : Bound → Tree
  context_node c = declaration_node (codes "var") (declarator_with (identifier c) (call_node (member_node (word (codes "babelHelpers")) (codes "usingCtx")) []) ∷ [])

  abbrev pub program_of : Trees → Tree
  program_of zs = node Program l (many ds then (statements zs then done))

  abbrev pub new_list : Trees
  new_list = joined_trees os (protected c e us before empty)

  abbrev lex : Trees → List Bound
  lex zs = frame_with (declared_among false reads ds) (declared_among false Top zs)

  abbrev var : Trees → List Bound
  var zs = frame_with (declared_among true reads ds) (declared_among true Top zs)

  abbrev S : Text → Option ℕ
  S = look_up (lex ts) (var ts)

  -- what a name finds that may be a new one
  abbrev now : Text → Option ℕ
  now y = or_around (sought ns y) (S y)

  abbrev setting : Setting
  setting = record {
    u = w.in_use;
    u' = after.in_use;
    f = w.free_symbol;
    f' = after.free_symbol;
    wider = makes.wider;
    freer = makes.freer;
    S = S;
    S' = now;
    agree = λ y u i. or_around (makes.fresh y u i) (S y);
    default = d;
    context = c;
    default_known = record { used = makes.default_used; below = makes.default_below; found = λ i. or_around (makes.default_found i) (S d.name); some = makes.default_some };
    context_known = record { used = makes.context_used; below = lower v.free_symbol; found = λ i. or_around (makes.context_found i) (S x); some = refl };
  }
    where
      lower : (m : ℕ) → m < m + 2
      lower m = omega arith

  module _ (form : trees_form s-Statement s-Statement ts ≡ true) (sound : All Sound (program_of ts)) (placed : PlacedIn Program (many ds then (statements ts then done))) (bound : IsWellBound w (program_of ts)) where
    has : HasAll setting ts
    has = record { form = form; sound = sound.1.1.0; placed = placed.1.0; named = bound.named.1.1.0; resolved = bound.resolved.2.1.0 }

    the_lists : Lists setting ts os us
    the_lists = lists setting e ts os us moves has

    -- WHAT IS DECLARED: the same and the new names

    try-both : (q : Bound → Bool) → in_both q (declared_among false Top (protected c e us before empty)) (declared_among true Top (protected c e us before empty)) ≡ (q c || in_both q (declared_among false reads us) (declared_among true reads us))
    try-both q = (λ i. q c || list_any q (thrice (declared_among true reads us) i)) ∙ (λ i. q c || (list_any q (sym the_lists.silent i) || list_any q (declared_among true reads us)))

    list-both : (q : Bound → Bool) → in_both q (declared_among false Top new_list) (declared_among true Top new_list) ≡ (in_both q (declared_among false Top os) (declared_among true Top os) || (q c || in_both q (declared_among false reads us) (declared_among true reads us)))
    list-both q =
        (λ i. list_any q (joined-declared false Top os (protected c e us before empty) i) || list_any q (joined-declared true Top os (protected c e us before empty) i))
        ∙ both-append q (declared_among false Top os) (declared_among false Top (protected c e us before empty)) (declared_among true Top os) (declared_among true Top (protected c e us before empty))
        ∙ (λ i. in_both q (declared_among false Top os) (declared_among true Top os) || try-both q i)

    news-any : (q : Bound → Bool) (b : Bool) → ((if b then q d else false) || (q c || false)) ≡ list_any q (new_names b d c)
    news-any q true = refl
    news-any q false = refl

    declares-more : (q : Bound → Bool) → in_both q (lex new_list) (var new_list) ≡ (list_any q ns || in_both q (lex ts) (var ts))
    declares-more q =
        frame-both q (declared_among false reads ds) (declared_among true reads ds) (declared_among false Top new_list) (declared_among true Top new_list)
        ∙ (λ i. in_both q (declared_among false reads ds) (declared_among true reads ds) || list-both q i)
        ∙ mixed (in_both q (declared_among false reads ds) (declared_among true reads ds)) (in_both q (declared_among false Top os) (declared_among true Top os)) (q c) (in_both q (declared_among false reads us) (declared_among true reads us)) (if some_default ts then q d else false) (in_both q (declared_among false Top ts) (declared_among true Top ts)) (the_lists.both q)
        ∙ (λ i. news-any q (some_default ts) i || sym (frame-both q (declared_among false reads ds) (declared_among true reads ds) (declared_among false Top ts) (declared_among true Top ts)) i)

    -- WHAT IS FOUND

    lex-finds : Finds S (lex ts)
    lex-finds = fields-find false S Program (is_inside Program) (role_at reads Program l (many ds then (statements ts then done))) (place_in nowhere Program l (role_at reads Program l (many ds then (statements ts then done))) (many ds then (statements ts then done))) (many ds then (statements ts then done)) (λ i f. refl) placed bound.resolved.2

    var-finds : Finds S (var ts)
    var-finds = fields-find true S Program (λ i. true) (role_at reads Program l (many ds then (statements ts then done))) (place_in nowhere Program l (role_at reads Program l (many ds then (statements ts then done))) (many ds then (statements ts then done))) (many ds then (statements ts then done)) (λ i f. refl) placed bound.resolved.2

    avoids : (y : Text) → w.in_use y ≡ true → avoiding ns w.in_use y ≡ true
    avoids y u i = u i && not (is_some (makes.fresh y u i))

    names-avoid : (b : Bool) (r : Role) (zs : Trees) → NamedAll w.in_use w.free_symbol r zs → list_all (no_name_of ns) (declared_among b r zs) ≡ true
    names-avoid b r zs h = declared-avoids-all ns w.in_use w.free_symbol b r zs (named-more-all w.in_use (avoiding ns w.in_use) avoids w.free_symbol w.free_symbol (at-least w.free_symbol) r zs h)

    frame-avoids : (b : Bool) → list_all (no_name_of ns) (frame_with (declared_among b reads ds) (declared_among b Top ts)) ≡ true
    frame-avoids b =
        list_all-append (no_name_of ns) (declared_among b reads ds) (declared_among b Top ts ++ [])
        ∙ (λ i. names-avoid b reads ds bound.named.1.0 i && (ap (λ bs. list_all (no_name_of ns) bs) (nil-right (declared_among b Top ts)) ∙ names-avoid b Top ts bound.named.1.1.0) i)

    found-same : (y : Text) → look_up (lex new_list) (var new_list) y ≡ now y
    found-same y = at (sought ns y) refl
      where
        at : (o : Option (Option ℕ)) → sought ns y ≡ o → look_up (lex new_list) (var new_list) y ≡ now y
        at None f = old-found ns (lex ts) (var ts) (lex new_list) (var new_list) declares-more lex-finds var-finds (frame-avoids false) (frame-avoids true) makes.finds y f ∙ sym (λ i. or_around (f i) (S y))
        at (Some o) f = new-found ns (lex ts) (var ts) (lex new_list) (var new_list) declares-more lex-finds var-finds (frame-avoids false) (frame-avoids true) makes.finds y o f ∙ sym (λ i. or_around (f i) (S y))

    found-all : now ≡ look_up (lex new_list) (var new_list)
    found-all i y = sym (found-same y) i

    -- IT IS RESOLVED, where `babelHelpers` finds nothing

    context-found : now x ≡ Some v.free_symbol
    context-found i = or_around (makes.context_found i) (S x)

    module _ (helpers : S (codes "babelHelpers") ≡ None) (helpers_used : w.in_use (codes "babelHelpers") ≡ true) where
      no-helpers : now (codes "babelHelpers") ≡ None
      no-helpers = (λ i. or_around (makes.fresh (codes "babelHelpers") helpers_used i) (S (codes "babelHelpers"))) ∙ helpers

      -- past the parameter of the `catch`
      past : or_around (if bytes_eq error_name x then Some (Some (v.free_symbol + 1)) else None) (now x) ≡ Some v.free_symbol
      past = (λ i. or_around (if makes.other i then Some (Some (v.free_symbol + 1)) else None) (now x)) ∙ context-found

      try-resolved : Resolved Top (flat now no_name) (protected c e us)
      try-resolved =
          let inside = subst (λ (bs : List Bound). ResolvedAll reads (record { scope = λ y. or_around (sought (bs ++ []) y) (now y); hoist = now; parameters = no_name }) (context_node c before us)) (sym the_lists.silent)
          ((tt, refl, (((tt, refl, (((sym context-found, refl), refl, tt), ((tt, refl, ((tt, refl, ((sym no-helpers, refl, tt), ((tt, refl, tt), tt))), (tt, tt))), tt))), tt), tt)), the_lists.resolved_inside) in (
            tt,
            refl,
            (
              (tt, refl, (inside, tt)),
              (
                (tt, refl, (((refl, refl), refl, tt), ((tt, refl, (((tt, refl, ((tt, refl, ((tt, refl, ((sym past, refl, tt), ((tt, refl, tt), tt))), ((refl, refl, tt), tt))), tt)), tt), tt)), tt))),
                ((tt, refl, (((tt, refl, ((tt, refl, ((tt, refl, ((sym context-found, refl, tt), ((tt, refl, tt), tt))), (tt, tt))), tt)), tt), tt)), tt),
              ),
            ),
          )

      directives-resolved : ResolvedAll reads (flat now no_name) ds
      directives-resolved = stand-all w.in_use w.free_symbol reads (flat S no_name) (flat now no_name) setting.agree setting.agree (λ y u. refl) ds bound.named.1.0 bound.resolved.2.0

      pub is-resolved : IsResolved (program_of new_list)
      is-resolved =
          let list = joined-resolved Top (flat now no_name) os (protected c e us before empty) the_lists.resolved_outside (try-resolved, tt) in
          (tt, refl, (subst (λ (f : Text → Option ℕ). ResolvedAll reads (flat f no_name) ds) found-all directives-resolved, (subst (λ (f : Text → Option ℕ). ResolvedAll Top (flat f no_name) new_list) found-all list, tt)))

      -- ITS NAMES are in use

      try-named : Named after.in_use after.free_symbol Top (protected c e us)
      try-named =
          let ci : ((after.in_use x ≡ true) × (v.free_symbol < v.free_symbol + 2)) × Unit {0} = ((makes.context_used, lower v.free_symbol), tt) in
          let ei : ((after.in_use error_name ≡ true) × (v.free_symbol + 1 < v.free_symbol + 2)) × Unit {0} = ((or-right (v.in_use error_name || bytes_eq x error_name) true refl, upper v.free_symbol), tt) in (
            (tt, tt),
            (
              ((tt, tt), ((((tt, tt), ((((tt, tt), (ci, (((tt, tt), (((tt, tt), (((makes.wider (codes "babelHelpers") helpers_used, tt), tt), (((tt, tt), tt), tt))), (tt, tt))), tt))), tt), tt)), the_lists.named_inside), tt)),
              (
                ((tt, tt), (ei, (((tt, tt), ((((tt, tt), (((tt, tt), (((tt, tt), (ci, (((tt, tt), tt), tt))), (ei, tt))), tt)), tt), tt)), tt))),
                (((tt, tt), ((((tt, tt), (((tt, tt), (((tt, tt), (ci, (((tt, tt), tt), tt))), (tt, tt))), tt)), tt), tt)), tt),
              ),
            ),
          )
        where
          lower : (m : ℕ) → m < m + 2
          lower m = omega arith

          upper : (m : ℕ) → m + 1 < m + 2
          upper m = omega arith

      pub is-named : Named after.in_use after.free_symbol reads (program_of new_list)
      is-named = (
        own-more w.in_use after.in_use makes.wider w.free_symbol after.free_symbol makes.freer reads Program l bound.named.0,
        (named-more-all w.in_use after.in_use makes.wider w.free_symbol after.free_symbol makes.freer reads ds bound.named.1.0, (joined-named after.in_use after.free_symbol Top os (protected c e us before empty) the_lists.named_outside (try-named, tt), tt)),
      )

    -- EACH SYMBOL is bound once

    try-scopes : (s : ℕ) → scopes_with s no_name Top (protected c e us) ≡ one_if (is_it s e) + scopes_among s no_name reads us
    try-scopes s =
        let a : one_if (binds s (declared_among false reads us ++ []) || false) ≡ 0 = λ i. one_if (binds s (the_lists.silent i ++ []) || false) in
        let b : one_if ((is_it s e || false) || false) ≡ one_if (is_it s e) = at (is_it s e) in
        omega arith
      where
        at : (b : Bool) → one_if ((b || false) || false) ≡ one_if b
        at true = refl
        at false = refl

    own-scope : (s : ℕ) (zs : Trees) → (binds s (lex zs) || list_any (is_var_of s no_name) (var zs)) ≡ in_both (is_it s) (lex zs) (var zs)
    own-scope s zs i = binds s (lex zs) || any-var s (var zs) i

    program-scopes : (s : ℕ) (zs : Trees) → scopes_with s no_name reads (program_of zs) ≡ one_if (in_both (is_it s) (lex zs) (var zs)) + (scopes_among s no_name reads ds + scopes_among s no_name Top zs)
    program-scopes s zs = let a : one_if (binds s (lex zs) || list_any (is_var_of s no_name) (var zs)) ≡ one_if (in_both (is_it s) (lex zs) (var zs)) = λ i. one_if (own-scope s zs i) in omega arith

    list-scopes : (s : ℕ) → scopes_among s no_name Top new_list ≡ scopes_among s no_name Top ts + one_if (is_it s e)
    list-scopes s =
        let a = joined-scopes s Top os (protected c e us before empty) in
        let b = try-scopes s in
        let h = the_lists.scopes s in
        omega arith

    old-once : (s : ℕ) → s < w.free_symbol → scopes_with s no_name reads (program_of new_list) ≤ 1
    old-once s f =
        let a = program-scopes s new_list in
        let b = program-scopes s ts in
        let h = list-scopes s in
        let old : one_if (is_it s e) ≡ 0 = λ i. one_if ((makes.old s f).1 i) in
        let same : one_if (in_both (is_it s) (lex new_list) (var new_list)) ≡ one_if (in_both (is_it s) (lex ts) (var ts)) = (λ i. one_if (declares-more (is_it s) i)) ∙ (λ i. one_if ((makes.old s f).0 i || in_both (is_it s) (lex ts) (var ts))) in
        let once = bound.single s in
        omega arith

    none-bound : (s : ℕ) → w.free_symbol ≤ s → in_both (is_it s) (lex ts) (var ts) ≡ false
    none-bound s f =
        frame-both (is_it s) (declared_among false reads ds) (declared_among true reads ds) (declared_among false Top ts) (declared_among true Top ts)
        ∙ (λ i. (none false reads ds bound.named.1.0 i || none true reads ds bound.named.1.0 i) || (none false Top ts bound.named.1.1.0 i || none true Top ts bound.named.1.1.0 i))
      where
        none : (b : Bool) (r : Role) (zs : Trees) → NamedAll w.in_use w.free_symbol r zs → list_any (is_it s) (declared_among b r zs) ≡ false
        none b r zs h = any-all w.in_use w.free_symbol (is_it s) (it-out w.in_use w.free_symbol s f) b r zs h

    new-once : (s : ℕ) → w.free_symbol ≤ s → scopes_with s no_name reads (program_of new_list) ≤ 1
    new-once s f =
        let a = program-scopes s new_list in
        let h = list-scopes s in
        let none = no-scopes-all w.in_use w.free_symbol s f no_name Top ts bound.named.1.1.0 in
        let plain = no-scopes-all w.in_use w.free_symbol s f no_name reads ds bound.named.1.0 in
        let mine : one_if (in_both (is_it s) (lex new_list) (var new_list)) ≡ one_if (list_any (is_it s) ns || false) = (λ i. one_if (declares-more (is_it s) i)) ∙ (λ i. one_if (list_any (is_it s) ns || none-bound s f i)) in
        let few = at (is_it s e) refl in
        omega arith
      where
        one-most : (b : Bool) → one_if b + 0 ≤ 1
        one-most true = omega arith
        one-most false = omega arith

        at : (b : Bool) → is_it s e ≡ b → one_if (list_any (is_it s) ns || false) + one_if (is_it s e) ≤ 1
        at true k = let a : one_if (list_any (is_it s) ns || false) ≡ 0 = (λ i. one_if (makes.apart s k i || false)) in let b : one_if (is_it s e) ≡ 1 = ap one_if k in omega arith
        at false k = let b : one_if (is_it s e) ≡ 0 = ap one_if k in let g = one-most (list_any (is_it s) ns || false) in omega arith

    pub is-single : IsSingle (program_of new_list)
    is-single s = at (cases_lt s w.free_symbol)
      where
        at : (s < w.free_symbol) ⊎ (w.free_symbol ≤ s) → scopes_with s no_name reads (program_of new_list) ≤ 1
        at (inl f) = old-once s f
        at (inr f) = new-once s f

    -- A TEST that the program passes, words and new symbols under their names

    pub passes-new : (q : Text → Option ℕ → Bool) → Allows q w after → Passes q (program_of ts) → Passes q (program_of new_list)
    passes-new q a p =
        let names = makes.pass q a in
        let fits : Fits setting q = record { words = a.words; default = names.0.0; context = names.1.0 } in
        let parts = the_lists.passes q fits p.1.1.0 in
        (tt, (p.1.0, (passes-joined q os (protected c e us before empty) parts.0 (protected-pass q a.words c e names.1 names.2 us parts.1, tt), tt)))
