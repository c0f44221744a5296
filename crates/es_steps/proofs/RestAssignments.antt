-- An object rest in an assignment is lawful: each part of the pattern stands once in what comes for it.
use Rattle.std.proofs.Common.{arith, ◌+◌, ◌≡◌, ℕ, suc, refl, sym, ap, subst, ◌∙◌, List, [], ◌∷◌, ◌++◌}
use Rattle.std.specs.Prelude.{Bool, true, false, ◌&&◌, not, Option, Some, None, codes, map, if◌then◌else◌}
use Rattle.std.specs.List.{list_all}
use Rattle.es_tree.specs.Names.{first_text, has_computed}
use Rattle.es_tree.specs.PropertyKeys.{is_literal_key, is_read_key, key_text}
use Rattle.es_tree.specs.Tree.{Tree, node, Label, done, ◌then◌, one, many, fields, Trees, empty, ◌before◌, trees}
use Rattle.es_tree.specs.Words.{Text}
use Rattle.es_tree.specs.declared.ast_type.AstType.TheVariants.{ObjectTarget, SequenceExpression, TargetProperty}
use Rattle.es_semantic.specs.RolesOf.{reads, target_of}
use Rattle.es_semantic.specs.declared.place.Role.{Role}
use Rattle.es_scope.specs.declared.flags.ReferenceFlags.{ReferenceFlags}
use Rattle.es_semantic.specs.declared.place.Role.TheVariants.{Nothing, Refers}
use Rattle.es_resolution.specs.Declarations.{Bound, declared, declared_among, declared_in}
use Rattle.es_resolution.specs.Named.{Named, NamedAll, NamedIn}
use Rattle.es_resolution.specs.Resolved.{Place, Resolved, ResolvedAll, ResolvedIn, no_name}
use Rattle.es_resolution.specs.Single.{scopes_among, scopes_in, scopes_with}
use Rattle.es_steps.specs.Identifiers.{Passes, PassesAll, PassesIn}
use Rattle.es_steps.specs.Nodes.{array_node, assign_node, call_node, identifier, made, member_node, object_node, sequence_node, string_node, word}
use Rattle.es_steps.specs.ObjectRest.{helper_node, left_of, whole_value}
use Rattle.es_steps.specs.Patterns.{IsSilent}
use Rattle.es_steps.specs.RestAssignments.{Groups, RestAssignmentRule, TakesTarget, is_unused, object_target, pattern_assigned, property_target, rest_target, value_after}
use Rattle.es_steps.specs.RestAssignments.Groups.{begins, ends, keeps}
use Rattle.es_steps.specs.RestAssignments.RestAssignmentRule.{assigns}
use Rattle.es_steps.specs.RestAssignments.TakesTarget.{alone, beside}
use Rattle.es_steps.specs.Rules.{with_made}
use Rattle.es_steps.specs.Steps.{Site, Whole}
use Rattle.es_steps.specs.WrapRule.{is_member_target}
use Rattle.es_steps.proofs.Kept.{Known}
use Rattle.es_steps.proofs.Made.{Fits, LabelFits, AllFit, Makes, Source, Stands, fits-assignment, fits-call, fits-global, fits-member, fits-sequence, fits-string, fits-word, listed, part, plain-assignment, plain-sequence, standing, temporary}
use Rattle.es_steps.proofs.NoHoist.{left-empty, right-empty}
use Rattle.es_steps.proofs.Raises.{scopes-append}
use Rattle.es_steps.proofs.RestParts.{EachAmong, EachTree, IsLeft, PartsRight, each-append, each-part, parts-right}
use Rattle.es_steps.proofs.RestParts.IsLeft.{name_left, text_left}
use Rattle.es_steps.proofs.TakesRest.{none-if}
use Rattle.es_steps.proofs.Temporaries.{AreTaken, IsSeen, all-seen, knowing, one-taken}
use Rattle.es_steps.proofs.Written.{body_place, nil-right}

-- the role of what an assignment by `=` writes
abbrev written : Role
written = target_of (codes "=")

-- a key that is read is computed
read-computed : (c d : Bool) → (c && d) ≡ true → c ≡ true
read-computed true d e = refl
read-computed false d e = absurd (cc e)

quiet-member : (o : Tree) (x : Text) → IsSilent reads o → IsSilent reads (member_node o x)
quiet-member o x h true = nil-right (declared true reads o) ∙ h true
quiet-member o x h false = nil-right (declared false reads o) ∙ h false

quiet-assigned : (t e : Tree) → IsSilent written t → IsSilent reads e → IsSilent reads (assign_node t e)
quiet-assigned t e h k true = λ i. h true i ++ (k true i ++ [])
quiet-assigned t e h k false = λ i. h false i ++ (k false i ++ [])

-- PARTS that fit, and declare nothing

module _ (n : Known) (b : Place) (source : Source) where
  record Fitting (r : Role) (t : Tree) : Type 0 where
    fits : Fits n b source r t
    quiet : IsSilent r t

  parts-fit : (ts : List Tree) → EachTree (Fitting reads) ts → AllFit n b source ts
  parts-fit [] h = tt
  parts-fit (t ∷ ts) h = (h.0.fits, parts-fit ts h.1)

  parts-quiet : (r : Role) (ts : List Tree) → EachTree (Fitting r) ts → (v : Bool) → declared_among v r (trees ts) ≡ []
  parts-quiet r [] h v = refl
  parts-quiet r (t ∷ ts) h v = λ i. h.0.quiet v i ++ parts-quiet r ts h.1 v i

  -- VALUES

  called : (f : Tree) (ts : List Tree) → Fitting reads f → EachTree (Fitting reads) ts → Fitting reads (call_node f ts)
  called f ts h k = record { fits = fits-call n b source reads (made [] (false ∷ [])) f (trees ts) (λ g. tt) h.fits (listed n b source ts (parts-fit ts k)); quiet = quiet }
    where
      quiet : IsSilent reads (call_node f ts)
      quiet true = λ i. h.quiet true i ++ (parts-quiet reads ts k true i ++ [])
      quiet false = λ i. h.quiet false i ++ (parts-quiet reads ts k false i ++ [])

  in-row : (r : Role) (m : Label) (ts : List Tree) → LabelFits n b source m → EachTree (Fitting reads) ts → Fitting r (node SequenceExpression m (many (trees ts) then done))
  in-row r m ts g h = record { fits = fits-sequence n b source r m (trees ts) g (listed n b source ts (parts-fit ts h)); quiet = quiet }
    where
      quiet : IsSilent r (node SequenceExpression m (many (trees ts) then done))
      quiet true = λ i. parts-quiet reads ts h true i ++ []
      quiet false = λ i. parts-quiet reads ts h false i ++ []

  -- the elements of an array
  elements-named : (ts : List Tree) → EachTree (Fitting reads) ts → Named n.in_use n.free source.role source.tree → NamedIn n.in_use_after n.free_after (λ i. reads) (fields (map one ts))
  elements-named [] h g = tt
  elements-named (t ∷ ts) h g = (h.0.fits.named g, elements-named ts h.1 g)

  elements-resolved : (p q : Place) → Stands n b p q → Named n.in_use n.free source.role source.tree → Resolved source.role p source.tree → (ts : List Tree) → EachTree (Fitting reads) ts → ResolvedIn (λ i. reads) (λ i. body_place q) (fields (map one ts))
  elements-resolved p q a g s [] h = tt
  elements-resolved p q a g s (t ∷ ts) h = (h.0.fits.resolved p q a g s, elements-resolved p q a g s ts h.1)

  elements-pass : (q : Text → Option ℕ → Bool) → ((x : Text) → q x None ≡ true) → list_all (λ c. q c.name c.symbol) n.given ≡ true → Passes q source.tree → (ts : List Tree) → EachTree (Fitting reads) ts → PassesIn q (fields (map one ts))
  elements-pass q words new g [] h = tt
  elements-pass q words new g (t ∷ ts) h = (h.0.fits.passes q words new g, elements-pass q words new g ts h.1)

  elements-quiet : (v : Bool) (counts : ℕ → Bool) (ts : List Tree) → EachTree (Fitting reads) ts → declared_in v counts (λ i. reads) (fields (map one ts)) ≡ []
  elements-quiet v counts [] h = refl
  elements-quiet v counts (t ∷ ts) h = none-if (counts 0) (declared v reads t) (declared_in v (λ i. counts (suc i)) (λ i. reads) (fields (map one ts))) (h.0.quiet v) (elements-quiet v (λ i. counts (suc i)) ts h.1)

  array : (ts : List Tree) → EachTree (Fitting reads) ts → Fitting reads (array_node ts)
  array ts h = record {
    fits = record { named = λ g. ((tt, tt), elements-named ts h g); resolved = λ p q a g s. (tt, refl, elements-resolved p q a g s ts h); passes = λ q words new g. (tt, elements-pass q words new g ts h) };
    quiet = quiet;
  }
    where
      quiet : IsSilent reads (array_node ts)
      quiet true = elements-quiet true (λ i. true) ts h
      quiet false = elements-quiet false (λ i. true) ts h

  member : (o : Tree) (x : Text) → Fitting reads o → Fitting reads (member_node o x)
  member o x h = record { fits = fits-member n b source reads (made [] (false ∷ false ∷ [])) o (word x) (λ g. tt) h.fits (fits-word n b source x); quiet = quiet-member o x h.quiet }

  -- a name that is seen, in whatever role
  seen : (f : ReferenceFlags) (x : Bound) → IsSeen n x → Fitting (Refers f) (identifier x)
  seen f x h = record { fits = temporary n b source f x h; quiet = λ v. refl }

  text : (x : Text) → Fitting reads (string_node x)
  text x = record { fits = fits-string n b source x; quiet = quiet }
    where
      quiet : IsSilent reads (string_node x)
      quiet true = refl
      quiet false = refl

  empty-object : Fitting reads (object_node [])
  empty-object = record { fits = record { named = λ g. ((tt, tt), (tt, tt)); resolved = λ p q a g s. (tt, refl, (tt, tt)); passes = λ q words new g. (tt, (tt, tt)) }; quiet = quiet }
    where
      quiet : IsSilent reads (object_node [])
      quiet true = refl
      quiet false = refl

  module _ (unbound : b.scope (codes "babelHelpers") ≡ None) (used : n.in_use (codes "babelHelpers") ≡ true) where
    helper : (x : Text) → Fitting reads (helper_node x)
    helper x = member (word (codes "babelHelpers")) x (record { fits = fits-global n b source _ (codes "babelHelpers") unbound used; quiet = λ v. refl })

    left : (read : Bool) (s : Tree) (ks : List Tree) → Fitting reads s → EachTree (Fitting reads) ks → Fitting reads (left_of read s ks)
    left true s ks h k = called _ (s ∷ call_node (member_node (array_node ks) (codes "map")) (helper_node (codes "toPropertyKey") ∷ []) ∷ []) (helper (codes "objectWithoutProperties")) (h, (called _ (helper_node (codes "toPropertyKey") ∷ []) (member _ (codes "map") (array ks k)) (helper (codes "toPropertyKey"), tt), tt))
    left false s ks h k = called _ (s ∷ array_node ks ∷ []) (helper (codes "objectWithoutProperties")) (h, (array ks k, tt))

    whole : (s : Tree) → Fitting reads s → Fitting reads (whole_value s)
    whole s h =
        let empties = called _ (s ∷ []) (helper (codes "objectDestructuringEmpty")) (h, tt) in
        called _ (object_node [] ∷ sequence_node (call_node (helper_node (codes "objectDestructuringEmpty")) (s ∷ []) ∷ s ∷ []) ∷ []) (helper (codes "extends")) (empty-object, (in-row reads (made [] []) (call_node (helper_node (codes "objectDestructuringEmpty")) (s ∷ []) ∷ s ∷ []) (λ g. tt) (empties, (h, tt)), tt))

  -- TARGETS

  assigned : (t e : Tree) → Fitting written t → Fitting reads e → Fitting reads (assign_node t e)
  assigned t e h k = record { fits = fits-assignment n b source reads (made (Some (codes "=") ∷ []) []) t e (λ g. tt) h.fits k.fits; quiet = quiet-assigned t e h.quiet k.quiet }

  module _ (r : Role) where
    targets-named : (ts : List Tree) → EachTree (Fitting r) ts → Named n.in_use n.free source.role source.tree → NamedAll n.in_use_after n.free_after r (trees ts)
    targets-named [] h g = tt
    targets-named (t ∷ ts) h g = (h.0.fits.named g, targets-named ts h.1 g)

    targets-resolved : (p q : Place) → Stands n b p q → Named n.in_use n.free source.role source.tree → Resolved source.role p source.tree → (ts : List Tree) → EachTree (Fitting r) ts → ResolvedAll r (body_place q) (trees ts)
    targets-resolved p q a g s [] h = tt
    targets-resolved p q a g s (t ∷ ts) h = (h.0.fits.resolved p q a g s, targets-resolved p q a g s ts h.1)

    targets-pass : (q : Text → Option ℕ → Bool) → ((x : Text) → q x None ≡ true) → list_all (λ c. q c.name c.symbol) n.given ≡ true → Passes q source.tree → (ts : List Tree) → EachTree (Fitting r) ts → PassesAll q (trees ts)
    targets-pass q words new g [] h = tt
    targets-pass q words new g (t ∷ ts) h = (h.0.fits.passes q words new g, targets-pass q words new g ts h.1)

    group : (l : Label) (ts : List Tree) → LabelFits n b source l → EachTree (Fitting r) ts → Fitting r (object_target l ts)
    group l ts k h = record {
      fits = record { named = λ g. ((tt, k g), (targets-named ts h g, tt)); resolved = λ p q a g s. (tt, refl, (targets-resolved p q a g s ts h, tt)); passes = λ q words new g. (tt, (targets-pass q words new g ts h, tt)) };
      quiet = quiet;
    }
      where
        quiet : IsSilent r (object_target l ts)
        quiet true = λ i. parts-quiet r ts h true i ++ []
        quiet false = λ i. parts-quiet r ts h false i ++ []

    of-rest : (l : Label) (t : Tree) → Fitting r (rest_target l t) → Fitting r t
    of-rest l t h = record {
      fits = record { named = λ g. (h.fits.named g).1.0; resolved = λ p q a g s. (h.fits.resolved p q a g s).2.0; passes = λ q words new g. (h.fits.passes q words new g).1.0 };
      quiet = quiet;
    }
      where
        quiet : IsSilent r t
        quiet true = left-empty (declared true r t) [] (h.quiet true)
        quiet false = left-empty (declared false r t) [] (h.quiet false)

    -- the key of a property
    abbrev role_of_key : Label → Role
    role_of_key l = if has_computed TargetProperty l.flags then reads else Nothing

    of-key : (l : Label) (k v : Tree) → Fitting r (property_target l k v) → Fitting (role_of_key l) k
    of-key l k v h = record {
      fits = record { named = λ g. (h.fits.named g).1.0; resolved = λ p q a g s. (h.fits.resolved p q a g s).2.0; passes = λ q words new g. (h.fits.passes q words new g).1.0 };
      quiet = quiet;
    }
      where
        quiet : IsSilent (role_of_key l) k
        quiet true = left-empty (declared true (role_of_key l) k) (declared true r v ++ []) (h.quiet true)
        quiet false = left-empty (declared false (role_of_key l) k) (declared false r v ++ []) (h.quiet false)

    with-key : (l : Label) (k k' v : Tree) → Fitting (role_of_key l) k' → Fitting r (property_target l k v) → Fitting r (property_target l k' v)
    with-key l k k' v h p = record {
      fits = record {
        named = λ g. let w = p.fits.named g in (w.0, (h.fits.named g, w.1.1));
        resolved = λ a c d g s. let w = p.fits.resolved a c d g s in (tt, refl, (h.fits.resolved a c d g s, w.2.1));
        passes = λ q words new g. let w = p.fits.passes q words new g in (tt, (h.fits.passes q words new g, w.1.1));
      };
      quiet = quiet;
    }
      where
        quiet : IsSilent r (property_target l k' v)
        quiet true = λ i. h.quiet true i ++ right-empty (declared true (role_of_key l) k) (declared true r v ++ []) (p.quiet true) i
        quiet false = λ i. h.quiet false i ++ right-empty (declared false (role_of_key l) k) (declared false r v ++ []) (p.quiet false) i

  read-role : (l : Label) (k : Tree) → is_read_key (has_computed TargetProperty l.flags) k ≡ true → role_of_key written l ≡ reads
  read-role l k e = rw (read-computed (has_computed TargetProperty l.flags) (not (is_literal_key k)) e)

  -- THE PATTERN

  keys-left : (ks : List Tree) → EachTree (IsLeft (IsSeen n)) ks → EachTree (Fitting reads) ks
  keys-left [] h = tt
  keys-left (k ∷ ks) h = (a-key k h.0, keys-left ks h.1)
    where
      a-key : (k : Tree) → IsLeft (IsSeen n) k → Fitting reads k
      a-key k (text_left x) = text x
      a-key k (name_left x h) = seen _ x h

  rest-parts : (s : Tree) (lp : Label) → Fitting reads s → LabelFits n b source lp → b.scope (codes "babelHelpers") ≡ None → n.in_use (codes "babelHelpers") ≡ true → PartsRight s lp (IsSeen n) (Fitting written) (Fitting written) (Fitting reads)
  rest-parts s lp h fits unbound used = record {
    last = λ ps e k. assigned (object_target lp ps) s (group written lp ps fits k) h;
    group = λ ps e k. assigned (object_target (made [] []) ps) s (group written (made [] []) ps (λ g. tt) k) h;
    key = λ x l k v e z p. assigned (identifier x) k (seen _ x z) (subst (λ (r : Role). Fitting r k) (read-role l k e) (of-key written l k v p));
    keyed = λ x l k v e z p. with-key written l k (identifier x) v (subst (λ (r : Role). Fitting r (identifier x)) (sym (read-role l k e)) (seen _ x z)) p;
    rest = λ read ks l t e k p. assigned t (left_of read s ks) (of-rest written l t p) (left unbound used read s ks h (keys-left ks k));
    whole = λ l t e p. assigned t (whole_value s) (of-rest written l t p) (whole unbound used s h);
  }

-- HOW MANY SCOPES of them bind a symbol

module _ (b : ℕ) where
  abbrev Without : Tree → Type 0
  Without t = scopes_with b no_name reads t ≡ 0

  keys-scopes : (ts : List Tree) → EachTree Without ts → scopes_in b no_name (λ i. reads) (fields (map one ts)) ≡ 0
  keys-scopes [] h = refl
  keys-scopes (t ∷ ts) h = let e = h.0 in let es = keys-scopes ts h.1 in omega arith

  left-scopes : (read : Bool) (s : Tree) (ks : List Tree) → Without s → EachTree Without ks → Without (left_of read s ks)
  left-scopes true s ks e h = let z = keys-scopes ks h in omega arith
  left-scopes false s ks e h = let z = keys-scopes ks h in omega arith

  module _ (s : Tree) (lp : Label) (none : Without s) where
    groups-scopes : (w : Whole) (read : Bool) (before_it keys : List Tree) (ps : Trees) (xs : List Bound) (us : List Tree) → Groups s lp w read before_it keys ps xs us → EachTree Without keys → scopes_among b no_name reads (trees us) ≡ scopes_among b no_name written (trees before_it) + scopes_among b no_name written ps
    groups-scopes w read before_it keys ps xs us (ends {l = l} {t = t} simple) ks = let z = left-scopes read s keys none ks in omega arith
    groups-scopes w read before_it keys ps xs us (keeps {l = l} {k = k} {v = v} {ps = rest} known g) ks =
        let h = groups-scopes w read (before_it ++ property_target l k v ∷ []) (keys ++ string_node (key_text k) ∷ []) rest xs us g (each-append Without keys (string_node (key_text k) ∷ []) ks (refl, tt)) in
        let z = scopes-append b written before_it (property_target l k v ∷ []) in
        omega arith
    groups-scopes w read before_it keys ps xs us (begins {l = l} {k = k} {v = v} {ps = rest} {x = x} {xs = ys} {us = vs} asked next g) ks =
        let h = groups-scopes _ true (property_target l (identifier x) v ∷ []) (keys ++ identifier x ∷ []) rest ys vs g (each-append Without keys (identifier x ∷ []) ks (refl, tt)) in
        let z : scopes_with b no_name reads k ≡ scopes_with b no_name (if has_computed TargetProperty l.flags then reads else Nothing) k = rw (read-computed (has_computed TargetProperty l.flags) (not (is_literal_key k)) asked) refl in
        omega arith

    target-scopes : (w : Whole) (ps : Trees) (xs : List Bound) (us : List Tree) → TakesTarget s lp w ps xs us → scopes_among b no_name reads (trees us) ≡ scopes_among b no_name written ps
    target-scopes w ps xs us (alone {l = l} {t = t} simple) = at (is_member_target (one t))
      where
        at : (c : Bool) → scopes_among b no_name reads (trees (if c then assign_node (object_target (made [] []) []) s ∷ assign_node t (whole_value s) ∷ [] else assign_node t (whole_value s) ∷ [])) ≡ scopes_among b no_name written (rest_target l t before empty)
        at true = omega arith
        at false = omega arith
    target-scopes w ps xs us (beside g) = let h = groups-scopes w false [] [] ps xs us g tt in omega arith

-- THE ASSIGNMENT

groups-taken : (s : Tree) (lp : Label) (w : Whole) (read : Bool) (before_it keys : List Tree) (ps : Trees) (xs : List Bound) (us : List Tree) → Groups s lp w read before_it keys ps xs us → AreTaken w.in_use w.free_symbol xs
groups-taken s lp w read before_it keys ps xs us (ends simple) = tt
groups-taken s lp w read before_it keys ps xs us (keeps {ps = rest} known g) = groups-taken s lp w read _ _ rest xs us g
groups-taken s lp w read before_it keys ps xs us (begins {ps = rest} {x = x} {xs = ys} {us = vs} asked next g) = ((one-taken w _ x next).0, groups-taken s lp _ true _ _ rest ys vs g)

target-taken : (s : Tree) (lp : Label) (w : Whole) (ps : Trees) (xs : List Bound) (us : List Tree) → TakesTarget s lp w ps xs us → AreTaken w.in_use w.free_symbol xs
target-taken s lp w ps xs us (alone simple) = tt
target-taken s lp w ps xs us (beside g) = groups-taken s lp w false [] [] ps xs us g

module _ (n : Site) (w : Whole) (m lp : Label) (all : Trees) (e : Tree) (k : Known) where
  abbrev old : Tree
  old = pattern_assigned m lp all e

  abbrev from : Source
  from = standing n old

  -- the properties, in their role
  module _ (r : Role) where
    properties : (ps : Trees) → (Named k.in_use k.free n.role old → NamedAll k.in_use k.free r ps) → ((p : Place) → Resolved n.role p old → ResolvedAll r (body_place p) ps) → ((q : Text → Option ℕ → Bool) → Passes q old → PassesAll q ps) → ((v : Bool) → declared_among v r ps ≡ []) → EachAmong (Fitting k n.names from r) ps
    properties empty named resolved passes quiet = tt
    properties (p before ps) named resolved passes quiet = (
      record { fits = part k n.names from r p (λ h. (named h).0) (λ q d. (resolved q d).0) (λ q h. (passes q h).0); quiet = λ v. left-empty (declared v r p) (declared_among v r ps) (quiet v) },
      properties ps (λ h. (named h).1) (λ q d. (resolved q d).1) (λ q h. (passes q h).1) (λ v. right-empty (declared v r p) (declared_among v r ps) (quiet v)),
    )

  module _ (silent : IsSilent reads old) where
    target-quiet : (v : Bool) → declared_among v (target_of (first_text m.texts)) all ≡ []
    target-quiet true = left-empty (declared_among true (target_of (first_text m.texts)) all) [] (left-empty (declared_among true (target_of (first_text m.texts)) all ++ []) (declared true reads e ++ []) (silent true))
    target-quiet false = left-empty (declared_among false (target_of (first_text m.texts)) all) [] (left-empty (declared_among false (target_of (first_text m.texts)) all ++ []) (declared false reads e ++ []) (silent false))

    value-quiet : IsSilent reads e
    value-quiet true = left-empty (declared true reads e) [] (right-empty (declared_among true (target_of (first_text m.texts)) all ++ []) (declared true reads e ++ []) (silent true))
    value-quiet false = left-empty (declared false reads e) [] (right-empty (declared_among false (target_of (first_text m.texts)) all ++ []) (declared false reads e ++ []) (silent false))

    old-quiet : IsSilent n.role old
    old-quiet true = silent true
    old-quiet false = silent false

  value-part : IsSilent reads old → Fitting k n.names from reads e
  value-part silent = record { fits = part k n.names from reads e (λ h. h.1.1.0) (λ p d. d.2.1.0) (λ q d. d.1.1.0); quiet = value-quiet silent }

  target-parts : m.texts ≡ Some (codes "=") ∷ [] → IsSilent reads old → EachAmong (Fitting k n.names from written) all
  target-parts texts silent = subst (λ (r : Role). EachAmong (Fitting k n.names from r) all) (ap (λ ts. target_of (first_text ts)) texts) (properties (target_of (first_text m.texts)) all (λ h. h.1.0.1.0) (λ p d. d.2.0.2.0) (λ q d. d.1.0.1.0) (target-quiet silent))

  target-label : LabelFits k n.names from lp
  target-label h = ((part k n.names from (target_of (first_text m.texts)) (node ObjectTarget lp (many all then done)) (λ h. h.1.0) (λ p d. d.2.0) (λ q d. d.1.0)).named h).0.1

value-parts : (k : Known) (b : Place) (source : Source) (x : Bound) (unused : Bool) → IsSeen k x → EachTree (Fitting k b source reads) (value_after unused x)
value-parts k b source x true h = tt
value-parts k b source x false h = (seen k b source _ x h, tt)

value-scopes : (s : ℕ) (x : Bound) (unused : Bool) → scopes_among s no_name reads (trees (value_after unused x)) ≡ 0
value-scopes s x true = refl
value-scopes s x false = refl

pub assigning_rest-makes : (n : Site) (w : Whole) (bs : List Bound) (t u : Tree) → RestAssignmentRule n w bs t u → Makes n w bs t u
assigning_rest-makes n w bs t u (assigns {m = m} {lp = lp} {ps = ps} {e = e} {x = x} {xs = xs} {us = us} unbound used texts silent next takes) =
    let taken : AreTaken w.in_use w.free_symbol (x ∷ xs) = ((one-taken w _ x next).0, target-taken (identifier x) lp (with_made (x ∷ []) w) ps xs us takes) in
    let k = knowing w (x ∷ xs) taken in
    let source = standing n (pattern_assigned m lp ps e) in
    let sees = all-seen k in
    let value = seen k n.names source _ x sees.0 in
    let stored = assigned k n.names source (identifier x) e (seen k n.names source _ x sees.0) (value-part n w m lp ps e k silent) in
    let parts = parts-right (identifier x) lp (IsSeen k) (Fitting k n.names source written) (Fitting k n.names source written) (Fitting k n.names source reads) (rest-parts k n.names source (identifier x) lp value (target-label n w m lp ps e k) unbound used) (with_made (x ∷ []) w) ps xs us takes sees.1 (each-part (Fitting k n.names source written) ps (target-parts n w m lp ps e k texts silent)) in
    let last = value-parts k n.names source x (is_unused n.above) sees.0 in
    let all = in-row k n.names source n.role (record (made [] []) { start = m.start; stop = m.stop }) (assign_node (identifier x) e ∷ us ++ value_after (is_unused n.above) x) (λ g. tt) (stored, each-append (Fitting k n.names source reads) us (value_after (is_unused n.above) x) parts last) in
    record {
      taken = taken;
      old = plain-assignment m _;
      made = plain-sequence _ _;
      counts = record { declares = λ v. all.quiet v ∙ sym (old-quiet n w m lp ps e k silent v); scopes = counted };
      fits = all.fits;
    }
  where
    counted : (s : ℕ) → scopes_with s no_name n.role u ≡ scopes_with s no_name n.role t
    counted s =
        let from-target = target-scopes s (identifier x) lp refl (with_made (x ∷ []) w) ps xs us takes in
        let appended = scopes-append s reads us (value_after (is_unused n.above) x) in
        let none = value-scopes s x (is_unused n.above) in
        let role = ap (λ ts. scopes_among s no_name (target_of (first_text ts)) ps) texts in
        omega arith
