-- Optional chaining is lawful.
use Rattle.std.proofs.Common.{arith, ◌+◌, ◌≡◌, ℕ, refl, sym, ap, subst, ◌∙◌, List, [], ◌∷◌, ◌++◌, append_assoc}
use Rattle.std.specs.Prelude.{Bool, true, false, Option, Some, None, codes, is_some, if◌then◌else◌}
use Rattle.es_tree.specs.Parens.{without_parens}
use Rattle.es_tree.specs.Tree.{Tree, node, Label, done, ◌then◌, one, many, Trees, empty, ◌before◌, trees}
use Rattle.es_tree.specs.declared.ast_type.AstType.TheVariants.{CallExpression, ChainExpression, Identifier, MemberExpression, ParenthesizedExpression, UnaryExpression}
use Rattle.es_semantic.specs.RolesOf.{reads}
use Rattle.es_semantic.specs.declared.place.Role.{Role}
use Rattle.es_semantic.specs.declared.place.Role.TheVariants.{Nothing}
use Rattle.es_runs.specs.OptionalChaining.{call_at, delete_node, has_tests, is_super, is_this_or_super, joined_by_or, member_at, null_checks, true_node, where_short}
use Rattle.es_runs.specs.Rules.{assign_node, void_zero_node}
use Rattle.es_resolution.specs.Declarations.{Bound, declared, declared_among}
use Rattle.es_resolution.specs.Resolved.{Place, no_name}
use Rattle.es_resolution.specs.Single.{scopes_with, scopes_among}
use Rattle.es_steps.specs.Duplication.{is_alone, is_among_symbols}
use Rattle.es_steps.specs.Nodes.{made, identifier, word}
use Rattle.es_steps.specs.OptionalChaining.{is_name_among, or_held, Receives, Way, call_method, stored_call, Tested, Called, Walked, Continued, bind_node, BoundCallee, OptionalChainingRule}
use Rattle.es_steps.specs.OptionalChaining.Receives.{by_this, by_name, by_temporary}
use Rattle.es_steps.specs.OptionalChaining.Tested.{as_name, in_holder, in_temporary}
use Rattle.es_steps.specs.OptionalChaining.Called.{by_name as called_by_name, by_value, by_first_member, by_later_member}
use Rattle.es_steps.specs.OptionalChaining.Walked.{base, plain_member, plain_call, marked_member, marked_call}
use Rattle.es_steps.specs.OptionalChaining.Continued.{same_spine, inner_spine}
use Rattle.es_steps.specs.OptionalChaining.BoundCallee.{no_member, to_object}
use Rattle.es_steps.specs.OptionalChaining.OptionalChainingRule.{by_tests, as_callee, in_delete}
use Rattle.es_steps.specs.Rules.{with_made}
use Rattle.es_steps.specs.Steps.{Whole, Site}
use Rattle.es_steps.proofs.Duplicates.{key-role, counts-member}
use Rattle.es_steps.proofs.Kept.{Known, Each}
use Rattle.es_steps.proofs.Made.{Source, standing, Makes, Fits, LabelFits, none-among, more-among, callee-fits, arguments-fit, call-label-fits, content-fits, fits-null, fits-void, fits-true, fits-this, AllFit, both-fit, FitAmong, key_role, part, temporary, fits-bare, fits-word, fits-stored, fits-unary, fits-binary, fits-logical, fits-conditional, fits-member, fits-call, object-fits, key-fits, label-fits, Counts, counts-self, counts-bare, counts-stored, Silent, silent-name, silent-temporary, IsPlain, plain-conditional, plain-chain, plain-unary}
use Rattle.es_steps.proofs.Raises.{among-append, scopes-append}
use Rattle.es_steps.proofs.Temporaries.{AreTaken, IsSeen, knowing, all-seen, each-left, each-right, one-taken, taken-append}
use Rattle.es_steps.proofs.Written.{nil-right}

-- TEMPORARIES

received-taken : (to_this : Tree → Bool) (w : Whole) (holder : Option Bound) (xs : List Bound) (o o1 r : Tree) → Receives to_this w holder xs o o1 r → AreTaken w.in_use w.free_symbol xs
received-taken to_this w holder xs o o1 r (by_this h) = tt
received-taken to_this w holder xs o o1 r (by_name h k) = tt
received-taken to_this w holder xs o o1 r (by_temporary {r = x} h k next) = one-taken w _ x next

tested-taken : (no_all : Bool) (known : Whole) (w u : Way) → Tested no_all known w u → AreTaken known.in_use known.free_symbol w.taken → AreTaken known.in_use known.free_symbol u.taken
tested-taken no_all known w u (as_name none h) t = t
tested-taken no_all known w u (in_holder h) t = t
tested-taken no_all known w u (in_temporary {x = x} h none next) t = taken-append known.in_use known.free_symbol w.taken (x ∷ []) t (one-taken (with_made w.taken known) _ x next)

called-taken : (no_all : Bool) (known : Whole) (l : Label) (arguments : Trees) (w u : Way) → Called no_all known l arguments w u → AreTaken known.in_use known.free_symbol w.taken → AreTaken known.in_use known.free_symbol u.taken
called-taken no_all known l arguments w u (called_by_name none h) t = t
called-taken no_all known l arguments w u (by_value {c = c} h other next) t = taken-append known.in_use known.free_symbol w.taken (c ∷ []) t (one-taken (with_made w.taken known) _ c next)
called-taken no_all known l arguments w u (by_first_member {o = o} {o1 = o1} {r = r} {c = c} {xs = xs} none d flags next h) t =
    let first = one-taken (with_made w.taken known) _ c next in
    taken-append known.in_use known.free_symbol w.taken (c ∷ xs) t (first.0, received-taken is_this_or_super (with_made (c ∷ []) (with_made w.taken known)) w.holder xs o o1 r h)
called-taken no_all known l arguments w u (by_later_member {o = o} {o1 = o1} {r = r} {c = c} {xs = xs} some d flags h next) t =
    taken-append known.in_use known.free_symbol w.taken (xs ++ c ∷ []) t
    (taken-append (with_made w.taken known).in_use (with_made w.taken known).free_symbol xs (c ∷ []) (received-taken is_this_or_super (with_made w.taken known) w.holder xs o o1 r h) (one-taken (with_made xs (with_made w.taken known)) _ c next))

mutual
  walked-taken : (no_all : Bool) (known : Whole) (e : Tree) (w : Way) → Walked no_all known e w → AreTaken known.in_use known.free_symbol w.taken
  walked-taken no_all known e w (base h alone) = tt
  walked-taken no_all known e w (plain_member {o = o} {w = v} flags h) = walked-taken no_all known o v h
  walked-taken no_all known e w (plain_call {f = f} {w = v} flags h) = walked-taken no_all known f v h
  walked-taken no_all known e w (marked_member {o = o} {w = v} {u = u} flags h t) = tested-taken no_all known v u t (continued-taken no_all known o v h)
  walked-taken no_all known e w (marked_call {l = l} {f = f} {arguments = arguments} {w = v} {u = u} flags h t) = called-taken no_all known l arguments v u t (continued-taken no_all known f v h)

  continued-taken : (no_all : Bool) (known : Whole) (e : Tree) (w : Way) → Continued no_all known e w → AreTaken known.in_use known.free_symbol w.taken
  continued-taken no_all known e w (same_spine s h) = walked-taken no_all known e w h
  continued-taken no_all known e w (inner_spine {c = c} s alone d h) = walked-taken no_all known c w h

-- those that were taken before a step are among those that are taken after it
tested-before : (P : Bound → Type 0) (no_all : Bool) (known : Whole) (w u : Way) → Tested no_all known w u → Each P u.taken → Each P w.taken
tested-before P no_all known w u (as_name none h) seen = seen
tested-before P no_all known w u (in_holder h) seen = seen
tested-before P no_all known w u (in_temporary {x = x} h none next) seen = each-left P w.taken (x ∷ []) seen

called-before : (P : Bound → Type 0) (no_all : Bool) (known : Whole) (l : Label) (arguments : Trees) (w u : Way) → Called no_all known l arguments w u → Each P u.taken → Each P w.taken
called-before P no_all known l arguments w u (called_by_name none h) seen = seen
called-before P no_all known l arguments w u (by_value {c = c} h other next) seen = each-left P w.taken (c ∷ []) seen
called-before P no_all known l arguments w u (by_first_member {c = c} {xs = xs} none d flags next h) seen = each-left P w.taken (c ∷ xs) seen
called-before P no_all known l arguments w u (by_later_member {c = c} {xs = xs} some d flags h next) seen = each-left P w.taken (xs ++ c ∷ []) seen

-- NAMES

name-silent : (names : Option ℕ → Bool) (t : Tree) → is_name_among names t ≡ true → Silent reads t
name-silent names (node Identifier l done) e = silent-name _ l done refl
name-silent names (node Identifier l (f then fs)) e = absurd (cc e)
name-silent names _ e = absurd (cc e)

bare-alone : (t : Tree) → is_alone (without_parens t) ≡ true
bare-alone (node ParenthesizedExpression l (one t then fs)) = bare-alone t
bare-alone t = refl

-- COUNTS

-- tests count for what stood before
record CountsTests (e : Tree) (ts : List Tree) : Type 0 where
  declares : (v : Bool) → declared_among v reads (trees ts) ≡ declared v reads e
  scopes : (s : ℕ) → scopes_among s no_name reads (trees ts) ≡ scopes_with s no_name reads e

-- tests and the rest of the spine do
record CountsWay (e : Tree) (ts : List Tree) (current : Tree) : Type 0 where
  declares : (v : Bool) → declared_among v reads (trees ts) ++ declared v reads current ≡ declared v reads e
  scopes : (s : ℕ) → scopes_among s no_name reads (trees ts) + scopes_with s no_name reads current ≡ scopes_with s no_name reads e

counts-checks : (no_all : Bool) (e again : Tree) → Silent reads again → CountsTests e (null_checks no_all e again)
counts-checks true e again z = record { declares = λ v. at v; scopes = λ s. omega arith }
  where
    at : (v : Bool) → declared_among v reads (trees (null_checks true e again)) ≡ declared v reads e
    at true = simp nil-right
    at false = simp nil-right
counts-checks false e again z = record { declares = λ v. at v; scopes = λ s. let h = z.scopes s in omega arith }
  where
    at : (v : Bool) → declared_among v reads (trees (null_checks false e again)) ≡ declared v reads e
    at true = simp (z.declares true, nil-right)
    at false = simp (z.declares false, nil-right)

-- after more of what stands before a tree that makes nothing
counts-after : (e f : Tree) (ts : List Tree) (checks : List Tree) (current : Tree) → CountsWay e ts current → Counts reads reads current f → CountsTests f checks → CountsTests e (ts ++ checks)
counts-after e f ts checks current w c d = record {
  declares = λ v. among-append v reads ts checks ∙ (λ i. declared_among v reads (trees ts) ++ (d.declares v ∙ c.declares v) i) ∙ w.declares v;
  scopes = λ s. let a = scopes-append s reads ts checks in let b = d.scopes s in let g = c.scopes s in let h = w.scopes s in omega arith;
}

-- the tests alone
counts-alone : (e current : Tree) (ts : List Tree) → CountsTests e ts → Silent reads current → CountsWay e ts current
counts-alone e current ts c z = record { declares = λ v. (λ i. c.declares v i ++ z.declares v i) ∙ nil-right (declared v reads e); scopes = λ s. let a = c.scopes s in let b = z.scopes s in omega arith }

or-declares : (v : Bool) (t u : Tree) → declared v reads (joined_by_or t (u ∷ [])) ≡ declared v reads t ++ declared v reads u
or-declares true t u = ap (λ bs. declared true reads t ++ bs) (nil-right (declared true reads u))
or-declares false t u = ap (λ bs. declared false reads t ++ bs) (nil-right (declared false reads u))

joined-declares : (v : Bool) (t : Tree) (ts : List Tree) → declared v reads (joined_by_or t ts) ≡ declared v reads t ++ declared_among v reads (trees ts)
joined-declares v t [] = sym (nil-right (declared v reads t))
joined-declares v t (u ∷ us) = joined-declares v (joined_by_or t (u ∷ [])) us ∙ (λ i. or-declares v t u i ++ declared_among v reads (trees us)) ∙ append_assoc (declared v reads t) (declared v reads u) (declared_among v reads (trees us))

joined-scopes : (s : ℕ) (t : Tree) (ts : List Tree) → scopes_with s no_name reads (joined_by_or t ts) ≡ scopes_with s no_name reads t + scopes_among s no_name reads (trees ts)
joined-scopes s t [] = omega arith
joined-scopes s t (u ∷ us) = let h = joined-scopes s (joined_by_or t (u ∷ [])) us in omega arith

-- a chain in parentheses counts as its content does
counts-content : (e c : Tree) (l : Label) → is_alone e ≡ true → without_parens e ≡ node ChainExpression l (one c then done) → Counts reads reads e c
counts-content e c l alone d = record {
  declares = λ v. at v ∙ (λ i. declared v reads (sym d i)) ∙ (counts-bare reads e alone).declares v;
  scopes = λ s. chain-scopes s ∙ (λ i. scopes_with s no_name reads (sym d i)) ∙ (counts-bare reads e alone).scopes s;
}
  where
    at : (v : Bool) → declared v reads c ≡ declared v reads (node ChainExpression l (one c then done))
    at true = sym (nil-right (declared true reads c))
    at false = sym (nil-right (declared false reads c))

    chain-scopes : (s : ℕ) → scopes_with s no_name reads c ≡ scopes_with s no_name reads (node ChainExpression l (one c then done))
    chain-scopes s = omega arith

-- STEPS OF A SPINE

module _ (n : Known) (b : Place) (source : Source) where
  abbrev HolderSeen : Option Bound → Type 0
  HolderSeen None = Unit {0}
  HolderSeen (Some x) = IsSeen n x

  record WayFits (e : Tree) (w : Way) : Type 0 where
    tests : AllFit n b source w.tests
    current : Fits n b source reads w.current
    alone : is_alone w.current ≡ true
    holder : HolderSeen w.holder
    counts : CountsWay e w.tests w.current

  -- what a marked step tests
  record TestsFit (e : Tree) (ts : List Tree) : Type 0 where
    fits : AllFit n b source ts
    counts : CountsTests e ts

  fits-checks : (no_all : Bool) (e again : Tree) → Fits n b source reads e → Fits n b source reads again → AllFit n b source (null_checks no_all e again)
  fits-checks true e again f g = (fits-binary n b source reads _ e _ (λ h. tt) f (fits-null n b source), tt)
  fits-checks false e again f g = (fits-binary n b source reads _ e _ (λ h. tt) f (fits-null n b source), (fits-binary n b source reads _ again _ (λ h. tt) g (fits-void n b source), tt))

  -- what stands before is stored
  stored-tests : (no_all : Bool) (e : Tree) (w : Way) (x : Bound) (callee : Tree) → IsSeen n x → WayFits e w → Fits n b source reads callee → Counts reads reads w.current callee → TestsFit e (w.tests ++ null_checks no_all (assign_node (identifier x) callee) (identifier x))
  stored-tests no_all e w x callee seen W f c = record {
    fits = both-fit n b source w.tests (null_checks no_all (assign_node (identifier x) callee) (identifier x)) W.tests (fits-checks no_all (assign_node (identifier x) callee) (identifier x) (fits-stored n b source x callee seen f) (temporary n b source _ x seen));
    counts = counts-after e (assign_node (identifier x) callee) w.tests (null_checks no_all (assign_node (identifier x) callee) (identifier x)) w.current W.counts (record { declares = λ v. (counts-stored x callee).declares v ∙ c.declares v; scopes = λ s. (counts-stored x callee).scopes s ∙ c.scopes s }) (counts-checks no_all (assign_node (identifier x) callee) (identifier x) (silent-temporary _ x));
  }

  -- a name is tested first as it is
  name-tests : (no_all : Bool) (e : Tree) (w : Way) → w.tests ≡ [] → is_name_among is_some (without_parens w.current) ≡ true → WayFits e w → TestsFit e (null_checks no_all (without_parens w.current) (without_parens w.current))
  name-tests no_all e w none h W =
      let c = without_parens w.current in
      let f = fits-bare n b source reads w.current W.current in
      record {
        fits = fits-checks no_all c c f f;
        counts = counts-after e c [] (null_checks no_all c c) w.current (subst (λ (ts : List Tree). CountsWay e ts w.current) none W.counts) (counts-bare reads w.current W.alone) (counts-checks no_all c c (name-silent is_some c h));
      }

  bare : (e : Tree) (w : Way) → WayFits e w → Fits n b source reads (without_parens w.current)
  bare e w W = fits-bare n b source reads w.current W.current

  tested : (no_all : Bool) (known : Whole) (e : Tree) (w u : Way) → Tested no_all known w u → Each (IsSeen n) u.taken → WayFits e w → WayFits e u
  tested no_all known e w u (as_name none h) seen W =
      let T = name-tests no_all e w none h W in
      record { tests = T.fits; current = bare e w W; alone = bare-alone w.current; holder = W.holder; counts = counts-alone e (without_parens w.current) (null_checks no_all (without_parens w.current) (without_parens w.current)) T.counts (name-silent is_some (without_parens w.current) h) }
  tested no_all known e w u (in_holder {x = x} h) seen W =
      let sees = subst HolderSeen h W.holder in
      let T = stored-tests no_all e w x (without_parens w.current) sees W (bare e w W) (counts-bare reads w.current W.alone) in
      record { tests = T.fits; current = temporary n b source _ x sees; alone = refl; holder = W.holder; counts = counts-alone e (identifier x) u.tests T.counts (silent-temporary _ x) }
  tested no_all known e w u (in_temporary {x = x} h none next) seen W =
      let sees = (each-right (IsSeen n) w.taken (x ∷ []) seen).0 in
      let T = stored-tests no_all e w x (without_parens w.current) sees W (bare e w W) (counts-bare reads w.current W.alone) in
      record { tests = T.fits; current = temporary n b source _ x sees; alone = refl; holder = sees; counts = counts-alone e (identifier x) u.tests T.counts (silent-temporary _ x) }

  -- RECEIVERS

  record Received (o o1 r : Tree) : Type 0 where
    written : Fits n b source reads o1
    receiver : Fits n b source reads r
    counts : Counts reads reads o o1
    silent : Silent reads r

  received : (to_this : Tree → Bool) (w : Whole) (holder : Option Bound) (xs : List Bound) (o o1 r : Tree) → Receives to_this w holder xs o o1 r → Each (IsSeen n) xs → Fits n b source reads o → Received o o1 r
  received to_this w holder xs o o1 r (by_this h) seen f = record { written = f; receiver = fits-this n b source; counts = counts-self reads o; silent = record { declares = λ v. refl; scopes = λ s. refl } }
  received to_this w holder xs o o1 r (by_name h k) seen f = record { written = f; receiver = f; counts = counts-self reads o; silent = name-silent (or_held holder (is_among_symbols w.steady)) o k }
  received to_this w holder xs o o1 r (by_temporary {r = x} h k next) seen f = record { written = fits-stored n b source x o seen.0 f; receiver = temporary n b source _ x seen.0; counts = counts-stored x o; silent = silent-temporary _ x }

  -- a member with what is written for its object
  record MemberFits (current : Tree) (k : Label) (computed : Bool) (o1 p : Tree) : Type 0 where
    fits : Fits n b source reads (member_at k computed o1 p)
    counts : Counts reads reads current (member_at k computed o1 p)

  same-keys : (k : Label) (computed marked : Bool) (p : Tree) → k.flags ≡ computed ∷ marked ∷ [] → Counts (key_role k) (if computed then reads else Nothing) p p
  same-keys k computed marked p flags = subst (λ (r : Role). Counts (key_role k) r p p) (key-role k computed marked flags) (counts-self (key_role k) p)

  -- the key where it stands without a mark
  key-of : (r : Role) (k : Label) (computed marked : Bool) (o p : Tree) → k.flags ≡ computed ∷ marked ∷ [] → Fits n b source r (node MemberExpression k (one o then one p then done)) → Fits n b source (if computed then reads else Nothing) p
  key-of r k computed marked o p flags f = subst (λ (r : Role). Fits n b source r p) (key-role k computed marked flags) (key-fits n b source r k o p f)

  received-member : (current : Tree) (k : Label) (computed : Bool) (o o1 p r : Tree) → without_parens current ≡ node MemberExpression k (one o then one p then done) → is_alone current ≡ true → k.flags ≡ computed ∷ false ∷ [] → Fits n b source reads (node MemberExpression k (one o then one p then done)) → Received o o1 r → MemberFits current k computed o1 p
  received-member current k computed o o1 p r d alone flags f R =
      let c = counts-member reads reads k (record k { flags = computed ∷ false ∷ [] }) o o1 p p R.counts (same-keys k computed false p flags) in
      record {
        fits = fits-member n b source reads (record k { flags = computed ∷ false ∷ [] }) o1 p (label-fits n b source reads k o p f) R.written (key-of reads k computed false o p flags f);
        counts = record { declares = λ v. c.declares v ∙ (λ i. declared v reads (sym d i)) ∙ (counts-bare reads current alone).declares v; scopes = λ s. c.scopes s ∙ (λ i. scopes_with s no_name reads (sym d i)) ∙ (counts-bare reads current alone).scopes s };
      }

  -- CALLS

  -- what comes of a marked call of what stands before: the tests count for it, and the call for its arguments
  record CallFits (e : Tree) (l : Label) (arguments : Trees) (w : Way) : Type 0 where
    tests : AllFit n b source w.tests
    current : Fits n b source reads w.current
    alone : is_alone w.current ≡ true
    holder : HolderSeen w.holder
    counts : CountsTests e w.tests
    declares : (v : Bool) → declared v reads w.current ≡ declared_among v reads arguments ++ []
    scopes : (s : ℕ) → scopes_with s no_name reads w.current ≡ scopes_among s no_name reads arguments

  call-declares : (v : Bool) (l : Label) (f : Tree) (arguments : Trees) → Silent reads f → declared v reads (call_at l f arguments) ≡ declared_among v reads arguments ++ []
  call-declares true l f arguments z = λ i. z.declares true i ++ (declared_among true reads arguments ++ [])
  call-declares false l f arguments z = λ i. z.declares false i ++ (declared_among false reads arguments ++ [])

  method-silent : (c : Bound) → Silent reads (call_method (identifier c))
  method-silent c = record { declares = λ v. at v; scopes = λ s. refl }
    where
      at : (v : Bool) → declared v reads (call_method (identifier c)) ≡ []
      at true = refl
      at false = refl

  -- after a callee is stored with its receiver
  stored-fits : (no_all : Bool) (e : Tree) (l : Label) (arguments : Trees) (w : Way) (names : List Bound) (c : Bound) (k : Label) (computed : Bool) (o o1 p r : Tree) → LabelFits n b source l → IsSeen n c → WayFits e w → FitAmong n b source arguments → Received o o1 r → MemberFits w.current k computed o1 p → CallFits e l arguments (stored_call no_all l arguments w names c (member_at k computed o1 p) r)
  stored-fits no_all e l arguments w names c k computed o o1 p r below sees W a R M =
      let T = stored-tests no_all e w c (member_at k computed o1 p) sees W M.fits M.counts in
      record {
        tests = T.fits;
        current = fits-call n b source reads (record l { flags = false ∷ [] }) (call_method (identifier c)) (r before arguments) below (fits-member n b source reads (made [] (false ∷ false ∷ [])) (identifier c) (word (codes "call")) (λ g. tt) (temporary n b source _ c sees) (fits-word n b source (codes "call"))) (more-among n b source r arguments R.receiver a);
        alone = refl;
        holder = sees;
        counts = T.counts;
        declares = λ v. call-declares v l (call_method (identifier c)) (r before arguments) (method-silent c) ∙ (λ i. (R.silent.declares v i ++ declared_among v reads arguments) ++ []);
        scopes = λ s. let h = R.silent.scopes s in let g = (method-silent c).scopes s in omega arith;
      }

  called : (no_all : Bool) (known : Whole) (e : Tree) (l : Label) (arguments : Trees) (w u : Way) → Called no_all known l arguments w u → LabelFits n b source l → FitAmong n b source arguments → Each (IsSeen n) u.taken → WayFits e w → CallFits e l arguments u
  called no_all known e l arguments w u (called_by_name none h) below a seen W =
      let T = name-tests no_all e w none h W in
      record { tests = T.fits; current = fits-call n b source reads (record l { flags = false ∷ [] }) (without_parens w.current) arguments below (bare e w W) a; alone = refl; holder = W.holder; counts = T.counts; declares = λ v. call-declares v l (without_parens w.current) arguments (name-silent is_some (without_parens w.current) h); scopes = λ s. let z = (name-silent is_some (without_parens w.current) h).scopes s in omega arith }
  called no_all known e l arguments w u (by_value {c = c} h other next) below a seen W =
      let sees = (each-right (IsSeen n) w.taken (c ∷ []) seen).0 in
      let T = stored-tests no_all e w c (without_parens w.current) sees W (bare e w W) (counts-bare reads w.current W.alone) in
      record { tests = T.fits; current = fits-call n b source reads (record l { flags = false ∷ [] }) (identifier c) arguments below (temporary n b source _ c sees) a; alone = refl; holder = sees; counts = T.counts; declares = λ v. call-declares v l (identifier c) arguments (silent-temporary _ c); scopes = λ s. omega arith }
  called no_all known e l arguments w u (by_first_member {k = k} {computed = computed} {o = o} {o1 = o1} {p = p} {r = r} {c = c} {xs = xs} none d flags next h) below a seen W =
      let sees = each-right (IsSeen n) w.taken (c ∷ xs) seen in
      let f = subst (λ (t : Tree). Fits n b source reads t) d (bare e w W) in
      let R = received is_this_or_super _ w.holder xs o o1 r h sees.1 (object-fits n b source reads k o p f) in
      stored-fits no_all e l arguments w (c ∷ xs) c k computed o o1 p r below sees.0 W a R (received-member w.current k computed o o1 p r d W.alone flags f R)
  called no_all known e l arguments w u (by_later_member {k = k} {computed = computed} {o = o} {o1 = o1} {p = p} {r = r} {c = c} {xs = xs} some d flags h next) below a seen W =
      let sees = each-right (IsSeen n) w.taken (xs ++ c ∷ []) seen in
      let f = subst (λ (t : Tree). Fits n b source reads t) d (bare e w W) in
      let R = received is_this_or_super _ w.holder xs o o1 r h (each-left (IsSeen n) xs (c ∷ []) sees) (object-fits n b source reads k o p f) in
      stored-fits no_all e l arguments w (xs ++ c ∷ []) c k computed o o1 p r below (each-right (IsSeen n) xs (c ∷ []) sees).0 W a R (received-member w.current k computed o o1 p r d W.alone flags f R)

  -- SPINES

  -- a member of what the spine is so far
  member-step : (o p : Tree) (l : Label) (computed marked : Bool) (w : Way) → l.flags ≡ computed ∷ marked ∷ [] → Fits n b source reads (node MemberExpression l (one o then one p then done)) → WayFits o w → WayFits (node MemberExpression l (one o then one p then done)) (record w { current = member_at l computed w.current p })
  member-step o p l computed marked w flags f W = record {
    tests = W.tests;
    current = fits-member n b source reads (record l { flags = computed ∷ false ∷ [] }) w.current p (label-fits n b source reads l o p f) W.current (key-of reads l computed marked o p flags f);
    alone = refl;
    holder = W.holder;
    counts = record { declares = λ v. at v; scopes = λ s. let h = W.counts.scopes s in let g = (same-keys l computed marked p flags).scopes s in omega arith };
  }
    where
      at : (v : Bool) → declared_among v reads (trees w.tests) ++ declared v reads (member_at l computed w.current p) ≡ declared v reads (node MemberExpression l (one o then one p then done))
      at true = sym (append_assoc (declared_among true reads (trees w.tests)) (declared true reads w.current) (declared true (if computed then reads else Nothing) p ++ [])) ∙ (λ i. W.counts.declares true i ++ ((same-keys l computed marked p flags).declares true i ++ []))
      at false = sym (append_assoc (declared_among false reads (trees w.tests)) (declared false reads w.current) (declared false (if computed then reads else Nothing) p ++ [])) ∙ (λ i. W.counts.declares false i ++ ((same-keys l computed marked p flags).declares false i ++ []))

  call-step : (f : Tree) (l : Label) (arguments : Trees) (w : Way) → Fits n b source reads (node CallExpression l (one f then many arguments then done)) → WayFits f w → WayFits (node CallExpression l (one f then many arguments then done)) (record w { current = call_at l w.current arguments })
  call-step f l arguments w h W = record {
    tests = W.tests;
    current = fits-call n b source reads (record l { flags = false ∷ [] }) w.current arguments (call-label-fits n b source reads l f arguments h) W.current (arguments-fit n b source reads l f arguments h);
    alone = refl;
    holder = W.holder;
    counts = record { declares = λ v. at v; scopes = λ s. let g = W.counts.scopes s in omega arith };
  }
    where
      at : (v : Bool) → declared_among v reads (trees w.tests) ++ declared v reads (call_at l w.current arguments) ≡ declared v reads (node CallExpression l (one f then many arguments then done))
      at true = sym (append_assoc (declared_among true reads (trees w.tests)) (declared true reads w.current) (declared_among true reads arguments ++ [])) ∙ (λ i. W.counts.declares true i ++ (declared_among true reads arguments ++ []))
      at false = sym (append_assoc (declared_among false reads (trees w.tests)) (declared false reads w.current) (declared_among false reads arguments ++ [])) ∙ (λ i. W.counts.declares false i ++ (declared_among false reads arguments ++ []))

  marked-call-step : (f : Tree) (l : Label) (arguments : Trees) (w : Way) → CallFits f l arguments w → WayFits (node CallExpression l (one f then many arguments then done)) w
  marked-call-step f l arguments w C = record {
    tests = C.tests;
    current = C.current;
    alone = C.alone;
    holder = C.holder;
    counts = record { declares = λ v. at v; scopes = λ s. let g = C.counts.scopes s in let h = C.scopes s in omega arith };
  }
    where
      at : (v : Bool) → declared_among v reads (trees w.tests) ++ declared v reads w.current ≡ declared v reads (node CallExpression l (one f then many arguments then done))
      at true = λ i. C.counts.declares true i ++ C.declares true i
      at false = λ i. C.counts.declares false i ++ C.declares false i

  mutual
    walked : (no_all : Bool) (known : Whole) (e : Tree) (w : Way) → Walked no_all known e w → Each (IsSeen n) w.taken → Fits n b source reads e → WayFits e w
    walked no_all known e w (base h alone) seen f = record { tests = tt; current = f; alone = alone; holder = tt; counts = record { declares = λ v. refl; scopes = λ s. omega arith } }
    walked no_all known e w (plain_member {l = l} {computed = computed} {o = o} {p = p} {w = v} flags h) seen f = member-step o p l computed false v flags f (walked no_all known o v h seen (object-fits n b source reads l o p f))
    walked no_all known e w (plain_call {l = l} {f = g} {arguments = arguments} {w = v} flags h) seen f = call-step g l arguments v f (walked no_all known g v h seen (callee-fits n b source reads l g arguments f))
    walked no_all known e w (marked_member {l = l} {computed = computed} {o = o} {p = p} {w = v} {u = u} flags h t) seen f = member-step o p l computed true u flags f (tested no_all known o v u t seen (continued no_all known o v h (tested-before (IsSeen n) no_all known v u t seen) (object-fits n b source reads l o p f)))
    walked no_all known e w (marked_call {l = l} {f = g} {arguments = arguments} {w = v} {u = u} flags h t) seen f = marked-call-step g l arguments u (called no_all known g l arguments v u t (call-label-fits n b source reads l g arguments f) (arguments-fit n b source reads l g arguments f) seen (continued no_all known g v h (called-before (IsSeen n) no_all known l arguments v u t seen) (callee-fits n b source reads l g arguments f)))

    continued : (no_all : Bool) (known : Whole) (e : Tree) (w : Way) → Continued no_all known e w → Each (IsSeen n) w.taken → Fits n b source reads e → WayFits e w
    continued no_all known e w (same_spine s h) seen f = walked no_all known e w h seen f
    continued no_all known e w (inner_spine {c = c} {l = l} s alone d h) seen f =
        let g : Fits n b source reads (node ChainExpression l (one c then done)) = subst (λ (t : Tree). Fits n b source reads t) d (fits-bare n b source reads e f) in
        let W = walked no_all known c w h seen (content-fits n b source reads l c g) in
        let alike = counts-content e c l alone d in
        record { tests = W.tests; current = W.current; alone = W.alone; holder = W.holder; counts = record { declares = λ v. W.counts.declares v ∙ alike.declares v; scopes = λ s. W.counts.scopes s ∙ alike.scopes s } }

  -- CALLEES

  record BoundFits (e d : Tree) : Type 0 where
    fits : Fits n b source reads d
    counts : Counts reads reads e d

  bind-counts : (e m r : Tree) → Counts reads reads e m → Silent reads r → Counts reads reads e (bind_node m r)
  bind-counts e m r c z = record { declares = λ v. at v; scopes = λ s. let g = c.scopes s in let h = z.scopes s in omega arith }
    where
      at : (v : Bool) → declared v reads (bind_node m r) ≡ declared v reads e
      at true = simp (c.declares true, z.declares true, nil-right)
      at false = simp (c.declares false, z.declares false, nil-right)

  bound-fits : (known : Whole) (holder : Option Bound) (xs : List Bound) (e d : Tree) → BoundCallee known holder xs e d → Each (IsSeen n) xs → Fits n b source reads e → BoundFits e d
  bound-fits known holder xs e d (no_member h) seen f = record { fits = f; counts = counts-self reads e }
  bound-fits known holder xs e d (to_object {k = k} {computed = computed} {o = o} {o1 = o1} {p = p} {r = r} flags h) seen f =
      let R = received is_super known holder xs o o1 r h seen (object-fits n b source reads k o p f) in
      let M = received-member e k computed o o1 p r refl refl flags f R in
      record {
        fits = fits-call n b source reads _ _ (r before empty) (λ g. tt) (fits-member n b source reads (made [] (false ∷ false ∷ [])) (member_at k computed o1 p) (word (codes "bind")) (λ g. tt) M.fits (fits-word n b source (codes "bind"))) (more-among n b source r empty R.receiver (none-among n b source));
        counts = bind-counts e (member_at k computed o1 p) r M.counts R.silent;
      }

  fits-joined : (t : Tree) (ts : List Tree) → Fits n b source reads t → AllFit n b source ts → Fits n b source reads (joined_by_or t ts)
  fits-joined t [] f h = f
  fits-joined t (u ∷ us) f h = fits-joined (joined_by_or t (u ∷ [])) us (fits-logical n b source reads _ t u (λ g. tt) f h.0) h.1

bound-taken : (known : Whole) (holder : Option Bound) (xs : List Bound) (e d : Tree) → BoundCallee known holder xs e d → AreTaken known.in_use known.free_symbol xs
bound-taken known holder xs e d (no_member h) = tt
bound-taken known holder xs e d (to_object {o = o} {o1 = o1} {r = r} flags h) = received-taken is_super known holder xs o o1 r h

-- ROWS

module _ (n : Site) (w : Whole) (bs : List Bound) (taken : AreTaken w.in_use w.free_symbol bs) (t e : Tree) (counts : Counts n.role reads t e) where
  abbrev source : Source
  source = standing n t

  abbrev k : Known
  k = knowing w bs taken

  short-counts : (m : Label) (x : Tree) (xs : List Tree) (short long : Tree) → Silent reads short → CountsWay e (x ∷ xs) long → Counts n.role n.role t (where_short m (x ∷ xs) short long)
  short-counts m x xs short long z c = record { declares = λ v. at v ∙ c.declares v ∙ counts.declares v; scopes = λ s. let f = joined-scopes s x xs in let g = z.scopes s in let h = c.scopes s in let i = counts.scopes s in omega arith }
    where
      at : (v : Bool) → declared v n.role (where_short m (x ∷ xs) short long) ≡ declared_among v reads (trees (x ∷ xs)) ++ declared v reads long
      at true = (λ i. joined-declares true x xs i ++ (z.declares true i ++ nil-right (declared true reads long) i))
      at false = (λ i. joined-declares false x xs i ++ (z.declares false i ++ nil-right (declared false reads long) i))

  short-makes : (m : Label) (tests : List Tree) (short long : Tree) → IsPlain t → has_tests tests ≡ true → Fits k n.names source reads short → Silent reads short → AllFit k n.names source tests → Fits k n.names source reads long → CountsWay e tests long → Makes n w bs t (where_short m tests short long)
  short-makes m [] short long a h f z g i c = absurd (cc h)
  short-makes m (x ∷ xs) short long a h f z g i c = record { taken = taken; old = a; made = plain-conditional _ _; counts = short-counts m x xs short long z c; fits = fits-conditional k n.names source n.role _ _ short long (λ g. tt) (fits-joined k n.names source x xs g.0 g.1) f i }

-- a node that has a chain with this content, by itself or in parentheses
chain-fits : (k : Known) (b : Place) (source : Source) (t e : Tree) (l : Label) → without_parens t ≡ node ChainExpression l (one e then done) → Fits k b source reads t → Fits k b source reads e
chain-fits k b source t e l d f =
    content-fits k b source reads l e (subst (λ (z : Tree). Fits k b source reads z) d (fits-bare k b source reads t f))

counts-chain : (r : Role) (m : Label) (e : Tree) → Counts r reads (node ChainExpression m (one e then done)) e
counts-chain r m e = record { declares = λ v. at v; scopes = λ s. omega arith }
  where
    at : (v : Bool) → declared v reads e ≡ declared v r (node ChainExpression m (one e then done))
    at true = sym (nil-right (declared true reads e))
    at false = sym (nil-right (declared false reads e))

counts-deleted : (r : Role) (m l : Label) (t e : Tree) → is_alone t ≡ true → without_parens t ≡ node ChainExpression l (one e then done) → Counts r reads (node UnaryExpression m (one t then done)) e
counts-deleted r m l t e alone d = record { declares = λ v. (counts-content t e l alone d).declares v ∙ at v; scopes = λ s. let h = (counts-content t e l alone d).scopes s in omega arith }
  where
    at : (v : Bool) → declared v reads t ≡ declared v r (node UnaryExpression m (one t then done))
    at true = sym (nil-right (declared true reads t))
    at false = sym (nil-right (declared false reads t))

deleted-counts : (e : Tree) (ts : List Tree) (current : Tree) → CountsWay e ts current → CountsWay e ts (delete_node current)
deleted-counts e ts current c = record { declares = λ v. (λ i. declared_among v reads (trees ts) ++ at v i) ∙ c.declares v; scopes = λ s. let h = c.scopes s in omega arith }
  where
    at : (v : Bool) → declared v reads (delete_node current) ≡ declared v reads current
    at true = nil-right (declared true reads current)
    at false = nil-right (declared false reads current)

called-counts : (e : Tree) (ts : List Tree) (current d : Tree) → CountsWay e ts current → Counts reads reads current d → CountsWay e ts d
called-counts e ts current d c f = record { declares = λ v. (λ i. declared_among v reads (trees ts) ++ f.declares v i) ∙ c.declares v; scopes = λ s. let h = c.scopes s in let g = f.scopes s in omega arith }

void-silent : Silent reads void_zero_node
void-silent = record { declares = λ v. at v; scopes = λ s. refl }
  where
    at : (v : Bool) → declared v reads void_zero_node ≡ []
    at true = refl
    at false = refl

pub chaining-makes : (no_all : Bool) (n : Site) (w : Whole) (bs : List Bound) (t u : Tree) → OptionalChainingRule no_all n w bs t u → Makes n w bs t u
chaining-makes no_all n w bs t u (by_tests {m = m} {e = e} {w = v} level h some) =
    let taken = walked-taken no_all w e v h in
    let k = knowing w v.taken taken in
    let W = walked k n.names (standing n t) no_all w e v h (all-seen k) (part k n.names _ reads e (λ h. h.1.0) (λ p d. d.2.0) (λ q d. d.1.0)) in
    short-makes n w v.taken taken t e (counts-chain n.role m e) m v.tests void_zero_node v.current (plain-chain m _) some (fits-void k n.names _) void-silent W.tests W.current W.counts
chaining-makes no_all n w bs t u (as_callee {m = m} {e = e} {d = d} {w = v} {xs = xs} level h some c) =
    let taken = taken-append w.in_use w.free_symbol v.taken xs (walked-taken no_all w e v h) (bound-taken (with_made v.taken w) v.holder xs v.current d c) in
    let k = knowing w (v.taken ++ xs) taken in
    let W = walked k n.names (standing n t) no_all w e v h (each-left (IsSeen k) v.taken xs (all-seen k)) (part k n.names _ reads e (λ h. h.1.0) (λ p d. d.2.0) (λ q d. d.1.0)) in
    let B = bound-fits k n.names (standing n t) (with_made v.taken w) v.holder xs v.current d c (each-right (IsSeen k) v.taken xs (all-seen k)) W.current in
    short-makes n w (v.taken ++ xs) taken t e (counts-chain n.role m e) m v.tests void_zero_node d (plain-chain m _) some (fits-void k n.names _) void-silent W.tests B.fits (called-counts e v.tests v.current d W.counts B.counts)
chaining-makes no_all n w bs t u (in_delete {m = m} {l = l} {t = t0} {e = e} {w = v} texts alone d h some) =
    let taken = walked-taken no_all w e v h in
    let k = knowing w v.taken taken in
    let W = walked k n.names (standing n t) no_all w e v h (all-seen k) (chain-fits k n.names _ t0 e l d (part k n.names _ reads t0 (λ h. h.1.0) (λ p d. d.2.0) (λ q d. d.1.0))) in
    short-makes n w v.taken taken t e (counts-deleted n.role m l t0 e alone d) m v.tests true_node (delete_node v.current) (plain-unary m _) some (fits-true k n.names _) (record { declares = λ v. refl; scopes = λ s. refl }) W.tests (fits-unary k n.names _ reads _ v.current (λ g. tt) W.current) (deleted-counts e v.tests v.current W.counts)
