-- Marked steps of a spine: what stands before one is tested, and a chain in parentheses before it is gone on with.
use Rattle.std.proofs.Common.{◌≡◌, refl, Option, Some, None, List, [], ◌∷◌, ◌++◌, ap, subst, sym, ◌∙◌, inl, inr}
use Rattle.std.specs.Prelude.{Bool, true, false, ◌||◌, ◌&&◌, if◌then◌else◌, not}
use Rattle.es_tree.specs.Words.{Text}
use Rattle.es_tree.specs.Fresh.{is_among}
use Rattle.es_tree.specs.Names.{first_text}
use Rattle.es_tree.specs.Parens.{without_parens}
use Rattle.es_tree.specs.Tree.{Tree, node, Label, Fields, done, ◌then◌, missing, one, many, statements, ◌before◌, kind_of}
use Rattle.es_tree.specs.Walks.{all_nodes}
use Rattle.es_tree.specs.declared.ast_type.AstType.TheVariants.{CallExpression, ChainExpression, Identifier, MemberExpression, ParenthesizedExpression}
use Rattle.es_runs.specs.Alike.{Frame, set_cells, Alike, Equal, Level, SameWorld, all_of_it, bad_names, key_need, needs, touches, touches_fields}
use Rattle.es_runs.specs.Alike.Equal.{equal}
use Rattle.es_runs.specs.Alike.Same.{both_give}
use Rattle.es_runs.specs.Core.{World, Meaning, Reference, value, get_value, closed_result, cut_where, chain, key, name, plain_call as run_plain, is_free, meaning, flag, flag_after}
use Rattle.es_runs.specs.Core.Binding.{changeable}
use Rattle.es_runs.specs.Core.Form.{word}
use Rattle.es_runs.specs.Core.Reference.{property}
use Rattle.es_runs.specs.Machine.{Value, M, ◌>>=◌, onward, return, State, Result, is_nullish}
use Rattle.es_runs.specs.Machine.Stop.{throws, waits, uncallable, cut, unknown, breaks, continues, out_of_turns, faults}
use Rattle.es_runs.specs.Machine.Result.{gives, stops}
use Rattle.es_runs.specs.OptionalChaining.{Way, is_chain_kind, is_eval, is_link, is_member, is_name_among, has_tests, member_at, call_method, null_checks, Tested, Walked}
use Rattle.es_runs.specs.OptionalChaining.Tested.{as_name, in_holder, in_temporary}
use Rattle.es_runs.specs.OptionalChaining.Called.{by_name, by_value, by_first_member, by_later_member}
use Rattle.es_runs.specs.OptionalChaining.Walked.{base, plain_member, plain_call, marked_member, marked_call}
use Rattle.es_runs.specs.Duplication.{has_no_fields}
use Rattle.es_runs.specs.Rules.{assign_node, strays}
use Rattle.es_runs.specs.Runs.{identifier, made}
use Rattle.es_runs.specs.Standing.{undeclaring}
use Rattle.es_runs.proofs.Fresh.{or_left}
use Rattle.es_runs.proofs.Named.{among-append, and_left, and_right}
use Rattle.es_runs.proofs.Stripped.{StrippedFree, single_parens, single_reference, stripped_free, stripped_reference}
use Rattle.es_runs.proofs.Temporary.{bytes_eq-self}
use Rattle.es_runs.proofs.SameOthers.{SameOthers}
use Rattle.es_runs.proofs.OptionalChainingCalls.{NoProperty}
use Rattle.es_runs.proofs.OptionalChainingForms.{NoMath, bound_no_math, marked_form, member_no_math}
use Rattle.es_runs.proofs.OptionalChainingKinds.{call_plain, chain_content, first_part, is_declarator, unreceived}
use Rattle.es_runs.proofs.OptionalChainingNeeds.{read_as}
use Rattle.es_runs.proofs.OptionalChainingReceivers.{Covers, Known, hidden_bound, seen_bound}
use Rattle.es_runs.proofs.OptionalChainingStores.{name_alike, name_gives, stored_alike}
use Rattle.es_runs.proofs.OptionalChainingNullChecks.{passes}
use Rattle.es_runs.proofs.OptionalChainingUncut.{AllTidy, tidy_base, tidy_member, tidy_more, tidy_store, tidy_stripped, tidy_tests}
use Rattle.es_runs.proofs.OptionalChainingWalks.{Follows, ObjectParts, Seen, SeenKey, value_follows, from_parts, seen_key, seen_here}

-- NAMES THAT ARE TAKEN

pub covers_first : (hidden : Text → Bool) (xs ys : List Text) → Covers hidden (xs ++ ys) → Covers hidden xs
covers_first hidden xs ys h y e = h y (rw (among-append xs ys y, e) refl)

or_true : (b : Bool) → (b || true) ≡ true
or_true true = refl
or_true false = refl

pub covers_second : (hidden : Text → Bool) (xs ys : List Text) → Covers hidden (xs ++ ys) → Covers hidden ys
covers_second hidden xs ys h y e = h y (rw (among-append xs ys y, e) (or_true (is_among xs y)))

pub among_self : (x : Text) (xs : List Text) → is_among (x ∷ xs) x ≡ true
among_self x xs = rw (bytes_eq-self x) refl

pub among_later : (xs ys : List Text) (x : Text) → is_among ys x ≡ true → is_among (xs ++ ys) x ≡ true
among_later xs ys x e = rw (among-append xs ys x, e) (or_true (is_among xs x))

pub among_first : (xs ys : List Text) (x : Text) → is_among xs x ≡ true → is_among (xs ++ ys) x ≡ true
among_first xs ys x e = rw (among-append xs ys x, e) refl

abbrev pub some_text : Option Text → Text
some_text (Some x) = x
some_text None = []

-- TESTS

more_has : (ts : List Tree) (no_all : Bool) (e again : Tree) → has_tests (ts ++ null_checks no_all e again) ≡ true
more_has [] true e again = refl
more_has [] false e again = refl
more_has (t ∷ ts) no_all e again = refl

pub more_tests : (ts : List Tree) (no_all : Bool) (e again : Tree) → ts ++ null_checks no_all e again ≡ [] → ⊥
more_tests ts no_all e again k = let has : has_tests (ts ++ null_checks no_all e again) ≡ true = more_has ts no_all e again in absurd (cc (rw k at has))

-- A CHAIN THAT IS GONE ON WITH

pub formed_stripped : (t : Tree) → all_nodes undeclaring t ≡ true → all_nodes undeclaring (without_parens t) ≡ true
formed_stripped (node ParenthesizedExpression l (one t then fs)) h = formed_stripped t (first_part ParenthesizedExpression l t fs refl h).1
formed_stripped (node ParenthesizedExpression l (missing then fs)) h = h
formed_stripped (node ParenthesizedExpression l (many ts then fs)) h = h
formed_stripped (node ParenthesizedExpression l (statements ts then fs)) h = h
formed_stripped (node ParenthesizedExpression l done) h = h
formed_stripped (node _ l fs) h = h

-- where a chain is cut short, so is what tests its value
closed_value_tested : (w : World) {A : Type 0} (k : Value → M A) (q : Result Reference) → onward (onward (closed_result q) (get_value w)) (λ u. cut_where (is_nullish u) (k u)) ≡ onward (onward q (get_value w)) (λ u. cut_where (is_nullish u) (k u))
closed_value_tested w k (gives r s) = refl
closed_value_tested w k (stops cut s) = refl
closed_value_tested w k (stops (throws u) s) = refl
closed_value_tested w k (stops waits s) = refl
closed_value_tested w k (stops uncallable s) = refl
closed_value_tested w k (stops unknown s) = refl
closed_value_tested w k (stops (breaks l) s) = refl
closed_value_tested w k (stops (continues l) s) = refl
closed_value_tested w k (stops out_of_turns s) = refl
closed_value_tested w k (stops (faults z) s) = refl

closed_callee_tested : (w : World) (es : List Meaning) (q : Result Reference) → onward (closed_result q) (run_plain w true es) ≡ onward q (run_plain w true es)
closed_callee_tested w es (gives r s) = refl
closed_callee_tested w es (stops cut s) = refl
closed_callee_tested w es (stops (throws u) s) = refl
closed_callee_tested w es (stops waits s) = refl
closed_callee_tested w es (stops uncallable s) = refl
closed_callee_tested w es (stops unknown s) = refl
closed_callee_tested w es (stops (breaks l) s) = refl
closed_callee_tested w es (stops (continues l) s) = refl
closed_callee_tested w es (stops out_of_turns s) = refl
closed_callee_tested w es (stops (faults z) s) = refl

cut_return : {A : Type 0} (k : Value → M A) (q : Result Value) → onward q (λ u. cut_where (is_nullish u) (k u)) ≡ onward (onward q (λ u. cut_where (is_nullish u) (return u))) k
cut_return {A} k (gives u s) = at (is_nullish u)
  where
    at : (b : Bool) → cut_where b (k u) s ≡ onward (cut_where b (return u) s) k
    at true = refl
    at false = refl
cut_return k (stops n s) = refl

-- what a spine becomes gives a member only where it is one
pub spine_receives : (v : World) {no_all : Bool} {bound steady in_use : Text → Bool} {e : Tree} {way : Way} → Walked no_all bound steady in_use e way → (is_link e || not (is_chain_kind (kind_of (without_parens e)))) ≡ true → is_declarator (kind_of e) ≡ false → all_nodes undeclaring e ≡ true →
    is_member (without_parens way.current) ≡ false → (s : State) → NoProperty ((meaning v way.current).reference s)
spine_receives v (base {e = e} link) h d u m s = unreceived v e m (not_chain (is_link e) (is_chain_kind (kind_of (without_parens e))) link h) d u s
  where
    not_chain : (a b : Bool) → a ≡ false → (a || not b) ≡ true → b ≡ false
    not_chain false false e h = refl
    not_chain false true e h = absurd (cc h)
    not_chain true b e h = absurd (cc e)
spine_receives v (plain_member flags below) h d u m s = absurd (cc m)
spine_receives v (plain_call {l = l} {arguments = ts} {w = way} flags below) h d u m s = call_plain v l way.current ts s
spine_receives v (marked_member flags below test) h d u m s = absurd (cc m)
spine_receives v (marked_call {l = l} {arguments = ts} flags below (by_name {w = way} none again)) h d u m s = call_plain v l (without_parens way.current) ts s
spine_receives v (marked_call {l = l} {arguments = ts} flags below (by_value {c = c} none member fresh)) h d u m s = call_plain v l (identifier c) ts s
spine_receives v (marked_call {l = l} {arguments = ts} flags below (by_first_member {r = r} {c = c} none member k fresh receives)) h d u m s = call_plain v l (call_method (identifier c)) (r before ts) s
spine_receives v (marked_call {l = l} {arguments = ts} flags below (by_later_member {r = r} {c = c} some member k receives fresh)) h d u m s = call_plain v l (call_method (identifier c)) (r before ts) s

module _ (no_all : Bool) (hidden steady bound in_use : Text → Bool) (w v : World) (counts : v.counts_all ≡ not no_all) (same : SameWorld hidden w v) (others : SameOthers hidden steady w v) (vars : (y : Text) → hidden y ≡ true → v.scope y ≡ changeable) (steady_bound : (y : Text) → steady y ≡ true → is_free (w.scope y) ≡ false) (binds : (y : Text) → bound y ≡ true → is_free (w.scope y) ≡ false) where
  abbrev F : Frame
  F = set_cells hidden

  abbrev bad : Level → Text → Bool
  bad = bad_names hidden steady

  abbrev FollowsHere : Meaning → Way → Type 0
  FollowsHere = Follows hidden steady w v same others steady_bound

  abbrev SeenHere : Tree → Type 0
  SeenHere = Seen hidden steady w v same others steady_bound

  -- BEFORE A MARKED STEP

  -- what stands there goes on from a meaning that the spine follows
  pub record Continues (e : Tree) (way : Way) : Type 0 where
    pub source : Meaning
    pub follows : FollowsHere source way
    pub receives : is_member (without_parens way.current) ≡ false → (s : State) → NoProperty ((meaning v way.current).reference s)
    pub as_value : (k : Value → M Reference) (s : State) → onward (value w (meaning w e) s) (λ u. cut_where (is_nullish u) (k u)) ≡ onward (value w source s) (λ u. cut_where (is_nullish u) (k u))
    pub as_callee : (es : List Meaning) (s : State) → onward ((meaning w e).reference s) (run_plain w true es) ≡ onward (source.reference s) (run_plain w true es)

  pub continues_same : {e : Tree} {way : Way} → (is_link e || not (is_chain_kind (kind_of (without_parens e)))) ≡ true → is_declarator (kind_of e) ≡ false → SeenHere e → Walked no_all bound steady in_use e way → FollowsHere (meaning w e) way → Continues e way
  continues_same {e} h d seen walked follows = record {
    source = meaning w e;
    follows = follows;
    receives = spine_receives v walked h d seen.formed;
    as_value = λ k s. refl;
    as_callee = λ es s. refl;
  }

  -- the content of a chain in parentheses
  pub seen_content : (e c : Tree) (l : Label) → is_link e ≡ false → without_parens e ≡ node ChainExpression l (one c then done) → SeenHere e → SeenHere c × (is_link c ≡ true)
  seen_content e c l link inner h =
      let below : StrippedFree bad Level.whole_reference e = stripped_free bad Level.whole_reference true e h.untouched in
      let free : touches bad (record { level = Level.whole_reference; form = below.form }) (node ChainExpression l (one c then done)) ≡ false = rw inner at below.free in
      let tidy : strays false (node ChainExpression l (one c then done)) ≡ false = rw inner at (tidy_stripped e (tidy_base e link h.tidy)) in
      let formed : all_nodes undeclaring (node ChainExpression l (one c then done)) ≡ true = rw inner at (formed_stripped e h.formed) in
      let content = chain_content l c formed in
      let here : touches bad (record { level = Level.whole_reference; form = false }) c ≡ false = or_left (touches bad (record { level = Level.whole_reference; form = false }) c) false free in (
        record {
          untouched = read_as hidden steady (record { level = Level.whole_reference; form = false }) all_of_it refl refl c here;
          tidy = or_left (strays true c) false tidy;
          formed = content.1;
        },
        content.0,
      )

  link_is : (a b : Bool) → a ≡ true → (a || b) ≡ true
  link_is true b e = refl
  link_is false b e = absurd (cc e)

  link_declares : (c : Tree) → is_link c ≡ true → is_declarator (kind_of c) ≡ false
  link_declares (node MemberExpression l fs) e = refl
  link_declares (node CallExpression l fs) e = refl
  link_declares (node k l fs) e = absurd (cc e)

  pub continues_inner : {e c : Tree} {l : Label} {way : Way} → SeenHere e → without_parens e ≡ node ChainExpression l (one c then done) → SeenHere c → is_link c ≡ true → Walked no_all bound steady in_use c way → FollowsHere (meaning w c) way → Continues e way
  continues_inner {e} {c} {l} outer inner seen link walked follows =
      let same_reference : (meaning w e).reference ≡ (chain (meaning w c)).reference = stripped_reference w e outer.formed ∙ ap (λ t. (meaning w t).reference) inner in
      record {
        source = meaning w c;
        follows = follows;
        receives = spine_receives v walked (link_is (is_link c) (not (is_chain_kind (kind_of (without_parens c)))) link) (link_declares c link) seen.formed;
        as_value = λ k s. ap (λ m. onward (onward (m s) (get_value w)) (λ u. cut_where (is_nullish u) (k u))) same_reference ∙ closed_value_tested w k ((meaning w c).reference s);
        as_callee = λ es s. ap (λ m. onward (m s) (run_plain w true es)) same_reference ∙ closed_callee_tested w es ((meaning w c).reference s);
      }

  -- A VALUE THAT IS TESTED

  -- the value before a marked member, tested: a name has it then
  record AfterTest (source : Meaning) (way : Way) : Type 0 where
    name : Text
    alike : Alike F Equal (value w source >>= λ u. cut_where (is_nullish u) (return u)) (passes v way.tests (value v (meaning v way.current)))
    form : (meaning v way.current).form ≡ word name
    bound_name : is_free (v.scope name) ≡ false
    known : Known hidden way.taken way.current
    tidy : strays false way.current ≡ false
    tests_tidy : AllTidy way.tests
    tested : has_tests way.tests ≡ true
    holder : (x : Text) → way.holder ≡ Some x → is_among way.taken x ≡ true

  stripped_value : (u : World) (t : Tree) → single_parens t ≡ true → value u (meaning u (without_parens t)) ≡ value u (meaning u t)
  stripped_value u t h = ap (λ m. m >>= get_value u) (sym (single_reference u t h))

  -- a name of the source that is bound
  pub record BoundName (y : Text) : Type 0 where
    pub seen : hidden y ≡ false
    pub bound_name : is_free (v.scope y) ≡ false

  pub bound_name_of : {source : Meaning} {way : Way} → FollowsHere source way → way.tests ≡ [] → (l : Label) (fs : Fields) → without_parens way.current ≡ node Identifier l fs → is_name_among bound (node Identifier l fs) ≡ true → BoundName (first_text l.texts)
  bound_name_of {source} {way} follows none l fs here named_one =
      let y : Text = first_text l.texts in
      let below : StrippedFree bad Level.whole_reference way.current = stripped_free bad Level.whole_reference true way.current (follows.untouched none) in
      let free : touches bad (record { level = Level.whole_reference; form = below.form }) (node Identifier l fs) ≡ false = rw here at below.free in
      let seen : hidden y ≡ false = or_left (hidden y) (touches_fields bad (needs (record { level = Level.whole_reference; form = below.form }) Identifier l.texts l.flags) fs) free in
      let among : bound y ≡ true = and_right (has_no_fields fs) (bound y) (and_left (has_no_fields fs && bound y) (not (is_eval y)) named_one) in
      record { seen = seen; bound_name = seen_bound hidden steady w v same vars steady_bound y seen (binds y among) }

  -- its value, in the source
  pub name_value : {source : Meaning} {way : Way} → FollowsHere source way → way.tests ≡ [] → (l : Label) (fs : Fields) → without_parens way.current ≡ node Identifier l fs → Alike F Equal (value w source) (value v (name (first_text l.texts)))
  name_value {source} {way} follows none l fs here =
      let same_value : value v (meaning v way.current) ≡ value v (name (first_text l.texts)) = sym (stripped_value v way.current follows.single) ∙ ap (λ t. value v (meaning v t)) here in
      subst (Alike F Equal (value w source)) (ap (λ ts. passes v ts (value v (meaning v way.current))) none ∙ same_value) (value_follows hidden steady w v same others steady_bound follows)

  after_name : {source : Meaning} {way : Way} → FollowsHere source way → way.tests ≡ [] → (t : Tree) → without_parens way.current ≡ t → is_name_among bound t ≡ true → AfterTest source (record way { tests = null_checks no_all t t; current = t })
  after_name {source} {way} follows none (node Identifier l fs) here named_one =
      let y : Text = first_text l.texts in
      let known_name : BoundName y = bound_name_of follows none l fs here named_one in
      let tidy : strays false (node Identifier l fs) ≡ false = rw here at (tidy_stripped way.current follows.tidy) in
      record {
        name = y;
        alike = name_alike hidden steady w v same vars l fs known_name.bound_name no_all counts return (value w source) (value v (name y)) (name_value follows none l fs here) (λ u s t g e. rw (name_gives hidden steady w v same vars l fs known_name.bound_name u t e) (both_give equal g));
        form = refl;
        bound_name = known_name.bound_name;
        known = inl known_name.seen;
        tidy = tidy;
        tests_tidy = tidy_tests no_all (node Identifier l fs) (node Identifier l fs) tidy tidy;
        tested = more_has [] no_all (node Identifier l fs) (node Identifier l fs);
        holder = follows.holder;
      }
  after_name follows none (node _ l fs) here named_one = absurd (cc named_one)

  -- what is stored, in the source
  pub stored_follows : {source : Meaning} {way : Way} → FollowsHere source way → Alike F Equal (value w source) (passes v way.tests (value v (meaning v (without_parens way.current))))
  stored_follows {source} {way} follows = subst (λ m. Alike F Equal (value w source) (passes v way.tests m)) (sym (stripped_value v way.current follows.single)) (value_follows hidden steady w v same others steady_bound follows)

  after_store : {source : Meaning} {way : Way} (x : Text) (taken : List Text) (held : Option Text) → hidden x ≡ true → is_among taken x ≡ true → ((y : Text) → held ≡ Some y → is_among taken y ≡ true) → FollowsHere source way →
      AfterTest source (record { tests = way.tests ++ null_checks no_all (assign_node (identifier x) (without_parens way.current)) (identifier x); current = identifier x; holder = held; taken = taken })
  after_store {source} {way} x taken held x_hidden mine holder follows =
      let e : Tree = without_parens way.current in
      let tidy : strays false e ≡ false = tidy_stripped way.current follows.tidy in
      let x_bound : is_free (v.scope x) ≡ false = hidden_bound hidden steady w v same vars steady_bound x x_hidden in
      record {
        name = x;
        alike = stored_alike hidden steady w v same vars no_all x x_hidden counts way.tests e return (value w source) (value v (name x)) (stored_follows follows) (λ u s t g k. rw (name_gives hidden steady w v same vars (made (Some x ∷ []) []) done x_bound u t k) (both_give equal g));
        form = refl;
        bound_name = x_bound;
        known = inr mine;
        tidy = refl;
        tests_tidy = tidy_more way.tests (null_checks no_all (assign_node (identifier x) e) (identifier x)) follows.tests_tidy (tidy_tests no_all (assign_node (identifier x) e) (identifier x) (tidy_store x e tidy) refl);
        tested = more_has way.tests no_all (assign_node (identifier x) e) (identifier x);
        holder = holder;
      }

  pub tested_covers : {way next : Way} → Tested no_all bound in_use way next → Covers hidden next.taken → Covers hidden way.taken
  tested_covers (as_name none named_one) cover = cover
  tested_covers (in_holder held) cover = cover
  tested_covers (in_temporary {w = way} {x = x} name none fresh) cover = covers_first hidden way.taken (x ∷ []) cover

  after_test : {source : Meaning} {way next : Way} → Tested no_all bound in_use way next → Covers hidden next.taken → FollowsHere source way → AfterTest source next
  after_test (as_name {w = way} none named_one) cover follows = after_name follows none (without_parens way.current) refl named_one
  after_test (in_holder {w = way} {x = x} held) cover follows = after_store x way.taken way.holder (cover x (follows.holder x held)) (follows.holder x held) follows.holder follows
  after_test (in_temporary {w = way} {x = x} name none fresh) cover follows =
      let mine : is_among (way.taken ++ x ∷ []) x ≡ true = among_later way.taken (x ∷ []) x (among_self x []) in
      after_store x (way.taken ++ x ∷ []) (Some x) (cover x mine) mine (λ y k. let i : x ≡ y = ap some_text k in rw (← i) mine) follows

  -- A MARKED MEMBER

  pub follows_marked : (l : Label) (computed : Bool) (o p : Tree) (way next : Way) → l.flags ≡ computed ∷ true ∷ [] → SeenHere (node MemberExpression l (one o then one p then done)) → (from : Continues o way) → Tested no_all bound in_use way next → Covers hidden next.taken →
      FollowsHere (meaning w (node MemberExpression l (one o then one p then done))) (record next { current = member_at l computed next.current p })
  follows_marked l computed o p way next flags seen from test cover =
      let after : AfterTest from.source next = after_test test cover from.follows in
      let keys : SeenKey hidden steady w v same others steady_bound computed p = rw (ap flag flags) at (seen_key hidden steady w v same others steady_bound l o p seen) in
      let whole : Way = record next { current = member_at l computed next.current p } in
      let parts : ObjectParts hidden steady w v same others steady_bound (meaning w (node MemberExpression l (one o then one p then done))).reference whole computed next.current p = record {
        object = value w from.source >>= λ u. cut_where (is_nullish u) (return u);
        splits = λ s. rw (ap flag flags, ap flag_after flags) (from.as_value (λ u. key w computed (meaning w p) >>= λ k. return (property u k)) s ∙ cut_return (λ u. key w computed (meaning w p) >>= λ k. return (property u k)) (value w from.source s));
        alike = after.alike;
        keys = keys;
        known = after.known;
        tidy = after.tidy;
      } in
      let no_math : NoMath v (word after.name) = bound_no_math v after.name after.bound_name in
      record {
        reference = from_parts hidden steady w v same others steady_bound parts;
        form = rw (ap flag flags, ap flag_after flags, after.form) (marked_form w v computed (meaning w o).form after.name (meaning w p).form (meaning v p).form no_math (λ e. (seen_here hidden steady w v same others steady_bound (key_need computed) p keys.untouched).form (rw e refl)));
        object = λ _. parts;
        known = tt;
        no_math = λ k. member_no_math v computed (meaning v next.current).form (meaning v p).form (subst (NoMath v) (sym after.form) no_math);
        untouched = λ k. let has : has_tests next.tests ≡ true = after.tested in absurd (cc (rw k at has));
        tidy = tidy_member l computed next.current p after.tidy keys.tidy;
        single = refl;
        tests_tidy = after.tests_tidy;
        holder = after.holder;
      }
