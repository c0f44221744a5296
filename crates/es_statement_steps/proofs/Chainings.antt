-- The rows of optional chaining keep the runs of statements, whatever the operands are.
use Rattle.std.proofs.Common.{◌≡◌, ◌+◌, arith, ℕ, refl, sym, ap, subst, ◌∙◌, List, [], ◌∷◌, ◌++◌, length}
use Rattle.std.specs.Prelude.{Bool, true, false, Option, Some, None, is_some}
use Rattle.es_tree.specs.Bare.{bare, bare_label, bare_trees}
use Rattle.es_tree.specs.Fresh.{IsFreshName, also, node_base}
use Rattle.es_tree.specs.Parens.{without_parens}
use Rattle.es_tree.specs.Scopes.{Declared}
use Rattle.es_tree.specs.Tree.{Tree, node, Label, done, ◌then◌, one, Trees, ◌before◌, kind_of}
use Rattle.es_tree.specs.Words.{Text}
use Rattle.es_tree.specs.declared.ast_type.AstType.TheVariants.{ChainExpression, MemberExpression, UnaryExpression}
use Rattle.es_runs.specs.Alike.{Level, Need, SameWorld}
use Rattle.es_runs.specs.Alike.Level.{a_callee}
use Rattle.es_runs.specs.Core.{World}
use Rattle.es_runs.specs.NullishCoalescing.{also_all as also_names}
use Rattle.es_runs.specs.OptionalChaining.{is_chain_kind, call_at, delete_node, has_tests, is_member, is_super, is_this_or_super, member_at, null_checks, stored_call as stored_by_name, takes_value, this_node, true_node, where_short, is_name_among as is_name_among_by_name, start as start_by_name, bind_node as bind_by_name, Receives as ReceivesByName, Way as WayByName, Tested as TestedByName, Called as CalledByName, Walked as WalkedByName, Continued as ContinuedByName, BoundCallee as BoundCalleeByName, OptionalChainingRule as OptionalChainingByName}
use Rattle.es_runs.specs.OptionalChaining.Receives.{by_this as plain_by_this, by_name as plain_by_name, by_temporary as plain_by_temporary}
use Rattle.es_runs.specs.OptionalChaining.Tested.{as_name as plain_as_name, in_holder as plain_in_holder, in_temporary as plain_in_temporary}
use Rattle.es_runs.specs.OptionalChaining.Called.{by_name as plain_called_by_name, by_value as plain_by_value, by_first_member as plain_by_first_member, by_later_member as plain_by_later_member}
use Rattle.es_runs.specs.OptionalChaining.Walked.{base as plain_base, plain_member as plain_plain_member, plain_call as plain_plain_call, marked_member as plain_marked_member, marked_call as plain_marked_call}
use Rattle.es_runs.specs.OptionalChaining.Continued.{same_spine as plain_same_spine, inner_spine as plain_inner_spine}
use Rattle.es_runs.specs.OptionalChaining.BoundCallee.{no_member as plain_no_member, to_object as plain_to_object}
use Rattle.es_runs.specs.OptionalChaining.OptionalChainingRule.{by_tests as plain_by_tests, as_callee as plain_as_callee, in_delete as plain_in_delete}
use Rattle.es_runs.specs.Rules.{assign_node, strays, void_zero_node}
use Rattle.es_runs.specs.Runs.{identifier as identifier_called}
use Rattle.es_semantic.specs.RolesOf.{role_at}
use Rattle.es_resolution.specs.Declarations.{Bound}
use Rattle.es_resolution.specs.Named.{Named}
use Rattle.es_resolution.specs.Resolved.{Resolved, place_in}
use Rattle.es_steps.specs.CoreBridge.{names_among}
use Rattle.es_steps.specs.Duplication.{IsNext, is_among_symbols}
use Rattle.es_steps.specs.Nodes.{identifier}
use Rattle.es_steps.specs.OptionalChaining.{BoundCallee, Called, Continued, OptionalChainingRule, Receives, Tested, Walked, Way, is_name_among, or_held, stored_call}
use Rattle.es_steps.specs.OptionalChaining.Receives.{by_this, by_name, by_temporary}
use Rattle.es_steps.specs.OptionalChaining.Tested.{as_name, in_holder, in_temporary}
use Rattle.es_steps.specs.OptionalChaining.Called.{by_name as called_by_name, by_value, by_first_member, by_later_member}
use Rattle.es_steps.specs.OptionalChaining.Walked.{base, plain_member, plain_call, marked_member, marked_call}
use Rattle.es_steps.specs.OptionalChaining.Continued.{same_spine, inner_spine}
use Rattle.es_steps.specs.OptionalChaining.BoundCallee.{no_member, to_object}
use Rattle.es_steps.specs.OptionalChaining.OptionalChainingRule.{by_tests, as_callee, in_delete}
use Rattle.es_steps.specs.Rules.{with_made}
use Rattle.es_steps.specs.Steps.{Site, Whole}
use Rattle.es_steps.specs.WrapRule.{OutsideSlots}
use Rattle.es_statement_runs.specs.Alike.{Quiet, SenseLike}
use Rattle.es_statement_runs.specs.Helpers.Supply.{no_helpers}
use Rattle.es_statement_runs.specs.Kinds.{sense}
use Rattle.es_statement_runs.specs.Laws.{among_names, chaining}
use Rattle.es_statement_runs.specs.Places.{Take, avoids, placed_at}
use Rattle.es_statement_runs.proofs.Moved.{is_mute}
use Rattle.es_statement_runs.proofs.OperandRows.{chaining_kept, nothing_asked}
use Rattle.es_statement_steps.proofs.ChainSenses.{base-by-bare, bind-same, checks-same, delete-same, none-first, none-too, placed-same, short-same, some-checks, tests-some}
use Rattle.es_statement_steps.proofs.Doublings.{also-same, names-both, steady_names}
use Rattle.es_statement_steps.proofs.FoundNames.{Finds}
use Rattle.es_statement_steps.proofs.NewNames.{free-before, new-both, new-one, no-new}
use Rattle.es_statement_steps.proofs.Replacings.{RowShape}
use Rattle.es_statement_steps.proofs.Rooms.{stays_put}
use Rattle.es_statement_steps.proofs.RowRuns.{WorldsKnown, bad_temporaries, temporaries_frame}
use Rattle.es_statement_steps.proofs.SameSenses.{EachSame, SameSense, assign-same, before-same, each-both}
use Rattle.es_statement_steps.proofs.SettledRows.{ByNames, SoundRow, bound_names, settled-like, sound-settled}
use Rattle.es_statement_steps.proofs.Spellings.{Hung, HolderNew, IsNewHolder, Spelled, alone-bound, alone-held, called, hung, hung-parens, member-spelled, spelled-bare, spelled-member, spelled-parens, spelled-same, spelled-super, spelled-this, steady_here}
use Rattle.es_statement_steps.proofs.Spellings.Spelled.{as_source, as_holder, at_member, at_call}
use Rattle.es_statement_steps.proofs.Stands.{is_inner, is_item}
use Rattle.es_statement_steps.proofs.StepMoves.{AreNew, Fine}

-- SPINES

module _ (no_all : Bool) (known : Whole) (look : Text → Option ℕ) where
  abbrev used : Text → Bool
  used = known.in_use

  abbrev free : ℕ
  free = known.free_symbol

  abbrev bound : Text → Bool
  bound x = is_some (look x)

  abbrev steady : Text → Bool
  steady = steady_here look used free known.steady

  abbrev Spells : Option Bound → Tree → Tree → Type 0
  Spells h c d = Spelled look used free h c d

  -- what is known of a spine that is lowered so far
  record Walk (w : Way) (v : WayByName) : Type 0 where
    tests : EachSame v.tests w.tests
    current : Spells w.holder w.current v.current
    holder : v.holder ≡ called look used free w.holder
    new : HolderNew look used free w.holder
    taken : v.taken ≡ names_among w.taken
    first : w.tests ≡ [] → w.holder ≡ None

  in-use-so : (w : Way) (v : WayByName) → v.taken ≡ names_among w.taken → (with_made w.taken known).in_use ≡ also_names v.taken used
  in-use-so w v e = also-same w.taken used ∙ ap (λ (zs : List Text). also_names zs used) (sym e)

  fresh-so : (w : Way) (v : WayByName) → v.taken ≡ names_among w.taken → (basis other : Text) (b : Bound) → other ≡ basis → IsNext (with_made w.taken known) basis b → IsFreshName (also_names v.taken used) other b.name
  fresh-so w v e basis other b same next = subst (λ (x : Text). IsFreshName (also_names v.taken used) x b.name) (sym same) (subst (λ (f : Text → Bool). IsFreshName f basis b.name) (in-use-so w v e) next.fresh)

  holder-by : (w : Whole) (n : ℕ) → w.free_symbol ≡ free + n → ((x : Text) → w.in_use x ≡ false → used x ≡ false) → (basis : Text) (b : Bound) → IsNext w basis b → IsNewHolder look used free b
  holder-by w n e away basis b next = record { number = w.free_symbol; symbol = next.symbol; later = omega (arith, e); unused = away b.name next.fresh.free }

  holder-so : (bs : List Bound) (basis : Text) (b : Bound) → IsNext (with_made bs known) basis b → IsNewHolder look used free b
  holder-so bs basis b next = holder-by (with_made bs known) (length bs) refl (free-before bs used) basis b next

  record Tests (w u : Way) (v : WayByName) : Type 0 where
    way : WayByName
    rule : TestedByName no_all bound used v way
    after : Walk u way

  more-tests : (w : Way) (v : WayByName) (c d a b : Tree) → EachSame v.tests w.tests → SameSense d c → SameSense b a → EachSame (v.tests ++ null_checks no_all d b) (w.tests ++ null_checks no_all c a)
  more-tests w v c d a b h g k = each-both v.tests w.tests (null_checks no_all d b) (null_checks no_all c a) h (checks-same no_all d c b a g k)

  alone-so : (w : Way) (v : WayByName) → Walk w v → w.tests ≡ [] → is_name_among_by_name bound (without_parens v.current) ≡ is_name_among is_some (without_parens w.current)
  alone-so w v h e = alone-bound look used free (subst (λ (o : Option Bound). Spells o (without_parens w.current) (without_parens v.current)) (h.first e) (spelled-parens look used free h.current))

  tests-so : (w : Way) (v : WayByName) → Walk w v → {u : Way} → Tested no_all known w u → Tests w u v
  tests-so w v h (as_name e d) =
      let at = spelled-parens look used free h.current in
      let same = spelled-same look used free at in
      record {
        way = record v { tests = null_checks no_all (without_parens v.current) (without_parens v.current); current = without_parens v.current };
        rule = plain_as_name (none-too v.tests w.tests h.tests e) (alone-so w v h e ∙ d);
        after = record { tests = checks-same no_all (without_parens v.current) (without_parens w.current) (without_parens v.current) (without_parens w.current) same same; current = at; holder = h.holder; new = h.new; taken = h.taken; first = λ k. absurd (some-checks no_all [] (without_parens w.current) (without_parens w.current) k) };
      }
  tests-so w v h (in_holder {x = x} e) =
      let at = spelled-parens look used free h.current in
      let c = without_parens w.current in
      let d = without_parens v.current in
      record {
        way = record v { tests = v.tests ++ null_checks no_all (assign_node (identifier_called x.name) d) (identifier_called x.name); current = identifier_called x.name };
        rule = plain_in_holder (h.holder ∙ ap (called look used free) e);
        after = record { tests = more-tests w v (assign_node (identifier x) c) (assign_node (identifier_called x.name) d) (identifier x) (identifier_called x.name) h.tests (assign-same (identifier_called x.name) (identifier x) d c (λ p. refl) (spelled-same look used free at)) (λ p. refl); current = as_holder e; holder = h.holder; new = h.new; taken = h.taken; first = λ k. absurd (some-checks no_all w.tests (assign_node (identifier x) c) (identifier x) k) };
      }
  tests-so w v h (in_temporary {x = x} e none next) =
      let at = spelled-parens look used free h.current in
      let c = without_parens w.current in
      let d = without_parens v.current in
      record {
        way = record { tests = v.tests ++ null_checks no_all (assign_node (identifier_called x.name) d) (identifier_called x.name); current = identifier_called x.name; holder = Some x.name; taken = v.taken ++ x.name ∷ [] };
        rule = plain_in_temporary (λ k. let g = none-first v.tests w.tests h.tests k in alone-so w v h g ∙ e g) (h.holder ∙ ap (called look used free) none) (fresh-so w v h.taken (node_base w.current) (node_base v.current) x (base-by-bare v.current w.current (spelled-bare look used free h.current)) next);
        after = record { tests = more-tests w v (assign_node (identifier x) c) (assign_node (identifier_called x.name) d) (identifier x) (identifier_called x.name) h.tests (assign-same (identifier_called x.name) (identifier x) d c (λ p. refl) (spelled-same look used free at)) (λ p. refl); current = as_holder refl; holder = refl; new = holder-so w.taken (node_base w.current) x next; taken = ap (λ (zs : List Text). zs ++ x.name ∷ []) h.taken ∙ sym (names-both w.taken (x ∷ [])); first = λ k. absurd (some-checks no_all w.tests (assign_node (identifier x) c) (identifier x) k) };
      }

  -- RECEIVERS

  record Received (to_this : Tree → Bool) (holder : Option Bound) (in_use : Text → Bool) (xs : List Bound) (u o1 r : Tree) : Type 0 where
    begun : Tree
    again : Tree
    rule : ReceivesByName to_this steady in_use (called look used free holder) (names_among xs) u begun again
    begun_same : SameSense begun o1
    begun_bare : bare begun ≡ bare o1
    again_same : SameSense again r
    again_bare : bare again ≡ bare r

  received : (to_this : Tree → Bool) (w : Whole) (holder : Option Bound) → w.steady ≡ known.steady → HolderNew look used free holder → {xs : List Bound} {o o1 r : Tree} → Receives to_this w holder xs o o1 r → (u : Tree) → Spells holder o u → to_this u ≡ to_this o →
      Received to_this holder w.in_use xs u o1 r
  received to_this w holder s new (by_this e) u h same = record { begun = u; again = this_node; rule = plain_by_this (same ∙ e); begun_same = spelled-same look used free h; begun_bare = spelled-bare look used free h; again_same = λ p. refl; again_bare = refl }
  received to_this w holder s new (by_name {o = o} e d) u h same =
      let name = alone-held look used free known.steady new h ∙ ap (λ (f : ℕ → Bool). is_name_among (or_held holder (is_among_symbols f)) o) (sym s) in
      record { begun = u; again = u; rule = plain_by_name (same ∙ e) (name ∙ d); begun_same = spelled-same look used free h; begun_bare = spelled-bare look used free h; again_same = spelled-same look used free h; again_bare = spelled-bare look used free h }
  received to_this w holder s new (by_temporary {o = o} {r = r} e d next) u h same =
      let name = alone-held look used free known.steady new h ∙ ap (λ (f : ℕ → Bool). is_name_among (or_held holder (is_among_symbols f)) o) (sym s) in
      record {
        begun = assign_node (identifier_called r.name) u;
        again = identifier_called r.name;
        rule = plain_by_temporary (same ∙ e) (name ∙ d) (subst (λ (x : Text). IsFreshName w.in_use x r.name) (sym (base-by-bare u o (spelled-bare look used free h))) next.fresh);
        begun_same = assign-same (identifier_called r.name) (identifier r) u o (λ p. refl) (spelled-same look used free h);
        begun_bare = λ i. assign_node (bare (identifier r)) (spelled-bare look used free h i);
        again_same = λ p. refl;
        again_bare = refl;
      }

  -- CALLS

  record Calls (l : Label) (arguments : Trees) (w u : Way) (v : WayByName) : Type 0 where
    way : WayByName
    rule : CalledByName no_all bound steady used l arguments v way
    after : Walk u way

  record HasFirst (ts : List Tree) : Type 0 where
    first : Tree
    rest : List Tree
    is : ts ≡ first ∷ rest

  first-too : (ts us : List Tree) (u : Tree) (more : List Tree) → EachSame ts us → us ≡ u ∷ more → HasFirst ts
  first-too [] [] u more h e = absurd (cc e)
  first-too [] (a ∷ us) u more h e = absurd h
  first-too (t ∷ ts) us u more h e = record { first = t; rest = ts; is = refl }

  -- a callee that is stored, with its receiver
  stored-walk : (l : Label) (arguments : Trees) (w : Way) (v : WayByName) (h : Walk w v) (names : List Bound) (xs : List Text) (c : Bound) (callee member r again : Tree) → xs ≡ names_among names → SameSense member callee → SameSense again r → bare again ≡ bare r → IsNewHolder look used free c →
      Walk (stored_call no_all l arguments w names c callee r) (stored_by_name no_all l arguments v xs c.name member again)
  stored-walk l arguments w v h names xs c callee member r again e same receives as_bare new = record {
    tests = more-tests w v (assign_node (identifier c) callee) (assign_node (identifier_called c.name) member) (identifier c) (identifier_called c.name) h.tests (assign-same (identifier_called c.name) (identifier c) member callee (λ p. refl) same) (λ p. refl);
    current = at_call (at_member (as_holder refl) (λ p. refl) refl) (before-same again r arguments arguments receives (λ p. refl)) (λ i. as_bare i before bare_trees arguments);
    holder = refl;
    new = new;
    taken = (λ i. h.taken i ++ e i) ∙ sym (names-both w.taken names);
    first = λ k. absurd (some-checks no_all w.tests (assign_node (identifier c) callee) (identifier c) k);
  }

  calls-so : (l : Label) (arguments : Trees) (w : Way) (v : WayByName) → Walk w v → {u : Way} → Called no_all known l arguments w u → Calls l arguments w u v
  calls-so l arguments w v h (called_by_name e d) =
      let at = spelled-parens look used free h.current in
      let same = spelled-same look used free at in
      record {
        way = record v { tests = null_checks no_all (without_parens v.current) (without_parens v.current); current = call_at l (without_parens v.current) arguments };
        rule = plain_called_by_name (none-too v.tests w.tests h.tests e) (alone-so w v h e ∙ d);
        after = record { tests = checks-same no_all (without_parens v.current) (without_parens w.current) (without_parens v.current) (without_parens w.current) same same; current = at_call at (λ p. refl) refl; holder = h.holder; new = h.new; taken = h.taken; first = λ k. absurd (some-checks no_all [] (without_parens w.current) (without_parens w.current) k) };
      }
  calls-so l arguments w v h (by_value {c = c} e alone next) =
      let at = spelled-parens look used free h.current in
      let d = without_parens v.current in
      let s = without_parens w.current in
      record {
        way = record { tests = v.tests ++ null_checks no_all (assign_node (identifier_called c.name) d) (identifier_called c.name); current = call_at l (identifier_called c.name) arguments; holder = Some c.name; taken = v.taken ++ c.name ∷ [] };
        rule = plain_by_value (λ k. let g = none-first v.tests w.tests h.tests k in alone-so w v h g ∙ e g) (spelled-member look used free at ∙ alone) (fresh-so w v h.taken (node_base s) (node_base d) c (base-by-bare d s (spelled-bare look used free at)) next);
        after = record { tests = more-tests w v (assign_node (identifier c) s) (assign_node (identifier_called c.name) d) (identifier c) (identifier_called c.name) h.tests (assign-same (identifier_called c.name) (identifier c) d s (λ p. refl) (spelled-same look used free at)) (λ p. refl); current = at_call (as_holder refl) (λ p. refl) refl; holder = refl; new = holder-so w.taken (node_base s) c next; taken = ap (λ (zs : List Text). zs ++ c.name ∷ []) h.taken ∙ sym (names-both w.taken (c ∷ [])); first = λ k. absurd (some-checks no_all w.tests (assign_node (identifier c) s) (identifier c) k) };
      }
  calls-so l arguments w v h (by_first_member {k = k} {computed = computed} {o = o} {o1 = o1} {p = p} {r = r} {c = c} {xs = xs} e target flags next object) =
      let at = spelled-parens look used free h.current in
      let d = without_parens v.current in
      let s = without_parens w.current in
      let m = member-spelled look used free at k o p target in
      let got = received is_this_or_super (with_made (c ∷ []) (with_made w.taken known)) w.holder refl h.new object m.object m.spelled (spelled-this look used free m.spelled) in
      let receives = subst (λ (q : Option Text). ReceivesByName is_this_or_super steady (also c.name (also_names v.taken used)) q (names_among xs) m.object got.begun got.again) (sym h.holder)
      (subst (λ (f : Text → Bool). ReceivesByName is_this_or_super steady (also c.name f) (called look used free w.holder) (names_among xs) m.object got.begun got.again) (in-use-so w v h.taken) got.rule) in
      record {
        way = stored_by_name no_all l arguments v (c.name ∷ names_among xs) c.name (member_at k computed got.begun m.property) got.again;
        rule = plain_by_first_member (none-too v.tests w.tests h.tests e) m.is flags (fresh-so w v h.taken (node_base s) (node_base d) c (base-by-bare d s (spelled-bare look used free at)) next) receives;
        after = stored-walk l arguments w v h (c ∷ xs) (c.name ∷ names_among xs) c (member_at k computed o1 p) (member_at k computed got.begun m.property) r got.again refl (placed-same k computed got.begun o1 m.property p got.begun_same m.same) got.again_same got.again_bare (holder-so w.taken (node_base s) c next);
      }
  calls-so l arguments w v h (by_later_member {k = k} {computed = computed} {o = o} {o1 = o1} {p = p} {r = r} {t = t} {ts = ts} {c = c} {xs = xs} e target flags object next) =
      let at = spelled-parens look used free h.current in
      let m = member-spelled look used free at k o p target in
      let got = received is_this_or_super (with_made w.taken known) w.holder refl h.new object m.object m.spelled (spelled-this look used free m.spelled) in
      let receives = subst (λ (q : Option Text). ReceivesByName is_this_or_super steady (also_names v.taken used) q (names_among xs) m.object got.begun got.again) (sym h.holder)
      (subst (λ (f : Text → Bool). ReceivesByName is_this_or_super steady f (called look used free w.holder) (names_among xs) m.object got.begun got.again) (in-use-so w v h.taken) got.rule) in
      let some = first-too v.tests w.tests t ts h.tests e in
      let callee = member_at k computed o1 p in
      let member = member_at k computed got.begun m.property in
      let bases : node_base member ≡ node_base callee = base-by-bare member callee (λ i. node MemberExpression (bare_label (record k { flags = computed ∷ false ∷ [] })) (one (got.begun_bare i) then (one (m.same_bare i) then done))) in
      let uses : (with_made xs (with_made w.taken known)).in_use ≡ also_names (names_among xs) (also_names v.taken used) = also-same xs (with_made w.taken known).in_use ∙ ap (λ (f : Text → Bool). also_names (names_among xs) f) (in-use-so w v h.taken) in
      record {
        way = stored_by_name no_all l arguments v (names_among xs ++ c.name ∷ []) c.name member got.again;
        rule = plain_by_later_member some.is m.is flags receives (subst (λ (x : Text). IsFreshName (also_names (names_among xs) (also_names v.taken used)) x c.name) (sym bases) (subst (λ (f : Text → Bool). IsFreshName f (node_base callee) c.name) uses next.fresh));
        after = stored-walk l arguments w v h (xs ++ c ∷ []) (names_among xs ++ c.name ∷ []) c callee member r got.again (sym (names-both xs (c ∷ []))) (placed-same k computed got.begun o1 m.property p got.begun_same m.same) got.again_same got.again_bare
            (holder-by (with_made xs (with_made w.taken known)) (length w.taken + length xs) (omega arith) (λ x g. free-before w.taken used x (free-before xs (with_made w.taken known).in_use x g)) (node_base callee) c next);
      }

  -- STEP BY STEP

  abbrev Hangs : Tree → Type 0
  Hangs t = Hung look used free t

  record Spine (e : Tree) (w : Way) : Type 0 where
    way : WayByName
    rule : WalkedByName no_all bound steady used e way
    after : Walk w way

  record Goes (e : Tree) (w : Way) : Type 0 where
    way : WayByName
    rule : ContinuedByName no_all bound steady used e way
    after : Walk w way

  to-member : (l : Label) (computed : Bool) (p : Tree) (w : Way) (v : WayByName) → Walk w v → Walk (record w { current = member_at l computed w.current p }) (record v { current = member_at l computed v.current p })
  to-member l computed p w v h = record { tests = h.tests; current = at_member h.current (λ q. refl) refl; holder = h.holder; new = h.new; taken = h.taken; first = h.first }

  mutual
    walked : {e : Tree} {w : Way} → Walked no_all known e w → Hangs e → Spine e w
    walked (base {e = e} d alone) h = record { way = start_by_name e; rule = plain_base d; after = record { tests = tt; current = as_source h; holder = refl; new = tt; taken = refl; first = λ k. refl } }
    walked (plain_member {l = l} {computed = computed} {o = o} {p = p} {w = w} flags r) h =
        let k = walked r h in
        record { way = record k.way { current = member_at l computed k.way.current p }; rule = plain_plain_member flags k.rule; after = to-member l computed p w k.way k.after }
    walked (plain_call {l = l} {f = f} {arguments = arguments} {w = w} flags r) h =
        let k = walked r h in
        let a = k.after in
        record { way = record k.way { current = call_at l k.way.current arguments }; rule = plain_plain_call flags k.rule; after = record { tests = a.tests; current = at_call a.current (λ q. refl) refl; holder = a.holder; new = a.new; taken = a.taken; first = a.first } }
    walked (marked_member {l = l} {computed = computed} {o = o} {p = p} {w = w} {u = u} flags r d) h =
        let k = continued r h in
        let n = tests-so w k.way k.after d in
        record { way = record n.way { current = member_at l computed n.way.current p }; rule = plain_marked_member flags k.rule n.rule; after = to-member l computed p u n.way n.after }
    walked (marked_call {l = l} {f = f} {arguments = arguments} {w = w} {u = u} flags r d) h =
        let k = continued r h in
        let n = calls-so l arguments w k.way k.after d in
        record { way = n.way; rule = plain_marked_call flags k.rule n.rule; after = n.after }

    continued : {e : Tree} {w : Way} → Continued no_all known e w → Hangs e → Goes e w
    continued (same_spine d r) h = let k = walked r h in record { way = k.way; rule = plain_same_spine d k.rule; after = k.after }
    continued (inner_spine {e = e} {c = c} {l = l} d alone target r) h =
        let k = walked r (subst (λ (t : Tree). Hangs t) target (hung-parens look used free e h)) in
        record { way = k.way; rule = plain_inner_spine d target k.rule; after = k.after }

  -- CALLEES

  record Bindings (w : Way) (v : WayByName) (xs : List Bound) (d : Tree) : Type 0 where
    callee : Tree
    rule : BoundCalleeByName steady (also_names v.taken used) v.holder (names_among xs) v.current callee
    same : SameSense callee d

  callee-so : (w : Way) (v : WayByName) → Walk w v → {xs : List Bound} {e d : Tree} → BoundCallee (with_made w.taken known) w.holder xs e d → e ≡ w.current → Bindings w v xs d
  callee-so w v h (no_member {e = e} n) same_tree =
      record { callee = v.current; rule = plain_no_member (spelled-member look used free h.current ∙ (ap is_member (sym same_tree) ∙ n)); same = λ p. spelled-same look used free h.current p ∙ ap (λ (t : Tree). sense p t) (sym same_tree) }
  callee-so w v h (to_object {k = k} {computed = computed} {o = o} {o1 = o1} {p = p} {r = r} {xs = xs} flags object) same_tree =
      let m = member-spelled look used free h.current k o p (sym same_tree) in
      let got = received is_super (with_made w.taken known) w.holder refl h.new object m.object m.spelled (spelled-super look used free m.spelled) in
      let receives = subst (λ (q : Option Text). ReceivesByName is_super steady (also_names v.taken used) q (names_among xs) m.object got.begun got.again) (sym h.holder)
      (subst (λ (f : Text → Bool). ReceivesByName is_super steady f (called look used free w.holder) (names_among xs) m.object got.begun got.again) (in-use-so w v h.taken) got.rule) in
      let made_callee = bind_by_name (member_at k computed got.begun m.property) got.again in
      record {
        callee = made_callee;
        rule = subst (λ (t : Tree). BoundCalleeByName steady (also_names v.taken used) v.holder (names_among xs) t made_callee) (sym m.is) (plain_to_object flags receives);
        same = bind-same (member_at k computed got.begun m.property) (member_at k computed o1 p) got.again r (placed-same k computed got.begun o1 m.property p got.begun_same m.same) got.again_same;
      }

-- THE ROW BY NAMES

-- an optional chain, maybe in parentheses
abbrev pub is_chain : Tree → Bool
is_chain t = is_chain_kind (kind_of (without_parens t))

-- what a place takes here is taken there
pub record Meets (here there : Level) : Type 0 where
  pub value : takes_value here ≡ true → takes_value there ≡ true
  pub callee : here ≡ a_callee → there ≡ a_callee

by-names : (no_all : Bool) (n : Site) (w : Whole) (m : Need) (bs : List Bound) (a b : Tree) → OptionalChainingRule no_all n w bs a b → (is_chain a ≡ true → Meets n.need.level m.level) → Resolved n.role n.names a → Named w.in_use w.free_symbol n.role a →
    ByNames (OptionalChainingByName no_all (bound_names n.names) (steady_names w n.names.scope) w.in_use (names_among bs) m a) b
by-names no_all n w m bs a b (by_tests {m = l} {e = e} {w = way} level r some) meets h g =
    let k = walked no_all w n.names.scope r (hung n.names.scope w.in_use w.free_symbol (place_in n.names ChainExpression l (role_at n.role ChainExpression l (one e then done)) (one e then done) 0) e (λ x. refl) h.2.0 g.1.0) in
    record {
      made = where_short l k.way.tests void_zero_node k.way.current;
      rule = subst (λ (zs : List Text). OptionalChainingByName no_all (bound_names n.names) (steady_names w n.names.scope) w.in_use zs m (node ChainExpression l (one e then done)) (where_short l k.way.tests void_zero_node k.way.current)) k.after.taken
          (plain_by_tests ((meets refl).value level) k.rule (tests-some k.way.tests way.tests k.after.tests some));
      same = short-same l k.way.tests way.tests void_zero_node k.way.current way.current k.after.tests (spelled-same n.names.scope w.in_use w.free_symbol k.after.current);
    }
by-names no_all n w m bs a b (as_callee {m = l} {e = e} {d = d} {w = way} {xs = xs} level r some callee) meets h g =
    let k = walked no_all w n.names.scope r (hung n.names.scope w.in_use w.free_symbol (place_in n.names ChainExpression l (role_at n.role ChainExpression l (one e then done)) (one e then done) 0) e (λ x. refl) h.2.0 g.1.0) in
    let c = callee-so no_all w n.names.scope way k.way k.after callee refl in
    record {
      made = where_short l k.way.tests void_zero_node c.callee;
      rule = subst (λ (zs : List Text). OptionalChainingByName no_all (bound_names n.names) (steady_names w n.names.scope) w.in_use zs m (node ChainExpression l (one e then done)) (where_short l k.way.tests void_zero_node c.callee)) (ap (λ (zs : List Text). zs ++ names_among xs) k.after.taken ∙ sym (names-both way.taken xs))
          (plain_as_callee ((meets refl).callee level) k.rule (tests-some k.way.tests way.tests k.after.tests some) c.rule);
      same = short-same l k.way.tests way.tests void_zero_node c.callee d k.after.tests c.same;
    }
by-names no_all n w m bs a b (in_delete {m = j} {l = l} {t = t} {e = e} {w = way} texts alone target r some) meets h g =
    let hangs : Hung n.names.scope w.in_use w.free_symbol t = hung n.names.scope w.in_use w.free_symbol (place_in n.names UnaryExpression j (role_at n.role UnaryExpression j (one t then done)) (one t then done) 0) t (λ x. refl) h.2.0 g.1.0 in
    let k = walked no_all w n.names.scope r (subst (λ (u : Tree). Hung n.names.scope w.in_use w.free_symbol u) target (hung-parens n.names.scope w.in_use w.free_symbol t hangs)) in
    record {
      made = where_short j k.way.tests true_node (delete_node k.way.current);
      rule = subst (λ (zs : List Text). OptionalChainingByName no_all (bound_names n.names) (steady_names w n.names.scope) w.in_use zs m (node UnaryExpression j (one t then done)) (where_short j k.way.tests true_node (delete_node k.way.current))) k.after.taken
          (plain_in_delete texts target k.rule (tests-some k.way.tests way.tests k.after.tests some));
      same = short-same j k.way.tests way.tests true_node (delete_node k.way.current) (delete_node way.current) k.after.tests (delete-same k.way.current way.current (spelled-same n.names.scope w.in_use w.free_symbol k.after.current));
    }

-- ITS SHAPE

abbrev pub ChainingRow : Bool → Site → Whole → List Bound → Tree → Tree → Type 0
ChainingRow no_all = OutsideSlots (OptionalChainingRule no_all)

received-new : {to_this : Tree → Bool} {w : Whole} {holder : Option Bound} {xs : List Bound} {o o1 r : Tree} → Receives to_this w holder xs o o1 r → AreNew w xs
received-new {w = w} (by_this e) = no-new w
received-new {w = w} (by_name e d) = no-new w
received-new {w = w} (by_temporary {o = o} {r = r} e d next) = new-one w (node_base o) r next

callee-new : {w : Whole} {holder : Option Bound} {xs : List Bound} {e d : Tree} → BoundCallee w holder xs e d → AreNew w xs
callee-new {w = w} (no_member n) = no-new w
callee-new (to_object flags object) = received-new object

module _ {no_all : Bool} {known : Whole} where
  tested-new : {w u : Way} → AreNew known w.taken → Tested no_all known w u → AreNew known u.taken
  tested-new h (as_name e d) = h
  tested-new h (in_holder e) = h
  tested-new h (in_temporary {w = w} {x = x} e none next) = new-both known w.taken (x ∷ []) h (new-one (with_made w.taken known) (node_base w.current) x next)

  called-new : {l : Label} {arguments : Trees} {w u : Way} → AreNew known w.taken → Called no_all known l arguments w u → AreNew known u.taken
  called-new h (called_by_name e d) = h
  called-new h (by_value {w = w} {c = c} e alone next) = new-both known w.taken (c ∷ []) h (new-one (with_made w.taken known) (node_base (without_parens w.current)) c next)
  called-new h (by_first_member {w = w} {c = c} {xs = xs} e target flags next object) = new-both known w.taken (c ∷ xs) h (new-both (with_made w.taken known) (c ∷ []) xs (new-one (with_made w.taken known) (node_base (without_parens w.current)) c next) (received-new object))
  called-new h (by_later_member {w = w} {k = k} {computed = computed} {o1 = o1} {p = p} {c = c} {xs = xs} e target flags object next) = new-both known w.taken (xs ++ c ∷ []) h (new-both (with_made w.taken known) xs (c ∷ []) (received-new object) (new-one (with_made xs (with_made w.taken known)) (node_base (member_at k computed o1 p)) c next))

  mutual
    walked-new : {e : Tree} {w : Way} → Walked no_all known e w → AreNew known w.taken
    walked-new (base d alone) = no-new known
    walked-new (plain_member flags r) = walked-new r
    walked-new (plain_call flags r) = walked-new r
    walked-new (marked_member flags r d) = tested-new (continued-new r) d
    walked-new (marked_call flags r d) = called-new (continued-new r) d

    continued-new : {e : Tree} {w : Way} → Continued no_all known e w → AreNew known w.taken
    continued-new (same_spine d r) = walked-new r
    continued-new (inner_spine d alone target r) = walked-new r

  all-new : (n : Site) (bs : List Bound) (t u : Tree) → OptionalChainingRule no_all n known bs t u → AreNew known bs
  all-new n bs t u (by_tests level r some) = walked-new r
  all-new n bs t u (as_callee {w = w} {xs = xs} level r some callee) = new-both known w.taken xs (walked-new r) (callee-new callee)
  all-new n bs t u (in_delete texts alone target r some) = walked-new r

short-kinds : (m : Label) (ts : List Tree) (short long : Tree) → has_tests ts ≡ true → (is_mute (kind_of (where_short m ts short long)) ≡ true) × (is_inner (kind_of (where_short m ts short long)) ≡ true)
short-kinds m [] short long e = absurd (cc e)
short-kinds m (t ∷ ts) short long e = (refl, refl)

pub chaining-shape : (no_all : Bool) → RowShape (ChainingRow no_all)
chaining-shape no_all = record {
  acts_on = λ n w bs t u h. acts n w bs t u h.rule;
  new_names = λ n w bs t u h. all-new n bs t u h.rule;
  first = λ n w bs t u h. first n w bs t u h.rule;
  second = λ n w bs t u h. second n w bs t u h.rule;
}
  where
    acts : (n : Site) (w : Whole) (bs : List Bound) (t u : Tree) → OptionalChainingRule no_all n w bs t u → stays_put (kind_of t) ≡ false
    acts n w bs t u (by_tests level r some) = refl
    acts n w bs t u (as_callee level r some callee) = refl
    acts n w bs t u (in_delete texts alone target r some) = refl

    first : (n : Site) (w : Whole) (bs : List Bound) (t u : Tree) → OptionalChainingRule no_all n w bs t u → (is_mute (kind_of t) ≡ true) × (is_inner (kind_of t) ≡ true)
    first n w bs t u (by_tests level r some) = (refl, refl)
    first n w bs t u (as_callee level r some callee) = (refl, refl)
    first n w bs t u (in_delete texts alone target r some) = (refl, refl)

    second : (n : Site) (w : Whole) (bs : List Bound) (t u : Tree) → OptionalChainingRule no_all n w bs t u → (is_mute (kind_of u) ≡ true) × (is_inner (kind_of u) ≡ true)
    second n w bs t u (by_tests {m = m} {w = way} level r some) = short-kinds m way.tests void_zero_node way.current some
    second n w bs t u (as_callee {m = m} {d = d} {w = way} level r some callee) = short-kinds m way.tests void_zero_node d some
    second n w bs t u (in_delete {m = m} {w = way} texts alone target r some) = short-kinds m way.tests true_node (delete_node way.current) some

-- ITS SIDES ARE ALIKE, where its operands mean something, nothing writes a steady name, its names are in use, and no mark strays

no-item : {no_all : Bool} {w : Whole} (n : Site) (bs : List Bound) (t u : Tree) → OptionalChainingRule no_all n w bs t u → is_item (kind_of t) ≡ false
no-item n bs t u (by_tests level r some) = refl
no-item n bs t u (as_callee level r some callee) = refl
no-item n bs t u (in_delete texts alone target r some) = refl

pub record SoundChaining (no_all : Bool) (new : List Bound) (n : Site) (w : Whole) (a b : Tree) : Type 0 where
  pub sound : SoundRow (ChainingRow no_all) new n w a b
  pub named : Named w.in_use w.free_symbol n.role a
  pub tidy : strays false a ≡ false

pub chaining-alike : (no_all : Bool) (new : List Bound) (n : Site) (whole : Whole) (a b : Tree) → SoundChaining no_all new n whole a b → (t : Take) → (is_chain a ≡ true → Meets n.need.level t.need.level) → (ds : List Declared) → Resolved n.role n.names a → Finds ds n.names → Fine a → avoids (bad_temporaries (names_among new)) t a ≡ true → Quiet (temporaries_frame true (names_among new)) →
    (w v : World) → SameWorld (among_names (names_among new)) w v → WorldsKnown no_all true (names_among new) ds w v → (ls : List Text) (x : Text) →
    SenseLike (temporaries_frame true (names_among new)) w v t (sense (placed_at no_helpers w ls x) a) (sense (placed_at no_helpers v ls x) b)
chaining-alike no_all new n whole a b h t meets ds resolved found fine away quiet w v same known ls x =
    let rule = h.sound.row.rule in
    let row = by-names no_all n whole t.need new a b rule meets resolved h.named in
    settled-like no_all (chaining no_all) nothing_asked (chaining_kept no_all) (names_among new) n.names whole t ds a b row.made (row.rule, h.tidy) row.same (sound-settled (names_among new) (steady_names whole n.names.scope) t a h.sound.sound ((chaining-shape no_all).first n whole new a b h.sound.row).1 (no-item n new a b rule) fine away) found quiet (all-new n new a b rule).names w v same known tt ls x
