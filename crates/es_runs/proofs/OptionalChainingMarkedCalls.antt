-- Marked calls on a spine: by a name that is read again, by a value that is stored, and by a member that is stored beside its
-- receiver.
use Rattle.std.proofs.Common.{◌≡◌, refl, Option, Some, List, [], ◌∷◌, ◌++◌, ap, subst, sym, ◌∙◌}
use Rattle.std.specs.Prelude.{Bool, true, false, ◌||◌, bytes_eq, codes, not}
use Rattle.es_tree.specs.Words.{Text}
use Rattle.es_tree.specs.Fresh.{also, is_among}
use Rattle.es_tree.specs.Names.{first_text}
use Rattle.es_tree.specs.Parens.{without_parens}
use Rattle.es_tree.specs.Tree.{Tree, node, Label, done, ◌then◌, one, many, Trees, ◌before◌}
use Rattle.es_tree.specs.declared.ast_type.AstType.TheVariants.{CallExpression, Identifier, MemberExpression}
use Rattle.es_runs.specs.Alike.{Frame, set_cells, Agree, Same, Alike, SameReference, SameWorld, the_value}
use Rattle.es_runs.specs.Alike.Same.{both_give, both_stop, outside, at_fault}
use Rattle.es_runs.specs.Alike.SameReference.{same_name, same_property, same_plain}
use Rattle.es_runs.specs.Core.{World, Meaning, Reference, value, get_value, as_plain, cut_where, key, member, name, call_of, plain_call, run_call, is_free, meaning, meanings, flag, flag_after}
use Rattle.es_runs.specs.Core.Binding.{changeable}
use Rattle.es_runs.specs.Core.Reference.{property}
use Rattle.es_runs.specs.Machine.{Value, M, ◌>>=◌, onward, return, State, Result, is_callable, is_nullish}
use Rattle.es_runs.specs.Machine.Value.{undefined}
use Rattle.es_runs.specs.OptionalChaining.{Way, Receives, is_member, is_name_among, member_at, call_at, call_method, stored_call, null_checks, Called}
use Rattle.es_runs.specs.OptionalChaining.Called.{by_name, by_value, by_first_member, by_later_member}
use Rattle.es_runs.specs.OptionalChaining.Receives.{by_this, by_name as receives_name, by_temporary}
use Rattle.es_runs.specs.Rules.{assign_node, strays, strays_nodes}
use Rattle.es_runs.specs.Runs.{identifier, made}
use Rattle.es_runs.specs.NullishCoalescing.{also_all}
use Rattle.es_runs.proofs.CoreWorlds.{never}
use Rattle.es_runs.proofs.Duplicated.{earlier_free, fresh_after, read_names}
use Rattle.es_runs.proofs.Lists.{AllLike}
use Rattle.es_runs.proofs.Named.{or_both, or_second}
use Rattle.es_runs.proofs.Temporary.{bytes_eq-equal, bytes_eq-flip}
use Rattle.es_runs.proofs.Written.{one_of}
use Rattle.es_runs.proofs.SameOthers.{SameOthers}
use Rattle.es_runs.proofs.OptionalChainingCalls.{NoProperty, finish_after, from_object, name_called, passes_no_property, passes_twice}
use Rattle.es_runs.proofs.OptionalChainingReceivers.{Covers, Received, apart, hidden_bound, received}
use Rattle.es_runs.proofs.OptionalChainingStores.{name_alike, stored_alike}
use Rattle.es_runs.proofs.OptionalChainingNullChecks.{passes, store_and_test, stored_tests}
use Rattle.es_runs.proofs.OptionalChainingUncut.{tidy_call, tidy_member, tidy_more, tidy_store, tidy_stripped, tidy_tests}
use Rattle.es_runs.proofs.OptionalChainingWalks.{Follows, ObjectOf, ObjectParts, Seen, SeenAll, all_seen, key_like, seen_arguments}
use Rattle.es_runs.proofs.OptionalChainingMarks.{BoundName, Continues, among_later, among_self, bound_name_of, covers_first, covers_second, more_tests, name_value, some_text, stored_follows}

-- what is called without a receiver
unreceived_source : (F : Frame) (w : World) (es : List Meaning) {p q : Result Reference} → Same F (SameReference F) p q → NoProperty q → onward p (plain_call w true es) ≡ onward (onward p (get_value w)) (λ u. cut_where (is_nullish u) (run_call w (is_callable u) es u undefined))
unreceived_source F w es (both_give (same_name e) g) h = refl
unreceived_source F w es (both_give same_property g) h = absurd h
unreceived_source F w es (both_give same_plain g) h = refl
unreceived_source F w es (both_stop g) h = refl
unreceived_source F w es outside h = refl
unreceived_source F w es (at_fault h0) h = refl

module _ (no_all : Bool) (hidden steady bound in_use : Text → Bool) (w v : World) (counts : v.counts_all ≡ not no_all) (same : SameWorld hidden w v) (others : SameOthers hidden steady w v) (vars : (y : Text) → hidden y ≡ true → v.scope y ≡ changeable) (steady_bound : (y : Text) → steady y ≡ true → is_free (w.scope y) ≡ false) (binds : (y : Text) → bound y ≡ true → is_free (w.scope y) ≡ false) where
  abbrev F : Frame
  F = set_cells hidden

  abbrev FollowsHere : Meaning → Way → Type 0
  FollowsHere = Follows hidden steady w v same others steady_bound

  abbrev SeenHere : Tree → Type 0
  SeenHere = Seen hidden steady w v same others steady_bound

  abbrev ContinuesHere : Tree → Way → Type 0
  ContinuesHere = Continues no_all hidden steady bound in_use w v counts same others vars steady_bound binds

  pub called_covers : {l : Label} {ts : Trees} {way next : Way} → Called no_all bound steady in_use l ts way next → Covers hidden next.taken → Covers hidden way.taken
  called_covers (by_name none named_one) cover = cover
  called_covers (by_value {w = way} {c = c} none member fresh) cover = covers_first hidden way.taken (c ∷ []) cover
  called_covers (by_first_member {w = way} {c = c} {xs = xs} none member flags fresh receives) cover = covers_first hidden way.taken (c ∷ xs) cover
  called_covers (by_later_member {w = way} {c = c} {xs = xs} some member flags receives fresh) cover = covers_first hidden way.taken (xs ++ c ∷ []) cover

  module _ (l : Label) (f : Tree) (ts : Trees) (flags : l.flags ≡ true ∷ []) (seen : SeenHere (node CallExpression l (one f then many ts then done))) (way : Way) (from : ContinuesHere f way) where
    abbrev es : List Meaning
    es = meanings w ts

    abbrev es' : List Meaning
    es' = meanings v ts

    args : SeenAll hidden steady w v same others steady_bound ts
    args = seen_arguments hidden steady w v same others steady_bound l f ts seen

    arguments : AllLike F w v the_value es es'
    arguments = all_seen hidden steady w v same others steady_bound ts args.untouched

    abbrev finishes : Value → Value → M Reference
    finishes r u = run_call w (is_callable u) es u r >>= as_plain

    -- the source's call, where what is called has no receiver
    plain_source : is_member (without_parens way.current) ≡ false → (s t : State) → Agree F s t → (meaning w (node CallExpression l (one f then many ts then done))).reference s ≡ onward (value w from.source s) (λ u. cut_where (is_nullish u) (finishes undefined u))
    plain_source no_member s t g =
        rw (ap flag flags)
        (ap (λ q. onward q as_plain) (from.as_callee es s
        ∙ unreceived_source F w es (from.follows.reference s t g) (passes_no_property v way.tests (meaning v way.current).reference (from.receives no_member) t))
        ∙ finish_after hidden steady w v same vars steady_bound es es' arguments undefined (value w from.source s))

    plain_alike : (m : M Reference) → is_member (without_parens way.current) ≡ false → Alike F (SameReference F) (value w from.source >>= λ u. cut_where (is_nullish u) (finishes undefined u)) m → Alike F (SameReference F) (meaning w (node CallExpression l (one f then many ts then done))).reference m
    plain_alike m no_member h s t g = subst (λ q. Same F (SameReference F) q (m t)) (sym (plain_source no_member s t g)) (h s t g)

    -- BY A NAME

    called_name : way.tests ≡ [] → (t : Tree) → without_parens way.current ≡ t → is_name_among bound t ≡ true →
        FollowsHere (meaning w (node CallExpression l (one f then many ts then done))) (record way { tests = null_checks no_all t t; current = call_at l t ts })
    called_name none (node Identifier i fs) here named_one =
        let known_name : BoundName no_all hidden steady bound in_use w v counts same others vars steady_bound binds (first_text i.texts) = bound_name_of no_all hidden steady bound in_use w v counts same others vars steady_bound binds from.follows none i fs here named_one in
        let tidy : strays false (node Identifier i fs) ≡ false = rw here at (tidy_stripped way.current from.follows.tidy) in
        record {
          reference = plain_alike _ (rw here refl) (name_alike hidden steady w v same vars i fs known_name.bound_name no_all counts (finishes undefined) (value w from.source) (call_of v false (name (first_text i.texts)) es').reference
              (name_value no_all hidden steady bound in_use w v counts same others vars steady_bound binds from.follows none i fs here)
              (λ u s t g e. name_called hidden steady w v same vars steady_bound es es' arguments i fs known_name.bound_name u s t g e));
          form = refl;
          object = tt;
          known = tt;
          no_math = λ k. tt;
          untouched = λ k. absurd (more_tests [] no_all (node Identifier i fs) (node Identifier i fs) k);
          tidy = tidy_call l (node Identifier i fs) ts tidy args.tidy;
          single = refl;
          tests_tidy = tidy_tests no_all (node Identifier i fs) (node Identifier i fs) tidy tidy;
          holder = from.follows.holder;
        }
    called_name none (node _ i fs) here named_one = absurd (cc named_one)

    -- BY A VALUE

    called_value : (c : Text) → Covers hidden (way.taken ++ c ∷ []) → is_member (without_parens way.current) ≡ false →
        FollowsHere (meaning w (node CallExpression l (one f then many ts then done))) (record { tests = way.tests ++ null_checks no_all (assign_node (identifier c) (without_parens way.current)) (identifier c); current = call_at l (identifier c) ts; holder = Some c; taken = way.taken ++ c ∷ [] })
    called_value c cover no_member =
        let e : Tree = without_parens way.current in
        let mine : is_among (way.taken ++ c ∷ []) c ≡ true = among_later way.taken (c ∷ []) c (among_self c []) in
        let c_hidden : hidden c ≡ true = cover c mine in
        record {
          reference = plain_alike _ no_member (stored_alike hidden steady w v same vars no_all c c_hidden counts way.tests e (finishes undefined) (value w from.source) (call_of v false (name c) es').reference
              (stored_follows no_all hidden steady bound in_use w v counts same others vars steady_bound binds from.follows)
              (λ u s t g k. name_called hidden steady w v same vars steady_bound es es' arguments (made (Some c ∷ []) []) done (hidden_bound hidden steady w v same vars steady_bound c c_hidden) u s t g k));
          form = refl;
          object = tt;
          known = tt;
          no_math = λ k. tt;
          untouched = λ k. absurd (more_tests way.tests no_all (assign_node (identifier c) e) (identifier c) k);
          tidy = tidy_call l (identifier c) ts refl args.tidy;
          single = refl;
          tests_tidy = tidy_more way.tests (null_checks no_all (assign_node (identifier c) e) (identifier c)) from.follows.tests_tidy (tidy_tests no_all (assign_node (identifier c) e) (identifier c) (tidy_store c e (tidy_stripped way.current from.follows.tidy)) refl);
          holder = λ y k. let i : c ≡ y = ap some_text k in rw (← i) mine;
        }

    -- BY A MEMBER

    member_source : {computed : Bool} {o p : Tree} → (parts : ObjectParts hidden steady w v same others steady_bound from.source.reference way computed o p) → (s : State) →
        (meaning w (node CallExpression l (one f then many ts then done))).reference s ≡ onward (onward (onward (parts.object s) (λ u. key w computed (meaning w p) >>= λ k. return (property u k))) (plain_call w true es)) as_plain
    member_source parts s = rw (ap flag flags) (ap (λ q. onward q as_plain) (from.as_callee es s ∙ ap (λ q. onward q (plain_call w true es)) (parts.splits s)))

    -- the result's, behind the tests of its callee
    member_target : (c : Text) (k : Label) (computed : Bool) (o p : Tree) (m : M Reference) →
        passes v (way.tests ++ null_checks no_all (assign_node (identifier c) (member_at k computed o p)) (identifier c)) m ≡ (((passes v way.tests (value v (meaning v o)) >>= λ u. key v computed (meaning v p) >>= λ i. return (property u i)) >>= get_value v) >>= store_and_test no_all v c m)
    member_target c k computed o p m =
        stored_tests no_all v counts way.tests c (member_at k computed o p) m
        ∙ ap (λ n. n >>= store_and_test no_all v c m) (sym (passes_twice v way.tests (value v (meaning v o)) (λ u. key v computed (meaning v p) >>= λ i. return (property u i)) (get_value v)))

    called_member : (c : Text) (names : List Text) (k : Label) (computed : Bool) (o o1 p r : Tree) → hidden c ≡ true → is_among (way.taken ++ names) c ≡ true →
        without_parens way.current ≡ node MemberExpression k (one o then one p then done) → k.flags ≡ computed ∷ false ∷ [] →
        Received hidden steady w v same vars steady_bound o o1 r → ((z : Text) → read_names r z ≡ true → bytes_eq z c ≡ false) →
        ObjectParts hidden steady w v same others steady_bound from.source.reference way computed o p →
        FollowsHere (meaning w (node CallExpression l (one f then many ts then done))) (stored_call no_all l ts way names c (member_at k computed o1 p) r)
    called_member c names k computed o o1 p r c_hidden mine here member_flags receives apart_names parts = record {
      reference = λ s t g.
          rw (receives.unspread, never v.spreads) (let m : M Reference = (call_of v false (member v false false (name c) (name (codes "call"))) (meaning v r ∷ es')).reference in
          subst (λ q. Same F (SameReference F) q (passes v (way.tests ++ null_checks no_all (assign_node (identifier c) (member_at k computed o1 p)) (identifier c)) m t)) (sym (member_source parts s))
          (subst (λ n. Same F (SameReference F) (onward (onward (onward (parts.object s) (λ u. key w computed (meaning w p) >>= λ i. return (property u i))) (plain_call w true es)) as_plain) (n t)) (sym (member_target c k computed o1 p m))
          (from_object hidden steady w v same vars steady_bound es es' arguments no_all c c_hidden (meaning v r) (read_names r) receives.kept apart_names computed (meaning w p) (meaning v p) (key_like hidden steady w v same others steady_bound computed p parts.keys)
          (receives.held way.tests parts.object parts.alike s t g))));
      form = refl;
      object = tt;
      known = tt;
      no_math = λ k. tt;
      untouched = λ none. absurd (more_tests way.tests no_all (assign_node (identifier c) (member_at k computed o1 p)) (identifier c) none);
      tidy = tidy_call l (call_method (identifier c)) (r before ts) refl (or_both (strays false r) (strays_nodes false ts) receives.tidy_receiver args.tidy);
      single = refl;
      tests_tidy = tidy_more way.tests (null_checks no_all (assign_node (identifier c) (member_at k computed o1 p)) (identifier c)) from.follows.tests_tidy
          (tidy_tests no_all (assign_node (identifier c) (member_at k computed o1 p)) (identifier c) (tidy_store c (member_at k computed o1 p) (tidy_member k computed o1 p receives.tidy_object parts.keys.tidy)) refl);
      holder = λ y k. let i : c ≡ y = ap some_text k in rw (← i) mine;
    }

    -- ANY

    among_one : (xs : List Text) (y : Text) → is_among xs y ≡ one_of xs y
    among_one [] y = refl
    among_one (x ∷ xs) y = λ i. bytes_eq-flip x y i || among_one xs y i

    one_alone : (b : Bool) → (b || false) ≡ true → b ≡ true
    one_alone true e = refl
    one_alone false e = e

    -- a receiver's name that is made after the callee's is another one
    made_after : (used : Text → Bool) {to_this : Tree → Bool} {holder : Option Text} {xs : List Text} {o o1 r : Tree} (c : Text) → Receives to_this steady (also c used) holder xs o o1 r → (y : Text) → is_among xs y ≡ true → bytes_eq y c ≡ false
    made_after used c (by_this h) y e = absurd (cc e)
    made_after used c (receives_name h n) y e = absurd (cc e)
    made_after used c (by_temporary {r = x} h n fresh) y e =
        let i : x ≡ y = bytes_eq-equal x y (one_alone (bytes_eq x y) e) in
        rw (← i, bytes_eq-flip x c) (or_second (used x) (bytes_eq c x) fresh.free)

    parts_of : {k : Label} {computed : Bool} {o p : Tree} → without_parens way.current ≡ node MemberExpression k (one o then one p then done) → k.flags ≡ computed ∷ false ∷ [] → ObjectParts hidden steady w v same others steady_bound from.source.reference way computed o p
    parts_of {k} {computed} {o} {p} here member_flags =
        let parts : flag_after k.flags ≡ false → ObjectParts hidden steady w v same others steady_bound from.source.reference way (flag k.flags) o p = subst (ObjectOf hidden steady w v same others steady_bound from.source.reference way) here from.follows.object in
        subst (λ b. ObjectParts hidden steady w v same others steady_bound from.source.reference way b o p) (ap flag member_flags) (parts (ap flag_after member_flags))

    held_hidden : Covers hidden way.taken → (y : Text) → way.holder ≡ Some y → hidden y ≡ true
    held_hidden cover y held = cover y (from.follows.holder y held)

    pub follows_called : {next : Way} → Called no_all bound steady in_use l ts way next → Covers hidden next.taken → FollowsHere (meaning w (node CallExpression l (one f then many ts then done))) next
    follows_called (by_name none named_one) cover = called_name none (without_parens way.current) refl named_one
    follows_called (by_value {c = c} none member fresh) cover = called_value c cover member
    follows_called (by_first_member {k = k} {computed = computed} {o = o} {o1 = o1} {p = p} {r = r} {c = c} {xs = xs} none here member_flags fresh receives) cover =
        let mine : is_among (way.taken ++ c ∷ xs) c ≡ true = among_later way.taken (c ∷ xs) c (among_self c xs) in
        let parts : ObjectParts hidden steady w v same others steady_bound from.source.reference way computed o p = parts_of here member_flags in
        called_member c (c ∷ xs) k computed o o1 p r (cover c mine) mine here member_flags
        (received hidden steady w v same vars steady_bound (λ e h. h) receives (held_hidden (covers_first hidden way.taken (c ∷ xs) cover)) (covers_second hidden (c ∷ []) xs (covers_second hidden way.taken (c ∷ xs) cover)) parts.tidy)
        (apart hidden steady w v same vars steady_bound way.taken c (cover c mine) receives parts.known (λ y e. fresh_after way.taken in_use y c fresh.free (rw (← among_one way.taken y) e)) (made_after (also_all way.taken in_use) c receives))
        parts
    follows_called (by_later_member {k = k} {computed = computed} {o = o} {o1 = o1} {p = p} {r = r} {c = c} {xs = xs} some here member_flags receives fresh) cover =
        let mine : is_among (way.taken ++ (xs ++ c ∷ [])) c ≡ true = among_later way.taken (xs ++ c ∷ []) c (among_later xs (c ∷ []) c (among_self c [])) in
        let parts : ObjectParts hidden steady w v same others steady_bound from.source.reference way computed o p = parts_of here member_flags in
        called_member c (xs ++ c ∷ []) k computed o o1 p r (cover c mine) mine here member_flags
        (received hidden steady w v same vars steady_bound (λ e h. h) receives (held_hidden (covers_first hidden way.taken (xs ++ c ∷ []) cover)) (covers_first hidden xs (c ∷ []) (covers_second hidden way.taken (xs ++ c ∷ []) cover)) parts.tidy)
        (apart hidden steady w v same vars steady_bound way.taken c (cover c mine) receives parts.known (λ y e. fresh_after way.taken in_use y c (earlier_free xs (also_all way.taken in_use) c fresh.free) (rw (← among_one way.taken y) e)) (λ y e. fresh_after xs (also_all way.taken in_use) y c fresh.free (rw (← among_one xs y) e)))
        parts
