-- What a spine becomes follows it: step by step from its base, source and result give the same reference, and are cut short
-- together.
use Rattle.std.proofs.Common.{◌≡◌, refl, Some, List, [], ◌∷◌, ap, subst, ◌∙◌, inl}
use Rattle.std.specs.Prelude.{Bool, true, false, ◌||◌, ◌&&◌, if◌then◌else◌}
use Rattle.es_tree.specs.Words.{Text}
use Rattle.es_tree.specs.Fresh.{is_among}
use Rattle.es_tree.specs.Names.{first_text}
use Rattle.es_tree.specs.Parens.{without_parens}
use Rattle.es_tree.specs.Tree.{Tree, node, Label, done, ◌then◌, one, many, Trees, empty, ◌before◌}
use Rattle.es_tree.specs.Walks.{all_nodes}
use Rattle.es_tree.specs.declared.ast_type.AstType.TheVariants.{CallExpression, Identifier, MemberExpression}
use Rattle.es_runs.specs.Alike.{Frame, set_cells, kept_cells, Same, Alike, Equal, Like, Level, Need, SameReference, SameWorld, all_of_it, bad_names, key_need, needs, object_need, the_callee, the_value, touches, touches_fields, touches_nodes, value_and_form}
use Rattle.es_runs.specs.Alike.Equal.{equal}
use Rattle.es_runs.specs.Alike.Same.{both_give}
use Rattle.es_runs.specs.Alike.SameReference.{same_property}
use Rattle.es_runs.specs.Alike.LikeCallee.{by_reference}
use Rattle.es_runs.specs.Core.{World, Meaning, Reference, value, get_value, key, member, call_of, is_free, meaning, meanings, flag, flag_after, Form, begins_with_spread, form_beside, has_spread, with_form}
use Rattle.es_runs.specs.Core.Reference.{property}
use Rattle.es_runs.specs.Machine.{Value, M, ◌>>=◌, onward, return, State, Cell}
use Rattle.es_runs.specs.OptionalChaining.{Way, start, is_link, has_tests, member_at, call_at}
use Rattle.es_runs.specs.Rules.{strays, strays_nodes}
use Rattle.es_runs.specs.Standing.{undeclaring}
use Rattle.es_runs.proofs.Basic.{get_alike, onward_same}
use Rattle.es_runs.proofs.Duplicated.{kept_like, seen_like, seen_words}
use Rattle.es_runs.proofs.SameOthers.{SameOthers}
use Rattle.es_runs.proofs.Fresh.{or_left, or_right}
use Rattle.es_runs.proofs.Lists.{AllLike, call_like, key_alike, member_form_like}
use Rattle.es_runs.proofs.Lists.AllLike.{no_more, one_more}
use Rattle.es_runs.proofs.Named.{or_both}
use Rattle.es_runs.proofs.Stripped.{StrippedFree, single_parens, stripped_free, stripped_reference, undeclaring_single}
use Rattle.es_runs.proofs.OptionalChainingForms.{NoMath, behind, call_behind, member_no_math, formed_no_math}
use Rattle.es_runs.proofs.OptionalChainingKinds.{first_part}
use Rattle.es_runs.proofs.OptionalChainingNeeds.{evaluates, object_free, read_as}
use Rattle.es_runs.proofs.OptionalChainingReceivers.{Known}
use Rattle.es_runs.proofs.OptionalChainingNullChecks.{passes, passes_then}
use Rattle.es_runs.proofs.OptionalChainingUncut.{AllTidy, tidy_arguments, tidy_base, tidy_call, tidy_callee, tidy_key, tidy_member, tidy_object, tidy_stripped}

module _ (hidden steady : Text → Bool) (w v : World) (same : SameWorld hidden w v) (others : SameOthers hidden steady w v) (steady_bound : (y : Text) → steady y ≡ true → is_free (w.scope y) ≡ false) where
  abbrev pub F : Frame
  F = set_cells hidden

  abbrev pub K : (Text → Cell) → Frame
  K d = kept_cells hidden steady d

  abbrev pub bad : Level → Text → Bool
  bad = bad_names hidden steady

  -- PARTS OF THE SOURCE

  pub seen_here : (n : Need) (e : Tree) → touches bad n e ≡ false → Like F w v n (meaning w e) (meaning v e)
  seen_here = seen_like hidden steady w v same others

  pub all_seen : (ts : Trees) → touches_nodes bad the_value ts ≡ false → AllLike F w v the_value (meanings w ts) (meanings v ts)
  all_seen empty h = no_more
  all_seen (t before ts) h = one_more (seen_here the_value t (or_left (touches bad the_value t) (touches_nodes bad the_value ts) h)) (all_seen ts (or_right (touches bad the_value t) (touches_nodes bad the_value ts) h))

  -- what is known of a node on a spine
  pub record Seen (e : Tree) : Type 0 where
    pub untouched : touches bad all_of_it e ≡ false
    pub tidy : strays true e ≡ false
    pub formed : all_nodes undeclaring e ≡ true

  -- of a key
  pub record SeenKey (computed : Bool) (p : Tree) : Type 0 where
    pub untouched : touches bad (key_need computed) p ≡ false
    pub tidy : strays false p ≡ false

  -- of arguments
  pub record SeenAll (ts : Trees) : Type 0 where
    pub untouched : touches_nodes bad the_value ts ≡ false
    pub tidy : strays_nodes false ts ≡ false

  pub seen_object : (l : Label) (o p : Tree) → Seen (node MemberExpression l (one o then one p then done)) → Seen o
  seen_object l o p h = record {
    untouched = read_as hidden steady (value_and_form true) all_of_it refl refl o (object_free hidden steady true (flag_after l.flags) o (or_left (touches bad (object_need true (flag_after l.flags)) o) (touches bad (key_need (flag l.flags)) p || false) h.untouched));
    tidy = tidy_object l o p h.tidy;
    formed = (first_part MemberExpression l o (one p then done) refl h.formed).1;
  }

  pub seen_key : (l : Label) (o p : Tree) → Seen (node MemberExpression l (one o then one p then done)) → SeenKey (flag l.flags) p
  seen_key l o p h = record {
    untouched = or_left (touches bad (key_need (flag l.flags)) p) false (or_right (touches bad (object_need true (flag_after l.flags)) o) (touches bad (key_need (flag l.flags)) p || false) h.untouched);
    tidy = tidy_key l o p h.tidy;
  }

  callee_evaluates : (b : Bool) → evaluates (the_callee b).level ≡ true
  callee_evaluates true = refl
  callee_evaluates false = refl

  pub seen_callee : (l : Label) (f : Tree) (ts : Trees) → Seen (node CallExpression l (one f then many ts then done)) → Seen f
  seen_callee l f ts h = record {
    untouched = read_as hidden steady (the_callee (flag l.flags)) all_of_it (callee_evaluates (flag l.flags)) refl f (or_left (touches bad (the_callee (flag l.flags)) f) (touches_nodes bad the_value ts || false) h.untouched);
    tidy = tidy_callee l f ts h.tidy;
    formed = (first_part CallExpression l f (many ts then done) refl h.formed).1;
  }

  pub seen_arguments : (l : Label) (f : Tree) (ts : Trees) → Seen (node CallExpression l (one f then many ts then done)) → SeenAll ts
  seen_arguments l f ts h = record {
    untouched = or_left (touches_nodes bad the_value ts) false (or_right (touches bad (the_callee (flag l.flags)) f) (touches_nodes bad the_value ts || false) h.untouched);
    tidy = tidy_arguments l f ts h.tidy;
  }

  -- a step without a mark, over parts where no bad name stands
  pub touched_member : (l : Label) (computed : Bool) (o p : Tree) → touches bad all_of_it o ≡ false → SeenKey computed p → touches bad all_of_it (member_at l computed o p) ≡ false
  touched_member l computed o p h g =
      or_both (touches bad (value_and_form true) o) (touches bad (key_need computed) p || false) (read_as hidden steady all_of_it (value_and_form true) refl refl o h) (or_both (touches bad (key_need computed) p) false g.untouched refl)

  touched_call : (l : Label) (f : Tree) (ts : Trees) → touches bad all_of_it f ≡ false → SeenAll ts → touches bad all_of_it (call_at l f ts) ≡ false
  touched_call l f ts h g =
      or_both (touches bad (the_callee false) f) (touches_nodes bad the_value ts || false) (read_as hidden steady all_of_it (the_callee false) refl refl f h) (or_both (touches_nodes bad the_value ts) false g.untouched refl)

  pub key_like : (computed : Bool) (p : Tree) → SeenKey computed p → (d : Text → Cell) → Like (K d) w v (key_need computed) (meaning w p) (meaning v p)
  key_like computed p h d = kept_like hidden steady w v same others d (key_need computed) p h.untouched

  pub key_seen : (computed : Bool) (p : Tree) → SeenKey computed p → Alike F Equal (key w computed (meaning w p)) (key v computed (meaning v p))
  key_seen computed p h = key_alike F w v same computed (meaning w p) (meaning v p) (seen_here (key_need computed) p h.untouched)

  -- THE INVARIANT

  -- What a member on the way comes from: the source evaluates an object and then the key, and the result's object gives the same
  -- value behind the tests so far.
  pub record ObjectParts (source : M Reference) (way : Way) (computed : Bool) (o p : Tree) : Type 0 where
    pub object : M Value
    pub splits : (s : State) → source s ≡ onward (object s) (λ u. key w computed (meaning w p) >>= λ k. return (property u k))
    pub alike : Alike F Equal object (passes v way.tests (value v (meaning v o)))
    pub keys : SeenKey computed p
    pub known : Known hidden way.taken o
    pub tidy : strays false o ≡ false

  abbrev pub ObjectOf : M Reference → Way → Tree → Type 0
  ObjectOf source way (node MemberExpression k (one o then (one p then done))) = flag_after k.flags ≡ false → ObjectParts source way (flag k.flags) o p
  ObjectOf source way _ = Unit {0}

  -- How far a spine is lowered, and what its source means: both give the same reference, and are cut short together.
  pub record Follows (source : Meaning) (way : Way) : Type 0 where
    pub reference : Alike F (SameReference F) source.reference (passes v way.tests (meaning v way.current).reference)
    pub form : (meaning v way.current).form ≡ source.form
    pub object : ObjectOf source.reference way (without_parens way.current)
    pub known : Known hidden way.taken way.current
    pub no_math : has_tests way.tests ≡ true → NoMath v (meaning v way.current).form
    pub untouched : way.tests ≡ [] → touches bad all_of_it way.current ≡ false
    pub tidy : strays false way.current ≡ false
    pub single : single_parens way.current ≡ true
    pub tests_tidy : AllTidy way.tests
    pub holder : (x : Text) → way.holder ≡ Some x → is_among way.taken x ≡ true

  -- the value is the same too
  pub value_follows : {source : Meaning} {way : Way} → Follows source way → Alike F Equal (value w source) (passes v way.tests (value v (meaning v way.current)))
  value_follows {source} {way} h =
      subst (Alike F Equal (value w source)) (passes_then v way.tests (meaning v way.current).reference (get_value v))
      (λ s t g. onward_same F (h.reference s t g) (λ r q e. get_alike F w v same e))

  -- what has an object has a reference
  pub from_parts : {source : M Reference} {way : Way} {computed : Bool} {o p : Tree} → ObjectParts source way computed o p → Alike F (SameReference F) source (passes v way.tests (member v computed false (meaning v o) (meaning v p)).reference)
  from_parts {source} {way} {computed} {o} {p} h s t g =
      rw (h.splits s)
      (subst (λ m. Same F (SameReference F) (onward (h.object s) (λ u. key w computed (meaning w p) >>= λ k. return (property u k))) (m t)) (passes_then v way.tests (value v (meaning v o)) (λ u. key v computed (meaning v p) >>= λ k. return (property u k)))
      (onward_same F (h.alike s t g) object_step))
    where
      key_step : (u k i : Value) → Equal k i → Alike F (SameReference F) (return (property u k)) (return (property u i))
      key_step u k _ equal s t g = both_give same_property g

      object_step : (u z : Value) → Equal u z → Alike F (SameReference F) (key w computed (meaning w p) >>= λ k. return (property u k)) (key v computed (meaning v p) >>= λ k. return (property z k))
      object_step u _ equal s t g = onward_same F (key_seen computed p h.keys s t g) (λ k i e. key_step u k i e)

  -- BASE

  known_seen : (taken : List Text) (form : Bool) (o : Tree) → touches bad (value_and_form form) o ≡ false → Known hidden taken o
  known_seen taken form (node Identifier l fs) h = inl (or_left (hidden (first_text l.texts)) (touches_fields bad (needs (value_and_form form) Identifier l.texts l.flags) fs) h)
  known_seen taken form (node _ l fs) h = tt

  member_splits : (k : Label) (o p : Tree) → flag_after k.flags ≡ false → (s : State) → (meaning w (node MemberExpression k (one o then one p then done))).reference s ≡ onward (value w (meaning w o) s) (λ u. key w (flag k.flags) (meaning w p) >>= λ i. return (property u i))
  member_splits k o p e s = rw e refl

  base_object : (e t : Tree) (form : Bool) → (meaning w e).reference ≡ (meaning w t).reference → touches bad (record { level = Level.whole_reference; form = form }) t ≡ false → strays false t ≡ false → ObjectOf (meaning w e).reference (start e) t
  base_object e (node MemberExpression k (one o then (one p then done))) form same_reference free tidy = λ unmarked.
      let marked : Bool = flag_after k.flags in
      let free_o : touches bad (value_and_form form) o ≡ false = object_free hidden steady form marked o (or_left (touches bad (object_need form marked) o) (touches bad (key_need (flag k.flags)) p || false) free) in
      let free_p : touches bad (key_need (flag k.flags)) p ≡ false = or_left (touches bad (key_need (flag k.flags)) p) false (or_right (touches bad (object_need form marked) o) (touches bad (key_need (flag k.flags)) p || false) free) in
      let tidy_both : strays false o || (strays false p || false) ≡ false = or_right (flag_after k.flags && true) (strays false o || (strays false p || false)) tidy in
      record {
        object = value w (meaning w o);
        splits = λ s. ap (λ m. m s) same_reference ∙ member_splits k o p unmarked s;
        alike = (seen_here (value_and_form form) o free_o).evaluation;
        keys = record { untouched = free_p; tidy = or_left (strays false p) false (or_right (strays false o) (strays false p || false) tidy_both) };
        known = known_seen [] form o free_o;
        tidy = or_left (strays false o) (strays false p || false) tidy_both;
      }
  base_object e _ form same_reference free tidy = tt

  pub follows_base : (e : Tree) → is_link e ≡ false → Seen e → Follows (meaning w e) (start e)
  follows_base e link h =
      let like : Like F w v all_of_it (meaning w e) (meaning v e) = seen_here all_of_it e h.untouched in
      let below : StrippedFree bad Level.whole_reference e = stripped_free bad Level.whole_reference true e h.untouched in
      let tidy_here : strays false e ≡ false = tidy_base e link h.tidy in
      record {
        reference = like.evaluation;
        form = like.form refl;
        object = base_object e (without_parens e) below.form (stripped_reference w e h.formed) below.free (tidy_stripped e tidy_here);
        known = known_seen [] true e (read_as hidden steady all_of_it (value_and_form true) refl refl e h.untouched);
        no_math = λ k. absurd (cc k);
        untouched = λ _. h.untouched;
        tidy = tidy_here;
        single = undeclaring_single e h.formed;
        tests_tidy = tt;
        holder = λ x k. absurd (cc k);
      }

  -- A MEMBER WITHOUT A MARK

  pub follows_member : (l : Label) (computed : Bool) (o p : Tree) (way : Way) → l.flags ≡ computed ∷ false ∷ [] → Seen (node MemberExpression l (one o then one p then done)) → Follows (meaning w o) way →
      Follows (meaning w (node MemberExpression l (one o then one p then done))) (record way { current = member_at l computed way.current p })
  follows_member l computed o p way flags h below =
      let keys : SeenKey computed p = rw (ap flag flags) at (seen_key l o p h) in
      let parts : ObjectParts (meaning w (node MemberExpression l (one o then one p then done))).reference (record way { current = member_at l computed way.current p }) computed way.current p = record {
        object = value w (meaning w o);
        splits = λ s. rw (← ap flag flags) (member_splits l o p (ap flag_after flags) s);
        alike = value_follows below;
        keys = keys;
        known = below.known;
        tidy = below.tidy;
      } in
      record {
        reference = from_parts parts;
        form = rw (ap flag flags, ap flag_after flags) (member_form_like F w v same computed false (meaning w o) (meaning v way.current) (meaning w p) (meaning v p) (seen_words hidden steady w v same others all_of_it o (seen_object l o p h).untouched refl) below.form (seen_here (key_need computed) p keys.untouched));
        object = λ _. parts;
        known = tt;
        no_math = λ k. member_no_math v computed (meaning v way.current).form (meaning v p).form (below.no_math k);
        untouched = λ k. touched_member l computed way.current p (below.untouched k) keys;
        tidy = tidy_member l computed way.current p below.tidy keys.tidy;
        single = refl;
        tests_tidy = below.tests_tidy;
        holder = below.holder;
      }

  -- A CALL WITHOUT A MARK

  pub follows_call : (l : Label) (f : Tree) (ts : Trees) (way : Way) → l.flags ≡ false ∷ [] → Seen (node CallExpression l (one f then many ts then done)) → Follows (meaning w f) way →
      Follows (meaning w (node CallExpression l (one f then many ts then done))) (record way { current = call_at l way.current ts })
  follows_call l f ts way flags h below =
      let args : SeenAll ts = seen_arguments l f ts h in
      let formed : World → Form → Form = λ u. form_beside (u.spreads && begins_with_spread ts) (u.spreads && has_spread ts) in
      let same_form : formed v (meaning v way.current).form ≡ formed w (meaning w f).form = ap (λ (b : Bool). form_beside (b && begins_with_spread ts) (b && has_spread ts) (meaning v way.current).form) others.spreads ∙ ap (formed w) below.form in
      let calls : Like F w v all_of_it (call_of w false (with_form (formed w) (meaning w f)) (meanings w ts)) (call_of v false (behind v way.tests (with_form (formed v) (meaning v way.current))) (meanings v ts)) =
      call_like F w v same all_of_it false (with_form (formed w) (meaning w f)) (behind v way.tests (with_form (formed v) (meaning v way.current))) (meanings w ts) (meanings v ts) (record { evaluation = by_reference below.reference; form = λ _. same_form }) (all_seen ts args.untouched) in
      record {
        reference = rw (ap flag flags) (subst (Alike F (SameReference F) (call_of w false (with_form (formed w) (meaning w f)) (meanings w ts)).reference)
            (call_behind v way.tests (with_form (formed v) (meaning v way.current)) (meanings v ts) (λ k. formed_no_math v (v.spreads && begins_with_spread ts) (v.spreads && has_spread ts) (meaning v way.current).form (below.no_math k))) calls.evaluation);
        form = refl;
        object = tt;
        known = tt;
        no_math = λ k. tt;
        untouched = λ k. touched_call l way.current ts (below.untouched k) args;
        tidy = tidy_call l way.current ts below.tidy args.tidy;
        single = refl;
        tests_tidy = below.tests_tidy;
        holder = below.holder;
      }
