-- The rows of optional chaining: a chain, a chain that is called, a chain whose member is deleted, and what they become, are
-- alike.
use Rattle.std.proofs.Common.{◌≡◌, refl, List, [], ◌∷◌, ◌++◌, ap, subst, sym, ◌∙◌, ◌⊎◌, inl, inr}
use Rattle.std.specs.Prelude.{Bool, true, false, ◌||◌, codes, if◌then◌else◌, not}
use Rattle.es_tree.specs.Words.{Text}
use Rattle.es_tree.specs.Fresh.{is_among}
use Rattle.es_tree.specs.Names.{first_text}
use Rattle.es_tree.specs.Parens.{without_parens}
use Rattle.es_tree.specs.Tree.{Tree, node, Label, done, ◌then◌, one, kind_of}
use Rattle.es_tree.specs.Walks.{all_nodes}
use Rattle.es_tree.specs.declared.ast_type.AstType.TheVariants.{ChainExpression, Super, UnaryExpression}
use Rattle.es_runs.specs.Alike.{Frame, set_cells, kept_cells, Agree, Same, Alike, Equal, Level, Like, LikeAt, Need, SameCalled, SameReference, SameWorld, all_of_it, bad_names, content_level, key_need, the_reference, touches, unary_need}
use Rattle.es_runs.specs.Alike.Agree.{agree}
use Rattle.es_runs.specs.Alike.Equal.{equal}
use Rattle.es_runs.specs.Alike.Level.{no_evaluation, value_alone, an_operand_of_typeof}
use Rattle.es_runs.specs.Alike.LikeCallee.{by_call}
use Rattle.es_runs.specs.Alike.Same.{both_give, both_stop, outside, at_fault}
use Rattle.es_runs.specs.Alike.SameCalled.{same_called, bound_called}
use Rattle.es_runs.specs.Alike.SameReference.{same_name, same_property, same_plain}
use Rattle.es_runs.specs.Core.{World, Called, Meaning, Reference, value, get_value, gives_value, apply_bind, callee_from, chain, delete_value, key, method_call, receiver, tested_callee, typeof_value, unary_class, is_free, meaning, flag, flag_after, is_spread_kind}
use Rattle.es_runs.specs.Core.Binding.{changeable}
use Rattle.es_runs.specs.Core.Form.{other}
use Rattle.es_runs.specs.Core.Reference.{named, property, plain}
use Rattle.es_runs.specs.Machine.{Value, M, ◌>>=◌, onward, return, State, Result, Cell, is_callable, is_true}
use Rattle.es_runs.specs.Machine.Value.{undefined, text}
use Rattle.es_runs.specs.Machine.Values.{none, ◌and◌}
use Rattle.es_runs.specs.Machine.Question.{get, operator}
use Rattle.es_runs.specs.Machine.Result.{gives, stops}
use Rattle.es_runs.specs.OptionalChaining.{Way, BoundCallee, OptionalChainingRule, bind_node, delete_node, has_tests, is_link, is_member, is_this_or_super, is_super, joined_by_or, member_at, takes_value, true_node, where_short}
use Rattle.es_runs.specs.OptionalChaining.BoundCallee.{no_member, to_object}
use Rattle.es_runs.specs.OptionalChaining.OptionalChainingRule.{by_tests, as_callee, in_delete}
use Rattle.es_runs.specs.Rules.{member_node, strays, void_zero_node}
use Rattle.es_runs.specs.Runs.{cells, identifier}
use Rattle.es_runs.specs.Standing.{undeclaring}
use Rattle.es_runs.proofs.CoreWorlds.{never}
use Rattle.es_runs.proofs.Basic.{ask_alike, get_alike, onward_same, then_alike}
use Rattle.es_runs.proofs.Congruence.{delete_alike, plain_like, typeof_alike}
use Rattle.es_runs.proofs.Duplicated.{AllSet, kept_agree, now_kept, now_set, read_names}
use Rattle.es_runs.proofs.Fresh.{or_left}
use Rattle.es_runs.proofs.Lists.{key_alike}
use Rattle.es_runs.proofs.Named.{or_both}
use Rattle.es_runs.proofs.NoStray.{delete_uncut, typeof_uncut, value_uncut}
use Rattle.es_runs.proofs.RowPlaces.{RowPlace, IsRuleAlikeWhere}
use Rattle.es_runs.proofs.Stripped.{StrippedFree, stripped_free, stripped_reference}
use Rattle.es_runs.proofs.Temporary.{bytes_eq-flip, onward_onward, plain_again}
use Rattle.es_runs.proofs.Uncut.{NeverCut, bind_uncut, get_uncut}
use Rattle.es_runs.proofs.Written.{one_of}
use Rattle.es_runs.proofs.SameOthers.{SameOthers}
use Rattle.es_runs.proofs.OptionalChainingCalls.{NoProperty, passes_twice}
use Rattle.es_runs.proofs.OptionalChainingEnds.{ended, short_then, short_value}
use Rattle.es_runs.proofs.OptionalChainingKinds.{Unnamed, chain_content, first_part, link_gives, link_unnamed}
use Rattle.es_runs.proofs.OptionalChainingMarks.{formed_stripped, covers_first, covers_second}
use Rattle.es_runs.proofs.OptionalChainingNeeds.{evaluates, read_as}
use Rattle.es_runs.proofs.OptionalChainingReceivers.{Covers, Held, Received, received}
use Rattle.es_runs.proofs.OptionalChainingReceivers.Held.{held, neither, not_called}
use Rattle.es_runs.proofs.OptionalChainingSpines.{tested_link, walks}
use Rattle.es_runs.proofs.OptionalChainingNullChecks.{passes, passes_then}
use Rattle.es_runs.proofs.OptionalChainingUncut.{tidy_member, tidy_stripped}
use Rattle.es_runs.proofs.OptionalChainingWalks.{Follows, ObjectOf, ObjectParts, Seen, key_like}

-- a rule where no mark strays in the node
abbrev pub WhereTidy : (Need → Tree → Tree → Type 0) → Need → Tree → Tree → Type 0
WhereTidy R n a b = R n a b × (strays false a ≡ false)

-- no mark strays in a member that is bound
pub tidy_bound : (e r : Tree) → strays false e ≡ false → strays false r ≡ false → strays false (bind_node e r) ≡ false
tidy_bound e r h g =
    or_both (strays false (member_node false e (identifier (codes "bind")))) ((strays false r || false) || false) (or_both (strays false e) (strays false (identifier (codes "bind")) || false) h refl) (or_both (strays false r || false) false (or_both (strays false r) false g refl) refl)

super_receives : (e : Tree) → is_super e ≡ true → is_this_or_super e ≡ true
super_receives (node Super l fs) h = h
super_receives (node k l fs) h = absurd (cc h)

-- a conditional has no form that a silent meaning asks for
short_form : (v : World) (m : Label) (ts : List Tree) (short long : Tree) → has_tests ts ≡ true → (meaning v (where_short m ts short long)).form ≡ other
short_form v m [] short long h = absurd (cc h)
short_form v m (t ∷ ts) short long h = refl

-- WHAT IS DONE WITH A REFERENCE

-- what isn't a name is read before `typeof`
typeof_unnamed : (v : World) (q : Result Reference) → Unnamed q → onward (onward q (get_value v)) (λ u. typeof_value v (plain u)) ≡ onward q (typeof_value v)
typeof_unnamed v (gives (named x) s) h = absurd h
typeof_unnamed v (gives (property o k) s) h = refl
typeof_unnamed v (gives (plain u) s) h = refl
typeof_unnamed v (stops n s) h = refl

-- neither a name nor a member
callee_plain : (v : World) (q : Result Reference) → Unnamed q → NoProperty q → onward (onward q (get_value v)) (λ u. callee_from v (plain u)) ≡ onward q (callee_from v)
callee_plain v (gives (named x) s) h g = absurd h
callee_plain v (gives (property o k) s) h g = absurd g
callee_plain v (gives (plain u) s) h g = refl
callee_plain v (stops n s) h g = refl

callee_uncut : (w : World) (r : Reference) → NeverCut (callee_from w r)
callee_uncut w r = bind_uncut (get_value w r) (λ f. tested_callee (is_callable f) f (receiver r)) (get_uncut w r) (λ f. tested (is_callable f) f)
  where
    tested : (b : Bool) (f : Value) → NeverCut (tested_callee b f (receiver r))
    tested true f s = tt
    tested false f s = tt

module _ (F : Frame) (w v : World) (same : SameWorld F.hidden w v) where
  tested_alike : (b : Bool) (f r : Value) → Alike F SameCalled (tested_callee b f r) (tested_callee b f r)
  tested_alike true f r s t g = both_give same_called g
  tested_alike false f r s t g = outside

  callee_alike : (r q : Reference) → SameReference F r q → Alike F SameCalled (callee_from w r) (callee_from v q)
  callee_alike _ _ (same_name {x = x} e) = then_alike F (get_alike F w v same (same_name e)) (λ f. tested_alike (is_callable f) f undefined)
  callee_alike _ _ (same_property {o = o} {k = k}) = then_alike F (ask_alike F (get o k)) (λ f. tested_alike (is_callable f) f o)
  callee_alike _ _ (same_plain {v = u}) = tested_alike (is_callable u) u undefined

module _ (no_all : Bool) (hidden steady bound in_use : Text → Bool) (w v : World) (counts : v.counts_all ≡ not no_all) (same : SameWorld hidden w v) (others : SameOthers hidden steady w v) (vars : (y : Text) → hidden y ≡ true → v.scope y ≡ changeable) (steady_bound : (y : Text) → steady y ≡ true → is_free (w.scope y) ≡ false) (binds : (y : Text) → bound y ≡ true → is_free (w.scope y) ≡ false) where
  abbrev H : Frame
  H = set_cells hidden

  abbrev FollowsHere : Meaning → Way → Type 0
  FollowsHere = Follows hidden steady w v same others steady_bound

  -- A CHAIN

  module _ (source : Meaning) (way : Way) (follows : FollowsHere source way) (m : Label) (tested : has_tests way.tests ≡ true) (link : is_link way.current ≡ true) where
    abbrev after : Tree → Meaning
    after long = meaning v (where_short m way.tests void_zero_node long)

    content_alike : {A : Type 0} (R : A → A → Type 0) (k l : Reference → M A) → ((r q : Reference) → SameReference H r q → Alike H R (k r) (l q)) → Alike H R (source.reference >>= k) (passes v way.tests ((meaning v way.current).reference >>= l))
    content_alike R k l h = subst (Alike H R (source.reference >>= k)) (passes_then v way.tests (meaning v way.current).reference l) (λ s t g. onward_same H (follows.reference s t g) h)

    chain_value : Alike H Equal (value w (chain source)) (value v (after way.current))
    chain_value =
        subst (Alike H Equal (value w (chain source))) (sym (short_value v m way.tests void_zero_node way.current))
        (ended H Equal w v others.uncut source way.tests follows.tests_tidy (get_value w) (get_uncut w) (value v (meaning v void_zero_node)) (value v (meaning v way.current)) (value_uncut v others.uncut way.current follows.tidy)
        (λ s t g. both_give equal g) (content_alike Equal (get_value w) (get_value v) (λ r q e. get_alike H w v same e)))

    current_then : {A : Type 0} (k : Value → M A) → ((u : Value) → NeverCut (k u)) → NeverCut (value v (meaning v way.current) >>= k)
    current_then k h = bind_uncut (value v (meaning v way.current)) k (value_uncut v others.uncut way.current follows.tidy) h

    chain_typeof : Alike H Equal ((chain source).reference >>= typeof_value w) ((after way.current).reference >>= typeof_value v)
    chain_typeof =
        let read_first : (value v (meaning v way.current) >>= λ u. typeof_value v (plain u)) ≡ ((meaning v way.current).reference >>= typeof_value v) = λ i s. typeof_unnamed v ((meaning v way.current).reference s) (link_unnamed v way.current link s) i in
        subst (Alike H Equal ((chain source).reference >>= typeof_value w)) (sym (short_then v m way.tests void_zero_node way.current (typeof_value v) tested))
        (ended H Equal w v others.uncut source way.tests follows.tests_tidy (typeof_value w) (typeof_uncut w) (value v (meaning v void_zero_node) >>= λ u. typeof_value v (plain u)) (value v (meaning v way.current) >>= λ u. typeof_value v (plain u))
        (current_then (λ u. typeof_value v (plain u)) (λ u. typeof_uncut v (plain u)))
        (ask_alike H (operator (codes "typeof") (undefined and none)))
        (subst (λ n. Alike H Equal (source.reference >>= typeof_value w) (passes v way.tests n)) (sym read_first) (content_alike Equal (typeof_value w) (typeof_value v) (typeof_alike H w v same))))

    -- called where it isn't a member
    chain_callee : is_member way.current ≡ false → Alike H SameCalled ((chain source).reference >>= callee_from w) ((after way.current).reference >>= callee_from v)
    chain_callee unbound =
        let read_first : (value v (meaning v way.current) >>= λ u. callee_from v (plain u)) ≡ ((meaning v way.current).reference >>= callee_from v) = λ i s. callee_plain v ((meaning v way.current).reference s) (link_unnamed v way.current link s) (link_gives v way.current link unbound s) i in
        subst (Alike H SameCalled ((chain source).reference >>= callee_from w)) (sym (short_then v m way.tests void_zero_node way.current (callee_from v) tested))
        (ended H SameCalled w v others.uncut source way.tests follows.tests_tidy (callee_from w) (callee_uncut w) (value v (meaning v void_zero_node) >>= λ u. callee_from v (plain u)) (value v (meaning v way.current) >>= λ u. callee_from v (plain u))
        (current_then (λ u. callee_from v (plain u)) (λ u. callee_uncut v (plain u)))
        (λ s t g. outside)
        (subst (λ n. Alike H SameCalled (source.reference >>= callee_from w) (passes v way.tests n)) (sym read_first) (content_alike SameCalled (callee_from w) (callee_from v) (callee_alike H w v same))))

    -- A MEMBER THAT IS CALLED, BOUND TO ITS OBJECT

    -- what a bound member gives, from the value of the member on
    abbrev bound_rest : Tree → Value → M Called
    bound_rest r f = method_call v apply_bind (meaning v r ∷ []) (property f (text (codes "bind"))) >>= λ u. callee_from v (plain u)

    bind_then : (n r : Tree) → is_spread_kind (kind_of r) ≡ false → (value v (meaning v (bind_node n r)) >>= λ u. callee_from v (plain u)) ≡ (value v (meaning v n) >>= bound_rest r)
    bind_then n r h = rw (h, never v.spreads) (λ i s.
        (ap (λ q. onward q (λ u. callee_from v (plain u))) (plain_again v (onward (onward (value v (meaning v n) s) (λ o. return (property o (text (codes "bind"))))) (method_call v apply_bind (meaning v r ∷ []))) ∙ onward_onward (value v (meaning v n) s) (λ o. return (property o (text (codes "bind")))) (method_call v apply_bind (meaning v r ∷ [])))
        ∙ onward_onward (value v (meaning v n) s) (λ f. method_call v apply_bind (meaning v r ∷ []) (property f (text (codes "bind")))) (λ u. callee_from v (plain u))) i)

    bound_now : (r : Tree) (f u : Value) (s t : State) → Agree H s t → value v (meaning v r) t ≡ gives u t → Same H SameCalled (tested_callee (is_callable f) f u s) (bound_rest r f t)
    bound_now r f u s t g e = at (is_callable f) refl
      where
        at : (b : Bool) → is_callable f ≡ b → Same H SameCalled (tested_callee (is_callable f) f u s) (bound_rest r f t)
        at false i = rw i outside
        at true i = rw i (rw e (both_give bound_called g))

    got_bound : (r : Tree) (u : Value) (d : Text → Cell) → AllSet hidden d → ((t : State) → ((z : Text) → read_names r z ≡ true → cells t z ≡ d z) → value v (meaning v r) t ≡ gives u t) → ((z : Text) → read_names r z ≡ true → (hidden z ≡ true) ⊎ (steady z ≡ true)) → {p q : Result Value} → Same (kept_cells hidden steady d) Equal p q →
        Same H SameCalled (onward p (λ f. tested_callee (is_callable f) f u)) (onward q (bound_rest r))
    got_bound r u d set again kept (both_give {a = f} {s = s} {t = t} equal (agree h g k)) = bound_now r f u s t (kept_agree hidden steady d set s t (agree h g k)) (again t (λ z e. stays z (kept z e)))
      where
        stays : (z : Text) → (hidden z ≡ true) ⊎ (steady z ≡ true) → cells t z ≡ d z
        stays z (inl e) = g z e
        stays z (inr e) = k z e
    got_bound r u d set again kept (both_stop g) = both_stop (kept_agree hidden steady d set _ _ g)
    got_bound r u d set again kept outside = outside
    got_bound r u d set again kept (at_fault h0) = at_fault h0

    from_held : (computed : Bool) (p r : Tree) → ((d : Text → Cell) → Like (kept_cells hidden steady d) w v (key_need computed) (meaning w p) (meaning v p)) → ((z : Text) → read_names r z ≡ true → (hidden z ≡ true) ⊎ (steady z ≡ true)) → {q n : Result Value} → Held hidden v (meaning v r) (read_names r) q n →
        Same H SameCalled (onward (onward q (λ u. key w computed (meaning w p) >>= λ k. return (property u k))) (callee_from w)) (onward (onward (onward n (λ u. key v computed (meaning v p) >>= λ k. return (property u k))) (get_value v)) (bound_rest r))
    from_held computed p r keys kept (held {s = s} {t = t} u again g) =
        keyed u (cells t) (now_set hidden steady s t g) again (key_alike (kept_cells hidden steady (cells t)) w v same computed (meaning w p) (meaning v p) (keys (cells t)) s t (now_kept hidden steady s t g))
      where
        keyed : (u : Value) (d : Text → Cell) → AllSet hidden d → ((t : State) → ((z : Text) → read_names r z ≡ true → cells t z ≡ d z) → value v (meaning v r) t ≡ gives u t) → {a b : Result Value} → Same (kept_cells hidden steady d) Equal a b →
            Same H SameCalled (onward (onward a (λ k. return (property u k))) (callee_from w)) (onward (onward (onward b (λ k. return (property u k))) (get_value v)) (bound_rest r))
        keyed u d set again (both_give {a = k} {s = s} {t = t} equal g) = got_bound r u d set again kept (ask_alike (kept_cells hidden steady d) (get u k) s t g)
        keyed u d set again (both_stop g) = both_stop (kept_agree hidden steady d set _ _ g)
        keyed u d set again outside = outside
        keyed u d set again (at_fault h0) = at_fault h0
    from_held computed p r keys kept (neither g) = both_stop g
    from_held computed p r keys kept not_called = outside

    chain_bound : (k : Label) (computed : Bool) (o o1 p r : Tree) → Received hidden steady w v same vars steady_bound o o1 r → ObjectParts hidden steady w v same others steady_bound source.reference way computed o p →
        Alike H SameCalled ((chain source).reference >>= callee_from w) ((after (bind_node (member_at k computed o1 p) r)).reference >>= callee_from v)
    chain_bound k computed o o1 p r receives parts =
        let d : Tree = bind_node (member_at k computed o1 p) r in
        let tidy : strays false d ≡ false = tidy_bound (member_at k computed o1 p) r (tidy_member k computed o1 p receives.tidy_object parts.keys.tidy) receives.tidy_receiver in
        let with_key : Value → M Reference = λ u. key v computed (meaning v p) >>= λ i. return (property u i) in
        let last : (((passes v way.tests (value v (meaning v o1)) >>= with_key) >>= get_value v) >>= bound_rest r) ≡ passes v way.tests (value v (meaning v d) >>= λ u. callee_from v (plain u)) =
        ap (λ n. n >>= bound_rest r) (passes_twice v way.tests (value v (meaning v o1)) with_key (get_value v))
        ∙ (passes_then v way.tests (value v (meaning v (member_at k computed o1 p))) (bound_rest r)
        ∙ ap (passes v way.tests) (sym (bind_then (member_at k computed o1 p) r receives.unspread))) in
        subst (Alike H SameCalled ((chain source).reference >>= callee_from w)) (sym (short_then v m way.tests void_zero_node d (callee_from v) tested))
        (ended H SameCalled w v others.uncut source way.tests follows.tests_tidy (callee_from w) (callee_uncut w) (value v (meaning v void_zero_node) >>= λ u. callee_from v (plain u)) (value v (meaning v d) >>= λ u. callee_from v (plain u))
        (bind_uncut (value v (meaning v d)) (λ u. callee_from v (plain u)) (value_uncut v others.uncut d tidy) (λ u. callee_uncut v (plain u)))
        (λ s t g. outside)
        (λ s t g.
        subst (λ q. Same H SameCalled (onward q (callee_from w)) (passes v way.tests (value v (meaning v d) >>= λ u. callee_from v (plain u)) t)) (sym (parts.splits s))
        (subst (λ n. Same H SameCalled (onward (onward (parts.object s) (λ u. key w computed (meaning w p) >>= λ i. return (property u i))) (callee_from w)) (n t)) last
        (from_held computed p r (key_like hidden steady w v same others steady_bound computed p parts.keys) receives.kept (receives.held way.tests parts.object parts.alike s t g)))))

    -- whether it is a member or not
    chain_called : {in_use' : Text → Bool} {ys : List Text} {d : Tree} (c : Tree) → way.current ≡ c → BoundCallee steady in_use' way.holder ys c d → Covers hidden way.taken → Covers hidden ys →
        Alike H SameCalled ((chain source).reference >>= callee_from w) ((after d).reference >>= callee_from v)
    chain_called c here (no_member unbound) cover own =
        subst (λ e. Alike H SameCalled ((chain source).reference >>= callee_from w) ((after e).reference >>= callee_from v)) here (chain_callee (subst (λ e. is_member e ≡ false) (sym here) unbound))
    chain_called _ here (to_object {k = k} {computed = computed} {o = o} {o1 = o1} {p = p} {r = r} member_flags receives) cover own =
        let found : flag_after k.flags ≡ false → ObjectParts hidden steady w v same others steady_bound source.reference way (flag k.flags) o p = subst (λ e. ObjectOf hidden steady w v same others steady_bound source.reference way (without_parens e)) here follows.object in
        let parts : ObjectParts hidden steady w v same others steady_bound source.reference way computed o p = subst (λ b. ObjectParts hidden steady w v same others steady_bound source.reference way b o p) (ap flag member_flags) (found (ap flag_after member_flags)) in
        chain_bound k computed o o1 p r (received hidden steady w v same vars steady_bound super_receives receives (λ y held. cover y (follows.holder y held)) own parts.tidy) parts

    -- A MEMBER THAT IS DELETED

    chain_deleted : (t : Meaning) → t.reference ≡ (chain source).reference → Alike H Equal (t.reference >>= delete_value w) (value v (meaning v (where_short m way.tests true_node (delete_node way.current))))
    chain_deleted t same_reference =
        let read_first : value v (meaning v (delete_node way.current)) ≡ ((meaning v way.current).reference >>= delete_value v) = λ i s. plain_again v (onward ((meaning v way.current).reference s) (delete_value v)) i in
        subst (λ n. Alike H Equal (n >>= delete_value w) (value v (meaning v (where_short m way.tests true_node (delete_node way.current))))) (sym same_reference)
        (subst (Alike H Equal ((chain source).reference >>= delete_value w)) (sym (short_value v m way.tests true_node (delete_node way.current)))
        (ended H Equal w v others.uncut source way.tests follows.tests_tidy (delete_value w) (delete_uncut w) (value v (meaning v true_node)) (value v (meaning v (delete_node way.current)))
        (value_uncut v others.uncut (delete_node way.current) (or_both (strays false way.current) false follows.tidy refl))
        (λ s t g. both_give equal g)
        (subst (λ n. Alike H Equal (source.reference >>= delete_value w) (passes v way.tests n)) (sym read_first) (content_alike Equal (delete_value w) (delete_value v) (delete_alike H w v same)))))

    -- AT ITS PLACE

    by_level : (level : Level) → takes_value level ≡ true → LikeAt H w v level (chain source) (after way.current)
    by_level no_evaluation e = tt
    by_level value_alone e = chain_value
    by_level an_operand_of_typeof e = chain_typeof
    by_level _ e = absurd (cc e)

    short_like : (n : Need) (a : M Value) (ts : List Tree) (short long : Tree) → has_tests ts ≡ true → Alike H Equal a (value v (meaning v (where_short m ts short long))) → Like H w v n (gives_value a) (meaning v (where_short m ts short long))
    short_like n a [] short long h e = absurd (cc h)
    short_like n a (t ∷ ts) short long h e =
        let chosen : M Value = λ s. onward (value v (meaning v (joined_by_or t ts)) s) (λ b. if is_true b then value v (meaning v short) else value v (meaning v long)) in
        plain_like H w v same n a chosen (λ s z g. subst (Same H Equal (a s)) (plain_again v (chosen z)) (e s z g))

-- THE ROWS

module _ (no_all : Bool) (bound steady in_use : Text → Bool) where
  among_one : (xs : List Text) (y : Text) → is_among xs y ≡ one_of xs y
  among_one [] y = refl
  among_one (x ∷ xs) y = λ i. bytes_eq-flip x y i || among_one xs y i

  covers_all : (xs : List Text) → Covers (one_of xs) xs
  covers_all xs y e = rw (← among_one xs y) e

  module _ (xs : List Text) (w v : World) (n : Need) (a : Tree) (place : RowPlace bound steady w v xs n a) where
    steady_here : (y : Text) → steady y ≡ true → is_free (w.scope y) ≡ false
    steady_here y h = place.binds y (place.steady_bound y h)

    bound_here : (y : Text) → bound y ≡ true → is_free (w.scope y) ≡ false
    bound_here y h = place.binds y h

    abbrev SeenHere : Tree → Type 0
    SeenHere = Seen (one_of xs) steady w v place.same place.others steady_here

    -- the content of a chain
    seen_chain : (m : Label) (e : Tree) (level : Level) → evaluates level ≡ true → touches (bad_names (one_of xs) steady) (record { level = level; form = false }) e || false ≡ false → strays false (node ChainExpression m (one e then done)) ≡ false → all_nodes undeclaring (node ChainExpression m (one e then done)) ≡ true → SeenHere e
    seen_chain m e level evaluated free tidy formed = record {
      untouched = read_as (one_of xs) steady (record { level = level; form = false }) all_of_it evaluated refl e (or_left (touches (bad_names (one_of xs) steady) (record { level = level; form = false }) e) false free);
      tidy = or_left (strays true e) false tidy;
      formed = (chain_content m e formed).1;
    }

  pub optional_chaining_like : (xs : List Text) → IsRuleAlikeWhere no_all bound steady xs (WhereTidy (OptionalChainingRule no_all bound steady in_use xs))
  optional_chaining_like xs w v n _ _ counts place (by_tests {m = m} {e = e} {w = way} level walked tested, tidy) = record {
    evaluation = at n.level refl level;
    form = λ k. short_form v m way.tests void_zero_node way.current tested;
  }
    where
      whole : Tree
      whole = node ChainExpression m (one e then done)

      evaluated : (k : Level) → n.level ≡ k → evaluates (content_level k) ≡ true → takes_value k ≡ true → LikeAt (set_cells (one_of xs)) w v k (chain (meaning w e)) (meaning v (where_short m way.tests void_zero_node way.current))
      evaluated k here is takes =
          let seen : Seen (one_of xs) steady w v place.same place.others (steady_here xs w v n whole place) e = seen_chain xs w v n whole place m e (content_level n.level) (rw here is) place.untouched tidy place.placed in
          let follows : Follows (one_of xs) steady w v place.same place.others (steady_here xs w v n whole place) (meaning w e) way = walks no_all (one_of xs) steady bound in_use w v (place.same.counts ∙ counts) place.same place.others place.cells (steady_here xs w v n whole place) (bound_here xs w v n whole place) seen (covers_all xs) walked in
          by_level no_all (one_of xs) steady bound in_use w v (place.same.counts ∙ counts) place.same place.others place.cells (steady_here xs w v n whole place) (bound_here xs w v n whole place) (meaning w e) way follows m tested (tested_link walked tested) k takes

      at : (k : Level) → n.level ≡ k → takes_value k ≡ true → LikeAt (set_cells (one_of xs)) w v k (chain (meaning w e)) (meaning v (where_short m way.tests void_zero_node way.current))
      at no_evaluation here takes = tt
      at value_alone here takes = evaluated value_alone here refl takes
      at an_operand_of_typeof here takes = evaluated an_operand_of_typeof here refl takes
      at _ here takes = absurd (cc takes)
  optional_chaining_like _ w v n _ _ counts place (as_callee {m = m} {e = e} {d = d} {w = way} {xs = ys} level walked tested callee, tidy) =
      let xs : List Text = way.taken ++ ys in
      let whole : Tree = node ChainExpression m (one e then done) in
      let evaluated : evaluates (content_level n.level) ≡ true = rw level refl in
      let seen : Seen (one_of xs) steady w v place.same place.others (steady_here xs w v n whole place) e = seen_chain xs w v n whole place m e (content_level n.level) evaluated place.untouched tidy place.placed in
      let cover : Covers (one_of xs) way.taken = covers_first (one_of xs) way.taken ys (covers_all xs) in
      let follows : Follows (one_of xs) steady w v place.same place.others (steady_here xs w v n whole place) (meaning w e) way = walks no_all (one_of xs) steady bound in_use w v (place.same.counts ∙ counts) place.same place.others place.cells (steady_here xs w v n whole place) (bound_here xs w v n whole place) seen cover walked in
      record {
        evaluation = subst (λ k. LikeAt (set_cells (one_of xs)) w v k (chain (meaning w e)) (meaning v (where_short m way.tests void_zero_node d))) (sym level)
            (by_call refl (chain_called no_all (one_of xs) steady bound in_use w v (place.same.counts ∙ counts) place.same place.others place.cells (steady_here xs w v n whole place) (bound_here xs w v n whole place) (meaning w e) way follows m tested (tested_link walked tested) way.current refl callee cover (covers_second (one_of xs) way.taken ys (covers_all xs))));
        form = λ k. short_form v m way.tests void_zero_node d tested;
      }
  optional_chaining_like xs w v n _ _ counts place (in_delete {m = m} {l = l} {t = t} {e = e} {w = way} texts inner walked tested, tidy) =
      let bad : Level → Text → Bool = bad_names (one_of xs) steady in
      let whole : Tree = node UnaryExpression m (one t then done) in
      let deleted : unary_need n.form (unary_class (first_text m.texts)) ≡ the_reference = rw texts refl in
      let free : touches bad the_reference t ≡ false = or_left (touches bad the_reference t) false (rw deleted at place.untouched) in
      let below : StrippedFree bad Level.whole_reference t = stripped_free bad Level.whole_reference false t free in
      let free_chain : touches bad (record { level = Level.whole_reference; form = below.form }) (node ChainExpression l (one e then done)) ≡ false = rw inner at below.free in
      let tidy_chain : strays false (node ChainExpression l (one e then done)) ≡ false = rw inner at (tidy_stripped t (or_left (strays false t) false tidy)) in
      let formed_chain : all_nodes undeclaring (node ChainExpression l (one e then done)) ≡ true = rw inner at (formed_stripped t (first_part UnaryExpression m t done refl place.placed).1) in
      let seen : Seen (one_of xs) steady w v place.same place.others (steady_here xs w v n whole place) e = seen_chain xs w v n whole place l e Level.whole_reference refl free_chain tidy_chain formed_chain in
      let follows : Follows (one_of xs) steady w v place.same place.others (steady_here xs w v n whole place) (meaning w e) way = walks no_all (one_of xs) steady bound in_use w v (place.same.counts ∙ counts) place.same place.others place.cells (steady_here xs w v n whole place) (bound_here xs w v n whole place) seen (covers_all xs) walked in
      let same_reference : (meaning w t).reference ≡ (chain (meaning w e)).reference = stripped_reference w t (first_part UnaryExpression m t done refl place.placed).1 ∙ ap (λ c. (meaning w c).reference) inner in
      rw (ap first_text texts)
      (short_like no_all (one_of xs) steady bound in_use w v (place.same.counts ∙ counts) place.same place.others place.cells (steady_here xs w v n whole place) (bound_here xs w v n whole place) (meaning w e) way follows m tested (tested_link walked tested) n ((meaning w t).reference >>= delete_value w) way.tests true_node (delete_node way.current) tested
      (chain_deleted no_all (one_of xs) steady bound in_use w v (place.same.counts ∙ counts) place.same place.others place.cells (steady_here xs w v n whole place) (bound_here xs w v n whole place) (meaning w e) way follows m tested (tested_link walked tested) (meaning w t) same_reference))
