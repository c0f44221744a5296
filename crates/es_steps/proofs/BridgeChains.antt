-- The rows of chains by symbols are those by names, where each name has its symbol.
use Rattle.std.proofs.Common.{◌≡◌, ℕ, refl, sym, ap, subst, ◌∙◌, List, [], ◌∷◌, ◌++◌, map}
use Rattle.std.proofs.lemmas.Bool.{eq-eqb, ne_eqb}
use Rattle.std.specs.Prelude.{Bool, true, false, not, ◌&&◌, ◌||◌, Option, Some, None, bytes_eq, option_map, codes, is_some}
use Rattle.es_tree.specs.Bare.{bare, bare_label, bare_trees}
use Rattle.es_tree.specs.Fresh.{IsFreshName, also, node_base}
use Rattle.es_tree.specs.Names.{first_text, flag_at}
use Rattle.es_tree.specs.Parens.{without_parens}
use Rattle.es_tree.specs.References.{is_symbol}
use Rattle.es_tree.specs.Tree.{Tree, node, Label, Fields, done, ◌then◌, one, Trees, ◌before◌, kind_of}
use Rattle.es_tree.specs.Words.{Text}
use Rattle.es_tree.specs.declared.ast_type.AstType.TheVariants.{CallExpression, ChainExpression, Identifier, MemberExpression, Super, ThisExpression, UnaryExpression}
use Rattle.es_runs.specs.NullishCoalescing.{also_all}
use Rattle.es_runs.specs.OptionalChaining.{call_at, delete_node, has_tests, is_chain_kind, is_eval, is_link, is_member, is_super, is_this_or_super, joined_by_or, member_at, null_checks, true_node, where_short, is_name_among as is_name_among_by_name, call_method as call_method_by_name, or_held as or_held_by_name, stored_call as stored_call_by_name, Receives as ReceivesByName, Way as WayByName, Tested as TestedByName, Called as CalledByName, Walked as WalkedByName, Continued as ContinuedByName, BoundCallee as BoundCalleeByName, OptionalChainingRule as OptionalChainingByName}
use Rattle.es_runs.specs.OptionalChaining.Receives.{by_this as plain_by_this, by_name as plain_by_name, by_temporary as plain_by_temporary}
use Rattle.es_runs.specs.OptionalChaining.Tested.{as_name as plain_as_name, in_holder as plain_in_holder, in_temporary as plain_in_temporary}
use Rattle.es_runs.specs.OptionalChaining.Called.{by_name as plain_called_by_name, by_value as plain_by_value, by_first_member as plain_by_first_member, by_later_member as plain_by_later_member}
use Rattle.es_runs.specs.OptionalChaining.Walked.{base as plain_base, plain_member as plain_plain_member, plain_call as plain_plain_call, marked_member as plain_marked_member, marked_call as plain_marked_call}
use Rattle.es_runs.specs.OptionalChaining.Continued.{same_spine as plain_same_spine, inner_spine as plain_inner_spine}
use Rattle.es_runs.specs.OptionalChaining.BoundCallee.{no_member as plain_no_member, to_object as plain_to_object}
use Rattle.es_runs.specs.OptionalChaining.OptionalChainingRule.{by_tests as plain_by_tests, as_callee as plain_as_callee, in_delete as plain_in_delete}
use Rattle.es_runs.specs.Rules.{assign_node, conditional_at, in_place_of, logical_node, void_zero_node}
use Rattle.es_resolution.specs.Declarations.{Bound}
use Rattle.es_steps.specs.CoreBridge.{names_among}
use Rattle.es_steps.specs.Duplication.{IsNext, is_among_symbols}
use Rattle.es_steps.specs.Nodes.{identifier}
use Rattle.es_steps.specs.OptionalChaining.{BoundCallee, Called, Continued, OptionalChainingRule, Receives, Tested, Walked, Way, bind_node, call_method, is_held, is_name_among, or_held, stored_call}
use Rattle.es_steps.specs.OptionalChaining.Receives.{by_this, by_name, by_temporary}
use Rattle.es_steps.specs.OptionalChaining.Tested.{as_name, in_holder, in_temporary}
use Rattle.es_steps.specs.OptionalChaining.Called.{by_name as called_by_name, by_value, by_first_member, by_later_member}
use Rattle.es_steps.specs.OptionalChaining.Walked.{base, plain_member, plain_call, marked_member, marked_call}
use Rattle.es_steps.specs.OptionalChaining.Continued.{same_spine, inner_spine}
use Rattle.es_steps.specs.OptionalChaining.BoundCallee.{no_member, to_object}
use Rattle.es_steps.specs.OptionalChaining.OptionalChainingRule.{by_tests, as_callee, in_delete}
use Rattle.es_steps.specs.Rules.{with_made}
use Rattle.es_steps.specs.Steps.{Site, Whole}
use Rattle.es_steps.proofs.BridgeLinks.{at-next, Linked, Takes, Tied, TiedAll, all-grows, bytes_eq-equal, bytes_eq-self, fresh-same, grow-all, link-all, link-one, look_also, look_with, takes-both, tied-grows}
use Rattle.es_steps.proofs.BridgePowers.{EachTied, each-both, each-both-tied, each-grows}
use Rattle.es_steps.proofs.BridgeRows.{Crossed, assign-tied, both-tied, identifier-tied, logical-tied, names-both, parens-tied, stripped-tied, taken-name, taken-store, taken-tied}
use Rattle.es_steps.proofs.BridgeTrees.{map-both, no_fields-bare, node_base-bare, without_parens-bare}

-- TREES

link-same : (t : Tree) → is_link (bare t) ≡ is_link t
link-same (node MemberExpression l fs) = refl
link-same (node CallExpression l fs) = refl
link-same (node _ l fs) = refl

member-same : (t : Tree) → is_member (bare t) ≡ is_member t
member-same (node MemberExpression l fs) = refl
member-same (node _ l fs) = refl

kind-same : (t : Tree) → kind_of (bare t) ≡ kind_of t
kind-same (node k l fs) = refl

this-same : (t : Tree) → is_this_or_super (bare t) ≡ is_this_or_super t
this-same (node ThisExpression l fs) = no_fields-bare fs
this-same (node Super l fs) = no_fields-bare fs
this-same (node _ l fs) = refl

super-same : (t : Tree) → is_super (bare t) ≡ is_super t
super-same (node Super l fs) = no_fields-bare fs
super-same (node _ l fs) = refl

checks-bare : (no_all : Bool) (e again : Tree) → map bare (null_checks no_all e again) ≡ null_checks no_all (bare e) (bare again)
checks-bare true e again = refl
checks-bare false e again = refl

more-checks : (no_all : Bool) (ts : List Tree) (e again : Tree) → map bare (ts ++ null_checks no_all e again) ≡ map bare ts ++ null_checks no_all (bare e) (bare again)
more-checks no_all ts e again = map-both bare ts (null_checks no_all e again) ∙ ap (λ us. map bare ts ++ us) (checks-bare no_all e again)

some-checks : (no_all : Bool) (ts : List Tree) (e again : Tree) → ts ++ null_checks no_all e again ≡ [] → ⊥
some-checks true [] e again h = cc h
some-checks false [] e again h = cc h
some-checks no_all (t ∷ ts) e again h = cc h

joined-bare : (t : Tree) (us : List Tree) → bare (joined_by_or t us) ≡ joined_by_or (bare t) (map bare us)
joined-bare t [] = refl
joined-bare t (u ∷ us) = joined-bare (logical_node (codes "||") t u) us

short-bare : (m : Label) (ts : List Tree) (short long : Tree) → bare (where_short m ts short long) ≡ where_short (bare_label m) (map bare ts) (bare short) (bare long)
short-bare m [] short long = refl
short-bare m (t ∷ ts) short long = ap (λ c. conditional_at (in_place_of (bare_label m)) c (bare short) (bare long)) (joined-bare t ts)

tests-same : (ts : List Tree) → has_tests (map bare ts) ≡ has_tests ts
tests-same [] = refl
tests-same (t ∷ ts) = refl

module _ (used : Text → Bool) (look : Text → Option ℕ) where
  checks-tied : (no_all : Bool) (e again : Tree) → Tied used look true e → Tied used look true again → EachTied used look (null_checks no_all e again)
  checks-tied true e again h g = ((refl, tt, (h, ((refl, tt, tt), tt))), tt)
  checks-tied false e again h g = ((refl, tt, (h, ((refl, tt, tt), tt))), ((refl, tt, (g, ((refl, tt, ((refl, tt, tt), tt)), tt))), tt))

  joined-tied : (t : Tree) (us : List Tree) → Tied used look true t → EachTied used look us → Tied used look true (joined_by_or t us)
  joined-tied t [] h g = h
  joined-tied t (u ∷ us) h g = joined-tied (logical_node (codes "||") t u) us (logical-tied used look true t u h g.0) g.1

  short-tied : (a : Bool) (m : Label) (ts : List Tree) (short long : Tree) → has_tests ts ≡ true → EachTied used look ts → Tied used look true short → Tied used look true long → Tied used look a (where_short m ts short long)
  short-tied a m [] short long e h g k = absurd (cc e)
  short-tied a m (t ∷ ts) short long e h g k = (refl, tt, (joined-tied t ts h.0 h.1, (g, (k, tt))))

  member-tied : (a : Bool) (l : Label) (computed : Bool) (o p : Tree) → Tied used look true o → Tied used look computed p → Tied used look a (member_at l computed o p)
  member-tied a l computed o p h g = (refl, tt, (h, (g, tt)))

  call-tied : (a : Bool) (l : Label) (f : Tree) (ts : Trees) → Tied used look true f → TiedAll used look ts → Tied used look a (call_at l f ts)
  call-tied a l f ts h g = (refl, tt, (h, (g, tt)))

  -- `c.call`, `c.bind`
  method-tied : (c : Tree) → Tied used look true c → Tied used look true (call_method c)
  method-tied c h = (refl, tt, (h, ((refl, (refl, tt), tt), tt)))

  bind-tied : (c r : Tree) → Tied used look true c → Tied used look true r → Tied used look true (bind_node c r)
  bind-tied c r h g = (refl, tt, ((refl, tt, (h, ((refl, (refl, tt), tt), tt))), ((g, tt), tt)))

  property-tied : (a : Bool) (l : Label) (o p : Tree) (computed optional : Bool) → l.flags ≡ computed ∷ optional ∷ [] → Tied used look a (node MemberExpression l (one o then (one p then done))) → Tied used look computed p
  property-tied a l o p computed optional e h = subst (λ c. Tied used look (flag_at 0 c) p) e h.2.1.0

-- a name alone
among-same : (used : Text → Bool) (look : Text → Option ℕ) (names : Option ℕ → Bool) (test : Text → Bool) → ((x : Text) → test x ≡ names (look x)) → (t : Tree) → Tied used look true t → is_name_among_by_name test (bare t) ≡ is_name_among names t
among-same used look names test same (node Identifier l fs) h = λ i. (no_fields-bare fs i && (same (first_text l.texts) ∙ ap names (sym h.1.1.1)) i) && not (is_eval (first_text l.texts))
among-same used look names test same (node _ l fs) h = refl

-- WAYS

abbrev pub bare_way : Way → WayByName
bare_way w = record { tests = map bare w.tests; current = bare w.current; holder = option_map (λ b. b.name) w.holder; taken = names_among w.taken }

abbrev HolderTied : (Text → Bool) → (Text → Option ℕ) → Option Bound → Type 0
HolderTied used look None = Unit {0}
HolderTied used look (Some b) = (used b.name ≡ true) × (b.symbol ≡ look b.name) × (is_some b.symbol ≡ true)

holder-grows : (used : Text → Bool) (look : Text → Option ℕ) (more : Text → Bool) (wider : Text → Option ℕ) → ((x : Text) → used x ≡ true → (more x ≡ true) × (wider x ≡ look x)) → (o : Option Bound) → HolderTied used look o → HolderTied more wider o
holder-grows used look more wider grow None h = tt
holder-grows used look more wider grow (Some b) h = let g = grow b.name h.0 in (g.0, h.1 ∙ sym g.1, h.2)

held-at : (w : Whole) (look : Text → Option ℕ) (u st : Text → Bool) → Linked w look u st → (b : Bound) (s : ℕ) → look b.name ≡ Some s → (y : Text) (o : Option ℕ) → look y ≡ o → (c : Bool) → bytes_eq y b.name ≡ c → c ≡ is_symbol s o
held-at w look u st link b s e y None d true f = absurd (let no : ◌≡◌ {A = Option ℕ} None (Some s) = sym d ∙ (ap look (bytes_eq-equal y b.name f) ∙ e) in cc no)
held-at w look u st link b s e y None d false f = refl
held-at w look u st link b s e y (Some m) d true f =
    let same : ◌≡◌ {A = Option ℕ} (Some m) (Some s) = sym d ∙ (ap look (bytes_eq-equal y b.name f) ∙ e) in
    sym (eq-eqb m s (let k : m ≡ s = cc same in k))
held-at w look u st link b s e y (Some m) d false f =
    sym (ne_eqb m s (λ k. let same : y ≡ b.name = link.named y b.name s (d ∙ ap (λ (j : ℕ). Some j) k) e in let no : true ≡ false = sym (ap (λ z. bytes_eq z b.name) same ∙ bytes_eq-self b.name) ∙ f in cc no))

held-same : (w : Whole) (look : Text → Option ℕ) (u st : Text → Bool) → Linked w look u st → (b : Bound) (o : Option ℕ) → b.symbol ≡ o → b.symbol ≡ look b.name → is_some o ≡ true → (y : Text) → bytes_eq y b.name ≡ is_held o (look y)
held-same w look u st link b None e d h y = absurd (cc h)
held-same w look u st link b (Some s) e d h y = held-at w look u st link b s (sym d ∙ e) y (look y) refl (bytes_eq y b.name) refl

or-held-same : (w : Whole) (look : Text → Option ℕ) (u st : Text → Bool) → Linked w look u st → (o : Option Bound) → HolderTied w.in_use look o → (y : Text) → or_held_by_name (option_map (λ b. b.name) o) st y ≡ or_held o (is_among_symbols w.steady) (look y)
or-held-same w look u st link None h y = link.steady y
or-held-same w look u st link (Some b) h y = λ i. held-same w look u st link b b.symbol refl h.1 h.2 y i || link.steady y i

-- RECEIVERS

module _ (w : Whole) (look : Text → Option ℕ) (u st : Text → Bool) (link : Linked w look u st) (holder : Option Bound) (held : HolderTied w.in_use look holder) (to_this : Tree → Bool) (to-same : (t : Tree) → to_this (bare t) ≡ to_this t) where
  record Received (xs : List Bound) (o o1 r : Tree) : Type 0 where
    rule : ReceivesByName to_this st u (option_map (λ b. b.name) holder) (names_among xs) (bare o) (bare o1) (bare r)
    takes : Takes w xs
    first : Tied (with_made xs w).in_use (look_with xs look) true o1
    again : Tied (with_made xs w).in_use (look_with xs look) true r

  name-same : (o : Tree) → Tied w.in_use look true o → is_name_among_by_name (or_held_by_name (option_map (λ b. b.name) holder) st) (bare o) ≡ is_name_among (or_held holder (is_among_symbols w.steady)) o
  name-same o h = among-same w.in_use look (or_held holder (is_among_symbols w.steady)) (or_held_by_name (option_map (λ b. b.name) holder) st) (or-held-same w look u st link holder held) o h

  received : {xs : List Bound} {o o1 r : Tree} → Receives to_this w holder xs o o1 r → Tied w.in_use look true o → Received xs o o1 r
  received (by_this {o = o} e) h = record { rule = plain_by_this (to-same o ∙ e); takes = tt; first = h; again = (refl, refl, tt) }
  received (by_name {o = o} e d) h = record { rule = plain_by_name (to-same o ∙ e) (name-same o h ∙ d); takes = tt; first = h; again = h }
  received (by_temporary {o = o} {r = r} e d next) h = record {
    rule = plain_by_temporary (to-same o ∙ e) (name-same o h ∙ d) (fresh-same w look u st link r (node_base o) (node_base (bare o)) (node_base-bare o) next);
    takes = (record { base = node_base o; next = at-next next }, tt);
    first = taken-store w look u st link r (node_base o) next o h;
    again = taken-name w look u st link r (node_base o) next;
  }

-- STEPS OF A SPINE

abbrev one_field : Tree → Tree → Fields
one_field o p = one o then (one p then done)

module _ (no_all : Bool) (known : Whole) (look : Text → Option ℕ) (u st bound : Text → Bool) (link : Linked known look u st) (same : (x : Text) → bound x ≡ is_some (look x)) where
  abbrev used_after : Way → Text → Bool
  used_after w = (with_made w.taken known).in_use

  abbrev look_after : Way → Text → Option ℕ
  look_after w = look_with w.taken look

  -- what is known of a spine that is lowered so far
  record Walk (w : Way) : Type 0 where
    takes : Takes known w.taken
    tests : EachTied (used_after w) (look_after w) w.tests
    current : Tied (used_after w) (look_after w) true w.current
    holder : HolderTied (used_after w) (look_after w) w.holder
    first : w.tests ≡ [] → w.taken ≡ []

  linked : (w : Way) → Walk w → Linked (with_made w.taken known) (look_after w) (also_all (names_among w.taken) u) st
  linked w h = link-all w.taken known look u st h.takes link

  bound-first : (w : Way) → w.taken ≡ [] → (x : Text) → bound x ≡ is_some (look_after w x)
  bound-first w e x = same x ∙ ap (λ bs. is_some (look_with bs look x)) (sym e)

  alone-first : (w : Way) → Walk w → w.tests ≡ [] → is_name_among_by_name bound (without_parens (bare w.current)) ≡ is_name_among is_some (without_parens w.current)
  alone-first w h e =
      ap (is_name_among_by_name bound) (without_parens-bare w.current)
      ∙ among-same (used_after w) (look_after w) is_some bound (bound-first w (h.first e)) (without_parens w.current) (parens-tied (used_after w) (look_after w) true w.current h.current)

  none-first : (w : Way) → map bare w.tests ≡ [] → w.tests ≡ []
  none-first w e = at w.tests e
    where
      at : (ts : List Tree) → map bare ts ≡ [] → ts ≡ []
      at [] h = refl
      at (t ∷ ts) h = absurd (cc h)

  base-same : (w : Way) → node_base (bare w.current) ≡ node_base w.current
  base-same w = node_base-bare w.current

  -- one temporary more
  module _ (w : Way) (h : Walk w) (x : Bound) (base : Text) (next : IsNext (with_made w.taken known) base x) where
    abbrev Before : Whole
    Before = with_made w.taken known

    one-takes : Takes Before (x ∷ [])
    one-takes = (record { base = base; next = at-next next }, tt)

    more-takes : Takes known (w.taken ++ x ∷ [])
    more-takes = takes-both w.taken (x ∷ []) known h.takes one-takes

    more-tied : (a : Bool) (t : Tree) → Tied (with_made (x ∷ []) Before).in_use (look_also x (look_after w)) a t → Tied (with_made (w.taken ++ x ∷ []) known).in_use (look_with (w.taken ++ x ∷ []) look) a t
    more-tied a t g = both-tied w.taken (x ∷ []) known look a t g

    kept-tied : (a : Bool) (t : Tree) → Tied (used_after w) (look_after w) a t → Tied (with_made (w.taken ++ x ∷ []) known).in_use (look_with (w.taken ++ x ∷ []) look) a t
    kept-tied a t g = more-tied a t (taken-tied Before (look_after w) (also_all (names_among w.taken) u) st (linked w h) x base next a t g)

    kept-each : (ts : List Tree) → EachTied (used_after w) (look_after w) ts → EachTied (with_made (w.taken ++ x ∷ []) known).in_use (look_with (w.taken ++ x ∷ []) look) ts
    kept-each [] g = tt
    kept-each (t ∷ ts) g = (kept-tied true t g.0, kept-each ts g.1)

    one-name : Tied (with_made (w.taken ++ x ∷ []) known).in_use (look_with (w.taken ++ x ∷ []) look) true (identifier x)
    one-name = more-tied true (identifier x) (taken-name Before (look_after w) (also_all (names_among w.taken) u) st (linked w h) x base next)

    one-store : (e : Tree) → Tied (used_after w) (look_after w) true e → Tied (with_made (w.taken ++ x ∷ []) known).in_use (look_with (w.taken ++ x ∷ []) look) true (assign_node (identifier x) e)
    one-store e g = assign-tied (with_made (w.taken ++ x ∷ []) known).in_use (look_with (w.taken ++ x ∷ []) look) true (identifier x) e one-name (kept-tied true e g)

    one-holder : HolderTied (with_made (w.taken ++ x ∷ []) known).in_use (look_with (w.taken ++ x ∷ []) look) (Some x)
    one-holder = (one-name.1.1.0, one-name.1.1.1, ap is_some next.symbol)

    one-checks : (e : Tree) → Tied (used_after w) (look_after w) true e → EachTied (with_made (w.taken ++ x ∷ []) known).in_use (look_with (w.taken ++ x ∷ []) look) (w.tests ++ null_checks no_all (assign_node (identifier x) e) (identifier x))
    one-checks e g =
        each-both (with_made (w.taken ++ x ∷ []) known).in_use (look_with (w.taken ++ x ∷ []) look) w.tests (null_checks no_all (assign_node (identifier x) e) (identifier x)) (kept-each w.tests h.tests)
        (checks-tied (with_made (w.taken ++ x ∷ []) known).in_use (look_with (w.taken ++ x ∷ []) look) no_all (assign_node (identifier x) e) (identifier x) (one-store e g) one-name)

    one-fresh : (other : Text) → other ≡ base → IsFreshName (also_all (names_among w.taken) u) other x.name
    one-fresh other e = fresh-same Before (look_after w) (also_all (names_among w.taken) u) st (linked w h) x base other e next

  stripped : (w : Way) → Walk w → Tied (used_after w) (look_after w) true (without_parens w.current)
  stripped w h = parens-tied (used_after w) (look_after w) true w.current h.current

  -- what becomes of tests and of names by names
  way-same : (c : Option Text) (ts us : List Tree) (t v : Tree) (xs ys : List Text) → ts ≡ us → t ≡ v → xs ≡ ys → ◌≡◌ {A = WayByName} (record { tests = ts; current = t; holder = c; taken = xs }) (record { tests = us; current = v; holder = c; taken = ys })
  way-same c ts us t v xs ys e d f = λ i. record { tests = e i; current = d i; holder = c; taken = f i }

  record Tests (w v : Way) : Type 0 where
    rule : TestedByName no_all bound u (bare_way w) (bare_way v)
    after : Walk v

  tests-so : (w : Way) → Walk w → {v : Way} → Tested no_all known w v → Tests w v
  tests-so w h (as_name e d) =
      let t = without_parens w.current in
      let same-tree : without_parens (bare w.current) ≡ bare t = without_parens-bare w.current in
      record {
        rule = subst (λ v. TestedByName no_all bound u (bare_way w) v)
            (way-same (option_map (λ b. b.name) w.holder) (null_checks no_all (without_parens (bare w.current)) (without_parens (bare w.current))) (map bare (null_checks no_all t t)) (without_parens (bare w.current)) (bare t) (names_among w.taken) (names_among w.taken)
            (ap (λ s. null_checks no_all s s) same-tree ∙ sym (checks-bare no_all t t)) same-tree refl)
            (plain_as_name (ap (map bare) e) (alone-first w h e ∙ d));
        after = record { takes = h.takes; tests = checks-tied (used_after w) (look_after w) no_all t t (stripped w h) (stripped w h); current = stripped w h; holder = h.holder; first = λ k. absurd (some-checks no_all [] t t k) };
      }
  tests-so w h (in_holder {x = x} e) =
      let t = without_parens w.current in
      let held : HolderTied (used_after w) (look_after w) (Some x) = subst (HolderTied (used_after w) (look_after w)) e h.holder in
      let name = identifier-tied (used_after w) (look_after w) x held.0 held.1 in
      record {
        rule = subst (λ v. TestedByName no_all bound u (bare_way w) v)
            (way-same (option_map (λ b. b.name) w.holder) (map bare w.tests ++ null_checks no_all (assign_node (bare (identifier x)) (without_parens (bare w.current))) (bare (identifier x))) (map bare (w.tests ++ null_checks no_all (assign_node (identifier x) t) (identifier x))) (bare (identifier x)) (bare (identifier x)) (names_among w.taken) (names_among w.taken)
            (ap (λ s. map bare w.tests ++ null_checks no_all (assign_node (bare (identifier x)) s) (bare (identifier x))) (without_parens-bare w.current) ∙ sym (more-checks no_all w.tests (assign_node (identifier x) t) (identifier x))) refl refl)
            (plain_in_holder (ap (option_map (λ b. b.name)) e));
        after = record {
          takes = h.takes;
          tests = each-both (used_after w) (look_after w) w.tests (null_checks no_all (assign_node (identifier x) t) (identifier x)) h.tests (checks-tied (used_after w) (look_after w) no_all (assign_node (identifier x) t) (identifier x) (assign-tied (used_after w) (look_after w) true (identifier x) t name (stripped w h)) name);
          current = name;
          holder = h.holder;
          first = λ k. absurd (some-checks no_all w.tests (assign_node (identifier x) t) (identifier x) k);
        };
      }
  tests-so w h (in_temporary {x = x} e d next) =
      let t = without_parens w.current in
      record {
        rule = subst (λ v. TestedByName no_all bound u (bare_way w) v)
            (way-same (Some x.name) (map bare w.tests ++ null_checks no_all (assign_node (bare (identifier x)) (without_parens (bare w.current))) (bare (identifier x))) (map bare (w.tests ++ null_checks no_all (assign_node (identifier x) t) (identifier x))) (bare (identifier x)) (bare (identifier x)) (names_among w.taken ++ x.name ∷ []) (names_among (w.taken ++ x ∷ []))
            (ap (λ s. map bare w.tests ++ null_checks no_all (assign_node (bare (identifier x)) s) (bare (identifier x))) (without_parens-bare w.current) ∙ sym (more-checks no_all w.tests (assign_node (identifier x) t) (identifier x))) refl (sym (names-both w.taken (x ∷ []))))
            (plain_in_temporary (λ k. let g = none-first w k in alone-first w h g ∙ e g) (ap (option_map (λ b. b.name)) d) (one-fresh w h x (node_base w.current) next (node_base (bare w.current)) (base-same w)));
        after = record {
          takes = more-takes w h x (node_base w.current) next;
          tests = one-checks w h x (node_base w.current) next t (stripped w h);
          current = one-name w h x (node_base w.current) next;
          holder = one-holder w h x (node_base w.current) next;
          first = λ k. absurd (some-checks no_all w.tests (assign_node (identifier x) t) (identifier x) k);
        };
      }

  -- a callee that is stored, with its receiver
  record Calls (l : Label) (arguments : Trees) (w v : Way) : Type 0 where
    rule : CalledByName no_all bound st u (bare_label l) (bare_trees arguments) (bare_way w) (bare_way v)
    after : Walk v

  stored-same : (l : Label) (arguments : Trees) (w : Way) (names : List Bound) (xs : List Text) (c : Bound) (callee r : Tree) → names_among names ≡ xs →
      ◌≡◌ {A = WayByName} (stored_call_by_name no_all (bare_label l) (bare_trees arguments) (bare_way w) xs c.name (bare callee) (bare r)) (bare_way (stored_call no_all l arguments w names c callee r))
  stored-same l arguments w names xs c callee r e = λ i. record {
    tests = sym (more-checks no_all w.tests (assign_node (identifier c) callee) (identifier c)) i;
    current = call_at (bare_label l) (call_method_by_name (bare (identifier c))) (bare r before bare_trees arguments);
    holder = Some c.name;
    taken = (ap (λ ys. names_among w.taken ++ ys) (sym e) ∙ sym (names-both w.taken names)) i;
  }

  -- a stored callee and its receiver, where all that is taken is these names more
  stored-walk : (l : Label) (arguments : Trees) (w : Way) (names : List Bound) (c : Bound) (callee r : Tree) → Takes known (w.taken ++ names) →
      EachTied (with_made (w.taken ++ names) known).in_use (look_with (w.taken ++ names) look) w.tests → Tied (with_made (w.taken ++ names) known).in_use (look_with (w.taken ++ names) look) true callee → Tied (with_made (w.taken ++ names) known).in_use (look_with (w.taken ++ names) look) true r →
      HolderTied (with_made (w.taken ++ names) known).in_use (look_with (w.taken ++ names) look) (Some c) → TiedAll known.in_use look arguments → Walk (stored_call no_all l arguments w names c callee r)
  stored-walk l arguments w names c callee r takes tests h g held a =
      let more = (with_made (w.taken ++ names) known).in_use in
      let wider = look_with (w.taken ++ names) look in
      let name = identifier-tied more wider c held.0 held.1 in
      record {
        takes = takes;
        tests = each-both more wider w.tests (null_checks no_all (assign_node (identifier c) callee) (identifier c)) tests (checks-tied more wider no_all (assign_node (identifier c) callee) (identifier c) (assign-tied more wider true (identifier c) callee name h) name);
        current = call-tied more wider true l (call_method (identifier c)) (r before arguments) (method-tied more wider (identifier c) name) (g, all-grows known.in_use look more wider (grow-all (w.taken ++ names) known look takes) arguments a);
        holder = held;
        first = λ k. absurd (some-checks no_all w.tests (assign_node (identifier c) callee) (identifier c) k);
      }

  base-stripped : (w : Way) → node_base (without_parens (bare w.current)) ≡ node_base (without_parens w.current)
  base-stripped w = ap node_base (without_parens-bare w.current) ∙ node_base-bare (without_parens w.current)

  calls-so : (l : Label) (arguments : Trees) (w : Way) → Walk w → TiedAll known.in_use look arguments → {v : Way} → Called no_all known l arguments w v → Calls l arguments w v
  calls-so l arguments w h a (called_by_name e d) =
      let t = without_parens w.current in
      let same-tree : without_parens (bare w.current) ≡ bare t = without_parens-bare w.current in
      let s = stripped w h in
      record {
        rule = subst (λ v. CalledByName no_all bound st u (bare_label l) (bare_trees arguments) (bare_way w) v)
            (way-same (option_map (λ b. b.name) w.holder) (null_checks no_all (without_parens (bare w.current)) (without_parens (bare w.current))) (map bare (null_checks no_all t t)) (call_at (bare_label l) (without_parens (bare w.current)) (bare_trees arguments)) (bare (call_at l t arguments)) (names_among w.taken) (names_among w.taken)
            (ap (λ s. null_checks no_all s s) same-tree ∙ sym (checks-bare no_all t t)) (ap (λ s. call_at (bare_label l) s (bare_trees arguments)) same-tree) refl)
            (plain_called_by_name (ap (map bare) e) (alone-first w h e ∙ d));
        after = record {
          takes = h.takes;
          tests = checks-tied (used_after w) (look_after w) no_all t t s s;
          current = call-tied (used_after w) (look_after w) true l t arguments s (all-grows known.in_use look (used_after w) (look_after w) (grow-all w.taken known look h.takes) arguments a);
          holder = h.holder;
          first = λ k. absurd (some-checks no_all [] t t k);
        };
      }
  calls-so l arguments w h a (by_value {c = c} e d next) =
      let t = without_parens w.current in
      let base = node_base t in
      let takes = more-takes w h c base next in
      let more = (with_made (w.taken ++ c ∷ []) known).in_use in
      let wider = look_with (w.taken ++ c ∷ []) look in
      record {
        rule = subst (λ v. CalledByName no_all bound st u (bare_label l) (bare_trees arguments) (bare_way w) v)
            (way-same (Some c.name) (map bare w.tests ++ null_checks no_all (assign_node (bare (identifier c)) (without_parens (bare w.current))) (bare (identifier c))) (map bare (w.tests ++ null_checks no_all (assign_node (identifier c) t) (identifier c))) (call_at (bare_label l) (bare (identifier c)) (bare_trees arguments)) (bare (call_at l (identifier c) arguments)) (names_among w.taken ++ c.name ∷ []) (names_among (w.taken ++ c ∷ []))
            (ap (λ s. map bare w.tests ++ null_checks no_all (assign_node (bare (identifier c)) s) (bare (identifier c))) (without_parens-bare w.current) ∙ sym (more-checks no_all w.tests (assign_node (identifier c) t) (identifier c))) refl (sym (names-both w.taken (c ∷ []))))
            (plain_by_value (λ k. let g = none-first w k in alone-first w h g ∙ e g) (ap is_member (without_parens-bare w.current) ∙ (member-same t ∙ d)) (one-fresh w h c base next (node_base (without_parens (bare w.current))) (base-stripped w)));
        after = record {
          takes = takes;
          tests = one-checks w h c base next t (stripped w h);
          current = call-tied more wider true l (identifier c) arguments (one-name w h c base next) (all-grows known.in_use look more wider (grow-all (w.taken ++ c ∷ []) known look takes) arguments a);
          holder = one-holder w h c base next;
          first = λ k. absurd (some-checks no_all w.tests (assign_node (identifier c) t) (identifier c) k);
        };
      }
  calls-so l arguments w h a (by_first_member {k = k} {computed = computed} {o = o} {o1 = o1} {p = p} {r = r} {c = c} {xs = xs} e target flags next object) =
      let W = with_made w.taken known in
      let L = look_after w in
      let U = also_all (names_among w.taken) u in
      let base = node_base (without_parens w.current) in
      let here : Takes W (c ∷ []) = (record { base = base; next = at-next next }, tt) in
      let grow = grow-all (c ∷ []) W L here in
      let V = with_made (c ∷ []) W in
      let wide = look_also c L in
      let member : Tied W.in_use L true (node MemberExpression k (one_field o p)) = subst (Tied W.in_use L true) target (stripped w h) in
      let got = received V wide (also c.name U) st (link-one W L U st c base (at-next next) (linked w h)) w.holder (holder-grows W.in_use L V.in_use wide grow w.holder h.holder) is_this_or_super this-same object (tied-grows W.in_use L V.in_use wide grow true o member.2.0) in
      let rest : Takes W (c ∷ xs) = (record { base = base; next = at-next next }, got.takes) in
      let grown = grow-all (c ∷ xs) W L rest in
      let more = (with_made (c ∷ xs) W).in_use in
      let wider = look_with (c ∷ xs) L in
      let key = tied-grows W.in_use L more wider grown computed p (property-tied W.in_use L true k o p computed false flags member) in
      let callee = member_at k computed o1 p in
      let name = both-tied w.taken (c ∷ xs) known look true (identifier c) (tied-grows V.in_use wide more wider (grow-all xs V wide got.takes) true (identifier c) (taken-name W L U st (linked w h) c base next)) in
      record {
        rule = subst (λ v. CalledByName no_all bound st u (bare_label l) (bare_trees arguments) (bare_way w) v) (stored-same l arguments w (c ∷ xs) (names_among (c ∷ xs)) c callee r refl)
            (plain_by_first_member (ap (map bare) e) (without_parens-bare w.current ∙ ap bare target) flags (one-fresh w h c base next (node_base (without_parens (bare w.current))) (base-stripped w)) got.rule);
        after = stored-walk l arguments w (c ∷ xs) c callee r (takes-both w.taken (c ∷ xs) known h.takes rest) (each-both-tied known look w.taken (c ∷ xs) w.tests (each-grows W.in_use L more wider grown w.tests h.tests))
            (both-tied w.taken (c ∷ xs) known look true callee (member-tied more wider true k computed o1 p got.first key)) (both-tied w.taken (c ∷ xs) known look true r got.again) (name.1.1.0, name.1.1.1, ap is_some next.symbol) a;
      }
  calls-so l arguments w h a (by_later_member {k = k} {computed = computed} {o = o} {o1 = o1} {p = p} {r = r} {t = t} {ts = ts} {c = c} {xs = xs} e target flags object next) =
      let W = with_made w.taken known in
      let L = look_after w in
      let U = also_all (names_among w.taken) u in
      let callee = member_at k computed o1 p in
      let base = node_base callee in
      let member : Tied W.in_use L true (node MemberExpression k (one_field o p)) = subst (Tied W.in_use L true) target (stripped w h) in
      let got = received W L U st (linked w h) w.holder h.holder is_this_or_super this-same object member.2.0 in
      let V = with_made xs W in
      let M = look_with xs L in
      let here : Takes V (c ∷ []) = (record { base = base; next = at-next next }, tt) in
      let link2 = link-all xs W L U st got.takes (linked w h) in
      let rest : Takes W (xs ++ c ∷ []) = takes-both xs (c ∷ []) W got.takes here in
      let grown = grow-all xs W L got.takes in
      let last = grow-all (c ∷ []) V M here in
      let more = (with_made (c ∷ []) V).in_use in
      let wider = look_also c M in
      let both : (q : Tree) → Tied more wider true q → Tied (with_made (w.taken ++ (xs ++ c ∷ [])) known).in_use (look_with (w.taken ++ (xs ++ c ∷ [])) look) true q = λ q g. both-tied w.taken (xs ++ c ∷ []) known look true q (both-tied xs (c ∷ []) W L true q g) in
      let key = tied-grows W.in_use L V.in_use M grown computed p (property-tied W.in_use L true k o p computed false flags member) in
      let name = both (identifier c) (taken-name V M (also_all (names_among xs) U) st link2 c base next) in
      record {
        rule = subst (λ v. CalledByName no_all bound st u (bare_label l) (bare_trees arguments) (bare_way w) v) (stored-same l arguments w (xs ++ c ∷ []) (names_among xs ++ c.name ∷ []) c callee r (names-both xs (c ∷ [])))
            (plain_by_later_member (ap (map bare) e) (without_parens-bare w.current ∙ ap bare target) flags got.rule (fresh-same V M (also_all (names_among xs) U) st link2 c base (node_base (bare callee)) (node_base-bare callee) next));
        after = stored-walk l arguments w (xs ++ c ∷ []) c callee r (takes-both w.taken (xs ++ c ∷ []) known h.takes rest)
            (each-both-tied known look w.taken (xs ++ c ∷ []) w.tests (each-both-tied W L xs (c ∷ []) w.tests (each-grows V.in_use M more wider last w.tests (each-grows W.in_use L V.in_use M grown w.tests h.tests))))
            (both callee (tied-grows V.in_use M more wider last true callee (member-tied V.in_use M true k computed o1 p got.first key))) (both r (tied-grows V.in_use M more wider last true r got.again)) (name.1.1.0, name.1.1.1, ap is_some next.symbol) a;
      }

  -- SPINES

  record Spine (e : Tree) (w : Way) : Type 0 where
    rule : WalkedByName no_all bound st u (bare e) (bare_way w)
    after : Walk w

  record Goes (e : Tree) (w : Way) : Type 0 where
    rule : ContinuedByName no_all bound st u (bare e) (bare_way w)
    after : Walk w

  -- the same way with another rest of the spine
  at-rest : (w : Way) (t : Tree) → Walk w → Tied (used_after w) (look_after w) true t → Walk (record w { current = t })
  at-rest w t h g = record { takes = h.takes; tests = h.tests; current = g; holder = h.holder; first = h.first }

  to-member : (l : Label) (computed optional : Bool) (o p : Tree) (w : Way) → l.flags ≡ computed ∷ optional ∷ [] → Tied known.in_use look true (node MemberExpression l (one_field o p)) → Walk w → Walk (record w { current = member_at l computed w.current p })
  to-member l computed optional o p w flags h k =
      at-rest w (member_at l computed w.current p) k (member-tied (used_after w) (look_after w) true l computed w.current p k.current (tied-grows known.in_use look (used_after w) (look_after w) (grow-all w.taken known look k.takes) computed p (property-tied known.in_use look true l o p computed optional flags h)))

  to-call : (l : Label) (arguments : Trees) (w : Way) → TiedAll known.in_use look arguments → Walk w → Walk (record w { current = call_at l w.current arguments })
  to-call l arguments w h k = at-rest w (call_at l w.current arguments) k (call-tied (used_after w) (look_after w) true l w.current arguments k.current (all-grows known.in_use look (used_after w) (look_after w) (grow-all w.taken known look k.takes) arguments h))

  mutual
    walked : {e : Tree} {w : Way} → Walked no_all known e w → Tied known.in_use look true e → Spine e w
    walked (base {e = e} d alone) h = record { rule = plain_base (link-same e ∙ d); after = record { takes = tt; tests = tt; current = h; holder = tt; first = λ k. refl } }
    walked (plain_member {l = l} {computed = computed} {o = o} {p = p} {w = w} flags r) h =
        let k = walked r h.2.0 in
        record { rule = plain_plain_member flags k.rule; after = to-member l computed false o p w flags h k.after }
    walked (plain_call {l = l} {f = f} {arguments = arguments} {w = w} flags r) h =
        let k = walked r h.2.0 in
        record { rule = plain_plain_call flags k.rule; after = to-call l arguments w h.2.1.0 k.after }
    walked (marked_member {l = l} {computed = computed} {o = o} {p = p} {w = w} {u = v} flags r d) h =
        let k = continued r h.2.0 in
        let n = tests-so w k.after d in
        record { rule = plain_marked_member flags k.rule n.rule; after = to-member l computed true o p v flags h n.after }
    walked (marked_call {l = l} {f = f} {arguments = arguments} {w = w} {u = v} flags r d) h =
        let k = continued r h.2.0 in
        let n = calls-so l arguments w k.after h.2.1.0 d in
        record { rule = plain_marked_call flags k.rule n.rule; after = n.after }

    continued : {e : Tree} {w : Way} → Continued no_all known e w → Tied known.in_use look true e → Goes e w
    continued (same_spine {e = e} d r) h =
        let k = walked r h in
        record { rule = plain_same_spine ((λ i. link-same e i || not (is_chain_kind ((ap kind_of (without_parens-bare e) ∙ kind-same (without_parens e)) i))) ∙ d) k.rule; after = k.after }
    continued (inner_spine {e = e} {c = c} {l = l} d alone target r) h =
        let k = walked r (stripped-tied known.in_use look e (node ChainExpression l (one c then done)) target h).2.0 in
        record { rule = plain_inner_spine (link-same e ∙ d) (without_parens-bare e ∙ ap bare target) k.rule; after = k.after }

  -- ROWS

  record Bindings (w : Way) (xs : List Bound) (d : Tree) : Type 0 where
    rule : BoundCalleeByName st (also_all (names_among w.taken) u) (option_map (λ b. b.name) w.holder) (names_among xs) (bare w.current) (bare d)
    takes : Takes (with_made w.taken known) xs
    tied : Tied (with_made xs (with_made w.taken known)).in_use (look_with xs (look_after w)) true d

  -- the callee of a call stays as it is, or is bound to its receiver
  callee-so : (w : Way) → Walk w → {xs : List Bound} {e d : Tree} → BoundCallee (with_made w.taken known) w.holder xs e d → e ≡ w.current → Bindings w xs d
  callee-so w h (no_member {e = e} n) same-tree = record {
    rule = subst (λ c. BoundCalleeByName st (also_all (names_among w.taken) u) (option_map (λ b. b.name) w.holder) [] (bare c) (bare e)) same-tree (plain_no_member (member-same e ∙ n));
    takes = tt;
    tied = subst (Tied (used_after w) (look_after w) true) (sym same-tree) h.current;
  }
  callee-so w h (to_object {k = k} {computed = computed} {o = o} {o1 = o1} {p = p} {r = r} {xs = xs} flags object) same-tree =
      let W = with_made w.taken known in
      let L = look_after w in
      let member : Tied W.in_use L true (node MemberExpression k (one_field o p)) = subst (Tied W.in_use L true) (sym same-tree) h.current in
      let got = received W L (also_all (names_among w.taken) u) st (linked w h) w.holder h.holder is_super super-same object member.2.0 in
      let more = (with_made xs W).in_use in
      let wider = look_with xs L in
      let key = tied-grows W.in_use L more wider (grow-all xs W L got.takes) computed p (property-tied W.in_use L true k o p computed false flags member) in
      record {
        rule = subst (λ c. BoundCalleeByName st (also_all (names_among w.taken) u) (option_map (λ b. b.name) w.holder) (names_among xs) (bare c) (bare (bind_node (member_at k computed o1 p) r))) same-tree (plain_to_object flags got.rule);
        takes = got.takes;
        tied = bind-tied more wider (member_at k computed o1 p) r (member-tied more wider true k computed o1 p got.first key) got.again;
      }

  void-tied : (used : Text → Bool) (f : Text → Option ℕ) → Tied used f true void_zero_node
  void-tied used f = (refl, tt, ((refl, tt, tt), tt))

  pub chains : (a : Bool) (s : Site) {bs : List Bound} {t q : Tree} → OptionalChainingRule no_all s known bs t q → Tied known.in_use look a t → Crossed known look a (λ xs. OptionalChainingByName no_all bound st u xs s.need) bs t q
  chains a s (by_tests {m = m} {e = e} {w = w} level r some) h =
      let k = walked r h.2.0 in
      record {
        rule = subst (λ q. OptionalChainingByName no_all bound st u (names_among w.taken) s.need (bare (node ChainExpression m (one e then done))) q) (sym (short-bare m w.tests void_zero_node w.current)) (plain_by_tests level k.rule (tests-same w.tests ∙ some));
        takes = k.after.takes;
        tied = short-tied (used_after w) (look_after w) a m w.tests void_zero_node w.current some k.after.tests (void-tied (used_after w) (look_after w)) k.after.current;
      }
  chains a s (as_callee {m = m} {e = e} {d = d} {w = w} {xs = xs} level r some callee) h =
      let k = walked r h.2.0 in
      let b = callee-so w k.after callee refl in
      let W = with_made w.taken known in
      let more = (with_made xs W).in_use in
      let wider = look_with xs (look_after w) in
      record {
        rule = subst (λ q. OptionalChainingByName no_all bound st u (names_among (w.taken ++ xs)) s.need (bare (node ChainExpression m (one e then done))) q) (sym (short-bare m w.tests void_zero_node d))
            (subst (λ zs. OptionalChainingByName no_all bound st u zs s.need (bare (node ChainExpression m (one e then done))) (where_short (bare_label m) (map bare w.tests) (bare void_zero_node) (bare d))) (sym (names-both w.taken xs))
            (plain_as_callee level k.rule (tests-same w.tests ∙ some) b.rule));
        takes = takes-both w.taken xs known k.after.takes b.takes;
        tied = both-tied w.taken xs known look a (where_short m w.tests void_zero_node d) (short-tied more wider a m w.tests void_zero_node d some (each-grows W.in_use (look_after w) more wider (grow-all xs W (look_after w) b.takes) w.tests k.after.tests) (void-tied more wider) b.tied);
      }
  chains a s (in_delete {m = m} {l = l} {t = t} {e = e} {w = w} texts alone target r some) h =
      let k = walked r (stripped-tied known.in_use look t (node ChainExpression l (one e then done)) target h.2.0).2.0 in
      record {
        rule = subst (λ q. OptionalChainingByName no_all bound st u (names_among w.taken) s.need (bare (node UnaryExpression m (one t then done))) q) (sym (short-bare m w.tests true_node (delete_node w.current)))
            (plain_in_delete texts (without_parens-bare t ∙ ap bare target) k.rule (tests-same w.tests ∙ some));
        takes = k.after.takes;
        tied = short-tied (used_after w) (look_after w) a m w.tests true_node (delete_node w.current) some k.after.tests (refl, tt, tt) (refl, tt, (k.after.current, tt));
      }
