-- The rows of `**` and `**=` by symbols are those by names, where each name has its symbol.
use Rattle.std.proofs.Common.{◌≡◌, ℕ, refl, sym, ap, subst, ◌∙◌, List, [], ◌∷◌, ◌++◌, map}
use Rattle.std.specs.Prelude.{Bool, true, false, ◌&&◌, Option, None, codes, is_some}
use Rattle.es_tree.specs.Bare.{bare, bare_label}
use Rattle.es_tree.specs.Constructs.{is_big_int}
use Rattle.es_tree.specs.Fresh.{node_base}
use Rattle.es_tree.specs.Names.{first_text}
use Rattle.es_tree.specs.Tree.{Tree, node, Label, done, ◌then◌, one, many, trees, kind_of}
use Rattle.es_tree.specs.Words.{Text}
use Rattle.es_tree.specs.declared.ast_type.AstType.TheVariants.{AssignmentExpression, Identifier, MemberExpression, SequenceExpression, Super}
use Rattle.es_runs.specs.Alike.{Need}
use Rattle.es_runs.specs.Exponentiation.{no_name, string_node, assigned_power as assigned_power_by_name, stays as stays_by_name, Holds as HoldsByName, TargetTwice as TargetTwiceByName, ExponentiationRule as ExponentiationByName}
use Rattle.es_runs.specs.Exponentiation.Holds.{where_it_is as plain_where_it_is, in_temporary as plain_in_temporary}
use Rattle.es_runs.specs.Exponentiation.TargetTwice.{bound_name as plain_bound_name, other_name as plain_other_name, static_member as plain_static_member, literal_key as plain_literal_key, other_key as plain_other_key}
use Rattle.es_runs.specs.Exponentiation.ExponentiationRule.{power as plain_power, power_assignment as plain_power_assignment}
use Rattle.es_runs.specs.NullishCoalescing.{also_all}
use Rattle.es_runs.specs.OpenRules.{exponentiation_rule, is_bound_in}
use Rattle.es_runs.specs.OpenRules.exponentiation_rule.{raises}
use Rattle.es_runs.specs.OpenSteps.{Whole as WholeByName}
use Rattle.es_runs.specs.Rules.{assign_node, in_place_of, member_node}
use Rattle.es_resolution.specs.Declarations.{Bound, symbol_of}
use Rattle.es_steps.specs.CoreBridge.{names_among}
use Rattle.es_steps.specs.Duplication.{no_symbol}
use Rattle.es_steps.specs.Exponentiation.{ExponentiationRule, Holds, TargetTwice, assigned_power, power_at, power_node, stays}
use Rattle.es_steps.specs.Exponentiation.ExponentiationRule.{power, power_assignment}
use Rattle.es_steps.specs.Exponentiation.Holds.{where_it_is, in_temporary}
use Rattle.es_steps.specs.Exponentiation.TargetTwice.{bound_name, other_name, static_member, private_member, literal_key, other_key}
use Rattle.es_steps.specs.Nodes.{identifier, made}
use Rattle.es_steps.specs.Rules.{with_made}
use Rattle.es_steps.specs.Steps.{Site, Whole}
use Rattle.es_steps.proofs.BridgeLinks.{at-next, Linked, Takes, Tied, TiedAll, fresh-same, grow-all, link-all, look_also, look_with, takes-both, tied-grows}
use Rattle.es_steps.proofs.BridgeRows.{Crossed, assign-tied, both-tied, computed-tied, key-tied, names-both, parens-tied, taken-name, taken-store, taken-tied}
use Rattle.es_steps.proofs.BridgeTrees.{literal_key-bare, map-both, no_fields-bare, node_base-bare, trees-bare, without_parens-bare}

-- FIRST PARTS

abbrev pub EachTied : (Text → Bool) → (Text → Option ℕ) → List Tree → Type 0
EachTied used look [] = Unit {0}
EachTied used look (t ∷ ts) = Tied used look true t × EachTied used look ts

pub each-all : (used : Text → Bool) (look : Text → Option ℕ) (ts : List Tree) → EachTied used look ts → TiedAll used look (trees ts)
each-all used look [] h = tt
each-all used look (t ∷ ts) h = (h.0, each-all used look ts h.1)

pub each-both : (used : Text → Bool) (look : Text → Option ℕ) (ts us : List Tree) → EachTied used look ts → EachTied used look us → EachTied used look (ts ++ us)
each-both used look [] us h g = g
each-both used look (t ∷ ts) us h g = (h.0, each-both used look ts us h.1 g)

pub each-grows : (used : Text → Bool) (look : Text → Option ℕ) (more : Text → Bool) (wider : Text → Option ℕ) → ((x : Text) → used x ≡ true → (more x ≡ true) × (wider x ≡ look x)) → (ts : List Tree) → EachTied used look ts → EachTied more wider ts
each-grows used look more wider grow [] h = tt
each-grows used look more wider grow (t ∷ ts) h = (tied-grows used look more wider grow true t h.0, each-grows used look more wider grow ts h.1)

pub each-both-tied : (w : Whole) (look : Text → Option ℕ) (xs ys : List Bound) (ts : List Tree) → EachTied (with_made ys (with_made xs w)).in_use (look_with ys (look_with xs look)) ts → EachTied (with_made (xs ++ ys) w).in_use (look_with (xs ++ ys) look) ts
each-both-tied w look xs ys [] g = tt
each-both-tied w look xs ys (t ∷ ts) g = (both-tied xs ys w look true t g.0, each-both-tied w look xs ys ts g.1)

-- WHAT IS MADE

power-tied : (used : Text → Bool) (look : Text → Option ℕ) (a : Bool) (m : Label) (l r : Tree) → used (codes "Math") ≡ true → look (codes "Math") ≡ None → Tied used look true l → Tied used look true r → Tied used look a (power_at m l r)
power-tied used look a m l r e d h g = (refl, tt, ((refl, tt, ((refl, (refl, (e, sym d)), tt), ((refl, (refl, tt), tt), tt))), ((h, (g, tt)), tt)))

assigned-tied : (used : Text → Bool) (look : Text → Option ℕ) (a : Bool) (m : Label) (fs : List Tree) (target read r : Tree) → used (codes "Math") ≡ true → look (codes "Math") ≡ None → EachTied used look fs → Tied used look true target → Tied used look true read → Tied used look true r → Tied used look a (assigned_power m fs target read r)
assigned-tied used look a m [] target read r e d front h g k = assign-tied used look a target (power_node read r) h (power-tied used look true (made [] []) read r e d g k)
assigned-tied used look a m (f ∷ fs) target read r e d front h g k =
    let last = assign-tied used look true target (power_node read r) h (power-tied used look true (made [] []) read r e d g k) in
    (refl, tt, (each-all used look ((f ∷ fs) ++ assign_node target (power_node read r) ∷ []) (each-both used look (f ∷ fs) (assign_node target (power_node read r) ∷ []) front (last, tt)), tt))

assigned-bare : (m : Label) (fs : List Tree) (target read r : Tree) → bare (assigned_power m fs target read r) ≡ assigned_power_by_name (bare_label m) (map bare fs) (bare target) (bare read) (bare r)
assigned-bare m [] target read r = refl
assigned-bare m (f ∷ fs) target read r =
    ap (λ ts. node SequenceExpression (in_place_of (bare_label m)) (many ts then done)) (trees-bare ((f ∷ fs) ++ assign_node target (power_node read r) ∷ []) ∙ ap trees (map-both bare (f ∷ fs) (assign_node target (power_node read r) ∷ [])))

-- OBJECTS AND TARGETS

module _ (w : Whole) (look : Text → Option ℕ) (u st : Text → Bool) (link : Linked w look u st) where
  record Held (by_name : Text → Bool) (xs : List Bound) (fs : List Tree) (o o' : Tree) : Type 0 where
    rule : HoldsByName by_name u (names_among xs) (map bare fs) (bare o) (bare o')
    takes : Takes w xs
    front : EachTied (with_made xs w).in_use (look_with xs look) fs
    held : Tied (with_made xs w).in_use (look_with xs look) true o'

  module _ (names : Option ℕ → Bool) (by_name : Text → Bool) (same : (x : Text) → by_name x ≡ names (look x)) where
    stays-same : (t : Tree) → Tied w.in_use look true t → stays_by_name by_name (bare t) ≡ stays names t
    stays-same (node Super l fs) h = absurd (cc (h.0))
    stays-same (node Identifier l fs) h = λ i. (same (first_text l.texts) ∙ ap names (sym h.1.1.1)) i && no_fields-bare fs i
    stays-same (node _ l fs) h = refl

    holds : {xs : List Bound} {fs : List Tree} {o o' : Tree} → Holds names w xs fs o o' → Tied w.in_use look true o → Held by_name xs fs o o'
    holds (where_it_is {o = o} e) h = record { rule = plain_where_it_is (stays-same o h ∙ e); takes = tt; front = tt; held = h }
    holds (in_temporary {o = o} {x = x} e next) h = record {
      rule = plain_in_temporary (stays-same o h ∙ e) (fresh-same w look u st link x (node_base o) (node_base (bare o)) (node_base-bare o) next);
      takes = (record { base = node_base o; next = at-next next }, tt);
      front = (taken-store w look u st link x (node_base o) next o h, tt);
      held = taken-name w look u st link x (node_base o) next;
    }

  module _ (bound : Text → Bool) (same : (x : Text) → bound x ≡ is_some (look x)) where
    record Twice (xs : List Bound) (fs : List Tree) (s target read : Tree) : Type 0 where
      rule : TargetTwiceByName bound u (names_among xs) (map bare fs) (bare s) (bare target) (bare read)
      takes : Takes w xs
      front : EachTied (with_made xs w).in_use (look_with xs look) fs
      target-tied : Tied (with_made xs w).in_use (look_with xs look) true target
      read-tied : Tied (with_made xs w).in_use (look_with xs look) true read

    bound-same : (l : Label) → Tied w.in_use look true (node Identifier l done) → bound (first_text l.texts) ≡ is_some (symbol_of l)
    bound-same l h = same (first_text l.texts) ∙ ap is_some (sym h.1.1.1)

    twice : {xs : List Bound} {fs : List Tree} {s target read : Tree} → TargetTwice w xs fs s target read → Tied w.in_use look true s → Twice xs fs s target read
    twice (bound_name {l = l} e) h = record { rule = plain_bound_name (bound-same l h ∙ e); takes = tt; front = tt; target-tied = h; read-tied = h }
    twice (other_name {l = l} {x = x} e next) h =
        let name = node Identifier l done in
        record {
          rule = plain_other_name (bound-same l h ∙ e) (fresh-same w look u st link x (node_base name) (node_base (bare name)) (node_base-bare name) next);
          takes = (record { base = node_base name; next = at-next next }, tt);
          front = (taken-store w look u st link x (node_base name) next name h, tt);
          target-tied = taken-tied w look u st link x (node_base name) next true name h;
          read-tied = taken-name w look u st link x (node_base name) next;
        }
    twice (static_member {l = l} {k = k} {o = o} {o' = o'} {xs = xs} {fs = fs} flags object) h =
        let o-held = holds is_some bound same object h.2.0 in
        let member = computed-tied (with_made xs w).in_use (look_with xs look) true o' (string_node (first_text k.texts)) o-held.held (refl, tt, tt) in
        record { rule = plain_static_member flags o-held.rule; takes = o-held.takes; front = o-held.front; target-tied = member; read-tied = member }
    twice (private_member {l = l} {k = k} {o = o} {o' = o'} {xs = xs} {fs = fs} flags object) h = absurd (cc (h.2.1.0.0))
    twice (literal_key {l = l} {o = o} {o' = o'} {k = k} {xs = xs} {fs = fs} flags literal object) h =
        let o-held = holds is_some bound same object h.2.0 in
        let key = tied-grows w.in_use look (with_made xs w).in_use (look_with xs look) (grow-all xs w look o-held.takes) true k (key-tied w.in_use look true l o k false flags h) in
        let member = computed-tied (with_made xs w).in_use (look_with xs look) true o' k o-held.held key in
        record { rule = plain_literal_key flags (literal_key-bare k ∙ literal) o-held.rule; takes = o-held.takes; front = o-held.front; target-tied = member; read-tied = member }
    twice (other_key {l = l} {o = o} {o' = o'} {k = k} {xs = xs} {fs = fs} {y = y} flags literal object next) h =
        let o-held = holds no_symbol no_name (λ x. refl) object h.2.0 in
        let v = with_made xs w in
        let wide = look_with xs look in
        let linked = link-all xs w look u st o-held.takes link in
        let key = tied-grows w.in_use look v.in_use wide (grow-all xs w look o-held.takes) true k (key-tied w.in_use look true l o k false flags h) in
        let v-use = also_all (names_among xs) u in
        let store = taken-store v wide v-use st linked y (node_base k) next k key in
        let again = taken-name v wide v-use st linked y (node_base k) next in
        let member = computed-tied (with_made (y ∷ []) v).in_use (look_also y wide) true o' (identifier y) (taken-tied v wide v-use st linked y (node_base k) next true o' o-held.held) again in
        let all = member_node true o' (identifier y) in
        let takes : Takes v (y ∷ []) = (record { base = node_base k; next = at-next next }, tt) in
        let front = each-both (with_made (y ∷ []) v).in_use (look_also y wide) fs (assign_node (identifier y) k ∷ []) (each-grows v.in_use wide (with_made (y ∷ []) v).in_use (look_also y wide) (grow-all (y ∷ []) v wide takes) fs o-held.front) (store, tt) in
        record {
          rule = subst (λ zs. TargetTwiceByName bound u zs (map bare (fs ++ assign_node (identifier y) k ∷ [])) (bare (node MemberExpression l (one o then (one k then done)))) (bare all) (bare all)) (sym (names-both xs (y ∷ [])))
              (subst (λ gs. TargetTwiceByName bound u (names_among xs ++ y.name ∷ []) gs (bare (node MemberExpression l (one o then (one k then done)))) (bare all) (bare all)) (sym (map-both bare fs (assign_node (identifier y) k ∷ [])))
              (plain_other_key flags (literal_key-bare k ∙ literal) o-held.rule (fresh-same v wide v-use st linked y (node_base k) (node_base (bare k)) (node_base-bare k) next)));
          takes = takes-both xs (y ∷ []) w o-held.takes takes;
          front = each-both-tied w look xs (y ∷ []) (fs ++ assign_node (identifier y) k ∷ []) front;
          target-tied = both-tied xs (y ∷ []) w look true all member;
          read-tied = both-tied xs (y ∷ []) w look true all member;
        }

-- THE ROWS

big-same : (t : Tree) → is_big_int (kind_of (bare t)) ≡ is_big_int (kind_of t)
big-same (node k l fs) = refl

module _ (w : Whole) (look : Text → Option ℕ) (v : WholeByName) (link : Linked w look v.in_use v.steady) (same : (x : Text) → is_bound_in v x ≡ is_some (look x)) where
  module _ (s : Site) (math : s.names.scope (codes "Math") ≡ None → look (codes "Math") ≡ None) where
    pub powers : (a : Bool) (n : Need) {bs : List Bound} {t q : Tree} → ExponentiationRule s w bs t q → Tied w.in_use look a t → Crossed w look a (λ xs. exponentiation_rule v xs n) bs t q
    powers a n (power {m = m} {l = l} {r = r} free texts left right) h =
        let none = math free.unbound in
        record {
          rule = raises (same (codes "Math") ∙ ap is_some none) (plain_power texts (big-same l ∙ left) (big-same r ∙ right));
          takes = tt;
          tied = power-tied w.in_use look a m l r free.in_use none h.2.0 h.2.1.0;
        }
    powers a n (power_assignment {m = m} {t = t} {r = r} {target = target} {read = read} {xs = xs} {fs = fs} free texts right alone object) h =
        let none = math free.unbound in
        let both = twice w look v.in_use v.steady link (is_bound_in v) same object (parens-tied w.in_use look true t h.2.0) in
        let grow = grow-all xs w look both.takes in
        let known = grow (codes "Math") free.in_use in
        let rest = tied-grows w.in_use look (with_made xs w).in_use (look_with xs look) grow true r h.2.1.0 in
        record {
          rule = raises (same (codes "Math") ∙ ap is_some none)
              (subst (λ p. ExponentiationByName (is_bound_in v) v.in_use (names_among xs) n (bare (node AssignmentExpression m (one t then (one r then done)))) p) (sym (assigned-bare m fs target read r))
              (plain_power_assignment texts (big-same r ∙ right) (subst (λ p. TargetTwiceByName (is_bound_in v) v.in_use (names_among xs) (map bare fs) p (bare target) (bare read)) (sym (without_parens-bare t)) both.rule)));
          takes = both.takes;
          tied = assigned-tied (with_made xs w).in_use (look_with xs look) a m fs target read r known.0 (known.1 ∙ none) both.front both.target-tied both.read-tied rest;
        }
