-- A rest gets a declarator of its own.
use Rattle.std.proofs.Common.{arith, ◌≤◌, ◌≡◌, ℕ, zero, suc, refl, sym, subst, ◌∙◌, List, [], ◌∷◌, ◌++◌}
use Rattle.std.specs.Prelude.{Bool, true, false, None, codes, map, if◌then◌else◌}
use Rattle.es_tree.specs.Words.{Text}
use Rattle.es_tree.specs.Tree.{Tree, node, Label, Fields, done, ◌then◌, one, Trees, empty, ◌before◌, fields}
use Rattle.es_tree.specs.declared.ast_type.AstType.TheVariants.{Identifier, PatternProperty, RestElement}
use Rattle.es_semantic.specs.RolesOf.{reads}
use Rattle.es_semantic.specs.declared.place.Role.{Role}
use Rattle.es_semantic.specs.declared.place.Role.TheVariants.{Binds, Nothing}
use Rattle.es_resolution.specs.Declarations.{Bound, declared, declared_in, declared_among}
use Rattle.es_resolution.specs.Resolved.{Place, no_name, Resolved, ResolvedIn, ResolvedAll}
use Rattle.es_resolution.specs.Named.{Named, NamedIn, NamedAll}
use Rattle.es_resolution.specs.Single.{scopes_with, scopes_in, scopes_among}
use Rattle.es_steps.specs.Nodes.{array_node, call_node, member_node, string_node, declarator_with, joined_trees}
use Rattle.es_steps.specs.Steps.{Whole, Ledger, Site, Spot}
use Rattle.es_steps.specs.Steps.Spot.{at_node}
use Rattle.es_steps.specs.ObjectRest.{kind_of_declaration, pattern_node, declares_as, declares_rest, helper_node, and_declarator, AreKeys, IsKey, RestOf, TakesRest}
use Rattle.es_steps.specs.ObjectRest.IsKey.{name_key, text_key}
use Rattle.es_steps.specs.ObjectRest.RestOf.{alone, beside, mapped}
use Rattle.es_steps.specs.ObjectRest.TakesRest.{takes_rest}
use Rattle.es_steps.proofs.Fronts.{Front, front-lists, front-named, front-of, front-resolved, front-scopes}
use Rattle.es_steps.proofs.Kept.{limit, plain, KeptAll}
use Rattle.es_steps.proofs.Kept.Change.{sealed}
use Rattle.es_steps.proofs.RuleLaws.{AtNodes, nodes-only}
use Rattle.es_steps.proofs.Scopes.{no-scopes, no-scopes-all}
use Rattle.es_steps.proofs.Same.{any-parameters, plain-agree, same-all}
use Rattle.es_steps.proofs.Splits.{first-kept}
use Rattle.es_steps.proofs.Taken.{at-least, none-some, whole_in, nothing_new, NodesKept, Outcome, Lawful}
use Rattle.es_steps.proofs.Taken.Goes.{to_list}
use Rattle.es_steps.proofs.Written.{nil-right, body_place, named-joined, join-named, declared-joined, scopes-joined, resolved-parts, resolved-joined}

-- KEYS

abbrev keys : List Tree → Fields
keys ks = fields (map one ks)

pub none-if : (b : Bool) (xs bs : List Bound) → xs ≡ [] → bs ≡ [] → (if b then xs else []) ++ bs ≡ []
none-if true xs bs e h = λ i. e i ++ h i
none-if false xs bs e h = h

pub texts-are-keys : (ds : Trees) (ks : List Text) → AreKeys ds (map string_node ks)
texts-are-keys ds [] = tt
texts-are-keys ds (k ∷ ks) = (text_key k, texts-are-keys ds ks)

module _ (ds : Trees) where
  key-declares : (v : Bool) (k : Tree) → IsKey ds k → declared v reads k ≡ []
  key-declares true k (text_key x) = refl
  key-declares false k (text_key x) = refl
  key-declares true k (name_key l lp lq lk xs ys a c v e d computed) = refl
  key-declares false k (name_key l lp lq lk xs ys a c v e d computed) = refl

  keys-declare : (v : Bool) (counts : ℕ → Bool) (ks : List Tree) → AreKeys ds ks → declared_in v counts (λ i. reads) (keys ks) ≡ []
  keys-declare v counts [] h = refl
  keys-declare v counts (k ∷ ks) h = none-if (counts zero) (declared v reads k) (declared_in v (λ i. counts (suc i)) (λ i. reads) (keys ks)) (key-declares v k h.0) (keys-declare v (λ i. counts (suc i)) ks h.1)

  key-scopes : (s : ℕ) (k : Tree) → IsKey ds k → scopes_with s no_name reads k ≡ 0
  key-scopes s k (text_key x) = refl
  key-scopes s k (name_key l lp lq lk xs ys a c v e d computed) = refl

  keys-scopes : (s : ℕ) (ks : List Tree) → AreKeys ds ks → scopes_in s no_name (λ i. reads) (keys ks) ≡ 0
  keys-scopes s [] h = refl
  keys-scopes s (k ∷ ks) h = let e = key-scopes s k h.0 in let es = keys-scopes s ks h.1 in omega arith

  module _ (r : Role) where
    key-named : (u : Text → Bool) (n : ℕ) (k : Tree) → IsKey ds k → NamedAll u n r ds → Named u n reads k
    key-named u n k (text_key x) used = ((tt, tt), tt)
    key-named u n k (name_key l lp lq lk xs ys a c v e d computed) used =
        let property : Tree = node PatternProperty lq (one (node Identifier lk done) then one v then done) in
        let parts = named-joined u n r xs (declares_as l (pattern_node lp (joined_trees a (property before c))) e before ys) (subst (λ (z : Trees). NamedAll u n r z) d used) in
        let members = named-joined u n r a (property before c) parts.1.0.1.0.1.0 in
        subst (λ (b : Bool). Named u n (if b then reads else Nothing) (node Identifier lk done)) computed members.1.0.1.0

    keys-named : (u : Text → Bool) (n : ℕ) (ks : List Tree) → AreKeys ds ks → NamedAll u n r ds → NamedIn u n (λ i. reads) (keys ks)
    keys-named u n [] h used = tt
    keys-named u n (k ∷ ks) h used = (key-named u n k h.0 used, keys-named u n ks h.1 used)

    key-resolved : (q : Place) (k : Tree) → IsKey ds k → ResolvedAll r q ds → Resolved reads (body_place q) k
    key-resolved q k (text_key x) z = (tt, refl, tt)
    key-resolved q k (name_key l lp lq lk xs ys a c v e d computed) z =
        let property : Tree = node PatternProperty lq (one (node Identifier lk done) then one v then done) in
        let parts = resolved-parts r q xs (declares_as l (pattern_node lp (joined_trees a (property before c))) e before ys) (subst (λ (y : Trees). ResolvedAll r q y) d z) in
        let members = resolved-parts r (body_place q) a (property before c) parts.1.0.2.0.2.0 in
        subst (λ (b : Bool). Resolved (if b then reads else Nothing) (body_place q) (node Identifier lk done)) computed members.1.0.2.0

    keys-resolved : (q : Place) (ks : List Tree) → AreKeys ds ks → ResolvedAll r q ds → ResolvedIn (λ i. reads) (λ i. body_place q) (keys ks)
    keys-resolved q [] h z = tt
    keys-resolved q (k ∷ ks) h z = (key-resolved q k h.0 z, keys-resolved q ks h.1 z)

no-more : (a b : ℕ) → a ≡ 0 → a ≤ b
no-more a b e = omega arith

rest-flat : (xs ts : List Bound) → ((((xs ++ ((ts ++ []) ++ [])) ++ []) ++ []) ++ []) ≡ xs ++ ts
rest-flat xs ts = simp nil-right

last-flat : (ts : List Bound) → (ts ++ ([] ++ [])) ++ [] ≡ ts
last-flat ts = simp nil-right

module _ (ds : Trees) (lp ls : Label) where
  abbrev src : Tree
  src = node Identifier ls done

  -- THE VALUE of a rest declares nothing, and names the source, keys and helpers

  value-quiet : (ps fs : Trees) (e : Tree) → RestOf ds lp src ps fs e → (v : Bool) → declared v reads e ≡ []
  value-quiet ps fs e (beside ks) true = λ i. (keys-declare ds true (λ j. true) (map string_node ks) (texts-are-keys ds ks) i ++ []) ++ []
  value-quiet ps fs e (beside ks) false = λ i. (keys-declare ds false (λ j. true) (map string_node ks) (texts-are-keys ds ks) i ++ []) ++ []
  value-quiet ps fs e (mapped ks h) true = λ i. (((keys-declare ds true (λ j. true) ks h i ++ []) ++ []) ++ []) ++ []
  value-quiet ps fs e (mapped ks h) false = λ i. (((keys-declare ds false (λ j. true) ks h i ++ []) ++ []) ++ []) ++ []
  value-quiet ps fs e alone true = refl
  value-quiet ps fs e alone false = refl

  value-scopes : (s : ℕ) (ps fs : Trees) (e : Tree) → RestOf ds lp src ps fs e → scopes_with s no_name reads e ≡ 0
  value-scopes s ps fs e (beside ks) = let h = keys-scopes ds s (map string_node ks) (texts-are-keys ds ks) in omega arith
  value-scopes s ps fs e (mapped ks h) = let z = keys-scopes ds s ks h in omega arith
  value-scopes s ps fs e alone = refl

  module _ (r : Role) where
    value-named : (u : Text → Bool) (n : ℕ) (ps fs : Trees) (e : Tree) → RestOf ds lp src ps fs e → u (codes "babelHelpers") ≡ true → Named u n reads src → NamedAll u n r ds → Named u n reads e
    value-named u n ps fs e (beside ks) used it all = ((tt, tt), (((tt, tt), (((used, tt), tt), (((tt, tt), tt), tt))), ((it, (((tt, tt), keys-named ds r u n (map string_node ks) (texts-are-keys ds ks) all), tt)), tt)))
    value-named u n ps fs e (mapped ks h) used it all =
        let helper : Named u n reads (helper_node (codes "toPropertyKey")) = ((tt, tt), (((used, tt), tt), (((tt, tt), tt), tt))) in
        let called : Named u n reads (call_node (member_node (array_node ks) (codes "map")) (helper_node (codes "toPropertyKey") ∷ [])) = ((tt, tt), (((tt, tt), (((tt, tt), keys-named ds r u n ks h all), (((tt, tt), tt), tt))), ((helper, tt), tt))) in
        ((tt, tt), (((tt, tt), (((used, tt), tt), (((tt, tt), tt), tt))), ((it, (called, tt)), tt)))
    value-named u n ps fs e alone used it all =
        let empties : Named u n reads (call_node (helper_node (codes "objectDestructuringEmpty")) (src ∷ [])) = ((tt, tt), (((tt, tt), (((used, tt), tt), (((tt, tt), tt), tt))), ((it, tt), tt))) in
        ((tt, tt), (((tt, tt), (((used, tt), tt), (((tt, tt), tt), tt))), ((((tt, tt), (tt, tt)), (((tt, tt), ((empties, (it, tt)), tt)), tt)), tt)))

    value-resolved : (q : Place) (ps fs : Trees) (e : Tree) → RestOf ds lp src ps fs e → q.scope (codes "babelHelpers") ≡ None → Resolved reads (body_place q) src → ResolvedAll r q ds → Resolved reads (body_place q) e
    value-resolved q ps fs e (beside ks) none it all = (tt, refl, ((tt, refl, ((sym none, refl, tt), ((tt, refl, tt), tt))), ((it, ((tt, refl, keys-resolved ds r q (map string_node ks) (texts-are-keys ds ks) all), tt)), tt)))
    value-resolved q ps fs e (mapped ks h) none it all =
        let helper : Resolved reads (body_place q) (helper_node (codes "toPropertyKey")) = (tt, refl, ((sym none, refl, tt), ((tt, refl, tt), tt))) in
        let called : Resolved reads (body_place q) (call_node (member_node (array_node ks) (codes "map")) (helper_node (codes "toPropertyKey") ∷ [])) = (tt, refl, ((tt, refl, ((tt, refl, keys-resolved ds r q ks h all), ((tt, refl, tt), tt))), ((helper, tt), tt))) in
        (tt, refl, ((tt, refl, ((sym none, refl, tt), ((tt, refl, tt), tt))), ((it, (called, tt)), tt)))
    value-resolved q ps fs e alone none it all =
        let empties : Resolved reads (body_place q) (call_node (helper_node (codes "objectDestructuringEmpty")) (src ∷ [])) = (tt, refl, ((tt, refl, ((sym none, refl, tt), ((tt, refl, tt), tt))), ((it, tt), tt))) in
        (tt, refl, ((tt, refl, ((sym none, refl, tt), ((tt, refl, tt), tt))), (((tt, refl, (tt, tt)), ((tt, refl, ((empties, (it, tt)), tt)), tt)), tt)))

module _ (p : Place) (w : Whole) (r : Role) (l lp lr ls : Label) (a props fs : Trees) (t e : Tree) (d : RestOf (joined_trees a (declares_rest l lp props lr t (node Identifier ls done) before empty)) lp (node Identifier ls done) props fs e) (helpers : p.scope (codes "babelHelpers") ≡ None) (helpers-used : w.in_use (codes "babelHelpers") ≡ true) where
  abbrev rest : Trees
  rest = node RestElement lr (one t then done) before empty

  abbrev before_it : Trees
  before_it = declares_rest l lp props lr t (node Identifier ls done) before empty

  abbrev all : Trees
  all = joined_trees a before_it

  abbrev last : Trees
  last = declarator_with t e before empty

  front : Front lp (node Identifier ls done) props fs
  front = front-of all lp (node Identifier ls done) props fs e d

  lists-before : (v : Bool) → declared_among v r before_it ≡ declared_among v r props ++ declared v r t
  lists-before true = (λ i. ((declared-joined true r props rest i ++ []) ++ []) ++ []) ∙ rest-flat (declared_among true r props) (declared true r t)
  lists-before false = (λ i. ((declared-joined false r props rest i ++ []) ++ []) ++ []) ∙ rest-flat (declared_among false r props) (declared false r t)

  list-last : (v : Bool) → declared_among v r last ≡ declared v r t
  list-last true = (λ i. (declared true r t ++ (value-quiet all lp ls props fs e d true i ++ [])) ++ []) ∙ last-flat (declared true r t)
  list-last false = (λ i. (declared false r t ++ (value-quiet all lp ls props fs e d false i ++ [])) ++ []) ∙ last-flat (declared false r t)

  lists-own : (v : Bool) → declared_among v r (and_declarator fs t e) ≡ declared_among v r before_it
  lists-own v = declared-joined v r fs last ∙ (λ i. front-lists lp ls r v props fs front i ++ list-last v i) ∙ sym (lists-before v)

  lists-kept : (v : Bool) → declared_among v r (joined_trees a (and_declarator fs t e)) ≡ declared_among v r all
  lists-kept v = declared-joined v r a (and_declarator fs t e) ∙ (λ i. declared_among v r a ++ lists-own v i) ∙ sym (declared-joined v r a before_it)

  module _ (used : NamedAll w.in_use w.free_symbol r all) where
    split : NamedAll w.in_use w.free_symbol r a × NamedAll w.in_use w.free_symbol r before_it
    split = named-joined w.in_use w.free_symbol r a before_it used

    parts : NamedAll w.in_use w.free_symbol r props × NamedAll w.in_use w.free_symbol r rest
    parts = named-joined w.in_use w.free_symbol r props rest split.1.0.1.0.1.0

    taken-rest : KeptAll (nothing_new w) p sealed r all (joined_trees a (and_declarator fs t e))
    taken-rest = record {
      lexical = lists-kept false;
      hoisted = lists-kept true;
      named =
          let own = split.1.0.1 in
          let value = value-named all lp ls r w.in_use w.free_symbol props fs e d helpers-used own.1.0 used in
          join-named w.in_use w.free_symbol r a (and_declarator fs t e) split.0 (join-named w.in_use w.free_symbol r fs last (front-named lp ls r w.in_use w.free_symbol props fs front (own.0.0, (parts.0, tt)) own.1.0) (((tt, tt), (parts.1.0.1.0, (value, tt))), tt));
      scopes = λ s ps f.
          let x = scopes-joined s ps r a before_it in
          let y = scopes-joined s ps r a (and_declarator fs t e) in
          let g = scopes-joined s no_name r props rest in
          let h = scopes-joined s ps r fs last in
          let i = front-scopes lp ls r s ps props fs front in
          let v = value-scopes all lp ls s props fs e d in
          omega arith;
      new_scopes = λ s ps f.
          let y = scopes-joined s ps r a (and_declarator fs t e) in
          let h = scopes-joined s ps r fs last in
          let i = front-scopes lp ls r s ps props fs front in
          let v = value-scopes all lp ls s props fs e d in
          let z = no-scopes-all w.in_use w.free_symbol s f ps r a split.0 in
          let x = no-scopes-all w.in_use w.free_symbol s f no_name r props parts.0 in
          let c = no-scopes w.in_use w.free_symbol s f no_name r t parts.1.0.1.0 in
          no-more (scopes_among s ps r (joined_trees a (and_declarator fs t e))) (limit sealed (nothing_new w) s) (omega arith);
      resolved = λ o q g ps v h z.
          let n = nothing_new w in
          let there = (same-all (plain n) p r all used).resolved o q (plain-agree n o q g) (any-parameters n sealed o q ps) tt h z in
          let lists = resolved-parts r q a before_it there in
          let own = lists.1.0.2 in
          let members = resolved-parts r (body_place q) props rest own.0.2.0 in
          let none : q.scope (codes "babelHelpers") ≡ None = g.scope (codes "babelHelpers") helpers-used ∙ (λ i. h.scope i (codes "babelHelpers")) ∙ helpers in
          let value = value-resolved all lp ls r q props fs e d none own.1.0 there in
          resolved-joined r q a (and_declarator fs t e) lists.0 (resolved-joined r q fs last (front-resolved lp ls r q props fs front members.0 own.1.0) ((tt, refl, (members.1.0.2.0, (value, tt))), tt));
    }

pub rest-nodes : (n : Site) (s s' : Ledger) (t u : Tree) → TakesRest n s (at_node t) s' (at_node u) → Named (whole_in s).in_use (whole_in s).free_symbol n.role t → Outcome (NodesKept n t u) s s'
rest-nodes n s s' t u (takes_rest {fs = fs} {e = e} m l lp lr ls a ps c v d helpers helpers-used) used =
    let w = whole_in s in
    let role = Binds (kind_of_declaration m) in
    let z = declares_rest l lp ps lr v (node Identifier ls done) in
    let parts = named-joined w.in_use w.free_symbol role a (z before c) used.1.0 in
    let kept = taken-rest (body_place n.names) w role l lp lr ls a ps fs v e d helpers helpers-used (join-named w.in_use w.free_symbol role a (z before empty) parts.0 (parts.1.0, tt)) in
    record { given = []; change = sealed; goes = to_list; more = λ y h. h; freer = at-least w.free_symbol; range = tt; fresh = λ y o e. absurd (none-some o e); sound = tt; beside = record { pending = refl; this = refl; top = refl }; kept = first-kept (nothing_new w) n.names sealed n.role m a c z (and_declarator fs v e) used kept }

pub rest-only : (n : Site) (s s' : Ledger) (x y : Spot) → TakesRest n s x s' y → AtNodes x y
rest-only n s s' x y (takes_rest m l lp lr ls a ps c v d helpers used) = tt

pub takes-rest-lawful : Lawful TakesRest
takes-rest-lawful = nodes-only {R = TakesRest} rest-only rest-nodes
