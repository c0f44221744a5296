-- What a chain becomes is made of its parts (ECMA-262, 13.3.9): its tests, and the rest of its spine.
use Rattle.std.proofs.Common.{◌≡◌, ◌&&◌, ◌||◌, ℕ, Bool, true, false, List, [], ◌∷◌, ◌++◌, refl, sym, subst, true≢false}
use Rattle.std.specs.Prelude.{Option, Some, None, codes, is_some}
use Rattle.std.proofs.lemmas.Bool.{and_parts}
use Rattle.es_tree.specs.Parens.{without_parens}
use Rattle.es_tree.specs.Tree.{Tree, node, Label, done, ◌then◌, one, many, Trees, empty, ◌before◌}
use Rattle.es_tree.specs.Walks.{any_in_trees, any_node}
use Rattle.es_tree.specs.Words.{Text}
use Rattle.es_tree.specs.declared.ast_type.AstType.TheVariants.{BooleanLiteral, CallExpression, ChainExpression, Identifier, MemberExpression, ThisExpression}
use Rattle.es_tree.specs.declared.options.EnvOptions.{EnvOptions}
use Rattle.es_runs.specs.Alike.{content_level, the_callee}
use Rattle.es_runs.specs.Core.{flag, flag_after}
use Rattle.es_runs.specs.OptionalChaining.{has_tests, is_link, is_super, is_this_or_super, joined_by_or, member_at, null_checks, takes_value, this_node, true_node, where_short}
use Rattle.es_runs.specs.Rules.{assign_node, binary_node, in_place_of, logical_node, member_node, null_node, strays, strays_nodes, void_zero_node}
use Rattle.es_resolution.specs.Declarations.{Bound}
use Rattle.es_steps.specs.Nodes.{made, identifier, word}
use Rattle.es_steps.specs.Open.{is_body, opened_fields}
use Rattle.es_steps.specs.OptionalChaining.{BoundCallee, Called, Continued, Receives, Tested, Walked, Way, bind_node, call_method, is_name_among, stored_call}
use Rattle.es_steps.specs.OptionalChaining.BoundCallee.{no_member, to_object}
use Rattle.es_steps.specs.OptionalChaining.Called.{by_first_member, by_later_member, by_value}
use Rattle.es_steps.specs.OptionalChaining.Continued.{inner_spine, same_spine}
use Rattle.es_steps.specs.OptionalChaining.Tested.{as_name, in_holder, in_temporary}
use Rattle.es_steps.specs.OptionalChaining.Walked.{base, marked_call, marked_member, plain_call, plain_member}
use Rattle.es_steps.specs.Steps.{Site, Whole, site_in}
use Rattle.es_conditions.specs.CoreConditions.{each_passes, each_passes_among, is_placed, is_unmarked_chain}
use Rattle.es_conditions.proofs.Marks.{Marked, first-of, second-of}
use Rattle.es_conditions.proofs.Moves.{Moves, moved}
use Rattle.es_conditions.proofs.Parts.{AreParts, Finds, Here, Made, Part, PartsAmong, Passes, among-at, among-first, among-none, both-parts, callee_of, made-binary, made-call, made-call-by, made-conditional, made-identifier, made-leaf, made-logical, made-member, made-name, made-null, made-stored, made-void, moves-over, moves-to-value, part-at, part-bare, part-member, part-of, some_site, two-none, two-of}

-- LEVELS of callees

callee-takes : (marked : Bool) → takes_value (the_callee marked).level ≡ false
callee-takes true = refl
callee-takes false = refl

callee-content : (marked : Bool) → takes_value (content_level (the_callee marked).level) ≡ false
callee-content true = refl
callee-content false = refl

-- MARKS: what is no step of a spine has the same stray marks on one

base-strays : (e : Tree) → is_link e ≡ false → strays true e ≡ false → strays false e ≡ false
base-strays (node MemberExpression l fs) link e = absurd (true≢false link)
base-strays (node CallExpression l fs) link e = absurd (true≢false link)
base-strays (node k l fs) link e = e

module _ (o : EnvOptions) (s : Text → Option ℕ) where
  abbrev Lowers : Type 0
  Lowers = o.es2020.optional_chaining ≡ true

  -- what stands on a spine, at this site
  pub record OnSpine (n : Site) (e : Tree) : Type 0 where
    pub here : Here s n
    pub passes : Passes o s n e
    pub tidy : Lowers → strays true e ≡ false
    pub full : Lowers → any_node is_unmarked_chain e ≡ false

  -- how far a spine is lowered: all are parts, and the rest of the spine may stand wherever the spine might
  pub record WayParts (n : Site) (w : Way) : Type 0 where
    pub tests : AreParts o s w.tests
    pub current : (m : Site) → Here s m → Moves n m → Passes o s m w.current
    pub steps : has_tests w.tests ≡ true → Made o s w.current
    pub marked : Marked o w.current

  -- where a step is marked its value is taken
  pub record GonePart (w : Way) : Type 0 where
    pub tests : AreParts o s w.tests
    pub current : Part o s w.current

  pub record GoneMade (w : Way) : Type 0 where
    pub tests : AreParts o s w.tests
    pub current : Made o s w.current

  gone : (n : Site) (w : Way) → Here s n → WayParts n w → GonePart w
  gone n w here h = record { tests = h.tests; current = record { valued = λ m k e. h.current m k (moves-to-value s n m here k e); marked = h.marked } }

  way-made : (n : Site) (w : Way) → GoneMade w → WayParts n w
  way-made n w h = record { tests = h.tests; current = λ m k v. h.current.anywhere m k.scope; steps = λ e. h.current; marked = h.current.marked }

  -- TESTS

  part-identifier : (b : Bound) → Part o s (identifier b)
  part-identifier b = part-of o s (identifier b) (made-identifier o s b)

  part-stored : (b : Bound) (t : Tree) → Part o s t → Part o s (assign_node (identifier b) t)
  part-stored b t h = part-of o s (assign_node (identifier b) t) (made-stored o s b t h)

  check-parts : (no_all : Bool) (e again : Tree) → Part o s e → Part o s again → AreParts o s (null_checks no_all e again)
  check-parts true e again h k = (part-of o s (binary_node (codes "==") e null_node) (made-binary o s (made (Some (codes "==") ∷ []) []) e null_node refl h (part-of o s null_node (made-null o s))), tt)
  check-parts false e again h k = (
    part-of o s (binary_node (codes "===") e null_node) (made-binary o s (made (Some (codes "===") ∷ []) []) e null_node refl h (part-of o s null_node (made-null o s))),
    (part-of o s (binary_node (codes "===") again void_zero_node) (made-binary o s (made (Some (codes "===") ∷ []) []) again void_zero_node refl k (part-of o s void_zero_node (made-void o s))), tt),
  )

  joined-part : (t : Tree) (ts : List Tree) → Part o s t → AreParts o s ts → Part o s (joined_by_or t ts)
  joined-part t [] h k = h
  joined-part t (u ∷ us) h k = joined-part (logical_node (codes "||") t u) us (part-of o s (logical_node (codes "||") t u) (made-logical o s (made (Some (codes "||") ∷ []) []) t u h k.0)) k.1

  pub short-made : (m : Label) (ts : List Tree) (short long : Tree) → has_tests ts ≡ true → AreParts o s ts → Part o s short → Part o s long → Made o s (where_short m ts short long)
  short-made m [] short long e h k l = absurd (true≢false (sym e))
  short-made m (t ∷ ts) short long e h k l = made-conditional o s (in_place_of m) (joined_by_or t ts) short long (joined-part t ts h.0 h.1) k l

  pub true-part : Part o s true_node
  true-part = part-of o s true_node (made-leaf o s BooleanLiteral (made [] (true ∷ [])) refl refl refl refl)

  pub void-part : Part o s void_zero_node
  void-part = part-of o s void_zero_node (made-void o s)

  -- NAMES AND RECEIVERS

  name-made : (names : Option ℕ → Bool) (t : Tree) → is_name_among names t ≡ true → Made o s t
  name-made names (node Identifier l done) e = made-name o s l
  name-made names (node Identifier l (f then fs)) e = absurd (true≢false (sym e))
  name-made names (node k l fs) e = absurd (true≢false (sym e))

  record ReceiverParts (e r : Tree) : Type 0 where
    object : Part o s e
    receiver : Part o s r

  receiver-parts : (to_this : Tree → Bool) (w : Whole) (holder : Option Bound) (xs : List Bound) (e e1 r : Tree) → Receives to_this w holder xs e e1 r → Part o s e → ReceiverParts e1 r
  receiver-parts to_this w holder xs e e1 r (Receives.by_this h) k = record { object = k; receiver = part-of o s this_node (made-leaf o s ThisExpression (made [] []) refl refl refl refl) }
  receiver-parts to_this w holder xs e e1 r (Receives.by_name h d) k = record { object = k; receiver = k }
  receiver-parts to_this w holder xs e e1 r (Receives.by_temporary {r = b} h d next) k = record { object = part-stored b e k; receiver = part-identifier b }

  -- STEPS OF A SPINE

  tested-made : (no_all : Bool) (known : Whole) (w u : Way) → Tested no_all known w u → GonePart w → GoneMade u
  tested-made no_all known w u (as_name none name) h =
      let e = part-bare o s w.current h.current in
      record { tests = check-parts no_all (without_parens w.current) (without_parens w.current) e e; current = name-made is_some (without_parens w.current) name }
  tested-made no_all known w u (in_holder {x = x} held) h =
      let e = part-bare o s w.current h.current in
      record { tests = both-parts o s w.tests _ h.tests (check-parts no_all (assign_node (identifier x) (without_parens w.current)) (identifier x) (part-stored x (without_parens w.current) e) (part-identifier x)); current = made-identifier o s x }
  tested-made no_all known w u (in_temporary {x = x} none held next) h =
      let e = part-bare o s w.current h.current in
      record { tests = both-parts o s w.tests _ h.tests (check-parts no_all (assign_node (identifier x) (without_parens w.current)) (identifier x) (part-stored x (without_parens w.current) e) (part-identifier x)); current = made-identifier o s x }

  -- a callee that is a member, stored with its receiver
  stored-made : (no_all : Bool) (l : Label) (arguments : Trees) (w : Way) (names : List Bound) (c : Bound) (callee r : Tree) → GonePart w → PartsAmong o s arguments → Part o s callee → Part o s r → GoneMade (stored_call no_all l arguments w names c callee r)
  stored-made no_all l arguments w names c callee r h among k m =
      let method = made-member o s (made [] []) false (identifier c) (word (codes "call")) (part-identifier c) (part-identifier (record { name = codes "call"; symbol = None })) in
      record {
        tests = both-parts o s w.tests _ h.tests (check-parts no_all (assign_node (identifier c) callee) (identifier c) (part-stored c callee k) (part-identifier c));
        current = made-call o s l (call_method (identifier c)) (r before arguments) method (among-first o s r arguments m among);
      }

  called-made : (no_all : Bool) (known : Whole) (l : Label) (arguments : Trees) (w u : Way) → Called no_all known l arguments w u → GonePart w → PartsAmong o s arguments → GoneMade u
  called-made no_all known l arguments w u (Called.by_name none name) h among =
      let e = part-bare o s w.current h.current in
      record { tests = check-parts no_all (without_parens w.current) (without_parens w.current) e e; current = made-call o s l (without_parens w.current) arguments (name-made is_some (without_parens w.current) name) among }
  called-made no_all known l arguments w u (by_value {c = c} none member next) h among =
      let e = part-bare o s w.current h.current in
      record { tests = both-parts o s w.tests _ h.tests (check-parts no_all (assign_node (identifier c) (without_parens w.current)) (identifier c) (part-stored c (without_parens w.current) e) (part-identifier c)); current = made-call o s l (identifier c) arguments (made-identifier o s c) among }
  called-made no_all known l arguments w u (by_first_member {k = k} {computed = computed} {o = e} {o1 = e1} {p = p} {r = r} {c = c} {xs = xs} none callee flags next receives) h among =
      let member = part-member o s k e p (subst (Part o s) callee (part-bare o s w.current h.current)) in
      let it = receiver-parts is_this_or_super _ w.holder xs e e1 r receives member.0 in
      stored-made no_all l arguments w (c ∷ xs) c (member_at k computed e1 p) r h among (part-of o s (member_at k computed e1 p) (made-member o s k computed e1 p it.object member.1)) it.receiver
  called-made no_all known l arguments w u (by_later_member {k = k} {computed = computed} {o = e} {o1 = e1} {p = p} {r = r} {c = c} {xs = xs} some callee flags receives next) h among =
      let member = part-member o s k e p (subst (Part o s) callee (part-bare o s w.current h.current)) in
      let it = receiver-parts is_this_or_super _ w.holder xs e e1 r receives member.0 in
      stored-made no_all l arguments w (xs ++ c ∷ []) c (member_at k computed e1 p) r h among (part-of o s (member_at k computed e1 p) (made-member o s k computed e1 p it.object member.1)) it.receiver

  -- SITES OF A SPINE

  abbrev object_site : Site → Label → Tree → Tree → ℕ → Site
  object_site n l e p = site_in n MemberExpression l (opened_fields (is_body MemberExpression) (one e then one p then done))

  abbrev call_site : Site → Label → Tree → Trees → ℕ → Site
  call_site n l f arguments = site_in n CallExpression l (opened_fields (is_body CallExpression) (one f then many arguments then done))

  object-on : (n : Site) (l : Label) (e p : Tree) → OnSpine n (node MemberExpression l (one e then one p then done)) → OnSpine (object_site n l e p 0) e × Part o s p
  object-on n l e p h =
      let passes = two-of (is_placed o n MemberExpression l (one e then one p then done)) (each_passes (is_placed o) (object_site n l e p 0) e) (each_passes (is_placed o) (object_site n l e p 1) p) h.passes in (
        record { here = record { scope = h.here.scope; parameters = λ y u. refl }; passes = passes.0; tidy = λ on. (two-none (flag_after l.flags && false) (strays true e) (strays false p) (h.tidy on)).0; full = λ on. (two-none false (any_node is_unmarked_chain e) (any_node is_unmarked_chain p) (h.full on)).0 },
        part-at o s (object_site n l e p 1) p (record { scope = h.here.scope; parameters = λ y u. refl }) passes.1 (record { tidy = λ on. (two-none (flag_after l.flags && false) (strays true e) (strays false p) (h.tidy on)).1; full = λ on. (two-none false (any_node is_unmarked_chain e) (any_node is_unmarked_chain p) (h.full on)).1 }),
      )

  callee-on : (n : Site) (l : Label) (f : Tree) (arguments : Trees) → OnSpine n (node CallExpression l (one f then many arguments then done)) → OnSpine (call_site n l f arguments 0) f × PartsAmong o s arguments
  callee-on n l f arguments h =
      let passes = two-of (is_placed o n CallExpression l (one f then many arguments then done)) (each_passes (is_placed o) (call_site n l f arguments 0) f) (each_passes_among (is_placed o) (call_site n l f arguments 1) arguments) h.passes in (
        record { here = record { scope = h.here.scope; parameters = λ y u. refl }; passes = passes.0; tidy = λ on. (two-none (flag l.flags && false) (strays true f) (strays_nodes false arguments) (h.tidy on)).0; full = λ on. (two-none false (any_node is_unmarked_chain f) (any_in_trees is_unmarked_chain arguments) (h.full on)).0 },
        among-at o s (call_site n l f arguments 1) arguments (record { scope = h.here.scope; parameters = λ y u. refl }) passes.1 (λ on. (two-none (flag l.flags && false) (strays true f) (strays_nodes false arguments) (h.tidy on)).1) (λ on. (two-none false (any_node is_unmarked_chain f) (any_in_trees is_unmarked_chain arguments) (h.full on)).1),
      )

  -- what a chain holds
  pub content-in : (n : Site) (m : Label) (c : Tree) → Finds s n → Passes o s n (node ChainExpression m (one c then done)) → Marked o (node ChainExpression m (one c then done)) → OnSpine (site_in n ChainExpression m (opened_fields (is_body ChainExpression) (one c then done)) 0) c
  content-in n m c here p marked =
      let passes = and_parts (is_placed o n ChainExpression m (one c then done)) (each_passes (is_placed o) (site_in n ChainExpression m (opened_fields (is_body ChainExpression) (one c then done)) 0) c && true) p in
      record {
        here = record { scope = here; parameters = λ y u. refl };
        passes = (and_parts (each_passes (is_placed o) (site_in n ChainExpression m (opened_fields (is_body ChainExpression) (one c then done)) 0) c) true passes.1).0;
        tidy = λ on. first-of (strays true c) false (marked.tidy on);
        full = λ on. first-of (any_node is_unmarked_chain c) false (second-of (is_unmarked_chain ChainExpression m (one c then done)) (any_node is_unmarked_chain c || false) (marked.full on));
      }

  pub content-on : (m : Label) (c : Tree) → Part o s (node ChainExpression m (one c then done)) → OnSpine (site_in (some_site s) ChainExpression m (opened_fields (is_body ChainExpression) (one c then done)) 0) c
  content-on m c h = content-in (some_site s) m c (λ y u. refl) (h.valued (some_site s) (record { scope = λ y u. refl; parameters = λ y u. refl }) refl) h.marked

  mutual
    pub walked-parts : (no_all : Bool) (known : Whole) (n : Site) (e : Tree) (w : Way) → Walked no_all known e w → OnSpine n e → WayParts n w
    walked-parts no_all known n e w (base link alone) h = record {
      tests = tt;
      current = λ m k v. moved o n m e v h.passes;
      steps = λ d. absurd (true≢false (sym d));
      marked = record { tidy = λ on. base-strays e link (h.tidy on); full = h.full };
    }
    walked-parts no_all known n e w (plain_member {l = l} {computed = computed} {o = object} {p = p} {w = v} flags inner) h =
        let on = object-on n l object p h in
        let it = gone (object_site n l object p 0) v on.0.here (walked-parts no_all known (object_site n l object p 0) object v inner on.0) in
        way-made n w (record { tests = it.tests; current = made-member o s l computed v.current p it.current on.1 })
    walked-parts no_all known n e w (plain_call {l = l} {f = f} {arguments = arguments} {w = v} flags inner) h =
        let on = callee-on n l f arguments h in
        let it = walked-parts no_all known (call_site n l f arguments 0) f v inner on.0 in
        let callee = λ (m : Site) (k : Finds s m). it.current (callee_of o s m l v.current arguments) (record { scope = k; parameters = λ y u. refl }) (moves-over s (call_site n l f arguments 0) (callee_of o s m l v.current arguments) on.0.here (record { scope = k; parameters = λ y u. refl }) (callee-takes (flag l.flags)) (callee-content (flag l.flags)) refl) in
        way-made n w (record { tests = it.tests; current = made-call-by o s l v.current arguments callee it.marked on.1 })
    walked-parts no_all known n e w (marked_member {l = l} {computed = computed} {o = object} {p = p} {w = v} {u = u} flags inner tested) h =
        let on = object-on n l object p h in
        let it = tested-made no_all known v u tested (continued-parts no_all known (object_site n l object p 0) object v inner on.0) in
        way-made n w (record { tests = it.tests; current = made-member o s l computed u.current p (part-of o s u.current it.current) on.1 })
    walked-parts no_all known n e w (marked_call {l = l} {f = f} {arguments = arguments} {w = v} {u = u} flags inner called) h =
        let on = callee-on n l f arguments h in
        way-made n w (called-made no_all known l arguments v w called (continued-parts no_all known (call_site n l f arguments 0) f v inner on.0) on.1)

    pub continued-parts : (no_all : Bool) (known : Whole) (n : Site) (e : Tree) (w : Way) → Continued no_all known e w → OnSpine n e → GonePart w
    continued-parts no_all known n e w (same_spine same inner) h = gone n w h.here (walked-parts no_all known n e w inner h)
    continued-parts no_all known n e w (inner_spine {c = c} {l = l} link alone chain inner) h =
        let all = part-at o s n e h.here h.passes (record { tidy = λ on. base-strays e link (h.tidy on); full = h.full }) in
        let on = content-on l c (subst (Part o s) chain (part-bare o s e all)) in
        gone (site_in (some_site s) ChainExpression l (opened_fields (is_body ChainExpression) (one c then done)) 0) w on.here (walked-parts no_all known (site_in (some_site s) ChainExpression l (opened_fields (is_body ChainExpression) (one c then done)) 0) c w inner on)

  -- CALLEES: a member that is bound to its object

  pub callee-part : (w : Whole) (holder : Option Bound) (xs : List Bound) (e d : Tree) → BoundCallee w holder xs e d → Part o s e → Part o s d
  callee-part w holder xs e d (no_member h) k = k
  callee-part w holder xs e d (to_object {k = k} {computed = computed} {o = object} {o1 = o1} {p = p} {r = r} {xs = ys} flags receives) h =
      let member = part-member o s k object p h in
      let it = receiver-parts is_super w holder ys object o1 r receives member.0 in
      let method = made-member o s (made [] []) false (member_at k computed o1 p) (word (codes "bind")) (part-of o s (member_at k computed o1 p) (made-member o s k computed o1 p it.object member.1)) (part-identifier (record { name = codes "bind"; symbol = None })) in
      part-of o s (bind_node (member_at k computed o1 p) r) (made-call o s (made [] []) (member_node false (member_at k computed o1 p) (word (codes "bind"))) (r before empty) method (among-first o s r empty it.receiver (among-none o s)))
