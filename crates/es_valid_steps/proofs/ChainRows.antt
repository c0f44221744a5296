-- The rows of optional chaining keep the rules of places.
use Rattle.std.proofs.Common.{◌≡◌, ℕ, refl, sym, ap, subst, ◌∙◌, List, [], ◌∷◌, ◌++◌}
use Rattle.std.specs.Prelude.{Bool, true, false, not, ◌&&◌, bytes_eq, Option, Some, codes}
use Rattle.es_tree.specs.Ancestors.{Ancestor, ancestor, place_of}
use Rattle.es_tree.specs.CoreStaticRules.{is_bad_delete, is_kept, is_private_member, link_place}
use Rattle.es_tree.specs.HasForm.{has_form}
use Rattle.es_tree.specs.Names.{first_text, flag_at}
use Rattle.es_tree.specs.Parens.{without_parens}
use Rattle.es_tree.specs.StaticRules.{is_unmarked_callee, is_unmarked_object}
use Rattle.es_tree.specs.Tree.{Tree, node, Label, Fields, done, ◌then◌, one, many, Trees, empty, ◌before◌, kind_of}
use Rattle.es_tree.specs.declared.ast_type.AstType.{AstType}
use Rattle.es_tree.specs.declared.ast_type.AstType.TheVariants.{BooleanLiteral, CallExpression, ChainExpression, ConditionalExpression, Identifier, MemberExpression, Super, ThisExpression, UnaryExpression}
use Rattle.es_tree.specs.declared.place.Place.{Place}
use Rattle.es_tree.specs.declared.place.Place.TheVariants.{Spine}
use Rattle.es_tree.specs.declared.table.Sort.{Sort}
use Rattle.es_tree.specs.declared.table.Sort.TheVariants.{Expression as s-Expression}
use Rattle.es_tree.proofs.NodeForm.{node_form}
use Rattle.es_runs.specs.OptionalChaining.{call_at, delete_node, has_tests, is_super, is_this_or_super, joined_by_or, member_at, null_checks, this_node, true_node, where_short}
use Rattle.es_runs.specs.Rules.{assign_node, binary_node, in_place_of, logical_node, member_node, null_node, void_zero_node}
use Rattle.es_runs.specs.Runs.{made}
use Rattle.es_resolution.specs.Declarations.{Bound}
use Rattle.es_steps.specs.Duplication.{is_among_symbols}
use Rattle.es_steps.specs.Nodes.{identifier, word}
use Rattle.es_steps.specs.OptionalChaining.{BoundCallee, Called, Continued, OptionalChainingRule, Receives, Tested, Walked, Way, call_method, is_name_among, or_held, stored_call}
use Rattle.es_steps.specs.OptionalChaining.Receives.{by_this, by_name, by_temporary}
use Rattle.es_steps.specs.OptionalChaining.Tested.{as_name, in_holder, in_temporary}
use Rattle.es_steps.specs.OptionalChaining.Called.{by_name as called_by_name, by_value, by_first_member, by_later_member}
use Rattle.es_steps.specs.OptionalChaining.Walked.{base, plain_member, plain_call, marked_member, marked_call}
use Rattle.es_steps.specs.OptionalChaining.Continued.{same_spine, inner_spine}
use Rattle.es_steps.specs.OptionalChaining.BoundCallee.{no_member, to_object}
use Rattle.es_steps.specs.OptionalChaining.OptionalChainingRule.{by_tests, as_callee, in_delete}
use Rattle.es_steps.specs.Rules.{with_made}
use Rattle.es_steps.specs.Steps.{Whole, Site}
use Rattle.es_steps.proofs.FormChains.{chain-content, continued-form, element-form, walked-form}
use Rattle.es_steps.proofs.FormMembers.{call-form, member-form}
use Rattle.es_steps.proofs.FormParts.{IsFormed, and-left, formed-bare}
use Rattle.es_valid_steps.specs.PlaceRules.{Keeps, KeepsHere}
use Rattle.es_valid_steps.proofs.Free.{Free, FreeAll, FreeAs, From, Under, all-parts, as-free, bare-part, free-as, free-bare, in-parens, is_plain, is_super_kind, member-key, member-object, object-free, parens, part, plain-between}
use Rattle.es_valid_steps.proofs.Free.From.{from_other, from_spine}
use Rattle.es_valid_steps.proofs.Free.Under.{deeper, itself}
use Rattle.es_valid_steps.proofs.MadeNodes.{free-binary, free-call, free-empty, free-leaf, free-logical, free-member, free-more, free-name, free-node, free-null, free-zero, in-conditional, in-unary, left-keeps, is_acted}
use Rattle.es_valid_steps.proofs.Rows.{EachFree, both-free, formed-super, stored-free, temporary-free}

-- TESTS

this-free : (up : List Ancestor) → Free up this_node
this-free up = free-leaf up ThisExpression (made [] []) refl refl refl

equals-free : (up : List Ancestor) (op : List ℕ) (l r : Tree) → Free up l → Free up r → Free up (binary_node op l r)
equals-free up op l r f g = free-binary up (made (Some op ∷ []) []) l r f g

checks-free : (up : List Ancestor) (no_all : Bool) (e again : Tree) → Free up e → Free up again → EachFree up (null_checks no_all e again)
checks-free up true e again f g = (equals-free up (codes "==") e null_node f (free-null up), tt)
checks-free up false e again f g = (equals-free up (codes "===") e null_node f (free-null up), (equals-free up (codes "===") again void_zero_node g (free-zero up), tt))

stored-checks : (up : List Ancestor) (no_all : Bool) (ts : List Tree) (x : Bound) (e : Tree) → EachFree up ts → Free up e → EachFree up (ts ++ null_checks no_all (assign_node (identifier x) e) (identifier x))
stored-checks up no_all ts x e h f = both-free up ts (null_checks no_all (assign_node (identifier x) e) (identifier x)) h (checks-free up no_all (assign_node (identifier x) e) (identifier x) (stored-free up x e f) (temporary-free up x))

joined-free : (up : List Ancestor) (t : Tree) (ts : List Tree) → Free up t → EachFree up ts → Free up (joined_by_or t ts)
joined-free up t [] f h = f
joined-free up t (u ∷ us) f h = joined-free up (logical_node (codes "||") t u) us (free-logical up (made (Some (codes "||") ∷ []) []) t u f h.0) h.1

-- RECEIVERS

record ReceivesFree (up : List Ancestor) (o1 r : Tree) : Type 0 where
  object : FreeAs false true up o1
  receiver : Free up r

name-kind : (names : Option ℕ → Bool) (o : Tree) → is_name_among names o ≡ true → is_super_kind (kind_of o) ≡ false
name-kind names (node Identifier l fs) e = refl
name-kind names (node _ l fs) e = absurd (cc e)

receives-free : (up : List Ancestor) (to_this : Tree → Bool) (super_too : (l : Label) → to_this (node Super l done) ≡ true) (w : Whole) (holder : Option Bound) (xs : List Bound) (o o1 r : Tree) → Receives to_this w holder xs o o1 r → IsFormed o → FreeAs false true up o → ReceivesFree up o1 r
receives-free up to_this s w holder xs o o1 r (by_this h) f g = record { object = g; receiver = this-free up }
receives-free up to_this s w holder xs o o1 r (by_name h e) f g = record { object = g; receiver = object-free up o (name-kind (or_held holder (is_among_symbols w.steady)) o e) g }
receives-free up to_this s w holder xs o o1 r (by_temporary {r = x} h e next) f g =
    let free = object-free up o (formed-super o f (to_this o) (λ l d. ap (λ y. to_this y) d ∙ s l) h) g in
    record { object = free-as false true up (assign_node (identifier x) o) (stored-free up x o free); receiver = temporary-free up x }

-- STEPS OF A SPINE, where neither calls nor members that aren't marked stand around

member-at-free : (up : List Ancestor) (l : Label) (computed : Bool) (o p : Tree) → FreeAs false true up o → Free up p → Free up (member_at l computed o p)
member-at-free up l computed o p f g = free-member up (record l { flags = computed ∷ false ∷ [] }) o p refl f g

call-at-free : (up : List Ancestor) (l : Label) (f : Tree) (ts : Trees) → FreeAs true false up f → FreeAll up ts → Free up (call_at l f ts)
call-at-free up l f ts g h = free-call up (record l { flags = false ∷ [] }) f ts refl g h

record WayFree (up : List Ancestor) (callee object : Bool) (w : Way) : Type 0 where
  tests : EachFree up w.tests
  current : FreeAs callee object up w.current

-- where the rest of the spine may stand anywhere
record WayOpen (up : List Ancestor) (w : Way) : Type 0 where
  tests : EachFree up w.tests
  current : Free up w.current

module _ (up : List Ancestor) (no_all : Bool) (known : Whole) where
  tested-free : (w u : Way) → Tested no_all known w u → WayOpen up w → WayOpen up u
  tested-free w u (as_name none name) h = let e = free-bare up w.current h.current in record { tests = checks-free up no_all (without_parens w.current) (without_parens w.current) e e; current = e }
  tested-free w u (in_holder {x = x} held) h = record { tests = stored-checks up no_all w.tests x (without_parens w.current) h.tests (free-bare up w.current h.current); current = temporary-free up x }
  tested-free w u (in_temporary {x = x} none held next) h = record { tests = stored-checks up no_all w.tests x (without_parens w.current) h.tests (free-bare up w.current h.current); current = temporary-free up x }

  -- the member that a marked call stores
  member-below : (e : Tree) (k : Label) (o p : Tree) → without_parens e ≡ node MemberExpression k (one o then one p then done) → Free up e → Free up (node MemberExpression k (one o then one p then done))
  member-below e k o p d h = subst (λ (y : Tree). Free up y) d (free-bare up e h)

  object-formed : (e : Tree) (k : Label) (computed : Bool) (o p : Tree) → without_parens e ≡ node MemberExpression k (one o then one p then done) → k.flags ≡ computed ∷ false ∷ [] → IsFormed e → IsFormed o
  object-formed e k computed o p d flags f = (member-form k computed false o p flags (subst IsFormed d (formed-bare s-Expression e refl f))).object

  stored-free-call : (l : Label) (ts : Trees) → FreeAll up ts → (w : Way) (names : List Bound) (c : Bound) (k : Label) (computed : Bool) (o1 p r : Tree) → FreeAs false true up o1 → Free up p → Free up r → WayOpen up w → WayOpen up (stored_call no_all l ts w names c (member_at k computed o1 p) r)
  stored-free-call l ts args w names c k computed o1 p r f g j h =
      let method = free-member up (made [] (false ∷ false ∷ [])) (identifier c) (word (codes "call")) refl (free-as false true up (identifier c) (temporary-free up c)) (free-name up _) in
      record {
        tests = stored-checks up no_all w.tests c (member_at k computed o1 p) h.tests (member-at-free up k computed o1 p f g);
        current = call-at-free up l (call_method (identifier c)) (r before ts) (free-as true false up (call_method (identifier c)) method) (free-more up r ts j args);
      }

  called-free : (l : Label) (ts : Trees) → FreeAll up ts → (w u : Way) → Called no_all known l ts w u → IsFormed w.current → WayOpen up w → WayOpen up u
  called-free l ts args w u (called_by_name none name) f h =
      let e = free-bare up w.current h.current in
      record { tests = checks-free up no_all (without_parens w.current) (without_parens w.current) e e; current = call-at-free up l (without_parens w.current) ts (free-as true false up (without_parens w.current) e) args }
  called-free l ts args w u (by_value {c = c} none member next) f h = record { tests = stored-checks up no_all w.tests c (without_parens w.current) h.tests (free-bare up w.current h.current); current = call-at-free up l (identifier c) ts (free-as true false up (identifier c) (temporary-free up c)) args }
  called-free l ts args w u (by_first_member {k = k} {computed = computed} {o = o} {o1 = o1} {p = p} {r = r} {c = c} {xs = xs} none callee flags next receives) f h =
      let member = member-below w.current k o p callee h.current in
      let it = receives-free up is_this_or_super (λ l. refl) _ w.holder xs o o1 r receives (object-formed w.current k computed o p callee flags f) (member-object up k o p done member) in
      stored-free-call l ts args w (c ∷ xs) c k computed o1 p r it.object (member-key up k o p done member) it.receiver h
  called-free l ts args w u (by_later_member {k = k} {computed = computed} {o = o} {o1 = o1} {p = p} {r = r} {c = c} {xs = xs} some callee flags receives next) f h =
      let member = member-below w.current k o p callee h.current in
      let it = receives-free up is_this_or_super (λ l. refl) _ w.holder xs o o1 r receives (object-formed w.current k computed o p callee flags f) (member-object up k o p done member) in
      stored-free-call l ts args w (xs ++ c ∷ []) c k computed o1 p r it.object (member-key up k o p done member) it.receiver h

  spine-link : (vp : List Ancestor) → place_of vp ≡ Spine → link_place (place_of vp) ≡ Spine
  spine-link vp e = ap (λ p. link_place p) e

  -- a spine stands in this field of a chain, of a member or of a call
  mutual
    walked-free : (vp : List Ancestor) (k : AstType) (l : Label) (all : Fields) (e : Tree) (w : Way) → Under up vp → is_plain k ≡ true → place_of (ancestor k l all 0 0 ∷ vp) ≡ Spine → Walked no_all known e w → IsFormed e → Keeps (ancestor k l all 0 0 ∷ vp) e → WayFree up (is_unmarked_callee (ancestor k l all 0 0 ∷ vp)) (is_unmarked_object (ancestor k l all 0 0 ∷ vp)) w
    walked-free vp k l all e w u plain place (base link alone) f h = record { tests = tt; current = part up vp k l all 0 e u plain (subst (λ (q : Place). From e q) (sym place) (from_spine link)) h }
    walked-free vp k l all e w u plain place (plain_member {l = m} {computed = computed} {o = o} {p = p} {w = v} flags inner) f h =
        let here = ancestor k l all 0 0 ∷ vp in
        let below = walked-free here MemberExpression m (one o then one p then done) o v (deeper (plain-between k plain) u) refl (spine-link here place) inner (member-form m computed false o p flags f).object h.1.0 in
        let key = as-free up p (part up here MemberExpression m (one o then one p then done) 1 p (deeper (plain-between k plain) u) refl from_other h.1.1.0) in
        record { tests = below.tests; current = free-as _ _ up (member_at m computed v.current p) (member-at-free up m computed v.current p (λ wp r c d. below.current wp r (λ x. absurd (cc x)) (λ x. d refl)) key) }
    walked-free vp k l all e w u plain place (plain_call {l = m} {f = g} {arguments = ts} {w = v} flags inner) f h =
        let here = ancestor k l all 0 0 ∷ vp in
        let below = walked-free here CallExpression m (one g then many ts then done) g v (deeper (plain-between k plain) u) refl (spine-link here place) inner (call-form m g ts f).callee h.1.0 in
        let args = all-parts up here CallExpression m (one g then many ts then done) 1 ts (deeper (plain-between k plain) u) refl refl refl refl h.1.1.0 in
        record { tests = below.tests; current = free-as _ _ up (call_at m v.current ts) (call-at-free up m v.current ts (λ wp r c d. below.current wp r (λ x. c refl) (λ x. absurd (cc x))) args) }
    walked-free vp k l all e w u plain place (marked_member {l = m} {computed = computed} {o = o} {p = p} {w = v} {u = t} flags inner tested) f h =
        let here = ancestor k l all 0 0 ∷ vp in
        let below = continued-free here MemberExpression m (one o then one p then done) o v (deeper (plain-between k plain) u) refl (spine-link here place) refl (ap (λ bs. not (flag_at 1 bs)) flags) inner (member-form m computed true o p flags f).object h.1.0 in
        let key = as-free up p (part up here MemberExpression m (one o then one p then done) 1 p (deeper (plain-between k plain) u) refl from_other h.1.1.0) in
        let after = tested-free v t tested below in
        record { tests = after.tests; current = free-as _ _ up (member_at m computed t.current p) (member-at-free up m computed t.current p (free-as false true up t.current after.current) key) }
    walked-free vp k l all e w u plain place (marked_call {l = m} {f = g} {arguments = ts} {w = v} flags inner called) f h =
        let here = ancestor k l all 0 0 ∷ vp in
        let callee = (call-form m g ts f).callee in
        let below = continued-free here CallExpression m (one g then many ts then done) g v (deeper (plain-between k plain) u) refl (spine-link here place) (ap (λ bs. not (flag_at 0 bs)) flags) refl inner callee h.1.0 in
        let args = all-parts up here CallExpression m (one g then many ts then done) 1 ts (deeper (plain-between k plain) u) refl refl refl refl h.1.1.0 in
        let after = called-free m ts args v w called (continued-form no_all known g v inner callee).current below in
        record { tests = after.tests; current = free-as _ _ up w.current after.current }

    continued-free : (vp : List Ancestor) (k : AstType) (l : Label) (all : Fields) (e : Tree) (w : Way) → Under up vp → is_plain k ≡ true → place_of (ancestor k l all 0 0 ∷ vp) ≡ Spine → is_unmarked_callee (ancestor k l all 0 0 ∷ vp) ≡ false → is_unmarked_object (ancestor k l all 0 0 ∷ vp) ≡ false → Continued no_all known e w → IsFormed e → Keeps (ancestor k l all 0 0 ∷ vp) e → WayOpen up w
    continued-free vp k l all e w u plain place c d (same_spine same inner) f h =
        let below = walked-free vp k l all e w u plain place inner f h in
        record { tests = below.tests; current = λ wp r. below.current wp r (λ x. absurd (cc (c, x))) (λ x. absurd (cc (d, x))) }
    continued-free vp k l all e w u plain place c d (inner_spine {c = content} {l = m} link alone chain inner) f h =
        let whole = bare-part up vp k l all 0 e u plain (λ x. subst (λ (q : Place). From e q) (sym place) (from_spine link)) h (parens up) (in-parens up) (λ x. absurd (cc (c, x))) (λ x. absurd (cc (d, x))) in
        let formed = element-form content (chain-content m content s-Expression (subst IsFormed chain (formed-bare s-Expression e refl f))) in
        let kept : Keeps (parens up) (node ChainExpression m (one content then done)) = subst (λ (y : Tree). Keeps (parens up) y) chain whole in
        let below = walked-free (parens up) ChainExpression m (one content then done) content w (deeper refl itself) refl refl inner formed kept.1.0 in
        record { tests = below.tests; current = λ wp r. below.current wp r (λ x. absurd (cc x)) (λ x. absurd (cc x)) }

  -- a chain in parentheses
  chain-free : (e : Tree) (m : Label) (content : Tree) (w : Way) → without_parens e ≡ node ChainExpression m (one content then done) → Walked no_all known content w → IsFormed e → Keeps (parens up) (without_parens e) → WayOpen up w
  chain-free e m content w chain inner f whole =
      let formed = element-form content (chain-content m content s-Expression (subst IsFormed chain (formed-bare s-Expression e refl f))) in
      let kept : Keeps (parens up) (node ChainExpression m (one content then done)) = subst (λ (y : Tree). Keeps (parens up) y) chain whole in
      let below = walked-free (parens up) ChainExpression m (one content then done) content w (deeper refl itself) refl refl inner formed kept.1.0 in
      record { tests = below.tests; current = λ wp r. below.current wp r (λ x. absurd (cc x)) (λ x. absurd (cc x)) }

  -- ROWS

  bound-free : (holder : Option Bound) (w : Whole) (xs : List Bound) (e d : Tree) → BoundCallee w holder xs e d → IsFormed e → Free up e → Free up d
  bound-free holder w xs e d (no_member h) f g = g
  bound-free holder w xs e d (to_object {k = k} {computed = computed} {o = o} {o1 = o1} {p = p} {r = r} flags receives) f g =
      let it = receives-free up is_super (λ l. refl) w holder xs o o1 r receives (member-form k computed false o p flags f).object (member-object up k o p done g) in
      let member = member-at-free up k computed o1 p it.object (member-key up k o p done g) in
      let method = free-member up (made [] (false ∷ false ∷ [])) (member_at k computed o1 p) (word (codes "bind")) refl (free-as false true up (member_at k computed o1 p) member) (free-name up _) in
      free-call up (made [] (false ∷ [])) (member_node false (member_at k computed o1 p) (word (codes "bind"))) (r before empty) refl (free-as true false up (member_node false (member_at k computed o1 p) (word (codes "bind"))) method) (free-more up r empty it.receiver (free-empty up))

  short-keeps : (t : Tree) (m : Label) (ts : List Tree) (short long : Tree) → is_acted (kind_of t) ≡ true → KeepsHere up t → has_tests ts ≡ true → EachFree up ts → Free up short → Free up long → Keeps up (where_short m ts short long)
  short-keeps t m [] short long row h e f g j = absurd (cc e)
  short-keeps t m (c ∷ cs) short long row h e f g j = left-keeps up t ConditionalExpression (in_place_of m) (one (joined_by_or c cs) then one short then one long then done) row h refl refl (in-conditional up (in_place_of m) (joined_by_or c cs) short long (joined-free up c cs f.0 f.1) g j)

  -- DELETE: what becomes of a chain that may be deleted may be deleted

  called-deleted : (l : Label) (ts : Trees) (w u : Way) → Called no_all known l ts w u → is_kept (without_parens u.current) ≡ false
  called-deleted l ts w u (called_by_name none name) = refl
  called-deleted l ts w u (by_value none member next) = refl
  called-deleted l ts w u (by_first_member none callee flags next receives) = refl
  called-deleted l ts w u (by_later_member some callee flags receives next) = refl

  walked-deleted : (e : Tree) (w : Way) → Walked no_all known e w → has_tests w.tests ≡ true → is_private_member (Some e) ≡ false → is_kept (without_parens w.current) ≡ false
  walked-deleted e w (base link alone) tests h = absurd (cc tests)
  walked-deleted e w (plain_member flags inner) tests h = h
  walked-deleted e w (plain_call flags inner) tests h = refl
  walked-deleted e w (marked_member flags inner tested) tests h = h
  walked-deleted e w (marked_call {l = l} {arguments = ts} {w = v} flags inner called) tests h = called-deleted l ts v w called

  source-deleted : (m l : Label) (t e : Tree) → m.texts ≡ Some (codes "delete") ∷ [] → without_parens t ≡ node ChainExpression l (one e then done) → is_bad_delete (node UnaryExpression m (one t then done)) ≡ false → is_private_member (Some e) ≡ false
  source-deleted m l t e texts chain h =
      let word : (bytes_eq (first_text m.texts) (codes "delete") && is_kept (without_parens t)) ≡ is_private_member (Some e) = rw (texts, chain) refl in
      sym word ∙ h

  delete-free : (e : Tree) → is_kept (without_parens e) ≡ false → Free up e → Free up (delete_node e)
  delete-free e k f = free-node up UnaryExpression (made (Some (codes "delete") ∷ []) []) (one e then done) refl refl k (in-unary up (made (Some (codes "delete") ∷ []) []) e f)

  true-free : Free up true_node
  true-free = free-leaf up BooleanLiteral (made [] (true ∷ [])) refl refl refl

  -- the content of a chain that stands here
  content-free : (s : Sort) (m : Label) (e : Tree) (w : Way) → Walked no_all known e w → has_form s (node ChainExpression m (one e then done)) ≡ true → Keeps up (node ChainExpression m (one e then done)) → WayOpen up w
  content-free s m e w walked f h =
      let below = walked-free up ChainExpression m (one e then done) e w itself refl refl walked (element-form e (chain-content m e s f)) h.1.0 in
      record { tests = below.tests; current = λ wp r. below.current wp r (λ x. absurd (cc x)) (λ x. absurd (cc x)) }

  pub chaining-keeps : (n : Site) (bs : List Bound) (t u : Tree) (s : Sort) → OptionalChainingRule no_all n known bs t u → has_form s t ≡ true → Keeps up t → Keeps up u
  chaining-keeps n bs t u s (by_tests {m = m} {e = e} {w = w} takes walked tests) f h =
      let way = content-free s m e w walked f h in
      short-keeps t m w.tests void_zero_node w.current refl h.0 tests way.tests (free-zero up) way.current
  chaining-keeps n bs t u s (as_callee {m = m} {e = e} {d = d} {w = w} {xs = xs} callee walked tests bound) f h =
      let way = content-free s m e w walked f h in
      let formed = (walked-form no_all known e w walked (element-form e (chain-content m e s f))).current in
      short-keeps t m w.tests void_zero_node d refl h.0 tests way.tests (free-zero up) (bound-free w.holder (with_made w.taken known) xs w.current d bound formed way.current)
  chaining-keeps n bs t u s (in_delete {m = m} {l = l} {t = operand} {e = e} {w = w} texts alone chain walked tests) f h =
      let inner = and-left (has_form s-Expression operand) true (node_form s UnaryExpression m (one operand then done) f).children in
      let whole = bare-part up up UnaryExpression m (one operand then done) 0 operand itself refl (λ x. from_other) h.1.0 (parens up) (in-parens up) (λ x. absurd (cc x)) (λ x. absurd (cc x)) in
      let way = chain-free operand l e w chain walked inner whole in
      let deleted = walked-deleted e w walked tests (source-deleted m l operand e texts chain h.0.deleted) in
      short-keeps t m w.tests true_node (delete_node w.current) refl h.0 tests way.tests true-free (delete-free w.current deleted way.current)
