-- What a walk along a spine leaves, step by step.
use Rattle.std.proofs.Common.{◌≡◌, ◌<◌, ◌≤◌, ◌+◌, [], ◌∷◌, map, refl, sym, ap, subst, ◌∙◌, arith, None}
use Rattle.std.specs.Prelude.{Bool, true, false, not, ◌||◌}
use Rattle.es_expressions.specs.MembersPlain.{plain_call_expression, plain_chain_expression, plain_member_expression}
use Rattle.es_expressions.specs.declared.members.CallExpression.{CallExpression as AnyCallExpression}
use Rattle.es_expressions.specs.declared.members.ChainExpression.{ChainExpression as AnyChainExpression}
use Rattle.es_expressions.specs.declared.members.MemberExpression.{MemberExpression as AnyMemberExpression}
use Rattle.es_resolution.specs.Seen.{seen, seen_among}
use Rattle.es_runs.proofs.OptionalChainingWeights.{stripped_size}
use Rattle.es_runs.specs.OptionalChaining.{call_at, is_chain_kind, is_link, member_at}
use Rattle.es_steps.proofs.FormParts.{formed-bare}
use Rattle.es_steps.specs.OptionalChaining.{Way, start}
use Rattle.es_steps.specs.OptionalChaining.Continued.{same_spine, inner_spine}
use Rattle.es_steps.specs.OptionalChaining.Walked.{base, plain_member, plain_call, marked_member, marked_call}
use Rattle.es_tree.specs.Parens.{without_parens}
use Rattle.es_tree.specs.Tree.{Tree, node, Label, done, ◌then◌, one, trees, kind_of, label_of, tree_size}
use Rattle.es_tree.specs.declared.ast_type.AstType.TheVariants.{CallExpression, ChainExpression, MemberExpression}
use Rattle.es_tree.specs.declared.table.Sort.TheVariants.{Expression as s-Expression}
use Rattle.es_traverse.specs.Loads.{load}
use Rattle.lower_temporaries.proofs.SeenLaws.{parens-seen}
use Rattle.lower_temporaries.proofs.Takings.{reads-none, takes-none}
use Rattle.lower_temporaries.proofs.Loads.{stripped_load}
use Rattle.lower_chains.proofs.SeenSpines.{call_step-seen, content-seen, member_step-seen}
use Rattle.lower_temporaries.proofs.ParensForm.{alone-form}
use Rattle.lower_chains.proofs.Sound.{base-plain, callee-sound, formed-base, formed-content, inner-sound, object-sound}
use Rattle.lower_chains.proofs.Weights.{inner_affords, marked_call_load, marked_member_load, marked_call_affords, marked_member_affords, plain_call_affords, plain_member_affords, start_affords, tested_few}
use Rattle.lower_chains.specs.Spines.{is_call_step, is_content, is_member_step}
use Rattle.lower_chains.specs.Ways.{CallsTo, ContinuesTo, Ctx, IsWay, Names, TestsTo, WalksTo, held}
use Rattle.lower_chains.specs.Weights.{AffordsWay}
use Rattle.lower_chains.specs.declared.way.Way.{Way as CodeWay}

-- the labels of an opened member and an opened call, as they are seen
abbrev member_label : Names → AnyMemberExpression → Label
member_label names m = label_of (seen names (plain_member_expression m))

abbrev call_expression_label : Names → AnyCallExpression → Label
call_expression_label names c = label_of (seen names (plain_call_expression c))

-- SIZES AND LOADS

pub content-size : (t : Tree) (c : AnyChainExpression) → plain_chain_expression c ≡ without_parens t → tree_size c.expression < tree_size t
content-size t c opened = let s = stripped_size t in omega (arith, s, ap tree_size opened)

pub content-load : (t : Tree) (c : AnyChainExpression) → plain_chain_expression c ≡ without_parens t → load c.expression < load t
content-load t c opened = let s = stripped_load t in omega (arith, s, ap load opened)

-- a mark pays for what is made of its step
pub called-load : (c : AnyCallExpression) → c.optional ≡ true → 45 + load c.callee ≤ load (plain_call_expression c)
called-load c marked = let h = marked_call_load (label_of (plain_call_expression c)) c.callee (trees c.arguments.items) (ap (λ b. b ∷ []) marked) in omega (arith, h)

pub accessed-load : (m : AnyMemberExpression) → m.optional ≡ true → 29 + load m.object ≤ load (plain_member_expression m)
accessed-load m marked = let h = marked_member_load (label_of (plain_member_expression m)) m.computed m.object m.property (ap (λ b. m.computed ∷ b ∷ []) marked) in omega (arith, h)

-- THE BASE

pub walks-base : (names : Names) (no_all : Bool) (ctx : Ctx) (t : Tree) (way : CodeWay) → is_member_step t ≡ false → is_call_step t ≡ false → way.tests.items ≡ [] → way.current ≡ t → way.holder ≡ None → WalksTo names no_all ctx ctx (seen names t) way
walks-base names no_all ctx t way no_member no_call tests current holder =
    let e = seen names t in record {
      to = start e;
      is = record {
        tests = ap (map (seen names)) tests;
        current = ap (seen names) current;
        holder = ap held holder;
        ids = 0;
        takes = takes-none (reads-none ctx);
      };
      walked = λ s. base (formed-base e s.formed (member_step-seen names t ∙ no_member) (call_step-seen names t ∙ no_call)) (alone-form s-Expression e s.formed);
      plain = λ s. base-plain e (formed-base e s.formed (member_step-seen names t ∙ no_member) (call_step-seen names t ∙ no_call)) s;
      affords = start_affords e;
    }

-- MEMBERS AND CALLS

-- the same way but for what is current
abbrev moved : {names : Names} {begin now : Ctx} {way : CodeWay} {w : Way} (r : CodeWay) (e : Tree) → IsWay names begin now way w → r.tests ≡ way.tests → r.holder ≡ way.holder → seen names r.current ≡ e → IsWay names begin now r (record w { current = e })
moved {names} r e is tests holder current = record {
  tests = ap (λ v. map (seen names) v.items) tests ∙ is.tests;
  current = current;
  holder = ap held holder ∙ is.holder;
  ids = is.ids;
  takes = is.takes;
}

-- What is current became its member, without a mark.
pub record IsAccessed (m : AnyMemberExpression) (way r : CodeWay) : Type 0 where
  pub tests : r.tests ≡ way.tests
  pub holder : r.holder ≡ way.holder
  pub current : r.current ≡ plain_member_expression (record m { optional = false; object = way.current })

abbrev accessed : {names : Names} {begin now : Ctx} {way r : CodeWay} {w : Way} (m : AnyMemberExpression) → IsWay names begin now way w → IsAccessed m way r → IsWay names begin now r (record w { current = member_at (member_label names m) m.computed w.current (seen names m.property) })
accessed {names} {r = r} {w = w} m is a =
    moved r (member_at (member_label names m) m.computed w.current (seen names m.property)) is a.tests a.holder (ap (seen names) a.current ∙ ap (λ o. member_at (member_label names m) m.computed o (seen names m.property)) is.current)

module _ (names : Names) {no_all : Bool} where
  pub walks-plain-member : {begin now : Ctx} {way r : CodeWay} (m : AnyMemberExpression) → m.optional ≡ false → WalksTo names no_all begin now (seen names m.object) way → IsAccessed m way r → WalksTo names no_all begin now (seen names (plain_member_expression m)) r
  walks-plain-member m unmarked w a =
      let l = member_label names m in
      let o = seen names m.object in
      let p = seen names m.property in
      let flags : l.flags ≡ m.computed ∷ false ∷ [] = ap (λ b. m.computed ∷ b ∷ []) unmarked in record {
        to = record w.to { current = member_at l m.computed w.to.current p };
        is = accessed m w.is a;
        walked = λ s. plain_member flags (w.walked (object-sound l m.computed false o p flags s));
        plain = λ s q. refl;
        affords = plain_member_affords l m.computed o p w.to flags w.affords;
      }

  pub walks-marked-member : {begin mid now : Ctx} {before tested r : CodeWay} (m : AnyMemberExpression) → m.optional ≡ true → (w : ContinuesTo names no_all begin mid (seen names m.object) before) → TestsTo names no_all begin now w.to w.is.ids tested → IsAccessed m tested r → WalksTo names no_all begin now (seen names (plain_member_expression m)) r
  walks-marked-member {begin} {now = now} {r = r} m marked w u a =
      let l = member_label names m in
      let o = seen names m.object in
      let p = seen names m.property in
      let flags : l.flags ≡ m.computed ∷ true ∷ [] = ap (λ b. m.computed ∷ b ∷ []) marked in
      let to = record u.to { current = member_at l m.computed u.to.current p } in
      let afforded = marked_member_affords l m.computed o p w.to u.to u.more flags w.affords (tested_few u.tested) u.sized in record {
        to = to;
        is = accessed m u.is a;
        walked = λ s. marked_member flags (w.walked (object-sound l m.computed true o p flags s)) u.tested;
        plain = λ s q. refl;
        affords = subst (λ n. AffordsWay n (seen names (plain_member_expression m)) to) (sym u.counted) afforded;
      }

-- What is current became a call of it, without a mark.
pub record IsCalled (c : AnyCallExpression) (way r : CodeWay) : Type 0 where
  pub tests : r.tests ≡ way.tests
  pub holder : r.holder ≡ way.holder
  pub current : r.current ≡ plain_call_expression (record c { optional = false; callee = way.current })

module _ (names : Names) {no_all : Bool} where
  pub walks-plain-call : {begin now : Ctx} {way r : CodeWay} (c : AnyCallExpression) → c.optional ≡ false → WalksTo names no_all begin now (seen names c.callee) way → IsCalled c way r → WalksTo names no_all begin now (seen names (plain_call_expression c)) r
  walks-plain-call {r = r} c unmarked w a =
      let l = call_expression_label names c in
      let flags : l.flags ≡ false ∷ [] = ap (λ b. b ∷ []) unmarked in
      let ts = seen_among names (trees c.arguments.items) in
      let current = call_at l w.to.current ts in record {
        to = record w.to { current = current };
        is = moved r current w.is a.tests a.holder (ap (seen names) a.current ∙ ap (λ f. call_at l f ts) w.is.current);
        walked = λ s. plain_call flags (w.walked (callee-sound l (seen names c.callee) ts s));
        plain = λ s q. absurd (cc q);
        affords = plain_call_affords l (seen names c.callee) ts w.to flags w.affords;
      }

  walks-call-marked : {begin mid now : Ctx} {before r : CodeWay} (c : AnyCallExpression) → (w : ContinuesTo names no_all begin mid (seen names c.callee) before) → CallsTo names no_all begin now c.span (seen_among names (trees c.arguments.items)) w.to w.is.ids r → WalksTo names no_all begin now (seen names (plain_call_expression (record c { optional = true }))) r
  walks-call-marked c w u =
      let ts = seen_among names (trees c.arguments.items) in
      let f = seen names c.callee in
      let l = call_expression_label names (record c { optional = true }) in
      let e = seen names (plain_call_expression (record c { optional = true })) in
      let afforded = marked_call_affords l f ts w.to u.to u.more refl w.affords u.few u.sized in record {
        to = u.to;
        is = u.is;
        walked = λ s. let k = callee-sound l f ts s in marked_call refl (w.walked k) (u.called (w.plain k));
        plain = λ s. u.plain;
        affords = subst (λ n. AffordsWay n e u.to) (sym u.counted) afforded;
      }

  pub walks-marked-call : {begin mid now : Ctx} {before r : CodeWay} (c : AnyCallExpression) → c.optional ≡ true → (w : ContinuesTo names no_all begin mid (seen names c.callee) before) → CallsTo names no_all begin now c.span (seen_among names (trees c.arguments.items)) w.to w.is.ids r → WalksTo names no_all begin now (seen names (plain_call_expression c)) r
  walks-marked-call {begin} {now = now} {r = r} c marked w u =
      subst (λ b. WalksTo names no_all begin now (seen names (plain_call_expression (record c { optional = b }))) r) (sym marked) (walks-call-marked c w u)

-- BEFORE A MARKED STEP

-- a step of a spine is no chain below parentheses
no-link : (t : Tree) → is_chain_kind (kind_of (without_parens t)) ≡ true → is_link t ≡ false
no-link (node MemberExpression l fs) h = absurd (cc h)
no-link (node CallExpression l fs) h = absurd (cc h)
no-link (node _ l fs) h = refl

same-test : {chain : Bool} (link : Bool) → chain ≡ false → (link || not chain) ≡ true
same-test true h = refl
same-test false h = ap not h

pub continues-same : (names : Names) {no_all : Bool} {begin now : Ctx} {way : CodeWay} (t : Tree) → is_content (without_parens t) ≡ false → WalksTo names no_all begin now (seen names t) way → ContinuesTo names no_all begin now (seen names t) way
continues-same names t none w =
    let e = seen names t in
    let no_content : is_content (without_parens e) ≡ false = ap is_content (parens-seen names t) ∙ content-seen names (without_parens t) ∙ none in
    record { to = w.to; is = w.is; walked = λ s. same_spine (same-test (is_link e) (formed-content (without_parens e) (formed-bare s-Expression e refl s.formed) no_content)) (w.walked s); plain = w.plain; affords = w.affords }

pub continues-inner : (names : Names) {no_all : Bool} {begin now : Ctx} {way : CodeWay} (t : Tree) (c : AnyChainExpression) → plain_chain_expression c ≡ without_parens t → WalksTo names no_all begin now (seen names c.expression) way → ContinuesTo names no_all begin now (seen names t) way
continues-inner names t c opened w =
    let e = seen names t in
    let l = label_of (seen names (plain_chain_expression c)) in
    let below : without_parens e ≡ node ChainExpression l (one (seen names c.expression) then done) = parens-seen names t ∙ ap (seen names) (sym opened) in
    let none : is_link e ≡ false = no-link e (ap (λ u. is_chain_kind (kind_of u)) below) in
    record {
      to = w.to;
      is = w.is;
      walked = λ s. inner_spine none (alone-form s-Expression e s.formed) below (w.walked (inner-sound e (seen names c.expression) l none below s));
      plain = λ s. w.plain (inner-sound e (seen names c.expression) l none below s);
      affords = inner_affords e (seen names c.expression) l w.to below w.affords;
    }
