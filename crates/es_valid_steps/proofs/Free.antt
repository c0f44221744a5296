-- Expressions that keep the rules of places wherever they are put below some ancestors, and what is made of them.
use Rattle.std.proofs.Common.{◌≡◌, ℕ, refl, sym, ap, subst, ◌∙◌, List, [], ◌∷◌}
use Rattle.std.specs.Prelude.{Bool, true, false, ◌&&◌, if◌then◌else◌}
use Rattle.std.specs.List.{list_any}
use Rattle.es_tree.specs.Ancestors.{Ancestor, ancestor, has_new_target, has_super_calls, has_super_members, is_breakable, is_derived_constructor, is_in_function, is_in_loop, is_method_value, is_module, labels, place_of}
use Rattle.es_tree.specs.CoreStaticRules.{is_bad_delete, is_bad_target, is_empty_chain, is_missing_init, is_optional, is_simple_target, is_stray_optional, place_in}
use Rattle.es_tree.specs.Names.{first_text}
use Rattle.es_tree.specs.Parens.{without_parens}
use Rattle.es_tree.specs.StaticRules.{is_bad_accessor, is_bad_for, is_bad_using, is_declaration, is_duplicate_label, is_label, is_lone_body, is_misplaced_meta, is_misplaced_module_item, is_misplaced_return, is_misplaced_super, is_missing_label, is_unmarked_callee, is_unmarked_object}
use Rattle.es_tree.specs.Tree.{Tree, node, Label, Fields, done, ◌then◌, missing, one, many, statements, Trees, empty, ◌before◌, kind_of}
use Rattle.es_tree.specs.declared.ast_type.AstType.{AstType}
use Rattle.es_tree.specs.declared.ast_type.AstType.TheVariants.{ArrayExpression, ArrowFunctionExpression, AssignmentExpression, BinaryExpression, BooleanLiteral, CallExpression, ChainExpression, ConditionalExpression, FunctionBody, Identifier, ImportAttribute, ImportNamespaceSpecifier, LogicalExpression, MemberExpression, NullLiteral, NumericLiteral, ObjectExpression, ObjectTarget, ParenthesizedExpression, SequenceExpression, SpreadElement, StringLiteral, Super, TargetProperty, TargetRest, ThisExpression, UnaryExpression}
use Rattle.es_tree.specs.declared.place.Place.{Place}
use Rattle.es_tree.specs.declared.place.Place.TheVariants.{Other, Spine, Target}
use Rattle.es_tree.specs.declared.table.Sort.{Sort}
use Rattle.es_runs.specs.OptionalChaining.{is_link}
use Rattle.es_steps.specs.Nodes.{made}
use Rattle.es_valid_steps.specs.PlaceRules.{Keeps, KeepsAll, KeepsHere}
use Rattle.es_valid_steps.proofs.Loose.{Loose, OpenPlace, PlaceGoes, goes, is_loose, loose}
use Rattle.es_valid_steps.proofs.Loose.OpenPlace.{at_other, at_spine}
use Rattle.es_valid_steps.proofs.Loose.PlaceGoes.{within, off_spine, off_target}
use Rattle.es_valid_steps.proofs.Moves.{super-moved}
use Rattle.es_valid_steps.proofs.Offers.{Offers, in_derived}
use Rattle.es_valid_steps.proofs.Offers.PlaceOffers.{on_spine, same_place}

-- BELOW: expressions between, through which all searches go

abbrev pub is_plain : AstType → Bool
is_plain ArrayExpression = true
is_plain AssignmentExpression = true
is_plain BinaryExpression = true
is_plain CallExpression = true
is_plain ChainExpression = true
is_plain ConditionalExpression = true
is_plain LogicalExpression = true
is_plain MemberExpression = true
is_plain ParenthesizedExpression = true
is_plain SequenceExpression = true
is_plain UnaryExpression = true
is_plain ObjectExpression = true
is_plain SpreadElement = true
is_plain TargetProperty = true
is_plain _ = false

-- so do they through patterns
abbrev pub is_between : AstType → Bool
is_between ObjectTarget = true
is_between TargetRest = true
is_between k = is_plain k

pub plain-between : (k : AstType) → is_plain k ≡ true → is_between k ≡ true
plain-between ObjectTarget e = absurd (cc e)
plain-between TargetRest e = absurd (cc e)
plain-between _ e = e

plain-loose : (k : AstType) → is_plain k ≡ true → is_loose k ≡ true
plain-loose ArrayExpression e = refl
plain-loose AssignmentExpression e = refl
plain-loose BinaryExpression e = refl
plain-loose CallExpression e = refl
plain-loose ChainExpression e = refl
plain-loose ConditionalExpression e = refl
plain-loose LogicalExpression e = refl
plain-loose MemberExpression e = refl
plain-loose ParenthesizedExpression e = refl
plain-loose SequenceExpression e = refl
plain-loose UnaryExpression e = refl
plain-loose ObjectExpression e = refl
plain-loose SpreadElement e = refl
plain-loose TargetProperty e = refl
plain-loose _ e = absurd (cc e)

-- the searches find the same, and the parent offers nothing of its own
record SameSearches (up vp : List Ancestor) : Type 0 where
  labels : labels vp ≡ labels up
  loop : is_in_loop vp ≡ is_in_loop up
  breakable : is_breakable vp ≡ is_breakable up
  function : is_in_function vp ≡ is_in_function up
  members : has_super_members vp ≡ has_super_members up
  calls : has_super_calls vp ≡ has_super_calls up
  targets : has_new_target vp ≡ has_new_target up
  in_module : is_module vp ≡ is_module up

record Silent (up : List Ancestor) : Type 0 where
  method : is_method_value up ≡ false
  constructor : is_derived_constructor up ≡ false
  class : in_derived up ≡ false

module _ (l : Label) (all : Fields) (i : ℕ) (up : List Ancestor) where
  between-searches : (k : AstType) → is_between k ≡ true → SameSearches up (ancestor k l all i 0 ∷ up)
  between-searches ArrayExpression e = record { labels = refl; loop = refl; breakable = refl; function = refl; members = refl; calls = refl; targets = refl; in_module = refl }
  between-searches AssignmentExpression e = record { labels = refl; loop = refl; breakable = refl; function = refl; members = refl; calls = refl; targets = refl; in_module = refl }
  between-searches BinaryExpression e = record { labels = refl; loop = refl; breakable = refl; function = refl; members = refl; calls = refl; targets = refl; in_module = refl }
  between-searches CallExpression e = record { labels = refl; loop = refl; breakable = refl; function = refl; members = refl; calls = refl; targets = refl; in_module = refl }
  between-searches ChainExpression e = record { labels = refl; loop = refl; breakable = refl; function = refl; members = refl; calls = refl; targets = refl; in_module = refl }
  between-searches ConditionalExpression e = record { labels = refl; loop = refl; breakable = refl; function = refl; members = refl; calls = refl; targets = refl; in_module = refl }
  between-searches LogicalExpression e = record { labels = refl; loop = refl; breakable = refl; function = refl; members = refl; calls = refl; targets = refl; in_module = refl }
  between-searches MemberExpression e = record { labels = refl; loop = refl; breakable = refl; function = refl; members = refl; calls = refl; targets = refl; in_module = refl }
  between-searches ParenthesizedExpression e = record { labels = refl; loop = refl; breakable = refl; function = refl; members = refl; calls = refl; targets = refl; in_module = refl }
  between-searches SequenceExpression e = record { labels = refl; loop = refl; breakable = refl; function = refl; members = refl; calls = refl; targets = refl; in_module = refl }
  between-searches UnaryExpression e = record { labels = refl; loop = refl; breakable = refl; function = refl; members = refl; calls = refl; targets = refl; in_module = refl }
  between-searches ObjectExpression e = record { labels = refl; loop = refl; breakable = refl; function = refl; members = refl; calls = refl; targets = refl; in_module = refl }
  between-searches SpreadElement e = record { labels = refl; loop = refl; breakable = refl; function = refl; members = refl; calls = refl; targets = refl; in_module = refl }
  between-searches ObjectTarget e = record { labels = refl; loop = refl; breakable = refl; function = refl; members = refl; calls = refl; targets = refl; in_module = refl }
  between-searches TargetProperty e = record { labels = refl; loop = refl; breakable = refl; function = refl; members = refl; calls = refl; targets = refl; in_module = refl }
  between-searches TargetRest e = record { labels = refl; loop = refl; breakable = refl; function = refl; members = refl; calls = refl; targets = refl; in_module = refl }
  between-searches _ e = absurd (cc e)

  between-silent : (k : AstType) → is_between k ≡ true → Silent (ancestor k l all i 0 ∷ up)
  between-silent k e = record { method = method k e; constructor = constructor k e up; class = class k e }
    where
      method : (k : AstType) → is_between k ≡ true → is_method_value (ancestor k l all i 0 ∷ up) ≡ false
      method ArrayExpression e = refl
      method AssignmentExpression e = refl
      method BinaryExpression e = refl
      method CallExpression e = refl
      method ChainExpression e = refl
      method ConditionalExpression e = refl
      method LogicalExpression e = refl
      method MemberExpression e = refl
      method ParenthesizedExpression e = refl
      method SequenceExpression e = refl
      method UnaryExpression e = refl
      method ObjectExpression e = refl
      method SpreadElement e = refl
      method ObjectTarget e = refl
      method TargetProperty e = refl
      method TargetRest e = refl
      method _ e = absurd (cc e)

      constructor : (k : AstType) → is_between k ≡ true → (up : List Ancestor) → is_derived_constructor (ancestor k l all i 0 ∷ up) ≡ false
      constructor k e [] = refl
      constructor ArrayExpression e (c ∷ up) = refl
      constructor AssignmentExpression e (c ∷ up) = refl
      constructor BinaryExpression e (c ∷ up) = refl
      constructor CallExpression e (c ∷ up) = refl
      constructor ChainExpression e (c ∷ up) = refl
      constructor ConditionalExpression e (c ∷ up) = refl
      constructor LogicalExpression e (c ∷ up) = refl
      constructor MemberExpression e (c ∷ up) = refl
      constructor ParenthesizedExpression e (c ∷ up) = refl
      constructor SequenceExpression e (c ∷ up) = refl
      constructor UnaryExpression e (c ∷ up) = refl
      constructor ObjectExpression e (c ∷ up) = refl
      constructor SpreadElement e (c ∷ up) = refl
      constructor ObjectTarget e (c ∷ up) = refl
      constructor TargetProperty e (c ∷ up) = refl
      constructor TargetRest e (c ∷ up) = refl
      constructor _ e (c ∷ up) = absurd (cc e)

      class : (k : AstType) → is_between k ≡ true → in_derived (ancestor k l all i 0 ∷ up) ≡ false
      class ArrayExpression e = refl
      class AssignmentExpression e = refl
      class BinaryExpression e = refl
      class CallExpression e = refl
      class ChainExpression e = refl
      class ConditionalExpression e = refl
      class LogicalExpression e = refl
      class MemberExpression e = refl
      class ParenthesizedExpression e = refl
      class SequenceExpression e = refl
      class UnaryExpression e = refl
      class ObjectExpression e = refl
      class SpreadElement e = refl
      class ObjectTarget e = refl
      class TargetProperty e = refl
      class TargetRest e = refl
      class _ e = absurd (cc e)

pub data Under (up : List Ancestor) : List Ancestor → Type 0 where
  itself : Under up up
  deeper : {vp : List Ancestor} {k : AstType} {l : Label} {all : Fields} {i : ℕ} → is_between k ≡ true → Under up vp → Under up (ancestor k l all i 0 ∷ vp)

under-searches : (up vp : List Ancestor) → Under up vp → SameSearches up vp
under-searches up vp itself = record { labels = refl; loop = refl; breakable = refl; function = refl; members = refl; calls = refl; targets = refl; in_module = refl }
under-searches up wp (deeper {vp = vp} {k = k} {l = l} {all = all} {i = i} e u) =
    let s = under-searches up vp u in
    let n = between-searches l all i vp k e in
    record { labels = n.labels ∙ s.labels; loop = n.loop ∙ s.loop; breakable = n.breakable ∙ s.breakable; function = n.function ∙ s.function; members = n.members ∙ s.members; calls = n.calls ∙ s.calls; targets = n.targets ∙ s.targets; in_module = n.in_module ∙ s.in_module }

pub no-true : (b : Bool) (A : Type 0) → b ≡ false → b ≡ true → A
no-true b A e d = absurd (cc (e, d))

-- what stands directly in an expression somewhere below is offered the same anywhere else below
pub under-offers : (up vp wp : List Ancestor) (k : AstType) (l : Label) (all : Fields) (i : ℕ) → is_between k ≡ true → Under up vp → Under up wp → Offers true (ancestor k l all i 0 ∷ vp) wp
under-offers up vp wp k l all i e u w =
    let a = under-searches up (ancestor k l all i 0 ∷ vp) (deeper e u) in
    let b = under-searches up wp w in
    let s = between-silent l all i vp k e in
    record {
      labels = b.labels ∙ sym a.labels;
      loop = λ j h. b.loop ∙ sym a.loop ∙ h;
      breakable = λ j h. b.breakable ∙ sym a.breakable ∙ h;
      function = λ h. b.function ∙ sym a.function ∙ h;
      members = λ h. b.members ∙ sym a.members ∙ h;
      calls = λ h. b.calls ∙ sym a.calls ∙ h;
      targets = λ h. b.targets ∙ sym a.targets ∙ h;
      in_module = b.in_module ∙ sym a.in_module;
      method = λ h. no-true (is_method_value (ancestor k l all i 0 ∷ vp)) _ s.method h;
      constructor = λ h. no-true (is_derived_constructor (ancestor k l all i 0 ∷ vp)) _ s.constructor h;
      class = λ h. no-true (in_derived (ancestor k l all i 0 ∷ vp)) _ s.class h;
    }

-- ROOM for an expression

pub record Room (up vp : List Ancestor) : Type 0 where
  pub under : Under up vp
  pub is_loose : Loose vp
  pub place : OpenPlace (place_of vp)

pub room-in : (up vp : List Ancestor) (k : AstType) (l : Label) (all : Fields) (i : ℕ) → is_plain k ≡ true → Under up vp → OpenPlace (place_in (place_of vp) k l i) → Room up (ancestor k l all i 0 ∷ vp)
room-in up vp k l all i e u o = record { under = deeper (plain-between k e) u; is_loose = loose l all i 0 vp k (plain-loose k e); place = o }

-- An expression that keeps the rules wherever there is room; `super` only as a callee or as an object.
abbrev pub FreeAs : Bool → Bool → List Ancestor → Tree → Type 0
FreeAs callee object up t = (vp : List Ancestor) → Room up vp → (callee ≡ true → is_unmarked_callee vp ≡ true) → (object ≡ true → is_unmarked_object vp ≡ true) → Keeps vp t

abbrev pub Free : List Ancestor → Tree → Type 0
Free up t = (vp : List Ancestor) → Room up vp → Keeps vp t

pub free-as : (callee object : Bool) (up : List Ancestor) (t : Tree) → Free up t → FreeAs callee object up t
free-as callee object up t h vp r c o = h vp r

pub as-free : (up : List Ancestor) (t : Tree) → FreeAs false false up t → Free up t
as-free up t h vp r = h vp r (λ e. absurd (cc e)) (λ e. absurd (cc e))

-- PARTS

-- from where an expression goes to room
pub data From (t : Tree) : Place → Type 0 where
  from_other : From t Other
  from_spine : is_link t ≡ false → From t Spine
  from_target : {s : Sort} → is_simple_target (kind_of (without_parens t)) ≡ true → From t (Target s)

from-goes : (t : Tree) (p q : Place) → From t p → OpenPlace q → PlaceGoes t p q
from-goes t p q from_other at_other = within (same_place Other)
from-goes t p q from_other at_spine = within on_spine
from-goes t p q (from_spine e) at_other = off_spine e
from-goes t p q (from_spine e) at_spine = within (same_place Spine)
from-goes t p q (from_target e) o = off_target e

-- what stands directly in an expression somewhere below
pub part : (up vp : List Ancestor) (k : AstType) (l : Label) (all : Fields) (i : ℕ) (t : Tree) → Under up vp → is_plain k ≡ true → From t (place_of (ancestor k l all i 0 ∷ vp)) → Keeps (ancestor k l all i 0 ∷ vp) t → FreeAs (is_unmarked_callee (ancestor k l all i 0 ∷ vp)) (is_unmarked_object (ancestor k l all i 0 ∷ vp)) up t
part up vp k l all i t u e f h wp r c o = goes (ancestor k l all i 0 ∷ vp) wp (loose l all i 0 vp k (plain-loose k e)) r.is_loose true (under-offers up vp wp k l all i (plain-between k e) u r.under) t (super-moved (ancestor k l all i 0 ∷ vp) wp true (under-offers up vp wp k l all i (plain-between k e) u r.under) c o t) (from-goes t (place_of (ancestor k l all i 0 ∷ vp)) (place_of wp) f r.place) (λ d. absurd (cc d)) h

-- and below parentheses

abbrev pub is_parenthesized : Tree → Bool
is_parenthesized (node ParenthesizedExpression l (one t then fs)) = true
is_parenthesized _ = false

pub bare-part : (up vp : List Ancestor) (k : AstType) (l : Label) (all : Fields) (i : ℕ) (t : Tree) → Under up vp → is_plain k ≡ true → (is_parenthesized t ≡ false → From t (place_of (ancestor k l all i 0 ∷ vp))) → Keeps (ancestor k l all i 0 ∷ vp) t → FreeAs (is_unmarked_callee (ancestor k l all i 0 ∷ vp)) (is_unmarked_object (ancestor k l all i 0 ∷ vp)) up (without_parens t)
bare-part up vp k l all i (node ParenthesizedExpression m (one t then fs)) u e f h = free-as _ _ up (without_parens t) (as-free up (without_parens t) (bare-part up (ancestor k l all i 0 ∷ vp) ParenthesizedExpression m (one t then fs) 0 t (deeper (plain-between k e) u) refl (λ d. from_other) h.1.0))
bare-part up vp k l all i (node ParenthesizedExpression m done) u e f h = part up vp k l all i _ u e (f refl) h
bare-part up vp k l all i (node ParenthesizedExpression m (missing then fs)) u e f h = part up vp k l all i _ u e (f refl) h
bare-part up vp k l all i (node ParenthesizedExpression m (many ts then fs)) u e f h = part up vp k l all i _ u e (f refl) h
bare-part up vp k l all i (node ParenthesizedExpression m (statements ts then fs)) u e f h = part up vp k l all i _ u e (f refl) h
bare-part up vp k l all i (node _ m fs) u e f h = part up vp k l all i _ u e (f refl) h

abbrev pub FreeAll : List Ancestor → Trees → Type 0
FreeAll up ts = (vp : List Ancestor) → Room up vp → KeepsAll vp ts

pub all-parts : (up vp : List Ancestor) (k : AstType) (l : Label) (all : Fields) (i : ℕ) (ts : Trees) → Under up vp → is_plain k ≡ true → place_of (ancestor k l all i 0 ∷ vp) ≡ Other → is_unmarked_callee (ancestor k l all i 0 ∷ vp) ≡ false → is_unmarked_object (ancestor k l all i 0 ∷ vp) ≡ false → KeepsAll (ancestor k l all i 0 ∷ vp) ts → FreeAll up ts
all-parts up vp k l all i empty u e p c o h wp r = tt
all-parts up vp k l all i (t before ts) u e p c o h wp r = (
  part up vp k l all i t u e (subst (λ (q : Place). From t q) (sym p) from_other) h.0 wp r (λ d. no-true (is_unmarked_callee (ancestor k l all i 0 ∷ vp)) _ c d) (λ d. no-true (is_unmarked_object (ancestor k l all i 0 ∷ vp)) _ o d),
  all-parts up vp k l all i ts u e p c o h.1 wp r,
)

-- PARTS OF FREE EXPRESSIONS, which stand in parentheses

abbrev pub parens : List Ancestor → List Ancestor
parens up = ancestor ParenthesizedExpression (made [] []) done 0 0 ∷ up

pub in-parens : (up : List Ancestor) → Room up (parens up)
in-parens up = room-in up up ParenthesizedExpression (made [] []) done 0 refl itself at_other

pub free-bare : (up : List Ancestor) (t : Tree) → Free up t → Free up (without_parens t)
free-bare up t h = as-free up (without_parens t) (bare-part up up ParenthesizedExpression (made [] []) done 0 t itself refl (λ d. from_other) (h (parens up) (in-parens up)))

-- `super` alone asks where it stands
abbrev pub is_super_kind : AstType → Bool
is_super_kind Super = true
is_super_kind _ = false

no-super : (up : List Ancestor) (t : Tree) → is_super_kind (kind_of t) ≡ false → is_misplaced_super up t ≡ false
no-super up (node Super l fs) e = absurd (cc e)
no-super up (node _ l fs) e = refl

pub object-free : (up : List Ancestor) (t : Tree) → is_super_kind (kind_of t) ≡ false → FreeAs false true up t → Free up t
object-free up t e f vp r =
    let member = ancestor MemberExpression (made [] []) done 0 0 ∷ parens up in
    goes member vp (loose (made [] []) done 0 0 (parens up) MemberExpression refl) r.is_loose true (under-offers up (parens up) vp MemberExpression (made [] []) done 0 refl (deeper refl itself) r.under) t (λ h. no-super vp t e) (from-goes t Other (place_of vp) from_other r.place) (λ d. absurd (cc d)) (f member (room-in up (parens up) MemberExpression (made [] []) done 0 refl (deeper refl itself) at_other) (λ d. absurd (cc d)) (λ d. refl))

module _ (up : List Ancestor) (m : Label) where
  pub member-object : (o p : Tree) (fs : Fields) → Free up (node MemberExpression m (one o then one p then fs)) → FreeAs false true up o
  member-object o p fs h vp r c d = part up (parens up) MemberExpression m (one o then one p then fs) 0 o (deeper refl itself) refl from_other (h (parens up) (in-parens up)).1.0 vp r (λ e. absurd (cc e)) (λ e. d refl)

  pub member-key : (o p : Tree) (fs : Fields) → Free up (node MemberExpression m (one o then one p then fs)) → Free up p
  member-key o p fs h = as-free up p (part up (parens up) MemberExpression m (one o then one p then fs) 1 p (deeper refl itself) refl from_other (h (parens up) (in-parens up)).1.1.0)

-- THE RULES OF A MADE NODE

-- kinds that break no rule by themselves but by marks and by what they delete
abbrev pub is_quiet : AstType → Bool
is_quiet ArrayExpression = true
is_quiet AssignmentExpression = true
is_quiet BinaryExpression = true
is_quiet FunctionBody = true
is_quiet ArrowFunctionExpression = true
is_quiet BooleanLiteral = true
is_quiet CallExpression = true
is_quiet ConditionalExpression = true
is_quiet Identifier = true
is_quiet ImportAttribute = true
is_quiet ImportNamespaceSpecifier = true
is_quiet LogicalExpression = true
is_quiet MemberExpression = true
is_quiet NullLiteral = true
is_quiet NumericLiteral = true
is_quiet SequenceExpression = true
is_quiet StringLiteral = true
is_quiet ThisExpression = true
is_quiet ObjectExpression = true
is_quiet UnaryExpression = true
is_quiet _ = false

module _ (l : Label) (fs : Fields) where
  pub record Quiet (k : AstType) : Type 0 where
    pub jump : (up : List Ancestor) → is_missing_label up (node k l fs) ≡ false
    pub returned : (up : List Ancestor) → is_misplaced_return up (node k l fs) ≡ false
    pub super_word : (up : List Ancestor) → is_misplaced_super up (node k l fs) ≡ false
    pub chain : is_empty_chain (node k l fs) ≡ false
    pub value : (p : Place) → is_missing_init p (node k l fs) ≡ false
    pub using_word : (up : List Ancestor) → is_bad_using up (node k l fs) ≡ false
    pub head : (up : List Ancestor) → is_bad_for up (node k l fs) ≡ false
    pub item : (up : List Ancestor) → is_misplaced_module_item up (node k l fs) ≡ false
    pub accessor : is_bad_accessor (node k l fs) ≡ false
    pub declaration : is_declaration k l ≡ false
    pub meta : (up : List Ancestor) → is_misplaced_meta up (node k l fs) ≡ false

  pub quiet : (k : AstType) → is_quiet k ≡ true → Quiet k
  quiet ArrayExpression e = record { jump = λ up. refl; returned = λ up. refl; super_word = λ up. refl; chain = refl; value = λ p. refl; using_word = λ up. refl; head = λ up. refl; item = λ up. refl; accessor = refl; declaration = refl; meta = λ up. refl }
  quiet AssignmentExpression e = record { jump = λ up. refl; returned = λ up. refl; super_word = λ up. refl; chain = refl; value = λ p. refl; using_word = λ up. refl; head = λ up. refl; item = λ up. refl; accessor = refl; declaration = refl; meta = λ up. refl }
  quiet BinaryExpression e = record { jump = λ up. refl; returned = λ up. refl; super_word = λ up. refl; chain = refl; value = λ p. refl; using_word = λ up. refl; head = λ up. refl; item = λ up. refl; accessor = refl; declaration = refl; meta = λ up. refl }
  quiet FunctionBody e = record { jump = λ up. refl; returned = λ up. refl; super_word = λ up. refl; chain = refl; value = λ p. refl; using_word = λ up. refl; head = λ up. refl; item = λ up. refl; accessor = refl; declaration = refl; meta = λ up. refl }
  quiet ArrowFunctionExpression e = record { jump = λ up. refl; returned = λ up. refl; super_word = λ up. refl; chain = refl; value = λ p. refl; using_word = λ up. refl; head = λ up. refl; item = λ up. refl; accessor = refl; declaration = refl; meta = λ up. refl }
  quiet BooleanLiteral e = record { jump = λ up. refl; returned = λ up. refl; super_word = λ up. refl; chain = refl; value = λ p. refl; using_word = λ up. refl; head = λ up. refl; item = λ up. refl; accessor = refl; declaration = refl; meta = λ up. refl }
  quiet CallExpression e = record { jump = λ up. refl; returned = λ up. refl; super_word = λ up. refl; chain = refl; value = λ p. refl; using_word = λ up. refl; head = λ up. refl; item = λ up. refl; accessor = refl; declaration = refl; meta = λ up. refl }
  quiet ConditionalExpression e = record { jump = λ up. refl; returned = λ up. refl; super_word = λ up. refl; chain = refl; value = λ p. refl; using_word = λ up. refl; head = λ up. refl; item = λ up. refl; accessor = refl; declaration = refl; meta = λ up. refl }
  quiet Identifier e = record { jump = λ up. refl; returned = λ up. refl; super_word = λ up. refl; chain = refl; value = λ p. refl; using_word = λ up. refl; head = λ up. refl; item = λ up. refl; accessor = refl; declaration = refl; meta = λ up. refl }
  quiet ImportAttribute e = record { jump = λ up. refl; returned = λ up. refl; super_word = λ up. refl; chain = refl; value = λ p. refl; using_word = λ up. refl; head = λ up. refl; item = λ up. refl; accessor = refl; declaration = refl; meta = λ up. refl }
  quiet ImportNamespaceSpecifier e = record { jump = λ up. refl; returned = λ up. refl; super_word = λ up. refl; chain = refl; value = λ p. refl; using_word = λ up. refl; head = λ up. refl; item = λ up. refl; accessor = refl; declaration = refl; meta = λ up. refl }
  quiet LogicalExpression e = record { jump = λ up. refl; returned = λ up. refl; super_word = λ up. refl; chain = refl; value = λ p. refl; using_word = λ up. refl; head = λ up. refl; item = λ up. refl; accessor = refl; declaration = refl; meta = λ up. refl }
  quiet MemberExpression e = record { jump = λ up. refl; returned = λ up. refl; super_word = λ up. refl; chain = refl; value = λ p. refl; using_word = λ up. refl; head = λ up. refl; item = λ up. refl; accessor = refl; declaration = refl; meta = λ up. refl }
  quiet NullLiteral e = record { jump = λ up. refl; returned = λ up. refl; super_word = λ up. refl; chain = refl; value = λ p. refl; using_word = λ up. refl; head = λ up. refl; item = λ up. refl; accessor = refl; declaration = refl; meta = λ up. refl }
  quiet NumericLiteral e = record { jump = λ up. refl; returned = λ up. refl; super_word = λ up. refl; chain = refl; value = λ p. refl; using_word = λ up. refl; head = λ up. refl; item = λ up. refl; accessor = refl; declaration = refl; meta = λ up. refl }
  quiet SequenceExpression e = record { jump = λ up. refl; returned = λ up. refl; super_word = λ up. refl; chain = refl; value = λ p. refl; using_word = λ up. refl; head = λ up. refl; item = λ up. refl; accessor = refl; declaration = refl; meta = λ up. refl }
  quiet StringLiteral e = record { jump = λ up. refl; returned = λ up. refl; super_word = λ up. refl; chain = refl; value = λ p. refl; using_word = λ up. refl; head = λ up. refl; item = λ up. refl; accessor = refl; declaration = refl; meta = λ up. refl }
  quiet ThisExpression e = record { jump = λ up. refl; returned = λ up. refl; super_word = λ up. refl; chain = refl; value = λ p. refl; using_word = λ up. refl; head = λ up. refl; item = λ up. refl; accessor = refl; declaration = refl; meta = λ up. refl }
  quiet ObjectExpression e = record { jump = λ up. refl; returned = λ up. refl; super_word = λ up. refl; chain = refl; value = λ p. refl; using_word = λ up. refl; head = λ up. refl; item = λ up. refl; accessor = refl; declaration = refl; meta = λ up. refl }
  quiet UnaryExpression e = record { jump = λ up. refl; returned = λ up. refl; super_word = λ up. refl; chain = refl; value = λ p. refl; using_word = λ up. refl; head = λ up. refl; item = λ up. refl; accessor = refl; declaration = refl; meta = λ up. refl }
  quiet _ e = absurd (cc e)

no-target : (p : Place) (t : Tree) → OpenPlace p → is_bad_target p t ≡ false
no-target p t at_other = refl
no-target p t at_spine = refl

pub unmarked : (p : Place) (k : AstType) (l : Label) (fs : Fields) → is_optional k l ≡ false → is_stray_optional p (node k l fs) ≡ false
unmarked Spine k l fs e = refl
unmarked p k l fs e = e

loose-label : (up : List Ancestor) (t : Tree) → Loose up → is_duplicate_label up t ≡ false
loose-label up (node Identifier l fs) h = λ i. h.label i && list_any (is_label (first_text l.texts)) (labels up)
loose-label up (node _ l fs) h = refl

-- wherever no kind is asked for, as a target or not
pub made-there : (vp : List Ancestor) (k : AstType) (l : Label) (fs : Fields) → Loose vp → is_bad_target (place_of vp) (node k l fs) ≡ false → is_quiet k ≡ true → is_optional k l ≡ false → is_bad_delete (node k l fs) ≡ false → KeepsHere vp (node k l fs)
made-there vp k l fs r t e m d =
    let q = quiet l fs k e in
    record {
      jump = q.jump vp;
      label = loose-label vp (node k l fs) r;
      returned = q.returned vp;
      super_word = q.super_word vp;
      target = t;
      chain = q.chain;
      mark = unmarked (place_of vp) k l fs m;
      deleted = d;
      value = q.value (place_of vp);
      using_word = q.using_word vp;
      head = q.head vp;
      item = q.item vp;
      accessor = q.accessor;
      rest = r.rest (node k l fs);
      declaration = ap (λ v. v && is_lone_body vp) q.declaration;
      meta = q.meta vp;
    }

-- where there is room
pub made-here : (up vp : List Ancestor) (k : AstType) (l : Label) (fs : Fields) → Room up vp → is_quiet k ≡ true → is_optional k l ≡ false → is_bad_delete (node k l fs) ≡ false → KeepsHere vp (node k l fs)
made-here up vp k l fs r e m d = made-there vp k l fs r.is_loose (no-target (place_of vp) (node k l fs) r.place) e m d
