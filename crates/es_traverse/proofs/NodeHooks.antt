-- The hooks of a node, one after the other.
use Rattle.std.proofs.Common.{◌≡◌, ◌∙◌, ◌≤◌, ◌||◌, ◌⊎◌, refl, sym, ap, subst, arith, ℕ, Bool, true, false, true≢false, Option, Some, None, inl, inr, List}
use Rattle.std.specs.Prelude.{is_some, not}
use Rattle.std.proofs.lemmas.Option.{none-some}
use Rattle.es_tree.specs.HasForm.{has_form, is_of_sort}
use Rattle.es_tree.specs.Tree.{Tree, node, kind_of, label_of, fields_of}
use Rattle.es_tree.specs.Walks.{any_in_fields}
use Rattle.es_tree.specs.Words.{Text}
use Rattle.es_tree.specs.declared.ast_type.AstType.{AstType}
use Rattle.es_tree.specs.declared.ast_type.AstType.TheVariants.{CallExpression, ChainExpression, Program, UnaryExpression}
use Rattle.es_tree.specs.declared.options.EnvOptions.{EnvOptions}
use Rattle.es_tree.specs.declared.table.Sort.TheVariants.{Expression as s-Expression}
use Rattle.es_tree.proofs.NodeForm.{node_form}
use Rattle.es_resolution.specs.Seen.{seen}
use Rattle.es_steps.specs.Slots.{is_slot}
use Rattle.es_steps.specs.Open.{Pending, opened}
use Rattle.es_steps.specs.Steps.{Site as Place, Step, Steps}
use Rattle.es_steps.specs.Steps.Steps.{stays}
use Rattle.es_visit.specs.Counts.{hooks_in}
use Rattle.es_visit.specs.Hooks.{hook_of_kind, hook_of_sort, sort_of}
use Rattle.es_visit.specs.declared.hook.Hook.{Hook}
use Rattle.es_visit.specs.declared.hook.Hook.TheVariants.{Expression, Statement}
use Rattle.es_visit.specs.declared.hook.Sort.{Sort}
use Rattle.es_visit.specs.declared.hook.Sort.TheVariants.{AlwaysExpression, AlwaysStatement}
use Rattle.es_visit.specs.Calls.{Goes, GoesBySort, GoesOut, GoesOutBySort, OneEntry, OneExit}
use Rattle.es_visit.proofs.Calls.{is_of_kind, of_kind}
use Rattle.es_changes.specs.Conditions.{AreSound, Conditions, holds_after, holds_before, may_bring}
use Rattle.es_changes.specs.Fits.{Fits}
use Rattle.es_changes.specs.Laws.{SamePlace}
use Rattle.es_changes.specs.Moments.{Moment, ledger_at}
use Rattle.es_changes.proofs.StepRows.{steps-trans}
use Rattle.es_changes.proofs.StillFits.{still-fits}
use Rattle.es_traverse.specs.Laws.{CanVisit, EnteredAs, Exited, IsLawful, KeepsBody, KeepsSort, MakesNone, Profile, Settled, is_construct}
use Rattle.es_traverse.specs.Sites.{Tells, hook_of_role, role_at, role_of}
use Rattle.es_traverse.specs.Visits.{EnteredKind, EnteredNode, EnteredSort, ExitedAt, ExitedKind, ExitedNode, ExitedSort, opens_at}
use Rattle.es_traverse.specs.declared.site.Role.{Role}
use Rattle.es_traverse.specs.declared.site.Role.TheVariants.{Expression as r-Expression, Statement as r-Statement, Nothing}
use Rattle.es_traverse.specs.declared.site.Site.{Site}
use Rattle.es_traverse.specs.declared.site.Site.TheVariants.{Slot}
use Rattle.es_traverse.specs.Together.{neither}
use Rattle.es_traverse.proofs.Kept.{opened-options, opens-seen}
use Rattle.es_traverse.proofs.Outward.{carried-along}

-- BY SORT

same_hook : {g h : Hook} → Some g ≡ Some h → g ≡ h
same_hook e = cc

-- as its sort says, but for a call
role-of-sort : (k : AstType) (c : Site) → (role_at k c ≡ role_of (sort_of k) c) ⊎ (k ≡ CallExpression)
role-of-sort CallExpression c = inr refl
role-of-sort _ c = inl refl

-- a hook that a node gets wherever it stands is that of its role
sort-role : (s : Sort) (c : Site) (h : Hook) → hook_of_sort s ≡ Some h → hook_of_role (role_of s c) ≡ Some h
sort-role AlwaysExpression c h e = e
sort-role AlwaysStatement c h e = e
sort-role _ c h e = absurd (none-some _ e)

only-role : (k : AstType) (c : Site) (h : Hook) → hook_of_sort (sort_of k) ≡ Some h → hook_of_role (role_at k c) ≡ Some h
only-role k c h e = elim (role-of-sort k c) [
  | inl i ↦ ap hook_of_role i ∙ sort-role (sort_of k) c h e
  | inr i ↦ absurd (none-some _ (sym (ap (λ x. hook_of_sort (sort_of x)) i) ∙ e))
]

abbrev is_expression_role : Role → Bool
is_expression_role r-Expression = true
is_expression_role _ = false

-- what may stand where expressions do is one in a slot, and what brings more is one everywhere
abbrev is_known_there : AstType → Bool
is_known_there k = not (is_of_sort s-Expression k) || is_expression_role (role_at k Slot)

known-there : (k : AstType) → is_known_there k ≡ true
known-there Program = refl
known-there _ = refl

brings-there : (k : AstType) (c : Site) → may_bring k ≡ true → is_expression_role (role_at k c) ≡ true
brings-there CallExpression c e = refl
brings-there ChainExpression c e = refl
brings-there UnaryExpression c e = refl
brings-there _ c e = absurd (true≢false (sym e))

or-second : (x y : Bool) → (not x || y) ≡ true → x ≡ true → y ≡ true
or-second true y h e = h
or-second false y h e = absurd (true≢false (sym e))

slot-role : (t : Tree) → has_form s-Expression t ≡ true → is_expression_role (role_at (kind_of t) Slot) ≡ true
slot-role (node k l fs) h = or-second (is_of_sort s-Expression k) (is_expression_role (role_at k Slot)) (known-there k) (node_form s-Expression k l fs h).sort

not-so : (b : Bool) → (b ≡ true → ⊥) → b ≡ false
not-so true h = absurd (h refl)
not-so false h = refl

contrary : {b : Bool} → b ≡ true → b ≡ false → ⊥
contrary e f = true≢false (sym e ∙ f)

-- a node that is no expression at its place stands in no slot and brings no more: so what is known before its hooks is known after them
pub known-alike : (c : Conditions) → AreSound c → (s : Site) (a : Moment) (n : Place) (t : Tree) → is_expression_role (role_at (kind_of t) s) ≡ false → Tells s n → Fits a n t → holds_before c n t → holds_after c n t
known-alike c sound s a n (node k l fs) e tells f known =
    let brings : may_bring k ≡ false = not-so (may_bring k) (λ b. contrary (brings-there k s b) e) in
    let slot : is_slot n.above ≡ false = not-so (is_slot n.above) (λ b.
    contrary (slot-role (node k l fs) (subst (λ x. has_form x (node k l fs) ≡ true) (f.slot b) f.formed)) (subst (λ x. is_expression_role (role_at k x) ≡ false) (tells.slot b) e)) in
    sound.alike n f.sort k l fs f.formed brings slot known

no-role : (r : Role) → hook_of_role r ≡ None → is_expression_role r ≡ false
no-role Nothing e = refl
no-role r-Expression e = absurd (none-some _ (sym e))
no-role r-Statement e = absurd (none-some _ (sym e))

-- what the hook counts on and leaves, by the role
record ByRole (p : Profile) (c : Site) (h : Hook) (a : Moment) (t : Tree) (b : Moment) (u : Tree) : Type 0 where
  stepped : (n : Place) → Tells c n → Fits a n t → holds_before p.conditions n t → Steps (Step p.rule n) (ledger_at a) (opened t) (ledger_at b) (opened u)
  left : (n : Place) → Tells c n → Fits a n t → holds_before p.conditions n t → holds_after p.conditions n u
  cleared : (n : Place) → Tells c n → Fits a n t → holds_before p.conditions n t → is_construct (p.constructs h) u ≡ false
  body : KeepsBody t u
  sort : KeepsSort h t u

module _ {S : Type 0} (pending : S → List Pending) (keeps : Bool) (p : Profile) (can : CanVisit pending keeps p) where
  by-role : (r : Role) (c : Site) {a b : Moment} (t u : Tree) → role_at (kind_of t) c ≡ r → (h : Hook) → hook_of_role r ≡ Some h → EnteredAs p h c a t b u → ByRole p c h a t b u
  by-role Nothing c t u is h e x = absurd (none-some _ e)
  by-role r-Expression c {a = a} {b = b} t u is h e x' =
      let x : EnteredAs p Expression c a t b u = subst (λ i. EnteredAs p i c a t b u) (sym (same_hook e)) x' in
      subst (λ i. ByRole p c i a t b u) (same_hook e) (record {
        stepped = λ n tells f k. x.stepped n tells f (can.counts n t ∙ k);
        left = λ n tells f k. sym (can.leaves n u) ∙ x.left n tells f (can.counts n t ∙ k);
        cleared = λ n tells f k. x.cleared n tells f (can.counts n t ∙ k);
        body = x.body;
        sort = x.sort;
      })
  by-role r-Statement c {a = a} {b = b} t u is h e x' =
      let x : EnteredAs p Statement c a t b u = subst (λ i. EnteredAs p i c a t b u) (sym (same_hook e)) x' in
      let known : (n : Place) → Tells c n → Fits a n t → holds_before p.conditions n t → holds_after p.conditions n t = λ n tells f k. known-alike p.conditions can.sound c a n t (ap is_expression_role is) tells f k in
      subst (λ i. ByRole p c i a t b u) (same_hook e) (record {
        stepped = λ n tells f k. x.stepped n tells f (known n tells f k);
        left = λ n tells f k. x.left n tells f (known n tells f k);
        cleared = λ n tells f k. x.cleared n tells f (known n tells f k);
        body = x.body;
        sort = x.sort;
      })

  pub entered-sort : (c : Site) (h : Hook) {a b : Moment} (t u : Tree) → hook_of_role (role_at (kind_of t) c) ≡ Some h → EnteredAs p h c a t b u → EnteredSort p c a t b u
  entered-sort c h t u e x' =
      let x = by-role (role_at (kind_of t) c) c t u refl h e x' in
      record {
        stepped = x.stepped;
        leaves = x.left;
        body = x.body;
        cleared = λ n tells f k g s. subst (λ i. is_construct (p.constructs i) u ≡ false) (elim (x.sort g s) as (λ _. h ≡ g) [ inl before ↦ same_hook (sym e ∙ only-role (kind_of t) c g before) | inr this ↦ sym this ]) (x.cleared n tells f k);
      }

  pub entered-no-sort : (c : Site) (a : Moment) (t : Tree) → hook_of_role (role_at (kind_of t) c) ≡ None → EnteredSort p c a t a t
  entered-no-sort c a t e = record {
    stepped = λ n tells f k. stays;
    leaves = λ n tells f k. known-alike p.conditions can.sound c a n t (no-role (role_at (kind_of t) c) e) tells f k;
    body = refl;
    cleared = λ n tells f k g s. absurd (none-some _ (sym e ∙ only-role (kind_of t) c g s));
  }

-- BY KIND

settled : (p : Profile) (h : Hook) (c : Site) {a b : Moment} (t u : Tree) → is_of_kind h ≡ true → EnteredAs p h c a t b u → Settled p h (Tells c) a t b u
settled p Expression c t u e x = absurd (true≢false (sym e))
settled p Statement c t u e x = absurd (true≢false (sym e))
settled p _ c t u e x = x

module _ (p : Profile) where
  pub entered-kind : (h : Hook) (c : Site) {a b : Moment} (t u : Tree) → hook_of_kind (kind_of t) ≡ Some h → EnteredAs p h c a t b u → EnteredKind p c a t b u
  entered-kind h c t u e x' =
      let x = settled p h c t u (of_kind (kind_of t) h e) x' in
      record {
        stepped = x.stepped;
        leaves = x.left;
        body = x.body;
        cleared = λ n tells f k g i. subst (λ i. is_construct (p.constructs i) u ≡ false) (same_hook (sym e ∙ i)) (x.cleared n tells f k);
        order = x.order;
      }

  pub entered-no-kind : (c : Site) (a : Moment) (t : Tree) → hook_of_kind (kind_of t) ≡ None → EnteredKind p c a t a t
  entered-no-kind c a t e = record {
    stepped = λ n tells f k. stays;
    leaves = λ n tells f k. k;
    body = refl;
    cleared = λ n tells f k g i. absurd (none-some _ (sym e ∙ i));
    order = inl refl;
  }

-- BOTH

clear-unless : (x : Bool) → (x ≡ true → x ≡ false) → x ≡ false
clear-unless true h = h refl
clear-unless false h = refl

-- no construct is left: it would have the hook of its sort, or that of its kind
entered-both : (p : EnvOptions → Profile) (c : Site) {a b d : Moment} (t u v : Tree) → IsLawful (p a.options) → SamePlace a b → b.options ≡ a.options → EnteredSort (p a.options) c a t b u → EnteredKind (p b.options) c b u d v → EnteredNode (p a.options) c a t d v
entered-both q c {a = a} {b = b} {d = d} t u v law place o s k' =
    let p = q a.options in
    let k : EnteredKind p c b u d v = subst (λ o. EnteredKind (q o) c b u d v) o k' in
    let still = λ (n : Place) (tells : Tells c n) (f : Fits a n t) (e : (holds_before p.conditions) n t). (still-fits p.rule law.rule).tree a b n t u place f (s.stepped n tells f e) in
    record {
      stepped = λ n tells f e. steps-trans (s.stepped n tells f e) (k.stepped n tells (still n tells f e) (s.leaves n tells f e));
      leaves = λ n tells f e. k.leaves n tells (still n tells f e) (s.leaves n tells f e);
      body = k.body ∙ s.body;
      cleared = λ n tells f e h. elim k.order as (λ _. is_construct (p.constructs h) v ≡ false) [
        | inl same ↦ clear-unless (is_construct (p.constructs h) v) (λ r.
            elim (law.placed h (kind_of v) (label_of v) (fields_of v) r) as (λ _. is_construct (p.constructs h) v ≡ false) [
              | inl by_sort ↦ subst (λ w. is_construct (p.constructs h) w ≡ false) (sym same) (s.cleared n tells f e h (subst (λ w. hook_of_sort (sort_of (kind_of w)) ≡ Some h) same by_sort))
              | inr by_kind ↦ k.cleared n tells (still n tells f e) (s.leaves n tells f e) h (subst (λ w. hook_of_kind (kind_of w) ≡ Some h) same by_kind)
            ])
        | inr own ↦ law.own h v own
      ];
    }

-- and before them that of the body of an arrow, where a pair may be opened
pub entered-node : (p : EnvOptions → Profile) (keeps : Bool) (c : Site) (names : ℕ → Text → Option ℕ) (a : Moment) {b d e : Moment} (t u v : Tree) → b ≡ opens_at c keeps t a → IsLawful (p b.options) → SamePlace b d → d.options ≡ b.options →
    EnteredSort (p b.options) c b (seen names t) d u → EnteredKind (p d.options) c d u e v → EnteredNode (p a.options) c (opens_at c keeps (seen names t) a) (seen names t) e v
entered-node p keeps c names a {b = b} {e = e} t u v opens law place o s k =
    let n : EnteredNode (p b.options) c b (seen names t) e v = entered-both p c (seen names t) u v law place o s k in
    let m : EnteredNode (p a.options) c b (seen names t) e v = subst (λ i. EnteredNode (p i) c b (seen names t) e v) (opened-options c keeps t a b opens) n in
    subst (λ x. EnteredNode (p a.options) c x (seen names t) e v) (opens ∙ sym (opens-seen c keeps names t a)) m

-- CALLS

module _ {X : Type 0} {suits : X → EnvOptions → Type 0} {tally : X → Hook → ℕ → ℕ} {entries : X → Hook → ℕ} (o : EnvOptions) (x y : X) where
  pub goes-by-sort : (r : Role) (h : Hook) → hook_of_role r ≡ Some h → Goes suits tally entries o h x y → GoesBySort suits tally entries o x y
  goes-by-sort r-Expression h e k = record { suits_still = k.suits_still; no_exit = k.no_exit; one_entry = inr (inl (subst (λ i. OneEntry i (entries x) (entries y)) (sym (same_hook e)) k.one_entry)) }
  goes-by-sort r-Statement h e k = record { suits_still = k.suits_still; no_exit = k.no_exit; one_entry = inr (inr (subst (λ i. OneEntry i (entries x) (entries y)) (sym (same_hook e)) k.one_entry)) }
  goes-by-sort Nothing h e k = absurd (none-some _ e)

  pub goes-out-by-sort : (r : Role) (h : Hook) (id : ℕ) → hook_of_role r ≡ Some h → GoesOut suits tally entries o h id x y → GoesOutBySort suits tally entries o id x y
  goes-out-by-sort r-Expression h id e k = record { suits_still = k.suits_still; one_exit = inr (inl (subst (λ i. OneExit i id (tally x) (tally y)) (sym (same_hook e)) k.one_exit)); no_entry = k.no_entry }
  goes-out-by-sort r-Statement h id e k = record { suits_still = k.suits_still; one_exit = inr (inr (subst (λ i. OneExit i id (tally x) (tally y)) (sym (same_hook e)) k.one_exit)); no_entry = k.no_entry }
  goes-out-by-sort Nothing h id e k = absurd (none-some _ e)

-- ON THE WAY OUT

pub exited-kind : (p : Profile) (h : Hook) {a b : Moment} (t u : Tree) → hook_of_kind (kind_of t) ≡ Some h → Exited p h a t b u → ExitedKind p a t b u
exited-kind p h t u e x = record { stepped = x.stepped; cleared = x.cleared e; body = x.body; none = x.none; hooks = x.hooks }

pub exited-no-kind : (p : Profile) → IsLawful p → (a : Moment) (t : Tree) → hook_of_kind (kind_of t) ≡ None → ExitedKind p a t a t
exited-no-kind p law a (node k l fs) e = record {
  stepped = λ n f k. stays;
  cleared = λ free. neither (p.late_constructs k l fs) (any_in_fields p.late_constructs fs) (clear-unless (p.late_constructs k l fs) (λ r. absurd (true≢false (sym (law.outward.placed k l fs r) ∙ ap is_some e)))) free;
  body = refl;
  none = λ test own h. h;
  hooks = omega arith;
}

pub exited-sort : (p : Profile) (h : Hook) {a b : Moment} (t u : Tree) → Exited p h a t b u → ExitedSort p a t b u
exited-sort p h t u x = record { stepped = x.stepped; body = x.body; none = x.none; hooks = x.hooks }

pub exited-no-sort : (p : Profile) (a : Moment) (t : Tree) → ExitedSort p a t a t
exited-no-sort p a t = record { stepped = λ n f k. stays; body = refl; none = λ test own h. h; hooks = omega arith }

-- by kind, by sort, and then as the body of an arrow
pub exited-node : (p : EnvOptions → Profile) (keeps : Bool) (c : Site) {a b d e : Moment} (t u v w : Tree) → IsLawful (p a.options) → SamePlace a b → SamePlace a d → b.options ≡ a.options → d.options ≡ a.options →
    ExitedKind (p a.options) a t b u → ExitedSort (p b.options) b u d v → ExitedAt c (p d.options) keeps d v e w → MakesNone (p d.options).writes v w → hooks_in v ≤ hooks_in w → ExitedNode (p a.options) keeps c a t e w
exited-node q keeps c {a = a} {b = b} {d = d} {e = e} t u v w law place place' o o' x y' z' none' more =
    let p = q a.options in
    let y : ExitedSort p b u d v = subst (λ i. ExitedSort (q i) b u d v) o y' in
    let z : ExitedAt c p keeps d v e w = subst (λ i. ExitedAt c (q i) keeps d v e w) o' z' in
    let none : MakesNone p.writes v w = subst (λ i. MakesNone (q i).writes v w) o' none' in
    record {
      moment = d;
      tree = v;
      place = place';
      stepped = λ n f k. steps-trans (x.stepped n f k) (y.stepped n ((still-fits p.rule law.rule).tree a b n t u place f (x.stepped n f k)) (carried-along p law n t u (x.stepped n f k) k));
      cleared = λ free. none p.late_constructs (λ w own. law.outward.own w own) (y.none p.late_constructs (λ w own. law.outward.own w own) (x.cleared free));
      body = y.body ∙ x.body;
      last = z;
      none = λ test own h. none test own (y.none test own (x.none test own h));
      hooks = omega (arith, x.hooks, y.hooks, more);
    }
