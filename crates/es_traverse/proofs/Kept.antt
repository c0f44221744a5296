-- What stays between two moments, and what is seen of a tree.
use Rattle.std.proofs.Common.{◌≡◌, ◌∙◌, ◌+◌, ◌≤◌, ℕ, length, refl, sym, ap, subst, arith, List, Bool, Option, None}
use Rattle.std.specs.Prelude.{true, false, not, cond, ◌&&◌}
use Rattle.es_tree.specs.Tree.{Tree, node, Fields, done, ◌then◌, Field, missing, one, many, statements, Trees, empty, ◌before◌, kind_of, label_of}
use Rattle.es_tree.specs.Words.{Text}
use Rattle.es_tree.specs.declared.ast_type.AstType.TheVariants.{FunctionBody}
use Rattle.es_tree.specs.declared.options.EnvOptions.{EnvOptions}
use Rattle.es_resolution.specs.Seen.{seen, seen_among, seen_by, seen_in}
use Rattle.es_steps.specs.Open.{Pending, is_statement_body}
use Rattle.es_visit.specs.Counts.{hooks_in, hooks_in_trees, all_hooks, total_at, total_in, own_parameters}
use Rattle.es_changes.specs.Changes.{Kept, Level}
use Rattle.es_changes.specs.Laws.{SamePlace}
use Rattle.es_changes.specs.Moments.{Moment, below, with_pair}
use Rattle.es_traverse.specs.Laws.{IsReady, KeepsBody, Seen}
use Rattle.es_traverse.specs.Visits.{opens_at}
use Rattle.es_traverse.specs.declared.site.Site.{Site}
use Rattle.es_traverse.specs.declared.site.Site.TheVariants.{ArrowBody}

-- WHAT STAYS

pub level-none : (ps : List Pending) → Level ps ps
level-none ps = record { deep = refl; outer = refl }

pub level-then : {ps qs rs : List Pending} → Level ps qs → Level qs rs → Level ps rs
level-then a b = record { deep = b.deep ∙ a.deep; outer = b.outer ∙ a.outer }

pub kept-none : (a : Moment) (w s : ℕ) → Kept a w s a w s
kept-none a w s = record { level = level-none a.lists; around = refl; options = refl; counted = omega arith; lighter = omega arith; nodes = omega arith }

pub kept-then : {a b c : Moment} {w s w' s' w'' s'' : ℕ} → Kept a w s b w' s' → Kept b w' s' c w'' s'' → Kept a w s c w'' s''
kept-then g h = record {
  level = level-then g.level h.level;
  around = h.around ∙ g.around;
  options = h.options ∙ g.options;
  counted = omega (arith, g.counted, h.counted);
  lighter = omega (arith, g.lighter, h.lighter);
  nodes = omega (arith, g.nodes, h.nodes);
}

pub same-place : {a b : Moment} {w s w' s' : ℕ} → Kept a w s b w' s' → SamePlace a b
same-place g = record { level = g.level; around = g.around }

-- what the next hook may count on
pub ready-then : {X : Type 0} {suits : X → EnvOptions → Type 0} {a b : Moment} {w s w' s' : ℕ} (x y : X) → Kept a w s b w' s' → suits y a.options → IsReady suits x a w → IsReady suits y b w'
ready-then {suits = suits} x y g h r = record {
  suited = subst (λ o. suits y o) (sym g.options) h;
  room = omega (arith, g.lighter, r.room);
  pair = omega (arith, g.level.deep, r.pair);
}

-- so much may be taken beside it
pub kept-plus : (m : ℕ) {a b : Moment} {w s w' s' : ℕ} → Kept a w s b w' s' → Kept a (w + m) s b (w' + m) s'
kept-plus m g = record { level = g.level; around = g.around; options = g.options; counted = g.counted; lighter = omega (arith, g.lighter); nodes = g.nodes }

pub kept-within : {a b : Moment} {w s w' s' : ℕ} (v v' : ℕ) → w ≤ v → v' ≤ w' → Kept a w s b w' s' → Kept a v s b v' s'
kept-within v v' l l' g = record { level = g.level; around = g.around; options = g.options; counted = g.counted; lighter = omega (arith, g.lighter, l, l'); nodes = g.nodes }

pub ready-within : {X : Type 0} {suits : X → EnvOptions → Type 0} {a : Moment} {w : ℕ} (x : X) (v : ℕ) → v ≤ w → IsReady suits x a w → IsReady suits x a v
ready-within x v l r = record { suited = r.suited; room = omega (arith, r.room, l); pair = r.pair }

-- WHAT IS SEEN

pub kind-seen : (names : ℕ → Text → Option ℕ) (t : Tree) → kind_of (seen names t) ≡ kind_of t
kind-seen names (node k l fs) = refl

pub flags-seen : (names : ℕ → Text → Option ℕ) (t : Tree) → (label_of (seen names t)).flags ≡ (label_of t).flags
flags-seen names (node k l fs) = refl

pub body-seen : (names : ℕ → Text → Option ℕ) (t : Tree) → is_statement_body (seen names t) ≡ is_statement_body t
body-seen names (node FunctionBody l fs) = refl
body-seen names (node _ l fs) = refl

-- what is kept of the bodies that are seen is kept of the bodies
pub body-unseen : (t u : Tree) → Seen KeepsBody t u → KeepsBody t u
body-unseen t u h = sym (body-seen (λ i x. None) u) ∙ h (λ i x. None) ∙ body-seen (λ i x. None) t

-- as many hooks
mutual
  pub hooks-seen : (names : ℕ → Text → Option ℕ) (t : Tree) → hooks_in (seen names t) ≡ hooks_in t
  hooks-seen names (node k l fs) = ap (λ n. 6 + own_parameters 2 k + n) (hooks-seen-in names fs)

  pub hooks-seen-in : (names : ℕ → Text → Option ℕ) (fs : Fields) → total_in all_hooks (seen_in names fs) ≡ total_in all_hooks fs
  hooks-seen-in names done = refl
  hooks-seen-in names (f then fs) = cc (hooks-seen-by names f, hooks-seen-in names fs)

  pub hooks-seen-by : (names : ℕ → Text → Option ℕ) (f : Field) → total_at all_hooks (seen_by names f) ≡ total_at all_hooks f
  hooks-seen-by names missing = refl
  hooks-seen-by names (one t) = hooks-seen names t
  hooks-seen-by names (many ts) = hooks-seen-among names ts
  hooks-seen-by names (statements ts) = ap (λ n. 2 + n) (hooks-seen-among names ts)

  pub hooks-seen-among : (names : ℕ → Text → Option ℕ) (ts : Trees) → hooks_in_trees (seen_among names ts) ≡ hooks_in_trees ts
  hooks-seen-among names empty = refl
  hooks-seen-among names (t before ts) = cc (hooks-seen names t, hooks-seen-among names ts)

-- AT A PLACE THAT MAY BE THE BODY OF AN ARROW

pub pair-options : (b : Bool) (a : Moment) → (cond b (with_pair a) a).options ≡ a.options
pair-options true a = refl
pair-options false a = refl

pub opens-options : (c : Site) (keeps : Bool) (t : Tree) (a : Moment) → (opens_at c keeps t a).options ≡ a.options
opens-options ArrowBody keeps t a = pair-options (keeps && not (is_statement_body t)) a
opens-options _ keeps t a = refl

pub opened-options : (c : Site) (keeps : Bool) (t : Tree) (a b : Moment) → b ≡ opens_at c keeps t a → b.options ≡ a.options
opened-options c keeps t a b e = ap (λ x. x.options) e ∙ opens-options c keeps t a

-- it is asked whether the node is a body of statements, and nothing else
pub opens-alike : (c : Site) (keeps : Bool) (t u : Tree) (a : Moment) → is_statement_body u ≡ is_statement_body t → opens_at c keeps u a ≡ opens_at c keeps t a
opens-alike ArrowBody keeps t u a e = ap (λ b. cond (keeps && not b) (with_pair a) a) e
opens-alike _ keeps t u a e = refl

pub opens-seen : (c : Site) (keeps : Bool) (names : ℕ → Text → Option ℕ) (t : Tree) (a : Moment) → opens_at c keeps (seen names t) a ≡ opens_at c keeps t a
opens-seen c keeps names t a = opens-alike c keeps t (seen names t) a (body-seen names t)

pub closed-pair : (o : Bool) {a b : Moment} {w s w' s' : ℕ} → Kept (cond o (with_pair a) a) w s (cond o (with_pair b) b) w' s' → Kept a w s b w' s'
closed-pair true {a = a} {b = b} g = record {
  level = record { deep = ap length g.level.outer; outer = ap below g.level.outer };
  around = g.around;
  options = g.options;
  counted = g.counted;
  lighter = omega (arith, g.lighter);
  nodes = omega (arith, g.nodes);
}
closed-pair false g = g

-- what is kept with the pair that is opened for the body is kept without it
pub kept-closed : (c : Site) (keeps : Bool) (t u : Tree) {a b : Moment} {w s w' s' : ℕ} → is_statement_body u ≡ is_statement_body t → Kept (opens_at c keeps t a) w s (opens_at c keeps u b) w' s' → Kept a w s b w' s'
kept-closed ArrowBody keeps t u {a = a} {b = b} {w = w} {s = s} {w' = w'} {s' = s'} e g = closed-pair (keeps && not (is_statement_body t)) (subst (λ x. Kept (opens_at ArrowBody keeps t a) w s x w' s') (opens-alike ArrowBody keeps t u b e) g)
kept-closed _ keeps t u e g = g
