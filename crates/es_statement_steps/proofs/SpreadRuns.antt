-- Object spread keeps runs of statements under steps, where a program gets its helpers by the object of all helpers: the copies that the rule makes are those
-- of the row that the machine knows, but for the marks of names.
use Rattle.std.proofs.Common.{◌≡◌, refl, sym, ap, subst, ◌∙◌, List, [], ◌∷◌, ◌++◌}
use Rattle.std.specs.Prelude.{Bool, true, false, not, ◌||◌, Some, None, is_some, codes}
use Rattle.es_tree.specs.Constructs.{any_kind, is_spread}
use Rattle.es_tree.specs.Scopes.{Declared, declares}
use Rattle.es_tree.specs.Tree.{Tree, node, Label, Trees, trees, empty, ◌before◌, kind_of}
use Rattle.es_tree.specs.Words.{Text}
use Rattle.es_tree.specs.declared.ast_type.AstType.{AstType}
use Rattle.es_tree.specs.declared.ast_type.AstType.TheVariants.{CallExpression, ObjectExpression}
use Rattle.es_runs.specs.Alike.{SameWorld}
use Rattle.es_runs.specs.Core.{World, is_free}
use Rattle.es_runs.specs.Runs.{made}
use Rattle.es_resolution.specs.Declarations.{Bound}
use Rattle.es_resolution.specs.Resolved.{Resolved}
use Rattle.es_steps.specs.CoreBridge.{names_among}
use Rattle.es_steps.specs.Nodes.{placed}
use Rattle.es_steps.specs.ObjectRest.{helper_node}
use Rattle.es_steps.specs.ObjectSpread.{Copies, SpreadRule, copied, last_copied}
use Rattle.es_steps.specs.ObjectSpread.Copies.{copies, keeps, no_more}
use Rattle.es_steps.specs.ObjectSpread.SpreadRule.{spreads}
use Rattle.es_steps.specs.Steps.{Site, Whole}
use Rattle.es_statement_runs.specs.Alike.{Quiet, SenseLike, StackSeen}
use Rattle.es_statement_runs.specs.Helpers.{Supply}
use Rattle.es_statement_runs.specs.Kinds.{sense}
use Rattle.es_statement_runs.specs.Laws.{Gathered, SpreadRow, among_names, bare_object, followed, object_at, spread_at, spread_call}
use Rattle.es_statement_runs.specs.Laws.Gathered.{begin_gathering, more_gathered, one_gathered}
use Rattle.es_statement_runs.specs.Laws.SpreadRow.{properties_last, spread_last}
use Rattle.es_statement_runs.specs.Places.{SupplySeen, Take, avoids, placed_at}
use Rattle.es_statement_runs.specs.Senses.{Place}
use Rattle.es_statement_runs.proofs.Moved.{is_mute}
use Rattle.es_statement_runs.proofs.Spreads.{has_global_spread, spread_like}
use Rattle.es_statement_steps.proofs.FoundNames.{Finds}
use Rattle.es_statement_steps.proofs.Replacings.{Row, RowShape}
use Rattle.es_statement_steps.proofs.Rooms.{stays_put}
use Rattle.es_statement_steps.proofs.RowRuns.{KeepsRuns, WorldsKnown, bad_temporaries, temporaries_frame}
use Rattle.es_statement_steps.proofs.SpreadParts.{is_copy, spread-copy}
use Rattle.es_statement_steps.proofs.Stands.{is_inner}
use Rattle.es_statement_steps.proofs.StepMoves.{AreNew, Fine, taken_at}

abbrev helper : Tree
helper = helper_node (codes "objectSpread2")

abbrev call_label : Label
call_label = made [] (false ∷ [])

abbrev object_label : Label
object_label = made [] []

-- LISTS

followed_empty : (ts : Trees) → followed ts empty ≡ ts
followed_empty empty = refl
followed_empty (t before ts) = ap (λ (us : Trees). t before us) (followed_empty ts)

followed_twice : (ts us vs : Trees) → followed (followed ts us) vs ≡ followed ts (followed us vs)
followed_twice empty us vs = refl
followed_twice (t before ts) us vs = ap (λ (ws : Trees). t before ws) (followed_twice ts us vs)

one_later : (ps : List Tree) (t : Tree) (ts : Trees) → followed (trees (ps ++ t ∷ [])) ts ≡ followed (trees ps) (t before ts)
one_later [] t ts = refl
one_later (p ∷ ps) t ts = ap (λ (us : Trees). p before us) (one_later ps t ts)

-- THE COPIES ARE THOSE OF THE ROW, but for the marks of the helper's name

-- two trees that say and mean the same wherever they stand
abbrev SameSense : Tree → Tree → Type 0
SameSense a b = (p : Place) → sense p a ≡ sense p b

-- what stands for these properties in the row, and what the rule makes of them
pub record AsRow (qs : Trees) (u : Tree) : Type 0 where
  pub made_so : Tree
  pub row : (t : Take) (l : Label) → SpreadRow t (object_at l qs) made_so
  pub same : SameSense u made_so

as-row : (qs rs : Trees) (u : Tree) → qs ≡ rs → AsRow qs u → AsRow rs u
as-row qs rs u e h = subst (λ (ts : Trees). AsRow ts u) e h

-- after a copy c, for which d stands in the row
after-copy : (c d u : Tree) (gs : Trees) (ps : List Tree) (ts : Trees) → Copies helper (Some c) ps ts u → Gathered gs d → SameSense c d → AsRow (followed gs (followed (trees ps) ts)) u
after-copy c d _ gs [] _ no_more g e = as-row gs (followed gs empty) c (sym (followed_empty gs)) (record { made_so = d; row = λ t l. spread_last g; same = e })
after-copy c d _ gs (p ∷ ps) _ no_more g e =
    as-row (followed gs (trees (p ∷ ps))) (followed gs (followed (trees (p ∷ ps)) empty)) (last_copied helper (Some c) (p ∷ ps)) (ap (followed gs) (sym (followed_empty (trees (p ∷ ps)))))
    (record {
      made_so = spread_call call_label (d before bare_object before object_at object_label (trees (p ∷ ps)) before empty);
      row = λ t l. properties_last l call_label object_label gs (trees (p ∷ ps)) d refl g;
      same = λ q. rw (e (Rattle.es_statement_runs.specs.Kinds.below [] [] q)) refl;
    })
after-copy c d u gs [] _ (copies {l = l} {e = e} {ts = ts} h) g s =
    as-row (followed (followed gs (spread_at l e before empty)) ts) (followed gs (spread_at l e before ts)) u (followed_twice gs (spread_at l e before empty) ts)
    (after-copy (copied helper (Some c) [] e) (spread_call call_label (d before e before empty)) u (followed gs (spread_at l e before empty)) [] ts h (one_gathered call_label l gs d e refl g) (λ q. rw (s (Rattle.es_statement_runs.specs.Kinds.below [] [] q)) refl))
after-copy c d u gs (p ∷ ps) _ (copies {l = l} {e = e} {ts = ts} h) g s =
    let os = trees (p ∷ ps) in
    as-row (followed (followed gs (followed os (spread_at l e before empty))) ts) (followed gs (followed os (spread_at l e before ts))) u (followed_twice gs (followed os (spread_at l e before empty)) ts ∙ ap (followed gs) (followed_twice os (spread_at l e before empty) ts))
    (after-copy (copied helper (Some c) (p ∷ ps) e) (spread_call call_label (d before bare_object before object_at object_label os before e before empty)) u (followed gs (followed os (spread_at l e before empty))) [] ts h
    (more_gathered call_label object_label l gs os d e refl g) (λ q. rw (s (Rattle.es_statement_runs.specs.Kinds.below [] [] q)) refl))
after-copy c d u gs ps _ (keeps {t = t} {ts = ts} k h) g s = as-row (followed gs (followed (trees (ps ++ t ∷ [])) ts)) (followed gs (followed (trees ps) (t before ts))) u (ap (followed gs) (one_later ps t ts)) (after-copy c d u gs (ps ++ t ∷ []) ts h g s)

or-later : (a b : Bool) → (a || b) ≡ true → a ≡ false → b ≡ true
or-later true b h e = absurd (cc e)
or-later false b h e = h

-- before the first copy
before-copy : (u : Tree) (ps : List Tree) (ts : Trees) → Copies helper None ps ts u → any_kind is_spread ts ≡ true → AsRow (followed (trees ps) ts) u
before-copy _ ps _ no_more some = absurd (cc some)
before-copy u ps _ (copies {l = l} {e = e} {ts = ts} h) some =
    as-row (followed (followed (trees ps) (spread_at l e before empty)) ts) (followed (trees ps) (spread_at l e before ts)) u (followed_twice (trees ps) (spread_at l e before empty) ts)
    (after-copy (copied helper None ps e) (spread_call call_label (object_at object_label (trees ps) before e before empty)) u (followed (trees ps) (spread_at l e before empty)) [] ts h (begin_gathering call_label object_label l (trees ps) e refl) (λ q. refl))
before-copy u ps _ (keeps {t = t} {ts = ts} k h) some =
    as-row (followed (trees (ps ++ t ∷ [])) ts) (followed (trees ps) (t before ts)) u (one_later ps t ts) (before-copy u (ps ++ t ∷ []) ts h (or-later (is_spread (kind_of t)) (any_kind is_spread ts) some k))

-- THE ROW

copy-shape : (k : AstType) → is_copy k ≡ true → (is_mute k ≡ true) × (is_inner k ≡ true)
copy-shape CallExpression h = (refl, refl)
copy-shape ObjectExpression h = (refl, refl)
copy-shape _ h = absurd (cc h)

placed-sense : (m : Label) (u : Tree) → SameSense (placed m u) u
placed-sense m (node k l fs) p = refl

pub spread-shape : RowShape SpreadRule
spread-shape = record { acts_on = acts; new_names = news; first = first; second = second }
  where
    acts : (n : Site) (w : Whole) (bs : List Bound) (t u : Tree) → SpreadRule n w bs t u → stays_put (kind_of t) ≡ false
    acts n w bs t u (spreads scope used some none made_so) = refl

    news : (n : Site) (w : Whole) (bs : List Bound) (t u : Tree) → SpreadRule n w bs t u → AreNew w bs
    news n w bs t u (spreads scope used some none made_so) = record { free = λ x e. absurd (cc e); names = refl }

    first : (n : Site) (w : Whole) (bs : List Bound) (t u : Tree) → SpreadRule n w bs t u → (is_mute (kind_of t) ≡ true) × (is_inner (kind_of t) ≡ true)
    first n w bs t u (spreads scope used some none made_so) = (refl, refl)

    second : (n : Site) (w : Whole) (bs : List Bound) (t u : Tree) → SpreadRule n w bs t u → (is_mute (kind_of u) ≡ true) × (is_inner (kind_of u) ≡ true)
    second n w bs t u h = copy-shape (kind_of u) (spread-copy n w bs t u h).kind

-- ITS SIDES ARE ALIKE, where the object of all helpers is unbound

spread-alike : (no_all : Bool) (supply : Supply) → has_global_spread supply ≡ true → (new : List Bound) (n : Site) (whole : Whole) (a b : Tree) → SpreadRule n whole new a b → (t : Take) → t ≡ taken_at n.above → (ds : List Declared) → Resolved n.role n.names a → Finds ds n.names → Fine a → avoids (bad_temporaries (names_among new)) t a ≡ true →
    Quiet (temporaries_frame true (names_among new)) → StackSeen (temporaries_frame true (names_among new)) → SupplySeen (temporaries_frame true (names_among new)) supply →
    (w v : World) → SameWorld (among_names (names_among new)) w v → WorldsKnown no_all true (names_among new) ds w v → (ls : List Text) (y : Text) →
    SenseLike (temporaries_frame true (names_among new)) w v t (sense (placed_at supply w ls y) a) (sense (placed_at supply v ls y) b)
spread-alike no_all supply has new n whole a _ (spreads {m = m} {ps = ps} {u = u} scope used some none made_so) t taken ds resolved found fine away quiet stack seen w v same known ls y =
    let h = before-copy u [] ps made_so some in
    let undeclared : declares ds (codes "babelHelpers") ≡ false = sym (found (codes "babelHelpers")) ∙ ap is_some scope in
    let free : is_free (v.scope (codes "babelHelpers")) ≡ true = ap is_free (same.scope (codes "babelHelpers") refl) ∙ known.bound (codes "babelHelpers") ∙ ap not undeclared in
    rw (placed-sense m u (placed_at supply v ls y), h.same (placed_at supply v ls y)) (spread_like supply has t (object_at m ps) h.made_so (h.row t m) w v same (free, known.rest) ls y)

pub spread-keeps : (no_all : Bool) (supply : Supply) → has_global_spread supply ≡ true → KeepsRuns no_all supply true (Row SpreadRule spread-shape)
spread-keeps no_all supply has = record { alike = spread-alike no_all supply has }
