-- A program, from the visit of its statements.
use Rattle.std.proofs.Common.{◌≡◌, ◌∙◌, ◌||◌, ◌∷◌, refl, sym, ap, subst, ℕ, Bool, true, false, [], List, inl, Option}
use Rattle.std.specs.Prelude.{cond, ◌&&◌, not, None}
use Rattle.es_tree.specs.Tree.{Tree, node, Label, done, ◌then◌, Field, statements, Trees, empty, ◌before◌}
use Rattle.es_tree.specs.Walks.{any_in_fields, any_in_trees}
use Rattle.es_tree.specs.declared.ast_type.AstType.TheVariants.{Program}
use Rattle.es_tree.specs.declared.ids.NodeId.{NodeId}
use Rattle.es_tree.specs.declared.options.EnvOptions.{EnvOptions}
use Rattle.es_scope.specs.declared.ancestor.Ancestor.{Ancestor}
use Rattle.es_steps.specs.Open.{is_body, list, no_additions, nothing_pending, opened_fields, opened_trees}
use Rattle.es_steps.specs.Steps.{FieldStep, Site, Step, Steps, site_in, the_program}
use Rattle.es_visit.specs.declared.hook.Hook.{Hook}
use Rattle.es_changes.specs.Changes.{Each, Kept, open_program}
use Rattle.es_changes.specs.Conditions.{AreSound, holds_after, holds_before}
use Rattle.es_changes.specs.Fits.{Fits, FitInList}
use Rattle.es_changes.specs.Laws.{SamePlace}
use Rattle.es_changes.specs.Moments.{Moment, inside_of, ledger_with, top, with_pair}
use Rattle.es_changes.proofs.ProgramLaws.{program-laws}
use Rattle.es_changes.proofs.StepRows.{steps-trans}
use Rattle.es_changes.proofs.StillFits.{still-fits}
use Rattle.es_changes.proofs.TreeLaws.{trees-laws}
use Rattle.es_traverse.proofs.Endings.{visited-program}
use Rattle.es_traverse.proofs.Kept.{kept-then}
use Rattle.es_traverse.proofs.StepInto.{rows-into, step-into}
use Rattle.es_traverse.specs.Laws.{Ending, EnteredList, ExitedList, ExitedProgram, IsLawful, IsQuiet, Profile, is_outermost, opens_list, removed_by, written_is_none}
use Rattle.es_traverse.specs.Visits.{VisitedProgram, VisitedStatements, VisitedTrees}

-- the place of a program's statements
abbrev pub program_place : NodeId → Ancestor
program_place id = record { kind = Program; field = 1; node = id }

pub opens-outer : (keeps : Bool) (a : Moment) → is_outermost a.around ≡ true → opens_list keeps a ≡ a
opens-outer keeps a e = ap (λ b. cond (keeps && not b) (with_pair a) a) e ∙ at keeps
  where
    at : (b : Bool) → cond (b && false) (with_pair a) a ≡ a
    at true = refl
    at false = refl

each-of : (n : Site) (us : Trees) → Each (λ n t. Unit {0}) n us
each-of n empty = tt
each-of n (t before ts) = (tt, each-of n ts)

no-more : (b : Bool) → b ≡ false → (b || false) ≡ false
no-more true e = e
no-more false e = refl

-- THE STATEMENTS OF A PROGRAM, between the hooks of their list

module _ (p : Profile) (keeps : Bool) (sound : AreSound p.conditions) (law : IsLawful p) (x : Ancestor) (place : x.kind ≡ Program) (field : x.field ≡ 1) (a : Moment) (l : Label) (ds : Field) (ts : Trees) (none : top a.lists ≡ nothing_pending) (fits : Fits a the_program (node Program l (ds then statements ts then done))) (after : holds_after p.conditions the_program (node Program l (ds then statements ts then done))) where
  abbrev body_site : Site
  body_site = site_in the_program Program l (opened_fields (is_body Program) (ds then statements ts then done)) 1

  at-first : FitInList (inside_of x a) body_site ts
  at-first = (program-laws p.rule law.rule).fits a l ds ts x place field fits

  each-first : Each (holds_before p.conditions) body_site ts
  each-first = (sound.inward the_program fits.sort Program l (ds then statements ts then done) fits.formed after).1.0

  module _ (b c d f : Moment) (us vs ws : Trees) (first : SamePlace (inside_of x a) b) (second : SamePlace b c) (third : SamePlace c d) (e : EnteredList p keeps (inside_of x a) ts b us) (v : VisitedTrees p b us c vs) (h : ExitedList p keeps c vs d ws) (unopened : opens_list keeps (inside_of x a) ≡ inside_of x a) (shut : opens_list keeps d ≡ d) where
    fit-entered : FitInList (opens_list keeps (inside_of x a)) body_site ts
    fit-entered = subst (λ m. FitInList m body_site ts) (sym unopened) at-first

    entered : Steps (FieldStep p.rule body_site) (ledger_with nothing_pending (inside_of x a)) (list (top (inside_of x a).lists) None no_additions (opened_trees ts)) (ledger_with nothing_pending b) (list (top b.lists) None no_additions (opened_trees us))
    entered = subst (λ m. Steps (FieldStep p.rule body_site) (ledger_with nothing_pending m) (list (top m.lists) None no_additions (opened_trees ts)) (ledger_with nothing_pending b) (list (top b.lists) None no_additions (opened_trees us))) unopened (e.stepped body_site fit-entered each-first nothing_pending)

    at-second : FitInList b body_site us
    at-second = (still-fits p.rule law.rule).list (inside_of x a) b body_site nothing_pending ts us first at-first entered

    each-second : Each (holds_before p.conditions) body_site us
    each-second = e.leaves body_site fit-entered each-first

    visited : Steps (FieldStep p.rule body_site) (ledger_with nothing_pending b) (list (top b.lists) None no_additions (opened_trees us)) (ledger_with nothing_pending c) (list (top c.lists) None no_additions (opened_trees vs))
    visited = (trees-laws p.rule law.rule).inside_steps b c body_site us vs at-second second (v.stepped body_site ((trees-laws p.rule law.rule).inside_fits b body_site us at-second) each-second) nothing_pending

    at-third : FitInList c body_site vs
    at-third = (still-fits p.rule law.rule).list b c body_site nothing_pending us vs second at-second visited

    exited : Steps (FieldStep p.rule body_site) (ledger_with nothing_pending c) (list (top c.lists) None no_additions (opened_trees vs)) (ledger_with nothing_pending d) (list (top d.lists) None no_additions (opened_trees ws))
    exited = subst (λ m. Steps (FieldStep p.rule body_site) (ledger_with nothing_pending c) (list (top c.lists) None no_additions (opened_trees vs)) (ledger_with nothing_pending m) (list (top m.lists) None no_additions (opened_trees ws))) shut (h.stepped body_site at-third (each-of body_site vs) nothing_pending)

    pub whole-steps : (left : d ≡ inside_of x f) → SamePlace a f → Steps (Step p.rule the_program) (ledger_with nothing_pending a) (open_program (top a.lists) (node Program l (ds then statements ts then done))) (ledger_with nothing_pending f) (open_program (top f.lists) (node Program l (ds then statements ws then done)))
    whole-steps left whole =
        (program-laws p.rule law.rule).steps a f l ds ts ws none fits whole
        (subst (λ m. Steps (FieldStep p.rule body_site) (ledger_with nothing_pending (inside_of x a)) (list (top a.lists) None no_additions (opened_trees ts)) (ledger_with nothing_pending m) (list (top m.lists) None no_additions (opened_trees ws))) left (steps-trans entered (steps-trans visited exited)))

    pub whole-free : (q : Option Hook) → any_in_fields (removed_by p q) (statements ws then done) ≡ false
    whole-free q = no-more (any_in_trees (removed_by p q) ws) (h.none (removed_by p q) (λ t w. written_is_none p law q t w) (v.free body_site ((trees-laws p.rule law.rule).inside_fits b body_site us at-second) each-second q))

pub visited-statements : (p : Profile) (keeps : Bool) → AreSound p.conditions → IsLawful p → (x : Ancestor) → x.kind ≡ Program → x.field ≡ 1 → (a b c d f : Moment) (l : Label) (ds : Field) (ts us vs ws : Trees) → SamePlace (inside_of x a) b → SamePlace b c → SamePlace c d → d ≡ inside_of x f → SamePlace a f →
    EnteredList p keeps (inside_of x a) ts b us → VisitedTrees p b us c vs → ExitedList p keeps c vs d ws → opens_list keeps (inside_of x a) ≡ inside_of x a → opens_list keeps d ≡ d →
    VisitedStatements p a (node Program l (ds then statements ts then done)) f (node Program l (ds then statements ws then done))
visited-statements p keeps sound law x place field a b c d f l ds ts us vs ws first second third left whole e v h unopened shut = record {
  stepped = λ none fits after. whole-steps p keeps sound law x place field a l ds ts none fits after b c d f us vs ws first second third e v h unopened shut left whole;
  directives = refl;
  free = λ none fits after. whole-free p keeps sound law x place field a l ds ts none fits after b c d f us vs ws first second third e v h unopened shut;
  visited = λ none fits after. visited-program p.rule law.rule.form a f l l ds ds ts ws none fits (whole-steps p keeps sound law x place field a l ds ts none fits after b c d f us vs ws first second third e v h unopened shut left whole);
}

-- THE WHOLE, with the hooks of the program

pub visited-whole : (P : EnvOptions → Profile) (E : EnvOptions → Ending) (keeps : Bool) → ((o : EnvOptions) → IsLawful (P o)) → (a m b c : Moment) (t u w : Tree) → m ≡ a → b.options ≡ m.options → VisitedStatements (P m.options) m t b u → ExitedProgram (P b.options) (E b.options) keeps b u c w → VisitedProgram (P a.options) (E a.options) a t c w
visited-whole P E keeps law a m b c t u w e options v' x' =
    let p = P a.options in
    let v : VisitedStatements p a t b u = subst (λ q. VisitedStatements (P q.options) q t b u) e v' in
    let x : ExitedProgram p (E a.options) keeps b u c w = subst (λ o. ExitedProgram (P o) (E o) keeps b u c w) (options ∙ ap (λ (q : Moment). q.options) e) x' in
    record {
      stepped = λ none fits after. steps-trans (rows-into (λ s s' x y. step-into (λ n s s' x y h. inl h)) (v.stepped none fits after)) (x.stepped (v.visited none fits after));
      directives = x.directives ∙ v.directives;
      free = λ none fits after h. x.none (removed_by p h) (λ t w. written_is_none p (law a.options) h t w) (v.free none fits after h);
      cleared = λ none fits after. x.cleared (v.visited none fits after);
    }

pub left-empty : (p : Profile) (e : Ending) (keeps : Bool) {b c : Moment} {u w : Tree} → IsQuiet keeps c.lists → ExitedProgram p e keeps b u c w → top c.lists ≡ nothing_pending
left-empty p e true quiet x = x.finished refl
left-empty p e false quiet x = ap top (quiet refl)

-- WHAT STAYS

opens-around : (keeps : Bool) (a : Moment) → (opens_list keeps a).around ≡ a.around
opens-around keeps a = at (keeps && not (is_outermost a.around))
  where
    at : (b : Bool) → (cond b (with_pair a) a).around ≡ a.around
    at true = refl
    at false = refl

abbrev rest : List Ancestor → List Ancestor
rest [] = []
rest (x ∷ xs) = xs

-- The moments of a program's list: before its enter hook, after it, after the visit, after its exit hook, and outside of it.

pub outer-first : (keeps : Bool) (id : NodeId) {a m : Moment} → m ≡ inside_of (program_place id) a → a.around ≡ [] → opens_list keeps m ≡ m
outer-first keeps id {m = m} into at_top = opens-outer keeps m (ap (λ (q : Moment). is_outermost q.around) into ∙ ap (λ ys. is_outermost (program_place id ∷ ys)) at_top)

pub kept-first : (keeps : Bool) (id : NodeId) {a m b : Moment} {w s w' s' : ℕ} → m ≡ inside_of (program_place id) a → a.around ≡ [] → Kept (opens_list keeps m) w s b w' s' → Kept m w s b w' s'
kept-first keeps id {b = b} {w = w} {s = s} {w' = w'} {s' = s'} into at_top first = subst (λ q. Kept q w s b w' s') (outer-first keeps id into at_top) first

around-last : (keeps : Bool) (id : NodeId) (d : Moment) {a m b c : Moment} {w s w' s' w'' s'' w3 s3 : ℕ} → m ≡ inside_of (program_place id) a → a.around ≡ [] → Kept (opens_list keeps m) w s b w' s' → Kept b w' s' c w'' s'' → Kept c w'' s'' (opens_list keeps d) w3 s3 → d.around ≡ program_place id ∷ []
around-last keeps id d into at_top first second third =
    sym (opens-around keeps d) ∙ (third.around ∙ (second.around ∙ ((kept-first keeps id into at_top first).around ∙ (ap (λ (q : Moment). q.around) into ∙ ap (λ ys. program_place id ∷ ys) at_top))))

pub outer-last : (keeps : Bool) (id : NodeId) (d : Moment) {a m b c : Moment} {w s w' s' w'' s'' w3 s3 : ℕ} → m ≡ inside_of (program_place id) a → a.around ≡ [] → Kept (opens_list keeps m) w s b w' s' → Kept b w' s' c w'' s'' → Kept c w'' s'' (opens_list keeps d) w3 s3 → opens_list keeps d ≡ d
outer-last keeps id d into at_top first second third = opens-outer keeps d (ap is_outermost (around-last keeps id d into at_top first second third))

pub kept-last : (keeps : Bool) (id : NodeId) (d : Moment) {a m b c : Moment} {w s w' s' w'' s'' w3 s3 : ℕ} → m ≡ inside_of (program_place id) a → a.around ≡ [] → Kept (opens_list keeps m) w s b w' s' → Kept b w' s' c w'' s'' → Kept c w'' s'' (opens_list keeps d) w3 s3 → Kept c w'' s'' d w3 s3
kept-last keeps id d {c = c} {w'' = w''} {s'' = s''} {w3 = w3} {s3 = s3} into at_top first second third = subst (λ q. Kept c w'' s'' q w3 s3) (outer-last keeps id d into at_top first second third) third

pub kept-whole : (keeps : Bool) (id : NodeId) (d : Moment) {a m b c f : Moment} {w s w' s' w'' s'' w3 s3 : ℕ} → m ≡ inside_of (program_place id) a → a.around ≡ [] → Kept (opens_list keeps m) w s b w' s' → Kept b w' s' c w'' s'' → Kept c w'' s'' (opens_list keeps d) w3 s3 → d ≡ inside_of (program_place id) f → Kept a w s f w3 s3
kept-whole keeps id d {a = a} {m = m} {f = f} {w = w} {s = s} {w3 = w3} {s3 = s3} into at_top first second third out =
    let all : Kept m w s d w3 s3 = kept-then (kept-first keeps id into at_top first) (kept-then second (kept-last keeps id d into at_top first second third)) in
    let here : Kept (inside_of (program_place id) a) w s (inside_of (program_place id) f) w3 s3 = subst (λ q. Kept (inside_of (program_place id) a) w s q w3 s3) out (subst (λ q. Kept q w s d w3 s3) into all) in
    record { level = here.level; around = ap rest here.around; options = here.options; counted = here.counted; lighter = here.lighter; nodes = here.nodes }
