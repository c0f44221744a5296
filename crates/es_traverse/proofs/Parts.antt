-- What stands in a field, and lists of parameters and of statements, between the hooks of the list.
use Rattle.std.proofs.Common.{◌≡◌, ◌∙◌, ◌≤◌, ◌<◌, ◌+◌, refl, sym, ap, subst, arith, ℕ, length, List, [], ◌∷◌, Bool, true, false}
use Rattle.std.specs.Prelude.{cond, not, ◌&&◌}
use Rattle.es_tree.specs.Tree.{Tree, node, Label, Fields, fields_size, tree_size, missing, one, many, statements, Trees, empty, ◌before◌}
use Rattle.es_tree.specs.declared.ast_type.AstType.{AstType}
use Rattle.es_tree.specs.declared.options.EnvOptions.{EnvOptions}
use Rattle.es_runs.specs.Weights.{fields_weight, weight}
use Rattle.es_scope.specs.declared.ancestor.Ancestor.{Ancestor}
use Rattle.es_semantic.specs.RolesOf.{reads}
use Rattle.es_semantic.specs.declared.place.Role.{Role}
use Rattle.es_resolution.specs.Resolved.{own_of}
use Rattle.es_steps.specs.Open.{is_statement_body}
use Rattle.es_steps.specs.Steps.{Site}
use Rattle.es_steps.specs.Steps.Steps.{stays}
use Rattle.es_changes.specs.Changes.{Each, Kept, ListStepped, heft}
use Rattle.es_changes.specs.Conditions.{holds_before}
use Rattle.es_changes.specs.Fits.{FitInList}
use Rattle.es_changes.specs.Laws.{LawsOfField, SamePlace}
use Rattle.es_changes.specs.Moments.{Moment, ledger_at, top, with_pair}
use Rattle.es_changes.proofs.InField.{field-laws}
use Rattle.es_changes.proofs.StepRows.{steps-trans}
use Rattle.es_changes.proofs.StillFits.{still-fits}
use Rattle.es_changes.proofs.TreeLaws.{trees-laws}
use Rattle.es_traverse.specs.Laws.{EnteredList, EnteredParameters, ExitedList, ExitedParameters, IsLawful, IsQuiet, IsReady, LeavesEach, Profile, anything, is_outermost, opens_list, removed_by, written_is_none}
use Rattle.es_traverse.specs.Loads.{fields_load, load, own_allowance}
use Rattle.es_traverse.specs.Visits.{VisitedAt, VisitedField, VisitedList, VisitedTrees, opens_at}
use Rattle.es_traverse.specs.declared.site.Site.{Site as CodeSite}
use Rattle.es_traverse.specs.declared.site.Site.TheVariants.{ArrowBody}
use Rattle.es_traverse.specs.Sites.{is_arrow_body}
use Rattle.es_traverse.proofs.ClassNames.{own-row, reads-own}
use Rattle.es_traverse.proofs.Kept.{closed-pair, kept-then, pair-options, same-place}
use Rattle.es_traverse.proofs.LoadParts.{own-same}
use Rattle.es_traverse.proofs.Pairs.{paired, paired-list, paired-steps}

-- WHAT THE NEXT PART MAY COUNT ON, where a pair may have been opened

pub record Inside (a : Moment) (w : ℕ) (b : Moment) (w' : ℕ) : Type 0 where
  pub lighter : heft b + w' ≤ heft a + w
  pub around : b.around ≡ a.around
  pub options : b.options ≡ a.options
  pub pairs : length a.lists ≤ length b.lists

pub inside-pair : (o : Bool) {a b : Moment} {w s w' s' : ℕ} → Kept (cond o (with_pair a) a) w s b w' s' → Inside a w b w'
inside-pair true g = record { lighter = omega (arith, g.lighter); around = g.around; options = g.options; pairs = omega (arith, g.level.deep) }
inside-pair false g = record { lighter = g.lighter; around = g.around; options = g.options; pairs = omega (arith, g.level.deep) }

pub inside-opened : (c : CodeSite) (keeps : Bool) (t : Tree) {a b : Moment} {w s w' s' : ℕ} → Kept (opens_at c keeps t a) w s b w' s' → Inside a w b w'
inside-opened ArrowBody keeps t g = inside-pair (keeps && not (is_statement_body t)) g
inside-opened _ keeps t g = inside-pair false g

pub inside-list : (keeps : Bool) (a : Moment) {b : Moment} {w s w' s' : ℕ} → Kept (opens_list keeps a) w s b w' s' → Inside a w b w'
inside-list keeps a g = inside-pair (keeps && not (is_outermost a.around)) g

pub inside-then : {a b c : Moment} {w w' w'' s' s'' : ℕ} → Inside a w b w' → Kept b w' s' c w'' s'' → Inside a w c w''
inside-then g h = record { lighter = omega (arith, g.lighter, h.lighter); around = h.around ∙ g.around; options = h.options ∙ g.options; pairs = omega (arith, g.pairs, h.level.deep) }

pub ready-inside : {X : Type 0} {suits : X → EnvOptions → Type 0} {a b : Moment} {w w' : ℕ} (x y : X) (v : ℕ) → v ≤ w' → Inside a w b w' → suits y a.options → IsReady suits x a w → IsReady suits y b v
ready-inside {suits = suits} x y v l g h r = record {
  suited = subst (λ o. suits y o) (sym g.options) h;
  room = omega (arith, g.lighter, r.room, l);
  pair = omega (arith, g.pairs, r.pair);
}

-- A NODE by its fields

pub kept-node : (k : AstType) (l : Label) (fs gs : Fields) {a b : Moment} → Kept a (fields_load fs + own_allowance k) (fields_size fs) b (fields_weight gs) (fields_size gs) → Kept a (load (node k l fs)) (tree_size (node k l fs)) b (weight (node k l gs)) (tree_size (node k l gs))
kept-node k l fs gs h = record {
  level = h.level;
  around = h.around;
  options = h.options;
  counted = h.counted;
  lighter = omega (arith, h.lighter, own-same k l fs gs);
  nodes = omega (arith, h.nodes);
}

-- the same of what a node is seen as
pub kept-viewed : (m : ℕ) (v u : Tree) → v ≡ u → {a b : Moment} {w s : ℕ} → Kept a w s b (load u + m) (tree_size u) → Kept a w s b (load v + m) (tree_size v)
kept-viewed m v u e {a = a} {b = b} {w = w} {s = s} h = subst (λ x. Kept a w s b (load x + m) (tree_size x)) (sym e) h

-- FIELDS

-- the body of an arrow declares nothing around it
arrow-own : (r : Role) → r ≡ reads → (t u : Tree) → own_of r u ≡ own_of r t
arrow-own r e t u = ap (λ (z : Role). own_of z u) e ∙ (reads-own u ∙ sym (ap (λ (z : Role). own_of z t) e ∙ reads-own t))

module _ (p : Profile) (law : IsLawful p) where
  laws : LawsOfField p.rule
  laws = field-laws p.rule law.rule

  pub visited-missing : (c : CodeSite) (a : Moment) → VisitedField p c a missing a missing
  visited-missing c a = record { stepped = λ n tells fit known. stays; free = λ n tells fit known h. refl; own = λ n tells fit known. refl }

  pub visited-one : (c : CodeSite) {a b : Moment} (t u : Tree) → VisitedAt c p a t b u → VisitedField p c a (one t) b (one u)
  visited-one ArrowBody t u v = record { stepped = λ n tells fit known. v.stepped n fit known; free = λ n tells fit known h. v.free n fit known h; own = λ n tells fit known. arrow-own n.role (fit.role refl) t u }
  visited-one c {a = a} {b = b} t u v = record {
    stepped = λ n tells fit known. laws.one_steps n (ledger_at a) (ledger_at b) t u (v.stepped n tells (laws.one_fits a n t fit) known);
    free = λ n tells fit known h. v.free n tells (laws.one_fits a n t fit) known h;
    own = λ n tells fit known. own-row p.rule law.rule a b n t u (laws.one_fits a n t fit) (v.stepped n tells (laws.one_fits a n t fit) known);
  }

  pub visited-many : (c : CodeSite) {a b : Moment} (ts us : Trees) → VisitedTrees p a ts b us → VisitedField p c a (many ts) b (many us)
  visited-many c {a = a} {b = b} ts us v = record {
    stepped = λ n tells fit known. laws.many_step n (is_arrow_body c) (ledger_at a) (ledger_at b) ts us (v.stepped n (laws.many_fit a n (is_arrow_body c) ts fit) known);
    free = λ n tells fit known h. v.free n (laws.many_fit a n (is_arrow_body c) ts fit) known h;
    own = λ n tells fit known. refl;
  }

  pub visited-statements : (c : CodeSite) {a b : Moment} (ts us : Trees) → VisitedList p a ts b us → VisitedField p c a (statements ts) b (statements us)
  visited-statements c {a = a} ts us v = record {
    stepped = λ n tells fit known. v.stepped n ((trees-laws p.rule law.rule).list_fits a n (is_arrow_body c) ts fit) known;
    free = λ n tells fit known h. v.free n ((trees-laws p.rule law.rule).list_fits a n (is_arrow_body c) ts fit) known h;
    own = λ n tells fit known. refl;
  }

-- LISTS

each-anything : (n : Site) (ts : Trees) → Each anything n ts
each-anything n empty = tt
each-anything n (t before ts) = (tt, each-anything n ts)

pub visited-parameters : (P : EnvOptions → Profile) {a b c d : Moment} (ts us vs ws : Trees) → IsLawful (P a.options) → SamePlace a b → SamePlace b c → b.options ≡ a.options → c.options ≡ a.options →
    EnteredParameters (P a.options) a ts b us → VisitedTrees (P b.options) b us c vs → ExitedParameters (P c.options) c vs d ws → VisitedTrees (P a.options) a ts d ws
visited-parameters P {a = a} {b = b} {c = c} {d = d} ts us vs ws law first second o o' e v' x' =
    let p = P a.options in
    let v : VisitedTrees p b us c vs = subst (λ q. VisitedTrees (P q) b us c vs) o v' in
    let x : ExitedParameters p c vs d ws = subst (λ q. ExitedParameters (P q) c vs d ws) o' x' in
    let still = still-fits p.rule law.rule in
    record {
      stepped = λ n fit known.
          let at_b = still.trees a b n ts us first fit (e.stepped n fit known) in
          let inside = v.stepped n at_b (e.leaves n fit known) in
          steps-trans (e.stepped n fit known) (steps-trans inside (x.stepped n (still.trees b c n us vs second at_b inside) (each-anything n vs)));
      free = λ n fit known h. x.none (removed_by p h) (λ t own. written_is_none p law h t own) (v.free n (still.trees a b n ts us first fit (e.stepped n fit known)) (e.leaves n fit known) h);
    }

inner : (xs : List Ancestor) → 1 < length xs → is_outermost xs ≡ false
inner [] h = absurd (omega (arith, h))
inner (x ∷ []) h = absurd (omega (arith, h))
inner (x ∷ y ∷ xs) h = refl

opens-inner : (keeps : Bool) (a : Moment) → 1 < length a.around → opens_list keeps a ≡ paired keeps a
opens-inner true a h = ap (λ b. cond (true && not b) (with_pair a) a) (inner a.around h)
opens-inner false a h = refl

list-around : (keeps : Bool) (a : Moment) → (opens_list keeps a).around ≡ a.around
list-around keeps a = at (keeps && not (is_outermost a.around)) where
  at : (b : Bool) → (cond b (with_pair a) a).around ≡ a.around
  at true = refl
  at false = refl

-- the pair of a list is closed as it was opened
record Pairs (keeps : Bool) (a : Moment) (w s : ℕ) (d : Moment) (u z : ℕ) : Type 0 where
  closed : opens_list keeps d ≡ paired keeps d
  kept : Kept (paired keeps a) w s (paired keeps d) u z

-- a list that isn't the program's, with a pair of its own
module _ (keeps : Bool) (a d : Moment) {b c : Moment} (deep : 1 < length a.around) {w s v r q o u z : ℕ} (g : Kept (opens_list keeps a) w s b v r) (h : Kept b v r c q o) (k : Kept c q o (opens_list keeps d) u z) where
  kept-pairs : Pairs keeps a w s d u z
  kept-pairs =
      let far : d.around ≡ a.around = sym (list-around keeps d) ∙ (k.around ∙ (h.around ∙ (g.around ∙ list-around keeps a))) in
      let closed : opens_list keeps d ≡ paired keeps d = opens-inner keeps d (omega (arith, deep, ap length far)) in
      record { closed = closed; kept = subst (λ y. Kept y w s (paired keeps d) u z) (opens-inner keeps a deep) (subst (λ y. Kept (opens_list keeps a) w s y u z) closed (kept-then g (kept-then h k))) }

  pub kept-list : Kept a w s d u z
  kept-list = closed-pair keeps kept-pairs.kept

  pub visited-list : IsQuiet keeps a.lists → IsQuiet keeps d.lists → (P : EnvOptions → Profile) (ts us vs ws : Trees) → IsLawful (P a.options) → EnteredList (P a.options) keeps a ts b us → VisitedTrees (P b.options) b us c vs → ExitedList (P c.options) keeps c vs d ws → VisitedList (P a.options) a ts d ws
  visited-list quiet quiet' P ts us vs ws law x v' y' =
      let p = P a.options in
      let opened = opens-inner keeps a deep in
      let same : b.options ≡ a.options = g.options ∙ pair-options (keeps && not (is_outermost a.around)) a in
      let v : VisitedTrees p b us c vs = subst (λ i. VisitedTrees (P i) b us c vs) same v' in
      let y : ExitedList p keeps c vs d ws = subst (λ i. ExitedList (P i) keeps c vs d ws) (h.options ∙ same) y' in
      let entered : ListStepped p.rule (Each (holds_before p.conditions)) (paired keeps a) ts b us = subst (λ y. ListStepped p.rule (Each (holds_before p.conditions)) y ts b us) opened x.stepped in
      let leaves : LeavesEach (FitInList (paired keeps a)) (holds_before p.conditions) (holds_before p.conditions) ts us = subst (λ y. LeavesEach (FitInList y) (holds_before p.conditions) (holds_before p.conditions) ts us) opened x.leaves in
      let exited : ListStepped p.rule (Each anything) c vs (paired keeps d) ws = subst (λ y. ListStepped p.rule (Each anything) c vs y ws) kept-pairs.closed y.stepped in
      let at_first : SamePlace (paired keeps a) b = subst (λ y. SamePlace y b) opened (same-place g) in
      let still = still-fits p.rule law.rule in
      let trees = trees-laws p.rule law.rule in
      let around = top a.lists in
      record {
        stepped = λ n fits known.
            let fit = paired-list keeps a n ts fits in
            let at_b = still.list (paired keeps a) b n around ts us at_first fit (entered n fit known around) in
            let inside = trees.inside_steps b c n us vs at_b (same-place h) (v.stepped n (trees.inside_fits b n us at_b) (leaves n fit known)) around in
            let at_c = still.list b c n around us vs (same-place h) at_b inside in
            paired-steps keeps n a d ts ws quiet quiet' kept-pairs.kept.level (steps-trans (entered n fit known around) (steps-trans inside (exited n at_c (each-anything n vs) around)));
        free = λ n fits known i.
            let fit = paired-list keeps a n ts fits in
            let at_b = still.list (paired keeps a) b n around ts us at_first fit (entered n fit known around) in
            y.none (removed_by p i) (λ t own. written_is_none p law i t own) (v.free n (trees.inside_fits b n us at_b) (leaves n fit known) i);
      }
