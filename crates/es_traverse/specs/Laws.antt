-- What a lawful type states of itself, and what its hooks promise.
use Rattle.std.proofs.Common.{sym, ◌∙◌, true≢false}
use Rattle.std.specs.Prelude.{◌≡◌, refl, is_some, ◌⊎◌, ℕ, ◌+◌, ◌<◌, ◌≤◌, ◌||◌, ◌&&◌, Bool, true, false, not, cond, Option, Some, None, List, [], ◌∷◌, length}
use Rattle.es_tree.specs.HasForm.{has_form}
use Rattle.es_tree.specs.Tree.{Tree, node, Label, Fields, done, ◌then◌, one, Trees, kind_of, label_of, fields_of, tree_size, trees_size}
use Rattle.es_tree.specs.Walks.{any_node, any_in_fields, any_in_trees}
use Rattle.es_tree.specs.Words.{Text}
use Rattle.es_tree.specs.declared.ast_type.AstType.{AstType}
use Rattle.es_tree.specs.declared.options.EnvOptions.{EnvOptions}
use Rattle.es_tree.specs.declared.table.Sort.TheVariants.{Program as s-Program}
use Rattle.es_scope.specs.declared.ancestor.Ancestor.{Ancestor}
use Rattle.es_resolution.specs.Seen.{seen, seen_among}
use Rattle.es_runs.specs.Weights.{weight, trees_weight}
use Rattle.es_steps.specs.Open.{Pending, nothing_pending, Open, OpenFields, body, finished, finished_fields, is_body, is_statement_body, opened, opened_field}
use Rattle.es_steps.specs.Rules.{either_rule}
use Rattle.es_steps.proofs.FormLists.{IsPlain}
use Rattle.es_steps.specs.Steps.{Ledger, Site, Spot, FieldsStep, FieldStep, Step, Steps, site_in, the_program}
use Rattle.es_visit.specs.declared.hook.Hook.{Hook}
use Rattle.es_visit.specs.declared.hook.Hook.TheVariants.{Expression, Statement}
use Rattle.es_visit.specs.Hooks.{hook_of_kind, hook_of_sort, sort_of, IsHooked}
use Rattle.es_visit.specs.Counts.{hooks_in, hooks_in_trees}
use Rattle.es_changes.specs.Changes.{Each, HasRoom, Kept, ListStepped, open_program, Stepped, TreesStepped}
use Rattle.es_traverse.specs.Bodies.{BodiesStandIn}
use Rattle.es_traverse.specs.Listed.{any_listed}
use Rattle.es_traverse.specs.Loads.{load, trees_load}
use Rattle.es_traverse.specs.Sites.{Tells}
use Rattle.es_traverse.specs.declared.site.Site.{Site as CodeSite}
use Rattle.es_changes.specs.Conditions.{AreSound, Conditions, holds_after, holds_before}
use Rattle.es_changes.specs.Fits.{Fits, FitAll, FitInList, FitsInBody}
use Rattle.es_changes.specs.Moments.{Moment, below, ledger_at, ledger_with, top, with_pair}
use Rattle.es_changes.specs.Rules.{IsLawfulRule}

-- What a type states of itself under some options: its rule; the conditions of the visit, and what its hook before an expression counts on
-- of it and leaves; for each hook before a node the constructs that it removes, as a test of a node, and those that a hook after a node
-- removes, by its kind; what such a hook counts on; what the type puts in the place of a node on the way in, and what it puts or writes
-- later.
pub record Profile : Type 1 where
  pub rule : Site → Ledger → Spot → Ledger → Spot → Type 0
  pub conditions : Conditions
  pub counts : Site → Tree → Bool
  pub leaves : Site → Tree → Bool
  pub constructs : Hook → AstType → Label → Fields → Bool
  pub late_constructs : AstType → Label → Fields → Bool
  pub counts_after : Site → Tree → Bool
  pub makes : Tree → Type 0
  pub writes : Tree → Type 0

-- the constructs that a hook before a node removes, or those that one after a node does
abbrev pub removed_by : Profile → Option Hook → AstType → Label → Fields → Bool
removed_by p (Some h) = p.constructs h
removed_by p None = p.late_constructs

-- a type that acts after no node removes none there, and counts on nothing
abbrev pub no_construct : AstType → Label → Fields → Bool
no_construct k l fs = false

abbrev pub whatever_it_is : Site → Tree → Bool
whatever_it_is n t = true

-- what a test knows
abbrev pub Known : (Site → Tree → Bool) → Site → Tree → Type 0
Known test n t = test n t ≡ true

-- whether a node is a construct
abbrev pub is_construct : (AstType → Label → Fields → Bool) → Tree → Bool
is_construct constructs t = constructs (kind_of t) (label_of t) (fields_of t)

-- LAWS OF A TYPE

-- steps among the fields of a node, each at the site that its field had at first, make it no construct
abbrev pub IsStable : (Site → Ledger → Spot → Ledger → Spot → Type 0) → (AstType → Label → Fields → Bool) → Type 0
IsStable R constructs = (n : Site) (s s' : Ledger) (k : AstType) (l : Label) (first fs gs : OpenFields) → BodiesStandIn (is_body k) fs → FieldsStep R (site_in n k l first) s fs s' gs → constructs k l (finished_fields fs) ≡ false → constructs k l (finished_fields gs) ≡ false

-- After nodes: a construct that is removed there has a hook by its kind, and what is written is none; what the hooks count on is known of a
-- node before it is visited, and each step keeps it.
pub record IsOutward (profile : Profile) : Type 0 where
  pub placed : (k : AstType) (l : Label) (fs : Fields) → profile.late_constructs k l fs ≡ true → is_some (hook_of_kind k) ≡ true
  pub own : (t : Tree) → profile.writes t → is_construct profile.late_constructs t ≡ false
  pub known : (n : Site) (t : Tree) → holds_before profile.conditions n t → profile.counts_after n t ≡ true
  pub carried : (n : Site) (s s' : Ledger) (x y : Open) → Step profile.rule n s x s' y → profile.counts_after n (finished x) ≡ true → profile.counts_after n (finished y) ≡ true

-- so it is of a type that acts after no node
pub acts_inward : (p : Profile) → ((k : AstType) (l : Label) (fs : Fields) → p.late_constructs k l fs ≡ false) → ((n : Site) (t : Tree) → p.counts_after n t ≡ true) → IsOutward p
acts_inward p none all = record {
  placed = λ k l fs e. absurd (true≢false (sym e ∙ none k l fs));
  own = λ t w. none (kind_of t) (label_of t) (fields_of t);
  known = λ n t h. all n t;
  carried = λ n s s' x y h k. all n (finished y);
}

pub record IsLawful (profile : Profile) : Type 0 where
  pub rule : IsLawfulRule profile.rule
  pub stable : (h : Hook) → IsStable profile.rule (profile.constructs h)
  -- a node that is a construct gets the hook that removes it
  pub placed : (h : Hook) (k : AstType) (l : Label) (fs : Fields) → profile.constructs h k l fs ≡ true → IsHooked h k
  -- what is written is no construct
  pub own : (h : Hook) (t : Tree) → profile.writes t → is_construct (profile.constructs h) t ≡ false
  pub outward : IsOutward profile

-- what is written is none of either time
pub written_is_none : (p : Profile) → IsLawful p → (h : Option Hook) (t : Tree) → p.writes t → is_construct (removed_by p h) t ≡ false
written_is_none p law (Some h) t w = law.own h t w
written_is_none p law None t w = law.outward.own t w

-- what a hook may count on in its code: the type has the settings of these options, there is room for ids, and a pair is open
pub record IsReady {X : Type 0} (suits : X → EnvOptions → Type 0) (x : X) (a : Moment) (weight : ℕ) : Type 0 where
  pub suited : suits x a.options
  pub room : HasRoom a weight
  pub pair : 0 < length a.lists

-- A PART as it was and as it is: the sum of weights, pending and ids, and what is seen of it with the symbols of its names, whatever
-- scopes bind

abbrev pub KeptTree : Moment → Tree → Moment → Tree → Type 0
KeptTree a t b u = Kept a (weight t) (tree_size t) b (weight u) (tree_size u)

abbrev pub KeptTrees : Moment → Trees → Moment → Trees → Type 0
KeptTrees a ts b us = Kept a (trees_weight ts) (trees_size ts) b (trees_weight us) (trees_size us)

-- the same of their loads; before it so much more may be taken
abbrev pub KeptLoad : ℕ → Moment → Tree → Moment → Tree → Type 0
KeptLoad more a t b u = Kept a (load t + more) (tree_size t) b (load u) (tree_size u)

abbrev pub KeptLoads : Moment → Trees → Moment → Trees → Type 0
KeptLoads a ts b us = Kept a (trees_load ts) (trees_size ts) b (trees_load us) (trees_size us)

-- a visit leads from the load of a part to the weight of what it leaves
abbrev pub KeptVisited : ℕ → Moment → Tree → Moment → Tree → Type 0
KeptVisited more a t b u = Kept a (load t + more) (tree_size t) b (weight u) (tree_size u)

abbrev pub KeptVisitedTrees : Moment → Trees → Moment → Trees → Type 0
KeptVisitedTrees a ts b us = Kept a (trees_load ts) (trees_size ts) b (trees_weight us) (trees_size us)

abbrev pub Seen : (Tree → Tree → Type 0) → Tree → Tree → Type 0
Seen P t u = (names : ℕ → Text → Option ℕ) → P (seen names t) (seen names u)

abbrev pub SeenAmong : (Trees → Trees → Type 0) → Trees → Trees → Type 0
SeenAmong P ts us = (names : ℕ → Text → Option ℕ) → P (seen_among names ts) (seen_among names us)

-- HOOKS ON NODES, before what stands inside

-- the hook that a node gets by its sort wherever it stands is this one, or one that the node before it got so
abbrev pub KeepsSort : Hook → Tree → Tree → Type 0
KeepsSort hook t u = (h : Hook) → hook_of_sort (sort_of (kind_of u)) ≡ Some h → (hook_of_sort (sort_of (kind_of t)) ≡ Some h) ⊎ (h ≡ hook)

-- a body of statements stays one, and nothing else becomes one
abbrev pub KeepsBody : Tree → Tree → Type 0
KeepsBody t u = is_statement_body u ≡ is_statement_body t

-- what a hook leaves of each node of a list
abbrev pub LeavesEach : (Site → Trees → Type 0) → (Site → Tree → Type 0) → (Site → Tree → Type 0) → Trees → Trees → Type 0
LeavesEach fits counts leaves ts us = (n : Site) → fits n ts → Each counts n ts → Each leaves n us

-- By the sort of the node, wherever it fits at such a site and so much is known of it.
pub record Entered (profile : Profile) (counts leaves : Site → Tree → Type 0) (hook : Hook) (tells : Site → Type 0) (a : Moment) (t : Tree) (b : Moment) (u : Tree) : Type 0 where
  pub stepped : (n : Site) → tells n → Fits a n t → counts n t → Steps (Step profile.rule n) (ledger_at a) (opened t) (ledger_at b) (opened u)
  pub left : (n : Site) → tells n → Fits a n t → counts n t → leaves n u
  pub cleared : (n : Site) → tells n → Fits a n t → counts n t → is_construct (profile.constructs hook) u ≡ false
  pub sort : KeepsSort hook t u
  pub body : KeepsBody t u
  pub order : (u ≡ t) ⊎ profile.makes u

-- by its kind, after its sort
pub record Settled (profile : Profile) (hook : Hook) (tells : Site → Type 0) (a : Moment) (t : Tree) (b : Moment) (u : Tree) : Type 0 where
  pub stepped : (n : Site) → tells n → Fits a n t → holds_after profile.conditions n t → Steps (Step profile.rule n) (ledger_at a) (opened t) (ledger_at b) (opened u)
  pub left : (n : Site) → tells n → Fits a n t → holds_after profile.conditions n t → holds_after profile.conditions n u
  pub cleared : (n : Site) → tells n → Fits a n t → holds_after profile.conditions n t → is_construct (profile.constructs hook) u ≡ false
  pub body : KeepsBody t u
  pub order : (u ≡ t) ⊎ profile.writes u

-- By this hook, at a place of which so much is told. Of a statement the second condition is known before it.
abbrev pub EnteredWhere : Profile → Hook → (Site → Type 0) → Moment → Tree → Moment → Tree → Type 0
EnteredWhere p Expression tells a t b u = Entered p (Known p.counts) (Known p.leaves) Expression tells a t b u
EnteredWhere p Statement tells a t b u = Entered p (holds_after p.conditions) (holds_after p.conditions) Statement tells a t b u
EnteredWhere p h tells a t b u = Settled p h tells a t b u

-- at a place of which the code knows so much
abbrev pub EnteredAs : Profile → Hook → CodeSite → Moment → Tree → Moment → Tree → Type 0
EnteredAs p h c a t b u = EnteredWhere p h (Tells c) a t b u

-- whatever the site
abbrev pub anywhere : Site → Type 0
anywhere n = Unit {0}

-- A type that acts at one hook alone has constructs of no other one.
abbrev pub OnlyAt : Hook → Profile → Type 0
OnlyAt hook p = (h : Hook) → (h ≡ hook → ⊥) → (k : AstType) (l : Label) (fs : Fields) → p.constructs h k l fs ≡ false

-- A type that does nothing before expressions leaves as much as it counts on.
abbrev pub PassesOn : Profile → Type 0
PassesOn p = (n : Site) (t : Tree) → p.counts n t ≡ true → p.leaves n t ≡ true

-- one that acts before expressions owes nothing of it
pub acts_there : (p : Profile) → (Expression ≡ Expression → ⊥) → PassesOn p
acts_there p other = absurd (other refl)

-- MOMENTS OF BODIES AND LISTS

-- A type that keeps the pairs opens one for the body of an arrow that is an expression, and for a list that isn't the program's, whose
-- pair is there from the start.
abbrev pub opens_body : Bool → Tree → Moment → Moment
opens_body keeps t a = cond (keeps && not (is_statement_body t)) (with_pair a) a

-- whether the list is that of the program, which alone has no more than one ancestor
abbrev pub is_outermost : List Ancestor → Bool
is_outermost [] = true
is_outermost (a ∷ []) = true
is_outermost (a ∷ b ∷ xs) = false

abbrev pub opens_list : Bool → Moment → Moment
opens_list keeps a = cond (keeps && not (is_outermost a.around)) (with_pair a) a

-- HOOKS ON NODES, after what stands inside

-- A test that is false of what a type writes is so after its exit hook where it was before.
abbrev pub MakesNone : (Tree → Type 0) → Tree → Tree → Type 0
MakesNone writes t u = (test : AstType → Label → Fields → Bool) → ((v : Tree) → writes v → is_construct test v ≡ false) → any_node test t ≡ false → any_node test u ≡ false

abbrev pub MakesNoneAmong : (Tree → Type 0) → Trees → Trees → Type 0
MakesNoneAmong writes ts us = (test : AstType → Label → Fields → Bool) → ((v : Tree) → writes v → is_construct test v ≡ false) → any_in_trees test ts ≡ false → any_in_trees test us ≡ false

abbrev pub MakesNoneIn : (Tree → Type 0) → Fields → Fields → Type 0
MakesNoneIn writes fs gs = (test : AstType → Label → Fields → Bool) → ((v : Tree) → writes v → is_construct test v ≡ false) → any_in_fields test fs ≡ false → any_in_fields test gs ≡ false

-- nothing is counted on
abbrev pub anything : Site → Tree → Type 0
anything n t = Unit {0}

-- by this hook: one by the kind of the node leaves no construct of those that are removed after nodes, where none stood inside
pub record Exited (profile : Profile) (hook : Hook) (a : Moment) (t : Tree) (b : Moment) (u : Tree) : Type 0 where
  pub stepped : Stepped profile.rule (Known profile.counts_after) a t b u
  pub cleared : hook_of_kind (kind_of t) ≡ Some hook → any_in_fields profile.late_constructs (fields_of t) ≡ false → any_node profile.late_constructs u ≡ false
  pub body : KeepsBody t u
  pub none : MakesNone profile.writes t u
  pub hooks : hooks_in t ≤ hooks_in u

-- THE BODY OF AN ARROW

-- with what was pending for it, which is the innermost, written
abbrev pub BodyStepped : (Site → Ledger → Spot → Ledger → Spot → Type 0) → Moment → Tree → Moment → Tree → Type 0
BodyStepped R a t b u = (n : Site) → FitsInBody a n t → (o : Pending) → Steps (FieldStep R n) (ledger_with o a) (body (top a.lists) (opened t)) (ledger_with o b) (opened_field true (one u))

-- After the body of an arrow: one that is an expression, for which a pair was opened, is written with what is pending for it, and the pair
-- is closed. Else nothing changes.
pub record ExitedBody (profile : Profile) (keeps : Bool) (a : Moment) (t : Tree) (b : Moment) (u : Tree) : Type 0 where
  pub closed : (keeps && not (is_statement_body t)) ≡ true → BodyStepped profile.rule a t b u × (b.lists ≡ below a.lists)
  pub same : (keeps && not (is_statement_body t)) ≡ false → (u ≡ t) × (b ≡ a)
  pub none : MakesNone profile.writes t u
  pub hooks : hooks_in t ≤ hooks_in u

-- HOOKS ON LISTS

-- before the statements of a list: its own pair is on top afterwards
pub record EnteredList (profile : Profile) (keeps : Bool) (a : Moment) (ts : Trees) (b : Moment) (us : Trees) : Type 0 where
  pub stepped : ListStepped profile.rule (Each (holds_before profile.conditions)) (opens_list keeps a) ts b us
  pub leaves : LeavesEach (FitInList (opens_list keeps a)) (holds_before profile.conditions) (holds_before profile.conditions) ts us

-- after them: it was on top before
pub record ExitedList (profile : Profile) (keeps : Bool) (a : Moment) (ts : Trees) (b : Moment) (us : Trees) : Type 0 where
  pub stepped : ListStepped profile.rule (Each anything) a ts (opens_list keeps b) us
  pub none : MakesNoneAmong profile.writes ts us
  pub hooks : hooks_in_trees ts ≤ hooks_in_trees us

-- before and after the parameters of a function
pub record EnteredParameters (profile : Profile) (a : Moment) (ts : Trees) (b : Moment) (us : Trees) : Type 0 where
  pub stepped : TreesStepped profile.rule (Each (holds_before profile.conditions)) a ts b us
  pub leaves : LeavesEach (FitAll a) (holds_before profile.conditions) (holds_before profile.conditions) ts us

pub record ExitedParameters (profile : Profile) (a : Moment) (ts : Trees) (b : Moment) (us : Trees) : Type 0 where
  pub stepped : TreesStepped profile.rule (Each anything) a ts b us
  pub none : MakesNoneAmong profile.writes ts us
  pub hooks : hooks_in_trees ts ≤ hooks_in_trees us

-- THE PROGRAM

-- its directives
abbrev pub first_field : Tree → Fields
first_field (node k l (f then fs)) = f then done
first_field (node k l done) = done

-- its statements
abbrev pub body_field : Tree → Fields
body_field (node k l (f then fs)) = fs
body_field (node k l done) = done

-- What a type does after the program besides: by a rule that need be lawful at this place alone, since it puts statements beside
-- others; and which statements of the program's list it takes away so.
pub record Ending : Type 1 where
  pub rule : Site → Ledger → Spot → Ledger → Spot → Type 0
  pub constructs : AstType → Label → Fields → Bool

abbrev pub no_ending : Ending
no_ending = record { rule = λ n s x s' y. ⊥; constructs = λ k l fs. false }

-- the rule of a type over a whole program
abbrev pub whole_rule : Profile → Ending → Site → Ledger → Spot → Ledger → Spot → Type 0
whole_rule p e = either_rule p.rule e.rule

-- a program after the visit of its statements: it has form, and temporaries alone are pending for its list
pub record IsVisited (a : Moment) (t : Tree) : Type 0 where
  pub formed : has_form s-Program t ≡ true
  pub plain : IsPlain (top a.lists)

-- the same of the statements of a list, and not of what stands in them
abbrev pub MakesNoneListed : (Tree → Type 0) → Fields → Fields → Type 0
MakesNoneListed writes fs gs = (test : AstType → Label → Fields → Bool) → ((v : Tree) → writes v → is_construct test v ≡ false) → any_listed test fs ≡ false → any_listed test gs ≡ false

-- After the program: a type that keeps the pairs writes what is pending, and leaves nothing.
pub record ExitedProgram (profile : Profile) (ending : Ending) (keeps : Bool) (a : Moment) (t : Tree) (b : Moment) (u : Tree) : Type 0 where
  pub stepped : IsVisited a t → Steps (Step (whole_rule profile ending) the_program) (ledger_with nothing_pending a) (open_program (top a.lists) t) (ledger_with nothing_pending b) (open_program (top b.lists) u)
  pub stays : IsVisited a t → IsVisited b u
  pub cleared : IsVisited a t → any_listed ending.constructs (body_field u) ≡ false
  pub finished : keeps ≡ true → top b.lists ≡ nothing_pending
  pub directives : first_field u ≡ first_field t
  pub none : MakesNoneIn profile.writes (body_field t) (body_field u)
  pub none_listed : MakesNoneListed profile.writes (body_field t) (body_field u)

-- TWO TYPES TOGETHER

-- one type's hooks run before those of the other on the way in, and after them on the way out
abbrev pub both_profile : Profile → Profile → Profile
both_profile p q = record {
  rule = either_rule p.rule q.rule;
  conditions = p.conditions;
  counts = p.counts;
  leaves = q.leaves;
  constructs = λ h k l fs. p.constructs h k l fs || q.constructs h k l fs;
  late_constructs = q.late_constructs;
  counts_after = q.counts_after;
  makes = λ t. p.makes t ⊎ q.makes t;
  writes = λ t. p.writes t ⊎ q.writes t;
}

abbrev pub both_endings : Ending → Ending → Ending
both_endings e f = record { rule = either_rule e.rule f.rule; constructs = λ k l fs. e.constructs k l fs || f.constructs k l fs }

-- The first type, which acts last after the program, writes nothing that the second takes away there.
abbrev pub EndsApart : Profile → Ending → Type 0
EndsApart p e = (t : Tree) → p.writes t → is_construct e.constructs t ≡ false

-- The second type makes no construct of the first, neither writes one of the other, and the steps of neither make a node
-- above them one. They have the same conditions, and the second counts on no more than the first leaves. The second alone may remove constructs after
-- nodes, which the first doesn't write, and both count on the same there.
pub record AreApart (first second : Profile) : Type 0 where
  pub makes : (h : Hook) (t : Tree) → second.makes t → is_construct (first.constructs h) t ≡ false
  pub first_writes : (h : Hook) (t : Tree) → first.writes t → is_construct (second.constructs h) t ≡ false
  pub second_writes : (h : Hook) (t : Tree) → second.writes t → is_construct (first.constructs h) t ≡ false
  pub first_stable : (h : Hook) → IsStable second.rule (first.constructs h)
  pub second_stable : (h : Hook) → IsStable first.rule (second.constructs h)
  pub before : (n : Site) (t : Tree) → second.conditions.before n t ≡ first.conditions.before n t
  pub after : (n : Site) (t : Tree) → second.conditions.after n t ≡ first.conditions.after n t
  pub meets : (n : Site) (t : Tree) → first.leaves n t ≡ true → second.counts n t ≡ true
  pub none_late : (k : AstType) (l : Label) (fs : Fields) → first.late_constructs k l fs ≡ false
  pub none_later : (t : Tree) → first.writes t → is_construct second.late_constructs t ≡ false
  pub counts_after : (n : Site) (t : Tree) → second.counts_after n t ≡ first.counts_after n t

-- with a type that keeps no pairs nothing is pending
abbrev pub IsQuiet : Bool → List Pending → Type 0
IsQuiet keeps ps = keeps ≡ false → ps ≡ nothing_pending ∷ []

-- What a whole visit asks of a type and of what is pending in its state: the type keeps the pairs, or nothing is pending in any state; its
-- conditions go inward, and its hooks bring an expression from the first to the second.
pub record CanVisit {S : Type 0} (pending : S → List Pending) (keeps : Bool) (p : Profile) : Type 0 where
  pub pairs : (s : S) → IsQuiet keeps (pending s)
  pub sound : AreSound p.conditions
  pub counts : (n : Site) (t : Tree) → p.counts n t ≡ p.conditions.before n t
  pub leaves : (n : Site) (t : Tree) → p.leaves n t ≡ p.conditions.after n t
