-- Sites that are alike as far as rules ask. A step of a rule changes the sites of the other fields of the nodes around it, since a site
-- is told by all fields; but it leaves each alike on the names that were in use, and a step at a site is one at each that is alike.
use Rattle.std.specs.Prelude.{◌≡◌, ℕ, Bool, true, false, Option, Some, codes, is_some}
use Rattle.es_tree.specs.Tree.{Tree, Label, Trees, empty, node}
use Rattle.es_tree.specs.Words.{Text}
use Rattle.es_tree.specs.declared.ast_type.AstType.{AstType}
use Rattle.es_tree.specs.declared.options.EnvOptions.{EnvOptions}
use Rattle.es_resolution.specs.Called.{Called}
use Rattle.es_resolution.specs.Declarations.{Bound}
use Rattle.es_resolution.specs.Named.{Named}
use Rattle.es_semantic.specs.RolesOf.{reads}
use Rattle.es_semantic.specs.declared.place.Role.{Role}
use Rattle.es_steps.specs.AllRules.{AllRules}
use Rattle.es_steps.specs.CoreRules.{rule_under}
use Rattle.es_steps.specs.Identifiers.{Passes, PassesAll, is_called}
use Rattle.es_steps.specs.ObjectRest.{the_whole}
use Rattle.es_steps.specs.Open.{Additions, Open, OpenField, OpenFields, OpenTrees, Pending, finished, finished_fields, open_node, whole_list, written_body}
use Rattle.es_steps.specs.Steps.{FieldStep, FieldsStep, IsExpression, Ledger, ledger, Site, Spot, Step, Steps, TreesStep, Whole, site_in, site_in_body}

-- Two sites with the same need, ancestors and role, from which each of these names finds the same. What a `var` declares there may
-- differ: no rule asks for that, and what names find further inwards doesn't depend on it.
pub record AreAlike (used : Text → Bool) (n m : Site) : Type 0 where
  pub need : m.need ≡ n.need
  pub above : m.above ≡ n.above
  pub role : m.role ≡ n.role
  pub scope : (x : Text) → used x ≡ true → m.names.scope x ≡ n.names.scope x
  pub parameters : (x : Text) → used x ≡ true → m.names.parameters x ≡ n.names.parameters x

-- AN EQUIVALENCE

pub record IsEquivalence (R : Site → Site → Type 0) : Type 0 where
  pub reflexive : (n : Site) → R n n
  pub symmetric : (n m : Site) → R n m → R m n
  pub transitive : (n m o : Site) → R n m → R m o → R n o

abbrev pub LawAlike : Type 0
LawAlike = (used : Text → Bool) → IsEquivalence (AreAlike used)

-- fewer names
abbrev pub LawAlikeOnFewer : Type 0
LawAlikeOnFewer = (used fewer : Text → Bool) (n m : Site) → ((x : Text) → fewer x ≡ true → used x ≡ true) → AreAlike used n m → AreAlike fewer n m

-- INWARDS: in the same node alike sites have alike sites in each field, and so in the body of an arrow.

pub record InwardsAlike (used : Text → Bool) (n m : Site) : Type 0 where
  pub in_field : (k : AstType) (l : Label) (fs : OpenFields) (i : ℕ) → AreAlike used (site_in n k l fs i) (site_in m k l fs i)
  pub in_body : (p : Pending) (e : Tree) → AreAlike used (site_in_body n p e) (site_in_body m p e)

abbrev pub LawInwards : Type 0
LawInwards = (used : Text → Bool) (n m : Site) → AreAlike used n m → InwardsAlike used n m

-- STEPS KEEP SITES ALIKE

-- the names and symbols that stand in a tree are in use, the symbols under their names
pub record StandsInUse (w : Whole) (r : Role) (t : Tree) : Type 0 where
  pub named : Named w.in_use w.free_symbol r t
  pub called : Called w.called t

-- a step leaves on all names that were in use the sites around it alike
pub record SitesStay (R : Site → Ledger → Spot → Ledger → Spot → Type 0) : Type 0 where
  -- inside the fields of a node that of each field
  pub in_fields : (n : Site) (s s' : Ledger) (k : AstType) (l : Label) (fs gs : OpenFields) → StandsInUse (the_whole s) n.role (node k l (finished_fields fs)) → FieldsStep R (site_in n k l fs) s fs s' gs →
      (i : ℕ) → AreAlike (the_whole s).in_use (site_in n k l fs i) (site_in n k l gs i)
  -- inside the body of an arrow that is an expression that of the expression, whatever becomes pending for it
  pub in_body : (n : Site) (w w' : Whole) (p q : Pending) (x x' : Option Bound) (a a' : Additions) (t u : Open) → IsExpression (finished t) → IsExpression (finished u) → StandsInUse w reads (written_body p (finished t)) → Step R (site_in_body n p (finished t)) (ledger w p x a) t (ledger w' q x' a') u →
      AreAlike w.in_use (site_in_body n p (finished t)) (site_in_body n q (finished u))

abbrev pub LawSites : Type 0
LawSites = (o : EnvOptions) → SitesStay (AllRules o)

abbrev pub LawCoreSites : Type 0
LawCoreSites = (o : EnvOptions) → SitesStay (rule_under o)

-- RULES ARE LOCAL

-- a rule holds the same at sites that are alike on the names that are asked for beside this ledger
abbrev pub IsLocal : (Ledger → Text → Bool) → (Site → Ledger → Spot → Ledger → Spot → Type 0) → Type 0
IsLocal asked R = (n m : Site) (s s' : Ledger) (x y : Spot) → AreAlike (asked s) n m → R n s x s' y → R m s x s' y

-- The core rules ask for `Math` alone.
abbrev pub LawCoreLocal : Type 0
LawCoreLocal = (o : EnvOptions) (used : Text → Bool) → used (codes "Math") ≡ true → IsLocal (λ s. used) (rule_under o)

-- All rules together ask for the names that they write themselves and for the name that is pending for `this`, as far as these are in
-- use, which they ask too.
pub record AsksEnough (asked : Ledger → Text → Bool) : Type 0 where
  pub math : (s : Ledger) → (the_whole s).in_use (codes "Math") ≡ true → asked s (codes "Math") ≡ true
  pub helpers : (s : Ledger) → (the_whole s).in_use (codes "babelHelpers") ≡ true → asked s (codes "babelHelpers") ≡ true
  pub this : (w : Whole) (p : Pending) (b : Bound) (a : Additions) → w.in_use b.name ≡ true → asked (ledger w p (Some b) a) b.name ≡ true

abbrev pub LawLocal : Type 0
LawLocal = (o : EnvOptions) (asked : Ledger → Text → Bool) → AsksEnough asked → IsLocal asked (AllRules o)

-- So are their steps: where the names asked for are told by the whole.
pub record StepsAreLocal (asked : Whole → Text → Bool) (R : Site → Ledger → Spot → Ledger → Spot → Type 0) : Type 0 where
  pub step : (n m : Site) (s s' : Ledger) (t u : Open) → AreAlike (asked (the_whole s)) n m → Step R n s t s' u → Step R m s t s' u
  pub fields : (c d : ℕ → Site) (s s' : Ledger) (fs gs : OpenFields) → ((i : ℕ) → AreAlike (asked (the_whole s)) (c i) (d i)) → FieldsStep R c s fs s' gs → FieldsStep R d s fs s' gs
  pub field : (n m : Site) (s s' : Ledger) (f g : OpenField) → AreAlike (asked (the_whole s)) n m → FieldStep R n s f s' g → FieldStep R m s f s' g
  pub trees : (n m : Site) (s s' : Ledger) (ts us : OpenTrees) → AreAlike (asked (the_whole s)) n m → TreesStep R n s ts s' us → TreesStep R m s ts s' us

-- steps of the core rules, on any names with `Math`
abbrev pub LawCoreStepsLocal : Type 0
LawCoreStepsLocal = (o : EnvOptions) (used : Text → Bool) → used (codes "Math") ≡ true → StepsAreLocal (λ w. used) (rule_under o)

-- steps of all rules, on the names in use
abbrev pub LawStepsLocal : Type 0
LawStepsLocal = (o : EnvOptions) → StepsAreLocal (λ w. w.in_use) (AllRules o)

-- what holds of all rules but those of arrows, on any names with those that they write themselves
abbrev pub WithoutArrows : ((Text → Bool) → (Site → Ledger → Spot → Ledger → Spot → Type 0) → Type 0) → Type 0
WithoutArrows P = (o : EnvOptions) (used : Text → Bool) → is_some o.es2015.arrow_function ≡ false → used (codes "Math") ≡ true → used (codes "babelHelpers") ≡ true → P used (AllRules o)

abbrev pub LawStepsWithoutArrows : Type 0
LawStepsWithoutArrows = WithoutArrows (λ used R. StepsAreLocal (λ w. used) R)

-- ROWS OF STEPS inside the fields of a node, each at the sites as they were before the first: for rules that ask for a few names of the
-- source alone they are steps of the node. Those of arrows ask for a name that is made on the way.

-- what is pending beside, written
abbrev pub written_beside : Ledger → Trees
written_beside (ledger w p x a) = whole_list p x a empty

-- The names in a tree are in use, and there and in what is pending each symbol has its name.
pub record IsNamed (called : ℕ → Text) (s : Ledger) (r : Role) (t : Tree) : Type 0 where
  pub named : Named (the_whole s).in_use (the_whole s).free_symbol r t
  pub called_so : Passes (is_called called) t
  pub pending : PassesAll (is_called called) (written_beside s)

abbrev pub RowsInside : (Text → Bool) → (Site → Ledger → Spot → Ledger → Spot → Type 0) → Type 0
RowsInside used R = (n : Site) (s s' : Ledger) (k : AstType) (l : Label) (fs gs : OpenFields) → ((x : Text) → used x ≡ true → (the_whole s).in_use x ≡ true) → IsNamed (the_whole s').called s n.role (node k l (finished_fields fs)) →
    Steps (FieldsStep R (site_in n k l fs)) s fs s' gs → Steps (Step R n) s (open_node k l fs) s' (open_node k l gs) × ((i : ℕ) → AreAlike used (site_in n k l fs i) (site_in n k l gs i))

abbrev pub LawRowsInside : Type 0
LawRowsInside = (o : EnvOptions) (used : Text → Bool) → used (codes "Math") ≡ true → RowsInside used (rule_under o)

abbrev pub LawRowsWithoutArrows : Type 0
LawRowsWithoutArrows = WithoutArrows (λ used R. RowsInside used R)
