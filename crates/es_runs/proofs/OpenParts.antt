-- Steps in a row: one row after another, and steps of a part as steps of the whole.
use Rattle.es_tree.specs.Tree.{Label}
use Rattle.es_tree.specs.declared.ast_type.AstType.{AstType}
use Rattle.es_runs.specs.Alike.{Need, needs}
use Rattle.es_runs.specs.Open.{Pending, OpenFields, OpenTrees}
use Rattle.es_runs.specs.Open.Open.{open_node}
use Rattle.es_runs.specs.Open.OpenField.{list}
use Rattle.es_runs.specs.OpenSteps.{Whole, Ledger, whole_in, pending_in, Spot, Step, FieldsStep, FieldStep, TreesStep, Steps}
use Rattle.es_runs.specs.OpenSteps.Ledger.{ledger}
use Rattle.es_runs.specs.OpenSteps.Step.{inside}
use Rattle.es_runs.specs.OpenSteps.FieldStep.{within}
use Rattle.es_runs.specs.OpenSteps.Steps.{stays, goes}

pub append_steps : {X : Type 0} {S : Ledger → X → Ledger → X → Type 0} {s s' s'' : Ledger} {t u v : X} → Steps S s t s' u → Steps S s' u s'' v → Steps S s t s'' v
append_steps stays more = more
append_steps (goes r rest) more = goes r (append_steps rest more)

pub one_step_alone : {X : Type 0} {S : Ledger → X → Ledger → X → Type 0} {s s' : Ledger} {t u : X} → S s t s' u → Steps S s t s' u
one_step_alone r = goes r stays

-- steps of a part, where each is a step of the whole
pub map_steps : {X Y : Type 0} {S : Ledger → X → Ledger → X → Type 0} {T : Ledger → Y → Ledger → Y → Type 0} (f : X → Y) → ((s : Ledger) (x : X) (s' : Ledger) (y : X) → S s x s' y → T s (f x) s' (f y)) → {s s' : Ledger} {t u : X} → Steps S s t s' u → Steps T s (f t) s' (f u)
map_steps f out stays = stays
map_steps f out (goes {s = s} {s' = s'} {t = t} {u = u} r rest) = goes (out s t s' u r) (map_steps f out rest)

module _ {R : Need → Ledger → Spot → Ledger → Spot → Type 0} where
  pub steps_inside : {n : Need} {s s' : Ledger} (k : AstType) (l : Label) {fs gs : OpenFields} → Steps (FieldsStep R (needs n k l.texts l.flags)) s fs s' gs → Steps (Step R n) s (open_node k l fs) s' (open_node k l gs)
  steps_inside k l = map_steps (λ fs. open_node k l fs) (λ s x s' y r. inside r)

  one_within : {n : Need} (s s' : Ledger) (o : Pending) {ts us : OpenTrees} → TreesStep R n s ts s' us → FieldStep R n (ledger (whole_in s) o) (list (pending_in s) ts) (ledger (whole_in s') o) (list (pending_in s') us)
  one_within (ledger w p) (ledger w' q) o r = within r

  all_within : {n : Need} {s s' : Ledger} (o : Pending) {ts us : OpenTrees} → Steps (TreesStep R n) s ts s' us → Steps (FieldStep R n) (ledger (whole_in s) o) (list (pending_in s) ts) (ledger (whole_in s') o) (list (pending_in s') us)
  all_within o stays = stays
  all_within o (goes {s = s} {s' = s'} r rest) = goes (one_within s s' o r) (all_within o rest)

  -- what is pending around stays, and inside it is the list's own
  pub steps_within : {n : Need} {w w' : Whole} {o p q : Pending} {ts us : OpenTrees} → Steps (TreesStep R n) (ledger w p) ts (ledger w' q) us → Steps (FieldStep R n) (ledger w o) (list p ts) (ledger w' o) (list q us)
  steps_within {o = o} r = all_within o r
