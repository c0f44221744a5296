-- The rules of `using` together.
use Rattle.std.proofs.Common.{inl, inr}
use Rattle.std.specs.Prelude.{◌⊎◌}
use Rattle.es_steps.specs.AllRules.{UsingRule}
use Rattle.es_steps.specs.Rules.{either_rule}
use Rattle.es_steps.specs.Steps.{Ledger, Site, Spot}
use Rattle.es_steps.specs.Steps.Spot.{at_node}
use Rattle.es_valid_using.proofs.UsingPlacesBlocks.{block-using}
use Rattle.es_valid_using.proofs.UsingPlacesBodies.{body-using}
use Rattle.es_valid_using.proofs.UsingPlacesHeads.{head-using}
use Rattle.es_valid_using.proofs.UsingPlacesLoops.{loop-using}
use Rattle.es_valid_using.proofs.UsingPlacesSwitches.{switch-using}
use Rattle.es_valid_using.proofs.UsingTrees.{UsingLawful}

pick : {A B C : Type 0} → (A → C) → (B → C) → A ⊎ B → C
pick f g (inl h) = f h
pick f g (inr h) = g h

pub both-using : {Q R : Site → Ledger → Spot → Ledger → Spot → Type 0} → UsingLawful Q → UsingLawful R → UsingLawful (either_rule Q R)
both-using {Q} {R} q r = record {
  alone = record {
    nodes = λ n s s' x y h. pick {A = Q n s x s' y} {B = R n s x s' y} (λ g. q.alone.nodes n s s' x y g) (λ g. r.alone.nodes n s s' x y g) h;
    beside = λ n s s' x y h. pick {A = Q n s x s' y} {B = R n s x s' y} (λ g. q.alone.beside n s s' x y g) (λ g. r.alone.beside n s s' x y g) h;
    imports = λ n s s' t u h. pick {A = Q n s (at_node t) s' (at_node u)} {B = R n s (at_node t) s' (at_node u)} (λ g. q.alone.imports n s s' t u g) (λ g. r.alone.imports n s s' t u g) h;
  };
  formed = λ n s s' t u a lets h f. pick {A = Q n s (at_node t) s' (at_node u)} {B = R n s (at_node t) s' (at_node u)} (λ g. q.formed n s s' t u a lets g f) (λ g. r.formed n s s' t u a lets g f) h;
  keeps = λ n s s' t u a up h f k. pick {A = Q n s (at_node t) s' (at_node u)} {B = R n s (at_node t) s' (at_node u)} (λ g. q.keeps n s s' t u a up g f k) (λ g. r.keeps n s s' t u a up g f k) h;
  seen = λ n s s' t u h. pick {A = Q n s (at_node t) s' (at_node u)} {B = R n s (at_node t) s' (at_node u)} (λ g. q.seen n s s' t u g) (λ g. r.seen n s s' t u g) h;
  loops = λ n s s' t u e h. pick {A = Q n s (at_node t) s' (at_node u)} {B = R n s (at_node t) s' (at_node u)} (λ g. q.loops n s s' t u e g) (λ g. r.loops n s s' t u e g) h;
  names = λ n s s' t u e h. pick {A = Q n s (at_node t) s' (at_node u)} {B = R n s (at_node t) s' (at_node u)} (λ g. q.names n s s' t u e g) (λ g. r.names n s s' t u e g) h;
}

pub all-using : UsingLawful UsingRule
all-using = both-using block-using (both-using body-using (both-using loop-using (both-using switch-using head-using)))
