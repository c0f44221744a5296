-- A type that does nothing, whatever the program is.
use Rattle.std.specs.Prelude.{false, true}
use Rattle.std.proofs.Common.{refl, sym, true≢false}
use Rattle.es_steps.specs.Steps.{Ledger, Site, Spot}
use Rattle.es_changes.specs.Rules.{IsLawfulRule}
use Rattle.es_traverse.specs.Laws.{IsLawful, Profile, no_construct, whatever_it_is, acts_inward}
use Rattle.es_traverse.specs.NothingAsked.{nothing_asked}

-- the rule that never acts
abbrev pub never : Site → Ledger → Spot → Ledger → Spot → Type 0
never n s x s' y = ⊥

never_lawful : IsLawfulRule never
never_lawful = record {
  names = record {
    at_nodes = λ n s s' t u h used called. absurd h;
    flanking = λ n s s' t u bs cs h used. absurd h;
    at_lists = λ n s s' p q x y a b ts us h used. absurd h;
    at_bodies = λ n s s' p t u h. absurd h;
    unflanking = λ n s s' t bs cs us h. absurd h;
  };
  writes = record {
    imports = λ n s s' t u h. absurd h;
    flanks_none = λ n s s' t u bs cs h. absurd h;
    no_names = λ n s s' l fs y e h. h;
    freer = λ n s s' x y h. absurd h;
    same_called = λ n s s' x y h m e. absurd h;
    names = λ q n s s' t u a b h k. absurd h;
    names_beside = λ q n s s' t u bs cs a b h k. absurd h;
    names_in_lists = λ q n s s' o p x y c d ts us a b h k. absurd h;
  };
  form = record {
    at_nodes = λ n s s' t u a slot h f. absurd h;
    no_flanks = λ n s s' t u bs cs h. h;
    at_lists = λ n s s' p q x y a b ts us h k. absurd h;
    at_bodies = λ n s s' p t u h. absurd h;
  };
  local = λ n m s s' x y alike h. h;
}

-- nothing is lowered, made or written, and nothing is asked of a node
abbrev pub quiet : Profile
quiet = record {
  rule = never;
  conditions = nothing_asked;
  counts = λ n t. true;
  leaves = λ n t. true;
  constructs = λ h k l fs. false;
  late_constructs = no_construct;
  counts_after = whatever_it_is;
  makes = λ t. ⊥;
  writes = λ t. ⊥;
}

pub quiet_lawful : IsLawful quiet
quiet_lawful = record {
  rule = never_lawful;
  stable = λ h n s s' k l first fs gs stand step e. e;
  placed = λ h k l fs e. absurd (true≢false (sym e));
  own = λ h t w. absurd w;
  outward = acts_inward quiet (λ k l fs. refl) (λ n t. refl);
}
