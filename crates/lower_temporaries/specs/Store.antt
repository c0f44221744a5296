-- What the store of declarators holds.
use Rattle.std.specs.Prelude.{◌&&◌, Bool, List, [], ◌∷◌, ◌++◌, map}
use Rattle.std.specs.List.{list_all}
use Rattle.es_steps.specs.Open.{Pending}
use Rattle.lower_temporaries.specs.SeenTrees.{is_inert, seen_alone}
use Rattle.lower_temporaries.specs.declared.declarations.Pair.{Pair}

-- the declarators of a pair, as they are seen
abbrev pub pending_in : Pair → Pending
pending_in pair = record { vars = map seen_alone pair.vars.items; lets = map seen_alone pair.lets.items }

-- those of all pairs, which are kept from the outermost on: the innermost first
abbrev pub pendings_in : List Pair → List Pending
pendings_in [] = []
pendings_in (pair ∷ pairs) = pendings_in pairs ++ pending_in pair ∷ []

-- each declarator is inert
abbrev pub is_inert_pair : Pair → Bool
is_inert_pair pair = list_all is_inert pair.vars.items && list_all is_inert pair.lets.items

abbrev pub are_inert : List Pair → Bool
are_inert pairs = list_all is_inert_pair pairs

-- of those of a pair as they are seen
abbrev pub is_inert_pending : Pending → Bool
is_inert_pending p = list_all is_inert p.vars && list_all is_inert p.lets
