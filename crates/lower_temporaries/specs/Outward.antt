-- Searches outwards through the ancestors of a context.
use Rattle.std.specs.Prelude.{◌&&◌, ◌||◌, Bool, false, List, [], ◌∷◌}
use Rattle.es_scope.specs.declared.ancestor.Ancestor.{Ancestor}

-- an ancestor passes the first test, and all before it, from here on, the second
abbrev pub reaches : (Ancestor → Bool) → (Ancestor → Bool) → List Ancestor → Bool
reaches found passed [] = false
reaches found passed (a ∷ up) = found a || (passed a && reaches found passed up)
