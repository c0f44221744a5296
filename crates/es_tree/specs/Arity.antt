-- The arity of nodes: which fields a node has, and what may stand in each.
use Rattle.std.specs.Prelude.{Option, None, Some, List, [], ◌∷◌, ◌≡◌}
use Rattle.es_tree.specs.Tree.{Tree, Field, missing, one, many, statements, Fields, done, ◌then◌, kind_of, fields_of}
use Rattle.es_tree.specs.declared.ast_type.AstType.{AstType}

abbrev pub IsOne : Field → Type 0
IsOne missing = ⊥
IsOne (one t) = Unit {0}
IsOne (many ts) = ⊥
IsOne (statements ts) = ⊥

abbrev pub IsMaybe : Field → Type 0
IsMaybe missing = Unit {0}
IsMaybe (one t) = Unit {0}
IsMaybe (many ts) = ⊥
IsMaybe (statements ts) = ⊥

abbrev pub IsMany : Field → Type 0
IsMany missing = ⊥
IsMany (one t) = ⊥
IsMany (many ts) = Unit {0}
IsMany (statements ts) = ⊥

abbrev pub IsStatements : Field → Type 0
IsStatements missing = ⊥
IsStatements (one t) = ⊥
IsStatements (many ts) = ⊥
IsStatements (statements ts) = Unit {0}

abbrev pub maybe : Option Tree → Field
maybe None = missing
maybe (Some t) = one t

-- A place for children.
pub data Slot : Type 0 where
  required : Slot
  optional : Slot
  list : Slot
  statement_list : Slot

abbrev pub Suits : Slot → Field → Type 0
Suits required f = IsOne f
Suits optional f = IsMaybe f
Suits list f = IsMany f
Suits statement_list f = IsStatements f

-- The fields are those of these places, one by one.
abbrev pub Fits : List Slot → Fields → Type 0
Fits [] done = Unit {0}
Fits [] (f then fs) = ⊥
Fits (s ∷ ss) done = ⊥
Fits (s ∷ ss) (f then fs) = Suits s f × Fits ss fs

-- The node is of this kind and its fields are those of these places.
pub record Opens (k : AstType) (ss : List Slot) (t : Tree) : Type 0 where
  pub kind : kind_of t ≡ k
  pub arity : Fits ss (fields_of t)
