-- What a visit may still make of a part: its weight, and what may be made beside the rows. A slot may be wrapped: a call and an arrow, each
-- with an id, and what may be made of that arrow; the body of an arrow that is an expression may become one of statements: a body and a
-- `return`, each with an id; a `catch` without a parameter may get one, a node with an id; a spread may be copied, and what follows it
-- too: twice a call of a member with its two names, and two literals, each with an id; and a pattern with a rest to which a value is assigned
-- may be taken apart (below).
use Rattle.std.specs.Prelude.{ℕ, ◌+◌, suc, Bool, true, false, if◌then◌else◌}
use Rattle.es_tree.specs.Constructs.{any_kind, is_rest}
use Rattle.es_tree.specs.Tree.{Tree, node, Fields, done, ◌then◌, Field, missing, one, many, statements, Trees, empty, ◌before◌, kind_of}
use Rattle.es_tree.specs.declared.ast_type.AstType.{AstType}
use Rattle.es_tree.specs.declared.ast_type.AstType.TheVariants.{ArrowFunctionExpression, AssignmentPattern, CatchClause, ObjectTarget, PatternProperty, PropertyDefinition, SpreadElement, TargetProperty, TargetRest}
use Rattle.es_runs.specs.Weights.{own_weight}
use Rattle.es_visit.specs.declared.hook.Hook.{Hook}
use Rattle.es_visit.specs.declared.hook.Hook.TheVariants.{Expression}
use Rattle.es_traverse.specs.declared.site.Site.{Site}
use Rattle.es_traverse.specs.declared.site.Site.TheVariants.{ArrowBody, Slot}

-- of a node of this kind: it may have a slot or an arrow's body, or be a spread
abbrev pub own_allowance : AstType → ℕ
own_allowance PropertyDefinition = 20
own_allowance AssignmentPattern = 20
own_allowance PatternProperty = 20
own_allowance ArrowFunctionExpression = 4
own_allowance SpreadElement = 24
own_allowance _ = 0

-- Of a member of a pattern with a rest to which a value is assigned, twice for each node made, and six for a declarator of two nodes with the statement
-- that may be written for it. A property whose key is read takes a name: seven nodes, which are an assignment of the group before with its pattern and
-- its source, the assignment of the key to the name, that name in the pattern, and in the list of keys. A rest takes a name for the value: twenty nodes,
-- which are the sequence, the assignment of the value to the name, `{} = s`, the assignment of what is left, which is a call of twelve nodes, and the value
-- at the end.
abbrev pub member_allowance : AstType → ℕ
member_allowance TargetProperty = 20
member_allowance TargetRest = 46
member_allowance _ = 0

abbrev pub members_allowance : Trees → ℕ
members_allowance empty = 0
members_allowance (t before ts) = member_allowance (kind_of t) + members_allowance ts

-- of a node of this kind with these fields: it may get the parameter that it lacks, or be taken apart
abbrev pub fields_allowance : AstType → Fields → ℕ
fields_allowance CatchClause (missing then fs) = 2
fields_allowance ObjectTarget (many ps then fs) = if any_kind is_rest ps then members_allowance ps else 0
fields_allowance _ fs = 0

abbrev mutual
  pub load : Tree → ℕ
  load (node k l fs) = suc (own_weight k l fs + own_allowance k + fields_allowance k fs + fields_load fs)

  pub fields_load : Fields → ℕ
  fields_load done = 0
  fields_load (f then fs) = field_load f + fields_load fs

  pub field_load : Field → ℕ
  field_load missing = 0
  field_load (one t) = load t
  field_load (many ts) = trees_load ts
  field_load (statements ts) = trees_load ts

  pub trees_load : Trees → ℕ
  trees_load empty = 0
  trees_load (t before ts) = load t + trees_load ts

-- what the place of a part may take beside its load: before what stands inside it, and after the body of an arrow
abbrev pub wrapping : Site → ℕ
wrapping Slot = 20
wrapping _ = 0

abbrev pub writing : Site → ℕ
writing ArrowBody = 4
writing _ = 0

abbrev pub allowance : Site → ℕ
allowance c = wrapping c + writing c

-- what of it the hook of an expression may take, and the hook after the body of an arrow, of a type that keeps the pairs
abbrev pub wrapping_by : Bool → Hook → Site → ℕ
wrapping_by true Expression Slot = 20
wrapping_by _ h c = 0

abbrev pub writing_by : Bool → ℕ
writing_by true = 4
writing_by false = 0
