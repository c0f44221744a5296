-- A `catch` without a parameter (ECMA-262, 14.15), and with one.
use Rattle.std.specs.Prelude.{Bool, true, false}
use Rattle.es_tree.specs.Tree.{Tree, node, Label, Fields, done, ◌then◌, missing, one}
use Rattle.es_tree.specs.declared.ast_type.AstType.{AstType}
use Rattle.es_tree.specs.declared.ast_type.AstType.TheVariants.{CatchClause}

-- a body and no parameter
abbrev pub has_body_alone : Fields → Bool
has_body_alone (missing then (one body then done)) = true
has_body_alone _ = false

-- `catch { .. }` with its body, which each has that has form
abbrev pub is_lowerable_catch : AstType → Label → Fields → Bool
is_lowerable_catch CatchClause l fs = has_body_alone fs
is_lowerable_catch _ l fs = false

-- this node in the first field
abbrev pub with_first : Tree → Fields → Fields
with_first p done = done
with_first p (f then fs) = one p then fs

-- the clause with this parameter
abbrev pub with_parameter : Tree → Tree → Tree
with_parameter p (node k l fs) = node k l (with_first p fs)
