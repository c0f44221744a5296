-- Assignments to an object pattern with a rest (ECMA-262, 13.15.5): `{ a, "b": c.d = 1, [k]: e, ...g.h } = f`.
use Rattle.std.specs.Prelude.{◌&&◌, Bool, false, bytes_eq, codes}
use Rattle.es_tree.specs.Constructs.{field_at, has_member, is_rest}
use Rattle.es_tree.specs.HasForm.{same_type}
use Rattle.es_tree.specs.Names.{first_text}
use Rattle.es_tree.specs.Tree.{Label, Fields, Field, one, fields_of, kind_of}
use Rattle.es_tree.specs.declared.ast_type.AstType.{AstType}
use Rattle.es_tree.specs.declared.ast_type.AstType.TheVariants.{AssignmentExpression, ObjectTarget}

-- an object target with a rest
abbrev pub is_rest_target : Field → Bool
is_rest_target (one t) = same_type (kind_of t) ObjectTarget && has_member is_rest (field_at 0 (fields_of t))
is_rest_target _ = false

-- an assignment to one
abbrev pub is_rest_assignment : AstType → Label → Fields → Bool
is_rest_assignment AssignmentExpression l fs = bytes_eq (first_text l.texts) (codes "=") && is_rest_target (field_at 0 fs)
is_rest_assignment _ l fs = false
