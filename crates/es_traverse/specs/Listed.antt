-- Tests of the statements of a list, and not of what stands in them.
use Rattle.std.specs.Prelude.{Bool, false, ◌||◌}
use Rattle.es_tree.specs.Tree.{Label, Fields, done, ◌then◌, statements, Trees, empty, ◌before◌, kind_of, label_of, fields_of}
use Rattle.es_tree.specs.declared.ast_type.AstType.{AstType}

-- whether one of the trees passes
abbrev pub any_among : (AstType → Label → Fields → Bool) → Trees → Bool
any_among test empty = false
any_among test (t before ts) = test (kind_of t) (label_of t) (fields_of t) || any_among test ts

-- whether one of the statements does that stand in lists of these fields
abbrev pub any_listed : (AstType → Label → Fields → Bool) → Fields → Bool
any_listed test done = false
any_listed test (statements ts then fs) = any_among test ts || any_listed test fs
any_listed test (f then fs) = any_listed test fs
