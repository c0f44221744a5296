-- What the code asks of a part of a template.
use Rattle.std.specs.Prelude.{Bool, false, ◌&&◌}
use Rattle.es_tree.specs.Tree.{Tree, node}
use Rattle.es_tree.specs.declared.ast_type.AstType.TheVariants.{TemplateElement}
use Rattle.es_runs.specs.Duplication.{has_no_fields, is_cooked}

-- a part of a template whose text has a cooked form
abbrev pub is_cooked_part : Tree → Bool
is_cooked_part (node TemplateElement l fs) = has_no_fields fs && is_cooked l.texts
is_cooked_part _ = false
