-- Nodes that are in the way where an arrow becomes a function, or `this` a name.
use Rattle.std.specs.Prelude.{◌&&◌, Bool, false, Option, Some, None}
use Rattle.es_tree.specs.Children.{child_at}
use Rattle.es_tree.specs.HasForm.{same_type}
use Rattle.es_tree.specs.Names.{first_text}
use Rattle.es_tree.specs.Parens.{without_parens}
use Rattle.es_tree.specs.StaticRules.{is_accessor_word}
use Rattle.es_tree.specs.Tree.{Tree, Label, Fields, kind_of}
use Rattle.es_tree.specs.declared.ast_type.AstType.{AstType}
use Rattle.es_tree.specs.declared.ast_type.AstType.TheVariants.{ArrowFunctionExpression, ObjectProperty, ThisExpression}

abbrev pub is_kind_within : AstType → Option Tree → Bool
is_kind_within k None = false
is_kind_within k (Some t) = same_type (kind_of t) k

-- `this`, maybe in parentheses
abbrev pub is_this_within : Option Tree → Bool
is_this_within None = false
is_this_within (Some t) = same_type (kind_of (without_parens t)) ThisExpression

-- an accessor of a literal whose value is an arrow
abbrev pub is_arrow_accessor : AstType → Label → Fields → Bool
is_arrow_accessor ObjectProperty l fs = is_accessor_word (first_text l.texts) && is_kind_within ArrowFunctionExpression (child_at 1 fs)
is_arrow_accessor k l fs = false
