-- The object literals that are lowered (ECMA-262, 13.2.5): each with a spread that has form.
use Rattle.std.specs.Prelude.{◌&&◌, ◌||◌, not, Bool, true, false}
use Rattle.es_tree.specs.Constructs.{is_object_spread, is_spread}
use Rattle.es_tree.specs.Tree.{Tree, Label, Fields, done, ◌then◌, one, many, Trees, empty, ◌before◌, kind_of, fields_of}
use Rattle.es_tree.specs.declared.ast_type.AstType.{AstType}

-- what a spread copies
abbrev pub has_argument : Fields → Bool
has_argument (one t then done) = true
has_argument _ = false

-- a spread without it
abbrev pub lacks_argument : Tree → Bool
lacks_argument t = is_spread (kind_of t) && not (has_argument (fields_of t))

abbrev pub any_lacks_argument : Trees → Bool
any_lacks_argument empty = false
any_lacks_argument (t before ts) = lacks_argument t || any_lacks_argument ts

-- the properties of a literal, none of them such a spread
abbrev pub has_properties : Fields → Bool
has_properties (many ps then done) = not (any_lacks_argument ps)
has_properties _ = false

abbrev pub is_lowerable_literal : AstType → Label → Fields → Bool
is_lowerable_literal k l fs = is_object_spread k l fs && has_properties fs
