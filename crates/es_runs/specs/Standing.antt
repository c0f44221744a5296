-- Where declarations, programs and links of chains stand in core programs.
use Rattle.std.specs.Prelude.{Bool, true, false, ◌&&◌, if◌then◌else◌}
use Rattle.es_tree.specs.Tree.{Label, Fields, done, ◌then◌, Field, missing, one, many, statements, Trees, empty, ◌before◌, kind_of}
use Rattle.es_tree.specs.declared.ast_type.AstType.{AstType}
use Rattle.es_tree.specs.declared.ast_type.AstType.TheVariants.{Program, VariableDeclaration, VariableDeclarator, UpdateExpression, AssignmentExpression, MemberExpression, CallExpression, ChainExpression, ParenthesizedExpression}

abbrev pub is_program_kind : AstType → Bool
is_program_kind Program = true
is_program_kind _ = false

abbrev pub is_declaration : AstType → Bool
is_declaration VariableDeclaration = true
is_declaration _ = false

abbrev pub is_chain : AstType → Bool
is_chain ChainExpression = true
is_chain _ = false

abbrev pub is_link : AstType → Bool
is_link MemberExpression = true
is_link CallExpression = true
is_link _ = false

-- whether a node of the second kind may stand directly in one of the first, as far as declarations go
abbrev pub is_placed : AstType → AstType → Bool
is_placed k Program = false
is_placed k VariableDeclaration = is_program_kind k
is_placed k VariableDeclarator = is_declaration k
is_placed k _ = true

-- and as far as chains go
abbrev pub is_linked : AstType → AstType → Bool
is_linked k j = if is_chain k then is_link j else true

abbrev pub may_stand : AstType → AstType → Bool
may_stand k j = is_placed k j && is_linked k j

abbrev pub trees_stand : AstType → Trees → Bool
trees_stand k empty = true
trees_stand k (t before ts) = may_stand k (kind_of t) && trees_stand k ts

abbrev pub field_stands : AstType → Field → Bool
field_stands k missing = true
field_stands k (one t) = may_stand k (kind_of t)
field_stands k (many ts) = trees_stand k ts
field_stands k (statements ts) = trees_stand k ts

abbrev pub fields_stand : AstType → Fields → Bool
fields_stand k done = true
fields_stand k (f then fs) = field_stands k f && fields_stand k fs

abbrev pub is_one : Field → Bool
is_one (one t) = true
is_one _ = false

abbrev pub is_end : Fields → Bool
is_end done = true
is_end _ = false

-- one child alone
abbrev pub is_single : Fields → Bool
is_single done = false
is_single (f then fs) = is_one f && is_end fs

-- one child in the first field
abbrev pub begins_with_one : Fields → Bool
begins_with_one done = false
begins_with_one (f then fs) = is_one f

-- one field alone
abbrev pub is_lone : Fields → Bool
is_lone done = false
is_lone (f then fs) = is_end fs

-- the fields of declarations, of nodes that write, and of those that look through
abbrev pub is_formed : AstType → Fields → Bool
is_formed VariableDeclaration fs = is_lone fs
is_formed UpdateExpression fs = is_single fs
is_formed ParenthesizedExpression fs = is_single fs
is_formed ChainExpression fs = is_single fs
is_formed AssignmentExpression fs = begins_with_one fs
is_formed _ fs = true

-- A declarator stands directly in a declaration, a declaration directly in a program, and a program nowhere inside; a
-- declaration has one field; a chain holds a member or a call; and the target of a node that writes is the one child of its
-- first field.
abbrev pub undeclaring : AstType → Label → Fields → Bool
undeclaring k l fs = fields_stand k fs && is_formed k fs
