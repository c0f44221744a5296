-- Which object patterns with a rest are lowered (ECMA-262, 14.3.3): those that a declarator with a value declares, and that no module exports:
-- `const { a, "b": c = 1, [2]: d, [k]: e, ...g } = f`, and those in the properties of such a pattern, `const { a: { ...b }, c: { ...d } = {} } = f`.
use Rattle.std.specs.Prelude.{◌&&◌, ◌||◌, not, Bool, true, false}
use Rattle.es_tree.specs.Constructs.{is_object_rest}
use Rattle.es_tree.specs.Names.{has_computed}
use Rattle.es_tree.specs.PropertyKeys.{is_literal_key, is_read_key}
use Rattle.es_tree.specs.RestTargets.{is_rest_assignment}
use Rattle.es_tree.specs.Tree.{Tree, node, Label, Fields, done, ◌then◌, Field, missing, one, many, statements, Trees, empty, ◌before◌}
use Rattle.es_tree.specs.declared.ast_type.AstType.{AstType}
use Rattle.es_tree.specs.declared.ast_type.AstType.TheVariants.{AssignmentExpression, AssignmentPattern, ExportNamedDeclaration, Identifier, ObjectPattern, PatternProperty, RestElement, VariableDeclaration, VariableDeclarator}

-- PATTERNS

-- an object pattern with a rest, of bindings or of assignment targets, or one with such a pattern in a property, behind a default value or not:
-- `{ a: { ...b } }`, and so its property, and a pattern with a default value
abbrev mutual
  pub bears_rest : Tree → Bool
  bears_rest (node ObjectPattern l fs) = is_object_rest ObjectPattern l fs || bears_first fs
  bears_rest (node PatternProperty l fs) = bears_second fs
  bears_rest (node AssignmentPattern l fs) = bears_first fs
  bears_rest (node k l fs) = is_object_rest k l fs

  pub bears_first : Fields → Bool
  bears_first done = false
  bears_first (f then fs) = bears_by f

  pub bears_second : Fields → Bool
  bears_second done = false
  bears_second (f then fs) = bears_first fs

  pub bears_by : Field → Bool
  bears_by missing = false
  bears_by (one t) = bears_rest t
  bears_by (many ts) = bears_among ts
  bears_by (statements ts) = bears_among ts

  pub bears_among : Trees → Bool
  bears_among empty = false
  bears_among (t before ts) = bears_rest t || bears_among ts

abbrev pub is_name : Tree → Bool
is_name (node Identifier l done) = true
is_name _ = false

-- a key whose text stands in the program where it isn't computed: a name or a literal
abbrev pub is_known_key : Tree → Bool
is_known_key k = is_name k || is_literal_key k

-- a key that may be computed, which any expression may be
abbrev pub is_plain_key : Bool → Tree → Bool
is_plain_key computed k = computed || is_known_key k

-- a property whose key is read
abbrev pub reads_key : Tree → Bool
reads_key (node PatternProperty l (one k then one v then done)) = is_read_key (has_computed PatternProperty l.flags) k
reads_key _ = false

abbrev pub is_named_rest : Tree → Bool
is_named_rest (node RestElement l (one t then done)) = is_name t
is_named_rest _ = false

-- properties with a plain key, in whose values each pattern that bears a rest has such properties, and a rest that is a name at its end, or none
abbrev mutual
  pub is_plain_property : Tree → Bool
  is_plain_property (node PatternProperty l (one k then one v then done)) = is_plain_key (has_computed PatternProperty l.flags) k && is_plain_value v
  is_plain_property _ = false

  pub is_plain_value : Tree → Bool
  is_plain_value (node ObjectPattern l fs) = are_plain_parts fs
  is_plain_value (node AssignmentPattern l fs) = is_plain_first fs
  is_plain_value t = not (bears_rest t)

  pub is_plain_first : Fields → Bool
  is_plain_first (one p then one e then done) = is_plain_target p
  is_plain_first _ = false

  -- what a default value stands for has none itself
  pub is_plain_target : Tree → Bool
  is_plain_target (node ObjectPattern l fs) = are_plain_parts fs
  is_plain_target t = not (bears_rest t)

  pub are_plain_parts : Fields → Bool
  are_plain_parts (many ps then done) = are_plain_members ps
  are_plain_parts _ = false

  pub are_plain_members : Trees → Bool
  are_plain_members empty = true
  are_plain_members (t before empty) = is_plain_property t || is_named_rest t
  are_plain_members (t before ts) = is_plain_property t && are_plain_members ts

abbrev pub are_plain : Trees → Bool
are_plain empty = true
are_plain (t before ts) = is_plain_property t && are_plain ts

-- such a pattern that bears a rest
abbrev pub is_plain_pattern : Tree → Bool
is_plain_pattern (node ObjectPattern l fs) = bears_rest (node ObjectPattern l fs) && are_plain_parts fs
is_plain_pattern _ = false

-- DECLARATIONS

-- whether one of these nodes passes a test
abbrev pub any_tree : (Tree → Bool) → Trees → Bool
any_tree p empty = false
any_tree p (t before ts) = p t || any_tree p ts

-- whether one that stands in these fields itself does
abbrev pub any_child_by : (Tree → Bool) → Field → Bool
any_child_by p missing = false
any_child_by p (one t) = p t
any_child_by p (many ts) = any_tree p ts
any_child_by p (statements ts) = any_tree p ts

abbrev pub any_child : (Tree → Bool) → Fields → Bool
any_child p done = false
any_child p (f then fs) = any_child_by p f || any_child p fs

-- a declarator of a pattern with a rest
abbrev pub is_rest_declarator : Tree → Bool
is_rest_declarator (node VariableDeclarator l (one p then fs)) = bears_rest p
is_rest_declarator _ = false

-- a declaration with such a declarator
abbrev pub is_rest_declaration : AstType → Label → Fields → Bool
is_rest_declaration VariableDeclaration l (many ds then fs) = any_tree is_rest_declarator ds
is_rest_declaration _ l fs = false

abbrev pub declares_rest : Tree → Bool
declares_rest (node k l fs) = is_rest_declaration k l fs

-- THE OTHERS: a node that holds, in one of its fields, a pattern with a rest that isn't lowered there. An assignment's own pattern is.

-- a pattern where no declarator declares it, or a declarator outside a declaration
abbrev pub is_misplaced : Tree → Bool
is_misplaced t = bears_rest t || is_rest_declarator t

-- what a declarator with a value declares
abbrev pub is_odd_pattern : Tree → Bool
is_odd_pattern p = (bears_rest p && not (is_plain_pattern p)) || is_rest_declarator p

-- Of the first of these fields a pattern may stand in a property, as far as what is around bears it: a declarator may not.
abbrev pub any_beside : Fields → Bool
any_beside done = false
any_beside (f then fs) = any_child_by is_rest_declarator f || any_child is_misplaced fs

abbrev pub is_stray_rest : AstType → Label → Fields → Bool
is_stray_rest VariableDeclarator l (one p then one e then done) = is_odd_pattern p || is_misplaced e
is_stray_rest VariableDeclaration l (many ds then done) = any_tree bears_rest ds
is_stray_rest ExportNamedDeclaration l fs = any_child (λ t. is_misplaced t || declares_rest t) fs
is_stray_rest ObjectPattern l fs = any_beside fs
is_stray_rest PatternProperty l (k then fs) = any_child_by is_misplaced k || any_beside fs
is_stray_rest AssignmentPattern l fs = any_beside fs
is_stray_rest AssignmentExpression l (f then fs) = (any_child_by is_misplaced f && not (is_rest_assignment AssignmentExpression l (f then fs))) || any_child is_misplaced fs
is_stray_rest k l fs = any_child is_misplaced fs
