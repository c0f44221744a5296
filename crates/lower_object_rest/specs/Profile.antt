-- What the lowering of object rests states of itself.
use Rattle.std.specs.Prelude.{◌&&◌, ◌+◌, Bool, false, if◌then◌else◌, is_some, true, ℕ}
use Rattle.es_tree.specs.Constructs.{any_kind, is_rest}
use Rattle.es_tree.specs.Tree.{Fields, Label, Tree, Trees, empty, many, node, ◌before◌, ◌then◌}
use Rattle.es_tree.specs.declared.ast_type.AstType.{AstType}
use Rattle.es_tree.specs.declared.ast_type.AstType.TheVariants.{ExportNamedDeclaration, ObjectPattern, PatternProperty, VariableDeclaration}
use Rattle.es_tree.specs.declared.options.EnvOptions.{EnvOptions}
use Rattle.es_rest_rows.specs.RestRows.{RestWalkRow}
use Rattle.es_rest_shapes.specs.RestShapes.{bears_second, declares_rest, is_rest_declaration, is_stray_rest, reads_key}
use Rattle.es_steps.specs.CoreRules.{where_on}
use Rattle.lower_nodes.specs.Nodes.{NodeProfile}

-- a test of nodes, where the lowering is on
abbrev pub test_where : Bool → (AstType → Label → Fields → Bool) → AstType → Label → Fields → Bool
test_where on test k l fs = on && test k l fs

-- no module exports what it lowers
abbrev pub barred_where : Bool → AstType → ℕ → Tree → Bool
barred_where on ExportNamedDeclaration i t = on && declares_rest t
barred_where on _ i t = false

abbrev pub number_of : Trees → ℕ
number_of empty = 0
number_of (t before ts) = 1 + number_of ts

-- the ids for a property: one for its key, and six more where that is read, for a group and a name
abbrev pub key_ids_by : Bool → ℕ
key_ids_by read = if read then 7 else 1

abbrev pub key_ids : Trees → ℕ
key_ids empty = 0
key_ids (p before ps) = key_ids_by (reads_key p) + key_ids ps

-- the ids for a property in which a pattern bears a rest: three for the declarator that it closes, two for a name, and four for the declarator
-- of the properties behind the last one and that of a stored source
abbrev pub nested_ids_by : Bool → ℕ
nested_ids_by bears = if bears then 9 else 0

abbrev pub nested_ids_of : Tree → ℕ
nested_ids_of (node PatternProperty l fs) = nested_ids_by (bears_second fs)
nested_ids_of _ = 0

abbrev pub nested_ids : Trees → ℕ
nested_ids empty = 0
nested_ids (p before ps) = nested_ids_of p + nested_ids ps

-- The nodes that are made for a pattern with a rest: those of the declarator of its source, those of its rest's and of the pattern's with the keys,
-- or those of a rest that stands alone. The rest is one of the members. And for patterns in its properties what those have.
abbrev pub rest_owes : AstType → Label → Fields → ℕ
rest_owes ObjectPattern l (many ps then fs) = (if any_kind is_rest ps then 16 + key_ids ps else 0) + nested_ids ps
rest_owes _ l fs = 0

-- a declaration becomes another
abbrev pub is_declaration : AstType → Bool
is_declaration VariableDeclaration = true
is_declaration _ = false

-- where the lowering is on, and where it isn't
abbrev pub profile_where : Bool → NodeProfile
profile_where on = record {
  rule = where_on on RestWalkRow;
  constructs = test_where on is_rest_declaration;
  strays = test_where on is_stray_rest;
  barred = barred_where on;
  owes = rest_owes;
  changes = is_declaration;
}

abbrev pub object_rest_profile : EnvOptions → NodeProfile
object_rest_profile o = profile_where (is_some o.es2018.object_rest_spread)
