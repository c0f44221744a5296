-- Nodes that are looked for in a program.
use Rattle.std.specs.Prelude.{Bool}
use Rattle.es_tree.specs.Constructs.{is_object_rest, is_using}
use Rattle.es_tree.specs.Tree.{Label, Fields}
use Rattle.es_tree.specs.declared.ast_type.AstType.{AstType}
use Rattle.es_searches.specs.declared.Sought.{Sought}
use Rattle.es_excluded_keys.specs.ExcludedKeys.{names_helpers}
use Rattle.es_searches.specs.declared.Sought.TheVariants.{DerivedClass, HelpersName, ObjectRest, Using}
use Rattle.es_super_calls.specs.Constructors.{is_derived_class}

abbrev pub is_sought : Sought → AstType → Label → Fields → Bool
is_sought Using k l fs = is_using k l fs
is_sought DerivedClass k l fs = is_derived_class k l fs
is_sought ObjectRest k l fs = is_object_rest k l fs
is_sought HelpersName k l fs = names_helpers k l fs
