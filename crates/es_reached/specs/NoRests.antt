-- The laws of object patterns with a rest and of declarations by `using`: no step of the built lowerings makes one.
use Rattle.std.specs.Prelude.{◌≡◌, ◌&&◌, List, Bool, false}
use Rattle.es_tree.specs.Constructs.{is_object_rest, is_using}
use Rattle.es_tree.specs.HasForm.{same_type}
use Rattle.es_tree.specs.Tree.{Tree, Label, Fields}
use Rattle.es_tree.specs.Walks.{any_node}
use Rattle.es_tree.specs.Words.{Text}
use Rattle.es_tree.specs.declared.ast_type.AstType.{AstType}
use Rattle.es_tree.specs.declared.ast_type.AstType.TheVariants.{ObjectPattern}
use Rattle.es_tree.specs.declared.options.EnvOptions.{EnvOptions}
use Rattle.es_steps.specs.CoreBridge.{Reached, first_whole}
use Rattle.es_reached.specs.Reached.{built_rules}

-- an object pattern with a rest that is declared: one to which a value is assigned is an object target
abbrev pub is_declared_rest : AstType → Label → Fields → Bool
is_declared_rest k l fs = is_object_rest k l fs && same_type k ObjectPattern

-- What steps of the built rules reach from a program without one is without one too.
abbrev pub LawNoDeclaredRests : Type 0
LawNoDeclaredRests = (o : EnvOptions) (p r : Tree) (names : List Text) → Reached (built_rules o) p (first_whole p) names r → any_node is_declared_rest p ≡ false → any_node is_declared_rest r ≡ false

-- So it is of declarations by `using`.
abbrev pub LawNoUsings : Type 0
LawNoUsings = (o : EnvOptions) (p r : Tree) (names : List Text) → Reached (built_rules o) p (first_whole p) names r → any_node is_using p ≡ false → any_node is_using r ≡ false
