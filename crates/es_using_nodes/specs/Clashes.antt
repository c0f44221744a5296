-- Functions whose body declares directly by `using` (Explicit Resource Management, 14.3.1), and static blocks of classes that do, whose functions at the
-- top can't become those of a block: `function f(g) { using a = b; function g() {} }`.
use Rattle.std.specs.Prelude.{◌&&◌, Bool, false, not}
use Rattle.es_tree.specs.Tree.{Tree, node, Fields, done, ◌then◌, many, one, statements, Trees, empty}
use Rattle.es_tree.specs.declared.ast_type.AstType.{AstType}
use Rattle.es_tree.specs.declared.ast_type.AstType.TheVariants.{ArrowFunctionExpression, FunctionBody, FunctionDeclaration, FunctionExpression, StaticBlock}
use Rattle.es_steps.specs.UsingBlocks.{has_using}
use Rattle.es_using_rows.specs.UsingPlaces.{may_enter}

-- where these are the parameters
abbrev pub clashes_in_body : Trees → Tree → Bool
clashes_in_body ps (node FunctionBody l (many ds then statements ts then done)) = has_using ts && not (may_enter ps ts)
clashes_in_body ps _ = false

-- of a function with a name or without, and of an arrow
abbrev pub clashes_in_function : Fields → Bool
clashes_in_function (f then many ps then one b then done) = clashes_in_body ps b
clashes_in_function _ = false

abbrev pub clashes_in_arrow : Fields → Bool
clashes_in_arrow (many ps then one b then done) = clashes_in_body ps b
clashes_in_arrow _ = false

-- of a static block, which has no parameters
abbrev pub clashes_in_static_block : Fields → Bool
clashes_in_static_block (statements ts then done) = has_using ts && not (may_enter empty ts)
clashes_in_static_block _ = false

abbrev pub clashes : AstType → Fields → Bool
clashes FunctionDeclaration fs = clashes_in_function fs
clashes FunctionExpression fs = clashes_in_function fs
clashes ArrowFunctionExpression fs = clashes_in_arrow fs
clashes StaticBlock fs = clashes_in_static_block fs
clashes _ fs = false
