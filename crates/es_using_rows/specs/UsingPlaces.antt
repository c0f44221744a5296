-- Where `using` is lowered (Explicit Resource Management, 14.3.1): in the body of a function, in a static block of a class (15.7), in a block, a block
-- of a `try`, a `catch` or a `finally` among them, in the cases of a `switch` (14.12), and in the head of a `for` (14.7.4), which its labels go with.
use Rattle.std.specs.Prelude.{◌&&◌, ◌||◌, not, Bool, false, true, List, [], ◌∷◌, Option, Some, bytes_eq, codes, ℕ, zero, suc}
use Rattle.es_tree.specs.Names.{first_text}
use Rattle.es_tree.specs.Tree.{Tree, node, Label, Fields, done, ◌then◌, one, many, statements, Trees, empty, ◌before◌, label_of}
use Rattle.es_tree.specs.Words.{Text}
use Rattle.es_tree.specs.declared.ast_type.AstType.{AstType}
use Rattle.es_tree.specs.declared.ast_type.AstType.TheVariants.{ArrowFunctionExpression, BlockStatement, CatchClause, ExportDefaultDeclaration, ExportNamedDeclaration, ForStatement, FunctionBody, FunctionDeclaration, FunctionExpression, LabeledStatement, StaticBlock, SwitchCase, SwitchStatement, TryStatement, VariableDeclaration, VariableDeclarator}
use Rattle.es_steps.specs.UsingBlocks.{has_using, is_using_node}
use Rattle.es_steps.specs.UsingSwitches.{some_case_has_using}
use Rattle.es_rest_rows.specs.RestRows.{binds_name}
use Rattle.es_rest_shapes.specs.RestShapes.{any_tree}
use Rattle.es_pattern_moves.specs.PatternMoves.{is_called, var_declares}
use Rattle.es_using_rows.specs.declared.standing.Standing.{Standing}
use Rattle.es_using_rows.specs.declared.standing.Standing.TheVariants.{Anywhere, Labelled, Part}

-- WHERE A NODE STANDS: in this field of a node of this kind
abbrev pub standing_in : AstType → ℕ → Standing
standing_in TryStatement zero = Part
standing_in TryStatement (suc (suc zero)) = Part
standing_in CatchClause (suc zero) = Part
standing_in LabeledStatement (suc zero) = Labelled
standing_in _ i = Anywhere

abbrev pub is_part : Standing → Bool
is_part Part = true
is_part _ = false

abbrev pub is_labelled : Standing → Bool
is_labelled Labelled = true
is_labelled _ = false

-- DECLARATIONS by `using`, each with a value: `using a = b, c = d;`

-- a declarator with a value
abbrev pub has_value : Tree → Bool
has_value (node VariableDeclarator l (one x then one e then done)) = true
has_value _ = false

abbrev pub have_values : Trees → Bool
have_values empty = true
have_values (d before ds) = has_value d && have_values ds

abbrev pub is_using_word : List (Option Text) → Bool
is_using_word (Some x ∷ []) = bytes_eq x (codes "using")
is_using_word _ = false

-- a declaration that can become one of constants
abbrev pub is_used : Tree → Bool
is_used (node VariableDeclaration l (many (d before ds) then done)) = is_using_word l.texts && have_values (d before ds)
is_used _ = false

-- each direct `using` of these statements can
abbrev pub are_used : Trees → Bool
are_used empty = true
are_used (t before ts) = (not (is_using_node t) || is_used t) && are_used ts

-- LISTS of statements that are lowered
abbrev pub uses_in_list : Trees → Bool
uses_in_list ts = has_using ts && are_used ts

-- the cases of a `switch`
abbrev pub is_used_case : Tree → Bool
is_used_case (node SwitchCase l (f then statements ts then done)) = are_used ts
is_used_case _ = false

abbrev pub are_used_cases : Trees → Bool
are_used_cases empty = true
are_used_cases (t before ts) = is_used_case t && are_used_cases ts

-- LOOPS: `for (using a = b; c; d) f(a);`, maybe with labels
abbrev pub uses_in_head : Fields → Bool
uses_in_head (one t then f then g then h then done) = is_used t
uses_in_head _ = false

abbrev pub leads_to_head : Tree → Bool
leads_to_head (node ForStatement l fs) = uses_in_head fs
leads_to_head (node LabeledStatement l (one t then one u then done)) = leads_to_head u
leads_to_head _ = false

-- BODIES of functions: `function f() { using a = b; return a; }`. A function at the top of one becomes one of the block (14.2.1), where no other declares
-- its name as at the top of a body, by `var` or as a function (10.2.11), which in a block is declared as by `var`, too (B.3.2.1), and no parameter has it.
-- An export would hand on where it stands, and stands in no body.

abbrev pub is_export : Tree → Bool
is_export (node ExportNamedDeclaration l fs) = true
is_export (node ExportDefaultDeclaration l fs) = true
is_export _ = false

-- a function of this name
abbrev pub is_function_of : Text → Tree → Bool
is_function_of x (node FunctionDeclaration l (one t then fs)) = is_called x t
is_function_of x _ = false

-- whether a statement at the top declares this name by `var`, or as a function in a block
abbrev pub var_at_top : Text → Tree → Bool
var_at_top x (node FunctionDeclaration l fs) = false
var_at_top x t = var_declares x t

-- whether no other declares this name of a function, where these are the parameters, these all statements, and these those behind the function
abbrev pub is_alone : Text → Trees → Trees → Trees → Bool
is_alone x ps ts us = not (any_tree (binds_name x) ps) && not (any_tree (var_at_top x) ts) && not (any_tree (is_function_of x) us)

-- a statement with those behind it: a function that is alone, or none
abbrev pub enters : Trees → Trees → Tree → Trees → Bool
enters ps ts (node FunctionDeclaration l (one t then fs)) us = is_alone (first_text (label_of t).texts) ps ts us
enters ps ts (node FunctionDeclaration l fs) us = false
enters ps ts t us = not (is_export t)

-- these of the statements of a body
abbrev pub all_enter : Trees → Trees → Trees → Bool
all_enter ps ts empty = true
all_enter ps ts (t before us) = enters ps ts t us && all_enter ps ts us

abbrev pub may_enter : Trees → Trees → Bool
may_enter ps ts = all_enter ps ts ts

-- where these are the parameters
abbrev pub uses_in_body : Trees → Tree → Bool
uses_in_body ps (node FunctionBody l (many ds then statements ts then done)) = uses_in_list ts && may_enter ps ts
uses_in_body ps _ = false

-- of a function with a name or without, and of an arrow
abbrev pub uses_in_function : Fields → Bool
uses_in_function (f then many ps then one b then done) = uses_in_body ps b
uses_in_function _ = false

abbrev pub uses_in_arrow : Fields → Bool
uses_in_arrow (many ps then one b then done) = uses_in_body ps b
uses_in_arrow _ = false

-- STATIC BLOCKS of classes, whose functions at the top are those of a body, without parameters: `class A { static { using a = b; f(a); } }`
abbrev pub uses_in_static_block : Fields → Bool
uses_in_static_block (statements ts then done) = uses_in_list ts && may_enter empty ts
uses_in_static_block _ = false

-- THE NODES at which `using` is lowered
abbrev pub uses_here : Standing → AstType → Label → Fields → Bool
uses_here s BlockStatement l (statements ts then done) = uses_in_list ts
uses_here s SwitchStatement l (d then many cs then done) = some_case_has_using cs && are_used_cases cs
uses_here s ForStatement l fs = not (is_labelled s) && uses_in_head fs
uses_here s LabeledStatement l fs = not (is_labelled s) && leads_to_head (node LabeledStatement l fs)
uses_here s FunctionDeclaration l fs = uses_in_function fs
uses_here s FunctionExpression l fs = uses_in_function fs
uses_here s ArrowFunctionExpression l fs = uses_in_arrow fs
uses_here s StaticBlock l fs = uses_in_static_block fs
uses_here s _ l fs = false
