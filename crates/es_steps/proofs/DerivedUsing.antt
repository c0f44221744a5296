-- Steps that are taken for `using`: in the block of a `try`, in the body of a function, in a static block, in the head
-- of a `for` with a label, in the cases of a `switch`, and in the head of a `for`-`of`.
use Rattle.std.proofs.Common.{arith, ◌≡◌, ℕ, inl, inr, refl, [], ◌∷◌}
use Rattle.std.specs.Prelude.{Bool, true, false, Some, None, codes, ◌==◌, if◌then◌else◌}
use Rattle.es_tree.specs.Words.{Text}
use Rattle.es_tree.specs.Fresh.{IsFreshName, also, is_among}
use Rattle.es_tree.specs.Names.{names_of}
use Rattle.es_tree.specs.Tree.{Tree, Label, node, done, ◌then◌, missing, one, many, statements, Trees, empty, ◌before◌}
use Rattle.es_tree.specs.declared.ast_type.AstType.TheVariants.{ClassDeclaration, ForOfStatement, ForStatement, FunctionDeclaration, LabeledStatement, Program, SwitchCase, SwitchStatement, TryStatement}
use Rattle.es_resolution.specs.Declarations.{Bound, declared}
use Rattle.es_semantic.specs.RolesOf.{reads}
use Rattle.es_resolution.specs.Resolved.{IsResolved}
use Rattle.es_steps.specs.AllRules.{UsingRule}
use Rattle.es_steps.specs.Nodes.{made, identifier, word, declarator_with, declaration_node}
use Rattle.es_steps.specs.Open.{no_additions, nothing_pending, opened}
use Rattle.es_steps.specs.Rules.{next_name, with_made}
use Rattle.es_steps.specs.Steps.{Whole, the_program, Step, Steps}
use Rattle.es_steps.specs.Steps.FieldStep.{in_child, in_program}
use Rattle.es_steps.specs.Steps.FieldsStep.{in_first, in_later}
use Rattle.es_steps.specs.Steps.Ledger.{ledger}
use Rattle.es_steps.specs.Steps.Step.{acts, inside}
use Rattle.es_steps.specs.Steps.Steps.{stays, goes}
use Rattle.es_steps.specs.Steps.TreesStep.{in_head}
use Rattle.es_steps.specs.ParameterPatterns.IsFunctionName.{named}
use Rattle.es_steps.specs.UsingBlocks.{block_of, error_of, method_call, protected, with_context}
use Rattle.es_steps.specs.UsingBlocks.BlockUsing.{of_part}
use Rattle.es_steps.specs.UsingBlocks.Constants.{ended, using, stays as is_left}
use Rattle.es_steps.specs.UsingBlocks.UsedAll.{no_more, uses}
use Rattle.es_steps.specs.UsingBodies.{body, function_fields, class_fields, static_block}
use Rattle.es_steps.specs.UsingBodies.BodyUsing.{of_declaration, of_static_block}
use Rattle.es_steps.specs.UsingBodies.IsClass.{class_declaration}
use Rattle.es_steps.specs.UsingBodies.Directives.{no_directive}
use Rattle.es_steps.specs.UsingBodies.TopFunctions.{no_function, function, other}
use Rattle.es_steps.specs.LoopHeads.{head_fields}
use Rattle.es_steps.specs.UsingLoops.{block_head, for_fields, labelled}
use Rattle.es_steps.specs.UsingLoops.HeadUsing.{of_head}
use Rattle.es_steps.specs.UsingLoops.LoopUsing.{of_loop}
use Rattle.es_steps.specs.UsingLoops.UsesInHead.{in_head as uses_in_head, with_label}
use Rattle.es_steps.specs.UsingSwitches.{switch_fields}
use Rattle.es_steps.specs.UsingSwitches.ConstantsInCases.{no_case, in_case}
use Rattle.es_steps.specs.UsingSwitches.SwitchUsing.{of_switch}
use Rattle.es_steps.proofs.Checked.{is_resolved-sound}

abbrev name : Text → ℕ → Tree
name x s = identifier (record { name = x; symbol = Some s })

abbrev program : Tree → Tree
program t = node Program (made (Some (codes "script") ∷ []) []) (many empty then statements (t before empty) then done)

-- what is known at first of a program whose symbols are those of `x`, `y` and `f`
abbrev first_names : ℕ → Text
first_names s = if s == 0 then codes "x" else if s == 1 then codes "y" else codes "f"

abbrev first_whole : ℕ → Tree → Whole
first_whole free t = record { in_use = also (codes "babelHelpers") (is_among (names_of (program t))); steady = λ s. true; free_symbol = free; called = first_names; made = [] }

abbrev context : Text
context = codes "_usingCtx"

-- `using x = z`, and what becomes of it
abbrev using_x : Tree
using_x = declaration_node (codes "using") (declarator_with (name (codes "x") 0) (word (codes "z")) ∷ [])

abbrev constant_x : Bound → Tree
constant_x c = declaration_node (codes "const") (declarator_with (name (codes "x") 0) (method_call c (codes "u") (word (codes "z") ∷ [])) ∷ [])

-- TRY: `try { using x = z; } finally {}`

abbrev try_with : Trees → Tree
try_with ts = node TryStatement (made [] []) (one (block_of (made [] []) ts) then missing then one (block_of (made [] []) empty) then done)

abbrev try_source : Tree
try_source = try_with (using_x before empty)

abbrev try_whole : Whole
try_whole = first_whole 1 try_source

abbrev try_lowered : Tree
try_lowered = try_with (protected (next_name try_whole context) (error_of try_whole) (constant_x (next_name try_whole context) before empty) before empty)

try-fresh : IsFreshName try_whole.in_use (codes "usingCtx") context
try-fresh = record { number = 0; name = refl; free = refl; first = λ m h. absurd (omega arith) }

try-derived : Steps (Step UsingRule the_program) (ledger try_whole nothing_pending None no_additions) (opened (program try_source)) (ledger (with_context context try_whole) nothing_pending None no_additions) (opened (program try_lowered))
try-derived = goes (inside (in_later (in_first (in_program refl (in_head (inside (in_first (in_child (acts (block_of (made [] []) (using_x before empty)) _ (inl (of_part refl refl (record { fresh = try-fresh; other = refl; helpers = refl; helpers_used = refl }) (using refl (uses no_more) ended)))))))))))) stays

try-source-resolved : IsResolved (program try_source)
try-source-resolved = is_resolved-sound (program try_source) refl

try-lowered-resolved : IsResolved (program try_lowered)
try-lowered-resolved = is_resolved-sound (program try_lowered) refl

-- A BODY: `function f() { using x = z; function y() {} }`, where `y` is then the block's

abbrev function_of : Text → ℕ → Trees → Tree
function_of x s ts = node FunctionDeclaration (made [] (false ∷ false ∷ [])) (function_fields (one (name x s)) empty (body (made [] []) empty ts))

abbrev inner_function : Tree
inner_function = function_of (codes "y") 1 empty

abbrev body_source : Tree
body_source = function_of (codes "f") 2 (using_x before inner_function before empty)

abbrev body_whole : Whole
body_whole = first_whole 3 body_source

abbrev body_lowered : Tree
body_lowered = function_of (codes "f") 2 (protected (next_name body_whole context) (error_of body_whole) (constant_x (next_name body_whole context) before inner_function before empty) before empty)

body-fresh : IsFreshName body_whole.in_use (codes "usingCtx") context
body-fresh = record { number = 0; name = refl; free = refl; first = λ m h. absurd (omega arith) }

body-derived : Steps (Step UsingRule the_program) (ledger body_whole nothing_pending None no_additions) (opened (program body_source)) (ledger (with_context context body_whole) nothing_pending None no_additions) (opened (program body_lowered))
body-derived = goes (inside (in_later (in_first (in_program refl (in_head (acts body_source body_lowered (inr (inl (of_declaration named no_directive refl (record { functions = other refl (function no_function); parameters = refl; vars = refl; lexical = refl; once = refl }) (record { fresh = body-fresh; other = refl; helpers = refl; helpers_used = refl }) (using refl (uses no_more) (is_left refl ended))))))))))) stays

body-source-resolved : IsResolved (program body_source)
body-source-resolved = is_resolved-sound (program body_source) refl

body-lowered-resolved : IsResolved (program body_lowered)
body-lowered-resolved = is_resolved-sound (program body_lowered) refl

-- A STATIC BLOCK: `class f { static { using x = z; } }`

abbrev class_of : Trees → Tree
class_of ts = node ClassDeclaration (record (made [] []) { marks = Some 3 ∷ [] }) (class_fields (one (name (codes "f") 2)) missing (static_block (made [] []) ts before empty))

abbrev class_source : Tree
class_source = class_of (using_x before empty)

abbrev class_whole : Whole
class_whole = first_whole 4 class_source

abbrev class_lowered : Tree
class_lowered = class_of (protected (next_name class_whole context) (error_of class_whole) (constant_x (next_name class_whole context) before empty) before empty)

class-fresh : IsFreshName class_whole.in_use (codes "usingCtx") context
class-fresh = record { number = 0; name = refl; free = refl; first = λ m h. absurd (omega arith) }

class-derived : Steps (Step UsingRule the_program) (ledger class_whole nothing_pending None no_additions) (opened (program class_source)) (ledger (with_context context class_whole) nothing_pending None no_additions) (opened (program class_lowered))
class-derived = goes (inside (in_later (in_first (in_program refl (in_head (acts class_source class_lowered (inr (inl (of_static_block (made [] []) empty empty (using_x before empty) (constant_x (next_name class_whole context) before empty) class_declaration refl (record { functions = other refl no_function; parameters = refl; vars = refl; lexical = refl; once = refl }) (record { fresh = class-fresh; other = refl; helpers = refl; helpers_used = refl }) (using refl (uses no_more) ended)))))))))) stays

class-source-resolved : IsResolved (program class_source)
class-source-resolved = is_resolved-sound (program class_source) refl

class-lowered-resolved : IsResolved (program class_lowered)
class-lowered-resolved = is_resolved-sound (program class_lowered) refl

-- A LOOP: `f: for (using x = z; ; ) {}`

abbrev loop_of : Text → Tree → Tree
loop_of kind d = node LabeledStatement (made [] []) (labelled (made (Some (codes "f") ∷ []) []) (node ForStatement (made [] []) (for_fields (made (Some kind ∷ []) []) (d before empty) missing missing (one (block_of (made [] []) empty)))))

abbrev loop_source : Tree
loop_source = loop_of (codes "using") (declarator_with (name (codes "x") 0) (word (codes "z")))

abbrev loop_whole : Whole
loop_whole = first_whole 1 loop_source

abbrev loop_lowered : Tree
loop_lowered = protected (next_name loop_whole context) (error_of loop_whole) (loop_of (codes "const") (declarator_with (name (codes "x") 0) (method_call (next_name loop_whole context) (codes "u") (word (codes "z") ∷ []))) before empty)

loop-fresh : IsFreshName loop_whole.in_use (codes "usingCtx") context
loop-fresh = record { number = 0; name = refl; free = refl; first = λ m h. absurd (omega arith) }

loop-derived : Steps (Step UsingRule the_program) (ledger loop_whole nothing_pending None no_additions) (opened (program loop_source)) (ledger (with_context context loop_whole) nothing_pending None no_additions) (opened (program loop_lowered))
loop-derived = goes (inside (in_later (in_first (in_program refl (in_head (acts loop_source loop_lowered (inr (inr (inl (of_loop refl (record { fresh = loop-fresh; other = refl; helpers = refl; helpers_used = refl }) (with_label (uses_in_head refl (uses no_more))))))))))))) stays

loop-source-resolved : IsResolved (program loop_source)
loop-source-resolved = is_resolved-sound (program loop_source) refl

loop-lowered-resolved : IsResolved (program loop_lowered)
loop-lowered-resolved = is_resolved-sound (program loop_lowered) refl

-- A SWITCH: `switch (z) { default: using x = z; }`

abbrev switch_of : Trees → Tree
switch_of ts = node SwitchStatement (made [] []) (switch_fields (one (word (codes "z"))) (node SwitchCase (made [] []) (missing then statements ts then done) before empty))

abbrev switch_source : Tree
switch_source = switch_of (using_x before empty)

abbrev switch_whole : Whole
switch_whole = first_whole 1 switch_source

abbrev switch_lowered : Tree
switch_lowered = protected (next_name switch_whole context) (error_of switch_whole) (switch_of (constant_x (next_name switch_whole context) before empty) before empty)

switch-fresh : IsFreshName switch_whole.in_use (codes "usingCtx") context
switch-fresh = record { number = 0; name = refl; free = refl; first = λ m h. absurd (omega arith) }

switch-derived : Steps (Step UsingRule the_program) (ledger switch_whole nothing_pending None no_additions) (opened (program switch_source)) (ledger (with_context context switch_whole) nothing_pending None no_additions) (opened (program switch_lowered))
switch-derived = goes (inside (in_later (in_first (in_program refl (in_head (acts switch_source switch_lowered (inr (inr (inr (inl (of_switch refl refl (record { fresh = switch-fresh; other = refl; helpers = refl; helpers_used = refl }) (in_case (using refl (uses no_more) ended) no_case)))))))))))) stays

switch-source-resolved : IsResolved (program switch_source)
switch-source-resolved = is_resolved-sound (program switch_source) refl

switch-lowered-resolved : IsResolved (program switch_lowered)
switch-lowered-resolved = is_resolved-sound (program switch_lowered) refl

-- A HEAD: `for (using x of z) {}`, which becomes `for (const _x of z) { using x = _x; {} }`

abbrev x_label : Label
x_label = made (Some (codes "using") ∷ []) []

abbrev head_source : Tree
head_source = node ForOfStatement (made [] (false ∷ [])) (head_fields x_label (made [] []) (name (codes "x") 0) (word (codes "z")) (block_of (made [] []) empty))

abbrev head_whole : Whole
head_whole = first_whole 1 head_source

abbrev new_x : Text
new_x = codes "_x"

abbrev head_lowered : Tree
head_lowered = node ForOfStatement (made [] (false ∷ [])) (block_head x_label (made [] []) (next_name head_whole new_x) (name (codes "x") 0) (word (codes "z")) (block_of (made [] []) empty))

head-fresh : IsFreshName head_whole.in_use (codes "x") new_x
head-fresh = record { number = 0; name = refl; free = refl; first = λ m h. absurd (omega arith) }

head-silent : (v : Bool) → declared v reads (word (codes "z")) ≡ []
head-silent true = refl
head-silent false = refl

head-derived : Steps (Step UsingRule the_program) (ledger head_whole nothing_pending None no_additions) (opened (program head_source)) (ledger (with_made (next_name head_whole new_x ∷ []) head_whole) nothing_pending None no_additions) (opened (program head_lowered))
head-derived = goes (inside (in_later (in_first (in_program refl (in_head (acts head_source head_lowered (inr (inr (inr (inr (of_head refl head-fresh ((refl, tt), tt) head-silent refl))))))))))) stays

head-source-resolved : IsResolved (program head_source)
head-source-resolved = is_resolved-sound (program head_source) refl

head-lowered-resolved : IsResolved (program head_lowered)
head-lowered-resolved = is_resolved-sound (program head_lowered) refl
