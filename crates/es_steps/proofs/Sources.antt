-- Programs with scopes of every kind: with the symbols that the scope table gives them, they are resolved.
use Rattle.std.proofs.Common.{refl, List, [], ◌∷◌}
use Rattle.std.specs.Prelude.{true, false, Some, codes}
use Rattle.es_tree.specs.Words.{Text}
use Rattle.es_tree.specs.Tree.{Tree, node, done, ◌then◌, missing, one, many, statements, empty, ◌before◌, trees}
use Rattle.es_tree.specs.declared.ast_type.AstType.{AstType}
use Rattle.es_tree.specs.declared.ast_type.AstType.TheVariants.{Program, FunctionDeclaration, FunctionExpression, ArrowFunctionExpression, BlockStatement, StaticBlock, ExpressionStatement, VariableDeclaration, VariableDeclarator, LogicalExpression, ClassDeclaration, ClassExpression, PropertyDefinition, MethodDefinition, ForOfStatement, ForStatement, SwitchStatement, SwitchCase, TryStatement, CatchClause, ImportDeclaration, ImportDefaultSpecifier, StringLiteral, ExportNamedDeclaration, ExportSpecifier, LabeledStatement, BreakStatement, ObjectPattern, PatternProperty, AssignmentPattern, Identifier}
use Rattle.es_steps.specs.Nodes.{made, body_node, return_node}
use Rattle.es_resolution.specs.Resolved.{IsResolved}
use Rattle.es_resolution.specs.Laws.{source as seen_program}
use Rattle.es_steps.proofs.Checked.{is_resolved-sound}

abbrev plain : Text → Tree
plain x = node Identifier (made (Some x ∷ []) []) done

abbrev a : Tree
a = plain (codes "a")

abbrev b : Tree
b = plain (codes "b")

abbrev c : Tree
c = plain (codes "c")

abbrev declare : Text → Tree → Tree
declare kind x = node VariableDeclaration (made (Some kind ∷ []) []) (many (node VariableDeclarator (made [] []) (one x then missing then done) before empty) then done)

abbrev statement : Tree → Tree
statement e = node ExpressionStatement (made [] []) (one e then done)

abbrev coalesce : Tree → Tree → Tree
coalesce l r = node LogicalExpression (made (Some (codes "??") ∷ []) []) (one l then one r then done)

abbrev block : List Tree → Tree
block ts = node BlockStatement (made [] []) (statements (trees ts) then done)

abbrev function_of : AstType → Tree → List Tree → List Tree → Tree
function_of k x ps ts = node k (made [] (false ∷ false ∷ [])) (one x then many (trees ps) then one (body_node (trees ts)) then done)

abbrev with_default : Tree → Tree → Tree
with_default x e = node AssignmentPattern (made [] []) (one x then one e then done)

abbrev arrow : List Tree → Tree → Tree
arrow ps e = node ArrowFunctionExpression (made [] (false ∷ [])) (many (trees ps) then one e then done)

abbrev program : List Tree → Tree
program ts = node Program (made (Some (codes "module") ∷ []) []) (many empty then statements (trees ts) then done)

-- var a; function b(a, c = b) { var a; { var c; let b; a; b; c; } function b() {} return () => a ?? b ?? c ?? d; }
abbrev the_functions : Tree
the_functions = (program (declare (codes "var") a ∷ function_of FunctionDeclaration b (a ∷ with_default c b ∷ []) (declare (codes "var") a ∷ block (declare (codes "var") c ∷ declare (codes "let") b ∷ statement a ∷ statement b ∷ statement c ∷ []) ∷ function_of FunctionDeclaration b [] [] ∷ return_node (arrow [] (coalesce (coalesce a b) (coalesce c (plain (codes "d"))))) ∷ []) ∷ []))

functions : IsResolved (seen_program the_functions)
functions = is_resolved-sound (seen_program the_functions) refl

-- (function a(b = a) { var a; a; { function b() { b; } } b; }); a; ({ b: c = b }, a) => c ?? a;
abbrev the_expressions : Tree
the_expressions = (program (statement (function_of FunctionExpression a (with_default b a ∷ []) (declare (codes "var") a ∷ statement a ∷ block (function_of FunctionDeclaration b [] (statement b ∷ []) ∷ []) ∷ statement b ∷ [])) ∷ statement a ∷ statement (arrow (node ObjectPattern (made [] []) (many (node PatternProperty (made [] (false ∷ false ∷ [])) (one b then one (with_default c b) then done) before empty) then done) ∷ a ∷ []) (coalesce c a)) ∷ []))

expressions : IsResolved (seen_program the_expressions)
expressions = is_resolved-sound (seen_program the_expressions) refl

abbrev class_of : AstType → Tree → Tree → List Tree → Tree
class_of k x e ms = node k (made [] []) (one x then one e then many (trees ms) then done)

-- class a extends a { static { var b; b; a; } [b] = a; a(c) { return a ?? c; } } (class b extends b { c = b }); a; b;
abbrev the_classes : Tree
the_classes = (program (class_of ClassDeclaration a a (node StaticBlock (made [] []) (statements (trees (declare (codes "var") b ∷ statement b ∷ statement a ∷ [])) then done) ∷ node PropertyDefinition (made [] (false ∷ true ∷ [])) (one b then one a then done) ∷ node MethodDefinition (made (Some (codes "method") ∷ []) (false ∷ false ∷ [])) (one a then one (node FunctionExpression (made [] (false ∷ false ∷ [])) (missing then many (c before empty) then one (body_node (return_node (coalesce a c) before empty)) then done)) then done) ∷ []) ∷ statement (class_of ClassExpression b b (node PropertyDefinition (made [] (false ∷ false ∷ [])) (one c then one b then done) ∷ [])) ∷ statement a ∷ statement b ∷ []))

classes : IsResolved (seen_program the_classes)
classes = is_resolved-sound (seen_program the_classes) refl

-- for (let a of a) { var b; let a; a; } for (let c; c; c) c; switch (a) { case a: let a; a; function c() {} } a; b; c;
abbrev the_loops : Tree
the_loops = (program (node ForOfStatement (made [] (false ∷ [])) (one (declare (codes "let") a) then one a then one (block (declare (codes "var") b ∷ declare (codes "let") a ∷ statement a ∷ [])) then done) ∷ node ForStatement (made [] []) (one (declare (codes "let") c) then one c then one c then one (statement c) then done) ∷ node SwitchStatement (made [] []) (one a then many (node SwitchCase (made [] []) (one a then statements (trees (declare (codes "let") a ∷ statement a ∷ function_of FunctionDeclaration c [] [] ∷ [])) then done) before empty) then done) ∷ statement a ∷ statement b ∷ statement c ∷ []))

loops : IsResolved (seen_program the_loops)
loops = is_resolved-sound (seen_program the_loops) refl

-- import a from "a"; export { a as b }; try { let a; a; } catch (b) { var c; let a; a; b; c; } a: { break a; } a; b; c;
abbrev the_others : Tree
the_others = (program (node ImportDeclaration (made [] []) (many (node ImportDefaultSpecifier (made [] []) (one a then done) before empty) then one (node StringLiteral (made (Some (codes "a") ∷ []) []) done) then many empty then done) ∷ node ExportNamedDeclaration (made [] []) (missing then many (node ExportSpecifier (made [] []) (one a then one b then done) before empty) then missing then many empty then done) ∷ node TryStatement (made [] []) (one (block (declare (codes "let") a ∷ statement a ∷ [])) then one (node CatchClause (made [] []) (one b then one (block (declare (codes "var") c ∷ declare (codes "let") a ∷ statement a ∷ statement b ∷ statement c ∷ [])) then done)) then missing then done) ∷ node LabeledStatement (made [] []) (one a then one (block (node BreakStatement (made [] []) (one a then done) ∷ [])) then done) ∷ statement a ∷ statement b ∷ statement c ∷ []))

others : IsResolved (seen_program the_others)
others = is_resolved-sound (seen_program the_others) refl
