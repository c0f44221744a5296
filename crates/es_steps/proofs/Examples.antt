-- A program with scopes inside one another, resolved, and two wrong ones.
use Rattle.std.proofs.Common.{◌≡◌, ℕ, refl, [], ◌∷◌}
use Rattle.std.specs.Prelude.{false, Some, codes}
use Rattle.es_tree.specs.Words.{Text}
use Rattle.es_tree.specs.Tree.{Tree, node, done, ◌then◌, missing, one, many, statements, empty, ◌before◌}
use Rattle.es_tree.specs.declared.ast_type.AstType.TheVariants.{Program, FunctionDeclaration, ArrowFunctionExpression, BlockStatement, ExpressionStatement, ReturnStatement, VariableDeclaration, VariableDeclarator, LogicalExpression, ClassDeclaration}
use Rattle.es_steps.specs.Nodes.{made, identifier, body_node}
use Rattle.es_semantic.specs.RolesOf.{reads}
use Rattle.es_resolution.specs.Resolved.{IsResolved, no_name}
use Rattle.es_steps.proofs.Checked.{is_resolved-sound}
use Rattle.es_resolution.specs.Single.{scopes_with}

abbrev name : Text → ℕ → Tree
name x s = identifier (record { name = x; symbol = Some s })

abbrev declare : Text → Text → ℕ → Tree
declare kind x s = node VariableDeclaration (made (Some kind ∷ []) []) (many (node VariableDeclarator (made [] []) (one (name x s) then missing then done) before empty) then done)

abbrev statement : Tree → Tree
statement e = node ExpressionStatement (made [] []) (one e then done)

abbrev coalesce : Tree → Tree → Tree
coalesce a b = node LogicalExpression (made (Some (codes "??") ∷ []) []) (one a then one b then done)

abbrev arrow : Tree → Tree
arrow e = node ArrowFunctionExpression (made [] []) (many empty then one e then done)

-- the name of a class declaration has two symbols: one around the class, and one inside it, which is the mark of the node
abbrev class : Text → ℕ → ℕ → Tree → Tree
class x outer own e = node ClassDeclaration (record (made [] []) { marks = Some own ∷ [] }) (one (name x outer) then one e then many empty then done)

-- function f(a) { { var b; let a; a ?? b; } class C extends (() => C) {} return () => a ?? b; }
-- where the `a` of the block has the symbol t, and that of the arrow the symbol u
abbrev program : ℕ → ℕ → Tree
program t u = node Program (made (Some (codes "script") ∷ []) []) (many empty then statements (
    node FunctionDeclaration (made [] (false ∷ false ∷ [])) (one (name (codes "f") 0) then many (name (codes "a") 1 before empty) then one (body_node (
    node BlockStatement (made [] []) (statements (declare (codes "var") (codes "b") 2 before declare (codes "let") (codes "a") 3 before statement (coalesce (name (codes "a") t) (name (codes "b") 2)) before empty) then done) before
    class (codes "C") 4 5 (arrow (name (codes "C") 5)) before
    node ReturnStatement (made [] []) (one (arrow (coalesce (name (codes "a") u) (name (codes "b") 2))) then done) before empty)) then done) before empty) then done)

right : IsResolved (program 3 1)
right = is_resolved-sound (program 3 1) refl

-- the `a` of the block isn't the parameter
wrong_inside : IsResolved (program 1 1) → ⊥
wrong_inside h = absurd (cc h.2.1.0.0.2.1.1.0.2.1.0.0.2.0.1.1.0.2.0.2.0.0)

abbrev scopes : ℕ → Tree → ℕ
scopes s t = scopes_with s no_name reads t

each_symbol : (scopes 0 (program 3 1) ≡ 1) × (scopes 1 (program 3 1) ≡ 1) × (scopes 2 (program 3 1) ≡ 1) × (scopes 3 (program 3 1) ≡ 1) × (scopes 4 (program 3 1) ≡ 1) × (scopes 5 (program 3 1) ≡ 1) × (scopes 6 (program 3 1) ≡ 0)
each_symbol = (refl, refl, refl, refl, refl, refl, refl)
