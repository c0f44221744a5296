-- Array patterns and targets, at programs: every element of a pattern is declared, and every one of a target is written.
use Rattle.std.proofs.Common.{◌≡◌, refl, List, [], ◌∷◌}
use Rattle.std.specs.Prelude.{Bool, true, Option, Some, None, codes, map}
use Rattle.es_tree.specs.HasForm.{has_form}
use Rattle.es_tree.specs.Tree.{Tree, node, Label, done, ◌then◌, missing, one, many, statements, empty, ◌before◌, trees}
use Rattle.es_tree.specs.Words.{Text}
use Rattle.es_tree.specs.declared.ast_type.AstType.TheVariants.{Program, BlockStatement, ExpressionStatement, VariableDeclaration, VariableDeclarator, Identifier, ArrowFunctionExpression, AssignmentExpression, ArrayPattern, ArrayTarget}
use Rattle.es_tree.specs.declared.table.Sort.TheVariants.{Program as s-Program}
use Rattle.es_semantic.specs.ReferencesOf.{is_mutated_of, references_of}
use Rattle.es_semantic.specs.SymbolsOf.{declared, symbols_of}
use Rattle.es_semantic.specs.declared.place.Binding.TheVariants.{Let, Parameter}

abbrev said : List (Option Text) → List Bool → Label
said texts flags = record { id = 0; start = 0; stop = 0; texts = texts; flags = flags; marks = [] }

abbrev name : Text → Tree
name x = node Identifier (said (Some x ∷ []) []) done

abbrev statement : Tree → Tree
statement e = node ExpressionStatement (said [] []) (one e then done)

abbrev let_list : Tree → Tree
let_list declarator = node VariableDeclaration (said (Some (codes "let") ∷ []) []) (many (declarator before empty) then done)

abbrev program : List Tree → Tree
program ts = node Program (said (Some (codes "module") ∷ []) []) (many empty then statements (trees ts) then done)

-- let b; { let [a, b] = c; b; }
abbrev inner : Tree
inner = program (
    let_list (node VariableDeclarator (said [] []) (one (name (codes "b")) then missing then done)) ∷
    node BlockStatement (said [] []) (statements (
    let_list (node VariableDeclarator (said [] []) (one (node ArrayPattern (said [] []) (one (name (codes "a")) then one (name (codes "b")) then done)) then one (name (codes "c")) then done)) before
    statement (name (codes "b")) before empty) then done) ∷ [])

inner-form : has_form s-Program inner ≡ true
inner-form = refl

inner-symbols : symbols_of inner ≡ declared 0 (codes "b") Let ∷ declared 1 (codes "a") Let ∷ declared 1 (codes "b") Let ∷ []
inner-symbols = refl

-- the later `b` is the inner one
inner-references : map (λ r. r.symbol) (references_of inner) ≡ None ∷ Some 2 ∷ []
inner-references = refl

-- ([, b]) => b
abbrev parameter : Tree
parameter = program (statement (node ArrowFunctionExpression (said [] []) (many (node ArrayPattern (said [] []) (missing then one (name (codes "b")) then done) before empty) then one (name (codes "b")) then done)) ∷ [])

parameter-form : has_form s-Program parameter ≡ true
parameter-form = refl

parameter-symbols : symbols_of parameter ≡ declared 1 (codes "b") Parameter ∷ []
parameter-symbols = refl

parameter-references : map (λ r. r.symbol) (references_of parameter) ≡ Some 0 ∷ []
parameter-references = refl

-- let b; [a, b] = c;
abbrev written : Tree
written = program (
    let_list (node VariableDeclarator (said [] []) (one (name (codes "b")) then missing then done)) ∷
    statement (node AssignmentExpression (said (Some (codes "=") ∷ []) []) (one (node ArrayTarget (said [] []) (one (name (codes "a")) then one (name (codes "b")) then done)) then one (name (codes "c")) then done)) ∷ [])

written-form : has_form s-Program written ≡ true
written-form = refl

written-mutated : is_mutated_of written 0 ≡ true
written-mutated = refl
