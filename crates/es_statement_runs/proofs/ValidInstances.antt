-- Valid programs of the class at which the laws are taken, and programs that break a rule and mean nothing.
use Rattle.std.proofs.Common.{◌≡◌, refl, List, [], ◌∷◌}
use Rattle.std.specs.Prelude.{ℕ, true, false, Some, codes}
use Rattle.es_tree.specs.Words.{Text}
use Rattle.es_tree.specs.StaticRules.{breaks}
use Rattle.es_tree.specs.Tree.{Tree, node, done, ◌then◌, one, many, statements, missing, Trees, empty, ◌before◌}
use Rattle.es_tree.specs.declared.ast_type.AstType.TheVariants.{VariableDeclaration, VariableDeclarator, IfStatement, ForInStatement, SwitchCase, SwitchStatement, BreakStatement, ContinueStatement, LabeledStatement, TryStatement, ThrowStatement, ImportDeclaration, ImportSpecifier, ImportDefaultSpecifier, ExportNamedDeclaration, TemplateLiteral, TemplateElement, TaggedTemplateExpression, ArrayExpression, MemberExpression, NewExpression, ChainExpression, ParenthesizedExpression, UnaryExpression, ObjectPattern, PatternProperty, ArrayPattern, AssignmentPattern, RestElement, ObjectTarget, TargetProperty, ArrayTarget, TargetWithDefault, TargetRest}
use Rattle.es_tree.specs.declared.error.Rule.TheVariants.{MissingLabel, StrayOptional, BadTarget}
use Rattle.es_runs.specs.Machine.{Move}
use Rattle.es_runs.specs.Machine.Value.{undefined}
use Rattle.es_runs.specs.Runs.{made, program}
use Rattle.es_statement_runs.specs.Helpers.Supply.{no_helpers, by_global}
use Rattle.es_statement_runs.specs.Meant.{is_meant}
use Rattle.es_statement_runs.specs.Programs.{IsStatementProgram}
use Rattle.es_statement_runs.specs.Runs.{run, outcome}
use Rattle.es_statement_runs.specs.Runs.Outcome.{meaningless}
use Rattle.es_statement_runs.proofs.Examples.{plain, worded, x_, statement, assign, string, numeral, member, called, spread_of, block, for_of, declaration}
use Rattle.es_statement_runs.proofs.ValidProof.{law_valid_is_meant_proof, law_valid_meaning_proof}

abbrev source : Text → Trees → Tree
source type ts = program (made (Some type ∷ []) []) empty ts

-- `outer: for (const { k, ...r } of a) { switch (k) { case 1: continue outer; default: break; } }`
abbrev pattern : Tree
pattern = plain ObjectPattern (many (node PatternProperty (made [] (true ∷ false ∷ [])) (one (x_ (codes "k")) then one (x_ (codes "k")) then done) before plain RestElement (one (x_ (codes "r")) then done) before empty) then done)

abbrev pattern_head : Tree
pattern_head = worded VariableDeclaration (codes "const") (many (plain VariableDeclarator (one pattern then missing then done) before empty) then done)

abbrev cases : Trees
cases =
    plain SwitchCase (one (numeral (codes "1")) then statements (plain ContinueStatement (one (x_ (codes "outer")) then done) before empty) then done) before
    plain SwitchCase (missing then statements (plain BreakStatement (missing then done) before empty) then done) before empty

abbrev loops : Tree
loops = source (codes "script") (plain LabeledStatement (one (x_ (codes "outer")) then one (for_of pattern_head (x_ (codes "a")) (block (plain SwitchStatement (one (x_ (codes "k")) then many cases then done) before empty))) then done) before empty)

loops_valid : IsStatementProgram loops
loops_valid = record { form = refl; rules = refl; without_functions = refl; names = refl }

loops_meant : is_meant no_helpers loops ≡ true
loops_meant = law_valid_is_meant_proof no_helpers loops loops_valid refl

loops_mean : (n : ℕ) (moves : List Move) → (outcome (run no_helpers n loops undefined moves) ≡ meaningless) → ⊥
loops_mean n moves = law_valid_meaning_proof no_helpers n loops loops_valid refl undefined moves

-- a module: `import d, { n as m } from "s"; { using s = d(); s.o?.p(); } export const [u = 1, , ...v] = [...m];`
abbrev imports : Tree
imports = plain ImportDeclaration (many (plain ImportDefaultSpecifier (one (x_ (codes "d")) then done) before plain ImportSpecifier (one (x_ (codes "n")) then one (x_ (codes "m")) then done) before empty) then one (string (codes "s")) then many empty then done)

abbrev chain : Tree
chain = plain ChainExpression (one (called (node MemberExpression (made [] (false ∷ true ∷ [])) (one (member (x_ (codes "s")) (codes "o")) then one (x_ (codes "p")) then done)) empty) then done)

abbrev elements : Tree
elements = plain ArrayPattern (one (plain AssignmentPattern (one (x_ (codes "u")) then one (numeral (codes "1")) then done)) then missing then one (plain RestElement (one (x_ (codes "v")) then done)) then done)

abbrev exported : Tree
exported = plain ExportNamedDeclaration (one (worded VariableDeclaration (codes "const") (many (plain VariableDeclarator (one elements then one (plain ArrayExpression (one (spread_of (x_ (codes "m"))) then done)) then done) before empty) then done)) then many empty then missing then many empty then done)

abbrev module_ : Tree
module_ = source (codes "module") (imports before block (declaration (codes "using") (codes "s") (called (x_ (codes "d")) empty) before statement chain before empty) before exported before empty)

module_valid : IsStatementProgram module_
module_valid = record { form = refl; rules = refl; without_functions = refl; names = refl }

module_means : (n : ℕ) (moves : List Move) → (outcome (run by_global n module_ undefined moves) ≡ meaningless) → ⊥
module_means n moves = law_valid_meaning_proof by_global n module_ module_valid refl undefined moves

-- ``(a) = b; [c.d, { e: f = 1, ...(g) }] = h; for (i.j in k) x`y${z}`; try { throw new m(...n); } finally { delete o.p; }``
abbrev in_parens : Tree → Tree
in_parens e = plain ParenthesizedExpression (one e then done)

abbrev inner_target : Tree
inner_target = plain ObjectTarget (many (node TargetProperty (made [] (false ∷ false ∷ [])) (one (x_ (codes "e")) then one (plain TargetWithDefault (one (x_ (codes "f")) then one (numeral (codes "1")) then done)) then done) before plain TargetRest (one (in_parens (x_ (codes "g"))) then done) before empty) then done)

abbrev template : Tree
template = plain TemplateLiteral (many (node TemplateElement (made (Some (codes "y") ∷ Some (codes "y") ∷ []) []) done before node TemplateElement (made (Some [] ∷ Some [] ∷ []) []) done before empty) then many (x_ (codes "z") before empty) then done)

abbrev targets : Tree
targets = source (codes "script") (
    statement (assign (in_parens (x_ (codes "a"))) (x_ (codes "b"))) before
    statement (assign (plain ArrayTarget (one (member (x_ (codes "c")) (codes "d")) then one inner_target then done)) (x_ (codes "h"))) before
    plain ForInStatement (one (member (x_ (codes "i")) (codes "j")) then one (x_ (codes "k")) then one (statement (plain TaggedTemplateExpression (one (x_ (codes "x")) then one template then done))) then done) before
    plain TryStatement (
    one (block (plain ThrowStatement (one (plain NewExpression (one (x_ (codes "m")) then many (spread_of (x_ (codes "n")) before empty) then done)) then done) before empty)) then missing then
    one (block (statement (worded UnaryExpression (codes "delete") (one (member (x_ (codes "o")) (codes "p")) then done)) before empty)) then done) before empty)

targets_valid : IsStatementProgram targets
targets_valid = record { form = refl; rules = refl; without_functions = refl; names = refl }

targets_mean : (n : ℕ) (moves : List Move) → (outcome (run no_helpers n targets undefined moves) ≡ meaningless) → ⊥
targets_mean n moves = law_valid_meaning_proof no_helpers n targets targets_valid refl undefined moves

-- WITHOUT A RULE THE LAW WOULD BE WRONG: `if (a) break;`, `a?.b;` outside a chain, and `f() = a;`

abbrev lone_break : Tree
lone_break = source (codes "script") (plain IfStatement (one (x_ (codes "a")) then one (plain BreakStatement (missing then done)) then missing then done) before empty)

break_broken : breaks lone_break ≡ (MissingLabel, 0) ∷ []
break_broken = refl

break_unmeant : is_meant no_helpers lone_break ≡ false
break_unmeant = refl

abbrev lone_mark : Tree
lone_mark = source (codes "script") (statement (node MemberExpression (made [] (false ∷ true ∷ [])) (one (x_ (codes "a")) then one (x_ (codes "b")) then done)) before empty)

mark_broken : breaks lone_mark ≡ (StrayOptional, 0) ∷ []
mark_broken = refl

mark_unmeant : is_meant no_helpers lone_mark ≡ false
mark_unmeant = refl

abbrev called_target : Tree
called_target = source (codes "script") (statement (assign (called (x_ (codes "f")) empty) (x_ (codes "a"))) before empty)

target_broken : breaks called_target ≡ (BadTarget, 0) ∷ []
target_broken = refl

target_unmeant : is_meant no_helpers called_target ≡ false
target_unmeant = refl
