-- Programs with `using`, and what becomes of them: each has form and breaks no static rule.
use Rattle.std.specs.Prelude.{◌≡◌, [], ◌∷◌, true, Some, codes}
use Rattle.es_tree.specs.Fresh.{IsFreshName, text_base}
use Rattle.es_tree.specs.HasForm.{has_form}
use Rattle.es_tree.specs.StaticRules.{breaks}
use Rattle.es_tree.specs.Tree.{Tree, node, done, ◌then◌, missing, one, many, statements, Trees, empty, ◌before◌}
use Rattle.es_tree.specs.Words.{Text}
use Rattle.es_tree.specs.declared.ast_type.AstType.TheVariants.{BreakStatement, ContinueStatement, EmptyStatement, ForOfStatement, ForStatement, LabeledStatement, Program, SwitchCase, SwitchStatement, TryStatement, VariableDeclaration, VariableDeclarator}
use Rattle.es_tree.specs.declared.error.Rule.TheVariants.{BadUsing}
use Rattle.es_tree.specs.declared.options.EnvOptions.{EnvOptions}
use Rattle.es_tree.specs.declared.table.Sort.TheVariants.{Program as s-Program}
use Rattle.es_resolution.specs.Declarations.{Bound}
use Rattle.es_steps.specs.AllRules.{UsingRule}
use Rattle.es_steps.specs.Laws.{nothing_beside}
use Rattle.es_steps.specs.Nodes.{block_node, declaration_node, declarator_with, identifier, made, word}
use Rattle.es_steps.specs.Open.{opened}
use Rattle.es_steps.specs.Rules.{next_name}
use Rattle.es_steps.specs.Steps.{Whole, the_program, Step, Steps}
use Rattle.es_steps.specs.UsingBlocks.{error_of, method_call, protected, with_context}
use Rattle.es_valid_using.specs.Laws.{with_using}

-- NODES

abbrev pub script : Trees → Tree
script ts = node Program (made (Some (codes "script") ∷ []) []) (many empty then statements ts then done)

-- `using a = b;`, and as it becomes
abbrev pub used : Tree
used = declaration_node (codes "using") (declarator_with (word (codes "a")) (word (codes "b")) ∷ [])

abbrev pub context : Whole → Bound
context w = next_name w (codes "_usingCtx")

abbrev pub constant : Whole → Tree
constant w = declaration_node (codes "const") (declarator_with (word (codes "a")) (method_call (context w) (codes "u") (word (codes "b") ∷ [])) ∷ [])

-- these statements in the `try`
abbrev pub tried : Whole → Trees → Tree
tried w ts = protected (context w) (error_of w) ts

-- `try { ts } finally { }`
abbrev pub try_of : Trees → Tree
try_of ts = node TryStatement (made [] []) (one (block_node ts) then missing then one (block_node empty) then done)

-- `switch (b) { case b: ts break; }`
abbrev pub switch_of : Tree → Tree
switch_of t =
    let leaves : Tree = node BreakStatement (made [] []) (missing then done) in
    node SwitchStatement (made [] []) (one (word (codes "b")) then many (node SwitchCase (made [] []) (one (word (codes "b")) then statements (t before leaves before empty) then done) before empty) then done)

-- `c: t`, and `for (t; ; ) continue c;`
abbrev pub labelled : Tree → Tree
labelled t = node LabeledStatement (made [] []) (one (word (codes "c")) then one t then done)

abbrev pub loop_of : Tree → Tree
loop_of t =
    let goes_on : Tree = node ContinueStatement (made [] []) (one (word (codes "c")) then done) in
    node ForStatement (made [] []) (one t then missing then missing then one goes_on then done)

-- `for (x of b) t`, where the word declares x
abbrev pub for_of : Text → Tree → Tree → Tree
for_of kind x t = node ForOfStatement (made [] []) (one (node VariableDeclaration (made (Some kind ∷ []) []) (many (node VariableDeclarator (made [] []) (one x then missing then done) before empty) then done)) then one (word (codes "b")) then one t then done)

abbrev pub nothing : Tree
nothing = node EmptyStatement (made [] []) done

-- EXAMPLES

-- a program that may be lowered
pub record IsProgram (p : Tree) : Type 0 where
  pub formed : has_form s-Program p ≡ true
  pub kept : breaks p ≡ []

-- both are programs
pub record Both (p : Tree) (q : Whole → Tree) : Type 0 where
  pub source : IsProgram p
  pub left : (w : Whole) → IsProgram (q w)

-- a step leads from one to the other, where options ask for `using`, the context's name is free, and helpers are looked for
abbrev pub Leads : Tree → (Whole → Tree) → Type 0
Leads p q = (o : EnvOptions) (w : Whole) → o.es2026.explicit_resource_management ≡ true → IsFreshName w.in_use (text_base (codes "usingCtx")) (codes "_usingCtx") → w.in_use (codes "babelHelpers") ≡ true → Steps (Step (with_using UsingRule o) the_program) (nothing_beside w) (opened p) (nothing_beside (with_context (codes "_usingCtx") w)) (opened (q w))

pub record Becomes (p : Tree) (q : Whole → Tree) : Type 0 where
  pub both : Both p q
  pub leads : Leads p q

pub record LawUsingExamples : Type 0 where
  -- `{ using a = b; }`
  pub block : Becomes (script (block_node (used before empty) before empty)) (λ w. script (tried w (constant w before empty) before empty))
  -- `try { using a = b; } finally { }`
  pub part : Becomes (script (try_of (used before empty) before empty)) (λ w. script (try_of (tried w (constant w before empty) before empty) before empty))
  -- `switch (b) { case b: using a = b; break; }`
  pub switch_word : Becomes (script (switch_of used before empty)) (λ w. script (tried w (switch_of (constant w) before empty) before empty))
  -- `c: for (using a = b; ; ) continue c;`
  pub loop : Becomes (script (labelled (loop_of used) before empty)) (λ w. script (tried w (labelled (loop_of (constant w)) before empty) before empty))
  -- `for (using a of b) ;` and `for (const _a of b) { using a = _a; ; }`
  pub head : Both (script (for_of (codes "using") (word (codes "a")) nothing before empty)) (λ w. script (for_of (codes "const") (identifier (next_name w (codes "_a"))) (block_node (declaration_node (codes "using") (declarator_with (word (codes "a")) (identifier (next_name w (codes "_a"))) ∷ []) before nothing before empty)) before empty))
  -- `using a = b;` stands at the top of no script
  pub top : breaks (script (used before empty)) ≡ (BadUsing, 0) ∷ []
