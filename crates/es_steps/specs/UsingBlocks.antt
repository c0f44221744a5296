-- `using` in a block (Explicit Resource Management, 14.3.1): `{ using a = b; f(a); }` becomes
-- `try { var _usingCtx = babelHelpers.usingCtx(); const a = _usingCtx.u(b); f(a); } catch (_) { _usingCtx.e = _; } finally { _usingCtx.d(); }`.
-- A block that is a statement becomes the `try` itself; one of a `try`, a `catch` or a `finally` stays, with the `try` in it.
use Rattle.std.specs.Prelude.{◌≡◌, ◌+◌, ◌||◌, not, Bool, true, false, List, ◌∷◌, ◌++◌, Option, Some, None, bytes_eq, codes, []}
use Rattle.es_resolution.specs.Declarations.{Bound}
use Rattle.es_resolution.specs.Resolved.{Place, place_in}
use Rattle.es_semantic.specs.RolesOf.{role_at}
use Rattle.es_steps.specs.Nodes.{identifier, word, assign_node, member_node, call_node, block_node, statement_node, declarator_with, declaration_node, try_node, catch_node}
use Rattle.es_steps.specs.Open.{Pending, Additions}
use Rattle.es_steps.specs.Rules.{with_made, next_name}
use Rattle.es_steps.specs.Steps.{Whole, Ledger, ledger, Site, Spot, at_node}
use Rattle.es_tree.specs.Ancestors.{Ancestor, stands_in}
use Rattle.es_tree.specs.Constructs.{is_using}
use Rattle.es_tree.specs.Fresh.{IsFreshName, text_base}
use Rattle.es_tree.specs.Tree.{Tree, node, Label, done, ◌then◌, one, many, statements, Trees, empty, ◌before◌, kind_of, label_of, fields_of}
use Rattle.es_tree.specs.Words.{Text}
use Rattle.es_tree.specs.declared.ast_type.AstType.TheVariants.{BlockStatement, CatchClause, TryStatement, VariableDeclaration, VariableDeclarator}

abbrev pub method_call : Bound → Text → List Tree → Tree
method_call c name arguments = call_node (member_node (identifier c) name) arguments

-- `x = e` becomes `x = c.u(e)`
pub data UsedAll (c : Bound) : Trees → Trees → Type 0 where
  no_more : UsedAll c empty empty
  uses : {l : Label} {x e : Tree} {ds es : Trees} → UsedAll c ds es →
      UsedAll c (node VariableDeclarator l (one x then one e then done) before ds) (node VariableDeclarator l (one x then one (method_call c (codes "u") (e ∷ [])) then done) before es)

abbrev pub is_using_node : Tree → Bool
is_using_node t = is_using (kind_of t) (label_of t) (fields_of t)

abbrev pub has_using : Trees → Bool
has_using empty = false
has_using (t before ts) = is_using_node t || has_using ts

-- the direct `using` declarations of a list become constants
pub data Constants (c : Bound) : Trees → Trees → Type 0 where
  ended : Constants c empty empty
  stays : {t : Tree} {ts us : Trees} → is_using_node t ≡ false → Constants c ts us → Constants c (t before ts) (t before us)
  using : {l : Label} {ds es ts us : Trees} → l.texts ≡ Some (codes "using") ∷ [] → UsedAll c ds es → Constants c ts us →
      Constants c (node VariableDeclaration l (many ds then done) before ts) (node VariableDeclaration (record l { texts = Some (codes "const") ∷ [] }) (many es then done) before us)

abbrev pub error_name : Text
error_name = codes "_"

-- the parameter of the made `catch`, which is `_` itself, with the symbol after that of the context
abbrev pub error_of : Whole → Bound
error_of w = record { name = error_name; symbol = Some (w.free_symbol + 1) }

-- the context, and the parameter of the made `catch`, which is no fresh name
abbrev pub with_context : Text → Whole → Whole
with_context c w = record (with_made (next_name w c ∷ error_of w ∷ []) w) { made = w.made ++ next_name w c ∷ [] }

abbrev pub protected : Bound → Bound → Trees → Tree
protected c u ts =
    try_node (block_node (declaration_node (codes "var") (declarator_with (identifier c) (call_node (member_node (word (codes "babelHelpers")) (codes "usingCtx")) []) ∷ []) before ts))
    (catch_node (identifier u) (block_node (statement_node (assign_node (member_node (identifier c) (codes "e")) (identifier u)) before empty)))
    (block_node (statement_node (method_call c (codes "d") []) before empty))

-- The context's name is fresh, and no name of the made clause; and `babelHelpers` refers to nothing where the context is made.
pub record TakesContext (w : Whole) (c : Text) (p : Place) : Type 0 where
  pub fresh : IsFreshName w.in_use (text_base (codes "usingCtx")) c
  pub other : bytes_eq error_name c ≡ false
  pub helpers : p.scope (codes "babelHelpers") ≡ None
  pub helpers_used : w.in_use (codes "babelHelpers") ≡ true

-- the place inside a block of these statements
abbrev pub inside_block : Site → Label → Trees → Place
inside_block n m ts = place_in n.names BlockStatement m (role_at n.role BlockStatement m (statements ts then done)) (statements ts then done) 0

-- whether a block that stands here is a statement, and no part of a `try`
abbrev pub is_statement_place : List Ancestor → Bool
is_statement_place up = not (stands_in TryStatement 0 up || stands_in TryStatement 2 up || stands_in CatchClause 1 up)

abbrev pub block_of : Label → Trees → Tree
block_of m ts = node BlockStatement m (statements ts then done)

pub data BlockUsing : Site → Ledger → Spot → Ledger → Spot → Type 0 where
  of_block : {n : Site} {w : Whole} {q : Pending} {y : Option Bound} {a : Additions} {m : Label} {ts us : Trees} {c : Text} → is_statement_place n.above ≡ true → has_using ts ≡ true → TakesContext w c (inside_block n m ts) → Constants (next_name w c) ts us →
      BlockUsing n (ledger w q y a) (at_node (block_of m ts)) (ledger (with_context c w) q y a) (at_node (protected (next_name w c) (error_of w) us))
  of_part : {n : Site} {w : Whole} {q : Pending} {y : Option Bound} {a : Additions} {m : Label} {ts us : Trees} {c : Text} → is_statement_place n.above ≡ false → has_using ts ≡ true → TakesContext w c (inside_block n m ts) → Constants (next_name w c) ts us →
      BlockUsing n (ledger w q y a) (at_node (block_of m ts)) (ledger (with_context c w) q y a) (at_node (block_of m (protected (next_name w c) (error_of w) us before empty)))
