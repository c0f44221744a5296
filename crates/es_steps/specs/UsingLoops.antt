-- `using` in the head of a `for` (Explicit Resource Management, 14.7.4): `for (using a = b; c; ) f(a);` becomes
-- `try { var _usingCtx = babelHelpers.usingCtx(); for (const a = _usingCtx.u(b); c; ) f(a); } catch (_) { _usingCtx.e = _; } finally { _usingCtx.d(); }`.
-- The labels of the loop go with it. `for (using a of b) f(a);` becomes `for (const _a of b) { using a = _a; f(a); }`.
use Rattle.std.specs.Prelude.{◌≡◌, Bool, false, List, [], ◌∷◌, Option, Some, codes}
use Rattle.es_resolution.specs.Declarations.{Bound, declared}
use Rattle.es_resolution.specs.Named.{Named}
use Rattle.es_semantic.specs.RolesOf.{reads}
use Rattle.es_semantic.specs.declared.place.Binding.TheVariants.{Constant}
use Rattle.es_semantic.specs.declared.place.Role.TheVariants.{Binds}
use Rattle.es_steps.specs.LoopHeads.{head_fields}
use Rattle.es_steps.specs.Nodes.{identifier, block_node, declarator_with, declaration_node}
use Rattle.es_steps.specs.Patterns.{IsSilent, avoiding}
use Rattle.es_steps.specs.Open.{Pending, Additions}
use Rattle.es_steps.specs.Rules.{next_name, with_made}
use Rattle.es_steps.specs.Steps.{Whole, Ledger, ledger, Site, Spot, at_node}
use Rattle.es_steps.specs.UsingBlocks.{TakesContext, UsedAll, error_of, protected, with_context}
use Rattle.es_tree.specs.Ancestors.{Ancestor, stands_in}
use Rattle.es_tree.specs.Fresh.{IsFreshName, node_base}
use Rattle.es_tree.specs.Tree.{Tree, node, Label, Fields, done, ◌then◌, Field, missing, one, many, Trees, empty, ◌before◌}
use Rattle.es_tree.specs.Words.{Text}
use Rattle.es_tree.specs.declared.ast_type.AstType.TheVariants.{ForOfStatement, ForStatement, Identifier, LabeledStatement, VariableDeclaration, VariableDeclarator}

-- a `for` with this declaration
abbrev pub for_fields : Label → Trees → Field → Field → Field → Fields
for_fields l ds f g h = one (node VariableDeclaration l (many ds then done)) then f then g then h then done

abbrev pub labelled : Label → Tree → Fields
labelled k t = one (node Identifier k done) then one t then done

-- a `for` whose head declares by `using`, maybe with labels
pub data UsesInHead (c : Bound) : Tree → Tree → Type 0 where
  in_head : {m l : Label} {ds es : Trees} {f g h : Field} → l.texts ≡ Some (codes "using") ∷ [] → UsedAll c ds es →
      UsesInHead c (node ForStatement m (for_fields l ds f g h)) (node ForStatement m (for_fields (record l { texts = Some (codes "const") ∷ [] }) es f g h))
  with_label : {m k : Label} {t u : Tree} → UsesInHead c t u → UsesInHead c (node LabeledStatement m (labelled k t)) (node LabeledStatement m (labelled k u))

abbrev pub is_labelled : List Ancestor → Bool
is_labelled up = stands_in LabeledStatement 1 up

pub data LoopUsing : Site → Ledger → Spot → Ledger → Spot → Type 0 where
  of_loop : {n : Site} {w : Whole} {q : Pending} {y : Option Bound} {a : Additions} {t u : Tree} {c : Text} → is_labelled n.above ≡ false → TakesContext w c n.names → UsesInHead (next_name w c) t u →
      LoopUsing n (ledger w q y a) (at_node t) (ledger (with_context c w) q y a) (at_node (protected (next_name w c) (error_of w) (u before empty)))

-- a `for`-`of` whose head declares a constant, with `using` in its block
abbrev pub block_head : Label → Label → Bound → Tree → Tree → Tree → Fields
block_head l k y x e b = one (node VariableDeclaration (record l { texts = Some (codes "const") ∷ [] }) (many (node VariableDeclarator k (one (identifier y) then missing then done) before empty) then done)) then one e then one (block_node (declaration_node (codes "using") (declarator_with x (identifier y) ∷ []) before b before empty)) then done

-- where the right side holds no name of the head; a loop's body declares nothing but by `var`
pub data HeadUsing : Site → Ledger → Spot → Ledger → Spot → Type 0 where
  of_head : {n : Site} {w : Whole} {q : Pending} {y : Option Bound} {a : Additions} {m l k : Label} {x e b : Tree} {c : Text} → l.texts ≡ Some (codes "using") ∷ [] → IsFreshName w.in_use (node_base x) c → Named (avoiding (declared false (Binds Constant) x) w.in_use) w.free_symbol reads e → IsSilent reads e → declared false reads b ≡ [] →
      HeadUsing n (ledger w q y a) (at_node (node ForOfStatement m (head_fields l k x e b))) (ledger (with_made (next_name w c ∷ []) w) q y a) (at_node (node ForOfStatement m (block_head l k (next_name w c) x e b)))
