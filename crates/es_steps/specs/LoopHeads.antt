-- A pattern with an object rest moves out of the head of a loop (ECMA-262, 14.7.5): `for (const { a, ...b } of c) f(b);` becomes
-- `for (const _ref of c) { const { a, ...b } = _ref; f(b); }`, and `for ({ a, ...b } of c) f(b);` becomes
-- `for (var _ref of c) { { a, ...b } = _ref; f(b); }`. It is lowered where it then stands.
use Rattle.std.specs.Prelude.{◌≡◌, true, false, ◌∷◌, Option, codes, []}
use Rattle.es_resolution.specs.Declarations.{Bound, is_lexical, declared}
use Rattle.es_resolution.specs.Named.{Named}
use Rattle.es_semantic.specs.RolesOf.{reads, binding_of, refers}
use Rattle.es_semantic.specs.declared.place.Binding.TheVariants.{Variable}
use Rattle.es_semantic.specs.declared.place.Role.TheVariants.{Binds}
use Rattle.es_steps.specs.Nodes.{assign_node, block_node, declaration_node, declarator, declarator_with, identifier, statement_node}
use Rattle.es_steps.specs.Open.{Pending, Additions}
use Rattle.es_steps.specs.Patterns.{IsSilent, avoiding, holds_rest}
use Rattle.es_steps.specs.Rules.{with_made, next_name}
use Rattle.es_steps.specs.Steps.{Whole, Ledger, ledger, Site, Spot, at_node}
use Rattle.es_tree.specs.Fresh.{IsFreshName}
use Rattle.es_tree.specs.Names.{first_text}
use Rattle.es_tree.specs.RestTargets.{is_rest_target}
use Rattle.es_tree.specs.Tree.{Tree, node, Label, Fields, done, ◌then◌, missing, one, many, empty, ◌before◌}
use Rattle.es_tree.specs.Words.{Text}
use Rattle.es_tree.specs.declared.ast_type.AstType.{AstType}
use Rattle.es_tree.specs.declared.ast_type.AstType.TheVariants.{ForInStatement, ForOfStatement, VariableDeclaration, VariableDeclarator}

pub data IsForEach : AstType → Type 0 where
  for_in : IsForEach ForInStatement
  for_of : IsForEach ForOfStatement

abbrev pub head_fields : Label → Label → Tree → Tree → Tree → Fields
head_fields l m p e b = one (node VariableDeclaration l (many (node VariableDeclarator m (one p then missing then done) before empty) then done)) then one e then one b then done

abbrev pub new_head : Text → Bound → Tree → Tree → Tree → Fields
new_head kind x p e b = one (declaration_node kind (declarator x ∷ [])) then one e then one (block_node (declaration_node kind (declarator_with p (identifier x) ∷ []) before b before empty)) then done

-- by another word than `var`, where the right side holds no name of the head; a loop's body declares nothing but by `var`
pub data HeadRest : Site → Ledger → Spot → Ledger → Spot → Type 0 where
  lexical_head : {n : Site} {w : Whole} {s : Option Bound} {q : Pending} {a : Additions} {k : AstType} {m l l' : Label} {p e b : Tree} {x : Text} → IsForEach k → holds_rest p ≡ true → IsFreshName w.in_use (codes "ref") x →
      is_lexical (binding_of (first_text l.texts)) ≡ true → Named (avoiding (declared false (Binds (binding_of (first_text l.texts))) p) w.in_use) w.free_symbol reads e → IsSilent reads e → declared false reads b ≡ [] →
      HeadRest n (ledger w q s a) (at_node (node k m (head_fields l l' p e b))) (ledger (with_made (next_name w x ∷ []) w) q s a) (at_node (node k m (new_head (first_text l.texts) (next_name w x) p e b)))
  var_head : {n : Site} {w : Whole} {s : Option Bound} {q : Pending} {a : Additions} {k : AstType} {m l l' : Label} {p e b : Tree} {x : Text} → IsForEach k → holds_rest p ≡ true → IsFreshName w.in_use (codes "ref") x →
      binding_of (first_text l.texts) ≡ Variable → declared false (Binds Variable) p ≡ [] → IsSilent reads e → declared false reads b ≡ [] →
      HeadRest n (ledger w q s a) (at_node (node k m (head_fields l l' p e b))) (ledger (with_made (next_name w x ∷ []) w) q s a) (at_node (node k m (new_head (first_text l.texts) (next_name w x) p e b)))

-- `for (var x of e) { T = x; b }`, where the head assigns to the pattern T
abbrev pub assigning_head : Bound → Tree → Tree → Tree → Fields
assigning_head x t e b = one (declaration_node (codes "var") (declarator x ∷ [])) then one e then one (block_node (statement_node (assign_node t (identifier x)) before b before empty)) then done

pub data TargetHead : Site → Ledger → Spot → Ledger → Spot → Type 0 where
  target_head : {n : Site} {w : Whole} {s : Option Bound} {q : Pending} {a : Additions} {k : AstType} {m : Label} {t e b : Tree} {x : Text} → IsForEach k → is_rest_target (one t) ≡ true → IsFreshName w.in_use (codes "ref") x →
      IsSilent (refers false true) t → IsSilent reads e → declared false reads b ≡ [] →
      TargetHead n (ledger w q s a) (at_node (node k m (one t then one e then one b then done))) (ledger (with_made (next_name w x ∷ []) w) q s a) (at_node (node k m (assigning_head (next_name w x) t e b)))
