-- What a node becomes at which `using` is lowered takes of its number only the context of this number, and the parameter of the `catch`.
use Rattle.std.proofs.Common.{◌≡◌, ◌∙◌, ℕ, refl, sym}
use Rattle.std.specs.Prelude.{if◌then◌else◌}
use Rattle.es_tree.specs.Tree.{Tree, node, Label, Fields, done, ◌then◌, one, many, statements, Trees, empty, ◌before◌}
use Rattle.es_tree.specs.Words.{Text}
use Rattle.es_tree.specs.declared.ast_type.AstType.{AstType}
use Rattle.es_tree.specs.declared.ast_type.AstType.TheVariants.{ArrowFunctionExpression, BlockStatement, ForStatement, FunctionBody, FunctionDeclaration, FunctionExpression, LabeledStatement, StaticBlock, SwitchCase, SwitchStatement, VariableDeclaration, VariableDeclarator}
use Rattle.es_resolution.specs.Declarations.{Bound}
use Rattle.es_steps.specs.Rules.{next_name}
use Rattle.es_steps.specs.Steps.{Whole}
use Rattle.es_steps.specs.UsingBlocks.{error_of, is_using_node}
use Rattle.es_using_rows.specs.Used.{Makes, by_bounds, const_label, constant, constants, tried, used_arrow, used_block, used_body, used_case, used_cases, used_declaration, used_declarator, used_declarators, used_function, used_head, used_loop, used_node, used_static_block, used_switch}
use Rattle.es_using_rows.specs.UsingPlaces.{is_part}
use Rattle.es_using_rows.specs.UsingRows.{making}
use Rattle.es_using_rows.specs.declared.standing.Standing.{Standing}

module _ (f g : ℕ → Bound) (n : ℕ) where
  abbrev m : Makes
  m = by_bounds f g

  -- with these two, whatever number they have
  abbrev a : Makes
  a = by_bounds (λ i. f n) (λ i. g n)

  declarator-at : (d : Tree) → used_declarator m n d ≡ used_declarator a n d
  declarator-at (node VariableDeclarator l (one x then one e then done)) = refl
  declarator-at _ = refl

  declarators-at : (ds : Trees) → used_declarators m n ds ≡ used_declarators a n ds
  declarators-at empty = refl
  declarators-at (d before ds) = λ i. declarator-at d i before declarators-at ds i

  declaration-at : (t : Tree) → used_declaration m n t ≡ used_declaration a n t
  declaration-at (node VariableDeclaration l (many ds then done)) = λ i. node VariableDeclaration (const_label l) (many (declarators-at ds i) then done)
  declaration-at _ = refl

  constant-at : (t : Tree) → constant m n t ≡ constant a n t
  constant-at t = λ i. if is_using_node t then declaration-at t i else t

  constants-at : (ts : Trees) → constants m n ts ≡ constants a n ts
  constants-at empty = refl
  constants-at (t before ts) = λ i. constant-at t i before constants-at ts i

  block-at : (s : Standing) (l : Label) (fs : Fields) → used_block m s n l fs ≡ used_block a s n l fs
  block-at s l (statements ts then done) = λ i. if is_part s then node BlockStatement l (statements (tried a n (node BlockStatement l (statements ts then done)) (constants-at ts i) before empty) then done) else tried a n (node BlockStatement l (statements ts then done)) (constants-at ts i)
  block-at s l _ = refl

  case-at : (t : Tree) → used_case m n t ≡ used_case a n t
  case-at (node SwitchCase l (f then statements ts then done)) = λ i. node SwitchCase l (f then statements (constants-at ts i) then done)
  case-at _ = refl

  cases-at : (ts : Trees) → used_cases m n ts ≡ used_cases a n ts
  cases-at empty = refl
  cases-at (t before ts) = λ i. case-at t i before cases-at ts i

  switch-at : (l : Label) (fs : Fields) → used_switch m n l fs ≡ used_switch a n l fs
  switch-at l (d then many cs then done) = λ i. tried a n (node SwitchStatement l (d then many cs then done)) (node SwitchStatement l (d then many (cases-at cs i) then done) before empty)
  switch-at l _ = refl

  head-at : (fs : Fields) → used_head m n fs ≡ used_head a n fs
  head-at (one t then fs) = λ i. one (declaration-at t i) then fs
  head-at _ = refl

  loop-at : (t : Tree) → used_loop m n t ≡ used_loop a n t
  loop-at (node ForStatement l fs) = λ i. node ForStatement l (head-at fs i)
  loop-at (node LabeledStatement l (one t then one u then done)) = λ i. node LabeledStatement l (one t then one (loop-at u i) then done)
  loop-at _ = refl

  body-at : (b : Tree) → used_body m n b ≡ used_body a n b
  body-at (node FunctionBody l (many ds then statements ts then done)) = λ i. node FunctionBody l (many ds then statements (tried a n (node FunctionBody l (many ds then statements ts then done)) (constants-at ts i) before empty) then done)
  body-at _ = refl

  function-at : (fs : Fields) → used_function m n fs ≡ used_function a n fs
  function-at (f then many ps then one b then done) = λ i. f then many ps then one (body-at b i) then done
  function-at _ = refl

  arrow-at : (fs : Fields) → used_arrow m n fs ≡ used_arrow a n fs
  arrow-at (many ps then one b then done) = λ i. many ps then one (body-at b i) then done
  arrow-at _ = refl

  static-at : (l : Label) (fs : Fields) → used_static_block m n l fs ≡ used_static_block a n l fs
  static-at l (statements ts then done) = λ i. node StaticBlock l (statements (tried a n (node StaticBlock l (statements ts then done)) (constants-at ts i) before empty) then done)
  static-at l _ = refl

  node-at : (s : Standing) (k : AstType) (l : Label) (fs : Fields) → used_node m s n k l fs ≡ used_node a s n k l fs
  node-at s BlockStatement l fs = block-at s l fs
  node-at s SwitchStatement l fs = switch-at l fs
  node-at s FunctionDeclaration l fs = λ i. node FunctionDeclaration l (function-at fs i)
  node-at s FunctionExpression l fs = λ i. node FunctionExpression l (function-at fs i)
  node-at s ArrowFunctionExpression l fs = λ i. node ArrowFunctionExpression l (arrow-at fs i)
  node-at s StaticBlock l fs = static-at l fs
  node-at s k l fs = λ i. tried a n (node k l fs) (loop-at (node k l fs) i before empty)

-- what a row makes, where it takes those of this number
pub same-node : (f g : ℕ → Bound) (n : ℕ) (w : Whole) (c : Text) → next_name w c ≡ f n → error_of w ≡ g n → (s : Standing) (k : AstType) (l : Label) (fs : Fields) → used_node (making w c) s n k l fs ≡ used_node (by_bounds f g) s n k l fs
same-node f g n w c e d s k l fs = (λ i. used_node (by_bounds (λ j. e i) (λ j. d i)) s n k l fs) ∙ sym (node-at f g n s k l fs)
