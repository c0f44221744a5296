-- Ids and marks mean nothing to where `using` is lowered, so that two programs that are the same but for them become the same but for them, with
-- the same names, whatever ids and marks are made.
use Rattle.std.proofs.Common.{◌≡◌, ◌∙◌, ℕ, zero, suc, refl, sym, ap, List, [], ◌∷◌}
use Rattle.std.specs.Prelude.{Bool, true, false, ◌||◌, ◌&&◌, not, Option, Some, codes, if◌then◌else◌}
use Rattle.es_tree.specs.Bare.{bare, bare_field, bare_fields, bare_label, bare_trees}
use Rattle.es_tree.specs.Names.{first_text}
use Rattle.es_tree.specs.Tree.{Tree, node, Label, Fields, done, ◌then◌, Field, missing, one, many, statements, Trees, empty, ◌before◌}
use Rattle.es_tree.specs.Words.{Text}
use Rattle.es_tree.specs.declared.ast_type.AstType.{AstType}
use Rattle.es_tree.specs.declared.ast_type.AstType.TheVariants.{ArrowFunctionExpression, AssignmentExpression, BlockStatement, CallExpression, CatchClause, ExpressionStatement, ExportDefaultDeclaration, ExportNamedDeclaration, ForStatement, FunctionBody, FunctionDeclaration, FunctionExpression, Identifier, LabeledStatement, MemberExpression, StaticBlock, SwitchCase, SwitchStatement, TryStatement, VariableDeclaration, VariableDeclarator}
use Rattle.es_steps.specs.Nodes.{made}
use Rattle.es_steps.specs.UsingBlocks.{error_name, has_using, is_using_node}
use Rattle.es_steps.specs.UsingSwitches.{case_has_using, some_case_has_using}
use Rattle.es_rest_rows.specs.RestRows.{binds_name}
use Rattle.es_rest_shapes.proofs.BareRests.{trees-bare as trees-bare-any}
use Rattle.es_pattern_moves.specs.Moved.{name_of}
use Rattle.es_pattern_moves.proofs.BareMoves.{binds-bare, vars-bare}
use Rattle.es_using_rows.specs.Used.{
  Makes,
  block,
  call,
  const_label,
  constant,
  constants,
  finalizer,
  handler,
  member,
  method,
  new_context,
  notes_error,
  plainly,
  statement,
  tried,
  used,
  used_among,
  used_arrow,
  used_block,
  used_body,
  used_by,
  used_case,
  used_cases,
  used_declaration,
  used_declarator,
  used_declarators,
  used_function,
  used_head,
  used_here,
  used_in,
  used_loop,
  used_node,
  used_static_block,
  used_switch,
  with_symbols,
}
use Rattle.es_using_rows.specs.UsingPlaces.{all_enter, are_used, are_used_cases, enters, has_value, have_values, is_alone, is_export, is_function_of, is_labelled, is_part, is_used, is_used_case, is_using_word, leads_to_head, standing_in, uses_here, uses_in_arrow, uses_in_body, uses_in_function, uses_in_head, uses_in_static_block, var_at_top}
use Rattle.es_using_rows.specs.declared.standing.Standing.{Standing}

-- THE TESTS

using-bare : (t : Tree) → is_using_node (bare t) ≡ is_using_node t
using-bare (node VariableDeclaration l fs) = refl
using-bare (node _ l fs) = refl

pub has-bare : (ts : Trees) → has_using (bare_trees ts) ≡ has_using ts
has-bare empty = refl
has-bare (t before ts) = λ i. using-bare t i || has-bare ts i

value-bare : (d : Tree) → has_value (bare d) ≡ has_value d
value-bare (node VariableDeclarator l (one x then one e then done)) = refl
value-bare _ = refl

values-bare : (ds : Trees) → have_values (bare_trees ds) ≡ have_values ds
values-bare empty = refl
values-bare (d before ds) = λ i. value-bare d i && values-bare ds i

used-bare : (t : Tree) → is_used (bare t) ≡ is_used t
used-bare (node VariableDeclaration l (many (d before ds) then done)) = λ i. is_using_word l.texts && values-bare (d before ds) i
used-bare _ = refl

all-used-bare : (ts : Trees) → are_used (bare_trees ts) ≡ are_used ts
all-used-bare empty = refl
all-used-bare (t before ts) = λ i. (not (using-bare t i) || used-bare t i) && all-used-bare ts i

case-used-bare : (t : Tree) → is_used_case (bare t) ≡ is_used_case t
case-used-bare (node SwitchCase l (f then statements ts then done)) = all-used-bare ts
case-used-bare _ = refl

cases-used-bare : (ts : Trees) → are_used_cases (bare_trees ts) ≡ are_used_cases ts
cases-used-bare empty = refl
cases-used-bare (t before ts) = λ i. case-used-bare t i && cases-used-bare ts i

case-has-bare : (t : Tree) → case_has_using (bare t) ≡ case_has_using t
case-has-bare (node SwitchCase l (f then statements ts then done)) = has-bare ts
case-has-bare _ = refl

some-case-bare : (ts : Trees) → some_case_has_using (bare_trees ts) ≡ some_case_has_using ts
some-case-bare empty = refl
some-case-bare (t before ts) = λ i. case-has-bare t i || some-case-bare ts i

head-uses-bare : (fs : Fields) → uses_in_head (bare_fields fs) ≡ uses_in_head fs
head-uses-bare (one t then f then g then h then done) = used-bare t
head-uses-bare _ = refl

leads-bare : (t : Tree) → leads_to_head (bare t) ≡ leads_to_head t
leads-bare (node ForStatement l fs) = head-uses-bare fs
leads-bare (node LabeledStatement l (one t then one u then done)) = leads-bare u
leads-bare _ = refl

export-bare : (t : Tree) → is_export (bare t) ≡ is_export t
export-bare (node ExportNamedDeclaration l fs) = refl
export-bare (node ExportDefaultDeclaration l fs) = refl
export-bare (node _ l fs) = refl

function-of-bare : (x : Text) (t : Tree) → is_function_of x (bare t) ≡ is_function_of x t
function-of-bare x (node FunctionDeclaration l (one (node k m gs) then fs)) = refl
function-of-bare x _ = refl

top-var-bare : (x : Text) (t : Tree) → var_at_top x (bare t) ≡ var_at_top x t
top-var-bare x (node FunctionDeclaration l fs) = refl
top-var-bare x (node k l fs) = vars-bare x (node k l fs)

alone-bare : (x : Text) (ps ts us : Trees) → is_alone x (bare_trees ps) (bare_trees ts) (bare_trees us) ≡ is_alone x ps ts us
alone-bare x ps ts us = λ i. not (trees-bare-any (binds_name x) (binds-bare x) ps i) && not (trees-bare-any (var_at_top x) (top-var-bare x) ts i) && not (trees-bare-any (is_function_of x) (function-of-bare x) us i)

enters-bare : (ps ts : Trees) (t : Tree) (us : Trees) → enters (bare_trees ps) (bare_trees ts) (bare t) (bare_trees us) ≡ enters ps ts t us
enters-bare ps ts (node FunctionDeclaration l (one (node k m gs) then fs)) us = alone-bare (first_text m.texts) ps ts us
enters-bare ps ts (node FunctionDeclaration l _) us = refl
enters-bare ps ts (node k l fs) us = λ i. not (export-bare (node k l fs) i)

pub all-enter-bare : (ps ts us : Trees) → all_enter (bare_trees ps) (bare_trees ts) (bare_trees us) ≡ all_enter ps ts us
all-enter-bare ps ts empty = refl
all-enter-bare ps ts (t before us) = λ i. enters-bare ps ts t us i && all-enter-bare ps ts us i

body-uses-bare : (ps : Trees) (b : Tree) → uses_in_body (bare_trees ps) (bare b) ≡ uses_in_body ps b
body-uses-bare ps (node FunctionBody l (many ds then statements ts then done)) = λ i. (has-bare ts i && all-used-bare ts i) && all-enter-bare ps ts ts i
body-uses-bare ps _ = refl

function-uses-bare : (fs : Fields) → uses_in_function (bare_fields fs) ≡ uses_in_function fs
function-uses-bare (f then many ps then one b then done) = body-uses-bare ps b
function-uses-bare _ = refl

arrow-uses-bare : (fs : Fields) → uses_in_arrow (bare_fields fs) ≡ uses_in_arrow fs
arrow-uses-bare (many ps then one b then done) = body-uses-bare ps b
arrow-uses-bare _ = refl

static-uses-bare : (fs : Fields) → uses_in_static_block (bare_fields fs) ≡ uses_in_static_block fs
static-uses-bare (statements ts then done) = λ i. (has-bare ts i && all-used-bare ts i) && all-enter-bare empty ts ts i
static-uses-bare _ = refl

uses-bare : (s : Standing) (k : AstType) (l : Label) (fs : Fields) → uses_here s k (bare_label l) (bare_fields fs) ≡ uses_here s k l fs
uses-bare s BlockStatement l (statements ts then done) = λ i. has-bare ts i && all-used-bare ts i
uses-bare s BlockStatement l _ = refl
uses-bare s SwitchStatement l (d then many cs then done) = λ i. some-case-bare cs i && cases-used-bare cs i
uses-bare s SwitchStatement l _ = refl
uses-bare s ForStatement l fs = λ i. not (is_labelled s) && head-uses-bare fs i
uses-bare s LabeledStatement l fs = λ i. not (is_labelled s) && leads-bare (node LabeledStatement l fs) i
uses-bare s FunctionDeclaration l fs = function-uses-bare fs
uses-bare s FunctionExpression l fs = function-uses-bare fs
uses-bare s ArrowFunctionExpression l fs = arrow-uses-bare fs
uses-bare s StaticBlock l fs = static-uses-bare fs
uses-bare s k l fs = refl

-- WHAT IS MADE without ids and marks

abbrev barely-name : Text → Tree
barely-name x = node Identifier (made (Some x ∷ []) []) done

abbrev pub barely : List Text → Makes
barely names = record { context = λ n t. barely-name (name_of names n); error = λ n t. barely-name error_name; word = λ x t. barely-name x; label = λ t texts flags. made texts flags; scope = λ t. made [] [] }

pub record IsBarely (names : List Text) (m : Makes) : Type 0 where
  pub context : (n : ℕ) (t : Tree) → bare (m.context n t) ≡ barely-name (name_of names n)
  pub error : (n : ℕ) (t : Tree) → bare (m.error n t) ≡ barely-name error_name
  pub word : (x : Text) (t : Tree) → bare (m.word x t) ≡ barely-name x
  pub label : (t : Tree) (texts : List (Option Text)) (flags : List Bool) → bare_label (m.label t texts flags) ≡ made texts flags
  pub scope : (t : Tree) → bare_label (m.scope t) ≡ made [] []

pub plainly-so : (names : List Text) → IsBarely names (plainly names)
plainly-so names = record { context = λ n t. refl; error = λ n t. refl; word = λ x t. refl; label = λ t texts flags. refl; scope = λ t. refl }

pub symbols-so : (names : List Text) (first : ℕ) → IsBarely names (with_symbols names first)
symbols-so names first = record { context = λ n t. refl; error = λ n t. refl; word = λ x t. refl; label = λ t texts flags. refl; scope = λ t. refl }

module _ (names : List Text) (m : Makes) (h : IsBarely names m) where
  abbrev b : Makes
  b = barely names

  member-bare : (t o u : Tree) (p : Text) → bare o ≡ u → bare (member m t o p) ≡ member b t u p
  member-bare t o u p e = λ i. node MemberExpression (h.label t [] (false ∷ false ∷ []) i) (one (e i) then one (h.word p t i) then done)

  call-bare : (t f g : Tree) (args others : Trees) → bare f ≡ g → bare_trees args ≡ others → bare (call m t f args) ≡ call b t g others
  call-bare t f g args others e d = λ i. node CallExpression (h.label t [] (false ∷ []) i) (one (e i) then many (d i) then done)

  method-bare : (n : ℕ) (t : Tree) (p : Text) (args : Trees) → bare (method m n t p args) ≡ method b n t p (bare_trees args)
  method-bare n t p args = call-bare t (member m t (m.context n t) p) (member b t (b.context n t) p) args (bare_trees args) (member-bare t (m.context n t) (b.context n t) p (h.context n t)) refl

  statement-bare : (t e u : Tree) → bare e ≡ u → bare (statement m t e) ≡ statement b t u
  statement-bare t e u d = λ i. node ExpressionStatement (h.label t [] [] i) (one (d i) then done)

  block-bare : (t : Tree) (ts us : Trees) → bare_trees ts ≡ us → bare (block m t ts) ≡ block b t us
  block-bare t ts us e = λ i. node BlockStatement (h.scope t i) (statements (e i) then done)

  -- CONSTANTS

  declarator-bare : (n : ℕ) (d : Tree) → bare (used_declarator m n d) ≡ used_declarator b n (bare d)
  declarator-bare n (node VariableDeclarator l (one x then one e then done)) = λ i. node VariableDeclarator (bare_label l) (one (bare x) then one (method-bare n e (codes "u") (e before empty) i) then done)
  declarator-bare n _ = refl

  declarators-bare : (n : ℕ) (ds : Trees) → bare_trees (used_declarators m n ds) ≡ used_declarators b n (bare_trees ds)
  declarators-bare n empty = refl
  declarators-bare n (d before ds) = λ i. declarator-bare n d i before declarators-bare n ds i

  declaration-bare : (n : ℕ) (t : Tree) → bare (used_declaration m n t) ≡ used_declaration b n (bare t)
  declaration-bare n (node VariableDeclaration l (many ds then done)) = λ i. node VariableDeclaration (const_label (bare_label l)) (many (declarators-bare n ds i) then done)
  declaration-bare n _ = refl

  constant-bare : (n : ℕ) (t : Tree) → bare (constant m n t) ≡ constant b n (bare t)
  constant-bare n t = at (is_using_node t) ∙ ap (λ (c : Bool). if c then used_declaration b n (bare t) else bare t) (sym (using-bare t))
    where
      at : (c : Bool) → bare (if c then used_declaration m n t else t) ≡ (if c then used_declaration b n (bare t) else bare t)
      at true = declaration-bare n t
      at false = refl

  constants-bare : (n : ℕ) (ts : Trees) → bare_trees (constants m n ts) ≡ constants b n (bare_trees ts)
  constants-bare n empty = refl
  constants-bare n (t before ts) = λ i. constant-bare n t i before constants-bare n ts i

  -- THE `try`

  context-bare : (n : ℕ) (t : Tree) → bare (new_context m n t) ≡ new_context b n t
  context-bare n t =
      let helper = member-bare t (m.word (codes "babelHelpers") t) (b.word (codes "babelHelpers") t) (codes "usingCtx") (h.word (codes "babelHelpers") t) in
      let value = call-bare t (member m t (m.word (codes "babelHelpers") t) (codes "usingCtx")) (member b t (b.word (codes "babelHelpers") t) (codes "usingCtx")) empty empty helper refl in
      λ i. node VariableDeclaration (h.label t (Some (codes "var") ∷ []) [] i) (many (node VariableDeclarator (h.label t [] [] i) (one (h.context n t i) then one (value i) then done) before empty) then done)

  notes-bare : (n : ℕ) (t : Tree) → bare (notes_error m n t) ≡ notes_error b n t
  notes-bare n t =
      let left = member-bare t (m.context n t) (b.context n t) (codes "e") (h.context n t) in
      λ i. node ExpressionStatement (h.label t [] [] i) (one (node AssignmentExpression (h.label t (Some (codes "=") ∷ []) [] i) (one (left i) then one (h.error n t i) then done)) then done)

  handler-bare : (n : ℕ) (t : Tree) → bare (handler m n t) ≡ handler b n t
  handler-bare n t =
      let body = block-bare t (notes_error m n t before empty) (notes_error b n t before empty) (λ i. notes-bare n t i before empty) in
      λ i. node CatchClause (h.scope t i) (one (h.error n t i) then one (body i) then done)

  finalizer-bare : (n : ℕ) (t : Tree) → bare (finalizer m n t) ≡ finalizer b n t
  finalizer-bare n t =
      let ends = statement-bare t (method m n t (codes "d") empty) (method b n t (codes "d") empty) (method-bare n t (codes "d") empty) in
      block-bare t (statement m t (method m n t (codes "d") empty) before empty) (statement b t (method b n t (codes "d") empty) before empty) (λ i. ends i before empty)

  tried-bare : (n : ℕ) (t : Tree) (ts us : Trees) → bare_trees ts ≡ us → bare (tried m n t ts) ≡ tried b n t us
  tried-bare n t ts us e =
      let body = block-bare t (new_context m n t before ts) (new_context b n t before us) (λ i. context-bare n t i before e i) in
      λ i. node TryStatement (h.label t [] [] i) (one (body i) then one (handler-bare n t i) then one (finalizer-bare n t i) then done)

  -- NODES

  used-block-bare : (s : Standing) (n : ℕ) (l : Label) (fs : Fields) → bare (used_block m s n l fs) ≡ used_block b s n (bare_label l) (bare_fields fs)
  used-block-bare s n l (statements ts then done) = at (is_part s)
    where
      t : Tree
      t = node BlockStatement l (statements ts then done)

      inner : bare (tried m n t (constants m n ts)) ≡ tried b n (bare t) (constants b n (bare_trees ts))
      inner = tried-bare n t (constants m n ts) (constants b n (bare_trees ts)) (constants-bare n ts)

      at : (c : Bool) → bare (if c then node BlockStatement l (statements (tried m n t (constants m n ts) before empty) then done) else tried m n t (constants m n ts)) ≡ (if c then node BlockStatement (bare_label l) (statements (tried b n (bare t) (constants b n (bare_trees ts)) before empty) then done) else tried b n (bare t) (constants b n (bare_trees ts)))
      at true = λ i. node BlockStatement (bare_label l) (statements (inner i before empty) then done)
      at false = inner
  used-block-bare s n l _ = refl

  case-bare : (n : ℕ) (t : Tree) → bare (used_case m n t) ≡ used_case b n (bare t)
  case-bare n (node SwitchCase l (f then statements ts then done)) = λ i. node SwitchCase (bare_label l) (bare_field f then statements (constants-bare n ts i) then done)
  case-bare n _ = refl

  cases-bare : (n : ℕ) (ts : Trees) → bare_trees (used_cases m n ts) ≡ used_cases b n (bare_trees ts)
  cases-bare n empty = refl
  cases-bare n (t before ts) = λ i. case-bare n t i before cases-bare n ts i

  used-switch-bare : (n : ℕ) (l : Label) (fs : Fields) → bare (used_switch m n l fs) ≡ used_switch b n (bare_label l) (bare_fields fs)
  used-switch-bare n l (d then many cs then done) =
      tried-bare n (node SwitchStatement l (d then many cs then done)) (node SwitchStatement l (d then many (used_cases m n cs) then done) before empty) (node SwitchStatement (bare_label l) (bare_field d then many (used_cases b n (bare_trees cs)) then done) before empty) (λ i. node SwitchStatement (bare_label l) (bare_field d then many (cases-bare n cs i) then done) before empty)
  used-switch-bare n l _ = refl

  head-bare : (n : ℕ) (fs : Fields) → bare_fields (used_head m n fs) ≡ used_head b n (bare_fields fs)
  head-bare n (one t then fs) = λ i. one (declaration-bare n t i) then bare_fields fs
  head-bare n _ = refl

  loop-bare : (n : ℕ) (t : Tree) → bare (used_loop m n t) ≡ used_loop b n (bare t)
  loop-bare n (node ForStatement l fs) = λ i. node ForStatement (bare_label l) (head-bare n fs i)
  loop-bare n (node LabeledStatement l (one t then one u then done)) = λ i. node LabeledStatement (bare_label l) (one (bare t) then one (loop-bare n u i) then done)
  loop-bare n _ = refl

  body-bare : (n : ℕ) (t : Tree) → bare (used_body m n t) ≡ used_body b n (bare t)
  body-bare n (node FunctionBody l (many ds then statements ts then done)) =
      let within = tried-bare n (node FunctionBody l (many ds then statements ts then done)) (constants m n ts) (constants b n (bare_trees ts)) (constants-bare n ts) in
      λ i. node FunctionBody (bare_label l) (many (bare_trees ds) then statements (within i before empty) then done)
  body-bare n _ = refl

  function-bare : (n : ℕ) (fs : Fields) → bare_fields (used_function m n fs) ≡ used_function b n (bare_fields fs)
  function-bare n (f then many ps then one t then done) = λ i. bare_field f then many (bare_trees ps) then one (body-bare n t i) then done
  function-bare n _ = refl

  arrow-bare : (n : ℕ) (fs : Fields) → bare_fields (used_arrow m n fs) ≡ used_arrow b n (bare_fields fs)
  arrow-bare n (many ps then one t then done) = λ i. many (bare_trees ps) then one (body-bare n t i) then done
  arrow-bare n _ = refl

  static-bare : (n : ℕ) (l : Label) (fs : Fields) → bare (used_static_block m n l fs) ≡ used_static_block b n (bare_label l) (bare_fields fs)
  static-bare n l (statements ts then done) =
      let within = tried-bare n (node StaticBlock l (statements ts then done)) (constants m n ts) (constants b n (bare_trees ts)) (constants-bare n ts) in
      λ i. node StaticBlock (bare_label l) (statements (within i before empty) then done)
  static-bare n l _ = refl

  node-bare : (s : Standing) (n : ℕ) (k : AstType) (l : Label) (fs : Fields) → bare (used_node m s n k l fs) ≡ used_node b s n k (bare_label l) (bare_fields fs)
  node-bare s n BlockStatement l fs = used-block-bare s n l fs
  node-bare s n SwitchStatement l fs = used-switch-bare n l fs
  node-bare s n FunctionDeclaration l fs = λ i. node FunctionDeclaration (bare_label l) (function-bare n fs i)
  node-bare s n FunctionExpression l fs = λ i. node FunctionExpression (bare_label l) (function-bare n fs i)
  node-bare s n ArrowFunctionExpression l fs = λ i. node ArrowFunctionExpression (bare_label l) (arrow-bare n fs i)
  node-bare s n StaticBlock l fs = static-bare n l fs
  node-bare s n k l fs = tried-bare n (node k l fs) (used_loop m n (node k l fs) before empty) (used_loop b n (bare (node k l fs)) before empty) (λ i. loop-bare n (node k l fs) i before empty)

  abbrev forget : ℕ × Tree → ℕ × Tree
  forget r = (r.0, bare r.1)

  here-bare : (s : Standing) (n : ℕ) (k : AstType) (l : Label) (fs : Fields) → forget (used_here m s n k l fs) ≡ used_here b s n k (bare_label l) (bare_fields fs)
  here-bare s n k l fs = at (uses_here s k l fs) ∙ ap (λ (c : Bool). if c then (suc n, used_node b s n k (bare_label l) (bare_fields fs)) else (n, node k (bare_label l) (bare_fields fs))) (sym (uses-bare s k l fs))
    where
      at : (c : Bool) → forget (if c then (suc n, used_node m s n k l fs) else (n, node k l fs)) ≡ (if c then (suc n, used_node b s n k (bare_label l) (bare_fields fs)) else (n, node k (bare_label l) (bare_fields fs)))
      at true = λ i. (suc n, node-bare s n k l fs i)
      at false = refl

  -- A TREE
  mutual
    pub tree-bare : (s : Standing) (n : ℕ) (t : Tree) → ((used m s n t).0, bare (used m s n t).1) ≡ used b s n (bare t)
    tree-bare s n (node k l fs) = here-bare s (used_in m (standing_in k) n fs).0 k l (used_in m (standing_in k) n fs).1 ∙ ap (λ (r : ℕ × Fields). used_here b s r.0 k (bare_label l) r.1) (fields-bare (standing_in k) n fs)

    fields-bare : (c : ℕ → Standing) (n : ℕ) (fs : Fields) → ((used_in m c n fs).0, bare_fields (used_in m c n fs).1) ≡ used_in b c n (bare_fields fs)
    fields-bare c n done = refl
    fields-bare c n (f then fs) =
        let d : ℕ → Standing = λ i. c (suc i) in
        ap (λ (r : ℕ × Fields). (r.0, bare_field (used_by m (c zero) n f).1 then r.1)) (fields-bare d (used_by m (c zero) n f).0 fs) ∙ ap (λ (q : ℕ × Field). ((used_in b d q.0 (bare_fields fs)).0, q.1 then (used_in b d q.0 (bare_fields fs)).1)) (field-bare (c zero) n f)

    field-bare : (s : Standing) (n : ℕ) (f : Field) → ((used_by m s n f).0, bare_field (used_by m s n f).1) ≡ used_by b s n (bare_field f)
    field-bare s n missing = refl
    field-bare s n (one t) = ap (λ (r : ℕ × Tree). (r.0, one r.1)) (tree-bare s n t)
    field-bare s n (many ts) = ap (λ (r : ℕ × Trees). (r.0, many r.1)) (trees-bare s n ts)
    field-bare s n (statements ts) = ap (λ (r : ℕ × Trees). (r.0, statements r.1)) (trees-bare s n ts)

    trees-bare : (s : Standing) (n : ℕ) (ts : Trees) → ((used_among m s n ts).0, bare_trees (used_among m s n ts).1) ≡ used_among b s n (bare_trees ts)
    trees-bare s n empty = refl
    trees-bare s n (t before ts) =
        ap (λ (r : ℕ × Trees). (r.0, bare (used m s n t).1 before r.1)) (trees-bare s (used m s n t).0 ts) ∙ ap (λ (q : ℕ × Tree). ((used_among b s q.0 (bare_trees ts)).0, q.1 before (used_among b s q.0 (bare_trees ts)).1)) (tree-bare s n t)

-- two trees that are the same but for ids and marks
pub used-alike : (names : List Text) (m m' : Makes) → IsBarely names m → IsBarely names m' → (s : Standing) (n : ℕ) (t u : Tree) → bare t ≡ bare u → ((used m s n t).0 ≡ (used m' s n u).0) × (bare (used m s n t).1 ≡ bare (used m' s n u).1)
used-alike names m m' h h' s n t u e =
    let same : ◌≡◌ {A = ℕ × Tree} ((used m s n t).0, bare (used m s n t).1) ((used m' s n u).0, bare (used m' s n u).1) = tree-bare names m h s n t ∙ ap (λ (x : Tree). used (barely names) s n x) e ∙ sym (tree-bare names m' h' s n u) in
    (ap (λ (r : ℕ × Tree). r.0) same, ap (λ (r : ℕ × Tree). r.1) same)
