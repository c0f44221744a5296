-- In the constructor of a class that extends another there is no `this` before `super(..)` (ECMA-262, 13.3.7.1). The name that arrows take for it is
-- declared first, and set behind that call: of `constructor() { super(); f(() => this); }` they make
-- `constructor() { var _this = this; super(); f(function () { return _this; }); }`, which becomes
-- `constructor() { var _this; super(); _this = this; f(function () { return _this; }); }`. In `constructor(a) { a ? super(a) : super(); f(() => this); }`
-- each call is followed so: `a ? (super(a), _this = this) : (super(), _this = this);`.
use Rattle.std.specs.Prelude.{◌&&◌, ◌||◌, Bool, true, false, List, [], ◌∷◌, Option, Some, None, bytes_eq, codes, if◌then◌else◌, ℕ, zero, suc}
use Rattle.es_tree.specs.HasForm.{same_type}
use Rattle.es_tree.specs.Names.{first_text, is_name_place}
use Rattle.es_tree.specs.Tree.{Tree, node, Label, Fields, done, ◌then◌, Field, missing, one, many, statements, Trees, empty, ◌before◌, label_of}
use Rattle.es_tree.specs.Words.{Text}
use Rattle.es_tree.specs.declared.ast_type.AstType.{AstType}
use Rattle.es_tree.specs.declared.ast_type.AstType.TheVariants.{ArrowFunctionExpression, BlockStatement, CallExpression, ChainExpression, FunctionBody, FunctionDeclaration, FunctionExpression, Identifier, SwitchCase, ThisExpression, VariableDeclaration, VariableDeclarator}
use Rattle.es_resolution.specs.Declarations.{is_var_scope}
use Rattle.es_steps.specs.Nodes.{assign_node, made, placed, sequence_node, statement_node, this_expression}
use Rattle.es_super_calls.specs.Constructors.{is_body, standing_in}
use Rattle.es_super_calls.specs.SuperCalls.{calls_it, is_super_call, is_super_statement}
use Rattle.es_super_calls.specs.declared.standing.ClassStanding.{ClassStanding}

-- `var x = this;`, where x is one of these names

abbrev pub is_this : Tree → Bool
is_this (node ThisExpression l done) = true
is_this _ = false

abbrev pub is_made_name : (Text → Bool) → Tree → Bool
is_made_name made (node Identifier l done) = made (first_text l.texts)
is_made_name made _ = false

abbrev pub is_var : List (Option Text) → Bool
is_var (Some x ∷ []) = bytes_eq x (codes "var")
is_var _ = false

-- the name that is declared so
abbrev pub this_name : (Text → Bool) → Tree → Option Text
this_name made (node VariableDeclaration m (many (node VariableDeclarator k (one x then (one e then done)) before empty) then done)) = if is_var m.texts && is_made_name made x && is_this e then Some (first_text (label_of x).texts) else None
this_name made _ = None

-- `var x;`
abbrev pub without_value : Tree → Tree
without_value (node VariableDeclaration m (many (node VariableDeclarator k (f then (g then done)) before empty) then done)) = node VariableDeclaration m (many (node VariableDeclarator k (f then (missing then done)) before empty) then done)
without_value t = t

-- WHERE IT IS SET: behind the first statement of each list that is a call of `super`, `super(a); x = this;`, and in the place of any other such call,
-- `(super(a), x = this)`. What stands in functions isn't gone through, nor what comes behind such a statement, where each other such call throws.

-- `x = this;`, behind the first of these statements that is a call of `super`
abbrev pub set_statement : Tree → Tree
set_statement x = statement_node (assign_node x this_expression)

abbrev pub with_this_set : Tree → Trees → Trees
with_this_set x empty = empty
with_this_set x (t before ts) = if is_super_statement t then t before (set_statement x before ts) else t before with_this_set x ts

-- `(super(a), x = this)`, with the span of the call
abbrev pub then_set : Tree → Label → Fields → Tree
then_set x l fs = placed l (sequence_node (node CallExpression l fs ∷ assign_node x this_expression ∷ []))

-- what isn't gone through: functions and their bodies, static blocks, and a chain that is such a call itself, which no program has (13.3.9)
abbrev pub is_closed : AstType → Bool
is_closed FunctionDeclaration = true
is_closed FunctionExpression = true
is_closed ArrowFunctionExpression = true
is_closed k = is_var_scope k

abbrev pub is_left : AstType → Fields → Bool
is_left ChainExpression (one t then fs) = is_super_call t
is_left k fs = is_closed k

-- the nodes with a list of statements that are gone through
abbrev pub is_list : AstType → Bool
is_list BlockStatement = true
is_list SwitchCase = true
is_list _ = false

-- a node whose fields were gone through
abbrev pub settled : Tree → AstType → Label → Fields → Tree
settled x k l fs = if same_type k CallExpression && calls_it fs then then_set x l fs else node k l fs

abbrev mutual
  pub after_super : Tree → Tree → Tree
  after_super x (node k l fs) = if is_left k fs then node k l fs else settled x k l (after_super_in x (is_list k) fs)

  pub after_super_in : Tree → Bool → Fields → Fields
  after_super_in x lists done = done
  after_super_in x lists (f then fs) = after_super_by x lists f then after_super_in x lists fs

  pub after_super_by : Tree → Bool → Field → Field
  after_super_by x lists missing = missing
  after_super_by x lists (one t) = one (after_super x t)
  after_super_by x lists (many ts) = many (after_super_among x ts)
  after_super_by x lists (statements ts) = statements (if lists then with_this_set x (up_to_super x ts) else ts)

  pub after_super_among : Tree → Trees → Trees
  after_super_among x empty = empty
  after_super_among x (t before ts) = after_super x t before after_super_among x ts

  -- statements up to the first that is such a call, of which the arguments are gone through
  pub up_to_super : Tree → Trees → Trees
  up_to_super x empty = empty
  up_to_super x (t before ts) = if is_super_statement t then in_arguments x t before ts else after_super x t before up_to_super x ts

  pub in_arguments : Tree → Tree → Tree
  in_arguments x (node k l (one (node j m fs) then gs)) = node k l (one (node j m (after_super_in x false fs)) then gs)
  in_arguments x t = t

-- Whether this name stands in what is gone through, or is that of a function there: a scope there that binds it has it so.
abbrev mutual
  pub names_it : Text → Bool → Tree → Bool
  names_it y counts (node k l fs) = (counts && same_type k Identifier && bytes_eq (first_text l.texts) y) || (if is_closed k then names_first y fs else names_in y (is_name_place k l) fs)

  pub names_first : Text → Fields → Bool
  names_first y done = false
  names_first y (f then fs) = names_by y true f

  pub names_in : Text → (ℕ → Bool) → Fields → Bool
  names_in y counts done = false
  names_in y counts (f then fs) = names_by y (counts zero) f || names_in y (λ i. counts (suc i)) fs

  pub names_by : Text → Bool → Field → Bool
  names_by y counts missing = false
  names_by y counts (one t) = names_it y counts t
  names_by y counts (many ts) = names_among y ts
  names_by y counts (statements ts) = names_among y ts

  pub names_among : Text → Trees → Bool
  names_among y empty = false
  names_among y (t before ts) = names_it y true t || names_among y ts

-- the name, with no mark of a scope table
abbrev pub plain_name : Text → Tree
plain_name y = node Identifier (record (made (Some y ∷ []) []) { marks = None ∷ None ∷ [] }) done

-- The statements of such a constructor, where this name is declared first. In what is gone through it stands nowhere else, since functions alone read it;
-- where it did, they would stay.
abbrev pub set_behind : Option Text → Tree → Trees → Trees
set_behind None d ts = d before ts
set_behind (Some y) d ts = if names_among y ts then d before ts else without_value d before with_this_set (plain_name y) (up_to_super (plain_name y) ts)

abbrev pub set_statements : (Text → Bool) → Trees → Trees
set_statements made empty = empty
set_statements made (d before ts) = set_behind (this_name made d) d ts

-- the fields of its body
abbrev pub set_in_body : (Text → Bool) → Fields → Fields
set_in_body made (ds then (statements ts then done)) = ds then (statements (set_statements made ts) then done)
set_in_body made fs = fs

-- A TREE that stands so, of which these names were made: each such body in it, after its parts
abbrev pub set_here : (Text → Bool) → ClassStanding → AstType → Fields → Fields
set_here made s k fs = if is_body s && same_type k FunctionBody then set_in_body made fs else fs

abbrev mutual
  pub set_this : (Text → Bool) → ClassStanding → Tree → Tree
  set_this made s (node k l fs) = node k l (set_here made s k (set_this_in made (standing_in s k l fs) fs))

  pub set_this_in : (Text → Bool) → (ℕ → ClassStanding) → Fields → Fields
  set_this_in made c done = done
  set_this_in made c (f then fs) = set_this_by made (c zero) f then set_this_in made (λ i. c (suc i)) fs

  pub set_this_by : (Text → Bool) → ClassStanding → Field → Field
  set_this_by made s missing = missing
  set_this_by made s (one t) = one (set_this made s t)
  set_this_by made s (many ts) = many (set_this_among made s ts)
  set_this_by made s (statements ts) = statements (set_this_among made s ts)

  pub set_this_among : (Text → Bool) → ClassStanding → Trees → Trees
  set_this_among made s empty = empty
  set_this_among made s (t before ts) = set_this made s t before set_this_among made s ts
