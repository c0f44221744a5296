-- Which programs mean something: each node has the fields that its meaning takes, of kinds that it can take there; a mark stands in a chain,
-- a `break` or `continue` where it ends something, and a `using` in a scope that has a stack.
use Rattle.std.specs.Prelude.{ℕ, zero, suc, Bool, true, false, not, ◌&&◌, ◌||◌, List, [], ◌∷◌, ◌++◌, Option, bytes_eq, if◌then◌else◌, codes}
use Rattle.es_tree.specs.Words.{Text}
use Rattle.es_tree.specs.Fresh.{is_among}
use Rattle.es_tree.specs.Names.{flag_at, first_text as first}
use Rattle.es_tree.specs.Tree.{Tree, node, Fields, done, ◌then◌, Field, missing, one, many, statements, Trees, empty, ◌before◌}
use Rattle.es_tree.specs.declared.ast_type.AstType.{AstType}
use Rattle.es_tree.specs.declared.ast_type.AstType.TheVariants.{Program, Directive, BlockStatement, EmptyStatement, DebuggerStatement, ExpressionStatement, VariableDeclaration, VariableDeclarator, ThrowStatement, IfStatement, ForStatement, ForInStatement, ForOfStatement, WhileStatement, DoWhileStatement, BreakStatement, ContinueStatement, LabeledStatement, SwitchStatement, SwitchCase, TryStatement, CatchClause, ImportDeclaration, ImportSpecifier, ImportDefaultSpecifier, ImportNamespaceSpecifier, ExportNamedDeclaration, ExportDefaultDeclaration, ExportAllDeclaration, Identifier, ThisExpression, NullLiteral, BooleanLiteral, NumericLiteral, BigIntLiteral, StringLiteral, RegExpLiteral, TemplateLiteral, TemplateElement, TaggedTemplateExpression, ArrayExpression, SpreadElement, ObjectExpression, ObjectProperty, UnaryExpression, UpdateExpression, BinaryExpression, LogicalExpression, ConditionalExpression, AssignmentExpression, SequenceExpression, MemberExpression, CallExpression, NewExpression, ChainExpression, ParenthesizedExpression, MetaProperty, ObjectPattern, PatternProperty, ArrayPattern, AssignmentPattern, RestElement, ObjectTarget, TargetProperty, ArrayTarget, TargetWithDefault, TargetRest}
use Rattle.es_runs.specs.Machine.{Stop}
use Rattle.es_runs.specs.Machine.Stop.{throws, faults, waits, uncallable, cut, unknown, breaks, continues, out_of_turns}
use Rattle.es_runs.specs.Core.{flag, flag_after}
use Rattle.es_statement_runs.specs.Names.{own_names, own_use, names_of_all, is_word}
use Rattle.es_statement_runs.specs.Scopes.{are_program_names, is_own_cell}
use Rattle.es_statement_runs.specs.Kinds.{label_in}
use Rattle.es_statement_runs.specs.Helpers.{Supply}
use Rattle.es_statement_runs.specs.Helpers.Supply.{spread_by_global, by_global}

-- HOW WHAT STANDS SOMEWHERE MAY STOP besides by a throw, a fault, a wait, a call of what isn't callable or a want of turns: cut short to the end
-- of a chain, and by `break` and `continue` without a label and with these labels
pub record Exits : Type 0 where
  pub cuts : Bool
  pub breaks_here : Bool
  pub continues_here : Bool
  pub labels : List Text
  pub loops : List Text

abbrev pub allowed : Exits → Stop → Bool
allowed E (throws v) = true
allowed E (faults v) = true
allowed E waits = true
allowed E uncallable = true
allowed E cut = E.cuts
allowed E unknown = false
allowed E (breaks []) = E.breaks_here
allowed E (breaks (l ∷ ls)) = is_among E.labels l
allowed E (continues []) = E.continues_here
allowed E (continues (l ∷ ls)) = is_among E.loops l
allowed E out_of_turns = true

abbrev pub no_exits : Bool → Exits
no_exits b = record { cuts = b; breaks_here = false; continues_here = false; labels = []; loops = [] }

-- WHAT A FIELD TAKES: a value; what may be read and put; a target that binds or that assigns, maybe with a default; one of an array pattern, which may be a rest;
-- a property or the rest of an object pattern; a definition of an object; the left of a for-in or for-of; a declarator, and one of such a left; a
-- handler; a template; an item of an import; a clause of a `switch`; and what is read off the tree alone
pub data Role : Type 0 where
  a_value a_place : Role
  a_target an_element : Bool → Role
  a_member a_definition a_head a_declarator a_head_declarator a_handler a_template an_import a_clause a_part : Role

-- Where a node stands: what is taken of it, how it may stop, and whether the innermost scope or one around it has a stack.
pub record Spot : Type 0 where
  pub role : Role
  pub exits : Exits
  pub uses : Bool

-- WHAT A NODE CAN SERVE AS
pub data Nature : Type 0 where
  value_like name_like member_like parens_like declaration_like declarator_like spread_like definition_like template_like property_like rest_like handler_like import_like clause_like part_like unmeant : Nature
  pattern_like default_like : Bool → Nature

abbrev pub nature : AstType → Nature
nature Program = value_like
nature BlockStatement = value_like
nature EmptyStatement = value_like
nature DebuggerStatement = value_like
nature ExpressionStatement = value_like
nature VariableDeclaration = declaration_like
nature VariableDeclarator = declarator_like
nature ThrowStatement = value_like
nature IfStatement = value_like
nature ForStatement = value_like
nature ForInStatement = value_like
nature ForOfStatement = value_like
nature WhileStatement = value_like
nature DoWhileStatement = value_like
nature BreakStatement = value_like
nature ContinueStatement = value_like
nature LabeledStatement = value_like
nature SwitchStatement = value_like
nature SwitchCase = clause_like
nature TryStatement = value_like
nature CatchClause = handler_like
nature ImportDeclaration = value_like
nature ImportSpecifier = import_like
nature ImportDefaultSpecifier = import_like
nature ImportNamespaceSpecifier = import_like
nature ExportNamedDeclaration = value_like
nature ExportDefaultDeclaration = value_like
nature ExportAllDeclaration = value_like
nature Identifier = name_like
nature ThisExpression = value_like
nature NullLiteral = value_like
nature BooleanLiteral = value_like
nature NumericLiteral = value_like
nature BigIntLiteral = value_like
nature StringLiteral = value_like
nature RegExpLiteral = value_like
nature TemplateLiteral = template_like
nature TaggedTemplateExpression = value_like
nature ArrayExpression = value_like
nature SpreadElement = spread_like
nature ObjectExpression = value_like
nature ObjectProperty = definition_like
nature UnaryExpression = value_like
nature UpdateExpression = value_like
nature BinaryExpression = value_like
nature LogicalExpression = value_like
nature ConditionalExpression = value_like
nature AssignmentExpression = value_like
nature SequenceExpression = value_like
nature MemberExpression = member_like
nature CallExpression = value_like
nature NewExpression = value_like
nature ChainExpression = value_like
nature ParenthesizedExpression = parens_like
nature MetaProperty = value_like
nature ObjectPattern = pattern_like true
nature PatternProperty = property_like
nature ArrayPattern = pattern_like true
nature AssignmentPattern = default_like true
nature RestElement = rest_like
nature ObjectTarget = pattern_like false
nature TargetProperty = property_like
nature ArrayTarget = pattern_like false
nature TargetWithDefault = default_like false
nature TargetRest = rest_like
nature Directive = part_like
nature TemplateElement = part_like
nature _ = unmeant

abbrev pub serves : Nature → Role → Bool
serves value_like a_value = true
serves name_like a_value = true
serves name_like a_place = true
serves name_like (a_target b) = true
serves name_like (an_element b) = true
serves name_like a_head = true
serves member_like a_value = true
serves member_like a_place = true
serves member_like (a_target false) = true
serves member_like (an_element false) = true
serves member_like a_head = true
serves parens_like a_value = true
serves parens_like a_place = true
serves parens_like (a_target false) = true
serves parens_like (an_element false) = true
serves parens_like a_head = true
serves declaration_like a_value = true
serves declaration_like a_head = true
serves declarator_like a_declarator = true
serves declarator_like a_head_declarator = true
serves spread_like a_value = true
serves spread_like a_definition = true
serves definition_like a_definition = true
serves template_like a_value = true
serves template_like a_template = true
serves property_like a_member = true
serves rest_like a_member = true
serves rest_like (an_element b) = true
serves handler_like a_handler = true
serves import_like an_import = true
serves clause_like a_clause = true
serves part_like a_part = true
serves (pattern_like b) (a_target c) = true
serves (pattern_like b) (an_element c) = true
serves (pattern_like b) a_head = true
serves (default_like b) (a_target c) = true
serves (default_like b) (an_element c) = true
serves _ _ = false

-- THE FIELDS OF EACH KIND: one node, one or none, none, a list, one that isn't empty, a key that isn't computed, a label or none, and what isn't looked at
pub data Slot : Type 0 where
  required optional absent listed nonempty a_key passed : Slot
  labelled_by : List Text → Slot

pub data Slots : Type 0 where
  no_slot : Slots
  slot : Slot → Slots → Slots
  repeated : Slot → Slots

abbrev pub one_slot : Slots
one_slot = slot required no_slot

abbrev pub two_slots : Slots
two_slots = slot required one_slot

abbrev pub three_slots : Slots
three_slots = slot required two_slots

abbrev pub list_slot : Slots
list_slot = slot listed no_slot

abbrev pub key_slot : Bool → Slot
key_slot true = required
key_slot false = a_key

abbrev pub value_slot : Bool → Slot
value_slot true = required
value_slot false = absent

-- whether a declarator has a value, and what label a node names
abbrev pub has_value : AstType → Fields → Bool
has_value VariableDeclarator (f then (missing then fs)) = false
has_value k fs = true

abbrev pub named_label : AstType → Fields → List Text
named_label BreakStatement (one (node k l gs) then fs) = first l.texts ∷ []
named_label ContinueStatement (one (node k l gs) then fs) = first l.texts ∷ []
named_label LabeledStatement fs = label_in LabeledStatement fs
named_label k fs = []

-- b: a declarator has a value; ns: the label that the node names
abbrev pub slots : AstType → List Bool → Bool → List Text → Slots
slots Program fs b ns = slot listed list_slot
slots BlockStatement fs b ns = list_slot
slots ExpressionStatement fs b ns = one_slot
slots VariableDeclaration fs b ns = slot nonempty no_slot
slots VariableDeclarator fs b ns = slot required (slot (value_slot b) no_slot)
slots ThrowStatement fs b ns = one_slot
slots IfStatement fs b ns = slot required (slot required (slot optional no_slot))
slots ForStatement fs b ns = slot optional (slot optional (slot optional one_slot))
slots ForInStatement fs b ns = three_slots
slots ForOfStatement fs b ns = three_slots
slots WhileStatement fs b ns = two_slots
slots DoWhileStatement fs b ns = two_slots
slots BreakStatement fs b ns = slot (labelled_by ns) no_slot
slots ContinueStatement fs b ns = slot (labelled_by ns) no_slot
slots LabeledStatement fs b ns = slot (labelled_by ns) one_slot
slots SwitchStatement fs b ns = slot required list_slot
slots SwitchCase fs b ns = slot optional list_slot
slots TryStatement fs b ns = slot required (slot optional (slot optional no_slot))
slots CatchClause fs b ns = slot optional one_slot
slots ImportDeclaration fs b ns = slot listed (slot a_key (repeated passed))
slots ImportSpecifier fs b ns = slot a_key (slot a_key no_slot)
slots ExportNamedDeclaration fs b ns = slot optional (repeated passed)
slots ExportDefaultDeclaration fs b ns = one_slot
slots ExportAllDeclaration fs b ns = slot passed (slot a_key (repeated passed))
slots TemplateLiteral fs b ns = slot listed list_slot
slots TaggedTemplateExpression fs b ns = two_slots
slots ArrayExpression fs b ns = repeated optional
slots SpreadElement fs b ns = one_slot
slots ObjectExpression fs b ns = list_slot
slots ObjectProperty fs b ns = slot (key_slot (flag_at 2 fs)) one_slot
slots UnaryExpression fs b ns = one_slot
slots UpdateExpression fs b ns = one_slot
slots BinaryExpression fs b ns = two_slots
slots LogicalExpression fs b ns = two_slots
slots ConditionalExpression fs b ns = three_slots
slots AssignmentExpression fs b ns = two_slots
slots SequenceExpression fs b ns = list_slot
slots MemberExpression fs b ns = slot required (slot (key_slot (flag fs)) no_slot)
slots CallExpression fs b ns = slot required list_slot
slots NewExpression fs b ns = slot required list_slot
slots ChainExpression fs b ns = one_slot
slots ParenthesizedExpression fs b ns = one_slot
slots ObjectPattern fs b ns = list_slot
slots ObjectTarget fs b ns = list_slot
slots PatternProperty fs b ns = slot (key_slot (flag_at 1 fs)) one_slot
slots TargetProperty fs b ns = slot (key_slot (flag_at 1 fs)) one_slot
slots ArrayPattern fs b ns = repeated optional
slots ArrayTarget fs b ns = repeated optional
slots AssignmentPattern fs b ns = two_slots
slots TargetWithDefault fs b ns = two_slots
slots RestElement fs b ns = one_slot
slots TargetRest fs b ns = one_slot
slots k fs b ns = repeated passed

-- WHERE THE FIELDS STAND

abbrev pub as_role : Role → Bool → Spot
as_role r u = record { role = r; exits = no_exits false; uses = u }

abbrev pub as_statement : Exits → Bool → Spot
as_statement E u = record { role = a_value; exits = E; uses = u }

abbrev pub loop_exits : List Text → Exits → Exits
loop_exits ls E = record { cuts = E.cuts; breaks_here = true; continues_here = true; labels = E.labels; loops = ls ++ E.loops }

abbrev pub switch_exits : Exits → Exits
switch_exits E = record { cuts = E.cuts; breaks_here = true; continues_here = E.continues_here; labels = E.labels; loops = E.loops }

abbrev pub labelled_exits : List Text → Exits → Exits
labelled_exits ns E = record { cuts = E.cuts; breaks_here = E.breaks_here; continues_here = E.continues_here; labels = ns ++ E.labels; loops = E.loops }

abbrev pub first_at : Spot → Spot → ℕ → Spot
first_at a b zero = a
first_at a b (suc i) = b

abbrev pub second_at : Spot → Spot → Spot → ℕ → Spot
second_at a b c zero = a
second_at a b c (suc i) = first_at b c i

abbrev pub last_at : Spot → Spot → ℕ → Spot
last_at a b (suc (suc (suc i))) = b
last_at a b i = a

abbrev pub declarator_role : Role → Role
declarator_role a_head = a_head_declarator
declarator_role r = a_declarator

-- a declarator without a value declares a name, but at the left of a for-in or for-of
abbrev pub bound_role : Role → Bool → Role
bound_role a_declarator false = a_place
bound_role r b = a_target true

abbrev pub assigned_role : Text → Role
assigned_role op = if is_word (codes "=") op then a_target false else a_place

abbrev pub parens_role : Role → Role
parens_role a_value = a_value
parens_role r = a_place

-- ls: the labels directly before the node; n: whether its own scope declares by `using`
abbrev pub spots : Spot → AstType → List (Option Text) → Bool → Bool → List Text → List Text → ℕ → Spot
spots c Program ts n b ns ls i = first_at (as_role a_part false) (as_statement c.exits (n || c.uses)) i
spots c BlockStatement ts n b ns ls i = as_statement c.exits (n || c.uses)
spots c VariableDeclaration ts n b ns ls i = as_role (declarator_role c.role) c.uses
spots c VariableDeclarator ts n b ns ls i = first_at (as_role (bound_role c.role b) c.uses) (as_role a_value c.uses) i
spots c IfStatement ts n b ns ls i = first_at (as_role a_value c.uses) (as_statement c.exits c.uses) i
spots c ForStatement ts n b ns ls i = last_at (as_role a_value (n || c.uses)) (as_statement (loop_exits ls c.exits) (n || c.uses)) i
spots c ForInStatement ts n b ns ls i = second_at (as_role a_head (n || c.uses)) (as_role a_value (not n && c.uses)) (as_statement (loop_exits ls c.exits) (n || c.uses)) i
spots c ForOfStatement ts n b ns ls i = second_at (as_role a_head (n || c.uses)) (as_role a_value (not n && c.uses)) (as_statement (loop_exits ls c.exits) (n || c.uses)) i
spots c WhileStatement ts n b ns ls i = first_at (as_role a_value c.uses) (as_statement (loop_exits ls c.exits) c.uses) i
spots c DoWhileStatement ts n b ns ls i = first_at (as_statement (loop_exits ls c.exits) c.uses) (as_role a_value c.uses) i
spots c LabeledStatement ts n b ns ls i = as_statement (labelled_exits ns c.exits) c.uses
spots c SwitchStatement ts n b ns ls i = first_at (as_role a_value c.uses) (record { role = a_clause; exits = switch_exits c.exits; uses = n || c.uses }) i
spots c SwitchCase ts n b ns ls i = first_at (as_role a_value c.uses) (as_statement c.exits c.uses) i
spots c TryStatement ts n b ns ls i = second_at (as_statement c.exits c.uses) (record { role = a_handler; exits = c.exits; uses = c.uses }) (as_statement c.exits c.uses) i
spots c CatchClause ts n b ns ls i = first_at (as_role (a_target true) (n || c.uses)) (as_statement c.exits (n || c.uses)) i
spots c ImportDeclaration ts n b ns ls i = as_role an_import c.uses
spots c TemplateLiteral ts n b ns ls i = first_at (as_role a_part c.uses) (as_role a_value c.uses) i
spots c TaggedTemplateExpression ts n b ns ls i = first_at (as_role a_value c.uses) (as_role a_template c.uses) i
spots c ObjectExpression ts n b ns ls i = as_role a_definition c.uses
spots c UpdateExpression ts n b ns ls i = as_role a_place c.uses
spots c AssignmentExpression ts n b ns ls i = first_at (as_role (assigned_role (first ts)) c.uses) (as_role a_value c.uses) i
spots c MemberExpression ts n b ns ls i = first_at (as_statement (no_exits c.exits.cuts) c.uses) (as_role a_value c.uses) i
spots c CallExpression ts n b ns ls i = first_at (as_statement (no_exits c.exits.cuts) c.uses) (as_role a_value c.uses) i
spots c ChainExpression ts n b ns ls i = as_statement (no_exits true) c.uses
spots c ParenthesizedExpression ts n b ns ls i = as_role (parens_role c.role) c.uses
spots c ObjectPattern ts n b ns ls i = as_role a_member c.uses
spots c ObjectTarget ts n b ns ls i = as_role a_member c.uses
spots c PatternProperty ts n b ns ls i = first_at (as_role a_value c.uses) (as_role (a_target true) c.uses) i
spots c TargetProperty ts n b ns ls i = first_at (as_role a_value c.uses) (as_role (a_target false) c.uses) i
spots c ArrayPattern ts n b ns ls i = as_role (an_element true) c.uses
spots c ArrayTarget ts n b ns ls i = as_role (an_element false) c.uses
spots c AssignmentPattern ts n b ns ls i = first_at (as_role (a_target true) c.uses) (as_role a_value c.uses) i
spots c TargetWithDefault ts n b ns ls i = first_at (as_role (a_target false) c.uses) (as_role a_value c.uses) i
spots c RestElement ts n b ns ls i = as_role (a_target true) c.uses
spots c TargetRest ts n b ns ls i = as_role (a_target false) c.uses
spots c k ts n b ns ls i = as_role a_value c.uses

-- WHAT A NODE SAYS ITSELF

-- not one of the machine's own cells, and not the name of the object of all helpers where a program gets them by it
abbrev pub is_supply_word : Supply → Text → Bool
is_supply_word spread_by_global x = is_word (codes "babelHelpers") x
is_supply_word by_global x = is_word (codes "babelHelpers") x
is_supply_word u x = false

abbrev pub is_plain_word : Supply → Text → Bool
is_plain_word u x = not (is_own_cell x) && not (is_supply_word u x)

abbrev pub is_some_name : List Text → Bool
is_some_name [] = false
is_some_name (x ∷ xs) = not (is_own_cell x)

abbrev pub is_label_there : List Text → Bool
is_label_there [] = false
is_label_there (x ∷ xs) = true

-- the left of a for-in or for-of has no value
abbrev pub fits_head : Role → Bool → Bool
fits_head a_head_declarator b = not b
fits_head r b = true

-- b: a declarator has a value; xs: what its scope declares; x: the word of the declaration around it
abbrev pub is_said : Supply → Spot → AstType → List (Option Text) → List Bool → Bool → List Text → List Text → Text → Bool
is_said u c Identifier ts fs b xs ns x = is_plain_word u (first ts)
is_said u c MemberExpression ts fs b xs ns x = not (flag_after fs) || c.exits.cuts
is_said u c CallExpression ts fs b xs ns x = not (flag fs) || c.exits.cuts
is_said u c BreakStatement ts fs b xs ns x = allowed c.exits (breaks ns)
is_said u c ContinueStatement ts fs b xs ns x = allowed c.exits (continues ns)
is_said u c LabeledStatement ts fs b xs ns x = is_label_there ns
is_said u c VariableDeclarator ts fs b xs ns x = (not (is_word (codes "using") x) || c.uses) && fits_head c.role b
is_said u c MetaProperty ts fs b xs ns x = is_word (codes "import") (first ts)
is_said u c ImportSpecifier ts fs b xs ns x = is_some_name xs
is_said u c ImportDefaultSpecifier ts fs b xs ns x = is_some_name xs
is_said u c ImportNamespaceSpecifier ts fs b xs ns x = is_some_name xs
is_said u c k ts fs b xs ns x = are_program_names xs

abbrev pub labels_in : AstType → List Text → List Text → List Text
labels_in LabeledStatement ns ls = ns ++ ls
labels_in k ns ls = []

abbrev pub word_in : AstType → List (Option Text) → Text
word_in VariableDeclaration ts = first ts
word_in k ts = []

abbrev pub is_label : Text → Tree → Bool
is_label x (node Identifier l fs) = bytes_eq (first l.texts) x
is_label x t = false

-- whether a tree means something where it stands
abbrev mutual
  pub is_meant_at : Supply → Spot → List Text → Text → Tree → Bool
  is_meant_at u c ls x (node k l fs) =
      serves (nature k) c.role && (is_said u c k l.texts l.flags (has_value k fs) (names_of_all (own_names k fs)) (named_label k fs) x
      && are_meant u (slots k l.flags (has_value k fs) (named_label k fs)) (spots c k l.texts (own_use k fs) (has_value k fs) (named_label k fs) ls) (labels_in k (named_label k fs) ls) (word_in k l.texts) fs)

  pub are_meant : Supply → Slots → (ℕ → Spot) → List Text → Text → Fields → Bool
  are_meant u no_slot at ls x done = true
  are_meant u no_slot at ls x (f then fs) = false
  are_meant u (slot s ss) at ls x done = false
  are_meant u (slot s ss) at ls x (f then fs) = is_meant_field u s (at zero) ls x f && are_meant u ss (λ i. at (suc i)) ls x fs
  are_meant u (repeated s) at ls x done = true
  are_meant u (repeated s) at ls x (f then fs) = is_meant_field u s (at zero) ls x f && are_meant u (repeated s) (λ i. at (suc i)) ls x fs

  pub is_meant_field : Supply → Slot → Spot → List Text → Text → Field → Bool
  is_meant_field u required c ls x (one t) = is_meant_at u c ls x t
  is_meant_field u optional c ls x missing = true
  is_meant_field u optional c ls x (one t) = is_meant_at u c ls x t
  is_meant_field u absent c ls x missing = true
  is_meant_field u listed c ls x (many ts) = all_meant u c ls x ts
  is_meant_field u listed c ls x (statements ts) = all_meant u c ls x ts
  is_meant_field u nonempty c ls x (many (t before ts)) = is_meant_at u c ls x t && all_meant u c ls x ts
  is_meant_field u a_key c ls x (one t) = true
  is_meant_field u passed c ls x f = true
  is_meant_field u (labelled_by []) c ls x missing = true
  is_meant_field u (labelled_by (n ∷ [])) c ls x (one t) = is_label n t
  is_meant_field u s c ls x f = false

  pub all_meant : Supply → Spot → List Text → Text → Trees → Bool
  all_meant u c ls x empty = true
  all_meant u c ls x (t before ts) = is_meant_at u c ls x t && all_meant u c ls x ts

abbrev pub is_meant : Supply → Tree → Bool
is_meant u p = is_meant_at u (as_role a_value false) [] [] p
