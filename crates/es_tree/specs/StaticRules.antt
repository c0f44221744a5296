-- The static rules: early errors of ECMA-262 over every program. The nodes of a program are visited in node order, each
-- with its ancestors. A rule is a test of one visit, of the names declared before it, and of all names that the program
-- declares.
use Rattle.std.specs.Prelude.{◌≡◌, List, [], ◌∷◌, ◌++◌, map, filter, Bool, true, false, not, ◌&&◌, ◌||◌, Option, Some, is_some, bytes_eq, codes, if◌then◌else◌}
use Rattle.std.specs.List.{list_any}
use Rattle.es_tree.specs.Ancestors.{Ancestor, LabelName, Visit, classes, has_new_target, has_super_calls, has_super_members, is_breakable, is_in_function, is_in_loop, is_module, is_module_top, is_script_top, labels, leads_by, place_of, stands_in, visits}
use Rattle.es_tree.specs.Children.{child_at}
use Rattle.es_tree.specs.CoreStaticRules.{Break, is_bad_delete, is_bad_target, is_empty_chain, is_lexical, is_missing_init, is_name, is_optional, is_simple_target, is_stray_optional}
use Rattle.es_tree.specs.DeclaredNames.{Name, clashes, declared, is_class_key, is_declared}
use Rattle.es_tree.specs.HasForm.{same_type}
use Rattle.es_tree.specs.Names.{first_text, flag_at, third_stands}
use Rattle.es_tree.specs.Parens.{without_parens}
use Rattle.es_tree.specs.Scopes.{own_text}
use Rattle.es_tree.specs.Tree.{Tree, node, Label, Fields, done, ◌then◌, Field, missing, one, many, statements, Trees, empty, ◌before◌, kind_of, label_of}
use Rattle.es_tree.specs.Words.{Text}
use Rattle.es_tree.specs.declared.ast_type.AstType.{AstType}
use Rattle.es_tree.specs.declared.ast_type.AstType.TheVariants.{VariableDeclaration, FunctionDeclaration, FunctionExpression, ClassDeclaration, MethodDefinition, ReturnStatement, IfStatement, ForStatement, ForInStatement, ForOfStatement, WhileStatement, DoWhileStatement, BreakStatement, ContinueStatement, LabeledStatement, ImportDeclaration, ExportNamedDeclaration, ExportSpecifier, ExportDefaultDeclaration, ExportAllDeclaration, Identifier, PrivateIdentifier, Super, StringLiteral, MemberExpression, CallExpression, ObjectProperty, MetaProperty, ObjectPattern, PatternProperty, RestElement, ObjectTarget, TargetProperty, TargetRest}
use Rattle.es_tree.specs.declared.place.Namespace.{Namespace}
use Rattle.es_tree.specs.declared.place.Namespace.TheVariants.{Scope, Parameters, Exports, PrivateNames}
use Rattle.es_tree.specs.declared.error.Rule.{Rule}
use Rattle.es_tree.specs.declared.error.Rule.TheVariants.{
  DuplicateName,
  MissingLabel,
  DuplicateLabel,
  MisplacedReturn,
  MisplacedSuper,
  BadTarget,
  EmptyChain,
  StrayOptional,
  DeleteName,
  MissingInit,
  BadUsing,
  BadFor,
  MisplacedModuleItem,
  BadExport,
  BadClass,
  BadAccessor,
  BadRest,
  MisplacedDeclaration,
  MisplacedMeta,
}
use Rattle.es_tree.specs.declared.error.LowerError.{LowerError}
use Rattle.es_tree.specs.declared.error.LowerError.TheVariants.{Invalid, OutOfMemory}

-- CLASHING NAMES: each namespace belongs to a rule

abbrev pub is_binding_space : Namespace → Bool
is_binding_space Scope = true
is_binding_space Parameters = true
is_binding_space _ = false

abbrev pub is_export_space : Namespace → Bool
is_export_space Exports = true
is_export_space _ = false

abbrev pub is_class_space : Namespace → Bool
is_class_space s = not (is_binding_space s || is_export_space s)

-- whether a name that is declared here, in a namespace that passes the test, clashes with an earlier one
abbrev pub has_clash : (Namespace → Bool) → List Name → List Name → Bool
has_clash belongs earlier ns = list_any (λ n. belongs n.namespace && clashes earlier n) ns

-- LABELS (14.8.1, 14.9.1, 14.13.1): of a `break` around it in the same function or static block, of a `continue` before a
-- loop; without a label a `break` wants a loop or a switch around it, a `continue` a loop

abbrev pub is_label : Text → LabelName → Bool
is_label x e = bytes_eq e.name x

abbrev pub is_loop_label : Text → LabelName → Bool
is_loop_label x e = bytes_eq e.name x && e.loop

abbrev pub is_missing_label : List Ancestor → Tree → Bool
is_missing_label up (node BreakStatement l (one n then fs)) = not (list_any (is_label (own_text n)) (labels up))
is_missing_label up (node BreakStatement l fs) = not (is_breakable up)
is_missing_label up (node ContinueStatement l (one n then fs)) = not (list_any (is_loop_label (own_text n)) (labels up))
is_missing_label up (node ContinueStatement l fs) = not (is_in_loop up)
is_missing_label up _ = false

abbrev pub is_duplicate_label : List Ancestor → Tree → Bool
is_duplicate_label up (node Identifier l fs) = stands_in LabeledStatement 0 up && list_any (is_label (first_text l.texts)) (labels up)
is_duplicate_label up _ = false

-- RETURN (14.10): in a function or an arrow

abbrev pub is_misplaced_return : List Ancestor → Tree → Bool
is_misplaced_return up (node ReturnStatement l fs) = not (is_in_function up)
is_misplaced_return up _ = false

-- SUPER (13.3.7.1, 15.7.1): called in the constructor of a class that extends another; with a member in a method, an
-- accessor, a constructor, a class field or a static block; unmarked both, and through arrows

abbrev pub is_unmarked_callee : List Ancestor → Bool
is_unmarked_callee [] = false
is_unmarked_callee (a ∷ up) = leads_by CallExpression 0 a && not (is_optional a.kind a.label)

abbrev pub is_unmarked_object : List Ancestor → Bool
is_unmarked_object [] = false
is_unmarked_object (a ∷ up) = leads_by MemberExpression 0 a && not (is_optional a.kind a.label)

abbrev pub is_misplaced_super : List Ancestor → Tree → Bool
is_misplaced_super up (node Super l fs) = not ((is_unmarked_callee up && has_super_calls up) || (is_unmarked_object up && has_super_members up))
is_misplaced_super up _ = false

-- USING (Explicit Resource Management): with plain names alone, not at the top of a script, not in the head of a for-in,
-- and not exported. In a case of a `switch` it may stand.

abbrev pub binds_name : Tree → Bool
binds_name (node k l fs) = is_name (child_at 0 fs)

abbrev pub has_pattern : Trees → Bool
has_pattern empty = false
has_pattern (d before ds) = not (binds_name d) || has_pattern ds

abbrev pub is_bad_using : List Ancestor → Tree → Bool
is_bad_using up (node VariableDeclaration l (many ds then fs)) =
    bytes_eq (first_text l.texts) (codes "using")
    && (has_pattern ds || is_script_top up || stands_in ForInStatement 0 up || stands_in ExportNamedDeclaration 0 up)
is_bad_using up _ = false

-- HEADS OF FOR-IN AND FOR-OF (14.7.5): one declarator, without a value

abbrev pub has_value : Tree → Bool
has_value (node k l fs) = is_some (child_at 1 fs)

abbrev pub is_lone_declarator : Trees → Bool
is_lone_declarator (d before empty) = not (has_value d)
is_lone_declarator _ = false

abbrev pub is_bad_for : List Ancestor → Tree → Bool
is_bad_for up (node VariableDeclaration l (many ds then fs)) = (stands_in ForInStatement 0 up || stands_in ForOfStatement 0 up) && not (is_lone_declarator ds)
is_bad_for up _ = false

-- IMPORTS AND EXPORTS (16.2): directly in the body of a module

abbrev pub is_module_item : AstType → Bool
is_module_item ImportDeclaration = true
is_module_item ExportNamedDeclaration = true
is_module_item ExportDefaultDeclaration = true
is_module_item ExportAllDeclaration = true
is_module_item _ = false

abbrev pub is_misplaced_module_item : List Ancestor → Tree → Bool
is_misplaced_module_item up t = is_module_item (kind_of t) && not (is_module_top up)

-- EXPORTS (16.2.3.1): what is exported is declared, and named once outside; a declaration stands alone, and has a name unless
-- it is the default; a string names what another module has

-- whether the local name of an export without a source stands here
abbrev pub is_local_export : List Ancestor → Bool
is_local_export (a ∷ (b ∷ up)) = leads_by ExportSpecifier 0 a && leads_by ExportNamedDeclaration 1 b && not (third_stands b.fields)
is_local_export _ = false

-- whether the field has a node
abbrev pub has_node : Field → Bool
has_node missing = false
has_node (one t) = true
has_node (many empty) = false
has_node (many (t before ts)) = true
has_node (statements ts) = false

abbrev pub any_has_node : Fields → Bool
any_has_node done = false
any_has_node (f then fs) = has_node f || any_has_node fs

-- a declaration with specifiers, a source or attributes beside it
abbrev pub is_crowded_export : Fields → Bool
is_crowded_export (one t then fs) = any_has_node fs
is_crowded_export _ = false

abbrev pub has_no_name : Fields → Bool
has_no_name fs = not (is_some (child_at 0 fs))

abbrev pub is_bad_export : List Name → List Ancestor → Tree → Bool
is_bad_export all up (node ExportNamedDeclaration l fs) = is_crowded_export fs
is_bad_export all up (node FunctionDeclaration l fs) = has_no_name fs && not (stands_in ExportDefaultDeclaration 0 up)
is_bad_export all up (node ClassDeclaration l fs) = has_no_name fs && not (stands_in ExportDefaultDeclaration 0 up)
is_bad_export all up (node StringLiteral l fs) = is_local_export up
is_bad_export all up (node Identifier l fs) = is_local_export up && not (is_declared all Scope 0 (first_text l.texts))
is_bad_export all up _ = false

-- CLASSES (15.7.1, 13.2.5): no constructor is static, computed or an accessor; a private name is declared by a class around,
-- and no key of a literal or of a pattern

-- whether the key is the name or the string `constructor`
abbrev pub is_constructor_key : Option Tree → Bool
is_constructor_key (Some (node Identifier l fs)) = bytes_eq (first_text l.texts) (codes "constructor")
is_constructor_key (Some (node StringLiteral l fs)) = bytes_eq (first_text l.texts) (codes "constructor")
is_constructor_key _ = false

abbrev pub is_accessor_word : Text → Bool
is_accessor_word word = bytes_eq word (codes "get") || bytes_eq word (codes "set")

-- of a method the first truth value says that it is static, and the second that its key is computed
abbrev pub is_bad_method : Label → Fields → Bool
is_bad_method l fs =
    if bytes_eq (first_text l.texts) (codes "constructor") then flag_at 0 l.flags || flag_at 1 l.flags
    else is_accessor_word (first_text l.texts) && not (flag_at 0 l.flags || flag_at 1 l.flags) && is_constructor_key (child_at 0 fs)

abbrev pub is_plain_key : List Ancestor → Bool
is_plain_key up = stands_in ObjectProperty 0 up || stands_in PatternProperty 0 up || stands_in TargetProperty 0 up

abbrev pub is_bad_class : List Name → List Ancestor → Tree → Bool
is_bad_class all up (node MethodDefinition l fs) = is_bad_method l fs
is_bad_class all up (node PrivateIdentifier l fs) =
    not (is_class_key up) && (is_plain_key up || not (list_any (λ n. is_declared all PrivateNames n (first_text l.texts)) (classes up)))
is_bad_class all up _ = false

-- ACCESSORS (15.4): a getter has no parameters, a setter one that is no rest

-- the parameters of a method's or a property's function
abbrev pub parameters_in : Fields → Trees
parameters_in (key then (one (node FunctionExpression l (n then (many ps then gs))) then fs)) = ps
parameters_in _ = empty

abbrev pub is_empty : Trees → Bool
is_empty empty = true
is_empty _ = false

abbrev pub is_lone_parameter : Trees → Bool
is_lone_parameter (p before empty) = not (same_type (kind_of p) RestElement)
is_lone_parameter _ = false

abbrev pub is_bad_accessor_of : Label → Fields → Bool
is_bad_accessor_of l fs =
    (bytes_eq (first_text l.texts) (codes "get") && not (is_empty (parameters_in fs)))
    || (bytes_eq (first_text l.texts) (codes "set") && not (is_lone_parameter (parameters_in fs)))

abbrev pub is_bad_accessor : Tree → Bool
is_bad_accessor (node MethodDefinition l fs) = is_bad_accessor_of l fs
is_bad_accessor (node ObjectProperty l fs) = is_bad_accessor_of l fs
is_bad_accessor _ = false

-- RESTS OF OBJECTS (14.3.3, 13.15.5): a name, or of an assignment a name or a member, maybe in parentheses

abbrev pub is_bad_rest : List Ancestor → Tree → Bool
is_bad_rest (a ∷ (b ∷ up)) t =
    (leads_by RestElement 0 a && same_type b.kind ObjectPattern && not (same_type (kind_of t) Identifier))
    || (leads_by TargetRest 0 a && same_type b.kind ObjectTarget && not (is_simple_target (kind_of (without_parens t))))
is_bad_rest _ t = false

-- DECLARATIONS (14): none is the body of an `if`, a loop or a label, but by `var`

abbrev pub is_declaration : AstType → Label → Bool
is_declaration VariableDeclaration l = is_lexical (first_text l.texts)
is_declaration FunctionDeclaration l = true
is_declaration ClassDeclaration l = true
is_declaration _ l = false

abbrev pub is_lone_body : List Ancestor → Bool
is_lone_body up =
    stands_in IfStatement 1 up || stands_in IfStatement 2 up || stands_in ForStatement 3 up || stands_in ForInStatement 2 up || stands_in ForOfStatement 2 up
    || stands_in WhileStatement 1 up || stands_in DoWhileStatement 0 up || stands_in LabeledStatement 1 up

abbrev pub is_misplaced_declaration : List Ancestor → Tree → Bool
is_misplaced_declaration up t = is_declaration (kind_of t) (label_of t) && is_lone_body up

-- META PROPERTIES (13.3.12.1): `new.target` in a function, a class field or a static block; `import.meta` in a module

abbrev pub is_misplaced_meta : List Ancestor → Tree → Bool
is_misplaced_meta up (node MetaProperty l fs) = if bytes_eq (first_text l.texts) (codes "new") then not (has_new_target up) else not (is_module up)
is_misplaced_meta up _ = false

-- BROKEN RULES

-- the rules, in the order of the answer at one node
abbrev pub all_rules : List Rule
all_rules =
    DuplicateName ∷ MissingLabel ∷ DuplicateLabel ∷ MisplacedReturn ∷ MisplacedSuper ∷ BadTarget ∷ EmptyChain ∷
    StrayOptional ∷ DeleteName ∷ MissingInit ∷ BadUsing ∷ BadFor ∷ MisplacedModuleItem ∷ BadExport ∷ BadClass ∷
    BadAccessor ∷ BadRest ∷ MisplacedDeclaration ∷ MisplacedMeta ∷ []

-- whether a node with these ancestors breaks this rule, where the program declares all these names, and these before it
abbrev pub is_broken : List Name → List Name → List Ancestor → Tree → Rule → Bool
is_broken all earlier up t DuplicateName = has_clash is_binding_space earlier (declared up t)
is_broken all earlier up t MissingLabel = is_missing_label up t
is_broken all earlier up t DuplicateLabel = is_duplicate_label up t
is_broken all earlier up t MisplacedReturn = is_misplaced_return up t
is_broken all earlier up t MisplacedSuper = is_misplaced_super up t
is_broken all earlier up t BadTarget = is_bad_target (place_of up) t
is_broken all earlier up t EmptyChain = is_empty_chain t
is_broken all earlier up t StrayOptional = is_stray_optional (place_of up) t
is_broken all earlier up t DeleteName = is_bad_delete t
is_broken all earlier up t MissingInit = is_missing_init (place_of up) t
is_broken all earlier up t BadUsing = is_bad_using up t
is_broken all earlier up t BadFor = is_bad_for up t
is_broken all earlier up t MisplacedModuleItem = is_misplaced_module_item up t
is_broken all earlier up t BadExport = has_clash is_export_space earlier (declared up t) || is_bad_export all up t
is_broken all earlier up t BadClass = has_clash is_class_space earlier (declared up t) || is_bad_class all up t
is_broken all earlier up t BadAccessor = is_bad_accessor t
is_broken all earlier up t BadRest = is_bad_rest up t
is_broken all earlier up t MisplacedDeclaration = is_misplaced_declaration up t
is_broken all earlier up t MisplacedMeta = is_misplaced_meta up t

-- which of these rules a visit breaks
abbrev pub breaks_at : List Rule → List Name → List Name → Visit → List Break
breaks_at rules all earlier v = map (λ r. (r, (label_of v.tree).id)) (filter (is_broken all earlier v.ancestors v.tree) rules)

-- which of them these visits break one after the other, after these declared names, the latest first
abbrev pub breaks_after : List Rule → List Name → List Name → List Visit → List Break
breaks_after rules all earlier [] = []
breaks_after rules all earlier (v ∷ vs) = breaks_at rules all earlier v ++ breaks_after rules all (declared v.ancestors v.tree ++ earlier) vs

-- the names that these visits declare beside these, the latest first
abbrev pub declared_by : List Visit → List Name → List Name
declared_by [] earlier = earlier
declared_by (v ∷ vs) earlier = declared_by vs (declared v.ancestors v.tree ++ earlier)

-- all names that a program declares
abbrev pub all_names : Tree → List Name
all_names t = declared_by (visits [] 0 t) []

-- the broken rules of a program in node order, and at one node in the order of the rules
abbrev pub breaks : Tree → List Break
breaks t = breaks_after all_rules (all_names t) [] (visits [] 0 t)

-- The error is the first of these, or want of memory.
abbrev pub IsFirstBreak : List Break → LowerError → Type 0
IsFirstBreak (b ∷ bs) (Invalid rule id) = b ≡ (rule, id.0)
IsFirstBreak bs OutOfMemory = Unit {0}
IsFirstBreak bs e = ⊥
