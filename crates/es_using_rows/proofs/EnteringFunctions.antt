-- The functions at the top of a body which may become those of a block: no parameter has the name of one, and neither a `var` nor another function at
-- the top declares it.
use Rattle.std.proofs.Common.{◌≡◌, ◌∙◌, refl, ap, List, [], ◌∷◌, ◌++◌}
use Rattle.std.specs.Prelude.{◌&&◌, not, Bool, true, false, Some, is_some, if◌then◌else◌}
use Rattle.std.specs.List.{list_all}
use Rattle.std.proofs.lemmas.Bool.{and_parts, not-true, or_parts}
use Rattle.es_tree.specs.HasForm.{has_form, is_of_sort, same_type, trees_form}
use Rattle.es_tree.specs.Names.{first_text}
use Rattle.es_tree.specs.Tree.{Tree, node, Label, Fields, ◌then◌, one, Trees, empty, ◌before◌, label_of}
use Rattle.es_tree.specs.Words.{Text}
use Rattle.es_tree.specs.declared.ast_type.AstType.{AstType}
use Rattle.es_tree.specs.declared.ast_type.AstType.TheVariants.{ArrayPattern, ArrayTarget, AssignmentPattern, ExportDefaultDeclaration, ExportNamedDeclaration, ExportSpecifier, FunctionDeclaration, ObjectPattern, ObjectTarget, ParenthesizedExpression, PatternProperty, RestElement, TargetProperty, TargetRest, TargetWithDefault, VariableDeclarator}
use Rattle.es_tree.specs.declared.table.Sort.TheVariants.{Pattern as s-Pattern, PatternRest as s-PatternRest, Statement as s-Statement}
use Rattle.es_tree.proofs.NodeForm.{node_form}
use Rattle.es_semantic.specs.RolesOf.{reads}
use Rattle.es_semantic.specs.declared.place.Binding.TheVariants.{Parameter}
use Rattle.es_semantic.specs.declared.place.Role.TheVariants.{Binds}
use Rattle.es_resolution.specs.Declarations.{Bound, declared, declared_among, sought, symbol_of}
use Rattle.es_resolution.specs.Resolved.{bound_by}
use Rattle.es_resolution.proofs.AllForms.{AllAmong}
use Rattle.es_steps.specs.ParameterPatterns.IsFunctionName.{named, nameless}
use Rattle.es_steps.specs.Patterns.{no_name_of}
use Rattle.es_steps.specs.UsingBodies.{MayEnter, TopFunctions, bound_as, each_once, is_as_in_block, parameters_of}
use Rattle.es_steps.specs.UsingBodies.TopFunctions.{function, no_function, other}
use Rattle.es_steps.proofs.Apartness.{apart-swap}
use Rattle.es_steps.proofs.FormLists.{first-formed}
use Rattle.es_rest_rows.specs.RestRows.{binds_name}
use Rattle.es_rest_shapes.specs.RestShapes.{any_tree}
use Rattle.es_pattern_moves.specs.PatternMoves.{is_called}
use Rattle.es_pattern_moves.proofs.PatternNames.{both-out, none-out, tree-out}
use Rattle.es_pattern_moves.proofs.Settled.{Sound}
use Rattle.es_pattern_moves.proofs.VarNames.{vars-out}
use Rattle.es_using_rows.specs.UsingPlaces.{all_enter, is_alone, is_export, is_function_of, may_enter, var_at_top}
use Rattle.es_using_rows.proofs.BodiesApart.{NamesApart}
use Rattle.es_using_rows.proofs.BodyNames.{IsFunction, function-parts}
use Rattle.es_using_rows.proofs.BodyNames.IsFunction.{is_function}

-- the names of the functions among these statements
abbrev pub top_functions : Trees → List Bound
top_functions empty = []
top_functions (node FunctionDeclaration l (one t then fs) before ts) = bound_as (label_of t) ∷ top_functions ts
top_functions (t before ts) = top_functions ts

-- a statement is bound in a body as in a block, but for functions and exports
statement-as : (k : AstType) (l : Label) (fs : Fields) → is_of_sort s-Statement k ≡ true → same_type k FunctionDeclaration ≡ false → not (is_export (node k l fs)) ≡ true → is_as_in_block k ≡ true
statement-as FunctionDeclaration l fs h d e = absurd (cc d)
statement-as ExportNamedDeclaration l fs h d e = absurd (cc e)
statement-as ExportDefaultDeclaration l fs h d e = absurd (cc e)
statement-as VariableDeclarator l fs h d e = absurd (cc h)
statement-as ExportSpecifier l fs h d e = absurd (cc h)
statement-as ParenthesizedExpression l fs h d e = absurd (cc h)
statement-as ObjectPattern l fs h d e = absurd (cc h)
statement-as PatternProperty l fs h d e = absurd (cc h)
statement-as ArrayPattern l fs h d e = absurd (cc h)
statement-as AssignmentPattern l fs h d e = absurd (cc h)
statement-as RestElement l fs h d e = absurd (cc h)
statement-as ObjectTarget l fs h d e = absurd (cc h)
statement-as TargetProperty l fs h d e = absurd (cc h)
statement-as ArrayTarget l fs h d e = absurd (cc h)
statement-as TargetWithDefault l fs h d e = absurd (cc h)
statement-as TargetRest l fs h d e = absurd (cc h)
statement-as k l fs h d e = refl

-- what a function is by its form
named-function : (l : Label) (t : Tree) (fs : Fields) (us : Trees) (bs : List Bound) → IsFunction (one t then fs) → TopFunctions us bs → TopFunctions (node FunctionDeclaration l (one t then fs) before us) (bound_as (label_of t) ∷ bs)
named-function l t fs us bs (is_function named parameters body) rest = function rest

-- in a block it declares nothing by `var`
function-none : (l : Label) (fs : Fields) → IsFunction fs → declared true reads (node FunctionDeclaration l fs) ≡ []
function-none l fs (is_function named parameters body) = λ i. parameters i ++ (body i ++ [])
function-none l fs (is_function nameless parameters body) = λ i. parameters i ++ (body i ++ [])

-- LISTS that don't bind a name, where the tests say so

parameters-out : (x : Text) (ps : Trees) → trees_form s-Pattern s-PatternRest ps ≡ true → any_tree (binds_name x) ps ≡ false → bound_by (parameters_of ps) x ≡ false
parameters-out x empty h e = refl
parameters-out x (t before empty) h e = both-out x (declared false (Binds Parameter) t) [] (tree-out false Parameter x s-PatternRest t refl (and_parts (has_form s-PatternRest t) true h).0 (or_parts (binds_name x t) false e).0) refl
parameters-out x (t before (u before ps)) h e =
    let form = and_parts (has_form s-Pattern t) (trees_form s-Pattern s-PatternRest (u before ps)) h in
    let none = or_parts (binds_name x t) (any_tree (binds_name x) (u before ps)) e in
    both-out x (declared false (Binds Parameter) t) (parameters_of (u before ps)) (tree-out false Parameter x s-Pattern t refl form.0 none.0) (parameters-out x (u before ps) form.1 none.1)

vars-out-all : (x : Text) (ts : Trees) → AllAmong Sound ts → any_tree (var_at_top x) ts ≡ false → bound_by (declared_among true reads ts) x ≡ false
vars-out-all x empty h e = refl
vars-out-all x (node FunctionDeclaration l fs before ts) h e =
    let is = function-parts l fs (node_form h.0.0.sort FunctionDeclaration l fs h.0.0.form).children in
    both-out x (declared true reads (node FunctionDeclaration l fs)) (declared_among true reads ts) (none-out x (declared true reads (node FunctionDeclaration l fs)) (function-none l fs is)) (vars-out-all x ts h.1 e)
vars-out-all x (node k l fs before ts) h e =
    let none = or_parts (var_at_top x (node k l fs)) (any_tree (var_at_top x) ts) e in
    both-out x (declared true reads (node k l fs)) (declared_among true reads ts) (vars-out x reads (node k l fs) refl h.0 none.0) (vars-out-all x ts h.1 none.1)

functions-out : (x : Text) (ts : Trees) → any_tree (is_function_of x) ts ≡ false → bound_by (top_functions ts) x ≡ false
functions-out x empty e = refl
functions-out x (node FunctionDeclaration l (one t then fs) before ts) e =
    let none = or_parts (is_called x t) (any_tree (is_function_of x) ts) e in
    ap (λ (b : Bool). is_some (if b then Some (symbol_of (label_of t)) else sought (top_functions ts) x)) none.0 ∙ functions-out x ts none.1
functions-out x (t before ts) e = functions-out x ts e

-- THE FUNCTIONS of a body

module _ (ps ts : Trees) where
  record Alone (x : Text) (us : Trees) : Type 0 where
    parameters : any_tree (binds_name x) ps ≡ false
    vars : any_tree (var_at_top x) ts ≡ false
    later : any_tree (is_function_of x) us ≡ false

  alone : (x : Text) (us : Trees) → is_alone x ps ts us ≡ true → Alone x us
  alone x us e =
      let parts = and_parts (not (any_tree (binds_name x) ps) && not (any_tree (var_at_top x) ts)) (not (any_tree (is_function_of x) us)) e in
      let others = and_parts (not (any_tree (binds_name x) ps)) (not (any_tree (var_at_top x) ts)) parts.0 in
      record { parameters = not-true (any_tree (binds_name x) ps) others.0; vars = not-true (any_tree (var_at_top x) ts) others.1; later = not-true (any_tree (is_function_of x) us) parts.1 }

  -- a function with those behind it, and any other statement
  function-enters : (t : Tree) (us : Trees) → (is_alone (first_text (label_of t).texts) ps ts us && all_enter ps ts us) ≡ true → Alone (first_text (label_of t).texts) us × (all_enter ps ts us ≡ true)
  function-enters t us e = let parts = and_parts (is_alone (first_text (label_of t).texts) ps ts us) (all_enter ps ts us) e in (alone (first_text (label_of t).texts) us parts.0, parts.1)

  other-enters : (t : Tree) (us : Trees) → (not (is_export t) && all_enter ps ts us) ≡ true → (not (is_export t) ≡ true) × (all_enter ps ts us ≡ true)
  other-enters t us e = and_parts (not (is_export t)) (all_enter ps ts us) e

  are-functions : (us : Trees) → trees_form s-Statement s-Statement us ≡ true → all_enter ps ts us ≡ true → TopFunctions us (top_functions us)
  are-functions empty h e = no_function
  are-functions (node FunctionDeclaration l (one t then fs) before us) h e =
      let form = first-formed s-Statement (node FunctionDeclaration l (one t then fs)) us h in
      let is = function-parts l (one t then fs) (node_form s-Statement FunctionDeclaration l (one t then fs) form.0).children in
      named-function l t fs us (top_functions us) is (are-functions us form.1 (function-enters t us e).1)
  are-functions (node FunctionDeclaration l fs before us) h e = absurd (cc e)
  are-functions (node k l fs before us) h e =
      let form = first-formed s-Statement (node k l fs) us h in
      let enters = other-enters (node k l fs) us e in
      other (statement-as k l fs (node_form s-Statement k l fs form.0).sort refl enters.0) (are-functions us form.1 enters.1)

  -- what binds no name that no parameter and no `var` has
  names-apart : (bs : List Bound) → ((x : Text) → any_tree (binds_name x) ps ≡ false → any_tree (var_at_top x) ts ≡ false → bound_by bs x ≡ false) → (us : Trees) → all_enter ps ts us ≡ true → list_all (no_name_of bs) (top_functions us) ≡ true
  names-apart bs out empty e = refl
  names-apart bs out (node FunctionDeclaration l (one t then fs) before us) e =
      let enters = function-enters t us e in
      λ i. not (out (first_text (label_of t).texts) enters.0.parameters enters.0.vars i) && names-apart bs out us enters.1 i
  names-apart bs out (node FunctionDeclaration l fs before us) e = absurd (cc e)
  names-apart bs out (t before us) e = names-apart bs out us (other-enters t us e).1

  names-once : (us : Trees) → all_enter ps ts us ≡ true → each_once (top_functions us) ≡ true
  names-once empty e = refl
  names-once (node FunctionDeclaration l (one t then fs) before us) e =
      let enters = function-enters t us e in
      λ i. not (functions-out (first_text (label_of t).texts) us enters.0.later i) && names-once us enters.1 i
  names-once (node FunctionDeclaration l fs before us) e = absurd (cc e)
  names-once (t before us) e = names-once us (other-enters t us e).1

  pub may-enter : trees_form s-Pattern s-PatternRest ps ≡ true → trees_form s-Statement s-Statement ts ≡ true → AllAmong Sound ts → may_enter ps ts ≡ true → NamesApart ts → MayEnter (parameters_of ps) (top_functions ts) ts
  may-enter g h sound e apart = record {
    functions = are-functions ts h e;
    parameters = apart-swap (top_functions ts) (parameters_of ps) (names-apart (parameters_of ps) (λ x p v. parameters-out x ps g p) ts e);
    vars = apart-swap (top_functions ts) (declared_among true reads ts) (names-apart (declared_among true reads ts) (λ x p v. vars-out-all x ts sound v) ts e);
    lexical = apart;
    once = names-once ts e;
  }
