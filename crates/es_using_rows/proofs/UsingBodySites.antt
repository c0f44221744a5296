-- `using` at the top of a body: what the body becomes is a step of the rules of `using`, where `babelHelpers` finds nothing, the functions at its top
-- may become those of the block, and no name that the body declares by `var` is one that it declares otherwise.
use Rattle.std.proofs.Common.{◌≡◌, ℕ, inl, inr}
use Rattle.std.specs.Prelude.{◌&&◌, true, false, Option, codes}
use Rattle.std.proofs.lemmas.Bool.{and_parts}
use Rattle.es_tree.specs.Fresh.{IsFreshName, text_base}
use Rattle.es_tree.specs.HasForm.{field_form, has_form, trees_form}
use Rattle.es_tree.specs.Tree.{Tree, node, Label, done, ◌then◌, Field, Trees, empty, ◌before◌}
use Rattle.es_tree.specs.Words.{Text}
use Rattle.es_tree.specs.declared.ast_type.AstType.TheVariants.{ArrowFunctionExpression, Directive, FunctionBody, FunctionDeclaration, FunctionExpression}
use Rattle.es_tree.specs.declared.table.Content.TheVariants.{Child as c-Child}
use Rattle.es_tree.specs.declared.table.Often.TheVariants.{Optional}
use Rattle.es_tree.specs.declared.table.Sort.{Sort}
use Rattle.es_tree.specs.declared.table.Sort.TheVariants.{ArrowFunctionBody as s-ArrowFunctionBody, Directive as s-Directive, FunctionBody as s-FunctionBody, Identifier as s-Identifier, Pattern as s-Pattern, PatternRest as s-PatternRest, Statement as s-Statement}
use Rattle.es_tree.proofs.NodeForm.{node_form}
use Rattle.es_semantic.specs.RolesOf.{reads, role_at}
use Rattle.es_resolution.specs.Declarations.{Bound}
use Rattle.es_resolution.specs.Resolved.{Place, place_in}
use Rattle.es_resolution.proofs.AllForms.{AllAmong}
use Rattle.es_steps.specs.AllRules.{UsingRule}
use Rattle.es_steps.specs.Identifiers.{Passes}
use Rattle.es_steps.specs.Open.{Additions, Pending}
use Rattle.es_steps.specs.ParameterPatterns.{IsFunctionName, body_fields}
use Rattle.es_steps.specs.Rules.{next_name}
use Rattle.es_steps.specs.Steps.{Site, Whole}
use Rattle.es_steps.specs.Steps.Ledger.{ledger}
use Rattle.es_steps.specs.Steps.Spot.{at_node}
use Rattle.es_steps.specs.UsingBlocks.{Constants, TakesContext, has_using, with_context}
use Rattle.es_steps.specs.UsingBodies.{Directives, arrow_fields, body, function_fields, in_body}
use Rattle.es_steps.specs.UsingBodies.BodyUsing.{of_arrow, of_declaration, of_expression}
use Rattle.es_steps.specs.UsingBodies.Directives.{directive, no_directive}
use Rattle.es_steps.proofs.FormLists.{first-formed}
use Rattle.es_rest_rows.proofs.HelperNames.{FindsNone, is_other_name, place-none}
use Rattle.es_pattern_moves.proofs.Settled.{Sound}
use Rattle.es_using_rows.specs.Used.{constants, tried}
use Rattle.es_using_rows.specs.UsingPlaces.{are_used, may_enter, uses_in_list}
use Rattle.es_using_rows.specs.UsingRows.{making}
use Rattle.es_using_rows.proofs.BodiesApart.{NamesApart}
use Rattle.es_using_rows.proofs.BodyNames.{function-name}
use Rattle.es_using_rows.proofs.EnteringFunctions.{may-enter}
use Rattle.es_using_rows.proofs.UsingSites.{constants-are, takes}

-- WHAT HAS FORM

directives-are : (ds : Trees) → trees_form s-Directive s-Directive ds ≡ true → Directives ds
directives-are empty h = no_directive
directives-are (node Directive l done before ds) h = directive (directives-are ds (first-formed s-Directive (node Directive l done) ds h).1)
directives-are (node Directive l (f then fs) before ds) h = absurd (let no : false ≡ true = (node_form s-Directive Directive l (f then fs) (first-formed s-Directive (node Directive l (f then fs)) ds h).0).children in cc no)
directives-are (node k l fs before ds) h = absurd (let no : false ≡ true = (node_form s-Directive k l fs (first-formed s-Directive (node k l fs) ds h).0).sort in cc no)

-- THE STEPS

record BodyForm (ds ts : Trees) : Type 0 where
  directives : Directives ds
  statements : trees_form s-Statement s-Statement ts ≡ true

body-form : (s : Sort) (l : Label) (ds ts : Trees) → has_form s (body l ds ts) ≡ true → BodyForm ds ts
body-form s l ds ts h =
    let parts = and_parts (trees_form s-Directive s-Directive ds) (trees_form s-Statement s-Statement ts && true) (node_form s FunctionBody l (body_fields ds ts) h).children in
    record { directives = directives-are ds parts.0; statements = (and_parts (trees_form s-Statement s-Statement ts) true parts.1).0 }

record FunctionForm (f : Field) (ps ds ts : Trees) : Type 0 where
  name : IsFunctionName f
  parameters : trees_form s-Pattern s-PatternRest ps ≡ true
  inner : BodyForm ds ts

declaration-form : (s : Sort) (m l : Label) (f : Field) (ps ds ts : Trees) → has_form s (node FunctionDeclaration m (function_fields f ps (body l ds ts))) ≡ true → FunctionForm f ps ds ts
declaration-form s m l f ps ds ts h =
    let b = body l ds ts in
    let parts = and_parts (field_form FunctionDeclaration m (c-Child s-Identifier Optional) f) (trees_form s-Pattern s-PatternRest ps && (has_form s-FunctionBody b && true)) (node_form s FunctionDeclaration m (function_fields f ps b) h).children in
    let lists = and_parts (trees_form s-Pattern s-PatternRest ps) (has_form s-FunctionBody b && true) parts.1 in
    record { name = function-name FunctionDeclaration m f parts.0; parameters = lists.0; inner = body-form s-FunctionBody l ds ts (and_parts (has_form s-FunctionBody b) true lists.1).0 }

expression-form : (s : Sort) (m l : Label) (f : Field) (ps ds ts : Trees) → has_form s (node FunctionExpression m (function_fields f ps (body l ds ts))) ≡ true → FunctionForm f ps ds ts
expression-form s m l f ps ds ts h =
    let b = body l ds ts in
    let parts = and_parts (field_form FunctionExpression m (c-Child s-Identifier Optional) f) (trees_form s-Pattern s-PatternRest ps && (has_form s-FunctionBody b && true)) (node_form s FunctionExpression m (function_fields f ps b) h).children in
    let lists = and_parts (trees_form s-Pattern s-PatternRest ps) (has_form s-FunctionBody b && true) parts.1 in
    record { name = function-name FunctionExpression m f parts.0; parameters = lists.0; inner = body-form s-FunctionBody l ds ts (and_parts (has_form s-FunctionBody b) true lists.1).0 }

record ArrowForm (ps ds ts : Trees) : Type 0 where
  parameters : trees_form s-Pattern s-PatternRest ps ≡ true
  inner : BodyForm ds ts

arrow-form : (s : Sort) (m l : Label) (ps ds ts : Trees) → has_form s (node ArrowFunctionExpression m (arrow_fields ps (body l ds ts))) ≡ true → ArrowForm ps ds ts
arrow-form s m l ps ds ts h =
    let b = body l ds ts in
    let parts = and_parts (trees_form s-Pattern s-PatternRest ps) (has_form s-ArrowFunctionBody b && true) (node_form s ArrowFunctionExpression m (arrow_fields ps b) h).children in
    record { parameters = parts.0; inner = body-form s-ArrowFunctionBody l ds ts (and_parts (has_form s-ArrowFunctionBody b) true parts.1).0 }

module _ (n : Site) (w : Whole) (q : Pending) (x : Option Bound) (y : Additions) (i : ℕ) (h : Tree) (c : Text) (fresh : IsFreshName w.in_use (text_base (codes "usingCtx")) c) (used : w.in_use (codes "babelHelpers") ≡ true) (none : FindsNone n.names) (l : Label) (ds ts : Trees) (uses : uses_in_list ts ≡ true) (sound : AllAmong Sound ts) (apart : NamesApart ts) where
  abbrev IsStep : Tree → Tree → Type 0
  IsStep t u = UsingRule n (ledger w q x y) (at_node t) (ledger (with_context c w) q x y) (at_node u)

  -- what stays in the body is the `try`
  abbrev pub body_after : Tree
  body_after = body l ds (tried (making w c) i h (constants (making w c) i ts) before empty)

  both : (has_using ts ≡ true) × (are_used ts ≡ true)
  both = and_parts (has_using ts) (are_used ts) uses

  constants-here : Constants (next_name w c) ts (constants (making w c) i ts)
  constants-here = constants-are w c i ts both.1

  context : (p : Place) → FindsNone p → Passes is_other_name (body l ds ts) → TakesContext w c (in_body p l ds ts)
  context p e k = takes w c fresh used (in_body p l ds ts) (place-none p reads FunctionBody l (body_fields ds ts) k e 1)

  pub declaration-step : (s : Sort) (m : Label) (f : Field) (ps : Trees) → may_enter ps ts ≡ true → has_form s (node FunctionDeclaration m (function_fields f ps (body l ds ts))) ≡ true → Passes is_other_name (node FunctionDeclaration m (function_fields f ps (body l ds ts))) →
      IsStep (node FunctionDeclaration m (function_fields f ps (body l ds ts))) (node FunctionDeclaration m (function_fields f ps body_after))
  declaration-step s m f ps enter e k =
      let form = declaration-form s m l f ps ds ts e in
      let fs = function_fields f ps (body l ds ts) in
      inr (inl (of_declaration form.name form.inner.directives both.0 (may-enter ps ts form.parameters form.inner.statements sound enter apart) (context (place_in n.names FunctionDeclaration m (role_at n.role FunctionDeclaration m fs) fs 2) (place-none n.names n.role FunctionDeclaration m fs k none 2) k.1.1.1.0) constants-here))

  pub expression-step : (s : Sort) (m : Label) (f : Field) (ps : Trees) → may_enter ps ts ≡ true → has_form s (node FunctionExpression m (function_fields f ps (body l ds ts))) ≡ true → Passes is_other_name (node FunctionExpression m (function_fields f ps (body l ds ts))) →
      IsStep (node FunctionExpression m (function_fields f ps (body l ds ts))) (node FunctionExpression m (function_fields f ps body_after))
  expression-step s m f ps enter e k =
      let form = expression-form s m l f ps ds ts e in
      let fs = function_fields f ps (body l ds ts) in
      inr (inl (of_expression form.name form.inner.directives both.0 (may-enter ps ts form.parameters form.inner.statements sound enter apart) (context (place_in n.names FunctionExpression m (role_at n.role FunctionExpression m fs) fs 2) (place-none n.names n.role FunctionExpression m fs k none 2) k.1.1.1.0) constants-here))

  pub arrow-step : (s : Sort) (m : Label) (ps : Trees) → may_enter ps ts ≡ true → has_form s (node ArrowFunctionExpression m (arrow_fields ps (body l ds ts))) ≡ true → Passes is_other_name (node ArrowFunctionExpression m (arrow_fields ps (body l ds ts))) →
      IsStep (node ArrowFunctionExpression m (arrow_fields ps (body l ds ts))) (node ArrowFunctionExpression m (arrow_fields ps body_after))
  arrow-step s m ps enter e k =
      let form = arrow-form s m l ps ds ts e in
      let fs = arrow_fields ps (body l ds ts) in
      inr (inl (of_arrow form.inner.directives both.0 (may-enter ps ts form.parameters form.inner.statements sound enter apart) (context (place_in n.names ArrowFunctionExpression m (role_at n.role ArrowFunctionExpression m fs) fs 1) (place-none n.names n.role ArrowFunctionExpression m fs k none 1) k.1.1.0) constants-here))
