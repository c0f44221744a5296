-- The names that the body of a function declares are among those that the tests of its statements find.
use Rattle.std.proofs.Common.{◌≡◌, ◌∙◌, ℕ, zero, suc, refl, ap, subst, List, [], ◌∷◌, ◌++◌}
use Rattle.std.specs.Prelude.{Bool, true, false, ◌&&◌, Some, None, is_some, if◌then◌else◌}
use Rattle.std.proofs.lemmas.Bool.{and_parts, and_right, or_parts}
use Rattle.es_tree.specs.HasForm.{field_form, has_form, is_of_sort, same_type, sort_before_trees, trees_form}
use Rattle.es_tree.specs.Names.{first_text}
use Rattle.es_tree.specs.StaticRules.{is_module_item}
use Rattle.es_tree.specs.Tree.{Tree, node, Label, Fields, done, ◌then◌, Field, Trees, empty, ◌before◌, kind_of}
use Rattle.es_tree.specs.Words.{Text}
use Rattle.es_tree.specs.declared.ast_type.AstType.{AstType}
use Rattle.es_tree.specs.declared.ast_type.AstType.TheVariants.{
  ArrayPattern,
  ArrayTarget,
  AssignmentPattern,
  ClassDeclaration,
  Directive,
  ExportAllDeclaration,
  ExportDefaultDeclaration,
  ExportNamedDeclaration,
  ExportSpecifier,
  FunctionBody,
  FunctionDeclaration,
  Identifier,
  ImportDeclaration,
  ImportDefaultSpecifier,
  ImportNamespaceSpecifier,
  ImportSpecifier,
  MethodDefinition,
  ObjectPattern,
  ObjectTarget,
  ParenthesizedExpression,
  PatternProperty,
  Program,
  RestElement,
  SwitchCase,
  TargetProperty,
  TargetRest,
  TargetWithDefault,
  VariableDeclaration,
  VariableDeclarator,
}
use Rattle.es_tree.specs.declared.table.Content.TheVariants.{Child as c-Child}
use Rattle.es_tree.specs.declared.table.Often.TheVariants.{List as a-List, ListWithRest, NonEmptyList, Optional, Required}
use Rattle.es_tree.specs.declared.table.Sort.{Sort}
use Rattle.es_tree.specs.declared.table.Sort.TheVariants.{ClassElement as s-ClassElement, Directive as s-Directive, Expression as s-Expression, FunctionBody as s-FunctionBody, Identifier as s-Identifier, Pattern as s-Pattern, Statement as s-Statement, VariableDeclarator as s-VariableDeclarator}
use Rattle.es_tree.proofs.NodeForm.{node_form}
use Rattle.es_semantic.specs.RolesOf.{binding_of, reads, role_at}
use Rattle.es_semantic.specs.declared.place.Binding.{Binding}
use Rattle.es_semantic.specs.declared.place.Binding.TheVariants.{Class, TopFunction}
use Rattle.es_semantic.specs.declared.place.Role.TheVariants.{Binds, Top}
use Rattle.es_resolution.specs.Declarations.{Bound, declared, declared_among, declared_by, declared_in, is_asked, own_declared, reaches_out, symbol_of}
use Rattle.es_resolution.specs.Resolved.{bound_by}
use Rattle.es_resolution.proofs.AllForms.{All, AllAmong, AllIn}
use Rattle.es_changes.proofs.Expressions.{declares-none}
use Rattle.es_steps.specs.ParameterPatterns.{lexical_names, var_names}
use Rattle.es_pattern_moves.specs.PatternMoves.{body_declares, declarator_declares, is_called, top_declares, var_among, var_declares, var_here, var_in_field, var_in_fields}
use Rattle.es_pattern_moves.proofs.FieldShapes.{AreOne, AreThree, IsList, IsMaybe, one-field, optional, some-list, three-fields}
use Rattle.es_pattern_moves.proofs.FieldShapes.AreOne.{are_one}
use Rattle.es_pattern_moves.proofs.FieldShapes.AreThree.{are_three}
use Rattle.es_pattern_moves.proofs.FieldShapes.IsList.{is_list}
use Rattle.es_pattern_moves.proofs.FieldShapes.IsMaybe.{not_there, is_there}
use Rattle.es_pattern_moves.proofs.PatternNames.{both-out, declarators-out, none-out}
use Rattle.es_pattern_moves.proofs.QuietStatements.{is_calm, quiet}
use Rattle.es_pattern_moves.proofs.Settled.{SettledAll, Sound}
use Rattle.es_pattern_moves.proofs.VarNames.{declaration-out, fields-out, is_plain_role, vars-out}
use Rattle.es_rest_shapes.specs.RestShapes.{any_tree}

-- KINDS of statements

-- at the top of a body they have the roles that they have elsewhere
abbrev is_free : AstType → Bool
is_free ExportNamedDeclaration = false
is_free ExportDefaultDeclaration = false
is_free VariableDeclarator = false
is_free FunctionDeclaration = false
is_free MethodDefinition = false
is_free ExportSpecifier = false
is_free ParenthesizedExpression = false
is_free ObjectPattern = false
is_free PatternProperty = false
is_free ArrayPattern = false
is_free AssignmentPattern = false
is_free RestElement = false
is_free ObjectTarget = false
is_free TargetProperty = false
is_free ArrayTarget = false
is_free TargetWithDefault = false
is_free TargetRest = false
is_free _ = true

role-free : (k : AstType) (l : Label) (fs : Fields) (i : ℕ) → is_free k ≡ true → role_at Top k l fs i ≡ role_at reads k l fs i
role-free ExportNamedDeclaration l fs i e = absurd (cc e)
role-free ExportDefaultDeclaration l fs i e = absurd (cc e)
role-free VariableDeclarator l fs i e = absurd (cc e)
role-free FunctionDeclaration l fs i e = absurd (cc e)
role-free MethodDefinition l fs i e = absurd (cc e)
role-free ExportSpecifier l fs i e = absurd (cc e)
role-free ParenthesizedExpression l fs i e = absurd (cc e)
role-free ObjectPattern l fs i e = absurd (cc e)
role-free PatternProperty l fs i e = absurd (cc e)
role-free ArrayPattern l fs i e = absurd (cc e)
role-free AssignmentPattern l fs i e = absurd (cc e)
role-free RestElement l fs i e = absurd (cc e)
role-free ObjectTarget l fs i e = absurd (cc e)
role-free TargetProperty l fs i e = absurd (cc e)
role-free ArrayTarget l fs i e = absurd (cc e)
role-free TargetWithDefault l fs i e = absurd (cc e)
role-free TargetRest l fs i e = absurd (cc e)
role-free k l fs zero e = refl
role-free k l fs (suc zero) e = refl
role-free k l fs (suc (suc i)) e = refl

own-free : (k : AstType) (l : Label) → own_declared true Top k l ≡ own_declared true reads k l
own-free Identifier l = refl
own-free _ l = refl

declared-free : (k : AstType) (l : Label) (fs : Fields) → is_free k ≡ true → declared true Top (node k l fs) ≡ declared true reads (node k l fs)
declared-free k l fs e = λ j. own-free k l j ++ declared_in true (reaches_out true k) (λ i. role-free k l fs i e j) fs

abbrev is_top_declaration : AstType → Bool
is_top_declaration VariableDeclaration = true
is_top_declaration FunctionDeclaration = true
is_top_declaration ClassDeclaration = true
is_top_declaration _ = false

free-kind : (k : AstType) → is_of_sort s-Statement k ≡ true → is_module_item k ≡ false → same_type k FunctionDeclaration ≡ false → is_free k ≡ true
free-kind ExportNamedDeclaration s m f = absurd (cc m)
free-kind ExportDefaultDeclaration s m f = absurd (cc m)
free-kind FunctionDeclaration s m f = absurd (cc f)
free-kind VariableDeclarator s m f = absurd (cc s)
free-kind MethodDefinition s m f = absurd (cc s)
free-kind ExportSpecifier s m f = absurd (cc s)
free-kind ParenthesizedExpression s m f = absurd (cc s)
free-kind ObjectPattern s m f = absurd (cc s)
free-kind PatternProperty s m f = absurd (cc s)
free-kind ArrayPattern s m f = absurd (cc s)
free-kind AssignmentPattern s m f = absurd (cc s)
free-kind RestElement s m f = absurd (cc s)
free-kind ObjectTarget s m f = absurd (cc s)
free-kind TargetProperty s m f = absurd (cc s)
free-kind ArrayTarget s m f = absurd (cc s)
free-kind TargetWithDefault s m f = absurd (cc s)
free-kind TargetRest s m f = absurd (cc s)
free-kind _ s m f = refl

calm-kind : (k : AstType) (l : Label) → is_of_sort s-Statement k ≡ true → is_module_item k ≡ false → is_top_declaration k ≡ false → is_calm k l ≡ true
calm-kind VariableDeclaration l s m d = absurd (cc d)
calm-kind FunctionDeclaration l s m d = absurd (cc d)
calm-kind ClassDeclaration l s m d = absurd (cc d)
calm-kind ImportDeclaration l s m d = absurd (cc m)
calm-kind ExportNamedDeclaration l s m d = absurd (cc m)
calm-kind ExportDefaultDeclaration l s m d = absurd (cc m)
calm-kind ExportAllDeclaration l s m d = absurd (cc m)
calm-kind ImportSpecifier l s m d = absurd (cc s)
calm-kind ImportDefaultSpecifier l s m d = absurd (cc s)
calm-kind ImportNamespaceSpecifier l s m d = absurd (cc s)
calm-kind ExportSpecifier l s m d = absurd (cc s)
calm-kind SwitchCase l s m d = absurd (cc s)
calm-kind Program l s m d = absurd (cc s)
calm-kind _ l s m d = refl

-- DIRECTIVES declare nothing

directive-none : (v : Bool) (t : Tree) → has_form s-Directive t ≡ true → declared v reads t ≡ []
directive-none v (node Directive l done) h = refl
directive-none v (node Directive l (f then fs)) h = absurd (let no : false ≡ true = (node_form s-Directive Directive l (f then fs) h).children in cc)
directive-none v (node k l fs) h = absurd (let no : false ≡ true = (node_form s-Directive k l fs h).sort in cc)

before-same : (s : Sort) (ts : Trees) → sort_before_trees s s ts ≡ s
before-same s empty = refl
before-same s (t before ts) = refl

-- the first of a list of one sort, and the others
first-form : (s : Sort) (t : Tree) (ts : Trees) → trees_form s s (t before ts) ≡ true → (has_form s t ≡ true) × (trees_form s s ts ≡ true)
first-form s t ts h = let d = and_parts (has_form (sort_before_trees s s ts) t) (trees_form s s ts) h in (subst (λ (q : Sort). has_form q t ≡ true) (before-same s ts) d.0, d.1)

directives-none : (v : Bool) (ds : Trees) → trees_form s-Directive s-Directive ds ≡ true → declared_among v reads ds ≡ []
directives-none v empty h = refl
directives-none v (t before ts) h = let d = first-form s-Directive t ts h in λ i. directive-none v t d.0 i ++ directives-none v ts d.1 i

module _ (y : Text) where
  abbrev Out : List Bound → Type 0
  Out bs = bound_by bs y ≡ false

  -- THE NAME of a function or a class

  called-out : (v : Bool) (b : Binding) (t : Tree) → has_form s-Identifier t ≡ true → is_called y t ≡ false → Out (declared v (Binds b) t)
  called-out v b (node Identifier l done) h e = at (is_asked v (Binds b))
    where
      at : (c : Bool) → Out ((if c then record { name = first_text l.texts; symbol = symbol_of l } ∷ [] else []) ++ [])
      at true = ap (λ q. is_some (if q then Some (symbol_of l) else None)) e
      at false = refl
  called-out v b (node Identifier l (f then fs)) h e = absurd (let no : false ≡ true = (node_form s-Identifier Identifier l (f then fs) h).children in cc)
  called-out v b (node k l fs) h e = absurd (let no : false ≡ true = (node_form s-Identifier k l fs h).sort in cc)

  -- STATEMENTS at the top of a body: what they declare by `var`, and functions

  function-roles : (l : Label) (fs : Fields) (i : ℕ) → is_plain_role (role_at Top FunctionDeclaration l fs (suc i)) ≡ true
  function-roles l fs zero = refl
  function-roles l fs (suc i) = refl

  function-out : (l : Label) (fs : Fields) → Sound FunctionDeclaration l fs → AllIn Sound fs → top_declares y (node FunctionDeclaration l fs) ≡ false → var_in_fields y fs ≡ false → Out (declared true Top (node FunctionDeclaration l fs))
  function-out l fs h k e d = outer fs (three-fields FunctionDeclaration l _ _ _ fs (node_form h.sort FunctionDeclaration l fs h.form).children) k e d
    where
      named : (f : Field) (fs : Fields) → IsMaybe s-Identifier f → top_declares y (node FunctionDeclaration l (f then fs)) ≡ false → Out (declared_by true (Binds TopFunction) f)
      named f fs not_there e = refl
      named f fs (is_there t h) e = called-out true TopFunction t h e

      outer : (fs : Fields) → AreThree (field_form FunctionDeclaration l (c-Child s-Identifier Optional)) (field_form FunctionDeclaration l (c-Child s-Pattern ListWithRest)) (field_form FunctionDeclaration l (c-Child s-FunctionBody Required)) fs → AllIn Sound fs → top_declares y (node FunctionDeclaration l fs) ≡ false → var_in_fields y fs ≡ false → Out (declared true Top (node FunctionDeclaration l fs))
      outer fs (are_three f g b h h' h'') k e d =
          let vars = or_parts (var_in_field y f) (var_in_fields y (g then b then done)) d in
          both-out y (declared_by true (Binds TopFunction) f) (declared_in true (λ i. reaches_out true FunctionDeclaration (suc i)) (λ i. role_at Top FunctionDeclaration l (f then g then b then done) (suc i)) (g then b then done))
          (named f (g then b then done) (optional FunctionDeclaration l s-Identifier f h) e)
          (fields-out y (λ i. reaches_out true FunctionDeclaration (suc i)) (λ i. role_at Top FunctionDeclaration l (f then g then b then done) (suc i)) (g then b then done) (function-roles l (f then g then b then done)) k.1 vars.1)

  other-out : (k : AstType) (l : Label) (fs : Fields) → All Sound (node k l fs) → is_free k ≡ true → var_declares y (node k l fs) ≡ false → Out (declared true Top (node k l fs))
  other-out k l fs h e d = ap (λ (bs : List Bound). bound_by bs y) (declared-free k l fs e) ∙ vars-out y reads (node k l fs) refl h d

  top-vars-out : (t : Tree) → All Sound t → has_form s-Statement t ≡ true → is_module_item (kind_of t) ≡ false → top_declares y t ≡ false → var_declares y t ≡ false → Out (declared true Top t)
  top-vars-out (node FunctionDeclaration l fs) h f m e d = function-out l fs h.0 h.1 e (or_parts (var_here y FunctionDeclaration l fs) (var_in_fields y fs) d).1
  top-vars-out (node VariableDeclaration l fs) h f m e d = declaration-out y Top l fs h.0 (or_parts (var_here y VariableDeclaration l fs) (var_in_fields y fs) d).0
  top-vars-out (node k l fs) h f m e d = other-out k l fs h (free-kind k (node_form s-Statement k l fs f).sort m refl) d

  -- and what they declare otherwise

  lexical-out : (l : Label) (fs : Fields) → Sound VariableDeclaration l fs → top_declares y (node VariableDeclaration l fs) ≡ false → Out (declared false Top (node VariableDeclaration l fs))
  lexical-out l fs h e = outer fs (one-field VariableDeclaration l _ fs (node_form h.sort VariableDeclaration l fs h.form).children) e
    where
      inner : (f : Field) → IsList s-VariableDeclarator s-VariableDeclarator f → top_declares y (node VariableDeclaration l (f then done)) ≡ false → Out (declared false Top (node VariableDeclaration l (f then done)))
      inner f (is_list ds h) e =
          let b : Binding = binding_of (first_text l.texts) in
          both-out y (declared_among false (Binds b) ds) [] (declarators-out false b y ds h (and_right (is_asked false (Binds b)) (any_tree (declarator_declares y) ds) e)) refl

      outer : (fs : Fields) → AreOne (field_form VariableDeclaration l (c-Child s-VariableDeclarator NonEmptyList)) fs → top_declares y (node VariableDeclaration l fs) ≡ false → Out (declared false Top (node VariableDeclaration l fs))
      outer fs (are_one f h) e = inner f (some-list VariableDeclaration l s-VariableDeclarator f h) e

  function-none : (l : Label) (fs : Fields) → Sound FunctionDeclaration l fs → Out (declared false Top (node FunctionDeclaration l fs))
  function-none l fs h = outer fs (three-fields FunctionDeclaration l _ _ _ fs (node_form h.sort FunctionDeclaration l fs h.form).children)
    where
      named : (f : Field) → IsMaybe s-Identifier f → Out (declared_by false (Binds TopFunction) f)
      named f not_there = refl
      named f (is_there t h) = none-out y (declared false (Binds TopFunction) t) (declares-none false (Binds TopFunction) s-Identifier t refl refl h)

      outer : (fs : Fields) → AreThree (field_form FunctionDeclaration l (c-Child s-Identifier Optional)) (field_form FunctionDeclaration l (c-Child s-Pattern ListWithRest)) (field_form FunctionDeclaration l (c-Child s-FunctionBody Required)) fs → Out (declared false Top (node FunctionDeclaration l fs))
      outer fs (are_three f g b h h' h'') = both-out y (declared_by false (Binds TopFunction) f) [] (named f (optional FunctionDeclaration l s-Identifier f h)) refl

  class-out : (l : Label) (fs : Fields) → Sound ClassDeclaration l fs → top_declares y (node ClassDeclaration l fs) ≡ false → Out (declared false Top (node ClassDeclaration l fs))
  class-out l fs h e = outer fs (three-fields ClassDeclaration l _ _ _ fs (node_form h.sort ClassDeclaration l fs h.form).children) e
    where
      named : (f : Field) (fs : Fields) → IsMaybe s-Identifier f → top_declares y (node ClassDeclaration l (f then fs)) ≡ false → Out (declared_by false (Binds Class) f)
      named f fs not_there e = refl
      named f fs (is_there t h) e = called-out false Class t h e

      outer : (fs : Fields) → AreThree (field_form ClassDeclaration l (c-Child s-Identifier Optional)) (field_form ClassDeclaration l (c-Child s-Expression Optional)) (field_form ClassDeclaration l (c-Child s-ClassElement a-List)) fs → top_declares y (node ClassDeclaration l fs) ≡ false → Out (declared false Top (node ClassDeclaration l fs))
      outer fs (are_three f g b h h' h'') e = both-out y (declared_by false (Binds Class) f) [] (named f (g then b then done) (optional ClassDeclaration l s-Identifier f h) e) refl

  top-lexical-out : (t : Tree) → All Sound t → has_form s-Statement t ≡ true → is_module_item (kind_of t) ≡ false → top_declares y t ≡ false → Out (declared false Top t)
  top-lexical-out (node VariableDeclaration l fs) h f m e = lexical-out l fs h.0 e
  top-lexical-out (node FunctionDeclaration l fs) h f m e = function-none l fs h.0
  top-lexical-out (node ClassDeclaration l fs) h f m e = class-out l fs h.0 e
  top-lexical-out (node k l fs) h f m e = none-out y (declared false Top (node k l fs)) (quiet Top (node k l fs) refl (calm-kind k l (node_form s-Statement k l fs f).sort m refl) h)

  -- LISTS of them

  item-none : (a : Bool) → (a && true) ≡ false → a ≡ false
  item-none true e = absurd (cc e)
  item-none false e = refl

  list-out : (ts : Trees) → AllAmong Sound ts → SettledAll FunctionBody 1 ts → trees_form s-Statement s-Statement ts ≡ true → any_tree (top_declares y) ts ≡ false → var_among y ts ≡ false → Out (declared_among false Top ts) × Out (declared_among true Top ts)
  list-out empty h s f e d = (refl, refl)
  list-out (t before ts) h s f e d =
      let form = first-form s-Statement t ts f in
      let tops = or_parts (top_declares y t) (any_tree (top_declares y) ts) e in
      let vars = or_parts (var_declares y t) (var_among y ts) d in
      let item = item-none (is_module_item (kind_of t)) s.0.item in
      let rest = list-out ts h.1 s.1 form.1 tops.1 vars.1 in (
        both-out y (declared false Top t) (declared_among false Top ts) (top-lexical-out t h.0 form.0 item tops.0) rest.0,
        both-out y (declared true Top t) (declared_among true Top ts) (top-vars-out t h.0 form.0 item tops.0 vars.0) rest.1,
      )

  -- THE BODY of a function
  pub body-out : (ds ts : Trees) → AllAmong Sound ts → SettledAll FunctionBody 1 ts → trees_form s-Directive s-Directive ds ≡ true → trees_form s-Statement s-Statement ts ≡ true → body_declares ts y ≡ false → Out (lexical_names ds ts ++ var_names ds ts)
  body-out ds ts h s g f e =
      let d = or_parts (any_tree (top_declares y) ts) (var_among y ts) e in
      let names = list-out ts h s f d.0 d.1 in
      both-out y (lexical_names ds ts) (var_names ds ts)
      (both-out y (declared_among false reads ds) (declared_among false Top ts ++ []) (none-out y (declared_among false reads ds) (directives-none false ds g)) (both-out y (declared_among false Top ts) [] names.0 refl))
      (both-out y (declared_among true reads ds) (declared_among true Top ts ++ []) (none-out y (declared_among true reads ds) (directives-none true ds g)) (both-out y (declared_among true Top ts) [] names.1 refl))
