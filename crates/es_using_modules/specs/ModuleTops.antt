-- `using` at the top of a module (Explicit Resource Management, 14.3.1; ECMA-262, 16.2): `using a = b; export const c = a;` becomes
-- `export { c }; try { var _usingCtx = babelHelpers.usingCtx(); var a = _usingCtx.u(b); var c = a; } catch (_) { _usingCtx.e = _; } finally { _usingCtx.d(); }`.
-- Functions, imports and exports of what is declared elsewhere stay outside, in their order. All else moves into the `try`, and what it declares is
-- declared by `var`, so by the module as before: a class becomes the value of a variable. An exported declaration leaves an export of its names outside.
use Rattle.std.specs.Prelude.{◌≡◌, ◌||◌, not, Bool, false, true, List, [], ◌∷◌, Some, codes, if◌then◌else◌}
use Rattle.es_tree.specs.Fresh.{IsFreshName, also, text_base}
use Rattle.es_tree.specs.Tree.{Tree, node, Label, Fields, done, ◌then◌, missing, one, many, statements, Trees, empty, ◌before◌, label_of}
use Rattle.es_tree.specs.Words.{Text}
use Rattle.es_tree.specs.declared.ast_type.AstType.TheVariants.{ClassDeclaration, ClassExpression, ExportAllDeclaration, ExportDefaultDeclaration, ExportNamedDeclaration, ExportSpecifier, FunctionDeclaration, Identifier, ImportDeclaration, Program, VariableDeclaration, VariableDeclarator}
use Rattle.es_resolution.specs.Declarations.{Bound, symbol_of}
use Rattle.es_steps.specs.Nodes.{identifier, joined_trees}
use Rattle.es_export_splits.specs.Splits as splits
use Rattle.es_pattern_moves.specs.Moved.{name_of, plain_name}
use Rattle.es_using_rows.specs.Used as uses
use Rattle.es_using_rows.specs.UsingPlaces.{is_using_word, uses_in_list}

-- WHERE: a program whose list declares so, which is that of a module (14.3.1.1)
abbrev pub uses_at_top : Tree → Bool
uses_at_top (node Program l (many ds then statements ts then done)) = uses_in_list ts
uses_at_top _ = false

-- WHAT STAYS OUTSIDE

abbrev pub is_function : Tree → Bool
is_function (node FunctionDeclaration l fs) = true
is_function _ = false

abbrev pub stays_outside : Tree → Bool
stays_outside (node FunctionDeclaration l fs) = true
stays_outside (node ImportDeclaration l fs) = true
stays_outside (node ExportAllDeclaration l fs) = true
stays_outside (node ExportNamedDeclaration l (missing then fs)) = true
stays_outside (node ExportNamedDeclaration l (one d then fs)) = is_function d
stays_outside (node ExportDefaultDeclaration l (one d then fs)) = is_function d
stays_outside _ = false

-- WHAT IS MADE: the nodes of `using` and of exports, the name of a default export, and the name of a class inside it, where this is its label
pub record Makes : Type 0 where
  pub used : uses.Makes
  pub split : splits.Makes
  pub default : Tree → Tree
  pub inside : Label → Tree → Tree

-- `var x = e;`, for this node
abbrev pub variable : Makes → Tree → Tree → Tree → Tree
variable m h x e = node VariableDeclaration (m.used.label h (Some (codes "var") ∷ []) []) (many (node VariableDeclarator (m.used.label h [] []) (one x then one e then done) before empty) then done)

-- INSIDE: what a statement becomes there

abbrev pub by_var : Label → Label
by_var l = record l { texts = Some (codes "var") ∷ [] }

-- `let a = b` as `var a = b`, `using a = b` as `var a = c.u(b)`
abbrev pub as_variables : Makes → Label → Trees → Tree
as_variables m l ds = node VariableDeclaration (by_var l) (many (if is_using_word l.texts then uses.used_declarators m.used 0 ds else ds) then done)

-- `class C {}` as `var C = class C {}`
abbrev pub as_value : Makes → Label → Tree → Fields → Tree
as_value m l c fs = variable m c (m.split.again c) (node ClassExpression l (one (m.inside l c) then fs))

abbrev pub declared_inside : Makes → Tree → Tree
declared_inside m (node VariableDeclaration l (many ds then done)) = as_variables m l ds
declared_inside m (node ClassDeclaration l (one c then fs)) = as_value m l c fs
declared_inside m t = t

-- `export default e` as `var _default = e`, and so a class without a name
abbrev pub default_inside : Makes → Tree → Tree → Tree
default_inside m t (node ClassDeclaration l (one c then fs)) = as_value m l c fs
default_inside m t (node ClassDeclaration l (missing then fs)) = variable m t (m.default t) (node ClassExpression l (missing then fs))
default_inside m t e = variable m t (m.default t) e

abbrev pub moved_inside : Makes → Tree → Tree
moved_inside m (node ExportNamedDeclaration l (one d then fs)) = declared_inside m d
moved_inside m (node ExportDefaultDeclaration l (one d then fs)) = default_inside m (node ExportDefaultDeclaration l (one d then fs)) d
moved_inside m t = declared_inside m t

abbrev pub inside : Makes → Trees → Trees
inside m empty = empty
inside m (t before ts) = if stays_outside t then inside m ts else moved_inside m t before inside m ts

-- OUTSIDE: what is left there of a statement that moves

-- the names that a declaration declares
abbrev pub names_declared : Tree → List Tree
names_declared (node ClassDeclaration l (one c then fs)) = c ∷ []
names_declared d = splits.names_of_declaration d

-- the name under which a default export is known inside
abbrev pub default_local : Makes → Tree → Tree → Tree
default_local m t (node ClassDeclaration l (one c then fs)) = m.split.again c
default_local m t e = m.default t

-- `export { C as default };`
abbrev pub default_export : Makes → Tree → Tree → Tree
default_export m t local = node ExportNamedDeclaration (m.split.label t) (missing then many (node ExportSpecifier (m.split.label t) (one local then one (m.used.word (codes "default") t) then done) before empty) then missing then many empty then done)

abbrev pub left_outside : Makes → Tree → Trees → Trees
left_outside m (node ExportNamedDeclaration l (one d then fs)) ts = splits.export_of m.split (node ExportNamedDeclaration l (one d then fs)) (names_declared d) before ts
left_outside m (node ExportDefaultDeclaration l (one d then fs)) ts = default_export m (node ExportDefaultDeclaration l (one d then fs)) (default_local m (node ExportDefaultDeclaration l (one d then fs)) d) before ts
left_outside m t ts = ts

abbrev pub outside : Makes → Trees → Trees
outside m empty = empty
outside m (t before ts) = if stays_outside t then t before outside m ts else left_outside m t (outside m ts)

-- A PROGRAM, whose `try` is made for it
abbrev pub topped_list : Makes → Tree → Trees → Trees
topped_list m h ts = joined_trees (outside m ts) (uses.tried m.used 0 h (inside m ts) before empty)

abbrev pub topped : Makes → Tree → Tree
topped m (node Program l (many ds then statements ts then done)) = node Program l (many ds then statements (topped_list m (node Program l (many ds then statements ts then done)) ts) then done)
topped m t = t

-- NAMES: of a default export that is no function and no class with a name, and of the context

abbrev pub takes_name : Tree → Bool
takes_name (node ClassDeclaration l (one c then fs)) = false
takes_name d = not (is_function d)

abbrev pub is_named_default : Tree → Bool
is_named_default (node ExportDefaultDeclaration l (one d then fs)) = takes_name d
is_named_default _ = false

abbrev pub some_default : Trees → Bool
some_default empty = false
some_default (t before ts) = is_named_default t || some_default ts

abbrev pub has_default : Tree → Bool
has_default (node Program l (many ds then statements ts then done)) = some_default ts
has_default _ = false

-- each is the first of its base that isn't in use
abbrev pub AreFresh : (Text → Bool) → Bool → List Text → Type 0
AreFresh in_use true (x ∷ c ∷ []) = IsFreshName in_use (text_base (codes "default")) x × IsFreshName (also x in_use) (text_base (codes "usingCtx")) c
AreFresh in_use false (c ∷ []) = IsFreshName in_use (text_base (codes "usingCtx")) c
AreFresh in_use b xs = ⊥

-- the name of the context, the last of them
abbrev pub context_name : Bool → List Text → Text
context_name true xs = name_of xs 1
context_name false xs = name_of xs 0

-- A PROGRAM AS IT IS READ, where these are the names, and it has a default export that takes one, or none
abbrev pub plainly : Bool → List Text → Makes
plainly b xs = record {
  used = uses.plainly (context_name b xs ∷ []);
  split = splits.plainly;
  default = λ t. plain_name (name_of xs 0) t;
  inside = λ l c. c;
}

-- AND WITH ITS SYMBOLS: the name of the default export, the context and the parameter of the `catch`
abbrev pub by_bounds : Bound → Bound → Bound → Makes
by_bounds default context error = record {
  used = uses.by_bounds (λ n. context) (λ n. error);
  split = splits.with_symbols;
  default = λ t. identifier default;
  inside = λ l c. node Identifier (record (label_of c) { marks = symbol_of l ∷ [] }) done;
}

-- What a program p becomes, with these fresh names, where these names are in use.
pub record TopsTo (in_use : Text → Bool) (p q : Tree) (names : List Text) : Type 0 where
  pub fresh : AreFresh in_use (has_default p) names
  pub tree : q ≡ topped (plainly (has_default p) names) p
