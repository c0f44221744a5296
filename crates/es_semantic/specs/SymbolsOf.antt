-- The symbols of a program (ECMA-262, 8.2 and 9.1.1): what each scope binds, in the order of first declaration.
use Rattle.std.specs.Prelude.{ℕ, suc, ◌==◌, ◌&&◌, List, [], ◌∷◌, ◌++◌, Bool, true, false, Option, Some, None, option_map, bytes_eq, if◌then◌else◌}
use Rattle.std.specs.List.{list_any}
use Rattle.es_tree.specs.Names.{first_text}
use Rattle.es_tree.specs.Scopes.{own_text}
use Rattle.es_tree.specs.Tree.{Tree, Label, Fields, ◌then◌, one}
use Rattle.es_tree.specs.Words.{Text}
use Rattle.es_tree.specs.declared.ast_type.AstType.{AstType}
use Rattle.es_tree.specs.declared.ast_type.AstType.TheVariants.{Identifier, ClassDeclaration, ClassExpression}
use Rattle.es_scope.specs.declared.flags.SymbolFlags.{SymbolFlags}
use Rattle.es_semantic.specs.Places.{Place, Visit, first, own_scope, visits_of}
use Rattle.es_semantic.specs.declared.place.Binding.{Binding}
use Rattle.es_semantic.specs.declared.place.Binding.TheVariants.{Variable, Let, Constant, TopFunction, BlockFunction, Parameter, CatchParameter, FunctionName, Class, Import}
use Rattle.es_semantic.specs.declared.place.Role.{Role}
use Rattle.es_semantic.specs.declared.place.Role.TheVariants.{Binds}

-- A symbol: the scope that binds it, its name, and how that was declared first.
pub record Declared : Type 0 where
  pub scope : ℕ
  pub name : Text
  pub binding : Binding

abbrev pub declared : ℕ → Text → Binding → Declared
declared s x b = record { scope = s; name = x; binding = b }

-- FLAGS (14.3.1, 14.3.2, 8.2.8)

abbrev pub is_function_scoped : Binding → Bool
is_function_scoped Variable = true
is_function_scoped TopFunction = true
is_function_scoped Parameter = true
is_function_scoped CatchParameter = true
is_function_scoped FunctionName = true
is_function_scoped _ = false

abbrev pub is_block_scoped : Binding → Bool
is_block_scoped Let = true
is_block_scoped Constant = true
is_block_scoped BlockFunction = true
is_block_scoped _ = false

abbrev pub is_constant : Binding → Bool
is_constant Constant = true
is_constant _ = false

abbrev pub is_catch_variable : Binding → Bool
is_catch_variable CatchParameter = true
is_catch_variable _ = false

abbrev pub is_class : Binding → Bool
is_class Class = true
is_class _ = false

abbrev pub is_import : Binding → Bool
is_import Import = true
is_import _ = false

abbrev pub symbol_flags : Binding → SymbolFlags
symbol_flags b = record {
  function_scoped = is_function_scoped b;
  block_scoped = is_block_scoped b;
  constant = is_constant b;
  «import» = is_import b;
  catch_variable = is_catch_variable b;
  «class» = is_class b;
}

-- NUMBERS

abbrev pub is_symbol : ℕ → Text → Declared → Bool
is_symbol s x d = d.scope == s && bytes_eq d.name x

abbrev pub is_bound : List Declared → ℕ → Text → Bool
is_bound ds s x = list_any (is_symbol s x) ds

-- the number of the symbol of a name in a scope alone, which is its place in the list, counted from 0
abbrev pub symbol_in : List Declared → ℕ → Text → Option ℕ
symbol_in [] s x = None
symbol_in (d ∷ ds) s x = if is_symbol s x d then Some 0 else option_map suc (symbol_in ds s x)

-- one symbol more, where the scope doesn't bind the name yet
abbrev pub with_symbol : List Declared → ℕ → Text → Binding → List Declared
with_symbol ds s x b = if is_bound ds s x then ds else ds ++ declared s x b ∷ []

-- WHERE A NAME IS DECLARED

-- whether a declaration is one of `var` (8.2.6)
abbrev pub hoists : Binding → Bool
hoists Variable = true
hoists TopFunction = true
hoists _ = false

-- `var` with the name of a parameter is that parameter (10.2.11)
abbrev pub hoist_scope : List Declared → Place → Text → ℕ
hoist_scope ds p x = at p.parameters
  where
    at : Option ℕ → ℕ
    at None = p.hoist
    at (Some s) = if is_bound ds s x then s else p.hoist

abbrev pub scope_for : List Declared → Place → Binding → Text → ℕ
scope_for ds p b x = if hoists b then hoist_scope ds p x else first p.around

-- WHAT A NODE DECLARES

-- an identifier, where it is declared
abbrev pub with_identifier : List Declared → Place → Role → Text → List Declared
with_identifier ds p (Binds b) x = with_symbol ds (scope_for ds p b x) x b
with_identifier ds p _ x = ds

-- a class binds its name for itself too
abbrev pub with_class : List Declared → ℕ → Fields → List Declared
with_class ds s (one name then fs) = with_symbol ds s (own_text name) Class
with_class ds s fs = ds

abbrev pub with_node : List Declared → Place → ℕ → AstType → Label → Fields → List Declared
with_node ds p n Identifier l fs = with_identifier ds p p.role (first_text l.texts)
with_node ds p n ClassDeclaration l fs = with_class ds (own_scope n ClassDeclaration fs) fs
with_node ds p n ClassExpression l fs = with_class ds (own_scope n ClassExpression fs) fs
with_node ds p n _ l fs = ds

-- these symbols with those that the nodes declare, one after the other
abbrev pub with_visits : List Declared → List Visit → List Declared
with_visits ds [] = ds
with_visits ds (v ∷ vs) = with_visits (with_node ds v.place v.next v.kind v.label v.fields) vs

-- the symbols of a program; the number of each is its place here, counted from 0
abbrev pub symbols_of : Tree → List Declared
symbols_of p = with_visits [] (visits_of p)

-- LOOK-UP (9.1.2.1)

-- the symbol of a name in the first of these scopes that binds it
abbrev pub find : List Declared → List ℕ → Text → Option ℕ
find ds [] x = None
find ds (s ∷ up) x = if is_bound ds s x then symbol_in ds s x else find ds up x
