-- What a context holds, and what a call keeps and adds of it.
use Rattle.std.specs.Prelude.{◌≡◌, ℕ, ◌+◌, ◌<◌, List, [], ◌∷◌, ◌++◌, Bool, true, false, ◌&&◌, not, is_some, Option, Some}
use Rattle.es_tree.specs.Fresh.{also, is_among}
use Rattle.es_tree.specs.Names.{names_of}
use Rattle.es_tree.specs.References.{Reference}
use Rattle.es_tree.specs.Tree.{Tree}
use Rattle.es_tree.specs.Words.{Text}
use Rattle.es_scope.specs.HoistScopes.{hoist_scope}
use Rattle.es_scope.specs.Places.{ancestors_in, scopes_in}
use Rattle.es_scope.specs.TableChanges.{HasBindingMore, HasReferenceMore, HasScopeMore}
use Rattle.es_scope.specs.Tables.{binding_in, is_found_steady, scope_count}
use Rattle.es_scope.specs.Uids.{made, uses}
use Rattle.es_scope.specs.declared.ancestor.Ancestor.{Ancestor}
use Rattle.es_scope.specs.declared.context.TraverseCtx.{TraverseCtx}
use Rattle.es_scope.specs.declared.flags.ReferenceFlags.{ReferenceFlags}
use Rattle.es_scope.specs.declared.flags.ScopeFlags.{ScopeFlags}
use Rattle.es_scope.specs.declared.flags.SymbolFlags.{SymbolFlags}
use Rattle.es_scope.specs.declared.scoping.Scoping.{Scoping}

-- WHAT A CONTEXT HOLDS

abbrev pub table_of : {S : Type 0} → TraverseCtx S → Scoping
table_of ctx = ctx.scoping

-- whether a name is in use
abbrev pub uses_of : {S : Type 0} → TraverseCtx S → Text → Bool
uses_of ctx x = uses ctx.uids x

-- the fresh names, in the order made
abbrev pub made_of : {S : Type 0} → TraverseCtx S → List Text
made_of ctx = made ctx.uids

-- the ancestors, innermost first
abbrev pub around_of : {S : Type 0} → TraverseCtx S → List Ancestor
around_of ctx = ancestors_in ctx.ancestors.items

-- the scopes of the places, innermost first
abbrev pub scopes_around : {S : Type 0} → TraverseCtx S → List ℕ
scopes_around ctx = scopes_in ctx.ancestors.items

-- the first scope, or that of the program
abbrev pub first_scope : List ℕ → ℕ
first_scope [] = 0
first_scope (n ∷ ns) = n

-- the scope of the place
abbrev pub scope_at : {S : Type 0} → TraverseCtx S → ℕ
scope_at ctx = first_scope (scopes_around ctx)

-- the scope that `var` declares in here
abbrev pub hoist_scope_at : {S : Type 0} → TraverseCtx S → ℕ
hoist_scope_at ctx = hoist_scope (around_of ctx) (scopes_around ctx)

-- whether the program's scope binds a name and no reference writes it
abbrev pub steady_of : {S : Type 0} → TraverseCtx S → Text → Bool
steady_of ctx x = is_found_steady (table_of ctx) (binding_in (table_of ctx) 0 x)

-- whether the program's scope binds a name that is no fresh one
abbrev pub bound_of : {S : Type 0} → TraverseCtx S → Text → Bool
bound_of ctx x = is_some (binding_in (table_of ctx) 0 x) && not (is_among (made_of ctx) x)

-- the names that a table binds are names of the program
abbrev pub BindsNamesOf : Tree → Scoping → Type 0
BindsNamesOf p s = (n : ℕ) (x : Text) (m : ℕ) → binding_in s n x ≡ Some m → is_among (names_of p) x ≡ true

-- WHAT A CALL KEEPS AND ADDS

-- all beside the builder, the names and the table
pub record KeptBeside {S : Type 0} (old new : TraverseCtx S) : Type 0 where
  pub state : new.state ≡ old.state
  pub options : new.options ≡ old.options
  pub around : around_of new ≡ around_of old
  pub scopes : scopes_around new ≡ scopes_around old
  pub place : scope_at new ≡ scope_at old

-- the names in use, and the fresh ones
pub record KeepsNames {S : Type 0} (old new : TraverseCtx S) : Type 0 where
  pub used : (x : Text) → uses_of new x ≡ uses_of old x
  pub made_is : made_of new ≡ made_of old

-- a name more in use, which is a fresh one
pub record MakesName {S : Type 0} (old new : TraverseCtx S) (name : Text) : Type 0 where
  pub used : (x : Text) → uses_of new x ≡ also name (uses_of old) x
  pub made_is : made_of new ≡ made_of old ++ name ∷ []

-- a name more in use, which is no fresh one
pub record TakesName {S : Type 0} (old new : TraverseCtx S) (name : Text) : Type 0 where
  pub used : (x : Text) → uses_of new x ≡ also name (uses_of old) x
  pub made_is : made_of new ≡ made_of old

-- the flags of what `var` declares
abbrev pub function_scoped : SymbolFlags
function_scoped = record { function_scoped = true; block_scoped = false; constant = false; «import» = false; catch_variable = false; «class» = false }

-- one binding more, of this name in this scope
pub record Binds {S : Type 0} (old new : TraverseCtx S) (scope : ℕ) (name : Text) (flags : SymbolFlags) : Type 0 where
  pub table : HasBindingMore (table_of old) (table_of new) scope name flags
  pub ast : new.ast ≡ old.ast
  pub kept : KeptBeside old new

-- one binding more, of this name and function scoped, where `var` declares
pub record BindsHoisted {S : Type 0} (old new : TraverseCtx S) (name : Text) : Type 0 where
  pub scope : ℕ
  pub hoists : scope ≡ hoist_scope_at old
  pub known : scope < scope_count (table_of old)
  pub binds : Binds old new scope name function_scoped

-- all beside the table
pub record KeepsBesideTable {S : Type 0} (old new : TraverseCtx S) : Type 0 where
  pub names : KeepsNames old new
  pub ast : new.ast ≡ old.ast
  pub kept : KeptBeside old new

-- one scope more
pub record AddsScope {S : Type 0} (old new : TraverseCtx S) (parent : ℕ) (flags : ScopeFlags) : Type 0 where
  pub table : HasScopeMore (table_of old) (table_of new) parent flags
  pub names : KeepsNames old new
  pub ast : new.ast ≡ old.ast
  pub kept : KeptBeside old new

-- the reference of the node of this id
abbrev pub reference_to : ℕ → Option ℕ → ReferenceFlags → Reference
reference_to id symbol flags = record { node = id; symbol = symbol; read = flags.read; write = flags.write }

-- one reference more, of the node with the next id
pub record Refers {S : Type 0} (old new : TraverseCtx S) (symbol : Option ℕ) (flags : ReferenceFlags) : Type 0 where
  pub table : HasReferenceMore (table_of old) (table_of new) (reference_to old.ast.next symbol flags)
  pub names : KeepsNames old new
  pub ast : new.ast ≡ record old.ast { next = old.ast.next + 1 }
  pub kept : KeptBeside old new
