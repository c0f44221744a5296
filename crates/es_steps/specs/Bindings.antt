-- The bindings of what is reached from a source.
use Rattle.std.specs.Prelude.{◌≡◌, ℕ, zero, suc, ◌<◌, Bool, true, false, ◌&&◌, ◌||◌, ◌==◌, Option, Some, None, bytes_eq, leb}
use Rattle.es_tree.specs.Words.{Text}
use Rattle.es_tree.specs.Names.{first_text}
use Rattle.es_tree.specs.References.{is_symbol}
use Rattle.es_tree.specs.Scopes.{name_in}
use Rattle.es_tree.specs.Tree.{Tree, node, Label, Fields, done, ◌then◌, Field, missing, one, many, statements, Trees, empty, ◌before◌}
use Rattle.es_tree.specs.declared.ast_type.AstType.{AstType}
use Rattle.es_tree.specs.declared.ast_type.AstType.TheVariants.{Identifier, ClassDeclaration, ClassExpression}
use Rattle.es_semantic.specs.RolesOf.{reads, role_at}
use Rattle.es_semantic.specs.declared.place.Role.{Role}
use Rattle.es_semantic.specs.declared.place.Role.TheVariants.{Nothing}
use Rattle.es_resolution.specs.Called.{Called}
use Rattle.es_resolution.specs.Declarations.{symbol_of}
use Rattle.es_resolution.specs.Resolved.{IsResolved, no_name}
use Rattle.es_resolution.specs.Single.{scopes_with}
use Rattle.es_steps.specs.Identifiers.{Passes}
use Rattle.es_steps.specs.Steps.{Whole}

-- NAMES OF THE SOURCE

-- the identifier of this name and symbol, or a class of this name with this symbol inside itself
abbrev pub is_it : Text → ℕ → AstType → Label → Fields → Bool
is_it x s Identifier l fs = bytes_eq (first_text l.texts) x && is_symbol s (symbol_of l)
is_it x s ClassDeclaration l fs = bytes_eq (name_in fs) x && is_symbol s (symbol_of l)
is_it x s ClassExpression l fs = bytes_eq (name_in fs) x && is_symbol s (symbol_of l)
is_it x s _ l fs = false

-- whether it stands in a tree
abbrev mutual
  pub stands : Text → ℕ → Tree → Bool
  stands x s (node k l fs) = is_it x s k l fs || stands_in x s fs

  pub stands_in : Text → ℕ → Fields → Bool
  stands_in x s done = false
  stands_in x s (f then fs) = stands_by x s f || stands_in x s fs

  pub stands_by : Text → ℕ → Field → Bool
  stands_by x s missing = false
  stands_by x s (one t) = stands x s t
  stands_by x s (many ts) = stands_among x s ts
  stands_by x s (statements ts) = stands_among x s ts

  pub stands_among : Text → ℕ → Trees → Bool
  stands_among x s empty = false
  stands_among x s (t before ts) = stands x s t || stands_among x s ts

-- a symbol that came later than this whole, under its name
abbrev pub is_made : Whole → Whole → Text → ℕ → Bool
is_made w w' x s = leb w.free_symbol s && bytes_eq (w'.called s) x

-- where a name comes from that has a symbol: from the source, or it is made
abbrev pub comes_from : Tree → Whole → Whole → Text → Option ℕ → Bool
comes_from p w w' x None = true
comes_from p w w' x (Some s) = stands x s p || is_made w w' x s

-- BINDINGS

-- the symbol of a name that declares or refers passes a test
abbrev pub SymbolPasses : (ℕ → Bool) → Role → Option ℕ → Type 0
SymbolPasses q Nothing s = Unit {0}
SymbolPasses q r None = Unit {0}
SymbolPasses q r (Some s) = q s ≡ true

abbrev pub OwnSymbolPasses : (ℕ → Bool) → Role → AstType → Label → Type 0
OwnSymbolPasses q r Identifier l = SymbolPasses q r (symbol_of l)
OwnSymbolPasses q r _ l = Unit {0}

abbrev mutual
  pub SymbolsPass : (ℕ → Bool) → Role → Tree → Type 0
  SymbolsPass q r (node k l fs) = OwnSymbolPasses q r k l × SymbolsPassIn q (role_at r k l fs) fs

  pub SymbolsPassIn : (ℕ → Bool) → (ℕ → Role) → Fields → Type 0
  SymbolsPassIn q roles done = Unit {0}
  SymbolsPassIn q roles (f then fs) = SymbolsPassBy q (roles zero) f × SymbolsPassIn q (λ i. roles (suc i)) fs

  pub SymbolsPassBy : (ℕ → Bool) → Role → Field → Type 0
  SymbolsPassBy q r missing = Unit {0}
  SymbolsPassBy q r (one t) = SymbolsPass q r t
  SymbolsPassBy q r (many ts) = SymbolsPassAll q r ts
  SymbolsPassBy q r (statements ts) = SymbolsPassAll q r ts

  pub SymbolsPassAll : (ℕ → Bool) → Role → Trees → Type 0
  SymbolsPassAll q r empty = Unit {0}
  SymbolsPassAll q r (t before ts) = SymbolsPass q r t × SymbolsPassAll q r ts

-- whether exactly one scope of the program binds the symbol
abbrev pub is_bound_once : Tree → ℕ → Bool
is_bound_once t s = scopes_with s no_name reads t == 1

-- THE BINDINGS of what is reached, q, from a source, p
pub record Bindings (p q : Tree) (w w' : Whole) : Type 0 where
  -- An identifier with a symbol has the name and the symbol of one of the source, or it is made. So an identifier of the source that
  -- stands in what is reached has the symbol that it had.
  pub names : Passes (comes_from p w w') q
  -- each symbol has one name, and those of the source have the names that they had
  pub called : Called w'.called q
  pub same_names : (s : ℕ) → s < w.free_symbol → w'.called s ≡ w.called s
  -- each name is bound to what looking it up finds, and one without a symbol is unbound
  pub resolved : IsResolved q
  -- and what it finds is the binding of one scope, and of no other
  pub bound_once : SymbolsPass (is_bound_once q) reads q
