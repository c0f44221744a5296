-- A test of names with their symbols that each identifier of a tree passes, and each class with the symbol that its name has inside
-- itself. The name of a class is an identifier (ECMA-262, 15.7).
use Rattle.std.specs.Prelude.{◌≡◌, ℕ, Bool, true, Option, Some, None, bytes_eq}
use Rattle.es_tree.specs.Words.{Text}
use Rattle.es_tree.specs.Names.{first_text}
use Rattle.es_tree.specs.Scopes.{name_in}
use Rattle.es_tree.specs.Tree.{Tree, node, Label, Fields, done, ◌then◌, Field, missing, one, many, statements, Trees, empty, ◌before◌}
use Rattle.es_tree.specs.declared.ast_type.AstType.{AstType}
use Rattle.es_tree.specs.declared.ast_type.AstType.TheVariants.{Identifier, ClassDeclaration, ClassExpression}
use Rattle.es_resolution.specs.Declarations.{symbol_of}

abbrev pub IsIdentifier : Tree → Type 0
IsIdentifier (node Identifier l fs) = Unit {0}
IsIdentifier _ = ⊥

-- what stands in the first of these fields is an identifier
abbrev pub HasIdentifier : Fields → Type 0
HasIdentifier (one t then fs) = IsIdentifier t
HasIdentifier _ = Unit {0}

abbrev pub OwnPasses : (Text → Option ℕ → Bool) → AstType → Label → Fields → Type 0
OwnPasses q Identifier l fs = q (first_text l.texts) (symbol_of l) ≡ true
OwnPasses q ClassDeclaration l fs = HasIdentifier fs × (q (name_in fs) (symbol_of l) ≡ true)
OwnPasses q ClassExpression l fs = HasIdentifier fs × (q (name_in fs) (symbol_of l) ≡ true)
OwnPasses q _ l fs = Unit {0}

abbrev mutual
  pub Passes : (Text → Option ℕ → Bool) → Tree → Type 0
  Passes q (node k l fs) = OwnPasses q k l fs × PassesIn q fs

  pub PassesIn : (Text → Option ℕ → Bool) → Fields → Type 0
  PassesIn q done = Unit {0}
  PassesIn q (f then fs) = PassesBy q f × PassesIn q fs

  pub PassesBy : (Text → Option ℕ → Bool) → Field → Type 0
  PassesBy q missing = Unit {0}
  PassesBy q (one t) = Passes q t
  PassesBy q (many ts) = PassesAll q ts
  PassesBy q (statements ts) = PassesAll q ts

  pub PassesAll : (Text → Option ℕ → Bool) → Trees → Type 0
  PassesAll q empty = Unit {0}
  PassesAll q (t before ts) = Passes q t × PassesAll q ts

abbrev pub any_name : Text → Option ℕ → Bool
any_name x s = true

-- whether a symbol has this name
abbrev pub is_called : (ℕ → Text) → Text → Option ℕ → Bool
is_called called x None = true
is_called called x (Some s) = bytes_eq x (called s)
