-- A symbol has one name: each identifier that declares or refers to a symbol has that symbol's name, and so has each class the
-- name of its own symbol inside itself.
use Rattle.std.specs.Prelude.{◌≡◌, ℕ, zero, suc, List, [], ◌∷◌, Option, Some, None}
use Rattle.es_tree.specs.Words.{Text}
use Rattle.es_tree.specs.Names.{first_text}
use Rattle.es_tree.specs.Scopes.{name_in}
use Rattle.es_tree.specs.Tree.{Tree, node, Label, Fields, done, ◌then◌, Field, missing, one, many, statements, Trees, empty, ◌before◌}
use Rattle.es_tree.specs.declared.ast_type.AstType.{AstType}
use Rattle.es_tree.specs.declared.ast_type.AstType.TheVariants.{Identifier, ClassDeclaration, ClassExpression}
use Rattle.es_semantic.specs.SymbolsOf.{Declared}
use Rattle.es_resolution.specs.Declarations.{symbol_of}

-- the name of a symbol of these, which is the one that stands at its number
abbrev pub name_at : List Declared → ℕ → Text
name_at [] s = []
name_at (d ∷ ds) zero = d.name
name_at (d ∷ ds) (suc s) = name_at ds s

-- what has this symbol has the symbol's name
abbrev pub HasName : (ℕ → Text) → Option ℕ → Text → Type 0
HasName called None x = Unit {0}
HasName called (Some s) x = x ≡ called s

abbrev pub OwnCalled : (ℕ → Text) → AstType → Label → Fields → Type 0
OwnCalled called Identifier l fs = HasName called (symbol_of l) (first_text l.texts)
OwnCalled called ClassDeclaration l fs = HasName called (symbol_of l) (name_in fs)
OwnCalled called ClassExpression l fs = HasName called (symbol_of l) (name_in fs)
OwnCalled called _ l fs = Unit {0}

abbrev mutual
  pub Called : (ℕ → Text) → Tree → Type 0
  Called called (node k l fs) = OwnCalled called k l fs × CalledIn called fs

  pub CalledIn : (ℕ → Text) → Fields → Type 0
  CalledIn called done = Unit {0}
  CalledIn called (f then fs) = CalledBy called f × CalledIn called fs

  pub CalledBy : (ℕ → Text) → Field → Type 0
  CalledBy called missing = Unit {0}
  CalledBy called (one t) = Called called t
  CalledBy called (many ts) = CalledAll called ts
  CalledBy called (statements ts) = CalledAll called ts

  pub CalledAll : (ℕ → Text) → Trees → Type 0
  CalledAll called empty = Unit {0}
  CalledAll called (t before ts) = Called called t × CalledAll called ts
