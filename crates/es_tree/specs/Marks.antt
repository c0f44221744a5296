-- The marks of a core program: the number of each reference, the symbol of each declarator's binding, and the scope of
-- the program (ECMA-262, 8.2 and 9.1). All else of the tree stays.
use Rattle.std.specs.Prelude.{ℕ, zero, suc, ◌+◌, List, [], ◌∷◌, length, Option, Some}
use Rattle.es_tree.specs.Words.{Text}
use Rattle.es_tree.specs.Names.{first_text}
use Rattle.es_tree.specs.Scopes.{declared_of}
use Rattle.es_tree.specs.Symbols.{symbol_of}
use Rattle.es_tree.specs.References.{Role, nothing, binding, refers, reads, role_at, own_references, references_at, references_in_field}
use Rattle.es_tree.specs.Tree.{Tree, node, Label, Fields, done, ◌then◌, Field, missing, one, many, statements, Trees, empty, ◌before◌}
use Rattle.es_tree.specs.declared.ast_type.AstType.{AstType}
use Rattle.es_tree.specs.declared.ast_type.AstType.TheVariants.{Program, Identifier}

abbrev pub with_first : Option ℕ → List (Option ℕ) → List (Option ℕ)
with_first m [] = []
with_first m (n ∷ ns) = m ∷ ns

abbrev pub with_second : Option ℕ → List (Option ℕ) → List (Option ℕ)
with_second m [] = []
with_second m (n ∷ ns) = n ∷ with_first m ns

-- The marks of a node of this role; n is the number of the next reference. The marks of an identifier are its
-- reference and its symbol.
abbrev pub own_marks : (Text → Option ℕ) → ℕ → Role → AstType → Label → List (Option ℕ)
own_marks find n nothing k l = l.marks
own_marks find n binding Identifier l = with_second (find (first_text l.texts)) l.marks
own_marks find n binding _ l = l.marks
own_marks find n (refers r w) Identifier l = with_first (Some n) l.marks
own_marks find n (refers r w) _ l = l.marks

abbrev pub marked_label : (Text → Option ℕ) → ℕ → Role → AstType → Label → Label
marked_label find n r k l = record l { marks = own_marks find n r k l }

abbrev mutual
  -- the tree with its marks, where names have the symbols that find gives and references are numbered from n
  pub marked_at : (Text → Option ℕ) → ℕ → Role → Tree → Tree
  marked_at find n r (node k l fs) = node k (marked_label find n r k l) (marked_fields find (n + length (own_references find r k l)) (role_at r k l) fs)

  pub marked_fields : (Text → Option ℕ) → ℕ → (ℕ → Role) → Fields → Fields
  marked_fields find n roles done = done
  marked_fields find n roles (f then fs) = marked_field find n (roles zero) f then marked_fields find (n + length (references_in_field find (roles zero) f)) (λ k. roles (suc k)) fs

  pub marked_field : (Text → Option ℕ) → ℕ → Role → Field → Field
  marked_field find n r missing = missing
  marked_field find n r (one t) = one (marked_at find n r t)
  marked_field find n r (many ts) = many (marked_trees find n ts)
  marked_field find n r (statements ts) = statements (marked_trees find n ts)

  pub marked_trees : (Text → Option ℕ) → ℕ → Trees → Trees
  marked_trees find n empty = empty
  marked_trees find n (t before ts) = marked_at find n reads t before marked_trees find (n + length (references_at find reads t)) ts

abbrev pub scope_marks : AstType → Label → List (Option ℕ)
scope_marks Program l = with_first (Some 0) l.marks
scope_marks _ l = l.marks

-- with the mark of the scope, where the tree is a program
abbrev pub with_scope : Tree → Tree
with_scope (node k l fs) = node k (record l { marks = scope_marks k l }) fs

-- the program with its marks
abbrev pub marked : Tree → Tree
marked p = with_scope (marked_at (symbol_of (declared_of p)) 0 reads p)
