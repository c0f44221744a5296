-- The references of a program, in node order (ECMA-262, 13.1), and the marks that the table gives its tree.
use Rattle.std.specs.Prelude.{ℕ, zero, suc, ◌+◌, List, [], ◌∷◌, ◌++◌, length, Bool, true, false, Option, Some, None, if◌then◌else◌}
use Rattle.std.specs.List.{list_any}
use Rattle.es_tree.specs.Marks.{with_scope}
use Rattle.es_tree.specs.Names.{first_text}
use Rattle.es_tree.specs.References.{Reference, writes_symbol}
use Rattle.es_tree.specs.Tree.{Tree, node, Label, Fields, done, ◌then◌, Field, missing, one, many, statements, Trees, empty, ◌before◌}
use Rattle.es_tree.specs.Words.{Text}
use Rattle.es_tree.specs.declared.ast_type.AstType.{AstType}
use Rattle.es_tree.specs.declared.ast_type.AstType.TheVariants.{Identifier}
use Rattle.es_scope.specs.declared.flags.ReferenceFlags.{ReferenceFlags}
use Rattle.es_semantic.specs.Places.{Place, Visit, makes_scope, outermost, own_scope, own_scope_count, place_in, scope_count_in, scope_count_in_field, visits, visits_in_field, visits_of}
use Rattle.es_semantic.specs.SymbolsOf.{Declared, find, scope_for, symbol_in, symbols_of}
use Rattle.es_semantic.specs.declared.place.Role.{Role}
use Rattle.es_semantic.specs.declared.place.Role.TheVariants.{Nothing, Binds, Refers}

-- REFERENCES

abbrev pub reference : ℕ → Option ℕ → Bool → Bool → Reference
reference id symbol r w = record { node = id; symbol = symbol; read = r; write = w }

-- how an identifier of this role refers to its name: what isn't declared and is a name reads it at least
abbrev pub referring : Role → List ReferenceFlags
referring Nothing = []
referring (Binds b) = []
referring (Refers f) = f ∷ []
referring _ = record { read = true; write = false } ∷ []

abbrev pub referred : List ReferenceFlags → ℕ → Option ℕ → List Reference
referred [] id s = []
referred (f ∷ fs) id s = reference id s f.read f.write ∷ []

-- that of an identifier
abbrev pub own_reference : List Declared → Place → AstType → Label → List Reference
own_reference ds p Identifier l = referred (referring p.role) l.id (find ds p.around (first_text l.texts))
own_reference ds p _ l = []

abbrev pub references_among : List Declared → List Visit → List Reference
references_among ds [] = []
references_among ds (v ∷ vs) = own_reference ds v.place v.kind v.label ++ references_among ds vs

-- the references of a program; the number of each is its place here, counted from 0
abbrev pub references_of : Tree → List Reference
references_of p = references_among (symbols_of p) (visits_of p)

-- whether a reference of the program writes this symbol
abbrev pub is_mutated_of : Tree → ℕ → Bool
is_mutated_of p s = list_any (writes_symbol s) (references_of p)

-- MARKS

-- The marks of an identifier are its reference and its symbol: of one that refers its number and the symbol of its name here, none
-- where the name is unbound; of one that is declared its symbol alone.
abbrev pub identifier_marks : List Declared → Place → ℕ → Role → Text → List (Option ℕ)
identifier_marks ds p m Nothing x = None ∷ None ∷ []
identifier_marks ds p m (Binds b) x = None ∷ symbol_in ds (scope_for ds p b x) x ∷ []
identifier_marks ds p m _ x = Some m ∷ find ds p.around x ∷ []

-- those of a node, where n is the number of the next scope and m that of the next reference
abbrev pub own_marks_of : List Declared → Place → ℕ → ℕ → AstType → Label → Fields → List (Option ℕ)
own_marks_of ds p n m Identifier l fs = identifier_marks ds p m p.role (first_text l.texts)
own_marks_of ds p n m k l fs = if makes_scope k then Some (own_scope n k fs) ∷ [] else l.marks

abbrev mutual
  -- the tree with its marks, where n is the number of the next scope and m that of the next reference
  pub marked_tree : List Declared → Place → ℕ → ℕ → Tree → Tree
  marked_tree ds p n m (node k l fs) =
      node k (record l { marks = own_marks_of ds p n m k l fs }) (marked_in_fields ds (place_in p n k l fs) (n + own_scope_count k fs) (m + length (own_reference ds p k l)) fs)

  pub marked_in_fields : List Declared → (ℕ → Place) → ℕ → ℕ → Fields → Fields
  marked_in_fields ds ps n m done = done
  marked_in_fields ds ps n m (f then fs) =
      marked_in_field ds (ps zero) n m f then
      marked_in_fields ds (λ i. ps (suc i)) (n + scope_count_in_field f) (m + length (references_among ds (visits_in_field (ps zero) n f))) fs

  pub marked_in_field : List Declared → Place → ℕ → ℕ → Field → Field
  marked_in_field ds p n m missing = missing
  marked_in_field ds p n m (one t) = one (marked_tree ds p n m t)
  marked_in_field ds p n m (many ts) = many (marked_in_trees ds p n m ts)
  marked_in_field ds p n m (statements ts) = statements (marked_in_trees ds p n m ts)

  pub marked_in_trees : List Declared → Place → ℕ → ℕ → Trees → Trees
  marked_in_trees ds p n m empty = empty
  marked_in_trees ds p n m (t before ts) =
      marked_tree ds p n m t before marked_in_trees ds p (n + scope_count_in t) (m + length (references_among ds (visits p n t))) ts

-- the program with its marks
abbrev pub marked_program : Tree → Tree
marked_program p = with_scope (marked_tree (symbols_of p) (outermost p) 1 0 p)
