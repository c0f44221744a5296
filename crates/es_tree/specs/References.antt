-- The references of a core program (ECMA-262, 13.1; for those that write, 13.4 and 13.15.2), in node order. The
-- definitions are total over trees, and those of core programs: other programs have more kinds of targets.
use Rattle.std.specs.Prelude.{ℕ, zero, suc, List, [], ◌∷◌, ◌++◌, Bool, true, false, not, ◌&&◌, ◌==◌, Option, Some, None, bytes_eq, codes, if◌then◌else◌}
use Rattle.std.specs.List.{list_any}
use Rattle.es_tree.specs.Words.{Text}
use Rattle.es_tree.specs.Names.{first_text, is_name_place}
use Rattle.es_tree.specs.Scopes.{declared_of}
use Rattle.es_tree.specs.Symbols.{symbol_of}
use Rattle.es_tree.specs.Tree.{Tree, node, Label, Fields, done, ◌then◌, Field, missing, one, many, statements, Trees, empty, ◌before◌}
use Rattle.es_tree.specs.declared.ast_type.AstType.{AstType}
use Rattle.es_tree.specs.declared.ast_type.AstType.TheVariants.{Identifier, VariableDeclarator, AssignmentExpression, UpdateExpression, ParenthesizedExpression}

-- ROLES

-- What an identifier is at its place: nothing that refers, as a property's name; a declarator's binding; or a
-- reference, by whether it reads and whether it writes.
pub data Role : Type 0 where
  nothing : Role
  binding : Role
  refers : Bool → Bool → Role

abbrev pub reads : Role
reads = refers true false

-- the target of an assignment: a compound one reads it too
abbrev pub target_of : Text → Role
target_of operator = refers (not (bytes_eq operator (codes "="))) true

-- The role of what stands in this field of a node that has itself the role r; the fields of a node count from 0.
-- Parentheses hand their role on.
abbrev pub role_at : Role → AstType → Label → ℕ → Role
role_at r VariableDeclarator l zero = binding
role_at r AssignmentExpression l zero = target_of (first_text l.texts)
role_at r UpdateExpression l zero = refers true true
role_at r ParenthesizedExpression l zero = r
role_at r k l n = if is_name_place k l n then reads else nothing

-- REFERENCES

-- A reference: the id of its node, the number of the symbol that it refers to, if its name is declared, and
-- whether it reads and writes.
pub record Reference : Type 0 where
  pub node : ℕ
  pub symbol : Option ℕ
  pub read : Bool
  pub write : Bool

-- the reference that an identifier of this role, id and symbol is
abbrev pub referred : Role → ℕ → Option ℕ → List Reference
referred nothing id s = []
referred binding id s = []
referred (refers r w) id s = record { node = id; symbol = s; read = r; write = w } ∷ []

abbrev pub own_references : (Text → Option ℕ) → Role → AstType → Label → List Reference
own_references find r Identifier l = referred r l.id (find (first_text l.texts))
own_references find r _ l = []

abbrev mutual
  -- those of a tree of this role, where names have the symbols that find gives
  pub references_at : (Text → Option ℕ) → Role → Tree → List Reference
  references_at find r (node k l fs) = own_references find r k l ++ references_in_fields find (role_at r k l) fs

  pub references_in_fields : (Text → Option ℕ) → (ℕ → Role) → Fields → List Reference
  references_in_fields find roles done = []
  references_in_fields find roles (f then fs) = references_in_field find (roles zero) f ++ references_in_fields find (λ n. roles (suc n)) fs

  pub references_in_field : (Text → Option ℕ) → Role → Field → List Reference
  references_in_field find r missing = []
  references_in_field find r (one t) = references_at find r t
  references_in_field find r (many ts) = references_in_trees find ts
  references_in_field find r (statements ts) = references_in_trees find ts

  pub references_in_trees : (Text → Option ℕ) → Trees → List Reference
  references_in_trees find empty = []
  references_in_trees find (t before ts) = references_at find reads t ++ references_in_trees find ts

-- the references of a program; the number of each is its place here, counted from 0
abbrev pub references : Tree → List Reference
references p = references_at (symbol_of (declared_of p)) reads p

abbrev pub is_symbol : ℕ → Option ℕ → Bool
is_symbol s None = false
is_symbol s (Some n) = n == s

abbrev pub writes_symbol : ℕ → Reference → Bool
writes_symbol s r = r.write && is_symbol s r.symbol

-- whether a reference of the program to this symbol writes
abbrev pub is_mutated_in : Tree → ℕ → Bool
is_mutated_in p s = list_any (writes_symbol s) (references p)
