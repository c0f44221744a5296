-- The marks of a node, as the scope table of its program gives them: an identifier has its reference and its symbol, and a node that
-- makes a scope has that. One definition serves an identifier that is declared and one that refers.
use Rattle.std.specs.Prelude.{ℕ, List, [], ◌∷◌, Option, None}
use Rattle.es_tree.specs.Tree.{Label}

abbrev pub first_mark : List (Option ℕ) → Option ℕ
first_mark [] = None
first_mark (m ∷ ms) = m

abbrev pub second_mark : List (Option ℕ) → Option ℕ
second_mark [] = None
second_mark (m ∷ ms) = first_mark ms

-- the number of the reference that an identifier is; none where it refers to nothing
abbrev pub reference_mark : Label → Option ℕ
reference_mark l = first_mark l.marks

-- the symbol that an identifier declares or refers to; none where its name is unbound, or it is no name
abbrev pub symbol_mark : Label → Option ℕ
symbol_mark l = second_mark l.marks

-- the scope that a node makes
abbrev pub scope_mark : Label → Option ℕ
scope_mark l = first_mark l.marks
