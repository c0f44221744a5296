-- Statements that are put at a place of a list.
use Rattle.std.specs.Prelude.{ℕ, suc, List, [], ◌∷◌, Option, Some, None, if◌then◌else◌, insert}
use Rattle.es_tree.specs.Tree.{Tree}
use Rattle.es_steps.specs.Open.{is_import}

-- how many imports stand before the first statement that is none
abbrev pub imports_before : List Tree → ℕ
imports_before [] = 0
imports_before (t ∷ ts) = if is_import t then suc (imports_before ts) else 0

-- a statement, if there is one, at this place of these
abbrev pub with_statement : ℕ → Option Tree → List Tree → List Tree
with_statement i None ts = ts
with_statement i (Some t) ts = insert ts i t

-- the statement, if there is one, as a list
abbrev pub listed : Option Tree → List Tree
listed None = []
listed (Some t) = t ∷ []
