-- As a rule: one export of a declaration with an object rest, in the list of a program (ECMA-262, 16.2.3).
use Rattle.std.specs.Prelude.{◌≡◌, List, [], ◌∷◌, None, Option, true}
use Rattle.es_tree.specs.Tree.{Tree, node, ◌then◌, one, Trees, ◌before◌, label_of}
use Rattle.es_tree.specs.declared.ast_type.AstType.TheVariants.{ExportNamedDeclaration}
use Rattle.es_resolution.specs.Declarations.{Bound, symbol_of}
use Rattle.es_steps.specs.Nodes.{joined_trees}
use Rattle.es_steps.specs.Open.{Additions, Pending, no_additions, nothing_pending}
use Rattle.es_steps.specs.Steps.{Ledger, Site, Spot, Whole, at_list, is_program_list, ledger}
use Rattle.es_export_splits.specs.Splits.{is_split, names_of_declaration, split_before, text_of, with_symbols}

-- the names that such an export exports
abbrev pub names_of_export : Tree → List Tree
names_of_export (node ExportNamedDeclaration l (one d then fs)) = names_of_declaration d
names_of_export _ = []

-- each of these trees
abbrev pub EachTree : (Tree → Type 0) → List Tree → Type 0
EachTree P [] = Unit {0}
EachTree P (x ∷ xs) = P x × EachTree P xs

-- a name that finds its own symbol from here
abbrev pub FindsItself : Site → Tree → Type 0
FindsItself n x = n.names.scope (text_of x) ≡ symbol_of (label_of x)

-- The names that are exported find themselves: so they do in the list that declares them.
pub data ExportRule : Site → Ledger → Spot → Ledger → Spot → Type 0 where
  splits : {n : Site} {w : Whole} {p : Pending} {y : Option Bound} {a : Additions} (before_it after_it : Trees) (t : Tree) → is_program_list n.above ≡ true → is_split t ≡ true → EachTree (FindsItself n) (names_of_export t) →
      ExportRule n (ledger w p y a) (at_list nothing_pending None no_additions (joined_trees before_it (t before after_it))) (ledger w p y a) (at_list nothing_pending None no_additions (joined_trees before_it (split_before with_symbols t after_it)))
