-- What a program imports more: statements behind the imports that it has, which each declare a fresh name.
use Rattle.std.specs.Prelude.{◌≡◌, [], ◌∷◌, Bool, true, false, Option, None, codes, if◌then◌else◌}
use Rattle.es_tree.specs.Tree.{Tree, node, ◌then◌, statements, Trees, empty, ◌before◌}
use Rattle.es_tree.specs.Words.{Text}
use Rattle.es_resolution.specs.Declarations.{Bound}
use Rattle.es_steps.specs.Nodes.{call_node, declaration_node, declarator_with, identifier, import_node, import_specifier, joined_trees, string_node, word}
use Rattle.es_steps.specs.Open.{Additions, Pending, after_imports, no_additions, nothing_pending}
use Rattle.es_steps.specs.Rules.{next_name, with_made}
use Rattle.es_steps.specs.Steps.{Ledger, ledger, Site, Spot, Whole, at_list, is_program_list}

-- what is imported by default of a module, under this name
pub record Import : Type 0 where
  pub source : Text
  pub local : Bound

-- `import x from "m";` (ECMA-262, 16.2.2)
abbrev pub import_of : Import → Tree
import_of i = import_node (import_specifier None i.local) (string_node i.source) empty

-- `var x = require("m");`
abbrev pub require_of : Import → Tree
require_of i = declaration_node (codes "var") (declarator_with (identifier i.local) (call_node (word (codes "require")) (string_node i.source ∷ [])) ∷ [])

-- as a module has it, or a script
abbrev pub top_of : Bool → Import → Tree
top_of true i = import_of i
top_of false i = require_of i

-- the program with these statements behind its first imports
abbrev pub with_top : Trees → Tree → Tree
with_top news (node k l (f then (statements ts then fs))) = node k l (f then (statements (after_imports news ts) then fs))
with_top news t = t

-- AS A RULE: one statement more in the list of a program, with a name that isn't in use. In a script `require` is bound nowhere around.
pub data TopRule (in_module : Bool) : Site → Ledger → Spot → Ledger → Spot → Type 0 where
  imports : {n : Site} {w : Whole} {p : Pending} {y : Option Bound} {a : Additions} (before_it after_it : Trees) (source x : Text) → is_program_list n.above ≡ true → w.in_use x ≡ false →
      (in_module ≡ false → (n.names.scope (codes "require") ≡ None) × (w.in_use (codes "require") ≡ true)) →
      TopRule in_module n (ledger w p y a) (at_list nothing_pending None no_additions (joined_trees before_it after_it)) (ledger (with_made (next_name w x ∷ []) w) p y a)
      (at_list nothing_pending None no_additions (joined_trees before_it (top_of in_module (record { source = source; local = next_name w x }) before after_it)))
