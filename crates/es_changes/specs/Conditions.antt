-- Conditions of a visit: what is known of nodes beside that they fit.
use Rattle.std.specs.Prelude.{◌≡◌, Bool, false, true}
use Rattle.es_tree.specs.HasForm.{has_form}
use Rattle.es_tree.specs.Tree.{Tree, node, Label, Fields}
use Rattle.es_tree.specs.declared.ast_type.AstType.{AstType}
use Rattle.es_tree.specs.declared.ast_type.AstType.TheVariants.{CallExpression, ChainExpression, UnaryExpression}
use Rattle.es_tree.specs.declared.table.Sort.{Sort}
use Rattle.es_steps.specs.Open.{is_body, opened_fields}
use Rattle.es_steps.specs.Slots.{is_slot}
use Rattle.es_steps.specs.Steps.{Site, site_in}
use Rattle.es_changes.specs.Changes.{EachIn}

-- What is known of the nodes of a visit beside that they fit: of a node before its hooks, and after those by its sort, when what stands
-- inside it is visited.
pub record Conditions : Type 0 where
  pub before : Site → Tree → Bool
  pub after : Site → Tree → Bool

abbrev pub holds_before : Conditions → Site → Tree → Type 0
holds_before c n t = c.before n t ≡ true

abbrev pub holds_after : Conditions → Site → Tree → Type 0
holds_after c n t = c.after n t ≡ true

-- The kinds whose hook may bring about more than was known before it: a chain, what calls one, and what deletes one. They are expressions
-- wherever they stand.
abbrev pub may_bring : AstType → Bool
may_bring CallExpression = true
may_bring ChainExpression = true
may_bring UnaryExpression = true
may_bring _ = false

pub record AreSound (c : Conditions) : Type 0 where
  -- the second is the stronger one
  pub stronger : (n : Site) (t : Tree) → holds_after c n t → holds_before c n t
  -- and differs in slots and at nodes of these kinds alone
  pub alike : (n : Site) (s : Sort) (k : AstType) (l : Label) (fs : Fields) → has_form s (node k l fs) ≡ true → may_bring k ≡ false → is_slot n.above ≡ false → holds_before c n (node k l fs) → holds_after c n (node k l fs)
  -- it goes inward
  pub inward : (n : Site) (s : Sort) (k : AstType) (l : Label) (fs : Fields) → has_form s (node k l fs) ≡ true → holds_after c n (node k l fs) → EachIn (holds_before c) (site_in n k l (opened_fields (is_body k) fs)) (is_body k) fs
