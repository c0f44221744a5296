-- The laws of exports that are split: what a program becomes is one that breaks no static rule, in which each name keeps its binding, and which is the
-- same to other modules.
use Rattle.std.specs.Prelude.{◌≡◌, ◌*◌, ◌≤◌, Bool, List, [], false, true}
use Rattle.es_tree.specs.HasForm.{has_form}
use Rattle.es_tree.specs.StaticRules.{breaks}
use Rattle.es_tree.specs.Tree.{Fields, Label, Tree, Trees, done, many, statements, tree_size, ◌then◌}
use Rattle.es_tree.specs.Walks.{any_node}
use Rattle.es_tree.specs.Words.{Text}
use Rattle.es_tree.specs.declared.ast_type.AstType.{AstType}
use Rattle.es_tree.specs.declared.ast_type.AstType.TheVariants.{ExportNamedDeclaration, ExportSpecifier, Identifier, Program}
use Rattle.es_tree.specs.declared.table.Sort.TheVariants.{Program as s-Program}
use Rattle.es_steps.specs.Steps.{Ledger, Site, Spot}
use Rattle.es_pattern_moves.specs.Moved.{plainly as plainly_headed}
use Rattle.es_pattern_moves.specs.Weights.{weighed}
use Rattle.es_reached.specs.Reached.{IsResultOf}
use Rattle.es_steps.specs.CoreRules.{where_on}
use Rattle.es_using_heads.specs.Heads.{headed}
use Rattle.es_using_rows.specs.Used.{plainly as plainly_used, used}
use Rattle.es_using_rows.specs.declared.standing.Standing.TheVariants.{Anywhere}
use Rattle.es_export_splits.specs.SplitRule.{ExportRule}
use Rattle.es_export_splits.specs.Splits.{Makes, has_split, plainly, split}

-- the rule, where exports are split
abbrev pub split_rules : Bool → Site → Ledger → Spot → Ledger → Spot → Type 0
split_rules on = where_on on ExportRule

-- what a program becomes by it
abbrev pub IsSplit : Bool → Tree → Tree → Type 0
IsSplit on p q = IsResultOf (split_rules on) p q []

-- So it is of a program that has form and breaks no static rule: by steps, each name keeps its binding, it has form, keeps all static rules, asks for the
-- same modules and exports the same names.
abbrev pub LawSplit : Type 0
LawSplit = (p : Tree) → has_form s-Program p ≡ true → breaks p ≡ [] → IsSplit true p (split plainly p)

-- WHERE NO SUCH EXPORT STANDS the program stays as it is.
abbrev pub LawStays : Type 0
LawStays = (m : Makes) (p : Tree) → has_split p ≡ false → split m p ≡ p

-- A TEST that neither exports nor names pass, nor a program because of its statements, is passed by a node exactly where it was before.
pub record IsElsewhere (q : AstType → Label → Fields → Bool) : Type 0 where
  pub exports : (l : Label) (fs : Fields) → q ExportNamedDeclaration l fs ≡ false
  pub specifiers : (l : Label) (fs : Fields) → q ExportSpecifier l fs ≡ false
  pub names : (l : Label) (fs : Fields) → q Identifier l fs ≡ false
  pub programs : (l : Label) (ds ts us : Trees) → q Program l (many ds then statements ts then done) ≡ q Program l (many ds then statements us then done)

abbrev pub LawElsewhere : Type 0
LawElsewhere = (q : AstType → Label → Fields → Bool) (p : Tree) → IsElsewhere q → any_node q (split plainly p) ≡ any_node q p

-- SIZE: each name of such an export makes three nodes more, and is a node itself; so what is split weighs eight for each node at most, and, once its
-- `using` moved out of heads and is lowered, twenty.
abbrev pub LawSplitWeighs : Type 0
LawSplitWeighs = (p : Tree) → weighed (split plainly p) ≤ 8 * tree_size p

abbrev pub LawSplitWeighsUsed : Type 0
LawSplitWeighsUsed = (p : Tree) (heads names : List Text) → has_form s-Program p ≡ true → weighed (used (plainly_used names) Anywhere 0 (headed (plainly_headed heads) 0 (split plainly p)).1).1 ≤ 20 * tree_size p
