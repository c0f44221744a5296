-- Object rests, as far as steps of their rules write programs: a declarator declares a name or a pattern (ECMA-262, 14.3), and no pattern
-- that has a default value.
use Rattle.std.specs.Prelude.{◌≡◌, ◌&&◌, Bool, true, false, Option, Some, None}
use Rattle.es_tree.specs.Ancestors.{stands_in}
use Rattle.es_tree.specs.Children.{child_at}
use Rattle.es_tree.specs.Tree.{Tree, node, ◌then◌, many, Trees, empty, ◌before◌, kind_of, fields_of}
use Rattle.es_tree.specs.declared.ast_type.AstType.{AstType}
use Rattle.es_tree.specs.declared.ast_type.AstType.TheVariants.{ArrayPattern, ExportNamedDeclaration, Identifier, ObjectPattern, VariableDeclaration}
use Rattle.es_steps.specs.CatchPatterns.{CatchRest}
use Rattle.es_steps.specs.LoopHeads.{HeadRest, TargetHead}
use Rattle.es_steps.specs.ObjectRest.{SplitRule, TakesRest}
use Rattle.es_steps.specs.ParameterPatterns.{ParameterRest}
use Rattle.es_steps.specs.Rules.{either_rule}
use Rattle.es_steps.specs.Steps.{Ledger, Site, Spot}
use Rattle.es_steps.specs.Steps.Spot.{at_node}

-- what a declarator may declare
abbrev pub is_binding_kind : AstType → Bool
is_binding_kind Identifier = true
is_binding_kind ObjectPattern = true
is_binding_kind ArrayPattern = true
is_binding_kind _ = false

abbrev pub is_binding : Option Tree → Bool
is_binding None = false
is_binding (Some t) = is_binding_kind (kind_of t)

-- each of these declarators does
abbrev pub all_declare : Trees → Bool
all_declare empty = true
all_declare (d before ds) = is_binding (child_at 0 (fields_of d)) && all_declare ds

-- where a declaration is left, each of its declarators does
abbrev pub leaves_bindings : Spot → Bool
leaves_bindings (at_node (node VariableDeclaration m (many ds then fs))) = all_declare ds
leaves_bindings y = true

-- SHAPES TO REFUSE: of a rule those steps alone that leave such declarations
abbrev pub Binding : (Site → Ledger → Spot → Ledger → Spot → Type 0) → Site → Ledger → Spot → Ledger → Spot → Type 0
Binding R n s x s' y = R n s x s' y × (leaves_bindings y ≡ true)

-- and those alone that leave no exported declaration: what splits off would be exported, too
abbrev pub Unexported : (Site → Ledger → Spot → Ledger → Spot → Type 0) → Site → Ledger → Spot → Ledger → Spot → Type 0
Unexported R n s x s' y = R n s x s' y × (stands_in ExportNamedDeclaration 0 n.above ≡ false)

-- THE RULES OF OBJECT RESTS, so far as it is proved that what they write is a program
abbrev pub RestPart : Site → Ledger → Spot → Ledger → Spot → Type 0
RestPart = either_rule (Binding SplitRule) (either_rule (Binding TakesRest) (either_rule CatchRest (either_rule HeadRest (either_rule TargetHead ParameterRest))))

-- those of which it is proved of all nineteen static rules, and of what other modules see
abbrev pub OutsidePart : Site → Ledger → Spot → Ledger → Spot → Type 0
OutsidePart = either_rule (Unexported (Binding SplitRule)) (either_rule (Binding TakesRest) (either_rule CatchRest (either_rule HeadRest (either_rule TargetHead ParameterRest))))
