-- The law of steps and runs: what steps of the lowerings reach from a program without functions, arrows and classes runs as the
-- program does.
use Rattle.std.specs.Prelude.{◌≡◌, ◌&&◌, ◌||◌, Bool, false, true, not, List, is_some, if◌then◌else◌}
use Rattle.es_tree.specs.Bare.{bare}
use Rattle.es_tree.specs.Tree.{Fields, Label, Tree}
use Rattle.es_tree.specs.Walks.{all_nodes, any_node}
use Rattle.es_tree.specs.Words.{Text}
use Rattle.es_tree.specs.declared.ast_type.AstType.{AstType}
use Rattle.es_tree.specs.declared.options.EnvOptions.{EnvOptions}
use Rattle.es_steps.specs.CoreBridge.{Reached, first_whole}
use Rattle.es_reached.specs.Reached.{built_rules}
use Rattle.es_reached.specs.Unmade.{is_sought, of_assigned_rests, of_assignments, of_chains, of_powers, of_spreads}
use Rattle.es_chain_tags.specs.ChainTags.{has_chain_tag}
use Rattle.es_statement_runs.specs.Helpers.{Supply}
use Rattle.es_statement_runs.specs.Helpers.Supply.{no_helpers, spread_by_global, by_global}
use Rattle.es_statement_runs.specs.Programs.{IsStatementProgram, uses_no_helper}
use Rattle.es_statement_runs.specs.Runs.{RunAlike}
use Rattle.es_statement_steps.specs.Orders.{in_order}

-- WHICH ROWS ACT: those that options ask for whose construct stands in the program

abbrev pub spreads_there : EnvOptions → Tree → Bool
spreads_there o p = is_some o.es2018.object_rest_spread && any_node (is_sought of_spreads) p

abbrev pub chains_there : EnvOptions → Tree → Bool
chains_there o p = o.es2020.optional_chaining && any_node (is_sought of_chains) p

abbrev pub assignments_there : EnvOptions → Tree → Bool
assignments_there o p = o.es2021.logical_assignment_operators && any_node (is_sought of_assignments) p

abbrev pub powers_there : EnvOptions → Tree → Bool
powers_there o p = o.es2016.exponentiation_operator && any_node (is_sought of_powers) p

-- Object spread has its helper as a member of `babelHelpers`, and where chains, logical assignment or exponentiation are lowered beside it that has no
-- other; the other lowerings have none.
abbrev pub supply_there : EnvOptions → Tree → Supply
supply_there o p = if spreads_there o p then (if chains_there o p || (assignments_there o p || powers_there o p) then spread_by_global else by_global) else no_helpers

-- whether spreads are lowered beside chains
abbrev pub are_mixed : EnvOptions → Tree → Bool
are_mixed o p = spreads_there o p && chains_there o p

-- whether they assume that no value is `document.all` (ECMA-262, B.3.6): optional chaining alone may
abbrev pub assumes_no_all : EnvOptions → Tree → Bool
assumes_no_all o p = chains_there o p && o.assumptions.no_document_all

-- no tag of a template is an optional chain, maybe in parentheses (13.3.9, 13.3.11)
abbrev pub no_chain_tag : AstType → Label → Fields → Bool
no_chain_tag k l fs = not (has_chain_tag k l fs)

-- Where chains are lowered no tag is one: that isn't lowered.
abbrev pub TagsAreNoChains : EnvOptions → Tree → Type 0
TagsAreNoChains o p = o.es2020.optional_chaining ≡ true → all_nodes no_chain_tag p ≡ true

-- Where object rests are lowered the program assigns to none (13.15.5): of what becomes of that no law of runs speaks.
abbrev pub AssignsNoRest : EnvOptions → Tree → Type 0
AssignsNoRest o p = (is_some o.es2018.object_rest_spread && any_node (is_sought of_assigned_rests) p) ≡ false

-- A valid program that uses no helper itself runs as what steps of these rules reach from it, at whatever places they are taken and in
-- whatever order, but that where both are lowered no spread is while a chain stands around it: of whatever operands its expressions are, and where it is assumed that no value is `document.all` in every run in which none is.
abbrev pub LawStatementRules : Type 0
LawStatementRules = (o : EnvOptions) (p q : Tree) (names : List Text) → IsStatementProgram p → TagsAreNoChains o p → AssignsNoRest o p → uses_no_helper (supply_there o p) p ≡ true → Reached (built_rules o) p (first_whole p) names q →
    (are_mixed o p ≡ true → Reached (in_order o) p (first_whole p) names q) → RunAlike (supply_there o p) (assumes_no_all o p) p q

-- A program of which the law speaks under these options.
pub record RunsAsStatements (o : EnvOptions) (p : Tree) : Type 0 where
  -- it is valid, and without functions, arrows and classes
  pub class : IsStatementProgram p
  pub helpers : uses_no_helper (supply_there o p) p ≡ true

-- So it is of what a program becomes by steps in order: what is written of it, which is equal but for ids and marks, runs as it does.
abbrev pub LawStatementResult : Type 0
LawStatementResult = (o : EnvOptions) (p q r : Tree) (names : List Text) → RunsAsStatements o p → TagsAreNoChains o p → AssignsNoRest o p → Reached (in_order o) p (first_whole p) names r → bare r ≡ bare q → RunAlike (supply_there o p) (assumes_no_all o p) p q
