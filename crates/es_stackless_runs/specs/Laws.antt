-- Runs without stacks of `using`: a program that calls no helper but that of object spread runs as it does where that is the only helper.
use Rattle.std.specs.Prelude.{◌≡◌, ◌&&◌, ℕ, Bool, true, false, not, List, [], ◌∷◌, bytes_eq, codes}
use Rattle.es_tree.specs.Fresh.{is_among}
use Rattle.es_tree.specs.Names.{first_text, flag_at}
use Rattle.es_tree.specs.Tree.{Tree, node, Label, Fields, done, ◌then◌, Field, missing, one, many, statements, Trees, empty, ◌before◌}
use Rattle.es_tree.specs.Words.{Text}
use Rattle.es_tree.specs.declared.ast_type.AstType.{AstType}
use Rattle.es_tree.specs.declared.ast_type.AstType.TheVariants.{CallExpression, Identifier, MemberExpression, VariableDeclaration, VariableDeclarator}
use Rattle.es_runs.specs.Machine.{Value, Values, OwnValue, Move}
use Rattle.es_runs.specs.Machine.Value.{bound, own}
use Rattle.es_runs.specs.Machine.OwnValue.{contents, list, stack, suppressed}
use Rattle.es_runs.specs.Machine.Values.{none, ◌and◌}
use Rattle.es_runs.specs.Machine.Move.{answer, throw}
use Rattle.es_runs.specs.Runs.{is_declared}
use Rattle.es_statement_runs.specs.HelperMembers.{no_helper_member}
use Rattle.es_statement_runs.specs.Helpers.{silent_names}
use Rattle.es_statement_runs.specs.Helpers.Supply.{by_global, spread_by_global}
use Rattle.es_statement_runs.specs.Names.{declared_at_top, names_of_all, own_names}
use Rattle.es_statement_runs.specs.Programs.{names_no_cell}
use Rattle.es_statement_runs.specs.Runs.{are_proper_moves, is_proper, run}

-- VALUES in which no stack is
abbrev mutual
  pub is_stackless : Value → Bool
  is_stackless (bound f r vs) = is_stackless f && is_stackless r && are_stackless vs
  is_stackless (own v) = is_stackless_own v
  is_stackless _ = true

  pub is_stackless_own : OwnValue → Bool
  is_stackless_own (suppressed v u) = is_stackless v && is_stackless u
  is_stackless_own (list vs) = are_stackless vs
  is_stackless_own (contents us vs) = are_stackless us && are_stackless vs
  is_stackless_own (stack n) = false
  is_stackless_own _ = true

  pub are_stackless : Values → Bool
  are_stackless none = true
  are_stackless (v and vs) = is_stackless v && are_stackless vs

abbrev pub move_stackless : Move → Bool
move_stackless (answer v) = is_stackless v
move_stackless (throw v) = is_stackless v

abbrev pub moves_stackless : List Move → Bool
moves_stackless [] = true
moves_stackless (m ∷ ms) = move_stackless m && moves_stackless ms

-- CALLS of the helper of object spread, `babelHelpers.objectSpread2(..)`

abbrev pub helpers_ : Text
helpers_ = codes "babelHelpers"

abbrev pub is_spread_callee : Tree → Bool
is_spread_callee (node MemberExpression j (one (node Identifier i gs) then (one (node Identifier m hs) then done))) =
    (not (flag_at 0 j.flags) && not (flag_at 1 j.flags)) && (bytes_eq (first_text i.texts) helpers_ && bytes_eq (first_text m.texts) (codes "objectSpread2"))
is_spread_callee t = false

abbrev pub calls_spread : AstType → Label → Fields → Bool
calls_spread CallExpression l (one f then fs) = not (flag_at 0 l.flags) && is_spread_callee f
calls_spread k l fs = false

-- a declaration has declarators
abbrev pub is_declarator : Tree → Bool
is_declarator (node VariableDeclarator l fs) = true
is_declarator t = false

abbrev pub are_declarators : Trees → Bool
are_declarators empty = true
are_declarators (t before ts) = is_declarator t && are_declarators ts

abbrev pub declares_by : AstType → Fields → Bool
declares_by VariableDeclaration (many ts then fs) = are_declarators ts
declares_by VariableDeclaration (statements ts then fs) = are_declarators ts
declares_by k fs = true

-- what is asked of each node: its name is no cell of the machine, no member is one of `babelHelpers`, and its scope doesn't declare that name
abbrev pub is_plain_node : AstType → Label → Fields → Bool
is_plain_node k l fs = names_no_cell k l fs && (no_helper_member k l fs && (not (is_among (names_of_all (own_names k fs)) helpers_) && declares_by k fs))

-- A TREE of such nodes, but for what that helper is called by
abbrev mutual
  pub only_spreads : Tree → Bool
  only_spreads (node k l fs) = is_plain_node k l fs && only_spreads_in (calls_spread k l fs) fs

  -- in fields of which the first is passed over, or none
  pub only_spreads_in : Bool → Fields → Bool
  only_spreads_in passed done = true
  only_spreads_in true (f then fs) = only_spreads_in false fs
  only_spreads_in false (f then fs) = only_spreads_by f && only_spreads_in false fs

  pub only_spreads_by : Field → Bool
  only_spreads_by missing = true
  only_spreads_by (one t) = only_spreads t
  only_spreads_by (many ts) = only_spreads_among ts
  only_spreads_by (statements ts) = only_spreads_among ts

  pub only_spreads_among : Trees → Bool
  only_spreads_among empty = true
  only_spreads_among (t before ts) = only_spreads t && only_spreads_among ts

-- Such a program runs with the object of all helpers as where it has that of object spread alone: no stack arises, whose methods its members could be.
abbrev pub LawStackless : Type 0
LawStackless = (n : ℕ) (t : Tree) (this : Value) (moves : List Move) → only_spreads t ≡ true → silent_names by_global t ≡ [] → is_declared (declared_at_top t) helpers_ ≡ false → is_proper this ≡ true → are_proper_moves moves ≡ true →
    run spread_by_global n t this moves ≡ run by_global n t this moves
