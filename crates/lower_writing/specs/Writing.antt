-- What the lowering that writes what is pending states of itself.
use Rattle.std.specs.Prelude.{◌≡◌, ℕ, ◌+◌, Bool, true, false, List, [], ◌++◌, Option}
use Rattle.es_tree.specs.Tree.{Tree, Label, Fields, empty, ◌before◌, trees}
use Rattle.es_tree.specs.Words.{Text}
use Rattle.es_tree.specs.declared.ast_type.AstType.{AstType}
use Rattle.es_tree.specs.declared.ast_type.AstType.TheVariants.{FunctionBody, ReturnStatement}
use Rattle.es_tree.specs.declared.options.EnvOptions.{EnvOptions}
use Rattle.es_resolution.specs.Seen.{seen, seen_among}
use Rattle.es_steps.specs.Nodes.{body_node, joined_trees, return_node}
use Rattle.es_steps.specs.Open.{Pending}
use Rattle.es_steps.specs.Rules.{Writing, either_rule}
use Rattle.es_steps.specs.WrapRule.{WrapRule, called_arrow}
use Rattle.es_changes.specs.Moments.{Moment, below, top}
use Rattle.es_conditions.specs.CoreConditions.{core_conditions, is_fit, is_wrapped}
use Rattle.es_traverse.specs.Laws.{Profile, is_construct, no_construct, whatever_it_is}
use Rattle.lower_temporaries.specs.Declarators.{declarations_written}
use Rattle.lower_temporaries.specs.SeenTrees.{is_inert_node}
use Rattle.lower_writing.specs.Lists.{listed}

-- the nodes that it may write: what is pending, the declarations of that, and a body of statements with a `return`
abbrev pub is_written_node : AstType → Label → Fields → Bool
is_written_node FunctionBody l fs = true
is_written_node ReturnStatement l fs = true
is_written_node k l fs = is_inert_node k l fs

abbrev pub MayBeWritten : Tree → Type 0
MayBeWritten t = is_construct is_written_node t ≡ true

-- a called arrow around some expression
pub record IsCalledArrow (t : Tree) : Type 0 where
  pub inside : Tree
  pub is_call : t ≡ called_arrow inside

-- It writes what is pending and wraps slots. It counts on it that nothing that a slot is wrapped for stands further inside one, leaves no
-- slot unwrapped, and removes no construct.
abbrev pub common_profile : EnvOptions → Profile
common_profile o = record {
  rule = either_rule Writing (WrapRule o);
  conditions = core_conditions o;
  counts = is_fit o;
  leaves = is_wrapped o;
  constructs = λ h k l fs. false;
  late_constructs = no_construct;
  counts_after = whatever_it_is;
  makes = IsCalledArrow;
  writes = MayBeWritten;
}

-- the moment after what was pending for the innermost list or body is written, with its pair closed, and so many ids more
abbrev pub after_writing : ℕ → Moment → Moment
after_writing more a = record a { next = a.next + declarations_written (top a.lists) + more; lists = below a.lists }

-- the ids that a body takes beside those of its declarations: where something is pending, for the expression and its `return`
abbrev pub ids_for : List Tree → List Tree → ℕ
ids_for [] [] = 0
ids_for vs ls = 2

abbrev pub ids_for_body : Pending → ℕ
ids_for_body p = ids_for p.vars p.lets

-- Whatever scopes bind, what is seen of a body is one of statements: these, if there are any, and a `return` of the expression.
abbrev pub IsBodyOf : Tree → Option Tree → Option Tree → Tree → Type 0
IsBodyOf e v o b = (names : ℕ → Text → Option ℕ) → seen names b ≡ body_node (joined_trees (seen_among names (trees (listed v ++ listed o))) (return_node (seen names e) before empty))
