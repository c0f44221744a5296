-- What the one visit of a run states of itself, and what the walks over arrows and object rests leave.
use Rattle.std.specs.Prelude.{◌≡◌, Bool, true, false}
use Rattle.es_tree.specs.Constructs.{is_arrow}
use Rattle.es_tree.specs.Walks.{any_node}
use Rattle.es_tree.specs.declared.options.EnvOptions.{EnvOptions}
use Rattle.es_scope.specs.declared.context.TraverseCtx.{TraverseCtx}
use Rattle.es_statements.specs.ProgramPlain.{plain_program}
use Rattle.es_statements.specs.declared.program.Program.{Program}
use Rattle.es_traverse.specs.Laws.{Ending, KeptTree, Profile, Seen, both_endings, both_profile, no_ending}
use Rattle.lower_arrows.specs.Lowered.{ArrowsLowered}
use Rattle.lower_editions.specs.Editions.{editions_ending, es2016_profile, es2018_profile, es2019_profile, es2020_profile, es2021_profile}
use Rattle.lower_nodes.specs.Nodes.{PaidTree, WalkedProgram}
use Rattle.lower_object_rest.specs.Profile.{profile_where, rest_owes}
use Rattle.lower_temporaries.specs.Takings.{moment_of}
use Rattle.lower_temporaries.specs.declared.state.TransformState.{TransformState}
use Rattle.lower_writing.specs.Writing.{common_profile}

-- all lowerings together, each as the options ask
abbrev pub visit_profile : EnvOptions → Profile
visit_profile o = both_profile (common_profile o) (both_profile (es2021_profile o) (both_profile (es2020_profile o) (both_profile (es2019_profile o) (both_profile (es2018_profile o) (es2016_profile o)))))

-- and what they do after the program: of them that of ECMAScript 2020 alone does something
abbrev pub visit_ending : EnvOptions → Ending
visit_ending o = both_endings no_ending (editions_ending o)

-- A program whose arrows are functions, where that is asked for, and else the same one.
pub record IsWalked (asked : Bool) (old : TraverseCtx TransformState) (x : Program) (new : TraverseCtx TransformState) (y : Program) : Type 0 where
  pub kept : asked ≡ true → KeptTree (moment_of old) (plain_program x) (moment_of new) (plain_program y)
  pub lowered : asked ≡ true → Seen (λ t u. ArrowsLowered (moment_of old) t (moment_of new) u) (plain_program x) (plain_program y)
  pub none : asked ≡ true → any_node is_arrow (plain_program y) ≡ false
  pub same : asked ≡ false → (y ≡ x) × (new ≡ old)

-- A program whose object rests are taken, where that is asked for, and else the same one.
pub record AreTaken (asked : Bool) (old : TraverseCtx TransformState) (x : Program) (new : TraverseCtx TransformState) (y : Program) : Type 0 where
  pub paid : asked ≡ true → PaidTree rest_owes (moment_of old) (plain_program x) (moment_of new) (plain_program y)
  pub taken : asked ≡ true → Seen (λ t u. WalkedProgram (profile_where true) (moment_of old) t (moment_of new) u) (plain_program x) (plain_program y)
  pub same : asked ≡ false → (y ≡ x) × (new ≡ old)
