-- What is made of a way: the choice between what a chain is where it is cut short and the rest of its spine.
use Rattle.std.specs.Prelude.{◌≡◌, ◌+◌, ◌<◌, length, map}
use Rattle.es_tree.specs.Tree.{Tree}
use Rattle.es_tree.specs.declared.ids.Span.{Span}
use Rattle.es_resolution.specs.Seen.{seen}
use Rattle.es_runs.specs.OptionalChaining.{delete_node, true_node, where_short}
use Rattle.es_runs.specs.Rules.{void_zero_node}
use Rattle.lower_temporaries.specs.Shapes.{at_span}
use Rattle.lower_temporaries.specs.Takings.{ReadsMore}
use Rattle.lower_chains.specs.Ways.{BindsTo, Ctx, Names, held}
use Rattle.lower_chains.specs.declared.way.Way.{Way as CodeWay}

-- With this span it is chosen between `short` and `long` by the way's tests, of which there are some.
pub record Chooses (names : Names) (span : Span) (way : CodeWay) (short long made_of : Tree) : Type 0 where
  pub some : 0 < length way.tests.items
  pub choice : made_of ≡ where_short (at_span span) (map (seen names) way.tests.items) short long

-- between undefined and what is current
pub record ChoosesValue (names : Names) (span : Span) (way : CodeWay) (old new : Ctx) (u : Tree) : Type 0 where
  pub chooses : Chooses names span way void_zero_node (seen names way.current) u
  pub reads : ReadsMore (length way.tests.items + 2) old new

-- the same of `delete`
pub record ChoosesDeleted (names : Names) (span : Span) (way : CodeWay) (old new : Ctx) (u : Tree) : Type 0 where
  pub chooses : Chooses names span way true_node (delete_node (seen names way.current)) u
  pub reads : ReadsMore (length way.tests.items + 2) old new

-- and of a callee, after what is current was bound
pub record ChoosesCallee (names : Names) (span : Span) (way : CodeWay) (old new : Ctx) (u : Tree) : Type 0 where
  pub between : Ctx
  pub callee : Tree
  pub binds : BindsTo old between (held way.holder) (seen names way.current) callee
  pub chooses : Chooses names span way void_zero_node callee u
  pub reads : ReadsMore (length way.tests.items + 2) between new
