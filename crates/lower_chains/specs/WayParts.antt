-- The parts of the marked steps of a spine: tests, what is stored, and receivers.
use Rattle.std.specs.Prelude.{◌≡◌, ℕ, ◌+◌, ◌*◌, Bool, true, false, Option, Some, None, List, [], ◌∷◌, ◌++◌, length, map}
use Rattle.es_tree.specs.Fresh.{node_base}
use Rattle.es_tree.specs.Tree.{Tree, node, Label, done, ◌then◌, one, Trees, ◌before◌, tree_size}
use Rattle.es_tree.specs.Words.{Text}
use Rattle.es_tree.specs.declared.ast_type.AstType.TheVariants.{MemberExpression}
use Rattle.es_resolution.specs.Declarations.{Bound}
use Rattle.es_resolution.specs.Seen.{seen}
use Rattle.es_runs.specs.OptionalChaining.{call_at, is_this_or_super, member_at, null_checks, this_node}
use Rattle.es_runs.specs.Rules.{assign_node}
use Rattle.es_steps.specs.Duplication.{IsNext}
use Rattle.es_steps.specs.Nodes.{identifier}
use Rattle.es_steps.specs.OptionalChaining.{Receives, call_method}
use Rattle.es_steps.specs.Rules.{with_made}
use Rattle.es_steps.specs.Steps.{Whole}
use Rattle.es_scope.specs.ContextSymbols.{steady_symbols_of}
use Rattle.lower_temporaries.specs.SeenTrees.{IsSeenAs}
use Rattle.lower_temporaries.specs.Takings.{Takes, moment_of}
use Rattle.lower_temporaries.specs.Temporaries.{bound_of}
use Rattle.lower_temporaries.specs.declared.temporaries.Temporary.{Temporary}
use Rattle.lower_chains.specs.Ways.{Ctx, Names, held, to_this, whole_of}
use Rattle.lower_chains.specs.declared.receivers.Receiver.{Receiver}
use Rattle.lower_chains.specs.declared.receivers.Receiver.TheVariants.{This, Again, Stored}
use Rattle.lower_chains.specs.declared.way.Way.{Way as CodeWay}

-- TEMPORARIES

-- a temporary whose name some reference writes, as it stands in its target
pub record IsOwn (ctx : Ctx) (t : Temporary) : Type 0 where
  pub target : IsSeenAs t.target (identifier (bound_of t))
  pub unsteady : steady_symbols_of ctx t.symbol_id.0 ≡ false

-- TESTS

-- how many nodes are made for the tests of what is evaluated and of a name that is read again
abbrev pub test_nodes : Bool → ℕ
test_nodes true = 2
test_nodes false = 6

-- What is current is assigned to the name that is held, or to a temporary where none is.
pub data TargetBy (w : Whole) (holder : Option Bound) (base : Text) : List Bound → ℕ → Bound → Type 0 where
  by_held : {x : Bound} → holder ≡ Some x → TargetBy w holder base [] 1 x
  by_fresh : {x : Bound} → holder ≡ None → IsNext w base x → TargetBy w holder base (x ∷ []) 3 x

pub record ChoosesTarget (old new : Ctx) (holder : Option Bound) (base : Text) (t : Temporary) : Type 0 where
  pub taken : List Bound
  pub ids : ℕ
  pub by : TargetBy (whole_of old) holder base taken ids (bound_of t)
  pub takes : Takes taken ids (moment_of old) (moment_of new)

-- RECEIVERS

-- the temporaries that are taken for the receiver of an object
abbrev pub names_for : Receiver → List Bound
names_for This = []
names_for Again = []
names_for (Stored t) = bound_of t ∷ []

-- what is written for the object
abbrev pub written_for : Receiver → Tree → Tree
written_for This o = o
written_for Again o = o
written_for (Stored t) o = assign_node (identifier (bound_of t)) o

-- what is read as the receiver
abbrev pub read_for : Receiver → Tree → Tree
read_for This o = this_node
read_for Again o = o
read_for (Stored t) o = identifier (bound_of t)

-- how many nodes are made for it, besides the declarator and the target of a temporary
abbrev pub nodes_for : Receiver → ℕ
nodes_for This = 1
nodes_for Again = 1
nodes_for (Stored t) = 2

-- an object that is read again is one node, and the target is that of the temporary
abbrev pub IsMeant : Receiver → Tree → Type 0
IsMeant This o = Unit {0}
IsMeant Again o = tree_size o ≡ 1
IsMeant (Stored t) o = IsSeenAs t.target (identifier (bound_of t))

-- It was chosen what is read as the receiver of an object.
pub record ChoosesReceiver (with_this : Bool) (old new : Ctx) (holder : Option Bound) (object : Tree) (r : Receiver) : Type 0 where
  pub receives : Receives (to_this with_this) (whole_of old) holder (names_for r) object (written_for r object) (read_for r object)
  pub takes : Takes (names_for r) (3 * length (names_for r)) (moment_of old) (moment_of new)

-- MEMBERS AS CALLEES

-- whether there is no test so far
abbrev pub has_none : List Tree → Bool
has_none [] = true
has_none (t ∷ ts) = false

-- the temporaries of a callee and of its receiver, in the order made
abbrev pub in_order : Bool → Bound → List Bound → List Bound
in_order true c xs = c ∷ xs
in_order false c xs = xs ++ c ∷ []

-- what is known of the whole where the callee's is made
abbrev pub known_at_callee : Bool → List Bound → Whole → Whole
known_at_callee true xs w = w
known_at_callee false xs w = with_made xs w

-- and where the receiver's is made
abbrev pub known_at_receiver : Bool → Bound → Whole → Whole
known_at_receiver true c w = with_made (c ∷ []) w
known_at_receiver false c w = w

-- what the callee's temporary is named after: the member as it stood, or as it was written
abbrev pub named_by : Bool → Tree → Tree → Tree
named_by true callee written = callee
named_by false callee written = written

-- A member without a mark was written over its object as it is written for a receiver.
pub record WritesMember (r : Receiver) (member written receiver : Tree) : Type 0 where
  pub k : Label
  pub computed : Bool
  pub object : Tree
  pub property : Tree
  pub member_is : member ≡ node MemberExpression k (one object then one property then done)
  pub flags : k.flags ≡ computed ∷ false ∷ []
  pub written_is : written ≡ member_at k computed (written_for r object) property
  pub receiver_is : receiver ≡ read_for r object

-- A callee that is a member was written with its receiver, and a temporary was made for it: first, or after the receiver.
pub record WritesCallee (callee_first : Bool) (old new : Ctx) (holder : Option Bound) (callee written receiver : Tree) (t : Temporary) : Type 0 where
  pub how : Receiver
  pub wrote : WritesMember how callee written receiver
  pub sized : tree_size (written_for how wrote.object) + tree_size (read_for how wrote.object) + 2 * length (names_for how) ≡ 3 * length (names_for how) + nodes_for how + tree_size wrote.object
  pub next : IsNext (known_at_callee callee_first (names_for how) (whole_of old)) (node_base (named_by callee_first callee written)) (bound_of t)
  pub receives : Receives is_this_or_super (known_at_receiver callee_first (bound_of t) (whole_of old)) holder (names_for how) wrote.object (written_for how wrote.object) (read_for how wrote.object)
  pub takes : Takes (in_order callee_first (bound_of t) (names_for how)) (3 + 3 * length (names_for how) + nodes_for how) (moment_of old) (moment_of new)

-- CALLS

-- A callee was stored in a temporary, tested, and called.
pub record CallsStored (names : Names) (no_all : Bool) (old new : Ctx) (l : Label) (arguments : Trees) (tests : List Tree) (callee : Tree) (way : CodeWay) : Type 0 where
  pub name : Bound
  pub next : IsNext (whole_of old) (node_base callee) name
  pub tests_are : map (seen names) way.tests.items ≡ tests ++ null_checks no_all (assign_node (identifier name) callee) (identifier name)
  pub current_is : seen names way.current ≡ call_at l (identifier name) arguments
  pub holder_is : held way.holder ≡ Some name
  pub takes : Takes (name ∷ []) (5 + test_nodes no_all) (moment_of old) (moment_of new)

-- The same of a member with its receiver.
pub record CallsMember (names : Names) (no_all callee_first : Bool) (old new : Ctx) (l : Label) (arguments : Trees) (tests : List Tree) (holder : Option Bound) (callee : Tree) (way : CodeWay) : Type 0 where
  pub k : Label
  pub computed : Bool
  pub object : Tree
  pub property : Tree
  pub written : Tree
  pub receiver : Tree
  pub name : Bound
  pub others : List Bound
  pub ids : ℕ
  pub member_is : callee ≡ node MemberExpression k (one object then one property then done)
  pub flags : k.flags ≡ computed ∷ false ∷ []
  pub next : IsNext (known_at_callee callee_first others (whole_of old)) (node_base (named_by callee_first callee (member_at k computed written property))) name
  pub receives : Receives is_this_or_super (known_at_receiver callee_first name (whole_of old)) holder others object written receiver
  pub tests_are : map (seen names) way.tests.items ≡ tests ++ null_checks no_all (assign_node (identifier name) (member_at k computed written property)) (identifier name)
  pub current_is : seen names way.current ≡ call_at l (call_method (identifier name)) (receiver before arguments)
  pub holder_is : held way.holder ≡ Some name
  pub takes : Takes (in_order callee_first name others) ids (moment_of old) (moment_of new)
  pub sized : tree_size written + tree_size receiver + 2 * length others + 7 + test_nodes no_all ≡ ids + tree_size object
