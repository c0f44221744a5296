-- When two evaluations are alike, but for the cells of hidden names.
use Rattle.std.specs.Prelude.{◌≡◌, ℕ, zero, suc, Bool, true, false, List, Option, if◌then◌else◌, ◌||◌, ◌&&◌}
use Rattle.es_tree.specs.Words.{Text}
use Rattle.es_tree.specs.declared.ast_type.AstType.{AstType}
use Rattle.es_tree.specs.Tree.{Tree, Fields, Field, Trees, Label}
use Rattle.es_tree.specs.declared.ast_type.AstType.TheVariants.{Identifier, UnaryExpression, UpdateExpression, BinaryExpression, AssignmentExpression, MemberExpression, CallExpression, ChainExpression, ParenthesizedExpression, VariableDeclarator, VariableDeclaration, ObjectProperty, PatternProperty, TargetProperty}
use Rattle.es_tree.specs.Tree.{node}
use Rattle.es_tree.specs.Tree.{done, ◌then◌}
use Rattle.es_tree.specs.Tree.{missing, one, many, statements}
use Rattle.es_tree.specs.Tree.{empty, ◌before◌}
use Rattle.es_runs.specs.Machine.Value.{undefined, bound}
use Rattle.es_runs.specs.Machine.Values.{none}
use Rattle.es_runs.specs.Core.Form.{other}
use Rattle.es_runs.specs.Core.Called.{called}
use Rattle.es_runs.specs.Machine.{Value, ◌>>=◌, Question, Move, Cell, State, Stop, Result, M, is_set}
use Rattle.es_runs.specs.Machine.State.{state}
use Rattle.es_runs.specs.Machine.Stop.{uncallable, faults}
use Rattle.es_runs.specs.Machine.Cell.{unset, holds}
use Rattle.es_runs.specs.Machine.Result.{gives, stops}
use Rattle.es_tree.specs.Names.{first_text as first, flag_at}
use Rattle.es_runs.specs.Core.{World, Reference, Meaning, value, flag, flag_after, is_equality, typeof_value, UnaryClass, unary_class, Called, callee_from}
use Rattle.es_runs.specs.Core.UnaryClass.{typeof_class, delete_class, void_class}
use Rattle.es_runs.specs.Core.Reference.{named, property, plain}

-- The names that only the second program has, with what is known of their cells, given the first one's cells;
-- the names that nothing writes, with what is known of theirs;
-- and whether the first program's faults count as outside. Where they do, the first program may set the loose names later
-- than the second: while they are unset there, their cells aren't compared.
-- What is known of a hidden name's cell depends on the first one's cells of hidden names alone.
pub record Frame : Type 1 where
  pub hidden : Text → Bool
  pub fits : (Text → Cell) → Text → Cell → Type 0
  pub frozen : Text → Bool
  pub keeps : Text → Cell → Type 0
  pub faults_outside : Bool
  pub loose : Text → Bool
  pub steady : (c e : Text → Cell) → ((y : Text) → hidden y ≡ true → e y ≡ c y) → (x : Text) → hidden x ≡ true → (d : Cell) → fits c x d → fits e x d

-- of the cells of these names it is known that they are set
abbrev pub set_cells : (Text → Bool) → Frame
set_cells hidden = record { hidden = hidden; fits = λ c x d. is_set d ≡ true; frozen = λ x. false; keeps = λ x d. Unit {0}; faults_outside = false; loose = λ x. false; steady = λ c e h x k d g. g }

-- or that they are these cells, and so for the names that nothing writes
abbrev pub kept_cells : (Text → Bool) → (Text → Bool) → (Text → Cell) → Frame
kept_cells hidden frozen d0 = record { hidden = hidden; fits = λ c x d. d ≡ d0 x; frozen = frozen; keeps = λ x d. d ≡ d0 x; faults_outside = false; loose = λ x. false; steady = λ c e h x k d g. g }

-- whether a name may be set later
abbrev pub is_loose : Frame → Text → Bool
is_loose F x = F.faults_outside && F.loose x

-- the second cell is the first, where that is set or the name can't be set later
abbrev pub CellSeen : Bool → Cell → Cell → Type 0
CellSeen false c d = d ≡ c
CellSeen true unset d = Unit {0}
CellSeen true (holds v) d = d ≡ holds v

-- the states agree on the moves, the questions, and the cells of all names that aren't hidden; the second one's hidden cells fit
pub data Agree (F : Frame) : State → State → Type 0 where
  agree : {c d : Text → Cell} {ms : List Move} {qs : List Question} → ((x : Text) → F.hidden x ≡ false → CellSeen (is_loose F x) (c x) (d x)) → ((x : Text) → F.hidden x ≡ true → F.fits c x (d x)) → ((x : Text) → F.frozen x ≡ true → F.keeps x (d x)) → Agree F (state c ms qs) (state d ms qs)

-- the same results, up to R, in states that agree; or the first one is outside: it calls what isn't callable or, where that
-- counts, faults
pub data Same (F : Frame) {A B : Type 0} (R : A → B → Type 0) : Result A → Result B → Type 0 where
  both_give : {a : A} {b : B} {s t : State} → R a b → Agree F s t → Same F R (gives a s) (gives b t)
  both_stop : {w : Stop} {s t : State} → Agree F s t → Same F R (stops w s) (stops w t)
  outside : {s : State} {r : Result B} → Same F R (stops uncallable s) r
  at_fault : {v : Value} {s : State} {r : Result B} → F.faults_outside ≡ true → Same F R (stops (faults v) s) r

abbrev pub Alike : (F : Frame) {A B : Type 0} → (A → B → Type 0) → M A → M B → Type 0
Alike F R m n = (s t : State) → Agree F s t → Same F R (m s) (n t)

pub data Equal {A : Type 0} : A → A → Type 0 where
  equal : {a : A} → Equal a a

-- the same reference, to a name that isn't hidden
pub data SameReference (F : Frame) : Reference → Reference → Type 0 where
  same_name : {x : Text} → F.hidden x ≡ false → SameReference F (named x) (named x)
  same_property : {o k : Value} → SameReference F (property o k) (property o k)
  same_plain : {v : Value} → SameReference F (plain v) (plain v)

-- the same target, a name that isn't hidden and may be written
pub data SameTarget (F : Frame) : Reference → Reference → Type 0 where
  target_name : {x : Text} → F.hidden x ≡ false → F.frozen x ≡ false → SameTarget F (named x) (named x)
  target_property : {o k : Value} → SameTarget F (property o k) (property o k)
  target_plain : {v : Value} → SameTarget F (plain v) (plain v)

pub record SameWorld (hidden : Text → Bool) (w v : World) : Type 0 where
  pub scope : (x : Text) → hidden x ≡ false → v.scope x ≡ w.scope x
  pub this : v.this ≡ w.this
  pub counts : v.counts_all ≡ w.counts_all

-- What a place takes of the node that stands there: no evaluation, its value, or its reference; and its form or not.
pub data Level : Type 0 where
  no_evaluation value_alone an_operand_of_typeof whole_reference a_callee a_target : Level

pub record Need : Type 0 where
  pub level : Level
  pub form : Bool

-- the same callee and receiver, or a bound callable of them
pub data SameCalled : Called → Called → Type 0 where
  same_called : {f r : Value} → SameCalled (called f r) (called f r)
  bound_called : {f r : Value} → SameCalled (called f r) (called (bound f r none) undefined)

pub data LikeCallee (F : Frame) (w v : World) (a b : Meaning) : Type 0 where
  by_reference : Alike F (SameReference F) a.reference b.reference → LikeCallee F w v a b
  by_call : a.form ≡ other → Alike F SameCalled (a.reference >>= callee_from w) (b.reference >>= callee_from v) → LikeCallee F w v a b

abbrev pub LikeAt : (F : Frame) → World → World → Level → Meaning → Meaning → Type 0
LikeAt F w v Level.no_evaluation a b = Unit {0}
LikeAt F w v Level.value_alone a b = Alike F Equal (value w a) (value v b)
LikeAt F w v Level.an_operand_of_typeof a b = Alike F Equal (a.reference >>= typeof_value w) (b.reference >>= typeof_value v)
LikeAt F w v Level.whole_reference a b = Alike F (SameReference F) a.reference b.reference
LikeAt F w v Level.a_callee a b = LikeCallee F w v a b
LikeAt F w v Level.a_target a b = Alike F (SameTarget F) a.reference b.reference

pub record Like (F : Frame) (w v : World) (need : Need) (a b : Meaning) : Type 0 where
  pub evaluation : LikeAt F w v need.level a b
  pub form : need.form ≡ true → b.form ≡ a.form

abbrev pub the_label : Need
the_label = record { level = Level.no_evaluation; form = true }

abbrev pub the_value : Need
the_value = record { level = Level.value_alone; form = false }

abbrev pub the_operand : Need
the_operand = record { level = Level.value_alone; form = true }

abbrev pub the_reference : Need
the_reference = record { level = Level.whole_reference; form = false }

abbrev pub the_operand_of_typeof : Need
the_operand_of_typeof = record { level = Level.an_operand_of_typeof; form = false }

abbrev pub the_target : Need
the_target = record { level = Level.a_target; form = true }

abbrev pub the_callee : Bool → Need
the_callee true = record { level = Level.whole_reference; form = true }
the_callee false = record { level = Level.a_callee; form = true }

abbrev pub all_of_it : Need
all_of_it = record { level = Level.whole_reference; form = true }

abbrev pub value_and_form : Bool → Need
value_and_form b = record { level = Level.value_alone; form = b }

-- What a member takes of its object: its value. A marked one tests it, as a marked call tests its callee; the chain that
-- ends in the member goes on with what stands there, so that no row of chains acts there.
abbrev pub object_level : Bool → Level
object_level true = Level.whole_reference
object_level false = Level.value_alone

abbrev pub object_need : Bool → Bool → Need
object_need form marked = record { level = object_level marked; form = form }

-- and of its key, which stands between brackets or not
abbrev pub key_need : Bool → Need
key_need true = the_value
key_need false = the_label

abbrev pub member_needs : Bool → Bool → Bool → ℕ → Need
member_needs form computed marked zero = object_need form marked
member_needs form computed marked (suc i) = key_need computed

abbrev pub unary_need : Bool → UnaryClass → Need
unary_need form typeof_class = the_operand_of_typeof
unary_need form delete_class = the_reference
unary_need form void_class = value_and_form form
unary_need form _ = the_value

abbrev pub binary_needs : Text → ℕ → Need
binary_needs op zero = the_value
binary_needs op (suc i) = value_and_form (is_equality op)

abbrev pub callee_then_values : Need → ℕ → Need
callee_then_values n zero = n
callee_then_values n (suc i) = the_value

-- a key that isn't computed is told, and not evaluated
abbrev pub key_then_value : Bool → ℕ → Need
key_then_value computed zero = key_need computed
key_then_value computed (suc i) = the_value

-- what a chain takes of its content: `typeof` of a chain takes the reference of what stands in it
abbrev pub content_level : Level → Level
content_level Level.an_operand_of_typeof = Level.whole_reference
content_level n = n

-- what a node takes of its field with this number, where its own place takes need of it
abbrev pub needs : Need → AstType → List (Option Text) → List Bool → ℕ → Need
needs need UnaryExpression ts fs i = unary_need need.form (unary_class (first ts))
needs need UpdateExpression ts fs i = the_target
needs need BinaryExpression ts fs i = binary_needs (first ts) i
needs need AssignmentExpression ts fs i = callee_then_values the_target i
needs need MemberExpression ts fs i = member_needs need.form (flag fs) (flag_after fs) i
needs need CallExpression ts fs i = callee_then_values (the_callee (flag fs)) i
needs need ChainExpression ts fs i = record { level = content_level need.level; form = false }
needs need ParenthesizedExpression ts fs i = record { level = need.level; form = false }
needs need VariableDeclarator ts fs i = callee_then_values the_target i
needs need VariableDeclaration ts fs i = record { level = Level.a_target; form = false }
needs need ObjectProperty ts fs i = key_then_value (flag_at 2 fs) i
needs need PatternProperty ts fs i = key_then_value (flag_at 1 fs) i
needs need TargetProperty ts fs i = key_then_value (flag_at 1 fs) i
needs need _ ts fs i = the_value

abbrev pub is_bad : (Level → Text → Bool) → Level → AstType → List (Option Text) → Bool
is_bad bad level Identifier ts = bad level (first ts)
is_bad bad level _ ts = false

-- whether a name stands in the tree that is bad at its place
abbrev mutual
  pub touches : (Level → Text → Bool) → Need → Tree → Bool
  touches bad need (node k l fs) = is_bad bad need.level k l.texts || touches_fields bad (needs need k l.texts l.flags) fs

  pub touches_fields : (Level → Text → Bool) → (ℕ → Need) → Fields → Bool
  touches_fields bad c done = false
  touches_fields bad c (f then fs) = touches_field bad (c zero) f || touches_fields bad (λ i. c (suc i)) fs

  pub touches_field : (Level → Text → Bool) → Need → Field → Bool
  touches_field bad need missing = false
  touches_field bad need (one n) = touches bad need n
  touches_field bad need (many ns) = touches_nodes bad need ns
  touches_field bad need (statements ns) = touches_nodes bad need ns

  pub touches_nodes : (Level → Text → Bool) → Need → Trees → Bool
  touches_nodes bad need empty = false
  touches_nodes bad need (n before ns) = touches bad need n || touches_nodes bad need ns

-- a hidden name is bad where it is evaluated, and a frozen one as a target
abbrev pub bad_names : (Text → Bool) → (Text → Bool) → Level → Text → Bool
bad_names hidden frozen Level.no_evaluation x = false
bad_names hidden frozen Level.value_alone x = hidden x
bad_names hidden frozen Level.an_operand_of_typeof x = hidden x
bad_names hidden frozen Level.whole_reference x = hidden x
bad_names hidden frozen Level.a_callee x = hidden x
bad_names hidden frozen Level.a_target x = hidden x || frozen x

-- The trees are the same but for ids, spans and marks, and but for places where R holds, at what the place takes.
mutual
  pub data Near (bad : Level → Text → Bool) (R : Need → Tree → Tree → Type 0) : Need → Tree → Tree → Type 0 where
    here : {n : Need} {a b : Tree} → R n a b → Near bad R n a b
    within : {n : Need} {k : AstType} {l m : Label} {fs gs : Fields} → is_bad bad n.level k l.texts ≡ false → m.texts ≡ l.texts → m.flags ≡ l.flags → NearFields bad R (needs n k l.texts l.flags) fs gs → Near bad R n (node k l fs) (node k m gs)

  pub data NearFields (bad : Level → Text → Bool) (R : Need → Tree → Tree → Type 0) : (ℕ → Need) → Fields → Fields → Type 0 where
    near_done : {c : ℕ → Need} → NearFields bad R c done done
    near_then : {c : ℕ → Need} {f g : Field} {fs gs : Fields} → NearField bad R (c zero) f g → NearFields bad R (λ i. c (suc i)) fs gs → NearFields bad R c (f then fs) (g then gs)

  pub data NearField (bad : Level → Text → Bool) (R : Need → Tree → Tree → Type 0) : Need → Field → Field → Type 0 where
    near_missing : {n : Need} → NearField bad R n missing missing
    near_one : {n : Need} {a b : Tree} → Near bad R n a b → NearField bad R n (one a) (one b)
    near_many : {n : Need} {xs ys : Trees} → NearNodes bad R n xs ys → NearField bad R n (many xs) (many ys)
    near_statements : {n : Need} {xs ys : Trees} → NearNodes bad R n xs ys → NearField bad R n (statements xs) (statements ys)

  pub data NearNodes (bad : Level → Text → Bool) (R : Need → Tree → Tree → Type 0) : Need → Trees → Trees → Type 0 where
    near_empty : {n : Need} → NearNodes bad R n empty empty
    near_before : {n : Need} {a b : Tree} {xs ys : Trees} → Near bad R n a b → NearNodes bad R n xs ys → NearNodes bad R n (a before xs) (b before ys)
