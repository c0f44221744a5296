-- When two senses are alike, for a frame of es_runs: the same on the same cells, but for those of hidden names.
use Rattle.std.specs.Prelude.{◌≡◌, ℕ, zero, suc, Option, Bool, true, false, not, ◌&&◌, ◌||◌, List, [], ◌∷◌, codes, bytes_eq}
use Rattle.es_tree.specs.Words.{Text}
use Rattle.es_runs.specs.Machine.{Value, Values, M}
use Rattle.es_runs.specs.Core.{World, Reference}
use Rattle.es_runs.specs.Alike.{Frame, is_loose, Alike, Equal, SameTarget, Level, Like}
use Rattle.es_statement_runs.specs.Places.{Take, HelpersSeen}
use Rattle.es_statement_runs.specs.Scopes.{stack_cell, is_own_cell}
use Rattle.es_statement_runs.specs.Statements.{Clause}
use Rattle.es_statement_runs.specs.Statements.Clause.{when, default}
use Rattle.es_statement_runs.specs.Patterns.{Putter, Member, Element}
use Rattle.es_statement_runs.specs.Patterns.Member.{keyed, remaining}
use Rattle.es_statement_runs.specs.Patterns.Element.{elision, takes, takes_rest}
use Rattle.es_statement_runs.specs.Helpers.{Supply}
use Rattle.es_statement_runs.specs.Helpers.Supply.{no_helpers}
use Rattle.es_statement_runs.specs.Senses.{More, Sense, Portion}
use Rattle.es_statement_runs.specs.Senses.More.{nothing_more, literal_text, aims, heads, member_aims, rest_aims, defines, spreads, object_of, keys_of, maps, quasi, template_of, clause_of, handles, imports, begins, helper_call, stack_member}
use Rattle.es_statement_runs.specs.Senses.Portion.{gap, alone, rows}

-- neither hidden nor frozen
abbrev pub visible : Frame → Text → Bool
visible F x = not (F.hidden x || F.frozen x)

abbrev pub all_visible : Frame → List Text → Bool
all_visible F [] = true
all_visible F (x ∷ xs) = visible F x && all_visible F xs

-- a name whose cell both programs read and set alike
pub record SeenAlike (F : Frame) (x : Text) : Type 0 where
  pub hidden : F.hidden x ≡ false
  pub frozen : F.frozen x ≡ false
  pub loose : is_loose F x ≡ false

-- The machine's own cells are seen, but perhaps for the innermost stack; and so is the name `Math`, by which a member may be
-- `Math.pow`.
pub record Quiet (F : Frame) : Type 0 where
  pub own_seen : (x : Text) → is_own_cell x ≡ true → bytes_eq x stack_cell ≡ false → SeenAlike F x
  pub math : F.hidden (codes "Math") ≡ false

abbrev pub StackSeen : Frame → Type 0
StackSeen F = SeenAlike F stack_cell

pub data ClauseLike (F : Frame) : Clause → Clause → Type 0 where
  like_when : {t u m k : M Value} → Alike F Equal t u → Alike F Equal m k → ClauseLike F (when t m) (when u k)
  like_default : {m k : M Value} → Alike F Equal m k → ClauseLike F (default m) (default k)

pub data ClausesLike (F : Frame) : List Clause → List Clause → Type 0 where
  no_clause : ClausesLike F [] []
  clause_and : {c d : Clause} {cs ds : List Clause} → ClauseLike F c d → ClausesLike F cs ds → ClausesLike F (c ∷ cs) (d ∷ ds)

abbrev pub PutterLike : Frame → Putter → Putter → Type 0
PutterLike F f g = (v : Value) → Alike F Equal (f v) (g v)

pub data MemberLike (F : Frame) : Member → Member → Type 0 where
  like_keyed : {f g : Putter} → PutterLike F f g → MemberLike F (keyed f) (keyed g)
  like_remaining : {m k : M Putter} → Alike F (PutterLike F) m k → MemberLike F (remaining m) (remaining k)

pub data MembersLike (F : Frame) : List Member → List Member → Type 0 where
  no_member : MembersLike F [] []
  member_and : {c d : Member} {cs ds : List Member} → MemberLike F c d → MembersLike F cs ds → MembersLike F (c ∷ cs) (d ∷ ds)

pub data ElementLike (F : Frame) : Element → Element → Type 0 where
  like_elision : ElementLike F elision elision
  like_takes : {m k : M Putter} → Alike F (PutterLike F) m k → ElementLike F (takes m) (takes k)
  like_takes_rest : {m k : M Putter} → Alike F (PutterLike F) m k → ElementLike F (takes_rest m) (takes_rest k)

pub data ElementsLike (F : Frame) : List Element → List Element → Type 0 where
  no_element : ElementsLike F [] []
  element_and : {c d : Element} {cs ds : List Element} → ElementLike F c d → ElementsLike F cs ds → ElementsLike F (c ∷ cs) (d ∷ ds)

pub data DefinitionsLike (F : Frame) : List (M Value) → List (M Value) → Type 0 where
  no_definition : DefinitionsLike F [] []
  definition_and : {m k : M Value} {ms ks : List (M Value)} → Alike F Equal m k → DefinitionsLike F ms ks → DefinitionsLike F (m ∷ ms) (k ∷ ks)

-- what nodes say beside their meanings
pub data MoreLike (F : Frame) : More → More → Type 0 where
  same_nothing : MoreLike F nothing_more nothing_more
  same_literal : {t : Text} → MoreLike F (literal_text t) (literal_text t)
  same_aims : {m k : M Putter} → Alike F (PutterLike F) m k → MoreLike F (aims m) (aims k)
  same_heads : {m k : M Putter} → Alike F (PutterLike F) m k → MoreLike F (heads m) (heads k)
  same_member : {f g : Putter} → PutterLike F f g → MoreLike F (member_aims f) (member_aims g)
  same_rest : {m k : M Putter} → Alike F (PutterLike F) m k → MoreLike F (rest_aims m) (rest_aims k)
  same_defines : {m k : M Value} → Alike F Equal m k → MoreLike F (defines m) (defines k)
  same_spreads : {m k : M Value} → Alike F Equal m k → MoreLike F (spreads m) (spreads k)
  same_object : {b : Bool} {m k : M Values} → Alike F Equal m k → MoreLike F (object_of b m) (object_of b k)
  same_keys : {m k : M Values} → Alike F Equal m k → MoreLike F (keys_of m) (keys_of k)
  same_maps : {m k : M Values} → Alike F Equal m k → MoreLike F (maps m) (maps k)
  same_quasi : {t : Text} {c : Option Text} → MoreLike F (quasi t c) (quasi t c)
  same_template : {us vs : Values} {c : Option Text} {m k : M Values} → Alike F Equal m k → MoreLike F (template_of us vs c m) (template_of us vs c k)
  same_clause : {c d : Clause} → ClauseLike F c d → MoreLike F (clause_of c) (clause_of d)
  same_handles : {f g : Putter} → PutterLike F f g → MoreLike F (handles f) (handles g)
  same_imports : {x y : Text} → F.hidden y ≡ false → F.frozen y ≡ false → MoreLike F (imports x y) (imports x y)
  same_begins : {m k : M Value} → Alike F Equal m k → MoreLike F (begins m) (begins k)
  same_helper : {h : Text} → MoreLike F (helper_call h) (helper_call h)
  same_stack_member : {x : Text} {m k : M Reference} → Alike F (SameTarget F) m k → MoreLike F (stack_member x m) (stack_member x k)

pub record SenseLike (F : Frame) (w v : World) (t : Take) (e d : Sense) : Type 0 where
  pub core : Like F w v t.need e.core d.core
  pub more : t.more ≡ true → MoreLike F e.more d.more

pub data SensesLike (F : Frame) (w v : World) (t : Take) : List Sense → List Sense → Type 0 where
  no_sense : SensesLike F w v t [] []
  sense_and : {e d : Sense} {es ds : List Sense} → SenseLike F w v t e d → SensesLike F w v t es ds → SensesLike F w v t (e ∷ es) (d ∷ ds)

pub data PortionLike (F : Frame) (w v : World) (t : Take) : Portion → Portion → Type 0 where
  gap_like : PortionLike F w v t gap gap
  alone_like : {e d : Sense} → SenseLike F w v t e d → PortionLike F w v t (alone e) (alone d)
  rows_like : {es ds : List Sense} → SensesLike F w v t es ds → PortionLike F w v t (rows es) (rows ds)

pub data PortionsLike (F : Frame) : (ℕ → World) → (ℕ → World) → (ℕ → Take) → List Portion → List Portion → Type 0 where
  no_portion : {ws vs : ℕ → World} {c : ℕ → Take} → PortionsLike F ws vs c [] []
  one_portion : {ws vs : ℕ → World} {c : ℕ → Take} {x y : Portion} {xs ys : List Portion} → PortionLike F (ws zero) (vs zero) (c zero) x y → PortionsLike F (λ i. ws (suc i)) (λ i. vs (suc i)) (λ i. c (suc i)) xs ys → PortionsLike F ws vs c (x ∷ xs) (y ∷ ys)

-- and so are the names that aren't bad where they stand, which may stand for helpers
pub record AllSeen (F : Frame) (bad : Level → Text → Bool) : Type 0 where
  pub helpers : HelpersSeen F
  pub names : (n : Level) (x : Text) → bad n x ≡ false → F.hidden x ≡ false

abbrev pub Told : Frame → (Level → Text → Bool) → Supply → Type 0
Told F bad no_helpers = Unit {0}
Told F bad _ = AllSeen F bad
