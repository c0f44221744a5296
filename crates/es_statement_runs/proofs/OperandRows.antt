-- The rows of es_runs over whatever operands, in statements, and their laws.
use Rattle.std.proofs.Common.{◌≡◌, ℕ, zero, suc, refl, List, [], ◌∷◌, ◌++◌, ap, ◌∙◌}
use Rattle.std.proofs.lemmas.Slice.Eq.{bytes_eq-Decides}
use Rattle.std.specs.Prelude.{Bool, true, false, not, ◌&&◌, ◌||◌, Option, Some, None, codes, bytes_eq, if◌then◌else◌}
use Rattle.es_statement_runs.proofs.Spreads.{not_not}
use Rattle.es_statement_runs.proofs.Everywhere.{both_left, both_right, not_so}
use Rattle.es_tree.specs.Words.{Text}
use Rattle.es_tree.specs.Names.{first_text as first}
use Rattle.es_tree.specs.Scopes.{Declared}
use Rattle.es_tree.specs.Tree.{Tree, node, Label, Trees, done, ◌then◌, one}
use Rattle.es_tree.specs.declared.ast_type.AstType.TheVariants.{AssignmentExpression}
use Rattle.es_runs.specs.Machine.{Value}
use Rattle.es_runs.specs.Core.{World, Binding, Meaning, is_free, meaning}
use Rattle.es_runs.specs.Core.Binding.{changeable}
use Rattle.es_runs.specs.Alike.{Frame, SameWorld, Level, Like, Need, bad_names, set_cells}
use Rattle.es_runs.specs.Exponentiation.{ExponentiationRule, assign_at, power_at, power_node}
use Rattle.es_runs.specs.Exponentiation.ExponentiationRule.{power, power_assignment}
use Rattle.es_runs.specs.LogicalAssignment.{LogicalAssignmentRule}
use Rattle.es_runs.specs.LogicalAssignment.LogicalAssignmentRule.{to_name, to_static_member, to_computed_member}
use Rattle.es_runs.specs.OptionalChaining.{where_short, has_tests, true_node, delete_node}
use Rattle.es_runs.specs.OptionalChaining.OptionalChainingRule.{by_tests, as_callee, in_delete}
use Rattle.es_runs.specs.Rules.{in_place_of, void_zero_node}
use Rattle.es_runs.specs.Runs.{none_hidden, only, scope_of, binding_of, is_declared, program}
use Rattle.es_runs.proofs.Exponentiation.{exponentiation_like}
use Rattle.es_runs.proofs.LogicalAssignment.{logical_assignment_like}
use Rattle.es_runs.proofs.OptionalChaining.{optional_chaining_like}
use Rattle.es_runs.proofs.RowPlaces.{RowPlace}
use Rattle.es_statement_runs.specs.Alike.{Quiet, StackSeen, SenseLike}
use Rattle.es_statement_runs.specs.Alike.MoreLike.{same_nothing}
use Rattle.es_statement_runs.specs.Calls.{assignment_by, required_or}
use Rattle.es_statement_runs.specs.Helpers.Supply.{no_helpers}
use Rattle.es_statement_runs.specs.Kinds.{sense, found, kind_in}
use Rattle.es_statement_runs.specs.Laws.{LawChain, LawExponentiation, LawLogicalAssignment, RowOver, RowsKeepRuns, RowsOver, among_names, assigning, chaining, raising, vars_before}
use Rattle.es_statement_runs.specs.Laws.RowOver.{row_over}
use Rattle.es_statement_runs.specs.Names.{is_word, names_of_all, top_in}
use Rattle.es_statement_runs.specs.Places.{Take, all_good, quiet_at}
use Rattle.es_statement_runs.specs.Runs.{program_world}
use Rattle.es_statement_runs.specs.Scopes.{are_program_names, is_own_cell, stack_cell}
use Rattle.es_statement_runs.specs.Senses.{More, Sense, plain_sense}
use Rattle.es_statement_runs.specs.Senses.More.{aims, nothing_more, stack_member}
use Rattle.es_statement_runs.proofs.KindsAlike.{inner}
use Rattle.es_statement_runs.proofs.MeantProof.{entered_free, top_free}
use Rattle.es_statement_runs.proofs.MeantSenses.{HelperFree}
use Rattle.es_statement_runs.proofs.OperandMeanings.{back_same, there_same, told, tree_mirror}
use Rattle.es_statement_runs.proofs.OperandWorlds.{told_others}
use Rattle.es_statement_runs.proofs.Programs.{rows_run_where}
use Rattle.es_statement_runs.proofs.RowsStand.{assigning_stands, chaining_stands, raising_stands}
use Rattle.es_statement_runs.specs.Operands.{is_settled, stands_over}
use Rattle.es_statement_runs.proofs.ScopedRows.{scoped_like}
use Rattle.es_statement_runs.proofs.Through.{like_through}
use Rattle.es_statement_runs.proofs.TopVars.{temporaries_apart, vars_scope, vars_start, vars_world}

-- WHAT THE NODES SAY

-- both nodes say nothing beside their meanings
pub record SayNothing (a b : Tree) : Type 0 where
  pub first_says : (w : World) (ls : List Text) (x : Text) → (sense (quiet_at w ls x) a).more ≡ nothing_more
  pub second_says : (w : World) (ls : List Text) (x : Text) → (sense (quiet_at w ls x) b).more ≡ nothing_more

either_says : (b : Bool) (e d : Sense) → e.more ≡ nothing_more → d.more ≡ nothing_more → (if b then e else d).more ≡ nothing_more
either_says true e d h g = h
either_says false e d h g = g

assignment_says : (w : World) (op : Text) (l : More) (e : Sense) (m : Meaning) → (assignment_by w op l e m).more ≡ nothing_more
assignment_says w op (aims t) e m = either_says (is_word (codes "=") op) _ _ refl refl
assignment_says w op (stack_member y t) e m = either_says (is_word (codes "=") op) _ _ refl refl
assignment_says w op _ e m = refl

assigns_says : (m : Label) (t r : Tree) (w : World) (ls : List Text) (x : Text) → (sense (quiet_at w ls x) (node AssignmentExpression m (one t then (one r then done)))).more ≡ nothing_more
assigns_says m t r w ls x = assignment_says w (first m.texts) _ _ _

short_says : (m : Label) (ts : List Tree) (short long : Tree) → has_tests ts ≡ true → (w : World) (ls : List Text) (x : Text) → (sense (quiet_at w ls x) (where_short m ts short long)).more ≡ nothing_more
short_says m [] short long h w ls x = absurd (cc h)
short_says m (t ∷ ts) short long h w ls x = refl

required_says : (b : Bool) (m : Meaning) → (required_or (if b then None else None) (plain_sense m)).more ≡ nothing_more
required_says true m = refl
required_says false m = refl

power_says : (m : Label) (l r : Tree) (w : World) (ls : List Text) (x : Text) → (sense (quiet_at w ls x) (power_at m l r)).more ≡ nothing_more
power_says m l r w ls x = required_says _ _

chaining_says : {no_all : Bool} {bound steady in_use : Text → Bool} {xs : List Text} {n : Need} {a b : Tree} → chaining no_all bound steady in_use xs n a b → SayNothing a b
chaining_says (by_tests {m = m} {w = way} e k h, tidy) = record { first_says = λ w ls x. refl; second_says = short_says m way.tests void_zero_node way.current h }
chaining_says (as_callee {m = m} {d = d} {w = way} e k h r, tidy) = record { first_says = λ w ls x. refl; second_says = short_says m way.tests void_zero_node d h }
chaining_says (in_delete {m = m} {w = way} e i k h, tidy) = record { first_says = λ w ls x. refl; second_says = short_says m way.tests true_node (delete_node way.current) h }

assigning_says : {steady in_use : Text → Bool} {xs : List Text} {n : Need} {a b : Tree} → LogicalAssignmentRule steady in_use xs n a b → SayNothing a b
assigning_says (to_name {m = m} {t = t} {r = r} texts op target) = record { first_says = assigns_says m t r; second_says = λ w ls x. refl }
assigning_says (to_static_member {m = m} {t = t} {r = r} texts op target flags object) = record { first_says = assigns_says m t r; second_says = λ w ls x. refl }
assigning_says (to_computed_member {m = m} {t = t} {r = r} texts op target flags object key) = record { first_says = assigns_says m t r; second_says = λ w ls x. refl }

raised_says : (m : Label) (fs : List Tree) (target read r : Tree) (w : World) (ls : List Text) (x : Text) → (sense (quiet_at w ls x) (Rattle.es_runs.specs.Exponentiation.assigned_power m fs target read r)).more ≡ nothing_more
raised_says m [] target read r w ls x = assigns_says (record (in_place_of m) { texts = Some (codes "=") ∷ [] }) target (power_node read r) w ls x
raised_says m (f ∷ fs) target read r w ls x = refl

raising_says : {bound in_use : Text → Bool} {xs : List Text} {n : Need} {a b : Tree} → ExponentiationRule bound in_use xs n a b → SayNothing a b
raising_says (power {m = m} {l = l} {r = r} texts left right) = record { first_says = λ w ls x. refl; second_says = power_says m l r }
raising_says (power_assignment {m = m} {t = t} {r = r} {target = target} {read = read} {fs = fs} texts right twice) = record { first_says = assigns_says m t r; second_says = raised_says m fs target read r }

-- SCOPES

-- a scope that declares good names declares none that is bad as a target
module _ (xs : List Text) (others : Text → Bool) where
  unseen_step : (y z kind : Text) → (among_names xs y || others y) ≡ true → (rest : Option Text) (good b : Bool) → bytes_eq y z ≡ b → (not (among_names xs z || others z) && good) ≡ true → (good ≡ true → rest ≡ None) → (if b then Some kind else rest) ≡ None
  unseen_step y z kind e rest good true i h g =
      let k : y ≡ z = (bytes_eq-Decides y z).0 i in
      let m : (among_names xs y || others y) ≡ (among_names xs z || others z) = ap (λ u. among_names xs u || others u) k in
      let n : (among_names xs z || others z) ≡ false = not_so _ (both_left (not (among_names xs z || others z)) good h) in
      absurd (cc (e, m, n))
  unseen_step y z kind e rest good false i h g = g (both_right (not (among_names xs z || others z)) good h)

  unseen : (ds : List Declared) → all_good (bad_names (among_names xs) others) (names_of_all ds) ≡ true → (y : Text) → (among_names xs y || others y) ≡ true → kind_in ds y ≡ None
  unseen [] h y e = refl
  unseen (d ∷ ds) h y e = unseen_step y d.name d.kind e (kind_in ds y) (all_good (bad_names (among_names xs) others) (names_of_all ds)) (bytes_eq y d.name) refl h (λ g. unseen ds g y e)

-- ONE ROW

-- what is known where rows act: whether the worlds count `document.all`, the temporaries are changeable names of the second, the names that scopes around
-- declare are bound, none stands for a helper, and what the rows ask of the scope
pub record Known (no_all : Bool) (xs : List Text) (Asks : (Text → Binding) → Type 0) (ds : List Declared) (w v : World) : Type 0 where
  pub counts : w.counts_all ≡ not no_all
  pub cells : (x : Text) → among_names xs x ≡ true → v.scope x ≡ changeable
  pub binds : (y : Text) → is_declared ds y ≡ true → is_free (w.scope y) ≡ false
  pub free : HelperFree w
  pub free_after : HelperFree v
  pub asked : Asks w.scope

-- a rule whose two nodes are alike in the core, where what isn't core is
pub record IsKept (no_all : Bool) (R : (bound steady in_use : Text → Bool) → List Text → Need → Tree → Tree → Type 0) (Asks : (Text → Binding) → Type 0) : Type 0 where
  pub like : (bound steady in_use : Text → Bool) (xs : List Text) (w v : World) (n : Need) (a b : Tree) → Asks w.scope → w.counts_all ≡ not no_all → RowPlace bound steady w v xs n a → R bound steady in_use xs n a b → Like (set_cells (among_names xs)) w v n (meaning w a) (meaning v b)
  pub says : (bound steady in_use : Text → Bool) (xs : List Text) (n : Need) (a b : Tree) → R bound steady in_use xs n a b → SayNothing a b
  pub stands : (bound steady in_use : Text → Bool) (xs : List Text) (n : Need) (a b : Tree) → R bound steady in_use xs n a b → (good : Tree → Bool) → stands_over good a ≡ true → stands_over good b ≡ true

module _ (no_all : Bool) (R : (bound steady in_use : Text → Bool) → List Text → Need → Tree → Tree → Type 0) (Asks : (Text → Binding) → Type 0) (kept : IsKept no_all R Asks) (xs : List Text) (math : among_names xs (codes "Math") ≡ false) (program_names : are_program_names xs ≡ true) where
  steady_apart : (steady : Text → Bool) → ((y : Text) → steady y ≡ true → is_own_cell y ≡ false) → (y : Text) → is_own_cell y ≡ true → (among_names xs y ≡ false) × (steady y ≡ false)
  steady_apart steady own y e = (temporaries_apart xs program_names y e, at (steady y) refl)
    where
      at : (b : Bool) → steady y ≡ b → b ≡ false
      at true h = let k = own y h in absurd (cc (k, e))
      at false h = refl

  -- the row, at any place of any supply of names
  pub over_like : (ds : List Declared) (t : Take) (a b : Tree) → RowOver R xs ds t a b → (w v : World) → SameWorld (among_names xs) w v → Known no_all xs Asks ds w v → (ls : List Text) (x : Text) →
      SenseLike (set_cells (among_names xs)) w v t (sense (quiet_at w ls x) a) (sense (quiet_at v ls x) b)
  over_like ds t a b (row_over bound steady in_use rule declared within own stands formed untouched) w v same k ls x =
      let bad : Level → Text → Bool = bad_names (among_names xs) steady in
      let place : RowPlace bound steady (told bad w) (told bad v) xs t.need a = record {
        same = record { scope = same.scope; this = same.this; counts = same.counts };
        others = told_others (among_names xs) steady math (steady_apart steady own) w v same k.free_after;
        math = math;
        cells = k.cells;
        binds = λ y e. k.binds y (declared y e);
        steady_bound = within;
        placed = formed;
        untouched = untouched;
      } in
      let says = kept.says bound steady in_use xs t.need a b rule in
      record {
        core = like_through (set_cells (among_names xs)) w (told bad w) (told bad v) v (there_same bad w) (back_same bad v) _ _ _ _ (tree_mirror bad w a stands ls x).there (tree_mirror bad v b (kept.stands bound steady in_use xs t.need a b rule (is_settled bad) stands) ls x).back t.need
            (kept.like bound steady in_use xs (told bad w) (told bad v) t.need a b k.asked k.counts place rule);
        more = λ _. rw (says.first_says w ls x, says.second_says v ls x) same_nothing;
      }

  module _ (others : Text → Bool) (asks_kept : (w : World) (ds : List Declared) → all_good (bad_names (among_names xs) others) (names_of_all ds) ≡ true → Asks w.scope → Asks (inner w ds).scope) where
    abbrev bad_here : Level → Text → Bool
    bad_here = bad_names (among_names xs) others

    hidden_bad : (y : Text) → among_names xs y ≡ true → (among_names xs y || others y) ≡ true
    hidden_bad y e = rw e refl

    bound_by : (b : Bool) → is_free (if b then Binding.constant else Binding.changeable) ≡ false
    bound_by true = refl
    bound_by false = refl

    still_bound : (c : Option Text) (y : Text) (f : Text → Binding) → is_free (f y) ≡ false → is_free (found c y f y) ≡ false
    still_bound None y f h = h
    still_bound (Some kind) y f h = bound_by (bytes_eq kind (codes "const"))

    entered_bound : (es ds : List Declared) (y : Text) (f : Text → Binding) → (is_declared ds y ≡ true → is_free (f y) ≡ false) → is_declared (es ++ ds) y ≡ true → is_free (found (kind_in es y) y f y) ≡ false
    entered_bound [] ds y f h g = h g
    entered_bound (e ∷ es) ds y f h g = at (bytes_eq y e.name) g (entered_bound es ds y f h)
      where
        at : (b : Bool) → not (is_free (if b then binding_of e.kind else scope_of (es ++ ds) y)) ≡ true → (is_declared (es ++ ds) y ≡ true → is_free (found (kind_in es y) y f y) ≡ false) → is_free (found (if b then Some e.kind else kind_in es y) y f y) ≡ false
        at true i k = bound_by (bytes_eq e.kind (codes "const"))
        at false i k = k i

    kept_known : (es ds : List Declared) → all_good bad_here (names_of_all ds) ≡ true → (w v : World) → Known no_all xs Asks es w v → Known no_all xs Asks es (inner w ds) (inner v ds)
    kept_known es ds h w v k = record {
      counts = k.counts;
      cells = λ y e. ap (λ (c : Option Text). found c y v.scope y) (unseen xs others ds h y (hidden_bad y e)) ∙ k.cells y e;
      binds = λ y e. still_bound (kind_in ds y) y w.scope (k.binds y e);
      free = entered_free no_helpers ds w [] [] k.free;
      free_after = entered_free no_helpers ds v [] [] k.free_after;
      asked = asks_kept w ds h k.asked;
    }

    known_entered : (es ds : List Declared) → all_good bad_here (names_of_all es) ≡ true → (w v : World) → Known no_all xs Asks ds w v → Known no_all xs Asks (es ++ ds) (inner w es) (inner v es)
    known_entered es ds h w v k = record {
      counts = k.counts;
      cells = λ y e. ap (λ (c : Option Text). found c y v.scope y) (unseen xs others es h y (hidden_bad y e)) ∙ k.cells y e;
      binds = λ y e. entered_bound es ds y w.scope (k.binds y) e;
      free = entered_free no_helpers es w [] [] k.free;
      free_after = entered_free no_helpers es v [] [] k.free_after;
      asked = asks_kept w es h k.asked;
    }

    abbrev F : Frame
    F = set_cells (among_names xs)

    quiet : Quiet F
    quiet = record { own_seen = λ y e i. record { hidden = temporaries_apart xs program_names y e; frozen = refl; loose = refl }; math = math }

    stack : StackSeen F
    stack = record { hidden = temporaries_apart xs program_names stack_cell refl; frozen = refl; loose = refl }

    or_first : (a b : Bool) → (a || b) ≡ false → a ≡ false
    or_first true b h = h
    or_first false b h = refl

    none_too : (a : Bool) → a ≡ false → (a || false) ≡ false
    none_too true h = h
    none_too false h = refl

    below : (n : Level) (x : Text) → bad_here n x ≡ false → bad_names F.hidden F.frozen n x ≡ false
    below Level.a_target x h = none_too (among_names xs x) (or_first (among_names xs x) (others x) h)
    below Level.no_evaluation x h = h
    below Level.value_alone x h = h
    below Level.an_operand_of_typeof x h = h
    below Level.whole_reference x h = h
    below Level.a_callee x h = h

    -- where scopes around declare names too
    pub rows_like : (n : ℕ) (ds : List Declared) (t : Take) (a b : Tree) → RowsOver bad_here R xs n ds t a b → (w v : World) → SameWorld (among_names xs) w v → Known no_all xs Asks ds w v → (ls : List Text) (x : Text) →
        SenseLike F w v t (sense (quiet_at w ls x) a) (sense (quiet_at v ls x) b)
    rows_like zero ds t a b row w v same k ls x = over_like ds t a b row w v same k ls x
    rows_like (suc n) ds t a b row w v same k ls x = scoped_like F quiet stack bad_here below no_helpers tt (Known no_all xs Asks) kept_known known_entered (RowsOver bad_here R xs n) (rows_like n) ds t a b row w v same k ls x

    pub keep_runs : (n : ℕ) (l : Label) (ds body after : Trees) → Rattle.es_statement_runs.specs.Places.CloseTrees bad_here (RowsOver bad_here R xs n (top_in body)) Rattle.es_statement_runs.specs.Laws.body_needs body after → top_in after ≡ top_in body → Rattle.es_statement_runs.specs.Names.using_in after ≡ Rattle.es_statement_runs.specs.Names.using_in body →
        ((y : Text) → is_declared (top_in body) y ≡ true → among_names xs y ≡ false) → ((this : Value) → Asks (scope_of (top_in body))) → Rattle.es_statement_runs.specs.Runs.RunAlike no_helpers no_all (program l ds body) (program l ds (vars_before xs after))
    keep_runs n l ds body after rows tops uses apart asked =
        rows_run_where F quiet stack bad_here below no_helpers l ds body after xs tt (Known no_all xs Asks (top_in body)) (kept_known (top_in body)) (RowsOver bad_here R xs n (top_in body)) (rows_like n (top_in body)) rows uses no_all
        (vars_world xs body after tops (not no_all))
        (λ this. record {
          counts = refl;
          cells = λ y e. vars_scope xs after y ∙ (rw e refl);
          binds = λ y e. not_so (is_free (scope_of (top_in body) y)) e;
          free = top_free (not no_all) no_helpers (program l ds body) this refl;
          free_after = top_free (not no_all) no_helpers (program l ds (vars_before xs after)) this refl;
          asked = asked this;
        })
        (vars_start xs body after tops) apart

-- THE RULES

abbrev pub nothing_asked : (Text → Binding) → Type 0
nothing_asked scope = Unit {0}

pub chaining_kept : (no_all : Bool) → IsKept no_all (chaining no_all) nothing_asked
chaining_kept no_all = record {
  like = λ bound steady in_use xs w v n a b asked counts place rule. optional_chaining_like no_all bound steady in_use xs w v n a b counts place rule;
  says = λ bound steady in_use xs n a b rule. chaining_says rule;
  stands = λ bound steady in_use xs n a b rule good h. chaining_stands good rule.0 h;
}

pub assigning_kept : (no_all : Bool) → IsKept no_all assigning nothing_asked
assigning_kept no_all = record {
  like = λ bound steady in_use xs w v n a b asked counts place rule. logical_assignment_like bound steady in_use xs w v n a b place rule;
  says = λ bound steady in_use xs n a b rule. assigning_says rule;
  stands = λ bound steady in_use xs n a b rule good h. assigning_stands good rule h;
}

abbrev pub math_free : (Text → Binding) → Type 0
math_free scope = is_free (scope (codes "Math")) ≡ true

pub raising_kept : (no_all : Bool) → IsKept no_all raising math_free
raising_kept no_all = record {
  like = λ bound steady in_use xs w v n a b asked counts place rule. exponentiation_like in_use w v asked n a b place rule.1 rule.0;
  says = λ bound steady in_use xs n a b rule. raising_says rule.0;
  stands = λ bound steady in_use xs n a b rule good h. raising_stands good rule.0 h;
}

math_bad : (b : Bool) → (b || only (codes "Math") (codes "Math")) ≡ true
math_bad true = refl
math_bad false = refl

math_kept : (xs : List Text) (w : World) (ds : List Declared) → all_good (bad_names (among_names xs) (only (codes "Math"))) (names_of_all ds) ≡ true → math_free w.scope → math_free (inner w ds).scope
math_kept xs w ds h k = ap (λ (c : Option Text). is_free (found c (codes "Math") w.scope (codes "Math"))) (unseen xs (only (codes "Math")) ds h (codes "Math") (math_bad (among_names xs (codes "Math")))) ∙ k

-- THE LAWS

pub law_chain_proof : LawChain
law_chain_proof no_all xs n l ds body after rows tops uses math names apart others = keep_runs no_all (chaining no_all) nothing_asked (chaining_kept no_all) xs math names none_hidden (λ w ds h k. tt) n l ds body after rows tops uses apart (λ this. tt)

pub law_logical_assignment_proof : LawLogicalAssignment
law_logical_assignment_proof xs n l ds body after rows tops uses math names apart others = keep_runs false assigning nothing_asked (assigning_kept false) xs math names none_hidden (λ w ds h k. tt) n l ds body after rows tops uses apart (λ this. tt)

pub law_exponentiation_proof : LawExponentiation
law_exponentiation_proof xs n l ds body after rows tops uses math names apart others =
    keep_runs false raising math_free (raising_kept false) xs math names (only (codes "Math")) (math_kept xs) n l ds body after rows tops uses apart (λ this. not_not (is_free (scope_of (top_in body) (codes "Math"))) (others (codes "Math") refl))
