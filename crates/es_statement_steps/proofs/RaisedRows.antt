-- Exponentiation where a program gets no helper but that of object spread: `l ** r` and `t **= r`, and what they become, are alike, whatever the operands are.
use Rattle.std.proofs.Common.{◌≡◌, refl, sym, ap, subst, List, [], ◌∷◌, ◌++◌, ◌∙◌}
use Rattle.std.proofs.lemmas.Bool.{not-true}
use Rattle.std.specs.Prelude.{Bool, true, false, ◌&&◌, ◌||◌, Some, codes, if◌then◌else◌}
use Rattle.es_tree.specs.Names.{first_text}
use Rattle.es_tree.specs.Parens.{without_parens}
use Rattle.es_tree.specs.Scopes.{Declared}
use Rattle.es_tree.specs.Tree.{Tree, node, Label, done, ◌then◌, one, kind_of}
use Rattle.es_tree.specs.Walks.{all_nodes}
use Rattle.es_tree.specs.Words.{Text}
use Rattle.es_tree.specs.declared.ast_type.AstType.TheVariants.{AssignmentExpression, BinaryExpression}
use Rattle.es_runs.specs.Alike.{Alike, Equal, Frame, Level, SameWorld, bad_names, set_cells, Same}
use Rattle.es_runs.specs.Core.{Meaning, Reference, World, ask_pow, assign_class, assigned, assignment, get_value, gives_value, is_free, is_pattern, is_spread_kind, put_value, value}
use Rattle.es_runs.specs.Exponentiation.{ExponentiationRule, TargetTwice, assigned_power, is_classless, is_raisable, power_at, power_node}
use Rattle.es_runs.specs.Exponentiation.ExponentiationRule.{power, power_assignment}
use Rattle.es_runs.specs.Exponentiation.TargetTwice.{bound_name, literal_key, other_key, other_name, private_member, static_member}
use Rattle.es_runs.specs.Machine.{M, Result, State, Value, ◌>>=◌, ask, onward, return}
use Rattle.es_runs.specs.Machine.Question.{operator}
use Rattle.es_runs.specs.Machine.Result.{gives, stops}
use Rattle.es_runs.specs.Machine.Value.{undefined}
use Rattle.es_runs.specs.Machine.Values.{none, ◌and◌}
use Rattle.es_runs.specs.Rules.{assign_node, in_place_of}
use Rattle.es_runs.specs.Runs.{cells, made}
use Rattle.es_runs.specs.Standing.{undeclaring}
use Rattle.es_runs.proofs.Basic.{ask_alike, onward_same, put_alike, then_alike}
use Rattle.es_runs.proofs.Congruence.{plain_like}
use Rattle.es_runs.proofs.Duplicated.{kept_same, now_kept, now_set}
use Rattle.es_runs.proofs.ExponentiationTargets.{Arrived, SameArrived, onward_equal, reaches, reaches_by}
use Rattle.es_runs.proofs.ExponentiationTargets.Arrived.{arrived}
use Rattle.es_runs.proofs.ExponentiationTargets.SameArrived.{same_arrived}
use Rattle.es_runs.proofs.Fresh.{or_left, or_right}
use Rattle.es_runs.proofs.Named.{and_left, and_right}
use Rattle.es_runs.proofs.NullishCoalescingValues.{like_by_value}
use Rattle.es_runs.proofs.Stripped.{single_parens, stripped_pattern, undeclaring_single}
use Rattle.es_runs.proofs.Temporary.{onward_onward, plain_again}
use Rattle.es_runs.proofs.Written.{one_of}
use Rattle.es_statement_runs.specs.Alike.{Quiet, SenseLike, StackSeen}
use Rattle.es_statement_runs.specs.Alike.MoreLike.{same_nothing}
use Rattle.es_statement_runs.specs.Calls.{is_spread}
use Rattle.es_statement_runs.specs.Helpers.{Supply}
use Rattle.es_statement_runs.specs.Kinds.{sense}
use Rattle.es_statement_runs.specs.Laws.{among_names}
use Rattle.es_statement_runs.specs.Operands.{fields_over, stands_over}
use Rattle.es_statement_runs.specs.Places.{SupplySeen, Take, avoids, placed_at, target_taken, value_taken}
use Rattle.es_statement_runs.specs.Scopes.{is_own_cell}
use Rattle.es_statement_runs.specs.Senses.{Sense, plain_sense}
use Rattle.es_statement_runs.proofs.Everywhere.{both_left, both_right}
use Rattle.es_statement_steps.proofs.KeptParts.{value-kept}
use Rattle.es_statement_steps.proofs.PlainSupplies.{assignment-plain, core, is_core_supply, is_core_target, other-assignment, stripped-sense}
use Rattle.es_statement_steps.proofs.RaisedTargets.{in_front, last-after, read-unspread, target-arrives, target-plain}
use Rattle.es_statement_steps.proofs.RowRuns.{WorldsKnown, temporaries_frame}
use Rattle.es_statement_steps.proofs.SettledOperands.{is_meant_operand}
use Rattle.es_statement_steps.proofs.Unspread.{power-sense, unspread}
use Rattle.es_statement_steps.proofs.WrittenAgain.{stripped-avoids}

-- what is left once a target is read: its value is raised to that of e, and put
abbrev raised : World → Meaning → Arrived → M Value
raised w e (arrived r x) = value w e >>= λ y. ask (operator (codes "**") (x and y and none)) >>= put_value w r

-- `t **= e`, from its target on
abbrev raises : World → Meaning → Reference → M Value
raises w e = assigned w (assign_class (codes "**=")) (codes "**=") e

source-raises : (w : World) (e : Meaning) (p : Result Reference) → onward p (raises w e) ≡ onward (onward p (λ r. get_value w r >>= λ x. return (arrived r x))) (raised w e)
source-raises w e (gives r z) = from-value (get_value w r z)
  where
    from-value : (q : Result Value) → onward q (λ x. value w e >>= λ y. ask (operator (codes "**") (x and y and none)) >>= put_value w r) ≡ onward (onward q (λ x. return (arrived r x))) (raised w e)
    from-value (gives x z) = refl
    from-value (stops m z) = refl
source-raises w e (stops m z) = refl

-- `t = Math.pow(read, e)`, from its target on
result-raises : (v : World) (read e : Meaning) (p : Result Reference) → onward p (λ q. value v (gives_value (ask_pow v read e)) >>= put_value v q) ≡ onward (onward p (λ q. value v read >>= λ x. return (arrived q x))) (raised v e)
result-raises v read e (gives q z) = rw (plain_again v (ask_pow v read e z)) (from-value (value v read z))
  where
    from-value : (p : Result Value) → onward (onward p (λ x. value v e >>= λ y. ask (operator (codes "**") (x and y and none)))) (put_value v q) ≡ onward (onward p (λ x. return (arrived q x))) (raised v e)
    from-value (gives x z) = onward_onward (value v e z) (λ y. ask (operator (codes "**") (x and y and none))) (put_value v q)
    from-value (stops m z) = refl
result-raises v read e (stops m z) = refl

-- a sense that gives a value and says nothing more
record GivesPlain (e : Sense) : Type 0 where
  gives_it : M Value
  so : e ≡ plain_sense (gives_value gives_it)

twice-pattern : {bound in_use : Text → Bool} {ys : List Text} {fs : List Tree} {t target read : Tree} → TargetTwice bound in_use ys fs t target read → is_pattern (kind_of t) ≡ false
twice-pattern (bound_name e) = refl
twice-pattern (other_name e f) = refl
twice-pattern (static_member e h) = refl
twice-pattern (private_member e h) = refl
twice-pattern (literal_key e k h) = refl
twice-pattern (other_key e k h f) = refl

-- WHAT IS MADE

module _ (u : Supply) (plain : is_core_supply u ≡ true) (v : World) (math : is_free (v.scope (codes "Math")) ≡ true) where
  assigns-value : (l : Label) → l.texts ≡ Some (codes "=") ∷ [] → (t p : Tree) → is_core_target (sense (placed_at u v [] []) t).more ≡ true → (z : State) →
      value v (core u v (node AssignmentExpression l (one t then (one p then done)))) z ≡ onward ((core u v t).reference z) (λ q. value v (core u v p) >>= put_value v q)
  assigns-value l texts t p target z =
      ap (λ (e : Sense). value v e.core z) so ∙ plain_again v (onward ((core u v t).reference z) (λ q. value v (core u v p) >>= put_value v q))
    where
      so : sense (placed_at u v [] []) (node AssignmentExpression l (one t then (one p then done))) ≡ plain_sense (assignment v (codes "=") (core u v t) (core u v p))
      so = rw (ap first_text texts) (assignment-plain v (codes "=") (sense (placed_at u v [] []) t).more (sense (placed_at u v [] []) p) (assignment v (codes "=") (core u v t) (core u v p)) target)

  -- under whatever labels and word
  same-place : (m : Label) (fs : List Tree) (target read r : Tree) (ls : List Text) (x : Text) → sense (placed_at u v ls x) (assigned_power m fs target read r) ≡ sense (placed_at u v [] []) (assigned_power m fs target read r)
  same-place m [] target read r ls x = refl
  same-place m (f ∷ fs) target read r ls x = refl

  module _ (target read r : Tree) (target_plain : is_core_target (sense (placed_at u v [] []) target).more ≡ true) (read_plain : is_spread (sense (placed_at u v [] []) read).more ≡ false) (right_plain : is_spread (sense (placed_at u v [] []) r).more ≡ false) where
    raises-value : (l : Label) → l.texts ≡ Some (codes "=") ∷ [] → (z : State) → value v (core u v (node AssignmentExpression l (one target then (one (power_node read r) then done)))) z ≡ onward (reaches_by v (core u v target) (core u v read) z) (raised v (core u v r))
    raises-value l texts z =
        assigns-value l texts target (power_node read r) target_plain z
        ∙ ap (λ (e : Sense). onward ((core u v target).reference z) (λ q. value v e.core >>= put_value v q)) (power-sense u plain v math (made [] []) read r read_plain right_plain [] [])
        ∙ result-raises v (core u v read) (core u v r) ((core u v target).reference z)

    -- with what goes in front
    assigned-value : (m : Label) (fs : List Tree) (z : State) → value v (core u v (assigned_power m fs target read r)) z ≡ onward ((in_front u v fs >>= λ _. reaches_by v (core u v target) (core u v read)) z) (raised v (core u v r))
    assigned-value m [] z = raises-value (record (in_place_of m) { texts = Some (codes "=") ∷ [] }) refl z
    assigned-value m (f ∷ fs) z =
        plain_again v (in_front u v ((f ∷ fs) ++ assign_node target (power_node read r) ∷ []) z)
        ∙ last-after u v undefined (f ∷ fs) (assign_node target (power_node read r)) z
        ∙ onward_equal (in_front u v (f ∷ fs) z) (λ _ y. raises-value (made (Some (codes "=") ∷ []) []) refl y)
        ∙ sym (onward_onward (in_front u v (f ∷ fs) z) (λ _. reaches_by v (core u v target) (core u v read)) (raised v (core u v r)))

    assigned-plain : (m : Label) (fs : List Tree) → GivesPlain (sense (placed_at u v [] []) (assigned_power m fs target read r))
    assigned-plain m [] = record { gives_it = (core u v target).reference >>= assigned v (assign_class (codes "=")) (codes "=") (core u v (power_node read r)); so = assignment-plain v (codes "=") (sense (placed_at u v [] []) target).more _ _ target_plain }
    assigned-plain m (f ∷ fs) = record { gives_it = in_front u v ((f ∷ fs) ++ assign_node target (power_node read r) ∷ []); so = refl }

-- THE ROWS

module _ (no_all : Bool) (u : Supply) (plain : is_core_supply u ≡ true) (xs : List Text) (steady : Text → Bool) (own : (y : Text) → steady y ≡ true → is_own_cell y ≡ false) (quiet : Quiet (temporaries_frame true xs)) (stack : StackSeen (temporaries_frame true xs)) (seen : SupplySeen (temporaries_frame true xs) u)
    (w v : World) (same : SameWorld (among_names xs) w v) (ds : List Declared) (known : WorldsKnown no_all true xs ds w v) (math : is_free (w.scope (codes "Math")) ≡ true) where
  abbrev hidden : Text → Bool
  hidden = among_names xs

  abbrev bad : Level → Text → Bool
  bad = bad_names hidden steady

  abbrev H : Frame
  H = set_cells hidden

  math-after : is_free (v.scope (codes "Math")) ≡ true
  math-after = ap is_free (same.scope (codes "Math") quiet.math) ∙ math

  value-like : (a : Tree) → avoids bad value_taken a ≡ true → Alike H Equal (value w (core u w a)) (value v (core u v a))
  value-like a h s z g = kept_same hidden steady (cells z) (now_set hidden steady s z g) (value-kept no_all u plain xs steady own quiet stack seen w v same ds known (cells z) value_taken refl a h s z (now_kept hidden steady s z g))

  raised-alike : (e e' : Meaning) → Alike H Equal (value w e) (value v e') → (a b : Arrived) → SameArrived H a b → Alike H Equal (raised w e a) (raised v e' b)
  raised-alike e e' right _ _ (same_arrived {x = x} h) = then_alike H right (λ y. then_alike H (ask_alike H (operator (codes "**") (x and y and none))) (λ z. put_alike H w v same z h))

  -- senses that give values alike
  by-value : (t : Take) (e d : Sense) → GivesPlain e → GivesPlain d → Alike H Equal (value w e.core) (value v d.core) → SenseLike H w v t e d
  by-value t e d g k h =
      subst (λ (z : Sense). SenseLike H w v t z d) (sym g.so) (subst (λ (z : Sense). SenseLike H w v t (plain_sense (gives_value g.gives_it)) z) (sym k.so)
      (record {
        core = like_by_value hidden w v same t.need g.gives_it k.gives_it (subst (λ (z : Sense). Alike H Equal (value w (gives_value g.gives_it)) (value v z.core)) k.so (subst (λ (z : Sense). Alike H Equal (value w z.core) (value v d.core)) g.so h));
        more = λ _. same_nothing;
      }))

  -- `l ** r`
  power-row : (t : Take) (m : Label) (l r : Tree) → m.texts ≡ Some (codes "**") ∷ [] → avoids bad t (node BinaryExpression m (one l then (one r then done))) ≡ true → stands_over is_meant_operand (node BinaryExpression m (one l then (one r then done))) ≡ true → is_raisable (node BinaryExpression m (one l then (one r then done))) ≡ true →
      (ls : List Text) (x : Text) → SenseLike H w v t (sense (placed_at u w ls x) (node BinaryExpression m (one l then (one r then done)))) (sense (placed_at u v ls x) (power_at m l r))
  power-row t m l r texts avoided meant spreadless ls x =
      let good : (avoids bad value_taken l && (avoids bad value_taken r && true)) ≡ true = rw (ap first_text texts) at avoided in
      let left = both_left (avoids bad value_taken l) (avoids bad value_taken r && true) good in
      let right = both_left (avoids bad value_taken r) true (both_right (avoids bad value_taken l) (avoids bad value_taken r && true) good) in
      let meant_left = both_left (stands_over is_meant_operand l) (stands_over is_meant_operand r && true) meant in
      let meant_right = both_left (stands_over is_meant_operand r) true (both_right (stands_over is_meant_operand l) (stands_over is_meant_operand r && true) meant) in
      let sides : is_spread_kind (kind_of l) || is_spread_kind (kind_of r) ≡ false = not-true _ spreadless in
      let made_so = power-sense u plain v math-after m l r (unspread u plain v [] [] l meant_left (or_left (is_spread_kind (kind_of l)) _ sides)) (unspread u plain v [] [] r meant_right (or_right (is_spread_kind (kind_of l)) _ sides)) ls x in
      subst (λ (d : Sense). SenseLike H w v t (sense (placed_at u w ls x) (node BinaryExpression m (one l then (one r then done)))) d) (sym made_so)
      (rw (ap first_text texts) (record {
        core = plain_like H w v same t.need _ _ (then_alike H (value-like l left) (λ y. then_alike H (value-like r right) (λ z. ask_alike H (operator (codes "**") (y and z and none)))));
        more = λ _. same_nothing;
      }))

  -- `t **= r`
  assignment-row : (bound in_use : Text → Bool) → ((y : Text) → bound y ≡ true → is_free (w.scope y) ≡ false) → (t : Take) (m : Label) (ys : List Text) (fs : List Tree) (to r target read : Tree) → m.texts ≡ Some (codes "**=") ∷ [] → TargetTwice bound in_use ys fs (without_parens to) target read → ((y : Text) → one_of ys y ≡ true → hidden y ≡ true) →
      avoids bad t (node AssignmentExpression m (one to then (one r then done))) ≡ true → all_nodes undeclaring (node AssignmentExpression m (one to then (one r then done))) ≡ true → stands_over is_meant_operand (node AssignmentExpression m (one to then (one r then done))) ≡ true → is_raisable (node AssignmentExpression m (one to then (one r then done))) ≡ true →
      (ls : List Text) (x : Text) → SenseLike H w v t (sense (placed_at u w ls x) (node AssignmentExpression m (one to then (one r then done)))) (sense (placed_at u v ls x) (assigned_power m fs target read r))
  assignment-row bound in_use binds t m ys fs to r target read texts twice cover avoided formed meant spreadless ls x =
      let classless : is_classless (without_parens to) ≡ true = and_left (is_classless (without_parens to)) _ spreadless in
      let right = both_left (avoids bad value_taken r) true (both_right (avoids bad target_taken to) (avoids bad value_taken r && true) avoided) in
      let left = stripped-avoids bad true true to (both_left (avoids bad target_taken to) (avoids bad value_taken r && true) avoided) in
      let single : single_parens to ≡ true = undeclaring_single to (and_left (all_nodes undeclaring to) (all_nodes undeclaring r && true) (and_right (undeclaring AssignmentExpression m (one to then (one r then done))) (all_nodes undeclaring to && (all_nodes undeclaring r && true)) formed)) in
      let meant_right : stands_over is_meant_operand r ≡ true = both_left (stands_over is_meant_operand r) true (both_right (stands_over is_meant_operand to) (stands_over is_meant_operand r && true) (parts (is_pattern (kind_of to)) (stripped_pattern to (twice-pattern twice)) meant)) in
      let right_plain = unspread u plain v [] [] r meant_right (not-true (is_spread_kind (kind_of r)) (and_right (is_classless (without_parens to)) _ spreadless)) in
      let target_so = target-plain no_all u plain xs steady own quiet stack seen w v same ds known bound in_use binds twice classless in
      let read_so = read-unspread no_all u plain xs steady own quiet stack seen w v same ds known bound in_use binds twice classless in
      let arrive = target-arrives no_all u plain xs steady own quiet stack seen w v same ds known bound in_use binds twice cover left.form left.more left.avoided classless in
      subst (λ (e : Sense). SenseLike H w v t (sense (placed_at u w ls x) (node AssignmentExpression m (one to then (one r then done)))) e) (sym (same-place u plain v math-after m fs target read r ls x))
      (by-value t _ _ (record { gives_it = (core u w to).reference >>= raises w (core u w r); so = source-plain })
      (assigned-plain u plain v math-after target read r target_so read_so right_plain m fs)
      (λ s z g. subst (λ (q : Result Value). Same H Equal q (value v (core u v (assigned_power m fs target read r)) z)) (sym (source-value single s))
      (rw (assigned-value u plain v math-after target read r target_so read_so right_plain m fs z) (onward_same H (arrive s z g) (raised-alike (core u w r) (core u v r) (value-like r right))))))
    where
      parts : (b : Bool) → b ≡ false → (if b then is_meant_operand (node AssignmentExpression m (one to then (one r then done))) else fields_over is_meant_operand (one to then (one r then done))) ≡ true → fields_over is_meant_operand (one to then (one r then done)) ≡ true
      parts true e h = absurd (cc e)
      parts false e h = h

      source-plain : sense (placed_at u w ls x) (node AssignmentExpression m (one to then (one r then done))) ≡ plain_sense (gives_value ((core u w to).reference >>= raises w (core u w r)))
      source-plain = rw (ap first_text texts) (other-assignment w (codes "**=") (sense (placed_at u w [] []) to).more (sense (placed_at u w [] []) r) (assignment w (codes "**=") (core u w to) (core u w r)) refl)

      source-value : single_parens to ≡ true → (s : State) → value w (sense (placed_at u w ls x) (node AssignmentExpression m (one to then (one r then done)))).core s ≡ onward (reaches w (core u w (without_parens to)) s) (raised w (core u w r))
      source-value single s =
          ap (λ (e : Sense). value w e.core s) source-plain
          ∙ plain_again w (onward ((core u w to).reference s) (raises w (core u w r)))
          ∙ ap (λ (q : M Reference). onward (q s) (raises w (core u w r))) (stripped-sense u w to single)
          ∙ source-raises w (core u w r) ((core u w (without_parens to)).reference s)

-- the rule at a node of which that is known
pub raising-like : (no_all : Bool) (u : Supply) → is_core_supply u ≡ true → (xs : List Text) (steady bound in_use : Text → Bool) → ((y : Text) → steady y ≡ true → is_own_cell y ≡ false) → Quiet (temporaries_frame true xs) → StackSeen (temporaries_frame true xs) → SupplySeen (temporaries_frame true xs) u →
    (w v : World) → SameWorld (among_names xs) w v → (ds : List Declared) → WorldsKnown no_all true xs ds w v → is_free (w.scope (codes "Math")) ≡ true → ((y : Text) → bound y ≡ true → is_free (w.scope y) ≡ false) → (t : Take) (a b : Tree) → ExponentiationRule bound in_use xs t.need a b →
    avoids (bad_names (among_names xs) steady) t a ≡ true → all_nodes undeclaring a ≡ true → stands_over is_meant_operand a ≡ true → is_raisable a ≡ true → (ls : List Text) (x : Text) → SenseLike (set_cells (among_names xs)) w v t (sense (placed_at u w ls x) a) (sense (placed_at u v ls x) b)
raising-like no_all u plain _ steady bound in_use own quiet stack seen w v same ds known math binds t _ _ (power {m = m} {l = l} {r = r} texts no_left no_right) avoided formed meant spreadless ls x =
    power-row no_all u plain [] steady own quiet stack seen w v same ds known math t m l r texts avoided meant spreadless ls x
raising-like no_all u plain xs steady bound in_use own quiet stack seen w v same ds known math binds t _ _ (power_assignment {m = m} {t = to} {r = r} {target = target} {read = read} {fs = fs} texts no_right twice) avoided formed meant spreadless ls x =
    assignment-row no_all u plain xs steady own quiet stack seen w v same ds known math bound in_use binds t m xs fs to r target read texts twice (λ y e. e) avoided formed meant spreadless ls x
