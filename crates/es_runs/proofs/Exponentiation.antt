-- The rows of exponentiation: `l ** r` and `t **= r`, and what they become, are alike.
use Rattle.std.proofs.Common.{◌≡◌, refl, List, [], ◌∷◌, ◌++◌, ap, ◌∙◌, subst, sym}
use Rattle.std.specs.Prelude.{Bool, true, false, ◌&&◌, ◌||◌, codes, not}
use Rattle.es_tree.specs.Words.{Text}
use Rattle.es_tree.specs.Names.{first_text}
use Rattle.es_tree.specs.Parens.{without_parens}
use Rattle.es_tree.specs.Tree.{Tree, kind_of, Label, done, ◌then◌, one}
use Rattle.es_tree.specs.Walks.{all_nodes}
use Rattle.es_tree.specs.declared.ast_type.AstType.TheVariants.{AssignmentExpression}
use Rattle.es_runs.specs.Machine.{Value, M, ◌>>=◌, onward, return, ask, State, Result}
use Rattle.es_runs.specs.Machine.Values.{none, ◌and◌}
use Rattle.es_runs.specs.Machine.Value.{undefined}
use Rattle.es_runs.specs.Machine.Question.{operator}
use Rattle.es_runs.specs.Machine.Result.{gives, stops}
use Rattle.es_runs.specs.Rules.{assign_node}
use Rattle.es_runs.specs.Core.{World, Reference, Meaning, value, get_value, put_value, gives_value, meaning, is_free, is_pattern, ask_pow, asked_binary, assigned, assign_class, is_spread_kind}
use Rattle.es_runs.specs.Alike.{Frame, set_cells, Same, Alike, Equal, SameWorld, Level, Need, Like, the_value, the_target, touches, bad_names}
use Rattle.es_runs.specs.Alike.Level.{a_target}
use Rattle.es_runs.specs.Exponentiation.{ExponentiationRule, power_at, power_node, assign_at, assigned_power, is_classless, is_raisable}
use Rattle.es_runs.specs.Exponentiation.ExponentiationRule.{power, power_assignment}
use Rattle.es_runs.specs.Runs.{made}
use Rattle.es_runs.specs.Standing.{undeclaring}
use Rattle.es_runs.proofs.CoreWorlds.{never}
use Rattle.es_runs.proofs.Basic.{onward_same, then_alike, ask_alike, put_alike}
use Rattle.es_runs.proofs.Congruence.{plain_like}
use Rattle.es_runs.proofs.Fresh.{or_left, or_right}
use Rattle.es_runs.proofs.Named.{and_left, and_right}
use Rattle.es_runs.proofs.NullishCoalescingValues.{like_by_value}
use Rattle.es_runs.proofs.Stripped.{StrippedFree, stripped_free, stripped_pattern, stripped_reference}
use Rattle.es_runs.proofs.Temporary.{onward_onward, plain_again}
use Rattle.es_runs.proofs.ExponentiationTargets.{Arrived, SameArrived, reaches, reaches_by, in_front, onward_equal, last_after, value_like, target_arrives, twice_pattern}
use Rattle.es_runs.proofs.ExponentiationTargets.Arrived.{arrived}
use Rattle.es_runs.proofs.ExponentiationTargets.SameArrived.{same_arrived}
use Rattle.es_runs.proofs.RowPlaces.{RowPlace}
use Rattle.es_runs.proofs.SameOthers.{SameOthers}
use Rattle.es_runs.proofs.Written.{one_of}

-- what is left once a target is read: its value is raised to that of e, and put
abbrev raised : World → Meaning → Arrived → M Value
raised w e (arrived r x) = value w e >>= λ y. ask (operator (codes "**") (x and y and none)) >>= put_value w r

-- `t **= e`, from its target on
abbrev source : World → Meaning → Meaning → M Value
source w t e = t.reference >>= assigned w (assign_class (codes "**=")) (codes "**=") e

source_value : (w : World) (t e : Meaning) (s : State) → source w t e s ≡ onward (reaches w t s) (raised w e)
source_value w t e s = at (t.reference s)
  where
    from_value : (r : Reference) (q : Result Value) → onward q (λ x. value w e >>= λ y. ask (operator (codes "**") (x and y and none)) >>= put_value w r) ≡ onward (onward q (λ x. return (arrived r x))) (raised w e)
    from_value r (gives x z) = refl
    from_value r (stops m z) = refl

    at : (q : Result Reference) → onward q (assigned w (assign_class (codes "**=")) (codes "**=") e) ≡ onward (onward q (λ r. get_value w r >>= λ x. return (arrived r x))) (raised w e)
    at (gives r z) = from_value r (get_value w r z)
    at (stops m z) = refl

-- `t = Math.pow(read, e)`, from its target on
target_value : (v : World) (t read e : Meaning) (s : State) → onward (t.reference s) (λ q. value v (gives_value (ask_pow v read e)) >>= put_value v q) ≡ onward (reaches_by v t read s) (raised v e)
target_value v t read e s = at (t.reference s)
  where
    from_value : (q : Reference) (p : Result Value) → onward (onward p (λ x. value v e >>= λ y. ask (operator (codes "**") (x and y and none)))) (put_value v q) ≡ onward (onward p (λ x. return (arrived q x))) (raised v e)
    from_value q (gives x z) = onward_onward (value v e z) (λ y. ask (operator (codes "**") (x and y and none))) (put_value v q)
    from_value q (stops m z) = refl

    at : (p : Result Reference) → onward p (λ q. value v (gives_value (ask_pow v read e)) >>= put_value v q) ≡ onward (onward p (λ q. value v read >>= λ x. return (arrived q x))) (raised v e)
    at (gives q z) = rw (plain_again v (ask_pow v read e z)) (from_value q (value v read z))
    at (stops m z) = refl

module _ (v : World) (math : is_free (v.scope (codes "Math")) ≡ true) where
  -- `Math.pow(l, r)` asks what `l ** r` asks
  power_means : (m : Label) (l r : Tree) → is_spread_kind (kind_of l) ≡ false → is_spread_kind (kind_of r) ≡ false → meaning v (power_at m l r) ≡ gives_value (ask_pow v (meaning v l) (meaning v r))
  power_means m l r h g = rw (math, h, g, never v.spreads) refl

  assigns : (m : Label) (target read r : Tree) → is_pattern (kind_of target) ≡ false → is_spread_kind (kind_of read) ≡ false → is_spread_kind (kind_of r) ≡ false → (t : State) → value v (meaning v (assign_at m target (power_node read r))) t ≡ onward (reaches_by v (meaning v target) (meaning v read) t) (raised v (meaning v r))
  assigns m target read r e h g t = rw (e, power_means m read r h g) (plain_again v _ ∙ target_value v (meaning v target) (meaning v read) (meaning v r) t)

  assigns_again : (target read r : Tree) → is_pattern (kind_of target) ≡ false → is_spread_kind (kind_of read) ≡ false → is_spread_kind (kind_of r) ≡ false → (t : State) → value v (meaning v (assign_node target (power_node read r))) t ≡ onward (reaches_by v (meaning v target) (meaning v read) t) (raised v (meaning v r))
  assigns_again target read r e h g t = rw (e, power_means (made [] []) read r h g) (plain_again v _ ∙ target_value v (meaning v target) (meaning v read) (meaning v r) t)

  -- with what goes in front
  assigned_value : (m : Label) (fs : List Tree) (target read r : Tree) → is_pattern (kind_of target) ≡ false → is_spread_kind (kind_of read) ≡ false → is_spread_kind (kind_of r) ≡ false → (t : State) → value v (meaning v (assigned_power m fs target read r)) t ≡ onward ((in_front v fs >>= λ _. reaches_by v (meaning v target) (meaning v read)) t) (raised v (meaning v r))
  assigned_value m [] target read r e h g t = assigns m target read r e h g t
  assigned_value m (f ∷ fs) target read r e h g t =
      plain_again v (in_front v ((f ∷ fs) ++ assign_node target (power_node read r) ∷ []) t)
      ∙ last_after v undefined (f ∷ fs) (assign_node target (power_node read r)) t
      ∙ onward_equal (in_front v (f ∷ fs) t) (λ _ z. assigns_again target read r e h g z)
      ∙ sym (onward_onward (in_front v (f ∷ fs) t) (λ _. reaches_by v (meaning v target) (meaning v read)) (raised v (meaning v r)))

module _ (steady : Text → Bool) (xs : List Text) (w v : World) (same : SameWorld (one_of xs) w v) (others : SameOthers (one_of xs) steady w v) where
  abbrev F : Frame
  F = set_cells (one_of xs)

  abbrev bad : Level → Text → Bool
  bad = bad_names (one_of xs) steady

  right_value : (r : Tree) → touches bad the_value r ≡ false → Alike F Equal (value w (meaning w r)) (value v (meaning v r))
  right_value = value_like (one_of xs) steady w v same others

  raised_alike : (e e' : Meaning) → Alike F Equal (value w e) (value v e') → (a b : Arrived) → SameArrived F a b → Alike F Equal (raised w e a) (raised v e' b)
  raised_alike e e' right _ _ (same_arrived {x = x} h) = then_alike F right (λ y. then_alike F (ask_alike F (operator (codes "**") (x and y and none))) (λ u. put_alike F w v same u h))

  -- `l ** r`
  exponentiation_alike : (l r : Tree) → touches bad the_value l ≡ false → touches bad the_value r ≡ false → Alike F Equal (asked_binary w (codes "**") (meaning w l) (meaning w r)) (ask_pow v (meaning v l) (meaning v r))
  exponentiation_alike l r hl hr = then_alike F (right_value l hl) (λ x. then_alike F (right_value r hr) (λ y. ask_alike F (operator (codes "**") (x and y and none))))

  module _ (math : is_free (v.scope (codes "Math")) ≡ true) where
    -- `t **= r`
    assignment_alike : (m : Label) (fs : List Tree) (t t' target read r : Tree) → is_pattern (kind_of target) ≡ false → is_spread_kind (kind_of read) ≡ false → is_spread_kind (kind_of r) ≡ false → (meaning w t).reference ≡ (meaning w t').reference → touches bad the_value r ≡ false →
        Alike F (SameArrived F) (reaches w (meaning w t')) (in_front v fs >>= λ _. reaches_by v (meaning v target) (meaning v read)) →
        Alike F Equal (value w (gives_value (source w (meaning w t) (meaning w r)))) (value v (meaning v (assigned_power m fs target read r)))
    assignment_alike m fs t t' target read r unpatterned once_read unspread e h arrive s u g =
        rw (plain_again w (source w (meaning w t) (meaning w r) s), source_value w (meaning w t) (meaning w r) s, assigned_value v math m fs target read r unpatterned once_read unspread u)
        (onward_same F (subst (λ q. Same F (SameArrived F) (onward (q s) (λ r. get_value w r >>= λ x. return (arrived r x))) ((in_front v fs >>= λ _. reaches_by v (meaning v target) (meaning v read)) u)) (sym e) (arrive s u g)) (raised_alike (meaning w r) (meaning v r) (right_value r h)))

    -- neither gives a reference
    assigned_like : (n : Need) (k : M Value) (m : Label) (fs : List Tree) (target read r : Tree) → is_pattern (kind_of target) ≡ false → Alike F Equal (value w (gives_value k)) (value v (meaning v (assigned_power m fs target read r))) → Like F w v n (gives_value k) (meaning v (assigned_power m fs target read r))
    assigned_like n k m [] target read r e h = rw e (like_by_value (one_of xs) w v same n k _ (rw e at h))
    assigned_like n k m (f ∷ fs) target read r e h = like_by_value (one_of xs) w v same n k _ h

-- `Math` isn't bound in the result either
math_free : (bound steady : Text → Bool) (w v : World) (xs : List Text) (n : Need) (a : Tree) → is_free (w.scope (codes "Math")) ≡ true → RowPlace bound steady w v xs n a → is_free (v.scope (codes "Math")) ≡ true
math_free bound steady w v xs n a math place = ap is_free (place.same.scope (codes "Math") place.math) ∙ math

not_so : (b : Bool) → not b ≡ true → b ≡ false
not_so true h = absurd (cc h)
not_so false h = refl

pub exponentiation_like : {bound steady : Text → Bool} (in_use : Text → Bool) {xs : List Text} (w v : World) → is_free (w.scope (codes "Math")) ≡ true → (n : Need) (a b : Tree) → RowPlace bound steady w v xs n a → is_raisable a ≡ true → ExponentiationRule bound in_use xs n a b → Like (set_cells (one_of xs)) w v n (meaning w a) (meaning v b)
exponentiation_like {bound} {steady} in_use {xs} w v math n a b place classless (power {m = m} {l = l} {r = r} texts no_left no_right) =
    let left : touches (bad_names (one_of xs) steady) the_value l ≡ false = or_left (touches (bad_names (one_of xs) steady) the_value l) _ place.untouched in
    let right : touches (bad_names (one_of xs) steady) the_value r ≡ false = or_left (touches (bad_names (one_of xs) steady) the_value r) false (or_right (touches (bad_names (one_of xs) steady) the_value l) _ (rw texts at place.untouched)) in
    let sides : is_spread_kind (kind_of l) || is_spread_kind (kind_of r) ≡ false = not_so _ classless in
    rw (ap first_text texts, power_means v (math_free bound steady w v xs n a math place) m l r (or_left (is_spread_kind (kind_of l)) _ sides) (or_right (is_spread_kind (kind_of l)) _ sides)) (plain_like (set_cells (one_of xs)) w v place.same n _ _ (exponentiation_alike steady xs w v place.same place.others l r left right))
exponentiation_like {bound} {steady} in_use {xs} w v math n a b place classless (power_assignment {m = m} {t = t} {r = r} {target = target} {read = read} {fs = fs} texts no_right twice) =
    let bad : Level → Text → Bool = bad_names (one_of xs) steady in
    let below : StrippedFree bad a_target t = stripped_free bad a_target true t (or_left (touches bad the_target t) (touches bad the_value r || false) place.untouched) in
    let unpatterned : (is_pattern (kind_of (without_parens t)) ≡ false) × (is_pattern (kind_of target) ≡ false) × (is_spread_kind (kind_of read) ≡ false) = twice_pattern (one_of xs) steady w v place.same place.others bound in_use place.binds twice in
    let right : touches bad the_value r ≡ false = or_left (touches bad the_value r) false (or_right (touches bad the_target t) (touches bad the_value r || false) place.untouched) in
    let placed : all_nodes undeclaring t ≡ true = and_left (all_nodes undeclaring t) (all_nodes undeclaring r && true) (and_right (undeclaring AssignmentExpression m (one t then (one r then done))) (all_nodes undeclaring t && (all_nodes undeclaring r && true)) place.placed) in
    let arrive = target_arrives (one_of xs) steady w v place.same place.others bound in_use place.binds twice (λ x e. (e, place.cells x e)) below.form below.free (and_left (is_classless (without_parens t)) _ classless) in
    rw (stripped_pattern t unpatterned.0, ap first_text texts) (assigned_like steady xs w v place.same place.others (math_free bound steady w v xs n a math place) n (source w (meaning w t) (meaning w r)) m fs target read r unpatterned.1
    (assignment_alike steady xs w v place.same place.others (math_free bound steady w v xs n a math place) m fs t (without_parens t) target read r unpatterned.1 unpatterned.2 (not_so (is_spread_kind (kind_of r)) (and_right (is_classless (without_parens t)) _ classless)) (stripped_reference w t placed) right arrive))
