-- `t op= r` and what it becomes are alike.
use Rattle.std.proofs.Common.{◌≡◌, refl, List, [], ◌++◌, ◌∙◌, ap}
use Rattle.std.proofs.lemmas.List.Folds.{list_any-append}
use Rattle.std.specs.Prelude.{Bool, true, false, bytes_eq, codes, if◌then◌else◌, ◌&&◌, ◌||◌}
use Rattle.es_tree.specs.Words.{Text}
use Rattle.es_tree.specs.Names.{first_text}
use Rattle.es_tree.specs.Parens.{without_parens}
use Rattle.es_tree.specs.Tree.{Tree, node, kind_of, Label, done, ◌then◌, one}
use Rattle.es_tree.specs.Walks.{all_nodes}
use Rattle.es_tree.specs.declared.ast_type.AstType.TheVariants.{AssignmentExpression, Identifier, MemberExpression}
use Rattle.es_runs.specs.Machine.{Value, M, ◌>>=◌, onward, return, State, Result, Cell, is_nullish}
use Rattle.es_runs.specs.Machine.Value.{text}
use Rattle.es_runs.specs.Machine.Result.{gives}
use Rattle.es_runs.specs.Core.{World, Reference, Meaning, value, get_value, put_value, cut_where, key, literal, name, member, assignment, assign_logical, assign_class, goes_right, without_last, is_free, is_pattern, meaning, flag, flag_after}
use Rattle.es_runs.specs.Core.AssignClass.{logically}
use Rattle.es_runs.specs.Core.Reference.{named, property}
use Rattle.es_runs.specs.Alike.{set_cells, kept_cells, Agree, Same, Alike, Equal, SameTarget, SameWorld, Need, Like, the_value, Level, the_target, touches, bad_names, value_and_form, key_need, object_need}
use Rattle.es_runs.specs.Alike.SameTarget.{target_name, target_property}
use Rattle.es_runs.specs.LogicalAssignment.{is_logical_assignment_operator, LogicalAssignmentRule}
use Rattle.es_runs.specs.LogicalAssignment.LogicalAssignmentRule.{to_name, to_static_member, to_computed_member}
use Rattle.es_runs.specs.Runs.{none_hidden, cells}
use Rattle.es_runs.specs.Core.Form.{other}
use Rattle.es_runs.specs.Alike.Same.{both_stop, outside}
use Rattle.es_runs.specs.Standing.{undeclaring}
use Rattle.es_runs.proofs.Basic.{then_alike, return_alike, get_alike, put_alike, read_target}
use Rattle.es_runs.proofs.Congruence.{choice_alike, plain_like}
use Rattle.es_runs.proofs.Fresh.{or_left, or_right}
use Rattle.es_runs.proofs.Named.{and_left, and_right}
use Rattle.es_runs.proofs.RowPlaces.{RowPlace, IsRuleAlike}
use Rattle.es_runs.proofs.Stripped.{StrippedFree, stripped_free, stripped_pattern, stripped_reference}
use Rattle.es_runs.proofs.OptionalChainingNeeds.{object_free}
use Rattle.es_runs.proofs.Written.{one_of}
use Rattle.es_runs.proofs.Duplicated.{AllSet, Gives, Twice, kept_same, kept_like, now_kept, now_set, constant_twice, duplicated, read_names, read_from, read_kept, read_apart}
use Rattle.es_runs.proofs.Duplicated.Twice.{both_read, neither_read, not_called}
use Rattle.es_runs.proofs.Temporary.{plain_again, bytes_eq-equal}

pub is_logically : (op : Text) → is_logical_assignment_operator op ≡ true → assign_class op ≡ logically
is_logically op h = at (bytes_eq op (codes "||=")) (bytes_eq op (codes "&&=")) (bytes_eq op (codes "??=")) refl refl refl h
  where
    at : (a b c : Bool) → bytes_eq op (codes "||=") ≡ a → bytes_eq op (codes "&&=") ≡ b → bytes_eq op (codes "??=") ≡ c → ((a || b) || c) ≡ true → assign_class op ≡ logically
    at true b c e f g k = let i : op ≡ codes "||=" = bytes_eq-equal op (codes "||=") e in rw i refl
    at false true c e f g k = let i : op ≡ codes "&&=" = bytes_eq-equal op (codes "&&=") f in rw i refl
    at false false true e f g k = let i : op ≡ codes "??=" = bytes_eq-equal op (codes "??=") g in rw i refl
    at false false false e f g k = absurd (cc k)

-- a name's cell is kept where it is one of these
abbrev IsKept : (Text → Bool) → (Text → Bool) → (Text → Bool) → Type 0
IsKept hidden frozen names = (z : Text) → names z ≡ true → (d : Text → Cell) (s t : State) → Agree (kept_cells hidden frozen d) s t → cells t z ≡ d z

module _ (hidden frozen : Text → Bool) (w v : World) (same : SameWorld hidden w v) (op : Text) (e e' : Meaning) (right : (d : Text → Cell) → Like (kept_cells hidden frozen d) w v the_value e e') where
  abbrev source_put : Reference → Value → M Value
  source_put r g = if goes_right op g then (value w e >>= put_value w r) else return g

  abbrev target_put : Meaning → Value → M Value
  target_put again g = if goes_right op g then value v (assignment v (codes "=") again e') else return g

  -- the put, to a target that is read again
  put_again : (r : Reference) (again : Meaning) (d : Text → Cell) → SameTarget (kept_cells hidden frozen d) r r → ((s t : State) → Agree (kept_cells hidden frozen d) s t → again.reference t ≡ gives r t) →
      Alike (kept_cells hidden frozen d) Equal (value w e >>= put_value w r) (value v (assignment v (codes "=") again e'))
  put_again r again d target read s t a = rw (read s t a, plain_again v) (then_alike (kept_cells hidden frozen d) (right d).evaluation (λ u. put_alike (kept_cells hidden frozen d) w v same u target) s t a)

  -- the reading, the test and the put
  tested_put : (r : Reference) (again : Meaning) (d : Text → Cell) → AllSet hidden d → SameTarget (kept_cells hidden frozen d) r r → ((s t : State) → Agree (kept_cells hidden frozen d) s t → again.reference t ≡ gives r t) →
      (s t : State) → Agree (kept_cells hidden frozen d) s t → Same (set_cells hidden) Equal (onward (get_value w r s) (source_put r)) (onward (get_value v r t) (target_put again))
  tested_put r again d set target read s t a =
      kept_same hidden frozen d set
      (then_alike (kept_cells hidden frozen d) (get_alike (kept_cells hidden frozen d) w v same (read_target (kept_cells hidden frozen d) w v same target))
      (λ g. choice_alike (kept_cells hidden frozen d) w v same (goes_right op g) (put_again r again d target read) (return_alike (kept_cells hidden frozen d) g)) s t a)

  -- MEMBERS

  module _ (computed : Bool) (o2 k2 keeper : Meaning) (as_key : (t : State) → key v computed k2 t ≡ value v keeper t) (object_names key_names : Text → Bool) (objects_kept : IsKept hidden frozen object_names) (keys_kept : IsKept hidden frozen key_names) where
    -- the key has its value
    from_key : (own : Text → Bool) → ((z : Text) → object_names z ≡ true → own z ≡ false) → (u : Value) (d1 : Text → Cell) → Gives v o2 object_names u d1 → {m q : Result Value} → Twice hidden frozen v own d1 keeper key_names m q →
        Same (set_cells hidden) Equal (onward (onward m (λ k. return (property u k))) (assign_logical w op e)) (onward (onward (onward q (λ k. return (property u k))) (get_value v)) (target_put (member v computed false o2 k2)))
    from_key own apart u d1 object (both_read k d2 set rest read a) =
        tested_put (property u k) (member v computed false o2 k2) d2 set target_property
        (λ s t b. rw (object t (λ z i. objects_kept z i d2 s t b ∙ rest z (apart z i)), as_key t, read t (λ z i. keys_kept z i d2 s t b)) refl) _ _ a
    from_key own apart u d1 object (neither_read a) = both_stop a
    from_key own apart u d1 object not_called = outside

    -- the object has its value
    from_object : (own_object own_key : Text → Bool) → ((z : Text) → object_names z ≡ true → own_key z ≡ false) → (k k1 : Meaning) → ((d : Text → Cell) → AllSet hidden d → (s t : State) → Agree (kept_cells hidden frozen d) s t → Twice hidden frozen v own_key d keeper key_names (key w computed k s) (key v computed k1 t)) →
        (d0 : Text → Cell) → {m q : Result Value} → Twice hidden frozen v own_object d0 o2 object_names m q →
        Same (set_cells hidden) Equal (onward (onward m (λ o. cut_where (false && is_nullish o) (key w computed k >>= λ p. return (property o p)))) (assign_logical w op e))
        (onward (onward (onward q (λ o. cut_where (false && is_nullish o) (key v computed k1 >>= λ p. return (property o p)))) (get_value v)) (target_put (member v computed false o2 k2)))
    from_object own_object own_key apart k k1 keys d0 (both_read u d1 set rest read a) = from_key own_key apart u d1 read (keys d1 set _ _ a)
    from_object own_object own_key apart k k1 keys d0 (neither_read a) = both_stop a
    from_object own_object own_key apart k k1 keys d0 not_called = outside

module _ (bound steady in_use : Text → Bool) where
  -- a name that stands first, or later, is one of them all
  first_of : (xs ys : List Text) (y : Text) → one_of xs y ≡ true → one_of (xs ++ ys) y ≡ true
  first_of xs ys y h = rw (list_any-append (λ x. bytes_eq y x) xs ys, h) refl

  later_of : (xs ys : List Text) (y : Text) → one_of ys y ≡ true → one_of (xs ++ ys) y ≡ true
  later_of xs ys y h = rw (list_any-append (λ x. bytes_eq y x) xs ys, h) (or_true (one_of xs y))
    where
      or_true : (b : Bool) → b || true ≡ true
      or_true true = refl
      or_true false = refl

  -- what is known of a place where `t op= r` stands
  record Parts (w v : World) (xs : List Text) (t r : Tree) : Type 0 where
    frozen_bound : (y : Text) → steady y ≡ true → is_free (w.scope y) ≡ false
    target : StrippedFree (bad_names (one_of xs) steady) Level.a_target t
    reference : (meaning w t).reference ≡ (meaning w (without_parens t)).reference
    right : touches (bad_names (one_of xs) steady) the_value r ≡ false

  parts_of : (w v : World) (xs : List Text) (n : Need) (m : Label) (t r : Tree) → RowPlace bound steady w v xs n (node AssignmentExpression m (one t then one r then done)) → Parts w v xs t r
  parts_of w v xs n m t r p =
      let bad : Level → Text → Bool = bad_names (one_of xs) steady in
      let left : touches bad the_target t ≡ false = or_left (touches bad the_target t) (touches bad the_value r || false) p.untouched in
      record {
        frozen_bound = λ y h. p.binds y (p.steady_bound y h);
        target = stripped_free bad Level.a_target true t left;
        reference = stripped_reference w t (and_left (all_nodes undeclaring t) (all_nodes undeclaring r && true) (and_right (undeclaring AssignmentExpression m (one t then one r then done)) (all_nodes undeclaring t && (all_nodes undeclaring r && true)) p.placed));
        right = or_left (touches bad the_value r) false (or_right (touches bad the_target t) (touches bad the_value r || false) p.untouched);
      }

  pub logical_assignment_like : (xs : List Text) → IsRuleAlike bound steady xs (LogicalAssignmentRule steady in_use xs)
  logical_assignment_like xs w v n _ _ p (to_name {m = m} {l = l} {t = t} {r = r} {op = op} texts assigns e) =
      let q : Parts w v [] t r = parts_of w v [] n m t r p in
      let y : Text = first_text l.texts in
      let free : touches (bad_names (one_of []) steady) (record { level = Level.a_target; form = q.target.form }) (node Identifier l done) ≡ false = rw e at q.target.free in
      let unwritten : steady y ≡ false = or_left (steady y) false free in
      rw (stripped_pattern t (ap (λ u. is_pattern (kind_of u)) e), ap first_text texts, is_logically op assigns) (plain_like (set_cells none_hidden) w v p.same n _ _
      (λ s z a. rw (q.reference, e) (tested_put none_hidden steady w v p.same (without_last op) (meaning w r) (meaning v r) (λ d. kept_like none_hidden steady w v p.same p.others d the_value r q.right)
      (named y) (name y) (cells z) (now_set none_hidden steady s z a) (target_name refl unwritten) (λ s2 z2 b. refl) s z (now_kept none_hidden steady s z a))))
  logical_assignment_like xs w v n _ _ p (to_static_member {m = m} {l = l} {k = k} {t = t} {r = r} {o = o} {o1 = o1} {o2 = o2} {op = op} texts assigns e flags object) =
      let q : Parts w v xs t r = parts_of w v xs n m t r p in
      let hidden : Text → Bool = one_of xs in
      let bad : Level → Text → Bool = bad_names hidden steady in
      let kt : Text = first_text k.texts in
      let free : touches bad (record { level = Level.a_target; form = q.target.form }) (node MemberExpression l (one o then one (node Identifier k done) then done)) ≡ false = rw e at q.target.free in
      let free_o : touches bad (value_and_form q.target.form) o ≡ false = object_free hidden steady q.target.form (flag_after l.flags) o (or_left (touches bad (object_need q.target.form (flag_after l.flags)) o) (touches bad (key_need (flag l.flags)) (node Identifier k done) || false) free) in
      rw (stripped_pattern t (ap (λ u. is_pattern (kind_of u)) e), ap first_text texts, is_logically op assigns) (plain_like (set_cells hidden) w v p.same n _ _
      (λ s z a. rw (q.reference, e, ap flag flags, ap flag_after flags)
      (from_object hidden steady w v p.same (without_last op) (meaning w r) (meaning v r) (λ d. kept_like hidden steady w v p.same p.others d the_value r q.right)
      false (meaning v o2) (name kt) (literal (text kt) other) (λ u. refl) (read_names o2) none_hidden
      (λ y i. read_kept hidden steady xs (λ c j. j) y (read_from hidden steady q.target.form object free_o y i)) (λ y i. absurd (cc i))
      (one_of xs) none_hidden (λ y i. refl) (name kt) (name kt) (λ d set s2 z2 b. constant_twice hidden steady w v p.same p.others none_hidden (text kt) other d set s2 z2 b)
      (cells z) (duplicated hidden steady w v p.same p.others q.frozen_bound q.target.form object (λ c j. j) p.cells free_o (cells z) (now_set hidden steady s z a) s z (now_kept hidden steady s z a)))))
  logical_assignment_like _ w v n _ _ p (to_computed_member {m = m} {l = l} {t = t} {r = r} {o = o} {o1 = o1} {o2 = o2} {k = k} {k1 = k1} {k2 = k2} {op = op} {xs = xs} {ys = ys} texts assigns e flags object index) =
      let q : Parts w v (xs ++ ys) t r = parts_of w v (xs ++ ys) n m t r p in
      let hidden : Text → Bool = one_of (xs ++ ys) in
      let bad : Level → Text → Bool = bad_names hidden steady in
      let form : Bool = q.target.form in
      let free : touches bad (record { level = Level.a_target; form = form }) (node MemberExpression l (one o then one k then done)) ≡ false = rw e at q.target.free in
      let free_o : touches bad (value_and_form form) o ≡ false = object_free hidden steady form (flag_after l.flags) o (or_left (touches bad (object_need form (flag_after l.flags)) o) (touches bad (key_need (flag l.flags)) k || false) free) in
      let free_k : touches bad (key_need (flag l.flags)) k ≡ false = or_left (touches bad (key_need (flag l.flags)) k) false (or_right (touches bad (object_need form (flag_after l.flags)) o) (touches bad (key_need (flag l.flags)) k || false) free) in
      let free_key : touches bad (value_and_form false) k ≡ false = rw (ap flag flags) at free_k in
      let cover_o : (y : Text) → one_of xs y ≡ true → hidden y ≡ true = first_of xs ys in
      let cover_k : (y : Text) → one_of ys y ≡ true → hidden y ≡ true = later_of xs ys in
      rw (stripped_pattern t (ap (λ u. is_pattern (kind_of u)) e), ap first_text texts, is_logically op assigns) (plain_like (set_cells hidden) w v p.same n _ _
      (λ s z a. rw (q.reference, e, ap flag flags, ap flag_after flags)
      (from_object hidden steady w v p.same (without_last op) (meaning w r) (meaning v r) (λ d. kept_like hidden steady w v p.same p.others d the_value r q.right)
      true (meaning v o2) (meaning v k2) (meaning v k2) (λ u. refl) (read_names o2) (read_names k2)
      (λ y i. read_kept hidden steady xs cover_o y (read_from hidden steady form object free_o y i)) (λ y i. read_kept hidden steady ys cover_k y (read_from hidden steady false index free_key y i))
      (one_of xs) (one_of ys) (λ y i. read_apart hidden steady xs in_use index cover_k y (read_from hidden steady form object free_o y i))
      (meaning w k) (meaning v k1) (λ d set s2 z2 b. duplicated hidden steady w v p.same p.others q.frozen_bound false index cover_k (λ y i. p.cells y (cover_k y i)) free_key d set s2 z2 b)
      (cells z) (duplicated hidden steady w v p.same p.others q.frozen_bound form object cover_o (λ y i. p.cells y (cover_o y i)) free_o (cells z) (now_set hidden steady s z a) s z (now_kept hidden steady s z a)))))
