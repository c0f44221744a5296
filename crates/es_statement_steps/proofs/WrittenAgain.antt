-- Logical assignment where a program gets no helper but that of object spread: `t op= r` and what it becomes are alike, whatever the operands are. They are
-- taken as they evaluate, so that calls of the helper may stand in them.
use Rattle.std.proofs.Common.{◌≡◌, refl, sym, ap, subst, List, [], ◌∷◌, ◌++◌, ◌∙◌}
use Rattle.std.specs.Prelude.{Bool, true, false, ◌&&◌, ◌||◌, not, Some, codes, if◌then◌else◌, bytes_eq}
use Rattle.std.proofs.lemmas.List.Folds.{list_any-append}
use Rattle.es_tree.specs.Names.{first_text}
use Rattle.es_tree.specs.Parens.{without_parens}
use Rattle.es_tree.specs.Scopes.{Declared}
use Rattle.es_tree.specs.Tree.{Tree, node, Label, done, ◌then◌, one, missing, many, statements}
use Rattle.es_tree.specs.Walks.{all_nodes}
use Rattle.es_tree.specs.Words.{Text}
use Rattle.es_tree.specs.declared.ast_type.AstType.TheVariants.{AssignmentExpression, Identifier, MemberExpression, ParenthesizedExpression}
use Rattle.es_runs.specs.Alike.{Agree, Alike, Equal, Frame, Level, Same, SameTarget, SameWorld, bad_names, kept_cells, key_need, object_level, object_need, set_cells, the_target, the_value, value_and_form, touches}
use Rattle.es_runs.specs.Alike.Level.{a_target}
use Rattle.es_runs.specs.Alike.Same.{both_stop, outside}
use Rattle.es_runs.specs.Alike.SameTarget.{target_name, target_property}
use Rattle.es_runs.specs.Core.{Meaning, Reference, World, assign_logical, assignment, cut_where, flag, flag_after, get_value, goes_right, is_free, key, literal, member, name, put_value, value, without_last}
use Rattle.es_runs.specs.Core.Form.{other}
use Rattle.es_runs.specs.Core.Reference.{named, property}
use Rattle.es_runs.specs.Duplication.{IsDuplicated}
use Rattle.es_runs.specs.NullishCoalescing.{also_all}
use Rattle.es_runs.specs.Rules.{member_node}
use Rattle.es_runs.specs.LogicalAssignment.{LogicalAssignmentRule, assigned_where, is_logical_assignment_operator}
use Rattle.es_runs.specs.LogicalAssignment.LogicalAssignmentRule.{to_computed_member, to_name, to_static_member}
use Rattle.es_runs.specs.Machine.{Cell, M, Result, State, Value, ◌>>=◌, is_nullish, onward, return}
use Rattle.es_runs.specs.Machine.Result.{gives}
use Rattle.es_runs.specs.Machine.Value.{text}
use Rattle.es_runs.specs.Runs.{cells, none_hidden}
use Rattle.es_runs.specs.Standing.{undeclaring}
use Rattle.es_runs.proofs.Basic.{get_alike, put_alike, read_target, return_alike, then_alike}
use Rattle.es_runs.proofs.Congruence.{choice_alike}
use Rattle.es_runs.proofs.Duplicated.{AllSet, Gives, Twice, kept_same, now_kept, now_set, read_apart, read_from, read_kept, read_names}
use Rattle.es_runs.proofs.Duplicated.Twice.{both_read, neither_read, not_called}
use Rattle.es_runs.proofs.Fresh.{or_left, or_right}
use Rattle.es_runs.proofs.LogicalAssignment.{is_logically}
use Rattle.es_runs.proofs.Named.{and_left, and_right}
use Rattle.es_runs.proofs.NullishCoalescingValues.{like_by_value}
use Rattle.es_runs.proofs.OptionalChainingNeeds.{object_free}
use Rattle.es_runs.proofs.Stripped.{StrippedFree, single_parens, stripped_free, undeclaring_single}
use Rattle.es_runs.proofs.Temporary.{plain_again}
use Rattle.es_runs.proofs.Written.{one_of}
use Rattle.es_statement_runs.specs.Alike.{Quiet, SenseLike, StackSeen}
use Rattle.es_statement_runs.specs.Alike.MoreLike.{same_nothing}
use Rattle.es_statement_runs.specs.Helpers.{Supply}
use Rattle.es_statement_runs.specs.Kinds.{sense}
use Rattle.es_statement_runs.specs.Laws.{among_names}
use Rattle.es_statement_runs.specs.Places.{SupplySeen, Take, avoids, avoids_fields, placed_at, take, target_taken, value_taken}
use Rattle.es_statement_runs.specs.Scopes.{is_own_cell}
use Rattle.es_statement_runs.specs.Senses.{Sense, plain_sense}
use Rattle.es_statement_runs.proofs.Everywhere.{both_left, both_right, not_so}
use Rattle.es_statement_steps.proofs.KeptParts.{doubled-twice, value-kept}
use Rattle.es_statement_steps.proofs.PlainSupplies.{Plainly, assignment-plain, core, is_core_supply, is_core_target, logical-unequal, member-core, member-plainly, other-assignment, said-target, stripped-sense}
use Rattle.es_statement_steps.proofs.RowRuns.{WorldsKnown, temporaries_frame}

-- a name's cell is kept where it is one of these
abbrev IsKept : (Text → Bool) → (Text → Bool) → (Text → Bool) → Type 0
IsKept hidden frozen names = (z : Text) → names z ≡ true → (d : Text → Cell) (s t : State) → Agree (kept_cells hidden frozen d) s t → cells t z ≡ d z

-- A TARGET THAT IS READ, AND PERHAPS WRITTEN

-- `= e` to what is evaluated again, where the operator asks for it
abbrev puts_again : World → Text → Meaning → Meaning → Value → M Value
puts_again v op e again g = if goes_right op g then value v (assignment v (codes "=") again e) else return g

module _ (hidden frozen : Text → Bool) (w v : World) (same : SameWorld hidden w v) (op : Text) (e e' : Meaning) (right : (d : Text → Cell) → Alike (kept_cells hidden frozen d) Equal (value w e) (value v e')) where
  abbrev source_put : Reference → Value → M Value
  source_put r g = if goes_right op g then (value w e >>= put_value w r) else return g

  put-again : (r : Reference) (again : Meaning) (d : Text → Cell) → SameTarget (kept_cells hidden frozen d) r r → ((s t : State) → Agree (kept_cells hidden frozen d) s t → again.reference t ≡ gives r t) →
      Alike (kept_cells hidden frozen d) Equal (value w e >>= put_value w r) (value v (assignment v (codes "=") again e'))
  put-again r again d target read s t a = rw (read s t a, plain_again v) (then_alike (kept_cells hidden frozen d) (right d) (λ u. put_alike (kept_cells hidden frozen d) w v same u target) s t a)

  -- the reading, the test and the put
  tested-put : (r : Reference) (again : Meaning) (d : Text → Cell) → AllSet hidden d → SameTarget (kept_cells hidden frozen d) r r → ((s t : State) → Agree (kept_cells hidden frozen d) s t → again.reference t ≡ gives r t) →
      (s t : State) → Agree (kept_cells hidden frozen d) s t → Same (set_cells hidden) Equal (onward (get_value w r s) (source_put r)) (onward (get_value v r t) (puts_again v op e' again))
  tested-put r again d set target read s t a =
      kept_same hidden frozen d set
      (then_alike (kept_cells hidden frozen d) (get_alike (kept_cells hidden frozen d) w v same (read_target (kept_cells hidden frozen d) w v same target))
      (λ g. choice_alike (kept_cells hidden frozen d) w v same (goes_right op g) (put-again r again d target read) (return_alike (kept_cells hidden frozen d) g)) s t a)

  module _ (computed : Bool) (o2 k2 keeper : Meaning) (as_key : (t : State) → key v computed k2 t ≡ value v keeper t) (object_names key_names : Text → Bool) (objects_kept : IsKept hidden frozen object_names) (keys_kept : IsKept hidden frozen key_names) where
    -- the key has its value
    from-key : (own : Text → Bool) → ((z : Text) → object_names z ≡ true → own z ≡ false) → (u : Value) (d1 : Text → Cell) → Gives v o2 object_names u d1 → {m q : Result Value} → Twice hidden frozen v own d1 keeper key_names m q →
        Same (set_cells hidden) Equal (onward (onward m (λ k. return (property u k))) (assign_logical w op e)) (onward (onward (onward q (λ k. return (property u k))) (get_value v)) (puts_again v op e' (member v computed false o2 k2)))
    from-key own apart u d1 object (both_read k d2 set rest read a) =
        tested-put (property u k) (member v computed false o2 k2) d2 set target_property
        (λ s t b. rw (object t (λ z i. objects_kept z i d2 s t b ∙ rest z (apart z i)), as_key t, read t (λ z i. keys_kept z i d2 s t b)) refl) _ _ a
    from-key own apart u d1 object (neither_read a) = both_stop a
    from-key own apart u d1 object not_called = outside

    -- the object has its value
    pub from-object : (own_object own_key : Text → Bool) → ((z : Text) → object_names z ≡ true → own_key z ≡ false) → (k k1 : Meaning) → ((d : Text → Cell) → AllSet hidden d → (s t : State) → Agree (kept_cells hidden frozen d) s t → Twice hidden frozen v own_key d keeper key_names (key w computed k s) (key v computed k1 t)) →
        (d0 : Text → Cell) → {m q : Result Value} → Twice hidden frozen v own_object d0 o2 object_names m q →
        Same (set_cells hidden) Equal (onward (onward m (λ o. cut_where (false && is_nullish o) (key w computed k >>= λ p. return (property o p)))) (assign_logical w op e))
        (onward (onward (onward q (λ o. cut_where (false && is_nullish o) (key v computed k1 >>= λ p. return (property o p)))) (get_value v)) (puts_again v op e' (member v computed false o2 k2)))
    from-object own_object own_key apart k k1 keys d0 (both_read u d1 set rest read a) = from-key own_key apart u d1 read (keys d1 set _ _ a)
    from-object own_object own_key apart k k1 keys d0 (neither_read a) = both_stop a
    from-object own_object own_key apart k k1 keys d0 not_called = outside

-- PARENTHESES: what stands in them avoids what they do

abbrev pub aimed_at : Bool → Bool → Take
aimed_at form more = take (record { level = a_target; form = form }) more

pub record StrippedAvoids (bad : Level → Text → Bool) (t : Tree) : Type 0 where
  pub form : Bool
  pub more : Bool
  pub avoided : avoids bad (aimed_at form more) (without_parens t) ≡ true

pub stripped-avoids : (bad : Level → Text → Bool) (form more : Bool) (t : Tree) → avoids bad (aimed_at form more) t ≡ true → StrippedAvoids bad t
stripped-avoids bad form more (node ParenthesizedExpression l (one t then fs)) h =
    let k = stripped-avoids bad false false t (both_left (avoids bad (aimed_at false false) t) (avoids_fields bad (λ i. aimed_at false false) fs) h) in
    record { form = k.form; more = k.more; avoided = k.avoided }
stripped-avoids bad form more (node ParenthesizedExpression l (missing then fs)) h = record { form = form; more = more; avoided = h }
stripped-avoids bad form more (node ParenthesizedExpression l (many ts then fs)) h = record { form = form; more = more; avoided = h }
stripped-avoids bad form more (node ParenthesizedExpression l (statements ts then fs)) h = record { form = form; more = more; avoided = h }
stripped-avoids bad form more (node ParenthesizedExpression l done) h = record { form = form; more = more; avoided = h }
stripped-avoids bad form more (node _ l fs) h = record { form = form; more = more; avoided = h }

-- NAMES: one that stands first, or later, is one of them all

pub first-of : (xs ys : List Text) (y : Text) → one_of xs y ≡ true → one_of (xs ++ ys) y ≡ true
first-of xs ys y h = rw (list_any-append (λ x. bytes_eq y x) xs ys, h) refl

or-true : (b : Bool) → (b || true) ≡ true
or-true true = refl
or-true false = refl

pub later-of : (xs ys : List Text) (y : Text) → one_of ys y ≡ true → one_of (xs ++ ys) y ≡ true
later-of xs ys y h = rw (list_any-append (λ x. bytes_eq y x) xs ys, h) (or-true (one_of xs y))

-- THE ROW

module _ (no_all : Bool) (u : Supply) (plain : is_core_supply u ≡ true) (xs : List Text) (steady : Text → Bool) (own : (y : Text) → steady y ≡ true → is_own_cell y ≡ false) (quiet : Quiet (temporaries_frame true xs)) (stack : StackSeen (temporaries_frame true xs)) (seen : SupplySeen (temporaries_frame true xs) u)
    (w v : World) (same : SameWorld (among_names xs) w v) (ds : List Declared) (known : WorldsKnown no_all true xs ds w v) (bound : (y : Text) → steady y ≡ true → is_free (w.scope y) ≡ false) where
  abbrev hidden : Text → Bool
  hidden = among_names xs

  abbrev bad : Level → Text → Bool
  bad = bad_names hidden steady

  abbrev H : Frame
  H = set_cells hidden

  kept-value : (r : Tree) → avoids bad value_taken r ≡ true → (d : Text → Cell) → Alike (kept_cells hidden steady d) Equal (value w (core u w r)) (value v (core u v r))
  kept-value r h d = value-kept no_all u plain xs steady own quiet stack seen w v same ds known d value_taken refl r h

  -- what the result does
  result-value : (m : Label) (op : Text) (begin again r : Tree) → is_core_target (sense (placed_at u v [] []) again).more ≡ true → (z : State) →
      value v (core u v (assigned_where m op begin again r)) z ≡ onward (value v (core u v begin) z) (puts_again v (without_last op) (core u v r) (core u v again))
  result-value m op begin again r target z =
      rw (assignment-plain v (codes "=") (sense (placed_at u v [] []) again).more (sense (placed_at u v [] []) r) (assignment v (codes "=") (core u v again) (core u v r)) target)
      (plain_again v (onward (value v (core u v begin) z) (puts_again v (without_last op) (core u v r) (core u v again))))

  -- and what the source does
  abbrev source_meaning : Text → Tree → Tree → Meaning
  source_meaning op t r = assignment w op (core u w t) (core u w r)

  source-plain : (m : Label) (op : Text) (t r : Tree) → m.texts ≡ Some op ∷ [] → is_logical_assignment_operator op ≡ true → (ls : List Text) (x : Text) →
      sense (placed_at u w ls x) (node AssignmentExpression m (one t then one r then done)) ≡ plain_sense (source_meaning op t r)
  source-plain m op t r texts logical ls x = rw (ap first_text texts) (other-assignment w op (sense (placed_at u w [] []) t).more (sense (placed_at u w [] []) r) (source_meaning op t r) (logical-unequal op (is_logically op logical)))

  source-value : (op : Text) (t r : Tree) → is_logical_assignment_operator op ≡ true → single_parens t ≡ true → (s : State) →
      value w (source_meaning op t r) s ≡ onward ((core u w (without_parens t)).reference s) (assign_logical w (without_last op) (core u w r))
  source-value op t r logical single s = rw (is_logically op logical, stripped-sense u w t single) (plain_again w (onward ((core u w (without_parens t)).reference s) (assign_logical w (without_last op) (core u w r))))

  -- so the row is alike where what the source's target gives is read, and put to what is evaluated again
  row-like : (t : Take) (m : Label) (op : Text) (target begin again r : Tree) → m.texts ≡ Some op ∷ [] → is_logical_assignment_operator op ≡ true → single_parens target ≡ true → is_core_target (sense (placed_at u v [] []) again).more ≡ true →
      ((s z : State) → Agree H s z → Same H Equal (onward ((core u w (without_parens target)).reference s) (assign_logical w (without_last op) (core u w r))) (onward (value v (core u v begin) z) (puts_again v (without_last op) (core u v r) (core u v again)))) → (ls : List Text) (x : Text) →
      SenseLike H w v t (sense (placed_at u w ls x) (node AssignmentExpression m (one target then one r then done))) (sense (placed_at u v ls x) (assigned_where m op begin again r))
  row-like t m op target begin again r texts logical single plainly h ls x =
      subst (λ (e : Sense). SenseLike H w v t e (sense (placed_at u v ls x) (assigned_where m op begin again r))) (sym (source-plain m op target r texts logical ls x))
      (record {
        core = like_by_value hidden w v same t.need _ _ (λ s z a. rw (source-value op target r logical single s, result-value m op begin again r plainly z) (h s z a));
        more = λ _. same_nothing;
      })

  -- what is known of the node's parts
  pub record Parts (target r : Tree) : Type 0 where
    pub single : single_parens target ≡ true
    pub right : avoids bad value_taken r ≡ true
    pub left : StrippedAvoids bad target
    pub free : StrippedFree bad a_target target

  pub parts-of : (t : Take) (m : Label) (target r : Tree) → avoids bad t (node AssignmentExpression m (one target then one r then done)) ≡ true → all_nodes undeclaring (node AssignmentExpression m (one target then one r then done)) ≡ true → touches bad t.need (node AssignmentExpression m (one target then one r then done)) ≡ false → Parts target r
  parts-of t m target r avoided formed untouched = record {
    single = undeclaring_single target (and_left (all_nodes undeclaring target) (all_nodes undeclaring r && true) (and_right (undeclaring AssignmentExpression m (one target then (one r then done))) (all_nodes undeclaring target && (all_nodes undeclaring r && true)) formed));
    right = both_left (avoids bad value_taken r) true (both_right (avoids bad target_taken target) (avoids bad value_taken r && true) avoided);
    left = stripped-avoids bad true true target (both_left (avoids bad target_taken target) (avoids bad value_taken r && true) avoided);
    free = stripped_free bad a_target true target (or_left (touches bad the_target target) (touches bad the_value r || false) untouched);
  }

  -- a name
  name-row : (t : Take) (m l : Label) (op : Text) (target r : Tree) → m.texts ≡ Some op ∷ [] → is_logical_assignment_operator op ≡ true → without_parens target ≡ node Identifier l done → Parts target r → (ls : List Text) (x : Text) →
      SenseLike H w v t (sense (placed_at u w ls x) (node AssignmentExpression m (one target then one r then done))) (sense (placed_at u v ls x) (assigned_where m op (node Identifier l done) (node Identifier l done) r))
  name-row t m l op target r texts logical e p ls x =
      let y : Text = first_text l.texts in
      let good : avoids bad (aimed_at p.left.form p.left.more) (node Identifier l done) ≡ true = rw e at p.left.avoided in
      let seen_name : (hidden y || steady y) ≡ false = not_so (hidden y || steady y) (both_left (not (hidden y || steady y)) _ good) in
      row-like t m op target (node Identifier l done) (node Identifier l done) r texts logical p.single (said-target u plain (v.scope y)) (λ s z a. rw e
      (tested-put hidden steady w v same (without_last op) (core u w r) (core u v r) (kept-value r p.right) (named y) (name y) (cells z) (now_set hidden steady s z a) (target_name (or_left (hidden y) (steady y) seen_name) (or_right (hidden y) (steady y) seen_name)) (λ s2 z2 b. refl) s z (now_kept hidden steady s z a))) ls x

  -- what is written for members means members of what is written for their parts
  again-member : (computed : Bool) (o k : Tree) → Plainly (member v computed false (core u v o) (core u v k)) (sense (placed_at u v [] []) (member_node computed o k))
  again-member computed o k = member-plainly v [] [] u plain computed false (sense (placed_at u v [] []) o) (sense (placed_at u v [] []) k) (member v computed false (core u v o) (core u v k))

  abbrev object_taken : Label → Take
  object_taken l = take (object_need true (flag_after l.flags)) true

  -- the object of a member, evaluated once and read again
  record Object (l : Label) (o k : Tree) : Type 0 where
    form : Bool
    level : (object_taken l).need.level ≡ Level.value_alone
    avoided : avoids bad (object_taken l) o ≡ true
    free : touches bad (value_and_form form) o ≡ false
    key : avoids bad (take (key_need (flag l.flags)) false) k ≡ true
    key_free : touches bad (key_need (flag l.flags)) k ≡ false

  object-of : (computed : Bool) (l : Label) (o k target r : Tree) → without_parens target ≡ node MemberExpression l (one o then one k then done) → l.flags ≡ computed ∷ false ∷ [] → Parts target r → Object l o k
  object-of computed l o k target r e flags p =
      let good : avoids bad (aimed_at p.left.form p.left.more) (node MemberExpression l (one o then one k then done)) ≡ true = rw e at p.left.avoided in
      let free : touches bad (record { level = a_target; form = p.free.form }) (node MemberExpression l (one o then one k then done)) ≡ false = rw e at p.free.free in
      record {
        form = p.free.form;
        level = ap (λ fs. object_level (flag_after fs)) flags;
        avoided = both_left (avoids bad (object_taken l) o) (avoids bad (take (key_need (flag l.flags)) false) k && true) good;
        free = object_free hidden steady p.free.form (flag_after l.flags) o (or_left (touches bad (object_need p.free.form (flag_after l.flags)) o) (touches bad (key_need (flag l.flags)) k || false) free);
        key = both_left (avoids bad (take (key_need (flag l.flags)) false) k) true (both_right (avoids bad (object_taken l) o) (avoids bad (take (key_need (flag l.flags)) false) k && true) good);
        key_free = or_left (touches bad (key_need (flag l.flags)) k) false (or_right (touches bad (object_need p.free.form (flag_after l.flags)) o) (touches bad (key_need (flag l.flags)) k || false) free);
      }

  doubled : {in_use : Text → Bool} {ys : List Text} {e e1 e2 : Tree} → IsDuplicated steady in_use ys e e1 e2 → ((y : Text) → one_of ys y ≡ true → hidden y ≡ true) → (t : Take) → t.need.level ≡ Level.value_alone → avoids bad t e ≡ true → (d0 : Text → Cell) → AllSet hidden d0 → (s z : State) → Agree (kept_cells hidden steady d0) s z →
      Twice hidden steady v (one_of ys) d0 (core u v e2) (read_names e2) (value w (core u w e) s) (value v (core u v e1) z)
  doubled = doubled-twice no_all u plain xs steady own quiet stack seen w v same ds known bound

  -- a member whose key is told
  static-row : {in_use : Text → Bool} (t : Take) (m l k : Label) (op : Text) (target r o o1 o2 : Tree) → m.texts ≡ Some op ∷ [] → is_logical_assignment_operator op ≡ true → without_parens target ≡ node MemberExpression l (one o then one (node Identifier k done) then done) → l.flags ≡ false ∷ false ∷ [] →
      IsDuplicated steady in_use xs o o1 o2 → Parts target r → (ls : List Text) (x : Text) →
      SenseLike H w v t (sense (placed_at u w ls x) (node AssignmentExpression m (one target then one r then done))) (sense (placed_at u v ls x) (assigned_where m op (member_node false o1 (node Identifier k done)) (member_node false o2 (node Identifier k done)) r))
  static-row t m l k op target r o o1 o2 texts logical e flags object p ls x =
      let kt : Text = first_text k.texts in
      let key : Tree = node Identifier k done in
      let q = object-of false l o key target r e flags p in
      row-like t m op target (member_node false o1 key) (member_node false o2 key) r texts logical p.single (again-member false o2 key).target (λ s z a. rw (e, member-core u plain w l o key, ap flag flags, ap flag_after flags, (again-member false o1 key).core, (again-member false o2 key).core)
      (from-object hidden steady w v same (without_last op) (core u w r) (core u v r) (kept-value r p.right)
      false (core u v o2) (name kt) (literal (text kt) other) (λ z. refl) (read_names o2) none_hidden
      (λ y i. read_kept hidden steady xs (λ c j. j) y (read_from hidden steady q.form object q.free y i)) (λ y i. absurd (cc i))
      (one_of xs) none_hidden (λ y i. refl) (name kt) (name kt) (λ d set s2 z2 b. both_read (text kt) d set (λ y i. refl) (λ z h. refl) b)
      (cells z) (doubled object (λ c j. j) (object_taken l) q.level q.avoided (cells z) (now_set hidden steady s z a) s z (now_kept hidden steady s z a)))) ls x

  -- and one whose key is evaluated
  computed-row : {in_use : Text → Bool} (t : Take) (m l : Label) (op : Text) (ys zs : List Text) (target r o o1 o2 k k1 k2 : Tree) → m.texts ≡ Some op ∷ [] → is_logical_assignment_operator op ≡ true → without_parens target ≡ node MemberExpression l (one o then one k then done) → l.flags ≡ true ∷ false ∷ [] →
      IsDuplicated steady in_use ys o o1 o2 → IsDuplicated steady (also_all ys in_use) zs k k1 k2 → ((y : Text) → one_of ys y ≡ true → hidden y ≡ true) → ((y : Text) → one_of zs y ≡ true → hidden y ≡ true) → Parts target r → (ls : List Text) (x : Text) →
      SenseLike H w v t (sense (placed_at u w ls x) (node AssignmentExpression m (one target then one r then done))) (sense (placed_at u v ls x) (assigned_where m op (member_node true o1 k1) (member_node true o2 k2) r))
  computed-row {in_use} t m l op ys zs target r o o1 o2 k k1 k2 texts logical e flags object index cover_o cover_k p ls x =
      let q = object-of true l o k target r e flags p in
      let key_good : avoids bad (take (key_need true) false) k ≡ true = rw (ap flag flags) at q.key in
      let key_free : touches bad (value_and_form false) k ≡ false = rw (ap flag flags) at q.key_free in
      row-like t m op target (member_node true o1 k1) (member_node true o2 k2) r texts logical p.single (again-member true o2 k2).target (λ s z a. rw (e, member-core u plain w l o k, ap flag flags, ap flag_after flags)
      (from-object hidden steady w v same (without_last op) (core u w r) (core u v r) (kept-value r p.right)
      true (core u v o2) (core u v k2) (core u v k2) (λ z. refl) (read_names o2) (read_names k2)
      (λ y i. read_kept hidden steady ys cover_o y (read_from hidden steady q.form object q.free y i)) (λ y i. read_kept hidden steady zs cover_k y (read_from hidden steady false index key_free y i))
      (one_of ys) (one_of zs) (λ y i. read_apart hidden steady ys in_use index cover_k y (read_from hidden steady q.form object q.free y i))
      (core u w k) (core u v k1) (λ d set s2 z2 b. doubled index cover_k value_taken refl key_good d set s2 z2 b)
      (cells z) (doubled object cover_o (object_taken l) q.level q.avoided (cells z) (now_set hidden steady s z a) s z (now_kept hidden steady s z a)))) ls x

-- the rule at a node of which that is known
pub assigning-like : (no_all : Bool) (u : Supply) → is_core_supply u ≡ true → (xs : List Text) (steady in_use : Text → Bool) → ((y : Text) → steady y ≡ true → is_own_cell y ≡ false) → Quiet (temporaries_frame true xs) → StackSeen (temporaries_frame true xs) → SupplySeen (temporaries_frame true xs) u →
    (w v : World) → SameWorld (among_names xs) w v → (ds : List Declared) → WorldsKnown no_all true xs ds w v → ((y : Text) → steady y ≡ true → is_free (w.scope y) ≡ false) → (t : Take) (a b : Tree) → LogicalAssignmentRule steady in_use xs t.need a b →
    avoids (bad_names (among_names xs) steady) t a ≡ true → all_nodes undeclaring a ≡ true → touches (bad_names (among_names xs) steady) t.need a ≡ false → (ls : List Text) (x : Text) → SenseLike (set_cells (among_names xs)) w v t (sense (placed_at u w ls x) a) (sense (placed_at u v ls x) b)
assigning-like no_all u plain _ steady in_use own quiet stack seen w v same ds known bound t _ _ (to_name {m = m} {l = l} {t = target} {r = r} {op = op} texts logical e) avoided formed untouched ls x =
    name-row no_all u plain [] steady own quiet stack seen w v same ds known bound t m l op target r texts logical e (parts-of no_all u plain [] steady own quiet stack seen w v same ds known bound t m target r avoided formed untouched) ls x
assigning-like no_all u plain xs steady in_use own quiet stack seen w v same ds known bound t _ _ (to_static_member {m = m} {l = l} {k = k} {t = target} {r = r} {o = o} {o1 = o1} {o2 = o2} {op = op} texts logical e flags object) avoided formed untouched ls x =
    static-row no_all u plain xs steady own quiet stack seen w v same ds known bound t m l k op target r o o1 o2 texts logical e flags object (parts-of no_all u plain xs steady own quiet stack seen w v same ds known bound t m target r avoided formed untouched) ls x
assigning-like no_all u plain _ steady in_use own quiet stack seen w v same ds known bound t _ _ (to_computed_member {m = m} {l = l} {t = target} {r = r} {o = o} {o1 = o1} {o2 = o2} {k = k} {k1 = k1} {k2 = k2} {op = op} {xs = ys} {ys = zs} texts logical e flags object index) avoided formed untouched ls x =
    computed-row no_all u plain (ys ++ zs) steady own quiet stack seen w v same ds known bound t m l op ys zs target r o o1 o2 k k1 k2 texts logical e flags object index (first-of ys zs) (later-of ys zs) (parts-of no_all u plain (ys ++ zs) steady own quiet stack seen w v same ds known bound t m target r avoided formed untouched) ls x
