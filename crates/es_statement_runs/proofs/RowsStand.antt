-- What the rows of es_runs make of nodes over operands stands over these operands too.
use Rattle.std.proofs.Common.{◌≡◌, refl, List, [], ◌∷◌, ◌++◌, ap}
use Rattle.std.specs.Prelude.{Bool, true, false, ◌&&◌}
use Rattle.es_tree.specs.Words.{Text}
use Rattle.es_tree.specs.Parens.{without_parens}
use Rattle.es_tree.specs.Tree.{Tree, node, Label, Fields, done, ◌then◌, one, many, Trees, empty, ◌before◌, kind_of, trees}
use Rattle.es_tree.specs.declared.ast_type.AstType.TheVariants.{AssignmentExpression, Identifier, PrivateIdentifier}
use Rattle.es_runs.specs.Alike.{Need}
use Rattle.es_runs.specs.Core.{is_pattern}
use Rattle.es_runs.specs.Duplication.{IsDuplicated}
use Rattle.es_runs.specs.Duplication.IsDuplicated.{read_again, by_temporary}
use Rattle.es_runs.specs.Exponentiation.{ExponentiationRule, Holds, TargetTwice, assigned_power, power_at, power_node}
use Rattle.es_runs.specs.Exponentiation.ExponentiationRule.{power, power_assignment}
use Rattle.es_runs.specs.Exponentiation.Holds.{where_it_is, in_temporary}
use Rattle.es_runs.specs.Exponentiation.TargetTwice.{bound_name, other_name, static_member, private_member, literal_key, other_key}
use Rattle.es_runs.specs.LogicalAssignment.{LogicalAssignmentRule}
use Rattle.es_runs.specs.LogicalAssignment.LogicalAssignmentRule.{to_name, to_static_member, to_computed_member}
use Rattle.es_runs.specs.OptionalChaining.{OptionalChainingRule}
use Rattle.es_runs.specs.Rules.{assign_node}
use Rattle.es_runs.specs.Runs.{identifier}
use Rattle.es_runs.proofs.OptionalChainingFacts.{ChainPassesOn, optional_chaining_good}
use Rattle.es_runs.proofs.RowFacts.{below_parens, none_asked}
use Rattle.es_runs.proofs.Stripped.{stripped_pattern}
use Rattle.es_statement_runs.specs.Operands.{fields_over, stands_over, trees_over}
use Rattle.es_statement_runs.proofs.Everywhere.{both_left, both_right}

module _ (good : Tree → Bool) where
  abbrev Stands : Tree → Type 0
  Stands t = stands_over good t ≡ true

  abbrev AnyName : Text → Type 0
  AnyName x = Unit {0}

  first_of : (t : Tree) (fs : Fields) → (stands_over good t && fields_over good fs) ≡ true → Stands t
  first_of t fs h = both_left (stands_over good t) (fields_over good fs) h

  second_of : (t u : Tree) (fs : Fields) → (stands_over good t && (stands_over good u && fields_over good fs)) ≡ true → Stands u
  second_of t u fs h = both_left (stands_over good u) (fields_over good fs) (both_right (stands_over good t) (stands_over good u && fields_over good fs) h)

  both : (a b : Bool) → a ≡ true → b ≡ true → (a && (b && true)) ≡ true
  both a b h g = rw (h, g) refl

  called : (f : Tree) (ts : Trees) → Stands f → trees_over good ts ≡ true → (stands_over good f && (trees_over good ts && true)) ≡ true
  called f ts h g = both (stands_over good f) (trees_over good ts) h g

  arguments_of : (f : Tree) (ts : Trees) → (stands_over good f && (trees_over good ts && true)) ≡ true → trees_over good ts ≡ true
  arguments_of f ts h = both_left (trees_over good ts) true (both_right (stands_over good f) (trees_over good ts && true) h)

  in_front : (t : Tree) (ts : Trees) → Stands t → trees_over good ts ≡ true → trees_over good (t before ts) ≡ true
  in_front t ts h g = rw (h, g) refl

  -- CHAINS

  chains_stand : ChainPassesOn Stands AnyName
  chains_stand = record {
    inside = λ l t fs h. first_of t fs h;
    content = λ l t h. first_of t done h;
    operand = λ l t h. first_of t done h;
    object = λ l o p h. first_of o (one p then done) h;
    callee = λ l f ts h. first_of f (many ts then done) h;
    member = λ l computed optional o q p e h g. both (stands_over good q) (stands_over good p) g (second_of o p done h);
    call = λ l f q ts h g. called q ts g (arguments_of f ts h);
    call_with = λ l f q r ts h g k. called q (r before ts) g (in_front r ts k (arguments_of f ts h));
    name = λ x fine. refl;
    takes = λ x e fine h. both true (stands_over good e) refl h;
    static_member = λ c y h. both (stands_over good c) true h refl;
    call_one = λ c r h g. called c (r before empty) h (in_front r empty g refl);
    this = refl;
    null = refl;
    void_zero = refl;
    truth = refl;
    equals = λ l r h g. both (stands_over good l) (stands_over good r) h g;
    loosely_equals = λ l r h g. both (stands_over good l) (stands_over good r) h g;
    or = λ l r h g. both (stands_over good l) (stands_over good r) h g;
    choice = λ m t a b h g k. rw (h, g, k) refl;
    deletes = λ e h. rw h refl;
  }

  pub chaining_stands : {no_all : Bool} {bound steady in_use : Text → Bool} {xs : List Text} {n : Need} {a b : Tree} → OptionalChainingRule no_all bound steady in_use xs n a b → Stands a → Stands b
  chaining_stands {no_all} {bound} {steady} {in_use} {xs} r h = optional_chaining_good Stands AnyName chains_stand no_all bound steady in_use r (none_asked xs) h

  -- ASSIGNMENTS

  record Sides (t r : Tree) : Type 0 where
    target : Stands (without_parens t)
    right : Stands r

  sides : (m : Label) (t r : Tree) → is_pattern (kind_of (without_parens t)) ≡ false → Stands (node AssignmentExpression m (one t then (one r then done))) → Sides t r
  sides m t r e h =
      let k : (stands_over good t && (stands_over good r && true)) ≡ true = rw (stripped_pattern t e) at h in
      record { target = below_parens Stands (λ l u fs g. first_of u fs g) t (first_of t (one r then done) k); right = second_of t r done k }

  record Twice (first again : Tree) : Type 0 where
    begins : Stands first
    goes_on : Stands again

  duplicated : {again in_use : Text → Bool} {xs : List Text} {e e1 e2 : Tree} → IsDuplicated again in_use xs e e1 e2 → Stands e → Twice e1 e2
  duplicated (read_again h) g = record { begins = g; goes_on = g }
  duplicated (by_temporary {e = e} {x = x} h fresh) g = record { begins = both true (stands_over good e) refl g; goes_on = refl }

  pub assigning_stands : {steady in_use : Text → Bool} {xs : List Text} {n : Need} {a b : Tree} → LogicalAssignmentRule steady in_use xs n a b → Stands a → Stands b
  assigning_stands (to_name {m = m} {l = l} {t = t} {r = r} texts op target) h =
      let s = sides m t r (ap (λ u. is_pattern (kind_of u)) target) h in rw s.right refl
  assigning_stands (to_static_member {m = m} {l = l} {k = k} {t = t} {r = r} {o = o} texts op target flags object) h =
      let s = sides m t r (ap (λ u. is_pattern (kind_of u)) target) h in
      let d = duplicated object (first_of o (one (node Identifier k done) then done) (rw target at s.target)) in
      rw (d.begins, d.goes_on, s.right) refl
  assigning_stands (to_computed_member {m = m} {l = l} {t = t} {r = r} {o = o} {k = k} texts op target flags object key) h =
      let s = sides m t r (ap (λ u. is_pattern (kind_of u)) target) h in
      let d = duplicated object (first_of o (one k then done) (rw target at s.target)) in
      let i = duplicated key (second_of o k done (rw target at s.target)) in
      rw (d.begins, d.goes_on, i.begins, i.goes_on, s.right) refl

  -- EXPONENTIATION

  abbrev AllStand : List Tree → Type 0
  AllStand fs = trees_over good (trees fs) ≡ true

  more_stand : (fs gs : List Tree) → AllStand fs → AllStand gs → AllStand (fs ++ gs)
  more_stand [] gs h g = g
  more_stand (f ∷ fs) gs h g = rw (both_left (stands_over good f) (trees_over good (trees fs)) h, more_stand fs gs (both_right (stands_over good f) (trees_over good (trees fs)) h) g) refl

  record Held (fs : List Tree) (o : Tree) : Type 0 where
    front : AllStand fs
    read : Stands o

  stored : (x : Text) (o : Tree) → Stands o → AllStand (assign_node (identifier x) o ∷ [])
  stored x o h = rw h refl

  object_held : {bound in_use : Text → Bool} {xs : List Text} {fs : List Tree} {o o' : Tree} → Holds bound in_use xs fs o o' → Stands o → Held fs o'
  object_held (where_it_is e) h = record { front = refl; read = h }
  object_held (in_temporary {o = o} {x = x} e fresh) h = record { front = stored x o h; read = refl }

  record Target (fs : List Tree) (target read : Tree) : Type 0 where
    front : AllStand fs
    unpatterned : is_pattern (kind_of target) ≡ false
    written : Stands target
    read_too : Stands read

  target_plain : {bound in_use : Text → Bool} {xs : List Text} {fs : List Tree} {t target read : Tree} → TargetTwice bound in_use xs fs t target read → is_pattern (kind_of t) ≡ false
  target_plain (bound_name e) = refl
  target_plain (other_name e f) = refl
  target_plain (static_member e h) = refl
  target_plain (private_member e h) = refl
  target_plain (literal_key e k h) = refl
  target_plain (other_key e k h f) = refl

  member_target : (fs : List Tree) (computed : Bool) (o p : Tree) → AllStand fs → Stands o → Stands p → Target fs (Rattle.es_runs.specs.Rules.member_node computed o p) (Rattle.es_runs.specs.Rules.member_node computed o p)
  member_target fs computed o p f h g = record { front = f; unpatterned = refl; written = both (stands_over good o) (stands_over good p) h g; read_too = both (stands_over good o) (stands_over good p) h g }

  target_held : {bound in_use : Text → Bool} {xs : List Text} {fs : List Tree} {t target read : Tree} → TargetTwice bound in_use xs fs t target read → Stands t → Target fs target read
  target_held (bound_name e) h = record { front = refl; unpatterned = refl; written = refl; read_too = refl }
  target_held (other_name {l = l} {x = x} e fresh) h = record { front = stored x (node Identifier l done) refl; unpatterned = refl; written = refl; read_too = refl }
  target_held (static_member {k = k} {o = o} {o' = o'} {fs = fs} flags holds_object) h = let d = object_held holds_object (first_of o (one (node Identifier k done) then done) h) in member_target fs true o' _ d.front d.read refl
  target_held (private_member {k = k} {o = o} flags holds_object) h = absurd (cc (second_of o (node PrivateIdentifier k done) done h))
  target_held (literal_key {o = o} {o' = o'} {k = k} {fs = fs} flags literal holds_object) h = let d = object_held holds_object (first_of o (one k then done) h) in member_target fs true o' k d.front d.read (second_of o k done h)
  target_held (other_key {o = o} {o' = o'} {k = k} {fs = fs} {y = y} flags literal holds_object fresh) h =
      let d = object_held holds_object (first_of o (one k then done) h) in
      member_target (fs ++ assign_node (identifier y) k ∷ []) true o' (identifier y) (more_stand fs (assign_node (identifier y) k ∷ []) d.front (stored y k (second_of o k done h))) d.read refl

  power_stands : (m : Label) (l r : Tree) → Stands l → Stands r → Stands (power_at m l r)
  power_stands m l r h g = rw (h, g) refl

  assigned_stands : (m : Label) (fs : List Tree) (target read r : Tree) → Target fs target read → Stands r → Stands (assigned_power m fs target read r)
  assigned_stands m [] target read r d h = rw (d.unpatterned, d.written, d.read_too, h) refl
  assigned_stands m (f ∷ fs) target read r d h =
      let last : AllStand (assign_node target (power_node read r) ∷ []) = rw (d.unpatterned, d.written, d.read_too, h) refl in
      rw (more_stand (f ∷ fs) (assign_node target (power_node read r) ∷ []) d.front last) refl

  pub raising_stands : {bound in_use : Text → Bool} {xs : List Text} {n : Need} {a b : Tree} → ExponentiationRule bound in_use xs n a b → Stands a → Stands b
  raising_stands (power {m = m} {l = l} {r = r} texts left right) h = power_stands m l r (first_of l (one r then done) h) (second_of l r done h)
  raising_stands (power_assignment {m = m} {t = t} {r = r} {target = target} {read = read} {fs = fs} texts right twice) h =
      let s = sides m t r (target_plain twice) h in assigned_stands m fs target read r (target_held twice s.target) s.right
