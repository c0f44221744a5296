-- What slots are wrapped for, and what not.
use Rattle.std.proofs.Common.{◌≡◌, ◌&&◌, ◌||◌, Bool, true, false, [], ◌∷◌, refl, sym, true≢false}
use Rattle.std.specs.Prelude.{is_some}
use Rattle.std.proofs.lemmas.Bool.{and_left, and_right, or_from, or_right}
use Rattle.es_tree.specs.Constructs.{field_at, is_chain, is_exponentiation, is_logical_assignment, is_nullish_coalescing}
use Rattle.es_tree.specs.HasForm.{same_type}
use Rattle.es_tree.specs.Tree.{node, Label, Fields, done, ◌then◌, one, label_of}
use Rattle.es_tree.specs.Words.{Text}
use Rattle.es_tree.specs.declared.ast_type.AstType.{AstType}
use Rattle.es_tree.specs.declared.ast_type.AstType.TheVariants.{AssignmentExpression, Identifier, MemberExpression}
use Rattle.es_tree.specs.declared.options.EnvOptions.{EnvOptions}
use Rattle.es_runs.specs.Rules.{member_node}
use Rattle.es_steps.specs.Nodes.{made, word}
use Rattle.es_steps.specs.Slots.{closes, holds, holds_fields}
use Rattle.es_tree.specs.RestTargets.{is_rest_target}
use Rattle.es_steps.specs.WrapRule.{is_wrapped_for, takes_for_target}

five-none : (a b c d e : Bool) → a ≡ false → b ≡ false → c ≡ false → d ≡ false → e ≡ false → ((((a || b) || c) || d) || e) ≡ false
five-none a b c d e ha hb hc hd he = or_from (((a || b) || c) || d) e (or_from ((a || b) || c) d (or_from (a || b) c (or_from a b ha hb) hc) hd) he

both-right : (a b c : Bool) → (b && c) ≡ false → ((a && b) && c) ≡ false
both-right true b c e = e
both-right false b c e = refl

-- a node that is no construct that is wrapped for; where `??` is lowered alone it must be none of that
pub unwrapped : (o : EnvOptions) (k : AstType) (l : Label) (fs : Fields) → (o.es2020.nullish_coalescing_operator && is_nullish_coalescing k l fs) ≡ false → is_chain k l fs ≡ false → is_exponentiation k l fs ≡ false → is_logical_assignment k l fs ≡ false → (same_type k AssignmentExpression && is_rest_target (field_at 0 fs)) ≡ false → is_wrapped_for o k l fs ≡ false
unwrapped o k l fs nullish chain power logical rest =
    five-none (o.es2020.nullish_coalescing_operator && is_nullish_coalescing k l fs) (o.es2020.optional_chaining && is_chain k l fs) ((o.es2016.exponentiation_operator && same_type k AssignmentExpression) && is_exponentiation k l fs) ((o.es2021.logical_assignment_operators && is_logical_assignment k l fs) && takes_for_target o l fs) ((is_some o.es2018.object_rest_spread && same_type k AssignmentExpression) && is_rest_target (field_at 0 fs))
    nullish
    (and_right o.es2020.optional_chaining (is_chain k l fs) chain)
    (and_right (o.es2016.exponentiation_operator && same_type k AssignmentExpression) (is_exponentiation k l fs) power)
    (and_left (o.es2021.logical_assignment_operators && is_logical_assignment k l fs) (takes_for_target o l fs) (and_right o.es2021.logical_assignment_operators (is_logical_assignment k l fs) logical))
    (both-right (is_some o.es2018.object_rest_spread) (same_type k AssignmentExpression) (is_rest_target (field_at 0 fs)) rest)

pub no-nullish : (o : EnvOptions) → (o.es2020.nullish_coalescing_operator && false) ≡ false
no-nullish o = and_right o.es2020.nullish_coalescing_operator false refl

-- CONSTRUCTS that are wrapped for

module _ (a b : Bool) where
  by-second : (c d e : Bool) → b ≡ true → ((((a || b) || c) || d) || e) ≡ true
  by-second c d e h = at a
    where
      at : (x : Bool) → ((((x || b) || c) || d) || e) ≡ true
      at true = refl
      at false = rw h refl

  by-third : (c d e : Bool) → c ≡ true → ((((a || b) || c) || d) || e) ≡ true
  by-third c d e h = at (a || b)
    where
      at : (x : Bool) → (((x || c) || d) || e) ≡ true
      at true = refl
      at false = rw h refl

  by-fourth : (c d e : Bool) → d ≡ true → ((((a || b) || c) || d) || e) ≡ true
  by-fourth c d e h = at ((a || b) || c)
    where
      at : (x : Bool) → ((x || d) || e) ≡ true
      at true = refl
      at false = rw h refl

pub either-way : (a b : Bool) → a ≡ true → (a || b) ≡ true
either-way true b e = refl
either-way false b e = absurd (true≢false (sym e))

pub two-hold-none : (x a b : Bool) → x ≡ false → a ≡ false → b ≡ false → (x || (a || (b || false))) ≡ false
two-hold-none x a b e d h = rw (e, d, h) refl

module _ (o : EnvOptions) where
  -- a name
  pub name-holds : (l : Label) → holds (is_wrapped_for o) (node Identifier l done) ≡ false
  name-holds l = rw (unwrapped o Identifier l done (no-nullish o) refl refl refl refl) refl

  -- `x.y`, of words
  pub static-holds : (x y : Text) → holds (is_wrapped_for o) (member_node false (word x) (word y)) ≡ false
  static-holds x y =
      let l = made [] (false ∷ false ∷ []) in
      let fs = one (word x) then one (word y) then done in
      two-hold-none (is_wrapped_for o MemberExpression l fs) (holds (is_wrapped_for o) (word x)) (holds (is_wrapped_for o) (word y)) (unwrapped o MemberExpression l fs (no-nullish o) refl refl refl refl) (name-holds (label_of (word x))) (name-holds (label_of (word y)))

module _ (o : EnvOptions) (k : AstType) (l : Label) (fs : Fields) where
  abbrev pub wraps_nullish : Bool
  wraps_nullish = o.es2020.nullish_coalescing_operator && is_nullish_coalescing k l fs

  abbrev pub wraps_chain : Bool
  wraps_chain = o.es2020.optional_chaining && is_chain k l fs

  abbrev pub wraps_power : Bool
  wraps_power = o.es2016.exponentiation_operator && same_type k AssignmentExpression && is_exponentiation k l fs

  abbrev pub wraps_logical : Bool
  wraps_logical = o.es2021.logical_assignment_operators && is_logical_assignment k l fs && takes_for_target o l fs

  abbrev pub wraps_rest : Bool
  wraps_rest = is_some o.es2018.object_rest_spread && same_type k AssignmentExpression && is_rest_target (field_at 0 fs)

  pub chain-holds : wraps_chain ≡ true → holds (is_wrapped_for o) (node k l fs) ≡ true
  chain-holds h = either-way (is_wrapped_for o k l fs) (holds_fields (is_wrapped_for o) (closes k) fs) (by-second wraps_nullish wraps_chain wraps_power wraps_logical wraps_rest h)

  pub power-holds : wraps_power ≡ true → holds (is_wrapped_for o) (node k l fs) ≡ true
  power-holds h = either-way (is_wrapped_for o k l fs) (holds_fields (is_wrapped_for o) (closes k) fs) (by-third wraps_nullish wraps_chain wraps_power wraps_logical wraps_rest h)

  pub logical-holds : wraps_logical ≡ true → holds (is_wrapped_for o) (node k l fs) ≡ true
  logical-holds h = either-way (is_wrapped_for o k l fs) (holds_fields (is_wrapped_for o) (closes k) fs) (by-fourth wraps_nullish wraps_chain wraps_power wraps_logical wraps_rest h)

  pub rest-holds : wraps_rest ≡ true → holds (is_wrapped_for o) (node k l fs) ≡ true
  rest-holds h = either-way (is_wrapped_for o k l fs) (holds_fields (is_wrapped_for o) (closes k) fs) (or_right (((wraps_nullish || wraps_chain) || wraps_power) || wraps_logical) wraps_rest h)
