-- What a slot is wrapped for is asked of a node and of some of its parts: a big integer, a private name, a member that is a target, and a
-- rest. No step turns a node into one of these, or one of these into something else, but for what stands in a slot.
use Rattle.std.proofs.Common.{◌≡◌, ℕ, refl, sym, ◌∙◌}
use Rattle.std.specs.Prelude.{◌&&◌, ◌||◌, not, Bool, true, false, bytes_eq, codes, is_some}
use Rattle.es_tree.specs.Constructs.{field_at, has_member, is_big_int, is_chain, is_child, is_exponentiation, is_nullish_coalescing, is_private_name, is_private_target, is_rest}
use Rattle.es_tree.specs.Names.{first_text}
use Rattle.es_tree.specs.Tree.{Tree, node, Label, Fields, done, ◌then◌, Field, missing, one, many, statements, Trees, kind_of}
use Rattle.es_tree.specs.declared.ast_type.AstType.{AstType}
use Rattle.es_tree.specs.declared.ast_type.AstType.TheVariants.{AssignmentExpression, BigIntLiteral, MemberExpression, ObjectTarget, ParenthesizedExpression, PrivateIdentifier, RestElement, TargetRest}
use Rattle.es_tree.specs.declared.options.EnvOptions.{EnvOptions}
use Rattle.es_tree.specs.RestTargets.{is_rest_target}
use Rattle.es_steps.specs.WrapRule.{is_member_target, is_wrapped_for, takes_for_target}

-- a field that nodes around see as before
pub record SeenAlike (f g : Field) : Type 0 where
  pub big : is_child is_big_int g ≡ is_child is_big_int f
  pub name : is_child is_private_name g ≡ is_child is_private_name f
  pub rest : is_child is_rest g ≡ is_child is_rest f
  pub rests : has_member is_rest g ≡ has_member is_rest f
  pub member : is_member_target g ≡ is_member_target f
  pub private : is_private_target g ≡ is_private_target f
  pub rest_target : is_rest_target g ≡ is_rest_target f

pub seen-same : (f : Field) → SeenAlike f f
seen-same f = record { big = refl; name = refl; rest = refl; rests = refl; member = refl; private = refl; rest_target = refl }

-- lists, of which rests are seen alone
pub seen-many : (ts us : Trees) → has_member is_rest (many us) ≡ has_member is_rest (many ts) → SeenAlike (many ts) (many us)
seen-many ts us e = record { big = refl; name = refl; rest = refl; rests = e; member = refl; private = refl; rest_target = refl }

pub seen-statements : (ts us : Trees) → SeenAlike (statements ts) (statements us)
seen-statements ts us = record { big = refl; name = refl; rest = refl; rests = refl; member = refl; private = refl; rest_target = refl }

-- WHAT RULES ACT ON AND LEAVE is nothing of that

abbrev pub is_seen : AstType → Bool
is_seen BigIntLiteral = true
is_seen MemberExpression = true
is_seen ObjectTarget = true
is_seen ParenthesizedExpression = true
is_seen PrivateIdentifier = true
is_seen RestElement = true
is_seen TargetRest = true
is_seen _ = false

no-big : (t : Tree) → is_seen (kind_of t) ≡ false → is_child is_big_int (one t) ≡ false
no-big (node BigIntLiteral l fs) e = absurd (cc e)
no-big (node _ l fs) e = refl

no-name : (t : Tree) → is_seen (kind_of t) ≡ false → is_child is_private_name (one t) ≡ false
no-name (node PrivateIdentifier l fs) e = absurd (cc e)
no-name (node _ l fs) e = refl

no-rest : (t : Tree) → is_seen (kind_of t) ≡ false → is_child is_rest (one t) ≡ false
no-rest (node RestElement l fs) e = absurd (cc e)
no-rest (node TargetRest l fs) e = absurd (cc e)
no-rest (node _ l fs) e = refl

no-member : (t : Tree) → is_seen (kind_of t) ≡ false → is_member_target (one t) ≡ false
no-member (node MemberExpression l fs) e = absurd (cc e)
no-member (node ParenthesizedExpression l fs) e = absurd (cc e)
no-member (node _ l fs) e = refl

no-private : (t : Tree) → is_seen (kind_of t) ≡ false → is_private_target (one t) ≡ false
no-private (node MemberExpression l fs) e = absurd (cc e)
no-private (node ParenthesizedExpression l fs) e = absurd (cc e)
no-private (node _ l fs) e = refl

no-target : (t : Tree) → is_seen (kind_of t) ≡ false → is_rest_target (one t) ≡ false
no-target (node ObjectTarget l fs) e = absurd (cc e)
no-target (node _ l fs) e = refl

pub unseen-alike : (t u : Tree) → is_seen (kind_of t) ≡ false → is_seen (kind_of u) ≡ false → SeenAlike (one t) (one u)
unseen-alike t u e d = record {
  big = no-big u d ∙ sym (no-big t e);
  name = no-name u d ∙ sym (no-name t e);
  rest = no-rest u d ∙ sym (no-rest t e);
  rests = refl;
  member = no-member u d ∙ sym (no-member t e);
  private = no-private u d ∙ sym (no-private t e);
  rest_target = no-target u d ∙ sym (no-target t e);
}

-- A NODE whose fields took a step

parens-member : (l : Label) (fs : Fields) → is_member_target (one (node ParenthesizedExpression l fs)) ≡ is_member_target (field_at 0 fs)
parens-member l done = refl
parens-member l (missing then fs) = refl
parens-member l (one t then fs) = refl
parens-member l (many ts then fs) = refl
parens-member l (statements ts then fs) = refl

parens-private : (l : Label) (fs : Fields) → is_private_target (one (node ParenthesizedExpression l fs)) ≡ is_private_target (field_at 0 fs)
parens-private l done = refl
parens-private l (missing then fs) = refl
parens-private l (one t then fs) = refl
parens-private l (many ts then fs) = refl
parens-private l (statements ts then fs) = refl

pub seen-inside : (k : AstType) (l : Label) (fs gs : Fields) → (is_seen k ≡ true → (i : ℕ) → SeenAlike (field_at i fs) (field_at i gs)) → SeenAlike (one (node k l fs)) (one (node k l gs))
seen-inside ParenthesizedExpression l fs gs h = record {
  big = refl;
  name = refl;
  rest = refl;
  rests = refl;
  member = parens-member l gs ∙ (h refl 0).member ∙ sym (parens-member l fs);
  private = parens-private l gs ∙ (h refl 0).private ∙ sym (parens-private l fs);
  rest_target = refl;
}
seen-inside MemberExpression l fs gs h = record { big = refl; name = refl; rest = refl; rests = refl; member = refl; private = (h refl 1).name; rest_target = refl }
seen-inside ObjectTarget l fs gs h = record { big = refl; name = refl; rest = refl; rests = refl; member = refl; private = refl; rest_target = (h refl 0).rests }
seen-inside _ l fs gs h = record { big = refl; name = refl; rest = refl; rests = refl; member = refl; private = refl; rest_target = refl }

module _ (o : EnvOptions) where
  -- where nothing is asked of a node it doesn't matter what it would be asked of
  not-asked : (a x y : Bool) → (a && false && x) ≡ (a && false && y)
  not-asked true x y = refl
  not-asked false x y = refl

  -- a slot is wrapped for it as before
  pub wrapped-alike : (k : AstType) (l : Label) (fs gs : Fields) → (k ≡ AssignmentExpression → (i : ℕ) → SeenAlike (field_at i fs) (field_at i gs)) → is_wrapped_for o k l gs ≡ is_wrapped_for o k l fs
  wrapped-alike AssignmentExpression l fs gs h =
      let target = h refl 0 in
      let value = h refl 1 in
      λ i.
      (o.es2020.nullish_coalescing_operator && false)
      || (o.es2020.optional_chaining && false)
      || (o.es2016.exponentiation_operator && true && (bytes_eq (first_text l.texts) (codes "**=") && not (value.big i)))
      || (o.es2021.logical_assignment_operators && ((bytes_eq (first_text l.texts) (codes "||=") || bytes_eq (first_text l.texts) (codes "&&=") || bytes_eq (first_text l.texts) (codes "??=")) && not (target.private i)) && (target.member i || (o.es2020.nullish_coalescing_operator && bytes_eq (first_text l.texts) (codes "??="))))
      || (is_some o.es2018.object_rest_spread && true && target.rest_target i)
  wrapped-alike k l fs gs h = λ i.
      (o.es2020.nullish_coalescing_operator && is_nullish_coalescing k l fs)
      || (o.es2020.optional_chaining && is_chain k l fs)
      || not-asked o.es2016.exponentiation_operator (is_exponentiation k l gs) (is_exponentiation k l fs) i
      || not-asked o.es2021.logical_assignment_operators (takes_for_target o l gs) (takes_for_target o l fs) i
      || not-asked (is_some o.es2018.object_rest_spread) (is_rest_target (field_at 0 gs)) (is_rest_target (field_at 0 fs)) i
