-- Assignments and patterns that are lowered, taken apart.
use Rattle.std.proofs.Common.{◌≡◌, ◌∙◌, List, [], ◌∷◌, ◌++◌, length, refl, sym, ap, subst, arith, get_or, take, suc, zero, ℕ}
use Rattle.std.proofs.lemmas.Bool.{and_parts}
use Rattle.std.specs.Prelude.{Bool, true, false, ◌&&◌, bytes_eq, codes}
use Rattle.es_tree.specs.CoreStaticRules.{is_simple_target}
use Rattle.es_tree.specs.Heads.{head_of, label}
use Rattle.es_tree.specs.Names.{first_text}
use Rattle.es_tree.specs.Parens.{without_parens}
use Rattle.es_tree.specs.Tree.{Tree, node, Fields, done, ◌then◌, missing, one, many, statements, Trees, kind_of, trees}
use Rattle.es_tree.specs.declared.ast_type.AstType.TheVariants.{AssignmentExpression, ObjectTarget, TargetProperty, TargetRest}
use Rattle.es_tree.specs.declared.kind.Kind.TheVariants.{ObjectTarget as k-ObjectTarget, TargetRest as k-TargetRest}
use Rattle.es_expressions.specs.OperationsArity.{IsAssignmentExpression}
use Rattle.es_patterns.specs.PatternsArity.{IsObjectTarget, IsTargetProperty, IsTargetRest}
use Rattle.es_patterns.specs.PatternsPlain.{plain_object_target, plain_target_rest}
use Rattle.es_patterns.specs.declared.patterns.ObjectTarget.{ObjectTarget as OpenTarget}
use Rattle.es_patterns.specs.declared.patterns.TargetRest.{TargetRest as OpenRest}
use Rattle.es_rest_nodes.specs.RestFields.{on_list, on_one}
use Rattle.es_steps.specs.RestAssignments.{object_target, rest_target}
use Rattle.es_traverse.specs.Laws.{is_construct}
use Rattle.lower_temporaries.specs.Shapes.{on_two}
use Rattle.lower_rest_assignments.specs.Assignments.{are_members, are_properties, is_lowerable_assignment, is_lowerable_pattern, is_property, is_simple_rest, takes_pattern}
use Rattle.lower_rest_assignments.specs.Groups.{Opens}
use Rattle.lower_rest_assignments.specs.declared.groups.RestPattern.{RestPattern}

-- FIELDS

-- that are two children, one child, or one list
pub record AreTwo (P : Tree → Tree → Bool) (fs : Fields) : Type 0 where
  pub first : Tree
  pub second : Tree
  pub are : fs ≡ (one first then (one second then done))
  pub holds : P first second ≡ true

pub two-of : (P : Tree → Tree → Bool) (fs : Fields) → on_two P fs ≡ true → AreTwo P fs
two-of P (one a then (one b then done)) h = record { first = a; second = b; are = refl; holds = h }
two-of P done h = absurd (cc h)
two-of P (missing then fs) h = absurd (cc h)
two-of P (many ts then fs) h = absurd (cc h)
two-of P (statements ts then fs) h = absurd (cc h)
two-of P (one a then done) h = absurd (cc h)
two-of P (one a then (missing then fs)) h = absurd (cc h)
two-of P (one a then (many ts then fs)) h = absurd (cc h)
two-of P (one a then (statements ts then fs)) h = absurd (cc h)
two-of P (one a then (one b then (f then fs))) h = absurd (cc h)

record IsOneChild (P : Tree → Bool) (fs : Fields) : Type 0 where
  child : Tree
  are : fs ≡ (one child then done)
  holds : P child ≡ true

one-of : (P : Tree → Bool) (fs : Fields) → on_one P fs ≡ true → IsOneChild P fs
one-of P (one t then done) h = record { child = t; are = refl; holds = h }
one-of P done h = absurd (cc h)
one-of P (missing then fs) h = absurd (cc h)
one-of P (many ts then fs) h = absurd (cc h)
one-of P (statements ts then fs) h = absurd (cc h)
one-of P (one t then (f then fs)) h = absurd (cc h)

pub record IsOneList (P : Trees → Bool) (fs : Fields) : Type 0 where
  pub list : Trees
  pub are : fs ≡ (many list then done)
  pub holds : P list ≡ true

pub list-of : (P : Trees → Bool) (fs : Fields) → on_list P fs ≡ true → IsOneList P fs
list-of P (many ts then done) h = record { list = ts; are = refl; holds = h }
list-of P done h = absurd (cc h)
list-of P (missing then fs) h = absurd (cc h)
list-of P (one t then fs) h = absurd (cc h)
list-of P (statements ts then fs) h = absurd (cc h)
list-of P (many ts then (f then fs)) h = absurd (cc h)

-- AN ASSIGNMENT

pub assignment-opens : (t : Tree) → is_construct is_lowerable_assignment t ≡ true → IsAssignmentExpression t
assignment-opens (node AssignmentExpression l fs) h =
    let two = two-of (λ p e. is_lowerable_pattern p) fs (and_parts (bytes_eq (first_text l.texts) (codes "=")) (takes_pattern fs) h).1 in
    subst (λ gs. IsAssignmentExpression (node AssignmentExpression l gs)) (sym two.are) (record { kind = refl; arity = (tt, (tt, tt)) })
assignment-opens (node _ l fs) h = absurd (cc h)

-- A PATTERN

pub pattern-opens : (p : Tree) → is_lowerable_pattern p ≡ true → IsObjectTarget p
pattern-opens (node ObjectTarget l fs) h = let list = list-of are_members fs h in subst (λ gs. IsObjectTarget (node ObjectTarget l gs)) (sym list.are) (record { kind = refl; arity = (tt, tt) })
pattern-opens (node _ l fs) h = absurd (cc h)

-- its members, the last of them apart
pub members-apart : (ps : List Tree) (r : Tree) → are_members (trees (ps ++ r ∷ [])) ≡ (is_simple_rest r && are_properties (trees ps))
members-apart [] r = and-true (is_simple_rest r)
  where
    and-true : (b : Bool) → b ≡ (b && true)
    and-true true = refl
    and-true false = refl
members-apart (p ∷ ps) r = split p ps r (members-apart ps r)
  where
    turned : (a b c : Bool) → (a && (b && c)) ≡ (b && (a && c))
    turned true b c = refl
    turned false true c = refl
    turned false false c = refl

    split : (p : Tree) (ps : List Tree) (r : Tree) → are_members (trees (ps ++ r ∷ [])) ≡ (is_simple_rest r && are_properties (trees ps)) → are_members (trees (p ∷ ps ++ r ∷ [])) ≡ (is_simple_rest r && (is_property p && are_properties (trees ps)))
    split p [] r e = ap (λ b. is_property p && b) e ∙ turned (is_property p) (is_simple_rest r) true
    split p (q ∷ qs) r e = ap (λ b. is_property p && b) e ∙ turned (is_property p) (is_simple_rest r) (are_properties (trees (q ∷ qs)))

-- and by its index
pub members-last : (ms : List Tree) (n : ℕ) (r : Tree) → suc n ≡ length ms → r ≡ get_or ms n r → (is_simple_rest r && are_properties (trees (take n ms))) ≡ are_members (trees ms)
members-last ms n r whole e = sym (members-apart (take n ms) r) ∙ ap (λ (ts : List Tree). are_members (trees ts)) (put-back ms n r whole e)
  where
    put-back : (ms : List Tree) (n : ℕ) (r : Tree) → suc n ≡ length ms → r ≡ get_or ms n r → take n ms ++ r ∷ [] ≡ ms
    put-back [] n r whole e = absurd (cc whole)
    put-back (m ∷ []) zero r whole e = ap (λ (t : Tree). t ∷ []) e
    put-back (m ∷ l ∷ ms) zero r whole e = absurd (omega (arith, whole))
    put-back (m ∷ ms) (suc n) r whole e = ap (λ (ts : List Tree). m ∷ ts) (put-back ms n r (omega (arith, whole)) e)

pub rest-opens : (r : Tree) → is_simple_rest r ≡ true → IsTargetRest r
rest-opens (node TargetRest l fs) h = let child = one-of (λ t. is_simple_target (kind_of (without_parens t))) fs h in subst (λ gs. IsTargetRest (node TargetRest l gs)) (sym child.are) (record { kind = refl; arity = (tt, tt) })
rest-opens (node _ l fs) h = absurd (cc h)

-- the members of a pattern that was opened
module _ (p : Tree) (x : OpenTarget) (opened : plain_object_target x ≡ p) (lowerable : is_lowerable_pattern p ≡ true) where
  members : are_members (trees x.properties.items) ≡ true
  members = ap is_lowerable_pattern opened ∙ lowerable

  pub some-member : (x.properties.items ≡ []) → ⊥
  some-member none = let no : false ≡ true = sym (ap (λ (ts : List Tree). are_members (trees ts)) none) ∙ members in cc no

  module _ (ps : List Tree) (r : Tree) (popped : x.properties.items ≡ ps ++ r ∷ []) where
    apart : (is_simple_rest r ≡ true) × (are_properties (trees ps) ≡ true)
    apart = and_parts (is_simple_rest r) (are_properties (trees ps)) (sym (ap (λ (ts : List Tree). are_members (trees ts)) popped ∙ members-apart ps r) ∙ members)

    pub last-opens : IsTargetRest r
    last-opens = rest-opens r apart.0

    pub pattern-apart : (y : OpenRest) (q : RestPattern) → plain_target_rest y ≡ r → q.id ≡ x.id → q.span ≡ x.span → q.properties.items ≡ ps → q.target ≡ y.argument → Opens p q
    pattern-apart y q rest id span items target =
        let lr = label y.id y.span (head_of k-TargetRest) in
        let end : r ≡ rest_target lr q.target = sym rest ∙ ap (rest_target lr) (sym target) in
        record {
          rest = lr;
          pattern = sym opened ∙ (ap (λ (ts : List Tree). object_target (label x.id x.span (head_of k-ObjectTarget)) ts) popped ∙ (λ i. object_target (label (sym id i) (sym span i) (head_of k-ObjectTarget)) (sym items i ++ end i ∷ [])));
          whole = ap (λ (ts : List Tree). are_properties (trees ts)) items ∙ apart.1;
          simple = ap (λ t. is_simple_target (kind_of (without_parens t))) target ∙ (ap is_simple_rest rest ∙ apart.0);
        }

-- A PROPERTY

pub property-opens : (p : Tree) → is_property p ≡ true → IsTargetProperty p
property-opens (node TargetProperty l fs) h = let two = two-of (λ k v. true) fs h in subst (λ gs. IsTargetProperty (node TargetProperty l gs)) (sym two.are) (record { kind = refl; arity = (tt, (tt, tt)) })
property-opens (node _ l fs) h = absurd (cc h)
