-- The places of the fields of a node: those from the fourth field on are one.
use Rattle.std.proofs.Common.{◌≡◌, ℕ, zero, suc, ◌+◌, ◌<◌, ◌≤◌, ◌&&◌, Bool, true, false, if◌then◌else◌, Option, Some, None, ◌∷◌, refl, sym, ap, subst, ◌∙◌, arith}
use Rattle.es_tree.specs.Heads.{scope}
use Rattle.es_tree.specs.Tree.{Label, Fields}
use Rattle.es_tree.specs.declared.ast_type.AstType.{AstType}
use Rattle.es_tree.specs.declared.ast_type.AstType.TheVariants.{Program, FunctionDeclaration}
use Rattle.es_semantic.specs.FieldPlaces.{held_at}
use Rattle.es_semantic.specs.Places.{Place, around_own, has_name_scope, is_inside, is_strict_in, makes_scope, own_scope, own_scope_count, parameters_in, is_hoisted_to, place_in}
use Rattle.es_semantic.specs.RolesOf.{role_at}
use Rattle.es_semantic.specs.Walks.{AreOwn, IsKnown, StandsAs}
use Rattle.es_semantic.specs.declared.field_places.FieldPlaces.{FieldPlaces}
use Rattle.es_semantic.specs.declared.place.OwnScopes.{OwnScopes}
use Rattle.es_semantic.specs.declared.place.Role.{Role}
use Rattle.es_semantic.proofs.VisitCounts.{named_makes}

role_later : (r : Role) (k : AstType) (l : Label) (fs : Fields) (n : ℕ) → role_at r k l fs (suc (suc (suc n))) ≡ role_at r k l fs 3
role_later r Program l fs n = refl
role_later r _ l fs n = refl

inside_later : (k : AstType) (n : ℕ) → is_inside k (suc n) ≡ true
inside_later FunctionDeclaration n = refl
inside_later _ n = refl

-- a place in a field, by what the field's number decides
abbrev place_by : Place → ℕ → AstType → Label → Fields → Role → Bool → Place
place_by p n k l fs r b = record {
  role = r;
  around = if makes_scope k && b then own_scope n k fs ∷ around_own p.around n k fs else around_own p.around n k fs;
  hoist = if is_hoisted_to k then own_scope n k fs else p.hoist;
  parameters = parameters_in p k;
  strict = is_strict_in p k l fs;
}

place_later : (p : Place) (n : ℕ) (k : AstType) (l : Label) (fs : Fields) (i : ℕ) → place_in p n k l fs (suc (suc (suc i))) ≡ place_in p n k l fs 3
place_later p n k l fs i =
    ap (λ r. place_by p n k l fs r (is_inside k (suc (suc (suc i))))) (role_later p.role k l fs i) ∙ ap (place_by p n k l fs (role_at p.role k l fs 3)) (inside_later k (suc (suc i)) ∙ sym (inside_later k 2))

pub stands_at : (ps : FieldPlaces) (p : Place) (n : ℕ) (k : AstType) (l : Label) (fs : Fields) → StandsAs ps.first (place_in p n k l fs 0) → StandsAs ps.second (place_in p n k l fs 1) → StandsAs ps.third (place_in p n k l fs 2) → StandsAs ps.later (place_in p n k l fs 3) →
    (i : ℕ) → StandsAs (held_at ps i) (place_in p n k l fs i)
stands_at ps p n k l fs a b c d zero = a
stands_at ps p n k l fs a b c d (suc zero) = b
stands_at ps p n k l fs a b c d (suc (suc zero)) = c
stands_at ps p n k l fs a b c d (suc (suc (suc i))) = subst (λ q. StandsAs ps.later q) (sym (place_later p n k l fs i)) d

pub known_at : (ps : FieldPlaces) (count : ℕ) → IsKnown ps.first count → IsKnown ps.second count → IsKnown ps.third count → IsKnown ps.later count → (i : ℕ) → IsKnown (held_at ps i) count
known_at ps count a b c d zero = a
known_at ps count a b c d (suc zero) = b
known_at ps count a b c d (suc (suc zero)) = c
known_at ps count a b c d (suc (suc (suc i))) = d

-- THE SCOPES OF A NODE

number_known : (named makes : Bool) (n m count : ℕ) (o q : Option ℕ) → (named ≡ true → makes ≡ true) → o ≡ (if named then Some n else None) → q ≡ (if makes then Some (if named then suc n else n) else None) → n + (if named then 2 else if makes then 1 else 0) ≤ count → (o ≡ Some m → m < count) × (q ≡ Some m → m < count)
number_known true true n m count o q h e f l = ((λ g. let same : n ≡ m = cc in omega (arith, l, same)), (λ g. let same : suc n ≡ m = cc in omega (arith, l, same)))
number_known true false n m count o q h e f l = absurd (let no : false ≡ true = h refl in cc)
number_known false true n m count o q h e f l = ((λ g. absurd (cc)), (λ g. let same : n ≡ m = cc in omega (arith, l, same)))
number_known false false n m count o q h e f l = ((λ g. absurd (cc)), (λ g. absurd (cc)))

pub own_known : (own : OwnScopes) (n : ℕ) (k : AstType) (fs : Fields) (count m : ℕ) → AreOwn own n k fs → n + own_scope_count k fs ≤ count → (scope own.name ≡ Some m → m < count) × (scope own.own ≡ Some m → m < count)
own_known own n k fs count m h l = number_known (has_name_scope k fs) (makes_scope k) n m count (scope own.name) (scope own.own) (named_makes k fs) h.name_is h.own_is l
