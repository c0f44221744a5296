-- From the place of a node to those of its fields.
use Rattle.std.proofs.Common.{◌≡◌, ℕ, ◌<◌, List, [], ◌∷◌, Bool, true, false, ◌&&◌, ◌||◌, Option, Some, None, unwrap_or, if◌then◌else◌, refl, ap, ◌∙◌}
use Rattle.es_tree.specs.Heads.{scope}
use Rattle.es_tree.specs.Tree.{Label, Fields}
use Rattle.es_tree.specs.declared.ast_type.AstType.{AstType}
use Rattle.es_tree.specs.declared.ids.ScopeId.{ScopeId}
use Rattle.es_semantic.specs.Places.{Place, around_in, first, has_name_scope, is_hoisted_to, is_inside, is_strict_by_itself, makes_scope, own_scope, parameters_in, place_in}
use Rattle.es_semantic.specs.RolesOf.{role_at}
use Rattle.es_semantic.specs.Walks.{StandsAs}
use Rattle.es_semantic.specs.declared.place.Place.{Place as WalkPlace}

-- a scope that may be there, or another
pub known_or : (o : Option ScopeId) (other : ScopeId) (count : ℕ) → ((m : ℕ) → scope o ≡ Some m → m < count) → other.0 < count → (unwrap_or o other).0 < count
known_or None other count known h = h
known_or (Some x) other count known h = known x.0 refl

-- the scopes around all but the innermost
abbrev rest : List ℕ → List ℕ
rest [] = []
rest (n ∷ ns) = ns

with_own : (makes named : Bool) (own n m : ℕ) (ns : List ℕ) →
    let around = if named then n ∷ m ∷ ns else m ∷ ns in let all = if makes then own ∷ around else around in all ≡ first all ∷ rest all
with_own true named own n m ns = refl
with_own false true own n m ns = refl
with_own false false own n m ns = refl

-- what stands in a field has a scope around it
some_around : (up : List ℕ) (m : ℕ) (ns : List ℕ) (n : ℕ) (k : AstType) (fs : Fields) (i : ℕ) → up ≡ m ∷ ns → around_in up n k fs i ≡ first (around_in up n k fs i) ∷ rest (around_in up n k fs i)
some_around up m ns n k fs i e = rw e (with_own (makes_scope k && is_inside k i) (has_name_scope k fs) (own_scope n k fs) n m ns)

pub stands_in : (old new : WalkPlace) (p : Place) (n : ℕ) (k : AstType) (l : Label) (fs : Fields) (i : ℕ) → StandsAs old p →
    new.role ≡ role_at old.role k l fs i → new.scope.0 ≡ first (around_in p.around n k fs i) → new.hoist.0 ≡ (if is_hoisted_to k then own_scope n k fs else p.hoist) →
    scope new.parameters ≡ parameters_in p k → new.strict ≡ (old.strict || is_strict_by_itself k l fs) → StandsAs new (place_in p n k l fs i)
stands_in old new p n k l fs i h role inner hoist parameters strict = record {
  role = role ∙ ap (λ r. role_at r k l fs i) h.role;
  outer = rest (around_in p.around n k fs i);
  around = rw inner (some_around p.around old.scope.0 h.outer n k fs i h.around);
  hoist = hoist;
  parameters = parameters;
  strict = strict ∙ ap (λ b. b || is_strict_by_itself k l fs) h.strict;
}
