-- Whether a tree is resolved, computed.
use Rattle.std.proofs.Common.{◌≡◌, ℕ, zero, suc, refl, ap}
use Rattle.std.specs.Prelude.{Bool, true, false, ◌&&◌, Option, Some, None, is_some, if◌then◌else◌}
use Rattle.std.specs.List.{list_all}
use Rattle.std.proofs.Math.Dec.{eqb}
use Rattle.std.proofs.lemmas.Bool.{eqb-true}
use Rattle.es_tree.specs.Words.{Text}
use Rattle.es_tree.specs.Names.{first_text}
use Rattle.es_tree.specs.Tree.{Tree, node, Label, Fields, done, ◌then◌, Field, missing, one, many, statements, Trees, empty, ◌before◌}
use Rattle.es_tree.specs.declared.ast_type.AstType.{AstType}
use Rattle.es_tree.specs.declared.ast_type.AstType.TheVariants.{Identifier}
use Rattle.es_semantic.specs.RolesOf.{reads, role_at}
use Rattle.es_semantic.specs.SymbolsOf.{hoists}
use Rattle.es_semantic.specs.declared.place.Role.{Role}
use Rattle.es_semantic.specs.declared.place.Role.TheVariants.{Nothing, Binds}
use Rattle.es_resolution.specs.Declarations.{symbol_of}
use Rattle.es_resolution.specs.Resolved.{Place, nowhere, class_frame, has_symbol, place_in, IsRight, OwnRight, Resolved, ResolvedIn, ResolvedBy, ResolvedAll, IsResolved}

abbrev same_symbol : Option ℕ → Option ℕ → Bool
same_symbol None None = true
same_symbol (Some m) (Some n) = eqb m n
same_symbol _ _ = false

abbrev is_right : Place → Role → Text → Option ℕ → Bool
is_right p Nothing x s = true
is_right p (Binds b) x s = same_symbol s (if hoists b then p.hoist x else p.scope x) && is_some s
is_right p _ x s = same_symbol s (p.scope x)

abbrev own_right : Place → Role → AstType → Label → Bool
own_right p r Identifier l = is_right p r (first_text l.texts) (symbol_of l)
own_right p r _ l = true

abbrev mutual
  pub is_resolved : Role → Place → Tree → Bool
  is_resolved r p (node k l fs) = own_right p r k l && (list_all has_symbol (class_frame k l (role_at r k l fs) fs) && is_resolved_in (role_at r k l fs) (place_in p k l (role_at r k l fs) fs) fs)

  is_resolved_in : (ℕ → Role) → (ℕ → Place) → Fields → Bool
  is_resolved_in roles places done = true
  is_resolved_in roles places (f then fs) = is_resolved_by (roles zero) (places zero) f && is_resolved_in (λ i. roles (suc i)) (λ i. places (suc i)) fs

  is_resolved_by : Role → Place → Field → Bool
  is_resolved_by r p missing = true
  is_resolved_by r p (one t) = is_resolved r p t
  is_resolved_by r p (many ts) = are_resolved r p ts
  is_resolved_by r p (statements ts) = are_resolved r p ts

  are_resolved : Role → Place → Trees → Bool
  are_resolved r p empty = true
  are_resolved r p (t before ts) = is_resolved r p t && are_resolved r p ts

left : (a b : Bool) → (a && b) ≡ true → a ≡ true
left true b h = refl
left false b h = h

right : (a b : Bool) → (a && b) ≡ true → b ≡ true
right true b h = h
right false b h = absurd (cc h)

same-symbol : (s o : Option ℕ) → same_symbol s o ≡ true → s ≡ o
same-symbol None None h = refl
same-symbol (Some m) (Some n) h = ap (λ (k : ℕ). Some k) (eqb-true m n h)
same-symbol None (Some n) h = absurd (cc h)
same-symbol (Some m) None h = absurd (cc h)

right-sound : (p : Place) (r : Role) (x : Text) (s : Option ℕ) → is_right p r x s ≡ true → IsRight p r x s
right-sound p Nothing x s h = tt
right-sound p (Binds b) x s h = (same-symbol s (if hoists b then p.hoist x else p.scope x) (left (same_symbol s (if hoists b then p.hoist x else p.scope x)) (is_some s) h), right (same_symbol s (if hoists b then p.hoist x else p.scope x)) (is_some s) h)
right-sound p _ x s h = same-symbol s (p.scope x) h

own-sound : (p : Place) (r : Role) (k : AstType) (l : Label) → own_right p r k l ≡ true → OwnRight p r k l
own-sound p r Identifier l h = right-sound p r (first_text l.texts) (symbol_of l) h
own-sound p r _ l h = tt

mutual
  sound : (r : Role) (p : Place) (t : Tree) → is_resolved r p t ≡ true → Resolved r p t
  sound r p (node k l fs) h =
      let a = own_right p r k l in
      let b = list_all has_symbol (class_frame k l (role_at r k l fs) fs) in
      let c = is_resolved_in (role_at r k l fs) (place_in p k l (role_at r k l fs) fs) fs in
      (own-sound p r k l (left a (b && c) h), left b c (right a (b && c) h), sound-in (role_at r k l fs) (place_in p k l (role_at r k l fs) fs) fs (right b c (right a (b && c) h)))

  sound-in : (roles : ℕ → Role) (places : ℕ → Place) (fs : Fields) → is_resolved_in roles places fs ≡ true → ResolvedIn roles places fs
  sound-in roles places done h = tt
  sound-in roles places (f then fs) h =
      let a = is_resolved_by (roles zero) (places zero) f in
      let b = is_resolved_in (λ i. roles (suc i)) (λ i. places (suc i)) fs in
      (sound-by (roles zero) (places zero) f (left a b h), sound-in (λ i. roles (suc i)) (λ i. places (suc i)) fs (right a b h))

  sound-by : (r : Role) (p : Place) (f : Field) → is_resolved_by r p f ≡ true → ResolvedBy r p f
  sound-by r p missing h = tt
  sound-by r p (one t) h = sound r p t h
  sound-by r p (many ts) h = sound-all r p ts h
  sound-by r p (statements ts) h = sound-all r p ts h

  sound-all : (r : Role) (p : Place) (ts : Trees) → are_resolved r p ts ≡ true → ResolvedAll r p ts
  sound-all r p empty h = tt
  sound-all r p (t before ts) h = (sound r p t (left (is_resolved r p t) (are_resolved r p ts) h), sound-all r p ts (right (is_resolved r p t) (are_resolved r p ts) h))

abbrev pub is_resolved_program : Tree → Bool
is_resolved_program t = is_resolved reads nowhere t

pub is_resolved-sound : (t : Tree) → is_resolved_program t ≡ true → IsResolved t
is_resolved-sound t h = sound reads nowhere t h
