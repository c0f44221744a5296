-- What is declared is among the names in use.
use Rattle.std.proofs.Common.{◌≡◌, ℕ, zero, suc, refl, subst, List, [], ◌∷◌}
use Rattle.std.specs.Prelude.{Bool, true, false, Option, None, bytes_eq, if◌then◌else◌}
use Rattle.es_tree.specs.Words.{Text}
use Rattle.es_tree.specs.Names.{first_text}
use Rattle.es_tree.specs.Tree.{Tree, node, Label, Fields, done, ◌then◌, Field, missing, one, many, statements, Trees, empty, ◌before◌}
use Rattle.es_tree.specs.declared.ast_type.AstType.{AstType}
use Rattle.es_tree.specs.declared.ast_type.AstType.TheVariants.{Identifier}
use Rattle.es_semantic.specs.RolesOf.{role_at}
use Rattle.es_semantic.specs.declared.place.Role.{Role}
use Rattle.es_semantic.specs.declared.place.Role.TheVariants.{Binds}
use Rattle.es_resolution.specs.Declarations.{Bound, sought, symbol_of, is_asked, own_name, own_declared, reaches_out, declared, declared_in, declared_by, declared_among}
use Rattle.es_resolution.specs.Resolved.{first_declared}
use Rattle.es_resolution.specs.Named.{OwnUsed, Named, NamedIn, NamedBy, NamedAll}
use Rattle.es_resolution.proofs.Basics.{bytes_eq-equal, none-append}

module _ (u : Text → Bool) (n : ℕ) (y : Text) (free : u y ≡ false) where
  not_free : (x : Text) → u x ≡ true → bytes_eq x y ≡ false
  not_free x h = at (bytes_eq x y) refl
    where
      at : (b : Bool) → bytes_eq x y ≡ b → b ≡ false
      at false d = refl
      at true d = let e : x ≡ y = bytes_eq-equal x y d in let k : u y ≡ true = subst (λ z. u z ≡ true) e h in absurd (cc (k, free))

  one_free : (x : Text) (s : Option ℕ) → u x ≡ true → sought (record { name = x; symbol = s } ∷ []) y ≡ None
  one_free x s h = rw (not_free x h)

  asked_free : (b : Bool) (x : Text) (s : Option ℕ) → u x ≡ true → sought (if b then record { name = x; symbol = s } ∷ [] else []) y ≡ None
  asked_free true x s h = one_free x s h
  asked_free false x s h = refl

  pub own_free : (v : Bool) (r : Role) (k : AstType) (l : Label) → OwnUsed u r k l → sought (own_declared v r k l) y ≡ None
  own_free v (Binds b) Identifier l h = asked_free (is_asked v (Binds b)) (first_text l.texts) (symbol_of l) h
  own_free v _ Identifier l h = refl
  own_free v r _ l h = refl

  name_free : (r : Role) (k : AstType) (l : Label) → OwnUsed u r k l → sought (own_name k r l) y ≡ None
  name_free (Binds b) Identifier l h = one_free (first_text l.texts) (symbol_of l) h
  name_free _ Identifier l h = refl
  name_free r _ l h = refl

  pub first-free : (roles : ℕ → Role) (fs : Fields) → NamedIn u n roles fs → sought (first_declared roles fs) y ≡ None
  first-free roles done h = refl
  first-free roles (missing then fs) h = refl
  first-free roles (one (node k l gs) then fs) h = name_free (roles zero) k l h.0.0.0
  first-free roles (many ts then fs) h = refl
  first-free roles (statements ts then fs) h = refl

  free-if : (b : Bool) (bs : List Bound) → sought bs y ≡ None → sought (if b then bs else []) y ≡ None
  free-if true bs h = h
  free-if false bs h = refl

  mutual
    pub declared-free : (v : Bool) (r : Role) (t : Tree) → Named u n r t → sought (declared v r t) y ≡ None
    declared-free v r (node k l fs) h = none-append (own_declared v r k l) (declared_in v (reaches_out v k) (role_at r k l fs) fs) y (own_free v r k l h.0.0) (declared-free-in v (reaches_out v k) (role_at r k l fs) fs h.1)

    pub declared-free-in : (v : Bool) (counts : ℕ → Bool) (roles : ℕ → Role) (fs : Fields) → NamedIn u n roles fs → sought (declared_in v counts roles fs) y ≡ None
    declared-free-in v counts roles done h = refl
    declared-free-in v counts roles (f then fs) h = none-append (if counts zero then declared_by v (roles zero) f else []) (declared_in v (λ i. counts (suc i)) (λ i. roles (suc i)) fs) y (free-if (counts zero) (declared_by v (roles zero) f) (declared-free-by v (roles zero) f h.0)) (declared-free-in v (λ i. counts (suc i)) (λ i. roles (suc i)) fs h.1)

    pub declared-free-by : (v : Bool) (r : Role) (f : Field) → NamedBy u n r f → sought (declared_by v r f) y ≡ None
    declared-free-by v r missing h = refl
    declared-free-by v r (one t) h = declared-free v r t h
    declared-free-by v r (many ts) h = declared-free-all v r ts h
    declared-free-by v r (statements ts) h = declared-free-all v r ts h

    pub declared-free-all : (v : Bool) (r : Role) (ts : Trees) → NamedAll u n r ts → sought (declared_among v r ts) y ≡ None
    declared-free-all v r empty h = refl
    declared-free-all v r (t before ts) h = none-append (declared v r t) (declared_among v r ts) y (declared-free v r t h.0) (declared-free-all v r ts h.1)
