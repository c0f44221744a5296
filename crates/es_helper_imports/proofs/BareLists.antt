-- Two resolved programs that are equal but for ids and marks declare the same names: a name finds a symbol from the list of one where it finds
-- one from that of the other.
use Rattle.std.proofs.Common.{◌≡◌, ℕ, suc, refl, sym, ap, ◌∙◌, List, [], ◌∷◌, ◌++◌}
use Rattle.std.specs.Prelude.{Bool, true, false, ◌||◌, Option, Some, None, is_some, bytes_eq, if◌then◌else◌}
use Rattle.es_tree.specs.Bare.{bare, bare_field, bare_fields, bare_label, bare_trees}
use Rattle.es_tree.specs.Names.{first_text}
use Rattle.es_tree.specs.Tree.{Tree, node, Label, Fields, done, ◌then◌, Field, missing, one, many, statements, Trees, empty, ◌before◌, kind_of}
use Rattle.es_tree.specs.Words.{Text}
use Rattle.es_tree.specs.declared.ast_type.AstType.{AstType}
use Rattle.es_tree.specs.declared.ast_type.AstType.TheVariants.{Identifier, Program}
use Rattle.es_semantic.specs.RolesOf.{reads, role_at}
use Rattle.es_semantic.specs.declared.place.Role.{Role}
use Rattle.es_resolution.specs.Declarations.{Bound, declared, declared_among, declared_by, declared_in, is_asked, own_declared, reaches_out, symbol_of}
use Rattle.es_resolution.specs.Resolved.{IsResolved, bound_by}
use Rattle.es_resolution.proofs.Declares.{bound-append}
use Rattle.es_resolution.proofs.Roles.{role-same}
use Rattle.es_reached.proofs.BareNodes.{has-child-bare}
use Rattle.es_top_imports.specs.Laws.{list_place}
use Rattle.es_helper_imports.proofs.DeclaredSymbols.{at_top, list-finds, top_declares}

-- ROLES

role-label : (r : Role) (k : AstType) (l : Label) (fs : Fields) (i : ℕ) → role_at r k (bare_label l) fs i ≡ role_at r k l fs i
role-label r Program l fs i = refl
role-label r _ l fs i = refl

role-bare : (r : Role) (k : AstType) (l : Label) (fs : Fields) → role_at r k (bare_label l) (bare_fields fs) ≡ role_at r k l fs
role-bare r k l fs = role-same r k (bare_label l) fs (bare_fields fs) (λ i. has-child-bare i fs) ∙ (λ j i. role-label r k l fs i j)

-- DECLARED NAMES

both-bound : (bs cs ds es : List Bound) (x : Text) → bound_by bs x ≡ bound_by ds x → bound_by cs x ≡ bound_by es x → bound_by (bs ++ cs) x ≡ bound_by (ds ++ es) x
both-bound bs cs ds es x e d = bound-append bs cs x ∙ ((λ i. e i || d i) ∙ sym (bound-append ds es x))

one-bound : (c : Bool) (y : Text) (s s' : Option ℕ) (x : Text) → bound_by (if c then record { name = y; symbol = s } ∷ [] else []) x ≡ bound_by (if c then record { name = y; symbol = s' } ∷ [] else []) x
one-bound false y s s' x = refl
one-bound true y s s' x = at (bytes_eq y x)
  where
    at : (b : Bool) → is_some (if b then Some s else None) ≡ is_some (if b then Some s' else None)
    at true = refl
    at false = refl

module _ (x : Text) (v : Bool) where
  own-bare : (r : Role) (k : AstType) (l : Label) → bound_by (own_declared v r k (bare_label l)) x ≡ bound_by (own_declared v r k l) x
  own-bare r Identifier l = one-bound (is_asked v r) (first_text l.texts) None (symbol_of l) x
  own-bare r _ l = refl

  counted : (c : Bool) (bs ds : List Bound) → bound_by bs x ≡ bound_by ds x → bound_by (if c then bs else []) x ≡ bound_by (if c then ds else []) x
  counted true bs ds e = e
  counted false bs ds e = refl

  mutual
    tree-bare : (r : Role) (t : Tree) → bound_by (declared v r (bare t)) x ≡ bound_by (declared v r t) x
    tree-bare r (node k l fs) =
        (λ i. bound_by (own_declared v r k (bare_label l) ++ declared_in v (reaches_out v k) (role-bare r k l fs i) (bare_fields fs)) x)
        ∙ both-bound (own_declared v r k (bare_label l)) (declared_in v (reaches_out v k) (role_at r k l fs) (bare_fields fs)) (own_declared v r k l) (declared_in v (reaches_out v k) (role_at r k l fs) fs) x (own-bare r k l) (fields-bare (reaches_out v k) (role_at r k l fs) fs)

    pub fields-bare : (counts : ℕ → Bool) (roles : ℕ → Role) (fs : Fields) → bound_by (declared_in v counts roles (bare_fields fs)) x ≡ bound_by (declared_in v counts roles fs) x
    fields-bare counts roles done = refl
    fields-bare counts roles (f then fs) =
        both-bound (if counts 0 then declared_by v (roles 0) (bare_field f) else []) (declared_in v (λ i. counts (suc i)) (λ i. roles (suc i)) (bare_fields fs)) (if counts 0 then declared_by v (roles 0) f else []) (declared_in v (λ i. counts (suc i)) (λ i. roles (suc i)) fs) x
        (counted (counts 0) (declared_by v (roles 0) (bare_field f)) (declared_by v (roles 0) f) (field-bare (roles 0) f)) (fields-bare (λ i. counts (suc i)) (λ i. roles (suc i)) fs)

    field-bare : (r : Role) (f : Field) → bound_by (declared_by v r (bare_field f)) x ≡ bound_by (declared_by v r f) x
    field-bare r missing = refl
    field-bare r (one t) = tree-bare r t
    field-bare r (many ts) = trees-bare r ts
    field-bare r (statements ts) = trees-bare r ts

    trees-bare : (r : Role) (ts : Trees) → bound_by (declared_among v r (bare_trees ts)) x ≡ bound_by (declared_among v r ts) x
    trees-bare r empty = refl
    trees-bare r (t before ts) = both-bound (declared v r (bare t)) (declared_among v r (bare_trees ts)) (declared v r t) (declared_among v r ts) x (tree-bare r t) (trees-bare r ts)

-- AT THE TOP of a program

top-bare : (v : Bool) (x : Text) (t : Tree) → top_declares v x (bare t) ≡ top_declares v x t
top-bare v x (node k l fs) = (λ i. bound_by (declared_in v (at_top v) (role-bare reads Program l fs i) (bare_fields fs)) x) ∙ fields-bare x v (at_top v) (role_at reads Program l fs) fs

top-alike : (v : Bool) (x : Text) (t u : Tree) → bare t ≡ bare u → top_declares v x u ≡ top_declares v x t
top-alike v x t u same = sym (top-bare v x u) ∙ (ap (top_declares v x) (sym same) ∙ top-bare v x t)

-- a name is found from the list of one where it is found from that of the other
pub lists-alike : (t u : Tree) → kind_of t ≡ Program → kind_of u ≡ Program → IsResolved t → IsResolved u → bare t ≡ bare u → (x : Text) → is_some ((list_place u).scope x) ≡ is_some ((list_place t).scope x)
lists-alike t u e d h k same x = list-finds u d k x ∙ ((λ i. top-alike false x t u same i || top-alike true x t u same i) ∙ sym (list-finds t e h x))

pub none-found : (s : Option ℕ) → is_some s ≡ false → s ≡ None
none-found None e = refl
none-found (Some n) e = absurd (cc e)
