-- What is put elsewhere with no new name: a tree that keeps all, and then takes a step.
use Rattle.std.proofs.Common.{◌≡◌, ℕ, suc, sym, subst, ◌∙◌, List}
use Rattle.std.specs.Prelude.{Bool, true, false}
use Rattle.es_tree.specs.Words.{Text}
use Rattle.es_tree.specs.Tree.{Tree, node, Label, done, ◌then◌, Field, statements, empty, ◌before◌, kind_of}
use Rattle.es_tree.specs.declared.ast_type.AstType.{AstType}
use Rattle.es_semantic.specs.RolesOf.{role_at}
use Rattle.es_semantic.specs.declared.place.Role.{Role}
use Rattle.es_resolution.specs.Declarations.{Bound, is_var_scope, reaches_out, declared}
use Rattle.es_resolution.specs.Named.{Named}
use Rattle.es_resolution.specs.Resolved.{own_of, Place, place_in, Resolved}
use Rattle.es_resolution.specs.Single.{scopes_with}
use Rattle.es_steps.proofs.Kept.{Change, Known, plain, Lexical, Hoisted, Looks, Kept, KeptIn, KeptBy}
use Rattle.es_steps.proofs.Nodes.{closing, kept-node}
use Rattle.es_steps.proofs.Same.{as-statements, left-fields, right-fields, left-trees, same-in, same-by, same-all}

pub record Settled (b : Place) (r : Role) (t u : Tree) : Type 0 where
  pub kind : is_var_scope (kind_of u) ≡ is_var_scope (kind_of t)
  pub own : own_of r u ≡ own_of r t
  pub declares : (v : Bool) → declared v r u ≡ declared v r t
  pub scopes : (s : ℕ) (ps : Text → Bool) → scopes_with s ps r u ≡ scopes_with s ps r t
  pub resolved : (p : Place) → Looks (is_var_scope (kind_of t)) b p → Resolved r p t → Resolved r p u

pub through : (n : Known) (b : Place) (c : Change) (r : Role) (t u v : Tree) → Settled b r t u → Kept n b c r u v → Kept n b c r t v
through n b c r t u v g h = record {
  kind = h.kind ∙ g.kind;
  top = λ e. h.top (g.kind ∙ e);
  own = h.own ∙ g.own;
  lexical = subst (λ (z : List Bound). Lexical c n z (declared false r v)) (g.declares false) h.lexical;
  hoisted = subst (λ (z : List Bound). Hoisted c n z (declared true r v)) (g.declares true) h.hoisted;
  named = h.named;
  scopes = λ s ps e. h.scopes s ps e ∙ g.scopes s ps;
  new_scopes = h.new_scopes;
  resolved = λ p q a s v f d. h.resolved p q a (λ e. s (sym g.kind ∙ e)) v (record { scope = f.scope; parameters = λ e. f.parameters (sym g.kind ∙ e) }) (g.resolved p f d);
}

-- A NODE whose third or second field changes, which is the last

module _ (n : Known) (b : Place) (c d : Change) (r : Role) (k : AstType) (m : Label) (closes : (out : Bool) → closing c (is_var_scope k) out ≡ d) where
  pub third : (f g h h' : Field) → Named n.in_use n.free r (node k m (f then g then h then done)) →
      KeptBy n (place_in b k m (role_at r k m (f then g then h then done)) (f then g then h then done) 2) c (role_at r k m (f then g then h then done) 2) h h' →
      Kept n b d r (node k m (f then g then h then done)) (node k m (f then g then h' then done))
  third f g h h' used kept =
      let fs = f then g then h then done in
      let roles = role_at r k m fs in
      let bs = place_in b k m roles fs in
      let kept-fields : KeptIn n bs c roles fs (f then g then h' then done) = (right-fields n bs c roles f (g then h then done) (g then h' then done) used.1.0 (same-by (plain n) (bs 0) (roles 0) f used.1.0)
      (right-fields n (λ i. bs (suc i)) c (λ i. roles (suc i)) g (h then done) (h' then done) used.1.1.0 (same-by (plain n) (bs 1) (roles 1) g used.1.1.0)
      (left-fields n (λ i. bs (suc (suc i))) c (λ i. roles (suc (suc i))) h h' done tt kept (same-in (plain n) (λ i. bs (suc (suc (suc i)))) (λ i. roles (suc (suc (suc i)))) done tt)))) in
      subst (λ (z : Change). Kept n b z r (node k m fs) (node k m (f then g then h' then done))) (closes (reaches_out false k kept-fields.spot)) (kept-node n b c r k m fs (f then g then h' then done) used.0 used.1 kept-fields)

  pub second : (f h h' : Field) → Named n.in_use n.free r (node k m (f then h then done)) →
      KeptBy n (place_in b k m (role_at r k m (f then h then done)) (f then h then done) 1) c (role_at r k m (f then h then done) 1) h h' →
      Kept n b d r (node k m (f then h then done)) (node k m (f then h' then done))
  second f h h' used kept =
      let fs = f then h then done in
      let roles = role_at r k m fs in
      let bs = place_in b k m roles fs in
      let kept-fields : KeptIn n bs c roles fs (f then h' then done) = (right-fields n bs c roles f (h then done) (h' then done) used.1.0 (same-by (plain n) (bs 0) (roles 0) f used.1.0)
      (left-fields n (λ i. bs (suc i)) c (λ i. roles (suc i)) h h' done tt kept (same-in (plain n) (λ i. bs (suc (suc i))) (λ i. roles (suc (suc i))) done tt))) in
      subst (λ (z : Change). Kept n b z r (node k m fs) (node k m (f then h' then done))) (closes (reaches_out false k kept-fields.spot)) (kept-node n b c r k m fs (f then h' then done) used.0 used.1 kept-fields)

  pub first : (h h' : Field) → Named n.in_use n.free r (node k m (h then done)) →
      KeptBy n (place_in b k m (role_at r k m (h then done)) (h then done) 0) c (role_at r k m (h then done) 0) h h' →
      Kept n b d r (node k m (h then done)) (node k m (h' then done))
  first h h' used kept =
      let fs = h then done in
      let roles = role_at r k m fs in
      let bs = place_in b k m roles fs in
      let kept-fields : KeptIn n bs c roles fs (h' then done) = (left-fields n bs c roles h h' done tt kept (same-in (plain n) (λ i. bs (suc i)) (λ i. roles (suc i)) done tt)) in
      subst (λ (z : Change). Kept n b z r (node k m fs) (node k m (h' then done))) (closes (reaches_out false k kept-fields.spot)) (kept-node n b c r k m fs (h' then done) used.0 used.1 kept-fields)

-- a list of one statement
pub alone : (n : Known) (b : Place) (c : Change) (r : Role) (t u : Tree) → Kept n b c r t u → KeptBy n b c r (statements (t before empty)) (statements (u before empty))
alone n b c r t u h = as-statements n b c r (t before empty) (u before empty) (left-trees n b c r t u empty tt h (same-all (plain n) b r empty tt))
