-- Where a tree declares no `var` around it, it is all the same where such a `var` would bind.
use Rattle.std.proofs.Common.{◌≡◌, ℕ, zero, suc, refl, List, [], ◌∷◌, ◌++◌}
use Rattle.std.specs.Prelude.{Bool, true, false, not, Option, if◌then◌else◌}
use Rattle.es_tree.specs.Words.{Text}
use Rattle.es_tree.specs.Names.{first_text}
use Rattle.es_tree.specs.Tree.{Tree, node, Label, Fields, done, ◌then◌, Field, missing, one, many, statements, Trees, empty, ◌before◌}
use Rattle.es_tree.specs.declared.ast_type.AstType.{AstType}
use Rattle.es_tree.specs.declared.ast_type.AstType.TheVariants.{Identifier}
use Rattle.es_semantic.specs.RolesOf.{role_at}
use Rattle.es_semantic.specs.SymbolsOf.{hoists}
use Rattle.es_semantic.specs.declared.place.Role.{Role}
use Rattle.es_semantic.specs.declared.place.Role.TheVariants.{Nothing, Binds}
use Rattle.es_resolution.specs.Declarations.{Bound, symbol_of, is_var_scope, reaches_out, own_declared, declared, declared_in, declared_by, declared_among}
use Rattle.es_resolution.specs.Resolved.{Place, hoisting, place_in, OwnRight, Resolved, ResolvedIn, ResolvedBy, ResolvedAll}
use Rattle.es_steps.proofs.Kept.{every}

not_empty : (b : Bound) (bs : List Bound) → ◌≡◌ {A = List Bound} (b ∷ bs) [] → ⊥
not_empty b bs e = absurd (cc e)

pub left-empty : (bs cs : List Bound) → bs ++ cs ≡ [] → bs ≡ []
left-empty [] cs e = refl
left-empty (b ∷ bs) cs e = absurd (not_empty b (bs ++ cs) e)

pub right-empty : (bs cs : List Bound) → bs ++ cs ≡ [] → cs ≡ []
right-empty [] cs e = e
right-empty (b ∷ bs) cs e = absurd (not_empty b (bs ++ cs) e)

module _ (h : Text → Option ℕ) where
  abbrev pub rehoisted : Place → Place
  rehoisted p = record p { hoist = h }

  unasked : (b : Bool) (d : Bound) (s m o : Option ℕ) → (if b then d ∷ [] else []) ≡ [] → s ≡ (if b then m else o) → (f : Option ℕ) → s ≡ (if b then f else o)
  unasked true d s m o e g f = absurd (not_empty d [] e)
  unasked false d s m o e g f = g

  own-no-hoist : (r : Role) (p : Place) (k : AstType) (l : Label) → own_declared true r k l ≡ [] → OwnRight p r k l → OwnRight (rehoisted p) r k l
  own-no-hoist Nothing p Identifier l e d = tt
  own-no-hoist (Binds b) p Identifier l e d = (unasked (hoists b) (record { name = first_text l.texts; symbol = symbol_of l }) (symbol_of l) (p.hoist (first_text l.texts)) (p.scope (first_text l.texts)) e d.0 (h (first_text l.texts)), d.1)
  own-no-hoist _ p Identifier l e d = d
  own-no-hoist r p _ l e d = tt

  counted : (b : Bool) (roles : ℕ → Role) (fs : Fields) → b ≡ false → declared_in true (λ i. not b) roles fs ≡ [] → declared_in true every roles fs ≡ []
  counted true roles fs e d = absurd (cc e)
  counted false roles fs e d = d

  choose : (b : Bool) (r : Role) (p : Place) (k : AstType) (l : Label) (fs : Fields) →
      (b ≡ false → ResolvedIn (role_at r k l fs) (λ i. record { scope = (place_in p k l (role_at r k l fs) fs i).scope; hoist = p.hoist; parameters = (place_in p k l (role_at r k l fs) fs i).parameters }) fs → ResolvedIn (role_at r k l fs) (λ i. record { scope = (place_in p k l (role_at r k l fs) fs i).scope; hoist = h; parameters = (place_in p k l (role_at r k l fs) fs i).parameters }) fs) →
      ResolvedIn (role_at r k l fs) (λ i. record { scope = (place_in p k l (role_at r k l fs) fs i).scope; hoist = if b then hoisting p k l (role_at r k l fs) fs else p.hoist; parameters = (place_in p k l (role_at r k l fs) fs i).parameters }) fs →
      ResolvedIn (role_at r k l fs) (λ i. record { scope = (place_in p k l (role_at r k l fs) fs i).scope; hoist = if b then hoisting p k l (role_at r k l fs) fs else h; parameters = (place_in p k l (role_at r k l fs) fs i).parameters }) fs
  choose true r p k l fs f d = d
  choose false r p k l fs f d = f refl d

  mutual
    pub no-hoist : (r : Role) (p : Place) (t : Tree) → declared true r t ≡ [] → Resolved r p t → Resolved r (rehoisted p) t
    no-hoist r p (node k l fs) e d = (
      own-no-hoist r p k l (left-empty (own_declared true r k l) (declared_in true (reaches_out true k) (role_at r k l fs) fs) e) d.0,
      d.1,
      choose (is_var_scope k) r p k l fs (λ c. no-hoist-in (role_at r k l fs) (λ i. record { scope = (place_in p k l (role_at r k l fs) fs i).scope; hoist = p.hoist; parameters = (place_in p k l (role_at r k l fs) fs i).parameters }) fs (counted (is_var_scope k) (role_at r k l fs) fs c (right-empty (own_declared true r k l) (declared_in true (reaches_out true k) (role_at r k l fs) fs) e))) d.2,
    )

    pub no-hoist-in : (roles : ℕ → Role) (ps : ℕ → Place) (fs : Fields) → declared_in true every roles fs ≡ [] → ResolvedIn roles ps fs → ResolvedIn roles (λ i. rehoisted (ps i)) fs
    no-hoist-in roles ps done e d = tt
    no-hoist-in roles ps (f then fs) e d = (no-hoist-by (roles zero) (ps zero) f (left-empty (declared_by true (roles zero) f) (declared_in true every (λ i. roles (suc i)) fs) e) d.0, no-hoist-in (λ i. roles (suc i)) (λ i. ps (suc i)) fs (right-empty (declared_by true (roles zero) f) (declared_in true every (λ i. roles (suc i)) fs) e) d.1)

    no-hoist-by : (r : Role) (p : Place) (f : Field) → declared_by true r f ≡ [] → ResolvedBy r p f → ResolvedBy r (rehoisted p) f
    no-hoist-by r p missing e d = tt
    no-hoist-by r p (one t) e d = no-hoist r p t e d
    no-hoist-by r p (many ts) e d = no-hoist-all r p ts e d
    no-hoist-by r p (statements ts) e d = no-hoist-all r p ts e d

    no-hoist-all : (r : Role) (p : Place) (ts : Trees) → declared_among true r ts ≡ [] → ResolvedAll r p ts → ResolvedAll r (rehoisted p) ts
    no-hoist-all r p empty e d = tt
    no-hoist-all r p (t before ts) e d = (no-hoist r p t (left-empty (declared true r t) (declared_among true r ts) e) d.0, no-hoist-all r p ts (right-empty (declared true r t) (declared_among true r ts) e) d.1)
