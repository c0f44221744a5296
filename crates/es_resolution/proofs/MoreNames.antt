-- What is in use stays so where more is.
use Rattle.std.proofs.Common.{arith, ◌≤◌, ◌≡◌, ℕ, zero, suc}
use Rattle.std.specs.Prelude.{Bool, true, Option, Some, None}
use Rattle.es_tree.specs.Words.{Text}
use Rattle.es_tree.specs.Names.{first_text}
use Rattle.es_tree.specs.Tree.{Tree, node, Label, Fields, done, ◌then◌, Field, missing, one, many, statements, Trees, empty, ◌before◌}
use Rattle.es_tree.specs.declared.ast_type.AstType.{AstType}
use Rattle.es_tree.specs.declared.ast_type.AstType.TheVariants.{Identifier}
use Rattle.es_semantic.specs.RolesOf.{role_at}
use Rattle.es_semantic.specs.declared.place.Role.{Role}
use Rattle.es_semantic.specs.declared.place.Role.TheVariants.{Nothing}
use Rattle.es_resolution.specs.Declarations.{symbol_of}
use Rattle.es_resolution.specs.Named.{IsUsed, OwnUsed, IsBelow, Named, NamedIn, NamedBy, NamedAll}

below-more : (f g : ℕ) → f ≤ g → (o : Option ℕ) → IsBelow f o → IsBelow g o
below-more f g e None h = tt
below-more f g e (Some s) h = omega arith

module _ (u v : Text → Bool) (more : (y : Text) → u y ≡ true → v y ≡ true) (f g : ℕ) (wider : f ≤ g) where
  used-more : (r : Role) (x : Text) → IsUsed u r x → IsUsed v r x
  used-more Nothing x h = tt
  used-more _ x h = more x h

  own-used : (r : Role) (k : AstType) (l : Label) → OwnUsed u r k l → OwnUsed v r k l
  own-used r Identifier l h = used-more r (first_text l.texts) h
  own-used r _ l h = tt

  pub own-more : (r : Role) (k : AstType) (l : Label) → OwnUsed u r k l × IsBelow f (symbol_of l) → OwnUsed v r k l × IsBelow g (symbol_of l)
  own-more r k l h = (own-used r k l h.0, below-more f g wider (symbol_of l) h.1)

  mutual
    pub named-more : (r : Role) (t : Tree) → Named u f r t → Named v g r t
    named-more r (node k l fs) h = (own-more r k l h.0, named-more-in (role_at r k l fs) fs h.1)

    pub named-more-in : (roles : ℕ → Role) (fs : Fields) → NamedIn u f roles fs → NamedIn v g roles fs
    named-more-in roles done h = tt
    named-more-in roles (w then fs) h = (named-more-by (roles zero) w h.0, named-more-in (λ i. roles (suc i)) fs h.1)

    pub named-more-by : (r : Role) (w : Field) → NamedBy u f r w → NamedBy v g r w
    named-more-by r missing h = tt
    named-more-by r (one t) h = named-more r t h
    named-more-by r (many ts) h = named-more-all r ts h
    named-more-by r (statements ts) h = named-more-all r ts h

    pub named-more-all : (r : Role) (ts : Trees) → NamedAll u f r ts → NamedAll v g r ts
    named-more-all r empty h = tt
    named-more-all r (t before ts) h = (named-more r t h.0, named-more-all r ts h.1)
