-- Where parts of calls give way to names, the kinds and labels of fields stay, and so do the roles of all.
use Rattle.std.proofs.Common.{◌≡◌, ℕ, zero, refl}
use Rattle.es_tree.specs.Tree.{Tree, Label, Fields}
use Rattle.es_tree.specs.declared.ast_type.AstType.{AstType}
use Rattle.es_tree.specs.declared.ast_type.AstType.TheVariants.{Identifier}
use Rattle.es_semantic.specs.RolesOf.{role_at}
use Rattle.es_semantic.specs.declared.place.Role.{Role}
use Rattle.es_resolution.specs.Declarations.{Bound}
use Rattle.es_resolution.specs.Resolved.{first_declared, own_of}
use Rattle.es_resolution.proofs.Roles.{role-same}
use Rattle.es_steps.specs.Identifiers.{HasIdentifier, IsIdentifier}
use Rattle.es_helper_calls.proofs.CalledTrees.{Calls, CallsHere, CallsIn}
use Rattle.es_helper_calls.proofs.CalledTrees.Calls.{becomes}
use Rattle.es_helper_calls.proofs.CalledTrees.CallsBy.{at_one}
use Rattle.es_helper_calls.proofs.CalledTrees.CallsHere.{calls, lists, passes, stays}
use Rattle.es_helper_calls.proofs.CalledTrees.CallsIn.{goes}
use Rattle.es_helper_calls.proofs.CallNodes.{has-child-now}

module _ (P : Tree → Bound → Type 0) where
  pub own-stays : (r : Role) {t u : Tree} → Calls P t u → own_of r u ≡ own_of r t
  own-stays r (becomes h) = refl

  pub first-stays : (roles : ℕ → Role) {fs gs : Fields} → CallsIn P fs gs → first_declared roles gs ≡ first_declared roles fs
  first-stays roles (goes (at_one k) h) = own-stays (roles zero) k
  first-stays roles _ = refl

  identifier-stays : {t u : Tree} → Calls P t u → IsIdentifier t → IsIdentifier u
  identifier-stays (becomes {k = Identifier} h) e = tt
  identifier-stays (becomes h) e = absurd e

  pub first-identifier : {fs gs : Fields} → CallsIn P fs gs → HasIdentifier fs → HasIdentifier gs
  first-identifier (goes (at_one k) h) e = identifier-stays k e
  first-identifier _ e = tt

  pub roles-here : (r : Role) {k : AstType} {l : Label} {fs gs : Fields} → CallsHere P k l fs gs → role_at r k l gs ≡ role_at r k l fs
  roles-here r (stays {k = k} {l = l} {fs = fs} {gs = gs} h) = role-same r k l fs gs (λ i. has-child-now P i h)
  roles-here r (calls b p mark it h) = refl
  roles-here r (passes b p mark other it k h) = refl
  roles-here r (lists b p texts k m) = refl
