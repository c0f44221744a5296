-- Declarators of a pattern of some properties: one, or none where there are no properties. They declare what the properties do.
use Rattle.std.proofs.Common.{arith, ◌≡◌, ℕ, refl, List, [], ◌++◌}
use Rattle.std.specs.Prelude.{Bool, true, false, Option}
use Rattle.es_tree.specs.Words.{Text}
use Rattle.es_tree.specs.Tree.{Tree, node, Label, done, Trees, empty, ◌before◌}
use Rattle.es_tree.specs.declared.ast_type.AstType.TheVariants.{Identifier}
use Rattle.es_semantic.specs.RolesOf.{reads}
use Rattle.es_semantic.specs.declared.place.Role.{Role}
use Rattle.es_resolution.specs.Declarations.{Bound, declared_among}
use Rattle.es_resolution.specs.Named.{Named, NamedAll}
use Rattle.es_resolution.specs.Resolved.{Place, no_name, Resolved, ResolvedAll}
use Rattle.es_resolution.specs.Single.{scopes_among}
use Rattle.es_steps.specs.Identifiers.{Passes, PassesAll}
use Rattle.es_steps.specs.Nodes.{declarator_with}
use Rattle.es_steps.specs.ObjectRest.{RestOf, declares_some, pattern_node}
use Rattle.es_steps.specs.ObjectRest.RestOf.{alone, beside, mapped}
use Rattle.es_steps.proofs.Written.{nil-right, body_place}

pub data Front (lp : Label) (s : Tree) : Trees → Trees → Type 0 where
  of_some : {ps : Trees} → Front lp s ps (declarator_with (pattern_node lp ps) s before empty)
  of_none : Front lp s empty empty

pub front-of : (ds : Trees) (lp : Label) (s : Tree) (ps fs : Trees) (e : Tree) → RestOf ds lp s ps fs e → Front lp s ps fs
front-of ds lp s ps fs e (beside ks) = of_some
front-of ds lp s ps fs e (mapped ks h) = of_some
front-of ds lp s ps fs e alone = of_none

pub front-some : (lp : Label) (s : Tree) (ps : Trees) → Front lp s ps (declares_some lp s ps)
front-some lp s empty = of_none
front-some lp s (p before ps) = of_some

front-flat : (xs : List Bound) → ((xs ++ []) ++ []) ++ [] ≡ xs
front-flat xs = simp nil-right

pub front-pass : (q : Text → Option ℕ → Bool) (lp : Label) (s : Tree) (ps fs : Trees) → Front lp s ps fs → PassesAll q ps → Passes q s → PassesAll q fs
front-pass q lp s ps fs of_some h it = ((tt, ((tt, (h, tt)), (it, tt))), tt)
front-pass q lp s ps fs of_none h it = tt

module _ (lp ls : Label) (r : Role) where
  abbrev src : Tree
  src = node Identifier ls done

  pub front-lists : (v : Bool) (ps fs : Trees) → Front lp src ps fs → declared_among v r fs ≡ declared_among v r ps
  front-lists true ps fs of_some = front-flat (declared_among true r ps)
  front-lists false ps fs of_some = front-flat (declared_among false r ps)
  front-lists v ps fs of_none = refl

  pub front-scopes : (s : ℕ) (bound : Text → Bool) (ps fs : Trees) → Front lp src ps fs → scopes_among s bound r fs ≡ scopes_among s no_name r ps
  front-scopes s bound ps fs of_some = omega arith
  front-scopes s bound ps fs of_none = refl

  pub front-named : (u : Text → Bool) (n : ℕ) (ps fs : Trees) → Front lp src ps fs → Named u n r (pattern_node lp ps) → Named u n reads src → NamedAll u n r fs
  front-named u n ps fs of_some h it = (((tt, tt), (h, (it, tt))), tt)
  front-named u n ps fs of_none h it = tt

  pub front-resolved : (q : Place) (ps fs : Trees) → Front lp src ps fs → ResolvedAll r (body_place q) ps → Resolved reads (body_place q) src → ResolvedAll r q fs
  front-resolved q ps fs of_some h it = ((tt, refl, ((tt, refl, (h, tt)), (it, tt))), tt)
  front-resolved q ps fs of_none h it = tt
