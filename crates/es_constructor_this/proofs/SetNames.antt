-- A name for `this` that is set behind `super(..)`: the static rules of declared names are kept, and the same names are declared.
use Rattle.std.proofs.Common.{◌≡◌, refl, sym, subst, List, [], ◌++◌, ◌∷◌}
use Rattle.std.specs.Prelude.{true}
use Rattle.es_tree.specs.Ancestors.{Ancestor}
use Rattle.es_tree.specs.DeclaredNames.{Name}
use Rattle.es_tree.specs.HasForm.{has_form}
use Rattle.es_tree.specs.Tree.{Tree, Label, Field, done, Trees, ◌before◌}
use Rattle.es_tree.specs.declared.ast_type.AstType.TheVariants.{FunctionBody}
use Rattle.es_tree.specs.declared.table.Sort.{Sort}
use Rattle.es_tree.specs.declared.table.Sort.TheVariants.{Expression as s-Expression}
use Rattle.es_resolution.specs.Declarations.{Bound}
use Rattle.es_steps.specs.Nodes.{identifier}
use Rattle.es_steps.specs.Slots.{is_slot}
use Rattle.es_steps.specs.Steps.{Ledger, Site}
use Rattle.es_steps.specs.Steps.Spot.{at_node}
use Rattle.es_valid_names.proofs.Claims.{Around, Clear, Stand, above, claims, claims_by, elsewhere, is_owned}
use Rattle.es_valid_names.proofs.ClearRules.{NameLawful, NodeKept, nothing-new, use_in}
use Rattle.es_valid_names.proofs.ClearSteps.{TreeKept}
use Rattle.es_valid_names.proofs.Grown.{Grown, grown-self}
use Rattle.es_valid_names.proofs.MoreAround.{clear-more}
use Rattle.es_valid_rests.proofs.RestNamesRules.{GoodLawful, named-good}
use Rattle.es_set_this.specs.ConstructorThis.{without_value}
use Rattle.es_constructor_this.specs.SetRows.{DeclaresThis, Puts, SetRow, body_with}
use Rattle.es_constructor_this.specs.SetRows.DeclaresThis.{declares_this}
use Rattle.es_constructor_this.specs.SetRows.SetRow.{sets, settles}
use Rattle.es_constructor_this.proofs.Moved.{starred}
use Rattle.es_constructor_this.proofs.MovedNames.{kept-after, kept-self, moved-kept, puts-claims, puts-clear}
use Rattle.es_constructor_this.proofs.SetForms.{body-known, set-form, still-formed}
use Rattle.es_constructor_this.proofs.SetShapes.{body_list}

-- WHAT IS DECLARED

left-claims : (up : List Ancestor) (b : Bound) (d : Tree) → DeclaresThis b d → claims is_owned up (without_value d) ≡ claims is_owned up d
left-claims up b _ (declares_this m k i h var e) = refl

listed-claims : (up : List Ancestor) (l : Label) (ds : Field) (b : Bound) (d : Tree) (ts us : Trees) → DeclaresThis b d → Puts (identifier b) ts us → claims is_owned up (body_with l ds (d before ts)) ≡ claims is_owned up (body_with l ds (without_value d before us))
listed-claims up l ds b d ts us first p =
    λ j. claims_by is_owned (above FunctionBody l (body_list ds d ts) 0 0 ∷ up) ds ++ ((sym (left-claims in_list b d first) j ++ sym (puts-claims in_list b p) j) ++ [])
  where
    in_list : List Ancestor
    in_list = above FunctionBody l done 1 0 ∷ up

-- THE RULES OF EACH NODE

left-clear : (c : Around) (b : Bound) (d : Tree) → DeclaresThis b d → Clear c elsewhere d → Clear c elsewhere (without_value d)
left-clear c b _ (declares_this m k i h var e) z = (tt, refl, (((tt, refl, ((tt, refl, tt), (tt, tt))), tt), tt))

listed-clear : (c : Around) (st : Stand) (l : Label) (ds : Field) (b : Bound) (d : Tree) (ts us : Trees) → DeclaresThis b d → Puts (identifier b) ts us → Clear c st (body_with l ds (d before ts)) → Clear c st (body_with l ds (without_value d before us))
listed-clear c st l ds b d ts us first p h = (tt, refl, (h.2.0, ((left-clear c b d first h.2.1.0.0, puts-clear c elsewhere b p h.2.1.0.1), tt)))

-- a body with its statements settled
record FormedKept (s : Ledger) (a : Sort) (t u : Tree) : Type 0 where
  formed : has_form a u ≡ true
  kept : TreeKept s s t u

set-names : NameLawful SetRow
set-names = record { at_nodes = nodes }
  where
    nodes : (n : Site) (s s' : Ledger) (t u : Tree) (a : Sort) → (is_slot n.above ≡ true → a ≡ s-Expression) → SetRow n s (at_node t) s' (at_node u) → has_form a t ≡ true → has_form a u ≡ true → NodeKept s s' t u
    nodes n s s' t u a slot (settles {w = w} {q = q} {a = x} b l ds d ts us here first h) f formed =
        let old = body_with l ds (d before ts) in
        let r = (starred (λ (y : Tree). FormedKept s a old y) (λ y z m g. record { formed = still-formed a l ds d ts f y z m g.formed; kept = kept-after s old y z g.kept (moved-kept s y z m a g.formed) }) old (body_with l ds (d before us)) (body-known a l ds d ts f n w q x b us first h) (record { formed = f; kept = kept-self s old })).kept in
        record { grown = r.grown; clear = r.clear; name = r.name; key = r.key; imports = r.imports; inside = refl; names = r.names }
    nodes n s s' t u a slot (sets b l ds d ts us here apart first p) f formed = record {
      grown = λ up. subst (λ (gs : List (List Name)). Grown (use_in s) (use_in s') (claims is_owned up t) gs) (listed-claims up l ds b d ts us first p) (grown-self (claims is_owned up t));
      clear = λ c g h k more st z. clear-more c g more st u (listed-clear c st l ds b d ts us first p z);
      name = refl;
      key = λ z. absurd (cc z);
      imports = refl;
      inside = refl;
      names = nothing-new s s' refl;
    }

pub set-good : GoodLawful SetRow
set-good = named-good SetRow set-form set-names
