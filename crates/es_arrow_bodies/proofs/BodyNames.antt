-- Arrows that get a body: the static rules of declared names are kept.
use Rattle.std.proofs.Common.{◌≡◌, refl, sym, subst, ◌∙◌, List, [], ◌∷◌, ◌++◌}
use Rattle.std.specs.Prelude.{Bool, true}
use Rattle.std.proofs.lemmas.Bool.{and_parts}
use Rattle.es_tree.specs.Ancestors.{Ancestor}
use Rattle.es_tree.specs.DeclaredNames.{Name}
use Rattle.es_tree.specs.HasForm.{has_form, trees_form}
use Rattle.es_tree.specs.Table.{rest_sort}
use Rattle.es_tree.specs.Tree.{Tree, node, Label, Fields, done, ◌then◌, one, many, statements, Trees, empty, ◌before◌}
use Rattle.es_tree.specs.Words.{Text}
use Rattle.es_tree.specs.declared.ast_type.AstType.TheVariants.{ArrowFunctionExpression, FunctionBody, ReturnStatement}
use Rattle.es_tree.specs.declared.table.Sort.{Sort}
use Rattle.es_tree.specs.declared.table.Sort.TheVariants.{ArrowFunctionBody as s-ArrowFunctionBody, Expression as s-Expression, Pattern as s-Pattern}
use Rattle.es_tree.proofs.NodeForm.{node_form}
use Rattle.es_steps.specs.Nodes.{body_node, made, return_node}
use Rattle.es_steps.specs.Slots.{is_slot}
use Rattle.es_steps.specs.Steps.{Ledger, Site, IsExpression}
use Rattle.es_steps.specs.Steps.Spot.{at_node}
use Rattle.es_steps.proofs.FormLists.{narrower}
use Rattle.es_steps.proofs.FormParts.{IsFormed}
use Rattle.es_valid_names.proofs.Claims.{Around, Clear, Distinct, Stand, above, claims, claims_all, is_owned}
use Rattle.es_valid_names.proofs.ClearPending.{expression-mute}
use Rattle.es_valid_names.proofs.ClearRules.{NameLawful, NodeKept, nothing-new}
use Rattle.es_valid_names.proofs.Grown.{Grown, grown-self, still-distinct}
use Rattle.es_valid_names.proofs.MoreAround.{Allows, clear-more, clear-more-all}
use Rattle.es_valid_names.proofs.Mute.{mute-expression}
use Rattle.es_valid_rests.proofs.RestNamesRules.{GoodLawful, named-good}
use Rattle.es_arrow_bodies.specs.ArrowBodies.{BodyRule}
use Rattle.es_arrow_bodies.specs.ArrowBodies.BodyRule.{returns}
use Rattle.es_arrow_bodies.proofs.BodyForms.{body-form}

mute-grown : {used used' : Text → Bool} (gs hs : List (List Name)) → gs ≡ [] → hs ≡ [] → Grown used used' gs hs
mute-grown {used} {used'} gs hs e d = subst (λ (xs : List (List Name)). Grown used used' xs hs) (sym e) (subst (λ (ys : List (List Name)). Grown used used' [] ys) (sym d) (grown-self []))

-- an arrow declares nothing around it
arrow-mute : (a : Sort) (up : List Ancestor) (l : Label) (fs : Fields) → has_form a (node ArrowFunctionExpression l fs) ≡ true → claims is_owned up (node ArrowFunctionExpression l fs) ≡ []
arrow-mute a up l fs h = mute-expression a up (node ArrowFunctionExpression l fs) refl refl h tt

module _ (l : Label) (ps : Trees) (e : Tree) where
  abbrev body : Tree
  body = body_node (return_node e before empty)

  abbrev old : Fields
  old = many ps then one e then done

  abbrev new : Fields
  new = many ps then one body then done

  -- what is owned is the same: neither body declares anything around it
  abbrev in_body : List Ancestor
  in_body = above FunctionBody (made [] []) (many empty then statements (return_node e before empty) then done) 1 0 ∷ (above ArrowFunctionExpression l new 1 1 ∷ [])

  body-owned : IsFormed e → claims is_owned (above ArrowFunctionExpression l new 1 1 ∷ []) body ≡ []
  body-owned f = λ i. ((expression-mute (above ReturnStatement (made [] []) (one e then done) 0 0 ∷ in_body) e f (λ x. tt) i ++ []) ++ []) ++ []

  bare-owned : IsFormed e → claims is_owned (above ArrowFunctionExpression l old 1 1 ∷ []) e ≡ []
  bare-owned f = expression-mute (above ArrowFunctionExpression l old 1 1 ∷ []) e f (λ x. tt)

  arrow-clear : (c d : Around) (st : Stand) → IsFormed e → Allows c d → Clear c st (node ArrowFunctionExpression l old) → Clear d st (node ArrowFunctionExpression l new)
  arrow-clear c d st f m k =
      let same = body-owned f ∙ sym (bare-owned f) in
      let owned : claims_all is_owned (above ArrowFunctionExpression l new 0 1 ∷ []) ps ++ (claims is_owned (above ArrowFunctionExpression l new 1 1 ∷ []) body ++ []) ≡ claims_all is_owned (above ArrowFunctionExpression l old 0 1 ∷ []) ps ++ (claims is_owned (above ArrowFunctionExpression l old 1 1 ∷ []) e ++ []) =
      λ j. claims_all is_owned (above ArrowFunctionExpression l old 0 1 ∷ []) ps ++ (same j ++ []) in
      (subst (λ (gs : List (List Name)). Distinct d.used [] gs) (sym owned) (still-distinct c.used d.used m.used [] _ k.0), refl, (clear-more-all c d m _ ps k.2.0, ((tt, refl, (tt, (((tt, refl, (clear-more c d m _ e k.2.1.0, tt)), tt), tt))), tt)))

-- the expression has form
expression-formed : (a : Sort) (l : Label) (ps : Trees) (e : Tree) → IsExpression e → has_form a (node ArrowFunctionExpression l (many ps then one e then done)) ≡ true → IsFormed e
expression-formed a l ps e x h =
    let parts = and_parts (trees_form s-Pattern (rest_sort s-Pattern) ps) _ (node_form a ArrowFunctionExpression l (many ps then one e then done) h).children in
    narrower e x.no_body (and_parts (has_form s-ArrowFunctionBody e) true parts.1).0

body-names : NameLawful BodyRule
body-names = record { at_nodes = nodes }
  where
    nodes : (n : Site) (s s' : Ledger) (t u : Tree) (a : Sort) → (is_slot n.above ≡ true → a ≡ s-Expression) → BodyRule n s (at_node t) s' (at_node u) → has_form a t ≡ true → has_form a u ≡ true → NodeKept s s' t u
    nodes n s s' t u a slot (returns {l = l} {ps = ps} {e = e} x) f g = record {
      grown = λ up. mute-grown (claims is_owned up t) (claims is_owned up u) (arrow-mute a up l (old l ps e) f) (arrow-mute a up l (new l ps e) g);
      clear = λ c d v j m st k. arrow-clear l ps e c d st (expression-formed a l ps e x f) m k;
      name = refl;
      key = λ h. absurd (cc h);
      imports = refl;
      inside = refl;
      names = nothing-new s s' refl;
    }

pub body-good : GoodLawful BodyRule
body-good = named-good BodyRule body-form body-names
