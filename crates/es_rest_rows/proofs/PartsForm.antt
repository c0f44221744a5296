-- Rows of object rests act at nodes, and so do their parts, which keep form, ask for no names, and leave what is a body of statements one.
use Rattle.std.proofs.Common.{◌≡◌, ◌∙◌, inl, inr, refl}
use Rattle.std.specs.Prelude.{false, true}
use Rattle.es_tree.specs.Ancestors.{stands_in}
use Rattle.es_tree.specs.HasForm.{has_form}
use Rattle.es_tree.specs.Tree.{Tree}
use Rattle.es_tree.specs.declared.ast_type.AstType.TheVariants.{ExportNamedDeclaration}
use Rattle.es_tree.specs.declared.table.Sort.{Sort}
use Rattle.es_tree.specs.declared.table.Sort.TheVariants.{Expression as s-Expression}
use Rattle.es_steps.specs.ObjectRest.SplitRule.{splits}
use Rattle.es_steps.specs.ObjectRest.TakesRest.{takes_rest}
use Rattle.es_steps.specs.Open.{is_statement_body}
use Rattle.es_steps.specs.Sites.{IsLocal}
use Rattle.es_steps.specs.Slots.{is_slot}
use Rattle.es_steps.specs.Steps.{Ledger, Site, Spot, the_program}
use Rattle.es_steps.specs.Steps.Spot.{at_node}
use Rattle.es_steps.proofs.FormRules.{AtNodes, FormLawful, NodeFormed, nodes-only}
use Rattle.es_valid_rests.proofs.RestFormsDeclared.{split-form, split-nodes, takes-form, takes-nodes}
use Rattle.es_rest_rows.specs.RestParts.{PartsWhere}
use Rattle.es_rest_rows.specs.RestRows.{RowsWhere}
use Rattle.es_rest_rows.specs.RestRows.RowsWhere.{nested, stores, takes}

module _ (asked : Site → Type 0) where
  pub rows-nodes : (n : Site) (s s' : Ledger) (x y : Spot) → RowsWhere asked n s x s' y → AtNodes x y
  rows-nodes n s s' x y (stores m l a c p e z out kind plain declares kept silent fresh) = tt
  rows-nodes n s s' x y (takes m l lp lr ls a ps c t xs out kind plain name declares kept names asks used) = tt
  rows-nodes n s s' x y (nested m l lp lq ls a ps rs c k p v u z out declares members bears plain puts binds kept fresh) = tt

  pub parts-nodes : (n : Site) (s s' : Ledger) (x y : Spot) → PartsWhere asked n s x s' y → AtNodes x y
  parts-nodes n s s' x y (inl r) = split-nodes n s s' x y r.0
  parts-nodes n s s' x y (inr r) = takes-nodes the_program s s' x y r.1

  pub parts-form : FormLawful (PartsWhere asked)
  parts-form = nodes-only (PartsWhere asked) parts-nodes nodes
    where
      nodes : (n : Site) (s s' : Ledger) (t u : Tree) (a : Sort) → (is_slot n.above ≡ true → a ≡ s-Expression) → PartsWhere asked n s (at_node t) s' (at_node u) → has_form a t ≡ true → NodeFormed a s s' u
      nodes n s s' t u a slot (inl r) f = split-form.at_nodes n s s' t u a slot r.0 f
      nodes n s s' t u a slot (inr r) f = takes-form.at_nodes the_program s s' t u a (λ e. absurd (cc e)) r.1 f

  pub parts-bodies : (n : Site) (s s' : Ledger) (t u : Tree) → PartsWhere asked n s (at_node t) s' (at_node u) → is_statement_body u ≡ is_statement_body t
  parts-bodies n s s' t u (inl ((splits m a c d es x free declares off, binds), out)) = refl
  parts-bodies n s s' t u (inr (asks, (takes_rest m l lp lr ls a ps c v it unbound used, binds))) = refl

-- They ask for the ancestors alone, where nothing more is asked of the place of a helper.
pub parts-local : IsLocal (λ s x. false) (PartsWhere (λ n. Unit {0}))
parts-local n o s s' x y h (inl ((splits m a c d es z free declares off, binds), out)) = inl ((splits m a c d es z free declares off, binds), (λ i. stands_in ExportNamedDeclaration 0 (h.above i)) ∙ out)
parts-local n o s s' x y h (inr r) = inr (tt, r.1)
