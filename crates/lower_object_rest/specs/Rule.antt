-- The rule of the lowering: it acts at nodes, keeps form, and asks for no names.
use Rattle.std.proofs.Common.{inl, inr, refl, [], ◌∙◌, ◌≡◌}
use Rattle.std.proofs.lemmas.Bool.{and_from, and_parts}
use Rattle.std.specs.Prelude.{Bool, false, true}
use Rattle.es_tree.specs.Ancestors.{stands_in}
use Rattle.es_tree.specs.Children.{child_at}
use Rattle.es_tree.specs.HasForm.{has_form}
use Rattle.es_tree.specs.Tree.{Tree, Trees, empty, fields_of, ◌before◌}
use Rattle.es_tree.specs.declared.ast_type.AstType.TheVariants.{ExportNamedDeclaration}
use Rattle.es_tree.specs.declared.table.Sort.{Sort}
use Rattle.es_tree.specs.declared.table.Sort.TheVariants.{Expression as s-Expression}
use Rattle.es_steps.specs.CoreRules.{where_on}
use Rattle.es_steps.specs.Nodes.{joined_trees}
use Rattle.es_steps.specs.Open.{is_statement_body}
use Rattle.es_steps.specs.Sites.{AreAlike, IsLocal}
use Rattle.es_steps.specs.Slots.{is_slot}
use Rattle.es_steps.specs.Steps.{Ledger, Site, Spot, Steps, the_program}
use Rattle.es_steps.specs.Steps.Spot.{at_node}
use Rattle.es_steps.specs.Steps.Steps.{goes, stays}
use Rattle.es_steps.proofs.FormRules.{AtNodes, NewNames, NodeFormed, no-names, nodes-only}
use Rattle.es_valid_rests.specs.RestRules.{all_declare, is_binding}
use Rattle.es_valid_rests.proofs.RestFormsDeclared.{split-form, takes-form}
use Rattle.es_rest_rows.specs.Laws.{AtNode}
use Rattle.es_rest_rows.specs.RestParts.{PartsWhere}
use Rattle.es_rest_rows.specs.RestRows.{RestWalkRow, is_exported}
use Rattle.es_rest_rows.specs.RestRows.RowsWhere.{nested, stores, takes}
use Rattle.es_rest_rows.proofs.RowsAmongRules.{row-parts}
use Rattle.lower_nodes.specs.Nodes.{IsNodeRule, no_names}

pub all_declare_joined : (xs ys : Trees) → all_declare xs ≡ true → all_declare ys ≡ true → all_declare (joined_trees xs ys) ≡ true
all_declare_joined empty ys h k = k
all_declare_joined (x before xs) ys h k = let parts = and_parts (is_binding (child_at 0 (fields_of x))) (all_declare xs) h in and_from _ (all_declare (joined_trees xs ys)) parts.0 (all_declare_joined xs ys parts.1 k)

at_nodes : (n : Site) (s s' : Ledger) (x y : Spot) → RestWalkRow n s x s' y → AtNodes x y
at_nodes n s s' x y (stores m l a c p e z inside declares plain binds kept silent fresh) = tt
at_nodes n s s' x y (takes m l lp lr ls a ps c t xs inside declares plain name binds kept named asked used) = tt
at_nodes n s s' x y (nested m l lp lq ls a ps rs c k p v u z inside declares plain none bears put binds kept fresh) = tt

keeps_bodies : (n : Site) (s s' : Ledger) (t u : Tree) → RestWalkRow n s (at_node t) s' (at_node u) → is_statement_body u ≡ is_statement_body t
keeps_bodies n s s' t u (stores m l a c p e z inside declares plain binds kept silent fresh) = refl
keeps_bodies n s s' t u (takes m l lp lr ls a ps c v xs inside declares plain name binds kept named asked used) = refl
keeps_bodies n s s' t u (nested m l lp lq ls a ps rs c k p v w z inside declares plain none bears put binds kept fresh) = refl

-- it asks for the ancestors alone
same_exported : (n o : Site) → AreAlike no_names n o → is_exported n ≡ false → is_exported o ≡ false
same_exported n o h e = (λ i. stands_in ExportNamedDeclaration 0 (h.above i)) ∙ e

is_local : IsLocal (λ s. no_names) RestWalkRow
is_local n o s s' x y h (stores m l a c p e z inside declares plain binds kept silent fresh) = stores m l a c p e z (same_exported n o h inside) declares plain binds kept silent fresh
is_local n o s s' x y h (takes m l lp lr ls a ps c t xs inside declares plain name binds kept named asked used) = takes m l lp lr ls a ps c t xs (same_exported n o h inside) declares plain name binds kept named tt used
is_local n o s s' x y h (nested m l lp lq ls a ps rs c k p v u z inside declares plain none bears put binds kept fresh) = nested m l lp lq ls a ps rs c k p v u z (same_exported n o h inside) declares plain none bears put binds kept fresh

-- FORM, by that of the rules of object rests, of which a row is steps

no_slot : is_slot the_program.above ≡ true → (a : Sort) → a ≡ s-Expression
no_slot e a = absurd (cc e)

module _ (asked : Site → Type 0) (n : Site) (b : Sort) (slot : is_slot n.above ≡ true → b ≡ s-Expression) where
  part_form : (s s' : Ledger) (t u : Tree) → AtNode (PartsWhere asked) n s t s' u → has_form b t ≡ true → has_form b u ≡ true
  part_form s s' t u (inl (split, inside)) h = (split-form.at_nodes n s s' t u b slot split h).formed
  part_form s s' t u (inr (there, taken)) h = (takes-form.at_nodes the_program s s' t u b (λ k. no_slot k b) taken h).formed

  parts_form : (s s' : Ledger) (t u : Tree) → Steps (AtNode (PartsWhere asked) n) s t s' u → has_form b t ≡ true → has_form b u ≡ true
  parts_form s s' t u stays h = h
  parts_form s s' t u (goes {s' = between} {u = v} step more) h = parts_form between s' v u more (part_form s between t v step h)

no_new_names : (n : Site) (s s' : Ledger) (t u : Tree) → RestWalkRow n s (at_node t) s' (at_node u) → NewNames s s'
no_new_names n s s' t u (stores {q = q} m l a c p e z inside declares plain binds kept silent fresh) = record { names = []; texts = tt; pending = no-names q; this = refl; top = refl }
no_new_names n s s' t u (takes {q = q} m l lp lr ls a ps c v xs inside declares plain name binds kept named asked used) = record { names = []; texts = tt; pending = no-names q; this = refl; top = refl }
no_new_names n s s' t u (nested {q = q} m l lp lq ls a ps rs c k p v w z inside declares plain none bears put binds kept fresh) = record { names = []; texts = tt; pending = no-names q; this = refl; top = refl }

-- the form of a declaration, too
pub keeps_form : (n : Site) (s s' : Ledger) (t u : Tree) (b : Sort) → (is_slot n.above ≡ true → b ≡ s-Expression) → RestWalkRow n s (at_node t) s' (at_node u) → has_form b t ≡ true → NodeFormed b s s' u
keeps_form n s s' t u b slot row h = record { formed = parts_form (λ o. Unit {0}) n b slot s s' t u (row-parts (λ o. Unit {0}) n s s' t u row) h; names = no_new_names n s s' t u row }

-- WHERE IT IS ON, and where it isn't

pub rest_rule : (on : Bool) → IsNodeRule (where_on on RestWalkRow)
rest_rule true = record { nodes = at_nodes; form = nodes-only RestWalkRow at_nodes keeps_form; nameless = is_local; bodies = keeps_bodies }
rest_rule false = record {
  nodes = λ n s s' x y h. absurd h;
  form = nodes-only (λ n s x s' y. ⊥) (λ n s s' x y h. absurd h) (λ n s s' t u a slot h f. absurd h);
  nameless = λ n o s s' x y h r. absurd r;
  bodies = λ n s s' t u h. absurd h;
}
