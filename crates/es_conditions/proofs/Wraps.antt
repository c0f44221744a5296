-- Slots are wrapped where they hold what they are wrapped for.
use Rattle.std.proofs.Common.{◌≡◌, ◌&&◌, ℕ, Bool, true, false, List, [], ◌∷◌, ◌++◌, refl, sym, ap, subst, ◌∙◌, true≢false}
use Rattle.std.specs.Prelude.{Option, if◌then◌else◌}
use Rattle.std.proofs.lemmas.Bool.{and_parts, and_from}
use Rattle.es_tree.specs.HasForm.{has_form}
use Rattle.es_tree.specs.Tree.{Tree, node, Label, Fields, done, ◌then◌, one, many, empty, label_of}
use Rattle.es_tree.specs.Words.{Text}
use Rattle.es_tree.specs.declared.ast_type.AstType.{AstType}
use Rattle.es_tree.specs.declared.ast_type.AstType.TheVariants.{ArrowFunctionExpression, CallExpression, FunctionBody, Program, StaticBlock}
use Rattle.es_tree.specs.declared.options.EnvOptions.{EnvOptions}
use Rattle.es_tree.specs.declared.table.Sort.TheVariants.{Expression as s-Expression}
use Rattle.es_tree.proofs.NodeForm.{node_form}
use Rattle.es_runs.specs.Rules.{in_place_of}
use Rattle.es_semantic.specs.RolesOf.{reads, role_at}
use Rattle.es_semantic.specs.Places.{is_inside}
use Rattle.es_semantic.specs.declared.place.Role.{Role}
use Rattle.es_resolution.specs.Declarations.{Bound, has_scope, is_var_scope}
use Rattle.es_resolution.specs.Resolved.{Place, around, frame, no_name, place_in, within}
use Rattle.es_steps.specs.Nodes.{arrow_node, made}
use Rattle.es_steps.specs.Open.{finished_fields, is_body, is_statement_body, nothing_pending, opened_fields}
use Rattle.es_steps.specs.Slots.{holds, in_open_slot, is_slot}
use Rattle.es_steps.specs.Steps.{Site, site_in, site_in_body}
use Rattle.es_steps.specs.WrapRule.{called_arrow, is_wrapped_for}
use Rattle.es_steps.proofs.Opened.{finished-fields}
use Rattle.es_steps.proofs.Sites.{PlacesAlike}
use Rattle.es_changes.specs.Rules.{is_asked_for}
use Rattle.es_changes.proofs.Expressions.{law_expression_proof}
use Rattle.es_conditions.specs.CoreConditions.{body_site, each_passes, each_passes_in, holds_none_where, is_known, is_placed, is_within_slot}
use Rattle.es_conditions.specs.Laws.{LawSlots}
use Rattle.es_conditions.proofs.Inward.{Known, is-known, known-of, same-there}
use Rattle.es_conditions.proofs.Marks.{none-where}
use Rattle.es_conditions.proofs.Moves.{Moves, moved, moved-in}
use Rattle.es_conditions.proofs.Parts.{plain}
use Rattle.es_conditions.proofs.Unwrapped.{no-nullish, unwrapped}

-- EXPRESSIONS: whether a name is a parameter of the function whose body this would be doesn't count there

-- the site with no parameters
abbrev without_parameters : Site → Site
without_parameters n = record n { names = record n.names { parameters = no_name } }

var-free : (b : Bool) (f g : Text → Option ℕ) → b ≡ false → (if b then f else g) ≡ g
var-free true f g e = absurd (true≢false e)
var-free false f g e = refl

module _ (p : Place) (k : AstType) (l : Label) (fs : Fields) (i : ℕ) (bare : is_var_scope k ≡ false) where
  abbrev in_scope : (Text → Option ℕ) → (ℕ → Role) → Text → Option ℕ
  in_scope vs roles = if has_scope k && is_inside k i then within (frame k l roles fs) vs else around p k roles fs

  free-of-parameters : (roles : ℕ → Role) → PlacesAlike is_asked_for (place_in p k l roles fs i) (place_in (record p { parameters = no_name }) k l roles fs i)
  free-of-parameters roles = record {
    scope = λ y u. ap (λ vs. in_scope vs roles y) (var-free (is_var_scope k) _ (around p k roles fs) bare ∙ sym (var-free (is_var_scope k) _ (around p k roles fs) bare));
    parameters = λ y u. refl;
  }

moves-free : (n : Site) (k : AstType) (l : Label) (fs : Fields) (i : ℕ) → is_var_scope k ≡ false → Moves (site_in n k l (opened_fields (is_body k) fs) i) (site_in (without_parameters n) k l (opened_fields (is_body k) fs) i)
moves-free n k l fs i bare = record {
  names = free-of-parameters n.names k l (finished_fields (opened_fields (is_body k) fs)) i bare (role_at n.role k l (finished_fields (opened_fields (is_body k) fs)));
  levels = record { value = λ e. e; content = λ e. e };
  accepted = λ e. e;
}

expression-bare : (k : AstType) (l : Label) (fs : Fields) → has_form s-Expression (node k l fs) ≡ true → is_var_scope k ≡ false
expression-bare Program l fs h = absurd (true≢false (sym (node_form s-Expression Program l fs h).sort))
expression-bare FunctionBody l fs h = absurd (true≢false (sym (node_form s-Expression FunctionBody l fs h).sort))
expression-bare StaticBlock l fs h = absurd (true≢false (sym (node_form s-Expression StaticBlock l fs h).sort))
expression-bare k l fs h = refl

expression-body : (t : Tree) → has_form s-Expression t ≡ true → is_statement_body t ≡ false
expression-body (node FunctionBody l fs) h = absurd (true≢false (sym (node_form s-Expression FunctionBody l fs h).sort))
expression-body (node k l fs) h = refl

module _ (o : EnvOptions) where
  free-passes : (n : Site) (t : Tree) → has_form s-Expression t ≡ true → each_passes (is_placed o) n t ≡ true → each_passes (is_placed o) (without_parameters n) t ≡ true
  free-passes n (node k l fs) h e =
      let parts = and_parts (is_placed o n k l fs) (each_passes_in (is_placed o) (site_in n k l (opened_fields (is_body k) fs)) (is_body k) fs) e in
      and_from (is_placed o (without_parameters n) k l fs) (each_passes_in (is_placed o) (site_in (without_parameters n) k l (opened_fields (is_body k) fs)) (is_body k) fs) parts.0
      (moved-in o (site_in n k l (opened_fields (is_body k) fs)) (site_in (without_parameters n) k l (opened_fields (is_body k) fs)) (is_body k) fs (λ i. moves-free n k l fs i (expression-bare k l fs h)) parts.1)

  -- the expression in the arrow that is called in its place
  abbrev arrow_site : Site → Tree → Site
  arrow_site n t = site_in (site_in n CallExpression (record (in_place_of (label_of t)) { flags = false ∷ [] }) (opened_fields (is_body CallExpression) (one (arrow_node t) then many empty then done)) 0) ArrowFunctionExpression (made [] []) (opened_fields (is_body ArrowFunctionExpression) (many empty then one t then done)) 1

  -- names find in the arrow what they find around it
  arrow-scope : (p : Place) (r : Role) (t : Tree) (gs : Fields) (y : Text) → gs ≡ (many empty then one t then done) → has_form s-Expression t ≡ true → (place_in p ArrowFunctionExpression (made [] []) (role_at r ArrowFunctionExpression (made [] []) gs) gs 1).scope y ≡ p.scope y
  arrow-scope p r t gs y e h =
      subst (λ (fs : Fields). (place_in p ArrowFunctionExpression (made [] []) (role_at r ArrowFunctionExpression (made [] []) fs) fs 1).scope y ≡ p.scope y) (sym e)
      (ap (λ (bs : List Bound). within (bs ++ []) p.scope y) ((law_expression_proof t h).declares_nothing false))

  moves-to-arrow : (n : Site) (t : Tree) → has_form s-Expression t ≡ true → Moves (without_parameters n) (site_in_body (arrow_site n t) nothing_pending t)
  moves-to-arrow n t h = record { names = record { scope = λ y u. arrow-scope n.names reads t (finished_fields (opened_fields (is_body ArrowFunctionExpression) (many empty then one t then done))) y (finished-fields (is_body ArrowFunctionExpression) (many empty then one t then done)) h; parameters = λ y u. refl }; levels = record { value = λ e. refl; content = λ e. refl }; accepted = λ e. refl }

  in-body : (m : Site) (b : Bool) (t : Tree) → b ≡ false → each_passes (is_placed o) (site_in_body m nothing_pending t) t ≡ true → each_passes (is_placed o) (body_site m b t) t ≡ true
  in-body m true t e h = absurd (true≢false e)
  in-body m false t e h = h

  arrow-known : (n : Site) (t : Tree) → has_form s-Expression t ≡ true → Known o n t → Known o n (called_arrow t)
  arrow-known n t h known =
      let l = record (in_place_of (label_of t)) { flags = false ∷ [] } in
      let call = one (arrow_node t) then many empty then done in
      let arrow = many empty then one t then done in
      let a = made [] [] in
      let m = site_in n CallExpression l (opened_fields (is_body CallExpression) call) 0 in
      let passes = moved o (without_parameters n) (site_in_body (arrow_site n t) nothing_pending t) t (moves-to-arrow n t h) (free-passes n t h known.placed) in
      let inside : each_passes (is_placed o) (body_site (arrow_site n t) (is_statement_body t) t) t ≡ true = in-body (arrow_site n t) (is_statement_body t) t (expression-body t h) passes in
      let in_arrow : each_passes (is_placed o) m (arrow_node t) ≡ true = and_from (is_placed o m ArrowFunctionExpression a arrow) _ (plain o m ArrowFunctionExpression a arrow refl refl refl) (rw inside refl) in
      record {
        placed = and_from (is_placed o n CallExpression l call) _ (plain o n CallExpression l call refl refl refl) (rw in_arrow refl);
        marked = record { tidy = λ on. rw (known.marked.tidy on) refl; full = λ on. rw (known.marked.full on) refl };
        value = λ on c. absurd (true≢false (sym c));
        past = known.past;
      }

  pub arrow-holds : (t : Tree) → holds (is_wrapped_for o) (called_arrow t) ≡ false
  arrow-holds t =
      rw (unwrapped o ArrowFunctionExpression (made [] []) (many empty then one t then done) (no-nullish o) refl refl refl refl) refl

pub law_slots_proof : LawSlots
law_slots_proof o = record {
  elsewhere = λ n t slot e.
      let parts = and_parts (holds_none_where (is_within_slot n) o t) (is_known o n t) e in
      and_from (holds_none_where (in_open_slot n.above) o t) (is_known o n t) (same-there (in_open_slot n.above) (is_slot n.above) (holds (is_wrapped_for o) t) slot parts.0) parts.1;
  held = λ n t none e.
      let parts = and_parts (holds_none_where (is_within_slot n) o t) (is_known o n t) e in
      and_from (holds_none_where (in_open_slot n.above) o t) (is_known o n t) (none-where (in_open_slot n.above) (holds (is_wrapped_for o) t) (λ d. none)) parts.1;
  arrow = λ n t form slot e.
      let parts = and_parts (holds_none_where (is_within_slot n) o t) (is_known o n t) e in
      and_from (holds_none_where (in_open_slot n.above) o (called_arrow t)) (is_known o n (called_arrow t)) (none-where (in_open_slot n.above) (holds (is_wrapped_for o) (called_arrow t)) (λ d. arrow-holds o t)) (is-known o n (called_arrow t) (arrow-known o n t form (known-of o n t parts.1)));
}
