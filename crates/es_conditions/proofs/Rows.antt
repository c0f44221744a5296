-- What rows share: their nodes as parts, and what is known of what they make.
use Rattle.std.proofs.Common.{◌≡◌, ◌&&◌, Bool, true, false, refl, sym, ◌∙◌, true≢false}
use Rattle.std.specs.Prelude.{ℕ, Option, not}
use Rattle.std.proofs.lemmas.Bool.{and_parts, and_from}
use Rattle.es_tree.specs.Tree.{Tree, node, Label, done, ◌then◌, one}
use Rattle.es_tree.specs.Words.{Text}
use Rattle.es_tree.specs.declared.ast_type.AstType.TheVariants.{AssignmentExpression, BinaryExpression, LogicalExpression}
use Rattle.es_tree.specs.declared.options.EnvOptions.{EnvOptions}
use Rattle.es_steps.specs.Open.{is_body, opened_fields}
use Rattle.es_steps.specs.Slots.{holds, in_open_slot}
use Rattle.es_steps.specs.Steps.{Site, site_in}
use Rattle.es_steps.specs.WrapRule.{is_wrapped_for}
use Rattle.es_conditions.specs.CoreConditions.{holds_none_where, is_chain_inside, is_free, is_known, is_past_chains, is_placed, is_settled, is_wrapped}
use Rattle.es_conditions.proofs.Inward.{Known, is-known, known-of}
use Rattle.es_conditions.proofs.Marks.{none-where, where-none}
use Rattle.es_conditions.proofs.Parts.{Made, Part, two-parts}

-- what names find from a site
abbrev pub scope_at : Site → Text → Option ℕ
scope_at n = n.names.scope

closed : (b h : Bool) → not (b && h) ≡ true → h ≡ true → b ≡ false
closed true true e d = absurd (true≢false (sym e))
closed true false e d = absurd (true≢false (sym d))
closed false h e d = refl

module _ (o : EnvOptions) where
  -- THE NODE that a row acts on

  pub record Wrapped (n : Site) (t : Tree) : Type 0 where
    pub slot : in_open_slot n.above ≡ true → holds (is_wrapped_for o) t ≡ false
    pub known : Known o n t

  pub wrapped-of : (n : Site) (t : Tree) → is_wrapped o n t ≡ true → Wrapped n t
  wrapped-of n t e =
      let parts = and_parts (holds_none_where (in_open_slot n.above) o t) (is_known o n t) e in
      record { slot = where-none (in_open_slot n.above) (holds (is_wrapped_for o) t) parts.0; known = known-of o n t parts.1 }

  pub is-wrapped : (n : Site) (t : Tree) → Wrapped n t → is_wrapped o n t ≡ true
  is-wrapped n t h = and_from (holds_none_where (in_open_slot n.above) o t) (is_known o n t) (none-where (in_open_slot n.above) (holds (is_wrapped_for o) t) h.slot) (is-known o n t h.known)

  -- what holds something that slots are wrapped for stands in no open slot
  pub outside-slots : (n : Site) (t : Tree) → is_wrapped o n t ≡ true → holds (is_wrapped_for o) t ≡ true → in_open_slot n.above ≡ false
  outside-slots n t e h = closed (in_open_slot n.above) (holds (is_wrapped_for o) t) (and_parts (holds_none_where (in_open_slot n.above) o t) (is_known o n t) e).0 h

  pub parts-of-assignment : (n : Site) (l : Label) (a b : Tree) → Known o n (node AssignmentExpression l (one a then one b then done)) → Part o (scope_at n) a × Part o (scope_at n) b
  parts-of-assignment n l a b h = two-parts o (scope_at n) (site_in n AssignmentExpression l (opened_fields (is_body AssignmentExpression) (one a then one b then done))) a b (is_placed o n AssignmentExpression l (one a then one b then done)) false false (record { scope = λ y u. refl; parameters = λ y u. refl }) (record { scope = λ y u. refl; parameters = λ y u. refl }) h.placed h.marked.tidy h.marked.full

  pub parts-of-logical : (n : Site) (l : Label) (a b : Tree) → Known o n (node LogicalExpression l (one a then one b then done)) → Part o (scope_at n) a × Part o (scope_at n) b
  parts-of-logical n l a b h = two-parts o (scope_at n) (site_in n LogicalExpression l (opened_fields (is_body LogicalExpression) (one a then one b then done))) a b (is_placed o n LogicalExpression l (one a then one b then done)) false false (record { scope = λ y u. refl; parameters = λ y u. refl }) (record { scope = λ y u. refl; parameters = λ y u. refl }) h.placed h.marked.tidy h.marked.full

  pub parts-of-binary : (n : Site) (l : Label) (a b : Tree) → Known o n (node BinaryExpression l (one a then one b then done)) → Part o (scope_at n) a × Part o (scope_at n) b
  parts-of-binary n l a b h = two-parts o (scope_at n) (site_in n BinaryExpression l (opened_fields (is_body BinaryExpression) (one a then one b then done))) a b (is_placed o n BinaryExpression l (one a then one b then done)) false false (record { scope = λ y u. refl; parameters = λ y u. refl }) (record { scope = λ y u. refl; parameters = λ y u. refl }) h.placed h.marked.tidy h.marked.full

  -- WHAT IT LEAVES

  pub known-made : (n : Site) (u : Tree) → is_past_chains o n ≡ true → Made o (scope_at n) u → is_chain_inside u ≡ false → Known o n u
  known-made n u past h e = record { placed = h.anywhere n (λ y u. refl); marked = h.marked; value = λ on c. absurd (true≢false (sym c ∙ e)); past = past }

  pub wrapped-made : (n : Site) (u : Tree) → in_open_slot n.above ≡ false → is_past_chains o n ≡ true → Made o (scope_at n) u → is_chain_inside u ≡ false → is_wrapped o n u ≡ true
  wrapped-made n u slot past h e = is-wrapped n u (record { slot = λ d. absurd (true≢false (sym d ∙ slot)); known = known-made n u past h e })

  pub free-of : (n : Site) (u : Tree) → is_wrapped o n u ≡ true → is_settled o u ≡ true → is_free o n u ≡ true
  free-of n u w e = and_from (is_wrapped o n u) (is_settled o u) w e

  pub wrapped-free : (n : Site) (t : Tree) → is_free o n t ≡ true → is_wrapped o n t ≡ true
  wrapped-free n t e = (and_parts (is_wrapped o n t) (is_settled o t) e).0

  pub past-free : (n : Site) (t : Tree) → is_free o n t ≡ true → is_past_chains o n ≡ true
  past-free n t e = (wrapped-of n t (wrapped-free n t e)).known.past
