-- The row of nullish coalescing keeps the conditions.
use Rattle.std.proofs.Common.{◌≡◌, true, false, List, [], ◌∷◌, refl}
use Rattle.std.specs.Prelude.{ℕ, Option, Some, codes}
use Rattle.std.proofs.lemmas.Bool.{and_right}
use Rattle.es_tree.specs.Tree.{Tree, node, Label, done, ◌then◌, one}
use Rattle.es_tree.specs.Words.{Text}
use Rattle.es_tree.specs.declared.ast_type.AstType.TheVariants.{LogicalExpression}
use Rattle.es_tree.specs.declared.options.EnvOptions.{EnvOptions}
use Rattle.es_runs.specs.Rules.{assign_node, binary_node, in_place_of, logical_node, null_node, tested, void_zero_node}
use Rattle.es_resolution.specs.Declarations.{Bound}
use Rattle.es_steps.specs.Nodes.{made, identifier}
use Rattle.es_steps.specs.NullishCoalescing.{NullishCoalescingRule}
use Rattle.es_steps.specs.NullishCoalescing.NullishCoalescingRule.{with_temporary, reading_again}
use Rattle.es_steps.specs.Slots.{holds, in_open_slot}
use Rattle.es_steps.specs.Steps.{Site, Whole}
use Rattle.es_steps.specs.WrapRule.{is_wrapped_for, takes_one}
use Rattle.es_conditions.specs.CoreConditions.{is_chain_inside, is_wrapped}
use Rattle.es_conditions.specs.Laws.{Keeps}
use Rattle.es_conditions.proofs.Inward.{Known}
use Rattle.es_conditions.proofs.Parts.{Made, Part, made-binary, made-conditional, made-identifier, made-logical, made-null, made-stored, made-void, part-of}
use Rattle.es_conditions.proofs.Rows.{scope_at, outside-slots, parts-of-logical, wrapped-made, wrapped-of}

module _ (o : EnvOptions) where
  -- `begin !== null && again !== void 0 ? again : r`
  made-tested : (s : Text → Option ℕ) (m : Label) (begin again r : Tree) → Part o s begin → Part o s again → Part o s r → Made o s (tested m begin again r)
  made-tested s m begin again r hb ha hr =
      let no_null = made-binary o s (made (Some (codes "!==") ∷ []) []) begin null_node refl hb (part-of o s null_node (made-null o s)) in
      let no_void = made-binary o s (made (Some (codes "!==") ∷ []) []) again void_zero_node refl ha (part-of o s void_zero_node (made-void o s)) in
      let both = made-logical o s (made (Some (codes "&&") ∷ []) []) (binary_node (codes "!==") begin null_node) (binary_node (codes "!==") again void_zero_node) (part-of o s (binary_node (codes "!==") begin null_node) no_null) (part-of o s (binary_node (codes "!==") again void_zero_node) no_void) in
      made-conditional o s (in_place_of m) (logical_node (codes "&&") (binary_node (codes "!==") begin null_node) (binary_node (codes "!==") again void_zero_node)) again r (part-of o s _ both) ha hr

  module _ (on : o.es2020.nullish_coalescing_operator ≡ true) where
    pub coalescing-holds : (m : Label) (l r : Tree) → m.texts ≡ Some (codes "??") ∷ [] → holds (is_wrapped_for o) (node LogicalExpression m (one l then one r then done)) ≡ true
    coalescing-holds m l r texts = rw (on, texts) refl

    row-slot : (n : Site) (w : Whole) (bs : List Bound) (t u : Tree) → NullishCoalescingRule n w bs t u → is_wrapped o n t ≡ true → in_open_slot n.above ≡ false
    row-slot n w bs t u (with_temporary {m = m} {l = l} {r = r} {x = x} texts again next) e = outside-slots o n (node LogicalExpression m (one l then one r then done)) e (coalescing-holds m l r texts)
    row-slot n w bs t u (reading_again {m = m} {l = l} {r = r} texts again) e = outside-slots o n (node LogicalExpression m (one l then one r then done)) e (coalescing-holds m l r texts)

    record RowMade (n : Site) (u : Tree) : Type 0 where
      made : Made o (scope_at n) u
      no_chain : is_chain_inside u ≡ false

    row-made : (n : Site) (w : Whole) (bs : List Bound) (t u : Tree) → NullishCoalescingRule n w bs t u → Known o n t → RowMade n u
    row-made n w bs t u (with_temporary {m = m} {l = l} {r = r} {x = x} texts again next) h =
        let parts = parts-of-logical o n m l r h in
        record { made = made-tested (scope_at n) m (assign_node (identifier x) l) (identifier x) r (part-of o (scope_at n) (assign_node (identifier x) l) (made-stored o (scope_at n) x l parts.0)) (part-of o (scope_at n) (identifier x) (made-identifier o (scope_at n) x)) parts.1; no_chain = refl }
    row-made n w bs t u (reading_again {m = m} {l = l} {r = r} texts again) h =
        let parts = parts-of-logical o n m l r h in
        record { made = made-tested (scope_at n) m l l r parts.0 parts.0 parts.1; no_chain = refl }

    pub coalescing-keeps : Keeps (is_wrapped o) (is_wrapped o) NullishCoalescingRule
    coalescing-keeps = record {
      outside = λ n w bs s t u form e r. and_right (takes_one bs) (in_open_slot n.above) (row-slot n w bs t u r e);
      known = λ n w bs s t u form e r. let known = (wrapped-of o n t e).known in let it = row-made n w bs t u r known in wrapped-made o n u (row-slot n w bs t u r e) known.past it.made it.no_chain;
    }
