use Rattle.std.proofs.Common.{◌≡◌, ◌∙◌, Bool, true, sym, ap, arith, inl, inr}
use Rattle.std.specs.Prelude.{◌&&◌}
use Rattle.es_tree.specs.Heads.{symbol as symbol_number}
use Rattle.es_tree.specs.Tree.{Tree, Fields}
use Rattle.es_tree.specs.Views.{plain}
use Rattle.es_tree.specs.declared.kind.Kind.{Kind as NodeKind}
use Rattle.es_resolution.specs.Seen.{seen, seen_in}
use Rattle.es_runs.specs.Duplication.{has_no_fields}
use Rattle.es_steps.specs.Duplication.{is_read_again}
use Rattle.lower_temporaries.specs.Duplicates.{read_again_in}
use Rattle.lower_temporaries.proofs.ReadAgain.{asks_fields, no_fields-seen}
use Rattle.lower_temporaries.proofs.readings.is_read_again.Goals as goal

pub returns-then-is_name_read_again : goal.returns-then-is_name_read_again
returns-then-is_name_read_again c = λ names.
    let x = c.expression.inside in
    let name = c.in-Identifier in
    let again = read_again_in c.args.mutated_symbol_needs_temp_var c.args.ctx.now in
    let test : Tree → Bool = λ t. is_read_again again (seen names t) in
    let yes : again (symbol_number name.symbol) ≡ true = sym c.is_name_read_again.ensures ∙ c.if-is_name_read_again.true in
    c.is_empty.ensures ∙ sym (asks_fields test c.args.expression.now x.id x.span x.kind x.fields.items _ c.expression.view_is (λ gs. ap (λ k. test (plain x.id x.span k gs)) name.is ∙ (ap (λ b. b && has_no_fields (seen_in names gs)) yes ∙ no_fields-seen names gs)) (omega (arith, x.fields.ok.0)))

pub returns-in-ThisExpression : goal.returns-in-ThisExpression
returns-in-ThisExpression c = λ names.
    let x = c.expression.inside in
    let test : Tree → Bool = λ t. is_read_again (read_again_in c.args.mutated_symbol_needs_temp_var c.args.ctx.now) (seen names t) in
    let by : (kind : NodeKind) → x.kind ≡ kind → ((gs : Fields) → test (plain x.id x.span kind gs) ≡ has_no_fields gs) → (gs : Fields) → test (plain x.id x.span x.kind gs) ≡ has_no_fields gs = λ kind e leaf gs. ap (λ k. test (plain x.id x.span k gs)) e ∙ leaf gs in
    c.is_empty-in-ThisExpression.ensures ∙ sym (asks_fields test c.args.expression.now x.id x.span x.kind x.fields.items _ c.expression.view_is
    (elim c.in-ThisExpression.is [
      | inl e ↦ by _ e (no_fields-seen names)
      | inr (inl e) ↦ by _ e (no_fields-seen names)
      | inr (inr (inl e)) ↦ by _ e (no_fields-seen names)
      | inr (inr (inr (inl p))) ↦ by _ p.1 (no_fields-seen names)
      | inr (inr (inr (inr (inl p)))) ↦ by _ p.2 (no_fields-seen names)
      | inr (inr (inr (inr (inr (inl p))))) ↦ by _ p.2 (no_fields-seen names)
      | inr (inr (inr (inr (inr (inr p))))) ↦ by _ p.1 (no_fields-seen names)
    ])
    (omega (arith, x.fields.ok.0)))
