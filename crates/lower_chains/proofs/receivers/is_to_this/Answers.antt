use Rattle.std.proofs.Common.{◌≡◌, ◌∙◌, Bool, true, false, sym, ap, refl, arith}
use Rattle.es_tree.specs.Tree.{Fields}
use Rattle.es_tree.specs.Views.{plain}
use Rattle.es_tree.specs.declared.ids.NodeId.{NodeId}
use Rattle.es_tree.specs.declared.ids.Span.{Span}
use Rattle.es_tree.specs.declared.kind.Kind.TheVariants.{Super as k-Super, ThisExpression as k-ThisExpression}
use Rattle.es_runs.specs.Duplication.{has_no_fields}
use Rattle.lower_temporaries.proofs.ReadAgain.{asks_fields}
use Rattle.lower_chains.specs.Ways.{to_this}
use Rattle.lower_chains.proofs.receivers.is_to_this.Goals as goal

super_alone : (with_this : Bool) (id : NodeId) (span : Span) (fs : Fields) → to_this with_this (plain id span k-Super fs) ≡ has_no_fields fs
super_alone true id span fs = refl
super_alone false id span fs = refl

pub returns-in-Super : goal.returns-in-Super
returns-in-Super c =
    let x = c.object.inside in
    let test = to_this c.args.with_this in
    c.is_empty.ensures ∙ sym (asks_fields test c.args.object.now x.id x.span x.kind x.fields.items _ c.object.view_is (λ gs. ap (λ k. test (plain x.id x.span k gs)) c.in-Super.is ∙ super_alone c.args.with_this x.id x.span gs) (omega (arith, x.fields.ok.0)))

pub returns-then-with_this : goal.returns-then-with_this
returns-then-with_this c =
    let x = c.object.inside in
    let test = to_this c.args.with_this in
    c.is_empty-then-with_this.ensures ∙ sym (asks_fields test c.args.object.now x.id x.span x.kind x.fields.items _ c.object.view_is (λ gs. ap (λ k. test (plain x.id x.span k gs)) c.in-ThisExpression.is ∙ ap (λ (b : Bool). to_this b (plain x.id x.span k-ThisExpression gs)) c.if-with_this.true) (omega (arith, x.fields.ok.0)))
