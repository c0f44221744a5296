use Rattle.std.proofs.Common.{◌≡◌, ◌∙◌, ap, arith, sym}
use Rattle.std.specs.Prelude.{Bool, ◌&&◌, false, true}
use Rattle.es_tree.specs.Heads.{symbol as symbol_number}
use Rattle.es_tree.specs.Tree.{Tree}
use Rattle.es_tree.specs.Views.{plain}
use Rattle.es_resolution.specs.Seen.{seen, seen_in}
use Rattle.es_runs.specs.Duplication.{has_no_fields}
use Rattle.es_steps.specs.Exponentiation.{stays}
use Rattle.lower_temporaries.proofs.ReadAgain.{asks_fields}
use Rattle.lower_temporaries.proofs.ReadAgain.{no_fields-seen}
use Rattle.lower_exponentiation.proofs.TargetParts.{some-symbol}
use Rattle.lower_exponentiation.specs.Targets.{names_that_stay}
use Rattle.lower_exponentiation.proofs.targets.stays.Goals as goal
use Rattle.lower_exponentiation.proofs.targets.stays.Goals.{then-by_name, else-by_name}

pub returns-in-Super : goal.returns-in-Super
returns-in-Super c names =
    let x = c.object.inside in
    let holds = names_that_stay c.args.by_name in
    c.is_empty.ensures ∙
    sym (asks_fields (λ (t : Tree). stays holds (seen names t)) c.args.object.now x.id x.span x.kind x.fields.items _ c.object.view_is (λ fs. ap (λ k. stays holds (seen names (plain x.id x.span k fs))) c.in-Super.is ∙ no_fields-seen names fs) (omega (arith, x.fields.ok.0)))

pub returns-then-is_some : goal.returns-then-is_some
returns-then-is_some c names =
    let x = c.object.inside in
    let holds = names_that_stay c.args.by_name in
    let symbol = c.in-Identifier.symbol in
    let found : names_that_stay c.args.by_name (symbol_number symbol) ≡ true = elim c.if-by_name.branch [
      | then-by_name w ↦ ap (λ (b : Bool). names_that_stay b (symbol_number symbol)) w.if-by_name.true ∙ (some-symbol symbol ∙ (sym w.is_some.ensures ∙ (sym w.value-is ∙ c.if-is_some.true)))
      | else-by_name w ↦ absurd (let no : false ≡ true = sym w.if-by_name.false ∙ (sym w.value-is ∙ c.if-is_some.true) in cc no)
    ] in
    c.is_empty-then-is_some.ensures ∙
    sym (asks_fields (λ (t : Tree). stays holds (seen names t)) c.args.object.now x.id x.span x.kind x.fields.items _ c.object.view_is
    (λ fs. ap (λ k. stays holds (seen names (plain x.id x.span k fs))) c.in-Identifier.is ∙ (ap (λ (b : Bool). b && has_no_fields (seen_in names fs)) found ∙ no_fields-seen names fs)) (omega (arith, x.fields.ok.0)))
