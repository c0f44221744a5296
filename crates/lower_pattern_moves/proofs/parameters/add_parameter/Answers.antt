use Rattle.std.proofs.Common.{◌∙◌, ap, string_bytes, sym}
use Rattle.std.specs.Prelude.{codes}
use Rattle.es_tree.specs.Tree.{label_of, one}
use Rattle.es_pattern_moves.specs.PatternMoves.{pattern_of}
use Rattle.lower_fresh_names.specs.Names.{name_with}
use Rattle.lower_pattern_moves.specs.Parts.{declaration_with, named_by}
use Rattle.lower_pattern_moves.proofs.MovedParameters.{adds-rest}
use Rattle.lower_pattern_moves.proofs.Names.{makes-one}
use Rattle.lower_pattern_moves.proofs.parameters.add_parameter.Goals as goal

pub returns : goal.returns
returns c =
    let t = c.args.parameter in
    let x = string_bytes c.in_ok-text.text in
    let id = c.id_of-id.result.0 in
    let value = c.in_ok-value.ensures ∙ ap (λ y. name_with id y) c.as_str-2.ensures.value in
    let bound = ap (λ p. declaration_with id (codes "let") p (one c.in_ok-value.value)) c.in_ok-renamed.ensures.pattern in
    adds-rest c.args.uids.now c.generate.new.self t x id c.in_ok-renamed.renamed c.in_ok-declaration.declaration (sym c.is_rest_parameter.ensures ∙ c.if-not-is_rest_parameter.false)
    (makes-one c.args.uids.now c.generate.new.self x c.in_ok-text.ensures.fresh c.in_ok-text.ensures.taken c.in_ok-text.ensures.made) (c.id_of-id.ensures ∙ ap (λ p. (label_of p).id) c.in_ok-renamed.ensures.pattern)
    (c.in_ok-renamed.ensures.named ∙ ap (λ y. named_by y t) c.as_str.ensures.value) (c.in_ok-declaration.ensures ∙ (bound ∙ ap (λ v. declaration_with id (codes "let") (pattern_of t) (one v)) value)) c.in_ok-push-2.ensures.items c.in_ok-push-3.ensures.items
