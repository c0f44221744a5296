use Rattle.std.proofs.Common.{ap, sym, ◌∙◌}
use Rattle.es_tree.specs.Heads.{head_of, label}
use Rattle.es_tree.specs.declared.kind.Kind.TheVariants.{ObjectPattern as k-ObjectPattern, RestElement as k-RestElement}
use Rattle.lower_object_rest.specs.Parts.{ends_in_rest}
use Rattle.lower_object_rest.proofs.Opened.{parts-made, pattern-opens, rest-last, rest-opens, without-made}
use Rattle.lower_object_rest.proofs.rests.open_pattern.Goals as goal

pub open-properties-requires : goal.open-properties-requires
open-properties-requires c = pattern-opens c.args.pattern c.requires

pub open-argument-requires : goal.open-argument-requires
open-argument-requires c =
    let x = c.open-properties.result in
    rest-opens c.in-Some.rest (rest-last x.properties.items c.pop.new.self.items c.in-Some.rest c.in-Some.ensures.items (ap ends_in_rest (sym c.as_slice.ensures.value) ∙ (sym c.ends_in_rest.ensures ∙ c.if-not-ends_in_rest.false)))

pub returns-then-not-ends_in_rest : goal.returns-then-not-ends_in_rest
returns-then-not-ends_in_rest c = without-made c.args.pattern c.open-properties.result c.open-properties.ensures c.requires (ap ends_in_rest (sym c.as_slice.ensures.value) ∙ (sym c.ends_in_rest.ensures ∙ c.if-not-ends_in_rest.true))

pub returns : goal.returns
returns c =
    let x = c.open-properties.result in
    let r = c.open-argument.result in
    parts-made c.args.pattern (label x.id x.span (head_of k-ObjectPattern)) (label r.id r.span (head_of k-RestElement)) x.properties.items c.pop.new.self.items c.in-Some.rest r.argument c.open-properties.ensures c.requires c.in-Some.ensures.items (ap ends_in_rest (sym c.as_slice.ensures.value) ∙ (sym c.ends_in_rest.ensures ∙ c.if-not-ends_in_rest.false)) c.open-argument.ensures
