use Rattle.std.proofs.Common.{ap, arith, sym, ◌∙◌}
use Rattle.std.specs.Prelude.{Bool, not, string_bytes}
use Rattle.es_tree.specs.Fresh.{is_among}
use Rattle.es_tree.specs.Heads.{symbol as symbol_number}
use Rattle.es_tree.specs.Tree.{Tree}
use Rattle.es_changes.specs.Moments.{whole_at}
use Rattle.es_resolution.specs.Seen.{seen}
use Rattle.es_rest_rows.specs.RestRows.{is_kept}
use Rattle.es_scope.specs.ContextSymbols.{free_symbol_of}
use Rattle.es_scope.specs.Contexts.{made_of}
use Rattle.lower_temporaries.specs.Takings.{moment_of}
use Rattle.lower_temporaries.proofs.ReadAgain.{some_fields_fail}
use Rattle.lower_object_rest.specs.Parts.{binds_called}
use Rattle.lower_object_rest.proofs.KeptSources.{binds-seen, keeps_name, keeps-made, keeps-not-steady, keeps-steady, kept-leaf, made-named, named-leaf}
use Rattle.lower_object_rest.proofs.sources.is_kept.Goals as goal

pub returns-then-not-is_empty : goal.returns-then-not-is_empty
returns-then-not-is_empty c names =
    let x = c.source.inside in
    let n = c.in-Identifier in
    let w = whole_at (moment_of c.args.ctx.now) in
    let p = seen names c.args.pattern.now in
    let test : Tree → Bool = λ t. is_kept w p (seen names t) in
    sym (some_fields_fail test c.args.source.now x.id x.span x.kind x.fields.items x.fields.len (keeps_name w p (string_bytes n.name) (symbol_number n.symbol)) c.source.view_is (named-leaf w p names x.id x.span x.kind n.name _ n.symbol n.is) (omega (arith, x.fields.ok.0)) (sym c.is_empty.ensures ∙ c.if-not-is_empty.true))

pub returns-then-is_fresh_name : goal.returns-then-is_fresh_name
returns-then-is_fresh_name c names =
    let x = c.source.inside in
    let n = c.in-Identifier in
    let ctx = c.args.ctx.now in
    let w = whole_at (moment_of ctx) in
    let p = seen names c.args.pattern.now in
    let test : Tree → Bool = λ t. is_kept w p (seen names t) in
    let made = made-named (free_symbol_of ctx) (made_of ctx) (string_bytes n.name) ∙ (ap (is_among (made_of ctx)) (sym c.as_str.ensures.value) ∙ sym c.is_fresh_name.ensures ∙ c.if-is_fresh_name.true) in
    sym (kept-leaf test c.args.source.now x.id x.span x.kind x.fields.items x.fields.len (keeps_name w p (string_bytes n.name) (symbol_number n.symbol)) c.source.view_is (named-leaf w p names x.id x.span x.kind n.name _ n.symbol n.is) (omega (arith, x.fields.ok.0)) (sym c.is_empty.ensures ∙ c.if-not-is_empty.false)
    ∙ keeps-made w p (string_bytes n.name) (symbol_number n.symbol) made)

pub returns-then-not-is_steady : goal.returns-then-not-is_steady
returns-then-not-is_steady c names =
    let x = c.source.inside in
    let n = c.in-Identifier in
    let ctx = c.args.ctx.now in
    let w = whole_at (moment_of ctx) in
    let p = seen names c.args.pattern.now in
    let test : Tree → Bool = λ t. is_kept w p (seen names t) in
    let made = made-named (free_symbol_of ctx) (made_of ctx) (string_bytes n.name) ∙ (ap (is_among (made_of ctx)) (sym c.as_str.ensures.value) ∙ sym c.is_fresh_name.ensures ∙ c.if-is_fresh_name.false) in
    sym (kept-leaf test c.args.source.now x.id x.span x.kind x.fields.items x.fields.len (keeps_name w p (string_bytes n.name) (symbol_number n.symbol)) c.source.view_is (named-leaf w p names x.id x.span x.kind n.name _ n.symbol n.is) (omega (arith, x.fields.ok.0)) (sym c.is_empty.ensures ∙ c.if-not-is_empty.false)
    ∙ keeps-not-steady w p (string_bytes n.name) (symbol_number n.symbol) made (sym c.is_steady.ensures ∙ c.if-not-is_steady.true))

pub returns : goal.returns
returns c names =
    let x = c.source.inside in
    let n = c.in-Identifier in
    let ctx = c.args.ctx.now in
    let w = whole_at (moment_of ctx) in
    let p = seen names c.args.pattern.now in
    let test : Tree → Bool = λ t. is_kept w p (seen names t) in
    let made = made-named (free_symbol_of ctx) (made_of ctx) (string_bytes n.name) ∙ (ap (is_among (made_of ctx)) (sym c.as_str.ensures.value) ∙ sym c.is_fresh_name.ensures ∙ c.if-is_fresh_name.false) in
    sym (kept-leaf test c.args.source.now x.id x.span x.kind x.fields.items x.fields.len (keeps_name w p (string_bytes n.name) (symbol_number n.symbol)) c.source.view_is (named-leaf w p names x.id x.span x.kind n.name _ n.symbol n.is) (omega (arith, x.fields.ok.0)) (sym c.is_empty.ensures ∙ c.if-not-is_empty.false)
    ∙ (keeps-steady w p (string_bytes n.name) (symbol_number n.symbol) made (sym c.is_steady.ensures ∙ c.if-not-is_steady.false) ∙ ap not (binds-seen names (string_bytes n.name) c.args.pattern.now ∙ (ap (λ v. binds_called v c.args.pattern.now) (sym c.as_str-2.ensures.value) ∙ sym c.in_ok-bound.ensures))))
