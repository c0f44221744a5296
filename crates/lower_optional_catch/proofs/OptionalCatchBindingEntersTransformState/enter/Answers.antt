use Rattle.std.proofs.Common.{◌∙◌, subst, sym}
use Rattle.std.proofs.lemmas.Bool.{and_parts}
use Rattle.es_tree.specs.Tree.{fields_of, kind_of, label_of}
use Rattle.es_resolution.specs.Seen.{seen}
use Rattle.es_traverse.specs.Laws.{KeptLoad}
use Rattle.lower_temporaries.specs.Takings.{moment_of}
use Rattle.lower_optional_catch.specs.Catches.{is_lowerable_catch}
use Rattle.lower_optional_catch.proofs.Hook.{SettledBy, caught, kept-caught, left-alone}
use Rattle.lower_optional_catch.proofs.OptionalCatchBindingEntersTransformState.enter.Goals as goal

pub returns-then-not-lowers-clause-entered : goal.returns-then-not-lowers-clause-entered
returns-then-not-lowers-clause-entered c = left-alone c.args.ctx.now.options c.args.self.now.is_on c.requires.ready.suited (moment_of c.args.ctx.now) c.args.node.now (sym c.lowers.ensures ∙ c.if-not-lowers.true)

pub set_parameter-requires : goal.set_parameter-requires
set_parameter-requires c =
    let t = c.args.node.now in
    (and_parts c.args.self.now.is_on (is_lowerable_catch (kind_of t) (label_of t) (fields_of t)) (sym c.lowers.ensures ∙ c.if-not-lowers.false)).1

pub returns-clause-kept : goal.returns-clause-kept
returns-clause-kept c =
    let t = c.args.node.now in
    let lowers = and_parts c.args.self.now.is_on (is_lowerable_catch (kind_of t) (label_of t) (fields_of t)) (sym c.lowers.ensures ∙ c.if-not-lowers.false) in
    let taken = c.in_ok-parameter.ensures.taken in
    let a = moment_of c.args.ctx.now in
    let b = moment_of c.new_bound_name.new.ctx in
    subst (λ u. KeptLoad 0 a t b u) (sym c.set_parameter.ensures) (kept-caught a b t c.in_ok-parameter.parameter taken.name lowers.1 taken.stands taken.takes)

pub returns-clause-entered : goal.returns-clause-entered
returns-clause-entered c names =
    let t = c.args.node.now in
    let o = c.args.ctx.now.options in
    let lowers = and_parts c.args.self.now.is_on (is_lowerable_catch (kind_of t) (label_of t) (fields_of t)) (sym c.lowers.ensures ∙ c.if-not-lowers.false) in
    let taken = c.in_ok-parameter.ensures.taken in
    let a = moment_of c.args.ctx.now in
    let b = moment_of c.new_bound_name.new.ctx in
    subst (λ u. SettledBy o a (seen names t) b (seen names u)) (sym c.set_parameter.ensures) (caught o (sym c.requires.ready.suited ∙ lowers.0) a b t c.in_ok-parameter.parameter taken.name lowers.1 taken.next taken.stands taken.takes names)
