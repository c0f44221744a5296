use Rattle.std.proofs.Common.{◌≡◌, ◌∙◌, [], ◌∷◌, ap, arith, map, refl, Some}
use Rattle.es_tree.specs.Tree.{Tree}
use Rattle.es_tree.specs.Words.{Text}
use Rattle.es_resolution.specs.Seen.{seen}
use Rattle.es_steps.specs.Nodes.{identifier}
use Rattle.lower_temporaries.specs.Declarators.{bound_as}
use Rattle.lower_temporaries.specs.SeenTrees.{named, no_bindings}
use Rattle.lower_temporaries.proofs.TwoFields.{name-seen}
use Rattle.lower_exponentiation.proofs.TargetParts.{name_alone, name_reads, next-read, there-read, used_in_front}
use Rattle.lower_exponentiation.proofs.targets.read_in_front.Goals as goal

pub returns : goal.returns
returns c names =
    let b = c.in_ok-assign.temporary in
    let made = c.in_ok-assign.ensures names in
    let called : identifier (named c.as_str.result.now (Some b.symbol_id.0)) ≡ identifier (bound_as b) = ap (λ (x : Text). identifier (named x (Some b.symbol_id.0))) c.as_str.ensures.value in
    used_in_front c.args.ctx.now c.read_once_more.new.ctx c.assign_temporary.new.ctx c.read_name.new.ctx (seen names c.args.target) (seen names c.in_ok-value.value) (bound_as b) _ _ _ (name-seen names c.args.target ∙ c.requires.target) (c.requires.unbound names) (c.in_ok-value.ensures.copy names)
    (name_reads c.args.target c.args.ctx.now c.read_once_more.new.ctx c.requires.target c.in_ok-value.ensures.reads) made.next made.takes c.in_ok-read.ensures.reads (ap (map (seen names)) c.in_ok-first.ensures.items ∙ ap (λ (t : Tree). t ∷ []) made.wrote) refl (c.in_ok-read.ensures.made names ∙ called)

pub read_once_more-requires : goal.read_once_more-requires
read_once_more-requires c = let leaf = name_alone c.args.target c.requires.target in record { room = omega (arith, leaf.alone) }

pub assign_temporary-requires : goal.assign_temporary-requires
assign_temporary-requires c =
    let leaf = name_alone c.args.target c.requires.target in
    let reads = c.in_ok-value.ensures.reads in
    record { there = there-read reads c.requires.there; room = omega (arith, leaf.alone, next-read reads) }

pub read_name-requires : goal.read_name-requires
read_name-requires c =
    let leaf = name_alone c.args.target c.requires.target in
    let made = c.in_ok-assign.ensures no_bindings in
    record { room = omega (arith, leaf.alone, next-read c.in_ok-value.ensures.reads, made.takes.next_is) }
