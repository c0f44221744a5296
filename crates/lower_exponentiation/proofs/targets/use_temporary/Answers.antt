use Rattle.std.proofs.Common.{◌≡◌, ◌∙◌, [], ◌∷◌, ap, arith, map, Some}
use Rattle.es_tree.specs.Tree.{Tree}
use Rattle.es_tree.specs.Words.{Text}
use Rattle.es_resolution.specs.Seen.{seen}
use Rattle.es_steps.specs.Nodes.{identifier}
use Rattle.lower_temporaries.specs.Declarators.{bound_as}
use Rattle.lower_temporaries.specs.SeenTrees.{named, no_bindings}
use Rattle.lower_temporaries.proofs.Takings.{reads-then, takes-reads}
use Rattle.lower_exponentiation.proofs.TargetParts.{next-read}
use Rattle.lower_exponentiation.proofs.targets.use_temporary.Goals as goal

pub returns : goal.returns
returns c names =
    let b = c.in_ok-assign.temporary in
    let made = c.in_ok-assign.ensures names in
    let called : identifier (named c.as_str-name.result.now (Some b.symbol_id.0)) ≡ identifier (bound_as b) = ap (λ (x : Text). identifier (named x (Some b.symbol_id.0))) c.as_str-name.ensures.value in
    record {
      temporary = bound_as b;
      next = made.next;
      takes = takes-reads {m = 4} {n = 2} c.assign_temporary.new.ctx _ made.takes (reads-then {m = 1} {n = 1} c.in_ok-written.ensures.reads c.in_ok-read.ensures.reads);
      first_is = ap (map (seen names)) c.in_ok-first.ensures.items ∙ ap (λ (t : Tree). t ∷ []) made.wrote;
      written_is = c.in_ok-written.ensures.made names ∙ called;
      read_is = c.in_ok-read.ensures.made names ∙ called;
    }

pub read_name-requires : goal.read_name-requires
read_name-requires c = let made = c.in_ok-assign.ensures no_bindings in record { room = omega (arith, made.takes.next_is) }

pub read_name-requires-2 : goal.read_name-requires-2
read_name-requires-2 c = let made = c.in_ok-assign.ensures no_bindings in record { room = omega (arith, made.takes.next_is, next-read c.in_ok-written.ensures.reads) }
