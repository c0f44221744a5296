use Rattle.std.proofs.Common.{◌≡◌, [], ◌∷◌, option_map, subst, sym, ◌∙◌}
use Rattle.es_semantic.specs.SymbolsOf.{symbols_of}
use Rattle.es_unsupported.specs.MarkedWalk.{first_at}
use Rattle.es_unsupported.specs.Shapes.{plain_found}
use Rattle.es_unsupported.specs.declared.node_places.NodePlace.{NodePlace}
use Rattle.es_unsupported.proofs.Programs.{none_wanted, program_binds, program_first, program_known, program_looks_up}
use Rattle.es_unsupported.proofs.finding.find_unsupported.Goals as goal

pub returns-then-not-any : goal.returns-then-not-any
returns-then-not-any c = record {
  first = λ p built. sym (none_wanted c.of_program-wanted.result c.args.options.now p (c.of_program-wanted.ensures (symbols_of p) (program_binds p c.args.program.now c.args.scoping.now built)) (sym c.if-not-any.ensures));
}

pub find_in-requires-clause-marks : goal.find_in-requires-clause-marks
find_in-requires-clause-marks c = program_known c.requires.built.0 c.args.program.now c.args.scoping.now c.requires.built.1

pub returns : goal.returns
returns c = record {
  first = λ p built.
      let q = c.args.program.now in let s = c.args.scoping.now in let ds = symbols_of p in
      subst (λ (a : NodePlace). option_map plain_found c.find_in.result ≡ first_at c.args.options.now ds (0 ∷ []) a q) c.of_program-place.ensures (c.find_in.ensures ds (0 ∷ []) (c.of_program-wanted.ensures ds (program_binds p q s built)) (program_binds p q s built) c.root_scope_id.ensures.zero (program_looks_up p q s built)) ∙ program_first c.args.options.now p q s built;
}
