use Rattle.std.proofs.Common.{◌∙◌}
use Rattle.es_tree.specs.Heads.{head_of, label}
use Rattle.es_tree.specs.Tree.{trees}
use Rattle.es_tree.specs.declared.kind.Kind.TheVariants.{FunctionBody as k-FunctionBody}
use Rattle.lower_pattern_moves.proofs.MovedParameters.{first-put}
use Rattle.lower_pattern_moves.proofs.parameters.put_first.Goals as goal

pub returns : goal.returns
returns c =
    let x = c.open-scope.result in
    c.in_ok-made.ensures ∙ first-put (label x.id x.span (head_of (k-FunctionBody x.scope))) (trees x.directives.items) c.args.declared.items x.body.items c.append.new.self.items c.args.body c.open-scope.ensures c.in_ok-append.ensures.items
