use Rattle.es_tree.specs.Arity.{maybe}
use Rattle.es_tree.specs.Heads.{head_of, label}
use Rattle.es_tree.specs.declared.kind.Kind.TheVariants.{VariableDeclarator as k-VariableDeclarator}
use Rattle.lower_using_heads.proofs.MovedHeads.{declarator-moved}
use Rattle.lower_using_heads.proofs.heads.move_out_of_declarator.Goals as goal

pub returns : goal.returns
returns c =
    let x = c.open-binding.result in
    declarator-moved c.args.uids.now c.move_into_block.new.uids (label x.id x.span (head_of k-VariableDeclarator)) x.binding c.args.declarator c.args.body c.in_ok-name.name c.in_ok-name.block c.in_ok-made.made (maybe x.init) c.requires c.open-binding.ensures c.in_ok-made.ensures c.in_ok-name.ensures
