use Rattle.es_tree.specs.Heads.{head_of, label}
use Rattle.es_tree.specs.Tree.{trees}
use Rattle.es_tree.specs.declared.kind.Kind.TheVariants.{VariableDeclaration as k-VariableDeclaration}
use Rattle.lower_using.proofs.Shapes.{declaration-made, declaration-opens}
use Rattle.lower_using.proofs.constants.make_declaration.Goals as goal

pub open-using-requires : goal.open-using-requires
open-using-requires c = declaration-opens c.args.declaration c.requires

pub returns : goal.returns
returns c =
    let x = c.open-using.result in
    declaration-made c.args.context.now c.args.declaration (label x.id x.span (head_of (k-VariableDeclaration x.kind))) (trees x.declarations.items) (trees c.in_ok-used.used.items) c.in_ok-made.made c.open-using.ensures c.in_ok-made.ensures c.in_ok-used.ensures
