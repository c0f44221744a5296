use Rattle.std.proofs.Common.{List, ap, arith, subst, sym, ◌++◌, ◌∙◌}
use Rattle.es_tree.specs.Heads.{head_of, label}
use Rattle.es_tree.specs.Tree.{Tree}
use Rattle.es_tree.specs.declared.kind.Kind.TheVariants.{VariableDeclaration as k-VariableDeclaration}
use Rattle.lower_nodes.specs.Nodes.{owed}
use Rattle.lower_object_rest.specs.Declarators.{LowersAll}
use Rattle.lower_object_rest.specs.Profile.{rest_owes}
use Rattle.lower_object_rest.proofs.declarations.lower_declaration.Goals as goal

pub add_declarators-requires : goal.add_declarators-requires
add_declarators-requires c = let whole = ap (owed rest_owes) c.open-kind.ensures in record { room = omega (arith, whole, c.requires.room) }

pub returns : goal.returns
returns c =
    let x = c.open-kind.result in
    let adds = c.in_ok-add_declarators.ensures in
    let all = adds.are ∙ ap (λ (ts : List Tree). ts ++ adds.added) c.new-made.ensures.items in
    record {
      label = label x.id x.span (head_of (k-VariableDeclaration x.kind));
      first = x.declarations.items;
      last = c.add_declarators.new.made.items;
      was = sym c.open-kind.ensures;
      becomes = c.in_ok-declaration.ensures;
      lowers = subst (λ (ts : List Tree). LowersAll c.args.ctx.now c.add_declarators.new.ctx x.declarations.items ts) (sym all) adds.lowers;
    }
