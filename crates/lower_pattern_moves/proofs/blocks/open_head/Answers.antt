use Rattle.std.proofs.Common.{refl}
use Rattle.es_tree.specs.Arity.{maybe}
use Rattle.es_tree.specs.Heads.{head_of, label}
use Rattle.es_tree.specs.Words.{variable_declaration_kind_text}
use Rattle.es_tree.specs.declared.kind.Kind.TheVariants.{VariableDeclaration as k-VariableDeclaration, VariableDeclarator as k-VariableDeclarator}
use Rattle.lower_pattern_moves.proofs.Shapes.{alone-opens, declares-by}
use Rattle.lower_pattern_moves.proofs.blocks.open_head.Goals as goal

pub open-binding-requires : goal.open-binding-requires
open-binding-requires c =
    let x = c.open-kind.result in
    alone-opens c.args.head (label x.id x.span (head_of (k-VariableDeclaration x.kind))) x.declarations.items c.pop.new.self.items c.in-Some.declarator c.requires c.open-kind.ensures c.in-Some.ensures.items

pub returns : goal.returns
returns c =
    let x = c.open-kind.result in
    let y = c.open-binding.result in
    declares-by c.args.head (label x.id x.span (head_of (k-VariableDeclaration x.kind))) (label y.id y.span (head_of k-VariableDeclarator)) x.declarations.items c.pop.new.self.items c.in-Some.declarator y.binding (maybe y.init) (variable_declaration_kind_text x.kind) c.requires c.open-kind.ensures c.in-Some.ensures.items
    c.open-binding.ensures refl
