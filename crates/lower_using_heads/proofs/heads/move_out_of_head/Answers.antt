use Rattle.std.proofs.Common.{◌∙◌, ◌∷◌, [], ap, arith, rules, tests}
use Rattle.es_tree.specs.Arity.{required}
use Rattle.es_tree.specs.ArityFacts.{fits_length}
use Rattle.es_tree.specs.Heads.{head_of, label}
use Rattle.es_tree.specs.Tree.{done, many, node, trees, ◌then◌}
use Rattle.es_tree.specs.Views.{plain_fields}
use Rattle.es_tree.specs.declared.ast_type.AstType.TheVariants.{VariableDeclaration}
use Rattle.es_tree.specs.declared.kind.Kind.TheVariants.{VariableDeclaration as k-VariableDeclaration}
use Rattle.es_using_rows.specs.Used.{const_label}
use Rattle.lower_using_heads.proofs.HeadShapes.{loop-fits, three-fields}
use Rattle.lower_using_heads.proofs.MovedHeads.{declares-name, head-moved}
use Rattle.lower_using_heads.proofs.heads.move_out_of_head.Goals as goal

pub exactly-requires : goal.exactly-requires
exactly-requires c = (omega arith, fits_length (required ∷ required ∷ required ∷ []) c.args.fields.items (loop-fits (plain_fields c.args.fields.items) c.requires))

pub move_out_of_declarator-requires : goal.move_out_of_declarator-requires
move_out_of_declarator-requires c = declares-name c.requires c.exactly.ensures (search (rules, tests)) c.into_node.ensures c.pop.new.self.items c.open-using.ensures c.in-Some.ensures.items

pub returns : goal.returns
returns c =
    let x = c.open-using.result in
    let count = fits_length (required ∷ required ∷ required ∷ []) c.args.fields.items (loop-fits (plain_fields c.args.fields.items) c.requires) in
    let made = ap (λ ts. node VariableDeclaration (const_label (label x.id x.span (head_of (k-VariableDeclaration x.kind)))) (many (trees ts) then done)) c.in_ok-from_array.ensures.items in
    head-moved c.requires c.exactly.ensures (search (rules, tests)) c.into_node.ensures c.pop.new.self.items c.open-using.ensures c.in-Some.ensures.items
    (three-fields c.exactly.ensures count (search (rules, tests)) (search (rules, tests)) (search (rules, tests))) c.into_node-2.ensures c.in_ok-named.ensures (c.in_ok-declaration.ensures ∙ made) c.in_ok-moved.ensures.items
