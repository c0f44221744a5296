use Rattle.std.proofs.Common.{◌∙◌, sym, is_some, codes}
use Rattle.es_tree.specs.Constructs.{is_exponentiation}
use Rattle.es_tree.specs.Tree.{fields_of, kind_of, label_of}
use Rattle.es_semantic.specs.SymbolsOf.{find}
use Rattle.es_rest_shapes.specs.HelperNames.{binds_name}
use Rattle.es_unsupported.proofs.Programs.{bound_never, bound_same}
use Rattle.es_unsupported.proofs.Unbound.{asked_where}
use Rattle.es_unsupported.proofs.shapes.is_math_bound.Goals as goal

pub returns-then-wanted : goal.returns-then-wanted
returns-then-wanted c = λ o ds up wanted at found.
    let k = kind_of c.args.node.now in let l = label_of c.args.node.now in let fs = fields_of c.args.node.now in
    c.finds_math.ensures ds up at found ∙ bound_same c.args.wanted.math_bound o.es2016.exponentiation_operator (binds_name (codes "Math") ds) (is_exponentiation k l fs) (is_some (find ds up (codes "Math"))) wanted.math c.if-wanted.true

pub returns-else-wanted : goal.returns-else-wanted
returns-else-wanted c = λ o ds up wanted at found.
    let k = kind_of c.args.node.now in let l = label_of c.args.node.now in let fs = fields_of c.args.node.now in
    c.if-wanted.false ∙ sym (bound_never c.args.wanted.math_bound o.es2016.exponentiation_operator (is_exponentiation k l fs) (is_some (find ds up (codes "Math"))) (asked_where (codes "Math") ds up c.args.wanted.math_bound o.es2016.exponentiation_operator wanted.math) c.if-wanted.false)
