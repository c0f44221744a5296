use Rattle.std.proofs.Common.{◌∙◌, sym, is_some, codes}
use Rattle.es_tree.specs.Tree.{fields_of, kind_of, label_of}
use Rattle.es_semantic.specs.SymbolsOf.{find}
use Rattle.es_conditions.specs.CoreConditions.{is_copied}
use Rattle.es_rest_shapes.specs.HelperNames.{binds_helpers}
use Rattle.es_rest_shapes.specs.RestShapes.{is_rest_declaration}
use Rattle.es_unsupported.proofs.Programs.{helpers_never, helpers_same}
use Rattle.es_unsupported.proofs.Unbound.{asked_where}
use Rattle.es_unsupported.proofs.shapes.is_helper_bound.Goals as goal

pub returns-then-wanted : goal.returns-then-wanted
returns-then-wanted c = λ o ds up wanted at found.
    let k = kind_of c.args.node.now in let l = label_of c.args.node.now in let fs = fields_of c.args.node.now in
    c.meets_helpers.ensures ds up at found ∙ helpers_same c.args.wanted.helper_name (is_some o.es2018.object_rest_spread) (is_copied k l fs) (is_some (find ds up (codes "babelHelpers"))) (is_rest_declaration k l fs) (binds_helpers ds) wanted.helpers c.if-wanted.true

pub returns-else-wanted : goal.returns-else-wanted
returns-else-wanted c = λ o ds up wanted at found.
    let k = kind_of c.args.node.now in let l = label_of c.args.node.now in let fs = fields_of c.args.node.now in
    c.if-wanted.false ∙ sym (helpers_never c.args.wanted.helper_name (is_some o.es2018.object_rest_spread) (is_copied k l fs) (is_some (find ds up (codes "babelHelpers"))) (is_rest_declaration k l fs) (binds_helpers ds) (asked_where (codes "babelHelpers") ds up c.args.wanted.helper_name (is_some o.es2018.object_rest_spread) wanted.helpers) wanted.helpers c.if-wanted.false)
