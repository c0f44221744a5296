use Rattle.std.proofs.Common.{append-nil, sym}
use Rattle.es_tree.specs.DeclaredNames.{exports_of, function_names, lexical_names}
use Rattle.es_static_rules.specs.Outward.{outward, plain_ancestor}
use Rattle.es_static_rules.specs.declared.names.Binding.TheVariants.{Pattern, Function, Class, Nothing}
use Rattle.es_static_rules.proofs.Bindings.{OnOk-both, bound_by}
use Rattle.es_static_rules.proofs.names.+bound_names.Goals as goal

pub returns-in-Pattern : goal.returns-in-Pattern
returns-in-Pattern t c =
    rw (bound_by (outward c.args.ancestors.now) (outward c.in-Some.outer.now) (plain_ancestor c.in-Some.parent.now) c.kind.result c.args.text.now Pattern c.in-Some.ensures.0 c.kind.ensures c.in-Pattern.ensures) c.bound_names.ensures

pub returns-in_ok-function_names-in-Function : goal.returns-in_ok-function_names-in-Function
returns-in_ok-function_names-in-Function t c =
    let up = outward c.in-Some.outer.now in
    rw (bound_by (outward c.args.ancestors.now) up (plain_ancestor c.in-Some.parent.now) c.kind.result c.args.text.now Function c.in-Some.ensures.0 c.kind.ensures c.in-Function.ensures)
    (OnOk-both c.exports_of.result c.args.names.now.items c.function_names.new.names.items c.exports_of.new.names.items (function_names up c.args.text.now) (exports_of up c.args.text.now) c.in_ok-function_names-in-Function.ensures c.exports_of.ensures)

pub returns-in_ok-lexical_names-in-Class : goal.returns-in_ok-lexical_names-in-Class
returns-in_ok-lexical_names-in-Class t c =
    let up = outward c.in-Some.outer.now in
    rw (bound_by (outward c.args.ancestors.now) up (plain_ancestor c.in-Some.parent.now) c.kind.result c.args.text.now Class c.in-Some.ensures.0 c.kind.ensures c.in-Class.ensures)
    (OnOk-both c.exports_of-in-Class.result c.args.names.now.items c.lexical_names.new.names.items c.exports_of-in-Class.new.names.items (lexical_names up c.args.text.now) (exports_of up c.args.text.now) c.in_ok-lexical_names-in-Class.ensures c.exports_of-in-Class.ensures)

pub returns-in-Nothing : goal.returns-in-Nothing
returns-in-Nothing t c =
    rw (bound_by (outward c.args.ancestors.now) (outward c.in-Some.outer.now) (plain_ancestor c.in-Some.parent.now) c.kind.result c.args.text.now Nothing c.in-Some.ensures.0 c.kind.ensures c.in-Nothing.ensures) (sym (append-nil _))
