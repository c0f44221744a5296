use Rattle.std.proofs.Common.{◌∙◌, ap, arith, sym}
use Rattle.es_tree.specs.Views.{plain_fields}
use Rattle.es_helper_calls.specs.HelperCalls.{calls_one}
use Rattle.lower_helper_imports.specs.Parts.{has_arguments}
use Rattle.lower_helper_imports.proofs.CalledNodes.{put-argument, put-callee, some-fields}
use Rattle.lower_helper_imports.proofs.calls.put_in_place.Goals as goal

pub index_mut-requires-then-has_arguments : goal.index_mut-requires-then-has_arguments
index_mut-requires-then-has_arguments c = omega (arith, some-fields c.deref-else-calls_one.result.now (sym c.has_arguments.ensures ∙ c.if-has_arguments.true), c.deref-else-calls_one.ensures.len)

pub returns-then-calls_one : goal.returns-then-calls_one
returns-then-calls_one c = put-callee c.args.fields.now.items c.args.name (ap (λ fs. calls_one (plain_fields fs)) (sym c.deref.ensures.value) ∙ sym c.calls_one.ensures ∙ c.if-calls_one.true)

pub returns-in_ok-from_array : goal.returns-in_ok-from_array
returns-in_ok-from_array c =
    put-argument c.args.fields.now.items c.in_ok-from_array.field-0 c.args.name c.in_ok-from_array.ensures.items (ap (λ fs. calls_one (plain_fields fs)) (sym c.deref.ensures.value) ∙ sym c.calls_one.ensures ∙ c.if-calls_one.false)
    (ap (λ fs. has_arguments (plain_fields fs)) (sym c.deref-else-calls_one.ensures.value) ∙ sym c.has_arguments.ensures ∙ c.if-has_arguments.true)
