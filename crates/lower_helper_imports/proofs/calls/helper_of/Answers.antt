use Rattle.std.proofs.Common.{◌∙◌, ap, arith, length, sym}
use Rattle.es_tree.specs.Heads.{head_of, label}
use Rattle.es_tree.specs.Tree.{node}
use Rattle.es_tree.specs.Views.{plain_fields}
use Rattle.es_helper_calls.specs.HelperCalls.{helper_of}
use Rattle.lower_helper_imports.proofs.CalledNodes.{few-parts, more-parts}
use Rattle.lower_helper_imports.proofs.calls.helper_of.Goals as goal

pub returns-in_default-3 : goal.returns-in_default-3
returns-in_default-3 c =
    let a = c.callee.inside in
    let count = ap length c.as_slice.ensures.value in
    few-parts (label a.id a.span (head_of a.kind)) a.fields.items (omega (arith, count, c.in_default.len_below)) ∙ ap (λ k. helper_of (node (head_of k).kind (label a.id a.span (head_of a.kind)) (plain_fields a.fields.items))) (sym c.in_default.is-0) ∙ ap helper_of c.callee.view_is

pub returns-in_default-6 : goal.returns-in_default-6
returns-in_default-6 c =
    let a = c.callee.inside in
    let count = ap length c.as_slice.ensures.value in
    more-parts (label a.id a.span (head_of a.kind)) a.fields.items (omega (arith, count, c.in_default.len_at_least)) ∙ ap (λ k. helper_of (node (head_of k).kind (label a.id a.span (head_of a.kind)) (plain_fields a.fields.items))) (sym c.in_default.is-0) ∙ ap helper_of c.callee.view_is
