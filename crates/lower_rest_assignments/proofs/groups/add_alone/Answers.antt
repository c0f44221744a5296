use Rattle.std.proofs.Common.{List, ap, refl, sym, ◌++◌, ◌∙◌, ◌∷◌, []}
use Rattle.es_tree.specs.HasForm.{same_type}
use Rattle.es_tree.specs.Heads.{head_of, label}
use Rattle.es_tree.specs.Tree.{Tree, kind_of}
use Rattle.es_tree.specs.declared.ast_type.AstType.TheVariants.{MemberExpression}
use Rattle.es_tree.specs.declared.kind.Kind.TheVariants.{ObjectTarget as k-ObjectTarget}
use Rattle.es_steps.specs.RestAssignments.{object_target}
use Rattle.lower_temporaries.specs.Declarators.{bound_as}
use Rattle.lower_temporaries.proofs.Takings.{reads-ids, reads-then}
use Rattle.lower_rest_assignments.proofs.Patterns.{alone-member, alone-name}
use Rattle.lower_rest_assignments.proofs.groups.add_alone.Goals as goal

pub returns-then-is_evaluated : goal.returns-then-is_evaluated
returns-then-is_evaluated c =
    let mid = c.assign_whole.new.ctx in
    let m = label (record { 0 = mid.ast.next }) (record { start = 0; end = 0 }) (head_of k-ObjectTarget) in
    let member = ap (λ t. same_type (kind_of t) MemberExpression) (sym c.strip_parens.ensures) ∙ (sym c.is_member-is_evaluated.ensures ∙ c.if-is_evaluated.true) in
    alone-member (bound_as c.args.source.now) c.args.ctx.now c.assign_source.new.ctx c.args.target c.in_ok-rest.rest c.args.assignments.items _ c.in_ok-rest.ensures.made mid m c.in_ok-empty.empty c.in_ok-asked.asked refl member (c.in_ok-empty.ensures.made ∙ ap (object_target m) c.new-properties.ensures.items) c.in_ok-asked.ensures.made
    c.in_ok-rest.ensures.reads (reads-then {m = 1} {n = 2} (reads-ids 1 mid _ c.new_object_target.ensures.counted refl (record { used = λ x. refl; made_is = refl }) (record { state = refl; options = refl; around = refl; scopes = refl; place = refl })) c.in_ok-asked.ensures.reads)
    (c.in_ok-push-2.ensures.items ∙ ap (λ (ts : List Tree). ts ++ c.in_ok-rest.rest ∷ []) c.in_ok-push.ensures.items)

pub returns : goal.returns
returns c =
    let member = ap (λ t. same_type (kind_of t) MemberExpression) (sym c.strip_parens.ensures) ∙ (sym c.is_member-is_evaluated.ensures ∙ c.if-is_evaluated.false) in
    alone-name (bound_as c.args.source.now) c.args.ctx.now c.assign_whole.new.ctx c.args.target c.in_ok-rest.rest c.args.assignments.items _ c.in_ok-rest.ensures.made member c.in_ok-rest.ensures.reads c.in_ok-push-3.ensures.items
