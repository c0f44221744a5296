use Rattle.std.proofs.Common.{◌≡◌, ◌+◌, ◌∙◌, refl, sym, ap, subst, false, Some}
use Rattle.es_resolution.specs.Seen.{seen}
use Rattle.es_runs.specs.Rules.{assign_node}
use Rattle.es_steps.specs.Duplication.{IsNext, is_read_again}
use Rattle.es_steps.specs.Nodes.{identifier}
use Rattle.es_changes.specs.Moments.{whole_at}
use Rattle.lower_temporaries.specs.Declarators.{bound_as}
use Rattle.lower_temporaries.specs.Duplicates.{read_again_in}
use Rattle.lower_temporaries.specs.SeenTrees.{named}
use Rattle.lower_temporaries.specs.Takings.{WritesOnce, moment_of}
use Rattle.lower_temporaries.proofs.Duplicated.{first-by-copy, first-by-temporary}
use Rattle.lower_temporaries.proofs.SeenLaws.{duplicate_base-seen}
use Rattle.lower_temporaries.proofs.Takings.{reads-ids}
use Rattle.lower_temporaries.proofs.duplicate.first_use.Goals as goal

pub returns-then-is_read_again : goal.returns-then-is_read_again
returns-then-is_read_again c =
    record { begun = λ names. first-by-copy c.args.mutated_symbol_needs_temp_var c.args.ctx.now (seen names c.args.expression) (sym (c.is_read_again.ensures names) ∙ c.if-is_read_again.true) }

pub returns : goal.returns
returns c =
    let old = c.args.ctx.now in
    let mid = c.create_temporary.new.ctx in
    let then = c.create_bound_ident_expr.new.self in
    let e = c.args.expression in
    let b = c.in_ok-temporary.temporary in
    let temporary = c.in_ok-temporary.ensures in
    let target = c.in_ok-target.ensures in
    let more : c.new_assignment_expression.new.ast.next ≡ then.ast.next + 1 = c.new_assignment_expression.ensures.counted in
    let reads = reads-ids 1 then _ more refl (record { used = λ x. refl; made_is = refl }) (record { state = refl; options = refl; around = refl; scopes = refl; place = refl }) in
    let writes : WritesOnce b.symbol_id.0 2 mid _ = record { written = then; refers = target.refers; read = 1; more = reads; ids_are = refl } in
    record {
      begun = λ names.
          let no : is_read_again (read_again_in c.args.mutated_symbol_needs_temp_var old) (seen names e) ≡ false = sym (c.is_read_again.ensures names) ∙ c.if-is_read_again.false in
          let next = subst (λ base. IsNext (whole_at (moment_of old)) base (bound_as b)) (sym (duplicate_base-seen names e)) temporary.next in
          let name : seen names c.in_ok-target.target ≡ identifier (bound_as b) = ap (seen names) target.node ∙ ap (λ x. identifier (named x (Some b.symbol_id.0))) c.as_str-name.ensures.value in
          let wrote : seen names c.in_ok-first.first ≡ assign_node (identifier (bound_as b)) (seen names e) = ap (seen names) c.in_ok-first.ensures.made ∙ ap (λ t. assign_node t (seen names e)) name in
          first-by-temporary c.args.mutated_symbol_needs_temp_var old mid _ (seen names e) (seen names c.in_ok-first.first) b no next temporary.declared writes wrote;
    }
