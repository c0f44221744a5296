use Rattle.std.proofs.Common.{◌≡◌, ◌∙◌, ◌&&◌, ◌||◌, None, false, is_some, sym}
use Rattle.std.specs.Prelude.{if◌then◌else◌}
use Rattle.es_tree.specs.Walks.{first_node}
use Rattle.es_helper_calls.specs.Importing.{asks_helper, uses_helper, needs_helper}
use Rattle.lower_helper_imports.proofs.FirstFound.{no-node}
use Rattle.lower_helper_imports.proofs.finding.first_asking.Goals.{else-sought, then-is_external-via-else-is_external+then-not-sought, then-is_external-via-then-is_external, then-sought}
use Rattle.lower_helper_imports.proofs.finding.first_asking.Goals as goal

pub returns-then-is_external : goal.returns-then-is_external
returns-then-is_external c =
    let o = c.args.options.now in let p = c.args.program.now in let made = c.args.made in
    elim c.then-is_external.branch [
      | then-is_external-via-then-is_external w ↦ λ i. if sym (sym c.is_external.ensures ∙ w.if-is_external.true) i then None else first_node (asks_helper o made) p
      | then-is_external-via-else-is_external+then-not-sought w ↦
          elim w.if-sought.branch [
            | then-sought v ↦ absurd (cc (sym w.if-not-sought.true ∙ v.value-is ∙ v.if-sought.true))
            | else-sought v ↦
                let copies : is_some o.es2018.object_rest_spread ≡ false = sym c.is_some.ensures ∙ v.if-sought.false in
                let none : made ≡ false = sym v.value-is ∙ w.if-not-sought.true in
                (λ i. if sym (sym c.is_external.ensures ∙ w.if-is_external.false) i then None else sym (no-node (asks_helper o made) (λ k l fs. λ j. (copies j && needs_helper k l fs) || (none j && uses_helper k l fs)) p) i)
          ]
    ]
