use Rattle.std.proofs.Common.{◌∙◌, ap, refl}
use Rattle.std.specs.Prelude.{Some}
use Rattle.es_resolution.specs.Seen.{seen}
use Rattle.es_steps.specs.Nodes.{identifier}
use Rattle.lower_temporaries.specs.SeenTrees.{named}
use Rattle.lower_temporaries.specs.Takings.{writing}
use Rattle.lower_temporaries.proofs.Takings.{reads-none, takes-one, written-known, written-unsteady}
use Rattle.lower_temporaries.proofs.temporaries.new_temporary.Goals as goal

pub returns : goal.returns
returns c =
    let old = c.args.ctx.now in
    let mid = c.create_uid_var_based_on_node.new.ctx in
    let new = c.create_bound_ident_expr.new.self in
    let made = c.in_ok-name in
    let target = c.in_ok-target.ensures in
    record {
      taken = record {
        next = made.ensures.next;
        target = λ names. ap (seen names) target.node ∙ ap (λ x. identifier (named x (Some made.field-0.symbol_id.0))) c.as_str.ensures.value;
        takes = takes-one old mid new _ made.ensures.declared (record { written = new; refers = target.refers; read = 0; more = reads-none new; ids_are = refl });
        known = written-known old mid new _ _ made.ensures.declared target.refers;
        unsteady = written-unsteady mid new _ writing target.refers refl;
      };
    }
