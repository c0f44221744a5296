-- At a node that is sound, and whose names are in use, a row of a walk is a step of the rule: form and the static rules say what the test doesn't.
use Rattle.std.specs.Prelude.{false}
use Rattle.es_tree.specs.Tree.{Tree}
use Rattle.es_tree.specs.declared.ast_type.AstType.TheVariants.{ForOfStatement}
use Rattle.es_semantic.specs.RolesOf.{reads}
use Rattle.es_semantic.specs.declared.place.Binding.TheVariants.{Constant}
use Rattle.es_semantic.specs.declared.place.Role.TheVariants.{Binds}
use Rattle.es_resolution.specs.Declarations.{declared}
use Rattle.es_resolution.specs.Named.{Named}
use Rattle.es_resolution.proofs.AllForms.{All}
use Rattle.es_changes.proofs.Expressions.{law_expression_proof}
use Rattle.es_steps.specs.LoopHeads.IsForEach.{for_of}
use Rattle.es_steps.specs.Steps.{Ledger, Site}
use Rattle.es_steps.specs.Steps.Spot.{at_node}
use Rattle.es_steps.specs.UsingLoops.{HeadUsing}
use Rattle.es_steps.specs.UsingLoops.HeadUsing.{of_head}
use Rattle.es_steps.proofs.Taken.{whole_in}
use Rattle.es_rest_rows.specs.RestRows.{binds_name}
use Rattle.es_pattern_moves.proofs.MoveNodes.{head-form, head-known, pattern-apart}
use Rattle.es_pattern_moves.proofs.NamesApart.{named-apart}
use Rattle.es_pattern_moves.proofs.Settled.{Sound}
use Rattle.es_using_heads.specs.HeadRows.{HeadWalkRow}
use Rattle.es_using_heads.specs.HeadRows.HeadWalkRow.{from_head}
use Rattle.es_using_heads.proofs.HeadShapes.{head-tests}

pub row-uses : (n : Site) (s s' : Ledger) (t u : Tree) → HeadWalkRow n s (at_node t) s' (at_node u) → Named (whole_in s).in_use (whole_in s).free_symbol n.role t → All Sound t → HeadUsing n s (at_node t) s' (at_node u)
row-uses n s s' t u (from_head {w = w} m l k x e b c moves fresh) named sound =
    let tests = head-tests l k x e b moves in
    let form = head-form sound.0.sort ForOfStatement m l k x e b for_of sound.0.form in
    let known = head-known n w ForOfStatement m l k x e b for_of form.body named sound in
    let apart = named-apart (λ z. binds_name z x) (declared false (Binds Constant) x) (pattern-apart Constant x form.pattern) w.in_use w.free_symbol reads e tests.apart known.named in
    of_head tests.word fresh apart (law_expression_proof e form.value).declares_nothing known.silent
