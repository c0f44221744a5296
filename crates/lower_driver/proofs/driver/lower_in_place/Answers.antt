use Rattle.std.proofs.Common.{◌≡◌, ◌<◌, ◌^◌, None, is_some, sym, refl, ap, ◌∙◌, subst}
use Rattle.es_tree.specs.Bare.{bare}
use Rattle.es_tree.specs.Tree.{Tree}
use Rattle.es_tree.specs.declared.builder.AstBuilder.{AstBuilder}
use Rattle.es_tree.specs.declared.options.EnvOptions.{EnvOptions}
use Rattle.es_scope.specs.Contexts.{BindsNamesOf, made_of}
use Rattle.es_semantic.specs.SymbolsOf.{symbol_in, symbols_of}
use Rattle.es_semantic.proofs.MarkedProgram.{bare-marked-program}
use Rattle.es_statements.specs.ProgramArity.{IsProgram}
use Rattle.es_statements.specs.ProgramPlain.{plain_program}
use Rattle.es_starts.specs.Contexts.{IsNew}
use Rattle.es_starts.proofs.BoundNames.{law_binds_names_proof}
use Rattle.es_unsupported.specs.FirstUnsupported.{first_unsupported}
use Rattle.lower_temporaries.specs.Takings.{moment_of, pending_of}
use Rattle.lower_driver.specs.Lowers.{LowersInPlace}
use Rattle.lower_driver.specs.Visits.{AreTaken, IsWalked}
use Rattle.lower_driver.proofs.Becomes.{becomes, owed-room}
use Rattle.lower_driver.proofs.CopiedOptions.{copied-unsupported}
use Rattle.lower_driver.proofs.FewScopes.{few-scopes}
use Rattle.lower_driver.proofs.OpenedProgram.{program_opens}
use Rattle.lower_driver.proofs.Visits.{Arrived, alone-pending, arrives, first-room, marked-form, new-context, walk-room, walk_fits, walk_formed}
use Rattle.lower_driver.proofs.driver.lower_in_place.Goals as goal

pub new_context-requires-clause-kind : goal.new_context-requires-clause-kind
new_context-requires-clause-kind c =
    let q = c.build_scoping.new.program in
    let opens : IsProgram q = program_opens q (marked-form c.args.read.program q c.in_ok-scoping.ensures.marks c.requires.form) in
    opens.kind

pub new_context-requires-clause-names : goal.new_context-requires-clause-names
new_context-requires-clause-names c =
    let p = c.args.read.program in
    let s = c.in_ok-scoping.scoping in
    subst (λ (t : Tree). BindsNamesOf t s) (sym c.in_ok-scoping.ensures.marks) (law_binds_names_proof p s c.requires.form c.requires.kept c.in_ok-scoping.ensures.table)

pub find_unsupported-requires-clause-few : goal.find_unsupported-requires-clause-few
find_unsupported-requires-clause-few c = few-scopes c.args.read.program c.in_ok-scoping.scoping c.in_ok-scoping.ensures.table c.requires.size

pub open-program-requires : goal.open-program-requires
open-program-requires c =
    let q = c.build_scoping.new.program in
    program_opens q (marked-form c.args.read.program q c.in_ok-scoping.ensures.marks c.requires.form)

pub visit-requires-clause-room : goal.visit-requires-clause-room
visit-requires-clause-room c =
    let p = c.args.read.program in
    let e = c.in_ok-ctx.ensures in
    let new : IsNew p pending_of c.in_ok-ctx.ctx = new-context p c.build_scoping.new.program c.in_ok-scoping.scoping c.in_ok-ctx.ctx c.in_ok-scoping.ensures.marks c.in_ok-scoping.ensures.table e.place e.in_use e.none_made e.pending e.table in
    first-room p c.in_ok-ctx.ctx new c.open-program.result (ap bare (c.open-program.ensures ∙ c.in_ok-scoping.ensures.marks) ∙ bare-marked-program p) (subst (λ (a : AstBuilder). a.next < 2 ^ 20) (sym e.ast) c.requires.next) c.requires.size

-- THE WALK AFTER THE VISIT

pub walk-requires-clause-fits : goal.walk-requires-clause-fits
walk-requires-clause-fits c on =
    let o = c.args.options.now in
    let p = c.args.read.program in
    let ctx = c.in_ok-ctx.ctx in
    let e = c.in_ok-ctx.ensures in
    let v = c.in_ok-visit.ensures in
    let new : IsNew p pending_of ctx = new-context p c.build_scoping.new.program c.in_ok-scoping.scoping ctx c.in_ok-scoping.ensures.marks c.in_ok-scoping.ensures.table e.place e.in_use e.none_made e.pending e.table in
    let taken : first_unsupported ctx.options p ≡ None = copied-unsupported o ctx.options e.options p ∙ sym (c.in_default.ensures.first p (record { marks = c.in_ok-scoping.ensures.marks; table = c.in_ok-scoping.ensures.table })) in
    walk_fits ctx.options p ctx c.visit.new.ctx c.open-program.result c.visit.new.program new c.requires.form c.requires.kept taken (c.open-program.ensures ∙ c.in_ok-scoping.ensures.marks) (v.visited (symbol_in (symbols_of p))) v.finished (ap (λ (a : EnvOptions). is_some a.es2015.arrow_function) (sym v.kept.options) ∙ on)

pub walk-requires-clause-formed : goal.walk-requires-clause-formed
walk-requires-clause-formed c =
    let o = c.args.options.now in
    let p = c.args.read.program in
    let ctx = c.in_ok-ctx.ctx in
    let e = c.in_ok-ctx.ensures in
    let v = c.in_ok-visit.ensures in
    let new : IsNew p pending_of ctx = new-context p c.build_scoping.new.program c.in_ok-scoping.scoping ctx c.in_ok-scoping.ensures.marks c.in_ok-scoping.ensures.table e.place e.in_use e.none_made e.pending e.table in
    let taken : first_unsupported ctx.options p ≡ None = copied-unsupported o ctx.options e.options p ∙ sym (c.in_default.ensures.first p (record { marks = c.in_ok-scoping.ensures.marks; table = c.in_ok-scoping.ensures.table })) in
    walk_formed ctx.options p ctx c.visit.new.ctx c.open-program.result c.visit.new.program new c.requires.form c.requires.kept taken (c.open-program.ensures ∙ c.in_ok-scoping.ensures.marks) (v.visited (symbol_in (symbols_of p))) v.finished

pub walk-requires-clause-pending : goal.walk-requires-clause-pending
walk-requires-clause-pending c = alone-pending (moment_of c.in_ok-ctx.ctx).lists (moment_of c.visit.new.ctx).lists c.in_ok-visit.ensures.kept.level c.in_ok-ctx.ensures.pending c.in_ok-visit.ensures.finished

pub walk-requires-clause-room : goal.walk-requires-clause-room
walk-requires-clause-room c =
    let p = c.args.read.program in
    let ctx = c.in_ok-ctx.ctx in
    let e = c.in_ok-ctx.ensures in
    let new : IsNew p pending_of ctx = new-context p c.build_scoping.new.program c.in_ok-scoping.scoping ctx c.in_ok-scoping.ensures.marks c.in_ok-scoping.ensures.table e.place e.in_use e.none_made e.pending e.table in
    let first = first-room p ctx new c.open-program.result (ap bare (c.open-program.ensures ∙ c.in_ok-scoping.ensures.marks) ∙ bare-marked-program p) (subst (λ (a : AstBuilder). a.next < 2 ^ 20) (sym e.ast) c.requires.next) c.requires.size in
    walk-room (moment_of ctx) (moment_of c.visit.new.ctx) (plain_program c.open-program.result) (plain_program c.visit.new.program) c.in_ok-visit.ensures.kept first

-- THE WALK over object rests

pub take_rests-requires : goal.take_rests-requires
take_rests-requires c =
    let o = c.args.options.now in
    let p = c.args.read.program in
    let ctx = c.in_ok-ctx.ctx in
    let e = c.in_ok-ctx.ensures in
    let v = c.in_ok-visit.ensures in
    let new : IsNew p pending_of ctx = new-context p c.build_scoping.new.program c.in_ok-scoping.scoping ctx c.in_ok-scoping.ensures.marks c.in_ok-scoping.ensures.table e.place e.in_use e.none_made e.pending e.table in
    let taken : first_unsupported ctx.options p ≡ None = copied-unsupported o ctx.options e.options p ∙ sym (c.in_default.ensures.first p (record { marks = c.in_ok-scoping.ensures.marks; table = c.in_ok-scoping.ensures.table })) in
    let after = c.walk.new.ctx in
    let z = c.walk.new.program in
    let walked = subst (λ (a : EnvOptions). IsWalked (is_some a.es2015.arrow_function) c.visit.new.ctx c.visit.new.program after z) v.kept.options c.in_ok-walk.ensures.walked in
    let arrived : Arrived ctx.options p ctx.ast.next z after = arrives ctx.options p ctx c.visit.new.ctx c.open-program.result c.visit.new.program new c.requires.form c.requires.kept taken (c.open-program.ensures ∙ c.in_ok-scoping.ensures.marks) (v.visited (symbol_in (symbols_of p))) v.finished refl v.kept z after walked in
    record { room = owed-room p z after.ast.next ctx.ast.next arrived.size arrived.given (subst (λ (a : AstBuilder). a.next < 2 ^ 20) (sym e.ast) c.requires.next) c.requires.size }

pub returns-clause-lowers : goal.returns-clause-lowers
returns-clause-lowers c =
    let o = c.args.options.now in
    let p = c.args.read.program in
    let ctx = c.in_ok-ctx.ctx in
    let e = c.in_ok-ctx.ensures in
    let v = c.in_ok-visit.ensures in
    let new : IsNew p pending_of ctx = new-context p c.build_scoping.new.program c.in_ok-scoping.scoping ctx c.in_ok-scoping.ensures.marks c.in_ok-scoping.ensures.table e.place e.in_use e.none_made e.pending e.table in
    let taken : first_unsupported ctx.options p ≡ None = copied-unsupported o ctx.options e.options p ∙ sym (c.in_default.ensures.first p (record { marks = c.in_ok-scoping.ensures.marks; table = c.in_ok-scoping.ensures.table })) in
    let after = c.walk.new.ctx in
    let z = c.walk.new.program in
    let walked = subst (λ (a : EnvOptions). IsWalked (is_some a.es2015.arrow_function) c.visit.new.ctx c.visit.new.program after z) v.kept.options c.in_ok-walk.ensures.walked in
    let arrived : Arrived ctx.options p ctx.ast.next z after = arrives ctx.options p ctx c.visit.new.ctx c.open-program.result c.visit.new.program new c.requires.form c.requires.kept taken (c.open-program.ensures ∙ c.in_ok-scoping.ensures.marks) (v.visited (symbol_in (symbols_of p))) v.finished refl v.kept z after walked in
    let d = c.take_rests.new.ctx in
    let u = c.take_rests.new.program in
    let rests = subst (λ (a : EnvOptions). AreTaken (is_some a.es2018.object_rest_spread) after z d u) arrived.options c.in_ok-take_rests.ensures.taken in
    let made : LowersInPlace o p (plain_program u) (made_of d) = becomes o ctx.options e.options p c.requires.form c.requires.kept taken ctx.ast.next z u after d arrived rests in
    subst (λ (t : Tree). LowersInPlace o p t (made_of d)) (sym c.in_ok-program.ensures) made
