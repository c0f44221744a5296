use Rattle.std.proofs.Common.{◌∙◌, ap, map, string_bytes}
use Rattle.es_steps.specs.CoreBridge.{first_whole}
use Rattle.es_pattern_moves.specs.Moved.{name_of}
use Rattle.es_scope.specs.Uids.{uses}
use Rattle.es_using_modules.specs.ModuleTops.{context_name}
use Rattle.lower_using_modules.proofs.ModuleNames.{tops-to}
use Rattle.lower_using_modules.proofs.lower_module.Goals as goal

pub returns : goal.returns
returns c =
    let named = c.has_default-named.result in
    tops-to (first_whole c.args.program).in_use (uses c.in_ok-uids.uids) c.args.program c.in_ok-lowered.lowered (map string_bytes c.in_ok-names.names.items) named c.name_at-default.result.now c.context_name-context.result.now c.has_default-named.ensures c.in_ok-uids.ensures.in_use c.in_ok-names.ensures
    (c.name_at-default.ensures ∙ ap (λ xs. name_of (map string_bytes xs) 0) c.as_slice.ensures.value) (c.context_name-context.ensures ∙ ap (λ xs. context_name named (map string_bytes xs)) c.as_slice-2.ensures.value) c.in_ok-lowered.ensures
