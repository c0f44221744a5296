use Rattle.std.proofs.Common.{◌∙◌, ap, cond, string_bytes, sym}
use Rattle.lower_stores.specs.Imports.{in_front, with_import}
use Rattle.lower_stores.specs.PlainImports.{plain_import}
use Rattle.lower_stores.proofs.ImportLemmas.{front_sources, place_within}
use Rattle.lower_stores.proofs.module_imports.ModuleImportsStore.add_import.Goals as goal

pub returns-then-front-clause-added : goal.returns-then-front-clause-added
returns-then-front-clause-added c =
    let source = string_bytes c.args.source in
    let item = plain_import c.args.import in
    let m = c.args.self.now in
    front_sources source c.push_import.new.imports.entries c.move_index.new.self.entries c.in_ok-index.index c.in_ok-index.ensures.place c.move_index.ensures.entries c.move_index.ensures.unique
    ∙ ap (in_front source) (c.in_ok-index.ensures.pushed ∙ ap (with_import source item) c.self.view_is)
    ∙ sym (ap (λ b. cond b (in_front source (with_import source item m)) (with_import source item m)) c.if-front.true)

pub move_index-requires-clause-from_in_bounds : goal.move_index-requires-clause-from_in_bounds
move_index-requires-clause-from_in_bounds c =
    place_within (string_bytes c.args.source) c.push_import.new.imports.entries c.in_ok-index.index c.in_ok-index.ensures.place
