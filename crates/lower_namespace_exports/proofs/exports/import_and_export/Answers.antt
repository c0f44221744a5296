use Rattle.std.proofs.Common.{◌≡◌, ◌+◌, ◌∙◌, refl, sym, ap, arith}
use Rattle.es_tree.specs.Tree.{trees, tree_size}
use Rattle.es_patterns.specs.ModulesPlain.{plain_export_all_declaration}
use Rattle.lower_temporaries.proofs.Takings.{reads-ids}
use Rattle.lower_namespace_exports.specs.Exports.{place_of}
use Rattle.lower_namespace_exports.proofs.Split.{split-made}
use Rattle.lower_namespace_exports.proofs.Weighed.{name-size}
use Rattle.lower_namespace_exports.proofs.exports.import_and_export.Goals as goal

pub read_once_more-requires : goal.read_once_more-requires
read_once_more-requires c =
    let taken = c.in_ok-local.ensures in
    let small : tree_size c.in_ok-local.local ≡ 1 = name-size c.in_ok-local.local taken.name taken.stands in
    record { room = omega (arith, small, taken.takes.next_is, c.requires.room) }

pub namespace_import-requires : goal.namespace_import-requires
namespace_import-requires c =
    let taken = c.in_ok-local.ensures in
    let small : tree_size c.in_ok-local.local ≡ 1 = name-size c.in_ok-local.local taken.name taken.stands in
    record { room = omega (arith, small, taken.takes.next_is, ap (λ m. m.next) c.in_ok-read.ensures.reads.moment_is, c.requires.room) }

pub export_as-requires : goal.export_as-requires
export_as-requires c =
    let taken = c.in_ok-local.ensures in
    let small : tree_size c.in_ok-local.local ≡ 1 = name-size c.in_ok-local.local taken.name taken.stands in
    record { room = omega (arith, small, taken.takes.next_is, ap (λ m. m.next) c.in_ok-read.ensures.reads.moment_is, c.in_ok-import.ensures.counted, c.requires.room) }

pub returns : goal.returns
returns c =
    let parts = c.open-exported.result in
    let copied = c.read_once_more.new.ctx in
    let new = record copied { ast = c.export_as.new.ast } in
    let counted : c.export_as.new.ast.next ≡ copied.ast.next + 3 = omega (arith, c.in_ok-import.ensures.counted, c.in_ok-export.ensures.counted) in
    record {
      split =
          split-made c.args.ctx.now c.new_import_name.new.ctx copied new c.args.statement (place_of parts.id parts.span) c.in-Some.exported parts.source (trees parts.attributes.items) c.in_ok-local.local c.in_ok-read.read c.in_ok-import.import c.in_ok-export.export _ _
          (sym c.open-exported.ensures ∙ ap (λ o. plain_export_all_declaration (record parts { exported = o })) c.in-Some.is) c.in_ok-local.ensures c.in_ok-read.ensures.copy c.in_ok-read.ensures.reads
          (reads-ids 3 copied new counted refl (record { used = λ x. refl; made_is = refl }) (record { state = refl; options = refl; around = refl; scopes = refl; place = refl })) c.in_ok-import.ensures.made c.in_ok-export.ensures.made;
    }
