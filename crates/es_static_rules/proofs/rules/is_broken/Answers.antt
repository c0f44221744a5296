use Rattle.std.proofs.Common.{◌≡◌, map, refl}
use Rattle.es_tree.specs.StaticRules.{has_clash, is_binding_space, is_class_space, is_export_space}
use Rattle.es_static_rules.specs.Bindings.{plain_name}
use Rattle.es_static_rules.proofs.rules.is_broken.Goals as goal

pub returns-in-DuplicateName : goal.returns-in-DuplicateName
returns-in-DuplicateName c = λ all earlier knows_all knows.
    let clash : c.has_clash.result ≡ has_clash is_binding_space earlier (map plain_name c.args.visit.declared.now) = rw c.in-DuplicateName.is at (c.has_clash.ensures earlier knows) in
    rw (c.in-DuplicateName.is, ← c.requires.declared) clash

pub returns-then-has_clash : goal.returns-then-has_clash
returns-then-has_clash c = λ all earlier knows_all knows.
    let clash : c.has_clash-in-BadExport.result ≡ has_clash is_export_space earlier (map plain_name c.args.visit.declared.now) = rw c.in-BadExport.is at (c.has_clash-in-BadExport.ensures earlier knows) in
    rw (c.in-BadExport.is, ← c.requires.declared, ← clash, c.if-has_clash.true) refl

pub returns-else-has_clash : goal.returns-else-has_clash
returns-else-has_clash c = λ all earlier knows_all knows.
    let clash : c.has_clash-in-BadExport.result ≡ has_clash is_export_space earlier (map plain_name c.args.visit.declared.now) = rw c.in-BadExport.is at (c.has_clash-in-BadExport.ensures earlier knows) in
    rw (c.in-BadExport.is, ← c.requires.declared, ← clash, c.if-has_clash.false) (c.is_bad_export.ensures all knows_all)

pub returns-then-has_clash-2 : goal.returns-then-has_clash-2
returns-then-has_clash-2 c = λ all earlier knows_all knows.
    let clash : c.has_clash-in-BadClass.result ≡ has_clash is_class_space earlier (map plain_name c.args.visit.declared.now) = rw c.in-BadClass.is at (c.has_clash-in-BadClass.ensures earlier knows) in
    rw (c.in-BadClass.is, ← c.requires.declared, ← clash, c.if-has_clash-2.true) refl

pub returns-else-has_clash-2 : goal.returns-else-has_clash-2
returns-else-has_clash-2 c = λ all earlier knows_all knows.
    let clash : c.has_clash-in-BadClass.result ≡ has_clash is_class_space earlier (map plain_name c.args.visit.declared.now) = rw c.in-BadClass.is at (c.has_clash-in-BadClass.ensures earlier knows) in
    rw (c.in-BadClass.is, ← c.requires.declared, ← clash, c.if-has_clash-2.false) (c.is_bad_class.ensures all knows_all)
