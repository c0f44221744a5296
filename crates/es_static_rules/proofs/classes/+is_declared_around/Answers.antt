use Rattle.std.proofs.Common.{◌==◌, ◌&&◌}
use Rattle.es_tree.specs.Ancestors.{classes, is_class}
use Rattle.es_tree.specs.DeclaredNames.{is_declared}
use Rattle.es_tree.specs.Tree.{kind_of}
use Rattle.es_tree.specs.declared.place.Namespace.TheVariants.{PrivateNames}
use Rattle.es_static_rules.specs.Outward.{outward}
use Rattle.es_static_rules.proofs.PrivateNames.{any_in-more}
use Rattle.es_static_rules.proofs.classes.+is_declared_around.Goals as goal

pub returns-else-declares_private : goal.returns-else-declares_private
returns-else-declares_private t c = λ earlier knows.
    let parent = c.in-Some.parent.now in
    rw (c.in-Some.ensures.0, any_in-more (is_class (kind_of parent.node.now) && parent.index == 2) (λ n. is_declared earlier PrivateNames n c.args.text.now) parent.number (classes (outward c.in-Some.outer.now)), ← c.if-declares_private.ensures earlier knows)
    (c.is_declared_around.ensures earlier knows)

pub returns-then-declares_private : goal.returns-then-declares_private
returns-then-declares_private t c = λ earlier knows.
    let parent = c.in-Some.parent.now in
    rw (c.in-Some.ensures.0, any_in-more (is_class (kind_of parent.node.now) && parent.index == 2) (λ n. is_declared earlier PrivateNames n c.args.text.now) parent.number (classes (outward c.in-Some.outer.now)), ← c.if-declares_private.ensures earlier knows) c.if-declares_private.true
