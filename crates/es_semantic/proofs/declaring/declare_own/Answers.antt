use Rattle.std.proofs.Common.{◌≡◌, ◌⊎◌, inl, inr, refl, sym, ap, ◌∙◌}
use Rattle.es_tree.specs.Heads.{scope}
use Rattle.es_tree.specs.Tree.{fields_of, kind_of, label_of}
use Rattle.es_tree.specs.declared.ast_type.AstType.TheVariants.{ClassDeclaration, ClassExpression}
use Rattle.es_semantic.specs.SymbolsOf.{with_class, with_node}
use Rattle.es_semantic.proofs.AddedVisits.{Holds-same, class_node}
use Rattle.es_semantic.proofs.declaring.declare_own.Goals as goal

pub declare_class-requires : goal.declare_class-requires
declare_class-requires c = record { known = c.requires.own_known.own_known c.in-Some.scope.0 (ap scope c.in-Some.is) }

pub returns-in_ok-declare_class-in-ClassDeclaration-clause-declared :
    goal.returns-in_ok-declare_class-in-ClassDeclaration-clause-declared
returns-in_ok-declare_class-in-ClassDeclaration-clause-declared c = λ p n rows ds stands own holds.
    let t = c.args.node.now in let s = c.in-Some.scope.0 in
    let class : (kind_of t ≡ ClassDeclaration) ⊎ (kind_of t ≡ ClassExpression) =
    rw (← c.node.view_is) (elim c.in-ClassDeclaration.is [ inl w ↦ inl (rw w.1 refl) | inr w ↦ inr (rw w.1 refl) ]) in
    Holds-same rows (with_class ds s (fields_of t)) (with_node ds p n (kind_of t) (label_of t) (fields_of t)) c.declare_class.new.scoping
    (class_node ds p n s (kind_of t) (label_of t) (fields_of t) class (sym (ap scope c.in-Some.is) ∙ own.own_is))
    (c.in_ok-declare_class-in-ClassDeclaration.ensures.declared rows ds holds)
