-- The roles in a node depend on its fields by which of them are one node alone.
use Rattle.std.proofs.Common.{◌≡◌, ℕ, zero, suc, refl, sym, ◌∙◌}
use Rattle.std.specs.Prelude.{is_some}
use Rattle.es_tree.specs.Names.{third_stands}
use Rattle.es_tree.specs.Children.{child_at}
use Rattle.es_tree.specs.Tree.{Label, Fields, done, ◌then◌, missing, one, many, statements}
use Rattle.es_tree.specs.declared.ast_type.AstType.{AstType}
use Rattle.es_tree.specs.declared.ast_type.AstType.TheVariants.{ExportNamedDeclaration, ClassDeclaration, ClassExpression}
use Rattle.es_semantic.specs.RolesOf.{role_at, extends}
use Rattle.es_semantic.specs.declared.place.Role.{Role}

third-child : (fs : Fields) → third_stands fs ≡ is_some (child_at 2 fs)
third-child done = refl
third-child (a then done) = refl
third-child (a then (b then done)) = refl
third-child (a then (b then (missing then fs))) = refl
third-child (a then (b then (one t then fs))) = refl
third-child (a then (b then (many ts then fs))) = refl
third-child (a then (b then (statements ts then fs))) = refl

role-by : (r : Role) (k : AstType) (l : Label) (fs gs : Fields) → third_stands gs ≡ third_stands fs → extends gs ≡ extends fs → (i : ℕ) → role_at r k l gs i ≡ role_at r k l fs i
role-by r ExportNamedDeclaration l fs gs e d zero = refl
role-by r ExportNamedDeclaration l fs gs e d (suc zero) = rw e
role-by r ExportNamedDeclaration l fs gs e d (suc (suc i)) = refl
role-by r ClassDeclaration l fs gs e d zero = refl
role-by r ClassDeclaration l fs gs e d (suc zero) = refl
role-by r ClassDeclaration l fs gs e d (suc (suc zero)) = rw d
role-by r ClassDeclaration l fs gs e d (suc (suc (suc i))) = refl
role-by r ClassExpression l fs gs e d zero = refl
role-by r ClassExpression l fs gs e d (suc zero) = refl
role-by r ClassExpression l fs gs e d (suc (suc zero)) = rw d
role-by r ClassExpression l fs gs e d (suc (suc (suc i))) = refl
role-by r _ l fs gs e d i = refl

pub role-same : (r : Role) (k : AstType) (l : Label) (fs gs : Fields) → ((i : ℕ) → is_some (child_at i gs) ≡ is_some (child_at i fs)) → role_at r k l gs ≡ role_at r k l fs
role-same r k l fs gs shape = λ j i. role-by r k l fs gs (third-child gs ∙ shape 2 ∙ sym (third-child fs)) (shape 1) i j
