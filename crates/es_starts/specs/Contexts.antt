-- The context of a visit that has just begun, and that it can be made.
use Rattle.std.specs.Prelude.{◌≡◌, List, [], ◌∷◌, true}
use Rattle.es_tree.specs.Fresh.{is_among}
use Rattle.es_tree.specs.HasForm.{has_form}
use Rattle.es_tree.specs.Names.{names_of}
use Rattle.es_tree.specs.StaticRules.{breaks}
use Rattle.es_tree.specs.Tree.{Tree}
use Rattle.es_tree.specs.Words.{Text}
use Rattle.es_tree.specs.declared.table.Sort.TheVariants.{Program as s-Program}
use Rattle.es_scope.specs.Contexts.{BindsNamesOf, around_of, made_of, table_of, uses_of}
use Rattle.es_scope.specs.declared.context.TraverseCtx.{TraverseCtx}
use Rattle.es_scope.specs.declared.scoping.Scoping.{Scoping}
use Rattle.es_semantic.specs.ReferencesOf.{marked_program}
use Rattle.es_semantic.specs.TableOf.{IsTableOf}
use Rattle.es_steps.specs.Open.{Pending, nothing_pending}

-- What `TraverseCtx::new` makes of the table of a program and the program with its marks, where the state holds one empty pair.
pub record IsNew {S : Type 0} (p : Tree) (pending : S → List Pending) (ctx : TraverseCtx S) : Type 0 where
  pub table : IsTableOf p (table_of ctx)
  pub around : around_of ctx ≡ []
  pub in_use : (x : Text) → uses_of ctx x ≡ is_among (names_of (marked_program p)) x
  pub made : made_of ctx ≡ []
  pub lists : pending ctx.state ≡ nothing_pending ∷ []

-- The table of a program that has form and breaks no static rule binds names of the program alone, as `TraverseCtx::new` asks.
abbrev pub LawBindsNames : Type 0
LawBindsNames = (p : Tree) (s : Scoping) → has_form s-Program p ≡ true → breaks p ≡ [] → IsTableOf p s → BindsNamesOf (marked_program p) s
