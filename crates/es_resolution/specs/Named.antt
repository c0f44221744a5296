-- The names and symbols that stand in a tree, declared or referred to, are in use: each name passes a test, and each symbol is
-- below a number.
use Rattle.std.specs.Prelude.{◌≡◌, ℕ, zero, suc, ◌<◌, Bool, true, Option, Some, None}
use Rattle.es_tree.specs.Words.{Text}
use Rattle.es_tree.specs.Names.{first_text}
use Rattle.es_tree.specs.Tree.{Tree, node, Label, Fields, done, ◌then◌, Field, missing, one, many, statements, Trees, empty, ◌before◌}
use Rattle.es_tree.specs.declared.ast_type.AstType.{AstType}
use Rattle.es_tree.specs.declared.ast_type.AstType.TheVariants.{Identifier}
use Rattle.es_semantic.specs.RolesOf.{role_at}
use Rattle.es_semantic.specs.declared.place.Role.{Role}
use Rattle.es_semantic.specs.declared.place.Role.TheVariants.{Nothing}
use Rattle.es_resolution.specs.Declarations.{symbol_of}

abbrev pub IsUsed : (Text → Bool) → Role → Text → Type 0
IsUsed in_use Nothing x = Unit {0}
IsUsed in_use _ x = in_use x ≡ true

abbrev pub OwnUsed : (Text → Bool) → Role → AstType → Label → Type 0
OwnUsed in_use r Identifier l = IsUsed in_use r (first_text l.texts)
OwnUsed in_use r _ l = Unit {0}

abbrev pub IsBelow : ℕ → Option ℕ → Type 0
IsBelow free None = Unit {0}
IsBelow free (Some s) = s < free

abbrev mutual
  pub Named : (Text → Bool) → ℕ → Role → Tree → Type 0
  Named in_use free r (node k l fs) = (OwnUsed in_use r k l × IsBelow free (symbol_of l)) × NamedIn in_use free (role_at r k l fs) fs

  pub NamedIn : (Text → Bool) → ℕ → (ℕ → Role) → Fields → Type 0
  NamedIn in_use free roles done = Unit {0}
  NamedIn in_use free roles (f then fs) = NamedBy in_use free (roles zero) f × NamedIn in_use free (λ i. roles (suc i)) fs

  pub NamedBy : (Text → Bool) → ℕ → Role → Field → Type 0
  NamedBy in_use free r missing = Unit {0}
  NamedBy in_use free r (one t) = Named in_use free r t
  NamedBy in_use free r (many ts) = NamedAll in_use free r ts
  NamedBy in_use free r (statements ts) = NamedAll in_use free r ts

  pub NamedAll : (Text → Bool) → ℕ → Role → Trees → Type 0
  NamedAll in_use free r empty = Unit {0}
  NamedAll in_use free r (t before ts) = Named in_use free r t × NamedAll in_use free r ts
