-- Which symbols a resolved tree writes (ECMA-262, 13.4, 13.15, 14.7.5).
use Rattle.std.specs.Prelude.{ℕ, zero, suc, Bool, false, ◌&&◌, ◌||◌}
use Rattle.es_tree.specs.References.{is_symbol}
use Rattle.es_tree.specs.Tree.{Tree, node, Label, Fields, done, ◌then◌, Field, missing, one, many, statements, Trees, empty, ◌before◌}
use Rattle.es_tree.specs.declared.ast_type.AstType.{AstType}
use Rattle.es_tree.specs.declared.ast_type.AstType.TheVariants.{Identifier}
use Rattle.es_semantic.specs.RolesOf.{role_at}
use Rattle.es_semantic.specs.declared.place.Role.{Role}
use Rattle.es_semantic.specs.declared.place.Role.TheVariants.{Refers}
use Rattle.es_resolution.specs.Declarations.{symbol_of}

-- whether an identifier of this role writes its name
abbrev pub writes : Role → Bool
writes (Refers f) = f.write
writes _ = false

abbrev pub own_writes : ℕ → Role → AstType → Label → Bool
own_writes s r Identifier l = writes r && is_symbol s (symbol_of l)
own_writes s r _ l = false

abbrev mutual
  -- whether an identifier of a tree of this role writes the symbol
  pub is_written : ℕ → Role → Tree → Bool
  is_written s r (node k l fs) = own_writes s r k l || is_written_in s (role_at r k l fs) fs

  pub is_written_in : ℕ → (ℕ → Role) → Fields → Bool
  is_written_in s roles done = false
  is_written_in s roles (f then fs) = is_written_by s (roles zero) f || is_written_in s (λ i. roles (suc i)) fs

  pub is_written_by : ℕ → Role → Field → Bool
  is_written_by s r missing = false
  is_written_by s r (one t) = is_written s r t
  is_written_by s r (many ts) = is_written_among s r ts
  is_written_by s r (statements ts) = is_written_among s r ts

  pub is_written_among : ℕ → Role → Trees → Bool
  is_written_among s r empty = false
  is_written_among s r (t before ts) = is_written s r t || is_written_among s r ts
