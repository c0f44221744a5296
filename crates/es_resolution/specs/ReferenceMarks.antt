-- The marks of an identifier agree with the references of the table: its reference has its own symbol.
use Rattle.std.specs.Prelude.{◌≡◌, ℕ, List, Some, option_map, slice_get}
use Rattle.es_tree.specs.References.{Reference}
use Rattle.es_tree.specs.Tree.{Tree, node, Label, Fields, done, ◌then◌, Field, missing, one, many, statements, Trees, empty, ◌before◌}
use Rattle.es_tree.specs.declared.ast_type.AstType.{AstType}
use Rattle.es_tree.specs.declared.ast_type.AstType.TheVariants.{Identifier}
use Rattle.es_semantic.specs.NodeMarks.{reference_mark, symbol_mark}

abbrev pub OwnAgrees : List Reference → AstType → Label → Type 0
OwnAgrees rs Identifier l = (m : ℕ) → reference_mark l ≡ Some m → option_map (λ r. r.symbol) (slice_get rs m) ≡ Some (symbol_mark l)
OwnAgrees rs _ l = Unit {0}

abbrev mutual
  -- each identifier of a tree that is one of these references has its symbol
  pub Agrees : List Reference → Tree → Type 0
  Agrees rs (node k l fs) = OwnAgrees rs k l × AgreesIn rs fs

  pub AgreesIn : List Reference → Fields → Type 0
  AgreesIn rs done = Unit {0}
  AgreesIn rs (f then fs) = AgreesBy rs f × AgreesIn rs fs

  pub AgreesBy : List Reference → Field → Type 0
  AgreesBy rs missing = Unit {0}
  AgreesBy rs (one t) = Agrees rs t
  AgreesBy rs (many ts) = AgreesAmong rs ts
  AgreesBy rs (statements ts) = AgreesAmong rs ts

  pub AgreesAmong : List Reference → Trees → Type 0
  AgreesAmong rs empty = Unit {0}
  AgreesAmong rs (t before ts) = Agrees rs t × AgreesAmong rs ts
