-- The base of a temporary: that of a name is its text, and that of all else the node's.
use Rattle.std.proofs.Common.{◌≡◌, refl, Global, Option, String}
use Rattle.es_tree.specs.Fresh.{node_base}
use Rattle.es_tree.specs.Tree.{Fields}
use Rattle.es_tree.specs.Views.{plain}
use Rattle.es_tree.specs.declared.ids.NodeId.{NodeId}
use Rattle.es_tree.specs.declared.ids.ReferenceId.{ReferenceId}
use Rattle.es_tree.specs.declared.ids.Span.{Span}
use Rattle.es_tree.specs.declared.ids.SymbolId.{SymbolId}
use Rattle.es_tree.specs.declared.kind.Kind.{Kind}
use Rattle.es_tree.specs.declared.kind.Kind.TheVariants.{Identifier}
use Rattle.es_runs.specs.Duplication.{duplicate_base}

pub other-base : (id : NodeId) (span : Span) (kind : Kind) (fs : Fields) → ((x : String Global) (r : Option ReferenceId) (s : Option SymbolId) → kind ≡ Identifier x r s → ⊥) → duplicate_base (plain id span kind fs) ≡ node_base (plain id span kind fs)
other-base id span (Identifier x r s) fs h = absurd (h x r s refl)
other-base id span _ fs h = refl
