-- Where no optional mark stands outside a chain, none does in a node on which a row acts.
use Rattle.std.proofs.Common.{◌≡◌, ℕ}
use Rattle.std.specs.Prelude.{Bool, true, false, ◌&&◌, not}
use Rattle.es_tree.specs.declared.ast_type.AstType.TheVariants.{AssignmentExpression, BinaryExpression, ChainExpression, LogicalExpression, UnaryExpression}
use Rattle.es_tree.specs.Tree.{Tree, node, kind_of, Fields, Field, Trees}
use Rattle.es_runs.specs.Alike.{Need}
use Rattle.es_runs.specs.Rules.{OnePlace, OneField, InField, OneNode, is_marked, on_spine, strays, strays_fields, strays_field, strays_nodes}
use Rattle.es_runs.specs.Rules.OnePlace.{this_place, below}
use Rattle.es_runs.specs.Rules.OneField.{first_field, later_field}
use Rattle.es_runs.specs.Rules.InField.{in_one, in_many, in_statements}
use Rattle.es_runs.specs.Rules.OneNode.{first_node, later_node}
use Rattle.es_runs.proofs.Fresh.{or_left, or_right}
use Rattle.es_runs.proofs.RowFacts.{is_row_kind}
use Rattle.es_runs.proofs.RowKinds.{RowKinds}
use Rattle.es_runs.proofs.OptionalChaining.{WhereTidy}

-- on such a node itself no mark may stand, so a chain around it makes no difference
off_spine : (on : Bool) (a : Tree) → is_row_kind (kind_of a) ≡ true → strays on a ≡ false → strays false a ≡ false
off_spine on (node AssignmentExpression l fs) e h = h
off_spine on (node BinaryExpression l fs) e h = h
off_spine on (node ChainExpression l fs) e h = h
off_spine on (node LogicalExpression l fs) e h = h
off_spine on (node UnaryExpression l fs) e h = h
off_spine on (node k l fs) e h = absurd (cc e)

module _ (R : Need → Tree → Tree → Type 0) (kinds : (n : Need) (a b : Tree) → R n a b → RowKinds a b) where
  mutual
    pub tidy_place : (on : Bool) {n : Need} {t u : Tree} → OnePlace R n t u → strays on t ≡ false → OnePlace (WhereTidy R) n t u
    tidy_place on (this_place {n = n} {a = a} {b = b} r) h = this_place (r, off_spine on a (kinds n a b r).acted h)
    tidy_place on (below {k = k} {l = l} {fs = fs} r) h = below (tidy_fields (on_spine k on) r (or_right (is_marked k l.flags && not on) (strays_fields (on_spine k on) fs) h))

    tidy_fields : (on : Bool) {c : ℕ → Need} {fs gs : Fields} → OneField R c fs gs → strays_fields on fs ≡ false → OneField (WhereTidy R) c fs gs
    tidy_fields on (first_field {f = f} {fs = fs} r) h = first_field (tidy_field on r (or_left (strays_field on f) (strays_fields false fs) h))
    tidy_fields on (later_field {f = f} {fs = fs} r) h = later_field (tidy_fields false r (or_right (strays_field on f) (strays_fields false fs) h))

    tidy_field : (on : Bool) {n : Need} {f g : Field} → InField R n f g → strays_field on f ≡ false → InField (WhereTidy R) n f g
    tidy_field on (in_one r) h = in_one (tidy_place on r h)
    tidy_field on (in_many r) h = in_many (tidy_nodes on r h)
    tidy_field on (in_statements r) h = in_statements (tidy_nodes on r h)

    tidy_nodes : (on : Bool) {n : Need} {ts us : Trees} → OneNode R n ts us → strays_nodes on ts ≡ false → OneNode (WhereTidy R) n ts us
    tidy_nodes on (first_node {a = a} {xs = ts} r) h = first_node (tidy_place on r (or_left (strays on a) (strays_nodes on ts) h))
    tidy_nodes on (later_node {a = a} {xs = ts} r) h = later_node (tidy_nodes on r (or_right (strays on a) (strays_nodes on ts) h))
