-- A list that has a node.
use Rattle.std.proofs.Common.{◌≡◌, List, [], ◌∷◌, length, Option, refl, sym, subst}
use Rattle.serde_json.specs.Data.{Data}
use Rattle.es_tree.specs.Tree.{Tree, trees, many}
use Rattle.es_tree.specs.declared.table.Sort.{Sort}
use Rattle.es_tree.specs.declared.table.Often.{Often}
use Rattle.es_tree.specs.declared.table.Often.TheVariants.{NonEmptyList}
use Rattle.es_json.specs.Values.{list_of}
use Rattle.es_json.specs.Form.{AreItems}
use Rattle.es_json.specs.Parts.{IsChildOf}

non_empty : (v : Data) (s : Sort) (d : Option Data) (nodes : List Tree) → (length nodes ≡ 0 → ⊥) → AreItems s s (list_of d) (trees nodes) → IsChildOf v s NonEmptyList d (many (trees nodes))
non_empty v s d [] ne h = absurd (ne refl)
non_empty v s d (t ∷ ts) ne h = h

pub a_non_empty : (v : Data) (s : Sort) (d : Option Data) (o : Often) (nodes : List Tree) → o ≡ NonEmptyList → (length nodes ≡ 0 → ⊥) → AreItems s s (list_of d) (trees nodes) → IsChildOf v s o d (many (trees nodes))
a_non_empty v s d o nodes is ne h = let P : Often → Type 0 = λ x. IsChildOf v s x d (many (trees nodes)) in subst P (sym is) (non_empty v s d nodes ne h)
