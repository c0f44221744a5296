-- From the list of a source a name finds what the program's own scope binds in the table.
use Rattle.std.proofs.Common.{◌≡◌, sym, subst, ◌∙◌, [], ◌∷◌}
use Rattle.std.specs.Prelude.{None, true}
use Rattle.es_tree.specs.HasForm.{has_form}
use Rattle.es_tree.specs.Tree.{Fields, Label, Tree, node}
use Rattle.es_tree.specs.Words.{Text}
use Rattle.es_tree.specs.declared.ast_type.AstType.TheVariants.{Program}
use Rattle.es_tree.specs.declared.table.Sort.TheVariants.{Program as s-Program}
use Rattle.es_semantic.specs.RolesOf.{reads}
use Rattle.es_semantic.specs.SymbolsOf.{find, symbols_of}
use Rattle.es_resolution.specs.Laws.{source}
use Rattle.es_resolution.specs.Resolved.{inner, nowhere}
use Rattle.es_resolution.proofs.Forms.{form-placed}
use Rattle.es_resolution.proofs.Marks.{role-kept}
use Rattle.es_resolution.proofs.OutsideTrees.{places}
use Rattle.es_resolution.proofs.Placed.{IsWellPlaced, PlacedIn}
use Rattle.es_resolution.proofs.Programs as root
use Rattle.es_resolution.proofs.Sources.{source-resolved}
use Rattle.es_resolution.proofs.SymbolTrees.{resolved}
use Rattle.es_top_imports.specs.Laws.{list_place}

root-found : (l : Label) (fs : Fields) → PlacedIn Program fs → (x : Text) → (list_place (resolved (node Program l fs))).scope x ≡ find (symbols_of (node Program l fs)) (0 ∷ []) x
root-found l fs placed x =
    (λ i. inner nowhere Program (root.label l fs placed) (role-kept (root.F l fs placed) (places (root.R l fs placed) (root.A l fs placed) 0 None (root.st l fs placed)) 1 reads Program l [] fs i) (root.gs l fs placed) x)
    ∙ (root.root-sees l fs placed).scope 1 x

resolved-found : (p : Tree) → IsWellPlaced p → (x : Text) → (list_place (resolved p)).scope x ≡ find (symbols_of p) (0 ∷ []) x
resolved-found (node Program l fs) h x = root-found l fs h.1 x
resolved-found (node k l fs) h x = absurd (cc (h.0))

pub source-found : (p : Tree) → has_form s-Program p ≡ true → (x : Text) → (list_place (source p)).scope x ≡ find (symbols_of p) (0 ∷ []) x
source-found p form x = subst (λ (t : Tree). (list_place t).scope x ≡ find (symbols_of p) (0 ∷ []) x) (sym (source-resolved p)) (resolved-found p (form-placed p form) x)
