-- A program with one statement more in its list: the static rules of places are kept.
use Rattle.std.proofs.Common.{◌≡◌, ℕ, refl, ◌∙◌, List, [], ◌∷◌}
use Rattle.std.specs.Prelude.{Bool, true, false, not, ◌||◌, bytes_eq, codes}
use Rattle.es_tree.specs.Ancestors.{Ancestor, ancestor}
use Rattle.es_tree.specs.Names.{first_text}
use Rattle.es_tree.specs.Tree.{Tree, Label, Field, Fields, node, done, ◌then◌, statements, Trees, ◌before◌}
use Rattle.es_tree.specs.Words.{Text}
use Rattle.es_tree.specs.declared.ast_type.AstType.TheVariants.{Program}
use Rattle.es_resolution.proofs.Basics.{bytes_eq-self}
use Rattle.es_steps.specs.Nodes.{joined_trees}
use Rattle.es_valid_steps.specs.PlaceRules.{Keeps, KeepsHere}
use Rattle.es_valid_steps.proofs.Offers.{Alike, near-self, offers-self}
use Rattle.es_valid_rests.proofs.RestPlacesFunctions.{all-again, all-joined, all-parts, field-again}
use Rattle.es_top_imports.specs.TopImports.{Import, top_of}
use Rattle.es_top_imports.proofs.TopForms.{program_with}

-- THE STATEMENT, in the list of a program

module _ (l : Label) (all : Fields) where
  abbrev pub up : List Ancestor
  up = ancestor Program l all 1 0 ∷ []

  in-a-module : (x : Text) → first_text l.texts ≡ x → bytes_eq (first_text l.texts) x ≡ true
  in-a-module x e = (λ i. bytes_eq (e i) x) ∙ bytes_eq-self x

  pub statement-keeps : (in_module : Bool) → (in_module ≡ true → first_text l.texts ≡ codes "module") → (i : Import) → Keeps up (top_of in_module i)
  statement-keeps true h i = let top = in-a-module (codes "module") (h refl) in (record { jump = refl; label = refl; returned = refl; super_word = refl; target = refl; chain = refl; mark = refl; deleted = refl; value = refl; using_word = refl; head = refl; item = (λ j. not (top j || false)); accessor = refl; rest = refl; declaration = refl; meta = refl }, (((record { jump = refl; label = refl; returned = refl; super_word = refl; target = refl; chain = refl; mark = refl; deleted = refl; value = refl; using_word = refl; head = refl; item = refl; accessor = refl; rest = refl; declaration = refl; meta = refl }, ((record { jump = refl; label = refl; returned = refl; super_word = refl; target = refl; chain = refl; mark = refl; deleted = refl; value = refl; using_word = refl; head = refl; item = refl; accessor = refl; rest = refl; declaration = refl; meta = refl }, tt), tt)), tt), ((record { jump = refl; label = refl; returned = refl; super_word = refl; target = refl; chain = refl; mark = refl; deleted = refl; value = refl; using_word = refl; head = refl; item = refl; accessor = refl; rest = refl; declaration = refl; meta = refl }, tt), (tt, tt))))
  statement-keeps false h i = (record { jump = refl; label = refl; returned = refl; super_word = refl; target = refl; chain = refl; mark = refl; deleted = refl; value = refl; using_word = refl; head = refl; item = refl; accessor = refl; rest = refl; declaration = refl; meta = refl }, (((record { jump = refl; label = refl; returned = refl; super_word = refl; target = refl; chain = refl; mark = refl; deleted = refl; value = refl; using_word = refl; head = refl; item = refl; accessor = refl; rest = refl; declaration = refl; meta = refl }, ((record { jump = refl; label = refl; returned = refl; super_word = refl; target = refl; chain = refl; mark = refl; deleted = refl; value = refl; using_word = refl; head = refl; item = refl; accessor = refl; rest = refl; declaration = refl; meta = refl }, tt), ((record { jump = refl; label = refl; returned = refl; super_word = refl; target = refl; chain = refl; mark = refl; deleted = refl; value = refl; using_word = refl; head = refl; item = refl; accessor = refl; rest = refl; declaration = refl; meta = refl }, ((record { jump = refl; label = refl; returned = refl; super_word = refl; target = refl; chain = refl; mark = refl; deleted = refl; value = refl; using_word = refl; head = refl; item = refl; accessor = refl; rest = refl; declaration = refl; meta = refl }, tt), (((record { jump = refl; label = refl; returned = refl; super_word = refl; target = refl; chain = refl; mark = refl; deleted = refl; value = refl; using_word = refl; head = refl; item = refl; accessor = refl; rest = refl; declaration = refl; meta = refl }, tt), tt), tt))), tt))), tt), tt))

-- THE PROGRAM

program-here : (l : Label) (fs gs : Fields) → KeepsHere [] (node Program l fs) → KeepsHere [] (node Program l gs)
program-here l fs gs h = record { jump = refl; label = refl; returned = refl; super_word = refl; target = refl; chain = refl; mark = refl; deleted = refl; value = refl; using_word = refl; head = refl; item = refl; accessor = refl; rest = refl; declaration = refl; meta = refl }

alike : (l : Label) (old new : Fields) (i : ℕ) → Alike (ancestor Program l old i 0) (ancestor Program l new i 0)
alike l old new i = record { kind = refl; label = refl; index = refl; labels = refl; derived = refl }

pub program-keeps : (l : Label) (d : Field) (before_it after_it : Trees) (t : Tree) → ((all : Fields) → Keeps (up l all) t) → Keeps [] (program_with l d (joined_trees before_it after_it)) → Keeps [] (program_with l d (joined_trees before_it (t before after_it)))
program-keeps l d before_it after_it t h k =
    let old : Fields = d then (statements (joined_trees before_it after_it) then done) in
    let new : Fields = d then (statements (joined_trees before_it (t before after_it)) then done) in
    let directives = field-again [] [] (ancestor Program l old 0 0) (ancestor Program l new 0 0) (alike l old new 0) (offers-self []) (near-self []) d k.1.0 in
    let list = all-parts (up l new) before_it after_it (all-again [] [] (ancestor Program l old 1 0) (ancestor Program l new 1 0) (alike l old new 1) (offers-self []) (near-self []) (joined_trees before_it after_it) k.1.1.0) in
    let more = all-joined (up l new) before_it (t before after_it) list.0 (h new, list.1) in
    (program-here l old new k.0, (directives, (more, tt)))
