-- What stands in the fields of a program, of an export that is split and of a declaration, and that other numbers of fields are none of it.
use Rattle.std.proofs.Common.{◌≡◌, ◌≢◌, List, [], ◌∷◌, ap, arith, length, refl, ℕ}
use Rattle.std.specs.Prelude.{◌==◌, Bool, None, Option, Some, false, true}
use Rattle.es_tree.specs.Arity.{Fits, Slot, list, optional, statement_list}
use Rattle.es_tree.specs.ArityFacts.{fits_length}
use Rattle.es_tree.specs.BoundNames.{bound_identifiers}
use Rattle.es_tree.specs.Tree.{Field, Fields, Tree, done, empty, many, missing, node, one, statements, trees, ◌then◌}
use Rattle.es_tree.specs.Views.{plain_field, plain_fields}
use Rattle.es_tree.specs.declared.ast_type.AstType.TheVariants.{VariableDeclarator}
use Rattle.es_tree.specs.declared.node.Field.{Field as NodeField}
use Rattle.es_export_splits.specs.Splits.{names_of_declarator}
use Rattle.lower_export_splits.specs.Parts.{hold_nothing, hold_split, is_empty_list, only_list, pattern_of}

-- A TEST that is passed by fields of these places alone is passed by no other number of fields

false-by : (b : Bool) → (b ≡ true → ⊥) → b ≡ false
false-by true h = absurd (h refl)
false-by false h = refl

module _ (test : Fields → Bool) (places : List Slot) (fit : (fs : Fields) → test fs ≡ true → Fits places fs) where
  pub other-count : (fs : List NodeField) → (length fs ≡ length places → ⊥) → test (plain_fields fs) ≡ false
  other-count fs other = false-by (test (plain_fields fs)) (λ h. other (fits_length places fs (fit (plain_fields fs) h)))

-- A PROGRAM

abbrev pub program_places : List Slot
program_places = list ∷ statement_list ∷ []

pub program-fits : (fs : Fields) → hold_split fs ≡ true → Fits program_places fs
program-fits (many ds then statements ts then done) h = (tt, (tt, tt))
program-fits _ h = absurd (cc h)

-- AN EXPORT

abbrev pub other_places : List Slot
other_places = list ∷ optional ∷ list ∷ []

pub nothing-fits : (fs : Fields) → hold_nothing fs ≡ true → Fits other_places fs
nothing-fits (many empty then missing then many empty then done) h = (tt, (tt, (tt, tt)))
nothing-fits _ h = absurd (cc h)

pub empty-list : (n : ℕ) (ts : List Tree) → n ≡ length ts → (n == 0) ≡ is_empty_list (many (trees ts))
empty-list n [] e = ap (λ k. k == 0) e
empty-list n (t ∷ ts) e = grind (arith, e)

-- A DECLARATION

pub other-lists : (fs : List NodeField) → length fs ≢ 1 → only_list (plain_fields fs) ≡ empty
other-lists [] h = refl
other-lists (f ∷ []) h = absurd (h refl)
other-lists (f ∷ g ∷ fs) h = two-fields (plain_field f) (plain_field g) (plain_fields fs)
  where
    two-fields : (f g : Field) (fs : Fields) → only_list (f then g then fs) ≡ empty
    two-fields (many ts) g fs = refl
    two-fields _ g fs = refl

-- the names of a pattern that stands
abbrev pub names_of : Option Tree → List Tree
names_of None = []
names_of (Some p) = bound_identifiers p

pub names-of-declarator : (d : Tree) → names_of_declarator d ≡ names_of (pattern_of d)
names-of-declarator (node VariableDeclarator l (one p then fs)) = refl
names-of-declarator _ = refl
