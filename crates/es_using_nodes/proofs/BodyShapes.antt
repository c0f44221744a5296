-- Functions whose bodies clash, and static blocks that do, as the code tests them, and as they are defined: other numbers of fields pass no test.
use Rattle.std.proofs.Common.{◌≡◌, ◌<◌, ◌∷◌, List, [], arith, false, length, refl}
use Rattle.es_tree.specs.Tree.{Fields, done, ◌then◌, Field, missing, one, many, statements, Trees}
use Rattle.es_tree.specs.Views.{plain_field, plain_fields}
use Rattle.es_tree.specs.declared.node.Field.{Field as NodeField}
use Rattle.es_using_nodes.specs.BodyFields.{clashes_in_statements}
use Rattle.es_using_nodes.specs.Clashes.{clashes_in_arrow, clashes_in_function, clashes_in_static_block}
use Rattle.es_using_nodes.proofs.FieldCounts.{fewer, fewer-than-three, more, more-than-three}

-- FUNCTIONS

two-of-function : (f g : Field) → clashes_in_function (f then g then done) ≡ false
two-of-function f missing = refl
two-of-function f (one t) = refl
two-of-function f (many ts) = refl
two-of-function f (statements ts) = refl

four-of-function : (f g h i : Field) (fs : Fields) → clashes_in_function (f then g then h then i then fs) ≡ false
four-of-function f missing h i fs = refl
four-of-function f (one t) h i fs = refl
four-of-function f (statements ts) h i fs = refl
four-of-function f (many ts) missing i fs = refl
four-of-function f (many ts) (one u) i fs = refl
four-of-function f (many ts) (many us) i fs = refl
four-of-function f (many ts) (statements us) i fs = refl

pub fewer-function : (fs : List NodeField) → length fs < 3 → clashes_in_function (plain_fields fs) ≡ false
fewer-function = fewer-than-three clashes_in_function refl (λ f. refl) two-of-function

pub more-function : (fs : List NodeField) → 3 < length fs → clashes_in_function (plain_fields fs) ≡ false
more-function = more-than-three clashes_in_function four-of-function

-- ARROWS

arrow-alone : (f : Field) → clashes_in_arrow (f then done) ≡ false
arrow-alone missing = refl
arrow-alone (one t) = refl
arrow-alone (many ts) = refl
arrow-alone (statements ts) = refl

arrow-longer : (f g h : Field) (fs : Fields) → clashes_in_arrow (f then g then h then fs) ≡ false
arrow-longer missing g h fs = refl
arrow-longer (one t) g h fs = refl
arrow-longer (statements ts) g h fs = refl
arrow-longer (many ts) missing h fs = refl
arrow-longer (many ts) (one u) h fs = refl
arrow-longer (many ts) (many us) h fs = refl
arrow-longer (many ts) (statements us) h fs = refl

pub fewer-arrow : (fs : List NodeField) → length fs < 2 → clashes_in_arrow (plain_fields fs) ≡ false
fewer-arrow = fewer clashes_in_arrow refl arrow-alone arrow-longer

pub more-arrow : (fs : List NodeField) → 2 < length fs → clashes_in_arrow (plain_fields fs) ≡ false
more-arrow = more clashes_in_arrow refl arrow-alone arrow-longer

-- DIRECTIVES AND STATEMENTS

module _ (ps : Trees) where
  directives-alone : (f : Field) → clashes_in_statements ps (f then done) ≡ false
  directives-alone missing = refl
  directives-alone (one t) = refl
  directives-alone (many ts) = refl
  directives-alone (statements ts) = refl

  directives-longer : (f g h : Field) (fs : Fields) → clashes_in_statements ps (f then g then h then fs) ≡ false
  directives-longer missing g h fs = refl
  directives-longer (one t) g h fs = refl
  directives-longer (statements ts) g h fs = refl
  directives-longer (many ts) missing h fs = refl
  directives-longer (many ts) (one u) h fs = refl
  directives-longer (many ts) (many us) h fs = refl
  directives-longer (many ts) (statements us) h fs = refl

  pub fewer-directives : (fs : List NodeField) → length fs < 2 → clashes_in_statements ps (plain_fields fs) ≡ false
  fewer-directives = fewer (clashes_in_statements ps) refl directives-alone directives-longer

  pub more-directives : (fs : List NodeField) → 2 < length fs → clashes_in_statements ps (plain_fields fs) ≡ false
  more-directives = more (clashes_in_statements ps) refl directives-alone directives-longer

-- STATIC BLOCKS

two-of-static : (f g : Field) (fs : Fields) → clashes_in_static_block (f then g then fs) ≡ false
two-of-static missing g fs = refl
two-of-static (one t) g fs = refl
two-of-static (many ts) g fs = refl
two-of-static (statements ts) g fs = refl

pub more-static : (fs : List NodeField) → 1 < length fs → clashes_in_static_block (plain_fields fs) ≡ false
more-static [] h = absurd (omega (arith, h))
more-static (f ∷ []) h = absurd (omega (arith, h))
more-static (f ∷ g ∷ fs) h = two-of-static (plain_field f) (plain_field g) (plain_fields fs)
