-- Tests of places, as the code makes them one after the other, and as they are defined.
use Rattle.std.proofs.Common.{◌≡◌, ◌<◌, ◌≤◌, ◌∷◌, List, [], ap, arith, get_or, length, refl}
use Rattle.std.specs.Prelude.{◌&&◌, ◌||◌, Bool, false, not}
use Rattle.std.specs.List.{list_all, list_any}
use Rattle.es_tree.specs.Tree.{Tree, Fields, done, ◌then◌, Field, missing, one, many, statements, trees}
use Rattle.es_tree.specs.Views.{plain_field, plain_fields}
use Rattle.es_tree.specs.declared.node.Field.{Field as NodeField}
use Rattle.es_steps.specs.UsingBlocks.{is_using_node}
use Rattle.es_steps.specs.UsingSwitches.{case_has_using, some_case_has_using}
use Rattle.es_using_nodes.proofs.FieldCounts.{fewer, more}
use Rattle.es_using_rows.specs.UsingPlaces.{are_used, are_used_cases, has_value, have_values, is_used, is_used_case, uses_in_head, uses_in_static_block}
use Rattle.lower_using.specs.Parts.{head_is_used, hold_values, holds_used, holds_using, holds_value, leads_in_label, some_have_values, uses_in_block, uses_in_switch}

-- LISTS

abbrev pub passes : Tree → Bool
passes t = not (is_using_node t) || is_used t

pub all-used : (ts : List Tree) → list_all passes ts ≡ are_used (trees ts)
all-used [] = refl
all-used (t ∷ ts) = ap (λ b. passes t && b) (all-used ts)

pub all-values : (ds : List Tree) → list_all has_value ds ≡ have_values (trees ds)
all-values [] = refl
all-values (d ∷ ds) = ap (λ b. has_value d && b) (all-values ds)

pub any-case : (cs : List Tree) → list_any case_has_using cs ≡ some_case_has_using (trees cs)
any-case [] = refl
any-case (t ∷ cs) = ap (λ b. case_has_using t || b) (any-case cs)

pub all-cases : (cs : List Tree) → list_all is_used_case cs ≡ are_used_cases (trees cs)
all-cases [] = refl
all-cases (t ∷ cs) = ap (λ b. is_used_case t && b) (all-cases cs)

-- TWO FIELDS, AND NO OTHER NUMBER

value-alone : (f : Field) → holds_value (f then done) ≡ false
value-alone missing = refl
value-alone (one t) = refl
value-alone (many ts) = refl
value-alone (statements ts) = refl

value-longer : (f g h : Field) (fs : Fields) → holds_value (f then g then h then fs) ≡ false
value-longer missing g h fs = refl
value-longer (many ts) g h fs = refl
value-longer (statements ts) g h fs = refl
value-longer (one t) missing h fs = refl
value-longer (one t) (one u) h fs = refl
value-longer (one t) (many us) h fs = refl
value-longer (one t) (statements us) h fs = refl

pub fewer-values : (fs : List NodeField) → length fs < 2 → holds_value (plain_fields fs) ≡ false
fewer-values = fewer holds_value refl value-alone value-longer

pub more-values : (fs : List NodeField) → 2 < length fs → holds_value (plain_fields fs) ≡ false
more-values = more holds_value refl value-alone value-longer

switch-longer : (f g h : Field) (fs : Fields) → uses_in_switch (f then g then h then fs) ≡ false
switch-longer f missing h fs = refl
switch-longer f (one u) h fs = refl
switch-longer f (many us) h fs = refl
switch-longer f (statements us) h fs = refl

pub fewer-cases : (fs : List NodeField) → length fs < 2 → uses_in_switch (plain_fields fs) ≡ false
fewer-cases = fewer uses_in_switch refl (λ f. refl) switch-longer

pub more-cases : (fs : List NodeField) → 2 < length fs → uses_in_switch (plain_fields fs) ≡ false
more-cases = more uses_in_switch refl (λ f. refl) switch-longer

using-longer : (f g h : Field) (fs : Fields) → holds_using (f then g then h then fs) ≡ false
using-longer f missing h fs = refl
using-longer f (one u) h fs = refl
using-longer f (many us) h fs = refl
using-longer f (statements us) h fs = refl

pub fewer-using : (fs : List NodeField) → length fs < 2 → holds_using (plain_fields fs) ≡ false
fewer-using = fewer holds_using refl (λ f. refl) using-longer

pub more-using : (fs : List NodeField) → 2 < length fs → holds_using (plain_fields fs) ≡ false
more-using = more holds_using refl (λ f. refl) using-longer

used-longer : (f g h : Field) (fs : Fields) → holds_used (f then g then h then fs) ≡ false
used-longer f missing h fs = refl
used-longer f (one u) h fs = refl
used-longer f (many us) h fs = refl
used-longer f (statements us) h fs = refl

pub fewer-used : (fs : List NodeField) → length fs < 2 → holds_used (plain_fields fs) ≡ false
fewer-used = fewer holds_used refl (λ f. refl) used-longer

pub more-used : (fs : List NodeField) → 2 < length fs → holds_used (plain_fields fs) ≡ false
more-used = more holds_used refl (λ f. refl) used-longer

label-alone : (f : Field) → leads_in_label (f then done) ≡ false
label-alone missing = refl
label-alone (one t) = refl
label-alone (many ts) = refl
label-alone (statements ts) = refl

label-longer : (f g h : Field) (fs : Fields) → leads_in_label (f then g then h then fs) ≡ false
label-longer missing g h fs = refl
label-longer (many ts) g h fs = refl
label-longer (statements ts) g h fs = refl
label-longer (one t) missing h fs = refl
label-longer (one t) (one u) h fs = refl
label-longer (one t) (many us) h fs = refl
label-longer (one t) (statements us) h fs = refl

pub fewer-labels : (fs : List NodeField) → length fs < 2 → leads_in_label (plain_fields fs) ≡ false
fewer-labels = fewer leads_in_label refl label-alone label-longer

pub more-labels : (fs : List NodeField) → 2 < length fs → leads_in_label (plain_fields fs) ≡ false
more-labels = more leads_in_label refl label-alone label-longer

-- ONE LIST

two-lists : (f g : Field) (fs : Fields) → hold_values (f then g then fs) ≡ false
two-lists missing g fs = refl
two-lists (one t) g fs = refl
two-lists (many ts) g fs = refl
two-lists (statements ts) g fs = refl

pub more-lists : (fs : List NodeField) → 1 < length fs → hold_values (plain_fields fs) ≡ false
more-lists [] h = absurd (omega (arith, h))
more-lists (f ∷ []) h = absurd (omega (arith, h))
more-lists (f ∷ g ∷ fs) h = two-lists (plain_field f) (plain_field g) (plain_fields fs)

two-blocks : (f g : Field) (fs : Fields) → uses_in_block (f then g then fs) ≡ false
two-blocks missing g fs = refl
two-blocks (one t) g fs = refl
two-blocks (many ts) g fs = refl
two-blocks (statements ts) g fs = refl

pub more-blocks : (fs : List NodeField) → 1 < length fs → uses_in_block (plain_fields fs) ≡ false
more-blocks [] h = absurd (omega (arith, h))
more-blocks (f ∷ []) h = absurd (omega (arith, h))
more-blocks (f ∷ g ∷ fs) h = two-blocks (plain_field f) (plain_field g) (plain_fields fs)

two-statics : (f g : Field) (fs : Fields) → uses_in_static_block (f then g then fs) ≡ false
two-statics missing g fs = refl
two-statics (one t) g fs = refl
two-statics (many ts) g fs = refl
two-statics (statements ts) g fs = refl

pub more-statics : (fs : List NodeField) → 1 < length fs → uses_in_static_block (plain_fields fs) ≡ false
more-statics [] h = absurd (omega (arith, h))
more-statics (f ∷ []) h = absurd (omega (arith, h))
more-statics (f ∷ g ∷ fs) h = two-statics (plain_field f) (plain_field g) (plain_fields fs)

pub some-values : (ds : List Tree) → 1 ≤ length ds → have_values (trees ds) ≡ some_have_values (trees ds)
some-values [] h = absurd (omega (arith, h))
some-values (d ∷ ds) h = refl

-- FOUR FIELDS

four-of-head : (f g h i : Field) → head_is_used f ≡ uses_in_head (f then g then h then i then done)
four-of-head missing g h i = refl
four-of-head (one t) g h i = refl
four-of-head (many ts) g h i = refl
four-of-head (statements ts) g h i = refl

pub head-of-four : (fs : List NodeField) (d : NodeField) → 4 ≤ length fs → length fs < 5 → head_is_used (plain_field (get_or fs 0 d)) ≡ uses_in_head (plain_fields fs)
head-of-four [] d l k = absurd (omega (arith, l))
head-of-four (f ∷ []) d l k = absurd (omega (arith, l))
head-of-four (f ∷ g ∷ []) d l k = absurd (omega (arith, l))
head-of-four (f ∷ g ∷ h ∷ []) d l k = absurd (omega (arith, l))
head-of-four (f ∷ g ∷ h ∷ i ∷ []) d l k = four-of-head (plain_field f) (plain_field g) (plain_field h) (plain_field i)
head-of-four (f ∷ g ∷ h ∷ i ∷ j ∷ fs) d l k = absurd (omega (arith, k))

one-of-head : (f : Field) → uses_in_head (f then done) ≡ false
one-of-head missing = refl
one-of-head (one t) = refl
one-of-head (many ts) = refl
one-of-head (statements ts) = refl

two-of-head : (f g : Field) → uses_in_head (f then g then done) ≡ false
two-of-head missing g = refl
two-of-head (one t) g = refl
two-of-head (many ts) g = refl
two-of-head (statements ts) g = refl

three-of-head : (f g h : Field) → uses_in_head (f then g then h then done) ≡ false
three-of-head missing g h = refl
three-of-head (one t) g h = refl
three-of-head (many ts) g h = refl
three-of-head (statements ts) g h = refl

five-of-head : (f g h i j : Field) (fs : Fields) → uses_in_head (f then g then h then i then j then fs) ≡ false
five-of-head missing g h i j fs = refl
five-of-head (one t) g h i j fs = refl
five-of-head (many ts) g h i j fs = refl
five-of-head (statements ts) g h i j fs = refl

pub short-head : (fs : List NodeField) → length fs < 4 → uses_in_head (plain_fields fs) ≡ false
short-head [] l = refl
short-head (f ∷ []) l = one-of-head (plain_field f)
short-head (f ∷ g ∷ []) l = two-of-head (plain_field f) (plain_field g)
short-head (f ∷ g ∷ h ∷ []) l = three-of-head (plain_field f) (plain_field g) (plain_field h)
short-head (f ∷ g ∷ h ∷ i ∷ fs) l = absurd (omega (arith, l))

pub long-head : (fs : List NodeField) → 4 < length fs → uses_in_head (plain_fields fs) ≡ false
long-head [] l = absurd (omega (arith, l))
long-head (f ∷ []) l = absurd (omega (arith, l))
long-head (f ∷ g ∷ []) l = absurd (omega (arith, l))
long-head (f ∷ g ∷ h ∷ []) l = absurd (omega (arith, l))
long-head (f ∷ g ∷ h ∷ i ∷ []) l = absurd (omega (arith, l))
long-head (f ∷ g ∷ h ∷ i ∷ j ∷ fs) l = five-of-head (plain_field f) (plain_field g) (plain_field h) (plain_field i) (plain_field j) (plain_fields fs)
