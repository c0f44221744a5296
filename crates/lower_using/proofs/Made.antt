-- What the fields become of a `switch`, of a case and of a loop.
use Rattle.std.proofs.Common.{◌≡◌, ◌∙◌, ◌∷◌, List, [], ap, arith, get_or, length, refl, sym}
use Rattle.std.specs.Prelude.{false, if◌then◌else◌, true}
use Rattle.es_tree.specs.Tree.{Tree, Fields, done, ◌then◌, one, many, statements, Trees}
use Rattle.es_tree.specs.Views.{plain_field, plain_fields}
use Rattle.es_tree.specs.Words.{Text}
use Rattle.es_tree.specs.declared.node.Field.{Field as NodeField}
use Rattle.es_tree.specs.declared.node.Field.TheVariants.{One}
use Rattle.es_using_rows.specs.UsingPlaces.{is_used, uses_in_head}
use Rattle.es_using_rows.specs.Used.{constants, plainly, used_cases, used_declaration, used_head}
use Rattle.lower_using.specs.Parts.{BecomesBy, holds_used, uses_in_switch, with_cases, with_constants}
use Rattle.lower_using.proofs.PlaceTests.{long-head, more-cases, more-used, short-head}

-- TWO FIELDS, by their places

pub two-fields : {xs ys : List NodeField} {f g : NodeField} → ys ≡ xs → length xs ≡ 2 → f ≡ get_or ys 0 f → g ≡ get_or ys 1 g → xs ≡ f ∷ g ∷ []
two-fields {xs} {ys} {f} {g} same count ef eg = sym same ∙ by-length ys (ap length same ∙ count) ef eg
  where
    by-length : (zs : List NodeField) → length zs ≡ 2 → f ≡ get_or zs 0 f → g ≡ get_or zs 1 g → zs ≡ f ∷ g ∷ []
    by-length [] n df dg = absurd (omega (arith, n))
    by-length (x ∷ []) n df dg = absurd (omega (arith, n))
    by-length (x ∷ y ∷ []) n df dg = λ i. sym df i ∷ sym dg i ∷ []
    by-length (x ∷ y ∷ z ∷ zs) n df dg = absurd (omega (arith, n))

-- `switch`

pub switch-length : (xs : List NodeField) → uses_in_switch (plain_fields xs) ≡ true → length xs ≡ 2
switch-length [] h = absurd (cc h)
switch-length (f ∷ []) h = absurd (cc h)
switch-length (f ∷ g ∷ []) h = refl
switch-length (f ∷ g ∷ i ∷ xs) h = let no : false ≡ true = sym (more-cases (f ∷ g ∷ i ∷ xs) (omega arith)) ∙ h in absurd (cc no)

pub case-length : (xs : List NodeField) → holds_used (plain_fields xs) ≡ true → length xs ≡ 2
case-length [] h = absurd (cc h)
case-length (f ∷ []) h = absurd (cc h)
case-length (f ∷ g ∷ []) h = refl
case-length (f ∷ g ∷ i ∷ xs) h = let no : false ≡ true = sym (more-used (f ∷ g ∷ i ∷ xs) (omega arith)) ∙ h in absurd (cc no)

pub constants-made : {c : Text} {items : List NodeField} (made : List NodeField) {f g : NodeField} {ts us : Trees} → items ≡ f ∷ g ∷ [] → plain_field g ≡ statements ts → plain_fields made ≡ (plain_field f then statements us then done) → BecomesBy c constants ts us → BecomesBy c with_constants (plain_fields items) (plain_fields made)
constants-made made {f = f} is held says p names n e =
    ap (λ xs. with_constants (plainly names) n (plain_fields xs)) is ∙ (ap (λ g. with_constants (plainly names) n (plain_field f then g then done)) held ∙ (ap (λ vs. plain_field f then statements vs then done) (p names n e) ∙ sym says))

pub cases-made : {c : Text} {items : List NodeField} (made : List NodeField) {f g : NodeField} {ts us : Trees} → items ≡ f ∷ g ∷ [] → plain_field g ≡ many ts → plain_fields made ≡ (plain_field f then many us then done) → BecomesBy c used_cases ts us → BecomesBy c with_cases (plain_fields items) (plain_fields made)
cases-made made {f = f} is held says p names n e =
    ap (λ xs. with_cases (plainly names) n (plain_fields xs)) is ∙ (ap (λ g. with_cases (plainly names) n (plain_field f then g then done)) held ∙ (ap (λ vs. plain_field f then many vs then done) (p names n e) ∙ sym says))

-- LOOPS

pub head-length : (xs : List NodeField) → uses_in_head (plain_fields xs) ≡ true → length xs ≡ 4
head-length [] h = absurd (cc h)
head-length (f ∷ []) h = let no : false ≡ true = sym (short-head (f ∷ []) (omega arith)) ∙ h in absurd (cc no)
head-length (f ∷ g ∷ []) h = let no : false ≡ true = sym (short-head (f ∷ g ∷ []) (omega arith)) ∙ h in absurd (cc no)
head-length (f ∷ g ∷ i ∷ []) h = let no : false ≡ true = sym (short-head (f ∷ g ∷ i ∷ []) (omega arith)) ∙ h in absurd (cc no)
head-length (f ∷ g ∷ i ∷ j ∷ []) h = refl
head-length (f ∷ g ∷ i ∷ j ∷ k ∷ xs) h = let no : false ≡ true = sym (long-head (f ∷ g ∷ i ∷ j ∷ k ∷ xs) (omega arith)) ∙ h in absurd (cc no)

pub four-fields : {xs ys : List NodeField} {f g h i : NodeField} → ys ≡ xs → length xs ≡ 4 → f ≡ get_or ys 0 f → g ≡ get_or ys 1 g → h ≡ get_or ys 2 h → i ≡ get_or ys 3 i → xs ≡ f ∷ g ∷ h ∷ i ∷ []
four-fields {xs} {ys} {f} {g} {h} {i} same count ef eg eh ei = sym same ∙ by-length ys (ap length same ∙ count) ef eg eh ei
  where
    by-length : (zs : List NodeField) → length zs ≡ 4 → f ≡ get_or zs 0 f → g ≡ get_or zs 1 g → h ≡ get_or zs 2 h → i ≡ get_or zs 3 i → zs ≡ f ∷ g ∷ h ∷ i ∷ []
    by-length [] n df dg dh di = absurd (omega (arith, n))
    by-length (x ∷ []) n df dg dh di = absurd (omega (arith, n))
    by-length (x ∷ y ∷ []) n df dg dh di = absurd (omega (arith, n))
    by-length (x ∷ y ∷ z ∷ []) n df dg dh di = absurd (omega (arith, n))
    by-length (x ∷ y ∷ z ∷ w ∷ []) n df dg dh di = λ j. sym df j ∷ sym dg j ∷ sym dh j ∷ sym di j ∷ []
    by-length (x ∷ y ∷ z ∷ w ∷ v ∷ zs) n df dg dh di = absurd (omega (arith, n))

first-used : (t : Tree) (fs : Fields) → uses_in_head (one t then fs) ≡ true → is_used t ≡ true
first-used t (f then g then h then done) u = u
first-used t _ u = absurd (cc u)

pub head-used : {xs ys : List NodeField} {f : NodeField} {t : Tree} → ys ≡ xs → uses_in_head (plain_fields xs) ≡ true → plain_field f ≡ one t → f ≡ get_or ys 0 f → is_used t ≡ true
head-used {xs} {ys} {f} {t} same u held ef = of-first ys (ap (λ zs. uses_in_head (plain_fields zs)) same ∙ u) ef
  where
    of-first : (zs : List NodeField) → uses_in_head (plain_fields zs) ≡ true → f ≡ get_or zs 0 f → is_used t ≡ true
    of-first [] v e = absurd (cc v)
    of-first (x ∷ zs) v e = first-used t (plain_fields zs) (ap (λ g. uses_in_head (g then plain_fields zs)) (sym held ∙ ap plain_field e) ∙ v)

pub head-made : {c : Text} {items made : List NodeField} {f g h i : NodeField} {t u : Tree} → items ≡ f ∷ g ∷ h ∷ i ∷ [] → plain_field f ≡ one t → made ≡ One u ∷ g ∷ h ∷ i ∷ [] → BecomesBy c used_declaration t u → BecomesBy c used_head (plain_fields items) (plain_fields made)
head-made {g = g} {h = h} {i = i} is held says p names n e =
    ap (λ xs. used_head (plainly names) n (plain_fields xs)) is ∙
    (ap (λ f. used_head (plainly names) n (f then plain_field g then plain_field h then plain_field i then done)) held ∙ (ap (λ v. one v then plain_field g then plain_field h then plain_field i then done) (p names n e) ∙ ap plain_fields (sym says)))
