-- The fields of a node of a valid program are those that its meaning takes.
use Rattle.std.proofs.Common.{◌≡◌, ◌∙◌, inl, inr, ℕ, zero, suc, refl, ap, sym, subst, List, [], ◌∷◌, ◌++◌}
use Rattle.std.proofs.lemmas.Bool.{and_parts, false≢true}
use Rattle.std.proofs.lemmas.List.Folds.{list_any-append}
use Rattle.std.specs.Prelude.{Bool, true, false, not, ◌&&◌, ◌||◌, bytes_eq, codes, if◌then◌else◌}
use Rattle.es_tree.specs.Ancestors.{Ancestor}
use Rattle.es_tree.specs.Fresh.{is_among}
use Rattle.es_tree.specs.HasForm.{element_form, elements_form, field_form, fields_form, has_form, sort_at, sort_before_fields, sort_before_trees, trees_form}
use Rattle.es_tree.specs.Names.{names_if, names_in_fields, names_in_field, names_in_trees}
use Rattle.es_tree.specs.Table.{rest_sort}
use Rattle.es_tree.specs.Tree.{Tree, node, Label, Fields, done, ◌then◌, Field, missing, one, many, statements, Trees, empty, ◌before◌, kind_of}
use Rattle.es_tree.specs.Walks.{all_nodes, all_in_fields, all_in_field, all_in_trees}
use Rattle.es_tree.specs.Words.{Text}
use Rattle.es_tree.specs.declared.ast_type.AstType.{AstType}
use Rattle.es_tree.specs.declared.ast_type.AstType.TheVariants.{ObjectProperty, MetaProperty}
use Rattle.es_tree.specs.declared.table.Entry.{Entry}
use Rattle.es_tree.specs.declared.table.Sort.{Sort}
use Rattle.es_tree.specs.declared.table.Often.TheVariants.{Required, Optional, List as a-List, NonEmptyList, ListWithRest, Statements}
use Rattle.es_tree.specs.declared.table.Content.{Content}
use Rattle.es_tree.specs.declared.table.Content.TheVariants.{Child as c-Child}
use Rattle.es_statement_runs.specs.Helpers.{Supply}
use Rattle.es_statement_runs.specs.Helpers.Supply.{by_global, spread_by_global}
use Rattle.es_statement_runs.specs.Meant.{Spot, Slot, Slots, is_label}
use Rattle.es_statement_runs.specs.Meant.Slot.{required, optional, absent, listed, nonempty, a_key, passed, labelled_by}
use Rattle.es_statement_runs.specs.Meant.Slots.{no_slot, slot, repeated}
use Rattle.es_statement_runs.specs.Programs.{is_statement_kind, is_statement_node}
use Rattle.es_statement_runs.proofs.ValidForm.{Formed, formed, form_at, kind_passes, at_sort, before_sort, of_sort, of_place, of_content, of_entry}
use Rattle.es_statement_runs.proofs.ValidForm.Formed.{formed_required, formed_missing, formed_optional, formed_list, formed_nonempty, formed_rest, formed_statements}
use Rattle.es_statement_runs.proofs.ValidNames.{cells_free, free_among, free_at, free_in}
use Rattle.es_statement_runs.proofs.ValidPlaces.{looks, looks_at}
use Rattle.es_statement_runs.proofs.ValidRules.{Keeps, KeepsAll, KeepsFields, KeepsField, KeepsTrees}
use Rattle.es_statement_runs.proofs.ValidRules.KeepsAll.{keeps_all}
use Rattle.es_statement_runs.proofs.ValidRules.KeepsFields.{keeps_then}
use Rattle.es_statement_runs.proofs.ValidRules.KeepsField.{keeps_one, keeps_many, keeps_statements}
use Rattle.es_statement_runs.proofs.ValidRules.KeepsTrees.{keeps_before}
use Rattle.es_statement_runs.proofs.ValidStands.{Listed, Stands, Within, field_at, first_field, later_fields}

-- THE NAMES OF A TREE, where a program gets its helpers by the object of all helpers

abbrev pub no_supply : Supply → List Text → Bool
no_supply spread_by_global xs = not (is_among xs (codes "babelHelpers"))
no_supply by_global xs = not (is_among xs (codes "babelHelpers"))
no_supply u xs = true

-- WHAT IS KNOWN OF A TREE, and of fields and lists: that the nodes are of the class, that no name is one of the machine's own cells, and that no name is the object of all helpers where a program gets them by it
pub record Known (u : Supply) (a b : Bool) (xs : List Text) : Type 0 where
  pub class : a ≡ true
  pub cells : b ≡ true
  pub names : no_supply u xs ≡ true

not_or : (a b : Bool) → not (a || b) ≡ true → (not a ≡ true) × (not b ≡ true)
not_or true b h = absurd (false≢true h)
not_or false b h = (refl, h)

names_parts : (u : Supply) (xs ys : List Text) → no_supply u (xs ++ ys) ≡ true → (no_supply u xs ≡ true) × (no_supply u ys ≡ true)
names_parts spread_by_global xs ys h = not_or (is_among xs (codes "babelHelpers")) (is_among ys (codes "babelHelpers")) (ap not (sym (list_any-append (λ y. bytes_eq y (codes "babelHelpers")) xs ys)) ∙ h)
names_parts by_global xs ys h = not_or (is_among xs (codes "babelHelpers")) (is_among ys (codes "babelHelpers")) (ap not (sym (list_any-append (λ y. bytes_eq y (codes "babelHelpers")) xs ys)) ∙ h)
names_parts _ xs ys h = (refl, refl)

pub known_first : {u : Supply} (a b c d : Bool) (xs ys : List Text) → Known u (a && b) (c && d) (xs ++ ys) → Known u a c xs
known_first {u} a b c d xs ys h = record { class = (and_parts a b h.class).0; cells = (and_parts c d h.cells).0; names = (names_parts u xs ys h.names).0 }

pub known_second : {u : Supply} (a b c d : Bool) (xs ys : List Text) → Known u (a && b) (c && d) (xs ++ ys) → Known u b d ys
known_second {u} a b c d xs ys h = record { class = (and_parts a b h.class).1; cells = (and_parts c d h.cells).1; names = (names_parts u xs ys h.names).1 }

abbrev pub KnownTree : Supply → Bool → Tree → Type 0
KnownTree u counts t = Known u (all_nodes is_statement_node t) (cells_free t) (names_if counts t)

abbrev pub KnownFields : Supply → (ℕ → Bool) → Fields → Type 0
KnownFields u counts fs = Known u (all_in_fields is_statement_node fs) (free_in counts fs) (names_in_fields counts fs)

abbrev KnownField : Supply → Bool → Field → Type 0
KnownField u counts f = Known u (all_in_field is_statement_node f) (if counts then free_at f else true) (names_in_field counts f)

abbrev KnownTrees : Supply → Trees → Type 0
KnownTrees u ts = Known u (all_in_trees is_statement_node ts) (free_among ts) (names_in_trees ts)

field_known : {u : Supply} (counts : ℕ → Bool) (f : Field) (fs : Fields) → KnownFields u counts (f then fs) → KnownField u (counts zero) f
field_known counts f fs h = known_first (all_in_field is_statement_node f) (all_in_fields is_statement_node fs) (if counts zero then free_at f else true) (free_in (λ n. counts (suc n)) fs) (names_in_field (counts zero) f) (names_in_fields (λ n. counts (suc n)) fs) h

fields_known : {u : Supply} (counts : ℕ → Bool) (f : Field) (fs : Fields) → KnownFields u counts (f then fs) → KnownFields u (λ n. counts (suc n)) fs
fields_known counts f fs h = known_second (all_in_field is_statement_node f) (all_in_fields is_statement_node fs) (if counts zero then free_at f else true) (free_in (λ n. counts (suc n)) fs) (names_in_field (counts zero) f) (names_in_fields (λ n. counts (suc n)) fs) h

tree_known : {u : Supply} (t : Tree) (ts : Trees) → KnownTrees u (t before ts) → KnownTree u true t
tree_known t ts h = known_first (all_nodes is_statement_node t) (all_in_trees is_statement_node ts) (cells_free t) (free_among ts) (names_if true t) (names_in_trees ts) h

trees_known : {u : Supply} (t : Tree) (ts : Trees) → KnownTrees u (t before ts) → KnownTrees u ts
trees_known t ts h = known_second (all_nodes is_statement_node t) (all_in_trees is_statement_node ts) (cells_free t) (free_among ts) (names_if true t) (names_in_trees ts) h

-- A TREE THAT STANDS WELL
pub record TreeOk (u : Supply) (up : List Ancestor) (c : Spot) (ls : List Text) (x : Text) (t : Tree) : Type 0 where
  pub sort : Sort
  pub form : has_form sort t ≡ true
  pub keeps : KeepsAll up t
  pub known : KnownTree u true t
  pub stands : Stands up c ls x t

-- what each slot takes of a field
abbrev pub label_fits : List Text → Field → Bool
label_fits [] missing = true
label_fits (n ∷ []) (one t) = is_label n t
label_fits _ f = false

module _ (u : Supply) where
  abbrev pub TreesOk : List Ancestor → Spot → List Text → Text → Trees → Type 0
  TreesOk up c ls x empty = Unit {0}
  TreesOk up c ls x (t before ts) = TreeOk u up c ls x t × TreesOk up c ls x ts

  abbrev pub FieldOk : Slot → List Ancestor → Spot → List Text → Text → Field → Type 0
  FieldOk required up c ls x (one t) = TreeOk u up c ls x t
  FieldOk optional up c ls x missing = Unit {0}
  FieldOk optional up c ls x (one t) = TreeOk u up c ls x t
  FieldOk absent up c ls x missing = Unit {0}
  FieldOk listed up c ls x (many ts) = TreesOk up c ls x ts
  FieldOk listed up c ls x (statements ts) = TreesOk up c ls x ts
  FieldOk nonempty up c ls x (many (t before ts)) = TreesOk up c ls x (t before ts)
  FieldOk a_key up c ls x (one t) = Unit {0}
  FieldOk passed up c ls x f = Unit {0}
  FieldOk (labelled_by ns) up c ls x f = label_fits ns f ≡ true
  FieldOk _ up c ls x f = ⊥

  abbrev pub FieldsOk : Slots → (ℕ → List Ancestor) → (ℕ → Spot) → List Text → Text → Fields → Type 0
  FieldsOk no_slot at c ls x done = Unit {0}
  FieldsOk no_slot at c ls x (f then fs) = ⊥
  FieldsOk (slot s ss) at c ls x done = ⊥
  FieldsOk (slot s ss) at c ls x (f then fs) = FieldOk s (at zero) (c zero) ls x f × FieldsOk ss (λ i. at (suc i)) (λ i. c (suc i)) ls x fs
  FieldsOk (repeated s) at c ls x done = Unit {0}
  FieldsOk (repeated s) at c ls x (f then fs) = FieldOk s (at zero) (c zero) ls x f × FieldsOk (repeated s) (λ i. at (suc i)) (λ i. c (suc i)) ls x fs

-- SLOTS AND ENTRIES

abbrev pub is_missing : Field → Bool
is_missing missing = true
is_missing f = false

-- whether a slot takes what a field of this content has; counts: whether an identifier there is a name
abbrev pub slot_fits : Slot → Content → Bool → Field → Bool
slot_fits required (c-Child s Required) counts f = counts
slot_fits required (c-Child s Optional) counts f = counts && not (is_missing f)
slot_fits optional (c-Child s Optional) counts f = counts
slot_fits listed (c-Child s a-List) counts f = counts
slot_fits listed (c-Child s NonEmptyList) counts f = counts
slot_fits listed (c-Child s ListWithRest) counts f = counts
slot_fits listed (c-Child s Statements) counts f = counts
slot_fits nonempty (c-Child s NonEmptyList) counts f = counts
slot_fits a_key (c-Child s Required) counts f = true
slot_fits absent (c-Child s Optional) counts f = is_missing f
slot_fits passed (c-Child s o) counts f = true
slot_fits (labelled_by ns) (c-Child s o) counts f = label_fits ns f
slot_fits _ _ counts f = false

abbrev pub slots_fit : Slots → List Entry → (ℕ → Bool) → Fields → Bool
slots_fit no_slot [] counts fs = true
slots_fit (slot s ss) (e ∷ es) counts fs = slot_fits s e.content (counts zero) (first_field fs) && slots_fit ss es (λ i. counts (suc i)) (later_fields fs)
slots_fit (repeated passed) es counts fs = true
slots_fit _ _ counts fs = false

pub passed_ok : (u : Supply) (at : ℕ → List Ancestor) (c : ℕ → Spot) (ls : List Text) (x : Text) (fs : Fields) → FieldsOk u (repeated passed) at c ls x fs
passed_ok u at c ls x done = tt
passed_ok u at c ls x (f then fs) = (tt, passed_ok u (λ i. at (suc i)) (λ i. c (suc i)) ls x fs)

class_kind : (k : AstType) (l : Label) (fs : Fields) → is_statement_node k l fs ≡ true → is_statement_kind k ≡ true
class_kind ObjectProperty l fs h = refl
class_kind MetaProperty l fs h = refl
class_kind _ l fs h = h

tree_kind : (t : Tree) → all_nodes is_statement_node t ≡ true → is_statement_kind (kind_of t) ≡ true
tree_kind (node k l fs) h = class_kind k l fs (and_parts (is_statement_node k l fs) (all_in_fields is_statement_node fs) h).0

pub tree_keeps : {up : List Ancestor} {t : Tree} → KeepsAll up t → Keeps up t
tree_keeps (keeps_all h g) = h

module _ (u : Supply) (up : List Ancestor) (c : Spot) (ls : List Text) (x : Text) where
  -- what a tree of a field needs besides, to stand well
  abbrev Gives : Tree → Type 0
  Gives t = Keeps up t → is_statement_kind (kind_of t) ≡ true → Stands up c ls x t

  one_ok : (s : Sort) (t : Tree) → has_form s t ≡ true → KeepsAll up t → KnownTree u true t → (((P : AstType → Bool) → of_sort P s ≡ true → P (kind_of t) ≡ true) → Gives t) → TreeOk u up c ls x t
  one_ok s t h k d g = record { sort = s; form = h; keeps = k; known = d; stands = g (λ P e. kind_passes P s t h e) (tree_keeps k) (tree_kind t d.class) }

  list_ok : (s last : Sort) (ts : Trees) → trees_form s last ts ≡ true → KeepsTrees up ts → KnownTrees u ts →
      ((t : Tree) → Listed t ts → ((P : AstType → Bool) → of_sort P s ≡ true → of_sort P last ≡ true → P (kind_of t) ≡ true) → Gives t) → TreesOk u up c ls x ts
  list_ok s last empty h k d g = tt
  list_ok s last (t before ts) h (keeps_before k ks) d g =
      let e = and_parts (has_form (sort_before_trees s last ts) t) (trees_form s last ts) h in (
        one_ok (sort_before_trees s last ts) t e.0 k (tree_known t ts d) (λ q. g t (inl refl) (λ P a b. q P (before_sort P s last ts a b))),
        list_ok s last ts e.1 ks (trees_known t ts d) (λ v m q. g v (inr m) q),
      )

  one_known : (counts : Bool) (t : Tree) → counts ≡ true → KnownField u counts (one t) → KnownTree u true t
  one_known counts t e d = subst (λ b. Known u (all_nodes is_statement_node t) (if b then cells_free t else true) (names_if b t)) e d

  list_known : (counts : Bool) (ts : Trees) → counts ≡ true → KnownField u counts (many ts) → KnownTrees u ts
  list_known counts ts e d = subst (λ b. Known u (all_in_trees is_statement_node ts) (if b then free_among ts else true) (names_in_trees ts)) e d

  field_ok : (k : AstType) (l : Label) (s : Slot) (e : Content) (counts : Bool) (f : Field) → slot_fits s e counts f ≡ true → Formed k l e f → KeepsField up f → KnownField u counts f →
      (looks s ≡ true → (t : Tree) → Within t f → ((P : AstType → Bool) → of_content P e ≡ true → P (kind_of t) ≡ true) → Gives t) → FieldOk u s up c ls x f
  field_ok k l required _ counts _ h (formed_required {s} {t} m) (keeps_one w) d g = one_ok (sort_at k l s) t m w (one_known counts t h d) (λ q. g refl t refl (λ P a. q P (at_sort P k l s (and_parts (of_place P s) _ a).0)))
  field_ok k l required _ counts _ h (formed_optional {s} {t} m) (keeps_one w) d g = one_ok (sort_at k l s) t m w (one_known counts t (and_parts counts true h).0 d) (λ q. g refl t refl (λ P a. q P (at_sort P k l s (and_parts (of_place P s) _ a).0)))
  field_ok k l required _ counts _ h (formed_missing) w d g = absurd (false≢true (and_parts counts false h).1)
  field_ok k l optional _ counts _ h (formed_missing) w d g = tt
  field_ok k l optional _ counts _ h (formed_optional {s} {t} m) (keeps_one w) d g = one_ok (sort_at k l s) t m w (one_known counts t h d) (λ q. g refl t refl (λ P a. q P (at_sort P k l s (and_parts (of_place P s) _ a).0)))
  field_ok k l listed _ counts _ h (formed_list {s} {ts} m) (keeps_many w) d g = list_ok s s ts m w (list_known counts ts h d) (λ t i q. g refl t i (λ P a. let b = (and_parts (of_sort P s) true (and_parts (of_place P s) _ a).1).0 in q P b b))
  field_ok k l listed _ counts _ h (formed_nonempty {s} {t} {ts} m) (keeps_many w) d g = list_ok s s (t before ts) m w (list_known counts (t before ts) h d) (λ t i q. g refl t i (λ P a. let b = (and_parts (of_sort P s) true (and_parts (of_place P s) _ a).1).0 in q P b b))
  field_ok k l listed _ counts _ h (formed_rest {s} {ts} m) (keeps_many w) d g = list_ok s (rest_sort s) ts m w (list_known counts ts h d) (λ t i q. g refl t i (λ P a. let b = and_parts (of_sort P s) (of_sort P (rest_sort s)) (and_parts (of_place P s) _ a).1 in q P b.0 b.1))
  field_ok k l listed _ counts _ h (formed_statements {s} {ts} m) (keeps_statements w) d g = list_ok s s ts m w (list_known counts ts h d) (λ t i q. g refl t i (λ P a. let b = (and_parts (of_sort P s) true (and_parts (of_place P s) _ a).1).0 in q P b b))
  field_ok k l nonempty _ counts _ h (formed_nonempty {s} {t} {ts} m) (keeps_many w) d g = list_ok s s (t before ts) m w (list_known counts (t before ts) h d) (λ t i q. g refl t i (λ P a. let b = (and_parts (of_sort P s) true (and_parts (of_place P s) _ a).1).0 in q P b b))
  field_ok k l a_key _ counts _ h (formed_required m) w d g = tt
  field_ok k l absent _ counts _ h (formed_missing) w d g = tt
  field_ok k l passed _ counts _ h m w d g = tt
  field_ok k l (labelled_by ns) _ counts _ h (formed_required m) w d g = h
  field_ok k l (labelled_by ns) _ counts _ h (formed_missing) w d g = h
  field_ok k l (labelled_by ns) _ counts _ h (formed_optional m) w d g = h
  field_ok k l (labelled_by ns) _ counts _ h (formed_list m) w d g = h
  field_ok k l (labelled_by ns) _ counts _ h (formed_nonempty m) w d g = h
  field_ok k l (labelled_by ns) _ counts _ h (formed_rest m) w d g = h
  field_ok k l (labelled_by ns) _ counts _ h (formed_statements m) w d g = h
  field_ok k l _ _ counts _ h m w d g = absurd (false≢true h)

module _ (u : Supply) (ls : List Text) (x : Text) (k : AstType) (l : Label) where
  pub fields_ok : (ss : Slots) (es : List Entry) (fs : Fields) (at : ℕ → List Ancestor) (c : ℕ → Spot) (counts : ℕ → Bool) → slots_fit ss es counts fs ≡ true → fields_form k l es fs ≡ true → KeepsFields at fs → KnownFields u counts fs →
      ((i : ℕ) (t : Tree) → looks_at ss i ≡ true → Within t (field_at i fs) → form_at k l es i fs ≡ true → ((P : AstType → Bool) → of_entry P es i ≡ true → P (kind_of t) ≡ true) → Gives u (at i) (c i) ls x t) → FieldsOk u ss at c ls x fs
  fields_ok no_slot [] done at c counts h m w d g = tt
  fields_ok no_slot [] (f then fs) at c counts h m w d g = absurd (false≢true m)
  fields_ok no_slot (e ∷ es) fs at c counts h m w d g = absurd (false≢true h)
  fields_ok (slot s ss) [] fs at c counts h m w d g = absurd (false≢true h)
  fields_ok (slot s ss) (e ∷ es) done at c counts h m w d g = absurd (false≢true m)
  fields_ok (slot s ss) (e ∷ es) (f then fs) at c counts h m (keeps_then v vs) d g =
      let fit = and_parts (slot_fits s e.content (counts zero) f) (slots_fit ss es (λ i. counts (suc i)) fs) h in
      let form = and_parts (field_form k l e.content f) (fields_form k l es fs) m in (
        field_ok u (at zero) (c zero) ls x k l s e.content (counts zero) f fit.0 (formed k l e.content f form.0) v (field_known counts f fs d) (λ o t i q. g zero t o i form.0 q),
        fields_ok ss es fs (λ i. at (suc i)) (λ i. c (suc i)) (λ i. counts (suc i)) fit.1 form.1 vs (fields_known counts f fs d) (λ i t o j p q. g (suc i) t o j p q),
      )
  fields_ok (repeated passed) es fs at c counts h m w d g = passed_ok u at c ls x fs
  fields_ok (repeated _) es fs at c counts h m w d g = absurd (false≢true h)

  element_ok : (s : Sort) (f : Field) (up : List Ancestor) (c : Spot) → element_form s f ≡ true → KeepsField up f → KnownField u true f →
      ((t : Tree) → Within t f → ((P : AstType → Bool) → of_sort P s ≡ true → P (kind_of t) ≡ true) → Gives u up c ls x t) → FieldOk u optional up c ls x f
  element_ok s missing up c h w d g = tt
  element_ok s (one t) up c h (keeps_one w) d g = one_ok u up c ls x s t h w d (λ q. g t refl q)
  element_ok s (many ts) up c h w d g = absurd (false≢true h)
  element_ok s (statements ts) up c h w d g = absurd (false≢true h)

  before_field : (P : AstType → Bool) (s last : Sort) (fs : Fields) → of_sort P s ≡ true → of_sort P last ≡ true → of_sort P (sort_before_fields s last fs) ≡ true
  before_field P s last done a b = b
  before_field P s last (f then fs) a b = a

  pub elements_ok : (s last : Sort) (fs : Fields) (at : ℕ → List Ancestor) (c : ℕ → Spot) (counts : ℕ → Bool) → ((i : ℕ) → counts i ≡ true) → elements_form s last fs ≡ true → KeepsFields at fs → KnownFields u counts fs →
      ((i : ℕ) (t : Tree) → Within t (field_at i fs) → ((P : AstType → Bool) → (of_sort P s && of_sort P last) ≡ true → P (kind_of t) ≡ true) → Gives u (at i) (c i) ls x t) → FieldsOk u (repeated optional) at c ls x fs
  elements_ok s last done at c counts a m w d g = tt
  elements_ok s last (f then fs) at c counts a m (keeps_then v vs) d g =
      let form = and_parts (element_form (sort_before_fields s last fs) f) (elements_form s last fs) m in (
        element_ok (sort_before_fields s last fs) f (at zero) (c zero) form.0 v (subst (λ b. KnownField u b f) (a zero) (field_known counts f fs d))
            (λ t i q. g zero t i (λ P b. let both = and_parts (of_sort P s) (of_sort P last) b in q P (before_field P s last fs both.0 both.1))),
        elements_ok s last fs (λ i. at (suc i)) (λ i. c (suc i)) (λ i. counts (suc i)) (λ i. a (suc i)) form.1 vs (fields_known counts f fs d) (λ i t j q. g (suc i) t j q),
      )
