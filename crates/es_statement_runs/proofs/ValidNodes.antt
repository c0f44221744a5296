-- The fields of each kind fit its slots, so those of a node of a valid program are what its meaning takes.
use Rattle.std.proofs.Common.{◌≡◌, ℕ, suc, refl, ap, sym, subst, List, [], ◌∷◌}
use Rattle.std.proofs.lemmas.Bool.{and_parts, and_from, false≢true, or_parts, true≢false}
use Rattle.std.specs.Prelude.{Bool, true, false, Option, Some, None, if◌then◌else◌}
use Rattle.es_tree.specs.Ancestors.{Ancestor, ancestor}
use Rattle.es_tree.specs.Attributes.{child_entries}
use Rattle.es_tree.specs.HasForm.{ElementsPlace, elements_form, elements_of, field_form, fields_form, match_option}
use Rattle.es_tree.specs.Names.{first_text, flag_at, is_name_place, is_reexport, names_in_fields}
use Rattle.es_tree.specs.StaticRules.{has_node}
use Rattle.es_tree.specs.Tree.{Tree, node, Label, Fields, done, ◌then◌, Field, missing, one, many, statements, kind_of}
use Rattle.es_tree.specs.Walks.{all_in_fields}
use Rattle.es_tree.specs.Words.{Text}
use Rattle.es_tree.specs.declared.ast_type.AstType.{AstType}
use Rattle.es_tree.specs.declared.ast_type.AstType.TheVariants.{VariableDeclarator, BreakStatement, ContinueStatement, LabeledStatement, ExportNamedDeclaration, Identifier, ArrayExpression, ObjectProperty, MemberExpression, PatternProperty, ArrayPattern, TargetProperty, ArrayTarget}
use Rattle.es_tree.specs.declared.table.Entry.{Entry}
use Rattle.es_tree.specs.declared.table.Sort.{Sort}
use Rattle.es_tree.specs.declared.table.Sort.TheVariants.{Identifier as s-Identifier, Expression as s-Expression}
use Rattle.es_tree.specs.declared.table.Often.TheVariants.{Required, Optional}
use Rattle.es_tree.specs.declared.table.Content.TheVariants.{Child as c-Child}
use Rattle.es_runs.proofs.Temporary.{bytes_eq-self}
use Rattle.es_runs.specs.Core.{flag}
use Rattle.es_statement_runs.specs.Helpers.{Supply}
use Rattle.es_statement_runs.specs.Kinds.{label_in}
use Rattle.es_statement_runs.specs.Meant.{Spot, Slots, slots, spots, key_slot, value_slot, labels_in, word_in, named_label, has_value}
use Rattle.es_statement_runs.specs.Meant.Slot.{optional}
use Rattle.es_statement_runs.specs.Meant.Slots.{repeated}
use Rattle.es_statement_runs.specs.Names.{own_use}
use Rattle.es_statement_runs.specs.Programs.{is_statement_node}
use Rattle.es_statement_runs.proofs.ValidFields.{Known, KnownFields, FieldsOk, elements_ok, fields_ok, label_fits, passed_ok, slot_fits, slots_fit}
use Rattle.es_statement_runs.proofs.ValidForm.{Child, kind_passes}
use Rattle.es_statement_runs.proofs.ValidNames.{free_in}
use Rattle.es_statement_runs.proofs.ValidPlaces.{inner, looks_at}
use Rattle.es_statement_runs.proofs.ValidRules.{Keeps, KeepsAll, KeepsFields, is_crowded}
use Rattle.es_statement_runs.proofs.ValidRules.KeepsAll.{keeps_all}
use Rattle.es_statement_runs.proofs.ValidStands.{Stands, field_at, first_field}

-- EACH KIND'S SLOTS FIT ITS ENTRIES

data FitsBy (ss : Slots) (es : List Entry) (counts : ℕ → Bool) (fs : Fields) : Option ElementsPlace → Type 0 where
  by_fields : slots_fit ss es counts fs ≡ true → FitsBy ss es counts fs None
  by_elements : {p : ElementsPlace} → ss ≡ repeated optional → ((i : ℕ) → counts i ≡ true) → FitsBy ss es counts fs (Some p)

key_fits : (s : Sort) (b : Bool) (f : Field) → slot_fits (key_slot b) (c-Child s Required) b f ≡ true
key_fits s true f = refl
key_fits s false f = refl

pub first_flag : (bs : List Bool) → flag bs ≡ flag_at 0 bs
first_flag [] = refl
first_flag (b ∷ bs) = refl

member_key_fits : (s : Sort) (bs : List Bool) (f : Field) → slot_fits (key_slot (flag bs)) (c-Child s Required) (flag_at 0 bs) f ≡ true
member_key_fits s bs f = subst (λ b. slot_fits (key_slot b) (c-Child s Required) (flag_at 0 bs) f ≡ true) (sym (first_flag bs)) (key_fits s (flag_at 0 bs) f)

value_fits : (l : Label) (s : Sort) (fs : Fields) → fields_form VariableDeclarator l (child_entries VariableDeclarator) fs ≡ true → slot_fits (value_slot (has_value VariableDeclarator fs)) (c-Child s Optional) true (field_at 1 fs) ≡ true
value_fits l s (f then (missing then fs)) h = refl
value_fits l s (f then (one t then fs)) h = refl
value_fits l s (f then (many ts then fs)) h = refl
value_fits l s (f then (statements ts then fs)) h = refl
value_fits l s (f then done) h = absurd (false≢true (and_parts _ false h).1)
value_fits l s done h = absurd (false≢true h)

-- the label that a field names
abbrev label_text : Field → List Text
label_text (one (node k l fs)) = first_text l.texts ∷ []
label_text f = []

abbrev is_identifier : AstType → Bool
is_identifier Identifier = true
is_identifier _ = false

own_label : (t : Tree) → is_identifier (kind_of t) ≡ true → label_fits (label_text (one t)) (one t) ≡ true
own_label (node Identifier l fs) h = bytes_eq-self (first_text l.texts)
own_label (node _ l fs) h = absurd (false≢true h)

maybe_label : (k : AstType) (l : Label) (f : Field) → field_form k l (c-Child s-Identifier Optional) f ≡ true → label_fits (label_text f) f ≡ true
maybe_label k l missing h = refl
maybe_label k l (one t) h = own_label t (kind_passes is_identifier s-Identifier t h refl)
maybe_label k l (many ts) h = absurd (false≢true h)
maybe_label k l (statements ts) h = absurd (false≢true h)

sure_label : (k : AstType) (l : Label) (f : Field) → field_form k l (c-Child s-Identifier Required) f ≡ true → label_fits (label_text f) f ≡ true
sure_label k l missing h = absurd (false≢true h)
sure_label k l (one t) h = own_label t (kind_passes is_identifier s-Identifier t h refl)
sure_label k l (many ts) h = absurd (false≢true h)
sure_label k l (statements ts) h = absurd (false≢true h)

break_label : (l : Label) (fs : Fields) → fields_form BreakStatement l (child_entries BreakStatement) fs ≡ true → label_fits (named_label BreakStatement fs) (first_field fs) ≡ true
break_label l (one (node k m gs) then fs) h = maybe_label BreakStatement l (one (node k m gs)) (and_parts (field_form BreakStatement l (c-Child s-Identifier Optional) (one (node k m gs))) _ h).0
break_label l (missing then fs) h = refl
break_label l (many ts then fs) h = absurd (false≢true h)
break_label l (statements ts then fs) h = absurd (false≢true h)
break_label l done h = absurd (false≢true h)

continue_label : (l : Label) (fs : Fields) → fields_form ContinueStatement l (child_entries ContinueStatement) fs ≡ true → label_fits (named_label ContinueStatement fs) (first_field fs) ≡ true
continue_label l (one (node k m gs) then fs) h = maybe_label ContinueStatement l (one (node k m gs)) (and_parts (field_form ContinueStatement l (c-Child s-Identifier Optional) (one (node k m gs))) _ h).0
continue_label l (missing then fs) h = refl
continue_label l (many ts then fs) h = absurd (false≢true h)
continue_label l (statements ts then fs) h = absurd (false≢true h)
continue_label l done h = absurd (false≢true h)

statement_label : (l : Label) (fs : Fields) → fields_form LabeledStatement l (child_entries LabeledStatement) fs ≡ true → label_fits (label_in LabeledStatement fs) (first_field fs) ≡ true
statement_label l (one (node k m gs) then fs) h = sure_label LabeledStatement l (one (node k m gs)) (and_parts (field_form LabeledStatement l (c-Child s-Identifier Required) (one (node k m gs))) _ h).0
statement_label l (missing then fs) h = absurd (false≢true h)
statement_label l (many ts then fs) h = absurd (false≢true h)
statement_label l (statements ts then fs) h = absurd (false≢true h)
statement_label l done h = absurd (false≢true h)

abbrev pub FormOf : AstType → Label → Fields → Type 0
FormOf k l fs = match_option (elements_of (child_entries k)) (fields_form k l (child_entries k) fs) (λ p. elements_form p.sort p.last fs) ≡ true

kind_fits : (k : AstType) (l : Label) (fs : Fields) → FormOf k l fs → FitsBy (slots k l.flags (has_value k fs) (named_label k fs)) (child_entries k) (is_name_place k l) fs (elements_of (child_entries k))
kind_fits VariableDeclarator l fs h = by_fields (and_from (slot_fits (value_slot (has_value VariableDeclarator fs)) (c-Child s-Expression Optional) true (field_at 1 fs)) true (value_fits l s-Expression fs h) refl)
kind_fits BreakStatement l fs h = by_fields (and_from (label_fits (named_label BreakStatement fs) (first_field fs)) true (break_label l fs h) refl)
kind_fits ContinueStatement l fs h = by_fields (and_from (label_fits (named_label ContinueStatement fs) (first_field fs)) true (continue_label l fs h) refl)
kind_fits LabeledStatement l fs h = by_fields (and_from (label_fits (label_in LabeledStatement fs) (first_field fs)) true (statement_label l fs h) refl)
kind_fits ObjectProperty l fs h = by_fields (and_from (slot_fits (key_slot (flag_at 2 l.flags)) _ (flag_at 2 l.flags) (first_field fs)) true (key_fits _ (flag_at 2 l.flags) (first_field fs)) refl)
kind_fits PatternProperty l fs h = by_fields (and_from (slot_fits (key_slot (flag_at 1 l.flags)) _ (flag_at 1 l.flags) (first_field fs)) true (key_fits _ (flag_at 1 l.flags) (first_field fs)) refl)
kind_fits TargetProperty l fs h = by_fields (and_from (slot_fits (key_slot (flag_at 1 l.flags)) _ (flag_at 1 l.flags) (first_field fs)) true (key_fits _ (flag_at 1 l.flags) (first_field fs)) refl)
kind_fits MemberExpression l fs h = by_fields (and_from (slot_fits (key_slot (flag l.flags)) _ (flag_at 0 l.flags) (field_at 1 fs)) true (member_key_fits _ l.flags (field_at 1 fs)) refl)
kind_fits ArrayExpression l fs h = by_elements refl (λ i. refl)
kind_fits ArrayPattern l fs h = by_elements refl (λ i. refl)
kind_fits ArrayTarget l fs h = by_elements refl (λ i. refl)
kind_fits _ l fs h = by_fields refl

-- EXPORTS FROM ANOTHER MODULE have no declaration
reexport_ok : (u : Supply) (at : ℕ → List Ancestor) (c : ℕ → Spot) (ls : List Text) (x : Text) (k : AstType) (l : Label) (fs : Fields) (b : Bool) (ns : List Text) → is_reexport k fs ≡ true → is_crowded (node k l fs) ≡ false → FormOf k l fs →
    FieldsOk u (slots k l.flags b ns) at c ls x fs
reexport_ok u at c ls x ExportNamedDeclaration l (missing then fs) b ns h g m = (tt, passed_ok u (λ i. at (suc i)) (λ i. c (suc i)) ls x fs)
reexport_ok u at c ls x ExportNamedDeclaration l (one t then (f then (one v then fs))) b ns h g m = absurd (true≢false (or_parts (has_node f) true g).1)
reexport_ok u at c ls x ExportNamedDeclaration l (one t then (f then (missing then fs))) b ns h g m = absurd (false≢true h)
reexport_ok u at c ls x ExportNamedDeclaration l (one t then (f then (many ts then fs))) b ns h g m = absurd (false≢true h)
reexport_ok u at c ls x ExportNamedDeclaration l (one t then (f then (statements ts then fs))) b ns h g m = absurd (false≢true h)
reexport_ok u at c ls x ExportNamedDeclaration l (one t then (f then done)) b ns h g m = absurd (false≢true h)
reexport_ok u at c ls x ExportNamedDeclaration l (one t then done) b ns h g m = absurd (false≢true h)
reexport_ok u at c ls x ExportNamedDeclaration l (many ts then fs) b ns h g m = absurd (false≢true m)
reexport_ok u at c ls x ExportNamedDeclaration l (statements ts then fs) b ns h g m = absurd (false≢true m)
reexport_ok u at c ls x ExportNamedDeclaration l done b ns h g m = absurd (false≢true h)
reexport_ok u at c ls x _ l fs b ns h g m = absurd (false≢true h)

-- THE FIELDS OF A NODE

pub record NodeOk (u : Supply) (c : Spot) (ls : List Text) (k : AstType) (l : Label) (fs : Fields) : Type 0 where
  pub at : ℕ → List Ancestor
  pub fields : FieldsOk u (slots k l.flags (has_value k fs) (named_label k fs)) at (spots c k l.texts (own_use k fs) (has_value k fs) (named_label k fs) ls) (labels_in k (named_label k fs) ls) (word_in k l.texts) fs

module _ (u : Supply) (up : List Ancestor) (c : Spot) (ls : List Text) (x : Text) (k : AstType) (l : Label) (fs : Fields) (n : ℕ) where
  abbrev At : ℕ → List Ancestor
  At i = ancestor k l fs i n ∷ up

  abbrev Places : ℕ → Spot
  Places i = spots c k l.texts (own_use k fs) (has_value k fs) (named_label k fs) ls i

  abbrev Ss : Slots
  Ss = slots k l.flags (has_value k fs) (named_label k fs)

  children_ok : (o : Option ElementsPlace) → FitsBy Ss (child_entries k) (is_name_place k l) fs o → match_option o (fields_form k l (child_entries k) fs) (λ p. elements_form p.sort p.last fs) ≡ true → KeepsFields At fs → KnownFields u (is_name_place k l) fs →
      ((i : ℕ) (t : Tree) → looks_at Ss i ≡ true → Child o (child_entries k) (At i) k l fs i t → Stands (At i) (Places i) (labels_in k (named_label k fs) ls) (word_in k l.texts) t) →
      FieldsOk u Ss At Places (labels_in k (named_label k fs) ls) (word_in k l.texts) fs
  children_ok None (by_fields h) m w d g =
      fields_ok u (labels_in k (named_label k fs) ls) (word_in k l.texts) k l Ss (child_entries k) fs At Places (is_name_place k l) h m w d
      (λ i t o j p q v e. g i t o (record { within = j; form = p; kinds = q; kept = v; class = e }))
  children_ok (Some p) (by_elements h a) m w d g =
      subst (λ (ss : Slots). FieldsOk u ss At Places (labels_in k (named_label k fs) ls) (word_in k l.texts) fs) (sym h)
      (elements_ok u (labels_in k (named_label k fs) ls) (word_in k l.texts) k l p.sort p.last fs At Places (is_name_place k l) a m w d
      (λ i t j q v e. g i t (ap (λ (ss : Slots). looks_at ss i) h) (record { within = j; form = refl; kinds = q; kept = v; class = e })))

  fields_of_node : (b : Bool) → is_reexport k fs ≡ b → FormOf k l fs → Keeps up (node k l fs) → KeepsFields At fs → Known u (all_in_fields is_statement_node fs) (if b then true else free_in (is_name_place k l) fs) (if b then [] else names_in_fields (is_name_place k l) fs) → Stands up c ls x (node k l fs) →
      FieldsOk u Ss At Places (labels_in k (named_label k fs) ls) (word_in k l.texts) fs
  fields_of_node true e m w ws d s = reexport_ok u At Places (labels_in k (named_label k fs) ls) (word_in k l.texts) k l fs (has_value k fs) (named_label k fs) e w.export m
  fields_of_node false e m w ws d s = children_ok (elements_of (child_entries k)) (kind_fits k l fs m) m ws d (λ i t o h. inner l fs up n c ls x k i t m s w o h)

pub node_ok : (u : Supply) (up : List Ancestor) (c : Spot) (ls : List Text) (x : Text) (k : AstType) (l : Label) (fs : Fields) → KeepsAll up (node k l fs) → FormOf k l fs →
    Known u (all_in_fields is_statement_node fs) (if is_reexport k fs then true else free_in (is_name_place k l) fs) (if is_reexport k fs then [] else names_in_fields (is_name_place k l) fs) → Stands up c ls x (node k l fs) → NodeOk u c ls k l fs
node_ok u up c ls x k l fs (keeps_all {n = n} w ws) m d s = record { at = λ i. ancestor k l fs i n ∷ up; fields = fields_of_node u up c ls x k l fs n (is_reexport k fs) refl m w ws d s }
