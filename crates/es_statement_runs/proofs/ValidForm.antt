-- What form says of the fields of a node, and of what stands in each.
use Rattle.std.proofs.Common.{◌≡◌, ℕ, zero, suc, refl, List, [], ◌∷◌}
use Rattle.std.proofs.lemmas.Bool.{and_parts}
use Rattle.std.specs.List.{list_all}
use Rattle.std.specs.Prelude.{Bool, true, false, ◌&&◌, Option, Some, None, if◌then◌else◌}
use Rattle.es_tree.specs.Ancestors.{Ancestor}
use Rattle.es_tree.specs.HasForm.{ElementsPlace, match_option, has_form, field_form, trees_form, is_computed, is_in, sort_at, sort_before_trees}
use Rattle.es_tree.specs.Table.{kinds_of, rest_sort}
use Rattle.es_tree.specs.Tree.{Tree, node, Label, Fields, Field, missing, one, many, statements, Trees, empty, ◌before◌, kind_of}
use Rattle.es_tree.specs.declared.ast_type.AstType.{AstType}
use Rattle.es_tree.specs.declared.table.Entry.{Entry}
use Rattle.es_tree.specs.declared.table.Sort.{Sort}
use Rattle.es_tree.specs.declared.table.Sort.TheVariants.{Expression as s-Expression, PropertyKey as s-PropertyKey, MemberProperty as s-MemberProperty, BinaryLeft as s-BinaryLeft}
use Rattle.es_tree.specs.declared.table.Often.{Often}
use Rattle.es_tree.specs.declared.table.Often.TheVariants.{Required, Optional, List as a-List, NonEmptyList, ListWithRest, Statements}
use Rattle.es_tree.specs.declared.table.Content.{Content}
use Rattle.es_tree.specs.declared.table.Content.TheVariants.{Child as c-Child}
use Rattle.es_tree.proofs.CoreBreaks.{among_kinds}
use Rattle.es_tree.proofs.NodeForm.{node_form}
use Rattle.es_statement_runs.specs.Programs.{is_statement_kind}
use Rattle.es_statement_runs.proofs.ValidRules.{Keeps}
use Rattle.es_statement_runs.proofs.ValidStands.{first_field, later_fields, field_at, Within}

-- KINDS BY THE TABLE: what holds of all kinds that may stand in a field

abbrev pub of_sort : (AstType → Bool) → Sort → Bool
of_sort P s = list_all P (kinds_of s)

-- a computed key or property is any expression, and so is a left side but of `in`
abbrev pub of_place : (AstType → Bool) → Sort → Bool
of_place P s-PropertyKey = of_sort P s-PropertyKey && of_sort P s-Expression
of_place P s-MemberProperty = of_sort P s-MemberProperty && of_sort P s-Expression
of_place P s-BinaryLeft = of_sort P s-BinaryLeft && of_sort P s-Expression
of_place P s = of_sort P s

abbrev pub of_last : (AstType → Bool) → Sort → Often → Bool
of_last P s ListWithRest = of_sort P (rest_sort s)
of_last P s o = true

abbrev pub of_content : (AstType → Bool) → Content → Bool
of_content P (c-Child s o) = of_place P s && (of_sort P s && of_last P s o)
of_content P c = true

abbrev pub of_entry : (AstType → Bool) → List Entry → ℕ → Bool
of_entry P [] i = true
of_entry P (e ∷ es) zero = of_content P e.content
of_entry P (e ∷ es) (suc i) = of_entry P es i

abbrev pub of_entries : (AstType → Bool) → List Entry → Bool
of_entries P [] = true
of_entries P (e ∷ es) = of_content P e.content && of_entries P es

of_each : (P : AstType → Bool) (es : List Entry) (i : ℕ) → of_entries P es ≡ true → of_entry P es i ≡ true
of_each P [] i h = refl
of_each P (e ∷ es) zero h = (and_parts (of_content P e.content) (of_entries P es) h).0
of_each P (e ∷ es) (suc i) h = of_each P es i (and_parts (of_content P e.content) (of_entries P es) h).1

-- the form of the field with this number
abbrev pub form_at : AstType → Label → List Entry → ℕ → Fields → Bool
form_at k l [] i fs = true
form_at k l (e ∷ es) zero fs = field_form k l e.content (first_field fs)
form_at k l (e ∷ es) (suc i) fs = form_at k l es i (later_fields fs)

-- a tree in the field with this number of a node with these entries, or with these elements
pub record Child (o : Option ElementsPlace) (es : List Entry) (up : List Ancestor) (k : AstType) (l : Label) (fs : Fields) (i : ℕ) (t : Tree) : Type 0 where
  pub within : Within t (field_at i fs)
  pub form : match_option o (form_at k l es i fs) (λ p. true) ≡ true
  pub kinds : (P : AstType → Bool) → match_option o (of_entry P es i) (λ p. of_sort P p.sort && of_sort P p.last) ≡ true → P (kind_of t) ≡ true
  pub kept : Keeps up t
  pub class : is_statement_kind (kind_of t) ≡ true

pub every : {o : Option ElementsPlace} {es : List Entry} {up : List Ancestor} {k : AstType} {l : Label} {fs : Fields} {i : ℕ} {t : Tree} → Child o es up k l fs i t → (P : AstType → Bool) → match_option o (of_entries P es) (λ p. of_sort P p.sort && of_sort P p.last) ≡ true → P (kind_of t) ≡ true
every {o} {es} {i} {t} h P g = at o h.kinds g
  where
    at : (q : Option ElementsPlace) → ((Q : AstType → Bool) → match_option q (of_entry Q es i) (λ p. of_sort Q p.sort && of_sort Q p.last) ≡ true → Q (kind_of t) ≡ true) → match_option q (of_entries P es) (λ p. of_sort P p.sort && of_sort P p.last) ≡ true → P (kind_of t) ≡ true
    at None f e = f P (of_each P es i e)
    at (Some p) f e = f P e

-- FORM BY SHAPES

pub data Formed (k : AstType) (l : Label) : Content → Field → Type 0 where
  formed_required : {s : Sort} {t : Tree} → has_form (sort_at k l s) t ≡ true → Formed k l (c-Child s Required) (one t)
  formed_missing : {s : Sort} → Formed k l (c-Child s Optional) missing
  formed_optional : {s : Sort} {t : Tree} → has_form (sort_at k l s) t ≡ true → Formed k l (c-Child s Optional) (one t)
  formed_list : {s : Sort} {ts : Trees} → trees_form s s ts ≡ true → Formed k l (c-Child s a-List) (many ts)
  formed_nonempty : {s : Sort} {t : Tree} {ts : Trees} → trees_form s s (t before ts) ≡ true → Formed k l (c-Child s NonEmptyList) (many (t before ts))
  formed_rest : {s : Sort} {ts : Trees} → trees_form s (rest_sort s) ts ≡ true → Formed k l (c-Child s ListWithRest) (many ts)
  formed_statements : {s : Sort} {ts : Trees} → trees_form s s ts ≡ true → Formed k l (c-Child s Statements) (statements ts)

pub formed : (k : AstType) (l : Label) (c : Content) (f : Field) → field_form k l c f ≡ true → Formed k l c f
formed k l (c-Child s Required) (one t) h = formed_required h
formed k l (c-Child s Optional) missing h = formed_missing
formed k l (c-Child s Optional) (one t) h = formed_optional h
formed k l (c-Child s a-List) (many ts) h = formed_list h
formed k l (c-Child s NonEmptyList) (many (t before ts)) h = formed_nonempty h
formed k l (c-Child s ListWithRest) (many ts) h = formed_rest h
formed k l (c-Child s Statements) (statements ts) h = formed_statements h
formed k l _ _ h = absurd (cc h)

-- A TREE THAT HAS FORM is of a kind that passes what all kinds of its sort do

pub kind_passes : (P : AstType → Bool) (s : Sort) (t : Tree) → has_form s t ≡ true → of_sort P s ≡ true → P (kind_of t) ≡ true
kind_passes P s (node k l fs) h g = among_kinds P k (kinds_of s) (node_form s k l fs h).sort g

either_sort : (P : AstType → Bool) (b : Bool) (s u : Sort) → of_sort P s ≡ true → of_sort P u ≡ true → of_sort P (if b then s else u) ≡ true
either_sort P true s u h g = h
either_sort P false s u h g = g

pub at_sort : (P : AstType → Bool) (k : AstType) (l : Label) (s : Sort) → of_place P s ≡ true → of_sort P (sort_at k l s) ≡ true
at_sort P k l s-PropertyKey h = let d = and_parts (of_sort P s-PropertyKey) (of_sort P s-Expression) h in either_sort P (is_computed k l) s-Expression s-PropertyKey d.1 d.0
at_sort P k l s-MemberProperty h = let d = and_parts (of_sort P s-MemberProperty) (of_sort P s-Expression) h in either_sort P (is_computed k l) s-Expression s-MemberProperty d.1 d.0
at_sort P k l s-BinaryLeft h = let d = and_parts (of_sort P s-BinaryLeft) (of_sort P s-Expression) h in either_sort P (is_in k l) s-BinaryLeft s-Expression d.0 d.1
at_sort P k l _ h = h

pub before_sort : (P : AstType → Bool) (s last : Sort) (ts : Trees) → of_sort P s ≡ true → of_sort P last ≡ true → of_sort P (sort_before_trees s last ts) ≡ true
before_sort P s last empty h g = g
before_sort P s last (t before ts) h g = h
