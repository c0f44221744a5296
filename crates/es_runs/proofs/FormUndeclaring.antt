-- In a core program that has form declarations and links of chains stand where they belong.
use Rattle.std.proofs.Common.{◌≡◌, refl, ap, ◌∙◌, List, [], ◌∷◌}
use Rattle.std.proofs.lemmas.Bool.{and_from}
use Rattle.std.specs.List.{list_all}
use Rattle.std.specs.Prelude.{Bool, true, false, ◌&&◌, if◌then◌else◌, None}
use Rattle.es_tree.specs.Attributes.{child_entries}
use Rattle.es_tree.specs.Bare.{bare, bare_fields, bare_field, bare_trees}
use Rattle.es_tree.specs.Core.{is_core_kind, is_core_node, IsCoreProgram}
use Rattle.es_tree.specs.HasForm.{elements_of, has_form, fields_form, field_form, trees_form, is_computed, is_in, sort_at, sort_before_trees}
use Rattle.es_tree.specs.Table.{kinds_of, rest_sort}
use Rattle.es_tree.specs.Tree.{Tree, node, Label, Fields, done, ◌then◌, Field, missing, one, many, statements, Trees, empty, ◌before◌, kind_of}
use Rattle.es_tree.specs.Walks.{all_nodes, all_in_fields, all_in_field, all_in_trees}
use Rattle.es_tree.specs.declared.ast_type.AstType.{AstType}
use Rattle.es_tree.specs.declared.ast_type.AstType.TheVariants.{Program, Directive, ExpressionStatement, VariableDeclaration, VariableDeclarator, Identifier, ThisExpression, NullLiteral, BooleanLiteral, NumericLiteral, BigIntLiteral, StringLiteral, UnaryExpression, UpdateExpression, BinaryExpression, LogicalExpression, ConditionalExpression, AssignmentExpression, SequenceExpression, MemberExpression, CallExpression, NewExpression, ChainExpression, ParenthesizedExpression}
use Rattle.es_tree.specs.declared.table.Entry.{Entry}
use Rattle.es_tree.specs.declared.table.Sort.{Sort}
use Rattle.es_tree.specs.declared.table.Sort.TheVariants.{Program as s-Program, Expression as s-Expression, PropertyKey as s-PropertyKey, MemberProperty as s-MemberProperty, BinaryLeft as s-BinaryLeft}
use Rattle.es_tree.specs.declared.table.Often.TheVariants.{Required, Optional, List as a-List, NonEmptyList, ListWithRest, Statements}
use Rattle.es_tree.specs.declared.table.Content.{Content}
use Rattle.es_tree.specs.declared.table.Content.TheVariants.{Child as c-Child}
use Rattle.es_tree.proofs.CoreBreaks.{among_kinds, core_kind, plain_form}
use Rattle.es_tree.proofs.NodeForm.{node_form}
use Rattle.es_runs.specs.Standing.{begins_with_one, field_stands, fields_stand, is_end, is_formed, is_lone, is_single, may_stand, trees_stand, undeclaring}
use Rattle.es_runs.proofs.BareTrees.{all-bare}
use Rattle.es_runs.proofs.Named.{and_left, and_right}

-- KINDS BY THE TABLE

abbrev sort_stands : AstType → Sort → Bool
sort_stands k s = list_all (may_stand k) (kinds_of s)

-- a computed key or property is any expression, and so is a left side but of `in`
abbrev place_sort_stands : AstType → Sort → Bool
place_sort_stands k s-PropertyKey = sort_stands k s-PropertyKey && sort_stands k s-Expression
place_sort_stands k s-MemberProperty = sort_stands k s-MemberProperty && sort_stands k s-Expression
place_sort_stands k s-BinaryLeft = sort_stands k s-BinaryLeft && sort_stands k s-Expression
place_sort_stands k s = sort_stands k s

-- whatever may stand in the field by the table may stand in the kind
abbrev content_stands : AstType → Content → Bool
content_stands k (c-Child s o) = place_sort_stands k s && (sort_stands k s && sort_stands k (rest_sort s))
content_stands k _ = true

abbrev entries_stand : AstType → List Entry → Bool
entries_stand k [] = true
entries_stand k (e ∷ es) = content_stands k e.content && entries_stand k es

record CoreEntries (k : AstType) : Type 0 where
  entries : entries_stand k (child_entries k) ≡ true
  no_elements : elements_of (child_entries k) ≡ None

core_entries : (k : AstType) → is_core_kind k ≡ true → CoreEntries k
core_entries Program c = record { entries = refl; no_elements = refl }
core_entries Directive c = record { entries = refl; no_elements = refl }
core_entries ExpressionStatement c = record { entries = refl; no_elements = refl }
core_entries VariableDeclaration c = record { entries = refl; no_elements = refl }
core_entries VariableDeclarator c = record { entries = refl; no_elements = refl }
core_entries Identifier c = record { entries = refl; no_elements = refl }
core_entries ThisExpression c = record { entries = refl; no_elements = refl }
core_entries NullLiteral c = record { entries = refl; no_elements = refl }
core_entries BooleanLiteral c = record { entries = refl; no_elements = refl }
core_entries NumericLiteral c = record { entries = refl; no_elements = refl }
core_entries BigIntLiteral c = record { entries = refl; no_elements = refl }
core_entries StringLiteral c = record { entries = refl; no_elements = refl }
core_entries UnaryExpression c = record { entries = refl; no_elements = refl }
core_entries UpdateExpression c = record { entries = refl; no_elements = refl }
core_entries BinaryExpression c = record { entries = refl; no_elements = refl }
core_entries LogicalExpression c = record { entries = refl; no_elements = refl }
core_entries ConditionalExpression c = record { entries = refl; no_elements = refl }
core_entries AssignmentExpression c = record { entries = refl; no_elements = refl }
core_entries SequenceExpression c = record { entries = refl; no_elements = refl }
core_entries MemberExpression c = record { entries = refl; no_elements = refl }
core_entries CallExpression c = record { entries = refl; no_elements = refl }
core_entries NewExpression c = record { entries = refl; no_elements = refl }
core_entries ChainExpression c = record { entries = refl; no_elements = refl }
core_entries ParenthesizedExpression c = record { entries = refl; no_elements = refl }
core_entries _ c = absurd (cc c)

of_sort_stands : (k : AstType) (s : Sort) (t : Tree) → has_form s t ≡ true → sort_stands k s ≡ true → may_stand k (kind_of t) ≡ true
of_sort_stands k s (node j l fs) h g = among_kinds (may_stand k) j (kinds_of s) (node_form s j l fs h).sort g

either_sort : (k : AstType) (b : Bool) (s u : Sort) → sort_stands k s ≡ true → sort_stands k u ≡ true → sort_stands k (if b then s else u) ≡ true
either_sort k true s u h g = h
either_sort k false s u h g = g

sort_at_stands : (k j : AstType) (l : Label) (s : Sort) → place_sort_stands k s ≡ true → sort_stands k (sort_at j l s) ≡ true
sort_at_stands k j l s-PropertyKey h = either_sort k (is_computed j l) s-Expression s-PropertyKey (and_right (sort_stands k s-PropertyKey) (sort_stands k s-Expression) h) (and_left (sort_stands k s-PropertyKey) (sort_stands k s-Expression) h)
sort_at_stands k j l s-MemberProperty h = either_sort k (is_computed j l) s-Expression s-MemberProperty (and_right (sort_stands k s-MemberProperty) (sort_stands k s-Expression) h) (and_left (sort_stands k s-MemberProperty) (sort_stands k s-Expression) h)
sort_at_stands k j l s-BinaryLeft h = either_sort k (is_in j l) s-BinaryLeft s-Expression (and_left (sort_stands k s-BinaryLeft) (sort_stands k s-Expression) h) (and_right (sort_stands k s-BinaryLeft) (sort_stands k s-Expression) h)
sort_at_stands k j l _ h = h

before_stands : (k : AstType) (s last : Sort) (ts : Trees) → sort_stands k s ≡ true → sort_stands k last ≡ true → sort_stands k (sort_before_trees s last ts) ≡ true
before_stands k s last empty h g = g
before_stands k s last (t before ts) h g = h

form_trees_stand : (k : AstType) (s last : Sort) (ts : Trees) → trees_form s last ts ≡ true → sort_stands k s ≡ true → sort_stands k last ≡ true → trees_stand k ts ≡ true
form_trees_stand k s last empty h g d = refl
form_trees_stand k s last (t before ts) h g d =
    and_from (may_stand k (kind_of t)) (trees_stand k ts)
    (of_sort_stands k (sort_before_trees s last ts) t (and_left (has_form (sort_before_trees s last ts) t) (trees_form s last ts) h) (before_stands k s last ts g d))
    (form_trees_stand k s last ts (and_right (has_form (sort_before_trees s last ts) t) (trees_form s last ts) h) g d)

-- the sort of a field, and that of the last of its nodes
list_sorts : (k : AstType) (s : Sort) → (place_sort_stands k s && (sort_stands k s && sort_stands k (rest_sort s))) ≡ true → (sort_stands k s ≡ true) × (sort_stands k (rest_sort s) ≡ true)
list_sorts k s g =
    let both = and_right (place_sort_stands k s) (sort_stands k s && sort_stands k (rest_sort s)) g in
    (and_left (sort_stands k s) (sort_stands k (rest_sort s)) both, and_right (sort_stands k s) (sort_stands k (rest_sort s)) both)

form_field_stands : (k : AstType) (l : Label) (c : Content) (f : Field) → field_form k l c f ≡ true → content_stands k c ≡ true → field_stands k f ≡ true
form_field_stands k l c missing h g = refl
form_field_stands k l (c-Child s Required) (one t) h g = of_sort_stands k (sort_at k l s) t h (sort_at_stands k k l s (and_left (place_sort_stands k s) (sort_stands k s && sort_stands k (rest_sort s)) g))
form_field_stands k l (c-Child s Optional) (one t) h g = of_sort_stands k (sort_at k l s) t h (sort_at_stands k k l s (and_left (place_sort_stands k s) (sort_stands k s && sort_stands k (rest_sort s)) g))
form_field_stands k l (c-Child s a-List) (many ts) h g = let d = list_sorts k s g in form_trees_stand k s s ts h d.0 d.0
form_field_stands k l (c-Child s NonEmptyList) (many (t before ts)) h g = let d = list_sorts k s g in form_trees_stand k s s (t before ts) h d.0 d.0
form_field_stands k l (c-Child s ListWithRest) (many ts) h g = let d = list_sorts k s g in form_trees_stand k s (rest_sort s) ts h d.0 d.1
form_field_stands k l (c-Child s Statements) (statements ts) h g = let d = list_sorts k s g in form_trees_stand k s s ts h d.0 d.0
form_field_stands k l _ _ h g = absurd (cc h)

form_fields_stand : (k : AstType) (l : Label) (es : List Entry) (fs : Fields) → fields_form k l es fs ≡ true → entries_stand k es ≡ true → fields_stand k fs ≡ true
form_fields_stand k l [] done h g = refl
form_fields_stand k l (e ∷ es) (f then fs) h g =
    and_from (field_stands k f) (fields_stand k fs)
    (form_field_stands k l e.content f (and_left (field_form k l e.content f) (fields_form k l es fs) h) (and_left (content_stands k e.content) (entries_stand k es) g))
    (form_fields_stand k l es fs (and_right (field_form k l e.content f) (fields_form k l es fs) h) (and_right (content_stands k e.content) (entries_stand k es) g))
form_fields_stand k l [] (f then fs) h g = absurd (cc h)
form_fields_stand k l (e ∷ es) done h g = absurd (cc h)

-- FIELDS BY THE TABLE

-- a kind with one field for one child
single_form : (k : AstType) (l : Label) (e : Entry) (s : Sort) (fs : Fields) → e.content ≡ c-Child s Required → fields_form k l (e ∷ []) fs ≡ true → is_single fs ≡ true
single_form k l e s done i h = absurd (cc h)
single_form k l e s (f then (g then fs)) i h = absurd (cc (and_right (field_form k l e.content f) false h))
single_form k l e s (one t then done) i h = refl
single_form k l e s (missing then done) i h = absurd (cc (rw i at h))
single_form k l e s (many ts then done) i h = absurd (cc (rw i at h))
single_form k l e s (statements ts then done) i h = absurd (cc (rw i at h))

lone_form : (k : AstType) (l : Label) (e : Entry) (fs : Fields) → fields_form k l (e ∷ []) fs ≡ true → is_lone fs ≡ true
lone_form k l e done h = absurd (cc h)
lone_form k l e (f then done) h = refl
lone_form k l e (f then (g then fs)) h = absurd (cc (and_right (field_form k l e.content f) false h))

formed : (k : AstType) (l : Label) (fs : Fields) → fields_form k l (child_entries k) fs ≡ true → is_formed k fs ≡ true
formed VariableDeclaration l fs h = lone_form VariableDeclaration l _ fs h
formed UpdateExpression l fs h = single_form UpdateExpression l _ s-Expression fs refl h
formed ParenthesizedExpression l fs h = single_form ParenthesizedExpression l _ s-Expression fs refl h
formed ChainExpression l fs h = single_form ChainExpression l _ _ fs refl h
formed AssignmentExpression l (one t then fs) h = refl
formed AssignmentExpression l done h = absurd (cc h)
formed AssignmentExpression l (missing then fs) h = absurd (cc h)
formed AssignmentExpression l (many ts then fs) h = absurd (cc h)
formed AssignmentExpression l (statements ts then fs) h = absurd (cc h)
formed _ l fs h = refl

-- THE WHOLE

mutual
  form_undeclaring : (s : Sort) (t : Tree) → has_form s t ≡ true → all_nodes is_core_node t ≡ true → all_nodes undeclaring t ≡ true
  form_undeclaring s (node k l fs) h c =
      let known = core_entries k (core_kind k l fs (and_left (is_core_node k l fs) (all_in_fields is_core_node fs) c)) in
      let children = plain_form k l fs known.no_elements (node_form s k l fs h).children in
      and_from (undeclaring k l fs) (all_in_fields undeclaring fs)
      (and_from (fields_stand k fs) (is_formed k fs) (form_fields_stand k l (child_entries k) fs children known.entries) (formed k l fs children))
      (form_fields_undeclaring k l (child_entries k) fs children (and_right (is_core_node k l fs) (all_in_fields is_core_node fs) c))

  form_fields_undeclaring : (k : AstType) (l : Label) (es : List Entry) (fs : Fields) → fields_form k l es fs ≡ true → all_in_fields is_core_node fs ≡ true → all_in_fields undeclaring fs ≡ true
  form_fields_undeclaring k l [] done h c = refl
  form_fields_undeclaring k l (e ∷ es) (f then fs) h c =
      and_from (all_in_field undeclaring f) (all_in_fields undeclaring fs)
      (form_field_undeclaring k l e.content f (and_left (field_form k l e.content f) (fields_form k l es fs) h) (and_left (all_in_field is_core_node f) (all_in_fields is_core_node fs) c))
      (form_fields_undeclaring k l es fs (and_right (field_form k l e.content f) (fields_form k l es fs) h) (and_right (all_in_field is_core_node f) (all_in_fields is_core_node fs) c))
  form_fields_undeclaring k l [] (f then fs) h c = absurd (cc h)
  form_fields_undeclaring k l (e ∷ es) done h c = absurd (cc h)

  form_field_undeclaring : (k : AstType) (l : Label) (c : Content) (f : Field) → field_form k l c f ≡ true → all_in_field is_core_node f ≡ true → all_in_field undeclaring f ≡ true
  form_field_undeclaring k l a missing h c = refl
  form_field_undeclaring k l (c-Child s Required) (one t) h c = form_undeclaring (sort_at k l s) t h c
  form_field_undeclaring k l (c-Child s Optional) (one t) h c = form_undeclaring (sort_at k l s) t h c
  form_field_undeclaring k l (c-Child s a-List) (many ts) h c = form_trees_undeclaring s s ts h c
  form_field_undeclaring k l (c-Child s NonEmptyList) (many (t before ts)) h c = form_trees_undeclaring s s (t before ts) h c
  form_field_undeclaring k l (c-Child s ListWithRest) (many ts) h c = form_trees_undeclaring s (rest_sort s) ts h c
  form_field_undeclaring k l (c-Child s Statements) (statements ts) h c = form_trees_undeclaring s s ts h c
  form_field_undeclaring k l _ _ h c = absurd (cc h)

  form_trees_undeclaring : (s last : Sort) (ts : Trees) → trees_form s last ts ≡ true → all_in_trees is_core_node ts ≡ true → all_in_trees undeclaring ts ≡ true
  form_trees_undeclaring s last empty h c = refl
  form_trees_undeclaring s last (t before ts) h c =
      and_from (all_nodes undeclaring t) (all_in_trees undeclaring ts)
      (form_undeclaring (sort_before_trees s last ts) t (and_left (has_form (sort_before_trees s last ts) t) (trees_form s last ts) h) (and_left (all_nodes is_core_node t) (all_in_trees is_core_node ts) c))
      (form_trees_undeclaring s last ts (and_right (has_form (sort_before_trees s last ts) t) (trees_form s last ts) h) (and_right (all_nodes is_core_node t) (all_in_trees is_core_node ts) c))

-- BARE TREES

trees_stand-bare : (k : AstType) (ts : Trees) → trees_stand k (bare_trees ts) ≡ trees_stand k ts
trees_stand-bare k empty = refl
trees_stand-bare k (node j l fs before ts) = ap (λ b. may_stand k j && b) (trees_stand-bare k ts)

field_stands-bare : (k : AstType) (f : Field) → field_stands k (bare_field f) ≡ field_stands k f
field_stands-bare k missing = refl
field_stands-bare k (one (node j l fs)) = refl
field_stands-bare k (many ts) = trees_stand-bare k ts
field_stands-bare k (statements ts) = trees_stand-bare k ts

fields_stand-bare : (k : AstType) (fs : Fields) → fields_stand k (bare_fields fs) ≡ fields_stand k fs
fields_stand-bare k done = refl
fields_stand-bare k (f then fs) = λ i. field_stands-bare k f i && fields_stand-bare k fs i

begins-bare : (fs : Fields) → begins_with_one (bare_fields fs) ≡ begins_with_one fs
begins-bare done = refl
begins-bare (missing then fs) = refl
begins-bare (one t then fs) = refl
begins-bare (many ts then fs) = refl
begins-bare (statements ts then fs) = refl

end-bare : (fs : Fields) → is_end (bare_fields fs) ≡ is_end fs
end-bare done = refl
end-bare (f then fs) = refl

single-bare : (fs : Fields) → is_single (bare_fields fs) ≡ is_single fs
single-bare done = refl
single-bare (missing then fs) = refl
single-bare (one t then fs) = end-bare fs
single-bare (many ts then fs) = refl
single-bare (statements ts then fs) = refl

lone-bare : (fs : Fields) → is_lone (bare_fields fs) ≡ is_lone fs
lone-bare done = refl
lone-bare (f then fs) = end-bare fs

formed-bare : (k : AstType) (fs : Fields) → is_formed k (bare_fields fs) ≡ is_formed k fs
formed-bare VariableDeclaration fs = lone-bare fs
formed-bare UpdateExpression fs = single-bare fs
formed-bare ParenthesizedExpression fs = single-bare fs
formed-bare ChainExpression fs = single-bare fs
formed-bare AssignmentExpression fs = begins-bare fs
formed-bare _ fs = refl

pub undeclaring-bare : (t : Tree) → all_nodes undeclaring (bare t) ≡ all_nodes undeclaring t
undeclaring-bare = all-bare undeclaring (λ k l fs i. fields_stand-bare k fs i && formed-bare k fs i)

pub source_undeclaring : (p : Tree) → IsCoreProgram p → all_nodes undeclaring (bare p) ≡ true
source_undeclaring p is = undeclaring-bare p ∙ form_undeclaring s-Program p is.form is.core
