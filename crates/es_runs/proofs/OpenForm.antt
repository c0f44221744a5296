-- In a core program that has form one statement list stands, the program's own, and its directives have no parts.
use Rattle.std.proofs.Common.{◌≡◌, refl, subst, ◌∙◌, List, [], ◌∷◌}
use Rattle.std.proofs.lemmas.Bool.{and_from}
use Rattle.std.specs.Prelude.{Bool, true, false, ◌&&◌, not, if◌then◌else◌, None}
use Rattle.es_tree.specs.Attributes.{child_entries}
use Rattle.es_tree.specs.Bare.{bare, bare_fields, bare_field, bare_trees}
use Rattle.es_tree.specs.Core.{is_core_kind, is_core_node, IsCoreProgram}
use Rattle.es_tree.specs.HasForm.{is_of_sort, elements_of, match_option, has_form, elements_form, fields_form, field_form, trees_form, is_computed, is_in, sort_at, sort_before_trees}
use Rattle.es_tree.specs.Table.{rest_sort}
use Rattle.es_tree.specs.Tree.{Tree, node, Label, Fields, done, ◌then◌, Field, missing, one, many, statements, Trees, empty, ◌before◌}
use Rattle.es_tree.specs.Walks.{all_nodes, all_in_fields, all_in_field, all_in_trees}
use Rattle.es_tree.specs.declared.ast_type.AstType.{AstType}
use Rattle.es_tree.specs.declared.ast_type.AstType.TheVariants.{Program, Directive, ExpressionStatement, VariableDeclaration, VariableDeclarator, Identifier, ThisExpression, NullLiteral, BooleanLiteral, NumericLiteral, BigIntLiteral, StringLiteral, UnaryExpression, UpdateExpression, BinaryExpression, LogicalExpression, ConditionalExpression, AssignmentExpression, SequenceExpression, MemberExpression, CallExpression, NewExpression, ChainExpression, ParenthesizedExpression}
use Rattle.es_tree.specs.declared.table.Entry.{Entry}
use Rattle.es_tree.specs.declared.table.Sort.{Sort}
use Rattle.es_tree.specs.declared.table.Sort.TheVariants.{Program as s-Program, Statement as s-Statement, Directive as s-Directive, Expression as s-Expression, PropertyKey as s-PropertyKey, MemberProperty as s-MemberProperty, BinaryLeft as s-BinaryLeft, Pattern as s-Pattern, PatternMember as s-PatternMember, TargetElement as s-TargetElement, TargetMember as s-TargetMember}
use Rattle.es_tree.specs.declared.table.Often.{Often}
use Rattle.es_tree.specs.declared.table.Often.TheVariants.{Required, Optional, List as a-List, NonEmptyList, ListWithRest, Statements}
use Rattle.es_tree.specs.declared.table.Content.{Content}
use Rattle.es_tree.specs.declared.table.Content.TheVariants.{Child as c-Child}
use Rattle.es_tree.proofs.CoreBreaks.{core_kind, plain_form}
use Rattle.es_tree.proofs.NodeForm.{node_form}
use Rattle.es_runs.specs.Standing.{is_program_kind}
use Rattle.es_runs.proofs.Named.{and_left, and_right}
use Rattle.es_runs.proofs.Declarations.{is_done}
use Rattle.es_runs.proofs.DeclaredNames.{program_kind}

-- THE SHAPE OF LISTS

abbrev pub is_no_list : Field → Bool
is_no_list (statements ts) = false
is_no_list _ = true

-- no field is a statement list
abbrev pub no_list : Fields → Bool
no_list done = true
no_list (f then fs) = is_no_list f && no_list fs

abbrev pub unlisted : AstType → Label → Fields → Bool
unlisted k l fs = no_list fs

-- none of the nodes has a part
abbrev pub childless : Trees → Bool
childless empty = true
childless (node k l fs before ts) = is_done fs && childless ts

abbrev pub is_childless : Field → Bool
is_childless (many ts) = childless ts
is_childless _ = false

abbrev pub is_unlisted : Field → Bool
is_unlisted (statements ts) = all_in_trees unlisted ts
is_unlisted _ = false

abbrev pub last_unlisted : Fields → Bool
last_unlisted done = false
last_unlisted (f then fs) = is_unlisted f && is_done fs

abbrev pub one_list : Fields → Bool
one_list done = false
one_list (f then fs) = is_childless f && last_unlisted fs

-- the tree has one statement list, after directives without parts
abbrev pub has_one_list : Tree → Bool
has_one_list (node k l fs) = is_program_kind k && one_list fs

-- FROM FORM

abbrev is_program_sort : Sort → Bool
is_program_sort s-Program = true
is_program_sort _ = false

abbrev is_statements : Often → Bool
is_statements Statements = true
is_statements _ = false

abbrev is_plain : Content → Bool
is_plain (c-Child s o) = not (is_program_sort s) && not (is_statements o)
is_plain _ = true

abbrev all_plain : List Entry → Bool
all_plain [] = true
all_plain (e ∷ es) = is_plain e.content && all_plain es

-- no statement list, no program, and no elements
record PlainKind (k : AstType) : Type 0 where
  entries : all_plain (child_entries k) ≡ true
  no_elements : elements_of (child_entries k) ≡ None

plain_kind : (k : AstType) → is_core_kind k ≡ true → is_program_kind k ≡ false → PlainKind k
plain_kind Program c n = absurd (cc n)
plain_kind Directive c n = record { entries = refl; no_elements = refl }
plain_kind ExpressionStatement c n = record { entries = refl; no_elements = refl }
plain_kind VariableDeclaration c n = record { entries = refl; no_elements = refl }
plain_kind VariableDeclarator c n = record { entries = refl; no_elements = refl }
plain_kind Identifier c n = record { entries = refl; no_elements = refl }
plain_kind ThisExpression c n = record { entries = refl; no_elements = refl }
plain_kind NullLiteral c n = record { entries = refl; no_elements = refl }
plain_kind BooleanLiteral c n = record { entries = refl; no_elements = refl }
plain_kind NumericLiteral c n = record { entries = refl; no_elements = refl }
plain_kind BigIntLiteral c n = record { entries = refl; no_elements = refl }
plain_kind StringLiteral c n = record { entries = refl; no_elements = refl }
plain_kind UnaryExpression c n = record { entries = refl; no_elements = refl }
plain_kind UpdateExpression c n = record { entries = refl; no_elements = refl }
plain_kind BinaryExpression c n = record { entries = refl; no_elements = refl }
plain_kind LogicalExpression c n = record { entries = refl; no_elements = refl }
plain_kind ConditionalExpression c n = record { entries = refl; no_elements = refl }
plain_kind AssignmentExpression c n = record { entries = refl; no_elements = refl }
plain_kind SequenceExpression c n = record { entries = refl; no_elements = refl }
plain_kind MemberExpression c n = record { entries = refl; no_elements = refl }
plain_kind CallExpression c n = record { entries = refl; no_elements = refl }
plain_kind NewExpression c n = record { entries = refl; no_elements = refl }
plain_kind ChainExpression c n = record { entries = refl; no_elements = refl }
plain_kind ParenthesizedExpression c n = record { entries = refl; no_elements = refl }
plain_kind _ c n = absurd (cc c)

not_true : (b : Bool) → not b ≡ true → b ≡ false
not_true true h = absurd (cc h)
not_true false h = refl

-- a program stands only at its own place
not_program : (s : Sort) (k : AstType) → is_of_sort s k ≡ true → is_program_sort s ≡ false → is_program_kind k ≡ false
not_program s Program h n = absurd (cc (own s h, n))
  where
    own : (s : Sort) → is_of_sort s Program ≡ true → is_program_sort s ≡ true
    own s-Program h = refl
    own _ h = absurd (cc h)
not_program s _ h n = refl

if_sort : (b : Bool) (s u : Sort) → is_program_sort s ≡ false → is_program_sort u ≡ false → is_program_sort (if b then s else u) ≡ false
if_sort true s u h g = h
if_sort false s u h g = g

sort_at_plain : (k : AstType) (l : Label) (s : Sort) → is_program_sort s ≡ false → is_program_sort (sort_at k l s) ≡ false
sort_at_plain k l s-PropertyKey h = if_sort (is_computed k l) s-Expression s-PropertyKey refl refl
sort_at_plain k l s-MemberProperty h = if_sort (is_computed k l) s-Expression s-MemberProperty refl refl
sort_at_plain k l s-BinaryLeft h = if_sort (is_in k l) s-BinaryLeft s-Expression refl refl
sort_at_plain k l _ h = h

rest_sort_plain : (s : Sort) → is_program_sort s ≡ false → is_program_sort (rest_sort s) ≡ false
rest_sort_plain s-Pattern h = refl
rest_sort_plain s-PatternMember h = refl
rest_sort_plain s-TargetElement h = refl
rest_sort_plain s-TargetMember h = refl
rest_sort_plain _ h = h

before_plain : (s last : Sort) (ts : Trees) → is_program_sort s ≡ false → is_program_sort last ≡ false → is_program_sort (sort_before_trees s last ts) ≡ false
before_plain s last empty h g = g
before_plain s last (t before ts) h g = h

field_unlisted : (k : AstType) (l : Label) (c : Content) (f : Field) → field_form k l c f ≡ true → is_plain c ≡ true → is_no_list f ≡ true
field_unlisted k l (c-Child s Statements) (statements ts) h p = absurd (cc (and_right (not (is_program_sort s)) false p))
field_unlisted k l _ (statements ts) h p = absurd (cc h)
field_unlisted k l c _ h p = refl

fields_unlisted : (k : AstType) (l : Label) (es : List Entry) (fs : Fields) → fields_form k l es fs ≡ true → all_plain es ≡ true → no_list fs ≡ true
fields_unlisted k l [] done h p = refl
fields_unlisted k l (e ∷ es) (f then fs) h p =
    and_from (is_no_list f) (no_list fs)
    (field_unlisted k l e.content f (and_left (field_form k l e.content f) (fields_form k l es fs) h) (and_left (is_plain e.content) (all_plain es) p))
    (fields_unlisted k l es fs (and_right (field_form k l e.content f) (fields_form k l es fs) h) (and_right (is_plain e.content) (all_plain es) p))
fields_unlisted k l [] (f then fs) h p = absurd (cc h)
fields_unlisted k l (e ∷ es) done h p = absurd (cc h)

sort_of_plain : (s : Sort) (o : Often) → is_plain (c-Child s o) ≡ true → is_program_sort s ≡ false
sort_of_plain s o p = not_true (is_program_sort s) (and_left (not (is_program_sort s)) (not (is_statements o)) p)

mutual
  below_unlisted : (s : Sort) (t : Tree) → has_form s t ≡ true → all_nodes is_core_node t ≡ true → is_program_sort s ≡ false → all_nodes unlisted t ≡ true
  below_unlisted s (node k l fs) h c n =
      let form = node_form s k l fs h in
      let kind = plain_kind k (core_kind k l fs (and_left (is_core_node k l fs) (all_in_fields is_core_node fs) c)) (not_program s k form.sort n) in
      let children = plain_form k l fs kind.no_elements form.children in
      and_from (no_list fs) (all_in_fields unlisted fs) (fields_unlisted k l (child_entries k) fs children kind.entries) (below_fields k l (child_entries k) fs children (and_right (is_core_node k l fs) (all_in_fields is_core_node fs) c) kind.entries)

  below_fields : (k : AstType) (l : Label) (es : List Entry) (fs : Fields) → fields_form k l es fs ≡ true → all_in_fields is_core_node fs ≡ true → all_plain es ≡ true → all_in_fields unlisted fs ≡ true
  below_fields k l [] done h c p = refl
  below_fields k l (e ∷ es) (f then fs) h c p =
      and_from (all_in_field unlisted f) (all_in_fields unlisted fs)
      (below_field k l e.content f (and_left (field_form k l e.content f) (fields_form k l es fs) h) (and_left (all_in_field is_core_node f) (all_in_fields is_core_node fs) c) (and_left (is_plain e.content) (all_plain es) p))
      (below_fields k l es fs (and_right (field_form k l e.content f) (fields_form k l es fs) h) (and_right (all_in_field is_core_node f) (all_in_fields is_core_node fs) c) (and_right (is_plain e.content) (all_plain es) p))
  below_fields k l [] (f then fs) h c p = absurd (cc h)
  below_fields k l (e ∷ es) done h c p = absurd (cc h)

  below_field : (k : AstType) (l : Label) (c : Content) (f : Field) → field_form k l c f ≡ true → all_in_field is_core_node f ≡ true → is_plain c ≡ true → all_in_field unlisted f ≡ true
  below_field k l a missing h c p = refl
  below_field k l (c-Child s Required) (one t) h c p = below_unlisted (sort_at k l s) t h c (sort_at_plain k l s (sort_of_plain s Required p))
  below_field k l (c-Child s Optional) (one t) h c p = below_unlisted (sort_at k l s) t h c (sort_at_plain k l s (sort_of_plain s Optional p))
  below_field k l (c-Child s a-List) (many ts) h c p = below_trees s s ts h c (sort_of_plain s a-List p) (sort_of_plain s a-List p)
  below_field k l (c-Child s NonEmptyList) (many (t before ts)) h c p = below_trees s s (t before ts) h c (sort_of_plain s NonEmptyList p) (sort_of_plain s NonEmptyList p)
  below_field k l (c-Child s ListWithRest) (many ts) h c p = below_trees s (rest_sort s) ts h c (sort_of_plain s ListWithRest p) (rest_sort_plain s (sort_of_plain s ListWithRest p))
  below_field k l (c-Child s Statements) (statements ts) h c p = absurd (cc (and_right (not (is_program_sort s)) false p))
  below_field k l _ _ h c p = absurd (cc h)

  below_trees : (s last : Sort) (ts : Trees) → trees_form s last ts ≡ true → all_in_trees is_core_node ts ≡ true → is_program_sort s ≡ false → is_program_sort last ≡ false → all_in_trees unlisted ts ≡ true
  below_trees s last empty h c n m = refl
  below_trees s last (t before ts) h c n m =
      and_from (all_nodes unlisted t) (all_in_trees unlisted ts)
      (below_unlisted (sort_before_trees s last ts) t (and_left (has_form (sort_before_trees s last ts) t) (trees_form s last ts) h) (and_left (all_nodes is_core_node t) (all_in_trees is_core_node ts) c) (before_plain s last ts n m))
      (below_trees s last ts (and_right (has_form (sort_before_trees s last ts) t) (trees_form s last ts) h) (and_right (all_nodes is_core_node t) (all_in_trees is_core_node ts) c) n m)

-- DIRECTIVES

directive_done : (k : AstType) (l : Label) (fs : Fields) → has_form s-Directive (node k l fs) ≡ true → is_done fs ≡ true
directive_done k l fs h = at k (node_form s-Directive k l fs h).sort (node_form s-Directive k l fs h).children
  where
    none : (gs : Fields) → fields_form Directive l [] gs ≡ true → is_done gs ≡ true
    none done g = refl
    none (f then gs) g = absurd (cc g)

    at : (j : AstType) → is_of_sort s-Directive j ≡ true → match_option (elements_of (child_entries j)) (fields_form j l (child_entries j) fs) (λ p. elements_form p.sort p.last fs) ≡ true → is_done fs ≡ true
    at Directive sort children = none fs children
    at _ sort children = absurd (cc sort)

same_sort : (s : Sort) (ts : Trees) → sort_before_trees s s ts ≡ s
same_sort s empty = refl
same_sort s (t before ts) = refl

directives_childless : (ts : Trees) → trees_form s-Directive s-Directive ts ≡ true → childless ts ≡ true
directives_childless empty h = refl
directives_childless (node k l fs before ts) h =
    let g : (has_form s-Directive (node k l fs) && trees_form s-Directive s-Directive ts) ≡ true = rw (same_sort s-Directive ts) at h in
    and_from (is_done fs) (childless ts) (directive_done k l fs (and_left (has_form s-Directive (node k l fs)) (trees_form s-Directive s-Directive ts) g)) (directives_childless ts (and_right (has_form s-Directive (node k l fs)) (trees_form s-Directive s-Directive ts) g))

-- THE WHOLE

-- from a test that is false
never : (b : Bool) → false ≡ true → b ≡ true
never b h = absurd (cc h)

program_lists : (l : Label) (fs : Fields) → fields_form Program l (child_entries Program) fs ≡ true → all_in_fields is_core_node fs ≡ true → one_list fs ≡ true
program_lists l (many ds then (statements body then done)) h c =
    let directives = and_left (trees_form s-Directive s-Directive ds) (trees_form s-Statement s-Statement body && true) h in
    let form = and_left (trees_form s-Statement s-Statement body) true (and_right (trees_form s-Directive s-Directive ds) (trees_form s-Statement s-Statement body && true) h) in
    let core = and_left (all_in_trees is_core_node body) true (and_right (all_in_trees is_core_node ds) (all_in_trees is_core_node body && true) c) in
    and_from (childless ds) (all_in_trees unlisted body && true) (directives_childless ds directives) (and_from (all_in_trees unlisted body) true (below_trees s-Statement s-Statement body form core refl refl) refl)
program_lists l (many ds then (statements body then (g then fs))) h c = never _ (and_right (trees_form s-Statement s-Statement body) false (and_right (trees_form s-Directive s-Directive ds) (trees_form s-Statement s-Statement body && false) h))
program_lists l (many ds then done) h c = never _ (and_right (trees_form s-Directive s-Directive ds) false h)
program_lists l (many ds then (missing then fs)) h c = never _ (and_right (trees_form s-Directive s-Directive ds) false h)
program_lists l (many ds then (one t then fs)) h c = never _ (and_right (trees_form s-Directive s-Directive ds) false h)
program_lists l (many ds then (many ts then fs)) h c = never _ (and_right (trees_form s-Directive s-Directive ds) false h)
program_lists l done h c = never _ h
program_lists l (missing then fs) h c = never _ h
program_lists l (one t then fs) h c = never _ h
program_lists l (statements ts then fs) h c = never _ h

core_one_list : (p : Tree) → IsCoreProgram p → has_one_list p ≡ true
core_one_list (node k l fs) is =
    let P : AstType → Type 0 = λ j. has_form s-Program (node j l fs) ≡ true → all_nodes is_core_node (node j l fs) ≡ true → has_one_list (node j l fs) ≡ true in
    subst P (program_kind k (node_form s-Program k l fs is.form).sort) (λ h c. program_lists l fs (node_form s-Program Program l fs h).children c) is.form is.core

-- BARE TREES

is_no_list-bare : (f : Field) → is_no_list (bare_field f) ≡ is_no_list f
is_no_list-bare missing = refl
is_no_list-bare (one t) = refl
is_no_list-bare (many ts) = refl
is_no_list-bare (statements ts) = refl

no_list-bare : (fs : Fields) → no_list (bare_fields fs) ≡ no_list fs
no_list-bare done = refl
no_list-bare (f then fs) = rw (is_no_list-bare f, no_list-bare fs)

mutual
  unlisted-bare : (t : Tree) → all_nodes unlisted (bare t) ≡ all_nodes unlisted t
  unlisted-bare (node k l fs) = rw (no_list-bare fs, unlisted-bare-fields fs)

  unlisted-bare-fields : (fs : Fields) → all_in_fields unlisted (bare_fields fs) ≡ all_in_fields unlisted fs
  unlisted-bare-fields done = refl
  unlisted-bare-fields (f then fs) = rw (unlisted-bare-field f, unlisted-bare-fields fs)

  unlisted-bare-field : (f : Field) → all_in_field unlisted (bare_field f) ≡ all_in_field unlisted f
  unlisted-bare-field missing = refl
  unlisted-bare-field (one t) = unlisted-bare t
  unlisted-bare-field (many ts) = unlisted-bare-trees ts
  unlisted-bare-field (statements ts) = unlisted-bare-trees ts

  unlisted-bare-trees : (ts : Trees) → all_in_trees unlisted (bare_trees ts) ≡ all_in_trees unlisted ts
  unlisted-bare-trees empty = refl
  unlisted-bare-trees (t before ts) = rw (unlisted-bare t, unlisted-bare-trees ts)

is_done-bare : (fs : Fields) → is_done (bare_fields fs) ≡ is_done fs
is_done-bare done = refl
is_done-bare (f then fs) = refl

childless-bare : (ts : Trees) → childless (bare_trees ts) ≡ childless ts
childless-bare empty = refl
childless-bare (node k l fs before ts) = rw (is_done-bare fs, childless-bare ts)

last_unlisted-bare : (fs : Fields) → last_unlisted (bare_fields fs) ≡ last_unlisted fs
last_unlisted-bare done = refl
last_unlisted-bare (missing then fs) = refl
last_unlisted-bare (one t then fs) = refl
last_unlisted-bare (many ts then fs) = refl
last_unlisted-bare (statements ts then fs) = rw (unlisted-bare-trees ts, is_done-bare fs)

one_list-bare : (fs : Fields) → one_list (bare_fields fs) ≡ one_list fs
one_list-bare done = refl
one_list-bare (missing then fs) = refl
one_list-bare (one t then fs) = refl
one_list-bare (many ts then fs) = rw (childless-bare ts, last_unlisted-bare fs)
one_list-bare (statements ts then fs) = refl

pub has_one_list-bare : (t : Tree) → has_one_list (bare t) ≡ has_one_list t
has_one_list-bare (node k l fs) = rw (one_list-bare fs)

pub core_lists : (p : Tree) → IsCoreProgram p → has_one_list (bare p) ≡ true
core_lists p is = has_one_list-bare p ∙ core_one_list p is
