-- A core program breaks the same static rules by the definition over every program as by the one over core programs.
use Rattle.std.proofs.Common.{◌≡◌, ℕ, zero, suc, ◌+◌, ◌==◌, refl, sym, subst, ap, ◌∙◌, List, [], ◌∷◌, ◌++◌, map, filter}
use Rattle.std.proofs.lemmas.Bool.{and_parts, eqb-true}
use Rattle.std.proofs.lemmas.List.{append-nil, map-append}
use Rattle.std.proofs.lemmas.List.Elements.{All-nil, All-cons, All-append, All-head, All-tail}
use Rattle.std.specs.List.{All, list_any, list_all}
use Rattle.std.specs.Prelude.{Bool, true, false, not, ◌&&◌, ◌||◌, Option, Some, None, bytes_eq, codes, if◌then◌else◌}
use Rattle.es_tree.specs.Ancestors.{Ancestor, ancestor, Visit, visit, visits, visits_in_fields, visits_in_field, visits_in_trees, place_of, leads_by, stands_in, scopes}
use Rattle.es_tree.specs.Attributes.{child_entries}
use Rattle.es_tree.specs.Core.{is_core_kind, is_core_node, IsCoreProgram}
use Rattle.es_tree.specs.CoreStaticRules as core
use Rattle.es_tree.specs.CoreStaticRules.{Break, core_breaks, core_rules, place_in, is_lexical}
use Rattle.es_tree.specs.DeclaredNames.{Name, name, clashes, declared, bound_names, exported_names, declaration_names}
use Rattle.es_tree.specs.HasForm.{ElementsPlace, same_type, elements_of, match_option, has_form, elements_form, fields_form, field_form, trees_form, is_computed, is_in, sort_at, sort_before_trees}
use Rattle.es_tree.specs.Names.{first_text}
use Rattle.es_tree.specs.StaticRules.{is_binding_space, is_export_space, is_class_space, has_clash, is_missing_label, is_duplicate_label, is_misplaced_return, is_misplaced_super, is_bad_using, is_bad_for, is_misplaced_module_item, is_local_export, is_bad_export, is_bad_class, is_bad_accessor, is_bad_rest, is_declaration, is_lone_body, is_misplaced_declaration, is_misplaced_meta, all_rules, is_broken, breaks_at, breaks_after, all_names, breaks}
use Rattle.es_tree.specs.Table.{kinds_of, rest_sort}
use Rattle.es_tree.specs.Tree.{Tree, node, Label, Fields, done, ◌then◌, Field, missing, one, many, statements, Trees, empty, ◌before◌, kind_of, label_of, type_number, type_at, type_at-number, tree_size, field_size}
use Rattle.es_tree.specs.Walks.{all_nodes, all_in_fields, all_in_field, all_in_trees}
use Rattle.es_tree.specs.Words.{Text}
use Rattle.es_tree.specs.declared.ast_type.AstType.{AstType}
use Rattle.es_tree.specs.declared.ast_type.AstType.TheVariants.{Program, Directive, ExpressionStatement, VariableDeclaration, VariableDeclarator, FunctionDeclaration, FunctionExpression, ArrowFunctionExpression, ClassDeclaration, MethodDefinition, ReturnStatement, IfStatement, ForStatement, ForInStatement, ForOfStatement, WhileStatement, DoWhileStatement, BreakStatement, ContinueStatement, LabeledStatement, CatchClause, ImportDeclaration, ImportSpecifier, ImportDefaultSpecifier, ImportNamespaceSpecifier, ExportNamedDeclaration, ExportSpecifier, ExportDefaultDeclaration, ExportAllDeclaration, Identifier, PrivateIdentifier, ThisExpression, Super, NullLiteral, BooleanLiteral, NumericLiteral, BigIntLiteral, StringLiteral, ObjectProperty, UnaryExpression, UpdateExpression, BinaryExpression, LogicalExpression, ConditionalExpression, AssignmentExpression, SequenceExpression, MemberExpression, CallExpression, NewExpression, ChainExpression, ParenthesizedExpression, MetaProperty, ObjectPattern, PatternProperty, ArrayPattern, AssignmentPattern, RestElement, TargetProperty, ArrayTarget, TargetRest}
use Rattle.es_tree.specs.declared.error.Rule.{Rule}
use Rattle.es_tree.specs.declared.error.Rule.TheVariants.{
  DuplicateName,
  MissingLabel,
  DuplicateLabel,
  MisplacedReturn,
  MisplacedSuper,
  BadTarget,
  EmptyChain,
  StrayOptional,
  DeleteName,
  MissingInit,
  BadUsing,
  BadFor,
  MisplacedModuleItem,
  BadExport,
  BadClass,
  BadAccessor,
  BadRest,
  MisplacedDeclaration,
  MisplacedMeta,
}
use Rattle.es_tree.specs.declared.place.Namespace.{Namespace}
use Rattle.es_tree.specs.declared.place.Namespace.TheVariants.{Scope}
use Rattle.es_tree.specs.declared.place.Place.{Place}
use Rattle.es_tree.specs.declared.place.Place.TheVariants.{Other, ProgramBody, Spine, Target, Declarator, Declared}
use Rattle.es_tree.specs.declared.table.Entry.{Entry}
use Rattle.es_tree.specs.declared.table.Sort.{Sort}
use Rattle.es_tree.specs.declared.table.Sort.TheVariants.{Program as s-Program, Expression as s-Expression, PropertyKey as s-PropertyKey, MemberProperty as s-MemberProperty, BinaryLeft as s-BinaryLeft}
use Rattle.es_tree.specs.declared.table.Often.TheVariants.{Required, Optional, List as a-List, NonEmptyList, ListWithRest, Statements}
use Rattle.es_tree.specs.declared.table.Content.{Content}
use Rattle.es_tree.specs.declared.table.Content.TheVariants.{Child as c-Child}
use Rattle.es_tree.proofs.NodeForm.{node_form}

-- VISITS: both definitions visit the same nodes in the same order, each at the same place

abbrev placed : Visit → core.Visit
placed v = core.visit (place_of v.ancestors) v.tree

mutual
  visits_placed : (up : List Ancestor) (n : ℕ) (t : Tree) → core.visits (place_of up) t ≡ map placed (visits up n t)
  visits_placed up n (node k l fs) = ap (λ vs. core.visit (place_of up) (node k l fs) ∷ vs) (fields_placed up k l fs n 0 (suc n) fs)

  fields_placed : (up : List Ancestor) (k : AstType) (l : Label) (all : Fields) (n i m : ℕ) (fs : Fields) → core.visits_in_fields (place_of up) k l i fs ≡ map placed (visits_in_fields up k l all n i m fs)
  fields_placed up k l all n i m done = refl
  fields_placed up k l all n i m (f then fs) =
      (λ j. field_placed (ancestor k l all i n ∷ up) m f j ++ fields_placed up k l all n (suc i) (m + field_size f) fs j)
      ∙ sym (map-append placed (visits_in_field (ancestor k l all i n ∷ up) m f) (visits_in_fields up k l all n (suc i) (m + field_size f) fs))

  field_placed : (up : List Ancestor) (m : ℕ) (f : Field) → core.visits_in_field (place_of up) f ≡ map placed (visits_in_field up m f)
  field_placed up m missing = refl
  field_placed up m (one t) = visits_placed up m t
  field_placed up m (many ts) = trees_placed up m ts
  field_placed up m (statements ts) = trees_placed up m ts

  trees_placed : (up : List Ancestor) (m : ℕ) (ts : Trees) → core.visits_in_trees (place_of up) ts ≡ map placed (visits_in_trees up m ts)
  trees_placed up m empty = refl
  trees_placed up m (t before ts) =
      (λ j. visits_placed up m t j ++ trees_placed up (m + tree_size t) ts j) ∙ sym (map-append placed (visits up m t) (visits_in_trees up (m + tree_size t) ts))

-- WHERE DECLARATIONS STAND

-- the ancestors of what stands in the body of a core program
pub record InBody (up : List Ancestor) : Type 0 where
  pub place : place_of up ≡ ProgramBody
  pub scope : scopes up ≡ 0 ∷ []

-- those of what stands in a declaration there
abbrev pub InDeclaration : List Ancestor → Type 0
InDeclaration [] = ⊥
InDeclaration (d ∷ up) = (d.kind ≡ VariableDeclaration) × (d.index ≡ 0) × InBody up

-- what is known of a node of a core program by its kind, its number and its ancestors
abbrev pub Stands : AstType → ℕ → List Ancestor → Type 0
Stands Program n up = (up ≡ []) × (n ≡ 0)
Stands VariableDeclaration n up = InBody up
Stands VariableDeclarator n up = InDeclaration up
Stands _ n up = Unit {0}

-- what is known of the ancestors of a node
abbrev pub Known : List Ancestor → Type 0
Known [] = Unit {0}
Known (a ∷ up) = (is_core_kind a.kind ≡ true) × Stands a.kind a.number up × Known up

-- whether a node of the last kind may stand in this field of a node of the first kind
abbrev pub may_stand : AstType → ℕ → AstType → Bool
may_stand k i Program = false
may_stand k i VariableDeclaration = same_type k Program && i == 1
may_stand k i VariableDeclarator = same_type k VariableDeclaration && i == 0
may_stand k i _ = true

in_body : (k : AstType) (l : Label) (fs : Fields) (i n : ℕ) (up : List Ancestor) → Stands k n up → (same_type k Program && i == 1) ≡ true → InBody (ancestor k l fs i n ∷ up)
in_body Program l fs i n up h e =
    let at : i ≡ 1 = eqb-true i 1 e in
    record {
      place = ap (λ j. place_in (place_of up) Program l j) at;
      scope = λ j. h.1 j ∷ scopes (h.0 j);
    }
in_body _ l fs i n up h e = absurd (cc e)

in_declaration : (k : AstType) (l : Label) (fs : Fields) (i n : ℕ) (up : List Ancestor) → Stands k n up → (same_type k VariableDeclaration && i == 0) ≡ true → InDeclaration (ancestor k l fs i n ∷ up)
in_declaration VariableDeclaration l fs i n up h e = (refl, eqb-true i 0 e, h)
in_declaration _ l fs i n up h e = absurd (cc e)

pub stands_below : (a : Ancestor) (up : List Ancestor) (k : AstType) (n : ℕ) → Stands a.kind a.number up → may_stand a.kind a.index k ≡ true → Stands k n (a ∷ up)
stands_below a up Program n h e = absurd (cc e)
stands_below a up VariableDeclaration n h e = in_body a.kind a.label a.fields a.index a.number up h e
stands_below a up VariableDeclarator n h e = in_declaration a.kind a.label a.fields a.index a.number up h e
stands_below a up _ n h e = tt

-- KINDS BY THE TABLE

abbrev sort_stands : AstType → ℕ → Sort → Bool
sort_stands k i s = list_all (may_stand k i) (kinds_of s)

-- a computed key or property is any expression, and so is a left side but of `in`
abbrev place_stands : AstType → ℕ → Sort → Bool
place_stands k i s-PropertyKey = sort_stands k i s-PropertyKey && sort_stands k i s-Expression
place_stands k i s-MemberProperty = sort_stands k i s-MemberProperty && sort_stands k i s-Expression
place_stands k i s-BinaryLeft = sort_stands k i s-BinaryLeft && sort_stands k i s-Expression
place_stands k i s = sort_stands k i s

-- whatever may stand in the field by the table may stand in the kind
abbrev content_stands : AstType → ℕ → Content → Bool
content_stands k i (c-Child s o) = place_stands k i s && (sort_stands k i s && sort_stands k i (rest_sort s))
content_stands k i _ = true

abbrev entries_stand : AstType → ℕ → List Entry → Bool
entries_stand k i [] = true
entries_stand k i (e ∷ es) = content_stands k i e.content && entries_stand k (suc i) es

record CoreEntries (k : AstType) : Type 0 where
  entries : entries_stand k 0 (child_entries k) ≡ true
  no_elements : elements_of (child_entries k) ≡ None

core_entries : (k : AstType) → is_core_kind k ≡ true → CoreEntries k
core_entries Program c = record { entries = refl; no_elements = refl }
core_entries Directive c = record { entries = refl; no_elements = refl }
core_entries ExpressionStatement c = record { entries = refl; no_elements = refl }
core_entries VariableDeclaration c = record { entries = refl; no_elements = refl }
core_entries VariableDeclarator c = record { entries = refl; no_elements = refl }
core_entries Identifier c = record { entries = refl; no_elements = refl }
core_entries ThisExpression c = record { entries = refl; no_elements = refl }
core_entries NullLiteral c = record { entries = refl; no_elements = refl }
core_entries BooleanLiteral c = record { entries = refl; no_elements = refl }
core_entries NumericLiteral c = record { entries = refl; no_elements = refl }
core_entries BigIntLiteral c = record { entries = refl; no_elements = refl }
core_entries StringLiteral c = record { entries = refl; no_elements = refl }
core_entries UnaryExpression c = record { entries = refl; no_elements = refl }
core_entries UpdateExpression c = record { entries = refl; no_elements = refl }
core_entries BinaryExpression c = record { entries = refl; no_elements = refl }
core_entries LogicalExpression c = record { entries = refl; no_elements = refl }
core_entries ConditionalExpression c = record { entries = refl; no_elements = refl }
core_entries AssignmentExpression c = record { entries = refl; no_elements = refl }
core_entries SequenceExpression c = record { entries = refl; no_elements = refl }
core_entries MemberExpression c = record { entries = refl; no_elements = refl }
core_entries CallExpression c = record { entries = refl; no_elements = refl }
core_entries NewExpression c = record { entries = refl; no_elements = refl }
core_entries ChainExpression c = record { entries = refl; no_elements = refl }
core_entries ParenthesizedExpression c = record { entries = refl; no_elements = refl }
core_entries _ c = absurd (cc c)

pub same_kind : (j k : AstType) → same_type j k ≡ true → j ≡ k
same_kind j k h = sym (type_at-number j) ∙ ap type_at (eqb-true (type_number j) (type_number k) h) ∙ type_at-number k

-- a kind among these passes a test that each of them passes
pub among_kinds : (test : AstType → Bool) (j : AstType) (ks : List AstType) → list_any (same_type j) ks ≡ true → list_all test ks ≡ true → test j ≡ true
among_kinds test j [] h g = absurd (cc h)
among_kinds test j (k ∷ ks) h g = at (same_type j k) refl h (λ d. among_kinds test j ks d (and_parts (test k) (list_all test ks) g).1)
  where
    at : (b : Bool) → same_type j k ≡ b → (b || list_any (same_type j) ks) ≡ true → (list_any (same_type j) ks ≡ true → test j ≡ true) → test j ≡ true
    at true e d later = rw (same_kind j k e) (and_parts (test k) (list_all test ks) g).0
    at false e d later = later d

of_sort_stands : (k : AstType) (i : ℕ) (s : Sort) (t : Tree) → has_form s t ≡ true → sort_stands k i s ≡ true → may_stand k i (kind_of t) ≡ true
of_sort_stands k i s (node j l fs) h g = among_kinds (may_stand k i) j (kinds_of s) (node_form s j l fs h).sort g

either_sort : (k : AstType) (i : ℕ) (b : Bool) (s u : Sort) → sort_stands k i s ≡ true → sort_stands k i u ≡ true → sort_stands k i (if b then s else u) ≡ true
either_sort k i true s u h g = h
either_sort k i false s u h g = g

sort_at_stands : (k : AstType) (i : ℕ) (l : Label) (s : Sort) → place_stands k i s ≡ true → sort_stands k i (sort_at k l s) ≡ true
sort_at_stands k i l s-PropertyKey h = let d = and_parts (sort_stands k i s-PropertyKey) (sort_stands k i s-Expression) h in either_sort k i (is_computed k l) s-Expression s-PropertyKey d.1 d.0
sort_at_stands k i l s-MemberProperty h = let d = and_parts (sort_stands k i s-MemberProperty) (sort_stands k i s-Expression) h in either_sort k i (is_computed k l) s-Expression s-MemberProperty d.1 d.0
sort_at_stands k i l s-BinaryLeft h = let d = and_parts (sort_stands k i s-BinaryLeft) (sort_stands k i s-Expression) h in either_sort k i (is_in k l) s-BinaryLeft s-Expression d.0 d.1
sort_at_stands k i l _ h = h

-- the sorts of a field, and that of the last of its nodes
record SortsStand (k : AstType) (i : ℕ) (l : Label) (s : Sort) : Type 0 where
  here : sort_stands k i (sort_at k l s) ≡ true
  own : sort_stands k i s ≡ true
  rest : sort_stands k i (rest_sort s) ≡ true

sorts_stand : (k : AstType) (i : ℕ) (l : Label) (s : Sort) → (place_stands k i s && (sort_stands k i s && sort_stands k i (rest_sort s))) ≡ true → SortsStand k i l s
sorts_stand k i l s h =
    let d = and_parts (place_stands k i s) (sort_stands k i s && sort_stands k i (rest_sort s)) h in
    let e = and_parts (sort_stands k i s) (sort_stands k i (rest_sort s)) d.1 in
    record { here = sort_at_stands k i l s d.0; own = e.0; rest = e.1 }

before_stands : (k : AstType) (i : ℕ) (s last : Sort) (ts : Trees) → sort_stands k i s ≡ true → sort_stands k i last ≡ true → sort_stands k i (sort_before_trees s last ts) ≡ true
before_stands k i s last empty h g = g
before_stands k i s last (t before ts) h g = h

-- what a kind without elements asks of its fields
pub plain_form : (k : AstType) (l : Label) (fs : Fields) → elements_of (child_entries k) ≡ None → match_option (elements_of (child_entries k)) (fields_form k l (child_entries k) fs) (λ p. elements_form p.sort p.last fs) ≡ true → fields_form k l (child_entries k) fs ≡ true
plain_form k l fs e h = at (elements_of (child_entries k)) e h
  where
    at : (o : Option ElementsPlace) → o ≡ None → match_option o (fields_form k l (child_entries k) fs) (λ p. elements_form p.sort p.last fs) ≡ true → fields_form k l (child_entries k) fs ≡ true
    at None d g = g
    at (Some p) d g = absurd (cc d)

pub core_kind : (k : AstType) (l : Label) (fs : Fields) → is_core_node k l fs ≡ true → is_core_kind k ≡ true
core_kind VariableDeclaration l fs c = refl
core_kind _ l fs c = c

-- EACH VISIT OF A CORE PROGRAM

abbrev pub core_node : Tree → Bool
core_node (node k l fs) = is_core_node k l fs

pub record CoreVisit (v : Visit) : Type 0 where
  pub above : Known v.ancestors
  pub own : core_node v.tree ≡ true

mutual
  fields_known : (up : List Ancestor) (k : AstType) (l : Label) (all : Fields) (n i m : ℕ) (es : List Entry) (fs : Fields) → is_core_kind k ≡ true → Stands k n up → Known up → fields_form k l es fs ≡ true → entries_stand k i es ≡ true → all_in_fields is_core_node fs ≡ true → All CoreVisit (visits_in_fields up k l all n i m fs)
  fields_known up k l all n i m [] done c s a h g d = All-nil CoreVisit
  fields_known up k l all n i m (e ∷ es) (f then fs) c s a h g d =
      let form = and_parts (field_form k l e.content f) (fields_form k l es fs) h in
      let stand = and_parts (content_stands k i e.content) (entries_stand k (suc i) es) g in
      let below = and_parts (all_in_field is_core_node f) (all_in_fields is_core_node fs) d in
      All-append CoreVisit (visits_in_field (ancestor k l all i n ∷ up) m f) (visits_in_fields up k l all n (suc i) (m + field_size f) fs)
      (field_known (ancestor k l all i n) up m e.content f (c, s, a) form.0 stand.0 below.0)
      (fields_known up k l all n (suc i) (m + field_size f) es fs c s a form.1 stand.1 below.1)
  fields_known up k l all n i m [] (f then fs) c s a h g d = absurd (cc h)
  fields_known up k l all n i m (e ∷ es) done c s a h g d = absurd (cc h)

  field_known : (a : Ancestor) (up : List Ancestor) (m : ℕ) (c : Content) (f : Field) → Known (a ∷ up) → field_form a.kind a.label c f ≡ true → content_stands a.kind a.index c ≡ true → all_in_field is_core_node f ≡ true → All CoreVisit (visits_in_field (a ∷ up) m f)
  field_known a up m c missing w h g d = All-nil CoreVisit
  field_known a up m (c-Child s Required) (one t) w h g d = tree_known a up m (sort_at a.kind a.label s) t w h (sorts_stand a.kind a.index a.label s g).here d
  field_known a up m (c-Child s Optional) (one t) w h g d = tree_known a up m (sort_at a.kind a.label s) t w h (sorts_stand a.kind a.index a.label s g).here d
  field_known a up m (c-Child s a-List) (many ts) w h g d = let e = sorts_stand a.kind a.index a.label s g in trees_known a up m s s ts w h e.own e.own d
  field_known a up m (c-Child s NonEmptyList) (many (t before ts)) w h g d = let e = sorts_stand a.kind a.index a.label s g in trees_known a up m s s (t before ts) w h e.own e.own d
  field_known a up m (c-Child s ListWithRest) (many ts) w h g d = let e = sorts_stand a.kind a.index a.label s g in trees_known a up m s (rest_sort s) ts w h e.own e.rest d
  field_known a up m (c-Child s Statements) (statements ts) w h g d = let e = sorts_stand a.kind a.index a.label s g in trees_known a up m s s ts w h e.own e.own d
  field_known a up m _ _ w h g d = absurd (cc h)

  trees_known : (a : Ancestor) (up : List Ancestor) (m : ℕ) (s last : Sort) (ts : Trees) → Known (a ∷ up) → trees_form s last ts ≡ true → sort_stands a.kind a.index s ≡ true → sort_stands a.kind a.index last ≡ true → all_in_trees is_core_node ts ≡ true → All CoreVisit (visits_in_trees (a ∷ up) m ts)
  trees_known a up m s last empty w h g e d = All-nil CoreVisit
  trees_known a up m s last (t before ts) w h g e d =
      let form = and_parts (has_form (sort_before_trees s last ts) t) (trees_form s last ts) h in
      let below = and_parts (all_nodes is_core_node t) (all_in_trees is_core_node ts) d in
      All-append CoreVisit (visits (a ∷ up) m t) (visits_in_trees (a ∷ up) (m + tree_size t) ts)
      (tree_known a up m (sort_before_trees s last ts) t w form.0 (before_stands a.kind a.index s last ts g e) below.0)
      (trees_known a up (m + tree_size t) s last ts w form.1 g e below.1)

  tree_known : (a : Ancestor) (up : List Ancestor) (m : ℕ) (s : Sort) (t : Tree) → Known (a ∷ up) → has_form s t ≡ true → sort_stands a.kind a.index s ≡ true → all_nodes is_core_node t ≡ true → All CoreVisit (visits (a ∷ up) m t)
  tree_known a up m s (node k l fs) w h g d =
      let own = and_parts (is_core_node k l fs) (all_in_fields is_core_node fs) d in
      let kind = core_kind k l fs own.0 in
      let entries = core_entries k kind in
      let stands = stands_below a up k m w.1 (of_sort_stands a.kind a.index s (node k l fs) h g) in
      All-cons CoreVisit (visit (a ∷ up) m (node k l fs)) (visits_in_fields (a ∷ up) k l fs m 0 (suc m) fs) (record { above = w; own = own.0 })
      (fields_known (a ∷ up) k l fs m 0 (suc m) (child_entries k) fs kind stands w (plain_form k l fs entries.no_elements (node_form s k l fs h).children) entries.entries own.1)

program_known : (p : Tree) → IsCoreProgram p → All CoreVisit (visits [] 0 p)
program_known (node k l fs) is =
    let form = node_form s-Program k l fs is.form in
    let own = and_parts (is_core_node k l fs) (all_in_fields is_core_node fs) is.core in
    let kind = core_kind k l fs own.0 in
    let entries = core_entries k kind in
    All-cons CoreVisit (visit [] 0 (node k l fs)) (visits_in_fields [] k l fs 0 0 1 fs) (record { above = tt; own = own.0 })
    (fields_known [] k l fs 0 0 1 (child_entries k) fs kind (first_stands k form.sort) tt (plain_form k l fs entries.no_elements form.children) entries.entries own.1)
  where
    first_stands : (k : AstType) → list_any (same_type k) (kinds_of s-Program) ≡ true → Stands k 0 []
    first_stands Program e = (refl, refl)
    first_stands _ e = absurd (cc e)

-- ANCESTORS OF CORE KINDS

differs : (k j : AstType) → is_core_kind k ≡ true → is_core_kind j ≡ false → same_type k j ≡ false
differs k j c d = at (same_type k j) refl
  where
    at : (b : Bool) → same_type k j ≡ b → b ≡ false
    at true e = let same = same_kind k j e in absurd (cc (ap is_core_kind same))
    at false e = refl

leads_nowhere : (j : AstType) (i : ℕ) (a : Ancestor) → is_core_kind a.kind ≡ true → is_core_kind j ≡ false → leads_by j i a ≡ false
leads_nowhere j i a c d = ap (λ b. b && a.index == i) (differs a.kind j c d)

stands_nowhere : (j : AstType) (i : ℕ) (up : List Ancestor) → Known up → is_core_kind j ≡ false → stands_in j i up ≡ false
stands_nowhere j i [] w d = refl
stands_nowhere j i (a ∷ up) w d = leads_nowhere j i a w.0 d

-- NAMES: both definitions have the same, those of the program's scope

abbrev whole : core.Name → Name
whole n = name Scope 0 n.text n.lexical

exports_nothing : (up : List Ancestor) (x : Text) → Known up → exported_names up x ≡ []
exports_nothing up x w = rw (stands_nowhere ExportSpecifier 1 up w refl, stands_nowhere ExportAllDeclaration 0 up w refl) refl

-- in a core program only a declarator declares
declares_only : (a : Ancestor) (up : List Ancestor) (x : Text) → is_core_kind a.kind ≡ true → bound_names (a ∷ up) x ≡ (if leads_by VariableDeclarator 0 a then declaration_names up x else [])
declares_only a up x c =
    rw (
      leads_nowhere ObjectPattern 0 a c refl,
      differs a.kind ArrayPattern c refl,
      leads_nowhere PatternProperty 1 a c refl,
      leads_nowhere AssignmentPattern 0 a c refl,
      leads_nowhere RestElement 0 a c refl,
      leads_nowhere FunctionDeclaration 0 a c refl,
      leads_nowhere FunctionDeclaration 1 a c refl,
      leads_nowhere FunctionExpression 1 a c refl,
      leads_nowhere ArrowFunctionExpression 0 a c refl,
      leads_nowhere ClassDeclaration 0 a c refl,
      leads_nowhere CatchClause 0 a c refl,
      leads_nowhere ImportSpecifier 1 a c refl,
      leads_nowhere ImportDefaultSpecifier 0 a c refl,
      leads_nowhere ImportNamespaceSpecifier 0 a c refl,
    )
    refl

-- what a declarator of this declaration in the body declares
declaration_declares : (d : Ancestor) (up : List Ancestor) (x : Text) → Known up → (d.kind ≡ VariableDeclaration) × (d.index ≡ 0) × InBody up → declaration_names (d ∷ up) x ≡ name Scope 0 x (is_lexical (first_text d.label.texts)) ∷ []
declaration_declares d up x w h =
    rw (ap type_number h.0, h.2.scope, stands_nowhere ExportNamedDeclaration 0 up w refl) (at (is_lexical (first_text d.label.texts)))
  where
    at : (b : Bool) → (if b then name Scope 0 x true ∷ [] else name Scope 0 x false ∷ []) ++ [] ≡ name Scope 0 x b ∷ []
    at true = refl
    at false = refl

-- the place of what it declares
declared_place : (d : Ancestor) (up : List Ancestor) → (d.kind ≡ VariableDeclaration) × (d.index ≡ 0) × InBody up → core.binding_place (place_of (d ∷ up)) ≡ Declared (is_lexical (first_text d.label.texts))
declared_place d up h = λ j. core.binding_place (place_in (h.2.place j) (h.0 j) d.label (h.1 j))

-- elsewhere no place is one of declared names
abbrev is_declared_place : Place → Bool
is_declared_place (Declared lexical) = true
is_declared_place _ = false

undeclared_place : (p : Place) (k : AstType) (l : Label) (i : ℕ) → (same_type k VariableDeclarator && i == 0) ≡ false → is_declared_place (place_in p k l i) ≡ false
undeclared_place p VariableDeclarator l zero h = absurd (cc h)
undeclared_place ProgramBody VariableDeclaration l zero h = refl
undeclared_place (Target s) VariableDeclaration l zero h = refl
undeclared_place Other VariableDeclaration l zero h = refl
undeclared_place Spine VariableDeclaration l zero h = refl
undeclared_place (Declarator top lexical constant) VariableDeclaration l zero h = refl
undeclared_place (Declared lexical) VariableDeclaration l zero h = refl
undeclared_place Spine MemberExpression l zero h = refl
undeclared_place _ MemberExpression l zero h = refl
undeclared_place Spine CallExpression l zero h = refl
undeclared_place _ CallExpression l zero h = refl
undeclared_place p k l zero h = refl
undeclared_place p Program l (suc zero) h = refl
undeclared_place p TargetProperty l (suc zero) h = refl
undeclared_place p ArrayTarget l (suc zero) h = refl
undeclared_place p _ l (suc zero) h = refl
undeclared_place p ArrayTarget l (suc (suc i)) h = refl
undeclared_place p _ l (suc (suc i)) h = refl

declares_nothing : (p : Place) (t : Tree) → is_declared_place p ≡ false → core.declared p t ≡ []
declares_nothing (Declared lexical) t h = absurd (cc h)
declares_nothing _ t h = refl

abbrev is_identifier : AstType → Bool
is_identifier Identifier = true
is_identifier _ = false

names_alone : (p : Place) (k : AstType) (l : Label) (fs : Fields) → is_identifier k ≡ false → core.declared p (node k l fs) ≡ []
names_alone (Declared lexical) Identifier l fs h = absurd (cc h)
names_alone (Declared lexical) _ l fs h = refl
names_alone Other k l fs h = refl
names_alone ProgramBody k l fs h = refl
names_alone Spine k l fs h = refl
names_alone (Target s) k l fs h = refl
names_alone (Declarator top lexical constant) k l fs h = refl

in_declarator : (up : List Ancestor) (l : Label) (fs : Fields) → InDeclaration up → Known up → declaration_names up (first_text l.texts) ++ [] ≡ map whole (core.declared (core.binding_place (place_of up)) (node Identifier l fs))
in_declarator [] l fs h w = absurd h
in_declarator (d ∷ up) l fs h w =
    append-nil (declaration_names (d ∷ up) (first_text l.texts)) ∙ declaration_declares d up (first_text l.texts) w.2 h
    ∙ sym (ap (λ p. map whole (core.declared p (node Identifier l fs))) (declared_place d up h))

identifier_names : (up : List Ancestor) (l : Label) (fs : Fields) → Known up → bound_names up (first_text l.texts) ++ exported_names up (first_text l.texts) ≡ map whole (core.declared (place_of up) (node Identifier l fs))
identifier_names [] l fs w = refl
identifier_names (a ∷ up) l fs w = (λ j. declares_only a up (first_text l.texts) w.0 j ++ exports_nothing (a ∷ up) (first_text l.texts) w j) ∙ at (leads_by VariableDeclarator 0 a) refl
  where
    at : (b : Bool) → leads_by VariableDeclarator 0 a ≡ b → (if b then declaration_names up (first_text l.texts) else []) ++ [] ≡ map whole (core.declared (place_of (a ∷ up)) (node Identifier l fs))
    at false e = sym (ap (λ ns. map whole ns) (declares_nothing (place_of (a ∷ up)) (node Identifier l fs) (undeclared_place (place_of up) a.kind a.label a.index e)))
    at true e =
        let parts = and_parts (same_type a.kind VariableDeclarator) (a.index == 0) e in
        let kind = same_kind a.kind VariableDeclarator parts.0 in
        let index : a.index ≡ 0 = eqb-true a.index 0 parts.1 in
        in_declarator up l fs (subst (λ k. Stands k a.number up) kind w.1) w.2
        ∙ sym (λ j. map whole (core.declared (place_in (place_of up) (kind j) a.label (index j)) (node Identifier l fs)))

same_names : (up : List Ancestor) (t : Tree) → Known up → core_node t ≡ true → declared up t ≡ map whole (core.declared (place_of up) t)
same_names up (node Identifier l fs) w c = identifier_names up l fs w
same_names up (node StringLiteral l fs) w c = exports_nothing up (first_text l.texts) w ∙ sym (ap (λ ns. map whole ns) (names_alone (place_of up) StringLiteral l fs refl))
same_names up (node PrivateIdentifier l fs) w c = absurd (cc c)
same_names up (node MethodDefinition l fs) w c = absurd (cc c)
same_names up (node ExportDefaultDeclaration l fs) w c = absurd (cc c)
same_names up (node k l fs) w c = sym (ap (λ ns. map whole ns) (names_alone (place_of up) k l fs refl))

same_clash : (earlier : List core.Name) (n : core.Name) → clashes (map whole earlier) (whole n) ≡ core.clashes earlier n
same_clash [] n = refl
same_clash (e ∷ earlier) n = ap (λ b. (bytes_eq e.text n.text && (e.lexical || n.lexical)) || b) (same_clash earlier n)

same_clashes : (earlier ns : List core.Name) → has_clash is_binding_space (map whole earlier) (map whole ns) ≡ list_any (core.clashes earlier) ns
same_clashes earlier [] = refl
same_clashes earlier (n ∷ ns) = λ j. same_clash earlier n j || same_clashes earlier ns j

no_clash : (belongs : Namespace → Bool) (earlier : List Name) (ns : List core.Name) → belongs Scope ≡ false → has_clash belongs earlier (map whole ns) ≡ false
no_clash belongs earlier [] h = refl
no_clash belongs earlier (n ∷ ns) h = rw h (no_clash belongs earlier ns h)

-- RULES: a node of a core program breaks none of those that only other programs break

never : (a b : Bool) → b ≡ false → (a && b) ≡ false
never true b h = h
never false b h = refl

no_missing_label : (up : List Ancestor) (t : Tree) → core_node t ≡ true → is_missing_label up t ≡ false
no_missing_label up (node BreakStatement l fs) c = absurd (cc c)
no_missing_label up (node ContinueStatement l fs) c = absurd (cc c)
no_missing_label up (node _ l fs) c = refl

no_duplicate_label : (up : List Ancestor) (t : Tree) → Known up → is_duplicate_label up t ≡ false
no_duplicate_label up (node Identifier l fs) w = rw (stands_nowhere LabeledStatement 0 up w refl) refl
no_duplicate_label up (node _ l fs) w = refl

no_return : (up : List Ancestor) (t : Tree) → core_node t ≡ true → is_misplaced_return up t ≡ false
no_return up (node ReturnStatement l fs) c = absurd (cc c)
no_return up (node _ l fs) c = refl

no_super : (up : List Ancestor) (t : Tree) → core_node t ≡ true → is_misplaced_super up t ≡ false
no_super up (node Super l fs) c = absurd (cc c)
no_super up (node _ l fs) c = refl

no_using : (up : List Ancestor) (t : Tree) → core_node t ≡ true → is_bad_using up t ≡ false
no_using up (node VariableDeclaration l (many ds then fs)) c = at (bytes_eq (first_text l.texts) (codes "using")) _ c
  where
    at : (a b : Bool) → not a ≡ true → (a && b) ≡ false
    at true b h = absurd (cc h)
    at false b h = refl
no_using up (node VariableDeclaration l done) c = refl
no_using up (node VariableDeclaration l (missing then fs)) c = refl
no_using up (node VariableDeclaration l (one t then fs)) c = refl
no_using up (node VariableDeclaration l (statements ts then fs)) c = refl
no_using up (node _ l fs) c = refl

no_for : (up : List Ancestor) (t : Tree) → Known up → is_bad_for up t ≡ false
no_for up (node VariableDeclaration l (many ds then fs)) w = rw (stands_nowhere ForInStatement 0 up w refl, stands_nowhere ForOfStatement 0 up w refl) refl
no_for up (node VariableDeclaration l done) w = refl
no_for up (node VariableDeclaration l (missing then fs)) w = refl
no_for up (node VariableDeclaration l (one t then fs)) w = refl
no_for up (node VariableDeclaration l (statements ts then fs)) w = refl
no_for up (node _ l fs) w = refl

no_module_item : (up : List Ancestor) (t : Tree) → core_node t ≡ true → is_misplaced_module_item up t ≡ false
no_module_item up (node ImportDeclaration l fs) c = absurd (cc c)
no_module_item up (node ExportNamedDeclaration l fs) c = absurd (cc c)
no_module_item up (node ExportDefaultDeclaration l fs) c = absurd (cc c)
no_module_item up (node ExportAllDeclaration l fs) c = absurd (cc c)
no_module_item up (node _ l fs) c = refl

no_local_export : (up : List Ancestor) → Known up → is_local_export up ≡ false
no_local_export [] w = refl
no_local_export (a ∷ []) w = refl
no_local_export (a ∷ (b ∷ up)) w = rw (leads_nowhere ExportSpecifier 0 a w.0 refl) refl

no_export : (all : List Name) (up : List Ancestor) (t : Tree) → Known up → core_node t ≡ true → is_bad_export all up t ≡ false
no_export all up (node ExportNamedDeclaration l fs) w c = absurd (cc c)
no_export all up (node FunctionDeclaration l fs) w c = absurd (cc c)
no_export all up (node ClassDeclaration l fs) w c = absurd (cc c)
no_export all up (node StringLiteral l fs) w c = no_local_export up w
no_export all up (node Identifier l fs) w c = rw (no_local_export up w) refl
no_export all up (node _ l fs) w c = refl

no_class : (all : List Name) (up : List Ancestor) (t : Tree) → core_node t ≡ true → is_bad_class all up t ≡ false
no_class all up (node MethodDefinition l fs) c = absurd (cc c)
no_class all up (node PrivateIdentifier l fs) c = absurd (cc c)
no_class all up (node _ l fs) c = refl

no_accessor : (t : Tree) → core_node t ≡ true → is_bad_accessor t ≡ false
no_accessor (node MethodDefinition l fs) c = absurd (cc c)
no_accessor (node ObjectProperty l fs) c = absurd (cc c)
no_accessor (node _ l fs) c = refl

no_rest : (up : List Ancestor) (t : Tree) → Known up → is_bad_rest up t ≡ false
no_rest [] t w = refl
no_rest (a ∷ []) t w = refl
no_rest (a ∷ (b ∷ up)) t w = rw (leads_nowhere RestElement 0 a w.0 refl, leads_nowhere TargetRest 0 a w.0 refl) refl

no_lone_body : (up : List Ancestor) → Known up → is_lone_body up ≡ false
no_lone_body up w =
    rw (
      stands_nowhere IfStatement 1 up w refl,
      stands_nowhere IfStatement 2 up w refl,
      stands_nowhere ForStatement 3 up w refl,
      stands_nowhere ForInStatement 2 up w refl,
      stands_nowhere ForOfStatement 2 up w refl,
      stands_nowhere WhileStatement 1 up w refl,
      stands_nowhere DoWhileStatement 0 up w refl,
      stands_nowhere LabeledStatement 1 up w refl,
    )
    refl

no_declaration : (up : List Ancestor) (t : Tree) → Known up → is_misplaced_declaration up t ≡ false
no_declaration up t w = never (is_declaration (kind_of t) (label_of t)) (is_lone_body up) (no_lone_body up w)

no_meta : (up : List Ancestor) (t : Tree) → core_node t ≡ true → is_misplaced_meta up t ≡ false
no_meta up (node MetaProperty l fs) c = absurd (cc c)
no_meta up (node _ l fs) c = refl

either : (a b : Bool) → a ≡ false → b ≡ false → (a || b) ≡ false
either a b h g = rw (h, g) refl

-- each rule is broken at a visit by one definition where it is by the other
same_rule : (all : List Name) (earlier : List core.Name) (up : List Ancestor) (t : Tree) → Known up → core_node t ≡ true → (r : Rule) → is_broken all (map whole earlier) up t r ≡ core.is_broken earlier (place_of up) t r
same_rule all earlier up t w c DuplicateName = ap (has_clash is_binding_space (map whole earlier)) (same_names up t w c) ∙ same_clashes earlier (core.declared (place_of up) t)
same_rule all earlier up t w c MissingLabel = no_missing_label up t c
same_rule all earlier up t w c DuplicateLabel = no_duplicate_label up t w
same_rule all earlier up t w c MisplacedReturn = no_return up t c
same_rule all earlier up t w c MisplacedSuper = no_super up t c
same_rule all earlier up t w c BadTarget = refl
same_rule all earlier up t w c EmptyChain = refl
same_rule all earlier up t w c StrayOptional = refl
same_rule all earlier up t w c DeleteName = refl
same_rule all earlier up t w c MissingInit = refl
same_rule all earlier up t w c BadUsing = no_using up t c
same_rule all earlier up t w c BadFor = no_for up t w
same_rule all earlier up t w c MisplacedModuleItem = no_module_item up t c
same_rule all earlier up t w c BadExport =
    either (has_clash is_export_space (map whole earlier) (declared up t)) (is_bad_export all up t)
    (ap (has_clash is_export_space (map whole earlier)) (same_names up t w c) ∙ no_clash is_export_space (map whole earlier) (core.declared (place_of up) t) refl)
    (no_export all up t w c)
same_rule all earlier up t w c BadClass =
    either (has_clash is_class_space (map whole earlier) (declared up t)) (is_bad_class all up t)
    (ap (has_clash is_class_space (map whole earlier)) (same_names up t w c) ∙ no_clash is_class_space (map whole earlier) (core.declared (place_of up) t) refl)
    (no_class all up t c)
same_rule all earlier up t w c BadAccessor = no_accessor t c
same_rule all earlier up t w c BadRest = no_rest up t w
same_rule all earlier up t w c MisplacedDeclaration = no_declaration up t w
same_rule all earlier up t w c MisplacedMeta = no_meta up t c

-- BROKEN RULES

same_breaks_at : (all : List Name) (earlier : List core.Name) (v : Visit) → CoreVisit v → breaks_at all_rules all (map whole earlier) v ≡ core.breaks_at earlier (placed v)
same_breaks_at all earlier v h = λ j. map (λ r. (r, (label_of v.tree).id)) (filter (λ r. same_rule all earlier v.ancestors v.tree h.above h.own r j) all_rules)

same_breaks : (all : List Name) (earlier : List core.Name) (vs : List Visit) → All CoreVisit vs → breaks_after all_rules all (map whole earlier) vs ≡ core.breaks_after earlier (map placed vs)
same_breaks all earlier [] h = refl
same_breaks all earlier (v ∷ vs) h =
    let own : CoreVisit v = All-head CoreVisit v vs h in
    let here : List core.Name = core.declared (place_of v.ancestors) v.tree in
    let names : declared v.ancestors v.tree ++ map whole earlier ≡ map whole (here ++ earlier) = ap (λ ns. ns ++ map whole earlier) (same_names v.ancestors v.tree own.above own.own) ∙ sym (map-append whole here earlier) in
    (λ j. same_breaks_at all earlier v own j ++ breaks_after all_rules all (names j) vs) ∙ ap (λ bs. core.breaks_at earlier (placed v) ++ bs) (same_breaks all (here ++ earlier) vs (All-tail CoreVisit v vs h))

-- where each visit is one of a core program, the rules that core programs can break are broken, and no other
pub breaks-visits : (p : Tree) → All CoreVisit (visits [] 0 p) → breaks p ≡ core_breaks p
breaks-visits p h = same_breaks (all_names p) [] (visits [] 0 p) h ∙ ap (λ vs. core.breaks_after [] vs) (sym (visits_placed [] 0 p))

pub breaks-core : (p : Tree) → IsCoreProgram p → breaks p ≡ core_breaks p
breaks-core p is = breaks-visits p (program_known p is)
