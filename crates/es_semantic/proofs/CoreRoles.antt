-- What stands at each place of a core program: the definition over every program says the same as the one over core programs.
use Rattle.std.proofs.Common.{◌≡◌, ℕ, zero, suc, refl, sym, ◌∙◌, List, [], ◌∷◌}
use Rattle.std.proofs.lemmas.Bool.{and_parts, and_from}
use Rattle.std.specs.List.{list_all}
use Rattle.std.specs.Prelude.{Bool, true, false, ◌&&◌, None, if◌then◌else◌}
use Rattle.es_tree.specs.Attributes.{child_entries}
use Rattle.es_tree.specs.Core.{is_core_kind, is_core_node}
use Rattle.es_tree.specs.HasForm.{elements_of, has_form, fields_form, field_form, trees_form, is_computed, is_in, sort_at, sort_before_trees}
use Rattle.es_tree.specs.Names.{is_name_place}
use Rattle.es_tree.specs.References as core
use Rattle.es_tree.specs.Table.{kinds_of, rest_sort}
use Rattle.es_tree.specs.Tree.{Tree, node, Label, Fields, done, ◌then◌, Field, missing, one, many, statements, Trees, empty, ◌before◌, kind_of}
use Rattle.es_tree.specs.Walks.{all_nodes, all_in_fields, all_in_field, all_in_trees}
use Rattle.es_tree.specs.declared.ast_type.AstType.{AstType}
use Rattle.es_tree.specs.declared.ast_type.AstType.TheVariants.{Program, Directive, ExpressionStatement, VariableDeclaration, VariableDeclarator, Identifier, ThisExpression, NullLiteral, BooleanLiteral, NumericLiteral, BigIntLiteral, StringLiteral, UnaryExpression, UpdateExpression, BinaryExpression, LogicalExpression, ConditionalExpression, AssignmentExpression, SequenceExpression, MemberExpression, CallExpression, NewExpression, ChainExpression, ParenthesizedExpression}
use Rattle.es_tree.specs.declared.table.Entry.{Entry}
use Rattle.es_tree.specs.declared.table.Sort.{Sort}
use Rattle.es_tree.specs.declared.table.Sort.TheVariants.{Expression as s-Expression, PropertyKey as s-PropertyKey, MemberProperty as s-MemberProperty, BinaryLeft as s-BinaryLeft}
use Rattle.es_tree.specs.declared.table.Often.TheVariants.{Required, Optional, List as a-List, NonEmptyList, ListWithRest, Statements}
use Rattle.es_tree.specs.declared.table.Content.{Content}
use Rattle.es_tree.specs.declared.table.Content.TheVariants.{Child as c-Child}
use Rattle.es_tree.proofs.CoreBreaks.{among_kinds, core_kind, plain_form}
use Rattle.es_tree.proofs.NodeForm.{node_form}
use Rattle.es_semantic.specs.RolesOf.{reads, role_at}
use Rattle.es_semantic.specs.declared.place.Role.{Role}
use Rattle.es_semantic.specs.declared.place.Role.TheVariants.{Nothing, Binds, Refers}

-- ROLES

-- the role that the definition over core programs has
abbrev pub core_role : Role → core.Role
core_role Nothing = core.nothing
core_role (Binds b) = core.binding
core_role (Refers f) = core.refers f.read f.write
core_role _ = core.reads

-- whether nothing is declared at a place of this role
abbrev pub is_quiet : Role → Bool
is_quiet Nothing = true
is_quiet (Refers f) = true
is_quiet _ = false

name_role : (b : Bool) → core_role (if b then reads else Nothing) ≡ (if b then core.reads else core.nothing)
name_role true = refl
name_role false = refl

name_quiet : (b : Bool) → is_quiet (if b then reads else Nothing) ≡ true
name_quiet true = refl
name_quiet false = refl

-- INNER KINDS: those that stand in expressions, statements and directives

abbrev pub is_not_outer : AstType → Bool
is_not_outer Program = false
is_not_outer VariableDeclaration = false
is_not_outer VariableDeclarator = false
is_not_outer _ = true

abbrev pub is_inner_kind : AstType → Bool
is_inner_kind k = is_not_outer k && is_core_kind k

-- what an inner kind asks of its role
abbrev pub Needs : AstType → Role → core.Role → Type 0
Needs Identifier r o = core_role r ≡ o
Needs ParenthesizedExpression r o = core_role r ≡ o
Needs _ r o = Unit {0}

pub needs_of : (k : AstType) (r : Role) (o : core.Role) → core_role r ≡ o → Needs k r o
needs_of Identifier r o e = e
needs_of ParenthesizedExpression r o e = e
needs_of _ r o e = tt

-- the role of a field
same_below : (k : AstType) (l : Label) (fs : Fields) (r : Role) (o : core.Role) → is_inner_kind k ≡ true → Needs k r o → (i : ℕ) → core_role (role_at r k l fs i) ≡ core.role_at o k l i
same_below Directive l fs r o c h i = refl
same_below ExpressionStatement l fs r o c h i = refl
same_below Identifier l fs r o c h i = refl
same_below ThisExpression l fs r o c h i = refl
same_below NullLiteral l fs r o c h i = refl
same_below BooleanLiteral l fs r o c h i = refl
same_below NumericLiteral l fs r o c h i = refl
same_below BigIntLiteral l fs r o c h i = refl
same_below StringLiteral l fs r o c h i = refl
same_below UnaryExpression l fs r o c h i = refl
same_below UpdateExpression l fs r o c h zero = refl
same_below UpdateExpression l fs r o c h (suc i) = refl
same_below BinaryExpression l fs r o c h i = refl
same_below LogicalExpression l fs r o c h i = refl
same_below ConditionalExpression l fs r o c h i = refl
same_below AssignmentExpression l fs r o c h zero = refl
same_below AssignmentExpression l fs r o c h (suc i) = refl
same_below SequenceExpression l fs r o c h i = refl
same_below MemberExpression l fs r o c h i = name_role (is_name_place MemberExpression l i)
same_below CallExpression l fs r o c h i = refl
same_below NewExpression l fs r o c h i = refl
same_below ChainExpression l fs r o c h i = refl
same_below ParenthesizedExpression l fs r o c h zero = h
same_below ParenthesizedExpression l fs r o c h (suc i) = refl
same_below _ l fs r o c h i = absurd (cc c)

-- below a quiet place all is quiet
pub quiet_below : (k : AstType) (l : Label) (fs : Fields) (r : Role) → is_inner_kind k ≡ true → is_quiet r ≡ true → (i : ℕ) → is_quiet (role_at r k l fs i) ≡ true
quiet_below Directive l fs r c h i = refl
quiet_below ExpressionStatement l fs r c h i = refl
quiet_below Identifier l fs r c h i = refl
quiet_below ThisExpression l fs r c h i = refl
quiet_below NullLiteral l fs r c h i = refl
quiet_below BooleanLiteral l fs r c h i = refl
quiet_below NumericLiteral l fs r c h i = refl
quiet_below BigIntLiteral l fs r c h i = refl
quiet_below StringLiteral l fs r c h i = refl
quiet_below UnaryExpression l fs r c h i = refl
quiet_below UpdateExpression l fs r c h zero = refl
quiet_below UpdateExpression l fs r c h (suc i) = refl
quiet_below BinaryExpression l fs r c h i = refl
quiet_below LogicalExpression l fs r c h i = refl
quiet_below ConditionalExpression l fs r c h i = refl
quiet_below AssignmentExpression l fs r c h zero = refl
quiet_below AssignmentExpression l fs r c h (suc i) = refl
quiet_below SequenceExpression l fs r c h i = refl
quiet_below MemberExpression l fs r c h i = name_quiet (is_name_place MemberExpression l i)
quiet_below CallExpression l fs r c h i = refl
quiet_below NewExpression l fs r c h i = refl
quiet_below ChainExpression l fs r c h i = refl
quiet_below ParenthesizedExpression l fs r c h zero = h
quiet_below ParenthesizedExpression l fs r c h (suc i) = refl
quiet_below _ l fs r c h i = absurd (cc c)

-- TREES WITH THEIR ROLES

-- what is known of a node by its kind and its roles by both definitions
abbrev pub Own : AstType → Role → core.Role → Type 0
Own Program r o = ⊥
Own VariableDeclaration r o = is_quiet r ≡ false
Own VariableDeclarator r o = is_quiet r ≡ false
Own Identifier r o = core_role r ≡ o
Own _ r o = Unit {0}

abbrev mutual
  -- a part of a core program below the program itself, with its roles
  pub InTree : Role → core.Role → Tree → Type 0
  InTree r o (node k l fs) = (is_core_kind k ≡ true) × Own k r o × InFields (λ i. role_at r k l fs i) (core.role_at o k l) fs

  pub InFields : (ℕ → Role) → (ℕ → core.Role) → Fields → Type 0
  InFields rs os done = Unit {0}
  InFields rs os (f then fs) = InField (rs zero) (os zero) f × InFields (λ i. rs (suc i)) (λ i. os (suc i)) fs

  pub InField : Role → core.Role → Field → Type 0
  InField r o missing = Unit {0}
  InField r o (one t) = InTree r o t
  InField r o (many ts) = InTrees r ts
  InField r o (statements ts) = InTrees r ts

  pub InTrees : Role → Trees → Type 0
  InTrees r empty = Unit {0}
  InTrees r (t before ts) = InTree r core.reads t × InTrees r ts

-- a node at a quiet place is of an inner kind
pub quiet_kind : (k : AstType) (r : Role) (o : core.Role) → is_core_kind k ≡ true → Own k r o → is_quiet r ≡ true → is_inner_kind k ≡ true
quiet_kind Program r o c h q = absurd h
quiet_kind VariableDeclaration r o c h q = absurd (cc (sym h ∙ q))
quiet_kind VariableDeclarator r o c h q = absurd (cc (sym h ∙ q))
quiet_kind _ r o c h q = c

own_of : (k : AstType) (r : Role) (o : core.Role) → is_inner_kind k ≡ true → Needs k r o → Own k r o
own_of Program r o c h = absurd (cc c)
own_of VariableDeclaration r o c h = absurd (cc c)
own_of VariableDeclarator r o c h = absurd (cc c)
own_of Identifier r o c h = h
own_of _ r o c h = tt

-- KINDS BY THE TABLE

abbrev is_inner_sort : Sort → Bool
is_inner_sort s = list_all is_not_outer (kinds_of s)

-- a computed key or property is any expression, and so is a left side but of `in`
abbrev is_inner_place : Sort → Bool
is_inner_place s-PropertyKey = is_inner_sort s-PropertyKey && is_inner_sort s-Expression
is_inner_place s-MemberProperty = is_inner_sort s-MemberProperty && is_inner_sort s-Expression
is_inner_place s-BinaryLeft = is_inner_sort s-BinaryLeft && is_inner_sort s-Expression
is_inner_place s = is_inner_sort s

-- whether only inner kinds stand in a field, and no list but where a node has one
abbrev is_inner_content : Bool → Content → Bool
is_inner_content lists (c-Child s Required) = is_inner_place s
is_inner_content lists (c-Child s Optional) = is_inner_place s
is_inner_content lists (c-Child s a-List) = lists && is_inner_sort s
is_inner_content lists (c-Child s NonEmptyList) = lists && is_inner_sort s
is_inner_content lists (c-Child s ListWithRest) = lists && (is_inner_sort s && is_inner_sort (rest_sort s))
is_inner_content lists _ = false

abbrev pub are_inner : Bool → List Entry → Bool
are_inner lists [] = true
are_inner lists (e ∷ es) = is_inner_content lists e.content && are_inner lists es

-- the kinds with a list
abbrev has_list : AstType → Bool
has_list SequenceExpression = true
has_list CallExpression = true
has_list NewExpression = true
has_list _ = false

list_reads : (k : AstType) (l : Label) (fs : Fields) (r : Role) → has_list k ≡ true → (i : ℕ) → core_role (role_at r k l fs i) ≡ core.reads
list_reads SequenceExpression l fs r h i = refl
list_reads CallExpression l fs r h i = refl
list_reads NewExpression l fs r h i = refl
list_reads _ l fs r h i = absurd (cc h)

record InnerEntries (k : AstType) : Type 0 where
  entries : are_inner (has_list k) (child_entries k) ≡ true
  no_elements : elements_of (child_entries k) ≡ None

inner_entries : (k : AstType) → is_inner_kind k ≡ true → InnerEntries k
inner_entries Directive c = record { entries = refl; no_elements = refl }
inner_entries ExpressionStatement c = record { entries = refl; no_elements = refl }
inner_entries Identifier c = record { entries = refl; no_elements = refl }
inner_entries ThisExpression c = record { entries = refl; no_elements = refl }
inner_entries NullLiteral c = record { entries = refl; no_elements = refl }
inner_entries BooleanLiteral c = record { entries = refl; no_elements = refl }
inner_entries NumericLiteral c = record { entries = refl; no_elements = refl }
inner_entries BigIntLiteral c = record { entries = refl; no_elements = refl }
inner_entries StringLiteral c = record { entries = refl; no_elements = refl }
inner_entries UnaryExpression c = record { entries = refl; no_elements = refl }
inner_entries UpdateExpression c = record { entries = refl; no_elements = refl }
inner_entries BinaryExpression c = record { entries = refl; no_elements = refl }
inner_entries LogicalExpression c = record { entries = refl; no_elements = refl }
inner_entries ConditionalExpression c = record { entries = refl; no_elements = refl }
inner_entries AssignmentExpression c = record { entries = refl; no_elements = refl }
inner_entries SequenceExpression c = record { entries = refl; no_elements = refl }
inner_entries MemberExpression c = record { entries = refl; no_elements = refl }
inner_entries CallExpression c = record { entries = refl; no_elements = refl }
inner_entries NewExpression c = record { entries = refl; no_elements = refl }
inner_entries ChainExpression c = record { entries = refl; no_elements = refl }
inner_entries ParenthesizedExpression c = record { entries = refl; no_elements = refl }
inner_entries _ c = absurd (cc c)

either_sort : (b : Bool) (s u : Sort) → is_inner_sort s ≡ true → is_inner_sort u ≡ true → is_inner_sort (if b then s else u) ≡ true
either_sort true s u h g = h
either_sort false s u h g = g

inner_at : (k : AstType) (l : Label) (s : Sort) → is_inner_place s ≡ true → is_inner_sort (sort_at k l s) ≡ true
inner_at k l s-PropertyKey h = let d = and_parts (is_inner_sort s-PropertyKey) (is_inner_sort s-Expression) h in either_sort (is_computed k l) s-Expression s-PropertyKey d.1 d.0
inner_at k l s-MemberProperty h = let d = and_parts (is_inner_sort s-MemberProperty) (is_inner_sort s-Expression) h in either_sort (is_computed k l) s-Expression s-MemberProperty d.1 d.0
inner_at k l s-BinaryLeft h = let d = and_parts (is_inner_sort s-BinaryLeft) (is_inner_sort s-Expression) h in either_sort (is_in k l) s-BinaryLeft s-Expression d.0 d.1
inner_at k l _ h = h

inner_before : (s last : Sort) (ts : Trees) → is_inner_sort s ≡ true → is_inner_sort last ≡ true → is_inner_sort (sort_before_trees s last ts) ≡ true
inner_before s last empty h g = g
inner_before s last (t before ts) h g = h

-- FROM THE FORM TO THE ROLES

mutual
  pub in_tree : (s : Sort) (r : Role) (o : core.Role) (t : Tree) → is_inner_sort s ≡ true → has_form s t ≡ true → all_nodes is_core_node t ≡ true → Needs (kind_of t) r o → InTree r o t
  in_tree s r o (node k l fs) i h c needs =
      let own = and_parts (is_core_node k l fs) (all_in_fields is_core_node fs) c in
      let form = node_form s k l fs h in
      let inner = and_from (is_not_outer k) (is_core_kind k) (among_kinds is_not_outer k (kinds_of s) form.sort i) (core_kind k l fs own.0) in
      let entries = inner_entries k inner in (
        core_kind k l fs own.0,
        own_of k r o inner needs,
        in_fields k l (has_list k) (λ j. role_at r k l fs j) (core.role_at o k l) (child_entries k) fs (same_below k l fs r o inner needs) (list_reads k l fs r) entries.entries (plain_form k l fs entries.no_elements form.children) own.1,
      )

  pub in_fields : (k : AstType) (l : Label) (lists : Bool) (rs : ℕ → Role) (os : ℕ → core.Role) (es : List Entry) (fs : Fields) → ((i : ℕ) → core_role (rs i) ≡ os i) → (lists ≡ true → (i : ℕ) → core_role (rs i) ≡ core.reads)
      → are_inner lists es ≡ true → fields_form k l es fs ≡ true → all_in_fields is_core_node fs ≡ true → InFields rs os fs
  in_fields k l lists rs os [] done same all g h c = tt
  in_fields k l lists rs os (e ∷ es) (f then fs) same all g h c =
      let inner = and_parts (is_inner_content lists e.content) (are_inner lists es) g in
      let form = and_parts (field_form k l e.content f) (fields_form k l es fs) h in
      let below = and_parts (all_in_field is_core_node f) (all_in_fields is_core_node fs) c in (
        in_field k l lists (rs zero) (os zero) e.content f (same zero) (λ y. all y zero) inner.0 form.0 below.0,
        in_fields k l lists (λ i. rs (suc i)) (λ i. os (suc i)) es fs (λ i. same (suc i)) (λ y i. all y (suc i)) inner.1 form.1 below.1,
      )
  in_fields k l lists rs os [] (f then fs) same all g h c = absurd (cc h)
  in_fields k l lists rs os (e ∷ es) done same all g h c = absurd (cc h)

  in_field : (k : AstType) (l : Label) (lists : Bool) (r : Role) (o : core.Role) (c : Content) (f : Field) → core_role r ≡ o → (lists ≡ true → core_role r ≡ core.reads)
      → is_inner_content lists c ≡ true → field_form k l c f ≡ true → all_in_field is_core_node f ≡ true → InField r o f
  in_field k l lists r o c missing same all g h d = tt
  in_field k l lists r o (c-Child s Required) (one t) same all g h d = in_tree (sort_at k l s) r o t (inner_at k l s g) h d (needs_of (kind_of t) r o same)
  in_field k l lists r o (c-Child s Optional) (one t) same all g h d = in_tree (sort_at k l s) r o t (inner_at k l s g) h d (needs_of (kind_of t) r o same)
  in_field k l lists r o (c-Child s a-List) (many ts) same all g h d = let e = and_parts lists (is_inner_sort s) g in in_trees s s r ts e.1 e.1 h d (all e.0)
  in_field k l lists r o (c-Child s NonEmptyList) (many (t before ts)) same all g h d = let e = and_parts lists (is_inner_sort s) g in in_trees s s r (t before ts) e.1 e.1 h d (all e.0)
  in_field k l lists r o (c-Child s ListWithRest) (many ts) same all g h d =
      let e = and_parts lists (is_inner_sort s && is_inner_sort (rest_sort s)) g in
      let sorts = and_parts (is_inner_sort s) (is_inner_sort (rest_sort s)) e.1 in
      in_trees s (rest_sort s) r ts sorts.0 sorts.1 h d (all e.0)
  in_field k l lists r o (c-Child s Statements) (statements ts) same all g h d = absurd (cc g)
  in_field k l lists r o _ _ same all g h d = absurd (cc h)

  pub in_trees : (s last : Sort) (r : Role) (ts : Trees) → is_inner_sort s ≡ true → is_inner_sort last ≡ true → trees_form s last ts ≡ true → all_in_trees is_core_node ts ≡ true → core_role r ≡ core.reads → InTrees r ts
  in_trees s last r empty i j h c e = tt
  in_trees s last r (t before ts) i j h c e =
      let form = and_parts (has_form (sort_before_trees s last ts) t) (trees_form s last ts) h in
      let below = and_parts (all_nodes is_core_node t) (all_in_trees is_core_node ts) c in
      (in_tree (sort_before_trees s last ts) r core.reads t (inner_before s last ts i j) form.0 below.0 (needs_of (kind_of t) r core.reads e), in_trees s last r ts i j form.1 below.1 e)

pub in_node : (k : AstType) (l : Label) (fs : Fields) (r : Role) (o : core.Role) → is_inner_kind k ≡ true → fields_form k l (child_entries k) fs ≡ true → all_in_fields is_core_node fs ≡ true → Needs k r o → InTree r o (node k l fs)
in_node k l fs r o inner h c needs =
    let kind = (and_parts (is_not_outer k) (is_core_kind k) inner).1 in (
      kind,
      own_of k r o inner needs,
      in_fields k l (has_list k) (λ i. role_at r k l fs i) (core.role_at o k l) (child_entries k) fs (same_below k l fs r o inner needs) (list_reads k l fs r) (inner_entries k inner).entries h c,
    )
