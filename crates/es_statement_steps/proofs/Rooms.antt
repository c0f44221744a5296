-- What the form of a program of the class says of its nodes, as far as steps ask: where rows may act, and where lists of statements stand.
use Rattle.std.proofs.Common.{◌≡◌, ℕ, zero, suc, refl, ap, subst, ◌∙◌, List, [], ◌∷◌}
use Rattle.std.proofs.lemmas.Bool.{and_parts}
use Rattle.std.specs.Prelude.{Bool, true, false, not, ◌&&◌, ◌||◌, Some, if◌then◌else◌}
use Rattle.es_tree.specs.Attributes.{child_entries}
use Rattle.es_tree.specs.HasForm.{ElementsPlace, element_form, elements_form, elements_of, field_form, fields_form, has_form, same_type, sort_at, sort_before_fields, sort_before_trees, trees_form}
use Rattle.es_tree.specs.Table.{rest_sort}
use Rattle.es_tree.specs.Tree.{Tree, node, Label, Fields, done, ◌then◌, Field, missing, one, many, statements, Trees, empty, ◌before◌, kind_of}
use Rattle.es_tree.specs.Walks.{all_nodes, all_in_fields, all_in_field, all_in_trees}
use Rattle.es_tree.specs.declared.ast_type.AstType.{AstType}
use Rattle.es_tree.specs.declared.ast_type.AstType.TheVariants.{ArrayExpression, ArrayPattern, ArrayTarget, ArrowFunctionExpression, BlockStatement, CatchClause, Directive, DoWhileStatement, ForInStatement, ForOfStatement, ForStatement, FunctionBody, Identifier, IfStatement, ImportAttribute, ImportDefaultSpecifier, ImportNamespaceSpecifier, ImportSpecifier, LabeledStatement, MetaProperty, ObjectProperty, Program, StaticBlock, StringLiteral, SwitchCase, SwitchStatement, TryStatement, VariableDeclarator, WhileStatement}
use Rattle.es_tree.specs.declared.table.Content.{Content}
use Rattle.es_tree.specs.declared.table.Content.TheVariants.{Child as c-Child}
use Rattle.es_tree.specs.declared.table.Entry.{Entry}
use Rattle.es_tree.specs.declared.table.Often.TheVariants.{Required, Optional, List as a-List, NonEmptyList, ListWithRest, Statements}
use Rattle.es_tree.specs.declared.table.Sort.{Sort}
use Rattle.es_tree.proofs.NodeForm.{node_form}
use Rattle.es_semantic.proofs.FormEdges.{Edges, EdgesAll, EdgesBy, EdgesIn, ElementsFit, by-option, edges-inside, elements-are, entries_fit, is_last}
use Rattle.es_steps.specs.Open.{is_body}
use Rattle.es_statement_runs.specs.Programs.{is_statement_kind, is_statement_node}
use Rattle.es_statement_runs.proofs.Moved.{Room, room_in}
use Rattle.es_statement_runs.proofs.Moved.Room.{open_room, inner_room, closed_room}
use Rattle.es_statement_steps.proofs.Below.{Below, BelowField, BelowTrees}

-- ROOMS

-- kinds of directives, labels and of what imports have, and these with declarators, cases and the program
abbrev is_shut_kind : AstType → Bool
is_shut_kind Directive = true
is_shut_kind Identifier = true
is_shut_kind StringLiteral = true
is_shut_kind ImportAttribute = true
is_shut_kind ImportSpecifier = true
is_shut_kind ImportDefaultSpecifier = true
is_shut_kind ImportNamespaceSpecifier = true
is_shut_kind _ = false

abbrev pub stays_put : AstType → Bool
stays_put VariableDeclarator = true
stays_put SwitchCase = true
stays_put Program = true
stays_put k = is_shut_kind k

abbrev pub fits_room : Room → AstType → Bool
fits_room open_room j = true
fits_room inner_room j = stays_put j
fits_room closed_room j = is_shut_kind j

-- nodes in which a list of statements may stand that belongs to the same program
abbrev pub is_holder : AstType → Bool
is_holder Program = true
is_holder BlockStatement = true
is_holder IfStatement = true
is_holder ForStatement = true
is_holder ForInStatement = true
is_holder ForOfStatement = true
is_holder WhileStatement = true
is_holder DoWhileStatement = true
is_holder LabeledStatement = true
is_holder SwitchStatement = true
is_holder SwitchCase = true
is_holder TryStatement = true
is_holder CatchClause = true
is_holder _ = false

abbrev room_fits : AstType → ℕ → Bool → AstType → Bool
room_fits k i last j = (not (same_type j Program) && (not (is_holder j) || (is_holder k || not (is_statement_kind k)))) && (fits_room (room_in open_room k i) j && (not (is_shut_kind k) || is_shut_kind j))

entries-fit : (k : AstType) → entries_fit room_fits k 0 (child_entries k) ≡ true
entries-fit Program = refl
entries-fit _ = refl

elements-fit : (k : AstType) (p : ElementsPlace) → elements_of (child_entries k) ≡ Some p → ElementsFit room_fits k p
elements-fit ArrayExpression p e = elements-are room_fits ArrayExpression _ p e (record { sort = λ i b. refl; last = λ i b. refl })
elements-fit ArrayPattern p e = elements-are room_fits ArrayPattern _ p e (record { sort = λ i b. refl; last = λ i b. refl })
elements-fit ArrayTarget p e = elements-are room_fits ArrayTarget _ p e (record { sort = λ i b. refl; last = λ i b. refl })
elements-fit _ p e = absurd (cc e)

inner-room : (k : AstType) (i : ℕ) → room_in inner_room k i ≡ room_in open_room k i
inner-room Program zero = refl
inner-room LabeledStatement zero = refl
inner-room SwitchStatement (suc i) = refl
inner-room _ i = refl

pub closed-room : (k : AstType) (i : ℕ) → room_in closed_room k i ≡ closed_room
closed-room Program zero = refl
closed-room LabeledStatement zero = refl
closed-room SwitchStatement (suc i) = refl
closed-room _ i = refl

left-so : (a b : Bool) → a ≡ true → (not a || b) ≡ true → b ≡ true
left-so true b e h = h
left-so false b e h = absurd (cc e)

left-or : (a b : Bool) → b ≡ true → (a || not b) ≡ true → a ≡ true
left-or true b e h = refl
left-or false true e h = absurd (cc h)
left-or false false e h = absurd (cc e)

kind-of-node : (k : AstType) (l : Label) (fs : Fields) → is_statement_node k l fs ≡ true → is_statement_kind k ≡ true
kind-of-node ObjectProperty l fs h = refl
kind-of-node MetaProperty l fs h = refl
kind-of-node _ l fs h = h

room-below : (r : Room) (k : AstType) (i : ℕ) (j : AstType) → fits_room r k ≡ true → (fits_room (room_in open_room k i) j && (not (is_shut_kind k) || is_shut_kind j)) ≡ true → fits_room (room_in r k i) j ≡ true
room-below open_room k i j e h = (and_parts (fits_room (room_in open_room k i) j) (not (is_shut_kind k) || is_shut_kind j) h).0
room-below inner_room k i j e h = ap (λ q. fits_room q j) (inner-room k i) ∙ (and_parts (fits_room (room_in open_room k i) j) (not (is_shut_kind k) || is_shut_kind j) h).0
room-below closed_room k i j e h = ap (λ q. fits_room q j) (closed-room k i) ∙ left-so (is_shut_kind k) (is_shut_kind j) e (and_parts (fits_room (room_in open_room k i) j) (not (is_shut_kind k) || is_shut_kind j) h).1

-- what acts stands in an open room
pub opened-here : (r : Room) (k : AstType) → fits_room r k ≡ true → stays_put k ≡ false → r ≡ open_room
opened-here open_room k h e = refl
opened-here inner_room k h e = absurd (cc (h, e))
opened-here closed_room k h e = absurd (shut k h e)
  where
    shut : (k : AstType) → is_shut_kind k ≡ true → stays_put k ≡ false → ⊥
    shut Directive h e = absurd (cc e)
    shut Identifier h e = absurd (cc e)
    shut StringLiteral h e = absurd (cc e)
    shut ImportAttribute h e = absurd (cc e)
    shut ImportSpecifier h e = absurd (cc e)
    shut ImportDefaultSpecifier h e = absurd (cc e)
    shut ImportNamespaceSpecifier h e = absurd (cc e)
    shut _ h e = absurd (cc h)

-- WHAT IS KNOWN OF A TREE: its form, at some place, its class, and that it stands where it may

pub record Stood (above : AstType) (r : Room) (t : Tree) : Type 0 where
  pub sort : Sort
  pub form : has_form sort t ≡ true
  pub class : all_nodes is_statement_node t ≡ true
  pub room : fits_room r (kind_of t) ≡ true
  pub nested : not (same_type (kind_of t) Program) ≡ true
  pub held : is_holder (kind_of t) ≡ true → is_holder above ≡ true

abbrev pub StoodIn : Room → AstType → Fields → Type 0
StoodIn r k fs = Below (λ i t. Stood k (room_in r k i) t) fs

-- what is known of a field of this kind's node
module _ (r : Room) (k : AstType) (l : Label) (fit : fits_room r k ≡ true) (class : is_statement_kind k ≡ true) where
  inside-tree : (i : ℕ) (last : Bool) (s : Sort) (t : Tree) → has_form s t ≡ true → all_nodes is_statement_node t ≡ true → Edges room_fits k i last t → Stood k (room_in r k i) t
  inside-tree i last s (node j m gs) h c e =
      let parts = and_parts (not (same_type j Program) && (not (is_holder j) || (is_holder k || not (is_statement_kind k)))) (fits_room (room_in open_room k i) j && (not (is_shut_kind k) || is_shut_kind j)) e.0 in
      let p = and_parts (not (same_type j Program)) (not (is_holder j) || (is_holder k || not (is_statement_kind k))) parts.0 in
      record { sort = s; form = h; class = c; room = room-below r k i j fit parts.1; nested = p.0; held = λ d. left-or (is_holder k) (is_statement_kind k) class (left-so (is_holder j) (is_holder k || not (is_statement_kind k)) d p.1) }

  inside-trees : (i : ℕ) (s last : Sort) (ts : Trees) → trees_form s last ts ≡ true → all_in_trees is_statement_node ts ≡ true → EdgesAll room_fits k i ts → BelowTrees (Stood k (room_in r k i)) ts
  inside-trees i s last empty h c e = tt
  inside-trees i s last (t before ts) h c e =
      let f = and_parts (has_form (sort_before_trees s last ts) t) (trees_form s last ts) h in
      let d = and_parts (all_nodes is_statement_node t) (all_in_trees is_statement_node ts) c in
      (inside-tree i false (sort_before_trees s last ts) t f.0 d.0 e.0, inside-trees i s last ts f.1 d.1 e.1)

  inside-field : (i : ℕ) (last : Bool) (c : Content) (f : Field) → field_form k l c f ≡ true → all_in_field is_statement_node f ≡ true → EdgesBy room_fits k i last f → BelowField (Stood k (room_in r k i)) f
  inside-field i last (c-Child s Required) (one t) h c e = inside-tree i last (sort_at k l s) t h c e
  inside-field i last (c-Child s Optional) missing h c e = tt
  inside-field i last (c-Child s Optional) (one t) h c e = inside-tree i last (sort_at k l s) t h c e
  inside-field i last (c-Child s a-List) (many ts) h c e = inside-trees i s s ts h c e
  inside-field i last (c-Child s NonEmptyList) (many (t before ts)) h c e = inside-trees i s s (t before ts) h c e
  inside-field i last (c-Child s ListWithRest) (many ts) h c e = inside-trees i s (rest_sort s) ts h c e
  inside-field i last (c-Child s Statements) (statements ts) h c e = inside-trees i s s ts h c e
  inside-field i last _ f h c e = absurd (cc h)

  inside-element : (i : ℕ) (last : Bool) (s : Sort) (f : Field) → element_form s f ≡ true → all_in_field is_statement_node f ≡ true → EdgesBy room_fits k i last f → BelowField (Stood k (room_in r k i)) f
  inside-element i last s missing h c e = tt
  inside-element i last s (one t) h c e = inside-tree i last s t h c e
  inside-element i last s (many ts) h c e = absurd (cc h)
  inside-element i last s (statements ts) h c e = absurd (cc h)

  inside-fields : (at : ℕ → ℕ) → ((n : ℕ) → suc (at n) ≡ at (suc n)) → (es : List Entry) (fs : Fields) → fields_form k l es fs ≡ true → all_in_fields is_statement_node fs ≡ true → EdgesIn room_fits k (at zero) fs → Below (λ n t. Stood k (room_in r k (at n)) t) fs
  inside-fields at next [] done h c e = tt
  inside-fields at next [] (f then fs) h c e = absurd (cc h)
  inside-fields at next (x ∷ es) done h c e = absurd (cc h)
  inside-fields at next (x ∷ es) (f then fs) h c e =
      let b = and_parts (field_form k l x.content f) (fields_form k l es fs) h in
      let d = and_parts (all_in_field is_statement_node f) (all_in_fields is_statement_node fs) c in
      (inside-field (at zero) (is_last fs) x.content f b.0 d.0 e.0, inside-fields (λ n. at (suc n)) (λ n. next (suc n)) es fs b.1 d.1 (subst (λ i. EdgesIn room_fits k i fs) (next zero) e.1))

  inside-elements : (at : ℕ → ℕ) → ((n : ℕ) → suc (at n) ≡ at (suc n)) → (s last : Sort) (fs : Fields) → elements_form s last fs ≡ true → all_in_fields is_statement_node fs ≡ true → EdgesIn room_fits k (at zero) fs → Below (λ n t. Stood k (room_in r k (at n)) t) fs
  inside-elements at next s last done h c e = tt
  inside-elements at next s last (f then fs) h c e =
      let b = and_parts (element_form (sort_before_fields s last fs) f) (elements_form s last fs) h in
      let d = and_parts (all_in_field is_statement_node f) (all_in_fields is_statement_node fs) c in
      (inside-element (at zero) (is_last fs) (sort_before_fields s last fs) f b.0 d.0 e.0, inside-elements (λ n. at (suc n)) (λ n. next (suc n)) s last fs b.1 d.1 (subst (λ i. EdgesIn room_fits k i fs) (next zero) e.1))

-- so it is of what stands in the fields of a node
pub formed-inside : (r : Room) (s : Sort) (k : AstType) (l : Label) (fs : Fields) → has_form s (node k l fs) ≡ true → all_nodes is_statement_node (node k l fs) ≡ true → fits_room r k ≡ true → StoodIn r k fs
formed-inside r s k l fs h d fit =
    let c = (and_parts (is_statement_node k l fs) (all_in_fields is_statement_node fs) d).1 in
    let kind = kind-of-node k l fs (and_parts (is_statement_node k l fs) (all_in_fields is_statement_node fs) d).0 in
    let e = edges-inside room_fits (record { entries = entries-fit; elements = elements-fit }) s k l fs h in
    by-option (elements_of (child_entries k)) (fields_form k l (child_entries k) fs) (λ p. elements_form p.sort p.last fs) (StoodIn r k fs) (node_form s k l fs h).children
    (λ f. inside-fields r k l fit kind (λ n. n) (λ n. refl) (child_entries k) fs f c e)
    (λ p o f. inside-elements r k l fit kind (λ n. n) (λ n. refl) p.sort p.last fs f c e)

pub stood-inside : (o : AstType) (r : Room) (k : AstType) (l : Label) (fs : Fields) → Stood o r (node k l fs) → StoodIn r k fs
stood-inside o r k l fs h = formed-inside r h.sort k l fs h.form h.class h.room

-- LISTS OF STATEMENTS stand in a program, in blocks and in cases

abbrev pub NoList : Field → Type 0
NoList (statements ts) = ⊥
NoList _ = Unit {0}

abbrev pub NoLists : Fields → Type 0
NoLists done = Unit {0}
NoLists (f then fs) = NoList f × NoLists fs

abbrev lists_content : Content → Bool
lists_content (c-Child s Statements) = true
lists_content _ = false

abbrev lists_entries : List Entry → Bool
lists_entries [] = false
lists_entries (e ∷ es) = lists_content e.content || lists_entries es

abbrev pub has_list : AstType → Bool
has_list Program = true
has_list BlockStatement = true
has_list SwitchCase = true
has_list StaticBlock = true
has_list FunctionBody = true
has_list _ = false

none-listed : (k : AstType) → has_list k ≡ false → lists_entries (child_entries k) ≡ false
none-listed Program h = absurd (cc h)
none-listed BlockStatement h = absurd (cc h)
none-listed SwitchCase h = absurd (cc h)
none-listed StaticBlock h = absurd (cc h)
none-listed FunctionBody h = absurd (cc h)
none-listed _ h = refl

module _ (k : AstType) (l : Label) where
  unlisted-field : (c : Content) (f : Field) → lists_content c ≡ false → field_form k l c f ≡ true → NoList f
  unlisted-field c missing e h = tt
  unlisted-field c (one t) e h = tt
  unlisted-field c (many ts) e h = tt
  unlisted-field (c-Child s Statements) (statements ts) e h = absurd (cc e)
  unlisted-field c (statements ts) e h = absurd (cc h)

  or-none : (a b : Bool) → (a || b) ≡ false → (a ≡ false) × (b ≡ false)
  or-none true b h = absurd (cc h)
  or-none false b h = (refl, h)

  unlisted-fields : (es : List Entry) (fs : Fields) → lists_entries es ≡ false → fields_form k l es fs ≡ true → NoLists fs
  unlisted-fields es done e h = tt
  unlisted-fields [] (f then fs) e h = absurd (cc h)
  unlisted-fields (x ∷ es) (f then fs) e h =
      let o = or-none (lists_content x.content) (lists_entries es) e in
      let b = and_parts (field_form k l x.content f) (fields_form k l es fs) h in
      (unlisted-field x.content f o.0 b.0, unlisted-fields es fs o.1 b.1)

  unlisted-elements : (s last : Sort) (fs : Fields) → elements_form s last fs ≡ true → NoLists fs
  unlisted-elements s last done h = tt
  unlisted-elements s last (f then fs) h = let b = and_parts (element_form (sort_before_fields s last fs) f) (elements_form s last fs) h in (element f b.0, unlisted-elements s last fs b.1)
    where
      element : (f : Field) → element_form (sort_before_fields s last fs) f ≡ true → NoList f
      element missing e = tt
      element (one t) e = tt
      element (many ts) e = tt
      element (statements ts) e = absurd (cc e)

pub unlisted : (o : AstType) (r : Room) (k : AstType) (l : Label) (fs : Fields) → Stood o r (node k l fs) → has_list k ≡ false → NoLists fs
unlisted o r k l fs h e =
    by-option (elements_of (child_entries k)) (fields_form k l (child_entries k) fs) (λ p. elements_form p.sort p.last fs) (NoLists fs) (node_form h.sort k l fs h.form).children
    (λ d. unlisted-fields k l (child_entries k) fs (none-listed k e) d)
    (λ p o d. unlisted-elements k l p.sort p.last fs d)

-- the fields of a block, of a case, and of a program
abbrev pub IsBlock : Fields → Type 0
IsBlock (statements ts then done) = Unit {0}
IsBlock _ = ⊥

abbrev pub IsCase : Fields → Type 0
IsCase (f then (statements ts then done)) = NoList f
IsCase _ = ⊥

abbrev pub IsProgram : Fields → Type 0
IsProgram (many ds then (statements ts then done)) = Unit {0}
IsProgram _ = ⊥

pub block-longer : (f g : Field) (fs : Fields) → IsBlock (f then (g then fs)) → ⊥
block-longer missing g fs h = h
block-longer (one t) g fs h = h
block-longer (many ts) g fs h = h
block-longer (statements ts) g fs h = h

pub case-longer : (f g h : Field) (fs : Fields) → IsCase (f then (g then (h then fs))) → ⊥
case-longer f missing h fs e = e
case-longer f (one t) h fs e = e
case-longer f (many ts) h fs e = e
case-longer f (statements ts) h fs e = e

pub program-first : (f : Field) (fs : Fields) → IsProgram (f then fs) → NoList f
program-first missing fs h = tt
program-first (one t) fs h = tt
program-first (many ts) fs h = tt
program-first (statements ts) fs h = absurd h

pub program-second : (f g : Field) (fs : Fields) → IsProgram (f then (g then fs)) → NoList g → ⊥
program-second missing g fs e n = e
program-second (one t) g fs e n = e
program-second (statements ts) g fs e n = e
program-second (many ds) missing fs e n = e
program-second (many ds) (one t) fs e n = e
program-second (many ds) (many ts) fs e n = e
program-second (many ds) (statements ts) fs e n = n

pub program-longer : (f g h : Field) (fs : Fields) → IsProgram (f then (g then (h then fs))) → ⊥
program-longer missing g h fs e = e
program-longer (one t) g h fs e = e
program-longer (statements ts) g h fs e = e
program-longer (many ds) missing h fs e = e
program-longer (many ds) (one t) h fs e = e
program-longer (many ds) (many ts) h fs e = e
program-longer (many ds) (statements ts) h fs e = e

-- no list stands in a closed room
pub shut-unlisted : (k : AstType) → fits_room closed_room k ≡ true → has_list k ≡ false
shut-unlisted Program h = absurd (cc h)
shut-unlisted BlockStatement h = absurd (cc h)
shut-unlisted SwitchCase h = absurd (cc h)
shut-unlisted StaticBlock h = absurd (cc h)
shut-unlisted FunctionBody h = absurd (cc h)
shut-unlisted _ h = refl

-- which nodes have one
pub data ListKind (k : AstType) : Type 0 where
  block_kind : k ≡ BlockStatement → ListKind k
  case_kind : k ≡ SwitchCase → ListKind k
  other_kind : has_list k ≡ false → ListKind k

pub list-kind : (k : AstType) → is_statement_kind k ≡ true → not (same_type k Program) ≡ true → ListKind k
list-kind BlockStatement c n = block_kind refl
list-kind SwitchCase c n = case_kind refl
list-kind Program c n = absurd (cc n)
list-kind StaticBlock c n = absurd (cc c)
list-kind FunctionBody c n = absurd (cc c)
list-kind _ c n = other_kind refl

pub by-list : {X : Type 0} (k : AstType) → ListKind k → (k ≡ BlockStatement → X) → (k ≡ SwitchCase → X) → (has_list k ≡ false → X) → X
by-list k (block_kind e) f g h = f e
by-list k (case_kind e) f g h = g e
by-list k (other_kind e) f g h = h e

no-end : (a : Bool) → (a && false) ≡ true → ⊥
no-end true e = absurd (cc e)
no-end false e = absurd (cc e)

no-end-after : (a b : Bool) → (a && (b && false)) ≡ true → ⊥
no-end-after true b e = no-end b e
no-end-after false b e = absurd (cc e)

pub block-fields : (s : Sort) (l : Label) (fs : Fields) → has_form s (node BlockStatement l fs) ≡ true → IsBlock fs
block-fields s l fs h = shape fs (node_form s BlockStatement l fs h).children
  where
    shape : (fs : Fields) → fields_form BlockStatement l (child_entries BlockStatement) fs ≡ true → IsBlock fs
    shape done e = absurd (cc e)
    shape (missing then fs) e = absurd (cc e)
    shape (one t then fs) e = absurd (cc e)
    shape (many ts then fs) e = absurd (cc e)
    shape (statements ts then done) e = tt
    shape (statements ts then (f then fs)) e = absurd (no-end _ e)

pub program-fields : (s : Sort) (l : Label) (fs : Fields) → has_form s (node Program l fs) ≡ true → IsProgram fs
program-fields s l fs h = shape fs (node_form s Program l fs h).children
  where
    shape : (fs : Fields) → fields_form Program l (child_entries Program) fs ≡ true → IsProgram fs
    shape done e = absurd (cc e)
    shape (missing then fs) e = absurd (cc e)
    shape (one t then fs) e = absurd (cc e)
    shape (statements ts then fs) e = absurd (cc e)
    shape (many ds then done) e = absurd (no-end _ e)
    shape (many ds then (missing then fs)) e = absurd (no-end _ e)
    shape (many ds then (one t then fs)) e = absurd (no-end _ e)
    shape (many ds then (many ts then fs)) e = absurd (no-end _ e)
    shape (many ds then (statements ts then done)) e = tt
    shape (many ds then (statements ts then (f then fs))) e = absurd (no-end-after _ _ e)

pub case-fields : (s : Sort) (l : Label) (fs : Fields) → has_form s (node SwitchCase l fs) ≡ true → IsCase fs
case-fields s l fs h = shape fs (node_form s SwitchCase l fs h).children
  where
    shape : (fs : Fields) → fields_form SwitchCase l (child_entries SwitchCase) fs ≡ true → IsCase fs
    shape done e = absurd (cc e)
    shape (f then done) e = absurd (no-end _ e)
    shape (f then (missing then fs)) e = absurd (no-end _ e)
    shape (f then (one t then fs)) e = absurd (no-end _ e)
    shape (f then (many ts then fs)) e = absurd (no-end _ e)
    shape (missing then (statements ts then done)) e = tt
    shape (one t then (statements ts then done)) e = tt
    shape (many us then (statements ts then done)) e = absurd (cc e)
    shape (statements us then (statements ts then done)) e = absurd (cc e)
    shape (f then (statements ts then (g then fs))) e = absurd (no-end-after _ _ e)

-- no arrow stands in it
pub no-body : (o : AstType) (r : Room) (k : AstType) (l : Label) (fs : Fields) → Stood o r (node k l fs) → (i : ℕ) → is_body k i ≡ false
no-body o r k l fs h = at k (and_parts (is_statement_node k l fs) (all_in_fields is_statement_node fs) h.class).0
  where
    at : (k : AstType) → is_statement_node k l fs ≡ true → (i : ℕ) → is_body k i ≡ false
    at ArrowFunctionExpression e i = absurd (cc e)
    at _ e i = refl
