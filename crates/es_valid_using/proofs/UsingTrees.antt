-- Where one node of a tree has changed, the tree has form as before, and keeps the static rules of places: by what a rule owes for that node.
use Rattle.std.proofs.Common.{◌≡◌, ℕ, zero, suc, inl, inr, refl, sym, ap, subst, ◌∙◌, List, [], ◌∷◌}
use Rattle.std.specs.Prelude.{◌⊎◌, Bool, true, false, not, ◌&&◌, ◌||◌, Option, Some, None, if◌then◌else◌}
use Rattle.std.proofs.lemmas.Bool.{and_parts, and_from}
use Rattle.es_tree.specs.Ancestors.{Ancestor, ancestor, has_loop_body, is_labeled_loop}
use Rattle.es_tree.specs.Attributes.{child_entries}
use Rattle.es_tree.specs.HasForm.{ElementsPlace, element_form, elements_form, elements_of, field_form, fields_form, has_form, is_computed, is_in, is_of_sort, match_option, same_type, sort_at, sort_before_fields, sort_before_trees, trees_form}
use Rattle.es_tree.specs.Scopes.{name_in, own_text}
use Rattle.es_tree.specs.Table.{rest_sort}
use Rattle.es_tree.specs.Tree.{Tree, node, Label, Fields, done, ◌then◌, Field, missing, one, many, statements, Trees, empty, ◌before◌, kind_of}
use Rattle.es_tree.specs.declared.ast_type.AstType.{AstType}
use Rattle.es_tree.specs.declared.ast_type.AstType.TheVariants.{ArrayExpression, ArrayPattern, ArrayTarget, BlockStatement, Identifier, LabeledStatement, Program, TryStatement}
use Rattle.es_tree.specs.declared.table.Content.{Content}
use Rattle.es_tree.specs.declared.table.Content.TheVariants.{Child as c-Child}
use Rattle.es_tree.specs.declared.table.Entry.{Entry}
use Rattle.es_tree.specs.declared.table.Often.TheVariants.{Required, Optional, List as a-List, NonEmptyList, ListWithRest, Statements}
use Rattle.es_tree.specs.declared.table.Sort.{Sort}
use Rattle.es_tree.specs.declared.table.Sort.TheVariants.{BinaryLeft as s-BinaryLeft, Expression as s-Expression, MemberProperty as s-MemberProperty, PropertyKey as s-PropertyKey}
use Rattle.es_tree.proofs.NodeForm.{node_form, has_form-node}
use Rattle.es_semantic.proofs.FormEdges.{EdgesIn, is_last, same-kind}
use Rattle.es_steps.proofs.FormOpen.{Begins}
use Rattle.es_steps.proofs.FormPlaces.{agree-kept, before-fields, before-trees, outlined, outlined_field, outlined_trees}
use Rattle.es_steps.specs.Nodes.{word}
use Rattle.es_steps.specs.Steps.{Ledger, Site, Spot}
use Rattle.es_steps.specs.Steps.Spot.{at_node}
use Rattle.es_steps.specs.UsingBlocks.{is_statement_place}
use Rattle.es_steps.specs.UsingLoops.{is_labelled}
use Rattle.es_valid_steps.specs.PlaceRules.{Keeps, KeepsAll, KeepsBy, KeepsIn}
use Rattle.es_valid_steps.proofs.Changed.{Changed, ChangedField, ChangedFields, ChangedTrees, same-fields, same-trees}
use Rattle.es_valid_steps.proofs.Changed.Changed.{inside}
use Rattle.es_valid_steps.proofs.Changed.ChangedField.{same_field, child_changed, children_changed, list_changed}
use Rattle.es_valid_steps.proofs.Changed.ChangedFields.{more}
use Rattle.es_valid_steps.proofs.Changed.ChangedTrees.{some}
use Rattle.es_valid_steps.proofs.Changed.Changed.{stays}
use Rattle.es_valid_steps.proofs.Edges.{edges, label-kind, stands}
use Rattle.es_valid_steps.proofs.KeptNodes.{alike-changed, here-kept}
use Rattle.es_valid_steps.proofs.Moves.{in-moved}
use Rattle.es_valid_steps.proofs.Offers.{Alike, Near, Offers, near-self, near-within, offers-self, offers-within}
use Rattle.es_valid_using.proofs.Frames.{SameLabel, frame-alike, frame-all, frame-here, is_frame, is_plain_sort}
use Rattle.es_valid_using.proofs.UsingMoves.{ActsAlone, Becomes, FieldBecomes, FieldsBecome, TreesBecome, in_label, in_statement}
use Rattle.es_valid_using.proofs.UsingMoves.Becomes.{here, deep}
use Rattle.es_valid_using.proofs.UsingMoves.FieldsBecome.{at_first, at_later}
use Rattle.es_valid_using.proofs.UsingMoves.FieldBecomes.{at_one, at_many, at_statements}
use Rattle.es_valid_using.proofs.UsingMoves.TreesBecome.{at_head, at_tail}

-- WHAT A RULE OWES for the node on which it acts

-- where a block may stand so may a `try`
abbrev pub lets_try : Sort → Bool
lets_try s = not (is_of_sort s BlockStatement) || is_of_sort s TryStatement

-- one frame became another
pub record Framed (t u : Tree) : Type 0 where
  pub was : is_frame (kind_of t) ≡ true
  pub is : is_frame (kind_of u) ≡ true

pub record UsingLawful (U : Site → Ledger → Spot → Ledger → Spot → Type 0) : Type 0 where
  pub alone : ActsAlone U
  pub formed : (n : Site) (s s' : Ledger) (t u : Tree) (a : Sort) → (is_statement_place n.above ≡ true → lets_try a ≡ true) → U n s (at_node t) s' (at_node u) → has_form a t ≡ true → has_form a u ≡ true
  pub keeps : (n : Site) (s s' : Ledger) (t u : Tree) (a : Sort) (up : List Ancestor) → U n s (at_node t) s' (at_node u) → has_form a t ≡ true → Keeps up t → Keeps up u
  pub seen : (n : Site) (s s' : Ledger) (t u : Tree) → U n s (at_node t) s' (at_node u) → Changed false t u ⊎ Framed t u
  pub loops : (n : Site) (s s' : Ledger) (t u : Tree) → is_labelled n.above ≡ true → U n s (at_node t) s' (at_node u) → is_labeled_loop u ≡ is_labeled_loop t
  pub names : (n : Site) (s s' : Ledger) (t u : Tree) → kind_of t ≡ Identifier → U n s (at_node t) s' (at_node u) → ⊥

-- FIELDS BY THE TABLE: frames stand by themselves in frames alone, and a block that is a statement where a `try` may

abbrev content_lets : AstType → Bool → Content → Bool
content_lets k b (c-Child s Required) = (not b || lets_try s) && (is_frame k || is_plain_sort s)
content_lets k b (c-Child s Optional) = (not b || lets_try s) && (is_frame k || is_plain_sort s)
content_lets k b (c-Child s a-List) = is_plain_sort s
content_lets k b (c-Child s NonEmptyList) = is_plain_sort s
content_lets k b (c-Child s ListWithRest) = is_plain_sort s && is_plain_sort (rest_sort s)
content_lets k b (c-Child s Statements) = not b || lets_try s
content_lets k b c = true

abbrev entries_let : AstType → (ℕ → Bool) → List Entry → Bool
entries_let k p [] = true
entries_let k p (e ∷ es) = content_lets k (p zero) e.content && entries_let k (λ i. p (suc i)) es

all-let : (k : AstType) → entries_let k (in_statement k) (child_entries k) ≡ true
all-let Program = refl
all-let _ = refl

record ElementsPlain (p : ElementsPlace) : Type 0 where
  sort : is_plain_sort p.sort ≡ true
  last : is_plain_sort p.last ≡ true

abbrev PlainBy : Option ElementsPlace → Type 0
PlainBy None = Unit {0}
PlainBy (Some p) = ElementsPlain p

elements-are : (a p : ElementsPlace) → ◌≡◌ {A = Option ElementsPlace} (Some a) (Some p) → ElementsPlain a → ElementsPlain p
elements-are a p e h = subst (λ (o : Option ElementsPlace). PlainBy o) e h

elements-plain : (k : AstType) (p : ElementsPlace) → elements_of (child_entries k) ≡ Some p → ElementsPlain p
elements-plain ArrayExpression p e = elements-are _ p e (record { sort = refl; last = refl })
elements-plain ArrayPattern p e = elements-are _ p e (record { sort = refl; last = refl })
elements-plain ArrayTarget p e = elements-are _ p e (record { sort = refl; last = refl })
elements-plain _ p e = absurd (cc e)

either-sort : (v : Bool) (x y : Sort) (q : Sort → Bool) → q x ≡ true → q y ≡ true → q (if v then x else y) ≡ true
either-sort true x y q e d = e
either-sort false x y q e d = d

plain-at : (k : AstType) (l : Label) (s : Sort) → is_plain_sort s ≡ true → is_plain_sort (sort_at k l s) ≡ true
plain-at k l s-PropertyKey h = either-sort (is_computed k l) s-Expression s-PropertyKey (λ s. is_plain_sort s) refl refl
plain-at k l s-MemberProperty h = either-sort (is_computed k l) s-Expression s-MemberProperty (λ s. is_plain_sort s) refl refl
plain-at k l s-BinaryLeft h = either-sort (is_in k l) s-BinaryLeft s-Expression (λ s. is_plain_sort s) refl refl
plain-at k l _ h = h

lets-at : (k : AstType) (l : Label) (s : Sort) → lets_try s ≡ true → lets_try (sort_at k l s) ≡ true
lets-at k l s-PropertyKey h = either-sort (is_computed k l) s-Expression s-PropertyKey (λ s. lets_try s) refl refl
lets-at k l s-MemberProperty h = either-sort (is_computed k l) s-Expression s-MemberProperty (λ s. lets_try s) refl refl
lets-at k l s-BinaryLeft h = either-sort (is_in k l) s-BinaryLeft s-Expression (λ s. lets_try s) refl refl
lets-at k l _ h = h

plain-lets : (s : Sort) → is_plain_sort s ≡ true → lets_try s ≡ true
plain-lets s h = ap (λ v. v || is_of_sort s TryStatement) (frame-all (λ k. not (is_of_sort s k)) BlockStatement refl h)

clash : (b : Bool) → not b ≡ true → b ≡ true → ⊥
clash true e d = absurd (cc e)
clash false e d = absurd (cc d)

no-frame : (s : Sort) (t : Tree) → is_plain_sort s ≡ true → has_form s t ≡ true → is_frame (kind_of t) ≡ true → ⊥
no-frame s (node k l fs) e h d = clash (is_of_sort s k) (frame-all (λ j. not (is_of_sort s j)) k d e) (node_form s k l fs h).sort

pub or-first : (a b : Bool) → (not a || b) ≡ true → a ≡ true → b ≡ true
or-first true b e d = e
or-first false b e d = absurd (cc d)

or-second : (a b : Bool) → (a || b) ≡ true → a ≡ false → b ≡ true
or-second true b e d = absurd (cc d)
or-second false b e d = e

record OneLets (k : AstType) (b : Bool) (test : Field → Bool) (t : Tree) : Type 0 where
  sort : Sort
  formed : has_form sort t ≡ true
  lets : b ≡ true → lets_try sort ≡ true
  plain : is_frame k ≡ false → is_plain_sort sort ≡ true
  back : (u : Tree) → has_form sort u ≡ true → test (one u) ≡ true

record ManyLet (test : Field → Bool) (ts : Trees) : Type 0 where
  sort : Sort
  last : Sort
  formed : trees_form sort last ts ≡ true
  plain : is_plain_sort sort ≡ true
  plain_last : is_plain_sort last ≡ true
  back : (us : Trees) → Begins us → trees_form sort last us ≡ true → test (many us) ≡ true

record StatementsLet (b : Bool) (test : Field → Bool) (ts : Trees) : Type 0 where
  sort : Sort
  formed : trees_form sort sort ts ≡ true
  lets : b ≡ true → lets_try sort ≡ true
  back : (us : Trees) → trees_form sort sort us ≡ true → test (statements us) ≡ true

record Lets (k : AstType) (b : Bool) (test : Field → Bool) : Type 0 where
  at_a_node : (t : Tree) → test (one t) ≡ true → OneLets k b test t
  at_nodes : (ts : Trees) → test (many ts) ≡ true → ManyLet test ts
  at_a_list : (ts : Trees) → test (statements ts) ≡ true → StatementsLet b test ts

module _ (k : AstType) (l : Label) (b : Bool) where
  one-lets : (c : Content) → content_lets k b c ≡ true → (t : Tree) → field_form k l c (one t) ≡ true → OneLets k b (field_form k l c) t
  one-lets (c-Child s Required) e t h = let p = and_parts (not b || lets_try s) (is_frame k || is_plain_sort s) e in record { sort = sort_at k l s; formed = h; lets = λ d. lets-at k l s (or-first b (lets_try s) p.0 d); plain = λ d. plain-at k l s (or-second (is_frame k) (is_plain_sort s) p.1 d); back = λ u d. d }
  one-lets (c-Child s Optional) e t h = let p = and_parts (not b || lets_try s) (is_frame k || is_plain_sort s) e in record { sort = sort_at k l s; formed = h; lets = λ d. lets-at k l s (or-first b (lets_try s) p.0 d); plain = λ d. plain-at k l s (or-second (is_frame k) (is_plain_sort s) p.1 d); back = λ u d. d }
  one-lets c e t h = absurd (cc h)

  many-let : (c : Content) → content_lets k b c ≡ true → (ts : Trees) → field_form k l c (many ts) ≡ true → ManyLet (field_form k l c) ts
  many-let (c-Child s a-List) e ts h = record { sort = s; last = s; formed = h; plain = e; plain_last = e; back = λ us d f. f }
  many-let (c-Child s NonEmptyList) e empty h = absurd (cc h)
  many-let (c-Child s NonEmptyList) e (t before ts) h = record { sort = s; last = s; formed = h; plain = e; plain_last = e; back = back }
    where
      back : (us : Trees) → Begins us → trees_form s s us ≡ true → field_form k l (c-Child s NonEmptyList) (many us) ≡ true
      back empty d f = absurd d
      back (u before us) d f = f
  many-let (c-Child s ListWithRest) e ts h = let p = and_parts (is_plain_sort s) (is_plain_sort (rest_sort s)) e in record { sort = s; last = rest_sort s; formed = h; plain = p.0; plain_last = p.1; back = λ us d f. f }
  many-let c e ts h = absurd (cc h)

  statements-let : (c : Content) → content_lets k b c ≡ true → (ts : Trees) → field_form k l c (statements ts) ≡ true → StatementsLet b (field_form k l c) ts
  statements-let (c-Child s Statements) e ts h = record { sort = s; formed = h; lets = or-first b (lets_try s) e; back = λ us f. f }
  statements-let c e ts h = absurd (cc h)

  entry-lets : (c : Content) → content_lets k b c ≡ true → Lets k b (field_form k l c)
  entry-lets c e = record { at_a_node = one-lets c e; at_nodes = many-let c e; at_a_list = statements-let c e }

element-lets : (k : AstType) (b : Bool) (s : Sort) → is_plain_sort s ≡ true → Lets k b (element_form s)
element-lets k b s e = record { at_a_node = λ t h. record { sort = s; formed = h; lets = λ d. plain-lets s e; plain = λ d. e; back = λ u f. f }; at_nodes = λ ts h. absurd (cc h); at_a_list = λ ts h. absurd (cc h) }

-- WHAT A CHANGE LEAVES

pub record TreeAfter (a : Sort) (t u : Tree) : Type 0 where
  pub formed : has_form a u ≡ true
  pub seen : Changed false t u ⊎ Framed t u
  pub keeps : (up : List Ancestor) → Keeps up t → Keeps up u

record FieldsAfter (test : Fields → Bool) (k : AstType) (l : Label) (fs gs : Fields) : Type 0 where
  formed : test gs ≡ true
  alike : outlined fs ≡ outlined gs
  seen : ChangedFields false k fs gs ⊎ (is_frame k ≡ true)
  keeps : (up : List Ancestor) (all : Fields) (i : ℕ) → KeepsIn up k l all i fs → KeepsIn up k l all i gs

record FieldAfter (test : Field → Bool) (k : AstType) (f g : Field) : Type 0 where
  formed : test g ≡ true
  alike : outlined_field f ≡ outlined_field g
  seen : ChangedField false k f g ⊎ (is_frame k ≡ true)
  keeps : (up : List Ancestor) → KeepsBy up f → KeepsBy up g

record TreesAfter (a last : Sort) (ts us : Trees) : Type 0 where
  formed : trees_form a last us ≡ true
  alike : outlined_trees ts ≡ outlined_trees us
  begins : Begins us
  seen : is_plain_sort a ≡ true → is_plain_sort last ≡ true → ChangedTrees false ts us
  keeps : (up : List Ancestor) → KeepsAll up ts → KeepsAll up us

either-before : (s last : Sort) (ts : Trees) (q : Sort → Bool) → q s ≡ true → q last ≡ true → q (sort_before_trees s last ts) ≡ true
either-before s last empty q e d = d
either-before s last (t before ts) q e d = e

either-between : (s last : Sort) (fs : Fields) (q : Sort → Bool) → q s ≡ true → q last ≡ true → q (sort_before_fields s last fs) ≡ true
either-between s last done q e d = d
either-between s last (f then fs) q e d = e

either : {A B C : Type 0} → A ⊎ B → (A → C) → (B → C) → C
either (inl a) f g = f a
either (inr b) f g = g b

-- a node in a field of this kind
framed-kind : (k : AstType) (s : Sort) (t u : Tree) → (is_frame k ≡ false → is_plain_sort s ≡ true) → has_form s t ≡ true → Changed false t u ⊎ Framed t u → ChangedField false k (one t) (one u) ⊎ (is_frame k ≡ true)
framed-kind k s t u plain h (inl c) = inl (child_changed c)
framed-kind k s t u plain h (inr f) = at (is_frame k) plain
  where
    at : (v : Bool) → (v ≡ false → is_plain_sort s ≡ true) → ChangedField false k (one t) (one u) ⊎ (v ≡ true)
    at true p = inr refl
    at false p = absurd (no-frame s t (p refl) h f.was)

-- A NODE whose fields have changed

module _ (k : AstType) (l : Label) (fs gs : Fields) where
  -- by what its fields offer
  moved-in : (up : List Ancestor) → ((j : ℕ) → Alike (ancestor k l fs j 0) (ancestor k l gs j 0)) → KeepsIn up k l fs 0 gs → KeepsIn up k l gs 0 gs
  moved-in up alike h =
      let offers : (j : ℕ) → Offers true (ancestor k l fs j 0 ∷ up) (ancestor k l gs j 0 ∷ up) = λ j. offers-within true up up (ancestor k l fs j 0) (ancestor k l gs j 0) (alike j) (offers-self up) (λ e. absurd (cc e)) in
      let near : (j : ℕ) → Near (ancestor k l fs j 0 ∷ up) (ancestor k l gs j 0 ∷ up) = λ j. near-within up up (ancestor k l fs j 0) (ancestor k l gs j 0) (alike j) (near-self up) in
      in-moved true up up k l fs gs 0 gs offers near (λ e. absurd (cc e)) h

  node-after : (a : Sort) (test : Fields → Bool) → has_form a (node k l fs) ≡ true → has_form a (node k l gs) ≡ true → FieldsAfter test k l fs gs → (same_type k LabeledStatement ≡ true → SameLabel fs gs) → TreeAfter a (node k l fs) (node k l gs)
  node-after a test f g r label = either r.seen changed framed
    where
      changed : ChangedFields false k fs gs → TreeAfter a (node k l fs) (node k l gs)
      changed c =
          let stand = edges a k l fs f in
          record { formed = g; seen = inl (inside c); keeps = λ up h. (here-kept up k l fs gs stand c h.0, moved-in up (alike-changed k l fs gs stand c) (r.keeps up fs 0 h.1)) }

      framed : is_frame k ≡ true → TreeAfter a (node k l fs) (node k l gs)
      framed e = record { formed = g; seen = inr (record { was = e; is = e }); keeps = λ up h. (frame-here up k l fs k l gs e e h.0, moved-in up (λ j. frame-alike k l fs gs j e label) (r.keeps up fs 0 h.1)) }

-- by the table, or as the elements of an array
by-elements : (k : AstType) (l : Label) (fs gs : Fields) (P : Type 0) → (fields_form k l (child_entries k) fs ≡ true → FieldsAfter (fields_form k l (child_entries k)) k l fs gs) → ((p : ElementsPlace) → ElementsPlain p → elements_form p.sort p.last fs ≡ true → FieldsAfter (elements_form p.sort p.last) k l fs gs) →
    ((test : Fields → Bool) → FieldsAfter test k l fs gs → match_option (elements_of (child_entries k)) (fields_form k l (child_entries k) gs) (λ p. elements_form p.sort p.last gs) ≡ true → P) → (o : Option ElementsPlace) → elements_of (child_entries k) ≡ o → match_option o (fields_form k l (child_entries k) fs) (λ p. elements_form p.sort p.last fs) ≡ true → P
by-elements k l fs gs P entries elements back None e h = let r = entries h in back (fields_form k l (child_entries k)) r (ap (λ o. match_option o (fields_form k l (child_entries k) gs) (λ p. elements_form p.sort p.last gs)) e ∙ r.formed)
by-elements k l fs gs P entries elements back (Some p) e h = let r = elements p (elements-plain k p e) h in back (elements_form p.sort p.last) r (ap (λ o. match_option o (fields_form k l (child_entries k) gs) (λ q. elements_form q.sort q.last gs)) e ∙ r.formed)

-- LABELS

module _ (U : Site → Ledger → Spot → Ledger → Spot → Type 0) (law : UsingLawful U) where
  name-same : {b c : Bool} {t u : Tree} → Becomes U b c t u → kind_of t ≡ Identifier → own_text u ≡ own_text t
  name-same (here {t = t} {u = u} n s s' e d h) i = absurd (law.names n s s' t u i h)
  name-same (deep h) i = refl

  abbrev is_loop_first : Fields → Bool
  is_loop_first (one t then fs) = is_labeled_loop t
  is_loop_first _ = false

  loop-inside : (l : Label) (n : Field) (fs : Fields) → is_labeled_loop (node LabeledStatement l (n then fs)) ≡ is_loop_first fs
  loop-inside l n done = refl
  loop-inside l n (missing then fs) = refl
  loop-inside l n (one t then fs) = refl
  loop-inside l n (many ts then fs) = refl
  loop-inside l n (statements ts then fs) = refl

  first-rest : (f : Field) (fs gs : Fields) → is_loop_first (f then fs) ≡ is_loop_first (f then gs)
  first-rest missing fs gs = refl
  first-rest (one t) fs gs = refl
  first-rest (many ts) fs gs = refl
  first-rest (statements ts) fs gs = refl

  mutual
    loop-same : {b c : Bool} {t u : Tree} → Becomes U b c t u → c ≡ true → is_labeled_loop u ≡ is_labeled_loop t
    loop-same (here {t = t} {u = u} n s s' e d h) x = law.loops n s s' t u (d ∙ x) h
    loop-same (deep {k = LabeledStatement} {l = l} (at_first {f = f} {g = g} {fs = fs} h)) x = loop-inside l g fs ∙ sym (loop-inside l f fs)
    loop-same (deep {k = LabeledStatement} {l = l} (at_later {f = f} {fs = fs} {gs = gs} h)) x = loop-inside l f gs ∙ loop-first h refl ∙ sym (loop-inside l f fs)
    loop-same (deep {k = _} h) x = refl

    -- the body is the second field
    loop-first : {p q : ℕ → Bool} {fs gs : Fields} → FieldsBecome U p q fs gs → q 0 ≡ true → is_loop_first gs ≡ is_loop_first fs
    loop-first (at_first {fs = fs} h) e = loop-field h e fs
    loop-first (at_later {f = f} {fs = fs} {gs = gs} h) e = first-rest f gs fs

    loop-field : {b c : Bool} {f g : Field} → FieldBecomes U b c f g → c ≡ true → (fs : Fields) → is_loop_first (g then fs) ≡ is_loop_first (f then fs)
    loop-field (at_one h) e fs = loop-same h e
    loop-field (at_many h) e fs = refl
    loop-field (at_statements h) e fs = refl

  body-inside : (n : Field) (fs : Fields) → has_loop_body (n then fs) ≡ is_loop_first fs
  body-inside n done = refl
  body-inside n (missing then fs) = refl
  body-inside n (one t then fs) = refl
  body-inside n (many ts then fs) = refl
  body-inside n (statements ts then fs) = refl

  label-name : {b c : Bool} {f g : Field} (fs : Fields) → FieldBecomes U b c f g → EdgesIn stands LabeledStatement 0 (f then fs) → name_in (g then fs) ≡ name_in (f then fs)
  label-name fs (at_one {t = t} h) e = name-same h (label-kind LabeledStatement (is_last fs) t refl e.0)
  label-name fs (at_many h) e = refl
  label-name fs (at_statements h) e = refl

  name-rest : (f : Field) (fs gs : Fields) → name_in (f then gs) ≡ name_in (f then fs)
  name-rest missing fs gs = refl
  name-rest (one t) fs gs = refl
  name-rest (many ts) fs gs = refl
  name-rest (statements ts) fs gs = refl

  same-label : {p q : ℕ → Bool} {fs gs : Fields} → FieldsBecome U p q fs gs → q 1 ≡ true → EdgesIn stands LabeledStatement 0 fs → SameLabel fs gs
  same-label (at_first {f = f} {g = g} {fs = fs} h) d e = record { name = label-name fs h e; loop = body-inside g fs ∙ sym (body-inside f fs) }
  same-label (at_later {f = f} {fs = fs} {gs = gs} h) d e = record { name = name-rest f fs gs; loop = body-inside f gs ∙ loop-first h d ∙ sym (body-inside f fs) }

  label-of : (k : AstType) {fs gs : Fields} → FieldsBecome U (in_statement k) (in_label k) fs gs → EdgesIn stands k 0 fs → same_type k LabeledStatement ≡ true → SameLabel fs gs
  label-of k {fs} {gs} h e d =
      let kind = same-kind k LabeledStatement d in
      same-label (subst (λ (j : AstType). FieldsBecome U (in_statement j) (in_label j) fs gs) kind h) refl (subst (λ (j : AstType). EdgesIn stands j 0 fs) kind e)

  -- THE TREE

  mutual
    pub tree-after : {b c : Bool} {t u : Tree} → Becomes U b c t u → (a : Sort) → (b ≡ true → lets_try a ≡ true) → has_form a t ≡ true → TreeAfter a t u
    tree-after (here {t = t} {u = u} n s s' e d h) a lets f = record { formed = law.formed n s s' t u a (λ x. lets (sym e ∙ x)) h f; seen = law.seen n s s' t u h; keeps = λ up g. law.keeps n s s' t u a up h f g }
    tree-after (deep {k = k} {l = l} {fs = fs} {gs = gs} h) a lets f =
        let m = node_form a k l fs f in
        let back : (test : Fields → Bool) → FieldsAfter test k l fs gs → match_option (elements_of (child_entries k)) (fields_form k l (child_entries k) gs) (λ p. elements_form p.sort p.last gs) ≡ true → TreeAfter a (node k l fs) (node k l gs) = λ test r e. node-after k l fs gs a test f (has_form-node a k l gs (record { sort = m.sort; texts = m.texts; flags = m.flags; start = m.start; stop = m.stop; agree = agree-kept k l.texts fs gs r.alike m.agree; children = e })) r (label-of k h (edges a k l fs f)) in
        by-elements k l fs gs (TreeAfter a (node k l fs) (node k l gs)) (λ g. entries-after h k l (child_entries k) (all-let k) g) (λ p q g. elements-after h k l p.sort p.last q.sort q.last g) back (elements_of (child_entries k)) refl m.children

    entries-after : {p q : ℕ → Bool} {fs gs : Fields} → FieldsBecome U p q fs gs → (k : AstType) (l : Label) (es : List Entry) → entries_let k p es ≡ true → fields_form k l es fs ≡ true → FieldsAfter (fields_form k l es) k l fs gs
    entries-after (at_first h) k l [] e f = absurd (cc f)
    entries-after (at_first {p = p} {f = x} {g = y} {fs = fs} h) k l (c ∷ es) e f =
        let parts = and_parts (field_form k l c.content x) (fields_form k l es fs) f in
        let let_parts = and_parts (content_lets k (p zero) c.content) (entries_let k (λ i. p (suc i)) es) e in
        let r = field-after h k (field_form k l c.content) (entry-lets k l (p zero) c.content let_parts.0) parts.0 in
        record { formed = and_from (field_form k l c.content y) (fields_form k l es fs) r.formed parts.1; alike = λ i. r.alike i then outlined fs; seen = either r.seen (λ d. inl (more d (same-fields k fs))) (λ d. inr d); keeps = λ up all i g. (r.keeps _ g.0, g.1) }
    entries-after (at_later h) k l [] e f = absurd (cc f)
    entries-after (at_later {p = p} {f = x} {fs = fs} {gs = gs} h) k l (c ∷ es) e f =
        let parts = and_parts (field_form k l c.content x) (fields_form k l es fs) f in
        let let_parts = and_parts (content_lets k (p zero) c.content) (entries_let k (λ i. p (suc i)) es) e in
        let r = entries-after h k l es let_parts.1 parts.1 in
        record { formed = and_from (field_form k l c.content x) (fields_form k l es gs) parts.0 r.formed; alike = λ i. outlined_field x then r.alike i; seen = either r.seen (λ d. inl (more same_field d)) (λ d. inr d); keeps = λ up all i g. (g.0, r.keeps up all (suc i) g.1) }

    elements-after : {p q : ℕ → Bool} {fs gs : Fields} → FieldsBecome U p q fs gs → (k : AstType) (l : Label) (a last : Sort) → is_plain_sort a ≡ true → is_plain_sort last ≡ true → elements_form a last fs ≡ true → FieldsAfter (elements_form a last) k l fs gs
    elements-after (at_first {p = p} {f = x} {g = y} {fs = fs} h) k l a last e d f =
        let b = sort_before_fields a last fs in
        let parts = and_parts (element_form b x) (elements_form a last fs) f in
        let r = field-after h k (element_form b) (element-lets k (p zero) b (either-between a last fs (λ s. is_plain_sort s) e d)) parts.0 in
        record { formed = and_from (element_form b y) (elements_form a last fs) r.formed parts.1; alike = λ i. r.alike i then outlined fs; seen = either r.seen (λ c. inl (more c (same-fields k fs))) (λ c. inr c); keeps = λ up all i g. (r.keeps _ g.0, g.1) }
    elements-after (at_later {f = x} {fs = fs} {gs = gs} h) k l a last e d f =
        let parts = and_parts (element_form (sort_before_fields a last fs) x) (elements_form a last fs) f in
        let r = elements-after h k l a last e d parts.1 in
        let first = subst (λ (b : Sort). element_form b x ≡ true) (before-fields a last fs gs r.alike) parts.0 in
        record { formed = and_from (element_form (sort_before_fields a last gs) x) (elements_form a last gs) first r.formed; alike = λ i. outlined_field x then r.alike i; seen = either r.seen (λ c. inl (more same_field c)) (λ c. inr c); keeps = λ up all i g. (g.0, r.keeps up all (suc i) g.1) }

    field-after : {b c : Bool} {f g : Field} → FieldBecomes U b c f g → (k : AstType) (test : Field → Bool) → Lets k b test → test f ≡ true → FieldAfter test k f g
    field-after (at_one {t = t} {u = u} h) k test lets f =
        let m = lets.at_a_node t f in
        let r = tree-after h m.sort m.lets m.formed in
        record { formed = m.back u r.formed; alike = refl; seen = framed-kind k m.sort t u m.plain m.formed r.seen; keeps = r.keeps }
    field-after (at_many {ts = ts} {us = us} h) k test lets f =
        let m = lets.at_nodes ts f in
        let r = trees-after h m.sort m.last (λ d. plain-lets m.sort m.plain) (λ d. plain-lets m.last m.plain_last) m.formed in
        record { formed = m.back us r.begins r.formed; alike = λ i. many (r.alike i); seen = inl (children_changed (r.seen m.plain m.plain_last)); keeps = r.keeps }
    field-after (at_statements {ts = ts} {us = us} h) k test lets f =
        let m = lets.at_a_list ts f in
        let r = trees-after h m.sort m.sort m.lets m.lets m.formed in
        record { formed = m.back us r.formed; alike = refl; seen = inl list_changed; keeps = r.keeps }

    trees-after : {b c : Bool} {ts us : Trees} → TreesBecome U b c ts us → (a last : Sort) → (b ≡ true → lets_try a ≡ true) → (b ≡ true → lets_try last ≡ true) → trees_form a last ts ≡ true → TreesAfter a last ts us
    trees-after (at_head {t = t} {u = u} {ts = ts} h) a last e d f =
        let s = sort_before_trees a last ts in
        let parts = and_parts (has_form s t) (trees_form a last ts) f in
        let r = tree-after h s (λ x. either-before a last ts (λ y. lets_try y) (e x) (d x)) parts.0 in
        record {
          formed = and_from (has_form s u) (trees_form a last ts) r.formed parts.1;
          alike = refl;
          begins = tt;
          seen = λ x y. some (either r.seen (λ c. c) (λ c. absurd (no-frame s t (either-before a last ts (λ z. is_plain_sort z) x y) parts.0 c.was))) (same-trees ts);
          keeps = λ up g. (r.keeps up g.0, g.1);
        }
    trees-after (at_tail {t = t} {ts = ts} {us = us} h) a last e d f =
        let parts = and_parts (has_form (sort_before_trees a last ts) t) (trees_form a last ts) f in
        let r = trees-after h a last e d parts.1 in
        let first = subst (λ (s : Sort). has_form s t ≡ true) (before-trees a last ts us r.alike) parts.0 in
        record {
          formed = and_from (has_form (sort_before_trees a last us) t) (trees_form a last us) first r.formed;
          alike = λ i. word [] before r.alike i;
          begins = tt;
          seen = λ x y. some stays (r.seen x y);
          keeps = λ up g. (g.0, r.keeps up g.1);
        }
