-- Where such calls are followed in a tree, and statements are put behind others, form is kept.
use Rattle.std.proofs.Common.{◌≡◌, ◌==◌, ℕ, zero, suc, refl, sym, ap, subst, ◌∙◌, List, [], ◌∷◌}
use Rattle.std.specs.Prelude.{Bool, true, false, ◌&&◌, ◌||◌, Option, Some, None, if◌then◌else◌}
use Rattle.std.proofs.lemmas.Bool.{and_from, and_parts}
use Rattle.es_tree.specs.Ancestors.{is_class}
use Rattle.es_tree.specs.Attributes.{child_entries}
use Rattle.es_tree.specs.HasForm.{ElementsPlace, element_form, elements_form, elements_of, field_form, fields_form, has_form, is_computed, is_in, is_of_sort, match_option, same_type, sort_at, sort_before_fields, sort_before_trees, trees_form}
use Rattle.es_tree.specs.Table.{rest_sort}
use Rattle.es_tree.specs.Tree.{Tree, node, Label, Fields, done, ◌then◌, Field, many, statements, Trees, empty, ◌before◌}
use Rattle.es_tree.specs.declared.ast_type.AstType.{AstType}
use Rattle.es_tree.specs.declared.ast_type.AstType.TheVariants.{BlockStatement, CallExpression, ChainExpression, SequenceExpression, SwitchCase}
use Rattle.es_tree.specs.declared.table.Content.{Content}
use Rattle.es_tree.specs.declared.table.Content.TheVariants.{Child as c-Child}
use Rattle.es_tree.specs.declared.table.Entry.{Entry}
use Rattle.es_tree.specs.declared.table.Often.TheVariants.{Required, Optional, List as a-List, NonEmptyList, ListWithRest, Statements}
use Rattle.es_tree.specs.declared.table.Sort.{Sort}
use Rattle.es_tree.specs.declared.table.Sort.TheVariants.{BinaryLeft as s-BinaryLeft, ChainElement as s-ChainElement, Expression as s-Expression, MemberProperty as s-MemberProperty, Pattern as s-Pattern, PatternMember as s-PatternMember, PropertyKey as s-PropertyKey, Statement as s-Statement, TargetElement as s-TargetElement, TargetMember as s-TargetMember}
use Rattle.es_tree.proofs.NodeForm.{has_form-node, node_form}
use Rattle.es_resolution.specs.Declarations.{Bound}
use Rattle.es_steps.specs.Nodes.{assign_node, identifier, made, this_expression, word}
use Rattle.es_steps.proofs.FormMembers.{formed-first, one-sort}
use Rattle.es_steps.proofs.FormParts.{IsFormed, IsText, formed-stored}
use Rattle.es_steps.proofs.FormPlaces.{agree-kept, outlined, outlined_field, outlined_trees}
use Rattle.es_steps.proofs.FormSorts.{form-narrower}
use Rattle.es_set_this.specs.ConstructorThis.{set_statement, then_set}
use Rattle.es_constructor_this.specs.SetRows.{Puts}
use Rattle.es_constructor_this.specs.SetRows.Puts.{behind, further, nowhere}
use Rattle.es_constructor_this.proofs.Moved.{Moved, MovedAll, MovedBy, MovedIn, takes_none}
use Rattle.es_constructor_this.proofs.Moved.Moved.{blocked, called, cased, inside}
use Rattle.es_constructor_this.proofs.Moved.MovedAll.{head, tail}
use Rattle.es_constructor_this.proofs.Moved.MovedBy.{to_child, to_children, to_list}
use Rattle.es_constructor_this.proofs.Moved.MovedIn.{first, later}

-- SORTS: that of a chain's content is asked for there alone

abbrev pub is_chain_sort : Sort → Bool
is_chain_sort s-ChainElement = true
is_chain_sort _ = false

abbrev chain_of : Content → Bool
chain_of (c-Child s o) = is_chain_sort s
chain_of _ = false

abbrev chains_at : List Entry → ℕ → Bool
chains_at [] i = false
chains_at (e ∷ es) zero = chain_of e.content
chains_at (e ∷ es) (suc i) = chains_at es i

abbrev any_chain : List Entry → Bool
any_chain [] = false
any_chain (e ∷ es) = chain_of e.content || any_chain es

none-at : (es : List Entry) → any_chain es ≡ false → (i : ℕ) → chains_at es i ≡ false
none-at [] e i = refl
none-at (x ∷ es) e i = at (chain_of x.content) refl e (λ h j. none-at es h j) i
  where
    at : (b : Bool) → chain_of x.content ≡ b → (b || any_chain es) ≡ false → (any_chain es ≡ false → (j : ℕ) → chains_at es j ≡ false) → (i : ℕ) → chains_at (x ∷ es) i ≡ false
    at true d e rest i = absurd (cc e)
    at false d e rest zero = d
    at false d e rest (suc i) = rest e i

not-chain : (k : AstType) → same_type k ChainExpression ≡ false → any_chain (child_entries k) ≡ false
not-chain ChainExpression e = absurd (cc e)
not-chain _ e = refl

content-alone : (i : ℕ) → chains_at (child_entries ChainExpression) i ≡ true → (i == 0) ≡ true
content-alone zero e = refl
content-alone (suc i) e = absurd (cc e)

or-left : (a b : Bool) → a ≡ true → (a || b) ≡ true
or-left true b e = refl
or-left false b e = absurd (cc e)

chains-there : (k : AstType) (i : ℕ) → chains_at (child_entries k) i ≡ true → takes_none k i ≡ true
chains-there k i e = at (same_type k ChainExpression) refl
  where
    at : (b : Bool) → same_type k ChainExpression ≡ b → ((b && i == 0) || (is_class k && i == 0)) ≡ true
    at true d = or-left (i == 0) (is_class k && i == 0) (content-alone i (subst (λ (j : AstType). chains_at (child_entries j) i ≡ true) (is-chain k d) e))
      where
        is-chain : (k : AstType) → same_type k ChainExpression ≡ true → k ≡ ChainExpression
        is-chain ChainExpression d = refl
        is-chain _ d = absurd (cc d)
    at false d = let no = none-at (child_entries k) (not-chain k d) i in absurd (cc (no, e))

either-sort : (b : Bool) (s : Sort) → is_chain_sort s ≡ false → is_chain_sort (if b then s-Expression else s) ≡ false
either-sort true s e = refl
either-sort false s e = e

sort-chain : (k : AstType) (l : Label) (s : Sort) → is_chain_sort (sort_at k l s) ≡ is_chain_sort s
sort-chain k l s-PropertyKey = either-sort (is_computed k l) s-PropertyKey refl
sort-chain k l s-MemberProperty = either-sort (is_computed k l) s-MemberProperty refl
sort-chain k l s-BinaryLeft = left (is_in k l)
  where
    left : (b : Bool) → is_chain_sort (if b then s-BinaryLeft else s-Expression) ≡ false
    left true = refl
    left false = refl
sort-chain k l _ = refl

rest-chain : (s : Sort) → is_chain_sort (rest_sort s) ≡ is_chain_sort s
rest-chain s-Pattern = refl
rest-chain s-PatternMember = refl
rest-chain s-TargetElement = refl
rest-chain s-TargetMember = refl
rest-chain _ = refl

-- an array's elements are none
abbrev chain_elements : Option ElementsPlace → Bool
chain_elements None = false
chain_elements (Some p) = is_chain_sort p.sort || is_chain_sort p.last

no-elements : (k : AstType) → chain_elements (elements_of (child_entries k)) ≡ false
no-elements ChainExpression = refl
no-elements _ = refl

-- A SEQUENCE in the place of a call

call-sequence : (s : Sort) → is_chain_sort s ≡ false → is_of_sort s CallExpression ≡ true → is_of_sort s SequenceExpression ≡ true
call-sequence s-ChainElement e h = absurd (cc e)
call-sequence _ e h = h

sets-formed : (b : Bound) → IsText b → IsFormed (assign_node (identifier b) this_expression)
sets-formed b e = formed-stored b this_expression e refl

pub statement-formed : (b : Bound) → IsText b → has_form s-Statement (set_statement (identifier b)) ≡ true
statement-formed b e = rw (sets-formed b e) refl

then-formed : (s : Sort) (b : Bound) (l : Label) (fs : Fields) → is_chain_sort s ≡ false → IsText b → has_form s (node CallExpression l fs) ≡ true → has_form s (then_set (identifier b) l fs) ≡ true
then-formed s b l fs e text f =
    let n = node_form s CallExpression l fs f in
    let set = assign_node (identifier b) this_expression in
    let parts = formed-first s-Expression (node CallExpression l fs) (set before empty) (form-narrower s CallExpression l fs refl f) (formed-first s-Expression set empty (sets-formed b text) refl) in
    has_form-node s SequenceExpression (record (made [] []) { start = l.start; stop = l.stop }) (many (node CallExpression l fs before set before empty) then done) (record { sort = call-sequence s e n.sort; texts = refl; flags = refl; start = n.start; stop = n.stop; agree = refl; children = and_from _ true parts refl })

-- A LIST OF STATEMENTS

abbrev pub AreStatements : Trees → Type 0
AreStatements ts = trees_form s-Statement s-Statement ts ≡ true

pub first-formed : (t : Tree) (ts : Trees) → AreStatements (t before ts) → (has_form s-Statement t ≡ true) × AreStatements ts
first-formed t ts h =
    let parts = and_parts (has_form (sort_before_trees s-Statement s-Statement ts) t) (trees_form s-Statement s-Statement ts) h in
    (rw (one-sort s-Statement ts) at parts.0, parts.1)

pub puts-formed : {x : Tree} {ts us : Trees} → Puts x ts us → has_form s-Statement (set_statement x) ≡ true → AreStatements ts → AreStatements us
puts-formed nowhere e h = h
puts-formed {x} (behind {t = t} {ts = ts}) e h = let parts = first-formed t ts h in formed-first s-Statement t (set_statement x before ts) parts.0 (formed-first s-Statement (set_statement x) ts e parts.1)
puts-formed (further {t = t} {ts = ts} {us = us} p) e h = let parts = first-formed t ts h in formed-first s-Statement t us parts.0 (puts-formed p e parts.1)

block-formed : (s : Sort) (b : Bound) (l : Label) (ts us : Trees) → IsText b → Puts (identifier b) ts us → has_form s (node BlockStatement l (statements ts then done)) ≡ true → has_form s (node BlockStatement l (statements us then done)) ≡ true
block-formed s b l ts us text p f =
    let n = node_form s BlockStatement l (statements ts then done) f in
    has_form-node s BlockStatement l (statements us then done) (record { sort = n.sort; texts = n.texts; flags = n.flags; start = n.start; stop = n.stop; agree = refl; children = and_from _ true (puts-formed p (statement-formed b text) (and_parts _ true n.children).0) refl })

case-formed : (s : Sort) (b : Bound) (l : Label) (f : Field) (ts us : Trees) → IsText b → Puts (identifier b) ts us → has_form s (node SwitchCase l (f then statements ts then done)) ≡ true → has_form s (node SwitchCase l (f then statements us then done)) ≡ true
case-formed s b l x ts us text p f =
    let n = node_form s SwitchCase l (x then statements ts then done) f in
    let parts = and_parts _ _ n.children in
    has_form-node s SwitchCase l (x then statements us then done) (record { sort = n.sort; texts = n.texts; flags = n.flags; start = n.start; stop = n.stop; agree = refl; children = and_from _ _ parts.0 (and_from _ true (puts-formed p (statement-formed b text) (and_parts _ true parts.1).0) refl) })

-- OUTLINES

module _ {B : Bound → Type 0} where
  all-outlined : {c : Bool} (ts us : Trees) → MovedAll B c ts us → outlined_trees ts ≡ outlined_trees us
  all-outlined _ _ (head m) = refl
  all-outlined _ _ (tail {ts = ts} {us = us} m) = λ i. word [] before all-outlined ts us m i

  field-outlined : {c : Bool} (f g : Field) → MovedBy B c f g → outlined_field f ≡ outlined_field g
  field-outlined _ _ (to_child m) = refl
  field-outlined _ _ (to_children {ts = ts} {us = us} m) = λ i. many (all-outlined ts us m i)
  field-outlined _ _ (to_list m) = refl

  pub fields-outlined : {c : ℕ → Bool} (fs gs : Fields) → MovedIn B c fs gs → outlined fs ≡ outlined gs
  fields-outlined _ _ (first {f = f} {g = g} {fs = fs} m) = λ i. field-outlined f g m i then outlined fs
  fields-outlined _ _ (later {f = f} {fs = fs} {gs = gs} m) = λ i. outlined_field f then fields-outlined fs gs m i

  before-fields : {c : ℕ → Bool} (s last : Sort) (fs gs : Fields) → MovedIn B c fs gs → sort_before_fields s last fs ≡ sort_before_fields s last gs
  before-fields s last _ _ (first m) = refl
  before-fields s last _ _ (later m) = refl

  before-all : {c : Bool} (s last : Sort) (ts us : Trees) → MovedAll B c ts us → sort_before_trees s last ts ≡ sort_before_trees s last us
  before-all s last _ _ (head m) = refl
  before-all s last _ _ (tail m) = refl

  more-stand : {c : Bool} (k : AstType) (l : Label) (s : Sort) (ts us : Trees) → MovedAll B c ts us → field_form k l (c-Child s NonEmptyList) (many ts) ≡ trees_form s s ts
  more-stand k l s _ _ (head m) = refl
  more-stand k l s _ _ (tail m) = refl

  more-left : {c : Bool} (k : AstType) (l : Label) (s : Sort) (ts us : Trees) → MovedAll B c ts us → field_form k l (c-Child s NonEmptyList) (many us) ≡ trees_form s s us
  more-left k l s _ _ (head m) = refl
  more-left k l s _ _ (tail m) = refl

before-chain : (c : Bool) (s last : Sort) (ts : Trees) → (is_chain_sort s ≡ true → c ≡ true) → (is_chain_sort last ≡ true → c ≡ true) → is_chain_sort (sort_before_trees s last ts) ≡ true → c ≡ true
before-chain c s last empty e d h = d h
before-chain c s last (t before ts) e d h = e h

fields-chain : (s last : Sort) (fs : Fields) → (is_chain_sort s || is_chain_sort last) ≡ false → is_chain_sort (sort_before_fields s last fs) ≡ false
fields-chain s last fs e = at (is_chain_sort s) refl e fs
  where
    at : (b : Bool) → is_chain_sort s ≡ b → (b || is_chain_sort last) ≡ false → (fs : Fields) → is_chain_sort (sort_before_fields s last fs) ≡ false
    at true d e fs = absurd (cc e)
    at false d e done = e
    at false d e (f then fs) = d

-- TREES

abbrev pub Asks : Bool → Sort → Type 0
Asks c s = is_chain_sort s ≡ true → c ≡ true

never-asked : (c : Bool) (s : Sort) → is_chain_sort s ≡ false → Asks c s
never-asked c s e d = absurd (cc (e, d))

free-of-it : (s : Sort) → Asks false s → is_chain_sort s ≡ false
free-of-it s h = at (is_chain_sort s) refl
  where
    at : (b : Bool) → is_chain_sort s ≡ b → b ≡ false
    at true e = absurd (let x = h e in cc x)
    at false e = refl

children-formed : (k : AstType) (l : Label) (fs gs : Fields) → (fields_form k l (child_entries k) fs ≡ true → fields_form k l (child_entries k) gs ≡ true) → ((s last : Sort) → (is_chain_sort s || is_chain_sort last) ≡ false → elements_form s last fs ≡ true → elements_form s last gs ≡ true) →
    (o : Option ElementsPlace) → elements_of (child_entries k) ≡ o → match_option o (fields_form k l (child_entries k) fs) (λ p. elements_form p.sort p.last fs) ≡ true → match_option o (fields_form k l (child_entries k) gs) (λ p. elements_form p.sort p.last gs) ≡ true
children-formed k l fs gs entries elements None e h = entries h
children-formed k l fs gs entries elements (Some p) e h = elements p.sort p.last (sym (ap (λ o. chain_elements o) e) ∙ no-elements k) h

mutual
  pub moved-formed : {c : Bool} (t u : Tree) → Moved IsText c t u → (s : Sort) → Asks c s → has_form s t ≡ true → has_form s u ≡ true
  moved-formed _ _ (called {l = l} {fs = fs} b text calls) s asks f = then-formed s b l fs (free-of-it s asks) text f
  moved-formed _ _ (blocked {l = l} {ts = ts} {us = us} b text p) s asks f = block-formed s b l ts us text p f
  moved-formed _ _ (cased {l = l} {f = x} {ts = ts} {us = us} b text p) s asks f = case-formed s b l x ts us text p f
  moved-formed _ _ (inside {k = k} {l = l} {fs = fs} {gs = gs} m) s asks f =
      let n = node_form s k l fs f in
      has_form-node s k l gs (record { sort = n.sort; texts = n.texts; flags = n.flags; start = n.start; stop = n.stop; agree = agree-kept k l.texts fs gs (fields-outlined fs gs m) n.agree; children = children-formed k l fs gs (λ h. entries-formed fs gs m k l (child_entries k) (chains-there k) h) (λ a b none h. elements-formed fs gs m a b none h) (elements_of (child_entries k)) refl n.children })

  entries-formed : {c : ℕ → Bool} (fs gs : Fields) → MovedIn IsText c fs gs → (k : AstType) (l : Label) (es : List Entry) → ((i : ℕ) → chains_at es i ≡ true → c i ≡ true) → fields_form k l es fs ≡ true → fields_form k l es gs ≡ true
  entries-formed _ _ (first m) k l [] asks h = absurd (cc h)
  entries-formed _ _ (first {f = f} {g = g} {fs = fs} m) k l (e ∷ es) asks h =
      let parts = and_parts (field_form k l e.content f) (fields_form k l es fs) h in
      and_from (field_form k l e.content g) (fields_form k l es fs) (field-formed f g m k l e.content (asks zero) parts.0) parts.1
  entries-formed _ _ (later m) k l [] asks h = absurd (cc h)
  entries-formed _ _ (later {f = f} {fs = fs} {gs = gs} m) k l (e ∷ es) asks h =
      let parts = and_parts (field_form k l e.content f) (fields_form k l es fs) h in
      and_from (field_form k l e.content f) (fields_form k l es gs) parts.0 (entries-formed fs gs m k l es (λ i. asks (suc i)) parts.1)

  elements-formed : {c : ℕ → Bool} (fs gs : Fields) → MovedIn IsText c fs gs → (s last : Sort) → (is_chain_sort s || is_chain_sort last) ≡ false → elements_form s last fs ≡ true → elements_form s last gs ≡ true
  elements-formed {c} _ _ (first {f = f} {g = g} {fs = fs} m) s last none h =
      let b = sort_before_fields s last fs in
      let parts = and_parts (element_form b f) (elements_form s last fs) h in
      and_from (element_form b g) (elements_form s last fs) (element-formed f g m b (never-asked (c zero) b (fields-chain s last fs none)) parts.0) parts.1
  elements-formed _ _ (later {f = f} {fs = fs} {gs = gs} m) s last none h =
      let parts = and_parts (element_form (sort_before_fields s last fs) f) (elements_form s last fs) h in
      and_from (element_form (sort_before_fields s last gs) f) (elements_form s last gs) (subst (λ (b : Sort). element_form b f ≡ true) (before-fields s last fs gs m) parts.0) (elements-formed fs gs m s last none parts.1)

  element-formed : {c : Bool} (f g : Field) → MovedBy IsText c f g → (s : Sort) → Asks c s → element_form s f ≡ true → element_form s g ≡ true
  element-formed _ _ (to_child {t = t} {u = u} m) s asks h = moved-formed t u m s asks h
  element-formed _ _ (to_children m) s asks h = absurd (cc h)
  element-formed _ _ (to_list m) s asks h = absurd (cc h)

  field-formed : {c : Bool} (f g : Field) → MovedBy IsText c f g → (k : AstType) (l : Label) (x : Content) → (chain_of x ≡ true → c ≡ true) → field_form k l x f ≡ true → field_form k l x g ≡ true
  field-formed _ _ (to_child {t = t} {u = u} m) k l (c-Child s Required) asks h = moved-formed t u m (sort_at k l s) (λ e. asks (sym (sort-chain k l s) ∙ e)) h
  field-formed _ _ (to_child {t = t} {u = u} m) k l (c-Child s Optional) asks h = moved-formed t u m (sort_at k l s) (λ e. asks (sym (sort-chain k l s) ∙ e)) h
  field-formed _ _ (to_child m) k l x asks h = absurd (cc h)
  field-formed _ _ (to_children {ts = ts} {us = us} m) k l (c-Child s a-List) asks h = all-formed ts us m s s asks asks h
  field-formed _ _ (to_children {ts = ts} {us = us} m) k l (c-Child s NonEmptyList) asks h = more-left k l s ts us m ∙ all-formed ts us m s s asks asks (sym (more-stand k l s ts us m) ∙ h)
  field-formed _ _ (to_children {ts = ts} {us = us} m) k l (c-Child s ListWithRest) asks h = all-formed ts us m s (rest_sort s) asks (λ e. asks (sym (rest-chain s) ∙ e)) h
  field-formed _ _ (to_children m) k l x asks h = absurd (cc h)
  field-formed _ _ (to_list {ts = ts} {us = us} m) k l (c-Child s Statements) asks h = all-formed ts us m s s asks asks h
  field-formed _ _ (to_list m) k l x asks h = absurd (cc h)

  all-formed : {c : Bool} (ts us : Trees) → MovedAll IsText c ts us → (s last : Sort) → Asks c s → Asks c last → trees_form s last ts ≡ true → trees_form s last us ≡ true
  all-formed {c} _ _ (head {t = t} {u = u} {ts = ts} m) s last asks ends h =
      let b = sort_before_trees s last ts in
      let parts = and_parts (has_form b t) (trees_form s last ts) h in
      and_from (has_form b u) (trees_form s last ts) (moved-formed t u m b (before-chain c s last ts asks ends) parts.0) parts.1
  all-formed _ _ (tail {t = t} {ts = ts} {us = us} m) s last asks ends h =
      let parts = and_parts (has_form (sort_before_trees s last ts) t) (trees_form s last ts) h in
      and_from (has_form (sort_before_trees s last us) t) (trees_form s last us) (subst (λ (b : Sort). has_form b t ≡ true) (before-all s last ts us m) parts.0) (all-formed ts us m s last asks ends parts.1)

-- a sort of other nodes than a chain's content
pub not-asked : (k : AstType) (l : Label) (fs : Fields) (s : Sort) → is_of_sort s-ChainElement k ≡ false → has_form s (node k l fs) ≡ true → Asks false s
not-asked k l fs s other f e = absurd (at s e (node_form s k l fs f).sort)
  where
    at : (s : Sort) → is_chain_sort s ≡ true → is_of_sort s k ≡ true → ⊥
    at s-ChainElement e h = absurd (cc (other, h))
    at _ e h = absurd (cc e)
