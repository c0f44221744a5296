-- What the form of a node says of the nodes in its fields.
use Rattle.std.proofs.Common.{◌≡◌, ◌+◌, ℕ, zero, suc, refl, sym, ◌∙◌, List, [], ◌∷◌, arith}
use Rattle.std.specs.Prelude.{Bool, true, false, ◌&&◌, Option, Some, None, if◌then◌else◌}
use Rattle.std.proofs.lemmas.Bool.{and_parts}
use Rattle.es_tree.specs.Attributes.{child_entries}
use Rattle.es_tree.specs.HasForm.{ElementsPlace, element_form, elements_form, elements_of, field_form, fields_form, has_form, match_option, sort_before_fields, sort_before_trees, trees_form}
use Rattle.es_tree.specs.Tree.{Tree, node, Label, Fields, done, ◌then◌, Field, missing, one, many, statements, Trees, empty, ◌before◌}
use Rattle.es_tree.specs.declared.ast_type.AstType.{AstType}
use Rattle.es_tree.specs.declared.ast_type.AstType.TheVariants.{ArrowFunctionExpression, Program}
use Rattle.es_tree.specs.declared.table.Content.{Content}
use Rattle.es_tree.specs.declared.table.Content.TheVariants.{Child as c-Child}
use Rattle.es_tree.specs.declared.table.Entry.{Entry}
use Rattle.es_tree.specs.declared.table.Often.TheVariants.{Statements}
use Rattle.es_tree.specs.declared.table.Sort.{Sort}
use Rattle.es_tree.specs.declared.table.Sort.TheVariants.{ArrowFunctionBody as s-ArrowFunctionBody, Expression as s-Expression, Program as s-Program}
use Rattle.es_tree.proofs.NodeForm.{node_form}
use Rattle.es_steps.specs.Nodes.{joined_trees}
use Rattle.es_steps.specs.Open.{OpenFields, after_imports, finished_fields, is_body, is_import}
use Rattle.es_steps.specs.Slots.{is_slot}
use Rattle.es_steps.specs.Steps.{Site, outline, site_in}
use Rattle.es_steps.proofs.FormOpen.{Holds, element-holds, entry-holds}
use Rattle.es_steps.proofs.FormPlaces.{all-take, arrow-sort, elements-sort, entries_take, slot-sort, sort_in}
use Rattle.es_valid_steps.proofs.Pending.{is_list_kind}

-- NODES IN FIELDS

pub record HasSort (t : Tree) : Type 0 where
  pub sort : Sort
  pub formed : has_form sort t ≡ true

-- one node, at this site, where the body of an arrow may stand or not
pub record OneHas (n : Site) (b : Bool) (t : Tree) : Type 0 where
  pub sort : Sort
  pub formed : has_form sort t ≡ true
  pub slot : is_slot n.above ≡ true → sort ≡ s-Expression
  pub arrow : b ≡ true → sort ≡ s-ArrowFunctionBody

abbrev pub TreesHave : Trees → Type 0
TreesHave empty = Unit {0}
TreesHave (t before ts) = HasSort t × TreesHave ts

-- nodes in a list, which is no slot; a list of statements stands in a node that has one
pub record ManyHave (n : Site) (ts : Trees) : Type 0 where
  pub no_slot : is_slot n.above ≡ true → ⊥
  pub trees : TreesHave ts

pub record StatementsHave (k : AstType) (n : Site) (ts : Trees) : Type 0 where
  pub no_slot : is_slot n.above ≡ true → ⊥
  pub listed : is_list_kind k ≡ true
  pub trees : TreesHave ts

abbrev pub FieldHas : AstType → Site → Bool → Field → Type 0
FieldHas k n b missing = Unit {0}
FieldHas k n b (one t) = OneHas n b t
FieldHas k n b (many ts) = ManyHave n ts
FieldHas k n b (statements ts) = StatementsHave k n ts

abbrev pub FieldsHave : AstType → (ℕ → Site) → (ℕ → Bool) → Fields → Type 0
FieldsHave k c bodies done = Unit {0}
FieldsHave k c bodies (f then fs) = FieldHas k (c zero) (bodies zero) f × FieldsHave k (λ i. c (suc i)) (λ i. bodies (suc i)) fs

-- FROM THE TABLE

trees-have : (s last : Sort) (ts : Trees) → trees_form s last ts ≡ true → TreesHave ts
trees-have s last empty h = tt
trees-have s last (t before ts) h =
    let parts = and_parts (has_form (sort_before_trees s last ts) t) (trees_form s last ts) h in
    (record { sort = sort_before_trees s last ts; formed = parts.0 }, trees-have s last ts parts.1)

field-has : (k : AstType) (n : Site) (b : Bool) (test : Field → Bool) → Holds test n b → ((ts : Trees) → test (statements ts) ≡ true → is_list_kind k ≡ true) → (f : Field) → test f ≡ true → FieldHas k n b f
field-has k n b test holds lists missing h = tt
field-has k n b test holds lists (one t) h = let m = holds.at_one t h in record { sort = m.sort; formed = m.formed; slot = m.slot; arrow = m.arrow }
field-has k n b test holds lists (many ts) h = let m = holds.at_many ts h in record { no_slot = m.no_slot; trees = trees-have m.sort m.last ts m.formed }
field-has k n b test holds lists (statements ts) h = let m = holds.at_statements ts h in record { no_slot = m.no_slot; listed = lists ts h; trees = trees-have m.sort m.sort ts m.formed }

abbrev content_listed : AstType → Content → Bool
content_listed k (c-Child s Statements) = is_list_kind k
content_listed k _ = true

abbrev entries_listed : AstType → List Entry → Bool
entries_listed k [] = true
entries_listed k (e ∷ es) = content_listed k e.content && entries_listed k es

all-listed : (k : AstType) → entries_listed k (child_entries k) ≡ true
all-listed Program = refl
all-listed _ = refl

listed-field : (k : AstType) (l : Label) (c : Content) → content_listed k c ≡ true → (ts : Trees) → field_form k l c (statements ts) ≡ true → is_list_kind k ≡ true
listed-field k l (c-Child s Statements) e ts h = e
listed-field k l c e ts h = absurd (cc h)

module _ (k : AstType) (l : Label) where
  entries-have : (es : List Entry) (c : ℕ → Site) (bodies : ℕ → Bool) → ((i : ℕ) → is_slot (c i).above ≡ true → sort_in k l es i ≡ s-Expression) → ((i : ℕ) → bodies i ≡ true → sort_in k l es i ≡ s-ArrowFunctionBody) → entries_take es ≡ true → entries_listed k es ≡ true → (fs : Fields) → fields_form k l es fs ≡ true → FieldsHave k c bodies fs
  entries-have es c bodies slots arrows takes lists done h = tt
  entries-have [] c bodies slots arrows takes lists (f then fs) h = absurd (cc h)
  entries-have (e ∷ es) c bodies slots arrows takes lists (f then fs) h =
      let parts = and_parts (field_form k l e.content f) (fields_form k l es fs) h in
      let took = and_parts _ (entries_take es) takes in
      let said = and_parts (content_listed k e.content) (entries_listed k es) lists in
      (field-has k (c zero) (bodies zero) (field_form k l e.content) (entry-holds k l (c zero) (bodies zero) e.content (slots zero) (arrows zero) took.0) (listed-field k l e.content said.0) f parts.0, entries-have es (λ i. c (suc i)) (λ i. bodies (suc i)) (λ i. slots (suc i)) (λ i. arrows (suc i)) took.1 said.1 fs parts.1)

  elements-have : (s last : Sort) (c : ℕ → Site) (bodies : ℕ → Bool) → ((i : ℕ) → is_slot (c i).above ≡ true → ⊥) → ((i : ℕ) → bodies i ≡ true → ⊥) → (fs : Fields) → elements_form s last fs ≡ true → FieldsHave k c bodies fs
  elements-have s last c bodies slots arrows done h = tt
  elements-have s last c bodies slots arrows (f then fs) h =
      let here = sort_before_fields s last fs in
      let parts = and_parts (element_form here f) (elements_form s last fs) h in
      (field-has k (c zero) (bodies zero) (element_form here) (element-holds here (c zero) (bodies zero) (slots zero) (arrows zero)) (λ ts e. absurd (cc e)) f parts.0, elements-have s last (λ i. c (suc i)) (λ i. bodies (suc i)) (λ i. slots (suc i)) (λ i. arrows (suc i)) fs parts.1)

no-slot : s-Program ≡ s-Expression → ⊥
no-slot e = absurd (cc e)

no-arrow : s-Program ≡ s-ArrowFunctionBody → ⊥
no-arrow e = absurd (cc e)

-- the fields of a node that has form
pub node-have : (n : Site) (a : Sort) (k : AstType) (l : Label) (fs : OpenFields) → has_form a (node k l (finished_fields fs)) ≡ true → FieldsHave k (site_in n k l fs) (is_body k) (finished_fields fs)
node-have n a k l fs h = at (elements_of (child_entries k)) refl (node_form a k l (finished_fields fs) h).children
  where
    at : (o : Option ElementsPlace) → elements_of (child_entries k) ≡ o → match_option o (fields_form k l (child_entries k) (finished_fields fs)) (λ p. elements_form p.sort p.last (finished_fields fs)) ≡ true → FieldsHave k (site_in n k l fs) (is_body k) (finished_fields fs)
    at None e g = entries-have k l (child_entries k) (site_in n k l fs) (is_body k) (slot-sort n.above k l (outline fs)) (arrow-sort k l) (all-take k) (all-listed k) (finished_fields fs) g
    at (Some p) e g =
        let slots : (i : ℕ) → is_slot (site_in n k l fs i).above ≡ true → ⊥ = λ i d. no-slot (sym (elements-sort k l (child_entries k) p i e) ∙ slot-sort n.above k l (outline fs) i d) in
        let arrows : (i : ℕ) → is_body k i ≡ true → ⊥ = λ i d. no-arrow (sym (elements-sort k l (child_entries k) p i e) ∙ arrow-sort k l i d) in
        elements-have k l p.sort p.last (site_in n k l fs) (is_body k) slots arrows (finished_fields fs) g

-- LISTS: the statements of one with others before them

joined-have : (bs ts : Trees) → TreesHave (joined_trees bs ts) → TreesHave ts
joined-have empty ts h = h
joined-have (b before bs) ts h = joined-have bs ts h.1

pub rest-have : (bs ts : Trees) → TreesHave (after_imports bs ts) → TreesHave ts
rest-have bs empty h = tt
rest-have bs (t before ts) h = at (is_import t) (λ k. rest-have bs ts k) h
  where
    at : (v : Bool) → (TreesHave (after_imports bs ts) → TreesHave ts) → TreesHave (if v then t before after_imports bs ts else joined_trees bs (t before ts)) → TreesHave (t before ts)
    at true r k = (k.0, r k.1)
    at false r k = joined-have bs (t before ts) k

-- WHERE THE BODY OF AN ARROW STANDS: in the second field

pub record ArrowAt (k : AstType) (i : ℕ) : Type 0 where
  pub kind : k ≡ ArrowFunctionExpression
  pub index : i ≡ 1

arrow-at : (k : AstType) (i : ℕ) → is_body k i ≡ true → ArrowAt k i
arrow-at ArrowFunctionExpression zero e = absurd (cc e)
arrow-at ArrowFunctionExpression (suc zero) e = record { kind = refl; index = refl }
arrow-at ArrowFunctionExpression (suc (suc i)) e = absurd (cc e)
arrow-at k i e = absurd (cc e)

-- counted from the first field
pub arrow-first : (k : AstType) (j : ℕ) → is_body k j ≡ true → ArrowAt k (0 + j)
arrow-first k j e = let f = arrow-at k j e in record { kind = f.kind; index = let d = f.index in omega (arith, d) }

-- the next field
pub arrow-next : (bodies : ℕ → Bool) (k : AstType) (i : ℕ) → ((j : ℕ) → bodies j ≡ true → ArrowAt k (i + j)) → (j : ℕ) → bodies (suc j) ≡ true → ArrowAt k (suc i + j)
arrow-next bodies k i h j e = let f = h (suc j) e in record { kind = f.kind; index = let d = f.index in omega (arith, d) }

pub arrow-zero : (bodies : ℕ → Bool) (k : AstType) (i : ℕ) → ((j : ℕ) → bodies j ≡ true → ArrowAt k (i + j)) → bodies zero ≡ true → ArrowAt k i
arrow-zero bodies k i h e = let f = h zero e in record { kind = f.kind; index = let d = f.index in omega (arith, d) }
