-- The names that a declaration declares: what is known of a tree, and handed on to the parts of its patterns that bind names, is known of each of them.
use Rattle.std.proofs.Common.{◌≡◌, ◌==◌, refl, length, List, [], ◌∷◌, ◌++◌}
use Rattle.std.specs.Prelude.{Bool, true, false, not, ◌&&◌, Option, Some, None}
use Rattle.std.proofs.lemmas.Bool.{and_parts}
use Rattle.es_tree.specs.Attributes.{child_entries, text_entries, texts_fit}
use Rattle.es_tree.specs.BoundNames.{bound_identifiers, bound_in_field, bound_in_fields, bound_in_trees}
use Rattle.es_tree.specs.HasForm.{element_form, elements_form, elements_of, field_form, fields_form, has_form, sort_at, sort_before_fields, sort_before_trees, trees_form}
use Rattle.es_tree.specs.Names.{first_text}
use Rattle.es_tree.specs.Table.{rest_sort}
use Rattle.es_tree.specs.Tree.{Tree, node, Label, Fields, done, ◌then◌, Field, missing, one, many, statements, Trees, empty, ◌before◌}
use Rattle.es_tree.specs.Words.{Text}
use Rattle.es_tree.specs.declared.ast_type.AstType.{AstType}
use Rattle.es_tree.specs.declared.ast_type.AstType.TheVariants.{ArrayPattern, AssignmentPattern, ExportNamedDeclaration, Identifier, ObjectPattern, PatternProperty, RestElement, VariableDeclaration, VariableDeclarator}
use Rattle.es_tree.specs.declared.table.Content.{Content}
use Rattle.es_tree.specs.declared.table.Content.TheVariants.{Child as c-Child}
use Rattle.es_tree.specs.declared.table.Entry.{Entry}
use Rattle.es_tree.specs.declared.table.Often.TheVariants.{Required, Optional, List as a-List, NonEmptyList, ListWithRest, Statements}
use Rattle.es_tree.specs.declared.table.Sort.{Sort}
use Rattle.es_tree.proofs.NodeForm.{node_form}
use Rattle.es_semantic.proofs.FormEdges.{by-option}
use Rattle.es_rest_shapes.specs.RestShapes.{declares_rest}
use Rattle.es_export_splits.specs.SplitRule.{EachTree}
use Rattle.es_export_splits.specs.Splits.{is_split, names_of_declaration, names_of_declarator, names_of_declarators, text_of}

-- AN EXPORT that is split

abbrev pub export_with : Label → Tree → Tree
export_with l d = node ExportNamedDeclaration l (one d then many empty then missing then many empty then done)

pub data IsExport : Tree → Type 0 where
  is_export : (l k : Label) (ds : Trees) (fs : Fields) → IsExport (export_with l (node VariableDeclaration k (many ds then fs)))

by-declaration : (l : Label) (d : Tree) → declares_rest d ≡ true → IsExport (export_with l d)
by-declaration l (node VariableDeclaration k (many ds then fs)) e = is_export l k ds fs
by-declaration l (node k m fs) e = absurd (let no : false ≡ true = e in cc no)

pub export-is : (t : Tree) → is_split t ≡ true → IsExport t
export-is (node ExportNamedDeclaration l (one d then many empty then missing then many empty then done)) e = by-declaration l d e
export-is t e = absurd (let no : false ≡ true = e in cc no)

-- LISTS OF NAMES

each-both : (P : Tree → Type 0) (xs ys : List Tree) → EachTree P xs → EachTree P ys → EachTree P (xs ++ ys)
each-both P [] ys h k = k
each-both P (x ∷ xs) ys h k = (h.0, each-both P xs ys h.1 k)

-- WHAT IS HANDED ON: from a pattern to the parts of it that bind names, and from the declarators of a declaration to their patterns

pub record HandedOn (P H : Tree → Type 0) (By : Field → Type 0) (All : Trees → Type 0) (In : Fields → Type 0) : Type 0 where
  pub names : (l : Label) (fs : Fields) → H (node Identifier l fs) → P (node Identifier l fs)
  pub objects : (l : Label) (f : Field) (fs : Fields) → H (node ObjectPattern l (f then fs)) → By f
  pub properties : (l : Label) (f g : Field) (fs : Fields) → H (node PatternProperty l (f then g then fs)) → By g
  pub defaults : (l : Label) (f : Field) (fs : Fields) → H (node AssignmentPattern l (f then fs)) → By f
  pub rests : (l : Label) (f : Field) (fs : Fields) → H (node RestElement l (f then fs)) → By f
  pub arrays : (l : Label) (fs : Fields) → H (node ArrayPattern l fs) → In fs
  pub elements : (f : Field) (fs : Fields) → In (f then fs) → By f × In fs
  pub child : (t : Tree) → By (one t) → H t
  pub children : (ts : Trees) → By (many ts) → All ts
  pub list : (ts : Trees) → By (statements ts) → All ts
  pub more : (t : Tree) (ts : Trees) → All (t before ts) → H t × All ts

module _ {P H : Tree → Type 0} {By : Field → Type 0} {All : Trees → Type 0} {In : Fields → Type 0} (h : HandedOn P H By All In) where
  mutual
    pattern-names : (t : Tree) → H t → EachTree P (bound_identifiers t)
    pattern-names (node Identifier l fs) g = (h.names l fs g, tt)
    pattern-names (node ObjectPattern l done) g = tt
    pattern-names (node ObjectPattern l (f then fs)) g = field-names f (h.objects l f fs g)
    pattern-names (node PatternProperty l done) g = tt
    pattern-names (node PatternProperty l (f then done)) g = tt
    pattern-names (node PatternProperty l (f then e then fs)) g = field-names e (h.properties l f e fs g)
    pattern-names (node ArrayPattern l fs) g = element-names fs (h.arrays l fs g)
    pattern-names (node AssignmentPattern l done) g = tt
    pattern-names (node AssignmentPattern l (f then fs)) g = field-names f (h.defaults l f fs g)
    pattern-names (node RestElement l done) g = tt
    pattern-names (node RestElement l (f then fs)) g = field-names f (h.rests l f fs g)
    pattern-names (node _ l fs) g = tt

    element-names : (fs : Fields) → In fs → EachTree P (bound_in_fields fs)
    element-names done g = tt
    element-names (f then fs) g = let p = h.elements f fs g in each-both P (bound_in_field f) (bound_in_fields fs) (field-names f p.0) (element-names fs p.1)

    field-names : (f : Field) → By f → EachTree P (bound_in_field f)
    field-names missing g = tt
    field-names (one t) g = pattern-names t (h.child t g)
    field-names (many ts) g = all-names ts (h.children ts g)
    field-names (statements ts) g = all-names ts (h.list ts g)

    all-names : (ts : Trees) → All ts → EachTree P (bound_in_trees ts)
    all-names empty g = tt
    all-names (t before ts) g = let p = h.more t ts g in each-both P (bound_identifiers t) (bound_in_trees ts) (pattern-names t p.0) (all-names ts p.1)

  module _ {D : Tree → Type 0} {Ds : Trees → Type 0} (declarator : (l : Label) (p : Tree) (fs : Fields) → D (node VariableDeclarator l (one p then fs)) → H p) (several : (t : Tree) (ts : Trees) → Ds (t before ts) → D t × Ds ts) where
    declarator-names : (d : Tree) → D d → EachTree P (names_of_declarator d)
    declarator-names (node VariableDeclarator l done) g = tt
    declarator-names (node VariableDeclarator l (one p then fs)) g = pattern-names p (declarator l p fs g)
    declarator-names (node VariableDeclarator l (missing then fs)) g = tt
    declarator-names (node VariableDeclarator l (many ts then fs)) g = tt
    declarator-names (node VariableDeclarator l (statements ts then fs)) g = tt
    declarator-names (node _ l fs) g = tt

    declarators-names : (ds : Trees) → Ds ds → EachTree P (names_of_declarators ds)
    declarators-names empty g = tt
    declarators-names (d before ds) g = let p = several d ds g in each-both P (names_of_declarator d) (names_of_declarators ds) (declarator-names d p.0) (declarators-names ds p.1)

    -- of a declaration
    pub declaration-names : (l : Label) (ds : Trees) (fs : Fields) → Ds ds → EachTree P (names_of_declaration (node VariableDeclaration l (many ds then fs)))
    declaration-names l ds done g = declarators-names ds g
    declaration-names l ds (f then fs) g = tt

-- FORM: the text of each name isn't empty

record HasSort (t : Tree) : Type 0 where
  sort : Sort
  formed : has_form sort t ≡ true

abbrev SortsAmong : Trees → Type 0
SortsAmong empty = Unit {0}
SortsAmong (t before ts) = HasSort t × SortsAmong ts

abbrev SortsBy : Field → Type 0
SortsBy missing = Unit {0}
SortsBy (one t) = HasSort t
SortsBy (many ts) = SortsAmong ts
SortsBy (statements ts) = SortsAmong ts

abbrev SortsIn : Fields → Type 0
SortsIn done = Unit {0}
SortsIn (f then fs) = SortsBy f × SortsIn fs

sorts-among : (s last : Sort) (ts : Trees) → trees_form s last ts ≡ true → SortsAmong ts
sorts-among s last empty e = tt
sorts-among s last (t before ts) e =
    let both = and_parts (has_form (sort_before_trees s last ts) t) (trees_form s last ts) e in
    (record { sort = sort_before_trees s last ts; formed = both.0 }, sorts-among s last ts both.1)

sorts-by : (k : AstType) (l : Label) (c : Content) (f : Field) → field_form k l c f ≡ true → SortsBy f
sorts-by k l (c-Child s Required) (one t) e = record { sort = sort_at k l s; formed = e }
sorts-by k l (c-Child s Optional) missing e = tt
sorts-by k l (c-Child s Optional) (one t) e = record { sort = sort_at k l s; formed = e }
sorts-by k l (c-Child s a-List) (many ts) e = sorts-among s s ts e
sorts-by k l (c-Child s NonEmptyList) (many (t before ts)) e = sorts-among s s (t before ts) e
sorts-by k l (c-Child s ListWithRest) (many ts) e = sorts-among s (rest_sort s) ts e
sorts-by k l (c-Child s Statements) (statements ts) e = sorts-among s s ts e
sorts-by k l _ f e = absurd (let no : false ≡ true = e in cc no)

sorts-in : (k : AstType) (l : Label) (es : List Entry) (fs : Fields) → fields_form k l es fs ≡ true → SortsIn fs
sorts-in k l es done e = tt
sorts-in k l [] (f then fs) e = absurd (let no : false ≡ true = e in cc no)
sorts-in k l (c ∷ es) (f then fs) e =
    let both = and_parts (field_form k l c.content f) (fields_form k l es fs) e in
    (sorts-by k l c.content f both.0, sorts-in k l es fs both.1)

element-sort : (s : Sort) (f : Field) → element_form s f ≡ true → SortsBy f
element-sort s missing e = tt
element-sort s (one t) e = record { sort = s; formed = e }
element-sort s (many ts) e = absurd (let no : false ≡ true = e in cc no)
element-sort s (statements ts) e = absurd (let no : false ≡ true = e in cc no)

elements-sorts : (s last : Sort) (fs : Fields) → elements_form s last fs ≡ true → SortsIn fs
elements-sorts s last done e = tt
elements-sorts s last (f then fs) e =
    let both = and_parts (element_form (sort_before_fields s last fs) f) (elements_form s last fs) e in
    (element-sort (sort_before_fields s last fs) f both.0, elements-sorts s last fs both.1)

inside : (k : AstType) (l : Label) (fs : Fields) → HasSort (node k l fs) → SortsIn fs
inside k l fs h = by-option (elements_of (child_entries k)) (fields_form k l (child_entries k) fs) (λ p. elements_form p.sort p.last fs) (SortsIn fs) (node_form h.sort k l fs h.formed).children (λ e. sorts-in k l (child_entries k) fs e) (λ p o e. elements-sorts p.sort p.last fs e)

abbrev pub HasText : Tree → Type 0
HasText x = (length (text_of x) == 0) ≡ false

not-empty : (ts : List (Option Text)) → texts_fit (text_entries Identifier) ts ≡ true → (length (first_text ts) == 0) ≡ false
not-empty [] h = absurd (let no : false ≡ true = h in cc no)
not-empty (None ∷ ts) h = absurd (let no : false ≡ true = h in cc no)
not-empty (Some x ∷ ts) h = at (length x == 0) h
  where
    at : (b : Bool) → (not b && texts_fit [] ts) ≡ true → b ≡ false
    at true h = absurd (let no : false ≡ true = h in cc no)
    at false h = refl

texts-handed : HandedOn HasText HasSort SortsBy SortsAmong SortsIn
texts-handed = record {
  names = λ l fs h. not-empty l.texts (node_form h.sort Identifier l fs h.formed).texts;
  objects = λ l f fs h. (inside ObjectPattern l (f then fs) h).0;
  properties = λ l f g fs h. (inside PatternProperty l (f then g then fs) h).1.0;
  defaults = λ l f fs h. (inside AssignmentPattern l (f then fs) h).0;
  rests = λ l f fs h. (inside RestElement l (f then fs) h).0;
  arrays = λ l fs h. inside ArrayPattern l fs h;
  elements = λ f fs h. h;
  child = λ t h. h;
  children = λ ts h. h;
  list = λ ts h. h;
  more = λ t ts h. h;
}

pub names-formed : (s : Sort) (k : Label) (ds : Trees) (fs : Fields) → has_form s (node VariableDeclaration k (many ds then fs)) ≡ true → EachTree HasText (names_of_declaration (node VariableDeclaration k (many ds then fs)))
names-formed s k ds fs f = declaration-names texts-handed {D = HasSort} {Ds = SortsAmong} (λ l p gs h. (inside VariableDeclarator l (one p then gs) h).0) (λ t ts h. h) k ds fs (inside VariableDeclaration k (many ds then fs) (record { sort = s; formed = f })).0
