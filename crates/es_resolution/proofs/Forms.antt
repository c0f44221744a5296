-- In a program of the tree form bodies and names stand where they should: by the table of fields.
use Rattle.std.proofs.Common.{◌≡◌, ℕ, suc, refl, List, ◌∷◌}
use Rattle.std.specs.Prelude.{Bool, true, false, ◌||◌, Some}
use Rattle.std.proofs.lemmas.Bool.{and_parts}
use Rattle.es_tree.specs.Tree.{Tree, node, Label, Fields, done, ◌then◌, Field, missing, one, many, statements, Trees, empty, ◌before◌}
use Rattle.es_tree.specs.Attributes.{child_entries}
use Rattle.es_tree.specs.HasForm.{ElementsPlace, elements_of, same_type, match_option, has_form, elements_form, fields_form}
use Rattle.es_tree.specs.declared.ast_type.AstType.{AstType}
use Rattle.es_tree.specs.declared.ast_type.AstType.TheVariants.{Program, Identifier, FunctionDeclaration, FunctionExpression, ClassDeclaration, ClassExpression, ArrayExpression, ArrayPattern, ArrayTarget}
use Rattle.es_tree.specs.declared.table.FieldName.{FieldName}
use Rattle.es_tree.specs.declared.table.Entry.{Entry}
use Rattle.es_tree.specs.declared.table.Sort.TheVariants.{Program as s-Program, Identifier as s-Identifier}
use Rattle.es_tree.specs.declared.table.Often.TheVariants.{Optional}
use Rattle.es_tree.specs.declared.table.Content.TheVariants.{Child as c-Child}
use Rattle.es_tree.proofs.NodeForm.{node_form}
use Rattle.es_semantic.proofs.FormEdges.{Edges, EdgesIn, EdgesBy, EdgesAll, ElementsFit, TableFits, edges-inside, elements-are, entries_fit, same-kind}
use Rattle.es_resolution.proofs.AllForms.{All, AllIn, AllBy, AllAmong, all-tree}
use Rattle.es_resolution.proofs.Placed.{is_name_first, name_fits, is_last, kind_fits, Placed, PlacedIn, PlacedBy, PlacedAll, IsWellPlaced}

-- THE TABLE

abbrev fits : AstType → ℕ → Bool → AstType → Bool
fits k i last j = kind_fits k last j

entries-fit : (k : AstType) → entries_fit fits k 0 (child_entries k) ≡ true
entries-fit Program = refl
entries-fit _ = refl

elements-fit : (k : AstType) (p : ElementsPlace) → elements_of (child_entries k) ≡ Some p → ElementsFit fits k p
elements-fit ArrayExpression p e = elements-are fits ArrayExpression _ p e (record { sort = λ i b. refl; last = λ i b. refl })
elements-fit ArrayPattern p e = elements-are fits ArrayPattern _ p e (record { sort = λ i b. refl; last = λ i b. refl })
elements-fit ArrayTarget p e = elements-are fits ArrayTarget _ p e (record { sort = λ i b. refl; last = λ i b. refl })
elements-fit _ p e = absurd (cc e)

table : TableFits fits
table = record { entries = entries-fit; elements = elements-fit }

-- NAMES

id-node : (t : Tree) → has_form s-Identifier t ≡ true → (fs : Fields) → is_name_first (one t then fs) ≡ true
id-node (node Identifier l done) h fs = refl
id-node (node Identifier l (f then gs)) h fs = absurd (let no : false ≡ true = (node_form s-Identifier Identifier l (f then gs) h).children in cc)
id-node (node k l gs) h fs = absurd (let no : false ≡ true = (node_form s-Identifier k l gs h).sort in cc)

id-first : (k : AstType) (l : Label) (f : FieldName) (es : List Entry) (fs : Fields) → fields_form k l (record { field = f; content = c-Child s-Identifier Optional } ∷ es) fs ≡ true → is_name_first fs ≡ true
id-first k l f es (missing then fs) h = refl
id-first k l f es (one t then fs) h = id-node t (and_parts (has_form s-Identifier t) (fields_form k l es fs) h).0 fs
id-first k l f es (many ts then fs) h = absurd (cc h)
id-first k l f es (statements ts then fs) h = absurd (cc h)
id-first k l f es done h = absurd (cc h)

names-fit : (k : AstType) (l : Label) (fs : Fields) → match_option (elements_of (child_entries k)) (fields_form k l (child_entries k) fs) (λ p. elements_form p.sort p.last fs) ≡ true → name_fits k fs ≡ true
names-fit FunctionDeclaration l fs h = id-first FunctionDeclaration l _ _ fs h
names-fit FunctionExpression l fs h = id-first FunctionExpression l _ _ fs h
names-fit ClassDeclaration l fs h = id-first ClassDeclaration l _ _ fs h
names-fit ClassExpression l fs h = id-first ClassExpression l _ _ fs h
names-fit _ l fs h = refl

-- TREES

abbrev HasName : AstType → Label → Fields → Type 0
HasName k l fs = name_fits k fs ≡ true

mutual
  placed-tree : (k : AstType) (i : ℕ) (last : Bool) (t : Tree) → Edges fits k i last t → All HasName t → Placed k last t
  placed-tree k i last (node j l fs) h e = (h.0, e.0, placed-in j 0 fs h.1 e.1)

  placed-in : (k : AstType) (i : ℕ) (fs : Fields) → EdgesIn fits k i fs → AllIn HasName fs → PlacedIn k fs
  placed-in k i done h e = tt
  placed-in k i (f then fs) h e = (placed-by k i (is_last fs) f h.0 e.0, placed-in k (suc i) fs h.1 e.1)

  placed-by : (k : AstType) (i : ℕ) (last : Bool) (f : Field) → EdgesBy fits k i last f → AllBy HasName f → PlacedBy k last f
  placed-by k i last missing h e = tt
  placed-by k i last (one t) h e = placed-tree k i last t h e
  placed-by k i last (many ts) h e = placed-all k i ts h e
  placed-by k i last (statements ts) h e = placed-all k i ts h e

  placed-all : (k : AstType) (i : ℕ) (ts : Trees) → EdgesAll fits k i ts → AllAmong HasName ts → PlacedAll k ts
  placed-all k i empty h e = tt
  placed-all k i (t before ts) h e = (placed-tree k i false t h.0 e.0, placed-all k i ts h.1 e.1)

no-program : (k : AstType) → (same_type k Program || false) ≡ true → k ≡ Program
no-program k h = at (same_type k Program) refl h
  where
    at : (b : Bool) → same_type k Program ≡ b → (b || false) ≡ true → k ≡ Program
    at true d f = same-kind k Program d
    at false d f = absurd (cc f)

-- a program of the tree form is well placed
pub form-placed : (p : Tree) → has_form s-Program p ≡ true → IsWellPlaced p
form-placed (node k l fs) e =
    let names : All HasName (node k l fs) = all-tree HasName (λ s j m gs form. names-fit j m gs form.children) s-Program (node k l fs) e in
    (no-program k (node_form s-Program k l fs e).sort, placed-in k 0 fs (edges-inside fits table s-Program k l fs e) names.1)
