-- A program of the class that has form and keeps the rules of places passes the tests.
use Rattle.std.proofs.Common.{◌≡◌, ℕ, zero, suc, refl, List, [], ◌∷◌}
use Rattle.std.proofs.lemmas.Bool.{and_parts, and_from}
use Rattle.std.specs.Prelude.{Bool, true, false, not, ◌&&◌, ◌||◌, Some, codes}
use Rattle.es_tree.specs.Ancestors.{Ancestor, ancestor, is_script_top, stands_in}
use Rattle.es_tree.specs.Attributes.{child_entries}
use Rattle.es_tree.specs.HasForm.{ElementsPlace, elements_form, elements_of, field_form, fields_form, has_form, match_option}
use Rattle.es_tree.specs.Names.{first_text}
use Rattle.es_tree.specs.StaticRules.{has_pattern, is_bad_for, is_bad_using, is_lone_declarator}
use Rattle.es_tree.specs.Tree.{Tree, node, Label, Fields, done, ◌then◌, Field, missing, one, many, statements, Trees, empty, ◌before◌}
use Rattle.es_tree.specs.Walks.{all_nodes, all_in_field, all_in_fields, all_in_trees}
use Rattle.es_tree.specs.declared.ast_type.AstType.{AstType}
use Rattle.es_tree.specs.declared.ast_type.AstType.TheVariants.{ArrayExpression, ArrayPattern, ArrayTarget, BlockStatement, ExportNamedDeclaration, ForInStatement, ForOfStatement, ForStatement, MetaProperty, ObjectProperty, Program, SwitchStatement, VariableDeclaration}
use Rattle.es_tree.specs.declared.table.Entry.{Entry}
use Rattle.es_tree.specs.declared.table.Sort.TheVariants.{Program as s-Program}
use Rattle.es_semantic.proofs.FormEdges.{Edges, EdgesAll, EdgesBy, EdgesIn, ElementsFit, TableFits, edges-inside, elements-are, entries_fit}
use Rattle.es_resolution.proofs.AllForms.{All, AllAmong, AllBy, AllIn, all-tree}
use Rattle.es_valid_steps.specs.PlaceRules.{Keeps, KeepsAll, KeepsBy, KeepsIn}
use Rattle.es_statement_runs.specs.Names.{is_word}
use Rattle.es_statement_runs.specs.Programs.{is_statement_kind, is_statement_node, is_without_functions}
use Rattle.es_rest_runs.specs.Tests.{exports_declaration, field_passes, fields_pass, head_alone, lone_head, sized, tested, trees_pass, using_fine}

-- AN EXPORT HAS A DECLARATION, by the table
abbrev is_declaration : AstType → Bool
is_declaration VariableDeclaration = true
is_declaration k = false

abbrev exports : AstType → ℕ → AstType → Bool
exports ExportNamedDeclaration zero j = is_declaration j
exports k i j = true

abbrev edge : AstType → ℕ → Bool → AstType → Bool
edge k i last j = not (is_statement_kind j) || exports k i j

entries_are : (k : AstType) → entries_fit edge k 0 (child_entries k) ≡ true
entries_are Program = refl
entries_are _ = refl

elements_are : (k : AstType) (p : ElementsPlace) → elements_of (child_entries k) ≡ Some p → ElementsFit edge k p
elements_are ArrayExpression p e = elements-are edge ArrayExpression _ p e (record { sort = λ i b. refl; last = λ i b. refl })
elements_are ArrayPattern p e = elements-are edge ArrayPattern _ p e (record { sort = λ i b. refl; last = λ i b. refl })
elements_are ArrayTarget p e = elements-are edge ArrayTarget _ p e (record { sort = λ i b. refl; last = λ i b. refl })
elements_are _ p e = absurd (cc e)

table : TableFits edge
table = record { entries = entries_are; elements = elements_are }

node_kind : (k : AstType) (l : Label) (fs : Fields) → is_statement_node k l fs ≡ true → is_statement_kind k ≡ true
node_kind ObjectProperty l fs e = refl
node_kind MetaProperty l fs e = refl
node_kind _ l fs e = e

-- FIELDS
one_short : (a : Bool) → (a && false) ≡ true → ⊥
one_short true e = absurd (cc e)
one_short false e = absurd (cc e)

two_short : (a b : Bool) → (a && (b && false)) ≡ true → ⊥
two_short true b e = one_short b e
two_short false b e = absurd (cc e)

-- as many fields as the table has
abbrev same_count : List Entry → Fields → Bool
same_count [] done = true
same_count (x ∷ es) (f then fs) = same_count es fs
same_count es fs = false

counted : (k : AstType) (l : Label) (es : List Entry) (fs : Fields) → fields_form k l es fs ≡ true → same_count es fs ≡ true
counted k l [] done h = refl
counted k l [] (f then fs) h = absurd (cc h)
counted k l (x ∷ es) done h = absurd (cc h)
counted k l (x ∷ es) (f then fs) h = counted k l es fs (and_parts (field_form k l x.content f) (fields_form k l es fs) h).1

abbrev Sized : AstType → Label → Fields → Type 0
Sized k l fs = sized k fs ≡ true

abbrev Formed : AstType → Label → Fields → Type 0
Formed k l fs = match_option (elements_of (child_entries k)) (fields_form k l (child_entries k) fs) (λ p. elements_form p.sort p.last fs) ≡ true

formed : (k : AstType) (l : Label) (fs : Fields) → Formed k l fs → sized k fs ≡ true
formed BlockStatement l (statements ts then done) h = refl
formed BlockStatement l (statements ts then (g then fs)) h = absurd (one_short _ h)
formed BlockStatement l done h = absurd (cc h)
formed BlockStatement l (missing then fs) h = absurd (cc h)
formed BlockStatement l (one t then fs) h = absurd (cc h)
formed BlockStatement l (many ts then fs) h = absurd (cc h)
formed ForStatement l done h = absurd (cc h)
formed ForStatement l (f then done) h = absurd (one_short _ h)
formed ForStatement l (f then (g then done)) h = absurd (two_short _ _ h)
formed ForStatement l (f then (g then (i then done))) h = absurd (let no : false ≡ true = counted ForStatement l (child_entries ForStatement) (f then (g then (i then done))) h in cc no)
formed ForStatement l (f then (g then (i then (j then done)))) h = refl
formed ForStatement l (f then (g then (i then (j then (m then fs))))) h = absurd (let no : false ≡ true = counted ForStatement l (child_entries ForStatement) (f then (g then (i then (j then (m then fs))))) h in cc no)
formed SwitchStatement l (one t then (many cs then done)) h = refl
formed SwitchStatement l (one t then (many cs then (g then fs))) h = absurd (two_short _ _ h)
formed SwitchStatement l (one t then (missing then fs)) h = absurd (one_short _ h)
formed SwitchStatement l (one t then (one u then fs)) h = absurd (one_short _ h)
formed SwitchStatement l (one t then (statements ts then fs)) h = absurd (one_short _ h)
formed SwitchStatement l (one t then done) h = absurd (one_short _ h)
formed SwitchStatement l (missing then fs) h = absurd (cc h)
formed SwitchStatement l (many ts then fs) h = absurd (cc h)
formed SwitchStatement l (statements ts then fs) h = absurd (cc h)
formed SwitchStatement l done h = absurd (cc h)
formed _ l fs h = refl

-- THE RULES
using_kept : (up : List Ancestor) (k : AstType) (l : Label) (fs : Fields) → is_bad_using up (node k l fs) ≡ false → using_fine k l fs ≡ true
using_kept up VariableDeclaration l (many ds then fs) h = at (is_word (codes "using") (first_text l.texts)) (has_pattern ds) (is_script_top up) (stands_in ForInStatement 0 up) (stands_in ExportNamedDeclaration 0 up) h
  where
    at : (a b c d e : Bool) → (a && (((b || c) || d) || e)) ≡ false → not (a && b) ≡ true
    at true true c d e f = absurd (cc f)
    at true false c d e f = refl
    at false b c d e f = refl
using_kept up VariableDeclaration l done h = refl
using_kept up VariableDeclaration l (missing then fs) h = refl
using_kept up VariableDeclaration l (one t then fs) h = refl
using_kept up VariableDeclaration l (statements t then fs) h = refl
using_kept up _ l fs h = refl

or_true : (b : Bool) → (b || true) ≡ true
or_true true = refl
or_true false = refl

lone_kept : (up : List Ancestor) (t : Tree) → (stands_in ForInStatement 0 up || stands_in ForOfStatement 0 up) ≡ true → is_bad_for up t ≡ false → lone_head t ≡ true
lone_kept up (node VariableDeclaration l (many ds then fs)) s h = at (stands_in ForInStatement 0 up || stands_in ForOfStatement 0 up) (is_lone_declarator ds) s h
  where
    at : (a b : Bool) → a ≡ true → (a && not b) ≡ false → b ≡ true
    at true true e f = refl
    at true false e f = absurd (cc f)
    at false b e f = absurd (cc e)
lone_kept up (node VariableDeclaration l done) s h = refl
lone_kept up (node VariableDeclaration l (missing then fs)) s h = refl
lone_kept up (node VariableDeclaration l (one t then fs)) s h = refl
lone_kept up (node VariableDeclaration l (statements t then fs)) s h = refl
lone_kept up (node k l fs) s h = refl

lone_trees : (up : List Ancestor) (ts : Trees) → (stands_in ForInStatement 0 up || stands_in ForOfStatement 0 up) ≡ true → KeepsAll up ts → trees_pass lone_head ts ≡ true
lone_trees up empty s h = refl
lone_trees up (node k l fs before ts) s h = and_from (lone_head (node k l fs)) (trees_pass lone_head ts) (lone_kept up (node k l fs) s h.0.0.head) (lone_trees up ts s h.1)

lone_field : (up : List Ancestor) (f : Field) → (stands_in ForInStatement 0 up || stands_in ForOfStatement 0 up) ≡ true → KeepsBy up f → field_passes lone_head f ≡ true
lone_field up missing s h = refl
lone_field up (one (node k l fs)) s h = lone_kept up (node k l fs) s h.0.head
lone_field up (many ts) s h = lone_trees up ts s h
lone_field up (statements ts) s h = lone_trees up ts s h

exported : (i : ℕ) (last : Bool) (t : Tree) → Edges edge ExportNamedDeclaration 0 last t → all_nodes is_statement_node t ≡ true → exports_declaration t ≡ true
exported i last (node k l fs) e d = at k e.0 (node_kind k l fs (and_parts (is_statement_node k l fs) (all_in_fields is_statement_node fs) d).0)
  where
    at : (k : AstType) → (not (is_statement_kind k) || is_declaration k) ≡ true → is_statement_kind k ≡ true → exports_declaration (node k l fs) ≡ true
    at VariableDeclaration e c = refl
    at k e c = absurd (none (is_statement_kind k) c e)
      where
        none : (b : Bool) → b ≡ true → (not b || false) ≡ true → ⊥
        none true e f = absurd (cc f)
        none false e f = absurd (cc e)

exported_trees : (ts : Trees) → EdgesAll edge ExportNamedDeclaration 0 ts → all_in_trees is_statement_node ts ≡ true → trees_pass exports_declaration ts ≡ true
exported_trees empty e d = refl
exported_trees (t before ts) e d =
    let p = and_parts (all_nodes is_statement_node t) (all_in_trees is_statement_node ts) d in
    and_from (exports_declaration t) (trees_pass exports_declaration ts) (exported 0 false t e.0 p.0) (exported_trees ts e.1 p.1)

exported_field : (last : Bool) (f : Field) → EdgesBy edge ExportNamedDeclaration 0 last f → all_in_field is_statement_node f ≡ true → field_passes exports_declaration f ≡ true
exported_field last missing e d = refl
exported_field last (one t) e d = exported 0 last t e d
exported_field last (many ts) e d = exported_trees ts e d
exported_field last (statements ts) e d = exported_trees ts e d

passes_trees : (c : Tree → Bool) → ((t : Tree) → c t ≡ true) → (ts : Trees) → trees_pass c ts ≡ true
passes_trees c h empty = refl
passes_trees c h (t before ts) = and_from (c t) (trees_pass c ts) (h t) (passes_trees c h ts)

passes_field : (c : Tree → Bool) → ((t : Tree) → c t ≡ true) → (f : Field) → field_passes c f ≡ true
passes_field c h missing = refl
passes_field c h (one t) = h t
passes_field c h (many ts) = passes_trees c h ts
passes_field c h (statements ts) = passes_trees c h ts

passes_all : (c : ℕ → Tree → Bool) → ((i : ℕ) (t : Tree) → c i t ≡ true) → (fs : Fields) → fields_pass c fs ≡ true
passes_all c h done = refl
passes_all c h (f then fs) = and_from (field_passes (c zero) f) (fields_pass (λ i. c (suc i)) fs) (passes_field (c zero) (h zero) f) (passes_all (λ i. c (suc i)) (λ i. h (suc i)) fs)

heads_kept : (up : List Ancestor) (k : AstType) (l : Label) (all fs : Fields) → EdgesIn edge k 0 fs → KeepsIn up k l all 0 fs → all_in_fields is_statement_node fs ≡ true → fields_pass (head_alone k) fs ≡ true
heads_kept up ForInStatement l all done e h d = refl
heads_kept up ForInStatement l all (f then fs) e h d = and_from (field_passes lone_head f) (fields_pass (λ i. head_alone ForInStatement (suc i)) fs) (lone_field (ancestor ForInStatement l all 0 0 ∷ up) f refl h.0) (passes_all (λ i. head_alone ForInStatement (suc i)) (λ i t. refl) fs)
heads_kept up ForOfStatement l all done e h d = refl
heads_kept up ForOfStatement l all (f then fs) e h d = and_from (field_passes lone_head f) (fields_pass (λ i. head_alone ForOfStatement (suc i)) fs) (lone_field (ancestor ForOfStatement l all 0 0 ∷ up) f refl h.0) (passes_all (λ i. head_alone ForOfStatement (suc i)) (λ i t. refl) fs)
heads_kept up ExportNamedDeclaration l all done e h d = refl
heads_kept up ExportNamedDeclaration l all (f then fs) e h d =
    and_from (field_passes exports_declaration f) (fields_pass (λ i. head_alone ExportNamedDeclaration (suc i)) fs) (exported_field _ f e.0 (and_parts (all_in_field is_statement_node f) (all_in_fields is_statement_node fs) d).0) (passes_all (λ i. head_alone ExportNamedDeclaration (suc i)) (λ i t. refl) fs)
heads_kept up k l all fs e h d = passes_all (head_alone k) (λ i t. refl) fs

-- ALL NODES
mutual
  tree_tested : (up : List Ancestor) (above : AstType) (i : ℕ) (last : Bool) (t : Tree) → Edges edge above i last t → Keeps up t → All Sized t → all_nodes is_statement_node t ≡ true → all_nodes tested t ≡ true
  tree_tested up above i last (node k l fs) e h s d =
      let c = (and_parts (is_statement_node k l fs) (all_in_fields is_statement_node fs) d).1 in
      and_from (tested k l fs) (all_in_fields tested fs) (and_from (sized k fs && using_fine k l fs) (fields_pass (head_alone k) fs) (and_from (sized k fs) (using_fine k l fs) s.0 (using_kept up k l fs h.0.using_word)) (heads_kept up k l fs fs e.1 h.1 c))
      (fields_tested up k l fs 0 fs e.1 h.1 s.1 c)

  fields_tested : (up : List Ancestor) (k : AstType) (l : Label) (all : Fields) (i : ℕ) (fs : Fields) → EdgesIn edge k i fs → KeepsIn up k l all i fs → AllIn Sized fs → all_in_fields is_statement_node fs ≡ true → all_in_fields tested fs ≡ true
  fields_tested up k l all i done e h s d = refl
  fields_tested up k l all i (f then fs) e h s d =
      let p = and_parts (all_in_field is_statement_node f) (all_in_fields is_statement_node fs) d in
      and_from (all_in_field tested f) (all_in_fields tested fs) (field_tested (ancestor k l all i 0 ∷ up) k i _ f e.0 h.0 s.0 p.0) (fields_tested up k l all (suc i) fs e.1 h.1 s.1 p.1)

  field_tested : (up : List Ancestor) (k : AstType) (i : ℕ) (last : Bool) (f : Field) → EdgesBy edge k i last f → KeepsBy up f → AllBy Sized f → all_in_field is_statement_node f ≡ true → all_in_field tested f ≡ true
  field_tested up k i last missing e h s d = refl
  field_tested up k i last (one t) e h s d = tree_tested up k i last t e h s d
  field_tested up k i last (many ts) e h s d = trees_tested up k i ts e h s d
  field_tested up k i last (statements ts) e h s d = trees_tested up k i ts e h s d

  trees_tested : (up : List Ancestor) (k : AstType) (i : ℕ) (ts : Trees) → EdgesAll edge k i ts → KeepsAll up ts → AllAmong Sized ts → all_in_trees is_statement_node ts ≡ true → all_in_trees tested ts ≡ true
  trees_tested up k i empty e h s d = refl
  trees_tested up k i (t before ts) e h s d =
      let p = and_parts (all_nodes is_statement_node t) (all_in_trees is_statement_node ts) d in
      and_from (all_nodes tested t) (all_in_trees tested ts) (tree_tested up k i false t e.0 h.0 s.0 p.0) (trees_tested up k i ts e.1 h.1 s.1 p.1)

pub program_tested : (t : Tree) → has_form s-Program t ≡ true → is_without_functions t ≡ true → Keeps [] t → all_nodes tested t ≡ true
program_tested (node k l fs) form class kept =
    let e = edges-inside edge table s-Program k l fs form in
    let s = all-tree Sized (λ s j m gs f. formed j m gs f.children) s-Program (node k l fs) form in
    let c = (and_parts (is_statement_node k l fs) (all_in_fields is_statement_node fs) class).1 in
    and_from (tested k l fs) (all_in_fields tested fs) (and_from (sized k fs && using_fine k l fs) (fields_pass (head_alone k) fs) (and_from (sized k fs) (using_fine k l fs) s.0 (using_kept [] k l fs kept.0.using_word)) (heads_kept [] k l fs fs e kept.1 c))
    (fields_tested [] k l fs 0 fs e kept.1 s.1 c)
