-- In a program of the class that has form and keeps the rules of places declarations, names and labels stand where `Stands` wants them.
use Rattle.std.proofs.Common.{◌≡◌, ◌==◌, ℕ, zero, suc, refl, ap, subst, ◌∙◌, List, [], ◌∷◌}
use Rattle.std.proofs.lemmas.Bool.{and_parts, and_from, false≢true}
use Rattle.std.specs.Prelude.{Bool, true, false, not, ◌&&◌, ◌||◌, Some, codes}
use Rattle.es_tree.specs.Ancestors.{Ancestor, ancestor, is_module}
use Rattle.es_tree.specs.Attributes.{child_entries}
use Rattle.es_tree.specs.HasForm.{ElementsPlace, elements_form, elements_of, fields_form, has_form, match_option, same_type, trees_form}
use Rattle.es_tree.specs.Names.{first_text}
use Rattle.es_tree.specs.StaticRules.{is_lone_body, is_misplaced_declaration}
use Rattle.es_tree.specs.Tree.{Tree, node, Label, Fields, done, ◌then◌, Field, missing, one, many, statements, Trees, empty, ◌before◌}
use Rattle.es_tree.specs.Walks.{all_nodes, all_in_field, all_in_fields, all_in_trees}
use Rattle.es_tree.specs.Words.{Text}
use Rattle.es_tree.specs.declared.ast_type.AstType.{AstType}
use Rattle.es_tree.specs.declared.ast_type.AstType.TheVariants.{Program, BlockStatement, VariableDeclaration, VariableDeclarator, IfStatement, ForStatement, ForInStatement, ForOfStatement, WhileStatement, DoWhileStatement, LabeledStatement, SwitchStatement, SwitchCase, CatchClause, ImportDeclaration, ImportSpecifier, ImportDefaultSpecifier, ImportNamespaceSpecifier, ExportNamedDeclaration, ArrayExpression, ArrayPattern, ArrayTarget, ObjectProperty, MetaProperty, UpdateExpression, ParenthesizedExpression, ChainExpression, AssignmentExpression, CallExpression, TaggedTemplateExpression}
use Rattle.es_tree.specs.declared.table.Sort.TheVariants.{Directive as s-Directive, Expression as s-Expression, Identifier as s-Identifier, ModuleExportName as s-ModuleExportName, Program as s-Program, Statement as s-Statement}
use Rattle.es_semantic.proofs.FormEdges.{Edges, EdgesAll, EdgesBy, EdgesIn, ElementsFit, TableFits, edges-inside, elements-are, entries_fit}
use Rattle.es_resolution.proofs.AllForms.{All, AllAmong, AllBy, AllIn, all-tree}
use Rattle.es_valid_steps.specs.PlaceRules.{Keeps, KeepsAll, KeepsBy, KeepsHere, KeepsIn}
use Rattle.es_statement_runs.specs.Names.{is_word}
use Rattle.es_statement_runs.specs.Programs.{is_statement_kind, is_statement_node, is_without_functions}
use Rattle.es_statement_steps.proofs.Below.{field_passes, fields_pass, trees_pass}
use Rattle.es_statement_steps.proofs.Stands.{child_stands, fits, is_plain, is_program, shaped, stands, takes}

-- THE TABLE OF FIELDS

-- where the table lets a declaration stand and the static rules don't: as the body of an `if`, a loop or a label (14), and module items in what is no
-- program (16.2)
abbrev is_lone : AstType → ℕ → Bool
is_lone IfStatement (suc zero) = true
is_lone IfStatement (suc (suc zero)) = true
is_lone ForStatement (suc (suc (suc zero))) = true
is_lone ForInStatement (suc (suc zero)) = true
is_lone ForOfStatement (suc (suc zero)) = true
is_lone WhileStatement (suc zero) = true
is_lone DoWhileStatement zero = true
is_lone LabeledStatement (suc zero) = true
is_lone k i = false

abbrev is_ruled_out : AstType → ℕ → AstType → Bool
is_ruled_out k i VariableDeclaration = is_lone k i
is_ruled_out k i ImportDeclaration = not (is_program k)
is_ruled_out k i ExportNamedDeclaration = not (is_program k)
is_ruled_out k i j = false

-- whatever its word
abbrev is_plain_kind : AstType → Bool
is_plain_kind j = is_plain j (codes "let")

abbrev is_allowed : AstType → ℕ → AstType → Bool
is_allowed k i j = fits k i j && (is_plain_kind j || (takes k i j || is_ruled_out k i j))

-- among the kinds of the class
abbrev edge : AstType → ℕ → Bool → AstType → Bool
edge k i last j = not (is_statement_kind k) || (not (is_statement_kind j) || is_allowed k i j)

entries_are : (k : AstType) → entries_fit edge k 0 (child_entries k) ≡ true
entries_are Program = refl
entries_are _ = refl

elements_are : (k : AstType) (p : ElementsPlace) → elements_of (child_entries k) ≡ Some p → ElementsFit edge k p
elements_are ArrayExpression p e = elements-are edge ArrayExpression _ p e (record { sort = λ i b. refl; last = λ i b. refl })
elements_are ArrayPattern p e = elements-are edge ArrayPattern _ p e (record { sort = λ i b. refl; last = λ i b. refl })
elements_are ArrayTarget p e = elements-are edge ArrayTarget _ p e (record { sort = λ i b. refl; last = λ i b. refl })
elements_are _ p e = absurd (cc e)

table : TableFits edge
table = record { entries = entries_are; elements = elements_are }

-- THE RULES

lone_body : (k : AstType) (i : ℕ) (l : Label) (all : Fields) (up : List Ancestor) → is_lone k i ≡ true → is_lone_body (ancestor k l all i 0 ∷ up) ≡ true
lone_body IfStatement (suc zero) l all up e = refl
lone_body IfStatement (suc (suc zero)) l all up e = refl
lone_body ForStatement (suc (suc (suc zero))) l all up e = refl
lone_body ForInStatement (suc (suc zero)) l all up e = refl
lone_body ForOfStatement (suc (suc zero)) l all up e = refl
lone_body WhileStatement (suc zero) l all up e = refl
lone_body DoWhileStatement zero l all up e = refl
lone_body LabeledStatement (suc zero) l all up e = refl
lone_body _ _ l all up e = absurd (cc e)

not_twice : (b : Bool) → not b ≡ false → b ≡ true
not_twice true e = refl
not_twice false e = absurd (cc e)

-- a declaration that the rules don't misplace there is one of `var`
by_var : (k : AstType) (i : ℕ) (l m : Label) (all gs : Fields) (up : List Ancestor) → is_lone k i ≡ true → is_misplaced_declaration (ancestor k l all i 0 ∷ up) (node VariableDeclaration m gs) ≡ false → is_word (codes "var") (first_text m.texts) ≡ true
by_var k i l m all gs up e kept = not_twice (is_word (codes "var") (first_text m.texts)) (at (not (is_word (codes "var") (first_text m.texts))) (is_lone_body (ancestor k l all i 0 ∷ up)) (lone_body k i l all up e) kept)
  where
    at : (a b : Bool) → b ≡ true → (a && b) ≡ false → a ≡ false
    at true b h g = absurd (cc (h, g))
    at false b h g = refl

-- a module item stands in a program
no_program : (k : AstType) → not (is_program k) ≡ true → same_type k Program ≡ false
no_program Program e = absurd (cc e)
no_program _ e = refl

misplaced : (k : AstType) (i : ℕ) (l : Label) (all : Fields) (up : List Ancestor) → not (is_program k) ≡ true → not ((same_type k Program && i == 1) && is_module (ancestor k l all i 0 ∷ up)) ≡ true
misplaced k i l all up e = ap (λ b. not ((b && i == 1) && is_module (ancestor k l all i 0 ∷ up))) (no_program k e)

plain_kind : (j : AstType) (word : Text) → is_plain_kind j ≡ true → is_plain j word ≡ true
plain_kind VariableDeclaration word e = absurd (cc e)
plain_kind SwitchCase word e = absurd (cc e)
plain_kind ImportDeclaration word e = absurd (cc e)
plain_kind ImportSpecifier word e = absurd (cc e)
plain_kind ImportDefaultSpecifier word e = absurd (cc e)
plain_kind ImportNamespaceSpecifier word e = absurd (cc e)
plain_kind ExportNamedDeclaration word e = absurd (cc e)
plain_kind Program word e = absurd (cc e)
plain_kind _ word e = refl

-- what the rules leave of what is ruled out
ruled : (k : AstType) (i : ℕ) (l : Label) (all : Fields) (up : List Ancestor) (j : AstType) (m : Label) (gs : Fields) → is_ruled_out k i j ≡ true → KeepsHere (ancestor k l all i 0 ∷ up) (node j m gs) → is_plain j (first_text m.texts) ≡ true
ruled k i l all up VariableDeclaration m gs e kept = by_var k i l m all gs up e kept.declaration
ruled k i l all up ImportDeclaration m gs e kept = absurd (let yes = misplaced k i l all up e in let no = kept.item in cc (yes, no))
ruled k i l all up ExportNamedDeclaration m gs e kept = absurd (let yes = misplaced k i l all up e in let no = kept.item in cc (yes, no))
ruled k i l all up _ m gs e kept = absurd (cc e)

class_rest : (a b : Bool) → a ≡ true → (not a || b) ≡ true → b ≡ true
class_rest true b e h = h
class_rest false b e h = absurd (cc e)

-- A CHILD stands where it may

one_stands : (k : AstType) (i : ℕ) (l : Label) (all : Fields) (up : List Ancestor) (j : AstType) (m : Label) (gs : Fields) → is_statement_kind k ≡ true → is_statement_kind j ≡ true → edge k i false j ≡ true → KeepsHere (ancestor k l all i 0 ∷ up) (node j m gs) → child_stands k i (node j m gs) ≡ true
one_stands k i l all up j m gs c d e kept =
    let allowed = class_rest (is_statement_kind j) (is_allowed k i j) d (class_rest (is_statement_kind k) (not (is_statement_kind j) || is_allowed k i j) c e) in
    let p = and_parts (fits k i j) (is_plain_kind j || (takes k i j || is_ruled_out k i j)) allowed in
    and_from (fits k i j) (is_plain j (first_text m.texts) || takes k i j) p.0
    (at (is_plain_kind j) (takes k i j) (is_ruled_out k i j) (is_plain j (first_text m.texts)) p.1 (plain_kind j (first_text m.texts)) (λ r. ruled k i l all up j m gs r kept))
  where
    at : (a b r w : Bool) → (a || (b || r)) ≡ true → (a ≡ true → w ≡ true) → (r ≡ true → w ≡ true) → (w || b) ≡ true
    at true b r w h f g = ap (λ x. x || b) (f refl)
    at false true r true h f g = refl
    at false true r false h f g = refl
    at false false r w h f g = ap (λ x. x || false) (g h)

-- the number of a field, counted on from another
abbrev from : ℕ → ℕ → ℕ
from i zero = i
from i (suc n) = from (suc i) n

from_next : (i n : ℕ) → from (suc i) n ≡ suc (from i n)
from_next i zero = refl
from_next i (suc n) = from_next (suc i) n

from_zero : (n : ℕ) → from 0 n ≡ n
from_zero zero = refl
from_zero (suc n) = from_next 0 n ∙ ap suc (from_zero n)

-- a property is a key with a value, and `import.meta` the one meta property: of these kinds the nodes are of the class at all
node_kind : (k : AstType) (l : Label) (fs : Fields) → is_statement_node k l fs ≡ true → is_statement_kind k ≡ true
node_kind ObjectProperty l fs e = refl
node_kind MetaProperty l fs e = refl
node_kind _ l fs e = e

module _ (k : AstType) (l : Label) (all : Fields) (up : List Ancestor) (c : is_statement_kind k ≡ true) where
  trees_stand : (i : ℕ) (ts : Trees) → EdgesAll edge k i ts → KeepsAll (ancestor k l all i 0 ∷ up) ts → all_in_trees is_statement_node ts ≡ true → trees_pass (child_stands k i) ts ≡ true
  trees_stand i empty e h d = refl
  trees_stand i (node j m gs before ts) e h d =
      let p = and_parts (all_nodes is_statement_node (node j m gs)) (all_in_trees is_statement_node ts) d in
      let q = and_parts (is_statement_node j m gs) (all_in_fields is_statement_node gs) p.0 in
      and_from (child_stands k i (node j m gs)) (trees_pass (child_stands k i) ts) (one_stands k i l all up j m gs c (node_kind j m gs q.0) e.0.0 h.0.0) (trees_stand i ts e.1 h.1 p.1)

  field_stands : (i : ℕ) (last : Bool) (f : Field) → EdgesBy edge k i last f → KeepsBy (ancestor k l all i 0 ∷ up) f → all_in_field is_statement_node f ≡ true → field_passes (child_stands k i) f ≡ true
  field_stands i last missing e h d = refl
  field_stands i last (one (node j m gs)) e h d = let q = and_parts (is_statement_node j m gs) (all_in_fields is_statement_node gs) d in one_stands k i l all up j m gs c (node_kind j m gs q.0) e.0 h.0
  field_stands i last (many ts) e h d = trees_stand i ts e h d
  field_stands i last (statements ts) e h d = trees_stand i ts e h d

  fields_stand : (i : ℕ) (fs : Fields) → EdgesIn edge k i fs → KeepsIn up k l all i fs → all_in_fields is_statement_node fs ≡ true → fields_pass (λ n. child_stands k (from i n)) fs ≡ true
  fields_stand i done e h d = refl
  fields_stand i (f then fs) e h d =
      let p = and_parts (all_in_field is_statement_node f) (all_in_fields is_statement_node fs) d in
      and_from (field_passes (child_stands k i) f) (fields_pass (λ n. child_stands k (from (suc i) n)) fs) (field_stands i _ f e.0 h.0 p.0) (fields_stand (suc i) fs e.1 h.1 p.1)

abbrev Shaped : AstType → Label → Fields → Type 0
Shaped k l fs = shaped k fs ≡ true

-- a node whose fields do
node_standing : (up : List Ancestor) (k : AstType) (l : Label) (fs : Fields) → EdgesIn edge k 0 fs → KeepsIn up k l fs 0 fs → shaped k fs ≡ true → all_nodes is_statement_node (node k l fs) ≡ true → all_in_fields stands fs ≡ true → all_nodes stands (node k l fs) ≡ true
node_standing up k l fs e h s d below =
    let p = and_parts (is_statement_node k l fs) (all_in_fields is_statement_node fs) d in
    let c = node_kind k l fs p.0 in
    let passed = subst (λ (f : ℕ → ℕ). fields_pass (λ n. child_stands k (f n)) fs ≡ true) (λ j n. from_zero n j) (fields_stand k l fs up c 0 fs e h p.1) in
    and_from (stands k l fs) (all_in_fields stands fs) (and_from (is_statement_kind k) (shaped k fs && fields_pass (child_stands k) fs) c (and_from (shaped k fs) (fields_pass (child_stands k) fs) s passed)) below

mutual
  tree_standing : (up : List Ancestor) (above : AstType) (i : ℕ) (last : Bool) (t : Tree) → Edges edge above i last t → Keeps up t → All Shaped t → all_nodes is_statement_node t ≡ true → all_nodes stands t ≡ true
  tree_standing up above i last (node k l fs) e h s d =
      node_standing up k l fs e.1 h.1 s.0 d (fields_standing up k l fs 0 fs e.1 h.1 s.1 (and_parts (is_statement_node k l fs) (all_in_fields is_statement_node fs) d).1)

  fields_standing : (up : List Ancestor) (k : AstType) (l : Label) (all : Fields) (i : ℕ) (fs : Fields) → EdgesIn edge k i fs → KeepsIn up k l all i fs → AllIn Shaped fs → all_in_fields is_statement_node fs ≡ true → all_in_fields stands fs ≡ true
  fields_standing up k l all i done e h s d = refl
  fields_standing up k l all i (f then fs) e h s d =
      let p = and_parts (all_in_field is_statement_node f) (all_in_fields is_statement_node fs) d in
      and_from (all_in_field stands f) (all_in_fields stands fs) (field_standing (ancestor k l all i 0 ∷ up) k i _ f e.0 h.0 s.0 p.0) (fields_standing up k l all (suc i) fs e.1 h.1 s.1 p.1)

  field_standing : (up : List Ancestor) (k : AstType) (i : ℕ) (last : Bool) (f : Field) → EdgesBy edge k i last f → KeepsBy up f → AllBy Shaped f → all_in_field is_statement_node f ≡ true → all_in_field stands f ≡ true
  field_standing up k i last missing e h s d = refl
  field_standing up k i last (one t) e h s d = tree_standing up k i last t e h s d
  field_standing up k i last (many ts) e h s d = trees_standing up k i ts e h s d
  field_standing up k i last (statements ts) e h s d = trees_standing up k i ts e h s d

  trees_standing : (up : List Ancestor) (k : AstType) (i : ℕ) (ts : Trees) → EdgesAll edge k i ts → KeepsAll up ts → AllAmong Shaped ts → all_in_trees is_statement_node ts ≡ true → all_in_trees stands ts ≡ true
  trees_standing up k i empty e h s d = refl
  trees_standing up k i (t before ts) e h s d =
      let p = and_parts (all_nodes is_statement_node t) (all_in_trees is_statement_node ts) d in
      and_from (all_nodes stands t) (all_in_trees stands ts) (tree_standing up k i false t e.0 h.0 s.0 p.0) (trees_standing up k i ts e.1 h.1 s.1 p.1)

-- THE FIELDS of what declares, by the table

later : (a b : Bool) → (a && b) ≡ true → b ≡ true
later a b h = (and_parts a b h).1

abbrev Formed : AstType → Label → Fields → Type 0
Formed k l fs = match_option (elements_of (child_entries k)) (fields_form k l (child_entries k) fs) (λ p. elements_form p.sort p.last fs) ≡ true

formed : (k : AstType) (l : Label) (fs : Fields) → Formed k l fs → shaped k fs ≡ true
formed Program l (many ds then (statements ts then done)) h = refl
formed Program l (many ds then (statements ts then (g then fs))) h = absurd (let d : (trees_form s-Statement s-Statement ts && false) ≡ true = later (trees_form s-Directive s-Directive ds) (trees_form s-Statement s-Statement ts && false) h in let e : false ≡ true = later (trees_form s-Statement s-Statement ts) false d in false≢true e)
formed Program l (many ds then (missing then fs)) h = absurd (false≢true (later (trees_form s-Directive s-Directive ds) false h))
formed Program l (many ds then (one t then fs)) h = absurd (false≢true (later (trees_form s-Directive s-Directive ds) false h))
formed Program l (many ds then (many ts then fs)) h = absurd (false≢true (later (trees_form s-Directive s-Directive ds) false h))
formed Program l (many ds then done) h = absurd (false≢true (later (trees_form s-Directive s-Directive ds) false h))
formed Program l fs h = absurd (false≢true h)
formed BlockStatement l (statements ts then fs) h = refl
formed BlockStatement l fs h = absurd (false≢true h)
formed VariableDeclaration l (many ds then fs) h = refl
formed VariableDeclaration l fs h = absurd (false≢true h)
formed VariableDeclarator l (one t then fs) h = refl
formed VariableDeclarator l fs h = absurd (false≢true h)
formed ForStatement l (missing then fs) h = refl
formed ForStatement l (one t then fs) h = refl
formed ForStatement l fs h = absurd (false≢true h)
formed ForInStatement l (one t then fs) h = refl
formed ForInStatement l fs h = absurd (false≢true h)
formed ForOfStatement l (one t then fs) h = refl
formed ForOfStatement l fs h = absurd (false≢true h)
formed SwitchStatement l (one t then (many cs then fs)) h = refl
formed SwitchStatement l (one t then (missing then fs)) h = absurd (false≢true (later (has_form s-Expression t) false h))
formed SwitchStatement l (one t then (one u then fs)) h = absurd (false≢true (later (has_form s-Expression t) false h))
formed SwitchStatement l (one t then (statements ts then fs)) h = absurd (false≢true (later (has_form s-Expression t) false h))
formed SwitchStatement l (one t then done) h = absurd (false≢true (later (has_form s-Expression t) false h))
formed SwitchStatement l fs h = absurd (false≢true h)
formed SwitchCase l (missing then (statements ts then fs)) h = refl
formed SwitchCase l (one t then (statements ts then fs)) h = refl
formed SwitchCase l (one t then (missing then fs)) h = absurd (false≢true (later (has_form s-Expression t) false h))
formed SwitchCase l (one t then (one u then fs)) h = absurd (false≢true (later (has_form s-Expression t) false h))
formed SwitchCase l (one t then (many ts then fs)) h = absurd (false≢true (later (has_form s-Expression t) false h))
formed SwitchCase l (one t then done) h = absurd (false≢true (later (has_form s-Expression t) false h))
formed SwitchCase l fs h = absurd (false≢true h)
formed CatchClause l (missing then fs) h = refl
formed CatchClause l (one t then fs) h = refl
formed CatchClause l fs h = absurd (false≢true h)
formed ImportDeclaration l (many is then fs) h = refl
formed ImportDeclaration l fs h = absurd (false≢true h)
formed ImportSpecifier l (one t then (one u then done)) h = refl
formed ImportSpecifier l (one t then (one u then (g then fs))) h = absurd (let d : (has_form s-Identifier u && false) ≡ true = later (has_form s-ModuleExportName t) (has_form s-Identifier u && false) h in let e : false ≡ true = later (has_form s-Identifier u) false d in false≢true e)
formed ImportSpecifier l (one t then (missing then fs)) h = absurd (false≢true (later (has_form s-ModuleExportName t) false h))
formed ImportSpecifier l (one t then (many ts then fs)) h = absurd (false≢true (later (has_form s-ModuleExportName t) false h))
formed ImportSpecifier l (one t then (statements ts then fs)) h = absurd (false≢true (later (has_form s-ModuleExportName t) false h))
formed ImportSpecifier l (one t then done) h = absurd (false≢true (later (has_form s-ModuleExportName t) false h))
formed ImportSpecifier l fs h = absurd (false≢true h)
formed ImportDefaultSpecifier l (one u then done) h = refl
formed ImportDefaultSpecifier l (one u then (g then fs)) h = absurd (false≢true (later (has_form s-Identifier u) false h))
formed ImportDefaultSpecifier l fs h = absurd (false≢true h)
formed ImportNamespaceSpecifier l (one u then done) h = refl
formed ImportNamespaceSpecifier l (one u then (g then fs)) h = absurd (false≢true (later (has_form s-Identifier u) false h))
formed ImportNamespaceSpecifier l fs h = absurd (false≢true h)
formed ExportNamedDeclaration l (missing then fs) h = refl
formed ExportNamedDeclaration l (one t then fs) h = refl
formed ExportNamedDeclaration l fs h = absurd (false≢true h)
formed UpdateExpression l (one u then done) h = refl
formed UpdateExpression l (one u then (g then fs)) h = absurd (false≢true (later _ false h))
formed UpdateExpression l fs h = absurd (false≢true h)
formed ParenthesizedExpression l (one u then done) h = refl
formed ParenthesizedExpression l (one u then (g then fs)) h = absurd (false≢true (later _ false h))
formed ParenthesizedExpression l fs h = absurd (false≢true h)
formed ChainExpression l (one u then done) h = refl
formed ChainExpression l (one u then (g then fs)) h = absurd (false≢true (later _ false h))
formed ChainExpression l fs h = absurd (false≢true h)
formed AssignmentExpression l (one t then (one u then done)) h = refl
formed AssignmentExpression l (one t then (one u then (g then fs))) h = absurd (let d : (has_form _ u && false) ≡ true = later _ _ h in let e : false ≡ true = later _ false d in false≢true e)
formed AssignmentExpression l (one t then (missing then fs)) h = absurd (false≢true (later _ false h))
formed AssignmentExpression l (one t then (many ts then fs)) h = absurd (false≢true (later _ false h))
formed AssignmentExpression l (one t then (statements ts then fs)) h = absurd (false≢true (later _ false h))
formed AssignmentExpression l (one t then done) h = absurd (false≢true (later _ false h))
formed AssignmentExpression l fs h = absurd (false≢true h)
formed CallExpression l (one t then (many ts then done)) h = refl
formed CallExpression l (one t then (many ts then (g then fs))) h = absurd (let d : (_ && false) ≡ true = later _ _ h in let e : false ≡ true = later _ false d in false≢true e)
formed CallExpression l (one t then (missing then fs)) h = absurd (false≢true (later _ false h))
formed CallExpression l (one t then (one u then fs)) h = absurd (false≢true (later _ false h))
formed CallExpression l (one t then (statements ts then fs)) h = absurd (false≢true (later _ false h))
formed CallExpression l (one t then done) h = absurd (false≢true (later _ false h))
formed CallExpression l fs h = absurd (false≢true h)
formed TaggedTemplateExpression l (one t then fs) h = refl
formed TaggedTemplateExpression l fs h = absurd (false≢true h)
formed _ l fs h = refl

-- PROGRAMS

pub program_stands : (t : Tree) → has_form s-Program t ≡ true → is_without_functions t ≡ true → Keeps [] t → all_nodes stands t ≡ true
program_stands (node k l fs) form class kept =
    let e = edges-inside edge table s-Program k l fs form in
    let s = all-tree Shaped (λ s j m gs f. formed j m gs f.children) s-Program (node k l fs) form in
    node_standing [] k l fs e kept.1 s.0 class (fields_standing [] k l fs 0 fs e kept.1 s.1 (and_parts (is_statement_node k l fs) (all_in_fields is_statement_node fs) class).1)
