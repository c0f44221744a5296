-- Namespace exports are lowered in the list of a program alone: below it stands no program, by the table of fields.
use Rattle.std.proofs.Common.{◌≡◌, ◌==◌, ℕ, suc, refl, sym, ap, subst, List, [], ◌∷◌}
use Rattle.std.specs.Prelude.{Bool, true, false, not, ◌&&◌, Option, Some, codes, if◌then◌else◌}
use Rattle.std.proofs.lemmas.Bool.{and_parts}
use Rattle.es_tree.specs.Ancestors.{ancestor}
use Rattle.es_tree.specs.Attributes.{child_entries}
use Rattle.es_tree.specs.HasForm.{ElementsPlace, elements_of, field_form, fields_form, has_form, same_type}
use Rattle.es_tree.specs.Tree.{Tree, Label, Fields, done, ◌then◌, Field, Trees, empty, ◌before◌, trees}
use Rattle.es_tree.specs.declared.ast_type.AstType.{AstType}
use Rattle.es_tree.specs.declared.ast_type.AstType.TheVariants.{ArrayExpression, ArrayPattern, ArrayTarget, FunctionBody, Program, ReturnStatement}
use Rattle.es_tree.specs.declared.table.Content.TheVariants.{Child as c-Child}
use Rattle.es_tree.specs.declared.table.Often.TheVariants.{Statements}
use Rattle.es_tree.specs.declared.table.Sort.TheVariants.{Program as s-Program, Statement as s-Statement}
use Rattle.es_tree.proofs.NodeForm.{node_form}
use Rattle.es_resolution.specs.Declarations.{Bound}
use Rattle.es_semantic.proofs.FormEdges.{Edges, EdgesAll, EdgesBy, EdgesIn, ElementsFit, TableFits, edges-inside, elements-are, entries_fit, is_last}
use Rattle.es_steps.specs.NamespaceExports.{NamespaceRule, namespace_import}
use Rattle.es_steps.specs.NamespaceExports.NamespaceRule.{exports}
use Rattle.es_steps.specs.Nodes.{joined_trees, placed, return_node}
use Rattle.es_steps.specs.Open.{Additions, Pending, after_imports, body_with, declaration, is_import, Open, open_node, OpenFields, ends, ◌and◌, OpenField, list, OpenTrees, ◌next◌, finished, finished_field, finished_fields, finished_trees, opened, pending_statements}
use Rattle.es_steps.specs.Rules.{next_name}
use Rattle.es_steps.specs.Steps.{Ledger, ledger, Site, Whole, the_program, is_program_list, is_target, outline, site_in, Step, FieldsStep, FieldStep, TreesStep}
use Rattle.es_steps.specs.Steps.Spot.{at_node, at_beside}
use Rattle.es_steps.specs.Steps.Step.{acts, inside}
use Rattle.es_steps.specs.Steps.FieldsStep.{in_first, in_later}
use Rattle.es_steps.specs.Steps.FieldStep.{in_child, in_children, in_body, in_list, in_target, in_program, acts_on_list, acts_on_body}
use Rattle.es_steps.specs.Steps.TreesStep.{in_head, in_tail, in_flanked, after_flanked, flanks, acts_on_flanked}
use Rattle.es_steps.proofs.Namespaces.{exports-nodes}
use Rattle.es_valid_steps.proofs.Spread.{opened_before, spread, spread_field, spread_fields, spread_trees, spread-opened}

-- NO PROGRAM BELOW A NODE

abbrev pub below : AstType → ℕ → Bool → AstType → Bool
below k i last j = not (same_type j Program)

entries-fit : (k : AstType) → entries_fit below k 0 (child_entries k) ≡ true
entries-fit Program = refl
entries-fit _ = refl

elements-fit : (k : AstType) (p : ElementsPlace) → elements_of (child_entries k) ≡ Some p → ElementsFit below k p
elements-fit ArrayExpression p e = elements-are below ArrayExpression _ p e (record { sort = λ i b. refl; last = λ i b. refl })
elements-fit ArrayPattern p e = elements-are below ArrayPattern _ p e (record { sort = λ i b. refl; last = λ i b. refl })
elements-fit ArrayTarget p e = elements-are below ArrayTarget _ p e (record { sort = λ i b. refl; last = λ i b. refl })
elements-fit _ p e = absurd (cc e)

pub no-program : TableFits below
no-program = record { entries = entries-fit; elements = elements-fit }

-- whatever stands in a list with others before it, or in the body of an arrow with declarators

joined-rest : (k : AstType) (i : ℕ) (bs ts : Trees) → EdgesAll below k i (joined_trees bs ts) → EdgesAll below k i ts
joined-rest k i empty ts h = h
joined-rest k i (b before bs) ts h = joined-rest k i bs ts h.1

after-rest : (k : AstType) (i : ℕ) (bs ts : Trees) → EdgesAll below k i (after_imports bs ts) → EdgesAll below k i ts
after-rest k i bs empty h = tt
after-rest k i bs (t before ts) h = at (is_import t) (λ g. after-rest k i bs ts g) h
  where
    at : (v : Bool) → (EdgesAll below k i (after_imports bs ts) → EdgesAll below k i ts) → EdgesAll below k i (if v then t before after_imports bs ts else joined_trees bs (t before ts)) → EdgesAll below k i (t before ts)
    at true r g = (g.0, r g.1)
    at false r g = joined-rest k i bs (t before ts) g

declared-rest : (k : AstType) (i : ℕ) (word : List ℕ) (ds : List Tree) (ts : Trees) → EdgesAll below k i (declaration word ds ts) → EdgesAll below k i ts
declared-rest k i word [] ts h = h
declared-rest k i word (d ∷ ds) ts h = h.1

record Somewhere (t : Tree) : Type 0 where
  kind : AstType
  index : ℕ
  last : Bool
  edges : Edges below kind index last t

returned : (e : Tree) → EdgesAll below FunctionBody 1 (return_node e before empty) → Somewhere e
returned e h = record { kind = ReturnStatement; index = 0; last = true; edges = h.0.1.0 }

body-rest : (k : AstType) (i : ℕ) (last : Bool) (vs ls : List Tree) (e : Tree) → Edges below k i last (body_with vs ls e) → Somewhere e
body-rest k i last [] [] e h = record { kind = k; index = i; last = last; edges = h }
body-rest k i last [] (l ∷ ls) e h = returned e (declared-rest FunctionBody 1 (codes "let") (l ∷ ls) (return_node e before empty) h.1.1.0)
body-rest k i last (v ∷ vs) ls e h = returned e (declared-rest FunctionBody 1 (codes "let") ls (return_node e before empty) (declared-rest FunctionBody 1 (codes "var") (v ∷ vs) (declaration (codes "let") ls (return_node e before empty)) h.1.1.0))

-- NO EXPORT is lowered there

no-list : (k : AstType) (l : Label) (fs : Fields) (i : ℕ) (n : Site) → not (same_type k Program) ≡ true → is_program_list (ancestor k l fs i 0 ∷ n.above) ≡ false
no-list k l fs i n h = at (same_type k Program) (i == 1) h
  where
    at : (a b : Bool) → not a ≡ true → (a && b) ≡ false
    at true b e = absurd (cc e)
    at false b e = refl

mutual
  still : {n : Site} {s s' : Ledger} {t u : Open} → Step NamespaceRule n s t s' u → (k : AstType) (i : ℕ) (last : Bool) → Edges below k i last (finished t) → ⊥
  still (acts t u h) k i last e = exports-nodes h
  still (inside {n = n} {k = j} {l = l} {fs = fs} h) k i last e = still-in h j 0 (λ m. no-list j l (outline fs) m n e.0) e.1

  still-in : {c : ℕ → Site} {s s' : Ledger} {fs gs : OpenFields} → FieldsStep NamespaceRule c s fs s' gs → (k : AstType) (i : ℕ) → ((m : ℕ) → is_program_list (c m).above ≡ false) → EdgesIn below k i (finished_fields fs) → ⊥
  still-in (in_first {fs = fs} h) k i off e = still-by h k i (is_last (finished_fields fs)) (off 0) e.0
  still-in (in_later h) k i off e = still-in h k (suc i) (λ m. off (suc m)) e.1

  still-by : {n : Site} {s s' : Ledger} {f g : OpenField} → FieldStep NamespaceRule n s f s' g → (k : AstType) (i : ℕ) (last : Bool) → is_program_list n.above ≡ false → EdgesBy below k i last (finished_field f) → ⊥
  still-by (in_child h) k i last off e = still h k i last e
  still-by (in_children h) k i last off e = still-all h k i off e
  still-by (in_body {p = p} {t = t} d y y' h) k i last off e = let r = body-rest k i last p.vars p.lets (finished t) e in still h r.kind r.index r.last r.edges
  still-by (in_list {p = p} {y = y} {b = b} {ts = ts} d d' h) k i last off e = still-all h k i off (after-rest k i (pending_statements p y b) (finished_trees ts) e)
  still-by (in_target {p = p} {y = y} {b = b} {ts = ts} d h) k i last off e = still-all h k i off (after-rest k i (pending_statements p y b) (finished_trees ts) e)
  still-by (in_program {p = p} {y = y} {b = b} {ts = ts} d h) k i last off e = still-all h k i off (after-rest k i (pending_statements p y b) (finished_trees ts) e)
  still-by (acts_on_list ts us h) k i last off e = exports-nodes h
  still-by (acts_on_body t u h) k i last off e = exports-nodes h

  still-all : {n : Site} {s s' : Ledger} {ts us : OpenTrees} → TreesStep NamespaceRule n s ts s' us → (k : AstType) (i : ℕ) → is_program_list n.above ≡ false → EdgesAll below k i (finished_trees ts) → ⊥
  still-all (in_head h) k i off e = still h k i false e.0
  still-all (in_tail h) k i off e = still-all h k i off e.1
  still-all (in_flanked {bs = bs} h) k i off e = still h k i false (joined-rest k i (trees bs) _ e).0
  still-all (after_flanked {bs = bs} {cs = cs} h) k i off e = still-all h k i off (joined-rest k i (trees cs) _ (joined-rest k i (trees bs) _ e).1)
  still-all (flanks t u h) k i off e = top h off
    where
      top : {n : Site} {s s' : Ledger} {t u : Tree} {bs cs : List Tree} → NamespaceRule n s (at_node t) s' (at_beside bs u cs) → is_program_list n.above ≡ false → ⊥
      top (exports d fresh q r o) off = absurd (cc (d, off))
  still-all (acts_on_flanked t us h) k i off e = exports-nodes h

-- IN THE LIST OF THE PROGRAM

-- an export becomes an import and an export, and all else stays
pub data Exported (n : Site) (s s' : Ledger) : OpenTrees → OpenTrees → Type 0 where
  here : (t i e : Tree) {ts : OpenTrees} → NamespaceRule n s (at_node t) s' (at_beside (i ∷ []) e []) → Exported n s s' (opened t next ts) (opened i next (opened e next ts))
  there : (t : Open) {ts us : OpenTrees} → Exported n s s' ts us → Exported n s s' (t next ts) (t next us)

behind : {n : Site} {s s' : Ledger} (bs : List Tree) {ts us : OpenTrees} → Exported n s s' ts us → Exported n s s' (opened_before bs ts) (opened_before bs us)
behind [] h = h
behind (b ∷ bs) h = there (opened b) (behind bs h)

import-here : {n : Site} {s s' : Ledger} (t i e : Tree) (ts : OpenTrees) → NamespaceRule n s (at_node t) s' (at_beside (i ∷ []) e []) → Exported n s s' (spread (opened t) next ts) (opened i next (spread (opened e) next ts))
import-here {n} {s} {s'} t i e ts h =
    subst (λ (x : Open). Exported n s s' (x next ts) (opened i next (spread (opened e) next ts))) (sym (spread-opened t))
    (subst (λ (y : Open). Exported n s s' (opened t next ts) (opened i next (y next ts))) (sym (spread-opened e)) (here t i e h))

flanked-here : {n : Site} {s s' : Ledger} {bs cs : List Tree} (t u : Tree) (ts : OpenTrees) → NamespaceRule n s (at_node t) s' (at_beside bs u cs) → Exported n s s' (spread (opened t) next ts) (opened_before bs (spread (opened u) next opened_before cs ts))
flanked-here t u ts (exports {w = w} {m = m} {s = source} {attributes = attributes} {x = x} d fresh q r o) = import-here t (placed m (namespace_import (next_name w x) source attributes)) u ts (exports d fresh q r o)

exported-in : {n : Site} {s s' : Ledger} {ts us : OpenTrees} → TreesStep NamespaceRule n s ts s' us → EdgesAll below Program 1 (finished_trees ts) → Exported n s s' (spread_trees ts) (spread_trees us)
exported-in (in_head h) e = absurd (still h Program 1 false e.0)
exported-in (in_tail {t = t} h) e = there (spread t) (exported-in h e.1)
exported-in (in_flanked {bs = bs} h) e = absurd (still h Program 1 false (joined-rest Program 1 (trees bs) _ e).0)
exported-in (after_flanked {bs = bs} {cs = cs} {t = t} h) e = behind bs (there (spread t) (behind cs (exported-in h (joined-rest Program 1 (trees cs) _ (joined-rest Program 1 (trees bs) _ e).1))))
exported-in (flanks {ts = ts} t u h) e = flanked-here t u (spread_trees ts) h
exported-in (acts_on_flanked t us h) e = absurd (exports-nodes h)

-- a program in whose list that happened, with what is pending beside it; the whole is what the list knows
pub data ProgramExported : Ledger → Ledger → Open → Open → Type 0 where
  at_list : {n : Site} {w w' : Whole} {o : Pending} {z : Option Bound} {c : Additions} {l : Label} {d : OpenField} {p q : Pending} {x y : Option Bound} {a b : Additions} {ts us : OpenTrees} → Exported n (ledger w p x a) (ledger w' q y b) ts us → ProgramExported (ledger w o z c) (ledger w' o z c) (open_node Program l (d and (list p x a ts and ends))) (open_node Program l (d and (list q y b us and ends)))

-- the fields of a program: directives, and a list
module _ (l : Label) where
  pub two-fields : (f g : Field) (hs : Fields) → fields_form Program l (child_entries Program) (f then (g then hs)) ≡ true → (field_form Program l (c-Child s-Statement Statements) g ≡ true) × (fields_form Program l [] hs ≡ true)
  two-fields f g hs h = and_parts _ (fields_form Program l [] hs) (and_parts _ _ h).1

  no-third : {c : ℕ → Site} {s s' : Ledger} {fs gs : OpenFields} → FieldsStep NamespaceRule c s fs s' gs → fields_form Program l [] (finished_fields fs) ≡ true → ⊥
  no-third (in_first h) e = absurd (cc e)
  no-third (in_later h) e = absurd (cc e)

  in-list : {n : Site} {s s' : Ledger} {f g : OpenField} (d : OpenField) (last : Bool) → FieldStep NamespaceRule n s f s' g → is_program_list n.above ≡ true → is_target n.above ≡ false → EdgesBy below Program 1 last (finished_field f) → field_form Program l (c-Child s-Statement Statements) (finished_field f) ≡ true → ProgramExported s s' (open_node Program l (d and (spread_field f and ends))) (open_node Program l (d and (spread_field g and ends)))
  in-list d last (in_child h) top other e form = absurd (cc form)
  in-list d last (in_children h) top other e form = absurd (cc form)
  in-list d last (in_body a b c h) top other e form = absurd (cc form)
  in-list d last (in_list a b h) top other e form = absurd (cc (b, top))
  in-list d last (in_target a h) top other e form = absurd (cc (a, other))
  in-list d last (in_program {p = p} {y = y} {b = b} {ts = ts} a h) top other e form = at_list (exported-in h (after-rest Program 1 (pending_statements p y b) (finished_trees ts) e))
  in-list d last (acts_on_list ts us h) top other e form = absurd (exports-nodes h)
  in-list d last (acts_on_body t u h) top other e form = absurd (exports-nodes h)

  in-fields : {s s' : Ledger} {fs gs : OpenFields} (n : ℕ → Site) → ((i : ℕ) → (n i).above ≡ ancestor Program l (outline fs) i 0 ∷ []) → FieldsStep NamespaceRule n s fs s' gs → EdgesIn below Program 0 (finished_fields fs) → fields_form Program l (child_entries Program) (finished_fields fs) ≡ true → ProgramExported s s' (open_node Program l (spread_fields fs)) (open_node Program l (spread_fields gs))
  in-fields n up (in_first {fs = fs} h) e form = absurd (still-by h Program 0 (is_last (finished_fields fs)) (ap (λ a. is_program_list a) (up 0)) e.0)
  in-fields n up (in_later {f = d} (in_first {f = f} {fs = ends} h)) e form = in-list (spread_field d) true h (ap (λ a. is_program_list a) (up 1)) (ap (λ a. is_target a) (up 1)) e.1.0 (two-fields (finished_field d) (finished_field f) done form).0
  in-fields n up (in_later {f = d} (in_first {f = f} {fs = g and fs} h)) e form = absurd (let no : false ≡ true = (two-fields (finished_field d) (finished_field f) (finished_field g then finished_fields fs) form).1 in cc no)
  in-fields n up (in_later {f = d} (in_later {f = f} {fs = fs} h)) e form = absurd (no-third h (two-fields (finished_field d) (finished_field f) (finished_fields fs) form).1)

-- wherever the step is taken, it is taken in the list of the program
pub program-exported : {s s' : Ledger} {x y : Open} → Step NamespaceRule the_program s x s' y → has_form s-Program (finished x) ≡ true → ProgramExported s s' (spread x) (spread y)
program-exported (acts t u h) f = absurd (exports-nodes h)
program-exported (inside {k = Program} {l = l} {fs = fs} h) f =
    in-fields l (site_in the_program Program l fs) (λ i. refl) h (edges-inside below no-program s-Program Program l (finished_fields fs) f) (node_form s-Program Program l (finished_fields fs) f).children
program-exported (inside {k = k} {l = l} {fs = fs} h) f = absurd (let no : false ≡ true = (node_form s-Program k l (finished_fields fs) f).sort in cc no)
