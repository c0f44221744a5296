-- Exports that are split, in a program that has form and breaks no static rule: each has a declaration whose first part is a declarator, and which isn't by
-- `using`.
use Rattle.std.proofs.Common.{◌≡◌, refl, List, []}
use Rattle.std.specs.Prelude.{Bool, true, false, ◌&&◌, ◌||◌, codes}
use Rattle.std.proofs.lemmas.Bool.{and_parts}
use Rattle.es_tree.specs.Ancestors.{Ancestor, is_script_top, stands_in}
use Rattle.es_tree.specs.HasForm.{has_form, trees_form}
use Rattle.es_tree.specs.Names.{first_text}
use Rattle.es_tree.specs.StaticRules.{breaks, has_pattern, is_bad_using}
use Rattle.es_tree.specs.Tree.{Tree, node, Label, Fields, done, ◌then◌, many, statements, Trees, empty, ◌before◌}
use Rattle.es_tree.specs.declared.ast_type.AstType.TheVariants.{ExportNamedDeclaration, ForInStatement, Program, VariableDeclaration, VariableDeclarator}
use Rattle.es_tree.specs.declared.table.Sort.TheVariants.{Declaration as s-Declaration, Program as s-Program, Statement as s-Statement, VariableDeclarator as s-VariableDeclarator}
use Rattle.es_tree.proofs.NodeForm.{node_form}
use Rattle.es_statement_runs.specs.Names.{is_word}
use Rattle.es_statement_runs.proofs.ValidRules.{KeepsAll, KeepsTrees, program_keeps}
use Rattle.es_statement_runs.proofs.ValidRules.KeepsAll.{keeps_all}
use Rattle.es_statement_runs.proofs.ValidRules.KeepsField.{keeps_one, keeps_statements}
use Rattle.es_statement_runs.proofs.ValidRules.KeepsFields.{keeps_then}
use Rattle.es_statement_runs.proofs.ValidRules.KeepsTrees.{keeps_before}
use Rattle.es_export_splits.specs.Splits.{is_split}
use Rattle.es_export_splits.proofs.ExportNames.{IsExport, export-is, export_with}
use Rattle.es_export_splits.proofs.ExportNames.IsExport.{is_export}
use Rattle.es_export_splits.proofs.ExportForms.{exported-formed}
use Rattle.es_steps.proofs.FormLists.{first-formed}

-- ONE EXPORT

pub data PlainExport : Tree → Type 0 where
  plain_export : (l k m : Label) (fs : Fields) (ds : Trees) → is_word (codes "using") (first_text k.texts) ≡ false → PlainExport (export_with l (node VariableDeclaration k (many (node VariableDeclarator m fs before ds) then done)))

no-using : (up : List Ancestor) (k : Label) (ds : Trees) (fs : Fields) → stands_in ExportNamedDeclaration 0 up ≡ true → is_bad_using up (node VariableDeclaration k (many ds then fs)) ≡ false → is_word (codes "using") (first_text k.texts) ≡ false
no-using up k ds fs e h = at (is_word (codes "using") (first_text k.texts)) (has_pattern ds) (is_script_top up) (stands_in ForInStatement 0 up) (stands_in ExportNamedDeclaration 0 up) e h
  where
    at : (a b c d e : Bool) → e ≡ true → (a && (((b || c) || d) || e)) ≡ false → a ≡ false
    at false b c d e g h = refl
    at true true c d e g h = h
    at true false true d e g h = h
    at true false false true e g h = h
    at true false false false true g h = h
    at true false false false false g h = absurd (cc g)

plain-first : (l k : Label) (d : Tree) (ds : Trees) → has_form s-VariableDeclarator d ≡ true → is_word (codes "using") (first_text k.texts) ≡ false → PlainExport (export_with l (node VariableDeclaration k (many (d before ds) then done)))
plain-first l k (node VariableDeclarator m fs) ds f e = plain_export l k m fs ds e
plain-first l k (node j m fs) ds f e = absurd (let no : false ≡ true = (node_form s-VariableDeclarator j m fs f).sort in cc no)

plain-by : (l k : Label) (ds : Trees) (fs : Fields) → has_form s-Declaration (node VariableDeclaration k (many ds then fs)) ≡ true → is_word (codes "using") (first_text k.texts) ≡ false → PlainExport (export_with l (node VariableDeclaration k (many ds then fs)))
plain-by l k empty fs f e = absurd (let no : false ≡ true = (node_form s-Declaration VariableDeclaration k (many empty then fs) f).children in cc no)
plain-by l k (d before ds) done f e =
    plain-first l k d ds (first-formed s-VariableDeclarator d ds (and_parts (trees_form s-VariableDeclarator s-VariableDeclarator (d before ds)) true (node_form s-Declaration VariableDeclaration k (many (d before ds) then done) f).children).0).0 e
plain-by l k (d before ds) (g then fs) f e = absurd (let no : false ≡ true = (and_parts (trees_form s-VariableDeclarator s-VariableDeclarator (d before ds)) false (node_form s-Declaration VariableDeclaration k (many (d before ds) then g then fs) f).children).1 in cc no)

plain : {up : List Ancestor} (t : Tree) → IsExport t → has_form s-Statement t ≡ true → KeepsAll up t → PlainExport t
plain t (is_export l k ds fs) f (keeps_all own (keeps_then (keeps_one (keeps_all {up = up} kept inner)) rest)) = plain-by l k ds fs (exported-formed l k (many ds then fs) f) (no-using up k ds fs refl kept.using)

-- THE LIST OF A PROGRAM

abbrev pub PlainAmong : Trees → Type 0
PlainAmong empty = Unit {0}
PlainAmong (t before ts) = (is_split t ≡ true → PlainExport t) × PlainAmong ts

plain-among : {up : List Ancestor} (ts : Trees) → trees_form s-Statement s-Statement ts ≡ true → KeepsTrees up ts → PlainAmong ts
plain-among empty f h = tt
plain-among (t before ts) f (keeps_before h g) = let parts = first-formed s-Statement t ts f in (λ e. plain t (export-is t e) parts.0 h, plain-among ts parts.1 g)

list-form : (l : Label) (ds ts : Trees) → has_form s-Program (node Program l (many ds then statements ts then done)) ≡ true → trees_form s-Statement s-Statement ts ≡ true
list-form l ds ts f = (and_parts (trees_form s-Statement s-Statement ts) true (and_parts _ _ (node_form s-Program Program l (many ds then statements ts then done) f).children).1).0

pub plain-list : (l : Label) (ds ts : Trees) → has_form s-Program (node Program l (many ds then statements ts then done)) ≡ true → breaks (node Program l (many ds then statements ts then done)) ≡ [] → PlainAmong ts
plain-list l ds ts f e = at (program_keeps (node Program l (many ds then statements ts then done)) e)
  where
    at : KeepsAll [] (node Program l (many ds then statements ts then done)) → PlainAmong ts
    at (keeps_all own (keeps_then first (keeps_then (keeps_statements h) rest))) = plain-among ts (list-form l ds ts f) h
