-- A module whose `using` at the top is lowered: it has form.
use Rattle.std.proofs.Common.{◌≡◌, ◌==◌, ℕ, refl, length, List, [], ◌∷◌}
use Rattle.std.specs.Prelude.{Bool, true, false, ◌&&◌, not, Option, Some, None, codes}
use Rattle.std.proofs.lemmas.Bool.{and_from}
use Rattle.es_tree.specs.Attributes.{child_entries, text_entries, texts_fit}
use Rattle.es_tree.specs.HasForm.{has_form, fields_form, trees_form}
use Rattle.es_tree.specs.Names.{first_text}
use Rattle.es_tree.specs.Tree.{Tree, node, Label, Fields, done, ◌then◌, Field, missing, one, many, statements, Trees, empty, ◌before◌, label_of}
use Rattle.es_tree.specs.Words.{Text}
use Rattle.es_tree.specs.declared.ast_type.AstType.TheVariants.{ClassDeclaration, ClassExpression, ExportDefaultDeclaration, ExportNamedDeclaration, Identifier, Program, VariableDeclaration, VariableDeclarator}
use Rattle.es_tree.specs.declared.table.Sort.{Sort}
use Rattle.es_tree.specs.declared.table.Sort.TheVariants.{Argument as s-Argument, Declaration as s-Declaration, ExportDefault as s-ExportDefault, Expression as s-Expression, Identifier as s-Identifier, Program as s-Program, Statement as s-Statement, VariableDeclarator as s-VariableDeclarator}
use Rattle.es_tree.proofs.NodeForm.{has_form-node, node_form}
use Rattle.es_resolution.specs.Declarations.{Bound, symbol_of}
use Rattle.es_steps.specs.Nodes.{declaration_node, declarator_with, identifier, joined_trees}
use Rattle.es_steps.specs.UsingBlocks.{method_call, protected}
use Rattle.es_steps.specs.UsingBodies.{bound_as}
use Rattle.es_steps.proofs.FormLists.{first-formed}
use Rattle.es_steps.proofs.FormMembers.{formed-first}
use Rattle.es_steps.proofs.FormParts.{IsFormed, IsText, and-left, and-right}
use Rattle.es_steps.proofs.FormSorts.{form-wider}
use Rattle.es_valid_using.proofs.UsingForms.{method-form, protected-form}
use Rattle.es_top_imports.proofs.TopForms.{program_with}
use Rattle.es_export_splits.specs.SplitRule.{EachTree}
use Rattle.es_export_splits.specs.Splits.{export_of}
use Rattle.es_export_splits.proofs.ExportForms.{export-formed}
use Rattle.es_export_splits.proofs.ExportNames.{HasText, export_with, names-formed}
use Rattle.es_using_modules.specs.ModuleTops.{Makes, by_bounds, by_var, default_export, inside, outside, topped_list}
use Rattle.es_using_modules.proofs.TopMoves.{AllBecome, Becomes, Declares, Defaults, Moves, default_with, lowered}
use Rattle.es_using_modules.proofs.TopMoves.Becomes.{as_is, passed}
use Rattle.es_using_modules.proofs.TopMoves.AllBecome.{ended, more}
use Rattle.es_using_modules.proofs.TopMoves.Declares.{by_class, by_variables}
use Rattle.es_using_modules.proofs.TopMoves.Defaults.{a_value, bare_class, named_class}
use Rattle.es_using_modules.proofs.TopMoves.Moves.{declares, default_export_of, exports, no_more, plain, stays}

-- A VARIABLE

pub variable-formed : (b : Bound) (e : Tree) → IsText b → IsFormed e → has_form s-Statement (declaration_node (codes "var") (declarator_with (identifier b) e ∷ [])) ≡ true
variable-formed b e h k = rw (h, k) refl

-- THE VALUE passed to the context

used-form : (c : Bound) (e : Tree) → IsText c → IsFormed e → IsFormed (method_call c (codes "u") (e ∷ []))
used-form c e h k = method-form c (codes "u") (e ∷ []) h refl (formed-first s-Argument e empty (form-wider s-Argument e refl k) refl)

-- CLASSES

-- the fields of a class but for its name
pub class-rest : (l : Label) (fs : Fields) → fields_form ClassDeclaration l (child_entries ClassDeclaration) (missing then fs) ≡ true → fields_form ClassExpression l (child_entries ClassExpression) (missing then fs) ≡ true
class-rest l (missing then (many ts then done)) f = f
class-rest l (one t then (many ts then done)) f = f
class-rest l fs f = rw f

pub class-name : (s : Sort) (l : Label) (c : Tree) (fs : Fields) → has_form s (node ClassDeclaration l (one c then fs)) ≡ true → has_form s-Identifier c ≡ true
class-name s l c fs f = and-left (has_form s-Identifier c) _ (node_form s ClassDeclaration l (one c then fs) f).children

pub name-text : (c : Tree) → has_form s-Identifier c ≡ true → HasText c
name-text (node Identifier l fs) f = at (first_text l.texts) l.texts refl (node_form s-Identifier Identifier l fs f).texts
  where
    at : (x : Text) (ts : List (Option Text)) → first_text ts ≡ x → texts_fit (text_entries Identifier) ts ≡ true → (length (first_text ts) == 0) ≡ false
    at x (Some y ∷ ts) e h = not-true (length y == 0) _ h
      where
        not-true : (b c : Bool) → (not b && c) ≡ true → b ≡ false
        not-true true c k = absurd (let no : false ≡ true = k in cc no)
        not-true false c k = refl
    at x [] e h = absurd (let no : false ≡ true = h in cc no)
    at x (None ∷ ts) e h = absurd (let no : false ≡ true = h in cc no)
name-text (node k l fs) f = absurd (let no : false ≡ true = (node_form s-Identifier k l fs f).sort in cc no)

pub named-class-formed : (s : Sort) (l : Label) (c : Tree) (fs : Fields) (b : Bound) → IsText b → has_form s (node ClassDeclaration l (one c then fs)) ≡ true → IsFormed (node ClassExpression l (one (identifier b) then fs))
named-class-formed s l c fs b h f =
    let n = node_form s ClassDeclaration l (one c then fs) f in
    has_form-node s-Expression ClassExpression l (one (identifier b) then fs) (record { sort = refl; texts = n.texts; flags = n.flags; start = n.start; stop = n.stop; agree = refl; children = and_from (has_form s-Identifier (identifier b)) _ (rw h refl) (class-rest l fs (and-right (has_form s-Identifier c) _ n.children)) })

-- where the name has other marks
marked-formed : (ms : List (Option ℕ)) (c : Tree) → has_form s-Identifier c ≡ true → has_form s-Identifier (node Identifier (record (label_of c) { marks = ms }) done) ≡ true
marked-formed ms (node Identifier l done) f = f
marked-formed ms (node Identifier l (g then fs)) f = absurd (let no : false ≡ true = (node_form s-Identifier Identifier l (g then fs) f).children in cc no)
marked-formed ms (node k l fs) f = absurd (let no : false ≡ true = (node_form s-Identifier k l fs f).sort in cc no)

pub marked-class-formed : (s : Sort) (l : Label) (c : Tree) (fs : Fields) (ms : List (Option ℕ)) → has_form s (node ClassDeclaration l (one c then fs)) ≡ true → IsFormed (node ClassExpression l (one (node Identifier (record (label_of c) { marks = ms }) done) then fs))
marked-class-formed s l c fs ms f =
    let n = node_form s ClassDeclaration l (one c then fs) f in
    let name : Tree = node Identifier (record (label_of c) { marks = ms }) done in
    has_form-node s-Expression ClassExpression l (one name then fs) (record { sort = refl; texts = n.texts; flags = n.flags; start = n.start; stop = n.stop; agree = refl; children = and_from (has_form s-Identifier name) _ (marked-formed ms c (and-left (has_form s-Identifier c) _ n.children)) (class-rest l fs (and-right (has_form s-Identifier c) _ n.children)) })

pub bare-class-formed : (s : Sort) (l : Label) (fs : Fields) → has_form s (node ClassDeclaration l (missing then fs)) ≡ true → IsFormed (node ClassExpression l (missing then fs))
bare-class-formed s l fs f =
    let n = node_form s ClassDeclaration l (missing then fs) f in
    has_form-node s-Expression ClassExpression l (missing then fs) (record { sort = refl; texts = n.texts; flags = n.flags; start = n.start; stop = n.stop; agree = refl; children = class-rest l fs n.children })

-- PARTS of exports and of programs

pub exported-part : (l : Label) (d : Tree) → has_form s-Statement (export_with l d) ≡ true → has_form s-Declaration d ≡ true
exported-part l d f = and-left (has_form s-Declaration d) _ (node_form s-Statement ExportNamedDeclaration l (one d then many empty then missing then many empty then done) f).children

pub default-part : (l : Label) (d : Tree) → has_form s-Statement (default_with l d) ≡ true → has_form s-ExportDefault d ≡ true
default-part l d f = and-left (has_form s-ExportDefault d) true (node_form s-Statement ExportDefaultDeclaration l (one d then done) f).children

pub program-list : (l : Label) (d : Field) (ts : Trees) → has_form s-Program (program_with l d ts) ≡ true → trees_form s-Statement s-Statement ts ≡ true
program-list l d ts f = and-left (trees_form s-Statement s-Statement ts) true (and-right _ _ (node_form s-Program Program l (d then statements ts then done) f).children)

module _ (default context error : Bound) (default_named : IsText default) (context_named : IsText context) (error_named : IsText error) where
  abbrev m : Makes
  m = by_bounds default context error

  -- DECLARATIONS

  value-formed : (l : Label) (x e : Tree) → has_form s-VariableDeclarator (node VariableDeclarator l (one x then one e then done)) ≡ true → has_form s-VariableDeclarator (node VariableDeclarator l (one x then one (method_call context (codes "u") (e ∷ [])) then done)) ≡ true
  value-formed l x e f =
      let n = node_form s-VariableDeclarator VariableDeclarator l (one x then one e then done) f in
      let value = and-left _ true (and-right _ _ n.children) in
      has_form-node s-VariableDeclarator VariableDeclarator l (one x then one (method_call context (codes "u") (e ∷ [])) then done) (record { sort = n.sort; texts = n.texts; flags = n.flags; start = n.start; stop = n.stop; agree = refl; children = and_from _ _ (and-left _ _ n.children) (and_from _ true (used-form context e context_named value) refl) })

  one-formed : (d e : Tree) → Becomes context d e → has_form s-VariableDeclarator d ≡ true → has_form s-VariableDeclarator e ≡ true
  one-formed d e (as_is t) f = f
  one-formed d e (passed l x v) f = value-formed l x v f

  all-formed : (ds es : Trees) → AllBecome context ds es → trees_form s-VariableDeclarator s-VariableDeclarator ds ≡ true → trees_form s-VariableDeclarator s-VariableDeclarator es ≡ true
  all-formed ds es ended f = refl
  all-formed ds es (more {d = d} {e = e} {ds = ds'} {es = es'} b r) f = let parts = first-formed s-VariableDeclarator d ds' f in formed-first s-VariableDeclarator e es' (one-formed d e b parts.0) (all-formed ds' es' r parts.1)

  variables-formed : (s : Sort) (l : Label) (ds es : Trees) → AllBecome context ds es → has_form s (node VariableDeclaration l (many ds then done)) ≡ true → has_form s-Statement (node VariableDeclaration (by_var l) (many es then done)) ≡ true
  variables-formed s l ds es ended f = absurd (let no : false ≡ true = (node_form s VariableDeclaration l (many empty then done) f).children in cc no)
  variables-formed s l ds es (more {d = d} {e = e} {ds = ds'} {es = es'} b r) f =
      let n = node_form s VariableDeclaration l (many (d before ds') then done) f in
      has_form-node s-Statement VariableDeclaration (by_var l) (many (e before es') then done) (record { sort = refl; texts = refl; flags = n.flags; start = n.start; stop = n.stop; agree = refl; children = and_from _ true (all-formed (d before ds') (e before es') (more b r) (and-left _ true n.children)) refl })

  declares-formed : (s : Sort) (d u : Tree) (xs : List Tree) → Declares default context error d xs u → has_form s d ≡ true → has_form s-Statement u ≡ true
  declares-formed s d u xs (by_variables l ds es r) f = variables-formed s l ds es r f
  declares-formed s d u xs (by_class l c fs) f =
      let text = name-text c (class-name s l c fs f) in
      variable-formed (bound_as (label_of c)) (node ClassExpression l (one (m.inside l c) then fs)) text (marked-class-formed s l c fs (symbol_of l ∷ []) f)

  names-text : (s : Sort) (d u : Tree) (xs : List Tree) → Declares default context error d xs u → has_form s d ≡ true → EachTree HasText xs
  names-text s d u xs (by_variables l ds es r) f = names-formed s l ds done f
  names-text s d u xs (by_class l c fs) f = (name-text c (class-name s l c fs f), tt)

  -- DEFAULT EXPORTS

  default-formed : (t : Tree) (b : Bound) → IsText b → has_form s-Statement (default_export m t (identifier b)) ≡ true
  default-formed t b h = rw h refl

  record DefaultFormed (t x u : Tree) : Type 0 where
    left : has_form s-Statement (default_export m t x) ≡ true
    moved : has_form s-Statement u ≡ true

  defaults-formed : (t d x u : Tree) → Defaults default context error t d x u → has_form s-ExportDefault d ≡ true → DefaultFormed t x u
  defaults-formed t d x u (named_class l c fs) f = record { left = default-formed t (bound_as (label_of c)) (name-text c (class-name s-ExportDefault l c fs f)); moved = declares-formed s-ExportDefault d u (c ∷ []) (by_class l c fs) f }
  defaults-formed t d x u (bare_class l fs) f = record { left = default-formed t default default_named; moved = variable-formed default (node ClassExpression l (missing then fs)) default_named (bare-class-formed s-ExportDefault l fs f) }
  defaults-formed t d x u (a_value e g) f = record { left = default-formed t default default_named; moved = variable-formed default e default_named g }

  -- THE LISTS

  pub record ListsFormed (os us : Trees) : Type 0 where
    pub outer : trees_form s-Statement s-Statement os ≡ true
    pub inner : trees_form s-Statement s-Statement us ≡ true

  pub lists-formed : (ts os us : Trees) → Moves default context error ts os us → trees_form s-Statement s-Statement ts ≡ true → ListsFormed os us
  lists-formed ts os us no_more f = record { outer = refl; inner = refl }
  lists-formed ts os us (stays {t = t} {ts = ts'} {os = os'} {us = us'} e r) f =
      let parts = first-formed s-Statement t ts' f in
      let rest = lists-formed ts' os' us' r parts.1 in
      record { outer = formed-first s-Statement t os' parts.0 rest.outer; inner = rest.inner }
  lists-formed ts os us (plain {t = t} {ts = ts'} {os = os'} {us = us'} e r) f =
      let parts = first-formed s-Statement t ts' f in
      let rest = lists-formed ts' os' us' r parts.1 in
      record { outer = rest.outer; inner = formed-first s-Statement t us' parts.0 rest.inner }
  lists-formed ts os us (declares {d = d} {u = u} {xs = xs} {ts = ts'} {os = os'} {us = us'} g r) f =
      let parts = first-formed s-Statement d ts' f in
      let rest = lists-formed ts' os' us' r parts.1 in
      record { outer = rest.outer; inner = formed-first s-Statement u us' (declares-formed s-Statement d u xs g parts.0) rest.inner }
  lists-formed ts os us (exports {l = l} {d = d} {u = u} {xs = xs} {ts = ts'} {os = os'} {us = us'} g r) f =
      let parts = first-formed s-Statement (export_with l d) ts' f in
      let rest = lists-formed ts' os' us' r parts.1 in
      let part = exported-part l d parts.0 in
      record { outer = formed-first s-Statement (export_of m.split (export_with l d) xs) os' (export-formed (export_with l d) xs (names-text s-Declaration d u xs g part)) rest.outer; inner = formed-first s-Statement u us' (declares-formed s-Declaration d u xs g part) rest.inner }
  lists-formed ts os us (default_export_of {l = l} {d = d} {x = x} {u = u} {ts = ts'} {os = os'} {us = us'} g r) f =
      let parts = first-formed s-Statement (default_with l d) ts' f in
      let rest = lists-formed ts' os' us' r parts.1 in
      let made = defaults-formed (default_with l d) d x u g (default-part l d parts.0) in
      record { outer = formed-first s-Statement (default_export m (default_with l d) x) os' made.left rest.outer; inner = formed-first s-Statement u us' made.moved rest.inner }

  joined-formed : (os ts : Trees) → trees_form s-Statement s-Statement os ≡ true → trees_form s-Statement s-Statement ts ≡ true → trees_form s-Statement s-Statement (joined_trees os ts) ≡ true
  joined-formed empty ts f g = g
  joined-formed (o before os) ts f g = let parts = first-formed s-Statement o os f in formed-first s-Statement o (joined_trees os ts) parts.0 (joined-formed os ts parts.1 g)

  -- THE PROGRAM

  pub program-formed : (l : Label) (d : Field) (ts os us : Trees) → Moves default context error ts os us → has_form s-Program (program_with l d ts) ≡ true → has_form s-Program (program_with l d (lowered context error os us)) ≡ true
  program-formed l d ts os us r f =
      let n = node_form s-Program Program l (d then statements ts then done) f in
      let lists = lists-formed ts os us r (program-list l d ts f) in
      let made = formed-first s-Statement (protected context error us) empty (protected-form context context_named s-Statement error us refl error_named lists.inner) refl in
      has_form-node s-Program Program l (d then statements (lowered context error os us) then done) (record { sort = n.sort; texts = n.texts; flags = n.flags; start = n.start; stop = n.stop; agree = refl; children = and_from _ _ (and-left _ _ n.children) (and_from _ true (joined-formed os (protected context error us before empty) lists.outer made) refl) })

  -- and it is so written
  pub topped-is : (h : Tree) (ts : Trees) → topped_list m h ts ≡ lowered context error (outside m ts) (inside m ts)
  topped-is h ts = refl
