-- The laws of changes, of each lawful rule, among them those that options ask for: a part that fits fits after steps, what stands in it
-- fits, and steps of a part are steps of the whole.
use Rattle.std.specs.Prelude.{◌≡◌, Bool, ℕ, ◌<◌, List, true, false, None, get_or, length, set}
use Rattle.es_tree.specs.Tree.{Tree, node, Label, done, ◌then◌, Field, fields, one, many, statements, Trees, trees}
use Rattle.es_tree.specs.HasForm.{has_form}
use Rattle.es_tree.specs.declared.ast_type.AstType.{AstType}
use Rattle.es_tree.specs.declared.ast_type.AstType.TheVariants.{Program}
use Rattle.es_tree.specs.declared.table.Sort.TheVariants.{Expression as s-Expression}
use Rattle.es_scope.specs.declared.ancestor.Ancestor.{Ancestor}
use Rattle.es_steps.specs.Open.{Pending, nothing_pending, no_additions, body, is_body, is_statement_body, list, opened, opened_field, opened_fields, opened_trees}
use Rattle.es_tree.specs.declared.options.EnvOptions.{EnvOptions}
use Rattle.es_steps.specs.CoreRules.{rule_under}
use Rattle.es_steps.specs.Sites.{AreAlike}
use Rattle.es_steps.specs.Steps.{FieldStep, IsExpression, Ledger, Site, Spot, Step, Steps, TreesStep, site_in, site_in_body, the_program}
use Rattle.es_changes.specs.Changes.{Level, open_program}
use Rattle.es_changes.specs.Fits.{Fits, FitsBy, FitsInBody, FitAll, FitInList}
use Rattle.es_changes.specs.Moments.{Moment, inside_of, ledger_at, ledger_with, top, with_pair}
use Rattle.es_changes.specs.Rules.{IsLawfulRule, is_asked_for}

-- what has the form of an expression declares nothing around it, and is no body and no import
abbrev pub LawExpression : Type 0
LawExpression = (t : Tree) → has_form s-Expression t ≡ true → IsExpression t

-- the place stays between two moments
pub record SamePlace (a b : Moment) : Type 0 where
  pub level : Level a.lists b.lists
  pub around : b.around ≡ a.around

-- A PART FITS AFTER STEPS

pub record StillFits (R : Site → Ledger → Spot → Ledger → Spot → Type 0) : Type 0 where
  pub tree : (a b : Moment) (n : Site) (t u : Tree) → SamePlace a b → Fits a n t → Steps (Step R n) (ledger_at a) (opened t) (ledger_at b) (opened u) → Fits b n u
  pub trees : (a b : Moment) (n : Site) (ts us : Trees) → SamePlace a b → FitAll a n ts → Steps (TreesStep R n) (ledger_at a) (opened_trees ts) (ledger_at b) (opened_trees us) → FitAll b n us
  pub list : (a b : Moment) (n : Site) (o : Pending) (ts us : Trees) → SamePlace a b → FitInList a n ts → Steps (FieldStep R n) (ledger_with o a) (list (top a.lists) None no_additions (opened_trees ts)) (ledger_with o b) (list (top b.lists) None no_additions (opened_trees us)) → FitInList b n us

abbrev pub LawStillFits : Type 0
LawStillFits = (o : EnvOptions) → StillFits (rule_under o)

-- FIELDS OF A NODE, visited one after the other, each at its site as it was before the first was

pub record FieldsSoFar (R : Site → Ledger → Spot → Ledger → Spot → Type 0) (n : Site) (k : AstType) (l : Label) (a : Moment) (first : List Field) (b : Moment) (items : List Field) : Type 0 where
  pub place : SamePlace a b
  pub count : length items ≡ length first
  pub steps : Steps (Step R n) (ledger_at a) (opened (node k l (fields first))) (ledger_at b) (opened (node k l (fields items)))
  pub fits : Fits b n (node k l (fields items))
  pub alike : (i : ℕ) → AreAlike is_asked_for (site_in n k l (opened_fields (is_body k) (fields first)) i) (site_in n k l (opened_fields (is_body k) (fields items)) i)

pub record LawsOfFields (R : Site → Ledger → Spot → Ledger → Spot → Type 0) : Type 0 where
  pub none : (n : Site) (k : AstType) (l : Label) (a : Moment) (first : List Field) → Fits a n (node k l (fields first)) → FieldsSoFar R n k l a first a first
  -- what stands in a field fits at the site that it had before
  pub inside : (n : Site) (k : AstType) (l : Label) (a b : Moment) (first items : List Field) (x : Ancestor) (d : Field) → FieldsSoFar R n k l a first b items → x.kind ≡ k → x.field < length items →
      FitsBy (inside_of x b) (site_in n k l (opened_fields (is_body k) (fields first)) x.field) (is_body k x.field) (get_or items x.field d)
  -- and steps there are steps of the node
  pub more : (n : Site) (k : AstType) (l : Label) (a b c : Moment) (first items : List Field) (x : Ancestor) (d y : Field) → FieldsSoFar R n k l a first b items → x.kind ≡ k → x.field < length items → SamePlace b c →
      Steps (FieldStep R (site_in n k l (opened_fields (is_body k) (fields first)) x.field)) (ledger_at b) (opened_field (is_body k x.field) (get_or items x.field d)) (ledger_at c) (opened_field (is_body k x.field) y) →
      FieldsSoFar R n k l a first c (set items x.field y)

abbrev pub LawFields : Type 0
LawFields = (o : EnvOptions) → LawsOfFields (rule_under o)

-- WHAT STANDS IN A FIELD

pub record LawsOfField (R : Site → Ledger → Spot → Ledger → Spot → Type 0) : Type 0 where
  pub one_fits : (a : Moment) (n : Site) (t : Tree) → FitsBy a n false (one t) → Fits a n t
  pub one_steps : (n : Site) (s s' : Ledger) (t u : Tree) → Steps (Step R n) s (opened t) s' (opened u) → Steps (FieldStep R n) s (opened_field false (one t)) s' (opened_field false (one u))
  -- the body of an arrow that is one of statements
  pub statements_fit : (a : Moment) (n : Site) (t : Tree) → is_statement_body t ≡ true → FitsBy a n true (one t) → Fits a n t
  pub statements_step : (a b : Moment) (n : Site) (t u : Tree) → is_statement_body t ≡ true → Fits a n t → Steps (Step R n) (ledger_at a) (opened t) (ledger_at b) (opened u) → Steps (FieldStep R n) (ledger_at a) (opened_field true (one t)) (ledger_at b) (opened_field true (one u))
  -- a list
  pub many_fit : (a : Moment) (n : Site) (b : Bool) (ts : Trees) → FitsBy a n b (many ts) → FitAll a n ts
  pub many_step : (n : Site) (b : Bool) (s s' : Ledger) (ts us : Trees) → Steps (TreesStep R n) s (opened_trees ts) s' (opened_trees us) → Steps (FieldStep R n) s (opened_field b (many ts)) s' (opened_field b (many us))

abbrev pub LawField : Type 0
LawField = (o : EnvOptions) → LawsOfField (rule_under o)

-- THE BODY OF AN ARROW that is an expression, for which a pair is opened

pub record LawsOfBody (R : Site → Ledger → Spot → Ledger → Spot → Type 0) : Type 0 where
  pub fits : (a : Moment) (n : Site) (t : Tree) → is_statement_body t ≡ false → FitsBy a n true (one t) → Fits (with_pair a) (site_in_body n nothing_pending t) t
  pub steps : (a b : Moment) (n : Site) (t u : Tree) → is_statement_body t ≡ false → FitsBy a n true (one t) → SamePlace (with_pair a) b → Steps (Step R (site_in_body n nothing_pending t)) (ledger_at (with_pair a)) (opened t) (ledger_at b) (opened u) → (o : Pending) →
      Steps (FieldStep R n) (ledger_with o a) (body nothing_pending (opened t)) (ledger_with o b) (body (top b.lists) (opened u)) × FitsInBody b n u

abbrev pub LawBody : Type 0
LawBody = (o : EnvOptions) → LawsOfBody (rule_under o)

-- LISTS, visited one node after the other

pub record TreesSoFar (R : Site → Ledger → Spot → Ledger → Spot → Type 0) (n : Site) (a : Moment) (first : List Tree) (b : Moment) (items : List Tree) : Type 0 where
  pub place : SamePlace a b
  pub count : length items ≡ length first
  pub steps : Steps (TreesStep R n) (ledger_at a) (opened_trees (trees first)) (ledger_at b) (opened_trees (trees items))
  pub fits : FitAll b n (trees items)

pub record LawsOfTrees (R : Site → Ledger → Spot → Ledger → Spot → Type 0) : Type 0 where
  pub none : (n : Site) (a : Moment) (first : List Tree) → FitAll a n (trees first) → TreesSoFar R n a first a first
  pub inside : (n : Site) (a b : Moment) (first items : List Tree) (i : ℕ) (d : Tree) → TreesSoFar R n a first b items → i < length items → Fits b n (get_or items i d)
  pub more : (n : Site) (a b c : Moment) (first items : List Tree) (i : ℕ) (d y : Tree) → TreesSoFar R n a first b items → i < length items → SamePlace b c → Steps (Step R n) (ledger_at b) (opened (get_or items i d)) (ledger_at c) (opened y) →
      TreesSoFar R n a first c (set items i y)
  -- a statement list, for which a pair is opened
  pub list_fits : (a : Moment) (n : Site) (b : Bool) (ts : Trees) → FitsBy a n b (statements ts) → FitInList (with_pair a) n ts
  pub inside_fits : (a : Moment) (n : Site) (ts : Trees) → FitInList a n ts → FitAll a n ts
  pub inside_steps : (a b : Moment) (n : Site) (ts us : Trees) → FitInList a n ts → SamePlace a b → Steps (TreesStep R n) (ledger_at a) (opened_trees ts) (ledger_at b) (opened_trees us) → (o : Pending) →
      Steps (FieldStep R n) (ledger_with o a) (list (top a.lists) None no_additions (opened_trees ts)) (ledger_with o b) (list (top b.lists) None no_additions (opened_trees us))

abbrev pub LawTrees : Type 0
LawTrees = (o : EnvOptions) → LawsOfTrees (rule_under o)

-- A PROGRAM, whose own list has its pair from the start

pub record LawsOfProgram (R : Site → Ledger → Spot → Ledger → Spot → Type 0) : Type 0 where
  pub fits : (a : Moment) (l : Label) (d : Field) (ts : Trees) (x : Ancestor) → x.kind ≡ Program → x.field ≡ 1 → Fits a the_program (node Program l (d then statements ts then done)) →
      FitInList (inside_of x a) (site_in the_program Program l (opened_fields (is_body Program) (d then statements ts then done)) 1) ts
  pub steps : (a b : Moment) (l : Label) (d : Field) (ts us : Trees) → top a.lists ≡ nothing_pending → Fits a the_program (node Program l (d then statements ts then done)) → SamePlace a b →
      Steps (FieldStep R (site_in the_program Program l (opened_fields (is_body Program) (d then statements ts then done)) 1)) (ledger_with nothing_pending a) (list (top a.lists) None no_additions (opened_trees ts)) (ledger_with nothing_pending b) (list (top b.lists) None no_additions (opened_trees us)) →
      Steps (Step R the_program) (ledger_with nothing_pending a) (open_program (top a.lists) (node Program l (d then statements ts then done))) (ledger_with nothing_pending b) (open_program (top b.lists) (node Program l (d then statements us then done)))

abbrev pub LawProgram : Type 0
LawProgram = (o : EnvOptions) → LawsOfProgram (rule_under o)

-- THE RULES THAT OPTIONS ASK FOR are lawful

abbrev pub LawLawful : Type 0
LawLawful = (o : EnvOptions) → IsLawfulRule (rule_under o)
