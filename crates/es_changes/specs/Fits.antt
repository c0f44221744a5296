-- What is known of a part of a program at a moment of a visit, at the site where it stands: the ancestors of the context are those of
-- the site, the names and symbols in the part and in what is pending are in use, temporaries alone are pending, and the part has the
-- form that its place asks for.
use Rattle.std.specs.Prelude.{◌≡◌, ℕ, List, [], ◌∷◌, Bool, true, false, ◌&&◌, Option, Some, None, bytes_eq, ltb}
use Rattle.es_tree.specs.HasForm.{has_form, is_of_sort, trees_form}
use Rattle.es_tree.specs.Words.{Text}
use Rattle.es_tree.specs.Tree.{Tree, Label, Field, Trees}
use Rattle.es_tree.specs.declared.ast_type.AstType.TheVariants.{VariableDeclaration}
use Rattle.es_tree.specs.declared.table.Sort.{Sort}
use Rattle.es_tree.specs.declared.table.Sort.TheVariants.{ArrowFunctionBody as s-ArrowFunctionBody, Expression as s-Expression}
use Rattle.es_scope.specs.declared.ancestor.Ancestor.{Ancestor}
use Rattle.es_semantic.specs.RolesOf.{reads}
use Rattle.es_semantic.specs.declared.place.Role.{Role}
use Rattle.es_resolution.specs.Named.{Named, NamedBy, NamedAll}
use Rattle.es_steps.specs.Identifiers.{Passes, PassesBy, PassesAll}
use Rattle.es_steps.specs.Open.{Pending, OpenFields, is_statement_body}
use Rattle.es_steps.specs.Slots.{is_slot}
use Rattle.es_steps.specs.Steps.{Whole, Site, site_in, site_in_body, the_program}
use Rattle.es_steps.proofs.FormLists.{IsPlain}
use Rattle.es_steps.proofs.FormOpen.{Holds}
use Rattle.es_steps.proofs.Passing.{PassesPending}
use Rattle.es_changes.specs.Moments.{Moment, whole_at}
use Rattle.es_changes.specs.Rules.{is_asked_for}

-- PLACES

-- These ancestors, innermost first, lead to this site: of an ancestor the context has the kind and the field, and the site all of it.
pub data LeadTo : List Ancestor → Site → Type 0 where
  to_program : LeadTo [] the_program
  to_field : {up : List Ancestor} {n : Site} (a : Ancestor) (l : Label) (fs : OpenFields) → LeadTo up n → LeadTo (a ∷ up) (site_in n a.kind l fs a.field)
  -- inside the body of an arrow that is an expression
  to_body : {up : List Ancestor} {n : Site} (p : Pending) (e : Tree) → LeadTo up n → LeadTo up (site_in_body n p e)

-- NAMES IN USE

-- whether a symbol is one of those given so far, and this is its name
abbrev pub is_known : Whole → Text → Option ℕ → Bool
is_known w x None = true
is_known w x (Some s) = ltb s w.free_symbol && bytes_eq x (w.called s)

pub record IsUsed (w : Whole) (r : Role) (t : Tree) : Type 0 where
  pub named : Named w.in_use w.free_symbol r t
  pub known : Passes (is_known w) t

pub record IsUsedBy (w : Whole) (r : Role) (f : Field) : Type 0 where
  pub named : NamedBy w.in_use w.free_symbol r f
  pub known : PassesBy (is_known w) f

pub record AreUsed (w : Whole) (r : Role) (ts : Trees) : Type 0 where
  pub named : NamedAll w.in_use w.free_symbol r ts
  pub known : PassesAll (is_known w) ts

-- the same of a name that is in use
abbrev pub is_used : Whole → Text → Option ℕ → Bool
is_used w x s = w.in_use x && is_known w x s

-- what is pending: temporaries alone, whose names are in use and whose symbols are known
abbrev pub ArePending : Whole → List Pending → Type 0
ArePending w [] = Unit {0}
ArePending w (p ∷ ps) = (IsPlain p × PassesPending (is_used w) p) × ArePending w ps

-- PARTS

-- where a part stands, and what is pending beside it; no temporary is called as what rules write of themselves
pub record Stands (a : Moment) (n : Site) : Type 0 where
  pub place : LeadTo a.around n
  pub asked : (x : Text) → is_asked_for x ≡ true → a.in_use x ≡ true
  pub pending : ArePending (whole_at a) a.lists

pub record Fits (a : Moment) (n : Site) (t : Tree) : Type 0 where
  pub stands : Stands a n
  pub used : IsUsed (whole_at a) n.role t
  pub sort : Sort
  pub slot : is_slot n.above ≡ true → sort ≡ s-Expression
  pub formed : has_form sort t ≡ true

-- in a field, which may hold the body of an arrow (`body`) or not, and has the form that a test asks for
pub record FitsBy (a : Moment) (n : Site) (body : Bool) (f : Field) : Type 0 where
  pub stands : Stands a n
  pub used : IsUsedBy (whole_at a) n.role f
  pub role : body ≡ true → n.role ≡ reads
  pub test : Field → Bool
  pub holds : Holds test n body
  pub formed : test f ≡ true

pub record FitAll (a : Moment) (n : Site) (ts : Trees) : Type 0 where
  pub stands : Stands a n
  pub used : AreUsed (whole_at a) n.role ts
  pub sort : Sort
  pub last : Sort
  pub no_slot : is_slot n.above ≡ true → ⊥
  pub formed : trees_form sort last ts ≡ true

-- the statements of a list
pub record FitInList (a : Moment) (n : Site) (ts : Trees) : Type 0 where
  pub stands : Stands a n
  pub used : AreUsed (whole_at a) n.role ts
  pub sort : Sort
  pub declares : is_of_sort sort VariableDeclaration ≡ true
  pub no_slot : is_slot n.above ≡ true → ⊥
  pub formed : trees_form sort sort ts ≡ true

-- the body of an arrow that is an expression, at the site of its field
pub record FitsInBody (a : Moment) (n : Site) (t : Tree) : Type 0 where
  pub role : n.role ≡ reads
  pub pending : ArePending (whole_at a) a.lists
  pub used : IsUsed (whole_at a) reads t
  pub expression : is_statement_body t ≡ false
  pub formed : has_form s-ArrowFunctionBody t ≡ true
