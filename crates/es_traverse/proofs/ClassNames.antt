-- The name of a class stays, and so what is seen of the class by it.
use Rattle.std.proofs.Common.{◌≡◌, ◌∙◌, ◌<◌, refl, sym, ap, arith, ℕ, zero, suc, length, List, [], ◌∷◌, get_or, set, Bool, true, false, Option}
use Rattle.std.specs.Prelude.{Some, None}
use Rattle.es_tree.specs.HasForm.{has_form}
use Rattle.es_tree.specs.Names.{first_text}
use Rattle.es_tree.specs.Tree.{Tree, node, Label, Fields, done, ◌then◌, Field, fields, missing, one, many, statements}
use Rattle.es_tree.specs.Words.{Text}
use Rattle.es_tree.specs.declared.ast_type.AstType.{AstType}
use Rattle.es_tree.specs.declared.ast_type.AstType.TheVariants.{ClassDeclaration, ClassExpression, Identifier}
use Rattle.es_tree.specs.declared.table.Sort.{Sort}
use Rattle.es_tree.specs.declared.table.Sort.TheVariants.{Expression as s-Expression}
use Rattle.es_tree.proofs.NodeForm.{node_form}
use Rattle.es_semantic.specs.RolesOf.{reads}
use Rattle.es_semantic.specs.declared.place.Binding.TheVariants.{Class}
use Rattle.es_semantic.specs.declared.place.Role.{Role}
use Rattle.es_semantic.specs.declared.place.Role.TheVariants.{Binds}
use Rattle.es_resolution.specs.Declarations.{Bound}
use Rattle.es_resolution.specs.Resolved.{first_declared, own_by, own_of}
use Rattle.es_resolution.specs.Seen.{name_inside, seen_in, seen_marks}
use Rattle.es_steps.specs.Open.{Open, finished, opened}
use Rattle.es_steps.specs.Slots.{is_slot}
use Rattle.es_steps.specs.Steps.{Ledger, Site, Spot, Step, Steps, Whole}
use Rattle.es_steps.proofs.Opened.{finished-opened}
use Rattle.es_steps.proofs.Passed.{Recalled, recalled}
use Rattle.es_steps.proofs.Taken.{taken, whole_in}
use Rattle.es_changes.specs.Fits.{Fits}
use Rattle.es_changes.specs.Moments.{Moment, ledger_at, whole_at}
use Rattle.es_changes.specs.Rules.{IsLawfulRule}
use Rattle.es_changes.proofs.GoesOn.{TreeGoes, row-keeps, row-recalled, tree-goes}
use Rattle.es_changes.proofs.KnownNames.{called-in, recalled-both, recalled-none}
use Rattle.es_changes.proofs.StillFits.{tree-start}
use Rattle.es_traverse.specs.Visits.{roles_in}

-- WHAT A NODE DECLARES by itself stays in steps of a lawful rule

module _ (R : Site → Ledger → Spot → Ledger → Spot → Type 0) (law : IsLawfulRule R) (first : Whole) (n : Site) (a : Sort) (slot : is_slot n.above ≡ true → a ≡ s-Expression) (t : Tree) where
  record OwnStays (e : Whole) (s : Ledger) (x : Open) : Type 0 where
    goes : TreeGoes R law first n a e s x
    own : own_of n.role (finished x) ≡ own_of n.role t

  own-step : (e : Whole) (s s' : Ledger) (x y : Open) → Recalled (whole_in s') e → OwnStays e s x → Step R n s x s' y → OwnStays e s' y
  own-step e s s' x y r g h =
      let called = called-in (whole_in s) e (recalled-both (whole_in s) (whole_in s') e (recalled R law.names law.writes h) r) n.role (finished x) g.goes.named g.goes.known in
      record { goes = tree-goes R law first n a slot e s s' x y r g.goes h; own = (taken R law.names law.writes h (g.goes.named, called)).kept.own ∙ g.own }

pub own-row : (R : Site → Ledger → Spot → Ledger → Spot → Type 0) → IsLawfulRule R → (a b : Moment) (n : Site) (t u : Tree) → Fits a n t → Steps (Step R n) (ledger_at a) (opened t) (ledger_at b) (opened u) → own_of n.role u ≡ own_of n.role t
own-row R law a b n t u f row =
    let recall = λ (s s' : Ledger) (x y : Open) (h : Step R n s x s' y). recalled R law.names law.writes h in
    let r = row-recalled (Step R n) recall row in
    let start : OwnStays R law (whole_at a) n f.sort f.slot t (whole_at b) (ledger_at a) (opened t) = record { goes = tree-start R law a b n t r f; own = ap (λ (x : Tree). own_of n.role x) (finished-opened t) } in
    let end = row-keeps (Step R n) recall (OwnStays R law (whole_at a) n f.sort f.slot t) (own-step R law (whole_at a) n f.sort f.slot t) row (whole_at b) (recalled-none (whole_at b)) start in
    sym (ap (λ (x : Tree). own_of n.role x) (finished-opened u)) ∙ end.own

-- what reads declares nothing
pub reads-own : (t : Tree) → own_of reads t ≡ []
reads-own (node Identifier l fs) = refl
reads-own (node _ l fs) = refl

-- IN THE FIELDS of a node

pub first-set : (roles : ℕ → Role) (xs : List Field) (i : ℕ) (d y : Field) → i < length xs → own_by (roles i) y ≡ own_by (roles i) (get_or xs i d) → first_declared roles (fields (set xs i y)) ≡ first_declared roles (fields xs)
first-set roles [] i d y l e = absurd (omega (arith, l))
first-set roles (x ∷ xs) zero d y l e = e
first-set roles (x ∷ xs) (suc i) d y l e = refl

-- THE NAME OF A CLASS

abbrev first_name : Fields → Option Text
first_name (one (node k l xs) then fs) = Some (first_text l.texts)
first_name _ = None

abbrev is_named : Fields → Bool
is_named (missing then fs) = true
is_named (one (node Identifier l xs) then fs) = true
is_named _ = false

abbrev name_of : List Bound → Option Text
name_of [] = None
name_of (b ∷ bs) = Some b.name

abbrev bound_name : (ℕ → Text → Option ℕ) → Option ℕ → Option Text → Option ℕ
bound_name names (Some s) (Some x) = names s x
bound_name names _ _ = None

declaration-named : (s : Sort) (l : Label) (fs : Fields) → has_form s (node ClassDeclaration l fs) ≡ true → is_named fs ≡ true
declaration-named s l done h = absurd (cc (node_form s ClassDeclaration l done h).children)
declaration-named s l (missing then fs) h = refl
declaration-named s l (one (node Identifier m xs) then fs) h = refl
declaration-named s l (one (node k m xs) then fs) h = absurd (cc (node_form s ClassDeclaration l (one (node k m xs) then fs) h).children)
declaration-named s l (many ts then fs) h = absurd (cc (node_form s ClassDeclaration l (many ts then fs) h).children)
declaration-named s l (statements ts then fs) h = absurd (cc (node_form s ClassDeclaration l (statements ts then fs) h).children)

expression-named : (s : Sort) (l : Label) (fs : Fields) → has_form s (node ClassExpression l fs) ≡ true → is_named fs ≡ true
expression-named s l done h = absurd (cc (node_form s ClassExpression l done h).children)
expression-named s l (missing then fs) h = refl
expression-named s l (one (node Identifier m xs) then fs) h = refl
expression-named s l (one (node k m xs) then fs) h = absurd (cc (node_form s ClassExpression l (one (node k m xs) then fs) h).children)
expression-named s l (many ts then fs) h = absurd (cc (node_form s ClassExpression l (many ts then fs) h).children)
expression-named s l (statements ts then fs) h = absurd (cc (node_form s ClassExpression l (statements ts then fs) h).children)

name-declared : (roles : ℕ → Role) → roles zero ≡ Binds Class → (fs : Fields) → is_named fs ≡ true → name_of (first_declared roles fs) ≡ first_name fs
name-declared roles r done e = absurd (cc e)
name-declared roles r (missing then fs) e = refl
name-declared roles r (one (node Identifier l xs) then fs) e = ap (λ (z : Role). name_of (own_of z (node Identifier l xs))) r
name-declared roles r (one (node k l xs) then fs) e = absurd (cc e)
name-declared roles r (many ts then fs) e = absurd (cc e)
name-declared roles r (statements ts then fs) e = absurd (cc e)

name-seen : (names : ℕ → Text → Option ℕ) (fs : Fields) → first_name (seen_in names fs) ≡ first_name fs
name-seen names done = refl
name-seen names (missing then fs) = refl
name-seen names (one (node k l xs) then fs) = refl
name-seen names (many ts then fs) = refl
name-seen names (statements ts then fs) = refl

name-bound : (names : ℕ → Text → Option ℕ) (o : Option ℕ) (fs : Fields) → name_inside names o fs ≡ bound_name names o (first_name fs)
name-bound names None fs = refl
name-bound names (Some s) done = refl
name-bound names (Some s) (missing then fs) = refl
name-bound names (Some s) (one (node k l xs) then fs) = refl
name-bound names (Some s) (many ts then fs) = refl
name-bound names (Some s) (statements ts then fs) = refl

class-name : (names : ℕ → Text → Option ℕ) (o : Option ℕ) (roles : ℕ → Role) → roles zero ≡ Binds Class → (fs gs : Fields) → is_named (seen_in names fs) ≡ true → is_named (seen_in names gs) ≡ true → first_declared roles (seen_in names gs) ≡ first_declared roles (seen_in names fs) → name_inside names o gs ≡ name_inside names o fs
class-name names o roles r fs gs f g e =
    let same : first_name gs ≡ first_name fs = sym (name-seen names gs) ∙ (sym (name-declared roles r (seen_in names gs) g) ∙ (ap name_of e ∙ (name-declared roles r (seen_in names fs) f ∙ name-seen names fs))) in
    name-bound names o gs ∙ (ap (λ x. bound_name names o x) same ∙ sym (name-bound names o fs))

-- what is seen of a node by its own name is the same after its fields were visited
pub marks-stay : (names : ℕ → Text → Option ℕ) (m : Label) (n : Site) (k : AstType) (l : Label) (fs gs : Fields) (s r : Sort) → has_form s (node k l (seen_in names fs)) ≡ true → has_form r (node k l (seen_in names gs)) ≡ true →
    first_declared (roles_in n k l (seen_in names fs)) (seen_in names gs) ≡ first_declared (roles_in n k l (seen_in names fs)) (seen_in names fs) → seen_marks names k m gs ≡ seen_marks names k m fs
marks-stay names m n ClassDeclaration l fs gs s r f g e = ap (λ x. x ∷ []) (class-name names _ (roles_in n ClassDeclaration l (seen_in names fs)) refl fs gs (declaration-named s l (seen_in names fs) f) (declaration-named r l (seen_in names gs) g) e)
marks-stay names m n ClassExpression l fs gs s r f g e = ap (λ x. x ∷ []) (class-name names _ (roles_in n ClassExpression l (seen_in names fs)) refl fs gs (expression-named s l (seen_in names fs) f) (expression-named r l (seen_in names gs) g) e)
marks-stay names m n k l fs gs s r f g e = refl
