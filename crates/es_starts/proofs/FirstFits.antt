-- The source of a program fits the first moment of its visit: its names and symbols are in use, and marks change nothing of form.
use Rattle.std.proofs.Common.{arith, ◌≡◌, ◌≤◌, ◌<◌, ℕ, zero, suc, ◌+◌, refl, sym, ap, subst, ◌∙◌, List, [], ◌∷◌}
use Rattle.std.specs.Prelude.{Bool, true, false, ◌||◌, Option, Some, None, bytes_eq, codes, length, ltb}
use Rattle.std.proofs.lemmas.Bool.{and_from, lt-ltb, true≢false}
use Rattle.std.proofs.lemmas.Slice.Eq.{bytes_eq-Decides}
use Rattle.es_tree.specs.Bare.{bare, bare_field, bare_fields, bare_trees}
use Rattle.es_tree.specs.Fresh.{is_among}
use Rattle.es_tree.specs.HasForm.{has_form}
use Rattle.es_tree.specs.Names.{first_text, names_of}
use Rattle.es_tree.specs.Scopes.{name_in}
use Rattle.es_tree.specs.Tree.{Tree, node, Fields, done, ◌then◌, Field, missing, one, many, statements, Trees, empty, ◌before◌}
use Rattle.es_tree.specs.Words.{Text}
use Rattle.es_tree.specs.declared.ast_type.AstType.TheVariants.{ClassDeclaration, ClassExpression, Identifier}
use Rattle.es_tree.specs.declared.table.Sort.TheVariants.{Program as s-Program}
use Rattle.es_tree.proofs.BareForm.{has_form-bare}
use Rattle.es_scope.specs.declared.ancestor.Ancestor.{Ancestor}
use Rattle.es_semantic.specs.Places.{Place, outermost, own_scope_count, place_in, scope_count_in, scope_count_in_field}
use Rattle.es_semantic.specs.RolesOf.{reads, role_at}
use Rattle.es_semantic.specs.SymbolsOf.{Declared, symbols_of}
use Rattle.es_semantic.specs.declared.place.Role.{Role}
use Rattle.es_resolution.specs.Called.{Called, CalledAll, CalledBy, CalledIn, HasName, name_at}
use Rattle.es_resolution.specs.Declarations.{symbol_of}
use Rattle.es_resolution.specs.Laws.{source}
use Rattle.es_resolution.specs.Named.{IsBelow, Named, NamedAll, NamedBy, NamedIn}
use Rattle.es_resolution.proofs.Basics.{bytes_eq-equal}
use Rattle.es_resolution.proofs.Sources.{source-resolved}
use Rattle.es_resolution.proofs.SymbolTrees.{resolved_among, resolved_by, resolved_in, resolved_tree}
use Rattle.es_steps.specs.CoreBridge.{is_written_name}
use Rattle.es_steps.specs.Identifiers.{Passes, PassesAll, PassesBy, PassesIn, any_name}
use Rattle.es_steps.specs.Open.{Pending, nothing_pending}
use Rattle.es_steps.specs.Steps.{Whole, the_program}
use Rattle.es_steps.proofs.FormLists.{plain-none}
use Rattle.es_steps.proofs.Start.{law_start_proof}
use Rattle.es_changes.specs.Fits.{ArePending, LeadTo, is_known}
use Rattle.es_changes.specs.Fits.LeadTo.{to_program}
use Rattle.es_changes.specs.Moments.{whole_at}
use Rattle.es_changes.specs.Rules.{is_asked_for}
use Rattle.es_starts.specs.Starts.{LawFits}

-- KNOWN: symbols below the next one, each with its name

module _ (w : Whole) (called : ℕ → Text) (same : (s : ℕ) → s < w.free_symbol → w.called s ≡ called s) where
  known-name : (x : Text) (s : Option ℕ) → IsBelow w.free_symbol s → HasName called s x → is_known w x s ≡ true
  known-name x None b h = refl
  known-name x (Some m) b h = and_from (ltb m w.free_symbol) (bytes_eq x (w.called m)) (lt-ltb m w.free_symbol b) ((bytes_eq-Decides x (w.called m)).1 (h ∙ sym (same m b)))

  mutual
    known-tree : (r : Role) (t : Tree) → Named w.in_use w.free_symbol r t → Called called t → Passes any_name t → Passes (is_known w) t
    known-tree r (node Identifier l fs) u h k = (known-name (first_text l.texts) (symbol_of l) u.0.1 h.0, known-in (role_at r Identifier l fs) fs u.1 h.1 k.1)
    known-tree r (node ClassDeclaration l fs) u h k = ((k.0.0, known-name (name_in fs) (symbol_of l) u.0.1 h.0), known-in (role_at r ClassDeclaration l fs) fs u.1 h.1 k.1)
    known-tree r (node ClassExpression l fs) u h k = ((k.0.0, known-name (name_in fs) (symbol_of l) u.0.1 h.0), known-in (role_at r ClassExpression l fs) fs u.1 h.1 k.1)
    known-tree r (node k l fs) u h d = (d.0, known-in (role_at r k l fs) fs u.1 h.1 d.1)

    known-in : (roles : ℕ → Role) (fs : Fields) → NamedIn w.in_use w.free_symbol roles fs → CalledIn called fs → PassesIn any_name fs → PassesIn (is_known w) fs
    known-in roles done u h k = tt
    known-in roles (f then fs) u h k = (known-by (roles zero) f u.0 h.0 k.0, known-in (λ i. roles (suc i)) fs u.1 h.1 k.1)

    known-by : (r : Role) (f : Field) → NamedBy w.in_use w.free_symbol r f → CalledBy called f → PassesBy any_name f → PassesBy (is_known w) f
    known-by r missing u h k = tt
    known-by r (one t) u h k = known-tree r t u h k
    known-by r (many ts) u h k = known-all r ts u h k
    known-by r (statements ts) u h k = known-all r ts u h k

    known-all : (r : Role) (ts : Trees) → NamedAll w.in_use w.free_symbol r ts → CalledAll called ts → PassesAll any_name ts → PassesAll (is_known w) ts
    known-all r empty u h k = tt
    known-all r (t before ts) u h k = (known-tree r t u.0 h.0 k.0, known-all r ts u.1 h.1 k.1)

-- FORM

mutual
  bare-tree : (F : List Declared) (p : Place) (n : ℕ) (t : Tree) → bare (resolved_tree F p n t) ≡ bare t
  bare-tree F p n (node k l fs) = λ i. node k (record l { id = 0; marks = [] }) (bare-in F (place_in p n k l fs) (n + own_scope_count k fs) fs i)

  bare-in : (F : List Declared) (ps : ℕ → Place) (n : ℕ) (fs : Fields) → bare_fields (resolved_in F ps n fs) ≡ bare_fields fs
  bare-in F ps n done = refl
  bare-in F ps n (f then fs) = λ i. bare-by F (ps 0) n f i then bare-in F (λ j. ps (suc j)) (n + scope_count_in_field f) fs i

  bare-by : (F : List Declared) (p : Place) (n : ℕ) (f : Field) → bare_field (resolved_by F p n f) ≡ bare_field f
  bare-by F p n missing = refl
  bare-by F p n (one t) = ap one (bare-tree F p n t)
  bare-by F p n (many ts) = ap many (bare-among F p n ts)
  bare-by F p n (statements ts) = ap statements (bare-among F p n ts)

  bare-among : (F : List Declared) (p : Place) (n : ℕ) (ts : Trees) → bare_trees (resolved_among F p n ts) ≡ bare_trees ts
  bare-among F p n empty = refl
  bare-among F p n (t before ts) = λ i. bare-tree F p n t i before bare-among F p (n + scope_count_in t) ts i

pub source-bare : (p : Tree) → bare (source p) ≡ bare p
source-bare p = ap bare (source-resolved p) ∙ bare-tree (symbols_of p) (outermost p) 1 p

pub source-form : (p : Tree) → has_form s-Program p ≡ true → has_form s-Program (source p) ≡ true
source-form p form =
    sym (has_form-bare s-Program (source p)) ∙ ap (has_form s-Program) (source-bare p) ∙ has_form-bare s-Program p ∙ form

-- NAMES IN USE

or-true : (b : Bool) → (b || true) ≡ true
or-true true = refl
or-true false = refl

either : {P : Type 0} (c d : Bool) → (c || d) ≡ true → (c ≡ true → P) → (d ≡ true → P) → P
either true d e f g = f refl
either false d e f g = g e

asked-written : (x : Text) → is_asked_for x ≡ true → (b : Bool) → (is_written_name x || b) ≡ true
asked-written x e b =
    let there = λ (y : Text) (h : bytes_eq x y ≡ true) (known : (is_written_name y || b) ≡ true). subst (λ (z : Text). (is_written_name z || b) ≡ true) (sym (bytes_eq-equal x y h)) known in
    either (bytes_eq x (codes "Math")) (bytes_eq x (codes "babelHelpers")) e (λ h. there (codes "Math") h refl) (λ h. there (codes "babelHelpers") h refl)

first-pending : (w : Whole) → ArePending w (nothing_pending ∷ [])
first-pending w = ((plain-none, record { vars = tt; lets = tt }), tt)

-- THE LAW

up-to : (m a b : ℕ) → m < a → a ≡ b → m < b
up-to m a b e d = rw (sym d) e

pub law_fits_proof : LawFits
law_fits_proof p a form right f =
    let w = whole_at a in
    let called = name_at (symbols_of p) in
    let used : (x : Text) → is_among (names_of p) x ≡ true → a.in_use x ≡ true = λ x e. f.in_use x ∙ ap (λ b. is_written_name x || b) e ∙ or-true (is_written_name x) in
    let low : length (symbols_of p) ≤ a.free_symbol = rw f.free_symbol (omega arith) in
    let well = law_start_proof p (record w { called = called }) form right used low (λ s. refl) in
    record {
      stands = record {
        place = subst (λ (up : List Ancestor). LeadTo up the_program) (sym f.around) to_program;
        asked = λ x e. f.in_use x ∙ asked-written x e (is_among (names_of p) x);
        pending = subst (λ (ps : List Pending). ArePending w ps) (sym f.lists) (first-pending w);
      };
      used = record { named = well.named; known = known-tree w called (λ s e. f.called s (up-to s a.free_symbol (length (symbols_of p)) e f.free_symbol)) reads (source p) well.named well.called well.class_names };
      sort = s-Program;
      slot = λ e. absurd (true≢false (sym e));
      formed = source-form p form;
    }
