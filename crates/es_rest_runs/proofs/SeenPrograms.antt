-- Programs that are the same but for one declaration, which is a row of the machine wherever what stands around it is known, run alike.
use Rattle.std.proofs.Common.{◌≡◌, refl, sym, ap, subst, ◌∙◌, List, []}
use Rattle.std.proofs.lemmas.Bool.{and_parts}
use Rattle.std.specs.Prelude.{Bool, true, false, ◌&&◌}
use Rattle.es_tree.specs.Attributes.{child_entries}
use Rattle.es_tree.specs.HasForm.{elements_form, elements_of, fields_form, has_form, match_option, sort_at}
use Rattle.es_tree.specs.Scopes.{Declared}
use Rattle.es_tree.specs.Tree.{Tree, Label, Fields, done, ◌then◌, one, many, statements, Trees}
use Rattle.es_tree.specs.Walks.{all_in_trees}
use Rattle.es_tree.specs.Words.{Text}
use Rattle.es_tree.specs.declared.ast_type.AstType.{AstType}
use Rattle.es_tree.specs.declared.ast_type.AstType.TheVariants.{PatternProperty, Program}
use Rattle.es_tree.specs.declared.table.Sort.TheVariants.{Program as s-Program, PropertyKey as s-PropertyKey}
use Rattle.es_runs.specs.Alike.{Level, SameWorld, bad_names}
use Rattle.es_runs.specs.Core.{World}
use Rattle.es_runs.specs.Runs.{is_declared, program}
use Rattle.es_semantic.specs.RolesOf.{reads, role_at}
use Rattle.es_resolution.specs.Resolved.{nowhere}
use Rattle.es_resolution.proofs.AllForms.{all-tree}
use Rattle.es_steps.specs.Laws.{IsWellBound}
use Rattle.es_steps.specs.Open.{Open, finished}
use Rattle.es_steps.specs.Steps.{Ledger, Whole}
use Rattle.es_valid_steps.proofs.Visits.{law_among_proof, law_places_proof}
use Rattle.es_statement_runs.specs.Alike.{SenseLike}
use Rattle.es_statement_runs.specs.Helpers.{Supply, silent_names}
use Rattle.es_statement_runs.specs.Kinds.{sense}
use Rattle.es_statement_runs.specs.Laws.{among_names, any_cells, body_needs, is_silent}
use Rattle.es_statement_runs.specs.Names.{declared_at_top, top_in}
use Rattle.es_statement_runs.specs.Places.{Take, avoids_trees, placed_at}
use Rattle.es_statement_runs.specs.Programs.{IsStatementProgram}
use Rattle.es_statement_runs.specs.Runs.{RunAlike}
use Rattle.es_statement_steps.proofs.FreshNames.{top_used, unused_avoids_all}
use Rattle.es_statement_steps.proofs.MadeNames.{all_made, made_math, made_program_names, made_supply}
use Rattle.es_statement_steps.proofs.StandingPrograms.{program_stands}
use Rattle.es_statement_steps.proofs.Stands.{standing, stands}
use Rattle.es_split_runs.specs.Growing.{GrownTrees}
use Rattle.es_split_runs.specs.Laws.{FreshNames, bad_fresh}
use Rattle.es_split_runs.proofs.KnownNames.{Known as NamesKnown, fresh_run}
use Rattle.es_rest_runs.specs.Changing.{Changed}
use Rattle.es_rest_runs.specs.Growth.{Grows}
use Rattle.es_rest_runs.specs.Laws.{KeepsSources}
use Rattle.es_rest_runs.proofs.GrownNames.{Apt, Decl, using_same_in}
use Rattle.es_rest_runs.proofs.GrownPrograms.{ProgramChanged, list_grown_at_top, tops_more}
use Rattle.es_rest_runs.specs.Quiet.{IsQuiet}
use Rattle.es_rest_runs.proofs.QuietSteps.{Left}
use Rattle.es_rest_runs.proofs.SeenPlaces.{KeyFormed, Known, Seen, SeenRow, seen_top, seen_trees}
use Rattle.es_rest_runs.proofs.Stores.{declared_is, still_declared, undeclared_is}
use Rattle.es_rest_runs.proofs.TestsHold.{program_tested}

-- WHAT IS KNOWN of a valid program whose names are bound

key_formed : (k : AstType) (l : Label) (fs : Fields) → match_option (elements_of (child_entries k)) (fields_form k l (child_entries k) fs) (λ p. elements_form p.sort p.last fs) ≡ true → KeyFormed k l fs
key_formed PatternProperty l (one k then fs) h = (and_parts (has_form (sort_at PatternProperty l s-PropertyKey) k) _ h).0
key_formed _ l fs h = tt

pub program_apt : (p : Tree) → IsStatementProgram p → Apt p
program_apt p class =
    let keeps = (law_places_proof p).to_places (law_among_proof p class.rules) in
    (program_stands p class.form class.without_functions keeps, program_tested p class.form class.without_functions keeps)

pub program_known : (w : Whole) (p : Tree) → IsStatementProgram p → IsWellBound w p → KeepsSources w p → Known w reads nowhere p
program_known w p class bound sources = record {
  resolved = bound.resolved;
  named = bound.named;
  unwritten = sources.steady;
  fine = (program_apt p class).0;
  cells = class.names;
  sources = sources.made;
  keys = all-tree KeyFormed (λ z k l fs f. key_formed k l fs f.children) s-Program p class.form;
}

-- what a step makes of a program: it runs as that does, declares what that declares, and nothing is pending
pub record SeenAlike (u : Supply) (B : Tree → Tree → Type 0) (s s' : Ledger) (p : Tree) (y : Open) : Type 0 where
  pub runs : silent_names u (finished y) ≡ [] → RunAlike u false p (finished y)
  pub declared : (z : Text) → is_declared (declared_at_top p) z ≡ true → is_declared (declared_at_top (finished y)) z ≡ true
  pub left : Left s s' (IsQuiet y) (Changed B p (finished y))

-- NEW NAMES
pub record New (w : Whole) (xs : List Text) : Type 0 where
  pub fresh : (y : Text) → among_names xs y ≡ true → w.in_use y ≡ false
  pub made : all_made xs ≡ true

pub unused : (w : Whole) (xs : List Text) → New w xs → (y : Text) → w.in_use y ≡ true → among_names xs y ≡ false
unused w xs new y used = at (among_names xs y) refl
  where
    at : (b : Bool) → among_names xs y ≡ b → b ≡ false
    at true g = absurd (let no : w.in_use y ≡ false = new.fresh y g in cc (no, used))
    at false g = refl

-- what is known of a row besides where it stands
pub record Raw (A : Tree → Tree → Type 0) (xs : List Text) (D : List Declared) (t : Take) (a b : Tree) : Type 0 where
  pub changed : A a b
  pub apt : Apt a
  pub around : Decl xs D

module _ (u : Supply) (w : Whole) (v : Bool) (xs : List Text) (unbound : Text → Bool) (A : Tree → Tree → Type 0) (grow : (a b : Tree) → A a b → Grows v xs a b) where
  abbrev pub bad_here : Level → Text → Bool
  bad_here = bad_names (among_names xs) unbound

  -- the changed declaration is a row of the machine
  abbrev pub IsRow : Type 0
  IsRow = (l : Label) (ds body after : Trees) → FreshNames u xs l ds body after → silent_names u (program l ds body) ≡ [] → (D : List Declared) (t : Take) (a b : Tree) → Raw A xs D t a b × Seen w xs D a → (W V : World) → SameWorld (among_names xs) W V →
      NamesKnown (λ y. true) unbound xs D W V → (ls : List Text) (y : Text) → SenseLike (any_cells (among_names xs)) W V t (sense (placed_at u W ls y) a) (sense (placed_at u V ls y) b)

  module _ (new : New w xs) (row : IsRow) (p q : Tree) (apt : Apt p) (known : Known w reads nowhere p) (changed : ProgramChanged A p q)
      (avoids_more : (l : Label) (ds body : Trees) → p ≡ program l ds body → avoids_trees (bad_fresh xs) body_needs body ≡ true → avoids_trees bad_here body_needs body ≡ true)
      (undeclared : (y : Text) → unbound y ≡ true → (among_names xs y ≡ false) × (is_declared (declared_at_top p) y ≡ false)) (silent : silent_names u p ≡ []) (silent_after : silent_names u q ≡ []) where
    abbrev P : Tree
    P = program changed.label changed.directives changed.body

    abbrev Q : Tree
    Q = program changed.label changed.directives changed.after

    abbrev fields : Fields
    fields = many changed.directives then (statements changed.body then done)

    here : Known w reads nowhere P
    here = subst (λ t. Known w reads nowhere t) changed.first known

    none : silent_names u P ≡ []
    none = sym (ap (silent_names u) changed.first) ∙ silent

    none_after : silent_names u Q ≡ []
    none_after = sym (ap (silent_names u) changed.second) ∙ silent_after

    fresh_names : FreshNames u xs changed.label changed.directives changed.body changed.after
    fresh_names = record {
      tops = tops_more v xs A grow changed.changed changed.parts;
      uses = using_same_in v xs A grow changed.changed;
      silents = none_after ∙ sym none;
      unsilent = λ y e. ap (λ es. is_silent es y) none;
      undeclared = λ y d. unused w xs new y (top_used w.in_use w.free_symbol changed.label fields here.fine here.named y (undeclared_is (top_in changed.body) y d));
      math = made_math xs new.made;
      program_names = made_program_names xs new.made;
      supply = made_supply u xs new.made;
    }

    avoid : avoids_trees bad_here body_needs changed.body ≡ true
    avoid = avoids_more changed.label changed.directives changed.body changed.first
        (unused_avoids_all w.in_use w.free_symbol (among_names xs) (unused w xs new) (role_at reads Program changed.label fields 1) body_needs changed.body (λ e. absurd (cc e)) here.named.1.1.0
        (and_parts (all_in_trees stands changed.body) true (and_parts (all_in_trees stands changed.directives) (all_in_trees stands changed.body && true) (standing Program changed.label fields here.fine).below).1).0)

    rows : GrownTrees bad_here (among_names xs) (SeenRow w xs bad_here (Raw A xs)) (top_in changed.after) body_needs changed.body changed.after
    rows = seen_trees w xs bad_here (Raw A xs)
        (list_grown_at_top v xs A grow bad_here (Raw A xs) (λ D t a b h apt av d. record { changed = h; apt = apt; around = d }) changed.changed (top_in changed.after) changed.parts avoid (λ d. d))
        (seen_top w xs changed.label fields (top_in changed.after) fresh_names.tops here).1.0

    free : (y : Text) → unbound y ≡ true → (among_names xs y ≡ false) × (is_silent (silent_names u P) y ≡ false) × (is_declared (top_in changed.body) y ≡ false)
    free y e = let d = undeclared y e in (d.0, ap (λ es. is_silent es y) none, subst (λ t. is_declared (declared_at_top t) y ≡ false) {x = p} changed.first d.1)

    pub seen_run : RunAlike u false p q
    seen_run =
        subst (λ t. RunAlike u false t q) (sym changed.first) (subst (λ t. RunAlike u false P t) (sym changed.second)
        (fresh_run (λ y. true) unbound xs u changed.label changed.directives changed.body changed.after (SeenRow w xs bad_here (Raw A xs)) fresh_names
        (row changed.label changed.directives changed.body changed.after fresh_names none) (λ y e. ap (λ es. is_silent es y) none) free rows))

  -- what the first one declares at its top, the second one declares
  pub declared_still : {p q : Tree} → ProgramChanged A p q → (z : Text) → is_declared (declared_at_top p) z ≡ true → is_declared (declared_at_top q) z ≡ true
  declared_still {p = p} {q = q} changed z e =
      subst (λ t. is_declared (declared_at_top t) z ≡ true) {x = program changed.label changed.directives changed.after} (sym changed.second)
      (declared_is (top_in changed.after) z (still_declared (tops_more v xs A grow changed.changed changed.parts) z (undeclared_is (top_in changed.body) z (subst (λ t. is_declared (declared_at_top t) z ≡ true) {x = p} changed.first e))))
