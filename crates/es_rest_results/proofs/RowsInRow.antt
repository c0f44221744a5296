-- Rows of object rests in whatever order, at whatever declarations: each keeps the runs, and what the next one counts on.
use Rattle.std.proofs.Common.{◌≡◌, ◌∙◌, ℕ, zero, suc, inl, inr, refl, sym, ap, subst, []}
use Rattle.std.proofs.lemmas.Bool.{and_from, and_parts}
use Rattle.std.specs.Prelude.{◌⊎◌, Bool, true, false, None, codes}
use Rattle.es_tree.specs.HasForm.{has_form}
use Rattle.es_tree.specs.Names.{first_text}
use Rattle.es_tree.specs.StaticRules.{breaks}
use Rattle.es_tree.specs.Tree.{Tree, node, Label, Fields, done, ◌then◌, Field, many, statements, Trees, kind_of}
use Rattle.es_tree.specs.Walks.{all_nodes, all_in_field, all_in_fields, all_in_trees, any_node}
use Rattle.es_tree.specs.Words.{Text}
use Rattle.es_tree.specs.declared.ast_type.AstType.{AstType}
use Rattle.es_tree.specs.declared.ast_type.AstType.TheVariants.{Program, VariableDeclarator}
use Rattle.es_tree.specs.declared.table.Sort.TheVariants.{Program as s-Program}
use Rattle.es_runs.specs.Alike.{Level, bad_names}
use Rattle.es_runs.specs.Runs.{is_declared, none_hidden, only, program}
use Rattle.es_runs.proofs.Temporary.{bytes_eq-self}
use Rattle.es_semantic.specs.RolesOf.{reads, role_at}
use Rattle.es_semantic.specs.declared.place.Role.{Role}
use Rattle.es_semantic.specs.declared.place.Role.TheVariants.{Nothing}
use Rattle.es_resolution.specs.Named.{Named, NamedAll, NamedBy, NamedIn}
use Rattle.es_resolution.proofs.Forms.{form-placed}
use Rattle.es_changes.proofs.StepRows.{steps-trans}
use Rattle.es_steps.specs.AllRules.{AllRules}
use Rattle.es_steps.specs.Laws.{IsWellBound, nothing_beside}
use Rattle.es_steps.specs.Open.{Open, finished, no_additions, nothing_pending, opened}
use Rattle.es_steps.specs.Rules.{either_rule}
use Rattle.es_steps.specs.Steps.{Ledger, Site, Spot, Step, Steps, Whole, ledger, the_program}
use Rattle.es_steps.specs.Steps.Spot.{at_node}
use Rattle.es_steps.specs.Steps.Steps.{goes, stays}
use Rattle.es_steps.proofs.BridgeInclusion.{all_under, step_under}
use Rattle.es_steps.proofs.Laws.{law_steps_proof}
use Rattle.es_steps.proofs.Opened.{finished-opened}
use Rattle.es_steps.proofs.Taken.{pending_in, this_in, top_in as top_beside, whole_in}
use Rattle.es_valid_rests.specs.Laws.{with_rests}
use Rattle.es_valid_rests.specs.RestRules.{OutsidePart, RestPart}
use Rattle.es_valid_rests.proofs.RestPrograms.{law_rest_rules_proof}
use Rattle.es_valid_rests.proofs.RestSteps.{law_rest_form_proof}
use Rattle.es_rest_rows.specs.Laws.{is_bound_helper}
use Rattle.es_rest_rows.specs.RestRows.{RestRow, RestWalkRow}
use Rattle.es_rest_rows.specs.RestRows.RowsWhere.{nested, stores, takes}
use Rattle.es_rest_steps.proofs.WalkSteps.{law_rest_parts_proof}
use Rattle.es_statement_runs.specs.Helpers.{silent_names}
use Rattle.es_statement_runs.specs.Helpers.Supply.{by_global}
use Rattle.es_statement_runs.specs.Names.{declared_at_top}
use Rattle.es_statement_runs.specs.Places.{value_taken}
use Rattle.es_statement_runs.specs.Programs.{IsStatementProgram, is_statement_node, names_no_cell}
use Rattle.es_statement_runs.specs.Runs.{RunAlike}
use Rattle.es_statement_runs.proofs.Composing.{law_then_proof}
use Rattle.es_statement_steps.proofs.AvoidedNames.{AtNames, Suits, aims_pass, is_aimed, names_avoid, top_fine}
use Rattle.es_statement_steps.proofs.Below.{Below, BelowField, BelowTrees, map_below}
use Rattle.es_statement_steps.proofs.ReachedRuns.{program-parts}
use Rattle.es_statement_steps.proofs.Stands.{is_inner, stands}
use Rattle.es_statement_steps.proofs.StepSplits.{step-either}
use Rattle.es_statement_steps.proofs.Unwritten.{IsSparing, unwritten-of}
use Rattle.es_rest_runs.specs.Changing.{Changed, ChangedAmong, ChangedBy, ChangedIn}
use Rattle.es_rest_runs.specs.Changing.Changed.{below, here}
use Rattle.es_rest_runs.specs.Changing.ChangedAmong.{head_of, tail_of}
use Rattle.es_rest_runs.specs.Changing.ChangedBy.{many_of, one_of, statements_of}
use Rattle.es_rest_runs.specs.Changing.ChangedIn.{first_of, later_of}
use Rattle.es_rest_runs.specs.Laws.{KeepsSources, LeavesHelpers, NestsRow, StoresRow, TakesRow, excludes_no_name, keeps_made}
use Rattle.es_rest_runs.specs.Quiet.{IsQuiet}
use Rattle.es_rest_runs.proofs.GrownNames.{Apt, Part, none_inside, parts_of}
use Rattle.es_rest_runs.proofs.Kept.{Redeclared}
use Rattle.es_rest_runs.proofs.Kept.Redeclared.{redeclared}
use Rattle.es_rest_runs.proofs.Nests.{nested_alike}
use Rattle.es_rest_runs.proofs.NoSilence.{no_silent}
use Rattle.es_rest_runs.proofs.QuietSteps.{PlainRule, opened_quiet, step_changed}
use Rattle.es_rest_runs.proofs.SeenPrograms.{program_apt}
use Rattle.es_rest_runs.proofs.SomeOptions.{some_options}
use Rattle.es_rest_runs.proofs.Stores.{row_nodes, row_pending, row_this, row_top, stored_alike, undeclared_is}
use Rattle.es_rest_runs.proofs.Takes.{taken_alike}
use Rattle.es_rest_results.specs.Laws.{RunsTaken}
use Rattle.es_rest_results.proofs.MadeSources.{K, Makes, row_keeps, row_makes, still_all, still_by, still_in, still_sources}
use Rattle.es_rest_results.proofs.SoundRows.{row_sound}
use Rattle.es_rest_results.proofs.SoundTrees.{Sound, sound_changed, sound_names, sound_nodes}

-- WHAT A ROW KEEPS, whichever it is

record Keeps (w w' : Whole) (a b : Tree) : Type 0 where
  redeclares : Redeclared a b
  makes : Makes w w'
  sound : (steady : ℕ → Bool) (r : Role) → Sound steady r a → Sound steady r b
  sources : (r : Role) → Named w.in_use w.free_symbol r a → all_nodes stands a ≡ true → K w.made a → K w'.made b

row_redeclares : {n : Site} {s s' : Ledger} {t u : Tree} → RestRow n s (at_node t) s' (at_node u) → Redeclared t u
row_redeclares (stores m l a c p e x b1 b2 b3 b4 b5 b6 b7) = redeclared m _ _
row_redeclares (takes m l lp lr ls a ps c t xs b1 b2 b3 b4 b5 b6 b7 b8 b9) = redeclared m _ _
row_redeclares (nested m l lp lq ls a ps rs c k p v u x b1 b2 b3 b4 b5 b6 b7 b8 b9) = redeclared m _ _

keeps-rule : PlainRule RestRow Keeps
keeps-rule = record {
  nodes = λ n s s' x y h. row_nodes h;
  pending = λ n s s' t u h. row_pending h;
  this = λ n s s' t u h. row_this h;
  top = λ n s s' t u h. row_top h;
  made = λ n s s' t u h. record { redeclares = row_redeclares h; makes = row_makes h; sound = λ steady r k. row_sound steady h r k; sources = row_keeps h };
}

-- MADE SOURCES, where one declaration changes so

not_inner : {a b : Tree} → Redeclared a b → is_inner (kind_of a) ≡ true → ⊥
not_inner (redeclared m fs gs) e = absurd (cc e)

module _ (w w' : Whole) where
  abbrev C : Tree → Tree → Type 0
  C = Changed (Keeps w w')

  own_sources : (k : AstType) (l : Label) (fs gs : Fields) → ChangedIn (Keeps w w') fs gs → Apt (node k l fs) → keeps_made w'.made k l gs ≡ true
  own_sources VariableDeclarator l fs gs h apt = absurd (none_inside (Keeps w w') (λ a b g e. not_inner g.redeclares e) (below {k = VariableDeclarator} {l = l} h) apt refl)
  own_sources _ l fs gs h apt = refl

  mutual
    makes_of : {a b : Tree} → C a b → Makes w w'
    makes_of (here h) = h.makes
    makes_of (below h) = makes_in h

    makes_in : {fs gs : Fields} → ChangedIn (Keeps w w') fs gs → Makes w w'
    makes_in (first_of h) = makes_by h
    makes_in (later_of h) = makes_in h

    makes_by : {f g : Field} → ChangedBy (Keeps w w') f g → Makes w w'
    makes_by (one_of h) = makes_of h
    makes_by (many_of h) = makes_among h
    makes_by (statements_of h) = makes_among h

    makes_among : {ts us : Trees} → ChangedAmong (Keeps w w') ts us → Makes w w'
    makes_among (head_of h) = makes_of h
    makes_among (tail_of h) = makes_among h

  module _ (makes : Makes w w') where
    abbrev N : Role → Tree → Type 0
    N = Named w.in_use w.free_symbol

    abbrev T : AstType → Label → Fields → Bool
    T = keeps_made w.made

    abbrev T' : AstType → Label → Fields → Bool
    T' = keeps_made w'.made

    mutual
      sources_changed : {a b : Tree} → C a b → (r : Role) → N r a → Apt a → all_nodes T a ≡ true → all_nodes T' b ≡ true
      sources_changed (here h) r n apt g = h.sources r n apt.0 g
      sources_changed (below {k = k} {l = l} {fs = fs} {gs = gs} h) r n apt g =
          and_from (T' k l gs) (all_in_fields T' gs) (own_sources k l fs gs h apt) (sources_in h (role_at r k l fs) n.1 (map_below (λ i t. Part k i t) (λ i. Apt) (λ i t q. q.0) fs (parts_of k l fs apt)) (and_parts (T k l fs) (all_in_fields T fs) g).1)

      sources_in : {fs gs : Fields} → ChangedIn (Keeps w w') fs gs → (roles : ℕ → Role) → NamedIn w.in_use w.free_symbol roles fs → Below (λ i. Apt) fs → all_in_fields T fs ≡ true → all_in_fields T' gs ≡ true
      sources_in (first_of {f = f} {g = g} {fs = fs} h) roles n apt k =
          let d = and_parts (all_in_field T f) (all_in_fields T fs) k in
          and_from (all_in_field T' g) (all_in_fields T' fs) (sources_by h (roles zero) n.0 apt.0 d.0) (still_in w w' makes w.free_symbol (λ i. roles (suc i)) fs n.1 d.1)
      sources_in (later_of {f = f} {fs = fs} {gs = gs} h) roles n apt k =
          let d = and_parts (all_in_field T f) (all_in_fields T fs) k in
          and_from (all_in_field T' f) (all_in_fields T' gs) (still_by w w' makes w.free_symbol (roles zero) f n.0 d.0) (sources_in h (λ i. roles (suc i)) n.1 apt.1 d.1)

      sources_by : {f g : Field} → ChangedBy (Keeps w w') f g → (r : Role) → NamedBy w.in_use w.free_symbol r f → BelowField Apt f → all_in_field T f ≡ true → all_in_field T' g ≡ true
      sources_by (one_of h) r n apt k = sources_changed h r n apt k
      sources_by (many_of h) r n apt k = sources_among h r n apt k
      sources_by (statements_of h) r n apt k = sources_among h r n apt k

      sources_among : {ts us : Trees} → ChangedAmong (Keeps w w') ts us → (r : Role) → NamedAll w.in_use w.free_symbol r ts → BelowTrees Apt ts → all_in_trees T ts ≡ true → all_in_trees T' us ≡ true
      sources_among (head_of {a = a} {b = b} {ts = ts} h) r n apt k =
          let d = and_parts (all_nodes T a) (all_in_trees T ts) k in
          and_from (all_nodes T' b) (all_in_trees T' ts) (sources_changed h r n.0 apt.0 d.0) (still_all w w' makes w.free_symbol r ts n.1 d.1)
      sources_among (tail_of {a = a} {ts = ts} {us = us} h) r n apt k =
          let d = and_parts (all_nodes T a) (all_in_trees T ts) k in
          and_from (all_nodes T' a) (all_in_trees T' us) (still_sources w w' makes w.free_symbol r a n.0 d.0) (sources_among h r n.1 apt.1 d.1)

-- `babelHelpers` is left alone

abbrev helpers_ : Text
helpers_ = codes "babelHelpers"

abbrev bad_helpers : Level → Text → Bool
bad_helpers = bad_names none_hidden (only helpers_)

abbrev pub IsOther : Role → Label → Type 0
IsOther r l = is_aimed r ≡ true → only helpers_ (first_text l.texts) ≡ false

other_good : (r : Role) (n : Level) (l : Label) → (r ≡ Nothing → n ≡ Level.no_evaluation) → (n ≡ Level.a_target → is_aimed r ≡ true) → IsOther r l → bad_helpers n (first_text l.texts) ≡ false
other_good r Level.no_evaluation l told aim h = refl
other_good r Level.value_alone l told aim h = refl
other_good r Level.an_operand_of_typeof l told aim h = refl
other_good r Level.whole_reference l told aim h = refl
other_good r Level.a_callee l told aim h = refl
other_good r Level.a_target l told aim h = h (aim refl)

program_suits : Suits is_aimed reads value_taken Program
program_suits = record { told = λ e. absurd (cc e); target = λ e a. absurd (cc e); pattern = λ e. absurd (cc e) }

leaves_program : (l : Label) (ds body : Trees) → AtNames IsOther reads (program l ds body) → all_nodes stands (program l ds body) ≡ true → LeavesHelpers (program l ds body)
leaves_program l ds body names fine = record {
  undeclared = at (is_declared (declared_at_top (program l ds body)) helpers_) refl;
  unwritten = names_avoid is_aimed aims_pass bad_helpers IsOther other_good reads value_taken (program l ds body) names program_suits fine;
}
  where
    at : (b : Bool) → is_declared (declared_at_top (program l ds body)) helpers_ ≡ b → b ≡ false
    at true e =
        let bad : bad_helpers Level.a_target helpers_ ≡ false = top_fine is_aimed aims_pass bad_helpers IsOther other_good l (many ds then (statements body then done)) fine names helpers_ (undeclared_is (declared_at_top (program l ds body)) helpers_ e) in
        absurd (let no : true ≡ false = sym (bytes_eq-self helpers_) ∙ bad in cc no)
    at false e = refl

pub leaves_helpers : (t : Tree) → has_form s-Program t ≡ true → AtNames IsOther reads t → all_nodes stands t ≡ true → LeavesHelpers t
leaves_helpers t form =
    let parts = program-parts t form in
    subst (λ (t : Tree). AtNames IsOther reads t → all_nodes stands t ≡ true → LeavesHelpers t) {x = program parts.label parts.directives parts.body} (sym parts.same) (leaves_program parts.label parts.directives parts.body)

-- THE ROWS AMONG THE RULES

pub walk_row : (n : Site) (s : Ledger) (x : Spot) (s' : Ledger) (y : Spot) → RestRow n s x s' y → RestWalkRow n s x s' y
walk_row n s x s' y (stores m l a c p e z b1 b2 b3 b4 b5 b6 b7) = stores m l a c p e z b1 b2 b3 b4 b5 b6 b7
walk_row n s x s' y (takes m l lp lr ls a ps c t xs b1 b2 b3 b4 b5 b6 b7 b8 b9) = takes m l lp lr ls a ps c t xs b1 b2 b3 b4 b5 b6 b7 tt b9
walk_row n s x s' y (nested m l lp lq ls a ps rs c k p v u z b1 b2 b3 b4 b5 b6 b7 b8 b9) = nested m l lp lq ls a ps rs c k p v u z b1 b2 b3 b4 b5 b6 b7 b8 b9

abbrev EachRow : Site → Ledger → Spot → Ledger → Spot → Type 0
EachRow = either_rule StoresRow (either_rule TakesRow NestsRow)

by_kind : (n : Site) (s : Ledger) (x : Spot) (s' : Ledger) (y : Spot) → RestRow n s x s' y → EachRow n s x s' y
by_kind n s x s' y (stores m l a c p e z b1 b2 b3 b4 b5 b6 b7) = inl (record { row = stores m l a c p e z b1 b2 b3 b4 b5 b6 b7; stored = refl })
by_kind n s x s' y (takes m l lp lr ls a ps c t xs b1 b2 b3 b4 b5 b6 b7 b8 b9) = inr (inl (record { row = takes m l lp lr ls a ps c t xs b1 b2 b3 b4 b5 b6 b7 b8 b9; taken = refl }))
by_kind n s x s' y (nested m l lp lq ls a ps rs c k p v u z b1 b2 b3 b4 b5 b6 b7 b8 b9) = inr (inr (record { row = nested m l lp lq ls a ps rs c k p v u z b1 b2 b3 b4 b5 b6 b7 b8 b9; nests = refl }))

among_form : (n : Site) (s : Ledger) (x : Spot) (s' : Ledger) (y : Spot) → OutsidePart n s x s' y → with_rests RestPart some_options n s x s' y
among_form n s x s' y (inl r) = inr (inl r.0)
among_form n s x s' y (inr r) = inr (inr r)

among_rules : (n : Site) (s : Ledger) (x : Spot) (s' : Ledger) (y : Spot) → OutsidePart n s x s' y → with_rests OutsidePart some_options n s x s' y
among_rules n s x s' y r = inr r

among_all : (n : Site) (s : Ledger) (x : Spot) (s' : Ledger) (y : Spot) → OutsidePart n s x s' y → AllRules some_options n s x s' y
among_all n s x s' y (inl r) = inr (inr (inr (inl (inr (inl r.0.0)))))
among_all n s x s' y (inr (inl r)) = inr (inr (inr (inl (inr (inr (inl r.0))))))
among_all n s x s' y (inr (inr r)) = inr (inr (inr (inl (inr (inr (inr r))))))

is_one : (t : Tree) → has_form s-Program t ≡ true → kind_of t ≡ Program
is_one (node k l fs) h = (form-placed (node k l fs) h).0

-- STEPS IN A ROW

module _ (p : Tree) (w : Whole) (form : has_form s-Program p ≡ true) (right : breaks p ≡ []) (bound : IsWellBound w p) (unbound : any_node is_bound_helper p ≡ false) (used : w.in_use helpers_ ≡ true) where
  -- what is known after some of them
  record Now (s : Ledger) (t : Open) : Type 0 where
    steps : Steps (Step RestRow the_program) (nothing_beside w) (opened p) s t
    beside : s ≡ nothing_beside (whole_in s)
    quiet : IsQuiet t
    runs : RunAlike by_global false p (finished t)
    declared : (z : Text) → is_declared (declared_at_top p) z ≡ true → is_declared (declared_at_top (finished t)) z ≡ true
    steady : (m : ℕ) → (whole_in s).steady m ≡ w.steady m
    sound : Sound w.steady reads (finished t)
    sources : K (whole_in s).made (finished t)

  -- so the program is what the rows ask for
  record There (s : Ledger) (t : Tree) : Type 0 where
    class : IsStatementProgram t
    bound_there : IsWellBound (whole_in s) t
    no_name : all_nodes excludes_no_name t ≡ true
    keeps : KeepsSources (whole_in s) t
    leaves : LeavesHelpers t
    apt : Apt t

  there : {s : Ledger} {t : Open} → Now s t → There s (finished t)
  there {s = s} {t = t} now =
      let led = subst (λ (z : Ledger). Steps (Step RestRow the_program) (nothing_beside w) (opened p) z t) now.beside now.steps in
      let parts = law_rest_parts_proof p w (whole_in s) t form bound unbound used (all_under RestRow RestWalkRow walk_row led) in
      let class : IsStatementProgram (finished t) = record {
        form = law_rest_form_proof some_options p w (whole_in s) t form (all_under OutsidePart (with_rests RestPart some_options) among_form parts);
        rules = law_rest_rules_proof some_options p w (whole_in s) t form right bound (all_under OutsidePart (with_rests OutsidePart some_options) among_rules parts);
        without_functions = sound_nodes w.steady is_statement_node (λ r k l fs h. h.0) reads (finished t) now.sound;
        names = sound_nodes w.steady names_no_cell (λ r k l fs h. h.1) reads (finished t) now.sound;
      } in
      let apt = program_apt (finished t) class in
      record {
        class = class;
        bound_there = law_steps_proof some_options p w (whole_in s) t (is_one p form) bound (all_under OutsidePart (AllRules some_options) among_all parts);
        no_name = sound_nodes w.steady excludes_no_name (λ r k l fs h. h.2) reads (finished t) now.sound;
        keeps = record { steady = λ m e. unwritten-of m reads (finished t) (sound_names w.steady (IsSparing m) (λ r l h. h.0 m (sym (now.steady m) ∙ e)) reads (finished t) now.sound); made = now.sources };
        leaves = leaves_helpers (finished t) class.form (sound_names w.steady IsOther (λ r l h. h.1) reads (finished t) now.sound) apt.0;
        apt = apt;
      }

  -- what one more makes of it
  record Alike (s s' : Ledger) (t u : Open) : Type 0 where
    runs : all_nodes excludes_no_name (finished u) ≡ true → RunAlike by_global false (finished t) (finished u)
    declared : (z : Text) → is_declared (declared_at_top (finished t)) z ≡ true → is_declared (declared_at_top (finished u)) z ≡ true

  alike : {s s' : Ledger} {t u : Open} → Now s t → Step RestRow the_program s t s' u → Alike s s' t u
  alike {s = s} {s' = s'} {t = t} {u = u} now step = told (step-either StoresRow (either_rule TakesRow NestsRow) (step_under RestRow EachRow by_kind step))
    where
      k : There s (finished t)
      k = there now

      silent : silent_names by_global (finished t) ≡ []
      silent = no_silent (finished t) k.no_name

      told : Step StoresRow the_program s t s' u ⊎ Step (either_rule TakesRow NestsRow) the_program s t s' u → Alike s s' t u
      told (inl r) = let a = stored_alike by_global s s' t u k.class k.bound_there.named r now.quiet silent in record { runs = λ h. a.runs (no_silent (finished u) h); declared = a.declared }
      told (inr r) = further (step-either TakesRow NestsRow r)
        where
          further : Step TakesRow the_program s t s' u ⊎ Step NestsRow the_program s t s' u → Alike s s' t u
          further (inl r) = let a = taken_alike s s' t u (finished t) refl k.class k.bound_there k.keeps k.leaves r now.quiet silent in record { runs = λ h. a.runs (no_silent (finished u) h); declared = a.declared }
          further (inr r) = let a = nested_alike by_global s s' t u (finished t) refl k.class k.bound_there k.keeps r now.quiet silent in record { runs = λ h. a.runs (no_silent (finished u) h); declared = a.declared }

  none_beside : (s : Ledger) → pending_in s ≡ nothing_pending → this_in s ≡ None → top_beside s ≡ no_additions → s ≡ nothing_beside (whole_in s)
  none_beside (ledger w p x a) e f g = λ i. ledger w (e i) (f i) (g i)

  onward : {s s' : Ledger} {t u : Open} → Now s t → Step RestRow the_program s t s' u → Now s' u
  onward {s = s} {s' = s'} {t = t} {u = u} now step =
      let k = there now in
      let a = alike now step in
      let left = step_changed RestRow Keeps keeps-rule step now.quiet in
      let makes = makes_of (whole_in s) (whole_in s') left.changed in
      let sound = sound_changed (Keeps (whole_in s) (whole_in s')) w.steady (λ a b h. h.redeclares) (λ a b h. h.sound w.steady) left.changed reads now.sound in
      record {
        steps = steps-trans now.steps (goes step stays);
        beside = none_beside s' (left.pending ∙ ap pending_in now.beside) (left.this ∙ ap this_in now.beside) (left.top ∙ ap top_beside now.beside);
        quiet = left.quiet;
        runs = law_then_proof by_global false p (finished t) (finished u) now.runs (a.runs (sound_nodes w.steady excludes_no_name (λ r k l fs h. h.2) reads (finished u) sound)) now.declared;
        declared = λ z e. a.declared z (now.declared z e);
        steady = λ m. makes.steady m ∙ now.steady m;
        sound = sound;
        sources = sources_changed (whole_in s) (whole_in s') makes left.changed reads k.bound_there.named k.apt now.sources;
      }

  in_row : {s s' : Ledger} {t u : Open} → Now s t → Steps (Step RestRow the_program) s t s' u → Now s' u
  in_row now stays = now
  in_row now (goes step rest) = in_row (onward now step) rest

  first : Sound w.steady reads p → K w.made p → Now (nothing_beside w) (opened p)
  first sound sources = record {
    steps = stays;
    beside = refl;
    quiet = opened_quiet p;
    runs = subst (λ (t : Tree). RunAlike by_global false p t) (sym (finished-opened p)) (λ n this moves assumed t ms inside. record { outcomes = refl; questions = refl; final_cells = λ y e i. refl });
    declared = λ z e. subst (λ (t : Tree). is_declared (declared_at_top t) z ≡ true) (sym (finished-opened p)) e;
    steady = λ m. refl;
    sound = subst (λ (t : Tree). Sound w.steady reads t) (sym (finished-opened p)) sound;
    sources = subst (λ (t : Tree). K w.made t) (sym (finished-opened p)) sources;
  }

  pub rows_run : Sound w.steady reads p → K w.made p → (s' : Ledger) (q : Open) → Steps (Step RestRow the_program) (nothing_beside w) (opened p) s' q → RunsTaken p (finished q)
  rows_run sound sources s' q steps =
      let now = in_row (first sound sources) steps in
      let k = there now in
      record { runs = now.runs; declared = now.declared; class = k.class; no_name = k.no_name; leaves = k.leaves }
